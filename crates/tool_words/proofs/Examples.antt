-- Words that are commands, and words that are none.
use Rattle.std.proofs.Common.{◌≡◌, ◌≢◌, inl, inr, ℕ, List, [], ◌∷◌, refl, sym, ◌∙◌, arith, Global, String}
use Rattle.std.specs.Prelude.{None, codes, map, string_bytes}
use Rattle.std.proofs.lemmas.List.Elements.{All-cons, All-nil}
use Rattle.std.proofs.lemmas.List.Kept.{AllPairs-cons}
use Rattle.tool_words.proofs.Giving.{not-named}
use Rattle.tool_words.proofs.OneMore.{not-serial}
use Rattle.tool_words.proofs.Reading.{AreRefused, refused-more, refused-twice, refused-value}
use Rattle.tool_words.specs.Words.{AreWords, IsAllowed, IsExplain, IsRun, IsText, Number, Serial, flag_of}
use Rattle.tool_words.specs.declared.settings.Kind.TheVariants.{Workers, Rows, Seed}

bare-run : (words : List (String Global)) → map string_bytes words ≡ codes "run" ∷ [] → IsRun words
bare-run words e = ([], record { words_are = e; allowed = All-nil IsAllowed; differ = λ i j d below there. absurd (omega arith) })

bare-text : (words : List (String Global)) → map string_bytes words ≡ codes "text" ∷ [] → IsText words
bare-text words e = ([], record { words_are = e; allowed = All-nil IsAllowed; differ = λ i j d below there. absurd (omega arith) })

bare-explain : (words : List (String Global)) → map string_bytes words ≡ codes "explain" ∷ [] → IsExplain words
bare-explain words e = ([], record { words_are = e; allowed = All-nil IsAllowed; differ = λ i j d below there. absurd (omega arith) })

serial-and-workers : (words : List (String Global)) → map string_bytes words ≡ codes "run" ∷ codes "--serial" ∷ codes "--workers" ∷ codes "0004" ∷ [] → IsRun words
serial-and-workers words e = (
  Serial ∷ Number Workers (codes "0004") ∷ [],
  record {
    words_are = e;
    allowed = All-cons IsAllowed Serial (Number Workers (codes "0004") ∷ []) tt (All-cons IsAllowed (Number Workers (codes "0004")) [] ((refl, (omega arith, omega arith)), (omega arith, omega arith)) (All-nil IsAllowed));
    differ = AllPairs-cons (λ s t. flag_of s ≢ flag_of t) Serial (Number Workers (codes "0004") ∷ [])
        (All-cons (λ t. flag_of Serial ≢ flag_of t) (Number Workers (codes "0004")) [] (λ same. not-serial Workers (sym same)) (All-nil (λ t. flag_of Serial ≢ flag_of t)))
        (λ i j d below there. absurd (omega arith));
  },
)

greatest-seed : (words : List (String Global)) → map string_bytes words ≡ codes "run" ∷ codes "--seed" ∷ codes "18446744073709551615" ∷ [] → IsRun words
greatest-seed words e = (
  Number Seed (codes "18446744073709551615") ∷ [],
  record {
    words_are = e;
    allowed = All-cons IsAllowed (Number Seed (codes "18446744073709551615")) [] ((refl, (omega arith, omega arith)), omega arith) (All-nil IsAllowed);
    differ = λ i j d below there. absurd (omega arith);
  },
)

none-of-run : (words : List (String Global)) (rest : List (List ℕ)) → map string_bytes words ≡ codes "run" ∷ rest → AreRefused [] rest → ¬ AreWords words
none-of-run words rest e refused (inl (inl (inl run))) = not-named (codes "run") words rest e refused run
none-of-run words rest e refused (inl (inl (inr explain))) = let f = sym e ∙ explain.1.words_are in cc
none-of-run words rest e refused (inl (inr text)) = let f = sym e ∙ text.1.words_are in cc
none-of-run words rest e refused (inr (inl help)) = let f : codes "run" ∷ rest ≡ codes "--help" ∷ [] = sym e ∙ help in cc
none-of-run words rest e refused (inr (inr version)) = let f : codes "run" ∷ rest ≡ codes "--version" ∷ [] = sym e ∙ version in cc

no-workers : (words : List (String Global)) → map string_bytes words ≡ codes "run" ∷ codes "--workers" ∷ codes "0" ∷ [] → ¬ AreWords words
no-workers words e = none-of-run words _ e (refused-value [] (Number Workers (codes "0")) _ [] refl (λ a. let h = a.1.0 in omega arith))

too-many-rows : (words : List (String Global)) → map string_bytes words ≡ codes "run" ∷ codes "--rows" ∷ codes "1048577" ∷ [] → ¬ AreWords words
too-many-rows words e = none-of-run words _ e (refused-value [] (Number Rows (codes "1048577")) _ [] refl (λ a. let h = a.1.1 in omega arith))

too-many-digits : (words : List (String Global)) → map string_bytes words ≡ codes "run" ∷ codes "--workers" ∷ codes "000000000000000000004" ∷ [] → ¬ AreWords words
too-many-digits words e = none-of-run words _ e (refused-value [] (Number Workers (codes "000000000000000000004")) _ [] refl (λ a. let h = a.0.1.1 in omega arith))

twice-serial : (words : List (String Global)) → map string_bytes words ≡ codes "run" ∷ codes "--serial" ∷ codes "--serial" ∷ [] → ¬ AreWords words
twice-serial words e = none-of-run words _ e (refused-more [] Serial _ (codes "--serial" ∷ []) refl None (refused-twice (Serial ∷ []) Serial _ [] refl Serial (0, omega arith, refl) refl))

trace : (words : List (String Global)) → map string_bytes words ≡ codes "trace" ∷ [] → ¬ AreWords words
trace words e (inl (inl (inl (settings, run)))) = let f = sym e ∙ run.words_are in cc
trace words e (inl (inl (inr (settings, explain)))) = let f = sym e ∙ explain.words_are in cc
trace words e (inl (inr (settings, text))) = let f = sym e ∙ text.words_are in cc
trace words e (inr (inl help)) = let f = sym e ∙ help in cc
trace words e (inr (inr version)) = let f = sym e ∙ version in cc
