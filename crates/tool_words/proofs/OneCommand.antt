-- Words are one command at most.
use Rattle.std.proofs.Common.{◌≡◌, ◌≢◌, ◌⊎◌, ◌↔◌, inl, inr, ℕ, ◌<◌, List, [], ◌∷◌, length, get_or, refl, sym, ◌∙◌, ap, subst, arith, Global, String}
use Rattle.std.specs.Prelude.{Bool, true, false, Option, Some, None, IsTrue, IfSome, IfNone, AllPairs, Contains, codes, map, string_bytes}
use Rattle.std.specs.List.{flat_map}
use Rattle.ps_options.specs.declared.options.Options.{Options}
use Rattle.ps_options.proofs.SameOptions.{same-options}
use Rattle.std.proofs.lemmas.Bool.{cases_order}
use Rattle.std.proofs.lemmas.List.{get_or_default}
use Rattle.tool_words.proofs.Giving.{same-rest}
use Rattle.tool_words.proofs.OneMore.{none-left}
use Rattle.tool_words.proofs.Reading.{begins}
use Rattle.tool_words.specs.Words.{AreWords, Give, IsCommand, IsExplain, IsHelp, IsNamedCommand, IsRun, IsSetOrDefault, IsText, IsVersion, Number, Serial, Setting, flag_of, number_of, words_of}
use Rattle.tool_words.specs.declared.command.Command.{Command}
use Rattle.tool_words.specs.declared.command.Command.TheVariants.{Run, Text, Explain, Help, Version}
use Rattle.tool_words.specs.declared.settings.Kind.{Kind}
use Rattle.tool_words.specs.declared.settings.Kind.TheVariants.{Workers, Rows, Partitions, Seed}

-- words are those of one list of settings
same-settings : (s t : List Setting) → flat_map words_of s ≡ flat_map words_of t → s ≡ t
same-settings [] t e = sym (none-left t e)
same-settings (a ∷ s) t e =
    let (after, is, left) = begins a (flat_map words_of s) t e in
    ap (λ (x : List Setting). a ∷ x) (same-settings s after left) ∙ sym is

module _ (settings : List Setting) (differ : AllPairs (λ s t. flag_of s ≢ flag_of t) settings) where
  one-of-a-flag : (s t : Setting) → flag_of s ≡ flag_of t → Contains settings s → Contains settings t → s ≡ t
  one-of-a-flag s t same (i, i-in, at-i) (j, j-in, at-j) = by (cases_order i j)
    where
      by : (i ≡ j) ⊎ ((i < j) ⊎ (j < i)) → s ≡ t
      by (inr (inl before)) = absurd (differ i j s before j-in (ap flag_of at-i ∙ same ∙ sym (ap flag_of (get_or_default settings j s t j-in ∙ at-j))))
      by (inl e) = sym at-i ∙ get_or_default settings i s t i-in ∙ ap (λ k. get_or settings k t) e ∙ at-j
      by (inr (inr after)) = absurd (differ j i t after i-in (ap flag_of at-j ∙ sym same ∙ sym (ap flag_of (get_or_default settings i t s i-in ∙ at-i))))

  one-number : (kind : Kind) (default m n : ℕ) → IsSetOrDefault settings kind default m → IsSetOrDefault settings kind default n → m ≡ n
  one-number kind default m n (inl (x, there, is)) (inl (y, here, e)) =
      let f : Number kind x ≡ Number kind y = one-of-a-flag (Number kind x) (Number kind y) refl there here in
      let same : x ≡ y = cc in
      is ∙ ap number_of same ∙ sym e
  one-number kind default m n (inl (x, there, is)) (inr (none, e)) = absurd (none x there)
  one-number kind default m n (inr (none, is)) (inl (y, here, e)) = absurd (none y here)
  one-number kind default m n (inr (none, is)) (inr (none', e)) = is ∙ sym e

  one-choice : (a b : Bool) → (IsTrue a ↔ Contains settings Serial) → (IsTrue b ↔ Contains settings Serial) → a ≡ b
  one-choice true true f g = refl
  one-choice false false f g = refl
  one-choice true false f g = sym (g.1 (f.0 refl))
  one-choice false true f g = f.1 (g.0 refl)

  one-choice-of-options : {A : Type 0} (make : Options → Bool → A) (o p : Options) (a b : Bool) → Give settings o a → Give settings p b → make o a ≡ make p b
  one-choice-of-options make o p a b f g =
      let w = one-number Workers 4 o.workers p.workers f.workers g.workers in
      let r = one-number Rows 100000 o.morsel_rows p.morsel_rows f.rows g.rows in
      let q = one-number Partitions 16 o.partitions p.partitions f.partitions g.partitions in
      let s = one-number Seed 0 o.seed p.seed f.seed g.seed in
      let c = one-choice a b f.serial_is g.serial_is in
      λ i. make (same-options o p w r q s i) (c i)

-- words of one name give one command
one-named : {A : Type 0} (make : Options → Bool → A) (name : List ℕ) (words : List (String Global)) (o p : Options) (a b : Bool) → IsNamedCommand name words o a → IsNamedCommand name words p b → make o a ≡ make p b
one-named make name words o p a b (s, f, give) (t, g, gives) =
    let same : s ≡ t = same-settings s t (same-rest name (map string_bytes words) (flat_map words_of s) (flat_map words_of t) f.words_are g.words_are) in
    one-choice-of-options s f.differ make o p a b give (subst (λ (x : List Setting). Give x p b) (sym same) gives)

pub not-text : (words : List (String Global)) → IsRun words → ¬ IsText words
not-text words (s, run) (t, text) = let f : codes "run" ∷ flat_map words_of s ≡ codes "text" ∷ flat_map words_of t = sym run.words_are ∙ text.words_are in cc

pub not-explain : (words : List (String Global)) → IsRun words → ¬ IsExplain words
not-explain words (s, run) (t, explain) = let f : codes "run" ∷ flat_map words_of s ≡ codes "explain" ∷ flat_map words_of t = sym run.words_are ∙ explain.words_are in cc

pub text-not-explain : (words : List (String Global)) → IsText words → ¬ IsExplain words
text-not-explain words (s, text) (t, explain) = let f : codes "text" ∷ flat_map words_of s ≡ codes "explain" ∷ flat_map words_of t = sym text.words_are ∙ explain.words_are in cc

pub explain-not-help : (words : List (String Global)) → IsExplain words → ¬ IsHelp words
explain-not-help words (settings, explain) h = let f : codes "explain" ∷ flat_map words_of settings ≡ codes "--help" ∷ [] = sym explain.words_are ∙ h in cc

pub explain-not-version : (words : List (String Global)) → IsExplain words → ¬ IsVersion words
explain-not-version words (settings, explain) v = let f : codes "explain" ∷ flat_map words_of settings ≡ codes "--version" ∷ [] = sym explain.words_are ∙ v in cc

pub not-help : (words : List (String Global)) → IsRun words → ¬ IsHelp words
not-help words (settings, run) h = let f : codes "run" ∷ flat_map words_of settings ≡ codes "--help" ∷ [] = sym run.words_are ∙ h in cc

pub not-version : (words : List (String Global)) → IsRun words → ¬ IsVersion words
not-version words (settings, run) v = let f : codes "run" ∷ flat_map words_of settings ≡ codes "--version" ∷ [] = sym run.words_are ∙ v in cc

pub text-not-help : (words : List (String Global)) → IsText words → ¬ IsHelp words
text-not-help words (settings, text) h = let f : codes "text" ∷ flat_map words_of settings ≡ codes "--help" ∷ [] = sym text.words_are ∙ h in cc

pub text-not-version : (words : List (String Global)) → IsText words → ¬ IsVersion words
text-not-version words (settings, text) v = let f : codes "text" ∷ flat_map words_of settings ≡ codes "--version" ∷ [] = sym text.words_are ∙ v in cc

pub help-not-version : (words : List (String Global)) → IsHelp words → ¬ IsVersion words
help-not-version words h v = let f : codes "--help" ∷ [] ≡ codes "--version" ∷ [] = sym h ∙ v in
    let g : codes "--help" ≡ codes "--version" = cc in
    let l : 6 ≡ 9 = ap length g in omega (arith, l)

-- words that are a command are words
pub a-command : (words : List (String Global)) (c : Command) → IsCommand words c → AreWords words
a-command words (Run o b) (s, f, give) = inl (inl (inl (s, f)))
a-command words (Text o b) (s, f, give) = inl (inr (s, f))
a-command words Explain e = inl (inl (inr e))
a-command words Help h = inr (inl h)
a-command words Version v = inr (inr v)

pub one-command : (words : List (String Global)) (c d : Command) → IsCommand words c → IsCommand words d → c ≡ d
one-command words Help Help h g = refl
one-command words Version Version h g = refl
one-command words (Run o a) (Run p b) f g = one-named Run (codes "run") words o p a b f g
one-command words (Text o a) (Text p b) f g = one-named Text (codes "text") words o p a b f g
one-command words (Run o a) (Text p b) (s, f, give) (t, g, gives) = absurd (not-text words (s, f) (t, g))
one-command words (Text p b) (Run o a) (t, g, gives) (s, f, give) = absurd (not-text words (s, f) (t, g))
one-command words (Run o a) Help (s, f, give) g = absurd (not-help words (s, f) g)
one-command words (Run o a) Version (s, f, give) g = absurd (not-version words (s, f) g)
one-command words Explain Explain f g = refl
one-command words Explain (Run o a) g (s, f, give) = absurd (not-explain words (s, f) g)
one-command words (Run o a) Explain (s, f, give) g = absurd (not-explain words (s, f) g)
one-command words Explain (Text o a) g (s, f, give) = absurd (text-not-explain words (s, f) g)
one-command words (Text o a) Explain (s, f, give) g = absurd (text-not-explain words (s, f) g)
one-command words Explain Help f g = absurd (explain-not-help words f g)
one-command words Help Explain g f = absurd (explain-not-help words f g)
one-command words Explain Version f g = absurd (explain-not-version words f g)
one-command words Version Explain g f = absurd (explain-not-version words f g)
one-command words Help (Run o a) g (s, f, give) = absurd (not-help words (s, f) g)
one-command words Version (Run o a) g (s, f, give) = absurd (not-version words (s, f) g)
one-command words (Text o a) Help (s, f, give) g = absurd (text-not-help words (s, f) g)
one-command words (Text o a) Version (s, f, give) g = absurd (text-not-version words (s, f) g)
one-command words Help (Text o a) g (s, f, give) = absurd (text-not-help words (s, f) g)
one-command words Version (Text o a) g (s, f, give) = absurd (text-not-version words (s, f) g)
one-command words Help Version h g = absurd (help-not-version words h g)
one-command words Version Help h g = absurd (help-not-version words g h)

-- an answer that is a command of the words, and is none only where they are none, is the command that they are
pub only_from : (words : List (String Global)) (r : Option Command) → IfSome r (λ c. IsCommand words c) → IfNone r (¬ AreWords words) → (c : Command) → IsCommand words c → r ≡ Some c
only_from words None some none c is = absurd (none (a-command words c is))
only_from words (Some d) some none c is = ap (λ (x : Command). Some x) (one-command words d c some is)

pub run_from : (words : List (String Global)) (r : Option Command) → IfSome r (λ c. IsCommand words c) → IfNone r (¬ AreWords words) → IsRun words → (options : Options) × (serial : Bool) × (r ≡ Some (Run options serial))
run_from words None some none run = absurd (none (inl (inl (inl run))))
run_from words (Some (Run o b)) some none run = (o, b, refl)
run_from words (Some (Text o b)) (s, f, give) none run = absurd (not-text words run (s, f))
run_from words (Some Explain) some none run = absurd (not-explain words run some)
run_from words (Some Help) some none run = absurd (not-help words run some)
run_from words (Some Version) some none run = absurd (not-version words run some)

pub text_from : (words : List (String Global)) (r : Option Command) → IfSome r (λ c. IsCommand words c) → IfNone r (¬ AreWords words) → IsText words → (options : Options) × (serial : Bool) × (r ≡ Some (Text options serial))
text_from words None some none text = absurd (none (inl (inr text)))
text_from words (Some (Run o b)) (s, f, give) none text = absurd (not-text words (s, f) text)
text_from words (Some (Text o b)) some none text = (o, b, refl)
text_from words (Some Explain) some none text = absurd (text-not-explain words text some)
text_from words (Some Help) some none text = absurd (text-not-help words text some)
text_from words (Some Version) some none text = absurd (text-not-version words text some)

pub explain_from : (words : List (String Global)) (r : Option Command) → IfSome r (λ c. IsCommand words c) → IfNone r (¬ AreWords words) → IsExplain words → r ≡ Some Explain
explain_from words None some none explain = absurd (none (inl (inl (inr explain))))
explain_from words (Some Explain) some none explain = refl
explain_from words (Some (Run o b)) (s, f, give) none explain = absurd (not-explain words (s, f) explain)
explain_from words (Some (Text o b)) (s, f, give) none explain = absurd (text-not-explain words (s, f) explain)
explain_from words (Some Help) some none explain = absurd (explain-not-help words explain some)
explain_from words (Some Version) some none explain = absurd (explain-not-version words explain some)
