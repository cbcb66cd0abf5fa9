-- The steps of reading settings: which settings words can be, whose first is known.
use Rattle.std.proofs.Common.{◌≡◌, ◌≢◌, ℕ, List, [], ◌∷◌, ◌++◌, length, refl, sym, ◌∙◌, ap, subst, Global, String}
use Rattle.std.specs.Prelude.{true, false, Option, Some, None, IsSome, IfSome, IfNone, Contains, codes, map, string_bytes}
use Rattle.std.specs.List.{flat_map}
use Rattle.std.specs.Str.{bytes_eq}
use Rattle.tool_words.proofs.OneMore.{allowed-among, begins-number, begins-otherwise, begins-serial, not-twice, one-more}
use Rattle.tool_words.specs.Told.{IsSet, IsTold, MayStand}
use Rattle.tool_words.specs.Words.{IsAllowed, Number, Serial, Setting, flag_of, flag_of_kind, words_of}
use Rattle.tool_words.specs.declared.settings.Kind.{Kind}
use Rattle.tool_words.specs.declared.settings.Told.{Told}

-- the words are those of no settings that may stand after the others
abbrev pub AreRefused : List Setting → List (List ℕ) → Type 0
AreRefused seen words = (more : List Setting) → words ≡ flat_map words_of more → ¬ MayStand (seen ++ more)

-- the words are those of settings, after which this is told
abbrev pub AreRead : List Setting → List (List ℕ) → Told → Type 0
AreRead seen words after = (more : List Setting) × (words ≡ flat_map words_of more) × IsTold after (seen ++ more)

pub if-none : {A : Type 0} {P : Type 0} (r : Option A) → P → IfNone r P
if-none None p = p
if-none (Some a) p = tt

none-from : {A P Q : Type 0} (r : Option A) → (P → Q) → IfNone r P → IfNone r Q
none-from None f p = f p
none-from (Some a) f p = tt

some-from : {A : Type 0} {P Q : A → Type 0} (r : Option A) → ((a : A) → P a → Q a) → IfSome r P → IfSome r Q
some-from None f p = tt
some-from (Some a) f p = f a p

-- the words of a setting and more

pub spelled-serial : (words rest : List (String Global)) (flag : String Global) → words ≡ flag ∷ rest → string_bytes flag ≡ codes "--serial" → map string_bytes words ≡ words_of Serial ++ map string_bytes rest
spelled-serial words rest flag e is = ap (map string_bytes) e ∙ ap (λ b. b ∷ map string_bytes rest) is

pub spelled-flag : (words rest : List (String Global)) (flag : String Global) (bytes : List ℕ) → words ≡ flag ∷ rest → bytes ≡ string_bytes flag → map string_bytes words ≡ bytes ∷ map string_bytes rest
spelled-flag words rest flag bytes e is = ap (map string_bytes) e ∙ ap (λ b. b ∷ map string_bytes rest) (sym is)

pub spelled-number : (words rest more : List (String Global)) (flag numeral : String Global) (kind : Kind) (bytes text : List ℕ) → words ≡ flag ∷ rest → rest ≡ numeral ∷ more → bytes ≡ string_bytes flag → bytes ≡ flag_of_kind kind
    → text ≡ string_bytes numeral → map string_bytes words ≡ words_of (Number kind text) ++ map string_bytes more
spelled-number words rest more flag numeral kind bytes text e f b is t =
    spelled-flag words rest flag bytes e b ∙ ap (λ (x : List ℕ). x ∷ map string_bytes rest) is ∙ ap (λ (xs : List (List ℕ)). flag_of_kind kind ∷ xs) (spelled-flag rest more numeral text f t)

pub begins : (s : Setting) (rest : List (List ℕ)) (more : List Setting) → words_of s ++ rest ≡ flat_map words_of more → (after : List Setting) × (more ≡ s ∷ after) × (rest ≡ flat_map words_of after)
begins Serial rest more e = begins-serial rest more e
begins (Number kind numeral) rest more e =
    let (other, after, is, left) = begins-number kind (numeral ∷ rest) more e in
    let same : numeral ≡ other = cc in
    (after, is ∙ ap (λ (n : List ℕ). Number kind n ∷ after) (sym same), cc)

module _ (seen : List Setting) (s : Setting) (words rest : List (List ℕ)) (are : words ≡ words_of s ++ rest) where
  pub read-more : (r : Option Told) → IfSome r (AreRead (seen ++ (s ∷ [])) rest) → IfSome r (AreRead seen words)
  read-more r h = some-from r (λ after (more, left, told). (s ∷ more, are ∙ ap (λ (x : List (List ℕ)). words_of s ++ x) left, subst (IsTold after) (sym (one-more seen s more)) told)) h

  pub refused-more : (r : Option Told) → IfNone r (AreRefused (seen ++ (s ∷ [])) rest) → IfNone r (AreRefused seen words)
  refused-more r h = none-from r (λ never more e m.
      let (after, is, left) = begins s rest more (sym are ∙ e) in
      never after left (subst MayStand (ap (λ (x : List Setting). seen ++ x) is ∙ one-more seen s after) m)) h

  pub refused-value : ¬ IsAllowed s → AreRefused seen words
  refused-value never more e m =
      let (after, is, left) = begins s rest more (sym are ∙ e) in
      never (allowed-among seen s after (subst (λ (x : List Setting). MayStand (seen ++ x)) is m))

  pub refused-twice : (t : Setting) → Contains seen t → flag_of t ≡ flag_of s → AreRefused seen words
  refused-twice t there same more e m =
      let (after, is, left) = begins s rest more (sym are ∙ e) in
      not-twice seen t s after there same (subst (λ (x : List Setting). MayStand (seen ++ x)) is m)

none-of : {A : Type 0} (xs : List A) → length xs ≡ 0 → xs ≡ []
none-of [] e = refl
none-of (x ∷ xs) e = absurd cc

pub refused-end : (seen : List Setting) (kind : Kind) (words : List (List ℕ)) (rest : List (String Global)) → words ≡ flag_of_kind kind ∷ map string_bytes rest → length rest ≡ 0 → AreRefused seen words
refused-end seen kind words rest are e more is m =
    let (numeral, after, same, left) = begins-number kind (map string_bytes rest) more (sym are ∙ is) in
    absurd (let f : [] ≡ numeral ∷ flat_map words_of after = sym (ap (map string_bytes) (none-of rest e)) ∙ left in cc)

pub refused-flag : (seen : List Setting) (flag : List ℕ) (words rest : List (List ℕ)) → words ≡ flag ∷ rest → flag ≢ codes "--serial" → ((kind : Kind) → flag ≢ flag_of_kind kind) → AreRefused seen words
refused-flag seen flag words rest are s k more e m = begins-otherwise flag rest more s k (sym are ∙ e)

-- a number that is told was set
pub was-set : (seen : List Setting) (kind : Kind) (o : Option ℕ) → IsSet seen kind o → IsSome o → (numeral : List ℕ) × Contains seen (Number kind numeral)
was-set seen kind None h some = absurd cc
was-set seen kind (Some n) (numeral, there, is) some = (numeral, there)

pub no-serial : (flag : List ℕ) → false ≡ bytes_eq flag (codes "--serial") → flag ≢ codes "--serial"
no-serial flag unlike is = let f : false ≡ true = unlike ∙ ap (λ (x : List ℕ). bytes_eq x (codes "--serial")) is in cc
