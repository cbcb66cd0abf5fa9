-- Signs are read in one way.
use Rattle.std.proofs.Common.{◌≡◌, ℕ, ◌<◌, ◌≤◌, ◌⊎◌, Bool, true, false, cond, ◌&&◌, eqb, Option, Some, None, List, [], ◌∷◌, ◌++◌, length, take, drop, get_or, IsUtf8, sym, refl, ap, ◌∙◌, subst, inl, inr, ⊎_elim, arith}
use Rattle.std.specs.Str.{IsCharBoundary}
use Rattle.std.specs.Prelude.{slice_get}
use Rattle.std.proofs.lemmas.Bool.{and_parts, cases_Bool, cond-true, cond-false, eqb-true}
use Rattle.std.proofs.lemmas.Str.{IsCharBoundary-after_ascii}
use Rattle.text_tokens.specs.Runs.{begins}
use Rattle.text_tokens.specs.SignBytes.{one_byte_sign, two_byte_sign}
use Rattle.text_tokens.specs.Tokens.{BeginsWith, sign_spelling, takes_equals, goes_on}
use Rattle.text_tokens.specs.declared.token.Sign as signs
use Rattle.text_tokens.specs.declared.token.Sign.TheVariants.{Bar, Comma, Is, Equal, NotEqual, AtMost, AtLeast, Below, Above, Plus, Minus, Times, Over, Modulo, Open, Close}
use Rattle.text_tokens.specs.declared.token.Token.TheVariants as tokens

abbrev pub or_else : Option signs.Sign → Option signs.Sign → Option signs.Sign
or_else None o = o
or_else (Some s) o = Some s

-- the sign at the front of a text
abbrev pub found_sign : List ℕ → Option signs.Sign
found_sign [] = None
found_sign (a ∷ []) = one_byte_sign a
found_sign (a ∷ b ∷ bs) = or_else (two_byte_sign a b) (one_byte_sign a)

neither : (t : Bool) → let none : Option signs.Sign = None in cond t none none ≡ none
neither true = refl
neither false = refl

found : (sign : signs.Sign) (after : List ℕ) → begins (goes_on (tokens.Sign sign)) after ≡ false → found_sign (sign_spelling sign ++ after) ≡ Some sign
found Bar [] ends = refl
found Bar (b ∷ bs) ends = ap (λ o. or_else o (Some Bar)) (neither (eqb b 61))
found Comma [] ends = refl
found Comma (b ∷ bs) ends = ap (λ o. or_else o (Some Comma)) (neither (eqb b 61))
found Is [] ends = refl
found Is (b ∷ bs) ends = ap (λ o. or_else o (Some Is)) (cond-false (eqb b 61) _ _ ends)
found Below [] ends = refl
found Below (b ∷ bs) ends = ap (λ o. or_else o (Some Below)) (cond-false (eqb b 61) _ _ ends)
found Above [] ends = refl
found Above (b ∷ bs) ends = ap (λ o. or_else o (Some Above)) (cond-false (eqb b 61) _ _ ends)
found Plus [] ends = refl
found Plus (b ∷ bs) ends = ap (λ o. or_else o (Some Plus)) (neither (eqb b 61))
found Minus [] ends = refl
found Minus (b ∷ bs) ends = ap (λ o. or_else o (Some Minus)) (neither (eqb b 61))
found Times [] ends = refl
found Times (b ∷ bs) ends = ap (λ o. or_else o (Some Times)) (neither (eqb b 61))
found Modulo [] ends = refl
found Modulo (b ∷ bs) ends = ap (λ o. or_else o (Some Modulo)) (neither (eqb b 61))
found Open [] ends = refl
found Open (b ∷ bs) ends = ap (λ o. or_else o (Some Open)) (neither (eqb b 61))
found Close [] ends = refl
found Close (b ∷ bs) ends = ap (λ o. or_else o (Some Close)) (neither (eqb b 61))
found Equal after ends = refl
found NotEqual after ends = refl
found AtMost after ends = refl
found AtLeast after ends = refl
found Over after ends = refl

-- the longest sign at the front is one
pub found_at : (text : List ℕ) (sign : signs.Sign) (after : List ℕ) → BeginsWith text (tokens.Sign sign) after → found_sign text ≡ Some sign
found_at text sign after h = ap found_sign h.text_is ∙ found sign after h.longest

chosen : (t : Bool) (x y z : Option signs.Sign) → cond t x y ≡ z → ((t ≡ true) × (x ≡ z)) ⊎ (y ≡ z)
chosen true x y z e = inl (refl, e)
chosen false x y z e = inr e

-- the bytes of the sign, which are ASCII
abbrev IsOne : ℕ → signs.Sign → Type 0
IsOne a sign = (sign_spelling sign ≡ a ∷ []) × (a < 128)

one_case : (a n : ℕ) (t sign : signs.Sign) → IsOne n t → (eqb a n ≡ true) × (Some t ≡ Some sign) → IsOne a sign
one_case a n t sign is h =
    let byte : n ≡ a = sym (eqb-true a n h.0) in
    let same : t ≡ sign = let e = h.1 in cc in
    subst (λ m. IsOne m sign) byte (subst (IsOne n) same is)

one_is : (a : ℕ) (sign : signs.Sign) → one_byte_sign a ≡ Some sign → IsOne a sign
one_is a sign = (λ e. ⊎_elim (one_case a 124 Bar sign (refl, omega arith)) (λ e. ⊎_elim (one_case a 44 Comma sign (refl, omega arith)) (λ e. ⊎_elim (one_case a 61 Is sign (refl, omega arith)) (λ e. ⊎_elim (one_case a 60 Below sign (refl, omega arith)) (λ e. ⊎_elim (one_case a 62 Above sign (refl, omega arith)) (λ e. ⊎_elim (one_case a 43 Plus sign (refl, omega arith)) (λ e. ⊎_elim (one_case a 45 Minus sign (refl, omega arith)) (λ e. ⊎_elim (one_case a 42 Times sign (refl, omega arith)) (λ e. ⊎_elim (one_case a 37 Modulo sign (refl, omega arith)) (λ e. ⊎_elim (one_case a 40 Open sign (refl, omega arith)) (λ e. ⊎_elim (one_case a 41 Close sign (refl, omega arith)) (λ e. absurd (let h : None ≡ Some sign = e in cc)) (chosen (eqb a 41) _ _ _ e)) (chosen (eqb a 40) _ _ _ e)) (chosen (eqb a 37) _ _ _ e)) (chosen (eqb a 42) _ _ _ e)) (chosen (eqb a 45) _ _ _ e)) (chosen (eqb a 43) _ _ _ e)) (chosen (eqb a 62) _ _ _ e)) (chosen (eqb a 60) _ _ _ e)) (chosen (eqb a 61) _ _ _ e)) (chosen (eqb a 44) _ _ _ e)) (chosen (eqb a 124) _ _ _ e))

-- the sign of a byte and a `=`
abbrev two_equals : ℕ → Option signs.Sign
two_equals a = cond (eqb a 61) (Some Equal) (cond (eqb a 33) (Some NotEqual) (cond (eqb a 60) (Some AtMost) (cond (eqb a 62) (Some AtLeast) None)))

abbrev IsTwo : ℕ → ℕ → signs.Sign → Type 0
IsTwo a b sign = (sign_spelling sign ≡ a ∷ b ∷ []) × (takes_equals sign ≡ false) × (b < 128)

two_case : (a b m n : ℕ) (t sign : signs.Sign) → IsTwo m n t → eqb b n ≡ true → (eqb a m ≡ true) × (Some t ≡ Some sign) → IsTwo a b sign
two_case a b m n t sign is at h =
    let first : m ≡ a = sym (eqb-true a m h.0) in
    let second : n ≡ b = sym (eqb-true b n at) in
    let same : t ≡ sign = let e = h.1 in cc in
    subst (λ k. IsTwo a k sign) second (subst (λ k. IsTwo k n sign) first (subst (IsTwo m n) same is))

two_equals_is : (a b : ℕ) (sign : signs.Sign) → eqb b 61 ≡ true → two_equals a ≡ Some sign → IsTwo a b sign
two_equals_is a b sign at e = ⊎_elim (two_case a b 61 61 Equal sign (refl, refl, omega arith) at) (λ e. ⊎_elim (two_case a b 33 61 NotEqual sign (refl, refl, omega arith) at) (λ e. ⊎_elim (two_case a b 60 61 AtMost sign (refl, refl, omega arith) at) (λ e. ⊎_elim (two_case a b 62 61 AtLeast sign (refl, refl, omega arith) at) (λ e. absurd (let h : None ≡ Some sign = e in cc)) (chosen (eqb a 62) _ _ _ e)) (chosen (eqb a 60) _ _ _ e)) (chosen (eqb a 33) _ _ _ e)) (chosen (eqb a 61) _ _ _ e)

two_is : (a b : ℕ) (sign : signs.Sign) → two_byte_sign a b ≡ Some sign → IsTwo a b sign
two_is a b sign e =
    ⊎_elim
    (λ h. two_equals_is a b sign h.0 h.1)
    (λ e. ⊎_elim
    (λ h. let both = and_parts (eqb a 47) (eqb b 47) h.0 in two_case a b 47 47 Over sign (refl, refl, omega arith) both.1 (both.0, h.1))
    (λ e. absurd (let h : None ≡ Some sign = e in cc))
    (chosen (eqb a 47 && eqb b 47) _ _ _ e))
    (chosen (eqb b 61) (two_equals a) _ _ e)

-- a sign of one byte that no second byte makes longer is as long as it can be
alone : (sign : signs.Sign) (a b : ℕ) → sign_spelling sign ≡ a ∷ [] → two_byte_sign a b ≡ None → begins (goes_on (tokens.Sign sign)) (b ∷ []) ≡ false
alone Bar a b is none = refl
alone Comma a b is none = refl
alone Is a b is none =
    let none_at : two_byte_sign 61 b ≡ None = let byte : a ≡ 61 = cc in subst (λ m. two_byte_sign m b ≡ None) byte none in
    ⊎_elim (λ h. absurd (let e : Some Equal ≡ None = sym (cond-true (eqb b 61) _ _ h) ∙ none_at in cc)) (λ h. h) (cases_Bool (eqb b 61))
alone Below a b is none =
    let none_at : two_byte_sign 60 b ≡ None = let byte : a ≡ 60 = cc in subst (λ m. two_byte_sign m b ≡ None) byte none in
    ⊎_elim (λ h. absurd (let e : Some AtMost ≡ None = sym (cond-true (eqb b 61) _ _ h) ∙ none_at in cc)) (λ h. h) (cases_Bool (eqb b 61))
alone Above a b is none =
    let none_at : two_byte_sign 62 b ≡ None = let byte : a ≡ 62 = cc in subst (λ m. two_byte_sign m b ≡ None) byte none in
    ⊎_elim (λ h. absurd (let e : Some AtLeast ≡ None = sym (cond-true (eqb b 61) _ _ h) ∙ none_at in cc)) (λ h. h) (cases_Bool (eqb b 61))
alone Plus a b is none = refl
alone Minus a b is none = refl
alone Times a b is none = refl
alone Modulo a b is none = refl
alone Open a b is none = refl
alone Close a b is none = refl
alone Equal a b is none = refl
alone NotEqual a b is none = refl
alone AtMost a b is none = refl
alone AtLeast a b is none = refl
alone Over a b is none = refl

no_equals : (sign : signs.Sign) (after : List ℕ) → takes_equals sign ≡ false → begins (goes_on (tokens.Sign sign)) after ≡ false
no_equals sign [] none = refl
no_equals sign (b ∷ bs) none = ap (λ t. cond t (eqb b 61) false) none

front : (text : List ℕ) → 1 ≤ length text → text ≡ get_or text 0 0 ∷ drop 1 text
front [] h = absurd (omega (arith, h))
front (a ∷ bs) h = refl

front_two : (text : List ℕ) → 2 ≤ length text → text ≡ get_or text 0 0 ∷ get_or text 1 0 ∷ drop 2 text
front_two [] h = absurd (omega (arith, h))
front_two (a ∷ []) h = absurd (omega (arith, h))
front_two (a ∷ b ∷ bs) h = refl

-- the sign of two bytes at the front
pub two_at_front : (text : List ℕ) (sign : signs.Sign) → 2 ≤ length text → two_byte_sign (get_or text 0 0) (get_or text 1 0) ≡ Some sign → BeginsWith text (tokens.Sign sign) (drop 2 text)
two_at_front text sign long e =
    let is = two_is (get_or text 0 0) (get_or text 1 0) sign e in
    record {
      text_is = front_two text long ∙ ap (λ s. s ++ drop 2 text) (sym is.0);
      is_token = tt;
      longest = no_equals sign (drop 2 text) is.1;
    }

pub two_boundary : (text : List ℕ) (sign : signs.Sign) → IsUtf8 text → 2 ≤ length text → two_byte_sign (get_or text 0 0) (get_or text 1 0) ≡ Some sign → IsCharBoundary text 2
two_boundary text sign utf8 long e = IsCharBoundary-after_ascii text 1 utf8 (omega arith) (two_is (get_or text 0 0) (get_or text 1 0) sign e).2

pub one_boundary : (text : List ℕ) (sign : signs.Sign) → IsUtf8 text → 1 ≤ length text → one_byte_sign (get_or text 0 0) ≡ Some sign → IsCharBoundary text 1
one_boundary text sign utf8 long e = IsCharBoundary-after_ascii text 0 utf8 (omega arith) (one_is (get_or text 0 0) sign e).1

-- the sign of one byte at the front, where no sign of two stands there
pub one_at_front : (text : List ℕ) (sign : signs.Sign) → 1 ≤ length text → (2 ≤ length text → two_byte_sign (get_or text 0 0) (get_or text 1 0) ≡ None) → one_byte_sign (get_or text 0 0) ≡ Some sign → BeginsWith text (tokens.Sign sign) (drop 1 text)
one_at_front [] sign long none e = absurd (omega (arith, long))
one_at_front (a ∷ []) sign long none e = record { text_is = ap (λ s. s ++ []) (sym (one_is a sign e).0); is_token = tt; longest = refl }
one_at_front (a ∷ b ∷ bs) sign long none e = record {
  text_is = ap (λ s. s ++ (b ∷ bs)) (sym (one_is a sign e).0);
  is_token = tt;
  longest = alone sign a b (one_is a sign e).0 (none (omega arith));
}

-- where no sign is found none stands
pub none_empty : (text : List ℕ) (sign : signs.Sign) (after : List ℕ) → length text ≡ 0 → ¬ BeginsWith text (tokens.Sign sign) after
none_empty [] sign after e h = let f = found_at [] sign after h in let g : None ≡ Some sign = f in cc
none_empty (a ∷ bs) sign after e h = absurd (omega (arith, e))

pub none_at_front : (text : List ℕ) (sign : signs.Sign) (after : List ℕ) → 1 ≤ length text → (2 ≤ length text → two_byte_sign (get_or text 0 0) (get_or text 1 0) ≡ None) → one_byte_sign (get_or text 0 0) ≡ None → ¬ BeginsWith text (tokens.Sign sign) after
none_at_front [] sign after long two one h = absurd (omega (arith, long))
none_at_front (a ∷ []) sign after long two one h = let g : one_byte_sign a ≡ Some sign = found_at (a ∷ []) sign after h in let e : None ≡ Some sign = sym one ∙ g in cc
none_at_front (a ∷ b ∷ bs) sign after long two one h =
    let g : or_else (two_byte_sign a b) (one_byte_sign a) ≡ Some sign = found_at (a ∷ b ∷ bs) sign after h in
    let e : None ≡ Some sign = (λ i. or_else (sym (two (omega arith)) i) (sym one i)) ∙ g in
    cc

-- the same, where the first byte is looked up
pub one_boundary_first : (text : List ℕ) (sign : signs.Sign) (b : ℕ) → IsUtf8 text → Some b ≡ slice_get text 0 → one_byte_sign b ≡ Some sign → IsCharBoundary text 1
one_boundary_first [] sign b utf8 first e = absurd (let h : Some b ≡ None = first in cc)
one_boundary_first (a ∷ bs) sign b utf8 first e =
    let same : b ≡ a = let h : Some b ≡ Some a = first in cc in
    one_boundary (a ∷ bs) sign utf8 (omega arith) (ap one_byte_sign (sym same) ∙ e)
