-- Names that differ from all before them.
use Rattle.std.proofs.Common.{◌≡◌, ◌≢◌, ℕ, ◌+◌, ◌<◌, List, [], ◌∷◌, ◌++◌, length, take, get_or, refl, ap, sym, ◌∙◌, subst, arith, Bool, true, false, cond}
use Rattle.std.specs.Prelude.{◌||◌, AllPairs, Any, Contains}
use Rattle.std.specs.List.{list_any}
use Rattle.std.specs.Str.{bytes_eq}
use Rattle.std.proofs.lemmas.Bool.{false≢true}
use Rattle.std.proofs.lemmas.Grind.{take_at_read}
use Rattle.std.proofs.lemmas.List.{get_or-take, get_or_default, length-take-le}
use Rattle.std.proofs.lemmas.List.Elements.{Contains-get_or}
use Rattle.std.proofs.lemmas.List.Folds.{Any-from_list_any, list_any-from_Any}
use Rattle.std.proofs.lemmas.List.Quantifiers.{all_pairs_push}
use Rattle.std.proofs.lemmas.Slice.Eq.{bytes_eq-Decides}

abbrev Differ : List (List ℕ) → Type 0
Differ names = AllPairs (λ a b. a ≢ b) names

-- a name among those before it is one of them
pub among : (names : List (List ℕ)) (x : List ℕ) → list_any (λ m. bytes_eq m x) names ≡ true → Contains names x
among names x e = at (Any-from_list_any (λ m. bytes_eq m x) names e)
  where
    at : Any (λ m. bytes_eq m x ≡ true) names → Contains names x
    at (k, y, below, is, same) = (k, below, get_or_default names k x y below ∙ is ∙ (bytes_eq-Decides y x).0 same)

not-among : (names : List (List ℕ)) (x : List ℕ) → list_any (λ m. bytes_eq m x) names ≡ false → ¬ Contains names x
not-among names x e (k, below, is) = false≢true (sym e ∙ list_any-from_Any (λ m. bytes_eq m x) names (k, x, below, is, (bytes_eq-Decides x x).1 refl))

-- one more name that is none of those before
pub differ-more : (names : List (List ℕ)) (i : ℕ) (x : List ℕ) → i < length names → x ≡ get_or names i x → Differ (take i names) → list_any (λ m. bytes_eq m x) (take i names) ≡ false → Differ (take (i + 1) names)
differ-more names i x h is differ new =
    let t : take (i + 1) names ≡ take i names ++ x ∷ [] = (take_at_read names i x h).1 ∙ ap (λ y. take i names ++ y ∷ []) (sym is) in
    subst Differ (sym t)
    (all_pairs_push (λ a b. a ≢ b) (take i names) x differ (λ k d below e. not-among (take i names) x new (subst (Contains (take i names)) e (Contains-get_or (take i names) k d below))))

-- a name that stands before its place stands twice
pub stands-twice : (names : List (List ℕ)) (i : ℕ) (x : List ℕ) → i < length names → x ≡ get_or names i x → list_any (λ m. bytes_eq m x) (take i names) ≡ true → ¬ Differ names
stands-twice names i x h is e differ = at (among (take i names) x e)
  where
    at : Contains (take i names) x → ⊥
    at (k, below, there) =
        let n : length (take i names) ≡ i = length-take-le i names (omega arith) in
        let before : k < i = subst (λ m. k < m) n below in
        differ k i x before h (sym (get_or-take i names k x before) ∙ there ∙ is)

pub or-cond : (b x : Bool) → cond b true x ≡ (x || b)
or-cond true true = refl
or-cond true false = refl
or-cond false true = refl
or-cond false false = refl
