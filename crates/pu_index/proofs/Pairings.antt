-- One more pair of items from two iterators, and one more call.
use Rattle.std.proofs.Common.{◌≡◌, List, [], ◌∷◌, ◌++◌, map, Option, Some, refl, sym, ap, subst, ◌∙◌}
use Rattle.std.specs.List.{FoldsTo}
use Rattle.std.specs.Iterator.{Yields}
use Rattle.std.proofs.lemmas.List.{map-append}

pub Yields-push : {S A : Type 0} (steps : S → Option A → S → Type 0) (s : S) (xs : List A) (t : S) (x : A) (u : S) → Yields steps s xs t → steps t (Some x) u → Yields steps s (xs ++ x ∷ []) u
Yields-push steps s [] t x u y h = (u, subst (λ r. steps r (Some x) u) (sym y) h, refl)
Yields-push steps s (z ∷ xs) t x u y h = (y.0, y.1, Yields-push steps y.0 xs t x u y.2 h)

pub FoldsTo-push : {P A : Type 0} (R : P → A → P → Type 0) (p : P) (xs : List A) (q : P) (x : A) (r : P) → FoldsTo R p xs q → R q x r → FoldsTo R p (xs ++ x ∷ []) r
FoldsTo-push R p [] q x r y h = (r, subst (λ k. R k x r) (sym y) h, refl)
FoldsTo-push R p (z ∷ xs) q x r y h = (y.0, y.1, FoldsTo-push R y.0 xs q x r y.2 h)

module _ {T A B F R : Type 0} (others : T → Option B → T → Type 0) (call : F → A → B → R → F → Type 0) (r : R) (it : T) (f : F) where
  -- the items xs of one iterator, each with one of the other's from it to v, at which the calls from f to g answered r
  abbrev pub Paired : List A → T → F → Type 0
  Paired xs v g = (pairs : List (A × B)) × (xs ≡ map (λ q. q.0) pairs) × Yields others it (map (λ q. q.1) pairs) v × FoldsTo (λ h q k. call h q.0 q.1 r k) f pairs g

  pub Paired-none : Paired [] it f
  Paired-none = ([], refl, refl, refl)

  pub Paired-push : (xs : List A) (v : T) (g : F) (a : A) (b : B) (w : T) (h : F) → Paired xs v g → others v (Some b) w → call g a b r h → Paired (xs ++ a ∷ []) w h
  Paired-push xs v g a b w h p step answered = (
    p.0 ++ (a, b) ∷ [],
    ap (λ ys. ys ++ a ∷ []) p.1 ∙ sym (map-append (λ q. q.0) p.0 ((a, b) ∷ [])),
    subst (λ ys. Yields others it ys w) (sym (map-append (λ q. q.1) p.0 ((a, b) ∷ []))) (Yields-push others it (map (λ q. q.1) p.0) v b w p.2 step),
    FoldsTo-push (λ h q k. call h q.0 q.1 r k) f p.0 g (a, b) h p.3 answered,
  )
