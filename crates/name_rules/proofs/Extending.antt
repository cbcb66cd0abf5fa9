-- Nodes that were added, each of which is right over those before it.
use Rattle.std.proofs.Common.{◌≡◌, inl, inr, ℕ, ◌≤◌, [], ◌∷◌, ◌++◌, length, Some, refl, sym, ap, subst, ◌∙◌, arith, append_assoc, length-append}
use Rattle.std.specs.Prelude.{slice_get, ⊤}
use Rattle.std.proofs.lemmas.Bool.{cases_lt}
use Rattle.std.proofs.lemmas.List.{append-nil}
use Rattle.std.proofs.lemmas.Option.{same_Some, slice_get_within}
use Rattle.ps_meaning.specs.Shape.{PhysicalNode, Shape}
use Rattle.name_rules.proofs.Listing.{at_seam}

module _ (IsRight : Shape → PhysicalNode → Type 0) where
  abbrev pub AllRight : Shape → Shape → Type 0
  AllRight a [] = ⊤
  AllRight a (p ∷ ps) = IsRight a p × AllRight (a ++ p ∷ []) ps

  right_then : (a xs ys : Shape) → AllRight a xs → AllRight (a ++ xs) ys → AllRight a (xs ++ ys)
  right_then a [] ys p q = subst (λ n. AllRight n ys) (append-nil a) q
  right_then a (x ∷ xs) ys p q = (p.0, right_then (a ++ x ∷ []) xs ys p.1 (subst (λ n. AllRight n ys) (sym (append_assoc a (x ∷ []) xs)) q))

  pub record Extends (a b : Shape) : Type 0 where
    pub more : Shape
    pub nodes : b ≡ a ++ more
    pub right : AllRight a more

  pub extends_none : (a : Shape) → Extends a a
  extends_none a = record { more = []; nodes = sym (append-nil a); right = tt }

  pub extends_then : (a b c : Shape) → Extends a b → Extends b c → Extends a c
  extends_then a b c p q = record { more = p.more ++ q.more; nodes = q.nodes ∙ ap (λ n. n ++ q.more) p.nodes ∙ append_assoc a p.more q.more; right = right_then a p.more q.more p.right (subst (λ n. AllRight n q.more) p.nodes q.right) }

  pub extends_one : (a : Shape) (p : PhysicalNode) → IsRight a p → Extends a (a ++ p ∷ [])
  extends_one a p right = record { more = p ∷ []; nodes = refl; right = (right, tt) }

  -- the node of a number, over those before it
  pub record Found (nodes : Shape) (n : ℕ) (p : PhysicalNode) : Type 0 where
    pub before : Shape
    pub rest : Shape
    pub whole : nodes ≡ before ++ rest
    pub count : length before ≡ n
    pub right : IsRight before p

  new_right : (a more : Shape) (n : ℕ) (p : PhysicalNode) → AllRight a more → length a ≤ n → slice_get (a ++ more) n ≡ Some p → Found (a ++ more) n p
  new_right a [] n p all le e =
      let lt = slice_get_within (a ++ []) n p e in
      let l = length-append {A = PhysicalNode} a [] in
      absurd (omega arith)
  new_right a (x ∷ more) n p all le e =
      let l = length-append a (x ∷ []) in
      let w = append_assoc a (x ∷ []) more in
      elim (cases_lt (length a) n) [
        | inl lt ↦
            let f = new_right (a ++ x ∷ []) more n p all.1 (omega arith) (ap (λ nodes. slice_get nodes n) w ∙ e) in
            record { before = f.before; rest = f.rest; whole = sym w ∙ f.whole; count = f.count; right = f.right }
        | inr ge ↦
            let same : length a ≡ n = omega arith in
            let is : Some x ≡ Some p = sym (at_seam a x more) ∙ ap (slice_get (a ++ x ∷ more)) same ∙ e in
            record { before = a; rest = x ∷ more; whole = refl; count = same; right = subst (IsRight a) (same_Some x p is) all.0 }
      ]

  pub found : (a b : Shape) → Extends a b → (n : ℕ) (p : PhysicalNode) → length a ≤ n → slice_get b n ≡ Some p → Found b n p
  found a b h n p le e = subst (λ nodes. Found nodes n p) (sym h.nodes) (new_right a h.more n p h.right le (sym (ap (λ nodes. slice_get nodes n) h.nodes) ∙ e))
