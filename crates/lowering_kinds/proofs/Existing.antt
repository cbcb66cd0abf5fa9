-- Nodes that have tables over any inputs have tables together.
use Rattle.std.proofs.Common.{◌≡◌, inl, inr, ℕ, zero, suc, ◌+◌, ◌<◌, List, [], ◌∷◌, ◌++◌, length, get_or, Some, refl, sym, subst, ◌∙◌, arith, length-append}
use Rattle.std.specs.Prelude.{None, map, slice_get}
use Rattle.std.specs.List.{AllByRecursion}
use Rattle.std.proofs.Math.Seq.{get_or-append_seam}
use Rattle.std.proofs.lemmas.List.{get_or_append_left}
use Rattle.std.proofs.lemmas.Option.{same_Some}
use Rattle.ps_frame.specs.Functions.{Functions}
use Rattle.ps_frame.specs.Tables.{Table}
use Rattle.ps_meaning.specs.Shape.{IsPhysicalChoice, PhysicalCase, PhysicalNode, Shape}
use Rattle.ps_rules.specs.Slots.{Stream}
use Rattle.ps_shares.specs.Kept.{IsOrdered}
use Rattle.ps_shares.proofs.Members.{Has, from_has}

module _ (F : Functions) (none : Table) where
  abbrev pub HasTable : PhysicalNode → Type 0
  HasTable p = (ts : List Table) → (T : Table) × PhysicalCase F p ts T

  abbrev read : List Table → List Stream → List Table
  read ts is = map (λ (i : Stream). get_or ts i.0 none) is

  -- a table for each node in order, over those before it
  pub made : (ts : List Table) (ps : Shape) → AllByRecursion HasTable ps → List Table
  made ts [] all = ts
  made ts (p ∷ ps) all = made (ts ++ (all.0 (read ts p.inputs)).0 ∷ []) ps all.1

  stands : (ts : List Table) (ps : Shape) (all : AllByRecursion HasTable ps) (n : ℕ) → n < length ts → get_or (made ts ps all) n none ≡ get_or ts n none
  unfolding made
  stands ts [] all n lt = refl
  stands ts (p ∷ ps) all n lt =
      let T = (all.0 (read ts p.inputs)).0 in
      let l = length-append ts (T ∷ []) in
      let lt' : n < length (ts ++ T ∷ []) = omega arith in
      stands (ts ++ T ∷ []) ps all.1 n lt' ∙ get_or_append_left ts (T ∷ []) none n lt

  read_stands : (ts : List Table) (ps : Shape) (all : AllByRecursion HasTable ps) (is : List Stream) → ((i : Stream) → Has is i → i.0 < length ts) → read ts is ≡ read (made ts ps all) is
  read_stands ts ps all [] f = refl
  read_stands ts ps all (i ∷ is) f =
      let p = stands ts ps all i.0 (f i (inl refl)) in
      let q = read_stands ts ps all is (λ j h. f j (inr h)) in
      λ k. sym p k ∷ q k

  each : (ts : List Table) (ps : Shape) (all : AllByRecursion HasTable ps) → ((k : ℕ) (p : PhysicalNode) (i : Stream) → slice_get ps k ≡ Some p → Has p.inputs i → i.0 < length ts + k)
      → (k : ℕ) (p : PhysicalNode) → slice_get ps k ≡ Some p → PhysicalCase F p (read (made ts ps all) p.inputs) (get_or (made ts ps all) (length ts + k) none)
  unfolding made
  each ts [] all ordered k p at = let w : None ≡ Some p = at in cc
  each ts (q ∷ ps) all ordered zero p at =
      let is : q ≡ p = same_Some q p at in
      let T = (all.0 (read ts q.inputs)).0 in
      let us = ts ++ T ∷ [] in
      let l = length-append ts (T ∷ []) in
      let lt : length ts < length us = omega arith in
      let here : get_or (made us ps all.1) (length ts) none ≡ T = stands us ps all.1 (length ts) lt ∙ get_or-append_seam ts T [] none in
      let before : read ts q.inputs ≡ read (made us ps all.1) q.inputs = read_stands ts (q ∷ ps) all q.inputs (λ i h. let o = ordered zero q i refl h in omega arith) in
      let n : length ts ≡ length ts + 0 = omega arith in
      subst (λ p. PhysicalCase F p (read (made us ps all.1) p.inputs) (get_or (made us ps all.1) (length ts + 0) none)) is
      (subst (λ n. PhysicalCase F q (read (made us ps all.1) q.inputs) (get_or (made us ps all.1) n none)) n
      (subst (PhysicalCase F q (read (made us ps all.1) q.inputs)) (sym here) (subst (λ ts. PhysicalCase F q ts T) before (all.0 (read ts q.inputs)).1)))
  each ts (q ∷ ps) all ordered (suc k) p at =
      let T = (all.0 (read ts q.inputs)).0 in
      let us = ts ++ T ∷ [] in
      let l = length-append ts (T ∷ []) in
      let n : length us + k ≡ length ts + suc k = omega arith in
      subst (λ n. PhysicalCase F p (read (made us ps all.1) p.inputs) (get_or (made us ps all.1) n none)) n (each us ps all.1 (λ j r i there h. let o = ordered (suc j) r i there h in omega arith) k p at)

  abbrev pub tables_of : (N : Shape) → AllByRecursion HasTable N → ℕ → Table
  tables_of N all n = get_or (made [] N all) n none

  pub are_choice : (N : Shape) (all : AllByRecursion HasTable N) → IsOrdered N → IsPhysicalChoice F N (tables_of N all)
  are_choice N all ordered n p at =
      let e : length {A = Table} [] + n ≡ n = omega arith in
      subst (λ m. PhysicalCase F p (read (made [] N all) p.inputs) (get_or (made [] N all) m none)) e (each [] N all (λ k q i there h. let o = ordered k q i there (from_has q.inputs i h) in omega arith) n p at)
