-- A zip of more rows than can be counted has an expression's column with as many.
use Rattle.std.proofs.Common.{ℕ, suc, ◌<◌, ◌≤◌, min, List, [], ◌∷◌, ◌++◌, length, Bool, true, false, refl, ◌∙◌, inl, inr, arith, lit≤}
use Rattle.std.specs.Prelude.{◌⊎◌, Contains, map, filter, fold, not, if◌then◌else◌}
use Rattle.std.proofs.lemmas.List.{length-map}
use Rattle.ps_frame.specs.Aggregates.{max_rows}
use Rattle.ps_frame.specs.Causes.{Column, value}
use Rattle.ps_frame.specs.Parts.{tree_parts}
use Rattle.ps_frame.specs.Tables.{Frame, Table, column_at, columns_of, values_at, whole}
use Rattle.ps_frame.specs.Trees.{Tree}
use Rattle.ps_frame.specs.Zip.{Extent, below, broadcasts, extent_of, extents, least_or, lengths_where, zip_length}
use Rattle.ps_meaning.specs.Cases.{columns_at}
use Rattle.ps_meaning.specs.Meaning.{HasLargeColumn}

fold-least : (n : ℕ) (ns : List ℕ) → fold min n ns ≤ n
fold-least n [] = omega arith
fold-least n (m ∷ ns) = let l = fold-least (min n m) ns in omega arith

-- some column has more than m cells
abbrev SomeLong : ℕ → List Column → Type 0
SomeLong m [] = ⊥
SomeLong m (c ∷ cs) = (m < length c.cells) ⊎ SomeLong m cs

some-long : (m : ℕ) (cs : List Column) → 1 ≤ m → m < zip_length false (extents cs) → SomeLong m cs
some-long m [] one h = absurd (omega arith)
some-long m (c ∷ cs) one h = by (not (broadcasts false (extent_of c))) h (some-long m cs one)
  where
    by : (b : Bool) → m < least_or 1 (map (λ (e : Extent). e.len) (if b then extent_of c ∷ filter (λ e. not (broadcasts false e)) (extents cs) else filter (λ e. not (broadcasts false e)) (extents cs)))
        → (m < zip_length false (extents cs) → SomeLong m cs) → SomeLong m (c ∷ cs)
    by true h rest = let l = fold-least (length c.cells) (lengths_where (λ e. not (broadcasts false e)) (extents cs)) in inl (omega arith)
    by false h rest = inr (rest h)

split : (m : ℕ) (cs ds : List Column) → SomeLong m (cs ++ ds) → SomeLong m cs ⊎ SomeLong m ds
split m [] ds h = inr h
split m (c ∷ cs) ds (inl h) = inl (inl h)
split m (c ∷ cs) ds (inr h) = elim (split m cs ds h) [ inl k ↦ inl (inr k) | inr k ↦ inr k ]

contains-next : {A : Type 0} (x y : A) (xs : List A) → Contains xs y → Contains (x ∷ xs) y
contains-next x y xs c = (suc c.0, (let l = c.1 in omega arith), c.2)

own-part : (e : Tree) → Contains (tree_parts e) e
own-part (Tree.column name) = (0, omega arith, refl)
own-part (Tree.literal l) = (0, omega arith, refl)
own-part (Tree.binary o l r) = (0, omega arith, refl)
own-part (Tree.cast k s e) = (0, omega arith, refl)
own-part (Tree.sort d n e) = (0, omega arith, refl)
own-part (Tree.sort_by d n e by) = (0, omega arith, refl)
own-part (Tree.gather s e i) = (0, omega arith, refl)
own-part (Tree.filter e by) = (0, omega arith, refl)
own-part (Tree.aggregate a e) = (0, omega arith, refl)
own-part (Tree.ternary p a b) = (0, omega arith, refl)
own-part (Tree.function g e) = (0, omega arith, refl)
own-part (Tree.slice e o l) = (0, omega arith, refl)
own-part Tree.len = (0, omega arith, refl)
own-part (Tree.left_out w) = (0, omega arith, refl)
own-part Tree.missing = (0, omega arith, refl)

module _ (at : ℕ) where
  of-exprs : (es : List Tree) (t : Table) → SomeLong max_rows (columns_at at es t) → HasLargeColumn at es t
  of-exprs [] t h = absurd h
  of-exprs (e ∷ es) t (inl h) = (e, e, (0, omega arith, refl), own-part e, h)
  of-exprs (e ∷ es) t (inr h) = let r = of-exprs es t h in (r.0, r.1, contains-next e r.0 es r.2, r.3, r.4)

  of-table : (f : Frame) → length f.rows ≤ max_rows → (is : List ℕ) → SomeLong max_rows (map (λ i. column_at i (whole f)) is) → ⊥
  of-table f small [] h = h
  of-table f small (i ∷ is) (inl h) = let l = length-map (values_at i f.rows) value ∙ length-map f.rows (λ row. Rattle.std.specs.Prelude.get_or row i Rattle.ps_frame.specs.declared.value.Value.TheVariants.Null) in omega arith
  of-table f small (i ∷ is) (inr h) = of-table f small is h

  pub large-exprs : (es : List Tree) (f : Frame) → max_rows < zip_length false (extents (columns_at at es (whole f))) → HasLargeColumn at es (whole f)
  large-exprs es f h = of-exprs es (whole f) (some-long max_rows (columns_at at es (whole f)) (lit≤ tt) h)

  pub large-keyed : (es : List Tree) (f : Frame) → length f.rows ≤ max_rows → max_rows < zip_length false (extents (columns_of (whole f) ++ columns_at at es (whole f))) → HasLargeColumn at es (whole f)
  large-keyed es f small h =
      elim (split max_rows (columns_of (whole f)) (columns_at at es (whole f)) (some-long max_rows (columns_of (whole f) ++ columns_at at es (whole f)) (lit≤ tt) h)) [
        | inl k ↦ absurd (of-table f small (below (length f.schema)) k)
        | inr k ↦ of-exprs es (whole f) k
      ]
