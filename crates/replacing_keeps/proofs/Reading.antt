-- An elementwise expression that reads a table shows what ended it.
use Rattle.std.proofs.Common.{◌≡◌, ◌⊎◌, inl, inr, ℕ, Bool, true, false, cond, ◌&&◌, ◌||◌, List, [], ◌∷◌, refl, sym, ap, subst, ◌∙◌}
use Rattle.std.specs.Prelude.{flat_map, not}
use Rattle.std.specs.List.{list_any}
use Rattle.ps_frame.proofs.Lists.{both}
use Rattle.ps_frame.specs.Causes.{Cause, Column, cell_causes, column_causes, is_empty, is_ended}
use Rattle.ps_frame.specs.Eval.{eval}
use Rattle.ps_frame.specs.Tables.{Table}
use Rattle.ps_frame.specs.Trees.{Tree}
use Rattle.ps_frame.specs.Typing.{goes_by_cell, is_elementwise, is_independent}
use Rattle.ps_frame.specs.Zip.{aligned, breaks_shape, ends_early, extents, zip_causes}
use Rattle.ps_frame.specs.declared.expr.FunctionExpr.{FunctionExpr}
use Rattle.ps_frame.specs.declared.expr.FunctionExpr.TheVariants as fun
use Rattle.ps_frame.specs.declared.value.DataFault.TheVariants as data_fault
use Rattle.ps_shares.proofs.Ends.{has_first}
use Rattle.ps_shares.proofs.Members.{Has}
use Rattle.ps_bundles.proofs.Gathered.{has_last}
use Rattle.picked_zips.proofs.Members.{has_flat}

some_ends : (cs : List Cause) (c : Cause) → Has cs c → not (is_empty cs) ≡ true
some_ends [] c h = absurd h
some_ends (x ∷ cs) c h = refl

any_ends : (cs : List Column) (x : Column) → Has cs x → is_ended x ≡ true → list_any is_ended cs ≡ true
any_ends [] x h e = absurd h
any_ends (y ∷ cs) x (inl q) e = ap (λ (b : Bool). b || list_any is_ended cs) (ap is_ended q ∙ e)
any_ends (y ∷ cs) x (inr h) e = last (is_ended y) (list_any is_ended cs) (any_ends cs x h e)
  where
    last : (a b : Bool) → b ≡ true → (a || b) ≡ true
    last true b q = refl
    last false b q = q

either_false : (a b : Bool) → (a && b) ≡ false → (a ≡ false) ⊎ (b ≡ false)
either_false true b q = inr q
either_false false b q = inl refl

module _ (at : ℕ) (z : Table) (c : Cause) (h : Has z.broken c) where
  -- what ended one of the operands ends an operator that goes by cell
  by_operand : (cs : List Column) (x : Column) → Has cs x → Has x.broken c → Has (aligned false at cs).broken c
  by_operand cs x inside k =
      let early : ends_early false cs ≡ true = ap (λ (b : Bool). b || breaks_shape false (extents cs)) (any_ends cs x inside (some_ends x.broken c k)) in
      let all : Has (zip_causes false at cs) c = has_first (flat_map column_causes cs) (cond {A = List Cause} (breaks_shape false (extents cs)) (record { fault = data_fault.Shape; node = at } ∷ []) []) c (has_flat column_causes cs x c inside (has_last (flat_map cell_causes x.cells) x.broken c k)) in
      subst (λ (b : Bool). Has (cond {A = List Cause} b (zip_causes false at cs) []) c) (sym early) all

  abbrev Shows : Tree → Type 0
  Shows e = is_independent e ≡ false → Has (eval at z e).broken c

  function_shows : (g : FunctionExpr) (e : Tree) → goes_by_cell g ≡ true → Shows e → Shows (Tree.function g e)
  function_shows fun.Not e q k r = by_operand (eval at z e ∷ []) (eval at z e) (inl refl) (k r)
  function_shows fun.IsNull e q k r = by_operand (eval at z e ∷ []) (eval at z e) (inl refl) (k r)
  function_shows fun.IsNotNull e q k r = by_operand (eval at z e ∷ []) (eval at z e) (inl refl) (k r)
  function_shows fun.Reverse e q k r = cc

  pub reads_show : (e : Tree) → is_elementwise e ≡ true → Shows e
  reads_show (Tree.column name) q r = h
  reads_show (Tree.literal l) q r = cc
  reads_show (Tree.binary o l m) q r =
      let p = both (is_elementwise l) (is_elementwise m) q in
      elim (either_false (is_independent l) (is_independent m) r) [
        | inl k ↦ by_operand (eval at z l ∷ eval at z m ∷ []) (eval at z l) (inl refl) (reads_show l p.0 k)
        | inr k ↦ by_operand (eval at z l ∷ eval at z m ∷ []) (eval at z m) (inr (inl refl)) (reads_show m p.1 k)
      ]
  reads_show (Tree.cast k strict e) q r = by_operand (eval at z e ∷ []) (eval at z e) (inl refl) (reads_show e q r)
  reads_show (Tree.ternary p a b) q r =
      let i = both (is_elementwise p) (is_elementwise a && is_elementwise b) q in
      let j = both (is_elementwise a) (is_elementwise b) i.1 in
      let cs : List Column = eval at z p ∷ eval at z a ∷ eval at z b ∷ [] in
      elim (either_false (is_independent p) (is_independent a && is_independent b) r) [
        | inl k ↦ by_operand cs (eval at z p) (inl refl) (reads_show p i.0 k)
        | inr k ↦
            elim (either_false (is_independent a) (is_independent b) k) [
              | inl k ↦ by_operand cs (eval at z a) (inr (inl refl)) (reads_show a j.0 k)
              | inr k ↦ by_operand cs (eval at z b) (inr (inr (inl refl))) (reads_show b j.1 k)
            ]
      ]
  reads_show (Tree.function g e) q r = let p = both (goes_by_cell g) (is_elementwise e) q in function_shows g e p.0 (reads_show e p.1) r
  reads_show (Tree.sort d n e) q r = cc
  reads_show (Tree.sort_by d n e by) q r = cc
  reads_show (Tree.gather g e i) q r = cc
  reads_show (Tree.filter e by) q r = cc
  reads_show (Tree.aggregate a e) q r = cc
  reads_show (Tree.slice e o l) q r = cc
  reads_show Tree.len q r = cc
  reads_show (Tree.left_out w) q r = cc
  reads_show Tree.missing q r = cc
