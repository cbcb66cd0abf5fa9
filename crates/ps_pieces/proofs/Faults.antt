-- What a step may fail by over one table, where nothing in it is large by itself.
use Rattle.std.proofs.Common.{◌≡◌, ◌≤◌, ℕ, [], ◌∷◌, List, length, refl, subst, ap, ◌∙◌, inl, inr, arith, lit≤}
use Rattle.std.specs.Prelude.{Contains}
use Rattle.ps_frame.specs.Aggregates.{max_rows}
use Rattle.ps_frame.specs.Eval.{eval}
use Rattle.ps_frame.specs.Functions.{Functions}
use Rattle.ps_frame.specs.Tables.{Frame, Table, whole}
use Rattle.ps_frame.specs.Trees.{Tree}
use Rattle.ps_frame.specs.declared.refusal.Bound.TheVariants as bound
use Rattle.ps_frame.specs.declared.refusal.Compute.TheVariants as compute
use Rattle.ps_frame.specs.declared.refusal.PolarsError.{PolarsError}
use Rattle.ps_frame.specs.declared.refusal.PolarsError.TheVariants as error
use Rattle.ps_frame.specs.declared.value.DataFault.{DataFault}
use Rattle.ps_meaning.specs.Cases.{cut_by}
use Rattle.ps_meaning.specs.Errors.{fault_error}
use Rattle.ps_meaning.specs.Meaning.{HasLargeColumn, IsLargeStep}
use Rattle.ps_meaning.specs.Nodes.{IsFaultAt, MayFault}
use Rattle.ps_meaning.specs.Steps.{Named, Step, exprs_of, filter, hstack, select, step_cut, user}
use Rattle.ps_pieces.specs.Computed.{Breaks, MayFail}
use Rattle.ps_pieces.proofs.ShortColumns.{eval-short}

-- no column of an expression over a table is large
none-large : (n : ℕ) (es : List Tree) (t : Frame) → length t.rows ≤ max_rows → ¬ HasLargeColumn n es (whole t)
none-large n es t few (e, p, ce, cp, large) = let short : length (eval n (whole t) p).cells ≤ max_rows = eval-short max_rows (lit≤ tt) n (whole t) few p in omega arith

module _ (F : Functions) (n : ℕ) (step : Step) (t : Frame) (uncut : (U : Table) → cut_by (step_cut step) U ≡ U) (small : ¬ IsLargeStep F n step (whole t ∷ [])) where
  breaks : (x : DataFault) → IsFaultAt F n step (t ∷ []) x → Breaks F n step t x
  breaks x (inl (U, inl (V, before, is), c)) = (V, before, inl (subst (λ (T : Table). Contains T.broken (record { fault = x; node = n })) (is ∙ uncut V) c))
  breaks x (inl (U, inr before, c)) = (U, before, inl c)
  breaks x (inr (rows, inl large)) = absurd (small large)
  breaks x (inr (rows, inr (U, before, many))) = (U, before, inr (many, rows))

  pub may-fail : (e : PolarsError) → MayFault F n step (t ∷ []) e → MayFail F n step t e
  may-fail e (inl memory) = inl memory
  may-fail e (inr (x, is, at)) = inr (x, is, breaks x at)

module _ (F : Functions) (n : ℕ) (t : Frame) (few : length t.rows ≤ max_rows) (e : PolarsError) where
  pub select-fails : (es : List Named) → MayFault F n (select es) (t ∷ []) e → MayFail F n (select es) t e
  select-fails es = may-fail F n (select es) t (λ U. refl) (none-large n (exprs_of es) t few) e

  pub hstack-fails : (es : List Named) → MayFault F n (hstack es) (t ∷ []) e → MayFail F n (hstack es) t e
  hstack-fails es = may-fail F n (hstack es) t (λ U. refl) (none-large n (exprs_of es) t few) e

  pub filter-fails : (p : Tree) → MayFault F n (filter p) (t ∷ []) e → MayFail F n (filter p) t e
  filter-fails p = may-fail F n (filter p) t (λ U. refl) (none-large n (p ∷ []) t few) e

-- A function that gives no answer makes a fault of its own, and never Rows.
module _ (F : Functions) (n k : ℕ) (t : Frame) where
  abbrev no_answer : PolarsError
  no_answer = error.ComputeError (record { 0 = n }) compute.Function

  pub user-fails : MayFault F n (user k) (t ∷ []) no_answer → MayFail F n (user k) t no_answer
  user-fails (inl memory) = inl memory
  user-fails (inr (x, is, inl (U, inl (V, before, same), c))) = inr (x, is, (V, before, inl (subst (λ (T : Table). Contains T.broken (record { fault = x; node = n })) same c)))
  user-fails (inr (x, is, inl (U, inr before, c))) = inr (x, is, (U, before, inl c))
  user-fails (inr (x, is, inr (rows, large))) = absurd (let other : no_answer ≡ error.OutOfBounds (record { 0 = n }) bound.Rows = is ∙ ap (fault_error n) rows in cc)
