-- An input's column in rows.
use Rattle.std.proofs.Common.{◌≡◌, ℕ, ◌≤◌, refl, subst, sym, ◌∙◌, ap}
use Rattle.std.specs.Prelude.{Result, Ok, Err, Some, None}
use Rattle.ps_expr_eval.specs.Held.{Settles, cells_of, first_bad, first_fault, or_else, values_of}
use Rattle.ps_expr_eval.specs.declared.computed.ComputedColumn.{ComputedColumn}
use Rattle.ps_expr_eval.specs.declared.computed.Values.{Values}
use Rattle.ps_frame.specs.Frames.{broadcast_to}
use Rattle.ps_frame.specs.Series.{Series}
use Rattle.ps_frame.specs.declared.value.Cell.TheVariants as held
use Rattle.ps_frame.specs.declared.value.DataFault.{DataFault}
use Rattle.std.specs.Prelude.{map}
use Rattle.ps_zip.proofs.Standing.{clean, fault-stands, values-stand}
use Rattle.ps_zip.specs.Inputs.{CanStand, HasFaultAt, IsColumnAt}
use Rattle.ps_zip.specs.declared.inputs.Input.{Input}
use Rattle.ps_zip.specs.declared.inputs.Input.TheVariants as input

pub table-column : (n : ℕ) (i : Input) (c out : Series) → i ≡ input.Table c → CanStand n i → out ≡ broadcast_to n c → IsColumnAt n i out
table-column n i c out e s is =
    subst (λ x. IsColumnAt n x out) (sym e)
    (subst (IsColumnAt n (input.Table c)) (sym is) (record { kind = refl; cells = values-stand n (input.Table c) c.values refl (subst (CanStand n) e s) }))

module _ (n : ℕ) (p : ComputedColumn) where
  no-bad : CanStand n (input.Computed p) → first_fault p ≡ None → first_bad (cells_of p.cells) ≡ None
  no-bad s e = sym (ap (λ o. or_else o (first_bad (cells_of p.cells))) s.whole_is) ∙ e

  one-bad : (f : DataFault) → CanStand n (input.Computed p) → first_fault p ≡ Some f → first_bad (cells_of p.cells) ≡ Some f
  one-bad f s e = sym (ap (λ o. or_else o (first_bad (cells_of p.cells))) s.whole_is) ∙ e

  pub computed-column : (outcome : Result Values DataFault) (vs : Values) (c out : Series) → CanStand n (input.Computed p) → Settles p outcome → outcome ≡ Ok vs → c ≡ record { kind = p.dtype; values = values_of vs } → out ≡ broadcast_to n c
      → IsColumnAt n (input.Computed p) out
  computed-column outcome vs c out s settled is made repeated =
      let both : Settles p (Ok vs) = subst (Settles p) is settled in
      let cells : cells_of p.cells ≡ map held.Val (values_of vs) = clean (cells_of p.cells) (no-bad s both.0) ∙ ap (map held.Val) (sym both.1) in
      subst (IsColumnAt n (input.Computed p)) (sym (repeated ∙ ap (broadcast_to n) made)) (record { kind = refl; cells = values-stand n (input.Computed p) (values_of vs) cells s })

  pub computed-fault : (outcome : Result Values DataFault) (f : DataFault) → CanStand n (input.Computed p) → 1 ≤ n → Settles p outcome → outcome ≡ Err f → HasFaultAt n (input.Computed p) f
  computed-fault outcome f s one settled is =
      let fault_is : Settles p (Err f) = subst (Settles p) is settled in
      fault-stands n (input.Computed p) f s one (one-bad f s fault_is)
