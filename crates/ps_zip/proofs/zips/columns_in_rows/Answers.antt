use Rattle.std.proofs.Common.{[], ◌∷◌, ◌++◌, ◌∙◌, ap, sym, subst, append_assoc}
use Rattle.ps_zip.proofs.Steps.{some-fault, zip-append}
use Rattle.ps_zip.specs.Inputs.{HasFaultAt, IsColumnAt, SomeFaultAt}
use Rattle.ps_zip.proofs.zips.columns_in_rows.Goals as goal

pub loop-input-preserved : goal.loop-input-preserved
loop-input-preserved c =
    let i = c.loop-input.invariant in
    let one : IsColumnAt c.args.height c.in-Some.input c.in-Ok.column = rw c.in-Ok.is at c.in_ok-column.ensures in
    record {
      columns = rw c.in_ok-push-in-Ok.ensures.items (zip-append (IsColumnAt c.args.height) c.loop-input.yielded (c.in-Some.input ∷ []) c.loop-input.columns.items (c.in-Ok.column ∷ []) i.columns (one, tt));
      all = rw append_assoc (ap (λ r. c.loop-input.yielded ++ r) (sym c.in-Some.ensures.steps.0) ∙ i.all);
    }

pub returns-in-Err : goal.returns-in-Err
returns-in-Err c =
    let all = sym c.loop-input.invariant.all ∙ ap (λ r. c.loop-input.yielded ++ r) c.in-Some.ensures.steps.0 in
    let bad : HasFaultAt c.args.height c.in-Some.input c.in-Err.fault = rw c.in-Err.is at c.in_ok-column.ensures in
    subst (λ is. SomeFaultAt c.args.height is c.in-Err.fault) (sym all) (some-fault c.args.height c.loop-input.yielded c.next.new.self.rest.items c.in-Some.input c.in-Err.fault bad)
