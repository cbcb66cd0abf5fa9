use Rattle.std.proofs.Common.{List, ℕ, Some, ap, sym, ◌∙◌, add-one}
use Rattle.ps_frame.proofs.Names.{shared-at, shared-step}
use Rattle.ps_frame.proofs.schema.first_shared.Goals as goal

pub returns-then-contains-clause-place : goal.returns-then-contains-clause-place
returns-then-contains-clause-place c =
    shared-at c.args.schema.now c.args.other.now c.loop-i.i c.as_str.result.now c.loop-i.invariant (c.name.ensures ∙ ap (λ (n : List ℕ). Some n) (sym c.as_str.ensures)) (sym c.contains.ensures ∙ c.if-contains.true)

pub loop-i-preserved : goal.loop-i-preserved
loop-i-preserved c =
    rw add-one
    (shared-step c.args.schema.now c.args.other.now c.loop-i.i c.as_str.result.now c.loop-i.invariant (c.name.ensures ∙ ap (λ (n : List ℕ). Some n) (sym c.as_str.ensures)) (sym c.contains.ensures ∙ c.if-contains.false))
