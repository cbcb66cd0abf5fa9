use Rattle.ps_frame.specs.Trees.{tree_at}
use Rattle.ps_meaning.specs.Steps.{key_trees}
use Rattle.ps_typing.specs.Refused.{IsErrorAmong}
use Rattle.ps_validate.proofs.Keying.{key-error, key-next}
use Rattle.ps_validate.proofs.Typed.{passed-on}
use Rattle.ps_validate.proofs.keys.key_kinds.Goals as goal
use Rattle.valid_plans.specs.Fields.{all_parts}

pub returns-in_err-typed-clause-refused : goal.returns-in_err-typed-clause-refused
returns-in_err-typed-clause-refused g c =
    passed-on (IsErrorAmong c.args.at c.args.input.now (all_parts (key_trees (tree_at c.args.arena.now.items) c.args.keys.now))) c.in_err-typed.field-0.0 c.from_residual.result c.from_residual.ensures.1
    (key-error (tree_at c.args.arena.now.items) c.args.input.now c.args.keys.now c.loop-key.key-index c.loop-key.kinds.items c.args.steps.now c.loop-key.steps c.key-item.result c.loop-key-test.true c.key-item.is c.loop-key.invariant c.args.at c.in_err-typed.field-0.0 c.in_err-typed.ensures.refused)

pub loop-key-preserved : goal.loop-key-preserved
loop-key-preserved g c =
    key-next (tree_at c.args.arena.now.items) c.args.input.now c.args.keys.now c.loop-key.key-index c.loop-key.kinds.items c.args.steps.now c.loop-key.steps c.key-item.result c.loop-key-test.true c.key-item.is c.loop-key.invariant c.in_ok-typed.typed.dtype c.push.new.self.items c.type_expr.new.steps c.in_ok-typed.ensures.kind c.in_ok-push.ensures.items c.in_ok-typed.ensures.steps
