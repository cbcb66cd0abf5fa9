use Rattle.std.proofs.Common.{◌≡◌, ◌≢◌}
use Rattle.std.specs.Prelude.{IfErr, None, Result, Ok, Err}
use Rattle.ps_frame.specs.Trees.{tree_at}
use Rattle.ps_frame.specs.Typing.{kind_over}
use Rattle.ps_frame.specs.declared.refusal.PolarsError.{PolarsError}
use Rattle.ps_frame.specs.declared.refusal.PolarsError.TheVariants as error
use Rattle.ps_frame.specs.declared.value.DataType.{DataType}
use Rattle.ps_typing.proofs.Exact.{no-kind}
use Rattle.ps_typing.proofs.kinds.expr_kind.Goals as goal
use Rattle.ps_typing.specs.Refused.{IsTypingError}

weaker : (r : Result DataType PolarsError) (P Q : PolarsError → Type 0) → ((e : PolarsError) → P e → Q e) → IfErr r P → IfErr r Q
weaker (Ok x) P Q w h = h
weaker (Err e) P Q w h = w e h

pub returns-clause-exact : goal.returns-clause-exact
returns-clause-exact c =
    weaker c.uncounted_kind.result (IsTypingError c.args.at c.args.schema.now (tree_at c.args.arena.now.items c.args.expr)) (λ e. e ≢ error.OutOfMemory → kind_over c.args.schema.now (tree_at c.args.arena.now.items c.args.expr) ≡ None)
    (λ e h. no-kind c.args.at c.args.schema.now (tree_at c.args.arena.now.items c.args.expr) e (c.kinds_are_exact.ensures c.args.schema.now (tree_at c.args.arena.now.items c.args.expr)) h)
    c.uncounted_kind.ensures.refused
