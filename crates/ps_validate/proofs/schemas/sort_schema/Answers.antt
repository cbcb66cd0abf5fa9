use Rattle.ps_frame.specs.Functions.{Functions}
use Rattle.ps_frame.specs.Tables.{Fields}
use Rattle.ps_frame.specs.Trees.{tree_at}
use Rattle.ps_frame.specs.declared.refusal.PolarsError.{PolarsError}
use Rattle.ps_meaning.specs.Steps.{Cut, key_trees, sort}
use Rattle.ps_validate.proofs.Sorting.{sort-error, sort-gives}
use Rattle.ps_validate.proofs.Typed.{answered, passed-on}
use Rattle.ps_validate.proofs.schemas.sort_schema.Goals as goal
use Rattle.ps_validate.specs.Nodes.{GivesSchema, IsNodeError}
use Rattle.std.proofs.Common.{◌∷◌, []}
use Rattle.std.specs.Prelude.{Bool, List}

pub returns-in_err-key_kinds-clause-refused : goal.returns-in_err-key_kinds-clause-refused
returns-in_err-key_kinds-clause-refused g c =
    passed-on (λ (e : PolarsError). (F : Functions) (descending nulls_last : List Bool) (cut : Cut) → IsNodeError F c.args.at (sort (record { keys = (key_trees (tree_at c.args.arena.now.items) c.args.keys.now); descending = descending; nulls_last = nulls_last; cut = cut })) (c.args.input.now ∷ []) e) c.in_err-key_kinds.field-0.0 c.from_residual.result c.from_residual.ensures.1
    (λ F descending nulls_last cut. sort-error F c.args.at c.args.input.now (record { keys = (key_trees (tree_at c.args.arena.now.items) c.args.keys.now); descending = descending; nulls_last = nulls_last; cut = cut }) c.in_err-key_kinds.field-0.0 c.in_err-key_kinds.ensures.refused)

pub returns-clause-given : goal.returns-clause-given
returns-clause-given g c =
    answered (λ (s : Fields). (F : Functions) (descending nulls_last : List Bool) (cut : Cut) → GivesSchema F (sort (record { keys = (key_trees (tree_at c.args.arena.now.items) c.args.keys.now); descending = descending; nulls_last = nulls_last; cut = cut })) (c.args.input.now ∷ []) s) c.args.input.now c.shared_columns.result c.shared_columns.ensures.same c.shared_columns.ensures.some
    (λ some F descending nulls_last cut. sort-gives F c.args.input.now (record { keys = (key_trees (tree_at c.args.arena.now.items) c.args.keys.now); descending = descending; nulls_last = nulls_last; cut = cut }) c.in_ok-key_kinds.field-0.items (λ t. c.kinds_are_exact.ensures c.args.input.now t) c.in_ok-key_kinds.ensures.kinds c.names_differ.ensures some)
