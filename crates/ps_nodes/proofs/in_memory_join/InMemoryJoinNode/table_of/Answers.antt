-- It joins by copies of its keys.
use Rattle.std.proofs.Common.{◌≡◌, List, [], ◌∷◌, subst, sym, ◌∙◌}
use Rattle.std.specs.List.{AllByRecursion}
use Rattle.std.specs.Prelude.{IfErr, IfOk}
use Rattle.made_tables.specs.Joinable.{CanJoin}
use Rattle.bare_nodes.specs.Bare.{bare_node}
use Rattle.made_tables.specs.Made.{MayBreak}
use Rattle.bare_nodes.specs.Uncalled.{no_functions}
use Rattle.ps_frame.specs.Tables.{whole}
use Rattle.ps_frame.specs.Trees.{IsComplete, tree_at}
use Rattle.ps_joins.specs.JoinOf.{join_of}
use Rattle.ps_meaning.specs.Shape.{in_memory_join}
use Rattle.ps_meaning.specs.Steps.{JoinStep}
use Rattle.ps_nodes.proofs.JoinTurn.{left_complete, right_complete}
use Rattle.ps_nodes.proofs.KeyCopies.{trees_shown}
use Rattle.plain_nodes.specs.Exprs.{ExprParts, join_shown}
use Rattle.ps_turns.specs.Results.{IsMade}
use Rattle.ps_nodes.proofs.in_memory_join.InMemoryJoinNode.table_of.Goals as goal

pub copied_sides-requires-clause-left : goal.copied_sides-requires-clause-left
copied_sides-requires-clause-left c =
    let self = c.args.self.now in
    subst (λ (ks : List ExprParts). AllByRecursion IsComplete (trees_shown ks)) (sym c.as_slice.ensures.value)
    (left_complete (join_shown self.left_on.items self.right_on.items self.args) c.args.left.now.schema c.args.right.now.schema self.output_schema c.requires.fit)

pub copied_sides-requires-clause-right : goal.copied_sides-requires-clause-right
copied_sides-requires-clause-right c =
    let self = c.args.self.now in
    subst (λ (ks : List ExprParts). AllByRecursion IsComplete (trees_shown ks)) (sym c.as_slice-2.ensures.value)
    (right_complete (join_shown self.left_on.items self.right_on.items self.args) c.args.left.now.schema c.args.right.now.schema self.output_schema c.requires.fit)

pub joined-requires : goal.joined-requires
joined-requires c =
    let self = c.args.self.now in
    let same : join_of (tree_at c.in-Ok.keys.exprs.items) c.as_slice-3.result.now c.as_slice-4.result.now self.args ≡ join_shown self.left_on.items self.right_on.items self.args =
    (λ i. join_of (tree_at c.in-Ok.keys.exprs.items) (c.as_slice-3.ensures.value i) (c.as_slice-4.ensures.value i) self.args) ∙ c.in-Ok.ensures.same self.args ∙ (λ i. join_shown (c.as_slice.ensures.value i) (c.as_slice-2.ensures.value i) self.args) in
    record { fit = subst (λ (j : JoinStep). CanJoin j c.args.left.now.schema c.args.right.now.schema self.output_schema) (sym same) c.requires.fit }

pub returns-clause-table : goal.returns-clause-table
returns-clause-table c =
    let self = c.args.self.now in
    let same : join_of (tree_at c.in-Ok.keys.exprs.items) c.as_slice-3.result.now c.as_slice-4.result.now self.args ≡ join_shown self.left_on.items self.right_on.items self.args =
    (λ i. join_of (tree_at c.in-Ok.keys.exprs.items) (c.as_slice-3.ensures.value i) (c.as_slice-4.ensures.value i) self.args) ∙ c.in-Ok.ensures.same self.args ∙ (λ i. join_shown (c.as_slice.ensures.value i) (c.as_slice-2.ensures.value i) self.args) in
    subst (λ (j : JoinStep). IfOk c.joined.result (λ f. IsMade no_functions (bare_node (in_memory_join j) self.output_schema) (whole c.args.left.now ∷ whole c.args.right.now ∷ []) f.rows)) same c.joined.ensures.table

pub returns-clause-fault : goal.returns-clause-fault
returns-clause-fault c =
    let self = c.args.self.now in
    let same : join_of (tree_at c.in-Ok.keys.exprs.items) c.as_slice-3.result.now c.as_slice-4.result.now self.args ≡ join_shown self.left_on.items self.right_on.items self.args =
    (λ i. join_of (tree_at c.in-Ok.keys.exprs.items) (c.as_slice-3.ensures.value i) (c.as_slice-4.ensures.value i) self.args) ∙ c.in-Ok.ensures.same self.args ∙ (λ i. join_shown (c.as_slice.ensures.value i) (c.as_slice-2.ensures.value i) self.args) in
    subst (λ (j : JoinStep). IfErr c.joined.result (λ e. MayBreak no_functions (bare_node (in_memory_join j) self.output_schema) (whole c.args.left.now ∷ whole c.args.right.now ∷ []) e)) same c.joined.ensures.fault
