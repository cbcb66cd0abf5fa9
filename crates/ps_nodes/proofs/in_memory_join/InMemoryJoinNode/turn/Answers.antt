-- It turns by its stage alone, or makes its table.
use Rattle.std.proofs.Common.{Some, [], ◌∷◌, ap, refl, subst, sym, ◌∙◌}
use Rattle.made_tables.specs.Joinable.{CanJoin}
use Rattle.bare_nodes.specs.Bare.{bare_node}
use Rattle.made_tables.specs.Made.{MayBreak}
use Rattle.bare_nodes.specs.Uncalled.{no_functions}
use Rattle.node_states.specs.Stages.{stage_of}
use Rattle.ps_frame.specs.Tables.{Frame, whole}
use Rattle.ps_meaning.specs.Shape.{in_memory_join}
use Rattle.ps_nodes.proofs.JoinTurn.{join_makes}
use Rattle.plain_nodes.proofs.Turning.{goes_on}
use Rattle.plain_nodes.specs.Exprs.{join_shown}
use Rattle.ps_nodes.specs.Seen.{progress_of}
use Rattle.ps_nodes.specs.declared.flow.FlowNode.TheVariants as flow
use Rattle.ps_turns.specs.Results.{IsMade}
use Rattle.ps_turns.specs.Updates.{Turns}
use Rattle.ps_nodes.proofs.in_memory_join.InMemoryJoinNode.turn.Goals as goal

pub returns-then-not-begins-clause-turned : goal.returns-then-not-begins-clause-turned
returns-then-not-begins-clause-turned c given is =
    let old = c.args.self.now in
    let step = join_shown old.left_on.items old.right_on.items old.args in
    goes_on no_functions old.made.options (bare_node (in_memory_join step) old.output_schema) (old.left.schema ∷ old.right.schema ∷ []) given (progress_of (flow.InMemoryJoin old)) (stage_of c.args.stage) is (sym c.begins.ensures ∙ c.if-not-begins.true)

pub table_of-requires : goal.table_of-requires
table_of-requires c =
    let old = c.args.self.now in
    let step = join_shown old.left_on.items old.right_on.items old.args in
    record {
      fit =
          subst (λ (f : Frame). CanJoin step f.schema c.in-Ok-table.right.schema old.output_schema) (sym c.in-Ok.ensures.table)
          (subst (λ (f : Frame). CanJoin step old.left.schema f.schema old.output_schema) (sym c.in-Ok-table.ensures.table) c.requires.fit);
    }

pub returns-in-Ok-table_of-clause-turned : goal.returns-in-Ok-table_of-clause-turned
returns-in-Ok-table_of-clause-turned c given is =
    let old = c.args.self.now in
    let step = join_shown old.left_on.items old.right_on.items old.args in
    let node = bare_node (in_memory_join step) old.output_schema in
    let rows = c.in-Ok-table_of.table.rows in
    let a = progress_of (flow.InMemoryJoin old) in
    let s = stage_of c.args.stage in
    let left = subst (λ (f : Frame). IsMade no_functions node (whole f ∷ whole c.in-Ok-table.right ∷ []) rows) c.in-Ok.ensures.table c.in-Ok-table_of.ensures.table in
    let made = subst (λ (f : Frame). IsMade no_functions node (whole old.left ∷ whole f ∷ []) rows) c.in-Ok-table.ensures.table left in
    let turned = join_makes old.made.options step old.output_schema old.left old.right given a s is (sym c.begins.ensures ∙ c.if-not-begins.false) refl rows made in
    subst (λ (f : Frame). Turns no_functions old.made.options node (old.left.schema ∷ old.right.schema ∷ []) given a (record a { stage = s; stores = (f.rows ∷ []) ∷ (c.table-2.new.self.rows ∷ []) ∷ []; made = Some rows })) (sym c.in-Ok.ensures.kept)
    (subst (λ (f : Frame). Turns no_functions old.made.options node (old.left.schema ∷ old.right.schema ∷ []) given a (record a { stage = s; stores = (old.left.rows ∷ []) ∷ (f.rows ∷ []) ∷ []; made = Some rows })) (sym c.in-Ok-table.ensures.kept) turned)

pub returns-clause-fault : goal.returns-clause-fault
returns-clause-fault c =
    let old = c.args.self.now in
    let node = bare_node (in_memory_join (join_shown old.left_on.items old.right_on.items old.args)) old.output_schema in
    subst (λ (f : Frame). MayBreak no_functions node (whole old.left ∷ whole f ∷ []) c.in-Err-table_of.error) c.in-Ok-table.ensures.table
    (subst (λ (f : Frame). MayBreak no_functions node (whole f ∷ whole c.in-Ok-table.right ∷ []) c.in-Err-table_of.error) c.in-Ok.ensures.table c.in-Err-table_of.ensures.fault)
