-- It turns by its stage alone, or makes the rows of the slice.
use Rattle.std.proofs.Common.{Some, [], refl, subst, sym, ◌∙◌}
use Rattle.kept_tables.specs.Kept.{rows_of_each}
use Rattle.bare_nodes.specs.Bare.{bare_node}
use Rattle.bare_nodes.specs.Uncalled.{no_functions}
use Rattle.node_states.specs.Stages.{stage_of}
use Rattle.ps_meaning.specs.Shape.{negative_slice}
use Rattle.plain_nodes.proofs.Turning.{begins, goes_on}
use Rattle.plain_nodes.specs.Seen.{progress_of}
use Rattle.plain_nodes.specs.Plain as plain
use Rattle.ps_turns.specs.Ends.{rows_at_end}
use Rattle.ps_turns.specs.Heads.{stored_rows}
use Rattle.ps_turns.specs.Updates.{Turns}
use Rattle.plain_nodes.proofs.negative_slice.NegativeSliceNode.turn.Goals as goal

pub returns-then-not-begins-clause-turned : goal.returns-then-not-begins-clause-turned
returns-then-not-begins-clause-turned c given is =
    let old = c.args.self.now in
    goes_on no_functions old.made.options (bare_node (negative_slice old.back old.length) []) [] given (progress_of (plain.negative_slice old)) (stage_of c.args.stage) is (sym c.begins.ensures ∙ c.if-not-begins.true)

pub returns-in-Ok-clause-turned : goal.returns-in-Ok-clause-turned
returns-in-Ok-clause-turned c given is =
    let old = c.args.self.now in
    let a = progress_of (plain.negative_slice old) in
    let s = stage_of c.args.stage in
    let node = bare_node (negative_slice old.back old.length) [] in
    let rows = rows_at_end old.back old.length old.booked (stored_rows (rows_of_each old.input)) in
    subst (λ rs. Turns no_functions old.made.options node [] given a (record a { stage = s; made = Some rs })) (sym c.in-Ok.ensures.rows)
    (begins no_functions old.made.options node [] given a s is (sym c.begins.ensures ∙ c.if-not-begins.false) (record a { made = Some rows }) refl)
