-- It turns by its stage, with its lists, and answers by its stage after the turn.
use Rattle.std.proofs.Common.{[], ap, drop, length, map, refl}
use Rattle.std.specs.Prelude.{nat_le}
use Rattle.bare_nodes.specs.Bare.{bare_node}
use Rattle.node_states.specs.Stages.{stage_of}
use Rattle.node_states.specs.Views.{sides_of}
use Rattle.ps_meaning.specs.Schemas.{names_of}
use Rattle.plain_nodes.proofs.Turning.{lists_count, lists_turn}
use Rattle.plain_nodes.specs.Exprs.{expr_shown}
use Rattle.plain_nodes.specs.Reductions.{reduced}
use Rattle.plain_nodes.specs.Seen.{kind_of, progress_of, view_of}
use Rattle.plain_nodes.specs.Plain as plain
use Rattle.ps_turns.specs.Keys.{distinct_keys}
use Rattle.plain_nodes.proofs.group_by.GroupByNode.update.Goals as goal

pub returns : goal.returns
returns c =
    let old = c.args.self.now in
    let a = plain.group_by old in
    let b = plain.group_by (record old { stage = c.next_stage-stage.result; lists = c.lists_in-self.result }) in
    let given = sides_of c.args.recv.now c.args.send.now in
    let count = lists_count (distinct_keys (bare_node (kind_of a) []) []) old.lists in
    let stage = c.next_stage-stage.ensures (view_of a given) (record { kind = refl; stage = refl; gave = ap (λ n. nat_le n old.sent) count; filled = refl }) in
    record {
      update = record {
        ports = (c.requires.input, c.requires.output);
        agrees = refl;
        turns = lists_turn old.options (map expr_shown old.keys.items) (reduced (drop (length old.keys.items) (names_of old.output_schema)) (map expr_shown old.selectors.items) old.reductions.items) given (progress_of a) old.lists c.lists_in-self.result (stage_of c.next_stage-stage.result) stage refl c.lists_in-self.ensures;
        others = refl;
        answers = c.answer.ensures (view_of b given) refl refl;
      };
      options = refl;
      ports = λ i o p. p;
    }
