use Rattle.lowering_parts.proofs.Going.{begins_then}
use Rattle.lowering_parts.proofs.Grown.{kept-then}
use Rattle.group_lowering.proofs.DistinctLemmas.{kept_next}
use Rattle.group_lowering.proofs.kept.kept_values.Goals as goal

pub loop-name-preserved : goal.loop-name-preserved
loop-name-preserved c =
    record {
      entries = begins_then c.args.arena.now.items c.loop-name.arena.items c.named_value.new.arena.items c.loop-name.invariant.entries c.named_value.ensures.entries;
      kept = kept-then c.args.arena.now.items c.loop-name.arena.items c.named_value.new.arena.items c.loop-name.invariant.kept c.named_value.ensures.kept;
      named = kept_next c.args.keep c.args.names.now c.loop-name.name-index c.name-item.result c.loop-name.arena.items c.named_value.new.arena.items c.loop-name.values.items c.push.new.self.items c.in_ok-value.value c.named_value.ensures.kept c.loop-name-test.true c.name-item.is c.loop-name.invariant.named
          c.in_ok-push.ensures.items c.in_ok-value.ensures.name c.in_ok-value.ensures.tree;
    }

pub returns-in_err-value-clause-kept : goal.returns-in_err-value-clause-kept
returns-in_err-value-clause-kept c = kept-then c.args.arena.now.items c.loop-name.arena.items c.named_value.new.arena.items c.loop-name.invariant.kept c.named_value.ensures.kept

pub returns-in_err-value-clause-entries : goal.returns-in_err-value-clause-entries
returns-in_err-value-clause-entries c = begins_then c.args.arena.now.items c.loop-name.arena.items c.named_value.new.arena.items c.loop-name.invariant.entries c.named_value.ensures.entries

pub returns-in_err-push-clause-kept : goal.returns-in_err-push-clause-kept
returns-in_err-push-clause-kept c = kept-then c.args.arena.now.items c.loop-name.arena.items c.named_value.new.arena.items c.loop-name.invariant.kept c.named_value.ensures.kept

pub returns-in_err-push-clause-entries : goal.returns-in_err-push-clause-entries
returns-in_err-push-clause-entries c = begins_then c.args.arena.now.items c.loop-name.arena.items c.named_value.new.arena.items c.loop-name.invariant.entries c.named_value.ensures.entries
