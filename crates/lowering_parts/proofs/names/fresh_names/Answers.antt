use Rattle.std.proofs.Common.{ap}
use Rattle.lowering_parts.specs.Gathered.{state_of}
use Rattle.lowering_parts.proofs.NameLemmas.{fresh_step, others_stay, state_step}
use Rattle.lowering_parts.proofs.names.fresh_names.Goals as goal

pub loop-item-preserved : goal.loop-item-preserved
loop-item-preserved g c =
    record {
      names = λ f. fresh_step c.args.items.now c.loop-item.item-index (state_of f c.args.low.now) (state_of f c.loop-item.low) c.loop-item.names.items c.push.new.self.items c.in_ok-fresh.field-0 c.loop-item-test.true c.in_ok-push.ensures.items
          c.in_ok-fresh.ensures.name (c.loop-item.invariant.names f) (c.loop-item.invariant.next f);
      next = λ f. state_step c.args.items.now c.loop-item.item-index (state_of f c.args.low.now) (state_of f c.loop-item.low) (state_of f c.fresh.new.low) c.loop-item-test.true (ap (state_of f) c.in_ok-fresh.ensures.next) (c.loop-item.invariant.next f);
      others = others_stay c.args.low.now c.loop-item.low c.fresh.new.low _ c.in_ok-fresh.ensures.next c.loop-item.invariant.others;
      known = λ n k. c.fresh.ensures.known n (c.loop-item.invariant.known n k);
    }

pub returns-in_err-fresh-clause-known : goal.returns-in_err-fresh-clause-known
returns-in_err-fresh-clause-known g c n k = c.fresh.ensures.known n (c.loop-item.invariant.known n k)

pub returns-in_err-push-clause-known : goal.returns-in_err-push-clause-known
returns-in_err-push-clause-known g c n k = c.fresh.ensures.known n (c.loop-item.invariant.known n k)
