use Rattle.std.proofs.Common.{refl, ap, sym, subst, arith, rules, Ok}
use Rattle.std.proofs.lemmas.Grind.{common_steps}
use Rattle.tool_ends.specs.Outside.{TakesFront}
use Rattle.tool_ends.proofs.Pieces.{rose_later, takes_all, takes_longer, takes_more, takes_nothing}
use Rattle.tool_ends.proofs.reading.read_source.Goals as goal

pub pieces-init : goal.pieces-init
pieces-init g c = record {
  taken = subst (λ p. TakesFront (g.S.Source.left c.args.source.now) p (g.S.Source.left c.args.source.now)) (sym c.new-bytes.ensures.items) (takes_nothing (g.S.Source.left c.args.source.now));
  counted = omega arith;
  room = omega arith;
  full = search rules;
}

pub returns-in-Err-clause-failed : goal.returns-in-Err-clause-failed
returns-in-Err-clause-failed g c = λ e. rose_later _ _ _ c.pieces.invariant.counted c.in-Err.ensures.failed

pub returns-then-read-eq0-clause-whole : goal.returns-then-read-eq0-clause-whole
returns-then-read-eq0-clause-whole g c =
    takes_all _ _ _ _ _ c.pieces.invariant.taken (c.in-Ok.ensures.end (ap Ok c.if-read-eq0.true) (grind (arith, common_steps))) c.in-Ok.ensures.front (rw c.if-read-eq0.true refl)

pub pieces-preserved : goal.pieces-preserved
pieces-preserved g c = record {
  taken = subst (λ p. TakesFront (g.S.Source.left c.args.source.now) p (g.S.Source.left c.read.new.self)) (sym c.in_ok-extend_from_slice.ensures.items) (takes_more _ _ _ _ _ c.pieces.invariant.taken c.in-Ok.ensures.front);
  counted = omega arith;
  room = grind (arith, common_steps);
  full = c.pieces.invariant.full;
}

pub returns-clause-too_long : goal.returns-clause-too_long
returns-clause-too_long g c = λ e. takes_longer _ _ _ _ c.pieces.invariant.taken (grind (arith, common_steps))
