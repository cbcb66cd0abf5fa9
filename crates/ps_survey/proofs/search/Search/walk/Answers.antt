use Rattle.std.proofs.Common.{set, length-set, sym, ◌∙◌, subst, arith}
use Rattle.ps_survey.specs.Search.{Underway}
use Rattle.ps_survey.specs.declared.search.Mark.TheVariants as mark
use Rattle.std.proofs.lemmas.List.Elements.{Contains-push}
use Rattle.ps_survey.proofs.Steps.{begin, less-into}
use Rattle.ps_survey.proofs.search.Search.walk.Goals as goal

pub loop-number-init : goal.loop-number-init
loop-number-init g c =
    let h = less-into (g.N.Names.named c.args.names.now) c.args.self.now.marks.items c.args.start c.requires.new in
    record {
      size = length-set c.args.self.now.marks.items c.args.start (mark.Open 0) ∙ c.requires.size;
      underway = subst (λ xs. Underway (g.N.Names.named c.args.names.now) c.args.start c.args.self.now.order.items c.args.self.now.order.items (set c.args.self.now.marks.items c.args.start (mark.Open 0)) xs c.args.start) (sym c.requires.trail)
          (begin (g.N.Names.named c.args.names.now) c.args.self.now.order.items c.args.self.now.marks.items c.args.start c.requires.rest c.requires.new);
      looks = omega (arith, h);
    }

pub look-requires-clause-marked : goal.look-requires-clause-marked
look-requires-clause-marked g c = c.loop-number.invariant.underway.way_marked c.loop-number.at (Contains-push c.loop-number.self.trail.items c.loop-number.at)

pub loop-number-preserved : goal.loop-number-preserved
loop-number-preserved g c =
    let f = c.in-Ok-Some.ensures.found c.args.start c.args.self.now.order.items c.loop-number.invariant.underway in
    let h = c.in-Ok-Some.ensures.looks in
    let e = c.tick.ensures in
    let was = c.loop-number.invariant.looks in
    record { size = c.in-Ok-Some.ensures.size; underway = rw c.in-Ok-Some.field-0-is at f; looks = omega (arith, h, e, was) }

pub returns-in-Ok-None-clause-found : goal.returns-in-Ok-None-clause-found
returns-in-Ok-None-clause-found g c =
    let f = c.in-Ok-None.ensures.found c.args.start c.args.self.now.order.items c.loop-number.invariant.underway in
    (rw c.in-Ok-None.field-0-is at f).0

pub returns-in-Ok-None-clause-trail : goal.returns-in-Ok-None-clause-trail
returns-in-Ok-None-clause-trail g c =
    let f = c.in-Ok-None.ensures.found c.args.start c.args.self.now.order.items c.loop-number.invariant.underway in
    (rw c.in-Ok-None.field-0-is at f).1

pub returns-in-Err-clause-found : goal.returns-in-Err-clause-found
returns-in-Err-clause-found g c = c.in-Err.ensures.found c.args.start c.args.self.now.order.items c.loop-number.invariant.underway
