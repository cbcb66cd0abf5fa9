use Rattle.std.proofs.Common.{◌≡◌, ◌+◌, ◌≤◌, length, take, sym, arith}
use Rattle.std.proofs.lemmas.Option.{slice_get_within}
use Rattle.std.specs.Prelude.{Some, slice_get, sum_by}
use Rattle.ps_survey.specs.Extents.{largest}
use Rattle.ps_survey.proofs.Lists.{from-at, length-from_none}
use Rattle.ps_survey.proofs.ExtentSteps.{extent-all, extent-more, found-extent}
use Rattle.ps_survey.proofs.extents.extent_below.Goals as goal

pub extent_at-requires : goal.extent_at-requires
extent_at-requires g c = c.requires.known c.in-Some.named (from-at (g.N.Names.named c.args.names.now c.args.number) c.loop-named.place c.in-Some.named (sym c.in-Some.ensures.name))

pub loop-named-smaller : goal.loop-named-smaller
loop-named-smaller g c = let l = slice_get_within (g.N.Names.named c.args.names.now c.args.number) c.loop-named.place c.in-Some.named (sym c.in-Some.ensures.name) in omega (arith, l)

pub loop-named-preserved : goal.loop-named-preserved
loop-named-preserved g c =
    let names = g.N.Names.named c.args.names.now c.args.number in
    let at : slice_get names c.loop-named.place ≡ Some c.in-Some.named = sym c.in-Some.ensures.name in
    let l = slice_get_within names c.loop-named.place c.in-Some.named at in
    let t = c.tick.ensures in
    let was = c.loop-named.invariant.looks in
    record {
      within = omega (arith, l);
      below = λ d s known.
          extent-more d s names c.loop-named.place c.in-Some.named c.beside-below.result at
          (c.beside-below.ensures (largest d (take c.loop-named.place names)) (sum_by s (take c.loop-named.place names)) (d c.in-Some.named) (s c.in-Some.named) (c.loop-named.invariant.below d s known)
          (found-extent c.args.table.now c.in-Some.named (d c.in-Some.named) (s c.in-Some.named) c.extent_at.result c.extent_at.ensures (known c.in-Some.named (from-at names c.loop-named.place c.in-Some.named at))));
      looks = omega (arith, t, was);
    }

pub returns-clause-below : goal.returns-clause-below
returns-clause-below g c = λ d s known.
    let names = g.N.Names.named c.args.names.now c.args.number in
    extent-all d s names c.loop-named.place c.loop-named.below (length-from_none names c.loop-named.place (sym c.in_default.ensures.name)) (c.loop-named.invariant.below d s known)

pub returns-clause-steps : goal.returns-clause-steps
returns-clause-steps g c =
    let n = length-from_none (g.N.Names.named c.args.names.now c.args.number) c.loop-named.place (sym c.in_default.ensures.name) in
    let i = c.loop-named.invariant.within in
    let was = c.loop-named.invariant.looks in
    omega (arith, n, i, was)
