use Rattle.std.proofs.Common.{[], ◌∷◌}
use Rattle.ps_meaning.specs.declared.map.MapKind.TheVariants as kind
use Rattle.sound_plans.proofs.Arms.{stream-at}
use Rattle.sound_plans.proofs.Fits.{carried}
use Rattle.sound_plans.proofs.nodes.stream_fits.Goals as goal

pub returns-in-Function-clause-fit : goal.returns-in-Function-clause-fit
returns-in-Function-clause-fit g c = stream-at (g.F.Functions.told c.args.functions.now) c.args.schema.now (c.args.input.now ∷ []) c.args.map.now (kind.Function c.in-Function.n) c.in-Function.is c.stream.result (carried c.stream.result c.stream.ensures.fit (λ p f. p))
