use Rattle.std.proofs.Common.{[], ◌∷◌, sym, ◌∙◌, arith}
use Rattle.ps_frame.specs.Tables.{Fields}
use Rattle.ps_meaning.specs.Steps.{user}
use Rattle.ps_validate.specs.Nodes.{GivesSchema}
use Rattle.sound_plans.proofs.Fits.{taken, stream-fit}
use Rattle.sound_plans.proofs.kinds.stream.Goals as goal

pub returns-clause-fit : goal.returns-clause-fit
returns-clause-fit g c =
    taken (λ (s : Fields). GivesSchema (g.F.Functions.told c.args.functions.now) (user c.args.n) (c.args.input.now ∷ []) s) c.function_schema-given.result c.args.schema.now c.is_given.result c.is_given.ensures.given c.function_schema-given.ensures.given
    (λ p. stream-fit (g.F.Functions.told c.args.functions.now) c.args.input.now c.args.schema.now c.args.n (let past = c.if-n-count.false in let count = c.count.ensures in omega (arith, past, count)) (sym c.streamable-streams.ensures ∙ c.if-not-streams.false) p)
