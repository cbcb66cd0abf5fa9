use Rattle.ps_pieces.proofs.Results.{computed-result, computed-schema}
use Rattle.ps_pieces.proofs.work.work.Goals as goal

pub returns-in-Computes-clause-result : goal.returns-in-Computes-clause-result
returns-in-Computes-clause-result g c =
    let laws = g.met.F.Functions g.world.𝓛 g.world.𝓜 g.world.𝓡 ((λ s x. x), (λ x. x), (λ x. x), λ x. x) in
    let answered = c.answered-in-Computes in
    computed-result (g.F.Functions.told c.args.functions.now) (laws.lawful c.args.functions.now) c.args.piece.now c.in-Computes.parameters c.in-Computes.before c.in-Computes.table c.in-Computes.is c.requires.fit c.deref.result.now c.deref.ensures
    c.computed.result c.computed.ensures.table c.computed.ensures.fault answered.result (record { rows = answered.ensures.rows; fault = answered.ensures.fault; memory = answered.ensures.memory }) answered.ensures.few

pub returns-in-Computes-clause-schema : goal.returns-in-Computes-clause-schema
returns-in-Computes-clause-schema g c =
    let laws = g.met.F.Functions g.world.𝓛 g.world.𝓜 g.world.𝓡 ((λ s x. x), (λ x. x), (λ x. x), λ x. x) in
    let answered = c.answered-in-Computes in
    computed-schema (g.F.Functions.told c.args.functions.now) (laws.lawful c.args.functions.now) c.args.piece.now c.in-Computes.parameters c.in-Computes.before c.in-Computes.table c.in-Computes.is c.requires.fit c.deref.result.now c.deref.ensures
    c.computed.result c.computed.ensures.table c.computed.ensures.fault answered.result (record { rows = answered.ensures.rows; fault = answered.ensures.fault; memory = answered.ensures.memory }) answered.ensures.few
