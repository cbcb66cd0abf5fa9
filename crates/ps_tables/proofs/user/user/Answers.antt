use Rattle.std.proofs.Common.{◌∙◌, ap}
use Rattle.std.specs.Prelude.{Err}
use Rattle.ps_tables.proofs.Called.{user-faults, user-gives}
use Rattle.ps_tables.proofs.user.user.Goals as goal

pub returns-in-Ok-clause-table : goal.returns-in-Ok-clause-table
returns-in-Ok-clause-table g c =
    let F = g.F.Functions.told c.args.functions.now in
    let laws = g.met.F.Functions g.world.𝓛 g.world.𝓜 g.world.𝓡 ((λ s x. x), (λ x. x), (λ x. x), λ x. x) in
    user-gives F (laws.lawful c.args.functions.now) c.args.at.0 c.args.n c.args.df c.requires.declared c.in-Ok.table c.in-Ok.ensures.answers

pub returns-in-Err-Fault-clause-fault : goal.returns-in-Err-Fault-clause-fault
returns-in-Err-Fault-clause-fault g c =
    let F = g.F.Functions.told c.args.functions.now in
    let laws = g.met.F.Functions g.world.𝓛 g.world.𝓜 g.world.𝓡 ((λ s x. x), (λ x. x), (λ x. x), λ x. x) in
    user-faults F (laws.lawful c.args.functions.now) c.args.at.0 c.args.n c.args.df c.requires.declared (c.call.ensures.fault (c.in-Err-Fault.is ∙ ap Err c.in-Err-Fault.field-0-is))
