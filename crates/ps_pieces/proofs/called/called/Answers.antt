use Rattle.std.proofs.Common.{◌≡◌, Some, ◌∙◌, ap, sym, subst}
use Rattle.std.specs.Prelude.{Err, IsNone}
use Rattle.ps_frame.specs.Tables.{Frame}
use Rattle.ps_tables.proofs.Called.{user-faults, user-gives}
use Rattle.ps_pieces.proofs.Faults.{user-fails}
use Rattle.ps_pieces.proofs.called.called.Goals as goal

pub returns-in-Ok-call-clause-table : goal.returns-in-Ok-call-clause-table
returns-in-Ok-call-clause-table g c =
    let F = g.F.Functions.told c.args.functions.now in
    let laws = g.met.F.Functions g.world.𝓛 g.world.𝓜 g.world.𝓡 ((λ s x. x), (λ x. x), (λ x. x), λ x. x) in
    let answers : F.answer c.args.n c.args.table.now ≡ Some c.in-Ok-call.answer = ap (F.answer c.args.n) (sym c.in-Ok.ensures.same) ∙ c.in-Ok-call.ensures.answers in
    user-gives F (laws.lawful c.args.functions.now) c.args.at.0 c.args.n c.args.table.now c.requires.declared c.in-Ok-call.answer answers

pub returns-in-Err-Fault-clause-fault : goal.returns-in-Err-Fault-clause-fault
returns-in-Err-Fault-clause-fault g c =
    let F = g.F.Functions.told c.args.functions.now in
    let laws = g.met.F.Functions g.world.𝓛 g.world.𝓜 g.world.𝓡 ((λ s x. x), (λ x. x), (λ x. x), λ x. x) in
    let none : IsNone (F.answer c.args.n c.in-Ok.given) = c.call.ensures.fault (c.in-Err-Fault.is ∙ ap Err c.in-Err-Fault.field-0-is) in
    user-fails F c.args.at.0 c.args.n c.args.table.now (user-faults F (laws.lawful c.args.functions.now) c.args.at.0 c.args.n c.args.table.now c.requires.declared (subst (λ (f : Frame). IsNone (F.answer c.args.n f)) c.in-Ok.ensures.same none))
