-- The cause that is promised.
use Rattle.flow_driver.proofs.Answering.{told_error, told_fault}
use Rattle.flow_driver.proofs.run.Run+N+N+Piece.fault.Goals as goal

pub returns-clause-fault : goal.returns-clause-fault
returns-clause-fault g d = λ F shape o w at.
    let kept = d.streaming_runs_keep_promises.ensures F shape o w at.driven.lawful at.driven.sound at.driven.streaming at.reached in
    told_fault F shape w _ kept.promises.answered (λ c is. d.fault.ensures.fault w c at.tells is) (λ on. d.fault.ensures.none w at.tells on)

pub returns-clause-faulty : goal.returns-clause-faulty
returns-clause-faulty g d = λ F shape o w c at is. d.fault.ensures.fault w c at.tells is

pub returns-clause-told : goal.returns-clause-told
returns-clause-told g d = λ F shape o w at. told_error w _ (λ c is. d.fault.ensures.fault w c at.tells is) (λ on. d.fault.ensures.none w at.tells on)
