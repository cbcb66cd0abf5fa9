-- The next morsel is there.
use Rattle.std.proofs.Common.{◌≡◌, ◌∙◌, false, sym, true}
use Rattle.ps_flow.proofs.Claims.{pipe_named}
use Rattle.ps_flow.proofs.claiming.take_at.Goals as goal
use Rattle.ps_settle.proofs.Members.{contains_at}
use Rattle.ps_world.specs.Pipes.{is_input}

pub returns-in-Some : goal.returns-in-Some
returns-in-Some c = λ s ps n i shown names ready. c.in-Some.ensures.pipes s ps (is_input n i) shown names

pub returns-in-None : goal.returns-in-None
returns-in-None c = λ s ps n i shown names ready.
    let p = pipe_named (is_input n i) c.args.key ps names in
    absurd (let clash : true ≡ false = sym (ready p.0 (contains_at ps c.args.key.0 p.0 p.1) p.2) ∙ c.in-None.ensures.no_next s ps p.0 shown p.1 in cc)
