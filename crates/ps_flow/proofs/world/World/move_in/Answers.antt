-- The input's key names the pipe.
use Rattle.std.proofs.Common.{◌≡◌, ◌∙◌, false, sym, true}
use Rattle.ps_flow.proofs.world.World.move_in.Goals as goal

pub returns-in-Some : goal.returns-in-Some
returns-in-Some g c = λ F w y p m stands may. c.move_from.ensures F w y p m stands may (c.in-Some.ensures.key w.pipes stands.linked stands.wires)

pub returns-in-None : goal.returns-in-None
returns-in-None g c = λ F w y p m stands may. absurd (let clash : true ≡ false = sym may.leads ∙ c.in-None.ensures.none w.pipes p stands.linked stands.wires may.among in cc)
