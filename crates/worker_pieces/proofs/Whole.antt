-- What leads to and from each node of a world that keeps the facts is what its shape asks for.
use Rattle.std.proofs.Common.{sym, subst, ◌∙◌}
use Rattle.ps_flow.specs.Openings.{IsWhole}
use Rattle.ps_frame.specs.Functions.{Functions}
use Rattle.ps_meaning.specs.Sound.{HasReaders}
use Rattle.ps_ports.specs.Wires.{IsWired, Wire, wires_in, wires_out}
use Rattle.ps_world.specs.Facts.{Facts}
use Rattle.ps_world.specs.World.{World, wires_of}
use Rattle.world_facts.proofs.Placing.{has_readers, inputs_given, map_length}
use Rattle.world_rest.proofs.Seen.{length_seen}
use Rattle.world_rest.proofs.Wired.{wired_world}

pub is_whole : (F : Functions) (w : World) → Facts F w → IsWhole w
is_whole F w f =
    record {
      wired = subst (λ n. IsWired n (wires_of w)) (length_seen w 0 w.nodes) (wired_world F w f);
      inputs = λ n x at. sym (map_length (λ (p : Wire). p.send_state) (wires_in n (wires_of w))) ∙ inputs_given F w f n x at;
      readers = λ n x at. subst (HasReaders x.node.kind) (map_length (λ (p : Wire). p.receive_state) (wires_out n (wires_of w))) (has_readers F w f n x at);
    }
