-- Updates of nodes, from what they answer.
use Rattle.std.proofs.Common.{◌≡◌, false, not, length, None, refl, sym, ap, inl}
use Rattle.node_states.specs.Views.{answer_to}
use Rattle.plain_nodes.specs.Plain.{PlainNode}
use Rattle.plain_nodes.specs.Seen.{Updates, kind_of, options_of, progress_of, seen, view_of}
use Rattle.ps_meaning.specs.Sound.{HasInputs, HasReaders}
use Rattle.ps_ports.specs.Ports.{Sides}
use Rattle.ps_turns.specs.Updates.{shape_fault, stage_after, starts_giving}
use Rattle.turn_laws.specs.Updating.{heads_seen}

-- a node that stays in its stage, and answers by its row
pub stays_update : (a : PlainNode) (given answer : Sides) → HasInputs (kind_of a) (length given.inputs) → HasReaders (kind_of a) (length given.outputs)
    → shape_fault (seen a).node (kind_of a) (heads_seen (seen a) given) given ≡ None → stage_after (options_of a) (kind_of a) (progress_of a) given ≡ (progress_of a).stage
    → starts_giving (options_of a) (kind_of a) (progress_of a) given ≡ false → answer ≡ answer_to given (view_of a given) → Updates a given a answer
stays_update a given answer inputs outputs agrees stays none is =
    record {
      update = record { ports = (inputs, outputs); agrees = agrees; turns = inl (ap not none, ap (λ s. record (progress_of a) { stage = s }) (sym stays)); others = refl; answers = is };
      options = refl;
      ports = λ i o p. p;
    }
