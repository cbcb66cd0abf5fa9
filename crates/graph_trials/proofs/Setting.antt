-- A graph whose pipes say something else is linked as it was.
use Rattle.std.proofs.Common.{◌≡◌, ℕ, length, Option, Some, None, sym, refl, ap, subst, ◌∙◌, List}
use Rattle.std.specs.Prelude.{IfNone, IfSome, IsTrue, map, slice_set}
use Rattle.keyed_slots.specs.Slots.{SlotList, value_at}
use Rattle.ps_ports.specs.declared.port_state.PortState.{PortState}
use Rattle.ps_settle.proofs.Members.{map_at}
use Rattle.ps_settle.proofs.Passes.{length_set}
use Rattle.ps_graph.specs.declared.graph.Graph.{Graph}
use Rattle.ps_graph.specs.declared.graph.LogicalPipe.{LogicalPipe}
use Rattle.ps_graph.specs.Linked.{JoinAlike, joined}
use Rattle.ps_graph.specs.Shown.{IsLinked, are_there, values}
use Rattle.ps_graph.proofs.Places.{value_there}
use Rattle.ps_graph.proofs.Turning.{linked_alike, map_set, set_same, there_set, values_set}

pub linked_set : {N : Type 0} (g g' : Graph N) → IsLinked g → (k : ℕ) (old new : LogicalPipe) → value_at g.pipes.slots k ≡ Some old → joined new ≡ joined old → g'.nodes.slots ≡ g.nodes.slots → g'.pipes.slots ≡ slice_set g.pipes.slots k (Some new)
    → IsLinked g'
linked_set g g' linked k old new stood same nodes pipes =
    linked_alike g g' linked (subst (λ l. IsTrue (are_there l)) (sym nodes) linked.nodes_there) (ap length nodes)
    (record {
      there = subst (λ l. IsTrue (are_there l)) (sym pipes) (there_set g.pipes.slots k new linked.pipes_there);
      long = ap length pipes ∙ length_set g.pipes.slots k (Some new);
      alike =
          ap (λ l. map joined (values l)) pipes ∙ ap (map joined) (values_set g.pipes.slots k new linked.pipes_there) ∙ map_set joined (values g.pipes.slots) k new
          ∙ set_same (map joined (values g.pipes.slots)) k (joined new) (map_at joined (values g.pipes.slots) k old (sym (value_there g.pipes.slots linked.pipes_there k) ∙ stood) ∙ ap Some (sym same));
    })
    (λ n x e. (x, ap (λ l. value_at l n) (sym nodes) ∙ e, refl, refl))

-- the same where the pipe may be missing
pub linked_said : {N : Type 0} (g : Graph N) (pipes : SlotList LogicalPipe) (k : ℕ) (sent received : PortState) → IsLinked g
    → IfSome (value_at g.pipes.slots k) (λ p. pipes.slots ≡ slice_set g.pipes.slots k (Some (record p { send_state = sent; recv_state = received }))) → IfNone (value_at g.pipes.slots k) (pipes.slots ≡ g.pipes.slots) → IsLinked (record g { pipes = pipes })
linked_said g pipes k sent received linked said unknown = by (value_at g.pipes.slots k) refl said unknown
  where
    by : (v : Option LogicalPipe) → value_at g.pipes.slots k ≡ v → IfSome v (λ p. pipes.slots ≡ slice_set g.pipes.slots k (Some (record p { send_state = sent; recv_state = received }))) → IfNone v (pipes.slots ≡ g.pipes.slots) → IsLinked (record g { pipes = pipes })
    by (Some p) e write same = linked_set g (record g { pipes = pipes }) linked k p (record p { send_state = sent; recv_state = received }) e refl refl write
    by None e write same =
        linked_alike g (record g { pipes = pipes }) linked linked.nodes_there refl (record { there = subst (λ l. IsTrue (are_there l)) (sym same) linked.pipes_there; long = ap length same; alike = ap (λ l. map joined (values l)) same })
        (λ n x d. (x, d, refl, refl))
