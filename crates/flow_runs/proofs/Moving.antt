-- Which nodes don't pull.
use Rattle.std.proofs.Common.{◌≡◌, Bool, true, false, refl}
use Rattle.node_work.specs.Stored.{Morsels}
use Rattle.node_work.specs.declared.work.Work.TheVariants as work
use Rattle.ps_options.specs.declared.options.Options.{Options}
use Rattle.ps_turns.specs.Pulls.{pulls}
use Rattle.turn_laws.specs.Updating.{SeenNode}
use Rattle.flow_runs.proofs.Held.{pulls_alone, stores_alone}
use Rattle.flow_runs.specs.Running.{Has}
use Rattle.flow_runs.specs.declared.node.RunningNode.{RunningNode}

-- of the nodes that stream a sink alone pulls, and it stores
pub others_claim : (n : RunningNode) → ((m : Morsels) → n.work ≡ work.Stores m → ⊥) → (o : Options) (x : SeenNode) → Has o n x → false ≡ pulls x.node.kind
others_claim n not o x h = by (pulls x.node.kind) refl
  where
    by : (b : Bool) → pulls x.node.kind ≡ b → false ≡ b
    by true e = absurd (let s = stores_alone n.work x.node x.progress (pulls_alone x.node.kind h.is.streams e) h.is.does in not s.0 s.1)
    by false e = refl
