-- Joins that are made, fed, claimed and told have the ports of their kind.
use Rattle.std.proofs.Common.{◌≡◌, ◌+◌, ℕ, refl, sym, ap, subst}
use Rattle.made_tables.specs.Joinable.{CanJoin}
use Rattle.ps_frame.specs.Lawful.{stacked}
use Rattle.ps_frame.specs.Tables.{Fields, Frame}
use Rattle.ps_meaning.specs.Schemas.{first_schema, second_schema}
use Rattle.ps_meaning.specs.Shape.{PhysicalKind, in_memory_join}
use Rattle.ps_meaning.specs.Steps.{JoinStep}
use Rattle.ps_nodes.specs.Seen.{IsNewJoin}
use Rattle.ps_nodes.specs.Told.{IsToldOf}
use Rattle.ps_nodes.specs.declared.flow.FlowNode.{FlowNode}
use Rattle.ps_nodes.specs.declared.flow.FlowNode.TheVariants as flow
use Rattle.ps_nodes.specs.declared.in_memory_join.InMemoryJoinNode.{InMemoryJoinNode}
use Rattle.ps_options.specs.declared.options.Options.{Options}
use Rattle.turn_laws.specs.Updating.{SeenNode}
use Rattle.flow_trials.specs.Tested.{HasInputs, texts}

abbrev join_in : JoinStep → PhysicalKind → JoinStep
join_in j (in_memory_join o) = o
join_in j _ = j

module _ (n : InMemoryJoinNode) (j : JoinStep) (l r s : Fields) (new : IsNewJoin j l r s (flow.InMemoryJoin n)) where
  pub join_inputs : CanJoin j l r s → HasInputs 2 (flow.InMemoryJoin n)
  join_inputs can =
      record { ports = ((refl, subst (λ (x : SeenNode). CanJoin (join_in j x.node.kind) (first_schema x.schemas) (second_schema x.schemas) x.node.schema) (sym new) can), refl) }

  pub join_unclaimed : n.made.sent ≡ 0
  join_unclaimed = ap (λ (x : SeenNode). x.progress.sent) new

join-by : (P : FlowNode → Type 0) (a : InMemoryJoinNode) (pieces : ℕ) (b : FlowNode) → IsToldOf (flow.InMemoryJoin a) pieces b → ((o : Options) → P (flow.InMemoryJoin (record a { made = record a.made { options = o } }))) → P b
join-by P a pieces (flow.InMemoryJoin b) t p = subst (λ (x : InMemoryJoinNode). P (flow.InMemoryJoin x)) (sym t.1) (p b.made.options)
join-by P a pieces (flow.Filter b) t p = subst P (sym t) (p a.made.options)
join-by P a pieces (flow.Select b) t p = subst P (sym t) (p a.made.options)
join-by P a pieces (flow.InputIndependentSelect b) t p = subst P (sym t) (p a.made.options)
join-by P a pieces (flow.SimpleProjection b) t p = subst P (sym t) (p a.made.options)
join-by P a pieces (flow.WithRowIndex b) t p = subst P (sym t) (p a.made.options)
join-by P a pieces (flow.Map b) t p = subst P (sym t) (p a.made.options)
join-by P a pieces (flow.StreamingSlice b) t p = subst P (sym t) (p a.made.options)
join-by P a pieces (flow.NegativeSlice b) t p = subst P (sym t) (p a.made.options)
join-by P a pieces (flow.InMemorySource b) t p = subst P (sym t) (p a.made.options)
join-by P a pieces (flow.OrderedUnion b) t p = subst P (sym t) (p a.made.options)
join-by P a pieces (flow.Multiplexer b) t p = subst P (sym t) (p a.made.options)
join-by P a pieces (flow.InMemorySink b) t p = subst P (sym t) (p a.made.options)
join-by P a pieces (flow.Zip b) t p = subst P (sym t) (p a.made.options)
join-by P a pieces (flow.Reduce b) t p = subst P (sym t) (p a.made.options)
join-by P a pieces (flow.GroupBy b) t p = subst P (sym t) (p a.made.options)
join-by P a pieces (flow.InMemoryMap b) t p = subst P (sym t) (p a.made.options)
join-by P a pieces (flow.EquiJoin b) t p = subst P (sym t) (p a.made.options)

pub join_told_inputs : (a : InMemoryJoinNode) (pieces : ℕ) (b : FlowNode) → IsToldOf (flow.InMemoryJoin a) pieces b → HasInputs 2 (flow.InMemoryJoin a) → HasInputs 2 b
join_told_inputs a pieces b t h = join-by (HasInputs 2) a pieces b t (λ o. record { ports = h.ports })

-- a new one of the trials
pub joins : (n : InMemoryJoinNode) (j i : JoinStep) (l r s : Fields) → IsNewJoin j l r s (flow.InMemoryJoin n) → j ≡ i → l ≡ texts → r ≡ texts → s ≡ texts → CanJoin i texts texts texts → HasInputs 2 (flow.InMemoryJoin n)
joins n j i l r s new is left right given can =
    join_inputs n j l r s new
    (subst (λ (x : JoinStep). CanJoin x l r s) (sym is)
    (subst (λ (x : Fields). CanJoin i x r s) (sym left) (subst (λ (x : Fields). CanJoin i texts x s) (sym right) (subst (λ (x : Fields). CanJoin i texts texts x) (sym given) can))))

-- one of which one morsel more was claimed
pub join_claimed_inputs : (a b : InMemoryJoinNode) → b ≡ record a { made = record a.made { sent = a.made.sent + 1 } } → HasInputs 2 (flow.InMemoryJoin a) → HasInputs 2 (flow.InMemoryJoin b)
join_claimed_inputs a b is h = subst (λ (n : InMemoryJoinNode). HasInputs 2 (flow.InMemoryJoin n)) (sym is) (record { ports = h.ports })

-- one that stored rows of its left input, and of its right one
pub join_left_inputs : (a b : InMemoryJoinNode) (f : Frame) → b ≡ record a { left = stacked a.left f } → HasInputs 2 (flow.InMemoryJoin a) → HasInputs 2 (flow.InMemoryJoin b)
join_left_inputs a b f is h = subst (λ (n : InMemoryJoinNode). HasInputs 2 (flow.InMemoryJoin n)) (sym is) (record { ports = h.ports })

pub join_right_inputs : (a b : InMemoryJoinNode) (f : Frame) → b ≡ record a { right = stacked a.right f } → HasInputs 2 (flow.InMemoryJoin a) → HasInputs 2 (flow.InMemoryJoin b)
join_right_inputs a b f is h = subst (λ (n : InMemoryJoinNode). HasInputs 2 (flow.InMemoryJoin n)) (sym is) (record { ports = h.ports })
