-- Updates of nodes that pass, from what they answer.
use Rattle.std.proofs.Common.{◌≡◌, length, refl}
use Rattle.std.specs.Prelude.{IsTrue}
use Rattle.node_states.specs.States.{IsPassing, is_passing}
use Rattle.node_states.specs.Views.{NodeView, answer_to}
use Rattle.plain_nodes.proofs.Updated.{stays_update}
use Rattle.plain_nodes.specs.Plain as plain
use Rattle.ps_nodes.specs.Seen.{Updates, kind_of, view_of}
use Rattle.ps_nodes.specs.declared.flow.FlowNode.{FlowNode}
use Rattle.ps_nodes.specs.declared.flow.FlowNode.TheVariants as flow
use Rattle.ps_ports.specs.Ports.{Sides}

-- a node that passes
pub passing_update : (a : FlowNode) (given answer : Sides) → IsTrue (is_passing (kind_of a)) → length given.inputs ≡ 1 → length given.outputs ≡ 1 → ((n : NodeView) → IsPassing n → answer ≡ answer_to given n) → Updates a given a answer
passing_update (flow.Filter n) given answer h i o is = stays_update (plain.filter n) given answer i o refl refl refl (is (view_of (flow.Filter n) given) refl)
passing_update (flow.Select n) given answer h i o is = stays_update (plain.select n) given answer i o refl refl refl (is (view_of (flow.Select n) given) refl)
passing_update (flow.SimpleProjection n) given answer h i o is = stays_update (plain.simple_projection n) given answer i o refl refl refl (is (view_of (flow.SimpleProjection n) given) refl)
passing_update (flow.WithRowIndex n) given answer h i o is = stays_update (plain.with_row_index n) given answer i o refl refl refl (is (view_of (flow.WithRowIndex n) given) refl)
passing_update (flow.Map n) given answer h i o is = stays_update (plain.map n) given answer i o refl refl refl (is (view_of (flow.Map n) given) refl)
passing_update a given answer h i o is = absurd (cc)
