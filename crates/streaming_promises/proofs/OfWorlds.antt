-- From what holds of nodes of a shape to nodes of a world that it reaches.
use Rattle.std.proofs.Common.{◌≡◌, ℕ, Some, refl, sym, ap, subst, ◌∙◌}
use Rattle.std.specs.Prelude.{Contains, slice_get}
use Rattle.ps_frame.specs.Functions.{Functions}
use Rattle.ps_meaning.specs.Shape.{PhysicalNode, Shape}
use Rattle.ps_meaning.specs.Sound.{IsSound}
use Rattle.ps_options.specs.declared.options.Options.{Options}
use Rattle.ps_turns.specs.Results.{IsResult}
use Rattle.ps_turns.specs.Tasks.{Answer, Piece}
use Rattle.ps_world.specs.Opening.{Reaches, opening}
use Rattle.ps_world.specs.World.{Node, World, shape_of}
use Rattle.world_claims.proofs.ReachedFacts.{known_reached}
use Rattle.world_claims.specs.Numbering.{Known}
use Rattle.world_facts.proofs.ClaimedOnce.{replay_shape}
use Rattle.world_facts.proofs.FromFacts.{piece_nodes}
use Rattle.world_laws.proofs.Answered.{in_shape}
use Rattle.world_laws.proofs.Induction.{opening_shape}
use Rattle.world_ends.specs.Runs.{PiecesHaveResults}
use Rattle.world_families.specs.Holds.{Holds, HoldsOfKind}
use Rattle.world_families.specs.Kinds.{IsStreaming}
use Rattle.streaming_promises.specs.Kept.{EachPieceHasResult, SinksHold}

-- what a node of each number keeps, and a result for each of its pieces
abbrev pub AllHold : Functions → World → Type 0
AllHold F w = (n : ℕ) (p : PhysicalNode) → slice_get (shape_of w) n ≡ Some p → IsStreaming p.kind → Holds F w n

abbrev pub AllEnd : Functions → World → Type 0
AllEnd F w = (n : ℕ) (node : Node) (q : Piece) → slice_get w.nodes n ≡ Some node → IsStreaming node.node.kind → Contains w.outs q → q.node ≡ n → (a : Answer) × IsResult F q a

module _ (F : Functions) (shape : Shape) (o : Options) (w : World) (sound : IsSound F shape) (r : Reaches F shape o w) where
  same_shape : shape_of w ≡ shape
  same_shape = replay_shape F (opening shape o) w r.0 r.1 ∙ opening_shape shape

  known : Known F w
  known = known_reached F shape o w sound r

  pub sinks_hold : AllHold F w → SinksHold w
  sinks_hold all n node there kind =
      let holds = all n node.node (in_shape w n node there) (subst IsStreaming (sym kind) tt) in
      subst (HoldsOfKind F w n node) kind (holds node there).own

  pub each_has_result : ((n : ℕ) (p : PhysicalNode) → slice_get shape n ≡ Some p → IsStreaming p.kind) → AllEnd F w → EachPieceHasResult F w
  each_has_result streams all q cq =
      let at = piece_nodes F w known.facts q cq in
      all q.node at.0 q at.1 (streams q.node at.0.node (ap (λ ps. slice_get ps q.node) (sym same_shape) ∙ in_shape w q.node at.0 at.1)) cq refl

pub pieces_have_results : (F : Functions) (shape : Shape) (o : Options) → IsSound F shape → ((n : ℕ) (p : PhysicalNode) → slice_get shape n ≡ Some p → IsStreaming p.kind) → ((w : World) → Reaches F shape o w → AllEnd F w) → PiecesHaveResults F shape o
pieces_have_results F shape o sound streams all w q r cq = each_has_result F shape o w sound r streams (all w r) q cq
