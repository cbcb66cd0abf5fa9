-- What is known of the world that a run is at, and how a run comes to be at one.
use Rattle.std.proofs.Common.{◌≡◌, ℕ, [], None, Some, length, refl, sym, ap, subst, ◌∙◌}
use Rattle.std.specs.Prelude.{replicate, slice_get}
use Rattle.std.proofs.lemmas.List.{length-replicate}
use Rattle.flow_moves.specs.Moves.{MayPick}
use Rattle.ps_flow.specs.Claiming.{AllStream}
use Rattle.ps_flow.specs.Openings.{IsPlain, Tells}
use Rattle.ps_flow.specs.Standing.{Stands}
use Rattle.ps_flow.specs.declared.world.World.{World as Held}
use Rattle.ps_frame.specs.Functions.{Functions}
use Rattle.ps_meaning.specs.Shape.{PhysicalNode, Shape}
use Rattle.ps_options.specs.declared.options.Options.{Options}
use Rattle.ps_turns.specs.Tasks.{Piece}
use Rattle.ps_world.specs.Facts.{Facts}
use Rattle.ps_world.specs.Opening.{Reaches, opening}
use Rattle.ps_world.specs.World.{Node, World}
use Rattle.turn_laws.specs.Updating.{SeenNode}
use Rattle.world_claims.proofs.ReachedFacts.{known_reached}
use Rattle.world_families.specs.Kinds.{IsStreaming}
use Rattle.worker_pieces.proofs.Holding.{none_held}
use Rattle.flow_driver.proofs.Reached.{node_in_shape}
use Rattle.flow_driver.proofs.Streaming.{all_plain, all_stream}
use Rattle.worker_pieces.specs.Held.{AreHeld}
use Rattle.flow_driver.specs.Runs.{CanBeDriven, IsAt}
use Rattle.flow_driver.specs.declared.run.Run.{Run}

pub tells_of : {N : Type 0} (Has : Options → N → SeenNode → Type 0) (w : World) (h : Held N) → Stands Has w h → Tells w h
tells_of Has w h s = record { options = s.options; outs = s.outs; phase = s.phase; open_as = s.open_as; journal = s.journal; spare = s.spare; ending = s.ending }

module _ (F : Functions) (shape : Shape) (o : Options) (w : World) (driven : CanBeDriven F shape) (reached : Reaches F shape o w) where
  pub streams_at : (n : ℕ) (x : Node) → slice_get w.nodes n ≡ Some x → IsStreaming x.node.kind
  streams_at n x at = driven.streaming n x.node (node_in_shape F shape o w reached n x at)

  pub facts_at : Facts F w
  facts_at = (known_reached F shape o w driven.sound reached).facts

  pub all_stream_at : AllStream w
  all_stream_at = λ n x at. all_stream x.node.kind (streams_at n x at)

  pub plain_at : IsPlain w
  plain_at = λ n x at. all_plain x.node.kind (streams_at n x at)

  pub may_pick_at : MayPick F w
  may_pick_at = record { facts = facts_at; all_stream = all_stream_at }

module _ {N P : Type 0} (Has : Options → N → SeenNode → Type 0) (Shows : Piece → P → Type 0) (IsFor : Functions → PhysicalNode → P → Type 0) (F : Functions) (shape : Shape) (o : Options) (w : World) (driven : CanBeDriven F shape) (reached : Reaches F shape o w) where
  pub stands_at : (run : Run N P) → length run.pieces.items ≡ o.workers → Stands Has w run.world → AreHeld Shows IsFor F shape w run.pieces.items → IsAt Has Shows IsFor F shape o w run
  stands_at run seats stands held = record { driven = driven; reached = reached; tells = tells_of Has w run.world stands; seats = seats; stands = λ none. stands; held = λ none. held }

  -- a run that can't go on
  pub over_at : (run : Run N P) → length run.pieces.items ≡ o.workers → Tells w run.world → (run.world.fault ≡ None → ⊥) → IsAt Has Shows IsFor F shape o w run
  over_at run seats tells marked = record { driven = driven; reached = reached; tells = tells; seats = seats; stands = λ none. absurd (marked none); held = λ none. absurd (marked none) }

-- a run that begins
pub begun_at : {N P : Type 0} (Has : Options → N → SeenNode → Type 0) (Shows : Piece → P → Type 0) (IsFor : Functions → PhysicalNode → P → Type 0) (F : Functions) (shape : Shape) (o : Options) → CanBeDriven F shape → (run : Run N P) → run.pieces.items ≡ replicate o.workers None
    → Stands Has (opening shape o) run.world → IsAt Has Shows IsFor F shape o (opening shape o) run
begun_at Has Shows IsFor F shape o driven run none stands =
    let held = subst (AreHeld Shows IsFor F shape (opening shape o)) (sym none) (none_held Shows IsFor F shape (opening shape o) o.workers refl) in
    stands_at Has Shows IsFor F shape o (opening shape o) driven ([], refl) run (ap length none ∙ length-replicate o.workers None) stands held
