-- The hand-in of a piece that a worker has.
use Rattle.std.proofs.Common.{◌≡◌, ℕ, Bool, true, false, List, length, Option, None, Some, refl, sym, ap, subst, ◌∙◌}
use Rattle.std.specs.Prelude.{slice_get, slice_set}
use Rattle.std.proofs.lemmas.List.{length-set}
use Rattle.ps_flow.specs.Handing.{MayHandIn}
use Rattle.ps_flow.specs.Standing.{EndsAs, Stands}
use Rattle.ps_frame.specs.Functions.{Functions}
use Rattle.ps_frame.specs.Tables.{Fields, Row}
use Rattle.ps_frame.specs.declared.refusal.PolarsError.{PolarsError}
use Rattle.ps_meaning.specs.Errors.{cause_error}
use Rattle.ps_meaning.specs.Shape.{PhysicalNode, Shape}
use Rattle.ps_options.specs.declared.options.Options.{Options}
use Rattle.ps_settle.proofs.Members.{at_both}
use Rattle.ps_turns.specs.Results.{IsResult}
use Rattle.ps_turns.specs.Tasks.{Answer, Piece, good, handed_of}
use Rattle.ps_world.specs.Answers.{answered}
use Rattle.ps_world.specs.Step.{Steps}
use Rattle.ps_world.specs.World.{Ending, Node, Record, World, faulty, finished, handed_in, running}
use Rattle.turn_laws.specs.Updating.{SeenNode}
use Rattle.world_facts.proofs.FromFacts.{piece_nodes, pieces_open}
use Rattle.worker_pieces.proofs.Holding.{handed_held}
use Rattle.flow_driver.proofs.Reached.{finished_is_shut, node_in_shape, one_more}
use Rattle.flow_driver.proofs.Standing.{facts_at, stands_at, streams_at}
use Rattle.flow_driver.proofs.Streaming.{not_multiplexer}
use Rattle.worker_pieces.specs.Held.{AreHeld, HasPiece}
use Rattle.flow_driver.specs.Runs.{HasHandedIn, IsAt}
use Rattle.flow_driver.specs.declared.run.Run.{Run}

-- a run without a fault that isn't finished goes on
pub still_runs : (e : Ending) (f : Bool) (x : Option PolarsError) → EndsAs e f x → x ≡ None → (e ≡ finished → ⊥) → e ≡ running
still_runs running f x m none other = refl
still_runs finished f x m none other = absurd (other refl)
still_runs (faulty c) f x m none other = absurd (let clash : None ≡ Some (cause_error c) = sym none ∙ m.1 in cc)

module _ {N P : Type 0} (Has : Options → N → SeenNode → Type 0) (Shows : Piece → P → Type 0) (IsFor : Functions → PhysicalNode → P → Type 0) (F : Functions) (shape : Shape) (o : Options) (w : World) (run : Run N P)
    (at : IsAt Has Shows IsFor F shape o w run) (unmarked : run.world.fault ≡ None) (worker : ℕ) (piece : P) (there : slice_get run.pieces.items worker ≡ Some (Some piece)) where
  pub has : HasPiece Shows IsFor F shape w worker piece
  has = (at.held unmarked) worker (Some piece) there

  abbrev q : Piece
  q = has.out

  abbrev node : Node
  node = (piece_nodes F w (facts_at F shape o w at.driven at.reached) q has.is_out).0

  node_at : slice_get w.nodes q.node ≡ Some node
  node_at = (piece_nodes F w (facts_at F shape o w at.driven at.reached) q has.is_out).1

  runs : w.ending ≡ running
  runs = still_runs w.ending run.world.is_finished run.world.fault (at.stands unmarked).ending unmarked shut
    where
      shut : w.ending ≡ finished → ⊥
      shut e = absurd (let clash : true ≡ false = sym (pieces_open F w (facts_at F shape o w at.driven at.reached) q has.is_out) ∙ finished_is_shut F shape o w at.reached e in cc)

  -- its node is the one that it may be computed for
  same_node : has.node ≡ node.node
  same_node = at_both shape q.node has.node node.node has.there (node_in_shape F shape o w at.reached q.node node node_at)

  pub may_hand_in : MayHandIn F w q node
  may_hand_in =
      record {
        facts = facts_at F shape o w at.driven at.reached;
        runs = runs;
        out = has.is_out;
        here = node_at;
        goes_on = has.goes_on;
        single = not_multiplexer node.node.kind (streams_at F shape o w at.driven at.reached q.node node node_at);
      }

  pub some_hand_in : (G : Functions) × (u : World) × (p : Piece) × (x : Node) × Stands Has u run.world × MayHandIn G u p x × Shows p piece
  some_hand_in = (F, w, q, node, at.stands unmarked, may_hand_in, has.shows)

  -- what was handed in for it
  pub has_handed_in : (next : Run N P) (a : Answer) (schema : Fields)
      → ((p : Piece) → Shows p piece → IsResult F p a)
      → ((p : PhysicalNode) (rs : List Row) → IsFor F p piece → a ≡ good rs → schema ≡ p.schema)
      → ((u : World) (p : Piece) (x : Node) → Stands Has u run.world → MayHandIn F u p x → Shows p piece → ((rs : List Row) → a ≡ good rs → schema ≡ x.node.schema) → Stands Has (answered u p a) next.world)
      → next.pieces.items ≡ slice_set run.pieces.items worker None
      → HasHandedIn Has Shows IsFor F shape o w worker next
  has_handed_in next a schema result of_schema gives same =
      let v : World = answered w q a in
      let r : Record = handed_in q.node q.input q.number q.worker (handed_of a) in
      let s : Steps F w r v = (q, has.is_out, refl, refl, refl, refl, runs, (a, result q has.shows, refl, refl)) in
      let stands = gives w q node (at.stands unmarked) may_hand_in has.shows (λ rs e. of_schema has.node rs has.suits e ∙ ap (λ (p : PhysicalNode). p.schema) same_node) in
      let held : AreHeld Shows IsFor F shape v next.pieces.items = subst (AreHeld Shows IsFor F shape v) (sym same)
      (handed_held Shows IsFor F shape w v run.pieces.items (at.held unmarked) worker q has.worker refl (Some piece) there) in
      (r, v, has.worker, s, stands_at Has Shows IsFor F shape o v at.driven (one_more F shape o w at.reached r v s) next (ap length same ∙ length-set run.pieces.items worker None ∙ at.seats) stands held)
