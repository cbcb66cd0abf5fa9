-- From the laws of all kinds: every reached world keeps all promises.
use Rattle.std.proofs.Common.{◌≡◌, ℕ, Some, sym, subst}
use Rattle.std.specs.Prelude.{slice_get}
use Rattle.ps_frame.specs.Functions.{Functions}
use Rattle.ps_frame.specs.Tables.{Table}
use Rattle.ps_meaning.specs.Shape.{IsPhysicalChoice, PhysicalKind, PhysicalNode, Shape}
use Rattle.ps_meaning.specs.Sound.{IsSound}
use Rattle.ps_options.specs.declared.options.Options.{Options}
use Rattle.ps_world.specs.Opening.{Reaches, opening}
use Rattle.ps_world.specs.World.{World}
use Rattle.world_bounds.proofs.Flight.{is_bounded_flight}
use Rattle.world_bounds.proofs.Givers.{reached_givers}
use Rattle.world_bounds.proofs.Rooms.{reached_room}
use Rattle.world_bounds.proofs.Spent.{claims_all}
use Rattle.world_claims.proofs.ReachedFacts.{known_reached}
use Rattle.world_ends.specs.Runs.{IsNeverStuck, ReachesEnd}
use Rattle.world_facts.proofs.Dropping.{drops_at_last}
use Rattle.world_facts.proofs.HandedOnce.{is_claimed_once}
use Rattle.world_facts.proofs.StoresFew.{stores_few}
use Rattle.world_flight.proofs.Halted.{stays_halted}
use Rattle.world_flight.proofs.Paid.{hands_all_in}
use Rattle.world_measure.specs.Driving.{StepsTo}
use Rattle.world_measure.specs.Order.{Ends}
use Rattle.world_laws.proofs.Answered.{in_shape}
use Rattle.world_families.specs.Examples.{two_workers}
use Rattle.world_families.specs.Holds.{HoldsOfKind}
use Rattle.world_families.specs.Kinds.{IsStreaming}
use Rattle.family_keeps.proofs.Served.{node_holds}
use Rattle.orderly_worlds.proofs.Reaching.{fresh_reached}
use Rattle.streaming_promises.specs.Kept.{KeepsPromises, SinksHold}
use Rattle.run_promises.proofs.Together.{answered, pieces_have_results, served}
use Rattle.run_promises.specs.NodeLaws.{ReachedLaw}

sinks_hold : (F : Functions) (shape : Shape) (o : Options) (w : World) → IsSound F shape → Reaches F shape o w → SinksHold w
sinks_hold F shape o w sound r n node there kind =
    subst (HoldsOfKind F w n node) kind (node_holds F shape o w sound r n node.node (in_shape w n node there) (subst IsStreaming (sym kind) tt) node there).own

module _ (F : Functions) (K : PhysicalKind → Type 0) (law : ReachedLaw F K) (shape : Shape) (sound : IsSound F shape) (covered : (n : ℕ) (p : PhysicalNode) → slice_get shape n ≡ Some p → K p.kind) where
  pub promised : (o : Options) (w : World) → Reaches F shape o w → IsNeverStuck F shape o → Ends (StepsTo F) w → ReachesEnd F w → KeepsPromises F shape w
  promised o w r stuck run_ends reaches =
      record {
        promises = record { served = served F K law shape o sound covered w r; answered = answered F K law shape o sound covered w r; never_stuck = stuck w r };
        sinks_hold = sinks_hold F shape o w sound r;
        claimed_once = is_claimed_once F shape sound o w r;
        hands_all_in = hands_all_in F shape o w sound r;
        all_claimed = claims_all F shape o w sound r;
        drops = drops_at_last F w;
        stays_halted = stays_halted F w (known_reached F shape o w sound r);
        bounded = is_bounded_flight F w (known_reached F shape o w sound r) (reached_room F shape o w r) (reached_givers F shape o w sound r);
        stores_few = stores_few F shape o w r;
        piece_results = λ q c. pieces_have_results F K law shape o sound covered w q r c;
        run_ends = run_ends;
        reaches_end = reaches;
      }

  -- before anything is sent, what serves all pipes is any choice of tables
  pub some_choice : (choice : ℕ → Table) × IsPhysicalChoice F shape choice × ((n : ℕ) (p : PhysicalNode) → slice_get shape n ≡ Some p → (choice n).schema ≡ p.schema)
  some_choice = let s = served F K law shape two_workers sound covered (opening shape two_workers) (fresh_reached F shape two_workers) in (s.choice, s.chosen, s.schemas)
