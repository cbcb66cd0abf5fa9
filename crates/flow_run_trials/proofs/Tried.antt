-- Steps of a run that a trial drives.
use Rattle.std.proofs.Common.{◌≡◌, ℕ, Option, None, Some, refl, sym, subst}
use Rattle.std.specs.Prelude.{IfSome, slice_get}
use Rattle.flow_driver.specs.Runs.{HasHandedIn, HasMade, IsAt, MayMake}
use Rattle.flow_driver.specs.declared.run.Run.{Run}
use Rattle.ps_frame.specs.Functions.{Functions}
use Rattle.ps_frame.specs.declared.refusal.PolarsError.{PolarsError}
use Rattle.ps_meaning.specs.Shape.{PhysicalNode, Shape}
use Rattle.ps_options.specs.declared.options.Options.{Options}
use Rattle.ps_turns.specs.Tasks.{Piece}
use Rattle.ps_world.specs.World.{World}
use Rattle.turn_laws.specs.Updating.{SeenNode}
use Rattle.world_records.specs.Shown.{IsEnabled}
use Rattle.world_records.specs.declared.records.Move.{Move}
use Rattle.flow_run_trials.specs.Driven.{IsUnderWay}

module _ {N P : Type 0} (Has : Options → N → SeenNode → Type 0) (Shows : Piece → P → Type 0) (IsFor : Functions → PhysicalNode → P → Type 0) (F : Functions) (old new : Run N P) where
  -- at a further world
  pub goes_on : (u : IsUnderWay Has Shows IsFor F old) (v : World) → IsAt Has Shows IsFor F u.shape u.options v new → IsUnderWay Has Shows IsFor F new
  goes_on u v at = record { shape = u.shape; one_sink = u.one_sink; options = u.options; world = v; at = at }

  -- a piece was handed in, or nothing was done
  pub handed_on : (worker : ℕ) → IsUnderWay Has Shows IsFor F old → IfSome old.world.fault (λ (e : PolarsError). new ≡ old)
      → ((shape : Shape) (o : Options) (w : World) → IsAt Has Shows IsFor F shape o w old → old.world.fault ≡ None → HasHandedIn Has Shows IsFor F shape o w worker new) → IsUnderWay Has Shows IsFor F new
  handed_on worker u faulty handed = by old.world.fault refl faulty
    where
      by : (fault : Option PolarsError) → old.world.fault ≡ fault → IfSome fault (λ (e : PolarsError). new ≡ old) → IsUnderWay Has Shows IsFor F new
      by None is same = let h = handed u.shape u.options u.world u.at is in goes_on u h.1 h.4
      by (Some e) is same = subst (λ (r : Run N P). IsUnderWay Has Shows IsFor F r) (sym same) u

  -- a move that may be made
  pub may_make : (u : IsUnderWay Has Shows IsFor F old) (worker : ℕ) (m : Move) → old.world.fault ≡ None → slice_get old.pieces.items worker ≡ Some None → IsEnabled F u.world m → MayMake Has Shows IsFor F u.shape u.options u.world worker m old
  may_make u worker m free idle enabled = record { at = u.at; unmarked = free; idle = idle; enabled = enabled }

  pub moved_on : (u : IsUnderWay Has Shows IsFor F old) (m : Move) → HasMade Has Shows IsFor F u.shape u.options u.world m new → IsUnderWay Has Shows IsFor F new
  moved_on u m h = goes_on u h.1 h.4
