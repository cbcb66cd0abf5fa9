-- A run that can't go on is at its end, and each step makes its journal longer.
use Rattle.std.proofs.Common.{◌≡◌, ◌≢◌, ◌⊎◌, ℕ, ◌+◌, ◌<◌, List, [], length, Option, None, Some, inl, inr, refl, sym, ap, subst, ◌∙◌, arith}
use Rattle.std.specs.Prelude.{Contains, slice_get}
use Rattle.ps_frame.specs.Functions.{Functions}
use Rattle.ps_meaning.specs.Shape.{PhysicalNode, Shape}
use Rattle.ps_options.specs.declared.options.Options.{Options}
use Rattle.ps_settle.proofs.Members.{item_at, length_map, none_in_nil}
use Rattle.ps_turns.specs.Tasks.{Piece}
use Rattle.ps_world.specs.Laws.{IsOut, MayStep}
use Rattle.ps_world.specs.Step.{Steps}
use Rattle.ps_world.specs.World.{Ending, Record, World, claimed, closed, ended, faulty, finished, handed_in, opened, pulled, running}
use Rattle.turn_laws.specs.Updating.{SeenNode}
use Rattle.world_records.specs.Shown.{IsEnabled, journal_shown, record_shown}
use Rattle.world_records.specs.declared.records.Move.{Move}
use Rattle.world_records.specs.declared.records.Record.{Record as Written}
use Rattle.world_records.specs.declared.records.Move.TheVariants as turn
use Rattle.worker_pieces.proofs.Changed.{longer}
use Rattle.flow_driver.proofs.HandIns.{still_runs}
use Rattle.worker_pieces.proofs.Holding.{none_out}
use Rattle.flow_driver.proofs.Reached.{same_options}
use Rattle.flow_driver.proofs.Standing.{facts_at}
use Rattle.flow_driver.specs.Runs.{IsAt}
use Rattle.flow_driver.specs.declared.run.Run.{Run}

-- a step is a move, or hands in a piece that is out
no_step : (F : Functions) (w : World) → w.outs ≡ [] → ((m : Move) → IsEnabled F w m → ⊥) → MayStep F w → ⊥
no_step F w none moves may = by may.0 may.1 may.2
  where
    by : (r : Record) (v : World) → Steps F w r v → ⊥
    by (opened k) v s = moves turn.Open (opened k, v, refl, s)
    by (claimed n i k worker) v s = moves (turn.Claim n i) (claimed n i k worker, v, refl, s)
    by (pulled n i k) v s = moves (turn.Pull n i) (pulled n i k, v, refl, s)
    by (closed n) v s = moves (turn.Close n) (closed n, v, refl, s)
    by (ended k) v s = moves turn.End (ended k, v, refl, s)
    by (handed_in n i k worker a) v s = none_in_nil s.0 (subst (λ (qs : List Piece). Contains qs s.0) none s.1)

module _ {N P : Type 0} (Has : Options → N → SeenNode → Type 0) (Shows : Piece → P → Type 0) (IsFor : Functions → PhysicalNode → P → Type 0) (F : Functions) (shape : Shape) (o : Options) where
  module _ (w : World) (run : Run N P) (at : IsAt Has Shows IsFor F shape o w run) (unmarked : run.world.fault ≡ None) where
    -- a run without a fault that has no move, and of which no worker has a piece, is finished
    pub is_over : (w.ending ≡ running → MayStep F w ⊎ IsOut w) → ((m : Move) → IsEnabled F w m → ⊥) → ((k : ℕ) (piece : P) → slice_get run.pieces.items k ≢ Some (Some piece)) → w.ending ≡ finished
    is_over never_stuck moves idle = by w.ending refl
      where
        none : w.outs ≡ []
        none = none_out Shows IsFor F shape w run.pieces.items (at.seats ∙ ap (λ (x : Options). x.workers) (sym (same_options F shape o w at.reached))) (at.held unmarked) (facts_at F shape o w at.driven at.reached).workers idle

        stuck : MayStep F w ⊎ IsOut w → ⊥
        stuck (inl may) = no_step F w none moves may
        stuck (inr out) = out none

        by : (e : Ending) → w.ending ≡ e → w.ending ≡ finished
        by running e = absurd (stuck (never_stuck e))
        by finished e = e
        by (faulty c) e = absurd (let no_way : faulty c ≡ running = sym e ∙ still_runs w.ending run.world.is_finished run.world.fault (at.stands unmarked).ending unmarked (λ f. absurd (let clash : faulty c ≡ finished = sym e ∙ f in cc)) in cc)

  pub records_of : (w : World) (run : Run N P) → IsAt Has Shows IsFor F shape o w run → length run.world.journal.records ≡ length w.journal
  records_of w run at = sym (length_map record_shown run.world.journal.records) ∙ ap length at.tells.journal

  pub records_told : (w : World) (run : Run N P) → IsAt Has Shows IsFor F shape o w run → (rs : List Written) → journal_shown rs ≡ w.journal → length rs ≡ length run.world.journal.records
  records_told w run at rs is = sym (length_map record_shown rs) ∙ ap length is ∙ sym (records_of w run at)

  -- a step writes one record
  pub one_record : (w v : World) (r : Record) (run next : Run N P) → IsAt Has Shows IsFor F shape o w run → Steps F w r v → IsAt Has Shows IsFor F shape o v next → length next.world.journal.records ≡ length run.world.journal.records + 1
  one_record w v r run next before s after =
      let a = records_of w run before in
      let b = records_of v next after in
      let c = longer F w v r s in
      omega (arith, a, b, c)

-- a worker of whom there is a place, and who has no piece, is idle
pub idle_there : {P : Type 0} (ps : List (Option P)) (k : ℕ) → k < length ps → ((worker : ℕ) (piece : P) → slice_get ps worker ≢ Some (Some piece)) → slice_get ps k ≡ Some None
idle_there {P = P} ps k inside none = let slot = item_at ps k inside in by slot.0 slot.1
  where
    by : (x : Option P) → slice_get ps k ≡ Some x → slice_get ps k ≡ Some None
    by None at = at
    by (Some piece) at = absurd (none k piece at)
