-- The answer of a finished run, and the error of a faulty one.
use Rattle.std.proofs.Common.{◌≡◌, ◌⊎◌, Bool, true, false, Option, None, Some, inl, inr, refl, sym, ap, subst, ◌∙◌}
use Rattle.std.specs.Prelude.{IfSome, IsSome, slice_get, unwrap_or}
use Rattle.ps_flow.specs.Openings.{IsSink, Tells, table_of}
use Rattle.ps_flow.specs.Standing.{EndsAs, IsUnmarred}
use Rattle.ps_flow.specs.declared.world.World.{World as Held}
use Rattle.ps_frame.specs.Causes.{Cause}
use Rattle.ps_frame.specs.Functions.{Functions}
use Rattle.ps_frame.specs.declared.refusal.PolarsError.{PolarsError}
use Rattle.ps_frame.specs.declared.refusal.PolarsError.TheVariants as error
use Rattle.ps_meaning.specs.Errors.{cause_error}
use Rattle.ps_meaning.specs.Shape.{PhysicalNode, Shape}
use Rattle.ps_options.specs.declared.options.Options.{Options}
use Rattle.ps_settle.proofs.Members.{at_both, at_map}
use Rattle.ps_turns.specs.Tasks.{Piece}
use Rattle.ps_world.specs.Laws.{Sent, sent_at}
use Rattle.ps_world.specs.Opening.{Reaches}
use Rattle.ps_world.specs.Promises.{HoldsMeaning, IsAnswered}
use Rattle.ps_world.specs.World.{Ending, Node, World, faulty, finished, running}
use Rattle.turn_laws.specs.Updating.{SeenNode}
use Rattle.world_laws.proofs.Answered.{sink_sent}
use Rattle.worker_pieces.proofs.Faults.{same_error}
use Rattle.flow_driver.proofs.Reached.{node_in_shape, same_shape}
use Rattle.worker_pieces.specs.Faults.{as_fault}
use Rattle.flow_driver.specs.Runs.{HasOneSink, IsAnswer, IsAt, IsFaultOf, error_at}
use Rattle.flow_driver.specs.declared.run.Run.{Run}

module _ (F : Functions) (shape : Shape) (o : Options) (w : World) (reached : Reaches F shape o w) (one : HasOneSink shape) where
  pub sink_there : (x : Node) × (slice_get w.nodes one.place ≡ Some x) × (x.node ≡ one.sink)
  sink_there = at_map (λ (x : Node). x.node) w.nodes one.place one.sink (ap (λ (s : Shape). slice_get s one.place) (same_shape F shape o w reached) ∙ one.there)

  abbrev pub the_sink : Node
  the_sink = sink_there.0

  pub is_sink : IsSink w one.place the_sink
  is_sink =
      record {
        there = sink_there.1;
        kind = ap (λ (p : PhysicalNode). p.kind) sink_there.2 ∙ one.kind;
        only = λ m y at kind. one.only m y.node (node_in_shape F shape o w reached m y at) kind;
      }

  pub is_answer : HoldsMeaning F shape w → IsAnswer F shape (table_of the_sink)
  is_answer means n p at kind =
      let here : n ≡ one.place = one.only n p at kind in
      let same : p ≡ one.sink = at_both shape one.place p one.sink (ap (slice_get shape) (sym here) ∙ at) one.there in
      let it = means n p at kind in
      let rows : (table_of the_sink).rows ≡ (sent_at w one.place 0).rows = ap (λ (x : Sent). x.rows) (sym (sink_sent w one.place the_sink sink_there.1 is_sink.kind)) in
      (ap (λ (x : PhysicalNode). x.schema) (sink_there.2 ∙ sym same), (it.0, it.1, it.2, rows ∙ ap (λ k. (sent_at w k 0).rows) (sym here) ∙ it.3))

-- the error that a run tells
pub told_fault : (F : Functions) (shape : Shape) (w : World) (x : Option PolarsError) → IsAnswered F shape w → ((c : Cause) → w.ending ≡ faulty c → x ≡ Some (cause_error c)) → ((w.ending ≡ running) ⊎ (w.ending ≡ finished) → IsUnmarred x)
    → IfSome x (λ e. (e ≡ error.OutOfMemory) ⊎ IsFaultOf F shape e)
told_fault F shape w x answered faults others = by w.ending refl
  where
    unmarred : (y : Option PolarsError) → IsUnmarred y → IfSome y (λ e. (e ≡ error.OutOfMemory) ⊎ IsFaultOf F shape e)
    unmarred None m = tt
    unmarred (Some e) (inl none) = absurd (let clash : Some e ≡ None = none in cc)
    unmarred (Some e) (inr short) = inl (let both : Some e ≡ Some error.OutOfMemory = short in cc)

    by : (e : Ending) → w.ending ≡ e → IfSome x (λ e. (e ≡ error.OutOfMemory) ⊎ IsFaultOf F shape e)
    by running is = unmarred x (others (inl is))
    by finished is = unmarred x (others (inr is))
    by (faulty c) is = subst (λ y. IfSome y (λ e. (e ≡ error.OutOfMemory) ⊎ IsFaultOf F shape e)) (sym (faults c is)) (inr (c, answered.1 c is, refl))

-- and that error once more
pub same_fault : (F : Functions) (shape : Shape) (e again : PolarsError) → again ≡ as_fault e → (e ≡ error.OutOfMemory) ⊎ IsFaultOf F shape e → (again ≡ error.OutOfMemory) ⊎ IsFaultOf F shape again
same_fault F shape e again is (inl short) = inl (is ∙ ap as_fault short)
same_fault F shape e again is (inr fault) = inr (fault.0, fault.1, is ∙ same_error e fault.0 fault.2)

-- WITH WHICH ERROR A RUN STOPS
abbrev error_told : Option PolarsError → PolarsError
error_told x = unwrap_or x error.OutOfMemory

or_short_of : (x : Option PolarsError) → IsUnmarred x → error_told x ≡ error.OutOfMemory
or_short_of x (inl none) = ap error_told none
or_short_of x (inr short) = ap error_told short

told_at : (e : Ending) (f : Bool) (x : Option PolarsError) → EndsAs e f x → error_told x ≡ error_at e
told_at running f x ends = or_short_of x ends.1
told_at finished f x ends = or_short_of x ends.1
told_at (faulty c) f x ends = ap error_told ends.1

-- the error that a run tells is that of its ending
pub told_error : (w : World) (x : Option PolarsError) → ((c : Cause) → w.ending ≡ faulty c → x ≡ Some (cause_error c)) → ((w.ending ≡ running) ⊎ (w.ending ≡ finished) → IsUnmarred x) → unwrap_or x error.OutOfMemory ≡ error_at w.ending
told_error w x faults others = by w.ending refl
  where
    by : (e : Ending) → w.ending ≡ e → error_told x ≡ error_at w.ending
    by running is = or_short_of x (others (inl is)) ∙ ap error_at (sym is)
    by finished is = or_short_of x (others (inr is)) ∙ ap error_at (sym is)
    by (faulty c) is = ap error_told (faults c is) ∙ ap error_at (sym is)

-- and that error once more
pub again_at : (ending : Ending) (e : PolarsError) → e ≡ error_at ending → as_fault e ≡ error_at ending
again_at running e is = ap as_fault is
again_at finished e is = ap as_fault is
again_at (faulty c) e is = same_error e c is

-- a run that is left as it was, without a fault
pub left_short : {N P : Type 0} (run next : Run N P) → run.world.fault ≡ None → next ≡ run → unwrap_or next.world.fault error.OutOfMemory ≡ error.OutOfMemory
left_short {N = N} {P = P} run next none same = ap (λ (r : Run N P). error_told r.world.fault) same ∙ ap error_told none

module _ {N P : Type 0} (Has : Options → N → SeenNode → Type 0) (Shows : Piece → P → Type 0) (IsFor : Functions → PhysicalNode → P → Type 0) (F : Functions) (shape : Shape) (o : Options) (w : World) where
  -- the fault that stands in a run is that of the world that it is at
  pub stands_with : (run : Run N P) → IsAt Has Shows IsFor F shape o w run → unwrap_or run.world.fault error.OutOfMemory ≡ error_at w.ending
  stands_with run at = told_at w.ending run.world.is_finished run.world.fault at.tells.ending

  -- a run that stays where it had no fault has none
  pub still_short : (run next : Run N P) → IsAt Has Shows IsFor F shape o w run → run.world.fault ≡ None → IsAt Has Shows IsFor F shape o w next → unwrap_or next.world.fault error.OutOfMemory ≡ error.OutOfMemory
  still_short run next at none still = stands_with next still ∙ sym (stands_with run at) ∙ ap error_told none

  -- a mark in it is want of memory
  pub marked_short : (run : Run N P) → IsAt Has Shows IsFor F shape o w run → run.world.fault ≡ None → (next : Held N) → Tells w next → IsSome next.fault → next.fault ≡ Some error.OutOfMemory
  marked_short run at none next tells marked = its_mark next.fault marked (told_at w.ending next.is_finished next.fault tells.ending ∙ sym (stands_with run at) ∙ ap error_told none)
    where
      its_mark : (x : Option PolarsError) → IsSome x → error_told x ≡ error.OutOfMemory → x ≡ Some error.OutOfMemory
      its_mark None there e = absurd (let clash : false ≡ true = there in cc)
      its_mark (Some y) there e = ap Some e
