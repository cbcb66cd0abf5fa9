-- What a run tells of a world.
use Rattle.std.proofs.Common.{◌≡◌, ◌⊎◌, Bool, true, false, Option, None, Some, inl, inr, refl, sym, ap, subst, ◌∙◌}
use Rattle.std.specs.Prelude.{IsSome, IsTrue, count_by}
use Rattle.ps_flow.specs.Openings.{Tells}
use Rattle.ps_flow.specs.Standing.{EndsAs, IsUnmarred, or_short}
use Rattle.ps_flow.specs.declared.world.World.{World as Held}
use Rattle.ps_frame.specs.Causes.{Cause}
use Rattle.ps_frame.specs.declared.refusal.PolarsError.{PolarsError}
use Rattle.ps_graph.proofs.Ordering.{count-map}
use Rattle.ps_meaning.specs.Errors.{cause_error}
use Rattle.ps_world.specs.World.{Ending, World, faulty, finished, running}
use Rattle.world_records.specs.Journals.{claims_of}
use Rattle.world_records.specs.Shown.{is_claimed, record_shown}

pub finished_by : (e : Ending) (f : Bool) (x : Option PolarsError) → EndsAs e f x → (IsTrue f → e ≡ finished) × (e ≡ finished → IsTrue f)
finished_by running f x m = ((λ t. absurd (let clash : true ≡ false = sym t ∙ m.0 in cc)), λ e. absurd (cc))
finished_by finished f x m = ((λ t. refl), λ e. m.0)
finished_by (faulty c) f x m = ((λ t. absurd (let clash : true ≡ false = sym t ∙ m.0 in cc)), λ e. absurd (cc))

pub fault_by : (e : Ending) (f : Bool) (x : Option PolarsError) (c : Cause) → EndsAs e f x → e ≡ faulty c → x ≡ Some (cause_error c)
fault_by running f x c m e = absurd (cc)
fault_by finished f x c m e = absurd (cc)
fault_by (faulty d) f x c m e = let same : d ≡ c = (let both : faulty d ≡ faulty c = e in cc) in m.1 ∙ ap (λ z. Some (cause_error z)) same

pub unmarred_by : (e : Ending) (f : Bool) (x : Option PolarsError) → EndsAs e f x → (e ≡ running) ⊎ (e ≡ finished) → IsUnmarred x
unmarred_by running f x m e = m.1
unmarred_by finished f x m e = m.1
unmarred_by (faulty c) f x m (inl e) = absurd (cc)
unmarred_by (faulty c) f x m (inr e) = absurd (cc)

pub claims_told : {N : Type 0} (w : World) (h : Held N) → Tells w h → claims_of h.journal.records ≡ count_by is_claimed w.journal
claims_told w h t = sym (count-map record_shown is_claimed h.journal.records) ∙ ap (count_by is_claimed) t.journal

-- a want of memory leaves an error
pub is_marked : {N : Type 0} (old new : Held N) → new ≡ record old { fault = or_short old.fault } → IsSome new.fault
is_marked {N = N} old new is = subst IsSome (sym (ap (λ (h : Held N). h.fault) is)) (by old.fault)
  where
    by : (m : Option PolarsError) → IsSome (or_short m)
    by None = refl
    by (Some e) = refl
