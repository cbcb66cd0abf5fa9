-- How a step ends the run, if it does: by an Open without a blocker, or by a fault of one node.
use Rattle.std.proofs.Common.{◌≡◌, ℕ, zero, suc, Bool, true, false, cond, List, [], ◌∷◌, length, Option, Some, None, refl, ap, ◌∙◌}
use Rattle.std.specs.Prelude.{slice_get, get_or, IsFalse}
use Rattle.ps_frame.specs.Causes.{Cause, is_empty}
use Rattle.ps_frame.specs.Functions.{Functions}
use Rattle.ps_frame.specs.Tables.{Row}
use Rattle.ps_turns.specs.Claims.{filled_slot}
use Rattle.ps_turns.specs.Progress.{Progress, is_multiplexer}
use Rattle.ps_turns.specs.Pulls.{after_store, passes_limit}
use Rattle.ps_turns.specs.Results.{rows_fault}
use Rattle.ps_turns.specs.Tasks.{Answer, Piece, bad, good, partial}
use Rattle.ps_world.specs.World.{Node, Record, World, claimed, closed, ended, faulty, handed_in, is_cut_off, opened, pulled, running}
use Rattle.ps_world.specs.Answers.{answered, with_partial}
use Rattle.ps_world.specs.Claims.{before_drops}
use Rattle.ps_world.specs.Laws.{MakesFault}
use Rattle.ps_world.specs.Phases.{after_open, blockers_in}
use Rattle.ps_world.specs.Pipes.{drop_at, drop_if, drops_from, put_progress, with_progress}
use Rattle.ps_world.specs.Step.{Opens, Steps, breaks, settles}
use Rattle.ps_world.specs.Updates.{IsSettled, Updates, no_update, one_fill, one_update}

keeps_ending : (n : ℕ) (progress : Progress) (w : World) (node : Node) → slice_get w.nodes n ≡ Some node → (with_progress n progress w).ending ≡ w.ending
keeps_ending n progress w node e = of_some (slice_get w.nodes n)
  where
    of_some : (o : Option Node) → (put_progress o n progress w).ending ≡ w.ending
    of_some None = refl
    of_some (Some x) = refl

pub updates_keep_ending : (F : Functions) (w s : World) → Updates F w s → s.ending ≡ w.ending
updates_keep_ending F w s no_update = refl
updates_keep_ending F w s (one_update n node progress t u) = updates_keep_ending F _ s u ∙ keeps_ending n progress w node t.0
updates_keep_ending F w s (one_fill n node progress t u) = updates_keep_ending F _ s u ∙ keeps_ending n progress w node t.0

drop_keeps : (w : World) (n : ℕ) → (drop_at w n).ending ≡ w.ending
drop_keeps w n = by (is_cut_off w n)
  where
    by : (b : Bool) → (drop_if b n w).ending ≡ w.ending
    by true = refl
    by false = refl

drops_keep : (n : ℕ) (w : World) → (drops_from w n).ending ≡ w.ending
drops_keep zero w = refl
drops_keep (suc n) w = drops_keep n (drop_at w n) ∙ drop_keeps w n

-- how a step ends the run
pub data Ends (F : Functions) (w : World) (r : Record) (v : World) : Type 0 where
  goes_on : v.ending ≡ running → Ends F w r v
  finishes : (s : World) (phase : ℕ) → IsFalse w.is_open → Updates F w s → IsSettled s → blockers_in s ≡ [] → v ≡ after_open s phase → Ends F w r v
  faults : (n : ℕ) (c : Cause) → MakesFault F w r n c → v.ending ≡ faulty c → Ends F w r v

empty_is : {A : Type 0} (xs : List A) → is_empty xs ≡ true → xs ≡ []
empty_is [] e = refl
empty_is (x ∷ xs) e = absurd (let no : false ≡ true = e in cc)

of_open : (F : Functions) (w s v : World) (phase : ℕ) → IsFalse w.is_open → w.ending ≡ running → Updates F w s → Opens F s phase v → Ends F w (opened phase) v
of_open F w s v phase shut run u (breaks n c f e) = faults n c (shut, (s, u, f)) (ap (λ (x : World). x.ending) e)
of_open F w s v phase shut run u (settles rest e) = by (is_empty (blockers_in s)) refl
  where
    by : (b : Bool) → is_empty (blockers_in s) ≡ b → Ends F w (opened phase) v
    by true b = finishes s phase shut u rest (empty_is (blockers_in s) b) e
    by false b =
        let opened_still : (after_open s phase).ending ≡ s.ending = rw b refl in
        goes_on (ap (λ (x : World). x.ending) e ∙ opened_still ∙ updates_keep_ending F w s u ∙ run)

of_partial : (q : Piece) (w : World) → (with_partial q (slice_get w.nodes q.node) w).ending ≡ w.ending
of_partial q w = by (slice_get w.nodes q.node) refl
  where
    by : (o : Option Node) → slice_get w.nodes q.node ≡ o → (with_partial q o w).ending ≡ w.ending
    by None e = refl
    by (Some node) e = keeps_ending q.node (record node.progress { taken = filled_slot q.input q.number (get_or q.tables 0 []) node.progress.taken }) w node e

pub ends_of : (F : Functions) (w v : World) (r : Record) → Steps F w r v → Ends F w r v
ends_of F w v (opened phase) s = of_open F w s.3.0 v phase s.0 s.1 s.3.1 s.3.2
ends_of F w v (claimed n i number worker) s =
    let at = s.1 in
    let c = s.5 in
    let before = before_drops w n i worker s.0 c.0 in
    goes_on (ap (λ (x : World). x.ending) c.3 ∙ drops_keep (length before.nodes) before ∙ at.2)
ends_of F w v (handed_in n i number worker handed) s = by s.7.0 s.7.1 s.7.3
  where
    by : (a : Answer) → Rattle.ps_turns.specs.Results.IsResult F s.0 a → v ≡ answered w s.0 a → Ends F w (handed_in n i number worker handed) v
    by (good rs) x e = goes_on (ap (λ (x : World). x.ending) e ∙ s.6)
    by (partial k) x e = goes_on (ap (λ (x : World). x.ending) e ∙ of_partial s.0 w ∙ s.6)
    by (bad c) x e = faults n c (refl, s.0, s.1, s.2, x) (ap (λ (x : World). x.ending) e)
ends_of F w v (pulled n i number) s = by (passes_limit s.0.node.kind i (pulled_progress s.0 i s.4.1)) refl
  where
    pulled_progress : Node → ℕ → List Row → Progress
    pulled_progress node k m = cond (is_multiplexer node.node.kind) node.progress (after_store node.node.kind k m node.progress)

    by : (b : Bool) → passes_limit s.0.node.kind i (pulled_progress s.0 i s.4.1) ≡ b → Ends F w (pulled n i number) v
    by true b = let at = ap (λ (x : World). x.ending) s.4.8 in faults n (rows_fault s.0.node) (refl, v, s, at ∙ ap (λ t. cond t (faulty (rows_fault s.0.node)) w.ending) b) (at ∙ ap (λ t. cond t (faulty (rows_fault s.0.node)) w.ending) b)
    by false b = let at = ap (λ (x : World). x.ending) s.4.8 in goes_on (at ∙ ap (λ t. cond t (faulty (rows_fault s.0.node)) w.ending) b ∙ s.1.2)
ends_of F w v (closed n) s = let at = s.1 in goes_on (ap (λ (x : World). x.ending) s.4 ∙ at.2)
ends_of F w v (ended phase) s = goes_on (ap (λ (x : World). x.ending) s.4 ∙ s.1)
