-- What each step does to the pieces out, to the journal, and to whether a phase is open.
use Rattle.std.proofs.Common.{◌≡◌, ℕ, zero, suc, ◌+◌, Bool, true, false, List, [], ◌∷◌, ◌++◌, length, Option, None, Some, refl, sym, ap, ◌∙◌}
use Rattle.std.specs.Prelude.{slice_get}
use Rattle.std.proofs.lemmas.List.{length-append}
use Rattle.ps_frame.specs.Causes.{is_empty}
use Rattle.ps_frame.specs.Functions.{Functions}
use Rattle.ps_turns.specs.Progress.{Progress}
use Rattle.ps_turns.specs.Claims.{Claim}
use Rattle.ps_turns.specs.Tasks.{Handed, Piece, handed_of}
use Rattle.ps_world.specs.Claims.{after_claim, before_drops, piece_of}
use Rattle.ps_world.specs.Phases.{after_open, blockers_in}
use Rattle.ps_world.specs.Pipes.{drop_at, drop_if, drops_from, put_progress}
use Rattle.ps_world.specs.Step.{Opens, Steps, breaks, settles}
use Rattle.ps_world.specs.Updates.{Updates, no_update, one_fill, one_update}
use Rattle.ps_world.specs.World.{Node, Record, World, claimed, closed, ended, faulty, finished, handed_in, is_cut_off, opened, pulled, running}
use Rattle.world_laws.proofs.Endings.{Ends, ends_of, faults, finishes, goes_on}

-- what neither updates nor drops change
record Rest : Type 0 where
  outs : List Piece
  is_open : Bool
  journal : List Record

abbrev rest_of : World → Rest
rest_of w = record { outs = w.outs; is_open = w.is_open; journal = w.journal }

put_rest : (x : Option Node) (n : ℕ) (progress : Progress) (w : World) → rest_of (put_progress x n progress w) ≡ rest_of w
put_rest None n progress w = refl
put_rest (Some node) n progress w = refl

updates_rest : (F : Functions) (w s : World) → Updates F w s → rest_of s ≡ rest_of w
updates_rest F w s no_update = refl
updates_rest F w s (one_update n node progress t u) = updates_rest F _ s u ∙ put_rest (slice_get w.nodes n) n progress w
updates_rest F w s (one_fill n node progress t u) = updates_rest F _ s u ∙ put_rest (slice_get w.nodes n) n progress w

drop_rest : (b : Bool) (n : ℕ) (w : World) → rest_of (drop_if b n w) ≡ rest_of w
drop_rest true n w = refl
drop_rest false n w = refl

drops_rest : (n : ℕ) (w : World) → rest_of (drops_from w n) ≡ rest_of w
drops_rest zero w = refl
drops_rest (suc n) w = drops_rest n (drop_at w n) ∙ drop_rest (is_cut_off w n) n w

-- OPENS
open_outs : (s : World) (phase : ℕ) → (after_open s phase).outs ≡ s.outs
open_outs s phase = by (is_empty (blockers_in s)) refl
  where
    by : (b : Bool) → is_empty (blockers_in s) ≡ b → (after_open s phase).outs ≡ s.outs
    by true e = rw e refl
    by false e = rw e refl

-- an Open without a blocker opens no phase
last_open : (s : World) (phase : ℕ) → blockers_in s ≡ [] → (after_open s phase).is_open ≡ s.is_open
last_open s phase none = rw none refl

of_opens : (F : Functions) (s v : World) (phase : ℕ) → Opens F s phase v → (v.outs ≡ s.outs) × (v.journal ≡ s.journal ++ opened phase ∷ [])
of_opens F s v phase (settles rest e) = (ap (λ (x : World). x.outs) e ∙ open_outs s phase, ap (λ (x : World). x.journal) e)
of_opens F s v phase (breaks n c f e) = (ap (λ (x : World). x.outs) e, ap (λ (x : World). x.journal) e)

-- THE STEPS
pub outs_opened : (F : Functions) (w v : World) (phase : ℕ) → Steps F w (opened phase) v → v.outs ≡ w.outs
outs_opened F w v phase s = (of_opens F s.3.0 v phase s.3.2).0 ∙ ap (λ (x : Rest). x.outs) (updates_rest F w s.3.0 s.3.1)

pub outs_claimed : (w : World) (n i worker : ℕ) (node : Node) (c : Claim) → (after_claim w n i worker node c).outs ≡ piece_of n i worker c ∷ w.outs
outs_claimed w n i worker node c = let before = before_drops w n i worker node c in ap (λ (x : Rest). x.outs) (drops_rest (length before.nodes) before)

-- a step appends one record
one_longer : (w v : World) (r : Record) → v.journal ≡ w.journal ++ r ∷ [] → length v.journal ≡ length w.journal + 1
one_longer w v r e = ap length e ∙ length-append w.journal (r ∷ [])

hand_in_journal : (F : Functions) (w v : World) (n i number worker : ℕ) (handed : Handed) → Steps F w (handed_in n i number worker handed) v → v.journal ≡ w.journal ++ handed_in n i number worker handed ∷ []
hand_in_journal F w v n i number worker handed s =
    let q = s.0 in
    ap (λ (x : World). x.journal) s.7.3
    ∙ ap (λ k. w.journal ++ handed_in k q.input q.number q.worker (handed_of s.7.0) ∷ []) s.2
    ∙ ap (λ k. w.journal ++ handed_in n k q.number q.worker (handed_of s.7.0) ∷ []) s.3
    ∙ ap (λ k. w.journal ++ handed_in n i k q.worker (handed_of s.7.0) ∷ []) s.4
    ∙ ap (λ k. w.journal ++ handed_in n i number k (handed_of s.7.0) ∷ []) s.5
    ∙ ap (λ k. w.journal ++ handed_in n i number worker k ∷ []) (sym s.7.2)

pub longer : (F : Functions) (w v : World) (r : Record) → Steps F w r v → length v.journal ≡ length w.journal + 1
longer F w v r s = one_longer w v r (by r s)
  where
    by : (r : Record) → Steps F w r v → v.journal ≡ w.journal ++ r ∷ []
    by (opened phase) s = (of_opens F s.3.0 v phase s.3.2).1 ∙ ap (λ (x : Rest). x.journal ++ opened phase ∷ []) (updates_rest F w s.3.0 s.3.1)
    by (claimed n i number worker) s =
        let before = before_drops w n i worker s.0 s.5.0 in
        ap (λ (x : World). x.journal) s.5.3 ∙ ap (λ (x : Rest). x.journal) (drops_rest (length before.nodes) before) ∙ ap (λ k. w.journal ++ claimed n i k worker ∷ []) s.5.2
    by (handed_in n i number worker a) s = hand_in_journal F w v n i number worker a s
    by (pulled n i number) s = ap (λ (x : World). x.journal) s.4.8 ∙ ap (λ k. w.journal ++ pulled n i k ∷ []) s.4.6
    by (closed n) s = ap (λ (x : World). x.journal) s.4
    by (ended phase) s = ap (λ (x : World). x.journal) s.4 ∙ ap (λ k. w.journal ++ ended k ∷ []) (sym s.2)

-- A run that a step finishes has no open phase.
pub shut_if_finished : (F : Functions) (w v : World) (r : Record) → Steps F w r v → v.ending ≡ finished → v.is_open ≡ false
shut_if_finished F w v r s e = by (ends_of F w v r s)
  where
    by : Ends F w r v → v.is_open ≡ false
    by (goes_on runs) = absurd (let clash : running ≡ finished = sym runs ∙ e in cc)
    by (faults n c made broken) = absurd (let clash : faulty c ≡ finished = sym broken ∙ e in cc)
    by (finishes u phase shut updates rest none is) = ap (λ (x : World). x.is_open) is ∙ last_open u phase none ∙ ap (λ (x : Rest). x.is_open) (updates_rest F w u updates) ∙ shut
