-- What each claim makes true of its piece and the node, and the node's entry and stage decide, holds of every piece out of a reached world.
use Rattle.std.proofs.Common.{◌≡◌, ℕ, zero, suc, ◌⊎◌, Bool, true, false, List, [], ◌∷◌, length, Option, Some, None, refl, sym, ap, subst, ◌∙◌, inl, inr}
use Rattle.std.specs.Prelude.{Contains, nat_eq, not, slice_get}
use Rattle.ps_frame.specs.Causes.{is_empty}
use Rattle.ps_frame.specs.Functions.{Functions}
use Rattle.ps_meaning.specs.Shape.{Shape}
use Rattle.ps_meaning.specs.Sound.{IsSound}
use Rattle.ps_options.specs.declared.options.Options.{Options}
use Rattle.ps_turns.specs.Claims.{Claim}
use Rattle.ps_turns.specs.Progress.{Progress}
use Rattle.ps_turns.specs.Tasks.{Answer, Piece}
use Rattle.ps_world.specs.Answers.{answered}
use Rattle.ps_world.specs.Claims.{before_drops, claim_at, piece_of}
use Rattle.ps_world.specs.Facts.{Facts}
use Rattle.ps_world.specs.Opening.{Reaches, opening}
use Rattle.ps_world.specs.Phases.{after_open, blockers_in}
use Rattle.ps_world.specs.Pipes.{drop_at, drop_if, drops_from, put_progress}
use Rattle.ps_world.specs.Step.{Opens, Replays, Steps, breaks, settles}
use Rattle.ps_world.specs.Updates.{Updates, no_update, one_fill, one_update}
use Rattle.ps_world.specs.World.{Node, Record, World, claimed, closed, ended, handed_in, is_cut_off, opened, pulled}
use Rattle.world_facts.proofs.FromFacts.{pieces_open}
use Rattle.world_laws.proofs.InOrder.{contains_cases, none_in_nil}
use Rattle.world_laws.proofs.PassingPorts.{was_kept}
use Rattle.world_claims.proofs.Beside.{set_from}
use Rattle.world_claims.proofs.PhaseEnds.{none_out}
use Rattle.world_claims.proofs.ReachedFacts.{known_opening, known_step}
use Rattle.world_claims.specs.Numbering.{Known}
use Rattle.world_bounds.proofs.Nodes.{AllGo, claim_goes, hand_in_goes, pull_goes}

-- THE PIECES AFTER A STEP
put_outs : (o : Option Node) (n : ℕ) (progress : Progress) (w : World) → (put_progress o n progress w).outs ≡ w.outs
put_outs None n progress w = refl
put_outs (Some node) n progress w = refl

updates_outs : (F : Functions) (w s : World) → Updates F w s → s.outs ≡ w.outs
updates_outs F w s no_update = refl
updates_outs F w s (one_update n node progress t u) = updates_outs F _ s u ∙ put_outs (slice_get w.nodes n) n progress w
updates_outs F w s (one_fill n node progress t u) = updates_outs F _ s u ∙ put_outs (slice_get w.nodes n) n progress w

open_outs : (s : World) (phase : ℕ) → (after_open s phase).outs ≡ s.outs
open_outs s phase = by (is_empty (blockers_in s)) refl
  where
    by : (b : Bool) → is_empty (blockers_in s) ≡ b → (after_open s phase).outs ≡ s.outs
    by true e = rw e refl
    by false e = rw e refl

opens_outs : (F : Functions) (s v : World) (phase : ℕ) → Opens F s phase v → v.outs ≡ s.outs
opens_outs F s v phase (settles rest e) = ap (λ (x : World). x.outs) e ∙ open_outs s phase
opens_outs F s v phase (breaks n c f e) = ap (λ (x : World). x.outs) e

drop_outs : (b : Bool) (n : ℕ) (w : World) → (drop_if b n w).outs ≡ w.outs
drop_outs true n w = refl
drop_outs false n w = refl

drops_outs : (n : ℕ) (w : World) → (drops_from w n).outs ≡ w.outs
drops_outs zero w = refl
drops_outs (suc n) w = drops_outs n (drop_at w n) ∙ drop_outs (is_cut_off w n) n w

-- a node with the entry and the stage of another
abbrev pub Keeps : Node → Node → Type 0
Keeps x y = (y.node ≡ x.node) × (y.progress.stage ≡ x.progress.stage)

module _ (Fits : Piece → Node → Type 0) (onward : (q : Piece) (x y : Node) → Keeps x y → Fits q x → Fits q y) (claims : (w : World) (n i worker : ℕ) (node : Node) (c : Claim) → claim_at w n i node ≡ Some c → Fits (piece_of n i worker c) node) where
  abbrev pub AllFit : World → Type 0
  AllFit w = (q : Piece) (x : Node) → Contains w.outs q → slice_get w.nodes q.node ≡ Some x → Fits q x

  carry : (w v : World) → AllGo w v → ((q : Piece) → Contains v.outs q → (x : Node) → slice_get w.nodes q.node ≡ Some x → Fits q x) → AllFit v
  carry w v back h q y c at = let x = back q.node y at in onward q x.0 y (x.2.node, x.2.stage) (h q c x.0 x.1)

  claim_fits : (F : Functions) (w v : World) (n i number worker : ℕ) → Steps F w (claimed n i number worker) v → AllFit w → AllFit v
  claim_fits F w v n i number worker s all = carry w v (claim_goes F w v n i number worker s) (λ q c x at. by q x at (contains_cases (piece_of n i worker s.5.0) q w.outs (subst (λ qs. Contains qs q) outs c)))
    where
      outs : v.outs ≡ piece_of n i worker s.5.0 ∷ w.outs
      outs = let start = before_drops w n i worker s.0 s.5.0 in ap (λ (x : World). x.outs) s.5.3 ∙ drops_outs (length start.nodes) start

      own : Fits (piece_of n i worker s.5.0) s.0
      own = claims w n i worker s.0 s.5.0 s.5.1

      by : (q : Piece) (x : Node) → slice_get w.nodes q.node ≡ Some x → (piece_of n i worker s.5.0 ≡ q) ⊎ Contains w.outs q → Fits q x
      by q x at (inl e) =
          let here : slice_get w.nodes q.node ≡ Some s.0 = ap (λ (r : Piece). slice_get w.nodes r.node) (sym e) ∙ s.1.0 in
          let both : Some s.0 ≡ Some x = sym here ∙ at in
          let is : s.0 ≡ x = cc in
          subst (Fits q) is (subst (λ r. Fits r s.0) e own)
      by q x at (inr there) = all q x there at

  -- A HAND-IN
  put_in_outs : (w : World) (q : Piece) (a : Answer) (r : Piece) → Contains (answered w q a).outs r → Contains w.outs r
  put_in_outs w q a r c = (was_kept (λ (p : Piece). not (nat_eq p.worker q.worker)) r w.outs c).0

  -- EACH STEP
  pub step_fits : (F : Functions) (w v : World) (r : Record) → Facts F w → Steps F w r v → AllFit w → AllFit v
  step_fits F w v (opened phase) f s all =
      λ q y c at.
      let outs = opens_outs F s.3.0 v phase s.3.2 ∙ updates_outs F w s.3.0 s.3.1 in
      let on = pieces_open F w f q (subst (λ qs. Contains qs q) outs c) in
      absurd (let no : true ≡ false = sym on ∙ s.0 in cc)
  step_fits F w v (claimed n i number worker) f s all = claim_fits F w v n i number worker s all
  step_fits F w v (handed_in n i number worker handed) f s all =
      carry w v (hand_in_goes F w v n i number worker handed s) (λ q c x at. all q x (put_in_outs w s.0 s.7.0 q (subst (λ (u : World). Contains u.outs q) s.7.3 c)) at)
  step_fits F w v (pulled n i number) f s all = carry w v (pull_goes F w v n i number s) (λ q c x at. all q x (subst (λ (u : World). Contains u.outs q) s.4.8 c) at)
  step_fits F w v (closed n) f s all =
      λ q y c at.
      let x = set_from Keeps (λ x. (refl, refl)) w.nodes n s.0 (record s.0 { is_closed = true }) s.1.0 (refl, refl) q.node y (subst (λ (u : World). slice_get u.nodes q.node ≡ Some y) s.4 at) in
      onward q x.0 y x.2 (all q x.0 (subst (λ (u : World). Contains u.outs q) s.4 c) x.1)
  step_fits F w v (ended phase) f s all =
      λ q y c at.
      let none = none_out F w v phase f s in
      absurd (none_in_nil q (subst (λ qs. Contains qs q) none (subst (λ (u : World). Contains u.outs q) s.4 c)))

  replay_fits : (F : Functions) (w v : World) (rs : List Record) → Known F w → Replays F w rs v → AllFit w → AllFit v
  replay_fits F w v [] k e all = subst AllFit (sym e) all
  replay_fits F w v (r ∷ rs) k s all = replay_fits F s.0 v rs (known_step F w s.0 r k s.1) s.2 (step_fits F w s.0 r k.facts s.1 all)

  pub reached_fits : (F : Functions) (shape : Shape) (o : Options) (w : World) → IsSound F shape → Reaches F shape o w → AllFit w
  reached_fits F shape o w sound r = replay_fits F (opening shape o) w r.0 (known_opening F shape o sound) r.1 (λ q x c at. absurd (none_in_nil q c))
