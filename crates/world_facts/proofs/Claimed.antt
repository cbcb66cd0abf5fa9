-- A claim keeps the facts, where it fits what it names.
use Rattle.std.proofs.Common.{◌≡◌, ℕ, Bool, true, false, cond, [], ◌∷◌, ◌++◌, length, Some, refl, sym, ap, subst, ◌∙◌, arith}
use Rattle.std.specs.Prelude.{Contains, IsFalse, IsTrue, not, slice_get, slice_set, ◌&&◌}
use Rattle.ps_frame.specs.Functions.{Functions}
use Rattle.ps_turns.specs.Claims.{Claim}
use Rattle.ps_world.specs.Claims.{IsFree, after_claim, before_drops, claim_at, piece_of}
use Rattle.ps_world.specs.Facts.{Facts, FactsDownTo, keeps_one}
use Rattle.ps_world.specs.Fits.{Fits, FitsWhole}
use Rattle.ps_world.specs.Pipes.{change_pipes, dropped_pipe, is_input, taken, with_place}
use Rattle.ps_world.specs.Step.{Steps}
use Rattle.ps_world.specs.World.{Node, Pipe, World, bounded_out, claimed}
use Rattle.world_facts.proofs.CutOff.{both_true}
use Rattle.world_facts.proofs.DropsKeep.{drops_from_keep, input_keeps, up_to}
use Rattle.world_facts.proofs.Follows.{traced}
use Rattle.world_facts.proofs.Placed.{place_keeps, place_world}
use Rattle.world_facts.proofs.Slots.{set_here}
use Rattle.world_facts.proofs.Stays.{was_filled}
use Rattle.world_facts.proofs.Taken.{take_follows, take_keeps, take_world}

-- the world before the drops, by what the claim says
abbrev pub before_by : Bool → Bool → World → ℕ → ℕ → ℕ → Node → Claim → World
before_by takes drops w n i worker node c =
    let taken_pipes = cond takes (change_pipes (is_input n i) taken w.pipes) w.pipes in
    let reserved = change_pipes (bounded_out w n) with_place taken_pipes in
    let pipes' = cond drops (change_pipes (is_input n i) dropped_pipe reserved) reserved in
    record w {
      nodes = slice_set w.nodes n (record node { progress = c.progress });
      pipes = pipes';
      outs = piece_of n i worker c ∷ w.outs;
      journal = w.journal ++ claimed n i c.number worker ∷ [];
    }

module _ (F : Functions) (w : World) (n i worker : ℕ) (node : Node) (c : Claim) (at : slice_get w.nodes n ≡ Some node) (on : (w.is_open && (node.in_phase && not node.is_closed)) ≡ true) (free : IsFree w worker) (whole : FitsWhole w n i node c) (f : Facts F w) where
  is_open : w.is_open ≡ true
  is_open = (both_true w.is_open (node.in_phase && not node.is_closed) on).0

  -- it still fits after its morsel was taken
  fits_after : Fits (take_world w n i) n i node c
  fits_after =
      record {
        single = whole.fits.single;
        over = whole.fits.over;
        slot = whole.fits.slot;
        new_slot = whole.fits.new_slot;
        slots = whole.fits.slots;
        numbered = λ g p fills. let x = was_filled w (take_world w n i) (take_follows w n i is_open) n p fills in sym (ap (λ (z : Pipe). length z.got) x.2) ∙ same_length x.0 (is_input n i x.0) ∙ whole.fits.numbered g x.0 x.1;
        no_output = λ g p d. of_traced p g (traced w (take_world w n i) (take_follows w n i is_open) p d);
      }
    where
      same_length : (x : Pipe) (b : Bool) → length (cond b (taken x) x).got ≡ length x.got
      same_length x true = refl
      same_length x false = refl

      same_out : (x : Pipe) (b : Bool) → bounded_out w n (cond b (taken x) x) ≡ bounded_out w n x
      same_out x true = refl
      same_out x false = refl

      of_traced : (p : Pipe) → IsTrue (keeps_one c.task) → (x : Pipe) × Contains w.pipes x × (cond (is_input n i x) (taken x) x ≡ p) → IsFalse (bounded_out w n p)
      of_traced p g (x, d, e) = ap (bounded_out w n) (sym e) ∙ same_out x (is_input n i x) ∙ whole.fits.no_output g x d

  placed : (takes drops : Bool) → c.takes_morsel ≡ takes → c.drops_input ≡ drops → FactsDownTo F (length (before_by takes drops w n i worker node c).nodes) (before_by takes drops w n i worker node c)
  placed true true t d =
      let p = whole.takes t in
      let u = take_world w n i in
      let g = place_keeps u n i worker node c at on fits_after F (take_keeps w n i is_open F f p.0 p.1 p.2 p.3 p.4) free in
      input_keeps (place_world u n i worker node c) n i is_open F g (record node { progress = c.progress }) (set_here w.nodes n node (record node { progress = c.progress }) at) (whole.drops d)
  placed true false t d =
      let p = whole.takes t in
      let u = take_world w n i in
      let g = place_keeps u n i worker node c at on fits_after F (take_keeps w n i is_open F f p.0 p.1 p.2 p.3 p.4) free in
      up_to F (place_world u n i worker node c) (omega arith) g
  placed false true t d =
      let g = place_keeps w n i worker node c at on whole.fits F f free in
      input_keeps (place_world w n i worker node c) n i is_open F g (record node { progress = c.progress }) (set_here w.nodes n node (record node { progress = c.progress }) at) (whole.drops d)
  placed false false t d = up_to F (place_world w n i worker node c) (omega arith) (place_keeps w n i worker node c at on whole.fits F f free)

  pub claim_keeps : Facts F (after_claim w n i worker node c)
  claim_keeps =
      let u = before_drops w n i worker node c in
      drops_from_keep F u (length u.nodes) is_open (placed c.takes_morsel c.drops_input refl refl)

-- a step by a claim
pub claimed_keeps : (F : Functions) (w v : World) (n i number worker : ℕ) → ((node : Node) (c : Claim) → slice_get w.nodes n ≡ Some node → claim_at w n i node ≡ Some c → FitsWhole w n i node c)
    → Facts F w → Steps F w (claimed n i number worker) v → Facts F v
claimed_keeps F w v n i number worker fit f s = subst (Facts F) (sym s.5.3) (claim_keeps F w n i worker s.0 s.5.0 s.1.0 s.1.1 s.2 (fit s.0 s.5.0 s.1.0 s.5.1) f)
