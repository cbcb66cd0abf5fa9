-- The claim in which a slice has its last row drops its input.
use Rattle.std.proofs.Common.{◌≡◌, ℕ, zero, suc, Bool, true, false, cond, List, length, Some, refl, sym, ap, subst, ◌∙◌}
use Rattle.std.specs.Prelude.{Contains}
use Rattle.ps_frame.specs.Functions.{Functions}
use Rattle.ps_turns.specs.Claims.{Claim, claim_by}
use Rattle.ps_meaning.specs.Shape.{streaming_slice}
use Rattle.ps_world.specs.Claims.{before_drops, claim_at, inputs_in_phase, next_morsel}
use Rattle.ps_world.specs.Pipes.{change_pipes, drop_at, drop_if, dropped_pipe, drops_from, is_input, taken, with_place}
use Rattle.ps_world.specs.Promises.{DropsAtLast}
use Rattle.ps_world.specs.World.{Node, Pipe, World, bounded_out, heads_of, inputs_done, is_cut_off, schemas_for}
use Rattle.world_laws.proofs.Agree.{from_map}

abbrev AreDropped : (Pipe → Bool) → List Pipe → Type 0
AreDropped t ps = (p : Pipe) → Contains ps p → t p ≡ true → p.is_dropped ≡ true

-- what is dropped stays so where others are dropped
stay_dropped : (t u : Pipe → Bool) (ps : List Pipe) → AreDropped t ps → AreDropped t (change_pipes u dropped_pipe ps)
stay_dropped t u ps all p c e = by (from_map (λ (q : Pipe). cond (u q) (dropped_pipe q) q) p ps c)
  where
    at : (q : Pipe) → Contains ps q → (b : Bool) → cond b (dropped_pipe q) q ≡ p → p.is_dropped ≡ true
    at q there true same = ap (λ (x : Pipe). x.is_dropped) (sym same)
    at q there false same = ap (λ (x : Pipe). x.is_dropped) (sym same) ∙ all q there (ap t same ∙ e)

    by : (q : Pipe) × Contains ps q × (cond (u q) (dropped_pipe q) q ≡ p) → p.is_dropped ≡ true
    by x = at x.0 x.1 (u x.0) x.2

all_dropped : (t : Pipe → Bool) (ps : List Pipe) → AreDropped t (change_pipes t dropped_pipe ps)
all_dropped t ps p c e = by (from_map (λ (q : Pipe). cond (t q) (dropped_pipe q) q) p ps c)
  where
    at : (q : Pipe) (b : Bool) → t q ≡ b → cond b (dropped_pipe q) q ≡ p → p.is_dropped ≡ true
    at q true d same = ap (λ (x : Pipe). x.is_dropped) (sym same)
    at q false d same = absurd (let no : true ≡ false = sym e ∙ ap t (sym same) ∙ d in cc)

    by : (q : Pipe) × Contains ps q × (cond (t q) (dropped_pipe q) q ≡ p) → p.is_dropped ≡ true
    by x = at x.0 (t x.0) refl x.2

drop_keeps : (t : Pipe → Bool) (b : Bool) (n : ℕ) (w : World) → AreDropped t w.pipes → AreDropped t (drop_if b n w).pipes
drop_keeps t true n w all = stay_dropped t _ w.pipes all
drop_keeps t false n w all = all

drops_keep : (t : Pipe → Bool) (n : ℕ) (w : World) → AreDropped t w.pipes → AreDropped t (drops_from w n).pipes
drops_keep t zero w all = all
drops_keep t (suc n) w all = drops_keep t n (drop_at w n) (drop_keeps t (is_cut_off w n) n w all)

before_dropped : (w : World) (n i worker : ℕ) (node : Node) (c : Claim) → c.drops_input ≡ true → AreDropped (is_input n i) (before_drops w n i worker node c).pipes
before_dropped w n i worker node c e p there is = all_dropped (is_input n i) reserved p (subst (λ (b : Bool). Contains (cond b (change_pipes (is_input n i) dropped_pipe reserved) reserved) p) e there) is
  where
    reserved : List Pipe
    reserved = change_pipes (bounded_out w n) with_place (cond c.takes_morsel (change_pipes (is_input n i) taken w.pipes) w.pipes)

same_node : (a b : Node) → Some a ≡ Some b → a ≡ b
same_node a b e = cc

same_claim : (a b : Claim) → Some a ≡ Some b → a ≡ b
same_claim a b e = cc

pub drops_at_last : (F : Functions) (w : World) → DropsAtLast F w
drops_at_last F w n number worker v node offset k rs here kind next last s p there is =
    drops_keep (is_input n 0) (length start.nodes) start (before_dropped w n 0 worker s.0 s.5.0 it_drops) p (subst (λ (x : World). Contains x.pipes p) s.5.3 there) is
  where
    start : World
    start = before_drops w n 0 worker s.0 s.5.0

    old : s.0 ≡ node
    old = same_node s.0 node (sym s.1.0 ∙ here)

    claim : claim_by w.options node.node (schemas_for w node) (streaming_slice offset k) node.progress (heads_of w n node) (inputs_done w n) 0 (Some (number, rs)) ≡ Some s.5.0
    claim =
        ap (λ m. claim_by w.options node.node (schemas_for w node) (streaming_slice offset k) node.progress (heads_of w n node) (inputs_done w n) 0 m) (sym next)
        ∙ ap (λ kd. claim_by w.options node.node (schemas_for w node) kd node.progress (heads_of w n node) (inputs_done w n) 0 (next_morsel (inputs_in_phase w n 0))) (sym kind)
        ∙ ap (λ x. claim_at w n 0 x) (sym old) ∙ s.5.1

    it_drops : s.5.0.drops_input ≡ true
    it_drops = ap (λ (x : Claim). x.drops_input) (sym (same_claim _ s.5.0 claim)) ∙ last
