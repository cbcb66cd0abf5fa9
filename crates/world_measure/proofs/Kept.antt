-- Steps of a phase change no end of a pipe, no stage and no table: no more changes are left.
use Rattle.std.proofs.Common.{◌≡◌, ℕ, zero, suc, ◌+◌, Bool, true, false, cond, List, [], length, Option, None, Some, refl, sym, ap, subst, ◌∙◌, inr, arith}
use Rattle.std.specs.Prelude.{get_or, nat_eq, slice_get, slice_set, ◌&&◌}
use Rattle.ps_frame.specs.Functions.{Functions}
use Rattle.ps_frame.specs.Tables.{Row}
use Rattle.ps_meaning.specs.Shape.{PhysicalKind, negative_slice, zip_node}
use Rattle.ps_turns.specs.Claims.{Claim, filled_slot}
use Rattle.ps_turns.specs.Progress.{Progress, is_multiplexer}
use Rattle.ps_turns.specs.Pulls.{after_store}
use Rattle.ps_turns.specs.Tasks.{Answer, Handed, Piece, bad, good, partial}
use Rattle.ps_world.specs.Answers.{put_in, with_partial}
use Rattle.ps_world.specs.Claims.{before_drops, claim_at, inputs_in_phase, next_morsel}
use Rattle.ps_world.specs.Pipes.{change_pipes, drop_at, drop_if, dropped_pipe, drops_from, is_input, put_progress, put_without_heads, taken, with_answer, with_drops, with_morsel, with_place, without_heads}
use Rattle.ps_world.specs.Pulls.{after_pull, is_open_port}
use Rattle.ps_world.specs.Step.{Steps}
use Rattle.ps_world.specs.World.{Node, Pipe, World, bounded_out, claimed, closed, counts_for_sender, ended, handed_in, heads_of, inputs_done, is_cut_off, pulled, schemas_for}
use Rattle.world_facts.proofs.HandedIn.{length_set}
use Rattle.world_measure.proofs.Answers.{put_nodes, put_own, put_pipes}
use Rattle.world_measure.proofs.Changes.{Onward, same_ends, same_turns, turned}
use Rattle.world_measure.proofs.Closes.{closed_pipe, mapped_length, unmarked_own}
use Rattle.world_measure.proofs.Drops.{set_as_much}
use Rattle.world_measure.proofs.Own.{Does, does, gives, takes}
use Rattle.world_measure.proofs.Pipes.{as_many, changed_wire, morsel_wire}
use Rattle.world_measure.proofs.Takes.{heads_are}
use Rattle.world_measure.specs.Turns.{changes_left, ends_left, turns_left, turns_of}

-- a change of pipes, where it is made, that leaves their wires
change_ends : (t : Pipe → Bool) (g : Pipe → Pipe) (ps : List Pipe) → ((p : Pipe) → (g p).wire ≡ p.wire) → ends_left (change_pipes t g ps) ≡ ends_left ps
change_ends t g ps same = same_ends (λ p. cond (t p) (g p) p) ps (λ p. changed_wire g p (t p) (same p))

if_ends : (b : Bool) (t : Pipe → Bool) (g : Pipe → Pipe) (ps : List Pipe) → ((p : Pipe) → (g p).wire ≡ p.wire) → ends_left (cond b (change_pipes t g ps) ps) ≡ ends_left ps
if_ends true t g ps same = change_ends t g ps same
if_ends false t g ps same = refl

-- a node in the place of another with as many turns to come
set_turns : (nodes : List Node) (n : ℕ) (old new : Node) → slice_get nodes n ≡ Some old → turns_of new.progress ≡ turns_of old.progress → turns_left (slice_set nodes n new) ≡ turns_left nodes
set_turns nodes n old new at same = let h = turned nodes n old new at in omega arith

-- DROPS
lost_turns : (kind : PhysicalKind) (x : Node) → turns_of (without_heads kind x).progress ≡ turns_of x.progress
lost_turns (zip_node extend) x = refl
lost_turns kind x = refl

lost_left : (n : ℕ) (nodes : List Node) (o : Option Node) → slice_get nodes n ≡ o → turns_left (put_without_heads o n nodes) ≡ turns_left nodes
lost_left n nodes None e = refl
lost_left n nodes (Some x) e = set_turns nodes n x (without_heads x.node.kind x) e (lost_turns x.node.kind x)

drop_changes : (b : Bool) (n : ℕ) (w : World) → changes_left (drop_if b n w) ≡ changes_left w
drop_changes false n w = refl
drop_changes true n w =
    let ends = change_ends (λ p. nat_eq p.wire.receiver n && p.in_phase) dropped_pipe w.pipes (λ p. refl) in
    let turns = lost_left n w.nodes (slice_get w.nodes n) refl in
    λ i. ends i + turns i

drops_changes : (k : ℕ) (w : World) → changes_left (drops_from w k) ≡ changes_left w
drops_changes zero w = refl
drops_changes (suc n) w = drops_changes n (drop_at w n) ∙ drop_changes (is_cut_off w n) n w

-- CLAIMS
module _ (F : Functions) (w : World) where
  does_turns : (kind : PhysicalKind) (a : Progress) (next : Rattle.ps_turns.specs.Claims.Next) (c : Claim) → Does kind a next c → turns_of c.progress ≡ turns_of a
  does_turns kind a next c (takes m e t turns) = turns
  does_turns kind a next c (gives t less turns) = turns

  claim_changes : (n i worker : ℕ) (node : Node) (c : Claim) → slice_get w.nodes n ≡ Some node → claim_at w n i node ≡ Some c → changes_left (with_drops (before_drops w n i worker node c)) ≡ changes_left w
  claim_changes n i worker node c at is = drops_changes (length (before_drops w n i worker node c).nodes) (before_drops w n i worker node c) ∙ (λ j. ends j + turns j)
    where
      ends : ends_left (before_drops w n i worker node c).pipes ≡ ends_left w.pipes
      ends =
          if_ends c.drops_input (is_input n i) dropped_pipe (change_pipes (bounded_out w n) with_place (cond c.takes_morsel (change_pipes (is_input n i) taken w.pipes) w.pipes)) (λ p. refl)
          ∙ change_ends (bounded_out w n) with_place (cond c.takes_morsel (change_pipes (is_input n i) taken w.pipes) w.pipes) (λ p. refl)
          ∙ if_ends c.takes_morsel (is_input n i) taken w.pipes (λ p. refl)

      turns : turns_left (slice_set w.nodes n (record node { progress = c.progress })) ≡ turns_left w.nodes
      turns =
          set_turns w.nodes n node (record node { progress = c.progress }) at
          (does_turns node.node.kind node.progress (next_morsel (inputs_in_phase w n i)) c
          (does w.options node.node (schemas_for w node) node.progress (heads_of w n node) (inputs_done w n) i (next_morsel (inputs_in_phase w n i)) c node.node.kind (heads_are w n node) is))

  pub claims_keep : (n i number worker : ℕ) (v : World) → Steps F w (claimed n i number worker) v → changes_left v ≡ changes_left w
  claims_keep n i number worker v s = let claim = s.5 in ap changes_left claim.3 ∙ claim_changes n i worker s.0 claim.0 s.1.0 claim.1

  -- PULLS
  stored_turns : (b : Bool) (kind : PhysicalKind) (i : ℕ) (m : List Row) (a : Progress) → turns_of (cond b a (after_store kind i m a)) ≡ turns_of a
  stored_turns true kind i m a = refl
  stored_turns false (negative_slice back n) i m a = refl
  stored_turns false kind i m a = refl

  pull_changes : (n i : ℕ) (node : Node) (p : Pipe) (m : List Row) → slice_get w.nodes n ≡ Some node → changes_left (after_pull w n i node p m) ≡ changes_left w
  pull_changes n i node p m at = λ j. ends j + turns j
    where
      ends : ends_left (after_pull w n i node p m).pipes ≡ ends_left w.pipes
      ends =
          if_ends (is_multiplexer node.node.kind) (is_open_port n) (with_morsel m) (change_pipes (is_input n i) taken w.pipes) (morsel_wire m)
          ∙ change_ends (is_input n i) taken w.pipes (λ p. refl)

      turns : turns_left (after_pull w n i node p m).nodes ≡ turns_left w.nodes
      turns =
          set_turns w.nodes n node (record node { progress = cond (is_multiplexer node.node.kind) node.progress (after_store node.node.kind i m node.progress) }) at
          (stored_turns (is_multiplexer node.node.kind) node.node.kind i m node.progress)

  pub pulls_keep : (n i number : ℕ) (v : World) → Steps F w (pulled n i number) v → changes_left v ≡ changes_left w
  pulls_keep n i number v s = let pull = s.4 in ap changes_left pull.8 ∙ pull_changes n i s.0 pull.0 pull.1 s.1.0

  -- HAND-INS
  answer_wire : (k : ℕ) (rs : List Row) (p : Pipe) → (with_answer k rs p).wire ≡ p.wire
  answer_wire k rs p = by p.is_dropped
    where
      by : (d : Bool) → (cond d p (record p { got = slice_set p.got k (Some rs) })).wire ≡ p.wire
      by true = refl
      by false = refl

  partial_changes : (q : Piece) (o : Option Node) → slice_get w.nodes q.node ≡ o → changes_left (with_partial q o w) ≡ changes_left w
  partial_changes q None e = refl
  partial_changes q (Some x) e =
      let filled = record x.progress { taken = filled_slot q.input q.number (get_or q.tables 0 []) x.progress.taken } in
      ap (λ o. changes_left (put_progress o q.node filled w)) e ∙ ap (λ k. ends_left w.pipes + k) (set_turns w.nodes q.node x (record x { progress = filled }) e refl)

  put_changes : (q : Piece) (a : Answer) → changes_left (put_in q a w) ≡ changes_left w
  put_changes q (good rs) = ap (λ k. k + turns_left w.nodes) (change_ends (λ p. nat_eq p.wire.sender q.node && counts_for_sender w p) (with_answer q.gives rs) w.pipes (answer_wire q.gives rs))
  put_changes q (partial n) = partial_changes q (slice_get w.nodes q.node) refl
  put_changes q (bad c) = refl

  pub hand_ins_keep : (n i number worker : ℕ) (handed : Handed) (v : World) → Steps F w (handed_in n i number worker handed) v → Onward w v
  hand_ins_keep n i number worker handed v s =
      let q = s.0 in
      let a = s.7.0 in
      let changes = put_changes q a in
      subst (Onward w) (sym s.7.3) (record { nodes = put_nodes q a w; pipes = put_pipes q a w; turn = inr (omega arith, put_own q a w) })

  -- CLOSES AND ENDS
  pub closes_keep : (n : ℕ) (v : World) → Steps F w (closed n) v → Onward w v
  closes_keep n v s =
      let node = s.0 in
      let shut = record node { is_closed = true } in
      let ends = change_ends (λ p. nat_eq p.wire.sender n && p.in_phase) (λ p. record p { is_closed = true }) w.pipes (λ p. refl) in
      let turns = set_turns w.nodes n node shut s.1.0 refl in
      subst (Onward w) (sym s.4)
      (record {
        nodes = length_set w.nodes n shut;
        pipes = λ j. as_many j (λ p. cond (nat_eq p.wire.sender n && p.in_phase) (record p { is_closed = true }) p) w.pipes (λ p. closed_pipe j p (nat_eq p.wire.sender n && p.in_phase));
        turn = inr (omega arith, set_as_much w.nodes n node shut s.1.0 refl);
      })

  pub ends_keep : (phase : ℕ) (v : World) → Steps F w (ended phase) v → Onward w v
  ends_keep phase v s =
      let ends = same_ends (λ p. record p { in_phase = false; is_closed = false }) w.pipes (λ p. refl) in
      let turns = same_turns (λ (x : Node). record x { in_phase = false; is_closed = false }) w.nodes (λ x. refl) in
      subst (Onward w) (sym s.4)
      (record {
        nodes = mapped_length (λ (x : Node). record x { in_phase = false; is_closed = false }) w.nodes;
        pipes = λ j. as_many j (λ p. record p { in_phase = false; is_closed = false }) w.pipes (λ p. refl);
        turn = inr (omega arith, unmarked_own w.nodes);
      })
