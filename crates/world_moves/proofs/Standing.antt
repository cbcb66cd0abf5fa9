-- Steps of a phase leave the wires and the marks of pipes, and the kinds and the stages of nodes.
use Rattle.std.proofs.Common.{◌≡◌, ℕ, zero, suc, Bool, true, false, cond, List, [], ◌∷◌, ◌++◌, length, Option, None, Some, refl, sym, ap, ◌∙◌}
use Rattle.std.specs.Prelude.{get_or, map, nat_eq, slice_get, slice_set, ◌&&◌}
use Rattle.ps_frame.specs.Tables.{Row}
use Rattle.ps_meaning.specs.Shape.{PhysicalKind, PhysicalNode, negative_slice, zip_node}
use Rattle.ps_ports.specs.Wires.{Wire}
use Rattle.ps_turns.specs.Claims.{Claim, Next, filled_slot}
use Rattle.ps_turns.specs.Progress.{Progress, Stage, is_multiplexer}
use Rattle.ps_turns.specs.Pulls.{after_store}
use Rattle.ps_turns.specs.Tasks.{Answer, Piece, bad, good, partial}
use Rattle.ps_world.specs.Answers.{answered, with_partial}
use Rattle.ps_world.specs.Claims.{after_claim, before_drops, claim_at, inputs_in_phase, next_morsel}
use Rattle.ps_world.specs.Closing.{after_close}
use Rattle.ps_world.specs.Pipes.{change_pipes, drop_at, drop_if, dropped_pipe, drops_from, is_input, put_progress, put_without_heads, taken, with_answer, with_morsel, with_place, without_heads}
use Rattle.ps_world.specs.Pulls.{after_pull, is_open_port}
use Rattle.ps_world.specs.World.{Node, Pipe, World, bounded_out, counts_for_sender, heads_of, inputs_done, is_cut_off, schemas_for}
use Rattle.world_claims.proofs.Forms.{Form, form, gives_last, gives_own, gives_union, keeps_slot, passes_on}
use Rattle.world_facts.proofs.Follows.{map_like}

abbrev pub mark : Pipe → Wire × Bool
mark p = (p.wire, p.in_phase)

abbrev pub stand : Node → PhysicalNode × Stage
stand x = (x.node, x.progress.stage)

pub record Alike (w v : World) : Type 0 where
  pub pipes : map mark v.pipes ≡ map mark w.pipes
  pub nodes : map stand v.nodes ≡ map stand w.nodes

-- PIPES
changed : (g : Pipe → Pipe) (p : Pipe) (b : Bool) → mark (g p) ≡ mark p → mark (cond b (g p) p) ≡ mark p
changed g p true e = e
changed g p false e = refl

changes : (t : Pipe → Bool) (g : Pipe → Pipe) (ps : List Pipe) → ((p : Pipe) → mark (g p) ≡ mark p) → map mark (change_pipes t g ps) ≡ map mark ps
changes t g ps same = map_like mark (λ p. cond (t p) (g p) p) ps (λ p. changed g p (t p) (same p))

if_changes : (b : Bool) (t : Pipe → Bool) (g : Pipe → Pipe) (ps : List Pipe) → ((p : Pipe) → mark (g p) ≡ mark p) → map mark (cond b (change_pipes t g ps) ps) ≡ map mark ps
if_changes true t g ps same = changes t g ps same
if_changes false t g ps same = refl

answer_mark : (k : ℕ) (rs : List Row) (p : Pipe) → mark (with_answer k rs p) ≡ mark p
answer_mark k rs p = by p.is_dropped
  where
    by : (d : Bool) → mark (cond d p (record p { got = slice_set p.got k (Some rs) })) ≡ mark p
    by true = refl
    by false = refl

morsel_mark : (rs : List Row) (p : Pipe) → mark (with_morsel rs p) ≡ mark p
morsel_mark rs p = by p.is_dropped
  where
    by : (d : Bool) → mark (cond d p (record p { got = p.got ++ Some rs ∷ [] })) ≡ mark p
    by true = refl
    by false = refl

-- NODES
set_stand : (nodes : List Node) (n : ℕ) (old new : Node) → slice_get nodes n ≡ Some old → stand new ≡ stand old → map stand (slice_set nodes n new) ≡ map stand nodes
set_stand [] n old new e same = refl
set_stand (x ∷ xs) zero old new e same = let is : x ≡ old = (let q : Some x ≡ Some old = e in cc) in ap (λ s. s ∷ map stand xs) (same ∙ ap stand (sym is))
set_stand (x ∷ xs) (suc n) old new e same = ap (λ ss. stand x ∷ ss) (set_stand xs n old new e same)

bare_stand : (kind : PhysicalKind) (x : Node) → stand (without_heads kind x) ≡ stand x
bare_stand (zip_node extend) x = refl
bare_stand kind x = refl

lost_stand : (n : ℕ) (nodes : List Node) (o : Option Node) → slice_get nodes n ≡ o → map stand (put_without_heads o n nodes) ≡ map stand nodes
lost_stand n nodes None e = refl
lost_stand n nodes (Some x) e = set_stand nodes n x (without_heads x.node.kind x) e (bare_stand x.node.kind x)

stored_stage : (b : Bool) (kind : PhysicalKind) (i : ℕ) (m : List Row) (a : Progress) → (cond b a (after_store kind i m a)).stage ≡ a.stage
stored_stage true kind i m a = refl
stored_stage false (negative_slice back n) i m a = refl
stored_stage false kind i m a = refl

claim_stage : (kind : PhysicalKind) (a : Progress) (d : Bool) (i : ℕ) (next : Next) (c : Claim) → Form kind a d i next c → c.progress.stage ≡ a.stage
claim_stage kind a d i next c (gives_own k t g n s l m r v) = v
claim_stage kind a d i next c (gives_union k m e g n s l t r v) = v
claim_stage kind a d i next c (passes_on k t m e g n l s x r y v) = v
claim_stage kind a d i next c (keeps_slot t k z m e n y s x r) = ap (λ (p : Progress). p.stage) s
claim_stage kind a d i next c (gives_last j k f t y g n z s l m r v) = v

-- DROPS
drop_alike : (b : Bool) (n : ℕ) (w : World) → Alike w (drop_if b n w)
drop_alike false n w = record { pipes = refl; nodes = refl }
drop_alike true n w = record { pipes = changes (λ p. nat_eq p.wire.receiver n && p.in_phase) dropped_pipe w.pipes (λ p. refl); nodes = lost_stand n w.nodes (slice_get w.nodes n) refl }

then_alike : (u w v : World) → Alike u w → Alike w v → Alike u v
then_alike u w v a b = record { pipes = b.pipes ∙ a.pipes; nodes = b.nodes ∙ a.nodes }

drops_alike : (k : ℕ) (w : World) → Alike w (drops_from w k)
drops_alike zero w = record { pipes = refl; nodes = refl }
drops_alike (suc n) w = then_alike w (drop_at w n) (drops_from (drop_at w n) n) (drop_alike (is_cut_off w n) n w) (drops_alike n (drop_at w n))

-- EACH STEP
pub claims_alike : (w : World) (n i worker : ℕ) (node : Node) (c : Claim) → slice_get w.nodes n ≡ Some node → claim_at w n i node ≡ Some c → Alike w (after_claim w n i worker node c)
claims_alike w n i worker node c at is =
    then_alike w (before_drops w n i worker node c) (after_claim w n i worker node c)
    (record {
      pipes =
          if_changes c.drops_input (is_input n i) dropped_pipe (change_pipes (bounded_out w n) with_place (cond c.takes_morsel (change_pipes (is_input n i) taken w.pipes) w.pipes)) (λ p. refl)
          ∙ changes (bounded_out w n) with_place (cond c.takes_morsel (change_pipes (is_input n i) taken w.pipes) w.pipes) (λ p. refl)
          ∙ if_changes c.takes_morsel (is_input n i) taken w.pipes (λ p. refl);
      nodes =
          let stage = claim_stage node.node.kind node.progress (get_or (inputs_done w n) 0 false) i (next_morsel (inputs_in_phase w n i)) c (form w.options node.node (schemas_for w node) node.progress (heads_of w n node) (inputs_done w n) i (next_morsel (inputs_in_phase w n i)) c node.node.kind is) in
          set_stand w.nodes n node (record node { progress = c.progress }) at (λ j. (node.node, stage j));
    })
    (drops_alike (length (before_drops w n i worker node c).nodes) (before_drops w n i worker node c))

partial_alike : (q : Piece) (w : World) (o : Option Node) → slice_get w.nodes q.node ≡ o → Alike w (with_partial q o w)
partial_alike q w None e = record { pipes = refl; nodes = refl }
partial_alike q w (Some x) e =
    let filled = record x.progress { taken = filled_slot q.input q.number (get_or q.tables 0 []) x.progress.taken } in
    record { pipes = ap (λ o. map mark (put_progress o q.node filled w).pipes) e; nodes = ap (λ o. map stand (put_progress o q.node filled w).nodes) e ∙ set_stand w.nodes q.node x (record x { progress = filled }) e refl }

pub answers_alike : (w : World) (q : Piece) (a : Answer) → Alike w (answered w q a)
answers_alike w q (good rs) = record { pipes = changes (λ p. nat_eq p.wire.sender q.node && counts_for_sender w p) (with_answer q.gives rs) w.pipes (answer_mark q.gives rs); nodes = refl }
answers_alike w q (partial n) = let a = partial_alike q w (slice_get w.nodes q.node) refl in record { pipes = a.pipes; nodes = a.nodes }
answers_alike w q (bad c) = record { pipes = refl; nodes = refl }

pub pulls_alike : (w : World) (n i : ℕ) (node : Node) (p : Pipe) (m : List Row) → slice_get w.nodes n ≡ Some node → Alike w (after_pull w n i node p m)
pulls_alike w n i node p m at =
    record {
      pipes =
          if_changes (is_multiplexer node.node.kind) (is_open_port n) (with_morsel m) (change_pipes (is_input n i) taken w.pipes) (morsel_mark m)
          ∙ changes (is_input n i) taken w.pipes (λ q. refl);
      nodes =
          let stage = stored_stage (is_multiplexer node.node.kind) node.node.kind i m node.progress in
          set_stand w.nodes n node (record node { progress = cond (is_multiplexer node.node.kind) node.progress (after_store node.node.kind i m node.progress) }) at (λ j. (node.node, stage j));
    }

pub closes_alike : (w : World) (n : ℕ) (node : Node) → slice_get w.nodes n ≡ Some node → Alike w (after_close w n node)
closes_alike w n node at =
    record { pipes = changes (λ p. nat_eq p.wire.sender n && p.in_phase) (λ p. record p { is_closed = true }) w.pipes (λ p. refl); nodes = set_stand w.nodes n node (record node { is_closed = true }) at refl }
