-- What a claim, a hand-in and a pull leave of each node: its entry and its stage, and what it gave where it is closed.
use Rattle.std.proofs.Common.{◌≡◌, ℕ, zero, suc, Bool, true, false, cond, List, [], length, Option, Some, None, refl, ap, subst, ◌∙◌, sym}
use Rattle.std.specs.Prelude.{IsTrue, get_or, not, slice_get, ◌&&◌}
use Rattle.ps_frame.specs.Functions.{Functions}
use Rattle.ps_frame.specs.Tables.{Row}
use Rattle.ps_meaning.specs.Shape.{PhysicalKind, negative_slice, zip_node}
use Rattle.ps_turns.specs.Claims.{Claim, Next, filled_slot}
use Rattle.ps_turns.specs.Progress.{Progress, is_multiplexer}
use Rattle.ps_turns.specs.Pulls.{after_store}
use Rattle.ps_turns.specs.Tasks.{Answer, Piece, bad, good, partial}
use Rattle.ps_world.specs.Answers.{answered, with_partial}
use Rattle.ps_world.specs.Claims.{before_drops, claim_at, inputs_in_phase, next_morsel}
use Rattle.ps_world.specs.Pipes.{drop_at, drop_if, drops_from, put_progress, without_heads}
use Rattle.ps_world.specs.Step.{Steps}
use Rattle.ps_world.specs.World.{Node, World, claimed, handed_in, heads_of, inputs_done, is_cut_off, pulled, schemas_for}
use Rattle.world_facts.proofs.CutOff.{both_true}
use Rattle.world_facts.proofs.Taken.{not_true}
use Rattle.world_claims.proofs.Beside.{Before, heads_from, set_from}
use Rattle.world_claims.proofs.Forms.{Form, form, gives_last, gives_own, gives_union, keeps_slot, passes_on}

-- a node after some steps of the phase, beside the same node before them
pub record Goes (x y : Node) : Type 0 where
  pub node : y.node ≡ x.node
  pub stage : y.progress.stage ≡ x.progress.stage
  pub closed : y.is_closed ≡ true → (x.is_closed ≡ true) × (y.progress.sent ≡ x.progress.sent)

pub itself : (x : Node) → Goes x x
itself x = record { node = refl; stage = refl; closed = λ e. (e, refl) }

-- each node of a world goes on from that of its number before
abbrev pub AllGo : World → World → Type 0
AllGo w v = (m : ℕ) (y : Node) → slice_get v.nodes m ≡ Some y → Before Goes w.nodes m y

composed : (w u v : World) → AllGo w u → AllGo u v → AllGo w v
composed w u v a b m y e =
    let second = b m y e in
    let first = a m second.0 second.1 in
    (first.0, first.1, record { node = second.2.node ∙ first.2.node; stage = second.2.stage ∙ first.2.stage; closed = both first.0 second.0 first.2 second.2 })
  where
    both : (x z : Node) → Goes x z → Goes z y → y.is_closed ≡ true → (x.is_closed ≡ true) × (y.progress.sent ≡ x.progress.sent)
    both x z f g shut = let late = g.closed shut in let early = f.closed late.0 in (early.0, late.1 ∙ early.1)

-- other progress of the same stage, where the node isn't closed
open_goes : (x : Node) (a : Progress) → x.is_closed ≡ false → a.stage ≡ x.progress.stage → Goes x (record x { progress = a })
open_goes x a open_one stage = record { node = refl; stage = stage; closed = λ e. absurd (let no : true ≡ false = sym e ∙ open_one in cc) }

at_work_open : (w : World) (node : Node) → IsTrue (w.is_open && (node.in_phase && not node.is_closed)) → node.is_closed ≡ false
at_work_open w node on = not_true node.is_closed (both_true node.in_phase (not node.is_closed) (both_true w.is_open (node.in_phase && not node.is_closed) on).1).1

-- DROPS
bare : (x : Node) → Goes x (without_heads x.node.kind x)
bare x = by x.node.kind
  where
    by : (k : PhysicalKind) → Goes x (without_heads k x)
    by (zip_node extend) = record { node = refl; stage = refl; closed = λ e. (e, refl) }
    by k = itself x

drop_goes : (b : Bool) (n : ℕ) (w : World) → AllGo w (drop_if b n w)
drop_goes false n w = λ m y e. (y, e, itself y)
drop_goes true n w = heads_from Goes itself bare n w.nodes

drops_go : (n : ℕ) (w : World) → AllGo w (drops_from w n)
drops_go zero w = λ m y e. (y, e, itself y)
drops_go (suc n) w = composed w (drop_at w n) (drops_from (drop_at w n) n) (drop_goes (is_cut_off w n) n w) (drops_go n (drop_at w n))

-- CLAIMS
pub form_of : (w : World) (n i : ℕ) (node : Node) (c : Claim) → claim_at w n i node ≡ Some c → Form node.node.kind node.progress (get_or (inputs_done w n) 0 false) i (next_morsel (inputs_in_phase w n i)) c
form_of w n i node c is = form w.options node.node (schemas_for w node) node.progress (heads_of w n node) (inputs_done w n) i (next_morsel (inputs_in_phase w n i)) c node.node.kind is

form_stage : (kind : PhysicalKind) (a : Progress) (d : Bool) (i : ℕ) (next : Next) (c : Claim) → Form kind a d i next c → c.progress.stage ≡ a.stage
form_stage kind a d i next c (gives_own k t g o s l m r v) = v
form_stage kind a d i next c (gives_union k m e g o s l t r v) = v
form_stage kind a d i next c (passes_on k t m e g o s x r y z v) = v
form_stage kind a d i next c (keeps_slot t k z m e o y s x r) = ap (λ (b : Progress). b.stage) s
form_stage kind a d i next c (gives_last j k u t y g o z s l m r v) = v

claim_stage : (w : World) (n i : ℕ) (node : Node) (c : Claim) → claim_at w n i node ≡ Some c → c.progress.stage ≡ node.progress.stage
claim_stage w n i node c is = form_stage node.node.kind node.progress (get_or (inputs_done w n) 0 false) i (next_morsel (inputs_in_phase w n i)) c (form_of w n i node c is)

pub claim_goes : (F : Functions) (w v : World) (n i number worker : ℕ) → Steps F w (claimed n i number worker) v → AllGo w v
claim_goes F w v n i number worker s =
    let start = before_drops w n i worker s.0 s.5.0 in
    subst (AllGo w) (sym s.5.3)
    (composed w start (drops_from start (length start.nodes))
    (set_from Goes itself w.nodes n s.0 (record s.0 { progress = s.5.0.progress }) s.1.0 (open_goes s.0 s.5.0.progress (at_work_open w s.0 s.1.1) (claim_stage w n i s.0 s.5.0 s.5.1)))
    (drops_go (length start.nodes) start))

-- HAND-INS
put_goes : (w : World) (n : ℕ) (node : Node) (a : Progress) → slice_get w.nodes n ≡ Some node → Goes node (record node { progress = a }) → (o : Option Node) → slice_get w.nodes n ≡ o → AllGo w (put_progress o n a w)
put_goes w n node a at g None e = absurd (let no : None ≡ Some node = sym e ∙ at in cc)
put_goes w n node a at g (Some x) e = let q : Some node ≡ Some x = sym at ∙ e in let is : node ≡ x = cc in set_from Goes itself w.nodes n x (record x { progress = a }) e (subst (λ z. Goes z (record z { progress = a })) is g)

partial_goes : (q : Piece) (w : World) (o : Option Node) → slice_get w.nodes q.node ≡ o → AllGo w (with_partial q o w)
partial_goes q w None e = λ m y h. (y, h, itself y)
partial_goes q w (Some node) e =
    let filled = record node.progress { taken = filled_slot q.input q.number (get_or q.tables 0 []) node.progress.taken } in
    put_goes w q.node node filled e (record { node = refl; stage = refl; closed = λ c. (c, refl) }) (slice_get w.nodes q.node) refl

answer_goes : (w : World) (q : Piece) (a : Answer) → AllGo w (answered w q a)
answer_goes w q (good rs) = λ m y e. (y, e, itself y)
answer_goes w q (partial n) = partial_goes q w (slice_get w.nodes q.node) refl
answer_goes w q (bad c) = λ m y e. (y, e, itself y)

pub hand_in_goes : (F : Functions) (w v : World) (n i number worker : ℕ) (handed : Rattle.ps_turns.specs.Tasks.Handed) → Steps F w (handed_in n i number worker handed) v → AllGo w v
hand_in_goes F w v n i number worker handed s = subst (AllGo w) (sym s.7.3) (answer_goes w s.0 s.7.0)

-- PULLS
store_stage : (kind : PhysicalKind) (i : ℕ) (m : List Row) (a : Progress) → (after_store kind i m a).stage ≡ a.stage
store_stage (negative_slice back n) i m a = refl
store_stage kind i m a = refl

if_stored : (b : Bool) (kind : PhysicalKind) (i : ℕ) (m : List Row) (a : Progress) → (cond b a (after_store kind i m a)).stage ≡ a.stage
if_stored true kind i m a = refl
if_stored false kind i m a = store_stage kind i m a

pub pull_goes : (F : Functions) (w v : World) (n i number : ℕ) → Steps F w (pulled n i number) v → AllGo w v
pull_goes F w v n i number s =
    let a = cond (is_multiplexer s.0.node.kind) s.0.progress (after_store s.0.node.kind i s.4.1 s.0.progress) in
    subst (AllGo w) (sym s.4.8) (set_from Goes itself w.nodes n s.0 (record s.0 { progress = a }) s.1.0 (open_goes s.0 a (at_work_open w s.0 s.1.1) (if_stored (is_multiplexer s.0.node.kind) s.0.node.kind i s.4.1 s.0.progress)))
