-- A hand-in leaves fewer pieces out, and no more to do for any node.
use Rattle.std.proofs.Common.{◌≡◌, ℕ, suc, ◌<◌, ◌≤◌, ◌⊎◌, Bool, true, false, cond, List, [], ◌∷◌, length, Option, None, Some, refl, sym, ap, subst, ◌∙◌, inl, inr, arith}
use Rattle.std.specs.Prelude.{Contains, get_or, nat_eq, not, slice_get, ◌&&◌}
use Rattle.std.specs.List.{filter as kept}
use Rattle.ps_frame.specs.Functions.{Functions}
use Rattle.ps_frame.specs.Tables.{Row}
use Rattle.ps_meaning.specs.Shape.{PhysicalKind, equi_join, group_by_node, in_memory_join, in_memory_map, in_memory_source, independent_select, negative_slice, reduce, zip_node}
use Rattle.ps_turns.specs.Claims.{filled_slot}
use Rattle.ps_turns.specs.Progress.{Progress}
use Rattle.ps_turns.specs.Tasks.{Answer, Handed, Piece, bad, good, partial}
use Rattle.ps_world.specs.Answers.{answered, put_in, with_partial}
use Rattle.ps_world.specs.Pipes.{put_progress}
use Rattle.ps_world.specs.Step.{Steps}
use Rattle.ps_world.specs.World.{Node, World, counts_for_sender, handed_in}
use Rattle.world_facts.proofs.CutOff.{its_number}
use Rattle.world_facts.proofs.HandedIn.{length_set}
use Rattle.world_laws.proofs.InOrder.{contains_cases, none_in_nil}
use Rattle.world_measure.proofs.Drops.{set_as_much}
use Rattle.world_measure.proofs.Falls.{rest_falls}
use Rattle.world_measure.proofs.Pipes.{answer_as_many}
use Rattle.world_measure.specs.Left.{left_to_do, own_left, own_left_at, untaken_by}
use Rattle.world_measure.specs.Order.{IsLess}

-- PIECES OUT
no_longer : {A : Type 0} (t : A → Bool) (xs : List A) → length (kept t xs) ≤ length xs
no_longer t [] = omega arith
no_longer t (x ∷ xs) = by (t x) (no_longer t xs)
  where
    by : (b : Bool) → length (kept t xs) ≤ length xs → length (cond b (x ∷ kept t xs) (kept t xs)) ≤ suc (length xs)
    by true rest = omega arith
    by false rest = omega arith

shorter : {A : Type 0} (t : A → Bool) (xs : List A) (x : A) → Contains xs x → t x ≡ false → length (kept t xs) < length xs
shorter t [] x c e = absurd (none_in_nil x c)
shorter t (y ∷ ys) x c e = by (t y) refl (contains_cases y x ys c) (λ later. shorter t ys x later e)
  where
    by : (b : Bool) → t y ≡ b → (y ≡ x) ⊎ Contains ys x → (Contains ys x → length (kept t ys) < length ys) → length (cond b (y ∷ kept t ys) (kept t ys)) < suc (length ys)
    by true q (inl same) rest = absurd (let no : true ≡ false = sym q ∙ ap t same ∙ e in cc)
    by true q (inr later) rest = let h = rest later in omega arith
    by false q place rest = let h = no_longer t ys in omega arith

-- WHAT AN ANSWER LEAVES
-- what a node keeps of its input counts for nothing of its own
kept_counts : (kind : PhysicalKind) (a : Progress) (slots : List (List (Option (List Row)))) → own_left kind (record a { taken = slots }) ≡ own_left kind a
kept_counts (in_memory_source t) a slots = refl
kept_counts (independent_select es) a slots = refl
kept_counts (in_memory_map step) a slots = refl
kept_counts (in_memory_join j) a slots = refl
kept_counts (negative_slice back n) a slots = refl
kept_counts (zip_node extend) a slots = refl
kept_counts (reduce es) a slots = refl
kept_counts (group_by_node keys aggregates) a slots = refl
kept_counts (equi_join j) a slots = refl
kept_counts kind a slots = refl

-- a partial comes into its slot
partial_nodes : (q : Piece) (w : World) (o : Option Node) → slice_get w.nodes q.node ≡ o → length (with_partial q o w).nodes ≡ length w.nodes
partial_nodes q w None e = refl
partial_nodes q w (Some x) e =
    let filled = record x.progress { taken = filled_slot q.input q.number (get_or q.tables 0 []) x.progress.taken } in
    ap (λ o. length (put_progress o q.node filled w).nodes) e ∙ length_set w.nodes q.node (record x { progress = filled })

partial_pipes : (q : Piece) (w : World) (o : Option Node) → slice_get w.nodes q.node ≡ o → (j : ℕ) → untaken_by j (with_partial q o w).pipes ≡ untaken_by j w.pipes
partial_pipes q w None e j = refl
partial_pipes q w (Some x) e j = ap (λ o. untaken_by j (put_progress o q.node (record x.progress { taken = filled_slot q.input q.number (get_or q.tables 0 []) x.progress.taken }) w).pipes) e

partial_own : (q : Piece) (w : World) (o : Option Node) → slice_get w.nodes q.node ≡ o → (j : ℕ) → own_left_at (with_partial q o w) j ≡ own_left_at w j
partial_own q w None e j = refl
partial_own q w (Some x) e j =
    let filled = record x.progress { taken = filled_slot q.input q.number (get_or q.tables 0 []) x.progress.taken } in
    ap (λ o. own_left_at (put_progress o q.node filled w) j) e ∙ set_as_much w.nodes q.node x (record x { progress = filled }) e (kept_counts x.node.kind x.progress (filled_slot q.input q.number (get_or q.tables 0 []) x.progress.taken)) j

pub put_nodes : (q : Piece) (a : Answer) (w : World) → length (put_in q a w).nodes ≡ length w.nodes
put_nodes q (good rs) w = refl
put_nodes q (partial n) w = partial_nodes q w (slice_get w.nodes q.node) refl
put_nodes q (bad c) w = refl

pub put_pipes : (q : Piece) (a : Answer) (w : World) (j : ℕ) → untaken_by j (put_in q a w).pipes ≡ untaken_by j w.pipes
put_pipes q (good rs) w j = answer_as_many q.gives rs (λ p. nat_eq p.wire.sender q.node && counts_for_sender w p) w.pipes j
put_pipes q (partial n) w j = partial_pipes q w (slice_get w.nodes q.node) refl j
put_pipes q (bad c) w j = refl

pub put_own : (q : Piece) (a : Answer) (w : World) (j : ℕ) → own_left_at (put_in q a w) j ≡ own_left_at w j
put_own q (good rs) w j = refl
put_own q (partial n) w j = partial_own q w (slice_get w.nodes q.node) refl j
put_own q (bad c) w j = refl

pub hand_ins_fall : (F : Functions) (w v : World) (n i number worker : ℕ) (handed : Handed) → Steps F w (handed_in n i number worker handed) v → IsLess (left_to_do v) (left_to_do w)
hand_ins_fall F w v n i number worker handed s =
    let q = s.0 in
    let answer = s.7 in
    let a = answer.0 in
    let out = shorter (λ (p : Piece). not (nat_eq p.worker q.worker)) w.outs q s.1 (ap not (its_number q.worker q.worker refl)) in
    subst (λ x. IsLess (left_to_do x) (left_to_do w)) (sym answer.3) (rest_falls w (answered w q a) (put_nodes q a w) (put_pipes q a w) (put_own q a w) (inl (out, refl)))
