-- Each number that is handed in was claimed before, and no oftener: hand-ins so far and pieces out are at most the claims. So each number of a source is claimed once, and handed in after that.
use Rattle.std.proofs.Common.{◌≡◌, ℕ, zero, suc, ◌+◌, ◌≤◌, ◌⊎◌, Bool, true, false, cond, List, [], ◌∷◌, ◌++◌, length, Option, Some, None, refl, sym, ap, subst, ◌∙◌, inl, inr, arith}
use Rattle.std.specs.Prelude.{Contains, nat_eq, not, slice_get, ◌&&◌}
use Rattle.std.specs.List.{count_by, filter as kept}
use Rattle.std.proofs.lemmas.Bool.Decides.{nat_tests}
use Rattle.ps_frame.specs.Causes.{is_empty}
use Rattle.ps_frame.specs.Functions.{Functions}
use Rattle.ps_turns.specs.Progress.{Progress}
use Rattle.ps_turns.specs.Tasks.{Piece, handed_of}
use Rattle.ps_options.specs.declared.options.Options.{Options}
use Rattle.ps_meaning.specs.Shape.{Shape}
use Rattle.ps_meaning.specs.Sound.{IsSound}
use Rattle.ps_world.specs.Claims.{before_drops, piece_of}
use Rattle.ps_world.specs.Opening.{Reaches, opening}
use Rattle.ps_world.specs.Phases.{after_open, blockers_in}
use Rattle.ps_world.specs.Pipes.{drop_at, drop_if, drops_from, put_progress}
use Rattle.ps_world.specs.Promises.{IsClaimedOnce, is_claim_of, is_hand_in_of}
use Rattle.ps_world.specs.Step.{Opens, Replays, Steps, breaks, settles}
use Rattle.ps_world.specs.Updates.{Updates, no_update, one_fill, one_update}
use Rattle.ps_world.specs.World.{Node, Record, World, claimed, closed, ended, handed_in, is_cut_off, opened, pulled}
use Rattle.world_facts.proofs.ClaimedOnce.{claimed_once, count_cons, count_last, drops_same, of_opens, updates_same}
use Rattle.world_laws.proofs.InOrder.{contains_cases, none_in_nil}

put_outs : (o : Option Node) (n : ℕ) (progress : Progress) (w : World) → (put_progress o n progress w).outs ≡ w.outs
put_outs None n progress w = refl
put_outs (Some node) n progress w = refl

updates_outs : (F : Functions) (w s : World) → Updates F w s → s.outs ≡ w.outs
updates_outs F w s no_update = refl
updates_outs F w s (one_update n node progress t u) = updates_outs F _ s u ∙ put_outs (slice_get w.nodes n) n progress w
updates_outs F w s (one_fill n node progress t u) = updates_outs F _ s u ∙ put_outs (slice_get w.nodes n) n progress w

drop_outs : (b : Bool) (n : ℕ) (w : World) → (drop_if b n w).outs ≡ w.outs
drop_outs true n w = refl
drop_outs false n w = refl

drops_outs : (n : ℕ) (w : World) → (drops_from w n).outs ≡ w.outs
drops_outs zero w = refl
drops_outs (suc n) w = drops_outs n (drop_at w n) ∙ drop_outs (is_cut_off w n) n w

open_outs : (s : World) (phase : ℕ) → (after_open s phase).outs ≡ s.outs
open_outs s phase = by (is_empty (blockers_in s)) refl
  where
    by : (b : Bool) → is_empty (blockers_in s) ≡ b → (after_open s phase).outs ≡ s.outs
    by true e = rw e refl
    by false e = rw e refl

opens_outs : (F : Functions) (s v : World) (phase : ℕ) → Opens F s phase v → v.outs ≡ s.outs
opens_outs F s v phase (settles rest e) = ap (λ (x : World). x.outs) e ∙ open_outs s phase
opens_outs F s v phase (breaks n c f e) = ap (λ (x : World). x.outs) e

-- what is kept of a list counts less, and one item that isn't kept counts too
fewer : {X : Type 0} (f t : X → Bool) (xs : List X) → count_by f (kept t xs) ≤ count_by f xs
fewer f t [] = omega arith
fewer f t (x ∷ xs) = by (t x) refl (fewer f t xs)
  where
    by : (b : Bool) → t x ≡ b → count_by f (kept t xs) ≤ count_by f xs → count_by f (kept t (x ∷ xs)) ≤ count_by f (x ∷ xs)
    by true e rest = let all = count_cons f x xs in let some = count_cons f x (kept t xs) in rw e (omega arith)
    by false e rest = let all = count_cons f x xs in rw e (omega arith)

removed : {X : Type 0} (f t : X → Bool) (q : X) (xs : List X) → Contains xs q → t q ≡ false → count_by f (kept t xs) + cond (f q) 1 0 ≤ count_by f xs
removed f t q [] c e = absurd (none_in_nil q c)
removed f t q (x ∷ xs) c e = by (t x) refl (contains_cases x q xs c) (λ later. removed f t q xs later e)
  where
    by : (b : Bool) → t x ≡ b → (x ≡ q) ⊎ Contains xs q → (Contains xs q → count_by f (kept t xs) + cond (f q) 1 0 ≤ count_by f xs) → count_by f (kept t (x ∷ xs)) + cond (f q) 1 0 ≤ count_by f (x ∷ xs)
    by true d (inl same) rest = absurd (let no : true ≡ false = sym d ∙ ap t same ∙ e in cc)
    by false d (inl same) rest =
        let all = count_cons f x xs in
        let less = fewer f t xs in
        let one : cond {A = ℕ} (f x) 1 0 ≡ cond {A = ℕ} (f q) 1 0 = ap (λ y. cond {A = ℕ} (f y) 1 0) same in
        rw d (omega arith)
    by true d (inr later) rest = let all = count_cons f x xs in let some = count_cons f x (kept t xs) in let there = rest later in rw d (omega arith)
    by false d (inr later) rest = let all = count_cons f x xs in let there = rest later in rw d (omega arith)

abbrev is_piece : (node input number : ℕ) → Piece → Bool
is_piece n i k q = nat_eq q.node n && (nat_eq q.input i && nat_eq q.number k)

abbrev pub IsBalanced : World → Type 0
IsBalanced w = (n i k : ℕ) → count_by (is_hand_in_of n i k) w.journal + count_by (is_piece n i k) w.outs ≤ count_by (is_claim_of n i k) w.journal

-- a record that is neither leaves it
leaves : (w v : World) (r : Record) → v.journal ≡ w.journal ++ r ∷ [] → v.outs ≡ w.outs → ((n i k : ℕ) → (is_claim_of n i k r ≡ false) × (is_hand_in_of n i k r ≡ false)) → IsBalanced w → IsBalanced v
leaves w v r js os other b n i k =
    let before = b n i k in
    let o = other n i k in
    let no_claim : cond {A = ℕ} (is_claim_of n i k r) 1 0 ≡ 0 = ap (λ (x : Bool). cond {A = ℕ} x 1 0) o.0 in
    let no_hand : cond {A = ℕ} (is_hand_in_of n i k r) 1 0 ≡ 0 = ap (λ (x : Bool). cond {A = ℕ} x 1 0) o.1 in
    let claims = ap (count_by (is_claim_of n i k)) js ∙ count_last (is_claim_of n i k) w.journal r in
    let hands = ap (count_by (is_hand_in_of n i k)) js ∙ count_last (is_hand_in_of n i k) w.journal r in
    let pieces = ap (count_by (is_piece n i k)) os in
    omega arith

worker_itself : (q : Piece) → not (nat_eq q.worker q.worker) ≡ false
worker_itself q = let same : nat_eq q.worker q.worker ≡ true = grind (arith, nat_tests) in ap not same

step_balanced : (F : Functions) (w v : World) (r : Record) → Steps F w r v → IsBalanced w → IsBalanced v
step_balanced F w v (opened phase) s b =
    let up = updates_same F w s.3.0 s.3.1 in
    let add = of_opens F s.3.0 v phase s.3.2 in
    leaves w v (opened phase) (add.1 ∙ ap (λ js. js ++ opened phase ∷ []) up.1) (opens_outs F s.3.0 v phase s.3.2 ∙ updates_outs F w s.3.0 s.3.1) (λ n i k. (refl, refl)) b
step_balanced F w v (claimed m j number worker) s b =
    λ n i k.
    let start = before_drops w m j worker s.0 s.5.0 in
    let js = ap (λ (x : World). x.journal) s.5.3 ∙ (drops_same (length start.nodes) start).1 in
    let os = ap (λ (x : World). x.outs) s.5.3 ∙ drops_outs (length start.nodes) start in
    let r = claimed m j s.5.0.number worker in
    let q = piece_of m j worker s.5.0 in
    let before = b n i k in
    let claims = ap (count_by (is_claim_of n i k)) js ∙ count_last (is_claim_of n i k) w.journal r in
    let hands = ap (count_by (is_hand_in_of n i k)) js ∙ count_last (is_hand_in_of n i k) w.journal r in
    let pieces = ap (count_by (is_piece n i k)) os ∙ count_cons (is_piece n i k) q w.outs in
    omega arith
step_balanced F w v (handed_in m j number worker handed) s b =
    λ n i k.
    let q = s.0 in
    let r = handed_in q.node q.input q.number q.worker (handed_of s.7.0) in
    let js = ap (λ (x : World). x.journal) s.7.3 in
    let os = ap (λ (x : World). x.outs) s.7.3 in
    let before = b n i k in
    let claims = ap (count_by (is_claim_of n i k)) js ∙ count_last (is_claim_of n i k) w.journal r in
    let hands = ap (count_by (is_hand_in_of n i k)) js ∙ count_last (is_hand_in_of n i k) w.journal r in
    let pieces = ap (count_by (is_piece n i k)) os in
    let gone = removed (is_piece n i k) (λ (p : Piece). not (nat_eq p.worker q.worker)) q w.outs s.1 (worker_itself q) in
    omega arith
step_balanced F w v (pulled m j number) s b = leaves w v (pulled m j s.4.0.next) (ap (λ (x : World). x.journal) s.4.8) (ap (λ (x : World). x.outs) s.4.8) (λ n i k. (refl, refl)) b
step_balanced F w v (closed m) s b = leaves w v (closed m) (ap (λ (x : World). x.journal) s.4) (ap (λ (x : World). x.outs) s.4) (λ n i k. (refl, refl)) b
step_balanced F w v (ended phase) s b = leaves w v (ended w.phase) (ap (λ (x : World). x.journal) s.4) (ap (λ (x : World). x.outs) s.4) (λ n i k. (refl, refl)) b

replay_balanced : (F : Functions) (w v : World) (rs : List Record) → Replays F w rs v → IsBalanced w → IsBalanced v
replay_balanced F w v [] e b = subst IsBalanced (sym e) b
replay_balanced F w v (r ∷ rs) s b = replay_balanced F s.0 v rs s.2 (step_balanced F w s.0 r s.1 b)

pub balanced : (F : Functions) (shape : Shape) (o : Options) (w : World) → Reaches F shape o w → IsBalanced w
balanced F shape o w r = replay_balanced F (opening shape o) w r.0 r.1 (λ n i k. omega arith)

pub is_claimed_once : (F : Functions) (shape : Shape) → IsSound F shape → (o : Options) (w : World) → Reaches F shape o w → IsClaimedOnce w
is_claimed_once F shape sound o w r n k p at none = let b = balanced F shape o w r n 0 k in (claimed_once F shape sound o w r n k p at none, omega arith)
