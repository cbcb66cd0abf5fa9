-- What was claimed was handed in or is out, since a hand-in takes away one piece alone. So where a phase ends, all that was claimed was handed in.
use Rattle.std.proofs.Common.{◌≡◌, ℕ, zero, suc, ◌+◌, ◌≤◌, ◌⊎◌, Bool, true, false, cond, List, [], ◌∷◌, ◌++◌, length, Option, Some, None, refl, sym, ap, subst, ◌∙◌, inl, inr, arith}
use Rattle.std.specs.Prelude.{Contains, nat_eq, not, slice_get, ◌&&◌}
use Rattle.std.specs.List.{count_by, filter as kept}
use Rattle.std.proofs.lemmas.Bool.Decides.{nat_tests}
use Rattle.ps_frame.specs.Causes.{is_empty}
use Rattle.ps_frame.specs.Functions.{Functions}
use Rattle.ps_turns.specs.Progress.{Progress}
use Rattle.ps_turns.specs.Tasks.{Piece, handed_of}
use Rattle.ps_options.specs.declared.options.Options.{Options}
use Rattle.ps_meaning.specs.Shape.{Shape}
use Rattle.ps_meaning.specs.Sound.{IsSound}
use Rattle.ps_world.specs.Claims.{before_drops, piece_of}
use Rattle.ps_world.specs.Opening.{Reaches, opening}
use Rattle.ps_world.specs.Phases.{after_open, blockers_in}
use Rattle.ps_world.specs.Pipes.{drop_at, drop_if, drops_from, put_progress}
use Rattle.ps_world.specs.Promises.{HandsAllIn, is_claim_of, is_hand_in_of}
use Rattle.ps_world.specs.Step.{Opens, Replays, Steps, breaks, settles}
use Rattle.ps_world.specs.Updates.{Updates, no_update, one_fill, one_update}
use Rattle.ps_world.specs.World.{Node, Record, World, claimed, closed, ended, handed_in, is_cut_off, opened, pulled}
use Rattle.world_facts.proofs.ClaimedOnce.{count_cons, count_last, drops_same, of_opens, updates_same}
use Rattle.world_facts.proofs.HandedOnce.{balanced}
use Rattle.world_laws.proofs.InOrder.{contains_cases, none_in_nil}
use Rattle.world_claims.proofs.PhaseEnds.{none_out}
use Rattle.world_claims.proofs.ReachedFacts.{known_opening, known_reached, known_step}
use Rattle.world_claims.specs.Numbering.{Known}

put_outs : (o : Option Node) (n : ℕ) (progress : Progress) (w : World) → (put_progress o n progress w).outs ≡ w.outs
put_outs None n progress w = refl
put_outs (Some node) n progress w = refl

updates_outs : (F : Functions) (w s : World) → Updates F w s → s.outs ≡ w.outs
updates_outs F w s no_update = refl
updates_outs F w s (one_update n node progress t u) = updates_outs F _ s u ∙ put_outs (slice_get w.nodes n) n progress w
updates_outs F w s (one_fill n node progress t u) = updates_outs F _ s u ∙ put_outs (slice_get w.nodes n) n progress w

drop_outs : (b : Bool) (n : ℕ) (w : World) → (drop_if b n w).outs ≡ w.outs
drop_outs true n w = refl
drop_outs false n w = refl

drops_outs : (n : ℕ) (w : World) → (drops_from w n).outs ≡ w.outs
drops_outs zero w = refl
drops_outs (suc n) w = drops_outs n (drop_at w n) ∙ drop_outs (is_cut_off w n) n w

open_outs : (s : World) (phase : ℕ) → (after_open s phase).outs ≡ s.outs
open_outs s phase = by (is_empty (blockers_in s)) refl
  where
    by : (b : Bool) → is_empty (blockers_in s) ≡ b → (after_open s phase).outs ≡ s.outs
    by true e = rw e refl
    by false e = rw e refl

opens_outs : (F : Functions) (s v : World) (phase : ℕ) → Opens F s phase v → v.outs ≡ s.outs
opens_outs F s v phase (settles rest e) = ap (λ (x : World). x.outs) e ∙ open_outs s phase
opens_outs F s v phase (breaks n c f e) = ap (λ (x : World). x.outs) e

-- one item alone isn't kept
at_index : {X : Type 0} (y : X) (xs : List X) → Contains xs y → (j : ℕ) × (slice_get xs j ≡ Some y)
at_index y [] c = absurd (none_in_nil y c)
at_index y (x ∷ xs) c = by (contains_cases x y xs c) (λ later. at_index y xs later)
  where
    by : (x ≡ y) ⊎ Contains xs y → (Contains xs y → (j : ℕ) × (slice_get xs j ≡ Some y)) → (j : ℕ) × (slice_get (x ∷ xs) j ≡ Some y)
    by (inl e) rest = (0, ap Some e)
    by (inr later) rest = let r = rest later in (suc r.0, r.1)

all_kept : {X : Type 0} (f t : X → Bool) (xs : List X) → ((j : ℕ) (y : X) → slice_get xs j ≡ Some y → t y ≡ true) → count_by f (kept t xs) ≡ count_by f xs
all_kept f t [] h = refl
all_kept f t (x ∷ xs) h =
    let rest = all_kept f t xs (λ j y e. h (suc j) y e) in
    let all = count_cons f x xs in
    let some = count_cons f x (kept t xs) in
    rw (h 0 x refl) (omega arith)

abbrev is_other : Piece → Piece → Bool
is_other q p = not (nat_eq p.worker q.worker)

abbrev OwnWorkers : List Piece → Type 0
OwnWorkers xs = (i j : ℕ) (q r : Piece) → slice_get xs i ≡ Some q → slice_get xs j ≡ Some r → q.worker ≡ r.worker → i ≡ j

same_worker : (p q : Piece) → is_other q p ≡ false → p.worker ≡ q.worker
same_worker p q e = by (nat_eq p.worker q.worker) refl
  where
    by : (b : Bool) → nat_eq p.worker q.worker ≡ b → p.worker ≡ q.worker
    by true d = grind (arith, nat_tests)
    by false d = absurd (let no : true ≡ false = sym (ap not d) ∙ e in cc)

itself : (q : Piece) → is_other q q ≡ false
itself q = let same : nat_eq q.worker q.worker ≡ true = grind (arith, nat_tests) in ap not same

one_gone : (f : Piece → Bool) (q : Piece) (xs : List Piece) (m : ℕ) → OwnWorkers xs → slice_get xs m ≡ Some q → count_by f xs ≤ count_by f (kept (is_other q) xs) + cond (f q) 1 0
one_gone f q [] m own e = absurd (let no : None ≡ Some q = e in cc)
one_gone f q (x ∷ xs) zero own e =
    let s : Some x ≡ Some q = e in
    let is : x ≡ q = cc in
    let gone : is_other q x ≡ false = ap (is_other q) is ∙ itself q in
    let others = all_kept f (is_other q) xs (λ j y h. other j y h (is_other q y) refl) in
    let all = count_cons f x xs in
    let one : cond {A = ℕ} (f x) 1 0 ≡ cond {A = ℕ} (f q) 1 0 = ap (λ y. cond {A = ℕ} (f y) 1 0) is in
    rw gone (omega arith)
  where
    other : (j : ℕ) (y : Piece) → slice_get xs j ≡ Some y → (b : Bool) → is_other q y ≡ b → is_other q y ≡ true
    other j y h true d = d
    other j y h false d = let no : suc j ≡ 0 = own (suc j) 0 y q h e (same_worker y q d) in absurd (omega (arith, no))
one_gone f q (x ∷ xs) (suc m) own e = by (one_gone f q xs m (λ i j y z g h k. later i j y z g h k) e) (is_other q x) refl
  where
    later : OwnWorkers xs
    later i j y z g h k = let s : suc i ≡ suc j = own (suc i) (suc j) y z g h k in omega (arith, s)

    by : count_by f xs ≤ count_by f (kept (is_other q) xs) + cond (f q) 1 0 → (b : Bool) → is_other q x ≡ b → count_by f (x ∷ xs) ≤ count_by f (kept (is_other q) (x ∷ xs)) + cond (f q) 1 0
    by rest true d = let all = count_cons f x xs in let some = count_cons f x (kept (is_other q) xs) in rw d (omega arith)
    by rest false d = let no : 0 ≡ suc m = own 0 (suc m) x q refl e (same_worker x q d) in absurd (omega (arith, no))

abbrev is_piece : (node input number : ℕ) → Piece → Bool
is_piece n i k q = nat_eq q.node n && (nat_eq q.input i && nat_eq q.number k)

abbrev IsPaid : World → Type 0
IsPaid w = (n i k : ℕ) → count_by (is_claim_of n i k) w.journal ≤ count_by (is_hand_in_of n i k) w.journal + count_by (is_piece n i k) w.outs

leaves : (w v : World) (r : Record) → v.journal ≡ w.journal ++ r ∷ [] → v.outs ≡ w.outs → ((n i k : ℕ) → (is_claim_of n i k r ≡ false) × (is_hand_in_of n i k r ≡ false)) → IsPaid w → IsPaid v
leaves w v r js os other b n i k =
    let before = b n i k in
    let o = other n i k in
    let no_claim : cond {A = ℕ} (is_claim_of n i k r) 1 0 ≡ 0 = ap (λ (x : Bool). cond {A = ℕ} x 1 0) o.0 in
    let no_hand : cond {A = ℕ} (is_hand_in_of n i k r) 1 0 ≡ 0 = ap (λ (x : Bool). cond {A = ℕ} x 1 0) o.1 in
    let claims = ap (count_by (is_claim_of n i k)) js ∙ count_last (is_claim_of n i k) w.journal r in
    let hands = ap (count_by (is_hand_in_of n i k)) js ∙ count_last (is_hand_in_of n i k) w.journal r in
    let pieces = ap (count_by (is_piece n i k)) os in
    omega arith

step_paid : (F : Functions) (w v : World) (r : Record) → Known F w → Steps F w r v → IsPaid w → IsPaid v
step_paid F w v (opened phase) f s b =
    let up = updates_same F w s.3.0 s.3.1 in
    let add = of_opens F s.3.0 v phase s.3.2 in
    leaves w v (opened phase) (add.1 ∙ ap (λ js. js ++ opened phase ∷ []) up.1) (opens_outs F s.3.0 v phase s.3.2 ∙ updates_outs F w s.3.0 s.3.1) (λ n i k. (refl, refl)) b
step_paid F w v (claimed m j number worker) f s b =
    λ n i k.
    let start = before_drops w m j worker s.0 s.5.0 in
    let js = ap (λ (x : World). x.journal) s.5.3 ∙ (drops_same (length start.nodes) start).1 in
    let os = ap (λ (x : World). x.outs) s.5.3 ∙ drops_outs (length start.nodes) start in
    let r = claimed m j s.5.0.number worker in
    let q = piece_of m j worker s.5.0 in
    let before = b n i k in
    let claims = ap (count_by (is_claim_of n i k)) js ∙ count_last (is_claim_of n i k) w.journal r in
    let hands = ap (count_by (is_hand_in_of n i k)) js ∙ count_last (is_hand_in_of n i k) w.journal r in
    let pieces = ap (count_by (is_piece n i k)) os ∙ count_cons (is_piece n i k) q w.outs in
    omega arith
step_paid F w v (handed_in m j number worker handed) f s b =
    λ n i k.
    let q = s.0 in
    let r = handed_in q.node q.input q.number q.worker (handed_of s.7.0) in
    let js = ap (λ (x : World). x.journal) s.7.3 in
    let os = ap (λ (x : World). x.outs) s.7.3 in
    let before = b n i k in
    let claims = ap (count_by (is_claim_of n i k)) js ∙ count_last (is_claim_of n i k) w.journal r in
    let hands = ap (count_by (is_hand_in_of n i k)) js ∙ count_last (is_hand_in_of n i k) w.journal r in
    let pieces = ap (count_by (is_piece n i k)) os in
    let at = at_index q w.outs s.1 in
    let gone = one_gone (is_piece n i k) q w.outs at.0 f.facts.own_workers at.1 in
    omega arith
step_paid F w v (pulled m j number) f s b = leaves w v (pulled m j s.4.0.next) (ap (λ (x : World). x.journal) s.4.8) (ap (λ (x : World). x.outs) s.4.8) (λ n i k. (refl, refl)) b
step_paid F w v (closed m) f s b = leaves w v (closed m) (ap (λ (x : World). x.journal) s.4) (ap (λ (x : World). x.outs) s.4) (λ n i k. (refl, refl)) b
step_paid F w v (ended phase) f s b = leaves w v (ended w.phase) (ap (λ (x : World). x.journal) s.4) (ap (λ (x : World). x.outs) s.4) (λ n i k. (refl, refl)) b

replay_paid : (F : Functions) (w v : World) (rs : List Record) → Known F w → Replays F w rs v → IsPaid w → IsPaid v
replay_paid F w v [] f e b = subst IsPaid (sym e) b
replay_paid F w v (r ∷ rs) f s b = replay_paid F s.0 v rs (known_step F w s.0 r f s.1) s.2 (step_paid F w s.0 r f s.1 b)

pub hands_all_in : (F : Functions) (shape : Shape) (o : Options) (w : World) → IsSound F shape → Reaches F shape o w → HandsAllIn F w
hands_all_in F shape o w sound r phase v s n i k =
    let none = none_out F w v phase (known_reached F shape o w sound r).facts s in
    let no_piece : count_by (is_piece n i k) w.outs ≡ 0 = ap (count_by (is_piece n i k)) none in
    let most = balanced F shape o w r n i k in
    let least = replay_paid F (opening shape o) w r.0 (known_opening F shape o sound) r.1 (λ n i k. omega arith) n i k in
    omega arith
