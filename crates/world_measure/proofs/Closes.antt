-- A close leaves one node less to close, and an end no phase; neither leaves more to do for a node.
use Rattle.std.proofs.Common.{◌≡◌, ℕ, zero, suc, ◌<◌, ◌≤◌, ◌⊎◌, Bool, true, false, cond, List, [], ◌∷◌, length, None, Some, refl, sym, ap, subst, ◌∙◌, inl, inr, arith}
use Rattle.std.specs.Prelude.{map, nat_eq, not, slice_get, slice_set, ◌&&◌}
use Rattle.std.specs.List.{count_by}
use Rattle.std.proofs.lemmas.Bool.{cases_lt}
use Rattle.ps_frame.specs.Functions.{Functions}
use Rattle.ps_world.specs.Closing.{after_close, after_end}
use Rattle.ps_world.specs.Step.{Steps}
use Rattle.ps_world.specs.World.{Node, Pipe, World, closed, ended}
use Rattle.world_facts.proofs.CutOff.{both_true}
use Rattle.world_facts.proofs.HandedIn.{length_set}
use Rattle.world_facts.proofs.OpeningFacts.{count_first}
use Rattle.world_measure.proofs.Drops.{set_as_much}
use Rattle.world_measure.proofs.Falls.{rest_falls}
use Rattle.world_measure.proofs.Pipes.{as_many, untaken_at}
use Rattle.world_measure.specs.Left.{is_unclosed, left_to_do, own_left_of}
use Rattle.world_measure.specs.Order.{IsLess}

-- COUNTS
one_if : (b c : Bool) → b ≡ c → cond {A = ℕ} b 1 0 ≡ cond c 1 0
one_if b c e = ap (λ x. cond {A = ℕ} x 1 0) e

one_fewer : {A : Type 0} (t : A → Bool) (xs : List A) (n : ℕ) (old new : A) → slice_get xs n ≡ Some old → t old ≡ true → t new ≡ false → count_by t (slice_set xs n new) < count_by t xs
one_fewer t [] n old new at before after = absurd (let no : None ≡ Some old = at in cc)
one_fewer t (x ∷ xs) zero old new at before after =
    let is : x ≡ old = (let q : Some x ≡ Some old = at in cc) in
    let a = count_first t x xs in
    let b = count_first t new xs in
    let some = one_if (t x) true (ap t is ∙ before) in
    let none = one_if (t new) false after in
    omega (arith, a, b, some, none)
one_fewer t (x ∷ xs) (suc n) old new at before after =
    let rest = one_fewer t xs n old new at before after in
    let a = count_first t x xs in
    let b = count_first t x (slice_set xs n new) in
    omega (arith, a, b, rest)

none_of : {A : Type 0} (t : A → Bool) (g : A → A) (xs : List A) → ((x : A) → t (g x) ≡ false) → count_by t (map g xs) ≡ 0
none_of t g [] e = refl
none_of t g (x ∷ xs) e = let a = count_first t (g x) (map g xs) in let none = one_if (t (g x)) false (e x) in let rest = none_of t g xs e in omega (arith, a, none, rest)

pub mapped_length : {A B : Type 0} (g : A → B) (xs : List A) → length (map g xs) ≡ length xs
mapped_length g [] = refl
mapped_length g (x ∷ xs) = ap suc (mapped_length g xs)

-- CLOSES
pub closed_pipe : (j : ℕ) (p : Pipe) (b : Bool) → untaken_at j (cond b (record p { is_closed = true }) p) ≡ untaken_at j p
closed_pipe j p true = refl
closed_pipe j p false = refl

pub closes_fall : (F : Functions) (w v : World) (n : ℕ) → Steps F w (closed n) v → IsLess (left_to_do v) (left_to_do w)
closes_fall F w v n s =
    let node = s.0 in
    let at = s.1.0 in
    let shut = record node { is_closed = true } in
    let work = (both_true w.is_open (node.in_phase && not node.is_closed) s.1.1).1 in
    let fewer = one_fewer is_unclosed w.nodes n node shut at work (never node.in_phase) in
    subst (λ x. IsLess (left_to_do x) (left_to_do w)) (sym s.4)
    (rest_falls w (after_close w n node) (length_set w.nodes n shut) (λ j. as_many j (λ p. cond (nat_eq p.wire.sender n && p.in_phase) (record p { is_closed = true }) p) w.pipes (λ p. closed_pipe j p (nat_eq p.wire.sender n && p.in_phase)))
    (set_as_much w.nodes n node shut at refl) (inr (refl, inl (fewer, refl))))
  where
    never : (b : Bool) → (b && false) ≡ false
    never true = refl
    never false = refl

-- ENDS
pub unmarked_own : (nodes : List Node) (j : ℕ) → own_left_of (slice_get (map (λ (x : Node). record x { in_phase = false; is_closed = false }) nodes) j) ≡ own_left_of (slice_get nodes j)
unmarked_own [] j = refl
unmarked_own (x ∷ xs) zero = refl
unmarked_own (x ∷ xs) (suc j) = unmarked_own xs j

pub ends_fall : (F : Functions) (w v : World) (phase : ℕ) → Steps F w (ended phase) v → IsLess (left_to_do v) (left_to_do w)
ends_fall F w v phase s =
    subst (λ x. IsLess (left_to_do x) (left_to_do w)) (sym s.4)
    (rest_falls w (after_end w) (mapped_length (λ (x : Node). record x { in_phase = false; is_closed = false }) w.nodes) (λ j. as_many j (λ p. record p { in_phase = false; is_closed = false }) w.pipes (λ p. refl)) (unmarked_own w.nodes)
    (inr (refl, behind (cases_lt (count_by is_unclosed (after_end w).nodes) (count_by is_unclosed w.nodes)))))
  where
    none : count_by is_unclosed (after_end w).nodes ≡ 0
    none = none_of is_unclosed (λ (x : Node). record x { in_phase = false; is_closed = false }) w.nodes (λ x. refl)

    shut : 0 < cond w.is_open 1 0
    shut = subst (λ b. 0 < cond b 1 0) (sym s.0) (omega arith)

    behind : (count_by is_unclosed (after_end w).nodes < count_by is_unclosed w.nodes) ⊎ (count_by is_unclosed w.nodes ≤ count_by is_unclosed (after_end w).nodes)
        → IsLess (count_by is_unclosed (after_end w).nodes ∷ 0 ∷ []) (count_by is_unclosed w.nodes ∷ cond w.is_open 1 0 ∷ [])
    behind (inl less) = inl (less, refl)
    behind (inr more) = inr (let e = none in omega arith, inl (shut, refl))
