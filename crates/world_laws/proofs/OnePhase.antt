-- From the second parts of all nodes: while a node of the open phase isn't closed, a move is enabled or a piece is out.
use Rattle.std.proofs.Common.{◌≡◌, ℕ, zero, suc, ◌+◌, ◌<◌, ◌≤◌, ◌⊎◌, List, [], ◌∷◌, length, refl, sym, subst, ◌∙◌, inl, inr, arith}
use Rattle.std.proofs.lemmas.Option.{slice_get_within}
use Rattle.ps_frame.specs.Functions.{Functions}
use Rattle.ps_turns.specs.Tasks.{Piece}
use Rattle.ps_world.specs.World.{Pipe, World, IsWorking}
use Rattle.ps_world.specs.Laws.{IsOut, MayStep, IsStarved, IsFull, Progresses, PhaseFacts}

module _ (F : Functions) (w : World) (facts : PhaseFacts w) (law : (n : ℕ) → Progresses F w n) (none_out : w.outs ≡ []) where
  apart : (p : Pipe) → IsStarved w p → IsFull w p → ⊥
  apart p s f = let a = (facts.full_reader p f none_out).1 in let b = s.2 in cc

  Waits : ℕ → Type 0
  Waits n = MayStep F w ⊎ IsOut w ⊎ ((q : Pipe) × (q.wire.receiver ≡ n) × IsStarved w q) ⊎ ((q : Pipe) × (q.wire.sender ≡ n) × IsFull w q)

  -- upwards: the sender of a starved pipe may move, or is starved itself
  up_by : (k : ℕ) → ((q : Pipe) → q.wire.sender < k → IsStarved w q → MayStep F w ⊎ IsOut w) → (p : Pipe) → p.wire.sender < suc k → IsStarved w p → Waits p.wire.sender → MayStep F w ⊎ IsOut w
  unfolding Waits
  up_by k rec p h s (inl m) = inl m
  up_by k rec p h s (inr (inl o)) = inr o
  up_by k rec p h s (inr (inr (inl q))) = let lower = facts.forward q.0 q.2.0 in let same = q.1 in rec q.0 (omega arith) q.2
  up_by k rec p h s (inr (inr (inr q))) = absurd (apart p s (subst (λ x. IsFull w x) (sym (facts.one_output p q.0 s q.2 (sym q.1))) q.2))

  up : (k : ℕ) (p : Pipe) → p.wire.sender < k → IsStarved w p → MayStep F w ⊎ IsOut w
  unfolding Waits
  up zero p h s = absurd (omega arith)
  up (suc k) p h s = up_by k (up k) p h s (law p.wire.sender (facts.starved_sender p s))

  -- downwards: the reader of a full pipe may move, or is starved, or waits for a pipe further down
  down_by : (k : ℕ) → ((m : ℕ) → length w.nodes ≤ m + k → IsWorking w m → MayStep F w ⊎ IsOut w) → (n : ℕ) → length w.nodes ≤ n + suc k → Waits n → MayStep F w ⊎ IsOut w
  unfolding Waits
  down_by k rec n h (inl m) = inl m
  down_by k rec n h (inr (inl o)) = inr o
  down_by k rec n h (inr (inr (inl q))) = up (suc q.0.wire.sender) q.0 (omega arith) q.2
  down_by k rec n h (inr (inr (inr q))) = let lower = facts.forward q.0 q.2.0 in let same = q.1 in rec q.0.wire.receiver (omega arith) (facts.full_reader q.0 q.2 none_out).0

  down : (k n : ℕ) → length w.nodes ≤ n + k → IsWorking w n → MayStep F w ⊎ IsOut w
  unfolding Waits
  down zero n h u = let within = slice_get_within w.nodes n u.0 u.1 in absurd (omega arith)
  down (suc k) n h u = down_by k (down k) n h (law n u)

pub goes_on : (F : Functions) (w : World) → PhaseFacts w → ((n : ℕ) → Progresses F w n) → (n : ℕ) → IsWorking w n → MayStep F w ⊎ IsOut w
goes_on F w facts law n u = by w.outs refl
  where
    by : (outs : List Piece) → w.outs ≡ outs → MayStep F w ⊎ IsOut w
    by [] e = down F w facts law e (length w.nodes) n (omega arith) u
    by (q ∷ qs) e = inr (λ none. let x : [] ≡ q ∷ qs = sym none ∙ e in cc)
