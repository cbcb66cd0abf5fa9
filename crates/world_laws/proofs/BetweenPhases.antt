-- From the third parts of all nodes: in a settled world, where some pipe isn't done, some blocker can run.
use Rattle.std.proofs.Common.{◌≡◌, ℕ, zero, suc, ◌+◌, ◌<◌, ◌≤◌, ◌⊎◌, Bool, true, false, length, refl, ap, subst, ◌∙◌, inl, inr, arith}
use Rattle.std.specs.Prelude.{Contains, IsTrue}
use Rattle.std.proofs.lemmas.Bool.{cases_lt}
use Rattle.ps_ports.specs.Wires.{Wire, is_live}
use Rattle.ps_world.specs.World.{World, wires_of}
use Rattle.ps_world.specs.Laws.{IsReadySent, takes, IsRunnable, PortLaw}

-- the least number below n that passes, or none
pub record Least (f : ℕ → Bool) : Type 0 where
  pub number : ℕ
  pub passes : f number ≡ true
  pub below : (k : ℕ) → k < number → f k ≡ false

least_or_step : (f : ℕ → Bool) (n : ℕ) (b : Bool) → f n ≡ b → ((k : ℕ) → k < n → f k ≡ false) → Least f ⊎ ((k : ℕ) → k < suc n → f k ≡ false)
least_or_step f n true e none = inl (record { number = n; passes = e; below = none })
least_or_step f n false e none = inr (λ k h. at k h (cases_lt k n))
  where
    at : (k : ℕ) → k < suc n → (k < n) ⊎ (n ≤ k) → f k ≡ false
    at k h (inl lt) = none k lt
    at k h (inr ge) = let same : k ≡ n = omega arith in ap f same ∙ e

least_below : (f : ℕ → Bool) (n : ℕ) → Least f ⊎ ((k : ℕ) → k < n → f k ≡ false)
least_below f zero = inr (λ k h. absurd (omega arith))
least_below f (suc n) = by (least_below f n)
  where
    by : Least f ⊎ ((k : ℕ) → k < n → f k ≡ false) → Least f ⊎ ((k : ℕ) → k < suc n → f k ≡ false)
    by (inl l) = inl l
    by (inr none) = least_or_step f n (f n) refl none

pub least : (f : ℕ → Bool) (n : ℕ) → f n ≡ true → Least f
least f n e = by (least_below f (suc n))
  where
    by : Least f ⊎ ((k : ℕ) → k < suc n → f k ≡ false) → Least f
    by (inl l) = l
    by (inr none) = let no = none n (omega arith) in cc

module _ (w : World) (forward : (p : Wire) → Contains (wires_of w) p → p.sender < p.receiver) (inside : (p : Wire) → Contains (wires_of w) p → p.receiver < length w.nodes) (law : (n : ℕ) → PortLaw w n) where
  -- down from a live pipe there is a node that takes
  found_by : (k : ℕ) → ((q : Wire) → length w.nodes ≤ q.receiver + k → Contains (wires_of w) q → IsTrue (is_live q) → (n : ℕ) × IsTrue (takes w n)) → (p : Wire) → length w.nodes ≤ p.receiver + suc k
      → IsTrue (takes w p.receiver) ⊎ ((q : Wire) × Contains (wires_of w) q × (q.sender ≡ p.receiver) × IsTrue (is_live q)) → (n : ℕ) × IsTrue (takes w n)
  found_by k rec p h (inl t) = (p.receiver, t)
  found_by k rec p h (inr q) = let lower = forward q.0 q.1 in let same = q.2 in rec q.0 (omega arith) q.1 q.3

  found : (k : ℕ) (p : Wire) → length w.nodes ≤ p.receiver + k → Contains (wires_of w) p → IsTrue (is_live p) → (n : ℕ) × IsTrue (takes w n)
  found zero p h c l = let within = inside p c in absurd (omega arith)
  found (suc k) p h c l = found_by k (found k) p h ((law p.receiver).leads_on p c refl l)

  module _ (t : Least (takes w)) where
    -- above the first node that takes, every live pipe is sent ready
    sent_by : (p : Wire) → p.receiver ≤ t.number → Contains (wires_of w) p → IsTrue (is_live p)
        → IsTrue (takes w p.sender) ⊎ ((q : Wire) → Contains (wires_of w) q → q.sender ≡ p.sender → IsTrue (is_live q) → IsReadySent q) → IsReadySent p
    sent_by p h c l (inl takes_too) = let up = forward p c in let no = t.below p.sender (omega arith) in absurd (let both : IsTrue false = subst IsTrue no takes_too in cc)
    sent_by p h c l (inr f) = f p c refl l

    sent : (k : ℕ) (p : Wire) → p.sender < k → p.receiver ≤ t.number → Contains (wires_of w) p → IsTrue (is_live p) → IsReadySent p
    sent zero p h r c l = absurd (omega arith)
    sent (suc k) p h r c l =
        sent_by p r c l ((law p.sender).hands_on (λ q cq same lq. let higher = forward q cq in let lower = forward p c in sent k q (omega arith) (omega arith) cq lq))

    runnable : IsRunnable w t.number
    runnable =
        let taker = (law t.number).takes_means t.passes in
        let c = taker.is_input.0 in
        let at = taker.is_input.1 in
        let live = taker.is_input.2 in
        record {
          input = taker.input;
          is_input = (c, at);
          is_ready = (sent (suc taker.input.sender) taker.input (omega arith) (omega arith) c live, taker.is_ready);
          blocked_outputs = taker.blocked_outputs;
        }

  pub some_blocker : (p : Wire) → Contains (wires_of w) p → IsTrue (is_live p) → (n : ℕ) × IsRunnable w n
  some_blocker p c l =
      let f = found (length w.nodes) p (omega arith) c l in
      let t = least (takes w) f.0 f.1 in
      (t.number, runnable t)
