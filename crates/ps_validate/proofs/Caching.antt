-- Cache ids that are noted with their inputs, one node after another.
use Rattle.std.proofs.Common.{◌≡◌, ◌≢◌, ℕ, ◌+◌, List, length, slice_get, take, refl, sym, subst, ◌∙◌, ap, inl, inr, Option, Some, None}
use Rattle.std.specs.Prelude.{Contains, ◌⊎◌, ◌↔◌, IsSomeAnd, MatchOption}
use Rattle.std.proofs.Math.Seq.{take-length}
use Rattle.ps_plan.specs.Refusals.{IsCacheOver}
use Rattle.ps_plan.specs.declared.ir.IR.{IR}
use Rattle.ps_survey.proofs.Lists.{from-at, same-or-not}
use Rattle.ps_validate.proofs.Checking.{take-next}
use Rattle.ps_validate.proofs.LeftOuts.{no-item}
use Rattle.ps_validate.specs.Fit.{HaveOneInput, IsCacheAt, IsSplitCache}

-- the inputs of the ids of the nodes before i
pub record Caching (nodes : List IR) (order : List ℕ) (i : ℕ) (input_of : ℕ → Option ℕ) : Type 0 where
  pub seen : (n id a : ℕ) → Contains (take i order) n → IsCacheAt nodes n id a → input_of id ≡ Some a
  pub known : (id a : ℕ) → input_of id ≡ Some a → (n : ℕ) × Contains order n × IsCacheAt nodes n id a

pub caching-first : (nodes : List IR) (order : List ℕ) (input_of : ℕ → Option ℕ) → ((id : ℕ) → input_of id ≡ None) → Caching nodes order 0 input_of
caching-first nodes order input_of none = record { seen = λ n id a c h. absurd (no-item n c); known = λ id a h. let q : None ≡ Some a = sym (none id) ∙ h in cc }

pub caching-end : (nodes : List IR) (order : List ℕ) (input_of : ℕ → Option ℕ) → Caching nodes order (length order) input_of → HaveOneInput nodes order
caching-end nodes order input_of p n m id a b c d here there =
    let whole : (k : ℕ) → Contains order k → Contains (take (length order) order) k = λ k c. subst (λ ns. Contains ns k) (sym (take-length order)) c in
    let q : Some a ≡ Some b = sym (p.seen n id a (whole n c) here) ∙ p.seen m id b (whole m d) there in
    cc

module _ (nodes : List IR) (order : List ℕ) (i n : ℕ) (e : IR) (at : slice_get order i ≡ Some n) (is : slice_get nodes n ≡ Some e) (input_of : ℕ → Option ℕ) (p : Caching nodes order i input_of) where
  at-node : (id a : ℕ) → IsCacheAt nodes n id a → IsCacheOver id a e
  at-node id a h = subst (λ (o : Option IR). IsSomeAnd o (IsCacheOver id a)) is h

  of-node : (id a : ℕ) → IsCacheOver id a e → IsCacheAt nodes n id a
  of-node id a h = subst (λ (o : Option IR). IsSomeAnd o (IsCacheOver id a)) (sym is) h

  -- a node that is no cache
  pub caching-skip : ((id a : ℕ) → IsCacheOver id a e → ⊥) → Caching nodes order (i + 1) input_of
  caching-skip never =
      record {
        seen = λ m id a c h. elim (take-next order i n m at c) [ inl d ↦ p.seen m id a d h | inr same ↦ absurd (never id a (at-node id a (subst (λ (k : ℕ). IsCacheAt nodes k id a) (sym same) h))) ];
        known = p.known;
      }

  -- a cache, with the input that its id has then
  module _ (id0 a0 first : ℕ) (cache : (id a : ℕ) → IsCacheOver id a e ↔ (id ≡ id0) × (a ≡ a0)) (before : MatchOption (input_of id0) (first ≡ a0) (λ b. first ≡ b)) where
    own : IsCacheAt nodes n id0 a0
    own = of-node id0 a0 ((cache id0 a0).1 (refl, refl))

    first-is : (a : ℕ) → input_of id0 ≡ Some a → first ≡ a
    first-is a h = subst (λ o. MatchOption o (first ≡ a0) (λ b. first ≡ b)) h before

    pub caching-next : (then : ℕ → Option ℕ) → then id0 ≡ Some first → ((q : ℕ) → q ≢ id0 → then q ≡ input_of q) → first ≡ a0 → Caching nodes order (i + 1) then
    caching-next then noted others same = record { seen = seen'; known = known' }
      where
        of-old : (id a : ℕ) → input_of id ≡ Some a → (id ≡ id0) ⊎ (id ≢ id0) → then id ≡ Some a
        of-old id a h (inl q) = ap then q ∙ noted ∙ ap Some (first-is a (ap input_of (sym q) ∙ h))
        of-old id a h (inr ne) = others id ne ∙ h

        of-new : (id a : ℕ) → (id ≡ id0) × (a ≡ a0) → then id ≡ Some a
        of-new id a q = ap then q.0 ∙ noted ∙ ap Some (same ∙ sym q.1)

        seen' : (m id a : ℕ) → Contains (take (i + 1) order) m → IsCacheAt nodes m id a → then id ≡ Some a
        seen' m id a c h =
            elim (take-next order i n m at c) [
              | inl d ↦ of-old id a (p.seen m id a d h) (same-or-not id id0)
              | inr q ↦ of-new id a ((cache id a).0 (at-node id a (subst (λ (k : ℕ). IsCacheAt nodes k id a) (sym q) h)))
            ]

        from-own : (id a : ℕ) → then id ≡ Some a → (id ≡ id0) ⊎ (id ≢ id0) → (m : ℕ) × Contains order m × IsCacheAt nodes m id a
        from-own id a h (inl q) =
            let is_first : Some first ≡ Some a = sym noted ∙ ap then (sym q) ∙ h in
            let a-is : a0 ≡ a = (let f : first ≡ a = cc in sym same ∙ f) in
            (n, from-at order i n at, subst (λ (k : ℕ). IsCacheAt nodes n id k) a-is (subst (λ (k : ℕ). IsCacheAt nodes n k a0) (sym q) own))
        from-own id a h (inr ne) = p.known id a (sym (others id ne) ∙ h)

        known' : (id a : ℕ) → then id ≡ Some a → (m : ℕ) × Contains order m × IsCacheAt nodes m id a
        known' id a h = from-own id a h (same-or-not id id0)

    -- its id stands over another node
    pub split-here : first ≢ a0 → IsSplitCache nodes order n
    split-here ne = by (input_of id0) refl before
      where
        by : (o : Option ℕ) → input_of id0 ≡ o → MatchOption o (first ≡ a0) (λ b. first ≡ b) → IsSplitCache nodes order n
        by None h q = absurd (ne q)
        by (Some b) h q =
            let other = p.known id0 b h in
            record { id = id0; input = a0; other = other.0; other_input = b; stands = from-at order i n at; other_stands = other.1; here = own; there = other.2; apart = λ same. ne (q ∙ sym same) }
