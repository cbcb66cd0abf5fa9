-- Places that are written up to which numbers are wanted.
use Rattle.std.proofs.Common.{◌≡◌, ◌⊎◌, inl, inr, ℕ, ◌+◌, ◌<◌, ◌≤◌, ◌≢◌, List, [], ◌∷◌, ◌++◌, length, get_or, set, slice_get, take, refl, sym, subst, ◌∙◌, ap, arith, add-one}
use Rattle.std.specs.Prelude.{Contains, Some, map}
use Rattle.std.specs.List.{All}
use Rattle.std.proofs.Math.ListN.{length-set}
use Rattle.std.proofs.Math.Seq.{take-suc}
use Rattle.std.proofs.lemmas.List.{get_or-set_other, get_or-set_same, get_or-map, length-map, map-append}
use Rattle.std.proofs.lemmas.List.Elements.{Contains-append_cases}
use Rattle.std.proofs.lemmas.Option.{get_or_from_slice_get, slice_get_within}
use Rattle.pu_base.specs.declared.arena.Node.{Node}
use Rattle.ps_plan.specs.Graph.{named_by}
use Rattle.ps_plan.specs.Entries.{entry_inputs}
use Rattle.ps_plan.specs.declared.ir.IR.{IR}
use Rattle.ps_survey.proofs.Lists.{same-or-not}
use Rattle.ps_survey.specs.Orders.{inputs_in}
use Rattle.plain_queries.specs.Readers.{IsWantedUntil}

abbrev pub numbers : List Node → List ℕ
numbers ns = map (λ (n : Node). n.0) ns

pub inputs-are : (ir : List IR) (n : ℕ) (e : IR) → slice_get ir n ≡ Some e → inputs_in ir n ≡ numbers (entry_inputs e)
inputs-are ir n e is = ap (named_by entry_inputs) is

pub inputs-within : (size : ℕ) (ns : List Node) → All (λ m. m < size) (numbers ns) → All (λ (x : Node). x.0 < size) ns
inputs-within size ns all k d h =
    let within = all k d.0 (subst (λ j. k < j) (sym (length-map ns (λ (x : Node). x.0))) h) in
    subst (λ j. j < size) (get_or-map (λ (x : Node). x.0) ns k d d.0 h) within

-- the first nodes of these are wanted at a place, and what was wanted no longer than that stays wanted
pub record Wanting (first : List ℕ) (nodes : List Node) (place i : ℕ) (until : List ℕ) : Type 0 where
  pub size : length until ≡ length first
  pub wanted : (m : ℕ) → Contains (numbers (take i nodes)) m → get_or until m 0 ≡ place
  pub kept : (m k : ℕ) → k ≤ place → k ≤ get_or first m 0 → k ≤ get_or until m 0

none-stands : (m : ℕ) → Contains [] m → ⊥
none-stands m (k, h, e) = omega (arith, h)

pub wanting-first : (first : List ℕ) (nodes : List Node) (place : ℕ) → Wanting first nodes place 0 first
wanting-first first nodes place = record { size = refl; wanted = λ m c. absurd (none-stands m c); kept = λ m k below h. h }

module _ (first : List ℕ) (nodes : List Node) (place i : ℕ) (until : List ℕ) (n : Node) (at : slice_get nodes i ≡ Some n) (within : n.0 < length until) (wanting : Wanting first nodes place i until) where
  at-or-not : (m : ℕ) → (m ≡ n.0) ⊎ (m ≢ n.0) → get_or until m 0 ≡ place → get_or (set until n.0 place) m 0 ≡ place
  at-or-not m (inl e) h = subst (λ k. get_or (set until n.0 place) k 0 ≡ place) (sym e) (get_or-set_same until n.0 place 0 within)
  at-or-not m (inr d) h = get_or-set_other until n.0 m place 0 d ∙ h

  kept-or-not : (m k : ℕ) → (m ≡ n.0) ⊎ (m ≢ n.0) → k ≤ place → k ≤ get_or until m 0 → k ≤ get_or (set until n.0 place) m 0
  kept-or-not m k (inl e) below h = subst (λ j. k ≤ get_or (set until n.0 place) j 0) (sym e) (subst (λ j. k ≤ j) (sym (get_or-set_same until n.0 place 0 within)) below)
  kept-or-not m k (inr d) below h = subst (λ j. k ≤ j) (sym (get_or-set_other until n.0 m place 0 d)) h

  grown : numbers (take (i + 1) nodes) ≡ numbers (take i nodes) ++ n.0 ∷ []
  grown = ap (λ k. numbers (take k nodes)) (add-one i) ∙ ap numbers (take-suc nodes i n (slice_get_within nodes i n at) ∙ ap (λ x. take i nodes ++ x ∷ []) (get_or_from_slice_get nodes i n n at)) ∙ map-append (λ (n : Node). n.0) (take i nodes) (n ∷ [])

  wanted-next : (m : ℕ) → Contains (numbers (take i nodes)) m ⊎ Contains (n.0 ∷ []) m → get_or (set until n.0 place) m 0 ≡ place
  wanted-next m (inl c) = at-or-not m (same-or-not m n.0) (wanting.wanted m c)
  wanted-next m (inr (k, h, e)) = let is-first : k ≡ 0 = omega (arith, h) in
      let same : n.0 ≡ m = sym (ap (λ j. get_or (n.0 ∷ []) j m) is-first) ∙ e in
      subst (λ j. get_or (set until n.0 place) j 0 ≡ place) same (get_or-set_same until n.0 place 0 within)

  pub wanting-next : Wanting first nodes place (i + 1) (set until n.0 place)
  wanting-next = record {
    size = length-set until n.0 place ∙ wanting.size;
    wanted = λ m c. wanted-next m (Contains-append_cases (numbers (take i nodes)) (n.0 ∷ []) m (subst (λ ns. Contains ns m) grown c));
    kept = λ m k below h. kept-or-not m k (same-or-not m n.0) below (wanting.kept m k below h);
  }

-- what the numbers before a place of the order name is wanted
pub record WantedSoFar (size : ℕ) (next : ℕ → List ℕ) (order : List ℕ) (place : ℕ) (until : List ℕ) : Type 0 where
  pub long : length until ≡ size
  pub wanted : (i n m : ℕ) → i < place → slice_get order i ≡ Some n → Contains (next n) m → i ≤ get_or until m 0

module _ (size : ℕ) (next : ℕ → List ℕ) (order : List ℕ) where
  pub wanted-first : (until : List ℕ) → length until ≡ size → WantedSoFar size next order 0 until
  wanted-first until long = record { long = long; wanted = λ i n m before at c. absurd (omega (arith, before)) }

  -- the place of a number, all of whose names are then wanted there
  module _ (place : ℕ) (until then : List ℕ) (n : ℕ) (names : List ℕ) (at : slice_get order place ≡ Some n) (is : next n ≡ names) (same : length then ≡ length until)
      (wanted : (m : ℕ) → Contains names m → get_or then m 0 ≡ place) (kept : (m k : ℕ) → k ≤ place → k ≤ get_or until m 0 → k ≤ get_or then m 0) (before : WantedSoFar size next order place until) where
    now-or-before : (i k m : ℕ) → (i ≡ place) ⊎ (i ≢ place) → i < place + 1 → slice_get order i ≡ Some k → Contains (next k) m → i ≤ get_or then m 0
    now-or-before i k m (inl e) within found c =
        let twice : Some n ≡ Some k = sym at ∙ sym (ap (slice_get order) e) ∙ found in
        let one : n ≡ k = cc in
        let h = wanted m (subst (λ ns. Contains ns m) is (subst (λ j. Contains (next j) m) (sym one) c)) in
        omega (arith, h, e)
    now-or-before i k m (inr d) within found c =
        let earlier : i < place = omega (arith, within, d) in
        kept m i (omega (arith, earlier)) (before.wanted i k m earlier found c)

    pub wanted-next-place : WantedSoFar size next order (place + 1) then
    wanted-next-place = record { long = same ∙ before.long; wanted = λ i k m within found c. now-or-before i k m (same-or-not i place) within found c }

  pub wanted-all : (until then : List ℕ) → ((m k : ℕ) → k ≤ length order → k ≤ get_or until m 0 → k ≤ get_or then m 0) → WantedSoFar size next order (length order) until → IsWantedUntil next order then
  wanted-all until then kept all i n m at c = let within = slice_get_within order i n at in kept m i (omega (arith, within)) (all.wanted i n m within at c)
