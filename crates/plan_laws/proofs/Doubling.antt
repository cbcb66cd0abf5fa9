-- A scan, forty unions of the node before twice each, and a sink: refused at each union from the sixteenth on.
use Rattle.std.proofs.Common.{◌≡◌, ℕ, zero, suc, ◌+◌, ◌-◌, ◌*◌, ◌^◌, ◌<◌, ◌≤◌, List, [], ◌∷◌, length, Some, None, refl, sym, ap, subst, ◌∙◌, inl, arith}
use Rattle.std.specs.Prelude.{slice_get, Contains}
use Rattle.std.proofs.Math.Nat.{pow-succ'}
use Rattle.std.proofs.Math.Numerals.{add-one}
use Rattle.std.proofs.Math.Pow.{pow_mono}
use Rattle.ps_frame.specs.Functions.{Functions}
use Rattle.ps_frame.specs.Tables.{Frame}
use Rattle.ps_frame.specs.Trees.{tree_at}
use Rattle.ps_frame.specs.declared.refusal.Why.TheVariants as why
use Rattle.ps_plan.specs.Graph.{HasNoCircle, Leads, Path, Reached, exprs_at, here, inputs_at, named_by, onward}
use Rattle.ps_meaning.specs.PlanTrees.{PlanTree, node, occurrences, tree}
use Rattle.ps_plan.specs.Plans.{Plan, node_tree, plan_within}
use Rattle.ps_meaning.specs.StepRefusals.{invalid_plan}
use Rattle.ps_plan.specs.Refusals.{IsRefused, too_large}
use Rattle.ps_meaning.specs.Steps.{union}
use Rattle.ps_plan.specs.Entries.{entry_exprs, entry_inputs}
use Rattle.ps_plan.specs.declared.ir.IR.{IR}
use Rattle.ps_plan.specs.declared.ir.IR.TheVariants as entry
use Rattle.plan_laws.specs.Refused.{doubling_plan, node_of, unions_from}
use Rattle.plan_laws.specs.Examples.{one_input, scan_of}

-- Where each number names smaller ones alone, nothing reaches itself.
module _ (next : ℕ → List ℕ) (falls : (a b : ℕ) → Contains (next a) b → b < a) where
  pub path_falls : {a b : ℕ} → Path next a b → b ≤ a
  path_falls here = omega arith
  path_falls (onward {a} {b} h way) = let x = falls a b h in let y = path_falls way in omega arith

  pub no_return : (a : ℕ) → ¬ Leads next a a
  no_return a l = let x = falls a l.first l.is_next in let y = path_falls l.way in absurd (omega arith)

-- unions of the node before, twice each: the occurrences double with each
abbrev pub doubled : Frame → ℕ → PlanTree
doubled f zero = scan_of 0 f
doubled f (suc k) = node (suc k) (union None) (tree (doubled f k) (one_input (doubled f k)))

pub occurrences_doubled : (f : Frame) (k : ℕ) → 2 ^ (k + 1) ≤ occurrences (doubled f k) + 1
occurrences_doubled f zero = omega arith
occurrences_doubled f (suc k) =
    let h = occurrences_doubled f k in
    let e : 2 ^ (suc k + 1) ≡ 2 * 2 ^ (k + 1) = rw (add-one, add-one) (pow-succ' 2 (suc k)) in
    omega arith

-- from the sixteenth union on there are too many
pub doubled_too_large : (f : Frame) → 65536 < occurrences (doubled f 16)
doubled_too_large f = let h = occurrences_doubled f 16 in omega arith

-- a number in a list of one or two equal ones is that one
in_one : (i m : ℕ) → Contains (i ∷ []) m → m ≡ i
in_one i m (zero, h, e) = sym e
in_one i m (suc k, h, e) = absurd (omega arith)

in_two : (i m : ℕ) → Contains (i ∷ i ∷ []) m → m ≡ i
in_two i m (zero, h, e) = sym e
in_two i m (suc zero, h, e) = sym e
in_two i m (suc (suc k), h, e) = absurd (omega arith)

abbrev nothing : List ℕ
nothing = []

in_none : (m : ℕ) → Contains nothing m → ⊥
in_none m (k, h, e) = absurd (omega arith)

module _ (f : Frame) where
  abbrev union_of : ℕ → IR
  union_of i = entry.Union (node_of i ∷ node_of i ∷ []) (record { slice = None })

  abbrev unions : ℕ → ℕ → List IR
  unions i n = unions_from i n

  abbrev doubling : Plan
  doubling = doubling_plan f

  length_unions : (i n : ℕ) → length (unions i n) ≡ n + 1
  length_unions i zero = refl
  length_unions i (suc n) = let h = length_unions (i + 1) n in omega arith

  at_union : (i n j k : ℕ) → j < n → k ≡ i + j → slice_get (unions i n) j ≡ Some (union_of k)
  at_union i zero j k h e = absurd (omega arith)
  at_union i (suc n) zero k h e = let same : i ≡ k = omega arith in ap (λ m. Some (union_of m)) same
  at_union i (suc n) (suc j) k h e = at_union (i + 1) n j k (omega arith) (omega arith)

  -- the tree of a union
  unfolds : (d k : ℕ) → k < d → k ≤ 40 → plan_within d doubling.nodes [] (node_of k) ≡ doubled f k
  unfolding plan_within
  unfolds zero k h le = absurd (omega arith)
  unfolds (suc d) zero h le = refl
  unfolds (suc d) (suc j) h le =
      let below = unfolds d j (omega arith) (omega arith) in
      ap (λ o. node_tree (tree_at []) (plan_within d doubling.nodes []) (node_of (suc j)) o) (at_union 0 40 j j (omega arith) (omega arith))
      ∙ ap (λ t. node (suc j) (union None) (tree t (one_input t))) below

  -- the numbers that each entry names are smaller than its own
  inputs_fall : (i n j m : ℕ) → Contains (named_by entry_inputs (slice_get (unions i n) j)) m → m ≤ i + j
  inputs_fall i zero zero m h = let e = in_one i m h in omega arith
  inputs_fall i zero (suc j) m h = absurd (in_none m h)
  inputs_fall i (suc n) zero m h = let e = in_two i m h in omega arith
  inputs_fall i (suc n) (suc j) m h = let e = inputs_fall (i + 1) n j m h in omega arith

  falls : (a b : ℕ) → Contains (inputs_at doubling a) b → b < a
  falls zero b h = absurd (in_none b h)
  falls (suc a) b h = let e = inputs_fall 0 40 a b h in omega arith

  no_expressions : (i n j e : ℕ) → Contains (named_by entry_exprs (slice_get (unions i n) j)) e → ⊥
  no_expressions i zero zero e h = in_none e h
  no_expressions i zero (suc j) e h = in_none e h
  no_expressions i (suc n) zero e h = in_none e h
  no_expressions i (suc n) (suc j) e h = no_expressions (i + 1) n j e h

  none_at : (n e : ℕ) → Contains (exprs_at doubling n) e → ⊥
  none_at zero e h = in_none e h
  none_at (suc n) e h = no_expressions 0 40 n e h

  no_circle : (n : ℕ) → HasNoCircle doubling n
  no_circle n = record { nodes = λ m way. no_return (inputs_at doubling) falls m; exprs = λ m e way names. absurd (none_at m names.from names.is_own) }

  leads : (j : ℕ) → j < 40 → Contains (inputs_at doubling (suc j)) j
  leads j h =
      let at = at_union 0 40 j j h (omega arith) in
      subst (λ ns. Contains ns j) (sym (ap (named_by entry_inputs) at)) (0, omega arith, refl)

  down : (d k m : ℕ) → m ≡ k + d → m ≤ 40 → Path (inputs_at doubling) m k
  down zero k m e h = let same : k ≡ m = omega arith in subst (λ x. Path (inputs_at doubling) x k) same here
  down (suc d) k zero e h = absurd (omega arith)
  down (suc d) k (suc j) e h = onward (leads j (omega arith)) (down d k j (omega arith) (omega arith))

  reached : (k : ℕ) → k ≤ 40 → Reached doubling k
  reached k h = onward (0, omega arith, refl) (down (40 - k) k 40 (omega arith) (omega arith))

  pub doubling_refused : (F : Functions) (k : ℕ) → 16 ≤ k → k ≤ 40 → IsRefused F doubling k (invalid_plan why.Limits)
  doubling_refused F k low high =
      let many = occurrences_doubled f k in
      let more : 2 ^ 17 ≤ 2 ^ (k + 1) = let le : 17 ≤ k + 1 = omega arith in pow_mono le in
      let long : k < length doubling.nodes = let l = length_unions 0 40 in omega arith in
      let large : 65536 < occurrences (doubled f k) = omega arith in
      record { reached = reached k high; because = inl (too_large (no_circle k) (subst (λ t. 65536 < occurrences t) (sym (unfolds (length doubling.nodes) k long high)) large)) }
