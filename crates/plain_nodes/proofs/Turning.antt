-- Nodes that make no table where they start to give.
use Rattle.std.proofs.Common.{◌≡◌, ℕ, zero, suc, ◌≤◌, Bool, true, false, ◌&&◌, List, [], ◌++◌, append-nil, arith, cond, length, not, refl, replicate, subst, sym, ap, ◌∙◌, inl, inr}
use Rattle.std.specs.Prelude.{IsPermutation, flat_map}
use Rattle.std.proofs.lemmas.List.{length-replicate}
use Rattle.std.proofs.lemmas.List.Sorted.{IsPermutation-refl}
use Rattle.bare_nodes.specs.Bare.{bare_node}
use Rattle.bare_nodes.specs.Uncalled.{no_functions}
use Rattle.ps_frame.specs.Functions.{Functions}
use Rattle.ps_frame.specs.Tables.{Fields, Row, Table}
use Rattle.ps_meaning.specs.Shape.{PhysicalNode, group_by_node}
use Rattle.ps_meaning.specs.Steps.{Named}
use Rattle.ps_options.specs.declared.options.Options.{Options}
use Rattle.ps_ports.specs.Ports.{Sides}
use Rattle.plain_nodes.specs.Seen.{all_in_first, lists_of}
use Rattle.ps_turns.specs.Keys.{IsSplit, distinct_keys}
use Rattle.ps_turns.specs.Progress.{Progress, Stage, giving, is_giving, spent, taking}
use Rattle.ps_turns.specs.Updates.{Makes, Turns, stage_after, starts_giving}
use Rattle.node_states.specs.Stages.{stages_behind}
use Rattle.turn_laws.proofs.Turned.{both, gives}
use Rattle.turn_laws.specs.Updating.{stages_before}

-- they turn by their stage alone
pub turns_plainly : (F : Functions) (o : Options) (p : PhysicalNode) (ss : List Fields) (given : Sides) (a : Progress) → Makes F o p p.kind ss a a → (s : Stage) → s ≡ stage_after o p.kind a given → Turns F o p ss given a (record a { stage = s })
turns_plainly F o p ss given a makes s e = by (starts_giving o p.kind a given) refl
  where
    by : (b : Bool) → starts_giving o p.kind a given ≡ b → Turns F o p ss given a (record a { stage = s })
    by true starts = inr (starts, a, makes, ap (λ t. record a { stage = t }) (e ∙ gives (stage_after o p.kind a given) (both (not (is_giving a.stage)) (is_giving (stage_after o p.kind a given)) starts).1))
    by false starts = inl (ap not starts, ap (λ t. record a { stage = t }) e)

module _ (F : Functions) (o : Options) (p : PhysicalNode) (ss : List Fields) (given : Sides) (a : Progress) (s : Stage) (is : s ≡ stage_after o p.kind a given) where
  -- one that doesn't begin to give turns by its stage
  pub goes_on : (not (is_giving a.stage) && is_giving s) ≡ false → Turns F o p ss given a (record a { stage = s })
  goes_on none = inl (ap not (ap (λ t. not (is_giving a.stage) && is_giving t) (sym is) ∙ none), ap (λ t. record a { stage = t }) is)

  -- one that does makes what it gives
  pub begins : (not (is_giving a.stage) && is_giving s) ≡ true → (c : Progress) → Makes F o p p.kind ss a c → Turns F o p ss given a (record c { stage = s })
  begins starts c makes = inr (ap (λ t. not (is_giving a.stage) && is_giving t) (sym is) ∙ starts, c, makes, ap (λ t. record c { stage = t }) (gives s (both (not (is_giving a.stage)) (is_giving s) starts).1))

-- lists of which the first holds all keys
nothing_behind_first : (k : ℕ) → flat_map (λ (l : List Row). l) (replicate k []) ≡ []
nothing_behind_first zero = refl
nothing_behind_first (suc k) = nothing_behind_first k

pub lists_count : (keys : List Row) (n : ℕ) → length (all_in_first keys n) ≡ n
lists_count keys zero = refl
lists_count keys (suc k) = ap suc (length-replicate k [])

pub split_in_first : (p : PhysicalNode) (ts : List Table) (n : ℕ) → 1 ≤ n → IsSplit p ts n (all_in_first (distinct_keys p ts) n)
split_in_first p ts zero some = absurd (omega arith)
split_in_first p ts (suc k) some =
    let keys = distinct_keys p ts in
    record {
      number = lists_count keys (suc k);
      each_once = subst (λ (xs : List Row). IsPermutation keys xs) (sym (ap (λ xs. keys ++ xs) (nothing_behind_first k) ∙ append-nil keys)) (IsPermutation-refl keys);
    }

-- a group-by that begins to give has its lists then, and keeps them otherwise
pub lists_turn : (o : Options) (keys aggregates : List Named) (given : Sides) (a : Progress) (n m : ℕ) (s : Stage) → s ≡ stage_after o (group_by_node keys aggregates) a given → a.lists ≡ lists_of (group_by_node keys aggregates) n
    → m ≡ cond (not (is_giving a.stage) && is_giving s) o.partitions n → Turns no_functions o (bare_node (group_by_node keys aggregates) []) [] given a (record a { stage = s; lists = lists_of (group_by_node keys aggregates) m })
lists_turn o keys aggregates given a n m s is before e = by (not (is_giving a.stage) && is_giving s) refl
  where
    by : (b : Bool) → (not (is_giving a.stage) && is_giving s) ≡ b → Turns no_functions o (bare_node (group_by_node keys aggregates) []) [] given a (record a { stage = s; lists = lists_of (group_by_node keys aggregates) m })
    by true starts =
        let all : m ≡ o.partitions = e ∙ ap (λ b. cond b o.partitions n) starts in
        let keys_held = distinct_keys (bare_node (group_by_node keys aggregates) []) [] in
        let split : IsSplit (bare_node (group_by_node keys aggregates) []) [] o.partitions (all_in_first keys_held m) =
        subst (λ k. IsSplit (bare_node (group_by_node keys aggregates) []) [] o.partitions (all_in_first keys_held k)) (sym all) (split_in_first (bare_node (group_by_node keys aggregates) []) [] o.partitions o.some_partitions) in
        begins no_functions o (bare_node (group_by_node keys aggregates) []) [] given a s is starts (record a { lists = lists_of (group_by_node keys aggregates) m }) (lists_of (group_by_node keys aggregates) m, split, refl)
    by false none =
        let same : m ≡ n = e ∙ ap (λ b. cond b o.partitions n) none in
        subst (λ ls. Turns no_functions o (bare_node (group_by_node keys aggregates) []) [] given a (record a { stage = s; lists = ls })) (before ∙ ap (lists_of (group_by_node keys aggregates)) (sym same))
        (goes_on no_functions o (bare_node (group_by_node keys aggregates) []) [] given a s is none)

-- both count the stages that are behind one
pub same_count : (s : Stage) → stages_behind s ≡ stages_before s
same_count taking = refl
same_count giving = refl
same_count spent = refl
