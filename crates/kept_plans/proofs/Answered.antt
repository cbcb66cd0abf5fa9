-- From what the rules give to what the call answers.
use Rattle.std.proofs.Common.{◌≡◌, ◌+◌, ◌≤◌, ◌<◌, ◌^◌, ℕ, List, length, refl, sym, ap, subst, ◌∙◌, arith}
use Rattle.std.proofs.lemmas.List.{length-map}
use Rattle.plan_calls.specs.Left.{AreLeftByCalls}
use Rattle.lowering_parts.specs.Gathered.{Later}
use Rattle.plan_calls.proofs.Parts.{part_along}
use Rattle.plan_calls.specs.Calls.{HasCome, KeepsNode, StepsStayWithin, called}
use Rattle.plan_lowering.proofs.Arenas.{tree_later}
use Rattle.plan_lowering.specs.Lowered.{CacheStreams, LowersAs, ShowsPlan}
use Rattle.plan_rules.specs.Plans.{Progress, lower_plan}
use Rattle.plan_sizes.proofs.Plans.{plans_insert}
use Rattle.plan_sizes.specs.Counted.{inserts_for_plan}
use Rattle.ps_copies.specs.Copies.{KeepsTrees}
use Rattle.ps_frame.specs.Functions.{Functions}
use Rattle.ps_frame.specs.Trees.{tree_at}
use Rattle.ps_frame.specs.declared.expr.AExpr.{AExpr}
use Rattle.ps_fresh.specs.declared.lowering.Lowering.{Lowering}
use Rattle.ps_meaning.specs.PlanTrees.{PlanTree}
use Rattle.ps_meaning.specs.Shape.{Shape}
use Rattle.ps_phys.specs.Shown.{node_of_slot, nodes_of, stream_of}
use Rattle.ps_phys.specs.declared.phys.PhysStream.{PhysStream}
use Rattle.ps_plan.specs.Graph.{Reached, here}
use Rattle.ps_plan.specs.Plans.{Plan, tree_of}
use Rattle.ps_rules.specs.Slots.{State, Stream}
use Rattle.ps_shares.specs.Kept.{IsInRange}
use Rattle.valid_plans.specs.Valid.{IsValidWith, ValidNodes, plan_with}
use Rattle.valid_within.proofs.Steps.{step_within}

pub steps_stay : (F : Functions) → StepsStayWithin F
steps_stay F at s step inputs ss other sound streams good known small = step_within F at s step inputs ss other sound streams good known small

few_more : (a b c d k : ℕ) → a ≡ c → b ≡ d → c ≤ d + k → a ≤ b + k
few_more a b c d k p q le = omega arith

within_range : (a b : ℕ) → a ≡ b → a < 2 ^ 64 → b ≤ 2 ^ 64
within_range a b e lt = omega arith

module _ (F : Functions) (v : ValidNodes) (a b : List AExpr) (n : ℕ) (l m : Lowering) (s0 s1 : CacheStreams) (s : PhysStream) (lowers : LowersAs (lower_plan F (tree_of (plan_with v a) n)) a b l m s0 s1 s) where
  abbrev plan : Plan
  plan = plan_with v a

  abbrev u : PlanTree
  u = tree_of (plan_with v a) n

  module _ (later : List AExpr) (k : KeepsTrees b later) (left : AreLeftByCalls F plan (tree_at later) l s0) where
    shown : ShowsPlan (tree_at later) m s1 s (lower_plan F u left.progress)
    shown = lowers.by_rule later k left.progress left.shows

    in_range : m.names.next < 2 ^ 64 → IsInRange (lower_plan F u left.progress).progress.state
    in_range fits = within_range m.names.next (lower_plan F u left.progress).progress.state.names.next (ap (λ (x : State). x.names.next) shown.progress.state) fits

  pub node_kept : m.names.next < 2 ^ 64 → ((p : Progress) → HasCome F (tree_of plan plan.root.0) p → IsInRange (lower_plan F u p).progress.state → KeepsNode F plan n p.state.nodes (lower_plan F u p).progress.state.nodes (lower_plan F u p).stream)
      → Later b (λ f. AreLeftByCalls F plan f l s0 → KeepsNode F plan n (nodes_of f l.phys_sm.slots) (nodes_of f m.phys_sm.slots) (stream_of s))
  node_kept fits keeps later k left =
      let x = shown later k left in
      subst (λ (y : Shape × Shape × Stream). KeepsNode F plan n y.0 y.1 y.2) (sym (λ i. ((left.shows.state i).nodes, (x.progress.state i).nodes, x.stream i))) (keeps left.progress left.come (in_range later k left fits))

  pub left_again : m.names.next < 2 ^ 64 → IsValidWith F v a → Reached plan n → Later b (λ f. AreLeftByCalls F plan f l s0 → AreLeftByCalls F (plan_with v b) f m s1)
  left_again fits valid reached later k left =
      let p = (lower_plan F u left.progress).progress in
      let come = called left.progress u left.come (part_along F plan valid.valid plan.root.0 n reached here) (in_range later k left fits) in
      record { progress = p; shows = (shown later k left).progress; come = subst (λ (t : PlanTree). HasCome F t p) (sym (tree_later F v a b lowers.goes_on.entries valid v.root.0 here)) come }

  pub few_made : AreLeftByCalls F plan (tree_at b) l s0 → length m.phys_sm.slots ≤ length l.phys_sm.slots + inserts_for_plan u
  few_made left =
      let f = tree_at b in
      let x = shown b (λ k e. refl) left in
      let old = sym (length-map l.phys_sm.slots (node_of_slot f)) ∙ ap (λ (x : State). length x.nodes) left.shows.state in
      let new = sym (length-map m.phys_sm.slots (node_of_slot f)) ∙ ap (λ (x : State). length x.nodes) x.progress.state in
      few_more (length m.phys_sm.slots) (length l.phys_sm.slots) (length (lower_plan F u left.progress).progress.state.nodes) (length left.progress.state.nodes) (inserts_for_plan u) new old (plans_insert F u left.progress)
