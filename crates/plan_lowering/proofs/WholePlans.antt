-- The physical plan of a valid plan, from what the lowering of its root and the multiplexers answer.
use Rattle.std.proofs.Common.{◌≡◌, ◌<◌, ◌^◌, List, [], ap, subst, ◌∙◌, arith}
use Rattle.std.specs.Prelude.{Option, option_map}
use Rattle.std.specs.BTreeMap.{is_at}
use Rattle.std.specs.Map.{lookup}
use Rattle.std.specs.Ordering.{nat_cmp}
use Rattle.pu_base.specs.declared.arena.Node.{Node}
use Rattle.ps_frame.specs.Functions.{Functions}
use Rattle.ps_frame.specs.Trees.{Tree, tree_at}
use Rattle.ps_frame.specs.declared.expr.AExpr.{AExpr}
use Rattle.ps_fresh.specs.InPlans.{IsNameUnder}
use Rattle.ps_fresh.specs.declared.lowering.Lowering.{Lowering}
use Rattle.ps_multiplexers.specs.Multiplexers.{with_multiplexers}
use Rattle.ps_phys.specs.Shown.{nodes_of, shown, stream_of}
use Rattle.ps_phys.specs.Walks.{shape_from}
use Rattle.ps_phys.specs.declared.phys.PhysNode.{PhysNode}
use Rattle.ps_phys.specs.declared.phys.PhysStream.{PhysStream}
use Rattle.ps_plan.specs.Plans.{tree_of}
use Rattle.ps_rules.specs.Names.{Knows}
use Rattle.ps_rules.specs.Slots.{State}
use Rattle.valid_plans.specs.Valid.{IsValidWith, ValidNodes, plan_with}
use Rattle.physical_plans.specs.PhysicalPlans.{IsPhysicalPlan}
use Rattle.plan_rules.specs.Plans.{LoweredPlan, lower_plan, lowering_of, nothing_yet}
use Rattle.lowering_parts.specs.Gathered.{Later}
use Rattle.plan_lowering.specs.Lowered.{CacheStreams, LowersAs, Shows, ShowsPlan}

-- nothing is lowered yet
shows_nothing : (f : Node → Tree) (l : Lowering) (s0 : CacheStreams) → l.phys_sm.slots ≡ [] → s0.entries ≡ [] → Shows f l s0 (nothing_yet l.names)
shows_nothing f l s0 no_nodes no_caches =
    record {
      state = λ i. record { nodes = nodes_of f (no_nodes i); names = l.names };
      cached = λ id. ap (λ es. option_map stream_of (lookup (is_at (nat_cmp id)) es)) no_caches;
    }

pub is_physical : (F : Functions) (v : ValidNodes) (a b : List AExpr) (l m : Lowering) (s0 s1 : CacheStreams) (root : Node) (s : PhysStream) (new : List (Option PhysNode)) → IsValidWith F v a → root ≡ v.root
    → ((G : Functions) → IsValidWith G v a → Knows l.names (IsNameUnder G (plan_with v a))) → l.names.next ≡ 0 → l.phys_sm.slots ≡ [] → s0.entries ≡ []
    → LowersAs (lower_plan F (tree_of (plan_with v a) root.0)) a b l m s0 s1 s → ((f : Node → Tree) → nodes_of f new ≡ with_multiplexers s.node.0 (nodes_of f m.phys_sm.slots)) → m.names.next < 2 ^ 64
    → Later b (λ f. IsPhysicalPlan F (plan_with v a) (shown f new s.node.0))
is_physical F v a b l m s0 s1 root s new valid at knows first no_nodes no_caches lowers shared fits later k =
    let f = tree_at later in
    let t = tree_of (plan_with v a) v.root.0 in
    let L : LoweredPlan = lowering_of F l.names t in
    let here : LowersAs (lower_plan F t) a b l m s0 s1 s = subst (λ (n : Node). LowersAs (lower_plan F (tree_of (plan_with v a) n.0)) a b l m s0 s1 s) at lowers in
    let x : ShowsPlan f m s1 s L = here.by_rule later k (nothing_yet l.names) (shows_nothing f l s0 no_nodes no_caches) in
    record {
      names = l.names;
      in_use = knows F valid;
      none_given = first;
      in_range = (let n = ap (λ (a : State). a.names.next) x.progress.state in omega arith);
      given = ap (λ nodes. shape_from nodes s.node.0) (shared f) ∙ (λ i. shape_from (with_multiplexers (x.stream i).0 (x.progress.state i).nodes) (x.stream i).0);
    }
