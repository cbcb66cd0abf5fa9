-- Several plans, lowered one after the other.
use Rattle.std.proofs.Common.{◌≡◌, ℕ, ◌+◌, ◌<◌, ◌≤◌, List, [], ◌∷◌, ◌++◌, add-one, get_or, length, refl, sym, ap, subst, ◌∙◌, take, take_all}
use Rattle.std.proofs.Math.Seq.{take-suc}
use Rattle.pu_base.specs.declared.arena.Node.{Node}
use Rattle.ps_frame.specs.Functions.{Functions}
use Rattle.ps_frame.specs.Trees.{tree_at}
use Rattle.ps_frame.specs.declared.expr.AExpr.{AExpr}
use Rattle.ps_meaning.specs.PlanTrees.{PlanTree}
use Rattle.ps_phys.specs.Shown.{streams_of}
use Rattle.ps_phys.specs.declared.phys.PhysStream.{PhysStream}
use Rattle.ps_plan.specs.Plans.{plan_trees_of}
use Rattle.plan_rules.specs.Plans.{LoweredPlan, LoweredPlans, Progress, lower_plan, lower_plans}
use Rattle.ps_fresh.specs.Known.{Remembers}
use Rattle.ps_fresh.specs.declared.lowering.Lowering.{Lowering}
use Rattle.lowering_parts.proofs.Going.{goes_nowhere, goes_then}
use Rattle.lowering_parts.proofs.Grown.{kept-then}
use Rattle.lowering_parts.proofs.StreamLemmas.{streams_last}
use Rattle.plan_lowering.specs.Lowered.{CacheStreams, LowerAs, LowersAs, ShowsPlan, ShowsPlans}

abbrev next_plan : LoweredPlans → (Progress → LoweredPlan) → LoweredPlans
next_plan l rule = let x = rule l.progress in record { progress = x.progress; streams = l.streams ++ x.stream ∷ [] }

-- one plan more
one_more : (F : Functions) (g : Node → PlanTree) (ns : List Node) (n : Node) (p : Progress) → lower_plans F (plan_trees_of g (ns ++ n ∷ [])) p ≡ next_plan (lower_plans F (plan_trees_of g ns) p) (lower_plan F (g n))
one_more F g [] n p = refl
one_more F g (m ∷ ms) n p =
    let first : LoweredPlan = lower_plan F (g m) p in
    let front : LoweredPlans → LoweredPlans = λ o. record { progress = o.progress; streams = first.stream ∷ o.streams } in
    ap front (one_more F g ms n first.progress)

take_next : (ns : List Node) (i : ℕ) (d : Node) → i < length ns → take (i + 1) ns ≡ take i ns ++ get_or ns i d ∷ []
take_next ns i d lt = rw add-one (take-suc ns i d lt)

module _ (F : Functions) (g : Node → PlanTree) (ns : List Node) where
  abbrev pub plans_to : ℕ → Progress → LoweredPlans
  plans_to i = lower_plans F (plan_trees_of g (take i ns))

  pub none_lowered : (a : List AExpr) (l : Lowering) (s0 : CacheStreams) (made : List PhysStream) → made ≡ [] → Remembers a l.cache → LowerAs (plans_to 0) a a l l s0 s0 made
  none_lowered a l s0 made empty known = record { by_rule = λ later k p shows. record { progress = shows; streams = ap streams_of empty }; goes_on = goes_nowhere a l l known refl }

  pub next_lowered : (i : ℕ) (d : Node) (t : PlanTree) (a b c : List AExpr) (l m q : Lowering) (s0 s1 s2 : CacheStreams) (made more : List PhysStream) (one : PhysStream) → i < length ns → t ≡ g (get_or ns i d)
      → LowerAs (plans_to i) a b l m s0 s1 made → LowersAs (lower_plan F t) b c m q s1 s2 one → more ≡ made ++ one ∷ [] → LowerAs (plans_to (i + 1)) a c l q s0 s2 more
  next_lowered i d t a b c l m q s0 s1 s2 made more one lt same before now added =
      record {
        by_rule = λ later k p shows.
            (let f = tree_at later in
            let L : LoweredPlans = plans_to i p in
            let x : ShowsPlans f m s1 made L = before.by_rule later (kept-then b c later now.goes_on.trees k) p shows in
            let y : ShowsPlan f q s2 one (lower_plan F t L.progress) = now.by_rule later k L.progress x.progress in
            let all : ShowsPlans f q s2 more (next_plan L (lower_plan F t)) = record { progress = y.progress; streams = ap streams_of added ∙ streams_last made one ∙ (λ j. x.streams j ++ y.stream j ∷ []) } in
            subst (ShowsPlans f q s2 more) (ap (λ (u : PlanTree). next_plan L (lower_plan F u)) same ∙ sym (one_more F g (take i ns) (get_or ns i d) p) ∙ ap (λ (ms : List Node). lower_plans F (plan_trees_of g ms) p) (sym (take_next ns i d lt))) all);
        goes_on = goes_then a b c l m q before.goes_on now.goes_on;
      }

  pub all_lowered : (i : ℕ) (a b : List AExpr) (l m : Lowering) (s0 s1 : CacheStreams) (made : List PhysStream) → length ns ≤ i → LowerAs (plans_to i) a b l m s0 s1 made → LowerAs (lower_plans F (plan_trees_of g ns)) a b l m s0 s1 made
  all_lowered i a b l m s0 s1 made le h = subst (λ (ms : List Node). LowerAs (lower_plans F (plan_trees_of g ms)) a b l m s0 s1 made) (take_all i ns le) h
