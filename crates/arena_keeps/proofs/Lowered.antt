-- A valid plan whose calls keep their steps is lowered.
use Rattle.std.proofs.Common.{◌≡◌, ℕ, sym, ap, subst, ◌∙◌}
use Rattle.std.proofs.lemmas.Option.{slice_get_within}
use Rattle.ps_frame.specs.Functions.{Functions, IsLawful}
use Rattle.ps_meaning.specs.Meaning.{IsBrokenBy, IsLarge}
use Rattle.ps_meaning.specs.PlanTrees.{PlanTree}
use Rattle.ps_meaning.specs.Sound.{IsSoundButForReaders}
use Rattle.ps_plan.specs.Graph.{here}
use Rattle.ps_plan.specs.Lowering.{IsLoweringOf}
use Rattle.ps_plan.specs.Plans.{Plan, tree_of}
use Rattle.ps_plan.specs.Refusals.{IsValid}
use Rattle.ps_rules.specs.Names.{Names}
use Rattle.plan_rules.specs.Plans.{lowering_of, nothing_yet}
use Rattle.plan_keeps.specs.Kept.{IsKeptPlan, IsPartOf, number_of}
use Rattle.plan_keeps.proofs.Induction.{root_means}
use Rattle.plan_keeps.proofs.ToldPlans.{root_made}
use Rattle.arena_keeps.proofs.Parts.{part_is, tree_apart}
use Rattle.arena_keeps.proofs.Stored.{stored, whole_stands}

module _ (F : Functions) (plan : Plan) (names : Names) (lawful : IsLawful F) (valid : IsValid F plan) (kept : IsKeptPlan F (tree_of plan plan.root.0) (nothing_yet names))
    (sound : IsSoundButForReaders F (lowering_of F names (tree_of plan plan.root.0)).progress.state.nodes) where
  -- the tree of a part is that of the origin's number
  at_origin : (u : PlanTree) (n : ℕ) → IsPartOf u (tree_of plan plan.root.0) → n ≡ number_of u → u ≡ tree_of plan n
  at_origin u n part e = let t = part_is F plan valid u plan.root.0 here part in t.is ∙ ap (λ (m : ℕ). tree_of plan m) (sym t.own ∙ sym e)

  pub valid_lowered : let l = lowering_of F names (tree_of plan plan.root.0) in IsLoweringOf F plan l.progress.state.nodes l.stream.0
  valid_lowered =
      let t = tree_of plan plan.root.0 in
      let stands = whole_stands F plan valid in
      let nodes = (lowering_of F names t).progress.state.nodes in
      let made = root_made F (stored F plan valid) names t lawful stands (tree_apart F plan valid plan.root.0 here) kept sound in
      record {
        tables = root_means F (stored F plan valid) names t stands kept lawful sound;
        causes = λ n p c there own shown.
            let m = made n (slice_get_within nodes n p there) in
            let origin = m.2.origin p there in
            subst (λ (u : PlanTree). IsBrokenBy F u c) (at_origin m.0 p.origin m.1 origin) (m.2.causes c (own ∙ origin) shown);
        sizes = λ n p there large.
            let m = made n (slice_get_within nodes n p there) in
            subst (λ (u : PlanTree). IsLarge F u) (at_origin m.0 p.origin m.1 (m.2.origin p there)) (m.2.sizes large);
      }
