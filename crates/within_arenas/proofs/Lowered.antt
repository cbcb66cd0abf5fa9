-- A valid plan whose calls stay within is lowered, multiplexers and all, or something is large.
use Rattle.std.proofs.Common.{◌≡◌, ◌<◌, ◌-◌, ◌⊎◌, ℕ, Some, length, sym, ap, subst, ◌∙◌}
use Rattle.std.proofs.lemmas.Option.{slice_get_within}
use Rattle.std.specs.Prelude.{slice_get}
use Rattle.ps_frame.specs.Causes.{Cause}
use Rattle.ps_frame.specs.Functions.{Functions, IsLawful}
use Rattle.ps_meaning.specs.PlanTrees.{PlanTree}
use Rattle.ps_meaning.specs.Meaning.{IsBrokenBy, IsLarge}
use Rattle.ps_meaning.specs.Shape.{PhysicalBrokenBy, PhysicalIsLarge, PhysicalNode, Shape}
use Rattle.ps_meaning.specs.Sound.{IsSoundButForReaders}
use Rattle.ps_plan.specs.Graph.{here}
use Rattle.ps_plan.specs.PlanMeanings.{NodeBrokenBy, NodeIsLarge}
use Rattle.ps_plan.specs.Plans.{Plan, tree_of}
use Rattle.ps_plan.specs.Refusals.{IsValid}
use Rattle.plan_rules.specs.Plans.{LoweredPlan, lowering_of, nothing_yet}
use Rattle.plan_keeps.specs.Kept.{IsPartOf, number_of}
use Rattle.arena_keeps.proofs.Parts.{part_is, tree_apart}
use Rattle.arena_keeps.proofs.Stored.{stored, whole_stands}
use Rattle.multiplexer_laws.specs.Kept.{StandsFor}
use Rattle.multiplexer_laws.specs.Shared.{ReadFirstPortsBefore, shared_shape}
use Rattle.ps_rules.specs.Names.{Names}
use Rattle.multiplexer_laws.proofs.Meaning.{all_stand, the_root_stands}
use Rattle.within_plans.specs.Within.{AreMadeOrLarge, IsWithinPlan}
use Rattle.within_plans.proofs.Induction.{root_means}
use Rattle.within_plans.proofs.ToldPlans.{root_made}
use Rattle.within_arenas.specs.Lowering.{IsLoweringOrLarge}

module _ (F : Functions) (lawful : IsLawful F) (plan : Plan) (valid : IsValid F plan) (names : Names) (within : IsWithinPlan F (tree_of plan plan.root.0) (nothing_yet names)) where
  abbrev t : PlanTree
  t = tree_of plan plan.root.0

  abbrev low : LoweredPlan
  low = lowering_of F names t

  abbrev nodes : Shape
  nodes = low.progress.state.nodes

  module _ (nodes_sound : IsSoundButForReaders F nodes) (there : low.stream.0 < length nodes) (reads : ReadFirstPortsBefore nodes) where
    made : AreMadeOrLarge F nodes t
    made = root_made F lawful (stored F plan valid) names t (whole_stands F plan valid) (tree_apart F plan valid plan.root.0 here) within nodes_sound

    -- the tree of a part is that of the origin's number
    at_origin : (u : PlanTree) (n : ℕ) → IsPartOf u t → n ≡ number_of u → u ≡ tree_of plan n
    at_origin u n part e = let q = part_is F plan valid u plan.root.0 here part in q.is ∙ ap (λ (m : ℕ). tree_of plan m) (sym q.own ∙ sym e)

    -- the nodes before multiplexers
    lowered : IsLoweringOrLarge F plan nodes low.stream.0
    lowered =
        record {
          tables = root_means F lawful (stored F plan valid) names t (whole_stands F plan valid) within nodes_sound;
          causes = λ n q c there own shown.
              let m = made n (slice_get_within nodes n q there) in
              let origin = m.2.origin q there in
              subst (λ (u : PlanTree). IsBrokenBy F u c ⊎ IsLarge F u) (at_origin m.0 q.origin m.1 origin) (m.2.causes c (own ∙ origin) shown);
          sizes = λ n q there large.
              let m = made n (slice_get_within nodes n q there) in
              subst (λ (u : PlanTree). IsLarge F u) (at_origin m.0 q.origin m.1 (m.2.origin q there)) (m.2.sizes large);
        }

    abbrev shared : Shape
    shared = shared_shape nodes low.stream.0

    -- and with them
    pub still_lowered : IsLoweringOrLarge F plan shared (length shared - 1)
    still_lowered =
        record {
          tables = λ T m. lowered.tables T (((the_root_stands F nodes low.stream.0 there reads nodes_sound).tables T).0 m);
          causes = λ n q c e own b. causes n q c e own b (all_stand F nodes low.stream.0 there reads nodes_sound n (slice_get_within shared n q e));
          sizes = λ n q e large. sizes n q e large (all_stand F nodes low.stream.0 there reads nodes_sound n (slice_get_within shared n q e));
        }
      where
        causes : (n : ℕ) (q : PhysicalNode) (c : Cause) → slice_get shared n ≡ Some q → c.node ≡ q.origin → PhysicalBrokenBy F shared n c → (m : ℕ) × StandsFor F nodes m shared n → NodeBrokenBy F plan q.origin c ⊎ NodeIsLarge F plan q.origin
        causes n q c e own b (m, s) =
            let r = s.node q e in
            let P : ℕ → Type 0 = λ k. NodeBrokenBy F plan k c ⊎ NodeIsLarge F plan k in
            subst P (sym r.3) (lowered.causes m r.0 c r.1 (own ∙ r.3) (s.causes c b))

        sizes : (n : ℕ) (q : PhysicalNode) → slice_get shared n ≡ Some q → PhysicalIsLarge F shared n → (m : ℕ) × StandsFor F nodes m shared n → NodeIsLarge F plan q.origin
        sizes n q e large (m, s) =
            let r = s.node q e in
            let P : ℕ → Type 0 = λ k. NodeIsLarge F plan k in
            subst P (sym r.3) (lowered.sizes m r.0 r.1 (s.sizes large))
