-- What a call keeps of a node of a valid plan.
use Rattle.std.proofs.Common.{◌≡◌, ◌⊎◌, ℕ, [], sym, ap, subst, ◌∙◌}
use Rattle.std.proofs.lemmas.List.{append-nil}
use Rattle.std.proofs.lemmas.Option.{slice_get_within}
use Rattle.ps_frame.specs.Functions.{Functions, IsLawful}
use Rattle.ps_frame.specs.Tables.{Table}
use Rattle.ps_meaning.specs.Meaning.{IsBrokenBy, IsLarge}
use Rattle.ps_meaning.specs.PlanTrees.{PlanTree}
use Rattle.ps_meaning.specs.Shape.{Shape}
use Rattle.ps_meaning.specs.Within.{Within}
use Rattle.ps_plan.specs.Graph.{EachReached, Path, Reached, here, inputs_at}
use Rattle.ps_plan.specs.Plans.{Plan, tree_of}
use Rattle.ps_plan.specs.Refusals.{IsValid}
use Rattle.ps_shares.specs.Kept.{IsInRange}
use Rattle.arena_keeps.proofs.Parts.{number_path, part_is, tree_apart}
use Rattle.arena_keeps.proofs.Stored.{stored, whole_stands}
use Rattle.plan_calls.proofs.Come.{come_known, come_ready}
use Rattle.plan_calls.proofs.Induction.{IsKept, IsReady, plan_kept}
use Rattle.plan_calls.proofs.Parts.{IsFit, own_number, part_along, part_fit}
use Rattle.plan_calls.proofs.Stood.{means_as_before}
use Rattle.plan_calls.specs.Calls.{HasCome, KeepsNode, StepsStayWithin}
use Rattle.physical_laws.proofs.Good.{good_plan}
use Rattle.plan_keeps.proofs.Told.{IsEarlier}
use Rattle.plan_keeps.specs.Kept.{IsPartOf, number_of}
use Rattle.plan_laws.proofs.SoundTables.{sound-tables}
use Rattle.plan_rules.specs.Plans.{LoweredPlan, Progress, lower_plan}
use Rattle.rule_parts.specs.Good.{HoldsTable}
use Rattle.rule_soundness.proofs.Plans.{Lowers, plan_lowers}
use Rattle.ps_meaning.specs.Schemas.{tree_schema}
use Rattle.within_plans.proofs.Induction.{plan_lowered}
use Rattle.within_plans.proofs.Inputs.{IsLowered}
use Rattle.within_plans.proofs.Told.{IsOf}

module _ (F : Functions) (lawful : IsLawful F) (plan : Plan) (valid : IsValid F plan) (holds : EachReached HoldsTable plan) (steps : StepsStayWithin F) (n : ℕ) (reached : Reached plan n) where
  abbrev u : PlanTree
  u = tree_of plan n

  abbrev whole : PlanTree
  whole = tree_of plan plan.root.0

  abbrev kept_for : ℕ → PlanTree
  kept_for = stored F plan valid

  -- the node's tree is a part of the plan's
  pub is_part : IsPartOf u whole
  is_part = part_along F plan valid plan.root.0 n reached here

  module _ (p : Progress) (come : HasCome F whole p) (small : IsInRange (lower_plan F u p).progress.state) where
    abbrev q : LoweredPlan
    q = lower_plan F u p

    abbrev after : Shape
    after = q.progress.state.nodes

    ready : IsReady F kept_for p
    ready = come_ready F whole lawful steps kept_for (whole_stands F plan valid) (good_plan F plan valid holds) (tree_apart F plan valid plan.root.0 here) p come

    fit : IsFit F kept_for p.state.names u
    fit = part_fit F kept_for p.state.names u whole is_part (whole_stands F plan valid, good_plan F plan valid holds, come_known F whole p come, tree_apart F plan valid plan.root.0 here)

    kept : IsKept F lawful steps kept_for p u
    kept = plan_kept F lawful steps kept_for u p ready fit small

    low : IsLowered F kept_for p u q
    low = plan_lowered F lawful kept_for u fit.0 p ready.fine kept.0

    made : Lowers F kept_for p q (tree_schema F u)
    made = plan_lowers F kept_for u fit.0 fit.1 p ready.good fit.2 small

    early : IsEarlier after
    early n p there = (made.good.sound n p there).earlier

    -- the tree of a part is that of the origin's number
    at_origin : (v : PlanTree) (k : ℕ) → IsPartOf v u → k ≡ number_of v → v ≡ tree_of plan k
    at_origin v k part e = let r = part_is F plan valid v n reached part in r.is ∙ ap (λ (m : ℕ). tree_of plan m) (sym r.own ∙ sym e)

    pub node_kept : KeepsNode F plan n p.state.nodes after q.stream
    node_kept =
        record {
          more = made.more;
          nodes = made.nodes;
          sound = made.good.sound;
          stood = means_as_before F p.state.nodes after made.more made.nodes made.good.sound;
          stream_is = made.stream;
          tables = λ T (tables, chosen, within, e).
              let given = sound-tables F lawful after made.good.sound tables chosen in
              let c = ready.told.able after low.more low.nodes early tables given in
              let r = low.lowers after [] (sym (append-nil after)) tables given c.0 c.1 in
              (r.3.0, (r.0, r.3.1), subst (λ (U : Table). Within U r.3.0) e r.3.2.0);
          made = λ m p behind there.
              let v = kept.1.nodes m behind (slice_get_within after m p there) in
              subst (Path (inputs_at plan) n) (sym (v.2.origin p there)) (number_path F plan valid (number_of v.0) n reached (own_number v.0 u v.1));
          causes = λ m p c behind there own broken.
              let v = kept.1.nodes m behind (slice_get_within after m p there) in
              let origin = v.2.origin p there in
              let shown : IsOf F after broken.0 m v.0 = v.2.later after [] (sym (append-nil after)) early broken.0 (sound-tables F lawful after made.good.sound broken.0 broken.1) in
              subst (λ (t : PlanTree). IsBrokenBy F t c ⊎ IsLarge F t) (at_origin v.0 p.origin v.1 origin) (shown.causes broken.3 c broken.4 broken.5 (own ∙ origin));
          sizes = λ m p behind there large.
              let v = kept.1.nodes m behind (slice_get_within after m p there) in
              let shown : IsOf F after large.0 m v.0 = v.2.later after [] (sym (append-nil after)) early large.0 (sound-tables F lawful after made.good.sound large.0 large.1) in
              subst (IsLarge F) (at_origin v.0 p.origin v.1 (v.2.origin p there)) (shown.sizes large.2 large.4 large.5);
        }
