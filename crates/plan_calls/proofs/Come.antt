-- What calls on a plan have come to is ready for one more.
use Rattle.std.proofs.Common.{◌≡◌, ℕ, List, [], ◌∷◌, ◌++◌}
use Rattle.ps_frame.specs.Functions.{Functions, IsLawful}
use Rattle.ps_frame.specs.Tables.{no_rows}
use Rattle.ps_meaning.specs.PlanTrees.{PlanTree, PlanTrees, missing, no_trees, node, tree}
use Rattle.ps_meaning.specs.Schemas.{tree_schema}
use Rattle.ps_meaning.specs.Shape.{Shape}
use Rattle.ps_plan.specs.Lowering.{Cached}
use Rattle.ps_meaning.specs.Steps.{Name}
use Rattle.ps_rules.specs.Names.{IsKnown, Names}
use Rattle.ps_rules.specs.Slots.{State}
use Rattle.plan_calls.proofs.Induction.{IsReady, plan_kept, ready_then}
use Rattle.plan_calls.proofs.Parts.{part_fit}
use Rattle.plan_calls.specs.Calls.{HasCome, IsFitFor, StepsStayWithin, added, begun, called}
use Rattle.plan_keeps.proofs.Inputs.{still_fine}
use Rattle.plan_keeps.proofs.Lists.{in_none}
use Rattle.plan_keeps.proofs.Told.{sooner}
use Rattle.plan_keeps.specs.Kept.{IsNumberedApart}
use Rattle.plan_laws.specs.Laws.{StandsOver}
use Rattle.plan_rules.specs.Plans.{Progress, lower_plan}
use Rattle.rule_parts.proofs.Standing.{stream_later}
use Rattle.rule_soundness.proofs.Plans.{AllCached, known_later, plan_grows}
use Rattle.rule_soundness.specs.Plans.{IsGoodPlan, KnowPlans, KnowsPlan}
use Rattle.within_plans.proofs.Told.{TellsOf}
use Rattle.within_plans.specs.Within.{ServesWithin}
use Rattle.ps_meaning.specs.Meaning.{Choice}

-- names that stay known
module _ (F : Functions) (a b : Names) (stay : (n : Name) → IsKnown a n → IsKnown b n) where
  mutual
    pub still_known : (t : PlanTree) → KnowsPlan F a t → KnowsPlan F b t
    still_known (node at step below) h = ((λ n among. stay n (h.0 n among)), all_known below h.1)
    still_known missing h = tt

    all_known : (ts : PlanTrees) → KnowPlans F a ts → KnowPlans F b ts
    all_known no_trees h = tt
    all_known (tree t ts) h = (still_known t h.0, all_known ts h.1)

module _ (F : Functions) (t : PlanTree) where
  -- the names of the plan stay known
  pub come_known : (p : Progress) → HasCome F t p → KnowsPlan F p.state.names t
  come_known p (begun s fit) = fit.known
  come_known p (called q u come part small) = known_later F q.state.names (lower_plan F u q).progress.state.names t (plan_grows F u q) (come_known q come)
  come_known p (added q s more come e fit) = fit.known

  module _ (lawful : IsLawful F) (steps : StepsStayWithin F) (stored : ℕ → PlanTree) (stands : StandsOver stored t) (good : IsGoodPlan F t) (apart : IsNumberedApart t) where
    begun_ready : (s : State) → IsFitFor F t s → IsReady F stored (record { state = s; cached = [] })
    begun_ready s fit =
        record {
          good = record { sound = fit.sound; cached = tt };
          fine = λ c h. absurd (in_none c h);
          told = record { able = λ shape more is early tables given. ((λ k. no_rows [] []), (λ c h. absurd (in_none c h))); caches = λ c h. absurd (in_none c h) };
        }

    cached_later : (a b more : Shape) (cs : List Cached) → b ≡ a ++ more → AllCached F stored a cs → AllCached F stored b cs
    cached_later a b more [] e h = tt
    cached_later a b more (c ∷ cs) e h = (stream_later a b more (c.from, 0) (tree_schema F (stored c.id)) e h.0, cached_later a b more cs e h.1)

    added_ready : (p : Progress) (s : State) (more : Shape) → s.nodes ≡ p.state.nodes ++ more → IsFitFor F t s → IsReady F stored p → IsReady F stored (record { state = s; cached = p.cached })
    added_ready p s more e fit h =
        record {
          good = record { sound = fit.sound; cached = cached_later p.state.nodes s.nodes more p.cached e h.good.cached };
          fine = λ c k. still_fine stored p.state.nodes s.nodes more p.cached c e (h.fine c k);
          told =
              record {
                able = sooner F p.state.nodes s.nodes more (λ shape tables. (choice : Choice) × ServesWithin F tables p.cached choice) e h.told.able;
                caches = λ c k. sooner F p.state.nodes s.nodes more (λ shape tables. TellsOf F shape tables c.from c.input) e (h.told.caches c k);
              };
        }

    pub come_ready : (p : Progress) → HasCome F t p → IsReady F stored p
    come_ready p (begun s fit) = begun_ready s fit
    come_ready p (called q u come part small) =
        let before = come_ready q come in
        let fit = part_fit F stored q.state.names u t part (stands, good, come_known q come, apart) in
        ready_then F lawful steps stored u q before fit small (plan_kept F lawful steps stored u q before fit small)
    come_ready p (added q s more come e fit) = added_ready q s more e fit (come_ready q come)
