-- The physical plan of a valid plan is a lowering of it, or something is large.
use Rattle.std.proofs.Common.{◌<◌, ◌-◌, length, sym, subst}
use Rattle.ps_frame.specs.Functions.{Functions, IsLawful}
use Rattle.ps_meaning.specs.PlanTrees.{PlanTree}
use Rattle.ps_meaning.specs.Shape.{Shape}
use Rattle.ps_meaning.specs.Sound.{IsSoundButForReaders}
use Rattle.ps_plan.specs.Graph.{EachReached}
use Rattle.ps_plan.specs.Plans.{Plan, tree_of}
use Rattle.ps_plan.specs.Refusals.{IsValid}
use Rattle.plan_rules.specs.Plans.{LoweredPlan, lowering_of, nothing_yet}
use Rattle.arena_keeps.proofs.Stored.{stored, whole_stands}
use Rattle.rule_parts.specs.Good.{HoldsTable}
use Rattle.rule_ports.proofs.Plans.{sunk_reads, sunk_there}
use Rattle.multiplexer_laws.specs.Shared.{ReadFirstPortsBefore}
use Rattle.physical_plans.specs.PhysicalPlans.{IsPhysicalPlan}
use Rattle.physical_laws.proofs.Fed.{fed_plan, sunk_plan}
use Rattle.physical_laws.proofs.Good.{good_plan, known_plan, plan_nodes_sound}
use Rattle.within_plans.specs.Within.{IsWithinPlan}
use Rattle.within_arenas.proofs.Lowered.{still_lowered}
use Rattle.within_arenas.specs.Lowering.{IsLoweringOrLarge}
use Rattle.valid_within.proofs.Plans.{root_within}

module _ (F : Functions) (plan : Plan) (shape : Shape) (lawful : IsLawful F) (valid : IsValid F plan) (holds : EachReached HoldsTable plan) (p : IsPhysicalPlan F plan shape) where
  abbrev t : PlanTree
  t = tree_of plan plan.root.0

  abbrev low : LoweredPlan
  low = lowering_of F p.names t

  abbrev nodes : Shape
  nodes = low.progress.state.nodes

  there : low.stream.0 < length nodes
  there = sunk_there F p.names t (fed_plan F plan valid) (sunk_plan F plan valid)

  reads : ReadFirstPortsBefore nodes
  reads = sunk_reads F p.names t (fed_plan F plan valid) (sunk_plan F plan valid)

  nodes_sound : IsSoundButForReaders F nodes
  nodes_sound = plan_nodes_sound F plan valid holds p.names p.in_use p.in_range

  within : IsWithinPlan F t (nothing_yet p.names)
  within = root_within F (stored F plan valid) p.names t (whole_stands F plan valid) (good_plan F plan valid holds) (known_plan F plan valid p.names p.in_use) p.in_range

  pub is_lowering : IsLoweringOrLarge F plan shape (length shape - 1)
  is_lowering = subst (λ (x : Shape). IsLoweringOrLarge F plan x (length x - 1)) (sym p.given) (still_lowered F lawful plan valid p.names within nodes_sound there reads)
