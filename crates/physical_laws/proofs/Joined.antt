-- The laws together.
use Rattle.std.proofs.Common.{◌<◌, ◌-◌, ℕ, length, sym, subst}
use Rattle.ps_frame.specs.Functions.{Functions, IsLawful}
use Rattle.ps_meaning.specs.Shape.{Shape}
use Rattle.ps_meaning.specs.Sound.{HasOneReaderEach, IsSound, IsSoundButForReaders}
use Rattle.ps_plan.specs.Graph.{EachReached}
use Rattle.ps_plan.specs.Lowering.{IsLoweringOf}
use Rattle.ps_plan.specs.Plans.{Plan, tree_of}
use Rattle.ps_plan.specs.Refusals.{IsValid}
use Rattle.plan_rules.specs.Plans.{LoweredPlan, lowering_of}
use Rattle.arena_keeps.specs.Covered.{IsCovered}
use Rattle.multiplexer_laws.specs.Shared.{IsOnlySink, ReadFirstPortsBefore, shared_shape}
use Rattle.physical_plans.specs.PhysicalPlans.{IsPhysicalPlan}
use Rattle.arena_keeps.proofs.Covered.{covered_kept}
use Rattle.arena_keeps.proofs.Lowered.{valid_lowered}
use Rattle.arena_keeps.proofs.Stored.{stored, whole_stands}
use Rattle.multiplexer_laws.proofs.Meaning.{still_lowered}
use Rattle.rule_ports.proofs.Plans.{sunk_reads, sunk_sink, sunk_there}
use Rattle.physical_laws.proofs.Fed.{fed_plan, sunk_plan}
use Rattle.physical_laws.proofs.Good.{plan_nodes_sound}
use Rattle.physical_laws.specs.Premises.{KeepsSteps}
use Rattle.rule_parts.specs.Good.{HoldsTable}

-- laws of multiplexers
abbrev pub OneReader : Type 0
OneReader = (nodes : Shape) (root : ℕ) → root < length nodes → ReadFirstPortsBefore nodes → IsOnlySink root nodes → HasOneReaderEach (shared_shape nodes root)

abbrev pub Soundly : Type 0
Soundly = (F : Functions) (nodes : Shape) (root : ℕ) → root < length nodes → ReadFirstPortsBefore nodes → IsOnlySink root nodes → IsSoundButForReaders F nodes → IsSound F (shared_shape nodes root)

module _ (F : Functions) (plan : Plan) (shape : Shape) (valid : IsValid F plan) (p : IsPhysicalPlan F plan shape) where
  abbrev low : LoweredPlan
  low = lowering_of F p.names (tree_of plan plan.root.0)

  abbrev nodes : Shape
  nodes = low.progress.state.nodes

  there : low.stream.0 < length nodes
  there = sunk_there F p.names (tree_of plan plan.root.0) (fed_plan F plan valid) (sunk_plan F plan valid)

  reads : ReadFirstPortsBefore nodes
  reads = sunk_reads F p.names (tree_of plan plan.root.0) (fed_plan F plan valid) (sunk_plan F plan valid)

  sinks : IsOnlySink low.stream.0 nodes
  sinks = sunk_sink F p.names (tree_of plan plan.root.0) (fed_plan F plan valid) (sunk_plan F plan valid)

  pub one_reader : OneReader → HasOneReaderEach shape
  one_reader law = subst HasOneReaderEach (sym p.given) (law nodes low.stream.0 there reads sinks)

  nodes_sound : EachReached HoldsTable plan → IsSoundButForReaders F nodes
  nodes_sound holds = plan_nodes_sound F plan valid holds p.names p.in_use p.in_range

  pub is_sound : Soundly → EachReached HoldsTable plan → IsSound F shape
  is_sound law holds = subst (λ (s : Shape). IsSound F s) (sym p.given) (law F nodes low.stream.0 there reads sinks (nodes_sound holds))

  pub is_lowering : IsLawful F → EachReached HoldsTable plan → KeepsSteps F plan → IsLoweringOf F plan shape (length shape - 1)
  is_lowering lawful holds kept =
      let s = nodes_sound holds in
      let l = valid_lowered F plan p.names lawful valid (kept p.names (p.in_use, p.none_given) holds p.in_range) s in
      subst (λ (x : Shape). IsLoweringOf F plan x (length x - 1)) (sym p.given) (still_lowered F nodes low.stream.0 there reads s plan l)

  pub covered_lowering : IsLawful F → EachReached HoldsTable plan → IsCovered F (tree_of plan plan.root.0) → IsLoweringOf F plan shape (length shape - 1)
  covered_lowering lawful holds covered = is_lowering lawful holds (λ names used holds small. covered_kept F (stored F plan valid) (tree_of plan plan.root.0) (whole_stands F plan valid) covered names)
