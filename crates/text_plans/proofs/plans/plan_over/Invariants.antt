use Rattle.std.proofs.Common.{◌≡◌, length, map, drop}
use Rattle.std.specs.Prelude.{filter_map}
use Rattle.ps_plan.specs.Plans.{IsPlan, plan_at}
use Rattle.text_plans.specs.FoundTables.{tables_in}
use Rattle.text_plans.specs.QueryPlans.{first_unknown, query_tables, query_tree, stage_table, stages_tree}
use Rattle.text_queries.specs.Views.{query_of, stage_of}
use Rattle.text_plans.proofs.plans.plan_over.Given as goal

abbrev pub invariant-loop-stage : goal.invariant-loop-stage
invariant-loop-stage l =
    record {
      rest : stages_tree (tables_in l.tables) (length l.nodes.items) (plan_at l.nodes.items l.exprs.items l.last) (map stage_of (drop l.stage-index l.stage-items)) ≡ query_tree (tables_in l.tables) (query_of l.query);
      whole : IsPlan l.nodes.items l.exprs.items l.last;
      known : first_unknown (tables_in l.tables) (filter_map stage_table (map stage_of (drop l.stage-index l.stage-items))) ≡ first_unknown (tables_in l.tables) (query_tables (query_of l.query));
    }
