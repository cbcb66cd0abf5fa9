use Rattle.std.proofs.Common.{◌≡◌, ◌∙◌, List, [], ◌∷◌, ◌++◌, ap, subst, sym}
use Rattle.ps_frame.specs.Tables.{Frame}
use Rattle.valid_plans.specs.Valid.{plan_with}
use Rattle.ps_node_eval.specs.Nodes.{FitInputs}
use Rattle.node_trials.proofs.MapsTested.{map-complete, map-ready, scan-inputs, scan-reached}
use Rattle.node_trials.proofs.owned_maps.map_table.Goals as goal

pub evaluate_node-requires-clause-reached : goal.evaluate_node-requires-clause-reached
evaluate_node-requires-clause-reached g c κs within =
    scan-reached (g.F.Functions.told c.args.functions.now) c.in_ok-valid.valid c.args.exprs.now.items c.requires.nodes.0 c.args.kind.now c.in_ok-valid.ensures.root (c.in_ok-valid.ensures.nodes ∙ c.requires.nodes.1) c.in_ok-valid.ensures.valid

pub evaluate_node-requires-clause-inputs : goal.evaluate_node-requires-clause-inputs
evaluate_node-requires-clause-inputs g c κs within =
    subst (λ (fs : List Frame). FitInputs (g.F.Functions.told c.args.functions.now) (plan_with c.in_ok-valid.valid c.args.exprs.now.items) 0 fs) (sym (c.as_slice.ensures.value ∙ c.new-none.ensures.items)) (scan-inputs (g.F.Functions.told c.args.functions.now) c.in_ok-valid.valid c.args.exprs.now.items c.requires.nodes.0 c.args.kind.now c.in_ok-valid.ensures.root (c.in_ok-valid.ensures.nodes ∙ c.requires.nodes.1) c.in_ok-valid.ensures.valid)

pub new-requires : goal.new-requires
new-requires g c =
    map-complete (g.F.Functions.told c.args.functions.now) c.in_ok-valid.valid c.args.exprs.now.items c.requires.nodes.0 c.args.kind.now c.in_ok-valid.ensures.root (c.in_ok-valid.ensures.nodes ∙ c.requires.nodes.1) c.in_ok-valid.ensures.valid

pub call-requires-after_bounds : goal.call-requires-after_bounds
call-requires-after_bounds g c κs within =
    map-ready (g.F.Functions.told c.args.functions.now) c.in_ok-valid.valid c.args.exprs.now.items c.requires.nodes.0 c.args.kind.now c.in_ok-valid.ensures.root (c.in_ok-valid.ensures.nodes ∙ c.requires.nodes.1) c.in_ok-valid.ensures.valid c.in_ok-scanned.scanned c.in_ok-scanned.ensures.schema c.in_ok-map.map c.in_ok-map.ensures.same
