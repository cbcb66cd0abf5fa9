use Rattle.std.proofs.Common.{◌∙◌, ap, refl, sym}
use Rattle.std.specs.Prelude.{Some, length, option_map}
use Rattle.text_plans.proofs.Planned.{added-plan, plans-kept}
use Rattle.text_plans.specs.QueryPlans.{scan_at}
use Rattle.text_plans.proofs.entries.add_scan.Goals as goal

pub returns-in_ok-scan-in-Some-clause-tree : goal.returns-in_ok-scan-in-Some-clause-tree
returns-in_ok-scan-in-Some-clause-tree c = λ exprs.
    ap (option_map (scan_at (length c.args.nodes.now.items))) c.in-Some.ensures
    ∙ (λ i. Some (scan_at (length c.args.nodes.now.items) (sym c.in_ok-df-in-Some.ensures.same i)))
    ∙ ap (λ t. Some t) (sym (added-plan c.args.nodes.now.items _ exprs exprs (λ n h. refl) c.add.new.self.items c.in_ok-scan-in-Some.ensures.added c.in_ok-scan-in-Some.scan c.in_ok-scan-in-Some.ensures.number tt))

pub returns-in_ok-scan-in-Some-clause-kept : goal.returns-in_ok-scan-in-Some-clause-kept
returns-in_ok-scan-in-Some-clause-kept c = λ exprs. plans-kept c.args.nodes.now.items _ exprs exprs (λ n h. refl) c.add.new.self.items c.in_ok-scan-in-Some.ensures.added
