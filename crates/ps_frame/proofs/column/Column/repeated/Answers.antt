use Rattle.std.proofs.Common.{◌≡◌, subst, ◌∙◌}
use Rattle.std.specs.Prelude.{IfOk}
use Rattle.ps_frame.proofs.Gathers.{gathered-firsts}
use Rattle.ps_frame.specs.Series.{Series}
use Rattle.ps_frame.proofs.column.Column.repeated.Goals as goal

pub returns-clause-repeated : goal.returns-clause-repeated
returns-clause-repeated c =
    let same = gathered-firsts c.args.self.now c.args.height c.in_ok-firsts.firsts (c.in_ok-firsts.ensures.made ∙ c.in_ok-vec.ensures.items_if_clones_equal (λ y e. e)) in
    subst (λ (t : Series). IfOk c.pick.result (λ column. column ≡ t)) same c.pick.ensures.picked
