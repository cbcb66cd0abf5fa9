use Rattle.std.proofs.Common.{◌≡◌, ◌-◌, ◌∙◌, arith}
use Rattle.std.proofs.lemmas.Result.{IfOk-weaker}
use Rattle.ps_meaning.specs.Cases.{end_of}
use Rattle.ps_pieces.proofs.Cutting.{slice-same}
use Rattle.ps_pieces.proofs.views.sliced_morsel.Goals as goal

pub returns-clause-rows : goal.returns-clause-rows
returns-clause-rows c =
    let from = c.saturating_sub-start.ensures in
    let sum = c.saturating_add.ensures in
    let to = c.saturating_sub-end.ensures in
    let count = c.saturating_sub.ensures in
    let rows : c.saturating_sub.result ≡ end_of c.args.offset c.args.length - c.args.booked - c.saturating_sub-start.result = omega arith in
    IfOk-weaker c.view.result _ _ (λ f e. e ∙ slice-same c.args.offset c.args.length c.args.booked c.saturating_sub-start.result c.saturating_sub.result c.args.morsel.now.rows (omega arith) rows) c.view.ensures.rows
