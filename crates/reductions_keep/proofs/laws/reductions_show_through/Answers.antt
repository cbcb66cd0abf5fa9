use Rattle.ps_frame.specs.Causes.{column_causes}
use Rattle.ps_frame.specs.Eval.{eval}
use Rattle.ps_shares.proofs.Members.{from_has, to_has}
use Rattle.reductions_keep.specs.Reduced.{reductions_in}
use Rattle.reductions_keep.proofs.Inside.{shows_reductions}
use Rattle.reductions_keep.proofs.laws.reductions_show_through.Goals as goal

pub returns : goal.returns
returns c = λ at T e made r has x shown. from_has (column_causes (eval at T e)) x (shows_reductions at T e made r (to_has (reductions_in e) r has) x (to_has (column_causes (eval at T r)) x shown))
