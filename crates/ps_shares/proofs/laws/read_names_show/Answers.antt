use Rattle.ps_shares.proofs.Ends.{kinds_found, kinds_go_back, leaves_show, names_found}
use Rattle.ps_shares.proofs.laws.read_names_show.Goals as goal

pub returns-clause-found : goal.returns-clause-found
returns-clause-found c = names_found

pub returns-clause-leaves : goal.returns-clause-leaves
returns-clause-leaves c = leaves_show

pub returns-clause-kinds : goal.returns-clause-kinds
returns-clause-kinds c = kinds_found

pub returns-clause-back : goal.returns-clause-back
returns-clause-back c = kinds_go_back
