use Rattle.std.proofs.Common.{Option, subst, sym}
use Rattle.std.specs.Prelude.{Vec, codes}
use Rattle.std.specs.declared.alloc.Global.{Global}
use Rattle.serde_json.specs.Data.{put}
use Rattle.ps_frame.specs.Tables.{Frame}
use Rattle.ps_document.proofs.MembersFound.{tables-found}
use Rattle.ps_document.proofs.ReadTable.{on_true}
use Rattle.ps_document.specs.Found.{IsFound}
use Rattle.ps_document.specs.Json.{list}
use Rattle.ps_document.proofs.found.Found.put_tables.Goals as goal

pub returns : goal.returns
returns c =
    on_true c.fill.result (λ filled ds zip ms is.
    subst (λ (o : Option (Vec Frame Global)). IsFound (record c.args.self.now { tables = o }) (put (codes "tables") (list ds) ms)) (sym filled.1)
    (tables-found c.args.self.now c.args.tables ds ms filled.0 zip is)) c.fill.ensures.filled
