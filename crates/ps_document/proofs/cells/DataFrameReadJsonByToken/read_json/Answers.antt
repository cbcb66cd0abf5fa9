use Rattle.ps_document.specs.Json.{list}
use Rattle.ps_document.proofs.cells.DataFrameReadJsonByToken.read_json.Goals as goal

pub returns : goal.returns
returns c =
    let columns = rw c.in-Some.is at c.in_ok-columns.ensures in
    (list columns.0, (rw c.in-Some-2.is at c.in_ok-df.ensures.some) columns.0 columns.1, columns.2)
