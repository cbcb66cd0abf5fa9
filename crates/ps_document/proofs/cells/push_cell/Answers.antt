use Rattle.std.proofs.Common.{◌≡◌, ◌∷◌, arith, refl}
use Rattle.json.specs.Reads.{token_of}
use Rattle.ps_reading.proofs.Rules.{reads-same}
use Rattle.ps_document.proofs.ReadTable.{on_true}
use Rattle.ps_document.proofs.cells.push_cell.Goals as goal

pub returns : goal.returns
returns c =
    let first : c.args.reader.now ≡ token_of c.in-Some.token ∷ c.next.new.self = grind arith in
    on_true c.in_ok-told.told (λ found. (found.0, found.1, reads-same first refl (found.2 c.next.new.self))) c.in_ok-told.ensures
