use Rattle.std.proofs.Common.{◌≡◌, ◌∷◌, suc, subst, sym, arith}
use Rattle.json.specs.Token.{Token}
use Rattle.serde_json.specs.Data.{array}
use Rattle.serde_json.specs.View.{items_of}
use Rattle.ps_reading.specs.Reading.{Reads}
use Rattle.ps_reading.proofs.Rules.{reads-array}
use Rattle.ps_reading.proofs.list.read_list.Goals as goal

pub returns : goal.returns
returns g c =
    let read = rw c.in-Some.is at c.in_ok-parts.ensures in
    let opened : c.args.reader.now ≡ Token.begin_array ∷ c.next.new.self = grind arith in (
      read.0,
      read.1,
      subst (λ ts. Reads (suc g.T.ReadJson.nests) ts (array (items_of read.0)) c.read_items.new.reader) (sym opened) (reads-array read.2),
    )
