use Rattle.std.proofs.Common.{◌≡◌, ◌≤◌, codes, arith, rules, subst, sym}
use Rattle.serde_json.specs.Data.{put}
use Rattle.ps_reading.proofs.Rules.{reads-within}
use Rattle.query_document.specs.Found.{IsFound}
use Rattle.ps_document.specs.Json.{list}
use Rattle.query_document.proofs.found.read_member.Goals as goal

pub returns-then-eq : goal.returns-then-eq
returns-then-eq c = λ ms is.
    let named : c.args.name.now ≡ codes "tables" = search rules in
    let read = rw c.in-Some.is at c.in_ok-tables.ensures in
    let le : 4 ≤ 126 = omega arith in (
      list read.0,
      reads-within le read.2,
      subst (λ name. IsFound c.in-Some-with_tables.more (put name (list read.0) ms)) (sym named) (c.in-Some-with_tables.ensures read.0 read.1 ms is),
    )
