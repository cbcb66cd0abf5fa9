use Rattle.std.proofs.Common.{◌≡◌, ◌≤◌, codes, arith, rules, subst, sym}
use Rattle.serde_json.specs.Data.{put}
use Rattle.serde_json.specs.View.{view}
use Rattle.ps_reading.proofs.Rules.{reads-within}
use Rattle.ps_document.proofs.ReadTable.{on_true}
use Rattle.ps_document.specs.Found.{IsFound}
use Rattle.ps_document.specs.Json.{list}
use Rattle.ps_document.proofs.found.read_member.Goals as goal

pub returns-then-eq : goal.returns-then-eq
returns-then-eq c =
    let named : c.args.name.now ≡ codes "tables" = search rules in
    let read = rw c.in-Some.is at c.in_ok-tables.ensures in
    let le : 4 ≤ 126 = omega arith in
    on_true c.put_tables.result (λ kept. (
      list read.0,
      reads-within le read.2,
      λ ms is. subst (λ name. IsFound c.put_tables.new.self (put name (list read.0) ms)) (sym named) (kept read.0 read.1 ms is),
    )) c.put_tables.ensures

pub returns : goal.returns
returns c =
    let read = rw c.in-Some-2.is at c.in_ok-value.ensures in
    on_true c.put_value.result (λ kept. (view c.in-Some-2.value, read, kept)) c.put_value.ensures
