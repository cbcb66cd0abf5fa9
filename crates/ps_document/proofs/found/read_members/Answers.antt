use Rattle.std.proofs.Common.{◌≡◌, None, Some, arith}
use Rattle.json.specs.Json.{read_key}
use Rattle.json.proofs.Grammar.{read_key-shorter}
use Rattle.serde_json.specs.Data.{put}
use Rattle.ps_reading.proofs.Rules.{reads-shorter, reads_members-end, reads_members-more}
use Rattle.ps_document.proofs.found.read_members.Goals as goal

pub members-init : goal.members-init
members-init c = λ before is. (before, is, λ all rest r. r)

pub returns-in_default-key : goal.returns-in_default-key
returns-in_default-key c = λ before is.
    let i = c.members.invariant before is in
    let over : read_key c.members.reader ≡ Some (None, c.next_key.new.self) = grind arith in
    (i.0, i.1, i.2 i.0 c.next_key.new.self (reads_members-end 126 i.0 over))

pub members-smaller : goal.members-smaller
members-smaller c =
    let named : read_key c.members.reader ≡ Some (Some c.in-Some.name.now, c.next_key.new.self) = grind arith in
    let more = rw c.if-not-told.false at c.in_ok-told.ensures in
    let less = read_key-shorter c.members.reader (Some c.in-Some.name.now) c.next_key.new.self named in
    let lesser = reads-shorter more.1 in
    omega arith

pub members-preserved : goal.members-preserved
members-preserved c = λ before is.
    let i = c.members.invariant before is in
    let named : read_key c.members.reader ≡ Some (Some c.in-Some.name.now, c.next_key.new.self) = grind arith in
    let more = rw c.if-not-told.false at c.in_ok-told.ensures in
    (put c.in-Some.name.now more.0 i.0, more.2 i.0 i.1, λ all rest later. i.2 all rest (reads_members-more named more.1 later))
