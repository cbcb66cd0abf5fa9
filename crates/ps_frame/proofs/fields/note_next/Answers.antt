use Rattle.std.proofs.Common.{◌≤◌, length, arith}
use Rattle.std.proofs.lemmas.Result.{on_ok_weaker}
use Rattle.ps_frame.proofs.NamePlaces.{found-few-more, found-more}
use Rattle.ps_frame.specs.declared.fields.TheConstants.{MANY}
use Rattle.ps_frame.proofs.fields.note_next.Goals as goal

pub returns-in-Some-clause-noted : goal.returns-in-Some-clause-noted
returns-in-Some-clause-noted c =
    let places = c.in-Some.places in
    let old = c.requires.found in
    let many : MANY ≤ length c.args.list.now = old.mapped.0 (rw c.in-Some.is) in
    on_ok_weaker c.insert_place.result
    (λ put dtype. found-more MANY c.args.list.now (c.args.name.now, dtype) places c.insert_place.new.places old.distinct c.requires.absent (omega arith) (old.found places c.in-Some.is) put)
    c.insert_place.ensures.put

pub returns-then-list-lt-MANY-clause-noted : goal.returns-then-list-lt-MANY-clause-noted
returns-then-list-lt-MANY-clause-noted c = λ dtype. rw c.in_default.is (found-few-more MANY c.args.list.now (c.args.name.now, dtype) c.requires.found.distinct c.requires.absent c.if-list-lt-MANY.true)

pub returns-clause-noted : goal.returns-clause-noted
returns-clause-noted c = λ dtype.
    found-more MANY c.args.list.now (c.args.name.now, dtype) c.in_ok-first.first c.insert_place-2.new.places c.requires.found.distinct c.requires.absent (omega arith) c.in_ok-first.ensures c.in_ok-insert_place.ensures.put
