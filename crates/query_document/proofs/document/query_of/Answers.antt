use Rattle.std.proofs.Common.{ap, subst, sym}
use Rattle.serde_json.specs.View.{view}
use Rattle.query_document.proofs.NoQuery.{no_tables}
use Rattle.query_document.proofs.document.query_of.Goals as goal
use Rattle.query_document.specs.QueryDocuments.{IsQueryJson, asked_of, three_members}

pub returns-in_default-clause-none : goal.returns-in_default-clause-none
returns-in_default-clause-none c =
    let m = c.args.members in
    no_tables (view m.names) (view m.query) (view m.tables) (rw c.in_default.is at c.in_ok-tables.ensures.none)

pub returns-in_default-2-clause-none : goal.returns-in_default-2-clause-none
returns-in_default-2-clause-none c = λ asked is.
    let m = c.args.members in
    let t = rw c.in-Some.is at c.in_ok-tables.ensures.some in
    (rw c.in_default-2.is at c.in_ok-document.ensures.none) t.0 t.2 asked (subst (IsQueryJson asked) (ap (three_members (view m.names) (view m.query)) t.1) is)

pub returns-clause-some : goal.returns-clause-some
returns-clause-some c =
    let m = c.args.members in
    let t = rw c.in-Some.is at c.in_ok-tables.ensures.some in
    subst (IsQueryJson (asked_of c.in-Some-2.document)) (sym (ap (three_members (view m.names) (view m.query)) t.1)) ((rw c.in-Some-2.is at c.in_ok-document.ensures.some) t.0 t.2)
