use Rattle.std.proofs.Common.{ap, subst, sym, ◌∙◌}
use Rattle.serde_json.specs.View.{view}
use Rattle.ps_document.proofs.NoPlan.{no_root, no_tables}
use Rattle.ps_document.specs.Document.{IsPlanJson}
use Rattle.ps_document.specs.Json.{four_members, list}
use Rattle.ps_document.proofs.document.plan_of.Goals as goal

pub returns-in_default-clause-none : goal.returns-in_default-clause-none
returns-in_default-clause-none c =
    let m = c.args.members in
    no_root (view m.tables) (view m.exprs) (view m.nodes) (view m.root) c.in_default.ensures.none

pub returns-in_default-2-clause-none : goal.returns-in_default-2-clause-none
returns-in_default-2-clause-none c =
    let m = c.args.members in
    no_tables (view m.tables) (view m.exprs) (view m.nodes) (view m.root) (rw c.in_default-2.is at c.in_ok-tables.ensures.none)

pub returns-in_default-3-clause-none : goal.returns-in_default-3-clause-none
returns-in_default-3-clause-none c = λ frames plan is.
    let m = c.args.members in
    let t = rw c.in-Some-2.is at c.in_ok-tables.ensures.some in
    let members = ap (λ d. four_members d (view m.exprs) (view m.nodes) (view m.root)) t.1 ∙ ap (four_members (list t.0) (view m.exprs) (view m.nodes)) c.in-Some.ensures.some in
    (rw c.in_default-3.is at c.in_ok-document.ensures.none) t.0 t.2 frames plan (subst (IsPlanJson frames plan) members is)

pub returns-clause-some : goal.returns-clause-some
returns-clause-some c =
    let m = c.args.members in
    let d = c.in-Some-3.document in
    let t = rw c.in-Some-2.is at c.in_ok-tables.ensures.some in
    let members = ap (λ x. four_members x (view m.exprs) (view m.nodes) (view m.root)) t.1 ∙ ap (four_members (list t.0) (view m.exprs) (view m.nodes)) c.in-Some.ensures.some in (
      c.in-Some-2.tables.items,
      subst (IsPlanJson c.in-Some-2.tables.items (record { nodes = d.nodes.items; exprs = d.exprs.items; root = d.root })) (sym members) ((rw c.in-Some-3.is at c.in_ok-document.ensures.some) t.0 t.2),
    )
