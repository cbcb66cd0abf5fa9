use Rattle.std.proofs.Common.{refl, subst, sym}
use Rattle.std.specs.List.{AllZip}
use Rattle.serde_json.specs.View.{view}
use Rattle.ps_document.proofs.NoPlan.{no_exprs, no_nodes, read_plan}
use Rattle.ps_document.specs.Expressions.{IsExpr, entry_number}
use Rattle.ps_document.specs.Json.{list}
use Rattle.ps_document.specs.Nodes.{IsNode}
use Rattle.ps_document.proofs.document.plan_over.Goals as goal

pub returns-in_default-clause-none : goal.returns-in_default-clause-none
returns-in_default-clause-none c = λ ts zip.
    let a = c.args in
    no_exprs (list ts) (view a.exprs) (view a.nodes) (entry_number a.root) (rw c.in_default.is at c.in_ok-exprs.ensures.none)

pub returns-in_default-2-clause-none : goal.returns-in_default-2-clause-none
returns-in_default-2-clause-none c = λ ts zip.
    let a = c.args in
    no_nodes (list ts) (view a.exprs) (view a.nodes) (entry_number a.root) a.tables.items ts refl zip (rw c.in_default-2.is at c.in_ok-nodes.ensures.none)

pub returns-clause-some : goal.returns-clause-some
returns-clause-some c = λ ts zip.
    let a = c.args in
    let e = rw c.in-Some.is at c.in_ok-exprs.ensures.some in
    let n = rw c.in-Some-2.is at c.in_ok-nodes.ensures.some in
    let exprs = subst (λ xs. AllZip IsExpr xs e.0) (sym c.in_ok-exprs-2.ensures) e.2 in
    let nodes = subst (λ xs. AllZip (IsNode a.tables.items) xs n.0) (sym c.in_ok-nodes-2.ensures) n.2 in
    read_plan (list ts) (view a.exprs) (view a.nodes) (entry_number a.root) a.tables.items ts c.in_ok-exprs-2.exprs.items e.0 c.in_ok-nodes-2.nodes.items n.0 a.root refl zip e.1 exprs n.1 nodes refl
