-- The plan that a JSON value tells: a document has one.
use Rattle.std.proofs.Common.{◌≡◌, ℕ, List, ap, subst, sym, ◌∙◌}
use Rattle.std.specs.Prelude.{map, codes, unwrap_or}
use Rattle.std.proofs.lemmas.Option.{same_Some}
use Rattle.serde_json.specs.Data.{Data, null}
use Rattle.serde_json.specs.Find.{get}
use Rattle.ps_frame.specs.Tables.{Frame}
use Rattle.ps_plan.specs.Plans.{Plan}
use Rattle.ps_document.proofs.Lists.{elements_of-items}
use Rattle.ps_document.proofs.Told.{all-told, entry_in, list_in}
use Rattle.ps_document.proofs.ToldExpr.{expr-told, expr_in}
use Rattle.ps_document.proofs.ToldNode.{node-told, node_in}
use Rattle.ps_document.proofs.ToldTable.{table_in, tables-told}
use Rattle.ps_document.specs.Document.{IsDocumentOf, IsPlanJson}
use Rattle.ps_document.specs.Expressions.{IsExpr}
use Rattle.ps_document.specs.Nodes.{IsNode}

abbrev member_in : List ℕ → Data → Data
member_in name d = unwrap_or (get name d) null

abbrev plan_in : Data → Plan
plan_in d =
    let tables = list_in table_in (member_in (codes "tables") d) in
    record { nodes = list_in (node_in tables) (member_in (codes "nodes") d); exprs = list_in expr_in (member_in (codes "exprs") d); root = entry_in (member_in (codes "root") d) }

plan-told : (tables : List Frame) (plan : Plan) (d : Data) → IsPlanJson tables plan d → plan_in d ≡ plan
plan-told tables plan d is =
    let ts : map table_in is.tables_json ≡ tables = tables-told tables is.tables_json is.are_tables in
    let es : map expr_in is.exprs_json ≡ plan.exprs = all-told IsExpr expr_in expr-told plan.exprs is.exprs_json is.are_exprs in
    let ns : map (node_in tables) is.nodes_json ≡ plan.nodes = all-told (IsNode tables) (node_in tables) (node-told tables) plan.nodes is.nodes_json is.are_nodes in
    ap plan_in is.members
    ∙ (λ i. record { nodes = map (node_in (map table_in (elements_of-items is.tables_json i))) (elements_of-items is.nodes_json i); exprs = map expr_in (elements_of-items is.exprs_json i); root = plan.root })
    ∙ (λ i. record { nodes = map (node_in (ts i)) is.nodes_json; exprs = es i; root = plan.root })
    ∙ ap (λ nodes. record { nodes = nodes; exprs = plan.exprs; root = plan.root }) ns

pub one_plan : (p q : Plan) (bytes : List ℕ) → IsDocumentOf p bytes → IsDocumentOf q bytes → p ≡ q
one_plan p q bytes is other =
    sym (plan-told is.tables p is.json is.is_plan) ∙ ap plan_in (same_Some is.json other.json (sym is.reads ∙ other.reads)) ∙ plan-told other.tables q other.json other.is_plan

-- what holds of a plan of a document holds of each
pub of_each_plan : (P : Plan → Type 0) (p : Plan) (bytes : List ℕ) → IsDocumentOf p bytes → P p → (q : Plan) → IsDocumentOf q bytes → P q
of_each_plan P p bytes is holds q other = subst P (one_plan p q bytes is other) holds
