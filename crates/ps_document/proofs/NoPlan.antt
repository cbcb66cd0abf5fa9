-- What is the JSON of no plan.
use Rattle.std.proofs.Common.{◌≡◌, ◌≢◌, List, ap, subst, sym, ◌∙◌}
use Rattle.std.specs.Prelude.{map}
use Rattle.std.specs.List.{AllZip}
use Rattle.serde_json.specs.Data.{Data}
use Rattle.pu_base.specs.declared.arena.Node.{Node}
use Rattle.ps_frame.specs.Tables.{Frame}
use Rattle.ps_frame.specs.declared.expr.AExpr.{AExpr}
use Rattle.ps_plan.specs.Plans.{Plan}
use Rattle.ps_plan.specs.declared.ir.IR.{IR}
use Rattle.ps_document.proofs.Lists.{list_same}
use Rattle.ps_document.proofs.Members.{same_members}
use Rattle.ps_document.proofs.ToldTable.{table_in, tables-told}
use Rattle.ps_document.specs.Document.{IsPlanJson}
use Rattle.ps_document.specs.Expressions.{IsExpr, entry_number}
use Rattle.ps_document.specs.Json.{four_members, list}
use Rattle.ps_document.specs.Nodes.{IsNode}
use Rattle.ps_document.specs.Tables.{IsTable}

pub no_root : (t e n r : Data) → ((m : Node) → r ≢ entry_number m) → (tables : List Frame) (plan : Plan) → IsPlanJson tables plan (four_members t e n r) → ⊥
no_root t e n r none tables plan is = none plan.root (same_members t e n r (list is.tables_json) (list is.exprs_json) (list is.nodes_json) (entry_number plan.root) is.members).3

pub no_tables : (t e n r : Data) → ((xs : List Frame) (ds : List Data) → AllZip IsTable xs ds → t ≢ list ds) → (tables : List Frame) (plan : Plan) → IsPlanJson tables plan (four_members t e n r) → ⊥
no_tables t e n r none tables plan is = none tables is.tables_json is.are_tables (same_members t e n r (list is.tables_json) (list is.exprs_json) (list is.nodes_json) (entry_number plan.root) is.members).0

pub no_exprs : (t e n r : Data) → ((xs : List AExpr) (ds : List Data) → AllZip IsExpr xs ds → e ≢ list ds) → (tables : List Frame) (plan : Plan) → IsPlanJson tables plan (four_members t e n r) → ⊥
no_exprs t e n r none tables plan is = none plan.exprs is.exprs_json is.are_exprs (same_members t e n r (list is.tables_json) (list is.exprs_json) (list is.nodes_json) (entry_number plan.root) is.members).1

pub no_nodes : (t e n r : Data) (read : List Frame) (js : List Data) → t ≡ list js → AllZip IsTable read js → ((xs : List IR) (ds : List Data) → AllZip (IsNode read) xs ds → n ≢ list ds) → (tables : List Frame) (plan : Plan) → IsPlanJson tables plan (four_members t e n r) → ⊥
no_nodes t e n r read js is_list are_tables none tables plan is =
    let same = same_members t e n r (list is.tables_json) (list is.exprs_json) (list is.nodes_json) (entry_number plan.root) is.members in
    let lists : is.tables_json ≡ js = list_same is.tables_json js (sym same.0 ∙ is_list) in
    let one : tables ≡ read = sym (tables-told tables is.tables_json is.are_tables) ∙ ap (map table_in) lists ∙ tables-told read js are_tables in
    none plan.nodes is.nodes_json (subst (λ ts. AllZip (IsNode ts) plan.nodes is.nodes_json) one is.are_nodes) same.2

-- the JSON of what was read
pub read_plan : (t e n r : Data) (tables : List Frame) (ts : List Data) (exprs : List AExpr) (es : List Data) (nodes : List IR) (ns : List Data) (root : Node) → t ≡ list ts → AllZip IsTable tables ts → e ≡ list es → AllZip IsExpr exprs es → n ≡ list ns → AllZip (IsNode tables) nodes ns → r ≡ entry_number root
    → IsPlanJson tables (record { nodes = nodes; exprs = exprs; root = root }) (four_members t e n r)
read_plan t e n r tables ts exprs es nodes ns root te tz ee ez ne nz re = record {
  tables_json = ts;
  exprs_json = es;
  nodes_json = ns;
  members = ap (λ x. four_members x e n r) te ∙ ap (λ x. four_members (list ts) x n r) ee ∙ ap (λ x. four_members (list ts) (list es) x r) ne ∙ ap (λ x. four_members (list ts) (list es) (list ns) x) re;
  are_tables = tz;
  are_exprs = ez;
  are_nodes = nz;
}
