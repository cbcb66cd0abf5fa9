use Rattle.std.proofs.Common.{◌≡◌, None, Some, refl, subst, sym}
use Rattle.std.specs.Option.{option_zip}
use Rattle.serde_json.specs.Data.{object}
use Rattle.serde_json.specs.Read.{read}
use Rattle.ps_document.proofs.MembersFound.{all-found, zip-some}
use Rattle.ps_document.specs.Document.{IsPlanJson}
use Rattle.ps_document.proofs.found.read_off_tokens.Goals as goal

pub returns : goal.returns
returns c =
    let told = (rw c.if-not-told.false at c.in_ok-told.ensures) (record { tables = None; are_tables = tt; members = refl }) in
    let f = c.find_members.new.found in
    let values = c.in-Some.values in
    let others = c.in-Some.others in
    let document = c.in-Some-2.document in
    let both : option_zip (option_zip f.exprs f.nodes) (option_zip f.tables f.root) ≡ Some (values, others) = cc in
    let all_four = zip-some (option_zip f.exprs f.nodes) (option_zip f.tables f.root) values others both in
    let left = zip-some f.exprs f.nodes values.0 values.1 all_four.0 in
    let right = zip-some f.tables f.root others.0 others.1 all_four.1 in
    let all = all-found f others.0 values.0 values.1 others.1 told.0 right.0 left.0 left.1 right.1 told.1 in
    let plan = (rw c.in-Some-2.is at c.in_ok-document.ensures.some) all.0 all.1 in
    record {
      is_text = c.in-Ok.ensures.1;
      json = object told.0;
      reads = subst (λ text. read text ≡ Some (object told.0)) c.in-Ok.ensures.0 told.2;
      tables = others.0.items;
      is_plan = subst (IsPlanJson others.0.items (record { nodes = document.nodes.items; exprs = document.exprs.items; root = document.root })) (sym all.2) plan;
    }
