use Rattle.std.proofs.Common.{FitsSigned, w64, rules, ◌∷◌, [], ap, sym, ◌∙◌}
use Rattle.std.specs.Prelude.{Some}
use Rattle.std.proofs.lemmas.Int.{to_z-of_z}
use Rattle.ps_keys.specs.Hashes.{alone_hash, number_hash}
use Rattle.ps_keys.proofs.Exact.{only-value, other-alone}
use Rattle.ps_keys.proofs.rows.hash_alone.Goals as goal

pub returns-in-Null : goal.returns-in-Null
returns-in-Null c =
    let row = only-value c.column-item.result c.args.columns.now c.args.row c.value.result.now c.in-len1.len_at_least c.in-len1.len_below c.column-item.is c.value.ensures in
    sym (ap alone_hash (row ∙ ap (λ v. v ∷ []) c.in-Null.is))

pub returns-in-Int64 : goal.returns-in-Int64
returns-in-Int64 c =
    let row = only-value c.column-item.result c.args.columns.now c.args.row c.value.result.now c.in-len1.len_at_least c.in-len1.len_below c.column-item.is c.value.ensures in
    let fits : FitsSigned w64 c.in-Int64.number = search rules in
    ap Some (c.hash_number.ensures ∙ ap number_hash (to_z-of_z w64 c.in-Int64.number fits))
    ∙ sym (ap alone_hash (row ∙ ap (λ v. v ∷ []) c.in-Int64.is))

pub returns-in_default-value : goal.returns-in_default-value
returns-in_default-value c =
    let row = only-value c.column-item.result c.args.columns.now c.args.row c.value.result.now c.in-len1.len_at_least c.in-len1.len_below c.column-item.is c.value.ensures in
    other-alone c.value.result.now c.in_default-value.not-Null c.in_default-value.not-Int64 ∙ sym (ap alone_hash row)
