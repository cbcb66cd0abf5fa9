use Rattle.std.proofs.Common.{◌≡◌, rules, subst, sym}
use Rattle.ps_frame.specs.declared.value.DataType.TheVariants as kind
use Rattle.ps_keys.specs.Hashes.{TellsApart}
use Rattle.ps_keys.proofs.Exact.{only, numbers-told}
use Rattle.ps_keys.proofs.rows.tells_apart.Goals as goal

pub returns-then-hash-ne0 : goal.returns-then-hash-ne0
returns-then-hash-ne0 c so =
    let is : c.column-item.result.kind ≡ kind.Int64 = search rules in
    let one = only c.column-item.result c.args.columns.now c.in-len1.len_at_least c.in-len1.len_below c.column-item.is in
    subst (λ cs. TellsApart cs c.args.hash) (sym one) (numbers-told c.column-item.result c.args.hash c.values_fit.ensures is c.if-hash-ne0.true)
