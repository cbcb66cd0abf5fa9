use Rattle.std.proofs.Common.{sym, ◌∙◌, ap, rules, FitsSigned}
use Rattle.std.specs.Prelude.{Some}
use Rattle.std.specs.Int.{w64}
use Rattle.std.proofs.lemmas.Int.{to_z-of_z}
use Rattle.ps_frame.specs.declared.value.Value.TheVariants as val
use Rattle.ps_compute.proofs.Texts.{read-ok, read-err}
use Rattle.ps_compute.proofs.casts.read_int64.Goals as goal

pub returns-in-Ok : goal.returns-in-Ok
returns-in-Ok c =
    let fits : FitsSigned w64 c.in-Ok.number = search rules in
    ap (λ z. Some (val.Int64 z)) (to_z-of_z w64 c.in-Ok.number fits)
    ∙ sym (read-ok c.args.text.now c.parse.result c.has_plus.result _ c.has_plus.ensures.1 c.if-has_plus.false c.parse.ensures.value.0 c.in-Ok.is)

pub returns-in-Err : goal.returns-in-Err
returns-in-Err c = sym (read-err c.args.text.now c.parse.result c.has_plus.result _ c.has_plus.ensures.1 c.if-has_plus.false c.parse.ensures.value.0 c.in-Err.is)
