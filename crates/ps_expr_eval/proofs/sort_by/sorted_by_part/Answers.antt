use Rattle.std.proofs.Common.{◌≡◌, ◌∷◌, ◌∙◌, ap, arith, length, subst, sym, false}
use Rattle.std.specs.List.{AllZip}
use Rattle.std.proofs.lemmas.Result.{IfOk-weaker}
use Rattle.ps_expr_eval.specs.Held.{Keeps}
use Rattle.ps_frame.specs.Eval.{sorted_by_keys}
use Rattle.ps_frame.specs.Sorting.{directions_of}
use Rattle.ps_frame.specs.Zip.{zipped}
use Rattle.ps_expr_eval.proofs.sort_by.sorted_by_part.Goals as goal

pub returns-in-Ok-clause-cells : goal.returns-in-Ok-clause-cells
returns-in-Ok-clause-cells c =
    let count : c.len.result ≡ length c.args.keys.items = omega arith in
    let ds = c.as_slice.ensures.value ∙ c.in-Ok.ensures.directions ∙ ap (λ n. directions_of n c.args.descending.now c.args.nulls_last.now) count in
    IfOk-weaker c.sorted_parts.result _ _
    (λ q h node d cs k ks. subst (λ x. Keeps q (sorted_by_keys x (zipped false node (d ∷ cs)))) ds
    (h node (d ∷ cs) (subst (λ ps. AllZip Keeps (c.args.input ∷ ps) (d ∷ cs)) (sym c.as_slice-in-Ok.ensures.value) (k, ks))))
    c.sorted_parts.ensures.cells
