use Rattle.std.proofs.Common.{ℕ, List, None, Option, get_or, refl, ap, ◌∙◌, arith}
use Rattle.std.proofs.lemmas.List.{take_all}
use Rattle.ps_frame.proofs.Packing.{pushed-row}
use Rattle.ps_frame.specs.Gathered.{gathered_or_null}
use Rattle.ps_frame.proofs.packed.pack_or_null.Goals as goal

pub loop-row-preserved : goal.loop-row-preserved
loop-row-preserved c =
    let i = c.loop-row.row-index in
    let rows = c.args.rows.now in
    pushed-row c.args.column.now rows i (get_or rows i None) None c.loop-row.packed c.push_or_null.new.packed c.loop-row.invariant (c.in_ok-taken.ensures.added c.if-not-taken.false) (omega arith) refl

pub returns-clause-same : goal.returns-clause-same
returns-clause-same c =
    c.loop-row.invariant
    ∙ ap (λ (rows : List (Option ℕ)). gathered_or_null rows c.args.column.now) (take_all c.loop-row.row-index c.args.rows.now (omega arith))
