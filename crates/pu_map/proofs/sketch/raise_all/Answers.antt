use Rattle.std.proofs.Common.{sym, ◌∙◌, arith}
use Rattle.std.proofs.lemmas.List.{ext_get_or}
use Rattle.pu_map.specs.Sketch.{combined}
use Rattle.pu_map.proofs.SketchLemmas.{length-combined, get_or-combined}
use Rattle.pu_map.proofs.sketch.raise_all.Goals as goal

pub returns : goal.returns
returns c =
    let a = c.args.registers.now in
    let b = c.args.others.now in
    let long = length-combined a b c.requires in
    ext_get_or 0 c.registers.registers (combined a b) (omega arith)
    (λ k within. c.registers.invariant.0 k (omega arith) ∙ sym (get_or-combined a b k c.requires))
