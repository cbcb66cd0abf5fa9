use Rattle.std.proofs.Common.{ℕ, replicate, refl, ◌∙◌}
use Rattle.std.proofs.lemmas.List.{length-replicate}
use Rattle.pu_map.proofs.SketchLemmas.{fold-both, combined-zeros}
use Rattle.pu_map.proofs.sketch.combining_inserts_both.Goals as goal

pub returns : goal.returns
returns c = λ xs ys.
    let z : ℕ = 0 in
    fold-both (replicate 256 z) (λ a long. combined-zeros z refl 256 a (long ∙ length-replicate 256 z)) xs ys
