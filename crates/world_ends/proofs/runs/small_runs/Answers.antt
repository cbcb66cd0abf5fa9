use Rattle.std.proofs.Common.{◌≡◌, true, false, Some, refl, sym, ap, subst, inl, inr}
use Rattle.std.specs.Prelude.{is_some}
use Rattle.ps_world.specs.Closing.{HasFinished}
use Rattle.ps_world.specs.World.{finished, running}
use Rattle.world_measure.specs.Examples.{in_its_phase, the_source}
use Rattle.world_ends.proofs.NotIdle.{runs}
use Rattle.world_ends.proofs.runs.small_runs.Goals as goal
use Rattle.world_ends.specs.Examples.{at_its_end}

has_rows_left : HasFinished in_its_phase 0 the_source → ⊥
has_rows_left (inl (over, nothing)) = let no : true ≡ false = ap is_some (nothing 0) in cc
has_rows_left (inr cut) = let no : false ≡ true = cut in cc

pub returns-clause-no_close : goal.returns-clause-no_close
returns-clause-no_close c = λ F v s. let q : Some the_source ≡ Some s.0 = s.1.0 in let is : the_source ≡ s.0 = cc in has_rows_left (subst (λ x. HasFinished in_its_phase 0 x) (sym is) s.3)

pub returns-clause-no_end : goal.returns-clause-no_end
returns-clause-no_end c = λ F v s. let no : false ≡ true = s.3.0 refl in cc

pub returns-clause-end : goal.returns-clause-end
returns-clause-end c = λ F. (refl, refl, refl, (λ on. refl, (λ on. refl, tt)), refl)

pub returns-clause-over : goal.returns-clause-over
returns-clause-over c = λ F steps. let no : finished ≡ running = runs F at_its_end at_its_end (steps 0).0 (steps 0).1 in cc
