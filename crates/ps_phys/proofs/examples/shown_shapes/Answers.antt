use Rattle.std.specs.Prelude.{refl}
use Rattle.std.specs.Fmt.{digits}
use Rattle.ps_phys.proofs.examples.shown_shapes.Goals as goal

pub returns-clause-order : goal.returns-clause-order
unfolding digits
returns-clause-order c = refl

pub returns-clause-shape : goal.returns-clause-shape
unfolding digits
returns-clause-shape c = refl

pub returns-clause-text : goal.returns-clause-text
unfolding digits
returns-clause-text c = refl

pub returns-clause-met_once : goal.returns-clause-met_once
unfolding digits
returns-clause-met_once c = refl

pub returns-clause-both_ports : goal.returns-clause-both_ports
unfolding digits
returns-clause-both_ports c = refl

pub returns-clause-from_the_end : goal.returns-clause-from_the_end
unfolding digits
returns-clause-from_the_end c = refl

pub returns-clause-back : goal.returns-clause-back
unfolding digits
returns-clause-back c = refl
