use Rattle.ps_world.specs.Laws.{AnyKind}
use Rattle.run_promises.proofs.AllPromises.{some_choice}
use Rattle.run_promises.proofs.EachKind.{every_kind}
use Rattle.run_promises.proofs.promised.shapes_have_tables.Goals as goal

pub returns : goal.returns
returns c = λ F shape laws sound. some_choice F AnyKind (every_kind F laws) shape sound (λ n p e. tt)
