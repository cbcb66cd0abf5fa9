-- It is new where the node of the graph is.
use Rattle.std.proofs.Common.{◌∙◌, refl, sym}
use Rattle.run_graphs.proofs.graphs.running.Goals as goal

pub returns-in-Ok-new-clause-runs : goal.returns-in-Ok-new-clause-runs
returns-in-Ok-new-clause-runs c = record { origin = refl; inputs = refl; outputs = refl; new = λ p ss new schema origin inputs. c.in-Ok-new.ensures.new p ss new (schema ∙ sym c.in-Ok.ensures.same) origin inputs }
