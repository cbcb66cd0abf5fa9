use Rattle.std.proofs.Common.{◌∙◌}
use Rattle.ps_frame.proofs.fields.Fields.place.Goals as goal

pub returns-in-Some : goal.returns-in-Some
returns-in-Some c = rw (← c.self.view_is) (c.copied.ensures ∙ c.get.ensures.value ∙ c.self.invariant.found c.in-Some.places c.in-Some.is c.args.name.now)
