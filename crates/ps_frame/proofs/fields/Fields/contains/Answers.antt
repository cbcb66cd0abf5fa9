use Rattle.std.proofs.Common.{◌∙◌, ap}
use Rattle.std.specs.Prelude.{is_some}
use Rattle.std.specs.Str.{bytes_eq}
use Rattle.ps_frame.proofs.NamePlaces.{is_some-position}
use Rattle.ps_frame.proofs.fields.Fields.contains.Goals as goal

pub returns : goal.returns
returns c = c.is_some.ensures ∙ ap is_some c.place.ensures ∙ is_some-position (λ f. bytes_eq c.args.name.now f.0) c.args.self.now
