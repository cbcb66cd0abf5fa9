use Rattle.std.proofs.Common.{ℕ, List, Some, ap, rules, sym, ◌∙◌}
use Rattle.ps_frame.specs.Tables.{field_index}
use denote.Enum.Bare.{same_true}
use Rattle.ps_frame.specs.contracts.value.DataType.{the_type}
use Rattle.ps_typing.proofs.Columns.{kind-at}
use Rattle.sound_plans.proofs.Choosing.{has-field}
use Rattle.sound_plans.proofs.given.has_field.Goals as goal

pub returns-in-Some : goal.returns-in-Some
returns-in-Some c = λ told. has-field c.args.given.now c.args.name.now c.args.kind
    (kind-at c.args.name.now c.args.given.now c.in-Some.place c.kind.result (ap (λ (n : List ℕ). field_index n c.args.given.now) (sym c.as_str.ensures) ∙ sym c.index_of.ensures ∙ c.in-Some.is) c.kind.ensures ∙ ap Some (same_true the_type (search rules) c.kind.result c.args.kind (sym c.eq.ensures ∙ told)))
