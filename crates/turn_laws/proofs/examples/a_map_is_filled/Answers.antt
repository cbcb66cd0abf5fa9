use Rattle.std.proofs.Common.{Some, inl, inr, refl}
use Rattle.turn_laws.specs.Examples.{a_map}
use Rattle.turn_laws.proofs.examples.a_map_is_filled.Goals as goal

pub returns-clause-filled : goal.returns-clause-filled
returns-clause-filled c = λ F o rs m. record {
  filled = record a_map.progress { made = Some rs };
  fills = inr (refl, rs, m, refl);
  update = record { ports = (refl, refl); agrees = refl; turns = inr (refl, record a_map.progress { made = Some rs }, inl (refl, refl), refl); others = refl; answers = refl };
}

pub returns-clause-stages : goal.returns-clause-stages
returns-clause-stages c = (refl, λ rs. refl)

pub returns-clause-waits : goal.returns-clause-waits
returns-clause-waits c = λ F o. record { ports = (refl, refl); agrees = refl; turns = inl (refl, refl); others = refl; answers = refl }
