use Rattle.std.proofs.Common.{◌≡◌, ◌<◌, length, take}
use Rattle.std.specs.List.{All}
use Rattle.ps_meaning.specs.Distinct.{places_in}
use Rattle.ps_groups.proofs.distinct.places_of_names.Given as goal

abbrev pub invariant-loop-name : goal.invariant-loop-name
invariant-loop-name l = record {
  places : l.places.items ≡ places_in (take l.name-index l.names) l.schema;
  there : All (λ i. i < length l.schema) l.places.items;
}
