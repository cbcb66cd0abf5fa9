use Rattle.std.proofs.Common.{◌≡◌, take}
use Rattle.std.specs.Prelude.{Bool, filter}
use Rattle.ps_meaning.specs.Schemas.{names_of}
use Rattle.ps_meaning.specs.Steps.{Name}
use Rattle.lowering_parts.specs.Reads.{ArePlacesOf}
use Rattle.lowering_parts.proofs.reads.names_at.Given as goal

abbrev pub invariant-loop-place : goal.invariant-loop-place
invariant-loop-place l = (test : Name → Bool) → ArePlacesOf l.schema test l.places → l.names.items ≡ filter test (take l.place-counter (names_of l.schema))
