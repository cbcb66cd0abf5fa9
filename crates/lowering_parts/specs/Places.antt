-- Where streams stand among others.
use Rattle.std.specs.Prelude.{List, IsSome, ℕ}
use Rattle.std.specs.BTreeMap.{BTreeMap, get}
use Rattle.std.specs.List.{AllByRecursion}
use Rattle.std.specs.Ordering.{nat_cmp}
use Rattle.ps_phys.specs.declared.phys.PhysStream.{PhysStream}

-- something is known of the number of each stream's node
abbrev pub HavePlaces : List PhysStream → BTreeMap ℕ ℕ → Type 0
HavePlaces ss places = AllByRecursion (λ (s : PhysStream). IsSome (get nat_cmp places s.node.0)) ss
