-- What the maps of partitions end as, where a `&mut` to them is returned.
use Rattle.std.specs.Prelude.{ℕ, List, slice_set}
use Rattle.std.specs.Borrow.{Lends, Fml, RattleType, MutBor}
use Rattle.std.specs.contracts.alloc.Global as global
use Rattle.std.specs.contracts.vec.Vec as vec
use Rattle.std.specs.contracts.impls.GlobalAllocator.TheImpl.{ghosts}
use Rattle.pu_map.specs.contracts.partitioned.Partitioned.{the_row}

-- once the borrow r ends, the partition has the last map written through r
abbrev pub lends_map : (M : RattleType) → MutBor (List M.Denot) → ℕ → MutBor M.Denot → Fml
lends_map M p i r = Lends (the_row M) M p r (slice_set p.now i)

-- a `Vec` of maps as the logic holds it
abbrev pub maps_row : RattleType → RattleType
maps_row M = vec.the_row M global.the_row ghosts

-- once the borrow r ends, the maps are the last ones behind r
abbrev pub lends_maps : (M : RattleType) → MutBor (List M.Denot) → MutBor (maps_row M).Denot → Fml
lends_maps M p r = Lends (the_row M) (maps_row M) p r (λ maps. maps.items)
