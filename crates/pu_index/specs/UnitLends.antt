-- What a short vector ends as, once a `&mut` to its items has ended.
use Rattle.std.specs.Prelude.{List, length}
use Rattle.std.specs.List.{refill}
use Rattle.std.specs.Borrow.{Fml, RattleType, MutBor, Lends, Array, follows}
use Rattle.std.specs.declared.slice.IterMut.{IterMut}
use Rattle.std.specs.Slice.Iter.{iter_mut_name}
use Rattle.pu_index.specs.UnitVec.{Short, short}
use Rattle.pu_index.specs.contracts.unit_vec.UnitVec.{the_row}

-- v with its items written over by ws; their number stays
abbrev pub rewritten : {T : Type 0} → Short T → List T → Short T
rewritten v ws = short (refill (length v.items) v.items ws) v.capacity

-- its items are those that r shows last
abbrev pub lends_items : (R : RattleType) → MutBor (Short R.Denot) → MutBor (List R.Denot) → Fml
lends_items R v r = Lends (the_row R) (Array R 0) v r (rewritten v.now)

-- its items are what they are left as by whoever went over them
abbrev pub lends_iter : (R : RattleType) → MutBor (Short R.Denot) → IterMut R.Denot → Fml
lends_iter R v i = follows (the_row R) (Array R 0) v.ghost_name (iter_mut_name i) (rewritten v.now)
