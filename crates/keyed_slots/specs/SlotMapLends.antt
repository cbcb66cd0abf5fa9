-- What a `SlotMap` ends as, where a `&mut` to one of its values is returned.
use Rattle.std.specs.Prelude.{ℕ, Option}
use Rattle.std.specs.Borrow.{Lends, LendsIf, Fml, RattleType, MutBor}
use Rattle.keyed_slots.specs.declared.key.Key.{Ghosts}
use Rattle.keyed_slots.specs.Slots.{SlotList, with_value}
use Rattle.keyed_slots.specs.contracts.slot_map.SlotMap.{the_row}

module _ (K V : RattleType) (key : Ghosts K.Denot) (s : MutBor (SlotList V.Denot)) (number : ℕ) where
  -- once the borrow r ends, the number has the last value written through r
  abbrev pub lends_value : MutBor V.Denot → Fml
  lends_value r = Lends (the_row K V key) V s r (with_value s.now number)

  -- the same where r is a reference, and at `None` the map stays as it is
  abbrev pub lends_get : Option (MutBor V.Denot) → Fml
  lends_get r = LendsIf (the_row K V key) V s r (with_value s.now number) s.now
