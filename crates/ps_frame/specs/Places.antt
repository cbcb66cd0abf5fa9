-- Where the names of many fields stand, as a map knows it.
use Rattle.std.specs.Prelude.{◌≡◌, ◌≤◌, ◌↔◌, ℕ, List, Option, Some, IsSome, IsTrue, length}
use Rattle.std.specs.BTreeMap.{BTreeMap, get_by_text}
use Rattle.std.specs.declared.string.String.{String}
use Rattle.ps_frame.specs.Frames.{has_distinct_names}
use Rattle.ps_frame.specs.Tables.{Fields, field_index}

-- the map gives for each name where it stands
abbrev pub FindsEach : {A : Type 0} → Fields → BTreeMap (String A) ℕ → Type 0
FindsEach fields places = (name : List ℕ) → get_by_text places name ≡ field_index name fields

-- names that differ, and a map that finds them exactly if there are many
pub record AreFound {A : Type 0} (many : ℕ) (fields : Fields) (places : Option (BTreeMap (String A) ℕ)) : Type 0 where
  pub distinct : IsTrue (has_distinct_names fields)
  pub mapped : IsSome places ↔ (many ≤ length fields)
  pub found : (map : BTreeMap (String A) ℕ) → places ≡ Some map → FindsEach fields map
