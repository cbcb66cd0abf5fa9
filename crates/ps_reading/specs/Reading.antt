-- What is read off the front of a text's tokens.
use Rattle.std.specs.Prelude.{ℕ, ◌≡◌, ◌≤◌, List, length, Some}
use Rattle.json.specs.Token.{Token}
use Rattle.json.specs.Json.{items, members, value}
use Rattle.serde_json.specs.Data.{Data, Members}
use Rattle.serde_json.specs.Read.{converted, of_items, of_json, of_members}
use Rattle.serde_json.specs.View.{items_of}

-- A value comes first, in which arrays and objects nest no deeper than the number, and then the rest.
pub record Reads (nests : ℕ) (old : List Token) (d : Data) (new : List Token) : Type 0 where
  pub at : (depth : ℕ) → nests ≤ depth → converted of_json (value depth old) ≡ Some (d, new)

-- The elements of an array come first, each as above, and the bracket that closes it.
pub record ReadsItems (nests : ℕ) (old : List Token) (ds : List Data) (new : List Token) : Type 0 where
  pub at : (depth turns : ℕ) → nests ≤ depth → length old ≤ turns → converted of_items (items (value depth) turns old) ≡ Some (items_of ds, new)

-- The members of an object come first, each as above, and the brace that closes it. With those that were found before them they are all.
pub record ReadsMembers (nests : ℕ) (old : List Token) (found all : Members) (new : List Token) : Type 0 where
  pub at : (depth turns : ℕ) → nests ≤ depth → length old ≤ turns → converted (λ ms. of_members ms found) (members (value depth) turns old) ≡ Some (all, new)
