-- The JSON values of which a document is made.
use Rattle.std.specs.Prelude.{ℕ, ℤ, Bool, List, map, Option, Some, None, codes}
use Rattle.serde_json.specs.Data.{Data, array, boolean, member, no_members, null, number, object, string, unsigned}
use Rattle.serde_json.specs.Find.{of_integer}
use Rattle.serde_json.specs.View.{items_of}

-- a list, a text, a truth value, a number that counts or names something, and a whole number
abbrev pub list : List Data → Data
list ds = array (items_of ds)

abbrev pub text : List ℕ → Data
text s = string s

abbrev pub truth : Bool → Data
truth b = boolean b

abbrev pub count : ℕ → Data
count n = number (unsigned n)

abbrev pub whole_number : ℤ → Data
whole_number z = number (of_integer z)

-- null where there is nothing
abbrev pub or_null : {A : Type 0} → (A → Data) → Option A → Data
or_null json None = null
or_null json (Some x) = json x

-- a list of things
abbrev pub list_of : {A : Type 0} → (A → Data) → List A → Data
list_of json xs = list (map json xs)

-- an object of the four members, which stand in the order of their names
abbrev pub four_members : Data → Data → Data → Data → Data
four_members tables exprs nodes root =
    object (member (codes "exprs") exprs (member (codes "nodes") nodes (member (codes "root") root (member (codes "tables") tables no_members))))
