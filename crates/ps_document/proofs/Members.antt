-- The members of a document.
use Rattle.std.proofs.Common.{◌≡◌, ℕ, List, [], ◌∷◌, length, refl, arith}
use Rattle.std.specs.Prelude.{String, ◌↔◌}
use Rattle.std.specs.declared.alloc.Global.{Global}
use Rattle.serde_json.specs.Data.{Data, Members, member, no_members, object}
use Rattle.serde_json.specs.View.{members_view}
use Rattle.serde_json.specs.declared.value.Value.{Value}
use Rattle.ps_document.specs.Json.{four_members}

-- the last two members of a document, after the first two
pub last_members : (x y e n : Data) (k l : List ℕ) (all rest more : Members) → all ≡ member k x (member l y rest) → object all ≡ object (member k e (member l n more)) → rest ≡ more
last_members x y e n k l all rest more g h = cc

-- no entries are no members
pub no_entries : (es : List (String Global × Value)) → (length es ≡ 0) ↔ (members_view es ≡ no_members)
no_entries [] = (λ e. refl, λ e. refl)
no_entries (x ∷ xs) = (λ e. absurd (omega arith), λ e. cc)

-- the members of equal documents are equal
pub same_members : (t e n r u f m s : Data) → four_members t e n r ≡ four_members u f m s → (t ≡ u) × (e ≡ f) × (n ≡ m) × (r ≡ s)
same_members t e n r u f m s h = (cc, cc, cc, cc)
