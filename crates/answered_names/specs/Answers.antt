-- The names that a call answers: those of its stream, and those of expressions that are columns.
use Rattle.std.specs.Prelude.{◌≡◌, ◌⊎◌, ◌↔◌, ℕ, ◌≤◌, ◌^◌, false, List, [], ◌∷◌, IsTrue, ⊤}
use Rattle.ps_frame.specs.Functions.{Functions}
use Rattle.ps_frame.specs.Trees.{Tree}
use Rattle.ps_meaning.specs.Schemas.{is_among, names_of}
use Rattle.ps_meaning.specs.Steps.{Name}
use Rattle.ps_rules.specs.Calls.{all_independent}
use Rattle.ps_rules.specs.Lowered.{lower_exprs}
use Rattle.ps_rules.specs.Names.{IsKnown, Names}
use Rattle.ps_rules.specs.Slots.{State, Stream, schema_at}
use Rattle.ps_shares.specs.Kept.{IsReady}

-- Each name of the answered stream is one of the input's, or came to be known by the call. The counter of names stays in 64 bits: past that two numbers may have one name.
abbrev pub NamesAreInputsOrFresh : Type 0
NamesAreInputsOrFresh =
    (F : Functions) (at : ℕ) (input : Stream) (s : State) (es : List Tree) → IsReady s input es
    → let a = lower_exprs at input es s in
    a.state.names.next ≤ 2 ^ 64 → (n : Name) → IsTrue (is_among n (names_of (schema_at a.state.nodes a.stream))) → IsTrue (is_among n (names_of (schema_at s.nodes input))) ⊎ ((¬ IsKnown s.names n) × IsKnown a.state.names n)

-- One for each, in order: of a known name the one is the column exactly where the other is.
abbrev pub AreSameColumns : Names → List Tree → List Tree → Type 0
AreSameColumns names [] [] = ⊤
AreSameColumns names (e ∷ es) (x ∷ xs) = ((n : Name) → IsKnown names n → (e ≡ Tree.column n) ↔ (x ≡ Tree.column n)) × AreSameColumns names es xs
AreSameColumns names _ _ = ⊥

-- so it is of what is asked and answered, where some expression reads the input
abbrev pub ColumnsStayAlone : Type 0
ColumnsStayAlone =
    (at : ℕ) (input : Stream) (s : State) (es : List Tree) → IsReady s input es → all_independent es ≡ false
    → let a = lower_exprs at input es s in
    a.state.names.next ≤ 2 ^ 64 → AreSameColumns s.names es a.exprs
