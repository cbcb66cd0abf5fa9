-- The errors by which typing refuses an expression.
use Rattle.std.specs.Prelude.{◌≡◌, List, IsFalse, IsTrue, Contains, ⊤}
use Rattle.std.specs.List.{list_any}
use Rattle.pu_base.specs.declared.arena.Node.{Node}
use Rattle.ps_frame.specs.Frames.{has_name}
use Rattle.ps_frame.specs.Parts.{is_column_of, tree_parts, trees_parts}
use Rattle.ps_frame.specs.Refusals.{breaks_rule}
use Rattle.ps_frame.specs.Tables.{Fields}
use Rattle.ps_frame.specs.Trees.{Tree, Trees}
use Rattle.ps_frame.specs.declared.refusal.PolarsError.{PolarsError}
use Rattle.ps_frame.specs.declared.refusal.PolarsError.TheVariants as error

-- An error at a node, with its cause among these parts: a column that one reads and the schema lacks, a typing rule that one breaks, or a part that is left out. Want of memory needs no cause, and no other error comes.
abbrev pub IsErrorAmong : Node → Fields → List Tree → PolarsError → Type 0
IsErrorAmong at schema parts (error.ColumnNotFound node name) = (node ≡ at) × IsTrue (list_any (is_column_of name) parts) × IsFalse (has_name name schema)
IsErrorAmong at schema parts (error.SchemaMismatch node) = (node ≡ at) × IsTrue (list_any (breaks_rule schema) parts)
IsErrorAmong at schema parts (error.Unsupported node what) = (node ≡ at) × Contains parts (Tree.left_out what)
IsErrorAmong at schema parts error.OutOfMemory = ⊤
IsErrorAmong at schema parts _ = ⊥

-- an error whose cause is in an expression, or in one of several
abbrev pub IsTypingError : Node → Fields → Tree → PolarsError → Type 0
IsTypingError at schema t e = IsErrorAmong at schema (tree_parts t) e

abbrev pub IsTypingErrorOfAny : Node → Fields → Trees → PolarsError → Type 0
IsTypingErrorOfAny at schema ts e = IsErrorAmong at schema (trees_parts ts) e
