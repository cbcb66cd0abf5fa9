-- The places of the columns that expressions read.
use Rattle.std.specs.Prelude.{◌≡◌, ℕ, Bool, false, List, [], ◌∷◌, Some, slice_get}
use Rattle.std.specs.BTreeSet.{BTreeSet, contains}
use Rattle.std.specs.List.{list_any}
use Rattle.std.specs.Ordering.{nat_cmp}
use Rattle.std.specs.Str.{bytes_eq}
use Rattle.pu_base.specs.declared.arena.Node.{Node}
use Rattle.ps_frame.specs.Parts.{reads_column}
use Rattle.ps_frame.specs.Tables.{Fields}
use Rattle.ps_frame.specs.Trees.{Tree}
use Rattle.ps_frame.specs.declared.expr.AExpr.{AExpr}
use Rattle.ps_frame.specs.declared.expr.AExpr.TheVariants as entry
use Rattle.ps_frame.specs.declared.expr.IRAggExpr.{IRAggExpr}
use Rattle.ps_frame.specs.declared.expr.IRAggExpr.TheVariants as agg
use Rattle.ps_meaning.specs.Schemas.{names_of}
use Rattle.ps_meaning.specs.Steps.{Name}

-- the places of the columns whose names pass a test
abbrev pub ArePlacesOf : Fields → (Name → Bool) → BTreeSet ℕ → Type 0
ArePlacesOf schema test places = (k : ℕ) (n : Name) → slice_get (names_of schema) k ≡ Some n → contains nat_cmp places k ≡ test n

-- whether an entry is itself the column of a name
abbrev pub reads_itself : Name → AExpr → Bool
reads_itself n (entry.Column name) = bytes_eq n name
reads_itself n _ = false

-- whether one of these reads the column of a name
abbrev pub any_reads : List Tree → Name → Bool
any_reads es n = list_any (reads_column n) es

abbrev pub aggregate_operand : IRAggExpr → Node
aggregate_operand (agg.Min n) = n
aggregate_operand (agg.Max n) = n
aggregate_operand (agg.First n) = n
aggregate_operand (agg.Last n) = n
aggregate_operand (agg.Sum n) = n
aggregate_operand (agg.NUnique n) = n
aggregate_operand (agg.Count n all) = n

-- the expressions that an entry takes
abbrev pub operands_of : AExpr → List Node
operands_of (entry.Column name) = []
operands_of (entry.Literal l) = []
operands_of (entry.BinaryExpr l o r) = l ∷ r ∷ []
operands_of (entry.Cast e k s) = e ∷ []
operands_of (entry.Sort e d n) = e ∷ []
operands_of (entry.SortBy e by d n) = e ∷ by
operands_of (entry.Gather e i s) = e ∷ i ∷ []
operands_of (entry.Filter e by) = e ∷ by ∷ []
operands_of (entry.Agg a) = aggregate_operand a ∷ []
operands_of (entry.Ternary p a b) = p ∷ a ∷ b ∷ []
operands_of (entry.Function e g) = e ∷ []
operands_of (entry.Slice e o l) = e ∷ o ∷ l ∷ []
operands_of entry.Len = []
operands_of (entry.LeftOut w) = []
