-- The fields that named expressions give, and what is refused of them.
use Rattle.std.specs.Prelude.{Bool, not, ◌≡◌, List, [], ◌∷◌, ◌++◌, IsTrue, ⊤}
use Rattle.pu_base.specs.declared.arena.Node.{Node}
use Rattle.ps_frame.specs.Frames.{has_name}
use Rattle.ps_frame.specs.Parts.{tree_parts}
use Rattle.ps_frame.specs.Tables.{Fields}
use Rattle.ps_frame.specs.Trees.{Tree}
use Rattle.ps_frame.specs.Typing.{is_scalar}
use Rattle.ps_frame.specs.declared.refusal.PolarsError.{PolarsError}
use Rattle.ps_frame.specs.declared.refusal.PolarsError.TheVariants as error
use Rattle.ps_meaning.specs.StepRefusals.{repeats}
use Rattle.ps_meaning.specs.Schemas.{expr_names}
use Rattle.ps_meaning.specs.Steps.{Name, Named, exprs_of}
use Rattle.ps_typing.specs.Refused.{IsErrorAmong}

-- the parts of expressions
abbrev pub all_parts : List Tree → List Tree
all_parts [] = []
all_parts (e ∷ es) = tree_parts e ++ all_parts es

-- An error at a node, with its cause in named expressions whose columns come after others of these names: a name that stands twice, or a typing error in one of the expressions.
abbrev pub IsFieldError : Node → Fields → List Name → List Named → PolarsError → Type 0
IsFieldError at s names es (error.Duplicate node name) = (node ≡ at) × IsTrue (repeats name (names ++ expr_names es))
IsFieldError at s names es e = IsErrorAmong at s (all_parts (exprs_of es)) e

-- a name that stands already, or want of memory
abbrev pub IsPushError : Node → Fields → Name → PolarsError → Type 0
IsPushError at s name (error.Duplicate node other) = (node ≡ at) × (other ≡ name) × IsTrue (has_name name s)
IsPushError at s name error.OutOfMemory = ⊤
IsPushError at s name _ = ⊥

-- whether an expression may give more or less than one cell
abbrev pub not_scalar : Tree → Bool
not_scalar t = not (is_scalar t)
