-- What an expression reads of a table, and the tables that have it.
use Rattle.std.specs.Prelude.{◌≡◌, ⊤, IsTrue, Some, map}
use Rattle.std.specs.List.{AllByRecursion}
use Rattle.ps_frame.specs.Frames.{has_name}
use Rattle.ps_frame.specs.Parts.{reads_column}
use Rattle.ps_frame.specs.Tables.{Fields, Frame}
use Rattle.ps_frame.specs.Trees.{Tree, Trees}
use Rattle.ps_meaning.specs.Distinct.{picked, places_in}
use Rattle.ps_meaning.specs.Schemas.{named_fields, names_of}
use Rattle.ps_meaning.specs.Steps.{Name}

-- this holds of each name that an expression reads
abbrev mutual
  pub ReadsAll : (Name → Type 0) → Tree → Type 0
  ReadsAll P (Tree.column name) = P name
  ReadsAll P (Tree.literal l) = ⊤
  ReadsAll P (Tree.binary o l r) = ReadsAll P l × ReadsAll P r
  ReadsAll P (Tree.cast k strict e) = ReadsAll P e
  ReadsAll P (Tree.sort d n e) = ReadsAll P e
  ReadsAll P (Tree.sort_by d n e by) = ReadsAll P e × AllReadAll P by
  ReadsAll P (Tree.gather s e i) = ReadsAll P e × ReadsAll P i
  ReadsAll P (Tree.filter e by) = ReadsAll P e × ReadsAll P by
  ReadsAll P (Tree.aggregate a e) = ReadsAll P e
  ReadsAll P (Tree.ternary p a b) = ReadsAll P p × ReadsAll P a × ReadsAll P b
  ReadsAll P (Tree.function g e) = ReadsAll P e
  ReadsAll P (Tree.slice e o l) = ReadsAll P e × ReadsAll P o × ReadsAll P l
  ReadsAll P Tree.len = ⊤
  ReadsAll P (Tree.left_out w) = ⊤
  ReadsAll P Tree.missing = ⊤

  pub AllReadAll : (Name → Type 0) → Trees → Type 0
  AllReadAll P Trees.no_trees = ⊤
  AllReadAll P (Trees.tree e es) = ReadsAll P e × AllReadAll P es

-- Each column of few is the column of its name in all: of the same kind, with the same value in each row.
pub record HasColumnsOf (all few : Frame) : Type 0 where
  pub fields : named_fields (names_of few.schema) all.schema ≡ Some few.schema
  pub rows : few.rows ≡ map (picked (places_in (names_of few.schema) all.schema)) all.rows

-- each name that an expression reads, if it stands in all, stands in few
abbrev pub HasNamesRead : Fields → Fields → Tree → Type 0
HasNamesRead all few t = ReadsAll (λ name. IsTrue (has_name name all) → IsTrue (has_name name few)) t

-- few has columns of all, and among them each that an expression reads
pub record HasWhatIsRead (all few : Frame) (t : Tree) : Type 0 where
  pub columns : HasColumnsOf all few
  pub names : HasNamesRead all.schema few.schema t

-- few has no columns but those that an expression reads
abbrev pub HasOnlyRead : Fields → Tree → Type 0
HasOnlyRead few t = AllByRecursion (λ f. IsTrue (reads_column f.0 t)) few
