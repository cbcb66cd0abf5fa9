-- Passing nodes that look at how many rows came before: a row index counts on, and a slice skips and takes what is left.
use Rattle.std.specs.Prelude.{◌≡◌, ℕ, zero, suc, ◌+◌, ◌-◌, ◌≤◌, ◌||◌, ◌⊎◌, Bool, List, [], ◌∷◌, ◌++◌, Contains, length, take, drop, Option, Some, None, unwrap_or, nat_eq, nat_le, if◌then◌else◌, IsTrue, ⊤}
use Rattle.ps_frame.specs.Causes.{Cause}
use Rattle.ps_frame.specs.Functions.{Functions}
use Rattle.ps_frame.specs.Tables.{Fields, IsWhole, Row, Table}
use Rattle.ps_frame.specs.declared.value.DataType.TheVariants as data_type
use Rattle.ps_meaning.specs.Cases.{end_of, rows_table}
use Rattle.ps_meaning.specs.Shape.{PhysicalBefore, PhysicalCase, PhysicalKind, PhysicalNode, as_step, filter_node, select_node, simple_projection, stream_map, streaming_slice, with_row_index}
use Rattle.ps_turns.specs.Claims.{Claim}
use Rattle.ps_turns.specs.Progress.{Progress}
use Rattle.ps_turns.specs.Results.{IsResultOf}
use Rattle.ps_turns.specs.Tables.{whole_tables}
use Rattle.ps_turns.specs.Tasks.{Answer}
use Rattle.ps_turns.specs.Updates.{slice_is_over}
use Rattle.ps_world.specs.Laws.{sent_by}
use Rattle.ps_world.specs.World.{Pipe}
use Rattle.ps_world.specs.Passing.{in_front}

-- what a slice gives of a table that comes behind so many rows
abbrev pub slice_after : (offset n before : ℕ) → Table → Table
slice_after offset n k T =
    record {
      schema = T.schema;
      rows = drop (offset - k) (take (end_of offset n - k) T.rows);
      broken = if nat_eq n 0 || nat_le (end_of offset n - k) (length T.rows) then [] else T.broken;
    }

-- what a node of a kind may give over a table that comes behind so many rows; most don't look at the number
abbrev pub CaseAfter : Functions → PhysicalNode → PhysicalKind → (before : ℕ) → Table → Table → Type 0
CaseAfter F p (with_row_index name offset) k T U = PhysicalCase F (record p { kind = with_row_index name (Some (unwrap_or offset 0 + k)) }) (T ∷ []) U
CaseAfter F p (streaming_slice offset n) k T U = U ≡ slice_after offset n k T
CaseAfter F p kind k T U = PhysicalCase F p (T ∷ []) U

-- the node gives rows b over rows a that come behind so many
abbrev pub GivesAfter : Functions → PhysicalNode → Fields → (before : ℕ) → List Row → List Row → Type 0
GivesAfter F p s k a b = (U : Table) × CaseAfter F p p.kind k (rows_table s a) U × IsWhole U × (U.schema ≡ p.schema) × (U.rows ≡ b)

-- a slice gives nothing more once it has booked all its rows
abbrev pub GivesNoMore : PhysicalKind → (before : ℕ) → Type 0
GivesNoMore (streaming_slice offset n) k = IsTrue (slice_is_over offset n k)
GivesNoMore kind k = ⊥

-- What is proved of every passing node: its tables have its schema, behind no rows its case is the node's own, it has a table over every input, none over no rows, over a front and the rest it has both, and no rows over anything once it is full.
pub record GoesOn (F : Functions) (p : PhysicalNode) (s : Fields) : Type 0 where
  pub schemas : (k : ℕ) (T U : Table) → T.schema ≡ s → CaseAfter F p p.kind k T U → U.schema ≡ p.schema
  pub starts : (T U : Table) → T.schema ≡ s → CaseAfter F p p.kind 0 T U → PhysicalCase F p (T ∷ []) U
  pub total : (k : ℕ) (T : Table) → T.schema ≡ s → (U : Table) × CaseAfter F p p.kind k T U × (U.schema ≡ p.schema)
  pub over_none : (k : ℕ) → GivesAfter F p s k [] []
  pub over_front : (k : ℕ) (a b : List Row) (R V : Table) → R.schema ≡ s → V.schema ≡ p.schema → GivesAfter F p s k a b → CaseAfter F p p.kind (k + length a) R V → CaseAfter F p p.kind k (in_front a R) (in_front b V)
  pub over_full : (k : ℕ) (T : Table) → T.schema ≡ s → GivesNoMore p.kind k → (U : Table) × CaseAfter F p p.kind k T U × IsWhole U × (U.schema ≡ p.schema) × (U.rows ≡ [])

-- The local invariant of a passing node: what was claimed is there, and what was handed in is an answer to it, behind the rows of the morsels before.
module _ (Answers : (before : ℕ) → List Row → List Row → Type 0) where
  abbrev pub PassesAfter : (before : ℕ) → (ins outs : List (Option (List Row))) → Type 0
  PassesAfter k is [] = ⊤
  PassesAfter k [] (o ∷ os) = ⊥
  PassesAfter k (None ∷ is) (o ∷ os) = ⊥
  PassesAfter k (Some a ∷ is) (None ∷ os) = PassesAfter (k + length a) is os
  PassesAfter k (Some a ∷ is) (Some b ∷ os) = Answers k a b × PassesAfter (k + length a) is os

  -- all was handed in: up to the end of an input that is complete, or until the node is full
  abbrev pub EndsAfter : (Full : ℕ → Type 0) → (complete : Bool) → (before : ℕ) → (ins outs : List (Option (List Row))) → Type 0
  EndsAfter Full c k is [] = (IsTrue c × (is ≡ [])) ⊎ Full k
  EndsAfter Full c k [] (o ∷ os) = ⊥
  EndsAfter Full c k (None ∷ is) (o ∷ os) = ⊥
  EndsAfter Full c k (Some a ∷ is) (None ∷ os) = ⊥
  EndsAfter Full c k (Some a ∷ is) (Some b ∷ os) = Answers k a b × EndsAfter Full c (k + length a) is os

pub record HoldsAfter (F : Functions) (p : PhysicalNode) (s : Fields) (from to : Pipe) : Type 0 where
  pub answers : PassesAfter (GivesAfter F p s) 0 from.got to.got
  pub completes : IsTrue (sent_by to).is_complete → EndsAfter (GivesAfter F p s) (GivesNoMore p.kind) (sent_by from).is_complete 0 from.got to.got

-- kinds whose nodes don't look at the rows before
abbrev pub IsPlain : PhysicalKind → Type 0
IsPlain (filter_node e) = ⊤
IsPlain (select_node es extends) = ⊤
IsPlain (simple_projection names) = ⊤
IsPlain (stream_map step) = ⊤
IsPlain kind = ⊥

-- what a node may give over a table that comes behind so many rows, before its slice
abbrev pub BeforeAfter : Functions → PhysicalNode → PhysicalKind → (before : ℕ) → Table → Table → Type 0
BeforeAfter F p (with_row_index name offset) k T U = PhysicalBefore F (record p { kind = with_row_index name (Some (unwrap_or offset 0 + k)) }) (as_step (with_row_index name (Some (unwrap_or offset 0 + k)))) (T ∷ []) U
BeforeAfter F p kind k T U = PhysicalBefore F p (as_step kind) (T ∷ []) U

-- What is proved of the faults of pieces: what breaks the node's case over a part of the rows breaks it over all of them, whatever ends these.
abbrev pub FaultsByPart : Functions → PhysicalNode → Fields → Type 0
FaultsByPart F p s =
    (front a rest : List Row) (causes : List Cause) (U : Table) (c : Cause) → BeforeAfter F p p.kind (length front) (rows_table s a) U → Contains U.broken c
    → (V : Table) × PhysicalBefore F p (as_step p.kind) (record { schema = s; rows = front ++ (a ++ rest); broken = causes } ∷ []) V × Contains V.broken c

-- the kinds of passing nodes
abbrev pub IsPassing : PhysicalKind → Type 0
IsPassing (with_row_index name offset) = ⊤
IsPassing (streaming_slice offset n) = ⊤
IsPassing kind = IsPlain kind

-- those that compute: a slice hands on
abbrev pub Computes : PhysicalKind → Type 0
Computes (with_row_index name offset) = ⊤
Computes kind = IsPlain kind

-- a row index, and a slice that skips one row and takes one
abbrev pub counter : PhysicalNode
counter = record { kind = with_row_index [] None; schema = ([], data_type.IdxSize) ∷ []; origin = 0; inputs = [] }

abbrev pub second_row : PhysicalNode
second_row = record { kind = streaming_slice 1 1; schema = []; origin = 0; inputs = [] }

-- a morsel came under a number, behind the rows of those before
abbrev pub StandsAt : List (Option (List Row)) → (number : ℕ) → (front a : List Row) → Type 0
StandsAt [] k front a = ⊥
StandsAt (None ∷ slots) k front a = ⊥
StandsAt (Some rs ∷ slots) zero front a = (front ≡ []) × (rs ≡ a)
StandsAt (Some rs ∷ slots) (suc k) front a = (more : List Row) × (front ≡ rs ++ more) × StandsAt slots k more a

-- a node gives no more rows than it takes
abbrev pub GivesFewer : Functions → PhysicalNode → Fields → Type 0
GivesFewer F p s = (k : ℕ) (a : List Row) (U : Table) → BeforeAfter F p p.kind k (rows_table s a) U → length U.rows ≤ length a

-- kinds that do: all that compute but a map, whose function may answer a row by many
abbrev pub NeverGrows : PhysicalKind → Type 0
NeverGrows (stream_map step) = ⊥
NeverGrows kind = Computes kind

-- a row index and a slice know how many rows came before
abbrev pub HasBooked : PhysicalKind → Progress → (before : ℕ) → Type 0
HasBooked (with_row_index name offset) progress k = progress.booked ≡ k
HasBooked (streaming_slice offset n) progress k = progress.booked ≡ k
HasBooked kind progress k = ⊤

-- what may be handed in for a claim of an input
abbrev pub MayAnswer : Functions → (input : ℕ) → Claim → Answer → Type 0
MayAnswer F i c a = IsResultOf F c.task i (whole_tables c.schemas c.tables) c.tables a
