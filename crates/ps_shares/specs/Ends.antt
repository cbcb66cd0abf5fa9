-- What the induction over a call rests on: nodes that are added, names that are read, the end of a call, and the select over it.
use Rattle.std.specs.Prelude.{◌≡◌, ◌≢◌, ◌++◌, ℕ, Bool, false, List, [], ◌∷◌, map, flat_map, length, slice_get, Contains, IsTrue, Option, Some, ⊤}
use Rattle.std.specs.List.{AllByRecursion}
use Rattle.ps_frame.specs.Causes.{Cause, Column, cell_causes}
use Rattle.ps_frame.specs.Eval.{eval}
use Rattle.ps_frame.specs.Frames.{has_distinct_names}
use Rattle.ps_frame.specs.Functions.{Functions}
use Rattle.ps_frame.specs.Tables.{Fields, Table, field_index, field_kind, table_column}
use Rattle.ps_frame.specs.Trees.{Tree}
use Rattle.ps_frame.specs.Typing.{is_elementwise, kind_over}
use Rattle.ps_frame.specs.Zip.{zipped}
use Rattle.ps_frame.specs.declared.value.DataType.{DataType}
use Rattle.ps_frame.specs.declared.value.Value.{Value}
use Rattle.ps_meaning.specs.Cases.{Case, GivesBeforeCut, all_columns, columns_at, table_of}
use Rattle.ps_meaning.specs.Schemas.{fields_of, is_among, names_of}
use Rattle.ps_meaning.specs.Shape.{IsPhysicalChoice, Shape, mild_zip}
use Rattle.ps_meaning.specs.Steps.{Name, Named, exprs_of, select}
use Rattle.ps_meaning.specs.Within.{Within}
use Rattle.ps_rules.specs.Bundles.{one_stream}
use Rattle.ps_shares.specs.Kept.{HasNoOther, IsCauseOver, IsZipWithin, NewCausesAre, all_causes}
use Rattle.ps_shares.specs.Leaves.{AtLeaves, Naming, eval_with, put_back, stands_for}
use Rattle.ps_shares.specs.CallLaws.{AreRead}
use Rattle.ps_shares.specs.Shares.{IsShare, Share, Shows, columns_shown, tables_of}
use Rattle.ps_rules.specs.Slots.{State, Stream, columns_named, schema_at, under}

-- A choice for more nodes is one for the first of them.
abbrev pub ChoicesRestrict : Type 0
ChoicesRestrict = (F : Functions) (nodes more : Shape) (tables : ℕ → Table) → IsPhysicalChoice F (nodes ++ more) tables → IsPhysicalChoice F nodes tables

-- Where nodes were added twice, the causes of all new ones are known if those of both parts are.
abbrev pub NewCausesJoin : Type 0
NewCausesJoin =
    (F : Functions) (a b c : State) (more : Shape) (tables : ℕ → Table) (known : List Cause) → c.nodes ≡ b.nodes ++ more
    → NewCausesAre F a b tables (Contains known) → NewCausesAre F b c tables (Contains known) → NewCausesAre F a c tables (Contains known)

-- each of these columns that is read is the one that its name is known by
abbrev pub AreKnownBy : (Name → Type 0) → Naming → Fields → List Column → Type 0
AreKnownBy Read known [] [] = ⊤
AreKnownBy Read known (f ∷ s) (c ∷ cs) = (Read f.0 → c ≡ known f.0) × AreKnownBy Read known s cs
AreKnownBy Read known _ _ = ⊥

-- Where a name that is read stands in a schema, the column at its place is the one that it is known by, whichever other names stand there.
abbrev pub NamesFound : Type 0
NamesFound =
    (read : Name → Bool) (known : Naming) (s : Fields) (cs : List Column) → AreKnownBy (λ n. IsTrue (read n)) known s cs → (n : Name) → IsTrue (read n) → IsTrue (is_among n (names_of s))
    → (j : ℕ) × (field_index n s ≡ Some j) × (slice_get cs j ≡ Some (known n))

-- and its kind is the one that it is known by
abbrev pub KindsFound : Type 0
KindsFound =
    (read : Name → Bool) (kinds : Name → Option DataType) (s : Fields) → AllByRecursion (λ (f : Name × DataType). IsTrue (read f.0) → Some f.1 ≡ kinds f.0) s
    → (n : Name) → IsTrue (read n) → IsTrue (is_among n (names_of s)) → field_kind n s ≡ kinds n

-- all causes of a column are among these
abbrev pub AllShow : (Cause → Type 0) → Column → Type 0
AllShow Q c = AllByRecursion Q (flat_map cell_causes c.cells) × AllByRecursion Q c.broken × AllByRecursion Q c.lost

-- All causes of what an expression reads are among those of the expression.
abbrev pub LeavesShow : Type 0
LeavesShow = (causes : List Cause) (at : ℕ) (known : Naming) (e : Tree) → IsTrue (is_elementwise e) → AllShow (Contains causes) (eval_with at known e) → AtLeaves (λ n. AllShow (Contains causes) (known n)) e

-- Over any table that shows columns, expressions are within what they are over these, in rows and causes, where the table shows no other causes.
abbrev pub ShownKeep : Type 0
ShownKeep =
    (at : ℕ) (z : Table) (cs : List Column) (known : Naming) (es : List Tree) → AllByRecursion (λ e. IsTrue (is_elementwise e)) es → Shows z cs → AreRead z cs known es
    → HasNoOther z.broken (all_causes (zipped false at (map (eval_with at known) es)))
    → IsZipWithin (zipped false at (columns_at at es z)) (zipped false at (map (eval_with at known) es))

-- What breaks a zip of tables is shown by expressions over the columns that they show, where these show what breaks each table: lengths that can't agree too.
abbrev pub ZipsShowCauses : Type 0
ZipsShowCauses =
    (at : ℕ) (s : Fields) (hs : List Share) (known : Naming) (es : List Tree) → AllByRecursion (λ e. IsTrue (is_elementwise e)) es → AllByRecursion IsShare hs
    → let z = table_of s (λ rows. rows) (mild_zip at (all_columns (tables_of hs))) in
    let shown = all_causes (zipped false at (map (eval_with at known) es)) in
    AreRead z (columns_shown hs) known es → AllByRecursion (λ (h : Share). HasNoOther h.from.broken shown) hs → HasNoOther z.broken shown

-- the fields of tables, one after the other
abbrev pub fields_shown : List Share → Fields
fields_shown hs = flat_map (λ (h : Share). h.from.schema) hs

-- Where each of some streams shows columns, expressions over the one stream that is made of them are within what they are over all these columns: the stream itself, or the zip of all.
abbrev pub StreamsKeep : Type 0
StreamsKeep =
    (F : Functions) (at : ℕ) (input : Stream) (s : State) (ss : List Stream) (hs : List Share) (known : Naming) (es : List Tree) (tables : ℕ → Table)
    → AllByRecursion (λ e. IsTrue (is_elementwise e)) es → AllByRecursion IsShare hs → hs ≢ []
    → tables_of hs ≡ map (λ (i : Stream). tables i.0) ss → flat_map (schema_at s.nodes) ss ≡ fields_shown hs
    → let m = one_stream at input ss s in
    let shown = all_causes (zipped false at (map (eval_with at known) es)) in
    let z = table_of (fields_shown hs) (λ rows. rows) (mild_zip at (all_columns (tables_of hs))) in
    IsPhysicalChoice F m.state.nodes tables → AreRead z (columns_shown hs) known es → AllByRecursion (λ (h : Share). HasNoOther h.from.broken shown) hs
    → IsZipWithin (zipped false at (columns_at at es (tables m.stream.0))) (zipped false at (map (eval_with at known) es))

-- What a select makes is a share: a reduce, an in-memory map of a select, a select of what is independent. The table shows the columns of the expressions, each known by its name.
abbrev pub SelectsShare : Type 0
SelectsShare =
    (F : Functions) (at : ℕ) (read : Name → Bool) (known : Naming) (es : List Named) (fs : Fields) (t T : Table) → es ≢ [] → fields_of es t.schema ≡ Some fs → Case F at (select es) (t ∷ []) T
    → AllByRecursion (λ (m : Named). IsTrue (read m.0) → eval at t m.1 ≡ known m.0) es
    → IsShare (record { from = T; columns = columns_at at (exprs_of es) t }) × (T.schema ≡ fs) × AreKnownBy (λ n. IsTrue (read n)) known fs (columns_at at (exprs_of es) t)

-- The input is a share: it shows its columns, each under its name.
abbrev pub InputsShare : Type 0
InputsShare =
    (at : ℕ) (read : Name → Bool) (known : Naming) (t : Table) → t.schema ≢ [] → IsTrue (has_distinct_names t.schema) → AllByRecursion (λ (row : List Value). length row ≡ length t.schema) t.rows
    → AllByRecursion (λ n. IsTrue (read n) → table_column n t ≡ known n) (names_of t.schema)
    → let cs = columns_at at (columns_named (names_of t.schema)) t in
    IsShare (record { from = t; columns = cs }) × AreKnownBy (λ n. IsTrue (read n)) known t.schema cs

-- Over columns of the kinds of what fresh names stand for, an expression has the kind of what it is with these put back.
abbrev pub KindsGoBack : Type 0
KindsGoBack =
    (given known : Fields) (ms : List Named) (e : Tree) → IsTrue (is_elementwise e) → AtLeaves (λ n. field_kind n given ≡ kind_over known (stands_for ms n)) e
    → kind_over given e ≡ kind_over known (put_back ms e)

-- Where expressions over one table are within others over another, and of the same kinds, a select of those is within a select of these.
abbrev pub SelectsKeep : Type 0
SelectsKeep =
    (F : Functions) (at : ℕ) (ns : List Name) (given known : List Tree) (z t T : Table) → length ns ≡ length given
    → map (kind_over z.schema) given ≡ map (kind_over t.schema) known → IsZipWithin (zipped false at (columns_at at given z)) (zipped false at (columns_at at known t))
    → Case F at (select (under ns given)) (z ∷ []) T → (L : Table) × Case F at (select (under ns known)) (t ∷ []) L × Within T L

-- and no other causes
abbrev pub SelectsKeepCauses : Type 0
SelectsKeepCauses =
    (F : Functions) (at : ℕ) (ns : List Name) (given known : List Tree) (z t U : Table) (c : Cause) → length ns ≡ length given → length ns ≡ length known
    → HasNoOther (all_causes (zipped false at (columns_at at given z))) (all_causes (zipped false at (columns_at at known t)))
    → GivesBeforeCut F at (select (under ns given)) (z ∷ []) U → Contains U.broken c → IsCauseOver F at (select (under ns known)) t c
