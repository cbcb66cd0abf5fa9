-- The laws of the tool's functions.
use Rattle.std.proofs.Common.{◌≡◌, ◌==◌, ℕ, List, [], ◌∷◌, ◌++◌, Bool, true, false, refl, sym, ◌∙◌, ap, subst, IsTrue}
use Rattle.std.specs.List.{AllByRecursion}
use Rattle.std.specs.Prelude.{map, reverse, if◌then◌else◌, Some, IsSome, IsSomeAnd}
use Rattle.std.proofs.lemmas.Bool.{false≢true}
use Rattle.std.proofs.lemmas.List.{map-append, reverse-append}
use Rattle.std.proofs.lemmas.Option.{same_Some}
use Rattle.ps_frame.specs.Lawful.{FitsFrame, FitsKinds, empty_frame, stacked, stacked_answers}
use Rattle.ps_frame.specs.Frames.{kinds_of}
use Rattle.ps_frame.specs.Tables.{Fields, Frame}
use Rattle.ps_frame.specs.Values.{fits_kind}
use Rattle.ps_frame.specs.declared.value.DataType.{DataType}
use Rattle.ps_frame.specs.declared.value.DataType.TheVariants as kind
use Rattle.ps_frame.specs.declared.value.Value.{Value}
use Rattle.ps_frame.specs.declared.value.Value.TheVariants as val
use Rattle.tool_ends.specs.ToolAnswers.{negated, negated_value, reversed, tool_answer}

-- an answer has the schema of what was given
schema-kept : (b : Bool) (f : Frame) → (if b then negated f else reversed f).schema ≡ f.schema
schema-kept true f = refl
schema-kept false f = refl

pub answers_keep_schema : (n : ℕ) (f g : Frame) → Some (tool_answer n f) ≡ Some g → Some f.schema ≡ Some g.schema
answers_keep_schema n f g e = ap (λ (s : Fields). Some s) (sym (schema-kept (n == 0) f) ∙ ap (λ (h : Frame). h.schema) (same_Some (tool_answer n f) g e))

-- no rows come of none
rows-none : (b : Bool) (s : Fields) → (if b then negated (empty_frame s) else reversed (empty_frame s)).rows ≡ []
rows-none true s = refl
rows-none false s = refl

pub empty_streams : (n : ℕ) (s : Fields) → (n == 0) ≡ true → IsSome (Some s) → IsSomeAnd (Some (tool_answer n (empty_frame s))) (λ g. g.rows ≡ [])
empty_streams n s e h = rows-none (n == 0) s

-- negated parts
parts-negated : (b : Bool) (f g : Frame) → b ≡ true → (if b then negated (stacked f g) else reversed (stacked f g)) ≡ stacked (if b then negated f else reversed f) (if b then negated g else reversed g)
parts-negated true f g e = ap (λ (rows : List (List Value)). let h : Frame = record { schema = f.schema; rows = rows } in h) (map-append (map negated_value) f.rows g.rows)
parts-negated false f g e = absurd (false≢true e)

pub parts_stream : (n : ℕ) (f g : Frame) → (n == 0) ≡ true → f.schema ≡ g.schema → Some (tool_answer n (stacked f g)) ≡ stacked_answers (Some (tool_answer n f)) (Some (tool_answer n g))
parts_stream n f g e s = ap (λ (h : Frame). Some h) (parts-negated (n == 0) f g e)

-- negated values fit where the values do
fits_negated : (k : DataType) (v : Value) → IsTrue (fits_kind k v) → IsTrue (fits_kind k (negated_value v))
fits_negated k val.Null h = h
fits_negated k (val.Boolean b) h = h
fits_negated kind.Boolean (val.Int64 z) h = h
fits_negated kind.Int64 (val.Int64 z) h = h
fits_negated kind.IdxSize (val.Int64 z) h = h
fits_negated kind.String (val.Int64 z) h = h
fits_negated k (val.IdxSize n) h = h
fits_negated k (val.String s) h = h

row_fits : (ks : List DataType) (row : List Value) → FitsKinds ks row → FitsKinds ks (map negated_value row)
row_fits [] [] h = tt
row_fits [] (v ∷ vs) h = h
row_fits (k ∷ ks) [] h = h
row_fits (k ∷ ks) (v ∷ vs) h = (fits_negated k v h.0, row_fits ks vs h.1)

rows_fit : (ks : List DataType) (rows : List (List Value)) → AllByRecursion (FitsKinds ks) rows → AllByRecursion (FitsKinds ks) (map (map negated_value) rows)
rows_fit ks [] h = tt
rows_fit ks (row ∷ rows) h = (row_fits ks row h.0, rows_fit ks rows h.1)

-- what holds of each item holds of each in reverse
all-append : {A : Type 0} (P : A → Type 0) (xs ys : List A) → AllByRecursion P xs → AllByRecursion P ys → AllByRecursion P (xs ++ ys)
all-append P [] ys h k = k
all-append P (x ∷ xs) ys h k = (h.0, all-append P xs ys h.1 k)

all-reverse : {A : Type 0} (P : A → Type 0) (xs : List A) → AllByRecursion P xs → AllByRecursion P (reverse xs)
all-reverse P [] h = tt
all-reverse P (x ∷ xs) h = subst (λ ys. AllByRecursion P ys) (sym (reverse-append (x ∷ []) xs)) (all-append P (reverse xs) (x ∷ []) (all-reverse P xs h.1) (h.0, tt))

answer_fits : (b : Bool) (f : Frame) → FitsFrame f → FitsFrame (if b then negated f else reversed f)
answer_fits true f h = rows_fit (kinds_of f.schema) f.rows h
answer_fits false f h = all-reverse (FitsKinds (kinds_of f.schema)) f.rows h

-- an answer has a value for each field where the table has
pub answers_keep_rows : (n : ℕ) (f g : Frame) → FitsFrame f → Some (tool_answer n f) ≡ Some g → FitsFrame g
answers_keep_rows n f g h e = subst (λ (t : Frame). FitsFrame t) (same_Some (tool_answer n f) g e) (answer_fits (n == 0) f h)
