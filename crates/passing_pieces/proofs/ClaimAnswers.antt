-- Each claim of a passing node has an answer that may be handed in: a table that the node gives is whole and of few rows, or a cause breaks it, or it has too many.
use Rattle.std.proofs.Common.{◌≡◌, ℕ, ◌+◌, ◌<◌, ◌≤◌, ◌⊎◌, List, [], ◌∷◌, length, true, false, Some, refl, sym, subst, inl, inr}
use Rattle.std.specs.Prelude.{Contains, slice_get, unwrap_or}
use Rattle.std.proofs.lemmas.Bool.{cases_lt}
use Rattle.ps_frame.specs.Aggregates.{max_rows}
use Rattle.ps_frame.specs.Causes.{Cause}
use Rattle.ps_frame.specs.Functions.{Functions}
use Rattle.ps_frame.specs.Tables.{Fields, Row, Table}
use Rattle.ps_meaning.specs.Cases.{cut_by, rows_table}
use Rattle.ps_meaning.specs.Shape.{PhysicalBefore, PhysicalCase, PhysicalKind, PhysicalNode, Shape, as_step, cut_of, filter_node, narrowed, select_node, simple_projection, stream_map, streaming_slice, tables_for, with_row_index}
use Rattle.ps_meaning.specs.Sound.{HasFitParameters, IsFunctionStep, IsSound, input_schemas}
use Rattle.ps_meaning.specs.Steps.{Step, user}
use Rattle.ps_options.specs.declared.options.Options.{Options}
use Rattle.ps_turns.specs.Claims.{Claim, passes, sliced}
use Rattle.ps_turns.specs.Progress.{Progress}
use Rattle.ps_turns.specs.Results.{IsResultOf, rows_fault}
use Rattle.ps_turns.specs.Tasks.{Answer, bad, computes, good}
use Rattle.ps_world.specs.Booking.{GoesOn, IsPassing, MayAnswer}
use Rattle.world_laws.proofs.InOrder.{contains_first}
use Rattle.passing_laws.proofs.SoundPieces.{sound-goes-on}

module _ (F : Functions) where
  -- what may be handed in for the node's case over these tables
  abbrev pub HasAnswer : PhysicalNode → (input : ℕ) → List Table → (tables : List (List Row)) → Type 0
  HasAnswer p i ts tables = (a : Answer) × IsResultOf F (computes p) i ts tables a

  module _ (p : PhysicalNode) (i : ℕ) (ts : List Table) (tables : List (List Row)) (U : Table) (before : PhysicalBefore F p (as_step p.kind) (tables_for F p.kind ts) U) (same : narrowed F p (cut_by (cut_of F (as_step p.kind)) U) ≡ U) where
    of-length : U.broken ≡ [] → (max_rows < length U.rows) ⊎ (length U.rows ≤ max_rows) → HasAnswer p i ts tables
    of-length whole (inl long) = (bad (rows_fault p), (U, before, inr (long, refl)))
    of-length whole (inr few) = (good U.rows, (U, (U, before, sym same), whole, refl, few))

    of-causes : (cs : List Cause) → U.broken ≡ cs → HasAnswer p i ts tables
    of-causes [] e = of-length e (cases_lt max_rows (length U.rows))
    of-causes (c ∷ cs) e = (bad c, (U, before, inl (subst (λ xs. Contains xs c) (sym e) (contains_first c cs))))

    pub case-answer : HasAnswer p i ts tables
    case-answer = of-causes U.broken refl

  module _ (o : Options) (schema : Fields) (origin : ℕ) (inputs : List (ℕ × ℕ)) (s : Fields) where
    abbrev node : PhysicalKind → PhysicalNode
    node kind = record { kind = kind; schema = schema; origin = origin; inputs = inputs }

    abbrev claim : PhysicalKind → Progress → ℕ → List Row → Claim
    claim kind progress k rs = passes o (node kind) (s ∷ []) kind progress k rs

    abbrev Answered : PhysicalKind → Progress → (input number : ℕ) → List Row → Type 0
    Answered kind progress i k rs = (a : Answer) × MayAnswer F i (claim kind progress k rs) a

    over : (kind : PhysicalKind) (i : ℕ) (rs : List Row) → (T : Table) × PhysicalCase F (node kind) (rows_table s rs ∷ []) T × (T.schema ≡ schema)
        → ((V : Table) → narrowed F (node kind) (cut_by (cut_of F (as_step kind)) V) ≡ V) → HasAnswer (node kind) i (rows_table s rs ∷ []) (rs ∷ [])
    over kind i rs (T, (V, before, e), m) same = case-answer (node kind) i (rows_table s rs ∷ []) (rs ∷ []) V before (same V)

    of-map : (step : Step) → IsFunctionStep F step → GoesOn F (node (stream_map step)) s → (progress : Progress) (i k : ℕ) (rs : List Row) → Answered (stream_map step) progress i k rs
    of-map (user n) h law progress i k rs = over (stream_map (user n)) i rs (law.total 0 (rows_table s rs) refl) (λ V. refl)
    of-map step h law progress i k rs = absurd h

    answers : (kind : PhysicalKind) → IsPassing kind → HasFitParameters F kind → GoesOn F (node kind) s → (progress : Progress) (i k : ℕ) (rs : List Row) → Answered kind progress i k rs
    answers (filter_node e) h fit law progress i k rs = over (filter_node e) i rs (law.total 0 (rows_table s rs) refl) (λ V. refl)
    answers (select_node es true) h fit law progress i k rs = over (select_node es true) i rs (law.total 0 (rows_table s rs) refl) (λ V. refl)
    answers (select_node es false) h fit law progress i k rs = over (select_node es false) i rs (law.total 0 (rows_table s rs) refl) (λ V. refl)
    answers (simple_projection ns) h fit law progress i k rs = over (simple_projection ns) i rs (law.total 0 (rows_table s rs) refl) (λ V. refl)
    answers (stream_map step) h fit law progress i k rs = of-map step fit law progress i k rs
    answers (with_row_index name offset) h fit law progress i k rs = over (with_row_index name (Some (unwrap_or offset 0 + progress.booked))) i rs (law.total progress.booked (rows_table s rs) refl) (λ V. refl)
    answers (streaming_slice offset n) h fit law progress i k rs = (good (sliced offset n progress.booked rs), refl)
    answers kind h fit law progress i k rs = absurd h

pub claim-answers : (F : Functions) (o : Options) (shape : Shape) (n : ℕ) (p : PhysicalNode) (s : Fields) → IsSound F shape → slice_get shape n ≡ Some p → IsPassing p.kind → input_schemas shape p ≡ s ∷ []
    → (progress : Progress) (i k : ℕ) (rs : List Row) → (a : Answer) × MayAnswer F i (passes o p (s ∷ []) p.kind progress k rs) a
claim-answers F o shape n p s sound there passing reads progress i k rs =
    answers F o p.schema p.origin p.inputs s p.kind passing (sound.0 n p there).parameters (sound-goes-on F shape n p s sound there passing reads) progress i k rs
