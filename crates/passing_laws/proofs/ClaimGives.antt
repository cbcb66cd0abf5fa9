-- What may be handed in for a passing node's claim is what the node gives behind the rows that it booked before.
use Rattle.std.proofs.Common.{◌≡◌, ℕ, ◌-◌, ◌<◌, ◌≤◌, ◌⊎◌, Bool, true, false, List, [], ◌∷◌, length, inl, inr, refl, subst}
use Rattle.std.specs.Prelude.{◌||◌, Contains, Some, cond, nat_eq, nat_le, slice_get}
use Rattle.ps_frame.specs.Aggregates.{max_rows}
use Rattle.ps_frame.specs.Causes.{Cause}
use Rattle.ps_frame.specs.Functions.{Functions}
use Rattle.ps_frame.specs.Tables.{Fields, Row, Table}
use Rattle.ps_meaning.specs.Cases.{end_of, rows_table}
use Rattle.ps_meaning.specs.Shape.{PhysicalKind, PhysicalNode, Shape, equi_join, filter_node, group_by_node, in_memory_join, in_memory_map, in_memory_sink, in_memory_source, independent_select, multiplexer, negative_slice, ordered_union, reduce, select_node, simple_projection, stream_map, streaming_slice, with_row_index, zip_node}
use Rattle.ps_meaning.specs.Sound.{IsSound, input_schemas}
use Rattle.ps_turns.specs.Claims.{Claim, passes, sliced}
use Rattle.ps_turns.specs.Progress.{Progress}
use Rattle.ps_turns.specs.Results.{rows_fault}
use Rattle.ps_turns.specs.Tasks.{bad, good}
use Rattle.ps_options.specs.declared.options.Options.{Options}
use Rattle.ps_world.specs.Booking.{BeforeAfter, CaseAfter, Computes, GivesAfter, GoesOn, HasBooked, IsPassing, NeverGrows, MayAnswer, StandsAt, slice_after}
use Rattle.ps_world.specs.Laws.{BreaksWhatever, IsLargeWhatever, sent_by}
use Rattle.ps_world.specs.World.{Pipe}
use Rattle.passing_laws.proofs.PieceFaults.{piece-faults, piece-overflows}
use Rattle.passing_laws.proofs.SoundPieces.{sound-fewer, sound-part-faults}

none-broken : (b : Bool) → cond {A = List Cause} b [] [] ≡ []
none-broken true = refl
none-broken false = refl

module _ (F : Functions) (o : Options) (schema : Fields) (origin : ℕ) (inputs : List (ℕ × ℕ)) (s : Fields) where
  abbrev node : PhysicalKind → PhysicalNode
  node kind = record { kind = kind; schema = schema; origin = origin; inputs = inputs }

  abbrev claim : PhysicalKind → Progress → ℕ → List Row → Claim
  claim kind progress k rs = passes o (node kind) (s ∷ []) kind progress k rs

  -- where the node's case is computed
  computed : (p : PhysicalNode) → GoesOn F p s → (k : ℕ) (rs b : List Row) → ((T : Table) × CaseAfter F p p.kind k (rows_table s rs) T × (T.broken ≡ []) × (T.rows ≡ b) × (length b ≤ max_rows)) → GivesAfter F p s k rs b
  computed p law k rs b (T, c, w, q, m) = (T, c, w, law.schemas k (rows_table s rs) T refl c, q)

  good-gives : (kind : PhysicalKind) → IsPassing kind → GoesOn F (node kind) s → (progress : Progress) (before : ℕ) → HasBooked kind progress before → (i k : ℕ) (rs b : List Row) → MayAnswer F i (claim kind progress k rs) (good b) → GivesAfter F (node kind) s before rs b
  good-gives (filter_node e) h law progress before booked i k rs b r = computed (node (filter_node e)) law before rs b r
  good-gives (select_node es true) h law progress before booked i k rs b r = computed (node (select_node es true)) law before rs b r
  good-gives (select_node es false) h law progress before booked i k rs b r = computed (node (select_node es false)) law before rs b r
  good-gives (simple_projection ns) h law progress before booked i k rs b r = computed (node (simple_projection ns)) law before rs b r
  good-gives (stream_map step) h law progress before booked i k rs b r = computed (node (stream_map step)) law before rs b r
  good-gives (with_row_index name offset) h law progress before booked i k rs b r = subst (λ m. GivesAfter F (node (with_row_index name offset)) s m rs b) booked (computed (node (with_row_index name offset)) law progress.booked rs b r)
  good-gives (streaming_slice offset n) h law progress before booked i k rs b r =
      let U = slice_after offset n progress.booked (rows_table s rs) in
      let q : sliced offset n progress.booked rs ≡ b = (let e : sliced offset n progress.booked rs ∷ [] ≡ b ∷ [] = r in cc) in
      subst (λ m. GivesAfter F (node (streaming_slice offset n)) s m rs b) booked (U, refl, none-broken (nat_eq n 0 || nat_le (end_of offset n - progress.booked) (length rs)), law.schemas progress.booked (rows_table s rs) U refl refl, q)
  good-gives (in_memory_source t) h law progress before booked i k rs b r = absurd h
  good-gives (negative_slice back n) h law progress before booked i k rs b r = absurd h
  good-gives (independent_select es) h law progress before booked i k rs b r = absurd h
  good-gives (reduce es) h law progress before booked i k rs b r = absurd h
  good-gives in_memory_sink h law progress before booked i k rs b r = absurd h
  good-gives (in_memory_map step) h law progress before booked i k rs b r = absurd h
  good-gives ordered_union h law progress before booked i k rs b r = absurd h
  good-gives (zip_node extend) h law progress before booked i k rs b r = absurd h
  good-gives multiplexer h law progress before booked i k rs b r = absurd h
  good-gives (group_by_node keys aggregates) h law progress before booked i k rs b r = absurd h
  good-gives (equi_join j) h law progress before booked i k rs b r = absurd h
  good-gives (in_memory_join j) h law progress before booked i k rs b r = absurd h

  -- a cause is one of the node's table over the piece, or that has too many rows
  abbrev Breaks : PhysicalNode → (before : ℕ) → List Row → Cause → Type 0
  Breaks p k rs c = (U : Table) × BeforeAfter F p p.kind k (rows_table s rs) U × (Contains U.broken c ⊎ (max_rows < length U.rows) × (c ≡ rows_fault p))

  bad-breaks : (kind : PhysicalKind) → NeverGrows kind → (progress : Progress) (before : ℕ) → HasBooked kind progress before → (i k : ℕ) (rs : List Row) (c : Cause) → MayAnswer F i (claim kind progress k rs) (bad c) → Computes kind × Breaks (node kind) before rs c
  bad-breaks (filter_node e) h progress before booked i k rs c r = (tt, r)
  bad-breaks (select_node es true) h progress before booked i k rs c r = (tt, r)
  bad-breaks (select_node es false) h progress before booked i k rs c r = (tt, r)
  bad-breaks (simple_projection ns) h progress before booked i k rs c r = (tt, r)
  bad-breaks (stream_map step) h progress before booked i k rs c r = absurd h
  bad-breaks (with_row_index name offset) h progress before booked i k rs c r = (tt, subst (λ m. Breaks (node (with_row_index name offset)) m rs c) booked r)
  bad-breaks (streaming_slice offset n) h progress before booked i k rs c r = absurd r
  bad-breaks (negative_slice back n) h progress before booked i k rs c r = absurd h
  bad-breaks (in_memory_source t) h progress before booked i k rs c r = absurd h
  bad-breaks (independent_select es) h progress before booked i k rs c r = absurd h
  bad-breaks (reduce es) h progress before booked i k rs c r = absurd h
  bad-breaks in_memory_sink h progress before booked i k rs c r = absurd h
  bad-breaks (in_memory_map step) h progress before booked i k rs c r = absurd h
  bad-breaks ordered_union h progress before booked i k rs c r = absurd h
  bad-breaks (zip_node extend) h progress before booked i k rs c r = absurd h
  bad-breaks multiplexer h progress before booked i k rs c r = absurd h
  bad-breaks (group_by_node keys aggregates) h progress before booked i k rs c r = absurd h
  bad-breaks (equi_join j) h progress before booked i k rs c r = absurd h
  bad-breaks (in_memory_join j) h progress before booked i k rs c r = absurd h

pub claim-gives : (F : Functions) (o : Options) (p : PhysicalNode) (s : Fields) → IsPassing p.kind → GoesOn F p s → (progress : Progress) (before : ℕ) → HasBooked p.kind progress before → (i k : ℕ) (rs b : List Row)
    → MayAnswer F i (passes o p (s ∷ []) p.kind progress k rs) (good b) → GivesAfter F p s before rs b
claim-gives F o p s h law progress before booked i k rs b r = good-gives F o p.schema p.origin p.inputs s p.kind h law progress before booked i k rs b r

pub claim-breaks : (F : Functions) (o : Options) (shape : Shape) (n : ℕ) (p : PhysicalNode) (s : Fields) → IsSound F shape → slice_get shape n ≡ Some p → NeverGrows p.kind → input_schemas shape p ≡ s ∷ []
    → (from : Pipe) (progress : Progress) (i k : ℕ) (front a : List Row) (c : Cause) → StandsAt from.got k front a → HasBooked p.kind progress (length front) → MayAnswer F i (passes o p (s ∷ []) p.kind progress k a) (bad c)
    → BreaksWhatever F p (s ∷ []) (sent_by from ∷ []) c ⊎ IsLargeWhatever F p (s ∷ []) (sent_by from ∷ [])
claim-breaks F o shape n p s sound there short reads from progress i k front a c stands booked r = by (bad-breaks F o p.schema p.origin p.inputs s p.kind short progress (length front) booked i k a c r)
  where
    by : Computes p.kind × Breaks F o p.schema p.origin p.inputs s p (length front) a c → BreaksWhatever F p (s ∷ []) (sent_by from ∷ []) c ⊎ IsLargeWhatever F p (s ∷ []) (sent_by from ∷ [])
    by (computes, (U, before, inl among)) = inl (piece-faults F p s computes (sound-part-faults F shape n p s sound there computes reads) from k front a stands U c before among)
    by (computes, (U, before, inr too_many)) = inr (piece-overflows F p s (sound-fewer F shape n p s sound there short reads) from k front a stands U before too_many.0)
