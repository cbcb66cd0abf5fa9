-- A fault that a piece of a passing node hands in breaks the node, whatever its input turns out to mean, or the input has too many rows.
use Rattle.std.proofs.Common.{◌≡◌, ℕ, ◌<◌, ◌⊎◌, true, false, List, [], ◌∷◌, length, Some, refl, sym, subst, ◌∙◌, inl, inr}
use Rattle.std.specs.Prelude.{Contains, slice_get}
use Rattle.ps_frame.specs.Aggregates.{max_rows}
use Rattle.ps_frame.specs.Causes.{Cause}
use Rattle.ps_frame.specs.Functions.{Functions}
use Rattle.ps_frame.specs.Tables.{Fields, Row, Table}
use Rattle.ps_meaning.specs.Shape.{PhysicalKind, PhysicalNode, Shape, filter_node, select_node, simple_projection, stream_map, with_row_index}
use Rattle.ps_meaning.specs.Sound.{IsSound, input_schemas}
use Rattle.ps_options.specs.declared.options.Options.{Options}
use Rattle.ps_turns.specs.Claims.{passes}
use Rattle.ps_turns.specs.Progress.{Progress}
use Rattle.ps_turns.specs.Results.{IsResult, rows_fault}
use Rattle.ps_turns.specs.Tables.{whole_tables}
use Rattle.ps_meaning.specs.Cases.{rows_table}
use Rattle.ps_turns.specs.Tasks.{Piece, bad}
use Rattle.ps_world.specs.Booking.{BeforeAfter, Computes, FaultsByPart, HasBooked, IsPassing, MayAnswer, NeverGrows}
use Rattle.ps_world.specs.Laws.{Faults, Overflows, sent_by}
use Rattle.ps_world.specs.Opening.{Reaches, opening}
use Rattle.ps_world.specs.World.{Pipe, World, shape_of}
use Rattle.world_facts.proofs.ClaimedOnce.{replay_shape}
use Rattle.fault_origins.proofs.Results.{all_whole, of_result}
use Rattle.fault_origins.proofs.Tasks.{TaskOf}
use Rattle.passing_pieces.proofs.LargeAnswers.{AreLawfulFor, IsLargeByPart, sound-large}
use Rattle.passing_laws.proofs.PieceFaults.{piece-faults}
use Rattle.passing_laws.proofs.SoundPieces.{sound-goes-on, sound-part-faults}
use Rattle.passing_runs.proofs.Kept.{PieceStands}
use Rattle.passing_runs.proofs.Reached.{fresh_shape, node_at, reached_passing}

pub short_computes : (kind : PhysicalKind) → NeverGrows kind → Computes kind
short_computes (filter_node e) h = tt
short_computes (select_node es extends) h = tt
short_computes (simple_projection ns) h = tt
short_computes (with_row_index name offset) h = tt
short_computes kind h = absurd h

pub short_lawful : (F : Functions) (kind : PhysicalKind) → NeverGrows kind → AreLawfulFor F kind
short_lawful F (filter_node e) h = tt
short_lawful F (select_node es extends) h = tt
short_lawful F (simple_projection ns) h = tt
short_lawful F (with_row_index name offset) h = tt
short_lawful F kind h = absurd h

pub computes_passes : (kind : PhysicalKind) → Computes kind → IsPassing kind
computes_passes (filter_node e) h = tt
computes_passes (select_node es extends) h = tt
computes_passes (simple_projection ns) h = tt
computes_passes (stream_map step) h = tt
computes_passes (with_row_index name offset) h = tt
computes_passes kind h = absurd h

task_of : (o : Options) (p : PhysicalNode) (s : Fields) (kind : PhysicalKind) (a : Progress) (k : ℕ) (rs : List Row) → Computes kind → TaskOf p.origin (passes o p (s ∷ []) kind a k rs).task
task_of o p s (filter_node e) a k rs h = refl
task_of o p s (select_node es extends) a k rs h = refl
task_of o p s (simple_projection ns) a k rs h = refl
task_of o p s (stream_map step) a k rs h = refl
task_of o p s (with_row_index name offset) a k rs h = refl
task_of o p s kind a k rs h = absurd h

module _ (F : Functions) where
  -- a cause is one of the node's table over the piece, or says that it has too many rows
  abbrev Breaks : PhysicalNode → Fields → (before : ℕ) → List Row → Cause → Type 0
  Breaks p s k rs c = (U : Table) × BeforeAfter F p p.kind k (rows_table s rs) U × (Contains U.broken c ⊎ (max_rows < length U.rows) × (c ≡ rows_fault p))

  module _ (o : Options) (schema : Fields) (origin : ℕ) (inputs : List (ℕ × ℕ)) (s : Fields) where
    abbrev node : PhysicalKind → PhysicalNode
    node kind = record { kind = kind; schema = schema; origin = origin; inputs = inputs }

    breaks : (kind : PhysicalKind) → Computes kind → (a : Progress) (before : ℕ) → HasBooked kind a before → (i k : ℕ) (rs : List Row) (c : Cause) → MayAnswer F i (passes o (node kind) (s ∷ []) kind a k rs) (bad c) → Breaks (node kind) s before rs c
    breaks (filter_node e) h a before booked i k rs c r = r
    breaks (select_node es true) h a before booked i k rs c r = r
    breaks (select_node es false) h a before booked i k rs c r = r
    breaks (simple_projection ns) h a before booked i k rs c r = r
    breaks (stream_map step) h a before booked i k rs c r = r
    breaks (with_row_index name offset) h a before booked i k rs c r = subst (λ m. Breaks (node (with_row_index name offset)) s m rs c) booked r
    breaks kind h a before booked i k rs c r = absurd h

  of_piece : (p : PhysicalNode) (s : Fields) (n : ℕ) → Computes p.kind → FaultsByPart F p s → (from : Pipe) → IsLargeByPart F p s from → (q : Piece) (c : Cause) → PieceStands p s n from q → IsResult F q (bad c) → Faults F p (s ∷ []) (sent_by from ∷ []) c ⊎ Overflows F p (s ∷ []) (sent_by from ∷ []) c
  of_piece p s n computes by_part from large q c h result = by found.2
    where
      result_of : MayAnswer F h.input (passes h.options p (s ∷ []) p.kind h.progress q.gives h.rows) (bad c)
      result_of = subst (λ z. IsResult F z (bad c)) h.claimed result

      found : Breaks p s (length h.front) h.rows c
      found = breaks h.options p.schema p.origin p.inputs s p.kind computes h.progress (length h.front) h.booked h.input q.gives h.rows c result_of

      mine : c.node ≡ p.origin
      mine =
          let x = passes h.options p (s ∷ []) p.kind h.progress q.gives h.rows in
          of_result F p.origin x.task h.input (whole_tables x.schemas x.tables) x.tables (all_whole x.schemas x.tables) c (task_of h.options p s p.kind h.progress q.gives h.rows computes) result_of

      by : Contains found.0.broken c ⊎ (max_rows < length found.0.rows) × (c ≡ rows_fault p) → Faults F p (s ∷ []) (sent_by from ∷ []) c ⊎ Overflows F p (s ∷ []) (sent_by from ∷ []) c
      by (inl among) = inl (mine, piece-faults F p s computes by_part from q.gives h.front h.rows h.stands found.0 c found.1 among)
      by (inr long) = inr (long.1, large q.gives h.front h.rows h.stands found.0 found.1 long.0)

-- In a reached world each piece of such a node stands for rows that came.
module _ (F : Functions) (shape : Shape) (n : ℕ) (p : PhysicalNode) (s : Fields) (sound : IsSound F shape) (there : slice_get shape n ≡ Some p) (computes : Computes p.kind) (reads : input_schemas shape p ≡ s ∷ []) (laws : AreLawfulFor F p.kind) (o : Options) (w : World) (r : Reaches F shape o w) where
  passing : IsPassing p.kind
  passing = computes_passes p.kind computes

  pub reached_faults : (from to : Pipe) → Contains w.pipes from → from.wire.receiver ≡ n → Contains w.pipes to → to.wire.sender ≡ n
      → (q : Piece) → Contains w.outs q → q.node ≡ n → (c : Cause) → IsResult F q (bad c) → Faults F p (s ∷ []) (sent_by from ∷ []) c ⊎ Overflows F p (s ∷ []) (sent_by from ∷ []) c
  reached_faults from to cf rf ct st q cq qn c result =
      let shown : slice_get (shape_of w) n ≡ Some p = subst (λ x. slice_get x n ≡ Some p) (sym (replay_shape F (opening shape o) w r.0 r.1 ∙ fresh_shape shape)) there in
      let at = node_at w.nodes n p shown in
      let all = reached_passing F shape n p s there passing reads (sound-goes-on F shape n p s sound there passing reads) o w sound r in
      of_piece F p s n computes (sound-part-faults F shape n p s sound there computes reads) from (sound-large F shape n p s sound there computes laws reads from) q c ((all at.0 from to at.1 cf rf ct st).pieces q cq qn) result
