-- What the pieces of streaming nodes are: rows that are handed on, the table of a select without input, and a morsel over which the node's case is computed.
use Rattle.std.proofs.Common.{◌≡◌, ℕ, ◌⊎◌, List, [], ◌∷◌, length, take, Some, refl, sym, ap, subst, ◌∙◌, inl, inr}
use Rattle.std.specs.Prelude.{Contains, slice_get}
use Rattle.ps_frame.specs.Functions.{Functions}
use Rattle.ps_frame.specs.Tables.{Row}
use Rattle.ps_meaning.specs.Shape.{PhysicalKind, Shape, filter_node, in_memory_sink, in_memory_source, independent_select, ordered_union, select_node, simple_projection, stream_map, streaming_slice, with_row_index}
use Rattle.ps_meaning.specs.Sound.{HasReaders, IsSound}
use Rattle.ps_meaning.specs.Steps.{Named}
use Rattle.ps_options.specs.declared.options.Options.{Options}
use Rattle.ps_turns.specs.Claims.{passes, sliced}
use Rattle.ps_turns.specs.Cuts.{cut_of_source}
use Rattle.ps_turns.specs.Tasks.{Piece, computes, hands_on}
use Rattle.ps_world.specs.Booking.{Computes, IsPassing}
use Rattle.ps_world.specs.Opening.{Reaches}
use Rattle.ps_world.specs.Updates.{given_at}
use Rattle.ps_world.specs.World.{Node, Pipe, World, rows_in_order, schemas_for}
use Rattle.world_claims.specs.Numbering.{Known}
use Rattle.world_facts.proofs.Placing.{has_readers}
use Rattle.world_laws.proofs.Answered.{in_shape}
use Rattle.world_families.specs.Holds.{HoldsAt, HoldsOfKind}
use Rattle.world_families.specs.Kinds.{IsStreaming}
use Rattle.world_families.specs.Onward.{IsMorselWork}
use Rattle.world_families.specs.Sources.{HoldsSelect, HoldsSource, KeepsNone}
use Rattle.world_families.specs.Unions.{HoldsUnion}
use Rattle.world_families.specs.Work.{Gives, Work, asked_by, work_of}
use Rattle.passing_fronts.proofs.PassingKinds.{of_kind}
use Rattle.orderly_worlds.proofs.Says.{reader_pipe}
use Rattle.family_keeps.proofs.Holding.{keeps_reached}
use Rattle.family_keeps.proofs.Served.{node_holds}
use Rattle.streaming_ports.proofs.OnePort.{some_state}
use Rattle.streaming_pieces.proofs.SinkPieces.{IsSink, NoPiece, sink_pieces}

-- rows to be handed on, and the work of a select without input
abbrev pub IsHandedOn : Piece → List Row → Type 0
IsHandedOn q rs = (q.task ≡ hands_on) × (q.tables ≡ rs ∷ [])

abbrev pub IsSelected : Node → Piece → Type 0
IsSelected node q = work_of q ≡ record { task = computes node.node; schemas = []; tables = [] }

pub data StreamingPiece (node : Node) (q : Piece) : Type 0 where
  hands_rows : (rs : List Row) → IsHandedOn q rs → StreamingPiece node q
  selects_once : (es : List Named) → node.node.kind ≡ independent_select es → IsSelected node q → StreamingPiece node q
  computes_morsel : IsPassing node.node.kind → Computes node.node.kind → StreamingPiece node q

computes_or_slices : (kind : PhysicalKind) → IsPassing kind → (Computes kind) ⊎ ((offset n : ℕ) × (kind ≡ streaming_slice offset n))
computes_or_slices (streaming_slice offset n) h = inr (offset, n, refl)
computes_or_slices (with_row_index name offset) h = inl tt
computes_or_slices (filter_node x) h = inl tt
computes_or_slices (select_node es extends) h = inl tt
computes_or_slices (simple_projection names) h = inl tt
computes_or_slices (stream_map step) h = inl tt
computes_or_slices kind h = absurd h

module _ (F : Functions) (shape : Shape) (o : Options) (w : World) (sound : IsSound F shape) (r : Reaches F shape o w) (n : ℕ) (node : Node) (there : slice_get w.nodes n ≡ Some node) (is : IsStreaming node.node.kind) (q : Piece) (cq : Contains w.outs q) (at : q.node ≡ n) where
  holds : HoldsAt F w n node
  holds = node_holds F shape o w sound r n node.node (in_shape w n node there) is node there

  of_work : (x : Work) (rs : List Row) → work_of q ≡ x → x.task ≡ hands_on → x.tables ≡ rs ∷ [] → StreamingPiece node q
  of_work x rs e t ts = hands_rows rs (ap (λ (y : Work). y.task) e ∙ t, ap (λ (y : Work). y.tables) e ∙ ts)

  -- the work of a slice is to hand on what it keeps of a morsel
  of_slice : (offset m : ℕ) → node.node.kind ≡ streaming_slice offset m → IsMorselWork w n node q → StreamingPiece node q
  of_slice offset m k (z, rs, enters, stands, work) =
      let before = length (rows_in_order (take q.gives z.got)) in
      of_work (asked_by (passes w.options node.node (schemas_for w node) (streaming_slice offset m) (record node.progress { booked = before }) q.gives rs)) (sliced offset m before rs)
      (work ∙ ap (λ kind. asked_by (passes w.options node.node (schemas_for w node) kind (record node.progress { booked = before }) q.gives rs)) k) refl refl

  given : {W : ℕ → Work → Type 0} {A : Type 0} → Gives F w n W KeepsNone A → W q.gives (work_of q)
  given g = of (g.pieces q cq at)
    where
      of : {B : Type 0} → B ⊎ KeepsNone q → B
      of (inl b) = b
      of (inr none) = absurd none

  of_passing : IsPassing node.node.kind → Computes node.node.kind ⊎ ((offset m : ℕ) × (node.node.kind ≡ streaming_slice offset m)) → StreamingPiece node q
  of_passing passing (inl computing) = computes_morsel passing computing
  of_passing passing (inr (offset, m, k)) = of_slice offset m k ((of_kind F w n node node.node.kind passing holds.own).pieces q cq at)

  pub streaming_piece : StreamingPiece node q
  streaming_piece = by node.node.kind refl is
    where
      by : (kind : PhysicalKind) → node.node.kind ≡ kind → IsStreaming kind → StreamingPiece node q
      by (in_memory_source t) k h = let g : HoldsSource F w n node t.rows = subst (HoldsOfKind F w n node) k holds.own in let x = given g in of_work (work_of q) (cut_of_source w.options t.rows q.gives) refl (ap (λ (y : Work). y.task) x) (ap (λ (y : Work). y.tables) x)
      by (independent_select es) k h = let g : HoldsSelect F w n node = subst (HoldsOfKind F w n node) k holds.own in let x = given g in selects_once es k x.1
      by in_memory_sink k h = absurd ((keeps_reached F n IsSink (NoPiece n) (sink_pieces F n) shape o w sound r node there k).own q cq at)
      by ordered_union k h = let u : HoldsUnion F w n node = subst (HoldsOfKind F w n node) k holds.own in let x = given u.gives in of_work (work_of q) x.0 refl (ap (λ (y : Work). y.task) x.2) (ap (λ (y : Work). y.tables) x.2)
      by kind k h = let passing = subst IsPassing (sym k) h in of_passing passing (computes_or_slices node.node.kind passing)

-- the pipe into which a passing node gives
one_reader : (kind : PhysicalKind) (k : ℕ) → IsPassing kind → HasReaders kind k → k ≡ 1
one_reader (streaming_slice offset m) k h e = e
one_reader (with_row_index name offset) k h e = e
one_reader (filter_node x) k h e = e
one_reader (select_node es extends) k h e = e
one_reader (simple_projection names) k h e = e
one_reader (stream_map step) k h e = e
one_reader kind k h e = absurd h

pub output : (F : Functions) (w : World) (n : ℕ) (node : Node) → Known F w → slice_get w.nodes n ≡ Some node → IsPassing node.node.kind → (z : Pipe) × Contains w.pipes z × (z.wire.sender ≡ n)
output F w n node known there passing =
    let s = some_state (given_at w n).outputs (one_reader node.node.kind (length (given_at w n).outputs) passing (has_readers F w known.facts n node there)) in
    let z = reader_pipe w n 0 s.0 s.1 in
    (z.0, z.1, z.2)
