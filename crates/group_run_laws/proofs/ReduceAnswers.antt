-- The pieces of a reduce: what may be handed in for each, and that a cause handed in breaks the reduce.
use Rattle.std.proofs.Common.{◌≡◌, ℕ, ◌⊎◌, List, [], ◌∷◌, Some, sym, ap, subst, inl, inr}
use Rattle.std.specs.Prelude.{Contains, slice_get}
use Rattle.ps_frame.specs.Causes.{Cause}
use Rattle.ps_frame.specs.Functions.{Functions}
use Rattle.ps_frame.specs.Tables.{Row, Table}
use Rattle.ps_meaning.specs.Shape.{PhysicalKind, Shape, reduce}
use Rattle.ps_meaning.specs.Sound.{IsSound}
use Rattle.ps_meaning.specs.Steps.{Named}
use Rattle.ps_options.specs.declared.options.Options.{Options}
use Rattle.ps_turns.specs.Results.{BreaksPartial, IsBrokenOver, IsPartial, IsResult, IsResultOf}
use Rattle.ps_turns.specs.Tables.{whole_tables}
use Rattle.ps_turns.specs.Tasks.{Answer, Piece, bad, computes, good, keeps, partial}
use Rattle.ps_world.specs.Laws.{MakesFault, sent_by}
use Rattle.ps_world.specs.Opening.{Reaches}
use Rattle.ps_world.specs.World.{Node, Record, World, schemas_for, shape_of}
use Rattle.world_families.specs.Keepers.{IsKeptOf, schema_of_input}
use Rattle.world_families.specs.Work.{Work, rows_received, work_of}
use Rattle.orderly_worlds.proofs.Orderly.{Orderly}
use Rattle.orderly_worlds.proofs.Reaching.{orderly_reached}
use Rattle.fault_origins.proofs.Results.{of_step}
use Rattle.fault_origins.proofs.Tasks.{reached_own}
use Rattle.part_laws.specs.Parts.{ShowsParts}
use Rattle.part_laws.proofs.Partials.{IsMadeOrBroken, reduce-made, reduce-partial}
use Rattle.part_laws.proofs.Received.{all-around, shown-whatever}
use Rattle.part_laws.proofs.SoundInputs.{sound-reduces-show}
use Rattle.keeper_laws.proofs.MadeFaults.{Names}
use Rattle.group_run_laws.proofs.Morsels.{IsSlotted}
use Rattle.group_run_laws.proofs.OneInput.{input, kept_morsel, kept_names, names, only_hand_ins, reads, received, shows}
use Rattle.group_run_laws.proofs.ReduceHolds.{reduces_keep}
use Rattle.group_run_laws.proofs.Reduces.{KeepsReduce, RowWork, is_reduce, slotted}

-- some answer to this work may be handed in
abbrev pub HasAnswer : Functions → ℕ → Work → Type 0
HasAnswer F i x = (a : Answer) × IsResultOf F x.task i (whole_tables x.schemas x.tables) x.tables a

pub partial_answer : (F : Functions) (i : ℕ) (x y : Work) → x ≡ y → HasAnswer F i y → HasAnswer F i x
partial_answer F i x y e h = subst (HasAnswer F i) (sym e) h

module _ (F : Functions) (shape : Shape) (o : Options) (w : World) (sound : IsSound F shape) (r : Reaches F shape o w) (n : ℕ) (node : Node) (es : List Named) (there : slice_get w.nodes n ≡ Some node) (is : node.node.kind ≡ reduce es) where
  own : KeepsReduce F w n node
  own = (reduces_keep F shape o w n sound r node there (ap is_reduce is)).own

  orderly : Orderly F w
  orderly = orderly_reached F shape o w sound r

  sl : IsSlotted node.node.kind
  sl = slotted node.node.kind (ap is_reduce is)

  pub reduce_results : (q : Piece) → Contains w.outs q → q.node ≡ n → (a : Answer) × IsResult F q a
  reduce_results q c at = by (own.gives.pieces q c at)
    where
      row : IsMadeOrBroken F node.node (whole_tables (schemas_for w node) (rows_received w n)) → HasAnswer F q.input (record { task = computes node.node; schemas = schemas_for w node; tables = rows_received w n })
      row (inl (rs, made)) = (good rs, made)
      row (inr (cause, broken)) = (bad cause, broken)

      morsel : (rs : List Row) (ts : List Table) → ((size : ℕ) × IsPartial F node.node node.node.kind q.input ts size) ⊎ ((cause : Cause) × BreaksPartial F node.node node.node.kind q.input ts cause) → (a : Answer) × IsResultOf F (keeps node.node) q.input ts (rs ∷ []) a
      morsel rs ts (inl (size, part)) = (partial size, part)
      morsel rs ts (inr (cause, broken)) = (bad cause, broken)

      by : RowWork w n node q.gives (work_of q) ⊎ IsKeptOf w n node 0 q → (a : Answer) × IsResult F q a
      by (inl (zero_k, all, work)) = partial_answer F q.input (work_of q) (record { task = computes node.node; schemas = schemas_for w node; tables = rows_received w n }) work (row (reduce-made F node.node es is (whole_tables (schemas_for w node) (rows_received w n))))
      by (inr kept) =
          let m = kept_morsel F w n node orderly.known there sl q c at kept in
          let ts = whole_tables (schema_of_input w node 0 ∷ []) (m.rows ∷ []) in
          partial_answer F q.input (work_of q) (record { task = keeps node.node; schemas = schema_of_input w node 0 ∷ []; tables = m.rows ∷ [] }) m.work (morsel m.rows ts (reduce-partial F node.node es is q.input ts))

  hand_in : (q : Piece) → Contains w.outs q → q.node ≡ n → (c : Cause) → c.node ≡ node.node.origin → IsResult F q (bad c) → Names F w node.node c
  hand_in q cq at c mine result = by (own.gives.pieces q cq at)
    where
      parts : ShowsParts F node.node (schema_of_input w node 0)
      parts = sound-reduces-show F (shape_of w) n node.node (schema_of_input w node 0) orderly.known.facts.sound (shows F w n node orderly.known there sl) (reads F w n node orderly.known there sl) es is

      breaks : (cause : Cause) (i : ℕ) (ts : List Table) → BreaksPartial F node.node node.node.kind i ts cause → IsBrokenOver F node.node ts cause
      breaks cause i ts b = subst (λ (kd : PhysicalKind). BreaksPartial F node.node kd i ts cause) is b

      by : RowWork w n node q.gives (work_of q) ⊎ IsKeptOf w n node 0 q → Names F w node.node c
      by (inl (zero_k, all, work)) =
          let broken : IsBrokenOver F node.node (whole_tables (schemas_for w node) (rows_received w n)) c = subst (λ (x : Work). IsResultOf F x.task q.input (whole_tables x.schemas x.tables) x.tables (bad c)) work result in
          let sent = sent_by (input F w n node orderly.known there sl).0 in
          names F w n node orderly.known there sl c mine
          (shown-whatever F node.node (schema_of_input w node 0) sent parts [] sent.rows (all-around sent.rows) c (subst (λ ts. IsBrokenOver F node.node ts c) (received F w n node orderly.known there sl) broken))
      by (inr kept) = kept_names F w n node orderly.known there sl parts breaks q cq at kept c mine result

  pub reduce_names : (j : Record) (c : Cause) → MakesFault F w j n c → Names F w node.node c
  reduce_names j c f = only_hand_ins F w n node orderly.known there sl hand_in j c (of_step F w j n node.node c orderly.known (reached_own F shape o w sound r) (shows F w n node orderly.known there sl) f) f
