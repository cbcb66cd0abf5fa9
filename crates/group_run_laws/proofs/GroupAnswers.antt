-- The pieces of a group-by: what may be handed in for each, and that a cause handed in breaks the group-by.
use Rattle.std.proofs.Common.{◌≡◌, ℕ, ◌⊎◌, List, [], ◌∷◌, get_or, Some, ap, subst, inl, inr}
use Rattle.std.specs.Prelude.{Contains, slice_get}
use Rattle.std.proofs.lemmas.List.Elements.{Contains-get_or}
use Rattle.ps_frame.specs.Causes.{Cause}
use Rattle.ps_frame.specs.Functions.{Functions}
use Rattle.ps_frame.specs.Tables.{Row, Table}
use Rattle.ps_meaning.specs.Cases.{keyed, rows_table}
use Rattle.ps_meaning.specs.Shape.{PhysicalKind, Shape, group_by_node}
use Rattle.ps_meaning.specs.Sound.{IsSound}
use Rattle.ps_meaning.specs.Steps.{Named, exprs_of}
use Rattle.ps_options.specs.declared.options.Options.{Options}
use Rattle.ps_turns.specs.Keys.{IsSplit, part_of}
use Rattle.ps_turns.specs.Results.{BreaksPartial, HasTooManyKeys, IsBrokenOver, IsPartial, IsResult, IsResultOf, rows_fault}
use Rattle.ps_turns.specs.Tables.{whole_tables}
use Rattle.ps_turns.specs.Tasks.{Answer, Piece, bad, gives_part, good, keeps, partial}
use Rattle.ps_world.specs.Laws.{MakesFault, sent_by}
use Rattle.ps_world.specs.Opening.{Reaches}
use Rattle.ps_world.specs.World.{Node, Record, World, rows_in_order, schemas_for, shape_of}
use Rattle.world_families.specs.Keepers.{IsKeptOf, KeepsMorsels, SplitsAll, schema_of_input, slots_at}
use Rattle.world_families.specs.Work.{IsComplete, Work, rows_received, work_of}
use Rattle.orderly_worlds.proofs.Orderly.{Orderly}
use Rattle.orderly_worlds.proofs.Reaching.{orderly_reached}
use Rattle.fault_origins.proofs.Results.{of_step}
use Rattle.fault_origins.proofs.Tasks.{reached_own}
use Rattle.part_laws.specs.Parts.{ShowsParts}
use Rattle.part_laws.proofs.GroupAnswers.{group-made, group-partial, sound-groups-show}
use Rattle.part_laws.proofs.GroupWhatever.{list-shown}
use Rattle.part_laws.proofs.InPipes.{slots-whole}
use Rattle.part_laws.proofs.Partials.{IsMadeOrBroken}
use Rattle.keeper_laws.proofs.MadeFaults.{Names}
use Rattle.group_run_laws.proofs.Morsels.{IsSlotted}
use Rattle.group_run_laws.proofs.OneInput.{comes, input, kept_morsel, kept_names, names, only_hand_ins, reads, received, shows}
use Rattle.group_run_laws.proofs.ReduceAnswers.{HasAnswer, partial_answer}
use Rattle.group_run_laws.proofs.Whole.{WholeSlots, rows_kept}
use Rattle.group_run_laws.proofs.GroupHolds.{groups_keep}
use Rattle.group_run_laws.proofs.Groups.{KeepsGroups, PartWork, is_group, slotted}

-- WHERE ALL THAT CAME IS KEPT, SLOT BY SLOT
module _ (F : Functions) (w : World) (n : ℕ) (node : Node) (keys aggregates : List Named) (orderly : Orderly F w) (there : slice_get w.nodes n ≡ Some node) (is : node.node.kind ≡ group_by_node keys aggregates) where
  abbrev pub sl : IsSlotted node.node.kind
  sl = slotted node.node.kind (ap is_group is)

  pub input_complete : WholeSlots w n node → IsComplete (input F w n node orderly.known there sl).0
  input_complete whole = whole.0 (input F w n node orderly.known there sl).0 (comes F w n node orderly.known there sl).0

  -- its rows are whole beside their keys
  pub keys_whole : KeepsMorsels F w n node 0 → WholeSlots w n node → (keyed node.node.origin (exprs_of keys) (rows_table (schema_of_input w node 0) (rows_in_order (input F w n node orderly.known there sl).0.got))).broken ≡ []
  keys_whole morsels whole =
      let q = (input F w n node orderly.known there sl).0 in
      let e = comes F w n node orderly.known there sl in
      subst (λ rows. (keyed node.node.origin (exprs_of keys) (rows_table (schema_of_input w node 0) rows)).broken ≡ []) (rows_kept F w n node orderly there sl q e.0 whole)
      (slots-whole F (shape_of w) n node.node (schema_of_input w node 0) keys aggregates orderly.known.facts.sound (shows F w n node orderly.known there sl) is (reads F w n node orderly.known there sl) 0 (slots_at node 0) (λ k rs at. let x = morsels.kept q k rs e.0 e.1 at in (x.1, x.2)))

  -- and its lists split their keys
  pub lists_split : SplitsAll w n node → IsSplit node.node (rows_table (schema_of_input w node 0) (rows_in_order (input F w n node orderly.known there sl).0.got) ∷ []) w.options.partitions node.progress.lists
  lists_split splits = subst (λ ts. IsSplit node.node ts w.options.partitions node.progress.lists) (received F w n node orderly.known there sl) splits.1

module _ (F : Functions) (shape : Shape) (o : Options) (w : World) (sound : IsSound F shape) (r : Reaches F shape o w) (n : ℕ) (node : Node) (keys aggregates : List Named) (there : slice_get w.nodes n ≡ Some node) (is : node.node.kind ≡ group_by_node keys aggregates) where
  own : KeepsGroups F w n node
  own = (groups_keep F shape o w n sound r node there (ap is_group is)).own

  orderly : Orderly F w
  orderly = orderly_reached F shape o w sound r

  abbrev kind : IsSlotted node.node.kind
  kind = slotted node.node.kind (ap is_group is)

  pub group_results : (q : Piece) → Contains w.outs q → q.node ≡ n → (a : Answer) × IsResult F q a
  group_results q c at = by (own.gives.pieces q c at)
    where
      part : IsMadeOrBroken F node.node (part_of node.node (get_or node.progress.lists q.gives []) (whole_tables (schemas_for w node) (rows_received w n))) → HasAnswer F q.input (record { task = gives_part node.node (get_or node.progress.lists q.gives []); schemas = schemas_for w node; tables = rows_received w n })
      part (inl (rs, made)) = (good rs, made)
      part (inr (cause, broken)) = (bad cause, inl broken)

      morsel : (rs : List Row) (ts : List Table) → ((size : ℕ) × IsPartial F node.node node.node.kind q.input ts size) ⊎ ((cause : Cause) × BreaksPartial F node.node node.node.kind q.input ts cause) → (a : Answer) × IsResultOf F (keeps node.node) q.input ts (rs ∷ []) a
      morsel rs ts (inl (size, p)) = (partial size, p)
      morsel rs ts (inr (cause, broken)) = (bad cause, broken)

      by : PartWork w n node q.gives (work_of q) ⊎ IsKeptOf w n node 0 q → (a : Answer) × IsResult F q a
      by (inl (whole, splits, less, work)) =
          partial_answer F q.input (work_of q) (record { task = gives_part node.node (get_or node.progress.lists q.gives []); schemas = schemas_for w node; tables = rows_received w n }) work
          (part (group-made F node.node keys aggregates is (part_of node.node (get_or node.progress.lists q.gives []) (whole_tables (schemas_for w node) (rows_received w n)))))
      by (inr kept) =
          let m = kept_morsel F w n node orderly.known there kind q c at kept in
          let ts = whole_tables (schema_of_input w node 0 ∷ []) (m.rows ∷ []) in
          partial_answer F q.input (work_of q) (record { task = keeps node.node; schemas = schema_of_input w node 0 ∷ []; tables = m.rows ∷ [] }) m.work (morsel m.rows ts (group-partial F node.node keys aggregates is q.input ts))

  -- a cause that may be handed in for a list of keys over these
  abbrev BreaksList : Cause → List Row → List Table → Type 0
  BreaksList c list ts = IsBrokenOver F node.node (part_of node.node list ts) c ⊎ HasTooManyKeys F node.node list ts × (c ≡ rows_fault node.node)

  hand_in : (q : Piece) → Contains w.outs q → q.node ≡ n → (c : Cause) → c.node ≡ node.node.origin → IsResult F q (bad c) → Names F w node.node c
  hand_in q cq at c mine result = by (own.gives.pieces q cq at)
    where
      parts : ShowsParts F node.node (schema_of_input w node 0)
      parts = sound-groups-show F (shape_of w) n node.node (schema_of_input w node 0) keys aggregates orderly.known.facts.sound (shows F w n node orderly.known there kind) is (reads F w n node orderly.known there kind)

      breaks : (cause : Cause) (i : ℕ) (ts : List Table) → BreaksPartial F node.node node.node.kind i ts cause → IsBrokenOver F node.node ts cause
      breaks cause i ts b = subst (λ (kd : PhysicalKind). BreaksPartial F node.node kd i ts cause) is b

      by : PartWork w n node q.gives (work_of q) ⊎ IsKeptOf w n node 0 q → Names F w node.node c
      by (inl (whole, splits, less, work)) =
          let broken : BreaksList c (get_or node.progress.lists q.gives []) (whole_tables (schemas_for w node) (rows_received w n)) = subst (λ (x : Work). IsResultOf F x.task q.input (whole_tables x.schemas x.tables) x.tables (bad c)) work result in
          let sent = sent_by (input F w n node orderly.known there kind).0 in
          names F w n node orderly.known there kind c mine
          (list-shown F (shape_of w) n node.node (schema_of_input w node 0) keys aggregates orderly.known.facts.sound (shows F w n node orderly.known there kind) is (reads F w n node orderly.known there kind) sent (input_complete F w n node keys aggregates orderly there is whole)
          (keys_whole F w n node keys aggregates orderly there is own.morsels whole) w.options.partitions node.progress.lists (get_or node.progress.lists q.gives []) (lists_split F w n node keys aggregates orderly there is splits) (Contains-get_or node.progress.lists q.gives [] less) c
          (subst (BreaksList c (get_or node.progress.lists q.gives [])) (received F w n node orderly.known there kind) broken))
      by (inr kept) = kept_names F w n node orderly.known there kind parts breaks q cq at kept c mine result

  pub group_names : (j : Record) (c : Cause) → MakesFault F w j n c → Names F w node.node c
  group_names j c f = only_hand_ins F w n node orderly.known there kind hand_in j c (of_step F w j n node.node c orderly.known (reached_own F shape o w sound r) (shows F w n node orderly.known there kind) f) f
