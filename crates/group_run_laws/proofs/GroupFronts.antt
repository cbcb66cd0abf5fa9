-- What a group-by has sent begins a table that it may give, list after list.
use Rattle.std.proofs.Common.{◌≡◌, ℕ, ◌<◌, Bool, true, false, List, [], ◌∷◌, ◌++◌, length, get_or, Option, Some, None, refl, sym, ap, subst, ◌∙◌, arith}
use Rattle.std.specs.Prelude.{IsTrue, slice_get}
use Rattle.std.specs.List.{AllZip}
use Rattle.ps_frame.specs.Functions.{Functions}
use Rattle.ps_frame.specs.Tables.{Row, Table}
use Rattle.ps_meaning.specs.Cases.{rows_table, schemas_of}
use Rattle.ps_meaning.specs.Shape.{PhysicalCase, PhysicalNode, Shape, group_by_node}
use Rattle.ps_meaning.specs.Sound.{IsSound, input_schemas}
use Rattle.ps_meaning.specs.Steps.{Named}
use Rattle.ps_options.specs.declared.options.Options.{Options}
use Rattle.ps_turns.specs.Keys.{part_of}
use Rattle.ps_turns.specs.Progress.{is_multiplexer}
use Rattle.ps_turns.specs.Results.{IsMade, IsResultOf}
use Rattle.ps_turns.specs.Tables.{whole_tables}
use Rattle.ps_turns.specs.Tasks.{good}
use Rattle.ps_world.specs.Laws.{Extends, Justified, Sent, sent_at, sent_by, sent_to}
use Rattle.ps_world.specs.Opening.{Reaches}
use Rattle.ps_world.specs.World.{Node, Pipe, World, rows_in_order, schemas_for, shape_of}
use Rattle.world_claims.specs.Numbering.{counts_own}
use Rattle.world_families.specs.Keepers.{SplitsAll, schema_of_input}
use Rattle.world_families.specs.Work.{Leaves, Work, rows_received}
use Rattle.family_fronts.proofs.SourceLaw.{from_single}
use Rattle.family_pipes.proofs.Complete.{filled, whole}
use Rattle.family_pipes.proofs.Sent.{is_sink, node_of, one_table}
use Rattle.orderly_worlds.proofs.Orderly.{Orderly}
use Rattle.orderly_worlds.proofs.Reaching.{orderly_reached}
use Rattle.part_laws.specs.Lists.{GivesList}
use Rattle.part_laws.proofs.GroupWhatever.{nothing-justified}
use Rattle.part_laws.proofs.InPipes.{pipe-justified}
use Rattle.group_run_laws.proofs.GroupAnswers.{input_complete, keys_whole, lists_split, sl}
use Rattle.group_run_laws.proofs.GroupHolds.{groups_keep}
use Rattle.group_run_laws.proofs.Groups.{KeepsGroups, is_group}
use Rattle.group_run_laws.proofs.OneInput.{came, input, reads, received, shows}
use Rattle.group_run_laws.proofs.Whole.{WholeSlots}

module _ (F : Functions) (w : World) (n : ℕ) (node : Node) (keys aggregates : List Named) (orderly : Orderly F w) (there : slice_get w.nodes n ≡ Some node) (is : node.node.kind ≡ group_by_node keys aggregates) (h : KeepsGroups F w n node) where
  abbrev s : List Row → Table
  s rows = rows_table (schema_of_input w node 0) rows

  sent : Sent
  sent = sent_by (input F w n node orderly.known there (sl F w n node keys aggregates orderly there is)).0

  single : is_multiplexer node.node.kind ≡ false
  single = ap is_multiplexer is

  module _ (Ts : List Table) (e : schemas_of Ts ≡ schema_of_input w node 0 ∷ []) (m : AllZip Extends (sent_by (input F w n node orderly.known there (sl F w n node keys aggregates orderly there is)).0 ∷ []) Ts) where
    abbrev MayBe : Table → Type 0
    MayBe T = (T.schema ≡ node.node.schema) × PhysicalCase F node.node Ts T

    -- a table that it may give and that this pipe extends to
    abbrev Served : Pipe → Type 0
    Served p = (T : Table) × MayBe T × Extends (sent_by p) T

    q : Pipe
    q = (input F w n node orderly.known there (sl F w n node keys aggregates orderly there is)).0

    some_table : (T : Table) × MayBe T
    some_table =
        let k = sl F w n node keys aggregates orderly there is in
        let t = nothing-justified F (shape_of w) n node.node (schema_of_input w node 0) keys aggregates orderly.known.facts.sound (shows F w n node orderly.known there k) is (reads F w n node orderly.known there k) (sent_by (input F w n node orderly.known there k).0) Ts e m in
        (t.0, (t.1, t.2))

    unanswered : (p : Pipe) → rows_in_order p.got ≡ [] → (sent_by p).is_complete ≡ false → Served p
    unanswered p none partial = (some_table.0, some_table.1, record { rest = some_table.0.rows; begins = ap (λ rs. rs ++ some_table.0.rows) none; ends = λ c. absurd (let no : false ≡ true = sym partial ∙ c in cc) })

    by_lists : (p : Pipe) → Leaves w n p → WholeSlots w n node → SplitsAll w n node → Served p
    by_lists p l slots splits =
        let k = sl F w n node keys aggregates orderly there is in
        let rows = rows_in_order (input F w n node orderly.known there k).0.got in
        let t =
        pipe-justified F (shape_of w) n node.node (schema_of_input w node 0) keys aggregates orderly.known.facts.sound (shows F w n node orderly.known there k) is (reads F w n node orderly.known there k) (sent_by (input F w n node orderly.known there k).0)
        (input_complete F w n node keys aggregates orderly there is slots) (keys_whole F w n node keys aggregates orderly there is h.morsels slots) w.options.partitions node.progress.lists (lists_split F w n node keys aggregates orderly there is splits) p gave all Ts e m
        in
        (t.0, (t.1, t.2), t.3 0)
      where
        gave : (k : ℕ) (rs : List Row) → slice_get p.got k ≡ Some (Some rs) → (k < length node.progress.lists) × GivesList F node.node (rows_table (schema_of_input w node 0) (rows_in_order (input F w n node orderly.known there (sl F w n node keys aggregates orderly there is)).0.got) ∷ []) (get_or node.progress.lists k []) rs
        gave k rs at =
            let a = h.gives.answers p k rs l at in
            let made : IsMade F node.node (part_of node.node (get_or node.progress.lists k []) (whole_tables (schemas_for w node) (rows_received w n))) rs = subst (λ (x : Work). IsResultOf F x.task 0 (whole_tables x.schemas x.tables) x.tables (good rs)) a.1.3 a.2 in
            (a.1.2, subst (λ ts. IsMade F node.node (part_of node.node (get_or node.progress.lists k []) ts) rs) (received F w n node orderly.known there (sl F w n node keys aggregates orderly there is)) made)

        all : IsTrue (sent_by p).is_complete → (k : ℕ) → k < length node.progress.lists → (rs : List Row) × (slice_get p.got k ≡ Some (Some rs))
        all c k less =
            let lists = (h.gives.completes p l c).2 in
            let long = (orderly.known.numbers n node there).own (ap counts_own is) p l.0 l.1 (whole p c).dropped in
            filled F w p orderly.known l.0 (from_single w n node p there single l.1) c k (omega (arith, less, lists, long))

    served : (p : Pipe) → Leaves w n p → Served p
    served p l = by_end (sent_by p).is_complete refl
      where
        by_slots : (slots : List (Option (List Row))) → p.got ≡ slots → (sent_by p).is_complete ≡ false → Served p
        by_slots [] g partial = unanswered p (ap rows_in_order g) partial
        by_slots (None ∷ slots) g partial = unanswered p (ap rows_in_order g) partial
        by_slots (Some rs ∷ slots) g partial = let x = (h.gives.answers p 0 rs l (ap (λ xs. slice_get xs 0) g)).1 in by_lists p l x.0 x.1

        by_end : (b : Bool) → (sent_by p).is_complete ≡ b → Served p
        by_end true c = let x = h.gives.completes p l c in by_lists p l x.0 x.1
        by_end false c = by_slots p.got refl c

    pub group_served : (T : Table) × (T.schema ≡ node.node.schema) × PhysicalCase F node.node Ts T × ((k : ℕ) → Extends (sent_at w n k) T)
    group_served =
        let one : (p z : Pipe) → Leaves w n p → Leaves w n z → p ≡ z = λ p z a b. orderly.known.facts.one_output p z a.0 b.0 (a.1 ∙ sym b.1) (from_single w n node p there single a.1) in
        let T = one_table w n node MayBe there (ap is_sink is) one some_table served in
        (T.0, T.1.0, T.1.1, T.2)

pub groups_are_justified : (F : Functions) (shape : Shape) (o : Options) (w : World) (n : ℕ) (p : PhysicalNode) (keys aggregates : List Named) → IsSound F shape → Reaches F shape o w → slice_get (shape_of w) n ≡ Some p → p.kind ≡ group_by_node keys aggregates
    → Justified F p (input_schemas (shape_of w) p) (sent_to (sent_at w) p) (sent_at w n)
groups_are_justified F shape o w n p keys aggregates sound r e is =
    let x = node_of w n p e in
    let kind : x.0.node.kind ≡ group_by_node keys aggregates = ap (λ (z : PhysicalNode). z.kind) x.2 ∙ is in
    let orderly = orderly_reached F shape o w sound r in
    let own = (groups_keep F shape o w n sound r x.0 x.1 (ap is_group kind)).own in
    let k = sl F w n x.0 keys aggregates orderly x.1 kind in
    subst (λ (z : PhysicalNode). Justified F z (input_schemas (shape_of w) z) (sent_to (sent_at w) z) (sent_at w n)) x.2
    (λ Ts same m. group_served F w n x.0 keys aggregates orderly x.1 kind own Ts (same ∙ reads F w n x.0 orderly.known x.1 k) (subst (λ ins. AllZip Extends ins Ts) (came F w n x.0 orderly.known x.1 k) m))
