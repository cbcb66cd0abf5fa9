-- What nodes of a run hold of the nodes of a shape that they are: at the start, as the table of a sink, and behind a morsel more.
use Rattle.std.proofs.Common.{◌≡◌, ℕ, true, false, cond, List, [], ◌∷◌, ◌++◌, length, None, Some, refl, sym, ap, subst, ◌∙◌, arith}
use Rattle.std.specs.Prelude.{◌&&◌, IsTrue, get_or, nat_lt, slice_get, slice_set}
use Rattle.std.proofs.lemmas.List.{length-map, map-append}
use Rattle.std.proofs.lemmas.Option.{slice_get_within}
use Rattle.kept_tables.specs.Kept.{rows_of_each}
use Rattle.node_work.specs.Stored.{Morsels, as_table}
use Rattle.node_work.specs.Working.{Does, HandsRowsOn, HasStored, kind_behind, table_stored}
use Rattle.node_work.specs.declared.work.Work.{Work}
use Rattle.node_work.specs.declared.work.Work.TheVariants as work
use Rattle.plain_nodes.specs.declared.source.InMemorySourceNode.{InMemorySourceNode}
use Rattle.ps_flow.specs.Claiming.{streams}
use Rattle.ps_flow.specs.Pulling.{Feeds, HasAlso, fault_past}
use Rattle.ps_flow.specs.Standing.{answer_kept, kept_by, new_node}
use Rattle.ps_frame.specs.Aggregates.{max_rows}
use Rattle.ps_frame.specs.Functions.{Functions}
use Rattle.ps_frame.specs.Tables.{Fields, Frame}
use Rattle.ps_frame.specs.Trees.{tree_at}
use Rattle.ps_frame.specs.declared.value.DataFault.TheVariants as fault
use Rattle.ps_meaning.specs.Errors.{fault_error}
use Rattle.ps_meaning.specs.Shape.{PhysicalKind, PhysicalNode, Shape, filter_node, in_memory_sink, in_memory_source, independent_select, ordered_union, select_node, simple_projection, stream_map, streaming_slice, with_row_index}
use Rattle.ps_meaning.specs.Sound.{HasInputs, schema_at}
use Rattle.ps_nodes.specs.Seen.{IsNew, kind_of, options_of, progress_of}
use Rattle.ps_nodes.specs.declared.flow.FlowNode.{FlowNode}
use Rattle.ps_nodes.specs.declared.flow.FlowNode.TheVariants as flow
use Rattle.ps_options.specs.declared.options.Options.{Options}
use Rattle.ps_pieces.specs.Operations.{kind_computed, kind_in}
use Rattle.ps_pieces.specs.declared.parameters.Operation.{Operation}
use Rattle.ps_pieces.specs.declared.parameters.Operation.TheVariants as operation
use Rattle.ps_pieces.specs.declared.parameters.Parameters.{Parameters}
use Rattle.ps_turns.specs.Heads.{stored_rows}
use Rattle.ps_turns.specs.Progress.{Progress}
use Rattle.ps_turns.specs.Pulls.{after_store, pulls}
use Rattle.ps_world.specs.Opening.{no_progress}
use Rattle.turn_laws.specs.Updating.{SeenNode}
use Rattle.flow_runs.specs.Running.{Has, HasComeAsFar, IsCutBy, IsNewNode}
use Rattle.flow_runs.specs.declared.node.RunningNode.{RunningNode}

never : false ≡ true → ⊥
never e = cc

-- THE START
come_new : (kind : PhysicalKind) (a b : Progress) → a.sent ≡ b.sent → a.booked ≡ b.booked → HasComeAsFar kind a b
come_new (in_memory_source t) a b sent booked = sent
come_new (independent_select es) a b sent booked = sent
come_new (with_row_index name offset) a b sent booked = booked
come_new (streaming_slice offset n) a b sent booked = booked
come_new kind a b sent booked = tt

-- a node of a graph that is new, with what a new one of its kind does
pub new_one : (n : FlowNode) (w : Work) (p : PhysicalNode) (ss : List Fields) → IsTrue (streams (kind_of n)) → IsNew p.kind n → HasInputs p.kind (length p.inputs) → Does w p (no_progress (length p.inputs)) → IsNewNode (record { flow = n; work = w }) p ss
new_one n w p ss streaming new inputs does =
    let kind : kind_of n ≡ p.kind = ap (λ (x : SeenNode). x.node.kind) new in
    record {
      streams = subst (λ (k : PhysicalKind). IsTrue (streams k)) kind streaming;
      inputs = inputs;
      kind = kind;
      come = come_new p.kind (progress_of n) (no_progress (length p.inputs)) (ap (λ (x : SeenNode). x.progress.sent) new) (ap (λ (x : SeenNode). x.progress.booked) new);
      does = does;
    }

cut_self : (kind : PhysicalKind) (o : Options) → IsCutBy kind o o
cut_self (in_memory_source t) o = refl
cut_self kind o = tt

-- a source is cut by the options
pub cut_source : (s : InMemorySourceNode) (w : Work) (o : Options) (p : PhysicalNode) (ss : List Fields) → IsNewNode (record { flow = flow.InMemorySource s; work = w }) p ss → Has o (record { flow = flow.InMemorySource (record s { options = o }); work = w }) (new_node p ss [])
cut_source s w o p ss h = record { is = record { streams = h.streams; inputs = h.inputs; kind = h.kind; come = h.come; does = h.does }; cut = cut_self p.kind o }

no_source : (n : FlowNode) (o : Options) → ((s : InMemorySourceNode) → n ≡ flow.InMemorySource s → ⊥) → IsCutBy (kind_of n) (options_of n) o
no_source (flow.InMemorySource s) o other = absurd (other s refl)
no_source n o other = tt

-- another node looks at none
pub uncut : (n : RunningNode) (o : Options) (p : PhysicalNode) (ss : List Fields) → ((s : InMemorySourceNode) → n.flow ≡ flow.InMemorySource s → ⊥) → IsNewNode n p ss → Has o n (new_node p ss [])
uncut n o p ss other h = record { is = h; cut = subst (λ (k : PhysicalKind). IsCutBy k (options_of n.flow) o) h.kind (no_source n.flow o other) }

-- THE TABLE OF A SINK
-- nothing that is computed is a sink
no_sink : (q : Parameters) → kind_computed q 0 ≡ in_memory_sink → ⊥
no_sink q e = by q.operation e
  where
    by : (op : Operation) → kind_in (tree_at q.exprs.items) 0 op ≡ in_memory_sink → ⊥
    by (operation.Select es) e = cc
    by (operation.HStack es) e = cc
    by (operation.IndependentSelect es) e = cc
    by (operation.Filter p) e = cc
    by (operation.SimpleProjection names) e = cc
    by (operation.WithRowIndex name offset) e = cc
    by (operation.Map n) e = cc

hands_none : (kind : PhysicalKind) (x : SeenNode) → HandsRowsOn kind → None ≡ kept_by kind x
hands_none (in_memory_source t) x h = refl
hands_none (streaming_slice offset n) x h = refl
hands_none kind x h = absurd h

computes_none : (q : Parameters) (kind : PhysicalKind) (x : SeenNode) → kind_computed q 0 ≡ kind_behind 0 kind → None ≡ kept_by kind x
computes_none q in_memory_sink x e = absurd (no_sink q e)
computes_none q kind x e = refl

table_is : (w : Work) (x : SeenNode) → Does w x.node x.progress → table_stored w ≡ answer_kept x
table_is work.HandsOn x d = hands_none x.node.kind x d
table_is (work.Unites sent) x d = subst (λ (k : PhysicalKind). None ≡ kept_by k x) (sym d.0) refl
table_is (work.Computes q) x d = computes_none q.value x.node.kind x (d.kind 0)
table_is (work.Stores m) x d = subst (λ (k : PhysicalKind). Some (as_table m) ≡ kept_by k x) (sym d.kind) (λ i. Some (record { schema = d.schema i; rows = stored_rows (get_or (sym d.morsels i) 0 []) }))

pub gives_table : (n : RunningNode) (o : Options) (x : SeenNode) → Has o n x → table_stored n.work ≡ answer_kept x
gives_table n o x h = table_is n.work x h.is.does

-- A MORSEL MORE
-- a sink stores and does nothing else
pub stores_alone : (w : Work) (p : PhysicalNode) (progress : Progress) → p.kind ≡ in_memory_sink → Does w p progress → (m : Morsels) × (w ≡ work.Stores m)
stores_alone work.HandsOn p progress e d = absurd (subst HandsRowsOn e d)
stores_alone (work.Unites sent) p progress e d = absurd (let clash : in_memory_sink ≡ ordered_union = sym e ∙ d.0 in cc)
stores_alone (work.Computes q) p progress e d = absurd (no_sink q.value (d.kind 0 ∙ ap (kind_behind 0) e))
stores_alone (work.Stores m) p progress e d = (m, refl)

-- of the nodes that stream a sink alone pulls
pub pulls_alone : (kind : PhysicalKind) → IsTrue (streams kind) → IsTrue (pulls kind) → kind ≡ in_memory_sink
pulls_alone in_memory_sink s p = refl
pulls_alone (in_memory_source t) s p = absurd (never p)
pulls_alone (independent_select es) s p = absurd (never p)
pulls_alone (select_node es extends) s p = absurd (never p)
pulls_alone (filter_node e) s p = absurd (never p)
pulls_alone (simple_projection names) s p = absurd (never p)
pulls_alone (stream_map step) s p = absurd (never p)
pulls_alone (with_row_index name offset) s p = absurd (never p)
pulls_alone (streaming_slice offset n) s p = absurd (never p)
pulls_alone ordered_union s p = absurd (never p)
pulls_alone kind s p = absurd (never s)

-- with other memory it has the same behind it
pub roomier : (n : RunningNode) (m m' : Morsels) → n.work ≡ work.Stores m → m' ≡ record m { spare = m'.spare } → HasAlso Has n (record n { work = work.Stores m' })
roomier n m m' is more o x h =
    let d : HasStored x.node x.progress m = subst (λ (w : Work). Does w x.node x.progress) is h.is.does in
    record {
      is =
          record {
            streams = h.is.streams;
            inputs = h.is.inputs;
            kind = h.is.kind;
            come = h.is.come;
            does = subst (λ (z : Morsels). HasStored x.node x.progress z) (sym more) (record { kind = d.kind; schema = d.schema; origin = d.origin; morsels = d.morsels });
          };
      cut = h.cut;
    }

-- a sink that stored one morsel more
module _ (m m' : Morsels) (t : Frame) (more : m' ≡ record m { morsels = m.morsels ++ t ∷ []; spare = m'.spare }) where
  next_rows : rows_of_each m.morsels ++ t.rows ∷ [] ≡ rows_of_each m'.morsels
  next_rows = sym (map-append (λ (f : Frame). f.rows) m.morsels (t ∷ [])) ∙ ap (λ (z : Morsels). rows_of_each z.morsels) (sym more)

  stored_more : (p : PhysicalNode) (progress : Progress) → HasStored p progress m → HasStored p (after_store in_memory_sink 0 t.rows progress) m'
  stored_more p progress d =
      record {
        kind = d.kind;
        schema = ap (λ (z : Morsels). z.schema) more ∙ d.schema;
        origin = ap (λ (z : Morsels). z.origin.0) more ∙ d.origin;
        morsels = (λ i. slice_set (d.morsels i) 0 (get_or (d.morsels i) 0 [] ++ t.rows ∷ [])) ∙ (λ i. next_rows i ∷ []);
      }

  fault_told : (p : PhysicalNode) (progress : Progress) → HasStored p progress m
      → cond (nat_lt max_rows (length (stored_rows (rows_of_each m'.morsels)))) (Some (fault_error m'.origin.0 fault.Rows)) None ≡ cond (true && nat_lt max_rows (length (stored_rows (get_or (after_store in_memory_sink 0 t.rows progress).stores 0 [])))) (Some (fault_error p.origin fault.Rows)) None
  fault_told p progress d =
      let after = stored_more p progress d in
      λ i. cond (nat_lt max_rows (length (stored_rows (get_or (sym after.morsels i) 0 [])))) (Some (fault_error (after.origin i) fault.Rows)) None

  module _ (F : Functions) (shape : Shape) (k : ℕ) (n : RunningNode) (is : n.work ≡ work.Stores m) (o : Options) (x : SeenNode) (i : ℕ) (h : Has o n x) (feeds : Feeds F shape k x i t) where
    sink : x.node.kind ≡ in_memory_sink
    sink = pulls_alone x.node.kind h.is.streams feeds.stores

    one : length x.schemas ≡ 1
    one = ap length feeds.schemas ∙ length-map x.node.inputs (λ (z : ℕ × ℕ). schema_at (slice_get shape z.0)) ∙ subst (λ (j : PhysicalKind). HasInputs j (length x.node.inputs)) sink feeds.fit.inputs

    first : i ≡ 0
    first = let within = slice_get_within x.schemas i t.schema feeds.schema in omega (arith, within, one)

    does : HasStored x.node x.progress m
    does = subst (λ (w : Work). Does w x.node x.progress) is h.is.does

    pub stores_it : Has o (record n { work = work.Stores m' }) (record x { progress = after_store x.node.kind i t.rows x.progress })
    stores_it =
        record {
          is =
              record {
                streams = h.is.streams;
                inputs = h.is.inputs;
                kind = h.is.kind;
                come = subst (λ (j : PhysicalKind). HasComeAsFar j (progress_of n.flow) (after_store x.node.kind i t.rows x.progress)) (sym sink) tt;
                does = subst (λ (j : PhysicalKind). HasStored x.node (after_store j i t.rows x.progress) m') (sym sink) (subst (λ (j : ℕ). HasStored x.node (after_store in_memory_sink j t.rows x.progress) m') (sym first) (stored_more x.node x.progress does));
              };
          cut = h.cut;
        }

    pub tells_it : cond (nat_lt max_rows (length (stored_rows (rows_of_each m'.morsels)))) (Some (fault_error m'.origin.0 fault.Rows)) None ≡ fault_past x.node i (after_store x.node.kind i t.rows x.progress)
    tells_it =
        subst (λ (q : PhysicalNode). cond (nat_lt max_rows (length (stored_rows (rows_of_each m'.morsels)))) (Some (fault_error m'.origin.0 fault.Rows)) None ≡ fault_past q i (after_store q.kind i t.rows x.progress)) (λ j. record x.node { kind = sym sink j }) (
        subst (λ (j : ℕ). cond (nat_lt max_rows (length (stored_rows (rows_of_each m'.morsels)))) (Some (fault_error m'.origin.0 fault.Rows)) None ≡ fault_past (record x.node { kind = in_memory_sink }) j (after_store in_memory_sink j t.rows x.progress)) (sym first) (fault_told x.node x.progress does)
        )
