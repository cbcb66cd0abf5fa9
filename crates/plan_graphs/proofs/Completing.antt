-- A graph that was built of a sound shape lacks nothing.
use Rattle.std.proofs.Common.{◌≡◌, ℕ, ◌<◌, ◌≤◌, List, [], ◌∷◌, length, Option, None, Some, refl, ap, sym, subst, ◌∙◌, arith}
use Rattle.std.specs.Prelude.{slice_get}
use Rattle.std.proofs.lemmas.List.{length-replicate}
use Rattle.ps_frame.specs.Functions.{Functions}
use Rattle.ps_frame.specs.Tables.{Fields}
use Rattle.ps_meaning.specs.Schemas.{join_schema}
use Rattle.ps_meaning.specs.Shape.{PhysicalKind, PhysicalNode, Shape, in_memory_join, in_memory_map}
use Rattle.ps_meaning.specs.Sound.{HasFieldsOf, HasInputs, HasReaders, IsFitNode, IsSound, IsSoundButForReaders, input_schemas, readers_of as shape_readers, readers_of_port as shape_port_readers, schema_at}
use Rattle.ps_graph.specs.Complete.{IsComplete, inputs_of, readers_of, readers_of_port}
use Rattle.ps_graph.specs.Shown.{nodes_of, standing_of, wires_of}
use Rattle.ps_graph.specs.declared.graph.Graph.{Graph}
use Rattle.plain_nodes.specs.Exprs.{join_shown}
use Rattle.plain_nodes.specs.Seen.{IsNewZip}
use Rattle.ps_nodes.specs.Seen.{HasInputsOf, HasPorts, kind_of}
use Rattle.ps_nodes.specs.declared.flow.FlowNode.{FlowNode}
use Rattle.ps_nodes.specs.declared.flow.FlowNode.TheVariants as flow
use Rattle.ps_nodes.specs.declared.in_memory_join.InMemoryJoinNode.{InMemoryJoinNode}
use Rattle.ps_nodes.specs.declared.in_memory_map.InMemoryMapNode.{InMemoryMapNode}
use Rattle.plain_nodes.specs.declared.zip.ZipNode.{ZipNode}
use Rattle.ps_owned_maps.specs.Owned.{step_of}
use Rattle.plan_graphs.specs.Made.{IsNewOf}
use Rattle.graph_parts.specs.SoundShapes.{IsOfSoundShape}
use Rattle.plan_graphs.specs.Wiring.{IsBuiltOf, IsMadeIn}
use Rattle.graph_parts.proofs.Counting.{into, none-read, port-readers-same, readers-same, weaker}
use Rattle.graph_parts.proofs.Lists.{map-length, past-end, within, zip-at}
use Rattle.graph_parts.proofs.SoundNodes.{by-itself}
use Rattle.plan_graphs.proofs.Readable.{AreGood, can-join, can-map, good-inputs}

module _ (F : Functions) (shape : Shape) (sound : IsSoundButForReaders F shape) (n : ℕ) (p : PhysicalNode) (at : slice_get shape n ≡ Some p) where
  fit : IsFitNode F shape n p
  fit = sound n p at

  schemas-count : length (input_schemas shape p) ≡ length p.inputs
  schemas-count = map-length (λ (i : ℕ × ℕ). schema_at (slice_get shape i.0)) p.inputs

  -- the node, by what a node of the graph holds of it
  abbrev as-held : (kind : PhysicalKind) (ss : List Fields) → kind ≡ p.kind → ss ≡ input_schemas shape p → IsOfSoundShape kind p.schema ss
  as-held kind ss k e = record { functions = F; shape = shape; number = n; node = p; fit = fit; of_kind = sym k; of_schema = refl; inputs = sym e }

  held-good : (ss : List Fields) → ss ≡ input_schemas shape p → AreGood F ss
  held-good ss e = subst (AreGood F) (sym e) (good-inputs F shape sound n p at)

  plain : (c : FlowNode) (k : ℕ) → k ≡ length p.inputs → IsMadeIn shape p c → HasInputs (kind_of c) k
  plain c k e made =
      let P : PhysicalKind → Type 0 = λ kind. HasInputs kind k in
      subst P (sym made.shows) (subst (HasInputs p.kind) (sym e) fit.inputs)

  has-map : (m : InMemoryMapNode) (k : ℕ) → k ≡ length p.inputs → IsMadeIn shape p (flow.InMemoryMap m) → HasInputsOf (flow.InMemoryMap m) k
  has-map m k e made =
      let own = by-itself (in_memory_map (step_of m.map)) p.schema (m.input.schema ∷ []) (as-held (in_memory_map (step_of m.map)) (m.input.schema ∷ []) made.shows made.holds_inputs) in
      (plain (flow.InMemoryMap m) k e made, can-map F (step_of m.map) m.input.schema p.schema own.parameters own.kinds own.rules own.schema (held-good (m.input.schema ∷ []) made.holds_inputs))

  has-join : (m : InMemoryJoinNode) (k : ℕ) → k ≡ length p.inputs → IsMadeIn shape p (flow.InMemoryJoin m) → HasInputsOf (flow.InMemoryJoin m) k
  has-join m k e made =
      let o = join_shown m.left_on.items m.right_on.items m.args in
      let ss = m.left.schema ∷ m.right.schema ∷ [] in
      let own = by-itself (in_memory_join o) p.schema ss (as-held (in_memory_join o) ss made.shows made.holds_inputs) in
      let fields = subst (HasFieldsOf (join_schema o m.left.schema m.right.schema)) (sym made.holds_schema) own.schema in
      (plain (flow.InMemoryJoin m) k e made, can-join F o m.left.schema m.right.schema m.output_schema own.kinds own.rules fields (held-good ss made.holds_inputs))

  has-zip : (z : ZipNode) (k : ℕ) → k ≡ length p.inputs → IsMadeIn shape p (flow.Zip z) → HasInputsOf (flow.Zip z) k
  has-zip z k e made = (plain (flow.Zip z) k e made, ap length new.came ∙ length-replicate (length (input_schemas shape p)) 0 ∙ schemas-count ∙ sym e, new.heads ∙ schemas-count ∙ sym e)
    where
      new : IsNewZip z.null_extend (length (input_schemas shape p)) z
      new = let P : PhysicalKind → Type 0 = λ kind. IsNewOf kind p.schema (input_schemas shape p) (flow.Zip z) in subst P (sym made.shows) made.new

  has-inputs : (c : FlowNode) (k : ℕ) → k ≡ length p.inputs → IsMadeIn shape p c → HasInputsOf c k
  has-inputs (flow.InMemoryMap m) k e made = has-map m k e made
  has-inputs (flow.InMemoryJoin m) k e made = has-join m k e made
  has-inputs (flow.Zip z) k e made = has-zip z k e made
  has-inputs (flow.Filter m) k e made = plain (flow.Filter m) k e made
  has-inputs (flow.Select m) k e made = plain (flow.Select m) k e made
  has-inputs (flow.InputIndependentSelect m) k e made = plain (flow.InputIndependentSelect m) k e made
  has-inputs (flow.SimpleProjection m) k e made = plain (flow.SimpleProjection m) k e made
  has-inputs (flow.WithRowIndex m) k e made = plain (flow.WithRowIndex m) k e made
  has-inputs (flow.Map m) k e made = plain (flow.Map m) k e made
  has-inputs (flow.StreamingSlice m) k e made = plain (flow.StreamingSlice m) k e made
  has-inputs (flow.NegativeSlice m) k e made = plain (flow.NegativeSlice m) k e made
  has-inputs (flow.InMemorySource m) k e made = plain (flow.InMemorySource m) k e made
  has-inputs (flow.OrderedUnion m) k e made = plain (flow.OrderedUnion m) k e made
  has-inputs (flow.Multiplexer m) k e made = plain (flow.Multiplexer m) k e made
  has-inputs (flow.InMemorySink m) k e made = plain (flow.InMemorySink m) k e made
  has-inputs (flow.Reduce m) k e made = plain (flow.Reduce m) k e made
  has-inputs (flow.GroupBy m) k e made = plain (flow.GroupBy m) k e made
  has-inputs (flow.EquiJoin m) k e made = plain (flow.EquiJoin m) k e made

-- a graph that was built of a sound shape
pub built-complete : (F : Functions) (shape : Shape) (g : Graph FlowNode) → IsSound F shape → IsBuiltOf shape g → IsComplete HasPorts (standing_of g)
built-complete F shape g sound built = record { one_reader = one-reader; ports = ports }
  where
    readers : (n : ℕ) → readers_of n (wires_of g.pipes.slots) ≡ shape_readers shape n
    readers n = ap (readers_of n) built.wires ∙ readers-same shape n

    port-readers : (n port : ℕ) → readers_of_port n port (wires_of g.pipes.slots) ≡ shape_port_readers shape n port
    port-readers n port = ap (readers_of_port n port) built.wires ∙ port-readers-same shape n port

    one-reader : (n port : ℕ) → port < readers_of n (wires_of g.pipes.slots) → readers_of_port n port (wires_of g.pipes.slots) ≡ 1
    one-reader n port l = by (slice_get shape n) refl
      where
        none : length shape ≤ n → shape_readers shape n ≡ 0
        none past = none-read shape n (λ j q e. weaker j n (let inside = within shape j q e in omega (arith, inside, past)) q.inputs (sound.0 j q e).earlier)

        by : (o : Option PhysicalNode) → slice_get shape n ≡ o → readers_of_port n port (wires_of g.pipes.slots) ≡ 1
        by None e = let r = readers n in let z = none (past-end shape n e) in absurd (omega (arith, r, z, l))
        by (Some p) e = port-readers n port ∙ (sound.1 n p e).one_reader port (let r = readers n in omega (arith, r, l))

    ports : (n : ℕ) (c : FlowNode) → slice_get (nodes_of g.nodes.slots) n ≡ Some c → HasPorts c (inputs_of n (wires_of g.pipes.slots)) (readers_of n (wires_of g.pipes.slots))
    ports n c e = by (zip-at (IsMadeIn shape) shape (nodes_of g.nodes.slots) n c built.nodes e)
      where
        by : (p : PhysicalNode) × (slice_get shape n ≡ Some p) × IsMadeIn shape p c → HasPorts c (inputs_of n (wires_of g.pipes.slots)) (readers_of n (wires_of g.pipes.slots))
        by (p, at, made) =
            let many : inputs_of n (wires_of g.pipes.slots) ≡ length p.inputs = ap (inputs_of n) built.wires ∙ into 0 n n shape p (omega arith) at in
            let P : PhysicalKind → Type 0 = λ kind. HasReaders kind (readers_of n (wires_of g.pipes.slots)) in
            (has-inputs F shape sound.0 n p at c (inputs_of n (wires_of g.pipes.slots)) many made, subst P (sym made.shows) (subst (HasReaders p.kind) (sym (readers n)) (sound.1 n p at).readers))
