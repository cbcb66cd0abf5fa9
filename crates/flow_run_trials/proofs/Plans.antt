-- From a sound physical plan to a graph whose run may be driven.
use Rattle.std.proofs.Common.{◌≡◌, ℕ, zero, suc, ◌<◌, ◌≤◌, Bool, true, false, List, [], ◌∷◌, length, Option, None, Some, refl, sym, ap, subst, ◌∙◌, arith}
use Rattle.std.specs.List.{AllZip}
use Rattle.std.specs.Prelude.{Err, IfOk, IfSome, IsTrue, Ok, Result, map, slice_get}
use Rattle.std.proofs.lemmas.List.{length-map}
use Rattle.std.proofs.lemmas.Option.{same_Some}
use Rattle.flow_driver.specs.Runs.{HasOneSink}
use Rattle.flow_runs.specs.Running.{IsNewNode}
use Rattle.flow_runs.specs.declared.node.RunningNode.{RunningNode}
use Rattle.graph_parts.proofs.Lists.{zip-at, zip-count}
use Rattle.graph_parts.specs.Read.{slot_schema}
use Rattle.keyed_slots.specs.Slots.{value_at}
use Rattle.plan_graphs.specs.Wiring.{IsBuiltOf as IsPutTogetherOf, IsMadeIn}
use Rattle.ps_flow.specs.Claiming.{streams}
use Rattle.ps_frame.specs.Functions.{Functions, IsLawful}
use Rattle.ps_frame.specs.Tables.{Fields}
use Rattle.ps_frame.specs.Trees.{Tree}
use Rattle.ps_graph.proofs.Places.{length_there, value_there}
use Rattle.ps_graph.specs.Shown.{IsLinked, nodes_of as graph_nodes, values}
use Rattle.ps_graph.specs.declared.graph.Graph.{Graph}
use Rattle.ps_graph.specs.declared.graph.GraphNode.{GraphNode}
use Rattle.ps_meaning.specs.Shape.{PhysicalKind, PhysicalNode, Shape, filter_node, in_memory_sink, in_memory_source, independent_select, ordered_union, select_node, simple_projection, stream_map, streaming_slice, with_row_index}
use Rattle.ps_meaning.specs.Sound.{IsSound}
use Rattle.ps_nodes.specs.Seen.{kind_of}
use Rattle.ps_nodes.specs.declared.flow.FlowNode.{FlowNode}
use Rattle.ps_phys.specs.Shown.{node_of_slot, nodes_of, shown}
use Rattle.ps_phys.specs.Underway.{numbers_in}
use Rattle.ps_phys.specs.Walks.{node_at, order_from, renumbered}
use Rattle.ps_phys.specs.declared.phys.PhysNode.{PhysNode}
use Rattle.ps_phys.specs.declared.phys.PhysNodeKey.{PhysNodeKey}
use Rattle.ps_settle.proofs.Members.{at_map, map_at}
use Rattle.pu_base.specs.declared.arena.Node.{Node}
use Rattle.run_graphs.specs.Runs.{AllStreamIn, schemas_of}
use Rattle.world_families.specs.Kinds.{IsStreaming}
use Rattle.flow_run_trials.specs.Ready.{IsOneSink, IsReady, IsRunOf, IsSink}
use Rattle.flow_run_trials.proofs.Looking.{FoundBelow, one_of_all}

-- THE SCHEMAS
schema-shown : (f : Node → Tree) (slots : List (Option PhysNode)) (n : ℕ) → (node_at (nodes_of f slots) n).schema ≡ slot_schema (value_at slots n)
schema-shown f [] n = refl
schema-shown f (None ∷ slots) zero = refl
schema-shown f (Some p ∷ slots) zero = refl
schema-shown f (s ∷ slots) (suc n) = schema-shown f slots n

abbrev pub schemas_at : List (Option PhysNode) → List PhysNodeKey → List Fields
schemas_at slots ks = map (λ (k : PhysNodeKey). slot_schema (value_at slots k.0)) ks

schemas-placed : (f : Node → Tree) (slots : List (Option PhysNode)) (order : List ℕ) (ks : List PhysNodeKey) → schemas_of (map (λ n. renumbered order (node_at (nodes_of f slots) n)) (numbers_in ks)) ≡ schemas_at slots ks
schemas-placed f slots order [] = refl
schemas-placed f slots order (k ∷ ks) = let first = schema-shown f slots k.0 in let rest = schemas-placed f slots order ks in λ i. first i ∷ rest i

-- those of the nodes that a root reaches
pub schemas-shown : (f : Node → Tree) (slots : List (Option PhysNode)) (root : ℕ) (ks : List PhysNodeKey) → numbers_in ks ≡ order_from (nodes_of f slots) root → schemas_of (shown f slots root) ≡ schemas_at slots ks
schemas-shown f slots root ks order =
    ap (λ (o : List ℕ). schemas_of (map (λ n. renumbered o (node_at (nodes_of f slots) n)) o)) (sym order) ∙ schemas-placed f slots (numbers_in ks) ks

-- and as a list that was made of them
pub schemas-made : (f : Node → Tree) (slots : List (Option PhysNode)) (root : ℕ) (ks ks' : List PhysNodeKey) (ss ss' : List Fields) → numbers_in ks ≡ order_from (nodes_of f slots) root → ks' ≡ ks → ss ≡ schemas_at slots ks' → ss' ≡ ss → schemas_of (shown f slots root) ≡ ss'
schemas-made f slots root ks ks' ss ss' order same made lent = schemas-shown f slots root ks order ∙ ap (schemas_at slots) (sym same) ∙ sym made ∙ sym lent

-- as many as the graph has nodes
pub schemas-count : (shape : Shape) (ss : List Fields) (g : Graph FlowNode) → IsLinked g → IsPutTogetherOf shape g → schemas_of shape ≡ ss → length ss ≡ length g.nodes.slots
schemas-count shape ss g linked put schemas =
    ap length (sym schemas) ∙ length-map shape (λ (p : PhysicalNode). p.schema) ∙ zip-count (IsMadeIn shape) shape (graph_nodes g.nodes.slots) put.nodes
    ∙ length-map (values g.nodes.slots) (λ (n : GraphNode FlowNode). n.compute) ∙ length_there g.nodes.slots linked.nodes_there

-- THE NODES
zip_there : {A B : Type 0} (R : A → B → Type 0) (xs : List A) (ys : List B) (k : ℕ) (x : A) → AllZip R xs ys → slice_get xs k ≡ Some x → (y : B) × (slice_get ys k ≡ Some y) × R x y
zip_there R [] ys k x all e = absurd (let clash : None ≡ Some x = e in cc)
zip_there R (w ∷ xs) [] k x all e = absurd all
zip_there R (w ∷ xs) (z ∷ ys) zero x all e = (z, refl, subst (λ v. R v z) (same_Some w x e) all.0)
zip_there R (w ∷ xs) (z ∷ ys) (suc k) x all e = zip_there R xs ys k x all.1 e

does_stream : (kind : PhysicalKind) → IsTrue (streams kind) → IsStreaming kind
does_stream (in_memory_source t) s = tt
does_stream (independent_select es) s = tt
does_stream (select_node es extends) s = tt
does_stream (filter_node e) s = tt
does_stream (simple_projection names) s = tt
does_stream (stream_map step) s = tt
does_stream (with_row_index name offset) s = tt
does_stream (streaming_slice offset n) s = tt
does_stream ordered_union s = tt
does_stream in_memory_sink s = tt
does_stream kind s = absurd (let clash : false ≡ true = s in cc)

module _ (shape : Shape) (g : Graph FlowNode) (linked : IsLinked g) (put : IsPutTogetherOf shape g) where
  -- the node of the graph at the place of one of the shape, which is of its kind
  node_there : (k : ℕ) (p : PhysicalNode) → slice_get shape k ≡ Some p → (a : GraphNode FlowNode) × (value_at g.nodes.slots k ≡ Some a) × (kind_of a.compute ≡ p.kind)
  node_there k p at =
      let y = zip_there (IsMadeIn shape) shape (graph_nodes g.nodes.slots) k p put.nodes at in
      let a = at_map (λ (n : GraphNode FlowNode). n.compute) (values g.nodes.slots) k y.0 y.1 in
      (a.0, value_there g.nodes.slots linked.nodes_there k ∙ a.1, ap kind_of a.2 ∙ y.2.shows)

  -- and the other way
  shape_there : (k : ℕ) (a : GraphNode FlowNode) → value_at g.nodes.slots k ≡ Some a → (p : PhysicalNode) × (slice_get shape k ≡ Some p) × (kind_of a.compute ≡ p.kind)
  shape_there k a at =
      let there = map_at (λ (n : GraphNode FlowNode). n.compute) (values g.nodes.slots) k a (sym (value_there g.nodes.slots linked.nodes_there k) ∙ at) in
      let p = zip-at (IsMadeIn shape) shape (graph_nodes g.nodes.slots) k a.compute put.nodes there in
      (p.0, p.1, p.2.shows)

  streaming_shape : AllStreamIn g.nodes.slots → (k : ℕ) (p : PhysicalNode) → slice_get shape k ≡ Some p → IsStreaming p.kind
  streaming_shape all k p at = let a = node_there k p at in does_stream p.kind (subst (λ (kind : PhysicalKind). IsTrue (streams kind)) a.2 (all k a.0 a.1))

  sink_shape : (place : ℕ) → IsOneSink g.nodes.slots place → HasOneSink shape
  sink_shape place one =
      let p = shape_there place one.sink one.there in
      record {
        place = place;
        sink = p.0;
        there = p.1;
        kind = sym p.2 ∙ one.kind;
        only = λ k q at kind. let a = node_there k q at in one.only k a.0 a.1 (a.2 ∙ kind);
      }

-- a graph of a run, made of what a sound plan became
pub ready : (F : Functions) (shape : Shape) (g : Graph FlowNode) (ss : List Fields) (run : Graph RunningNode) → IsLawful F → IsSound F shape → IsLinked g → IsPutTogetherOf shape g → schemas_of shape ≡ ss → IsRunOf g ss run → IsReady IsNewNode F run
ready F shape g ss run lawful sound linked put schemas made =
    record {
      linked = made.linked;
      shape = shape;
      driven = record { lawful = lawful; sound = sound; streaming = streaming_shape shape g linked put made.streaming };
      one_sink = sink_shape shape g linked put made.place made.one_sink;
      built = made.built shape put schemas (λ k p at. (sound.0 k p at).inputs);
    }

-- what is said of a graph, if there is one
pub if_made : {A E : Type 0} (P Q : A → Type 0) (r : Result (Option A) E) → ((a : A) → P a → Q a) → IfOk r (λ o. IfSome o P) → IfOk r (λ o. IfSome o Q)
if_made P Q (Err e) h p = tt
if_made P Q (Ok None) h p = tt
if_made P Q (Ok (Some a)) h p = h a p

-- the one sink, once all nodes were looked at
pub one_sink_found : (slots : List (Option (GraphNode FlowNode))) (n : ℕ) (found : Option ℕ) → length slots ≤ n → FoundBelow IsSink slots n found → IfSome found (IsOneSink slots)
one_sink_found slots n None long none = tt
one_sink_found slots n (Some place) long one = record { sink = one.value; there = one.there; kind = one.holds; only = one_of_all IsSink slots n place long one }
