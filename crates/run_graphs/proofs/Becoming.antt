-- The graph of a run that a graph becomes is linked, and built of the same shape.
use Rattle.std.proofs.Common.{◌≡◌, ℕ, zero, suc, ◌+◌, ◌<◌, ◌^◌, true, false, inl, inr, List, [], ◌∷◌, ◌++◌, length, Option, None, Some, refl, sym, ap, subst, ◌∙◌, arith}
use Rattle.std.specs.List.{AllZip}
use Rattle.std.specs.Prelude.{IsTrue, get_or, map, slice_get}
use Rattle.std.proofs.lemmas.Bool.{cases_eq}
use Rattle.std.proofs.lemmas.List.{length-map, map-append}
use Rattle.std.proofs.lemmas.Option.{same_Some, slice_get_within}
use Rattle.flow_runs.specs.Running.{IsNewNode}
use Rattle.flow_runs.specs.declared.node.RunningNode.{RunningNode}
use Rattle.graph_parts.specs.Wires.{blocked_wire, wires_from, wires_to}
use Rattle.keyed_slots.specs.Slots.{SlotList, value_at}
use Rattle.plan_graphs.specs.Made.{IsNewOf}
use Rattle.plan_graphs.specs.Wiring.{IsBuiltOf as IsPutTogetherOf, IsMadeIn}
use Rattle.ps_flow.proofs.Begun.{value_within}
use Rattle.ps_flow.specs.Claiming.{streams}
use Rattle.ps_flow.specs.Openings.{IsBuiltOf}
use Rattle.ps_frame.specs.Tables.{Fields}
use Rattle.ps_graph.proofs.Places.{all_there, length_there, value_there}
use Rattle.ps_graph.specs.Shown.{IsLinked, are_there, nodes_of, numbers, values, wires_of}
use Rattle.ps_graph.specs.Turning.{origins_of}
use Rattle.ps_graph.specs.declared.graph.Graph.{Graph}
use Rattle.ps_graph.specs.declared.graph.GraphNode.{GraphNode}
use Rattle.ps_graph.specs.declared.graph.LogicalPipe.{LogicalPipe}
use Rattle.ps_meaning.specs.Shape.{PhysicalKind, PhysicalNode, Shape, filter_node, in_memory_sink, in_memory_source, independent_select, ordered_union, select_node, simple_projection, stream_map, streaming_slice, with_row_index}
use Rattle.ps_meaning.specs.Sound.{input_schemas}
use Rattle.ps_nodes.specs.Seen.{IsNew}
use Rattle.ps_nodes.specs.declared.flow.FlowNode.{FlowNode}
use Rattle.ps_settle.proofs.Members.{at_map, map_at, same_items}
use Rattle.ps_world.specs.Opening.{pipes_from, pipes_to}
use Rattle.ps_world.specs.World.{Pipe}
use Rattle.pu_base.specs.declared.arena.Node.{Node}
use Rattle.run_graphs.specs.Runs.{AllStreamIn, AreRunning, HaveFitInputs, IsNextIn, RunsAt, schemas_of}

-- ONE NODE MORE
value_kept : {A : Type 0} (xs : List (Option A)) (y : Option A) (k : ℕ) → k < length xs → value_at (xs ++ y ∷ []) k ≡ value_at xs k
value_kept [] y k h = absurd (omega arith)
value_kept (x ∷ xs) y zero h = refl
value_kept (x ∷ xs) y (suc k) h = value_kept xs y k (omega arith)

value_new : {A : Type 0} (xs : List (Option A)) (y : Option A) → value_at (xs ++ y ∷ []) (length xs) ≡ y
value_new [] y = refl
value_new (x ∷ xs) y = value_new xs y

long_new : {A : Type 0} (xs : List A) (y : A) → length (xs ++ y ∷ []) ≡ length xs + 1
long_new [] y = refl
long_new (x ∷ xs) y = let rest = long_new xs y in omega (arith, rest)

pub none_runs : (old : List (Option (GraphNode FlowNode))) (ss : List Fields) (new : List (Option (GraphNode RunningNode))) → new ≡ [] → AreRunning 0 old ss new
none_runs old ss new e = record { long = ap length e; each = λ k h. absurd (omega arith) }

pub next_runs : (count : ℕ) (old : List (Option (GraphNode FlowNode))) (ss : List Fields) (new new' : List (Option (GraphNode RunningNode))) (a : GraphNode FlowNode) (s : Fields) → value_at old count ≡ Some a → slice_get ss count ≡ Some s → AreRunning count old ss new
    → IsNextIn (Some a) (Some s) new new' → AreRunning (count + 1) old ss new'
next_runs count old ss new new' a s at schema so_far (b, runs, next) =
    record {
      long = ap length next ∙ long_new new (Some b) ∙ ap (λ (k : ℕ). k + 1) so_far.long;
      each = λ k h. elim (cases_eq k count) [
        | inl is ↦
            subst (λ (j : ℕ). RunsAt old ss new' j) (sym is) (record {
              was = a;
              schema = s;
              is = b;
              old_at = at;
              schema_at = schema;
              new_at = ap (λ (j : ℕ). value_at new' j) (sym so_far.long) ∙ ap (λ (l : List (Option (GraphNode RunningNode))). value_at l (length new)) next ∙ value_new new (Some b);
              runs = runs;
            })
        | inr other ↦
            let long = so_far.long in
            let r = so_far.each k (omega (arith, h, other)) in
            record {
              was = r.was;
              schema = r.schema;
              is = r.is;
              old_at = r.old_at;
              schema_at = r.schema_at;
              new_at = ap (λ (l : List (Option (GraphNode RunningNode))). value_at l k) next ∙ value_kept new (Some b) k (omega (arith, h, other, long)) ∙ r.new_at;
              runs = r.runs;
            }
      ];
    }

-- the same, by what stands at its place
pub next_by : (count : ℕ) (old : List (Option (GraphNode FlowNode))) (ss : List Fields) (new new' : List (Option (GraphNode RunningNode))) (x : Option (GraphNode FlowNode)) (y : Option Fields) → value_at old count ≡ x → slice_get ss count ≡ y → AreRunning count old ss new → IsNextIn x y new new'
    → AreRunning (count + 1) old ss new'
next_by count old ss new new' None y at schema so_far next = absurd next
next_by count old ss new new' (Some a) None at schema so_far next = absurd next
next_by count old ss new new' (Some a) (Some s) at schema so_far next = next_runs count old ss new new' a s at schema so_far next

-- what is found at a place inside
pub item_found : {A : Type 0} (xs : List A) (k : ℕ) (x : A) → k < length xs → x ≡ get_or xs k x → slice_get xs k ≡ Some x
item_found [] k x h e = absurd (omega arith)
item_found (y ∷ ys) zero x h e = ap Some (sym e)
item_found (y ∷ ys) (suc k) x h e = item_found ys k x (omega arith) e

-- PIPES
wires_to_same : (n i : ℕ) (qs : List (ℕ × ℕ)) → wires_to n i qs ≡ map (λ (p : Pipe). p.wire) (pipes_to n i qs)
wires_to_same n i [] = refl
wires_to_same n i (q ∷ qs) = let rest = wires_to_same n (i + 1) qs in λ j. blocked_wire n i q ∷ rest j

wires_same : (n : ℕ) (shape : Shape) → wires_from n shape ≡ map (λ (p : Pipe). p.wire) (pipes_from shape n)
wires_same n [] = refl
wires_same n (p ∷ ps) = (λ j. wires_to_same n 0 p.inputs j ++ wires_same (n + 1) ps j) ∙ sym (map-append (λ (q : Pipe). q.wire) (pipes_to n 0 p.inputs) (pipes_from ps (n + 1)))

-- NODES
zip_at : {A B : Type 0} (R : A → B → Type 0) (xs : List A) (ys : List B) (k : ℕ) (x : A) (y : B) → AllZip R xs ys → slice_get xs k ≡ Some x → slice_get ys k ≡ Some y → R x y
zip_at R [] ys k x y all e f = absurd (let clash : None ≡ Some x = e in cc)
zip_at R (a ∷ xs) [] k x y all e f = absurd all
zip_at R (a ∷ xs) (b ∷ ys) zero x y all e f = subst (λ z. R z y) (same_Some a x e) (subst (λ z. R a z) (same_Some b y f) all.0)
zip_at R (a ∷ xs) (b ∷ ys) (suc k) x y all e f = zip_at R xs ys k x y all.1 e f

-- what streams has nothing of its inputs to keep
new_streaming : (kind : PhysicalKind) (s : Fields) (ss : List Fields) (n : FlowNode) → IsTrue (streams kind) → IsNewOf kind s ss n → IsNew kind n
new_streaming (in_memory_source t) s ss n streaming new = new
new_streaming (independent_select es) s ss n streaming new = new
new_streaming (select_node es extends) s ss n streaming new = new
new_streaming (filter_node e) s ss n streaming new = new
new_streaming (simple_projection names) s ss n streaming new = new
new_streaming (stream_map step) s ss n streaming new = new
new_streaming (with_row_index name offset) s ss n streaming new = new
new_streaming (streaming_slice offset k) s ss n streaming new = new
new_streaming ordered_union s ss n streaming new = new
new_streaming in_memory_sink s ss n streaming new = new
new_streaming kind s ss n streaming new = absurd (let clash : false ≡ true = streaming in cc)

module _ (g : Graph FlowNode) (linked : IsLinked g) (streaming : AllStreamIn g.nodes.slots) (ss : List Fields) (long : length ss ≡ length g.nodes.slots) (g' : Graph RunningNode) (pipes : g'.pipes ≡ g.pipes) (are : AreRunning (length ss) g.nodes.slots ss g'.nodes.slots) where
  as_long : length g'.nodes.slots ≡ length g.nodes.slots
  as_long = are.long ∙ long

  stand : IsTrue (are_there g'.nodes.slots)
  stand = all_there g'.nodes.slots (λ k h. let is = are.long in let r = are.each k (omega (arith, h, is)) in (r.is, r.new_at))

  -- a node of the run is what one of the graph became
  came : (k : ℕ) (x : GraphNode RunningNode) → value_at g'.nodes.slots k ≡ Some x → RunsAt g.nodes.slots ss g'.nodes.slots k
  came k x e = let within = value_within g'.nodes.slots k x e in let is = are.long in are.each k (omega (arith, within, is))

  is_it : (k : ℕ) (x : GraphNode RunningNode) (e : value_at g'.nodes.slots k ≡ Some x) → (came k x e).is ≡ x
  is_it k x e = same_Some (came k x e).is x (sym (came k x e).new_at ∙ e)

  pub running_linked : IsLinked g'
  running_linked =
      subst (λ (ps : SlotList LogicalPipe). IsLinked (record g' { pipes = ps })) (sym pipes) (record {
        nodes_there = stand;
        pipes_there = linked.pipes_there;
        few_nodes = subst (λ (k : ℕ). k < 2 ^ 32) (sym as_long) linked.few_nodes;
        few_pipes = linked.few_pipes;
        inputs = λ k x e.
            let r = came k x e in
            ap (λ (y : GraphNode RunningNode). numbers y.inputs.items) (sym (is_it k x e)) ∙ ap (λ keys. numbers keys.items) r.runs.inputs ∙ linked.inputs k r.was r.old_at;
        outputs = λ k x e.
            let r = came k x e in
            ap (λ (y : GraphNode RunningNode). numbers y.outputs.items) (sym (is_it k x e)) ∙ ap (λ keys. numbers keys.items) r.runs.outputs ∙ linked.outputs k r.was r.old_at;
        inside = λ p among. let i = linked.inside p among in (subst (λ (k : ℕ). p.sender.0 < k) (sym as_long) i.0, i.1, subst (λ (k : ℕ). p.receiver.0 < k) (sym as_long) i.2);
        numbered = linked.numbered;
      })

  module _ (shape : Shape) (put : IsPutTogetherOf shape g) (schemas : schemas_of shape ≡ ss) (fit : HaveFitInputs shape) where
    many : length (values g'.nodes.slots) ≡ length shape
    many = length_there g'.nodes.slots stand ∙ are.long ∙ ap length (sym schemas) ∙ length-map shape (λ (p : PhysicalNode). p.schema)

    -- the node at a place
    module _ (k : ℕ) (p : PhysicalNode) (at : slice_get shape k ≡ Some p) where
      inside : k < length ss
      inside = let within = slice_get_within shape k p at in let same = ap length (sym schemas) ∙ length-map shape (λ (q : PhysicalNode). q.schema) in omega (arith, within, same)

      r : RunsAt g.nodes.slots ss g'.nodes.slots k
      r = are.each k inside

      was_at : slice_get (values g.nodes.slots) k ≡ Some r.was
      was_at = sym (value_there g.nodes.slots linked.nodes_there k) ∙ r.old_at

      made : IsMadeIn shape p r.was.compute
      made = zip_at (IsMadeIn shape) shape (nodes_of g.nodes.slots) k p r.was.compute put.nodes at (map_at (λ (x : GraphNode FlowNode). x.compute) (values g.nodes.slots) k r.was was_at)

      streams_there : IsTrue (streams p.kind)
      streams_there = subst (λ (j : PhysicalKind). IsTrue (streams j)) made.shows (streaming k r.was r.old_at)

      its_schema : p.schema ≡ r.schema
      its_schema = same_Some p.schema r.schema (sym (map_at (λ (q : PhysicalNode). q.schema) shape k p at) ∙ ap (λ l. slice_get l k) schemas ∙ r.schema_at)

      its_origin : record { 0 = p.origin } ≡ r.was.origin
      its_origin =
          same_Some (record { 0 = p.origin }) r.was.origin (
          sym (map_at (λ (q : PhysicalNode). record { 0 = q.origin }) shape k p at) ∙ ap (λ l. slice_get l k) (sym put.origins) ∙ map_at (λ (x : GraphNode FlowNode). x.origin) (values g.nodes.slots) k r.was was_at
          )

      new_here : IsNewNode r.is.compute p (input_schemas shape p)
      new_here = r.runs.new p (input_schemas shape p) (new_streaming p.kind p.schema (input_schemas shape p) r.was.compute streams_there made.new) its_schema (ap (λ (o : Node). o.0) its_origin) (fit k p at)

      is_at : slice_get (values g'.nodes.slots) k ≡ Some r.is
      is_at = sym (value_there g'.nodes.slots stand k) ∙ r.new_at

    pub running_built : IsBuiltOf IsNewNode shape g'
    running_built =
        record {
          long = length-map (values g'.nodes.slots) (λ (x : GraphNode RunningNode). x.compute) ∙ many;
          nodes = λ k p n at there.
              let x = at_map (λ (y : GraphNode RunningNode). y.compute) (values g'.nodes.slots) k n there in
              let same : (r k p at).is ≡ x.0 = same_Some (r k p at).is x.0 (sym (is_at k p at) ∙ x.1) in
              subst (λ (m : RunningNode). IsNewNode m p (input_schemas shape p)) (ap (λ (y : GraphNode RunningNode). y.compute) same ∙ x.2) (new_here k p at);
          origins =
              same_items (origins_of g'.nodes.slots) (map (λ (p : PhysicalNode). record { 0 = p.origin }) shape)
              (length-map (values g'.nodes.slots) (λ (x : GraphNode RunningNode). x.origin) ∙ many ∙ sym (length-map shape (λ (p : PhysicalNode). record { 0 = p.origin })))
              (λ k a b there here.
              let x = at_map (λ (y : GraphNode RunningNode). y.origin) (values g'.nodes.slots) k a there in
              let p = at_map (λ (q : PhysicalNode). record { 0 = q.origin }) shape k b here in
              let same : (r k p.0 p.1).is ≡ x.0 = same_Some (r k p.0 p.1).is x.0 (sym (is_at k p.0 p.1) ∙ x.1) in
              sym x.2 ∙ ap (λ (y : GraphNode RunningNode). y.origin) (sym same) ∙ (r k p.0 p.1).runs.origin ∙ sym (its_origin k p.0 p.1) ∙ p.2);
          wires = ap (λ (ps : SlotList LogicalPipe). wires_of ps.slots) pipes ∙ put.wires ∙ wires_same 0 shape;
        }
