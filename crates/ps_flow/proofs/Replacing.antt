-- One node of a graph is replaced: the graph is linked as before, and its nodes have what those of a world have where that node does.
use Rattle.std.proofs.Common.{◌≡◌, ℕ, inl, inr, Bool, List, length, Some, refl, sym, ap, subst, ◌∙◌}
use Rattle.std.specs.Prelude.{IsTrue, map, slice_get, slice_set}
use Rattle.std.proofs.lemmas.Bool.{cases_eq}
use Rattle.std.proofs.lemmas.List.{length-set}
use Rattle.keyed_slots.specs.Slots.{value_at}
use Rattle.ps_flow.proofs.Stepping.{set_alike}
use Rattle.ps_flow.specs.Standing.{HaveAll, seen_as}
use Rattle.ps_graph.proofs.Places.{value_there}
use Rattle.ps_graph.proofs.Telling.{value_other, value_set}
use Rattle.ps_graph.proofs.Turning.{linked_alike, map_set, set_same, there_set, values_set}
use Rattle.ps_graph.specs.declared.graph.Graph.{Graph}
use Rattle.ps_graph.specs.declared.graph.GraphNode.{GraphNode}
use Rattle.ps_graph.specs.Linked.{JoinAlike, joined}
use Rattle.ps_graph.specs.Shown.{IsLinked, are_there, nodes_of, values}
use Rattle.ps_graph.specs.Turning.{origins_of}
use Rattle.ps_meaning.specs.Shape.{Shape}
use Rattle.ps_meaning.specs.Sound.{input_schemas}
use Rattle.ps_options.specs.declared.options.Options.{Options}
use Rattle.ps_settle.proofs.Members.{at_both, map_at, set_here, set_other}
use Rattle.ps_turns.specs.Progress.{Progress}
use Rattle.ps_world.specs.World.{Node}
use Rattle.turn_laws.specs.Updating.{SeenNode}

module _ {N : Type 0} (g : Graph N) (linked : IsLinked g) (v : ℕ) (node : GraphNode N) (at : value_at g.nodes.slots v ≡ Some node) where
  value_is : slice_get (values g.nodes.slots) v ≡ Some node
  value_is = sym (value_there g.nodes.slots linked.nodes_there v) ∙ at

  pub node_stands : slice_get (nodes_of g.nodes.slots) v ≡ Some node.compute
  node_stands = map_at (λ (n : GraphNode N). n.compute) (values g.nodes.slots) v node value_is

  module _ (after : N) (g' : Graph N) (next : g'.nodes.slots ≡ slice_set g.nodes.slots v (Some (record node { compute = after }))) (same : g'.pipes.slots ≡ g.pipes.slots) where
    pub nodes_next : nodes_of g'.nodes.slots ≡ slice_set (nodes_of g.nodes.slots) v after
    nodes_next =
        ap (map (λ (n : GraphNode N). n.compute)) (ap values next ∙ values_set g.nodes.slots v (record node { compute = after }) linked.nodes_there)
        ∙ map_set (λ (n : GraphNode N). n.compute) (values g.nodes.slots) v (record node { compute = after })

    was : (n : ℕ) (x : GraphNode N) → value_at g'.nodes.slots n ≡ Some x → (y : GraphNode N) × (value_at g.nodes.slots n ≡ Some y) × (x.inputs ≡ y.inputs) × (x.outputs ≡ y.outputs)
    was n x e = elim (cases_eq n v) [
      | inl is ↦
          let here : value_at g'.nodes.slots v ≡ Some (record node { compute = after }) = ap (λ l. value_at l v) next ∙ value_set g.nodes.slots v node (record node { compute = after }) at in
          let x_is : record node { compute = after } ≡ x = (let both : Some (record node { compute = after }) ≡ Some x = sym here ∙ ap (value_at g'.nodes.slots) (sym is) ∙ e in cc) in
          (node, ap (value_at g.nodes.slots) is ∙ at, sym (ap (λ (z : GraphNode N). z.inputs) x_is), sym (ap (λ (z : GraphNode N). z.outputs) x_is))
      | inr other ↦ (x, sym (ap (λ l. value_at l n) next ∙ value_other g.nodes.slots v n (Some (record node { compute = after })) other) ∙ e, refl, refl)
    ]

    alike : JoinAlike g.pipes.slots g'.pipes.slots
    alike = record { there = subst (λ l. IsTrue (are_there l)) (sym same) linked.pipes_there; long = ap length same; alike = ap (λ l. map joined (values l)) same }

    -- it comes from the logical node from which it came
    pub origins_next : origins_of g'.nodes.slots ≡ origins_of g.nodes.slots
    origins_next =
        ap (map (λ (n : GraphNode N). n.origin)) (ap values next ∙ values_set g.nodes.slots v (record node { compute = after }) linked.nodes_there)
        ∙ map_set (λ (n : GraphNode N). n.origin) (values g.nodes.slots) v (record node { compute = after })
        ∙ set_same (origins_of g.nodes.slots) v node.origin (map_at (λ (n : GraphNode N). n.origin) (values g.nodes.slots) v node value_is)

    pub linked_next : IsLinked g'
    linked_next =
        linked_alike g g' linked (subst (λ l. IsTrue (are_there l)) (sym next) (there_set g.nodes.slots v (record node { compute = after }) linked.nodes_there)) (ap length next ∙ length-set g.nodes.slots v (Some (record node { compute = after }))) alike was

    module _ (Has : Options → N → SeenNode → Type 0) (o : Options) (xs : List Node) (all : HaveAll Has o (map (λ (x : Node). x.node) xs) xs (nodes_of g.nodes.slots)) where
      abbrev shape : Shape
      shape = map (λ (x : Node). x.node) xs

      long : length (nodes_of g'.nodes.slots) ≡ length (nodes_of g.nodes.slots)
      long = ap length nodes_next ∙ length-set (nodes_of g.nodes.slots) v after

      at_other : (k : ℕ) (n : N) → ¬ (k ≡ v) → slice_get (nodes_of g'.nodes.slots) k ≡ Some n → slice_get (nodes_of g.nodes.slots) k ≡ Some n
      at_other k n other there = sym (set_other (nodes_of g.nodes.slots) v k after other) ∙ sym (ap (λ l. slice_get l k) nodes_next) ∙ there

      at_here : (k : ℕ) (n : N) → k ≡ v → slice_get (nodes_of g'.nodes.slots) k ≡ Some n → after ≡ n
      at_here k n is there =
          at_both (slice_set (nodes_of g.nodes.slots) v after) v after n (set_here (nodes_of g.nodes.slots) v node.compute after node_stands) (sym (ap (λ l. slice_get l v) nodes_next) ∙ ap (slice_get (nodes_of g'.nodes.slots)) (sym is) ∙ there)

      -- it has what the node before had
      pub had_same : ((o : Options) (x : SeenNode) → Has o node.compute x → Has o after x) → HaveAll Has o (map (λ (x : Node). x.node) xs) xs (nodes_of g'.nodes.slots)
      had_same keeps =
          record {
            long = long ∙ all.long;
            each = λ k x n at_x at_n. elim (cases_eq k v) [
              | inl is ↦
                  let has = all.each k x node.compute at_x (ap (slice_get (nodes_of g.nodes.slots)) is ∙ node_stands) in
                  (has.0, subst (λ m. Has o m (seen_as shape x has.0)) (at_here k n is at_n) (keeps o (seen_as shape x has.0) has.1))
              | inr other ↦ all.each k x n at_x (at_other k n other at_n)
            ];
          }

      -- it has what the world's node has after the step
      module _ (x : Node) (here : slice_get xs v ≡ Some x) where
        pub had : (es : List Bool) × Has o node.compute (seen_as (map (λ (x : Node). x.node) xs) x es)
        had = all.each v x node.compute here node_stands

        pub has_next : (progress : Progress) (es : List Bool) → Has o after (record { node = x.node; schemas = input_schemas (map (λ (x : Node). x.node) xs) x.node; empties = es; progress = progress })
            → HaveAll Has o (map (λ (x : Node). x.node) (slice_set xs v (record x { progress = progress }))) (slice_set xs v (record x { progress = progress })) (nodes_of g'.nodes.slots)
        has_next progress es has =
            subst (λ sh. HaveAll Has o sh (slice_set xs v (record x { progress = progress })) (nodes_of g'.nodes.slots)) (sym (set_alike (λ (x : Node). x.node) xs v x (record x { progress = progress }) here refl))
            (record {
              long = long ∙ all.long ∙ sym (length-set xs v (record x { progress = progress }));
              each = λ k y n at_y at_n. elim (cases_eq k v) [
                | inl is ↦
                    let y_is : record x { progress = progress } ≡ y = at_both (slice_set xs v (record x { progress = progress })) v (record x { progress = progress }) y (set_here xs v x (record x { progress = progress }) here) (ap (slice_get (slice_set xs v (record x { progress = progress }))) (sym is) ∙ at_y) in
                    (es, subst (λ (z : Node). Has o n (seen_as shape z es)) y_is (subst (λ m. Has o m (record { node = x.node; schemas = input_schemas shape x.node; empties = es; progress = progress })) (at_here k n is at_n) has))
                | inr other ↦ all.each k y n (sym (set_other xs v k (record x { progress = progress }) other) ∙ at_y) (at_other k n other at_n)
              ];
            })
