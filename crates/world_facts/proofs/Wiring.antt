-- The wires of a reached world are those of its shape: they come from earlier nodes and go to nodes.
use Rattle.std.proofs.Common.{◌≡◌, ℕ, suc, ◌<◌, ◌+◌, ◌⊎◌, List, [], ◌∷◌, length, Some, refl, sym, ap, subst, ◌∙◌, inl, inr, arith}
use Rattle.std.specs.Prelude.{Contains, map, slice_get}
use Rattle.std.specs.List.{AllByRecursion}
use Rattle.std.proofs.lemmas.List.Elements.{Contains-append_cases}
use Rattle.std.proofs.lemmas.Option.{slice_get_within}
use Rattle.ps_frame.specs.Functions.{Functions}
use Rattle.ps_ports.specs.Wires.{Wire}
use Rattle.ps_meaning.specs.Shape.{PhysicalNode, Shape}
use Rattle.ps_world.specs.Facts.{FactsDownTo, Joins, joins_of}
use Rattle.ps_world.specs.Opening.{fresh_pipe, pipes_from, pipes_to}
use Rattle.ps_world.specs.World.{Node, Pipe, World, shape_of, wires_of}
use Rattle.world_laws.proofs.Agree.{from_map}
use Rattle.world_laws.proofs.InOrder.{contains_cases, contains_first, contains_later, contains_map, none_in_nil}

-- a pipe to a node stands for one of its inputs
pub record ToInput (n : ℕ) (qs : List (ℕ × ℕ)) (x : Pipe) : Type 0 where
  pub source : ℕ × ℕ
  pub is_one : Contains qs source
  pub sender : x.wire.sender ≡ source.0
  pub receiver : x.wire.receiver ≡ n

of_inputs : (n i : ℕ) (qs : List (ℕ × ℕ)) (x : Pipe) → Contains (pipes_to n i qs) x → ToInput n qs x
of_inputs n i [] x c = absurd (none_in_nil x c)
of_inputs n i (q ∷ qs) x c = by (of_inputs n (i + 1) qs x) (contains_cases (fresh_pipe q.0 q.1 n i) x (pipes_to n (i + 1) qs) c)
  where
    by : (Contains (pipes_to n (i + 1) qs) x → ToInput n qs x) → (fresh_pipe q.0 q.1 n i ≡ x) ⊎ Contains (pipes_to n (i + 1) qs) x → ToInput n (q ∷ qs) x
    by rest (inl same) = record { source = q; is_one = contains_first q qs; sender = sym (ap (λ (p : Pipe). p.wire.sender) same); receiver = sym (ap (λ (p : Pipe). p.wire.receiver) same) }
    by rest (inr later) = let r = rest later in record { source = r.source; is_one = contains_later q r.source qs r.is_one; sender = r.sender; receiver = r.receiver }

-- a pipe of a shape stands for an input of one of its nodes
pub record ToNode (k : ℕ) (shape : Shape) (x : Pipe) : Type 0 where
  pub place : ℕ
  pub node : PhysicalNode
  pub is_node : slice_get shape place ≡ Some node
  pub input : ToInput (k + place) node.inputs x

pub of_shape : (k : ℕ) (shape : Shape) (x : Pipe) → Contains (pipes_from shape k) x → ToNode k shape x
of_shape k [] x c = absurd (none_in_nil x c)
of_shape k (p ∷ ps) x c = by (of_shape (k + 1) ps x) (Contains-append_cases (pipes_to k 0 p.inputs) (pipes_from ps (k + 1)) x c)
  where
    by : (Contains (pipes_from ps (k + 1)) x → ToNode (k + 1) ps x) → Contains (pipes_to k 0 p.inputs) x ⊎ Contains (pipes_from ps (k + 1)) x → ToNode k (p ∷ ps) x
    by rest (inl here) = let r = of_inputs k 0 p.inputs x here in record { place = 0; node = p; is_node = refl; input = subst (λ n. ToInput n p.inputs x) (omega arith) r }
    by rest (inr later) =
        let r = rest later in
        record { place = suc r.place; node = r.node; is_node = r.is_node; input = subst (λ n. ToInput n r.node.inputs x) (omega arith) r.input }

pub each_of : {A : Type 0} (P : A → Type 0) (xs : List A) (x : A) → AllByRecursion P xs → Contains xs x → P x
each_of P [] x all c = absurd (none_in_nil x c)
each_of P (y ∷ ys) x all c = by (each_of P ys x all.1) (contains_cases y x ys c)
  where
    by : (Contains ys x → P x) → (y ≡ x) ⊎ Contains ys x → P x
    by rest (inl same) = subst P same all.0
    by rest (inr later) = rest later

module _ {k : ℕ} (F : Functions) (w : World) (f : FactsDownTo F k w) where
  -- each wire is that of an input of a node of the shape
  of_wire : (p : Wire) → Contains (wires_of w) p → (x : Pipe) × ToNode 0 (shape_of w) x × (x.wire.sender ≡ p.sender) × (x.wire.receiver ≡ p.receiver)
  of_wire p c =
      let y = from_map (λ (z : Pipe). z.wire) p w.pipes c in
      let in_shape : Contains (map joins_of (pipes_from (shape_of w) 0)) (joins_of y.0) = subst (λ js. Contains js (joins_of y.0)) f.wires (contains_map joins_of y.0 w.pipes y.1) in
      let x = from_map joins_of (joins_of y.0) (pipes_from (shape_of w) 0) in_shape in
      (x.0, of_shape 0 (shape_of w) x.0 x.1, ap (λ (j : Joins). j.sender) x.2 ∙ ap (λ (q : Wire). q.sender) y.2, ap (λ (j : Joins). j.receiver) x.2 ∙ ap (λ (q : Wire). q.receiver) y.2)

  pub wires_forward : (p : Wire) → Contains (wires_of w) p → p.sender < p.receiver
  wires_forward p c =
      let x = of_wire p c in
      let t = x.1 in
      let earlier = each_of (λ (i : ℕ × ℕ). i.0 < t.place) t.node.inputs t.input.source (f.sound.0 t.place t.node t.is_node).earlier t.input.is_one in
      let s = t.input.sender in
      let r = t.input.receiver in
      let a = x.2 in
      let b = x.3 in
      omega arith

  length_shape : (nodes : List Node) → length (map (λ (n : Node). n.node) nodes) ≡ length nodes
  length_shape [] = refl
  length_shape (n ∷ ns) = ap suc (length_shape ns)

  pub wires_inside : (p : Wire) → Contains (wires_of w) p → p.receiver < length w.nodes
  wires_inside p c =
      let x = of_wire p c in
      let t = x.1 in
      let within = slice_get_within (shape_of w) t.place t.node t.is_node in
      let same = length_shape w.nodes in
      let r = t.input.receiver in
      let b = x.3 in
      omega arith
