-- Which node sends what comes to an input, and with which schema.
use Rattle.std.proofs.Common.{◌≡◌, ℕ, suc, ◌+◌, ◌⊎◌, inl, inr, Bool, true, false, List, [], ◌∷◌, Option, Some, None, refl, sym, ap, ◌∙◌, arith}
use Rattle.std.specs.Prelude.{Contains, IsTrue, map, nat_eq, slice_get, ◌&&◌}
use Rattle.std.proofs.lemmas.List.Elements.{Contains-append_cases}
use Rattle.ps_flow.specs.Standing.{schema_if, setting_of}
use Rattle.ps_frame.specs.Functions.{Functions}
use Rattle.ps_meaning.specs.Shape.{PhysicalNode, Shape}
use Rattle.ps_meaning.specs.Sound.{input_schemas, schema_at}
use Rattle.ps_settle.proofs.Ends.{is_number}
use Rattle.ps_settle.proofs.Members.{at_both, at_map, contains_at, contains_cases, map_at, none_in_nil, place_of}
use Rattle.ps_world.specs.Facts.{Facts, Joins, joins_of}
use Rattle.ps_world.specs.Opening.{fresh_pipe, pipes_from, pipes_to}
use Rattle.ps_world.specs.Pipes.{is_input}
use Rattle.ps_world.specs.World.{Pipe, World, shape_of}

-- a pipe of a shape leads to the input of a node that names its sender
record ToInput (n i : ℕ) (qs : List (ℕ × ℕ)) (x : Pipe) : Type 0 where
  place : ℕ
  input : x.wire.input ≡ i + place
  receiver : x.wire.receiver ≡ n
  names : slice_get qs place ≡ Some (x.wire.sender, x.wire.port)

to_input : (n i : ℕ) (qs : List (ℕ × ℕ)) (x : Pipe) → Contains (pipes_to n i qs) x → ToInput n i qs x
to_input n i [] x c = absurd (none_in_nil x c)
to_input n i (q ∷ qs) x c = by (to_input n (i + 1) qs x) (contains_cases (fresh_pipe q.0 q.1 n i) x (pipes_to n (i + 1) qs) c)
  where
    by : (Contains (pipes_to n (i + 1) qs) x → ToInput n (i + 1) qs x) → (fresh_pipe q.0 q.1 n i ≡ x) ⊎ Contains (pipes_to n (i + 1) qs) x → ToInput n i (q ∷ qs) x
    by rest (inl same) =
        let input = ap (λ (p : Pipe). p.wire.input) same in
        record { place = 0; input = omega (arith, input); receiver = sym (ap (λ (p : Pipe). p.wire.receiver) same); names = ap (λ (p : Pipe). Some (p.wire.sender, p.wire.port)) same }
    by rest (inr later) = let r = rest later in let input = r.input in record { place = suc r.place; input = omega (arith, input); receiver = r.receiver; names = r.names }

record ToNode (k : ℕ) (shape : Shape) (x : Pipe) : Type 0 where
  place : ℕ
  node : PhysicalNode
  is_node : slice_get shape place ≡ Some node
  receiver : x.wire.receiver ≡ k + place
  names : slice_get node.inputs x.wire.input ≡ Some (x.wire.sender, x.wire.port)

to_node : (k : ℕ) (shape : Shape) (x : Pipe) → Contains (pipes_from shape k) x → ToNode k shape x
to_node k [] x c = absurd (none_in_nil x c)
to_node k (p ∷ ps) x c = by (to_node (k + 1) ps x) (Contains-append_cases (pipes_to k 0 p.inputs) (pipes_from ps (k + 1)) x c)
  where
    by : (Contains (pipes_from ps (k + 1)) x → ToNode (k + 1) ps x) → Contains (pipes_to k 0 p.inputs) x ⊎ Contains (pipes_from ps (k + 1)) x → ToNode k (p ∷ ps) x
    by rest (inl here) =
        let r = to_input k 0 p.inputs x here in
        let input = r.input in
        let receiver = r.receiver in
        let place : r.place ≡ x.wire.input = omega (arith, input) in
        record { place = 0; node = p; is_node = refl; receiver = omega (arith, receiver); names = ap (slice_get p.inputs) (sym place) ∙ r.names }
    by rest (inr later) = let r = rest later in let receiver = r.receiver in record { place = suc r.place; node = r.node; is_node = r.is_node; receiver = omega (arith, receiver); names = r.names }

schema_same : (o : Option PhysicalNode) → schema_at o ≡ schema_if o
schema_same None = refl
schema_same (Some p) = refl

module _ (F : Functions) (w : World) (facts : Facts F w) (n i : ℕ) (p : Pipe) (among : Contains w.pipes p) (leads : IsTrue (is_input n i p)) where
  both : (a b : Bool) → IsTrue (a && b) → (a ≡ true) × (b ≡ true)
  both true true e = (refl, refl)
  both true false e = absurd (let clash : false ≡ true = e in cc)
  both false b e = absurd (let clash : false ≡ true = e in cc)

  pub receiver_is : p.wire.receiver ≡ n
  receiver_is = is_number p.wire.receiver n (both (nat_eq p.wire.receiver n) (nat_eq p.wire.input i) leads).0

  pub input_is : p.wire.input ≡ i
  input_is = is_number p.wire.input i (both (nat_eq p.wire.receiver n) (nat_eq p.wire.input i) leads).1

  -- the node's input names the pipe's sender
  pub names_sender : (q : PhysicalNode) → slice_get (shape_of w) n ≡ Some q → slice_get q.inputs i ≡ Some (p.wire.sender, p.wire.port)
  names_sender q at =
      let k = place_of w.pipes p among in
      let there : slice_get (map joins_of (pipes_from (shape_of w) 0)) k.0 ≡ Some (joins_of p) = ap (λ l. slice_get l k.0) (sym facts.wires) ∙ map_at joins_of w.pipes k.0 p k.1 in
      let x = at_map joins_of (pipes_from (shape_of w) 0) k.0 (joins_of p) there in
      let node = to_node 0 (shape_of w) x.0 (contains_at (pipes_from (shape_of w) 0) k.0 x.0 x.1) in
      let receiver = node.receiver in
      let joins = ap (λ (j : Joins). j.receiver) x.2 in
      let place : node.place ≡ n = omega (arith, receiver, joins, receiver_is) in
      let same : node.node ≡ q = at_both (shape_of w) n node.node q (ap (slice_get (shape_of w)) (sym place) ∙ node.is_node) at in
      (λ m. slice_get (sym same m).inputs (sym input_is m)) ∙ (λ m. slice_get node.node.inputs (ap (λ (j : Joins). j.input) (sym x.2) m)) ∙ node.names ∙ ap (λ (j : Joins). Some (j.sender, j.port)) x.2

  -- so what comes has the schema of that input
  pub schema_comes : (q : PhysicalNode) → slice_get (shape_of w) n ≡ Some q → slice_get (input_schemas (shape_of w) q) i ≡ Some ((setting_of (shape_of w) w.options).schema p.wire.sender)
  schema_comes q at = map_at (λ j. schema_at (slice_get (shape_of w) j.0)) q.inputs i (p.wire.sender, p.wire.port) (names_sender q at) ∙ ap Some (schema_same (slice_get (shape_of w) p.wire.sender))
