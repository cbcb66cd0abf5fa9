-- From the keys of a node's inputs to whether these are over.
use Rattle.std.proofs.Common.{◌≡◌, ℕ, suc, Bool, true, false, List, [], ◌∷◌, Option, Some, None, refl, sym, ap, ◌∙◌}
use Rattle.std.specs.Prelude.{◌||◌, Contains, is_some, nat_eq, slice_get}
use Rattle.keyed_slots.specs.Slots.{value_at}
use Rattle.ps_flow.proofs.Claims.{pipe_named}
use Rattle.ps_flow.proofs.InputKeys.{input_is, keys_in}
use Rattle.ps_flow.proofs.Senders.{receiver_is}
use Rattle.flow_moves.proofs.InputsOver.{is_over_all, over_is}
use Rattle.flow_moves.specs.Moves.{IsSo, MayPick, is_through}
use Rattle.ps_flow.specs.Standing.{Stands, setting_of}
use Rattle.ps_flow.specs.declared.world.World.{World as Held}
use Rattle.ps_frame.specs.Functions.{Functions}
use Rattle.ps_graph.proofs.Places.{place_test}
use Rattle.ps_graph.specs.declared.graph.GraphNode.{GraphNode}
use Rattle.ps_graph.specs.declared.key.LogicalPipeKey.{LogicalPipeKey}
use Rattle.ps_graph.specs.Shown.{numbers}
use Rattle.ps_options.specs.declared.options.Options.{Options}
use Rattle.ps_ports.specs.Phases.{is_one_of}
use Rattle.ps_settle.proofs.Ends.{is_number}
use Rattle.ps_settle.proofs.Members.{contains_at, place_of}
use Rattle.ps_world.specs.Closing.{inputs_over}
use Rattle.ps_world.specs.Pipes.{is_input}
use Rattle.ps_world.specs.World.{Pipe, World, shape_of}
use Rattle.turn_laws.specs.Updating.{SeenNode}

pub own_some : {A : Type 0} {o : Option A} → is_some o ≡ true → (x : A) × (o ≡ Some x)
own_some {A} {o} e = by o e
  where
    by : (q : Option A) → is_some q ≡ true → (x : A) × (q ≡ Some x)
    by None e = absurd (let no_way : false ≡ true = e in cc)
    by (Some x) e = (x, refl)

pub own_none : {A : Type 0} {o : Option A} → is_some o ≡ false → o ≡ None
own_none {A} {o} e = by o e
  where
    by : (q : Option A) → is_some q ≡ false → q ≡ None
    by None e = refl
    by (Some x) e = absurd (let no_way : true ≡ false = e in cc)

-- a number among those of keys is that of one
key_of : (k : ℕ) (keys : List LogicalPipeKey) → is_one_of k (numbers keys) ≡ true → (i : ℕ) × (key : LogicalPipeKey) × (slice_get keys i ≡ Some key) × (key.0 ≡ k)
key_of k [] e = absurd (let no_way : false ≡ true = e in cc)
key_of k (key ∷ keys) e = by (nat_eq k key.0) refl e (key_of k keys)
  where
    by : (b : Bool) → nat_eq k key.0 ≡ b → (b || is_one_of k (numbers keys)) ≡ true → (is_one_of k (numbers keys) ≡ true → (i : ℕ) × (z : LogicalPipeKey) × (slice_get keys i ≡ Some z) × (z.0 ≡ k)) → (i : ℕ) × (z : LogicalPipeKey) × (slice_get (key ∷ keys) i ≡ Some z) × (z.0 ≡ k)
    by true is e rest = (0, key, refl, sym (is_number k key.0 is))
    by false is e rest = let r = rest e in (suc r.0, r.1, r.2, r.3)

module _ (F : Functions) (w : World) (n : ℕ) {N : Type 0} (Has : Options → N → SeenNode → Type 0) (h : Held N) (stands : Stands Has w h) (node : GraphNode N) (there : value_at h.graph.nodes.slots n ≡ Some node) where
  -- what holds of the pipes of all keys holds of all pipes that lead to the node
  pub each_input : (test : Pipe → Bool) (b : Bool) → ((i : ℕ) (key : LogicalPipeKey) → slice_get node.inputs.items i ≡ Some key → IsSo h.pipes key test b) → (p : Pipe) → Contains w.pipes p → nat_eq p.wire.receiver n ≡ true → test p ≡ b
  each_input test b all p among leads =
      let k = place_of w.pipes p among in
      let one : is_one_of k.0 (numbers node.inputs.items) ≡ true = ap (is_one_of k.0) (keys_in h.graph stands.linked w.pipes stands.wires n node there) ∙ place_test (λ (q : Pipe). nat_eq q.wire.receiver n) w.pipes k.0 p k.1 ∙ leads in
      let key = key_of k.0 node.inputs.items one in
      all key.0 key.1 key.2 (setting_of (shape_of w) w.options) w.pipes p stands.pipes (ap (slice_get w.pipes) key.3 ∙ k.1)

  -- the pipe of a key leads to the node
  pub one_input : (i : ℕ) (key : LogicalPipeKey) → slice_get node.inputs.items i ≡ Some key → (test : Pipe → Bool) (b : Bool) → IsSo h.pipes key test b → (p : Pipe) × Contains w.pipes p × (is_input n i p ≡ true) × (test p ≡ b)
  one_input i key at test b so =
      let p = pipe_named (is_input n i) key w.pipes (input_is h.graph stands.linked w.pipes stands.wires n i node key there at) in
      (p.0, contains_at w.pipes key.0 p.0 p.1, p.2, so (setting_of (shape_of w) w.options) w.pipes p.0 stands.pipes p.1)

  pub over_by : ((i : ℕ) (key : LogicalPipeKey) → slice_get node.inputs.items i ≡ Some key → IsSo h.pipes key is_through true) → inputs_over w n ≡ true
  over_by all = is_over_all F w n (each_input is_through true all)

  pub still_by : MayPick F w → (i : ℕ) (key : LogicalPipeKey) → slice_get node.inputs.items i ≡ Some key → IsSo h.pipes key is_through false → inputs_over w n ≡ false
  still_by may i key at so = by (inputs_over w n) refl
    where
      by : (b : Bool) → inputs_over w n ≡ b → b ≡ false
      by false e = refl
      by true e =
          let p = one_input i key at is_through false so in
          absurd (let no_way : true ≡ false = sym (over_is F w n e p.0 p.1 (receiver_is F w may.facts n i p.0 p.1 p.2)) ∙ p.3 in cc)
