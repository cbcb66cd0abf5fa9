-- The pipes of a node by their places: at its port among those that leave it, and at its input among those that lead to it.
use Rattle.std.proofs.Common.{◌≡◌, ℕ, Bool, true, false, List, [], ◌∷◌, Option, Some, None, refl, sym, ap, ◌∙◌}
use Rattle.std.specs.Prelude.{Contains, map, nat_eq, nat_lt, option_map, slice_get}
use Rattle.std.specs.List.{filter as kept}
use Rattle.std.proofs.lemmas.Option.{slice_get-map}
use Rattle.ps_frame.specs.Functions.{Functions}
use Rattle.ps_frame.specs.Sorting.{in_order, insert_in_order}
use Rattle.ps_ports.specs.Wires.{Wire, wires_in, wires_out}
use Rattle.ps_world.specs.Facts.{Facts}
use Rattle.ps_world.specs.Updates.{given_at}
use Rattle.ps_world.specs.World.{Pipe, World, pipes_in, pipes_out, wires_of}
use Rattle.world_facts.proofs.HandedIn.{contains_of}
use Rattle.world_facts.proofs.Wired.{input_place, port_place}
use Rattle.world_laws.proofs.InOrder.{contains_map}
use Rattle.world_laws.proofs.PassingPorts.{ordered, was_kept}
use Rattle.family_pipes.proofs.Inputs.{wires_are}

map_insert : {A B : Type 0} (f : A → B) (less : B → B → Bool) (x : A) (ys : List A) → map f (insert_in_order (λ a b. less (f a) (f b)) x ys) ≡ insert_in_order less (f x) (map f ys)
map_insert f less x [] = refl
map_insert f less x (y ∷ ys) = by (less (f y) (f x)) refl (map_insert f less x ys)
  where
    by : (b : Bool) → less (f y) (f x) ≡ b → map f (insert_in_order (λ a b. less (f a) (f b)) x ys) ≡ insert_in_order less (f x) (map f ys) → map f (insert_in_order (λ a b. less (f a) (f b)) x (y ∷ ys)) ≡ insert_in_order less (f x) (map f (y ∷ ys))
    by true e rest = rw e (ap (λ zs. f y ∷ zs) rest)
    by false e rest = rw e refl

map_order : {A B : Type 0} (f : A → B) (less : B → B → Bool) (xs : List A) → map f (in_order (λ a b. less (f a) (f b)) xs) ≡ in_order less (map f xs)
map_order f less [] = refl
map_order f less (x ∷ xs) = map_insert f less x (in_order (λ a b. less (f a) (f b)) xs) ∙ ap (insert_in_order less (f x)) (map_order f less xs)

map_kept : {A B : Type 0} (f : A → B) (t : B → Bool) (xs : List A) → map f (kept (λ a. t (f a)) xs) ≡ kept t (map f xs)
map_kept f t [] = refl
map_kept f t (x ∷ xs) = by (t (f x)) refl (map_kept f t xs)
  where
    by : (b : Bool) → t (f x) ≡ b → map f (kept (λ a. t (f a)) xs) ≡ kept t (map f xs) → map f (kept (λ a. t (f a)) (x ∷ xs)) ≡ kept t (map f (x ∷ xs))
    by true e rest = rw e (ap (λ zs. f x ∷ zs) rest)
    by false e rest = rw e rest

-- a change of pipes that leaves their wires leaves their places
pub changed_inputs : (w v : World) (g : Pipe → Pipe) → v.pipes ≡ map g w.pipes → ((x : Pipe) → (g x).wire.receiver ≡ x.wire.receiver) → ((x : Pipe) → (g x).wire.input ≡ x.wire.input) → (n : ℕ) → pipes_in v n ≡ map g (pipes_in w n)
changed_inputs w v g e receivers inputs n =
    ap (λ ps. in_order (λ (p q : Pipe). nat_lt p.wire.input q.wire.input) (kept (λ (p : Pipe). nat_eq p.wire.receiver n) ps)) e
    ∙ ap (in_order (λ (p q : Pipe). nat_lt p.wire.input q.wire.input)) (sym (map_kept g (λ (p : Pipe). nat_eq p.wire.receiver n) w.pipes) ∙ ap (map g) (λ i. kept (λ (p : Pipe). nat_eq (receivers p i) n) w.pipes))
    ∙ sym (map_order g (λ (p q : Pipe). nat_lt p.wire.input q.wire.input) (kept (λ (p : Pipe). nat_eq p.wire.receiver n) w.pipes))
    ∙ ap (map g) (λ i. in_order (λ (p q : Pipe). nat_lt (inputs p i) (inputs q i)) (kept (λ (p : Pipe). nat_eq p.wire.receiver n) w.pipes))

module _ (F : Functions) (w : World) (f : Facts F w) where
  of_wire : (o : Option Pipe) (u : Wire) → option_map (λ (p : Pipe). p.wire) o ≡ Some u → (y : Pipe) × (o ≡ Some y) × (y.wire ≡ u)
  of_wire None u e = absurd (let no : None ≡ Some u = e in cc)
  of_wire (Some y) u e = (y, refl, let q : Some y.wire ≡ Some u = e in cc)

  wire_of : (x : Pipe) → Contains w.pipes x → Contains (wires_of w) x.wire
  wire_of x c = contains_map (λ (y : Pipe). y.wire) x w.pipes c

  one_wire : (x y : Pipe) → Contains w.pipes x → Contains w.pipes y → y.wire ≡ x.wire → y ≡ x
  one_wire x y c d e = f.one_input y x d c (ap (λ (p : Wire). p.receiver) e) (ap (λ (p : Wire). p.input) e)

  pub port_pipe : (x : Pipe) → Contains w.pipes x → slice_get (pipes_out w x.wire.sender) x.wire.port ≡ Some x
  port_pipe x c =
      let n = x.wire.sender in
      let k = x.wire.port in
      let wires : map (λ (p : Pipe). p.wire) (pipes_out w n) ≡ wires_out n (wires_of w) =
      map_order (λ (p : Pipe). p.wire) (λ (p q : Wire). nat_lt p.port q.port) (kept (λ (p : Pipe). nat_eq p.wire.sender n) w.pipes)
      ∙ ap (in_order (λ (p q : Wire). nat_lt p.port q.port)) (map_kept (λ (p : Pipe). p.wire) (λ (p : Wire). nat_eq p.sender n) w.pipes) in
      let y = of_wire (slice_get (pipes_out w n) k) x.wire (sym (slice_get-map (λ (p : Pipe). p.wire) (pipes_out w n) k) ∙ ap (λ ws. slice_get ws k) wires ∙ port_place F w f x.wire (wire_of x c)) in
      let among = ordered (λ (p q : Pipe). nat_lt p.wire.port q.wire.port) y.0 (kept (λ (p : Pipe). nat_eq p.wire.sender n) w.pipes) (contains_of (pipes_out w n) k y.0 y.1) in
      let there = was_kept (λ (p : Pipe). nat_eq p.wire.sender n) y.0 w.pipes among in
      y.1 ∙ ap Some (one_wire x y.0 c there.0 y.2)

  pub input_pipe : (x : Pipe) → Contains w.pipes x → slice_get (pipes_in w x.wire.receiver) x.wire.input ≡ Some x
  input_pipe x c =
      let n = x.wire.receiver in
      let k = x.wire.input in
      let y = of_wire (slice_get (pipes_in w n) k) x.wire (sym (slice_get-map (λ (p : Pipe). p.wire) (pipes_in w n) k) ∙ ap (λ ws. slice_get ws k) (wires_are F w f n) ∙ input_place F w f x.wire (wire_of x c)) in
      let among = ordered (λ (p q : Pipe). nat_lt p.wire.input q.wire.input) y.0 (kept (λ (p : Pipe). nat_eq p.wire.receiver n) w.pipes) (contains_of (pipes_in w n) k y.0 y.1) in
      let there = was_kept (λ (p : Pipe). nat_eq p.wire.receiver n) y.0 w.pipes among in
      y.1 ∙ ap Some (one_wire x y.0 c there.0 y.2)

  -- what an update is given of it
  pub given_output : (x : Pipe) → Contains w.pipes x → slice_get (given_at w x.wire.sender).outputs x.wire.port ≡ Some x.wire.receive_state
  given_output x c = slice_get-map (λ (u : Wire). u.receive_state) (wires_out x.wire.sender (wires_of w)) x.wire.port ∙ ap (option_map (λ (u : Wire). u.receive_state)) (port_place F w f x.wire (wire_of x c))

  pub given_input : (x : Pipe) → Contains w.pipes x → slice_get (given_at w x.wire.receiver).inputs x.wire.input ≡ Some x.wire.send_state
  given_input x c = slice_get-map (λ (u : Wire). u.send_state) (wires_in x.wire.receiver (wires_of w)) x.wire.input ∙ ap (option_map (λ (u : Wire). u.send_state)) (input_place F w f x.wire (wire_of x c))
