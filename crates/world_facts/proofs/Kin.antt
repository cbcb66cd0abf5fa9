-- A world beside the world before: the same shape, and each pipe with its ports. What hangs on these alone goes over, whatever becomes of the marks.
use Rattle.std.proofs.Common.{◌≡◌, ℕ, Bool, true, false, Some, refl, sym, ap, subst, ◌∙◌, inl, inr}
use Rattle.std.specs.Prelude.{Contains, IsFalse, IsTrue, map, slice_get, ◌||◌}
use Rattle.std.proofs.lemmas.Bool.{or_left, or_right}
use Rattle.ps_frame.specs.Functions.{Functions}
use Rattle.ps_ports.specs.Ports.{is_done}
use Rattle.ps_meaning.specs.Sound.{IsSound}
use Rattle.ps_world.specs.Facts.{FactsDownTo, HasNoUse, Joins, is_over_slice, joins_of}
use Rattle.ps_world.specs.Opening.{pipes_from}
use Rattle.ps_world.specs.World.{Node, Pipe, World, multiplexes, shape_of}
use Rattle.world_laws.proofs.Agree.{from_map}
use Rattle.world_facts.proofs.Follows.{map_like, multiplexes_by, shows}
use Rattle.world_laws.proofs.InOrder.{contains_map}

pub record Kin (w v : World) : Type 0 where
  pub shape : shape_of v ≡ shape_of w
  pub options : v.options ≡ w.options
  pub over : (m : ℕ) (x : Node) → slice_get w.nodes m ≡ Some x → IsTrue (is_over_slice x.node.kind x.progress.booked) → (y : Node) × (slice_get v.nodes m ≡ Some y) × IsTrue (is_over_slice y.node.kind y.progress.booked)
  pub pipe : Pipe → Pipe
  pub pipes : v.pipes ≡ map pipe w.pipes
  pub joins : (x : Pipe) → joins_of (pipe x) ≡ joins_of x
  pub dropped : (x : Pipe) → IsTrue x.is_dropped → IsTrue (pipe x).is_dropped
  pub done : (x : Pipe) → Contains w.pipes x → IsTrue (is_done x.wire.receive_state) → IsTrue (is_done (pipe x).wire.receive_state)

module _ (w v : World) (h : Kin w v) where
  pub came_from : (y : Pipe) → Contains v.pipes y → (x : Pipe) × Contains w.pipes x × (h.pipe x ≡ y)
  came_from y c = from_map h.pipe y w.pipes (subst (λ ps. Contains ps y) h.pipes c)

  pub multiplexes_kin : (m : ℕ) → multiplexes (slice_get v.nodes m) ≡ multiplexes (slice_get w.nodes m)
  multiplexes_kin m = multiplexes_by v m ∙ ap (λ s. shows (slice_get s m)) h.shape ∙ sym (multiplexes_by w m)

  pub no_use_kin : (m : ℕ) → HasNoUse w m → HasNoUse v m
  no_use_kin m (inl (x, at, over)) = inl (h.over m x at over)
  no_use_kin m (inr (z, cz, sz, all)) = inr (h.pipe z, subst (λ ps. Contains ps (h.pipe z)) (sym h.pipes) (contains_map h.pipe z w.pipes cz), ap (λ (j : Joins). j.sender) (h.joins z) ∙ sz, λ q c s. by q (came_from q c) s)
    where
      or_of : (x q : Pipe) → Contains w.pipes x → h.pipe x ≡ q → (x.is_dropped || is_done x.wire.receive_state) ≡ true → (b : Bool) → x.is_dropped ≡ b → (q.is_dropped || is_done q.wire.receive_state) ≡ true
      or_of x q c e known true d = or_left q.is_dropped (is_done q.wire.receive_state) (ap (λ (p : Pipe). p.is_dropped) (sym e) ∙ h.dropped x d)
      or_of x q c e known false d = or_right q.is_dropped (is_done q.wire.receive_state) (ap (λ (p : Pipe). is_done p.wire.receive_state) (sym e) ∙ h.done x c (sym (ap (λ b. b || is_done x.wire.receive_state) d) ∙ known))

      by : (q : Pipe) → (x : Pipe) × Contains w.pipes x × (h.pipe x ≡ q) → q.wire.sender ≡ m → IsTrue (q.is_dropped || is_done q.wire.receive_state)
      by q (x, c, e) s = or_of x q c e (all x c (sym (ap (λ (j : Joins). j.sender) (h.joins x)) ∙ ap (λ (p : Pipe). p.wire.sender) e ∙ s)) x.is_dropped refl

  -- what hangs on shapes and ports alone
  pub record Base (F : Functions) : Type 0 where
    pub sound : IsSound F (shape_of v)
    pub wires : map joins_of v.pipes ≡ map joins_of (pipes_from (shape_of v) 0)
    pub one_input : (p q : Pipe) → Contains v.pipes p → Contains v.pipes q → p.wire.receiver ≡ q.wire.receiver → p.wire.input ≡ q.wire.input → p ≡ q
    pub one_output : (p q : Pipe) → Contains v.pipes p → Contains v.pipes q → p.wire.sender ≡ q.wire.sender → IsFalse (multiplexes (slice_get v.nodes p.wire.sender)) → p ≡ q

  same_pipe : (p q x z : Pipe) → h.pipe x ≡ p → h.pipe z ≡ q → x ≡ z → p ≡ q
  same_pipe p q x z e d s = sym e ∙ ap h.pipe s ∙ d

  joins_from : (x p : Pipe) → h.pipe x ≡ p → joins_of x ≡ joins_of p
  joins_from x p e = sym (h.joins x) ∙ ap joins_of e

  pub base : {k : ℕ} (F : Functions) → FactsDownTo F k w → Base F
  base F f =
      record {
        sound = subst (IsSound F) (sym h.shape) f.sound;
        wires = ap (map joins_of) h.pipes ∙ map_like joins_of h.pipe w.pipes h.joins ∙ f.wires ∙ ap (λ s. map joins_of (pipes_from s 0)) (sym h.shape);
        one_input = λ p q c d r i.
            let x = came_from p c in let z = came_from q d in let a = joins_from x.0 p x.2 in let b = joins_from z.0 q z.2 in
            same_pipe p q x.0 z.0 x.2 z.2 (f.one_input x.0 z.0 x.1 z.1 (ap (λ (u : Joins). u.receiver) a ∙ r ∙ sym (ap (λ (u : Joins). u.receiver) b)) (ap (λ (u : Joins). u.input) a ∙ i ∙ sym (ap (λ (u : Joins). u.input) b)));
        one_output = λ p q c d s m.
            let x = came_from p c in let z = came_from q d in let a = joins_from x.0 p x.2 in let b = joins_from z.0 q z.2 in
            same_pipe p q x.0 z.0 x.2 z.2 (f.one_output x.0 z.0 x.1 z.1 (ap (λ (u : Joins). u.sender) a ∙ s ∙ sym (ap (λ (u : Joins). u.sender) b)) (ap (λ (u : Joins). multiplexes (slice_get w.nodes u.sender)) a ∙ sym (multiplexes_kin p.wire.sender) ∙ m));
      }
