-- Steps of an open phase leave what its outputs say.
use Rattle.std.proofs.Common.{◌≡◌, ℕ, Bool, true, false, Some, refl, sym, ap, subst, ◌∙◌}
use Rattle.std.specs.Prelude.{Contains, IsFalse, IsTrue, map, not, slice_get, ◌&&◌}
use Rattle.ps_meaning.specs.Shape.{PhysicalNode}
use Rattle.ps_ports.specs.Ports.{is_blocked, is_ready}
use Rattle.ps_ports.specs.Wires.{Wire, both_ready}
use Rattle.ps_turns.specs.Progress.{is_multiplexer}
use Rattle.ps_world.specs.World.{Node, Pipe, World, multiplexes, IsWorking}
use Rattle.world_facts.proofs.CutOff.{and_true, both_true}
use Rattle.world_laws.proofs.Agree.{from_map}
use Rattle.world_laws.proofs.InOrder.{contains_map}
use Rattle.world_claims.specs.Numbering.{OutsFit, only_takes}

-- a node with the stage of another, at work only where that is
pub record Marks (x y : Node) : Type 0 where
  pub node : y.node ≡ x.node
  pub stage : y.progress.stage ≡ x.progress.stage
  pub at_work : (y.in_phase && not y.is_closed) ≡ true → (x.in_phase && not x.is_closed) ≡ true

pub same_marks : (x : Node) → Marks x x
same_marks x = record { node = refl; stage = refl; at_work = λ e. e }

pub outs_shut : (v : World) → v.is_open ≡ false → OutsFit v
outs_shut v shut =
    record {
      aside = λ p c off work single. absurd (let on = (both_true v.is_open (work.0.in_phase && not work.0.is_closed) work.2).0 in let no : true ≡ false = sym on ∙ shut in cc);
      takes = λ p node c at on k. absurd (let no : true ≡ false = sym on ∙ shut in cc);
      gives = λ p q node c d at on m k b r. absurd (let no : true ≡ false = sym on ∙ shut in cc);
    }

module _ (w v : World) (g : Pipe → Pipe) (pipes : v.pipes ≡ map g w.pipes) (wire : (x : Pipe) → (g x).wire ≡ x.wire) (phase : (x : Pipe) → (g x).in_phase ≡ x.in_phase) (opened : v.is_open ≡ true → w.is_open ≡ true)
    (back : (m : ℕ) (y : Node) → slice_get v.nodes m ≡ Some y → (x : Node) × (slice_get w.nodes m ≡ Some x) × Marks x y) where
  came : (y : Pipe) → Contains v.pipes y → (x : Pipe) × Contains w.pipes x × (g x ≡ y)
  came y c = from_map g y w.pipes (subst (λ ps. Contains ps y) pipes c)

  wire_is : (x y : Pipe) → g x ≡ y → x.wire ≡ y.wire
  wire_is x y e = sym (wire x) ∙ ap (λ (p : Pipe). p.wire) e

  kind_same : (x y : Node) (t : Rattle.ps_meaning.specs.Shape.PhysicalKind → Bool) → Marks x y → t x.node.kind ≡ t y.node.kind
  kind_same x y t m = ap (λ (n : PhysicalNode). t n.kind) (sym m.node)

  only_same : (x y : Node) → Marks x y → only_takes x.node.kind x.progress.stage ≡ only_takes y.node.kind y.progress.stage
  only_same x y m = (λ i. only_takes (sym m.node i).kind x.progress.stage) ∙ ap (only_takes y.node.kind) (sym m.stage)

  pub outs_keep : OutsFit w → OutsFit v
  outs_keep f =
      record {
        aside = λ p c off work single. by_aside p off work single (came p c);
        takes = λ p node c at on k.
            let z = came p c in
            let u = wire_is z.0 p z.2 in
            let x = back p.wire.sender node at in
            ap (λ (r : Wire). is_ready r.send_state) (sym u) ∙ f.takes z.0 x.0 z.1 (ap (λ (r : Wire). slice_get w.nodes r.sender) u ∙ x.1) (opened on) (only_same x.0 node x.2 ∙ k);
        gives = λ p q node c d at on m k b r.
            let z = came p c in
            let t = came q d in
            let u = wire_is z.0 p z.2 in
            let s = wire_is t.0 q t.2 in
            let x = back p.wire.sender node at in
            ap both_ready (sym s)
            ∙ f.gives z.0 t.0 x.0 z.1 t.1 (ap (λ (r : Wire). slice_get w.nodes r.sender) u ∙ x.1) (opened on) (kind_same x.0 node is_multiplexer x.2 ∙ m) (only_same x.0 node x.2 ∙ k) (ap (λ (r : Wire). is_blocked r.send_state) u ∙ b) (ap (λ (r : Wire). r.receiver) s ∙ r ∙ ap (λ (r : Wire). r.sender) (sym u));
      }
    where
      by_aside : (p : Pipe) → IsFalse p.in_phase → IsWorking v p.wire.sender → IsFalse (multiplexes (slice_get v.nodes p.wire.sender)) → (x : Pipe) × Contains w.pipes x × (g x ≡ p)
          → IsTrue (is_blocked p.wire.send_state) × ((q : Pipe) × Contains v.pipes q × (q.wire.receiver ≡ p.wire.sender) × IsTrue (both_ready q.wire))
      by_aside p off (y, at, on) single (z, c, e) =
          let u = wire_is z p e in
          let x = back p.wire.sender y at in
          let parts = both_true v.is_open (y.in_phase && not y.is_closed) on in
          let there : slice_get w.nodes z.wire.sender ≡ Some x.0 = ap (λ (r : Wire). slice_get w.nodes r.sender) u ∙ x.1 in
          let work : IsWorking w z.wire.sender = (x.0, there, and_true w.is_open (x.0.in_phase && not x.0.is_closed) (opened parts.0) (x.2.at_work parts.1)) in
          let alone : multiplexes (slice_get w.nodes z.wire.sender) ≡ false = ap multiplexes there ∙ kind_same x.0 y is_multiplexer x.2 ∙ sym (ap multiplexes at) ∙ single in
          let r = f.aside z c (sym (phase z) ∙ ap (λ (p : Pipe). p.in_phase) e ∙ off) work alone in
          let q = r.1 in
          (ap (λ (r : Wire). is_blocked r.send_state) (sym u) ∙ r.0, (g q.0, subst (λ ps. Contains ps (g q.0)) (sym pipes) (contains_map g q.0 w.pipes q.1), ap (λ (r : Wire). r.receiver) (wire q.0) ∙ q.2 ∙ ap (λ (r : Wire). r.sender) u, ap both_ready (wire q.0) ∙ q.3))
