-- What the families keep of a sink holds in every reached world.
use Rattle.std.proofs.Common.{◌≡◌, ℕ, zero, suc, ◌<◌, List, [], ◌∷◌, length, Some, refl, sym, ap, subst, ◌∙◌, arith}
use Rattle.std.specs.Prelude.{Contains, map, replicate, slice_get}
use Rattle.ps_frame.specs.Functions.{Functions}
use Rattle.ps_frame.specs.Tables.{Row}
use Rattle.ps_meaning.specs.Shape.{PhysicalKind, PhysicalNode, Shape, in_memory_sink}
use Rattle.ps_meaning.specs.Sound.{IsSound}
use Rattle.ps_options.specs.declared.options.Options.{Options}
use Rattle.ps_ports.specs.Phases.{is_in_phase}
use Rattle.ps_turns.specs.Progress.{is_multiplexer}
use Rattle.ps_world.specs.Opening.{Reaches, fresh_node, opening}
use Rattle.ps_world.specs.Phases.{intensive_at, with_phase}
use Rattle.ps_world.specs.World.{wires_of, Node, Pipe, World, shape_of}
use Rattle.world_claims.proofs.ReachedFacts.{known_opening}
use Rattle.world_laws.proofs.Agree.{from_map}
use Rattle.world_laws.proofs.Answered.{in_shape}
use Rattle.family_pipes.proofs.Begins.{begins}
use Rattle.world_families.proofs.Members.{nothing_is}
use Rattle.world_families.specs.Holds.{Holds, HoldsOfKind}
use Rattle.world_families.specs.Keepers.{Stores}
use Rattle.world_families.specs.Work.{PipesHold}
use Rattle.family_keeps.proofs.Done.{DoneFits}
use Rattle.family_keeps.proofs.Holding.{OwnLaw, keeps_reached}
use Rattle.orderly_worlds.proofs.Orderly.{Orderly}
use Rattle.orderly_worlds.proofs.ReadRows.{reads_marked, reads_turned}
use Rattle.orderly_worlds.proofs.Reaching.{Marked, orderly_reached}
use Rattle.family_keeps.proofs.Sinks.{SinkStores, sink_input, sink_step, sink_still, stores_all}
use Rattle.orderly_worlds.proofs.Turned.{turned}
use Rattle.world_families.specs.Kinds.{HandsOn}

abbrev IsSink : PhysicalKind → Type 0
IsSink kind = kind ≡ in_memory_sink

some_stores : (shape : Shape) (n : ℕ) (node : Node) → slice_get (map fresh_node shape) n ≡ Some node → length node.node.inputs ≡ 1 → 0 < length node.progress.stores
some_stores [] n node e one = absurd (nothing_is node e)
some_stores (p ∷ ps) zero node e one =
    let q : Some (fresh_node p) ≡ Some node = e in
    let is : fresh_node p ≡ node = cc in
    subst (λ (x : Node). 0 < length x.progress.stores) is (long (length p.inputs) (ap (λ (x : Node). length x.node.inputs) is ∙ one))
  where
    long : (k : ℕ) → k ≡ 1 → 0 < length (replicate {A = List (List Row)} k [])
    long zero e = absurd (omega arith)
    long (suc k) e = omega arith
some_stores (p ∷ ps) (suc n) node e one = some_stores ps n node e one

module _ (F : Functions) (n : ℕ) where
  sink_law : OwnLaw F n IsSink (λ w node. SinkStores w n node)
  sink_law =
      record {
        hands = λ kind is. subst HandsOn (sym is) tt;
        single = λ kind is. ap is_multiplexer is;
        fresh = λ shape o node sound at is.
            let known = known_opening F shape o sound in
            let w = opening shape o in
            record {
              has_store = some_stores shape n node at (sink_input F w n node known at is);
              stored = λ q c. subst (λ k. Stores k node.progress q) is (subst (HoldsOfKind F w n node) is (begins F shape o n node at).own q c);
            };
        step = λ w v node y o kv started shape there at is seen h. sink_step F w v n node o.known there is h y at seen;
        turn = λ w m other progress node y near o shut t kv shape there at s is done h. sink_still w (turned w m other progress t.0) n node y is (reads_turned w m other progress t.0 n) s h;
        still = λ w v node y pipes outs options shape s is h. sink_still w v n node y is (λ q c. (q, (subst (λ ps. Contains ps q) pipes c.0, c.1), refl, refl)) s h;
        phase = λ s phase journal node y o rest kv shape there at st is done h. sink_still s (record (with_phase s) { phase = phase; journal = journal }) n node y is (reads_marked s (record (with_phase s) { phase = phase; journal = journal }) n (λ q c. marked s q c)) st h;
      }
    where
      marked : (s : World) (q : Pipe) → Contains (with_phase s).pipes q → (x : Pipe) × Contains s.pipes x × Marked x q
      marked s q c =
          let x = from_map (λ (p : Pipe). record p { in_phase = is_in_phase (length s.nodes) (intensive_at s) (wires_of s) p.wire }) q s.pipes c in
          (x.0, x.1, subst (Marked x.0) x.2 (record { wire = refl; got = refl; next = refl; dropped = refl; unread = refl }))

-- what is asked of the pipes of any node, beside what it is done with
pub pipes_hold : (F : Functions) (w : World) (n : ℕ) → Orderly F w → DoneFits w n → PipesHold w n
pipes_hold F w n o done = record { done = done; read = λ q c is. o.read q c.0 is; unread = λ p l d. o.unread p l.0 d }

pub sinks_hold : (F : Functions) (shape : Shape) (o : Options) (w : World) (n : ℕ) (p : PhysicalNode) → IsSound F shape → Reaches F shape o w → slice_get (shape_of w) n ≡ Some p → p.kind ≡ in_memory_sink → Holds F w n
sinks_hold F shape o w n p sound r e is node at =
    let q : Some node.node ≡ Some p = sym (in_shape w n node at) ∙ e in
    let same : node.node ≡ p = cc in
    let kind : node.node.kind ≡ in_memory_sink = ap (λ (x : PhysicalNode). x.kind) same ∙ is in
    let k = keeps_reached F n IsSink (λ u x. SinkStores u n x) (sink_law F n) shape o w sound r node at kind in
    record { pipes = pipes_hold F w n (orderly_reached F shape o w sound r) k.done; own = subst (HoldsOfKind F w n node) (sym kind) (stores_all w n node kind k.own) }
