-- In every reached world what the families keep holds of each node that streams; and where all nodes of a graph do, one choice serves all pipes.
use Rattle.std.proofs.Common.{◌≡◌, ℕ, List, [], ◌∷◌, Some, refl, sym, ap, subst, ◌∙◌}
use Rattle.std.specs.Prelude.{slice_get}
use Rattle.ps_frame.specs.Functions.{Functions}
use Rattle.ps_meaning.specs.Shape.{PhysicalKind, PhysicalNode, Shape, in_memory_sink, in_memory_source, independent_select, ordered_union}
use Rattle.ps_meaning.specs.Sound.{IsSound, input_schemas}
use Rattle.ps_options.specs.declared.options.Options.{Options}
use Rattle.ps_world.specs.Booking.{IsPassing}
use Rattle.ps_world.specs.Laws.{AllJustified, Justified, ServedByChoice, sent_at, sent_to}
use Rattle.ps_world.specs.Opening.{Reaches, opening}
use Rattle.ps_world.specs.Step.{Replays}
use Rattle.ps_world.specs.World.{Record, World, shape_of}
use Rattle.world_claims.proofs.ReachedFacts.{known_opening, known_reached, known_step}
use Rattle.world_claims.specs.Numbering.{Known}
use Rattle.world_facts.proofs.ClaimedOnce.{replay_shape}
use Rattle.world_facts.proofs.FromFacts.{forward}
use Rattle.world_laws.proofs.Induction.{opening_shape}
use Rattle.world_laws.proofs.OneChoice.{one_choice}
use Rattle.world_laws.proofs.Shapes.{step_keeps}
use Rattle.family_pipes.proofs.Begins.{begins}
use Rattle.family_fronts.proofs.FrontsLaw.{sinks_justified}
use Rattle.family_fronts.proofs.SourceLaw.{selects_justified, sources_justified}
use Rattle.source_keeps.proofs.SourceOpens.{sources_keep}
use Rattle.family_fronts.proofs.UnionLaw.{unions_justified}
use Rattle.world_families.specs.Holds.{Holds}
use Rattle.world_families.specs.Sources.{IsSource}
use Rattle.passing_fronts.proofs.PassingLaw.{passing_justified}
use Rattle.family_keeps.proofs.PassingHolds.{passing_nodes_hold}
use Rattle.family_keeps.proofs.SinkLaw.{sinks_hold}
use Rattle.family_keeps.proofs.UnionLaw.{unions_hold}
use Rattle.world_families.specs.Kinds.{IsStreaming}

module _ (F : Functions) where
  -- sources keep it along every run
  sources_run : (n : ℕ) (p : PhysicalNode) → IsSource p.kind → (w v : World) (rs : List Record) → Known F w → slice_get (shape_of w) n ≡ Some p → Replays F w rs v → Holds F w n → Holds F v n
  sources_run n p is w v [] known e s h = subst (λ z. Holds F z n) (sym s) h
  sources_run n p is w v (r ∷ rs) known e s h = sources_run n p is s.0 v rs (known_step F w s.0 r known s.1) (ap (λ ps. slice_get ps n) (step_keeps F w s.0 r s.1) ∙ e) s.2 (sources_keep F w s.0 r n p known e is s.1 h)

  module _ (shape : Shape) (o : Options) (w : World) (sound : IsSound F shape) (r : Reaches F shape o w) where
    same_shape : shape_of w ≡ shape
    same_shape = replay_shape F (opening shape o) w r.0 r.1 ∙ opening_shape shape

    known : Known F w
    known = known_reached F shape o w sound r

    sources_hold : (n : ℕ) (p : PhysicalNode) → slice_get (shape_of w) n ≡ Some p → IsSource p.kind → Holds F w n
    sources_hold n p e is = sources_run n p is (opening shape o) w r.0 (known_opening F shape o sound) (ap (λ ps. slice_get ps n) (opening_shape shape ∙ sym same_shape) ∙ e) r.1 (begins F shape o n)

    pub node_holds : (n : ℕ) (p : PhysicalNode) → slice_get (shape_of w) n ≡ Some p → IsStreaming p.kind → Holds F w n
    node_holds n p e is = by p.kind refl is
      where
        by : (kind : PhysicalKind) → p.kind ≡ kind → IsStreaming kind → Holds F w n
        by (in_memory_source t) k h = sources_hold n p e (subst IsSource (sym k) tt)
        by (independent_select es) k h = sources_hold n p e (subst IsSource (sym k) tt)
        by in_memory_sink k h = sinks_hold F shape o w n p sound r e k
        by ordered_union k h = unions_hold F shape o w n p sound r e k
        by kind k h = passing_nodes_hold F shape o w n p sound r e (subst IsPassing (sym k) h)

    pub node_justified : (n : ℕ) (p : PhysicalNode) → slice_get (shape_of w) n ≡ Some p → IsStreaming p.kind → Justified F p (input_schemas (shape_of w) p) (sent_to (sent_at w) p) (sent_at w n)
    node_justified n p e is = by p.kind refl is (node_holds n p e is)
      where
        by : (kind : PhysicalKind) → p.kind ≡ kind → IsStreaming kind → Holds F w n → Justified F p (input_schemas (shape_of w) p) (sent_to (sent_at w) p) (sent_at w n)
        by (in_memory_source t) k h holds = sources_justified F w n p t known e k holds
        by (independent_select es) k h holds = selects_justified F w n p es known e k holds
        by in_memory_sink k h holds = sinks_justified F w n p known e k holds
        by ordered_union k h holds = unions_justified F w n p known e k holds
        by kind k h holds = passing_justified F w n p known e (subst IsPassing (sym k) h) holds

    pub served : ((n : ℕ) (p : PhysicalNode) → slice_get shape n ≡ Some p → IsStreaming p.kind) → ServedByChoice F shape (sent_at w)
    served streams =
        let all : AllJustified F (shape_of w) (sent_at w) = λ n p e. node_justified n p e (streams n p (ap (λ ps. slice_get ps n) (sym same_shape) ∙ e)) in
        subst (λ s. ServedByChoice F s (sent_at w)) same_shape (one_choice F (shape_of w) (sent_at w) (forward F w known.facts) all)
