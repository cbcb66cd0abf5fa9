-- From the laws of all families: what holds of every reached world.
use Rattle.std.proofs.Common.{◌≡◌, ℕ, List, [], ◌∷◌, Some, refl, sym, ap, subst, ◌∙◌}
use Rattle.std.specs.Prelude.{map, slice_get, IsFalse}
use Rattle.ps_frame.specs.Functions.{Functions}
use Rattle.ps_meaning.specs.Shape.{PhysicalNode, Shape}
use Rattle.ps_meaning.specs.Sound.{IsSound}
use Rattle.ps_options.specs.declared.options.Options.{Options}
use Rattle.ps_world.specs.World.{Node, Record, World, shape_of}
use Rattle.ps_world.specs.Laws.{AllJustified, AnyKind, FactsLaw, FamilyLaw, ServedByChoice, sent_at}
use Rattle.ps_world.specs.Opening.{fresh_node, opening}
use Rattle.ps_world.specs.Step.{Replays, Steps}
use Rattle.ps_world.specs.Updates.{Updates}
use Rattle.world_laws.proofs.OneChoice.{one_choice}
use Rattle.world_laws.proofs.Shapes.{step_keeps, updates_keep}

pub opening_shape : (shape : Shape) → map (λ (n : Node). n.node) (map fresh_node shape) ≡ shape
opening_shape [] = refl
opening_shape (p ∷ ps) = ap (λ xs. p ∷ xs) (opening_shape ps)

module _ (F : Functions) (Facts : World → Type 0) (Holds : World → ℕ → Type 0) (facts : FactsLaw F Facts) (law : FamilyLaw F AnyKind Facts Holds) where
  -- what every reached world keeps: the facts, its shape, and what each node's family keeps
  pub record Keeps (shape : Shape) (w : World) : Type 0 where
    pub known : Facts w
    pub same : shape_of w ≡ shape
    pub each : (n : ℕ) (p : PhysicalNode) → slice_get shape n ≡ Some p → Holds w n

  pub after_step : (shape : Shape) (w v : World) (r : Record) → Keeps shape w → Steps F w r v → Keeps shape v
  after_step shape w v r k s =
      record {
        known = facts.at_step w v r k.known s;
        same = step_keeps F w v r s ∙ k.same;
        each = λ n p e. law.keeps w v r n p k.known (subst (λ x. slice_get x n ≡ Some p) (sym k.same) e) tt s (k.each n p e);
      }

  pub along : (shape : Shape) (w v : World) (rs : List Record) → Keeps shape w → Replays F w rs v → Keeps shape v
  along shape w v [] k h = subst (λ x. Keeps shape x) (sym h) k
  along shape w v (r ∷ rs) k h = along shape h.0 v rs (after_step shape w h.0 r k h.1) h.2

  pub all_justified : (shape : Shape) (w : World) → Keeps shape w → AllJustified F (shape_of w) (sent_at w)
  all_justified shape w k n p e = law.justifies w n p k.known e tt (k.each n p (subst (λ x. slice_get x n ≡ Some p) k.same e))

  -- every reached world is served by one choice
  pub served : (shape : Shape) (w : World) → Keeps shape w → ServedByChoice F shape (sent_at w)
  served shape w k = subst (λ x. ServedByChoice F x (sent_at w)) k.same (one_choice F (shape_of w) (sent_at w) (facts.forward w k.known) (all_justified shape w k))

  pub at_opening : (shape : Shape) (o : Options) → IsSound F shape → Keeps shape (opening shape o)
  at_opening shape o sound =
      record { known = facts.at_opening shape o sound; same = opening_shape shape; each = λ n p e. law.begins shape o n p sound e tt }

  pub after_updates : (shape : Shape) (w s : World) → Keeps shape w → IsFalse w.is_open → Updates F w s → Keeps shape s
  after_updates shape w s k shut u =
      record {
        known = facts.at_update w s k.known shut u;
        same = updates_keep F w s u ∙ k.same;
        each = λ n p e. law.keeps_updating w s n p k.known (subst (λ x. slice_get x n ≡ Some p) (sym k.same) e) tt shut u (k.each n p e);
      }
