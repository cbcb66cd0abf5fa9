-- Worlds that the opening of a shape reaches.
use Rattle.std.proofs.Common.{◌≡◌, ℕ, false, List, [], ◌∷◌, ◌++◌, Some, refl, sym, ap, subst, ◌∙◌}
use Rattle.std.specs.Prelude.{slice_get}
use Rattle.ps_frame.specs.Functions.{Functions}
use Rattle.ps_meaning.specs.Shape.{Shape}
use Rattle.ps_options.specs.declared.options.Options.{Options}
use Rattle.ps_world.specs.Opening.{Reaches, opening}
use Rattle.ps_world.specs.Step.{Replays, Steps}
use Rattle.ps_world.specs.World.{Node, Record, World, finished, running, shape_of}
use Rattle.world_bounds.proofs.Rooms.{step_options}
use Rattle.world_facts.proofs.ClaimedOnce.{replay_shape}
use Rattle.world_laws.proofs.Answered.{in_shape}
use Rattle.world_laws.proofs.Induction.{opening_shape}
use Rattle.worker_pieces.proofs.Changed.{shut_if_finished}

replay_options : (F : Functions) (w v : World) (rs : List Record) → Replays F w rs v → v.options ≡ w.options
replay_options F w v [] e = ap (λ (x : World). x.options) e
replay_options F w v (r ∷ rs) h = replay_options F h.0 v rs h.2 ∙ step_options F w h.0 r h.1

pub replay_then : (F : Functions) (w u v : World) (rs : List Record) (r : Record) → Replays F w rs u → Steps F u r v → Replays F w (rs ++ r ∷ []) v
replay_then F w u v [] r e s = (v, subst (λ x. Steps F x r v) e s, refl)
replay_then F w u v (q ∷ rs) r h s = (h.0, h.1, replay_then F h.0 u v rs r h.2 s)

-- once the run is finished no phase is open
replay_shut : (F : Functions) (w v : World) (rs : List Record) → (w.ending ≡ finished → w.is_open ≡ false) → Replays F w rs v → v.ending ≡ finished → v.is_open ≡ false
replay_shut F w v [] h e = subst (λ (x : World). x.ending ≡ finished → x.is_open ≡ false) (sym e) h
replay_shut F w v (r ∷ rs) h steps = replay_shut F steps.0 v rs (shut_if_finished F w steps.0 r steps.1) steps.2

module _ (F : Functions) (shape : Shape) (o : Options) (w : World) (r : Reaches F shape o w) where
  pub same_shape : shape_of w ≡ shape
  same_shape = replay_shape F (opening shape o) w r.0 r.1 ∙ opening_shape shape

  pub same_options : w.options ≡ o
  same_options = replay_options F (opening shape o) w r.0 r.1

  pub node_in_shape : (n : ℕ) (x : Node) → slice_get w.nodes n ≡ Some x → slice_get shape n ≡ Some x.node
  node_in_shape n x at = ap (λ (s : Shape). slice_get s n) (sym same_shape) ∙ in_shape w n x at

  pub one_more : (step : Record) (v : World) → Steps F w step v → Reaches F shape o v
  one_more step v s = (r.0 ++ step ∷ [], replay_then F (opening shape o) w v r.0 step r.1 s)

  pub finished_is_shut : w.ending ≡ finished → w.is_open ≡ false
  finished_is_shut = replay_shut F (opening shape o) w r.0 (λ e. absurd (let clash : running ≡ finished = e in cc)) r.1
