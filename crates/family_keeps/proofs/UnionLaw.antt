-- What the families keep of a union holds in every reached world.
use Rattle.std.proofs.Common.{◌≡◌, ℕ, Some, sym, ap, subst, ◌∙◌}
use Rattle.std.specs.Prelude.{slice_get}
use Rattle.ps_frame.specs.Functions.{Functions}
use Rattle.ps_meaning.specs.Shape.{PhysicalKind, PhysicalNode, Shape, ordered_union}
use Rattle.ps_meaning.specs.Sound.{IsSound}
use Rattle.ps_options.specs.declared.options.Options.{Options}
use Rattle.ps_turns.specs.Progress.{is_multiplexer}
use Rattle.ps_world.specs.Opening.{Reaches, opening}
use Rattle.ps_world.specs.World.{World, schemas_for, shape_of}
use Rattle.world_laws.proofs.Answered.{in_shape}
use Rattle.family_pipes.proofs.Begins.{begins}
use Rattle.world_families.specs.Holds.{Holds, HoldsOfKind}
use Rattle.world_families.specs.Unions.{HoldsUnion}
use Rattle.family_keeps.proofs.Holding.{OwnLaw, keeps_reached}
use Rattle.orderly_worlds.proofs.Reaching.{orderly_reached}
use Rattle.family_keeps.proofs.SinkLaw.{pipes_hold}
use Rattle.family_keeps.proofs.Turns.{turn_leaves}
use Rattle.family_keeps.proofs.Unions.{still_union, union_step}
use Rattle.family_keeps.proofs.UnionTurns.{union_phase, union_turned}
use Rattle.world_families.specs.Kinds.{HandsOn}
use Rattle.ps_world.specs.Updates.{given_at}

abbrev IsUnion : PhysicalKind → Type 0
IsUnion kind = kind ≡ ordered_union

module _ (F : Functions) (n : ℕ) where
  union_law : OwnLaw F n IsUnion (λ w node. HoldsUnion F w n node)
  union_law =
      record {
        hands = λ kind is. subst HandsOn (sym is) tt;
        single = λ kind is. ap is_multiplexer is;
        fresh = λ shape o node sound at is. subst (HoldsOfKind F (opening shape o) n node) is (begins F shape o n node at).own;
        step = λ w v node y o kv started shape there at is seen h. union_step F w v n node y o kv started shape there at is h seen;
        turn = λ w m other progress node y near o shut t kv shape there at s is done h.
            union_turned F w m other progress o shut t.0 (turn_leaves F w.options other.node (schemas_for w other) (given_at w m) other.progress progress t.2).booked kv shape n node y there at s is done h;
        still = λ w v node y pipes outs options shape s is h. still_union F w v n node y pipes outs shape s h;
        phase = λ s phase journal node y o rest kv shape there at st is done h. union_phase F s phase journal n node y o rest kv shape there at st is done h;
      }

pub unions_hold : (F : Functions) (shape : Shape) (o : Options) (w : World) (n : ℕ) (p : PhysicalNode) → IsSound F shape → Reaches F shape o w → slice_get (shape_of w) n ≡ Some p → p.kind ≡ ordered_union → Holds F w n
unions_hold F shape o w n p sound r e is node at =
    let q : Some node.node ≡ Some p = sym (in_shape w n node at) ∙ e in
    let same : node.node ≡ p = cc in
    let kind : node.node.kind ≡ ordered_union = ap (λ (x : PhysicalNode). x.kind) same ∙ is in
    let k = keeps_reached F n IsUnion (λ u x. HoldsUnion F u n x) (union_law F n) shape o w sound r node at kind in
    record { pipes = pipes_hold F w n (orderly_reached F shape o w sound r) k.done; own = subst (HoldsOfKind F w n node) (sym kind) k.own }
