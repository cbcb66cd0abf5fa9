-- Where a keeper takes, its inputs are done and its output isn't, all of its inputs are complete.
use Rattle.std.proofs.Common.{◌≡◌, ℕ, ◌⊎◌, Bool, true, false, Some, refl, sym, ap, ◌∙◌, inl, inr}
use Rattle.std.specs.Prelude.{Contains, slice_get, ◌&&◌, ◌||◌}
use Rattle.ps_frame.specs.Functions.{Functions}
use Rattle.ps_ports.specs.Ports.{all_done, first_port, is_done}
use Rattle.ps_turns.specs.Progress.{is_taking}
use Rattle.ps_turns.specs.Tasks.{Piece}
use Rattle.ps_world.specs.Facts.{HasNoUse, is_over_slice}
use Rattle.ps_world.specs.Updates.{given_at}
use Rattle.ps_world.specs.World.{Node, Pipe, World}
use Rattle.world_families.specs.Work.{AllComplete, Enters, IsComplete, Leaves}
use Rattle.family_keeps.proofs.Done.{DoneFits, sent_cases}
use Rattle.family_pipes.proofs.SourceSteps.{same_node}
use Rattle.orderly_worlds.proofs.Orderly.{Orderly, all_done_at}
use Rattle.orderly_worlds.proofs.PortPipes.{given_input, given_output}
use Rattle.streaming_ports.proofs.OnePort.{one_state}
use Rattle.keeper_laws.proofs.Says.{IsKeeper, Keeper, keeper}
use Rattle.keeper_laws.proofs.Turn.{KeepsTurn, one_out}

never : (b : Bool) → b ≡ true → b ≡ false → ⊥
never b t f = let no : true ≡ false = sym t ∙ f in cc

module _ (F : Functions) (w : World) (m : ℕ) (other : Node) (o : Orderly F w) (shut : w.is_open ≡ false) (at_m : slice_get w.nodes m ≡ Some other) (is : IsKeeper other.node.kind) (h : KeepsTurn w m other) where
  k : Keeper other.node.kind
  k = keeper other.node.kind is

  pub state_in : (x : Pipe) → Enters w m x → slice_get (given_at w m).inputs x.wire.input ≡ Some x.wire.send_state
  state_in x e = ap (λ j. slice_get (given_at w j).inputs x.wire.input) (sym e.1) ∙ given_input F w o.known.facts x e.0

  pub state_out : (x : Pipe) → Leaves w m x → slice_get (given_at w m).outputs x.wire.port ≡ Some x.wire.receive_state
  state_out x l = ap (λ j. slice_get (given_at w j).outputs x.wire.port) (sym l.1) ∙ given_output F w o.known.facts x l.0

  -- between phases no piece is out
  pub none_out : (q : Piece) → Contains w.outs q → ⊥
  none_out q c = let works = o.known.facts.at_work q c in never w.is_open (opened w.is_open _ works.2) shut
    where
      opened : (b c : Bool) → (b && c) ≡ true → b ≡ true
      opened true c e = refl
      opened false c e = e

  module _ (done : DoneFits w m) (takes : is_taking other.progress.stage ≡ true) (ins : all_done (given_at w m).inputs ≡ true) (out : is_done (first_port (given_at w m).outputs) ≡ false) where
    used : HasNoUse w m → ⊥
    used (inl (z, at_z, over)) =
        let same = same_node w m z other at_z at_m in
        never (is_over_slice other.node.kind z.progress.booked) (ap (λ (u : Node). is_over_slice u.node.kind z.progress.booked) (sym same) ∙ over) (k.never_over z.progress.booked)
    used (inr (z, cz, from, each)) = by (each z cz from)
      where
        unread : is_done z.wire.receive_state ≡ false
        unread = let one = one_state (given_at w m).outputs z.wire.port z.wire.receive_state (one_out F w m other o.known at_m k) (state_out z (cz, from)) in ap (λ ss. is_done (first_port ss)) (sym one.1) ∙ out

        by : (z.is_dropped || is_done z.wire.receive_state) ≡ true → ⊥
        by e = let no : true ≡ false = sym e ∙ (λ i. h.first.takes takes z (cz, from) i || unread i) in cc

    pub all_complete : AllComplete w m
    all_complete q e = by (sent_cases F w m other other.progress o shut at_m refl m q e (all_done_at (given_at w m).inputs q.wire.input q.wire.send_state ins (state_in q e)) done)
      where
        by : IsComplete q ⊎ HasNoUse w m → IsComplete q
        by (inl c) = c
        by (inr none) = absurd (used none)
