-- For each piece of a passing node that is out in a reached world something may be handed in.
use Rattle.std.proofs.Common.{◌≡◌, ℕ, [], ◌∷◌, Some, sym, subst, ◌∙◌}
use Rattle.std.specs.Prelude.{Contains, slice_get}
use Rattle.ps_frame.specs.Functions.{Functions}
use Rattle.ps_frame.specs.Tables.{Fields}
use Rattle.ps_meaning.specs.Shape.{PhysicalNode, Shape}
use Rattle.ps_meaning.specs.Sound.{IsSound, input_schemas}
use Rattle.ps_options.specs.declared.options.Options.{Options}
use Rattle.ps_turns.specs.Results.{IsResult}
use Rattle.ps_turns.specs.Tasks.{Answer, Piece}
use Rattle.ps_world.specs.Booking.{IsPassing}
use Rattle.ps_world.specs.Opening.{Reaches, opening}
use Rattle.ps_world.specs.World.{Pipe, World, shape_of}
use Rattle.world_facts.proofs.ClaimedOnce.{replay_shape}
use Rattle.passing_pieces.proofs.ClaimAnswers.{claim-answers}
use Rattle.passing_laws.proofs.SoundPieces.{sound-goes-on}
use Rattle.passing_runs.proofs.Kept.{PieceStands}
use Rattle.passing_runs.proofs.Reached.{fresh_shape, node_at, reached_passing}

module _ (F : Functions) (shape : Shape) (n : ℕ) (p : PhysicalNode) (s : Fields) (sound : IsSound F shape) (there : slice_get shape n ≡ Some p) (passing : IsPassing p.kind) (reads : input_schemas shape p ≡ s ∷ []) where
  of_stands : (from : Pipe) (q : Piece) → PieceStands p s n from q → (a : Answer) × IsResult F q a
  of_stands from q h = subst (λ z. (a : Answer) × IsResult F z a) (sym h.claimed) (claim-answers F h.options shape n p s sound there passing reads h.progress h.input q.gives h.rows)

  pub reached_results : (o : Options) (w : World) → Reaches F shape o w → (from to : Pipe) → Contains w.pipes from → from.wire.receiver ≡ n → Contains w.pipes to → to.wire.sender ≡ n → (q : Piece) → Contains w.outs q → q.node ≡ n → (a : Answer) × IsResult F q a
  reached_results o w r from to cf rf ct st q cq qn =
      let shown : slice_get (shape_of w) n ≡ Some p = subst (λ x. slice_get x n ≡ Some p) (sym (replay_shape F (opening shape o) w r.0 r.1 ∙ fresh_shape shape)) there in
      let at = node_at w.nodes n p shown in
      of_stands from q ((reached_passing F shape n p s there passing reads (sound-goes-on F shape n p s sound there passing reads) o w sound r at.0 from to at.1 cf rf ct st).pieces q cq qn)
