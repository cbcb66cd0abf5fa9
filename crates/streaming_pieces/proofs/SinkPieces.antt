-- No piece of a sink is ever out.
use Rattle.std.proofs.Common.{◌≡◌, ℕ, Some, sym, ap, subst, ◌∙◌}
use Rattle.std.specs.Prelude.{Contains}
use Rattle.ps_frame.specs.Functions.{Functions}
use Rattle.ps_meaning.specs.Shape.{PhysicalKind, in_memory_sink}
use Rattle.ps_turns.specs.Claims.{Claim, claim_by}
use Rattle.ps_turns.specs.Progress.{is_multiplexer}
use Rattle.ps_turns.specs.Tasks.{Piece}
use Rattle.ps_world.specs.Claims.{claim_at, inputs_in_phase, next_morsel}
use Rattle.ps_world.specs.World.{Node, World, heads_of, inputs_done, schemas_for}
use Rattle.world_laws.proofs.InOrder.{none_in_nil}
use Rattle.world_families.proofs.Members.{nothing_is}
use Rattle.world_families.specs.Kinds.{HandsOn}
use Rattle.orderly_worlds.proofs.Seen.{Seen, claims, pulls_in, stands_still}
use Rattle.family_keeps.proofs.Holding.{OwnLaw}

abbrev pub IsSink : PhysicalKind → Type 0
IsSink kind = kind ≡ in_memory_sink

abbrev pub NoPiece : ℕ → World → Node → Type 0
NoPiece n w node = (q : Piece) → Contains w.outs q → q.node ≡ n → ⊥

no_claim : (w : World) (n : ℕ) (node : Node) → node.node.kind ≡ in_memory_sink → (i : ℕ) (c : Claim) → claim_at w n i node ≡ Some c → ⊥
no_claim w n node is i c e = nothing_is c ((λ j. claim_by w.options node.node (schemas_for w node) (sym is j) node.progress (heads_of w n node) (inputs_done w n) i (next_morsel (inputs_in_phase w n i))) ∙ e)

by_seen : (F : Functions) (w v : World) (n : ℕ) (node y : Node) → node.node.kind ≡ in_memory_sink → Seen F w v n node → NoPiece n w node → NoPiece n v y
by_seen F w v n node y is (stands_still g s st outs) h = λ q c e. h q (outs q c e) e
by_seen F w v n node y is (claims i k claim g s st outs) h = absurd (no_claim w n node is i k claim)
by_seen F w v n node y is (pulls_in i p rs pulling cp inp m g s st outs) h = λ q c e. h q (outs q c e) e

pub sink_pieces : (F : Functions) (n : ℕ) → OwnLaw F n IsSink (NoPiece n)
sink_pieces F n =
    record {
      hands = λ kind is. subst HandsOn (sym is) tt;
      single = λ kind is. ap is_multiplexer is;
      fresh = λ shape o node sound at is q c e. none_in_nil q c;
      step = λ w v node y o kv started shape there at is seen h. by_seen F w v n node y is seen h;
      turn = λ w m other progress node y near o shut t kv shape there at s is done h. h;
      still = λ w v node y pipes outs options shape s is h q c e. h q (subst (λ qs. Contains qs q) outs c) e;
      phase = λ s phase journal node y o rest kv shape there at st is done h. h;
    }
