-- Each piece out is of a node that has an output, and one that keeps its morsel is of a node that only takes.
use Rattle.std.proofs.Common.{◌≡◌, ℕ, Bool, true, false, List, Some, None, refl, sym, ap, ◌∙◌}
use Rattle.std.specs.Prelude.{Contains, get_or, slice_get}
use Rattle.ps_frame.specs.Functions.{Functions}
use Rattle.ps_frame.specs.Tables.{Fields}
use Rattle.ps_meaning.specs.Shape.{PhysicalKind, PhysicalNode, Shape, in_memory_sink}
use Rattle.ps_meaning.specs.Sound.{IsSound}
use Rattle.ps_options.specs.declared.options.Options.{Options}
use Rattle.ps_turns.specs.Claims.{Claim, Next, claim_by}
use Rattle.ps_turns.specs.Heads.{Head}
use Rattle.ps_turns.specs.Progress.{Progress}
use Rattle.ps_turns.specs.Tasks.{Piece}
use Rattle.ps_world.specs.Claims.{inputs_in_phase, next_morsel, piece_of, claim_at}
use Rattle.ps_world.specs.Facts.{keeps_one}
use Rattle.ps_world.specs.Opening.{Reaches}
use Rattle.ps_world.specs.World.{Node, World, heads_of, inputs_done, schemas_for}
use Rattle.world_claims.proofs.Forms.{Form, gives_last, gives_own, gives_union, keeps_slot, passes_on}
use Rattle.world_claims.specs.Numbering.{only_takes}
use Rattle.world_bounds.proofs.Nodes.{form_of}
use Rattle.world_bounds.proofs.Pieces.{Keeps, reached_fits}

-- what has no output
abbrev pub is_sink : PhysicalKind → Bool
is_sink in_memory_sink = true
is_sink kind = false

-- the piece's node has an output, and only takes where the piece keeps its morsel
abbrev pub FitsNode : Piece → Node → Type 0
FitsNode q x = (is_sink x.node.kind ≡ false) × (keeps_one q.task ≡ true → only_takes x.node.kind x.progress.stage ≡ true)

abbrev pub AllFitNodes : World → Type 0
AllFitNodes w = (q : Piece) (x : Node) → Contains w.outs q → slice_get w.nodes q.node ≡ Some x → FitsNode q x

-- the piece of a claim
claims_no_sink : (o : Options) (p : PhysicalNode) (ss : List Fields) (a : Progress) (hs : List Head) (ds : List Bool) (i : ℕ) (next : Next) (c : Claim) (kind : PhysicalKind) → claim_by o p ss kind a hs ds i next ≡ Some c → is_sink kind ≡ false
claims_no_sink o p ss a hs ds i next c in_memory_sink e = absurd (let no : None ≡ Some c = e in cc)
claims_no_sink o p ss a hs ds i next c kind e = refl

form_takes : (kind : PhysicalKind) (a : Progress) (d : Bool) (i : ℕ) (next : Next) (c : Claim) → Form kind a d i next c → keeps_one c.task ≡ true → only_takes kind a.stage ≡ true
form_takes kind a d i next c (gives_own k t g o s l m r v) y = absurd (let no : true ≡ false = sym y ∙ o in cc)
form_takes kind a d i next c (gives_union k m e g o s l t r v) y = absurd (let no : true ≡ false = sym y ∙ o in cc)
form_takes kind a d i next c (passes_on k t m e g o s x r z u v) y = absurd (let no : true ≡ false = sym y ∙ o in cc)
form_takes kind a d i next c (keeps_slot t k z m e o u s x r) y = t
form_takes kind a d i next c (gives_last j k u t z g o b s l m r v) y = absurd (let no : true ≡ false = sym y ∙ o in cc)

-- a node of the same entry and stage
fits_on : (q : Piece) (x y : Node) → Keeps x y → FitsNode q x → FitsNode q y
fits_on q x y same f = (ap (λ (p : PhysicalNode). is_sink p.kind) same.0 ∙ f.0, λ e. (λ j. only_takes (same.0 j).kind (same.1 j)) ∙ f.1 e)

claim_fits : (w : World) (n i worker : ℕ) (node : Node) (c : Claim) → claim_at w n i node ≡ Some c → FitsNode (piece_of n i worker c) node
claim_fits w n i worker node c is = (
  claims_no_sink w.options node.node (schemas_for w node) node.progress (heads_of w n node) (inputs_done w n) i (next_morsel (inputs_in_phase w n i)) c node.node.kind is,
  form_takes node.node.kind node.progress (get_or (inputs_done w n) 0 false) i (next_morsel (inputs_in_phase w n i)) c (form_of w n i node c is),
)

pub reached_givers : (F : Functions) (shape : Shape) (o : Options) (w : World) → IsSound F shape → Reaches F shape o w → AllFitNodes w
reached_givers F shape o w sound r = reached_fits FitsNode fits_on claim_fits F shape o w sound r
