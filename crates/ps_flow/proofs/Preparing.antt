-- That what a node prepares is the claim of the world.
use Rattle.std.proofs.Common.{◌≡◌, ℕ, Bool, false, List, [], ◌∷◌, Option, Some, None, Result, Ok, Err, sym, subst, ◌∙◌}
use Rattle.std.specs.Prelude.{Contains, IfNone, IfOk, IfSome, MatchOption, OnOk, map}
use Rattle.keyed_slots.specs.Slots.{value_at}
use Rattle.ps_flow.proofs.Claims.{Comes, claims_of, comes_by, comes_none, pipe_named, rows_come}
use Rattle.ps_flow.proofs.Replacing.{node_stands}
use Rattle.ps_flow.proofs.Stepping.{inside, is_there}
use Rattle.ps_flow.specs.Claiming.{ClaimsOf, Gives, IsClaimOf, IsKeyOf, MayClaim, rows_next}
use Rattle.ps_flow.specs.Standing.{Stands, seen_as, setting_of}
use Rattle.ps_flow.specs.declared.claim_node.Claimed.{Claimed}
use Rattle.ps_flow.specs.declared.claim_node.Seat.{Seat}
use Rattle.ps_flow.specs.declared.world.World.{World as Held}
use Rattle.ps_frame.specs.Functions.{Functions}
use Rattle.ps_frame.specs.Tables.{Frame}
use Rattle.ps_graph.specs.Shown.{IsLinked, wires_of}
use Rattle.ps_graph.specs.declared.graph.Graph.{Graph}
use Rattle.ps_graph.specs.declared.graph.GraphNode.{GraphNode}
use Rattle.ps_graph.specs.declared.key.LogicalPipeKey.{LogicalPipeKey}
use Rattle.ps_meaning.specs.Shape.{PhysicalNode}
use Rattle.ps_options.specs.declared.options.Options.{Options}
use Rattle.ps_turns.specs.Claims.{Claim}
use Rattle.ps_turns.specs.Tasks.{Piece}
use Rattle.ps_world.specs.Pipes.{is_input}
use Rattle.ps_world.specs.World.{Node, Pipe, World, shape_of}
use Rattle.turn_laws.specs.Updating.{SeenNode}
use Rattle.world_pipes.specs.Giving.{next_in_phase}
use Rattle.world_pipes.specs.Shown.{AreKeysOf, AreShown, IsAt, Setting}
use Rattle.world_pipes.specs.declared.pipes.Pipes.{Pipes}

-- what is looked up in the pipe of a key
abbrev pub NumberAt : Pipes → Option LogicalPipeKey → ℕ → Type 0
NumberAt pipes key number = IfSome key (λ k. (s : Setting) (ps : List Pipe) (p : Pipe) → AreShown s ps pipes → IsAt k ps p → number ≡ p.next)

abbrev pub MorselAt : Pipes → Option LogicalPipeKey → Option Frame → Type 0
MorselAt pipes key morsel = IfSome key (λ k. (s : Setting) (ps : List Pipe) (p : Pipe) → AreShown s ps pipes → IsAt k ps p → morsel ≡ next_in_phase (s.schema p.wire.sender) p)

module _ {N : Type 0} (Has : Options → N → SeenNode → Type 0) (w : World) (h : Held N) (stands : Stands Has w h) (F : Functions) (n i worker : ℕ) (x : Node) (c : Claim) (may : MayClaim F w n i worker x c) where
  pub looked_up : (key : Option LogicalPipeKey) → IsKeyOf n i w.pipes key → (number : ℕ) (morsel : Option Frame) → NumberAt h.pipes key number → MorselAt h.pipes key morsel → IfNone key (morsel ≡ None) → Comes F w n i worker x c may number morsel
  looked_up None none number morsel is told gone = subst (Comes F w n i worker x c may number) (sym gone) (comes_none F w n i worker x c may none number)
  looked_up (Some key) names number morsel is told gone =
      let p = pipe_named (is_input n i) key w.pipes names in
      let s : Setting = setting_of (shape_of w) w.options in
      let number_is = is s w.pipes p.0 stands.pipes p.1 in
      let morsel_is = told s w.pipes p.0 stands.pipes p.1 in
      subst (λ k. Comes F w n i worker x c may k morsel) (sym number_is) (subst (Comes F w n i worker x c may p.0.next) (sym morsel_is) (comes_by F w n i worker x c may key names p.0 p.1 p.2))

  -- the node of the world is there
  pub node_there : value_at h.graph.nodes.slots n ≡ None → ⊥
  node_there none = is_there h.graph stands.linked w.pipes stands.wires n (inside Has w h stands n x may.here) none

  module _ {P : Type 0} (Shows : Piece → P → Type 0) (IsFor : Functions → PhysicalNode → P → Type 0) (seat : Seat) (input : seat.input ≡ i) (z : GraphNode N) (at : value_at h.graph.nodes.slots n ≡ Some z) where
    has : (es : List Bool) × Has w.options z.compute (seen_as (shape_of w) x es)
    has = stands.nodes.each n x z.compute may.here (node_stands h.graph stands.linked n z at)

    pub found_is : (number : ℕ) (morsel : Option Frame) → Comes F w n i worker x c may number morsel → (found : Option (Claimed P)) → IsClaimOf Shows IsFor Has z.compute seat number morsel found → MatchOption found ⊥ (Gives Shows IsFor F seat x.node (rows_next w n i) c)
    found_is number morsel cm found is = by found is
      where
        claims : ClaimsOf F (shape_of w) n w.options (seen_as (shape_of w) x has.0) seat.input number morsel c
        claims = subst (λ j. ClaimsOf F (shape_of w) n w.options (seen_as (shape_of w) x has.0) j number morsel c) (sym input) (claims_of F w n i worker x c may number morsel cm has.0)

        by : (found : Option (Claimed P)) → IsClaimOf Shows IsFor Has z.compute seat number morsel found → MatchOption found ⊥ (Gives Shows IsFor F seat x.node (rows_next w n i) c)
        by None is = is F (shape_of w) n w.options (seen_as (shape_of w) x has.0) c has.1 claims
        by (Some y) is =
            let gives = is F (shape_of w) n w.options (seen_as (shape_of w) x has.0) c has.1 claims in
            record { shows = gives.shows; suits = gives.suits; rows_are = gives.rows_are ∙ rows_come F w n i worker x c may number morsel cm; takes = gives.takes; drops = gives.drops }

-- a key that was looked up is that of the input
pub key_names : {N : Type 0} (g : Graph N) (n i : ℕ) (key : Option LogicalPipeKey) → IfSome key (λ k. (ps : List Pipe) → IsLinked g → wires_of g.pipes.slots ≡ map (λ (p : Pipe). p.wire) ps → AreKeysOf (is_input n i) (k ∷ []) ps)
    → IfNone key ((ps : List Pipe) (p : Pipe) → IsLinked g → wires_of g.pipes.slots ≡ map (λ (p : Pipe). p.wire) ps → Contains ps p → is_input n i p ≡ false) → (ps : List Pipe) → IsLinked g → wires_of g.pipes.slots ≡ map (λ (p : Pipe). p.wire) ps
    → IsKeyOf n i ps key
key_names g n i None some none ps linked wires = λ p among. none ps p linked wires among
key_names g n i (Some k) some none ps linked wires = some ps linked wires

-- what was found, where there is a claim
pub found_at : {P : Type 0} (G : Claimed P → Type 0) (found : Option (Claimed P)) → MatchOption found ⊥ G → (y : Claimed P) → found ≡ Some y → G y
found_at G None m y is = absurd m
found_at G (Some z) m y is = let same : z ≡ y = (let both : Some z ≡ Some y = is in cc) in subst G same m

pub found_none : {P : Type 0} (G : Claimed P → Type 0) (found : Option (Claimed P)) → MatchOption found ⊥ G → found ≡ None → ⊥
found_none G None m is = m
found_none G (Some z) m is = absurd (let clash : Some z ≡ None = is in cc)

-- what holds of the value, by what holds of it and of the call
pub both_ok : {X E : Type 0} (r : Result X E) (P Q : X → Type 0) (R : Type 0) → ((x : X) → P x → R → Q x) → IfOk r P → OnOk r R → IfOk r Q
both_ok (Ok x) P Q R f p r = f x p r
both_ok (Err e) P Q R f p r = p

-- what a node may count stands with the node
pub counts_at : {N P : Type 0} (H : N → ℕ → Type 0) (slots : List (Option (GraphNode N))) (n : ℕ) (z : GraphNode N) → value_at slots n ≡ Some z → (found : Option (Claimed P)) → IfSome found (λ y. H z.compute y.rows) → IfSome found (λ y. IfSome (value_at slots n) (λ x. H x.compute y.rows))
counts_at H slots n z at None h = tt
counts_at H slots n z at (Some y) h = subst (λ o. IfSome o (λ x. H x.compute y.rows)) (sym at) h
