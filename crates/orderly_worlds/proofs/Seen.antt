-- A step of an open phase as a node sees it: it claims, it pulls, or it stands still while its pipes go on.
use Rattle.std.proofs.Common.{◌≡◌, ◌≢◌, ℕ, suc, ◌⊎◌, true, false, List, length, Some, sym, ap, subst, ◌∙◌, inl, inr}
use Rattle.std.specs.Prelude.{Contains, nat_eq, not, slice_get, ◌&&◌}
use Rattle.std.proofs.lemmas.Bool.{cases_eq}
use Rattle.ps_frame.specs.Functions.{Functions}
use Rattle.ps_frame.specs.Tables.{Row}
use Rattle.ps_turns.specs.Claims.{Claim}
use Rattle.ps_turns.specs.Progress.{Progress, is_multiplexer}
use Rattle.ps_turns.specs.Pulls.{pulls}
use Rattle.ps_turns.specs.Tasks.{Piece}
use Rattle.ps_world.specs.Answers.{answered}
use Rattle.ps_world.specs.Claims.{after_claim, before_drops, claim_at, piece_of}
use Rattle.ps_world.specs.Closing.{after_close, after_end}
use Rattle.ps_world.specs.Pipes.{is_input}
use Rattle.ps_world.specs.Promises.{within_phase}
use Rattle.ps_world.specs.Pulls.{after_pull}
use Rattle.ps_world.specs.Step.{Steps}
use Rattle.ps_world.specs.World.{Node, Pipe, Record, World, claimed, closed, ended, handed_in, has_next, morsel_at, opened, pulled}
use Rattle.world_claims.specs.Numbering.{Known}
use Rattle.world_facts.proofs.CutOff.{both_true}
use Rattle.world_laws.proofs.InOrder.{contains_cases}
use Rattle.world_laws.proofs.PassingPorts.{same_number, was_kept}
use Rattle.family_pipes.proofs.Outputs.{drops_rest}
use Rattle.family_pipes.proofs.SourceSteps.{StepOf, answer_step, claim_step, close_step, end_step, pull_step, same_node}
use Rattle.orderly_worlds.proofs.Goes.{Goes, GoesOn, IsTakenBy, IsTakenOf, NoneTaken, answer_goes, claim_goes, close_goes, end_goes, pull_goes}
use Rattle.orderly_worlds.proofs.Stands.{stored_progress, MovesNode, Stands, StandsBefore, answer_stands, claim_stands, close_stands, end_stands, pull_stands}

-- a morsel of another node is taken
abbrev pub TakenElsewhere : ℕ → Pipe → Type 0
TakenElsewhere n x = (x.wire.receiver ≢ n) × ((rs : List Row) × (slice_get x.got x.next ≡ Some (Some rs)))

abbrev pub StandsAt : World → ℕ → Node → Type 0
StandsAt v n node = (y : Node) → slice_get v.nodes n ≡ Some y → Stands node y

-- the pieces of the node that are out were so before, but for the one of a claim
abbrev pub OutsWere : World → World → ℕ → Type 0
OutsWere w v n = (q : Piece) → Contains v.outs q → q.node ≡ n → Contains w.outs q

abbrev pub OutsOrNew : World → World → ℕ → ℕ → Claim → Type 0
OutsOrNew w v n i c = (q : Piece) → Contains v.outs q → q.node ≡ n → Contains w.outs q ⊎ ((worker : ℕ) × (piece_of n i worker c ≡ q))

pub data Seen (F : Functions) (w v : World) (n : ℕ) (node : Node) : Type 0 where
  stands_still : GoesOn (TakenElsewhere n) NoneTaken w v → StepOf F w v n node → StandsAt v n node → OutsWere w v n → Seen F w v n node
  claims : (i : ℕ) (c : Claim) → claim_at w n i node ≡ Some c → GoesOn (IsTakenOf n i) (IsTakenBy n i c.takes_morsel) w v → StepOf F w v n node → StandsAt v n (record node { progress = c.progress }) → OutsOrNew w v n i c → Seen F w v n node
  pulls_in : (i : ℕ) (p : Pipe) (rs : List Row) → pulls node.node.kind ≡ true → Contains w.pipes p → is_input n i p ≡ true → morsel_at p.next p.got ≡ Some rs → GoesOn (IsTakenOf n i) (IsTakenBy n i true) w v → StepOf F w v n node → StandsAt v n (record node { progress = stored_progress node i rs })
      → OutsWere w v n → Seen F w v n node

weaker : (S T M : Pipe → Type 0) (x y : Pipe) → (S x → T x) → Goes S M x y → Goes T NoneTaken x y
weaker S T M x y h g = record { wire = g.wire; unread = g.unread; kept = g.kept; lost = g.lost; next = by g.next; surely = λ s. absurd s; got = g.got; longer = g.longer; mark = g.mark }
  where
    by : (y.next ≡ x.next) ⊎ (y.next ≡ suc x.next) × S x → (y.next ≡ x.next) ⊎ (y.next ≡ suc x.next) × T x
    by (inl e) = inl e
    by (inr (e, s)) = inr (e, h s)

weaker_on : (S T M : Pipe → Type 0) (w v : World) → ((x : Pipe) → S x → T x) → GoesOn S M w v → GoesOn T NoneTaken w v
weaker_on S T M w v h g y c = let x = g y c in (x.0, x.1, weaker S T M x.0 y (h x.0) x.2)

-- what stood in a world stands there once
stands_from : (w : World) (n : ℕ) (node y : Node) → slice_get w.nodes n ≡ Some node → StandsBefore w n y → Stands node y
stands_from w n node y there (x, at, s) = subst (λ z. Stands z y) (same_node w n x node at there) s

module _ (F : Functions) (w : World) (n : ℕ) (node : Node) (known : Known F w) (there : slice_get w.nodes n ≡ Some node) (single : is_multiplexer node.node.kind ≡ false) where
  elsewhere : (m i : ℕ) → m ≢ n → (x : Pipe) → IsTakenOf m i x → TakenElsewhere n x
  elsewhere m i other x t = (λ e. other (sym (same_number x.wire.receiver m (both_true (nat_eq x.wire.receiver m) (nat_eq x.wire.input i) t.0).0) ∙ e), t.1)

  still : (v : World) → GoesOn NoneTaken NoneTaken w v → StepOf F w v n node → ((y : Node) → slice_get v.nodes n ≡ Some y → StandsBefore w n y) → ((q : Piece) → Contains v.outs q → Contains w.outs q) → Seen F w v n node
  still v g s at outs = stands_still (weaker_on NoneTaken (TakenElsewhere n) NoneTaken w v (λ x t. absurd t) g) s (λ y e. stands_from w n node y there (at y e)) (λ q c e. outs q c)

  -- of a step of node m: this is that node, or it stands still
  moved : (v : World) (m : ℕ) (other : Node) (progress : Progress) → slice_get w.nodes m ≡ Some other → ((y : Node) → slice_get v.nodes n ≡ Some y → MovesNode w m n other progress y) → n ≢ m → StandsAt v n node
  moved v m other progress at moves apart y e = by (moves y e)
    where
      by : MovesNode w m n other progress y → Stands node y
      by (inl (a, before)) = stands_from w n node y there before
      by (inr (same, s)) = absurd (apart same)

  moved_here : (v : World) (m : ℕ) (other : Node) (progress : Progress) → slice_get w.nodes m ≡ Some other → ((y : Node) → slice_get v.nodes n ≡ Some y → MovesNode w m n other progress y) → n ≡ m → StandsAt v n (record node { progress = progress })
  moved_here v m other progress at moves here y e = by (moves y e)
    where
      by : MovesNode w m n other progress y → Stands (record node { progress = progress }) y
      by (inl (apart, before)) = absurd (apart here)
      by (inr (same, s)) = subst (λ (x : Node). Stands (record x { progress = progress }) y) (same_node w n other node (ap (slice_get w.nodes) here ∙ at) there) s

  module _ (m i worker : ℕ) (other : Node) (c : Claim) (at : slice_get w.nodes m ≡ Some other) (on : (w.is_open && (other.in_phase && not other.is_closed)) ≡ true) (is : claim_at w m i other ≡ Some c) where
    abbrev v : World
    v = after_claim w m i worker other c

    goes : GoesOn (IsTakenOf m i) (IsTakenBy m i c.takes_morsel) w v
    goes = claim_goes F w known m i worker other c at on is

    one_claim : StepOf F w v n node
    one_claim = claim_step F w n node there single m i worker other c at is

    abbrev start : World
    start = before_drops w m i worker other c

    outs_of : (q : Piece) → Contains v.outs q → (piece_of m i worker c ≡ q) ⊎ Contains w.outs q
    outs_of q cq = contains_cases (piece_of m i worker c) q w.outs (subst (λ qs. Contains qs q) (drops_rest (length start.nodes) start).0 cq)

    not_new : {q : Piece} → m ≢ n → q.node ≡ n → (piece_of m i worker c ≡ q) ⊎ Contains w.outs q → Contains w.outs q
    not_new apart e (inl new) = absurd (apart (ap (λ (z : Piece). z.node) new ∙ e))
    not_new apart e (inr old) = old

    or_new : {q : Piece} → n ≡ m → (piece_of m i worker c ≡ q) ⊎ Contains w.outs q → Contains w.outs q ⊎ ((k : ℕ) × (piece_of n i k c ≡ q))
    or_new here (inl new) = inr (worker, ap (λ k. piece_of k i worker c) here ∙ new)
    or_new here (inr old) = inl old

    claim_by : (n ≡ m) ⊎ (n ≢ m) → Seen F w v n node
    claim_by (inr other_one) = stands_still (weaker_on (IsTakenOf m i) (TakenElsewhere n) (IsTakenBy m i c.takes_morsel) w v (elsewhere m i (λ e. other_one (sym e))) goes) one_claim (moved v m other c.progress at (claim_stands w m i worker other c at n) other_one) (λ q cq e. not_new (λ same. other_one (sym same)) e (outs_of q cq))
    claim_by (inl here) =
        let same = same_node w n other node (ap (slice_get w.nodes) here ∙ at) there in
        claims i c ((λ j. claim_at w (here j) i (sym same j)) ∙ is) (subst (λ k. GoesOn (IsTakenOf k i) (IsTakenBy k i c.takes_morsel) w v) (sym here) goes) one_claim (moved_here v m other c.progress at (claim_stands w m i worker other c at n) here) (λ q cq e. or_new here (outs_of q cq))

    claim_seen : Seen F w v n node
    claim_seen = claim_by (cases_eq n m)

  module _ (m i : ℕ) (other : Node) (p : Pipe) (rs : List Row) (at : slice_get w.nodes m ≡ Some other) (pulling : pulls other.node.kind ≡ true) (cp : Contains w.pipes p) (input : (is_input m i p && p.in_phase) ≡ true) (has : has_next p ≡ true) (is : morsel_at p.next p.got ≡ Some rs) where
    abbrev pulling_on : World
    pulling_on = after_pull w m i other p rs

    pipes_on : GoesOn (IsTakenOf m i) (IsTakenBy m i true) w pulling_on
    pipes_on = pull_goes F w known m i other p rs cp input has

    one_pull : StepOf F w pulling_on n node
    one_pull = pull_step F w n node there single m i other p rs at

    pull_by : (n ≡ m) ⊎ (n ≢ m) → Seen F w pulling_on n node
    pull_by (inr other_one) = stands_still (weaker_on (IsTakenOf m i) (TakenElsewhere n) (IsTakenBy m i true) w pulling_on (elsewhere m i (λ e. other_one (sym e))) pipes_on) one_pull (moved pulling_on m other (stored_progress other i rs) at (pull_stands w m i other p rs at n) other_one) (λ q cq e. cq)
    pull_by (inl here) =
        let same = same_node w n other node (ap (slice_get w.nodes) here ∙ at) there in
        pulls_in i p rs (ap (λ (x : Node). pulls x.node.kind) (sym same) ∙ pulling) cp (ap (λ k. is_input k i p) here ∙ (both_true (is_input m i p) p.in_phase input).0) is (subst (λ k. GoesOn (IsTakenOf k i) (IsTakenBy k i true) w pulling_on) (sym here) pipes_on) one_pull
        (subst (λ (x : Node). StandsAt pulling_on n (record node { progress = stored_progress x i rs })) same (moved_here pulling_on m other (stored_progress other i rs) at (pull_stands w m i other p rs at n) here)) (λ q cq e. cq)

    pull_seen : Seen F w pulling_on n node
    pull_seen = pull_by (cases_eq n m)

  pub step_seen : (v : World) (r : Record) → within_phase r ≡ true → Steps F w r v → Seen F w v n node
  step_seen v (opened phase) t s = absurd (let no : false ≡ true = t in cc)
  step_seen v (claimed m i number worker) t s = subst (λ z. Seen F w z n node) (sym s.5.3) (claim_seen m i worker s.0 s.5.0 s.1.0 s.1.1 s.5.1)
  step_seen v (handed_in m i number worker handed) t s =
      subst (λ z. Seen F w z n node) (sym s.7.3) (still (answered w s.0 s.7.0) (answer_goes F w known s.0 s.1 s.7.0 s.7.1) (answer_step F w n node there single s.0 s.7.0 s.1 s.7.1) (answer_stands w s.0 s.7.0 n) (λ q c. (was_kept (λ (x : Piece). not (nat_eq x.worker s.0.worker)) q w.outs c).0))
  step_seen v (pulled m i number) t s = subst (λ z. Seen F w z n node) (sym s.4.8) (pull_seen m i s.0 s.4.0 s.4.1 s.1.0 s.2 s.4.2 s.4.3 s.4.4 s.4.5)
  step_seen v (closed m) t s = subst (λ z. Seen F w z n node) (sym s.4) (still (after_close w m s.0) (close_goes F w known m s.0) (close_step F w n node there single m s.0 s.1.0) (close_stands w m s.0 s.1.0 n) (λ q c. c))
  step_seen v (ended phase) t s = absurd (let no : false ≡ true = t in cc)

  pub end_seen : Seen F w (after_end w) n node
  end_seen = still (after_end w) (end_goes F w known) (end_step F w n node there single) (end_stands w n) (λ q c. c)
