-- A node after a step beside the one before: another node's step leaves what it gave, what it booked and what it stores.
use Rattle.std.proofs.Common.{◌≡◌, ◌≢◌, ℕ, zero, suc, ◌⊎◌, Bool, true, false, cond, List, [], length, Option, Some, None, refl, sym, ap, subst, ◌∙◌, inl, inr}
use Rattle.std.specs.Prelude.{get_or, slice_get, slice_set}
use Rattle.std.proofs.lemmas.Bool.{cases_eq}
use Rattle.ps_frame.specs.Tables.{Row}
use Rattle.ps_meaning.specs.Shape.{PhysicalKind, PhysicalNode, zip_node}
use Rattle.ps_turns.specs.Claims.{Claim, filled_slot}
use Rattle.ps_turns.specs.Progress.{Progress, is_multiplexer}
use Rattle.ps_turns.specs.Pulls.{after_store}
use Rattle.ps_turns.specs.Tasks.{Answer, Piece, bad, good, partial}
use Rattle.ps_world.specs.Answers.{answered, with_partial}
use Rattle.ps_world.specs.Claims.{after_claim, before_drops}
use Rattle.ps_world.specs.Closing.{after_close, after_end}
use Rattle.ps_world.specs.Phases.{nodes_of_phase, with_phase}
use Rattle.ps_world.specs.Pipes.{drop_at, drop_if, drops_from, put_progress, without_heads}
use Rattle.ps_world.specs.Pulls.{after_pull}
use Rattle.ps_world.specs.World.{Node, Pipe, World, is_cut_off}
use Rattle.world_claims.proofs.Beside.{Before, heads_from, map_from, marked_from, set_from}
use Rattle.world_facts.proofs.Slots.{set_here, set_other}

abbrev pub zips : PhysicalKind → Bool
zips (zip_node extend) = true
zips kind = false

pub record Stands (x y : Node) : Type 0 where
  pub node : y.node ≡ x.node
  pub sent : y.progress.sent ≡ x.progress.sent
  pub booked : y.progress.booked ≡ x.progress.booked
  -- a zip may lose its heads
  pub stores : zips x.node.kind ≡ false → y.progress.stores ≡ x.progress.stores

pub as_it_stood : (x : Node) → Stands x x
as_it_stood x = record { node = refl; sent = refl; booked = refl; stores = λ k. refl }

pub stands_then : (x y z : Node) → Stands x y → Stands y z → Stands x z
stands_then x y z a b = record { node = b.node ∙ a.node; sent = b.sent ∙ a.sent; booked = b.booked ∙ a.booked; stores = λ k. b.stores (ap (λ (p : PhysicalNode). zips p.kind) a.node ∙ k) ∙ a.stores k }

bare : (x : Node) → Stands x (without_heads x.node.kind x)
bare x = by x.node.kind refl
  where
    by : (k : PhysicalKind) → x.node.kind ≡ k → Stands x (without_heads k x)
    by (zip_node extend) e = record { node = refl; sent = refl; booked = refl; stores = λ no. absurd (let never : true ≡ false = ap zips (sym e) ∙ no in cc) }
    by k e = as_it_stood x

abbrev pub StandsBefore : World → ℕ → Node → Type 0
StandsBefore w n y = Before Stands w.nodes n y

drop_stands : (b : Bool) (k : ℕ) (u : World) (n : ℕ) (y : Node) → slice_get (drop_if b k u).nodes n ≡ Some y → Before Stands u.nodes n y
drop_stands false k u n y e = (y, e, as_it_stood y)
drop_stands true k u n y e = heads_from Stands as_it_stood bare k u.nodes n y e

drops_stand : (k : ℕ) (u : World) (n : ℕ) (y : Node) → slice_get (drops_from u k).nodes n ≡ Some y → Before Stands u.nodes n y
drops_stand zero u n y e = (y, e, as_it_stood y)
drops_stand (suc k) u n y e =
    let z = drops_stand k (drop_at u k) n y e in
    let x = drop_stands (is_cut_off u k) k u n z.0 z.1 in
    (x.0, x.1, stands_then x.0 z.0 y x.2 z.2)

-- after a change of one node: another one stands, or it is this one
set_cases : (nodes : List Node) (m n : ℕ) (old new y : Node) → slice_get nodes m ≡ Some old → slice_get (slice_set nodes m new) n ≡ Some y → ((n ≢ m) × (slice_get nodes n ≡ Some y)) ⊎ (n ≡ m) × (new ≡ y)
set_cases nodes m n old new y at e = by (cases_eq n m)
  where
    by : (n ≡ m) ⊎ (n ≢ m) → ((n ≢ m) × (slice_get nodes n ≡ Some y)) ⊎ (n ≡ m) × (new ≡ y)
    by (inr other) = inl (other, sym (set_other nodes m n new other) ∙ e)
    by (inl here) =
        let there : slice_get (slice_set nodes m new) n ≡ Some new = ap (slice_get (slice_set nodes m new)) here ∙ set_here nodes m old new at in
        let q : Some new ≡ Some y = sym there ∙ e in
        inr (here, let same : new ≡ y = cc in same)

-- of a claim or a pull of a node: another node stood before, or it is this one with new progress
abbrev pub MovesNode : World → ℕ → ℕ → Node → Progress → Node → Type 0
MovesNode w m n node progress y = (n ≢ m) × StandsBefore w n y ⊎ (n ≡ m) × Stands (record node { progress = progress }) y

pub claim_stands : (w : World) (m i worker : ℕ) (node : Node) (c : Claim) → slice_get w.nodes m ≡ Some node → (n : ℕ) (y : Node) → slice_get (after_claim w m i worker node c).nodes n ≡ Some y → MovesNode w m n node c.progress y
claim_stands w m i worker node c at n y e =
    let start = before_drops w m i worker node c in
    let z = drops_stand (length start.nodes) start n y e in
    by z.0 z.2 (set_cases w.nodes m n node (record node { progress = c.progress }) z.0 at z.1)
  where
    by : (z : Node) → Stands z y → ((n ≢ m) × (slice_get w.nodes n ≡ Some z)) ⊎ (n ≡ m) × (record node { progress = c.progress } ≡ z) → MovesNode w m n node c.progress y
    by z s (inl other) = inl (other.0, (z, other.1, s))
    by z s (inr here) = inr (here.0, subst (λ x. Stands x y) (sym here.1) s)

-- what a node has behind it after a pull
abbrev pub stored_progress : Node → ℕ → List Row → Progress
stored_progress node i rs = cond (is_multiplexer node.node.kind) node.progress (after_store node.node.kind i rs node.progress)

pub pull_stands : (w : World) (m i : ℕ) (node : Node) (p : Pipe) (rs : List Row) → slice_get w.nodes m ≡ Some node → (n : ℕ) (y : Node) → slice_get (after_pull w m i node p rs).nodes n ≡ Some y
    → MovesNode w m n node (stored_progress node i rs) y
pull_stands w m i node p rs at n y e = by (set_cases w.nodes m n node (record node { progress = stored_progress node i rs }) y at e)
  where
    by : ((n ≢ m) × (slice_get w.nodes n ≡ Some y)) ⊎ (n ≡ m) × (record node { progress = stored_progress node i rs } ≡ y) → MovesNode w m n node (stored_progress node i rs) y
    by (inl other) = inl (other.0, (y, other.1, as_it_stood y))
    by (inr here) = inr (here.0, subst (Stands (record node { progress = stored_progress node i rs })) here.1 (as_it_stood (record node { progress = stored_progress node i rs })))

pub answer_stands : (w : World) (q : Piece) (a : Answer) (n : ℕ) (y : Node) → slice_get (answered w q a).nodes n ≡ Some y → StandsBefore w n y
answer_stands w q (good rs) n y e = (y, e, as_it_stood y)
answer_stands w q (bad k) n y e = (y, e, as_it_stood y)
answer_stands w q (partial k) n y e = by (slice_get w.nodes q.node) refl e
  where
    by : (o : Option Node) → slice_get w.nodes q.node ≡ o → slice_get (with_partial q o w).nodes n ≡ Some y → StandsBefore w n y
    by None none h = (y, h, as_it_stood y)
    by (Some x) at h =
        let progress = record x.progress { taken = filled_slot q.input q.number (get_or q.tables 0 []) x.progress.taken } in
        set_from Stands as_it_stood w.nodes q.node x (record x { progress = progress }) at (record { node = refl; sent = refl; booked = refl; stores = λ k. refl }) n y (sym (ap (λ o. slice_get (put_progress o q.node progress w).nodes n) at) ∙ h)

pub close_stands : (w : World) (m : ℕ) (node : Node) → slice_get w.nodes m ≡ Some node → (n : ℕ) (y : Node) → slice_get (after_close w m node).nodes n ≡ Some y → StandsBefore w n y
close_stands w m node at n y e = set_from Stands as_it_stood w.nodes m node (record node { is_closed = true }) at (record { node = refl; sent = refl; booked = refl; stores = λ k. refl }) n y e

pub end_stands : (w : World) (n : ℕ) (y : Node) → slice_get (after_end w).nodes n ≡ Some y → StandsBefore w n y
end_stands w n y e = map_from Stands (λ (x : Node). record x { in_phase = false; is_closed = false }) (λ x. record { node = refl; sent = refl; booked = refl; stores = λ k. refl }) w.nodes n y e

pub phase_stands : (s : World) (n : ℕ) (y : Node) → slice_get (with_phase s).nodes n ≡ Some y → StandsBefore s n y
phase_stands s n y e = marked_from Stands (λ x b. record { node = refl; sent = refl; booked = refl; stores = λ k. refl }) (nodes_of_phase s) 0 s.nodes n y e
