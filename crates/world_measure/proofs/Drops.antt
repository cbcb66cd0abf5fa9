-- Drops leave no more to do; and nodes that are set in their places.
use Rattle.std.proofs.Common.{◌≡◌, ◌≢◌, ℕ, zero, suc, ◌≤◌, ◌⊎◌, Bool, true, false, List, [], ◌∷◌, length, Option, None, Some, refl, sym, ap, ◌∙◌, inl, inr, arith}
use Rattle.std.specs.Prelude.{map, nat_eq, slice_get, slice_set, ◌&&◌}
use Rattle.std.proofs.lemmas.Bool.{cases_eq}
use Rattle.ps_frame.specs.Tables.{Row}
use Rattle.ps_meaning.specs.Shape.{PhysicalKind, zip_node}
use Rattle.ps_world.specs.Pipes.{drop_at, drop_if, drops_from, put_without_heads, without_heads}
use Rattle.ps_world.specs.World.{Node, World, is_cut_off}
use Rattle.world_facts.proofs.HandedIn.{length_set}
use Rattle.world_facts.proofs.Slots.{set_here, set_other}
use Rattle.world_measure.proofs.Pipes.{drop_no_more}
use Rattle.world_measure.specs.Left.{own_left, own_left_at, own_left_of, rows_left, untaken_by}

-- a node in the place of another, with no more to claim of its own, or with as much
pub set_no_more : (nodes : List Node) (n : ℕ) (old new : Node) → slice_get nodes n ≡ Some old → own_left_of (Some new) ≤ own_left_of (Some old) → (j : ℕ) → own_left_of (slice_get (slice_set nodes n new) j) ≤ own_left_of (slice_get nodes j)
set_no_more nodes n old new at less j = by (cases_eq j n)
  where
    by : (j ≡ n) ⊎ (j ≢ n) → own_left_of (slice_get (slice_set nodes n new) j) ≤ own_left_of (slice_get nodes j)
    by (inl same) =
        let after : own_left_of (slice_get (slice_set nodes n new) j) ≡ own_left_of (Some new) = ap own_left_of (ap (slice_get (slice_set nodes n new)) same ∙ set_here nodes n old new at) in
        let before : own_left_of (slice_get nodes j) ≡ own_left_of (Some old) = ap own_left_of (ap (slice_get nodes) same ∙ at) in
        omega arith
    by (inr other) = let e = ap own_left_of (set_other nodes n j new other) in omega arith

pub set_as_much : (nodes : List Node) (n : ℕ) (old new : Node) → slice_get nodes n ≡ Some old → own_left_of (Some new) ≡ own_left_of (Some old) → (j : ℕ) → own_left_of (slice_get (slice_set nodes n new) j) ≡ own_left_of (slice_get nodes j)
set_as_much nodes n old new at same j = by (cases_eq j n)
  where
    by : (j ≡ n) ⊎ (j ≢ n) → own_left_of (slice_get (slice_set nodes n new) j) ≡ own_left_of (slice_get nodes j)
    by (inl here) = ap own_left_of (ap (slice_get (slice_set nodes n new)) here ∙ set_here nodes n old new at) ∙ same ∙ sym (ap own_left_of (ap (slice_get nodes) here ∙ at))
    by (inr other) = ap own_left_of (set_other nodes n j new other)

-- no more is left to take of any pipe, nor to claim for any node
pub record NoMore (w v : World) : Type 0 where
  pub nodes : length v.nodes ≡ length w.nodes
  pub pipes : (j : ℕ) → untaken_by j v.pipes ≤ untaken_by j w.pipes
  pub own : (j : ℕ) → own_left_at v j ≤ own_left_at w j

none_stored : (k : ℕ) (stores : List (List (List Row))) → rows_left k (map (λ ms. []) stores) ≡ 0
none_stored k [] = refl
none_stored k (ms ∷ rest) = let h = none_stored k rest in omega arith

lost_heads : (kind : PhysicalKind) (x : Node) → x.node.kind ≡ kind → own_left_of (Some (without_heads kind x)) ≤ own_left_of (Some x)
lost_heads (zip_node extend) x e =
    let after : own_left_of (Some (without_heads (zip_node extend) x)) ≡ 0 = ap (λ k. own_left k (record x.progress { stores = map (λ ms. []) x.progress.stores })) e ∙ none_stored x.progress.booked x.progress.stores in
    omega arith
lost_heads kind x e = omega arith

lost_nodes : (n : ℕ) (nodes : List Node) (o : Option Node) → slice_get nodes n ≡ o → length (put_without_heads o n nodes) ≡ length nodes
lost_nodes n nodes None e = refl
lost_nodes n nodes (Some x) e = length_set nodes n (without_heads x.node.kind x)

lost_own : (n : ℕ) (nodes : List Node) (o : Option Node) → slice_get nodes n ≡ o → (j : ℕ) → own_left_of (slice_get (put_without_heads o n nodes) j) ≤ own_left_of (slice_get nodes j)
lost_own n nodes None e j = omega arith
lost_own n nodes (Some x) e j = set_no_more nodes n x (without_heads x.node.kind x) e (lost_heads x.node.kind x refl) j

drop_one : (b : Bool) (n : ℕ) (w : World) → NoMore w (drop_if b n w)
drop_one false n w = record { nodes = refl; pipes = λ j. omega arith; own = λ j. omega arith }
drop_one true n w =
    record {
      nodes = lost_nodes n w.nodes (slice_get w.nodes n) refl;
      pipes = λ j. drop_no_more (λ p. nat_eq p.wire.receiver n && p.in_phase) w.pipes j;
      own = λ j. lost_own n w.nodes (slice_get w.nodes n) refl j;
    }

pub drops : (k : ℕ) (w : World) → NoMore w (drops_from w k)
drops zero w = record { nodes = refl; pipes = λ j. omega arith; own = λ j. omega arith }
drops (suc n) w =
    let first = drop_one (is_cut_off w n) n w in
    let rest = drops n (drop_at w n) in
    record {
      nodes = rest.nodes ∙ first.nodes;
      pipes = λ j. let a = first.pipes j in let b = rest.pipes j in omega arith;
      own = λ j. let a = first.own j in let b = rest.own j in omega arith;
    }
