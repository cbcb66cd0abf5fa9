-- Updates and fills leave of each node what it gave, what it booked and what it stores.
use Rattle.std.proofs.Common.{◌≡◌, ℕ, List, Some, refl, ap, ◌∙◌, inl, inr}
use Rattle.std.specs.Prelude.{slice_get, slice_set}
use Rattle.ps_frame.specs.Functions.{Functions}
use Rattle.ps_frame.specs.Tables.{Fields}
use Rattle.ps_meaning.specs.Shape.{PhysicalKind, PhysicalNode, group_by_node, in_memory_join, in_memory_map, negative_slice}
use Rattle.ps_options.specs.declared.options.Options.{Options}
use Rattle.ps_ports.specs.Ports.{Sides}
use Rattle.ps_turns.specs.Progress.{Progress}
use Rattle.ps_turns.specs.Updates.{Fills, Makes, Turns}
use Rattle.ps_world.specs.World.{Node, World}
use Rattle.world_claims.proofs.Beside.{set_from}
use Rattle.orderly_worlds.proofs.Stands.{Stands, StandsBefore, as_it_stood}

pub record Leaves (a b : Progress) : Type 0 where
  pub sent : b.sent ≡ a.sent
  pub booked : b.booked ≡ a.booked
  pub stores : b.stores ≡ a.stores

makes_leaves : (F : Functions) (o : Options) (p : PhysicalNode) (kind : PhysicalKind) (ss : List Fields) (a c : Progress) → Makes F o p kind ss a c → Leaves a c
makes_leaves F o p (in_memory_map step) ss a c (inl m) = let e = m.1 in record { sent = ap (λ (x : Progress). x.sent) e; booked = ap (λ (x : Progress). x.booked) e; stores = ap (λ (x : Progress). x.stores) e }
makes_leaves F o p (in_memory_map step) ss a c (inr m) = let e = m.3 in record { sent = ap (λ (x : Progress). x.sent) e; booked = ap (λ (x : Progress). x.booked) e; stores = ap (λ (x : Progress). x.stores) e }
makes_leaves F o p (in_memory_join j) ss a c m = let e = m.2 in record { sent = ap (λ (x : Progress). x.sent) e; booked = ap (λ (x : Progress). x.booked) e; stores = ap (λ (x : Progress). x.stores) e }
makes_leaves F o p (group_by_node keys aggregates) ss a c m = let e = m.2 in record { sent = ap (λ (x : Progress). x.sent) e; booked = ap (λ (x : Progress). x.booked) e; stores = ap (λ (x : Progress). x.stores) e }
makes_leaves F o p (negative_slice back n) ss a c m = record { sent = ap (λ (x : Progress). x.sent) m; booked = ap (λ (x : Progress). x.booked) m; stores = ap (λ (x : Progress). x.stores) m }
makes_leaves F o p kind ss a c m = record { sent = ap (λ (x : Progress). x.sent) m; booked = ap (λ (x : Progress). x.booked) m; stores = ap (λ (x : Progress). x.stores) m }

pub turn_leaves : (F : Functions) (o : Options) (p : PhysicalNode) (ss : List Fields) (given : Sides) (a b : Progress) → Turns F o p ss given a b → Leaves a b
turn_leaves F o p ss given a b (inl t) = record { sent = ap (λ (x : Progress). x.sent) t.1; booked = ap (λ (x : Progress). x.booked) t.1; stores = ap (λ (x : Progress). x.stores) t.1 }
turn_leaves F o p ss given a b (inr t) =
    let m = makes_leaves F o p p.kind ss a t.1 t.2 in
    record { sent = ap (λ (x : Progress). x.sent) t.3 ∙ m.sent; booked = ap (λ (x : Progress). x.booked) t.3 ∙ m.booked; stores = ap (λ (x : Progress). x.stores) t.3 ∙ m.stores }

pub fill_leaves : (F : Functions) (p : PhysicalNode) (ss : List Fields) (given : Sides) (a b : Progress) → Fills F p ss given a b → Leaves a b
fill_leaves F p ss given a b t = let e = t.3 in record { sent = ap (λ (x : Progress). x.sent) e; booked = ap (λ (x : Progress). x.booked) e; stores = ap (λ (x : Progress). x.stores) e }

-- so each node stands after an update or a fill
pub leaves_stand : (w : World) (m : ℕ) (other : Node) (progress : Progress) → slice_get w.nodes m ≡ Some other → Leaves other.progress progress → (n : ℕ) (y : Node) → slice_get (slice_set w.nodes m (record other { progress = progress })) n ≡ Some y → StandsBefore w n y
leaves_stand w m other progress at l n y e =
    set_from Stands as_it_stood w.nodes m other (record other { progress = progress }) at (record { node = refl; sent = l.sent; booked = l.booked; stores = λ k. l.stores }) n y e
