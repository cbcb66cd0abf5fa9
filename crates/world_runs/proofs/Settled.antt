-- Worlds of three, four and six nodes that are at rest.
use Rattle.std.proofs.Common.{◌≡◌, ℕ, zero, suc, length, Some, subst, arith}
use Rattle.std.specs.Prelude.{slice_get}
use Rattle.std.proofs.lemmas.Option.{get_or_from_slice_get, slice_get_within}
use Rattle.ps_world.specs.Updates.{IsAtRest, IsSettled}
use Rattle.ps_world.specs.World.{Node, World}
use Rattle.world_runs.specs.Nodes.{node_of, some_node}

at_node : (s : World) (n : ℕ) (node : Node) → slice_get s.nodes n ≡ Some node → IsAtRest s n (node_of s n) → IsAtRest s n node
at_node s n node e a = subst (λ x. IsAtRest s n x) (get_or_from_slice_get s.nodes n node some_node e) a

pub three : (s : World) → length s.nodes ≡ 3 → IsAtRest s 0 (node_of s 0) → IsAtRest s 1 (node_of s 1) → IsAtRest s 2 (node_of s 2) → IsSettled s
three s l a b c zero node e = at_node s 0 node e a
three s l a b c (suc zero) node e = at_node s 1 node e b
three s l a b c (suc (suc zero)) node e = at_node s 2 node e c
three s l a b c (suc (suc (suc n))) node e = absurd (let h = slice_get_within s.nodes (suc (suc (suc n))) node e in omega arith)

pub four : (s : World) → length s.nodes ≡ 4 → IsAtRest s 0 (node_of s 0) → IsAtRest s 1 (node_of s 1) → IsAtRest s 2 (node_of s 2) → IsAtRest s 3 (node_of s 3) → IsSettled s
four s l a b c d zero node e = at_node s 0 node e a
four s l a b c d (suc zero) node e = at_node s 1 node e b
four s l a b c d (suc (suc zero)) node e = at_node s 2 node e c
four s l a b c d (suc (suc (suc zero))) node e = at_node s 3 node e d
four s l a b c d (suc (suc (suc (suc n)))) node e = absurd (let h = slice_get_within s.nodes (suc (suc (suc (suc n)))) node e in omega arith)

pub six : (s : World) → length s.nodes ≡ 6 → IsAtRest s 0 (node_of s 0) → IsAtRest s 1 (node_of s 1) → IsAtRest s 2 (node_of s 2) → IsAtRest s 3 (node_of s 3) → IsAtRest s 4 (node_of s 4) → IsAtRest s 5 (node_of s 5) → IsSettled s
six s l a b c d e f zero node q = at_node s 0 node q a
six s l a b c d e f (suc zero) node q = at_node s 1 node q b
six s l a b c d e f (suc (suc zero)) node q = at_node s 2 node q c
six s l a b c d e f (suc (suc (suc zero))) node q = at_node s 3 node q d
six s l a b c d e f (suc (suc (suc (suc zero)))) node q = at_node s 4 node q e
six s l a b c d e f (suc (suc (suc (suc (suc zero))))) node q = at_node s 5 node q f
six s l a b c d e f (suc (suc (suc (suc (suc (suc n)))))) node q = absurd (let h = slice_get_within s.nodes (suc (suc (suc (suc (suc (suc n)))))) node q in omega arith)
