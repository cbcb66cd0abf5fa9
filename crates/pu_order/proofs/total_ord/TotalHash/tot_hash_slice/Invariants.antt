use Rattle.std.proofs.Common.{◌≡◌, ◌≤◌, length, take, fold}
use Rattle.std.specs.List.{flat_map}
use Rattle.pu_order.proofs.total_ord.TotalHash.tot_hash_slice.Given as goal

abbrev pub invariant-loop-i : goal.invariant-loop-i
invariant-loop-i g l =
    (l.i ≤ length l.data) × (l.state ≡ fold g.H.Hasher.write l.initial.state (flat_map g.Self.TotalHash.tot_hash_input (take l.i l.data)))
