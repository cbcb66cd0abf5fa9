use Rattle.std.proofs.Common.{◌≡◌, length, map}
use Rattle.pu_map.specs.Chains.{IsChained, bucket_of}
use Rattle.pu_map.specs.Links.{hashes, nexts, stored}
use Rattle.pu_map.proofs.key_table.attach_all.Given as goal

-- the links before `at` are chained, and all keep what they store
abbrev pub invariant-links : goal.invariant-links
invariant-links l =
    IsChained (bucket_of l.seed (length l.fn.heads)) l.heads (hashes l.links) (nexts l.links) l.at
    × (map stored l.links ≡ map stored l.fn.links)
