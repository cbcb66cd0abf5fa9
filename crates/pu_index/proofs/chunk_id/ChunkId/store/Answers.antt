-- The two parts that were joined come apart.
use Rattle.std.proofs.Common.{◌≡◌, ◌+◌, ◌*◌, ◌%◌, ◌^◌, arith, rules}
use Rattle.pu_index.specs.Parts.{joined}
use Rattle.pu_index.proofs.StoredParts.{parts-joined}
use Rattle.pu_index.proofs.chunk_id.ChunkId.store.Goals as goal

pub returns-clause-kept : goal.returns-clause-kept
returns-clause-kept g c =
    let whole : c.from.result * 2 ^ g.row.CHUNK_BITS % 18446744073709551616 + c.from-2.result ≡ joined g.row.CHUNK_BITS c.args.chunk c.args.row = search rules in
    parts-joined g.row.CHUNK_BITS c.args.chunk c.args.row _ (omega arith) c.ranges.row.fits whole
