-- The number that keeps a chunk and a row.
use Rattle.std.specs.Prelude.{ℕ}
use Rattle.pu_index.specs.declared.chunk_id.ChunkId.{ChunkId}

abbrev pub inner_of : {bits : ℕ} → ChunkId bits → ℕ
inner_of id = id.swizzled
