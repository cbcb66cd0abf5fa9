-- What an iterator over chunks has left.
use Rattle.std.specs.Prelude.{ℕ, List}
use Rattle.pu_index.specs.declared.chunks.Chunks.{Chunks}

abbrev pub left : {T : Type 0} → Chunks T → List T
left s = s.slice.now

abbrev pub size : {T : Type 0} → Chunks T → ℕ
size s = s.chunk_size
