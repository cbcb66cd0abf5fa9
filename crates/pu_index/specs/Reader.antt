-- A reader over bytes, as contracts see it.
use Rattle.std.specs.Prelude.{ℕ, ℤ, pos, ◌+ℤ◌, List, length, drop}
use Rattle.std.specs.declared.io.SeekFrom.{SeekFrom}
use Rattle.std.specs.declared.io.SeekFrom.TheVariants.{Start, End, Current}

-- the bytes, and how many of them are read
pub record Reader : Type 0 where
  pub bytes : List ℕ
  pub position : ℕ

abbrev pub reader : List ℕ → ℕ → Reader
reader bs at = record { bytes = bs; position = at }

abbrev pub unread : Reader → List ℕ
unread r = drop r.position r.bytes

-- the place that a move names
abbrev pub seek_target : SeekFrom → Reader → ℤ
seek_target (Start n) r = pos n
seek_target (End z) r = pos (length r.bytes) +ℤ z
seek_target (Current z) r = pos r.position +ℤ z
