-- The texts of cells, however they are held.
use Rattle.std.specs.Prelude.{ℕ, List}
use Rattle.ps_frame.specs.declared.text.Content.{Content}
use Rattle.ps_frame.specs.declared.text.Content.TheVariants.{Short, Long}

abbrev pub bytes_of : Content → List ℕ
bytes_of (Short text) = text.bytes
bytes_of (Long bytes) = bytes
