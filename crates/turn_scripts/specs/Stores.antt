-- What trials know of their zips.
use Rattle.std.specs.Prelude.{◌≡◌, ◌≤◌, ℕ, length}
use Rattle.plain_nodes.specs.declared.zip.ZipNode.{ZipNode}

-- a zip with stores and heads for so many inputs
pub record HasStores (inputs : ℕ) (z : ZipNode) : Type 0 where
  pub some : 1 ≤ inputs
  pub came : length z.came.items ≡ inputs
  pub heads : length z.heads.items ≡ inputs
