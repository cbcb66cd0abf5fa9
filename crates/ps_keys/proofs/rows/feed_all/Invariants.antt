use Rattle.std.proofs.Common.{◌≡◌, take, fold}
use Rattle.std.specs.Hash.FoldHasher.{initial}
use Rattle.ps_keys.specs.Hashes.{row_at, with_value}
use Rattle.ps_keys.proofs.rows.feed_all.Given as goal

abbrev pub invariant-loop-column : goal.invariant-loop-column
invariant-loop-column l = l.state ≡ fold with_value initial (row_at (take l.column-index l.columns) l.row)
