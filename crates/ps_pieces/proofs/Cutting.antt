-- Views of rows, by numbers that stand still at the greatest of 64 bits.
use Rattle.std.proofs.Common.{◌≡◌, ◌-◌, ℕ, List, drop, take, ap, sym, ◌∙◌}
use Rattle.ps_frame.proofs.Lists.{drop-take_sub}
use Rattle.ps_frame.specs.Tables.{Row}
use Rattle.ps_meaning.specs.Cases.{end_of}
use Rattle.ps_turns.specs.Claims.{sliced}

-- the rows that a slice keeps of a morsel, as a view of it
pub slice-same : (offset n booked start count : ℕ) (rows : List Row) → start ≡ offset - booked → count ≡ end_of offset n - booked - start → take count (drop start rows) ≡ sliced offset n booked rows
slice-same offset n booked start count rows a b =
    ap (λ k. take k (drop start rows)) b ∙ sym (drop-take_sub start (end_of offset n - booked) rows) ∙ ap (λ k. drop k (take (end_of offset n - booked) rows)) a
