use Rattle.std.proofs.Common.{◌<◌, length}
use Rattle.text_queries.specs.Grammar.{IsItem}
use Rattle.text_queries.specs.Views.{item_of}
use Rattle.text_reading.specs.Reading.{Ends, HoldsShallow}
use Rattle.text_reading.proofs.Listing.{AreEntries}
use Rattle.text_reading.proofs.entries.read_items.Given as goal

abbrev pub invariant-loop-behind : goal.invariant-loop-behind
invariant-loop-behind l = record {
  entries : AreEntries (HoldsShallow IsItem (λ item. item.expr)) (Ends 1) item_of l.tokens l.items.items l.rest;
  shorter : length l.rest < length l.tokens;
}

abbrev pub decreases-loop-behind : goal.decreases-loop-behind
decreases-loop-behind l = length l.rest
