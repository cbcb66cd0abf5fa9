use Rattle.std.proofs.Common.{◌<◌, length}
use Rattle.text_queries.specs.Grammar.{IsColumn}
use Rattle.text_reading.specs.Reading.{Anything}
use Rattle.text_reading.proofs.Listing.{AreEntries}
use Rattle.text_reading.proofs.entries.read_names.Given as goal

abbrev pub invariant-loop-behind : goal.invariant-loop-behind
invariant-loop-behind l = record {
  entries : AreEntries IsColumn Anything (λ name. name) l.tokens l.names.items l.rest;
  shorter : length l.rest < length l.tokens;
}

abbrev pub decreases-loop-behind : goal.decreases-loop-behind
decreases-loop-behind l = length l.rest
