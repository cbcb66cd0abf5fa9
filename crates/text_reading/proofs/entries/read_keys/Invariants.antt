use Rattle.std.proofs.Common.{◌<◌, length}
use Rattle.text_queries.specs.Grammar.{IsKey}
use Rattle.text_queries.specs.Views.{key_of}
use Rattle.text_reading.specs.Reading.{EndsKey, HoldsShallow}
use Rattle.text_reading.proofs.Listing.{AreEntries}
use Rattle.text_reading.proofs.entries.read_keys.Given as goal

abbrev pub invariant-loop-behind : goal.invariant-loop-behind
invariant-loop-behind l = record {
  entries : AreEntries (HoldsShallow IsKey (λ key. key.expr)) EndsKey key_of l.tokens l.keys.items l.rest;
  shorter : length l.rest < length l.tokens;
}

abbrev pub decreases-loop-behind : goal.decreases-loop-behind
decreases-loop-behind l = length l.rest
