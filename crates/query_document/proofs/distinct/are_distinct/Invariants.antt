use Rattle.std.proofs.Common.{◌≡◌, ◌≢◌, AllPairs, ℕ, List, take}
use Rattle.std.specs.BTreeSet.{contains_text}
use Rattle.std.specs.List.{list_any}
use Rattle.std.specs.Str.{bytes_eq}
use Rattle.query_document.proofs.distinct.are_distinct.Given as goal

abbrev pub invariant-loop-name : goal.invariant-loop-name
invariant-loop-name l =
    record {
      differ : AllPairs (λ (a : List ℕ) b. a ≢ b) (take l.name-index l.names);
      seen : (n : List ℕ) → contains_text l.seen n ≡ list_any (λ m. bytes_eq m n) (take l.name-index l.names);
    }
