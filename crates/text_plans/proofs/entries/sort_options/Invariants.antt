use Rattle.std.proofs.Common.{◌≡◌, map, take}
use Rattle.std.specs.Prelude.{false}
use Rattle.text_queries.specs.Queries.{Key}
use Rattle.text_queries.specs.Views.{key_of}
use Rattle.text_plans.proofs.entries.sort_options.Given as goal

abbrev pub invariant-loop-key : goal.invariant-loop-key
invariant-loop-key l =
    record {
      descending : l.descending.items ≡ map (λ (key : Key). key.desc) (map key_of (take l.key-index l.keys));
      nulls_first : l.nulls_last.items ≡ map (λ (key : Key). false) (map key_of (take l.key-index l.keys));
    }
