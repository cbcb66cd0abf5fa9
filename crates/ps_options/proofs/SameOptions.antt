-- Options with the same numbers are the same.
use Rattle.std.proofs.Common.{◌≡◌, ◌≤◌, ◌^◌}
use Rattle.std.specs.Coded.{le_prop}
use Rattle.ps_options.specs.declared.options.Options.{Options}
use mathlib.Core.HLevel.{is_prop→PathP}

pub same-options : (o p : Options) → o.workers ≡ p.workers → o.morsel_rows ≡ p.morsel_rows → o.partitions ≡ p.partitions → o.seed ≡ p.seed → o ≡ p
same-options o p workers rows partitions seed =
    λ i. record {
      workers = workers i;
      morsel_rows = rows i;
      partitions = partitions i;
      seed = seed i;
      some_workers = is_prop→PathP (λ j. 1 ≤ workers j) (λ j. le_prop) o.some_workers p.some_workers i;
      few_workers = is_prop→PathP (λ j. workers j ≤ 256) (λ j. le_prop) o.few_workers p.few_workers i;
      some_rows = is_prop→PathP (λ j. 1 ≤ rows j) (λ j. le_prop) o.some_rows p.some_rows i;
      few_rows = is_prop→PathP (λ j. rows j ≤ 2 ^ 20) (λ j. le_prop) o.few_rows p.few_rows i;
      some_partitions = is_prop→PathP (λ j. 1 ≤ partitions j) (λ j. le_prop) o.some_partitions p.some_partitions i;
      few_partitions = is_prop→PathP (λ j. partitions j ≤ 1024) (λ j. le_prop) o.few_partitions p.few_partitions i;
    }
