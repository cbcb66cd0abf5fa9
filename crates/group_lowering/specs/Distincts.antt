-- A distinct as the rules see it.
use Rattle.ps_meaning.specs.Steps.{DistinctStep}
use Rattle.ps_meaning.specs.declared.options.DistinctOptions.{DistinctOptions}

abbrev pub distinct_of : DistinctOptions → DistinctStep
distinct_of o = record { subset = o.subset; maintain_order = o.maintain_order; keep = o.keep_strategy; cut = o.slice }
