-- What is told of values.
use Rattle.std.proofs.Common.{◌≤◌, List, [], ◌∷◌, not, length, arith}
use Rattle.ps_frame.specs.Aggregates.{distinct_values}
use Rattle.ps_frame.specs.Values.{same_value}
use Rattle.ps_frame.specs.declared.value.Value.{Value}
use Rattle.ps_keys.proofs.KeptRows.{kept-few}

-- no more values differ than there are
pub distinct-few : (vs : List Value) → length (distinct_values vs) ≤ length vs
distinct-few [] = omega arith
distinct-few (v ∷ vs) = omega (arith, kept-few (λ w. not (same_value v w)) (distinct_values vs), distinct-few vs)
