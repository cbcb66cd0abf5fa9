-- Facts of a result's value.
use Rattle.std.specs.Prelude.{IfOk, Result, Ok, Err}

-- two facts of a value give a third
pub ok-both : {X E : Type 0} (r : Result X E) (P Q R : X → Type 0) → ((x : X) → P x → Q x → R x) → IfOk r P → IfOk r Q → IfOk r R
ok-both (Ok x) P Q R f p q = f x p q
ok-both (Err e) P Q R f p q = tt
