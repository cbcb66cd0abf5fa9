-- Facts of results.
use Rattle.std.proofs.Common.{◌≡◌, ℕ, inl}
use Rattle.std.specs.Prelude.{IfErr, OnErr, OnOk, Result, Ok, Err}
use Rattle.ps_frame.specs.declared.refusal.PolarsError.{PolarsError}
use Rattle.ps_frame.specs.declared.refusal.PolarsError.TheVariants as error
use Rattle.ps_frame.specs.declared.value.DataFault.{DataFault}
use Rattle.ps_groups.specs.Errors.{IsErrorAt}

-- what holds anyway holds of an answer
pub on_ok : {X E : Type 0} (r : Result X E) (P : Type 0) → P → OnOk r P
on_ok (Ok x) P p = p
on_ok (Err e) P p = tt

-- want of memory is an error at each node
pub memory-error : {X : Type 0} (at : ℕ) (P : DataFault → Type 0) (r : Result X PolarsError) → OnErr r (r ≡ Err error.OutOfMemory) → IfErr r (IsErrorAt at P)
memory-error at P (Ok x) h = tt
memory-error at P (Err e) h = inl (let is : e ≡ error.OutOfMemory = cc in is)
