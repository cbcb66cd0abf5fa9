-- Facts of results.
use Rattle.std.proofs.Common.{◌≡◌, ℕ, List, inl}
use Rattle.std.specs.Prelude.{IfErr, IfOk, OnErr, Result, Ok, Err}
use Rattle.ps_frame.specs.Functions.{Functions}
use Rattle.ps_frame.specs.Tables.{Frame}
use Rattle.ps_frame.specs.declared.refusal.PolarsError.{PolarsError}
use Rattle.ps_frame.specs.declared.refusal.PolarsError.TheVariants as error
use Rattle.ps_meaning.specs.Nodes.{MayFault}
use Rattle.ps_meaning.specs.Steps.{Step}

pub if_ok : {X E : Type 0} (r : Result X E) (P Q : X → Type 0) → ((x : X) → P x → Q x) → IfOk r P → IfOk r Q
if_ok (Ok x) P Q f h = f x h
if_ok (Err e) P Q f h = tt

pub if_ok_both : {X E : Type 0} (r : Result X E) (P Q R : X → Type 0) → ((x : X) → P x → Q x → R x) → IfOk r P → IfOk r Q → IfOk r R
if_ok_both (Ok x) P Q R f h k = f x h k
if_ok_both (Err e) P Q R f h k = tt

pub if_ok_three : {X E : Type 0} (r : Result X E) (P Q R S : X → Type 0) → ((x : X) → P x → Q x → R x → S x) → IfOk r P → IfOk r Q → IfOk r R → IfOk r S
if_ok_three (Ok x) P Q R S f h k l = f x h k l
if_ok_three (Err e) P Q R S f h k l = tt

-- want of memory is an error of each step
pub memory-faults : {X : Type 0} (at : ℕ) (step : Step) (fs : List Frame) (r : Result X PolarsError) → OnErr r (r ≡ Err error.OutOfMemory) → IfErr r (λ e. (F : Functions) → MayFault F at step fs e)
memory-faults at step fs (Ok x) h = tt
memory-faults at step fs (Err e) h = λ F. inl (let is : e ≡ error.OutOfMemory = cc in is)
