-- What is said of a step over the inputs, and over the only one of them.
use Rattle.std.proofs.Common.{◌≡◌, ℕ, List, [], ◌∷◌, length, sym, subst, inl, refl, arith}
use Rattle.std.proofs.lemmas.Result.{IfOk-weaker}
use Rattle.std.specs.Prelude.{IfErr, IfOk, OnErr, Result, Ok, Err}
use Rattle.ps_frame.specs.Functions.{Functions}
use Rattle.ps_frame.specs.Tables.{Fields, Frame}
use Rattle.ps_frame.specs.declared.refusal.PolarsError.{PolarsError}
use Rattle.ps_frame.specs.declared.refusal.PolarsError.TheVariants as error
use Rattle.ps_meaning.specs.Nodes.{GivesFrame, MayFault}
use Rattle.ps_meaning.specs.Steps.{Step}
use Rattle.ready_steps.specs.Ready.{IsReady}

abbrev pub Answer : Type 0
Answer = Result Frame PolarsError

pub ready-over : (step : Step) (fs gs : List Frame) (s : Fields) → fs ≡ gs → IsReady step fs s → IsReady step gs s
ready-over step fs gs s e r = subst (λ hs. IsReady step hs s) e r

pub gives-over : (at : ℕ) (step : Step) (fs gs : List Frame) (r : Answer) → fs ≡ gs → IfOk r (λ f. (F : Functions) → GivesFrame F at step gs f) → IfOk r (λ f. (F : Functions) → GivesFrame F at step fs f)
gives-over at step fs gs r e h = subst (λ hs. IfOk r (λ f. (F : Functions) → GivesFrame F at step hs f)) (sym e) h

pub faults-over : (at : ℕ) (step : Step) (fs gs : List Frame) (r : Answer) → fs ≡ gs → IfErr r (λ e. (F : Functions) → MayFault F at step gs e) → IfErr r (λ e. (F : Functions) → MayFault F at step fs e)
faults-over at step fs gs r e h = subst (λ hs. IfErr r (λ x. (F : Functions) → MayFault F at step hs x)) (sym e) h

-- the same of a step that holds a value which is not looked at
pub gives-with : {A : Type 0} (at : ℕ) (step : A → Step) (fs gs : List Frame) (r : Answer) → fs ≡ gs → IfOk r (λ f. (F : Functions) (a : A) → GivesFrame F at (step a) gs f) → IfOk r (λ f. (F : Functions) (a : A) → GivesFrame F at (step a) fs f)
gives-with {A} at step fs gs r e h = subst (λ hs. IfOk r (λ f. (F : Functions) (a : A) → GivesFrame F at (step a) hs f)) (sym e) h

pub faults-with : {A : Type 0} (at : ℕ) (step : A → Step) (fs gs : List Frame) (r : Answer) → fs ≡ gs → IfErr r (λ e. (F : Functions) (a : A) → MayFault F at (step a) gs e) → IfErr r (λ e. (F : Functions) (a : A) → MayFault F at (step a) fs e)
faults-with {A} at step fs gs r e h = subst (λ hs. IfErr r (λ x. (F : Functions) (a : A) → MayFault F at (step a) hs x)) (sym e) h

-- a table that is given at each node is given at one
pub gives-at : (at : ℕ) (step : Step) (fs gs : List Frame) (r : Answer) → fs ≡ gs → IfOk r (λ f. (F : Functions) (n : ℕ) → GivesFrame F n step gs f) → IfOk r (λ f. (F : Functions) → GivesFrame F at step fs f)
gives-at at step fs gs r e h = gives-over at step fs gs r e (IfOk-weaker r _ _ (λ f g F. g F at) h)

-- want of memory is a fault of any step
pub memory-faults : (at : ℕ) (step : Step) (fs : List Frame) (r : Answer) → OnErr r (r ≡ Err error.OutOfMemory) → IfErr r (λ e. (F : Functions) → MayFault F at step fs e)
memory-faults at step fs (Ok f) h = tt
memory-faults at step fs (Err e) h = λ F. let is : e ≡ error.OutOfMemory = cc in inl is

pub no-inputs : (fs : List Frame) → length fs ≡ 0 → fs ≡ []
no-inputs [] e = refl
no-inputs (f ∷ fs) e = absurd (omega arith)
