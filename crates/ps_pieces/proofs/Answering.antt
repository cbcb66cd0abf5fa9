-- What is answered of a table or an error.
use Rattle.std.proofs.Common.{◌≡◌, ℕ, Option, Some, None, refl, sym, ap, subst, ◌∙◌, inl, inr}
use Rattle.std.specs.Prelude.{Result, Ok, Err, IfOk, IfErr, IfSome, IfNone, OnErr, ◌⊎◌}
use Rattle.ps_frame.specs.Tables.{Frame}
use Rattle.ps_frame.specs.declared.refusal.PolarsError.{PolarsError}
use Rattle.ps_frame.specs.declared.refusal.PolarsError.TheVariants as error
use Rattle.ps_frame.specs.declared.value.DataFault.{DataFault}
use Rattle.ps_frame.specs.declared.value.DataFault.TheVariants as fault
use Rattle.ps_meaning.specs.Errors.{fault_error}
use Rattle.ps_pieces.specs.Computed.{fault_of}
use Rattle.ps_pieces.specs.declared.answer.Answer.{Answer}
use Rattle.ps_pieces.specs.declared.answer.Answer.TheVariants as given

fault-back : (n : ℕ) (x : DataFault) → fault_of (fault_error n x) ≡ Some x
fault-back n fault.StrictCast = refl
fault-back n fault.SliceBound = refl
fault-back n fault.Function = refl
fault-back n fault.Shape = refl
fault-back n fault.RowIndex = refl
fault-back n fault.Gather = refl
fault-back n fault.Rows = refl

abbrev pub Computed : Type 0
Computed = Result Frame PolarsError

abbrev pub Answered : Type 0
Answered = Result (Result Answer DataFault) PolarsError

-- the answer is that to what was computed
pub record IsAnswerTo (r : Computed) (a : Answered) : Type 0 where
  pub rows : IfOk r (λ f. a ≡ Ok (Ok (given.Rows f)))
  pub fault : IfErr r (λ e. IfSome (fault_of e) (λ x. a ≡ Ok (Err x)))
  pub memory : IfErr r (λ e. IfNone (fault_of e) (a ≡ Err error.OutOfMemory))

module _ (n : ℕ) (P : Result Answer DataFault → Type 0) (a : Answered) where
  of-error : (e : PolarsError) → IfSome (fault_of e) (λ x. a ≡ Ok (Err x)) → IfNone (fault_of e) (a ≡ Err error.OutOfMemory) → (e ≡ error.OutOfMemory) ⊎ ((x : DataFault) × (e ≡ fault_error n x) × P (Err x)) → IfOk a P
  of-error e some none (inl m) = subst (λ (z : Answered). IfOk z P) (sym (subst (λ (o : Option DataFault). IfNone o (a ≡ Err error.OutOfMemory)) (ap fault_of m) none)) tt
  of-error e some none (inr (x, is, p)) = subst (λ (z : Answered). IfOk z P) (sym (subst (λ (o : Option DataFault). IfSome o (λ y. a ≡ Ok (Err y))) (ap fault_of is ∙ fault-back n x) some)) p

  pub answer-holds : (r : Computed) → IsAnswerTo r a → IfOk r (λ f. P (Ok (given.Rows f))) → IfErr r (λ e. (e ≡ error.OutOfMemory) ⊎ ((x : DataFault) × (e ≡ fault_error n x) × P (Err x))) → IfOk a P
  answer-holds (Ok f) h p q = subst (λ (z : Answered). IfOk z P) (sym h.rows) p
  answer-holds (Err e) h p q = of-error e h.fault h.memory q

module _ (a : Answered) where
  of-none : (o : Option DataFault) → IfSome o (λ x. a ≡ Ok (Err x)) → IfNone o (a ≡ Err error.OutOfMemory) → OnErr a (a ≡ Err error.OutOfMemory)
  of-none None some none = subst (λ (z : Answered). OnErr z (z ≡ Err error.OutOfMemory)) (sym none) refl
  of-none (Some x) some none = subst (λ (z : Answered). OnErr z (z ≡ Err error.OutOfMemory)) (sym some) tt

  pub answer-fails : (r : Computed) → IsAnswerTo r a → OnErr a (a ≡ Err error.OutOfMemory)
  answer-fails (Ok f) h = subst (λ (z : Answered). OnErr z (z ≡ Err error.OutOfMemory)) (sym h.rows) tt
  answer-fails (Err e) h = of-none (fault_of e) h.fault h.memory
