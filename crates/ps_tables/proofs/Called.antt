-- A function that may be given its rows in parts answers a table as it answers its rows.
use Rattle.std.proofs.Common.{◌≡◌, ℕ, List, [], ◌∷◌, ◌++◌, Bool, true, false, refl, sym, ap, subst, ◌∙◌, inl, inr}
use Rattle.std.specs.Prelude.{Contains, IsNone, IsSome, IsSomeAnd, Option, Some, None, if◌then◌else◌, unwrap_or}
use Rattle.std.proofs.lemmas.Option.{same_Some}
use Rattle.ps_frame.specs.Causes.{Cause}
use Rattle.ps_frame.specs.Functions.{Functions, IsLawful}
use Rattle.ps_frame.specs.Lawful.{stacked, stacked_answers}
use Rattle.ps_frame.specs.Tables.{Fields, Frame, Table, whole}
use Rattle.ps_frame.specs.Zip.{Zipped}
use Rattle.ps_frame.specs.declared.refusal.Compute.TheVariants as compute
use Rattle.ps_frame.specs.declared.refusal.PolarsError.TheVariants as error
use Rattle.ps_frame.specs.declared.value.DataFault.TheVariants as fault
use Rattle.ps_frame.specs.declared.value.Value.{Value}
use Rattle.ps_meaning.specs.Cases.{answer_or_fault, if_whole, stream_table, streamed, user_table}
use Rattle.ps_meaning.specs.Nodes.{GivesFrame, MayFault}
use Rattle.ps_meaning.specs.Steps.{user}
use Rattle.ps_meaning.proofs.Containing.{contains-first}
use Rattle.ps_meaning.proofs.StepWithin.{answered}
use Rattle.ps_tables.proofs.Cuts.{table}

abbrev function_fault : ℕ → Cause
function_fault at = record { fault = fault.Function; node = at }

-- the rows of two answers, or the fault of one
abbrev IsAnswer : Zipped → Frame → Type 0
IsAnswer z a = (z.rows ≡ a.rows) × (z.broken ≡ [])

answered-is : (at : ℕ) (o p : Option Frame) (z : Zipped) (a : Frame) → stacked_answers o p ≡ Some a → ((b : Frame) → p ≡ Some b → IsAnswer z b) → IsAnswer (answered at o z) a
answered-is at None p z a e rest = cc
answered-is at (Some b) None z a e rest = cc
answered-is at (Some b) (Some d) z a e rest =
    let h = rest d refl in
    (ap (λ rows. b.rows ++ rows) h.0 ∙ ap (λ (f : Frame). f.rows) (same_Some (stacked b d) a e), h.1)

answered-faults : (at : ℕ) (o p : Option Frame) (z : Zipped) → stacked_answers o p ≡ None → (p ≡ None → Contains z.broken (function_fault at)) → Contains (answered at o z).broken (function_fault at)
answered-faults at None p z e rest = contains-first (function_fault at) []
answered-faults at (Some b) None z e rest = rest refl
answered-faults at (Some b) (Some d) z e rest = cc

no-rows : (o : Option Frame) (a : Frame) → o ≡ Some a → IsSomeAnd o (λ g. g.rows ≡ []) → a.rows ≡ []
no-rows None a e h = absurd h
no-rows (Some b) a e h = ap (λ (f : Frame). f.rows) (sym (same_Some b a e)) ∙ h

none-of : {A : Type 0} (o : Option A) → IsNone o → o ≡ None
none-of None h = refl
none-of (Some a) h = cc

module _ (F : Functions) (law : IsLawful F) (at n : ℕ) (s : Fields) (streams : F.streams n ≡ true) (declares : IsSome (F.declared n s)) where
  abbrev part : List (List Value) → Frame
  part rows = record { schema = s; rows = rows }

  abbrev one_by_one : List (List Value) → Zipped
  one_by_one rows = streamed at (λ r. F.answer n (part (r ∷ []))) rows

  answers-are : (rows : List (List Value)) (a : Frame) → F.answer n (part rows) ≡ Some a → IsAnswer (one_by_one rows) a
  answers-are [] a e = (sym (no-rows (F.answer n (part [])) a e (law.streams_empty n s streams declares)), refl)
  answers-are (r ∷ rs) a e =
      answered-is at (F.answer n (part (r ∷ []))) (F.answer n (part rs)) (one_by_one rs) a (sym (law.streams_parts n (part (r ∷ [])) (part rs) streams refl) ∙ e) (λ b g. answers-are rs b g)

  faults-are : (rows : List (List Value)) → F.answer n (part rows) ≡ None → Contains (one_by_one rows).broken (function_fault at)
  faults-are [] e = absurd (subst (λ o. IsSomeAnd o (λ (g : Frame). g.rows ≡ [])) e (law.streams_empty n s streams declares))
  faults-are (r ∷ rs) e =
      answered-faults at (F.answer n (part (r ∷ []))) (F.answer n (part rs)) (one_by_one rs) (sym (law.streams_parts n (part (r ∷ [])) (part rs) streams refl) ∙ e) (λ g. faults-are rs g)

module _ (F : Functions) (law : IsLawful F) (at n : ℕ) (t : Frame) (declares : IsSome (F.declared n t.schema)) where
  abbrev out : Fields
  out = unwrap_or (F.declared n t.schema) []

  abbrev given : Bool → Table
  given b = if b then stream_table F at n out (whole t) else if_whole out [] (answer_or_fault at out (F.answer n t))

  -- an answer is the table of the step
  pub user-gives : (a : Frame) → F.answer n t ≡ Some a → GivesFrame F at (user n) (t ∷ []) a
  user-gives a e = (whole a, inl (by (F.streams n) refl), refl)
    where
      by : (b : Bool) → F.streams n ≡ b → whole a ≡ given b
      by true q =
          let h = answers-are F law at n t.schema q declares t.rows a e in
          λ i. table (ap (λ o. unwrap_or o []) (sym (law.keeps_schema n t a e)) i) (sym h.0 i) (sym h.1 i)
      by false q = ap (answer_or_fault at out) (sym e)

  -- no answer is a fault of the step
  pub user-faults : IsNone (F.answer n t) → MayFault F at (user n) (t ∷ []) (error.ComputeError (record { 0 = at }) compute.Function)
  user-faults none = inr (fault.Function, refl, inl (user_table F at n out (whole t), inr (inl refl), by (F.streams n) refl))
    where
      none-is : F.answer n t ≡ None
      none-is = none-of (F.answer n t) none

      by : (b : Bool) → F.streams n ≡ b → Contains (given b).broken (function_fault at)
      by true q = faults-are F law at n t.schema q declares t.rows none-is
      by false q = subst (λ o. Contains (answer_or_fault at out o).broken (function_fault at)) (sym none-is) (contains-first (function_fault at) [])
