-- What the functions of the tests answer.
use Rattle.std.proofs.Common.{◌≡◌, ℕ, zero, suc, Option, Some, None, true, refl, ap, subst, arith}
use Rattle.std.specs.Prelude.{◌==◌, [], IsSomeAnd}
use Rattle.std.proofs.lemmas.Bool.{eqb-true}
use Rattle.std.proofs.lemmas.Option.{same_Some}
use Rattle.ps_frame.specs.Functions.{Functions, IsLawful}
use Rattle.ps_frame.specs.Lawful.{FitsFrame, empty_frame, stacked, stacked_answers}
use Rattle.ps_frame.specs.Tables.{Fields, Frame}

-- the table itself by function 0, none by another
abbrev pub answer_of : ℕ → Frame → Option Frame
answer_of zero f = Some f
answer_of (suc n) f = None

abbrev pub same_or_none : Functions
same_or_none = record { count = 2; streams = λ n. n == 0; answer = answer_of; declared = λ n s. Some s }

keeps : (n : ℕ) (f g : Frame) → answer_of n f ≡ Some g → f ≡ g
keeps zero f g e = same_Some f g e
keeps (suc n) f g e = absurd (let no : None ≡ Some g = e in cc)

parts : (n : ℕ) (f g : Frame) → (n == 0) ≡ true → answer_of n (stacked f g) ≡ stacked_answers (answer_of n f) (answer_of n g)
parts zero f g e = refl
parts (suc n) f g e = refl

none : (n : ℕ) (s : Fields) → (n == 0) ≡ true → IsSomeAnd (answer_of n (empty_frame s)) (λ g. g.rows ≡ [])
none zero s e = refl
none (suc n) s e = absurd (let no : suc n ≡ 0 = eqb-true (suc n) 0 e in omega arith)

pub lawful_answers : IsLawful same_or_none
lawful_answers =
    record {
      keeps_schema = λ n f g e. ap (λ (t : Frame). Some t.schema) (keeps n f g e);
      keeps_rows = λ n f g fits e. subst FitsFrame (keeps n f g e) fits;
      streams_empty = λ n s streams declared. none n s streams;
      streams_parts = λ n f g streams same. parts n f g streams;
    }
