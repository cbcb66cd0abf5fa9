-- What the functions of the tests answer.
use Rattle.std.proofs.Common.{◌≡◌, ℕ, zero, suc, Option, Some, None, false, ap, subst}
use Rattle.std.specs.Prelude.{List, [], ◌∷◌, take}
use Rattle.std.specs.List.{AllByRecursion}
use Rattle.std.proofs.lemmas.Bool.{false≢true}
use Rattle.std.proofs.lemmas.Option.{same_Some}
use Rattle.ps_frame.specs.Functions.{Functions, IsLawful}
use Rattle.ps_frame.specs.Lawful.{FitsFrame}
use Rattle.ps_frame.specs.Tables.{Frame, Row}

-- the first row by function 0, no table by another
abbrev pub answer_of : ℕ → Frame → Option Frame
answer_of zero f = Some (record { schema = f.schema; rows = take 1 f.rows })
answer_of (suc n) f = None

abbrev pub first_row_or_none : Functions
first_row_or_none = record { count = 2; streams = λ n. false; answer = answer_of; declared = λ n s. Some s }

keeps : (n : ℕ) (f g : Frame) → answer_of n f ≡ Some g → record { schema = f.schema; rows = take 1 f.rows } ≡ g
keeps zero f g e = same_Some (record { schema = f.schema; rows = take 1 f.rows }) g e
keeps (suc n) f g e = absurd (let no : None ≡ Some g = e in cc)

first_fits : (P : Row → Type 0) (rows : List Row) → AllByRecursion P rows → AllByRecursion P (take 1 rows)
first_fits P [] fits = tt
first_fits P (row ∷ rows) fits = (fits.0, tt)

pub lawful_answers : IsLawful first_row_or_none
lawful_answers =
    record {
      keeps_schema = λ n f g e. ap (λ (t : Frame). Some t.schema) (keeps n f g e);
      keeps_rows = λ n f g fits e. subst FitsFrame (keeps n f g e) (first_fits _ f.rows fits);
      streams_empty = λ n s streams declared. absurd (false≢true streams);
      streams_parts = λ n f g streams same. absurd (false≢true streams);
    }
