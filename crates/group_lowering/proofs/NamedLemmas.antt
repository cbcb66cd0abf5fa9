-- The names of a schema, one after the other.
use Rattle.std.proofs.Common.{◌≡◌, ℕ, zero, suc, ◌+◌, [], ◌∷◌, ◌++◌, add-one, ap, take}
use Rattle.std.proofs.lemmas.Option.{same_Some}
use Rattle.std.specs.Prelude.{None, Some, option_map, slice_get}
use Rattle.ps_frame.specs.Tables.{Fields}
use Rattle.ps_frame.specs.declared.value.DataType.{DataType}
use Rattle.ps_meaning.specs.Schemas.{names_of}
use Rattle.ps_meaning.specs.Steps.{Name}

pub names_next : (s : Fields) (i : ℕ) (n : Name) → option_map (λ (f : Name × DataType). f.0) (slice_get s i) ≡ Some n → names_of (take (i + 1) s) ≡ names_of (take i s) ++ n ∷ []
names_next s i n e = rw add-one (next s i e)
  where
    next : (s : Fields) (i : ℕ) → option_map (λ (f : Name × DataType). f.0) (slice_get s i) ≡ Some n → names_of (take (suc i) s) ≡ names_of (take i s) ++ n ∷ []
    next [] zero e = absurd (let no : None ≡ Some n = e in cc)
    next [] (suc i) e = absurd (let no : None ≡ Some n = e in cc)
    next (f ∷ s) zero e = ap (λ m. m ∷ []) (same_Some f.0 n e)
    next (f ∷ s) (suc i) e = ap (λ more. f.0 ∷ more) (next s i e)
