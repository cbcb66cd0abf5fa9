-- A table is a share: it shows its columns, each under its name.
use Rattle.std.proofs.Common.{◌≡◌, ◌≢◌, ℕ, zero, suc, [], ◌∷◌, ◌++◌, length, refl, sym, ap, subst, ◌∙◌}
use Rattle.std.specs.Prelude.{IsTrue, map}
use Rattle.std.specs.List.{AllByRecursion}
use Rattle.std.proofs.lemmas.List.{map-append}
use Rattle.ps_frame.specs.Tables.{Fields, Table, column_at, columns_of, table_column}
use Rattle.ps_frame.specs.Zip.{below}
use Rattle.ps_meaning.specs.Cases.{columns_at}
use Rattle.ps_meaning.specs.Schemas.{names_of}
use Rattle.ps_meaning.specs.Steps.{Name}
use Rattle.ps_shares.specs.Ends.{AreKnownBy, InputsShare}
use Rattle.ps_shares.specs.Leaves.{Naming}
use Rattle.ps_shares.specs.Shares.{Shows}
use Rattle.ps_rules.specs.Slots.{columns_named}
use Rattle.ps_shares.proofs.KeySorts.{from, own_places, placed_columns}
use Rattle.ps_shares.proofs.SelectShares.{as_many}
use Rattle.ps_shares.proofs.ZipShares.{inputs_show}

-- the numbers below one more
below_front : (n : ℕ) → below (suc n) ≡ 0 ∷ map (λ j. suc j) (below n)
below_front zero = refl
below_front (suc n) = ap (λ xs. xs ++ suc n ∷ []) (below_front n) ∙ ap (λ xs. 0 ∷ xs) (sym (map-append (λ j. suc j) (below n) (n ∷ [])))

from_later : (k : ℕ) (s : Fields) → from (suc k) s ≡ map (λ j. suc j) (from k s)
from_later k [] = refl
from_later k (f ∷ s) = ap (λ xs. suc k ∷ xs) (from_later (suc k) s)

from_below : (s : Fields) → from 0 s ≡ below (length s)
from_below [] = refl
from_below (f ∷ s) = ap (λ xs. 0 ∷ xs) (from_later 0 s ∙ ap (map (λ j. suc j)) (from_below s)) ∙ sym (below_front (length s))

known_columns : (at : ℕ) (Read : Name → Type 0) (known : Naming) (t : Table) (s : Fields) → AllByRecursion (λ n. Read n → table_column n t ≡ known n) (names_of s) → AreKnownBy Read known s (columns_at at (columns_named (names_of s)) t)
known_columns at Read known t [] all = tt
known_columns at Read known t (f ∷ s) all = (all.0, known_columns at Read known t s all.1)

pub inputs_share : InputsShare
inputs_share at read known t some distinct wide all =
    let cs = columns_at at (columns_named (names_of t.schema)) t in
    let same : columns_of t ≡ cs = ap (map (λ j. column_at j t)) (sym (from_below t.schema)) ∙ sym (placed_columns at t t.schema 0 (own_places t.schema distinct)) in
    let named = known_columns at (λ n. IsTrue (read n)) known t t.schema all in
    let count = as_many at (λ n. IsTrue (read n)) known t t.schema cs named in (
      record {
        shows = subst (Shows t) same (inputs_show t wide some);
        wide = count;
        rows = wide;
        some = none t.schema some;
      },
      named,
    )
  where
    none : (s : Fields) → s ≢ [] → columns_at at (columns_named (names_of s)) t ≢ []
    none [] some e = some refl
    none (f ∷ s) some e = cc
