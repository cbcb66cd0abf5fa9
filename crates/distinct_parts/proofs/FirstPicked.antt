-- The first row of those with a key.
use Rattle.std.proofs.Common.{◌≡◌, ◌≢◌, inl, ℕ, List, [], ◌∷◌, get_or, refl}
use Rattle.std.specs.Prelude.{map}
use Rattle.ps_frame.specs.Trees.{Aggregation}
use Rattle.ps_frame.specs.declared.value.Value.{Value}
use Rattle.ps_frame.specs.declared.value.Value.TheVariants as val
use Rattle.ps_shares.proofs.Members.{Has}
use Rattle.distinct_parts.proofs.Picks.{Picks}

pub picks_first : Picks Aggregation.first
picks_first =
    record {
      row = λ rows. get_or rows 0 [];
      value = λ vs. get_or vs 0 val.Null;
      column = λ at k vs. refl;
      of_rows = of_rows;
      one_of = one_of;
      kind = λ o. refl;
      free = λ at n. refl;
    }
  where
    of_rows : (j : ℕ) (rows : List (List Value)) → get_or (map (λ row. get_or row j val.Null) rows) 0 val.Null ≡ get_or (get_or rows 0 []) j val.Null
    of_rows j [] = refl
    of_rows j (row ∷ rows) = refl

    one_of : (rows : List (List Value)) → rows ≢ [] → Has rows (get_or rows 0 [])
    one_of [] some = absurd (some refl)
    one_of (row ∷ rows) some = inl refl

pub first_picked : (rows : List (List Value)) → picks_first.row rows ≡ get_or rows 0 []
unfolding picks_first
first_picked rows = refl
