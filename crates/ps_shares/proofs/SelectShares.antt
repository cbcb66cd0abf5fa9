-- What a select makes of a table is a share: it shows its expressions, each under its name.
use Rattle.std.proofs.Common.{◌≡◌, ◌≢◌, inl, inr, ℕ, suc, false, List, [], ◌∷◌, length, Some, None, refl, sym, ap, subst, ◌∙◌}
use Rattle.std.specs.Prelude.{IsTrue, Option, unwrap_or}
use Rattle.std.specs.List.{AllByRecursion}
use Rattle.ps_frame.specs.Causes.{Column}
use Rattle.ps_frame.specs.Eval.{eval}
use Rattle.ps_frame.specs.Tables.{Fields, Table}
use Rattle.ps_frame.specs.Typing.{kind_over}
use Rattle.ps_frame.specs.Zip.{below, extents, zip_length, zipped}
use Rattle.ps_frame.specs.declared.value.DataType.{DataType}
use Rattle.ps_frame.specs.declared.value.Value.{Value}
use Rattle.ps_meaning.specs.Cases.{columns_at}
use Rattle.ps_meaning.specs.Schemas.{both as both_of, fields_of}
use Rattle.ps_meaning.specs.Steps.{Name, Named, exprs_of}
use Rattle.ps_shares.specs.Ends.{AreKnownBy, SelectsShare}
use Rattle.ps_shares.specs.Leaves.{Naming}
use Rattle.ps_shares.proofs.KeySorts.{wide_rows}
use Rattle.ps_shares.proofs.Shares.{selects_show}
use Rattle.ps_shares.proofs.Stepped.{AsZip, selected}

module _ (at : ℕ) (Read : Name → Type 0) (known : Naming) (t : Table) where
  -- as many columns as fields
  pub as_many : (s : Fields) (cs : List Column) → AreKnownBy Read known s cs → length s ≡ length cs
  as_many [] [] h = refl
  as_many [] (c ∷ cs) h = absurd h
  as_many (f ∷ s) [] h = absurd h
  as_many (f ∷ s) (c ∷ cs) h = ap suc (as_many s cs h.1)

  named_columns : (es : List Named) (fs : Fields) → fields_of es t.schema ≡ Some fs → AllByRecursion (λ (m : Named). Read m.0 → eval at t m.1 ≡ known m.0) es → AreKnownBy Read known fs (columns_at at (exprs_of es) t)
  named_columns [] [] h all = tt
  named_columns [] (f ∷ fs) h all = let w : Some [] ≡ Some (f ∷ fs) = h in cc
  named_columns (e ∷ es) fs h all = by (kind_of_it t) (fields_of es t.schema) refl h (λ gs q. named_columns es gs q all.1)
    where
      kind_of_it : Table → Option DataType
      kind_of_it t = kind_over t.schema e.1

      by : (k : Option DataType) (o : Option Fields) → fields_of es t.schema ≡ o → both_of (λ k fs. (e.0, k) ∷ fs) k o ≡ Some fs
          → ((gs : Fields) → fields_of es t.schema ≡ Some gs → AreKnownBy Read known gs (columns_at at (exprs_of es) t)) → AreKnownBy Read known fs (columns_at at (exprs_of (e ∷ es)) t)
      by None o q h rest = cc
      by (Some k) None q h rest = cc
      by (Some k) (Some gs) q h rest =
          let w : Some ((e.0, k) ∷ gs) ≡ Some fs = h in
          let is : (e.0, k) ∷ gs ≡ fs = cc in
          subst (λ fs. AreKnownBy Read known fs (columns_at at (exprs_of (e ∷ es)) t)) is (all.0, rest gs q)

pub selects_share : SelectsShare
selects_share F at read known es fs t T some fields case all = (
  record {
    shows = selects_show F at es t T case;
    wide = ap length schema ∙ count;
    rows = subst (λ n. AllByRecursion (λ (row : List Value). length row ≡ n) T.rows) (sym (ap length schema ∙ count)) (by S.1);
    some = none es some;
  },
  schema,
  named,
)
  where
    cs : List Column
    cs = columns_at at (exprs_of es) t

    S : (T.schema ≡ unwrap_or (fields_of es t.schema) []) × AsZip (zipped false at (columns_at at (exprs_of es) t)) T
    S = selected F at es t T case

    schema : T.schema ≡ fs
    schema = S.0 ∙ ap (λ o. unwrap_or o []) fields

    named : AreKnownBy (λ n. IsTrue (read n)) known fs (columns_at at (exprs_of es) t)
    named = named_columns at (λ n. IsTrue (read n)) known t es fs fields all

    count : length fs ≡ length (columns_at at (exprs_of es) t)
    count = as_many at (λ n. IsTrue (read n)) known t fs (columns_at at (exprs_of es) t) named

    none : (es : List Named) → es ≢ [] → columns_at at (exprs_of es) t ≢ []
    none [] some e = some refl
    none (x ∷ es) some e = cc

    by : AsZip (zipped false at (columns_at at (exprs_of es) t)) T → AllByRecursion (λ (row : List Value). length row ≡ length (columns_at at (exprs_of es) t)) T.rows
    by (inl (rows, broken)) = subst (AllByRecursion (λ (row : List Value). length row ≡ length (columns_at at (exprs_of es) t))) (sym rows) (wide_rows (columns_at at (exprs_of es) t) (below (zip_length false (extents (columns_at at (exprs_of es) t)))))
    by (inr (rows, broken)) = subst (AllByRecursion (λ (row : List Value). length row ≡ length (columns_at at (exprs_of es) t))) (sym rows) tt
