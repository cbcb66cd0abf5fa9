-- A node that gives a change of a zip goes piece by piece, where each of the zip's columns goes row by row and the change goes part by part.
use Rattle.std.proofs.Common.{◌≡◌, ℕ, List, [], ◌∷◌, ◌++◌, refl, sym, ap, subst, ◌∙◌, inl, inr}
use Rattle.std.specs.Prelude.{◌≢◌, ◌⊎◌, false}
use Rattle.std.specs.List.{AllByRecursion}
use Rattle.ps_frame.specs.Causes.{Cause}
use Rattle.ps_frame.specs.Functions.{Functions}
use Rattle.ps_frame.specs.Tables.{Fields, IsWhole, Row, Table, no_rows}
use Rattle.ps_frame.specs.Zip.{Zipped}
use Rattle.ps_meaning.specs.Cases.{table_of}
use Rattle.ps_meaning.specs.Shape.{PhysicalCase, PhysicalNode}
use Rattle.ps_world.specs.Passing.{in_front, GivesRows, GoesPiecewise}
use Rattle.passing_laws.proofs.Goers.{AllGo, AreClean, Goer, all_lone}
use Rattle.passing_laws.proofs.Zips.{none-lost, whole-clean, zip-causes, zip-front, zip-none, zip_over}

-- a change that goes part by part
pub record GoesByPart (f : List Row → List Row) : Type 0 where
  pub none : f [] ≡ []
  pub parts : (xs ys : List Row) → f (xs ++ ys) ≡ f xs ++ f ys

-- what a step gives of a zip before its slice: the changed rows, or none where causes are lost
abbrev pub GivesOf : Fields → (List Row → List Row) → Zipped → Table → Type 0
GivesOf o f z U = (U ≡ table_of o f z) ⊎ ((V : Table) × (V ≡ table_of o f z) × (z.lost ≢ []) × (U ≡ no_rows V.schema z.lost))

module _ (node : ℕ) (gs : List Goer) (all : AllGo gs) (some : all_lone gs ≡ false) (o : Fields) (f : List Row → List Row) (by_part : GoesByPart f) where
  abbrev pub z_over : List Row → List Cause → Zipped
  z_over rows causes = zip_over node gs all some rows causes

  abbrev pub GivesOver : List Row → List Cause → Table → Type 0
  GivesOver rows causes U = GivesOf o f (z_over rows causes) U

  -- what is whole has no lost causes, no faulty cell, and all of its rows
  record WholeOver (a b : List Row) : Type 0 where
    clean : AllByRecursion (AreClean gs) a
    rows : b ≡ f (z_over a []).rows

  whole-over : (a : List Row) (U : Table) → GivesOver a [] U → IsWhole U → WholeOver a U.rows
  whole-over a U (inl e) w = record { clean = whole-clean node gs all some a [] (ap (λ (t : Table). t.broken) (sym e) ∙ w); rows = ap (λ (t : Table). t.rows) e }
  whole-over a U (inr (V, g, lost, e)) w = absurd (lost (ap (λ (t : Table). t.broken) (sym e) ∙ w))

  pub none-over : GivesOver [] [] (table_of o f (z_over [] [])) × ((table_of o f (z_over [] [])).broken ≡ []) × ((table_of o f (z_over [] [])).rows ≡ [])
  none-over = let n = zip-none node gs all some in (inl refl, n.1, ap f n.0 ∙ by_part.none)

  front-over : (a rows : List Row) (causes : List Cause) → AllByRecursion (AreClean gs) a → in_front (f (z_over a []).rows) (table_of o f (z_over rows causes)) ≡ table_of o f (z_over (a ++ rows) causes)
  front-over a rows causes c =
      λ i. record {
        schema = o;
        rows = (sym (by_part.parts (z_over a []).rows (z_over rows causes).rows) ∙ ap f (sym (zip-front node gs all some a rows causes c))) i;
        broken = sym (zip-causes node gs all some a rows causes c) i;
      }

  -- where a row stands in front nothing is lost; over no row there is none
  lost-front : (a rows : List Row) (causes : List Cause) (V U : Table) → AllByRecursion (AreClean gs) a → V ≡ table_of o f (z_over rows causes) → (z_over rows causes).lost ≢ [] → U ≡ no_rows V.schema (z_over rows causes).lost
      → GivesOver (a ++ rows) causes (in_front (f (z_over a []).rows) U)
  lost-front [] rows causes V U c g lost e =
      let n : f (z_over [] []).rows ≡ [] = ap f (zip-none node gs all some).0 ∙ by_part.none in
      inr (V, g, lost, ap (λ bs. in_front bs U) n ∙ e)
  lost-front (r ∷ a) rows causes V U c g lost e = absurd (lost (none-lost node gs all some r a rows causes c))

  pub over-front : (a rows : List Row) (causes : List Cause) (U V : Table) → GivesOver a [] U → IsWhole U → GivesOver rows causes V → GivesOver (a ++ rows) causes (in_front U.rows V)
  over-front a rows causes U V g w h =
      let k = whole-over a U g w in
      subst (λ bs. GivesOver (a ++ rows) causes (in_front bs V)) (sym k.rows) (by k.clean h)
    where
      by : AllByRecursion (AreClean gs) a → GivesOver rows causes V → GivesOver (a ++ rows) causes (in_front (f (z_over a []).rows) V)
      by c (inl e) = inl (ap (in_front (f (z_over a []).rows)) e ∙ front-over a rows causes c)
      by c (inr (W, g, lost, e)) = lost-front a rows causes W V c g lost e

abbrev pub table_with : Fields → List Row → List Cause → Table
table_with s rows causes = record { schema = s; rows = rows; broken = causes }

-- the node's case over tables of a schema is what it gives of the zip
pub record IsOfZip (F : Functions) (p : PhysicalNode) (s : Fields) (f : List Row → List Row) (z : List Row → List Cause → Zipped) : Type 0 where
  pub into : (rows : List Row) (causes : List Cause) (U : Table) → PhysicalCase F p (table_with s rows causes ∷ []) U → GivesOf p.schema f (z rows causes) U
  pub back : (rows : List Row) (causes : List Cause) (U : Table) → GivesOf p.schema f (z rows causes) U → PhysicalCase F p (table_with s rows causes ∷ []) U

pub of-zip : (F : Functions) (p : PhysicalNode) (s : Fields) (f : List Row → List Row) (z w : List Row → List Cause → Zipped) (o : Fields) → o ≡ p.schema → ((rows : List Row) (causes : List Cause) → z rows causes ≡ w rows causes)
    → ((rows : List Row) (causes : List Cause) (U : Table) → PhysicalCase F p (table_with s rows causes ∷ []) U → GivesOf o f (w rows causes) U)
    → ((rows : List Row) (causes : List Cause) (U : Table) → GivesOf o f (w rows causes) U → PhysicalCase F p (table_with s rows causes ∷ []) U) → IsOfZip F p s f z
of-zip F p s f z w o same zips to from =
    record {
      into = λ rows causes U c. subst (λ q. GivesOf q f (z rows causes) U) same (subst (λ v. GivesOf o f v U) (sym (zips rows causes)) (to rows causes U c));
      back = λ rows causes U g. from rows causes U (subst (λ v. GivesOf o f v U) (zips rows causes) (subst (λ q. GivesOf q f (z rows causes) U) (sym same) g));
    }

module _ (F : Functions) (p : PhysicalNode) (s : Fields) (gs : List Goer) (all : AllGo gs) (some : all_lone gs ≡ false) (f : List Row → List Row) (by_part : GoesByPart f) (is : IsOfZip F p s f (zip_over p.origin gs all some)) where
  pub zip-goes : GoesPiecewise F p s
  zip-goes = record { schemas = all-schemas; total = all-tables; over_none = none; over_front = front }
    where
      z : List Row → List Cause → Zipped
      z = zip_over p.origin gs all some

      of-schema : (rows : List Row) (causes : List Cause) (U : Table) → GivesOf p.schema f (z rows causes) U → U.schema ≡ p.schema
      of-schema rows causes U (inl e) = ap (λ (t : Table). t.schema) e
      of-schema rows causes U (inr (V, g, lost, e)) = ap (λ (t : Table). t.schema) e ∙ ap (λ (t : Table). t.schema) g

      all-schemas : (T U : Table) → T.schema ≡ s → PhysicalCase F p (T ∷ []) U → U.schema ≡ p.schema
      all-schemas T U e c =
          let same : table_with s T.rows T.broken ≡ T = λ i. table_with (sym e i) T.rows T.broken in
          of-schema T.rows T.broken U (is.into T.rows T.broken U (subst (λ t. PhysicalCase F p (t ∷ []) U) (sym same) c))

      all-tables : (T : Table) → T.schema ≡ s → (U : Table) × PhysicalCase F p (T ∷ []) U × (U.schema ≡ p.schema)
      all-tables T e =
          let same : table_with s T.rows T.broken ≡ T = λ i. table_with (sym e i) T.rows T.broken in
          let U = table_of p.schema f (z T.rows T.broken) in
          (U, subst (λ t. PhysicalCase F p (t ∷ []) U) same (is.back T.rows T.broken U (inl refl)), refl)

      none : GivesRows F p s [] []
      none = let n = none-over p.origin gs all some p.schema f by_part in (table_of p.schema f (z [] []), is.back [] [] _ n.0, n.1, refl, n.2)

      front : (a b : List Row) (R V : Table) → R.schema ≡ s → V.schema ≡ p.schema → GivesRows F p s a b → PhysicalCase F p (R ∷ []) V → PhysicalCase F p (in_front a R ∷ []) (in_front b V)
      front a b R V e k (U, c, w, m, q) d =
          let same : table_with s R.rows R.broken ≡ R = λ i. table_with (sym e i) R.rows R.broken in
          let h = is.into R.rows R.broken V (subst (λ t. PhysicalCase F p (t ∷ []) V) (sym same) d) in
          let j = over-front p.origin gs all some p.schema f by_part a R.rows R.broken U V (is.into a [] U c) w h in
          subst (λ bs. PhysicalCase F p (in_front a R ∷ []) (in_front bs V)) q
          (subst (λ t. PhysicalCase F p (in_front a t ∷ []) (in_front U.rows V)) same (is.back (a ++ R.rows) R.broken (in_front U.rows V) j))
