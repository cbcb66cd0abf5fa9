-- An aggregate over the columns that it reads, group by group, is the aggregate over the groups of the whole table.
use Rattle.std.proofs.Common.{◌≡◌, ℕ, zero, suc, ◌<◌, List, [], ◌∷◌, length, get_or, map, take, drop, refl, sym, ap, subst, ◌∙◌, inl, inr, arith}
use Rattle.std.specs.Prelude.{Contains, IsTrue, Some}
use Rattle.std.specs.List.{concat, take-map}
use Rattle.std.proofs.lemmas.List.{drop-map, get_or-map, length-map}
use Rattle.expression_reads.specs.Reads.{HasWhatIsRead}
use Rattle.expression_reads.proofs.Narrowed.{read-column, read-kind}
use Rattle.ps_frame.specs.Causes.{Column, column_causes}
use Rattle.ps_frame.specs.Eval.{eval}
use Rattle.ps_frame.specs.Gathered.{rows_at}
use Rattle.ps_frame.specs.Lawful.{FitsFrame}
use Rattle.ps_frame.specs.Series.{Series, all_fit}
use Rattle.ps_frame.specs.Tables.{Frame, whole}
use Rattle.ps_frame.specs.Trees.{Tree}
use Rattle.ps_frame.specs.Typing.{kind_over}
use Rattle.ps_frame.specs.Zip.{below}
use Rattle.ps_frame.specs.declared.refusal.PolarsError.{PolarsError}
use Rattle.ps_frame.specs.declared.value.DataFault.{DataFault}
use Rattle.ps_frame.specs.declared.value.DataType.{DataType}
use Rattle.ps_keys.proofs.RowValues.{map-map}
use Rattle.ps_keys.specs.KeyRows.{places_of_each}
use Rattle.ps_keys.specs.declared.numbering.Numbering.{Numbering}
use Rattle.ps_meaning.specs.Distinct.{picked, places_in}
use Rattle.ps_meaning.specs.Groups.{only_value}
use Rattle.ps_meaning.specs.Schemas.{names_of}
use Rattle.ps_groups.specs.Errors.{IsErrorAt}
use Rattle.ps_groups.specs.Grouped.{IsAggregate, IsFaultOver}
use Rattle.ps_groups.specs.GroupTables.{IsByGroup, IsNumberingOf, group_tables, part_in, parts_in, table_at}
use Rattle.ps_groups.proofs.Parts.{parts-gathered}
use Rattle.ps_groups.proofs.Reducing.{fit-over, kinds-over}
use Rattle.ps_groups.proofs.Values.{values-fit}

-- tables over which an expression has the same columns
module _ (at : ℕ) (t : Tree) where
  abbrev over : Frame → Column
  over f = eval at (whole f) t

  module _ (xs ys : List Frame) (same : map over xs ≡ map over ys) where
    as-many : length xs ≡ length ys
    as-many = sym (length-map xs over) ∙ ap length same ∙ length-map ys over

    at-same : (k : ℕ) (d e : Frame) → k < length xs → over (get_or xs k d) ≡ over (get_or ys k e)
    at-same k d e within =
        sym (get_or-map over xs k d (over d) within)
        ∙ ap (λ cs. get_or cs k (over d)) same
        ∙ get_or-map over ys k e (over d) (omega (arith, as-many))

    values-same : map (λ f. only_value (over f)) xs ≡ map (λ f. only_value (over f)) ys
    values-same = sym (map-map only_value over xs) ∙ ap (map only_value) same ∙ map-map only_value over ys

    aggregate-same : (c : Series) → IsAggregate at xs t c → IsAggregate at ys t c
    aggregate-same c is = record {
      values = is.values ∙ values-same;
      clean = λ k d within. ap column_causes (sym (at-same k d d (omega (arith, as-many)))) ∙ is.clean k d (omega (arith, as-many));
    }

    fault-same : (e : DataFault) → IsFaultOver at xs t e → IsFaultOver at ys t e
    fault-same e (k, f, within, is, h) =
        let none : Frame = record { schema = []; rows = [] } in
        let own = get_or ys k none in
        let there : k < length ys = omega (arith, as-many) in
        (k, own, there, any-default ys k there, subst (λ c. Contains (column_causes c) (record { fault = e; node = at })) (ap over (sym is) ∙ at-same k f none within) h)
      where
        any-default : (zs : List Frame) (i : ℕ) → i < length zs → get_or zs i (get_or zs i (record { schema = []; rows = [] })) ≡ get_or zs i (record { schema = []; rows = [] })
        any-default [] i within = absurd (omega arith)
        any-default (z ∷ zs) zero within = refl
        any-default (z ∷ zs) (suc i) within = any-default zs i (omega arith)

    error-same : (e : PolarsError) → IsErrorAt at (IsFaultOver at xs t) e → IsErrorAt at (IsFaultOver at ys t) e
    error-same e (inl memory) = inl memory
    error-same e (inr (d, is, h)) = inr (d, is, fault-same d h)

module _ (at : ℕ) (t : Tree) (df : Frame) (n : Numbering) (of : IsNumberingOf df n) (groups : List (List ℕ)) (are : groups ≡ places_of_each (length n.firsts.items) n.keys.items)
    (g : Frame) (by : IsByGroup df (places_of_each (length n.firsts.items) n.keys.items) g) (f : Frame) (read : HasWhatIsRead g f t) where
  -- a group's part of the columns that are read has what is read of its part of the table
  part-read : (k : ℕ) → HasWhatIsRead (part_in g groups k) (part_in f groups k) t
  part-read k =
      let pick = picked (places_in (names_of f.schema) g.schema) in
      let m = length (get_or groups k []) in
      let s = length (concat (take k groups)) in
      record {
        columns = record {
          fields = read.columns.fields;
          rows = ap (λ rs. take m (drop s rs)) read.columns.rows ∙ ap (take m) (drop-map pick s g.rows) ∙ take-map pick m (drop s g.rows);
        };
        names = read.names;
      }

  same-parts : (ks : List ℕ) → map (over at t) (map (part_in f groups) ks) ≡ map (over at t) (map (part_in g groups) ks)
  same-parts [] = refl
  same-parts (k ∷ ks) =
      ap (λ c. c ∷ map (over at t) (map (part_in f groups) ks)) (read-column at (part_in g groups k) (part_in f groups k) t (part-read k))
      ∙ ap (λ cs. over at t (part_in g groups k) ∷ cs) (same-parts ks)

  same : map (over at t) (parts_in f groups) ≡ map (over at t) (group_tables df n)
  same =
      same-parts (below (length groups))
      ∙ ap (map (over at t)) (parts-gathered df g groups by.schema (by.rows ∙ ap (λ (gs : List (List ℕ)). rows_at (concat gs) df.rows) (sym are)) ∙ ap (map (table_at df)) are)

  pub kind-read : kind_over f.schema t ≡ kind_over df.schema t
  kind-read = read-kind g f t read ∙ ap (λ s. kind_over s t) by.schema

  pub fit-read : (k : DataType) → FitsFrame df → kind_over df.schema t ≡ Some k → IsTrue (all_fit k (map (λ g. only_value (eval at (whole g) t)) (parts_in f groups)))
  fit-read k fits kind =
      subst (λ vs. IsTrue (all_fit k vs)) (sym (values-same at t (parts_in f groups) (group_tables df n) same))
      (values-fit at k t (group_tables df n) (fit-over at df n of fits) (kinds-over at df n of t k kind))

  pub aggregate-read : (c : Series) → IsAggregate at (parts_in f groups) t c → IsAggregate at (group_tables df n) t c
  aggregate-read = aggregate-same at t (parts_in f groups) (group_tables df n) same

  pub error-read : (e : PolarsError) → IsErrorAt at (IsFaultOver at (parts_in f groups) t) e → IsErrorAt at (IsFaultOver at (group_tables df n) t) e
  error-read = error-same at t (parts_in f groups) (group_tables df n) same
