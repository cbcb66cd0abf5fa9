-- What a group-by gives of a table and the columns of its keys.
use Rattle.std.proofs.Common.{◌≡◌, ℕ, List, [], ◌∷◌, ◌++◌, length, map, Bool, refl, sym, ap, subst, ◌∙◌, inl, inr, arith}
use Rattle.std.specs.Prelude.{Contains, IfErr, OnErr, Result, Ok, Err, Some, unwrap_or}
use Rattle.std.specs.List.{AllByRecursion}
use Rattle.std.proofs.lemmas.List.{map-append}
use Rattle.std.proofs.lemmas.List.Elements.{Contains-append_left}
use Rattle.pu_base.specs.declared.arena.Node.{Node}
use Rattle.ps_frame.specs.Causes.{Cause}
use Rattle.ps_frame.specs.Frames.{kinds_of}
use Rattle.ps_frame.specs.Functions.{Functions}
use Rattle.ps_frame.specs.Tables.{Fields, Frame, Table, whole}
use Rattle.ps_frame.specs.Trees.{IsComplete, Tree}
use Rattle.ps_frame.specs.Series.{Series}
use Rattle.ps_frame.specs.Typing.{kind_over}
use Rattle.ps_frame.specs.Zip.{Zipped}
use Rattle.ps_frame.specs.declared.refusal.PolarsError.{PolarsError}
use Rattle.ps_frame.specs.declared.refusal.PolarsError.TheVariants as error
use Rattle.ps_frame.specs.declared.value.Value.{Value}
use Rattle.ps_meaning.specs.Cases.{GivesBeforeCut, cut_by, if_whole, keyed, out_schema, with_group_causes}
use Rattle.ps_meaning.specs.Groups.{Group, groups, groups_table}
use Rattle.ps_meaning.specs.Meaning.{HasLargeColumn}
use Rattle.ps_meaning.specs.Nodes.{GivesFrame, MayFault}
use Rattle.ps_meaning.specs.Schemas.{fields_of}
use Rattle.ps_meaning.specs.Steps.{Cut, Named, Step, exprs_of, group_step, key_trees, name_in, named_trees}
use Rattle.ps_meaning.specs.declared.options.ExprIR.{ExprIR}
use Rattle.ps_rows.proofs.Steps.{fields-kinds}
use Rattle.ps_rows.specs.Keyed.{IsTableWithKeys}
use Rattle.ps_zip.proofs.Named.{exprs-of-named}
use Rattle.ps_zip.specs.Zips.{IsZipError, expr_kinds}
use Rattle.ps_groups.specs.Errors.{IsErrorAt}
use Rattle.ps_groups.specs.Grouped.{CanGroup, IsFaultOfGroups, all_causes, table_groups}
use Rattle.ps_groups.proofs.Gives.{same-order}
use Rattle.ps_groups.proofs.GroupRows.{clean-groups}

module _ (f : Node → Tree) (at : ℕ) (keys aggs : List ExprIR) (t : Frame) where
  abbrev key_exprs : List Tree
  key_exprs = key_trees f keys

  abbrev agg_exprs : List Tree
  agg_exprs = key_trees f aggs

  abbrev own_zip : Zipped
  own_zip = keyed at key_exprs (whole t)

  module _ (schema : Fields) (fields : fields_of (named_trees f keys ++ named_trees f aggs) t.schema ≡ Some schema) where
    all-kinds : map (kind_over t.schema) key_exprs ++ map (kind_over t.schema) agg_exprs ≡ map Some (kinds_of schema)
    all-kinds =
        sym (ap (map (kind_over t.schema)) (map-append (λ (e : ExprIR). f e.node) keys aggs) ∙ map-append (kind_over t.schema) key_exprs agg_exprs)
        ∙ fields-kinds f t.schema (keys ++ aggs) schema (ap (λ (es : List Named). fields_of es t.schema) (map-append (λ (e : ExprIR). (name_in e.output_name, f e.node)) keys aggs) ∙ fields)

    -- a table with the columns of its keys can be grouped
    pub can-group : (m : Frame) (cs : List Series) → IsTableWithKeys own_zip t.schema (expr_kinds t.schema key_exprs) m cs → AllByRecursion IsComplete agg_exprs → CanGroup m cs agg_exprs schema
    can-group m cs is complete = record {
      widths = subst (λ (s : Fields). AllByRecursion (λ (row : List Value). length row ≡ length s) m.rows) (sym is.schema_is) is.widths;
      heights = is.heights;
      complete = complete;
      kinds = (λ i. is.kinds_are i ++ map (kind_over (is.schema_is i)) agg_exprs) ∙ all-kinds;
    }

    -- the step's table and its faults
    module _ (F : Functions) (maintained : Bool) (cut : Cut) where
      abbrev step : Step
      step = group_step f keys aggs maintained cut

      abbrev z : Zipped
      z = keyed at (exprs_of (named_trees f keys)) (whole t)

      abbrev gs : List Group
      gs = groups at (exprs_of (named_trees f aggs)) t.schema z.rows

      abbrev S : Fields
      S = out_schema F at step (whole t ∷ [])

      schema-is : S ≡ schema
      schema-is = ap (λ o. unwrap_or o []) fields

      zip-is : z ≡ own_zip
      zip-is = ap (λ es. keyed at es (whole t)) (exprs-of-named f keys)

      abbrev given : Table
      given = if_whole S (with_group_causes z.broken gs) (groups_table S gs)

      gives-given : GivesBeforeCut F at step (whole t ∷ []) given
      gives-given = inl (gs, same-order maintained gs, refl)

      module _ (m : Frame) (cs : List Series) (is : IsTableWithKeys own_zip t.schema (expr_kinds t.schema key_exprs) m cs) where
        groups-are : gs ≡ table_groups at agg_exprs m cs
        groups-are = λ i. groups at (exprs-of-named f aggs i) (sym is.schema_is i) ((ap (λ (x : Zipped). x.rows) zip-is ∙ is.rows) i)

        unbroken : z.broken ≡ []
        unbroken = ap (λ (x : Zipped). x.broken) zip-is ∙ is.whole_is

        pub groups-give : (g out : Frame) → g.schema ≡ schema → g.rows ≡ map (λ (x : Group). x.cells) (table_groups at agg_exprs m cs) → all_causes (table_groups at agg_exprs m cs) ≡ []
            → whole out ≡ cut_by cut (whole g) → GivesFrame F at step (t ∷ []) out
        groups-give g out named rows clean part =
            let none : all_causes gs ≡ [] = ap all_causes groups-are ∙ clean in
            let cells : g.rows ≡ (groups_table S gs).rows = rows ∙ ap (map (λ (x : Group). x.cells)) (sym groups-are) ∙ sym (clean-groups gs none) in
            let table : whole g ≡ groups_table S gs = λ i. record { schema = (named ∙ sym schema-is) i; rows = cells i; broken = sym none i } in
            (whole g, inl (gs, same-order maintained gs, table ∙ ap (λ b. if_whole S (with_group_causes b gs) (groups_table S gs)) (sym unbroken)), part)

        pub groups-fault : (e : PolarsError) → IsErrorAt at (IsFaultOfGroups at (table_groups at agg_exprs m cs)) e → MayFault F at step (t ∷ []) e
        groups-fault e (inl memory) = inl memory
        groups-fault e (inr (d, is_error, found)) =
            let c : Cause = record { fault = d; node = at } in
            let in_groups : Contains (all_causes gs) c = subst (λ xs. Contains (all_causes xs) c) (sym groups-are) found in
            inr (d, is_error, inl (given, inr gives-given, subst (λ b. Contains (if_whole S (with_group_causes b gs) (groups_table S gs)).broken c) (sym unbroken) in_groups))

      still-broken : (cs : List Cause) (T : Table) (c : Cause) → Contains cs c → Contains (if_whole S (with_group_causes cs gs) T).broken c
      still-broken [] T c (k, within, is) = absurd (omega arith)
      still-broken (x ∷ cs) T c h = Contains-append_left (x ∷ cs) (all_causes gs) c h

      pub zip-fault : (e : PolarsError) → IsZipError at key_exprs (whole t) own_zip e → MayFault F at step (t ∷ []) e
      zip-fault e (inl memory) = inl memory
      zip-fault e (inr (d, is, inl found)) =
          let c : Cause = record { fault = d; node = at } in
          let in_zip : Contains z.broken c = subst (λ (x : Zipped). Contains x.broken c) (sym zip-is) found in
          inr (d, is, inl (given, inr gives-given, still-broken z.broken (groups_table S gs) c in_zip))
      zip-fault e (inr (d, is, inr (rows, large))) = inr (d, is, inr (rows, inl (inl (subst (λ es. HasLargeColumn at es (whole t)) (sym (exprs-of-named f keys)) large))))

  -- want of memory is an error of the step
  pub memory-fault : {X : Type 0} (cut : Cut) (r : Result X PolarsError) → OnErr r (r ≡ Err error.OutOfMemory) → IfErr r (λ e. (F : Functions) (maintained : Bool) → MayFault F at (group_step f keys aggs maintained cut) (t ∷ []) e)
  memory-fault cut (Ok x) h = tt
  memory-fault cut (Err e) h = λ F maintained. inl (let is : e ≡ error.OutOfMemory = cc in is)
