use Rattle.std.proofs.Common.{◌≡◌, ◌∙◌, List, [], ◌∷◌, ◌++◌, ap, refl, subst, sym}
use Rattle.std.proofs.lemmas.Result.{IfErr-weaker, IfOk-weaker}
use Rattle.std.specs.Prelude.{Some}
use Rattle.ps_frame.specs.Tables.{Fields}
use Rattle.ps_frame.specs.Trees.{tree_at}
use Rattle.ps_meaning.specs.Schemas.{fields_of}
use Rattle.ps_meaning.specs.Steps.{named_trees}
use Rattle.ps_meaning.specs.declared.options.ExprIR.{ExprIR}
use Rattle.ps_meaning.specs.declared.map.MapKind.TheVariants as kind
use Rattle.group_steps.proofs.GroupSteps.{aggs-typed, distinct-stands, keys-typed}
use Rattle.ps_owned_maps.proofs.OwnedSteps.{owned-faults, owned-gives, owned-ready}
use Rattle.ready_steps.proofs.RowSteps.{select-whole, sort-typed}
use Rattle.ps_owned_maps.proofs.owned.OwnedMap.call.Goals as goal

pub push_fields-requires : goal.push_fields-requires
push_fields-requires g c =
    select-whole (tree_at c.self.inside.exprs.items) c.as_slice.result.now (c.args.df ∷ []) c.args.df c.requires.0 refl (owned-ready (g.F.Functions.told c.args.functions.now) c.args.self.now c.self.inside.exprs.items c.self.inside.kind (kind.Select c.as_slice.result.now) c.self.view_is (c.in-Select.is ∙ ap kind.Select (sym c.as_slice.ensures)) (c.args.df ∷ []) c.requires.0 c.requires.1)

pub select-requires-clause-expressions : goal.select-requires-clause-expressions
select-requires-clause-expressions g c =
    select-whole (tree_at c.self.inside.exprs.items) c.as_slice-in-Select.result.now (c.args.df ∷ []) c.args.df c.requires.0 refl (owned-ready (g.F.Functions.told c.args.functions.now) c.args.self.now c.self.inside.exprs.items c.self.inside.kind (kind.Select c.as_slice-in-Select.result.now) c.self.view_is (c.in-Select.is ∙ ap kind.Select (sym c.as_slice-in-Select.ensures)) (c.args.df ∷ []) c.requires.0 c.requires.1)

pub select-requires-clause-fields : goal.select-requires-clause-fields
select-requires-clause-fields g c =
    subst (λ (t : Fields). fields_of (named_trees (tree_at c.self.inside.exprs.items) c.as_slice-in-Select.result.now) t ≡ Some c.push_fields.new.schema) c.schema.ensures
    (subst (λ (es : List ExprIR). fields_of (named_trees (tree_at c.self.inside.exprs.items) es) c.schema.result.now ≡ Some c.push_fields.new.schema) (c.as_slice.ensures ∙ sym c.as_slice-in-Select.ensures)
    (c.in_ok-push_fields-in-Select.ensures.fields [] (ap Some (sym c.new-schema.ensures))))

pub returns-in_ok-push_fields-in-Select-clause-table : goal.returns-in_ok-push_fields-in-Select-clause-table
returns-in_ok-push_fields-in-Select-clause-table g c =
    owned-gives (g.F.Functions.told c.args.functions.now) c.args.self.now c.self.inside.exprs.items c.self.inside.kind (kind.Select c.as_slice-in-Select.result.now) c.self.view_is (c.in-Select.is ∙ ap kind.Select (sym c.as_slice-in-Select.ensures)) c.args.at.0 (c.args.df ∷ []) c.select.result c.select.ensures.table

pub returns-in_ok-push_fields-in-Select-clause-fault : goal.returns-in_ok-push_fields-in-Select-clause-fault
returns-in_ok-push_fields-in-Select-clause-fault g c =
    owned-faults (g.F.Functions.told c.args.functions.now) c.args.self.now c.self.inside.exprs.items c.self.inside.kind (kind.Select c.as_slice-in-Select.result.now) c.self.view_is (c.in-Select.is ∙ ap kind.Select (sym c.as_slice-in-Select.ensures)) c.args.at.0 (c.args.df ∷ []) c.select.result c.select.ensures.fault

pub sort-requires : goal.sort-requires
sort-requires g c =
    sort-typed (tree_at c.self.inside.exprs.items) c.as_slice-in-Sort.result.now (c.args.df ∷ []) c.args.df c.requires.0 refl c.in-Sort.slice c.in-Sort.sort_options (owned-ready (g.F.Functions.told c.args.functions.now) c.args.self.now c.self.inside.exprs.items c.self.inside.kind (kind.Sort c.as_slice-in-Sort.result.now c.in-Sort.slice c.in-Sort.sort_options) c.self.view_is (c.in-Sort.is ∙ ap (λ es. kind.Sort es c.in-Sort.slice c.in-Sort.sort_options) (sym c.as_slice-in-Sort.ensures)) (c.args.df ∷ []) c.requires.0 c.requires.1)

pub returns-in-Sort-clause-table : goal.returns-in-Sort-clause-table
returns-in-Sort-clause-table g c =
    owned-gives (g.F.Functions.told c.args.functions.now) c.args.self.now c.self.inside.exprs.items c.self.inside.kind (kind.Sort c.as_slice-in-Sort.result.now c.in-Sort.slice c.in-Sort.sort_options) c.self.view_is (c.in-Sort.is ∙ ap (λ es. kind.Sort es c.in-Sort.slice c.in-Sort.sort_options) (sym c.as_slice-in-Sort.ensures)) c.args.at.0 (c.args.df ∷ []) c.sort.result c.sort.ensures.table

pub returns-in-Sort-clause-fault : goal.returns-in-Sort-clause-fault
returns-in-Sort-clause-fault g c =
    owned-faults (g.F.Functions.told c.args.functions.now) c.args.self.now c.self.inside.exprs.items c.self.inside.kind (kind.Sort c.as_slice-in-Sort.result.now c.in-Sort.slice c.in-Sort.sort_options) c.self.view_is (c.in-Sort.is ∙ ap (λ es. kind.Sort es c.in-Sort.slice c.in-Sort.sort_options) (sym c.as_slice-in-Sort.ensures)) c.args.at.0 (c.args.df ∷ []) c.sort.result c.sort.ensures.fault

pub push_fields-requires-in-GroupBy : goal.push_fields-requires-in-GroupBy
push_fields-requires-in-GroupBy g c =
    (keys-typed (tree_at c.self.inside.exprs.items) c.as_slice-in-GroupBy.result.now c.in-GroupBy.aggs c.in-GroupBy.maintain_order c.in-GroupBy.slice (c.args.df ∷ []) c.args.df c.requires.0 refl (owned-ready (g.F.Functions.told c.args.functions.now) c.args.self.now c.self.inside.exprs.items c.self.inside.kind (kind.GroupBy c.as_slice-in-GroupBy.result.now c.in-GroupBy.aggs c.in-GroupBy.maintain_order c.in-GroupBy.slice) c.self.view_is (c.in-GroupBy.is ∙ ap (λ es. kind.GroupBy es c.in-GroupBy.aggs c.in-GroupBy.maintain_order c.in-GroupBy.slice) (sym c.as_slice-in-GroupBy.ensures)) (c.args.df ∷ []) c.requires.0 c.requires.1)).0

pub push_fields-requires-in-GroupBy-2 : goal.push_fields-requires-in-GroupBy-2
push_fields-requires-in-GroupBy-2 g c =
    (aggs-typed (tree_at c.self.inside.exprs.items) c.in-GroupBy.keys c.as_slice-in-GroupBy-2.result.now c.in-GroupBy.maintain_order c.in-GroupBy.slice (c.args.df ∷ []) c.args.df c.requires.0 refl (owned-ready (g.F.Functions.told c.args.functions.now) c.args.self.now c.self.inside.exprs.items c.self.inside.kind (kind.GroupBy c.in-GroupBy.keys c.as_slice-in-GroupBy-2.result.now c.in-GroupBy.maintain_order c.in-GroupBy.slice) c.self.view_is (c.in-GroupBy.is ∙ ap (λ es. kind.GroupBy c.in-GroupBy.keys es c.in-GroupBy.maintain_order c.in-GroupBy.slice) (sym c.as_slice-in-GroupBy-2.ensures)) (c.args.df ∷ []) c.requires.0 c.requires.1)).0

pub group_by-requires-clause-keys : goal.group_by-requires-clause-keys
group_by-requires-clause-keys g c =
    keys-typed (tree_at c.self.inside.exprs.items) c.as_slice-in-GroupBy-3.result.now c.as_slice-in-GroupBy-4.result.now c.in-GroupBy.maintain_order c.in-GroupBy.slice (c.args.df ∷ []) c.args.df c.requires.0 refl (owned-ready (g.F.Functions.told c.args.functions.now) c.args.self.now c.self.inside.exprs.items c.self.inside.kind (kind.GroupBy c.as_slice-in-GroupBy-3.result.now c.as_slice-in-GroupBy-4.result.now c.in-GroupBy.maintain_order c.in-GroupBy.slice) c.self.view_is (c.in-GroupBy.is ∙ ap (λ es. kind.GroupBy es c.in-GroupBy.aggs c.in-GroupBy.maintain_order c.in-GroupBy.slice) (sym c.as_slice-in-GroupBy-3.ensures) ∙ ap (λ es. kind.GroupBy c.as_slice-in-GroupBy-3.result.now es c.in-GroupBy.maintain_order c.in-GroupBy.slice) (sym c.as_slice-in-GroupBy-4.ensures)) (c.args.df ∷ []) c.requires.0 c.requires.1)

pub group_by-requires-clause-aggs : goal.group_by-requires-clause-aggs
group_by-requires-clause-aggs g c =
    aggs-typed (tree_at c.self.inside.exprs.items) c.as_slice-in-GroupBy-3.result.now c.as_slice-in-GroupBy-4.result.now c.in-GroupBy.maintain_order c.in-GroupBy.slice (c.args.df ∷ []) c.args.df c.requires.0 refl (owned-ready (g.F.Functions.told c.args.functions.now) c.args.self.now c.self.inside.exprs.items c.self.inside.kind (kind.GroupBy c.as_slice-in-GroupBy-3.result.now c.as_slice-in-GroupBy-4.result.now c.in-GroupBy.maintain_order c.in-GroupBy.slice) c.self.view_is (c.in-GroupBy.is ∙ ap (λ es. kind.GroupBy es c.in-GroupBy.aggs c.in-GroupBy.maintain_order c.in-GroupBy.slice) (sym c.as_slice-in-GroupBy-3.ensures) ∙ ap (λ es. kind.GroupBy c.as_slice-in-GroupBy-3.result.now es c.in-GroupBy.maintain_order c.in-GroupBy.slice) (sym c.as_slice-in-GroupBy-4.ensures)) (c.args.df ∷ []) c.requires.0 c.requires.1)

pub group_by-requires-clause-schema : goal.group_by-requires-clause-schema
group_by-requires-clause-schema g c =
    let new : Fields = c.push_fields-in-GroupBy-2.new.schema in
    let same : c.schema-in-GroupBy.result.now ≡ c.schema-in-GroupBy-3.result.now = c.schema-in-GroupBy.ensures ∙ sym c.schema-in-GroupBy-3.ensures in
    let first : fields_of (named_trees (tree_at c.self.inside.exprs.items) c.as_slice-in-GroupBy.result.now) c.schema-in-GroupBy-3.result.now ≡ Some c.push_fields-in-GroupBy.new.schema =
    subst (λ (t : Fields). fields_of (named_trees (tree_at c.self.inside.exprs.items) c.as_slice-in-GroupBy.result.now) t ≡ Some c.push_fields-in-GroupBy.new.schema) same (c.in_ok-push_fields-in-GroupBy.ensures.fields [] (ap Some (sym c.new-schema-in-GroupBy.ensures))) in
    subst (λ (t : Fields). fields_of (named_trees (tree_at c.self.inside.exprs.items) c.as_slice-in-GroupBy-3.result.now ++ named_trees (tree_at c.self.inside.exprs.items) c.as_slice-in-GroupBy-4.result.now) t ≡ Some new) c.schema-in-GroupBy-3.ensures
    (subst (λ (es : List ExprIR). fields_of (named_trees (tree_at c.self.inside.exprs.items) es ++ named_trees (tree_at c.self.inside.exprs.items) c.as_slice-in-GroupBy-4.result.now) c.schema-in-GroupBy-3.result.now ≡ Some new) (c.as_slice-in-GroupBy.ensures ∙ sym c.as_slice-in-GroupBy-3.ensures)
    (subst (λ (es : List ExprIR). fields_of (named_trees (tree_at c.self.inside.exprs.items) c.as_slice-in-GroupBy.result.now ++ named_trees (tree_at c.self.inside.exprs.items) es) c.schema-in-GroupBy-3.result.now ≡ Some new) (c.as_slice-in-GroupBy-2.ensures ∙ sym c.as_slice-in-GroupBy-4.ensures)
    (c.in_ok-push_fields-in-GroupBy-2.ensures.fields (named_trees (tree_at c.self.inside.exprs.items) c.as_slice-in-GroupBy.result.now) first)))

pub returns-in_ok-push_fields-in-GroupBy-2-clause-table : goal.returns-in_ok-push_fields-in-GroupBy-2-clause-table
returns-in_ok-push_fields-in-GroupBy-2-clause-table g c =
    owned-gives (g.F.Functions.told c.args.functions.now) c.args.self.now c.self.inside.exprs.items c.self.inside.kind (kind.GroupBy c.as_slice-in-GroupBy-3.result.now c.as_slice-in-GroupBy-4.result.now c.in-GroupBy.maintain_order c.in-GroupBy.slice) c.self.view_is (c.in-GroupBy.is ∙ ap (λ es. kind.GroupBy es c.in-GroupBy.aggs c.in-GroupBy.maintain_order c.in-GroupBy.slice) (sym c.as_slice-in-GroupBy-3.ensures) ∙ ap (λ es. kind.GroupBy c.as_slice-in-GroupBy-3.result.now es c.in-GroupBy.maintain_order c.in-GroupBy.slice) (sym c.as_slice-in-GroupBy-4.ensures)) c.args.at.0 (c.args.df ∷ []) c.group_by.result (IfOk-weaker c.group_by.result _ _ (λ t h G. h G c.in-GroupBy.maintain_order) c.group_by.ensures.table)

pub returns-in_ok-push_fields-in-GroupBy-2-clause-fault : goal.returns-in_ok-push_fields-in-GroupBy-2-clause-fault
returns-in_ok-push_fields-in-GroupBy-2-clause-fault g c =
    owned-faults (g.F.Functions.told c.args.functions.now) c.args.self.now c.self.inside.exprs.items c.self.inside.kind (kind.GroupBy c.as_slice-in-GroupBy-3.result.now c.as_slice-in-GroupBy-4.result.now c.in-GroupBy.maintain_order c.in-GroupBy.slice) c.self.view_is (c.in-GroupBy.is ∙ ap (λ es. kind.GroupBy es c.in-GroupBy.aggs c.in-GroupBy.maintain_order c.in-GroupBy.slice) (sym c.as_slice-in-GroupBy-3.ensures) ∙ ap (λ es. kind.GroupBy c.as_slice-in-GroupBy-3.result.now es c.in-GroupBy.maintain_order c.in-GroupBy.slice) (sym c.as_slice-in-GroupBy-4.ensures)) c.args.at.0 (c.args.df ∷ []) c.group_by.result (IfErr-weaker c.group_by.result _ _ (λ t h G. h G c.in-GroupBy.maintain_order) c.group_by.ensures.fault)

pub distinct-requires : goal.distinct-requires
distinct-requires g c =
    distinct-stands c.in-Distinct.options (c.args.df ∷ []) c.args.df c.requires.0 refl (owned-ready (g.F.Functions.told c.args.functions.now) c.args.self.now c.self.inside.exprs.items c.self.inside.kind (kind.Distinct c.in-Distinct.options) c.self.view_is (c.in-Distinct.is) (c.args.df ∷ []) c.requires.0 c.requires.1)

pub returns-in-Distinct-clause-table : goal.returns-in-Distinct-clause-table
returns-in-Distinct-clause-table g c =
    owned-gives (g.F.Functions.told c.args.functions.now) c.args.self.now c.self.inside.exprs.items c.self.inside.kind (kind.Distinct c.in-Distinct.options) c.self.view_is (c.in-Distinct.is) c.args.at.0 (c.args.df ∷ []) c.distinct.result (IfOk-weaker c.distinct.result _ _ (λ t h G. h G c.args.at.0) c.distinct.ensures.table)
