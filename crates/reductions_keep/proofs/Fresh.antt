-- The names of reductions differ from each other and from the names of keys: each is an aggregate's own name, or a fresh one.
use Rattle.std.proofs.Common.{◌≡◌, ◌⊎◌, inl, inr, ◌+◌, ◌<◌, ◌≤◌, ◌^◌, List, ◌++◌, Some, true, sym, ap, subst, ◌∙◌, arith}
use Rattle.std.specs.Prelude.{IsTrue}
use Rattle.std.proofs.lemmas.Bool.{cases_lt}
use Rattle.ps_frame.specs.Frames.{has_distinct_names}
use Rattle.ps_frame.specs.Tables.{Fields}
use Rattle.ps_meaning.specs.Schemas.{expr_names, fields_of, is_among, names_of}
use Rattle.ps_meaning.specs.Sound.{have_all_kinds}
use Rattle.ps_meaning.specs.StepRefusals.{repeats}
use Rattle.ps_meaning.specs.Steps.{Name, Named, exprs_of}
use Rattle.ps_meaning.proofs.HStackFits.{distinct-from}
use Rattle.ps_rules.specs.Names.{IsKnown}
use Rattle.ps_rules.specs.Slots.{selected_schema}
use Rattle.name_rules.proofs.Items.{times_items}
use Rattle.name_rules.proofs.Ruling.{field_names, typed_fields}
use Rattle.name_rules.proofs.Times.{FreshOnce, distinct_once, known_none, once_never, times, times_among}
use Rattle.plan_rules.specs.Reductions.{Split}
use Rattle.rule_parts.proofs.Grouped.{all_typed, have_both}
use Rattle.rule_parts.proofs.Passing.{both_exprs}
use Rattle.rule_parts.proofs.Reduced.{Splits}

module _ (f schema : Fields) (keys aggs : List Named) (fields : fields_of (keys ++ aggs) f ≡ Some schema) (distinct : has_distinct_names schema ≡ true) (typed : have_all_kinds f (exprs_of keys) ≡ true) (s t : Split)
    (known : (n : Name) → IsTrue (is_among n (names_of schema)) → IsKnown s.names n) (b : Splits f aggs s t) (small : t.names.next ≤ 2 ^ 64) where
  abbrev asked : List Name
  asked = expr_names (keys ++ aggs)

  asked_once : (n : Name) → times n asked ≤ 1
  asked_once n = subst (λ (ns : List Name). times n ns ≤ 1) (field_names f (keys ++ aggs) schema fields) (distinct_once schema distinct n)

  asked_known : (n : Name) → 1 ≤ times n asked → IsKnown s.names n
  asked_known n some = known n (ap (is_among n) (field_names f (keys ++ aggs) schema fields) ∙ times_among n asked some)

  own_fresh : FreshOnce s.names t.names b.own
  own_fresh = b.fresh small

  -- no name stands twice among keys and reductions
  pub names_once : (n : Name) → times n (expr_names (keys ++ b.new)) ≤ 1
  names_once n =
      let x = times_items n keys b.new in
      let w = times_items n keys aggs in
      let few = b.few n in
      let one = asked_once n in
      by (cases_lt 0 (times n asked)) x w few one
    where
      by : (0 < times n asked) ⊎ (times n asked ≤ 0) → times n (expr_names (keys ++ b.new)) ≡ times n (expr_names keys) + times n (expr_names b.new) → times n asked ≡ times n (expr_names keys) + times n (expr_names aggs)
          → times n (expr_names b.new) ≤ times n (expr_names aggs) + b.own n → times n asked ≤ 1 → times n (expr_names (keys ++ b.new)) ≤ 1
      by (inl lt) x w few one = let z = known_none s.names t.names b.own own_fresh n (asked_known n (omega arith)) in omega arith
      by (inr le) x w few one = let u = own_fresh.once n in omega arith

  abbrev pub grouped : Fields
  grouped = selected_schema (keys ++ b.new) f

  -- so keys and reductions are fields of a schema whose names differ
  pub grouped_fields : fields_of (keys ++ b.new) f ≡ Some grouped
  grouped_fields = typed_fields f (keys ++ b.new) (ap (have_all_kinds f) (both_exprs keys b.new) ∙ have_both f (exprs_of keys) (exprs_of b.new) typed (all_typed f b.new b.fit))

  pub grouped_differ : has_distinct_names grouped ≡ true
  grouped_differ = distinct-from grouped (λ n r. once_never n (expr_names (keys ++ b.new)) (names_once n) (ap (repeats n) (sym (field_names f (keys ++ b.new) grouped grouped_fields)) ∙ r))
