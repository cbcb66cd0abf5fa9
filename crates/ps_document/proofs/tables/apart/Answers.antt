use Rattle.std.proofs.Common.{rules, ◌≡◌, ◌∷◌, ◌++◌, [], ◌∙◌, ap, sym, append_assoc, true, false}
use Rattle.ps_frame.proofs.Names.{distinct-append}
use Rattle.ps_frame.specs.Frames.{has_distinct_names, has_name}
use Rattle.ps_document.proofs.FrameColumns.{fields-more, not-distinct, typed-more}
use Rattle.ps_document.specs.Columns.{field_of, fields_of}
use Rattle.ps_document.proofs.tables.apart.Goals as goal

pub loop-item-preserved : goal.loop-item-preserved
loop-item-preserved c =
    let i = c.loop-item.invariant in
    let item = c.in-Some.item in
    let is_new : has_name item.name c.loop-item.schema ≡ false = search rules in
    record {
      schema = c.in_ok-push_field.ensures.added is_new ∙ ap (λ k. c.loop-item.schema ++ (item.name, k) ∷ []) c.dtype.ensures ∙ ap (λ fs. fs ++ field_of item ∷ []) i.schema ∙ sym (fields-more c.loop-item.yielded item []);
      columns = c.in_ok-push.ensures.items ∙ ap (λ ts. ts ++ item.column ∷ []) i.columns ∙ sym (typed-more c.loop-item.yielded item);
      distinct = rw (fields-more c.loop-item.yielded item []) (distinct-append (fields_of c.loop-item.yielded) (field_of item) i.distinct (ap (has_name item.name) (sym i.schema) ∙ is_new));
      all = rw append_assoc (ap (λ r. c.loop-item.yielded ++ r) (sym c.in-Some.ensures.steps.0) ∙ i.all);
    }

pub returns-then-not-branch-clause-none : goal.returns-then-not-branch-clause-none
returns-then-not-branch-clause-none c =
    let i = c.loop-item.invariant in
    let item = c.in-Some.item in
    let is_old : has_name item.name c.loop-item.schema ≡ true = search rules in
    let all = sym i.all ∙ ap (λ r. c.loop-item.yielded ++ r) c.in-Some.ensures.steps.0 in
    ap (λ cs. has_distinct_names (fields_of cs)) all
    ∙ ap has_distinct_names (fields-more c.loop-item.yielded item c.next.new.self.rest.items)
    ∙ not-distinct (fields_of c.loop-item.yielded) (field_of item) (fields_of c.next.new.self.rest.items) (ap (has_name item.name) (sym i.schema) ∙ is_old)
