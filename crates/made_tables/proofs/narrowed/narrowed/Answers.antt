-- The projection to the schema's names.
use Rattle.std.proofs.Common.{◌≡◌, true, ap, subst, sym, ◌∙◌}
use Rattle.std.proofs.lemmas.Result.{IfOk-weaker}
use Rattle.std.specs.Prelude.{Some}
use Rattle.made_tables.proofs.Narrow.{fields_found, projection_is}
use Rattle.bare_nodes.specs.Uncalled.{no_functions}
use Rattle.ps_frame.specs.Frames.{has_distinct_names}
use Rattle.ps_frame.specs.Tables.{Fields, whole}
use Rattle.ps_meaning.specs.Cases.{projected}
use Rattle.ps_meaning.specs.Schemas.{named_fields, names_of}
use Rattle.made_tables.proofs.narrowed.narrowed.Goals as goal

pub project-requires : goal.project-requires
project-requires c =
    subst (λ ns. named_fields ns c.args.table.now.schema ≡ Some c.args.schema.now) (sym (c.as_slice.ensures.value ∙ c.in-Ok.ensures.names))
    (fields_found c.args.table.now.schema c.args.schema.now (subst (λ (s : Fields). has_distinct_names s ≡ true) c.schema.ensures c.names_differ.ensures) c.requires)

pub returns-clause-columns : goal.returns-clause-columns
returns-clause-columns c =
    let t = c.args.table.now in
    let s = c.args.schema.now in
    let ns = c.as_slice.result.now in
    let named : ns ≡ names_of s = c.as_slice.ensures.value ∙ c.in-Ok.ensures.names in
    let found : named_fields ns t.schema ≡ Some s =
    subst (λ ms. named_fields ms t.schema ≡ Some s) (sym named) (fields_found t.schema s (subst (λ (x : Fields). has_distinct_names x ≡ true) c.schema.ensures c.names_differ.ensures) c.requires) in
    IfOk-weaker c.project.result _ _ (λ f g. projection_is t f ns s found (g no_functions 0) ∙ ap (λ ms. projected ms s (whole t)) named) c.project.ensures.projection
