use Rattle.ps_frame.specs.Tables.{Fields}
use Rattle.ps_frame.specs.declared.value.DataType.TheVariants as kind
use Rattle.ps_frame.specs.declared.value.DataType.{DataType}
use Rattle.ps_meaning.specs.Steps.{Name, row_index}
use Rattle.ps_validate.proofs.Stacked.{index-gives}
use Rattle.ps_validate.proofs.stacks.row_index_schema.Goals as goal
use Rattle.ps_validate.specs.Nodes.{GivesSchema}
use Rattle.std.proofs.Common.{◌≡◌, ◌∷◌, [], ◌++◌, ◌∙◌, ap, subst, sym}

-- the index, and then the columns
in-front : (z one all s : Fields) (n : Name) (k : DataType) → z ≡ [] → one ≡ z ++ (n, k) ∷ [] → all ≡ one ++ s → all ≡ (n, k) ∷ s
in-front z one all s n k none first whole = whole ∙ ap (λ (fs : Fields). fs ++ s) (first ∙ ap (λ (x : Fields). x ++ (n, k) ∷ []) none)

pub returns-clause-given : goal.returns-clause-given
returns-clause-given c =
    let is = in-front c.new-schema.result c.push_copy.new.schema c.push_all.new.schema c.args.input.now c.args.name.now kind.IdxSize c.new-schema.ensures c.in_ok-push_copy.ensures.added c.in_ok-push_all.ensures.added in
    λ F offset. subst (λ (s : Fields). GivesSchema F (row_index c.args.name.now offset) (c.args.input.now ∷ []) s) (sym is) (index-gives F c.args.name.now offset c.args.input.now c.push_all.new.schema is c.names_differ.ensures)
