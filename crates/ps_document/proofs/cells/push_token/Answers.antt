use Rattle.std.proofs.Common.{◌∷◌, ap, refl, ◌∙◌}
use Rattle.json.specs.Reads.{token_of}
use Rattle.serde_json.specs.Data.{boolean, null, number, string}
use Rattle.ps_frame.specs.declared.value.DataType.TheVariants as kind
use Rattle.ps_frame.specs.declared.value.Value.TheVariants as val
use Rattle.ps_reading.proofs.Rules.{reads-boolean, reads-null, reads-number, reads-same, reads-string}
use Rattle.ps_document.proofs.ReadTable.{cell-more, null-cell, on_true}
use Rattle.ps_document.proofs.cells.push_token.Goals as goal

pub returns-in_ok-push_value-in-Null : goal.returns-in_ok-push_value-in-Null
returns-in_ok-push_value-in-Null c = (
  null,
  cell-more val.Null c.args.dtype c.args.builder.now c.push_value.new.builder c.requires c.in_ok-push_value-in-Null.ensures (null-cell c.args.dtype).fits tt,
  λ ts. reads-same (ap (λ t. token_of t ∷ ts) c.in-Null.is) refl (reads-null ts),
)

pub returns-in_ok-told-in-Number : goal.returns-in_ok-told-in-Number
returns-in_ok-told-in-Number c =
    on_true c.in_ok-told-in-Number.told
    (λ found. (number found.0, found.2, λ ts. reads-same (ap (λ t. token_of t ∷ ts) c.in-Number.is) refl (reads-number c.in-Number.text.now found.0 ts found.1)))
    c.in_ok-told-in-Number.ensures

pub returns-in_ok-push_value-in-Bool : goal.returns-in_ok-push_value-in-Bool
returns-in_ok-push_value-in-Bool c = (
  boolean c.in-Bool.b,
  cell-more (val.Boolean c.in-Bool.b) kind.Boolean c.args.builder.now c.push_value-in-Bool.new.builder (c.requires ∙ c.in-Boolean.is) c.in_ok-push_value-in-Bool.ensures refl tt,
  λ ts. reads-same (ap (λ t. token_of t ∷ ts) c.in-Bool.is) refl (reads-boolean c.in-Bool.b ts),
)

pub returns-in_ok-push_text-in-String : goal.returns-in_ok-push_text-in-String
returns-in_ok-push_text-in-String c = (
  string c.in-String.text.now,
  cell-more (val.String c.in-String.text.now) kind.String c.args.builder.now c.push_text.new.builder (c.requires ∙ c.in-String-dtype.is) c.in_ok-push_text-in-String.ensures refl tt,
  λ ts. reads-same (ap (λ t. token_of t ∷ ts) c.in-String.is) refl (reads-string c.in-String.text.now ts),
)
