-- A step that keeps the rules on names and kinds, one by one, isn't refused by them. Trials show so that their nodes can make tables.
use Rattle.std.proofs.Common.{◌≡◌, Bool, true, false, not, ◌&&◌, ◌||◌, List, [], ◌∷◌, Some, inl, inr}
use Rattle.std.proofs.lemmas.Bool.{false≢true}
use Rattle.std.specs.Str.{bytes_eq}
use Rattle.ps_frame.specs.Functions.{Functions}
use Rattle.ps_frame.specs.Tables.{Fields}
use Rattle.ps_frame.specs.Trees.{Tree}
use Rattle.ps_frame.specs.declared.expr.What.TheVariants as what
use Rattle.ps_frame.specs.declared.value.DataType.{DataType}
use Rattle.ps_meaning.specs.Schemas.{first_schema, output_schema}
use Rattle.ps_meaning.specs.StepRefusals.{HasLiteralAggregate, IsMissingColumn, IsRepeated, Refusal, StepMismatch, TypingRefused, WouldRepeat, break_rules, column_not_found, duplicate, lacks_column, own_exprs, repeats, schema_mismatch, unsupported}
use Rattle.ps_meaning.specs.Steps.{Name, Step}

pub record KeepsRules (F : Functions) (step : Step) (ss : List Fields) : Type 0 where
  pub missing : (n : Name) → IsMissingColumn n step ss → ⊥
  pub repeated : (n : Name) → IsRepeated n step → ⊥
  pub names : (n : Name) → WouldRepeat F n step ss → ⊥
  pub kinds : StepMismatch F step ss → ⊥
  pub typed : break_rules (first_schema ss) (own_exprs step) ≡ true → ⊥
  pub columns : output_schema F step ss ≡ Some [] → ⊥
  pub literal : HasLiteralAggregate step → ⊥

pub keeps_rules : (F : Functions) (step : Step) (ss : List Fields) → KeepsRules F step ss → (R : Refusal) → TypingRefused F step ss R → ⊥
keeps_rules F step ss k (column_not_found n) h = k.missing n h
keeps_rules F step ss k (duplicate n) (inl h) = k.repeated n h
keeps_rules F step ss k (duplicate n) (inr h) = k.names n h
keeps_rules F step ss k schema_mismatch (inl h) = k.kinds h
keeps_rules F step ss k schema_mismatch (inr h) = k.typed h
keeps_rules F step ss k (unsupported what.NoColumns) h = k.columns h
keeps_rules F step ss k (unsupported what.LiteralAggregate) h = k.literal h
keeps_rules F step ss k (unsupported _) h = h
keeps_rules F step ss k _ h = h

-- one name doesn't stand twice
pub one_name : (n m : Name) → repeats n (m ∷ []) ≡ true → ⊥
one_name n m h = by (bytes_eq n m) h
  where
    by : (b : Bool) → ((b && false) || false) ≡ true → ⊥
    by true h = false≢true h
    by false h = false≢true h

-- where one column is read and cast, that column is there
pub none_lacks : (n m : Name) (from to : DataType) → lacks_column n ((m, from) ∷ []) (Tree.cast to true (Tree.column m) ∷ []) ≡ true → ⊥
none_lacks n m from to h = by (bytes_eq n m) h
  where
    by : (b : Bool) → (((b || false) || false) && not (b || false)) ≡ true → ⊥
    by true h = false≢true h
    by false h = false≢true h
