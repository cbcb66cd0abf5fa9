-- When no rule on names or kinds refuses a step, and which errors stand for such a rule.
use Rattle.std.proofs.Common.{◌≡◌, ◌≢◌, List, [], true, Ok, Err, Result, sym, subst, ◌∙◌, ap, arith, inl, inr}
use Rattle.std.specs.Prelude.{Contains, IfErr, IfOk, OnErr, OnOk, IsErrAnd, IsTrue, Option, Some, unwrap_or}
use Rattle.pu_base.specs.declared.arena.Node.{Node}
use Rattle.ps_frame.specs.Frames.{has_distinct_names}
use Rattle.ps_frame.specs.Functions.{Functions}
use Rattle.ps_frame.specs.Tables.{Fields}
use Rattle.ps_frame.specs.Trees.{Tree}
use Rattle.ps_frame.specs.declared.expr.What.{What}
use Rattle.ps_frame.specs.declared.expr.What.TheVariants as what
use Rattle.ps_frame.specs.declared.refusal.PolarsError.{PolarsError}
use Rattle.ps_frame.specs.declared.refusal.PolarsError.TheVariants as error
use Rattle.ps_meaning.specs.StepRefusals.{HasLiteralAggregate, IsMissingColumn, IsRepeated, Refusal, StepMismatch, TypingRefused, break_rules, column_not_found, duplicate, invalid_plan, no_key, own_exprs, repeats, schema_mismatch, unsupported}
use Rattle.ps_meaning.specs.Schemas.{first_schema, names_of, output_names, output_schema}
use Rattle.ps_meaning.specs.Steps.{Name, Step}
use Rattle.ps_validate.proofs.Selecting.{differ}
use Rattle.ps_validate.specs.Columns.{IsEmptyError, IsRepeatError}
use Rattle.valid_plans.specs.Fields.{all_parts}
use Rattle.ps_validate.specs.Nodes.{GivesSchema, HoldsLeftOut, IsNodeError}

-- what holds of an error holds of it where it is passed on
pub passed-on : {T : Type 0} (P : PolarsError → Type 0) (x : PolarsError) (r : Result T PolarsError) → IsErrAnd r (λ y. y ≡ x) → P x → IfErr r P
passed-on P x (Ok y) h p = absurd h
passed-on P x (Err y) h p = subst P (sym h) p

pub memory-on : {T : Type 0} (x : PolarsError) (r : Result T PolarsError) → IsErrAnd r (λ y. y ≡ x) → x ≡ error.OutOfMemory → OnErr r (r ≡ Err error.OutOfMemory)
memory-on x (Ok y) h p = tt
memory-on x (Err y) h p = ap Err (h ∙ p)

pub if-err : {T : Type 0} {P : PolarsError → Type 0} (Q : PolarsError → Type 0) (r : Result T PolarsError) → IfErr r P → ((e : PolarsError) → P e → Q e) → IfErr r Q
if-err Q (Ok y) h p = tt
if-err Q (Err e) h p = p e h

-- what holds of a schema that has columns holds of the answer
pub answered : (P : Fields → Type 0) (s : Fields) (r : Result Fields PolarsError) → IfOk r (λ t. t ≡ s) → OnOk r (s ≢ []) → (s ≢ [] → P s) → IfOk r P
answered P s (Ok t) same some p = subst P (sym same) (p some)
answered P s (Err e) same some p = tt

-- the schema that a step gives, which has columns of different names
pub record Shown (F : Functions) (step : Step) (ss : List Fields) (s : Fields) : Type 0 where
  pub schema : output_schema F step ss ≡ Some s
  pub names : output_names F step ss ≡ names_of s
  pub distinct : IsTrue (has_distinct_names s)
  pub some : s ≢ []

module _ (F : Functions) (step : Step) (ss : List Fields) (s : Fields) where
  rules-hold : Shown F step ss s → ((n : Name) → IsMissingColumn n step ss → ⊥) → ((n : Name) → IsRepeated n step → ⊥) → (StepMismatch F step ss → ⊥) → (break_rules (first_schema ss) (own_exprs step) ≡ true → ⊥) → (HasLiteralAggregate step → ⊥) → (R : Refusal)
      → TypingRefused F step ss R → ⊥
  rules-hold g missing repeated mismatch breaks literal (column_not_found n) h = missing n h
  rules-hold g missing repeated mismatch breaks literal (duplicate n) (inl h) = repeated n h
  rules-hold g missing repeated mismatch breaks literal (duplicate n) (inr h) = differ s n g.distinct (subst (λ ns. repeats n ns ≡ true) g.names h)
  rules-hold g missing repeated mismatch breaks literal schema_mismatch (inl h) = mismatch h
  rules-hold g missing repeated mismatch breaks literal schema_mismatch (inr h) = breaks h
  rules-hold g missing repeated mismatch breaks literal (unsupported w) h = by w h
    where
      by : (w : What) → TypingRefused F step ss (unsupported w) → ⊥
      by what.NoColumns h = let same : Some s ≡ Some [] = sym g.schema ∙ h in g.some cc
      by what.LiteralAggregate h = literal h
      by _ h = h
  rules-hold g missing repeated mismatch breaks literal (invalid_plan w) h = h
  rules-hold g missing repeated mismatch breaks literal no_key h = h

  pub gives-by : Shown F step ss s → ((n : Name) → IsMissingColumn n step ss → ⊥) → ((n : Name) → IsRepeated n step → ⊥) → (StepMismatch F step ss → ⊥) → (break_rules (first_schema ss) (own_exprs step) ≡ true → ⊥) → (HasLiteralAggregate step → ⊥) → ((w : What) → HoldsLeftOut step w → ⊥)
      → GivesSchema F step ss s
  gives-by g missing repeated mismatch breaks literal supported = record { schema = g.schema; rules = rules-hold g missing repeated mismatch breaks literal; supported = supported }

  -- it has no columns
  pub empty-error : (at : Node) (e : PolarsError) → output_schema F step ss ≡ Some s → IsEmptyError at s e → IsNodeError F at step ss e
  empty-error at (error.Unsupported node w) h p = (p.0, inl (subst (λ w. TypingRefused F step ss (unsupported w)) (sym p.1) (h ∙ ap Some p.2)))
  empty-error at error.OutOfMemory h p = tt
  empty-error at (error.ColumnNotFound node name) h p = absurd p
  empty-error at (error.SchemaMismatch node) h p = absurd p
  empty-error at (error.InvalidPlan node why) h p = absurd p
  empty-error at (error.Duplicate node name) h p = absurd p
  empty-error at (error.ComputeError node why) h p = absurd p
  empty-error at (error.ShapeMismatch node) h p = absurd p
  empty-error at (error.OutOfBounds node why) h p = absurd p

  -- one of its names would stand twice
  pub repeat-error : (at : Node) (e : PolarsError) (ns : List Name) → output_names F step ss ≡ ns → IsRepeatError at ns e → IsNodeError F at step ss e
  repeat-error at (error.Duplicate node name) ns h p = (p.0, inr (subst (λ ns. repeats name ns ≡ true) (sym h) p.1))
  repeat-error at error.OutOfMemory ns h p = tt
  repeat-error at (error.ColumnNotFound node name) ns h p = absurd p
  repeat-error at (error.SchemaMismatch node) ns h p = absurd p
  repeat-error at (error.Unsupported node w) ns h p = absurd p
  repeat-error at (error.InvalidPlan node why) ns h p = absurd p
  repeat-error at (error.ComputeError node why) ns h p = absurd p
  repeat-error at (error.ShapeMismatch node) ns h p = absurd p
  repeat-error at (error.OutOfBounds node why) ns h p = absurd p

-- nothing is left out of no expressions
pub none-left : (w : What) → Contains (all_parts []) (Tree.left_out w) → ⊥
none-left w c = omega (arith, c.1)

-- a step whose names are those of its schema
pub names-are : (o : Option Fields) (s : Fields) → o ≡ Some s → names_of (unwrap_or o []) ≡ names_of s
names-are o s h = ap (λ o. names_of (unwrap_or o [])) h
