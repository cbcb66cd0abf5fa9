-- Each number of the trials' arena names an expression, and the named ones have kinds.
use Rattle.std.proofs.Common.{◌≡◌, ℕ, zero, suc, ◌<◌, List, [], ◌∷◌, refl, sym, subst, arith}
use Rattle.std.specs.Prelude.{IsTrue, Some, codes}
use Rattle.std.specs.List.{AllByRecursion}
use Rattle.ps_frame.specs.Frames.{has_distinct_names}
use Rattle.ps_frame.specs.Tables.{Fields}
use Rattle.ps_frame.specs.Trees.{IsComplete, IsExpression, tree_at, tree_within}
use Rattle.ps_frame.specs.declared.expr.AExpr.{AExpr}
use Rattle.ps_frame.specs.declared.value.DataType.TheVariants as kind
use Rattle.ps_meaning.specs.Schemas.{fields_of}
use Rattle.ps_meaning.specs.Steps.{exprs_of, named_trees}
use Rattle.ps_meaning.specs.declared.options.ExprIR.{ExprIR}
use Rattle.lowering_trials.specs.Entries.{trial_entries, trial_exprs, trial_schema}

each : (k : ℕ) → k < 10 → IsExpression trial_entries (record { 0 = k })
unfolding tree_within
each zero h = tt
each (suc zero) h = tt
each (suc (suc zero)) h = tt
each (suc (suc (suc zero))) h = tt
each (suc (suc (suc (suc zero)))) h = (tt, tt)
each (suc (suc (suc (suc (suc zero))))) h = (tt, tt)
each (suc (suc (suc (suc (suc (suc zero)))))) h = tt
each (suc (suc (suc (suc (suc (suc (suc zero))))))) h = ((tt, tt), tt, (tt, tt))
each (suc (suc (suc (suc (suc (suc (suc (suc zero)))))))) h = (tt, tt)
each (suc (suc (suc (suc (suc (suc (suc (suc (suc zero))))))))) h = (tt, tt)
each (suc (suc (suc (suc (suc (suc (suc (suc (suc (suc k)))))))))) h = absurd (omega (arith, h))

pub expression-at : (arena : List AExpr) (k : ℕ) → arena ≡ trial_entries → k < 10 → IsExpression arena (record { 0 = k })
expression-at arena k is h = subst (λ arena. IsExpression arena (record { 0 = k })) (sym is) (each k h)

abbrev AreWhole : List AExpr → List ExprIR → Type 0
AreWhole arena exprs = AllByRecursion IsComplete (exprs_of (named_trees (tree_at arena) exprs))

abbrev HaveFields : List AExpr → List ExprIR → Fields → Type 0
HaveFields arena exprs schema = (fields : Fields) × (fields_of (named_trees (tree_at arena) exprs) schema ≡ Some fields) × IsTrue (has_distinct_names fields)

whole-trial : AreWhole trial_entries trial_exprs
unfolding tree_within
whole-trial = (tt, (tt, (tt, (tt, ((tt, tt), tt)))))

trial_fields : Fields
trial_fields = (codes "a", kind.Int64) ∷ (codes "len", kind.IdxSize) ∷ (codes "b", kind.Int64) ∷ ([], kind.String) ∷ (codes "c", kind.Boolean) ∷ []

fields-trial : HaveFields trial_entries trial_exprs trial_schema
unfolding tree_within trial_fields
fields-trial = (trial_fields, refl, refl)

pub whole-all : (arena : List AExpr) (exprs : List ExprIR) → arena ≡ trial_entries → exprs ≡ trial_exprs → AreWhole arena exprs
whole-all arena exprs is of = subst (λ arena. AreWhole arena exprs) (sym is) (subst (λ exprs. AreWhole trial_entries exprs) (sym of) whole-trial)

pub fields-all : (arena : List AExpr) (exprs : List ExprIR) (schema : Fields) → arena ≡ trial_entries → exprs ≡ trial_exprs → schema ≡ trial_schema → HaveFields arena exprs schema
fields-all arena exprs schema is of over =
    subst (λ arena. HaveFields arena exprs schema) (sym is)
    (subst (λ exprs. HaveFields trial_entries exprs schema) (sym of)
    (subst (λ schema. HaveFields trial_entries trial_exprs schema) (sym over) fields-trial))
