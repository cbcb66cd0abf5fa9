-- Each number of the trials' arena names an expression that has a kind.
use Rattle.std.proofs.Common.{◌≡◌, ℕ, zero, suc, ◌<◌, List, refl, sym, subst, arith}
use Rattle.std.specs.Prelude.{is_some, IsTrue}
use Rattle.pu_base.specs.declared.arena.Node.{Node}
use Rattle.ps_frame.specs.Tables.{Fields}
use Rattle.ps_frame.specs.Trees.{IsExpression, tree_at, tree_within}
use Rattle.ps_frame.specs.Typing.{kind_over}
use Rattle.ps_frame.specs.declared.expr.AExpr.{AExpr}
use Rattle.expression_trials.specs.Tested.{tested_entries, tested_schema}

abbrev IsTyped : List AExpr → Fields → ℕ → Type 0
IsTyped arena schema k = IsExpression arena (record { 0 = k }) × IsTrue (is_some (kind_over schema (tree_at arena (record { 0 = k }))))

each : (k : ℕ) → k < 11 → IsTyped tested_entries tested_schema k
unfolding tree_within
each zero h = (tt, refl)
each (suc zero) h = (tt, refl)
each (suc (suc zero)) h = (tt, refl)
each (suc (suc (suc zero))) h = (tt, refl)
each (suc (suc (suc (suc zero)))) h = (tt, refl)
each (suc (suc (suc (suc (suc zero))))) h = (tt, refl)
each (suc (suc (suc (suc (suc (suc zero)))))) h = (tt, refl)
each (suc (suc (suc (suc (suc (suc (suc zero))))))) h = (tt, refl)
each (suc (suc (suc (suc (suc (suc (suc (suc zero)))))))) h = (tt, refl)
each (suc (suc (suc (suc (suc (suc (suc (suc (suc zero))))))))) h = (tt, refl)
each (suc (suc (suc (suc (suc (suc (suc (suc (suc (suc zero)))))))))) h = ((tt, tt), refl)
each (suc (suc (suc (suc (suc (suc (suc (suc (suc (suc (suc k))))))))))) h = absurd (omega (arith, h))

pub typed-at : (arena : List AExpr) (schema : Fields) (k : ℕ) → arena ≡ tested_entries → schema ≡ tested_schema → k < 11 → IsTyped arena schema k
typed-at arena schema k is of h = subst (λ arena. IsTyped arena schema k) (sym is) (subst (λ schema. IsTyped tested_entries schema k) (sym of) (each k h))
