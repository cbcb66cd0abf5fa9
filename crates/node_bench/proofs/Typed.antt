-- Each number of the arena names an expression that has a kind.
use Rattle.std.proofs.Common.{◌≡◌, ℕ, zero, suc, ◌<◌, List, refl, sym, subst, arith}
use Rattle.std.specs.Prelude.{IsSome}
use Rattle.ps_frame.specs.Tables.{Fields}
use Rattle.ps_frame.specs.Trees.{IsExpression, tree_at, tree_within}
use Rattle.ps_frame.specs.Typing.{kind_over}
use Rattle.ps_frame.specs.declared.expr.AExpr.{AExpr}
use Rattle.node_bench.specs.Works.{bench_entries, bench_schema}

abbrev IsTyped : List AExpr → Fields → ℕ → Type 0
IsTyped arena schema k = IsExpression arena (record { 0 = k }) × IsSome (kind_over schema (tree_at arena (record { 0 = k })))

each : (k : ℕ) → k < 13 → IsTyped bench_entries bench_schema k
unfolding tree_within
each zero h = (tt, refl)
each (suc zero) h = (tt, refl)
each (suc (suc zero)) h = (tt, refl)
each (suc (suc (suc zero))) h = (tt, refl)
each (suc (suc (suc (suc zero)))) h = (tt, refl)
each (suc (suc (suc (suc (suc zero))))) h = (tt, refl)
each (suc (suc (suc (suc (suc (suc zero)))))) h = ((tt, tt), refl)
each (suc (suc (suc (suc (suc (suc (suc zero))))))) h = ((tt, (tt, tt)), refl)
each (suc (suc (suc (suc (suc (suc (suc (suc zero)))))))) h = (((tt, (tt, tt)), tt), refl)
each (suc (suc (suc (suc (suc (suc (suc (suc (suc zero))))))))) h = (tt, refl)
each (suc (suc (suc (suc (suc (suc (suc (suc (suc (suc zero)))))))))) h = ((tt, (tt, (tt, tt))), refl)
each (suc (suc (suc (suc (suc (suc (suc (suc (suc (suc (suc zero))))))))))) h = (tt, refl)
each (suc (suc (suc (suc (suc (suc (suc (suc (suc (suc (suc (suc zero)))))))))))) h = (tt, refl)
each (suc (suc (suc (suc (suc (suc (suc (suc (suc (suc (suc (suc (suc k))))))))))))) h = absurd (omega (arith, h))

pub typed-at : (arena : List AExpr) (schema : Fields) (k : ℕ) → arena ≡ bench_entries → schema ≡ bench_schema → k < 13 → IsTyped arena schema k
typed-at arena schema k is of h = subst (λ arena. IsTyped arena schema k) (sym is) (subst (λ schema. IsTyped bench_entries schema k) (sym of) (each k h))
