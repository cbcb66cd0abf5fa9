-- A step that is no cache, over plans that are lowered.
use Rattle.std.proofs.Common.{◌≡◌, ℕ, ◌<◌, ◌⊎◌, List, [], ◌∷◌, ◌++◌, length, Some, refl, sym, ap, subst, ◌∙◌, inl, inr}
use Rattle.std.proofs.lemmas.List.{append_assoc}
use Rattle.std.proofs.lemmas.Option.{slice_get-get_or}
use Rattle.std.specs.Prelude.{Contains, get_or, slice_get}
use Rattle.std.specs.List.{AllByRecursion}
use Rattle.ps_frame.specs.Functions.{Functions}
use Rattle.ps_frame.specs.Tables.{Fields, Table}
use Rattle.ps_meaning.specs.Cases.{Case}
use Rattle.ps_meaning.specs.Meaning.{Choice, IsChosen, Means, by_case}
use Rattle.ps_meaning.specs.PlanTrees.{PlanTree, PlanTrees, node}
use Rattle.ps_meaning.specs.Shape.{PhysicalNode, Shape, in_memory_sink}
use Rattle.ps_meaning.specs.Sound.{schema_at}
use Rattle.ps_meaning.specs.Steps.{Step}
use Rattle.ps_meaning.specs.Within.{EndAlike}
use Rattle.ps_plan.specs.Lowering.{AreTablesOf, Cached, HasRowsOf}
use Rattle.plan_laws.proofs.AlikeSteps.{steps-keep}
use Rattle.plan_laws.specs.Laws.{HoldsId, IsCacheOf, SomeHoldsId}
use Rattle.ps_rules.specs.Slots.{Stream}
use Rattle.plan_rules.specs.Plans.{LoweredPlans, Progress, stream_over}
use Rattle.step_keeps.specs.Kept.{HaveRows, tables_from}
use Rattle.step_keeps.proofs.Added.{restricted, stays}
use Rattle.step_keeps.proofs.Composed.{alike_then}
use Rattle.plan_keeps.specs.Kept.{AreSmall, IsKeptCall}
use Rattle.plan_keeps.proofs.Alike.{some_large}
use Rattle.plan_keeps.proofs.Inputs.{AreFine, AreLowered, IsLowered, still_fine}
use Rattle.plan_keeps.proofs.Lists.{Known}

abbrev no_node : PhysicalNode
no_node = record { kind = in_memory_sink; schema = []; origin = 0; inputs = [] }

-- tables of a shape have the rows of the nodes that stood in an earlier one
pub rows_of_tables : (F : Functions) (a b more : Shape) → b ≡ a ++ more → (tables : ℕ → Table) → AreTablesOf F b tables → (ss : List Stream) → AllByRecursion (λ (s : Stream). s.0 < length a) ss → HaveRows a tables ss
rows_of_tables F a b more e tables given [] there = tt
rows_of_tables F a b more e tables given (s ∷ ss) there =
    let p = get_or a s.0 no_node in
    let at = slice_get-get_or a s.0 no_node there.0 in (
      subst (λ (fs : Fields). HasRowsOf fs (tables s.0)) (sym (ap schema_at at)) (given.1 s.0 p (stays F a b more e s.0 p at)),
      rows_of_tables F a b more e tables given ss there.1,
    )

module _ (F : Functions) (stored : ℕ → PlanTree) (p : Progress) (at : ℕ) (step : Step) (schema : Fields) (below : PlanTrees) (chosen : (choice : Choice) (T : Table) → IsChosen choice step T) (other : (k : ℕ) → IsCacheOf k step → ⊥)
    (r : LoweredPlans) (low : AreLowered F stored p below r) (kept : IsKeptCall F at step schema (AreSmall F below) r) where
  pub step_lowered : IsLowered F stored p (node at step below) (stream_over F at step schema r)
  step_lowered =
      let m = (stream_over F at step schema r).progress.state.nodes in
      record {
        more = low.more ++ kept.more;
        nodes = kept.nodes ∙ ap (λ (xs : Shape). xs ++ kept.more) low.nodes ∙ append_assoc p.state.nodes low.more kept.more;
        there = kept.there;
        fine = λ c h. still_fine stored r.progress.state.nodes m kept.more r.progress.cached c kept.nodes (low.fine c h);
        old = low.old;
        new = λ c h. later c (low.new c h);
        held = held;
        lowers = λ shape rest e tables given choice serves.
            let from = e ∙ ap (λ (xs : Shape). xs ++ rest) kept.nodes ∙ append_assoc r.progress.state.nodes kept.more rest in
            let b = low.lowers shape (kept.more ++ rest) from tables given choice serves in
            let ls = b.3 in
            let ends = kept.meaning tables (restricted F m shape rest e tables given.0) (rows_of_tables F r.progress.state.nodes shape (kept.more ++ rest) from tables given r.streams low.there) (λ small large. small b.0 (some_large F b.0 below (tables_from tables r.streams) ls.0 ls.1 ls.2 large)) in
            let table = ends.0.table in
            let k = steps-keep F at step (tables_from tables r.streams) ls.0 table.0 ls.2 table.1 in
            (b.0, b.1, b.2, (k.0, by_case ls.1 k.1 (chosen b.0 k.0), alike_then (tables (stream_over F at step schema r).stream.0) table.0 k.0 table.2 k.2));
      }
    where
      later : (c : Cached) → Contains p.cached c ⊎ SomeHoldsId c.id below → Contains p.cached c ⊎ HoldsId c.id (node at step below)
      later c (inl h) = inl h
      later c (inr h) = inr (inr h)

      held : (k : ℕ) → HoldsId k (node at step below) → Known k r.progress.cached
      held k (inl h) = absurd (other k h)
      held k (inr h) = low.held k h
