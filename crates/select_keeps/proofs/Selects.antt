-- A select that its call lowers is kept.
use Rattle.std.proofs.Common.{ℕ, ◌<◌, ◌⊎◌, List, [], ◌∷◌, length, inl, inr}
use Rattle.std.proofs.lemmas.Option.{slice_get_within}
use Rattle.std.specs.Prelude.{map}
use Rattle.ps_frame.specs.Aggregates.{max_rows}
use Rattle.ps_frame.specs.Functions.{Functions}
use Rattle.ps_frame.specs.Tables.{Fields, Table}
use Rattle.ps_meaning.specs.Meaning.{IsLargeCase}
use Rattle.ps_meaning.specs.Steps.{Named, exprs_of, select}
use Rattle.ps_plan.specs.Lowering.{LowersStep}
use Rattle.ps_rules.specs.Lowered.{as_operand, select_stream}
use Rattle.ps_rules.specs.Slots.{State, Stream}
use Rattle.ps_shares.specs.Kept.{IsReady}
use Rattle.ps_shares.proofs.Adding.{calls_add, items_add, selected_made}
use Rattle.step_keeps.specs.Kept.{IsKeptStep, SomeIsLarge}
use Rattle.step_keeps.proofs.Owned.{select_made}

pub selects_keep : (F : Functions) (at : ℕ) (schema : Fields) (s : State) (i : Stream) (es : List Named) → IsReady s i (exprs_of es) → let m = select_stream at i es s in LowersStep F s.nodes m.state.nodes at (select es) i.0 m.stream.0 → IsKeptStep F at (select es) schema (i ∷ []) s
selects_keep F at schema s i es ready lowers =
    let g = calls_add.selects at i s es ready in
    let made = select_made at i s es g.more g.nodes in
    let stands = selected_made at i (map (λ (e : Named). (e.0, as_operand at i e.1)) es) (items_add at i es) s ready.ordered (slice_get_within s.nodes i.0 ready.node ready.there) in
    record {
      more = g.more;
      nodes = g.nodes;
      made = made.0;
      there = stands.1;
      fed = made.1;
      meaning = λ tables chosen rows.
          let l = lowers tables chosen rows.0 in (
            record { table = l.0.table; causes = l.0.causes },
            record { causes = l.1.causes; sizes = λ n low high large. some (tables i.0) (l.1.sizes n low high large) },
          );
    }
  where
    some : (t : Table) → IsLargeCase F at (select es) (t ∷ []) ⊎ (max_rows < length t.rows) → IsLargeCase F at (select es) (t ∷ []) ⊎ SomeIsLarge (t ∷ [])
    some t (inl h) = inl h
    some t (inr h) = inr (inl h)
