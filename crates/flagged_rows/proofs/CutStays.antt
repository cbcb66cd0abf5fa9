-- The slice of a distinct, above a stream whose table lies within one of the distinct without it.
use Rattle.std.proofs.Common.{◌≡◌, ◌⊎◌, inl, inr, ℕ, true, false, List, [], ◌∷◌, ◌++◌, Some, None, refl, sym, ap, subst, ◌∙◌}
use Rattle.std.specs.Prelude.{ℤ}
use Rattle.ps_frame.specs.Causes.{Cause, is_empty}
use Rattle.ps_frame.specs.Functions.{Functions}
use Rattle.ps_frame.specs.Tables.{Table}
use Rattle.ps_frame.specs.declared.value.Value.{Value}
use Rattle.ps_meaning.specs.Cases.{Case, GivesBeforeCut, cut_at}
use Rattle.ps_meaning.specs.Shape.{IsPhysicalChoice}
use Rattle.ps_meaning.specs.Steps.{Cut, DistinctStep, Step, distinct, slice}
use Rattle.ps_meaning.specs.Within.{EndAlike, Within}
use Rattle.ps_meaning.proofs.WithinLemmas.{alike_within, at_within}
use Rattle.ps_rules.specs.Slots.{State, Stream}
use Rattle.plan_rules.specs.Slices.{cut_stream}
use Rattle.step_keeps.proofs.Added.{restricted}
use Rattle.step_keeps.proofs.Cuts.{slice_over}

-- what ends as a table within another is within it
alike_then_within : (P M K : Table) → EndAlike P M → Within M K → Within P K
alike_then_within P M K a w = record { same_schema = a.same_schema ∙ w.same_schema; part = by w.part }
  where
    broken_too : (xs ys : List Cause) → is_empty xs ≡ is_empty ys → (ys ≡ [] → ⊥) → xs ≡ [] → ⊥
    broken_too xs [] e some none = some refl
    broken_too xs (y ∷ ys) e some none = let w : true ≡ false = sym (ap is_empty none) ∙ e in cc

    by : (M ≡ K) ⊎ (M.broken ≡ [] → ⊥) × ((rest : List (List Value)) × (M.rows ++ rest ≡ K.rows)) → (P ≡ K) ⊎ (P.broken ≡ [] → ⊥) × ((rest : List (List Value)) × (P.rows ++ rest ≡ K.rows))
    by (inl e) = (alike_within P K (subst (EndAlike P) e a)).part
    by (inr (broken, (rest, e))) = inr (broken_too P.broken M.broken a.both_whole broken, (rest, ap (λ rows. rows ++ rest) a.same_rows ∙ e))

module _ (F : Functions) (at : ℕ) (o : DistinctStep) (mid : State) (from : Stream) (tables : ℕ → Table) (ts : List Table) where
  abbrev with_cut : Cut → Step
  with_cut cut = distinct (record { subset = o.subset; maintain_order = o.maintain_order; keep = o.keep; cut = cut })

  abbrev IsIn : Cut → Table → Type 0
  IsIn cut P = (K : Table) × Case F at (with_cut cut) ts K × Within P K

  slice_is : (offset : ℤ) (n : ℕ) (P M : Table) → Case F at (slice offset n) (P ∷ []) M → M ≡ cut_at offset n P
  slice_is offset n P M (U, inl g, e) = e ∙ g
  slice_is offset n P M (U, inr (V, g, lost, u), e) = absurd (lost refl)

  pub cut_stays : (cut : Cut) → IsPhysicalChoice F (cut_stream at cut from mid).state.nodes tables → (IsPhysicalChoice F mid.nodes tables → IsIn None (tables from.0)) → IsIn cut (tables (cut_stream at cut from mid).stream.0)
  cut_stays None chosen stays = stays chosen
  cut_stays (Some (offset, n)) chosen stays =
      let high = slice_over F at mid from offset n in
      let k = stays (restricted F mid.nodes (cut_stream at (Some (offset, n)) from mid).state.nodes high.more high.nodes tables chosen) in
      let m = (high.meaning tables chosen).0.table in
      let P = tables from.0 in
      let cut = cut_at offset n k.0 in (
        cut,
        (k.0, subst (GivesBeforeCut F at (with_cut (Some (offset, n))) ts) (sym k.1.2) k.1.1, refl),
        alike_then_within (tables (cut_stream at (Some (offset, n)) from mid).stream.0) m.0 cut m.2 (subst (λ (M : Table). Within M cut) (sym (slice_is offset n P m.0 m.1)) (at_within offset n P k.0 k.2)),
      )
