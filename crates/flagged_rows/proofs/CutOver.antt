-- A step without its slice that is kept over some inputs, and the slice above it.
use Rattle.std.proofs.Common.{◌≡◌, ◌⊎◌, inl, inr, ℕ, List, [], ◌∷◌, Some, None, sym, ◌∙◌}
use Rattle.std.specs.Prelude.{Contains, ℤ, ⊤}
use Rattle.ps_frame.specs.Causes.{Cause}
use Rattle.ps_frame.specs.Functions.{Functions}
use Rattle.ps_frame.specs.Tables.{Table}
use Rattle.ps_meaning.specs.Cases.{GivesBeforeCut, IsCaseBrokenBy}
use Rattle.ps_meaning.specs.Meaning.{IsLargeCase, IsLargeStep}
use Rattle.ps_meaning.specs.Shape.{IsPhysicalChoice}
use Rattle.ps_meaning.specs.Steps.{Cut, Step, slice, step_cut}
use Rattle.ps_rules.specs.Slots.{State, Stream}
use Rattle.plan_rules.specs.Slices.{cut_stream, slice_stream}
use Rattle.step_keeps.specs.Kept.{EndsAsStep, HaveRows, ShowsOnlyStep, SomeIsLarge, tables_from}
use Rattle.step_keeps.proofs.Added.{restricted}
use Rattle.step_keeps.proofs.Composed.{Composes, KeepsOver, alike_then}
use Rattle.step_keeps.proofs.Cuts.{slice_composes, slice_over}
use Rattle.step_keeps.proofs.Steps.{broken_as, case_as, large_as}
use Rattle.keyed_calls.proofs.Told.{Adds, IsFed, Tells, adds_then, fed_later, one_fed, tells_step, tells_then}
use Rattle.plan_keeps.specs.Small.{KeepsStepOver}

module _ (F : Functions) (at : ℕ) (step all : Step) (befores : (ts : List Table) (U : Table) → GivesBeforeCut F at step ts U → GivesBeforeCut F at all ts U) (larges : (ts : List Table) → IsLargeStep F at step ts → IsLargeStep F at all ts)
    (uncut : step_cut step ≡ None) (IsFine : List Table → Type 0) (before mid : State) (inputs : List Stream) (from : Stream) (low : KeepsStepOver IsFine F at step before mid inputs from) where
  -- no slice
  none_cut : step_cut all ≡ None → KeepsStepOver IsFine F at all before mid inputs from
  none_cut e =
      let cut = uncut ∙ sym e in
      record {
        more = low.more;
        nodes = low.nodes;
        made = low.made;
        there = low.there;
        fed = low.fed;
        meaning = λ tables chosen rows fine.
            let ts = tables_from tables inputs in
            let m = low.meaning tables chosen rows fine in (
              record { table = (m.0.table.0, case_as F at step all befores larges cut ts m.0.table.0 m.0.table.1, m.0.table.2); causes = λ c h. broken_as F at step all befores larges cut ts c (m.0.causes c h) },
              record { causes = λ n U c le lt may h. broken_as F at step all befores larges cut ts c (m.1.causes n U c le lt may h); sizes = λ n le lt l. large_as F at step all befores larges cut ts (m.1.sizes n le lt l) },
            );
      }

  -- a slice
  module _ (offset : ℤ) (n : ℕ) (e : step_cut all ≡ Some (offset, n)) where
    abbrev after : State
    after = (slice_stream at offset n from mid).state

    abbrev to : Stream
    to = (slice_stream at offset n from mid).stream

    composes : Composes F at step (slice offset n) all (λ ts. ⊤)
    composes = slice_composes F at step all befores larges uncut offset n e

    high : KeepsOver F at (slice offset n) mid after from to
    high = slice_over F at mid from offset n

    first_adds : Adds at before.nodes inputs mid.nodes
    first_adds = record { more = low.more; nodes = low.nodes; made = low.made }

    mid_fed : (j : Stream) → Contains (from ∷ []) j → IsFed before.nodes inputs j
    mid_fed = one_fed before.nodes inputs from low.fed

    both : Adds at before.nodes inputs after.nodes
    both = adds_then at before.nodes mid.nodes inputs first_adds after.nodes (from ∷ []) mid_fed (record { more = high.more; nodes = high.nodes; made = high.made })

    module _ (tables : ℕ → Table) (chosen : IsPhysicalChoice F after.nodes tables) (rows : HaveRows before.nodes tables inputs) (fine : IsFine (tables_from tables inputs)) where
      abbrev ts : List Table
      ts = tables_from tables inputs

      abbrev P : Table
      P = tables from.0

      first : EndsAsStep F at step ts P × ShowsOnlyStep F before.nodes mid.nodes tables at step ts
      first = low.meaning tables (restricted F mid.nodes after.nodes high.more high.nodes tables chosen) rows fine

      second : EndsAsStep F at (slice offset n) (P ∷ []) (tables to.0) × ShowsOnlyStep F mid.nodes after.nodes tables at (slice offset n) (P ∷ [])
      second = high.meaning tables chosen

      abbrev Bad : Cause → Type 0
      Bad c = IsCaseBrokenBy F at all ts c

      abbrev Large : Type 0
      Large = IsLargeCase F at all ts ⊎ SomeIsLarge ts

      later : (c : Cause) → IsCaseBrokenBy F at (slice offset n) (P ∷ []) c → Bad c
      later c h = by (composes.later_causes ts tt P first.0.table.0 first.0.table.1 first.0.table.2 c h)
        where
          by : Contains P.broken c ⊎ IsCaseBrokenBy F at all ts c → Bad c
          by (inl own) = composes.causes ts tt c (first.0.causes c own)
          by (inr shown) = shown

      first_tells : Tells F tables Bad Large before.nodes mid.nodes
      first_tells = tells_step F tables Bad Large at step ts before.nodes mid.nodes first.1 (composes.causes ts tt) (composes.sizes ts tt)

      last_tells : Tells F tables Bad Large mid.nodes after.nodes
      last_tells = tells_step F tables Bad Large at (slice offset n) (P ∷ []) mid.nodes after.nodes second.1 later (composes.later_sizes ts tt P first.0.table.0 first.0.table.1 first.0.table.2)

      means : EndsAsStep F at all ts (tables to.0) × ShowsOnlyStep F before.nodes after.nodes tables at all ts
      means =
          let m = second.0.table in
          let k = composes.table ts tt P first.0.table.0 m.0 first.0.table.1 first.0.table.2 m.1 in
          let told = tells_then F tables Bad Large before.nodes mid.nodes after.nodes high.more high.nodes first_tells last_tells in
          (record { table = (k.0, k.1, alike_then (tables to.0) m.0 k.0 m.2 k.2); causes = λ c h. later c (second.0.causes c h) }, record { causes = told.causes; sizes = told.sizes })

    some_cut : KeepsStepOver IsFine F at all before after inputs to
    some_cut =
        record {
          more = both.more;
          nodes = both.nodes;
          made = both.made;
          there = high.there;
          fed = fed_later at before.nodes mid.nodes inputs first_adds (from ∷ []) mid_fed to high.fed;
          meaning = means;
        }

  pub cut_over : (cut : Cut) → step_cut all ≡ cut → let m = cut_stream at cut from mid in KeepsStepOver IsFine F at all before m.state inputs m.stream
  cut_over None e = none_cut e
  cut_over (Some (offset, n)) e = some_cut offset n e
