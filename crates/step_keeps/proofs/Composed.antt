-- Two calls, one after the other: the second lowers a step over the stream of the first.
use Rattle.std.proofs.Common.{◌≡◌, ℕ, zero, suc, ◌<◌, ◌≤◌, ◌⊎◌, List, [], ◌∷◌, ◌++◌, length, ap, subst, ◌∙◌, inl, inr, arith, length-append}
use Rattle.std.proofs.lemmas.List.{append_assoc}
use Rattle.std.specs.Prelude.{Contains}
use Rattle.std.specs.List.{AllByRecursion}
use Rattle.ps_frame.specs.Causes.{Cause}
use Rattle.ps_frame.specs.Functions.{Functions}
use Rattle.ps_frame.specs.Tables.{Table}
use Rattle.ps_meaning.specs.Cases.{Case, IsCaseBrokenBy}
use Rattle.ps_meaning.specs.Meaning.{IsLargeCase}
use Rattle.ps_meaning.specs.Shape.{IsPhysicalChoice, Shape}
use Rattle.ps_meaning.specs.Steps.{Step}
use Rattle.ps_meaning.specs.Within.{EndAlike}
use Rattle.ps_meaning.proofs.Fits.{all-append}
use Rattle.ps_rules.specs.Slots.{State, Stream}
use Rattle.step_keeps.specs.Kept.{EndsAsStep, HaveRows, IsMadeFor, KeepsStep, ShowsOnlyStep, SomeIsLarge, tables_from}
use Rattle.step_keeps.proofs.Added.{given_earlier, large_earlier, restricted}
use native.Mathlib.Decide.{dec_le}
use mathlib.Core.Logic.{dite}

pub alike_then : (P L K : Table) → EndAlike P L → EndAlike L K → EndAlike P K
alike_then P L K a b = record { same_schema = a.same_schema ∙ b.same_schema; same_rows = a.same_rows ∙ b.same_rows; both_whole = a.both_whole ∙ b.both_whole }

-- Over tables of a kind the one step, and then the other over what it gives, are the whole step: P is what the stream of the first means.
pub record Composes (F : Functions) (at : ℕ) (first second all : Step) (Fine : List Table → Type 0) : Type 0 where
  pub table : (ts : List Table) → Fine ts → (P L M : Table) → Case F at first ts L → EndAlike P L → Case F at second (P ∷ []) M → (K : Table) × Case F at all ts K × EndAlike M K
  pub causes : (ts : List Table) → Fine ts → (c : Cause) → IsCaseBrokenBy F at first ts c → IsCaseBrokenBy F at all ts c
  pub later_causes : (ts : List Table) → Fine ts → (P L : Table) → Case F at first ts L → EndAlike P L → (c : Cause) → IsCaseBrokenBy F at second (P ∷ []) c → Contains P.broken c ⊎ IsCaseBrokenBy F at all ts c
  pub sizes : (ts : List Table) → Fine ts → IsLargeCase F at first ts ⊎ SomeIsLarge ts → IsLargeCase F at all ts ⊎ SomeIsLarge ts
  pub later_sizes : (ts : List Table) → Fine ts → (P L : Table) → Case F at first ts L → EndAlike P L → IsLargeCase F at second (P ∷ []) ⊎ SomeIsLarge (P ∷ []) → IsLargeCase F at all ts ⊎ SomeIsLarge ts

-- a call that lowers a step over a stream, whatever rows that has
pub record KeepsOver (F : Functions) (at : ℕ) (step : Step) (before after : State) (from stream : Stream) : Type 0 where
  pub more : Shape
  pub nodes : after.nodes ≡ before.nodes ++ more
  pub made : AllByRecursion (IsMadeFor at before.nodes (from ∷ [])) more
  pub there : stream.0 < length after.nodes
  pub fed : (length before.nodes ≤ stream.0) ⊎ Contains (from ∷ []) stream
  pub meaning : (tables : ℕ → Table) → IsPhysicalChoice F after.nodes tables
      → EndsAsStep F at step (tables from.0 ∷ []) (tables stream.0) × ShowsOnlyStep F before.nodes after.nodes tables at step (tables from.0 ∷ [])

module _ (F : Functions) (at : ℕ) (first second all : Step) (Fine : List Table → Type 0) (composes : Composes F at first second all Fine) (before mid after : State) (inputs : List Stream) (from to : Stream)
    (low : KeepsStep F at first before mid inputs from) (high : KeepsOver F at second mid after from to) (fine : (tables : ℕ → Table) → HaveRows before.nodes tables inputs → Fine (tables_from tables inputs)) where
  module _ (tables : ℕ → Table) (chosen : IsPhysicalChoice F after.nodes tables) (rows : HaveRows before.nodes tables inputs) where
    abbrev ts : List Table
    ts = tables_from tables inputs

    abbrev P : Table
    P = tables from.0

    of_first : EndsAsStep F at first ts P × ShowsOnlyStep F before.nodes mid.nodes tables at first ts
    of_first = low.meaning tables (restricted F mid.nodes after.nodes high.more high.nodes tables chosen) rows

    of_second : EndsAsStep F at second (P ∷ []) (tables to.0) × ShowsOnlyStep F mid.nodes after.nodes tables at second (P ∷ [])
    of_second = high.meaning tables chosen

    ok : Fine ts
    ok = fine tables rows

    later : (c : Cause) → IsCaseBrokenBy F at second (P ∷ []) c → IsCaseBrokenBy F at all ts c
    later c h = by (composes.later_causes ts ok P of_first.0.table.0 of_first.0.table.1 of_first.0.table.2 c h)
      where
        by : Contains P.broken c ⊎ IsCaseBrokenBy F at all ts c → IsCaseBrokenBy F at all ts c
        by (inl own) = composes.causes ts ok c (of_first.0.causes c own)
        by (inr shown) = shown

    both_mean : EndsAsStep F at all ts (tables to.0) × ShowsOnlyStep F before.nodes after.nodes tables at all ts
    both_mean =
        let m = of_second.0.table in
        let k = composes.table ts ok P of_first.0.table.0 m.0 of_first.0.table.1 of_first.0.table.2 m.1 in (
          record { table = (k.0, k.1, alike_then (tables to.0) m.0 k.0 m.2 k.2); causes = λ c h. later c (of_second.0.causes c h) },
          record {
            causes = λ n U c low high' may h.
                dite (dec_le (suc n) (length mid.nodes))
                (λ within. let inside : n < length mid.nodes = omega arith in composes.causes ts ok c (of_first.1.causes n U c low inside (given_earlier F mid.nodes after.nodes high.more high.nodes tables n U inside may) h))
                (λ behind. later c (of_second.1.causes n U c (omega arith) high' may h));
            sizes = λ n low high' l.
                dite (dec_le (suc n) (length mid.nodes))
                (λ within. let inside : n < length mid.nodes = omega arith in composes.sizes ts ok (of_first.1.sizes n low inside (large_earlier F mid.nodes after.nodes high.more high.nodes tables n inside l)))
                (λ behind. composes.later_sizes ts ok P of_first.0.table.0 of_first.0.table.1 of_first.0.table.2 (of_second.1.sizes n (omega arith) high' l));
          },
        )

  -- behind the first nodes, or an input
  abbrev IsOurs : Stream → Type 0
  IsOurs i = (length before.nodes ≤ i.0) ⊎ Contains inputs i

  longer : (n : ℕ) → length mid.nodes ≤ n → length before.nodes ≤ n
  longer n h = let l = ap length low.nodes ∙ length-append before.nodes low.more in omega arith

  ours : (i : Stream) → (length mid.nodes ≤ i.0) ⊎ Contains (from ∷ []) i → IsOurs i
  ours i (inl h) = inl (longer i.0 h)
  ours i (inr (zero, within, e)) = subst IsOurs e low.fed
  ours i (inr (suc k, within, e)) = absurd (omega arith)

  all_ours : (ps : Shape) → AllByRecursion (IsMadeFor at mid.nodes (from ∷ [])) ps → AllByRecursion (IsMadeFor at before.nodes inputs) ps
  all_ours [] all = tt
  all_ours (p ∷ ps) all = (record { origin = all.0.origin; reads = λ i h. ours i (all.0.reads i h) }, all_ours ps all.1)

  pub both_keep : KeepsStep F at all before after inputs to
  both_keep =
      record {
        more = low.more ++ high.more;
        nodes = high.nodes ∙ ap (λ (s : Shape). s ++ high.more) low.nodes ∙ append_assoc before.nodes low.more high.more;
        made = all-append (IsMadeFor at before.nodes inputs) low.more high.more low.made (all_ours high.more high.made);
        there = high.there;
        fed = ours to high.fed;
        meaning = both_mean;
      }
