-- A slice of a plan forgets what the slice of its stream keeps.
use Rattle.std.proofs.Common.{◌≡◌, ℕ, zero, suc, pos, false, ◌⊎◌, List, [], ◌∷◌, get_or, None, refl, ap, subst, ◌∙◌, inl, inr, arith}
use Rattle.std.specs.Int.{int_wrap}
use Rattle.std.specs.Prelude.{Contains, codes}
use Rattle.ps_frame.specs.Causes.{Cause}
use Rattle.ps_frame.specs.Functions.{Functions}
use Rattle.ps_frame.specs.Tables.{Table, no_rows, whole}
use Rattle.ps_frame.specs.Trees.{Tree}
use Rattle.ps_frame.specs.declared.value.DataFault.TheVariants as fault
use Rattle.ps_frame.specs.declared.value.Value.TheVariants as val
use Rattle.ps_meaning.specs.Cases.{GivesBeforeCut, cut_at}
use Rattle.ps_meaning.specs.Meaning.{AllMean, Choice, IsBrokenBy, MayGive, Means, by_case, more_mean, none_mean}
use Rattle.ps_meaning.specs.Shape.{PhysicalBrokenBy, PhysicalCase, input_tables}
use Rattle.ps_meaning.specs.Steps.{Step, scan, select, slice}
use Rattle.plan_laws.proofs.Rows.{no_choice}
use Rattle.plan_laws.proofs.ExprRows.{step_means}
use Rattle.plan_laws.proofs.SoundShapes.{each-node}
use Rattle.plan_laws.proofs.UnbrokenPlan.{once}
use Rattle.plan_laws.specs.Examples.{a_column, at_one, number, one_input, scan_of}
use Rattle.plan_laws.specs.Forgotten.{above_hundred, at_places, filtered, first_gathered, gathered, gathered_shape, ints, lossy_sum, places}

abbrev both : Step
both = select ((codes "f", at_places) ∷ (codes "m", lossy_sum (Tree.filter a_column above_hundred)) ∷ [])

-- the first row, before the place that isn't there; or what the sum lost
abbrev first_row : Table
first_row = record { schema = ints (codes "f" ∷ codes "m" ∷ []); rows = (number 1 ∷ number 0 ∷ []) ∷ []; broken = at_one fault.Gather ∷ [] }

abbrev lost_row : Table
lost_row = no_rows (ints (codes "f" ∷ codes "m" ∷ [])) (at_one fault.StrictCast ∷ [])

-- the tables of the stream's nodes, where the reduce lost its fault
abbrev split : Table
split =
    record {
      schema = filtered;
      rows = (number 1 ∷ val.Boolean false ∷ []) ∷ (number 2 ∷ val.Boolean false ∷ []) ∷ [];
      broken = [];
    }

abbrev none_kept : Table
none_kept = no_rows filtered []

abbrev reduced : Table
reduced = no_rows (ints (codes "r" ∷ [])) (at_one fault.StrictCast ∷ [])

abbrev picked_rows : Table
picked_rows = record { schema = ints (codes "g" ∷ []); rows = (number 1 ∷ []) ∷ []; broken = at_one fault.Gather ∷ [] }

abbrev side_by_side : Table
side_by_side = no_rows (ints (codes "r" ∷ codes "g" ∷ [])) (at_one fault.StrictCast ∷ at_one fault.Gather ∷ [])

abbrev no_answer : Table
no_answer = no_rows (ints (codes "f" ∷ codes "m" ∷ [])) (at_one fault.StrictCast ∷ at_one fault.Gather ∷ at_one fault.StrictCast ∷ at_one fault.Gather ∷ [])

abbrev stream_tables : ℕ → Table
stream_tables n = get_or (whole places ∷ whole places ∷ split ∷ none_kept ∷ reduced ∷ picked_rows ∷ side_by_side ∷ no_answer ∷ no_answer ∷ no_answer ∷ []) n (no_rows [] [])

pub stream-keeps : (F : Functions) → PhysicalBrokenBy F gathered_shape 8 (at_one fault.Gather)
unfolding int_wrap
stream-keeps F = (
  stream_tables,
  each-node (λ n p. PhysicalCase F p (input_tables F stream_tables p) (stream_tables n)) gathered_shape (
    (whole places, inl refl, refl),
    (
      (whole places, inl refl, refl),
      (
        (split, inl refl, refl),
        (
          (none_kept, inl refl, refl),
          (
            (reduced, inr (_, refl, (λ e. cc), refl), refl),
            ((picked_rows, inl refl, refl), ((side_by_side, inl refl, refl), ((no_answer, inl refl, refl), ((no_answer, inl refl, refl), ((no_answer, inl refl, refl), tt))))),
          ),
        ),
      ),
    ),
  ),
  omega arith,
  no_answer,
  inl refl,
  (1, omega arith, refl),
)

module _ (F : Functions) (choice : Choice) where
  scan-is : (S : Table) → Means F choice (scan_of 0 places) S → S ≡ whole places
  scan-is S (by_case none_mean k chosen) = k.2 ∙ once F 0 (scan places None) [] (whole places) k.0 (λ W g. g) (λ W g. refl) k.1

  either-before : (U : Table) → GivesBeforeCut F 1 both (whole places ∷ []) U → (U ≡ first_row) ⊎ (U ≡ lost_row)
  unfolding int_wrap
  either-before U (inl e) = inl e
  either-before U (inr (V, e, some, q)) = inr (q ∙ ap (λ (V : Table). no_rows V.schema (at_one fault.StrictCast ∷ [])) e)

  either : (T : Table) → Means F choice gathered T → (T ≡ first_row) ⊎ (T ≡ lost_row)
  either T (by_case (more_mean {T = S} m none_mean) k chosen) = by (either-before k.0 (subst (λ S. GivesBeforeCut F 1 both (S ∷ []) k.0) (scan-is S m) k.1))
    where
      by : (k.0 ≡ first_row) ⊎ (k.0 ≡ lost_row) → (T ≡ first_row) ⊎ (T ≡ lost_row)
      by (inl e) = inl (k.2 ∙ e)
      by (inr e) = inr (k.2 ∙ e)

  -- neither slice has the cause
  not-there : Contains [] (at_one fault.Gather) → ⊥
  not-there (k, h, e) = absurd (omega arith)

  not-cast : Contains (at_one fault.StrictCast ∷ []) (at_one fault.Gather) → ⊥
  not-cast (zero, h, e) = let same : fault.StrictCast ≡ fault.Gather = ap (λ (c : Cause). c.fault) e in cc
  not-cast (suc k, h, e) = absurd (omega arith)

  cut-has-none : (T U : Table) → (T ≡ first_row) ⊎ (T ≡ lost_row) → U ≡ cut_at (pos 0) 1 T → Contains U.broken (at_one fault.Gather) → ⊥
  cut-has-none T U (inl e) q h = not-there (subst (λ (V : Table). Contains V.broken (at_one fault.Gather)) (q ∙ ap (cut_at (pos 0) 1) e) h)
  cut-has-none T U (inr e) q h = not-cast (subst (λ (V : Table). Contains V.broken (at_one fault.Gather)) (q ∙ ap (cut_at (pos 0) 1) e) h)

  before-has-none : (Ts : List Table) (U : Table) → AllMean F choice (one_input gathered) Ts → GivesBeforeCut F 2 (slice (pos 0) 1) Ts U → Contains U.broken (at_one fault.Gather) → ⊥
  before-has-none Ts U (more_mean {T = T} m none_mean) (inl e) h = cut-has-none T U (either T m) e h
  before-has-none Ts U (more_mean {T = T} m none_mean) (inr lost) h = lost.2 refl

  has-none : (U : Table) → MayGive F choice first_gathered U → Contains U.broken (at_one fault.Gather) → ⊥
  has-none U (inl (by_case {Ts = Ts} all k chosen)) h = before-has-none Ts k.0 all k.1 (subst (λ (V : Table). Contains V.broken (at_one fault.Gather)) k.2 h)
  has-none U (inr (Ts, all, g, chosen)) h = before-has-none Ts U all g h

pub plan-forgets : (F : Functions) → IsBrokenBy F first_gathered (at_one fault.Gather) → ⊥
plan-forgets F b = has-none F b.0 b.1 b.2 b.3

pub select-has : (F : Functions) → IsBrokenBy F gathered (at_one fault.Gather)
unfolding int_wrap
select-has F = (no_choice, first_row, inl (step_means F places both first_row (first_row, inl refl, refl) tt), (0, omega arith, refl))
