-- What steps give over tables that aren't whole.
use Rattle.std.proofs.Common.{◌≡◌, zero, suc, ◌⊎◌, false, List, [], ◌∷◌, refl, sym, ap, subst, ◌∙◌, inl, inr, arith}
use Rattle.std.specs.Prelude.{Contains}
use Rattle.std.specs.List.{AllByRecursion}
use Rattle.ps_frame.specs.Causes.{Cause}
use Rattle.ps_frame.specs.Functions.{Functions}
use Rattle.ps_frame.specs.Tables.{Table, no_rows, whole}
use Rattle.ps_frame.specs.declared.value.DataFault.TheVariants as fault
use Rattle.ps_meaning.specs.Cases.{Gives, GivesBeforeCut, if_whole, with_group_causes}
use Rattle.ps_meaning.specs.Groups.{Group, groups_table}
use Rattle.ps_meaning.specs.Steps.{Step, join}
use Rattle.ps_meaning.specs.declared.options.JoinType.TheVariants as how
use Rattle.plan_laws.specs.Broken.{GivesEither, GivesOnly, ReadsAs, both_faults, broken_by, broken_keys, broken_numerals, broken_texts, faulty_key, filled_keys, full_front, keys, left_fault, lost_cast, no_keys, no_texts, on_key, pairs_of_one, right_fault, sum_by_key}
use Rattle.plan_laws.specs.Examples.{k_column, k_frame, plain_join}
use Rattle.plan_laws.specs.Ordered.{at_two, full_ordered, keys_and_texts, left_ordered}

-- what each of these contains
all-contained : (cs ds : List Cause) → AllByRecursion (Contains ds) cs → (c : Cause) → Contains cs c → Contains ds c
all-contained [] ds all c (k, h, e) = absurd (omega arith)
all-contained (d ∷ cs) ds all c (zero, h, e) = subst (Contains ds) e all.0
all-contained (d ∷ cs) ds all c (suc k, h, e) = all-contained cs ds all.1 c (k, omega arith, e)

-- a table that is another one, whose causes are these as a set
reads-as : (U V T : Table) → T ≡ U → U.schema ≡ V.schema → U.rows ≡ V.rows → AllByRecursion (Contains V.broken) U.broken → AllByRecursion (Contains U.broken) V.broken → ReadsAs T V
reads-as U V T e s r known given = subst (λ (T : Table). ReadsAs T V) (sym e) (s, r, λ c. (all-contained U.broken V.broken known c, all-contained V.broken U.broken given c))

abbrev sides : List Table
sides = broken_keys ∷ whole keys_and_texts ∷ []

-- a cause of a column and of the key beside it is one cause
left-twice : (U V T : Table) → T ≡ U → U.schema ≡ V.schema → U.rows ≡ V.rows → U.broken ≡ left_fault ∷ left_fault ∷ [] → V.broken ≡ left_fault ∷ [] → ReadsAs T V
left-twice U V T e s r twice once =
    let first : Contains (left_fault ∷ []) left_fault = (0, omega arith, refl) in
    let also : Contains (left_fault ∷ left_fault ∷ []) left_fault = (0, omega arith, refl) in
    reads-as U V T e s r
    (subst (λ cs. AllByRecursion (Contains cs) U.broken) (sym once) (subst (AllByRecursion (Contains (left_fault ∷ []))) (sym twice) (first, (first, tt))))
    (subst (λ cs. AllByRecursion (Contains cs) V.broken) (sym twice) (subst (AllByRecursion (Contains (left_fault ∷ left_fault ∷ []))) (sym once) (also, tt)))

pub inner-only : (F : Functions) → GivesOnly F (on_key how.Inner) sides (broken_by left_fault pairs_of_one)
inner-only F = ((_, refl), λ T g. left-twice _ (broken_by left_fault pairs_of_one) T g refl refl refl refl)

pub left-only : (F : Functions) → GivesOnly F (on_key how.Left) sides (broken_by left_fault left_ordered)
left-only F = ((_, refl), λ T g. left-twice _ (broken_by left_fault left_ordered) T g refl refl refl refl)

pub right-only : (F : Functions) → GivesOnly F (on_key how.Right) sides (broken_by left_fault pairs_of_one)
right-only F = ((_, refl), λ T g. left-twice _ (broken_by left_fault pairs_of_one) T g refl refl refl refl)

pub full-only : (F : Functions) → GivesOnly F (on_key how.Full) sides (broken_by left_fault full_front)
full-only F = ((_, refl), λ T g. left-twice _ (broken_by left_fault full_front) T g refl refl refl refl)

pub semi-only : (F : Functions) → GivesOnly F (on_key how.Semi) sides (no_rows keys (left_fault ∷ []))
semi-only F = ((_, refl), λ T g. left-twice _ (no_rows keys (left_fault ∷ [])) T g refl refl refl refl)

pub right-broken : (F : Functions) → GivesOnly F (on_key how.Full) (whole (k_frame (3 ∷ 1 ∷ [])) ∷ broken_texts ∷ []) (no_rows full_ordered.schema (right_fault ∷ []))
right-broken F = ((_, refl), λ T g. reads-as _ (no_rows full_ordered.schema (right_fault ∷ [])) T g refl refl ((0, omega arith, refl), ((0, omega arith, refl), ((0, omega arith, refl), tt))) ((0, omega arith, refl), tt))

pub both-broken : (F : Functions) → GivesOnly F (on_key how.Full) (broken_keys ∷ broken_texts ∷ []) (no_rows full_ordered.schema (left_fault ∷ right_fault ∷ []))
both-broken F = ((_, refl), λ T g. reads-as _ (no_rows full_ordered.schema (left_fault ∷ right_fault ∷ [])) T g refl refl ((0, omega arith, refl), ((0, omega arith, refl), ((1, omega arith, refl), ((1, omega arith, refl), ((1, omega arith, refl), tt))))) ((0, omega arith, refl), ((2, omega arith, refl), tt)))

-- the faults of a key that is broadcast over no rows
abbrev left_steps : Step
left_steps = join (plain_join how.Left false k_column faulty_key)

abbrev full_steps : Step
full_steps = join (plain_join how.Full false faulty_key k_column)

pub lost-right : (F : Functions) → GivesEither F left_steps (broken_keys ∷ no_texts ∷ []) (broken_by left_fault filled_keys) lost_cast
lost-right F = (inr (_, refl, (λ e. cc), refl), by)
  where
    by : (T : Table) → GivesBeforeCut F 2 left_steps (broken_keys ∷ no_texts ∷ []) T → ReadsAs T (broken_by left_fault filled_keys) ⊎ ReadsAs T lost_cast
    by T (inl g) = inl (left-twice _ (broken_by left_fault filled_keys) T g refl refl refl refl)
    by T (inr (U, g, some, e)) = inr (reads-as _ lost_cast T (e ∙ ap (λ (V : Table). no_rows V.schema (at_two fault.StrictCast ∷ [])) g) refl refl ((0, omega arith, refl), tt) ((0, omega arith, refl), tt))

pub lost-left : (F : Functions) → GivesEither F full_steps (no_keys ∷ whole keys_and_texts ∷ []) (no_rows full_ordered.schema (left_fault ∷ at_two fault.StrictCast ∷ [])) lost_cast
lost-left F = (inr (_, refl, (λ e. cc), refl), by)
  where
    by : (T : Table) → GivesBeforeCut F 2 full_steps (no_keys ∷ whole keys_and_texts ∷ []) T → ReadsAs T (no_rows full_ordered.schema (left_fault ∷ at_two fault.StrictCast ∷ [])) ⊎ ReadsAs T lost_cast
    by T (inl g) = inl (reads-as _ (no_rows full_ordered.schema (left_fault ∷ at_two fault.StrictCast ∷ [])) T g refl refl ((0, omega arith, refl), ((1, omega arith, refl), tt)) ((0, omega arith, refl), ((1, omega arith, refl), tt)))
    by T (inr (U, g, some, e)) = inr (reads-as _ lost_cast T (e ∙ ap (λ (V : Table). no_rows V.schema (at_two fault.StrictCast ∷ [])) g) refl refl ((0, omega arith, refl), tt) ((0, omega arith, refl), tt))

-- a group whose aggregate faults too
pub group-only : (F : Functions) → GivesOnly F sum_by_key (broken_numerals ∷ []) both_faults
group-only F = ((_, (_, refl, refl)), only)
  where
    only : (T : Table) → Gives F 2 sum_by_key (broken_numerals ∷ []) T → ReadsAs T both_faults
    only T (gs, order, g) = reads-as _ both_faults T (g ∙ ap (λ (gs : List Group). if_whole both_faults.schema (with_group_causes (left_fault ∷ left_fault ∷ left_fault ∷ []) gs) (groups_table both_faults.schema gs)) order) refl refl ((0, omega arith, refl), ((0, omega arith, refl), ((0, omega arith, refl), ((1, omega arith, refl), tt)))) ((0, omega arith, refl), ((3, omega arith, refl), tt))
