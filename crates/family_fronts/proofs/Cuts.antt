-- The cuts of rows, put in order again: a front of the rows, and all of them where none is left.
use Rattle.std.proofs.Common.{◌≡◌, ℕ, suc, ◌<◌, ◌≤◌, ◌+◌, ◌*◌, List, [], ◌∷◌, ◌++◌, Option, Some, None, true, drop, length, refl, sym, ap, ◌∙◌, add-zero, append_assoc, append-nil, arith}
use Rattle.std.specs.Prelude.{IsTrue, nat_le, nat_lt, slice_get}
use Rattle.std.proofs.Math.ListN.{drop_of_length-le}
use Rattle.std.proofs.Math.Nat.{suc-mul, zero-mul}
use Rattle.std.proofs.lemmas.Bool.Decides.{nat_tests}
use Rattle.std.proofs.lemmas.List.{take-append-drop}
use Rattle.ps_frame.proofs.Lists.{drop-drop}
use Rattle.ps_frame.specs.Tables.{Row}
use Rattle.ps_options.specs.declared.options.Options.{Options}
use Rattle.ps_turns.specs.Cuts.{cut_of_source, is_exhausted, morsel_size}
use Rattle.ps_world.specs.World.{rows_in_order}
use Rattle.world_facts.proofs.CutOff.{both_true}

no_larger : (a b : ℕ) → nat_le a b ≡ true → a ≤ b
no_larger a b e = grind (arith, nat_tests)

module _ (o : Options) (rows : List Row) where
  abbrev size : ℕ
  size = morsel_size o (length rows)

  -- the rows from a cut on
  abbrev from_cut : ℕ → List Row
  from_cut k = drop (k * size) rows

  abbrev cut : ℕ → List Row
  cut k = cut_of_source o rows k

  next : (k : ℕ) → cut k ++ from_cut (suc k) ≡ from_cut k
  next k = ap (λ z. cut k ++ z) (ap (λ j. drop j rows) (suc-mul k size) ∙ sym (drop-drop size (k * size) rows)) ∙ take-append-drop size (from_cut k)

  -- what stands at a place is the cut of its number
  abbrev pub Cuts : ℕ → List (Option (List Row)) → Type 0
  Cuts k slots = (j : ℕ) (rs : List Row) → slice_get slots j ≡ Some (Some rs) → rs ≡ cut (k + j)

  later : (k : ℕ) (slot : Option (List Row)) (slots : List (Option (List Row))) → Cuts k (slot ∷ slots) → Cuts (suc k) slots
  later k slot slots h j rs e = let same : k + suc j ≡ suc k + j = omega arith in h (suc j) rs e ∙ ap cut same

  here : (k : ℕ) (rs : List Row) (slots : List (Option (List Row))) → Cuts k (Some rs ∷ slots) → rs ≡ cut k
  here k rs slots h = h 0 rs refl ∙ ap cut (add-zero k)

  front : (k : ℕ) (slots : List (Option (List Row))) → Cuts k slots → (rest : List Row) × (rows_in_order slots ++ rest ≡ from_cut k)
  front k [] h = (from_cut k, refl)
  front k (None ∷ slots) h = (from_cut k, refl)
  front k (Some rs ∷ slots) h =
      let r = front (suc k) slots (later k (Some rs) slots h) in
      (r.0, append_assoc rs (rows_in_order slots) r.0 ∙ ap (λ z. rs ++ z) r.1 ∙ ap (λ z. z ++ from_cut (suc k)) (here k rs slots h) ∙ next k)

  all : (k : ℕ) (slots : List (Option (List Row))) → Cuts k slots → ((j : ℕ) → j < length slots → (rs : List Row) × (slice_get slots j ≡ Some (Some rs))) → rows_in_order slots ++ from_cut (k + length slots) ≡ from_cut k
  all k [] h f = ap from_cut (add-zero k)
  all k (None ∷ slots) h f = absurd (let x = f 0 (omega arith) in let never : Some None ≡ Some (Some x.0) = x.1 in cc)
  all k (Some rs ∷ slots) h f =
      let r = all (suc k) slots (later k (Some rs) slots h) (λ j less. f (suc j) (omega arith)) in
      let shift : k + length (Some rs ∷ slots) ≡ suc k + length slots = omega arith in
      ap (λ j. (rs ++ rows_in_order slots) ++ from_cut j) shift ∙ append_assoc rs (rows_in_order slots) (from_cut (suc k + length slots)) ∙ ap (λ z. rs ++ z) r
      ∙ ap (λ z. z ++ from_cut (suc k)) (here k rs slots h) ∙ next k

  from_first : from_cut 0 ≡ rows
  from_first = ap (λ j. drop j rows) (zero-mul size)

  pub cuts_front : (slots : List (Option (List Row))) → Cuts 0 slots → (rest : List Row) × (rows_in_order slots ++ rest ≡ rows)
  cuts_front slots h = let f = front 0 slots h in (f.0, f.1 ∙ from_first)

  pub cuts_all : (slots : List (Option (List Row))) (sent : ℕ) → Cuts 0 slots → ((j : ℕ) → j < length slots → (rs : List Row) × (slice_get slots j ≡ Some (Some rs))) → length slots ≡ sent → IsTrue (is_exhausted o rows sent) → rows_in_order slots ≡ rows
  cuts_all slots sent h f long ended =
      let few : length rows ≤ sent * size = no_larger (length rows) (sent * size) (both_true (nat_lt 0 sent) (nat_le (length rows) (sent * size)) ended).1 in
      let none : from_cut (0 + length slots) ≡ [] = ap from_cut (let e : 0 + length slots ≡ sent = omega arith in e) ∙ drop_of_length-le rows few in
      sym (append-nil (rows_in_order slots)) ∙ ap (λ z. rows_in_order slots ++ z) (sym none) ∙ all 0 slots h f ∙ from_first
