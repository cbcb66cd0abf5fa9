-- Slots of rows and slots of tables.
use Rattle.std.proofs.Common.{◌≡◌, ℕ, zero, suc, ◌+◌, ◌-◌, ◌≤◌, List, [], ◌∷◌, drop, length, map, set, slice_get, Option, Some, None, sym, ap, ◌∙◌, refl, arith, add-one}
use Rattle.std.specs.Prelude.{is_some, option_map}
use Rattle.std.specs.List.{count_by, filter as kept}
use Rattle.std.proofs.lemmas.List.Sums.{length-filter}
use Rattle.std.proofs.lemmas.List.{drop-set-add, map-set}
use Rattle.ps_frame.specs.Tables.{Fields, Frame, Row}
use Rattle.numbered_slots.specs.Numbered.{begins, front, there}
use Rattle.ps_world.specs.World.{morsel_at}
use Rattle.ps_pipes.specs.Shown.{table_of}

module _ (s : Fields) where
  abbrev pub tables : List (Option (List Row)) → List (Option Frame)
  tables xs = map (option_map (table_of s)) xs

  pub begins_is : (n : ℕ) (xs : List (Option (List Row))) → begins (tables (drop n xs)) ≡ is_some (morsel_at n xs)
  begins_is zero [] = refl
  begins_is zero (None ∷ xs) = refl
  begins_is zero (Some rs ∷ xs) = refl
  begins_is (suc n) [] = refl
  begins_is (suc n) (x ∷ xs) = begins_is n xs

  pub front_is : (n : ℕ) (xs : List (Option (List Row))) → front (tables (drop n xs)) ≡ option_map (table_of s) (morsel_at n xs)
  front_is zero [] = refl
  front_is zero (None ∷ xs) = refl
  front_is zero (Some rs ∷ xs) = refl
  front_is (suc n) [] = refl
  front_is (suc n) (x ∷ xs) = front_is n xs

  there-kept : (xs : List (Option (List Row))) → there (tables xs) ≡ length (kept (λ (slot : Option (List Row)). is_some slot) xs)
  there-kept [] = refl
  there-kept (None ∷ xs) = there-kept xs
  there-kept (Some rs ∷ xs) = let rest = there-kept xs in omega (arith, rest)

  pub there_is : (xs : List (Option (List Row))) → there (tables xs) ≡ count_by (λ (slot : Option (List Row)). is_some slot) xs
  there_is xs = there-kept xs ∙ length-filter (λ (slot : Option (List Row)). is_some slot) xs

  pub set_is : (n k : ℕ) (xs : List (Option (List Row))) (rs : List Row) → n ≤ k → tables (drop n (set xs k (Some rs))) ≡ set (tables (drop n xs)) (k - n) (Some (table_of s rs))
  set_is n k xs rs h =
      let same : k ≡ n + (k - n) = omega arith in
      ap (λ i. tables (drop n (set xs i (Some rs)))) same ∙ ap tables (drop-set-add n xs (k - n) (Some rs)) ∙ map-set (option_map (table_of s)) (drop n xs) (k - n) (Some rs)

  awaited-here : (xs : List (Option (List Row))) (i : ℕ) → slice_get xs i ≡ Some None → slice_get (tables xs) i ≡ Some None
  awaited-here [] i e = absurd (cc)
  awaited-here (None ∷ xs) zero e = refl
  awaited-here (Some rs ∷ xs) zero e = absurd (cc)
  awaited-here (x ∷ xs) (suc i) e = awaited-here xs i e

  left-there : (n : ℕ) (xs : List (Option (List Row))) (i j : ℕ) → j ≡ n + i → slice_get xs j ≡ Some None → slice_get (drop n xs) i ≡ Some None
  left-there zero xs i j is e = let same : i ≡ j = omega arith in ap (slice_get xs) same ∙ e
  left-there (suc n) [] i j is e = absurd (cc)
  left-there (suc n) (x ∷ xs) i zero is e = absurd (omega arith)
  left-there (suc n) (x ∷ xs) i (suc j) is e = left-there n xs i j (omega arith) e

  pub awaited_is : (n k : ℕ) (xs : List (Option (List Row))) → n ≤ k → slice_get xs k ≡ Some None → slice_get (tables (drop n xs)) (k - n) ≡ Some None
  awaited_is n k xs h e = awaited-here (drop n xs) (k - n) (left-there n xs (k - n) k (omega arith) e)

  -- what is first among the tables is first among the rows
  pub record FirstOf (n : ℕ) (xs : List (Option (List Row))) (t : Frame) (rest : List (Option Frame)) : Type 0 where
    pub schema : t.schema ≡ s
    pub morsel : morsel_at n xs ≡ Some t.rows
    pub within : n + 1 ≤ length xs
    pub others : rest ≡ tables (drop (n + 1) xs)

  head_of : (d : Option Frame) → List (Option Frame) → Option Frame
  head_of d [] = d
  head_of d (x ∷ xs) = x

  tail_of : List (Option Frame) → List (Option Frame)
  tail_of [] = []
  tail_of (x ∷ xs) = xs

  table_in : (d : Frame) → Option Frame → Frame
  table_in d None = d
  table_in d (Some t) = t

  pub first_of : (n : ℕ) (xs : List (Option (List Row))) (t : Frame) (rest : List (Option Frame)) → tables (drop n xs) ≡ Some t ∷ rest → FirstOf n xs t rest
  unfolding head_of tail_of table_in
  first_of zero [] t rest e = absurd (cc)
  first_of zero (None ∷ xs) t rest e = absurd (let no : None ≡ Some t = ap (head_of None) e in cc)
  first_of zero (Some rs ∷ xs) t rest e =
      let is : table_of s rs ≡ t = ap (λ x. table_in t (head_of None x)) e in
      let more : length (Some rs ∷ xs) ≡ length xs + 1 = omega arith in
      record { schema = sym (ap (λ (f : Frame). f.schema) is); morsel = ap (λ (f : Frame). Some f.rows) is; within = omega arith; others = sym (ap tail_of e) }
  first_of (suc n) [] t rest e = absurd (cc)
  first_of (suc n) (x ∷ xs) t rest e =
      let below = first_of n xs t rest e in
      let within = below.within in
      record { schema = below.schema; morsel = below.morsel; within = omega arith; others = rw add-one (rw add-one at below.others) }

pub table_is : (s : Fields) (t : Frame) → t.schema ≡ s → table_of s t.rows ≡ t
table_is s t e = ap (λ (x : Fields). table_of x t.rows) (sym e)
