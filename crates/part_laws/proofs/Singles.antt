-- Columns of one value each, or ended before that, side by side.
use Rattle.std.proofs.Common.{◌≡◌, ℕ, zero, suc, ◌≤◌, ◌⊎◌, min, List, [], ◌∷◌, ◌++◌, length, refl, sym, ap, subst, ◌∙◌, inl, inr, arith, append-nil, length-append}
use Rattle.std.proofs.lemmas.List.{length-map}
use Rattle.std.proofs.lemmas.List.Sums.{take_while-cons}
use Rattle.std.specs.Prelude.{Bool, true, false, not, ◌&&◌, ◌||◌, ◌==◌, Contains, cond, filter, flat_map, fold, map, nat_le, take_while}
use Rattle.std.specs.List.{AllByRecursion, list_any}
use Rattle.ps_frame.specs.Causes.{Cause, Cell, Column, value, cell_causes, cell_values, column_causes, is_empty, is_ended}
use Rattle.ps_frame.specs.Zip.{Extent, aligned, all_same, below, breaks_shape, broadcasts, cell_in_row, ended_lengths, ends_early, extent_of, extents, is_faulty_row, least_or, lengths_where, open_lengths, outgrows, unseen_causes, zip_causes, zip_length, zip_rows, zipped}
use Rattle.ps_frame.specs.declared.value.DataFault.TheVariants as fault
use Rattle.ps_frame.specs.declared.value.Value.{Value}
use Rattle.passing_laws.proofs.Shows.{among-either}
use Rattle.part_laws.proofs.Reductions.{IsSingle}
use Rattle.world_laws.proofs.InOrder.{none_in_nil}

abbrev pub AreSingle : List Column → Type 0
AreSingle cs = AllByRecursion IsSingle cs

-- a test of a single column's extent, where it is whole and where it is ended
extent-whole : (test : Extent → Bool) (c : Column) (v : Value) → c.cells ≡ value v ∷ [] → c.broken ≡ [] → test (extent_of c) ≡ test (record { ended = false; len = 1 })
extent-whole test c v p q = λ i. test (record { ended = not (is_empty (q i)); len = length (p i) })

extent-ended : (test : Extent → Bool) (c : Column) → c.cells ≡ [] → is_ended c ≡ true → test (extent_of c) ≡ test (record { ended = true; len = 0 })
extent-ended test c p q = λ i. test (record { ended = q i; len = length (p i) })

lengths-step : (test : Extent → Bool) (e : Extent) (es : List Extent) (b : Bool) → test e ≡ b → lengths_where test (e ∷ es) ≡ cond b (e.len ∷ lengths_where test es) (lengths_where test es)
lengths-step test e es true q = ap (λ b. map (λ (x : Extent). x.len) (cond b (e ∷ filter test es) (filter test es))) q
lengths-step test e es false q = ap (λ b. map (λ (x : Extent). x.len) (cond b (e ∷ filter test es) (filter test es))) q

abbrev is_open : Extent → Bool
is_open e = not e.ended && not (e.len == 1)

none-open : (cs : List Column) → AreSingle cs → open_lengths (extents cs) ≡ []
none-open [] all = refl
none-open (c ∷ cs) all = lengths-step is_open (extent_of c) (extents cs) false (by all.0) ∙ none-open cs all.1
  where
    by : IsSingle c → is_open (extent_of c) ≡ false
    by (inl (v, p, q)) = extent-whole is_open c v p q
    by (inr (p, q)) = extent-ended is_open c p q

and-none : (b : Bool) → (b && false) ≡ false
and-none true = refl
and-none false = refl

none-outgrows : (ls : List ℕ) → list_any (outgrows []) ls ≡ false
none-outgrows [] = refl
none-outgrows (l ∷ ls) = ap (λ b. b || list_any (outgrows []) ls) (and-none (nat_le 2 l)) ∙ none-outgrows ls

pub agree : (cs : List Column) → AreSingle cs → breaks_shape false (extents cs) ≡ false
agree cs all = ap (λ ls. not (all_same ls) || list_any (outgrows ls) (ended_lengths (extents cs))) (none-open cs all) ∙ none-outgrows (ended_lengths (extents cs))

-- where one has a cause, one is ended
ends-some : (cs : List Column) → AreSingle cs → (c : Cause) → Contains (flat_map column_causes cs) c → list_any is_ended cs ≡ true
ends-some [] all c h = absurd (none_in_nil c h)
ends-some (d ∷ cs) all c h = by all.0 (ends-some cs all.1 c) (among-either (column_causes d) (flat_map column_causes cs) c h)
  where
    or-true : (b : Bool) → (b || true) ≡ true
    or-true true = refl
    or-true false = refl

    by : IsSingle d → (Contains (flat_map column_causes cs) c → list_any is_ended cs ≡ true) → Contains (column_causes d) c ⊎ Contains (flat_map column_causes cs) c → list_any is_ended (d ∷ cs) ≡ true
    by (inl (v, p, q)) rest (inl here) = absurd (none_in_nil c (subst (λ xs. Contains xs c) (λ i. flat_map cell_causes (p i) ++ q i) here))
    by (inr (p, q)) rest (inl here) = ap (λ b. b || list_any is_ended cs) q
    by s rest (inr there) = ap (λ b. is_ended d || b) (rest there) ∙ or-true (is_ended d)

no-unseen : (cs : List Column) → AreSingle cs → flat_map (λ (c : Column). flat_map cell_causes c.cells) (filter (λ c. broadcasts false (extent_of c)) cs) ≡ []
no-unseen [] all = refl
no-unseen (d ∷ cs) all = by (broadcasts false (extent_of d)) (no-unseen cs all.1)
  where
    rest : List Column
    rest = filter (λ c. broadcasts false (extent_of c)) cs

    here : flat_map cell_causes d.cells ≡ []
    here = of all.0
      where
        of : IsSingle d → flat_map cell_causes d.cells ≡ []
        of (inl (v, p, q)) = ap (flat_map cell_causes) p
        of (inr (p, q)) = ap (flat_map cell_causes) p

    by : (b : Bool) → flat_map (λ (c : Column). flat_map cell_causes c.cells) rest ≡ [] → flat_map (λ (c : Column). flat_map cell_causes c.cells) (cond b (d ∷ rest) rest) ≡ []
    by true h = ap (λ xs. xs ++ flat_map (λ (c : Column). flat_map cell_causes c.cells) rest) here ∙ h
    by false h = h

abbrev is_steady : Extent → Bool
is_steady e = not (broadcasts false e)

all-zero : (cs : List Column) → AreSingle cs → AllByRecursion (λ n. n ≡ 0) (lengths_where is_steady (extents cs))
all-zero [] all = tt
all-zero (c ∷ cs) all = by all.0 (all-zero cs all.1)
  where
    by : IsSingle c → AllByRecursion (λ n. n ≡ 0) (lengths_where is_steady (extents cs)) → AllByRecursion (λ n. n ≡ 0) (lengths_where is_steady (extents (c ∷ cs)))
    by (inl (v, p, q)) rest = subst (AllByRecursion (λ n. n ≡ 0)) (sym (lengths-step is_steady (extent_of c) (extents cs) false (extent-whole is_steady c v p q))) rest
    by (inr (p, q)) rest = subst (AllByRecursion (λ n. n ≡ 0)) (sym (lengths-step is_steady (extent_of c) (extents cs) true (extent-ended is_steady c p q))) (ap length p, rest)

least-few : (n : ℕ) (ns : List ℕ) → fold min n ns ≤ n
least-few n [] = omega arith
least-few n (m ∷ ns) = let h = least-few (min n m) ns in omega arith

short : (ns : List ℕ) → AllByRecursion (λ n. n ≡ 0) ns → least_or 1 ns ≤ 1
short [] all = omega arith
short (n ∷ ns) all = let h = least-few n ns in let e = all.0 in omega arith

pub while-few : {A : Type 0} (t : A → Bool) (xs : List A) → length (take_while t xs) ≤ length xs
while-few t [] = omega arith
while-few t (x ∷ xs) = subst (λ ys. length ys ≤ suc (length xs)) (sym (take_while-cons t x xs)) (by (t x) (while-few t xs))
  where
    by : (b : Bool) → length (take_while t xs) ≤ length xs → length (cond b (x ∷ take_while t xs) []) ≤ suc (length xs)
    by true h = omega arith
    by false h = omega arith

below-long : (n : ℕ) → length (below n) ≡ n
below-long zero = refl
below-long (suc n) = let h = below-long n in let k = length-append (below n) (n ∷ []) in omega arith

module _ (node : ℕ) (cs : List Column) (all : AreSingle cs) where
  abbrev misfit : List Cause
  misfit = record { fault = fault.Shape; node = node } ∷ []

  zip-causes : zip_causes false node cs ≡ flat_map column_causes cs
  zip-causes = ap (λ b. flat_map column_causes cs ++ cond b misfit []) (agree cs all) ∙ append-nil (flat_map column_causes cs)

  -- all their causes break the zip, and nothing else
  pub broken-by : (c : Cause) → Contains (flat_map column_causes cs) c → Contains (zipped false node cs).broken c
  broken-by c h =
      subst (λ xs. Contains xs c) (sym (ap (λ b. cond ((b || breaks_shape false (extents cs)) || list_any is_faulty_row (aligned false node cs).rows) (zip_causes false node cs) []) (ends-some cs all c h)))
      (subst (λ xs. Contains xs c) (sym zip-causes) h)

  pub broken-from : (c : Cause) → Contains (zipped false node cs).broken c → Contains (flat_map column_causes cs) c
  broken-from c h = by (ends_early false cs || list_any is_faulty_row (aligned false node cs).rows) h
    where
      by : (b : Bool) → Contains (cond b (zip_causes false node cs) []) c → Contains (flat_map column_causes cs) c
      by true x = subst (λ xs. Contains xs c) zip-causes x
      by false x = absurd (none_in_nil c x)

  pub lost-are : (zipped false node cs).lost ≡ flat_map (λ (c : Column). c.lost) cs
  lost-are = ap (λ xs. flat_map (λ (c : Column). c.lost) cs ++ xs) (unseen (zip_length false (extents cs))) ∙ append-nil (flat_map (λ (c : Column). c.lost) cs)
    where
      unseen : (n : ℕ) → unseen_causes false n cs ≡ []
      unseen zero = no-unseen cs all
      unseen (suc n) = refl

  -- one row at most
  pub one-row : length (zipped false node cs).rows ≤ 1
  one-row =
      let n = zip_length false (extents cs) in
      let rows = zip_rows false n cs in
      let t : List Cell → Bool = λ row. not (is_faulty_row row) in
      let a = length-map (take_while t rows) cell_values in
      let b = while-few t rows in
      let c = length-map (below n) (λ i. map (cell_in_row false i) cs) in
      let d = below-long n in
      let e = short (lengths_where is_steady (extents cs)) (all-zero cs all) in
      omega arith
