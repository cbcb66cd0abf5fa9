-- The groups of the rows whose keys are in a list, and of all lists of a split.
use Rattle.std.proofs.Common.{◌≡◌, ℕ, ◌⊎◌, Bool, true, false, cond, List, [], ◌∷◌, ◌++◌, length, take, drop, refl, sym, ap, ◌∙◌, subst, inl, inr, IsPermutation}
use Rattle.std.proofs.lemmas.List.{map-append}
use Rattle.std.proofs.lemmas.List.Sorted.{IsPermutation-map}
use Rattle.std.specs.Prelude.{Contains, filter, flat_map, map, not}
use Rattle.ps_frame.specs.Causes.{column_causes}
use Rattle.ps_frame.specs.Eval.{eval}
use Rattle.ps_frame.specs.Tables.{Fields, Row}
use Rattle.ps_frame.specs.Trees.{Tree}
use Rattle.ps_frame.specs.Values.{same_row}
use Rattle.ps_keys.proofs.SameRows.{same_row-is}
use Rattle.ps_meaning.specs.Distinct.{distinct_rows}
use Rattle.ps_meaning.specs.Groups.{Group, group_of, groups, keys_of, only_value, rows_of_key}
use Rattle.part_laws.specs.Lists.{end_to_end}
use Rattle.part_laws.proofs.Apart.{distinct-apart, in_list, split-kept}
use Rattle.part_laws.proofs.KeyedRows.{filter-of-map}
use Rattle.world_laws.proofs.InOrder.{contains_cases, contains_first, contains_kept, contains_later, none_in_nil}

-- tests one after the other
module _ {A : Type 0} where
  pub filter-swap : (p q : A → Bool) (xs : List A) → filter p (filter q xs) ≡ filter q (filter p xs)
  filter-swap p q [] = refl
  filter-swap p q (x ∷ xs) = by (p x) (q x) refl refl (filter-swap p q xs)
    where
      by : (a b : Bool) → p x ≡ a → q x ≡ b → filter p (filter q xs) ≡ filter q (filter p xs) → filter p (cond (q x) (x ∷ filter q xs) (filter q xs)) ≡ filter q (cond (p x) (x ∷ filter p xs) (filter p xs))
      by true true e f h = rw (e, f) (rw e (ap (λ l. x ∷ l) h))
      by true false e f h = rw (e, f) h
      by false true e f h = rw (e, f) (rw e h)
      by false false e f h = rw (e, f) h

  pub filter-after : (p q : A → Bool) → ((x : A) → p x ≡ true → q x ≡ true) → (xs : List A) → filter p (filter q xs) ≡ filter p xs
  filter-after p q implies [] = refl
  filter-after p q implies (x ∷ xs) = by (p x) (q x) refl refl (filter-after p q implies xs)
    where
      by : (a b : Bool) → p x ≡ a → q x ≡ b → filter p (filter q xs) ≡ filter p xs → filter p (cond (q x) (x ∷ filter q xs) (filter q xs)) ≡ cond (p x) (x ∷ filter p xs) (filter p xs)
      by true true e f h = rw (e, f) (rw e (ap (λ l. x ∷ l) h))
      by true false e f h = absurd (let no : true ≡ false = sym (implies x e) ∙ f in cc)
      by false true e f h = rw (e, f) (rw e h)
      by false false e f h = rw (e, f) h

  -- what is kept was there and passes the test
  pub kept-out : (t : A → Bool) (xs : List A) (x : A) → Contains (filter t xs) x → Contains xs x × (t x ≡ true)
  kept-out t [] x h = absurd (none_in_nil x h)
  kept-out t (y ∷ xs) x h = by (kept-out t xs x) (t y) refl h
    where
      first : (Contains (filter t xs) x → Contains xs x × (t x ≡ true)) → t y ≡ true → (y ≡ x) ⊎ Contains (filter t xs) x → Contains (y ∷ xs) x × (t x ≡ true)
      first rest e (inl same) = (subst (Contains (y ∷ xs)) same (contains_first y xs), ap t (sym same) ∙ e)
      first rest e (inr later) = let k = rest later in (contains_later y x xs k.0, k.1)

      by : (Contains (filter t xs) x → Contains xs x × (t x ≡ true)) → (b : Bool) → t y ≡ b → Contains (cond b (y ∷ filter t xs) (filter t xs)) x → Contains (y ∷ xs) x × (t x ≡ true)
      by rest true e k = first rest e (contains_cases y x (filter t xs) k)
      by rest false e k = let j = rest k in (contains_later y x xs j.0, j.1)

-- the distinct rows are those that there are
pub distinct-out : (xs : List Row) (x : Row) → Contains (distinct_rows xs) x → Contains xs x
distinct-out [] x h = absurd (none_in_nil x h)
distinct-out (r ∷ xs) x h = by (distinct-out xs x) (contains_cases r x (filter (λ q. not (same_row r q)) (distinct_rows xs)) h)
  where
    by : (Contains (distinct_rows xs) x → Contains xs x) → (r ≡ x) ⊎ Contains (filter (λ q. not (same_row r q)) (distinct_rows xs)) x → Contains (r ∷ xs) x
    by rest (inl e) = subst (Contains (r ∷ xs)) e (contains_first r xs)
    by rest (inr later) = contains_later r x xs (rest (kept-out (λ q. not (same_row r q)) (distinct_rows xs) x later).0)

pub distinct-in : (xs : List Row) (x : Row) → Contains xs x → Contains (distinct_rows xs) x
distinct-in [] x h = absurd (none_in_nil x h)
distinct-in (r ∷ xs) x h = by (distinct-in xs x) (contains_cases r x xs h) (same_row r x) refl
  where
    others : List Row
    others = filter (λ q. not (same_row r q)) (distinct_rows xs)

    by : (Contains xs x → Contains (distinct_rows xs) x) → (r ≡ x) ⊎ Contains xs x → (b : Bool) → same_row r x ≡ b → Contains (r ∷ others) x
    by rest (inl e) b q = subst (Contains (r ∷ others)) e (contains_first r others)
    by rest (inr later) true q = subst (Contains (r ∷ others)) (same_row-is r x q) (contains_first r others)
    by rest (inr later) false q = contains_later r x others (contains_kept (λ q. not (same_row r q)) x (distinct_rows xs) (rest later) (ap not q))

-- Those that pass a test are the distinct ones of those that pass it.
pub distinct-filter : (t : Row → Bool) (xs : List Row) → distinct_rows (filter t xs) ≡ filter t (distinct_rows xs)
distinct-filter t [] = refl
distinct-filter t (r ∷ xs) = by (t r) refl (distinct-filter t xs)
  where
    new : Row → Bool
    new q = not (same_row r q)

    differs : t r ≡ false → (x : Row) → t x ≡ true → new x ≡ true
    differs e x h = of (same_row r x) refl
      where
        of : (b : Bool) → same_row r x ≡ b → not b ≡ true
        of true q = absurd (let no : true ≡ false = sym h ∙ ap t (sym (same_row-is r x q)) ∙ e in cc)
        of false q = refl

    by : (b : Bool) → t r ≡ b → distinct_rows (filter t xs) ≡ filter t (distinct_rows xs) → distinct_rows (cond b (r ∷ filter t xs) (filter t xs)) ≡ cond b (r ∷ filter t (filter (λ q. not (same_row r q)) (distinct_rows xs))) (filter t (filter (λ q. not (same_row r q)) (distinct_rows xs)))
    by true e h = ap (λ l. r ∷ l) (ap (filter (λ q. not (same_row r q))) h ∙ filter-swap (λ q. not (same_row r q)) t (distinct_rows xs))
    by false e h = h ∙ sym (filter-after t (λ q. not (same_row r q)) (differs e) (distinct_rows xs))

module _ (node : ℕ) (aggregates : List Tree) (s : Fields) (rows : List Row) where
  abbrev w : ℕ
  w = length s

  -- a row from those that are grouped, whose keys pass a test
  abbrev pub passing : (Row → Bool) → List Row
  passing t = filter (λ r. t (drop (length s) r)) rows

  pub keys-passing : (t : Row → Bool) → keys_of (length s) (passing t) ≡ filter t (keys_of (length s) rows)
  keys-passing t = ap distinct_rows (sym (filter-of-map t (drop (length s)) rows)) ∙ distinct-filter t (map (drop (length s)) rows)

  same-rows : (t : Row → Bool) (key : Row) → t key ≡ true → rows_of_key (length s) key (passing t) ≡ rows_of_key (length s) key rows
  same-rows t key e = ap (map (take (length s))) (filter-after (λ r. same_row key (drop (length s) r)) (λ r. t (drop (length s) r)) (λ r h. ap t (sym (same_row-is key (drop (length s) r) h)) ∙ e) rows)

  abbrev group_over : Row → List Row → Group
  group_over key rs =
      record {
        cells = key ++ map only_value (map (λ e. eval node (record { schema = s; rows = rs; broken = [] }) e) aggregates);
        causes = flat_map column_causes (map (λ e. eval node (record { schema = s; rows = rs; broken = [] }) e) aggregates);
      }

  -- a group of theirs is the group of all
  same-group : (t : Row → Bool) (key : Row) → t key ≡ true → group_of node aggregates s (passing t) key ≡ group_of node aggregates s rows key
  same-group t key e = ap (group_over key) (same-rows t key e)

  pub groups-passing : (t : Row → Bool) → groups node aggregates s (passing t) ≡ map (group_of node aggregates s rows) (filter t (keys_of (length s) rows))
  groups-passing t = ap (map (group_of node aggregates s (passing t))) (keys-passing t) ∙ each (keys_of (length s) rows)
    where
      each : (keys : List Row) → map (group_of node aggregates s (passing t)) (filter t keys) ≡ map (group_of node aggregates s rows) (filter t keys)
      each [] = refl
      each (key ∷ keys) = by (t key) refl (each keys)
        where
          by : (b : Bool) → t key ≡ b → map (group_of node aggregates s (passing t)) (filter t keys) ≡ map (group_of node aggregates s rows) (filter t keys)
              → map (group_of node aggregates s (passing t)) (cond b (key ∷ filter t keys) (filter t keys)) ≡ map (group_of node aggregates s rows) (cond b (key ∷ filter t keys) (filter t keys))
          by true e h = λ i. same-group t key e i ∷ h i
          by false e h = h

  -- the groups of the rows with the keys of a list
  abbrev pub list_groups : List Row → List Group
  list_groups l = groups node aggregates s (passing (in_list l))

  map-flat : (g : Row → Group) (f : List Row → List Row) (ls : List (List Row)) → map g (flat_map f ls) ≡ flat_map (λ l. map g (f l)) ls
  map-flat g f [] = refl
  map-flat g f (l ∷ ls) = map-append g (f l) (flat_map f ls) ∙ ap (λ gs. map g (f l) ++ gs) (map-flat g f ls)

  -- A split of the distinct keys into lists: list after list, their groups are the groups of all rows in some order.
  pub split-groups : (ls : List (List Row)) → IsPermutation (keys_of (length s) rows) (end_to_end ls) → IsPermutation (groups node aggregates s rows) (flat_map list_groups ls)
  split-groups ls h =
      let g = group_of node aggregates s rows in
      let keys = keys_of (length s) rows in
      let k = IsPermutation-map g keys (flat_map (λ l. filter (in_list l) keys) ls) (split-kept keys ls (distinct-apart (map (drop (length s)) rows)) h) in
      subst (IsPermutation (groups node aggregates s rows)) (map-flat g (λ l. filter (in_list l) keys) ls ∙ (λ i. flat_map (λ l. sym (groups-passing (in_list l)) i) ls)) k
