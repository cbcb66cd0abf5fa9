-- Rows of a select over the table of reductions, beside the groups of the whole aggregates: one for each key, in any order of the keys.
use Rattle.std.proofs.Common.{◌≡◌, ◌⊎◌, inl, inr, Bool, true, false, not, cond, List, [], ◌∷◌, ◌++◌, refl, sym, ap, ◌∙◌}
use Rattle.std.proofs.lemmas.List.Sums.{take_while-cons}
use Rattle.std.specs.Prelude.{flat_map, map, take_while, ◌&&◌, ◌||◌}
use Rattle.std.specs.List.{AllByRecursion, list_any}
use Rattle.ps_frame.specs.Causes.{Cause, Cell, cell_values, is_empty}
use Rattle.ps_frame.specs.Zip.{is_faulty_row, row_causes, rows_before_fault}
use Rattle.ps_frame.specs.declared.value.Value.{Value}
use Rattle.ps_meaning.specs.Groups.{Group, rows_before_faulty}
use Rattle.ps_bundles.proofs.ZipEnds.{is_none}

-- the row of a key's reductions has the cells of its aggregates, or both have causes
module _ {K : Type 0} (first whole : K → Group) (cells : List Value → List Cell) where
  pub record Agrees (k : K) : Type 0 where
    pub clear : (first k).causes ≡ []
    pub causes : row_causes (cells (first k).cells) ≡ (whole k).causes
    pub values : (whole k).causes ≡ [] → cell_values (cells (first k).cells) ≡ (whole k).cells

  pub record BothFaulty (k : K) : Type 0 where
    pub below : is_empty (first k).causes ≡ false
    pub above : is_empty (whole k).causes ≡ false

  abbrev pub Meets : K → Type 0
  Meets k = Agrees k ⊎ BothFaulty k

  abbrev firsts : List K → List Group
  firsts ks = map first ks

  abbrev wholes : List K → List Group
  wholes ks = map whole ks

  abbrev cell_rows : List K → List (List Cell)
  cell_rows ks = map cells (rows_before_faulty (firsts ks))

  -- the rows of one key more
  next_rows : (k : K) (ks : List K) (b : Bool) → is_empty (first k).causes ≡ b → cell_rows (k ∷ ks) ≡ map cells (cond {A = List (List Value)} b ((first k).cells ∷ rows_before_faulty (firsts ks)) [])
  next_rows k ks b q = ap (λ (b : Bool). map cells (cond {A = List (List Value)} b ((first k).cells ∷ rows_before_faulty (firsts ks)) [])) q

  none_both : (xs ys : List Cause) → is_empty (xs ++ ys) ≡ (is_empty xs && is_empty ys)
  none_both [] ys = refl
  none_both (x ∷ xs) ys = refl

  abbrev pub AllMeet : List K → Type 0
  AllMeet ks = AllByRecursion Meets ks

  pub same_rows : (ks : List K) → AllMeet ks → rows_before_fault (cell_rows ks) ≡ rows_before_faulty (wholes ks)
  same_rows [] all = refl
  same_rows (k ∷ ks) all = by all.0 (same_rows ks all.1)
    where
      row : List Cell
      row = cells (first k).cells

      going : List Cell → Bool
      going r = not (is_faulty_row r)

      taken : (b : Bool) → is_empty (row_causes row) ≡ b → rows_before_fault (row ∷ cell_rows ks) ≡ map cell_values (cond {A = List (List Cell)} (not (not b)) (row ∷ take_while going (cell_rows ks)) [])
      taken b q = ap (map cell_values) (take_while-cons going row (cell_rows ks) ∙ ap (λ (b : Bool). cond {A = List (List Cell)} (not (not b)) (row ∷ take_while going (cell_rows ks)) []) q)

      agreed : Agrees k → (b : Bool) → is_empty (whole k).causes ≡ b → rows_before_fault (cell_rows ks) ≡ rows_before_faulty (wholes ks) → rows_before_fault (row ∷ cell_rows ks) ≡ cond {A = List (List Value)} b ((whole k).cells ∷ rows_before_faulty (wholes ks)) []
      agreed a true q rest = taken true (ap is_empty a.causes ∙ q) ∙ (let v = a.values (is_none (whole k).causes q) in λ i. v i ∷ rest i)
      agreed a false q rest = taken false (ap is_empty a.causes ∙ q)

      by : Meets k → rows_before_fault (cell_rows ks) ≡ rows_before_faulty (wholes ks) → rows_before_fault (cell_rows (k ∷ ks)) ≡ rows_before_faulty (wholes (k ∷ ks))
      by (inl a) rest =
          ap rows_before_fault (next_rows k ks true (ap is_empty a.clear)) ∙ agreed a (is_empty (whole k).causes) refl rest
      by (inr f) rest = ap rows_before_fault (next_rows k ks false f.below) ∙ sym (ap (λ (b : Bool). cond {A = List (List Value)} b ((whole k).cells ∷ rows_before_faulty (wholes ks)) []) f.above)

  -- the groups are clear where those of the reductions are, and no row over these is faulty
  pub same_whole : (ks : List K) → AllMeet ks → is_empty (flat_map (λ (g : Group). g.causes) (wholes ks)) ≡ (is_empty (flat_map (λ (g : Group). g.causes) (firsts ks)) && not (list_any is_faulty_row (cell_rows ks)))
  same_whole [] all = refl
  same_whole (k ∷ ks) all = none_both (whole k).causes (flat_map (λ (g : Group). g.causes) (wholes ks)) ∙ by all.0 (same_whole ks all.1)
    where
      later : Bool
      later = is_empty (flat_map (λ (g : Group). g.causes) (firsts ks))

      faulty : Bool
      faulty = list_any is_faulty_row (cell_rows ks)

      swap : (a b c : Bool) → (a && (b && not c)) ≡ (b && not (not a || c))
      swap true true c = refl
      swap true false c = refl
      swap false true c = refl
      swap false false c = refl

      all_first : Bool
      all_first = is_empty (flat_map (λ (g : Group). g.causes) (firsts (k ∷ ks)))

      by : Meets k → is_empty (flat_map (λ (g : Group). g.causes) (wholes ks)) ≡ (later && not faulty)
          → (is_empty (whole k).causes && is_empty (flat_map (λ (g : Group). g.causes) (wholes ks))) ≡ (all_first && not (list_any is_faulty_row (cell_rows (k ∷ ks))))
      by (inl a) rest =
          let rows = next_rows k ks true (ap is_empty a.clear) in
          let e : all_first ≡ later = none_both (first k).causes (flat_map (λ (g : Group). g.causes) (firsts ks)) ∙ ap (λ (b : Bool). b && later) (ap is_empty a.clear) in
          (let c = sym a.causes in λ i. is_empty (c i) && rest i) ∙ swap (is_empty (row_causes (cells (first k).cells))) later faulty ∙ sym (λ i. e i && not (list_any is_faulty_row (rows i)))
      by (inr f) rest =
          let e : all_first ≡ false = none_both (first k).causes (flat_map (λ (g : Group). g.causes) (firsts ks)) ∙ ap (λ (b : Bool). b && later) f.below in
          ap (λ (b : Bool). b && is_empty (flat_map (λ (g : Group). g.causes) (wholes ks))) f.above ∙ sym (ap (λ (b : Bool). b && not (list_any is_faulty_row (cell_rows (k ∷ ks)))) e)
