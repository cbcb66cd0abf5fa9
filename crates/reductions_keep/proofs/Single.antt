-- What is put together from reductions gives one cell over a table, or none where a fault ended it; and it shows what its reductions show.
use Rattle.std.proofs.Common.{◌≡◌, ◌⊎◌, inl, inr, ℕ, Bool, true, false, not, cond, List, [], ◌∷◌, ◌++◌, length, get_or, refl, sym, ap, subst, ◌∙◌}
use Rattle.std.proofs.lemmas.List.{append-nil}
use Rattle.std.specs.Prelude.{flat_map, filter, map, ◌&&◌, ◌||◌, ◌==◌}
use Rattle.std.specs.List.{AllByRecursion, list_any}
use Rattle.ps_frame.specs.Causes.{Cause, Cell, Column, value, cell_causes, column_causes, faulty_or, is_empty, is_ended}
use Rattle.ps_frame.specs.Eval.{cell_of_row, cellwise}
use Rattle.ps_frame.specs.Zip.{Extent, breaks_shape, broadcasts, cell_in_row, ended_lengths, extent_of, extents, least_or, lengths_where, open_lengths, outgrows, row_causes, zip_causes, zip_length, zip_rows}
use Rattle.ps_frame.specs.declared.value.Value.{Value}
use Rattle.ps_frame.specs.declared.value.Value.TheVariants as val
use Rattle.ps_meaning.proofs.Under.{causes-nonempty, nonempty}
use Rattle.ps_meaning.proofs.Begins.{append-empty_left}
use Rattle.ps_rowwise.proofs.Standing.{least-same, lengths-same}
use Rattle.ps_shares.proofs.Ends.{has_either, has_first}
use Rattle.ps_shares.proofs.FlatLength.{neither}
use Rattle.ps_shares.proofs.Members.{Has, are_same}
use Rattle.ps_bundles.proofs.Gathered.{has_last}
use Rattle.reductions_keep.specs.Reduced.{IsCell, IsSingle}

abbrev pub AreSingle : List Column → Type 0
AreSingle cs = AllByRecursion IsSingle cs

-- whether one broadcasts, and whether it counts in other ways
abbrev one : Extent
one = record { ended = false; len = 1 }

abbrev steady : Extent → Bool
steady e = not (broadcasts false e)

abbrev counts : Extent → Bool
counts e = not e.ended && not (e.len == 1)

cell_extent : (c : Column) (x : Cell) → IsCell c x → extent_of c ≡ one
cell_extent c x k = λ i. record { ended = not (is_empty (k.broken i)); len = length (k.cells i) }

cell_whole : (c : Column) (x : Cell) → IsCell c x → is_ended c ≡ false
cell_whole c x k = ap (λ (xs : List Cause). not (is_empty xs)) k.broken

-- what doesn't broadcast has no cell
no_cells : (test : Extent → Bool) → test one ≡ false → (c : Column) → IsSingle c → test (extent_of c) ≡ true → length c.cells ≡ 0
no_cells test none c (inl (x, k)) h = let w : false ≡ true = sym none ∙ sym (ap test (cell_extent c x k)) ∙ h in cc
no_cells test none c (inr e) h = ap length e.cells

none_long : (test : Extent → Bool) → test one ≡ false → (cs : List Column) → AreSingle cs → AllByRecursion (λ m. m ≡ 0) (lengths_where test (extents cs))
none_long test none cs all = lengths-same test 0 (extents cs) (each cs all)
  where
    each : (cs : List Column) → AreSingle cs → AllByRecursion (λ (e : Extent). test e ≡ true → e.len ≡ 0) (extents cs)
    each [] all = tt
    each (c ∷ cs) all = (no_cells test none c all.0, each cs all.1)

none_outgrow : (ns ms : List ℕ) → AllByRecursion (λ m. m ≡ 0) ms → list_any (outgrows ns) ms ≡ false
none_outgrow ns [] all = refl
none_outgrow ns (m ∷ ms) all = ap (λ b. b || list_any (outgrows ns) ms) (ap (outgrows ns) all.0) ∙ none_outgrow ns ms all.1

-- their lengths agree
pub single_fit : (cs : List Column) → AreSingle cs → breaks_shape false (extents cs) ≡ false
single_fit cs all =
    let opens = open_lengths (extents cs) in
    let endeds = ended_lengths (extents cs) in
    ap (λ b. not b || list_any (outgrows opens) endeds) (are_same opens 0 (none_long counts refl cs all)) ∙ none_outgrow opens endeds (none_long (λ e. e.ended) refl cs all)

-- where one is ended there are no rows
some_move : (cs : List Column) → AreSingle cs → list_any is_ended cs ≡ true → lengths_where steady (extents cs) ≡ [] → ⊥
some_move [] all h e = cc
some_move (c ∷ cs) all h e = by all.0 (some_move cs all.1)
  where
    skip : (b : Bool) → steady (extent_of c) ≡ b → b ≡ true → map (λ (e : Extent). e.len) (cond b (extent_of c ∷ filter steady (extents cs)) (filter steady (extents cs))) ≡ [] → ⊥
    skip true q t e = cc
    skip false q t e = cc

    rest_none : (b : Bool) → steady (extent_of c) ≡ b → b ≡ false → map (λ (e : Extent). e.len) (cond b (extent_of c ∷ filter steady (extents cs)) (filter steady (extents cs))) ≡ [] → lengths_where steady (extents cs) ≡ []
    rest_none true q f e = cc
    rest_none false q f e = e

    by : IsSingle c → (list_any is_ended cs ≡ true → lengths_where steady (extents cs) ≡ [] → ⊥) → ⊥
    by (inl (x, k)) rest = rest (sym (ap (λ b. b || list_any is_ended cs) (cell_whole c x k)) ∙ h) (rest_none (steady (extent_of c)) refl (ap steady (cell_extent c x k)) e)
    by (inr n) rest = skip (steady (extent_of c)) refl (ap (λ b. not (not b && (length c.cells == 1))) n.ended) e

no_length : (cs : List Column) → AreSingle cs → list_any is_ended cs ≡ true → zip_length false (extents cs) ≡ 0
no_length cs all h = least-same 0 (lengths_where steady (extents cs)) (none_long steady refl cs all) (λ e. absurd (some_move cs all h e))

-- where none is, there is one row
none_move : (cs : List Column) → AreSingle cs → list_any is_ended cs ≡ false → lengths_where steady (extents cs) ≡ []
none_move [] all h = refl
none_move (c ∷ cs) all h = let p = neither (is_ended c) (list_any is_ended cs) h in by p.0 (none_move cs all.1 p.1) all.0
  where
    by : is_ended c ≡ false → lengths_where steady (extents cs) ≡ [] → IsSingle c → map (λ (e : Extent). e.len) (cond (steady (extent_of c)) (extent_of c ∷ filter steady (extents cs)) (filter steady (extents cs))) ≡ []
    by whole rest (inl (x, k)) = ap (λ b. map (λ (e : Extent). e.len) (cond b (extent_of c ∷ filter steady (extents cs)) (filter steady (extents cs)))) (ap steady (cell_extent c x k)) ∙ rest
    by whole rest (inr n) = let w : true ≡ false = sym n.ended ∙ whole in cc

one_length : (cs : List Column) → AreSingle cs → list_any is_ended cs ≡ false → zip_length false (extents cs) ≡ 1
one_length cs all h = ap (least_or 1) (none_move cs all h)

-- the causes of all are those of the row
cell_here : (c : Column) (x : Cell) → IsCell c x → cell_in_row false 0 c ≡ x
cell_here c x k = by (broadcasts false (extent_of c))
  where
    by : (b : Bool) → get_or c.cells (cond b 0 0) (value val.Null) ≡ x
    by true = ap (λ (cells : List Cell). get_or cells 0 (value val.Null)) k.cells
    by false = ap (λ (cells : List Cell). get_or cells 0 (value val.Null)) k.cells

no_more : (xs : List Cause) (c : Cause) → Has (xs ++ []) c → Has xs c
no_more xs c h = subst (λ (ys : List Cause). Has ys c) (append-nil xs) h

cell_shows : (x : Column) (y : Cell) → IsCell x y → (c : Cause) → Has (column_causes x) c → Has (cell_causes y) c
cell_shows x y k c h = no_more (cell_causes y) c (no_more (cell_causes y ++ []) c (subst (λ (cs : List Cause). Has cs c) (λ j. flat_map cell_causes (k.cells j) ++ k.broken j) h))

row_shows : (cs : List Column) → AreSingle cs → list_any is_ended cs ≡ false → (c : Cause) → Has (flat_map column_causes cs) c → Has (row_causes (map (cell_in_row false 0) cs)) c
row_shows [] all h c k = k
row_shows (x ∷ xs) all h c k =
    let p = neither (is_ended x) (list_any is_ended xs) h in
    by p.0 (λ k. row_shows xs all.1 p.1 c k) all.0 (has_either (column_causes x) (flat_map column_causes xs) c k)
  where
    here : List Cause
    here = cell_causes (cell_in_row false 0 x)

    later : List Cause
    later = row_causes (map (cell_in_row false 0) xs)

    by : is_ended x ≡ false → (Has (flat_map column_causes xs) c → Has later c) → IsSingle x → Has (column_causes x) c ⊎ Has (flat_map column_causes xs) c → Has (here ++ later) c
    by whole rest (inl (y, i)) (inl k) = has_first here later c (subst (λ (y : Cell). Has (cell_causes y) c) (sym (cell_here x y i)) (cell_shows x y i c k))
    by whole rest (inr n) (inl k) = let w : true ≡ false = sym n.ended ∙ whole in cc
    by whole rest s (inr k) = has_last here later c (rest k)

pub faulty_shows : (xs : List Cause) (y : Cell) (c : Cause) → Has xs c → Has (cell_causes (faulty_or xs y)) c
faulty_shows [] y c h = absurd h
faulty_shows (x ∷ xs) y c h = h

-- An operator over such columns gives such a column, which shows all that they show.
module _ (at : ℕ) (f : List Value → Cell) where
  pub single_again : (cs : List Column) → AreSingle cs → IsSingle (cellwise at f cs)
  single_again cs all = by (list_any is_ended cs) refl
    where
      cells_by : (n : ℕ) → zip_length false (extents cs) ≡ n → (cellwise at f cs).cells ≡ map (cell_of_row f) (zip_rows false n cs)
      cells_by n q = ap (λ n. map (cell_of_row f) (zip_rows false n cs)) q

      broken_by : (b : Bool) → list_any is_ended cs ≡ b → (cellwise at f cs).broken ≡ cond (b || false) (zip_causes false at cs) []
      broken_by b q = λ i. cond (q i || single_fit cs all i) (zip_causes false at cs) []

      by : (b : Bool) → list_any is_ended cs ≡ b → IsSingle (cellwise at f cs)
      by true q = inr (record { cells = cells_by 0 (no_length cs all q); ended = ap (λ (xs : List Cause). not (is_empty xs)) (broken_by true q) ∙ nonempty (zip_causes false at cs) (λ e. causes-nonempty cs q (append-empty_left (flat_map column_causes cs) _ e)) })
      by false q = inl (cell_of_row f (map (cell_in_row false 0) cs), record { cells = cells_by 1 (one_length cs all q); broken = broken_by false q })

  pub single_shows : (cs : List Column) → AreSingle cs → (c : Cause) → Has (flat_map column_causes cs) c → Has (column_causes (cellwise at f cs)) c
  single_shows cs all c k = by (list_any is_ended cs) refl
    where
      by : (b : Bool) → list_any is_ended cs ≡ b → Has (column_causes (cellwise at f cs)) c
      by true q =
          let k' = has_first (flat_map column_causes cs) _ c k in
          has_last (flat_map cell_causes (cellwise at f cs).cells) (cellwise at f cs).broken c (subst (λ (b : Bool). Has (cond (b || breaks_shape false (extents cs)) (zip_causes false at cs) []) c) (sym q) k')
      by false q =
          let row = map (cell_in_row false 0) cs in
          let h = faulty_shows (row_causes row) _ c (row_shows cs all q c k) in
          has_first (flat_map cell_causes (cellwise at f cs).cells) (cellwise at f cs).broken c
          (subst (λ (n : ℕ). Has (flat_map cell_causes (map (cell_of_row f) (zip_rows false n cs))) c) (sym (one_length cs all q)) (has_first (cell_causes (cell_of_row f row)) [] c h))

  pub operator_lost : (cs : List Column) (c : Cause) → Has (flat_map (λ (x : Column). x.lost) cs) c → Has (cellwise at f cs).lost c
  operator_lost cs c k = has_first (flat_map (λ (x : Column). x.lost) cs) _ c k
