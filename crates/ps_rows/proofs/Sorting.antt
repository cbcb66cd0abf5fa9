-- A sort's table and faults.
use Rattle.std.proofs.Common.{◌≡◌, ℕ, zero, suc, ◌<◌, ◌≤◌, List, [], ◌∷◌, ◌++◌, length, take, drop, get_or, Bool, true, false, refl, sym, subst, ◌∙◌, ap, inl, inr, arith}
use Rattle.std.specs.Prelude.{Contains, map, Some, if◌then◌else◌}
use Rattle.std.specs.List.{All, AllByRecursion, range_with_len}
use Rattle.std.proofs.lemmas.List.{length-map}
use Rattle.ps_compute.specs.Rows.{beside_keys, key_row, numbered}
use Rattle.ps_expr_eval.proofs.KeptRows.{length-below}
use Rattle.ps_expr_eval.proofs.Zips.{map-map}
use Rattle.ps_frame.specs.Causes.{Cause}
use Rattle.ps_frame.specs.Frames.{AllOfHeight, all_beside, column_values}
use Rattle.ps_frame.specs.Functions.{Functions}
use Rattle.ps_frame.specs.Sorting.{Direction, directions_of, in_order, in_order_of_keys, insert_in_order}
use Rattle.ps_frame.specs.Tables.{Fields, Frame, Table, rows_of, whole}
use Rattle.ps_frame.specs.Trees.{Tree}
use Rattle.ps_frame.specs.Series.{Series}
use Rattle.ps_frame.specs.Typing.{kind_over}
use Rattle.ps_frame.specs.Zip.{below}
use Rattle.ps_frame.specs.declared.refusal.PolarsError.{PolarsError}
use Rattle.ps_frame.specs.declared.value.Value.{Value}
use Rattle.ps_meaning.proofs.Fits.{all-append, all-in_order, all-map}
use Rattle.ps_meaning.specs.Cases.{IsCaseBrokenBy, cut_by, if_whole, keyed, sorted_rows, table_of, width}
use Rattle.ps_meaning.specs.Nodes.{GivesFrame, MayFault}
use Rattle.ps_meaning.specs.Steps.{Cut, SortStep, key_trees, sort_step}
use Rattle.ps_meaning.specs.declared.options.ExprIR.{ExprIR}
use Rattle.ps_meaning.specs.declared.options.SortMultipleOptions.{SortMultipleOptions}
use Rattle.pu_base.specs.declared.arena.Node.{Node}
use Rattle.ps_rows.proofs.Rows.{all-at, all-places, below-range, beside-each, drop-front, map-below, rows-at, take-front}
use Rattle.ps_rows.proofs.Steps.{may-fault, table}
use Rattle.ps_rows.specs.Keyed.{IsTableWithKeys}
use Rattle.ps_zip.specs.Zips.{IsZipError, expr_kinds}

-- each row of the table beside its keys
abbrev split : ℕ → List Value → List Value × List Value
split w row = (drop w row, take w row)

pub split-rows : (w : ℕ) (rows : List (List Value)) (keys : List Series) → AllByRecursion (λ row. length row ≡ w) rows → AllOfHeight (length rows) keys
    → map (λ row. (drop w row, take w row)) (all_beside rows (rows_of (length rows) (column_values keys))) ≡ beside_keys keys (λ i. get_or rows i []) (length rows)
split-rows w rows keys wide high =
    let item : ℕ → List Value = λ i. get_or rows i [] in
    let these = all-places [] rows (length rows) refl in
    let those = rows-at (length rows) keys high in
    ap (map (split w)) ((λ i. all_beside (these i) (those i)) ∙ beside-each item (key_row keys) (below (length rows)))
    ∙ map-map (split w) (λ i. item i ++ key_row keys i) (below (length rows))
    ∙ map-below (length rows) (λ i. split w (item i ++ key_row keys i)) (λ i. (key_row keys i, item i))
    (λ i h. let e = all-at (λ row. length row ≡ w) rows i [] h wide in λ j. (drop-front (item i) (key_row keys i) w e j, take-front (item i) (key_row keys i) w e j))
    ∙ ap (map (λ i. (key_row keys i, item i))) (below-range (length rows))

-- the places of rows in an order are those below their number, as many
all-below : (n : ℕ) → AllByRecursion (λ i. i < n) (below n)
all-below n = up-to n (omega arith)
  where
    up-to : (m : ℕ) → m ≤ n → AllByRecursion (λ i. i < n) (below m)
    up-to zero h = tt
    up-to (suc m) h = all-append (λ i. i < n) (below m) (m ∷ []) (up-to m (omega arith)) (omega arith, tt)

pub order-places : (ds : List Direction) (keys : List Series) (n : ℕ) → All (λ i. i < n) (in_order_of_keys ds (numbered keys n))
order-places ds keys n = λ k d h. all-at (λ i. i < n) (in_order_of_keys ds (numbered keys n)) k d h all
  where
    items : AllByRecursion (λ (p : List Value × ℕ). p.1 < n) (numbered keys n)
    items = all-map (λ i. i < n) (λ (p : List Value × ℕ). p.1 < n) (λ i. (key_row keys i, i)) (λ i l. l) (range_with_len 0 n) (subst (AllByRecursion (λ i. i < n)) (below-range n) (all-below n))

    all : AllByRecursion (λ i. i < n) (in_order_of_keys ds (numbered keys n))
    all = all-map (λ (p : List Value × ℕ). p.1 < n) (λ i. i < n) (λ p. p.1) (λ p l. l) _ (all-in_order (λ (p : List Value × ℕ). p.1 < n) _ (numbered keys n) items)

module _ {A : Type 0} (less : A → A → Bool) where
  length-insert : (x : A) (ys : List A) → length (insert_in_order less x ys) ≡ suc (length ys)
  length-insert x [] = refl
  length-insert x (y ∷ ys) = by (less y x) (length-insert x ys)
    where
      by : (b : Bool) → length (insert_in_order less x ys) ≡ suc (length ys) → length (if b then y ∷ insert_in_order less x ys else x ∷ y ∷ ys) ≡ suc (suc (length ys))
      by true e = ap suc e
      by false e = refl

  length-order : (xs : List A) → length (in_order less xs) ≡ length xs
  length-order [] = refl
  length-order (x ∷ xs) = length-insert x (in_order less xs) ∙ ap suc (length-order xs)

pub order-length : (ds : List Direction) (keys : List Series) (n : ℕ) → length (in_order_of_keys ds (numbered keys n)) ≡ n
order-length ds keys n =
    length-map _ (λ (p : List Value × ℕ). p.1) ∙ length-order _ (numbered keys n) ∙ length-map (range_with_len 0 n) (λ i. (key_row keys i, i)) ∙ ap length (sym (below-range n)) ∙ length-below n

-- causes of a zip break what needs it whole
if-whole-broken : (s : Fields) (xs : List Cause) (T : Table) (c : Cause) → Contains xs c → Contains (if_whole s xs T).broken c
if-whole-broken s [] T c m = absurd (let l = m.1 in omega arith)
if-whole-broken s (x ∷ xs) T c m = m

module _ (f : Node → Tree) (at : ℕ) (by : List ExprIR) (slice : Cut) (options : SortMultipleOptions) (t : Frame) where
  keys-count : (keys : List Series) → map (λ (c : Series). Some c.kind) keys ≡ expr_kinds t.schema (key_trees f by) → length keys ≡ length (key_trees f by)
  keys-count keys e = sym (length-map keys (λ (c : Series). Some c.kind)) ∙ ap length e ∙ length-map (key_trees f by) (kind_over t.schema)

  pub sort-gives : (F : Functions) (m sorted g : Frame) (keys : List Series) → IsTableWithKeys (keyed at (key_trees f by) (whole t)) t.schema (expr_kinds t.schema (key_trees f by)) m keys → sorted.schema ≡ m.schema
      → sorted.rows ≡ in_order_of_keys (directions_of (length keys) options.descending options.nulls_last) (beside_keys keys (λ i. get_or m.rows i []) (length m.rows)) → whole g ≡ cut_by slice (whole sorted)
      → GivesFrame F at (sort_step f by slice options) (t ∷ []) g
  sort-gives F m sorted g keys h schema rows part =
      let z = keyed at (key_trees f by) (whole t) in
      let w = length t.schema in
      let o : SortStep = record { keys = key_trees f by; descending = options.descending; nulls_last = options.nulls_last; cut = slice } in
      let items : map (λ row. (drop w row, take w row)) z.rows ≡ beside_keys keys (λ i. get_or m.rows i []) (length m.rows) = ap (map (λ row. (drop w row, take w row))) h.rows ∙ split-rows w m.rows keys h.widths h.heights in
      let rows_are : sorted.rows ≡ sorted_rows o w z.rows =
      rows ∙ ap (λ n. in_order_of_keys (directions_of n options.descending options.nulls_last) (beside_keys keys (λ i. get_or m.rows i []) (length m.rows))) (keys-count keys h.kinds_are)
      ∙ ap (in_order_of_keys (directions_of (length (key_trees f by)) options.descending options.nulls_last)) (sym items) in
      let schema_is = schema ∙ h.schema_is in
      let whole_table : whole sorted ≡ table_of t.schema (sorted_rows o w) z = λ i. table (schema_is i) (rows_are i) (sym h.whole_is i) in
      (whole sorted, inl (whole_table ∙ sym (ap (λ (b : List Cause). if_whole t.schema b (table_of t.schema (sorted_rows o w) z)) h.whole_is)), part)

  pub sort-faults : (F : Functions) (e : PolarsError) → IsZipError at (key_trees f by) (whole t) (keyed at (key_trees f by) (whole t)) e → MayFault F at (sort_step f by slice options) (t ∷ []) e
  sort-faults F e h = may-fault F at (sort_step f by slice options) (t ∷ []) (key_trees f by) (whole t) (keyed at (key_trees f by) (whole t)) broken (λ l. l) e h
    where
      broken : (c : Cause) → Contains (keyed at (key_trees f by) (whole t)).broken c → IsCaseBrokenBy F at (sort_step f by slice options) (whole t ∷ []) c
      broken c m =
          let z = keyed at (key_trees f by) (whole t) in
          let o : SortStep = record { keys = key_trees f by; descending = options.descending; nulls_last = options.nulls_last; cut = slice } in
          let T = table_of t.schema (sorted_rows o (width (whole t))) z in
          (if_whole t.schema z.broken T, inr (inl refl), if-whole-broken t.schema z.broken T c m)
