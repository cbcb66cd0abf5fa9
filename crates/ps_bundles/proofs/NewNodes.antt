-- Nodes that a call makes: the tables that they mean, and the causes that break these.
use Rattle.std.proofs.Common.{◌≡◌, ◌⊎◌, inl, inr, ℕ, ◌≤◌, ◌<◌, Bool, true, false, not, cond, List, [], ◌∷◌, ◌++◌, length, get_or, Some, refl, sym, ap, subst, ◌∙◌, arith, length-append}
use Rattle.std.specs.Prelude.{filter, flat_map, map, slice_get, ◌==◌, ◌&&◌, ◌||◌}
use Rattle.std.specs.List.{AllByRecursion, list_any}
use Rattle.std.proofs.lemmas.Bool.{cases_lt}
use Rattle.std.proofs.lemmas.List.{length-map}
use Rattle.ps_frame.specs.Causes.{Cause, Cell, Column, value, cell_causes, column_causes, is_empty, is_ended}
use Rattle.ps_frame.specs.Eval.{cellwise}
use Rattle.ps_frame.specs.Functions.{Functions}
use Rattle.ps_frame.specs.Tables.{Table, values_at}
use Rattle.ps_frame.specs.Zip.{Extent, Zipped, all_same, breaks_shape, ended_lengths, ends_early, extents, is_faulty_row, open_lengths, outgrows, zip_causes, zip_length, zip_rows, zipped}
use Rattle.ps_frame.specs.declared.value.DataFault.TheVariants as data_fault
use Rattle.ps_frame.specs.declared.value.Value.{Value}
use Rattle.ps_frame.specs.declared.value.Value.TheVariants as val
use Rattle.ps_meaning.specs.Cases.{GivesBeforeCut, columns_at, cut_by, if_whole, keyed, sorted_rows, table_of, width}
use Rattle.ps_meaning.specs.Shape.{IsPhysicalChoice, PhysicalBefore, PhysicalMayGive, PhysicalNode, Shape, as_step, cut_of, input_tables, narrowed, tables_for}
use Rattle.ps_meaning.specs.Steps.{Name, Named, SortStep, exprs_of, filter as filter_step, project, select, sort}
use Rattle.ps_frame.specs.Trees.{Tree}
use Rattle.ps_shares.specs.Kept.{all_causes}
use Rattle.ps_shares.proofs.Adding.{Adds}
use Rattle.ps_shares.proofs.Causes.{Known, all_append, all_left, all_right, down_operator, down_zip, up_all_lost}
use Rattle.ps_shares.proofs.ClearZips.{no_causes}
use Rattle.ps_shares.proofs.Ends.{kept_there, last_there}
use Rattle.ps_shares.proofs.FlatEnds.{ends_whole}
use Rattle.ps_shares.proofs.FlatLength.{neither, none_outgrow}
use Rattle.ps_shares.proofs.Leaves.{append_assoc}
use Rattle.ps_shares.proofs.Members.{Has, are_same}
use Rattle.ps_shares.proofs.Stepped.{those_at}
use Rattle.ps_shares.proofs.ZipShares.{table_extent}
use Rattle.ps_bundles.proofs.ZipEnds.{differ}

-- all of these causes are among those
abbrev pub AllOf : List Cause → List Cause → Type 0
AllOf causes xs = AllByRecursion (λ (c : Cause). Has causes c) xs

-- all causes of a column are
abbrev pub KnownOf : List Cause → Column → Type 0
KnownOf causes c = Known (λ (c : Cause). Has causes c) c

abbrev pub shape_at : ℕ → Cause
shape_at at = record { fault = data_fault.Shape; node = at }

-- all causes of some columns are, and Shape is where their lengths can't agree
abbrev pub Covers : ℕ → List Cause → List Column → Type 0
Covers at causes cs = AllByRecursion (KnownOf causes) cs × (breaks_shape false (extents cs) ≡ true → Has causes (shape_at at))

module _ (at : ℕ) (causes : List Cause) where
  all_if : (b : Bool) (xs : List Cause) → AllOf causes xs → AllOf causes (cond b xs [])
  all_if true xs h = h
  all_if false xs h = tt

  columns_of_known : (cs : List Column) → AllByRecursion (KnownOf causes) cs → AllOf causes (flat_map column_causes cs)
  columns_of_known [] h = tt
  columns_of_known (c ∷ cs) h =
      all_append (λ (c : Cause). Has causes c) (column_causes c) (flat_map column_causes cs) (all_append (λ (c : Cause). Has causes c) (flat_map cell_causes c.cells) c.broken h.0.0 h.0.1) (columns_of_known cs h.1)

  shape_if : (cs : List Column) → (breaks_shape false (extents cs) ≡ true → Has causes (shape_at at)) → AllOf causes (cond {A = List Cause} (breaks_shape false (extents cs)) (shape_at at ∷ []) [])
  shape_if cs h = by (breaks_shape false (extents cs)) refl
    where
      by : (b : Bool) → breaks_shape false (extents cs) ≡ b → AllOf causes (cond {A = List Cause} b (shape_at at ∷ []) [])
      by true q = (h q, tt)
      by false q = tt

  covered_causes : (cs : List Column) → Covers at causes cs → AllOf causes (zip_causes false at cs)
  covered_causes cs h = all_append (λ (c : Cause). Has causes c) (flat_map column_causes cs) _ (columns_of_known cs h.0) (shape_if cs h.1)

  -- what a zip of covered columns shows
  pub covers_zip : (cs : List Column) → Covers at causes cs → AllOf causes (all_causes (zipped false at cs))
  covers_zip cs h =
      all_append (λ (c : Cause). Has causes c) (zipped false at cs).broken (zipped false at cs).lost
      (all_if (ends_early false cs || list_any is_faulty_row (zip_rows false (zip_length false (extents cs)) cs)) (zip_causes false at cs) (covered_causes cs h))
      (up_all_lost (λ (c : Cause). Has causes c) at cs h.0)

  in_or : (a b : Bool) → b ≡ true → (a || b) ≡ true
  in_or true b h = refl
  in_or false b h = h

  shape_in : (cs : List Column) (all : Bool) → all ≡ true → AllOf causes (cond all (zip_causes false at cs) []) → breaks_shape false (extents cs) ≡ true → Has causes (shape_at at)
  shape_in cs all e h q =
      let k = subst (λ b. AllOf causes (cond b (zip_causes false at cs) [])) e h in
      (subst (λ b. AllOf causes (cond {A = List Cause} b (shape_at at ∷ []) [])) q (all_right (λ (c : Cause). Has causes c) (flat_map column_causes cs) _ k)).0

  -- what a zip shows covers its columns, and so does what an operator shows
  pub zip_covers : (cs : List Column) → AllOf causes (all_causes (zipped false at cs)) → Covers at causes cs
  zip_covers cs h = (
    down_zip (λ (c : Cause). Has causes c) at cs h,
    (λ q.
        let e : ends_early false cs ≡ true = in_or (list_any is_ended cs) (breaks_shape false (extents cs)) q in
        shape_in cs (ends_early false cs || list_any is_faulty_row (zip_rows false (zip_length false (extents cs)) cs)) (ap (λ b. b || list_any is_faulty_row (zip_rows false (zip_length false (extents cs)) cs)) e)
        (all_left (λ (c : Cause). Has causes c) (zipped false at cs).broken (zipped false at cs).lost h) q),
  )

  pub operator_covers : (f : List Value → Cell) (cs : List Column) → KnownOf causes (cellwise at f cs) → Covers at causes cs
  operator_covers f cs h = (
    down_operator (λ (c : Cause). Has causes c) at f cs h,
    (λ q. shape_in cs (ends_early false cs) (in_or (list_any is_ended cs) (breaks_shape false (extents cs)) q) h.1 q),
  )

-- columns of one table agree in their lengths
pub same_fit : (x : Extent) (es : List Extent) → AllByRecursion (λ e. e ≡ x) es → breaks_shape false es ≡ false
same_fit x es all = by x.ended refl
  where
    none_open : x.ended ≡ true → (es : List Extent) → AllByRecursion (λ e. e ≡ x) es → open_lengths es ≡ []
    none_open q [] all = refl
    none_open q (e ∷ es) all =
        ap (λ b. map (λ (e : Extent). e.len) (cond (not b && not (e.len == 1)) (e ∷ filter (λ e. not e.ended && not (e.len == 1)) es) (filter (λ e. not e.ended && not (e.len == 1)) es))) (ap (λ (e : Extent). e.ended) all.0 ∙ q)
        ∙ none_open q es all.1

    none_ended : x.ended ≡ false → (es : List Extent) → AllByRecursion (λ e. e ≡ x) es → list_any (λ (e : Extent). e.ended) es ≡ false
    none_ended q [] all = refl
    none_ended q (e ∷ es) all = let p = ap (λ (e : Extent). e.ended) all.0 ∙ q in let r = none_ended q es all.1 in λ i. p i || r i

    all_len : (es : List Extent) → AllByRecursion (λ e. e ≡ x) es → AllByRecursion (λ n. n ≡ x.len) (open_lengths es)
    all_len [] all = tt
    all_len (e ∷ es) all = pick (not e.ended && not (e.len == 1)) (all_len es all.1)
      where
        pick : (b : Bool) → AllByRecursion (λ n. n ≡ x.len) (open_lengths es)
            → AllByRecursion (λ n. n ≡ x.len) (map (λ (e : Extent). e.len) (cond b (e ∷ filter (λ e. not e.ended && not (e.len == 1)) es) (filter (λ e. not e.ended && not (e.len == 1)) es)))
        pick true h = (ap (λ (e : Extent). e.len) all.0, h)
        pick false h = h

    by : (b : Bool) → x.ended ≡ b → breaks_shape false es ≡ false
    by true q = ap (λ ns. not (all_same ns) || list_any (outgrows ns) (ended_lengths es)) (none_open q es all) ∙ none_outgrow (ended_lengths es)
    by false q =
        let n = none_ended q es all in
        let s = are_same (open_lengths es) x.len (all_len es all) in
        (neither (list_any (λ (e : Extent). e.ended) es) (breaks_shape false es) (ends_whole es n ∙ ap not s)).1

column_extent : (at : ℕ) (P : Table) (js : List ℕ) → AllByRecursion (λ e. e ≡ table_extent P) (extents (those_at at P js))
column_extent at P [] = tt
column_extent at P (j ∷ js) =
    let l = length-map (values_at j P.rows) value ∙ length-map P.rows (λ row. get_or row j val.Null) in
    ((λ i. record { ended = not (is_empty P.broken); len = l i }), column_extent at P js)

-- the causes of columns of a table are those that break it
pub table_covers : (at : ℕ) (causes : List Cause) (P : Table) (js : List ℕ) → AllOf causes P.broken → Covers at causes (those_at at P js)
table_covers at causes P js broken = (each js, (λ q. absurd (differ (sym q ∙ same_fit (table_extent P) (extents (those_at at P js)) (column_extent at P js)))))
  where
    each : (js : List ℕ) → AllByRecursion (KnownOf causes) (those_at at P js)
    each [] = tt
    each (j ∷ js) = ((subst (AllOf causes) (sym (no_causes (values_at j P.rows))) tt, broken, tt), each js)

-- causes that are among more
pub all_of_more : (causes more xs : List Cause) → AllOf more causes → AllOf causes xs → AllOf more xs
all_of_more causes more [] all h = tt
all_of_more causes more (x ∷ xs) all h = (one causes x all h.0, all_of_more causes more xs all h.1)
  where
    one : (ys : List Cause) (c : Cause) → AllOf more ys → Has ys c → Has more c
    one [] c h k = absurd k
    one (y ∷ ys) c h (inl e) = subst (Has more) e h.0
    one (y ∷ ys) c h (inr k) = one ys c h.1 k

module _ (F : Functions) (N : Shape) (tables : ℕ → Table) (choice : IsPhysicalChoice F N tables) where
  -- these nodes are the first of all
  abbrev pub Inside : Shape → Type 0
  Inside nodes = (more : Shape) × (nodes ++ more ≡ N)

  pub inside_before : (a b : Shape) → Adds a b → Inside b → Inside a
  inside_before a b g h = (g.0.0 ++ h.0, append_assoc a g.0.0 h.0 ∙ ap (λ xs. xs ++ h.0) (sym g.0.1) ∙ h.1)

  pub there : (nodes : Shape) (p : PhysicalNode) → Inside (nodes ++ p ∷ []) → slice_get N (length nodes) ≡ Some p
  there nodes p h = ap (λ xs. slice_get xs (length nodes)) (sym h.1) ∙ kept_there (nodes ++ p ∷ []) h.0 (length nodes) p (last_there nodes p)

  -- the causes of the nodes from some on
  abbrev pub New : List Cause → Shape → Shape → Type 0
  New causes a b = (n : ℕ) (U : Table) → length a ≤ n → n < length b → PhysicalMayGive F N tables n U → AllOf causes U.broken

  pub new_none : (causes : List Cause) (a : Shape) → New causes a a
  new_none causes a n U le lt may = absurd (omega arith)

  pub new_then : (causes : List Cause) (a b c : Shape) → New causes a b → New causes b c → New causes a c
  new_then causes a b c p q n U le lt may = by (cases_lt n (length b))
    where
      by : (n < length b) ⊎ (length b ≤ n) → AllOf causes U.broken
      by (inl h) = p n U le h may
      by (inr h) = q n U h lt may

  pub new_weaker : (causes more : List Cause) (a b : Shape) → AllOf more causes → New causes a b → New more a b
  new_weaker causes more a b all p n U le lt may = all_of_more causes more U.broken all (p n U le lt may)

  -- one node more, whose step has no slice
  pub new_one : (causes : List Cause) (nodes : Shape) (p : PhysicalNode) → Inside (nodes ++ p ∷ []) → ((U : Table) → narrowed F p (cut_by (cut_of F (as_step p.kind)) U) ≡ U)
      → ((U : Table) → PhysicalBefore F p (as_step p.kind) (tables_for F p.kind (input_tables F tables p)) U → AllOf causes U.broken) → New causes nodes (nodes ++ p ∷ [])
  new_one causes nodes p h uncut all n U le lt may =
      let l = length-append nodes (p ∷ []) in
      let e : n ≡ length nodes = omega arith in
      by may e
    where
      by : PhysicalMayGive F N tables n U → n ≡ length nodes → AllOf causes U.broken
      by (inl k) e =
          let own = choice (length nodes) p (there nodes p h) in
          subst (λ (T : Table). AllOf causes T.broken) (sym (own.2 ∙ uncut own.0) ∙ ap tables (sym e) ∙ k) (all own.0 own.1)
      by (inr (q, k, before)) e =
          let w : Some p ≡ Some q = sym (there nodes p h) ∙ ap (slice_get N) (sym e) ∙ k in
          let is : p ≡ q = cc in
          all U (subst (λ p. PhysicalBefore F p (as_step p.kind) (tables_for F p.kind (input_tables F tables p)) U) (sym is) before)

  -- the table of the last node
  pub last_broken : (causes : List Cause) (nodes : Shape) (p : PhysicalNode) → New causes nodes (nodes ++ p ∷ []) → AllOf causes (tables (length nodes)).broken
  last_broken causes nodes p h = let l = length-append nodes (p ∷ []) in h (length nodes) (tables (length nodes)) (omega arith) (omega arith) (inl refl)

  -- what a select gives shows no other causes than the zip of its expressions
  pub select_all : (causes : List Cause) (at : ℕ) (es : List Named) (T U : Table) → AllOf causes (all_causes (zipped false at (columns_at at (exprs_of es) T))) → GivesBeforeCut F at (select es) (T ∷ []) U → AllOf causes U.broken
  select_all causes at es T U all (inl g) = subst (λ (U : Table). AllOf causes U.broken) (sym g) (all_left (λ (c : Cause). Has causes c) (zipped false at (columns_at at (exprs_of es) T)).broken (zipped false at (columns_at at (exprs_of es) T)).lost all)
  select_all causes at es T U all (inr (V, g, some, u)) = subst (λ (U : Table). AllOf causes U.broken) (sym u) (all_right (λ (c : Cause). Has causes c) (zipped false at (columns_at at (exprs_of es) T)).broken (zipped false at (columns_at at (exprs_of es) T)).lost all)

  -- nor does a sort, or a filter, by columns of its input
  pub sort_all : (causes : List Cause) (at : ℕ) (o : SortStep) (js : List ℕ) (P U : Table) → keyed at o.keys P ≡ zipped false at (those_at at P js) → AllOf causes P.broken → GivesBeforeCut F at (sort o) (P ∷ []) U → AllOf causes U.broken
  sort_all causes at o js P U is broken (inl g) = subst (λ (U : Table). AllOf causes U.broken) (sym g) (by (keyed at o.keys P).broken all)
    where
      all : AllOf causes (keyed at o.keys P).broken
      all = subst (λ (z : Zipped). AllOf causes z.broken) (sym is) (all_left (λ (c : Cause). Has causes c) (zipped false at (those_at at P js)).broken (zipped false at (those_at at P js)).lost (covers_zip at causes (those_at at P js) (table_covers at causes P js broken)))

      by : (b : List Cause) → AllOf causes b → AllOf causes (if_whole P.schema b (table_of P.schema (sorted_rows o (width P)) (keyed at o.keys P))).broken
      by [] h = all
      by (x ∷ xs) h = h
  sort_all causes at o js P U is broken (inr (V, g, some, u)) =
      subst (λ (U : Table). AllOf causes U.broken) (sym u) (subst (λ (z : Zipped). AllOf causes z.lost) (sym is)
      (all_right (λ (c : Cause). Has causes c) (zipped false at (those_at at P js)).broken (zipped false at (those_at at P js)).lost (covers_zip at causes (those_at at P js) (table_covers at causes P js broken))))

  pub filter_all : (causes : List Cause) (at : ℕ) (e : Tree) (js : List ℕ) (P U : Table) → keyed at (e ∷ []) P ≡ zipped false at (those_at at P js) → AllOf causes P.broken → GivesBeforeCut F at (filter_step e) (P ∷ []) U → AllOf causes U.broken
  filter_all causes at e js P U is broken (inl g) =
      subst (λ (U : Table). AllOf causes U.broken) (sym g) (subst (λ (z : Zipped). AllOf causes z.broken) (sym is)
      (all_left (λ (c : Cause). Has causes c) (zipped false at (those_at at P js)).broken (zipped false at (those_at at P js)).lost (covers_zip at causes (those_at at P js) (table_covers at causes P js broken))))
  filter_all causes at e js P U is broken (inr (V, g, some, u)) =
      subst (λ (U : Table). AllOf causes U.broken) (sym u) (subst (λ (z : Zipped). AllOf causes z.lost) (sym is)
      (all_right (λ (c : Cause). Has causes c) (zipped false at (those_at at P js)).broken (zipped false at (those_at at P js)).lost (covers_zip at causes (those_at at P js) (table_covers at causes P js broken))))

  pub project_all : (causes : List Cause) (at : ℕ) (ns : List Name) (P U : Table) → AllOf causes P.broken → GivesBeforeCut F at (project ns) (P ∷ []) U → AllOf causes U.broken
  project_all causes at ns P U broken (inl g) = subst (λ (U : Table). AllOf causes U.broken) (sym g) broken
  project_all causes at ns P U broken (inr (V, g, some, u)) = absurd (some refl)
