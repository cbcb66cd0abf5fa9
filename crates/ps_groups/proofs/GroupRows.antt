-- The rows of groups that are kept as columns.
use Rattle.std.proofs.Common.{◌≡◌, ℕ, zero, suc, ◌<◌, List, [], ◌∷◌, ◌++◌, length, get_or, map, drop, refl, sym, ap, subst, ◌∙◌, arith}
use Rattle.std.specs.Prelude.{Contains, flat_map, if◌then◌else◌}
use Rattle.std.specs.List.{All, AllZip}
use Rattle.std.proofs.lemmas.List.{get_or-map, length-map, map-append}
use Rattle.std.proofs.lemmas.List.Elements.{Contains-append_left, Contains-append_right}
use Rattle.std.proofs.lemmas.Option.{get_or_from_slice_get}
use Rattle.ps_frame.specs.Causes.{Cause, Column, column_causes, is_empty}
use Rattle.ps_frame.specs.Eval.{eval}
use Rattle.ps_frame.specs.Frames.{AllOfHeight, column_values}
use Rattle.ps_frame.specs.Gathered.{gathered}
use Rattle.ps_frame.specs.Tables.{Fields, Frame, rows_of, whole}
use Rattle.ps_frame.specs.Trees.{Tree}
use Rattle.ps_frame.specs.Series.{Series}
use Rattle.ps_frame.specs.Zip.{below}
use Rattle.ps_frame.specs.declared.value.DataFault.{DataFault}
use Rattle.ps_frame.specs.declared.value.Value.{Value}
use Rattle.ps_frame.specs.declared.value.Value.TheVariants as val
use Rattle.ps_meaning.proofs.Fits.{all-append, all-of}
use Rattle.ps_meaning.specs.Groups.{Group, group_columns, group_of, groups, keys_of, only_value, rows_before_faulty}
use Rattle.ps_keys.specs.Hashes.{row_at}
use Rattle.ps_keys.specs.Numbering.{Numbers}
use Rattle.ps_keys.specs.declared.numbering.Numbering.{Numbering}
use Rattle.ps_keys.proofs.FirstRows.{length-below, row-below}
use Rattle.ps_keys.proofs.KeptRows.{map-places}
use Rattle.ps_keys.proofs.Numberings.{distinct-length, first-like, firsts-below}
use Rattle.ps_keys.proofs.RowValues.{map-map, rows_of-is}
use Rattle.ps_groups.specs.Grouped.{IsAggregate, IsFaultOfAny, IsFaultOfGroups, all_causes, key_frame, key_frames}

-- a list that is made of lists has what one of them has
contains-flat : {A B : Type 0} (g : A → List B) (xs : List A) (i : ℕ) (d : A) (b : B) → i < length xs → Contains (g (get_or xs i d)) b → Contains (flat_map g xs) b
contains-flat g [] i d b within h = absurd (omega arith)
contains-flat g (x ∷ xs) zero d b within h = Contains-append_left (g x) (flat_map g xs) b h
contains-flat g (x ∷ xs) (suc i) d b within h = Contains-append_right (g x) (flat_map g xs) b (contains-flat g xs i d b (omega arith) h)

-- nothing is made of items of which each makes nothing
flat-none : {A B : Type 0} (g : A → List B) (xs : List A) → All (λ x. g x ≡ []) xs → flat_map g xs ≡ []
flat-none g [] none = refl
flat-none g (x ∷ xs) none = ap (λ ys. ys ++ flat_map g xs) (none 0 x (omega arith)) ∙ flat-none g xs (λ i d within. none (suc i) d (omega arith))

-- groups without causes
both-none : {A : Type 0} (xs ys : List A) → xs ++ ys ≡ [] → (xs ≡ []) × (ys ≡ [])
both-none [] ys e = (refl, e)
both-none (x ∷ xs) ys e = cc

pub clean-groups : (gs : List Group) → all_causes gs ≡ [] → rows_before_faulty gs ≡ map (λ g. g.cells) gs
clean-groups [] e = refl
clean-groups (g ∷ gs) e =
    let both = both-none g.causes (all_causes gs) e in
    ap (λ cs. if is_empty cs then g.cells ∷ rows_before_faulty gs else []) both.0
    ∙ ap (λ rows. g.cells ∷ rows) (clean-groups gs both.1)

-- the key columns at some rows
row-gathered : (places : List ℕ) (k : ℕ) (cs : List Series) → k < length places → row_at (map (gathered places) cs) k ≡ row_at cs (get_or places k 0)
row-gathered places k [] within = refl
row-gathered places k (c ∷ cs) within =
    ap (λ v. v ∷ row_at (map (gathered places) cs) k) (get_or-map (λ i. get_or c.values i val.Null) places k 0 val.Null within)
    ∙ ap (λ vs. get_or c.values (get_or places k 0) val.Null ∷ vs) (row-gathered places k cs within)

module _ (at : ℕ) (s : Fields) (rows : List (List Value)) (trees : List Tree) where
  abbrev keys : List (List Value)
  keys = keys_of (length s) rows

  length-frames : length (key_frames s rows) ≡ length keys
  length-frames = length-map keys (key_frame s rows)

  frame-at : (k : ℕ) (d : Frame) → k < length keys → get_or (key_frames s rows) k d ≡ key_frame s rows (get_or keys k [])
  frame-at k d within = get_or-map (key_frame s rows) keys k [] d within

  -- the values of aggregates at a group
  values-at : (ts : List Tree) (vs : List Series) (k : ℕ) → k < length keys → AllZip (IsAggregate at (key_frames s rows)) ts vs → row_at vs k ≡ map only_value (group_columns at ts s rows (get_or keys k []))
  values-at [] [] k within are = refl
  values-at [] (v ∷ vs) k within are = absurd are
  values-at (t ∷ ts) [] k within are = absurd are
  values-at (t ∷ ts) (v ∷ vs) k within are =
      let none : Frame = record { schema = []; rows = [] } in
      let first : get_or v.values k val.Null ≡ only_value (eval at (whole (key_frame s rows (get_or keys k []))) t) =
      ap (λ ws. get_or ws k val.Null) are.0.values
      ∙ get_or-map (λ f. only_value (eval at (whole f) t)) (key_frames s rows) k none val.Null (omega (arith, length-frames))
      ∙ ap (λ f. only_value (eval at (whole f) t)) (frame-at k none within) in
      ap (λ w. w ∷ row_at vs k) first
      ∙ ap (λ ws. only_value (eval at (whole (key_frame s rows (get_or keys k []))) t) ∷ ws) (values-at ts vs k within are.1)

  -- they have no causes
  clean-at : (ts : List Tree) (vs : List Series) (k : ℕ) → k < length keys → AllZip (IsAggregate at (key_frames s rows)) ts vs → flat_map column_causes (group_columns at ts s rows (get_or keys k [])) ≡ []
  clean-at [] [] k within are = refl
  clean-at [] (v ∷ vs) k within are = absurd are
  clean-at (t ∷ ts) [] k within are = absurd are
  clean-at (t ∷ ts) (v ∷ vs) k within are =
      let none : Frame = record { schema = []; rows = [] } in
      let first : column_causes (eval at (whole (key_frame s rows (get_or keys k []))) t) ≡ [] =
      ap (λ f. column_causes (eval at (whole f) t)) (sym (frame-at k none within)) ∙ are.0.clean k none (omega (arith, length-frames)) in
      ap (λ cs. cs ++ flat_map column_causes (group_columns at ts s rows (get_or keys k []))) first ∙ clean-at ts vs k within are.1

  pub no-causes : (vs : List Series) → AllZip (IsAggregate at (key_frames s rows)) trees vs → all_causes (groups at trees s rows) ≡ []
  no-causes vs are = flat-none (λ (g : Group). g.causes) (groups at trees s rows) (λ k d within.
      let count : k < length keys = omega (arith, length-map keys (group_of at trees s rows)) in
      ap (λ (g : Group). g.causes) (get_or-map (group_of at trees s rows) keys k [] d count) ∙ clean-at trees vs k count are)

  -- a fault over the table of a key is one of its group
  pub fault-of-groups : (e : DataFault) → IsFaultOfAny at (key_frames s rows) trees e → IsFaultOfGroups at (groups at trees s rows) e
  fault-of-groups e (j, t, in_trees, is_tree, (k, f, in_frames, is_frame, faulty)) =
      let c : Cause = record { fault = e; node = at } in
      let count : k < length keys = omega (arith, length-frames) in
      let frame : f ≡ key_frame s rows (get_or keys k []) = sym is_frame ∙ frame-at k f count in
      let here : Contains (column_causes (eval at (whole (key_frame s rows (get_or keys k []))) t)) c = subst (λ g. Contains (column_causes (eval at (whole g) t)) c) frame faulty in
      let cs = group_columns at trees s rows (get_or keys k []) in
      let h : Tree → Column = λ u. eval at (whole (key_frame s rows (get_or keys k []))) u in
      let column : get_or cs j (h t) ≡ h t = get_or-map h trees j t (h t) in_trees ∙ ap h is_tree in
      let in_group : Contains (flat_map column_causes cs) c =
      contains-flat column_causes cs j (h t) c (omega (arith, length-map trees h)) (subst (λ x. Contains (column_causes x) c) (sym column) here) in
      let g = group_of at trees s rows in
      contains-flat (λ (g : Group). g.causes) (groups at trees s rows) k (g []) c (omega (arith, length-map keys g))
      (subst (λ (x : Group). Contains x.causes c) (sym (get_or-map g keys k [] (g []) count)) in_group)

  module _ (n : Numbering) (of : Numbers (map (drop (length s)) rows) n) (h : ℕ) (cs vs : List Series) (heights : AllOfHeight h cs) (behind : rows_of h (column_values cs) ≡ map (drop (length s)) rows)
      (are : AllZip (IsAggregate at (key_frames s rows)) trees vs) where
    abbrev count : ℕ
    count = length n.firsts.items

    as-many : length keys ≡ count
    as-many = distinct-length (map (drop (length s)) rows) n of

    values-heights : (ts : List Tree) (ws : List Series) → AllZip (IsAggregate at (key_frames s rows)) ts ws → AllOfHeight count ws
    values-heights [] [] are = tt
    values-heights [] (w ∷ ws) are = absurd are
    values-heights (t ∷ ts) [] are = absurd are
    values-heights (t ∷ ts) (w ∷ ws) are =
        (ap length are.0.values ∙ length-map (key_frames s rows) (λ f. only_value (eval at (whole f) t)) ∙ length-frames ∙ as-many, values-heights ts ws are.1)

    pub group-heights : AllOfHeight count (map (gathered n.firsts.items) cs ++ vs)
    group-heights =
        all-append (λ (c : Series). length c.values ≡ count) (map (gathered n.firsts.items) cs) vs
        (all-of (λ (c : Series). length c.values ≡ count) (gathered n.firsts.items) (λ c. length-map n.firsts.items (λ i. get_or c.values i val.Null)) cs)
        (values-heights trees vs are)

    -- a key's first row has its values
    key-row : (k : ℕ) → k < count → row_at cs (get_or n.firsts.items k 0) ≡ get_or keys k []
    key-row k within =
        let i = get_or n.firsts.items k 0 in
        let all = map (drop (length s)) rows in
        let long : length all ≡ h = ap length (sym behind ∙ rows_of-is h cs heights) ∙ length-map (below h) (row_at cs) ∙ length-below h in
        sym (row-below (row_at cs) h i (omega (arith, firsts-below all n of k within)))
        ∙ ap (λ rs. get_or rs i []) (sym (rows_of-is h cs heights) ∙ behind)
        ∙ sym (get_or_from_slice_get keys k (get_or all i []) [] (first-like all n of k within))

    pub group-rows : rows_of count (column_values (map (gathered n.firsts.items) cs ++ vs)) ≡ map (λ (g : Group). g.cells) (groups at trees s rows)
    group-rows =
        let ks = map (gathered n.firsts.items) cs in
        let cells : List Value → List Value = λ key. key ++ map only_value (group_columns at trees s rows key) in
        rows_of-is count (ks ++ vs) group-heights
        ∙ ap (λ m. map (row_at (ks ++ vs)) (below m)) (sym as-many)
        ∙ map-places cells keys [] (row_at (ks ++ vs)) (λ k within.
        map-append (λ (c : Series). get_or c.values k val.Null) ks vs
        ∙ ap (λ r. r ++ row_at vs k) (row-gathered n.firsts.items k cs (omega (arith, as-many)) ∙ key-row k (omega (arith, as-many)))
        ∙ ap (λ ws. get_or keys k [] ++ ws) (values-at trees vs k within are))
        ∙ sym (map-map (λ (g : Group). g.cells) (group_of at trees s rows) keys)
