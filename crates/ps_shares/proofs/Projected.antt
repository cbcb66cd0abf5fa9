-- Expressions over fewer columns of a table.
use Rattle.std.proofs.Common.{◌≡◌, ℕ, suc, ◌<◌, Bool, true, false, cond, List, [], ◌∷◌, ◌++◌, length, get_or, refl, sym, ap, subst, ◌∙◌}
use Rattle.std.specs.Prelude.{IsTrue, Option, Some, None, is_some, map, unwrap_or, ◌||◌}
use Rattle.std.specs.Cmp.Lexicographic.{bytes_decides}
use Rattle.std.specs.List.{list_any}
use Rattle.std.specs.Str.{bytes_eq}
use Rattle.std.proofs.lemmas.List.{get_or-map, length-map}
use Rattle.std.proofs.lemmas.List.Folds.{list_any-append}
use Rattle.std.proofs.lemmas.List.Quantifiers.{position-Some}
use Rattle.ps_frame.proofs.NamePlaces.{is_some-position}
use Rattle.ps_frame.specs.Causes.{value}
use Rattle.ps_frame.specs.Frames.{has_name}
use Rattle.ps_frame.specs.Parts.{is_column_of, tree_parts, trees_parts}
use Rattle.ps_frame.specs.Tables.{Fields, Table, field_index, field_kind, table_column, values_at, values_at_some}
use Rattle.ps_frame.specs.Trees.{Tree, Trees}
use Rattle.ps_frame.specs.declared.value.DataType.{DataType}
use Rattle.ps_frame.specs.declared.value.DataType.TheVariants as kind
use Rattle.ps_frame.specs.declared.value.Value.{Value}
use Rattle.ps_frame.specs.declared.value.Value.TheVariants as val
use Rattle.ps_meaning.specs.Cases.{projected}
use Rattle.ps_meaning.specs.Distinct.{picked, places_in}
use Rattle.ps_meaning.specs.Schemas.{is_among, names_of}
use Rattle.ps_meaning.specs.Steps.{Name}
use Rattle.ps_shares.specs.Leaves.{AllReadAll, IsSameIn, ReadsAll}
use Rattle.ps_shares.specs.CallLaws.{ReadsProjected}
use Rattle.ps_shares.proofs.Agreeing.{reads_the_same}

or_left : (a b : Bool) → a ≡ true → (a || b) ≡ true
or_left a b e = ap (λ c. c || b) e

or_right : (a b : Bool) → b ≡ true → (a || b) ≡ true
or_right true b e = refl
or_right false b e = e

-- what holds of each name that is read
module _ (P : Name → Type 0) where
  abbrev Reads : List Tree → Type 0
  Reads parts = (name : Name) → IsTrue (list_any (is_column_of name) parts) → P name

  first : (xs ys : List Tree) → Reads (xs ++ ys) → Reads xs
  first xs ys h name some = h name (list_any-append (is_column_of name) xs ys ∙ or_left _ _ some)

  second : (xs ys : List Tree) → Reads (xs ++ ys) → Reads ys
  second xs ys h name some = h name (list_any-append (is_column_of name) xs ys ∙ or_right _ _ some)

  mutual
    pub reads_all : (e : Tree) → Reads (tree_parts e) → ReadsAll P e
    reads_all (Tree.column name) h = h name (or_left (bytes_eq name name) false ((bytes_decides name name).1 refl))
    reads_all (Tree.literal l) h = tt
    reads_all (Tree.binary o l r) h = (reads_all l (first (tree_parts l) (tree_parts r) h), reads_all r (second (tree_parts l) (tree_parts r) h))
    reads_all (Tree.cast k strict e) h = reads_all e h
    reads_all (Tree.sort d n e) h = reads_all e h
    reads_all (Tree.sort_by d n e by) h = (reads_all e (first (tree_parts e) (trees_parts by) h), all_read_all by (second (tree_parts e) (trees_parts by) h))
    reads_all (Tree.gather s e i) h = (reads_all e (first (tree_parts e) (tree_parts i) h), reads_all i (second (tree_parts e) (tree_parts i) h))
    reads_all (Tree.filter e by) h = (reads_all e (first (tree_parts e) (tree_parts by) h), reads_all by (second (tree_parts e) (tree_parts by) h))
    reads_all (Tree.aggregate a e) h = reads_all e h
    reads_all (Tree.ternary p a b) h =
        let r = second (tree_parts p) (tree_parts a ++ tree_parts b) h in
        (reads_all p (first (tree_parts p) (tree_parts a ++ tree_parts b) h), reads_all a (first (tree_parts a) (tree_parts b) r), reads_all b (second (tree_parts a) (tree_parts b) r))
    reads_all (Tree.function g e) h = reads_all e h
    reads_all (Tree.slice e o l) h =
        let r = second (tree_parts e) (tree_parts o ++ tree_parts l) h in
        (reads_all e (first (tree_parts e) (tree_parts o ++ tree_parts l) h), reads_all o (first (tree_parts o) (tree_parts l) r), reads_all l (second (tree_parts o) (tree_parts l) r))
    reads_all Tree.len h = tt
    reads_all (Tree.left_out w) h = tt
    reads_all Tree.missing h = tt

    all_read_all : (es : Trees) → Reads (trees_parts es) → AllReadAll P es
    all_read_all Trees.no_trees h = tt
    all_read_all (Trees.tree e es) h = (reads_all e (first (tree_parts e) (trees_parts es) h), all_read_all es (second (tree_parts e) (trees_parts es) h))

-- names and fields
pub named_as : (name : Name) (s : Fields) → is_among name (names_of s) ≡ has_name name s
named_as name [] = refl
named_as name (f ∷ s) = ap (λ b. bytes_eq name f.0 || b) (named_as name s)

pub kind_as : (name : Name) (s : Fields) → is_some (field_kind name s) ≡ has_name name s
kind_as name [] = refl
kind_as name (f ∷ s) = by (bytes_eq name f.0) (kind_as name s)
  where
    by : (b : Bool) → is_some (field_kind name s) ≡ has_name name s → is_some (cond b (Some f.1) (field_kind name s)) ≡ (b || has_name name s)
    by true e = refl
    by false e = e

pub place_of : (o : Option ℕ) → is_some o ≡ true → (k : ℕ) × (o ≡ Some k)
place_of None h = cc
place_of (Some k) h = (k, refl)

module _ (ns : List Name) (s : Fields) (t : Table) (is : names_of s ≡ ns) where
  abbrev few : Table
  few = projected ns s t

  -- the column that stands at k among the kept ones and at j among all
  values_same : (j k : ℕ) → ((row : List Value) → get_or (picked (places_in ns t.schema) row) k val.Null ≡ get_or row j val.Null) → (rows : List (List Value)) → values_at k (map (picked (places_in ns t.schema)) rows) ≡ values_at j rows
  values_same j k same [] = refl
  values_same j k same (row ∷ rows) = let p = same row in let q = values_same j k same rows in λ i. p i ∷ q i

  height : (rows : List (List Value)) → length (map (picked (places_in ns t.schema)) rows) ≡ length rows
  height [] = refl
  height (row ∷ rows) = ap suc (height rows)

  kept_column : (name : Name) → is_among name ns ≡ true → field_kind name s ≡ field_kind name t.schema → table_column name few ≡ table_column name t
  kept_column name among kinds =
      let there : has_name name s ≡ true = sym (named_as name s) ∙ ap (is_among name) is ∙ among in
      let K = place_of (field_index name s) (is_some-position (λ f. bytes_eq name f.0) s ∙ there) in
      let J = place_of (field_index name t.schema) (is_some-position (λ f. bytes_eq name f.0) t.schema ∙ sym (kind_as name t.schema) ∙ ap is_some (sym kinds) ∙ kind_as name s ∙ there) in
      let k = K.0 in
      let none : Name × DataType = (name, kind.Boolean) in
      let p = position-Some (λ f. bytes_eq name f.0) s k none K.1 in
      let lt : k < length ns = subst (λ n. k < n) (sym (length-map s (λ f. f.0)) ∙ ap length is) p.0 in
      let own : name ≡ (get_or s k none).0 = (bytes_decides name (get_or s k none).0).0 p.1 in
      let stands : get_or ns k name ≡ name = ap (λ ns. get_or ns k name) (sym is) ∙ get_or-map (λ (f : Name × DataType). f.0) s k none name p.0 ∙ sym own in
      let place : get_or (places_in ns t.schema) k 0 ≡ J.0 =
      get_or-map (λ n. unwrap_or (field_index n t.schema) 0) ns k name 0 lt ∙ ap (λ n. unwrap_or (field_index n t.schema) 0) stands ∙ ap (λ o. unwrap_or o 0) J.1 in
      let lt' : k < length (places_in ns t.schema) = subst (λ n. k < n) (sym (length-map ns (λ n. unwrap_or (field_index n t.schema) 0))) lt in
      let same : (row : List Value) → get_or (picked (places_in ns t.schema) row) k val.Null ≡ get_or row J.0 val.Null =
      λ row. get_or-map (λ m. get_or row m val.Null) (places_in ns t.schema) k 0 val.Null lt' ∙ ap (λ m. get_or row m val.Null) place in
      let cells = ap (λ o. map value (values_at_some o few.rows)) K.1 ∙ ap (map value) (values_same J.0 k same t.rows) ∙ sym (ap (λ o. map value (values_at_some o t.rows)) J.1) in
      λ i. record { cells = cells i; broken = t.broken; lost = [] }

pub reads_projected : ReadsProjected
reads_projected at ns s t e is reads kinds =
    reads_the_same at (projected ns s t) t e (height ns s t is t.rows) refl
    (reads_all (IsSameIn (projected ns s t) t) e (λ name some. let among = reads name some in record { column = kept_column ns s t is name among (kinds name among); kind = kinds name among }))
