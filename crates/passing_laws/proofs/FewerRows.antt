-- Filters, selects, projections and row indexes give no more rows than they take.
use Rattle.std.proofs.Common.{◌≡◌, ℕ, zero, suc, ◌+◌, ◌-◌, ◌≤◌, List, [], ◌∷◌, length, take, refl, sym, ap, subst, ◌∙◌, inl, inr, arith}
use Rattle.std.proofs.lemmas.List.{length-map}
use Rattle.std.proofs.lemmas.List.Sums.{take_while-cons}
use Rattle.std.specs.Prelude.{◌≢◌, Bool, true, false, not, cond, filter, get_or, map, take_while, IsTrue, Option, unwrap_or}
use Rattle.std.specs.List.{list_any}
use Rattle.ps_frame.specs.Aggregates.{max_rows}
use Rattle.ps_frame.specs.Causes.{Cause, Cell, cell_values}
use Rattle.ps_frame.specs.Functions.{Functions}
use Rattle.ps_frame.specs.Tables.{Fields, Row, Table}
use Rattle.ps_frame.specs.Trees.{Tree}
use Rattle.ps_frame.specs.Typing.{is_elementwise, is_independent}
use Rattle.ps_frame.specs.Values.{is_true}
use Rattle.ps_frame.specs.Zip.{Zipped, is_faulty_row, zipped}
use Rattle.ps_frame.specs.declared.value.DataType.TheVariants as kind
use Rattle.ps_frame.specs.declared.value.Value.TheVariants as val
use Rattle.ps_meaning.specs.Cases.{columns_at, hstack_places, keyed, numbered, projected, where_true, with_row_index as indexed}
use Rattle.ps_meaning.specs.Distinct.{picked, places_in}
use Rattle.ps_meaning.specs.Schemas.{names_of, schema_or_empty}
use Rattle.ps_meaning.specs.Shape.{PhysicalKind, PhysicalNode, filter_node, select_node, simple_projection, with_row_index}
use Rattle.ps_meaning.specs.Sound.{AreElementwise, have_all_kinds}
use Rattle.ps_meaning.specs.Steps.{Name, Named, exprs_of, hstack, project, select}
use Rattle.ps_rowwise.specs.Rows.{HasKind}
use Rattle.ps_world.specs.Booking.{GivesFewer}
use Rattle.passing_laws.proofs.ExactPieces.{gives-it}
use Rattle.passing_laws.proofs.FilterPieces.{keyed-columns, keyed-go, keyed-some, keyed_goers, tree-columns}
use Rattle.passing_laws.proofs.Goers.{AllGo, Goer, all_lone, cells_of}
use Rattle.passing_laws.proofs.SelectPieces.{reads-some}
use Rattle.passing_laws.proofs.Trees.{tree-goes, tree_goer, trees-go}
use Rattle.passing_laws.proofs.ZipPieces.{GivesOf, table_with}
use Rattle.passing_laws.proofs.Zips.{zip-rows, zip_over}

length-while : {A : Type 0} (t : A → Bool) (xs : List A) → length (take_while t xs) ≤ length xs
length-while t [] = omega arith
length-while t (x ∷ xs) = subst (λ ys. length ys ≤ suc (length xs)) (sym (take_while-cons t x xs)) (by (t x) (length-while t xs))
  where
    by : (b : Bool) → length (take_while t xs) ≤ length xs → length (cond b (x ∷ take_while t xs) []) ≤ suc (length xs)
    by true h = omega arith
    by false h = omega arith

length-filter : {A : Type 0} (t : A → Bool) (xs : List A) → length (filter t xs) ≤ length xs
length-filter t [] = omega arith
length-filter t (x ∷ xs) = by (t x) (length-filter t xs)
  where
    by : (b : Bool) → length (filter t xs) ≤ length xs → length (cond b (x ∷ filter t xs) (filter t xs)) ≤ suc (length xs)
    by true h = omega arith
    by false h = omega arith

length-take : (m : ℕ) (xs : List Row) → length (take m xs) ≤ length xs
length-take zero xs = omega arith
length-take (suc m) [] = omega arith
length-take (suc m) (x ∷ xs) = let h = length-take m xs in omega arith

length-numbered : (i : ℕ) (xs : List Row) → length (numbered i xs) ≡ length xs
length-numbered i [] = refl
length-numbered i (x ∷ xs) = ap suc (length-numbered (i + 1) xs)

-- a change that keeps or drops rows
abbrev Shortens : (List Row → List Row) → Type 0
Shortens f = (xs : List Row) → length (f xs) ≤ length xs

where-shortens : (w : ℕ) → Shortens (where_true w)
where-shortens w xs =
    let t : Row → Bool = λ row. is_true (get_or row w val.Null) in
    let e = length-map (filter t xs) (take w) in
    let h = length-filter t xs in
    omega arith

map-shortens : (g : Row → Row) → Shortens (map g)
map-shortens g xs = let e = length-map xs g in omega arith

module _ (node : ℕ) (gs : List Goer) (all : AllGo gs) (some : all_lone gs ≡ false) (o : Fields) (f : List Row → List Row) (short : Shortens f) (w : List Row → List Cause → Zipped)
    (same : (rows : List Row) (causes : List Cause) → zip_over node gs all some rows causes ≡ w rows causes) where
  zip-shorter : (a : List Row) → length (w a []).rows ≤ length a
  zip-shorter a =
      let t : List Cell → Bool = λ row. not (is_faulty_row row) in
      let r : (w a []).rows ≡ map cell_values (take_while t (map (cells_of gs) a)) = ap (λ (z : Zipped). z.rows) (sym (same a [])) ∙ zip-rows node gs all some a [] in
      let e = ap length r in
      let k = length-map (take_while t (map (cells_of gs) a)) cell_values in
      let h = length-while t (map (cells_of gs) a) in
      let j = length-map a (cells_of gs) in
      omega arith

  zip-fewer : (a : List Row) (U : Table) → GivesOf o f (w a []) U → length U.rows ≤ length a
  zip-fewer a U (inl e) = let q = ap (λ (t : Table). length t.rows) e in let h = short (w a []).rows in let k = zip-shorter a in omega arith
  zip-fewer a U (inr (V, g, lost, e)) = let q = ap (λ (t : Table). length t.rows) e in omega arith

filters : (F : Functions) (p : PhysicalNode) (s : Fields) (e : Tree) → s ≢ [] → IsTrue (is_elementwise e) → HasKind s e → GivesFewer F (record p { kind = filter_node e }) s
filters F p s e n h k =
    λ i. zip-fewer p.origin (keyed_goers p.origin s (e ∷ [])) (keyed-go p.origin s (e ∷ []) (tree-goes p.origin s e h k, tt)) (keyed-some p.origin s (e ∷ []) n)
    s (where_true (length s)) (where-shortens (length s)) (λ rows causes. keyed p.origin (e ∷ []) (table_with s rows causes)) (keyed-columns p.origin s (e ∷ []))

pub filter-fewer : (F : Functions) (p : PhysicalNode) (s : Fields) (e : Tree) → p.kind ≡ filter_node e → s ≢ [] → IsTrue (is_elementwise e) → HasKind s e → GivesFewer F p s
filter-fewer F p s e is n h k = subst (λ (kd : PhysicalKind). GivesFewer F (record p { kind = kd }) s) (sym is) (filters F p s e n h k)

selects : (F : Functions) (p : PhysicalNode) (s : Fields) (es : List Named) → AreElementwise (exprs_of es) → IsTrue (list_any (λ e. not (is_independent e)) (exprs_of es)) → IsTrue (have_all_kinds s (exprs_of es)) → GivesFewer F (record p { kind = select_node es false }) s
selects F p s es h reads k =
    λ i. zip-fewer p.origin (map (tree_goer p.origin s) (exprs_of es)) (trees-go p.origin s (exprs_of es) h k) (reads-some p.origin s (exprs_of es) reads)
    (schema_or_empty F (select es) (s ∷ [])) (λ rows. rows) (λ xs. omega arith) (λ rows causes. zipped false p.origin (columns_at p.origin (exprs_of es) (table_with s rows causes))) (λ rows causes. ap (zipped false p.origin) (tree-columns p.origin s (exprs_of es) rows causes))

pub select-fewer : (F : Functions) (p : PhysicalNode) (s : Fields) (es : List Named) → p.kind ≡ select_node es false → AreElementwise (exprs_of es) → IsTrue (list_any (λ e. not (is_independent e)) (exprs_of es)) → IsTrue (have_all_kinds s (exprs_of es)) → GivesFewer F p s
select-fewer F p s es is h reads k = subst (λ (kd : PhysicalKind). GivesFewer F (record p { kind = kd }) s) (sym is) (selects F p s es h reads k)

extends : (F : Functions) (p : PhysicalNode) (s : Fields) (es : List Named) → s ≢ [] → AreElementwise (exprs_of es) → IsTrue (have_all_kinds s (exprs_of es)) → GivesFewer F (record p { kind = select_node es true }) s
extends F p s es n h k =
    let o = schema_or_empty F (hstack es) (s ∷ []) in
    λ i. zip-fewer p.origin (keyed_goers p.origin s (exprs_of es)) (keyed-go p.origin s (exprs_of es) (trees-go p.origin s (exprs_of es) h k)) (keyed-some p.origin s (exprs_of es) n)
    o (map (picked (hstack_places (names_of o) es s))) (map-shortens (picked (hstack_places (names_of o) es s))) (λ rows causes. keyed p.origin (exprs_of es) (table_with s rows causes)) (keyed-columns p.origin s (exprs_of es))

pub extend-fewer : (F : Functions) (p : PhysicalNode) (s : Fields) (es : List Named) → p.kind ≡ select_node es true → s ≢ [] → AreElementwise (exprs_of es) → IsTrue (have_all_kinds s (exprs_of es)) → GivesFewer F p s
extend-fewer F p s es is n h k = subst (λ (kd : PhysicalKind). GivesFewer F (record p { kind = kd }) s) (sym is) (extends F p s es n h k)

projects : (F : Functions) (p : PhysicalNode) (s : Fields) (ns : List Name) → GivesFewer F (record p { kind = simple_projection ns }) s
projects F p s ns i a U g =
    let T = projected ns (schema_or_empty F (project ns) (s ∷ [])) (table_with s a []) in
    let e = ap (λ (t : Table). length t.rows) (gives-it T U g) in
    let k = length-map a (picked (places_in ns s)) in
    omega arith

pub project-fewer : (F : Functions) (p : PhysicalNode) (s : Fields) (ns : List Name) → p.kind ≡ simple_projection ns → GivesFewer F p s
project-fewer F p s ns is = subst (λ (kd : PhysicalKind). GivesFewer F (record p { kind = kd }) s) (sym is) (projects F p s ns)

at-most : (u n t a : ℕ) → u ≡ n → n ≡ t → t ≤ a → u ≤ a
at-most u n t a e f h = omega arith

indexes : (F : Functions) (p : PhysicalNode) (s : Fields) (name : Name) (offset : Option ℕ) → GivesFewer F (record p { kind = with_row_index name offset }) s
indexes F p s name offset i a U g =
    let k = unwrap_or offset 0 + i in
    let T = indexed p.origin ((name, kind.IdxSize) ∷ s) k (table_with s a []) in
    at-most (length U.rows) (length T.rows) (length (take (max_rows - k) a)) (length a) (ap (λ (t : Table). length t.rows) (gives-it T U g)) (length-numbered k (take (max_rows - k) a)) (length-take (max_rows - k) a)

pub index-fewer : (F : Functions) (p : PhysicalNode) (s : Fields) (name : Name) (offset : Option ℕ) → p.kind ≡ with_row_index name offset → GivesFewer F p s
index-fewer F p s name offset is = subst (λ (kd : PhysicalKind). GivesFewer F (record p { kind = kd }) s) (sym is) (indexes F p s name offset)
