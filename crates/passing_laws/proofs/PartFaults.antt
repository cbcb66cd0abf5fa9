-- What breaks a passing node over a part of the rows breaks it over all of them.
use Rattle.std.proofs.Common.{◌≡◌, ℕ, ◌+◌, ◌-◌, List, [], ◌∷◌, ◌++◌, length, refl, sym, ap, subst, ◌∙◌, inl, arith, length-append}
use Rattle.std.specs.Prelude.{◌≢◌, ◌&&◌, Bool, true, false, not, Contains, cond, map, is_some, nat_lt, IsTrue, Option, Some, None, unwrap_or}
use Rattle.std.specs.List.{list_all, list_any}
use Rattle.ps_frame.specs.Aggregates.{max_rows}
use Rattle.ps_frame.specs.Causes.{Cause, Cell, Column, value, cell_causes}
use Rattle.ps_frame.specs.Eval.{at}
use Rattle.ps_frame.specs.Functions.{Functions}
use Rattle.ps_frame.specs.Operators.{binary_value, cast_cell, cast_value, choice_of, not_value}
use Rattle.ps_frame.specs.Tables.{Fields, Frame, Row, Table}
use Rattle.ps_frame.specs.Trees.{Tree}
use Rattle.ps_frame.specs.Typing.{is_elementwise, is_independent, kind_over}
use Rattle.ps_frame.specs.Values.{is_null}
use Rattle.ps_frame.specs.Zip.{Zipped, zipped}
use Rattle.ps_frame.specs.declared.expr.FunctionExpr.{FunctionExpr}
use Rattle.ps_frame.specs.declared.expr.FunctionExpr.TheVariants as fun
use Rattle.ps_frame.specs.declared.value.DataFault.TheVariants as fault
use Rattle.ps_frame.specs.declared.value.DataType.TheVariants as kind
use Rattle.ps_frame.specs.declared.value.Value.{Value}
use Rattle.ps_frame.specs.declared.value.Value.TheVariants as val
use Rattle.ps_meaning.specs.Cases.{answer_or_fault, columns_at, function_cause, hstack_places, if_whole, keyed, projected, stream_table, streamed, user_table, where_true, with_row_index as indexed}
use Rattle.ps_meaning.specs.Distinct.{picked}
use Rattle.ps_meaning.specs.Schemas.{names_of, schema_or_empty}
use Rattle.ps_meaning.specs.Shape.{PhysicalKind, PhysicalNode, filter_node, select_node, simple_projection, stream_map, with_row_index}
use Rattle.ps_meaning.specs.Sound.{AreElementwise, have_all_kinds}
use Rattle.ps_meaning.specs.Steps.{Name, Named, exprs_of, hstack, project, select, user}
use Rattle.ps_rowwise.specs.Rows.{HasKind}
use Rattle.ps_rowwise.proofs.ByRow.{binary-kinds, both, cast-kinds, function-kinds, ternary-kinds}
use Rattle.ps_world.specs.Booking.{FaultsByPart}
use Rattle.passing_laws.proofs.ExactPieces.{gives-it}
use Rattle.passing_laws.proofs.FilterPieces.{keyed-columns, keyed-go, keyed-some, keyed_goers, tree-columns}
use Rattle.passing_laws.proofs.Goers.{AllGo, Goer, all_lone, combined}
use Rattle.world_laws.proofs.InOrder.{none_in_nil}
use Rattle.passing_laws.proofs.MapPieces.{answered, answers}
use Rattle.passing_laws.proofs.SelectPieces.{reads-some}
use Rattle.passing_laws.proofs.Shows.{AllShow, Shows, among-right, combined-shows}
use Rattle.passing_laws.proofs.Trees.{column_goer, tree-goes, tree_goer, trees-go}
use Rattle.passing_laws.proofs.ZipFaults.{part-breaks}
use Rattle.passing_laws.proofs.ZipPieces.{GivesOf, table_with}
use Rattle.passing_laws.proofs.Zips.{zip_over}

pub columns-show : (s : Fields) (is : List ℕ) → AllShow (map (column_goer s) is)
columns-show s [] = tt
columns-show s (i ∷ is) = (record { lost_same = λ causes. refl; lost_shows = λ c r h. absurd (none_in_nil c h) }, columns-show s is)

pub both-show : (gs hs : List Goer) → AllShow gs → AllShow hs → AllShow (gs ++ hs)
both-show [] hs a b = b
both-show (g ∷ gs) hs a b = (a.0, both-show gs hs a.1 b)

module _ (node : ℕ) (s : Fields) where
  of-combined : (t : Tree) (f : List Value → Cell) (gs : List Goer) → ((causes : List Cause) → (combined node f gs).over [] causes ≡ (tree_goer node s t).over [] causes) → (combined node f gs).cell ≡ (tree_goer node s t).cell → Shows (combined node f gs) → Shows (tree_goer node s t)
  of-combined t f gs same cells g =
      record {
        lost_same = λ causes. ap (λ (d : Column). d.lost) (sym (same causes)) ∙ g.lost_same causes ∙ ap (λ (d : Column). d.lost) (same []);
        lost_shows = λ c r h. subst (λ (k : List Value → Cell). Contains (cell_causes (k r)) c) cells (g.lost_shows c r (subst (λ (d : Column). Contains d.lost c) (sym (same [])) h));
      }

  -- an expression with what is known of it
  record Known (t : Tree) : Type 0 where
    pub elementwise : IsTrue (is_elementwise t)
    pub kind : HasKind s t
    pub shows : Shows (tree_goer node s t)

  one-shows : (t u : Tree) (f : List Value → Cell) → ((causes : List Cause) → (combined node f (tree_goer node s u ∷ [])).over [] causes ≡ (tree_goer node s t).over [] causes) → (combined node f (tree_goer node s u ∷ [])).cell ≡ (tree_goer node s t).cell → Known u → Shows (tree_goer node s t)
  one-shows t u f same cells k = of-combined t f (tree_goer node s u ∷ []) same cells (combined-shows node f (tree_goer node s u ∷ []) (tree-goes node s u k.elementwise k.kind, tt) (k.shows, tt))

  function-shows : (g : FunctionExpr) (t : Tree) → IsTrue (is_elementwise (Tree.function g t)) → Known t → Shows (tree_goer node s (Tree.function g t))
  function-shows fun.Not t h k = one-shows (Tree.function fun.Not t) t (λ row. value (not_value (at 0 row))) (λ causes. refl) refl k
  function-shows fun.IsNull t h k = one-shows (Tree.function fun.IsNull t) t (λ row. value (val.Boolean (is_null (at 0 row)))) (λ causes. refl) refl k
  function-shows fun.IsNotNull t h k = one-shows (Tree.function fun.IsNotNull t) t (λ row. value (val.Boolean (not (is_null (at 0 row))))) (λ causes. refl) refl k
  function-shows fun.Reverse t h k = cc

  pub tree-shows : (t : Tree) → IsTrue (is_elementwise t) → HasKind s t → Shows (tree_goer node s t)
  tree-shows (Tree.column name) h k = record { lost_same = λ causes. refl; lost_shows = λ c r h. absurd (none_in_nil c h) }
  tree-shows (Tree.literal l) h k = record { lost_same = λ causes. refl; lost_shows = λ c r h. absurd (none_in_nil c h) }
  tree-shows (Tree.binary o l r) h k =
      let p = both (is_elementwise l) (is_elementwise r) h in
      let q = binary-kinds o (kind_over s l) (kind_over s r) k in
      let f : List Value → Cell = λ row. value (binary_value o (at 0 row) (at 1 row)) in
      let gs = tree_goer node s l ∷ tree_goer node s r ∷ [] in
      of-combined (Tree.binary o l r) f gs (λ causes. refl) refl
      (combined-shows node f gs (tree-goes node s l p.0 q.0, (tree-goes node s r p.1 q.1, tt)) (tree-shows l p.0 q.0, (tree-shows r p.1 q.1, tt)))
  tree-shows (Tree.cast to strict e) h k =
      let j = cast-kinds to (kind_over s e) k in
      one-shows (Tree.cast to strict e) e (λ row. cast_cell node strict (cast_value to (at 0 row))) (λ causes. refl) refl (record { elementwise = h; kind = j; shows = tree-shows e h j })
  tree-shows (Tree.ternary p a b) h k =
      let i = both (is_elementwise p) (is_elementwise a && is_elementwise b) h in
      let j = both (is_elementwise a) (is_elementwise b) i.1 in
      let q = ternary-kinds (kind_over s p) (kind_over s a) (kind_over s b) k in
      let f : List Value → Cell = λ row. value (choice_of (at 0 row) (at 1 row) (at 2 row)) in
      let gs = tree_goer node s p ∷ tree_goer node s a ∷ tree_goer node s b ∷ [] in
      of-combined (Tree.ternary p a b) f gs (λ causes. refl) refl
      (combined-shows node f gs (tree-goes node s p i.0 q.0, (tree-goes node s a j.0 q.1, (tree-goes node s b j.1 q.2, tt))) (tree-shows p i.0 q.0, (tree-shows a j.0 q.1, (tree-shows b j.1 q.2, tt))))
  tree-shows (Tree.function g e) h k =
      let p = (both _ (is_elementwise e) h).1 in
      let j = function-kinds g (kind_over s e) k in
      function-shows g e h (record { elementwise = p; kind = j; shows = tree-shows e p j })
  tree-shows (Tree.sort d n e) h k = cc
  tree-shows (Tree.sort_by d n e by) h k = cc
  tree-shows (Tree.gather b e i) h k = cc
  tree-shows (Tree.filter e by) h k = cc
  tree-shows (Tree.aggregate a e) h k = cc
  tree-shows (Tree.slice e o l) h k = cc
  tree-shows Tree.len h k = cc
  tree-shows (Tree.left_out w) h k = cc
  tree-shows Tree.missing h k = cc

  pub trees-show : (es : List Tree) → IsTrue (list_all is_elementwise es) → IsTrue (list_all (λ e. is_some (kind_over s e)) es) → AllShow (map (tree_goer node s) es)
  trees-show [] h k = tt
  trees-show (e ∷ es) h k =
      let p = both (is_elementwise e) (list_all is_elementwise es) h in
      let q = both (is_some (kind_over s e)) (list_all (λ e. is_some (kind_over s e)) es) k in
      (tree-shows e p.0 q.0, trees-show es p.1 q.1)

-- a step that gives a change of a zip
module _ (node : ℕ) (gs : List Goer) (all : AllGo gs) (show : AllShow gs) (some : all_lone gs ≡ false) (o : Fields) (f : List Row → List Row) (w : List Row → List Cause → Zipped)
    (same : (rows : List Row) (causes : List Cause) → zip_over node gs all some rows causes ≡ w rows causes) where
  zip-part : (front a rest : List Row) (causes : List Cause) (U : Table) (c : Cause) → GivesOf o f (w a []) U → Contains U.broken c → (V : Table) × GivesOf o f (w (front ++ (a ++ rest)) causes) V × Contains V.broken c
  zip-part front a rest causes U c g h =
      let v = part-breaks node gs all show some o f front a rest causes U c (subst (λ z. GivesOf o f z U) (sym (same a [])) g) h in
      (v.0, subst (λ z. GivesOf o f z v.0) (same (front ++ (a ++ rest)) causes) v.1, v.2)

filters : (F : Functions) (p : PhysicalNode) (s : Fields) (e : Tree) → s ≢ [] → IsTrue (is_elementwise e) → HasKind s e → FaultsByPart F (record p { kind = filter_node e }) s
filters F p s e n h k =
    zip-part p.origin (keyed_goers p.origin s (e ∷ [])) (keyed-go p.origin s (e ∷ []) (tree-goes p.origin s e h k, tt)) (both-show (map (column_goer s) _) (tree_goer p.origin s e ∷ []) (columns-show s _) (tree-shows p.origin s e h k, tt)) (keyed-some p.origin s (e ∷ []) n)
    s (where_true (length s)) (λ rows causes. keyed p.origin (e ∷ []) (table_with s rows causes)) (keyed-columns p.origin s (e ∷ []))

pub filter-faults : (F : Functions) (p : PhysicalNode) (s : Fields) (e : Tree) → p.kind ≡ filter_node e → s ≢ [] → IsTrue (is_elementwise e) → HasKind s e → FaultsByPart F p s
filter-faults F p s e is n h k = subst (λ (kd : PhysicalKind). FaultsByPart F (record p { kind = kd }) s) (sym is) (filters F p s e n h k)

selects : (F : Functions) (p : PhysicalNode) (s : Fields) (es : List Named) → AreElementwise (exprs_of es) → IsTrue (list_any (λ e. not (is_independent e)) (exprs_of es)) → IsTrue (have_all_kinds s (exprs_of es)) → FaultsByPart F (record p { kind = select_node es false }) s
selects F p s es h reads k =
    zip-part p.origin (map (tree_goer p.origin s) (exprs_of es)) (trees-go p.origin s (exprs_of es) h k) (trees-show p.origin s (exprs_of es) h k) (reads-some p.origin s (exprs_of es) reads)
    (schema_or_empty F (select es) (s ∷ [])) (λ rows. rows) (λ rows causes. zipped false p.origin (columns_at p.origin (exprs_of es) (table_with s rows causes))) (λ rows causes. ap (zipped false p.origin) (tree-columns p.origin s (exprs_of es) rows causes))

pub select-faults : (F : Functions) (p : PhysicalNode) (s : Fields) (es : List Named) → p.kind ≡ select_node es false → AreElementwise (exprs_of es) → IsTrue (list_any (λ e. not (is_independent e)) (exprs_of es)) → IsTrue (have_all_kinds s (exprs_of es)) → FaultsByPart F p s
select-faults F p s es is h reads k = subst (λ (kd : PhysicalKind). FaultsByPart F (record p { kind = kd }) s) (sym is) (selects F p s es h reads k)

extends : (F : Functions) (p : PhysicalNode) (s : Fields) (es : List Named) → s ≢ [] → AreElementwise (exprs_of es) → IsTrue (have_all_kinds s (exprs_of es)) → FaultsByPart F (record p { kind = select_node es true }) s
extends F p s es n h k =
    let o = schema_or_empty F (hstack es) (s ∷ []) in
    zip-part p.origin (keyed_goers p.origin s (exprs_of es)) (keyed-go p.origin s (exprs_of es) (trees-go p.origin s (exprs_of es) h k)) (both-show (map (column_goer s) _) (map (tree_goer p.origin s) (exprs_of es)) (columns-show s _) (trees-show p.origin s (exprs_of es) h k)) (keyed-some p.origin s (exprs_of es) n)
    o (map (picked (hstack_places (names_of o) es s))) (λ rows causes. keyed p.origin (exprs_of es) (table_with s rows causes)) (keyed-columns p.origin s (exprs_of es))

pub extend-faults : (F : Functions) (p : PhysicalNode) (s : Fields) (es : List Named) → p.kind ≡ select_node es true → s ≢ [] → AreElementwise (exprs_of es) → IsTrue (have_all_kinds s (exprs_of es)) → FaultsByPart F p s
extend-faults F p s es is n h k = subst (λ (kd : PhysicalKind). FaultsByPart F (record p { kind = kd }) s) (sym is) (extends F p s es n h k)

-- a function that streams faults over all rows where it does over some
module _ (at : ℕ) (answer : Row → Option Frame) where
  abbrev broken : List Row → List Cause
  broken rows = (streamed at answer rows).broken

  abbrev step : Option Frame → List Cause → List Cause
  step None cs = function_cause at
  step (Some f) cs = cs

  steps : (r : Row) (rows : List Row) → broken (r ∷ rows) ≡ step (answer r) (broken rows)
  steps r rows = ap (λ (z : Zipped). z.broken) (answers at answer r rows) ∙ by (answer r)
    where
      by : (x : Option Frame) → (answered at answer x (streamed at answer rows)).broken ≡ step x (broken rows)
      by None = refl
      by (Some f) = refl

  -- all its causes are one
  one-cause : (x : Option Frame) (cs : List Cause) (c : Cause) → (Contains cs c → Contains (function_cause at) c) → Contains (step x cs) c → Contains (function_cause at) c
  one-cause None cs c rest h = h
  one-cause (Some f) cs c rest h = rest h

  the-cause : (rows : List Row) (c : Cause) → Contains (broken rows) c → Contains (function_cause at) c
  the-cause [] c h = absurd (none_in_nil c h)
  the-cause (r ∷ rows) c h = one-cause (answer r) (broken rows) c (the-cause rows c) (subst (λ cs. Contains cs c) (steps r rows) h)

  behind : (front rows : List Row) (c : Cause) → Contains (broken rows) c → Contains (broken (front ++ rows)) c
  behind [] rows c h = h
  behind (r ∷ front) rows c h = subst (λ cs. Contains cs c) (sym (steps r (front ++ rows))) (by (answer r) (behind front rows c h))
    where
      by : (x : Option Frame) → Contains (broken (front ++ rows)) c → Contains (step x (broken (front ++ rows))) c
      by None k = the-cause rows c h
      by (Some f) k = k

  before : (rows rest : List Row) (c : Cause) → Contains (broken rows) c → Contains (broken (rows ++ rest)) c
  before [] rest c h = absurd (none_in_nil c h)
  before (r ∷ rows) rest c h = subst (λ cs. Contains cs c) (sym (steps r (rows ++ rest))) (by (answer r) (before rows rest c) (subst (λ cs. Contains cs c) (steps r rows) h))
    where
      by : (x : Option Frame) → (Contains (broken rows) c → Contains (broken (rows ++ rest)) c) → Contains (step x (broken rows)) c → Contains (step x (broken (rows ++ rest))) c
      by None k j = j
      by (Some f) k j = k j

maps : (F : Functions) (p : PhysicalNode) (s : Fields) (n : ℕ) → F.streams n ≡ true → FaultsByPart F (record p { kind = stream_map (user n) }) s
maps F p s n streams front a rest causes U c g h =
    let u : U ≡ stream_table F p.origin n o (table_with s a []) = gives-it (user_table F p.origin n o (table_with s a [])) U g ∙ by_streams a [] in
    let k : Contains (streamed p.origin answer a).broken c = subst (λ (t : Table). Contains t.broken c) u h in
    let V = stream_table F p.origin n o (table_with s (front ++ (a ++ rest)) causes) in
    (V, inl (sym (by_streams (front ++ (a ++ rest)) causes)), among-right causes (streamed p.origin answer (front ++ (a ++ rest))).broken c (behind p.origin answer front (a ++ rest) c (before p.origin answer a rest c k)))
  where
    o : Fields
    o = schema_or_empty F (user n) (s ∷ [])

    answer : Row → Option Frame
    answer r = F.answer n (record { schema = s; rows = r ∷ [] })

    by_streams : (rows : List Row) (causes : List Cause) → user_table F p.origin n o (table_with s rows causes) ≡ stream_table F p.origin n o (table_with s rows causes)
    by_streams rows causes = ap (λ b. cond b (stream_table F p.origin n o (table_with s rows causes)) (if_whole o causes (answer_or_fault p.origin o (F.answer n (record { schema = s; rows = rows }))))) streams

pub map-faults : (F : Functions) (p : PhysicalNode) (s : Fields) (n : ℕ) → p.kind ≡ stream_map (user n) → F.streams n ≡ true → FaultsByPart F p s
map-faults F p s n is streams = subst (λ (kd : PhysicalKind). FaultsByPart F (record p { kind = kd }) s) (sym is) (maps F p s n streams)

-- a row index passes its last number over all rows where it does over some
longer : (m i k f a r n : ℕ) → f ≡ k → n ≡ f + (a + r) → nat_lt (m - (i + k)) a ≡ true → nat_lt (m - i) n ≡ true
longer m i k f a r n e q h = grind arith

late-some : (b : Bool) (x : Cause) (c : Cause) → Contains (cond b (x ∷ []) []) c → (b ≡ true) × Contains (x ∷ []) c
late-some true x c h = (refl, h)
late-some false x c h = absurd (none_in_nil c h)

indexes : (F : Functions) (p : PhysicalNode) (s : Fields) (name : Name) (offset : Option ℕ) → FaultsByPart F (record p { kind = with_row_index name offset }) s
indexes F p s name offset front a rest causes U c g h =
    let n = unwrap_or offset 0 in
    let o : Fields = (name, kind.IdxSize) ∷ s in
    let x : Cause = record { fault = fault.RowIndex; node = p.origin } in
    let u : U ≡ indexed p.origin o (n + length front) (table_with s a []) = gives-it (indexed p.origin o (n + length front) (table_with s a [])) U g in
    let k = late-some (nat_lt (max_rows - (n + length front)) (length a)) x c (subst (λ (t : Table). Contains t.broken c) u h) in
    let q : length (front ++ (a ++ rest)) ≡ length front + (length a + length rest) = length-append front (a ++ rest) ∙ ap (λ m. length front + m) (length-append a rest) in
    let b : nat_lt (max_rows - n) (length (front ++ (a ++ rest))) ≡ true = longer max_rows n (length front) (length front) (length a) (length rest) (length (front ++ (a ++ rest))) refl q k.0 in
    (indexed p.origin o n (table_with s (front ++ (a ++ rest)) causes), inl refl, among-right causes (cond (nat_lt (max_rows - n) (length (front ++ (a ++ rest)))) (x ∷ []) []) c (subst (λ t. Contains (cond t (x ∷ []) []) c) (sym b) k.1))

pub index-faults : (F : Functions) (p : PhysicalNode) (s : Fields) (name : Name) (offset : Option ℕ) → p.kind ≡ with_row_index name offset → FaultsByPart F p s
index-faults F p s name offset is = subst (λ (kd : PhysicalKind). FaultsByPart F (record p { kind = kd }) s) (sym is) (indexes F p s name offset)

-- a projection breaks nothing
projects : (F : Functions) (p : PhysicalNode) (s : Fields) (ns : List Name) → FaultsByPart F (record p { kind = simple_projection ns }) s
projects F p s ns front a rest causes U c g h =
    let e : U ≡ projected ns (schema_or_empty F (project ns) (s ∷ [])) (table_with s a []) = gives-it (projected ns (schema_or_empty F (project ns) (s ∷ [])) (table_with s a [])) U g in
    absurd (none_in_nil c (subst (λ (t : Table). Contains t.broken c) e h))

pub project-faults : (F : Functions) (p : PhysicalNode) (s : Fields) (ns : List Name) → p.kind ≡ simple_projection ns → FaultsByPart F p s
project-faults F p s ns is = subst (λ (kd : PhysicalKind). FaultsByPart F (record p { kind = kd }) s) (sym is) (projects F p s ns)
