-- Further columns, put together from what their steps answer.
use Rattle.std.proofs.Common.{◌≡◌, ℕ, zero, suc, ◌+◌, ◌<◌, ◌≤◌, Bool, true, false, cond, List, [], ◌∷◌, ◌++◌, add-one, ap, arith, length, ltb-true, refl, sym, subst, take, take_all, ◌∙◌}
use Rattle.std.specs.Prelude.{None, Option, Some, map, nat_lt, not, option_map, slice_get}
use Rattle.std.specs.Cmp.Lexicographic.{bytes_decides}
use Rattle.std.specs.List.{AllByRecursion, list_all, position_or_len}
use Rattle.std.specs.Str.{bytes_eq}
use Rattle.std.proofs.lemmas.Bool.{ltb-false}
use Rattle.std.proofs.lemmas.Option.{same_Some}
use Rattle.pu_base.specs.declared.arena.Node.{Node}
use Rattle.ps_frame.specs.Tables.{Fields, field_index}
use Rattle.ps_frame.specs.Trees.{IsComplete, Tree, tree_at}
use Rattle.ps_frame.specs.Typing.{is_elementwise}
use Rattle.ps_frame.specs.declared.expr.AExpr.{AExpr}
use Rattle.ps_frame.specs.declared.value.DataType.{DataType}
use Rattle.ps_copies.specs.Copies.{KeepsTrees}
use Rattle.ps_meaning.specs.Schemas.{expr_names, names_of}
use Rattle.ps_meaning.specs.Shape.{select_node}
use Rattle.ps_meaning.specs.Steps.{Name, Named, exprs_of, key_trees, name_in, named_trees}
use Rattle.ps_meaning.specs.declared.options.ExprIR.{ExprIR}
use Rattle.ps_phys.specs.Shown.{kind_of, stream_of}
use Rattle.ps_phys.specs.declared.phys.PhysNodeKind.{PhysNodeKind}
use Rattle.ps_phys.specs.declared.phys.PhysStream.{PhysStream}
use Rattle.ps_rules.specs.Slots.{Stream, over, under}
use Rattle.plan_rules.specs.Nodes.{expr_or_column, extended_apart, hstack_stream}
use Rattle.ps_fresh.specs.Known.{Remembers}
use Rattle.ps_fresh.specs.declared.lowering.Lowering.{Lowering}
use Rattle.lowering_parts.specs.Gathered.{Begins, GoesOn, Later, Makes, made_of, names_asked, state_of, trees_at}
use Rattle.lowering_parts.proofs.Going.{goes_added, goes_built, goes_knowing, goes_then}
use Rattle.lowering_parts.proofs.Grown.{kept-then}
use Rattle.node_lowering.specs.Answers.{Answers, answer_of, behind_columns}

-- expressions and names of named ones
pub exprs_back : (f : Node → Tree) (es : List ExprIR) → exprs_of (named_trees f es) ≡ key_trees f es
exprs_back f [] = refl
exprs_back f (e ∷ es) = ap (λ more. f e.node ∷ more) (exprs_back f es)

names_back : (f : Node → Tree) (es : List ExprIR) → expr_names (named_trees f es) ≡ names_asked es
names_back f [] = refl
names_back f (e ∷ es) = ap (λ more. name_in e.output_name ∷ more) (names_back f es)

-- named expressions have their trees in an arena that was added to
pub named_later : (a b : List AExpr) → KeepsTrees a b → (es : List ExprIR) → AllByRecursion IsComplete (key_trees (tree_at a) es) → named_trees (tree_at b) es ≡ named_trees (tree_at a) es
named_later a b keeps [] h = refl
named_later a b keeps (e ∷ es) h = λ i. (name_in e.output_name, keeps e.node h.0 i) ∷ named_later a b keeps es h.1 i

-- more is known of expressions, and nothing else has changed
pub goes_cached : (a : List AExpr) (l m : Lowering) → Remembers a m.cache → m ≡ record l { cache = m.cache } → GoesOn a a l m
goes_cached a l m known e = let P : Lowering → Type 0 = λ n. GoesOn a a l n in subst P (sym e) (goes_knowing a l m.cache known)

-- what goes row by row
pub beside_makes : (input : Stream) (schema : Fields) (es : List ExprIR) (test : Bool) (a : List AExpr) (l m p : Lowering) (s : PhysStream) → test ≡ list_all is_elementwise (exprs_of (named_trees (tree_at a) es)) → test ≡ true
    → AllByRecursion IsComplete (key_trees (tree_at a) es) → Remembers a m.cache → m ≡ record l { cache = m.cache }
    → ((f : Node → Tree) → made_of f p s ≡ over m.origin.0 (select_node (named_trees f es) true) schema input (state_of f m)) → Begins m.phys_sm.slots p.phys_sm.slots → p ≡ record m { phys_sm = p.phys_sm }
    → Makes (hstack_stream l.origin.0 (named_trees (tree_at a) es) schema input) a a l p s
beside_makes input schema es test a l m p s is so whole known only made nodes only2 =
    let at = l.origin.0 in
    let g = named_trees (tree_at a) es in
    record {
      by_rule = λ later k.
          (let f = tree_at later in
          made f ∙ (λ i. over (only i).origin.0 (select_node (named_later a later k es whole i) true) schema input (state_of f (only i)))
          ∙ ap (λ b. cond b (over at (select_node g true) schema) (extended_apart at g schema) input (state_of f l)) (sym so ∙ is));
      goes_on = goes_built a a l m p (goes_cached a l m known only) nodes only2;
    }

-- and what doesn't
pub apart_makes : (input : Stream) (schema : Fields) (es : List ExprIR) (test : Bool) (a c : List AExpr) (l m p : Lowering) (s : PhysStream) → test ≡ list_all is_elementwise (exprs_of (named_trees (tree_at a) es)) → test ≡ false
    → Remembers a m.cache → m ≡ record l { cache = m.cache } → Makes (extended_apart m.origin.0 (named_trees (tree_at a) es) schema input) a c m p s → Makes (hstack_stream l.origin.0 (named_trees (tree_at a) es) schema input) a c l p s
apart_makes input schema es test a c l m p s is so known only h =
    let at = l.origin.0 in
    let g = named_trees (tree_at a) es in
    record {
      by_rule = λ later k.
          (let f = tree_at later in
          h.by_rule later k ∙ (λ i. extended_apart (only i).origin.0 g schema input (state_of f (only i)))
          ∙ ap (λ b. cond b (over at (select_node g true) schema) (extended_apart at g schema) input (state_of f l)) (sym so ∙ is));
      goes_on = goes_then a a c l m p (goes_cached a l m known only) h.goes_on;
    }

-- a select of the output columns
pub select_makes : (input : Stream) (schema : Fields) (es sel : List ExprIR) (nodes ns : List Node) (a b c : List AExpr) (l m p : Lowering) (s t : PhysStream) (k : PhysNodeKind) → ((f : Node → Tree) → trees_at f nodes ≡ key_trees f es)
    → Answers (behind_columns l.origin.0 input (trees_at (tree_at a) nodes)) a b l m s ns → Begins b c → KeepsTrees b c
    → Later c (λ f. named_trees f sel ≡ under (names_of schema) (map (expr_or_column (under (names_asked es) (trees_at f ns))) (names_of schema)))
    → ((f : Node → Tree) → kind_of f k ≡ select_node (named_trees f sel) false)
    → ((f : Node → Tree) → made_of f p t ≡ over m.origin.0 (kind_of f k) schema (stream_of s) (state_of f m)) → Begins m.phys_sm.slots p.phys_sm.slots → p ≡ record m { phys_sm = p.phys_sm }
    → Makes (extended_apart l.origin.0 (named_trees (tree_at a) es) schema input) a c l p t
select_makes input schema es sel nodes ns a b c l m p s t k same h entries keeps outputs kind made grown only =
    let at = l.origin.0 in
    let g = named_trees (tree_at a) es in
    record {
      by_rule = λ later kept.
          (let f = tree_at later in
          let trees : trees_at (tree_at a) nodes ≡ exprs_of g = same (tree_at a) ∙ sym (exprs_back (tree_at a) es) in
          let x : answer_of f m s ns ≡ behind_columns at input (exprs_of g) (state_of f l) = h.by_rule later (kept-then b c later keeps kept) ∙ (λ i. behind_columns at input (trees i) (state_of f l)) in
          let names : names_asked es ≡ expr_names g = sym (names_back (tree_at a) es) in
          let kinds : kind_of f k ≡ select_node (under (names_of schema) (map (expr_or_column (under (names_asked es) (trees_at f ns))) (names_of schema))) false = kind f ∙ ap (λ xs. select_node xs false) (outputs later kept) in
          made f ∙ (λ i. over (h.goes_on.origin i).0 (kinds i) schema (stream_of s) (state_of f m))
          ∙ (λ i. over at (select_node (under (names_of schema) (map (expr_or_column (under (names i) (x i).exprs)) (names_of schema))) false) schema (x i).stream (x i).state));
      goes_on = goes_built a c l m p (goes_added a b c l m h.goes_on entries keeps) grown only;
    }

-- texts are compared in either order
turned : (x y : Name) → bytes_eq x y ≡ bytes_eq y x
turned x y = by (bytes_eq x y) (bytes_eq y x) refl refl
  where
    by : (p q : Bool) → bytes_eq x y ≡ p → bytes_eq y x ≡ q → p ≡ q
    by true true e h = refl
    by false false e h = refl
    by true false e h = sym ((bytes_decides y x).1 (sym ((bytes_decides x y).0 e))) ∙ h
    by false true e h = sym e ∙ (bytes_decides x y).1 (sym ((bytes_decides y x).0 h))

-- the place of the first field of a name, or how many fields there are
abbrev first_of : Name → Fields → ℕ
first_of name s = position_or_len (λ (g : Name × DataType). bytes_eq name g.0) s

found : (n m : ℕ) (o : Option ℕ) (b : Bool) → nat_lt n m ≡ b → cond b (Some n) None ≡ o → (i : ℕ) → o ≡ Some i → (n < m) × (n ≡ i)
found n m o true q e i h = (ltb-true n m q, cc)
found n m o false q e i h = cc

module _ (f : Node → Tree) (name : Name) where
  picked_at : (s : Fields) (ns : List Node) (i : ℕ) (n : Node) → first_of name s ≡ i → i < length s → slice_get ns i ≡ Some n → f n ≡ expr_or_column (under (names_of s) (trees_at f ns)) name
  picked_at [] ns i n e lt h = absurd (omega arith)
  picked_at (g ∷ s) [] i n e lt h = cc
  picked_at (g ∷ s) (m ∷ ns) i n e lt h = by (bytes_eq name g.0) refl i e lt h (λ j q l w. picked_at s ns j n q l w)
    where
      by : (b : Bool) → bytes_eq name g.0 ≡ b → (i : ℕ) → first_of name (g ∷ s) ≡ i → i < length (g ∷ s) → slice_get (m ∷ ns) i ≡ Some n
          → ((j : ℕ) → first_of name s ≡ j → j < length s → slice_get ns j ≡ Some n → f n ≡ expr_or_column (under (names_of s) (trees_at f ns)) name) → f n ≡ expr_or_column (under (names_of (g ∷ s)) (trees_at f (m ∷ ns))) name
      by true q zero e lt h go = ap f (sym (same_Some m n h)) ∙ sym (ap (λ b. cond b (f m) (expr_or_column (under (names_of s) (trees_at f ns)) name)) (turned g.0 name ∙ q))
      by true q (suc i) e lt h go = let z : 0 ≡ suc i = sym (ap (λ b. cond (not b) (1 + first_of name s) 0) q) ∙ e in cc
      by false q zero e lt h go = let z : 1 + first_of name s ≡ 0 = sym (ap (λ b. cond (not b) (1 + first_of name s) 0) q) ∙ e in absurd (omega arith)
      by false q (suc i) e lt h go =
          let z : 1 + first_of name s ≡ suc i = sym (ap (λ b. cond (not b) (1 + first_of name s) 0) q) ∙ e in
          go i (omega arith) (omega arith) h ∙ sym (ap (λ b. cond b (f m) (expr_or_column (under (names_of s) (trees_at f ns)) name)) (turned g.0 name ∙ q))

  -- what stands for the expression of a name
  pub picked : (s : Fields) (ns : List Node) (i : ℕ) (n : Node) → field_index name s ≡ Some i → slice_get ns i ≡ Some n → f n ≡ expr_or_column (under (names_of s) (trees_at f ns)) name
  picked s ns i n e h = let w = found (first_of name s) (length s) (field_index name s) (nat_lt (first_of name s) (length s)) refl refl i e in picked_at s ns i n w.1 (subst (λ j. j < length s) w.1 w.0) h

  no_name : (s : Fields) (ns : List Node) → length s ≤ first_of name s → expr_or_column (under (names_of s) (trees_at f ns)) name ≡ Tree.column name
  no_name [] ns le = refl
  no_name (g ∷ s) [] le = refl
  no_name (g ∷ s) (m ∷ ns) le = by (bytes_eq name g.0) refl (λ l. no_name s ns l)
    where
      by : (b : Bool) → bytes_eq name g.0 ≡ b → (length s ≤ first_of name s → expr_or_column (under (names_of s) (trees_at f ns)) name ≡ Tree.column name) → expr_or_column (under (names_of (g ∷ s)) (trees_at f (m ∷ ns))) name ≡ Tree.column name
      by true q go = let z : first_of name (g ∷ s) ≡ 0 = ap (λ b. cond (not b) (1 + first_of name s) 0) q in absurd (omega arith)
      by false q go =
          let z : first_of name (g ∷ s) ≡ 1 + first_of name s = ap (λ b. cond (not b) (1 + first_of name s) 0) q in
          ap (λ b. cond b (f m) (expr_or_column (under (names_of s) (trees_at f ns)) name)) (turned g.0 name ∙ q) ∙ go (omega arith)

  nowhere : (n m : ℕ) (b : Bool) → nat_lt n m ≡ b → cond b (Some n) None ≡ None → m ≤ n
  nowhere n m true q e = cc
  nowhere n m false q e = ltb-false n m q

  -- and the column of a name that no expression has
  pub unnamed : (s : Fields) (ns : List Node) → field_index name s ≡ None → expr_or_column (under (names_of s) (trees_at f ns)) name ≡ Tree.column name
  unnamed s ns e = no_name s ns (nowhere (first_of name s) (length s) (nat_lt (first_of name s) (length s)) refl e)

-- the column of a name is one later on, too
pub column_later : (b later : List AExpr) → KeepsTrees b later → (n : Node) (name : Name) → tree_at b n ≡ Tree.column name → tree_at later n ≡ Tree.column name
column_later b later keeps n name e = keeps n (subst IsComplete (sym e) tt) ∙ e

-- each name with what stands for it
module _ (g : Name → Tree) where
  abbrev pub pairs : List Name → List Named
  pairs ns = map (λ n. (n, g n)) ns

  under_pairs : (ns : List Name) → pairs ns ≡ under ns (map g ns)
  under_pairs [] = refl
  under_pairs (n ∷ ns) = ap (λ more. (n, g n) ∷ more) (under_pairs ns)

  pairs_more : (s : Fields) (i : ℕ) (n : Name) → option_map (λ (f : Name × DataType). f.0) (slice_get s i) ≡ Some n → pairs (names_of (take (i + 1) s)) ≡ pairs (names_of (take i s)) ++ (n, g n) ∷ []
  pairs_more s i n e = rw add-one (by s i e)
    where
      by : (s : Fields) (i : ℕ) → option_map (λ (f : Name × DataType). f.0) (slice_get s i) ≡ Some n → pairs (names_of (take (suc i) s)) ≡ pairs (names_of (take i s)) ++ (n, g n) ∷ []
      by [] i e = cc
      by (f ∷ s) zero e = ap (λ m. (m, g m) ∷ []) (same_Some f.0 n e)
      by (f ∷ s) (suc i) e = ap (λ more. (f.0, g f.0) ∷ more) (by s i e)

  pub columns_step : (f : Node → Tree) (s : Fields) (i : ℕ) (n : Name) (now next : List ExprIR) (e : ExprIR) → option_map (λ (f : Name × DataType). f.0) (slice_get s i) ≡ Some n → name_in e.output_name ≡ n → f e.node ≡ g n → next ≡ now ++ e ∷ []
      → named_trees f now ≡ pairs (names_of (take i s)) → named_trees f next ≡ pairs (names_of (take (i + 1) s))
  columns_step f s i n now next e at own tree pushed h = ap (named_trees f) pushed ∙ named_last f now e ∙ (λ j. h j ++ (own j, tree j) ∷ []) ∙ sym (pairs_more s i n at)
    where
      named_last : (f : Node → Tree) (es : List ExprIR) (e : ExprIR) → named_trees f (es ++ e ∷ []) ≡ named_trees f es ++ (name_in e.output_name, f e.node) ∷ []
      named_last f [] e = refl
      named_last f (x ∷ es) e = ap (λ more. (name_in x.output_name, f x.node) ∷ more) (named_last f es e)

  pub columns_end : (f : Node → Tree) (s : Fields) (i : ℕ) (now : List ExprIR) → length s ≤ i → named_trees f now ≡ pairs (names_of (take i s)) → named_trees f now ≡ under (names_of s) (map g (names_of s))
  columns_end f s i now le h = h ∙ ap (λ fs. pairs (names_of fs)) (take_all i s le) ∙ under_pairs (names_of s)
