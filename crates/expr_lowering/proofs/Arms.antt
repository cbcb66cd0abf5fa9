-- What a call does at an expression, put together from what its steps answer.
use Rattle.std.proofs.Common.{◌≡◌, ℕ, suc, ◌+◌, ◌-◌, Bool, true, false, List, [], ◌∷◌, ◌++◌, length, refl, sym, ap, subst, ◌∙◌, arith}
use Rattle.std.specs.Prelude.{Err, None, Ok, OnOk, Result, map}
use Rattle.std.specs.List.{AllByRecursion}
use Rattle.pu_base.specs.declared.arena.Node.{Node}
use Rattle.ps_frame.specs.Trees.{IsComplete, IsExpression, Tree, tree_at, trees_of}
use Rattle.ps_frame.specs.Typing.{is_elementwise}
use Rattle.ps_frame.specs.declared.expr.IRAggExpr.TheVariants as agg
use Rattle.ps_frame.specs.declared.refusal.PolarsError.{PolarsError}
use Rattle.ps_frame.specs.declared.expr.AExpr.{AExpr}
use Rattle.ps_meaning.specs.Shape.{PhysicalKind, filter_node, in_memory_map}
use Rattle.ps_meaning.specs.Steps.{Name, exprs_of, key_trees, named_trees, sort}
use Rattle.ps_meaning.specs.declared.options.ExprIR.{ExprIR}
use Rattle.ps_phys.specs.Shown.{kind_of, stream_of, streams_of}
use Rattle.ps_phys.specs.declared.phys.PhysNodeKind.{PhysNodeKind}
use Rattle.ps_phys.specs.declared.phys.PhysStream.{PhysStream}
use Rattle.ps_copies.specs.Copies.{KeepsTrees}
use Rattle.ps_rules.specs.Calls.{Bundle, Operand, given_bundle}
use Rattle.ps_rules.specs.Lowered.{as_operand, lower}
use Rattle.ps_rules.specs.Names.{after_fresh, fresh_name}
use Rattle.ps_rules.specs.Rules.{filtered_column, first_name, first_tree, other_names, selected, sorted_by, sorted_column, stays}
use Rattle.ps_rules.specs.Slots.{Made, State, Stream, added, after_name, after_names, all_added, columns_named, new_name, new_names, over_same, under, with_columns}
use Rattle.ps_fresh.specs.Known.{Remembers}
use Rattle.ps_fresh.specs.declared.lowering.Lowering.{Lowering}
use Rattle.lowering_parts.specs.declared.gathered.Gathered.{Gathered}
use Rattle.lowering_parts.specs.Gathered.{AreWhole, Begins, Follows, Gathers, GoesOn, Later, Makes, made_of, state_of, trees_at}
use Rattle.lowering_parts.proofs.Going.{begins_same, goes_named, goes_then}
use Rattle.lowering_parts.proofs.Grown.{kept-then}
use Rattle.expr_lowering.proofs.Following.{bundle_follows, keys_later, follows_from, follows_same, given_follows, makes_from, makes_next, same_next, trees_later}
use Rattle.expr_lowering.proofs.Ruled.{apart_rule, lower_apart, lower_stays, names_alike, operands_as, states_alike}

-- the select of operands under fresh names, and the sort of it in a sort by keys
module _ (at : ℕ) (input : Stream) where
  abbrev pub named_select : List Operand → State → Made
  named_select os s = selected at input (under (new_names os s) os) (after_names os s)

  abbrev pub keyed_sort : List Bool → List Bool → List Operand → State → Made
  keyed_sort d u os s =
      let m = named_select os s in
      over_same at (in_memory_map (sort (record { keys = columns_named (other_names (new_names os s)); descending = d; nulls_last = u; cut = None }))) m.stream m.state

-- the names of a filter, put into one list
pub pushed_two : {xs ys : List Name} {u v x y : Name} → xs ≡ u ∷ [] → u ≡ x → v ≡ y → ys ≡ xs ++ v ∷ [] → ys ≡ x ∷ y ∷ []
pushed_two {xs = xs} {ys = ys} {u = u} {v = v} {x = x} {y = y} one first second more = more ∙ (λ i. one i ++ second i ∷ []) ∙ ap (λ n. n ∷ y ∷ []) first

-- an expression whose tree is known, later on
pub tree_later : (b later : List AExpr) → KeepsTrees b later → (n : Node) (t : Tree) → tree_at b n ≡ t → IsComplete t → tree_at later n ≡ t
tree_later b later keeps n t e whole = keeps n (subst IsComplete (sym e) whole) ∙ e

pub is_column : (b : List AExpr) (n : Node) (name : Name) → tree_at b n ≡ Tree.column name → IsExpression b n
is_column b n name e = subst IsComplete (sym e) tt

abbrev tail : List Tree → List Tree
tail [] = []
tail (t ∷ ts) = ts

pub columns_whole : (ns : List Name) → AllByRecursion IsComplete (columns_named ns)
columns_whole [] = tt
columns_whole (n ∷ ns) = (tt, columns_whole ns)

as_many_columns : (ns : List Name) → length (columns_named ns) ≡ length ns
as_many_columns [] = refl
as_many_columns (n ∷ ns) = ap suc (as_many_columns ns)

-- what isn't elementwise goes by the rule of its kind
pub arm_rule : (at : ℕ) (input : Stream) (e t : Tree) → e ≡ t → is_elementwise e ≡ false → lower at input e ≡ apart_rule at input t
arm_rule at input e t is apart = lower_apart at input e apart ∙ ap (apart_rule at input) is

-- of a sort by keys, whose parts were copied
pub sort_by_arm : (at : ℕ) (input : Stream) (f : Node → Tree) (e : Tree) (values : Node) (by ns : List Node) (d u d' u' : List Bool) → e ≡ Tree.sort_by d u (f values) (trees_of f by) → is_elementwise e ≡ false → ns ≡ by → d' ≡ d → u' ≡ u
    → lower at input e ≡ sorted_by at input d' u' (as_operand at input (f values)) (map (as_operand at input) (trees_at f ns))
sort_by_arm at input f e values by ns d u d' u' is apart same sd su =
    arm_rule at input e (Tree.sort_by d u (f values) (trees_of f by)) is apart
    ∙ (λ i. sorted_by at input (sym sd i) (sym su i) (as_operand at input (f values)) ((operands_as at input f by ∙ ap (λ (xs : List Node). map (as_operand at input) (trees_at f xs)) (sym same)) i))

-- what stays, since it is elementwise
pub stay_follows : (at : ℕ) (input : Stream) (e : Tree) → is_elementwise e ≡ true → (r : Result (Unit {0}) PolarsError) (a b : List AExpr) (l l1 m : Lowering) (c d : Gathered) → ((f : Node → Tree) → state_of f l1 ≡ state_of f l) → GoesOn a a l l1
    → OnOk r (Follows (stays at input e) a b l1 m c d) → OnOk r (Follows (lower at input e) a b l m c d)
stay_follows at input e is (Ok x) a b l l1 m c d same origin h =
    follows_same (stays at input e) (lower at input e) (sym (lower_stays at input e is)) a b l m c d (follows_from (stays at input e) a b l l1 m c d same origin h)
stay_follows at input e is (Err x) a b l l1 m c d same origin h = tt

-- what holds of a call that went well, by its four clauses
pub ok_then : {A B C D Q : Type 0} (r : Result (Unit {0}) PolarsError) → (A → B → C → D → Q) → OnOk r A → OnOk r B → OnOk r C → OnOk r D → OnOk r Q
ok_then (Ok x) q a b c d = q a b c d
ok_then (Err x) q a b c d = tt

-- the values sorted by themselves
pub sort_follows : (input : Stream) (e : Node) (d u : Bool) (a a1 b : List AExpr) (l l1 m p : Lowering) (c g : Gathered) (name : Name) (names : List Name) (s t : PhysStream) (column : Node) (k : PhysNodeKind)
    → Remembers a l.cache → AreWhole a c → name ≡ fresh_name l.names → l1 ≡ record l { names = after_fresh l.names } → names ≡ name ∷ []
    → Makes (selected l1.origin.0 input (under names (map (as_operand l1.origin.0 input) (trees_at (tree_at a) (e ∷ []))))) a a1 l1 m s
    → Begins a1 b → KeepsTrees a1 b → tree_at b column ≡ Tree.column name
    → ((f : Node → Tree) → kind_of f k ≡ in_memory_map (sort (record { keys = f column ∷ []; descending = d ∷ []; nulls_last = u ∷ []; cut = None })))
    → ((f : Node → Tree) → made_of f p t ≡ over_same m.origin.0 (kind_of f k) (stream_of s) (state_of f m)) → Begins m.phys_sm.slots p.phys_sm.slots → p ≡ record m { phys_sm = p.phys_sm }
    → streams_of g.streams ≡ added (stream_of t) (streams_of c.streams) → g.reduced.items ≡ c.reduced.items → g.exprs.items ≡ c.exprs.items ++ column ∷ [] → g.mapped.items ≡ c.mapped.items
    → Follows (sorted_column l.origin.0 input d u (as_operand l.origin.0 input (tree_at a e))) a b l p c g
sort_follows input e d u a a1 b l l1 m p c g name names s t column k known whole fresh next list makes entries keeps tree kind over nodes others es er ee em =
    let at = l.origin.0 in
    let first : State → Made = λ st. selected at input ((new_name st, as_operand at input (tree_at a e)) ∷ []) (after_name st) in
    let kinds : State → PhysicalKind = λ st. in_memory_map (sort (record { keys = Tree.column (new_name st) ∷ []; descending = d ∷ []; nulls_last = u ∷ []; cut = None })) in
    let own : tree_at b column ≡ Tree.column (fresh_name l.names) = tree ∙ ap Tree.column fresh in
    let before = makes_from (selected l1.origin.0 input (under names (map (as_operand l1.origin.0 input) (trees_at (tree_at a) (e ∷ []))))) first a a1 l l1 m s makes (goes_named a l l1 known next)
    (λ f i. selected (next i).origin.0 input (under ((list ∙ ap (λ n. n ∷ []) fresh) i) (map (as_operand (next i).origin.0 input) (trees_at (tree_at a) (e ∷ [])))) (state_of f (next i))) in
    let made = same_next first kinds a a1 b l m p s t k before entries keeps nodes others
    (λ later h. kind (tree_at later) ∙ ap (λ x. in_memory_map (sort (record { keys = x ∷ []; descending = d ∷ []; nulls_last = u ∷ []; cut = None }))) (tree_later b later h column (Tree.column (fresh_name l.names)) own tt)) over in
    given_follows (λ st. let x = first st in over_same at (kinds st) x.stream x.state) (λ st. Tree.column (new_name st)) a b l p c g t column made whole
    (λ later h. tree_later b later h column (Tree.column (fresh_name l.names)) own tt) (is_column b column (fresh_name l.names) own) es er ee em

-- the values filtered
pub filter_follows : (input : Stream) (e by : Node) (a a1 b : List AExpr) (l l1 l2 m p : Lowering) (c g : Gathered) (name other : Name) (names : List Name) (s t : PhysStream) (column test : Node) (k : PhysNodeKind)
    → Remembers a l.cache → AreWhole a c → name ≡ fresh_name l.names → l1 ≡ record l { names = after_fresh l.names } → other ≡ fresh_name l1.names → l2 ≡ record l1 { names = after_fresh l1.names } → names ≡ name ∷ other ∷ []
    → Makes (selected l2.origin.0 input (under names (map (as_operand l2.origin.0 input) (trees_at (tree_at a) (e ∷ by ∷ []))))) a a1 l2 m s
    → Begins a1 b → KeepsTrees a1 b → tree_at b column ≡ Tree.column name → tree_at b test ≡ Tree.column other → ((f : Node → Tree) → kind_of f k ≡ filter_node (f test))
    → ((f : Node → Tree) → made_of f p t ≡ over_same m.origin.0 (kind_of f k) (stream_of s) (state_of f m)) → Begins m.phys_sm.slots p.phys_sm.slots → p ≡ record m { phys_sm = p.phys_sm }
    → streams_of g.streams ≡ added (stream_of t) (streams_of c.streams) → g.reduced.items ≡ c.reduced.items → g.exprs.items ≡ c.exprs.items ++ column ∷ [] → g.mapped.items ≡ c.mapped.items
    → Follows (filtered_column l.origin.0 input (as_operand l.origin.0 input (tree_at a e)) (as_operand l.origin.0 input (tree_at a by))) a b l p c g
filter_follows input e by a a1 b l l1 l2 m p c g name other names s t column test k known whole fresh next fresh2 next2 list makes entries keeps tree tree2 kind over nodes others es er ee em =
    let at = l.origin.0 in
    let os : List Operand = as_operand at input (tree_at a e) ∷ as_operand at input (tree_at a by) ∷ [] in
    let first : State → Made = λ st. selected at input (under (new_names os st) os) (after_names os st) in
    let kinds : State → PhysicalKind = λ st. filter_node (Tree.column (new_name (after_name st))) in
    let second : other ≡ fresh_name (after_fresh l.names) = fresh2 ∙ ap (λ (x : Lowering). fresh_name x.names) next in
    let l2-is : l2 ≡ record l { names = after_fresh (after_fresh l.names) } = next2 ∙ ap (λ (x : Lowering). record x { names = after_fresh x.names }) next in
    let own : tree_at b column ≡ Tree.column (fresh_name l.names) = tree ∙ ap Tree.column fresh in
    let own2 : tree_at b test ≡ Tree.column (fresh_name (after_fresh l.names)) = tree2 ∙ ap Tree.column second in
    let both : names ≡ fresh_name l.names ∷ fresh_name (after_fresh l.names) ∷ [] = list ∙ (λ i. fresh i ∷ second i ∷ []) in
    let before = makes_from (selected l2.origin.0 input (under names (map (as_operand l2.origin.0 input) (trees_at (tree_at a) (e ∷ by ∷ []))))) first a a1 l l2 m s makes (let first-name = goes_named a l l1 known next in goes_then a a a l l1 l2 first-name (goes_named a l1 l2 first-name.cache next2))
    (λ f i. selected (l2-is i).origin.0 input (under (both i) (map (as_operand (l2-is i).origin.0 input) (trees_at (tree_at a) (e ∷ by ∷ [])))) (state_of f (l2-is i))) in
    let made = same_next first kinds a a1 b l m p s t k before entries keeps nodes others
    (λ later h. kind (tree_at later) ∙ ap filter_node (tree_later b later h test (Tree.column (fresh_name (after_fresh l.names))) own2 tt)) over in
    given_follows (λ st. let x = first st in over_same at (kinds st) x.stream x.state) (λ st. Tree.column (new_name st)) a b l p c g t column made whole
    (λ later h. tree_later b later h column (Tree.column (fresh_name l.names)) own tt) (is_column b column (fresh_name l.names) own) es er ee em

-- an operator over operands that were lowered together
pub operator_follows : (rule : State → Bundle) (operator : List Tree → Tree) (a a1 b : List AExpr) (l m : Lowering) (c d g : Gathered) (n : Node) (t : Tree) → Gathers rule a a1 l m g → AreWhole a c → Begins a1 b → KeepsTrees a1 b → tree_at b n ≡ t → IsComplete t
    → t ≡ operator (trees_at (tree_at a1) g.exprs.items)
    → streams_of d.streams ≡ all_added (streams_of g.streams) (streams_of c.streams) → d.reduced.items ≡ c.reduced.items ++ g.reduced.items → d.exprs.items ≡ c.exprs.items ++ n ∷ [] → d.mapped.items ≡ c.mapped.items
    → Follows (λ call. given_bundle operator (rule call.state) call) a b l m c d
operator_follows rule operator a a1 b l m c d g n t h whole entries keeps tree complete over es er ee em =
    bundle_follows rule operator a a1 b l m c d g n h entries keeps whole
    (λ later k. tree_later b later k n t tree complete ∙ over ∙ ap operator (sym (trees_later a1 later (kept-then a1 b later keeps k) g.exprs.items h.whole.exprs))) (subst IsComplete (sym tree) complete) es er ee em

-- the expressions of named ones
pub keys_again : (f : Node → Tree) (es : List ExprIR) → exprs_of (named_trees f es) ≡ key_trees f es
keys_again f [] = refl
keys_again f (e ∷ es) = ap (λ more. f e.node ∷ more) (keys_again f es)

under_exprs : (ns : List Name) (ts : List Tree) → length ns ≡ length ts → exprs_of (under ns ts) ≡ ts
under_exprs [] [] e = refl
under_exprs [] (t ∷ ts) e = absurd (omega arith)
under_exprs (n ∷ ns) [] e = absurd (omega arith)
under_exprs (n ∷ ns) (t ∷ ts) e = ap (λ more. t ∷ more) (under_exprs ns ts (omega arith))

rest_of_keys : (f : Node → Tree) (keys : List ExprIR) (ns : List Name) (ts : List Tree) → named_trees f keys ≡ under ns ts → length ns ≡ length ts → key_trees f keys ≡ ts
rest_of_keys f keys ns ts e n = sym (keys_again f keys) ∙ ap exprs_of e ∙ under_exprs ns ts n

-- a column, and the keys that stand behind it
module _ (f : Node → Tree) (names others : List Name) (x : Name) (columns keyed : List Node) (v : Node) (en : names ≡ x ∷ others) (ec : columns ≡ v ∷ keyed) (trees : trees_at f columns ≡ columns_named names) where
  columns-are : trees_at f (v ∷ keyed) ≡ columns_named (x ∷ others)
  columns-are = ap (trees_at f) (sym ec) ∙ trees ∙ ap columns_named en

  pub value_of_first : f v ≡ Tree.column (first_name names)
  value_of_first = ap first_tree columns-are ∙ ap (λ (ns : List Name). Tree.column (first_name ns)) (sym en)

  pub keys_of_rest : (keys : List ExprIR) → named_trees f keys ≡ under others (trees_at f keyed) → key_trees f keys ≡ columns_named (other_names names)
  keys_of_rest keys named =
      let rest : trees_at f keyed ≡ columns_named others = ap tail columns-are in
      rest_of_keys f keys others (trees_at f keyed) named (let h = ap length rest in let k = as_many_columns others in omega arith) ∙ rest ∙ ap (λ (ns : List Name). columns_named (other_names ns)) (sym en)

-- the values sorted by keys, which stand behind the first of the names
module _ (input : Stream) (o : Node) (by : List Node) (d u : List Bool) (a a1 b : List AExpr) (l l1 m p : Lowering) (names asked : List Name) (s t : PhysStream) (column : Node) (keys : List ExprIR) (k : PhysNodeKind)
    (ns : List Node) (all : ns ≡ o ∷ by) (fresh : (f : Node → Tree) → names ≡ new_names ns (state_of f l)) (next : (f : Node → Tree) → state_of f l1 ≡ after_names ns (state_of f l)) (renamed : GoesOn a a l l1) (only : l1 ≡ record l { names = l1.names }) (same-names : asked ≡ names)
    (makes : Makes (selected l1.origin.0 input (under asked (map (as_operand l1.origin.0 input) (trees_at (tree_at a) ns)))) a a1 l1 m s)
    (entries : Begins a1 b) (keeps : KeepsTrees a1 b) (own : tree_at b column ≡ Tree.column (first_name names)) (keyed : key_trees (tree_at b) keys ≡ columns_named (other_names names))
    (kind : (f : Node → Tree) → kind_of f k ≡ in_memory_map (sort (record { keys = key_trees f keys; descending = d; nulls_last = u; cut = None })))
    (over : (f : Node → Tree) → made_of f p t ≡ over_same m.origin.0 (kind_of f k) (stream_of s) (state_of f m)) (nodes : Begins m.phys_sm.slots p.phys_sm.slots) (step : p ≡ record m { phys_sm = p.phys_sm }) where
  abbrev os : List Operand
  os = map (as_operand l.origin.0 input) (trees_at (tree_at a) (o ∷ by))

  many : (ns : List Node) → length (map (as_operand l.origin.0 input) (trees_at (tree_at a) ns)) ≡ length ns
  many [] = refl
  many (n ∷ ns) = ap suc (many ns)

  given-names : (f : Node → Tree) → names ≡ new_names os (state_of f l)
  given-names f = fresh f ∙ ap (λ (xs : List Node). new_names xs (state_of f l)) all ∙ names_alike (o ∷ by) os (state_of f l) (sym (many (o ∷ by)))

  keys-are : Later b (λ f. key_trees f keys ≡ columns_named (other_names names))
  keys-are later h = keys_later b later h keys (subst (AllByRecursion IsComplete) (sym keyed) (columns_whole (other_names names))) ∙ keyed

  -- the select, and the sort
  pub sort_by_made : Makes (keyed_sort l.origin.0 input d u (map (as_operand l.origin.0 input) (trees_at (tree_at a) (o ∷ by)))) a b l p t
  sort_by_made =
      let at = l.origin.0 in
      let first : State → Made = λ st. selected at input (under (new_names os st) os) (after_names os st) in
      let kinds : State → PhysicalKind = λ st. in_memory_map (sort (record { keys = columns_named (other_names (new_names os st)); descending = d; nulls_last = u; cut = None })) in
      let before = makes_from (selected l1.origin.0 input (under asked (map (as_operand l1.origin.0 input) (trees_at (tree_at a) ns)))) first a a1 l l1 m s makes renamed
      (λ f i. selected (only i).origin.0 input (under ((same-names ∙ given-names f) i) (map (as_operand (only i).origin.0 input) (trees_at (tree_at a) (all i))))
      ((next f ∙ ap (λ (xs : List Node). after_names xs (state_of f l)) all ∙ states_alike (o ∷ by) os (state_of f l) (sym (many (o ∷ by)))) i)) in
      same_next first kinds a a1 b l m p s t k before entries keeps nodes step
      (λ later h. kind (tree_at later) ∙ ap (λ x. in_memory_map (sort (record { keys = x; descending = d; nulls_last = u; cut = None }))) (keys-are later h ∙ ap (λ ms. columns_named (other_names ms)) (given-names (tree_at later)))) over

  -- the projection to the values
  pub sort_by_follows : (q : Lowering) (v : PhysStream) → ((f : Node → Tree) → made_of f q v ≡ with_columns p.origin.0 (first_name names ∷ []) (stream_of t) (state_of f p)) → Begins p.phys_sm.slots q.phys_sm.slots → q ≡ record p { phys_sm = q.phys_sm }
      → (c g : Gathered) → AreWhole a c → streams_of g.streams ≡ added (stream_of v) (streams_of c.streams) → g.reduced.items ≡ c.reduced.items → g.exprs.items ≡ c.exprs.items ++ column ∷ [] → g.mapped.items ≡ c.mapped.items
      → Follows (sorted_by l.origin.0 input d u (as_operand l.origin.0 input (tree_at a o)) (map (as_operand l.origin.0 input) (trees_at (tree_at a) by))) a b l q c g
  sort_by_follows q v kept nodes2 step2 c g whole es er ee em =
      let at = l.origin.0 in
      let made = sort_by_made in
      let values = makes_next (keyed_sort at input d u os) (λ st. with_columns at (first_name (new_names os st) ∷ [])) a b b l p q t v made (begins_same b) (λ n h. refl) nodes2 step2
      (λ later h. kept (tree_at later) ∙ (λ i. with_columns (made.goes_on.origin i).0 (first_name (given-names (tree_at later) i) ∷ []) (stream_of t) (state_of (tree_at later) p))) in
      given_follows (λ st. let n = keyed_sort at input d u os st in with_columns at (first_name (new_names os st) ∷ []) n.stream n.state) (λ st. Tree.column (first_name (new_names os st))) a b l q c g v column values whole
      (λ later h. tree_later b later h column (Tree.column (first_name names)) own tt ∙ ap (λ ms. Tree.column (first_name ms)) (given-names (tree_at later))) (is_column b column (first_name names) own) es er ee em
