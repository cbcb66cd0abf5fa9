-- Expressions that are taken apart, step by step.
use Rattle.std.proofs.Common.{◌≡◌, ℕ, zero, suc, ◌+◌, ◌<◌, ◌≤◌, true, false, List, [], ◌∷◌, ◌++◌, add-one, arith, get_or, length, refl, sym, ap, subst, ◌∙◌, take}
use Rattle.std.proofs.lemmas.List.Sums.{fold-append}
use Rattle.std.specs.Prelude.{Bool, IsTrue, Some}
use Rattle.std.specs.List.{AllByRecursion}
use Rattle.pu_base.specs.declared.arena.Node.{Node}
use Rattle.ps_copies.specs.Copies.{KeepsTrees}
use Rattle.ps_frame.specs.Trees.{IsComplete, IsExpression, Tree, entry_tree, tree_at, tree_size, trees_of, trees_size}
use Rattle.ps_frame.specs.declared.expr.AExpr.{AExpr}
use Rattle.ps_frame.specs.declared.expr.AExpr.TheVariants as entry
use Rattle.ps_meaning.specs.Steps.{Name, key_trees, name_in, named_trees}
use Rattle.ps_meaning.specs.declared.options.ExprIR.{ExprIR}
use Rattle.ps_rules.specs.Names.{after_fresh, fresh_name}
use Rattle.ps_fresh.specs.Known.{Remembers}
use Rattle.ps_fresh.specs.declared.lowering.Lowering.{Lowering}
use Rattle.plan_rules.specs.Reductions.{Apart, Split, aggregate_apart, split_aggregates, taken_apart, under_fresh_name, under_name, with_aggregate}
use Rattle.lowering_parts.specs.Gathered.{Begins, Later, trees_at}
use Rattle.lowering_parts.proofs.Going.{goes_added, goes_named, goes_nowhere, goes_then}
use Rattle.lowering_parts.proofs.Grown.{kept-then}
use Rattle.lowering_parts.proofs.LaterLemmas.{column_later, named_whole, named_whole_more, nodes_whole, nodes_whole_more}
use Rattle.expr_lowering.proofs.Following.{named_both, trees_last, trees_later}
use Rattle.group_lowering.specs.Groups.{AllApart, ComeApart, ComesApart, IsSplit, all_apart, all_apart_of, is_reduction, one_more_apart, operator_apart, split_of}

abbrev Holds : Bool → Type 0
Holds true = Unit {0}
Holds false = ⊥

never : false ≡ true → ⊥
never h = subst Holds (sym h) tt

-- a reduction gives place to a column; what stands over reductions doesn't
pub fresh_is : (t : Tree) → IsTrue (is_reduction t) → taken_apart t ≡ under_fresh_name t
fresh_is (Tree.aggregate a e) h = refl
fresh_is Tree.len h = refl
fresh_is t h = absurd (never h)

pub itself_is : (name : Name) (t : Tree) → IsTrue (is_reduction t) → aggregate_apart name t ≡ under_name name t
itself_is name (Tree.aggregate a e) h = refl
itself_is name Tree.len h = refl
itself_is name t h = absurd (never h)

pub apart_is : (name : Name) (t : Tree) → is_reduction t ≡ false → aggregate_apart name t ≡ taken_apart t
apart_is name (Tree.aggregate a e) h = absurd (never (sym h))
apart_is name Tree.len h = absurd (never (sym h))
apart_is name t h = refl

-- names that change once more
pub renamed_then : (l m p : Lowering) → m ≡ record l { names = m.names } → p ≡ record m { names = p.names } → p ≡ record l { names = p.names }
renamed_then l m p h e = e ∙ (λ i. record (h i) { names = p.names })

-- a reduction under a name, behind those that were found
module _ (a b : List AExpr) (l : Lowering) (found found' : List ExprIR) (expr column : Node) (name : Name) (e : ExprIR)
    (whole : IsExpression a expr) (known : Remembers a l.cache) (before : AllByRecursion IsComplete (key_trees (tree_at a) found))
    (entries : Begins a b) (keeps : KeepsTrees a b) (column-is : tree_at b column ≡ Tree.column name)
    (grown : found' ≡ found ++ e ∷ []) (named : name_in e.output_name ≡ name) (at-node : e.node ≡ expr) where
  found_more : Later b (λ f. named_trees f found' ≡ named_trees f found ++ (name, tree_at a expr) ∷ [])
  found_more later k =
      let f = tree_at later in
      let tree : f e.node ≡ tree_at a expr = ap f at-node ∙ kept-then a b later keeps k expr whole in
      ap (named_trees f) grown ∙ named_both f found (e ∷ []) ∙ (λ i. named_trees f found ++ (named i, tree i) ∷ [])

  found_whole : AllByRecursion IsComplete (key_trees (tree_at b) found')
  found_whole =
      let own : IsComplete (tree_at b e.node) = subst IsComplete (sym (ap (tree_at b) at-node ∙ keeps expr whole)) whole in
      subst (λ (es : List ExprIR). AllByRecursion IsComplete (key_trees (tree_at b) es)) (sym grown) (named_whole_more (tree_at b) found e (named_whole a b keeps found before) own)

  pub fresh_comes : (m : Lowering) → IsTrue (is_reduction (tree_at a expr)) → name ≡ fresh_name l.names → m ≡ record l { names = after_fresh l.names } → ComesApart (taken_apart (tree_at a expr)) a b l m found found' column
  fresh_comes m is fresh next =
      record {
        by_rule = λ later k.
            ((λ i. record { names = (ap (λ (x : Lowering). x.names) next) i; reductions = (found_more later k ∙ ap (λ n. named_trees (tree_at later) found ++ (n, tree_at a expr) ∷ []) fresh) i; expr = (column_later b later k column name column-is ∙ ap Tree.column fresh) i })
            ∙ (λ i. sym (fresh_is (tree_at a expr) is) i l.names (named_trees (tree_at later) found)));
        whole = subst IsComplete (sym column-is) tt;
        reductions = found_whole;
        others = next ∙ ap (λ n. record l { names = n }) (sym (ap (λ (x : Lowering). x.names) next));
        goes_on = goes_added a a b l m (goes_named a l m known next) entries keeps;
      }

  pub itself_comes : IsTrue (is_reduction (tree_at a expr)) → ComesApart (aggregate_apart name (tree_at a expr)) a b l l found found' column
  itself_comes is =
      record {
        by_rule = λ later k.
            ((λ i. record { names = l.names; reductions = found_more later k i; expr = column_later b later k column name column-is i })
            ∙ (λ i. sym (itself_is name (tree_at a expr) is) i l.names (named_trees (tree_at later) found)));
        whole = subst IsComplete (sym column-is) tt;
        reductions = found_whole;
        others = refl;
        goes_on = goes_added a a b l l (goes_nowhere a l l known refl) entries keeps;
      }

-- what holds no reduction stays
pub stays_whole : (a : List AExpr) (l : Lowering) (found : List ExprIR) (expr : Node) → IsExpression a expr → Remembers a l.cache → AllByRecursion IsComplete (key_trees (tree_at a) found)
    → taken_apart (tree_at a expr) ≡ (λ names es. record { names = names; reductions = es; expr = tree_at a expr }) → ComesApart (taken_apart (tree_at a expr)) a a l l found found expr
stays_whole a l found expr whole known before is =
    record {
      by_rule = λ later k. (λ i. record { names = l.names; reductions = named_trees (tree_at later) found; expr = k expr whole i }) ∙ (λ i. sym is i l.names (named_trees (tree_at later) found));
      whole = whole;
      reductions = before;
      others = refl;
      goes_on = goes_nowhere a l l known refl;
    }

-- an operator over operands that came apart
pub operator_comes : (operator : List Tree → Tree) (es : List Tree) (a b c : List AExpr) (l m : Lowering) (found found' : List ExprIR) (taken : List Node) (n : Node) → ComeApart es a b l m found found' taken → Begins b c → KeepsTrees b c
    → Later c (λ f. f n ≡ operator (trees_at f taken)) → IsExpression c n → ComesApart (operator_apart operator es) a c l m found found' n
operator_comes operator es a b c l m found found' taken n h entries keeps is whole =
    record {
      by_rule = λ later k.
          (let x = h.by_rule later (kept-then b c later keeps k) in
          λ i. record { names = (x i).names; reductions = (x i).reductions; expr = (is later k ∙ ap (λ (y : AllApart). operator y.exprs) x) i });
      whole = whole;
      reductions = named_whole b c keeps found' h.reductions;
      others = h.others;
      goes_on = goes_added a b c l m h.goes_on entries keeps;
    }

-- no expression is taken apart yet
pub none_apart : (a : List AExpr) (l : Lowering) (found : List ExprIR) (taken : List Node) → taken ≡ [] → Remembers a l.cache → AllByRecursion IsComplete (key_trees (tree_at a) found) → ComeApart [] a a l l found found taken
none_apart a l found taken none known before =
    record {
      by_rule = λ later k i. record { names = l.names; reductions = named_trees (tree_at later) found; exprs = trees_at (tree_at later) (none i) };
      whole = subst (λ (ns : List Node). AllByRecursion IsComplete (trees_at (tree_at a) ns)) (sym none) tt;
      reductions = before;
      others = refl;
      goes_on = goes_nowhere a l l known refl;
    }

-- one more of several
trees_next : (f : Node → Tree) (ns : List Node) (i : ℕ) (d : Node) → i < length ns → trees_at f (take (i + 1) ns) ≡ trees_at f (take i ns) ++ f (get_or ns i d) ∷ []
trees_next f ns i d lt = rw add-one (next ns i lt)
  where
    next : (ns : List Node) (i : ℕ) → i < length ns → trees_at f (take (suc i) ns) ≡ trees_at f (take i ns) ++ f (get_or ns i d) ∷ []
    next [] i lt = absurd (omega arith)
    next (n ∷ ns) zero lt = refl
    next (n ∷ ns) (suc i) lt = ap (λ es. f n ∷ es) (next ns i (omega arith))

-- an item of a list of expressions is one, and no larger than all
pub item_whole : (f : Node → Tree) (ns : List Node) (i : ℕ) (d : Node) → i < length ns → AllByRecursion IsComplete (trees_at f ns) → IsComplete (f (get_or ns i d))
item_whole f [] i d lt h = absurd (omega arith)
item_whole f (n ∷ ns) zero d lt h = h.0
item_whole f (n ∷ ns) (suc i) d lt h = item_whole f ns i d (omega arith) h.1

pub item_smaller : (f : Node → Tree) (ns : List Node) (i : ℕ) (d : Node) → i < length ns → tree_size (f (get_or ns i d)) ≤ trees_size (trees_of f ns)
item_smaller f [] i d lt = absurd (omega arith)
item_smaller f (n ∷ ns) zero d lt = omega arith
item_smaller f (n ∷ ns) (suc i) d lt = let le = item_smaller f ns i d (omega arith) in omega arith

pub next_apart : (ns : List Node) (i : ℕ) (d : Node) (a b c : List AExpr) (l m p : Lowering) (found found1 found2 : List ExprIR) (taken taken' : List Node) (n one : Node) → i < length ns → n ≡ get_or ns i d → AllByRecursion IsComplete (trees_at (tree_at a) ns)
    → ComeApart (trees_at (tree_at a) (take i ns)) a b l m found found1 taken → ComesApart (taken_apart (tree_at b n)) b c m p found1 found2 one → taken' ≡ taken ++ one ∷ []
    → ComeApart (trees_at (tree_at a) (take (i + 1) ns)) a c l p found found2 taken'
next_apart ns i d a b c l m p found found1 found2 taken taken' n one lt at-n whole all h more =
    let tree : tree_at b n ≡ tree_at a (get_or ns i d) = ap (tree_at b) at-n ∙ all.goes_on.trees (get_or ns i d) (item_whole (tree_at a) ns i d lt whole) in
    record {
      by_rule = λ later k.
          (let f = tree_at later in
          let start : AllApart = record { names = l.names; reductions = named_trees f found; exprs = [] } in
          let x = h.by_rule later k in
          let y = all.by_rule later (kept-then b c later h.goes_on.trees k) in
          let here : all_apart_of f p found2 taken' ≡ one_more_apart (all_apart_of f m found1 taken) (tree_at b n) =
          (λ j. record { names = (x j).names; reductions = (x j).reductions; exprs = (ap (trees_at f) more ∙ trees_last f taken one ∙ ap (λ (z : Apart). trees_at f taken ++ z.expr ∷ []) x) j }) in
          here ∙ (λ j. one_more_apart (y j) (tree j))
          ∙ sym (fold-append one_more_apart start (trees_at (tree_at a) (take i ns)) (tree_at a (get_or ns i d) ∷ []))
          ∙ ap (λ es. all_apart es l.names (named_trees f found)) (sym (trees_next (tree_at a) ns i d lt)));
      whole = subst (λ (ks : List Node). AllByRecursion IsComplete (trees_at (tree_at c) ks)) (sym more) (nodes_whole_more (tree_at c) taken one (nodes_whole b c h.goes_on.trees taken all.whole) h.whole);
      reductions = h.reductions;
      others = renamed_then l m p all.others h.others;
      goes_on = goes_then a b c l m p all.goes_on h.goes_on;
    }

-- nothing is split yet
pub none_split : (a : List AExpr) (l : Lowering) (found above : List ExprIR) → found ≡ [] → above ≡ [] → Remembers a l.cache → IsSplit (split_aggregates []) a a l l found above
none_split a l found above no-found no-above known =
    let P : List ExprIR → Type 0 = λ es. AllByRecursion IsComplete (key_trees (tree_at a) es) in
    record {
      by_rule = λ later k i. record { names = l.names; reductions = named_trees (tree_at later) (no-found i); above = named_trees (tree_at later) (no-above i) };
      whole = subst P (sym no-found) tt;
      above_whole = subst P (sym no-above) tt;
      others = refl;
      goes_on = goes_nowhere a l l known refl;
    }

named_next : (f : Node → Tree) (es : List ExprIR) (i : ℕ) (e : ExprIR) → i < length es → e ≡ get_or es i e → named_trees f (take (i + 1) es) ≡ named_trees f (take i es) ++ (name_in e.output_name, f e.node) ∷ []
named_next f es i e lt at-e = rw add-one (next es i lt) ∙ ap (λ (x : ExprIR). named_trees f (take i es) ++ (name_in x.output_name, f x.node) ∷ []) (sym at-e)
  where
    next : (es : List ExprIR) (i : ℕ) → i < length es → named_trees f (take (suc i) es) ≡ named_trees f (take i es) ++ (name_in (get_or es i e).output_name, f (get_or es i e).node) ∷ []
    next [] i lt = absurd (omega arith)
    next (x ∷ es) zero lt = refl
    next (x ∷ es) (suc i) lt = ap (λ more. (name_in x.output_name, f x.node) ∷ more) (next es i (omega arith))

pub asked_whole : (f : Node → Tree) (es : List ExprIR) (i : ℕ) (e : ExprIR) → i < length es → e ≡ get_or es i e → AllByRecursion IsComplete (key_trees f es) → IsComplete (f e.node)
asked_whole f es i e lt at-e h = subst (λ (x : ExprIR). IsComplete (f x.node)) (sym at-e) (item es i lt h)
  where
    item : (es : List ExprIR) (i : ℕ) → i < length es → AllByRecursion IsComplete (key_trees f es) → IsComplete (f (get_or es i e).node)
    item [] i lt h = absurd (omega arith)
    item (x ∷ es) zero lt h = h.0
    item (x ∷ es) (suc i) lt h = item es i (omega arith) h.1

-- one more aggregate
pub next_split : (aggs : List ExprIR) (i : ℕ) (a b c : List AExpr) (l m p : Lowering) (found found' above above' : List ExprIR) (e named : ExprIR) (one : Node) → i < length aggs → e ≡ get_or aggs i e → AllByRecursion IsComplete (key_trees (tree_at a) aggs)
    → IsSplit (split_aggregates (named_trees (tree_at a) (take i aggs))) a b l m found above → ComesApart (aggregate_apart (name_in e.output_name) (tree_at b e.node)) b c m p found found' one
    → name_in named.output_name ≡ name_in e.output_name → named.node ≡ one → above' ≡ above ++ named ∷ []
    → IsSplit (split_aggregates (named_trees (tree_at a) (take (i + 1) aggs))) a c l p found' above'
next_split aggs i a b c l m p found found' above above' e named one lt at-e whole all h name node more =
    let tree : tree_at b e.node ≡ tree_at a e.node = all.goes_on.trees e.node (asked_whole (tree_at a) aggs i e lt at-e whole) in
    record {
      by_rule = λ later k.
          (let f = tree_at later in
          let start : Split = record { names = l.names; reductions = []; above = [] } in
          let x = h.by_rule later k in
          let y = all.by_rule later (kept-then b c later h.goes_on.trees k) in
          let here : split_of f p found' above' ≡ with_aggregate (split_of f m found above) (name_in e.output_name, tree_at b e.node) =
          (λ j. record { names = (x j).names; reductions = (x j).reductions; above = (ap (named_trees f) more ∙ named_both f above (named ∷ []) ∙ (λ v. named_trees f above ++ (name v, f (node v)) ∷ []) ∙ ap (λ (z : Apart). named_trees f above ++ (name_in e.output_name, z.expr) ∷ []) x) j }) in
          here ∙ (λ j. with_aggregate (y j) (name_in e.output_name, tree j))
          ∙ sym (fold-append with_aggregate start (named_trees (tree_at a) (take i aggs)) ((name_in e.output_name, tree_at a e.node) ∷ []))
          ∙ ap (λ es. split_aggregates es l.names) (sym (named_next (tree_at a) aggs i e lt at-e)));
      whole = h.reductions;
      above_whole =
          (let own : IsComplete (tree_at c named.node) = subst (λ (n : Node). IsComplete (tree_at c n)) (sym node) h.whole in
          subst (λ (es : List ExprIR). AllByRecursion IsComplete (key_trees (tree_at c) es)) (sym more) (named_whole_more (tree_at c) above named (named_whole b c h.goes_on.trees above all.above_whole) own));
      others = renamed_then l m p all.others h.others;
      goes_on = goes_then a b c l m p all.goes_on h.goes_on;
    }

-- an entry over operands that came apart, whatever is added later
pub operator_later : (operator : List Tree → Tree) (b c : List AExpr) → KeepsTrees b c → (taken slice : List Node) (n : Node) (t : Tree) → slice ≡ taken → AllByRecursion IsComplete (trees_at (tree_at b) taken) → tree_at c n ≡ t → IsComplete t
    → t ≡ operator (trees_at (tree_at b) slice) → Later c (λ f. f n ≡ operator (trees_at f taken))
operator_later operator b c keeps taken slice n t same whole is complete over later k =
    k n (subst IsComplete (sym is) complete) ∙ is ∙ over ∙ ap (λ (ns : List Node). operator (trees_at (tree_at b) ns)) same ∙ ap operator (sym (trees_later b later (kept-then b c later keeps k) taken whole))

-- the entries in which no reduction gives place
abbrev pub Stays : AExpr → Type 0
Stays (entry.Column name) = Unit {0}
Stays (entry.Literal l) = Unit {0}
Stays (entry.Sort e d n) = Unit {0}
Stays (entry.SortBy e by d n) = Unit {0}
Stays (entry.Gather e i s) = Unit {0}
Stays (entry.Filter e by) = Unit {0}
Stays (entry.Slice e o l) = Unit {0}
Stays (entry.LeftOut w) = Unit {0}
Stays _ = ⊥

entry_stays : (f : Node → Tree) (x : AExpr) → Stays x → taken_apart (entry_tree f (Some x)) ≡ (λ names es. record { names = names; reductions = es; expr = entry_tree f (Some x) })
entry_stays f (entry.Column name) h = refl
entry_stays f (entry.Literal l) h = refl
entry_stays f (entry.Sort e d n) h = refl
entry_stays f (entry.SortBy e by d n) h = refl
entry_stays f (entry.Gather e i s) h = refl
entry_stays f (entry.Filter e by) h = refl
entry_stays f (entry.Slice e o l) h = refl
entry_stays f (entry.LeftOut w) h = refl
entry_stays f x h = absurd h

pub stays_in : (a : List AExpr) (l : Lowering) (found : List ExprIR) (expr : Node) (x e : AExpr) → IsExpression a expr → Remembers a l.cache → AllByRecursion IsComplete (key_trees (tree_at a) found) → tree_at a expr ≡ entry_tree (tree_at a) (Some x) → x ≡ e → Stays e
    → ComesApart (taken_apart (tree_at a expr)) a a l l found found expr
stays_in a l found expr x e whole known before is at h =
    let tree : tree_at a expr ≡ entry_tree (tree_at a) (Some e) = is ∙ ap (λ (y : AExpr). entry_tree (tree_at a) (Some y)) at in
    stays_whole a l found expr whole known before (ap taken_apart tree ∙ entry_stays (tree_at a) e h ∙ (λ i names es. record { names = names; reductions = es; expr = sym tree i }))
