-- A distinct, put together from what its steps make.
use Rattle.std.proofs.Common.{◌≡◌, ℕ, ◌+◌, ◌<◌, true, false, cond, List, [], ◌∷◌, ◌++◌, add-one, get_or, length, refl, sym, ap, subst, ◌∙◌, take}
use Rattle.std.proofs.Math.Seq.{take-suc}
use Rattle.std.proofs.lemmas.List.Elements.{filter-append}
use Rattle.std.proofs.lemmas.List.Folds.{list_any-append}
use Rattle.std.specs.Cmp.{nat_eq_equiv}
use Rattle.std.specs.Cmp.Lexicographic.{lists_equiv}
use Rattle.std.specs.Prelude.{◌&&◌, ◌||◌, Bool, Err, IfOk, None, Ok, Result, not, unwrap_or}
use Rattle.std.specs.List.{AllByRecursion}
use Rattle.std.specs.Str.{bytes_eq}
use Rattle.pu_base.specs.declared.arena.Node.{Node}
use Rattle.ps_copies.specs.Copies.{KeepsTrees}
use Rattle.ps_frame.specs.Trees.{IsComplete, Tree, tree_at}
use Rattle.ps_frame.specs.declared.expr.AExpr.{AExpr}
use Rattle.ps_frame.specs.declared.refusal.PolarsError.{PolarsError}
use Rattle.ps_meaning.specs.Schemas.{is_among, names_of}
use Rattle.ps_meaning.specs.Shape.{filter_node}
use Rattle.ps_meaning.specs.Steps.{DistinctStep, Name, exprs_of, key_trees, name_in, named_trees}
use Rattle.ps_meaning.specs.declared.options.ExprIR.{ExprIR}
use Rattle.ps_meaning.specs.declared.options.UniqueKeepStrategy.{UniqueKeepStrategy}
use Rattle.ps_phys.specs.Shown.{stream_of}
use Rattle.ps_phys.specs.declared.phys.PhysStream.{PhysStream}
use Rattle.ps_rules.specs.Names.{after_fresh, fresh_name}
use Rattle.ps_rules.specs.Slots.{Made, State, Stream, over_same, schema_at, with_columns}
use Rattle.ps_fresh.specs.Known.{Remembers}
use Rattle.ps_fresh.specs.declared.lowering.Lowering.{Lowering}
use Rattle.plan_rules.specs.Distinct.{distinct_stream, grouped_distinct, groups_with, is_one, keeps_last, keeps_none, kept_groups, kept_value, kept_values, mapped_distinct, other_than, single_rows}
use Rattle.plan_rules.specs.Groups.{group_stream, own_columns}
use Rattle.plan_rules.specs.Slices.{cut_stream}
use Rattle.lowering_parts.specs.Gathered.{Begins, Makes, made_of, state_of}
use Rattle.lowering_parts.proofs.Going.{goes_added, goes_built, goes_named, goes_nowhere, goes_then}
use Rattle.lowering_parts.proofs.Grown.{kept-then}
use Rattle.expr_lowering.proofs.Following.{named_both}
use Rattle.group_lowering.specs.Groups.{group_of}
use Rattle.group_lowering.proofs.GroupLemmas.{named_as, named_later, own_whole}

take_next : {A : Type 0} (xs : List A) (i : ℕ) (x : A) → i < length xs → x ≡ get_or xs i x → take (i + 1) xs ≡ take i xs ++ x ∷ []
take_next xs i x lt at = rw add-one (take-suc xs i x lt) ∙ ap (λ y. take i xs ++ y ∷ []) (sym at)

-- one more name that isn't a key
pub others_next : (keys all now next : List Name) (i : ℕ) (name : Name) → i < length all → name ≡ get_or all i name → now ≡ other_than keys (take i all) → next ≡ now ++ other_than keys (name ∷ []) → next ≡ other_than keys (take (i + 1) all)
others_next keys all now next i name lt at h e =
    e ∙ ap (λ xs. xs ++ other_than keys (name ∷ [])) h ∙ sym (filter-append (λ n. not (is_among n keys)) (take i all) (name ∷ [])) ∙ ap (other_than keys) (sym (take_next all i name lt at))

-- one more name of a set
pub set_next : (names : List Name) (i : ℕ) (name : Name) (had has : Name → Bool) → i < length names → name ≡ get_or names i name → ((n : Name) → had n ≡ is_among n (take i names)) → ((n : Name) → has n ≡ cond (bytes_eq name n) true (had n))
    → (n : Name) → has n ≡ is_among n (take (i + 1) names)
set_next names i name had has lt at h put n =
    put n ∙ put_in (bytes_eq name n) (had n) ∙ (λ j. h n j || ((lists_equiv nat_eq_equiv).symm name n j || false)) ∙ sym (list_any-append (bytes_eq n) (take i names) (name ∷ [])) ∙ ap (is_among n) (sym (take_next names i name lt at))
  where
    put_in : (a b : Bool) → cond a true b ≡ (b || (a || false))
    put_in true true = refl
    put_in true false = refl
    put_in false true = refl
    put_in false false = refl

-- one more kept value
kept_whole : (keep : UniqueKeepStrategy) (ns : List Name) → AllByRecursion IsComplete (exprs_of (kept_values keep ns))
kept_whole keep [] = tt
kept_whole keep (n ∷ ns) = (tt, kept_whole keep ns)

kept_both : (keep : UniqueKeepStrategy) (xs ys : List Name) → kept_values keep (xs ++ ys) ≡ kept_values keep xs ++ kept_values keep ys
kept_both keep [] ys = refl
kept_both keep (x ∷ xs) ys = ap (λ more. (x, Tree.aggregate (kept_value keep) (Tree.column x)) ∷ more) (kept_both keep xs ys)

pub kept_next : (keep : UniqueKeepStrategy) (names : List Name) (i : ℕ) (name : Name) (a b : List AExpr) (now next : List ExprIR) (e : ExprIR) → KeepsTrees a b → i < length names → name ≡ get_or names i name → named_trees (tree_at a) now ≡ kept_values keep (take i names)
    → next ≡ now ++ e ∷ [] → name_in e.output_name ≡ name → tree_at b e.node ≡ Tree.aggregate (kept_value keep) (Tree.column name) → named_trees (tree_at b) next ≡ kept_values keep (take (i + 1) names)
kept_next keep names i name a b now next e keeps lt at h more named tree =
    let whole : AllByRecursion IsComplete (key_trees (tree_at a) now) = named_as (tree_at a) now (kept_values keep (take i names)) h (kept_whole keep (take i names)) in
    ap (named_trees (tree_at b)) more ∙ named_both (tree_at b) now (e ∷ [])
    ∙ (λ j. (named_later a b keeps now whole ∙ h) j ++ (named j, tree j) ∷ [])
    ∙ sym (kept_both keep (take i names) (name ∷ [])) ∙ ap (kept_values keep) (sym (take_next names i name lt at))

pub values_whole : (keep : UniqueKeepStrategy) (names : List Name) (f : Node → Tree) (es : List ExprIR) → named_trees f es ≡ kept_values keep names → AllByRecursion IsComplete (key_trees f es)
values_whole keep names f es e = named_as f es (kept_values keep names) e (kept_whole keep names)

pub columns_whole : (names : List Name) (f : Node → Tree) (es : List ExprIR) → named_trees f es ≡ own_columns names → AllByRecursion IsComplete (key_trees f es)
columns_whole names f es e = named_as f es (own_columns names) e (own_whole names)

-- groups by the key columns
module _ (input : Stream) (o : DistinctStep) (names by others : List Name) (keys values more aggs : List ExprIR) (a b c : List AExpr) (l : Lowering)
    (names-are : (f : Node → Tree) → names ≡ names_of (schema_at (state_of f l).nodes input)) (by-is : by ≡ unwrap_or o.subset names) (others-are : others ≡ other_than by names)
    (entries : Begins a b) (keeps : KeepsTrees a b) (keys-are : named_trees (tree_at b) keys ≡ own_columns by)
    (entries2 : Begins b c) (keeps2 : KeepsTrees b c) (values-are : named_trees (tree_at c) values ≡ kept_values o.keep others)
    (whole : AllByRecursion IsComplete (key_trees (tree_at a) more)) (all : aggs ≡ values ++ more) where
  keys_later : named_trees (tree_at c) keys ≡ own_columns by
  keys_later = named_later b c keeps2 keys (columns_whole by (tree_at b) keys keys-are) ∙ keys-are

  more_later : named_trees (tree_at c) more ≡ named_trees (tree_at a) more
  more_later = named_later a c (kept-then a b c keeps keeps2) more whole

  aggs_later : named_trees (tree_at c) aggs ≡ kept_values o.keep others ++ named_trees (tree_at a) more
  aggs_later = ap (named_trees (tree_at c)) all ∙ named_both (tree_at c) values more ∙ (λ i. values-are i ++ more_later i)

  pub keys_complete : AllByRecursion IsComplete (key_trees (tree_at c) keys)
  keys_complete = columns_whole by (tree_at c) keys keys_later

  pub with_made : (d : List AExpr) (m : Lowering) (s : PhysStream) → Remembers a l.cache → Makes (group_stream l.origin.0 (group_of (tree_at c) keys aggs o.maintain_order None) input) c d l m s
      → Makes (groups_with l.origin.0 (named_trees (tree_at a) more) o input) a d l m s
  with_made d m s known made =
      record {
        by_rule = λ later k.
            (let f = tree_at later in
            let by-rule : by ≡ unwrap_or o.subset (names_of (schema_at (state_of f l).nodes input)) = by-is ∙ ap (unwrap_or o.subset) (names-are f) in
            let others-rule : others ≡ other_than (unwrap_or o.subset (names_of (schema_at (state_of f l).nodes input))) (names_of (schema_at (state_of f l).nodes input)) = others-are ∙ (λ i. other_than (by-rule i) (names-are f i)) in
            made.by_rule later k
            ∙ (λ i. group_stream l.origin.0 (record { keys = (keys_later ∙ ap own_columns by-rule) i; aggregates = (aggs_later ∙ ap (λ ns. kept_values o.keep ns ++ named_trees (tree_at a) more) others-rule) i; maintain_order = o.maintain_order; cut = None }) input (state_of f l)));
        goes_on = goes_then a c d l l m (goes_added a b c l l (goes_added a a b l l (goes_nowhere a l l known refl) entries keeps) entries2 keeps2) made.goes_on;
      }

-- groups of one row
pub single_made : (input : Stream) (o : DistinctStep) (name : Name) (height : List ExprIR) (a b c d : List AExpr) (l l1 m q : Lowering) (g t : PhysStream) (p : Node) → Remembers a l.cache → name ≡ fresh_name l.names → l1 ≡ record l { names = after_fresh l.names }
    → Begins a b → KeepsTrees a b → named_trees (tree_at b) height ≡ (name, Tree.len) ∷ [] → Makes (groups_with l1.origin.0 (named_trees (tree_at b) height) o input) b c l1 m g
    → Begins c d → KeepsTrees c d → tree_at d p ≡ is_one name → ((f : Node → Tree) → made_of f q t ≡ over_same m.origin.0 (filter_node (f p)) (stream_of g) (state_of f m)) → Begins m.phys_sm.slots q.phys_sm.slots → q ≡ record m { phys_sm = q.phys_sm }
    → Makes (single_rows l.origin.0 o input) a d l q t
single_made input o name height a b c d l l1 m q g t p known fresh next entries keeps height-is groups entries2 keeps2 one made nodes others =
    let at = l.origin.0 in
    let from : m.origin ≡ l.origin = groups.goes_on.origin ∙ ap (λ (x : Lowering). x.origin) next in
    record {
      by_rule = λ later k.
          (let f = tree_at later in
          let x = groups.by_rule later (kept-then c d later keeps2 k) in
          let tree : f p ≡ is_one (fresh_name l.names) = k p (subst IsComplete (sym one) (tt, tt)) ∙ one ∙ ap is_one fresh in
          let height-rule : named_trees (tree_at b) height ≡ (fresh_name l.names, Tree.len) ∷ [] = height-is ∙ ap (λ n. (n, Tree.len) ∷ []) fresh in
          made f
          ∙ (λ i. over_same (from i).0 (filter_node (tree i)) (x i).stream (x i).state)
          ∙ (λ i. (let y = groups_with (next i).origin.0 (height-rule i) o input (state_of f (next i)) in over_same at (filter_node (is_one (fresh_name l.names))) y.stream y.state)));
      goes_on = goes_built a d l m q (goes_added a c d l m (goes_then a b c l l1 m (goes_added a a b l l1 (goes_named a l l1 known next) entries keeps) groups.goes_on) entries2 keeps2) nodes others;
    }

-- which groups
pub kept_single : (input : Stream) (o : DistinctStep) (r : Result PhysStream PolarsError) (a b : List AExpr) (l m : Lowering) (none : Bool) → none ≡ keeps_none o.keep → none ≡ true → IfOk r (Makes (single_rows l.origin.0 o input) a b l m) → IfOk r (Makes (kept_groups l.origin.0 o input) a b l m)
kept_single input o r a b l m none is h =
    let rule : (Stream → State → Made) → Type 0 = λ q. IfOk r (Makes (q input) a b l m) in
    subst rule (ap (λ x. cond x (single_rows l.origin.0 o) (groups_with l.origin.0 [] o)) (sym h ∙ is))

pub kept_any : (input : Stream) (o : DistinctStep) (more : List ExprIR) (r : Result PhysStream PolarsError) (a b : List AExpr) (l m : Lowering) (none : Bool) → none ≡ keeps_none o.keep → none ≡ false → more ≡ []
    → IfOk r (Makes (groups_with l.origin.0 (named_trees (tree_at a) more) o input) a b l m) → IfOk r (Makes (kept_groups l.origin.0 o input) a b l m)
kept_any input o more r a b l m none is h empty made =
    let rule : (Stream → State → Made) → Type 0 = λ q. IfOk r (Makes (q input) a b l m) in
    let bare : IfOk r (Makes (groups_with l.origin.0 [] o input) a b l m) = subst (λ (es : List ExprIR). IfOk r (Makes (groups_with l.origin.0 (named_trees (tree_at a) es) o input) a b l m)) empty made in
    subst rule (ap (λ x. cond x (single_rows l.origin.0 o) (groups_with l.origin.0 [] o)) (sym h ∙ is)) bare

-- the columns in order, and the slice
pub ordered_made : (input : Stream) (o : DistinctStep) (names : List Name) (a b : List AExpr) (l m n p : Lowering) (g s t : PhysStream) → ((f : Node → Tree) → names ≡ names_of (schema_at (state_of f l).nodes input)) → Makes (kept_groups l.origin.0 o input) a b l m g
    → ((f : Node → Tree) → made_of f n s ≡ with_columns m.origin.0 names (stream_of g) (state_of f m)) → Begins m.phys_sm.slots n.phys_sm.slots → n ≡ record m { phys_sm = n.phys_sm }
    → ((f : Node → Tree) → made_of f p t ≡ cut_stream n.origin.0 o.cut (stream_of s) (state_of f n)) → Begins n.phys_sm.slots p.phys_sm.slots → p ≡ record n { phys_sm = p.phys_sm }
    → Makes (grouped_distinct l.origin.0 o input) a b l p t
ordered_made input o names a b l m n p g s t names-are groups made nodes others made2 nodes2 others2 =
    let from : m.origin ≡ l.origin = groups.goes_on.origin in
    let after : n.origin ≡ l.origin = ap (λ (x : Lowering). x.origin) others ∙ from in
    record {
      by_rule = λ later k.
          (let f = tree_at later in
          let x = groups.by_rule later k in
          made2 f
          ∙ (λ i. cut_stream (after i).0 o.cut (made f i).stream (made f i).state)
          ∙ (λ i. (let q = with_columns (from i).0 (names-are f i) (x i).stream (x i).state in cut_stream l.origin.0 o.cut q.stream q.state)));
      goes_on = goes_built a b l n p (goes_built a b l m n groups.goes_on nodes others) nodes2 others2;
    }

-- which of the two it is
pub distinct_maps : (input : Stream) (o : DistinctStep) (r : Result PhysStream PolarsError) (a : List AExpr) (l m : Lowering) (whole : Bool) → Remembers a l.cache → whole ≡ (o.maintain_order && keeps_last o.keep) → whole ≡ true
    → ((f : Node → Tree) → IfOk r (λ s. made_of f m s ≡ mapped_distinct l.origin.0 o input (state_of f l))) → Begins l.phys_sm.slots m.phys_sm.slots → m ≡ record l { phys_sm = m.phys_sm } → IfOk r (Makes (distinct_stream l.origin.0 o input) a a l m)
distinct_maps input o (Ok s) a l m whole known is h made nodes others =
    let same : mapped_distinct l.origin.0 o ≡ distinct_stream l.origin.0 o = ap (λ x. cond x (mapped_distinct l.origin.0 o) (grouped_distinct l.origin.0 o)) (sym h ∙ is) in
    record {
      by_rule = λ later k. made (tree_at later) ∙ (λ i. same i input (state_of (tree_at later) l));
      goes_on = goes_built a a l l m (goes_nowhere a l l known refl) nodes others;
    }
distinct_maps input o (Err x) a l m whole known is h made nodes others = tt

pub distinct_groups : (input : Stream) (o : DistinctStep) (r : Result PhysStream PolarsError) (a b : List AExpr) (l m : Lowering) (whole : Bool) → whole ≡ (o.maintain_order && keeps_last o.keep) → whole ≡ false
    → IfOk r (Makes (grouped_distinct l.origin.0 o input) a b l m) → IfOk r (Makes (distinct_stream l.origin.0 o input) a b l m)
distinct_groups input o r a b l m whole is h =
    let rule : (Stream → State → Made) → Type 0 = λ q. IfOk r (Makes (q input) a b l m) in
    subst rule (ap (λ x. cond x (mapped_distinct l.origin.0 o) (grouped_distinct l.origin.0 o)) (sym h ∙ is))
