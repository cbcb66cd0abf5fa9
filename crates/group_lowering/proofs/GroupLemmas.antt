-- A group-by, put together from what its steps make.
use Rattle.std.proofs.Common.{◌≡◌, ℕ, zero, suc, ◌+◌, true, false, cond, List, [], ◌∷◌, ◌++◌, length, refl, sym, ap, subst, ◌∙◌, take}
use Rattle.std.specs.Prelude.{Bool, Err, IfOk, Ok, Result}
use Rattle.std.specs.List.{AllByRecursion}
use Rattle.pu_base.specs.declared.arena.Node.{Node}
use Rattle.ps_copies.specs.Copies.{KeepsTrees}
use Rattle.ps_frame.specs.Trees.{IsComplete, Tree, tree_at}
use Rattle.ps_frame.specs.declared.expr.AExpr.{AExpr}
use Rattle.ps_frame.specs.declared.refusal.PolarsError.{PolarsError}
use Rattle.ps_meaning.specs.Schemas.{expr_names, names_of}
use Rattle.ps_meaning.specs.Steps.{Cut, Name, Named, exprs_of, key_trees, name_in, named_trees}
use Rattle.ps_meaning.specs.declared.options.ExprIR.{ExprIR}
use Rattle.ps_phys.specs.Shown.{stream_of}
use Rattle.ps_phys.specs.declared.phys.PhysStream.{PhysStream}
use Rattle.ps_rules.specs.Lowered.{lower_exprs, select_stream}
use Rattle.ps_rules.specs.Slots.{Made, State, Stream, columns_named, over_selected, schema_at, under}
use Rattle.ps_fresh.specs.Known.{Remembers}
use Rattle.ps_fresh.specs.declared.lowering.Lowering.{Lowering}
use Rattle.plan_rules.specs.Groups.{can_stream, columns_over, group_stream, mapped_groups, own_columns, streamed_groups}
use Rattle.plan_rules.specs.Reductions.{split_aggregates}
use Rattle.plan_rules.specs.Slices.{cut_stream}
use Rattle.lowering_parts.specs.Gathered.{Begins, GoesOn, Later, Makes, made_of, names_asked, state_of}
use Rattle.lowering_parts.proofs.Going.{goes_added, goes_built, goes_then}
use Rattle.lowering_parts.proofs.Grown.{kept-then}
use Rattle.expr_lowering.proofs.Following.{goes_cached, makes_from, named_both}
use Rattle.group_lowering.specs.Groups.{IsSplit, MakesOver, Over, group_of, grouped_over, grouping_kind, groups_below, keys_below, over_of, split_of}
use Rattle.group_lowering.specs.declared.groups.Grouping.TheVariants as grouping

-- named expressions, without their names and without their trees
pub keys_again : (f : Node → Tree) (es : List ExprIR) → exprs_of (named_trees f es) ≡ key_trees f es
keys_again f [] = refl
keys_again f (e ∷ es) = ap (λ more. f e.node ∷ more) (keys_again f es)

pub asked_again : (f : Node → Tree) (es : List ExprIR) → expr_names (named_trees f es) ≡ names_asked es
asked_again f [] = refl
asked_again f (e ∷ es) = ap (λ more. name_in e.output_name ∷ more) (asked_again f es)

as_many_asked : (es : List ExprIR) → length (names_asked es) ≡ length es
as_many_asked [] = refl
as_many_asked (e ∷ es) = ap suc (as_many_asked es)

-- their trees stay when entries are added
pub named_later : (a b : List AExpr) → KeepsTrees a b → (es : List ExprIR) → AllByRecursion IsComplete (key_trees (tree_at a) es) → named_trees (tree_at b) es ≡ named_trees (tree_at a) es
named_later a b keeps [] h = refl
named_later a b keeps (e ∷ es) h = λ i. (name_in e.output_name, keeps e.node h.0 i) ∷ named_later a b keeps es h.1 i

-- columns under their own names, behind other expressions
exprs_behind : (xs : List Named) (ns : List Name) → exprs_of (xs ++ own_columns ns) ≡ exprs_of xs ++ columns_named ns
exprs_behind [] ns = own ns
  where
    own : (ns : List Name) → exprs_of (own_columns ns) ≡ columns_named ns
    own [] = refl
    own (n ∷ ns) = ap (λ more. Tree.column n ∷ more) (own ns)
exprs_behind (x ∷ xs) ns = ap (λ more. x.1 ∷ more) (exprs_behind xs ns)

names_behind : (xs ys : List Named) → expr_names (xs ++ ys) ≡ expr_names xs ++ expr_names ys
names_behind [] ys = refl
names_behind (x ∷ xs) ys = ap (λ more. x.0 ∷ more) (names_behind xs ys)

pub own_whole : (ns : List Name) → AllByRecursion IsComplete (exprs_of (own_columns ns))
own_whole [] = tt
own_whole (n ∷ ns) = (tt, own_whole ns)

both_whole : (xs ys : List Named) → AllByRecursion IsComplete (exprs_of xs) → AllByRecursion IsComplete (exprs_of ys) → AllByRecursion IsComplete (exprs_of (xs ++ ys))
both_whole [] ys h k = k
both_whole (x ∷ xs) ys h k = (h.0, both_whole xs ys h.1 k)

-- what is named so is made of expressions
pub named_as : (f : Node → Tree) (es : List ExprIR) (xs : List Named) → named_trees f es ≡ xs → AllByRecursion IsComplete (exprs_of xs) → AllByRecursion IsComplete (key_trees f es)
named_as f es xs e h = subst (AllByRecursion IsComplete) (keys_again f es) (subst (λ (ys : List Named). AllByRecursion IsComplete (exprs_of ys)) (sym e) h)

pub named_as_both : (f : Node → Tree) (es : List ExprIR) (xs ys : List Named) → named_trees f es ≡ xs ++ ys → AllByRecursion IsComplete (exprs_of xs) → AllByRecursion IsComplete (exprs_of ys) → AllByRecursion IsComplete (key_trees f es)
named_as_both f es xs ys e h k = named_as f es (xs ++ ys) e (both_whole xs ys h k)

pub as_named : (f : Node → Tree) (es : List ExprIR) → AllByRecursion IsComplete (key_trees f es) → AllByRecursion IsComplete (exprs_of (named_trees f es))
as_named f es h = subst (AllByRecursion IsComplete) (sym (keys_again f es)) h

-- two lists of expressions, one after the other
pub both_named : (f : Node → Tree) (es gs all : List ExprIR) → all ≡ es ++ gs → named_trees f all ≡ named_trees f es ++ named_trees f gs
both_named f es gs all e = ap (named_trees f) e ∙ named_both f es gs

pub all_whole : (f : Node → Tree) (es gs all : List ExprIR) → all ≡ es ++ gs → AllByRecursion IsComplete (key_trees f es) → AllByRecursion IsComplete (key_trees f gs) → AllByRecursion IsComplete (exprs_of (named_trees f all))
all_whole f es gs all e h k = subst (λ (xs : List Named). AllByRecursion IsComplete (exprs_of xs)) (sym (both_named f es gs all e)) (both_whole (named_trees f es) (named_trees f gs) (as_named f es h) (as_named f gs k))

pub all_keys_whole : (f : Node → Tree) (es gs all : List ExprIR) → all ≡ es ++ gs → AllByRecursion IsComplete (key_trees f es) → AllByRecursion IsComplete (key_trees f gs) → AllByRecursion IsComplete (key_trees f all)
all_keys_whole f es gs all e h k = subst (AllByRecursion IsComplete) (keys_again f all) (all_whole f es gs all e h k)

-- the first of several answers
named_front : (f : Node → Tree) (n : ℕ) (es : List ExprIR) → named_trees f (take n es) ≡ take n (named_trees f es)
named_front f zero es = refl
named_front f (suc n) [] = refl
named_front f (suc n) (e ∷ es) = ap (λ more. (name_in e.output_name, f e.node) ∷ more) (named_front f n es)

front_whole : (f : Node → Tree) (n : ℕ) (es : List ExprIR) → AllByRecursion IsComplete (key_trees f es) → AllByRecursion IsComplete (key_trees f (take n es))
front_whole f zero es h = tt
front_whole f (suc n) [] h = tt
front_whole f (suc n) (e ∷ es) h = (h.0, front_whole f n es h.1)

under_front : (ns ms : List Name) (ts : List Tree) → take (length ns) (under (ns ++ ms) ts) ≡ under ns ts
under_front [] ms ts = refl
under_front (n ∷ ns) ms [] = refl
under_front (n ∷ ns) ms (t ∷ ts) = ap (λ more. (n, t) ∷ more) (under_front ns ms ts)

-- the keys, lowered together with all columns
module _ (input : Stream) (keys asked answered lowered : List ExprIR) (a b c : List AExpr) (l m : Lowering) (s : PhysStream)
    (named : (f : Node → Tree) → named_trees (tree_at b) asked ≡ named_trees (tree_at a) keys ++ own_columns (names_of (schema_at (state_of f l).nodes input)))
    (entries : Begins a b) (keeps : KeepsTrees a b) (grows : GoesOn b c l m)
    (nodes : Later c (λ f. state_of f m ≡ (lower_exprs l.origin.0 input (key_trees (tree_at b) asked) (state_of f l)).state))
    (stream : Later c (λ f. stream_of s ≡ (lower_exprs l.origin.0 input (key_trees (tree_at b) asked) (state_of f l)).stream))
    (exprs : Later c (λ f. named_trees f answered ≡ under (names_asked asked) (lower_exprs l.origin.0 input (key_trees (tree_at b) asked) (state_of f l)).exprs))
    (whole : AllByRecursion IsComplete (key_trees (tree_at c) answered)) (front : lowered ≡ take (length keys) answered) where
  abbrev wanted : List Named
  wanted = named_trees (tree_at a) keys

  trees_asked : (f : Node → Tree) → key_trees (tree_at b) asked ≡ exprs_of wanted ++ columns_over input (state_of f l)
  trees_asked f = sym (keys_again (tree_at b) asked) ∙ ap exprs_of (named f) ∙ exprs_behind wanted (names_of (schema_at (state_of f l).nodes input))

  names_given : (f : Node → Tree) → names_asked asked ≡ names_asked keys ++ expr_names (own_columns (names_of (schema_at (state_of f l).nodes input)))
  names_given f =
      let columns = own_columns (names_of (schema_at (state_of f l).nodes input)) in
      sym (asked_again (tree_at b) asked) ∙ ap expr_names (named f) ∙ names_behind wanted columns ∙ ap (λ ns. ns ++ expr_names columns) (asked_again (tree_at a) keys)

  front_named : (f : Node → Tree) (ts : List Tree) → named_trees f answered ≡ under (names_asked asked) ts → named_trees f lowered ≡ under (expr_names wanted) ts
  front_named f ts e =
      ap (named_trees f) front ∙ named_front f (length keys) answered ∙ ap (take (length keys)) (e ∙ ap (λ ns. under ns ts) (names_given f))
      ∙ ap (λ n. take n (under (names_asked keys ++ expr_names (own_columns (names_of (schema_at (state_of f l).nodes input)))) ts)) (sym (as_many_asked keys))
      ∙ under_front (names_asked keys) (expr_names (own_columns (names_of (schema_at (state_of f l).nodes input)))) ts ∙ ap (λ ns. under ns ts) (sym (asked_again (tree_at a) keys))

  pub keys_made : GoesOn a a l l → MakesOver (keys_below l.origin.0 wanted input) a c l m s lowered
  keys_made before =
      record {
        by_rule = λ later k.
            (let f = tree_at later in
            let answer = lower_exprs l.origin.0 input (key_trees (tree_at b) asked) (state_of f l) in
            (λ i. record { state = nodes later k i; stream = stream later k i; exprs = front_named f answer.exprs (exprs later k) i })
            ∙ ap (λ (es : List Tree). (let x = lower_exprs l.origin.0 input es (state_of f l) in record { state = x.state; stream = x.stream; exprs = under (expr_names wanted) x.exprs })) (trees_asked f));
        whole = subst (λ (es : List ExprIR). AllByRecursion IsComplete (key_trees (tree_at c) es)) (sym front) (front_whole (tree_at c) (length keys) answered whole);
        goes_on = goes_then a b c l l m (goes_added a a b l l before entries keeps) grows;
      }

-- groups over the keys
pub groups_made : (input : Stream) (keys : List Named) (aggs lowered reductions above : List ExprIR) (a b c : List AExpr) (l m n p : Lowering) (s t : PhysStream) → AllByRecursion IsComplete (key_trees (tree_at a) aggs)
    → MakesOver (keys_below l.origin.0 keys input) a b l m s lowered → IsSplit (split_aggregates (named_trees (tree_at b) aggs)) b c m n reductions above
    → Later c (λ f. made_of f p t ≡ over_selected n.origin.0 (grouping_kind grouping.Streamed (named_trees f lowered) (named_trees f reductions)) (named_trees f lowered ++ named_trees f reductions) (stream_of s) (state_of f n))
    → Begins n.phys_sm.slots p.phys_sm.slots → p ≡ record n { phys_sm = p.phys_sm } → MakesOver (groups_below l.origin.0 keys (named_trees (tree_at a) aggs) input) a c l p t above
groups_made input keys aggs lowered reductions above a b c l m n p s t whole below split made nodes others =
    let at = l.origin.0 in
    let from : n.origin ≡ l.origin = ap (λ (x : Lowering). x.origin) split.others ∙ below.goes_on.origin in
    let asked : named_trees (tree_at b) aggs ≡ named_trees (tree_at a) aggs = named_later a b below.goes_on.trees aggs whole in
    record {
      by_rule = λ later k.
          (let f = tree_at later in
          let x = below.by_rule later (kept-then b c later split.goes_on.trees k) in
          let y = split.by_rule later k in
          let here : over_of f p t above ≡ grouped_over at (over_of f m s lowered) (split_of f n reductions above) =
          (let q : made_of f p t ≡ over_selected at (grouping_kind grouping.Streamed (named_trees f lowered) (named_trees f reductions)) (named_trees f lowered ++ named_trees f reductions) (stream_of s) (record (state_of f m) { names = n.names }) =
          made later k ∙ (λ i. over_selected (from i).0 (grouping_kind grouping.Streamed (named_trees f lowered) (named_trees f reductions)) (named_trees f lowered ++ named_trees f reductions) (stream_of s) (state_of f (split.others i))) in
          λ i. record { state = (q i).state; stream = (q i).stream; exprs = named_trees f above }) in
          here ∙ (λ i. grouped_over at (x i) ((y ∙ ap (λ (es : List Named). split_aggregates es m.names) asked ∙ ap (λ (z : Over). split_aggregates (named_trees (tree_at a) aggs) z.state.names) x) i)));
      whole = split.above_whole;
      goes_on = goes_built a c l n p (goes_then a b c l m n below.goes_on split.goes_on) nodes others;
    }

-- the select and the slice above the groups
pub streamed_made : (input : Stream) (keys aggs above asked : List ExprIR) (cut : Cut) (a b c d : List AExpr) (l m n p : Lowering) (g s t : PhysStream)
    → MakesOver (groups_below l.origin.0 (named_trees (tree_at a) keys) (named_trees (tree_at a) aggs) input) a b l m g above
    → named_trees (tree_at c) asked ≡ own_columns (names_asked keys) ++ named_trees (tree_at b) above → Begins b c → KeepsTrees b c
    → Makes (select_stream m.origin.0 (stream_of g) (named_trees (tree_at c) asked)) c d m n s
    → ((f : Node → Tree) → made_of f p t ≡ cut_stream n.origin.0 cut (stream_of s) (state_of f n)) → Begins n.phys_sm.slots p.phys_sm.slots → p ≡ record n { phys_sm = p.phys_sm }
    → Makes (streamed_groups l.origin.0 (group_of (tree_at a) keys aggs false cut) input) a d l p t
streamed_made input keys aggs above asked cut a b c d l m n p g s t groups named entries keeps selected made nodes others =
    let at = l.origin.0 in
    let from : m.origin ≡ l.origin = groups.goes_on.origin in
    let after : n.origin ≡ l.origin = selected.goes_on.origin ∙ from in
    record {
      by_rule = λ later k.
          (let f = tree_at later in
          let kb = kept-then b c later keeps (kept-then c d later selected.goes_on.trees k) in
          let x = groups.by_rule later kb in
          let z = selected.by_rule later k in
          let items : named_trees (tree_at c) asked ≡ own_columns (expr_names (named_trees (tree_at a) keys)) ++ named_trees f above =
          named ∙ (λ i. own_columns (sym (asked_again (tree_at a) keys) i) ++ sym (named_later b later kb above groups.whole) i) in
          made f
          ∙ (λ i. cut_stream (after i).0 cut (z i).stream (z i).state)
          ∙ (λ i. (let q = select_stream (from i).0 (stream_of g) (items i) (state_of f m) in cut_stream at cut q.stream q.state))
          ∙ ap (λ (o : Over). (let q = select_stream at o.stream (own_columns (expr_names (named_trees (tree_at a) keys)) ++ o.exprs) o.state in cut_stream at cut q.stream q.state)) x);
      goes_on = goes_built a d l n p (goes_then a c d l m n (goes_added a b c l m groups.goes_on entries keeps) selected.goes_on) nodes others;
    }

-- which of the two it is
module _ (input : Stream) (keys aggs : List ExprIR) (maintain : Bool) (cut : Cut) (a : List AExpr) (l m : Lowering) (known : Remembers a m.cache) (only : m ≡ record l { cache = m.cache }) where
  abbrev groups : Stream → State → Made
  groups = group_stream l.origin.0 (group_of (tree_at a) keys aggs maintain cut)

  streams_then : (can : Bool) → can ≡ can_stream (group_of (tree_at a) keys aggs maintain cut) → can ≡ true → streamed_groups l.origin.0 (group_of (tree_at a) keys aggs false cut) ≡ groups
  streams_then can is h = ap (λ b. cond b (streamed_groups l.origin.0 (group_of (tree_at a) keys aggs false cut)) (mapped_groups l.origin.0 (group_of (tree_at a) keys aggs maintain cut))) (sym h ∙ is)

  maps_then : (can : Bool) → can ≡ can_stream (group_of (tree_at a) keys aggs maintain cut) → can ≡ false → mapped_groups l.origin.0 (group_of (tree_at a) keys aggs maintain cut) ≡ groups
  maps_then can is h = ap (λ b. cond b (streamed_groups l.origin.0 (group_of (tree_at a) keys aggs false cut)) (mapped_groups l.origin.0 (group_of (tree_at a) keys aggs maintain cut))) (sym h ∙ is)

  pub group_streams : (r : Result PhysStream PolarsError) (b : List AExpr) (n : Lowering) (can : Bool) → can ≡ can_stream (group_of (tree_at a) keys aggs maintain cut) → can ≡ true
      → IfOk r (Makes (streamed_groups m.origin.0 (group_of (tree_at a) keys aggs false cut) input) a b m n) → IfOk r (Makes (groups input) a b l n)
  group_streams (Ok s) b n can is h made =
      makes_from (streamed_groups m.origin.0 (group_of (tree_at a) keys aggs false cut) input) (groups input) a b l m n s made (goes_cached a l m known only)
      (λ f. (λ i. streamed_groups (only i).origin.0 (group_of (tree_at a) keys aggs false cut) input (state_of f (only i))) ∙ ap (λ (r : Stream → State → Made). r input (state_of f l)) (streams_then can is h))
  group_streams (Err x) b n can is h made = tt

  pub group_maps : (r : Result PhysStream PolarsError) (n : Lowering) (can : Bool) → can ≡ can_stream (group_of (tree_at a) keys aggs maintain cut) → can ≡ false
      → AllByRecursion IsComplete (key_trees (tree_at a) keys) → AllByRecursion IsComplete (key_trees (tree_at a) aggs)
      → Later a (λ f. IfOk r (λ s. made_of f n s ≡ mapped_groups m.origin.0 (group_of f keys aggs maintain cut) input (state_of f m))) → Begins m.phys_sm.slots n.phys_sm.slots → n ≡ record m { phys_sm = n.phys_sm }
      → IfOk r (Makes (groups input) a a l n)
  group_maps (Ok s) n can is h whole whole2 made nodes others =
      record {
        by_rule = λ later k.
            (let f = tree_at later in
            made later k
            ∙ (λ i. mapped_groups (only i).origin.0 (record { keys = named_later a later k keys whole i; aggregates = named_later a later k aggs whole2 i; maintain_order = maintain; cut = cut }) input (state_of f (only i)))
            ∙ ap (λ (r : Stream → State → Made). r input (state_of f l)) (maps_then can is h));
        goes_on = goes_built a a l m n (goes_cached a l m known only) nodes others;
      }
  group_maps (Err x) n can is h whole whole2 made nodes others = tt
