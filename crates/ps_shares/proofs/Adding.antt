-- Lowering expressions only adds nodes, which read earlier ones.
use Rattle.std.proofs.Common.{◌≡◌, ◌⊎◌, inl, inr, ℕ, zero, suc, ◌<◌, Bool, true, false, cond, List, [], ◌∷◌, ◌++◌, length, Some, None, refl, sym, ap, subst, ◌∙◌, arith, length-append}
use Rattle.std.specs.Prelude.{Contains, map, slice_get}
use Rattle.std.specs.List.{AllByRecursion, list_any}
use Rattle.std.proofs.lemmas.List.{append-nil}
use Rattle.std.proofs.lemmas.Option.{slice_get_within}
use Rattle.ps_frame.specs.Causes.{is_empty}
use Rattle.ps_frame.specs.Trees.{Aggregation, Tree, Trees}
use Rattle.ps_frame.specs.Typing.{is_elementwise, is_independent}
use Rattle.ps_meaning.specs.Schemas.{names_of}
use Rattle.ps_meaning.specs.Shape.{PhysicalNode, Shape, filter_node, in_memory_map, reduce}
use Rattle.ps_meaning.specs.Steps.{Name, Named, exprs_of, select, sort}
use Rattle.ps_rules.specs.Bundles.{finished, gathered, is_stream_alone, names_kept, one_of, one_stream, with_map, with_reduce, without_map}
use Rattle.ps_rules.specs.Calls.{Bundle, Call, Operand, all_independent, each, exprs_of_all, given_reduction, left_to_map, new_call}
use Rattle.ps_shares.specs.Kept.{IsGrown, IsOrdered, IsReady}
use Rattle.ps_rules.specs.Lowered.{as_operand, lower, lower_exprs, operands, select_stream}
use Rattle.ps_shares.specs.CallLaws.{CallsAdd}
use Rattle.ps_rules.specs.Rules.{NamedOperand, aggregated, apart_from_input, are_own_columns, computed, first_name, first_tree, names_of_items, operands_of, other_names, over_input, over_operands, reduced_apart, reduced_column, reduced_over, selected, stays_or, together}
use Rattle.ps_rules.specs.Slots.{Made, State, Stream, added, after_name, after_names, all_added, columns_named, insert_node, new_name, new_names, over_same, over_selected, projection, same_names, same_stream, schema_at, under, with_columns, without_input}
use Rattle.ps_shares.proofs.Growing.{AllGrow, Grows, binary_of, cast_of, grows, grows_finished, grows_selected, grows_together, ternary_of}
use Rattle.ps_shares.proofs.Leaves.{append_assoc}
use Rattle.ps_shares.proofs.Members.{Has, to_has}

-- it is the number of a node
abbrev pub IsNode : Shape → Stream → Type 0
IsNode nodes i = i.0 < length nodes

abbrev pub AreNodes : Shape → List Stream → Type 0
AreNodes nodes ss = AllByRecursion (IsNode nodes) ss

-- the second has the nodes of the first and more, each of which reads earlier ones
abbrev pub Adds : Shape → Shape → Type 0
Adds a b = ((more : Shape) × (b ≡ a ++ more)) × IsOrdered b

pub adds_same : (a : Shape) → IsOrdered a → Adds a a
adds_same a o = (([], sym (append-nil a)), o)

pub adds_then : (a b c : Shape) → Adds a b → Adds b c → Adds a c
adds_then a b c ((xs, p), o) ((ys, q), r) = ((xs ++ ys, q ∙ ap (λ zs. zs ++ ys) p ∙ sym (append_assoc a xs ys)), r)

pub node_later : (a b : Shape) → Adds a b → (i : Stream) → IsNode a i → IsNode b i
node_later a b ((more, e), o) i lt = let l = ap length e ∙ length-append a more in omega arith

pub nodes_later : (a b : Shape) → Adds a b → (ss : List Stream) → AreNodes a ss → AreNodes b ss
nodes_later a b g [] h = tt
nodes_later a b g (s ∷ ss) h = (node_later a b g s h.0, nodes_later a b g ss h.1)

split_last : (xs : Shape) (p q : PhysicalNode) (n : ℕ) → slice_get (xs ++ p ∷ []) n ≡ Some q → (slice_get xs n ≡ Some q) ⊎ ((n ≡ length xs) × (p ≡ q))
split_last [] p q zero e = inr (refl, cc)
split_last [] p q (suc n) e = cc
split_last (x ∷ xs) p q zero e = inl e
split_last (x ∷ xs) p q (suc n) e = by (split_last xs p q n e)
  where
    by : (slice_get xs n ≡ Some q) ⊎ ((n ≡ length xs) × (p ≡ q)) → (slice_get xs n ≡ Some q) ⊎ ((suc n ≡ suc (length xs)) × (p ≡ q))
    by (inl h) = inl h
    by (inr (h, k)) = inr (ap suc h, k)

each_node : (nodes : Shape) (ss : List Stream) (i : Stream) → AreNodes nodes ss → Has ss i → IsNode nodes i
each_node nodes [] i all h = absurd h
each_node nodes (s ∷ ss) i all (inl k) = subst (IsNode nodes) k all.0
each_node nodes (s ∷ ss) i all (inr k) = each_node nodes ss i all.1 k

ordered_more : (nodes : Shape) (p : PhysicalNode) → IsOrdered nodes → AreNodes nodes p.inputs → IsOrdered (nodes ++ p ∷ [])
ordered_more nodes p ordered inputs n q i there named = by (split_last nodes p q n there)
  where
    by : (slice_get nodes n ≡ Some q) ⊎ ((n ≡ length nodes) × (p ≡ q)) → i.0 < n
    by (inl h) = ordered n q i h named
    by (inr (h, k)) = let lt = each_node nodes p.inputs i inputs (to_has p.inputs i (subst (λ q. Contains q.inputs i) (sym k) named)) in omega arith

-- a stream that is made
abbrev pub MadeFrom : Shape → Made → Type 0
MadeFrom nodes m = Adds nodes m.state.nodes × IsNode m.state.nodes m.stream

pub inserted : (s : State) (p : PhysicalNode) → IsOrdered s.nodes → AreNodes s.nodes p.inputs → MadeFrom s.nodes (insert_node s p)
inserted s p o h = let l = length-append s.nodes (p ∷ []) in (((p ∷ [], refl), ordered_more s.nodes p o h), omega arith)

pub made_then : (a b : Shape) (m : Made) → Adds a b → MadeFrom b m → MadeFrom a m
made_then a b m g h = (adds_then a b m.state.nodes g h.0, h.1)

pub named_nodes : {A : Type 0} (xs : List A) (s : State) → (after_names xs s).nodes ≡ s.nodes
named_nodes [] s = refl
named_nodes (x ∷ xs) s = named_nodes xs (after_name s)

pub added_nodes : (nodes : Shape) (t : Stream) (ss : List Stream) → IsNode nodes t → AreNodes nodes ss → AreNodes nodes (added t ss)
added_nodes nodes t ss h all = by (list_any (same_stream t) ss)
  where
    more : (ss : List Stream) → AreNodes nodes ss → AreNodes nodes (ss ++ t ∷ [])
    more [] all = (h, tt)
    more (s ∷ ss) all = (all.0, more ss all.1)

    by : (b : Bool) → AreNodes nodes (cond b ss (ss ++ t ∷ []))
    by true = all
    by false = more ss all

pub all_added_nodes : (nodes : Shape) (ts ss : List Stream) → AreNodes nodes ts → AreNodes nodes ss → AreNodes nodes (all_added ts ss)
all_added_nodes nodes [] ss h all = all
all_added_nodes nodes (t ∷ ts) ss h all = all_added_nodes nodes ts (added t ss) h.1 (added_nodes nodes t ss h.0 all)

pub last_node : (nodes : Shape) (ss : List Stream) (t : Stream) → AreNodes nodes ss → IsNode nodes t → AreNodes nodes (ss ++ t ∷ [])
last_node nodes [] t all h = (h, tt)
last_node nodes (s ∷ ss) t all h = (all.0, last_node nodes ss t all.1 h)

module _ (at : ℕ) (input : Stream) where
  pub columns_made : (ns : List Name) (i : Stream) (s : State) → IsOrdered s.nodes → IsNode s.nodes i → MadeFrom s.nodes (with_columns at ns i s)
  columns_made ns i s o h = by (same_names ns (names_of (schema_at s.nodes i)))
    where
      by : (b : Bool) → MadeFrom s.nodes (cond {A = Made} b (record { state = s; stream = i }) (projection at ns i s))
      by true = (adds_same s.nodes o, h)
      by false = inserted s _ o (h, tt)

  pub stream_made : (ss : List Stream) (s : State) → IsOrdered s.nodes → AreNodes s.nodes ss → MadeFrom s.nodes (one_stream at input ss s)
  stream_made [] s o h = inserted s _ o tt
  stream_made (t ∷ []) s o h = (adds_same s.nodes o, h.0)
  stream_made (t ∷ u ∷ more) s o h = inserted s _ o h

  -- what has gathered
  abbrev pub Gathers : Shape → Bundle → Type 0
  Gathers nodes b = Adds nodes b.state.nodes × AreNodes b.state.nodes b.streams

  pub one_made : (b : Bundle) → IsOrdered b.state.nodes → IsNode b.state.nodes input → AreNodes b.state.nodes b.streams → MadeFrom b.state.nodes (one_of at input b.streams b.reduced b.state)
  one_made b o i h = by (is_empty b.reduced)
    where
      by : (e : Bool) → MadeFrom b.state.nodes (cond {A = State → Made} e (one_stream at input b.streams) (with_reduce at input b.streams b.reduced) b.state)
      by true = stream_made b.streams b.state o h
      by false =
          let m = over_selected at (reduce b.reduced) b.reduced input b.state in
          let k = inserted b.state _ o (i, tt) in
          made_then b.state.nodes m.state.nodes (one_stream at input (b.streams ++ m.stream ∷ []) m.state) k.0
          (stream_made (b.streams ++ m.stream ∷ []) m.state k.0.1 (last_node m.state.nodes b.streams m.stream (nodes_later b.state.nodes m.state.nodes k.0 b.streams h) k.1))

  pub gathers : (c : Call) → IsOrdered c.state.nodes → IsNode c.state.nodes input → AreNodes c.state.nodes c.streams → Gathers c.state.nodes (gathered at input c)
  gathers c o i h = by (is_empty c.mapped)
    where
      by : (e : Bool) → Gathers c.state.nodes (cond {A = Bundle} e (without_map at input c) (with_map at input c))
      by true = (adds_same c.state.nodes o, h)
      by false =
          let below = with_columns at (names_kept c.mapped (schema_at c.state.nodes input)) input c.state in
          let k = columns_made (names_kept c.mapped (schema_at c.state.nodes input)) input c.state o i in
          let m = over_selected at (in_memory_map (select c.mapped)) c.mapped below.stream below.state in
          let l = made_then c.state.nodes below.state.nodes m k.0 (inserted below.state _ k.0.1 (k.1, tt)) in
          (l.0, added_nodes m.state.nodes m.stream c.streams l.1 (nodes_later c.state.nodes m.state.nodes l.0 c.streams h))

  -- what a rule does
  abbrev pub AddsTo : (Call → Call) → Type 0
  AddsTo rule = (c : Call) → IsOrdered c.state.nodes → IsNode c.state.nodes input → AreNodes c.state.nodes c.streams → Adds c.state.nodes (rule c).state.nodes × AreNodes (rule c).state.nodes (rule c).streams

  abbrev pub AllAdd : List Operand → Type 0
  AllAdd os = AllByRecursion (λ (o : Operand). AddsTo o.rule) os

  pub each_adds : (os : List Operand) → AllAdd os → AddsTo (each os)
  each_adds [] all c o i h = (adds_same c.state.nodes o, h)
  each_adds (x ∷ os) all c o i h =
      let p = all.0 c o i h in
      let q = each_adds os all.1 (x.rule c) p.0.1 (node_later c.state.nodes (x.rule c).state.nodes p.0 input i) p.1 in
      (adds_then c.state.nodes (x.rule c).state.nodes (each os (x.rule c)).state.nodes p.0 q.0, q.1)

  pub apart_made : {A : Type 0} (xs : List A) (es : List Named) (s : State) → IsOrdered s.nodes → MadeFrom s.nodes (without_input at es (after_names xs s))
  apart_made xs es s o =
      let e = named_nodes xs s in
      subst (λ n. MadeFrom n (without_input at es (after_names xs s))) e (inserted (after_names xs s) _ (subst IsOrdered (sym e) o) tt)

  pub together_gathers : (os : List Operand) → AllAdd os → (s : State) → IsOrdered s.nodes → IsNode s.nodes input → Gathers s.nodes (together at input os s)
  together_gathers os all s o i = by (all_independent (exprs_of_all os))
    where
      by : (b : Bool) → Gathers s.nodes (cond {A = State → Bundle} b (apart_from_input at input (exprs_of_all os)) (over_input at input os) s)
      by true = let m = apart_made (exprs_of_all os) (under (new_names (exprs_of_all os) s) (exprs_of_all os)) s o in (m.0, (m.1, tt))
      by false =
          let c = each os (new_call s) in
          let p = each_adds os all (new_call s) o i tt in
          let q = gathers c p.0.1 (node_later s.nodes c.state.nodes p.0 input i) p.1 in
          (adds_then s.nodes c.state.nodes (gathered at input c).state.nodes p.0 q.0, q.1)

  pub answers_made : (os : List Operand) → AllAdd os → (s : State) → IsOrdered s.nodes → IsNode s.nodes input
      → MadeFrom s.nodes (one_of at input (together at input os s).streams (together at input os s).reduced (together at input os s).state)
  answers_made os all s o i =
      let b = together at input os s in
      let g = together_gathers os all s o i in
      made_then s.nodes b.state.nodes (one_of at input b.streams b.reduced b.state) g.0 (one_made b g.0.1 (node_later s.nodes b.state.nodes g.0 input i) g.1)

  abbrev pub AllItemsAdd : List NamedOperand → Type 0
  AllItemsAdd items = AllByRecursion (λ (i : NamedOperand). AddsTo i.1.rule) items

  pub item_operands : (items : List NamedOperand) → AllItemsAdd items → AllAdd (operands_of items)
  item_operands [] all = tt
  item_operands (i ∷ items) all = (all.0, item_operands items all.1)

  pub items_under : (ns : List Name) (os : List Operand) → AllAdd os → AllItemsAdd (under ns os)
  items_under [] os all = tt
  items_under (n ∷ ns) [] all = tt
  items_under (n ∷ ns) (o ∷ os) all = (all.0, items_under ns os all.1)

  pub selected_made : (items : List NamedOperand) → AllItemsAdd items → (s : State) → IsOrdered s.nodes → IsNode s.nodes input → MadeFrom s.nodes (selected at input items s)
  selected_made items all s o i = by (all_independent (exprs_of_all (operands_of items))) (are_own_columns items)
    where
      by : (a b : Bool)
          → MadeFrom s.nodes (cond {A = State → Made} a (without_input at (under (names_of_items items) (exprs_of_all (operands_of items)))) (cond {A = State → Made} b (with_columns at (names_of_items items) input) (computed at input items)) s)
      by true b = inserted s _ o tt
      by false true = columns_made (names_of_items items) input s o i
      by false false =
          let b = together at input (operands_of items) s in
          let k = answers_made (operands_of items) (item_operands items all) s o i in
          let m = one_of at input b.streams b.reduced b.state in
          made_then s.nodes m.state.nodes (computed at input items s) k.0 (inserted m.state _ k.0.1 (k.1, tt))

  -- values and keys under fresh names, selected
  pub under_made : (os : List Operand) → AllAdd os → (s : State) → IsOrdered s.nodes → IsNode s.nodes input → MadeFrom s.nodes (selected at input (under (new_names os s) os) (after_names os s))
  under_made os all s o i =
      let e = named_nodes os s in
      subst (λ n. MadeFrom n (selected at input (under (new_names os s) os) (after_names os s))) e
      (selected_made (under (new_names os s) os) (items_under (new_names os s) os all) (after_names os s) (subst IsOrdered (sym e) o) (subst (λ n. IsNode n input) (sym e) i))

  -- a stream more
  pub given_adds : (c : Call) (m : Made) → AreNodes c.state.nodes c.streams → MadeFrom c.state.nodes m → Adds c.state.nodes m.state.nodes × AreNodes m.state.nodes (added m.stream c.streams)
  given_adds c m h k = (k.0, added_nodes m.state.nodes m.stream c.streams k.1 (nodes_later c.state.nodes m.state.nodes k.0 c.streams h))

  adds_or : (e : Tree) (rule : Call → Call) → AddsTo rule → AddsTo (stays_or at input e rule)
  adds_or e rule g c o i h = by (is_elementwise e) (is_independent e)
    where
      by : (a b : Bool) → Adds c.state.nodes (cond {A = Call → Call} a (λ call. record call { streams = cond b call.streams (added input call.streams); exprs = call.exprs ++ e ∷ [] }) rule c).state.nodes
          × AreNodes (cond {A = Call → Call} a (λ call. record call { streams = cond b call.streams (added input call.streams); exprs = call.exprs ++ e ∷ [] }) rule c).state.nodes
          (cond {A = Call → Call} a (λ call. record call { streams = cond b call.streams (added input call.streams); exprs = call.exprs ++ e ∷ [] }) rule c).streams
      by true true = (adds_same c.state.nodes o, h)
      by true false = (adds_same c.state.nodes o, added_nodes c.state.nodes input c.streams i h)
      by false b = g c o i h

  adds_left : (e : Tree) → AddsTo (left_to_map e)
  adds_left e c o i h = (adds_same c.state.nodes o, h)

  pub adds_operands : (op : List Tree → Tree) (os : List Operand) → AllAdd os → AddsTo (over_operands at input op os)
  adds_operands op os all c o i h =
      let b = together at input os c.state in
      let g = together_gathers os all c.state o i in
      (g.0, all_added_nodes b.state.nodes b.streams c.streams g.1 (nodes_later c.state.nodes b.state.nodes g.0 c.streams h))

  adds_reduced : (op : List Tree → Tree) (os : List Operand) → AllAdd os → (c : Call) → IsOrdered c.state.nodes → IsNode c.state.nodes input → AreNodes c.state.nodes c.streams
      → Adds c.state.nodes (reduced_over at input op (together at input os c.state) c).state.nodes × AreNodes (reduced_over at input op (together at input os c.state) c).state.nodes (reduced_over at input op (together at input os c.state) c).streams
  adds_reduced op os all c o i h = by (is_stream_alone input b.streams b.reduced)
    where
      b : Bundle
      b = together at input os c.state

      by : (t : Bool) → Adds c.state.nodes (cond {A = Call → Call} t (given_reduction (op b.exprs) b.state) (reduced_apart at input (op b.exprs) (finished at input b)) c).state.nodes
          × AreNodes (cond {A = Call → Call} t (given_reduction (op b.exprs) b.state) (reduced_apart at input (op b.exprs) (finished at input b)) c).state.nodes
          (cond {A = Call → Call} t (given_reduction (op b.exprs) b.state) (reduced_apart at input (op b.exprs) (finished at input b)) c).streams
      by true = let g = together_gathers os all c.state o i in (g.0, nodes_later c.state.nodes b.state.nodes g.0 c.streams h)
      by false =
          let a = one_of at input b.streams b.reduced b.state in
          let k = answers_made os all c.state o i in
          let es = (new_name a.state, op b.exprs) ∷ [] in
          let m = over_selected at (reduce es) es a.stream (after_name a.state) in
          given_adds c m h (made_then c.state.nodes a.state.nodes m k.0 (inserted (after_name a.state) _ k.0.1 (k.1, tt)))

  adds_column : (a : Aggregation) (x : Operand) → AddsTo x.rule → AddsTo (reduced_column at input a x)
  adds_column a x g c o i h = adds_reduced (λ es. Tree.aggregate a (first_tree es)) (x ∷ []) (g, tt) c o i h

  adds_aggregate : (a : Aggregation) (x : Operand) (e : Tree) → AddsTo x.rule → AddsTo (aggregated at input a x e)
  adds_aggregate Aggregation.n_unique x e g = adds_left e
  adds_aggregate (Aggregation.count all) x e g = adds_left e
  adds_aggregate Aggregation.min x e g = adds_column Aggregation.min x g
  adds_aggregate Aggregation.max x e g = adds_column Aggregation.max x g
  adds_aggregate Aggregation.first x e g = adds_column Aggregation.first x g
  adds_aggregate Aggregation.last x e g = adds_column Aggregation.last x g
  adds_aggregate Aggregation.sum x e g = adds_column Aggregation.sum x g

  mutual
    pub adds : (e : Tree) → AddsTo (lower at input e)
    adds (Tree.column name) c o i h = adds_or (Tree.column name) (λ call. call) (λ c o i h. (adds_same c.state.nodes o, h)) c o i h
    adds (Tree.literal l) c o i h = adds_or (Tree.literal l) (λ call. call) (λ c o i h. (adds_same c.state.nodes o, h)) c o i h
    adds (Tree.binary p l r) c o i h =
        let os = as_operand at input l ∷ as_operand at input r ∷ [] in
        adds_or (Tree.binary p l r) (over_operands at input (binary_of p) os) (adds_operands (binary_of p) os (adds l, (adds r, tt))) c o i h
    adds (Tree.cast k strict e) c o i h =
        let os = as_operand at input e ∷ [] in
        adds_or (Tree.cast k strict e) (over_operands at input (cast_of k strict) os) (adds_operands (cast_of k strict) os (adds e, tt)) c o i h
    adds (Tree.ternary p a b) c o i h =
        let os = as_operand at input p ∷ as_operand at input a ∷ as_operand at input b ∷ [] in
        adds_or (Tree.ternary p a b) (over_operands at input ternary_of os) (adds_operands ternary_of os (adds p, (adds a, (adds b, tt)))) c o i h
    adds (Tree.function g e) c o i h = adds_or (Tree.function g e) (left_to_map (Tree.function g e)) (adds_left (Tree.function g e)) c o i h
    adds (Tree.sort d n e) c o i h =
        let name = new_name c.state in
        let os = as_operand at input e ∷ [] in
        let m = selected at input (under (new_names os c.state) os) (after_names os c.state) in
        let k = under_made os (adds e, tt) c.state o i in
        let step = sort (record { keys = Tree.column name ∷ []; descending = d ∷ []; nulls_last = n ∷ []; cut = None }) in
        let v = over_same at (in_memory_map step) m.stream m.state in
        given_adds c v h (made_then c.state.nodes m.state.nodes v k.0 (inserted m.state _ k.0.1 (k.1, tt)))
    adds (Tree.sort_by d n e by) c o i h =
        let os = as_operand at input e ∷ operands at input by in
        let ns = new_names os c.state in
        let m = selected at input (under ns os) (after_names os c.state) in
        let k = under_made os (adds e, add_all by) c.state o i in
        let step = sort (record { keys = columns_named (other_names ns); descending = d; nulls_last = n; cut = None }) in
        let v = over_same at (in_memory_map step) m.stream m.state in
        let l = made_then c.state.nodes m.state.nodes v k.0 (inserted m.state _ k.0.1 (k.1, tt)) in
        let w = with_columns at (first_name ns ∷ []) v.stream v.state in
        given_adds c w h (made_then c.state.nodes v.state.nodes w l.0 (columns_made (first_name ns ∷ []) v.stream v.state l.0.1 l.1))
    adds (Tree.gather s e x) c o i h = adds_left (Tree.gather s e x) c o i h
    adds (Tree.filter e by) c o i h =
        let os = as_operand at input e ∷ as_operand at input by ∷ [] in
        let ns = new_names os c.state in
        let m = selected at input (under ns os) (after_names os c.state) in
        let k = under_made os (adds e, (adds by, tt)) c.state o i in
        let v = over_same at (filter_node (first_tree (columns_named (other_names ns)))) m.stream m.state in
        given_adds c v h (made_then c.state.nodes m.state.nodes v k.0 (inserted m.state _ k.0.1 (k.1, tt)))
    adds (Tree.aggregate a e) c o i h = adds_aggregate a (as_operand at input e) (Tree.aggregate a e) (adds e) c o i h
    adds (Tree.slice e x l) c o i h = adds_left (Tree.slice e x l) c o i h
    adds Tree.len c o i h = (adds_same c.state.nodes o, h)
    adds (Tree.left_out w) c o i h = adds_left (Tree.left_out w) c o i h
    adds Tree.missing c o i h = adds_left Tree.missing c o i h

    pub add_all : (es : Trees) → AllAdd (operands at input es)
    add_all Trees.no_trees = tt
    add_all (Trees.tree e es) = (adds e, add_all es)

  pub all_add : (es : List Tree) → AllAdd (map (as_operand at input) es)
  all_add [] = tt
  all_add (e ∷ es) = (adds e, all_add es)

  pub items_add : (es : List Named) → AllItemsAdd (map (λ (e : Named). (e.0, as_operand at input e.1)) es)
  items_add [] = tt
  items_add (e ∷ es) = (adds e.1, items_add es)

  pub all_grow : (es : List Tree) → AllGrow at input (map (as_operand at input) es)
  all_grow [] = tt
  all_grow (e ∷ es) = (grows at input e, all_grow es)

  items_grow : (es : List Named) → AllByRecursion (λ (i : NamedOperand). Grows at input i.1.rule) (map (λ (e : Named). (e.0, as_operand at input e.1)) es)
  items_grow [] = tt
  items_grow (e ∷ es) = (grows at input e.1, items_grow es)

  exprs_add : (s : State) (es : List Tree) → IsReady s input es → IsGrown s (lower_exprs at input es s).state
  exprs_add s es ready =
      let os = map (as_operand at input) es in
      let k = answers_made os (all_add es) s ready.ordered (slice_get_within s.nodes input.0 ready.node ready.there) in
      let g = grows_finished at input s.names (together at input os s) (grows_together at input os (all_grow es) s) in
      record { more = k.0.0.0; nodes = k.0.0.1; ordered = k.0.1; known = g.0 }

  selects_add : (s : State) (es : List Named) → IsReady s input (exprs_of es) → IsGrown s (select_stream at input es s).state
  selects_add s es ready =
      let items = map (λ (e : Named). (e.0, as_operand at input e.1)) es in
      let k = selected_made items (items_add es) s ready.ordered (slice_get_within s.nodes input.0 ready.node ready.there) in
      let g = grows_selected at input items (items_grow es) s in
      record { more = k.0.0.0; nodes = k.0.0.1; ordered = k.0.1; known = g.0 }

pub calls_add : CallsAdd
calls_add = record { exprs = exprs_add; selects = selects_add }
