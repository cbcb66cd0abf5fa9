-- The nodes that a call on expressions makes have its origin, and read each other or the input.
use Rattle.std.proofs.Common.{◌≡◌, ◌⊎◌, inl, inr, ℕ, zero, suc, ◌+◌, ◌-◌, ◌≤◌, Bool, true, false, cond, List, [], ◌∷◌, ◌++◌, length, Some, None, refl, sym, ap, subst, ◌∙◌, arith, length-append}
use Rattle.std.proofs.lemmas.Option.{same_Some, slice_get_within}
use Rattle.std.specs.Prelude.{Contains, map, slice_get}
use Rattle.std.specs.List.{AllByRecursion, list_any}
use Rattle.ps_frame.proofs.Seams.{slice_get-behind}
use Rattle.ps_frame.specs.Causes.{is_empty}
use Rattle.ps_frame.specs.Trees.{Aggregation, Tree, Trees}
use Rattle.ps_frame.specs.Typing.{is_elementwise, is_independent}
use Rattle.ps_meaning.specs.Schemas.{names_of}
use Rattle.ps_meaning.specs.Shape.{PhysicalNode, Shape, filter_node, in_memory_map, reduce}
use Rattle.ps_meaning.specs.Steps.{Name, Named, select, sort}
use Rattle.ps_rules.specs.Bundles.{finished, gathered, is_stream_alone, names_kept, one_of, one_stream, with_map, with_reduce, without_map}
use Rattle.ps_rules.specs.Calls.{Bundle, Call, Operand, all_independent, each, exprs_of_all, given_reduction, left_to_map, new_call}
use Rattle.ps_rules.specs.Lowered.{as_operand, lower, lower_exprs, operands, select_stream}
use Rattle.ps_rules.specs.Rules.{NamedOperand, aggregated, apart_from_input, are_own_columns, computed, first_name, first_tree, names_of_items, operands_of, other_names, over_input, over_operands, reduced_apart, reduced_column, reduced_over, second_tree, selected, stays_or, third_tree, together}
use Rattle.ps_rules.specs.Slots.{Made, State, Stream, added, after_name, after_names, all_added, columns_named, insert_node, new_name, new_names, over_same, over_selected, projection, same_names, same_stream, schema_at, under, with_columns, without_input}
use Rattle.step_keeps.specs.Kept.{IsMadeFor}

split_last : (xs : Shape) (p q : PhysicalNode) (n : ℕ) → slice_get (xs ++ p ∷ []) n ≡ Some q → (slice_get xs n ≡ Some q) ⊎ (p ≡ q)
split_last [] p q zero e = inr (same_Some p q e)
split_last [] p q (suc n) e = cc
split_last (x ∷ xs) p q zero e = inl e
split_last (x ∷ xs) p q (suc n) e = split_last xs p q n e

nodes_named : {A : Type 0} (xs : List A) (s : State) → (after_names xs s).nodes ≡ s.nodes
nodes_named [] s = refl
nodes_named (x ∷ xs) s = nodes_named xs (after_name s)

-- of a call that begins where so many nodes stand
module _ (at : ℕ) (input : Stream) (base : ℕ) where
  abbrev pub IsOurs : Stream → Type 0
  IsOurs i = (base ≤ i.0) ⊎ (i ≡ input)

  abbrev AreOurs : List Stream → Type 0
  AreOurs ss = AllByRecursion IsOurs ss

  record IsOwn (p : PhysicalNode) : Type 0 where
    origin : p.origin ≡ at
    reads : (i : Stream) → Contains p.inputs i → IsOurs i

  record Good (nodes : Shape) : Type 0 where
    long : base ≤ length nodes
    own : (n : ℕ) (p : PhysicalNode) → slice_get nodes n ≡ Some p → base ≤ n → IsOwn p

  abbrev MadeFrom : Made → Type 0
  MadeFrom m = Good m.state.nodes × IsOurs m.stream

  item : (ss : List Stream) (i : Stream) → AreOurs ss → Contains ss i → IsOurs i
  item [] i all (k, within, e) = absurd (omega arith)
  item (s ∷ ss) i all (zero, within, e) = subst IsOurs e all.0
  item (s ∷ ss) i all (suc k, within, e) = item ss i all.1 (k, omega arith, e)

  inserted : (s : State) (p : PhysicalNode) → p.origin ≡ at → Good s.nodes → AreOurs p.inputs → MadeFrom (insert_node s p)
  inserted s p o g h = (
    record { long = (let l = length-append s.nodes (p ∷ []) in let g = g.long in omega arith); own = λ n q there behind. by q n behind (split_last s.nodes p q n there) },
    inl g.long,
  )
    where
      by : (q : PhysicalNode) (n : ℕ) → base ≤ n → (slice_get s.nodes n ≡ Some q) ⊎ (p ≡ q) → IsOwn q
      by q n behind (inl there) = g.own n q there behind
      by q n behind (inr e) = subst IsOwn e (record { origin = o; reads = λ i k. item p.inputs i h k })

  added_ours : (t : Stream) (ss : List Stream) → IsOurs t → AreOurs ss → AreOurs (added t ss)
  added_ours t ss h all = by (list_any (same_stream t) ss)
    where
      more : (ss : List Stream) → AreOurs ss → AreOurs (ss ++ t ∷ [])
      more [] all = (h, tt)
      more (s ∷ ss) all = (all.0, more ss all.1)

      by : (b : Bool) → AreOurs (cond b ss (ss ++ t ∷ []))
      by true = all
      by false = more ss all

  all_added_ours : (ts ss : List Stream) → AreOurs ts → AreOurs ss → AreOurs (all_added ts ss)
  all_added_ours [] ss h all = all
  all_added_ours (t ∷ ts) ss h all = all_added_ours ts (added t ss) h.1 (added_ours t ss h.0 all)

  last_ours : (ss : List Stream) (t : Stream) → AreOurs ss → IsOurs t → AreOurs (ss ++ t ∷ [])
  last_ours [] t all h = (h, tt)
  last_ours (s ∷ ss) t all h = (all.0, last_ours ss t all.1 h)

  its_input : IsOurs input
  its_input = inr refl

  columns_own : (ns : List Name) (i : Stream) (s : State) → Good s.nodes → IsOurs i → MadeFrom (with_columns at ns i s)
  columns_own ns i s g h = by (same_names ns (names_of (schema_at s.nodes i)))
    where
      by : (b : Bool) → MadeFrom (cond {A = Made} b (record { state = s; stream = i }) (projection at ns i s))
      by true = (g, h)
      by false = inserted s _ refl g (h, tt)

  stream_own : (ss : List Stream) (s : State) → Good s.nodes → AreOurs ss → MadeFrom (one_stream at input ss s)
  stream_own [] s g h = inserted s _ refl g tt
  stream_own (t ∷ []) s g h = (g, h.0)
  stream_own (t ∷ u ∷ more) s g h = inserted s _ refl g h

  abbrev Gathers : Bundle → Type 0
  Gathers b = Good b.state.nodes × AreOurs b.streams

  one_own : (b : Bundle) → Gathers b → MadeFrom (one_of at input b.streams b.reduced b.state)
  one_own b h = by (is_empty b.reduced)
    where
      by : (e : Bool) → MadeFrom (cond {A = State → Made} e (one_stream at input b.streams) (with_reduce at input b.streams b.reduced) b.state)
      by true = stream_own b.streams b.state h.0 h.1
      by false =
          let m = over_selected at (reduce b.reduced) b.reduced input b.state in
          let k = inserted b.state _ refl h.0 (its_input, tt) in
          stream_own (b.streams ++ m.stream ∷ []) m.state k.0 (last_ours b.streams m.stream h.1 k.1)

  gathers : (c : Call) → Good c.state.nodes → AreOurs c.streams → Gathers (gathered at input c)
  gathers c g h = by (is_empty c.mapped)
    where
      by : (e : Bool) → Gathers (cond {A = Bundle} e (without_map at input c) (with_map at input c))
      by true = (g, h)
      by false =
          let below = with_columns at (names_kept c.mapped (schema_at c.state.nodes input)) input c.state in
          let k = columns_own (names_kept c.mapped (schema_at c.state.nodes input)) input c.state g its_input in
          let m = over_selected at (in_memory_map (select c.mapped)) c.mapped below.stream below.state in
          let l = inserted below.state _ refl k.0 (k.1, tt) in
          (l.0, added_ours m.stream c.streams l.1 h)

  -- what a rule does
  abbrev Owns : (Call → Call) → Type 0
  Owns rule = (c : Call) → Good c.state.nodes → AreOurs c.streams → Good (rule c).state.nodes × AreOurs (rule c).streams

  abbrev AllOwn : List Operand → Type 0
  AllOwn os = AllByRecursion (λ (o : Operand). Owns o.rule) os

  each_owns : (os : List Operand) → AllOwn os → Owns (each os)
  each_owns [] all c g h = (g, h)
  each_owns (x ∷ os) all c g h = let p = all.0 c g h in each_owns os all.1 (x.rule c) p.0 p.1

  good_named : {A : Type 0} (xs : List A) (s : State) → Good s.nodes → Good (after_names xs s).nodes
  good_named xs s g = subst Good (sym (nodes_named xs s)) g

  apart_own : {A : Type 0} (xs : List A) (es : List Named) (s : State) → Good s.nodes → MadeFrom (without_input at es (after_names xs s))
  apart_own xs es s g = inserted (after_names xs s) _ refl (good_named xs s g) tt

  together_owns : (os : List Operand) → AllOwn os → (s : State) → Good s.nodes → Gathers (together at input os s)
  together_owns os all s g = by (all_independent (exprs_of_all os))
    where
      by : (b : Bool) → Gathers (cond {A = State → Bundle} b (apart_from_input at input (exprs_of_all os)) (over_input at input os) s)
      by true = let m = apart_own (exprs_of_all os) (under (new_names (exprs_of_all os) s) (exprs_of_all os)) s g in (m.0, (m.1, tt))
      by false =
          let c = each os (new_call s) in
          let p = each_owns os all (new_call s) g tt in
          gathers c p.0 p.1

  answers_own : (os : List Operand) → AllOwn os → (s : State) → Good s.nodes → MadeFrom (one_of at input (together at input os s).streams (together at input os s).reduced (together at input os s).state)
  answers_own os all s g = one_own (together at input os s) (together_owns os all s g)

  abbrev AllItemsOwn : List NamedOperand → Type 0
  AllItemsOwn items = AllByRecursion (λ (i : NamedOperand). Owns i.1.rule) items

  item_operands : (items : List NamedOperand) → AllItemsOwn items → AllOwn (operands_of items)
  item_operands [] all = tt
  item_operands (i ∷ items) all = (all.0, item_operands items all.1)

  items_under : (ns : List Name) (os : List Operand) → AllOwn os → AllItemsOwn (under ns os)
  items_under [] os all = tt
  items_under (n ∷ ns) [] all = tt
  items_under (n ∷ ns) (o ∷ os) all = (all.0, items_under ns os all.1)

  selected_own : (items : List NamedOperand) → AllItemsOwn items → (s : State) → Good s.nodes → MadeFrom (selected at input items s)
  selected_own items all s g = by (all_independent (exprs_of_all (operands_of items))) (are_own_columns items)
    where
      by : (a b : Bool)
          → MadeFrom (cond {A = State → Made} a (without_input at (under (names_of_items items) (exprs_of_all (operands_of items)))) (cond {A = State → Made} b (with_columns at (names_of_items items) input) (computed at input items)) s)
      by true b = inserted s _ refl g tt
      by false true = columns_own (names_of_items items) input s g its_input
      by false false =
          let b = together at input (operands_of items) s in
          let k = answers_own (operands_of items) (item_operands items all) s g in
          let m = one_of at input b.streams b.reduced b.state in
          inserted m.state _ refl k.0 (k.1, tt)

  -- values and keys under fresh names, selected
  under_own : (os : List Operand) → AllOwn os → (s : State) → Good s.nodes → MadeFrom (selected at input (under (new_names os s) os) (after_names os s))
  under_own os all s g = selected_own (under (new_names os s) os) (items_under (new_names os s) os all) (after_names os s) (good_named os s g)

  given_owns : (c : Call) (m : Made) → AreOurs c.streams → MadeFrom m → Good m.state.nodes × AreOurs (added m.stream c.streams)
  given_owns c m h k = (k.0, added_ours m.stream c.streams k.1 h)

  owns_or : (e : Tree) (rule : Call → Call) → Owns rule → Owns (stays_or at input e rule)
  owns_or e rule owns c g h = by (is_elementwise e) (is_independent e)
    where
      by : (a b : Bool) → Good (cond {A = Call → Call} a (λ call. record call { streams = cond b call.streams (added input call.streams); exprs = call.exprs ++ e ∷ [] }) rule c).state.nodes
          × AreOurs (cond {A = Call → Call} a (λ call. record call { streams = cond b call.streams (added input call.streams); exprs = call.exprs ++ e ∷ [] }) rule c).streams
      by true true = (g, h)
      by true false = (g, added_ours input c.streams its_input h)
      by false b = owns c g h

  owns_left : (e : Tree) → Owns (left_to_map e)
  owns_left e c g h = (g, h)

  owns_operands : (op : List Tree → Tree) (os : List Operand) → AllOwn os → Owns (over_operands at input op os)
  owns_operands op os all c g h =
      let b = together at input os c.state in
      let k = together_owns os all c.state g in
      (k.0, all_added_ours b.streams c.streams k.1 h)

  owns_reduced : (op : List Tree → Tree) (os : List Operand) → AllOwn os → (c : Call) → Good c.state.nodes → AreOurs c.streams
      → Good (reduced_over at input op (together at input os c.state) c).state.nodes × AreOurs (reduced_over at input op (together at input os c.state) c).streams
  owns_reduced op os all c g h = by (is_stream_alone input b.streams b.reduced)
    where
      b : Bundle
      b = together at input os c.state

      by : (t : Bool) → Good (cond {A = Call → Call} t (given_reduction (op b.exprs) b.state) (reduced_apart at input (op b.exprs) (finished at input b)) c).state.nodes
          × AreOurs (cond {A = Call → Call} t (given_reduction (op b.exprs) b.state) (reduced_apart at input (op b.exprs) (finished at input b)) c).streams
      by true = let k = together_owns os all c.state g in (k.0, h)
      by false =
          let a = one_of at input b.streams b.reduced b.state in
          let k = answers_own os all c.state g in
          let es = (new_name a.state, op b.exprs) ∷ [] in
          let m = over_selected at (reduce es) es a.stream (after_name a.state) in
          given_owns c m h (inserted (after_name a.state) _ refl k.0 (k.1, tt))

  owns_column : (a : Aggregation) (x : Operand) → Owns x.rule → Owns (reduced_column at input a x)
  owns_column a x owns c g h = owns_reduced (λ es. Tree.aggregate a (first_tree es)) (x ∷ []) (owns, tt) c g h

  owns_aggregate : (a : Aggregation) (x : Operand) (e : Tree) → Owns x.rule → Owns (aggregated at input a x e)
  owns_aggregate Aggregation.n_unique x e owns = owns_left e
  owns_aggregate (Aggregation.count all) x e owns = owns_left e
  owns_aggregate Aggregation.min x e owns = owns_column Aggregation.min x owns
  owns_aggregate Aggregation.max x e owns = owns_column Aggregation.max x owns
  owns_aggregate Aggregation.first x e owns = owns_column Aggregation.first x owns
  owns_aggregate Aggregation.last x e owns = owns_column Aggregation.last x owns
  owns_aggregate Aggregation.sum x e owns = owns_column Aggregation.sum x owns

  mutual
    owns : (e : Tree) → Owns (lower at input e)
    owns (Tree.column name) c g h = owns_or (Tree.column name) (λ call. call) (λ c g h. (g, h)) c g h
    owns (Tree.literal l) c g h = owns_or (Tree.literal l) (λ call. call) (λ c g h. (g, h)) c g h
    owns (Tree.binary p l r) c g h =
        let os = as_operand at input l ∷ as_operand at input r ∷ [] in
        owns_or (Tree.binary p l r) (over_operands at input (λ es. Tree.binary p (first_tree es) (second_tree es)) os) (owns_operands (λ es. Tree.binary p (first_tree es) (second_tree es)) os (owns l, (owns r, tt))) c g h
    owns (Tree.cast k strict e) c g h =
        let os = as_operand at input e ∷ [] in
        owns_or (Tree.cast k strict e) (over_operands at input (λ es. Tree.cast k strict (first_tree es)) os) (owns_operands (λ es. Tree.cast k strict (first_tree es)) os (owns e, tt)) c g h
    owns (Tree.ternary p a b) c g h =
        let os = as_operand at input p ∷ as_operand at input a ∷ as_operand at input b ∷ [] in
        owns_or (Tree.ternary p a b) (over_operands at input (λ es. Tree.ternary (first_tree es) (second_tree es) (third_tree es)) os) (owns_operands (λ es. Tree.ternary (first_tree es) (second_tree es) (third_tree es)) os (owns p, (owns a, (owns b, tt)))) c g h
    owns (Tree.function f e) c g h = owns_or (Tree.function f e) (left_to_map (Tree.function f e)) (owns_left (Tree.function f e)) c g h
    owns (Tree.sort d n e) c g h =
        let name = new_name c.state in
        let os = as_operand at input e ∷ [] in
        let m = selected at input (under (new_names os c.state) os) (after_names os c.state) in
        let k = under_own os (owns e, tt) c.state g in
        let step = sort (record { keys = Tree.column name ∷ []; descending = d ∷ []; nulls_last = n ∷ []; cut = None }) in
        let v = over_same at (in_memory_map step) m.stream m.state in
        given_owns c v h (inserted m.state _ refl k.0 (k.1, tt))
    owns (Tree.sort_by d n e by) c g h =
        let os = as_operand at input e ∷ operands at input by in
        let ns = new_names os c.state in
        let m = selected at input (under ns os) (after_names os c.state) in
        let k = under_own os (owns e, own_all by) c.state g in
        let step = sort (record { keys = columns_named (other_names ns); descending = d; nulls_last = n; cut = None }) in
        let v = over_same at (in_memory_map step) m.stream m.state in
        let l = inserted m.state _ refl k.0 (k.1, tt) in
        let w = with_columns at (first_name ns ∷ []) v.stream v.state in
        given_owns c w h (columns_own (first_name ns ∷ []) v.stream v.state l.0 l.1)
    owns (Tree.gather s e x) c g h = owns_left (Tree.gather s e x) c g h
    owns (Tree.filter e by) c g h =
        let os = as_operand at input e ∷ as_operand at input by ∷ [] in
        let ns = new_names os c.state in
        let m = selected at input (under ns os) (after_names os c.state) in
        let k = under_own os (owns e, (owns by, tt)) c.state g in
        let v = over_same at (filter_node (first_tree (columns_named (other_names ns)))) m.stream m.state in
        given_owns c v h (inserted m.state _ refl k.0 (k.1, tt))
    owns (Tree.aggregate a e) c g h = owns_aggregate a (as_operand at input e) (Tree.aggregate a e) (owns e) c g h
    owns (Tree.slice e x l) c g h = owns_left (Tree.slice e x l) c g h
    owns Tree.len c g h = (g, h)
    owns (Tree.left_out w) c g h = owns_left (Tree.left_out w) c g h
    owns Tree.missing c g h = owns_left Tree.missing c g h

    own_all : (es : Trees) → AllOwn (operands at input es)
    own_all Trees.no_trees = tt
    own_all (Trees.tree e es) = (owns e, own_all es)

  all_own : (es : List Tree) → AllOwn (map (as_operand at input) es)
  all_own [] = tt
  all_own (e ∷ es) = (owns e, all_own es)

  items_own : (es : List Named) → AllItemsOwn (map (λ (e : Named). (e.0, as_operand at input e.1)) es)
  items_own [] = tt
  items_own (e ∷ es) = (owns e.1, items_own es)

  -- nothing is made yet
  begin : (nodes : Shape) → base ≡ length nodes → Good nodes
  begin nodes e = record { long = omega arith; own = λ n p there behind. (let inside = slice_get_within nodes n p there in absurd (omega arith)) }

module _ (at : ℕ) (input : Stream) (s : State) where
  ours : (i : Stream) → IsOurs at input (length s.nodes) i → (length s.nodes ≤ i.0) ⊎ Contains (input ∷ []) i
  ours i (inl h) = inl h
  ours i (inr e) = inr (0, omega arith, sym e)

  made_all : (after more : Shape) → after ≡ s.nodes ++ more → Good at input (length s.nodes) after → AllByRecursion (IsMadeFor at s.nodes (input ∷ [])) more
  made_all after more e g = by more 0 (λ k p there. g.own (length s.nodes + k) p (place k p there) (omega arith))
    where
      place : (k : ℕ) (p : PhysicalNode) → slice_get more k ≡ Some p → slice_get after (length s.nodes + k) ≡ Some p
      place k p there =
          let n : length s.nodes + k - length s.nodes ≡ k = omega arith in
          ap (λ (xs : Shape). slice_get xs (length s.nodes + k)) e ∙ slice_get-behind s.nodes more (length s.nodes + k) (omega arith) ∙ ap (slice_get more) n ∙ there

      by : (ps : Shape) (from : ℕ) → ((k : ℕ) (p : PhysicalNode) → slice_get ps k ≡ Some p → IsOwn at input (length s.nodes) p) → AllByRecursion (IsMadeFor at s.nodes (input ∷ [])) ps
      by [] from own = tt
      by (p ∷ ps) from own =
          let o = own 0 p refl in
          (record { origin = o.origin; reads = λ i h. ours i (o.reads i h) }, by ps from (λ k q there. own (suc k) q there))

  -- what a call for expressions and a select make
  pub exprs_made : (es : List Tree) (more : Shape) → let a = lower_exprs at input es s in a.state.nodes ≡ s.nodes ++ more → AllByRecursion (IsMadeFor at s.nodes (input ∷ [])) more × ((length s.nodes ≤ a.stream.0) ⊎ Contains (input ∷ []) a.stream)
  exprs_made es more e =
      let a = lower_exprs at input es s in
      let k = answers_own at input (length s.nodes) (map (as_operand at input) es) (all_own at input (length s.nodes) es) s (begin at input (length s.nodes) s.nodes refl) in
      (made_all a.state.nodes more e k.0, ours a.stream k.1)

  pub select_made : (es : List Named) (more : Shape) → let m = select_stream at input es s in m.state.nodes ≡ s.nodes ++ more → AllByRecursion (IsMadeFor at s.nodes (input ∷ [])) more × ((length s.nodes ≤ m.stream.0) ⊎ Contains (input ∷ []) m.stream)
  select_made es more e =
      let m = select_stream at input es s in
      let k = selected_own at input (length s.nodes) (map (λ (e : Named). (e.0, as_operand at input e.1)) es) (items_own at input (length s.nodes) es) s (begin at input (length s.nodes) s.nodes refl) in
      (made_all m.state.nodes more e k.0, ours m.stream k.1)
