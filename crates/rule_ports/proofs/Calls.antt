-- Calls for expressions keep nodes plain.
use Rattle.std.proofs.Common.{◌≡◌, ℕ, ◌≤◌, Bool, true, false, cond, List, [], ◌∷◌, ◌++◌, length, map, None, refl, sym, ap, subst, arith}
use Rattle.std.specs.Prelude.{flat_map, if◌then◌else◌}
use Rattle.std.specs.List.{AllByRecursion}
use Rattle.ps_frame.specs.Causes.{is_empty}
use Rattle.ps_frame.specs.Trees.{Aggregation, Tree, Trees}
use Rattle.ps_frame.specs.Typing.{is_elementwise, is_independent}
use Rattle.ps_meaning.specs.Shape.{Shape, filter_node, in_memory_map, in_memory_sink, reduce, select_node, zip_node}
use Rattle.ps_meaning.specs.Steps.{Name, Named, select, sort}
use Rattle.ps_rules.specs.Bundles.{finished, gathered, is_stream_alone, mapped_stream, names_kept, one_of, one_stream, with_map, with_reduce, without_map, zip_of}
use Rattle.ps_rules.specs.Calls.{Answer, Bundle, Call, Operand, all_independent, each, exprs_of_all, given, given_reduction, left_to_map, new_call}
use Rattle.ps_rules.specs.Lowered.{as_operand, lower, lower_exprs, operands, select_stream}
use Rattle.ps_rules.specs.Rules.{NamedOperand, aggregated, answered, apart_from_input, are_own_columns, computed, counted_rows, filtered_column, first_name, first_tree, names_of_items, operands_of, other_names, over_input, over_operands, reduced_apart, reduced_column, reduced_over, second_tree, selected, selected_from_input, sorted_by, sorted_column, stays, stays_or, third_tree, together}
use Rattle.ps_rules.specs.Slots.{Made, State, Stream, added, after_name, after_names, columns_named, new_name, new_names, over_same, over_selected, schema_at, under, with_columns, without_input}
use Rattle.rule_ports.proofs.Plain.{AllFirst, ArePlain, IsFirst, Makes, added_first, all_added_first, all_joined, all_stay, first_stays, inserted, made_from, same_makes, selected_makes, stands_as, with_columns_makes, without_makes}

no_reduce : (es : List Named) → reduce es ≡ in_memory_sink → ⊥
no_reduce es e = cc

-- names alone change no node
pub named : {A : Type 0} (xs : List A) (s : State) → (after_names xs s).nodes ≡ s.nodes
named [] s = refl
named (x ∷ xs) s = named xs (after_name s)

module _ (at : ℕ) (input : Stream) where
  -- a call under way: plain nodes, among them those of the streams and of the input
  pub record IsGood (c : Call) : Type 0 where
    pub plain : ArePlain c.state.nodes
    pub streams : AllFirst c.state.nodes c.streams
    pub first : IsFirst c.state.nodes input

  pub record Goes (c d : Call) : Type 0 where
    pub good : IsGood d
    pub more : length c.state.nodes ≤ length d.state.nodes

  abbrev pub IsGoodRule : (Call → Call) → Type 0
  IsGoodRule rule = (c : Call) → IsGood c → Goes c (rule c)

  abbrev pub AllGood : List Operand → Type 0
  AllGood os = AllByRecursion (λ (o : Operand). IsGoodRule o.rule) os

  pub record IsGathered (s : State) (b : Bundle) : Type 0 where
    pub plain : ArePlain b.state.nodes
    pub streams : AllFirst b.state.nodes b.streams
    pub more : length s.nodes ≤ length b.state.nodes

  pub record IsAnswered (s : State) (a : Answer) : Type 0 where
    pub plain : ArePlain a.state.nodes
    pub stream : IsFirst a.state.nodes a.stream
    pub more : length s.nodes ≤ length a.state.nodes

  each_good : (os : List Operand) → AllGood os → IsGoodRule (each os)
  each_good [] all c g = record { good = g; more = omega arith }
  each_good (o ∷ os) all c g =
      let first = all.0 c g in
      let rest = each_good os all.1 (o.rule c) first.good in
      let a = first.more in
      let b = rest.more in
      record { good = rest.good; more = omega (arith, a, b) }

  new_good : (s : State) → ArePlain s.nodes → IsFirst s.nodes input → IsGood (new_call s)
  new_good s plain first = record { plain = plain; streams = tt; first = first }

  -- what a call has gathered
  mapped_makes : (es : List Named) (s : State) → ArePlain s.nodes → IsFirst s.nodes input → Makes s (mapped_stream at input es s)
  mapped_makes es s plain first =
      let below = with_columns at (names_kept es (schema_at s.nodes input)) input s in
      let w = with_columns_makes at (names_kept es (schema_at s.nodes input)) input s plain first in
      made_from s below.state (over_selected at (in_memory_map (select es)) es below.stream below.state) w.more (selected_makes at (in_memory_map (select es)) es below.stream below.state (λ e. cc) w.plain w.stream)

  gathered_good : (c : Call) → IsGood c → IsGathered c.state (gathered at input c)
  gathered_good c g = by (is_empty c.mapped)
    where
      by : (b : Bool) → IsGathered c.state (if b then without_map at input c else with_map at input c)
      by true = record { plain = g.plain; streams = g.streams; more = omega arith }
      by false =
          let m = mapped_makes c.mapped c.state g.plain g.first in
          let made = mapped_stream at input c.mapped c.state in
          record { plain = m.plain; streams = added_first made.state.nodes made.stream c.streams m.stream (all_stay c.state.nodes made.state.nodes c.streams m.more g.streams); more = m.more }

  zip_makes : (ss : List Stream) (s : State) → ArePlain s.nodes → AllFirst s.nodes ss → Makes s (zip_of at input ss s)
  zip_makes ss s plain all = inserted s (record { kind = zip_node false; schema = flat_map (schema_at s.nodes) ss; origin = at; inputs = ss }) plain all (λ e. cc)

  one_makes : (ss : List Stream) (s : State) → ArePlain s.nodes → AllFirst s.nodes ss → Makes s (one_stream at input ss s)
  one_makes [] s plain all = zip_makes [] s plain all
  one_makes (t ∷ []) s plain all = stands_as at s t plain all.0
  one_makes (t ∷ u ∷ more) s plain all = zip_makes (t ∷ u ∷ more) s plain all

  reduce_makes : (ss : List Stream) (es : List Named) (s : State) → ArePlain s.nodes → IsFirst s.nodes input → AllFirst s.nodes ss → Makes s (with_reduce at input ss es s)
  reduce_makes ss es s plain first all =
      let made = over_selected at (reduce es) es input s in
      let m = selected_makes at (reduce es) es input s (λ e. cc) plain first in
      let streams = all_joined made.state.nodes ss (made.stream ∷ []) (all_stay s.nodes made.state.nodes ss m.more all) (m.stream, tt) in
      made_from s made.state (one_stream at input (ss ++ made.stream ∷ []) made.state) m.more (one_makes (ss ++ made.stream ∷ []) made.state m.plain streams)

  one_of_makes : (ss : List Stream) (es : List Named) (s : State) → ArePlain s.nodes → IsFirst s.nodes input → AllFirst s.nodes ss → Makes s (one_of at input ss es s)
  one_of_makes ss es s plain first all = by (is_empty es)
    where
      by : (b : Bool) → Makes s (cond {A = State → Made} b (one_stream at input ss) (with_reduce at input ss es) s)
      by true = one_makes ss s plain all
      by false = reduce_makes ss es s plain first all

  finished_good : (s : State) (b : Bundle) → IsFirst s.nodes input → IsGathered s b → IsAnswered s (finished at input b)
  finished_good s b first g =
      let m = one_of_makes b.streams b.reduced b.state g.plain (first_stays s.nodes b.state.nodes input g.more first) g.streams in
      let x = g.more in
      let y = m.more in
      record { plain = m.plain; stream = m.stream; more = omega (arith, x, y) }

  -- a state whose names alone changed
  named_plain : {A : Type 0} (xs : List A) (s : State) → ArePlain s.nodes → ArePlain (after_names xs s).nodes
  named_plain xs s plain = subst ArePlain (sym (named xs s)) plain

  named_first : {A : Type 0} (xs : List A) (s : State) (i : Stream) → IsFirst s.nodes i → IsFirst (after_names xs s).nodes i
  named_first xs s i first = subst (λ (nodes : Shape). IsFirst nodes i) (sym (named xs s)) first

  named_more : {A : Type 0} (xs : List A) (s : State) (m : Made) → Makes (after_names xs s) m → Makes s m
  named_more xs s m k = let e = ap length (named xs s) in made_from s (after_names xs s) m (omega (arith, e)) k

  apart_good : (es : List Tree) (s : State) → ArePlain s.nodes → IsGathered s (apart_from_input at input es s)
  apart_good es s plain =
      let ns = new_names es s in
      let m = named_more es s (without_input at (under ns es) (after_names es s)) (without_makes at (under ns es) (after_names es s) (named_plain es s plain)) in
      record { plain = m.plain; streams = (m.stream, tt); more = m.more }

  together_good : (os : List Operand) → AllGood os → (s : State) → ArePlain s.nodes → IsFirst s.nodes input → IsGathered s (together at input os s)
  together_good os all s plain first = by (all_independent (exprs_of_all os))
    where
      by : (b : Bool) → IsGathered s (cond {A = State → Bundle} b (apart_from_input at input (exprs_of_all os)) (over_input at input os) s)
      by true = apart_good (exprs_of_all os) s plain
      by false =
          let r = each_good os all (new_call s) (new_good s plain first) in
          let g = gathered_good (each os (new_call s)) r.good in
          let x = r.more in
          let y = g.more in
          record { plain = g.plain; streams = g.streams; more = omega (arith, x, y) }

  pub answered_good : (os : List Operand) → AllGood os → (s : State) → ArePlain s.nodes → IsFirst s.nodes input → IsAnswered s (answered at input os s)
  answered_good os all s plain first = finished_good s (together at input os s) first (together_good os all s plain first)

  -- a select
  computed_makes : (items : List NamedOperand) → AllGood (operands_of items) → (s : State) → ArePlain s.nodes → IsFirst s.nodes input → Makes s (computed at input items s)
  computed_makes items all s plain first =
      let a = answered at input (operands_of items) s in
      let g = answered_good (operands_of items) all s plain first in
      let es = under (names_of_items items) a.exprs in
      made_from s a.state (over_selected at (select_node es false) es a.stream a.state) g.more (selected_makes at (select_node es false) es a.stream a.state (λ e. cc) g.plain g.stream)

  from_input_makes : (items : List NamedOperand) → AllGood (operands_of items) → (s : State) → ArePlain s.nodes → IsFirst s.nodes input → Makes s (selected_from_input at input items s)
  from_input_makes items all s plain first = by (are_own_columns items)
    where
      by : (b : Bool) → Makes s (cond {A = State → Made} b (with_columns at (names_of_items items) input) (computed at input items) s)
      by true = with_columns_makes at (names_of_items items) input s plain first
      by false = computed_makes items all s plain first

  pub select_makes : (items : List NamedOperand) → AllGood (operands_of items) → (s : State) → ArePlain s.nodes → IsFirst s.nodes input → Makes s (selected at input items s)
  select_makes items all s plain first = by (all_independent (exprs_of_all (operands_of items)))
    where
      by : (b : Bool) → Makes s (cond {A = State → Made} b (without_input at (under (names_of_items items) (exprs_of_all (operands_of items)))) (selected_from_input at input items) s)
      by true = without_makes at (under (names_of_items items) (exprs_of_all (operands_of items))) s plain
      by false = from_input_makes items all s plain first

  -- rules
  stays_good : (e : Tree) → IsGoodRule (stays at input e)
  stays_good e c g = record { good = record { plain = g.plain; streams = by (is_independent e); first = g.first }; more = omega arith }
    where
      by : (b : Bool) → AllFirst c.state.nodes (if b then c.streams else added input c.streams)
      by true = g.streams
      by false = added_first c.state.nodes input c.streams g.first g.streams

  stays_or_good : (e : Tree) (rule : Call → Call) → IsGoodRule rule → IsGoodRule (stays_or at input e rule)
  stays_or_good e rule r c g = by (is_elementwise e)
    where
      by : (b : Bool) → Goes c (cond {A = Call → Call} b (stays at input e) rule c)
      by true = stays_good e c g
      by false = r c g

  self_good : IsGoodRule (λ call. call)
  self_good c g = record { good = g; more = omega arith }

  left_good : (e : Tree) → IsGoodRule (left_to_map e)
  left_good e c g = record { good = record { plain = g.plain; streams = g.streams; first = g.first }; more = omega arith }

  over_good : (operator : List Tree → Tree) (os : List Operand) → AllGood os → IsGoodRule (over_operands at input operator os)
  over_good operator os all c g =
      let b = together at input os c.state in
      let k = together_good os all c.state g.plain g.first in
      record {
        good = record {
          plain = k.plain;
          streams = all_added_first b.state.nodes b.streams c.streams k.streams (all_stay c.state.nodes b.state.nodes c.streams k.more g.streams);
          first = first_stays c.state.nodes b.state.nodes input k.more g.first;
        };
        more = k.more;
      }

  given_good : (e : Tree) (m : Made) (c : Call) → IsGood c → Makes c.state m → Goes c (given e m.stream m.state c)
  given_good e m c g k =
      record {
        good = record {
          plain = k.plain;
          streams = added_first m.state.nodes m.stream c.streams k.stream (all_stay c.state.nodes m.state.nodes c.streams k.more g.streams);
          first = first_stays c.state.nodes m.state.nodes input k.more g.first;
        };
        more = k.more;
      }

  under_good : (ns : List Name) (os : List Operand) → AllGood os → AllGood (operands_of (under ns os))
  under_good [] os all = tt
  under_good (n ∷ ns) [] all = tt
  under_good (n ∷ ns) (o ∷ os) all = (all.0, under_good ns os all.1)

  sorted_good : (d n : Bool) (o : Operand) → IsGoodRule o.rule → IsGoodRule (sorted_column at input d n o)
  sorted_good d n o r c g =
      let name = new_name c.state in
      let m = selected at input ((name, o) ∷ []) (after_name c.state) in
      let k = select_makes ((name, o) ∷ []) (r, tt) (after_name c.state) g.plain g.first in
      let step = sort (record { keys = Tree.column name ∷ []; descending = d ∷ []; nulls_last = n ∷ []; cut = None }) in
      let sorted = over_same at (in_memory_map step) m.stream m.state in
      given_good (Tree.column name) sorted c g (made_from c.state m.state sorted k.more (same_makes at (in_memory_map step) m.stream m.state (λ e. cc) k.plain k.stream))

  by_good : (d n : List Bool) (o : Operand) (by : List Operand) → AllGood (o ∷ by) → IsGoodRule (sorted_by at input d n o by)
  by_good d n o by all c g =
      let ns = new_names (o ∷ by) c.state in
      let m = selected at input (under ns (o ∷ by)) (after_names (o ∷ by) c.state) in
      let k = named_more (o ∷ by) c.state m (select_makes (under ns (o ∷ by)) (under_good ns (o ∷ by) all) (after_names (o ∷ by) c.state) (named_plain (o ∷ by) c.state g.plain) (named_first (o ∷ by) c.state input g.first)) in
      let step = sort (record { keys = columns_named (other_names ns); descending = d; nulls_last = n; cut = None }) in
      let sorted = over_same at (in_memory_map step) m.stream m.state in
      let s = made_from c.state m.state sorted k.more (same_makes at (in_memory_map step) m.stream m.state (λ e. cc) k.plain k.stream) in
      let v = with_columns at (first_name ns ∷ []) sorted.stream sorted.state in
      given_good (Tree.column (first_name ns)) v c g (made_from c.state sorted.state v s.more (with_columns_makes at (first_name ns ∷ []) sorted.stream sorted.state s.plain s.stream))

  filtered_good : (o by : Operand) → IsGoodRule o.rule → IsGoodRule by.rule → IsGoodRule (filtered_column at input o by)
  filtered_good o by r q c g =
      let ns = new_names (o ∷ by ∷ []) c.state in
      let m = selected at input (under ns (o ∷ by ∷ [])) (after_names (o ∷ by ∷ []) c.state) in
      let k = named_more (o ∷ by ∷ []) c.state m (select_makes (under ns (o ∷ by ∷ [])) (under_good ns (o ∷ by ∷ []) (r, (q, tt))) (after_names (o ∷ by ∷ []) c.state) (named_plain (o ∷ by ∷ []) c.state g.plain) (named_first (o ∷ by ∷ []) c.state input g.first)) in
      let kind = filter_node (first_tree (columns_named (other_names ns))) in
      let n = over_same at kind m.stream m.state in
      given_good (Tree.column (first_name ns)) n c g (made_from c.state m.state n k.more (same_makes at kind m.stream m.state (λ e. cc) k.plain k.stream))

  apart_reduced : (e : Tree) (a : Answer) (c : Call) → IsGood c → IsAnswered c.state a → Goes c (reduced_apart at input e a c)
  apart_reduced e a c g k =
      let es : List Named = (new_name a.state, e) ∷ [] in
      let m : Made = over_selected at (reduce es) es a.stream (after_name a.state) in
      given_good (Tree.column (new_name a.state)) m c g (made_from c.state (after_name a.state) m k.more (selected_makes at (reduce es) es a.stream (after_name a.state) (no_reduce es) k.plain k.stream))

  over_reduced : (e : List Tree → Tree) (b : Bundle) (c : Call) → IsGood c → IsGathered c.state b → Goes c (reduced_over at input e b c)
  over_reduced e b c g k = by (is_stream_alone input b.streams b.reduced)
    where
      by : (d : Bool) → Goes c (cond {A = Call → Call} d (given_reduction (e b.exprs) b.state) (reduced_apart at input (e b.exprs) (finished at input b)) c)
      by true = record { good = record { plain = k.plain; streams = all_stay c.state.nodes b.state.nodes c.streams k.more g.streams; first = first_stays c.state.nodes b.state.nodes input k.more g.first }; more = k.more }
      by false = apart_reduced (e b.exprs) (finished at input b) c g (finished_good c.state b g.first k)

  reduced_good : (a : Aggregation) (o : Operand) → IsGoodRule o.rule → IsGoodRule (reduced_column at input a o)
  reduced_good a o r c g = over_reduced (λ es. Tree.aggregate a (first_tree es)) (together at input (o ∷ []) c.state) c g (together_good (o ∷ []) (r, tt) c.state g.plain g.first)

  counted_good : IsGoodRule (counted_rows at input)
  counted_good c g = record { good = record { plain = g.plain; streams = g.streams; first = g.first }; more = omega arith }

  aggregated_good : (a : Aggregation) (o : Operand) (e : Tree) → IsGoodRule o.rule → IsGoodRule (aggregated at input a o e)
  aggregated_good Aggregation.n_unique o e r = left_good e
  aggregated_good (Aggregation.count all) o e r = left_good e
  aggregated_good Aggregation.min o e r = reduced_good Aggregation.min o r
  aggregated_good Aggregation.max o e r = reduced_good Aggregation.max o r
  aggregated_good Aggregation.first o e r = reduced_good Aggregation.first o r
  aggregated_good Aggregation.last o e r = reduced_good Aggregation.last o r
  aggregated_good Aggregation.sum o e r = reduced_good Aggregation.sum o r

  mutual
    pub lower_good : (e : Tree) → IsGoodRule (lower at input e)
    lower_good (Tree.column name) = stays_or_good (Tree.column name) (λ call. call) self_good
    lower_good (Tree.literal l) = stays_or_good (Tree.literal l) (λ call. call) self_good
    lower_good (Tree.binary o l r) =
        let os = record { expr = l; rule = lower at input l } ∷ record { expr = r; rule = lower at input r } ∷ [] in
        let operator : List Tree → Tree = λ es. Tree.binary o (first_tree es) (second_tree es) in
        stays_or_good (Tree.binary o l r) (over_operands at input operator os) (over_good operator os (lower_good l, (lower_good r, tt)))
    lower_good (Tree.cast k strict e) =
        let os = record { expr = e; rule = lower at input e } ∷ [] in
        let operator : List Tree → Tree = λ es. Tree.cast k strict (first_tree es) in
        stays_or_good (Tree.cast k strict e) (over_operands at input operator os) (over_good operator os (lower_good e, tt))
    lower_good (Tree.sort d n e) = sorted_good d n (record { expr = e; rule = lower at input e }) (lower_good e)
    lower_good (Tree.sort_by d n e by) = by_good d n (record { expr = e; rule = lower at input e }) (operands at input by) (lower_good e, operands_good by)
    lower_good (Tree.gather s e i) = left_good (Tree.gather s e i)
    lower_good (Tree.filter e by) = filtered_good (record { expr = e; rule = lower at input e }) (record { expr = by; rule = lower at input by }) (lower_good e) (lower_good by)
    lower_good (Tree.aggregate a e) = aggregated_good a (record { expr = e; rule = lower at input e }) (Tree.aggregate a e) (lower_good e)
    lower_good (Tree.ternary p a b) =
        let os = record { expr = p; rule = lower at input p } ∷ record { expr = a; rule = lower at input a } ∷ record { expr = b; rule = lower at input b } ∷ [] in
        let operator : List Tree → Tree = λ es. Tree.ternary (first_tree es) (second_tree es) (third_tree es) in
        stays_or_good (Tree.ternary p a b) (over_operands at input operator os) (over_good operator os (lower_good p, (lower_good a, (lower_good b, tt))))
    lower_good (Tree.function g e) = stays_or_good (Tree.function g e) (left_to_map (Tree.function g e)) (left_good (Tree.function g e))
    lower_good (Tree.slice e o l) = left_good (Tree.slice e o l)
    lower_good Tree.len = counted_good
    lower_good (Tree.left_out w) = left_good (Tree.left_out w)
    lower_good Tree.missing = left_good Tree.missing

    operands_good : (ts : Trees) → AllGood (operands at input ts)
    operands_good Trees.no_trees = tt
    operands_good (Trees.tree t ts) = (lower_good t, operands_good ts)

  as_operands_good : (es : List Tree) → AllGood (map (as_operand at input) es)
  as_operands_good [] = tt
  as_operands_good (e ∷ es) = (lower_good e, as_operands_good es)

  items_good : (es : List Named) → AllGood (operands_of (map (λ (e : Named). (e.0, as_operand at input e.1)) es))
  items_good [] = tt
  items_good (e ∷ es) = (lower_good e.1, items_good es)

  -- one call for expressions, and a select
  pub exprs_good : (es : List Tree) (s : State) → ArePlain s.nodes → IsFirst s.nodes input → IsAnswered s (lower_exprs at input es s)
  exprs_good es s plain first = answered_good (map (as_operand at input) es) (as_operands_good es) s plain first

  pub select_stream_makes : (es : List Named) (s : State) → ArePlain s.nodes → IsFirst s.nodes input → Makes s (select_stream at input es s)
  select_stream_makes es s plain first = select_makes (map (λ (e : Named). (e.0, as_operand at input e.1)) es) (items_good es) s plain first
