-- Where the answers of a call stand: one for each expression, in order; a column is answered by itself.
use Rattle.std.proofs.Common.{◌≡◌, ℕ, suc, ◌≤◌, Bool, true, false, cond, List, [], ◌∷◌, ◌++◌, length, refl, sym, ap, ◌∙◌, arith, append_assoc}
use Rattle.std.specs.Prelude.{◌&&◌, map, ⊤}
use Rattle.std.specs.List.{AllByRecursion}
use Rattle.std.proofs.lemmas.List.{append-nil}
use Rattle.ps_frame.specs.Trees.{Aggregation, Tree}
use Rattle.ps_frame.specs.Typing.{is_elementwise, is_independent}
use Rattle.ps_frame.specs.declared.expr.Operator.{Operator}
use Rattle.ps_frame.specs.declared.value.DataType.{DataType}
use Rattle.ps_meaning.specs.Steps.{Name}
use Rattle.ps_rules.specs.Bundles.{finished, is_stream_alone}
use Rattle.ps_rules.specs.Calls.{Bundle, Call, Operand, all_independent, each, exprs_of_all, given_reduction, left_to_map, new_call}
use Rattle.ps_rules.specs.Lowered.{as_operand, lower, lower_exprs, operands}
use Rattle.ps_rules.specs.Rules.{aggregated, apart_from_input, filtered_column, first_tree, over_input, over_operands, reduced_apart, reduced_column, sorted_by, sorted_column, stays, stays_or, together}
use Rattle.ps_rules.specs.Slots.{State, Stream, columns_named, new_name}
use Rattle.ps_shares.proofs.Growing.{binary_of, cast_of, gathered_exprs, ternary_of}
use Rattle.name_rules.proofs.Listing.{and_true, columns_read, count_columns, either_false}
use Rattle.name_rules.proofs.Items.{operands_listed}

-- What an expression is answered by: a column by itself; and what reads the input, or isn't elementwise, by what reads a stream.
pub record Follows (e x : Tree) : Type 0 where
  pub own : (n : Name) → e ≡ Tree.column n → x ≡ Tree.column n
  pub reads : (is_independent e && is_elementwise e) ≡ false → is_independent x ≡ false

-- one for each, in order
abbrev pub AllFollow : List Tree → List Tree → Type 0
AllFollow [] [] = ⊤
AllFollow (e ∷ es) (x ∷ xs) = Follows e x × AllFollow es xs
AllFollow _ _ = ⊥

pub follow_count : (es xs : List Tree) → AllFollow es xs → length xs ≡ length es
follow_count [] [] h = refl
follow_count [] (x ∷ xs) h = absurd h
follow_count (e ∷ es) [] h = absurd h
follow_count (e ∷ es) (x ∷ xs) h = ap suc (follow_count es xs h.1)

and_false : (a b : Bool) → a ≡ false → (a && b) ≡ false
and_false a b q = ap (λ x. x && b) q

follow_reads : (es xs : List Tree) → AllFollow es xs → all_independent es ≡ false → all_independent xs ≡ false
follow_reads [] xs h q = absurd (let no : true ≡ false = q in cc)
follow_reads (e ∷ es) [] h q = absurd h
follow_reads (e ∷ es) (x ∷ xs) h q = either_false (is_independent e) (all_independent es) (is_independent x) (all_independent xs) (λ k. h.0.reads (and_false (is_independent e) (is_elementwise e) k)) (follow_reads es xs h.1) q

by_itself : (e : Tree) → is_elementwise e ≡ true → Follows e e
by_itself e q = record { own = λ n h. h; reads = λ h. sym (and_true (is_independent e)) ∙ sym (ap (λ b. is_independent e && b) q) ∙ h }

by_column : (e : Tree) (f : Name) → ((n : Name) → e ≡ Tree.column n → ⊥) → Follows e (Tree.column f)
by_column e f none = record { own = λ n q. absurd (none n q); reads = λ q. refl }

module _ (at : ℕ) (input : Stream) where
  record One (e : Tree) (c d : Call) : Type 0 where
    new : Tree
    exprs : d.exprs ≡ c.exprs ++ new ∷ []
    follows : Follows e new

  abbrev Does : Tree → Type 0
  Does e = (c : Call) → One e c (lower at input e c)

  abbrev AllDo : List Tree → Type 0
  AllDo es = AllByRecursion Does es

  abbrev ops : List Tree → List Operand
  ops es = map (as_operand at input) es

  -- what several expressions are answered by
  pub record Answers (es : List Tree) (c d : Call) : Type 0 where
    pub news : List Tree
    pub exprs : d.exprs ≡ c.exprs ++ news
    pub follow : AllFollow es news

  each_of : (es : List Tree) → AllDo es → (c : Call) → Answers es c (each (ops es) c)
  each_of [] steps c = record { news = []; exprs = sym (append-nil c.exprs); follow = tt }
  each_of (e ∷ es) steps c =
      let d = lower at input e c in
      let x = steps.0 c in
      let r = each_of es steps.1 d in
      record {
        news = x.new ∷ r.news;
        exprs = r.exprs ∙ ap (λ (xs : List Tree). xs ++ r.news) x.exprs ∙ append_assoc c.exprs (x.new ∷ []) r.news;
        follow = (x.follows, r.follow);
      }

  -- of what is lowered together some part reads a stream
  record Gathered (es : List Tree) (b : Bundle) : Type 0 where
    count : length b.exprs ≡ length es
    reads : 1 ≤ length es → all_independent b.exprs ≡ false

  listed_count : (es : List Tree) → length (ops es) ≡ length es
  listed_count [] = refl
  listed_count (e ∷ es) = ap suc (listed_count es)

  gathered_of : (es : List Tree) → AllDo es → (s : State) → Gathered es (together at input (ops es) s)
  gathered_of es steps s = by (all_independent (exprs_of_all (ops es))) refl
    where
      by : (b : Bool) → all_independent (exprs_of_all (ops es)) ≡ b → Gathered es (cond {A = State → Bundle} b (apart_from_input at input (exprs_of_all (ops es))) (over_input at input (ops es)) s)
      by true q = let n = listed_count es in record { count = count_columns (ops es) s ∙ n; reads = λ some. columns_read (ops es) s (omega arith) }
      by false q =
          let r = each_of es steps (new_call s) in
          let is = gathered_exprs at input (each (ops es) (new_call s)) ∙ r.exprs in
          record {
            count = ap length is ∙ follow_count es r.news r.follow;
            reads = λ some. ap all_independent is ∙ follow_reads es r.news r.follow (ap all_independent (sym (operands_listed at input es)) ∙ q);
          }

  stays_does : (e : Tree) (rule : Call → Call) → (is_elementwise e ≡ false → (c : Call) → One e c (rule c)) → (c : Call) → One e c (stays_or at input e rule c)
  stays_does e rule rest c = by (is_elementwise e) refl
    where
      by : (b : Bool) → is_elementwise e ≡ b → One e c (cond {A = Call → Call} b (stays at input e) rule c)
      by true q = record { new = e; exprs = refl; follows = by_itself e q }
      by false q = rest q c

  left_does : (e : Tree) → ((n : Name) → e ≡ Tree.column n → ⊥) → (c : Call) → One e c (left_to_map e c)
  left_does e none c = record { new = Tree.column (new_name c.state); exprs = refl; follows = by_column e (new_name c.state) none }

  -- an operator over operands that are lowered together
  operator_does : (e : Tree) (op : List Tree → Tree) (es : List Tree) → AllDo es → 1 ≤ length es → ((n : Name) → e ≡ Tree.column n → ⊥) → ((bs : List Tree) → length bs ≡ length es → all_independent bs ≡ false → is_independent (op bs) ≡ false) → (c : Call)
      → One e c (over_operands at input op (ops es) c)
  operator_does e op es steps some none reads c =
      let b = together at input (ops es) c.state in
      let r = gathered_of es steps c.state in
      record { new = op b.exprs; exprs = refl; follows = record { own = λ n q. absurd (none n q); reads = λ q. reads b.exprs r.count (r.reads some) } }

  binary_reads : (o : Operator) (bs : List Tree) → length bs ≡ 2 → all_independent bs ≡ false → is_independent (binary_of o bs) ≡ false
  binary_reads o [] n q = absurd (omega arith)
  binary_reads o (a ∷ []) n q = absurd (omega arith)
  binary_reads o (a ∷ b ∷ []) n q = ap (λ x. is_independent a && x) (sym (and_true (is_independent b))) ∙ q
  binary_reads o (a ∷ b ∷ c ∷ bs) n q = absurd (omega arith)

  cast_reads : (k : DataType) (strict : Bool) (bs : List Tree) → length bs ≡ 1 → all_independent bs ≡ false → is_independent (cast_of k strict bs) ≡ false
  cast_reads k strict [] n q = absurd (omega arith)
  cast_reads k strict (a ∷ []) n q = sym (and_true (is_independent a)) ∙ q
  cast_reads k strict (a ∷ b ∷ bs) n q = absurd (omega arith)

  ternary_reads : (bs : List Tree) → length bs ≡ 3 → all_independent bs ≡ false → is_independent (ternary_of bs) ≡ false
  ternary_reads [] n q = absurd (omega arith)
  ternary_reads (a ∷ []) n q = absurd (omega arith)
  ternary_reads (a ∷ b ∷ []) n q = absurd (omega arith)
  ternary_reads (a ∷ b ∷ c ∷ []) n q = ap (λ x. is_independent a && (is_independent b && x)) (sym (and_true (is_independent c))) ∙ q
  ternary_reads (a ∷ b ∷ c ∷ d ∷ bs) n q = absurd (omega arith)

  reduced_does : (a : Aggregation) (e : Tree) (c : Call) → One (Tree.aggregate a e) c (reduced_column at input a (as_operand at input e) c)
  reduced_does a e c = by (is_stream_alone input b.streams b.reduced)
    where
      b : Bundle
      b = together at input (as_operand at input e ∷ []) c.state

      new : Tree
      new = Tree.aggregate a (first_tree b.exprs)

      by : (q : Bool) → One (Tree.aggregate a e) c (cond {A = Call → Call} q (given_reduction new b.state) (reduced_apart at input new (finished at input b)) c)
      by true = record { new = Tree.column (new_name b.state); exprs = refl; follows = by_column (Tree.aggregate a e) (new_name b.state) (λ n q. cc) }
      by false = let s = (finished at input b).state in record { new = Tree.column (new_name s); exprs = refl; follows = by_column (Tree.aggregate a e) (new_name s) (λ n q. cc) }

  aggregate_does : (a : Aggregation) (e : Tree) (c : Call) → One (Tree.aggregate a e) c (aggregated at input a (as_operand at input e) (Tree.aggregate a e) c)
  aggregate_does Aggregation.n_unique e c = left_does (Tree.aggregate Aggregation.n_unique e) (λ n q. cc) c
  aggregate_does (Aggregation.count all) e c = left_does (Tree.aggregate (Aggregation.count all) e) (λ n q. cc) c
  aggregate_does Aggregation.min e c = reduced_does Aggregation.min e c
  aggregate_does Aggregation.max e c = reduced_does Aggregation.max e c
  aggregate_does Aggregation.first e c = reduced_does Aggregation.first e c
  aggregate_does Aggregation.last e c = reduced_does Aggregation.last e c
  aggregate_does Aggregation.sum e c = reduced_does Aggregation.sum e c

  fresh_does : (e : Tree) (c d : Call) → ((n : Name) → e ≡ Tree.column n → ⊥) → d.exprs ≡ c.exprs ++ Tree.column (new_name c.state) ∷ [] → One e c d
  fresh_does e c d none q = record { new = Tree.column (new_name c.state); exprs = q; follows = by_column e (new_name c.state) none }

  does : (e : Tree) → Does e
  does (Tree.column name) c = record { new = Tree.column name; exprs = refl; follows = by_itself (Tree.column name) refl }
  does (Tree.literal l) c = record { new = Tree.literal l; exprs = refl; follows = by_itself (Tree.literal l) refl }
  does (Tree.binary o l r) c =
      let x = does l in
      let y = does r in
      stays_does (Tree.binary o l r) (over_operands at input (binary_of o) (ops (l ∷ r ∷ []))) (λ q. operator_does (Tree.binary o l r) (binary_of o) (l ∷ r ∷ []) (x, (y, tt)) (omega arith) (λ n q. cc) (binary_reads o)) c
  does (Tree.cast k strict e) c =
      let x = does e in
      stays_does (Tree.cast k strict e) (over_operands at input (cast_of k strict) (ops (e ∷ []))) (λ q. operator_does (Tree.cast k strict e) (cast_of k strict) (e ∷ []) (x, tt) (omega arith) (λ n q. cc) (cast_reads k strict)) c
  does (Tree.ternary p a b) c =
      let x = does p in
      let y = does a in
      let z = does b in
      stays_does (Tree.ternary p a b) (over_operands at input ternary_of (ops (p ∷ a ∷ b ∷ []))) (λ q. operator_does (Tree.ternary p a b) ternary_of (p ∷ a ∷ b ∷ []) (x, (y, (z, tt))) (omega arith) (λ n q. cc) ternary_reads) c
  does (Tree.function g e) c = stays_does (Tree.function g e) (left_to_map (Tree.function g e)) (λ q. left_does (Tree.function g e) (λ n q. cc)) c
  does (Tree.sort d n e) c = fresh_does (Tree.sort d n e) c (sorted_column at input d n (as_operand at input e) c) (λ n q. cc) refl
  does (Tree.sort_by d n e by) c = fresh_does (Tree.sort_by d n e by) c (sorted_by at input d n (as_operand at input e) (operands at input by) c) (λ n q. cc) refl
  does (Tree.gather s e i) c = left_does (Tree.gather s e i) (λ n q. cc) c
  does (Tree.filter e by) c = fresh_does (Tree.filter e by) c (filtered_column at input (as_operand at input e) (as_operand at input by) c) (λ n q. cc) refl
  does (Tree.aggregate a e) c = aggregate_does a e c
  does (Tree.slice e o l) c = left_does (Tree.slice e o l) (λ n q. cc) c
  does Tree.len c = fresh_does Tree.len c (lower at input Tree.len c) (λ n q. cc) refl
  does (Tree.left_out w) c = left_does (Tree.left_out w) (λ n q. cc) c
  does Tree.missing c = left_does Tree.missing (λ n q. cc) c

  all_do : (es : List Tree) → AllDo es
  all_do [] = tt
  all_do (e ∷ es) = (does e, all_do es)

  pub each_answers : (es : List Tree) (c : Call) → Answers es c (each (ops es) c)
  each_answers es c = each_of es (all_do es) c

  -- what a call answers where not all expressions are independent of the input
  pub record Answered (es : List Tree) (s : State) : Type 0 where
    pub news : List Tree
    pub exprs : (lower_exprs at input es s).exprs ≡ news
    pub follow : AllFollow es news

  pub answers_follow : (es : List Tree) (s : State) → all_independent es ≡ false → Answered es s
  answers_follow es s q =
      let os = ops es in
      let r = each_answers es (new_call s) in
      record {
        news = r.news;
        exprs = ap (λ (b : Bool). (cond {A = State → Bundle} b (apart_from_input at input (exprs_of_all os)) (over_input at input os) s).exprs) (ap all_independent (operands_listed at input es) ∙ q) ∙ gathered_exprs at input (each os (new_call s)) ∙ r.exprs;
        follow = r.follow;
      }

-- columns first, or last
pub record ColumnsFirst (ns : List Name) (es xs : List Tree) : Type 0 where
  pub news : List Tree
  pub exprs : xs ≡ columns_named ns ++ news
  pub follow : AllFollow es news

pub columns_first : (ns : List Name) (es xs : List Tree) → AllFollow (columns_named ns ++ es) xs → ColumnsFirst ns es xs
columns_first [] es xs h = record { news = xs; exprs = refl; follow = h }
columns_first (n ∷ ns) es [] h = absurd h
columns_first (n ∷ ns) es (x ∷ xs) h =
    let r = columns_first ns es xs h.1 in
    let p = h.0.own n refl in
    let q = r.exprs in
    record { news = r.news; exprs = λ i. p i ∷ q i; follow = r.follow }

pub record ColumnsLast (es : List Tree) (ns : List Name) (xs : List Tree) : Type 0 where
  pub news : List Tree
  pub exprs : xs ≡ news ++ columns_named ns
  pub follow : AllFollow es news

own_columns_last : (ns : List Name) (xs : List Tree) → AllFollow (columns_named ns) xs → xs ≡ columns_named ns
own_columns_last [] [] h = refl
own_columns_last [] (x ∷ xs) h = absurd h
own_columns_last (n ∷ ns) [] h = absurd h
own_columns_last (n ∷ ns) (x ∷ xs) h =
    let p = h.0.own n refl in
    let q = own_columns_last ns xs h.1 in
    λ i. p i ∷ q i

pub columns_last : (es : List Tree) (ns : List Name) (xs : List Tree) → AllFollow (es ++ columns_named ns) xs → ColumnsLast es ns xs
columns_last [] ns xs h = record { news = []; exprs = own_columns_last ns xs h; follow = tt }
columns_last (e ∷ es) ns [] h = absurd h
columns_last (e ∷ es) ns (x ∷ xs) h =
    let r = columns_last es ns xs h.1 in
    record { news = x ∷ r.news; exprs = ap (λ (ys : List Tree). x ∷ ys) r.exprs; follow = (h.0, r.follow) }
