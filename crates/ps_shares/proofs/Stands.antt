-- What the answered expressions of a call stand for.
use Rattle.std.proofs.Common.{◌≡◌, ◌⊎◌, inl, inr, ℕ, ◌≤◌, ◌^◌, Bool, true, false, not, cond, List, [], ◌∷◌, ◌++◌, refl, sym, ap, subst, ◌∙◌, arith}
use Rattle.std.specs.Prelude.{IsTrue, Option, Some, None, is_some, map, ◌&&◌, ◌||◌, ◌==◌}
use Rattle.std.specs.Cmp.Lexicographic.{bytes_decides}
use Rattle.std.specs.List.{AllByRecursion, list_all}
use Rattle.std.specs.Str.{bytes_eq}
use Rattle.ps_frame.proofs.Lists.{and_both}
use Rattle.ps_frame.specs.Tables.{Fields, field_kind}
use Rattle.ps_frame.specs.Trees.{Aggregation, Tree, Trees}
use Rattle.ps_frame.specs.Typing.{aggregate_kind, binary_kind, branch_kind, cast_kind, fits_keys, function_kind, have_kinds, is_elementwise, is_kind, is_scalar, kind_if, kind_over, sum_kind, tree_count}
use Rattle.ps_frame.specs.declared.expr.FunctionExpr.{FunctionExpr}
use Rattle.ps_frame.specs.declared.expr.FunctionExpr.TheVariants as fun
use Rattle.ps_frame.specs.declared.expr.Operator.{Operator}
use Rattle.ps_frame.specs.declared.value.DataType.{DataType}
use Rattle.ps_frame.specs.declared.value.DataType.TheVariants as kind
use Rattle.ps_meaning.specs.Schemas.{is_among, names_of}
use Rattle.ps_meaning.specs.Steps.{Name, Named}
use Rattle.ps_rules.specs.Bundles.{finished, gathered, is_stream_alone}
use Rattle.ps_rules.specs.Calls.{Bundle, Call, Operand, all_independent, each, exprs_of_all, given_reduction, left_to_map, new_call}
use Rattle.ps_shares.specs.Leaves.{AllReadAll, AtLeaves, ReadsAll, put_back, stands_for}
use Rattle.ps_rules.specs.Lowered.{as_operand, lower, lower_exprs, operands}
use Rattle.ps_rules.specs.Names.{IsKnown, Names, after_fresh, fresh_name}
use Rattle.ps_shares.specs.CallLaws.{StandForAsked}
use Rattle.ps_shares.specs.Kept.{AreKnown}
use Rattle.ps_rules.specs.Rules.{aggregated, apart_from_input, first_tree, over_input, over_operands, reduced_apart, reduced_column, reduced_over, stays, stays_or, together}
use Rattle.ps_rules.specs.Slots.{State, Stream, after_name, after_names, columns_named, new_name, new_names}
use Rattle.ps_shares.proofs.FlatLength.{both_hold}
use Rattle.ps_rules.proofs.Free.{fresh_known, fresh_unknown}
use Rattle.ps_shares.proofs.Fresh.{Grown, grown_fresh, grown_names}
use Rattle.ps_shares.proofs.Growing.{AllGrow, binary_of, cast_of, filtered_after, finished_names, gathered_exprs, gathered_names, grow_all, grows, grows_each, grows_finished, grows_together, grows_under, sorted_after, ternary_of}
use Rattle.ps_shares.proofs.Leaves.{append_assoc, put_none}
use Rattle.ps_shares.proofs.Named.{at_all}
use Rattle.ps_shares.proofs.Projected.{kind_as, named_as}

-- what is named for nothing stands for itself
abbrev Outside : List Named → Name → Type 0
Outside ms n = AllByRecursion (λ (m : Named). bytes_eq m.0 n ≡ false) ms

outside_none : (ms : List Named) (n : Name) → Outside ms n → stands_for ms n ≡ Tree.column n
outside_none [] n h = refl
outside_none (m ∷ ms) n h = ap (λ b. cond b m.1 (stands_for ms n)) h.0 ∙ outside_none ms n h.1

stands_first : (ms ns : List Named) (n : Name) → Outside ns n → stands_for (ms ++ ns) n ≡ stands_for ms n
stands_first [] ns n h = outside_none ns n h
stands_first (m ∷ ms) ns n h = ap (λ e. cond (bytes_eq m.0 n) m.1 e) (stands_first ms ns n h)

stands_second : (ms ns : List Named) (n : Name) → Outside ms n → stands_for (ms ++ ns) n ≡ stands_for ns n
stands_second [] ns n h = refl
stands_second (m ∷ ms) ns n h = ap (λ b. cond b m.1 (stands_for (ms ++ ns) n)) h.0 ∙ stands_second ms ns n h.1

module _ (ms ns : List Named) where
  pub put_same : (e : Tree) → AtLeaves (λ n. stands_for ms n ≡ stands_for ns n) e → put_back ms e ≡ put_back ns e
  put_same (Tree.column name) h = h
  put_same (Tree.literal l) h = refl
  put_same (Tree.binary o l r) h = let p = put_same l h.0 in let q = put_same r h.1 in λ i. Tree.binary o (p i) (q i)
  put_same (Tree.cast k strict e) h = ap (Tree.cast k strict) (put_same e h)
  put_same (Tree.ternary p a b) h = let x = put_same p h.0 in let y = put_same a h.1 in let z = put_same b h.2 in λ i. Tree.ternary (x i) (y i) (z i)
  put_same (Tree.function g e) h = ap (Tree.function g) (put_same e h)
  put_same (Tree.sort d n e) h = refl
  put_same (Tree.sort_by d n e by) h = refl
  put_same (Tree.gather s e i) h = refl
  put_same (Tree.filter e by) h = refl
  put_same (Tree.aggregate a e) h = refl
  put_same (Tree.slice e o l) h = refl
  put_same Tree.len h = refl
  put_same (Tree.left_out w) h = refl
  put_same Tree.missing h = refl

  pub put_all_same : (es : List Tree) → AllByRecursion (AtLeaves (λ n. stands_for ms n ≡ stands_for ns n)) es → map (put_back ms) es ≡ map (put_back ns) es
  put_all_same [] h = refl
  put_all_same (e ∷ es) h = let p = put_same e h.0 in let q = put_all_same es h.1 in λ i. p i ∷ q i

all_weaker : {A : Type 0} (P Q : A → Type 0) → ((a : A) → P a → Q a) → (xs : List A) → AllByRecursion P xs → AllByRecursion Q xs
all_weaker P Q f [] h = tt
all_weaker P Q f (x ∷ xs) h = (f x h.0, all_weaker P Q f xs h.1)

all_append : {A : Type 0} (P : A → Type 0) (xs ys : List A) → AllByRecursion P xs → AllByRecursion P ys → AllByRecursion P (xs ++ ys)
all_append P [] ys p q = q
all_append P (x ∷ xs) ys p q = (p.0, all_append P xs ys p.1 q)

pub map_two : (f : Tree → Tree) (xs ys : List Tree) → map f (xs ++ ys) ≡ map f xs ++ map f ys
map_two f [] ys = refl
map_two f (x ∷ xs) ys = ap (λ zs. f x ∷ zs) (map_two f xs ys)

-- names that came to be known between two states
abbrev pub Fresh : Names → Names → Name → Type 0
Fresh a b n = (¬ IsKnown a n) × IsKnown b n

outside : (ms : List Named) (n : Name) (a b : Names) → AllByRecursion (λ (m : Named). Fresh a b m.0) ms → IsKnown a n ⊎ (¬ IsKnown b n) → Outside ms n
outside ms n a b all h = all_weaker (λ (m : Named). Fresh a b m.0) (λ (m : Named). bytes_eq m.0 n ≡ false) (λ m f. by m f (bytes_eq m.0 n) refl h) ms all
  where
    by : (m : Named) → Fresh a b m.0 → (t : Bool) → bytes_eq m.0 n ≡ t → IsKnown a n ⊎ (¬ IsKnown b n) → bytes_eq m.0 n ≡ false
    by m f false q h = q
    by m f true q (inl h) = absurd (f.0 (subst (λ n. IsKnown a n) (sym ((bytes_decides m.0 n).0 q)) h))
    by m f true q (inr h) = absurd (h (subst (λ n. IsKnown b n) ((bytes_decides m.0 n).0 q) f.1))

-- What stands for expressions, where the names went from the first to the second: it reads names that were known before all, and names that are new.
record Done (B : Name → Type 0) (a b : Names) (es news : List Tree) : Type 0 where
  ms : List Named
  back : map (put_back ms) news ≡ es
  fresh : AllByRecursion (λ (m : Named). Fresh a b m.0) ms
  elementwise : AllByRecursion (λ e. IsTrue (is_elementwise e)) news
  read : AllByRecursion (AtLeaves (λ n. B n ⊎ Fresh a b n)) news

module _ (B : Name → Type 0) where
  abbrev pub Read : Names → Names → Name → Type 0
  Read a b n = B n ⊎ Fresh a b n

  abbrev HasAll : Names → Type 0
  HasAll a = (n : Name) → B n → IsKnown a n

  has_more : (a b : Names) → Grown a b → HasAll a → HasAll b
  has_more a b g h n k = g.0 n (h n k)

  fresh_later : (a b c : Names) → Grown b c → (n : Name) → Fresh a b n → Fresh a c n
  fresh_later a b c g n f = (f.0, g.0 n f.1)

  fresh_before : (a b c : Names) → Grown a b → (n : Name) → Fresh b c n → Fresh a c n
  fresh_before a b c g n f = ((λ k. f.0 (g.0 n k)), f.1)

  read_by : (a b c d : Names) → ((n : Name) → Fresh a b n → Fresh c d n) → (n : Name) → Read a b n → Read c d n
  read_by a b c d f n (inl h) = inl h
  read_by a b c d f n (inr h) = inr (f n h)

  wider : (a b c d : Names) (es news : List Tree) → ((n : Name) → Fresh a b n → Fresh c d n) → Done B a b es news → Done B c d es news
  wider a b c d es news f h =
      record {
        ms = h.ms;
        back = h.back;
        fresh = all_weaker (λ (m : Named). Fresh a b m.0) (λ (m : Named). Fresh c d m.0) (λ m k. f m.0 k) h.ms h.fresh;
        elementwise = h.elementwise;
        read = at_all (Read a b) (Read c d) (read_by a b c d f) news h.read;
      }

  module _ (a b c : Names) (has : HasAll a) (ab : Grown a b) (bc : Grown b c) where
    first_stays : (ms ns : List Named) → AllByRecursion (λ (m : Named). Fresh b c m.0) ns → (n : Name) → Read a b n → stands_for (ms ++ ns) n ≡ stands_for ms n
    first_stays ms ns fresh n (inl h) = stands_first ms ns n (outside ns n b c fresh (inl (ab.0 n (has n h))))
    first_stays ms ns fresh n (inr h) = stands_first ms ns n (outside ns n b c fresh (inl h.1))

    second_stays : (ms ns : List Named) → AllByRecursion (λ (m : Named). Fresh a b m.0) ms → (n : Name) → Read b c n → stands_for (ms ++ ns) n ≡ stands_for ns n
    second_stays ms ns fresh n (inl h) = stands_second ms ns n (outside ms n a b fresh (inl (has n h)))
    second_stays ms ns fresh n (inr h) = stands_second ms ns n (outside ms n a b fresh (inr h.0))

    done_then : (es fs news more : List Tree) → Done B a b es news → Done B b c fs more → Done B a c (es ++ fs) (news ++ more)
    unfolding wider
    done_then es fs news more p q =
        let x = put_all_same (p.ms ++ q.ms) p.ms news (at_all (Read a b) (λ n. stands_for (p.ms ++ q.ms) n ≡ stands_for p.ms n) (first_stays p.ms q.ms q.fresh) news p.read) in
        let y = put_all_same (p.ms ++ q.ms) q.ms more (at_all (Read b c) (λ n. stands_for (p.ms ++ q.ms) n ≡ stands_for q.ms n) (second_stays p.ms q.ms p.fresh) more q.read) in
        let u = wider a b a c es news (fresh_later a b c bc) p in
        let v = wider b c a c fs more (fresh_before a b c ab) q in
        record {
          ms = p.ms ++ q.ms;
          back = map_two (put_back (p.ms ++ q.ms)) news more ∙ (λ i. (x ∙ p.back) i ++ (y ∙ q.back) i);
          fresh = all_append (λ (m : Named). Fresh a c m.0) p.ms q.ms u.fresh v.fresh;
          elementwise = all_append (λ e. IsTrue (is_elementwise e)) news more p.elementwise q.elementwise;
          read = all_append (AtLeaves (Read a c)) news more u.read v.read;
        }

  -- a fresh column
  column_done : (a : Names) (e : Tree) → (after_fresh a).next ≤ 2 ^ 64 → Done B a (after_fresh a) (e ∷ []) (Tree.column (fresh_name a) ∷ [])
  column_done a e small =
      record {
        ms = (fresh_name a, e) ∷ [];
        back = ap (λ b. cond b e (Tree.column (fresh_name a)) ∷ []) ((bytes_decides (fresh_name a) (fresh_name a)).1 refl);
        fresh = ((fresh_unknown a small, fresh_known a small), tt);
        elementwise = (refl, tt);
        read = (inr (fresh_unknown a small, fresh_known a small), tt);
      }

  column_after : (a b : Names) (e : Tree) → Grown (after_fresh a) b → b.next ≤ 2 ^ 64 → Done B a b (e ∷ []) (Tree.column (fresh_name a) ∷ [])
  column_after a b e g small = let le = g.1 in wider a (after_fresh a) a b (e ∷ []) (Tree.column (fresh_name a) ∷ []) (fresh_later a (after_fresh a) b g) (column_done a e (omega arith))

  column_later : (a b : Names) (e : Tree) → Grown a b → (after_fresh b).next ≤ 2 ^ 64 → Done B a (after_fresh b) (e ∷ []) (Tree.column (fresh_name b) ∷ [])
  column_later a b e g small = wider b (after_fresh b) a (after_fresh b) (e ∷ []) (Tree.column (fresh_name b) ∷ []) (fresh_before a b (after_fresh b) g) (column_done b e small)

  none_done : (a : Names) → Done B a a [] []
  none_done a = record { ms = []; back = refl; fresh = tt; elementwise = tt; read = tt }

  -- what stays
  pub reads_at : (a : Names) (e : Tree) → ReadsAll B e → AtLeaves (Read a a) e
  reads_at a (Tree.column name) h = inl h
  reads_at a (Tree.literal l) h = tt
  reads_at a (Tree.binary o l r) h = (reads_at a l h.0, reads_at a r h.1)
  reads_at a (Tree.cast k strict e) h = reads_at a e h
  reads_at a (Tree.ternary p x y) h = (reads_at a p h.0, reads_at a x h.1, reads_at a y h.2)
  reads_at a (Tree.function g e) h = reads_at a e h
  reads_at a (Tree.sort d n e) h = tt
  reads_at a (Tree.sort_by d n e by) h = tt
  reads_at a (Tree.gather s e i) h = tt
  reads_at a (Tree.filter e by) h = tt
  reads_at a (Tree.aggregate g e) h = tt
  reads_at a (Tree.slice e o l) h = tt
  reads_at a Tree.len h = tt
  reads_at a (Tree.left_out w) h = tt
  reads_at a Tree.missing h = tt

  stays_done : (a : Names) (e : Tree) → is_elementwise e ≡ true → ReadsAll B e → Done B a a (e ∷ []) (e ∷ [])
  stays_done a e h reads = record { ms = []; back = ap (λ e. e ∷ []) (put_none e h); fresh = tt; elementwise = (h, tt); read = (reads_at a e reads, tt) }

  -- operators
  cast_done : (a b : Names) (k : DataType) (strict : Bool) (e : Tree) (bs : List Tree) → Done B a b (e ∷ []) bs → Done B a b (Tree.cast k strict e ∷ []) (cast_of k strict bs ∷ [])
  cast_done a b k strict e [] d = let w : [] ≡ e ∷ [] = d.back in cc
  cast_done a b k strict e (x ∷ []) d = record { ms = d.ms; back = ap (λ es. cast_of k strict es ∷ []) d.back; fresh = d.fresh; elementwise = d.elementwise; read = d.read }
  cast_done a b k strict e (x ∷ y ∷ more) d = let w : put_back d.ms x ∷ put_back d.ms y ∷ map (put_back d.ms) more ≡ e ∷ [] = d.back in cc

  binary_done : (a b : Names) (o : Operator) (l r : Tree) (bs : List Tree) → Done B a b (l ∷ r ∷ []) bs → Done B a b (Tree.binary o l r ∷ []) (binary_of o bs ∷ [])
  binary_done a b o l r [] d = let w : [] ≡ l ∷ r ∷ [] = d.back in cc
  binary_done a b o l r (x ∷ []) d = let w : put_back d.ms x ∷ [] ≡ l ∷ r ∷ [] = d.back in cc
  binary_done a b o l r (x ∷ y ∷ []) d =
      record {
        ms = d.ms;
        back = ap (λ es. binary_of o es ∷ []) d.back;
        fresh = d.fresh;
        elementwise = (and_both (is_elementwise x) (is_elementwise y) d.elementwise.0 d.elementwise.1.0, tt);
        read = ((d.read.0, d.read.1.0), tt);
      }
  binary_done a b o l r (x ∷ y ∷ z ∷ more) d = let w : put_back d.ms x ∷ put_back d.ms y ∷ put_back d.ms z ∷ map (put_back d.ms) more ≡ l ∷ r ∷ [] = d.back in cc

  ternary_done : (a b : Names) (p l r : Tree) (bs : List Tree) → Done B a b (p ∷ l ∷ r ∷ []) bs → Done B a b (Tree.ternary p l r ∷ []) (ternary_of bs ∷ [])
  ternary_done a b p l r [] d = let w : [] ≡ p ∷ l ∷ r ∷ [] = d.back in cc
  ternary_done a b p l r (x ∷ []) d = let w : put_back d.ms x ∷ [] ≡ p ∷ l ∷ r ∷ [] = d.back in cc
  ternary_done a b p l r (x ∷ y ∷ []) d = let w : put_back d.ms x ∷ put_back d.ms y ∷ [] ≡ p ∷ l ∷ r ∷ [] = d.back in cc
  ternary_done a b p l r (x ∷ y ∷ z ∷ []) d =
      record {
        ms = d.ms;
        back = ap (λ es. ternary_of es ∷ []) d.back;
        fresh = d.fresh;
        elementwise = (and_both (is_elementwise x) (is_elementwise y && is_elementwise z) d.elementwise.0 (and_both (is_elementwise y) (is_elementwise z) d.elementwise.1.0 d.elementwise.1.1.0), tt);
        read = ((d.read.0, d.read.1.0, d.read.1.1.0), tt);
      }
  ternary_done a b p l r (x ∷ y ∷ z ∷ u ∷ more) d = let w : put_back d.ms x ∷ put_back d.ms y ∷ put_back d.ms z ∷ put_back d.ms u ∷ map (put_back d.ms) more ≡ p ∷ l ∷ r ∷ [] = d.back in cc

  module _ (at : ℕ) (input : Stream) where
    -- a rule answers one tree more, which stands for the expression
    abbrev StepsTo : Tree → (Call → Call) → Type 0
    StepsTo e rule = (c : Call) → HasAll c.state.names → (rule c).state.names.next ≤ 2 ^ 64 → (new : Tree) × ((rule c).exprs ≡ c.exprs ++ new ∷ []) × Done B c.state.names (rule c).state.names (e ∷ []) (new ∷ [])

    abbrev AllStep : List Operand → Type 0
    AllStep os = AllByRecursion (λ (o : Operand). StepsTo o.expr o.rule) os

    each_done : (os : List Operand) → AllGrow at input os → AllStep os → (c : Call) → HasAll c.state.names → (each os c).state.names.next ≤ 2 ^ 64
        → (news : List Tree) × ((each os c).exprs ≡ c.exprs ++ news) × Done B c.state.names (each os c).state.names (exprs_of_all os) news
    each_done [] gs ss c has small = ([], sym (append_none c.exprs), none_done c.state.names)
      where
        append_none : (xs : List Tree) → xs ++ [] ≡ xs
        append_none [] = refl
        append_none (x ∷ xs) = ap (λ ws. x ∷ ws) (append_none xs)
    each_done (o ∷ os) gs ss c has small =
        let g = gs.0 c in
        let h = grows_each at input os gs.1 (o.rule c) in
        let le = h.1 in
        let p = ss.0 c has (omega arith) in
        let q = each_done os gs.1 ss.1 (o.rule c) (has_more c.state.names (o.rule c).state.names g has) small in (
          p.0 ∷ q.0,
          q.1 ∙ ap (λ xs. xs ++ q.0) p.1 ∙ sym (append_assoc c.exprs (p.0 ∷ []) q.0),
          done_then c.state.names (o.rule c).state.names (each os (o.rule c)).state.names has g h (o.expr ∷ []) (exprs_of_all os) (p.0 ∷ []) q.0 p.2 q.2,
        )

    apart_done : (es : List Tree) (s : State) → HasAll s.names → (after_names es s).names.next ≤ 2 ^ 64 → Done B s.names (after_names es s).names es (columns_named (new_names es s))
    apart_done [] s has small = none_done s.names
    apart_done (e ∷ es) s has small =
        let h = grown_names es (after_name s) in
        let le = h.1 in
        done_then s.names (after_name s).names (after_names es (after_name s)).names has (grown_fresh s.names) h (e ∷ []) es (Tree.column (new_name s) ∷ []) (columns_named (new_names es (after_name s)))
        (column_done s.names e (omega arith))
        (apart_done es (after_name s) (has_more s.names (after_name s).names (grown_fresh s.names) has) small)

    together_done : (os : List Operand) → AllGrow at input os → AllStep os → (s : State) → HasAll s.names → (together at input os s).state.names.next ≤ 2 ^ 64
        → Done B s.names (together at input os s).state.names (exprs_of_all os) (together at input os s).exprs
    together_done os gs ss s has small = by (all_independent (exprs_of_all os)) small
      where
        by : (b : Bool) → (cond {A = State → Bundle} b (apart_from_input at input (exprs_of_all os)) (over_input at input os) s).state.names.next ≤ 2 ^ 64
            → Done B s.names (cond {A = State → Bundle} b (apart_from_input at input (exprs_of_all os)) (over_input at input os) s).state.names (exprs_of_all os)
            (cond {A = State → Bundle} b (apart_from_input at input (exprs_of_all os)) (over_input at input os) s).exprs
        by true small = apart_done (exprs_of_all os) s has small
        by false small =
            let c = each os (new_call s) in
            let n = gathered_names at input c in
            let d = each_done os gs ss (new_call s) has (subst (λ (a : Names). a.next ≤ 2 ^ 64) n small) in
            subst (λ bs. Done B s.names (gathered at input c).state.names (exprs_of_all os) bs) (sym (gathered_exprs at input c ∙ d.1)) (subst (λ a. Done B s.names a (exprs_of_all os) d.0) (sym n) d.2)

    steps_over : (e : Tree) (op : List Tree → Tree) (os : List Operand) → AllGrow at input os → AllStep os
        → ((a b : Names) (bs : List Tree) → Done B a b (exprs_of_all os) bs → Done B a b (e ∷ []) (op bs ∷ [])) → StepsTo e (over_operands at input op os)
    steps_over e op os gs ss put c has small =
        let b = together at input os c.state in
        (op b.exprs, refl, put c.state.names b.state.names b.exprs (together_done os gs ss c.state has small))

    steps_or : (e : Tree) (rule : Call → Call) → ReadsAll B e → StepsTo e rule → StepsTo e (stays_or at input e rule)
    steps_or e rule reads rest = by (is_elementwise e) refl
      where
        by : (b : Bool) → is_elementwise e ≡ b → StepsTo e (cond {A = Call → Call} b (stays at input e) rule)
        by true h c has small = (e, refl, stays_done c.state.names e h reads)
        by false h c has small = rest c has small

    steps_left : (e : Tree) → StepsTo e (left_to_map e)
    steps_left e c has small = (Tree.column (new_name c.state), refl, column_done c.state.names e small)

    steps_reduced : (e : Tree) (op : List Tree → Tree) (b : Bundle) (c : Call) → Grown c.state.names b.state.names → (reduced_over at input op b c).state.names.next ≤ 2 ^ 64
        → (new : Tree) × ((reduced_over at input op b c).exprs ≡ c.exprs ++ new ∷ []) × Done B c.state.names (reduced_over at input op b c).state.names (e ∷ []) (new ∷ [])
    steps_reduced e op b c g small = by (is_stream_alone input b.streams b.reduced) small
      where
        by : (t : Bool) → (cond {A = Call → Call} t (given_reduction (op b.exprs) b.state) (reduced_apart at input (op b.exprs) (finished at input b)) c).state.names.next ≤ 2 ^ 64
            → (new : Tree) × ((cond {A = Call → Call} t (given_reduction (op b.exprs) b.state) (reduced_apart at input (op b.exprs) (finished at input b)) c).exprs ≡ c.exprs ++ new ∷ [])
            × Done B c.state.names (cond {A = Call → Call} t (given_reduction (op b.exprs) b.state) (reduced_apart at input (op b.exprs) (finished at input b)) c).state.names (e ∷ []) (new ∷ [])
        by true small = (Tree.column (new_name b.state), refl, column_later c.state.names b.state.names e g small)
        by false small = let a = finished at input b in (Tree.column (new_name a.state), refl, column_later c.state.names a.state.names e (grows_finished at input c.state.names b g) small)

    steps_column : (a : Aggregation) (e : Tree) → StepsTo (Tree.aggregate a e) (reduced_column at input a (as_operand at input e))
    steps_column a e c has small =
        steps_reduced (Tree.aggregate a e) (λ es. Tree.aggregate a (first_tree es)) (together at input (as_operand at input e ∷ []) c.state) c (grows_together at input (as_operand at input e ∷ []) (grows at input e, tt) c.state) small

    steps_aggregate : (a : Aggregation) (e : Tree) → StepsTo (Tree.aggregate a e) (aggregated at input a (as_operand at input e) (Tree.aggregate a e))
    steps_aggregate Aggregation.n_unique e = steps_left (Tree.aggregate Aggregation.n_unique e)
    steps_aggregate (Aggregation.count all) e = steps_left (Tree.aggregate (Aggregation.count all) e)
    steps_aggregate Aggregation.min e = steps_column Aggregation.min e
    steps_aggregate Aggregation.max e = steps_column Aggregation.max e
    steps_aggregate Aggregation.first e = steps_column Aggregation.first e
    steps_aggregate Aggregation.last e = steps_column Aggregation.last e
    steps_aggregate Aggregation.sum e = steps_column Aggregation.sum e

    steps : (e : Tree) → ReadsAll B e → StepsTo e (lower at input e)
    steps (Tree.column name) h c has small = (Tree.column name, refl, stays_done c.state.names (Tree.column name) refl h)
    steps (Tree.literal l) h c has small = (Tree.literal l, refl, stays_done c.state.names (Tree.literal l) refl h)
    steps (Tree.binary o l r) h c has small =
        let os = as_operand at input l ∷ as_operand at input r ∷ [] in
        steps_or (Tree.binary o l r) (over_operands at input (binary_of o) os) h
        (steps_over (Tree.binary o l r) (binary_of o) os (grows at input l, (grows at input r, tt)) (steps l h.0, (steps r h.1, tt)) (λ a b bs d. binary_done a b o l r bs d)) c has small
    steps (Tree.cast k strict e) h c has small =
        let os = as_operand at input e ∷ [] in
        steps_or (Tree.cast k strict e) (over_operands at input (cast_of k strict) os) h
        (steps_over (Tree.cast k strict e) (cast_of k strict) os (grows at input e, tt) (steps e h, tt) (λ a b bs d. cast_done a b k strict e bs d)) c has small
    steps (Tree.ternary p x y) h c has small =
        let os = as_operand at input p ∷ as_operand at input x ∷ as_operand at input y ∷ [] in
        steps_or (Tree.ternary p x y) (over_operands at input ternary_of os) h
        (steps_over (Tree.ternary p x y) ternary_of os (grows at input p, (grows at input x, (grows at input y, tt))) (steps p h.0, (steps x h.1, (steps y h.2, tt))) (λ a b bs d. ternary_done a b p x y bs d)) c has small
    steps (Tree.function g e) h c has small = steps_or (Tree.function g e) (left_to_map (Tree.function g e)) h (steps_left (Tree.function g e)) c has small
    steps (Tree.sort d n e) h c has small =
        (Tree.column (new_name c.state), refl, column_after c.state.names (lower at input (Tree.sort d n e) c).state.names (Tree.sort d n e) (grows_under at input (as_operand at input e ∷ []) (grows at input e, tt) c.state) small)
    steps (Tree.sort_by d n e by) h c has small = (
      Tree.column (new_name c.state),
      refl,
      column_after c.state.names (lower at input (Tree.sort_by d n e by) c).state.names (Tree.sort_by d n e by) (sorted_after at input d n (as_operand at input e) (operands at input by) (grows at input e, grow_all at input by) c) small,
    )
    steps (Tree.filter e by) h c has small = (
      Tree.column (new_name c.state),
      refl,
      column_after c.state.names (lower at input (Tree.filter e by) c).state.names (Tree.filter e by) (filtered_after at input (as_operand at input e) (as_operand at input by) (grows at input e) (grows at input by) c) small,
    )
    steps (Tree.aggregate a e) h c has small = steps_aggregate a e c has small
    steps (Tree.gather s e i) h c has small = steps_left (Tree.gather s e i) c has small
    steps (Tree.slice e o l) h c has small = steps_left (Tree.slice e o l) c has small
    steps Tree.len h c has small = (Tree.column (new_name c.state), refl, column_done c.state.names Tree.len small)
    steps (Tree.left_out w) h c has small = steps_left (Tree.left_out w) c has small
    steps Tree.missing h c has small = steps_left Tree.missing c has small

    all_steps : (es : List Tree) → AllByRecursion (ReadsAll B) es → AllStep (map (as_operand at input) es)
    all_steps [] h = tt
    all_steps (e ∷ es) h = (steps e h.0, all_steps es h.1)

    all_grow : (es : List Tree) → AllGrow at input (map (as_operand at input) es)
    all_grow [] = tt
    all_grow (e ∷ es) = (grows at input e, all_grow es)

    asked_back : (es : List Tree) → exprs_of_all (map (as_operand at input) es) ≡ es
    asked_back [] = refl
    asked_back (e ∷ es) = ap (λ es. e ∷ es) (asked_back es)

    all_done : (s : State) (es : List Tree) → AllByRecursion (ReadsAll B) es → HasAll s.names → (lower_exprs at input es s).state.names.next ≤ 2 ^ 64
        → Done B s.names (lower_exprs at input es s).state.names es (lower_exprs at input es s).exprs
    all_done s es reads has small =
        let os = map (as_operand at input) es in
        let n = finished_names at input (together at input os s) in
        let d = together_done os (all_grow es) (all_steps es reads) s has (subst (λ (a : Names). a.next ≤ 2 ^ 64) n small) in
        subst (λ fs. Done B s.names (lower_exprs at input es s).state.names fs (lower_exprs at input es s).exprs) (asked_back es)
        (subst (λ a. Done B s.names a (exprs_of_all os) (lower_exprs at input es s).exprs) (sym n) d)

-- what has a kind reads columns that have one
pub some_if : (b : Bool) (k : Option DataType) → is_some (kind_if b k) ≡ true → (b ≡ true) × (is_some k ≡ true)
some_if true k h = (refl, h)
some_if false k h = cc

pub some_kind : (k : DataType) (o : Option DataType) → is_kind k o ≡ true → is_some o ≡ true
some_kind k None h = cc
some_kind k (Some j) h = refl

pub some_binary : (o : Operator) (a b : Option DataType) → is_some (binary_kind o a b) ≡ true → (is_some a ≡ true) × (is_some b ≡ true)
some_binary o (Some a) (Some b) h = (refl, refl)
some_binary o (Some a) None h = cc
some_binary o None b h = cc

pub some_cast : (k : DataType) (o : Option DataType) → is_some (cast_kind k o) ≡ true → is_some o ≡ true
some_cast k None h = cc
some_cast k (Some j) h = refl

pub some_branch : (a b : Option DataType) → is_some (branch_kind a b) ≡ true → (is_some a ≡ true) × (is_some b ≡ true)
some_branch (Some a) (Some b) h = (refl, refl)
some_branch (Some a) None h = cc
some_branch None b h = cc

pub some_sum : (o : Option DataType) → is_some (sum_kind o) ≡ true → is_some o ≡ true
some_sum None h = cc
some_sum (Some k) h = refl

pub some_aggregate : (a : Aggregation) (o : Option DataType) → is_some (aggregate_kind a o) ≡ true → is_some o ≡ true
some_aggregate Aggregation.sum o h = some_sum o h
some_aggregate Aggregation.n_unique o h = (some_if (is_some o) (Some kind.IdxSize) h).0
some_aggregate (Aggregation.count all) o h = (some_if (is_some o) (Some kind.IdxSize) h).0
some_aggregate Aggregation.min o h = h
some_aggregate Aggregation.max o h = h
some_aggregate Aggregation.first o h = h
some_aggregate Aggregation.last o h = h

pub some_function : (g : FunctionExpr) (o : Option DataType) → is_some (function_kind g o) ≡ true → is_some o ≡ true
some_function fun.Not o h = some_kind kind.Boolean o (some_if (is_kind kind.Boolean o) (Some kind.Boolean) h).0
some_function fun.IsNull o h = (some_if (is_some o) (Some kind.Boolean) h).0
some_function fun.IsNotNull o h = (some_if (is_some o) (Some kind.Boolean) h).0
some_function fun.Reverse o h = h

pub some_index : (o : Option DataType) (b : Bool) → ((is_kind kind.Int64 o || is_kind kind.IdxSize o) && b) ≡ true → is_some o ≡ true
some_index None b h = cc
some_index (Some k) b h = refl

module _ (s : Fields) where
  abbrev pub HasKind : Name → Type 0
  HasKind n = is_some (field_kind n s) ≡ true

  mutual
    pub typed_reads : (e : Tree) → is_some (kind_over s e) ≡ true → ReadsAll HasKind e
    typed_reads (Tree.column name) h = h
    typed_reads (Tree.literal l) h = tt
    typed_reads (Tree.binary o l r) h = let p = some_binary o (kind_over s l) (kind_over s r) h in (typed_reads l p.0, typed_reads r p.1)
    typed_reads (Tree.cast k strict e) h = typed_reads e (some_cast k (kind_over s e) h)
    typed_reads (Tree.sort d n e) h = typed_reads e h
    typed_reads (Tree.sort_by d n e by) h =
        let p = some_if (have_kinds s by && not (tree_count by == 0) && fits_keys d (tree_count by) && fits_keys n (tree_count by)) (kind_over s e) h in
        let q = both_hold (have_kinds s by && not (tree_count by == 0) && fits_keys d (tree_count by)) (fits_keys n (tree_count by)) p.0 in
        let r = both_hold (have_kinds s by && not (tree_count by == 0)) (fits_keys d (tree_count by)) q.0 in
        let u = both_hold (have_kinds s by) (not (tree_count by == 0)) r.0 in
        (typed_reads e p.1, all_typed_read by u.0)
    typed_reads (Tree.gather g e i) h =
        let p = some_if ((is_kind kind.Int64 (kind_over s i) || is_kind kind.IdxSize (kind_over s i)) && (not g || is_scalar i)) (kind_over s e) h in
        (typed_reads e p.1, typed_reads i (some_index (kind_over s i) (not g || is_scalar i) p.0))
    typed_reads (Tree.filter e by) h = let p = some_if (is_kind kind.Boolean (kind_over s by)) (kind_over s e) h in (typed_reads e p.1, typed_reads by (some_kind kind.Boolean (kind_over s by) p.0))
    typed_reads (Tree.aggregate a e) h = typed_reads e (some_aggregate a (kind_over s e) h)
    typed_reads (Tree.ternary c x y) h =
        let p = some_if (is_kind kind.Boolean (kind_over s c)) (branch_kind (kind_over s x) (kind_over s y)) h in
        let q = some_branch (kind_over s x) (kind_over s y) p.1 in
        (typed_reads c (some_kind kind.Boolean (kind_over s c) p.0), typed_reads x q.0, typed_reads y q.1)
    typed_reads (Tree.function g e) h = typed_reads e (some_function g (kind_over s e) h)
    typed_reads (Tree.slice e o l) h =
        let p = some_if (is_scalar o && is_scalar l && is_kind kind.Int64 (kind_over s o) && is_kind kind.Int64 (kind_over s l)) (kind_over s e) h in
        let q = both_hold (is_scalar o && is_scalar l && is_kind kind.Int64 (kind_over s o)) (is_kind kind.Int64 (kind_over s l)) p.0 in
        let r = both_hold (is_scalar o && is_scalar l) (is_kind kind.Int64 (kind_over s o)) q.0 in
        (typed_reads e p.1, typed_reads o (some_kind kind.Int64 (kind_over s o) r.1), typed_reads l (some_kind kind.Int64 (kind_over s l) q.1))
    typed_reads Tree.len h = tt
    typed_reads (Tree.left_out w) h = tt
    typed_reads Tree.missing h = tt

    pub all_typed_read : (es : Trees) → have_kinds s es ≡ true → AllReadAll HasKind es
    all_typed_read Trees.no_trees h = tt
    all_typed_read (Trees.tree e es) h = let p = both_hold (is_some (kind_over s e)) (have_kinds s es) h in (typed_reads e p.0, all_typed_read es p.1)

  pub list_typed : (es : List Tree) → list_all (λ e. is_some (kind_over s e)) es ≡ true → AllByRecursion (ReadsAll HasKind) es
  list_typed [] h = tt
  list_typed (e ∷ es) h = let p = both_hold (is_some (kind_over s e)) (list_all (λ e. is_some (kind_over s e)) es) h in (typed_reads e p.0, list_typed es p.1)

pub among_known : (n : Name) (ns : List Name) (names : Names) → AreKnown names ns → is_among n ns ≡ true → IsKnown names n
among_known n [] names all h = cc
among_known n (m ∷ ns) names all h = by (bytes_eq n m) refl h (among_known n ns names all.1)
  where
    by : (b : Bool) → bytes_eq n m ≡ b → (bytes_eq n m || is_among n ns) ≡ true → (is_among n ns ≡ true → IsKnown names n) → IsKnown names n
    by true q h rest = subst (λ n. IsKnown names n) (sym ((bytes_decides n m).0 q)) all.0
    by false q h rest = rest (sym (ap (λ b. b || is_among n ns) q) ∙ h)

pub stand_for_asked : StandForAsked
stand_for_asked at input s es ready small =
    let schema = ready.node.schema in
    let d = all_done (HasKind schema) at input s es (list_typed schema es ready.typed)
    (λ n h. among_known n (names_of schema) s.names ready.known (named_as n schema ∙ sym (kind_as n schema) ∙ h)) small in
    (d.elementwise, (d.ms, d.back, d.fresh))
