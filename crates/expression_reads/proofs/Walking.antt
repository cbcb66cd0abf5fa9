-- Each step of the walk over an expression keeps what the walk is to find.
use Rattle.std.proofs.Common.{◌≡◌, ◌≢◌, ℕ, zero, suc, ◌+◌, Bool, true, false, not, List, [], ◌∷◌, ◌++◌, length, refl, sym, ap, subst, ◌∙◌, inl, inr, arith}
use Rattle.std.specs.Prelude.{◌⊎◌, ◌||◌, Contains, IsTrue, Option, Some, None, slice_get}
use Rattle.std.specs.BTreeSet.{BTreeSet, contains}
use Rattle.std.specs.BTreeMap.{is_at}
use Rattle.std.specs.List.{AllByRecursion, list_any}
use Rattle.std.specs.Cmp.Lexicographic.{bytes_decides}
use Rattle.std.specs.Ordering.{nat_cmp}
use Rattle.std.specs.Str.{bytes_eq}
use Rattle.std.proofs.lemmas.List.Folds.{list_any-append}
use Rattle.std.proofs.lemmas.Bool.{cases_eq}
use Rattle.std.proofs.lemmas.List.Elements.{Contains-append_cases, Contains-append_left, Contains-append_right}
use Rattle.ps_expr_eval.specs.Evaluations.{operands_in, operands_of}
use Rattle.ps_expr_eval.proofs.Taking.{aggregate-tree}
use Rattle.ps_frame.specs.Frames.{has_name}
use Rattle.ps_frame.specs.Parts.{is_column_of, reads_column, tree_parts, trees_parts}
use Rattle.ps_frame.specs.Tables.{Fields}
use Rattle.ps_frame.specs.Trees.{AreComplete, Tree, entry_tree, tree_at, tree_within, trees_of, trees_size}
use Rattle.ps_frame.specs.declared.expr.AExpr.{AExpr}
use Rattle.ps_frame.specs.declared.expr.AExpr.TheVariants as entry
use Rattle.ps_meaning.proofs.Fits.{all-append}
use Rattle.ps_meaning.specs.Steps.{Name}
use Rattle.pu_base.specs.declared.arena.Node.{Node}
use Rattle.expression_reads.specs.Reads.{AllReadAll, HasNamesRead, ReadsAll}
use Rattle.expression_reads.specs.Walks.{AllNamesPass, IsMet, IsWithin, Walks}

abbrev Set : Type 0
Set = BTreeSet ℕ

-- what is complete, and how much it is, of two lists
pub both-complete : (f : Node → Tree) (ns ms : List Node) → AreComplete (trees_of f ns) → AreComplete (trees_of f ms) → AreComplete (trees_of f (ns ++ ms))
both-complete f [] ms c d = d
both-complete f (n ∷ ns) ms c d = (c.0, both-complete f ns ms c.1 d)

pub both-size : (f : Node → Tree) (ns ms : List Node) → trees_size (trees_of f (ns ++ ms)) ≡ trees_size (trees_of f ns) + trees_size (trees_of f ms)
both-size f [] ms = omega arith
both-size f (n ∷ ns) ms = let rest = both-size f ns ms in omega (arith, rest)

-- the only item of a list
only-item : (n m : Node) → Contains (n ∷ []) m → n ≡ m
only-item n m (zero, within, is) = is
only-item n m (suc k, within, is) = absurd (omega arith)

none-item : (m : Node) → Contains [] m → ⊥
none-item m (k, within, is) = absurd (omega arith)

contains-own : (m : Node) (ms : List Node) → Contains (m ∷ ms) m
contains-own m ms = (0, omega arith, refl)

contains-later : (n m : Node) (ms : List Node) → Contains ms m → Contains (n ∷ ms) m
contains-later n m ms (k, within, is) = (suc k, omega arith, is)

-- what holds of each item of two lists
all-front : {A : Type 0} (P : A → Type 0) (xs ys : List A) → AllByRecursion P (xs ++ ys) → AllByRecursion P xs
all-front P [] ys h = tt
all-front P (x ∷ xs) ys h = (h.0, all-front P xs ys h.1)

all-last : {A : Type 0} (P : A → Type 0) (xs : List A) (y : A) → AllByRecursion P (xs ++ y ∷ []) → P y
all-last P [] y h = h.0
all-last P (x ∷ xs) y h = all-last P xs y h.1

-- what an entry takes reads what it reads
or-left : (p q : Bool) → p ≡ true → (p || q) ≡ true
or-left p q e = ap (λ b. b || q) e

or-right : (p q : Bool) → q ≡ true → (p || q) ≡ true
or-right true q e = refl
or-right false q e = e

module _ (name : Name) (xs ys : List Tree) where
  in-first : IsTrue (list_any (is_column_of name) xs) → IsTrue (list_any (is_column_of name) (xs ++ ys))
  in-first h = list_any-append (is_column_of name) xs ys ∙ or-left _ _ h

  in-second : IsTrue (list_any (is_column_of name) ys) → IsTrue (list_any (is_column_of name) (xs ++ ys))
  in-second h = list_any-append (is_column_of name) xs ys ∙ or-right _ _ h

module _ (f : Node → Tree) where
  keys-within : (ns : List Node) (p : Name → Bool) → ((name : Name) → IsTrue (list_any (is_column_of name) (trees_parts (trees_of f ns))) → IsTrue (p name)) → AllByRecursion (λ m. (name : Name) → IsTrue (reads_column name (f m)) → IsTrue (p name)) ns
  keys-within [] p k = tt
  keys-within (n ∷ ns) p k =
      ((λ name h. k name (in-first name (tree_parts (f n)) (trees_parts (trees_of f ns)) h)), keys-within ns p (λ name h. k name (in-second name (tree_parts (f n)) (trees_parts (trees_of f ns)) h)))

  abbrev TakenBy : Tree → Node → Type 0
  TakenBy t m = (name : Name) → IsTrue (reads_column name (f m)) → IsTrue (reads_column name t)

  three-within : (a b c : Tree) (name : Name) → IsTrue (list_any (is_column_of name) (tree_parts b)) ⊎ IsTrue (list_any (is_column_of name) (tree_parts c))
      → IsTrue (list_any (is_column_of name) (tree_parts a ++ (tree_parts b ++ tree_parts c)))
  three-within a b c name (inl h) = in-second name (tree_parts a) (tree_parts b ++ tree_parts c) (in-first name (tree_parts b) (tree_parts c) h)
  three-within a b c name (inr h) = in-second name (tree_parts a) (tree_parts b ++ tree_parts c) (in-second name (tree_parts b) (tree_parts c) h)

  takes-within : (e : AExpr) → AllByRecursion (TakenBy (entry_tree f (Some e))) (operands_of e)
  takes-within (entry.Column name) = tt
  takes-within (entry.Literal l) = tt
  takes-within (entry.BinaryExpr l o r) = ((λ name h. in-first name (tree_parts (f l)) (tree_parts (f r)) h), ((λ name h. in-second name (tree_parts (f l)) (tree_parts (f r)) h), tt))
  takes-within (entry.Cast e k strict) = ((λ name h. h), tt)
  takes-within (entry.Sort e d n) = ((λ name h. h), tt)
  takes-within (entry.SortBy e by d n) = (
    (λ name h. in-first name (tree_parts (f e)) (trees_parts (trees_of f by)) h),
    keys-within by (λ name. reads_column name (Tree.sort_by d n (f e) (trees_of f by))) (λ name h. in-second name (tree_parts (f e)) (trees_parts (trees_of f by)) h),
  )
  takes-within (entry.Gather e i s) = ((λ name h. in-first name (tree_parts (f e)) (tree_parts (f i)) h), ((λ name h. in-second name (tree_parts (f e)) (tree_parts (f i)) h), tt))
  takes-within (entry.Filter e by) = ((λ name h. in-first name (tree_parts (f e)) (tree_parts (f by)) h), ((λ name h. in-second name (tree_parts (f e)) (tree_parts (f by)) h), tt))
  takes-within (entry.Agg a) = ((λ name h. subst (λ (t : Tree). IsTrue (reads_column name t)) (sym (aggregate-tree f a)) h), tt)
  takes-within (entry.Ternary p a b) =
      ((λ name h. in-first name (tree_parts (f p)) (tree_parts (f a) ++ tree_parts (f b)) h), ((λ name h. three-within (f p) (f a) (f b) name (inl h)), ((λ name h. three-within (f p) (f a) (f b) name (inr h)), tt)))
  takes-within (entry.Function e g) = ((λ name h. h), tt)
  takes-within (entry.Slice e o l) =
      ((λ name h. in-first name (tree_parts (f e)) (tree_parts (f o) ++ tree_parts (f l)) h), ((λ name h. three-within (f e) (f o) (f l) name (inl h)), ((λ name h. three-within (f e) (f o) (f l) name (inr h)), tt)))
  takes-within entry.Len = tt
  takes-within (entry.LeftOut w) = tt

all-through : {A : Type 0} (P Q : A → Type 0) → ((x : A) → P x → Q x) → (xs : List A) → AllByRecursion P xs → AllByRecursion Q xs
all-through P Q k [] h = tt
all-through P Q k (x ∷ xs) h = (k x h.0, all-through P Q k xs h.1)

-- an entry is within an expression, and so is what it takes, and the name that it is
module _ (a : List AExpr) (expr n : Node) (e : AExpr) (tree : tree_at a n ≡ entry_tree (tree_at a) (Some e)) (inside : IsWithin a expr n) where
  taken-within : AllByRecursion (IsWithin a expr) (operands_of e)
  taken-within =
      all-through (TakenBy (tree_at a) (entry_tree (tree_at a) (Some e))) (IsWithin a expr) (λ m k name h. inside name (subst (λ (t : Tree). IsTrue (reads_column name t)) (sym tree) (k name h))) (operands_of e) (takes-within (tree_at a) e)

  pub name-within : (name : Name) → e ≡ entry.Column name → IsTrue (reads_column name (tree_at a expr))
  name-within name is =
      let t : tree_at a n ≡ Tree.column name = tree ∙ ap (λ (x : AExpr). entry_tree (tree_at a) (Some x)) is in
      inside name (subst (λ (u : Tree). IsTrue (reads_column name u)) (sym t) (or-left (bytes_eq name name) false ((bytes_decides name name).1 refl)))

-- the start of the walk
pub begins : (a : List AExpr) (all : Fields) (expr : Node) (seen : Set) (left : List Node) → seen.keys ≡ [] → left ≡ [] ++ expr ∷ [] → Walks a all expr seen left []
begins a all expr seen left none is = record {
  start = inr (subst (λ ms. Contains ms expr) (sym is) (contains-own expr []));
  operands = λ n h. absurd (unseen n h);
  within = subst (AllByRecursion (IsWithin a expr)) (sym is) ((λ name h. h), tt);
  only = tt;
  columns = λ n name h. absurd (unseen n h);
}
  where
    unseen : (n : Node) → IsTrue (contains nat_cmp seen n.0) → ⊥
    unseen n h = let f : contains nat_cmp seen n.0 ≡ false = ap (λ (ks : List ℕ). list_any (is_at (nat_cmp n.0)) ks) none in cc

module _ (old new : Set) (before after : List Node) (more : (m : Node) → IsMet old before m → IsMet new after m) where
  all-met : (ms : List Node) → AllByRecursion (IsMet old before) ms → AllByRecursion (IsMet new after) ms
  all-met [] h = tt
  all-met (m ∷ ms) h = (more m h.0, all-met ms h.1)

-- an entry that was looked at before is left out
pub skipped : (a : List AExpr) (all : Fields) (expr n : Node) (seen new : Set) (left : List Node) (fields : Fields) → contains nat_cmp seen n.0 ≡ true → ((q : ℕ) → contains nat_cmp new q ≡ contains nat_cmp seen q)
    → Walks a all expr seen (left ++ n ∷ []) fields → Walks a all expr new left fields
skipped a all expr n seen new left fields known same w = record {
  start = more expr w.start;
  operands = λ m h. all-met seen new (left ++ n ∷ []) left more (operands_in (slice_get a m.0)) (w.operands m (sym (same m.0) ∙ h));
  within = all-front (IsWithin a expr) left (n ∷ []) w.within;
  only = w.only;
  columns = λ m name h. w.columns m name (sym (same m.0) ∙ h);
}
  where
    more : (m : Node) → IsMet seen (left ++ n ∷ []) m → IsMet new left m
    more m (inl h) = inl (same m.0 ∙ h)
    more m (inr c) = by (Contains-append_cases left (n ∷ []) m c)
      where
        by : Contains left m ⊎ Contains (n ∷ []) m → IsMet new left m
        by (inl d) = inr d
        by (inr d) = inl (same m.0 ∙ ap (λ (k : Node). contains nat_cmp seen k.0) (sym (only-item n m d)) ∙ known)

-- an entry is looked at
module _ (a : List AExpr) (all : Fields) (expr n : Node) (seen new : Set) (left after : List Node) (fields now : Fields) (e : AExpr) (found : slice_get a n.0 ≡ Some e) (tree : tree_at a n ≡ entry_tree (tree_at a) (Some e)) where
  pub looked : contains nat_cmp new n.0 ≡ true → ((q : ℕ) → q ≢ n.0 → contains nat_cmp new q ≡ contains nat_cmp seen q) → after ≡ left ++ operands_in (slice_get a n.0)
      → ((other : Name) → IsTrue (has_name other fields) → IsTrue (has_name other now))
      → ((name : Name) → slice_get a n.0 ≡ Some (entry.Column name) → IsTrue (has_name name all) → IsTrue (has_name name now))
      → (((name : Name) → e ≡ entry.Column name → IsTrue (reads_column name (tree_at a expr))) → AllNamesPass (λ name. reads_column name (tree_at a expr)) fields → AllNamesPass (λ name. reads_column name (tree_at a expr)) now)
      → Walks a all expr seen (left ++ n ∷ []) fields → Walks a all expr new after now
  looked noted others is kept added passed w = record {
    start = more expr w.start;
    operands = λ m h. operands-of m h (cases_eq m.0 n.0);
    within =
        subst (AllByRecursion (IsWithin a expr)) (sym (is ∙ ap (λ o. left ++ operands_in o) found))
        (all-append (IsWithin a expr) left (operands_of e) (all-front (IsWithin a expr) left (n ∷ []) w.within) (taken-within a expr n e tree (all-last (IsWithin a expr) left n w.within)));
    only = passed (name-within a expr n e tree (all-last (IsWithin a expr) left n w.within)) w.only;
    columns = λ m name h e there. column-of m name h e there (cases_eq m.0 n.0);
  }
    where
      still : (q : ℕ) → IsTrue (contains nat_cmp seen q) → (q ≡ n.0) ⊎ (q ≢ n.0) → IsTrue (contains nat_cmp new q)
      still q h (inl e) = ap (contains nat_cmp new) e ∙ noted
      still q h (inr d) = others q d ∙ h

      there-left : (m : Node) → Contains left m ⊎ Contains (n ∷ []) m → IsMet new after m
      there-left m (inl d) = inr (subst (λ ms. Contains ms m) (sym is) (Contains-append_left left (operands_in (slice_get a n.0)) m d))
      there-left m (inr d) = inl (ap (λ (k : Node). contains nat_cmp new k.0) (sym (only-item n m d)) ∙ noted)

      more : (m : Node) → IsMet seen (left ++ n ∷ []) m → IsMet new after m
      more m (inl h) = inl (still m.0 h (cases_eq m.0 n.0))
      more m (inr c) = there-left m (Contains-append_cases left (n ∷ []) m c)

      own : (ms : List Node) → ((m : Node) → Contains ms m → Contains (operands_in (slice_get a n.0)) m) → AllByRecursion (IsMet new after) ms
      own [] h = tt
      own (m ∷ ms) h = (inr (subst (λ ks. Contains ks m) (sym is) (Contains-append_right left (operands_in (slice_get a n.0)) m (h m (contains-own m ms)))), own ms (λ k c. h k (contains-later m k ms c)))

      operands-of : (m : Node) → IsTrue (contains nat_cmp new m.0) → (m.0 ≡ n.0) ⊎ (m.0 ≢ n.0) → AllByRecursion (IsMet new after) (operands_in (slice_get a m.0))
      operands-of m h (inl e) = subst (λ (q : ℕ). AllByRecursion (IsMet new after) (operands_in (slice_get a q))) (sym e) (own (operands_in (slice_get a n.0)) (λ k c. c))
      operands-of m h (inr d) = all-met seen new (left ++ n ∷ []) after more (operands_in (slice_get a m.0)) (w.operands m (sym (others m.0 d) ∙ h))

      column-of : (m : Node) (name : Name) → IsTrue (contains nat_cmp new m.0) → slice_get a m.0 ≡ Some (entry.Column name) → IsTrue (has_name name all) → (m.0 ≡ n.0) ⊎ (m.0 ≢ n.0) → IsTrue (has_name name now)
      column-of m name h e there (inl q) = added name (ap (slice_get a) (sym q) ∙ e) there
      column-of m name h e there (inr d) = kept name (w.columns m name (sym (others m.0 d) ∙ h) e there)

-- what holds of each name that the entries which an entry takes read, and of its own, holds of each that it reads
module _ (P : Name → Type 0) (f : Node → Tree) where
  keys-read : (ns : List Node) → AllByRecursion (λ n. ReadsAll P (f n)) ns → AllReadAll P (trees_of f ns)
  keys-read [] h = tt
  keys-read (n ∷ ns) h = (h.0, keys-read ns h.1)

  entry-reads : (o : Option AExpr) → AllByRecursion (λ n. ReadsAll P (f n)) (operands_in o) → ((name : Name) → o ≡ Some (entry.Column name) → P name) → ReadsAll P (entry_tree f o)
  entry-reads None h own = tt
  entry-reads (Some (entry.Column name)) h own = own name refl
  entry-reads (Some (entry.Literal l)) h own = tt
  entry-reads (Some (entry.BinaryExpr l o r)) h own = (h.0, h.1.0)
  entry-reads (Some (entry.Cast e k strict)) h own = h.0
  entry-reads (Some (entry.Sort e d n)) h own = h.0
  entry-reads (Some (entry.SortBy e by d n)) h own = (h.0, keys-read by h.1)
  entry-reads (Some (entry.Gather e i s)) h own = (h.0, h.1.0)
  entry-reads (Some (entry.Filter e by)) h own = (h.0, h.1.0)
  entry-reads (Some (entry.Agg a)) h own = subst (ReadsAll P) (sym (aggregate-tree f a)) h.0
  entry-reads (Some (entry.Ternary p a b)) h own = (h.0, h.1.0, h.1.1.0)
  entry-reads (Some (entry.Function e g)) h own = h.0
  entry-reads (Some (entry.Slice e o l)) h own = (h.0, h.1.0, h.1.1.0)
  entry-reads (Some entry.Len) h own = tt
  entry-reads (Some (entry.LeftOut w)) h own = tt

-- where nothing is left to look at, each name that is read was found
module _ (a : List AExpr) (all : Fields) (expr : Node) (seen : Set) (fields : Fields) (w : Walks a all expr seen [] fields) where
  abbrev Found : Name → Type 0
  Found name = IsTrue (has_name name all) → IsTrue (has_name name fields)

  looked-at : (n : Node) → IsMet seen [] n → IsTrue (contains nat_cmp seen n.0)
  looked-at n (inl h) = h
  looked-at n (inr c) = absurd (none-item n c)

  each : (Q : Node → Type 0) → ((n : Node) → IsTrue (contains nat_cmp seen n.0) → Q n) → (ns : List Node) → AllByRecursion (IsMet seen []) ns → AllByRecursion Q ns
  each Q all [] h = tt
  each Q all (n ∷ ns) h = (all n (looked-at n h.0), each Q all ns h.1)

  within : (depth : ℕ) (n : Node) → IsTrue (contains nat_cmp seen n.0) → ReadsAll Found (tree_within depth a n)
  unfolding tree_within
  within zero n h = tt
  within (suc depth) n h =
      entry-reads Found (tree_within depth a) (slice_get a n.0)
      (each (λ m. ReadsAll Found (tree_within depth a m)) (λ m known. within depth m known) (operands_in (slice_get a n.0)) (w.operands n h))
      (λ name e. w.columns n name h e)

  pub finds : HasNamesRead all fields (tree_at a expr)
  finds = within (length a) expr (looked-at expr w.start)

-- an entry that isn't seen for the first time
pub looked-before : (a : List AExpr) (all : Fields) (expr n : Node) (seen new : Set) (left : List Node) (fields : Fields) (first : Bool) → first ≡ not (contains nat_cmp seen n.0) → first ≡ false
    → contains nat_cmp new n.0 ≡ true → ((q : ℕ) → q ≢ n.0 → contains nat_cmp new q ≡ contains nat_cmp seen q) → Walks a all expr seen (left ++ n ∷ []) fields → Walks a all expr new left fields
looked-before a all expr n seen new left fields first is again noted others w =
    let known : contains nat_cmp seen n.0 ≡ true = was (contains nat_cmp seen n.0) (sym is ∙ again) in
    skipped a all expr n seen new left fields known (λ q. same known q (cases_eq q n.0)) w
  where
    was : (b : Bool) → not b ≡ false → b ≡ true
    was true e = refl
    was false e = cc

    same : contains nat_cmp seen n.0 ≡ true → (q : ℕ) → (q ≡ n.0) ⊎ (q ≢ n.0) → contains nat_cmp new q ≡ contains nat_cmp seen q
    same known q (inl e) = ap (contains nat_cmp new) e ∙ noted ∙ sym known ∙ ap (contains nat_cmp seen) (sym e)
    same known q (inr d) = others q d

-- a list without a last item has none
pub no-items : (ns : List Node) → length ns ≡ 0 → ns ≡ []
no-items [] e = refl
no-items (n ∷ ns) e = absurd (omega arith)
