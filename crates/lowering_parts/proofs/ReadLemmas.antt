-- The columns that expressions read, entry by entry.
use Rattle.std.proofs.Common.{◌≡◌, Ok, Err, Result, ℕ, zero, suc, ◌+◌, ◌<◌, ◌≤◌, Bool, true, false, cond, List, [], ◌∷◌, ◌++◌, refl, sym, ap, subst, ◌∙◌, arith, length, take, get_or, add-one, take_all}
use Rattle.std.specs.Prelude.{IsTrue, OnOk, is_some, nat_eq, nat_lt, None, Some, ◌||◌, filter, not, option_map, slice_get}
use Rattle.std.specs.BTreeSet.{BTreeSet, Updates, contains}
use Rattle.std.specs.BTreeMap.{is_at}
use Rattle.std.specs.Cmp.{nat_eq_equiv, unsigned_tied}
use Rattle.std.specs.Cmp.Lexicographic.{bytes_decides, lists_equiv}
use Rattle.std.specs.List.{AllByRecursion, list_any, position_or_len}
use Rattle.std.specs.Ordering.{nat_cmp}
use Rattle.std.specs.Str.{bytes_eq}
use Rattle.std.proofs.Math.Dec.{eqb-suc-suc, eqb-suc-zero, eqb-zero-suc}
use Rattle.std.proofs.lemmas.List.{append-nil}
use Rattle.std.proofs.lemmas.List.Folds.{list_any-append}
use Rattle.std.proofs.lemmas.Option.{same_Some}
use Rattle.pu_base.specs.declared.arena.Node.{Node}
use Rattle.ps_frame.proofs.Lists.{both}
use Rattle.ps_frame.proofs.NamePlaces.{is_some-position}
use Rattle.ps_frame.proofs.Names.{not-true, or-parts}
use Rattle.ps_frame.specs.Frames.{has_distinct_names, has_name}
use Rattle.ps_frame.specs.Parts.{is_column_of, reads_column, tree_parts, trees_parts}
use Rattle.ps_frame.specs.Tables.{Fields, field_index}
use Rattle.ps_frame.specs.Trees.{AreComplete, IsComplete, Tree, aggregate_tree, entry_tree, tree_size, trees_of, trees_size}
use Rattle.ps_frame.specs.declared.expr.AExpr.{AExpr}
use Rattle.ps_frame.specs.declared.expr.AExpr.TheVariants as entry
use Rattle.ps_frame.specs.declared.expr.IRAggExpr.{IRAggExpr}
use Rattle.ps_frame.specs.declared.expr.IRAggExpr.TheVariants as agg
use Rattle.ps_frame.specs.declared.refusal.PolarsError.{PolarsError}
use Rattle.ps_frame.specs.declared.value.DataType.{DataType}
use Rattle.ps_meaning.specs.Schemas.{names_of}
use Rattle.ps_meaning.specs.Steps.{Name, Named, exprs_of, named_trees}
use Rattle.ps_meaning.specs.declared.options.ExprIR.{ExprIR}
use Rattle.ps_rules.specs.Bundles.{names_read, or_first}
use Rattle.lowering_parts.specs.Gathered.{trees_at}
use Rattle.lowering_parts.specs.Reads.{ArePlacesOf, aggregate_operand, any_reads, operands_of, reads_itself}

or_none : (b : Bool) → b ≡ (b || false)
or_none true = refl
or_none false = refl

module _ (n : Name) where
  abbrev any_part : List Tree → Bool
  any_part ts = list_any (is_column_of n) ts

  two_parts : (a b : Tree) → any_part (tree_parts a ++ tree_parts b) ≡ (reads_column n a || (reads_column n b || false))
  two_parts a b = list_any-append (is_column_of n) (tree_parts a) (tree_parts b) ∙ ap (λ r. reads_column n a || r) (or_none (reads_column n b))

  three_parts : (a b c : Tree) → any_part (tree_parts a ++ (tree_parts b ++ tree_parts c)) ≡ (reads_column n a || (reads_column n b || (reads_column n c || false)))
  three_parts a b c = list_any-append (is_column_of n) (tree_parts a) (tree_parts b ++ tree_parts c) ∙ ap (λ r. reads_column n a || r) (two_parts b c)

  all_parts : (f : Node → Tree) (ns : List Node) → any_part (trees_parts (trees_of f ns)) ≡ any_reads (trees_at f ns) n
  all_parts f [] = refl
  all_parts f (m ∷ ns) = list_any-append (is_column_of n) (tree_parts (f m)) (trees_parts (trees_of f ns)) ∙ ap (λ r. reads_column n (f m) || r) (all_parts f ns)

  of_aggregate : (f : Node → Tree) (a : IRAggExpr) → reads_column n (aggregate_tree f a) ≡ (reads_column n (f (aggregate_operand a)) || false)
  of_aggregate f (agg.Min m) = or_none (reads_column n (f m))
  of_aggregate f (agg.Max m) = or_none (reads_column n (f m))
  of_aggregate f (agg.First m) = or_none (reads_column n (f m))
  of_aggregate f (agg.Last m) = or_none (reads_column n (f m))
  of_aggregate f (agg.Sum m) = or_none (reads_column n (f m))
  of_aggregate f (agg.NUnique m) = or_none (reads_column n (f m))
  of_aggregate f (agg.Count m all) = or_none (reads_column n (f m))

  -- an entry reads what it is itself, and what its operands read
  pub entry_reads : (f : Node → Tree) (e : AExpr) → reads_column n (entry_tree f (Some e)) ≡ (reads_itself n e || any_reads (trees_at f (operands_of e)) n)
  entry_reads f (entry.Column name) = refl
  entry_reads f (entry.Literal l) = refl
  entry_reads f (entry.BinaryExpr l o r) = two_parts (f l) (f r)
  entry_reads f (entry.Cast e k s) = or_none (reads_column n (f e))
  entry_reads f (entry.Sort e d l) = or_none (reads_column n (f e))
  entry_reads f (entry.SortBy e by d l) =
      list_any-append (is_column_of n) (tree_parts (f e)) (trees_parts (trees_of f by)) ∙ ap (λ r. reads_column n (f e) || r) (all_parts f by)
  entry_reads f (entry.Gather e i s) = two_parts (f e) (f i)
  entry_reads f (entry.Filter e by) = two_parts (f e) (f by)
  entry_reads f (entry.Agg a) = of_aggregate f a
  entry_reads f (entry.Ternary p a b) = three_parts (f p) (f a) (f b)
  entry_reads f (entry.Function e g) = or_none (reads_column n (f e))
  entry_reads f (entry.Slice e o l) = three_parts (f e) (f o) (f l)
  entry_reads f entry.Len = refl
  entry_reads f (entry.LeftOut w) = refl

aggregate_complete : (f : Node → Tree) (a : IRAggExpr) → IsComplete (aggregate_tree f a) → IsComplete (f (aggregate_operand a))
aggregate_complete f (agg.Min m) h = h
aggregate_complete f (agg.Max m) h = h
aggregate_complete f (agg.First m) h = h
aggregate_complete f (agg.Last m) h = h
aggregate_complete f (agg.Sum m) h = h
aggregate_complete f (agg.NUnique m) h = h
aggregate_complete f (agg.Count m all) h = h

-- nothing is missing in what an entry takes
pub operands_complete : (f : Node → Tree) (e : AExpr) → IsComplete (entry_tree f (Some e)) → AreComplete (trees_of f (operands_of e))
operands_complete f (entry.Column name) c = tt
operands_complete f (entry.Literal l) c = tt
operands_complete f (entry.BinaryExpr l o r) c = (c.0, (c.1, tt))
operands_complete f (entry.Cast e d strict) c = (c, tt)
operands_complete f (entry.Sort e d n) c = (c, tt)
operands_complete f (entry.SortBy e by d n) c = (c.0, c.1)
operands_complete f (entry.Gather e i scalar) c = (c.0, (c.1, tt))
operands_complete f (entry.Filter e by) c = (c.0, (c.1, tt))
operands_complete f (entry.Agg a) c = (aggregate_complete f a c, tt)
operands_complete f (entry.Ternary p a b) c = (c.0, (c.1, (c.2, tt)))
operands_complete f (entry.Function e g) c = (c, tt)
operands_complete f (entry.Slice e o l) c = (c.0, (c.1, (c.2, tt)))
operands_complete f entry.Len c = tt
operands_complete f (entry.LeftOut w) c = tt

aggregate_size : (f : Node → Tree) (a : IRAggExpr) → tree_size (aggregate_tree f a) ≡ suc (tree_size (f (aggregate_operand a)) + 0)
aggregate_size f (agg.Min m) = omega arith
aggregate_size f (agg.Max m) = omega arith
aggregate_size f (agg.First m) = omega arith
aggregate_size f (agg.Last m) = omega arith
aggregate_size f (agg.Sum m) = omega arith
aggregate_size f (agg.NUnique m) = omega arith
aggregate_size f (agg.Count m all) = omega arith

-- a tree is larger by one than those that it takes
pub operands_size : (f : Node → Tree) (e : AExpr) → tree_size (entry_tree f (Some e)) ≡ suc (trees_size (trees_of f (operands_of e)))
operands_size f (entry.Column name) = refl
operands_size f (entry.Literal l) = refl
operands_size f (entry.BinaryExpr l o r) = omega arith
operands_size f (entry.Cast e k strict) = omega arith
operands_size f (entry.Sort e d n) = omega arith
operands_size f (entry.SortBy e by d n) = refl
operands_size f (entry.Gather e i s) = omega arith
operands_size f (entry.Filter e by) = omega arith
operands_size f (entry.Agg a) = aggregate_size f a
operands_size f (entry.Ternary p a b) = omega arith
operands_size f (entry.Function e g) = omega arith
operands_size f (entry.Slice e o l) = omega arith
operands_size f entry.Len = refl
operands_size f (entry.LeftOut w) = refl

-- the same places where the tests agree
pub places_as : (s : Fields) (p q : Name → Bool) (places : BTreeSet ℕ) → ((n : Name) → p n ≡ q n) → ArePlacesOf s p places → ArePlacesOf s q places
places_as s p q places same h k n at = h k n at ∙ same n

-- no places, and no name that passes
pub no_places : (s : Fields) (places : BTreeSet ℕ) → places.keys ≡ [] → ArePlacesOf s (any_reads []) places
no_places s places e k n at = ap (λ (ks : List ℕ). contains nat_cmp (record places { keys = ks }) k) e

abbrev first_of : Name → Fields → ℕ
first_of name s = position_or_len (λ (g : Name × DataType). bytes_eq name g.0) s

symmetric : (a b : Name) → bytes_eq a b ≡ bytes_eq b a
symmetric a b = (lists_equiv nat_eq_equiv).symm a b

-- a name that isn't there isn't any of those that are
none_of : (name : Name) (s : Fields) (k : ℕ) (n : Name) → has_name name s ≡ false → slice_get (names_of s) k ≡ Some n → bytes_eq name n ≡ false
none_of name [] k n h at = cc
none_of name (f ∷ s) zero n h at = ap (bytes_eq name) (same_Some n f.0 (sym at)) ∙ (or-parts (bytes_eq name f.0) (has_name name s) h).0
none_of name (f ∷ s) (suc k) n h at = none_of name s k n (or-parts (bytes_eq name f.0) (has_name name s) h).1 at

none_first : (m : ℕ) → nat_eq (1 + m) 0 ≡ false
none_first m = let e : 1 + m ≡ suc m = omega arith in ap (λ j. nat_eq j 0) e ∙ eqb-suc-zero m

both_later : (m k : ℕ) → nat_eq (1 + m) (suc k) ≡ nat_eq m k
both_later m k = let e : 1 + m ≡ suc m = omega arith in ap (λ j. nat_eq j (suc k)) e ∙ eqb-suc-suc m k

-- where no name stands twice, the place of a name is that of no other one
is_place : (name : Name) (s : Fields) (k : ℕ) (n : Name) → IsTrue (has_distinct_names s) → slice_get (names_of s) k ≡ Some n → nat_eq (first_of name s) k ≡ bytes_eq n name
is_place name [] k n d at = cc
is_place name (f ∷ s) k n d at =
    let parts = both (not (has_name f.0 s)) (has_distinct_names s) d in
    by (bytes_eq name f.0) refl (not-true (has_name f.0 s) parts.0) (λ j there. is_place name s j n parts.1 there) k at
  where
    by : (b : Bool) → bytes_eq name f.0 ≡ b → has_name f.0 s ≡ false → ((j : ℕ) → slice_get (names_of s) j ≡ Some n → nat_eq (first_of name s) j ≡ bytes_eq n name)
        → (j : ℕ) → slice_get (names_of (f ∷ s)) j ≡ Some n → nat_eq (first_of name (f ∷ s)) j ≡ bytes_eq n name
    by true q alone go zero at =
        ap (λ b. nat_eq (cond (not b) (1 + first_of name s) 0) 0) q ∙ sym q ∙ ap (bytes_eq name) (same_Some f.0 n at) ∙ symmetric name n
    by true q alone go (suc j) at =
        ap (λ b. nat_eq (cond (not b) (1 + first_of name s) 0) (suc j)) q ∙ eqb-zero-suc j ∙ sym (none_of f.0 s j n alone at) ∙ ap (λ m. bytes_eq m n) (sym ((bytes_decides name f.0).0 q)) ∙ symmetric name n
    by false q alone go zero at =
        ap (λ b. nat_eq (cond (not b) (1 + first_of name s) 0) 0) q ∙ none_first (first_of name s) ∙ sym q ∙ ap (bytes_eq name) (same_Some f.0 n at) ∙ symmetric name n
    by false q alone go (suc j) at =
        ap (λ b. nat_eq (cond (not b) (1 + first_of name s) 0) (suc j)) q ∙ both_later (first_of name s) j ∙ go j at

found : (n m i : ℕ) (b : Bool) → nat_lt n m ≡ b → cond b (Some n) None ≡ Some i → n ≡ i
found n m i true q e = cc
found n m i false q e = cc

place_at : (name : Name) (s : Fields) (place : ℕ) → field_index name s ≡ Some place → first_of name s ≡ place
place_at name s place e = found (first_of name s) (length s) place (nat_lt (first_of name s) (length s)) refl e

either : (a b : Bool) → cond a true b ≡ (b || a)
either true true = refl
either true false = refl
either false true = refl
either false false = refl

-- the place of a column is put among others
pub place_added : (name : Name) (s : Fields) (place : ℕ) (p : Name → Bool) (old new : BTreeSet ℕ) → IsTrue (has_distinct_names s) → field_index name s ≡ Some place → Updates nat_cmp old new place true → ArePlacesOf s p old
    → ArePlacesOf s (λ n. p n || bytes_eq n name) new
place_added name s place p old new d e u h k n at =
    let own : is_at (nat_cmp place) k ≡ bytes_eq n name = unsigned_tied place k ∙ ap (λ m. nat_eq m k) (sym (place_at name s place e)) ∙ is_place name s k n d at in
    u.0 k ∙ (λ i. cond (own i) true (h k n at i)) ∙ either (bytes_eq n name) (p n)

-- a name that is no column's has no place
pub place_missing : (name : Name) (s : Fields) (p : Name → Bool) (places : BTreeSet ℕ) → field_index name s ≡ None → ArePlacesOf s p places → ArePlacesOf s (λ n. p n || bytes_eq n name) places
place_missing name s p places e h k n at =
    let absent : has_name name s ≡ false = sym (is_some-position (λ (f : Name × DataType). bytes_eq name f.0) s) ∙ ap is_some e in
    h k n at ∙ or_none (p n) ∙ ap (λ b. p n || b) (sym (symmetric n name ∙ none_of name s k n absent at))

-- an entry that is a column reads itself
pub itself_column : (r : Result (Unit {0}) PolarsError) (s : Fields) (p : Name → Bool) (places : BTreeSet ℕ) (e : AExpr) (name : Name) → e ≡ entry.Column name → OnOk r (ArePlacesOf s (λ n. p n || bytes_eq n name) places)
    → OnOk r (ArePlacesOf s (λ n. p n || reads_itself n e) places)
itself_column (Ok x) s p places e name is h = places_as s (λ n. p n || bytes_eq n name) (λ n. p n || reads_itself n e) places (λ n. ap (λ (x : AExpr). p n || reads_itself n x) (sym is)) h
itself_column (Err x) s p places e name is h = tt

assoc : (a b c : Bool) → (a || (b || c)) ≡ ((a || b) || c)
assoc true b c = refl
assoc false b c = refl

any_append : (f : Node → Tree) (n : Name) (xs ys : List Node) → any_reads (trees_at f (xs ++ ys)) n ≡ (any_reads (trees_at f xs) n || any_reads (trees_at f ys) n)
any_append f n [] ys = refl
any_append f n (x ∷ xs) ys = ap (λ b. reads_column n (f x) || b) (any_append f n xs ys) ∙ assoc (reads_column n (f x)) (any_reads (trees_at f xs) n) (any_reads (trees_at f ys) n)

regroup : (a b c d : Bool) → ((a || b) || (c || d)) ≡ (a || (c || ((b || d) || false)))
regroup true b c d = refl
regroup false true true d = refl
regroup false true false d = refl
regroup false false true d = refl
regroup false false false d = or_none d

-- the places that are wanted are those that are there, and those of what is left to look at
abbrev pub Comes : Fields → (Name → Bool) → (Node → Tree) → List Node → BTreeSet ℕ → Type 0
Comes s wanted f left places = (now : Name → Bool) × ArePlacesOf s now places × ((n : Name) → (now n || any_reads (trees_at f left) n) ≡ wanted n)

pub walk_starts : (s : Fields) (p : Name → Bool) (f : Node → Tree) (e : Node) (left : List Node) (places : BTreeSet ℕ) → left ≡ [] ++ e ∷ [] → ArePlacesOf s p places → Comes s (λ n. p n || reads_column n (f e)) f left places
walk_starts s p f e left places is h = (p, h, λ n. ap (λ ms. p n || any_reads (trees_at f ms) n) is ∙ ap (λ b. p n || b) (sym (or_none (reads_column n (f e)))))

module _ (f : Node → Tree) (all left : List Node) (next : Node) (is : all ≡ left ++ next ∷ []) where
  parts_complete : (ns : List Node) → AreComplete (trees_of f (ns ++ next ∷ [])) → AreComplete (trees_of f ns) × IsComplete (f next)
  parts_complete [] c = (tt, c.0)
  parts_complete (n ∷ ns) c = let rest = parts_complete ns c.1 in ((c.0, rest.0), rest.1)

  -- what was left, without the last
  pub next_complete : AreComplete (trees_of f all) → AreComplete (trees_of f left) × IsComplete (f next)
  next_complete c = parts_complete left (subst (λ (ns : List Node). AreComplete (trees_of f ns)) is c)

-- the last one is looked at, and what it takes is left in its place
module _ (f : Node → Tree) (all left after : List Node) (next : Node) (e : AExpr) (is : all ≡ left ++ next ∷ []) where
  pub walk_on : (s : Fields) (wanted : Name → Bool) (old new : BTreeSet ℕ) → after ≡ left ++ operands_of e → ((n : Name) → reads_column n (f next) ≡ (reads_itself n e || any_reads (trees_at f (operands_of e)) n))
      → ((p : Name → Bool) → ArePlacesOf s p old → ArePlacesOf s (λ n. p n || reads_itself n e) new) → Comes s wanted f all old → Comes s wanted f after new
  walk_on s wanted old new to reads adds h = ((λ n. h.0 n || reads_itself n e), adds h.0 h.1, λ n. step n)
    where
      before : (n : Name) → any_reads (trees_at f all) n ≡ (any_reads (trees_at f left) n || ((reads_itself n e || any_reads (trees_at f (operands_of e)) n) || false))
      before n = ap (λ ms. any_reads (trees_at f ms) n) is ∙ any_append f n left (next ∷ []) ∙ ap (λ b. any_reads (trees_at f left) n || (b || false)) (reads n)

      step : (n : Name) → ((h.0 n || reads_itself n e) || any_reads (trees_at f after) n) ≡ wanted n
      step n =
          ap (λ ms. (h.0 n || reads_itself n e) || any_reads (trees_at f ms) n) to ∙ ap (λ b. (h.0 n || reads_itself n e) || b) (any_append f n left (operands_of e))
          ∙ regroup (h.0 n) (reads_itself n e) (any_reads (trees_at f left) n) (any_reads (trees_at f (operands_of e)) n) ∙ ap (λ b. h.0 n || b) (sym (before n)) ∙ h.2 n

  both_complete : (ns ms : List Node) → AreComplete (trees_of f ns) → AreComplete (trees_of f ms) → AreComplete (trees_of f (ns ++ ms))
  both_complete [] ms c d = d
  both_complete (n ∷ ns) ms c d = (c.0, both_complete ns ms c.1 d)

  both_size : (ns ms : List Node) → trees_size (trees_of f (ns ++ ms)) ≡ trees_size (trees_of f ns) + trees_size (trees_of f ms)
  both_size [] ms = omega arith
  both_size (n ∷ ns) ms = let rest = both_size ns ms in omega (arith, rest)

  pub left_complete : after ≡ left ++ operands_of e → AreComplete (trees_of f all) → AreComplete (trees_of f (operands_of e)) → AreComplete (trees_of f after)
  left_complete to c d = subst (λ (ns : List Node). AreComplete (trees_of f ns)) (sym to) (both_complete left (operands_of e) (next_complete f all left next is c).0 d)

  pub left_smaller : after ≡ left ++ operands_of e → tree_size (f next) ≡ suc (trees_size (trees_of f (operands_of e))) → trees_size (trees_of f after) < trees_size (trees_of f all)
  left_smaller to size =
      let now = ap (λ (ns : List Node). trees_size (trees_of f ns)) to ∙ both_size left (operands_of e) in
      let was = ap (λ (ns : List Node). trees_size (trees_of f ns)) is ∙ both_size left (next ∷ []) in
      omega (arith, now, was, size)

pub walk_ends : (s : Fields) (wanted : Name → Bool) (f : Node → Tree) (left : List Node) (places : BTreeSet ℕ) → length left ≡ 0 → Comes s wanted f left places → ArePlacesOf s wanted places
walk_ends s wanted f [] places done h = places_as s h.0 wanted places (λ n. or_none (h.0 n) ∙ h.2 n) h.1
walk_ends s wanted f (n ∷ left) places done h = absurd (omega arith)

-- the expressions of a front, and one more
pub whole_at : (f : Node → Tree) (es : List ExprIR) (i : ℕ) (e : ExprIR) → i < length es → e ≡ get_or es i e → AllByRecursion IsComplete (exprs_of (named_trees f es)) → IsComplete (f e.node)
whole_at f [] i e lt is h = absurd (omega arith)
whole_at f (x ∷ es) zero e lt is h = subst (λ (y : ExprIR). IsComplete (f y.node)) (sym is) h.0
whole_at f (x ∷ es) (suc i) e lt is h = whole_at f es i e (omega arith) is h.1

any_more : (f : Node → Tree) (n : Name) (es : List ExprIR) (i : ℕ) (e : ExprIR) → i < length es → e ≡ get_or es i e
    → (any_reads (exprs_of (named_trees f (take i es))) n || reads_column n (f e.node)) ≡ any_reads (exprs_of (named_trees f (take (i + 1) es))) n
any_more f n es i e lt is = rw add-one (by es i lt is)
  where
    by : (es : List ExprIR) (i : ℕ) → i < length es → e ≡ get_or es i e → (any_reads (exprs_of (named_trees f (take i es))) n || reads_column n (f e.node)) ≡ any_reads (exprs_of (named_trees f (take (suc i) es))) n
    by [] i lt is = absurd (omega arith)
    by (x ∷ es) zero lt is = ap (λ (y : ExprIR). reads_column n (f y.node)) is ∙ or_none (reads_column n (f x.node))
    by (x ∷ es) (suc i) lt is =
        sym (assoc (reads_column n (f x.node)) (any_reads (exprs_of (named_trees f (take i es))) n) (reads_column n (f e.node))) ∙ ap (λ b. reads_column n (f x.node) || b) (by es i (omega arith) is)

pub places_more : (f : Node → Tree) (s : Fields) (es : List ExprIR) (i : ℕ) (e : ExprIR) (places : BTreeSet ℕ) → i < length es → e ≡ get_or es i e
    → ArePlacesOf s (λ n. any_reads (exprs_of (named_trees f (take i es))) n || reads_column n (f e.node)) places → ArePlacesOf s (any_reads (exprs_of (named_trees f (take (i + 1) es)))) places
places_more f s es i e places lt is h =
    places_as s (λ n. any_reads (exprs_of (named_trees f (take i es))) n || reads_column n (f e.node)) (any_reads (exprs_of (named_trees f (take (i + 1) es)))) places (λ n. any_more f n es i e lt is) h

pub places_end : (f : Node → Tree) (s : Fields) (es : List ExprIR) (i : ℕ) (places : BTreeSet ℕ) → length es ≤ i → ArePlacesOf s (any_reads (exprs_of (named_trees f (take i es)))) places → ArePlacesOf s (any_reads (exprs_of (named_trees f es))) places
places_end f s es i places le h = subst (λ (xs : List ExprIR). ArePlacesOf s (any_reads (exprs_of (named_trees f xs))) places) (take_all i es le) h

-- the names that pass, of a front and one more
filter_more : (p : Name → Bool) (ns : List Name) (i : ℕ) (n : Name) → slice_get ns i ≡ Some n → filter p (take (i + 1) ns) ≡ filter p (take i ns) ++ cond (p n) (n ∷ []) []
filter_more p ns i n e = rw add-one (by ns i e)
  where
    keeps : (b : Bool) (m : Name) (xs ys : List Name) → cond b (m ∷ (xs ++ ys)) (xs ++ ys) ≡ cond b (m ∷ xs) xs ++ ys
    keeps true m xs ys = refl
    keeps false m xs ys = refl

    by : (ns : List Name) (i : ℕ) → slice_get ns i ≡ Some n → filter p (take (suc i) ns) ≡ filter p (take i ns) ++ cond (p n) (n ∷ []) []
    by [] i e = cc
    by (m ∷ ns) zero e = ap (λ k. cond (p k) (k ∷ []) []) (same_Some m n e)
    by (m ∷ ns) (suc i) e = ap (λ xs. cond (p m) (m ∷ xs) xs) (by ns i e) ∙ keeps (p m) m (filter p (take i ns)) (cond (p n) (n ∷ []) [])

name_there : (s : Fields) (i : ℕ) (n : Name) → option_map (λ (f : Name × DataType). f.0) (slice_get s i) ≡ Some n → slice_get (names_of s) i ≡ Some n
name_there [] i n e = cc
name_there (f ∷ s) zero n e = e
name_there (f ∷ s) (suc i) n e = name_there s i n e

module _ (s : Fields) (p : Name → Bool) (places : BTreeSet ℕ) (i : ℕ) (n : Name) (at : option_map (λ (f : Name × DataType). f.0) (slice_get s i) ≡ Some n) (h : ArePlacesOf s p places) where
  name_read : (now next : List Name) → contains nat_cmp places i ≡ true → next ≡ now ++ n ∷ [] → now ≡ filter p (take i (names_of s)) → next ≡ filter p (take (i + 1) (names_of s))
  name_read now next is e w =
      e ∙ ap (λ xs. xs ++ n ∷ []) w ∙ ap (λ b. filter p (take i (names_of s)) ++ cond b (n ∷ []) []) (sym is ∙ h i n (name_there s i n at)) ∙ sym (filter_more p (names_of s) i n (name_there s i n at))

  name_skipped : (now : List Name) → contains nat_cmp places i ≡ false → now ≡ filter p (take i (names_of s)) → now ≡ filter p (take (i + 1) (names_of s))
  name_skipped now is w =
      w ∙ sym (append-nil (filter p (take i (names_of s)))) ∙ ap (λ b. filter p (take i (names_of s)) ++ cond b (n ∷ []) []) (sym is ∙ h i n (name_there s i n at)) ∙ sym (filter_more p (names_of s) i n (name_there s i n at))

  -- a name is put at the end, if its place is there
  pub name_pushed : (b : Bool) (now next : List Name) → b ≡ contains nat_cmp places i → next ≡ cond b (now ++ n ∷ []) now → now ≡ filter p (take i (names_of s)) → next ≡ filter p (take (i + 1) (names_of s))
  name_pushed true now next is e w = name_read now next (sym is) e w
  name_pushed false now next is e w = e ∙ name_skipped now (sym is) w

names_length : (s : Fields) → length (names_of s) ≡ length s
names_length [] = refl
names_length (f ∷ s) = ap suc (names_length s)

pub names_end : (s : Fields) (p : Name → Bool) (i : ℕ) (ns : List Name) → length s ≤ i → ns ≡ filter p (take i (names_of s)) → ns ≡ filter p (names_of s)
names_end s p i ns le e = let l = names_length s in e ∙ ap (λ xs. filter p xs) (take_all i (names_of s) (omega arith))

any_named : (n : Name) (es : List Named) → any_reads (exprs_of es) n ≡ list_any (λ (e : Named). reads_column n e.1) es
any_named n [] = refl
any_named n (e ∷ es) = ap (λ b. reads_column n e.1 || b) (any_named n es)

filter_same : (p q : Name → Bool) → ((n : Name) → p n ≡ q n) → (ns : List Name) → filter p ns ≡ filter q ns
filter_same p q same [] = refl
filter_same p q same (n ∷ ns) = λ j. cond (same n j) (n ∷ filter_same p q same ns j) (filter_same p q same ns j)

-- the names at the places of the columns that expressions read
pub names_as_read : (es : List Named) (s : Fields) (ns : List Name) → ns ≡ filter (any_reads (exprs_of es)) (names_of s) → ns ≡ names_read es s
names_as_read es s ns e = e ∙ filter_same (any_reads (exprs_of es)) (λ n. list_any (λ (e : Named). reads_column n e.1) es) (λ n. any_named n es) (names_of s)

pub full_first : (ns ms : List Name) (b : Bool) → b ≡ nat_eq (length ns) 0 → b ≡ false → ns ≡ or_first ns ms
full_first [] ms b is e = cc
full_first (n ∷ ns) ms b is e = refl

pub empty_first : (ns : List Name) (b : Bool) → b ≡ nat_eq (length ns) 0 → b ≡ true → ns ≡ []
empty_first [] b is e = refl
empty_first (n ∷ ns) b is e = let none = eqb-suc-zero (length ns) in cc

pub with_first : (now next : List Name) (s : Fields) (n : Name) → now ≡ [] → option_map (λ (f : Name × DataType). f.0) (slice_get s 0) ≡ Some n → next ≡ now ++ n ∷ [] → next ≡ or_first now (names_of s)
with_first now next s n none e w = w ∙ ap (λ xs. xs ++ n ∷ []) none ∙ by s e ∙ ap (λ xs. or_first xs (names_of s)) (sym none)
  where
    by : (s : Fields) → option_map (λ (f : Name × DataType). f.0) (slice_get s 0) ≡ Some n → n ∷ [] ≡ or_first [] (names_of s)
    by [] e = cc
    by (f ∷ s) e = ap (λ m. m ∷ []) (sym (same_Some f.0 n e))
