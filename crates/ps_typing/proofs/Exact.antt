-- An expression that is refused has no kind.
use Rattle.std.proofs.Common.{◌≡◌, ◌≢◌, ℕ, zero, suc, ◌<◌, List, [], ◌∷◌, ◌++◌, length, get_or, Bool, true, false, cond, refl, sym, subst, ◌∙◌, ap, arith}
use Rattle.std.specs.Prelude.{not, ◌&&◌, ◌||◌, Option, Some, None, is_some, is_none}
use Rattle.std.specs.List.{list_any}
use Rattle.std.specs.Str.{bytes_eq}
use Rattle.std.proofs.lemmas.Bool.{or_left, or_right}
use Rattle.std.proofs.lemmas.List.Folds.{list_any-append}
use Rattle.std.proofs.lemmas.Slice.Eq.{bytes_eq-Decides}
use Rattle.pu_base.specs.declared.arena.Node.{Node}
use Rattle.ps_frame.specs.Frames.{has_name}
use Rattle.ps_frame.specs.Parts.{is_column_of, some_part, tree_parts, trees_parts}
use Rattle.ps_frame.specs.Refusals.{breaks_rule, is_accepted, is_refused, is_unknown}
use Rattle.ps_frame.specs.Tables.{Fields, field_kind}
use Rattle.ps_frame.specs.Trees.{Tree, Trees}
use Rattle.ps_frame.specs.Typing.{every_part, every_part_of_all, kind_over}
use Rattle.ps_frame.specs.declared.refusal.PolarsError.{PolarsError}
use Rattle.ps_frame.specs.declared.refusal.PolarsError.TheVariants as error
use Rattle.ps_frame.specs.declared.value.DataType.{DataType}
use Rattle.ps_typing.specs.Refused.{IsTypingError}

-- neither this nor those
neither : (a b : Bool) → (not a && not b) ≡ not (a || b)
neither true b = refl
neither false b = refl

node-one : (a b e : Bool) → e ≡ not b → (not a && e) ≡ not (a || b)
node-one a b e p = ap (λ x. not a && x) p ∙ neither a b

node-none : (a : Bool) → not a ≡ not (a || false)
node-none true = refl
node-none false = refl

pair : (q : Tree → Bool) (us vs : List Tree) (e f : Bool) → e ≡ not (list_any q us) → f ≡ not (list_any q vs) → (e && f) ≡ not (list_any q (us ++ vs))
pair q us vs e f p r = ap (λ x. x && f) p ∙ ap (λ x. not (list_any q us) && x) r ∙ neither (list_any q us) (list_any q vs) ∙ ap not (sym (list_any-append q us vs))

-- a test fails at each part exactly where none passes it
mutual
  pub none-passes : (q : Tree → Bool) (t : Tree) → every_part (λ p. not (q p)) t ≡ not (some_part q t)
  none-passes q (Tree.column name) = node-none (q (Tree.column name))
  none-passes q (Tree.literal l) = node-none (q (Tree.literal l))
  none-passes q (Tree.binary o l r) = node-one (q (Tree.binary o l r)) _ _ (pair q (tree_parts l) (tree_parts r) _ _ (none-passes q l) (none-passes q r))
  none-passes q (Tree.cast k s e) = node-one (q (Tree.cast k s e)) _ _ (none-passes q e)
  none-passes q (Tree.sort d n e) = node-one (q (Tree.sort d n e)) _ _ (none-passes q e)
  none-passes q (Tree.sort_by d n e by) = node-one (q (Tree.sort_by d n e by)) _ _ (pair q (tree_parts e) (trees_parts by) _ _ (none-passes q e) (none-passes-all q by))
  none-passes q (Tree.gather s e i) = node-one (q (Tree.gather s e i)) _ _ (pair q (tree_parts e) (tree_parts i) _ _ (none-passes q e) (none-passes q i))
  none-passes q (Tree.filter e by) = node-one (q (Tree.filter e by)) _ _ (pair q (tree_parts e) (tree_parts by) _ _ (none-passes q e) (none-passes q by))
  none-passes q (Tree.aggregate a e) = node-one (q (Tree.aggregate a e)) _ _ (none-passes q e)
  none-passes q (Tree.ternary p a b) = node-one (q (Tree.ternary p a b)) _ _ (pair q (tree_parts p) (tree_parts a ++ tree_parts b) _ _ (none-passes q p) (pair q (tree_parts a) (tree_parts b) _ _ (none-passes q a) (none-passes q b)))
  none-passes q (Tree.function g e) = node-one (q (Tree.function g e)) _ _ (none-passes q e)
  none-passes q (Tree.slice e o l) = node-one (q (Tree.slice e o l)) _ _ (pair q (tree_parts e) (tree_parts o ++ tree_parts l) _ _ (none-passes q e) (pair q (tree_parts o) (tree_parts l) _ _ (none-passes q o) (none-passes q l)))
  none-passes q Tree.len = node-none (q Tree.len)
  none-passes q (Tree.left_out w) = node-none (q (Tree.left_out w))
  none-passes q Tree.missing = node-none (q Tree.missing)

  none-passes-all : (q : Tree → Bool) (ts : Trees) → every_part_of_all (λ p. not (q p)) ts ≡ not (list_any q (trees_parts ts))
  none-passes-all q Trees.no_trees = refl
  none-passes-all q (Trees.tree t ts) = pair q (tree_parts t) (trees_parts ts) _ _ (none-passes q t) (none-passes-all q ts)

-- what one test passes another one does
pub any-weaker : (f q : Tree → Bool) (ts : List Tree) → ((x : Tree) → f x ≡ true → q x ≡ true) → list_any f ts ≡ true → list_any q ts ≡ true
any-weaker f q [] w h = cc
any-weaker f q (t ∷ ts) w h = first-or-later (f t) (q t) (list_any f ts) (list_any q ts) (w t) (λ k. any-weaker f q ts w k) h
  where
    first-or-later : (a b c d : Bool) → (a ≡ true → b ≡ true) → (c ≡ true → d ≡ true) → (a || c) ≡ true → (b || d) ≡ true
    first-or-later true b c d p r h = or_left b d (p refl)
    first-or-later false b c d p r h = or_right b d (r h)

pub any-at : (q : Tree → Bool) (ts : List Tree) (k : ℕ) (x : Tree) → k < length ts → get_or ts k x ≡ x → q x ≡ true → list_any q ts ≡ true
any-at q [] k x h e p = absurd (omega arith)
any-at q (t ∷ ts) zero x h e p = or_left (q t) (list_any q ts) (ap q e ∙ p)
any-at q (t ∷ ts) (suc k) x h e p = or_right (q t) (list_any q ts) (any-at q ts k x (omega arith) e p)

-- a name that a schema lacks has no kind there
lacks-kind : (name : List ℕ) (s : Fields) → has_name name s ≡ false → field_kind name s ≡ None
lacks-kind name [] h = refl
lacks-kind name (f ∷ s) h = go (bytes_eq name f.0) (has_name name s) (field_kind name s) f.1 h (λ k. lacks-kind name s k)
  where
    go : (b c : Bool) (o : Option DataType) (k : DataType) → (b || c) ≡ false → (c ≡ false → o ≡ None) → cond b (Some k) o ≡ None
    go true c o k h r = cc
    go false c o k h r = r h

pub unknown-refused : (name : List ℕ) (s : Fields) → has_name name s ≡ false → (x : Tree) → is_column_of name x ≡ true → is_refused s x ≡ true
unknown-refused name s h (Tree.column other) e =
    or_left (is_unknown s (Tree.column other)) _ (subst (λ n. is_none (field_kind n s) ≡ true) ((bytes_eq-Decides name other).0 e) (ap is_none (lacks-kind name s h)))
unknown-refused name s h (Tree.literal l) e = cc
unknown-refused name s h (Tree.binary o l r) e = cc
unknown-refused name s h (Tree.cast k t x) e = cc
unknown-refused name s h (Tree.sort d n x) e = cc
unknown-refused name s h (Tree.sort_by d n x by) e = cc
unknown-refused name s h (Tree.gather t x i) e = cc
unknown-refused name s h (Tree.filter x by) e = cc
unknown-refused name s h (Tree.aggregate a x) e = cc
unknown-refused name s h (Tree.ternary p a b) e = cc
unknown-refused name s h (Tree.function g x) e = cc
unknown-refused name s h (Tree.slice x o l) e = cc
unknown-refused name s h Tree.len e = cc
unknown-refused name s h (Tree.left_out w) e = cc
unknown-refused name s h Tree.missing e = cc

pub breaks-refused : (s : Fields) (x : Tree) → breaks_rule s x ≡ true → is_refused s x ≡ true
breaks-refused s x e = or_right (is_unknown s x) _ (or_left (breaks_rule s x) _ e)

some-refused : (at : Node) (s : Fields) (t : Tree) (e : PolarsError) → IsTypingError at s t e → e ≢ error.OutOfMemory → some_part (is_refused s) t ≡ true
some-refused at s t (error.ColumnNotFound node name) h ne = any-weaker (is_column_of name) (is_refused s) (tree_parts t) (unknown-refused name s h.2) h.1
some-refused at s t (error.SchemaMismatch node) h ne = any-weaker (breaks_rule s) (is_refused s) (tree_parts t) (breaks-refused s) h.1
some-refused at s t (error.Unsupported node what) h ne = any-at (is_refused s) (tree_parts t) h.1.0 (Tree.left_out what) h.1.1 h.1.2 refl
some-refused at s t error.OutOfMemory h ne = absurd (ne refl)
some-refused at s t (error.InvalidPlan node why) h ne = absurd h
some-refused at s t (error.Duplicate node name) h ne = absurd h
some-refused at s t (error.ComputeError node why) h ne = absurd h
some-refused at s t (error.ShapeMismatch node) h ne = absurd h
some-refused at s t (error.OutOfBounds node why) h ne = absurd h

no-some : (o : Option DataType) → is_some o ≡ false → o ≡ None
no-some None h = refl
no-some (Some k) h = cc

-- so it has no kind, where kinds are exact
pub no-kind : (at : Node) (s : Fields) (t : Tree) (e : PolarsError) → is_some (kind_over s t) ≡ is_accepted s t → IsTypingError at s t e → e ≢ error.OutOfMemory → kind_over s t ≡ None
no-kind at s t e exact h ne = no-some (kind_over s t) (exact ∙ none-passes (is_refused s) t ∙ ap not (some-refused at s t e h ne))

-- where there is a kind, no part is refused
pub none-refused : (s : Fields) (t : Tree) (k : DataType) → is_some (kind_over s t) ≡ is_accepted s t → kind_over s t ≡ Some k → some_part (is_refused s) t ≡ false
none-refused s t k exact h = by (some_part (is_refused s) t) (sym (none-passes (is_refused s) t) ∙ sym exact ∙ ap is_some h)
  where
    by : (b : Bool) → not b ≡ true → b ≡ false
    by true p = sym p
    by false p = refl
