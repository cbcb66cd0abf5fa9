-- A part that is left out stands in the arena under an expression, and the other way round.
use Rattle.std.proofs.Common.{◌≡◌, ℕ, zero, suc, List, [], ◌∷◌, ◌++◌, length, slice_get, refl, sym, subst, ◌∙◌, ap, arith, inl, inr}
use Rattle.std.specs.Prelude.{Contains, ◌⊎◌, Option, Some, None}
use Rattle.std.specs.List.{AllByRecursion}
use Rattle.std.proofs.lemmas.List.Elements.{Contains-append_cases, Contains-append_left, Contains-append_right}
use Rattle.pu_base.specs.declared.arena.Node.{Node}
use Rattle.ps_frame.proofs.Unfolding.{tree_at-entry}
use Rattle.ps_frame.specs.Parts.{tree_parts, trees_parts}
use Rattle.ps_frame.specs.Trees.{AreComplete, IsComplete, Tree, aggregate_tree, entry_tree, tree_at, tree_within, trees_of}
use Rattle.ps_frame.specs.declared.expr.AExpr.{AExpr}
use Rattle.ps_frame.specs.declared.expr.AExpr.TheVariants as expr
use Rattle.ps_frame.specs.declared.expr.IRAggExpr.{IRAggExpr}
use Rattle.ps_frame.specs.declared.expr.IRAggExpr.TheVariants as agg
use Rattle.ps_frame.specs.declared.expr.What.{What}
use Rattle.ps_plan.specs.Graph.{Path, aggregate_operand, here, named_by, onward, operands, operands_at}
use Rattle.ps_plan.specs.Plans.{Plan}
use Rattle.ps_plan.proofs.Complete.{numbers}
use Rattle.ps_meaning.proofs.Containing.{contains-first, contains-later}

-- the first item, or a later one
pub first-or-later : {A : Type 0} (x : A) (xs : List A) (y : A) → Contains (x ∷ xs) y → (x ≡ y) ⊎ Contains xs y
first-or-later x xs y (zero, h, e) = inl e
first-or-later x xs y (suc k, h, e) = inr (k, omega (arith, h), e)

pub no-item : {A : Type 0} (y : A) → Contains [] y → ⊥
no-item y (k, h, e) = omega (arith, h)

-- an operand of the entry that holds the part
abbrev HeldBelow : (Node → Tree) → AExpr → What → Type 0
HeldBelow f x w = (m : Node) × Contains (numbers (operands x)) m.0 × Contains (tree_parts (f m)) (Tree.left_out w)

module _ (f : Node → Tree) (w : What) where
  abbrev left : Tree
  left = Tree.left_out w

  list-holds : (ns : List Node) → Contains (trees_parts (trees_of f ns)) left → (m : Node) × Contains (numbers ns) m.0 × Contains (tree_parts (f m)) left
  list-holds [] c = absurd (no-item left c)
  list-holds (n ∷ ns) c =
      elim (Contains-append_cases (tree_parts (f n)) (trees_parts (trees_of f ns)) left c) [
        | inl h ↦ (n, contains-first n.0 (numbers ns), h)
        | inr h ↦ (let deeper = list-holds ns h in (deeper.0, contains-later n.0 deeper.0.0 (numbers ns) deeper.1, deeper.2))
      ]

  alone : (t : Tree) → (t ≡ left → ⊥) → Contains (t ∷ []) left → ⊥
  alone t other c = elim (first-or-later t [] left c) [ inl h ↦ other h | inr h ↦ no-item left h ]

  below : (t : Tree) (ts : List Tree) → (t ≡ left → ⊥) → Contains (t ∷ ts) left → Contains ts left
  below t ts other c = elim (first-or-later t ts left c) [ inl h ↦ absurd (other h) | inr h ↦ h ]

  two-hold : (x : AExpr) (l r : Node) → operands x ≡ l ∷ r ∷ [] → Contains (tree_parts (f l) ++ tree_parts (f r)) left → HeldBelow f x w
  two-hold x l r is c =
      elim (Contains-append_cases (tree_parts (f l)) (tree_parts (f r)) left c) [
        | inl h ↦ (l, subst (λ ns. Contains (numbers ns) l.0) (sym is) (0, omega arith, refl), h)
        | inr h ↦ (r, subst (λ ns. Contains (numbers ns) r.0) (sym is) (1, omega arith, refl), h)
      ]

  three-hold : (x : AExpr) (a b c : Node) → operands x ≡ a ∷ b ∷ c ∷ [] → Contains (tree_parts (f a) ++ (tree_parts (f b) ++ tree_parts (f c))) left → HeldBelow f x w
  three-hold x a b c is h =
      elim (Contains-append_cases (tree_parts (f a)) (tree_parts (f b) ++ tree_parts (f c)) left h) [
        | inl p ↦ (a, subst (λ ns. Contains (numbers ns) a.0) (sym is) (0, omega arith, refl), p)
        | inr q ↦ elim (Contains-append_cases (tree_parts (f b)) (tree_parts (f c)) left q) [
          | inl p ↦ (b, subst (λ ns. Contains (numbers ns) b.0) (sym is) (1, omega arith, refl), p)
          | inr p ↦ (c, subst (λ ns. Contains (numbers ns) c.0) (sym is) (2, omega arith, refl), p)
        ]
      ]

  aggregate-holds : (a : IRAggExpr) → Contains (tree_parts (aggregate_tree f a)) left → Contains (tree_parts (f (aggregate_operand a))) left
  aggregate-holds (agg.Min n) c = below _ _ (λ q. cc) c
  aggregate-holds (agg.Max n) c = below _ _ (λ q. cc) c
  aggregate-holds (agg.First n) c = below _ _ (λ q. cc) c
  aggregate-holds (agg.Last n) c = below _ _ (λ q. cc) c
  aggregate-holds (agg.Sum n) c = below _ _ (λ q. cc) c
  aggregate-holds (agg.NUnique n) c = below _ _ (λ q. cc) c
  aggregate-holds (agg.Count n all) c = below _ _ (λ q. cc) c

  entry-holds : (x : AExpr) → Contains (tree_parts (entry_tree f (Some x))) left → (x ≡ expr.LeftOut w) ⊎ HeldBelow f x w
  entry-holds (expr.Column name) c = absurd (alone (Tree.column name) (λ q. cc) c)
  entry-holds (expr.Literal l) c = absurd (alone (Tree.literal l) (λ q. cc) c)
  entry-holds (expr.BinaryExpr l o r) c = inr (two-hold (expr.BinaryExpr l o r) l r refl (below (Tree.binary o (f l) (f r)) (tree_parts (f l) ++ tree_parts (f r)) (λ q. cc) c))
  entry-holds (expr.Cast e k s) c = inr (e, (0, omega arith, refl), below (Tree.cast k s (f e)) (tree_parts (f e)) (λ q. cc) c)
  entry-holds (expr.Sort e d n) c = inr (e, (0, omega arith, refl), below (Tree.sort d n (f e)) (tree_parts (f e)) (λ q. cc) c)
  entry-holds (expr.SortBy e by d n) c =
      inr (elim (Contains-append_cases (tree_parts (f e)) (trees_parts (trees_of f by)) left (below (Tree.sort_by d n (f e) (trees_of f by)) (tree_parts (f e) ++ trees_parts (trees_of f by)) (λ q. cc) c)) [
        | inl h ↦ (e, contains-first e.0 (numbers by), h)
        | inr h ↦ (let deeper = list-holds by h in (deeper.0, contains-later e.0 deeper.0.0 (numbers by) deeper.1, deeper.2))
      ])
  entry-holds (expr.Gather e i s) c = inr (two-hold (expr.Gather e i s) e i refl (below (Tree.gather s (f e) (f i)) (tree_parts (f e) ++ tree_parts (f i)) (λ q. cc) c))
  entry-holds (expr.Filter e by) c = inr (two-hold (expr.Filter e by) e by refl (below (Tree.filter (f e) (f by)) (tree_parts (f e) ++ tree_parts (f by)) (λ q. cc) c))
  entry-holds (expr.Agg a) c = inr (aggregate_operand a, (0, omega arith, refl), aggregate-holds a c)
  entry-holds (expr.Ternary p a b) c = inr (three-hold (expr.Ternary p a b) p a b refl (below (Tree.ternary (f p) (f a) (f b)) (tree_parts (f p) ++ (tree_parts (f a) ++ tree_parts (f b))) (λ q. cc) c))
  entry-holds (expr.Function e g) c = inr (e, (0, omega arith, refl), below (Tree.function g (f e)) (tree_parts (f e)) (λ q. cc) c)
  entry-holds (expr.Slice e o l) c = inr (three-hold (expr.Slice e o l) e o l refl (below (Tree.slice (f e) (f o) (f l)) (tree_parts (f e) ++ (tree_parts (f o) ++ tree_parts (f l))) (λ q. cc) c))
  entry-holds expr.Len c = absurd (alone Tree.len (λ q. cc) c)
  entry-holds (expr.LeftOut v) c = elim (first-or-later (Tree.left_out v) [] left c) [ inl h ↦ (let same : v ≡ w = cc in inl (ap expr.LeftOut same)) | inr h ↦ absurd (no-item left h) ]

-- where the part stands in the arena
abbrev pub StandsBelow : Plan → ℕ → What → Type 0
StandsBelow plan n w = (e : ℕ) × Path (operands_at plan) n e × (slice_get plan.exprs e ≡ Some (expr.LeftOut w))

module _ (plan : Plan) (w : What) where
  missing-holds : Contains (Tree.missing ∷ []) (Tree.left_out w) → ⊥
  missing-holds c = elim (first-or-later Tree.missing [] (Tree.left_out w) c) [ inl h ↦ cc | inr h ↦ no-item (Tree.left_out w) h ]

  found-holds : (f : Node → Tree) (n : ℕ) (o : Option AExpr) → slice_get plan.exprs n ≡ o → Contains (tree_parts (entry_tree f o)) (Tree.left_out w) → ((m : Node) → Contains (tree_parts (f m)) (Tree.left_out w) → StandsBelow plan m.0 w) → StandsBelow plan n w
  found-holds f n None is c deeper = absurd (missing-holds c)
  found-holds f n (Some x) is c deeper =
      elim (entry-holds f w x c) [
        | inl h ↦ (n, here, is ∙ ap Some h)
        | inr h ↦ (let far = deeper h.0 h.2 in (far.0, onward (subst (λ (o : Option AExpr). Contains (named_by operands o) h.0.0) (sym is) h.1) far.1, far.2))
      ]

  within-holds : (d : ℕ) (n : Node) → Contains (tree_parts (tree_within d plan.exprs n)) (Tree.left_out w) → StandsBelow plan n.0 w
  unfolding tree_within
  within-holds zero n c = absurd (missing-holds c)
  within-holds (suc d) n c = found-holds (tree_within d plan.exprs) n.0 (slice_get plan.exprs n.0) refl c (λ m h. within-holds d m h)

  pub tree-holds : (n : Node) → Contains (tree_parts (tree_at plan.exprs n)) (Tree.left_out w) → StandsBelow plan n.0 w
  tree-holds n c = within-holds (length plan.exprs) n c

-- the other way: what an operand holds the entry holds
module _ (f : Node → Tree) where
  abbrev IsBelow : Tree → Node → Type 0
  IsBelow t m = IsComplete (f m) × ((x : Tree) → Contains (tree_parts (f m)) x → Contains (tree_parts t) x)

  later : (t : Tree) (us : List Tree) (x : Tree) → Contains us x → Contains (t ∷ us) x
  later t us x c = contains-later t x us c

  list-below : (t : Tree) (ns : List Node) → AreComplete (trees_of f ns) → ((x : Tree) → Contains (trees_parts (trees_of f ns)) x → Contains (tree_parts t) x) → AllByRecursion (IsBelow t) ns
  list-below t [] h up = tt
  list-below t (n ∷ ns) h up = ((h.0, λ x c. up x (Contains-append_left (tree_parts (f n)) (trees_parts (trees_of f ns)) x c)), list-below t ns h.1 (λ x c. up x (Contains-append_right (tree_parts (f n)) (trees_parts (trees_of f ns)) x c)))

  one-below : (t : Tree) (n : Node) → IsComplete (f n) → ((x : Tree) → Contains (tree_parts (f n)) x → Contains (tree_parts t) x) → AllByRecursion (IsBelow t) (n ∷ [])
  one-below t n h up = ((h, up), tt)

  two-below : (t : Tree) (l r : Node) → IsComplete (f l) → IsComplete (f r) → ((x : Tree) → Contains (tree_parts (f l) ++ tree_parts (f r)) x → Contains (tree_parts t) x) → AllByRecursion (IsBelow t) (l ∷ r ∷ [])
  two-below t l r h g up = ((h, λ x c. up x (Contains-append_left (tree_parts (f l)) (tree_parts (f r)) x c)), one-below t r g (λ x c. up x (Contains-append_right (tree_parts (f l)) (tree_parts (f r)) x c)))

  three-below : (t : Tree) (a b c : Node) → IsComplete (f a) → IsComplete (f b) → IsComplete (f c) → ((x : Tree) → Contains (tree_parts (f a) ++ (tree_parts (f b) ++ tree_parts (f c))) x → Contains (tree_parts t) x) → AllByRecursion (IsBelow t) (a ∷ b ∷ c ∷ [])
  three-below t a b c h g k up =
      ((h, λ x p. up x (Contains-append_left (tree_parts (f a)) (tree_parts (f b) ++ tree_parts (f c)) x p)), two-below t b c g k (λ x p. up x (Contains-append_right (tree_parts (f a)) (tree_parts (f b) ++ tree_parts (f c)) x p)))

  aggregate-below : (a : IRAggExpr) → IsComplete (aggregate_tree f a) → AllByRecursion (IsBelow (aggregate_tree f a)) (aggregate_operand a ∷ [])
  aggregate-below (agg.Min n) h = one-below (aggregate_tree f (agg.Min n)) n h (λ x c. later (aggregate_tree f (agg.Min n)) (tree_parts (f n)) x c)
  aggregate-below (agg.Max n) h = one-below (aggregate_tree f (agg.Max n)) n h (λ x c. later (aggregate_tree f (agg.Max n)) (tree_parts (f n)) x c)
  aggregate-below (agg.First n) h = one-below (aggregate_tree f (agg.First n)) n h (λ x c. later (aggregate_tree f (agg.First n)) (tree_parts (f n)) x c)
  aggregate-below (agg.Last n) h = one-below (aggregate_tree f (agg.Last n)) n h (λ x c. later (aggregate_tree f (agg.Last n)) (tree_parts (f n)) x c)
  aggregate-below (agg.Sum n) h = one-below (aggregate_tree f (agg.Sum n)) n h (λ x c. later (aggregate_tree f (agg.Sum n)) (tree_parts (f n)) x c)
  aggregate-below (agg.NUnique n) h = one-below (aggregate_tree f (agg.NUnique n)) n h (λ x c. later (aggregate_tree f (agg.NUnique n)) (tree_parts (f n)) x c)
  aggregate-below (agg.Count n all) h = one-below (aggregate_tree f (agg.Count n all)) n h (λ x c. later (aggregate_tree f (agg.Count n all)) (tree_parts (f n)) x c)

  entry-below : (x : AExpr) → IsComplete (entry_tree f (Some x)) → AllByRecursion (IsBelow (entry_tree f (Some x))) (operands x)
  entry-below (expr.Column name) h = tt
  entry-below (expr.Literal l) h = tt
  entry-below (expr.BinaryExpr l o r) h = two-below (Tree.binary o (f l) (f r)) l r h.0 h.1 (λ x c. later (Tree.binary o (f l) (f r)) (tree_parts (f l) ++ tree_parts (f r)) x c)
  entry-below (expr.Cast e k s) h = one-below (Tree.cast k s (f e)) e h (λ x c. later (Tree.cast k s (f e)) (tree_parts (f e)) x c)
  entry-below (expr.Sort e d n) h = one-below (Tree.sort d n (f e)) e h (λ x c. later (Tree.sort d n (f e)) (tree_parts (f e)) x c)
  entry-below (expr.SortBy e by d n) h =
      ((h.0, λ x c. later (Tree.sort_by d n (f e) (trees_of f by)) (tree_parts (f e) ++ trees_parts (trees_of f by)) x (Contains-append_left (tree_parts (f e)) (trees_parts (trees_of f by)) x c)), list-below (Tree.sort_by d n (f e) (trees_of f by)) by h.1 (λ x c. later (Tree.sort_by d n (f e) (trees_of f by)) (tree_parts (f e) ++ trees_parts (trees_of f by)) x (Contains-append_right (tree_parts (f e)) (trees_parts (trees_of f by)) x c)))
  entry-below (expr.Gather e i s) h = two-below (Tree.gather s (f e) (f i)) e i h.0 h.1 (λ x c. later (Tree.gather s (f e) (f i)) (tree_parts (f e) ++ tree_parts (f i)) x c)
  entry-below (expr.Filter e by) h = two-below (Tree.filter (f e) (f by)) e by h.0 h.1 (λ x c. later (Tree.filter (f e) (f by)) (tree_parts (f e) ++ tree_parts (f by)) x c)
  entry-below (expr.Agg a) h = aggregate-below a h
  entry-below (expr.Ternary p a b) h = three-below (Tree.ternary (f p) (f a) (f b)) p a b h.0 h.1 h.2 (λ x c. later (Tree.ternary (f p) (f a) (f b)) (tree_parts (f p) ++ (tree_parts (f a) ++ tree_parts (f b))) x c)
  entry-below (expr.Function e g) h = one-below (Tree.function g (f e)) e h (λ x c. later (Tree.function g (f e)) (tree_parts (f e)) x c)
  entry-below (expr.Slice e o l) h = three-below (Tree.slice (f e) (f o) (f l)) e o l h.0 h.1 h.2 (λ x c. later (Tree.slice (f e) (f o) (f l)) (tree_parts (f e) ++ (tree_parts (f o) ++ tree_parts (f l))) x c)
  entry-below expr.Len h = tt
  entry-below (expr.LeftOut w) h = tt

  among-below : (t : Tree) (m : ℕ) (ns : List Node) → AllByRecursion (IsBelow t) ns → Contains (numbers ns) m → IsBelow t (record { 0 = m })
  among-below t m [] all c = absurd (no-item m c)
  among-below t m (n ∷ ns) all c = elim (first-or-later n.0 (numbers ns) m c) [ inl e ↦ subst (λ (k : ℕ). IsBelow t (record { 0 = k })) e all.0 | inr d ↦ among-below t m ns all.1 d ]

  found-below : (o : Option AExpr) (m : ℕ) → IsComplete (entry_tree f o) → Contains (named_by operands o) m → IsBelow (entry_tree f o) (record { 0 = m })
  found-below None m h c = absurd (no-item m c)
  found-below (Some x) m h c = among-below (entry_tree f (Some x)) m (operands x) (entry-below x h) c

module _ (plan : Plan) (w : What) where
  abbrev at-number : ℕ → Tree
  at-number n = tree_at plan.exprs (record { 0 = n })

  pub held-above : {n e : ℕ} → Path (operands_at plan) n e → IsComplete (at-number n) → slice_get plan.exprs e ≡ Some (expr.LeftOut w) → Contains (tree_parts (at-number n)) (Tree.left_out w)
  held-above {n} here h is = subst (λ t. Contains (tree_parts t) (Tree.left_out w)) (sym (tree_at-entry plan.exprs (record { 0 = n }) h ∙ ap (entry_tree (tree_at plan.exprs)) is)) (contains-first (Tree.left_out w) [])
  held-above {n} (onward {b = b} c way) h is =
      let q = tree_at-entry plan.exprs (record { 0 = n }) h in
      let step = found-below (tree_at plan.exprs) (slice_get plan.exprs n) b (subst IsComplete q h) c in
      subst (λ t. Contains (tree_parts t) (Tree.left_out w)) (sym q) (step.1 (Tree.left_out w) (held-above way step.0 is))
