-- Parts of parts of an expression.
use Rattle.std.proofs.Common.{◌≡◌, ◌⊎◌, inl, inr, Bool, true, false, List, [], ◌∷◌, ◌++◌, refl, sym, ap, subst, ◌∙◌}
use Rattle.std.specs.Prelude.{◌&&◌, ◌||◌}
use Rattle.std.specs.List.{list_any}
use Rattle.ps_frame.specs.Parts.{is_column_of, reads_column, tree_parts, trees_parts}
use Rattle.ps_frame.specs.Trees.{Tree, Trees}
use Rattle.ps_frame.specs.Typing.{every_part, every_part_of_all}
use Rattle.ps_meaning.specs.Steps.{Name}
use Rattle.ps_shares.proofs.Ends.{has_either, has_first}
use Rattle.ps_shares.proofs.FlatLength.{both_hold}
use Rattle.ps_shares.proofs.Members.{Has}
use Rattle.ps_bundles.proofs.Gathered.{has_last}
use Rattle.ps_bundles.proofs.Reading.{or_first, or_last}
use Rattle.ps_bundles.proofs.ZipEnds.{differ}

one_in : (xs ys : List Tree) (p : Tree) (Q : Type 0) → Has (xs ++ ys) p → (Has xs p → Q) → (Has ys p → Q) → Q
one_in xs ys p Q h f g = by (has_either xs ys p h)
  where
    by : Has xs p ⊎ Has ys p → Q
    by (inl k) = f k
    by (inr k) = g k

-- an expression is the first of its parts
pub own_part : (e : Tree) → Has (tree_parts e) e
own_part (Tree.column name) = inl refl
own_part (Tree.literal l) = inl refl
own_part (Tree.binary o l r) = inl refl
own_part (Tree.cast k strict e) = inl refl
own_part (Tree.sort d n e) = inl refl
own_part (Tree.sort_by d n e by) = inl refl
own_part (Tree.gather s e i) = inl refl
own_part (Tree.filter e by) = inl refl
own_part (Tree.aggregate a e) = inl refl
own_part (Tree.ternary p a b) = inl refl
own_part (Tree.function g e) = inl refl
own_part (Tree.slice e o l) = inl refl
own_part Tree.len = inl refl
own_part (Tree.left_out w) = inl refl
own_part Tree.missing = inl refl

-- what holds of each part of an expression holds of each part of a part
module _ (test : Tree → Bool) where
  own_or : (e : Tree) (rest : List Tree) (p : Tree) → every_part test e ≡ true → (e ≡ p) ⊎ Has rest p → (Has rest p → every_part test p ≡ true) → every_part test p ≡ true
  own_or e rest p t (inl s) f = ap (every_part test) (sym s) ∙ t
  own_or e rest p t (inr h) f = f h

  mutual
    pub part_passes : (e p : Tree) → every_part test e ≡ true → Has (tree_parts e) p → every_part test p ≡ true
    part_passes (Tree.column name) p t h = own_or (Tree.column name) [] p t h (λ x. absurd x)
    part_passes (Tree.literal l) p t h = own_or (Tree.literal l) [] p t h (λ x. absurd x)
    part_passes (Tree.binary o l r) p t h =
        let a = both_hold (test (Tree.binary o l r)) (every_part test l && every_part test r) t in
        let b = both_hold (every_part test l) (every_part test r) a.1 in
        own_or (Tree.binary o l r) (tree_parts l ++ tree_parts r) p t h (λ x. one_in (tree_parts l) (tree_parts r) p (every_part test p ≡ true) x (part_passes l p b.0) (part_passes r p b.1))
    part_passes (Tree.cast k strict e) p t h =
        let a = both_hold (test (Tree.cast k strict e)) (every_part test e) t in
        own_or (Tree.cast k strict e) (tree_parts e) p t h (part_passes e p a.1)
    part_passes (Tree.sort d n e) p t h =
        let a = both_hold (test (Tree.sort d n e)) (every_part test e) t in
        own_or (Tree.sort d n e) (tree_parts e) p t h (part_passes e p a.1)
    part_passes (Tree.sort_by d n e by) p t h =
        let a = both_hold (test (Tree.sort_by d n e by)) (every_part test e && every_part_of_all test by) t in
        let b = both_hold (every_part test e) (every_part_of_all test by) a.1 in
        own_or (Tree.sort_by d n e by) (tree_parts e ++ trees_parts by) p t h (λ x. one_in (tree_parts e) (trees_parts by) p (every_part test p ≡ true) x (part_passes e p b.0) (parts_pass by p b.1))
    part_passes (Tree.gather s e i) p t h =
        let a = both_hold (test (Tree.gather s e i)) (every_part test e && every_part test i) t in
        let b = both_hold (every_part test e) (every_part test i) a.1 in
        own_or (Tree.gather s e i) (tree_parts e ++ tree_parts i) p t h (λ x. one_in (tree_parts e) (tree_parts i) p (every_part test p ≡ true) x (part_passes e p b.0) (part_passes i p b.1))
    part_passes (Tree.filter e by) p t h =
        let a = both_hold (test (Tree.filter e by)) (every_part test e && every_part test by) t in
        let b = both_hold (every_part test e) (every_part test by) a.1 in
        own_or (Tree.filter e by) (tree_parts e ++ tree_parts by) p t h (λ x. one_in (tree_parts e) (tree_parts by) p (every_part test p ≡ true) x (part_passes e p b.0) (part_passes by p b.1))
    part_passes (Tree.aggregate k e) p t h =
        let a = both_hold (test (Tree.aggregate k e)) (every_part test e) t in
        own_or (Tree.aggregate k e) (tree_parts e) p t h (part_passes e p a.1)
    part_passes (Tree.ternary q x y) p t h =
        let a = both_hold (test (Tree.ternary q x y)) (every_part test q && (every_part test x && every_part test y)) t in
        let b = both_hold (every_part test q) (every_part test x && every_part test y) a.1 in
        let c = both_hold (every_part test x) (every_part test y) b.1 in
        own_or (Tree.ternary q x y) (tree_parts q ++ (tree_parts x ++ tree_parts y)) p t h (λ u.
        one_in (tree_parts q) (tree_parts x ++ tree_parts y) p (every_part test p ≡ true) u (part_passes q p b.0) (λ v.
        one_in (tree_parts x) (tree_parts y) p (every_part test p ≡ true) v (part_passes x p c.0) (part_passes y p c.1)))
    part_passes (Tree.function g e) p t h =
        let a = both_hold (test (Tree.function g e)) (every_part test e) t in
        own_or (Tree.function g e) (tree_parts e) p t h (part_passes e p a.1)
    part_passes (Tree.slice e o l) p t h =
        let a = both_hold (test (Tree.slice e o l)) (every_part test e && (every_part test o && every_part test l)) t in
        let b = both_hold (every_part test e) (every_part test o && every_part test l) a.1 in
        let c = both_hold (every_part test o) (every_part test l) b.1 in
        own_or (Tree.slice e o l) (tree_parts e ++ (tree_parts o ++ tree_parts l)) p t h (λ u.
        one_in (tree_parts e) (tree_parts o ++ tree_parts l) p (every_part test p ≡ true) u (part_passes e p b.0) (λ v.
        one_in (tree_parts o) (tree_parts l) p (every_part test p ≡ true) v (part_passes o p c.0) (part_passes l p c.1)))
    part_passes Tree.len p t h = own_or Tree.len [] p t h (λ x. absurd x)
    part_passes (Tree.left_out w) p t h = own_or (Tree.left_out w) [] p t h (λ x. absurd x)
    part_passes Tree.missing p t h = own_or Tree.missing [] p t h (λ x. absurd x)

    parts_pass : (es : Trees) (p : Tree) → every_part_of_all test es ≡ true → Has (trees_parts es) p → every_part test p ≡ true
    parts_pass Trees.no_trees p t h = absurd h
    parts_pass (Trees.tree e es) p t h =
        let b = both_hold (every_part test e) (every_part_of_all test es) t in
        one_in (tree_parts e) (trees_parts es) p (every_part test p ≡ true) h (part_passes e p b.0) (parts_pass es p b.1)

-- a part of a part is a part
module _ (p q : Tree) (k : Has (tree_parts p) q) where
  there_or : (e : Tree) (rest : List Tree) → Has (tree_parts e) e → tree_parts e ≡ e ∷ rest → (e ≡ p) ⊎ Has rest p → (Has rest p → Has rest q) → Has (tree_parts e) q
  there_or e rest own is (inl s) f = subst (λ t. Has (tree_parts t) q) (sym s) k
  there_or e rest own is (inr h) f = subst (λ xs. Has xs q) (sym is) (inr (f h))

  in_both : (xs ys : List Tree) → (Has xs p → Has xs q) → (Has ys p → Has ys q) → Has (xs ++ ys) p → Has (xs ++ ys) q
  in_both xs ys f g h = one_in xs ys p (Has (xs ++ ys) q) h (λ x. has_first xs ys q (f x)) (λ y. has_last xs ys q (g y))

  mutual
    pub part_of_part : (e : Tree) → Has (tree_parts e) p → Has (tree_parts e) q
    part_of_part (Tree.column name) h = there_or (Tree.column name) [] (inl refl) refl h (λ x. absurd x)
    part_of_part (Tree.literal l) h = there_or (Tree.literal l) [] (inl refl) refl h (λ x. absurd x)
    part_of_part (Tree.binary o l r) h = there_or (Tree.binary o l r) (tree_parts l ++ tree_parts r) (inl refl) refl h (in_both (tree_parts l) (tree_parts r) (part_of_part l) (part_of_part r))
    part_of_part (Tree.cast c strict e) h = there_or (Tree.cast c strict e) (tree_parts e) (inl refl) refl h (part_of_part e)
    part_of_part (Tree.sort d n e) h = there_or (Tree.sort d n e) (tree_parts e) (inl refl) refl h (part_of_part e)
    part_of_part (Tree.sort_by d n e by) h = there_or (Tree.sort_by d n e by) (tree_parts e ++ trees_parts by) (inl refl) refl h (in_both (tree_parts e) (trees_parts by) (part_of_part e) (part_of_parts by))
    part_of_part (Tree.gather s e i) h = there_or (Tree.gather s e i) (tree_parts e ++ tree_parts i) (inl refl) refl h (in_both (tree_parts e) (tree_parts i) (part_of_part e) (part_of_part i))
    part_of_part (Tree.filter e by) h = there_or (Tree.filter e by) (tree_parts e ++ tree_parts by) (inl refl) refl h (in_both (tree_parts e) (tree_parts by) (part_of_part e) (part_of_part by))
    part_of_part (Tree.aggregate a e) h = there_or (Tree.aggregate a e) (tree_parts e) (inl refl) refl h (part_of_part e)
    part_of_part (Tree.ternary c x y) h =
        there_or (Tree.ternary c x y) (tree_parts c ++ (tree_parts x ++ tree_parts y)) (inl refl) refl h
        (in_both (tree_parts c) (tree_parts x ++ tree_parts y) (part_of_part c) (in_both (tree_parts x) (tree_parts y) (part_of_part x) (part_of_part y)))
    part_of_part (Tree.function g e) h = there_or (Tree.function g e) (tree_parts e) (inl refl) refl h (part_of_part e)
    part_of_part (Tree.slice e o l) h =
        there_or (Tree.slice e o l) (tree_parts e ++ (tree_parts o ++ tree_parts l)) (inl refl) refl h
        (in_both (tree_parts e) (tree_parts o ++ tree_parts l) (part_of_part e) (in_both (tree_parts o) (tree_parts l) (part_of_part o) (part_of_part l)))
    part_of_part Tree.len h = there_or Tree.len [] (inl refl) refl h (λ x. absurd x)
    part_of_part (Tree.left_out w) h = there_or (Tree.left_out w) [] (inl refl) refl h (λ x. absurd x)
    part_of_part Tree.missing h = there_or Tree.missing [] (inl refl) refl h (λ x. absurd x)

    pub part_of_parts : (es : Trees) → Has (trees_parts es) p → Has (trees_parts es) q
    part_of_parts Trees.no_trees h = absurd h
    part_of_parts (Trees.tree e es) h = in_both (tree_parts e) (trees_parts es) (part_of_part e) (part_of_parts es) h

-- what a part reads the expression reads
any_has : (test : Tree → Bool) (xs : List Tree) → list_any test xs ≡ true → (x : Tree) × Has xs x × (test x ≡ true)
any_has test [] h = absurd (differ (sym h))
any_has test (x ∷ xs) h = by (test x) refl (any_has test xs)
  where
    by : (b : Bool) → test x ≡ b → (list_any test xs ≡ true → (y : Tree) × Has xs y × (test y ≡ true)) → (y : Tree) × Has (x ∷ xs) y × (test y ≡ true)
    by true q rest = (x, inl refl, q)
    by false q rest = let r = rest (sym (ap (λ b. b || list_any test xs) q) ∙ h) in (r.0, inr r.1, r.2)

has_any : (test : Tree → Bool) (xs : List Tree) (x : Tree) → Has xs x → test x ≡ true → list_any test xs ≡ true
has_any test [] x h t = absurd h
has_any test (y ∷ xs) x (inl e) t = or_first (test y) (list_any test xs) (ap test e ∙ t)
has_any test (y ∷ xs) x (inr h) t = or_last (test y) (list_any test xs) (has_any test xs x h t)

pub part_reads : (n : Name) (e p : Tree) → Has (tree_parts e) p → reads_column n p ≡ true → reads_column n e ≡ true
part_reads n e p h r =
    let w = any_has (is_column_of n) (tree_parts p) r in
    has_any (is_column_of n) (tree_parts e) w.0 (part_of_part p w.0 w.1 e h) w.2
