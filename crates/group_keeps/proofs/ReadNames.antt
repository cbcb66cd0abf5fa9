-- What holds of the names that an expression reads.
use Rattle.std.proofs.Common.{◌⊎◌, inl, inr, List, [], ◌∷◌, ◌++◌, subst}
use Rattle.ps_frame.specs.Parts.{tree_parts, trees_parts}
use Rattle.ps_frame.specs.Trees.{Tree, Trees}
use Rattle.ps_meaning.specs.Steps.{Name}
use Rattle.ps_shares.specs.Leaves.{AllReadAll, ReadsAll}
use Rattle.ps_shares.proofs.Ends.{has_either}
use Rattle.ps_shares.proofs.Members.{Has}

module _ (P Q : Name → Type 0) (f : (n : Name) → P n → Q n) where
  mutual
    pub reads_map : (e : Tree) → ReadsAll P e → ReadsAll Q e
    reads_map (Tree.column name) h = f name h
    reads_map (Tree.literal l) h = tt
    reads_map (Tree.binary o l r) h = (reads_map l h.0, reads_map r h.1)
    reads_map (Tree.cast k strict e) h = reads_map e h
    reads_map (Tree.sort d n e) h = reads_map e h
    reads_map (Tree.sort_by d n e by) h = (reads_map e h.0, all_map by h.1)
    reads_map (Tree.gather s e i) h = (reads_map e h.0, reads_map i h.1)
    reads_map (Tree.filter e by) h = (reads_map e h.0, reads_map by h.1)
    reads_map (Tree.aggregate a e) h = reads_map e h
    reads_map (Tree.ternary c a b) h = (reads_map c h.0, reads_map a h.1, reads_map b h.2)
    reads_map (Tree.function g e) h = reads_map e h
    reads_map (Tree.slice e o l) h = (reads_map e h.0, reads_map o h.1, reads_map l h.2)
    reads_map Tree.len h = tt
    reads_map (Tree.left_out w) h = tt
    reads_map Tree.missing h = tt

    all_map : (es : Trees) → AllReadAll P es → AllReadAll Q es
    all_map Trees.no_trees h = tt
    all_map (Trees.tree e es) h = (reads_map e h.0, all_map es h.1)

-- A part of an expression reads what that reads.
module _ (P : Name → Type 0) (p : Tree) where
  itself_or : (e : Tree) (more : List Tree) → ReadsAll P e → (Has more p → ReadsAll P p) → Has (e ∷ more) p → ReadsAll P p
  itself_or e more h rest (inl k) = subst (ReadsAll P) k h
  itself_or e more h rest (inr k) = rest k

  either : (xs ys : List Tree) → (Has xs p → ReadsAll P p) → (Has ys p → ReadsAll P p) → Has (xs ++ ys) p → ReadsAll P p
  either xs ys f g k = by (has_either xs ys p k)
    where
      by : Has xs p ⊎ Has ys p → ReadsAll P p
      by (inl k) = f k
      by (inr k) = g k

  two : (l r : Tree) → (Has (tree_parts l) p → ReadsAll P p) → (Has (tree_parts r) p → ReadsAll P p) → Has (tree_parts l ++ tree_parts r) p → ReadsAll P p
  two l r f g k = either (tree_parts l) (tree_parts r) f g k

  three : (a b c : Tree) → (Has (tree_parts a) p → ReadsAll P p) → (Has (tree_parts b) p → ReadsAll P p) → (Has (tree_parts c) p → ReadsAll P p) → Has (tree_parts a ++ (tree_parts b ++ tree_parts c)) p → ReadsAll P p
  three a b c f g h k = either (tree_parts a) (tree_parts b ++ tree_parts c) f (either (tree_parts b) (tree_parts c) g h) k

  mutual
    pub part_reads : (e : Tree) → ReadsAll P e → Has (tree_parts e) p → ReadsAll P p
    part_reads (Tree.column name) h k = itself_or (Tree.column name) [] h (λ k. absurd k) k
    part_reads (Tree.literal l) h k = itself_or (Tree.literal l) [] h (λ k. absurd k) k
    part_reads (Tree.binary o l r) h k = itself_or (Tree.binary o l r) (tree_parts l ++ tree_parts r) h (λ k. two l r (part_reads l h.0) (part_reads r h.1) k) k
    part_reads (Tree.cast c strict e) h k = itself_or (Tree.cast c strict e) (tree_parts e) h (part_reads e h) k
    part_reads (Tree.sort d n e) h k = itself_or (Tree.sort d n e) (tree_parts e) h (part_reads e h) k
    part_reads (Tree.sort_by d n e by) h k = itself_or (Tree.sort_by d n e by) (tree_parts e ++ trees_parts by) h (λ k. either (tree_parts e) (trees_parts by) (part_reads e h.0) (parts_read by h.1) k) k
    part_reads (Tree.gather s e i) h k = itself_or (Tree.gather s e i) (tree_parts e ++ tree_parts i) h (λ k. two e i (part_reads e h.0) (part_reads i h.1) k) k
    part_reads (Tree.filter e by) h k = itself_or (Tree.filter e by) (tree_parts e ++ tree_parts by) h (λ k. two e by (part_reads e h.0) (part_reads by h.1) k) k
    part_reads (Tree.aggregate a e) h k = itself_or (Tree.aggregate a e) (tree_parts e) h (part_reads e h) k
    part_reads (Tree.ternary c a b) h k = itself_or (Tree.ternary c a b) (tree_parts c ++ (tree_parts a ++ tree_parts b)) h (λ k. three c a b (part_reads c h.0) (part_reads a h.1) (part_reads b h.2) k) k
    part_reads (Tree.function g e) h k = itself_or (Tree.function g e) (tree_parts e) h (part_reads e h) k
    part_reads (Tree.slice e o l) h k = itself_or (Tree.slice e o l) (tree_parts e ++ (tree_parts o ++ tree_parts l)) h (λ k. three e o l (part_reads e h.0) (part_reads o h.1) (part_reads l h.2) k) k
    part_reads Tree.len h k = itself_or Tree.len [] h (λ k. absurd k) k
    part_reads (Tree.left_out w) h k = itself_or (Tree.left_out w) [] h (λ k. absurd k) k
    part_reads Tree.missing h k = itself_or Tree.missing [] h (λ k. absurd k) k

    parts_read : (es : Trees) → AllReadAll P es → Has (trees_parts es) p → ReadsAll P p
    parts_read Trees.no_trees h k = absurd k
    parts_read (Trees.tree e es) h k = either (tree_parts e) (trees_parts es) (part_reads e h.0) (parts_read es h.1) k
