-- What stands above the reductions goes by cell; where each of it is the column of its own name, each aggregate is a reduction.
use Rattle.std.proofs.Common.{◌≡◌, Bool, true, false, List, [], ◌∷◌, ◌++◌, refl, sym, ap, ◌∙◌}
use Rattle.std.specs.Prelude.{IsTrue, ◌&&◌}
use Rattle.std.specs.List.{AllByRecursion, list_all}
use Rattle.ps_frame.proofs.Lists.{and_both}
use Rattle.ps_frame.specs.Trees.{Aggregation, Tree}
use Rattle.ps_frame.specs.Typing.{goes_by_cell, is_elementwise}
use Rattle.ps_meaning.specs.Sound.{IsReduction}
use Rattle.ps_meaning.specs.Steps.{Name, Named, exprs_of}
use Rattle.ps_rowwise.proofs.ByRow.{both}
use Rattle.ps_rules.specs.Rules.{is_own_column}
use Rattle.plan_rules.specs.Groups.{own_columns}
use Rattle.plan_rules.specs.Reductions.{is_made_of_reductions}
use Rattle.step_keeps.specs.Kept.{IsPlainReduction, are_all_own}
use Rattle.reductions_keep.proofs.Inside.{three}
use Rattle.reductions_keep.proofs.Parts.{AreApart, IsApart}

-- a test of all, for each
pub each_passes : (test : Tree → Bool) (es : List Tree) → list_all test es ≡ true → AllByRecursion (λ (e : Tree). IsTrue (test e)) es
each_passes test [] all = tt
each_passes test (e ∷ es) all = let m = both (test e) (list_all test es) all in (m.0, each_passes test es m.1)

module _ (found : List Named) where
  goes_by_cells : (e x : Tree) → is_made_of_reductions e ≡ true → IsApart found e x → is_elementwise x ≡ true
  goes_by_cells (Tree.aggregate a e) x made (n, is, has) = ap is_elementwise is
  goes_by_cells Tree.len x made (n, is, has) = ap is_elementwise is
  goes_by_cells (Tree.literal l) x made is = ap is_elementwise is
  goes_by_cells (Tree.binary o l r) x made (a, b, is, p, q) =
      let m = both (is_made_of_reductions l) (is_made_of_reductions r) made in
      ap is_elementwise is ∙ and_both (is_elementwise a) (is_elementwise b) (goes_by_cells l a m.0 p) (goes_by_cells r b m.1 q)
  goes_by_cells (Tree.cast k strict e) x made (a, is, p) = ap is_elementwise is ∙ goes_by_cells e a made p
  goes_by_cells (Tree.ternary t u v) x made (a, b, c, is, p, q, r) =
      let m = three (is_made_of_reductions t) (is_made_of_reductions u) (is_made_of_reductions v) made in
      ap is_elementwise is ∙ and_both (is_elementwise a) (is_elementwise b && is_elementwise c) (goes_by_cells t a m.0 p) (and_both (is_elementwise b) (is_elementwise c) (goes_by_cells u b m.1 q) (goes_by_cells v c m.2 r))
  goes_by_cells (Tree.function g e) x made (a, is, p) =
      let m = both (goes_by_cell g) (is_made_of_reductions e) made in
      ap is_elementwise is ∙ and_both (goes_by_cell g) (is_elementwise a) m.0 (goes_by_cells e a m.1 p)
  goes_by_cells (Tree.column name) x made is = absurd is
  goes_by_cells (Tree.sort d n e) x made is = absurd is
  goes_by_cells (Tree.sort_by d n e by) x made is = absurd is
  goes_by_cells (Tree.gather s e i) x made is = absurd is
  goes_by_cells (Tree.filter e by) x made is = absurd is
  goes_by_cells (Tree.slice e o l) x made is = absurd is
  goes_by_cells (Tree.left_out w) x made is = absurd is
  goes_by_cells Tree.missing x made is = absurd is

  pub all_by_cells : (es xs : List Named) → list_all is_made_of_reductions (exprs_of es) ≡ true → AreApart found es xs → list_all is_elementwise (exprs_of xs) ≡ true
  all_by_cells [] [] made apart = refl
  all_by_cells [] (x ∷ xs) made apart = absurd apart
  all_by_cells (e ∷ es) [] made apart = absurd apart
  all_by_cells (e ∷ es) (x ∷ xs) made apart =
      let m = both (is_made_of_reductions e.1) (list_all is_made_of_reductions (exprs_of es)) made in
      and_both (is_elementwise x.1) (list_all is_elementwise (exprs_of xs)) (goes_by_cells e.1 x.1 m.0 apart.1) (all_by_cells es xs m.1 apart.2)

  -- an operator or a literal is no column
  other : (n : Name) (x y : Tree) → x ≡ y → is_own_column n y ≡ false → is_own_column n x ≡ true → ⊥
  other n x y is none own = let w : false ≡ true = sym none ∙ sym (ap (is_own_column n) is) ∙ own in cc

  own_is_plain : (n : Name) (e x : Tree) → IsApart found e x → is_own_column n x ≡ true → IsPlainReduction e
  own_is_plain n (Tree.aggregate a e) x apart own = tt
  own_is_plain n Tree.len x apart own = tt
  own_is_plain n (Tree.literal l) x is own = absurd (other n x (Tree.literal l) is refl own)
  own_is_plain n (Tree.binary o l r) x (a, b, is, p, q) own = absurd (other n x (Tree.binary o a b) is refl own)
  own_is_plain n (Tree.cast k strict e) x (a, is, p) own = absurd (other n x (Tree.cast k strict a) is refl own)
  own_is_plain n (Tree.ternary t u v) x (a, b, c, is, p, q, r) own = absurd (other n x (Tree.ternary a b c) is refl own)
  own_is_plain n (Tree.function g e) x (a, is, p) own = absurd (other n x (Tree.function g a) is refl own)
  own_is_plain n (Tree.column name) x is own = absurd is
  own_is_plain n (Tree.sort d m e) x is own = absurd is
  own_is_plain n (Tree.sort_by d m e by) x is own = absurd is
  own_is_plain n (Tree.gather s e i) x is own = absurd is
  own_is_plain n (Tree.filter e by) x is own = absurd is
  own_is_plain n (Tree.slice e o l) x is own = absurd is
  own_is_plain n (Tree.left_out w) x is own = absurd is
  own_is_plain n Tree.missing x is own = absurd is

  all_own_plain : (es xs : List Named) → AreApart found es xs → are_all_own xs ≡ true → AllByRecursion (λ (e : Named). IsPlainReduction e.1) es
  all_own_plain [] [] apart own = tt
  all_own_plain [] (x ∷ xs) apart own = absurd apart
  all_own_plain (e ∷ es) [] apart own = absurd apart
  all_own_plain (e ∷ es) (x ∷ xs) apart own = let m = both (is_own_column x.0 x.1) (are_all_own xs) own in (own_is_plain x.0 e.1 x.1 apart.1 m.0, all_own_plain es xs apart.2 m.1)

  -- also with key columns in front
  pub own_are_plain : (names : List Name) (es xs : List Named) → AreApart found es xs → are_all_own (own_columns names ++ xs) ≡ true → AllByRecursion (λ (e : Named). IsPlainReduction e.1) es
  own_are_plain [] es xs apart own = all_own_plain es xs apart own
  own_are_plain (n ∷ names) es xs apart own = own_are_plain names es xs apart (both (is_own_column n (Tree.column n)) (are_all_own (own_columns names ++ xs)) own).1

-- reductions are made of reductions, and plain
made_alone : (e : Tree) → IsReduction e → is_made_of_reductions e ≡ true
made_alone Tree.len h = refl
made_alone (Tree.aggregate Aggregation.min e) h = (both (is_elementwise e) _ h).0
made_alone (Tree.aggregate Aggregation.max e) h = (both (is_elementwise e) _ h).0
made_alone (Tree.aggregate Aggregation.first e) h = (both (is_elementwise e) _ h).0
made_alone (Tree.aggregate Aggregation.last e) h = (both (is_elementwise e) _ h).0
made_alone (Tree.aggregate Aggregation.sum e) h = (both (is_elementwise e) _ h).0
made_alone (Tree.aggregate Aggregation.n_unique e) h = absurd h
made_alone (Tree.aggregate (Aggregation.count all) e) h = absurd h
made_alone (Tree.column name) h = absurd h
made_alone (Tree.literal l) h = absurd h
made_alone (Tree.binary o l r) h = absurd h
made_alone (Tree.cast k strict e) h = absurd h
made_alone (Tree.sort d n e) h = absurd h
made_alone (Tree.sort_by d n e by) h = absurd h
made_alone (Tree.gather s e i) h = absurd h
made_alone (Tree.filter e by) h = absurd h
made_alone (Tree.ternary p a b) h = absurd h
made_alone (Tree.function g e) h = absurd h
made_alone (Tree.slice e o l) h = absurd h
made_alone (Tree.left_out w) h = absurd h
made_alone Tree.missing h = absurd h

pub all_made_alone : (rs : List Named) → AllByRecursion (λ (m : Named). IsReduction m.1) rs → list_all is_made_of_reductions (exprs_of rs) ≡ true
all_made_alone [] all = refl
all_made_alone (m ∷ rs) all = and_both (is_made_of_reductions m.1) (list_all is_made_of_reductions (exprs_of rs)) (made_alone m.1 all.0) (all_made_alone rs all.1)

plain_alone : (e : Tree) → IsReduction e → IsPlainReduction e
plain_alone Tree.len h = tt
plain_alone (Tree.aggregate a e) h = tt
plain_alone (Tree.column name) h = absurd h
plain_alone (Tree.literal l) h = absurd h
plain_alone (Tree.binary o l r) h = absurd h
plain_alone (Tree.cast k strict e) h = absurd h
plain_alone (Tree.sort d n e) h = absurd h
plain_alone (Tree.sort_by d n e by) h = absurd h
plain_alone (Tree.gather s e i) h = absurd h
plain_alone (Tree.filter e by) h = absurd h
plain_alone (Tree.ternary p a b) h = absurd h
plain_alone (Tree.function g e) h = absurd h
plain_alone (Tree.slice e o l) h = absurd h
plain_alone (Tree.left_out w) h = absurd h
plain_alone Tree.missing h = absurd h

pub all_plain_alone : (rs : List Named) → AllByRecursion (λ (m : Named). IsReduction m.1) rs → AllByRecursion (λ (m : Named). IsPlainReduction m.1) rs
all_plain_alone [] all = tt
all_plain_alone (m ∷ rs) all = (plain_alone m.1 all.0, all_plain_alone rs all.1)

pub plain_exprs : (rs : List Named) → AllByRecursion (λ (m : Named). IsReduction m.1) rs → AllByRecursion IsPlainReduction (exprs_of rs)
plain_exprs [] all = tt
plain_exprs (m ∷ rs) all = (plain_alone m.1 all.0, plain_exprs rs all.1)
