-- What stands above the reductions of a group-by goes by cell.
use Rattle.std.proofs.Common.{◌≡◌, true, List, [], ◌∷◌, ◌++◌, refl}
use Rattle.std.specs.Prelude.{◌&&◌, fold}
use Rattle.std.specs.List.{list_all}
use Rattle.ps_frame.proofs.Lists.{and_both, both}
use Rattle.ps_frame.specs.Trees.{Tree}
use Rattle.ps_frame.specs.Typing.{goes_by_cell, is_elementwise}
use Rattle.ps_meaning.specs.Steps.{Name, Named, exprs_of}
use Rattle.ps_rules.specs.Names.{Names}
use Rattle.plan_rules.specs.Groups.{own_columns}
use Rattle.plan_rules.specs.Reductions.{Split, aggregate_apart, is_made_of_reductions, taken_apart, with_aggregate}

apart_by_cell : (e : Tree) (names : Names) (found : List Named) → is_made_of_reductions e ≡ true → is_elementwise (taken_apart e names found).expr ≡ true
apart_by_cell (Tree.literal l) names found made = refl
apart_by_cell Tree.len names found made = refl
apart_by_cell (Tree.aggregate a e) names found made = refl
apart_by_cell (Tree.binary o l r) names found made =
    let m = both (is_made_of_reductions l) (is_made_of_reductions r) made in
    let x = taken_apart l names found in
    let y = taken_apart r x.names x.reductions in
    and_both (is_elementwise x.expr) (is_elementwise y.expr) (apart_by_cell l names found m.0) (apart_by_cell r x.names x.reductions m.1)
apart_by_cell (Tree.cast k strict e) names found made = apart_by_cell e names found made
apart_by_cell (Tree.ternary p a b) names found made =
    let m = both (is_made_of_reductions p && is_made_of_reductions a) (is_made_of_reductions b) made in
    let n = both (is_made_of_reductions p) (is_made_of_reductions a) m.0 in
    let x = taken_apart p names found in
    let y = taken_apart a x.names x.reductions in
    let z = taken_apart b y.names y.reductions in
    and_both (is_elementwise x.expr) (is_elementwise y.expr && is_elementwise z.expr) (apart_by_cell p names found n.0) (and_both (is_elementwise y.expr) (is_elementwise z.expr) (apart_by_cell a x.names x.reductions n.1) (apart_by_cell b y.names y.reductions m.1))
apart_by_cell (Tree.function g e) names found made =
    let m = both (goes_by_cell g) (is_made_of_reductions e) made in
    and_both (goes_by_cell g) (is_elementwise (taken_apart e names found).expr) m.0 (apart_by_cell e names found m.1)
apart_by_cell (Tree.column name) names found made = cc
apart_by_cell (Tree.sort d n e) names found made = cc
apart_by_cell (Tree.sort_by d n e by) names found made = cc
apart_by_cell (Tree.gather s e i) names found made = cc
apart_by_cell (Tree.filter e by) names found made = cc
apart_by_cell (Tree.slice e o l) names found made = cc
apart_by_cell (Tree.left_out w) names found made = cc
apart_by_cell Tree.missing names found made = cc

aggregate_by_cell : (name : Name) (e : Tree) (names : Names) (found : List Named) → is_made_of_reductions e ≡ true → is_elementwise (aggregate_apart name e names found).expr ≡ true
aggregate_by_cell name (Tree.aggregate a e) names found made = refl
aggregate_by_cell name Tree.len names found made = refl
aggregate_by_cell name (Tree.literal l) names found made = refl
aggregate_by_cell name (Tree.binary o l r) names found made = apart_by_cell (Tree.binary o l r) names found made
aggregate_by_cell name (Tree.cast k strict e) names found made = apart_by_cell (Tree.cast k strict e) names found made
aggregate_by_cell name (Tree.ternary p a b) names found made = apart_by_cell (Tree.ternary p a b) names found made
aggregate_by_cell name (Tree.function g e) names found made = apart_by_cell (Tree.function g e) names found made
aggregate_by_cell name (Tree.column n) names found made = cc
aggregate_by_cell name (Tree.sort d n e) names found made = cc
aggregate_by_cell name (Tree.sort_by d n e by) names found made = cc
aggregate_by_cell name (Tree.gather s e i) names found made = cc
aggregate_by_cell name (Tree.filter e by) names found made = cc
aggregate_by_cell name (Tree.slice e o l) names found made = cc
aggregate_by_cell name (Tree.left_out w) names found made = cc
aggregate_by_cell name Tree.missing names found made = cc

with_last : (xs : List Named) (x : Named) → list_all is_elementwise (exprs_of xs) ≡ true → is_elementwise x.1 ≡ true → list_all is_elementwise (exprs_of (xs ++ x ∷ [])) ≡ true
with_last [] x all last = and_both (is_elementwise x.1) true last refl
with_last (y ∷ xs) x all last =
    let m = both (is_elementwise y.1) (list_all is_elementwise (exprs_of xs)) all in
    and_both (is_elementwise y.1) (list_all is_elementwise (exprs_of (xs ++ x ∷ []))) m.0 (with_last xs x m.1 last)

pub split_by_cell : (es : List Named) (begun : Split) → list_all is_made_of_reductions (exprs_of es) ≡ true → list_all is_elementwise (exprs_of begun.above) ≡ true → list_all is_elementwise (exprs_of (fold with_aggregate begun es).above) ≡ true
split_by_cell [] begun made all = all
split_by_cell (e ∷ es) begun made all =
    let m = both (is_made_of_reductions e.1) (list_all is_made_of_reductions (exprs_of es)) made in
    let x = aggregate_apart e.0 e.1 begun.names begun.reductions in
    split_by_cell es (with_aggregate begun e) m.1 (with_last begun.above (e.0, x.expr) all (aggregate_by_cell e.0 e.1 begun.names begun.reductions m.0))

-- also with key columns in front
pub front_by_cell : (ns : List Name) (xs : List Named) → list_all is_elementwise (exprs_of xs) ≡ true → list_all is_elementwise (exprs_of (own_columns ns ++ xs)) ≡ true
front_by_cell [] xs all = all
front_by_cell (n ∷ ns) xs all = front_by_cell ns xs all
