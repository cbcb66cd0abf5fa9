-- Aggregates that are taken apart into reductions: names, kinds, and what a group-by asks of its reductions.
use Rattle.std.proofs.Common.{◌≡◌, ℕ, ◌+◌, ◌≤◌, ◌^◌, Bool, true, false, not, List, [], ◌∷◌, ◌++◌, Some, None, refl, sym, ap, ◌∙◌, arith, append_assoc}
use Rattle.std.specs.Prelude.{◌&&◌, ◌||◌, Option, fold, is_some, map}
use Rattle.std.specs.List.{AllByRecursion, list_all, list_any}
use Rattle.std.proofs.lemmas.List.{append-nil, map-append}
use Rattle.ps_frame.proofs.Lists.{and_both, both}
use Rattle.ps_frame.specs.Parts.{is_literal_aggregate, some_part}
use Rattle.ps_frame.specs.Tables.{Fields, field_kind}
use Rattle.ps_frame.specs.Trees.{Aggregation, Tree}
use Rattle.ps_frame.specs.Typing.{binary_kind, branch_kind, cast_kind, function_kind, goes_by_cell, is_elementwise, is_independent, is_kind, is_scalar, kind_if, kind_over}
use Rattle.ps_frame.specs.declared.expr.FunctionExpr.{FunctionExpr}
use Rattle.ps_frame.specs.declared.expr.FunctionExpr.TheVariants as fun
use Rattle.ps_frame.specs.declared.expr.Operator.{Operator}
use Rattle.ps_frame.specs.declared.value.DataType.{DataType}
use Rattle.ps_frame.specs.declared.value.DataType.TheVariants as kind
use Rattle.ps_typing.proofs.Parts.{of-cast, of-condition, of-falsy, of-function, of-left, of-right, of-truthy, own-part}
use Rattle.ps_meaning.proofs.Begins.{or-right}
use Rattle.ps_meaning.specs.Schemas.{expr_names}
use Rattle.ps_meaning.specs.Sound.{IsReduction, have_all_kinds}
use Rattle.ps_meaning.specs.Steps.{Name, Named, exprs_of}
use Rattle.ps_plan.proofs.Complete.{all-both}
use Rattle.ps_rules.specs.Names.{Names, fresh_name}
use Rattle.ps_shares.proofs.Fresh.{Grown, grown_fresh, grown_same, grown_then}
use Rattle.name_rules.proofs.Items.{times_items}
use Rattle.name_rules.proofs.Times.{FreshOnce, fewer_fresh, none_fresh, one_fresh, then_fresh, times}
use Rattle.plan_rules.specs.Reductions.{Apart, Split, aggregate_apart, is_made_of_reductions, is_mergeable, taken_apart, under_fresh_name, with_aggregate}
use Rattle.rule_parts.proofs.Picks.{all_first, all_last}

-- operands of what has a kind
binary_some : (o : Operator) (a b : Option DataType) → is_some (binary_kind o a b) ≡ true → (is_some a ≡ true) × (is_some b ≡ true)
binary_some o (Some a) (Some b) h = (refl, refl)
binary_some o None b h = cc
binary_some o (Some a) None h = cc

cast_some : (k : DataType) (a : Option DataType) → is_some (cast_kind k a) ≡ true → is_some a ≡ true
cast_some k (Some a) h = refl
cast_some k None h = cc

function_some : (g : FunctionExpr) (a : Option DataType) → is_some (function_kind g a) ≡ true → is_some a ≡ true
function_some g (Some a) h = refl
function_some fun.Not None h = cc
function_some fun.IsNull None h = cc
function_some fun.IsNotNull None h = cc
function_some fun.Reverse None h = cc

ternary_some : (p a b : Option DataType) → is_some (kind_if (is_kind kind.Boolean p) (branch_kind a b)) ≡ true → (is_some p ≡ true) × (is_some a ≡ true) × (is_some b ≡ true)
ternary_some None a b h = cc
ternary_some (Some p) (Some a) (Some b) h = (refl, refl, refl)
ternary_some (Some p) None b h = by (is_kind kind.Boolean (Some p)) h
  where
    by : (c : Bool) → is_some (kind_if c (branch_kind None b)) ≡ true → (true ≡ true) × (false ≡ true) × (is_some b ≡ true)
    by true h = cc
    by false h = cc
ternary_some (Some p) (Some a) None h = by (is_kind kind.Boolean (Some p)) h
  where
    by : (c : Bool) → is_some (kind_if c (branch_kind (Some a) None)) ≡ true → (is_some (Some p) ≡ true) × (is_some (Some a) ≡ true) × (false ≡ true)
    by true h = cc
    by false h = cc

-- some part is an aggregate over what is independent of the input
abbrev pub HasLiteral : Tree → Type 0
HasLiteral e = some_part is_literal_aggregate e ≡ true

-- a reduction with a kind, of what reads the input
pub record IsFitReduction (f : Fields) (e : Tree) : Type 0 where
  pub reduction : IsReduction e
  pub typed : is_some (kind_over f e) ≡ true
  pub scalar : is_scalar e ≡ true
  pub literal : HasLiteral e → ⊥

abbrev pub AreFitReductions : Fields → List Named → Type 0
AreFitReductions f rs = AllByRecursion (λ (m : Named). IsFitReduction f m.1) rs

-- in a schema of reductions each has the kind that it has over the input
abbrev pub HaveOwnKinds : Fields → Fields → List Named → Type 0
HaveOwnKinds h f rs = AllByRecursion (λ (m : Named). field_kind m.0 h ≡ kind_over f m.1) rs

-- names only grow
taken_grows : (e : Tree) (names : Names) (found : List Named) → Grown names (taken_apart e names found).names
taken_grows (Tree.aggregate a e) names found = grown_fresh names
taken_grows Tree.len names found = grown_fresh names
taken_grows (Tree.binary o l r) names found =
    let x = taken_apart l names found in
    let y = taken_apart r x.names x.reductions in
    grown_then names x.names y.names (taken_grows l names found) (taken_grows r x.names x.reductions)
taken_grows (Tree.cast k strict e) names found = taken_grows e names found
taken_grows (Tree.ternary p a b) names found =
    let x = taken_apart p names found in
    let y = taken_apart a x.names x.reductions in
    let z = taken_apart b y.names y.reductions in
    grown_then names x.names z.names (taken_grows p names found) (grown_then x.names y.names z.names (taken_grows a x.names x.reductions) (taken_grows b y.names y.reductions))
taken_grows (Tree.function g e) names found = taken_grows e names found
taken_grows (Tree.column name) names found = grown_same names
taken_grows (Tree.literal l) names found = grown_same names
taken_grows (Tree.sort d n e) names found = grown_same names
taken_grows (Tree.sort_by d n e by) names found = grown_same names
taken_grows (Tree.gather s e i) names found = grown_same names
taken_grows (Tree.filter e by) names found = grown_same names
taken_grows (Tree.slice e o l) names found = grown_same names
taken_grows (Tree.left_out what) names found = grown_same names
taken_grows Tree.missing names found = grown_same names

aggregate_grows : (name : Name) (e : Tree) (names : Names) (found : List Named) → Grown names (aggregate_apart name e names found).names
aggregate_grows name (Tree.aggregate a e) names found = grown_same names
aggregate_grows name Tree.len names found = grown_same names
aggregate_grows name (Tree.literal l) names found = taken_grows (Tree.literal l) names found
aggregate_grows name (Tree.binary o l r) names found = taken_grows (Tree.binary o l r) names found
aggregate_grows name (Tree.cast k strict e) names found = taken_grows (Tree.cast k strict e) names found
aggregate_grows name (Tree.function g e) names found = taken_grows (Tree.function g e) names found
aggregate_grows name (Tree.ternary p a b) names found = taken_grows (Tree.ternary p a b) names found
aggregate_grows name (Tree.column n) names found = taken_grows (Tree.column n) names found
aggregate_grows name (Tree.sort d n e) names found = taken_grows (Tree.sort d n e) names found
aggregate_grows name (Tree.sort_by d n e by) names found = taken_grows (Tree.sort_by d n e by) names found
aggregate_grows name (Tree.gather g e i) names found = taken_grows (Tree.gather g e i) names found
aggregate_grows name (Tree.filter e by) names found = taken_grows (Tree.filter e by) names found
aggregate_grows name (Tree.slice e o l) names found = taken_grows (Tree.slice e o l) names found
aggregate_grows name (Tree.left_out what) names found = taken_grows (Tree.left_out what) names found
aggregate_grows name Tree.missing names found = taken_grows Tree.missing names found

pub split_grows : (es : List Named) (s : Split) → Grown s.names (fold with_aggregate s es).names
split_grows [] s = grown_same s.names
split_grows (e ∷ es) s =
    let t = with_aggregate s e in
    grown_then s.names t.names (fold with_aggregate t es).names (aggregate_grows e.0 e.1 s.names s.reductions) (split_grows es t)

module _ (f : Fields) where
  -- what an expression is taken apart into, behind what was found
  record Parted (e : Tree) (names : Names) (found : List Named) (x : Apart) : Type 0 where
    new : List Named
    reductions : x.reductions ≡ found ++ new
    grown : Grown names x.names
    fresh : x.names.next ≤ 2 ^ 64 → FreshOnce names x.names (λ n. times n (expr_names new))
    fit : AreFitReductions f new
    kinds : (h : Fields) → HaveOwnKinds h f new → kind_over h x.expr ≡ kind_over f e

  reduced_one : (e : Tree) (names : Names) (found : List Named) → IsFitReduction f e → Parted e names found (under_fresh_name e names found)
  reduced_one e names found fit =
      record {
        new = (fresh_name names, e) ∷ [];
        reductions = refl;
        grown = grown_fresh names;
        fresh = λ small. one_fresh names small;
        fit = (fit, tt);
        kinds = λ h own. own.0;
      }

  parted_none : (e : Tree) (names : Names) (found : List Named) → ((h : Fields) → kind_over h e ≡ kind_over f e) → Parted e names found (record { names = names; reductions = found; expr = e })
  parted_none e names found same =
      record {
        new = [];
        reductions = sym (append-nil found);
        grown = grown_same names;
        fresh = λ small. none_fresh names names;
        fit = tt;
        kinds = λ h own. same h;
      }

  -- two, one behind the other
  record Both (l r : Tree) (names : Names) (found : List Named) (x y : Apart) : Type 0 where
    new : List Named
    reductions : y.reductions ≡ found ++ new
    grown : Grown names y.names
    fresh : y.names.next ≤ 2 ^ 64 → FreshOnce names y.names (λ n. times n (expr_names new))
    fit : AreFitReductions f new
    first : (h : Fields) → HaveOwnKinds h f new → kind_over h x.expr ≡ kind_over f l
    second : (h : Fields) → HaveOwnKinds h f new → kind_over h y.expr ≡ kind_over f r

  both_parted : (l r : Tree) (names : Names) (found : List Named) (x y : Apart) → Parted l names found x → Parted r x.names x.reductions y → Both l r names found x y
  both_parted l r names found x y p q =
      let own = λ (h : Fields). λ (m : Named). field_kind m.0 h ≡ kind_over f m.1 in
      record {
        new = p.new ++ q.new;
        reductions = q.reductions ∙ ap (λ (rs : List Named). rs ++ q.new) p.reductions ∙ append_assoc found p.new q.new;
        grown = grown_then names x.names y.names p.grown q.grown;
        fresh = λ small.
            let g = q.grown in
            let le = g.1 in
            let u : Name → ℕ = λ n. times n (expr_names p.new) in
            let v : Name → ℕ = λ n. times n (expr_names q.new) in
            fewer_fresh names y.names (λ n. u n + v n) (λ n. times n (expr_names (p.new ++ q.new))) (λ n. let t = times_items n p.new q.new in omega arith) (then_fresh names x.names y.names u v p.grown q.grown (p.fresh (omega arith)) (q.fresh small));
        fit = all-both (λ (m : Named). IsFitReduction f m.1) p.new q.new p.fit q.fit;
        first = λ h k. p.kinds h (all_first (own h) p.new q.new k);
        second = λ h k. q.kinds h (all_last (own h) p.new q.new k);
      }

  aggregate_fit : (a : Aggregation) (e : Tree) → (is_mergeable a && is_elementwise e) ≡ true → is_some (kind_over f (Tree.aggregate a e)) ≡ true → (HasLiteral (Tree.aggregate a e) → ⊥) → IsFitReduction f (Tree.aggregate a e)
  aggregate_fit a e made typed none = record { reduction = by a (both (is_mergeable a) (is_elementwise e) made); typed = typed; scalar = refl; literal = none }
    where
      reads : not (is_independent e) ≡ true
      reads = one (is_independent e) refl
        where
          one : (b : Bool) → is_independent e ≡ b → not (is_independent e) ≡ true
          one false q = ap not q
          one true q = absurd (none (own-part is_literal_aggregate (Tree.aggregate a e) q))

      by : (a : Aggregation) → (is_mergeable a ≡ true) × (is_elementwise e ≡ true) → IsReduction (Tree.aggregate a e)
      by Aggregation.min h = and_both (is_elementwise e) (not (is_independent e)) h.1 reads
      by Aggregation.max h = and_both (is_elementwise e) (not (is_independent e)) h.1 reads
      by Aggregation.first h = and_both (is_elementwise e) (not (is_independent e)) h.1 reads
      by Aggregation.last h = and_both (is_elementwise e) (not (is_independent e)) h.1 reads
      by Aggregation.sum h = and_both (is_elementwise e) (not (is_independent e)) h.1 reads
      by Aggregation.n_unique h = let w : false ≡ true = h.0 in cc
      by (Aggregation.count all) h = let w : false ≡ true = h.0 in cc

  len_fit : IsFitReduction f Tree.len
  len_fit = record { reduction = tt; typed = refl; scalar = refl; literal = λ q. cc }

  -- what may be taken apart
  record IsWhole (e : Tree) : Type 0 where
    made : is_made_of_reductions e ≡ true
    typed : is_some (kind_over f e) ≡ true
    literal : HasLiteral e → ⊥

  parted : (e : Tree) (names : Names) (found : List Named) → IsWhole e → Parted e names found (taken_apart e names found)
  parted (Tree.literal l) names found w = parted_none (Tree.literal l) names found (λ h. refl)
  parted Tree.len names found w = reduced_one Tree.len names found len_fit
  parted (Tree.aggregate a e) names found w = reduced_one (Tree.aggregate a e) names found (aggregate_fit a e w.made w.typed w.literal)
  parted (Tree.binary o l r) names found w =
      let m = both (is_made_of_reductions l) (is_made_of_reductions r) w.made in
      let t = binary_some o (kind_over f l) (kind_over f r) w.typed in
      let x = taken_apart l names found in
      let y = taken_apart r x.names x.reductions in
      let p = parted l names found (record { made = m.0; typed = t.0; literal = λ q. w.literal ((of-left o l r).tests is_literal_aggregate q) }) in
      let q = parted r x.names x.reductions (record { made = m.1; typed = t.1; literal = λ q. w.literal ((of-right o l r).tests is_literal_aggregate q) }) in
      let b = both_parted l r names found x y p q in
      record {
        new = b.new;
        reductions = b.reductions;
        grown = b.grown;
        fresh = b.fresh;
        fit = b.fit;
        kinds = λ h own. let c = b.first h own in let d = b.second h own in λ i. binary_kind o (c i) (d i);
      }
  parted (Tree.cast k strict e) names found w =
      let p = parted e names found (record { made = w.made; typed = cast_some k (kind_over f e) w.typed; literal = λ q. w.literal ((of-cast k strict e).tests is_literal_aggregate q) }) in
      record { new = p.new; reductions = p.reductions; grown = p.grown; fresh = p.fresh; fit = p.fit; kinds = λ h own. ap (cast_kind k) (p.kinds h own) }
  parted (Tree.function g e) names found w =
      let m = both (goes_by_cell g) (is_made_of_reductions e) w.made in
      let p = parted e names found (record { made = m.1; typed = function_some g (kind_over f e) w.typed; literal = λ q. w.literal ((of-function g e).tests is_literal_aggregate q) }) in
      record { new = p.new; reductions = p.reductions; grown = p.grown; fresh = p.fresh; fit = p.fit; kinds = λ h own. ap (function_kind g) (p.kinds h own) }
  parted (Tree.ternary p a b) names found w =
      let n = both (is_made_of_reductions p && is_made_of_reductions a) (is_made_of_reductions b) w.made in
      let m = both (is_made_of_reductions p) (is_made_of_reductions a) n.0 in
      let t = ternary_some (kind_over f p) (kind_over f a) (kind_over f b) w.typed in
      let x = taken_apart p names found in
      let y = taken_apart a x.names x.reductions in
      let z = taken_apart b y.names y.reductions in
      let u = parted p names found (record { made = m.0; typed = t.0; literal = λ q. w.literal ((of-condition p a b).tests is_literal_aggregate q) }) in
      let v = parted a x.names x.reductions (record { made = m.1; typed = t.1; literal = λ q. w.literal ((of-truthy p a b).tests is_literal_aggregate q) }) in
      let k = parted b y.names y.reductions (record { made = n.1; typed = t.2; literal = λ q. w.literal ((of-falsy p a b).tests is_literal_aggregate q) }) in
      let own = λ (h : Fields). λ (m : Named). field_kind m.0 h ≡ kind_over f m.1 in
      let c = both_parted p a names found x y u v in
      let le = k.grown in
      record {
        new = c.new ++ k.new;
        reductions = k.reductions ∙ ap (λ (rs : List Named). rs ++ k.new) c.reductions ∙ append_assoc found c.new k.new;
        grown = grown_then names y.names z.names c.grown k.grown;
        fresh = λ small.
            let up = le.1 in
            let s : Name → ℕ = λ n. times n (expr_names c.new) in
            let r : Name → ℕ = λ n. times n (expr_names k.new) in
            fewer_fresh names z.names (λ n. s n + r n) (λ n. times n (expr_names (c.new ++ k.new))) (λ n. let t = times_items n c.new k.new in omega arith) (then_fresh names y.names z.names s r c.grown k.grown (c.fresh (omega arith)) (k.fresh small));
        fit = all-both (λ (m : Named). IsFitReduction f m.1) c.new k.new c.fit k.fit;
        kinds = λ h all.
            let first = all_first (own h) c.new k.new all in
            let i = c.first h first in
            let j = c.second h first in
            let l = k.kinds h (all_last (own h) c.new k.new all) in
            λ q. kind_if (is_kind kind.Boolean (i q)) (branch_kind (j q) (l q));
      }
  parted (Tree.column name) names found w = let q = w.made in cc
  parted (Tree.sort d n e) names found w = let q = w.made in cc
  parted (Tree.sort_by d n e by) names found w = let q = w.made in cc
  parted (Tree.gather s e i) names found w = let q = w.made in cc
  parted (Tree.filter e by) names found w = let q = w.made in cc
  parted (Tree.slice e o l) names found w = let q = w.made in cc
  parted (Tree.left_out what) names found w = let q = w.made in cc
  parted Tree.missing names found w = let q = w.made in cc

  -- The reductions of some aggregates behind those that were found, and the aggregates over these. Each name is that of an aggregate, or fresh.
  pub record Splits (es : List Named) (s t : Split) : Type 0 where
    pub new : List Named
    pub reductions : t.reductions ≡ s.reductions ++ new
    pub above : List Named
    pub shown : t.above ≡ s.above ++ above
    pub names : expr_names above ≡ expr_names es
    pub grown : Grown s.names t.names
    pub own : Name → ℕ
    pub fresh : t.names.next ≤ 2 ^ 64 → FreshOnce s.names t.names own
    pub few : (n : Name) → times n (expr_names new) ≤ times n (expr_names es) + own n
    pub fit : AreFitReductions f new
    pub kinds : (h : Fields) → HaveOwnKinds h f new → map (kind_over h) (exprs_of above) ≡ map (kind_over f) (exprs_of es)

  one_named : (name : Name) (e : Tree) (s : Split) → IsFitReduction f e → Splits ((name, e) ∷ []) s (record { names = s.names; reductions = s.reductions ++ (name, e) ∷ []; above = s.above ++ (name, Tree.column name) ∷ [] })
  one_named name e s fit =
      record {
        new = (name, e) ∷ [];
        reductions = refl;
        above = (name, Tree.column name) ∷ [];
        shown = refl;
        names = refl;
        grown = grown_same s.names;
        own = λ n. 0;
        fresh = λ small. none_fresh s.names s.names;
        few = λ n. omega arith;
        fit = (fit, tt);
        kinds = λ h own. (let q = own.0 in λ i. q i ∷ []);
      }

  one_apart : (name : Name) (e : Tree) (s : Split) → IsWhole e → let x = taken_apart e s.names s.reductions in Splits ((name, e) ∷ []) s (record { names = x.names; reductions = x.reductions; above = s.above ++ (name, x.expr) ∷ [] })
  one_apart name e s whole =
      let x = taken_apart e s.names s.reductions in
      let p = parted e s.names s.reductions whole in
      record {
        new = p.new;
        reductions = p.reductions;
        above = (name, x.expr) ∷ [];
        shown = refl;
        names = refl;
        grown = p.grown;
        own = λ n. times n (expr_names p.new);
        fresh = p.fresh;
        few = λ n. omega arith;
        fit = p.fit;
        kinds = λ h own. (let q = p.kinds h own in λ i. q i ∷ []);
      }

  one_split : (name : Name) (e : Tree) (s : Split) → IsWhole e → Splits ((name, e) ∷ []) s (with_aggregate s (name, e))
  one_split name (Tree.aggregate a e) s w = one_named name (Tree.aggregate a e) s (aggregate_fit a e w.made w.typed w.literal)
  one_split name Tree.len s w = one_named name Tree.len s len_fit
  one_split name (Tree.literal l) s w = one_apart name (Tree.literal l) s w
  one_split name (Tree.binary o l r) s w = one_apart name (Tree.binary o l r) s w
  one_split name (Tree.cast k strict e) s w = one_apart name (Tree.cast k strict e) s w
  one_split name (Tree.function g e) s w = one_apart name (Tree.function g e) s w
  one_split name (Tree.ternary p a b) s w = one_apart name (Tree.ternary p a b) s w
  one_split name (Tree.column n) s w = one_apart name (Tree.column n) s w
  one_split name (Tree.sort d n e) s w = one_apart name (Tree.sort d n e) s w
  one_split name (Tree.sort_by d n e by) s w = one_apart name (Tree.sort_by d n e by) s w
  one_split name (Tree.gather g e i) s w = one_apart name (Tree.gather g e i) s w
  one_split name (Tree.filter e by) s w = one_apart name (Tree.filter e by) s w
  one_split name (Tree.slice e o l) s w = one_apart name (Tree.slice e o l) s w
  one_split name (Tree.left_out what) s w = one_apart name (Tree.left_out what) s w
  one_split name Tree.missing s w = one_apart name Tree.missing s w

  splits_then : (e : Named) (es : List Named) (r s t : Split) → Splits (e ∷ []) r s → Splits es s t → Splits (e ∷ es) r t
  splits_then e es r s t p q =
      let own = λ (h : Fields). λ (m : Named). field_kind m.0 h ≡ kind_over f m.1 in
      let le = q.grown in
      record {
        new = p.new ++ q.new;
        reductions = q.reductions ∙ ap (λ (rs : List Named). rs ++ q.new) p.reductions ∙ append_assoc r.reductions p.new q.new;
        above = p.above ++ q.above;
        shown = q.shown ∙ ap (λ (rs : List Named). rs ++ q.above) p.shown ∙ append_assoc r.above p.above q.above;
        names = map-append (λ (x : Named). x.0) p.above q.above ∙ (let a = p.names in let b = q.names in λ i. a i ++ b i);
        grown = grown_then r.names s.names t.names p.grown q.grown;
        own = λ n. p.own n + q.own n;
        fresh = λ small. (let up = le.1 in then_fresh r.names s.names t.names p.own q.own p.grown q.grown (p.fresh (omega arith)) (q.fresh small));
        few = λ n. (let a = p.few n in let b = q.few n in let c = times_items n p.new q.new in omega arith);
        fit = all-both (λ (m : Named). IsFitReduction f m.1) p.new q.new p.fit q.fit;
        kinds = λ h all.
            let a = p.kinds h (all_first (own h) p.new q.new all) in
            let b = q.kinds h (all_last (own h) p.new q.new all) in
            ap (map (kind_over h)) (map-append (λ (x : Named). x.1) p.above q.above) ∙ map-append (kind_over h) (exprs_of p.above) (exprs_of q.above) ∙ (λ i. a i ++ b i);
      }

  -- aggregates that are made of reductions
  pub record AreWhole (es : List Named) : Type 0 where
    pub made : list_all is_made_of_reductions (exprs_of es) ≡ true
    pub typed : have_all_kinds f (exprs_of es) ≡ true
    pub literal : list_any (some_part is_literal_aggregate) (exprs_of es) ≡ true → ⊥

  pub splits : (es : List Named) (s : Split) → AreWhole es → Splits es s (fold with_aggregate s es)
  splits [] s w =
      record {
        new = [];
        reductions = sym (append-nil s.reductions);
        above = [];
        shown = sym (append-nil s.above);
        names = refl;
        grown = grown_same s.names;
        own = λ n. 0;
        fresh = λ small. none_fresh s.names s.names;
        few = λ n. omega arith;
        fit = tt;
        kinds = λ h own. refl;
      }
  splits ((name, e) ∷ es) s w =
      let m = both (is_made_of_reductions e) (list_all is_made_of_reductions (exprs_of es)) w.made in
      let t = both (is_some (kind_over f e)) (have_all_kinds f (exprs_of es)) w.typed in
      let rest = list_any (some_part is_literal_aggregate) (exprs_of es) in
      let p = one_split name e s (record { made = m.0; typed = t.0; literal = λ q. w.literal (ap (λ b. b || rest) q) }) in
      let u = with_aggregate s (name, e) in
      splits_then (name, e) es s u (fold with_aggregate u es) p (splits es u (record { made = m.1; typed = t.1; literal = λ q. w.literal (or-right (some_part is_literal_aggregate e) rest q) }))
