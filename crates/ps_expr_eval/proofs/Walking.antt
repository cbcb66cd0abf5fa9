-- Each step of the walk over an expression keeps what the walk is to leave.
use Rattle.std.proofs.Common.{◌≡◌, ℕ, suc, ◌+◌, ◌*◌, ◌<◌, ◌≤◌, List, [], ◌∷◌, ◌++◌, length, refl, subst, sym, ◌∙◌, ap, append_assoc, arith}
use Rattle.std.specs.Prelude.{map, reverse, slice_get, OnOk, Some, Result, Ok, Err}
use Rattle.std.proofs.lemmas.List.{length-append, append-nil, reverse-append}
use Rattle.ps_expr_eval.specs.Evaluations.{AreTyped, EvaluateAll, Evaluates, operands_in, operands_of}
use Rattle.ps_expr_eval.specs.Held.{IsOneOf, cells_of}
use Rattle.ps_expr_eval.specs.Walks.{AreTypedWork, Leaves, Proceeds, Remembers, operands_at, steps_left}
use Rattle.ps_expr_eval.specs.declared.computed.ComputedColumn.{ComputedColumn}
use Rattle.ps_expr_eval.specs.declared.evaluate.Work.{Work}
use Rattle.ps_expr_eval.specs.declared.evaluate.Work.TheVariants.{Visit, Compute}
use Rattle.ps_expr_eval.specs.declared.shared.SharedColumns.{SharedColumns}
use Rattle.ps_frame.specs.Eval.{eval}
use Rattle.ps_frame.specs.Tables.{Fields, Frame, whole}
use Rattle.ps_frame.specs.Trees.{AreComplete, Tree, tree_at, trees_of, trees_size}
use Rattle.ps_frame.specs.declared.expr.AExpr.{AExpr}
use Rattle.pu_base.specs.declared.arena.Node.{Node}

-- a copy is computed of the same expression
pub copy-evaluates : (t : Frame) (tree : Tree) (p q : ComputedColumn) → q.dtype ≡ p.dtype → cells_of q.cells ≡ cells_of p.cells → q.fault ≡ p.fault → Evaluates t tree p → Evaluates t tree q
copy-evaluates t tree p q kind cells fault e = record {
  keeps = λ node. record {
    cells = cells ∙ (e.keeps node).cells;
    ended = subst (IsOneOf (eval node (whole t) tree).broken) (sym fault) (e.keeps node).ended;
  };
  kind = e.kind ∙ ap Some (sym kind);
}

-- as many columns as entries
pub as-many : (t : Frame) (f : Node → Tree) (ns : List Node) (ps : List ComputedColumn) → EvaluateAll t (trees_of f ns) ps → length ps ≡ length ns
as-many t f [] [] h = refl
as-many t f [] (p ∷ ps) h = absurd h
as-many t f (n ∷ ns) [] h = absurd h
as-many t f (n ∷ ns) (p ∷ ps) h = ap (λ k. suc k) (as-many t f ns ps h.1)

all-push : (t : Frame) (f : Node → Tree) (ns : List Node) (n : Node) (ps : List ComputedColumn) (p : ComputedColumn) → EvaluateAll t (trees_of f ns) ps → Evaluates t (f n) p → EvaluateAll t (trees_of f (ns ++ n ∷ [])) (ps ++ p ∷ [])
all-push t f [] n [] p h e = (e, tt)
all-push t f [] n (q ∷ ps) p h e = absurd h
all-push t f (m ∷ ns) n [] p h e = absurd h
all-push t f (m ∷ ns) n (q ∷ ps) p h e = (h.0, all-push t f ns n ps p h.1 e)

-- the columns of a list of entries and then of another
two-lists : (t : Frame) (f : Node → Tree) (ns os : List Node) (qs rs : List ComputedColumn) → length rs ≡ length os → EvaluateAll t (trees_of f (ns ++ os)) (qs ++ rs) → EvaluateAll t (trees_of f ns) qs × EvaluateAll t (trees_of f os) rs
two-lists t f [] os [] rs e h = (tt, h)
two-lists t f [] os (q ∷ qs) rs e h = let n = as-many t f os (q ∷ (qs ++ rs)) h in absurd (omega (arith, n, e, length-append qs rs))
two-lists t f (n ∷ ns) os [] rs e h = let k = as-many t f (n ∷ (ns ++ os)) rs h in absurd (omega (arith, k, e, length-append ns os))
two-lists t f (n ∷ ns) os (q ∷ qs) rs e h = let rest = two-lists t f ns os qs rs e h.1 in ((h.0, rest.0), rest.1)

pub taken-evaluate : (t : Frame) (f : Node → Tree) (ns os : List Node) (ps qs rs : List ComputedColumn) → ps ≡ qs ++ rs → length rs ≡ length os → EvaluateAll t (trees_of f (ns ++ os)) ps → EvaluateAll t (trees_of f os) rs
taken-evaluate t f ns os ps qs rs is e h = (two-lists t f ns os qs rs e (subst (EvaluateAll t (trees_of f (ns ++ os))) is h)).1

pub enough : (t : Frame) (f : Node → Tree) (ns os : List Node) (ps : List ComputedColumn) → EvaluateAll t (trees_of f (ns ++ os)) ps → length os ≤ length ps
enough t f ns os ps h = let n = as-many t f (ns ++ os) ps h in omega (arith, n, length-append ns os)

-- the same columns of the same entries
pub these-evaluate : (t : Frame) (f : Node → Tree) (ns ms : List Node) (ps qs : List ComputedColumn) → ns ≡ ms → ps ≡ qs → EvaluateAll t (trees_of f ns) ps → EvaluateAll t (trees_of f ms) qs
these-evaluate t f ns ms ps qs e g h = subst (λ (ns : List Node). EvaluateAll t (trees_of f ns) qs) e (subst (EvaluateAll t (trees_of f ns)) g h)

pub operands-are : (arena : List AExpr) (n : Node) (e x : AExpr) → slice_get arena n.0 ≡ Some e → e ≡ x → operands_at arena n ≡ operands_of x
operands-are arena n e x h is = ap operands_in h ∙ ap operands_of is

-- visits of entries put down their columns
leaves-visits : (takes : Node → List Node) (some : List Node) (left : List Work) (os ns : List Node) → Leaves takes some left (ns ++ os) → Leaves takes some (map Visit os ++ left) ns
leaves-visits takes some left [] ns h = subst (Leaves takes some left) (append-nil ns) h
leaves-visits takes some left (o ∷ os) ns h = leaves-visits takes some left os (ns ++ o ∷ []) (subst (Leaves takes some left) (sym (append_assoc ns (o ∷ []) os)) h)

typed-visits : (s : Fields) (f : Node → Tree) (os : List Node) (left : List Work) → AreTyped s f os → AreTypedWork s f left → AreTypedWork s f (map Visit os ++ left)
typed-visits s f [] left h k = k
typed-visits s f (o ∷ os) left h k = (h.0, typed-visits s f os left h.1 k)

pub visits-steps : (f : Node → Tree) (os : List Node) (left : List Work) → steps_left f (map Visit os ++ left) ≡ 2 * trees_size (trees_of f os) + steps_left f left
visits-steps f [] left = omega arith
visits-steps f (o ∷ os) left = let rest = visits-steps f os left in omega (arith, rest)

-- the steps
starts : (t : Frame) (a : List AExpr) (es : List Node) (m : SharedColumns) → AreTyped t.schema (tree_at a) es → Remembers t a m → Proceeds t a es (map Visit es ++ []) [] m
starts t a es m typed known = record {
  waiting = [];
  leaves = leaves-visits (operands_at a) es [] es [] refl;
  evaluated = tt;
  typed = typed-visits t.schema (tree_at a) es [] typed tt;
  remembered = known;
}

pub found : (t : Frame) (a : List AExpr) (some : List Node) (n : Node) (left : List Work) (ps : List ComputedColumn) (p : ComputedColumn) (m o : SharedColumns) → Evaluates t (tree_at a n) p → Remembers t a o
    → Proceeds t a some (Visit n ∷ left) ps m → Proceeds t a some left (ps ++ p ∷ []) o
found t a some n left ps p m o e known h = record {
  waiting = h.waiting ++ n ∷ [];
  leaves = h.leaves;
  evaluated = all-push t (tree_at a) h.waiting n ps p h.evaluated e;
  typed = h.typed.1;
  remembered = known;
}

pub visited : (t : Frame) (a : List AExpr) (some : List Node) (n : Node) (left : List Work) (ps : List ComputedColumn) (m o : SharedColumns) → AreTyped t.schema (tree_at a) (operands_at a n) → Remembers t a o
    → Proceeds t a some (Visit n ∷ left) ps m → Proceeds t a some (map Visit (operands_at a n) ++ Compute n ∷ left) ps o
visited t a some n left ps m o typed known h = record {
  waiting = h.waiting;
  leaves = leaves-visits (operands_at a) some (Compute n ∷ left) (operands_at a n) h.waiting (h.waiting, refl, h.leaves);
  evaluated = h.evaluated;
  typed = typed-visits t.schema (tree_at a) (operands_at a n) (Compute n ∷ left) typed (h.typed.0, h.typed.1);
  remembered = known;
}

pub computed : (t : Frame) (a : List AExpr) (some : List Node) (n : Node) (left : List Work) (ps qs rs : List ComputedColumn) (p : ComputedColumn) (m o : SharedColumns) → ps ≡ qs ++ rs → length rs ≡ length (operands_at a n) → Evaluates t (tree_at a n) p → (Remembers t a m → Remembers t a o)
    → Proceeds t a some (Compute n ∷ left) ps m → Proceeds t a some left (qs ++ p ∷ []) o
computed t a some n left ps qs rs p m o is len e known h =
    let below = h.leaves.0 in
    let all = subst (λ (ns : List Node). EvaluateAll t (trees_of (tree_at a) ns) ps) h.leaves.1 h.evaluated in
    record {
      waiting = below ++ n ∷ [];
      leaves = h.leaves.2;
      evaluated = all-push t (tree_at a) below n qs p (two-lists t (tree_at a) below (operands_at a n) qs rs len (subst (EvaluateAll t (trees_of (tree_at a) (below ++ operands_at a n))) is all)).0 e;
      typed = h.typed.1;
      remembered = known h.remembered;
    }

pub waiting-below : (t : Frame) (a : List AExpr) (some : List Node) (n : Node) (left : List Work) (ps : List ComputedColumn) (m : SharedColumns) → Proceeds t a some (Compute n ∷ left) ps m → (below : List Node) × EvaluateAll t (trees_of (tree_at a) (below ++ operands_at a n)) ps
waiting-below t a some n left ps m h = (h.leaves.0, subst (λ (ns : List Node). EvaluateAll t (trees_of (tree_at a) ns) ps) h.leaves.1 h.evaluated)

pub first : (t : Frame) (a : List AExpr) (es ns : List Node) (before left : List Work) (ps : List ComputedColumn) (m : SharedColumns) → reverse left ≡ map Visit ns ++ reverse before → before ≡ [] → ns ≡ es → ps ≡ [] → AreTyped t.schema (tree_at a) es → Remembers t a m
    → Proceeds t a es (reverse left) ps m
first t a es ns before left ps m put none same no_columns typed known =
    let down : reverse left ≡ map Visit es ++ [] = put ∙ ap (λ (ws : List Work). map Visit ns ++ reverse ws) none ∙ ap (λ (xs : List Node). map Visit xs ++ []) same in
    subst (λ (ws : List Work). Proceeds t a es ws ps m) (sym down) (subst (λ (qs : List ComputedColumn). Proceeds t a es (map Visit es ++ []) qs m) (sym no_columns) (starts t a es m typed known))

-- nothing is missing in what has a kind
pub typed-complete : (s : Fields) (f : Node → Tree) (ns : List Node) → AreTyped s f ns → AreComplete (trees_of f ns)
typed-complete s f [] h = tt
typed-complete s f (n ∷ ns) h = (h.0.complete, typed-complete s f ns h.1)

-- what comes next is taken off the end
pub next-first : (left fewer : List Work) (w : Work) → left ≡ fewer ++ w ∷ [] → reverse left ≡ w ∷ reverse fewer
next-first left fewer w is = ap reverse is ∙ reverse-append fewer (w ∷ [])

-- what is put down for an entry
pub put-down : (os ns : List Node) (n : Node) (before left after : List Work) → reverse after ≡ map Visit ns ++ reverse left → ns ≡ os → left ≡ before ++ Compute n ∷ [] → reverse after ≡ map Visit os ++ Compute n ∷ reverse before
put-down os ns n before left after is same more =
    is ∙ ap (λ (xs : List Node). map Visit xs ++ reverse left) same ∙ ap (λ (ws : List Work). map Visit os ++ ws) (next-first left before (Compute n) more)

pub fewer-steps : (f : Node → Tree) (os : List Node) (n : Node) (before ws : List Work) (size : ℕ) → ws ≡ map Visit os ++ Compute n ∷ before → size ≡ suc (trees_size (trees_of f os)) → steps_left f ws < 2 * size + steps_left f before
fewer-steps f os n before ws size is s =
    let e = ap (steps_left f) is ∙ visits-steps f os (Compute n ∷ before) in
    let z = s in
    omega (arith, e, z)

pub less-one : (f : Node → Tree) (w : Work) (n : Node) (left : List Work) → w ≡ Compute n → steps_left f left < steps_left f (w ∷ left)
less-one f w n left is = subst (λ (v : Work). steps_left f left < steps_left f (v ∷ left)) (sym is) (below-suc (steps_left f left))
  where
    below-suc : (k : ℕ) → k < 1 + k
    below-suc k = omega arith

pub whatever : {A E : Type 0} (r : Result A E) (P : Type 0) → P → OnOk r P
whatever (Ok x) P p = p
whatever (Err e) P p = tt
