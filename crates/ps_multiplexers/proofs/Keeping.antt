-- Multiplexers keep what each node means.
use Rattle.std.proofs.Common.{◌≡◌, inl, inr, ℕ, zero, suc, ◌+◌, ◌-◌, ◌<◌, Bool, true, false, get_or, List, [], ◌∷◌, ◌++◌, length, map, Option, Some, None, refl, sym, ap, subst, ◌∙◌, arith}
use Rattle.std.proofs.lemmas.List.{length-append}
use Rattle.std.proofs.lemmas.Bool.{eqb-true, le-ltb, lt-ltb, ltb-false, ltb-true}
use Rattle.std.specs.Prelude.{if◌then◌else◌, nat_lt, slice_get, ◌↔◌, ◌==◌}
use Rattle.std.specs.List.{AllByRecursion}
use Rattle.ps_frame.specs.Functions.{Functions}
use Rattle.ps_frame.specs.Tables.{Table}
use Rattle.ps_meaning.specs.Shape.{IsPhysicalChoice, PhysicalCase, PhysicalMeans, PhysicalNode, Shape, input_tables, multiplexer}
use Rattle.ps_multiplexers.specs.Multiplexers.{changed, inputs_through, multiplexer_number, multiplexer_of, port_or_stream, rewired, times, with_inputs}
use Rattle.ps_phys.specs.Walks.{Stream, node_at, numbers_of}

abbrev tables : (ℕ → Table) → List Stream → List Table
tables c is = map (λ (i : Stream). c i.0) is

-- two nodes that differ in what they read, but not in the tables that come from there
record ReadsAlike (c : ℕ → Table) (p q : PhysicalNode) : Type 0 where
  kind : p.kind ≡ q.kind
  schema : p.schema ≡ q.schema
  origin : p.origin ≡ q.origin
  same : tables c p.inputs ≡ tables c q.inputs

abbrev AllAlike : (ℕ → Table) → Shape → Shape → Type 0
AllAlike c [] [] = Unit {0}
AllAlike c [] (q ∷ qs) = ⊥
AllAlike c (p ∷ ps) [] = ⊥
AllAlike c (p ∷ ps) (q ∷ qs) = ReadsAlike c p q × AllAlike c ps qs

module _ (c : ℕ → Table) where
  alike-self : (ps : Shape) → AllAlike c ps ps
  alike-self [] = tt
  alike-self (p ∷ ps) = (record { kind = refl; schema = refl; origin = refl; same = refl }, alike-self ps)

  alike-back : (ps qs : Shape) → AllAlike c ps qs → AllAlike c qs ps
  alike-back [] [] a = tt
  alike-back [] (q ∷ qs) a = a
  alike-back (p ∷ ps) [] a = a
  alike-back (p ∷ ps) (q ∷ qs) a = (record { kind = sym a.0.kind; schema = sym a.0.schema; origin = sym a.0.origin; same = sym a.0.same }, alike-back ps qs a.1)

  alike-on : (ps qs rs : Shape) → AllAlike c ps qs → AllAlike c qs rs → AllAlike c ps rs
  alike-on [] [] [] a b = tt
  alike-on [] [] (r ∷ rs) a b = b
  alike-on [] (q ∷ qs) rs a b = absurd a
  alike-on (p ∷ ps) [] rs a b = absurd a
  alike-on (p ∷ ps) (q ∷ qs) [] a b = b
  alike-on (p ∷ ps) (q ∷ qs) (r ∷ rs) a b =
      (record { kind = a.0.kind ∙ b.0.kind; schema = a.0.schema ∙ b.0.schema; origin = a.0.origin ∙ b.0.origin; same = a.0.same ∙ b.0.same }, alike-on ps qs rs a.1 b.1)

  changed-alike : (nodes : Shape) (n : ℕ) (inputs : List Stream) → tables c (node_at nodes n).inputs ≡ tables c inputs → AllAlike c nodes (changed n (with_inputs inputs) nodes)
  changed-alike [] n inputs e = tt
  changed-alike (p ∷ ps) zero inputs e = (record { kind = refl; schema = refl; origin = refl; same = e }, alike-self ps)
  changed-alike (p ∷ ps) (suc n) inputs e = (record { kind = refl; schema = refl; origin = refl; same = refl }, changed-alike ps n inputs e)

  alike-at : (ps qs : Shape) (n : ℕ) (q : PhysicalNode) → AllAlike c ps qs → slice_get qs n ≡ Some q → (p : PhysicalNode) × (slice_get ps n ≡ Some p) × ReadsAlike c p q
  alike-at [] [] n q a e = cc
  alike-at [] (r ∷ qs) n q a e = absurd a
  alike-at (p ∷ ps) [] n q a e = absurd a
  alike-at (p ∷ ps) (r ∷ qs) zero q a e = let is : r ≡ q = cc in let P : PhysicalNode → Type 0 = λ x. ReadsAlike c p x in (p, refl, subst P is a.0)
  alike-at (p ∷ ps) (r ∷ qs) (suc n) q a e = alike-at ps qs n q a.1 e

  module _ (number : ℕ → Option ℕ) (agrees : (n k : ℕ) → number n ≡ Some k → c n ≡ c k) where
    table-through : (s : Stream) (m : Option ℕ) (others : ℕ) → number s.0 ≡ m → c s.0 ≡ c (port_or_stream s m others).0
    table-through s None others e = refl
    table-through s (Some k) others e = agrees s.0 k e

    tables-through : (before : List ℕ) (ss : List Stream) → tables c ss ≡ tables c (inputs_through number before ss)
    tables-through before [] = refl
    tables-through before (s ∷ ss) = λ i. table-through s (number s.0) (times s.0 before) refl i ∷ tables-through (before ++ s.0 ∷ []) ss i

    rewired-alike : (walk before : List ℕ) (nodes : Shape) → AllAlike c nodes (rewired number before walk nodes)
    rewired-alike [] before nodes = alike-self nodes
    rewired-alike (n ∷ walk) before nodes =
        let inputs = (node_at nodes n).inputs in
        let next = changed n (with_inputs (inputs_through number before inputs)) nodes in
        alike-on nodes next (rewired number (before ++ numbers_of inputs) walk next) (changed-alike nodes n (inputs_through number before inputs) (tables-through before inputs)) (rewired-alike walk (before ++ numbers_of inputs) next)

  module _ (F : Functions) where
    case-alike : (p q : PhysicalNode) (T : Table) → ReadsAlike c p q → PhysicalCase F p (input_tables F c p) T → PhysicalCase F q (input_tables F c q) T
    case-alike p q T a here =
        let P : PhysicalNode → Type 0 = λ x. PhysicalCase F x (tables c p.inputs) T in
        let Q : List Table → Type 0 = λ ts. PhysicalCase F q ts T in
        let over : record p { inputs = q.inputs } ≡ q = λ i. record { kind = a.kind i; schema = a.schema i; origin = a.origin i; inputs = q.inputs } in
        subst Q a.same (subst P over here)

    -- a choice for nodes is one for those that read alike
    choice-alike : (ps qs : Shape) → AllAlike c ps qs → IsPhysicalChoice F ps c → IsPhysicalChoice F qs c
    choice-alike ps qs a choice n q e =
        let at = alike-at ps qs n q a e in
        case-alike at.0 q (c n) at.2 (choice n at.0 at.1)

-- nodes behind others
pub get-left : {A : Type 0} (xs ys : List A) (n : ℕ) → n < length xs → slice_get (xs ++ ys) n ≡ slice_get xs n
get-left [] ys n h = absurd (omega (arith, h))
get-left (x ∷ xs) ys zero h = refl
get-left (x ∷ xs) ys (suc n) h = get-left xs ys n (omega (arith, h))

pub get-right : {A : Type 0} (xs ys : List A) (n : ℕ) → slice_get (xs ++ ys) (length xs + n) ≡ slice_get ys n
get-right [] ys n = ap (λ m. slice_get ys m) (omega arith)
get-right (x ∷ xs) ys n = let P : ℕ → Type 0 = λ m. slice_get (x ∷ (xs ++ ys)) m ≡ slice_get ys n in let e : suc (length xs + n) ≡ suc (length xs) + n = omega arith in subst P e (get-right xs ys n)

get-within : {A : Type 0} (xs : List A) (n : ℕ) (x : A) → slice_get xs n ≡ Some x → n < length xs
get-within [] n x e = cc
get-within (y ∷ ys) zero x e = omega arith
get-within (y ∷ ys) (suc n) x e = let l = get-within ys n x e in omega (arith, l)

pub node-left : (xs ys : Shape) (n : ℕ) → n < length xs → node_at (xs ++ ys) n ≡ node_at xs n
node-left [] ys n h = absurd (omega (arith, h))
node-left (x ∷ xs) ys zero h = refl
node-left (x ∷ xs) ys (suc n) h = node-left xs ys n (omega (arith, h))

changed-left : (g : PhysicalNode → PhysicalNode) (xs ys : Shape) (n : ℕ) → n < length xs → changed n g (xs ++ ys) ≡ changed n g xs ++ ys
changed-left g [] ys n h = absurd (omega (arith, h))
changed-left g (x ∷ xs) ys zero h = refl
changed-left g (x ∷ xs) ys (suc n) h = ap (λ zs. x ∷ zs) (changed-left g xs ys n (omega (arith, h)))

changed-length : (g : PhysicalNode → PhysicalNode) (xs : Shape) (n : ℕ) → length (changed n g xs) ≡ length xs
changed-length g [] n = refl
changed-length g (x ∷ xs) zero = refl
changed-length g (x ∷ xs) (suc n) = ap (λ m. suc m) (changed-length g xs n)

pub rewired-length : (number : ℕ → Option ℕ) (walk before : List ℕ) (nodes : Shape) → length (rewired number before walk nodes) ≡ length nodes
rewired-length number [] before nodes = refl
rewired-length number (n ∷ walk) before nodes =
    let inputs = (node_at nodes n).inputs in
    let g = with_inputs (inputs_through number before inputs) in
    rewired-length number walk (before ++ numbers_of inputs) (changed n g nodes) ∙ changed-length g nodes n

abbrev pub AllBelow : ℕ → List ℕ → Type 0
AllBelow k ns = AllByRecursion (λ (n : ℕ). n < k) ns

-- what stands behind the nodes of the walk is left alone
pub rewired-left : (number : ℕ → Option ℕ) (walk before : List ℕ) (xs ys : Shape) → AllBelow (length xs) walk → rewired number before walk (xs ++ ys) ≡ rewired number before walk xs ++ ys
rewired-left number [] before xs ys below = refl
rewired-left number (n ∷ walk) before xs ys below =
    let P : ℕ → Type 0 = λ m. AllBelow m walk in
    let inputs = (node_at xs n).inputs in
    let g = with_inputs (inputs_through number before inputs) in
    let at = ap (λ (p : PhysicalNode). p.inputs) (node-left xs ys n below.0) in
    (λ i. rewired number (before ++ numbers_of (at i)) walk (changed n (with_inputs (inputs_through number before (at i))) (xs ++ ys)))
    ∙ ap (λ ps. rewired number (before ++ numbers_of inputs) walk ps) (changed-left g xs ys n below.0)
    ∙ rewired-left number walk (before ++ numbers_of inputs) (changed n g xs) ys (subst P (sym (changed-length g xs n)) below.1)

-- the multiplexer of a number
pub number-place : (nodes : Shape) (k : ℕ) (ms : List ℕ) (n m : ℕ) → multiplexer_number k ms n ≡ Some m → (j : ℕ) × (m ≡ k + j) × (slice_get (map (multiplexer_of nodes) ms) j ≡ Some (multiplexer_of nodes n)) × (j < length ms) × (get_or ms j 0 ≡ n)
number-place nodes k [] n m e = cc
number-place nodes k (x ∷ ms) n m e = by (x == n) refl e (λ f. number-place nodes (k + 1) ms n m f)
  where
    by : (b : Bool) → x == n ≡ b → (if b then Some k else multiplexer_number (k + 1) ms n) ≡ Some m
        → (multiplexer_number (k + 1) ms n ≡ Some m → (j : ℕ) × (m ≡ k + 1 + j) × (slice_get (map (multiplexer_of nodes) ms) j ≡ Some (multiplexer_of nodes n)) × (j < length ms) × (get_or ms j 0 ≡ n))
        → (j : ℕ) × (m ≡ k + j) × (slice_get (map (multiplexer_of nodes) (x ∷ ms)) j ≡ Some (multiplexer_of nodes n)) × (j < length (x ∷ ms)) × (get_or (x ∷ ms) j 0 ≡ n)
    by true is f rest = let same : k ≡ m = cc in (zero, sym same ∙ omega arith, ap (λ y. Some (multiplexer_of nodes y)) (eqb-true x n is), omega arith, eqb-true x n is)
    by false is f rest = let r = rest f in let l = r.3 in let s = r.1 in (suc r.0, omega (arith, s), r.2, omega (arith, l), r.4)

abbrev pub AreInside : Shape → Type 0
AreInside nodes = (n : ℕ) (p : PhysicalNode) → slice_get nodes n ≡ Some p → AllByRecursion (λ (i : Stream). i.0 < length nodes) p.inputs

mux-only : (F : Functions) (nodes : Shape) (n : ℕ) (t T : Table) → PhysicalCase F (multiplexer_of nodes n) (t ∷ []) T → T ≡ t
mux-only F nodes n t T (U, inl e, is) = is ∙ e
mux-only F nodes n t T (U, inr (V, gives, lost, at), is) = absurd (lost refl)

mux-gives : (F : Functions) (nodes : Shape) (n : ℕ) (t : Table) → PhysicalCase F (multiplexer_of nodes n) (t ∷ []) t
mux-gives F nodes n t = (t, inl refl, refl)

all-get : (k : ℕ) (ms : List ℕ) (j : ℕ) → AllBelow k ms → j < length ms → get_or ms j 0 < k
all-get k [] j below h = absurd (omega (arith, h))
all-get k (m ∷ ms) zero below h = below.0
all-get k (m ∷ ms) (suc j) below h = all-get k ms j below.1 (omega (arith, h))

map-got : (g : ℕ → PhysicalNode) (ms : List ℕ) (j : ℕ) (q : PhysicalNode) → slice_get (map g ms) j ≡ Some q → (g (get_or ms j 0) ≡ q) × (j < length ms)
map-got g [] j q e = cc
map-got g (m ∷ ms) zero q e = let is : g m ≡ q = cc in (is, omega arith)
map-got g (m ∷ ms) (suc j) q e = let r = map-got g ms j q e in let l = r.1 in (r.0, omega (arith, l))

module _ (F : Functions) (nodes : Shape) (walk several : List ℕ) (walk_below : AllBelow (length nodes) walk) (several_below : AllBelow (length nodes) several) where
  abbrev number : ℕ → Option ℕ
  number = multiplexer_number (length nodes) several

  abbrev behind : Shape
  behind = map (multiplexer_of nodes) several

  abbrev front : Shape
  front = rewired number [] walk nodes

  front-length : length front ≡ length nodes
  front-length = rewired-length number walk [] nodes

  right-at : (j : ℕ) → slice_get (front ++ behind) (length nodes + j) ≡ slice_get behind j
  right-at j = let P : ℕ → Type 0 = λ m. slice_get (front ++ behind) (m + j) ≡ slice_get behind j in subst P front-length (get-right front behind j)

  left-at : (n : ℕ) → n < length nodes → slice_get (front ++ behind) n ≡ slice_get front n
  left-at n h = let e = front-length in get-left front behind n (omega (arith, h, e))

  -- a choice for what stands afterwards is one for what stood before
  module _ (c : ℕ → Table) (choice : IsPhysicalChoice F (front ++ behind) c) where
    agrees : (n k : ℕ) → number n ≡ Some k → c n ≡ c k
    agrees n k e =
        let r = number-place nodes (length nodes) several n k e in
        let P : ℕ → Type 0 = λ m. slice_get (front ++ behind) m ≡ Some (multiplexer_of nodes n) in
        sym (mux-only F nodes n (c n) (c k) (choice k (multiplexer_of nodes n) (subst P (sym r.1) (right-at r.0 ∙ r.2))))

    front-choice : IsPhysicalChoice F front c
    front-choice n p e = let l = get-within front n p e in let f = front-length in choice n p (left-at n (omega (arith, l, f)) ∙ e)

    chosen-before : IsPhysicalChoice F nodes c
    chosen-before = choice-alike c F front nodes (alike-back c nodes front (rewired-alike c number agrees walk [] nodes)) front-choice

  -- and a choice for what stood before goes on to the multiplexers
  module _ (inside : AreInside nodes) (c : ℕ → Table) (choice : IsPhysicalChoice F nodes c) where
    after : ℕ → Table
    after n = if nat_lt n (length nodes) then c n else c (get_or several (n - length nodes) 0)

    low : (n : ℕ) → n < length nodes → after n ≡ c n
    unfolding after
    low n h = ap (λ b. if b then c n else c (get_or several (n - length nodes) 0)) (lt-ltb n (length nodes) h)

    high : (j : ℕ) → after (length nodes + j) ≡ c (get_or several j 0)
    unfolding after
    high j =
        ap (λ b. if b then c (length nodes + j) else c (get_or several (length nodes + j - length nodes) 0)) (le-ltb (length nodes + j) (length nodes) (omega arith))
        ∙ ap (λ m. c (get_or several m 0)) (let e : length nodes + j - length nodes ≡ j = omega arith in e)

    tables-low : (is : List Stream) → AllByRecursion (λ (i : Stream). i.0 < length nodes) is → tables c is ≡ tables after is
    tables-low [] all = refl
    tables-low (i ∷ is) all = λ k. sym (low i.0 all.0) k ∷ tables-low is all.1 k

    nodes-choice : IsPhysicalChoice F nodes after
    nodes-choice n p e =
        let P : List Table → Type 0 = λ ts. PhysicalCase F p ts (after n) in
        let Q : Table → Type 0 = λ T. PhysicalCase F p (tables c p.inputs) T in
        subst P (tables-low p.inputs (inside n p e)) (subst Q (sym (low n (get-within nodes n p e))) (choice n p e))

    agrees-after : (n k : ℕ) → number n ≡ Some k → after n ≡ after k
    agrees-after n k e =
        let r = number-place nodes (length nodes) several n k e in
        let P : ℕ → Type 0 = λ m. m < length nodes in
        low n (subst P r.4 (all-get (length nodes) several r.0 several_below r.3)) ∙ ap c (sym r.4) ∙ sym (high r.0) ∙ ap after (sym r.1)

    front-after : IsPhysicalChoice F front after
    front-after = choice-alike after F nodes front (rewired-alike after number agrees-after walk [] nodes) nodes-choice

    behind-case : (n j : ℕ) (q : PhysicalNode) → n ≡ length nodes + j → slice_get (front ++ behind) n ≡ Some q → PhysicalCase F q (input_tables F after q) (after n)
    behind-case n j q is e =
        let P : ℕ → Type 0 = λ m. slice_get (front ++ behind) m ≡ Some q in
        let got = map-got (multiplexer_of nodes) several j q (sym (right-at j) ∙ subst P is e) in
        let m = get_or several j 0 in
        let Q : PhysicalNode → Type 0 = λ x. PhysicalCase F x (input_tables F after x) (after n) in
        let R : Table → Type 0 = λ T. PhysicalCase F (multiplexer_of nodes m) (after m ∷ []) T in
        subst Q got.0 (subst R (low m (all-get (length nodes) several j several_below got.1) ∙ sym (high j) ∙ ap after (sym is)) (mux-gives F nodes m (after m)))

    chosen-after : IsPhysicalChoice F (front ++ behind) after
    chosen-after n q e = by (nat_lt n (length nodes)) refl
      where
        by : (b : Bool) → nat_lt n (length nodes) ≡ b → PhysicalCase F q (input_tables F after q) (after n)
        by true l = front-after n q (sym (left-at n (ltb-true n (length nodes) l)) ∙ e)
        by false l = let above = ltb-false n (length nodes) l in behind-case n (n - length nodes) q (omega (arith, above)) e

  -- each node that stood before means the same
  pub means-same : AreInside nodes → (n : ℕ) (T : Table) → n < length nodes → PhysicalMeans F nodes n T ↔ PhysicalMeans F (front ++ behind) n T
  means-same inside n T within = (
    λ m. (after inside m.0 m.1, chosen-after inside m.0 m.1, longer, low inside m.0 m.1 n within ∙ m.3),
    λ m. (m.0, chosen-before m.0 m.1, within, m.3),
  )
    where
      longer : n < length (front ++ behind)
      longer = let l = length-append front behind in let f = front-length in omega (arith, within, l, f)
