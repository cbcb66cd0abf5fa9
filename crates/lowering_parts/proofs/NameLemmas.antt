-- Fresh names in order, and expressions under names.
use Rattle.std.proofs.Common.{◌≡◌, ℕ, zero, suc, ◌+◌, ◌<◌, ◌≤◌, List, [], ◌∷◌, ◌++◌, refl, sym, ap, ◌∙◌, arith, length, take, get_or, add-one, min}
use Rattle.pu_base.specs.declared.arena.Node.{Node}
use Rattle.ps_frame.specs.Trees.{Tree}
use Rattle.ps_meaning.specs.Steps.{Name, Named, name_in, named_trees}
use Rattle.ps_meaning.specs.declared.options.ExprIR.{ExprIR}
use Rattle.ps_rules.specs.Names.{Names}
use Rattle.ps_rules.specs.Slots.{State, after_name, after_names, new_name, new_names, under}
use Rattle.ps_fresh.specs.declared.lowering.Lowering.{Lowering}
use Rattle.lowering_parts.specs.Gathered.{trees_at}

-- one more fresh name
pub names_more : {A : Type 0} (xs : List A) (i : ℕ) (s : State) → i < length xs → new_names (take (i + 1) xs) s ≡ new_names (take i xs) s ++ new_name (after_names (take i xs) s) ∷ []
names_more xs i s lt = rw add-one (more xs i s lt)
  where
    more : {A : Type 0} (xs : List A) (i : ℕ) (s : State) → i < length xs → new_names (take (suc i) xs) s ≡ new_names (take i xs) s ++ new_name (after_names (take i xs) s) ∷ []
    more [] i s lt = absurd (omega arith)
    more (x ∷ xs) zero s lt = refl
    more (x ∷ xs) (suc i) s lt = ap (λ ns. new_name s ∷ ns) (more xs i (after_name s) (omega arith))

pub states_more : {A : Type 0} (xs : List A) (i : ℕ) (s : State) → i < length xs → after_names (take (i + 1) xs) s ≡ after_name (after_names (take i xs) s)
states_more xs i s lt = rw add-one (more xs i s lt)
  where
    more : {A : Type 0} (xs : List A) (i : ℕ) (s : State) → i < length xs → after_names (take (suc i) xs) s ≡ after_name (after_names (take i xs) s)
    more [] i s lt = absurd (omega arith)
    more (x ∷ xs) zero s lt = refl
    more (x ∷ xs) (suc i) s lt = more xs i (after_name s) (omega arith)

-- one more expression under its name
pub under_more : (f : Node → Tree) (ns : List Name) (xs : List Node) (i : ℕ) (d : Node) → i < length ns → i < length xs
    → under (take (i + 1) ns) (trees_at f (take (i + 1) xs)) ≡ under (take i ns) (trees_at f (take i xs)) ++ (get_or ns i [], f (get_or xs i d)) ∷ []
under_more f ns xs i d ln lx = rw add-one (more ns xs i ln lx)
  where
    more : (ns : List Name) (xs : List Node) (i : ℕ) → i < length ns → i < length xs
        → under (take (suc i) ns) (trees_at f (take (suc i) xs)) ≡ under (take i ns) (trees_at f (take i xs)) ++ (get_or ns i [], f (get_or xs i d)) ∷ []
    more [] xs i ln lx = absurd (omega arith)
    more (n ∷ ns) [] i ln lx = absurd (omega arith)
    more (n ∷ ns) (x ∷ xs) zero ln lx = refl
    more (n ∷ ns) (x ∷ xs) (suc i) ln lx = ap (λ es. (n, f x) ∷ es) (more ns xs i (omega arith) (omega arith))

-- what stands behind the shorter of both isn't used
pub under_shorter : (f : Node → Tree) (ns : List Name) (xs : List Node) → under (take (min (length ns) (length xs)) ns) (trees_at f (take (min (length ns) (length xs)) xs)) ≡ under ns (trees_at f xs)
under_shorter f ns xs = by (min (length ns) (length xs)) ns xs (omega arith)
  where
    by : (k : ℕ) (ns : List Name) (xs : List Node) → k ≡ min (length ns) (length xs) → under (take k ns) (trees_at f (take k xs)) ≡ under ns (trees_at f xs)
    by k [] xs e = under_none k xs
      where
        under_none : (k : ℕ) (xs : List Node) → under (take k []) (trees_at f (take k xs)) ≡ []
        under_none zero xs = refl
        under_none (suc k) xs = refl
    by zero (n ∷ ns) [] e = refl
    by (suc k) (n ∷ ns) [] e = absurd (omega arith)
    by zero (n ∷ ns) (x ∷ xs) e = absurd (omega arith)
    by (suc k) (n ∷ ns) (x ∷ xs) e = ap (λ es. (n, f x) ∷ es) (by k ns xs (omega arith))

pub named_more : (f : Node → Tree) (es : List ExprIR) (e : ExprIR) → named_trees f (es ++ e ∷ []) ≡ named_trees f es ++ named_trees f (e ∷ [])
named_more f [] e = refl
named_more f (x ∷ es) e = ap (λ more. (name_in x.output_name, f x.node) ∷ more) (named_more f es e)

pub fresh_step : {A : Type 0} (xs : List A) (i : ℕ) (s state : State) (now next : List Name) (name : Name) → i < length xs → next ≡ now ++ name ∷ [] → name ≡ new_name state → now ≡ new_names (take i xs) s
    → state ≡ after_names (take i xs) s → next ≡ new_names (take (i + 1) xs) s
fresh_step xs i s state now next name lt e n h w = e ∙ (λ j. h j ++ (n ∙ ap new_name w) j ∷ []) ∙ sym (names_more xs i s lt)

pub state_step : {A : Type 0} (xs : List A) (i : ℕ) (s state next : State) → i < length xs → next ≡ after_name state → state ≡ after_names (take i xs) s → next ≡ after_names (take (i + 1) xs) s
state_step xs i s state next lt e w = e ∙ ap after_name w ∙ sym (states_more xs i s lt)

pub under_step : (f : Node → Tree) (ns : List Name) (xs : List Node) (i : ℕ) (d : Node) (now next : List ExprIR) (e : ExprIR) → i < length ns → i < length xs → next ≡ now ++ e ∷ []
    → name_in e.output_name ≡ get_or ns i [] → e.node ≡ get_or xs i d → named_trees f now ≡ under (take i ns) (trees_at f (take i xs)) → named_trees f next ≡ under (take (i + 1) ns) (trees_at f (take (i + 1) xs))
under_step f ns xs i d now next e ln lx w name node h =
    ap (named_trees f) w ∙ named_more f now e ∙ (λ j. h j ++ (name j, f (node j)) ∷ []) ∙ sym (under_more f ns xs i d ln lx)

pub under_end : (f : Node → Tree) (ns : List Name) (xs : List Node) (i k : ℕ) (es : List Named) → k ≡ min (length ns) (length xs) → k ≤ i → i ≤ k → es ≡ under (take i ns) (trees_at f (take i xs)) → es ≡ under ns (trees_at f xs)
under_end f ns xs i k es m le ge h =
    let e : i ≡ min (length ns) (length xs) = omega arith in
    h ∙ ap (λ j. under (take j ns) (trees_at f (take j xs))) e ∙ under_shorter f ns xs

-- only the names of a lowering have changed
pub others_stay : (a b c : Lowering) (n : Names) → c ≡ record b { names = n } → b ≡ record a { names = b.names } → c ≡ record a { names = c.names }
others_stay a b c n e h = let m = ap (λ (l : Lowering). l.names) e in e ∙ (λ i. record (h i) { names = n }) ∙ (λ i. record a { names = sym m i })

-- an item of a list is the same whatever stands past its end
pub same_item : (ns : List Name) (i : ℕ) (d : Name) → i < length ns → get_or ns i d ≡ get_or ns i []
same_item [] i d lt = absurd (omega arith)
same_item (n ∷ ns) zero d lt = refl
same_item (n ∷ ns) (suc i) d lt = same_item ns i d (omega arith)
