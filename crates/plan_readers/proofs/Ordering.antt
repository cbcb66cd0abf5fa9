-- The shape of physical nodes in an order: what stands at its places, its inputs, and their readers.
use Rattle.std.proofs.Common.{◌≡◌, ℕ, zero, suc, ◌+◌, ◌<◌, ◌≤◌, ◌⊎◌, Bool, true, false, cond, List, [], ◌∷◌, ◌++◌, Option, None, Some, Result, Ok, Err, length, take, drop, get_or, refl, ap, sym, subst, ◌∙◌, arith, inl, inr}
use Rattle.std.specs.Prelude.{IfOk, IsTrue, MatchOption, ◌&&◌, map, slice_get, unwrap_or, filter as kept, ◌==◌}
use Rattle.std.specs.List.{count_by}
use Rattle.std.proofs.lemmas.Bool.{eqb-false, eqb-true}
use Rattle.std.proofs.lemmas.List.Recursion.{is_count_by}
use Rattle.std.proofs.lemmas.List.Sums.{length-filter}
use Rattle.keyed_slots.specs.Slots.{value_at}
use Rattle.pu_base.specs.declared.arena.Node.{Node}
use Rattle.ps_frame.specs.Trees.{Tree}
use Rattle.ps_frame.specs.declared.refusal.PolarsError.{PolarsError}
use Rattle.ps_meaning.specs.Shape.{PhysicalKind, PhysicalNode, Shape}
use Rattle.ps_meaning.specs.Sound.{EachNode, HasOneReaderEach, HasReaders, all_inputs, readers_of}
use Rattle.ps_phys.specs.Placed.{IsPlaced, placed}
use Rattle.ps_phys.specs.Shown.{inputs_of, node_of_slot, nodes_of, physical_node}
use Rattle.ps_phys.specs.Underway.{numbers_in}
use Rattle.ps_phys.specs.Walks.{Stream, node_at, place_in, renumbered, renumbered_input}
use Rattle.ps_phys.specs.declared.phys.PhysNode.{PhysNode}
use Rattle.ps_phys.specs.declared.phys.PhysNodeKey.{PhysNodeKey}
use Rattle.plan_readers.specs.Ordered.{AreEarlier, ordered}
use Rattle.plan_readers.specs.Readers.{IsReadAs, ports_read}

pub map-at : {A B : Type 0} (g : A → B) (xs : List A) (k : ℕ) (x : A) → slice_get xs k ≡ Some x → slice_get (map g xs) k ≡ Some (g x)
map-at g [] k x e = cc
map-at g (y ∷ xs) zero x e = let is : y ≡ x = cc in ap (λ z. Some (g z)) is
map-at g (y ∷ xs) (suc k) x e = map-at g xs k x e

-- the node of a number
node-shown : (f : Node → Tree) (slots : List (Option PhysNode)) (n : ℕ) (p : PhysNode) → value_at slots n ≡ Some p → node_at (nodes_of f slots) n ≡ physical_node f p
node-shown f [] n p e = cc
node-shown f (s ∷ slots) zero p e = ap (node_of_slot f) e
node-shown f (s ∷ slots) (suc n) p e = node-shown f slots n p e

numbers-at : (ks : List PhysNodeKey) (k : ℕ) (key : PhysNodeKey) → slice_get ks k ≡ Some key → slice_get (numbers_in ks) k ≡ Some key.0
numbers-at ks k key e = map-at (λ (x : PhysNodeKey). x.0) ks k key e

pub numbers-count : (ks : List PhysNodeKey) → length (numbers_in ks) ≡ length ks
numbers-count [] = refl
numbers-count (x ∷ ks) = ap suc (numbers-count ks)

module _ (f : Node → Tree) (slots : List (Option PhysNode)) (ks : List PhysNodeKey) where
  abbrev numbered : PhysicalNode → PhysicalNode
  numbered p = renumbered (numbers_in ks) p

  -- what stands at a place
  pub node-stands : (k : ℕ) (key : PhysNodeKey) (p : PhysNode) → slice_get ks k ≡ Some key → value_at slots key.0 ≡ Some p → slice_get (ordered f slots ks) k ≡ Some (numbered (physical_node f p))
  node-stands k key p at there =
      map-at (λ n. numbered (node_at (nodes_of f slots) n)) (numbers_in ks) k key.0 (numbers-at ks k key at) ∙ ap (λ q. Some (numbered q)) (node-shown f slots key.0 p there)

-- it holds of the nodes before a place
abbrev pub EachBefore : Shape → (ℕ → PhysicalNode → Type 0) → ℕ → Type 0
EachBefore shape P k = (n : ℕ) (p : PhysicalNode) → n < k → slice_get shape n ≡ Some p → P n p

pub each-next : (shape : Shape) (P : ℕ → PhysicalNode → Type 0) (k : ℕ) (q : PhysicalNode) → slice_get shape k ≡ Some q → P k q → EachBefore shape P k → EachBefore shape P (k + 1)
each-next shape P k q at here before n p l is = by (n == k) refl
  where
    some-same : (x y : PhysicalNode) → Some x ≡ Some y → x ≡ y
    some-same x y e = cc

    unlike : (a b : ℕ) → a == b ≡ false → a < b + 1 → a < b
    unlike a b e l = rest (split a b)
      where
        split : (a b : ℕ) → (a < b) ⊎ (a ≡ b) ⊎ (b < a)
        split zero zero = inr (inl refl)
        split zero (suc b) = inl (omega arith)
        split (suc a) zero = inr (inr (omega arith))
        split (suc a) (suc b) = next (split a b)
          where
            next : (a < b) ⊎ (a ≡ b) ⊎ (b < a) → (suc a < suc b) ⊎ (suc a ≡ suc b) ⊎ (suc b < suc a)
            next (inl h) = inl (omega (arith, h))
            next (inr (inl h)) = inr (inl (ap suc h))
            next (inr (inr h)) = inr (inr (omega (arith, h)))

        rest : (a < b) ⊎ (a ≡ b) ⊎ (b < a) → a < b
        rest (inl h) = h
        rest (inr (inl h)) = absurd (eqb-false a b e h)
        rest (inr (inr h)) = absurd (omega (arith, h, l))

    by : (b : Bool) → n == k ≡ b → P n p
    by true e =
        let same : n ≡ k = eqb-true n k e in
        let one : Some q ≡ Some p = sym at ∙ ap (slice_get shape) (sym same) ∙ is in
        let node : q ≡ p = some-same q p one in
        subst (λ m. P m p) (sym same) (subst (P k) node here)
    by false e = before n p (unlike n k e l) is

within-shape : (xs : Shape) (n : ℕ) (p : PhysicalNode) → slice_get xs n ≡ Some p → n < length xs
within-shape [] n p e = cc
within-shape (x ∷ xs) zero p e = omega arith
within-shape (x ∷ xs) (suc n) p e = let rest = within-shape xs n p e in omega (arith, rest)

pub each-end : (shape : Shape) (P : ℕ → PhysicalNode → Type 0) (k : ℕ) → length shape ≤ k → EachBefore shape P k → EachNode shape P
each-end shape P k l before n p at = let inside = within-shape shape n p at in before n p (omega (arith, l, inside)) at

pub shape-length : (f : Node → Tree) (slots : List (Option PhysNode)) (ks : List PhysNodeKey) → length (ordered f slots ks) ≡ length ks
shape-length f slots ks = map-long (λ n. renumbered (numbers_in ks) (node_at (nodes_of f slots) n)) (numbers_in ks) ∙ numbers-count ks
  where
    map-long : (g : ℕ → PhysicalNode) (ns : List ℕ) → length (map g ns) ≡ length ns
    map-long g [] = refl
    map-long g (n ∷ ns) = ap suc (map-long g ns)

-- an input told by places, with the number of places where its node has none
placed-is : (xs : List ℕ) (places : List (Option ℕ)) → IsPlaced xs places → (count : ℕ) → count ≡ length xs → (i : Stream) → placed places count i ≡ renumbered_input xs i
placed-is xs places told count long i = let P : ℕ → Stream = λ n. (n, i.1) in ap P (by (value_at places i.0) (told i.0))
  where
    by : (o : Option ℕ) → MatchOption o (place_in xs i.0 ≡ length xs) (λ p. (place_in xs i.0 ≡ p) × (p < length xs)) → unwrap_or o count ≡ place_in xs i.0
    by None h = long ∙ sym h
    by (Some p) h = sym h.0

inputs-placed : (xs : List ℕ) (places : List (Option ℕ)) → IsPlaced xs places → (count : ℕ) → count ≡ length xs → (is : List Stream) → map (placed places count) is ≡ map (renumbered_input xs) is
inputs-placed xs places told count long [] = refl
inputs-placed xs places told count long (i ∷ is) =
    let first = placed-is xs places told count long i in
    let rest = inputs-placed xs places told count long is in
    λ j. first j ∷ rest j

take-one : (xs : Shape) (k : ℕ) (x : PhysicalNode) → slice_get xs k ≡ Some x → take (k + 1) xs ≡ take k xs ++ x ∷ []
take-one [] k x e = cc
take-one (y ∷ xs) zero x e = let is : y ≡ x = cc in ap (λ z. z ∷ []) is
take-one (y ∷ xs) (suc k) x e =
    let next : suc (k + 1) ≡ suc k + 1 = omega arith in
    let P : ℕ → Type 0 = λ m. take m (y ∷ xs) ≡ take (suc k) (y ∷ xs) ++ x ∷ [] in
    subst P next (ap (λ zs. y ∷ zs) (take-one xs k x e))

inputs-append : (xs : Shape) (x : PhysicalNode) → all_inputs (xs ++ x ∷ []) ≡ all_inputs xs ++ x.inputs
inputs-append [] x = none x.inputs
  where
    none : (is : List Stream) → is ++ [] ≡ is
    none [] = refl
    none (i ∷ is) = ap (λ js. i ∷ js) (none is)
inputs-append (y ∷ xs) x = ap (λ js. y.inputs ++ js) (inputs-append xs x) ∙ both y.inputs (all_inputs xs) x.inputs
  where
    both : (a b c : List Stream) → a ++ (b ++ c) ≡ (a ++ b) ++ c
    both [] b c = refl
    both (i ∷ a) b c = ap (λ js. i ∷ js) (both a b c)

-- the inputs of one node more
pub inputs-next : (f : Node → Tree) (slots : List (Option PhysNode)) (ks : List PhysNodeKey) (k : ℕ) (key : PhysNodeKey) (p : PhysNode) (places : List (Option ℕ)) (count : ℕ) (old new : List (ℕ × ℕ)) → slice_get ks k ≡ Some key → value_at slots key.0 ≡ Some p
    → IsPlaced (numbers_in ks) places → count ≡ length ks → new ≡ old ++ map (placed places count) (inputs_of p.kind) → old ≡ all_inputs (take k (ordered f slots ks)) → new ≡ all_inputs (take (k + 1) (ordered f slots ks))
inputs-next f slots ks k key p places count old new at there told long more before =
    let node = renumbered (numbers_in ks) (physical_node f p) in
    more ∙ (λ j. before j ++ inputs-placed (numbers_in ks) places told count (long ∙ sym (numbers-count ks)) (inputs_of p.kind) j) ∙ sym (inputs-append (take k (ordered f slots ks)) node)
    ∙ ap all_inputs (sym (take-one (ordered f slots ks) k node (node-stands f slots ks k key p at there)))

take-whole : (xs : Shape) (k : ℕ) → length xs ≤ k → take k xs ≡ xs
take-whole [] zero h = refl
take-whole [] (suc k) h = refl
take-whole (x ∷ xs) zero h = absurd (omega (arith, h))
take-whole (x ∷ xs) (suc k) h = ap (λ ys. x ∷ ys) (take-whole xs k (omega (arith, h)))

pub inputs-end : (f : Node → Tree) (slots : List (Option PhysNode)) (ks : List PhysNodeKey) (k : ℕ) (now : List (ℕ × ℕ)) → length ks ≤ k → now ≡ all_inputs (take k (ordered f slots ks)) → now ≡ all_inputs (ordered f slots ks)
inputs-end f slots ks k now l before = let long = shape-length f slots ks in before ∙ ap all_inputs (take-whole (ordered f slots ks) k (omega (arith, l, long)))

-- readers by the ports that are read
read-count : (n : ℕ) (is : List (ℕ × ℕ)) → length (ports_read n is) ≡ count_by (λ i. i.0 == n) is
read-count n is = long (kept (λ (i : ℕ × ℕ). i.0 == n) is) ∙ length-filter (λ (i : ℕ × ℕ). i.0 == n) is
  where
    long : (js : List (ℕ × ℕ)) → length (map (λ (i : ℕ × ℕ). i.1) js) ≡ length js
    long [] = refl
    long (i ∷ js) = ap suc (long js)

read-at-port : (n port : ℕ) (is : List (ℕ × ℕ)) → length (kept (λ q. q == port) (ports_read n is)) ≡ count_by (λ i. (i.0 == n) && (i.1 == port)) is
read-at-port n port is = is_count_by (λ (js : List (ℕ × ℕ)). length (kept (λ q. q == port) (ports_read n js))) (λ (i : ℕ × ℕ). (i.0 == n) && (i.1 == port)) refl step is
  where
    step : (i : ℕ × ℕ) (js : List (ℕ × ℕ)) → length (kept (λ q. q == port) (ports_read n (i ∷ js))) ≡ cond ((i.0 == n) && (i.1 == port)) (1 + length (kept (λ q. q == port) (ports_read n js))) (length (kept (λ q. q == port) (ports_read n js)))
    step i js = by (i.0 == n) (i.1 == port)
      where
        by : (a b : Bool) → length (kept (λ q. q == port) (map (λ (x : ℕ × ℕ). x.1) (cond a (i ∷ kept (λ (x : ℕ × ℕ). x.0 == n) js) (kept (λ (x : ℕ × ℕ). x.0 == n) js)))) ≡ cond (a && (i.1 == port)) (1 + length (kept (λ q. q == port) (ports_read n js))) (length (kept (λ q. q == port) (ports_read n js)))
        by false b = refl
        by true b = here (i.1 == port)
          where
            here : (c : Bool) → length (cond c (i.1 ∷ kept (λ q. q == port) (ports_read n js)) (kept (λ q. q == port) (ports_read n js))) ≡ cond c (1 + length (kept (λ q. q == port) (ports_read n js))) (length (kept (λ q. q == port) (ports_read n js)))
            here true = omega arith
            here false = refl

-- each port has one reader where each node is read as its kind asks
pub one-each : (shape : Shape) (readers : List (List ℕ)) (count : ℕ) → count ≡ length shape → ((n : ℕ) → n < count → get_or readers n [] ≡ ports_read n (all_inputs shape)) → EachNode shape (λ n p. IsReadAs p.kind (get_or readers n [])) → HasOneReaderEach shape
one-each shape readers count size told read n p at =
    let inside = within-shape shape n p at in
    let ports : get_or readers n [] ≡ ports_read n (all_inputs shape) = told n (omega (arith, inside, size)) in
    let found : IsReadAs p.kind (ports_read n (all_inputs shape)) = subst (IsReadAs p.kind) ports (read n p at) in
    let number : length (ports_read n (all_inputs shape)) ≡ readers_of shape n = read-count n (all_inputs shape) in
    record {
      readers = subst (HasReaders p.kind) number found.0;
      one_reader = λ port l. sym (read-at-port n port (all_inputs shape)) ∙ length-filter (λ q. q == port) (ports_read n (all_inputs shape)) ∙ found.1 port (omega (arith, l, number));
    }

drop-item : (xs : List Stream) (k : ℕ) (x : Stream) → slice_get xs k ≡ Some x → drop k xs ≡ x ∷ drop (k + 1) xs
drop-item [] k x e = cc
drop-item (y ∷ xs) zero x e = let is : y ≡ x = cc in ap (λ z. z ∷ xs) is
drop-item (y ∷ xs) (suc k) x e =
    let next : suc (k + 1) ≡ suc k + 1 = omega arith in
    let P : ℕ → Type 0 = λ m. drop (suc k) (y ∷ xs) ≡ x ∷ drop m (y ∷ xs) in
    subst P next (drop-item xs k x e)

past-none : (is : List Stream) (n : ℕ) → slice_get is n ≡ None → drop n is ≡ []
past-none [] zero e = refl
past-none [] (suc n) e = refl
past-none (i ∷ is) zero e = cc
past-none (i ∷ is) (suc n) e = past-none is n e

module _ (places : List (Option ℕ)) (k : ℕ) (is : List Stream) (n : ℕ) where
  pub earlier-next : (x : Stream) → slice_get is n ≡ Some x → (placed places k x).0 < k → (AreEarlier places k (drop n is) → AreEarlier places k is) → AreEarlier places k (drop (n + 1) is) → AreEarlier places k is
  earlier-next x at here before rest = before (subst (AreEarlier places k) (sym (drop-item is n x at)) (here, rest))

  pub earlier-end : slice_get is n ≡ None → (AreEarlier places k (drop n is) → AreEarlier places k is) → AreEarlier places k is
  earlier-end at before = before (subst (AreEarlier places k) (sym (past-none is n at)) tt)

module _ (g : Stream → Stream) (is : List Stream) (n : ℕ) where
  stream-one : (is : List Stream) (n : ℕ) (x : Stream) → slice_get is n ≡ Some x → take (n + 1) is ≡ take n is ++ x ∷ []
  stream-one [] n x e = cc
  stream-one (y ∷ xs) zero x e = let is : y ≡ x = cc in ap (λ z. z ∷ []) is
  stream-one (y ∷ xs) (suc n) x e =
      let next : suc (n + 1) ≡ suc n + 1 = omega arith in
      let P : ℕ → Type 0 = λ m. take m (y ∷ xs) ≡ take (suc n) (y ∷ xs) ++ x ∷ [] in
      subst P next (ap (λ zs. y ∷ zs) (stream-one xs n x e))

  map-both : (xs ys : List Stream) → map g (xs ++ ys) ≡ map g xs ++ map g ys
  map-both [] ys = refl
  map-both (x ∷ xs) ys = ap (λ zs. g x ∷ zs) (map-both xs ys)

  append-both : (a b c : List Stream) → (a ++ b) ++ c ≡ a ++ (b ++ c)
  append-both [] b c = refl
  append-both (i ∷ a) b c = ap (λ js. i ∷ js) (append-both a b c)

  pub pushed-next : (x : Stream) (old now new : List Stream) (told : Stream) → slice_get is n ≡ Some x → told ≡ g x → new ≡ now ++ told ∷ [] → now ≡ old ++ map g (take n is) → new ≡ old ++ map g (take (n + 1) is)
  pushed-next x old now new told at same more before =
      more ∙ (λ j. before j ++ same j ∷ []) ∙ append-both old (map g (take n is)) (g x ∷ []) ∙ ap (λ (js : List Stream). old ++ js) (sym (map-both (take n is) (x ∷ []))) ∙ ap (λ (js : List Stream). old ++ map g js) (sym (stream-one is n x at))

  pub pushed-end : (old now : List Stream) → slice_get is n ≡ None → now ≡ old ++ map g (take n is) → now ≡ old ++ map g is
  pushed-end old now at before = before ∙ ap (λ (js : List Stream). old ++ map g js) (all is n at)
    where
      all : (is : List Stream) (n : ℕ) → slice_get is n ≡ None → take n is ≡ is
      all [] zero e = refl
      all [] (suc n) e = refl
      all (i ∷ is) zero e = cc
      all (i ∷ is) (suc n) e = ap (λ js. i ∷ js) (all is n e)

-- a node that takes so many readers is read as its kind asks where each port has one
pub read-as : (kind : (Node → Tree) → PhysicalKind) (count : ℕ) (ports read : List ℕ) (r : Result Bool PolarsError) → ((f : Node → Tree) → HasReaders (kind f) count) → count ≡ length ports → read ≡ ports
    → IfOk r (λ once. IsTrue once → (port : ℕ) → port < length read → count_by (λ q. q == port) read ≡ 1) → IfOk r (λ is. IsTrue is → (f : Node → Tree) → IsReadAs (kind f) ports)
read-as kind count ports read (Ok b) takes long same once = λ told f.
    let P : List ℕ → Type 0 = λ ps. (port : ℕ) → port < length ps → count_by (λ q. q == port) ps ≡ 1 in
    (subst (HasReaders (kind f)) long (takes f), subst P same (once told))
read-as kind count ports read (Err e) takes long same once = tt

-- what stands at a place, whatever stands past the end
pub item-is : (xs : List (List ℕ)) (i : ℕ) (x : List ℕ) → i < length xs → x ≡ get_or xs i x → x ≡ get_or xs i []
item-is [] i x l e = absurd (omega (arith, l))
item-is (y ∷ xs) zero x l e = e
item-is (y ∷ xs) (suc i) x l e = item-is xs i x (omega (arith, l)) e
