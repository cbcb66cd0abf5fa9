-- The readers one after the other, and what stands when all is done.
use Rattle.std.proofs.Common.{◌≡◌, ℕ, zero, suc, ◌+◌, ◌<◌, ◌≤◌, ◌^◌, Bool, true, false, get_or, List, [], ◌∷◌, ◌++◌, length, map, take, Option, Some, None, refl, sym, ap, subst, ◌∙◌, arith}
use Rattle.std.proofs.lemmas.List.{append_assoc, length-append, length-map, map-append, take_all, take_more}
use Rattle.std.proofs.lemmas.Bool.{eqb-true, ne_eqb}
use Rattle.std.proofs.lemmas.Map.Steps.{length-le_from_distinct_below}
use Rattle.std.specs.Prelude.{flat_map, if◌then◌else◌, option_map, slice_get, ◌==◌, ◌||◌, ◌↔◌, Err, IsSome, Ok, OnOk, Result}
use Rattle.std.specs.List.{AllByRecursion, IsDistinct, list_any}
use Rattle.keyed_slots.specs.Slots.{value_at}
use Rattle.pu_base.specs.declared.arena.Node.{Node}
use Rattle.ps_frame.specs.Trees.{Tree}
use Rattle.ps_frame.specs.Functions.{Functions}
use Rattle.ps_frame.specs.Tables.{Table}
use Rattle.ps_meaning.specs.Shape.{PhysicalMeans, PhysicalNode, Shape, multiplexer}
use Rattle.ps_multiplexers.proofs.Keeping.{AllBelow, AreInside, means-same, node-left, number-place, rewired-left, rewired-length}
use Rattle.ps_multiplexers.proofs.Noted.{read_again-push, times-append, times-push-same}
use Rattle.ps_multiplexers.proofs.Rewiring.{node-shown, node-there}
use Rattle.ps_multiplexers.proofs.Visited.{numbers-push, there-within}
use Rattle.ps_multiplexers.specs.Multiplexers.{again, changed, inputs_through, multiplexer_number, multiplexer_of, port_or_stream, read_again, rewired, times, walk_from, walk_of, with_inputs, with_multiplexers}
use Rattle.ps_multiplexers.specs.Readers.{AreNoted, Grows, HasPorts, IsFilledFrom, IsNoted, next_stream}
use Rattle.ps_multiplexers.specs.Visiting.{IsVisited}
use Rattle.ps_multiplexers.specs.declared.readers.Readers.{Readers}
use Rattle.ps_multiplexers.specs.declared.readers.Readers.TheVariants.{One, Several}
use Rattle.ps_phys.specs.Shown.{ReadsWhatIsThere, inputs_of, node_of_slot, nodes_of}
use Rattle.ps_phys.specs.Underway.{AreThere, inputs_or_none, numbers_in, slot_reads}
use Rattle.ps_phys.specs.Walks.{Stream, node_at, numbers_of, numbers_read}
use Rattle.ps_phys.specs.declared.phys.PhysNode.{PhysNode}
use Rattle.ps_phys.specs.declared.phys.PhysNodeKey.{PhysNodeKey}

-- a node that was read twice is not read for the second time again
later : (n : ℕ) (before ns : List ℕ) → 2 ≤ times n before → AllByRecursion (λ (y : ℕ). n == y ≡ false) (read_again before ns)
later n before [] h = tt
later n before (m ∷ ns) h = by (times m before == 1) refl (later n (before ++ m ∷ []) ns (let e = times-append n before (m ∷ []) in omega (arith, e, h)))
  where
    by : (b : Bool) → times m before == 1 ≡ b → AllByRecursion (λ (y : ℕ). n == y ≡ false) (read_again (before ++ m ∷ []) ns) → AllByRecursion (λ (y : ℕ). n == y ≡ false) ((if b then m ∷ [] else []) ++ read_again (before ++ m ∷ []) ns)
    by true e rest = (ne_eqb n m (λ same. let once = eqb-true (times m before) 1 e in let twice : 2 ≤ times m before = (let P : ℕ → Type 0 = λ x. 2 ≤ times x before in subst P same h) in omega (arith, once, twice)), rest)
    by false e rest = rest

distinct-again : (before ns : List ℕ) → IsDistinct (λ (x y : ℕ). x == y) (read_again before ns)
unfolding IsDistinct
distinct-again before [] = tt
distinct-again before (m ∷ ns) = by (times m before == 1) refl (distinct-again (before ++ m ∷ []) ns)
  where
    by : (b : Bool) → times m before == 1 ≡ b → IsDistinct (λ (x y : ℕ). x == y) (read_again (before ++ m ∷ []) ns) → IsDistinct (λ (x y : ℕ). x == y) ((if b then m ∷ [] else []) ++ read_again (before ++ m ∷ []) ns)
    by true e rest = (later m (before ++ m ∷ []) ns (let once = eqb-true (times m before) 1 e in let more = times-push-same m before in omega (arith, once, more)), rest)
    by false e rest = rest

pub below-again : (k : ℕ) (before ns : List ℕ) → AllBelow k ns → AllBelow k (read_again before ns)
below-again k before [] all = tt
below-again k before (m ∷ ns) all = by (times m before == 1) (below-again k (before ++ m ∷ []) ns all.1)
  where
    by : (b : Bool) → AllBelow k (read_again (before ++ m ∷ []) ns) → AllBelow k ((if b then m ∷ [] else []) ++ read_again (before ++ m ∷ []) ns)
    by true rest = (all.0, rest)
    by false rest = rest

any-below : (k q : ℕ) (xs : List ℕ) → AllBelow k xs → list_any (λ (y : ℕ). q == y) xs ≡ true → q < k
any-below k q [] all e = cc
any-below k q (x ∷ xs) all e = by (q == x) refl (any-below k q xs all.1) e
  where
    by : (b : Bool) → q == x ≡ b → (list_any (λ (y : ℕ). q == y) xs ≡ true → q < k) → (b || list_any (λ (y : ℕ). q == y) xs) ≡ true → q < k
    by true is rest f = let P : ℕ → Type 0 = λ y. y < k in subst P (sym (eqb-true q x is)) all.0
    by false is rest f = rest f

-- no more nodes are read again than there are
pub few-again : (k : ℕ) (ns : List ℕ) → AllBelow k ns → length (read_again [] ns) ≤ k
few-again k ns all = length-le_from_distinct_below (read_again [] ns) k (distinct-again [] ns) (λ q e. any-below k q (read_again [] ns) (below-again k [] ns all) e)

pub numbers-below : (slots : List (Option PhysNode)) (ks : List PhysNodeKey) → AreThere slots ks → AllBelow (length slots) (numbers_in ks)
numbers-below slots [] all = tt
numbers-below slots (k ∷ ks) all = (there-within slots k.0 all.0, numbers-below slots ks all.1)

pub there-at : (slots : List (Option PhysNode)) (ks : List PhysNodeKey) (i : ℕ) (d : PhysNodeKey) → AreThere slots ks → i < length ks → IsSome (value_at slots (get_or ks i d).0)
there-at slots [] i d all h = absurd (omega (arith, h))
there-at slots (x ∷ ks) zero d all h = all.0
there-at slots (x ∷ ks) (suc i) d all h = there-at slots ks i d all.1 (omega (arith, h))

there-left : (old more : List (Option PhysNode)) (n : ℕ) → IsSome (value_at old n) → IsSome (value_at (old ++ more) n)
there-left [] more n h = cc
there-left (s ∷ old) more zero h = h
there-left (s ∷ old) more (suc n) h = there-left old more n h

pub there-grown : (old new : List (Option PhysNode)) (n : ℕ) → Grows old new → IsSome (value_at old n) → IsSome (value_at new n)
there-grown old new n g h = let P : List (Option PhysNode) → Type 0 = λ xs. IsSome (value_at xs n) in subst P (sym g.behind) (there-left old g.more n h)

-- how many slots there are, by the nodes that they show
pub grown-length : (f : Node → Tree) (old new : List (Option PhysNode)) (several : List ℕ) → nodes_of f new ≡ nodes_of f old ++ map (multiplexer_of (nodes_of f old)) several → length new ≡ length old + length several
grown-length f old new several e =
    sym (length-map new (node_of_slot f)) ∙ ap length e ∙ length-append (nodes_of f old) (map (multiplexer_of (nodes_of f old)) several)
    ∙ (λ i. length-map old (node_of_slot f) i + length-map several (multiplexer_of (nodes_of f old)) i)

mux-left : (nodes more : Shape) (n : ℕ) → n < length nodes → multiplexer_of (nodes ++ more) n ≡ multiplexer_of nodes n
mux-left nodes more n h = λ i. record { kind = multiplexer; schema = (node-left nodes more n h i).schema; origin = (node-left nodes more n h i).origin; inputs = (n, 0) ∷ [] }

-- one more reader is noted
module _ (ks : List PhysNodeKey) (i : ℕ) (d : PhysNodeKey) (within : i < length ks) where
  abbrev k : PhysNodeKey
  k = get_or ks i d

  numbers-next : numbers_in (take (i + 1) ks) ≡ numbers_in (take i ks) ++ k.0 ∷ []
  numbers-next = ap numbers_in (take_more ks i d within) ∙ numbers-push (take i ks) k

  again-next : read_again [] (numbers_in (take (i + 1) ks)) ≡ read_again [] (numbers_in (take i ks)) ++ again (numbers_in (take i ks)) k.0
  again-next = ap (λ ns. read_again [] ns) numbers-next ∙ read_again-push [] (numbers_in (take i ks)) k.0

  pub noted-next : (first : ℕ) (readers : List (Option Readers)) → AreNoted first (numbers_in (take i ks) ++ k.0 ∷ []) (read_again [] (numbers_in (take i ks)) ++ again (numbers_in (take i ks)) k.0) readers
      → AreNoted first (numbers_in (take (i + 1) ks)) (read_again [] (numbers_in (take (i + 1) ks))) readers
  noted-next first readers noted =
      let P : List ℕ → Type 0 = λ ns. AreNoted first ns (read_again [] (numbers_in (take (i + 1) ks))) readers in
      let Q : List ℕ → Type 0 = λ ms. AreNoted first (numbers_in (take i ks) ++ k.0 ∷ []) ms readers in
      subst P (sym numbers-next) (subst Q (sym again-next) noted)

  pub nodes-next : (f : Node → Tree) (old mid new : List (Option PhysNode)) → k.0 < length old
      → nodes_of f mid ≡ nodes_of f old ++ map (multiplexer_of (nodes_of f old)) (read_again [] (numbers_in (take i ks)))
      → nodes_of f new ≡ nodes_of f mid ++ map (multiplexer_of (nodes_of f mid)) (again (numbers_in (take i ks)) k.0)
      → nodes_of f new ≡ nodes_of f old ++ map (multiplexer_of (nodes_of f old)) (read_again [] (numbers_in (take (i + 1) ks)))
  nodes-next f old mid new low before step =
      step ∙ (λ j. before j ++ map (multiplexer_of (before j)) (again (numbers_in (take i ks)) k.0))
      ∙ append_assoc (nodes_of f old) (map mux (read_again [] (numbers_in (take i ks)))) (map (multiplexer_of (nodes_of f old ++ more)) (again (numbers_in (take i ks)) k.0))
      ∙ ap (λ ps. nodes_of f old ++ (map mux (read_again [] (numbers_in (take i ks))) ++ ps)) (by (times k.0 (numbers_in (take i ks)) == 1))
      ∙ ap (λ ps. nodes_of f old ++ ps) (sym (map-append mux (read_again [] (numbers_in (take i ks))) (again (numbers_in (take i ks)) k.0)))
      ∙ ap (λ ms. nodes_of f old ++ map mux ms) (sym again-next)
    where
      mux : ℕ → PhysicalNode
      mux = multiplexer_of (nodes_of f old)

      more : Shape
      more = map (multiplexer_of (nodes_of f old)) (read_again [] (numbers_in (take i ks)))

      size : length (nodes_of f old) ≡ length old
      size = length-map old (node_of_slot f)

      by : (b : Bool) → map (multiplexer_of (nodes_of f old ++ more)) (if b then k.0 ∷ [] else []) ≡ map (multiplexer_of (nodes_of f old)) (if b then k.0 ∷ [] else [])
      by true = ap (λ p. p ∷ []) (mux-left (nodes_of f old) more k.0 (omega (arith, low, size)))
      by false = refl

pub all-noted : (ks : List PhysNodeKey) (i first : ℕ) (readers : List (Option Readers)) → length ks ≤ i → AreNoted first (numbers_in (take i ks)) (read_again [] (numbers_in (take i ks))) readers → AreNoted first (numbers_in ks) (read_again [] (numbers_in ks)) readers
all-noted ks i first readers past noted = let P : List PhysNodeKey → Type 0 = λ xs. AreNoted first (numbers_in xs) (read_again [] (numbers_in xs)) readers in subst P (take_all i ks past) noted

pub all-nodes : (f : Node → Tree) (old new : List (Option PhysNode)) (ks : List PhysNodeKey) (i : ℕ) → length ks ≤ i → nodes_of f new ≡ nodes_of f old ++ map (multiplexer_of (nodes_of f old)) (read_again [] (numbers_in (take i ks)))
    → nodes_of f new ≡ nodes_of f old ++ map (multiplexer_of (nodes_of f old)) (read_again [] (numbers_in ks))
all-nodes f old new ks i past e = e ∙ ap (λ xs. nodes_of f old ++ map (multiplexer_of (nodes_of f old)) (read_again [] (numbers_in xs))) (take_all i ks past)

-- the multiplexers are all there, and none of their ports is taken yet
pub noted-ports : (first : ℕ) (read several : List ℕ) (readers : List (Option Readers)) → AreNoted first read several readers → HasPorts (multiplexer_number first several) [] readers
noted-ports first read several readers noted n = by (value_at readers n) (noted n)
  where
    by : (o : Option Readers) → IsNoted (times n read) (multiplexer_number first several n) o → next_stream o ≡ option_map (λ (m : ℕ). (m, 0)) (multiplexer_number first several n)
    by None h = sym (ap (λ m. option_map (λ (m : ℕ). (m, 0)) m) h.1)
    by (Some One) h = sym (ap (λ m. option_map (λ (m : ℕ). (m, 0)) m) h.1)
    by (Some (Several s)) h = ap (λ (p : ℕ). Some (s.node.0, p)) h.2 ∙ sym (ap (λ m. option_map (λ (m : ℕ). (m, 0)) m) h.1)

reads-shown : (f : Node → Tree) (slots : List (Option PhysNode)) (n : ℕ) → slot_reads slots n ≡ numbers_read (nodes_of f slots) n
reads-shown f [] n = refl
reads-shown f (None ∷ slots) zero = refl
reads-shown f (Some p ∷ slots) zero = refl
reads-shown f (s ∷ slots) (suc n) = reads-shown f slots n

all-read-left : (nodes more : Shape) (ns : List ℕ) → AllBelow (length nodes) ns → flat_map (numbers_read (nodes ++ more)) ns ≡ flat_map (numbers_read nodes) ns
all-read-left nodes more [] all = refl
all-read-left nodes more (n ∷ ns) all = λ i. numbers_of (node-left nodes more n all.0 i).inputs ++ all-read-left nodes more ns all.1 i

-- all is done
module _ (f : Node → Tree) (slots mid new : List (Option PhysNode)) (root : ℕ) (taken read : List PhysNodeKey) (readers : List (Option Readers)) (v : IsVisited slots root taken read) where
  abbrev nodes : Shape
  nodes = nodes_of f slots

  walk-shown : numbers_in taken ≡ walk_of nodes root
  walk-shown = v.walk ∙ (λ i. walk_from (λ n. reads-shown f slots n i) (sym (length-map slots (node_of_slot f)) i) root)

  read-shown : numbers_in read ≡ flat_map (numbers_read nodes) (walk_of nodes root)
  read-shown = v.reads ∙ (λ i. flat_map (λ n. reads-shown f slots n i) (walk-shown i))

  pub finished : AreNoted (length slots) (numbers_in read) (read_again [] (numbers_in read)) readers
      → nodes_of f mid ≡ nodes ++ map (multiplexer_of nodes) (read_again [] (numbers_in read)) → length read < 2 ^ 64
      → ((number : ℕ → Option ℕ) → HasPorts number [] readers → length (flat_map (numbers_read (nodes_of f mid)) (numbers_in taken)) < 2 ^ 64 → nodes_of f new ≡ rewired number [] (numbers_in taken) (nodes_of f mid))
      → nodes_of f new ≡ with_multiplexers root nodes
  finished noted mid_is fits goes =
      goes number (noted-ports (length slots) (numbers_in read) (read_again [] (numbers_in read)) readers noted) bound
      ∙ ap (λ ps. rewired number [] (numbers_in taken) ps) mid_is
      ∙ (λ i. rewired (multiplexer_number (sym (length-map slots (node_of_slot f)) i) (read_again [] (read-shown i))) [] (walk-shown i) (nodes ++ map (multiplexer_of nodes) (read_again [] (read-shown i))))
    where
      number : ℕ → Option ℕ
      number = multiplexer_number (length slots) (read_again [] (numbers_in read))

      below : AllBelow (length nodes) (numbers_in taken)
      below = let P : ℕ → Type 0 = λ k. AllBelow k (numbers_in taken) in subst P (sym (length-map slots (node_of_slot f))) (numbers-below slots taken v.gone)

      bound : length (flat_map (numbers_read (nodes_of f mid)) (numbers_in taken)) < 2 ^ 64
      bound =
          let P : List ℕ → Type 0 = λ ns. length ns < 2 ^ 64 in
          let size : length (numbers_in read) ≡ length read = length-map read (λ (k : PhysNodeKey). k.0) in
          subst P
          (v.reads ∙ (λ i. flat_map (λ n. reads-shown f slots n i) (numbers_in taken)) ∙ sym (all-read-left nodes (map (multiplexer_of nodes) (read_again [] (numbers_in read))) (numbers_in taken) below)
          ∙ ap (λ ps. flat_map (numbers_read ps) (numbers_in taken)) (sym mid_is))
          (omega (arith, size, fits))

-- there is room for one more multiplexer
pub room-for : (slots : List (Option PhysNode)) (ks : List PhysNodeKey) (i : ℕ) (new : List (Option PhysNode)) → AreThere slots ks
    → ((f : Node → Tree) → nodes_of f new ≡ nodes_of f slots ++ map (multiplexer_of (nodes_of f slots)) (read_again [] (numbers_in (take i ks)))) → length new ≤ length slots + length slots
room-for slots ks i new all e =
    let size = grown-length (λ n. Tree.missing) slots new (read_again [] (numbers_in (take i ks))) (e (λ n. Tree.missing)) in
    let few = few-again (length slots) (numbers_in (take i ks)) (numbers-below slots (take i ks) (taken-there ks i all)) in
    omega (arith, size, few)
  where
    taken-there : (xs : List PhysNodeKey) (j : ℕ) → AreThere slots xs → AreThere slots (take j xs)
    taken-there xs zero h = tt
    taken-there [] (suc j) h = tt
    taken-there (x ∷ xs) (suc j) h = (h.0, taken-there xs j h.1)

pub there-within-at : (slots : List (Option PhysNode)) (ks : List PhysNodeKey) (i : ℕ) (d : PhysNodeKey) → AreThere slots ks → i < length ks → (get_or ks i d).0 < length slots
there-within-at slots ks i d all h = there-within slots (get_or ks i d).0 (there-at slots ks i d all h)

-- before any reader is noted
pub started-noted : (first : ℕ) (readers : List (Option Readers)) → readers ≡ [] → AreNoted first [] [] readers
started-noted first readers none n = let P : List (Option Readers) → Type 0 = λ rs. IsNoted 0 None (value_at rs n) in subst P (sym none) (refl, refl)

abbrev IsThere : List (Option PhysNode) → ℕ → Type 0
IsThere slots n = IsSome (value_at slots n)

all-joined : (P : ℕ → Type 0) (xs ys : List ℕ) → AllByRecursion P xs → AllByRecursion P ys → AllByRecursion P (xs ++ ys)
all-joined P [] ys a b = b
all-joined P (x ∷ xs) ys a b = (a.0, all-joined P xs ys a.1 b)

numbers-all : (P : ℕ → Type 0) (is : List Stream) → AllByRecursion (λ (i : Stream). P i.0) is → AllByRecursion P (numbers_of is)
numbers-all P [] a = tt
numbers-all P (i ∷ is) a = (a.0, numbers-all P is a.1)

abbrev pub missing_trees : Node → Tree
missing_trees n = Tree.missing

-- what nodes read is there
module _ (slots : List (Option PhysNode)) (whole : ReadsWhatIsThere slots) where
  reads-there : (n : ℕ) → AllByRecursion (IsThere slots) (slot_reads slots n)
  reads-there n = by (value_at slots n) refl
    where
      by : (o : Option PhysNode) → value_at slots n ≡ o → AllByRecursion (IsThere slots) (numbers_of (inputs_or_none o))
      by None e = tt
      by (Some p) e = numbers-all (IsThere slots) (inputs_of p.kind) (whole n p e)

  all-reads-there : (ns : List ℕ) → AllByRecursion (IsThere slots) (flat_map (slot_reads slots) ns)
  all-reads-there [] = tt
  all-reads-there (n ∷ ns) = all-joined (IsThere slots) (slot_reads slots n) (flat_map (slot_reads slots) ns) (reads-there n) (all-reads-there ns)

  keys-there : (ks : List PhysNodeKey) → AllByRecursion (IsThere slots) (numbers_in ks) → AreThere slots ks
  keys-there [] a = tt
  keys-there (k ∷ ks) a = (a.0, keys-there ks a.1)

  pub read-there : (root : ℕ) (taken read : List PhysNodeKey) → IsVisited slots root taken read → AreThere slots read
  read-there root taken read v = let P : List ℕ → Type 0 = λ ns. AllByRecursion (IsThere slots) ns in keys-there read (subst P (sym v.reads) (all-reads-there (numbers_in taken)))

  module _ (f : Node → Tree) where
    size : length (nodes_of f slots) ≡ length slots
    size = length-map slots (node_of_slot f)

    there-below : (ns : List ℕ) → AllByRecursion (IsThere slots) ns → AllBelow (length (nodes_of f slots)) ns
    there-below [] a = tt
    there-below (n ∷ ns) a = (let l = there-within slots n a.0 in let s = size in omega (arith, l, s), there-below ns a.1)

    shown-at : (xs : List (Option PhysNode)) (n : ℕ) (p : PhysicalNode) → slice_get (nodes_of f xs) n ≡ Some p → p ≡ node_of_slot f (value_at xs n)
    shown-at [] n p e = cc
    shown-at (x ∷ xs) zero p e = cc
    shown-at (x ∷ xs) (suc n) p e = shown-at xs n p e

    inside : AreInside (nodes_of f slots)
    inside n p e = by (value_at slots n) refl
      where
        below : (is : List Stream) → AllByRecursion (λ (i : Stream). IsThere slots i.0) is → AllByRecursion (λ (i : Stream). i.0 < length (nodes_of f slots)) is
        below [] a = tt
        below (i ∷ is) a = (let l = there-within slots i.0 a.0 in let s = size in omega (arith, l, s), below is a.1)

        by : (o : Option PhysNode) → value_at slots n ≡ o → AllByRecursion (λ (i : Stream). i.0 < length (nodes_of f slots)) p.inputs
        by None e' = let P : PhysicalNode → Type 0 = λ x. AllByRecursion (λ (i : Stream). i.0 < length (nodes_of f slots)) x.inputs in subst P (sym (shown-at slots n p e ∙ ap (λ o. node_of_slot f o) e')) tt
        by (Some q) e' = let P : PhysicalNode → Type 0 = λ x. AllByRecursion (λ (i : Stream). i.0 < length (nodes_of f slots)) x.inputs in subst P (sym (shown-at slots n p e ∙ ap (λ o. node_of_slot f o) e')) (below (inputs_of q.kind) (whole n q e'))

    -- each node means what it meant
    pub kept : (F : Functions) (root : ℕ) (taken read : List PhysNodeKey) (n : ℕ) (T : Table) → IsVisited slots root taken read → n < length slots
        → PhysicalMeans F (nodes_of f slots) n T ↔ PhysicalMeans F (with_multiplexers root (nodes_of f slots)) n T
    kept F root taken read n T v within =
        let nodes' = nodes_of f slots in
        let P : List ℕ → Type 0 = λ ns. AllBelow (length nodes') ns in
        let walk = walk_of nodes' root in
        let several = read_again [] (flat_map (numbers_read nodes') walk) in
        let walk_below : AllBelow (length nodes') walk = subst P (walk-shown f slots slots slots root taken read [] v) (there-below (numbers_in taken) (taken-numbers taken v.gone)) in
        let several_below : AllBelow (length nodes') several = below-again (length nodes') [] (flat_map (numbers_read nodes') walk) (subst P (read-shown f slots slots slots root taken read [] v) (subst P (sym v.reads) (there-below (flat_map (slot_reads slots) (numbers_in taken)) (all-reads-there (numbers_in taken))))) in
        let Q : Shape → Type 0 = λ ps. PhysicalMeans F nodes' n T ↔ PhysicalMeans F ps n T in
        let s = size in
        subst Q (sym (rewired-left (multiplexer_number (length nodes') several) walk [] nodes' (map (multiplexer_of nodes') several) walk_below))
        (means-same F nodes' walk several walk_below several_below inside n T (omega (arith, within, s)))
      where
        taken-numbers : (ks : List PhysNodeKey) → AreThere slots ks → AllByRecursion (IsThere slots) (numbers_in ks)
        taken-numbers [] a = tt
        taken-numbers (k ∷ ks) a = (a.0, taken-numbers ks a.1)

pub on-ok : {E : Type 0} (r : Result Unit E) (A B : Type 0) → (A → B) → OnOk r A → OnOk r B
on-ok (Ok x) A B g a = g a
on-ok (Err e) A B g a = a

pub visited-lent : (slots : List (Option PhysNode)) (root : ℕ) (taken read lent_taken lent_read : List PhysNodeKey) → lent_taken ≡ taken → lent_read ≡ read → IsVisited slots root taken read → IsVisited slots root lent_taken lent_read
visited-lent slots root taken read lent_taken lent_read same_taken same_read v =
    let P : List PhysNodeKey → Type 0 = λ ks. IsVisited slots root ks lent_read in
    let Q : List PhysNodeKey → Type 0 = λ ks. IsVisited slots root taken ks in
    subst P (sym same_taken) (subst Q (sym same_read) v)

pub kept-after : (F : Functions) (f : Node → Tree) (slots new : List (Option PhysNode)) → ReadsWhatIsThere slots → (root : ℕ) (taken read : List PhysNodeKey) (n : ℕ) (T : Table) → IsVisited slots root taken read → n < length slots
    → nodes_of f new ≡ with_multiplexers root (nodes_of f slots) → PhysicalMeans F (nodes_of f slots) n T ↔ PhysicalMeans F (nodes_of f new) n T
kept-after F f slots new whole root taken read n T v within is = let P : Shape → Type 0 = λ ps. PhysicalMeans F (nodes_of f slots) n T ↔ PhysicalMeans F ps n T in subst P (sym is) (kept slots whole f F root taken read n T v within)

pub filled-past : (slots : List (Option PhysNode)) → IsFilledFrom (length slots) slots
filled-past slots n low high = absurd (omega (arith, low, high))

-- what holds of all inputs holds of them through multiplexers too
module _ (Q : ℕ → Type 0) where
  abbrev AllInputs : Shape → Type 0
  AllInputs nodes = (n : ℕ) → AllByRecursion (λ (i : Stream). Q i.0) (node_at nodes n).inputs

  changed-all : (nodes : Shape) (n : ℕ) (inputs : List Stream) → AllInputs nodes → AllByRecursion (λ (i : Stream). Q i.0) inputs → AllInputs (changed n (with_inputs inputs) nodes)
  changed-all [] n inputs all new m = all m
  changed-all (p ∷ nodes) zero inputs all new zero = new
  changed-all (p ∷ nodes) zero inputs all new (suc m) = all (suc m)
  changed-all (p ∷ nodes) (suc n) inputs all new zero = all zero
  changed-all (p ∷ nodes) (suc n) inputs all new (suc m) = changed-all nodes n inputs (λ j. all (suc j)) new m

  module _ (number : ℕ → Option ℕ) (numbered : (n k : ℕ) → number n ≡ Some k → Q k) where
    one-all : (s : Stream) (m : Option ℕ) (others : ℕ) → number s.0 ≡ m → Q s.0 → Q (port_or_stream s m others).0
    one-all s None others e h = h
    one-all s (Some k) others e h = numbered s.0 k e

    through-all : (before : List ℕ) (ss : List Stream) → AllByRecursion (λ (i : Stream). Q i.0) ss → AllByRecursion (λ (i : Stream). Q i.0) (inputs_through number before ss)
    through-all before [] all = tt
    through-all before (s ∷ ss) all = (one-all s (number s.0) (times s.0 before) refl all.0, through-all (before ++ s.0 ∷ []) ss all.1)

    rewired-all : (walk before : List ℕ) (nodes : Shape) → AllInputs nodes → AllInputs (rewired number before walk nodes)
    rewired-all [] before nodes all = all
    rewired-all (n ∷ walk) before nodes all =
        let inputs = (node_at nodes n).inputs in
        rewired-all walk (before ++ numbers_of inputs) (changed n (with_inputs (inputs_through number before inputs)) nodes) (changed-all nodes n (inputs_through number before inputs) all (through-all before inputs (all n)))

  joined-all : (xs ys : Shape) → AllInputs xs → AllInputs ys → AllInputs (xs ++ ys)
  joined-all [] ys a b n = b n
  joined-all (x ∷ xs) ys a b zero = a zero
  joined-all (x ∷ xs) ys a b (suc n) = joined-all xs ys (λ m. a (suc m)) b n

  muxes-all : (nodes : Shape) (ms : List ℕ) → AllByRecursion Q ms → AllInputs (map (multiplexer_of nodes) ms)
  muxes-all nodes [] a n = tt
  muxes-all nodes (m ∷ ms) a zero = (a.0, tt)
  muxes-all nodes (m ∷ ms) a (suc n) = muxes-all nodes ms a.1 n

mapped-all : (P Q : ℕ → Type 0) (xs : List ℕ) → ((n : ℕ) → P n → Q n) → AllByRecursion P xs → AllByRecursion Q xs
mapped-all P Q [] g a = tt
mapped-all P Q (x ∷ xs) g a = (g x a.0, mapped-all P Q xs g a.1)

mapped-inputs : (P Q : ℕ → Type 0) (xs : List Stream) → ((n : ℕ) → P n → Q n) → AllByRecursion (λ (i : Stream). P i.0) xs → AllByRecursion (λ (i : Stream). Q i.0) xs
mapped-inputs P Q [] g a = tt
mapped-inputs P Q (x ∷ xs) g a = (g x.0 a.0, mapped-inputs P Q xs g a.1)

again-all : (P : ℕ → Type 0) (before ns : List ℕ) → AllByRecursion P ns → AllByRecursion P (read_again before ns)
again-all P before [] all = tt
again-all P before (m ∷ ns) all = by (times m before == 1) (again-all P (before ++ m ∷ []) ns all.1)
  where
    by : (b : Bool) → AllByRecursion P (read_again (before ++ m ∷ []) ns) → AllByRecursion P ((if b then m ∷ [] else []) ++ read_again (before ++ m ∷ []) ns)
    by true rest = (all.0, rest)
    by false rest = rest

-- whatever a node reads is there when all is done
pub whole-after : (slots new : List (Option PhysNode)) → ReadsWhatIsThere slots → (root : ℕ) (taken read : List PhysNodeKey) → IsVisited slots root taken read
    → ((n : ℕ) → IsSome (value_at slots n) → IsSome (value_at new n)) → IsFilledFrom (length slots) new → nodes_of missing_trees new ≡ with_multiplexers root (nodes_of missing_trees slots) → ReadsWhatIsThere new
whole-after slots new whole root taken read v there filled is n p here =
    let P : PhysicalNode → Type 0 = λ x. AllByRecursion (λ (i : Stream). IsSome (value_at new i.0)) x.inputs in
    subst P (ap (λ ps. node_at ps n) (sym is) ∙ node-there missing_trees new n p here) (all-after n)
  where
    nodes' : Shape
    nodes' = nodes_of missing_trees slots

    size' : length nodes' ≡ length slots
    size' = length-map slots (node_of_slot missing_trees)

    walk' : List ℕ
    walk' = walk_of nodes' root

    reads' : List ℕ
    reads' = flat_map (numbers_read nodes') walk'

    reads-are : AllByRecursion (IsThere slots) reads'
    reads-are = let R : List ℕ → Type 0 = λ ns. AllByRecursion (IsThere slots) ns in subst R ((λ i. flat_map (λ m. reads-shown missing_trees slots m i) (walk-shown missing_trees slots slots slots root taken read [] v i))) (all-reads-there slots whole (numbers_in taken))

    several' : List ℕ
    several' = read_again [] reads'

    new-size : length new ≡ length slots + length several'
    new-size =
        sym (length-map new (node_of_slot missing_trees)) ∙ ap length is
        ∙ rewired-length (multiplexer_number (length nodes') several') walk' [] (nodes' ++ map (multiplexer_of nodes') several')
        ∙ length-append nodes' (map (multiplexer_of nodes') several') ∙ (λ i. size' i + length-map several' (multiplexer_of nodes') i)

    old-inputs : AllInputs (IsThere new) nodes'
    old-inputs m = by (value_at slots m) refl
      where
        by : (o : Option PhysNode) → value_at slots m ≡ o → AllByRecursion (λ (i : Stream). IsThere new i.0) (node_at nodes' m).inputs
        by None e = let P : PhysicalNode → Type 0 = λ x. AllByRecursion (λ (i : Stream). IsThere new i.0) x.inputs in subst P (sym (node-shown missing_trees slots m ∙ ap (λ o. node_of_slot missing_trees o) e)) tt
        by (Some q) e = let P : PhysicalNode → Type 0 = λ x. AllByRecursion (λ (i : Stream). IsThere new i.0) x.inputs in subst P (sym (node-there missing_trees slots m q e)) (mapped-inputs (IsThere slots) (IsThere new) (inputs_of q.kind) there (whole m q e))

    numbered : (m k : ℕ) → multiplexer_number (length nodes') several' m ≡ Some k → IsThere new k
    numbered m k e =
        let r = number-place nodes' (length nodes') several' m k e in
        let at = r.1 in
        let l = r.3 in
        let s = size' in
        let ns = new-size in
        filled k (omega (arith, at, s)) (omega (arith, at, l, s, ns))

    all-after : AllInputs (IsThere new) (with_multiplexers root nodes')
    all-after =
        rewired-all (IsThere new) (multiplexer_number (length nodes') several') numbered walk' [] (nodes' ++ map (multiplexer_of nodes') several')
        (joined-all (IsThere new) nodes' (map (multiplexer_of nodes') several') old-inputs (muxes-all (IsThere new) nodes' several' (mapped-all (IsThere slots) (IsThere new) several' there (again-all (IsThere slots) [] reads' reads-are))))

pub on-three : {E : Type 0} (r : Result Unit E) (A B C D : Type 0) → (A → B → C → D) → OnOk r A → OnOk r B → OnOk r C → OnOk r D
on-three (Ok x) A B C D g a b c = g a b c
on-three (Err e) A B C D g a b c = tt
