-- Nodes one by one read through their multiplexers.
use Rattle.std.proofs.Common.{◌≡◌, ℕ, zero, suc, ◌+◌, ◌<◌, ◌≤◌, ◌^◌, Bool, true, false, drop, get_or, List, [], ◌∷◌, ◌++◌, length, Option, Some, None, refl, sym, ap, subst, ◌∙◌, arith}
use Rattle.std.proofs.lemmas.List.{drop_all, drop_more, append_assoc, append-nil, length-append, length-map, map-append}
use Rattle.std.specs.Prelude.{flat_map, nat_lt, slice_set, IsSome}
use Rattle.std.proofs.lemmas.Bool.{ltb-false, ltb-true}
use Rattle.keyed_slots.specs.Slots.{value_at}
use Rattle.pu_base.specs.declared.arena.Node.{Node}
use Rattle.ps_frame.specs.Trees.{Tree}
use Rattle.ps_meaning.specs.Shape.{PhysicalNode, Shape}
use Rattle.ps_multiplexers.proofs.Through.{length-through}
use Rattle.ps_multiplexers.specs.Multiplexers.{changed, inputs_through, multiplexer_of, rewired, with_inputs}
use Rattle.ps_multiplexers.specs.Readers.{Grows, HasPorts, IsFilledFrom}
use Rattle.ps_multiplexers.specs.declared.readers.Readers.{Readers}
use Rattle.ps_phys.specs.Shown.{inputs_of, kind_of, node_of_slot, nodes_of, physical_node}
use Rattle.ps_phys.specs.Underway.{numbers_in}
use Rattle.ps_phys.specs.Walks.{Stream, node_at, numbers_of, numbers_read}
use Rattle.ps_phys.specs.declared.phys.PhysNode.{PhysNode}
use Rattle.ps_phys.specs.declared.phys.PhysNodeKey.{PhysNodeKey}
use Rattle.ps_phys.specs.declared.phys.PhysNodeKind.TheVariants as phys
use Rattle.ps_phys.specs.declared.phys.PhysStream.{PhysStream}

-- the node of a slot
pub node-shown : (f : Node → Tree) (slots : List (Option PhysNode)) (n : ℕ) → node_at (nodes_of f slots) n ≡ node_of_slot f (value_at slots n)
node-shown f [] n = refl
node-shown f (s ∷ slots) zero = refl
node-shown f (s ∷ slots) (suc n) = node-shown f slots n

pub node-there : (f : Node → Tree) (slots : List (Option PhysNode)) (n : ℕ) (p : PhysNode) → value_at slots n ≡ Some p → node_at (nodes_of f slots) n ≡ physical_node f p
node-there f slots n p e = node-shown f slots n ∙ ap (λ o. node_of_slot f o) e

-- a slot is written
pub written-shown : (f : Node → Tree) (slots : List (Option PhysNode)) (n : ℕ) (p q : PhysNode) (inputs : List Stream) → value_at slots n ≡ Some p → q.output_schema ≡ p.output_schema → q.origin ≡ p.origin
    → kind_of f q.kind ≡ kind_of f p.kind → inputs_of q.kind ≡ inputs → nodes_of f (slice_set slots n (Some q)) ≡ changed n (with_inputs inputs) (nodes_of f slots)
written-shown f [] n p q inputs e schema origin kind is = cc
written-shown f (s ∷ slots) zero p q inputs e schema origin kind is =
    ap (λ x. x ∷ nodes_of f slots)
    ((λ i. record { kind = kind i; schema = schema i; origin = (origin i).0; inputs = is i }) ∙ ap (λ o. with_inputs inputs (node_of_slot f o)) (sym e))
written-shown f (s ∷ slots) (suc n) p q inputs e schema origin kind is = ap (λ x. node_of_slot f s ∷ x) (written-shown f slots n p q inputs e schema origin kind is)

-- nodes that aren't there stay so
pub changed-past : (n : ℕ) (g : PhysicalNode → PhysicalNode) (nodes : Shape) → length nodes ≤ n → changed n g nodes ≡ nodes
changed-past n g [] past = refl
changed-past zero g (p ∷ nodes) past = absurd (omega (arith, past))
changed-past (suc n) g (p ∷ nodes) past = ap (λ ps. p ∷ ps) (changed-past n g nodes (omega (arith, past)))

-- a change keeps how many inputs there are
sizes-kept : (nodes : Shape) (n m : ℕ) (inputs : List Stream) → length inputs ≡ length (node_at nodes n).inputs → length (numbers_read (changed n (with_inputs inputs) nodes) m) ≡ length (numbers_read nodes m)
sizes-kept [] n m inputs e = refl
sizes-kept (p ∷ nodes) zero zero inputs e = length-map inputs (λ (i : Stream). i.0) ∙ e ∙ sym (length-map p.inputs (λ (i : Stream). i.0))
sizes-kept (p ∷ nodes) zero (suc m) inputs e = refl
sizes-kept (p ∷ nodes) (suc n) zero inputs e = refl
sizes-kept (p ∷ nodes) (suc n) (suc m) inputs e = sizes-kept nodes n m inputs e

all-kept : (nodes : Shape) (n : ℕ) (inputs : List Stream) (ms : List ℕ) → length inputs ≡ length (node_at nodes n).inputs
    → length (flat_map (numbers_read (changed n (with_inputs inputs) nodes)) ms) ≡ length (flat_map (numbers_read nodes) ms)
all-kept nodes n inputs [] e = refl
all-kept nodes n inputs (m ∷ ms) e =
    let here = sizes-kept nodes n m inputs e in
    let rest = all-kept nodes n inputs ms e in
    let l = length-append (numbers_read (changed n (with_inputs inputs) nodes) m) (flat_map (numbers_read (changed n (with_inputs inputs) nodes)) ms) in
    let r = length-append (numbers_read nodes m) (flat_map (numbers_read nodes) ms) in
    omega (arith, here, rest, l, r)

-- Under way: what is left to be rewired gives what the whole gives.
pub record IsRewiring (number : ℕ → Option ℕ) (all : List ℕ) (start : Shape) (left : List ℕ) (nodes : Shape) (readers : List (Option Readers)) : Type 0 where
  pub before : List ℕ
  pub ports : HasPorts number before readers
  pub fits : length before + length (flat_map (numbers_read nodes) left) < 2 ^ 64
  pub same : rewired number before left nodes ≡ rewired number [] all start

pub begins : (number : ℕ → Option ℕ) (all : List ℕ) (start : Shape) (readers : List (Option Readers)) → HasPorts number [] readers → length (flat_map (numbers_read start) all) < 2 ^ 64 → IsRewiring number all start all start readers
begins number all start readers ports fits = record { before = []; ports = ports; fits = omega (arith, fits); same = refl }

pub one-rewired : (number : ℕ → Option ℕ) (all : List ℕ) (start : Shape) (n : ℕ) (left : List ℕ) (nodes nodes' : Shape) (readers readers' : List (Option Readers)) → IsRewiring number all start (n ∷ left) nodes readers
    → ((before : List ℕ) → HasPorts number before readers → length before + length (node_at nodes n).inputs < 2 ^ 64 → (nodes' ≡ changed n (with_inputs (inputs_through number before (node_at nodes n).inputs)) nodes) × HasPorts number (before ++ numbers_of (node_at nodes n).inputs) readers')
    → IsRewiring number all start left nodes' readers'
one-rewired number all start n left nodes nodes' readers readers' r goes =
    let P : Shape → Type 0 = λ ps. IsRewiring number all start left ps readers' in
    let size = length-append (numbers_read nodes n) (flat_map (numbers_read nodes) left) in
    let here = length-map (node_at nodes n).inputs (λ (i : Stream). i.0) in
    let fits = r.fits in
    let g = goes r.before r.ports (omega (arith, size, here, fits)) in
    let kept = all-kept nodes n (inputs_through number r.before (node_at nodes n).inputs) left (length-through number r.before (node_at nodes n).inputs) in
    let longer = length-append r.before (numbers_of (node_at nodes n).inputs) in
    subst P (sym g.0) (record { before = r.before ++ numbers_of (node_at nodes n).inputs; ports = g.1; fits = omega (arith, size, here, fits, kept, longer); same = r.same })

pub ends : (number : ℕ → Option ℕ) (all : List ℕ) (start : Shape) (nodes : Shape) (readers : List (Option Readers)) → IsRewiring number all start [] nodes readers → nodes ≡ rewired number [] all start
ends number all start nodes readers r = r.same

pub grows-none : (old new : List (Option PhysNode)) → new ≡ old → Grows old new
grows-none old new same = record { more = []; behind = same ∙ sym (append-nil old) }

pub grows-on : (a b c : List (Option PhysNode)) → Grows a b → Grows b c → Grows a c
grows-on a b c first then_ = record { more = first.more ++ then_.more; behind = then_.behind ∙ ap (λ xs. xs ++ then_.more) first.behind ∙ append_assoc a first.more then_.more }

-- a multiplexer is put behind
pub inserted-shown : (f : Node → Tree) (slots new : List (Option PhysNode)) (k : PhysNodeKey) (p q : PhysNode) (s : PhysStream) → value_at slots k.0 ≡ Some p → q.output_schema ≡ p.output_schema → q.origin ≡ p.origin
    → q.kind ≡ phys.Multiplexer s → s.node ≡ k → s.port ≡ 0 → new ≡ slots ++ Some q ∷ [] → nodes_of f new ≡ nodes_of f slots ++ multiplexer_of (nodes_of f slots) k.0 ∷ []
inserted-shown f slots new k p q s there schema origin kind node port is =
    let at = node-there f slots k.0 p there in
    ap (λ xs. nodes_of f xs) is ∙ map-append (node_of_slot f) slots (Some q ∷ [])
    ∙ (λ i. nodes_of f slots ++ record {
      kind = kind_of f (kind i);
      schema = (schema ∙ sym (ap (λ (x : PhysicalNode). x.schema) at)) i;
      origin = (ap (λ (o : Node). o.0) origin ∙ sym (ap (λ (x : PhysicalNode). x.origin) at)) i;
      inputs = (ap inputs_of kind ∙ ap (λ (t : Stream). t ∷ []) (λ j. ((node j).0, port j))) i;
    } ∷ [])

changed-same : (nodes : Shape) (n : ℕ) → changed n (with_inputs (node_at nodes n).inputs) nodes ≡ nodes
changed-same [] n = refl
changed-same (p ∷ nodes) zero = refl
changed-same (p ∷ nodes) (suc n) = ap (λ ps. p ∷ ps) (changed-same nodes n)

-- no node is there
pub rewired-none : (f : Node → Tree) (slots : List (Option PhysNode)) (n : ℕ) (number : ℕ → Option ℕ) (before : List ℕ) (readers : List (Option Readers)) → None ≡ value_at slots n → HasPorts number before readers
    → (nodes_of f slots ≡ changed n (with_inputs (inputs_through number before (node_at (nodes_of f slots) n).inputs)) (nodes_of f slots)) × HasPorts number (before ++ numbers_of (node_at (nodes_of f slots) n).inputs) readers
rewired-none f slots n number before readers none ports =
    let P : List ℕ → Type 0 = λ ns. HasPorts number ns readers in
    let at = node-shown f slots n ∙ ap (λ o. node_of_slot f o) (sym none) in
    let inputs : (node_at (nodes_of f slots) n).inputs ≡ [] = ap (λ (p : PhysicalNode). p.inputs) at in (
      sym (changed-same (nodes_of f slots) n) ∙ ap (λ is. changed n (with_inputs is) (nodes_of f slots)) (inputs ∙ sym (ap (λ is. inputs_through number before is) inputs)),
      subst P (sym (ap (λ is. before ++ numbers_of is) inputs ∙ append-nil before)) ports,
    )

-- a node is there
pub rewired-some : (f : Node → Tree) (slots new : List (Option PhysNode)) (n : ℕ) (p q : PhysNode) (number : ℕ → Option ℕ) (before : List ℕ) (readers : List (Option Readers)) → Some p ≡ value_at slots n → new ≡ slice_set slots n (Some q)
    → q.output_schema ≡ p.output_schema → q.origin ≡ p.origin → kind_of f q.kind ≡ kind_of f p.kind
    → (length before + length (inputs_of p.kind) < 2 ^ 64 → (inputs_of q.kind ≡ inputs_through number before (inputs_of p.kind)) × HasPorts number (before ++ numbers_of (inputs_of p.kind)) readers)
    → length before + length (node_at (nodes_of f slots) n).inputs < 2 ^ 64
    → (nodes_of f new ≡ changed n (with_inputs (inputs_through number before (node_at (nodes_of f slots) n).inputs)) (nodes_of f slots)) × HasPorts number (before ++ numbers_of (node_at (nodes_of f slots) n).inputs) readers
rewired-some f slots new n p q number before readers there is schema origin kind goes fits =
    let P : List Stream → Type 0 = λ ss. length before + length ss < 2 ^ 64 in
    let Q : List Stream → Type 0 = λ ss. HasPorts number (before ++ numbers_of ss) readers in
    let inputs : (node_at (nodes_of f slots) n).inputs ≡ inputs_of p.kind = ap (λ (x : PhysicalNode). x.inputs) (node-there f slots n p (sym there)) in
    let g = goes (subst P inputs fits) in (
      ap (λ xs. nodes_of f xs) is ∙ written-shown f slots n p q (inputs_through number before (node_at (nodes_of f slots) n).inputs) (sym there) schema origin kind (g.0 ∙ ap (λ ss. inputs_through number before ss) (sym inputs)),
      subst Q (sym inputs) g.1,
    )

pub nothing-more : (nodes : Shape) → nodes ≡ nodes ++ []
nothing-more nodes = sym (append-nil nodes)

-- the next of the nodes is rewired
pub next-rewired : (number : ℕ → Option ℕ) (taken : List PhysNodeKey) (start : Shape) (i : ℕ) (d : PhysNodeKey) (nodes nodes' : Shape) (readers readers' : List (Option Readers)) → i < length taken
    → IsRewiring number (numbers_in taken) start (numbers_in (drop i taken)) nodes readers
    → ((before : List ℕ) → HasPorts number before readers → length before + length (node_at nodes (get_or taken i d).0).inputs < 2 ^ 64
    → (nodes' ≡ changed (get_or taken i d).0 (with_inputs (inputs_through number before (node_at nodes (get_or taken i d).0).inputs)) nodes) × HasPorts number (before ++ numbers_of (node_at nodes (get_or taken i d).0).inputs) readers')
    → IsRewiring number (numbers_in taken) start (numbers_in (drop (i + 1) taken)) nodes' readers'
next-rewired number taken start i d nodes nodes' readers readers' within r goes =
    let P : List PhysNodeKey → Type 0 = λ ks. IsRewiring number (numbers_in taken) start (numbers_in ks) nodes readers in
    one-rewired number (numbers_in taken) start (get_or taken i d).0 (numbers_in (drop (i + 1) taken)) nodes nodes' readers readers' (subst P (drop_more taken i d within) r) goes

pub all-rewired : (number : ℕ → Option ℕ) (taken : List PhysNodeKey) (start : Shape) (i : ℕ) (nodes : Shape) (readers : List (Option Readers)) → length taken ≤ i
    → IsRewiring number (numbers_in taken) start (numbers_in (drop i taken)) nodes readers → nodes ≡ rewired number [] (numbers_in taken) start
all-rewired number taken start i nodes readers past r =
    let P : List PhysNodeKey → Type 0 = λ ks. IsRewiring number (numbers_in taken) start (numbers_in ks) nodes readers in
    ends number (numbers_in taken) start nodes readers (subst P (drop_all i taken past) r)

pub set-there : (slots : List (Option PhysNode)) (k n : ℕ) (q : PhysNode) → IsSome (value_at slots n) → IsSome (value_at (slice_set slots k (Some q)) n)
set-there [] k n q h = h
set-there (s ∷ slots) zero zero q h = refl
set-there (s ∷ slots) zero (suc n) q h = h
set-there (s ∷ slots) (suc k) zero q h = h
set-there (s ∷ slots) (suc k) (suc n) q h = set-there slots k n q h

at-push : (slots : List (Option PhysNode)) (q : PhysNode) (n : ℕ) → length slots ≤ n → n < suc (length slots) → IsSome (value_at (slots ++ Some q ∷ []) n)
at-push [] q zero low high = refl
at-push [] q (suc n) low high = absurd (omega (arith, high))
at-push (s ∷ slots) q zero low high = absurd (omega (arith, low))
at-push (s ∷ slots) q (suc n) low high = at-push slots q n (omega (arith, low)) (omega (arith, high))

before-push : (slots : List (Option PhysNode)) (q : PhysNode) (n : ℕ) → n < length slots → IsSome (value_at slots n) → IsSome (value_at (slots ++ Some q ∷ []) n)
before-push [] q n l h = absurd (omega (arith, l))
before-push (s ∷ slots) q zero l h = h
before-push (s ∷ slots) q (suc n) l h = before-push slots q n (omega (arith, l)) h

pub filled-push : (first : ℕ) (slots new : List (Option PhysNode)) (q : PhysNode) → IsFilledFrom first slots → new ≡ slots ++ Some q ∷ [] → IsFilledFrom first new
filled-push first slots new q filled is = let P : List (Option PhysNode) → Type 0 = λ xs. IsFilledFrom first xs in subst P (sym is) longer
  where
    longer : IsFilledFrom first (slots ++ Some q ∷ [])
    longer n low high = by (nat_lt n (length slots)) refl
      where
        by : (b : Bool) → nat_lt n (length slots) ≡ b → IsSome (value_at (slots ++ Some q ∷ []) n)
        by true e = let l = ltb-true n (length slots) e in before-push slots q n l (filled n low l)
        by false e = let l = ltb-false n (length slots) e in let size = length-append slots (Some q ∷ []) in at-push slots q n l (omega (arith, high, size))
