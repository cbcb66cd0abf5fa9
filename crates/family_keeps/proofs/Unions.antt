-- A union keeps the order of its morsels, along every step: one input after the other.
use Rattle.std.proofs.Common.{◌≡◌, ◌≢◌, ℕ, zero, suc, ◌<◌, ◌+◌, ◌⊎◌, Bool, true, false, List, [], ◌∷◌, ◌++◌, length, take, Option, Some, None, refl, sym, ap, subst, ◌∙◌, inl, inr, append-nil, append_assoc, arith, length-append}
use Rattle.std.specs.Prelude.{Contains, IsTrue, cond, nat_eq, nat_lt, option_map, slice_get, ◌&&◌}
use Rattle.std.specs.List.{filter as kept}
use Rattle.std.proofs.lemmas.Bool.{cases_eq}
use Rattle.std.proofs.lemmas.Option.{slice_get_within}
use Rattle.ps_frame.specs.Functions.{Functions}
use Rattle.ps_frame.specs.Sorting.{in_order}
use Rattle.ps_frame.specs.Tables.{Fields, Row}
use Rattle.ps_meaning.specs.Shape.{PhysicalNode, ordered_union}
use Rattle.ps_meaning.specs.Sound.{input_schemas}
use Rattle.ps_ports.specs.Wires.{Wire}
use Rattle.ps_turns.specs.Claims.{Claim, Next, claim_by, passes}
use Rattle.ps_turns.specs.Pulls.{pulls}
use Rattle.ps_turns.specs.Tasks.{Piece, hands_on}
use Rattle.ps_world.specs.Claims.{claim_at, inputs_in_phase, next_morsel, piece_of}
use Rattle.ps_world.specs.Pipes.{is_input}
use Rattle.ps_world.specs.World.{Node, Pipe, World, flat, has_next, heads_of, inputs_done, morsel_at, pipes_in, schemas_for, shape_of}
use Rattle.world_claims.specs.Numbering.{Known}
use Rattle.world_facts.proofs.CutOff.{both_true}
use Rattle.world_facts.proofs.Slots.{at_end}
use Rattle.world_laws.proofs.PassingPorts.{same_number, was_kept}
use Rattle.world_laws.proofs.InOrder.{contains_first, contains_later}
use Rattle.family_pipes.proofs.Complete.{in_no_phase}
use Rattle.family_pipes.proofs.Inputs.{enters, inputs_long}
use Rattle.world_families.proofs.Members.{nothing_is}
use Rattle.family_pipes.proofs.Outputs.{MayCome, Onto, gives_keep, was_complete}
use Rattle.family_pipes.proofs.SourceSteps.{StepOf}
use Rattle.world_families.specs.Sources.{KeepsNone}
use Rattle.world_families.specs.Unions.{HoldsUnion, morsels_read}
use Rattle.world_families.specs.Work.{AllComplete, Enters, Gives, IsComplete, Leaves, Work, asked_by, work_of}
use Rattle.orderly_worlds.proofs.Goes.{Goes, GoesOn, IsTakenBy, IsTakenOf, NoneTaken}
use Rattle.orderly_worlds.proofs.Orderly.{Orderly, complete_rests}
use Rattle.orderly_worlds.proofs.PortPipes.{input_pipe}
use Rattle.orderly_worlds.proofs.ReadRows.{came_to, take_fills, take_more}
use Rattle.orderly_worlds.proofs.Seen.{OutsOrNew, OutsWere, Seen, TakenElsewhere, claims, pulls_in, stands_still}
use Rattle.orderly_worlds.proofs.Stands.{Stands}
use Rattle.passing_runs.proofs.Slots.{Came}

-- LISTS OF PIPES, PLACE BY PLACE
abbrev pub AtEach : (ℕ → Pipe → Pipe → Type 0) → List Pipe → List Pipe → Type 0
AtEach R xs ys = (k : ℕ) (x y : Pipe) → slice_get xs k ≡ Some x → slice_get ys k ≡ Some y → R k x y

abbrev SameRead : ℕ → Pipe → Pipe → Type 0
SameRead k x y = take y.next y.got ≡ take x.next x.got

pub read_same : (xs ys : List Pipe) → length xs ≡ length ys → AtEach SameRead xs ys → morsels_read ys ≡ morsels_read xs
read_same [] [] e h = refl
read_same [] (y ∷ ys) e h = absurd (omega arith)
read_same (x ∷ xs) [] e h = absurd (omega arith)
read_same (x ∷ xs) (y ∷ ys) e h = let first = h 0 x y refl refl in let rest = read_same xs ys (omega arith) (λ k a b. h (suc k) a b) in λ i. first i ++ rest i

nothing_read : (xs : List Pipe) → ((k : ℕ) (x : Pipe) → slice_get xs k ≡ Some x → take x.next x.got ≡ []) → morsels_read xs ≡ []
nothing_read [] h = refl
nothing_read (x ∷ xs) h = ap (λ z. z ++ morsels_read xs) (h 0 x refl) ∙ nothing_read xs (λ k a. h (suc k) a)

-- one morsel more of an input, behind which nothing was read
pub record OneMore (i : ℕ) (rs : List Row) (xs ys : List Pipe) : Type 0 where
  pub here : (x y : Pipe) → slice_get xs i ≡ Some x → slice_get ys i ≡ Some y → take y.next y.got ≡ take x.next x.got ++ Some rs ∷ []
  pub others : (k : ℕ) (x y : Pipe) → k ≢ i → slice_get xs k ≡ Some x → slice_get ys k ≡ Some y → take y.next y.got ≡ take x.next x.got
  pub later : (k : ℕ) (x : Pipe) → i < k → slice_get xs k ≡ Some x → take x.next x.got ≡ []

not_zero : (k : ℕ) → suc k ≡ 0 → ⊥
not_zero k e = omega arith

pub read_more : (i : ℕ) (rs : List Row) (xs ys : List Pipe) → length xs ≡ length ys → i < length xs → OneMore i rs xs ys → morsels_read ys ≡ morsels_read xs ++ Some rs ∷ []
read_more i rs [] ys e short h = absurd (omega arith)
read_more i rs (x ∷ xs) [] e short h = absurd (omega arith)
read_more zero rs (x ∷ xs) (y ∷ ys) e short h =
    let rest = read_same xs ys (omega arith) (λ k a b. h.others (suc k) a b (not_zero k)) in
    let none = nothing_read xs (λ k a. h.later (suc k) a (omega arith)) in
    let front = take x.next x.got in
    (λ j. h.here x y refl refl j ++ rest j) ∙ ap (λ z. (front ++ Some rs ∷ []) ++ z) none ∙ append-nil (front ++ Some rs ∷ []) ∙ ap (λ z. z ++ Some rs ∷ []) (sym (append-nil front) ∙ ap (λ z. front ++ z) (sym none))
read_more (suc i) rs (x ∷ xs) (y ∷ ys) e short h =
    let first = h.others 0 x y (λ z. not_zero i (sym z)) refl refl in
    let rest = read_more i rs xs ys (omega arith) (omega arith) (record { here = h.here; others = λ k a b apart. h.others (suc k) a b (λ z. apart (let q : k ≡ i = omega arith in q)); later = λ k a less. h.later (suc k) a (omega arith) }) in
    (λ j. first j ++ rest j) ∙ sym (append_assoc (take x.next x.got) (morsels_read xs) (Some rs ∷ []))

pub at_front : (xs ys : List (Option (List Row))) (k : ℕ) (z : Option (List Row)) → slice_get xs k ≡ Some z → slice_get (xs ++ ys) k ≡ Some z
at_front [] ys k z e = absurd (nothing_is z e)
at_front (x ∷ xs) ys zero z e = e
at_front (x ∷ xs) ys (suc k) z e = at_front xs ys k z e

-- THE MORSEL OF A CLAIM
from_next : (f : ℕ × List Row → Claim) (next : Next) (c : Claim) → option_map f next ≡ Some c → (m : ℕ × List Row) × (next ≡ Some m) × (f m ≡ c)
from_next f None c e = absurd (nothing_is c e)
from_next f (Some m) c e = (m, refl, let q : Some (f m) ≡ Some c = e in cc)

morsel_is : (o : Option (List Row)) (k : ℕ) (m : ℕ × List Row) → option_map {U = ℕ × List Row} (λ rs. (k, rs)) o ≡ Some m → o ≡ Some m.1
morsel_is None k m e = absurd (let no : None ≡ Some m = e in cc)
morsel_is (Some rs) k m e = let q : Some (k, rs) ≡ Some m = e in let is : (k, rs) ≡ m = cc in ap (λ (x : ℕ × List Row). Some x.1) is

slot_is : (o : Option (Option (List Row))) (rs : List Row) → flat o ≡ Some rs → o ≡ Some (Some rs)
slot_is None rs e = absurd (nothing_is rs e)
slot_is (Some slot) rs e = ap Some e

pub next_from : (ps : List Pipe) (m : ℕ × List Row) → next_morsel ps ≡ Some m → (x : Pipe) × Contains ps x × (slice_get x.got x.next ≡ Some (Some m.1))
next_from [] m e = absurd (let no : None ≡ Some m = e in cc)
next_from (x ∷ ps) m e = by (has_next x) refl (next_from ps m)
  where
    at : (b : Bool) → has_next x ≡ b → cond b (option_map {U = ℕ × List Row} (λ rs. (x.next, rs)) (morsel_at x.next x.got)) (next_morsel ps) ≡ Some m
    at b h = sym (ap (λ b. cond b (option_map {U = ℕ × List Row} (λ rs. (x.next, rs)) (morsel_at x.next x.got)) (next_morsel ps)) h) ∙ e

    by : (b : Bool) → has_next x ≡ b → (next_morsel ps ≡ Some m → (y : Pipe) × Contains ps y × (slice_get y.got y.next ≡ Some (Some m.1))) → (y : Pipe) × Contains (x ∷ ps) y × (slice_get y.got y.next ≡ Some (Some m.1))
    by true h rest = (x, contains_first x ps, slot_is (slice_get x.got x.next) m.1 (morsel_is (morsel_at x.next x.got) x.next m (at true h)))
    by false h rest = let r = rest (at false h) in (r.0, contains_later x r.0 ps r.1, r.2)

-- WHAT A UNION DOES
-- a morsel that is handed on
abbrev pub union_work : List Fields → List Row → Work
union_work ss rs = record { task = hands_on; schemas = ss; tables = rs ∷ [] }

abbrev pub UnionWork : List Fields → List (Option (List Row)) → ℕ → Work → Type 0
UnionWork ss ms k x = (rs : List Row) × (slice_get ms k ≡ Some (Some rs)) × (x ≡ union_work ss rs)

pub same_schemas : (w v : World) (x y : Node) → shape_of v ≡ shape_of w → y.node ≡ x.node → schemas_for v y ≡ schemas_for w x
same_schemas w v x y shape node = λ i. input_schemas (shape i) (node i)

module _ (F : Functions) (w v : World) (n : ℕ) (node y : Node) (o : Orderly F w) (kv : Known F v) (begun : w.is_open ≡ true) (shape : shape_of v ≡ shape_of w) (there : slice_get w.nodes n ≡ Some node) (at : slice_get v.nodes n ≡ Some y) (is_one : node.node.kind ≡ ordered_union) (h : HoldsUnion F w n node) where
  -- the pipes at one place
  module _ (Takes Musts : Pipe → Type 0) (some : (x : Pipe) → Takes x → (rs : List Row) × (slice_get x.got x.next ≡ Some (Some rs))) (g : GoesOn Takes Musts w v) where
    placed : AtEach (λ k a b. Goes Takes Musts a b × Enters w n a × (a.wire.input ≡ k) × Enters v n b) (pipes_in w n) (pipes_in v n)
    placed k a b e f =
        let ea = enters F w o.known.facts n k a e in
        let eb = enters F v kv.facts n k b f in
        let x = g b eb.0.0 in
        let receiver : x.0.wire.receiver ≡ n = ap (λ (u : Wire). u.receiver) (sym x.2.wire) ∙ eb.0.1 in
        let input : x.0.wire.input ≡ k = ap (λ (u : Wire). u.input) (sym x.2.wire) ∙ eb.1 in
        let same = o.known.facts.one_input x.0 a x.1 ea.0.0 (receiver ∙ sym ea.0.1) (input ∙ sym ea.1) in
        (subst (λ z. Goes Takes Musts z b) same x.2, ea.0, ea.1, eb.0)

    long : y.node ≡ node.node → length (pipes_in w n) ≡ length (pipes_in v n)
    long same = inputs_long F w o.known.facts n node there ∙ ap (λ (p : PhysicalNode). length p.inputs) (sym same) ∙ sym (inputs_long F v kv.facts n y at)

    -- what is complete stays so
    all_complete : AllComplete w n → AllComplete v n
    all_complete all q c =
        let x = g q c.0 in
        (complete_rests F w Takes Musts o begun some x.0 q x.1 x.2 (all x.0 (x.1, ap (λ (u : Wire). u.receiver) (sym x.2.wire) ∙ c.1))).is_complete

    -- the inputs keep their turn
    in_turn : ((x : Pipe) → Takes x → Enters w n x → x.in_phase ≡ true) → (q r : Pipe) → Enters v n q → Enters v n r → q.wire.input < r.wire.input → (0 < r.next) ⊎ IsTrue r.in_phase → IsComplete q
    in_turn on q r cq cr less turn =
        let a = g q cq.0 in
        let b = g r cr.0 in
        let ea : Enters w n a.0 = (a.1, ap (λ (u : Wire). u.receiver) (sym a.2.wire) ∙ cq.1) in
        let eb : Enters w n b.0 = (b.1, ap (λ (u : Wire). u.receiver) (sym b.2.wire) ∙ cr.1) in
        let first = ap (λ (u : Wire). u.input) a.2.wire in
        let second = ap (λ (u : Wire). u.input) b.2.wire in
        let before : a.0.wire.input < b.0.wire.input = omega (arith, first, second, less) in
        (complete_rests F w Takes Musts o begun some a.0 q a.1 a.2 (h.in_turn a.0 b.0 ea eb before (was b.0 b.2 eb turn))).is_complete
      where
        next : (x : Pipe) → Goes Takes Musts x r → Enters w n x → 0 < r.next → (r.next ≡ x.next) ⊎ (r.next ≡ suc x.next) × Takes x → (0 < x.next) ⊎ IsTrue x.in_phase
        next x gx e some_read (inl same) = inl (omega (arith, some_read, same))
        next x gx e some_read (inr (more, t)) = inr (on x t e)

        mark : (x : Pipe) → r.in_phase ≡ true → (r.in_phase ≡ x.in_phase) ⊎ (r.in_phase ≡ false) → x.in_phase ≡ true
        mark x e (inl same) = sym same ∙ e
        mark x e (inr off) = absurd (let no : true ≡ false = sym e ∙ off in cc)

        was : (x : Pipe) → Goes Takes Musts x r → Enters w n x → (0 < r.next) ⊎ IsTrue r.in_phase → (0 < x.next) ⊎ IsTrue x.in_phase
        was x gx e (inl some_read) = next x gx e some_read gx.next
        was x gx e (inr phase) = inr (mark x phase gx.mark)

    -- what it gives, once its work is known to go on
    gives : StepOf F w v n node → y.node ≡ node.node → (ms : List (Option (List Row))) → ((k : ℕ) (z : Option (List Row)) → slice_get (morsels_read (pipes_in w n)) k ≡ Some z → slice_get ms k ≡ Some z)
        → ((q : Piece) → Contains v.outs q → q.node ≡ n → Contains w.outs q ⊎ UnionWork (schemas_for v y) ms q.gives (work_of q) ⊎ KeepsNone q) → Gives F v n (UnionWork (schemas_for v y) ms) KeepsNone (AllComplete v n)
    gives s same ms on pieces =
        gives_keep F w v n (UnionWork (schemas_for w node) (morsels_read (pipes_in w n))) (UnionWork (schemas_for v y) ms) KeepsNone KeepsNone (AllComplete w n) (AllComplete v n)
        (λ k x u. (u.0, on k (Some u.0) u.1, u.2 ∙ ap (λ ss. union_work ss u.0) (sym (same_schemas w v node y shape same))))
        (λ q none. none) (λ q rs none r. absurd none) (λ p k rs l e. came p k rs (s.outputs p l) e) pieces
        (λ p l c. let x = s.outputs p l in inl (x.0, x.1, was_complete x.0 p x.2 c, all_complete)) h.gives
      where
        came : (p : Pipe) (k : ℕ) (rs : List Row) → (x : Pipe) × Leaves w n x × Onto (MayCome F w n) x p → slice_get p.got k ≡ Some (Some rs) → ((x : Pipe) × Leaves w n x × (slice_get x.got k ≡ Some (Some rs))) ⊎ MayCome F w n k rs
        came p k rs (x, l, on_to) e = by (on_to.got k rs e)
          where
            by : (slice_get x.got k ≡ Some (Some rs)) ⊎ MayCome F w n k rs → ((z : Pipe) × Leaves w n z × (slice_get z.got k ≡ Some (Some rs))) ⊎ MayCome F w n k rs
            by (inl old) = inl (x, l, old)
            by (inr new) = inr new

  -- IT STANDS STILL
  union_still : GoesOn (TakenElsewhere n) NoneTaken w v → StepOf F w v n node → Stands node y → OutsWere w v n → HoldsUnion F v n y
  union_still g s st outs =
      let T = TakenElsewhere n in
      let same = read_same (pipes_in w n) (pipes_in v n) (long T NoneTaken (λ x t. t.1) g st.node) read in
      let kept : Gives F v n (UnionWork (schemas_for v y) (morsels_read (pipes_in v n))) KeepsNone (AllComplete v n) =
      gives T NoneTaken (λ x t. t.1) g s st.node (morsels_read (pipes_in v n)) (λ k z e. ap (λ ms. slice_get ms k) same ∙ e) (λ q c e. inl (outs q c e)) in
      record {
        in_turn = in_turn T NoneTaken (λ x t. t.1) g (λ x t e. absurd (t.0 e.1));
        counted = st.sent ∙ h.counted ∙ ap length (sym same);
        gives = kept;
      }
    where
      read : AtEach SameRead (pipes_in w n) (pipes_in v n)
      read k a b e f =
          let p = placed (TakenElsewhere n) NoneTaken (λ x t. t.1) g k a b e f in
          ap (λ j. take j b.got) (by p.0.next p.1.1) ∙ take_fills a.got b.got a.next p.0.got (came_to F w o.known a p.1.0)
        where
          by : (b.next ≡ a.next) ⊎ (b.next ≡ suc a.next) × TakenElsewhere n a → a.wire.receiver ≡ n → b.next ≡ a.next
          by (inl same) r = same
          by (inr (more, t)) r = absurd (t.0 r)

  -- ITS CLAIM
  module _ (i : ℕ) (c : Claim) (is : claim_at w n i node ≡ Some c) (g : GoesOn (IsTakenOf n i) (IsTakenBy n i c.takes_morsel) w v) (s : StepOf F w v n node) (st : Stands (record node { progress = c.progress }) y) (outs : OutsOrNew w v n i c) where
    abbrev next : Next
    next = next_morsel (inputs_in_phase w n i)

    claimed : (m : ℕ × List Row) × (next ≡ Some m) × (passes w.options node.node (schemas_for w node) ordered_union node.progress m.0 m.1 ≡ c)
    claimed = from_next (λ m. passes w.options node.node (schemas_for w node) ordered_union node.progress m.0 m.1) next c ((λ j. claim_by w.options node.node (schemas_for w node) (sym is_one j) node.progress (heads_of w n node) (inputs_done w n) i next) ∙ is)

    abbrev rows : List Row
    rows = claimed.0.1

    record Source : Type 0 where
      pipe : Pipe
      enters_it : Enters w n pipe
      input : pipe.wire.input ≡ i
      is_in : is_input n i pipe ≡ true
      in_phase : pipe.in_phase ≡ true
      slot : slice_get pipe.got pipe.next ≡ Some (Some rows)

    source : Source
    source =
        let x = next_from (inputs_in_phase w n i) claimed.0 claimed.1 in
        let k = was_kept (λ (p : Pipe). is_input n i p && p.in_phase) x.0 w.pipes x.1 in
        let a = both_true (is_input n i x.0) x.0.in_phase k.1 in
        let b = both_true (nat_eq x.0.wire.receiver n) (nat_eq x.0.wire.input i) a.0 in
        record { pipe = x.0; enters_it = (k.0, same_number x.0.wire.receiver n b.0); input = same_number x.0.wire.input i b.1; is_in = a.0; in_phase = a.1; slot = x.2 }

    takes : c.takes_morsel ≡ true
    takes = ap (λ (x : Claim). x.takes_morsel) (sym claimed.2)

    stands_at : slice_get (pipes_in w n) i ≡ Some source.pipe
    stands_at = (λ j. slice_get (pipes_in w (sym source.enters_it.1 j)) (sym source.input j)) ∙ input_pipe F w o.known.facts source.pipe source.enters_it.0

    more : OneMore i rows (pipes_in w n) (pipes_in v n)
    more = record { here = here; others = others; later = later }
      where
        here : (a b : Pipe) → slice_get (pipes_in w n) i ≡ Some a → slice_get (pipes_in v n) i ≡ Some b → take b.next b.got ≡ take a.next a.got ++ Some rows ∷ []
        here a b e f =
            let two : Some source.pipe ≡ Some a = sym stands_at ∙ e in
            let same : source.pipe ≡ a = cc in
            let p = placed (IsTakenOf n i) (IsTakenBy n i c.takes_morsel) (λ x t. t.1) g i a b e f in
            let slot : slice_get a.got a.next ≡ Some (Some rows) = subst (λ (z : Pipe). slice_get z.got z.next ≡ Some (Some rows)) same source.slot in
            let on = p.0.surely (takes, subst (λ z. is_input n i z ≡ true) same source.is_in) in
            let came = came_to F w o.known a p.1.0 in
            ap (λ j. take j b.got) on ∙ take_fills a.got b.got (suc a.next) p.0.got (one_more a came slot) ∙ take_more a.got a.next rows slot
          where
            one_more : (x : Pipe) → Came x.got x.next → slice_get x.got x.next ≡ Some (Some rows) → Came x.got (suc x.next)
            one_more x came slot k less = by (cases_eq k x.next)
              where
                by : (k ≡ x.next) ⊎ (k ≢ x.next) → (a : List Row) × (slice_get x.got k ≡ Some (Some a))
                by (inl e) = (rows, ap (slice_get x.got) e ∙ slot)
                by (inr other) = came k (omega (arith, less, other))

        others : (k : ℕ) (a b : Pipe) → k ≢ i → slice_get (pipes_in w n) k ≡ Some a → slice_get (pipes_in v n) k ≡ Some b → take b.next b.got ≡ take a.next a.got
        others k a b apart e f =
            let p = placed (IsTakenOf n i) (IsTakenBy n i c.takes_morsel) (λ x t. t.1) g k a b e f in
            ap (λ j. take j b.got) (by p.0.next p.2) ∙ take_fills a.got b.got a.next p.0.got (came_to F w o.known a p.1.0)
          where
            by : (b.next ≡ a.next) ⊎ (b.next ≡ suc a.next) × IsTakenOf n i a → a.wire.input ≡ k → b.next ≡ a.next
            by (inl same) r = same
            by (inr (m, t)) r = absurd (apart (sym r ∙ same_number a.wire.input i (both_true (nat_eq a.wire.receiver n) (nat_eq a.wire.input i) t.0).1))

        -- a later input has had no turn yet
        later : (k : ℕ) (a : Pipe) → i < k → slice_get (pipes_in w n) k ≡ Some a → take a.next a.got ≡ []
        later k a less e = by a.next refl
          where
            by : (j : ℕ) → a.next ≡ j → take a.next a.got ≡ []
            by zero z = ap (λ j. take j a.got) z
            by (suc j) z =
                let ea = enters F w o.known.facts n k a e in
                let before : source.pipe.wire.input < a.wire.input = (let p = source.input in let q = ea.1 in omega (arith, less, p, q)) in
                let complete = h.in_turn source.pipe a source.enters_it ea.0 before (inl (omega arith)) in
                absurd (let no : true ≡ false = sym source.in_phase ∙ in_no_phase F w source.pipe o.known source.enters_it.0 complete in cc)

    abbrev ms : List (Option (List Row))
    ms = morsels_read (pipes_in w n)

    grown : morsels_read (pipes_in v n) ≡ ms ++ Some rows ∷ []
    grown = read_more i rows (pipes_in w n) (pipes_in v n) (long (IsTakenOf n i) (IsTakenBy n i c.takes_morsel) (λ x t. t.1) g st.node) (slice_get_within (pipes_in w n) i source.pipe stands_at) more

    new_work : UnionWork (schemas_for v y) (ms ++ Some rows ∷ []) c.gives (asked_by c)
    new_work =
        let schemas = same_schemas w v node y shape st.node in
        let gives_next : c.gives ≡ length ms = ap (λ (x : Claim). x.gives) (sym claimed.2) ∙ h.counted in
        let work : asked_by c ≡ union_work (schemas_for v y) rows = ap asked_by (sym claimed.2) ∙ ap (λ ss. union_work ss rows) (sym schemas) in
        (rows, ap (slice_get (ms ++ Some rows ∷ [])) gives_next ∙ at_end ms (Some rows), work)

    pub union_claim : HoldsUnion F v n y
    union_claim =
        let kept = gives (IsTakenOf n i) (IsTakenBy n i c.takes_morsel) (λ x t. t.1) g s st.node (ms ++ Some rows ∷ []) (λ k z e. at_front ms (Some rows ∷ []) k z e) (λ q k e. piece q (outs q k e)) in
        record {
          in_turn = in_turn (IsTakenOf n i) (IsTakenBy n i c.takes_morsel) (λ x t. t.1) g (λ x t e. t.2);
          counted =
              let one : c.progress.sent ≡ node.progress.sent + 1 = ap (λ (x : Claim). x.progress.sent) (sym claimed.2) in
              let l = ap length grown in
              let a = length-append ms (Some rows ∷ []) in
              let b = h.counted in
              let d = st.sent in
              omega (arith, one, l, a, b, d);
          gives = subst (λ zs. Gives F v n (UnionWork (schemas_for v y) zs) KeepsNone (AllComplete v n)) (sym grown) kept;
        }
      where
        piece : (q : Piece) → Contains w.outs q ⊎ ((worker : ℕ) × (piece_of n i worker c ≡ q)) → Contains w.outs q ⊎ UnionWork (schemas_for v y) (ms ++ Some rows ∷ []) q.gives (work_of q) ⊎ KeepsNone q
        piece q (inl old) = inl old
        piece q (inr (worker, new)) = inr (inl (subst (λ (z : Piece). UnionWork (schemas_for v y) (ms ++ Some rows ∷ []) z.gives (work_of z)) new new_work))

  never_pulls : pulls node.node.kind ≡ true → ⊥
  never_pulls e = let no : true ≡ false = sym e ∙ ap pulls is_one in cc

  pub union_step : Seen F w v n node → HoldsUnion F v n y
  union_step (stands_still g s st outs) = union_still g s (st y at) outs
  union_step (claims i c is g s st outs) = union_claim i c is g s (st y at) outs
  union_step (pulls_in i p rs pulling cp input is g s st outs) = absurd (never_pulls pulling)

-- WHILE ALL PIPES STAY
same_union : (F : Functions) (v : World) (n : ℕ) (y : Node) (qs : List Pipe) (ss : List Fields) → pipes_in v n ≡ qs → schemas_for v y ≡ ss
    → ((q r : Pipe) → Enters v n q → Enters v n r → q.wire.input < r.wire.input → (0 < r.next) ⊎ IsTrue r.in_phase → IsComplete q) → y.progress.sent ≡ length (morsels_read qs) → Gives F v n (UnionWork ss (morsels_read qs)) KeepsNone (AllComplete v n) → HoldsUnion F v n y
same_union F v n y qs ss pipes schemas turn counted gives =
    record {
      in_turn = turn;
      counted = counted ∙ ap (λ ps. length (morsels_read ps)) (sym pipes);
      gives = subst (λ zs. Gives F v n (UnionWork zs (morsels_read (pipes_in v n))) KeepsNone (AllComplete v n)) (sym schemas) (subst (λ ps. Gives F v n (UnionWork ss (morsels_read ps)) KeepsNone (AllComplete v n)) (sym pipes) gives);
    }

pub still_union : (F : Functions) (w v : World) (n : ℕ) (node y : Node) → v.pipes ≡ w.pipes → v.outs ≡ w.outs → shape_of v ≡ shape_of w → Stands node y → HoldsUnion F w n node → HoldsUnion F v n y
still_union F w v n node y pipes outs shape s h =
    same_union F v n y (pipes_in w n) (schemas_for w node)
    (ap (λ ps. in_order (λ (p q : Pipe). nat_lt p.wire.input q.wire.input) (kept (λ (p : Pipe). nat_eq p.wire.receiver n) ps)) pipes)
    (same_schemas w v node y shape s.node)
    (λ q r cq cr less turn. h.in_turn q r (was q cq) (was r cr) less turn)
    (s.sent ∙ h.counted)
    (record {
      answers = λ p k rs l e. h.gives.answers p k rs (subst (λ ps. Contains ps p) pipes l.0, l.1) e;
      pieces = λ q c e. h.gives.pieces q (subst (λ qs. Contains qs q) outs c) e;
      completes = λ p l c q e. h.gives.completes p (subst (λ ps. Contains ps p) pipes l.0, l.1) c q (was q e);
    })
  where
    was : (q : Pipe) → Enters v n q → Enters w n q
    was q e = (subst (λ ps. Contains ps q) pipes e.0, e.1)
