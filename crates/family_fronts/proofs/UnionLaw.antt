-- The first part of the law of unions.
use Rattle.std.proofs.Common.{◌≡◌, ℕ, zero, suc, ◌<◌, ◌⊎◌, List, [], ◌∷◌, ◌++◌, length, take, Option, Some, None, refl, sym, ap, subst, ◌∙◌, inl, inr, append-nil, append_assoc, arith}
use Rattle.std.specs.Prelude.{map, slice_get, unwrap_or}
use Rattle.std.specs.List.{AllZip}
use Rattle.std.proofs.lemmas.List.{length-take, take_all}
use Rattle.ps_frame.specs.Causes.{Cause}
use Rattle.ps_frame.specs.Functions.{Functions}
use Rattle.ps_frame.specs.Tables.{Row, Table}
use Rattle.ps_meaning.specs.Cases.{out_schema, schemas_of, table_of, union_rows}
use Rattle.ps_meaning.specs.Schemas.{schema_or_empty}
use Rattle.ps_meaning.specs.Shape.{PhysicalCase, PhysicalKind, PhysicalNode, ordered_union}
use Rattle.ps_meaning.specs.Sound.{HasSchema, input_schemas}
use Rattle.ps_meaning.specs.Steps.{union}
use Rattle.ps_turns.specs.Progress.{is_multiplexer}
use Rattle.ps_turns.specs.Tasks.{hands_on}
use Rattle.ps_world.specs.Laws.{Extends, Justified, sent_at, sent_by, sent_to}
use Rattle.ps_world.specs.World.{Node, Pipe, World, pipes_in, rows_in_order, schemas_for, shape_of}
use Rattle.world_claims.specs.Numbering.{Known, counts_own}
use Rattle.family_pipes.proofs.Complete.{filled, whole}
use Rattle.family_pipes.proofs.Inputs.{enters, sent_to_is, take_at}
use Rattle.world_families.proofs.Members.{nothing_is}
use Rattle.family_pipes.proofs.Sent.{each_port, is_sink, node_of}
use Rattle.family_fronts.proofs.SourceLaw.{from_single}
use Rattle.world_families.specs.Holds.{Holds, HoldsOfKind}
use Rattle.world_families.specs.Unions.{HoldsUnion, morsels_read}
use Rattle.world_families.specs.Work.{Answers, Enters, IsComplete, Leaves, Work}

abbrev pub Slots : Type 0
Slots = List (Option (List Row))

-- every place is filled
abbrev pub Filled : Slots → Type 0
Filled xs = (k : ℕ) → k < length xs → (rs : List Row) × (slice_get xs k ≡ Some (Some rs))

later_filled : (x : Option (List Row)) (xs : Slots) → Filled (x ∷ xs) → Filled xs
later_filled x xs f k h = f (suc k) (omega arith)

first_filled : (x : Option (List Row)) (xs : Slots) → Filled (x ∷ xs) → (rs : List Row) × (x ≡ Some rs)
first_filled x xs f = let r = f 0 (omega arith) in (r.0, let e : Some x ≡ Some (Some r.0) = r.1 in let q : x ≡ Some r.0 = cc in q)

-- behind filled places rows go on
pub rows_append : (xs ys : Slots) → Filled xs → rows_in_order (xs ++ ys) ≡ rows_in_order xs ++ rows_in_order ys
rows_append [] ys f = refl
rows_append (None ∷ xs) ys f = absurd (let r = first_filled None xs f in nothing_is r.0 r.1)
rows_append (Some rs ∷ xs) ys f = ap (λ z. rs ++ z) (rows_append xs ys (later_filled (Some rs) xs f)) ∙ sym (append_assoc rs (rows_in_order xs) (rows_in_order ys))

-- a front of the places has a front of the rows
pub rows_front : (k : ℕ) (xs : Slots) → Filled (take k xs) → (rest : List Row) × (rows_in_order (take k xs) ++ rest ≡ rows_in_order xs)
rows_front zero xs f = (rows_in_order xs, refl)
rows_front (suc k) [] f = ([], refl)
rows_front (suc k) (None ∷ xs) f = absurd (let r = first_filled None (take k xs) f in nothing_is r.0 r.1)
rows_front (suc k) (Some rs ∷ xs) f =
    let r = rows_front k xs (later_filled (Some rs) (take k xs) f) in
    (r.0, append_assoc rs (rows_in_order (take k xs)) r.0 ∙ ap (λ z. rs ++ z) r.1)

-- what stands in one list stands in the other too
abbrev IsAmong : Slots → Slots → Type 0
IsAmong xs ms = (k : ℕ) (rs : List Row) → slice_get xs k ≡ Some (Some rs) → slice_get ms k ≡ Some (Some rs)

among_front : (xs ms : Slots) → IsAmong xs ms → (rest : List Row) × (rows_in_order xs ++ rest ≡ rows_in_order ms)
among_front [] ms h = (rows_in_order ms, refl)
among_front (None ∷ xs) ms h = (rows_in_order ms, refl)
among_front (Some rs ∷ xs) [] h = absurd (nothing_is (Some rs) (h 0 rs refl))
among_front (Some rs ∷ xs) (m ∷ ms) h =
    let e : Some m ≡ Some (Some rs) = h 0 rs refl in
    let same : Some rs ≡ m = cc in
    let r = among_front xs ms (λ k b g. h (suc k) b g) in
    (r.0, append_assoc rs (rows_in_order xs) r.0 ∙ ap (λ z. rs ++ z) r.1 ∙ ap (λ x. rows_in_order (x ∷ ms)) same)

among_all : (xs ms : Slots) → IsAmong xs ms → Filled xs → length xs ≡ length ms → rows_in_order xs ≡ rows_in_order ms
among_all [] [] h f e = refl
among_all [] (m ∷ ms) h f e = absurd (omega arith)
among_all (None ∷ xs) ms h f e = absurd (let r = first_filled None xs f in nothing_is r.0 r.1)
among_all (Some rs ∷ xs) [] h f e = absurd (omega arith)
among_all (Some rs ∷ xs) (m ∷ ms) h f e =
    let g : Some m ≡ Some (Some rs) = h 0 rs refl in
    let same : Some rs ≡ m = cc in
    ap (λ z. rs ++ z) (among_all xs ms (λ k b q. h (suc k) b q) (later_filled (Some rs) xs f) (omega arith)) ∙ ap (λ x. rows_in_order (x ∷ ms)) same

-- THE INPUTS
-- what was read of a pipe came
abbrev pub Came : Pipe → Type 0
Came q = Filled (take q.next q.got)

-- and a complete one was read to its end
abbrev InTurn : List Pipe → Type 0
InTurn qs = (i j : ℕ) (q r : Pipe) → i < j → slice_get qs i ≡ Some q → slice_get qs j ≡ Some r → 0 < r.next → IsComplete q

abbrev pub EachOf : (Pipe → Type 0) → List Pipe → Type 0
EachOf P qs = (i : ℕ) (q : Pipe) → slice_get qs i ≡ Some q → P q

abbrev pub ReadOut : Pipe → Type 0
ReadOut q = IsComplete q → q.next ≡ length q.got

some_read : (qs : List Pipe) → ((j : ℕ) × (r : Pipe) × (slice_get qs j ≡ Some r) × (0 < r.next)) ⊎ (morsels_read qs ≡ [])
some_read [] = inr refl
some_read (q ∷ qs) = by q.next refl (some_read qs)
  where
    by : (k : ℕ) → q.next ≡ k → ((j : ℕ) × (r : Pipe) × (slice_get qs j ≡ Some r) × (0 < r.next)) ⊎ (morsels_read qs ≡ []) → ((j : ℕ) × (r : Pipe) × (slice_get (q ∷ qs) j ≡ Some r) × (0 < r.next)) ⊎ (morsels_read (q ∷ qs) ≡ [])
    by zero e (inl (j, r, at, some)) = inl (suc j, r, at, some)
    by zero e (inr none) = inr (ap (λ k. take k q.got ++ morsels_read qs) e ∙ none)
    by (suc k) e rest = inl (0, q, refl, omega arith)

-- a complete pipe that was read to its end has all its morsels read
pub read_all : (q : Pipe) → ReadOut q → IsComplete q → take q.next q.got ≡ q.got
read_all q out c = let e = out c in take_all q.next q.got (omega arith)

union_whole : (T : Table) (Ts : List Table) → T.broken ≡ [] → ((union_rows (T ∷ Ts)).rows ≡ T.rows ++ (union_rows Ts).rows) × ((union_rows (T ∷ Ts)).broken ≡ (union_rows Ts).broken)
union_whole T Ts e = (rw e refl, rw e refl)

union_broken : (T : Table) (Ts : List Table) (c : Cause) (cs : List Cause) → T.broken ≡ c ∷ cs → (union_rows (T ∷ Ts)).rows ≡ T.rows
union_broken T Ts c cs e = rw e refl

abbrev pub IsFront : List Row → List Row → Type 0
IsFront a b = (rest : List Row) × (a ++ rest ≡ b)

front_longer : (a b c : List Row) → IsFront a b → IsFront a (b ++ c)
front_longer a b c (rest, e) = (rest ++ c, sym (append_assoc a rest c) ∙ ap (λ z. z ++ c) e)

pub front_through : (a b c : List Row) → IsFront a b → IsFront b c → IsFront a c
front_through a b c (r, e) (s, g) = (r ++ s, sym (append_assoc a r s) ∙ ap (λ z. z ++ s) e ∙ g)

front_behind : (a b c : List Row) → IsFront b c → IsFront (a ++ b) (a ++ c)
front_behind a b c (r, e) = (r, append_assoc a b r ∙ ap (λ z. a ++ z) e)

-- what was read of all inputs is a front of their union
read_front : (qs : List Pipe) (Ts : List Table) → EachOf Came qs → EachOf ReadOut qs → InTurn qs → AllZip Extends (map sent_by qs) Ts → IsFront (rows_in_order (morsels_read qs)) (union_rows Ts).rows
read_front [] [] came out turn m = ([], refl)
read_front [] (T ∷ Ts) came out turn m = absurd m
read_front (q ∷ qs) [] came out turn m = absurd m
read_front (q ∷ qs) (T ∷ Ts) came out turn m =
    by (read_front qs Ts (λ i r e. came (suc i) r e) (λ i r e. out (suc i) r e) (λ i j a b h e g. turn (suc i) (suc j) a b (omega arith) e g) m.1) T.broken refl (some_read qs)
  where
    -- of this input
    here : IsFront (rows_in_order (take q.next q.got)) T.rows
    here = front_through (rows_in_order (take q.next q.got)) (rows_in_order q.got) T.rows (rows_front q.next q.got (came 0 q refl)) (m.0.rest, m.0.begins)

    alone : morsels_read qs ≡ [] → rows_in_order (take q.next q.got) ≡ rows_in_order (morsels_read (q ∷ qs))
    alone none = ap rows_in_order (sym (append-nil (take q.next q.got)) ∙ ap (λ z. take q.next q.got ++ z) (sym none))

    complete : (j : ℕ) (r : Pipe) → slice_get qs j ≡ Some r → 0 < r.next → IsComplete q
    complete j r e some = turn 0 (suc j) q r (omega arith) refl e some

    by : IsFront (rows_in_order (morsels_read qs)) (union_rows Ts).rows → (cs : List Cause) → T.broken ≡ cs → ((j : ℕ) × (r : Pipe) × (slice_get qs j ≡ Some r) × (0 < r.next)) ⊎ (morsels_read qs ≡ []) → IsFront (rows_in_order (morsels_read (q ∷ qs))) (union_rows (T ∷ Ts)).rows
    by rest [] e (inr none) = subst (λ z. IsFront z (union_rows (T ∷ Ts)).rows) (alone none) (subst (IsFront (rows_in_order (take q.next q.got))) (sym (union_whole T Ts e).0) (front_longer (rows_in_order (take q.next q.got)) T.rows (union_rows Ts).rows here))
    by rest (c ∷ cs) e (inr none) = subst (λ z. IsFront z (union_rows (T ∷ Ts)).rows) (alone none) (subst (IsFront (rows_in_order (take q.next q.got))) (sym (union_broken T Ts c cs e)) here)
    by rest [] e (inl (j, r, at, some)) =
        let is = complete j r at some in
        let all : rows_in_order (take q.next q.got) ≡ T.rows = ap rows_in_order (read_all q (out 0 q refl) is) ∙ (m.0.ends is).0 in
        let behind = front_behind (rows_in_order (take q.next q.got)) (rows_in_order (morsels_read qs)) (union_rows Ts).rows rest in
        let onto : rows_in_order (take q.next q.got) ++ (union_rows Ts).rows ≡ (union_rows (T ∷ Ts)).rows = ap (λ z. z ++ (union_rows Ts).rows) all ∙ sym (union_whole T Ts e).0 in
        subst (IsFront (rows_in_order (morsels_read (q ∷ qs)))) onto (subst (λ z. IsFront z (rows_in_order (take q.next q.got) ++ (union_rows Ts).rows)) (sym (rows_append (take q.next q.got) (morsels_read qs) (came 0 q refl))) behind)
    by rest (c ∷ cs) e (inl (j, r, at, some)) = absurd (let never : [] ≡ c ∷ cs = sym (m.0.ends (complete j r at some)).1 ∙ e in cc)

-- and all of it where all inputs are complete
read_whole : (qs : List Pipe) (Ts : List Table) → EachOf Came qs → EachOf ReadOut qs → EachOf IsComplete qs → AllZip Extends (map sent_by qs) Ts → (rows_in_order (morsels_read qs) ≡ (union_rows Ts).rows) × ((union_rows Ts).broken ≡ [])
read_whole [] [] came out all m = (refl, refl)
read_whole [] (T ∷ Ts) came out all m = absurd m
read_whole (q ∷ qs) [] came out all m = absurd m
read_whole (q ∷ qs) (T ∷ Ts) came out all m =
    let rest = read_whole qs Ts (λ i r e. came (suc i) r e) (λ i r e. out (suc i) r e) (λ i r e. all (suc i) r e) m.1 in
    let h = m.0.ends (all 0 q refl) in
    let u = union_whole T Ts h.1 in
    let here : rows_in_order (take q.next q.got) ≡ T.rows = ap rows_in_order (read_all q (out 0 q refl) (all 0 q refl)) ∙ h.0 in
    (rows_append (take q.next q.got) (morsels_read qs) (came 0 q refl) ∙ ap (λ z. z ++ rows_in_order (morsels_read qs)) here ∙ ap (λ z. T.rows ++ z) rest.0 ∙ sym u.0, u.1 ∙ rest.1)

-- what a node read of an input had come
pub read_came : (F : Functions) (w : World) (n : ℕ) → Known F w → (i : ℕ) (q : Pipe) → slice_get (pipes_in w n) i ≡ Some q → Came q
read_came F w n known i q e k less =
    let at = enters F w known.facts n i q e in
    let facts = known.facts.pipes q at.0.0 in
    let long = length-take q.next q.got in
    let short : k < q.next = (let all = facts.taken in grind (arith, less, long, all)) in
    let r = facts.came k short in
    (r.0, take_at q.got q.next k short ∙ r.1)

module _ (F : Functions) (w : World) (n : ℕ) (node : Node) (known : Known F w) (there : slice_get w.nodes n ≡ Some node) (in_shape : slice_get (shape_of w) n ≡ Some node.node) (is_one : node.node.kind ≡ ordered_union) (h : HoldsUnion F w n node)
    (read : (q : Pipe) → Enters w n q → IsComplete q → q.next ≡ length q.got) where
  abbrev qs : List Pipe
  qs = pipes_in w n

  came : EachOf Came qs
  came i q e = read_came F w n known i q e

  read_out : EachOf ReadOut qs
  read_out i q e c = read q (enters F w known.facts n i q e).0 c

  in_turn : InTurn qs
  in_turn i j q r less e g some =
      let a = enters F w known.facts n i q e in
      let b = enters F w known.facts n j r g in
      h.in_turn q r a.0 b.0 (let x = a.1 in let y = b.1 in omega (arith, less, x, y)) (inl some)

  among : (p : Pipe) → Leaves w n p → IsAmong p.got (morsels_read qs)
  among p l k rs e = by (h.gives.answers p k rs l e)
    where
      by : (x : Work) × ((b : List Row) × (slice_get (morsels_read qs) k ≡ Some (Some b)) × (x ≡ record { task = hands_on; schemas = schemas_for w node; tables = b ∷ [] })) × Answers F x rs → slice_get (morsels_read qs) k ≡ Some (Some rs)
      by (x, (b, at, is), answers) =
          let same : b ∷ [] ≡ rs ∷ [] = subst (λ y. Answers F y rs) is answers in
          let e : b ≡ rs = cc in
          at ∙ ap (λ z. Some (Some z)) e

  given : List Table → Table
  given Ts = table_of (out_schema F node.node.origin (union None) Ts) (λ rows. rows) (union_rows Ts)

  extends : (Ts : List Table) → AllZip Extends (map sent_by qs) Ts → (p : Pipe) → Leaves w n p → Extends (sent_by p) (given Ts)
  unfolding given
  extends Ts m p l =
      let f = front_through (rows_in_order p.got) (rows_in_order (morsels_read qs)) (union_rows Ts).rows (among_front p.got (morsels_read qs) (among p l)) (read_front qs Ts came read_out in_turn m) in
      record {
        rest = f.0;
        begins = f.1;
        ends = λ c.
            let all = h.gives.completes p l c in
            let places = filled F w p known l.0 (from_single w n node p there (ap is_multiplexer is_one) l.1) c in
            let long : length p.got ≡ length (morsels_read qs) = (known.numbers n node there).own (ap counts_own is_one) p l.0 l.1 (whole p c).dropped ∙ h.counted in
            let r = read_whole qs Ts came read_out (λ i q e. all q (enters F w known.facts n i q e).0) m in
            (among_all p.got (morsels_read qs) (among p l) places long ∙ r.0, r.1);
      }

  schema_is : (Ts : List Table) → schemas_of Ts ≡ input_schemas (shape_of w) node.node → (given Ts).schema ≡ node.node.schema
  unfolding given
  schema_is Ts e =
      let fit = (known.facts.sound.0 n node.node in_shape).schema in
      let has = subst (λ k. HasSchema F k (input_schemas (shape_of w) node.node) node.node.schema) is_one fit in
      ap (schema_or_empty F (union None)) e ∙ ap (λ s. unwrap_or s []) has

  case : (Ts : List Table) → PhysicalCase F node.node Ts (given Ts)
  unfolding given
  case Ts = subst (λ (k : PhysicalKind). PhysicalCase F (record node.node { kind = k }) Ts (given Ts)) (sym is_one) (given Ts, inl refl, refl)

  pub union_served : Justified F node.node (input_schemas (shape_of w) node.node) (sent_to (sent_at w) node.node) (sent_at w n)
  union_served Ts e m =
      let m' = subst (λ ins. AllZip Extends ins Ts) (sent_to_is F w known.facts n node there in_shape) m in
      (given Ts, schema_is Ts e, case Ts, each_port w n node (given Ts) there (ap is_sink is_one) (extends Ts m'))

pub unions_justified : (F : Functions) (w : World) (n : ℕ) (p : PhysicalNode) → Known F w → slice_get (shape_of w) n ≡ Some p → p.kind ≡ ordered_union → Holds F w n → Justified F p (input_schemas (shape_of w) p) (sent_to (sent_at w) p) (sent_at w n)
unions_justified F w n p known e is_one holds =
    let x = node_of w n p e in
    let in_shape : slice_get (shape_of w) n ≡ Some x.0.node = e ∙ ap Some (sym x.2) in
    let kind : x.0.node.kind ≡ ordered_union = ap (λ (q : PhysicalNode). q.kind) x.2 ∙ is_one in
    let all = holds x.0 x.1 in
    let own = subst (HoldsOfKind F w n x.0) kind all.own in
    subst (λ q. Justified F q (input_schemas (shape_of w) q) (sent_to (sent_at w) q) (sent_at w n)) x.2 (union_served F w n x.0 known x.1 in_shape kind own all.pipes.read)
