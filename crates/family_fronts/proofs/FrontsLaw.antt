-- The first part of the law of multiplexers and sinks.
use Rattle.std.proofs.Common.{◌≡◌, ℕ, ◌⊎◌, true, false, List, [], ◌∷◌, ◌++◌, length, Option, Some, None, refl, sym, ap, subst, ◌∙◌, inl, inr, arith}
use Rattle.std.specs.Prelude.{IsTrue, get_or, map, nat_eq, not, slice_get, ◌||◌}
use Rattle.ps_frame.specs.Functions.{Functions}
use Rattle.ps_frame.specs.Tables.{Row, Table}
use Rattle.ps_meaning.specs.Shape.{PhysicalCase, PhysicalKind, PhysicalNode, in_memory_sink, multiplexer}
use Rattle.ps_meaning.specs.Sound.{HasInputs, HasSchema, input_schemas, schema_at}
use Rattle.ps_ports.specs.Ports.{is_done}
use Rattle.ps_turns.specs.Heads.{stored_rows}
use Rattle.ps_world.specs.Facts.{HasNoUse, is_over_slice}
use Rattle.ps_world.specs.Keeping.{IsFrontOf}
use Rattle.ps_world.specs.Laws.{Justified, Sent, nothing_sent, sent_at, sent_by, sent_by_sink, sent_by_some, sent_to}
use Rattle.ps_world.specs.World.{Node, Pipe, World, pipes_in, rows_in_order, shape_of}
use Rattle.world_claims.specs.Numbering.{Known}
use Rattle.world_facts.proofs.Slots.{all_at}
use Rattle.world_laws.proofs.FrontLaw.{front_justified, kept_whole, passes_on}
use Rattle.family_pipes.proofs.Inputs.{enters, input_of, inputs_long, is_no_sink, past_none, sent_in}
use Rattle.family_pipes.proofs.Sent.{is_sink, itself, leaves_port, node_of, of_port, sent_is}
use Rattle.family_fronts.proofs.UnionLaw.{read_all, read_came, rows_front}
use Rattle.world_families.specs.Holds.{Holds, HoldsOfKind}
use Rattle.world_families.specs.Keepers.{Stores, StoresAll}
use Rattle.world_families.specs.Onward.{HoldsPorts}
use Rattle.world_families.specs.Work.{Enters, IsComplete, PipesHold, rows_read}

none_behind : (xs rest : List Row) → xs ++ rest ≡ xs → rest ≡ []
none_behind [] rest e = e
none_behind (x ∷ xs) rest e = none_behind xs rest (let q : xs ++ rest ≡ xs = cc in q)

pub only_one : {A : Type 0} (xs : List A) → length xs ≡ 1 → (x : A) × (xs ≡ x ∷ [])
only_one [] e = absurd (omega arith)
only_one (x ∷ []) e = (x, refl)
only_one (x ∷ y ∷ xs) e = absurd (omega arith)

-- A NODE WITH ONE INPUT, WHICH IT HANDS ON
module _ (F : Functions) (w : World) (n : ℕ) (node : Node) (known : Known F w) (there : slice_get w.nodes n ≡ Some node) (shows : slice_get (shape_of w) n ≡ Some node.node) (one : length node.node.inputs ≡ 1) where
  abbrev source : (i : ℕ × ℕ) × (node.node.inputs ≡ i ∷ [])
  source = only_one node.node.inputs one

  first : (q : Pipe) × (slice_get (pipes_in w n) 0 ≡ Some q)
  first = by (slice_get (pipes_in w n) 0) refl
    where
      by : (o : Option Pipe) → slice_get (pipes_in w n) 0 ≡ o → (q : Pipe) × (slice_get (pipes_in w n) 0 ≡ Some q)
      by None none = absurd (let past = past_none (pipes_in w n) 0 none in let long = inputs_long F w known.facts n node there in omega (arith, past, long, one))
      by (Some q) at = (q, at)

  pub into : (q : Pipe) × Enters w n q × (q.wire.input ≡ 0) × (slice_get (pipes_in w n) 0 ≡ Some q)
  into = let q = first in let c = enters F w known.facts n 0 q.0 q.1 in (q.0, c.0, c.1, q.1)

  came_is : sent_to (sent_at w) node.node ≡ sent_by into.0 ∷ []
  came_is =
      let q = into in
      let stands : slice_get node.node.inputs 0 ≡ Some (q.0.wire.sender, q.0.wire.port) = sym (ap (slice_get node.node.inputs) q.2) ∙ input_of F w known.facts n node.node q.0 shows q.1.0 q.1.1 in
      let two : Some source.0 ≡ Some (q.0.wire.sender, q.0.wire.port) = sym (ap (λ xs. slice_get xs 0) source.1) ∙ stands in
      let is : source.0 ≡ (q.0.wire.sender, q.0.wire.port) = cc in
      ap (map (λ (i : ℕ × ℕ). sent_at w i.0 i.1)) source.1 ∙ ap (λ (i : ℕ × ℕ). sent_at w i.0 i.1 ∷ []) is ∙ ap (λ s. s ∷ []) (sent_in F w known.facts q.0 q.1.0)

  schemas_are : input_schemas (shape_of w) node.node ≡ schema_at (slice_get (shape_of w) source.0.0) ∷ []
  schemas_are = ap (map (λ (i : ℕ × ℕ). schema_at (slice_get (shape_of w) i.0))) source.1

  pub handed_on : ((T : Table) → PhysicalCase F node.node (T ∷ []) T) → node.node.schema ≡ schema_at (slice_get (shape_of w) source.0.0) → ((k : ℕ) → IsFrontOf (sent_at w n k) (sent_by into.0))
      → Justified F node.node (input_schemas (shape_of w) node.node) (sent_to (sent_at w) node.node) (sent_at w n)
  handed_on passes same fronts =
      subst (λ ss. Justified F node.node ss (sent_to (sent_at w) node.node) (sent_at w n)) (sym schemas_are)
      (subst (λ ins. Justified F node.node (schema_at (slice_get (shape_of w) source.0.0) ∷ []) ins (sent_at w n)) (sym came_is)
      (front_justified F node.node (schema_at (slice_get (shape_of w) source.0.0)) (sent_by into.0) (sent_at w n) passes same fronts))

-- A MULTIPLEXER
no_front : (s : Sent) → IsFrontOf nothing_sent s
no_front s = record { rest = s.rows; begins = refl; all = λ c. absurd (let never : false ≡ true = c in cc) }

module _ (F : Functions) (w : World) (n : ℕ) (node : Node) (known : Known F w) (there : slice_get w.nodes n ≡ Some node) (shows : slice_get (shape_of w) n ≡ Some node.node) (is_one : node.node.kind ≡ multiplexer) (h : HoldsPorts w n) where
  one_input : length node.node.inputs ≡ 1
  one_input = subst (λ k. HasInputs k (length node.node.inputs)) is_one (known.facts.sound.0 n node.node shows).inputs

  multiplexer_served : Justified F node.node (input_schemas (shape_of w) node.node) (sent_to (sent_at w) node.node) (sent_at w n)
  multiplexer_served = handed_on F w n node known there shows one_input (λ T. passes_on F node.node T is_one) schema fronts
    where
      schema : node.node.schema ≡ schema_at (slice_get (shape_of w) (only_one node.node.inputs one_input).0.0)
      schema =
          let has = subst (λ k. HasSchema F k (input_schemas (shape_of w) node.node) node.node.schema) is_one (known.facts.sound.0 n node.node shows).schema in
          let over = subst (λ ss. HasSchema F multiplexer ss node.node.schema) (schemas_are F w n node known there shows one_input) has in
          let q : Some (schema_at (slice_get (shape_of w) (only_one node.node.inputs one_input).0.0)) ≡ Some node.node.schema = over in
          let same : schema_at (slice_get (shape_of w) (only_one node.node.inputs one_input).0.0) ≡ node.node.schema = cc in
          sym same

      fronts : (k : ℕ) → IsFrontOf (sent_at w n k) (sent_by (into F w n node known there shows one_input).0)
      fronts k = subst (λ s. IsFrontOf s (sent_by (into F w n node known there shows one_input).0)) (sym (sent_is w n k node there (ap is_sink is_one))) (by (of_port w n k) refl)
        where
          by : (o : Option Pipe) → of_port w n k ≡ o → IsFrontOf (sent_by_some o) (sent_by (into F w n node known there shows one_input).0)
          by None none = no_front (sent_by (into F w n node known there shows one_input).0)
          by (Some z) at = let l = leaves_port w n k z at in let q = into F w n node known there shows one_input in h.fronts z q.0 l q.1

-- A SINK
module _ (F : Functions) (w : World) (n : ℕ) (node : Node) (known : Known F w) (there : slice_get w.nodes n ≡ Some node) (shows : slice_get (shape_of w) n ≡ Some node.node) (is_one : node.node.kind ≡ in_memory_sink) (h : StoresAll w n node) (pipes : PipesHold w n) where
  sink_input : length node.node.inputs ≡ 1
  sink_input = subst (λ k. HasInputs k (length node.node.inputs)) is_one (known.facts.sound.0 n node.node shows).inputs

  abbrev q : Pipe
  q = (into F w n node known there shows sink_input).0

  came : Enters w n q
  came = (into F w n node known there shows sink_input).1

  sent_is_stored : (k : ℕ) → sent_at w n k ≡ sent_by_sink w n node
  sent_is_stored k = rw (there, is_one) refl

  stored : stored_rows (get_or node.progress.stores 0 []) ≡ rows_read q
  stored =
      let at = (into F w n node known there shows sink_input).2 in
      sym (ap (λ i. stored_rows (get_or node.progress.stores i [])) at) ∙ subst (λ k. Stores k node.progress q) is_one (h q came)

  -- a sink has no use for more only where nothing more comes
  complete : IsTrue (is_done q.wire.receive_state) → IsComplete q
  complete d = by (pipes.done q came d)
    where
      by : IsComplete q ⊎ HasNoUse w n → IsComplete q
      by (inl c) = c
      by (inr (inl (x, at, over))) =
          let two : Some node ≡ Some x = sym there ∙ at in
          let is : node ≡ x = cc in
          absurd (let never : false ≡ true = sym (ap (λ (k : PhysicalKind). is_over_slice k x.progress.booked) (sym (ap (λ (y : Node). y.node.kind) is) ∙ is_one)) ∙ over in cc)
      by (inr (inr (z, there_z, from, rest))) =
          let gives = is_no_sink F w known.facts z there_z node (ap (slice_get w.nodes) from ∙ there) in
          absurd (let never : true ≡ false = sym (ap is_sink is_one) ∙ gives in cc)

  sink_served : Justified F node.node (input_schemas (shape_of w) node.node) (sent_to (sent_at w) node.node) (sent_at w n)
  sink_served = handed_on F w n node known there shows sink_input (λ T. kept_whole F node.node T is_one) schema (λ k. subst (λ s. IsFrontOf s (sent_by q)) (sym (sent_is_stored k)) front)
    where
      schema : node.node.schema ≡ schema_at (slice_get (shape_of w) (only_one node.node.inputs sink_input).0.0)
      schema =
          let has = subst (λ k. HasSchema F k (input_schemas (shape_of w) node.node) node.node.schema) is_one (known.facts.sound.0 n node.node shows).schema in
          let over = subst (λ ss. HasSchema F in_memory_sink ss node.node.schema) (schemas_are F w n node known there shows sink_input) has in
          let two : Some (schema_at (slice_get (shape_of w) (only_one node.node.inputs sink_input).0.0)) ≡ Some node.node.schema = over in
          let same : schema_at (slice_get (shape_of w) (only_one node.node.inputs sink_input).0.0) ≡ node.node.schema = cc in
          sym same

      front : IsFrontOf (sent_by_sink w n node) (sent_by q)
      front =
          let f = rows_front q.next q.got (read_came F w n known 0 q (into F w n node known there shows sink_input).3) in
          record {
            rest = f.0;
            begins = ap (λ rs. rs ++ f.0) stored ∙ f.1;
            all = λ c.
                let here = all_at (λ (p : Pipe). not (nat_eq p.wire.receiver n) || is_done p.wire.receive_state) w.pipes q c came.0 in
                let d : is_done q.wire.receive_state ≡ true = sym (ap (λ b. not b || is_done q.wire.receive_state) (itself q.wire.receiver n came.1)) ∙ here in
                let whole = complete d in
                (none_behind (rows_in_order q.got) f.0 (ap (λ xs. rows_in_order xs ++ f.0) (sym (read_all q (pipes.read q came) whole)) ∙ f.1), whole);
          }

pub multiplexers_justified : (F : Functions) (w : World) (n : ℕ) (p : PhysicalNode) → Known F w → slice_get (shape_of w) n ≡ Some p → p.kind ≡ multiplexer → Holds F w n → Justified F p (input_schemas (shape_of w) p) (sent_to (sent_at w) p) (sent_at w n)
multiplexers_justified F w n p known e is_one holds =
    let x = node_of w n p e in
    let kind : x.0.node.kind ≡ multiplexer = ap (λ (q : PhysicalNode). q.kind) x.2 ∙ is_one in
    subst (λ q. Justified F q (input_schemas (shape_of w) q) (sent_to (sent_at w) q) (sent_at w n)) x.2
    (multiplexer_served F w n x.0 known x.1 (e ∙ ap Some (sym x.2)) kind (subst (HoldsOfKind F w n x.0) kind (holds x.0 x.1).own))

pub sinks_justified : (F : Functions) (w : World) (n : ℕ) (p : PhysicalNode) → Known F w → slice_get (shape_of w) n ≡ Some p → p.kind ≡ in_memory_sink → Holds F w n → Justified F p (input_schemas (shape_of w) p) (sent_to (sent_at w) p) (sent_at w n)
sinks_justified F w n p known e is_one holds =
    let x = node_of w n p e in
    let kind : x.0.node.kind ≡ in_memory_sink = ap (λ (q : PhysicalNode). q.kind) x.2 ∙ is_one in
    let all = holds x.0 x.1 in
    subst (λ q. Justified F q (input_schemas (shape_of w) q) (sent_to (sent_at w) q) (sent_at w n)) x.2
    (sink_served F w n x.0 known x.1 (e ∙ ap Some (sym x.2)) kind (subst (HoldsOfKind F w n x.0) kind all.own) all.pipes)
