-- The first part of the law of sources.
use Rattle.std.proofs.Common.{◌≡◌, ℕ, ◌<◌, List, [], ◌∷◌, Some, true, false, length, refl, sym, ap, subst, ◌∙◌, inl, zero-add, arith}
use Rattle.std.specs.Prelude.{IsTrue, nat_lt, slice_get, unwrap_or}
use Rattle.std.proofs.lemmas.Bool.Decides.{nat_tests}
use Rattle.ps_frame.specs.Functions.{Functions}
use Rattle.ps_frame.specs.Tables.{Fields, Frame, IsWhole, Row, Table, no_rows, whole as whole_of}
use Rattle.ps_meaning.specs.Cases.{out_schema}
use Rattle.ps_meaning.specs.Shape.{PhysicalCase, PhysicalKind, PhysicalNode, in_memory_source, independent_select}
use Rattle.ps_meaning.specs.Sound.{HasInputs, HasSchema, IsFitNode, input_schemas}
use Rattle.ps_meaning.specs.Steps.{Named, select}
use Rattle.ps_turns.specs.Cuts.{cut_of_source, is_exhausted}
use Rattle.ps_turns.specs.Progress.{is_multiplexer}
use Rattle.ps_turns.specs.Tasks.{Piece, computes}
use Rattle.ps_turns.specs.Updates.{has_given_all}
use Rattle.ps_world.specs.Laws.{Extends, Justified, sent_at, sent_by, sent_to}
use Rattle.ps_world.specs.World.{Node, Pipe, World, multiplexes, shape_of}
use Rattle.world_claims.specs.Numbering.{Known, counts_own}
use Rattle.family_pipes.proofs.Complete.{filled, whole}
use Rattle.family_fronts.proofs.Cuts.{Cuts, cuts_all, cuts_front}
use Rattle.family_fronts.proofs.OneAnswer.{each_served}
use Rattle.family_fronts.proofs.SelectSchema.{before_schema, gives_over, table_over}
use Rattle.family_pipes.proofs.Sent.{each_port, is_sink, node_of, one_table}
use Rattle.world_families.specs.Holds.{Holds, HoldsOfKind}
use Rattle.world_families.specs.Sources.{HasGivenAll, HoldsSelect, cut_work}
use Rattle.world_families.specs.Work.{Answers, Gives, IsComplete, Leaves}

-- a pipe that leaves a node that is no multiplexer
pub from_single : (w : World) (n : ℕ) (node : Node) (p : Pipe) → slice_get w.nodes n ≡ Some node → is_multiplexer node.node.kind ≡ false → p.wire.sender ≡ n → multiplexes (slice_get w.nodes p.wire.sender) ≡ false
from_single w n node p there single e = ap (λ m. multiplexes (slice_get w.nodes m)) e ∙ ap multiplexes there ∙ single

-- WHAT GIVES CUTS
module _ (F : Functions) (w : World) (n : ℕ) (node : Node) (rows : List Row) (K : Piece → Type 0) (A : Type 0) (known : Known F w) (there : slice_get w.nodes n ≡ Some node) (own : counts_own node.node.kind ≡ true) (single : is_multiplexer node.node.kind ≡ false)
    (g : Gives F w n (λ k x. x ≡ cut_work w.options node.node.schema rows k) K A) (ended : A → IsTrue (is_exhausted w.options rows node.progress.sent)) where
  cuts : (p : Pipe) → Leaves w n p → Cuts w.options rows 0 p.got
  cuts p l j rs e =
      let a = g.answers p j rs l e in
      let same : cut_of_source w.options rows j ∷ [] ≡ rs ∷ [] = subst (λ x. Answers F x rs) a.1 a.2 in
      let is : cut_of_source w.options rows j ≡ rs = cc in
      sym is ∙ ap (cut_of_source w.options rows) (sym (zero-add j))

  pub cuts_extend : (T : Table) → T.rows ≡ rows → IsWhole T → (p : Pipe) → Leaves w n p → Extends (sent_by p) T
  cuts_extend T same is_whole p l =
      let f = cuts_front w.options rows p.got (cuts p l) in
      record {
        rest = f.0;
        begins = f.1 ∙ sym same;
        ends = λ c.
            (cuts_all w.options rows p.got node.progress.sent (cuts p l) (λ j h. filled F w p known l.0 (from_single w n node p there single l.1) c j h) ((known.numbers n node there).own own p l.0 l.1 (whole p c).dropped) (ended (g.completes p l c)) ∙ sym same, is_whole);
      }

-- A SOURCE
module _ (F : Functions) (w : World) (n : ℕ) (node : Node) (t : Frame) (known : Known F w) (there : slice_get w.nodes n ≡ Some node) (in_shape : slice_get (shape_of w) n ≡ Some node.node) (is_one : node.node.kind ≡ in_memory_source t) where
  fit : IsFitNode F (shape_of w) n node.node
  fit = known.facts.sound.0 n node.node in_shape

  schema_is : t.schema ≡ node.node.schema
  schema_is = let e : Some t.schema ≡ Some node.node.schema = subst (λ k. HasSchema F k (input_schemas (shape_of w) node.node) node.node.schema) is_one fit.schema in cc

  case : (Ts : List Table) → PhysicalCase F node.node Ts (whole_of t)
  case Ts = subst (λ (k : PhysicalKind). PhysicalCase F (record node.node { kind = k }) Ts (whole_of t)) (sym is_one) (whole_of t, inl refl, refl)

  source : HoldsOfKind F w n node (in_memory_source t) → Justified F node.node (input_schemas (shape_of w) node.node) (sent_to (sent_at w) node.node) (sent_at w n)
  source g Ts e m =
      let ended : HasGivenAll w node → IsTrue (is_exhausted w.options t.rows node.progress.sent) = λ a. subst (λ k. IsTrue (has_given_all w.options k node.progress)) is_one a in
      let each = cuts_extend F w n node t.rows _ _ known there (ap counts_own is_one) (ap is_multiplexer is_one) g ended (whole_of t) refl refl in
      (whole_of t, schema_is, case Ts, each_port w n node (whole_of t) there (ap is_sink is_one) each)

pub sources_justified : (F : Functions) (w : World) (n : ℕ) (p : PhysicalNode) (t : Frame) → Known F w → slice_get (shape_of w) n ≡ Some p → p.kind ≡ in_memory_source t → Holds F w n → Justified F p (input_schemas (shape_of w) p) (sent_to (sent_at w) p) (sent_at w n)
sources_justified F w n p t known e is_one holds =
    let x = node_of w n p e in
    let in_shape : slice_get (shape_of w) n ≡ Some x.0.node = e ∙ ap Some (sym x.2) in
    let kind : x.0.node.kind ≡ in_memory_source t = ap (λ (q : PhysicalNode). q.kind) x.2 ∙ is_one in
    let own = subst (HoldsOfKind F w n x.0) kind (holds x.0 x.1).own in
    subst (λ q. Justified F q (input_schemas (shape_of w) q) (sent_to (sent_at w) q) (sent_at w n)) x.2 (source F w n x.0 t known x.1 in_shape kind own)

positive : (n : ℕ) → nat_lt 0 n ≡ true → 0 < n
positive n e = grind (arith, nat_tests)

-- A SELECT WITHOUT INPUT
module _ (F : Functions) (w : World) (n : ℕ) (node : Node) (es : List Named) (known : Known F w) (there : slice_get w.nodes n ≡ Some node) (in_shape : slice_get (shape_of w) n ≡ Some node.node) (is_one : node.node.kind ≡ independent_select es) where
  fitting : IsFitNode F (shape_of w) n node.node
  fitting = known.facts.sound.0 n node.node in_shape

  -- the schema of what it gives over no columns
  abbrev given_schema : Fields
  given_schema = out_schema F node.node.origin (select es) (no_rows [] [] ∷ [])

  no_inputs : node.node.inputs ≡ []
  no_inputs = by node.node.inputs (subst (λ k. HasInputs k (length node.node.inputs)) is_one fitting.inputs)
    where
      by : (qs : List (ℕ × ℕ)) → length qs ≡ 0 → qs ≡ []
      by [] e = refl
      by (q ∷ qs) e = absurd (omega arith)

  given_schema_is : given_schema ≡ node.node.schema
  given_schema_is =
      let e = subst (λ k. HasSchema F k (input_schemas (shape_of w) node.node) node.node.schema) is_one fitting.schema in
      let over_none = subst (λ qs. HasSchema F (independent_select es) (input_schemas (shape_of w) (record node.node { inputs = qs })) node.node.schema) no_inputs e in
      ap (λ s. unwrap_or s []) over_none

  abbrev MayBe : Table → Type 0
  MayBe T = (T.schema ≡ node.node.schema) × PhysicalCase F node.node [] T

  case_schema : (T : Table) → PhysicalCase F (record node.node { kind = independent_select es }) [] T → T.schema ≡ node.node.schema
  case_schema T (U, before, is) = ap (λ (x : Table). x.schema) is ∙ before_schema F node.node.origin es (no_rows [] [] ∷ []) U before ∙ given_schema_is

  to_kind : (T : Table) → PhysicalCase F node.node [] T → PhysicalCase F (record node.node { kind = independent_select es }) [] T
  to_kind T c = subst (λ (k : PhysicalKind). PhysicalCase F (record node.node { kind = k }) [] T) is_one c

  some_table : (T : Table) × MayBe T
  some_table =
      let T = table_over F node.node.origin es (no_rows [] [] ∷ []) in
      let c : PhysicalCase F (record node.node { kind = independent_select es }) [] T = (T, gives_over F node.node.origin es (no_rows [] [] ∷ []), refl) in
      (T, (case_schema T c, subst (λ (k : PhysicalKind). PhysicalCase F (record node.node { kind = k }) [] T) (sym is_one) c))

  -- what it gives doesn't look at any input
  over_any : (Ts : List Table) (T : Table) → PhysicalCase F node.node [] T → PhysicalCase F node.node Ts T
  over_any Ts T c = subst (λ (k : PhysicalKind). PhysicalCase F (record node.node { kind = k }) Ts T) (sym is_one) (to_kind T c)

  module _ (g : HoldsSelect F w n node) where
    answered : (p : Pipe) (rs : List Row) → Leaves w n p → slice_get p.got 0 ≡ Some (Some rs) → (T : Table) × MayBe T × IsWhole T × (T.rows ≡ rs)
    answered p rs l at =
        let a = g.answers p 0 rs l at in
        let m : Answers F (record { task = computes node.node; schemas = []; tables = [] }) rs = subst (λ x. Answers F x rs) a.1.1 a.2 in
        (m.0, (case_schema m.0 (to_kind m.0 m.1), m.1), m.2, m.3)

    started : (p : Pipe) → Leaves w n p → IsComplete p → (rs : List Row) × (slice_get p.got 0 ≡ Some (Some rs))
    started p l c =
        let some : 0 < node.progress.sent = positive node.progress.sent (subst (λ k. IsTrue (has_given_all w.options k node.progress)) is_one (g.completes p l c)) in
        let long = (known.numbers n node there).own (ap counts_own is_one) p l.0 l.1 (whole p c).dropped in
        filled F w p known l.0 (from_single w n node p there (ap is_multiplexer is_one) l.1) c 0 (omega arith)

    select_without_input : Justified F node.node (input_schemas (shape_of w) node.node) (sent_to (sent_at w) node.node) (sent_at w n)
    select_without_input Ts e m =
        let one : (p q : Pipe) → Leaves w n p → Leaves w n q → p ≡ q = λ p q a b. known.facts.one_output p q a.0 b.0 (a.1 ∙ sym b.1) (from_single w n node p there (ap is_multiplexer is_one) a.1) in
        let T = one_table w n node MayBe there (ap is_sink is_one) one some_table (each_served w n MayBe some_table (λ p k rs l at. (g.answers p k rs l at).1.0) answered started) in
        (T.0, T.1.0, over_any Ts T.0 T.1.1, T.2)

pub selects_justified : (F : Functions) (w : World) (n : ℕ) (p : PhysicalNode) (es : List Named) → Known F w → slice_get (shape_of w) n ≡ Some p → p.kind ≡ independent_select es → Holds F w n → Justified F p (input_schemas (shape_of w) p) (sent_to (sent_at w) p) (sent_at w n)
selects_justified F w n p es known e is_one holds =
    let x = node_of w n p e in
    let in_shape : slice_get (shape_of w) n ≡ Some x.0.node = e ∙ ap Some (sym x.2) in
    let kind : x.0.node.kind ≡ independent_select es = ap (λ (q : PhysicalNode). q.kind) x.2 ∙ is_one in
    let own = subst (HoldsOfKind F w n x.0) kind (holds x.0 x.1).own in
    subst (λ q. Justified F q (input_schemas (shape_of w) q) (sent_to (sent_at w) q) (sent_at w n)) x.2 (select_without_input F w n x.0 es known x.1 in_shape kind own)
