-- The first part of the law of reduces.
use Rattle.std.proofs.Common.{◌≡◌, ℕ, suc, List, [], ◌∷◌, Some, refl, sym, ap, subst, ◌∙◌, arith}
use Rattle.std.specs.Prelude.{map, slice_get, unwrap_or}
use Rattle.std.specs.List.{AllZip}
use Rattle.ps_frame.specs.Functions.{Functions}
use Rattle.ps_frame.specs.Tables.{Fields, IsWhole, Row, Table}
use Rattle.ps_meaning.specs.Cases.{schemas_of, rows_table}
use Rattle.ps_meaning.specs.Schemas.{schema_or_empty}
use Rattle.ps_meaning.specs.Shape.{PhysicalCase, PhysicalKind, PhysicalNode, reduce}
use Rattle.ps_meaning.specs.Sound.{HasSchema, input_schemas}
use Rattle.ps_meaning.specs.Steps.{Named, select}
use Rattle.ps_turns.specs.Progress.{is_multiplexer}
use Rattle.ps_turns.specs.Tables.{whole_tables}
use Rattle.ps_turns.specs.Tasks.{computes}
use Rattle.ps_world.specs.Laws.{Extends, Justified, sent_at, sent_by, sent_to}
use Rattle.ps_world.specs.World.{Node, Pipe, World, pipes_in, rows_in_order, schemas_for, shape_of}
use Rattle.world_claims.specs.Numbering.{Known, counts_own}
use Rattle.family_pipes.proofs.Complete.{filled, whole}
use Rattle.family_pipes.proofs.Inputs.{enters, sent_to_is}
use Rattle.family_fronts.proofs.OneAnswer.{each_served}
use Rattle.family_fronts.proofs.SelectSchema.{before_schema, gives_over, table_over}
use Rattle.family_pipes.proofs.Sent.{is_sink, node_of, one_table}
use Rattle.family_fronts.proofs.SourceLaw.{from_single}
use Rattle.world_families.specs.Holds.{Holds, HoldsOfKind}
use Rattle.world_families.specs.Keepers.{HoldsReduce}
use Rattle.world_families.specs.Work.{Answers, IsComplete, Leaves, rows_received}

first_same : {A : Type 0} (x y : A) (xs ys : List A) → x ∷ xs ≡ y ∷ ys → x ≡ y
first_same x y xs ys e = cc

rest_same : {A : Type 0} (x y : A) (xs ys : List A) → x ∷ xs ≡ y ∷ ys → xs ≡ ys
rest_same x y xs ys e = cc

whole_is : (s : Fields) (q : Pipe) (T : Table) → T.schema ≡ s → IsComplete q → Extends (sent_by q) T → T ≡ rows_table s (rows_in_order q.got)
whole_is s q T e complete m = let h = m.ends complete in λ i. record { schema = e i; rows = sym h.0 i; broken = h.1 i }

-- where all pipes are complete, the inputs mean what came and nothing else
pub all_whole : (ss : List Fields) (qs : List Pipe) (Ts : List Table) → schemas_of Ts ≡ ss → ((i : ℕ) (q : Pipe) → slice_get qs i ≡ Some q → IsComplete q) → AllZip Extends (map sent_by qs) Ts
    → Ts ≡ whole_tables ss (map (λ (q : Pipe). rows_in_order q.got) qs)
all_whole [] [] [] e c m = refl
all_whole (s ∷ ss) [] [] e c m = absurd (let never : [] ≡ s ∷ ss = e in cc)
all_whole ss [] (T ∷ Ts) e c m = absurd m
all_whole ss (q ∷ qs) [] e c m = absurd m
all_whole [] (q ∷ qs) (T ∷ Ts) e c m = absurd (let never : T.schema ∷ schemas_of Ts ≡ [] = e in cc)
all_whole (s ∷ ss) (q ∷ qs) (T ∷ Ts) e c m =
    let here = whole_is s q T (first_same T.schema s (schemas_of Ts) ss e) (c 0 q refl) m.0 in
    let rest = all_whole ss qs Ts (rest_same T.schema s (schemas_of Ts) ss e) (λ i r at. c (suc i) r at) m.1 in
    λ i. here i ∷ rest i

module _ (F : Functions) (w : World) (n : ℕ) (node : Node) (es : List Named) (known : Known F w) (there : slice_get w.nodes n ≡ Some node) (in_shape : slice_get (shape_of w) n ≡ Some node.node) (is_one : node.node.kind ≡ reduce es) (h : HoldsReduce F w n node)
    (Ts : List Table) (e : schemas_of Ts ≡ input_schemas (shape_of w) node.node) (m : AllZip Extends (map sent_by (pipes_in w n)) Ts) where
  abbrev MayBe : Table → Type 0
  MayBe T = (T.schema ≡ node.node.schema) × PhysicalCase F node.node Ts T

  of_kind : (T : Table) → PhysicalCase F (record node.node { kind = reduce es }) Ts T → PhysicalCase F node.node Ts T
  of_kind T c = subst (λ (k : PhysicalKind). PhysicalCase F (record node.node { kind = k }) Ts T) (sym is_one) c

  case_schema : (T : Table) → PhysicalCase F node.node Ts T → T.schema ≡ node.node.schema
  case_schema T c =
      let k = subst (λ (k : PhysicalKind). PhysicalCase F (record node.node { kind = k }) Ts T) is_one c in
      let has = subst (λ k. HasSchema F k (input_schemas (shape_of w) node.node) node.node.schema) is_one (known.facts.sound.0 n node.node in_shape).schema in
      ap (λ (x : Table). x.schema) k.2 ∙ before_schema F node.node.origin es Ts k.0 k.1 ∙ ap (schema_or_empty F (select es)) e ∙ ap (λ s. unwrap_or s []) has

  some_table : (T : Table) × MayBe T
  some_table =
      let T = table_over F node.node.origin es Ts in
      let c = of_kind T (T, gives_over F node.node.origin es Ts, refl) in
      (T, (case_schema T c, c))

  answered : (p : Pipe) (rs : List Row) → Leaves w n p → slice_get p.got 0 ≡ Some (Some rs) → (T : Table) × MayBe T × IsWhole T × (T.rows ≡ rs)
  answered p rs l at =
      let a = h.gives.answers p 0 rs l at in
      let made : Answers F (record { task = computes node.node; schemas = schemas_for w node; tables = rows_received w n }) rs = subst (λ x. Answers F x rs) a.1.2 a.2 in
      let same = all_whole (schemas_for w node) (pipes_in w n) Ts e (λ i q g. a.1.1 q (enters F w known.facts n i q g).0) m in
      let case = subst (λ ts. PhysicalCase F node.node ts made.0) (sym same) made.1 in
      (made.0, (case_schema made.0 case, case), made.2, made.3)

  started : (p : Pipe) → Leaves w n p → IsComplete p → (rs : List Row) × (slice_get p.got 0 ≡ Some (Some rs))
  started p l c =
      let some = (h.gives.completes p l c).1 in
      let long = (known.numbers n node there).own (ap counts_own is_one) p l.0 l.1 (whole p c).dropped in
      filled F w p known l.0 (from_single w n node p there (ap is_multiplexer is_one) l.1) c 0 (omega (arith, some, long))

  pub reduce_served : (T : Table) × (T.schema ≡ node.node.schema) × PhysicalCase F node.node Ts T × ((k : ℕ) → Extends (sent_at w n k) T)
  reduce_served =
      let one : (p q : Pipe) → Leaves w n p → Leaves w n q → p ≡ q = λ p q a b. known.facts.one_output p q a.0 b.0 (a.1 ∙ sym b.1) (from_single w n node p there (ap is_multiplexer is_one) a.1) in
      let T = one_table w n node MayBe there (ap is_sink is_one) one some_table (each_served w n MayBe some_table (λ p k rs l at. (h.gives.answers p k rs l at).1.0) answered started) in
      (T.0, T.1.0, T.1.1, T.2)

pub reduces_justified : (F : Functions) (w : World) (n : ℕ) (p : PhysicalNode) (es : List Named) → Known F w → slice_get (shape_of w) n ≡ Some p → p.kind ≡ reduce es → Holds F w n → Justified F p (input_schemas (shape_of w) p) (sent_to (sent_at w) p) (sent_at w n)
reduces_justified F w n p es known e is_one holds =
    let x = node_of w n p e in
    let in_shape : slice_get (shape_of w) n ≡ Some x.0.node = e ∙ ap Some (sym x.2) in
    let kind : x.0.node.kind ≡ reduce es = ap (λ (q : PhysicalNode). q.kind) x.2 ∙ is_one in
    let own = subst (HoldsOfKind F w n x.0) kind (holds x.0 x.1).own in
    subst (λ q. Justified F q (input_schemas (shape_of w) q) (sent_to (sent_at w) q) (sent_at w n)) x.2
    (λ Ts same m. reduce_served F w n x.0 es known x.1 in_shape kind own Ts same (subst (λ ins. AllZip Extends ins Ts) (sent_to_is F w known.facts n x.0 x.1 in_shape) m))
