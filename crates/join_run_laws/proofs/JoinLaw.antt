-- The first part of the law of equi joins.
use Rattle.std.proofs.Common.{◌≡◌, ℕ, zero, suc, ◌<◌, ◌+◌, ◌⊎◌, List, [], ◌∷◌, ◌++◌, Bool, true, false, length, Some, None, refl, sym, ap, subst, ◌∙◌, inl, inr, append-nil, append_assoc, arith}
use Rattle.std.specs.Prelude.{◌&&◌, IsFalse, IsTrue, get_or, map, nat_eq, slice_get}
use Rattle.std.specs.List.{AllZip}
use Rattle.ps_frame.specs.Functions.{Functions}
use Rattle.ps_frame.specs.Tables.{Fields, Row, Table}
use Rattle.ps_meaning.specs.Cases.{keyed, rows_table}
use Rattle.ps_meaning.specs.Joins.{fills_right}
use Rattle.ps_meaning.specs.Shape.{PhysicalCase, PhysicalNode, equi_join}
use Rattle.ps_meaning.specs.Sound.{input_schemas}
use Rattle.ps_meaning.specs.Steps.{JoinStep}
use Rattle.ps_turns.specs.Progress.{is_multiplexer}
use Rattle.ps_turns.specs.Results.{IsPartial, IsResultOf}
use Rattle.ps_turns.specs.Tables.{whole_tables}
use Rattle.ps_turns.specs.Tasks.{gives_last, good, probes}
use Rattle.ps_world.specs.Laws.{Extends, Justified, sent_at, sent_by, sent_to}
use Rattle.ps_world.specs.World.{Node, Pipe, World, rows_in_order, schemas_for, shape_of}
use Rattle.world_claims.specs.Numbering.{Known, last_given, passes_numbers}
use Rattle.join_run_laws.proofs.JoinInputs.{JoinAt, join_at, same_table, two_tables, whole_is}
use Rattle.family_pipes.proofs.Complete.{filled, whole}
use Rattle.family_pipes.proofs.Inputs.{sent_to_is}
use Rattle.family_pipes.proofs.Sent.{is_sink, node_of, one_table}
use Rattle.family_fronts.proofs.SourceLaw.{from_single}
use Rattle.world_families.specs.Holds.{Holds, HoldsOfKind}
use Rattle.world_families.specs.Joins.{GivesLast, HasRight, HoldsJoin, IsJoinOf, IsJoinWork, Probes}
use Rattle.world_families.specs.Keepers.{schema_of_input, slots_at}
use Rattle.world_families.specs.Work.{Answers, Enters, IsComplete, Leaves, PipesHold, Work}
use Rattle.join_laws.specs.Morsels.{AllKept, ComesLast, HasPartial, JoinsOver, Morsel, Probed, ended_by, given_of, sides, taken_of}
use Rattle.join_laws.proofs.Laws.{begin, end, gives-some, kept}
use Rattle.join_laws.proofs.Walk.{Filled, OfLeft, Slots, Walked, each_morsel, morsels_of, rows_of_morsels, walk}

module _ (F : Functions) (w : World) (n : ℕ) (node : Node) (j : JoinStep) (known : Known F w) (there : slice_get w.nodes n ≡ Some node) (is_one : node.node.kind ≡ equi_join j) (pipes : PipesHold w n) (h : HoldsJoin F w n node j)
    (left right : Pipe) (of : IsJoinOf w n left right) (l r : Fields) (schemas : schemas_for w node ≡ l ∷ r ∷ []) (is : JoinsOver node.node j l r) where
  -- what came of a complete input has all its places filled
  came_all : (q : Pipe) → Enters w n q → IsComplete q → Filled q.got
  came_all q e c k lt = let all = pipes.read q e c in (known.facts.pipes q e.0).came k (omega (arith, all, lt))

  -- THE RIGHT SIDE
  abbrev rights : List Row
  rights = rows_in_order right.got

  right_whole : HasRight node right → (keyed node.node.origin j.right_on (rows_table r rights)).broken ≡ []
  right_whole has =
      let m = morsels_of right.got (came_all right of.right_enters.0 has.0) in
      let same : slots_at node 1 ≡ map Some m.0 = has.1 ∙ m.1 in
      let schema : schema_of_input w node 1 ≡ r = ap (λ ss. get_or ss 1 []) schemas in
      let each : AllKept F node.node r m.0 = each_morsel (HasPartial F node.node r) m.0 (λ k rs e.
      let here = h.keeps_right.kept right k rs of.right_enters.0 of.right_enters.1 (ap (λ xs. slice_get xs k) same ∙ e) in
      subst (λ s. (size : ℕ) × IsPartial F node.node node.node.kind 1 (rows_table s rs ∷ []) size) schema (here.1, here.2)) in
      subst (λ rows. (keyed node.node.origin j.right_on (rows_table r rows)).broken ≡ []) (sym (ap rows_in_order m.1 ∙ rows_of_morsels m.0)) (kept F node.node j l r is m.0 each)

  -- THE LEFT MORSELS
  abbrev IsProbed : Morsel → Type 0
  IsProbed m = Probed F node.node j l r rights m

  abbrev IsLast : List Row → Type 0
  IsLast b = IsComplete left × IsTrue (fills_right j.args.how) × IsResultOf F (gives_last node.node j) 0 (sides F node.node j l r (rows_in_order left.got) rights) (rows_in_order left.got ∷ rights ∷ []) (good b)

  same_left : (x : Pipe) → Enters w n x → x.wire.input ≡ 0 → x ≡ left
  same_left x e i = known.facts.one_input x left e.0 of.left_enters.0.0 (e.1 ∙ sym of.left_enters.0.1) (i ∙ sym of.left_enters.1)

  same_right : (x : Pipe) → Enters w n x → x.wire.input ≡ 1 → x ≡ right
  same_right x e i = known.facts.one_input x right e.0 of.right_enters.0.0 (e.1 ∙ sym of.right_enters.0.1) (i ∙ sym of.right_enters.1)

  work_of_left : (k : ℕ) (x : Work) (b : List Row) → IsJoinWork w n node j k x → Answers F x b → OfLeft IsProbed IsLast left.got k b
  work_of_left k x b (a, c, io, has, work) ans = by (same_left a io.left_enters.0 io.left_enters.1) (same_right c io.right_enters.0 io.right_enters.1) work
    where
      by : a ≡ left → c ≡ right → Probes w node j a c k x ⊎ GivesLast w node j a c k x → OfLeft IsProbed IsLast left.got k b
      by el er (inl (taken, rs, at, e)) =
          let one : Answers F (record { task = probes node.node j; schemas = schemas_for w node; tables = rs ∷ rows_in_order c.got ∷ [] }) b = subst (λ y. Answers F y b) e ans in
          let two : IsResultOf F (probes node.node j) 0 (whole_tables (schemas_for w node) (rs ∷ rights ∷ [])) (rs ∷ rights ∷ []) (good b) = subst (λ (q : Pipe). IsResultOf F (probes node.node j) 0 (whole_tables (schemas_for w node) (rs ∷ rows_in_order q.got ∷ [])) (rs ∷ rows_in_order q.got ∷ []) (good b)) er one in
          inl (rs, ap (λ (q : Pipe). slice_get q.got k) (sym el) ∙ at, subst (λ ss. IsResultOf F (probes node.node j) 0 (whole_tables ss (rs ∷ rights ∷ [])) (rs ∷ rights ∷ []) (good b)) schemas two)
      by el er (inr (fills, complete, at, e)) =
          let one : Answers F (record { task = gives_last node.node j; schemas = schemas_for w node; tables = rows_in_order a.got ∷ rows_in_order c.got ∷ [] }) b = subst (λ y. Answers F y b) e ans in
          let two = subst (λ (q : Pipe). IsResultOf F (gives_last node.node j) 0 (whole_tables (schemas_for w node) (rows_in_order a.got ∷ rows_in_order q.got ∷ [])) (rows_in_order a.got ∷ rows_in_order q.got ∷ []) (good b)) er one in
          let three = subst (λ (q : Pipe). IsResultOf F (gives_last node.node j) 0 (whole_tables (schemas_for w node) (rows_in_order q.got ∷ rights ∷ [])) (rows_in_order q.got ∷ rights ∷ []) (good b)) el two in
          inr (at ∙ ap (λ (q : Pipe). length q.got) el, (subst IsComplete el complete, fills, subst (λ ss. IsResultOf F (gives_last node.node j) 0 (whole_tables ss (rows_in_order left.got ∷ rights ∷ [])) (rows_in_order left.got ∷ rights ∷ []) (good b)) schemas three))

  -- ITS TABLE
  module _ (T U : Table) (left_schema : T.schema ≡ l) (right_schema : U.schema ≡ r) (left_extends : Extends (sent_by left) T) (right_extends : Extends (sent_by right) U) where
    abbrev MayBe : Table → Type 0
    MayBe V = (V.schema ≡ node.node.schema) × PhysicalCase F node.node (T ∷ U ∷ []) V

    abbrev Served : Pipe → Type 0
    Served p = (V : Table) × MayBe V × Extends (sent_by p) V

    pub some : (V : Table) × MayBe V
    some =
        let v = gives-some F node.node j l r is T.rows T.broken U.rows U.broken in
        (v.0, (v.1.0, subst (λ x. PhysicalCase F node.node (x ∷ U ∷ []) v.0) (sym (same_table l T left_schema)) (subst (λ y. PhysicalCase F node.node (ended_by l T.rows T.broken ∷ y ∷ []) v.0) (sym (same_table r U right_schema)) v.1.1)))

    none_sent : (p : Pipe) → rows_in_order p.got ≡ [] → (IsComplete p → ⊥) → Served p
    none_sent p none partial = (some.0, some.1, record { rest = some.0.rows; begins = ap (λ rs. rs ++ some.0.rows) none; ends = λ c. absurd (partial c) })

    module _ (p : Pipe) (leaves : Leaves w n p) (has : HasRight node right) where
      right_is : U ≡ rows_table r rights
      right_is = whole_is r right U right_schema has.0 right_extends

      walked : Walked IsProbed IsLast p.got left.got
      walked = walk IsProbed IsLast p.got left.got (λ k b e. let a = h.gives.answers p k b leaves e in work_of_left k a.0 b a.1 a.2)

      abbrev ms : List Morsel
      ms = walked.ms

      -- all left rows gave, and what comes last came
      all_given : IsComplete left → walked.rest ≡ [] → ComesLast F node.node j l r (rows_in_order left.got) rights walked.last → Served p
      all_given c none last =
          let all : taken_of ms ≡ rows_in_order left.got = sym (append-nil (taken_of ms)) ∙ ap (λ rs. taken_of ms ++ rs) (sym none) ∙ walked.takes in
          let t : T ≡ rows_table l (taken_of ms) = whole_is l left T left_schema c left_extends ∙ ap (rows_table l) (sym all) in
          let v = rows_table node.node.schema (given_of ms ++ walked.last) in
          let case = end F node.node j l r is rights ms walked.last (right_whole has) walked.probed (subst (λ rows. ComesLast F node.node j l r rows rights walked.last) (sym all) last) in (
            v,
            (refl, subst (λ x. PhysicalCase F node.node (x ∷ U ∷ []) v) (sym t) (subst (λ y. PhysicalCase F node.node (rows_table l (taken_of ms) ∷ y ∷ []) v) (sym right_is) case)),
            record { rest = []; begins = append-nil (rows_in_order p.got) ∙ walked.gives; ends = λ d. (walked.gives, refl) },
          )

      of_last : IsLast walked.last → walked.rest ≡ [] → Served p
      of_last last none = all_given last.0 none ((λ f. last.2), λ f. absurd (let never : true ≡ false = sym last.1 ∙ f in cc))

      -- some left morsels gave
      some_given : walked.last ≡ [] → (IsComplete p → ⊥) → Served p
      some_given none partial =
          let more = left_extends.rest in
          let rows : T.rows ≡ taken_of ms ++ (walked.rest ++ more) = sym left_extends.begins ∙ ap (λ rs. rs ++ more) (sym walked.takes) ∙ append_assoc (taken_of ms) walked.rest more in
          let t : T ≡ ended_by l (taken_of ms ++ (walked.rest ++ more)) T.broken = same_table l T left_schema ∙ ap (λ rs. ended_by l rs T.broken) rows in
          let v = begin F node.node j l r is rights ms (walked.rest ++ more) T.broken (right_whole has) walked.probed in
          let gave : rows_in_order p.got ≡ given_of ms = walked.gives ∙ ap (λ rs. given_of ms ++ rs) none ∙ append-nil (given_of ms) in (
            v.0,
            (v.1.0, subst (λ x. PhysicalCase F node.node (x ∷ U ∷ []) v.0) (sym t) (subst (λ y. PhysicalCase F node.node (ended_by l (taken_of ms ++ (walked.rest ++ more)) T.broken ∷ y ∷ []) v.0) (sym right_is) v.1.1)),
            record { rest = v.2.0; begins = ap (λ rs. rs ++ v.2.0) gave ∙ sym v.2.1; ends = λ c. absurd (partial c) },
          )

      -- a complete output has all
      complete_given : IsComplete p → Served p
      complete_given c =
          let given = h.gives.completes p leaves c in
          let left_all : IsComplete left = given.0 left of.left_enters.0 in
          let full : Filled p.got = λ k lt. filled F w p known leaves.0 (from_single w n node p there (ap is_multiplexer is_one) leaves.1) c k lt in
          let read : left.next ≡ length left.got = pipes.read left of.left_enters.0 left_all in
          let long : length p.got ≡ left.next + last_given node.node.kind node.progress =
          (known.numbers n node there).passed (ap passes_numbers is_one) p left leaves.0 of.left_enters.0.0 leaves.1 (whole p c).dropped of.left_enters.0.1 of.left_enters.1 in
          let sent : last_given node.node.kind node.progress ≡ node.progress.sent = ap (λ k. last_given k node.progress) is_one in
          let none : walked.rest ≡ [] = walked.all full (omega (arith, read, long)) in
          all_given left_all none
          ((λ fills. (walked.more full (let some = gave_last node.progress.sent fills given.2 in omega (arith, read, long, sent, some))).2), λ plain. by plain walked.is_last)
        where
          gave_last : (k : ℕ) → IsTrue (fills_right j.args.how) → (fills_right j.args.how && nat_eq k 0) ≡ false → 0 < k
          gave_last zero f e = absurd (let never : true ≡ false = sym (ap (λ b. b && true) f) ∙ e in cc)
          gave_last (suc k) f e = omega arith

          by : IsFalse (fills_right j.args.how) → (walked.last ≡ []) ⊎ (IsLast walked.last × (walked.rest ≡ [])) → walked.last ≡ []
          by plain (inl e) = e
          by plain (inr (last, e)) = absurd (let never : true ≡ false = sym last.1 ∙ plain in cc)

      partly_given : (IsComplete p → ⊥) → Served p
      partly_given partial = by walked.is_last
        where
          by : (walked.last ≡ []) ⊎ (IsLast walked.last × (walked.rest ≡ [])) → Served p
          by (inl e) = some_given e partial
          by (inr (last, e)) = of_last last e

    pub each_served : (p : Pipe) → Leaves w n p → Served p
    each_served p leaves = by (sent_by p).is_complete refl p.got refl
      where
        of_work : (k : ℕ) (x : Work) → IsJoinWork w n node j k x → HasRight node right
        of_work k x (a, c, io, has, work) = subst (HasRight node) (same_right c io.right_enters.0 io.right_enters.1) has

        by : (b : Bool) → (sent_by p).is_complete ≡ b → (slots : Slots) → p.got ≡ slots → Served p
        by true c slots e = complete_given p leaves ((h.gives.completes p leaves c).1 right of.right_enters.0 of.right_enters.1) c
        by false c [] e = none_sent p (ap rows_in_order e) (λ d. let never : true ≡ false = sym d ∙ c in cc)
        by false c (None ∷ slots) e = none_sent p (ap rows_in_order e) (λ d. let never : true ≡ false = sym d ∙ c in cc)
        by false c (Some b ∷ slots) e =
            let a = h.gives.answers p 0 b leaves (ap (λ xs. slice_get xs 0) e) in
            partly_given p leaves (of_work 0 a.0 a.1) (λ d. let never : true ≡ false = sym d ∙ c in cc)

module _ (F : Functions) (w : World) (n : ℕ) (node : Node) (j : JoinStep) (known : Known F w) (there : slice_get w.nodes n ≡ Some node) (in_shape : slice_get (shape_of w) n ≡ Some node.node) (is_one : node.node.kind ≡ equi_join j) (pipes : PipesHold w n) (h : HoldsJoin F w n node j) where
  abbrev x : JoinAt F w n node j
  x = join_at F w n node j known there in_shape is_one

  pub join_served : Justified F node.node (input_schemas (shape_of w) node.node) (sent_to (sent_at w) node.node) (sent_at w n)
  join_served Ts same m =
      let sent : AllZip Extends (sent_by x.left ∷ sent_by x.right ∷ []) Ts = subst (λ qs. AllZip Extends (map sent_by qs) Ts) x.pipes (subst (λ ins. AllZip Extends ins Ts) (sent_to_is F w known.facts n node there in_shape) m) in
      let t = two_tables x.l x.r x.left x.right Ts (same ∙ x.schemas) sent in
      let one : (p q : Pipe) → Leaves w n p → Leaves w n q → p ≡ q = λ p q a b. known.facts.one_output p q a.0 b.0 (a.1 ∙ sym b.1) (from_single w n node p there (ap is_multiplexer is_one) a.1) in
      let some_of = some F w n node j known there is_one pipes h x.left x.right x.of x.l x.r x.schemas x.is t.left t.right t.left_schema t.right_schema t.left_extends t.right_extends in
      let each = each_served F w n node j known there is_one pipes h x.left x.right x.of x.l x.r x.schemas x.is t.left t.right t.left_schema t.right_schema t.left_extends t.right_extends in
      let T = one_table w n node (λ V. (V.schema ≡ node.node.schema) × PhysicalCase F node.node (t.left ∷ t.right ∷ []) V) there (ap is_sink is_one) one some_of each in
      (T.0, T.1.0, subst (λ ts. PhysicalCase F node.node ts T.0) (sym t.are) T.1.1, T.2)

pub joins_justified : (F : Functions) (w : World) (n : ℕ) (p : PhysicalNode) (j : JoinStep) → Known F w → slice_get (shape_of w) n ≡ Some p → p.kind ≡ equi_join j → Holds F w n → Justified F p (input_schemas (shape_of w) p) (sent_to (sent_at w) p) (sent_at w n)
joins_justified F w n p j known e is_one holds =
    let z = node_of w n p e in
    let in_shape : slice_get (shape_of w) n ≡ Some z.0.node = e ∙ ap Some (sym z.2) in
    let kind : z.0.node.kind ≡ equi_join j = ap (λ (q : PhysicalNode). q.kind) z.2 ∙ is_one in
    let own = subst (HoldsOfKind F w n z.0) kind (holds z.0 z.1).own in
    subst (λ q. Justified F q (input_schemas (shape_of w) q) (sent_to (sent_at w) q) (sent_at w n)) z.2
    (join_served F w n z.0 j known z.1 in_shape kind (holds z.0 z.1).pipes own)
