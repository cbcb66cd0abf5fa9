-- The pieces of an equi join that are out: for each there is a result, and a cause that it may hand in breaks the node, or it has too many rows.
use Rattle.std.proofs.Common.{◌≡◌, ℕ, zero, suc, ◌<◌, ◌⊎◌, List, [], ◌∷◌, ◌++◌, length, Some, None, refl, sym, ap, subst, ◌∙◌, inl, inr, append_assoc, arith}
use Rattle.std.proofs.lemmas.Option.{slice_get_within}
use Rattle.std.specs.Prelude.{Contains, IsTrue, get_or, map, slice_get}
use Rattle.std.specs.List.{AllZip}
use Rattle.ps_frame.specs.Aggregates.{max_rows}
use Rattle.ps_frame.specs.Causes.{Cause}
use Rattle.ps_frame.specs.Functions.{Functions}
use Rattle.ps_frame.specs.Tables.{Row, Table}
use Rattle.ps_meaning.specs.Cases.{rows_table, schemas_of}
use Rattle.ps_meaning.specs.Meaning.{IsLargeStep}
use Rattle.ps_meaning.specs.Shape.{IsLargeByStep, PhysicalBefore, PhysicalKind, PhysicalNode, as_step, equi_join, tables_for}
use Rattle.ps_meaning.specs.Sound.{input_schemas}
use Rattle.ps_meaning.specs.Steps.{JoinStep, join}
use Rattle.ps_turns.specs.Results.{IsResult, IsResultOf, rows_fault}
use Rattle.ps_turns.specs.Tables.{whole_tables}
use Rattle.ps_turns.specs.Tasks.{Answer, Piece, bad, gives_last, keeps, probes}
use Rattle.ps_world.specs.Facts.{keeps_one, slots_of}
use Rattle.ps_world.specs.Laws.{BreaksWhatever, Extends, Faults, Overflows, sent_at, sent_by, sent_to}
use Rattle.ps_world.specs.World.{Node, Pipe, World, rows_in_order, shape_of}
use Rattle.world_claims.specs.Numbering.{Known, keeps_slots}
use Rattle.family_pipes.proofs.Inputs.{sent_to_is}
use Rattle.fault_origins.proofs.Results.{all_whole, of_result}
use Rattle.fault_origins.proofs.Tasks.{TaskOf}
use Rattle.world_families.specs.Joins.{GivesLast, HasRight, HoldsJoin, IsJoinWork, Probes}
use Rattle.world_families.specs.Keepers.{IsKeptOf}
use Rattle.world_families.specs.Work.{IsComplete, Work, work_of}
use Rattle.join_run_laws.proofs.JoinInputs.{JoinAt, TwoTables, join_at, same_left, same_right, same_table, two_tables, whole_is}
use Rattle.join_laws.specs.Morsels.{BreaksOver, ended_by, sides}
use Rattle.join_laws.proofs.Laws.{last-faults, last-result, left-faults, left-result, right-faults, right-result}
use Rattle.join_laws.proofs.Walk.{Slots}

-- a morsel behind others that came stands among the rows
record Within (xs : Slots) (rs : List Row) : Type 0 where
  front : List Row
  rest : List Row
  rows : rows_in_order xs ≡ front ++ (rs ++ rest)

within : (xs : Slots) (k : ℕ) (rs : List Row) → slice_get xs k ≡ Some (Some rs) → ((i : ℕ) → i < k → (a : List Row) × (slice_get xs i ≡ Some (Some a))) → Within xs rs
within [] k rs e before = absurd (let none : None ≡ Some (Some rs) = e in cc)
within (None ∷ xs) zero rs e before = absurd (let none : Some None ≡ Some (Some rs) = e in cc)
within (None ∷ xs) (suc k) rs e before = absurd (let b = before 0 (omega arith) in let none : Some None ≡ Some (Some b.0) = b.1 in cc)
within (Some x ∷ xs) zero rs e before =
    let q : Some (Some x) ≡ Some (Some rs) = e in
    let same : x ≡ rs = cc in
    record { front = []; rest = rows_in_order xs; rows = ap (λ ys. ys ++ rows_in_order xs) same }
within (Some x ∷ xs) (suc k) rs e before =
    let w = within xs k rs e (λ i lt. before (suc i) (omega (arith, lt))) in
    record { front = x ++ w.front; rest = w.rest; rows = ap (λ ys. x ++ ys) w.rows ∙ sym (append_assoc x w.front (rs ++ w.rest)) }

module _ (F : Functions) (w : World) (n : ℕ) (node : Node) (j : JoinStep) (known : Known F w) (there : slice_get w.nodes n ≡ Some node) (in_shape : slice_get (shape_of w) n ≡ Some node.node) (is_one : node.node.kind ≡ equi_join j) (h : HoldsJoin F w n node j) where
  abbrev x : JoinAt F w n node j
  x = join_at F w n node j known there in_shape is_one

  abbrev p : PhysicalNode
  p = node.node

  abbrev rights : List Row
  rights = rows_in_order x.right.got

  abbrev lefts : List Row
  lefts = rows_in_order x.left.got

  -- THE WORK OF A PIECE
  abbrev Kept : Piece → List Row → Type 0
  Kept q rs = (q.input ≡ 1) × (slice_get x.right.got q.number ≡ Some (Some rs)) × (work_of q ≡ record { task = keeps p; schemas = x.r ∷ []; tables = rs ∷ [] })

  abbrev Probing : Piece → List Row → Type 0
  Probing q rs = HasRight node x.right × (q.gives < x.left.next) × (slice_get x.left.got q.gives ≡ Some (Some rs)) × (work_of q ≡ record { task = probes p j; schemas = x.l ∷ x.r ∷ []; tables = rs ∷ rights ∷ [] })

  abbrev Last : Piece → Type 0
  Last q = HasRight node x.right × IsComplete x.left × (work_of q ≡ record { task = gives_last p j; schemas = x.l ∷ x.r ∷ []; tables = lefts ∷ rights ∷ [] })

  pub data JoinPiece (q : Piece) : Type 0 where
    kept : (rs : List Row) → Kept q rs → JoinPiece q
    probing : (rs : List Row) → Probing q rs → JoinPiece q
    last : Last q → JoinPiece q

  of_kept : (q : Piece) → IsKeptOf w n node 1 q → JoinPiece q
  of_kept q (input, z, e, i, (rs, at, work)) =
      let same = same_right F w n x.left x.right known x.of z e i in
      kept rs (input, ap (λ (y : Pipe). slice_get y.got q.number) (sym same) ∙ at, work ∙ ap (λ s. let y : Work = record { task = keeps p; schemas = s ∷ []; tables = rs ∷ [] } in y) (ap (λ ss. get_or ss 1 []) x.schemas))

  of_work : (q : Piece) → IsJoinWork w n node j q.gives (work_of q) → JoinPiece q
  of_work q (a, c, io, has, work) = by (same_left F w n x.left x.right known x.of a io.left_enters.0 io.left_enters.1) er work
    where
      er : c ≡ x.right
      er = same_right F w n x.left x.right known x.of c io.right_enters.0 io.right_enters.1

      by : a ≡ x.left → c ≡ x.right → Probes w node j a c q.gives (work_of q) ⊎ GivesLast w node j a c q.gives (work_of q) → JoinPiece q
      by el e2 (inl (taken, rs, at, e)) =
          probing rs (
            subst (HasRight node) e2 has,
            subst (λ (y : Pipe). q.gives < y.next) el taken,
            ap (λ (y : Pipe). slice_get y.got q.gives) (sym el) ∙ at,
            e ∙ (λ i. let y : Work = record { task = probes p j; schemas = x.schemas i; tables = rs ∷ rows_in_order (e2 i).got ∷ [] } in y),
          )
      by el e2 (inr (fills, complete, at, e)) =
          last (subst (HasRight node) e2 has, subst IsComplete el complete, e ∙ (λ i. let y : Work = record { task = gives_last p j; schemas = x.schemas i; tables = rows_in_order (el i).got ∷ rows_in_order (e2 i).got ∷ [] } in y))

  pub join_piece : (q : Piece) → Contains w.outs q → q.node ≡ n → JoinPiece q
  join_piece q cq at = by (h.gives.pieces q cq at)
    where
      by : IsJoinWork w n node j q.gives (work_of q) ⊎ IsKeptOf w n node 1 q → JoinPiece q
      by (inl work) = of_work q work
      by (inr k) = of_kept q k

  abbrev ResultOf : ℕ → Work → Answer → Type 0
  ResultOf i y a = IsResultOf F y.task i (whole_tables y.schemas y.tables) y.tables a

  -- SOMETHING MAY BE HANDED IN
  pub join_result : (q : Piece) → Contains w.outs q → q.node ≡ n → (a : Answer) × IsResult F q a
  join_result q cq at = by (join_piece q cq at)
    where
      by : JoinPiece q → (a : Answer) × IsResult F q a
      by (kept rs (input, there_at, work)) = let a = right-result F p j x.l x.r x.is rs in (a.0, subst (λ y. ResultOf q.input y a.0) (sym work) (subst (λ i. ResultOf i (record { task = keeps p; schemas = x.r ∷ []; tables = rs ∷ [] }) a.0) (sym input) a.1))
      by (probing rs (has, taken, there_at, work)) = let a = left-result F p j x.l x.r x.is rs rights in (a.0, subst (λ y. ResultOf q.input y a.0) (sym work) a.1)
      by (last (has, complete, work)) = let a = last-result F p j x.l x.r x.is lefts rights in (a.0, subst (λ y. ResultOf q.input y a.0) (sym work) a.1)

  -- A CAUSE
  module _ (q : Piece) (cq : Contains w.outs q) (at : q.node ≡ n) (c : Cause) (result : IsResult F q (bad c)) where
    abbrev Names : Type 0
    Names = Faults F p (input_schemas (shape_of w) p) (sent_to (sent_at w) p) c ⊎ Overflows F p (input_schemas (shape_of w) p) (sent_to (sent_at w) p) c

    -- tables of its inputs that begin with what came
    tables : (Ts : List Table) → schemas_of Ts ≡ input_schemas (shape_of w) p → AllZip Extends (sent_to (sent_at w) p) Ts → TwoTables x.l x.r x.left x.right Ts
    tables Ts same m = two_tables x.l x.r x.left x.right Ts (same ∙ x.schemas) (subst (λ qs. AllZip Extends (map sent_by qs) Ts) x.pipes (subst (λ ins. AllZip Extends ins Ts) (sent_to_is F w known.facts n node there in_shape) m))

    own : TaskOf p.origin q.task → c.node ≡ p.origin
    own t = of_result F p.origin q.task q.input (whole_tables q.schemas q.tables) q.tables (all_whole q.schemas q.tables) c t result

    over : {Ts : List Table} (t : TwoTables x.l x.r x.left x.right Ts) (left right : Table) → t.left ≡ left → t.right ≡ right → BreaksOver F p left right c → (U : Table) × PhysicalBefore F p (as_step p.kind) (tables_for F p.kind Ts) U × Contains U.broken c
    over t left right el er b =
        subst (λ ts. (U : Table) × PhysicalBefore F p (as_step p.kind) (tables_for F p.kind ts) U × Contains U.broken c) (sym t.are)
        (subst (λ a. BreaksOver F p a t.right c) (sym el) (subst (λ y. BreaksOver F p left y c) (sym er) b))

    -- of a right morsel
    of_right : (rs : List Row) → Kept q rs → Names
    of_right rs (input, there_at, work) = inl (own mine, breaks)
      where
        task_is : q.task ≡ keeps p
        task_is = ap (λ (y : Work). y.task) work

        mine : TaskOf p.origin q.task
        mine = subst (TaskOf p.origin) (sym task_is) refl

        result_of : IsResultOf F (keeps p) 1 (rows_table x.r rs ∷ []) (rs ∷ []) (bad c)
        result_of = subst (λ i. ResultOf i (record { task = keeps p; schemas = x.r ∷ []; tables = rs ∷ [] }) (bad c)) input (subst (λ y. ResultOf q.input y (bad c)) work result)

        -- its slot is kept, so that it was taken
        slot : slice_get (get_or node.progress.taken 1 []) q.number ≡ Some None
        slot = sym (λ i. slice_get (slots_of (at_node i) (input i)) q.number) ∙ (known.facts.expected q cq).0 (subst (λ t. IsTrue (keeps_one t)) (sym task_is) refl)
          where
            at_node : slice_get w.nodes q.node ≡ Some node
            at_node = ap (slice_get w.nodes) at ∙ there

        taken : q.number < x.right.next
        taken =
            let long = (known.numbers n node there).slots x.right x.of.right_enters.0.0 x.of.right_enters.0.1 (ap (λ k. keeps_slots k x.right.wire.input) is_one ∙ ap (keeps_slots (equi_join j)) x.of.right_enters.1) in
            let same : length (get_or node.progress.taken 1 []) ≡ x.right.next = ap (λ i. length (get_or node.progress.taken i [])) (sym x.of.right_enters.1) ∙ long in
            let short = slice_get_within (get_or node.progress.taken 1 []) q.number None slot in
            omega (arith, same, short)

        stands : Within x.right.got rs
        stands = within x.right.got q.number rs there_at (λ i lt. (known.facts.pipes x.right x.of.right_enters.0.0).came i (omega (arith, lt, taken)))

        breaks : BreaksWhatever F p (input_schemas (shape_of w) p) (sent_to (sent_at w) p) c
        breaks Ts same m =
            let t = tables Ts same m in
            let rows : t.right.rows ≡ stands.front ++ (rs ++ (stands.rest ++ t.right_extends.rest)) = sym t.right_extends.begins ∙ ap (λ ys. ys ++ t.right_extends.rest) stands.rows ∙ longer stands.front rs stands.rest t.right_extends.rest in
            over t t.left (ended_by x.r (stands.front ++ (rs ++ (stands.rest ++ t.right_extends.rest))) t.right.broken) refl (same_table x.r t.right t.right_schema ∙ ap (λ ys. ended_by x.r ys t.right.broken) rows)
            (right-faults F p j x.l x.r x.is t.left stands.front rs (stands.rest ++ t.right_extends.rest) t.right.broken c result_of)
          where
            longer : (a b d e : List Row) → (a ++ (b ++ d)) ++ e ≡ a ++ (b ++ (d ++ e))
            longer a b d e = append_assoc a (b ++ d) e ∙ ap (λ ys. a ++ ys) (append_assoc b d e)

    large_by : (Ts : List Table) → IsLargeStep F p.origin (join j) Ts → IsLargeByStep F p.origin (as_step p.kind) (tables_for F p.kind Ts)
    large_by Ts l = subst (λ (k : PhysicalKind). IsLargeByStep F p.origin (as_step k) (tables_for F k Ts)) (sym is_one) l

    -- of a left morsel
    of_left : (rs : List Row) → Probing q rs → Names
    of_left rs (has, taken, there_at, work) = by (left-faults F p j x.l x.r x.is rs rights c result_of)
      where
        mine : TaskOf p.origin q.task
        mine = subst (TaskOf p.origin) (sym (ap (λ (y : Work). y.task) work)) refl

        result_of : IsResultOf F (probes p j) 0 (sides F p j x.l x.r rs rights) (rs ∷ rights ∷ []) (bad c)
        result_of = subst (λ y. ResultOf q.input y (bad c)) work result

        stands : Within x.left.got rs
        stands = within x.left.got q.gives rs there_at (λ i lt. (known.facts.pipes x.left x.of.left_enters.0.0).came i (omega (arith, lt, taken)))

        rows : (T : Table) (m : Extends (sent_by x.left) T) → T.rows ≡ stands.front ++ (rs ++ (stands.rest ++ m.rest))
        rows T m = sym m.begins ∙ ap (λ ys. ys ++ m.rest) stands.rows ∙ append_assoc stands.front (rs ++ stands.rest) m.rest ∙ ap (λ ys. stands.front ++ ys) (append_assoc rs stands.rest m.rest)

        left_is : (T : Table) → T.schema ≡ x.l → (m : Extends (sent_by x.left) T) → T ≡ ended_by x.l (stands.front ++ (rs ++ (stands.rest ++ m.rest))) T.broken
        left_is T s m = same_table x.l T s ∙ ap (λ ys. ended_by x.l ys T.broken) (rows T m)

        by : ((front rest : List Row) (causes : List Cause) → BreaksOver F p (ended_by x.l (front ++ (rs ++ rest)) causes) (rows_table x.r rights) c)
            ⊎ (c ≡ rows_fault p) × ((front rest : List Row) (causes : List Cause) → IsLargeStep F p.origin (join j) (ended_by x.l (front ++ (rs ++ rest)) causes ∷ rows_table x.r rights ∷ [])) → Names
        by (inl b) =
            inl (
              own mine,
              λ Ts same m.
                  let t = tables Ts same m in
                  over t (ended_by x.l (stands.front ++ (rs ++ (stands.rest ++ t.left_extends.rest))) t.left.broken) (rows_table x.r rights) (left_is t.left t.left_schema t.left_extends) (whole_is x.r x.right t.right t.right_schema has.0 t.right_extends)
                  (b stands.front (stands.rest ++ t.left_extends.rest) t.left.broken),
            )
        by (inr (e, l)) =
            inr (
              e,
              λ Ts same m.
                  let t = tables Ts same m in
                  let is : Ts ≡ ended_by x.l (stands.front ++ (rs ++ (stands.rest ++ t.left_extends.rest))) t.left.broken ∷ rows_table x.r rights ∷ [] =
                  t.are ∙ (λ i. left_is t.left t.left_schema t.left_extends i ∷ whole_is x.r x.right t.right t.right_schema has.0 t.right_extends i ∷ []) in
                  inr (inr (subst (λ ts. IsLargeByStep F p.origin (as_step p.kind) (tables_for F p.kind ts)) (sym is) (large_by (ended_by x.l (stands.front ++ (rs ++ (stands.rest ++ t.left_extends.rest))) t.left.broken ∷ rows_table x.r rights ∷ []) (l stands.front (stands.rest ++ t.left_extends.rest) t.left.broken)))),
            )

    -- of the last piece
    of_last : Last q → Names
    of_last (has, complete, work) = by (last-faults F p j x.l x.r x.is lefts rights c result_of)
      where
        mine : TaskOf p.origin q.task
        mine = subst (TaskOf p.origin) (sym (ap (λ (y : Work). y.task) work)) refl

        result_of : IsResultOf F (gives_last p j) 0 (sides F p j x.l x.r lefts rights) (lefts ∷ rights ∷ []) (bad c)
        result_of = subst (λ y. ResultOf q.input y (bad c)) work result

        by : BreaksOver F p (rows_table x.l lefts) (rows_table x.r rights) c ⊎ (c ≡ rows_fault p) × (max_rows < length rights) → Names
        by (inl b) = inl (own mine, λ Ts same m. let t = tables Ts same m in over t (rows_table x.l lefts) (rows_table x.r rights) (whole_is x.l x.left t.left t.left_schema complete t.left_extends) (whole_is x.r x.right t.right t.right_schema has.0 t.right_extends) b)
        by (inr (e, many)) =
            inr (
              e,
              λ Ts same m.
                  let t = tables Ts same m in
                  inr (inl (t.right, subst (λ ts. Contains ts t.right) (sym t.are) (1, omega arith, refl), subst (λ (T : Table). max_rows < length T.rows) (sym (whole_is x.r x.right t.right t.right_schema has.0 t.right_extends)) many)),
            )

    pub join_names : Names
    join_names = by (join_piece q cq at)
      where
        by : JoinPiece q → Names
        by (kept rs k) = of_right rs k
        by (probing rs k) = of_left rs k
        by (last k) = of_last k
