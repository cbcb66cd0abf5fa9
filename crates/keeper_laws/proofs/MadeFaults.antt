-- The faults of a node that makes a table: of an Open and of a pull. Each breaks the node whatever its inputs turn out to mean, or says that there are too many rows where there are. Its pieces have none.
use Rattle.std.proofs.Common.{◌≡◌, ◌≢◌, ℕ, zero, suc, ◌+◌, ◌-◌, ◌<◌, ◌≤◌, ◌⊎◌, Bool, true, false, cond, List, [], ◌∷◌, ◌++◌, length, take, Some, refl, sym, ap, subst, ◌∙◌, inl, inr, arith, length-append}
use Rattle.std.specs.Prelude.{Contains, get_or, map, nat_eq, nat_lt, not, slice_get, ◌&&◌, ◌||◌, option_map}
use Rattle.std.specs.List.{AllZip}
use Rattle.std.proofs.lemmas.Bool.{cases_eq}
use Rattle.std.proofs.lemmas.Bool.Decides.{nat_tests}
use Rattle.std.proofs.lemmas.List.{length-drop, length-take}
use Rattle.std.proofs.lemmas.Option.{slice_get-map, slice_get_within}
use Rattle.ps_frame.specs.Aggregates.{max_rows}
use Rattle.ps_frame.specs.Causes.{Cause}
use Rattle.ps_frame.specs.Functions.{Functions}
use Rattle.ps_frame.specs.Tables.{Fields, Row, Table}
use Rattle.ps_meaning.specs.Cases.{cut_at, first_table, rows_from_end, rows_table, schemas_of}
use Rattle.ps_meaning.specs.Shape.{IsLargeByStep, PhysicalBefore, PhysicalKind, PhysicalNode, as_step, below_zero, in_memory_join, in_memory_map, negative_slice, tables_for}
use Rattle.ps_meaning.specs.Sound.{input_schemas, HasInputs}
use Rattle.ps_ports.specs.Ports.{Sides, all_done, first_port, is_done}
use Rattle.ps_turns.specs.Heads.{Head, stored_rows}
use Rattle.ps_turns.specs.Progress.{Progress, is_giving, is_taking, is_user_map, makes_table}
use Rattle.ps_turns.specs.Pulls.{after_store, is_store, passes_limit}
use Rattle.ps_turns.specs.Results.{BreaksRows, IsResult, IsResultOf, rows_fault}
use Rattle.ps_turns.specs.Tables.{whole_tables}
use Rattle.ps_turns.specs.Tasks.{Piece, bad, good}
use Rattle.ps_turns.specs.Updates.{BreaksTable, is_filled, is_waiting, shape_fault, stage_after, starts_giving, stored_tables, has_given_all}
use Rattle.ps_world.specs.Laws.{Extends, Faults, IsLargeWhatever, Overflows, Sent, sent_at, sent_by, sent_to}
use Rattle.ps_world.specs.Pipes.{is_input}
use Rattle.ps_world.specs.Updates.{FaultFound, given_at}
use Rattle.ps_world.specs.World.{Node, Pipe, World, heads_of, morsel_at, pipes_in, rows_in_order, schemas_for, shape_of}
use Rattle.turn_laws.proofs.Turned.{waits}
use Rattle.world_claims.specs.Numbering.{Known}
use Rattle.world_facts.proofs.CutOff.{both_true}
use Rattle.world_families.proofs.Members.{nothing_is}
use Rattle.world_families.specs.Sources.{KeepsNone}
use Rattle.world_families.specs.Work.{AllComplete, Enters, Work, rows_read, rows_received, work_of}
use Rattle.world_laws.proofs.Answered.{in_shape}
use Rattle.world_laws.proofs.InOrder.{contains_first, contains_later, none_in_nil}
use Rattle.world_laws.proofs.PassingPorts.{same_number}
use Rattle.family_fronts.proofs.UnionLaw.{rows_front}
use Rattle.family_keeps.proofs.Done.{DoneFits}
use Rattle.family_pipes.proofs.Inputs.{enters, sent_to_is, take_at, input_of}
use Rattle.orderly_worlds.proofs.Orderly.{Orderly}
use Rattle.orderly_worlds.proofs.PortPipes.{input_pipe}
use Rattle.orderly_worlds.proofs.ReadRows.{came_to, rows_more}
use Rattle.orderly_worlds.proofs.Stands.{stored_progress}
use Rattle.table_fronts.proofs.ReduceLaw.{all_whole}
use Rattle.keeper_laws.proofs.Says.{Keeper, keeper, starts}
use Rattle.keeper_laws.proofs.Made.{IsMaker, KeepsMade, MadeWork, StoresBy, keeps, of_stores}
use Rattle.keeper_laws.proofs.MadeSteps.{slot_is, stored_here}
use Rattle.keeper_laws.proofs.MadeTables.{HoldsInputs, HoldsLast, IsEnd, at_end, first_is}
use Rattle.keeper_laws.proofs.MadeTurned.{all_complete, holds_inputs}
use Rattle.family_pipes.proofs.SourceSteps.{same_node}

-- ITS PIECES
-- a cut is handed on
pub has_result : (F : Functions) (w : World) (n : ℕ) (node : Node) → KeepsMade F w n node → (q : Piece) → Contains w.outs q → q.node ≡ n → (rs : List Row) × IsResult F q (good rs)
has_result F w n node h q c at = by (h.gives.pieces q c at)
  where
    of : (x : Work) → (k : ℕ) → MadeWork w.options node.node node.progress.made k x → (rs : List Row) × IsResultOf F x.task q.input (whole_tables x.schemas x.tables) x.tables (good rs)
    of x k (rows, made, is) = subst (λ (z : Work). (rs : List Row) × IsResultOf F z.task q.input (whole_tables z.schemas z.tables) z.tables (good rs)) (sym is) (_, refl)

    by : MadeWork w.options node.node node.progress.made q.gives (work_of q) ⊎ KeepsNone q → (rs : List Row) × IsResult F q (good rs)
    by (inl x) = of (work_of q) q.gives x
    by (inr none) = absurd none

-- and has no fault
pub no_fault : (F : Functions) (w : World) (n : ℕ) (node : Node) → KeepsMade F w n node → (q : Piece) → Contains w.outs q → q.node ≡ n → (c : Cause) → IsResult F q (bad c) → ⊥
no_fault F w n node h q c at cause r = by (h.gives.pieces q c at)
  where
    by : MadeWork w.options node.node node.progress.made q.gives (work_of q) ⊎ KeepsNone q → ⊥
    by (inl (rows, made, is)) = subst (λ (z : Work). IsResultOf F z.task q.input (whole_tables z.schemas z.tables) z.tables (bad cause)) is r
    by (inr none) = none

abbrev pub Names : Functions → World → PhysicalNode → Cause → Type 0
Names F w p c = Faults F p (input_schemas (shape_of w) p) (sent_to (sent_at w) p) c ⊎ Overflows F p (input_schemas (shape_of w) p) (sent_to (sent_at w) p) c

-- AN OPEN
no_shape : (p : PhysicalNode) (kind : PhysicalKind) (hs : List Head) (given : Sides) (c : Cause) → IsMaker kind → shape_fault p kind hs given ≡ Some c → ⊥
no_shape p (in_memory_map step) hs given c m e = nothing_is c e
no_shape p (in_memory_join j) hs given c m e = nothing_is c e
no_shape p (negative_slice back n) hs given c m e = nothing_is c e
no_shape p kind hs given c m e = let no : false ≡ true = m in cc

or_two : (a b : Bool) → (a || b) ≡ true → (a ≡ true) ⊎ (b ≡ true)
or_two true b e = inl refl
or_two false b e = inr e

-- a list's item at a place has its partner there
item_at : (Ts : List Table) (ss : List Sent) → AllZip Extends ss Ts → (k : ℕ) (s : Sent) → slice_get ss k ≡ Some s → (T : Table) × Contains Ts T × Extends s T
item_at Ts [] m k s e = absurd (nothing_is s e)
item_at [] (x ∷ xs) m k s e = absurd m
item_at (T ∷ Ts) (x ∷ xs) m zero s e = let q : Some x ≡ Some s = e in let is : x ≡ s = cc in (T, contains_first T Ts, subst (λ z. Extends z T) is m.0)
item_at (T ∷ Ts) (x ∷ xs) m (suc k) s e = let r = item_at Ts xs m.1 k s e in (r.0, contains_later T r.0 Ts r.1, r.2)

-- the end of a table is whole and no longer
end_short : (back n : ℕ) (rows : List Row) → length (rows_from_end back n rows) ≤ length rows
end_short back n rows =
    let a = length-drop (length rows - back) (take (length rows + n - back) rows) in
    let b = length-take (length rows + n - back) rows in
    grind (arith, a, b)

-- the first pipe has the first rows
first_pipe : (qs : List Pipe) (first : List Row) (rest : List (List Row)) → map (λ (q : Pipe). rows_in_order q.got) qs ≡ first ∷ rest → (q : Pipe) × (slice_get qs 0 ≡ Some q) × (rows_in_order q.got ≡ first)
first_pipe [] first rest e = absurd (let q : [] ≡ first ∷ rest = e in cc)
first_pipe (q ∷ qs) first rest e = let z : rows_in_order q.got ∷ map (λ (q : Pipe). rows_in_order q.got) qs ≡ first ∷ rest = e in (q, refl, let same : rows_in_order q.got ≡ first = cc in same)

one_store : (stores : List (List (List Row))) → length stores ≡ 1 → map stored_rows stores ≡ stored_rows (get_or stores 0 []) ∷ []
one_store [] e = absurd (omega (arith, e))
one_store (m ∷ []) e = refl
one_store (m ∷ k ∷ ms) e = absurd (omega (arith, e))

abbrev BreaksOf : Functions → PhysicalNode → PhysicalKind → List Table → Cause → Type 0
BreaksOf F p kind ts c =
    ((U : Table) × PhysicalBefore F p (as_step kind) (tables_for F kind ts) U × (Contains U.broken c ⊎ (max_rows < length U.rows) × (c ≡ rows_fault p))) ⊎ IsLargeByStep F p.origin (as_step kind) (tables_for F kind ts) × (c ≡ rows_fault p)

-- a slice has an offset as its step
slice_end : (F : Functions) (p : PhysicalNode) (back n : ℕ) (s : Fields) (rows : List Row) (ts : List Table) (U : Table) → 1 ≤ back → first_table ts ≡ rows_table s rows → PhysicalBefore F p (as_step (negative_slice back n)) ts U → IsEnd back n rows U
slice_end F p back n s rows ts U some first (inl is) = subst (IsEnd back n rows) (sym (is ∙ ap (cut_at (below_zero back) n) first)) (at_end back n s rows some)
slice_end F p back n s rows ts U some first (inr (V, gives, lost, is)) = absurd (lost refl)

module _ (F : Functions) (w : World) (n : ℕ) (node : Node) (known : Known F w) (there : slice_get w.nodes n ≡ Some node) where
  abbrev came : List Sent
  came = sent_to (sent_at w) node.node

  sent_are : came ≡ map sent_by (pipes_in w n)
  sent_are = sent_to_is F w known.facts n node there (in_shape w n node there)

  -- an input with too many rows
  large_input : (q : Pipe) → Enters w n q → max_rows < length (rows_in_order q.got) → IsLargeWhatever F node.node (input_schemas (shape_of w) node.node) came
  large_input q e many Ts same ext =
      let stands : slice_get (pipes_in w n) q.wire.input ≡ Some q = ap (λ k. slice_get (pipes_in w k) q.wire.input) (sym e.1) ∙ input_pipe F w known.facts q e.0 in
      let at = slice_get-map sent_by (pipes_in w n) q.wire.input ∙ ap (option_map sent_by) stands in
      let T = item_at Ts (map sent_by (pipes_in w n)) (subst (λ ins. AllZip Extends ins Ts) sent_are ext) q.wire.input (sent_by q) at in
      let long : length (rows_in_order q.got) + length T.2.rest ≡ length T.0.rows = sym (length-append (rows_in_order q.got) T.2.rest) ∙ ap length T.2.begins in
      inr (inl (T.0, T.1, omega (arith, long, many)))

-- the causes of an Open
module _ (F : Functions) (s : World) (n : ℕ) (node : Node) (o : Orderly F s) (shut : s.is_open ≡ false) (there : slice_get s.nodes n ≡ Some node) (maker : IsMaker node.node.kind) (h : KeepsMade F s n node) (done : DoneFits s n) (c : Cause) (own : c.node ≡ node.node.origin) where
  k : Keeper node.node.kind
  k = keeper node.node.kind (keeps node.node.kind maker)

  abbrev ss : List Fields
  ss = schemas_for s node

  -- it takes, its inputs are done and its output isn't
  record Ready : Type 0 where
    takes : is_taking node.progress.stage ≡ true
    ins : all_done (given_at s n).inputs ≡ true
    out : is_done (first_port (given_at s n).outputs) ≡ false

  ready : (is_waiting node.node.kind node.progress (given_at s n) || (starts_giving s.options node.node.kind node.progress (given_at s n) && not (is_user_map node.node.kind))) ≡ true → Ready
  ready e = by (or_two (is_waiting node.node.kind node.progress (given_at s n)) (starts_giving s.options node.node.kind node.progress (given_at s n) && not (is_user_map node.node.kind)) e)
    where
      by : (is_waiting node.node.kind node.progress (given_at s n) ≡ true) ⊎ ((starts_giving s.options node.node.kind node.progress (given_at s n) && not (is_user_map node.node.kind)) ≡ true) → Ready
      by (inl wait) = let x = waits node.node.kind node.progress (given_at s n) wait in record { takes = ap is_taking x.takes; ins = x.ins; out = x.out }
      by (inr start) =
          let turn = both_true (starts_giving s.options node.node.kind node.progress (given_at s n)) (not (is_user_map node.node.kind)) start in
          let both = both_true (not (is_giving node.progress.stage)) (is_giving (stage_after s.options node.node.kind node.progress (given_at s n))) turn.0 in
          let why = starts node.progress.stage (is_done (first_port (given_at s n).outputs)) (all_done (given_at s n).inputs && is_filled node.node.kind node.progress) (has_given_all s.options node.node.kind node.progress) both.0 (ap is_giving (sym (k.stage s.options node.progress (given_at s n))) ∙ both.1) in
          record { takes = why.2; ins = (both_true (all_done (given_at s n).inputs) (is_filled node.node.kind node.progress) why.1).0; out = why.0 }

  module _ (r : Ready) where
    all : AllComplete s n
    all = all_complete F s n node o shut there maker h done r.takes r.ins r.out

    -- whatever its inputs turn out to mean, they are what came
    whole : (Ts : List Table) → schemas_of Ts ≡ ss → AllZip Extends (sent_to (sent_at s) node.node) Ts → Ts ≡ whole_tables ss (rows_received s n)
    whole Ts e m = all_whole ss (pipes_in s n) Ts e (λ i q g. all q (enters F s o.known.facts n i q g).0) (subst (λ ins. AllZip Extends ins Ts) (sent_are F s n node o.known there) m)

    plain : BreaksRows F node.node (whole_tables ss (rows_received s n)) c → Names F s node.node c
    plain (inl (U, before, inl among)) = inl (own, λ Ts e m. (U, subst (λ ts. PhysicalBefore F node.node (as_step node.node.kind) (tables_for F node.node.kind ts) U) (sym (whole Ts e m)) before, among))
    plain (inl (U, before, inr (large, is))) = inr (is, λ Ts e m. inl (U, subst (λ ts. PhysicalBefore F node.node (as_step node.node.kind) (tables_for F node.node.kind ts) U) (sym (whole Ts e m)) before, large))
    plain (inr (large, is)) = inr (is, λ Ts e m. inr (inr (subst (λ ts. IsLargeByStep F node.node.origin (as_step node.node.kind) (tables_for F node.node.kind ts)) (sym (whole Ts e m)) large)))

    -- of a slice from the end: too many rows came
    of_end : (back count : ℕ) → length node.progress.stores ≡ 1 → HoldsLast back ss node.progress (rows_received s n) → BreaksOf F node.node (negative_slice back count) (whole_tables ss (stored_tables node.progress)) c → Names F s node.node c
    of_end back count one held (inr (large, is)) = absurd large
    of_end back count one held (inl (U, before, broken)) = by broken
      where
        stored : List Row
        stored = stored_rows (get_or node.progress.stores 0 [])

        end : IsEnd back count (stored_rows (get_or node.progress.stores 0 [])) U
        end =
            let f = first_is ss (stored_rows (get_or node.progress.stores 0 [])) [] held.schema in
            slice_end F node.node back count f.0 (stored_rows (get_or node.progress.stores 0 [])) (whole_tables ss (stored_tables node.progress)) U held.some (ap (λ rr. first_table (whole_tables ss rr)) (one_store node.progress.stores one) ∙ f.1) before

        by : Contains U.broken c ⊎ (max_rows < length U.rows) × (c ≡ rows_fault node.node) → Names F s node.node c
        by (inl among) = absurd (none_in_nil c (subst (λ cs. Contains cs c) end.0 among))
        by (inr (large, is)) =
            let q = first_pipe (pipes_in s n) held.first held.rest held.is in
            let e = enters F s o.known.facts n 0 q.0 q.1 in
            let rows = ap length end.1 in
            let short = end_short back count (stored_rows (get_or node.progress.stores 0 [])) in
            let split : length held.holds.gone + length (stored_rows (get_or node.progress.stores 0 [])) ≡ length held.first = sym (length-append held.holds.gone (stored_rows (get_or node.progress.stores 0 []))) ∙ ap length held.holds.splits in
            let first = ap length q.2 in
            inr (is, large_input F s n node o.known there q.0 e.0 (omega (arith, large, rows, short, split, first)))

    names : BreaksRows F node.node (whole_tables ss (stored_tables node.progress)) c → Names F s node.node c
    names broken = by node.node.kind refl maker
      where
        held : HoldsInputs node.node.kind ss node.progress (rows_received s n)
        held = holds_inputs F s n node o shut there maker h done r.takes r.ins r.out

        as_came : stored_tables node.progress ≡ rows_received s n → Names F s node.node c
        as_came e = plain (subst (λ rr. BreaksRows F node.node (whole_tables ss rr) c) e broken)

        by : (kind : PhysicalKind) → node.node.kind ≡ kind → IsMaker kind → Names F s node.node c
        by (in_memory_map step) e m = as_came (subst (λ z. HoldsInputs z ss node.progress (rows_received s n)) e held)
        by (in_memory_join j) e m = as_came (subst (λ z. HoldsInputs z ss node.progress (rows_received s n)) e held)
        by (negative_slice back count) e m =
            let many = subst (λ z. HasInputs z (length node.node.inputs)) e (o.known.facts.sound.0 n node.node (in_shape s n node there)).inputs in
            of_end back count (h.long ∙ many) (subst (λ z. HoldsInputs z ss node.progress (rows_received s n)) e held) (subst (λ z. BreaksOf F node.node z (whole_tables ss (stored_tables node.progress)) c) e broken)
        by kind e m = absurd (let no : false ≡ true = m in cc)

  pub open_names : FaultFound F s n c → Names F s node.node c
  open_names (x, at, found) = by found
    where
      same : x ≡ node
      same = same_node s n x node at there

      by : (shape_fault x.node x.node.kind (heads_of s n x) (given_at s n) ≡ Some c) ⊎ BreaksTable F s.options x.node (schemas_for s x) (given_at s n) x.progress c → Names F s node.node c
      by (inl shape) = absurd (no_shape x.node x.node.kind (heads_of s n x) (given_at s n) c (subst (λ (z : Node). IsMaker z.node.kind) (sym same) maker) shape)
      by (inr b) =
          let t = subst (λ (z : Node). BreaksTable F s.options z.node (schemas_for s z) (given_at s n) z.progress c) same b in
          names (ready (both_true (makes_table node.node.kind) _ t.0).1) t.1

-- A PULL
past : (k : ℕ) → nat_lt max_rows k ≡ true → max_rows < k
past k e = grind (arith, nat_tests)

not_more : (kind : PhysicalKind) (booked : ℕ) (stores : List (List (List Row))) (i : ℕ) (rows : List Row) → StoresBy kind booked stores i rows → length (stored_rows (get_or stores i [])) ≤ length rows
not_more (negative_slice back n) booked stores i rows h =
    let split : length h.gone + length (stored_rows (get_or stores i [])) ≡ length rows = sym (length-append h.gone (stored_rows (get_or stores i []))) ∙ ap length h.splits in
    omega (arith, split)
not_more kind booked stores i rows h = let e = ap length h in omega (arith, e)

module _ (F : Functions) (w : World) (n : ℕ) (node : Node) (known : Known F w) (there : slice_get w.nodes n ≡ Some node) (maker : IsMaker node.node.kind) (h : KeepsMade F w n node) (i : ℕ) (p : Pipe) (m : List Row) (cp : Contains w.pipes p) (input : is_input n i p ≡ true) (slot : morsel_at p.next p.got ≡ Some m) where
  at_p : (p.wire.receiver ≡ n) × (p.wire.input ≡ i)
  at_p = let a = both_true (nat_eq p.wire.receiver n) (nat_eq p.wire.input i) input in (same_number p.wire.receiver n a.0, same_number p.wire.input i a.1)

  at_slot : slice_get p.got p.next ≡ Some (Some m)
  at_slot = slot_is (slice_get p.got p.next) m slot

  front : (rest : List Row) × (rows_in_order (take (suc p.next) p.got) ++ rest ≡ rows_in_order p.got)
  front = rows_front (suc p.next) p.got (λ k less. let long = length-take (suc p.next) p.got in let short : k < suc p.next = grind (arith, less, long) in let f = filled k short in (f.0, take_at p.got (suc p.next) k short ∙ f.1))
    where
      filled : (k : ℕ) → k < suc p.next → (rs : List Row) × (slice_get p.got k ≡ Some (Some rs))
      filled k less = by (cases_eq k p.next)
        where
          by : (k ≡ p.next) ⊎ (k ≢ p.next) → (rs : List Row) × (slice_get p.got k ≡ Some (Some rs))
          by (inl e) = (m, ap (slice_get p.got) e ∙ at_slot)
          by (inr other) = came_to F w known p cp k (omega (arith, less, other))

  abbrev now : Progress
  now = after_store node.node.kind i m node.progress

  stored_short : length (stored_rows (get_or now.stores i [])) ≤ length (rows_in_order p.got)
  stored_short =
      let short = slice_get_within node.node.inputs p.wire.input (p.wire.sender, p.wire.port) (input_of F w known.facts n node.node p (in_shape w n node there) cp at_p.0) in
      let l = h.long in
      let i_is = at_p.1 in
      let old = subst (λ j. StoresBy node.node.kind node.progress.booked node.progress.stores j (rows_read p)) at_p.1 (of_stores node.node.kind node.progress p (h.stores p (cp, at_p.0))) in
      let new = not_more node.node.kind now.booked now.stores i (rows_read p ++ m) (stored_here node.node.kind i m node.progress (rows_read p) (subst (λ j. j < length node.progress.stores) at_p.1 (omega (arith, short, l))) old) in
      let more = ap length (rows_more p.got p.next m (came_to F w known p cp) at_slot) in
      let whole : length (rows_in_order (take (suc p.next) p.got)) + length front.0 ≡ length (rows_in_order p.got) = sym (length-append (rows_in_order (take (suc p.next) p.got)) front.0) ∙ ap length front.1 in
      omega (arith, new, more, whole)

  pub pull_names : (c : Cause) → passes_limit node.node.kind i (stored_progress node i m) ≡ true → c ≡ rows_fault node.node → Names F w node.node c
  pull_names c limit is =
      let now_is : stored_progress node i m ≡ now = ap (λ b. cond b node.progress now) (k.single) in
      let over = (both_true (is_store node.node.kind) (nat_lt max_rows (length (stored_rows (get_or now.stores i [])))) (ap (passes_limit node.node.kind i) (sym now_is) ∙ limit)).1 in
      let many = past (length (stored_rows (get_or now.stores i []))) over in
      let short = stored_short in
      inr (is, large_input F w n node known there p (cp, at_p.0) (omega (arith, many, short)))
    where
      k : Keeper node.node.kind
      k = keeper node.node.kind (keeps node.node.kind maker)
