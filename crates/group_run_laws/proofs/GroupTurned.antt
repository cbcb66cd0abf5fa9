-- Updates, fills and Opens keep what is kept of a group-by: it makes its lists once all that came is kept, and before it gave anything.
use Rattle.std.proofs.Common.{◌≡◌, ◌≢◌, ℕ, ◌≤◌, ◌⊎◌, Bool, true, false, List, length, Some, refl, sym, ap, subst, ◌∙◌, inl, inr, arith}
use Rattle.std.specs.Prelude.{Contains, get_or, nat_le, not, slice_get, ◌&&◌}
use Rattle.std.proofs.lemmas.Bool.{cases_eq}
use Rattle.std.proofs.lemmas.Bool.Decides.{nat_tests}
use Rattle.std.proofs.lemmas.Option.{slice_get_within}
use Rattle.ps_frame.specs.Functions.{Functions}
use Rattle.ps_frame.specs.Tables.{Fields, Row}
use Rattle.ps_meaning.specs.Shape.{PhysicalKind, PhysicalNode, group_by_node}
use Rattle.ps_options.specs.declared.options.Options.{Options}
use Rattle.ps_ports.specs.Ports.{Sides, all_done, first_port, is_done}
use Rattle.ps_turns.specs.Claims.{all_taken}
use Rattle.ps_turns.specs.Keys.{IsSplit}
use Rattle.ps_turns.specs.Tables.{whole_tables}
use Rattle.ps_turns.specs.Progress.{Progress, Stage, giving, is_giving, is_spent, is_taking, is_user_map, spent, taking}
use Rattle.ps_turns.specs.Tasks.{Piece}
use Rattle.ps_turns.specs.Updates.{Makes, Turns, has_given_all, is_filled, keeper_answer, next_stage, stage_after, starts_giving}
use Rattle.ps_world.specs.Facts.{Joins}
use Rattle.ps_world.specs.Updates.{FillsAt, TurnsAt, given_at}
use Rattle.ps_world.specs.World.{Node, Pipe, World, running, schemas_for, shape_of}
use Rattle.turn_laws.proofs.Turned.{waits}
use Rattle.world_claims.specs.Numbering.{Known, counts_own}
use Rattle.world_facts.proofs.CutOff.{both_true}
use Rattle.world_families.specs.Keepers.{IsKeptOf, SplitsAll}
use Rattle.world_families.specs.Sources.{HasGivenAll}
use Rattle.world_families.specs.Work.{Enters, IsComplete, Leaves, rows_received}
use Rattle.family_keeps.proofs.Done.{DoneFits}
use Rattle.family_keeps.proofs.Turns.{turn_leaves}
use Rattle.family_keeps.proofs.Unions.{same_schemas}
use Rattle.family_pipes.proofs.Outputs.{gives_keep}
use Rattle.family_pipes.proofs.SourceSteps.{same_node}
use Rattle.orderly_worlds.proofs.Orderly.{Newly, Orderly, complete_turned, newly}
use Rattle.orderly_worlds.proofs.Says.{kept_at}
use Rattle.orderly_worlds.proofs.Turned.{turned, turned_from}
use Rattle.node_keeps.proofs.Law.{filled}
use Rattle.keeper_laws.proofs.Says.{IsKeeper, Keeper, gives_not_spent, keeper, says_out, spent_takes_none, starts, still_takes}
use Rattle.keeper_laws.proofs.Starts.{none_out, state_out}
use Rattle.keeper_laws.proofs.Turn.{IsReadOut, KeepsTurn}
use Rattle.keeper_laws.proofs.Turned.{new_here, new_stage, out_read, same_there, says, spent_why, turn_filled, turn_turned}
use Rattle.keeper_laws.proofs.Made.{complete_on, received_same}
use Rattle.group_run_laws.proofs.Quiet.{Quiet, all_kept, kept_quiet, morsels_quiet, stay, whole_quiet}
use Rattle.group_run_laws.proofs.Whole.{WholeSlots, has_all, silent}
use Rattle.group_run_laws.proofs.Groups.{GaveParts, IsGroup, KeepsGroups, PartWork, keeps, part_on, slotted, splits_on}

never : (b : Bool) → b ≡ true → b ≡ false → ⊥
never b t f = let no : true ≡ false = sym t ∙ f in cc

-- WHILE NOTHING COMES AND NOTHING IS HANDED IN
module _ (F : Functions) (w v : World) (n : ℕ) (node y : Node) (kw : Known F w) (kv : Known F v) (shape : shape_of v ≡ shape_of w) (there : slice_get w.nodes n ≡ Some node) (at : slice_get v.nodes n ≡ Some y) (node_is : y.node ≡ node.node) (is : IsGroup node.node.kind) (taken : y.progress.taken ≡ node.progress.taken)
    (outs : v.outs ≡ w.outs) (ends : v.ending ≡ running → w.ending ≡ running) (quiet : Quiet w v) (h : KeepsGroups F w n node) where
  pub came_quiet : (p : Pipe) (k : ℕ) (rs : List Row) → Leaves v n p → slice_get p.got k ≡ Some (Some rs) → (x : Pipe) × Leaves w n x × (slice_get x.got k ≡ Some (Some rs))
  came_quiet p k rs l e = let x = quiet p l.0 in (x.0, (x.1, ap (λ (j : Joins). j.sender) (sym x.2) ∙ l.1), ap (λ xs. slice_get xs k) (sym x.3) ∙ e)

  -- where its lists stay too
  pub groups_quiet : v.options ≡ w.options → y.progress.lists ≡ node.progress.lists → y.progress.sent ≡ node.progress.sent → KeepsTurn v n y → (is_giving y.progress.stage ≡ true → WholeSlots w n node × SplitsAll w n node) → (is_spent y.progress.stage ≡ true → (WholeSlots w n node × SplitsAll w n node) ⊎ IsReadOut v n) → (is_taking y.progress.stage ≡ true → (p : Pipe) → Leaves v n p → IsComplete p → ⊥)
      → ((p : Pipe) → Leaves v n p → IsComplete p → ((x : Pipe) × Leaves w n x × IsComplete x) ⊎ GaveParts w n node) → KeepsGroups F v n y
  groups_quiet options lists sent turn whole after open_out completes =
      record {
        turn = turn;
        morsels = morsels_quiet F w v n node y kw kv shape there at node_is (slotted node.node.kind is) taken outs ends quiet h.morsels;
        whole = λ g. let old = whole g in (still old.0, split old.1);
        after = λ e. later (after e);
        open_out = open_out;
        gives =
            gives_keep F w v n (PartWork w n node) (PartWork v n y) (IsKeptOf w n node 0) (IsKeptOf v n y 0) (GaveParts w n node) (GaveParts v n y) (λ k x a. part_on F w v n node y kw kv there at node_is shape options lists (stay F w v n node y kw kv shape there at node_is (slotted node.node.kind is) taken outs ends quiet h.morsels) still k x a) (kept_quiet F w v n node y kw kv shape there at node_is (slotted node.node.kind is) taken outs ends quiet h.morsels) (λ q rs k r. silent F w n node q rs k r)
            (λ p k rs l e. inl (came_quiet p k rs l e)) (λ q c e. inl (subst (λ qs. Contains qs q) outs c)) (λ p l c. of (completes p l c)) h.gives;
      }
    where
      still : WholeSlots w n node → WholeSlots v n y
      still = whole_quiet F w v n node y kw kv shape there at node_is (slotted node.node.kind is) taken outs ends quiet h.morsels

      split : SplitsAll w n node → SplitsAll v n y
      split x = splits_on F w v n node y kw kv there at node_is shape options lists (stay F w v n node y kw kv shape there at node_is (slotted node.node.kind is) taken outs ends quiet h.morsels) x

      later : (WholeSlots w n node × SplitsAll w n node) ⊎ IsReadOut v n → (WholeSlots v n y × SplitsAll v n y) ⊎ IsReadOut v n
      later (inl old) = inl (still old.0, split old.1)
      later (inr r) = inr r

      gave : GaveParts w n node → GaveParts v n y
      gave a = (still a.0, split a.1, let all = a.2 in let ls = ap length lists in omega (arith, all, ls, sent))

      of : ((x : Pipe) × Leaves w n x × IsComplete x) ⊎ GaveParts w n node → ((x : Pipe) × Leaves w n x × IsComplete x × (GaveParts w n node → GaveParts v n y)) ⊎ GaveParts v n y
      of (inr g) = inr (gave g)
      of (inl (x, l, c)) = inl (x, l, c, gave)

  -- where it makes them now: nothing of it came or is out
  pub groups_fresh : ((p : Pipe) (k : ℕ) (rs : List Row) → Leaves w n p → slice_get p.got k ≡ Some (Some rs) → ⊥) → ((q : Piece) → Contains w.outs q → ⊥) → KeepsTurn v n y → WholeSlots w n node → SplitsAll v n y → is_giving y.progress.stage ≡ true → ((p : Pipe) → Leaves v n p → IsComplete p → ⊥) → KeepsGroups F v n y
  groups_fresh none_came none_out turn whole split gives none_complete =
      record {
        turn = turn;
        morsels = morsels_quiet F w v n node y kw kv shape there at node_is (slotted node.node.kind is) taken outs ends quiet h.morsels;
        whole = λ g. (whole_quiet F w v n node y kw kv shape there at node_is (slotted node.node.kind is) taken outs ends quiet h.morsels whole, split);
        after = λ e. absurd ((gives_not_spent y.progress.stage gives).1 e);
        open_out = λ t p l c. absurd ((gives_not_spent y.progress.stage gives).0 t);
        gives =
            record {
              answers = λ p k rs l e. let x = came_quiet p k rs l e in absurd (none_came x.0 k rs x.1 x.2);
              pieces = λ q c e. absurd (none_out q (subst (λ qs. Contains qs q) outs c));
              completes = λ p l c. absurd (none_complete p l c);
            };
      }

-- AN UPDATE
counts : (kind : PhysicalKind) → IsGroup kind → counts_own kind ≡ true
counts (group_by_node keys aggregates) r = refl
counts kind r = absurd (let no : false ≡ true = r in cc)

given_is : (o : Options) (kind : PhysicalKind) (a : Progress) → IsGroup kind → has_given_all o kind a ≡ true → length a.lists ≤ a.sent
given_is o (group_by_node keys aggregates) a r e = let t : nat_le (length a.lists) a.sent ≡ true = e in grind (arith, t, nat_tests)
given_is o kind a r e = absurd (let no : false ≡ true = r in cc)

-- the lists that it makes
record Listed (o : Options) (p : PhysicalNode) (ss : List Fields) (a c : Progress) : Type 0 where
  taken : c.taken ≡ a.taken
  split : IsSplit p (whole_tables ss (all_taken a)) o.partitions c.lists

listed : (F : Functions) (o : Options) (p : PhysicalNode) (kind : PhysicalKind) (ss : List Fields) (a c : Progress) → IsGroup kind → Makes F o p kind ss a c → Listed o p ss a c
listed F o p (group_by_node keys aggregates) ss a c r (lists, split, e) = record { taken = ap (λ (x : Progress). x.taken) e; split = subst (IsSplit p (whole_tables ss (all_taken a)) o.partitions) (sym (ap (λ (x : Progress). x.lists) e)) split }
listed F o p kind ss a c r m = absurd (let no : false ≡ true = r in cc)

module _ (F : Functions) (w : World) (m : ℕ) (other : Node) (progress : Progress) (o : Orderly F w) (shut : w.is_open ≡ false) (t : TurnsAt F w m other progress) (kv : Known F (turned w m other progress t.0)) (shape : shape_of (turned w m other progress t.0) ≡ shape_of w) (run : w.ending ≡ running) where
  abbrev v : World
  v = turned w m other progress t.0

  abbrev new : Node
  new = record other { progress = progress }

  quiet : Quiet w v
  quiet q c = let x = turned_from w m other progress t.0 q c in (x.0, x.1, x.2.joins, x.2.got, λ d. complete_turned F w m other progress o shut t.0 x.0 q x.2 d)

  -- THE GROUP-BY ITSELF
  module _ (is : IsGroup other.node.kind) (h : KeepsGroups F w m other) (turn : KeepsTurn v m new) (at : slice_get v.nodes m ≡ Some new) (done : DoneFits w m) where
    keeping : IsKeeper other.node.kind
    keeping = keeps other.node.kind is

    kp : Keeper other.node.kind
    kp = keeper other.node.kind keeping

    sent : progress.sent ≡ other.progress.sent
    sent = (turn_leaves F w.options other.node (schemas_for w other) (given_at w m) other.progress progress t.2).sent

    -- newly complete: it is spent, and gave all
    record Ended : Type 0 where
      spent : is_spent progress.stage ≡ true
      all : HasGivenAll v new
      unread : IsReadOut w m → ⊥

    ended : (x p : Pipe) → Leaves w m x → Newly F w m other progress o shut t.0 x p → Ended
    ended x p lx now = of (kept_at (given_at w m).outputs (keeper_answer progress.stage (given_at w m)).outputs x.wire.port x.wire.receive_state x.wire.send_state (state_out F w m other o shut t.0 keeping h.turn x lx) now.sent (ap (λ (z : Sides). is_done (get_or z.outputs x.wire.port x.wire.send_state)) (sym (says F w m other progress o shut t kv shape keeping h.turn)) ∙ now.said))
      where
        why : is_spent progress.stage ≡ true → HasGivenAll v new ⊎ IsReadOut w m → Ended
        why s (inr r) = absurd (never (is_done x.wire.receive_state) (r x lx) now.reader)
        why s (inl g) = record { spent = s; all = g; unread = λ r. never (is_done x.wire.receive_state) (r x lx) now.reader }

        of : (is_done x.wire.receive_state ≡ true) ⊎ (is_done (get_or (keeper_answer progress.stage (given_at w m)).outputs x.wire.port x.wire.send_state) ≡ true) → Ended
        of (inl d) = absurd (never (is_done x.wire.receive_state) d now.reader)
        of (inr said) = let s = says_out progress.stage (given_at w m) x.wire.port x.wire.send_state now.sent said in why s (spent_why F w m other progress o shut t kv shape keeping h.turn s)

    completes : (p : Pipe) → Leaves v m p → IsComplete p → ((x : Pipe) × Leaves w m x × IsComplete x) ⊎ Ended
    completes p l c =
        let x = turned_from w m other progress t.0 p l.0 in
        by x.0 (x.1, ap (λ (j : Joins). j.sender) (sym x.2.joins) ∙ l.1) (newly F w m other progress o shut t.0 x.0 p x.1 x.2 c)
      where
        by : (x : Pipe) → Leaves w m x → IsComplete x ⊎ Newly F w m other progress o shut t.0 x p → ((z : Pipe) × Leaves w m z × IsComplete z) ⊎ Ended
        by x lx (inl was) = inl (x, lx, was)
        by x lx (inr now) = inr (ended x p lx now)

    none_came : is_taking other.progress.stage ≡ true → (p : Pipe) (j : ℕ) (rs : List Row) → Leaves w m p → slice_get p.got j ≡ Some (Some rs) → ⊥
    none_came takes p j rs l e =
        let long = (o.known.numbers m other t.0).own (counts other.node.kind is) p l.0 l.1 (h.turn.first.takes takes p l) in
        let none = h.turn.unsent takes in
        let within = slice_get_within p.got j (Some rs) e in
        omega (arith, long, none, within)

    old_stage : is_taking progress.stage ≡ true → is_taking other.progress.stage ≡ true
    old_stage e = still_takes other.progress.stage (is_done (first_port (given_at w m).outputs)) (all_done (given_at w m).inputs && is_filled other.node.kind other.progress) (has_given_all w.options other.node.kind other.progress) (ap is_taking (sym (new_stage F w m other progress o shut t kv shape keeping h.turn)) ∙ e)

    spent_from : (st : Stage) (out ins all : Bool) → is_spent (next_stage st out ins all) ≡ true → (out ≡ true) ⊎ (is_giving st ≡ true) ⊎ (is_spent st ≡ true)
    spent_from st true ins all e = inl refl
    spent_from taking false true all e = absurd (let no : false ≡ true = e in cc)
    spent_from taking false false all e = absurd (let no : false ≡ true = e in cc)
    spent_from giving false ins all e = inr (inl refl)
    spent_from spent false ins all e = inr (inr refl)

    stage_is : progress.stage ≡ next_stage other.progress.stage (is_done (first_port (given_at w m).outputs)) (all_done (given_at w m).inputs && is_filled other.node.kind other.progress) (has_given_all w.options other.node.kind other.progress)
    stage_is = new_stage F w m other progress o shut t kv shape keeping h.turn

    after_w : is_spent progress.stage ≡ true → (WholeSlots w m other × SplitsAll w m other) ⊎ IsReadOut w m
    after_w e = by (spent_from other.progress.stage (is_done (first_port (given_at w m).outputs)) (all_done (given_at w m).inputs && is_filled other.node.kind other.progress) (has_given_all w.options other.node.kind other.progress) (ap is_spent (sym stage_is) ∙ e))
      where
        by : (is_done (first_port (given_at w m).outputs) ≡ true) ⊎ (is_giving other.progress.stage ≡ true) ⊎ (is_spent other.progress.stage ≡ true) → (WholeSlots w m other × SplitsAll w m other) ⊎ IsReadOut w m
        by (inl read) = inr (out_read F w m other progress o shut t kv shape keeping h.turn read)
        by (inr (inl g)) = inl (h.whole g)
        by (inr (inr s)) = h.after s

    turned_here : KeepsGroups F v m new
    turned_here = by t.2
      where
        -- it goes on as it was
        goes_on : (st : Stage) → progress ≡ record other.progress { stage = st } → (is_giving progress.stage ≡ true → is_giving other.progress.stage ≡ true) → KeepsGroups F v m new
        goes_on st e was =
            groups_quiet F w v m other new o.known kv shape t.0 at refl is taken refl (λ on. on) quiet h refl lists sent turn (λ g. h.whole (was g)) (λ b. read_on (after_w b)) (λ b p l c. open_out b (completes p l c)) (λ p l c. of p (completes p l c))
          where
            taken : progress.taken ≡ other.progress.taken
            taken = ap (λ (x : Progress). x.taken) e

            lists : progress.lists ≡ other.progress.lists
            lists = ap (λ (x : Progress). x.lists) e

            read_on : (WholeSlots w m other × SplitsAll w m other) ⊎ IsReadOut w m → (WholeSlots w m other × SplitsAll w m other) ⊎ IsReadOut v m
            read_on (inl x) = inl x
            read_on (inr r) = inr (λ p l. let x = turned_from w m other progress t.0 p l.0 in x.2.received_on (r x.0 (x.1, ap (λ (j : Joins). j.sender) (sym x.2.joins) ∙ l.1)))

            open_out : is_taking progress.stage ≡ true → ((x : Pipe) × Leaves w m x × IsComplete x) ⊎ Ended → ⊥
            open_out b (inl (x, l, c)) = h.open_out (old_stage b) x l c
            open_out b (inr d) = never (is_taking progress.stage) b (spent_takes_none progress.stage d.spent)

            gave : Ended → (WholeSlots w m other × SplitsAll w m other) ⊎ IsReadOut w m → GaveParts w m other
            gave d (inr r) = absurd (d.unread r)
            gave d (inl x) = (x.0, x.1, let all = given_is w.options other.node.kind progress is d.all in let ls = ap length lists in omega (arith, all, ls, sent))

            of : (p : Pipe) → ((x : Pipe) × Leaves w m x × IsComplete x) ⊎ Ended → ((x : Pipe) × Leaves w m x × IsComplete x) ⊎ GaveParts w m other
            of p (inl x) = inl x
            of p (inr d) = inr (gave d (after_w d.spent))

        -- it starts to give
        begins : (c : Progress) → starts_giving w.options other.node.kind other.progress (given_at w m) ≡ true → Makes F w.options other.node other.node.kind (schemas_for w other) other.progress c → progress ≡ record c { stage = giving } → KeepsGroups F v m new
        begins c starting makes e = groups_fresh F w v m other new o.known kv shape t.0 at refl is taken refl (λ on. on) quiet h (none_came why.2) (none_out F w m other o shut t.0 keeping h.turn) turn whole split gives (λ p l d. none (completes p l d))
          where
            both : (not (is_giving other.progress.stage) ≡ true) × (is_giving (stage_after w.options other.node.kind other.progress (given_at w m)) ≡ true)
            both = both_true (not (is_giving other.progress.stage)) (is_giving (stage_after w.options other.node.kind other.progress (given_at w m))) starting

            why : (is_done (first_port (given_at w m).outputs) ≡ false) × ((all_done (given_at w m).inputs && is_filled other.node.kind other.progress) ≡ true) × (is_taking other.progress.stage ≡ true)
            why = starts other.progress.stage (is_done (first_port (given_at w m).outputs)) (all_done (given_at w m).inputs && is_filled other.node.kind other.progress) (has_given_all w.options other.node.kind other.progress) both.0 (ap is_giving (sym (kp.stage w.options other.progress (given_at w m))) ∙ both.1)

            made : Listed w.options other.node (schemas_for w other) other.progress c
            made = listed F w.options other.node other.node.kind (schemas_for w other) other.progress c is makes

            taken : progress.taken ≡ other.progress.taken
            taken = ap (λ (x : Progress). x.taken) e ∙ made.taken

            gives : is_giving progress.stage ≡ true
            gives = ap (λ (x : Progress). is_giving x.stage) e

            whole : WholeSlots w m other
            whole = all_kept F w m other o shut t.0 keeping (slotted other.node.kind is) h.turn h.morsels run done why.2 (both_true (all_done (given_at w m).inputs) (is_filled other.node.kind other.progress) why.1).0 why.0

            stays : (q : Pipe) → Enters v m q → (x : Pipe) × Enters w m x × (q.wire.input ≡ x.wire.input) × (IsComplete x → IsComplete q × (q.got ≡ x.got))
            stays q d = let x = quiet q d.0 in (x.0, (x.1, ap (λ (j : Joins). j.receiver) (sym x.2) ∙ d.1), ap (λ (j : Joins). j.input) x.2, λ c. (x.4 c, x.3))

            split : SplitsAll v m new
            split = (
              complete_on F w v m other new o.known.facts kv.facts t.0 at refl shape stays whole.0,
              subst (λ ss. IsSplit other.node (whole_tables ss (rows_received v m)) w.options.partitions progress.lists) (sym (same_schemas w v other new shape refl))
                  (subst (λ rr. IsSplit other.node (whole_tables (schemas_for w other) rr) w.options.partitions progress.lists) (sym (received_same F w v m other new o.known.facts kv.facts t.0 at refl shape stays whole.0))
                  (subst (λ rr. IsSplit other.node (whole_tables (schemas_for w other) rr) w.options.partitions progress.lists) (has_all F w m other o t.0 (slotted other.node.kind is) whole)
                  (subst (IsSplit other.node (whole_tables (schemas_for w other) (all_taken other.progress)) w.options.partitions) (sym (ap (λ (x : Progress). x.lists) e)) made.split))),
            )

            none : ((x : Pipe) × Leaves w m x × IsComplete x) ⊎ Ended → ⊥
            none (inl (x, l, d)) = h.open_out why.2 x l d
            none (inr d) = (gives_not_spent progress.stage gives).1 d.spent

        not_start : (g s : Bool) → not (not g && s) ≡ true → s ≡ true → g ≡ true
        not_start true s e q = refl
        not_start false true e q = absurd (let no : false ≡ true = e in cc)
        not_start false false e q = q

        by : Turns F w.options other.node (schemas_for w other) (given_at w m) other.progress progress → KeepsGroups F v m new
        by (inl s) = goes_on (stage_after w.options other.node.kind other.progress (given_at w m)) s.1 (λ g. not_start (is_giving other.progress.stage) (is_giving (stage_after w.options other.node.kind other.progress (given_at w m))) s.0 (ap (λ (x : Progress). is_giving x.stage) (sym s.1) ∙ g))
        by (inr s) = begins s.1 s.0 s.2 s.3

  -- ANY NODE
  pub group_turned : (n : ℕ) (node y : Node) → slice_get w.nodes n ≡ Some node → slice_get v.nodes n ≡ Some y → IsGroup node.node.kind → DoneFits w n → KeepsGroups F w n node → KeepsGroups F v n y
  group_turned n node y there at is done h = by (cases_eq n m)
    where
      by : (n ≡ m) ⊎ (n ≢ m) → KeepsGroups F v n y
      by (inr apart) =
          let same = same_node w n y node (same_there w.nodes m n other new y t.0 at apart) there in
          let at_node : slice_get v.nodes n ≡ Some node = at ∙ ap Some same in
          subst (KeepsGroups F v n) (sym same)
          (groups_quiet F w v n node node o.known kv shape there at_node refl is refl refl (λ on. on) quiet h refl refl refl (turn_turned F w m other progress o shut t kv shape n node node there at_node (keeps node.node.kind is) h.turn) h.whole (λ e. read_on (h.after e)) (λ b p l c. open_out b (was p l c)) (λ p l c. inl (was p l c)))
        where
          was : (p : Pipe) → Leaves v n p → IsComplete p → (x : Pipe) × Leaves w n x × IsComplete x
          was p l c =
              let x = turned_from w m other progress t.0 p l.0 in
              let lx : Leaves w n x.0 = (x.1, ap (λ (j : Joins). j.sender) (sym x.2.joins) ∙ l.1) in
              old x.0 lx p (newly F w m other progress o shut t.0 x.0 p x.1 x.2 c)
            where
              old : (x : Pipe) → Leaves w n x → (p : Pipe) → IsComplete x ⊎ Newly F w m other progress o shut t.0 x p → (z : Pipe) × Leaves w n z × IsComplete z
              old x l p (inl was) = (x, l, was)
              old x l p (inr now) = absurd (apart (sym l.1 ∙ now.from))

          open_out : is_taking node.progress.stage ≡ true → (x : Pipe) × Leaves w n x × IsComplete x → ⊥
          open_out b (x, l, c) = h.open_out b x l c

          read_on : (WholeSlots w n node × SplitsAll w n node) ⊎ IsReadOut w n → (WholeSlots w n node × SplitsAll w n node) ⊎ IsReadOut v n
          read_on (inl x) = inl x
          read_on (inr r) = inr (λ p l. let x = turned_from w m other progress t.0 p l.0 in x.2.received_on (r x.0 (x.1, ap (λ (j : Joins). j.sender) (sym x.2.joins) ∙ l.1)))
      by (inl here) =
          let node_is = same_node w n node other there (ap (slice_get w.nodes) here ∙ t.0) in
          let y_is = new_here w.nodes m n other new y t.0 at here in
          let turn : KeepsTurn v m new = subst (λ j. KeepsTurn v j new) here (subst (KeepsTurn v n) (sym y_is) (turn_turned F w m other progress o shut t kv shape n node y there at (keeps node.node.kind is) h.turn)) in
          let at_new : slice_get v.nodes m ≡ Some new = ap (slice_get v.nodes) (sym here) ∙ at ∙ ap Some (sym y_is) in
          let old : KeepsGroups F w m other = subst (λ j. KeepsGroups F w j other) here (subst (KeepsGroups F w n) node_is h) in
          subst (KeepsGroups F v n) y_is (subst (λ j. KeepsGroups F v j new) (sym here) (turned_here (subst (λ (z : Node). IsGroup z.node.kind) node_is is) old turn at_new (subst (DoneFits w) here done)))

-- A FILL
no_map : (kind : PhysicalKind) → IsGroup kind → is_user_map kind ≡ true → ⊥
no_map (group_by_node keys aggregates) r e = let no : false ≡ true = e in cc
no_map kind r e = let no : false ≡ true = r in cc

module _ (F : Functions) (w : World) (m : ℕ) (other : Node) (progress : Progress) (o : Orderly F w) (t : FillsAt F w m other progress) (kv : Known F (filled w m other progress)) (shape : shape_of (filled w m other progress) ≡ shape_of w) where
  pub group_filled : (n : ℕ) (node y : Node) → slice_get w.nodes n ≡ Some node → slice_get (filled w m other progress).nodes n ≡ Some y → IsGroup node.node.kind → KeepsGroups F w n node → KeepsGroups F (filled w m other progress) n y
  group_filled n node y there at is h = by (cases_eq n m)
    where
      by : (n ≡ m) ⊎ (n ≢ m) → KeepsGroups F (filled w m other progress) n y
      by (inl here) = let same = same_node w n node other there (ap (slice_get w.nodes) here ∙ t.0) in absurd (no_map other.node.kind (subst (λ (z : Node). IsGroup z.node.kind) same is) (waits other.node.kind other.progress (given_at w m) t.1.0).is_map)
      by (inr apart) =
          let same = same_node w n y node (same_there w.nodes m n other (record other { progress = progress }) y t.0 at apart) there in
          let at_node : slice_get (filled w m other progress).nodes n ≡ Some node = at ∙ ap Some same in
          subst (KeepsGroups F (filled w m other progress) n) (sym same)
          (groups_quiet F w (filled w m other progress) n node node o.known kv shape there at_node refl is refl refl (λ on. on) (λ q c. (q, c, refl, refl, λ d. d)) h refl refl refl (turn_filled F w m other progress t n node node there at_node h.turn) h.whole (λ e. h.after e) (λ b p l c. h.open_out b p l c) (λ p l c. inl (p, l, c)))
