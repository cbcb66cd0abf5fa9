-- Updates, fills and Opens keep what is kept of a node that makes a table: it makes it of all that came, before it gave anything.
use Rattle.std.proofs.Common.{◌≡◌, ◌≢◌, ℕ, zero, suc, ◌⊎◌, Bool, true, false, List, [], ◌∷◌, length, take, Some, refl, sym, ap, subst, ◌∙◌, inl, inr, arith}
use Rattle.std.specs.Prelude.{Contains, get_or, map, not, slice_get, ◌&&◌}
use Rattle.std.proofs.Math.Seq.{take-length}
use Rattle.std.proofs.lemmas.Bool.{cases_eq}
use Rattle.std.proofs.lemmas.Option.{slice_get_within}
use Rattle.ps_frame.specs.Functions.{Functions}
use Rattle.ps_frame.specs.Tables.{Row}
use Rattle.ps_meaning.specs.Shape.{PhysicalKind, PhysicalNode, in_memory_join, in_memory_map, negative_slice}
use Rattle.ps_meaning.specs.Sound.{HasFitParameters, HasInputs}
use Rattle.ps_ports.specs.Ports.{Sides, all_done, first_port, is_done}
use Rattle.ps_ports.specs.Wires.{Wire}
use Rattle.ps_turns.specs.Ends.{HoldsEnd}
use Rattle.ps_turns.specs.Heads.{stored_rows}
use Rattle.ps_turns.specs.Progress.{Progress, Stage, giving, is_giving, is_taking, is_user_map}
use Rattle.ps_turns.specs.Updates.{Makes, Turns, has_given_all, is_filled, keeper_answer, stage_after, starts_giving, stored_tables}
use Rattle.ps_world.specs.Facts.{Joins}
use Rattle.ps_world.specs.Updates.{FillsAt, TurnsAt, given_at}
use Rattle.ps_world.specs.World.{Node, Pipe, World, pipes_in, rows_in_order, schemas_for, shape_of}
use Rattle.turn_laws.proofs.Turned.{Waits, waits}
use Rattle.world_claims.specs.Numbering.{Known}
use Rattle.world_facts.proofs.CutOff.{both_true}
use Rattle.world_facts.proofs.Placing.{map_length}
use Rattle.world_families.proofs.Members.{nothing_is}
use Rattle.world_families.specs.Keepers.{IsMadeOfAll}
use Rattle.world_families.specs.Sources.{HasGivenAll, KeepsNone, cut_work}
use Rattle.world_families.specs.Work.{AllComplete, Enters, Gives, IsComplete, Leaves, rows_read, rows_received}
use Rattle.world_laws.proofs.Answered.{in_shape}
use Rattle.family_pipes.proofs.Inputs.{enters, inputs_long}
use Rattle.family_pipes.proofs.Outputs.{gives_keep}
use Rattle.family_pipes.proofs.SourceSteps.{same_node}
use Rattle.family_keeps.proofs.Done.{DoneFits}
use Rattle.family_keeps.proofs.Turns.{Leaves as LeavesProgress, fill_leaves, turn_leaves}
use Rattle.orderly_worlds.proofs.Orderly.{Newly, Orderly, complete_turned, newly}
use Rattle.orderly_worlds.proofs.ReadRows.{reads_turned}
use Rattle.orderly_worlds.proofs.Says.{kept_at}
use Rattle.orderly_worlds.proofs.Stands.{Stands}
use Rattle.orderly_worlds.proofs.Turned.{answer, turned, turned_from}
use Rattle.node_keeps.proofs.Law.{filled}
use Rattle.node_keeps.proofs.SameTurn.{SameTurn}
use Rattle.keeper_laws.proofs.Says.{IsKeeper, Keeper, given_same, keeper, says_out, starts}
use Rattle.keeper_laws.proofs.Starts.{all_complete as keeper_complete, none_out, state_out}
use Rattle.keeper_laws.proofs.Turn.{IsReadOut, KeepsTurn}
use Rattle.keeper_laws.proofs.Turned.{new_here, same_there, says, spent_why, turn_filled, turn_kept, turn_turned}
use Rattle.keeper_laws.proofs.Made.{InputsStay, IsMaker, KeepsMade, MadeWork, StoresBy, counts, keeps, made_on, not_given, of_stores, stores_kept}
use Rattle.keeper_laws.proofs.MadeSteps.{no_zip}
use Rattle.keeper_laws.proofs.MadeTables.{HoldsInputs, IsTable, makes_one, of_made}

never : (b : Bool) → b ≡ true → b ≡ false → ⊥
never b t f = let no : true ≡ false = sym t ∙ f in cc

map_two : {A B C : Type 0} (f : A → C) (g : B → C) (xs : List A) (ys : List B) → length xs ≡ length ys → ((k : ℕ) (y : B) → slice_get ys k ≡ Some y → (x : A) → slice_get xs k ≡ Some x → f x ≡ g y) → map f xs ≡ map g ys
map_two f g [] [] e h = refl
map_two f g [] (y ∷ ys) e h = absurd (omega arith)
map_two f g (x ∷ xs) [] e h = absurd (omega arith)
map_two f g (x ∷ xs) (y ∷ ys) e h = let first = h 0 y refl x refl in let rest = map_two f g xs ys (omega arith) (λ k b q a r. h (suc k) b q a r) in λ i. first i ∷ rest i

get_at : {A : Type 0} (xs : List A) (k : ℕ) (x d : A) → slice_get xs k ≡ Some x → get_or xs k d ≡ x
get_at [] k x d e = absurd (nothing_is x e)
get_at (y ∷ xs) zero x d e = let q : Some y ≡ Some x = e in cc
get_at (y ∷ xs) (suc k) x d e = get_at xs k x d e

one_of : {A : Type 0} (xs : List A) → length xs ≡ 1 → (x : A) × (xs ≡ x ∷ [])
one_of [] e = absurd (omega (arith, e))
one_of (x ∷ []) e = (x, refl)
one_of (x ∷ y ∷ xs) e = absurd (omega (arith, e))

-- WHERE IT TAKES, ITS INPUTS ARE DONE AND ITS OUTPUT ISN'T
module _ (F : Functions) (w : World) (m : ℕ) (other : Node) (o : Orderly F w) (shut : w.is_open ≡ false) (at_m : slice_get w.nodes m ≡ Some other) (maker : IsMaker other.node.kind) (h : KeepsMade F w m other) where
  -- while it takes nothing of it stands in a pipe
  none_came : is_taking other.progress.stage ≡ true → (p : Pipe) (j : ℕ) (rs : List Row) → Leaves w m p → slice_get p.got j ≡ Some (Some rs) → ⊥
  none_came takes p j rs l e =
      let long = (o.known.numbers m other at_m).own (counts other.node.kind maker) p l.0 l.1 (h.turn.first.takes takes p l) in
      let none = h.turn.unsent takes in
      let within = slice_get_within p.got j (Some rs) e in
      omega (arith, long, none, within)

  module _ (done : DoneFits w m) (takes : is_taking other.progress.stage ≡ true) (ins : all_done (given_at w m).inputs ≡ true) (out : is_done (first_port (given_at w m).outputs) ≡ false) where
    pub all_complete : AllComplete w m
    all_complete = keeper_complete F w m other o shut at_m (keeps other.node.kind maker) h.turn done takes ins out

    read_all : (q : Pipe) → Enters w m q → rows_read q ≡ rows_in_order q.got
    read_all q e = ap rows_in_order (ap (λ j. take j q.got) (o.read q e.0 (all_complete q e)) ∙ take-length q.got)

    -- so what it stored is what came
    plain : (kind : PhysicalKind) → ((q : Pipe) → Enters w m q → stored_rows (get_or other.progress.stores q.wire.input []) ≡ rows_read q) → stored_tables other.progress ≡ rows_received w m
    plain kind stores =
        map_two stored_rows (λ (q : Pipe). rows_in_order q.got) other.progress.stores (pipes_in w m) (h.long ∙ sym (inputs_long F w o.known.facts m other at_m))
        (λ j q e ms f. let z = enters F w o.known.facts m j q e in ap stored_rows (sym (get_at other.progress.stores j ms [] f)) ∙ ap (λ i. stored_rows (get_or other.progress.stores i [])) (sym z.1) ∙ stores q z.0 ∙ read_all q z.0)

    pub holds_inputs : HoldsInputs other.node.kind (schemas_for w other) other.progress (rows_received w m)
    holds_inputs = by other.node.kind maker (o.known.facts.sound.0 m other.node (in_shape w m other at_m)).inputs (o.known.facts.sound.0 m other.node (in_shape w m other at_m)).parameters (λ q e. of_stores other.node.kind other.progress q (h.stores q e))
      where
        by : (kind : PhysicalKind) → IsMaker kind → HasInputs kind (length other.node.inputs) → HasFitParameters F kind → ((q : Pipe) → Enters w m q → StoresBy kind other.progress.booked other.progress.stores q.wire.input (rows_read q)) → HoldsInputs kind (schemas_for w other) other.progress (rows_received w m)
        by (in_memory_map step) is many fit stores = plain (in_memory_map step) stores
        by (in_memory_join j) is many fit stores = plain (in_memory_join j) stores
        by (negative_slice back n) is many fit stores =
            let one = one_of (pipes_in w m) (inputs_long F w o.known.facts m other at_m ∙ many) in
            let z = enters F w o.known.facts m 0 one.0 (ap (λ xs. slice_get xs 0) one.1) in
            let long : length (schemas_for w other) ≡ 1 = map_length _ other.node.inputs ∙ many in
            record {
              first = rows_in_order one.0.got;
              rest = [];
              is = ap (map (λ (q : Pipe). rows_in_order q.got)) one.1;
              schema = long;
              some = fit;
              holds = subst (λ rr. HoldsEnd back rr other.progress.booked (get_or other.progress.stores 0 [])) (read_all one.0 z.0) (subst (λ i. HoldsEnd back (rows_read one.0) other.progress.booked (get_or other.progress.stores i [])) z.1 (stores one.0 z.0));
            }
        by kind is many fit stores = absurd (let no : false ≡ true = is in cc)

    pub of_table : (rows : List Row) → IsTable F other.node (schemas_for w other) (rows_received w m) rows → IsMadeOfAll F w m other rows
    of_table rows t = (all_complete, t.0, t.1, t.2, t.3)

-- WHILE PIPES STAY
module _ (F : Functions) (w v : World) (n : ℕ) (node y : Node) (kw : Known F w) (kv : Known F v) (shape : shape_of v ≡ shape_of w) (there : slice_get w.nodes n ≡ Some node) (at : slice_get v.nodes n ≡ Some y) (options : v.options ≡ w.options) (outs : v.outs ≡ w.outs)
    (back : (p : Pipe) → Contains v.pipes p → (x : Pipe) × Contains w.pipes x × (p.wire ≡ x.wire) × (p.is_dropped ≡ x.is_dropped) × (p.got ≡ x.got) × (p.next ≡ x.next) × (IsComplete p → IsComplete x) × (IsComplete x → IsComplete p))
    (st : Stands node y) (same : SameTurn node.progress y.progress) (maker : IsMaker node.node.kind) (h : KeepsMade F w n node) where
  pub made_kept : KeepsMade F v n y
  made_kept =
      record {
        turn = turn_kept w v n node y (λ p c. let x = back p c in (x.0, x.1, x.2, x.3)) options st same (keeps node.node.kind maker) h.turn;
        long = ap length stores ∙ h.long ∙ ap (λ (p : PhysicalNode). length p.inputs) (sym st.node);
        stores = stores_kept w v n node y st.node st.booked stores (λ p e. let x = back p e.0 in (x.0, (x.1, ap (λ (u : Wire). u.receiver) (sym x.2) ∙ e.1), ap (λ (u : Wire). u.input) x.2, λ i. take (x.5 i) (x.4 i))) h.stores;
        made = λ rows e. made_on F w v n node y kw.facts kv.facts there at st.node shape (λ p e. let x = back p e.0 in (x.0, (x.1, ap (λ (u : Wire). u.receiver) (sym x.2) ∙ e.1), ap (λ (u : Wire). u.input) x.2, λ c. (x.7 c, x.4))) rows (h.made rows (sym same.made ∙ e));
        gives =
            gives_keep F w v n (MadeWork w.options node.node node.progress.made) (MadeWork v.options y.node y.progress.made) KeepsNone KeepsNone (HasGivenAll w node) (HasGivenAll v y)
            (λ j x g. (g.0, same.made ∙ g.1, g.2 ∙ (λ i. cut_work (sym options i) (sym st.node i).schema g.0 j))) (λ q none. none) (λ q rs none r. absurd none)
            (λ p j rs l e. let x = back p l.0 in inl (x.0, (x.1, ap (λ (u : Wire). u.sender) (sym x.2) ∙ l.1), ap (λ zs. slice_get zs j) (sym x.4) ∙ e)) (λ q c e. inl (subst (λ qs. Contains qs q) outs c))
            (λ p l c. let x = back p l.0 in inl (x.0, (x.1, ap (λ (u : Wire). u.sender) (sym x.2) ∙ l.1), x.6 c, λ all. (λ i. has_given_all (options i) (st.node i).kind y.progress) ∙ given_same w.options node.node.kind node.progress y.progress (keeps node.node.kind maker) same st.sent ∙ all)) h.gives;
      }
    where
      stores : y.progress.stores ≡ node.progress.stores
      stores = st.stores (no_zip node.node.kind maker)

-- A FILL
module _ (F : Functions) (w : World) (m : ℕ) (other : Node) (progress : Progress) (o : Orderly F w) (shut : w.is_open ≡ false) (t : FillsAt F w m other progress) (kv : Known F (filled w m other progress)) (shape : shape_of (filled w m other progress) ≡ shape_of w) where
  abbrev u : World
  u = filled w m other progress

  stay : (n : ℕ) → InputsStay w u n
  stay n p e = (p, e, refl, λ c. (c, refl))

  filled_here : (maker : IsMaker other.node.kind) → KeepsMade F w m other → KeepsTurn u m (record other { progress = progress }) → slice_get u.nodes m ≡ Some (record other { progress = progress }) → DoneFits w m → KeepsMade F u m (record other { progress = progress })
  filled_here maker h turn at done =
      record {
        turn = turn;
        long = ap length leaves.stores ∙ h.long;
        stores = stores_kept w u m other (record other { progress = progress }) refl leaves.booked leaves.stores (λ p e. (p, e, refl, refl)) h.stores;
        made = λ rows e. made_on F w u m other (record other { progress = progress }) o.known.facts kv.facts t.0 at refl shape (stay m) rows (of_table F w m other o shut t.0 maker h done takes wait.ins wait.out rows (table rows e));
        gives =
            record {
              answers = λ p j rs l e. absurd (none_came F w m other o shut t.0 maker h takes p j rs l e);
              pieces = λ q c e. absurd (none_out F w m other o shut t.0 (keeps other.node.kind maker) h.turn q c);
              completes = λ p l c. absurd (never (has_given_all w.options other.node.kind other.progress) (h.gives.completes p l c) (not_given w.options other.node.kind other.progress maker (h.turn.unsent takes)));
            };
      }
    where
      wait : Waits other.node.kind other.progress (given_at w m)
      wait = waits other.node.kind other.progress (given_at w m) t.1.0

      leaves : LeavesProgress other.progress progress
      leaves = fill_leaves F other.node (schemas_for w other) (given_at w m) other.progress progress t.1

      takes : is_taking other.progress.stage ≡ true
      takes = ap is_taking wait.takes

      stored : (kind : PhysicalKind) → is_user_map kind ≡ true → HoldsInputs kind (schemas_for w other) other.progress (rows_received w m) → stored_tables other.progress ≡ rows_received w m
      stored (in_memory_map step) user held = held
      stored kind user held = absurd (let no : false ≡ true = user in cc)

      table : (rows : List Row) → progress.made ≡ Some rows → IsTable F other.node (schemas_for w other) (rows_received w m) rows
      table rows e =
          let q : Some t.1.1 ≡ Some rows = sym (ap (λ (z : Progress). z.made) t.1.3) ∙ e in
          let is : t.1.1 ≡ rows = cc in
          subst (IsTable F other.node (schemas_for w other) (rows_received w m)) is (of_made F other.node (schemas_for w other) (stored_tables other.progress) (rows_received w m) t.1.1 (stored other.node.kind wait.is_map (holds_inputs F w m other o shut t.0 maker h done takes wait.ins wait.out)) t.1.2)

  pub made_filled : (n : ℕ) (node y : Node) → slice_get w.nodes n ≡ Some node → slice_get u.nodes n ≡ Some y → IsMaker node.node.kind → DoneFits w n → KeepsMade F w n node → KeepsMade F u n y
  made_filled n node y there at maker done h = by (cases_eq n m)
    where
      by : (n ≡ m) ⊎ (n ≢ m) → KeepsMade F u n y
      by (inr apart) =
          let same = same_node w n y node (same_there w.nodes m n other (record other { progress = progress }) y t.0 at apart) there in
          let at_node : slice_get u.nodes n ≡ Some node = at ∙ ap Some same in
          subst (KeepsMade F u n) (sym same)
          (record {
            turn = turn_filled F w m other progress t n node node there at_node h.turn;
            long = h.long;
            stores = stores_kept w u n node node refl refl refl (λ p e. (p, e, refl, refl)) h.stores;
            made = λ rows e. made_on F w u n node node o.known.facts kv.facts there at_node refl shape (stay n) rows (h.made rows e);
            gives = record { answers = h.gives.answers; pieces = h.gives.pieces; completes = h.gives.completes };
          })
      by (inl here) =
          let node_is = same_node w n node other there (ap (slice_get w.nodes) here ∙ t.0) in
          let y_is = new_here w.nodes m n other (record other { progress = progress }) y t.0 at here in
          let new : Node = record other { progress = progress } in
          let turn : KeepsTurn u m new = subst (λ j. KeepsTurn u j new) here (subst (KeepsTurn u n) (sym y_is) (turn_filled F w m other progress t n node y there at h.turn)) in
          let at_new : slice_get u.nodes m ≡ Some new = ap (slice_get u.nodes) (sym here) ∙ at ∙ ap Some (sym y_is) in
          let old : KeepsMade F w m other = subst (λ j. KeepsMade F w j other) here (subst (KeepsMade F w n) node_is h) in
          subst (KeepsMade F u n) y_is (subst (λ j. KeepsMade F u j new) (sym here) (filled_here (subst (λ (z : Node). IsMaker z.node.kind) node_is maker) old turn at_new (subst (DoneFits w) here done)))

-- AN UPDATE
module _ (F : Functions) (w : World) (m : ℕ) (other : Node) (progress : Progress) (o : Orderly F w) (shut : w.is_open ≡ false) (t : TurnsAt F w m other progress) (kv : Known F (turned w m other progress t.0)) (shape : shape_of (turned w m other progress t.0) ≡ shape_of w) where
  abbrev v : World
  v = turned w m other progress t.0

  abbrev a : Sides
  a = answer w m other progress t.0

  abbrev new : Node
  new = record other { progress = progress }

  leaves : LeavesProgress other.progress progress
  leaves = turn_leaves F w.options other.node (schemas_for w other) (given_at w m) other.progress progress t.2

  stays : (n : ℕ) → InputsStay w v n
  stays n p e = let x = turned_from w m other progress t.0 p e.0 in (x.0, (x.1, ap (λ (j : Joins). j.receiver) (sym x.2.joins) ∙ e.1), ap (λ (j : Joins). j.input) x.2.joins, λ c. (complete_turned F w m other progress o shut t.0 x.0 p x.2 c, x.2.got))

  came : (n : ℕ) (p : Pipe) (j : ℕ) (rs : List Row) → Leaves v n p → slice_get p.got j ≡ Some (Some rs) → (x : Pipe) × Leaves w n x × (slice_get x.got j ≡ Some (Some rs))
  came n p j rs l e = let x = turned_from w m other progress t.0 p l.0 in (x.0, (x.1, ap (λ (j : Joins). j.sender) (sym x.2.joins) ∙ l.1), ap (λ zs. slice_get zs j) (sym x.2.got) ∙ e)

  -- THE NODE ITSELF
  module _ (maker : IsMaker other.node.kind) (h : KeepsMade F w m other) (turn : KeepsTurn v m new) (at : slice_get v.nodes m ≡ Some new) (done : DoneFits w m) where
    is : IsKeeper other.node.kind
    is = keeps other.node.kind maker

    kp : Keeper other.node.kind
    kp = keeper other.node.kind is

    -- newly complete: it gave all
    newly_given : (x p : Pipe) → Leaves w m x → Newly F w m other progress o shut t.0 x p → HasGivenAll v new
    newly_given x p l now = by (kept_at (given_at w m).outputs (keeper_answer progress.stage (given_at w m)).outputs x.wire.port x.wire.receive_state x.wire.send_state (state_out F w m other o shut t.0 (keeps other.node.kind maker) h.turn x l) now.sent (ap (λ (z : Sides). is_done (get_or z.outputs x.wire.port x.wire.send_state)) (sym (says F w m other progress o shut t kv shape is h.turn)) ∙ now.said))
      where
        of : HasGivenAll v new ⊎ IsReadOut w m → HasGivenAll v new
        of (inl g) = g
        of (inr r) = absurd (never (is_done x.wire.receive_state) (r x l) now.reader)

        by : (is_done x.wire.receive_state ≡ true) ⊎ (is_done (get_or (keeper_answer progress.stage (given_at w m)).outputs x.wire.port x.wire.send_state) ≡ true) → HasGivenAll v new
        by (inl d) = absurd (never (is_done x.wire.receive_state) d now.reader)
        by (inr said) = of (spent_why F w m other progress o shut t kv shape is h.turn (says_out progress.stage (given_at w m) x.wire.port x.wire.send_state now.sent said))

    completes : (p : Pipe) → Leaves v m p → IsComplete p → ((x : Pipe) × Leaves w m x × IsComplete x) ⊎ HasGivenAll v new
    completes p l c =
        let x = turned_from w m other progress t.0 p l.0 in
        let lx : Leaves w m x.0 = (x.1, ap (λ (j : Joins). j.sender) (sym x.2.joins) ∙ l.1) in
        by x.0 lx (newly F w m other progress o shut t.0 x.0 p x.1 x.2 c)
      where
        by : (x : Pipe) → Leaves w m x → IsComplete x ⊎ Newly F w m other progress o shut t.0 x p → ((z : Pipe) × Leaves w m z × IsComplete z) ⊎ HasGivenAll v new
        by x lx (inl was) = inl (x, lx, was)
        by x lx (inr now) = inr (newly_given x p lx now)

    whole : ((rows : List Row) → progress.made ≡ Some rows → IsMadeOfAll F w m other rows) → Gives F v m (MadeWork w.options other.node progress.made) KeepsNone (HasGivenAll v new) → KeepsMade F v m new
    whole made gives =
        record {
          turn = turn;
          long = ap length leaves.stores ∙ h.long;
          stores = stores_kept w v m other new refl leaves.booked leaves.stores (reads_turned w m other progress t.0 m) h.stores;
          made = λ rows e. made_on F w v m other new o.known.facts kv.facts t.0 at refl shape (stays m) rows (made rows e);
          gives = gives;
        }

    turned_here : KeepsMade F v m new
    turned_here = by t.2
      where
        -- it goes on as it was
        goes_on : (st : Stage) → progress ≡ record other.progress { stage = st } → KeepsMade F v m new
        goes_on st e =
            whole (λ rows q. h.made rows (ap (λ (z : Progress). z.made) (sym e) ∙ q))
            (gives_keep F w v m (MadeWork w.options other.node other.progress.made) (MadeWork w.options other.node progress.made) KeepsNone KeepsNone (HasGivenAll w other) (HasGivenAll v new) (λ j x g. (g.0, ap (λ (z : Progress). z.made) e ∙ g.1, g.2)) (λ q none. none) (λ q rs none r. absurd none)
            (λ p j rs l q. inl (came m p j rs l q)) (λ q c r. inl c) (λ p l c. old p (completes p l c)) h.gives)
          where
            old : (p : Pipe) → ((x : Pipe) × Leaves w m x × IsComplete x) ⊎ HasGivenAll v new → ((x : Pipe) × Leaves w m x × IsComplete x × (HasGivenAll w other → HasGivenAll v new)) ⊎ HasGivenAll v new
            old p (inr g) = inr g
            old p (inl (x, l, c)) = inl (x, l, c, λ g. ap (λ (z : Progress). has_given_all w.options other.node.kind z) e ∙ kp.given w.options other.progress st ∙ g)

        -- it starts to give
        begins : (c : Progress) → starts_giving w.options other.node.kind other.progress (given_at w m) ≡ true → Makes F w.options other.node other.node.kind (schemas_for w other) other.progress c → progress ≡ record c { stage = giving } → KeepsMade F v m new
        begins c starting makes e =
            whole made
            (record {
              answers = λ p j rs l q. let x = came m p j rs l q in absurd (none_came F w m other o shut t.0 maker h why.2 x.0 j rs x.1 x.2);
              pieces = λ q d r. absurd (none_out F w m other o shut t.0 (keeps other.node.kind maker) h.turn q d);
              completes = λ p l d. old (completes p l d);
            })
          where
            both : (not (is_giving other.progress.stage) ≡ true) × (is_giving (stage_after w.options other.node.kind other.progress (given_at w m)) ≡ true)
            both = both_true (not (is_giving other.progress.stage)) (is_giving (stage_after w.options other.node.kind other.progress (given_at w m))) starting

            why : (is_done (first_port (given_at w m).outputs) ≡ false) × ((all_done (given_at w m).inputs && is_filled other.node.kind other.progress) ≡ true) × (is_taking other.progress.stage ≡ true)
            why = starts other.progress.stage (is_done (first_port (given_at w m).outputs)) (all_done (given_at w m).inputs && is_filled other.node.kind other.progress) (has_given_all w.options other.node.kind other.progress) both.0 (ap is_giving (sym (kp.stage w.options other.progress (given_at w m))) ∙ both.1)

            ins : all_done (given_at w m).inputs ≡ true
            ins = (both_true (all_done (given_at w m).inputs) (is_filled other.node.kind other.progress) why.1).0

            held : HoldsInputs other.node.kind (schemas_for w other) other.progress (rows_received w m)
            held = holds_inputs F w m other o shut t.0 maker h done why.2 ins why.0

            made : (rows : List Row) → progress.made ≡ Some rows → IsMadeOfAll F w m other rows
            made rows q = of (makes_one F w.options other.node other.node.kind (schemas_for w other) other.progress c (rows_received w m) rows maker held makes (ap (λ (z : Progress). z.made) (sym e) ∙ q))
              where
                of : (other.progress.made ≡ Some rows) ⊎ IsTable F other.node (schemas_for w other) (rows_received w m) rows → IsMadeOfAll F w m other rows
                of (inl was) = h.made rows was
                of (inr table) = of_table F w m other o shut t.0 maker h done why.2 ins why.0 rows table

            old : ((x : Pipe) × Leaves w m x × IsComplete x) ⊎ HasGivenAll v new → HasGivenAll v new
            old (inr g) = g
            old (inl (x, l, d)) = absurd (never (has_given_all w.options other.node.kind other.progress) (h.gives.completes x l d) (not_given w.options other.node.kind other.progress maker (h.turn.unsent why.2)))

        by : Turns F w.options other.node (schemas_for w other) (given_at w m) other.progress progress → KeepsMade F v m new
        by (inl s) = goes_on (stage_after w.options other.node.kind other.progress (given_at w m)) s.1
        by (inr s) = begins s.1 s.0 s.2 s.3

  -- ANY NODE
  pub made_turned : (n : ℕ) (node y : Node) → slice_get w.nodes n ≡ Some node → slice_get v.nodes n ≡ Some y → IsMaker node.node.kind → DoneFits w n → KeepsMade F w n node → KeepsMade F v n y
  made_turned n node y there at maker done h = by (cases_eq n m)
    where
      by : (n ≡ m) ⊎ (n ≢ m) → KeepsMade F v n y
      by (inr apart) =
          let same = same_node w n y node (same_there w.nodes m n other new y t.0 at apart) there in
          let at_node : slice_get v.nodes n ≡ Some node = at ∙ ap Some same in
          subst (KeepsMade F v n) (sym same)
          (record {
            turn = turn_turned F w m other progress o shut t kv shape n node node there at_node (keeps node.node.kind maker) h.turn;
            long = h.long;
            stores = stores_kept w v n node node refl refl refl (reads_turned w m other progress t.0 n) h.stores;
            made = λ rows e. made_on F w v n node node o.known.facts kv.facts there at_node refl shape (stays n) rows (h.made rows e);
            gives =
                gives_keep F w v n (MadeWork w.options node.node node.progress.made) (MadeWork w.options node.node node.progress.made) KeepsNone KeepsNone (HasGivenAll w node) (HasGivenAll v node) (λ j x g. g) (λ q none. none) (λ q rs none r. absurd none)
                (λ p j rs l q. inl (came n p j rs l q)) (λ q c r. inl c) (λ p l c. let x = turned_from w m other progress t.0 p l.0 in old x.0 (x.1, ap (λ (j : Joins). j.sender) (sym x.2.joins) ∙ l.1) p (newly F w m other progress o shut t.0 x.0 p x.1 x.2 c)) h.gives;
          })
        where
          old : (x : Pipe) → Leaves w n x → (p : Pipe) → IsComplete x ⊎ Newly F w m other progress o shut t.0 x p → ((z : Pipe) × Leaves w n z × IsComplete z × (HasGivenAll w node → HasGivenAll v node)) ⊎ HasGivenAll v node
          old x l p (inl was) = inl (x, l, was, λ g. g)
          old x l p (inr now) = absurd (apart (sym l.1 ∙ now.from))
      by (inl here) =
          let node_is = same_node w n node other there (ap (slice_get w.nodes) here ∙ t.0) in
          let y_is = new_here w.nodes m n other new y t.0 at here in
          let turn : KeepsTurn v m new = subst (λ j. KeepsTurn v j new) here (subst (KeepsTurn v n) (sym y_is) (turn_turned F w m other progress o shut t kv shape n node y there at (keeps node.node.kind maker) h.turn)) in
          let at_new : slice_get v.nodes m ≡ Some new = ap (slice_get v.nodes) (sym here) ∙ at ∙ ap Some (sym y_is) in
          let old : KeepsMade F w m other = subst (λ j. KeepsMade F w j other) here (subst (KeepsMade F w n) node_is h) in
          subst (KeepsMade F v n) y_is (subst (λ j. KeepsMade F v j new) (sym here) (turned_here (subst (λ (z : Node). IsMaker z.node.kind) node_is maker) old turn at_new (subst (DoneFits w) here done)))
