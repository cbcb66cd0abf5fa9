-- What is kept of a group-by, along each step of a phase: it keeps its morsels, and gives the rows of one list of keys after the other.
use Rattle.std.proofs.Common.{◌≡◌, ℕ, ◌<◌, ◌≤◌, ◌⊎◌, Bool, true, false, cond, List, [], length, take, Some, None, refl, sym, ap, subst, ◌∙◌, inl, inr, arith}
use Rattle.std.specs.Prelude.{Contains, get_or, nat_eq, nat_lt, slice_get}
use Rattle.std.proofs.Math.Seq.{take-length}
use Rattle.std.proofs.lemmas.Bool.Decides.{nat_tests}
use Rattle.std.proofs.lemmas.Option.{slice_get_within}
use Rattle.ps_frame.specs.Functions.{Functions}
use Rattle.ps_frame.specs.Tables.{Fields, Row}
use Rattle.ps_meaning.specs.Shape.{PhysicalKind, PhysicalNode, group_by_node}
use Rattle.ps_options.specs.declared.options.Options.{Options}
use Rattle.ps_ports.specs.Ports.{is_done}
use Rattle.ps_ports.specs.Wires.{Wire}
use Rattle.ps_turns.specs.Claims.{Claim, Next, all_taken, claim_by, of_own, of_parts}
use Rattle.ps_turns.specs.Heads.{Head}
use Rattle.ps_turns.specs.Keys.{IsSplit}
use Rattle.ps_turns.specs.Progress.{Progress, Stage, giving, is_giving, is_spent, is_taking, spent, taking}
use Rattle.ps_turns.specs.Results.{IsResult, IsResultOf}
use Rattle.ps_turns.specs.Tables.{whole_tables}
use Rattle.ps_turns.specs.Tasks.{Piece, gives_part, partial}
use Rattle.ps_world.specs.Claims.{claim_at, inputs_in_phase, next_morsel}
use Rattle.ps_world.specs.Facts.{keeps_one, slots_of}
use Rattle.ps_world.specs.World.{Node, Pipe, World, heads_of, inputs_done, running, schemas_for, shape_of}
use Rattle.world_claims.specs.Numbering.{Known}
use Rattle.world_families.proofs.Members.{nothing_is}
use Rattle.world_families.specs.Keepers.{IsKeptOf, KeepsMorsels, SplitsAll, slots_at}
use Rattle.world_families.specs.Work.{AllComplete, Gives, IsComplete, Leaves, Work, asked_by, rows_received, work_of}
use Rattle.family_keeps.proofs.Unions.{same_schemas}
use Rattle.family_pipes.proofs.Outputs.{MayCome, Onto, gives_keep, was_complete}
use Rattle.family_pipes.proofs.SourceSteps.{HasClaim, IsClaimed, StepOf}
use Rattle.orderly_worlds.proofs.Goes.{Goes, GoesOn, IsTakenBy, IsTakenOf, NoneTaken}
use Rattle.orderly_worlds.proofs.Orderly.{Orderly, complete_rests}
use Rattle.orderly_worlds.proofs.ReadRows.{came_to, take_fills}
use Rattle.orderly_worlds.proofs.Seen.{TakenElsewhere}
use Rattle.node_keeps.proofs.SameTurn.{SameTurn}
use Rattle.node_keeps.proofs.Sees.{Sees, claims, pulls_in, stands_still}
use Rattle.node_keeps.proofs.Slots.{SeesSlots, slot_filled, slots_claimed, slots_stay}
use Rattle.keeper_laws.proofs.Says.{IsKeeper}
use Rattle.keeper_laws.proofs.Turn.{IsReadOut, KeepsTurn, turn_step}
use Rattle.keeper_laws.proofs.Made.{InputsStay, complete_on, received_same}
use Rattle.group_run_laws.proofs.Morsels.{ClaimsSlot, IsSlotted, claimed_kept, claims_slot, gives_rows, keeps_next, kept_on, morsels_claimed, morsels_filled, morsels_stay, source}
use Rattle.group_run_laws.proofs.Whole.{WholeSlots, has_all, silent}

abbrev pub is_group : PhysicalKind → Bool
is_group (group_by_node keys aggregates) = true
is_group _ = false

abbrev pub IsGroup : PhysicalKind → Type 0
IsGroup kind = is_group kind ≡ true

pub keeps : (kind : PhysicalKind) → IsGroup kind → IsKeeper kind
keeps (group_by_node keys aggregates) r = refl
keeps kind r = absurd (let no : false ≡ true = r in cc)

pub slotted : (kind : PhysicalKind) → IsGroup kind → IsSlotted kind
slotted (group_by_node keys aggregates) r = refl
slotted kind r = absurd (let no : false ≡ true = r in cc)

-- the part of a list of keys, over all that is kept
abbrev pub PartWork : World → ℕ → Node → ℕ → Work → Type 0
PartWork w n node k x = WholeSlots w n node × SplitsAll w n node × (k < length node.progress.lists) × (x ≡ record { task = gives_part node.node (get_or node.progress.lists k []); schemas = schemas_for w node; tables = rows_received w n })

abbrev pub GaveParts : World → ℕ → Node → Type 0
GaveParts w n node = WholeSlots w n node × SplitsAll w n node × (length node.progress.lists ≤ node.progress.sent)

pub record KeepsGroups (F : Functions) (w : World) (n : ℕ) (node : Node) : Type 0 where
  pub turn : KeepsTurn w n node
  pub morsels : KeepsMorsels F w n node 0
  pub whole : is_giving node.progress.stage ≡ true → WholeSlots w n node × SplitsAll w n node
  pub after : is_spent node.progress.stage ≡ true → (WholeSlots w n node × SplitsAll w n node) ⊎ IsReadOut w n
  -- while it takes its output isn't complete
  pub open_out : is_taking node.progress.stage ≡ true → (p : Pipe) → Leaves w n p → IsComplete p → ⊥
  pub gives : Gives F w n (PartWork w n node) (IsKeptOf w n node 0) (GaveParts w n node)

-- THE CLAIM OF A PART
pub record ClaimsPart (p : PhysicalNode) (ss : List Fields) (a : Progress) (c : Claim) : Type 0 where
  pub more : a.sent < length a.lists
  pub gives : c.gives ≡ a.sent
  pub work : asked_by c ≡ record { task = gives_part p (get_or a.lists a.sent []); schemas = ss; tables = all_taken a }

of_test : (o : Options) (p : PhysicalNode) (ss : List Fields) (a : Progress) (c : Claim) (b e : Bool) → nat_lt a.sent (length a.lists) ≡ e → cond b (cond e (Some (of_own o p ss a (gives_part p (get_or a.lists a.sent [])) ss (all_taken a))) None) None ≡ Some c → ClaimsPart p ss a c
of_test o p ss a c true true t q =
    let x = of_own o p ss a (gives_part p (get_or a.lists a.sent [])) ss (all_taken a) in
    let is : x ≡ c = (let r : Some x ≡ Some c = q in cc) in
    let less : a.sent < length a.lists = grind (arith, t, nat_tests) in
    subst (ClaimsPart p ss a) is (record { more = less; gives = refl; work = refl })
of_test o p ss a c true false t q = absurd (nothing_is c q)
of_test o p ss a c false e t q = absurd (nothing_is c q)

claims_part : (o : Options) (p : PhysicalNode) (ss : List Fields) (a : Progress) (hs : List Head) (ds : List Bool) (i : ℕ) (next : Next) (c : Claim) (kind : PhysicalKind) → IsGroup kind → is_giving a.stage ≡ true → claim_by o p ss kind a hs ds i next ≡ Some c → ClaimsPart p ss a c
claims_part o p ss a hs ds i next c (group_by_node keys aggregates) r g q = by a.stage g q
  where
    by : (st : Stage) → is_giving st ≡ true → of_parts o p ss st i a next ≡ Some c → ClaimsPart p ss a c
    by giving g q = of_test o p ss a c (nat_eq i 0) (nat_lt a.sent (length a.lists)) refl q
    by taking g q = absurd (let no : false ≡ true = g in cc)
    by spent g q = absurd (let no : false ≡ true = g in cc)
claims_part o p ss a hs ds i next c kind r g q = absurd (let no : false ≡ true = r in cc)

-- LISTS STAY, AND SO DOES THE SPLIT
module _ (F : Functions) (w v : World) (n : ℕ) (node y : Node) (kw : Known F w) (kv : Known F v) (there : slice_get w.nodes n ≡ Some node) (at : slice_get v.nodes n ≡ Some y) (node_is : y.node ≡ node.node) (shape : shape_of v ≡ shape_of w) (options : v.options ≡ w.options) (lists : y.progress.lists ≡ node.progress.lists) (stay : InputsStay w v n) where
  pub complete_too : AllComplete w n → AllComplete v n
  complete_too all = complete_on F w v n node y kw.facts kv.facts there at node_is shape stay all

  pub received_too : AllComplete w n → rows_received v n ≡ rows_received w n
  received_too all = received_same F w v n node y kw.facts kv.facts there at node_is shape stay all

  pub splits_on : SplitsAll w n node → SplitsAll v n y
  splits_on (all, split) = (
    complete_too all,
    subst (λ p. IsSplit p (whole_tables (schemas_for v y) (rows_received v n)) v.options.partitions y.progress.lists) (sym node_is)
        (subst (λ ss. IsSplit node.node (whole_tables ss (rows_received v n)) v.options.partitions y.progress.lists) (sym (same_schemas w v node y shape node_is))
        (subst (λ rr. IsSplit node.node (whole_tables (schemas_for w node) rr) v.options.partitions y.progress.lists) (sym (received_too all))
        (subst (λ (o : Options). IsSplit node.node (whole_tables (schemas_for w node) (rows_received w n)) o.partitions y.progress.lists) (sym options)
        (subst (λ ls. IsSplit node.node (whole_tables (schemas_for w node) (rows_received w n)) w.options.partitions ls) (sym lists) split)))),
  )

  pub part_on : (WholeSlots w n node → WholeSlots v n y) → (k : ℕ) (x : Work) → PartWork w n node k x → PartWork v n y k x
  part_on slots k x (whole, split, less, work) = (
    slots whole,
    splits_on split,
    subst (λ ls. k < length ls) (sym lists) less,
    work ∙ (λ i. let a : Work = record { task = gives_part (sym node_is i) (get_or (sym lists i) k []); schemas = sym (same_schemas w v node y shape node_is) i; tables = sym (received_too split.0) i } in a),
  )

-- THE STEPS
module _ (F : Functions) (w v : World) (n : ℕ) (node y : Node) (o : Orderly F w) (kv : Known F v) (begun : w.is_open ≡ true) (shape : shape_of v ≡ shape_of w) (there : slice_get w.nodes n ≡ Some node) (at : slice_get v.nodes n ≡ Some y) (is : IsGroup node.node.kind) (same : SameTurn node.progress y.progress) (slots : SeesSlots F w v n node y)
    (run : w.ending ≡ running) (h : KeepsGroups F w n node) where
  sl : IsSlotted node.node.kind
  sl = slotted node.node.kind is

  claim_is : (i : ℕ) (c : Claim) → claim_at w n i node ≡ Some c → ClaimsSlot node.node (schemas_for w node) node.progress i (next_morsel (inputs_in_phase w n i)) c
  claim_is i c e = claims_slot w.options node.node (schemas_for w node) node.progress (heads_of w n node) (inputs_done w n) i (next_morsel (inputs_in_phase w n i)) c node.node.kind sl e

  part_is : (i : ℕ) (c : Claim) → is_giving node.progress.stage ≡ true → claim_at w n i node ≡ Some c → ClaimsPart node.node (schemas_for w node) node.progress c
  part_is i c g e = claims_part w.options node.node (schemas_for w node) node.progress (heads_of w n node) (inputs_done w n) i (next_morsel (inputs_in_phase w n i)) c node.node.kind is g e

  kept_piece : (q : Piece) (size : ℕ) → Contains w.outs q → q.node ≡ n → IsResult F q (partial size) → IsKeptOf w n node 0 q
  kept_piece q size c e r = by (h.gives.pieces q c e)
    where
      by : PartWork w n node q.gives (work_of q) ⊎ IsKeptOf w n node 0 q → IsKeptOf w n node 0 q
      by (inr k) = k
      by (inl (whole, split, less, work)) = absurd (subst (λ (x : Work). IsResultOf F x.task q.input (whole_tables x.schemas x.tables) x.tables (partial size)) work r)

  module _ (Takes Musts : Pipe → Type 0) (some : (x : Pipe) → Takes x → (rs : List Row) × (slice_get x.got x.next ≡ Some (Some rs))) (g : GoesOn Takes Musts w v) (s : StepOf F w v n node) where
    node_is : y.node ≡ node.node
    node_is = (s.sent y at).0

    inputs_stay : InputsStay w v n
    inputs_stay q e = let x = g q e.0 in (x.0, (x.1, ap (λ (u : Wire). u.receiver) (sym x.2.wire) ∙ e.1), ap (λ (u : Wire). u.input) x.2.wire, λ c. rests x.0 x.1 x.2 c)
      where
        rests : (x : Pipe) → Contains w.pipes x → Goes Takes Musts x q → IsComplete x → IsComplete q × (q.got ≡ x.got)
        rests x cx go c =
            let r = complete_rests F w Takes Musts o begun some x q cx go c in
            let all = o.read x cx c in
            (r.is_complete, sym (take-length q.got) ∙ ap (λ k. take k q.got) (r.longer ∙ sym all) ∙ take_fills x.got q.got x.next go.got (came_to F w o.known x cx) ∙ ap (λ k. take k x.got) all ∙ take-length x.got)

    -- what is kept of complete inputs stays
    whole_on : WholeSlots w n node → WholeSlots v n y
    whole_on old = (complete_too F w v n node y o.known kv there at node_is shape s.options same.lists inputs_stay old.0, λ q e. let x = inputs_stay q e in taken_same slots ∙ old.1 x.0 x.1 ∙ sym (x.3 (old.0 x.0 x.1)).1)
      where
        taken_same : SeesSlots F w v n node y → slots_at y 0 ≡ slots_at node 0
        taken_same (slots_stay taken stay) = ap (λ t. get_or t 0 []) taken
        taken_same (slot_filled q size c e r taken stay) =
            let k = kept_piece q size c e r in
            let here : slice_get w.nodes q.node ≡ Some node = ap (slice_get w.nodes) e ∙ there in
            let waited : slice_get (slots_at node 0) q.number ≡ Some None = sym (λ i. slice_get (slots_of (here i) (k.0 i)) q.number) ∙ (o.known.facts.expected q c).0 (ap (λ (x : Work). keeps_one x.task) k.4.2) in
            let both : Some None ≡ Some (Some k.4.0) = sym waited ∙ ap (λ xs. slice_get xs q.number) (old.1 k.1 k.2) ∙ k.4.1 in
            absurd (nothing_is k.4.0 (let no : None ≡ Some k.4.0 = cc in no))
        taken_same (slots_claimed i worker c e taken new more) = of (claim_is i c e)
          where
            of : ClaimsSlot node.node (schemas_for w node) node.progress i (next_morsel (inputs_in_phase w n i)) c → slots_at y 0 ≡ slots_at node 0
            of (gives_rows gives slot) = ap (λ t. get_or t 0 []) (taken ∙ slot)
            of (keeps_next t m next number task schemas tables slot) =
                let x = source F w v n node y o.known kv shape there at node_is sl Takes Musts g i worker c m next number task schemas tables in
                let within = slice_get_within x.0.got x.0.next (Some m.1) x.4 in
                let read = o.read x.0 x.1.0 (old.0 x.0 x.1) in
                absurd (omega (arith, within, read))

    work_on : (k : ℕ) (x : Work) → PartWork w n node k x → PartWork v n y k x
    work_on k x h = part_on F w v n node y o.known kv there at node_is shape s.options same.lists inputs_stay whole_on k x h

    split_too : SplitsAll w n node → SplitsAll v n y
    split_too x = splits_on F w v n node y o.known kv there at node_is shape s.options same.lists inputs_stay x

    morsels : KeepsMorsels F v n y 0
    morsels = by slots
      where
        by : SeesSlots F w v n node y → KeepsMorsels F v n y 0
        by (slots_stay taken stay) = morsels_stay F w v n node y o.known kv shape there at node_is sl Takes Musts g run taken stay h.morsels
        by (slot_filled q size c e r taken stay) = morsels_filled F w v n node y o.known kv shape there at node_is sl Takes Musts g run q size c e (kept_piece q size c e r) r taken stay h.morsels
        by (slots_claimed i worker c e taken new more) = of (claim_is i c e)
          where
            of : ClaimsSlot node.node (schemas_for w node) node.progress i (next_morsel (inputs_in_phase w n i)) c → KeepsMorsels F v n y 0
            of (keeps_next t m next number task schemas tables slot) = morsels_claimed F w v n node y o.known kv shape there at node_is sl Takes Musts g i worker c m next number task schemas tables run (taken ∙ slot) new more h.morsels
            of (gives_rows gives slot) = morsels_stay F w v n node y o.known kv shape there at node_is sl Takes Musts g run (taken ∙ slot) (λ on x d k t. more x d) h.morsels

    gives : Gives F v n (PartWork v n y) (IsKeptOf v n y 0) (GaveParts v n y)
    gives =
        gives_keep F w v n (PartWork w n node) (PartWork v n y) (IsKeptOf w n node 0) (IsKeptOf v n y 0) (GaveParts w n node) (GaveParts v n y) work_on (λ q k. kept_on F w v n node y o.known kv shape there at node_is sl Takes Musts g q k) (λ q rs k r. silent F w n node q rs k r)
        (λ p k rs l e. came p k rs (s.outputs p l) e) (λ q c e. piece q (s.pieces q c e)) (λ p l c. inl (let x = s.outputs p l in let d = was_complete x.0 p x.2 c in (x.0, x.1, d, λ a. (whole_on a.0, split_too a.1, all_on x.0 x.1 d (s.sent y at).1 a.2)))) h.gives
      where
        came : (p : Pipe) (k : ℕ) (rs : List Row) → (x : Pipe) × Leaves w n x × Onto (MayCome F w n) x p → slice_get p.got k ≡ Some (Some rs) → ((x : Pipe) × Leaves w n x × (slice_get x.got k ≡ Some (Some rs))) ⊎ MayCome F w n k rs
        came p k rs (x, l, on) e = by (on.got k rs e)
          where
            by : (slice_get x.got k ≡ Some (Some rs)) ⊎ MayCome F w n k rs → ((z : Pipe) × Leaves w n z × (slice_get z.got k ≡ Some (Some rs))) ⊎ MayCome F w n k rs
            by (inl old) = inl (x, l, old)
            by (inr new) = inr new

        piece : (q : Piece) → Contains w.outs q ⊎ IsClaimed w n node q → Contains w.outs q ⊎ PartWork v n y q.gives (work_of q) ⊎ IsKeptOf v n y 0 q
        piece q (inl old) = inl old
        piece q (inr (i, worker, c, claim, new)) = of (claim_is i c claim)
          where
            of : ClaimsSlot node.node (schemas_for w node) node.progress i (next_morsel (inputs_in_phase w n i)) c → Contains w.outs q ⊎ PartWork v n y q.gives (work_of q) ⊎ IsKeptOf v n y 0 q
            of (keeps_next t m next number task schemas tables slot) = inr (inr (subst (IsKeptOf v n y 0) new (claimed_kept F w v n node y o.known kv shape there at node_is sl Takes Musts g i worker c m next number task schemas tables)))
            of (gives_rows g slot) =
                let r = part_is i c g claim in
                let all = h.whole g in
                let k = r.gives in
                let less = r.more in
                let x : PartWork w n node c.gives (asked_by c) = (
                  all.0,
                  all.1,
                  omega (arith, k, less),
                  r.work ∙ (λ i. let a : Work = record { task = gives_part node.node (get_or node.progress.lists (sym r.gives i) []); schemas = schemas_for w node; tables = has_all F w n node o there sl all.0 i } in a),
                ) in
                inr (inl (subst (λ (z : Piece). PartWork v n y z.gives (work_of z)) new (work_on c.gives (asked_by c) x)))

        all_on : (x : Pipe) → Leaves w n x → IsComplete x → (y.progress.sent ≡ node.progress.sent) ⊎ HasClaim w n node → length node.progress.lists ≤ node.progress.sent → length y.progress.lists ≤ y.progress.sent
        all_on x l d (inl sent) all = let ls = ap length same.lists in omega (arith, sent, ls, all)
        all_on x l d (inr (i, c, claim)) all = of (claim_is i c claim)
          where
            of : ClaimsSlot node.node (schemas_for w node) node.progress i (next_morsel (inputs_in_phase w n i)) c → length y.progress.lists ≤ y.progress.sent
            of (keeps_next t m next number task schemas tables slot) = absurd (h.open_out t x l d)
            of (gives_rows g slot) = let less = (part_is i c g claim).more in absurd (omega (arith, less, all))

    keeps_on : Sees F w v n node → KeepsGroups F v n y
    keeps_on seen =
        record {
          turn = turn_step F w v n node y o.known there at (keeps node.node.kind is) same h.turn seen;
          morsels = morsels;
          whole = λ g. let old = h.whole (ap is_giving (sym same.stage) ∙ g) in (whole_on old.0, split_too old.1);
          after = λ t. after_on (h.after (ap is_spent (sym same.stage) ∙ t));
          open_out = λ t p l c. let x = s.outputs p l in h.open_out (ap is_taking (sym same.stage) ∙ t) x.0 x.1 (was_complete x.0 p x.2 c);
          gives = gives;
        }
      where
        after_on : (WholeSlots w n node × SplitsAll w n node) ⊎ IsReadOut w n → (WholeSlots v n y × SplitsAll v n y) ⊎ IsReadOut v n
        after_on (inl old) = inl (whole_on old.0, split_too old.1)
        after_on (inr r) = inr (λ p l. let x = g p l.0 in ap (λ (u : Wire). is_done u.receive_state) x.2.wire ∙ r x.0 (x.1, ap (λ (u : Wire). u.sender) (sym x.2.wire) ∙ l.1))

  pub group_step : Sees F w v n node → KeepsGroups F v n y
  group_step seen = by seen
    where
      by : Sees F w v n node → KeepsGroups F v n y
      by (stands_still g s st stores outs) = keeps_on (TakenElsewhere n) NoneTaken (λ x t. t.1) g s seen
      by (claims i c e cut on g s st stores next outs) = keeps_on (IsTakenOf n i) (IsTakenBy n i c.takes_morsel) (λ x t. t.1) g s seen
      by (pulls_in i p rs pulling cut on cp input m g s st stores outs) = keeps_on (IsTakenOf n i) (IsTakenBy n i true) (λ x t. t.1) g s seen
