-- What is kept of a reduce, along each step of a phase: it keeps its morsels, and gives one row of all that came.
use Rattle.std.proofs.Common.{◌≡◌, ℕ, ◌<◌, ◌⊎◌, Bool, true, false, cond, List, [], take, Some, None, refl, sym, ap, subst, ◌∙◌, inl, inr, arith}
use Rattle.std.specs.Prelude.{Contains, get_or, nat_eq, slice_get}
use Rattle.std.proofs.Math.Seq.{take-length}
use Rattle.ps_frame.specs.Functions.{Functions}
use Rattle.ps_frame.specs.Tables.{Fields, Row}
use Rattle.ps_meaning.specs.Shape.{PhysicalKind, PhysicalNode, reduce, negative_slice}
use Rattle.ps_options.specs.declared.options.Options.{Options}
use Rattle.ps_ports.specs.Wires.{Wire}
use Rattle.ps_turns.specs.Claims.{Claim, Next, all_taken, claim_by, of_own, of_reduce}
use Rattle.ps_turns.specs.Heads.{Head}
use Rattle.ps_turns.specs.Progress.{Progress, Stage, giving, is_giving, is_taking, spent, taking, is_multiplexer}
use Rattle.ps_turns.specs.Results.{IsResult, IsResultOf}
use Rattle.ps_turns.specs.Tables.{whole_tables}
use Rattle.ps_turns.specs.Tasks.{Piece, computes, partial}
use Rattle.ps_world.specs.Claims.{claim_at, inputs_in_phase, next_morsel}
use Rattle.ps_world.specs.World.{Node, Pipe, World, heads_of, inputs_done, running, schemas_for, shape_of}
use Rattle.world_claims.specs.Numbering.{Known}
use Rattle.world_families.proofs.Members.{nothing_is}
use Rattle.world_families.specs.Keepers.{IsKeptOf, KeepsMorsels, slots_at}
use Rattle.world_families.specs.Work.{AllComplete, Gives, IsComplete, Leaves, Work, asked_by, rows_received, work_of}
use Rattle.world_laws.proofs.PassingPorts.{same_number}
use Rattle.family_keeps.proofs.Unions.{same_schemas}
use Rattle.family_pipes.proofs.Outputs.{MayCome, Onto, gives_keep, was_complete}
use Rattle.family_pipes.proofs.SourceSteps.{HasClaim, IsClaimed, StepOf}
use Rattle.orderly_worlds.proofs.Goes.{Goes, GoesOn, IsTakenBy, IsTakenOf, NoneTaken}
use Rattle.orderly_worlds.proofs.Orderly.{Orderly, complete_rests}
use Rattle.orderly_worlds.proofs.ReadRows.{came_to, take_fills}
use Rattle.orderly_worlds.proofs.Seen.{TakenElsewhere}
use Rattle.orderly_worlds.proofs.Stands.{stored_progress}
use Rattle.node_keeps.proofs.SameTurn.{SameTurn}
use Rattle.node_keeps.proofs.Sees.{Sees, claims, pulls_in, stands_still}
use Rattle.node_keeps.proofs.Slots.{SeesSlots, slot_filled, slots_claimed, slots_stay}
use Rattle.keeper_laws.proofs.Says.{IsKeeper, claims_while}
use Rattle.keeper_laws.proofs.Turn.{KeepsTurn, turn_step}
use Rattle.keeper_laws.proofs.Made.{InputsStay, complete_on, received_same}
use Rattle.group_run_laws.proofs.Whole.{WholeSlots, has_all, silent}
use Rattle.group_run_laws.proofs.Morsels.{ClaimsSlot, IsSlotted, claimed_kept, claims_slot, gives_rows, keeps_next, kept_on, morsels_claimed, morsels_filled, morsels_stay}
use Rattle.ps_world.specs.Facts.{slots_of, keeps_one}
use Rattle.ps_turns.specs.Pulls.{after_store}

abbrev pub is_reduce : PhysicalKind → Bool
is_reduce (reduce es) = true
is_reduce _ = false

abbrev pub IsReduce : PhysicalKind → Type 0
IsReduce kind = is_reduce kind ≡ true

pub keeps : (kind : PhysicalKind) → IsReduce kind → IsKeeper kind
keeps (reduce es) r = refl
keeps kind r = absurd (let no : false ≡ true = r in cc)

pub slotted : (kind : PhysicalKind) → IsReduce kind → IsSlotted kind
slotted (reduce es) r = refl
slotted kind r = absurd (let no : false ≡ true = r in cc)

abbrev pub RowWork : World → ℕ → Node → ℕ → Work → Type 0
RowWork w n node k x = (k ≡ 0) × AllComplete w n × (x ≡ record { task = computes node.node; schemas = schemas_for w node; tables = rows_received w n })

pub record KeepsReduce (F : Functions) (w : World) (n : ℕ) (node : Node) : Type 0 where
  pub turn : KeepsTurn w n node
  pub morsels : KeepsMorsels F w n node 0
  pub whole : is_giving node.progress.stage ≡ true → WholeSlots w n node
  pub sent_all : 0 < node.progress.sent → AllComplete w n
  pub gives : Gives F w n (RowWork w n node) (IsKeptOf w n node 0) (AllComplete w n × (0 < node.progress.sent))

-- THE CLAIM OF ITS ROW
pub record ClaimsRow (p : PhysicalNode) (ss : List Fields) (a : Progress) (c : Claim) : Type 0 where
  pub none : a.sent ≡ 0
  pub gives : c.gives ≡ 0
  pub work : asked_by c ≡ record { task = computes p; schemas = ss; tables = all_taken a }

pub both_giving : (st : Stage) → is_taking st ≡ true → is_giving st ≡ true → ⊥
both_giving taking t g = let no : false ≡ true = g in cc
both_giving giving t g = let no : false ≡ true = t in cc
both_giving spent t g = let no : false ≡ true = t in cc

of_test : (o : Options) (p : PhysicalNode) (ss : List Fields) (a : Progress) (i : ℕ) (c : Claim) (b e : Bool) → nat_eq a.sent 0 ≡ e → cond b (cond e (Some (of_own o p ss a (computes p) ss (all_taken a))) None) None ≡ Some c → ClaimsRow p ss a c
of_test o p ss a i c true true t q =
    let zero_sent = same_number a.sent 0 t in
    let x = of_own o p ss a (computes p) ss (all_taken a) in
    let is : x ≡ c = (let r : Some x ≡ Some c = q in cc) in
    subst (ClaimsRow p ss a) is (record { none = zero_sent; gives = zero_sent; work = refl })
of_test o p ss a i c true false t q = absurd (nothing_is c q)
of_test o p ss a i c false e t q = absurd (nothing_is c q)

claims_row : (o : Options) (p : PhysicalNode) (ss : List Fields) (a : Progress) (hs : List Head) (ds : List Bool) (i : ℕ) (next : Next) (c : Claim) (kind : PhysicalKind) → IsReduce kind → is_giving a.stage ≡ true → claim_by o p ss kind a hs ds i next ≡ Some c → ClaimsRow p ss a c
claims_row o p ss a hs ds i next c (reduce es) r g q = by a.stage g q
  where
    by : (st : Stage) → is_giving st ≡ true → of_reduce o p ss st i a next ≡ Some c → ClaimsRow p ss a c
    by giving g q = of_test o p ss a i c (nat_eq i 0) (nat_eq a.sent 0) refl q
    by taking g q = absurd (let no : false ≡ true = g in cc)
    by spent g q = absurd (let no : false ≡ true = g in cc)
claims_row o p ss a hs ds i next c kind r g q = absurd (let no : false ≡ true = r in cc)

-- THE STEPS
module _ (F : Functions) (w v : World) (n : ℕ) (node y : Node) (o : Orderly F w) (kv : Known F v) (begun : w.is_open ≡ true) (shape : shape_of v ≡ shape_of w) (there : slice_get w.nodes n ≡ Some node) (at : slice_get v.nodes n ≡ Some y) (is : IsReduce node.node.kind) (same : SameTurn node.progress y.progress) (slots : SeesSlots F w v n node y)
    (run : w.ending ≡ running) (h : KeepsReduce F w n node) where
  sl : IsSlotted node.node.kind
  sl = slotted node.node.kind is

  claim_is : (i : ℕ) (c : Claim) → claim_at w n i node ≡ Some c → ClaimsSlot node.node (schemas_for w node) node.progress i (next_morsel (inputs_in_phase w n i)) c
  claim_is i c e = claims_slot w.options node.node (schemas_for w node) node.progress (heads_of w n node) (inputs_done w n) i (next_morsel (inputs_in_phase w n i)) c node.node.kind sl e

  row_is : (i : ℕ) (c : Claim) → is_giving node.progress.stage ≡ true → claim_at w n i node ≡ Some c → ClaimsRow node.node (schemas_for w node) node.progress c
  row_is i c g e = claims_row w.options node.node (schemas_for w node) node.progress (heads_of w n node) (inputs_done w n) i (next_morsel (inputs_in_phase w n i)) c node.node.kind is g e

  kept_piece : (q : Piece) (size : ℕ) → Contains w.outs q → q.node ≡ n → IsResult F q (partial size) → IsKeptOf w n node 0 q
  kept_piece q size c e r = by (h.gives.pieces q c e)
    where
      by : RowWork w n node q.gives (work_of q) ⊎ IsKeptOf w n node 0 q → IsKeptOf w n node 0 q
      by (inr k) = k
      by (inl (k, all, work)) = absurd (subst (λ (x : Work). IsResultOf F x.task q.input (whole_tables x.schemas x.tables) x.tables (partial size)) work r)

  module _ (Takes Musts : Pipe → Type 0) (some : (x : Pipe) → Takes x → (rs : List Row) × (slice_get x.got x.next ≡ Some (Some rs))) (g : GoesOn Takes Musts w v) (s : StepOf F w v n node) where
    node_is : y.node ≡ node.node
    node_is = (s.sent y at).0

    inputs_stay : InputsStay w v n
    inputs_stay q e = let x = g q e.0 in (x.0, (x.1, ap (λ (u : Wire). u.receiver) (sym x.2.wire) ∙ e.1), ap (λ (u : Wire). u.input) x.2.wire, λ c. rests x.0 x.1 x.2 c)
      where
        rests : (x : Pipe) → Contains w.pipes x → Goes Takes Musts x q → IsComplete x → IsComplete q × (q.got ≡ x.got)
        rests x cx go c =
            let r = complete_rests F w Takes Musts o begun some x q cx go c in
            let all = o.read x cx c in
            (r.is_complete, sym (take-length q.got) ∙ ap (λ k. take k q.got) (r.longer ∙ sym all) ∙ take_fills x.got q.got x.next go.got (came_to F w o.known x cx) ∙ ap (λ k. take k x.got) all ∙ take-length x.got)

    complete : AllComplete w n → AllComplete v n
    complete all = complete_on F w v n node y o.known.facts kv.facts there at node_is shape inputs_stay all

    work_on : (k : ℕ) (x : Work) → RowWork w n node k x → RowWork v n y k x
    work_on k x (zero_k, all, work) = (zero_k, complete all, work ∙ (λ i. let a : Work = record { task = computes (sym node_is i); schemas = sym (same_schemas w v node y shape node_is) i; tables = sym (received_same F w v n node y o.known.facts kv.facts there at node_is shape inputs_stay all) i } in a))

    keeps_piece : (q : Piece) → IsKeptOf w n node 0 q → IsKeptOf v n y 0 q
    keeps_piece q k = kept_on F w v n node y o.known kv shape there at node_is sl Takes Musts g q k

    morsels : KeepsMorsels F v n y 0
    morsels = by slots
      where
        by : SeesSlots F w v n node y → KeepsMorsels F v n y 0
        by (slots_stay taken stay) = morsels_stay F w v n node y o.known kv shape there at node_is sl Takes Musts g run taken stay h.morsels
        by (slot_filled q size c e r taken stay) = morsels_filled F w v n node y o.known kv shape there at node_is sl Takes Musts g run q size c e (kept_piece q size c e r) r taken stay h.morsels
        by (slots_claimed i worker c e taken new more) = of (claim_is i c e)
          where
            of : ClaimsSlot node.node (schemas_for w node) node.progress i (next_morsel (inputs_in_phase w n i)) c → KeepsMorsels F v n y 0
            of (keeps_next t m next number task schemas tables slot) = morsels_claimed F w v n node y o.known kv shape there at node_is sl Takes Musts g i worker c m next number task schemas tables run (taken ∙ slot) new more h.morsels
            of (gives_rows gives slot) = morsels_stay F w v n node y o.known kv shape there at node_is sl Takes Musts g run (taken ∙ slot) (λ on x d k t. more x d) h.morsels

    whole : is_giving y.progress.stage ≡ true → WholeSlots v n y
    whole gives = (complete old.0, λ q e. let x = inputs_stay q e in taken_same slots ∙ old.1 x.0 x.1 ∙ sym (x.3 (old.0 x.0 x.1)).1)
      where
        was : is_giving node.progress.stage ≡ true
        was = ap is_giving (sym same.stage) ∙ gives

        old : WholeSlots w n node
        old = h.whole was

        taken_same : SeesSlots F w v n node y → slots_at y 0 ≡ slots_at node 0
        taken_same (slots_stay taken stay) = ap (λ t. get_or t 0 []) taken
        taken_same (slot_filled q size c e r taken stay) =
            let k = kept_piece q size c e r in
            let here : slice_get w.nodes q.node ≡ Some node = ap (slice_get w.nodes) e ∙ there in
            let waited : slice_get (slots_at node 0) q.number ≡ Some None = sym (λ i. slice_get (slots_of (here i) (k.0 i)) q.number) ∙ (o.known.facts.expected q c).0 (ap (λ (x : Work). keeps_one x.task) k.4.2) in
            let both : Some None ≡ Some (Some k.4.0) = sym waited ∙ ap (λ xs. slice_get xs q.number) (old.1 k.1 k.2) ∙ k.4.1 in
            absurd (nothing_is k.4.0 (let no : None ≡ Some k.4.0 = cc in no))
        taken_same (slots_claimed i worker c e taken new more) = of (claim_is i c e)
          where
            of : ClaimsSlot node.node (schemas_for w node) node.progress i (next_morsel (inputs_in_phase w n i)) c → slots_at y 0 ≡ slots_at node 0
            of (keeps_next t m next number task schemas tables slot) = absurd (both_giving node.progress.stage t was)
            of (gives_rows gives slot) = ap (λ t. get_or t 0 []) (taken ∙ slot)

    -- a claim finds that nothing was sent
    none_before : (i : ℕ) (c : Claim) → claim_at w n i node ≡ Some c → node.progress.sent ≡ 0
    none_before i c e = by (claims_while w.options node.node (schemas_for w node) node.progress (heads_of w n node) (inputs_done w n) i (next_morsel (inputs_in_phase w n i)) c node.node.kind (keeps node.node.kind is) e)
      where
        by : (is_taking node.progress.stage ≡ true) × (c.progress.sent ≡ node.progress.sent) ⊎ (is_giving node.progress.stage ≡ true) → node.progress.sent ≡ 0
        by (inl (t, sent)) = h.turn.unsent t
        by (inr g) = (row_is i c g e).none

    gives : Gives F v n (RowWork v n y) (IsKeptOf v n y 0) (AllComplete v n × (0 < y.progress.sent))
    gives =
        gives_keep F w v n (RowWork w n node) (RowWork v n y) (IsKeptOf w n node 0) (IsKeptOf v n y 0) (AllComplete w n × (0 < node.progress.sent)) (AllComplete v n × (0 < y.progress.sent)) work_on keeps_piece (λ q rs k r. silent F w n node q rs k r)
        (λ p k rs l e. came p k rs (s.outputs p l) e) (λ q c e. piece q (s.pieces q c e)) (λ p l c. inl (let x = s.outputs p l in (x.0, x.1, was_complete x.0 p x.2 c, λ a. (complete a.0, all_on (s.sent y at).1 a.1)))) h.gives
      where
        came : (p : Pipe) (k : ℕ) (rs : List Row) → (x : Pipe) × Leaves w n x × Onto (MayCome F w n) x p → slice_get p.got k ≡ Some (Some rs) → ((x : Pipe) × Leaves w n x × (slice_get x.got k ≡ Some (Some rs))) ⊎ MayCome F w n k rs
        came p k rs (x, l, on) e = by (on.got k rs e)
          where
            by : (slice_get x.got k ≡ Some (Some rs)) ⊎ MayCome F w n k rs → ((z : Pipe) × Leaves w n z × (slice_get z.got k ≡ Some (Some rs))) ⊎ MayCome F w n k rs
            by (inl old) = inl (x, l, old)
            by (inr new) = inr new

        piece : (q : Piece) → Contains w.outs q ⊎ IsClaimed w n node q → Contains w.outs q ⊎ RowWork v n y q.gives (work_of q) ⊎ IsKeptOf v n y 0 q
        piece q (inl old) = inl old
        piece q (inr (i, worker, c, claim, new)) = of (claim_is i c claim)
          where
            of : ClaimsSlot node.node (schemas_for w node) node.progress i (next_morsel (inputs_in_phase w n i)) c → Contains w.outs q ⊎ RowWork v n y q.gives (work_of q) ⊎ IsKeptOf v n y 0 q
            of (keeps_next t m next number task schemas tables slot) = inr (inr (subst (IsKeptOf v n y 0) new (claimed_kept F w v n node y o.known kv shape there at node_is sl Takes Musts g i worker c m next number task schemas tables)))
            of (gives_rows g slot) =
                let r = row_is i c g claim in
                let all = h.whole g in
                let x : RowWork w n node c.gives (asked_by c) = (r.gives, all.0, r.work ∙ ap (λ ts. let a : Work = record { task = computes node.node; schemas = schemas_for w node; tables = ts } in a) (has_all F w n node o there sl all)) in
                inr (inl (subst (λ (z : Piece). RowWork v n y z.gives (work_of z)) new (work_on c.gives (asked_by c) x)))

        all_on : (y.progress.sent ≡ node.progress.sent) ⊎ HasClaim w n node → 0 < node.progress.sent → 0 < y.progress.sent
        all_on (inl sent) more = omega (arith, sent, more)
        all_on (inr (i, c, claim)) more = let none = none_before i c claim in absurd (omega (arith, none, more))

    keeps_on : Sees F w v n node → (0 < y.progress.sent → AllComplete w n) → KeepsReduce F v n y
    keeps_on seen sent = record { turn = turn_step F w v n node y o.known there at (keeps node.node.kind is) same h.turn seen; morsels = morsels; whole = whole; sent_all = λ more. complete (sent more); gives = gives }

  stored_sent : (node : Node) (i : ℕ) (rs : List Row) → (stored_progress node i rs).sent ≡ node.progress.sent
  stored_sent node i rs = by (is_multiplexer node.node.kind) node.node.kind
    where
      of : (z : PhysicalKind) → (after_store z i rs node.progress).sent ≡ node.progress.sent
      of (negative_slice b n) = refl
      of z = refl

      by : (b : Bool) (z : PhysicalKind) → (cond b node.progress (after_store z i rs node.progress)).sent ≡ node.progress.sent
      by true z = refl
      by false z = of z

  pub reduce_step : Sees F w v n node → KeepsReduce F v n y
  reduce_step seen = by seen
    where
      by : Sees F w v n node → KeepsReduce F v n y
      by (stands_still g s st stores outs) = keeps_on (TakenElsewhere n) NoneTaken (λ x t. t.1) g s seen (λ more. h.sent_all (let e = (st y at).sent in omega (arith, e, more)))
      by (claims i c e cut on g s st stores next outs) = keeps_on (IsTakenOf n i) (IsTakenBy n i c.takes_morsel) (λ x t. t.1) g s seen (λ more. of more (claims_while w.options node.node (schemas_for w node) node.progress (heads_of w n node) (inputs_done w n) i (next_morsel (inputs_in_phase w n i)) c node.node.kind (keeps node.node.kind is) e))
        where
          of : 0 < y.progress.sent → (is_taking node.progress.stage ≡ true) × (c.progress.sent ≡ node.progress.sent) ⊎ (is_giving node.progress.stage ≡ true) → AllComplete w n
          of more (inl (t, sent)) = h.sent_all (let e = (st y at).sent in omega (arith, e, sent, more))
          of more (inr g) = (h.whole g).0
      by (pulls_in i p rs pulling cut on cp input m g s st stores outs) = keeps_on (IsTakenOf n i) (IsTakenBy n i true) (λ x t. t.1) g s seen (λ more. h.sent_all (let e = (st y at).sent in let f = stored_sent node i rs in omega (arith, e, f, more)))
