-- Each step of an open phase is seen by an equi join: it stands still, it claims, or a partial of its own is put in.
use Rattle.std.proofs.Common.{◌≡◌, ◌≢◌, ℕ, suc, ◌⊎◌, Bool, true, false, List, [], ◌∷◌, length, Some, refl, sym, ap, subst, ◌∙◌, inl, inr, arith}
use Rattle.std.specs.Prelude.{Contains, IsTrue, get_or, nat_eq, nat_lt, not, slice_get, ◌&&◌, ◌||◌}
use Rattle.std.specs.List.{filter as kept_pipes, list_all}
use Rattle.ps_frame.specs.Causes.{is_empty}
use Rattle.ps_frame.specs.Functions.{Functions}
use Rattle.ps_frame.specs.Tables.{Row, Table}
use Rattle.ps_meaning.specs.Shape.{PhysicalKind, equi_join}
use Rattle.ps_meaning.specs.Steps.{JoinStep}
use Rattle.ps_ports.specs.Ports.{is_done, is_ready}
use Rattle.ps_turns.specs.Claims.{Claim, filled_slot}
use Rattle.ps_turns.specs.Progress.{Stage, giving, is_giving, is_multiplexer, spent, taking}
use Rattle.ps_turns.specs.Pulls.{pulls}
use Rattle.ps_turns.specs.Results.{IsResult, IsResultOf}
use Rattle.ps_turns.specs.Tables.{whole_tables}
use Rattle.ps_turns.specs.Tasks.{Answer, Piece, Task, bad, computes, gives_last, gives_part, good, hands_on, keeps, partial, probes}
use Rattle.ps_world.specs.Answers.{answered, without_piece}
use Rattle.ps_world.specs.Claims.{after_claim, before_drops, claim_at, piece_of}
use Rattle.ps_world.specs.Closing.{after_close, after_end}
use Rattle.ps_world.specs.Facts.{HasNoUse, is_over_slice, keeps_one}
use Rattle.ps_world.specs.Pipes.{is_input}
use Rattle.ps_world.specs.Promises.{within_phase}
use Rattle.ps_world.specs.Pulls.{after_pull}
use Rattle.ps_world.specs.Step.{Steps}
use Rattle.ps_world.specs.World.{IsWorking, Node, Pipe, World, counts_for_sender, has_next, is_cut_off, live_outs, multiplexes, Record, claimed, closed, ended, faulty, handed_in, opened, pulled, pipes_out, running}
use Rattle.world_claims.proofs.Beside.{Before}
use Rattle.world_claims.specs.Numbering.{Known, only_takes}
use Rattle.world_facts.proofs.CutOff.{both_true}
use Rattle.world_facts.proofs.HandedIn.{contains_of}
use Rattle.world_laws.proofs.InOrder.{contains_cases, contains_first, contains_kept, contains_later}
use Rattle.world_laws.proofs.PassingPorts.{ordered, same_number, was_kept}
use Rattle.world_families.specs.Joins.{HoldsJoin, IsJoinWork}
use Rattle.world_families.specs.Keepers.{IsKeptOf}
use Rattle.world_families.specs.Work.{Enters, IsComplete, Leaves, Work, work_of}
use Rattle.family_keeps.proofs.Done.{DoneFits}
use Rattle.family_pipes.proofs.Complete.{not_ready}
use Rattle.family_pipes.proofs.Outputs.{drops_rest}
use Rattle.family_pipes.proofs.SourceSteps.{StepOf, answer_step, claim_step, close_step, end_step, pull_step, same_node}
use Rattle.join_run_laws.proofs.JoinKept.{JoinSeen, claims, puts_in, stands_still}
use Rattle.join_run_laws.proofs.JoinStill.{OutsStay}
use Rattle.join_run_laws.proofs.SameProgress.{MovedTo, Same, claim_same, close_same, end_same, kept_node, partial_same, pull_same, pulled_node}
use Rattle.orderly_worlds.proofs.Goes.{Goes, GoesOn, IsTakenBy, IsTakenOf, NoneTaken, answer_goes, claim_goes, close_goes, end_goes, pull_goes}
use Rattle.orderly_worlds.proofs.PortPipes.{port_pipe}
use Rattle.orderly_worlds.proofs.Seen.{OutsOrNew, OutsWere, TakenElsewhere}
use Rattle.orderly_worlds.proofs.Stands.{zips}

weaker : (S T M : Pipe → Type 0) (x y : Pipe) → (S x → T x) → Goes S M x y → Goes T NoneTaken x y
weaker S T M x y h g = record { wire = g.wire; unread = g.unread; kept = g.kept; lost = g.lost; next = by g.next; surely = λ s. absurd s; got = g.got; longer = g.longer; mark = g.mark }
  where
    by : (y.next ≡ x.next) ⊎ (y.next ≡ suc x.next) × S x → (y.next ≡ x.next) ⊎ (y.next ≡ suc x.next) × T x
    by (inl e) = inl e
    by (inr (e, s)) = inr (e, h s)

weaker_on : (S T M : Pipe → Type 0) (w v : World) → ((x : Pipe) → S x → T x) → GoesOn S M w v → GoesOn T NoneTaken w v
weaker_on S T M w v h g y c = let x = g y c in (x.0, x.1, weaker S T M x.0 y (h x.0) x.2)

all_of : {A : Type 0} (t : A → Bool) (xs : List A) → ((x : A) → Contains xs x → t x ≡ true) → list_all t xs ≡ true
all_of t [] h = refl
all_of t (x ∷ xs) h = (λ i. h x (contains_first x xs) i && list_all t xs) ∙ all_of t xs (λ y c. h y (contains_later x y xs c))

some_there : {A : Type 0} (x : A) (xs : List A) → Contains xs x → not (is_empty xs) ≡ true
some_there x [] (k, lt, e) = absurd (omega arith)
some_there x (y ∷ xs) c = refl

-- rows are no answer of a piece that keeps
no_rows_kept : (F : Functions) (t : Task) (i : ℕ) (ts : List Table) (tables : List (List Row)) (rs : List Row) → IsResultOf F t i ts tables (good rs) → IsTrue (keeps_one t) → ⊥
no_rows_kept F hands_on i ts tables rs r e = let never : false ≡ true = e in cc
no_rows_kept F (computes p) i ts tables rs r e = let never : false ≡ true = e in cc
no_rows_kept F (keeps p) i ts tables rs r e = r
no_rows_kept F (gives_part p keys) i ts tables rs r e = let never : false ≡ true = e in cc
no_rows_kept F (probes p j) i ts tables rs r e = let never : false ≡ true = e in cc
no_rows_kept F (gives_last p j) i ts tables rs r e = let never : false ≡ true = e in cc

-- the place of an item
place_at : {A : Type 0} (xs : List A) (x : A) → Contains xs x → (k : ℕ) × (slice_get xs k ≡ Some x)
place_at [] x (k, lt, e) = absurd (omega arith)
place_at (y ∷ xs) x c = by (contains_cases y x xs c) (place_at xs x)
  where
    by : (y ≡ x) ⊎ Contains xs x → (Contains xs x → (k : ℕ) × (slice_get xs k ≡ Some x)) → (k : ℕ) × (slice_get (y ∷ xs) k ≡ Some x)
    by (inl same) more = (0, ap Some same)
    by (inr later) more = let r = more later in (suc r.0, r.1)

-- what is among the outputs of a node leaves it
out_leaves : (w : World) (n : ℕ) (p : Pipe) → Contains (pipes_out w n) p → Leaves w n p
out_leaves w n p c =
    let k = was_kept (λ (x : Pipe). nat_eq x.wire.sender n) p w.pipes (ordered (λ (x y : Pipe). nat_lt x.wire.port y.wire.port) p (kept_pipes (λ (x : Pipe). nat_eq x.wire.sender n) w.pipes) c) in
    (k.0, same_number p.wire.sender n k.1)

module _ (F : Functions) (w : World) (n : ℕ) (node : Node) (j : JoinStep) (known : Known F w) (begun : w.is_open ≡ true) (there : slice_get w.nodes n ≡ Some node) (is_one : node.node.kind ≡ equi_join j) (h : HoldsJoin F w n node j) (fits : DoneFits w n) where
  single : is_multiplexer node.node.kind ≡ false
  single = ap is_multiplexer is_one

  no_zip : zips node.node.kind ≡ false
  no_zip = ap zips is_one

  -- the node as it was
  from_same : (y : Node) → Before Same w.nodes n y → (y.node ≡ node.node) × (y.progress ≡ node.progress)
  from_same y (x, at, s) =
      let is : x ≡ node = same_node w n x node at there in
      (s.node ∙ ap (λ (z : Node). z.node) is, s.progress (ap (λ (z : Node). zips z.node.kind) is ∙ no_zip) ∙ ap (λ (z : Node). z.progress) is)

  elsewhere : (m i : ℕ) → m ≢ n → (x : Pipe) → IsTakenOf m i x → TakenElsewhere n x
  elsewhere m i other x t = (λ e. other (sym (same_number x.wire.receiver m (both_true (nat_eq x.wire.receiver m) (nat_eq x.wire.input i) t.0).0) ∙ e), t.1)

  quiet : (v : World) → GoesOn NoneTaken NoneTaken w v → GoesOn (TakenElsewhere n) NoneTaken w v
  quiet v g = weaker_on NoneTaken (TakenElsewhere n) NoneTaken w v (λ x t. absurd t) g

  -- other pieces stay out
  others : (q x : Piece) → Contains w.outs q → Contains w.outs x → (x ≡ q → ⊥) → Contains (without_piece q w.outs) x
  others q x cq cx apart = contains_kept (λ (p : Piece). not (nat_eq p.worker q.worker)) x w.outs cx (by (nat_eq x.worker q.worker) refl)
    where
      at_of : (z : Piece) → Contains w.outs z → (k : ℕ) × (slice_get w.outs k ≡ Some z)
      at_of z c = place_at w.outs z c

      by : (b : Bool) → nat_eq x.worker q.worker ≡ b → not (nat_eq x.worker q.worker) ≡ true
      by false e = ap not e
      by true e =
          let a = at_of x cx in
          let b = at_of q cq in
          let k = known.facts.own_workers a.0 b.0 x q a.1 b.1 (same_number x.worker q.worker e) in
          let two : Some x ≡ Some q = sym a.1 ∙ ap (slice_get w.outs) k ∙ b.1 in
          absurd (apart (let is : x ≡ q = cc in is))

  abbrev Sees : World → Type 0
  Sees v = (y : Node) → slice_get v.nodes n ≡ Some y → (y.node ≡ node.node) × JoinSeen F w v n node y

  still : (v : World) → GoesOn (TakenElsewhere n) NoneTaken w v → StepOf F w v n node → ((y : Node) → slice_get v.nodes n ≡ Some y → Before Same w.nodes n y) → OutsWere w v n → OutsStay w v n → Sees v
  still v g s same outs stay y at = let b = from_same y (same y at) in (b.0, stands_still g s b.1 outs stay)

  -- A JOIN THAT GIVES HAS A USE FOR MORE, unless all that leaves it is dropped
  used : IsWorking w n → is_cut_off w n ≡ false → IsTrue (is_giving node.progress.stage) → HasNoUse w n → ⊥
  used working whole gives (inl (z, at, over)) =
      let is : z ≡ node = same_node w n z node at there in
      no_slice node.node.kind node.progress.booked is_one ((λ i. is_over_slice (sym is i).node.kind (sym is i).progress.booked) ∙ over)
    where
      no_slice : (k : PhysicalKind) (b : ℕ) → k ≡ equi_join j → is_over_slice k b ≡ true → ⊥
      no_slice k b e t = let never : false ≡ true = ap (λ x. is_over_slice x b) (sym e) ∙ t in cc
  used working whole gives (inr (z, c, from, each)) = by z.in_phase refl
    where
      at_z : slice_get w.nodes z.wire.sender ≡ Some node
      at_z = ap (slice_get w.nodes) from ∙ there

      gives_on : (st : Stage) → IsTrue (is_giving st) → only_takes (equi_join j) st ≡ false
      gives_on taking e = absurd (let never : false ≡ true = e in cc)
      gives_on giving e = refl
      gives_on spent e = refl

      aside : z.in_phase ≡ false → ⊥
      aside off =
          let a = known.outs.aside z c off (subst (IsWorking w) (sym from) working) (ap multiplexes at_z ∙ single) in
          let none = known.outs.gives z a.1.0 node c a.1.1 at_z begun single (ap (λ k. only_takes k node.progress.stage) is_one ∙ gives_on node.progress.stage gives) a.0 a.1.2 in
          let never : true ≡ false = sym a.1.3 ∙ none in cc

      undone : z.in_phase ≡ true → is_done z.wire.receive_state ≡ false
      undone on = by_done (is_done z.wire.receive_state) refl
        where
          ready : is_ready z.wire.receive_state ≡ true
          ready = (both_true (is_ready z.wire.send_state) (is_ready z.wire.receive_state) ((known.facts.pipes z c).at_hand on).0).1

          by_done : (b : Bool) → is_done z.wire.receive_state ≡ b → is_done z.wire.receive_state ≡ false
          by_done false e = e
          by_done true e = absurd (not_ready z.wire.receive_state e ready)

      dropped : (a b : Bool) → b ≡ false → (a || b) ≡ true → a ≡ true
      dropped true b e t = refl
      dropped false b e t = sym e ∙ t

      cut : z.in_phase ≡ true → ⊥
      cut on = let never : true ≡ false = sym both ∙ whole in cc
        where
          stands : Contains (pipes_out w n) z
          stands = contains_of (pipes_out w n) z.wire.port z ((λ i. slice_get (pipes_out w (sym from i)) z.wire.port) ∙ port_pipe F w known.facts z c)

          live : Contains (live_outs w n) z
          live = contains_kept (counts_for_sender w) z (pipes_out w n) stands (ap (λ b. b || (multiplexes (slice_get w.nodes z.wire.sender) && not (is_done z.wire.receive_state))) on)

          all_dropped : list_all (λ (p : Pipe). p.is_dropped) (live_outs w n) ≡ true
          all_dropped = all_of (λ (p : Pipe). p.is_dropped) (live_outs w n) (λ p cp.
              let out = (was_kept (counts_for_sender w) p (pipes_out w n) cp).0 in
              let l = out_leaves w n p out in
              let is : p ≡ z = known.facts.one_output p z l.0 c (l.1 ∙ sym from) (ap (λ k. multiplexes (slice_get w.nodes k)) l.1 ∙ ap multiplexes there ∙ single) in
              ap (λ (x : Pipe). x.is_dropped) is ∙ dropped z.is_dropped (is_done z.wire.receive_state) (undone on) (each z c from))

          both : is_cut_off w n ≡ true
          both = (λ i. some_there z (live_outs w n) live i && list_all (λ (p : Pipe). p.is_dropped) (live_outs w n)) ∙ all_dropped

      by : (b : Bool) → z.in_phase ≡ b → ⊥
      by true on = cut on
      by false off = aside off

  -- A CLAIM
  module _ (m i worker : ℕ) (other : Node) (c : Claim) (at : slice_get w.nodes m ≡ Some other) (on : (w.is_open && (other.in_phase && not other.is_closed)) ≡ true) (runs : w.ending ≡ running) (whole : is_cut_off w m ≡ false) (is : claim_at w m i other ≡ Some c) where
    abbrev claimed_world : World
    claimed_world = after_claim w m i worker other c

    abbrev start : World
    start = before_drops w m i worker other c

    outs_are : claimed_world.outs ≡ piece_of m i worker c ∷ w.outs
    outs_are = (drops_rest (length start.nodes) start).0

    goes : GoesOn (IsTakenOf m i) (IsTakenBy m i c.takes_morsel) w claimed_world
    goes = claim_goes F w known m i worker other c at on is

    step_of : StepOf F w claimed_world n node
    step_of = claim_step F w n node there single m i worker other c at is

    stay : OutsStay w claimed_world n
    stay run = (runs, λ q cq e k. subst (λ qs. Contains qs q) (sym outs_are) (contains_later (piece_of m i worker c) q w.outs cq))

    outs_of : (q : Piece) → Contains claimed_world.outs q → (piece_of m i worker c ≡ q) ⊎ Contains w.outs q
    outs_of q cq = contains_cases (piece_of m i worker c) q w.outs (subst (λ qs. Contains qs q) outs_are cq)

    pub claim_sees : Sees claimed_world
    claim_sees y aty = by (claim_same w m i worker other c at n y aty)
      where
        elsewhere_outs : m ≢ n → OutsWere w claimed_world n
        elsewhere_outs apart q cq e = of (outs_of q cq)
          where
            of : (piece_of m i worker c ≡ q) ⊎ Contains w.outs q → Contains w.outs q
            of (inl new) = absurd (apart (ap (λ (z : Piece). z.node) new ∙ e))
            of (inr old) = old

        or_new : n ≡ m → OutsOrNew w claimed_world n i c
        or_new here q cq e = of (outs_of q cq)
          where
            of : (piece_of m i worker c ≡ q) ⊎ Contains w.outs q → Contains w.outs q ⊎ ((k : ℕ) × (piece_of n i k c ≡ q))
            of (inl new) = inr (worker, ap (λ k. piece_of k i worker c) here ∙ new)
            of (inr old) = inl old

        new_out : n ≡ m → Contains claimed_world.outs (piece_of n i worker c)
        new_out here = subst (λ qs. Contains qs (piece_of n i worker c)) (sym outs_are) (subst (λ k. Contains (piece_of m i worker c ∷ w.outs) (piece_of k i worker c)) (sym here) (contains_first (piece_of m i worker c) w.outs))

        same_one : n ≡ m → other ≡ node
        same_one here = same_node w n other node (ap (slice_get w.nodes) here ∙ at) there

        working : n ≡ m → IsWorking w n
        working here = (node, there, ap (λ (z : Node). w.is_open && (z.in_phase && not z.is_closed)) (sym (same_one here)) ∙ on)

        complete : n ≡ m → IsTrue (is_giving node.progress.stage) → (q : Pipe) → Enters w n q → is_done q.wire.receive_state ≡ true → IsComplete q
        complete here gives q e d = of (fits q e d)
          where
            of : IsComplete q ⊎ HasNoUse w n → IsComplete q
            of (inl x) = x
            of (inr none) = absurd (used (working here) (ap (is_cut_off w) here ∙ whole) gives none)

        by : MovedTo w m n (record other { progress = c.progress }) y → (y.node ≡ node.node) × JoinSeen F w claimed_world n node y
        by (inl (apart, before)) =
            let b = from_same y before in
            (b.0, stands_still (weaker_on (IsTakenOf m i) (TakenElsewhere n) (IsTakenBy m i c.takes_morsel) w claimed_world (elsewhere m i (λ e. apart (sym e))) goes) step_of b.1 (elsewhere_outs (λ e. apart (sym e))) stay)
        by (inr (here, s)) =
            let is_node = same_one here in
            let kind : zips other.node.kind ≡ false = ap (λ (z : Node). zips z.node.kind) is_node ∙ no_zip in (
              s.node ∙ ap (λ (z : Node). z.node) is_node,
              claims i c ((λ k. claim_at w (here k) i (sym is_node k)) ∙ is) (subst (λ k. GoesOn (IsTakenOf k i) (IsTakenBy k i c.takes_morsel) w claimed_world) (sym here) goes) step_of (s.progress kind) (or_new here) stay (worker, new_out here) (complete here),
            )

  -- AN ANSWER
  kept_of : (q : Piece) (size : ℕ) → Contains w.outs q → q.node ≡ n → IsResult F q (partial size) → IsKeptOf w n node 1 q
  kept_of q size cq at r = by (h.gives.pieces q cq at)
    where
      no_work : (x : Work) → IsResultOf F x.task q.input (whole_tables x.schemas x.tables) x.tables (partial size) → IsJoinWork w n node j q.gives x → ⊥
      no_work x r (a, b, io, has, inl (taken, rs, e, is)) = subst (λ (z : Work). IsResultOf F z.task q.input (whole_tables z.schemas z.tables) z.tables (partial size)) is r
      no_work x r (a, b, io, has, inr (fills, all, e, is)) = subst (λ (z : Work). IsResultOf F z.task q.input (whole_tables z.schemas z.tables) z.tables (partial size)) is r

      by : IsJoinWork w n node j q.gives (work_of q) ⊎ IsKeptOf w n node 1 q → IsKeptOf w n node 1 q
      by (inl work) = absurd (no_work (work_of q) r work)
      by (inr k) = k

  were : (q : Piece) (v : World) → v.outs ≡ without_piece q w.outs → OutsWere w v n
  were q v e x cx at = (was_kept (λ (p : Piece). not (nat_eq p.worker q.worker)) x w.outs (subst (λ ps. Contains ps x) e cx)).0

  pub answer_sees : (q : Piece) (a : Answer) → Contains w.outs q → IsResult F q a → w.ending ≡ running → Sees (answered w q a)
  answer_sees q (good rs) cq r runs =
      still (answered w q (good rs)) (quiet (answered w q (good rs)) (answer_goes F w known q cq (good rs) r)) (answer_step F w n node there single q (good rs) cq r) (λ y e. (y, e, record { node = refl; progress = λ k. refl })) (were q (answered w q (good rs)) refl)
      (λ run. (runs, λ x cx e k. others q x cq cx (λ same. no_rows_kept F q.task q.input (whole_tables q.schemas q.tables) q.tables rs r (subst (λ (z : Piece). IsTrue (keeps_one z.task)) same k))))
  answer_sees q (bad c) cq r runs =
      still (answered w q (bad c)) (quiet (answered w q (bad c)) (answer_goes F w known q cq (bad c) r)) (answer_step F w n node there single q (bad c) cq r) (λ y e. (y, e, record { node = refl; progress = λ k. refl })) (were q (answered w q (bad c)) refl) (λ run. absurd (no_fault run))
    where
      no_fault : faulty c ≡ running → ⊥
      no_fault e = cc
  answer_sees q (partial size) cq r runs = λ y aty. by y (partial_same w q size at.0 at.1 n y aty)
    where
      at : (z : Node) × (slice_get w.nodes q.node ≡ Some z)
      at = let a = known.facts.at_work q cq in (a.0, a.1)

      outs_are : (answered w q (partial size)).outs ≡ without_piece q w.outs
      outs_are = refl

      g : GoesOn (TakenElsewhere n) NoneTaken w (answered w q (partial size))
      g = quiet (answered w q (partial size)) (answer_goes F w known q cq (partial size) r)

      s : StepOf F w (answered w q (partial size)) n node
      s = answer_step F w n node there single q (partial size) cq r

      by : (y : Node) → MovedTo w q.node n (kept_node q at.0) y → (y.node ≡ node.node) × JoinSeen F w (answered w q (partial size)) n node y
      by y (inl (apart, before)) =
          let b = from_same y before in
          (b.0, stands_still g s b.1 (were q (answered w q (partial size)) outs_are) (λ run. (runs, λ x cx e k. others q x cq cx (λ same. apart (sym e ∙ ap (λ (z : Piece). z.node) same)))))
      by y (inr (here, t)) =
          let is_node : at.0 ≡ node = same_node w n at.0 node (ap (slice_get w.nodes) here ∙ at.1) there in
          let kind : zips at.0.node.kind ≡ false = ap (λ (z : Node). zips z.node.kind) is_node ∙ no_zip in
          let of = kept_of q size cq (sym here) r in (
            t.node ∙ ap (λ (z : Node). z.node) is_node,
            puts_in q cq (sym here) of size r g s
                (t.progress kind ∙ (λ k. record (is_node k).progress { taken = filled_slot (of.0 k) q.number (get_or q.tables 0 []) (is_node k).progress.taken })) (were q (answered w q (partial size)) outs_are)
                (λ run. (runs, λ x cx e k number. others q x cq cx (λ same. number (ap (λ (z : Piece). z.number) same)))),
          )

  -- A PULL, A CLOSE AND THE END
  pub pull_sees : (m i : ℕ) (other : Node) (p : Pipe) (rs : List Row) → slice_get w.nodes m ≡ Some other → pulls other.node.kind ≡ true → Contains w.pipes p → (is_input m i p && p.in_phase) ≡ true → has_next p ≡ true → w.ending ≡ running → Sees (after_pull w m i other p rs)
  pull_sees m i other p rs at pulling cp input has runs y aty = by (pull_same w m i other p rs at n y aty)
    where
      not_here : n ≡ m → ⊥
      not_here here = let is : other ≡ node = same_node w n other node (ap (slice_get w.nodes) here ∙ at) there in let never : true ≡ false = sym pulling ∙ ap (λ (z : Node). pulls z.node.kind) is ∙ ap pulls is_one in cc

      by : MovedTo w m n (pulled_node other i rs) y → (y.node ≡ node.node) × JoinSeen F w (after_pull w m i other p rs) n node y
      by (inr (here, s)) = absurd (not_here here)
      by (inl (apart, before)) =
          let b = from_same y before in (
            b.0,
            stands_still (weaker_on (IsTakenOf m i) (TakenElsewhere n) (IsTakenBy m i true) w (after_pull w m i other p rs) (elsewhere m i (λ e. apart (sym e))) (pull_goes F w known m i other p rs cp input has)) (pull_step F w n node there single m i other p rs at) b.1 (λ q c e. c)
                (λ run. (runs, λ q c e k. c)),
          )

  pub close_sees : (m : ℕ) (other : Node) → slice_get w.nodes m ≡ Some other → w.ending ≡ running → Sees (after_close w m other)
  close_sees m other at runs = still (after_close w m other) (quiet (after_close w m other) (close_goes F w known m other)) (close_step F w n node there single m other at) (close_same w m other at n) (λ q c e. c) (λ run. (runs, λ q c e k. c))

  pub end_sees : w.ending ≡ running → Sees (after_end w)
  end_sees runs = still (after_end w) (quiet (after_end w) (end_goes F w known)) (end_step F w n node there single) (end_same w n) (λ q c e. c) (λ run. (runs, λ q c e k. c))

  pub steps_seen : (v : World) (r : Record) → within_phase r ≡ true → Steps F w r v → Sees v
  steps_seen v (opened phase) t s = absurd (let never : false ≡ true = t in cc)
  steps_seen v (claimed m i number worker) t s = subst Sees (sym s.5.3) (claim_sees m i worker s.0 s.5.0 s.1.0 s.1.1 s.1.2 s.3 s.5.1)
  steps_seen v (handed_in m i number worker handed) t s = subst Sees (sym s.7.3) (answer_sees s.0 s.7.0 s.1 s.7.1 s.6)
  steps_seen v (pulled m i number) t s = subst Sees (sym s.4.8) (pull_sees m i s.0 s.4.0 s.4.1 s.1.0 s.2 s.4.2 s.4.3 s.4.4 s.1.2)
  steps_seen v (closed m) t s = subst Sees (sym s.4) (close_sees m s.0 s.1.0 s.1.2)
  steps_seen v (ended phase) t s = absurd (let never : false ≡ true = t in cc)
