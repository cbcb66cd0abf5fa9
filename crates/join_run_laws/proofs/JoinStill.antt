-- An equi join stands still while others step: what is kept of it stays.
use Rattle.std.proofs.Common.{◌≡◌, ℕ, zero, suc, ◌≤◌, ◌⊎◌, Bool, true, false, List, [], ◌∷◌, take, Some, None, refl, sym, ap, subst, ◌∙◌, inl, inr, arith}
use Rattle.std.specs.Prelude.{Contains, IsFalse, IsTrue, get_or, slice_get}
use Rattle.ps_frame.specs.Functions.{Functions}
use Rattle.ps_frame.specs.Tables.{Row}
use Rattle.ps_meaning.specs.Cases.{rows_table}
use Rattle.ps_meaning.specs.Joins.{fills_right}
use Rattle.ps_meaning.specs.Shape.{PhysicalNode, equi_join}
use Rattle.ps_meaning.specs.Steps.{JoinStep}
use Rattle.ps_ports.specs.Ports.{is_done, is_ready}
use Rattle.ps_ports.specs.Wires.{Wire}
use Rattle.ps_turns.specs.Claims.{owes_last}
use Rattle.ps_turns.specs.Progress.{Progress, is_giving, is_spent, is_taking}
use Rattle.ps_turns.specs.Results.{IsPartial}
use Rattle.ps_turns.specs.Tasks.{Piece}
use Rattle.ps_world.specs.Facts.{keeps_one}
use Rattle.ps_world.specs.World.{Node, Pipe, World, pipes_in, running, shape_of}
use Rattle.world_claims.specs.Numbering.{Known, only_takes}
use Rattle.world_facts.proofs.CutOff.{both_true}
use Rattle.world_families.specs.Joins.{BuildsFirst, HasAllRight, HasRight, HoldsJoin, IsJoinOf}
use Rattle.world_families.specs.Keepers.{KeepsMorsels, schema_of_input, slots_at}
use Rattle.world_families.specs.Work.{AllComplete, Enters, IsComplete, Leaves}
use Rattle.family_pipes.proofs.Outputs.{MayCome, was_complete}
use Rattle.family_pipes.proofs.SourceSteps.{StepOf}
use Rattle.join_run_laws.proofs.JoinInputs.{JoinAt, same_left, same_right}
use Rattle.join_run_laws.proofs.JoinGoes.{InputGoes, fills_all, fills_at, gives_on, given_on, right_on, same_schemas}
use Rattle.orderly_worlds.proofs.Goes.{Goes, GoesOn, NoneTaken}
use Rattle.orderly_worlds.proofs.Orderly.{Orderly, complete_rests}
use Rattle.orderly_worlds.proofs.PortPipes.{input_pipe}
use Rattle.orderly_worlds.proofs.ReadRows.{came_to, take_fills}
use Rattle.orderly_worlds.proofs.Seen.{OutsWere, TakenElsewhere}

-- pieces that keep a morsel stay out while the run goes on
abbrev pub OutsStay : World → World → ℕ → Type 0
OutsStay w v n = v.ending ≡ running → (w.ending ≡ running) × ((q : Piece) → Contains w.outs q → q.node ≡ n → IsTrue (keeps_one q.task) → Contains v.outs q)

-- an input of the join, and only these two
pub one_of : (F : Functions) (v : World) (n : ℕ) (y : Node) (j : JoinStep) → Known F v → (Y : JoinAt F v n y j) → (p : Pipe) → Enters v n p → (p ≡ Y.left) ⊎ (p ≡ Y.right)
one_of F v n y j kv Y p e = by p.wire.input at
  where
    at : slice_get (Y.left ∷ Y.right ∷ []) p.wire.input ≡ Some p
    at = ap (λ qs. slice_get qs p.wire.input) (sym Y.pipes) ∙ (λ i. slice_get (pipes_in v (sym e.1 i)) p.wire.input) ∙ input_pipe F v kv.facts p e.0

    by : (k : ℕ) → slice_get (Y.left ∷ Y.right ∷ []) k ≡ Some p → (p ≡ Y.left) ⊎ (p ≡ Y.right)
    by zero q = inl (let t : Some Y.left ≡ Some p = q in let is : p ≡ Y.left = cc in is)
    by (suc zero) q = inr (let t : Some Y.right ≡ Some p = q in let is : p ≡ Y.right = cc in is)
    by (suc (suc k)) q = absurd (let none : None ≡ Some p = q in cc)

module _ (F : Functions) (w v : World) (n : ℕ) (node y : Node) (j : JoinStep) (o : Orderly F w) (kv : Known F v) (begun : w.is_open ≡ true) (shape : shape_of v ≡ shape_of w) (there : slice_get w.nodes n ≡ Some node) (is_one : node.node.kind ≡ equi_join j) (same : y.node ≡ node.node)
    (X : JoinAt F w n node j) (Y : JoinAt F v n y j) where
  abbrev pub xl : Pipe
  xl = X.left

  abbrev pub xr : Pipe
  xr = X.right

  abbrev pub yl : Pipe
  yl = Y.left

  abbrev pub yr : Pipe
  yr = Y.right

  -- THE PIPES
  module _ (Takes Musts : Pipe → Type 0) (some : (x : Pipe) → Takes x → (rs : List Row) × (slice_get x.got x.next ≡ Some (Some rs))) (g : GoesOn Takes Musts w v) where
    pub left_goes : Goes Takes Musts xl yl
    left_goes =
        let x = g yl Y.of.left_enters.0.0 in
        let e : Enters w n x.0 = (x.1, ap (λ (u : Wire). u.receiver) (sym x.2.wire) ∙ Y.of.left_enters.0.1) in
        subst (λ z. Goes Takes Musts z yl) (same_left F w n xl xr o.known X.of x.0 e (ap (λ (u : Wire). u.input) (sym x.2.wire) ∙ Y.of.left_enters.1)) x.2

    pub right_goes : Goes Takes Musts xr yr
    right_goes =
        let x = g yr Y.of.right_enters.0.0 in
        let e : Enters w n x.0 = (x.1, ap (λ (u : Wire). u.receiver) (sym x.2.wire) ∙ Y.of.right_enters.0.1) in
        subst (λ z. Goes Takes Musts z yr) (same_right F w n xl xr o.known X.of x.0 e (ap (λ (u : Wire). u.input) (sym x.2.wire) ∙ Y.of.right_enters.1)) x.2

    input_goes : (x z : Pipe) → Contains w.pipes x → Goes Takes Musts x z → InputGoes x z
    input_goes x z c p =
        record {
          fills = p.got;
          reads = by p.next;
          rests = λ is.
              let r = complete_rests F w Takes Musts o begun some x z c p is in
              (r.is_complete, fills_all x.got z.got p.got (λ k lt. let read = o.read x c is in came_to F w o.known x c k (omega (arith, lt, read))) r.longer);
        }
      where
        by : (z.next ≡ x.next) ⊎ (z.next ≡ suc x.next) × Takes x → x.next ≤ z.next
        by (inl e) = omega (arith, e)
        by (inr (e, t)) = omega (arith, e)

    pub left_on : InputGoes xl yl
    left_on = input_goes xl yl X.of.left_enters.0.0 left_goes

    pub right_goes_on : InputGoes xr yr
    right_goes_on = input_goes xr yr X.of.right_enters.0.0 right_goes

    -- while it takes, its outputs stand in no phase, so that none is dropped
    pub not_dropped : IsTrue (is_taking node.progress.stage) → ((p : Pipe) → Leaves w n p → IsFalse p.is_dropped) → (p : Pipe) → Leaves v n p → IsFalse p.is_dropped
    not_dropped t h p l = by p.is_dropped refl
      where
        x : (z : Pipe) × Contains w.pipes z × Goes Takes Musts z p
        x = g p l.0

        leaves : Leaves w n x.0
        leaves = (x.1, ap (λ (u : Wire). u.sender) (sym x.2.wire) ∙ l.1)

        aside : x.0.in_phase ≡ true → ⊥
        aside on =
            let ready = (both_true (is_ready x.0.wire.send_state) (is_ready x.0.wire.receive_state) ((o.known.facts.pipes x.0 x.1).at_hand on).0).0 in
            let takes : IsTrue (only_takes node.node.kind node.progress.stage) = ap (λ k. only_takes k node.progress.stage) is_one ∙ t in
            let none = o.known.outs.takes x.0 node x.1 (ap (slice_get w.nodes) leaves.1 ∙ there) begun takes in
            let never : true ≡ false = sym ready ∙ none in cc

        of : (x.0.is_dropped ≡ true) ⊎ (x.0.in_phase ≡ true) → ⊥
        of (inl gone) = let never : true ≡ false = sym gone ∙ h x.0 leaves in cc
        of (inr on) = aside on

        by : (b : Bool) → p.is_dropped ≡ b → p.is_dropped ≡ false
        by false e = e
        by true e = absurd (of (x.2.lost e))

    -- its turn, where its stage stays
    pub turn_on : y.progress.stage ≡ node.progress.stage → ((left right : Pipe) → IsJoinOf w n left right → BuildsFirst w n node left right) → (left right : Pipe) → IsJoinOf v n left right → BuildsFirst v n y left right
    turn_on stage h left right io = subst (λ (z : Pipe). BuildsFirst v n y z right) (sym el) (subst (λ (z : Pipe). BuildsFirst v n y yl z) (sym er) here)
      where
        el : left ≡ yl
        el = same_left F v n yl yr kv Y.of left io.left_enters.0 io.left_enters.1

        er : right ≡ yr
        er = same_right F v n yl yr kv Y.of right io.right_enters.0 io.right_enters.1

        b : BuildsFirst w n node xl xr
        b = h xl xr X.of

        here : BuildsFirst v n y yl yr
        here =
            record {
              builds = λ t.
                  let was = ap is_taking (sym stage) ∙ t in
                  let x = b.builds was in
                  (ap (λ (u : Wire). is_ready u.receive_state) left_goes.wire ∙ x.0, not_dropped was x.1);
              built = λ f. ap (λ (u : Wire). is_done u.receive_state) right_goes.wire ∙ b.built (ap is_taking (sym stage) ∙ f);
              ends = λ s. ap (λ (u : Wire). is_done u.receive_state) left_goes.wire ∙ b.ends (ap is_spent (sym stage) ∙ s);
            }

    -- what came out of it
    pub came : StepOf F w v n node → (z : Pipe) (k : ℕ) (rs : List Row) → Leaves v n z → slice_get z.got k ≡ Some (Some rs) → ((x : Pipe) × Leaves w n x × (slice_get x.got k ≡ Some (Some rs))) ⊎ MayCome F w n k rs
    came s z k rs l e = let x = s.outputs z l in by x.0 x.1 (x.2.got k rs e)
      where
        by : (x : Pipe) → Leaves w n x → (slice_get x.got k ≡ Some (Some rs)) ⊎ MayCome F w n k rs → ((x : Pipe) × Leaves w n x × (slice_get x.got k ≡ Some (Some rs))) ⊎ MayCome F w n k rs
        by x l (inl old) = inl (x, l, old)
        by x l (inr new) = inr new

    abbrev Given : World → Node → Type 0
    Given u z = AllComplete u n × HasAllRight u n z × IsFalse (owes_last j z.progress)

    pub completes : StepOf F w v n node → (Given w node → Given v y) → (z : Pipe) → Leaves v n z → IsComplete z → ((x : Pipe) × Leaves w n x × IsComplete x × (Given w node → Given v y)) ⊎ Given v y
    completes s on z l c = let x = s.outputs z l in inl (x.0, x.1, was_complete x.0 z x.2 c, on)

    -- partials of morsels that are kept
    pub kept_partial : (k : ℕ) (rs : List Row) → KeepsMorsels F w n node 1 → slice_get (slots_at node 1) k ≡ Some (Some rs)
        → (slice_get yr.got k ≡ Some (Some rs)) × (size : ℕ) × IsPartial F y.node y.node.kind 1 (rows_table (schema_of_input v y 1) rs ∷ []) size
    kept_partial k rs h e =
        let a = h.kept xr k rs X.of.right_enters.0 X.of.right_enters.1 e in
        let schema : schema_of_input w node 1 ≡ schema_of_input v y 1 = ap (λ ss. get_or ss 1 []) (sym (same_schemas w v node y shape same)) in (
          fills_at xr.got yr.got right_goes.got k rs a.0,
          a.1,
          subst (λ (p : PhysicalNode). IsPartial F p p.kind 1 (rows_table (schema_of_input v y 1) rs ∷ []) a.1) (sym same) (subst (λ s. IsPartial F node.node node.node.kind 1 (rows_table s rs ∷ []) a.1) schema a.2),
        )

  -- IT STANDS STILL
  pub join_still : GoesOn (TakenElsewhere n) NoneTaken w v → StepOf F w v n node → y.progress ≡ node.progress → OutsWere w v n → OutsStay w v n → HoldsJoin F w n node j → HoldsJoin F v n y j
  join_still g s progress outs stay h =
      record {
        turn = turn_on (TakenElsewhere n) NoneTaken some g stage h.turn;
        keeps_right = record { kept = kept; awaited = awaited };
        keeps_left = λ fills p e i. subst (λ (z : Pipe). slots_at y 0 ≡ take z.next z.got) (sym (same_left F v n yl yr kv Y.of p e i)) (lefts fills);
        has_right = λ t p e i. subst (HasRight y) (sym (same_right F v n yl yr kv Y.of p e i)) (right_is (h.has_right (ap is_giving (sym stage) ∙ t) xr X.of.right_enters.0 X.of.right_enters.1));
        gives = gives_on F w v n node y j o.known shape same xl xr yl yr X.of Y.of gl gr slots (came (TakenElsewhere n) NoneTaken some g s) (λ q c e. inl (outs q c e)) (completes (TakenElsewhere n) NoneTaken some g s given) h.gives;
      }
    where
      some : (x : Pipe) → TakenElsewhere n x → (rs : List Row) × (slice_get x.got x.next ≡ Some (Some rs))
      some x t = t.1

      stage : y.progress.stage ≡ node.progress.stage
      stage = ap (λ (a : Progress). a.stage) progress

      slots_same : (i : ℕ) → slots_at y i ≡ slots_at node i
      slots_same i = ap (λ (a : Progress). get_or a.taken i []) progress

      gl : InputGoes xl yl
      gl = left_on (TakenElsewhere n) NoneTaken some g

      gr : InputGoes xr yr
      gr = right_goes_on (TakenElsewhere n) NoneTaken some g

      slots : HasRight node xr → slots_at y 1 ≡ slots_at node 1
      slots has = slots_same 1

      right_is : HasRight node xr → HasRight y yr
      right_is = right_on F w v n node y j o.known shape same xl xr yl yr X.of Y.of gl gr slots

      given : AllComplete w n × HasAllRight w n node × IsFalse (owes_last j node.progress) → AllComplete v n × HasAllRight v n y × IsFalse (owes_last j y.progress)
      given = given_on F w v n node y j o.known shape same xl xr yl yr X.of Y.of gl gr slots (one_of F v n y j kv Y) (ap (owes_last j) progress)

      next_left : yl.next ≡ xl.next
      next_left = by (left_goes (TakenElsewhere n) NoneTaken some g).next
        where
          by : (yl.next ≡ xl.next) ⊎ (yl.next ≡ suc xl.next) × TakenElsewhere n xl → yl.next ≡ xl.next
          by (inl e) = e
          by (inr (e, t)) = absurd (t.0 X.of.left_enters.0.1)

      lefts : IsTrue (fills_right j.args.how) → slots_at y 0 ≡ take yl.next yl.got
      lefts fills =
          slots_same 0 ∙ h.keeps_left fills xl X.of.left_enters.0 X.of.left_enters.1 ∙ sym (take_fills xl.got yl.got xl.next gl.fills (came_to F w o.known xl X.of.left_enters.0.0)) ∙ ap (λ k. take k yl.got) (sym next_left)

      kept : (q : Pipe) (k : ℕ) (rs : List Row) → Enters v n q → q.wire.input ≡ 1 → slice_get (slots_at y 1) k ≡ Some (Some rs) → (slice_get q.got k ≡ Some (Some rs)) × (size : ℕ) × IsPartial F y.node y.node.kind 1 (rows_table (schema_of_input v y 1) rs ∷ []) size
      kept q k rs e i at =
          let a = kept_partial (TakenElsewhere n) NoneTaken some g k rs h.keeps_right (ap (λ xs. slice_get xs k) (sym (slots_same 1)) ∙ at) in
          (ap (λ (z : Pipe). slice_get z.got k) (same_right F v n yl yr kv Y.of q e i) ∙ a.0, a.1, a.2)

      awaited : v.ending ≡ running → (k : ℕ) → slice_get (slots_at y 1) k ≡ Some None → (x : Piece) × Contains v.outs x × (x.node ≡ n) × (x.input ≡ 1) × (x.number ≡ k) × IsTrue (keeps_one x.task)
      awaited run k at =
          let st = stay run in
          let a = h.keeps_right.awaited st.0 k (ap (λ xs. slice_get xs k) (sym (slots_same 1)) ∙ at) in
          (a.0, st.1 a.0 a.1 a.2 a.5, a.2, a.3, a.4, a.5)
