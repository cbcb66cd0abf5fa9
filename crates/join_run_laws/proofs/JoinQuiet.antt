-- Between phases nothing comes to an equi join and nothing leaves it: what is kept of it stays, by what it says of its ports.
use Rattle.std.proofs.Common.{◌≡◌, ℕ, ◌⊎◌, List, [], ◌∷◌, take, Some, None, sym, ap, subst, ◌∙◌, inl, inr, arith}
use Rattle.std.specs.Prelude.{Contains, IsFalse, IsTrue, get_or, slice_get}
use Rattle.ps_frame.specs.Functions.{Functions}
use Rattle.ps_frame.specs.Tables.{Row}
use Rattle.ps_meaning.specs.Cases.{rows_table}
use Rattle.ps_meaning.specs.Shape.{PhysicalNode}
use Rattle.ps_meaning.specs.Steps.{JoinStep}
use Rattle.ps_turns.specs.Claims.{owes_last}
use Rattle.ps_turns.specs.Progress.{is_giving}
use Rattle.ps_turns.specs.Results.{IsPartial}
use Rattle.ps_turns.specs.Tasks.{Piece}
use Rattle.ps_world.specs.Facts.{Joins, joins_of, keeps_one}
use Rattle.ps_world.specs.World.{Node, Pipe, World, running, shape_of}
use Rattle.world_claims.specs.Numbering.{Known}
use Rattle.world_families.specs.Joins.{BuildsFirst, HasAllRight, HasRight, HoldsJoin}
use Rattle.world_families.specs.Keepers.{schema_of_input, slots_at}
use Rattle.world_families.specs.Work.{AllComplete, Enters, IsComplete, Leaves}
use Rattle.family_pipes.proofs.Outputs.{MayCome}
use Rattle.join_run_laws.proofs.JoinInputs.{JoinAt, same_left, same_right}
use Rattle.join_run_laws.proofs.JoinGoes.{InputGoes, fills_at, gives_on, given_on, right_on, same_schemas}
use Rattle.join_run_laws.proofs.JoinStill.{one_of}
use Rattle.passing_runs.proofs.Slots.{Fills, fills_same}

-- a pipe beside the one before that got and gave nothing
pub record Rests (x y : Pipe) : Type 0 where
  pub joins : joins_of y ≡ joins_of x
  pub got : y.got ≡ x.got
  pub next : y.next ≡ x.next
  pub completes : IsComplete x → IsComplete y

abbrev pub AllRest : World → World → Type 0
AllRest w v = (y : Pipe) → Contains v.pipes y → (x : Pipe) × Contains w.pipes x × Rests x y

-- all that came of both inputs is there and kept, and it owes nothing
abbrev pub Given : World → ℕ → Node → JoinStep → Type 0
Given w n node j = AllComplete w n × HasAllRight w n node × IsFalse (owes_last j node.progress)

module _ (F : Functions) (w v : World) (n : ℕ) (node y : Node) (j : JoinStep) (kw : Known F w) (kv : Known F v) (shape : shape_of v ≡ shape_of w) (same : y.node ≡ node.node)
    (X : JoinAt F w n node j) (Y : JoinAt F v n y j) (back : AllRest w v) (outs : v.outs ≡ w.outs) (ran : v.ending ≡ running → w.ending ≡ running)
    (taken : y.progress.taken ≡ node.progress.taken) (sent : y.progress.sent ≡ node.progress.sent) where
  abbrev pub xl : Pipe
  xl = X.left

  abbrev pub xr : Pipe
  xr = X.right

  abbrev pub yl : Pipe
  yl = Y.left

  abbrev pub yr : Pipe
  yr = Y.right

  pub left_rests : Rests xl yl
  left_rests =
      let x = back yl Y.of.left_enters.0.0 in
      subst (λ z. Rests z yl) (same_left F w n xl xr kw X.of x.0 (x.1, sym (ap (λ (k : Joins). k.receiver) x.2.joins) ∙ Y.of.left_enters.0.1) (sym (ap (λ (k : Joins). k.input) x.2.joins) ∙ Y.of.left_enters.1)) x.2

  pub right_rests : Rests xr yr
  right_rests =
      let x = back yr Y.of.right_enters.0.0 in
      subst (λ z. Rests z yr) (same_right F w n xl xr kw X.of x.0 (x.1, sym (ap (λ (k : Joins). k.receiver) x.2.joins) ∙ Y.of.right_enters.0.1) (sym (ap (λ (k : Joins). k.input) x.2.joins) ∙ Y.of.right_enters.1)) x.2

  goes : (x z : Pipe) → Rests x z → InputGoes x z
  goes x z r = record { fills = subst (Fills x.got) (sym r.got) (fills_same x.got); reads = (let e = r.next in omega (arith, e)); rests = λ c. (r.completes c, r.got) }

  gl : InputGoes xl yl
  gl = goes xl yl left_rests

  gr : InputGoes xr yr
  gr = goes xr yr right_rests

  slots_same : (i : ℕ) → slots_at y i ≡ slots_at node i
  slots_same i = ap (λ ts. get_or ts i []) taken

  slots : HasRight node xr → slots_at y 1 ≡ slots_at node 1
  slots r = slots_same 1

  pub right_still : HasRight node xr → HasRight y yr
  right_still = right_on F w v n node y j kw shape same xl xr yl yr X.of Y.of gl gr slots

  pub given_still : Given w n node j → Given v n y j
  given_still = given_on F w v n node y j kw shape same xl xr yl yr X.of Y.of gl gr slots (one_of F v n y j kv Y) (ap (λ k. owes_last j (record node.progress { sent = k })) sent)

  -- by its turn, by its right rows where it gives, and by why an output is complete
  pub quiet_join : BuildsFirst v n y yl yr → (IsTrue (is_giving y.progress.stage) → HasRight y yr) → ((p : Pipe) → Leaves v n p → IsComplete p → ((x : Pipe) × Leaves w n x × IsComplete x) ⊎ Given v n y j) → HoldsJoin F w n node j → HoldsJoin F v n y j
  quiet_join turn has completes h =
      record {
        turn = λ left right io.
            subst (λ (z : Pipe). BuildsFirst v n y z right) (sym (same_left F v n yl yr kv Y.of left io.left_enters.0 io.left_enters.1))
            (subst (λ (z : Pipe). BuildsFirst v n y yl z) (sym (same_right F v n yl yr kv Y.of right io.right_enters.0 io.right_enters.1)) turn);
        keeps_right = record { kept = kept; awaited = awaited };
        keeps_left = λ fills p e i. subst (λ (z : Pipe). slots_at y 0 ≡ take z.next z.got) (sym (same_left F v n yl yr kv Y.of p e i)) (slots_same 0 ∙ h.keeps_left fills xl X.of.left_enters.0 X.of.left_enters.1 ∙ (λ i. take (sym left_rests.next i) (sym left_rests.got i)));
        has_right = λ t p e i. subst (HasRight y) (sym (same_right F v n yl yr kv Y.of p e i)) (has t);
        gives = gives_on F w v n node y j kw shape same xl xr yl yr X.of Y.of gl gr slots came (λ q c e. inl (subst (λ qs. Contains qs q) outs c)) (λ p l c. why (completes p l c)) h.gives;
      }
    where
      kept : (q : Pipe) (k : ℕ) (rs : List Row) → Enters v n q → q.wire.input ≡ 1 → slice_get (slots_at y 1) k ≡ Some (Some rs) → (slice_get q.got k ≡ Some (Some rs)) × (size : ℕ) × IsPartial F y.node y.node.kind 1 (rows_table (schema_of_input v y 1) rs ∷ []) size
      kept q k rs e i at =
          let a = h.keeps_right.kept xr k rs X.of.right_enters.0 X.of.right_enters.1 (ap (λ xs. slice_get xs k) (sym (slots_same 1)) ∙ at) in
          let schema : schema_of_input w node 1 ≡ schema_of_input v y 1 = ap (λ ss. get_or ss 1 []) (sym (same_schemas w v node y shape same)) in (
            ap (λ (z : Pipe). slice_get z.got k) (same_right F v n yl yr kv Y.of q e i) ∙ fills_at xr.got yr.got gr.fills k rs a.0,
            a.1,
            subst (λ (p : PhysicalNode). IsPartial F p p.kind 1 (rows_table (schema_of_input v y 1) rs ∷ []) a.1) (sym same) (subst (λ s. IsPartial F node.node node.node.kind 1 (rows_table s rs ∷ []) a.1) schema a.2),
          )

      awaited : v.ending ≡ running → (k : ℕ) → slice_get (slots_at y 1) k ≡ Some None → (x : Piece) × Contains v.outs x × (x.node ≡ n) × (x.input ≡ 1) × (x.number ≡ k) × IsTrue (keeps_one x.task)
      awaited run k at = let a = h.keeps_right.awaited (ran run) k (ap (λ xs. slice_get xs k) (sym (slots_same 1)) ∙ at) in (a.0, subst (λ qs. Contains qs a.0) (sym outs) a.1, a.2, a.3, a.4, a.5)

      came : (z : Pipe) (k : ℕ) (rs : List Row) → Leaves v n z → slice_get z.got k ≡ Some (Some rs) → ((x : Pipe) × Leaves w n x × (slice_get x.got k ≡ Some (Some rs))) ⊎ MayCome F w n k rs
      came z k rs l e = let x = back z l.0 in inl (x.0, (x.1, sym (ap (λ (k : Joins). k.sender) x.2.joins) ∙ l.1), ap (λ xs. slice_get xs k) (sym x.2.got) ∙ e)

      why : ((x : Pipe) × Leaves w n x × IsComplete x) ⊎ Given v n y j → ((x : Pipe) × Leaves w n x × IsComplete x × (Given w n node j → Given v n y j)) ⊎ Given v n y j
      why (inl (x, l, c)) = inl (x, l, c, given_still)
      why (inr g) = inr g
