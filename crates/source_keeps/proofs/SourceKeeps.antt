-- What a source keeps is kept by every step, and by updates and fills.
use Rattle.std.proofs.Common.{◌≡◌, ℕ, ◌⊎◌, Bool, true, false, cond, List, [], ◌∷◌, length, Some, None, refl, sym, ap, subst, ◌∙◌, inl, inr, arith}
use Rattle.std.specs.Prelude.{Contains, IsTrue, nat_eq, nat_lt, slice_get, ◌||◌}
use Rattle.std.proofs.lemmas.Bool.Decides.{nat_tests}
use Rattle.ps_frame.specs.Functions.{Functions}
use Rattle.ps_frame.specs.Tables.{Fields, Row}
use Rattle.ps_meaning.specs.Shape.{PhysicalKind, PhysicalNode, in_memory_source, independent_select}
use Rattle.ps_meaning.specs.Sound.{HasInputs}
use Rattle.ps_options.specs.declared.options.Options.{Options}
use Rattle.ps_ports.specs.Ports.{is_done}
use Rattle.ps_ports.specs.Wires.{Wire}
use Rattle.ps_turns.specs.Claims.{Claim, Next, claim_by, of_own}
use Rattle.ps_turns.specs.Cuts.{cut_of_source}
use Rattle.ps_turns.specs.Heads.{Head}
use Rattle.ps_turns.specs.Progress.{Progress, is_multiplexer}
use Rattle.ps_turns.specs.Tasks.{Piece, computes, hands_on}
use Rattle.ps_turns.specs.Updates.{has_given_all}
use Rattle.ps_world.specs.Claims.{claim_at, inputs_in_phase, next_morsel}
use Rattle.ps_world.specs.Facts.{Facts}
use Rattle.ps_world.specs.World.{Node, Pipe, World, heads_of, inputs_done, schemas_for}
use Rattle.world_laws.proofs.Answered.{in_shape}
use Rattle.world_laws.proofs.PassingPorts.{same_number}
use Rattle.family_pipes.proofs.Inputs.{input_of}
use Rattle.world_families.proofs.Members.{nothing_is}
use Rattle.family_pipes.proofs.Outputs.{MayCome, Onto, gives_keep, was_complete}
use Rattle.family_pipes.proofs.SourceSteps.{HasClaim, IsClaimed, StepOf}
use Rattle.world_families.specs.Holds.{HoldsOfKind}
use Rattle.world_families.specs.Sources.{HasGivenAll, IsSource, KeepsNone, cut_work}
use Rattle.world_families.specs.Work.{Enters, Gives, Leaves, PipesHold, Work, asked_by, work_of}

-- SOURCES
-- the work of a source for a number
abbrev pub SourceWork : Options → PhysicalNode → PhysicalKind → ℕ → Work → Type 0
SourceWork o p (in_memory_source t) k x = x ≡ cut_work o p.schema t.rows k
SourceWork o p (independent_select es) k x = (k ≡ 0) × (x ≡ record { task = computes p; schemas = []; tables = [] })
SourceWork o p kind k x = ⊥

abbrev pub GivesSource : Functions → World → ℕ → Node → PhysicalKind → Type 0
GivesSource F w n node kind = Gives F w n (SourceWork w.options node.node kind) KeepsNone (HasGivenAll w node)

pub of_kind : (F : Functions) (w : World) (n : ℕ) (node : Node) (kind : PhysicalKind) → IsSource kind → HoldsOfKind F w n node kind → GivesSource F w n node kind
of_kind F w n node (in_memory_source t) is h = h
of_kind F w n node (independent_select es) is h = h
of_kind F w n node kind is h = absurd is

pub to_kind : (F : Functions) (w : World) (n : ℕ) (node : Node) (kind : PhysicalKind) → IsSource kind → GivesSource F w n node kind → HoldsOfKind F w n node kind
to_kind F w n node (in_memory_source t) is h = h
to_kind F w n node (independent_select es) is h = h
to_kind F w n node kind is h = absurd is

pub single : (kind : PhysicalKind) → IsSource kind → is_multiplexer kind ≡ false
single (in_memory_source t) is = refl
single (independent_select es) is = refl
single kind is = absurd is

pub given_by_sent : (o : Options) (kind : PhysicalKind) (a b : Progress) → IsSource kind → a.sent ≡ b.sent → has_given_all o kind a ≡ has_given_all o kind b
given_by_sent o (in_memory_source t) a b is e = ap (λ k. has_given_all o (in_memory_source t) (record a { sent = k })) e
given_by_sent o (independent_select es) a b is e = ap (λ k. nat_lt 0 k) e
given_by_sent o kind a b is e = absurd is

no_inputs : (kind : PhysicalKind) (k : ℕ) → IsSource kind → HasInputs kind k → k ≡ 0
no_inputs (in_memory_source t) k is h = h
no_inputs (independent_select es) k is h = h
no_inputs kind k is h = absurd is

-- A CLAIM OF A SOURCE
by_tests : (b e : Bool) (x c : Claim) → cond b (cond e None (Some x)) None ≡ Some c → (e ≡ false) × (x ≡ c)
by_tests true true x c q = absurd (nothing_is c q)
by_tests true false x c q = (refl, let same : x ≡ c = cc in same)
by_tests false e x c q = absurd (nothing_is c q)

by_test : (b e : Bool) (x c : Claim) → cond b (cond e (Some x) None) None ≡ Some c → (e ≡ true) × (x ≡ c)
by_test true true x c q = (refl, let same : x ≡ c = cc in same)
by_test true false x c q = absurd (nothing_is c q)
by_test false e x c q = absurd (nothing_is c q)

not_positive : (n : ℕ) → n ≡ 0 → nat_lt 0 n ≡ false
not_positive n e = grind (arith, nat_tests)

claims_next : (o : Options) (p : PhysicalNode) (ss : List Fields) (kind : PhysicalKind) (progress : Progress) (hs : List Head) (ds : List Bool) (i : ℕ) (next : Next) (c : Claim) → IsSource kind → claim_by o p ss kind progress hs ds i next ≡ Some c
    → SourceWork o p kind c.gives (asked_by c) × (has_given_all o kind progress ≡ false)
claims_next o p ss (in_memory_source t) progress hs ds i next c is e =
    let h = by_tests (nat_eq i 0) (has_given_all o (in_memory_source t) progress) (of_own o p ss progress hands_on (p.schema ∷ []) (cut_of_source o t.rows progress.sent ∷ [])) c e in
    (subst (λ (x : Claim). SourceWork o p (in_memory_source t) x.gives (asked_by x)) h.1 refl, h.0)
claims_next o p ss (independent_select es) progress hs ds i next c is e =
    let h = by_test (nat_eq i 0) (nat_eq progress.sent 0) (of_own o p ss progress (computes p) [] []) c e in
    let zero_sent = same_number progress.sent 0 h.0 in
    (subst (λ (x : Claim). SourceWork o p (independent_select es) x.gives (asked_by x)) h.1 (zero_sent, refl), not_positive progress.sent zero_sent)
claims_next o p ss kind progress hs ds i next c is e = absurd is

module _ (F : Functions) (n : ℕ) where
  -- what a world keeps of a source
  abbrev pub Keeps : World → Type 0
  Keeps w = (node : Node) → slice_get w.nodes n ≡ Some node → IsSource node.node.kind → PipesHold w n × GivesSource F w n node node.node.kind

  -- no pipe leads to a source
  pub no_pipe : (w : World) (node : Node) → Facts F w → slice_get w.nodes n ≡ Some node → IsSource node.node.kind → (q : Pipe) → Enters w n q → ⊥
  no_pipe w node f at is q c =
      let shape = in_shape w n node at in
      let none = no_inputs node.node.kind (length node.node.inputs) is (f.sound.0 n node.node shape).inputs in
      by node.node.inputs none (input_of F w f n node.node q shape c.0 c.1)
    where
      by : (qs : List (ℕ × ℕ)) → length qs ≡ 0 → slice_get qs q.wire.input ≡ Some (q.wire.sender, q.wire.port) → ⊥
      by [] e h = nothing_is (q.wire.sender, q.wire.port) h
      by (x ∷ xs) e h = absurd (omega arith)

  -- the work of a source hangs on the options and the node
  same_work : (o o' : Options) (p p' : PhysicalNode) → o' ≡ o → p' ≡ p → (k : ℕ) (x : Work) → SourceWork o p p.kind k x → SourceWork o' p' p'.kind k x
  same_work o o' p p' a b k x h = subst (λ q. SourceWork o' q q.kind k x) (sym b) (subst (λ u. SourceWork u p p.kind k x) (sym a) h)

  -- A STEP OF AN OPEN PHASE
  pub step_keeps : (w v : World) (node : Node) → Facts F v → slice_get w.nodes n ≡ Some node → StepOf F w v n node → Keeps w → Keeps v
  step_keeps w v node fv there s h y at is =
      let t = s.sent y at in
      let was : IsSource node.node.kind = subst (λ (p : PhysicalNode). IsSource p.kind) t.0 is in
      let k = h node there was in (
        record {
          done = λ q c d. absurd (no_pipe v y fv at is q c);
          read = λ q c d. absurd (no_pipe v y fv at is q c);
          unread = λ p l d. unread_kept k.0 p (s.outputs p l) d;
        },
        gives_keep F w v n (SourceWork w.options node.node node.node.kind) (SourceWork v.options y.node y.node.kind) KeepsNone KeepsNone (HasGivenAll w node) (HasGivenAll v y)
            (same_work w.options v.options node.node y.node s.options t.0) (λ q none. none) (λ q rs none result. absurd none) (λ p j rs l e. came p j rs (s.outputs p l) e) (λ q c e. piece was q (s.pieces q c e) t.0)
            (λ p l c. inl (let o = s.outputs p l in (o.0, o.1, was_complete o.0 p o.2 c, all_given was y t))) k.1,
      )
    where
      unread_kept : PipesHold w n → (p : Pipe) → (x : Pipe) × Leaves w n x × Onto (MayCome F w n) x p → IsTrue (is_done p.wire.receive_state) → IsTrue (is_done p.wire.send_state || p.is_unread)
      unread_kept k p (x, l, o) d =
          let old = k.unread x l (ap (λ (u : Wire). is_done u.receive_state) (sym o.wire) ∙ d) in
          (λ i. is_done (o.wire i).send_state || o.unread i) ∙ old

      came : (p : Pipe) (j : ℕ) (rs : List Row) → (x : Pipe) × Leaves w n x × Onto (MayCome F w n) x p → slice_get p.got j ≡ Some (Some rs) → ((x : Pipe) × Leaves w n x × (slice_get x.got j ≡ Some (Some rs))) ⊎ MayCome F w n j rs
      came p j rs (x, l, o) e = by (o.got j rs e)
        where
          by : (slice_get x.got j ≡ Some (Some rs)) ⊎ MayCome F w n j rs → ((z : Pipe) × Leaves w n z × (slice_get z.got j ≡ Some (Some rs))) ⊎ MayCome F w n j rs
          by (inl old) = inl (x, l, old)
          by (inr new) = inr new

      claim_is : (i : ℕ) (c : Claim) → IsSource node.node.kind → claim_at w n i node ≡ Some c → SourceWork w.options node.node node.node.kind c.gives (asked_by c) × (has_given_all w.options node.node.kind node.progress ≡ false)
      claim_is i c was e = claims_next w.options node.node (schemas_for w node) node.node.kind node.progress (heads_of w n node) (inputs_done w n) i (next_morsel (inputs_in_phase w n i)) c was e

      piece : IsSource node.node.kind → (q : Piece) → Contains w.outs q ⊎ IsClaimed w n node q → y.node ≡ node.node → Contains w.outs q ⊎ SourceWork v.options y.node y.node.kind q.gives (work_of q) ⊎ KeepsNone q
      piece was q (inl old) e = inl old
      piece was q (inr (i, worker, c, claim, new)) e = inr (inl (subst (λ (z : Piece). SourceWork v.options y.node y.node.kind z.gives (work_of z)) new (same_work w.options v.options node.node y.node s.options e c.gives (asked_by c) (claim_is i c was claim).0)))

      all_given : IsSource node.node.kind → (y : Node) → (y.node ≡ node.node) × ((y.progress.sent ≡ node.progress.sent) ⊎ HasClaim w n node) → HasGivenAll w node → HasGivenAll v y
      all_given was y (e, inl same) all = (λ i. has_given_all (s.options i) (e i).kind y.progress) ∙ given_by_sent w.options node.node.kind y.progress node.progress was same ∙ all
      all_given was y (e, inr (i, c, claim)) all = absurd (let never : false ≡ true = sym (claim_is i c was claim).1 ∙ all in cc)
