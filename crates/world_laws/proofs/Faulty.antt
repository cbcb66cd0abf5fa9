-- A run that a fault ended names a cause by which its node is broken in some meaning, or a node that is large.
use Rattle.std.proofs.Common.{◌≡◌, ℕ, ◌⊎◌, Bool, true, false, Some, refl, ap, subst, inl, inr}
use Rattle.std.specs.Prelude.{slice_get, not, ◌&&◌}
use Rattle.ps_frame.specs.Causes.{Cause}
use Rattle.ps_frame.specs.Functions.{Functions}
use Rattle.ps_meaning.specs.Shape.{PhysicalBrokenBy, PhysicalIsLarge, PhysicalNode, Shape}
use Rattle.ps_meaning.specs.Sound.{input_schemas}
use Rattle.ps_world.specs.World.{Record, World, handed_in, opened, pulled, claimed, closed, ended, shape_of}
use Rattle.ps_world.specs.Laws.{AnyKind, FactsLaw, FamilyLaw, Faults, MakesFault, Overflows, sent_at, sent_to}
use Rattle.ps_world.specs.Promises.{NamesCause}
use Rattle.world_laws.proofs.Answered.{in_shape}
use Rattle.world_laws.proofs.Induction.{Keeps, after_updates, all_justified}
use Rattle.world_laws.proofs.OneChoice.{faulty_is_broken, large_by}

first_true : (a b : Bool) → (a && b) ≡ true → a ≡ true
first_true true b e = refl
first_true false b e = e

module _ (F : Functions) (Facts : World → Type 0) (Holds : World → ℕ → Type 0) (facts : FactsLaw F Facts) (law : FamilyLaw F AnyKind Facts Holds) where
  -- what a node's law says of a fault in a world names a cause of the shape
  names_at : (shape : Shape) (w : World) (n : ℕ) (p : PhysicalNode) (c : Cause) → Keeps F Facts Holds facts law shape w → slice_get (shape_of w) n ≡ Some p
      → Faults F p (input_schemas (shape_of w) p) (sent_to (sent_at w) p) c ⊎ Overflows F p (input_schemas (shape_of w) p) (sent_to (sent_at w) p) c → NamesCause F shape c
  names_at shape w n p c k e (inl f) =
      (n, p, subst (λ x. slice_get x n ≡ Some p) k.same e, f.0, inl (subst (λ x. PhysicalBrokenBy F x n c) k.same (faulty_is_broken F (shape_of w) (sent_at w) (facts.forward w k.known) (all_justified F Facts Holds facts law shape w k) n p c e f.1)))
  names_at shape w n p c k e (inr o) =
      (n, p, subst (λ x. slice_get x n ≡ Some p) k.same e, ap (λ (x : Cause). x.node) o.0, inr (o.0, subst (λ x. PhysicalIsLarge F x n) k.same (large_by F (shape_of w) (sent_at w) (facts.forward w k.known) (all_justified F Facts Holds facts law shape w k) n p e o.1)))

  -- each node keeps its family's invariant
  held : (shape : Shape) (w : World) (n : ℕ) (p : PhysicalNode) → Keeps F Facts Holds facts law shape w → slice_get (shape_of w) n ≡ Some p → Holds w n
  held shape w n p k e = k.each n p (subst (λ x. slice_get x n ≡ Some p) k.same e)

  pub names_cause : (shape : Shape) (w : World) (r : Record) (n : ℕ) (c : Cause) → Keeps F Facts Holds facts law shape w → MakesFault F w r n c → NamesCause F shape c
  names_cause shape w (opened phase) n c k m =
      let s = m.1.0 in
      let found = m.1.2 in
      let ks = after_updates F Facts Holds facts law shape w s k m.0 m.1.1 in
      let e = in_shape s n found.0 found.1 in
      names_at shape s n found.0.node c ks e (law.open_faults s n found.0.node c ks.known e tt (held shape s n found.0.node ks e) found)
  names_cause shape w (handed_in j i number worker handed) n c k m =
      let at = facts.piece_nodes w m.1 k.known m.2 in
      let same : m.1.node ≡ n = m.3 in
      let e = subst (λ x. slice_get (shape_of w) x ≡ Some at.0.node) same (in_shape w m.1.node at.0 at.1) in
      names_at shape w n at.0.node c k e (law.faults w (handed_in j i number worker handed) n at.0.node c k.known e tt (held shape w n at.0.node k e) (facts.pieces_open w m.1 k.known m.2) m)
  names_cause shape w (pulled j i number) n c k m =
      let step = m.2 in
      let e = subst (λ x. slice_get (shape_of w) x ≡ Some step.0.node) m.0 (in_shape w j step.0 step.1.0) in
      names_at shape w n step.0.node c k e (law.faults w (pulled j i number) n step.0.node c k.known e tt (held shape w n step.0.node k e) (first_true w.is_open (step.0.in_phase && not step.0.is_closed) step.1.1) m)
  names_cause shape w (claimed j i number worker) n c k m = absurd m
  names_cause shape w (closed j) n c k m = absurd m
  names_cause shape w (ended phase) n c k m = absurd m
