-- Which nodes are at work, by their marks.
use Rattle.std.proofs.Common.{◌≡◌, ℕ, Bool, true, false, List, Option, Some, None, refl, sym, ap, ◌∙◌}
use Rattle.std.specs.Prelude.{◌&&◌, IsTrue, map, not, slice_get}
use Rattle.flow_moves.proofs.Moves.{no_move}
use Rattle.flow_moves.specs.Moves.{IsMoveOf}
use Rattle.ps_flow.specs.Marked.{mark_of}
use Rattle.ps_flow.specs.declared.marks.Mark.{Mark}
use Rattle.ps_frame.specs.Functions.{Functions}
use Rattle.ps_settle.proofs.Members.{at_map, map_at}
use Rattle.ps_world.specs.Step.{IsAtWork}
use Rattle.ps_world.specs.World.{Node, World, running}

module _ (w : World) (n : ℕ) (marks : List Mark) (are : marks ≡ map mark_of w.nodes) (b : Bool) (told : (m : Mark) → slice_get marks n ≡ Some m → b ≡ (m.in_phase && not m.is_closed)) where
  -- a node at work is told so
  told_at_work : (x : Node) → IsAtWork w n x → b ≡ true
  told_at_work x at = told (mark_of x) (ap (λ l. slice_get l n) are ∙ map_at mark_of w.nodes n x at.0) ∙ second w.is_open (x.in_phase && not x.is_closed) at.1
    where
      second : (a c : Bool) → (a && c) ≡ true → c ≡ true
      second true c e = e
      second false c e = absurd (let no_way : false ≡ true = e in cc)

  pub idle : (F : Functions) → b ≡ false → IsMoveOf F w n None
  idle F e = no_move F w n (λ i k worker v s. clash s.0 s.1) (λ i k v s. clash s.0 s.1) (λ v s. clash s.0 s.1)
    where
      clash : (x : Node) → IsAtWork w n x → ⊥
      clash x at = absurd (let no_way : true ≡ false = sym (told_at_work x at) ∙ e in cc)

  pub at_work : (slice_get marks n ≡ None → b ≡ false) → b ≡ true → IsTrue w.is_open → w.ending ≡ running → (x : Node) × IsAtWork w n x
  at_work none e open_phase runs = by (slice_get marks n) refl
    where
      by : (o : Option Mark) → slice_get marks n ≡ o → (x : Node) × IsAtWork w n x
      by None is = absurd (let no_way : true ≡ false = sym e ∙ none is in cc)
      by (Some m) is =
          let x = at_map mark_of w.nodes n m (ap (λ l. slice_get l n) (sym are) ∙ is) in
          let flags : (x.0.in_phase && not x.0.is_closed) ≡ true = ap (λ (z : Mark). z.in_phase && not z.is_closed) x.2 ∙ sym (told m is) ∙ e in
          (x.0, (x.1, (λ i. open_phase i && flags i), runs))
