-- By the marks of the nodes.
use Rattle.std.proofs.Common.{◌≡◌, ◌∙◌, ap, false, sym, true}
use Rattle.std.specs.Prelude.{◌||◌, not}
use Rattle.std.specs.List.{list_all}
use Rattle.flow_moves.proofs.Between.{all_closed, ends, marked_closed}
use Rattle.flow_moves.proofs.picking.end_of.Goals as goal
use Rattle.ps_flow.specs.declared.marks.Mark.{Mark}
use Rattle.ps_flow.specs.declared.marks.Marks.{Marks}

pub returns-then-are_all_left-clause-some : goal.returns-then-are_all_left-clause-some
returns-then-are_all_left-clause-some g c = λ F w stands open_phase runs.
    let marks = c.as_slice.ensures ∙ ap (λ (m : Marks). m.list.items) c.marks.ensures ∙ stands.marks in
    let left = ap (list_all (λ (m : Mark). not m.in_phase || m.is_closed)) (sym marks) ∙ sym c.are_all_left.ensures ∙ c.if-are_all_left.true in
    ends F w open_phase runs (all_closed w.nodes left)

pub returns-else-are_all_left-clause-none : goal.returns-else-are_all_left-clause-none
returns-else-are_all_left-clause-none g c = λ w stands all.
    let marks = c.as_slice.ensures ∙ ap (λ (m : Marks). m.list.items) c.marks.ensures ∙ stands.marks in
    let left = ap (list_all (λ (m : Mark). not m.in_phase || m.is_closed)) (sym marks) ∙ sym c.are_all_left.ensures ∙ c.if-are_all_left.false in
    absurd (let clash : true ≡ false = sym (marked_closed w.nodes all) ∙ left in cc)
