use Rattle.std.proofs.Common.{arith, ap, length, min, sym, ◌∙◌}
use Rattle.ps_meaning.specs.Steps.{name_in}
use Rattle.ps_meaning.specs.declared.options.ExprIR.{ExprIR}
use Rattle.lowering_parts.specs.Gathered.{names_asked}
use Rattle.expr_lowering.proofs.CallLemmas.{as_many_names_asked, name_at}
use Rattle.lowering_parts.proofs.NameLemmas.{under_end, under_step}
use Rattle.expr_lowering.proofs.exprs.under_their_names.Goals as goal

pub loop-i-preserved : goal.loop-i-preserved
loop-i-preserved c f =
    let m = c.min-count.ensures in
    let lt = c.loop-i-test.true in
    let n = as_many_names_asked c.args.asked.now in
    under_step f (names_asked c.args.asked.now) c.args.answered.now c.loop-i.i (record { 0 = 0 }) c.loop-i.named.items c.push.new.self.items c.in_ok-under_name_of.field-0 (omega arith) (omega arith) c.in_ok-push.ensures.items
    (ap name_in c.in_ok-under_name_of.ensures.name ∙ ap (λ (e : ExprIR). name_in e.output_name) c.index-asked-i.is ∙ sym (name_at c.args.asked.now c.loop-i.i c.index-asked-i.result (omega arith)))
    c.in_ok-under_name_of.ensures.node (c.loop-i.invariant f)

pub returns-clause-named : goal.returns-clause-named
returns-clause-named c f =
    under_end f (names_asked c.args.asked.now) c.args.answered.now c.loop-i.i c.min-count.result _ (c.min-count.ensures ∙ ap (λ n. min n (length c.args.answered.now)) (sym (as_many_names_asked c.args.asked.now))) c.loop-i-test.false c.loop-i.auto.i-end (c.loop-i.invariant f)
