use Rattle.std.proofs.Common.{◌++◌, string_bytes, sym, arith}
use Rattle.ps_phys.proofs.Lines.{lines-end, one-more-line, rest_lines}
use Rattle.ps_phys.proofs.text.push_lines.Goals as goal

pub loop-number-preserved : goal.loop-number-preserved
loop-number-preserved c = λ f.
    one-more-line f c.args.phys.now.slots c.args.order.now c.args.places.now.slots (string_bytes c.args.text.now ++ rest_lines f c.args.phys.now.slots c.args.order.now 0) (string_bytes c.loop-number.text) (string_bytes c.push_line.new.text)
    c.loop-number.number _ c.in-Some.node.now c.loop-number-test.true (sym c.in-Some.ensures) c.requires.places (c.in_ok-push_line.ensures.text f) (c.loop-number.invariant f)

pub returns-clause-text : goal.returns-clause-text
returns-clause-text c = λ f.
    let past = c.loop-number-test.false in
    lines-end f c.args.phys.now.slots c.args.order.now c.loop-number.number (string_bytes c.loop-number.text) (string_bytes c.args.text.now ++ rest_lines f c.args.phys.now.slots c.args.order.now 0) (omega (arith, past)) (c.loop-number.invariant f)
