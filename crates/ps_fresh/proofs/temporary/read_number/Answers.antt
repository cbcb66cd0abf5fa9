use Rattle.std.proofs.Common.{◌∙◌}
use Rattle.std.specs.Prelude.{codes, decimal}
use Rattle.ps_fresh.proofs.Reading.{found, left, reads}
use Rattle.ps_fresh.proofs.temporary.read_number.Goals as goal

pub returns-in_err-digits : goal.returns-in_err-digits
returns-in_err-digits c k t = absurd (found (codes "__POLARS_STMP_") c.args.name.now (decimal k) c.in_err-digits.ensures.cases t.1)

pub returns : goal.returns
returns c k t =
    c.ok.ensures.value
    ∙ reads k c.in_ok-digits.digits.now c.parse.result t.0
    (left (codes "__POLARS_STMP_") c.args.name.now (decimal k) c.in_ok-digits.digits.now c.in_ok-digits.ensures.cases t.1)
    c.parse.ensures.value.0
