use Rattle.std.proofs.Common.{◌≡◌, sym, ap, ◌∙◌, rules}
use Rattle.std.specs.Int.{cast_signed, cast_unsigned, w64}
use Rattle.ps_tables.specs.Cuts.{cut_end, cut_start, end_at, start_at}
use Rattle.ps_tables.proofs.Cuts.{span-is}
use Rattle.ps_tables.proofs.cut.span.Goals as goal

pub returns-in-Some-clause-start : goal.returns-in-Some-clause-start
returns-in-Some-clause-start c =
    let same : cast_signed w64 (cast_unsigned w64 c.in-Some.offset) ≡ c.in-Some.offset = search rules in
    let is = span-is _ c.in-Some.len c.bounds.result.0 c.bounds.result.1 c.args.height c.bounds.ensures.from_start c.bounds.ensures.from_end in
    is.0 ∙ ap (λ z. start_at z c.args.height) same ∙ ap (λ s. cut_start s c.args.height) (sym c.in-Some.is)

pub returns-in-Some-clause-end : goal.returns-in-Some-clause-end
returns-in-Some-clause-end c =
    let same : cast_signed w64 (cast_unsigned w64 c.in-Some.offset) ≡ c.in-Some.offset = search rules in
    let is = span-is _ c.in-Some.len c.bounds.result.0 c.bounds.result.1 c.args.height c.bounds.ensures.from_start c.bounds.ensures.from_end in
    is.1 ∙ ap (λ z. end_at z c.in-Some.len c.args.height) same ∙ ap (λ s. cut_end s c.args.height) (sym c.in-Some.is)
