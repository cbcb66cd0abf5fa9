use Rattle.std.proofs.Common.{arith}
use Rattle.std.specs.Iterator.{size}
use Rattle.pu_index.proofs.Counting.{has-number, has-count, has-fewer, is-some}
use Rattle.pu_index.proofs.iterators.EnumerateIdxDoubleEndedIterator.next_back.Goals as goal

pub further-requires : goal.further-requires
further-requires g c =
    let progress = c.in_ok-item.ensures.goes.on c.requires.1 in
    let exact = g.met.N.Integral.exact_law in
    has-number g.N.Number.fits (λ x y z. g.N.Number.between_law x y z exact) (g.met.N.Zero.zero_fits_law exact)
    (g.N.Number.value c.args.self.now.count) (g.N.Number.value c.unwrap-before.result) (size (g.I.Iterator.remaining c.args.self.now.iter)) c.len.result
    c.requires.2 (omega (arith, progress.2, c.len.ensures.value)) (rw c.unwrap-before.ensures at c.from_usize.ensures.value exact).1

pub unwrap-before-requires : goal.unwrap-before-requires
unwrap-before-requires g c =
    let progress = c.in_ok-item.ensures.goes.on c.requires.1 in
    let exact = g.met.N.Integral.exact_law in
    is-some g.N.Number.value g.N.Number.fits _ c.from_usize.result (c.from_usize.ensures.value exact)
    (has-count g.N.Number.fits (λ x y z. g.N.Number.between_law x y z exact) (g.met.N.Zero.zero_fits_law exact)
    (g.N.Number.value c.args.self.now.count) (size (g.I.Iterator.remaining c.args.self.now.iter)) c.len.result
    c.requires.2 (omega (arith, progress.2, c.len.ensures.value)))

pub returns-clause-goes : goal.returns-clause-goes
returns-clause-goes g c =
    let progress = c.in_ok-item.ensures.goes.on c.requires.1 in
    let exact = g.met.N.Integral.exact_law in
    let has =
    has-fewer g.N.Number.fits (λ x y z. g.N.Number.between_law x y z exact) (g.met.N.Zero.zero_fits_law exact)
    (g.N.Number.value c.args.self.now.count) (size (g.I.Iterator.remaining c.args.self.now.iter)) (size (g.I.Iterator.remaining c.next_back.new.self))
    c.requires.2 progress.2 in
    record { on = λ _. ((progress.0, progress.1, has), progress.1, progress.2); keeps = (progress.0, progress.1, has); rests = λ _. tt }
