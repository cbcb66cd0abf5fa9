use Rattle.std.proofs.Common.{◌∙◌, ap, refl, arith}
use Rattle.std.specs.Prelude.{◌+ℤ◌}
use Rattle.std.specs.Iterator.{size}
use Rattle.pu_index.proofs.Counting.{has-number, has-rest}
use Rattle.pu_index.proofs.iterators.EnumerateIdxIterator.next.Goals as goal

pub further-self-requires : goal.further-self-requires
further-self-requires g c =
    let progress = c.in_ok-item.ensures.goes.on c.requires.1 in
    let exact = g.met.N.Integral.exact_law in
    has-number g.N.Number.fits (λ x y z. g.N.Number.between_law x y z exact) (g.met.N.Zero.zero_fits_law exact)
    (g.N.Number.value c.args.self.now.count) (g.N.Number.value c.one.result) (size (g.I.Iterator.remaining c.args.self.now.iter)) 1
    c.requires.2 (omega (arith, progress.2)) (ap g.N.Number.value c.one.ensures ∙ g.met.N.One.one_law exact)

pub returns-clause-steps : goal.returns-clause-steps
returns-clause-steps g c = (
  c.in_ok-item.ensures.steps,
  refl,
  c.further-self.ensures ∙ ap (λ n. g.N.Number.value c.args.self.now.count +ℤ n) (ap g.N.Number.value c.one.ensures ∙ g.met.N.One.one_law g.met.N.Integral.exact_law),
)

pub returns-clause-goes : goal.returns-clause-goes
returns-clause-goes g c =
    let progress = c.in_ok-item.ensures.goes.on c.requires.1 in
    let exact = g.met.N.Integral.exact_law in
    let has =
    has-rest g.N.Number.fits (λ x y z. g.N.Number.between_law x y z exact) (g.met.N.Zero.zero_fits_law exact)
    (g.N.Number.value c.args.self.now.count) (g.N.Number.value c.further-self.result)
    (size (g.I.Iterator.remaining c.args.self.now.iter)) (size (g.I.Iterator.remaining c.next.new.self)) c.requires.2 progress.2
    (c.further-self.ensures ∙ ap (λ n. g.N.Number.value c.args.self.now.count +ℤ n) (ap g.N.Number.value c.one.ensures ∙ g.met.N.One.one_law exact)) in
    record { on = λ _. ((progress.0, progress.1, has), progress.1, progress.2); keeps = (progress.0, progress.1, has); rests = λ _. tt }
