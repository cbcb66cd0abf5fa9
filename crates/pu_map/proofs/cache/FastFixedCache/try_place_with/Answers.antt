use Rattle.std.proofs.Common.{◌≡◌, refl, Err, subst}
use Rattle.std.specs.Fn.{FnOnceReturnsAt}
use Rattle.pu_map.proofs.cache.FastFixedCache.try_place_with.Goals as goal

pub returns-in-Err-f-clause-refused : goal.returns-in-Err-f-clause-refused
returns-in-Err-f-clause-refused g c e is =
    let same : c.in-Err-f.error ≡ e = cc in
    let gave : FnOnceReturnsAt g.F.FnOnce c.args.f c.in-Ok.copy (Err c.in-Err-f.error) = (_, c.in-Err-f.ensures, refl) in
    (c.in-Ok.copy, (c.in-Ok.ensures.cases, subst (λ x. FnOnceReturnsAt g.F.FnOnce c.args.f c.in-Ok.copy (Err x)) same gave))
