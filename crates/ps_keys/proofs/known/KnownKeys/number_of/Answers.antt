use Rattle.std.proofs.Common.{◌+◌, ◌<◌, length, refl, ap, subst}
use Rattle.std.proofs.Common.{slice_set}
use Rattle.ps_keys.specs.Tables.{firsts_of}
use Rattle.ps_keys.proofs.Codes.{knows-noted}
use Rattle.ps_keys.proofs.known.KnownKeys.number_of.Goals as goal

pub returns-then-index-eq0-clause-known : goal.returns-then-index-eq0-clause-known
returns-then-index-eq0-clause-known c =
    let keys = c.args.self.now.keys.items in
    let code = c.in-Some.ensures.code in
    knows-noted c.args.columns.now (firsts_of c.args.table.now) (firsts_of c.number_of-then-index-eq0.new.self) c.args.self.now c.args.row c.in_ok-key.key c.requires.known c.in_ok-key.ensures.number
    _ c.requires.row (subst (λ k. k < length keys) code c.in-Some.ensures.within) refl (ap (λ k. slice_set keys k (c.in_ok-key.key + 1)) code)
