use Rattle.std.proofs.Common.{◌≡◌, ◌<◌, ◌∙◌, [], length, arith, rules}
use Rattle.ps_frame.proofs.Seams.{end_to_end-taken}
use Rattle.ps_frame.proofs.runs.Runs.of_parts.Goals as goal

pub returns : goal.returns
returns g c =
    let none : c.args.first ≡ [] = search (rules, c.is_empty.ensures, c.if-not-is_empty.false) in
    let some : 0 < length c.args.rest.items = grind (arith, c.if-is_empty.false, c.is_empty-else-not-is_empty.ensures) in
    record {
      laid = c.in_ok-runs.ensures.laid ∙ end_to_end-taken c.args.first c.remove-first.result c.args.rest.items c.remove-first.new.self.items none some c.remove-first.ensures.value c.remove-first.ensures.items;
    }
