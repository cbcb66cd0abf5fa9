use Rattle.std.proofs.Common.{◌∙◌, [], ◌∷◌, ap, arith, length, length-append}
use Rattle.ps_frame.proofs.Seams.{end_to_end-push}
use Rattle.ps_frame.proofs.runs.push_some.Goals as goal

pub returns : goal.returns
returns g c = record {
  added = end_to_end-push c.args.parts.now.items c.push.new.self.items c.args.part c.in_ok-push.ensures.items;
  few = (let e = ap length c.in_ok-push.ensures.items ∙ length-append c.args.parts.now.items (c.args.part ∷ []) in omega (arith, e));
}
