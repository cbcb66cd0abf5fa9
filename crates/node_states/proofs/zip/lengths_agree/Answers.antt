-- The lengths agree where each is the first one.
use Rattle.std.proofs.Common.{sym, ◌∙◌}
use Rattle.node_states.proofs.HeadLemmas.{agree_with}
use Rattle.node_states.proofs.zip.lengths_agree.Goals as goal

pub returns-in-Some : goal.returns-in-Some
returns-in-Some c = c.all_have.ensures ∙ sym (agree_with c.in-Some.rows c.args.heads.now (sym c.first_open.ensures ∙ c.in-Some.is))
