-- A set without keys has none, and one with a key has that.
use Rattle.ps_graph.proofs.MarkLemmas.{no_keys, none_marked, some_marked}
use Rattle.ps_graph.proofs.marks.Marks.is_empty.Goals as goal

pub returns : goal.returns
returns c = ((λ e. none_marked c.args.self.now (no_keys c.args.self.now.numbers.keys (c.is_empty.ensures.0 e))), λ none. c.is_empty.ensures.1 (some_marked c.args.self.now none))
