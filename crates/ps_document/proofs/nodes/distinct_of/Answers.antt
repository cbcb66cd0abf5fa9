use Rattle.std.specs.Prelude.{codes}
use Rattle.ps_document.specs.Expressions.{entry_number}
use Rattle.ps_document.specs.Json.{text, truth}
use Rattle.ps_document.specs.Nodes.{cut_json, names_json}
use Rattle.ps_document.specs.Words.{keep_word}
use Rattle.ps_document.proofs.nodes.distinct_of.Goals as goal

pub returns-in_default-clause-none : goal.returns-in_default-clause-none
returns-in_default-clause-none c = λ i o fits e. c.in_default.ensures.none (text (codes "distinct")) (entry_number i) (names_json o.subset) (truth o.maintain_order) (text (keep_word o.keep_strategy)) (cut_json o.slice) e
