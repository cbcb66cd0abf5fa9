use Rattle.std.specs.Prelude.{codes}
use Rattle.ps_document.specs.Expressions.{entry_number}
use Rattle.ps_document.specs.Json.{text, list_of, truth}
use Rattle.ps_document.specs.Nodes.{cut_json, named_json}
use Rattle.ps_document.proofs.nodes.group_by_of.Goals as goal

pub returns-in_default-clause-none : goal.returns-in_default-clause-none
returns-in_default-clause-none c = λ i keys aggs maintain o fits e. c.in_default.ensures.none (text (codes "group_by")) (entry_number i) (list_of named_json keys) (list_of named_json aggs) (truth maintain) (cut_json o.slice) e
