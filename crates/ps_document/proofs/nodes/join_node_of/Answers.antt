use Rattle.std.specs.Prelude.{codes}
use Rattle.ps_document.specs.Expressions.{entry_number}
use Rattle.ps_document.specs.Json.{list_of, or_null, text, truth}
use Rattle.ps_document.specs.Nodes.{cut_json, key_json}
use Rattle.ps_document.specs.Words.{join_word, validation_word}
use Rattle.ps_document.proofs.nodes.join_node_of.Goals as goal

pub returns-in_default-clause-none : goal.returns-in_default-clause-none
returns-in_default-clause-none c = λ l r left_on right_on a fits e.
    c.in_default.ensures.none (text (codes "join")) (entry_number l) (entry_number r) (text (join_word a.how)) (list_of key_json left_on) (list_of key_json right_on) (or_null text a.suffix) (truth a.join_nulls) (text (validation_word a.validation)) (cut_json a.slice) e
