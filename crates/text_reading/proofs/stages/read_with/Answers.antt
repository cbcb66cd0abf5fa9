use Rattle.std.proofs.Common.{map, ap, ◌∙◌}
use Rattle.text_queries.specs.Queries.{With}
use Rattle.text_queries.specs.Views.{item_of}
use Rattle.text_reading.proofs.StageForms.{ends_items, with_found, with_is}
use Rattle.text_reading.proofs.stages.read_with.Goals as goal

pub returns-in-Ok-clause-found : goal.returns-in-Ok-clause-found
returns-in-Ok-clause-found c = with_found c.args.tokens.now c.in-Ok.after.now (map item_of c.in-Ok.items) c.in-Ok.ensures.found

pub returns-in-Ok-clause-reads : goal.returns-in-Ok-clause-reads
returns-in-Ok-clause-reads c front rest part is h ends =
    let own = with_is front part h in
    let same = c.in-Ok.ensures.reads front rest own.0 is own.2 (ends_items rest ends) in
    (ap With same.0 ∙ own.1, same.1)

pub returns-in-Err-clause-reads : goal.returns-in-Err-clause-reads
returns-in-Err-clause-reads c front rest part is h ends =
    let own = with_is front part h in
    c.in-Err.ensures.reads front rest own.0 is own.2 (ends_items rest ends)
