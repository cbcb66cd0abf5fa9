use Rattle.std.proofs.Common.{map, ap, ◌∙◌}
use Rattle.text_queries.specs.Queries.{Sort}
use Rattle.text_queries.specs.Views.{key_of}
use Rattle.text_reading.proofs.StageForms.{ends_keys, sort_found, sort_is}
use Rattle.text_reading.proofs.stages.read_sort.Goals as goal

pub returns-in-Ok-clause-found : goal.returns-in-Ok-clause-found
returns-in-Ok-clause-found c = sort_found c.args.tokens.now c.in-Ok.after.now (map key_of c.in-Ok.keys) c.in-Ok.ensures.found

pub returns-in-Ok-clause-reads : goal.returns-in-Ok-clause-reads
returns-in-Ok-clause-reads c front rest part is h ends =
    let own = sort_is front part h in
    let same = c.in-Ok.ensures.reads front rest own.0 is own.2 (ends_keys rest ends) in
    (ap Sort same.0 ∙ own.1, same.1)

pub returns-in-Err-clause-reads : goal.returns-in-Err-clause-reads
returns-in-Err-clause-reads c front rest part is h ends =
    let own = sort_is front part h in
    c.in-Err.ensures.reads front rest own.0 is own.2 (ends_keys rest ends)
