use Rattle.std.proofs.Common.{[], ◌∷◌, refl}
use Rattle.text_reading.proofs.EntryForms.{column_at, name_once}
use Rattle.text_reading.proofs.entries.read_column.Goals as goal

pub returns-in-Ok-clause-found : goal.returns-in-Ok-clause-found
returns-in-Ok-clause-found c = (c.in-Some.first.now ∷ [], c.in-Some.ensures.some, (c.in-Some.first.now, refl, c.in-Ok.ensures.found))

pub returns-in-Ok-clause-reads : goal.returns-in-Ok-clause-reads
returns-in-Ok-clause-reads c front rest part is h follows =
    let own = column_at c.args.tokens.now c.in-Some.first.now c.in-Some.rest.now front rest part c.in-Some.ensures.some is h in
    (name_once c.in-Some.first.now c.in-Ok.name part c.in-Ok.ensures.found own.0, own.1)
