use Rattle.text_queries.specs.Views.{expr_of}
use Rattle.text_reading.proofs.EntryForms.{item_at, item_found, item_parts, item_same, name_once}
use Rattle.text_reading.proofs.entries.read_item.Goals as goal

pub returns-in-Ok-read_whole-clause-found : goal.returns-in-Ok-read_whole-clause-found
returns-in-Ok-read_whole-clause-found c =
    item_found c.args.tokens.now c.in-Some.first.now c.in-Some.behind.now c.in-Some-behind_sign.rest.now c.in-Ok-read_whole.after.now c.in-Ok.name (expr_of c.in-Ok-read_whole.expr)
    c.in-Some.ensures.some c.in-Some-behind_sign.ensures.some c.in-Ok.ensures.found c.in-Ok-read_whole.ensures.found

pub returns-in-Ok-read_whole-clause-reads : goal.returns-in-Ok-read_whole-clause-reads
returns-in-Ok-read_whole-clause-reads c front rest part is h ends =
    let own = item_at c.args.tokens.now c.in-Some.first.now c.in-Some.behind.now c.in-Some-behind_sign.rest.now rest part (item_parts c.args.tokens.now front rest part is h) c.in-Some.ensures.some c.in-Some-behind_sign.ensures.some in
    let same = c.in-Ok-read_whole.ensures.reads own.0 rest part.expr own.1 own.3 ends in
    (item_same c.in-Ok.name (expr_of c.in-Ok-read_whole.expr) part (name_once c.in-Some.first.now c.in-Ok.name part.name c.in-Ok.ensures.found own.2) same.0, same.1)
