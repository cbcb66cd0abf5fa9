use Rattle.text_queries.specs.Views.{expr_of}
use Rattle.text_reading.proofs.EntryForms.{key_desc_found, key_desc_reads, key_parts, key_plain_found, key_plain_reads}
use Rattle.text_reading.proofs.entries.read_key.Goals as goal

pub returns-in-Some-clause-found : goal.returns-in-Some-clause-found
returns-in-Some-clause-found c = key_desc_found c.args.tokens.now c.in-Ok.found.1.now c.in-Some.behind.now (expr_of c.in-Ok.found.0) c.in-Ok.ensures.found c.in-Some.ensures.some

pub returns-in-Some-clause-reads : goal.returns-in-Some-clause-reads
returns-in-Some-clause-reads c front rest part is h ends =
    let own = key_parts c.args.tokens.now front rest part is h ends in
    let same = c.in-Ok.ensures.reads own.more own.left part.expr own.split own.whole own.ends in
    key_desc_reads c.in-Ok.found.1.now c.in-Some.behind.now rest (expr_of c.in-Ok.found.0) part c.args.tokens.now own c.in-Some.ensures.some same ends

pub returns-in-None-clause-found : goal.returns-in-None-clause-found
returns-in-None-clause-found c = key_plain_found c.args.tokens.now c.in-Ok.found.1.now (expr_of c.in-Ok.found.0) c.in-Ok.ensures.found

pub returns-in-None-clause-reads : goal.returns-in-None-clause-reads
returns-in-None-clause-reads c front rest part is h ends =
    let own = key_parts c.args.tokens.now front rest part is h ends in
    let same = c.in-Ok.ensures.reads own.more own.left part.expr own.split own.whole own.ends in
    key_plain_reads c.in-Ok.found.1.now rest (expr_of c.in-Ok.found.0) part c.args.tokens.now own c.in-None.ensures.none same

pub returns-in-Err-clause-reads : goal.returns-in-Err-clause-reads
returns-in-Err-clause-reads c front rest part is h ends =
    let own = key_parts c.args.tokens.now front rest part is h ends in
    c.in-Err.ensures.reads own.more own.left part.expr own.split own.whole own.ends
