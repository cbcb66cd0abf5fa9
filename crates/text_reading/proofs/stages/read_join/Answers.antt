use Rattle.std.proofs.Common.{[], ◌∷◌, ◌++◌, sym, refl, ◌∙◌, subst}
use Rattle.text_queries.specs.Grammar.{IsOn}
use Rattle.text_queries.specs.Queries.{Join}
use Rattle.text_reading.proofs.StageForms.{how_once, join_at, join_found, join_parts}
use Rattle.text_reading.proofs.stages.read_join.Goals as goal

pub returns-in-Err-clause-reads : goal.returns-in-Err-clause-reads
returns-in-Err-clause-reads c front rest part is h ends =
    let own = join_parts c.args.tokens.now front rest part is h in
    let at = join_at c.args.tokens.now c.in-Some.word.now c.in-Some.rest.now rest part own c.in-Some.ensures.some in
    c.in-Err.ensures.reads (own.first ∷ []) (own.more ++ rest) own.table at.1 (own.first, refl, own.named) tt

pub returns-in-Ok-read_on-clause-found : goal.returns-in-Ok-read_on-clause-found
returns-in-Ok-read_on-clause-found c =
    join_found c.args.tokens.now c.in-Some.word.now c.in-Some.rest.now c.in-Ok.table.1.now c.in-Ok-read_on.after.now c.in-Some-how_of.how c.in-Ok.table.0 c.in-Ok-read_on.on
    c.in-Some.ensures.some (sym c.as_str.ensures ∙ c.in-Some-how_of.ensures.some) c.in-Ok.ensures.found c.in-Ok-read_on.ensures.found

pub returns-in-Ok-read_on-clause-reads : goal.returns-in-Ok-read_on-clause-reads
returns-in-Ok-read_on-clause-reads c front rest part is h ends =
    let own = join_parts c.args.tokens.now front rest part is h in
    let at = join_at c.args.tokens.now c.in-Some.word.now c.in-Some.rest.now rest part own c.in-Some.ensures.some in
    let kept = how_once c.in-Some-how_of.how own.kept (sym c.in-Some-how_of.ensures.some ∙ c.as_str.ensures ∙ sym at.0) in
    let same = c.in-Ok.ensures.reads (own.first ∷ []) (own.more ++ rest) own.table at.1 (own.first, refl, own.named) tt in
    let also = c.in-Ok-read_on.ensures.reads own.more rest own.names same.1 (subst (λ k. IsOn k own.more own.names) (sym kept) own.is_on) ends in
    ((λ i. Join (kept i) (same.0 i) (also.0 i)) ∙ own.stage_is, also.1)

pub returns-in-Err-read_on-clause-reads : goal.returns-in-Err-read_on-clause-reads
returns-in-Err-read_on-clause-reads c front rest part is h ends =
    let own = join_parts c.args.tokens.now front rest part is h in
    let at = join_at c.args.tokens.now c.in-Some.word.now c.in-Some.rest.now rest part own c.in-Some.ensures.some in
    let kept = how_once c.in-Some-how_of.how own.kept (sym c.in-Some-how_of.ensures.some ∙ c.as_str.ensures ∙ sym at.0) in
    let same = c.in-Ok.ensures.reads (own.first ∷ []) (own.more ++ rest) own.table at.1 (own.first, refl, own.named) tt in
    c.in-Err-read_on.ensures.reads own.more rest own.names same.1 (subst (λ k. IsOn k own.more own.names) (sym kept) own.is_on) ends
