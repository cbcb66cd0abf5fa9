use Rattle.std.proofs.Common.{◌∷◌, ◌++◌, map, ◌∙◌}
use Rattle.std.specs.Prelude.{codes}
use Rattle.text_queries.specs.Queries.{Group}
use Rattle.text_queries.specs.Views.{item_of}
use Rattle.text_reading.proofs.StageForms.{ends_agg, ends_items, group_found, group_parts, word_once}
use Rattle.text_reading.proofs.stages.read_group.Goals as goal
use Rattle.text_tokens.specs.declared.token.Token.TheVariants as token

pub returns-in-Err-clause-reads : goal.returns-in-Err-clause-reads
returns-in-Err-clause-reads c front rest part is h ends =
    let own = group_parts c.args.tokens.now front rest part is h in
    c.in-Err.ensures.reads own.first (token.Word (codes "agg") ∷ (own.second ++ rest)) own.keys own.split own.are_keys (ends_agg (own.second ++ rest))

pub returns-in_default-clause-reads : goal.returns-in_default-clause-reads
returns-in_default-clause-reads c front rest part is h ends =
    let own = group_parts c.args.tokens.now front rest part is h in
    let same = c.in-Ok.ensures.reads own.first (token.Word (codes "agg") ∷ (own.second ++ rest)) own.keys own.split own.are_keys (ends_agg (own.second ++ rest)) in
    absurd (c.in_default.ensures.none (own.second ++ rest) same.1)

pub returns-in-Ok-read_items-clause-found : goal.returns-in-Ok-read_items-clause-found
returns-in-Ok-read_items-clause-found c =
    group_found c.args.tokens.now c.in-Ok.keys.1.now c.in-Some.behind.now c.in-Ok-read_items.after.now (map item_of c.in-Ok.keys.0) (map item_of c.in-Ok-read_items.aggs) c.in-Ok.ensures.found c.in-Some.ensures.some c.in-Ok-read_items.ensures.found

pub returns-in-Ok-read_items-clause-reads : goal.returns-in-Ok-read_items-clause-reads
returns-in-Ok-read_items-clause-reads c front rest part is h ends =
    let own = group_parts c.args.tokens.now front rest part is h in
    let same = c.in-Ok.ensures.reads own.first (token.Word (codes "agg") ∷ (own.second ++ rest)) own.keys own.split own.are_keys (ends_agg (own.second ++ rest)) in
    let behind = word_once c.in-Ok.keys.1.now (codes "agg") c.in-Some.behind.now (own.second ++ rest) c.in-Some.ensures.some same.1 in
    let also = c.in-Ok-read_items.ensures.reads own.second rest own.aggs behind own.are_aggs (ends_items rest ends) in
    ((λ i. Group (same.0 i) (also.0 i)) ∙ own.stage_is, also.1)

pub returns-in-Err-read_items-clause-reads : goal.returns-in-Err-read_items-clause-reads
returns-in-Err-read_items-clause-reads c front rest part is h ends =
    let own = group_parts c.args.tokens.now front rest part is h in
    let same = c.in-Ok.ensures.reads own.first (token.Word (codes "agg") ∷ (own.second ++ rest)) own.keys own.split own.are_keys (ends_agg (own.second ++ rest)) in
    let behind = word_once c.in-Ok.keys.1.now (codes "agg") c.in-Some.behind.now (own.second ++ rest) c.in-Some.ensures.some same.1 in
    c.in-Err-read_items.ensures.reads own.second rest own.aggs behind own.are_aggs (ends_items rest ends)
