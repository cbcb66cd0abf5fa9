use Rattle.std.proofs.Common.{◌≡◌, [], ◌∷◌, ◌++◌, length, sym, ap, ◌∙◌, subst, arith}
use Rattle.text_queries.specs.Grammar.{IsColumn}
use Rattle.text_reading.specs.Reading.{Anything}
use Rattle.text_reading.proofs.Listing.{AreEntries, entries_first, entries_more, first_refused, more_refused}
use Rattle.text_reading.proofs.entries.read_names.Goals as goal
use Rattle.text_tokens.specs.declared.error.TextError.TheVariants as refusal

pub returns-in-Err-clause-reads : goal.returns-in-Err-clause-reads
returns-in-Err-clause-reads c front rest part is h ends =
    first_refused IsColumn Anything (λ name. name) (λ more. tt) (c.in-Err.error ≡ refusal.OutOfMemory) c.args.tokens.now c.in-Err.ensures.reads front rest part is h ends

pub loop-behind-init : goal.loop-behind-init
loop-behind-init c = record {
  entries =
      subst (λ xs. AreEntries IsColumn Anything (λ name. name) c.args.tokens.now xs c.in-Ok.first.1.now)
      (sym (c.in_ok-push.ensures.items ∙ ap (λ xs. xs ++ c.in-Ok.first.0 ∷ []) c.new-names.ensures.items))
      (entries_first IsColumn Anything (λ name. name) (λ more. tt) c.args.tokens.now c.in-Ok.first.0 c.in-Ok.first.1.now c.in-Ok.ensures.found c.in-Ok.ensures.reads);
  shorter = c.in-Ok.ensures.shorter;
}

pub loop-behind-preserved : goal.loop-behind-preserved
loop-behind-preserved c = record {
  entries =
      subst (λ xs. AreEntries IsColumn Anything (λ name. name) c.args.tokens.now xs c.in-Ok-read_column.after.now)
      (sym c.in_ok-push-in-Ok-read_column.ensures.items)
      (entries_more IsColumn Anything (λ name. name) (λ more. tt) c.args.tokens.now c.loop-behind.names.items c.loop-behind.rest.now (c.in-Ok-read_column.name) c.in-Some.behind.now c.in-Ok-read_column.after.now c.loop-behind.invariant.entries c.in-Some.ensures.some c.in-Ok-read_column.ensures.found c.in-Ok-read_column.ensures.reads);
  shorter = omega (arith, c.loop-behind.invariant.shorter, ap length c.in-Some.ensures.some, c.in-Ok-read_column.ensures.shorter);
}

pub returns-in-Err-read_column-clause-reads : goal.returns-in-Err-read_column-clause-reads
returns-in-Err-read_column-clause-reads c front rest part is h ends =
    more_refused IsColumn Anything (λ name. name) (λ more. tt) (c.in-Err-read_column.error ≡ refusal.OutOfMemory) c.args.tokens.now c.loop-behind.names.items c.loop-behind.rest.now c.in-Some.behind.now c.loop-behind.invariant.entries c.in-Some.ensures.some c.in-Err-read_column.ensures.reads front rest part is h ends
