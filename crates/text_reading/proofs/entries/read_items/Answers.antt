use Rattle.std.proofs.Common.{◌≡◌, [], ◌∷◌, ◌++◌, length, sym, ap, ◌∙◌, subst, arith}
use Rattle.text_queries.specs.Grammar.{IsItem}
use Rattle.text_queries.specs.Views.{item_of}
use Rattle.text_reading.specs.Reading.{Ends, HoldsShallow}
use Rattle.text_reading.proofs.EntryForms.{ends_comma}
use Rattle.text_reading.proofs.Listing.{AreEntries, entries_first, entries_more, first_refused, more_refused}
use Rattle.text_reading.proofs.entries.read_items.Goals as goal
use Rattle.text_tokens.specs.declared.error.TextError.TheVariants as refusal

pub returns-in-Err-clause-reads : goal.returns-in-Err-clause-reads
returns-in-Err-clause-reads c front rest part is h ends =
    first_refused (HoldsShallow IsItem (λ item. item.expr)) (Ends 1) item_of (λ more. ends_comma 1 more) (c.in-Err.error ≡ refusal.OutOfMemory) c.args.tokens.now c.in-Err.ensures.reads front rest part is h ends

pub loop-behind-init : goal.loop-behind-init
loop-behind-init c = record {
  entries =
      subst (λ xs. AreEntries (HoldsShallow IsItem (λ item. item.expr)) (Ends 1) item_of c.args.tokens.now xs c.in-Ok.first.1.now)
      (sym (c.in_ok-push.ensures.items ∙ ap (λ xs. xs ++ c.in-Ok.first.0 ∷ []) c.new-items.ensures.items))
      (entries_first (HoldsShallow IsItem (λ item. item.expr)) (Ends 1) item_of (λ more. ends_comma 1 more) c.args.tokens.now c.in-Ok.first.0 c.in-Ok.first.1.now c.in-Ok.ensures.found c.in-Ok.ensures.reads);
  shorter = c.in-Ok.ensures.shorter;
}

pub loop-behind-preserved : goal.loop-behind-preserved
loop-behind-preserved c = record {
  entries =
      subst (λ xs. AreEntries (HoldsShallow IsItem (λ item. item.expr)) (Ends 1) item_of c.args.tokens.now xs c.in-Ok-read_item.after.now)
      (sym c.in_ok-push-in-Ok-read_item.ensures.items)
      (entries_more (HoldsShallow IsItem (λ item. item.expr)) (Ends 1) item_of (λ more. ends_comma 1 more) c.args.tokens.now c.loop-behind.items.items c.loop-behind.rest.now (c.in-Ok-read_item.item) c.in-Some.behind.now c.in-Ok-read_item.after.now c.loop-behind.invariant.entries c.in-Some.ensures.some c.in-Ok-read_item.ensures.found c.in-Ok-read_item.ensures.reads);
  shorter = omega (arith, c.loop-behind.invariant.shorter, ap length c.in-Some.ensures.some, c.in-Ok-read_item.ensures.shorter);
}

pub returns-in-Err-read_item-clause-reads : goal.returns-in-Err-read_item-clause-reads
returns-in-Err-read_item-clause-reads c front rest part is h ends =
    more_refused (HoldsShallow IsItem (λ item. item.expr)) (Ends 1) item_of (λ more. ends_comma 1 more) (c.in-Err-read_item.error ≡ refusal.OutOfMemory) c.args.tokens.now c.loop-behind.items.items c.loop-behind.rest.now c.in-Some.behind.now c.loop-behind.invariant.entries c.in-Some.ensures.some c.in-Err-read_item.ensures.reads front rest part is h ends
