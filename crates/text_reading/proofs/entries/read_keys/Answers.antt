use Rattle.std.proofs.Common.{◌≡◌, [], ◌∷◌, ◌++◌, length, sym, ap, ◌∙◌, subst, arith}
use Rattle.text_queries.specs.Grammar.{IsKey}
use Rattle.text_queries.specs.Views.{key_of}
use Rattle.text_reading.specs.Reading.{EndsKey, HoldsShallow}
use Rattle.text_reading.proofs.EntryForms.{ends_key_comma}
use Rattle.text_reading.proofs.Listing.{AreEntries, entries_first, entries_more, first_refused, more_refused}
use Rattle.text_reading.proofs.entries.read_keys.Goals as goal
use Rattle.text_tokens.specs.declared.error.TextError.TheVariants as refusal

pub returns-in-Err-clause-reads : goal.returns-in-Err-clause-reads
returns-in-Err-clause-reads c front rest part is h ends =
    first_refused (HoldsShallow IsKey (λ key. key.expr)) EndsKey key_of (λ more. ends_key_comma more) (c.in-Err.error ≡ refusal.OutOfMemory) c.args.tokens.now c.in-Err.ensures.reads front rest part is h ends

pub loop-behind-init : goal.loop-behind-init
loop-behind-init c = record {
  entries =
      subst (λ xs. AreEntries (HoldsShallow IsKey (λ key. key.expr)) EndsKey key_of c.args.tokens.now xs c.in-Ok.first.1.now)
      (sym (c.in_ok-push.ensures.items ∙ ap (λ xs. xs ++ c.in-Ok.first.0 ∷ []) c.new-keys.ensures.items))
      (entries_first (HoldsShallow IsKey (λ key. key.expr)) EndsKey key_of (λ more. ends_key_comma more) c.args.tokens.now c.in-Ok.first.0 c.in-Ok.first.1.now c.in-Ok.ensures.found c.in-Ok.ensures.reads);
  shorter = c.in-Ok.ensures.shorter;
}

pub loop-behind-preserved : goal.loop-behind-preserved
loop-behind-preserved c = record {
  entries =
      subst (λ xs. AreEntries (HoldsShallow IsKey (λ key. key.expr)) EndsKey key_of c.args.tokens.now xs c.in-Ok-read_key.after.now)
      (sym c.in_ok-push-in-Ok-read_key.ensures.items)
      (entries_more (HoldsShallow IsKey (λ key. key.expr)) EndsKey key_of (λ more. ends_key_comma more) c.args.tokens.now c.loop-behind.keys.items c.loop-behind.rest.now (c.in-Ok-read_key.key) c.in-Some.behind.now c.in-Ok-read_key.after.now c.loop-behind.invariant.entries c.in-Some.ensures.some c.in-Ok-read_key.ensures.found c.in-Ok-read_key.ensures.reads);
  shorter = omega (arith, c.loop-behind.invariant.shorter, ap length c.in-Some.ensures.some, c.in-Ok-read_key.ensures.shorter);
}

pub returns-in-Err-read_key-clause-reads : goal.returns-in-Err-read_key-clause-reads
returns-in-Err-read_key-clause-reads c front rest part is h ends =
    more_refused (HoldsShallow IsKey (λ key. key.expr)) EndsKey key_of (λ more. ends_key_comma more) (c.in-Err-read_key.error ≡ refusal.OutOfMemory) c.args.tokens.now c.loop-behind.keys.items c.loop-behind.rest.now c.in-Some.behind.now c.loop-behind.invariant.entries c.in-Some.ensures.some c.in-Err-read_key.ensures.reads front rest part is h ends
