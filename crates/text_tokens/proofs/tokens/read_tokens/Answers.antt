use Rattle.std.proofs.Common.{◌≡◌, ◌<◌, ℕ, Err, length, rules, sym, ap, subst, arith, false-eqb}
use Rattle.std.proofs.lemmas.Bool.{eqb-true}
use Rattle.text_tokens.specs.declared.error.TextError.TheVariants as refusal
use Rattle.text_tokens.proofs.Cutting.{AreRead, Next, read_more, read_stuck, read_all}
use Rattle.text_tokens.proofs.tokens.read_tokens.Goals as goal

pub loop-rest-preserved : goal.loop-rest-preserved
loop-rest-preserved c =
    let held = c.loop-rest.invariant in
    let some : 0 < length c.loop-rest.rest.now = omega (arith, false-eqb (length c.loop-rest.rest.now) 0 c.loop-rest-test.ensures) in
    let next : Next c.loop-rest.rest.now c.split_run.result.1.now c.in-Ok.token c.in-Ok.after.now = record {
      blanks = c.split_run.result.0.now;
      split = c.split_run.ensures.split;
      are_blank = c.split_run.ensures.run;
      begun_is = c.split_run.ensures.ends;
      token_is = c.in-Ok.ensures.found;
    } in (
      subst (λ tokens. AreRead c.args.text.now tokens c.in-Ok.after.now) (sym c.in_ok-push-in-Ok.ensures.items) (read_more c.args.text.now c.loop-rest.rest.now c.split_run.result.1.now c.loop-rest.tokens.items c.in-Ok.token c.in-Ok.after.now held.0 some next),
      held.1,
      search rules,
    )

pub returns-in-Err-clause-none : goal.returns-in-Err-clause-none
returns-in-Err-clause-none c refused =
    let same : c.in-Err.error ≡ refusal.NoReading = cc in
    let some : 0 < length c.loop-rest.rest.now = omega (arith, false-eqb (length c.loop-rest.rest.now) 0 c.loop-rest-test.ensures) in
    read_stuck c.args.text.now c.loop-rest.rest.now c.split_run.result.0.now c.split_run.result.1.now c.loop-rest.tokens.items c.loop-rest.invariant.0 some c.split_run.ensures.split c.split_run.ensures.run c.split_run.ensures.ends (c.in-Err.ensures.none (ap Err same))

pub returns-clause-found : goal.returns-clause-found
returns-clause-found c =
    (read_all c.args.text.now c.loop-rest.tokens.items c.loop-rest.rest.now c.loop-rest.invariant.0 (eqb-true (length c.loop-rest.rest.now) 0 (sym c.loop-rest-test.ensures)) c.loop-rest.invariant.1).0

pub returns-clause-only : goal.returns-clause-only
returns-clause-only c =
    (read_all c.args.text.now c.loop-rest.tokens.items c.loop-rest.rest.now c.loop-rest.invariant.0 (eqb-true (length c.loop-rest.rest.now) 0 (sym c.loop-rest-test.ensures)) c.loop-rest.invariant.1).1
