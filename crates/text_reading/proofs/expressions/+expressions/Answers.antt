use Rattle.std.proofs.Common.{◌≡◌, ℕ, ◌+◌, ◌∷◌, ◌++◌, length, Err, ap, ◌∙◌, add-one, arith}
use Rattle.std.proofs.lemmas.Result.{IfOk-weaker}
use Rattle.text_queries.specs.Queries.{Call}
use Rattle.text_queries.specs.Views.{expr_of}
use Rattle.text_reading.proofs.ChainSteps.{OneMore, chain_done, chain_first, chain_last, chain_more, chain_on, operand_of}
use Rattle.text_reading.proofs.EntryForms.{ends_close}
use Rattle.text_reading.proofs.ExprSteps.{binary_memory, call_found, call_memory, call_part, close_once, closed_found, closed_part, called_reads, enclosed_found, enclosed_reads, first_operand, leaf_found, leaf_reads, len_call}
use Rattle.text_reading.specs.Reading.{Gives}
use Rattle.text_reading.specs.declared.deep.Deep.{Deep}
use Rattle.text_reading.proofs.expressions.+expressions.Goals as goal
use Rattle.text_reading.proofs.expressions.+expressions.Goals.{read_expr-In-Ok-binary}
use Rattle.text_tokens.specs.declared.token.Sign.TheVariants as sign
use Rattle.text_tokens.specs.declared.token.Token.TheVariants as token
use Rattle.text_tokens.specs.declared.error.TextError.TheVariants as refusal

pub read_call-returns-in_default-clause-found : goal.read_call-returns-in_default-clause-found
read_call-returns-in_default-clause-found t c =
    IfOk-weaker c.read_len.result _ _ (λ x h. (h.0, h.1, len_call c.args.opens c.args.word.now h.0 (expr_of x.0.expr) h.2)) c.read_len.ensures.found

pub read_call-returns-in-Err-clause-reads : goal.read_call-returns-in-Err-clause-reads
read_call-returns-in-Err-clause-reads t c front rest part is h follows =
    let own = call_part c.args.opens c.args.word.now c.as_str.result.now c.in-Some.name front part c.as_str.ensures c.in-Some.ensures.some h in
    c.in-Err.ensures.reads front rest own.0 is own.2 tt

pub read_call-returns-in-Ok-call-clause-found : goal.read_call-returns-in-Ok-call-clause-found
read_call-returns-in-Ok-call-clause-found t c =
    call_found c.args.opens c.args.word.now c.as_str.result.now c.in-Some.name c.args.tokens.now c.in-Ok.closed.1.now (expr_of c.in-Ok.closed.0.expr) (expr_of c.in-Ok-call.call.expr)
    c.as_str.ensures c.in-Some.ensures.some c.in-Ok.ensures.found c.in-Ok-call.ensures.made c.in-Ok-call.ensures.shallow

pub read_call-returns-in-Ok-call-clause-reads : goal.read_call-returns-in-Ok-call-clause-reads
read_call-returns-in-Ok-call-clause-reads t c front rest part is h follows =
    let own = call_part c.args.opens c.args.word.now c.as_str.result.now c.in-Some.name front part c.as_str.ensures c.in-Some.ensures.some h in
    let same = c.in-Ok.ensures.reads front rest own.0 is own.2 tt in
    (c.in-Ok-call.ensures.made ∙ ap (Call c.in-Some.name) same.0 ∙ own.1, same.1)

pub read_call-returns-in-Err-call-clause-reads : goal.read_call-returns-in-Err-call-clause-reads
read_call-returns-in-Err-call-clause-reads t c front rest part is h follows =
    let own = call_part c.args.opens c.args.word.now c.as_str.result.now c.in-Some.name front part c.as_str.ensures c.in-Some.ensures.some h in
    let same = c.in-Ok.ensures.reads front rest own.0 is own.2 tt in
    call_memory c.in-Err-call.error c.in-Some.name (expr_of c.in-Ok.closed.0.expr) own.0 part (λ refused. c.in-Err-call.ensures.deep (ap Err refused)) c.in-Err-call.ensures.causes same.0 own.1 h.1

pub read_closed-returns-in-Some-behind_sign-clause-found : goal.read_closed-returns-in-Some-behind_sign-clause-found
read_closed-returns-in-Some-behind_sign-clause-found t c =
    closed_found c.args.opens c.in-Some.inner c.args.tokens.now c.in-Ok.found.1.now c.in-Some-behind_sign.after.now (expr_of c.in-Ok.found.0.expr) c.in-Some.ensures.0 c.in-Some.ensures.1 c.in-Ok.ensures.found c.in-Some-behind_sign.ensures.some

pub read_closed-returns-in-Some-behind_sign-clause-reads : goal.read_closed-returns-in-Some-behind_sign-clause-reads
read_closed-returns-in-Some-behind_sign-clause-reads t c front rest part is h follows =
    let own = closed_part c.args.opens c.in-Some.inner c.args.tokens.now front rest part c.in-Some.ensures.1 is h in
    let same = c.in-Ok.ensures.reads own.0 (token.Sign sign.Close ∷ rest) part own.1 own.2 (ends_close 1 rest) in
    (same.0, close_once c.in-Ok.found.1.now c.in-Some-behind_sign.after.now rest c.in-Some-behind_sign.ensures.some same.1)

pub read_closed-returns-in-None-clause-reads : goal.read_closed-returns-in-None-clause-reads
read_closed-returns-in-None-clause-reads t c front rest part is h follows =
    let own = closed_part c.args.opens c.in-Some.inner c.args.tokens.now front rest part c.in-Some.ensures.1 is h in
    let same = c.in-Ok.ensures.reads own.0 (token.Sign sign.Close ∷ rest) part own.1 own.2 (ends_close 1 rest) in
    absurd (c.in-None.ensures.none rest same.1)

pub read_expr-returns-in-Err-clause-reads : goal.read_expr-returns-in-Err-clause-reads
read_expr-returns-in-Err-clause-reads t c front rest part is h ends =
    first_operand (c.in-Err.error ≡ refusal.OutOfMemory) c.args.opens c.args.least (c.args.least + 1) c.args.tokens.now (add-one c.args.least) c.in-Err.ensures.reads front rest part is h ends

pub read_expr-loop-op-init : goal.read_expr-loop-op-init
read_expr-loop-op-init t c = record {
  so_far = chain_first c.args.opens c.args.least (c.args.least + 1) c.args.tokens.now (expr_of c.in-Ok.first.0.expr) c.in-Ok.first.1.now (add-one c.args.least) c.in-Ok.ensures.found c.in-Ok.ensures.reads;
  shorter = c.in-Ok.ensures.shorter;
}

pub read_expr-returns-in-Err-read_expr-clause-reads : goal.read_expr-returns-in-Err-read_expr-clause-reads
read_expr-returns-in-Err-read_expr-clause-reads t c front rest part is h ends =
    let w = operand_of c.args.opens c.args.least (c.args.least + 1) c.args.tokens.now (expr_of c.loop-op.left.expr) c.loop-op.rest.now c.in-Some.op c.in-Some.behind.now (add-one c.args.least) c.loop-op.invariant.so_far c.in-Some.ensures.some.0 c.in-Some.ensures.some.1 front rest part is h ends in
    c.in-Err-read_expr.ensures.reads w.front (w.back ++ rest) w.operand w.split w.is_operand w.ends

pub read_expr-returns-in-Err-binary-clause-reads : goal.read_expr-returns-in-Err-binary-clause-reads
read_expr-returns-in-Err-binary-clause-reads t c front rest part is h ends =
    let w = operand_of c.args.opens c.args.least (c.args.least + 1) c.args.tokens.now (expr_of c.loop-op.left.expr) c.loop-op.rest.now c.in-Some.op c.in-Some.behind.now (add-one c.args.least) c.loop-op.invariant.so_far c.in-Some.ensures.some.0 c.in-Some.ensures.some.1 front rest part is h ends in
    let same = c.in-Ok-read_expr.ensures.reads w.front (w.back ++ rest) w.operand w.split w.is_operand w.ends in
    binary_memory c.in-Err-binary.error c.args.opens c.args.least (c.args.least + 1) c.in-Some.op (expr_of c.loop-op.left.expr) (expr_of c.in-Ok-read_expr.next.0.expr) c.in-Some.behind.now rest part w (λ refused. c.in-Err-binary.ensures.deep (ap Err refused)) c.in-Err-binary.ensures.causes same.0

-- one more operator with its operand, in either branch
one_more : (t : ℕ) (c : read_expr-In-Ok-binary t) → OneMore c.args.opens c.args.least c.args.tokens.now (expr_of c.in-Ok-binary.both.expr) c.in-Ok-read_expr.next.1.now
one_more t c =
    chain_more c.args.opens c.args.least (c.args.least + 1) c.args.tokens.now (expr_of c.loop-op.left.expr) c.loop-op.rest.now c.in-Some.op c.in-Some.behind.now (expr_of c.in-Ok-read_expr.next.0.expr) c.in-Ok-read_expr.next.1.now (expr_of c.in-Ok-binary.both.expr)
    (add-one c.args.least) c.loop-op.invariant.so_far c.in-Some.ensures.some.0 c.in-Some.ensures.some.1 c.in-Ok-read_expr.ensures.found c.in-Ok-read_expr.ensures.reads c.in-Ok-binary.ensures.made

pub read_expr-returns-then-least-eq-COMPARISON-clause-found : goal.read_expr-returns-then-least-eq-COMPARISON-clause-found
read_expr-returns-then-least-eq-COMPARISON-clause-found t c =
    (chain_last c.args.opens c.args.least c.args.tokens.now (expr_of c.in-Ok-binary.both.expr) c.in-Ok-read_expr.next.1.now c.if-least-eq-COMPARISON.true c.in-Ok-binary.ensures.shallow (one_more t ((goal.at.read_expr-returns-then-least-eq-COMPARISON-clause-found t c).In-Ok-binary))).0

pub read_expr-returns-then-least-eq-COMPARISON-clause-reads : goal.read_expr-returns-then-least-eq-COMPARISON-clause-reads
read_expr-returns-then-least-eq-COMPARISON-clause-reads t c =
    (chain_last c.args.opens c.args.least c.args.tokens.now (expr_of c.in-Ok-binary.both.expr) c.in-Ok-read_expr.next.1.now c.if-least-eq-COMPARISON.true c.in-Ok-binary.ensures.shallow (one_more t ((goal.at.read_expr-returns-then-least-eq-COMPARISON-clause-reads t c).In-Ok-binary))).1

pub read_expr-loop-op-preserved : goal.read_expr-loop-op-preserved
read_expr-loop-op-preserved t c = record {
  so_far = chain_on c.args.opens c.args.least c.args.tokens.now (expr_of c.in-Ok-binary.both.expr) c.in-Ok-read_expr.next.1.now c.if-least-eq-COMPARISON.false c.in-Ok-binary.ensures.shallow (one_more t ((goal.at.read_expr-loop-op-preserved t c).In-Ok-binary));
  shorter = omega (arith, c.loop-op.invariant.shorter, ap length c.in-Some.ensures.some.0, c.in-Ok-read_expr.ensures.shorter);
}

pub read_expr-returns-clause-found : goal.read_expr-returns-clause-found
read_expr-returns-clause-found t c = (chain_done c.args.opens c.args.least c.args.tokens.now (expr_of c.loop-op.left.expr) c.loop-op.rest.now c.loop-op.invariant.so_far c.in_default.ensures.none).0

pub read_expr-returns-clause-reads : goal.read_expr-returns-clause-reads
read_expr-returns-clause-reads t c = (chain_done c.args.opens c.args.least c.args.tokens.now (expr_of c.loop-op.left.expr) c.loop-op.rest.now c.loop-op.invariant.so_far c.in_default.ensures.none).1

pub read_primary-returns-in-Some-clause-found : goal.read_primary-returns-in-Some-clause-found
read_primary-returns-in-Some-clause-found t c =
    IfOk-weaker c.read_closed.result _ _ (λ x h. enclosed_found c.args.opens c.args.tokens.now c.in-Some.rest.now x.1.now (expr_of x.0.expr) c.in-Some.ensures.some h) c.read_closed.ensures.found

pub read_primary-returns-in-Some-clause-reads : goal.read_primary-returns-in-Some-clause-reads
read_primary-returns-in-Some-clause-reads t c front rest part is h ends =
    enclosed_reads (Gives (λ (deep : Deep). expr_of deep.expr) c.read_closed.result) c.args.opens c.args.tokens.now c.in-Some.rest.now c.in-Some.ensures.some (λ f r p i k. c.read_closed.ensures.reads f r p i k tt) front rest part is h

pub read_primary-returns-in-Some-behind_call-clause-reads : goal.read_primary-returns-in-Some-behind_call-clause-reads
read_primary-returns-in-Some-behind_call-clause-reads t c front rest part is h ends =
    let k = c.in-Some-behind_call in
    called_reads (Gives (λ (deep : Deep). expr_of deep.expr) c.read_call.result) c.args.opens c.args.tokens.now c.in-Some-behind_call.word.now c.in-Some-behind_call.rest.now c.in-Some-behind_call.ensures.some (λ f r p i k. c.read_call.ensures.reads f r p i k tt) front rest part is h ends

pub read_primary-returns-in-Ok-clause-found : goal.read_primary-returns-in-Ok-clause-found
read_primary-returns-in-Ok-clause-found t c = leaf_found c.args.opens c.args.tokens.now c.in-Ok.rest.now (expr_of c.in-Ok.leaf) (expr_of c.leaf.result.expr) c.leaf.ensures c.in-Ok.ensures.found

pub read_primary-returns-in-Ok-clause-reads : goal.read_primary-returns-in-Ok-clause-reads
read_primary-returns-in-Ok-clause-reads t c front rest part is h ends =
    leaf_reads (λ e after. (expr_of c.leaf.result.expr ≡ e) × (c.in-Ok.rest.now ≡ after)) c.args.opens c.args.tokens.now c.in_default.ensures.none c.in_default-behind_call.ensures.none
    (λ f r p i k. let same = c.in-Ok.ensures.reads f r p i k tt in (c.leaf.ensures ∙ same.0, same.1)) front rest part is h

pub read_primary-returns-in-Err-clause-reads : goal.read_primary-returns-in-Err-clause-reads
read_primary-returns-in-Err-clause-reads t c front rest part is h ends =
    leaf_reads (λ e after. c.in-Err.error ≡ refusal.OutOfMemory) c.args.opens c.args.tokens.now c.in_default.ensures.none c.in_default-behind_call.ensures.none (λ f r p i k. c.in-Err.ensures.reads f r p i k tt) front rest part is h
