-- By whether a worker is free, and there is a place.
use Rattle.std.proofs.Common.{◌≡◌, ◌∙◌, false, sym, true}
use Rattle.flow_moves.proofs.Moves.{claims, claims_later, none_free}
use Rattle.flow_moves.proofs.node_moves.claim_of.Goals as goal

pub returns-then-not-has_free_worker : goal.returns-then-not-has_free_worker
returns-then-not-has_free_worker g c = λ F w x cl stands may only.
    none_free F w c.args.node c.args.input x cl only (λ free. absurd (let clash : false ≡ true = sym c.if-not-has_free_worker.true ∙ (c.has_free_worker.ensures w stands).1 free in cc))

pub returns-then-has_place : goal.returns-then-has_place
returns-then-has_place g c = λ F w x cl stands may only.
    let free = (c.has_free_worker.ensures w stands).0 c.if-not-has_free_worker.false in
    claims F w c.args.node c.args.input x cl only free.0 free.1 ((c.has_place.ensures F w stands may).0 c.if-has_place.true)

pub returns-else-has_place : goal.returns-else-has_place
returns-else-has_place g c = λ F w x cl stands may only.
    claims_later F w c.args.node c.args.input x cl only (λ places. absurd (let clash : false ≡ true = sym c.if-has_place.false ∙ (c.has_place.ensures F w stands may).1 places in cc))
