use Rattle.std.proofs.Common.{ℕ, subst, sym}
use Rattle.ps_rules.specs.Names.{IsTemporary}
use Rattle.ps_fresh.proofs.Adding.{adds_none, adds_number, none_there, some_there}
use Rattle.ps_fresh.proofs.temporary.add_name.Goals as goal

pub returns-in_default-clause-added : goal.returns-in_default-clause-added
returns-in_default-clause-added c names h =
    let none = none_there c.in_ok-number.field-0 ((k : ℕ) → ¬ IsTemporary k c.as_str.result.now) c.in_default.is c.in_ok-number.ensures.none in
    adds_none c.args.taken.now.keys names c.args.name.now (λ k t. none k (subst (λ s. IsTemporary k s) (sym c.as_str.ensures) t)) h

pub returns-clause-added : goal.returns-clause-added
returns-clause-added c names h =
    let some = some_there c.in_ok-number.field-0 c.in-Some.number (λ k. IsTemporary k c.as_str.result.now) c.in-Some.is c.in_ok-number.ensures.some in
    adds_number c.args.taken.now.keys c.insert.new.self.keys names c.args.name.now c.in-Some.number (subst (λ s. IsTemporary c.in-Some.number s) c.as_str.ensures some) c.in_ok-insert.ensures.updates.0 h
