use Rattle.std.proofs.Common.{◌≡◌, sym, subst, ◌∙◌}
use Rattle.pu_map.specs.Cache.{CacheState, slot_at}
use Rattle.pu_map.proofs.CachedFuncLemmas.{called, agrees-set, agrees-looked_up, Agrees}
use Rattle.pu_map.proofs.cached_func.FastCachedFunc.eval.Goals as goal

pub returns-then-not-use_cache-clause-answers : goal.returns-then-not-use_cache-clause-answers
returns-then-not-use_cache-clause-answers g c answer argument computes = (called g.F.FnMut answer _ _ _ _ computes.calls c.func.ensures).0

pub returns-then-not-use_cache-clause-computes : goal.returns-then-not-use_cache-clause-computes
returns-then-not-use_cache-clause-computes g c answer argument computes =
    record { calls = (called g.F.FnMut answer _ _ _ _ computes.calls c.func.ensures).1; cached = computes.cached }

pub returns-in-Some-clause-computes : goal.returns-in-Some-clause-computes
returns-in-Some-clause-computes g c answer argument computes =
    let all = agrees-looked_up answer c.args.self.now.cache _ computes.cached in
    record { calls = computes.calls; cached = subst (λ (m : CacheState g.row.T.Denot g.row.R.Denot). (i : _) → Agrees answer (slot_at m.slots i)) (sym c.get.follows.holds-at-none) all }

pub returns-clause-answers : goal.returns-clause-answers
returns-clause-answers g c answer argument computes = (called g.F.FnMut answer _ _ _ _ computes.calls c.func-value.ensures).0

pub returns-clause-computes : goal.returns-clause-computes
returns-clause-computes g c answer argument computes =
    let call = called g.F.FnMut answer _ _ _ _ computes.calls c.func-value.ensures in
    let found = subst (λ (m : CacheState g.row.T.Denot g.row.R.Denot). (i : _) → Agrees answer (slot_at m.slots i)) (sym c.get.follows.holds-at-none) (agrees-looked_up answer c.args.self.now.cache _ computes.cached) in
    let put : c.insert.result.now ≡ answer c.in_ok-key.key = c.insert.ensures.value ∙ call.0 ∙ sym (argument.cloned c.args.x c.in_ok-key.key c.in_ok-key.ensures.cases) in
    record { calls = call.1; cached = agrees-set answer _ _ _ found put }
