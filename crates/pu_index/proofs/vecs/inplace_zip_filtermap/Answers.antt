-- A turn takes the front of both queues, and puts what is kept at their backs.
use Rattle.std.proofs.Common.{◌<◌, ◌∷◌, [], ◌++◌, length, refl, sym, ◌∙◌, arith, of_calls, rules}
use Rattle.std.proofs.lemmas.List.{append-nil}
use Rattle.pu_index.proofs.CallsPush.{Calls-push}
use Rattle.pu_index.proofs.Turn.{turn}
use Rattle.pu_index.proofs.vecs.inplace_zip_filtermap.Goals as goal

pub loop-turn-init : goal.loop-turn-init
loop-turn-init g c = (
  search of_calls,
  (
    [],
    [],
    refl,
    record { rest = c.args.x.now.items; from = refl; holds = c.take_all-firsts.ensures.items ∙ sym (append-nil c.args.x.now.items); left = omega arith },
    record { rest = c.args.y.now.items; from = refl; holds = c.take_all-seconds.ensures.items ∙ sym (append-nil c.args.y.now.items); left = omega (arith, c.args.x.now.ok.0, c.args.y.now.ok.0) },
  ),
)

pub loop-turn-preserved : goal.loop-turn-preserved
loop-turn-preserved g c =
    let i = c.loop-turn.invariant.1 in
    let first = c.take_front-first.result in
    let second = c.take_front-second.result in
    let lt : c.loop-turn._turn < length c.args.x.now.items = omega (arith, c.args.x.now.ok.0) in (
      search of_calls,
      (
        i.0 ++ (first, second) ∷ [],
        i.1 ++ c.f.result ∷ [],
        Calls-push (λ p a r q. goal.F-step g p a.0 a.1 r q) c.args.f i.0 i.1 c.loop-turn.f (first, second) c.f.result c.f.new.self i.2 (search rules),
        turn (λ p. p.0) i.0 i.1 _ _ _ _ _ _ (first, second) first c.f.result i.3 lt c.take_front-first.ensures.item refl c.keep.ensures.firsts,
        turn (λ p. p.1) i.0 i.1 _ _ _ _ _ _ (first, second) second c.f.result i.4 lt c.take_front-second.ensures.item refl c.keep.ensures.seconds,
      ),
    )
