-- A worker without a piece, or none.
use Rattle.std.proofs.Common.{◌≡◌, ap, arith, Bool, false, refl, true}
use Rattle.flow_moves.proofs.Parts.{outs_out}
use Rattle.flow_moves.proofs.workers.has_free_worker.Goals as goal
use Rattle.ps_options.specs.declared.options.Options.{Options}
use Rattle.ps_outs.proofs.Counting.{free_seat, seat_free}

true_unless : (b : Bool) → (b ≡ false → ⊥) → b ≡ true
true_unless true h = refl
true_unless false h = absurd (h refl)

pub has_free-requires : goal.has_free-requires
has_free-requires g c = let is = c.workers.ensures in let few = c.args.world.now.options.few_workers in omega (arith, is, few)

pub returns : goal.returns
returns g c = λ w stands.
    let h = c.args.world.now in
    let outs = c.outs.result.now in
    let out = outs_out g.N.RunNode.Has w h stands outs c.outs.ensures in
    let workers = ap (λ (o : Options). o.workers) stands.options in
    let is = c.workers.ensures in (
      (λ t. let s = c.has_free.ensures.yes t in (s.0, free_seat w.options.workers w.outs outs out s.0 s.1)),
      (λ f. true_unless c.has_free.result (λ e. let inside = f.1.0 in c.has_free.ensures.other e f.0 (omega (arith, inside, workers, is)) (seat_free w.options.workers w.outs outs out f.0 f.1))),
    )
