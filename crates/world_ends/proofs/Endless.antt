-- What ends has no endless run, and where no world is stuck it leads to a world that is over.
use Rattle.std.proofs.Common.{◌≡◌, ◌≢◌, ℕ, ◌+◌, ◌⊎◌, List, [], ◌∷◌, ◌++◌, refl, subst, inl, inr}
use Rattle.std.specs.Prelude.{Contains}
use Rattle.ps_frame.specs.Functions.{Functions}
use Rattle.ps_meaning.specs.Shape.{Shape}
use Rattle.ps_options.specs.declared.options.Options.{Options}
use Rattle.ps_turns.specs.Tasks.{Piece, handed_of}
use Rattle.ps_world.specs.Answers.{answered}
use Rattle.ps_world.specs.Laws.{IsOut, MayStep}
use Rattle.ps_world.specs.Opening.{Reaches, opening}
use Rattle.ps_world.specs.Step.{Replays, Steps}
use Rattle.ps_world.specs.World.{Ending, Record, World, faulty, finished, handed_in, running}
use Rattle.world_laws.proofs.InOrder.{contains_first}
use Rattle.world_measure.specs.Driving.{StepsTo}
use Rattle.world_measure.specs.Order.{Ends, ends}
use Rattle.world_ends.specs.Runs.{IsEndless, IsNeverStuck, PiecesHaveResults, ReachesEnd}

pub no_endless : (F : Functions) (w : World) → Ends (StepsTo F) w → (run : ℕ → World) → run 0 ≡ w → IsEndless F run → ⊥
no_endless F w (ends x below) run e steps = no_endless F (run 1) (below (run 1) (subst (StepsTo F (run 1)) e (steps 0))) (λ k. run (k + 1)) refl (λ k. steps (k + 1))

-- RUNS TO AN END
is_running : (e : Ending) → (e ≡ running) ⊎ (e ≢ running)
is_running running = inl refl
is_running finished = inr (λ q. let no : finished ≡ running = q in cc)
is_running (faulty c) = inr (λ q. let no : faulty c ≡ running = q in cc)

one_more : (F : Functions) (u w v : World) (r : Record) (journal : List Record) → Replays F u journal w → Steps F w r v → Replays F u (journal ++ r ∷ []) v
one_more F u w v r [] e s = (v, subst (λ x. Steps F x r v) e s, refl)
one_more F u w v r (q ∷ qs) (x, t, more) s = (x, t, one_more F x w v r qs more s)

some_piece : (xs : List Piece) → xs ≢ [] → (q : Piece) × Contains xs q
some_piece [] some = absurd (some refl)
some_piece (q ∷ qs) some = (q, contains_first q qs)

module _ (F : Functions) (shape : Shape) (o : Options) (never_stuck : IsNeverStuck F shape o) (results : PiecesHaveResults F shape o) where
  -- a piece that is out may be handed in
  may_step : (w : World) → Reaches F shape o w → w.ending ≡ running → MayStep F w ⊎ IsOut w → MayStep F w
  may_step w reached run (inl m) = m
  may_step w reached run (inr out) =
      let q = some_piece w.outs out in
      let a = results w q.0 reached q.1 in
      (handed_in q.0.node q.0.input q.0.number q.0.worker (handed_of a.0), answered w q.0 a.0, (q.0, q.1, refl, refl, refl, refl, run, (a.0, a.1, refl, refl)))

  from_world : (w : World) → Reaches F shape o w → ((v : World) → StepsTo F v w → Reaches F shape o v → ReachesEnd F v) → (w.ending ≡ running) ⊎ (w.ending ≢ running) → ReachesEnd F w
  from_world w reached later (inr over) = ([], w, refl, over)
  from_world w reached later (inl run) =
      let m = may_step w reached run (never_stuck w reached run) in
      let rest = later m.1 (m.0, m.2) (reached.0 ++ m.0 ∷ [], one_more F (opening shape o) w m.1 m.0 reached.0 reached.1 m.2) in
      (m.0 ∷ rest.0, rest.1, (m.1, m.2, rest.2), rest.3)

  pub reaches_end : (w : World) → Ends (StepsTo F) w → Reaches F shape o w → ReachesEnd F w
  reaches_end w (ends x below) reached = from_world x reached (λ v s r. reaches_end v (below v s) r) (is_running x.ending)
