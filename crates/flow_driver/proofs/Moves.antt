-- The moves of a run: the step that each makes, and the world at which the run is after it.
use Rattle.std.proofs.Common.{◌≡◌, ℕ, ◌+◌, Bool, true, false, List, length, Option, None, Some, inl, inr, refl, sym, ap, subst, ◌∙◌}
use Rattle.std.specs.Prelude.{◌&&◌, IsFalse, IsSome, OnOk, Result, slice_get, slice_set}
use Rattle.std.proofs.lemmas.List.{length-set}
use Rattle.std.proofs.lemmas.Result.{on_ok_weaker}
use Rattle.ps_flow.specs.Claiming.{MayClaim}
use Rattle.ps_flow.specs.Openings.{HasOpened, Tells}
use Rattle.ps_flow.specs.Pulling.{MayStore}
use Rattle.ps_flow.specs.Standing.{EndsAs, Stands}
use Rattle.ps_frame.specs.Causes.{Cause}
use Rattle.ps_frame.specs.Functions.{Functions}
use Rattle.ps_frame.specs.Tables.{Row}
use Rattle.ps_frame.specs.declared.refusal.PolarsError.{PolarsError}
use Rattle.ps_meaning.specs.Errors.{cause_error}
use Rattle.ps_meaning.specs.Shape.{PhysicalNode, Shape}
use Rattle.ps_options.specs.declared.options.Options.{Options}
use Rattle.ps_turns.specs.Claims.{Claim}
use Rattle.ps_turns.specs.Tasks.{Piece}
use Rattle.ps_world.specs.Claims.{after_claim, piece_of}
use Rattle.ps_world.specs.Closing.{after_close, after_end}
use Rattle.ps_world.specs.Pipes.{is_input}
use Rattle.ps_world.specs.Pulls.{after_pull}
use Rattle.ps_world.specs.Step.{Steps}
use Rattle.ps_world.specs.World.{Ending, Node, Pipe, Record, World, claimed, closed, ended, faulty, finished, handed_in, opened, pulled, running}
use Rattle.turn_laws.specs.Updating.{SeenNode}
use Rattle.world_records.specs.Shown.{IsEnabled, move_made}
use Rattle.world_records.specs.declared.records.Move.{Move}
use Rattle.world_records.specs.declared.records.Move.TheVariants as turn
use Rattle.worker_pieces.proofs.Changed.{outs_claimed, outs_opened}
use Rattle.worker_pieces.proofs.Holding.{claimed_held, is_free, same_outs}
use Rattle.flow_driver.proofs.Reached.{node_in_shape, one_more, same_options}
use Rattle.flow_driver.proofs.Standing.{all_stream_at, facts_at, over_at, stands_at, streams_at}
use Rattle.flow_driver.proofs.Streaming.{goes_on, not_multiplexer}
use Rattle.worker_pieces.specs.Held.{AreHeld}
use Rattle.flow_driver.specs.Runs.{HasMade, IsAt, MayMake}
use Rattle.flow_driver.specs.declared.run.Run.{Run}

-- THE STEP THAT MAKES A MOVE
module _ (F : Functions) (w : World) where
  abbrev Makes : Move → Type 0
  Makes turn.Open = (k : ℕ) × (v : World) × Steps F w (opened k) v
  Makes (turn.Claim n i) = (k : ℕ) × (worker : ℕ) × (v : World) × Steps F w (claimed n i k worker) v
  Makes (turn.Pull n i) = (k : ℕ) × (v : World) × Steps F w (pulled n i k) v
  Makes (turn.Close n) = (v : World) × Steps F w (closed n) v
  Makes turn.End = (k : ℕ) × (v : World) × Steps F w (ended k) v

  step_of : (r : Record) (v : World) (m : Move) → move_made r ≡ Some m → Steps F w r v → Makes m
  step_of (opened k) v m made s = subst Makes (let same : turn.Open ≡ m = (let both : Some turn.Open ≡ Some m = made in cc) in same) (k, v, s)
  step_of (claimed n i k worker) v m made s = subst Makes (let same : turn.Claim n i ≡ m = (let both : Some (turn.Claim n i) ≡ Some m = made in cc) in same) (k, worker, v, s)
  step_of (handed_in n i k worker a) v m made s = absurd (let clash : None ≡ Some m = made in cc)
  step_of (pulled n i k) v m made s = subst Makes (let same : turn.Pull n i ≡ m = (let both : Some (turn.Pull n i) ≡ Some m = made in cc) in same) (k, v, s)
  step_of (closed n) v m made s = subst Makes (let same : turn.Close n ≡ m = (let both : Some (turn.Close n) ≡ Some m = made in cc) in same) (v, s)
  step_of (ended k) v m made s = subst Makes (let same : turn.End ≡ m = (let both : Some turn.End ≡ Some m = made in cc) in same) (k, v, s)

  pub makes : (m : Move) → IsEnabled F w m → Makes m
  makes m e = step_of e.0 e.1 m e.2 e.3

first : (a b : Bool) → (a && b) ≡ true → a ≡ true
first true b e = refl
first false b e = e

-- a fault leaves an error
some_error : (e : Ending) (f : Bool) (x : Option PolarsError) (c : Cause) → EndsAs e f x → e ≡ faulty c → x ≡ None → ⊥
some_error running f x c m e none = absurd (let clash : running ≡ faulty c = e in cc)
some_error finished f x c m e none = absurd (let clash : finished ≡ faulty c = e in cc)
some_error (faulty d) f x c m e none = absurd (let clash : None ≡ Some (cause_error d) = sym none ∙ m.1 in cc)

is_marked : (x : Option PolarsError) → IsSome x → x ≡ None → ⊥
is_marked None h none = absurd (let clash : false ≡ true = h in cc)
is_marked (Some e) h none = absurd (let clash : Some e ≡ None = none in cc)

module _ {N P : Type 0} (Has : Options → N → SeenNode → Type 0) (Shows : Piece → P → Type 0) (IsFor : Functions → PhysicalNode → P → Type 0) where
  module _ (F : Functions) (shape : Shape) (o : Options) (w : World) (worker : ℕ) (m : Move) (run : Run N P) (may : MayMake Has Shows IsFor F shape o w worker m run) where
    pub stands_before : Stands Has w run.world
    stands_before = may.at.stands may.unmarked

    held_before : AreHeld Shows IsFor F shape w run.pieces.items
    held_before = may.at.held may.unmarked

    -- the pieces that workers have are left
    moved : (next : Run N P) (r : Record) (v : World) → move_made r ≡ Some m → Steps F w r v → v.outs ≡ w.outs → next.pieces.items ≡ run.pieces.items → Stands Has v next.world → HasMade Has Shows IsFor F shape o w m next
    moved next r v made s outs same stands =
        let held : AreHeld Shows IsFor F shape v next.pieces.items = subst (AreHeld Shows IsFor F shape v) (sym same) (same_outs Shows IsFor F shape w v run.pieces.items held_before outs) in
        (r, v, made, s, stands_at Has Shows IsFor F shape o v may.at.driven (one_more F shape o w may.at.reached r v s) next (ap length same ∙ may.at.seats) stands held)

  module _ (F : Functions) (shape : Shape) (o : Options) (w : World) (worker n i : ℕ) (run : Run N P) (may : MayMake Has Shows IsFor F shape o w worker (turn.Claim n i) run) where
    -- CLAIMS
    pub record Claims : Type 0 where
      pub node : Node
      pub claim : Claim
      pub may_claim : MayClaim F w n i worker node claim
      pub steps : Steps F w (claimed n i claim.number worker) (after_claim w n i worker node claim)

    pub the_claim : Claims
    the_claim = let e = makes F w (turn.Claim n i) may.enabled in of_step e.0 e.1 e.2 e.3
      where
        of_step : (k other : ℕ) (v : World) → Steps F w (claimed n i k other) v → Claims
        of_step k other v s =
            let x = s.0 in
            let at = s.1 in
            let c = s.5 in
            let seats : length run.pieces.items ≡ w.options.workers = may.at.seats ∙ ap (λ (x : Options). x.workers) (sym (same_options F shape o w may.at.reached)) in
            let free = is_free Shows IsFor F shape w run.pieces.items seats (held_before F shape o w worker (turn.Claim n i) run may) worker may.idle in
            record {
              node = x;
              claim = c.0;
              may_claim = record { facts = facts_at F shape o w may.at.driven may.at.reached; all_stream = all_stream_at F shape o w may.at.driven may.at.reached; here = at.0; claims = c.1; free = free };
              steps = (x, at, free, s.3, s.4, (c.0, c.1, refl, refl));
            }

    pub has_claimed : (next : Run N P) (piece : P)
        → ((x : Node) (c : Claim) → MayClaim F w n i worker x c → Shows (piece_of n i worker c) piece × IsFor F x.node piece × Stands Has (after_claim w n i worker x c) next.world)
        → next.pieces.items ≡ slice_set run.pieces.items worker (Some piece) → HasMade Has Shows IsFor F shape o w (turn.Claim n i) next
    has_claimed next piece gives same =
        let it = the_claim in
        let x = it.node in
        let c = it.claim in
        let v : World = after_claim w n i worker x c in
        let got = gives x c it.may_claim in
        let r : Record = claimed n i c.number worker in
        let on = goes_on w.options x.node _ x.progress _ _ i _ x.node.kind (streams_at F shape o w may.at.driven may.at.reached n x it.may_claim.here) c it.may_claim.claims in
        let held : AreHeld Shows IsFor F shape v next.pieces.items = subst (AreHeld Shows IsFor F shape v) (sym same)
        (claimed_held Shows IsFor F shape w v run.pieces.items (held_before F shape o w worker (turn.Claim n i) run may) worker (piece_of n i worker c) refl
        (outs_claimed w n i worker x c) x.node piece got.0 (node_in_shape F shape o w may.at.reached n x it.may_claim.here) got.1 on may.idle) in
        (r, v, refl, it.steps, stands_at Has Shows IsFor F shape o v may.at.driven (one_more F shape o w may.at.reached r v it.steps) next (ap length same ∙ length-set run.pieces.items worker (Some piece) ∙ may.at.seats) got.2 held)

  module _ (F : Functions) (shape : Shape) (o : Options) (w : World) (worker n i : ℕ) (run : Run N P) (may : MayMake Has Shows IsFor F shape o w worker (turn.Pull n i) run) where
    pub has_pulled : (next : Run N P) → ((x : Node) (p : Pipe) (m : List Row) → MayStore F w n i x p m → Stands Has (after_pull w n i x p m) next.world) → next.pieces.items ≡ run.pieces.items → HasMade Has Shows IsFor F shape o w (turn.Pull n i) next
    has_pulled next gives same = let e = makes F w (turn.Pull n i) may.enabled in of_step e.0 e.1 e.2
      where
        of_step : (k : ℕ) (v : World) → Steps F w (pulled n i k) v → HasMade Has Shows IsFor F shape o w (turn.Pull n i) next
        of_step k v s =
            let x = s.0 in
            let at = s.1 in
            let p = s.4.0 in
            let m = s.4.1 in
            let stores : MayStore F w n i x p m =
            record {
              facts = facts_at F shape o w may.at.driven may.at.reached;
              runs = at.2;
              here = at.0;
              stores = s.2;
              gives_nothing = not_multiplexer x.node.kind (streams_at F shape o w may.at.driven may.at.reached n x at.0);
              among = s.4.2;
              leads = first (is_input n i p) p.in_phase s.4.3;
              ready = s.4.4;
              next = s.4.5;
            } in
            let stands = subst (λ (u : World). Stands Has u next.world) (sym s.4.8) (gives x p m stores) in
            moved F shape o w worker (turn.Pull n i) run may next (pulled n i k) v refl s (ap (λ (u : World). u.outs) s.4.8) same stands

  module _ (F : Functions) (shape : Shape) (o : Options) (w : World) (worker n : ℕ) (run : Run N P) (may : MayMake Has Shows IsFor F shape o w worker (turn.Close n) run) where
    pub has_closed : (next : Run N P) → ((x : Node) → slice_get w.nodes n ≡ Some x → Stands Has (after_close w n x) next.world) → next.pieces.items ≡ run.pieces.items → HasMade Has Shows IsFor F shape o w (turn.Close n) next
    has_closed next gives same = let e = makes F w (turn.Close n) may.enabled in of_step e.0 e.1
      where
        of_step : (v : World) → Steps F w (closed n) v → HasMade Has Shows IsFor F shape o w (turn.Close n) next
        of_step v s =
            let stands = subst (λ (u : World). Stands Has u next.world) (sym s.4) (gives s.0 s.1.0) in
            moved F shape o w worker (turn.Close n) run may next (closed n) v refl s (ap (λ (u : World). u.outs) s.4) same stands

  module _ (F : Functions) (shape : Shape) (o : Options) (w : World) (worker : ℕ) (run : Run N P) where
    pub has_ended : MayMake Has Shows IsFor F shape o w worker turn.End run → (next : Run N P) → Stands Has (after_end w) next.world → next.pieces.items ≡ run.pieces.items → HasMade Has Shows IsFor F shape o w turn.End next
    has_ended may next stands same = let e = makes F w turn.End may.enabled in of_step e.0 e.1 e.2
      where
        of_step : (k : ℕ) (v : World) → Steps F w (ended k) v → HasMade Has Shows IsFor F shape o w turn.End next
        of_step k v s =
            moved F shape o w worker turn.End run may next (ended k) v refl s (ap (λ (u : World). u.outs) s.4) same (subst (λ (u : World). Stands Has u next.world) (sym s.4) stands)

    -- OPENS
    pub opens_here : MayMake Has Shows IsFor F shape o w worker turn.Open run → IsFalse w.is_open × (w.ending ≡ running)
    opens_here may = let e = makes F w turn.Open may.enabled in (e.2.0, e.2.1)

    pub has_opened : MayMake Has Shows IsFor F shape o w worker turn.Open run → (next : Run N P) (v : World) → Steps F w (opened (w.phase + 1)) v → HasOpened Has v next.world → next.pieces.items ≡ run.pieces.items → HasMade Has Shows IsFor F shape o w turn.Open next
    has_opened may next v s opened_as same = by opened_as
      where
        by : HasOpened Has v next.world → HasMade Has Shows IsFor F shape o w turn.Open next
        by (inl stands) = moved F shape o w worker turn.Open run may next (opened (w.phase + 1)) v refl s (outs_opened F w v (w.phase + 1) s) same stands
        by (inr broken) =
            let marked = some_error v.ending next.world.is_finished next.world.fault broken.0 broken.2.ending broken.1 in
            (opened (w.phase + 1), v, refl, s, over_at Has Shows IsFor F shape o v may.at.driven (one_more F shape o w may.at.reached (opened (w.phase + 1)) v s) next (ap length same ∙ may.at.seats) broken.2 marked)

    -- WHERE MEMORY IS MISSING
    pub stays_at : IsAt Has Shows IsFor F shape o w run → run.world.fault ≡ None → (next : Run N P) → Stands Has w next.world → next.pieces.items ≡ run.pieces.items → IsAt Has Shows IsFor F shape o w next
    stays_at at unmarked next stands same = stands_at Has Shows IsFor F shape o w at.driven at.reached next (ap length same ∙ at.seats) stands (subst (AreHeld Shows IsFor F shape w) (sym same) (at.held unmarked))

    pub marked_at : IsAt Has Shows IsFor F shape o w run → (next : Run N P) → Tells w next.world → IsSome next.world.fault → next.pieces.items ≡ run.pieces.items → IsAt Has Shows IsFor F shape o w next
    marked_at at next tells marked same = over_at Has Shows IsFor F shape o w at.driven at.reached next (ap length same ∙ at.seats) tells (is_marked next.world.fault marked)

  -- WHICH MOVE IT WAS
  pub made_as : {T E : Type 0} (r : Result T E) (worker : ℕ) (run next : Run N P) (m n : Move) → m ≡ n
      → OnOk r ((F : Functions) (shape : Shape) (o : Options) (w : World) → MayMake Has Shows IsFor F shape o w worker n run → HasMade Has Shows IsFor F shape o w n next)
      → OnOk r ((F : Functions) (shape : Shape) (o : Options) (w : World) → MayMake Has Shows IsFor F shape o w worker m run → HasMade Has Shows IsFor F shape o w m next)
  made_as r worker run next m n is made = subst (λ (k : Move). OnOk r ((F : Functions) (shape : Shape) (o : Options) (w : World) → MayMake Has Shows IsFor F shape o w worker k run → HasMade Has Shows IsFor F shape o w k next)) (sym is) made

  -- a move that no worker is named in
  pub made_by : {T E : Type 0} (r : Result T E) (worker : ℕ) (run next : Run N P) (m n : Move) → m ≡ n
      → OnOk r ((F : Functions) (shape : Shape) (o : Options) (w : World) (other : ℕ) → MayMake Has Shows IsFor F shape o w other n run → HasMade Has Shows IsFor F shape o w n next)
      → OnOk r ((F : Functions) (shape : Shape) (o : Options) (w : World) → MayMake Has Shows IsFor F shape o w worker m run → HasMade Has Shows IsFor F shape o w m next)
  made_by r worker run next m n is made = made_as r worker run next m n is (on_ok_weaker r (λ h F shape o w may. h F shape o w worker may) made)
