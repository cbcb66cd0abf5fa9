-- In every reached world what a passing node has sent are answers to what it took, each behind the rows before.
use Rattle.std.proofs.Common.{◌≡◌, ◌≢◌, ℕ, zero, suc, ◌+◌, ◌⊎◌, false, List, [], ◌∷◌, length, take, Some, None, refl, sym, ap, subst, ◌∙◌, inl, inr, map-id}
use Rattle.std.specs.Prelude.{Contains, map, nat_eq, not, slice_get}
use Rattle.std.proofs.lemmas.Bool.{cases_eq}
use Rattle.std.proofs.lemmas.List.Elements.{Contains-append_cases}
use Rattle.ps_frame.specs.Causes.{Cause}
use Rattle.ps_frame.specs.Functions.{Functions}
use Rattle.ps_frame.specs.Tables.{Fields}
use Rattle.ps_meaning.specs.Shape.{PhysicalKind, PhysicalNode, Shape, streaming_slice, with_row_index}
use Rattle.ps_meaning.specs.Sound.{IsSound, input_schemas}
use Rattle.ps_options.specs.declared.options.Options.{Options}
use Rattle.ps_turns.specs.Progress.{Progress}
use Rattle.ps_turns.specs.Results.{IsResult}
use Rattle.ps_turns.specs.Tasks.{Answer, Piece, bad, good, partial}
use Rattle.ps_world.specs.Answers.{answered}
use Rattle.ps_world.specs.Booking.{GivesAfter, GoesOn, HasBooked, IsPassing, PassesAfter}
use Rattle.ps_world.specs.Claims.{after_claim, before_drops, claim_at}
use Rattle.ps_world.specs.Opening.{Reaches, fresh_node, fresh_pipe, opening, pipes_from, pipes_to}
use Rattle.ps_world.specs.Step.{Replays, Steps}
use Rattle.ps_world.specs.World.{Node, Pipe, Record, World, claimed, closed, ended, handed_in, opened, pulled, rows_in_order, shape_of}
use Rattle.world_facts.proofs.ClaimedOnce.{replay_shape}
use Rattle.world_laws.proofs.InOrder.{contains_cases, none_in_nil}
use Rattle.world_laws.proofs.PassingPorts.{was_kept}
use Rattle.world_laws.proofs.Shapes.{step_keeps}
use Rattle.world_claims.proofs.ReachedFacts.{known_opening, known_step}
use Rattle.world_claims.specs.Numbering.{Known}
use Rattle.passing_runs.proofs.Kept.{AllPassing, taken_rows}
use Rattle.passing_runs.proofs.Moves.{hand_in, other_claim, other_pull, own_claim}
use Rattle.passing_runs.proofs.Still.{IsStill, close_still, drops_still, end_still, opens_still, partial_still, same_node, still_keeps, still_then, updates_still}

-- answers but rows
partial_answer : (w : World) (q : Piece) (k : ℕ) → IsStill w (answered w q (partial k))
partial_answer w q k =
    let h = partial_still q w (slice_get w.nodes q.node) refl in
    record { pipe = h.pipe; pipes = h.pipes; like = h.like; nodes = h.nodes; outs = λ r c. (was_kept (λ (x : Piece). not (nat_eq x.worker q.worker)) r w.outs c).0 }

bad_answer : (w : World) (q : Piece) (c : Cause) → IsStill w (answered w q (bad c))
bad_answer w q c =
    record {
      pipe = λ x. x;
      pipes = sym (map-id w.pipes);
      like = λ x. record { joins = refl; got = refl; next = refl; lost = λ d. d };
      nodes = λ m y e. (y, e, same_node y);
      outs = λ r d. (was_kept (λ (x : Piece). not (nat_eq x.worker q.worker)) r w.outs d).0;
    }

none_booked : (kind : PhysicalKind) (a : Progress) (k : ℕ) → a.booked ≡ 0 → k ≡ 0 → HasBooked kind a k
none_booked (with_row_index name offset) a k e z = e ∙ sym z
none_booked (streaming_slice offset n) a k e z = e ∙ sym z
none_booked kind a k e z = tt

-- a pipe that has got nothing
abbrev IsBare : Pipe → Type 0
IsBare x = (x.got ≡ []) × (x.next ≡ 0)

bare_to : (n i : ℕ) (qs : List (ℕ × ℕ)) (x : Pipe) → Contains (pipes_to n i qs) x → IsBare x
bare_to n i [] x c = absurd (none_in_nil x c)
bare_to n i (q ∷ qs) x c = by (contains_cases (fresh_pipe q.0 q.1 n i) x (pipes_to n (i + 1) qs) c) (bare_to n (i + 1) qs x)
  where
    by : (fresh_pipe q.0 q.1 n i ≡ x) ⊎ Contains (pipes_to n (i + 1) qs) x → (Contains (pipes_to n (i + 1) qs) x → IsBare x) → IsBare x
    by (inl e) rest = subst IsBare e (refl, refl)
    by (inr later) rest = rest later

bare_from : (shape : Shape) (k : ℕ) (x : Pipe) → Contains (pipes_from shape k) x → IsBare x
bare_from [] k x c = absurd (none_in_nil x c)
bare_from (p ∷ ps) k x c = by (Contains-append_cases (pipes_to k 0 p.inputs) (pipes_from ps (k + 1)) x c) (bare_from ps (k + 1) x)
  where
    by : Contains (pipes_to k 0 p.inputs) x ⊎ Contains (pipes_from ps (k + 1)) x → (Contains (pipes_from ps (k + 1)) x → IsBare x) → IsBare x
    by (inl here) rest = bare_to k 0 p.inputs x here
    by (inr later) rest = rest later

fresh_at : (shape : Shape) (n : ℕ) (node : Node) → slice_get (map fresh_node shape) n ≡ Some node → node.progress.booked ≡ 0
fresh_at [] n node e = absurd (let no : None ≡ Some node = e in cc)
fresh_at (p ∷ ps) zero node e = let both : Some (fresh_node p) ≡ Some node = e in let is : fresh_node p ≡ node = cc in ap (λ (x : Node). x.progress.booked) (sym is)
fresh_at (p ∷ ps) (suc n) node e = fresh_at ps n node e

pub fresh_shape : (shape : Shape) → map (λ (x : Node). x.node) (map fresh_node shape) ≡ shape
fresh_shape [] = refl
fresh_shape (p ∷ ps) = ap (λ qs. p ∷ qs) (fresh_shape ps)

pub node_at : (nodes : List Node) (n : ℕ) (p : PhysicalNode) → slice_get (map (λ (x : Node). x.node) nodes) n ≡ Some p → (node : Node) × (slice_get nodes n ≡ Some node)
node_at [] n p e = absurd (let no : None ≡ Some p = e in cc)
node_at (x ∷ xs) zero p e = (x, refl)
node_at (x ∷ xs) (suc n) p e = node_at xs n p e

module _ (F : Functions) (shape : Shape) (n : ℕ) (p : PhysicalNode) (s : Fields) (there : slice_get shape n ≡ Some p) (passing : IsPassing p.kind) (reads : input_schemas shape p ≡ s ∷ []) (law : GoesOn F p s) where
  step_passing : (w v : World) (r : Record) → Known F w → shape_of w ≡ shape → Steps F w r v → AllPassing F n p s w → AllPassing F n p s v
  step_passing w v (opened phase) k same st all = still_keeps F n p s w v (still_then w st.3.0 v (updates_still F w st.3.0 st.3.1) (opens_still F st.3.0 v phase st.3.2)) all
  step_passing w v (claimed m i number worker) k same st all =
      let start = before_drops w m i worker st.0 st.5.0 in
      subst (AllPassing F n p s) (sym st.5.3) (still_keeps F n p s start (after_claim w m i worker st.0 st.5.0) (drops_still (length start.nodes) start) (by (cases_eq m n)))
    where
      shown : slice_get (shape_of w) n ≡ Some p
      shown = subst (λ x. slice_get x n ≡ Some p) (sym same) there

      by : (m ≡ n) ⊎ (m ≢ n) → AllPassing F n p s (before_drops w m i worker st.0 st.5.0)
      by (inr other) = other_claim F n p s passing law w k shown all m i worker st.0 st.5.0 other
      by (inl here) =
          let at : slice_get w.nodes n ≡ Some st.0 = ap (slice_get w.nodes) (sym here) ∙ st.1.0 in
          let is = subst (λ j. claim_at w j i st.0 ≡ Some st.5.0) here st.5.1 in
          subst (λ j. AllPassing F n p s (before_drops w j i worker st.0 st.5.0)) (sym here) (own_claim F n p s passing law w k shown all (subst (λ x. input_schemas x p ≡ s ∷ []) (sym same) reads) i worker st.0 at st.5.0 is)
  step_passing w v (handed_in m i number worker handed) k same st all = subst (AllPassing F n p s) (sym st.7.3) (by st.7.0 st.7.1)
    where
      shown : slice_get (shape_of w) n ≡ Some p
      shown = subst (λ x. slice_get x n ≡ Some p) (sym same) there

      by : (a : Answer) → IsResult F st.0 a → AllPassing F n p s (answered w st.0 a)
      by (good rs) r = hand_in F n p s passing law w k shown all st.0 st.1 rs r
      by (partial j) r = still_keeps F n p s w (answered w st.0 (partial j)) (partial_answer w st.0 j) all
      by (bad c) r = still_keeps F n p s w (answered w st.0 (bad c)) (bad_answer w st.0 c) all
  step_passing w v (pulled m i number) k same st all =
      subst (AllPassing F n p s) (sym st.4.8) (other_pull F n p s passing law w k (subst (λ x. slice_get x n ≡ Some p) (sym same) there) all m i st.0 st.4.0 st.4.1 st.1.0 st.2)
  step_passing w v (closed m) k same st all = subst (AllPassing F n p s) (sym st.4) (still_keeps F n p s w _ (close_still w m st.0 st.1.0) all)
  step_passing w v (ended phase) k same st all = subst (AllPassing F n p s) (sym st.4) (still_keeps F n p s w _ (end_still w) all)

  replay_passing : (w v : World) (rs : List Record) → Known F w → shape_of w ≡ shape → Replays F w rs v → AllPassing F n p s w → AllPassing F n p s v
  replay_passing w v [] k same e all = subst (AllPassing F n p s) (sym e) all
  replay_passing w v (r ∷ rs) k same st all = replay_passing st.0 v rs (known_step F w st.0 r k st.1) (step_keeps F w st.0 r st.1 ∙ same) st.2 (step_passing w st.0 r k same st.1 all)

  at_opening : (o : Options) → AllPassing F n p s (opening shape o)
  at_opening o node from to at cf rf ct st =
      let a = bare_from shape 0 from cf in
      let b = bare_from shape 0 to ct in
      record {
        booked = none_booked p.kind node.progress (taken_rows from) (fresh_at shape n node at) (λ i. length (rows_in_order (take (a.1 i) (a.0 i))));
        answers = λ d. subst (PassesAfter (GivesAfter F p s) 0 from.got) (sym b.0) tt;
        pieces = λ q c e. absurd (none_in_nil q c);
      }

  pub reached_passing : (o : Options) (w : World) → IsSound F shape → Reaches F shape o w → AllPassing F n p s w
  reached_passing o w sound r = replay_passing (opening shape o) w r.0 (known_opening F shape o sound) (fresh_shape shape) r.1 (at_opening o)

  pub reached_answers : (o : Options) (w : World) → IsSound F shape → Reaches F shape o w → (from to : Pipe) → Contains w.pipes from → from.wire.receiver ≡ n → Contains w.pipes to → to.wire.sender ≡ n → to.is_dropped ≡ false → PassesAfter (GivesAfter F p s) 0 from.got to.got
  reached_answers o w sound r from to cf rf ct st d =
      let shown : slice_get (shape_of w) n ≡ Some p = subst (λ x. slice_get x n ≡ Some p) (sym (replay_shape F (opening shape o) w r.0 r.1 ∙ fresh_shape shape)) there in
      let at = node_at w.nodes n p shown in
      (reached_passing o w sound r at.0 from to at.1 cf rf ct st).answers d
