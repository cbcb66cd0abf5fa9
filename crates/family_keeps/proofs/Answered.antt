-- What a passing node has sent are its answers to what it took, also where its output is dropped, and in worlds between updates.
use Rattle.std.proofs.Common.{◌≡◌, ◌≢◌, ℕ, ◌+◌, ◌⊎◌, Bool, true, false, cond, List, [], ◌∷◌, ◌++◌, length, Option, Some, None, refl, sym, ap, subst, ◌∙◌, inl, inr, arith}
use Rattle.std.specs.Prelude.{Contains, map, nat_eq, not, slice_get, slice_set, ◌&&◌}
use Rattle.std.proofs.lemmas.Bool.{cases_eq}
use Rattle.std.proofs.lemmas.List.Elements.{Contains-append_cases}
use Rattle.ps_frame.specs.Functions.{Functions}
use Rattle.ps_frame.specs.Tables.{Fields, Row}
use Rattle.ps_meaning.specs.Shape.{PhysicalNode, Shape}
use Rattle.ps_meaning.specs.Sound.{IsSound, input_schemas}
use Rattle.ps_options.specs.declared.options.Options.{Options}
use Rattle.ps_ports.specs.Wires.{Wire}
use Rattle.ps_turns.specs.Claims.{Claim}
use Rattle.ps_turns.specs.Progress.{Progress, is_multiplexer}
use Rattle.ps_turns.specs.Results.{IsResult}
use Rattle.ps_turns.specs.Tasks.{Answer, Piece, bad, good, partial}
use Rattle.ps_world.specs.Answers.{answered, with_partial}
use Rattle.ps_world.specs.Booking.{GivesAfter, GoesOn as GoesPiecewise, IsPassing, PassesAfter}
use Rattle.ps_world.specs.Claims.{after_claim, before_drops, claim_at}
use Rattle.ps_world.specs.Closing.{after_close, after_end}
use Rattle.ps_world.specs.Facts.{Joins, joins_of}
use Rattle.ps_world.specs.Opening.{Reaches, fresh_pipe, opening, pipes_from, pipes_to}
use Rattle.ps_world.specs.Pipes.{change_pipes, dropped_pipe, is_input, put_progress, taken, with_answer, with_morsel, with_place}
use Rattle.ps_world.specs.Pulls.{after_pull, is_open_port}
use Rattle.ps_world.specs.Step.{Replays, Steps}
use Rattle.ps_world.specs.World.{Node, Pipe, Record, World, bounded_out, claimed, closed, ended, handed_in, is_bounded, opened, pulled, shape_of}
use Rattle.world_claims.proofs.Claiming.{change, pipes_are}
use Rattle.world_claims.proofs.ReachedFacts.{known_reached}
use Rattle.world_claims.proofs.Steps.{map_map}
use Rattle.world_claims.specs.Numbering.{Known}
use Rattle.world_facts.proofs.ClaimedOnce.{replay_shape}
use Rattle.world_facts.proofs.CutOff.{both_true}
use Rattle.world_facts.proofs.Slots.{set_here, set_other}
use Rattle.world_facts.proofs.Wiring.{wires_forward}
use Rattle.world_laws.proofs.Agree.{from_map}
use Rattle.world_laws.proofs.InOrder.{contains_cases, contains_map, none_in_nil}
use Rattle.world_laws.proofs.PassingPorts.{same_number}
use Rattle.world_laws.proofs.Induction.{opening_shape}
use Rattle.family_pipes.proofs.Sent.{node_of}
use Rattle.passing_runs.proofs.Kept.{AllPassing}
use Rattle.passing_runs.proofs.Moves.{other_claim, own_claim}
use Rattle.passing_runs.proofs.Reached.{reached_passing}
use Rattle.passing_runs.proofs.Slots.{Fills, fills_more, fills_same, fills_set, passes_on}
use Rattle.passing_runs.proofs.Still.{IsStill, close_still, drops_still, end_still, opens_still, still_then, updates_still}
use Rattle.orderly_worlds.proofs.Goes.{awaits, change_goes, hits}
use Rattle.orderly_worlds.proofs.Reaching.{fresh_reached, reached_more}

-- whatever became of the output
abbrev pub AllAnswered : Functions → ℕ → PhysicalNode → Fields → World → Type 0
AllAnswered F n p s w = (from to : Pipe) → Contains w.pipes from → from.wire.receiver ≡ n → Contains w.pipes to → to.wire.sender ≡ n → PassesAfter (GivesAfter F p s) 0 from.got to.got

-- a pipe beside the one before: what came stays, and a dropped one gets nothing
pub record Frozen (x y : Pipe) : Type 0 where
  pub joins : joins_of y ≡ joins_of x
  pub fills : Fills x.got y.got
  pub frozen : y.is_dropped ≡ true → y.got ≡ x.got

abbrev pub AllFrozen : World → World → Type 0
AllFrozen w v = (y : Pipe) → Contains v.pipes y → (x : Pipe) × Contains w.pipes x × Frozen x y

module _ (F : Functions) (n : ℕ) (p : PhysicalNode) (s : Fields) where
  pub still_answered : (w v : World) → IsStill w v → AllAnswered F n p s w → AllAnswered F n p s v
  still_answered w v h all from to cf rf ct st =
      let a = from_map h.pipe from w.pipes (subst (λ ps. Contains ps from) h.pipes cf) in
      let b = from_map h.pipe to w.pipes (subst (λ ps. Contains ps to) h.pipes ct) in
      let f = h.like a.0 in
      let t = h.like b.0 in
      let rf' : a.0.wire.receiver ≡ n = sym (ap (λ (j : Joins). j.receiver) f.joins) ∙ ap (λ (z : Pipe). z.wire.receiver) a.2 ∙ rf in
      let st' : b.0.wire.sender ≡ n = sym (ap (λ (j : Joins). j.sender) t.joins) ∙ ap (λ (z : Pipe). z.wire.sender) b.2 ∙ st in
      let froms : from.got ≡ a.0.got = ap (λ (z : Pipe). z.got) (sym a.2) ∙ f.got in
      let tos : to.got ≡ b.0.got = ap (λ (z : Pipe). z.got) (sym b.2) ∙ t.got in
      subst (λ is. PassesAfter (GivesAfter F p s) 0 is to.got) (sym froms) (subst (λ os. PassesAfter (GivesAfter F p s) 0 a.0.got os) (sym tos) (all a.0 b.0 a.1 rf' b.1 st'))

  frozen_answered : (w v : World) (node : Node) → AllFrozen w v → slice_get v.nodes n ≡ Some node → AllPassing F n p s v → AllAnswered F n p s w → AllAnswered F n p s v
  frozen_answered w v node g at passing all from to cf rf ct st = by to.is_dropped refl
    where
      by : (b : Bool) → to.is_dropped ≡ b → PassesAfter (GivesAfter F p s) 0 from.got to.got
      by false d = (passing node from to at cf rf ct st).answers d
      by true d =
          let a = g from cf in
          let b = g to ct in
          let old = all a.0 b.0 a.1 (ap (λ (j : Joins). j.receiver) (sym a.2.joins) ∙ rf) b.1 (ap (λ (j : Joins). j.sender) (sym b.2.joins) ∙ st) in
          subst (λ os. PassesAfter (GivesAfter F p s) 0 from.got os) (sym (b.2.frozen d)) (passes_on (GivesAfter F p s) 0 a.0.got from.got b.0.got a.2.fills old)

-- EACH STEP
wire_joins : (x y : Pipe) → y.wire ≡ x.wire → joins_of y ≡ joins_of x
wire_joins x y e = ap (λ (u : Wire). let j : Joins = record { sender = u.sender; port = u.port; receiver = u.receiver; input = u.input } in j) e

module _ (F : Functions) (w : World) (known : Known F w) where
  earlier : (x : Pipe) → Contains w.pipes x → (m i : ℕ) → x.wire.sender ≡ m → is_input m i x ≡ true → ⊥
  earlier x c m i from e =
      let before = wires_forward F w known.facts x.wire (contains_map (λ (y : Pipe). y.wire) x w.pipes c) in
      let to = same_number x.wire.receiver m (both_true (nat_eq x.wire.receiver m) (nat_eq x.wire.input i) e).0 in
      omega (arith, before, from, to)

  abbrev took_by : ℕ → ℕ → Bool → Pipe → Pipe
  took_by m i t x = cond t (cond (is_input m i x) (taken x) x) x

  -- before its drops, a claim gives places to pipes alone that it doesn't drop
  change_frozen : (m i : ℕ) (t d : Bool) (x : Pipe) → Contains w.pipes x → (change w m i t d x).is_dropped ≡ true → (change w m i t d x).got ≡ x.got
  change_frozen m i t d x c = by t (is_input m i x) refl (bounded_out w m (took_by m i t x)) refl
    where
      took_is : (t a : Bool) → ((cond t (cond a (taken x) x) x).got ≡ x.got) × ((cond t (cond a (taken x) x) x).is_dropped ≡ x.is_dropped) × ((cond t (cond a (taken x) x) x).wire ≡ x.wire)
      took_is true true = (refl, refl, refl)
      took_is true false = (refl, refl, refl)
      took_is false a = (refl, refl, refl)

      drop_got : (d a : Bool) (z : Pipe) → (cond d (cond a (dropped_pipe z) z) z).got ≡ z.got
      drop_got true true z = refl
      drop_got true false z = refl
      drop_got false a z = refl

      drop_kept : (d a : Bool) (z : Pipe) → a ≡ false → (cond d (cond a (dropped_pipe z) z) z).is_dropped ≡ z.is_dropped
      drop_kept true true z e = absurd (let no : true ≡ false = e in cc)
      drop_kept true false z e = refl
      drop_kept false a z e = refl

      not_dropped : (y : Pipe) → bounded_out w m y ≡ true → (y.is_dropped ≡ false) × (y.wire.sender ≡ m)
      not_dropped y e =
          let a = both_true (nat_eq y.wire.sender m) (y.in_phase && (is_bounded w y && not y.is_dropped)) e in
          let b = both_true y.in_phase (is_bounded w y && not y.is_dropped) a.1 in
          let k = both_true (is_bounded w y) (not y.is_dropped) b.1 in
          (not_is y.is_dropped k.1, same_number y.wire.sender m a.0)
        where
          not_is : (b : Bool) → not b ≡ true → b ≡ false
          not_is true e = absurd (let no : false ≡ true = e in cc)
          not_is false e = refl

      by : (t' a : Bool) → is_input m i x ≡ a → (b : Bool) → bounded_out w m (took_by m i t x) ≡ b → (change w m i t d x).is_dropped ≡ true → (change w m i t d x).got ≡ x.got
      by t' a e false out gone =
          let z = cond (bounded_out w m (took_by m i t x)) (with_place (took_by m i t x)) (took_by m i t x) in
          drop_got d (is_input m i z) z ∙ ap (λ b. (cond b (with_place (took_by m i t x)) (took_by m i t x)).got) out ∙ (took_is t (is_input m i x)).0
      by t' a e true out gone =
          let facts = not_dropped (took_by m i t x) out in
          let k = took_is t (is_input m i x) in
          let sender : x.wire.sender ≡ m = ap (λ (u : Wire). u.sender) (sym k.2) ∙ facts.1 in
          let no_input : is_input m i x ≡ false = apart (is_input m i x) (λ h. earlier x c m i sender h) in
          let placed : (cond (bounded_out w m (took_by m i t x)) (with_place (took_by m i t x)) (took_by m i t x)).is_dropped ≡ false = ap (λ b. (cond b (with_place (took_by m i t x)) (took_by m i t x)).is_dropped) out ∙ facts.0 in
          let same_input : is_input m i (cond (bounded_out w m (took_by m i t x)) (with_place (took_by m i t x)) (took_by m i t x)) ≡ false = ap (λ b. is_input m i (cond b (with_place (took_by m i t x)) (took_by m i t x))) out ∙ ap (λ (u : Wire). nat_eq u.receiver m && nat_eq u.input i) k.2 ∙ no_input in
          let z = cond (bounded_out w m (took_by m i t x)) (with_place (took_by m i t x)) (took_by m i t x) in
          absurd (let no : true ≡ false = sym gone ∙ drop_kept d (is_input m i z) z same_input ∙ placed in cc)
        where
          apart : (b : Bool) → (b ≡ true → ⊥) → b ≡ false
          apart true h = absurd (h refl)
          apart false h = refl

  -- an answer
  put_frozen : (rs : List Row) (k : ℕ) (x : Pipe) (h d : Bool) → x.is_dropped ≡ d → (h ≡ true → d ≡ false → slice_get x.got k ≡ Some None) → Frozen x (cond h (cond d x (record x { got = slice_set x.got k (Some rs) })) x)
  put_frozen rs k x false d e empty = record { joins = refl; fills = fills_same x.got; frozen = λ g. refl }
  put_frozen rs k x true true e empty = record { joins = refl; fills = fills_same x.got; frozen = λ g. refl }
  put_frozen rs k x true false e empty = record { joins = refl; fills = fills_set x.got k rs (empty refl refl); frozen = λ g. absurd (let no : true ≡ false = sym g ∙ e in cc) }

  same_frozen : (v : World) → v.pipes ≡ w.pipes → AllFrozen w v
  same_frozen v e y c = (y, subst (λ ps. Contains ps y) e c, record { joins = refl; fills = fills_same y.got; frozen = λ g. refl })

  answer_frozen : (q : Piece) (cq : Contains w.outs q) (a : Answer) → IsResult F q a → AllFrozen w (answered w q a)
  answer_frozen q cq (good rs) result = λ y c.
      let x = from_map (λ p. cond (hits F w known q cq p) (with_answer q.gives rs p) p) y w.pipes c in
      (x.0, x.1, subst (Frozen x.0) x.2 (put_frozen rs q.gives x.0 (hits F w known q cq x.0) x.0.is_dropped refl (λ h d. awaits F w known q cq rs result x.0 x.1 h d)))
  answer_frozen q cq (partial k) result = same_frozen (answered w q (partial k)) (kept_pipes (slice_get w.nodes q.node))
    where
      put_pipes : (o : Option Node) (k : ℕ) (progress : Progress) (u : World) → (put_progress o k progress u).pipes ≡ u.pipes
      put_pipes None k progress u = refl
      put_pipes (Some node) k progress u = refl

      kept_pipes : (o : Option Node) → (with_partial q o w).pipes ≡ w.pipes
      kept_pipes None = refl
      kept_pipes (Some node) = put_pipes (slice_get w.nodes q.node) q.node _ w
  answer_frozen q cq (bad k) result = same_frozen (answered w q (bad k)) refl

  -- a pull
  module _ (m i : ℕ) (node : Node) (p : Pipe) (rs : List Row) where
    abbrev took : Pipe → Pipe
    took x = cond (is_input m i x) (taken x) x

    abbrev place : Bool → Pipe → Pipe
    place b x = cond b (cond (is_open_port m (took x)) (with_morsel rs (took x)) (took x)) (took x)

    take_frozen : (a : Bool) (x : Pipe) → Frozen x (cond a (taken x) x)
    take_frozen true x = record { joins = refl; fills = fills_same x.got; frozen = λ g. refl }
    take_frozen false x = record { joins = refl; fills = fills_same x.got; frozen = λ g. refl }

    took_got : (a : Bool) (x : Pipe) → (cond a (taken x) x).got ≡ x.got
    took_got true x = refl
    took_got false x = refl

    more_frozen : (x y : Pipe) (b d : Bool) → y.is_dropped ≡ d → Frozen x y → y.got ≡ x.got → Frozen x (cond b (cond d y (record y { got = y.got ++ Some rs ∷ [] })) y)
    more_frozen x y false d e f same = f
    more_frozen x y true true e f same = f
    more_frozen x y true false e f same = record { joins = f.joins; fills = subst (λ xs. Fills x.got (xs ++ Some rs ∷ [])) (sym same) (fills_more x.got (Some rs ∷ [])); frozen = λ g. absurd (let no : true ≡ false = sym g ∙ e in cc) }

    place_frozen : (b : Bool) (x : Pipe) → Frozen x (place b x)
    place_frozen false x = take_frozen (is_input m i x) x
    place_frozen true x = more_frozen x (took x) (is_open_port m (took x)) (took x).is_dropped refl (take_frozen (is_input m i x) x) (took_got (is_input m i x) x)

    pipes_by : (b : Bool) → cond b (change_pipes (is_open_port m) (with_morsel rs) (change_pipes (is_input m i) taken w.pipes)) (change_pipes (is_input m i) taken w.pipes) ≡ map (place b) w.pipes
    pipes_by true = map_map took (λ y. cond (is_open_port m y) (with_morsel rs y) y) w.pipes
    pipes_by false = refl

    pull_frozen : AllFrozen w (after_pull w m i node p rs)
    pull_frozen y c =
        let b = is_multiplexer node.node.kind in
        let x = from_map (place b) y w.pipes (subst (λ ps. Contains ps y) (pipes_by b) c) in
        (x.0, x.1, subst (Frozen x.0) x.2 (place_frozen b x.0))

  -- a claim, before its drops
  claim_frozen : (m i worker : ℕ) (node : Node) (c : Claim) (at : slice_get w.nodes m ≡ Some node) (on : (w.is_open && (node.in_phase && not node.is_closed)) ≡ true) (is : claim_at w m i node ≡ Some c) → AllFrozen w (before_drops w m i worker node c)
  claim_frozen m i worker node c at on is y cy =
      let x = from_map (change w m i c.takes_morsel c.drops_input) y w.pipes (subst (λ ps. Contains ps y) (pipes_are w m i c.takes_morsel c.drops_input) cy) in
      let g = change_goes F w known m i worker node c at on is x.0 x.1 in
      (x.0, x.1, subst (Frozen x.0) x.2 (record { joins = wire_joins x.0 (change w m i c.takes_morsel c.drops_input x.0) g.wire; fills = g.got; frozen = change_frozen m i c.takes_morsel c.drops_input x.0 x.1 }))

-- the pipes of a shape have got nothing
bare_to : (n i : ℕ) (qs : List (ℕ × ℕ)) (x : Pipe) → Contains (pipes_to n i qs) x → x.got ≡ []
bare_to n i [] x c = absurd (none_in_nil x c)
bare_to n i (q ∷ qs) x c = by (contains_cases (fresh_pipe q.0 q.1 n i) x (pipes_to n (i + 1) qs) c) (bare_to n (i + 1) qs x)
  where
    by : (fresh_pipe q.0 q.1 n i ≡ x) ⊎ Contains (pipes_to n (i + 1) qs) x → (Contains (pipes_to n (i + 1) qs) x → x.got ≡ []) → x.got ≡ []
    by (inl e) rest = ap (λ (z : Pipe). z.got) (sym e)
    by (inr later) rest = rest later

bare_from : (shape : Shape) (k : ℕ) (x : Pipe) → Contains (pipes_from shape k) x → x.got ≡ []
bare_from [] k x c = absurd (none_in_nil x c)
bare_from (p ∷ ps) k x c = by (Contains-append_cases (pipes_to k 0 p.inputs) (pipes_from ps (k + 1)) x c) (bare_from ps (k + 1) x)
  where
    by : Contains (pipes_to k 0 p.inputs) x ⊎ Contains (pipes_from ps (k + 1)) x → (Contains (pipes_from ps (k + 1)) x → x.got ≡ []) → x.got ≡ []
    by (inl here) rest = bare_to k 0 p.inputs x here
    by (inr later) rest = rest later

-- a passing node of a shape
module _ (F : Functions) (shape : Shape) (n : ℕ) (p : PhysicalNode) (s : Fields) (there : slice_get shape n ≡ Some p) (passing : IsPassing p.kind) (reads : input_schemas shape p ≡ s ∷ []) (law : GoesPiecewise F p s) (o : Options) (sound : IsSound F shape) where
  abbrev U : World → Type 0
  U w = AllAnswered F n p s w

  passes_at : (w : World) → Reaches F shape o w → AllPassing F n p s w
  passes_at w r = reached_passing F shape n p s there passing reads law o w sound r

  same_shape : (w : World) → Reaches F shape o w → shape_of w ≡ shape
  same_shape w r = replay_shape F (opening shape o) w r.0 r.1 ∙ opening_shape shape

  shown : (w : World) → Reaches F shape o w → slice_get (shape_of w) n ≡ Some p
  shown w r = ap (λ x. slice_get x n) (same_shape w r) ∙ there

  frozen_step : (w v : World) → Reaches F shape o v → AllFrozen w v → U w → U v
  frozen_step w v rv g all = let x = node_of v n p (shown v rv) in frozen_answered F n p s w v x.0 g x.1 (passes_at v rv) all

  claim_step : (w : World) (m i worker : ℕ) (node : Node) (c : Claim) → Reaches F shape o w → slice_get w.nodes m ≡ Some node → (w.is_open && (node.in_phase && not node.is_closed)) ≡ true → claim_at w m i node ≡ Some c → U w → U (before_drops w m i worker node c)
  claim_step w m i worker node c rw at on is all = by (cases_eq m n)
    where
      known : Known F w
      known = known_reached F shape o w sound rw

      by : (m ≡ n) ⊎ (m ≢ n) → U (before_drops w m i worker node c)
      by (inr other) =
          let x = node_of w n p (shown w rw) in
          frozen_answered F n p s w (before_drops w m i worker node c) x.0 (claim_frozen F w known m i worker node c at on is) (set_other w.nodes m n (record node { progress = c.progress }) (λ e. other (sym e)) ∙ x.1) (other_claim F n p s passing law w known (shown w rw) (passes_at w rw) m i worker node c other) all
      by (inl here) =
          let at_n : slice_get w.nodes n ≡ Some node = ap (slice_get w.nodes) (sym here) ∙ at in
          let new : slice_get (before_drops w m i worker node c).nodes n ≡ Some (record node { progress = c.progress }) = ap (slice_get (before_drops w m i worker node c).nodes) (sym here) ∙ set_here w.nodes m node (record node { progress = c.progress }) at in
          let passes = own_claim F n p s passing law w known (shown w rw) (passes_at w rw) (subst (λ x. input_schemas x p ≡ s ∷ []) (sym (same_shape w rw)) reads) i worker node at_n c (subst (λ j. claim_at w j i node ≡ Some c) here is) in
          frozen_answered F n p s w (before_drops w m i worker node c) (record node { progress = c.progress }) (claim_frozen F w known m i worker node c at on is) new (subst (λ j. AllPassing F n p s (before_drops w j i worker node c)) (sym here) passes) all

  answered_step : (w v : World) (r : Record) → Reaches F shape o w → Reaches F shape o v → Steps F w r v → U w → U v
  answered_step w v (opened phase) rw rv st all = still_answered F n p s w v (still_then w st.3.0 v (updates_still F w st.3.0 st.3.1) (opens_still F st.3.0 v phase st.3.2)) all
  answered_step w v (claimed m i number worker) rw rv st all =
      let start = before_drops w m i worker st.0 st.5.0 in
      subst U (sym st.5.3) (still_answered F n p s start (after_claim w m i worker st.0 st.5.0) (drops_still (length start.nodes) start) (claim_step w m i worker st.0 st.5.0 rw st.1.0 st.1.1 st.5.1 all))
  answered_step w v (handed_in m i number worker handed) rw rv st all = frozen_step w v rv (subst (AllFrozen w) (sym st.7.3) (answer_frozen F w (known_reached F shape o w sound rw) st.0 st.1 st.7.0 st.7.1)) all
  answered_step w v (pulled m i number) rw rv st all = frozen_step w v rv (subst (AllFrozen w) (sym st.4.8) (pull_frozen F w (known_reached F shape o w sound rw) m i st.0 st.4.0 st.4.1)) all
  answered_step w v (closed m) rw rv st all = subst U (sym st.4) (still_answered F n p s w (after_close w m st.0) (close_still w m st.0 st.1.0) all)
  answered_step w v (ended phase) rw rv st all = subst U (sym st.4) (still_answered F n p s w (after_end w) (end_still w) all)

  answered_run : (w v : World) (rs : List Record) → Reaches F shape o w → U w → Replays F w rs v → U v
  answered_run w v [] rw all e = subst U (sym e) all
  answered_run w v (r ∷ rs) rw all st =
      let next = reached_more F shape o w st.0 r rw st.1 in
      answered_run st.0 v rs next (answered_step w st.0 r rw next st.1 all) st.2

  fresh_answered : U (opening shape o)
  fresh_answered from to cf rf ct st = subst (PassesAfter (GivesAfter F p s) 0 from.got) (sym (bare_from shape 0 to ct)) tt

  pub all_answered : (w : World) → Reaches F shape o w → U w
  all_answered w r = answered_run (opening shape o) w r.0 (fresh_reached F shape o) fresh_answered r.1
