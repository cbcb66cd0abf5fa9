-- What a step of a phase makes of each pipe: the wire and the marks stay, what is dropped stays so, and no bounded pipe comes to hold more than it has room for.
use Rattle.std.proofs.Common.{◌≡◌, ℕ, zero, suc, ◌+◌, ◌-◌, ◌<◌, ◌≤◌, Bool, true, false, cond, List, length, Option, Some, None, refl, sym, ap, subst, ◌∙◌, map-id, arith}
use Rattle.std.specs.Prelude.{Contains, IsTrue, map, nat_eq, nat_lt, not, slice_get, slice_set, ◌&&◌, ◌||◌}
use Rattle.std.specs.List.{AllByRecursion, filter as kept}
use Rattle.std.proofs.lemmas.Bool.{or_left}
use Rattle.std.proofs.lemmas.Bool.Decides.{nat_tests}
use Rattle.ps_frame.specs.Functions.{Functions}
use Rattle.ps_frame.specs.Tables.{Row}
use Rattle.ps_meaning.specs.Shape.{Shape}
use Rattle.ps_ports.specs.Wires.{Wire}
use Rattle.ps_turns.specs.Claims.{Claim}
use Rattle.ps_turns.specs.Progress.{Progress, is_multiplexer}
use Rattle.ps_turns.specs.Tasks.{Answer, Piece, bad, good, partial}
use Rattle.ps_world.specs.Answers.{answered, with_partial}
use Rattle.ps_world.specs.Claims.{after_claim, before_drops}
use Rattle.ps_world.specs.Pipes.{change_pipes, drop_at, drop_if, drops_from, dropped_pipe, is_input, put_progress, taken, with_answer, with_morsel}
use Rattle.ps_world.specs.Promises.{within_phase}
use Rattle.ps_world.specs.Pulls.{after_pull, is_open_port}
use Rattle.ps_world.specs.Step.{Steps}
use Rattle.ps_world.specs.World.{Node, Pipe, Record, World, bounded_out, claimed, closed, counts_for_sender, ended, handed_in, has_place, is_bounded, is_cut_off, live_outs, multiplexes, opened, pipes_out, places_taken, pulled, room, shape_of}
use Rattle.world_facts.proofs.CutOff.{both_true, same_number}
use Rattle.world_facts.proofs.Follows.{multiplexes_by, shows}
use Rattle.world_facts.proofs.Halting.{order_keeps}
use Rattle.world_facts.proofs.HandedIn.{length_set}
use Rattle.world_facts.proofs.Taken.{not_true}
use Rattle.world_facts.proofs.Wiring.{each_of}
use Rattle.world_laws.proofs.InOrder.{contains_kept, contains_map}
use Rattle.world_claims.proofs.Claiming.{change, change_is, pipes_are}
use Rattle.world_claims.proofs.Steps.{map_map}

-- what waits in the pipe or is to come is within its room, unless it leaves a multiplexer
abbrev pub HasRoom : Shape → (most : ℕ) → Pipe → Type 0
HasRoom s k p = shows (slice_get s p.wire.sender) ≡ false → length p.got ≤ p.next + k

module _ (s : Shape) (k : ℕ) where
  -- a pipe after some steps of the phase, beside the same pipe before them
  pub record Onward (x y : Pipe) : Type 0 where
    pub wire : y.wire ≡ x.wire
    pub in_phase : y.in_phase ≡ x.in_phase
    pub dropped : x.is_dropped ≡ true → y.is_dropped ≡ true
    pub has_room : HasRoom s k x → HasRoom s k y

  -- each pipe after them is one of before
  pub record GoOn (ps qs : List Pipe) : Type 0 where
    pub pipe : Pipe → Pipe
    pub pipes : qs ≡ map pipe ps
    pub like : (x : Pipe) → Contains ps x → Onward x (pipe x)

  itself : (x : Pipe) → Onward x x
  itself x = record { wire = refl; in_phase = refl; dropped = λ d. d; has_room = λ h. h }

  same : (ps qs : List Pipe) → qs ≡ ps → GoOn ps qs
  same ps qs e = record { pipe = λ p. p; pipes = e ∙ sym (map-id ps); like = λ x c. itself x }

  composed : (ps qs rs : List Pipe) → GoOn ps qs → GoOn qs rs → GoOn ps rs
  composed ps qs rs a b = record { pipe = λ x. b.pipe (a.pipe x); pipes = b.pipes ∙ ap (map b.pipe) a.pipes ∙ map_map a.pipe b.pipe ps; like = both }
    where
      both : (x : Pipe) → Contains ps x → Onward x (b.pipe (a.pipe x))
      both x c =
          let first = a.like x c in
          let second = b.like (a.pipe x) (subst (λ xs. Contains xs (a.pipe x)) (sym a.pipes) (contains_map a.pipe x ps c)) in
          record { wire = second.wire ∙ first.wire; in_phase = second.in_phase ∙ first.in_phase; dropped = λ d. second.dropped (first.dropped d); has_room = λ h. second.has_room (first.has_room h) }

  changed : (t : Pipe → Bool) (f : Pipe → Pipe) (ps : List Pipe) → ((x : Pipe) → t x ≡ true → Onward x (f x)) → GoOn ps (change_pipes t f ps)
  changed t f ps h = record { pipe = λ p. cond (t p) (f p) p; pipes = refl; like = λ x c. by x (t x) refl }
    where
      by : (x : Pipe) (b : Bool) → t x ≡ b → Onward x (cond b (f x) x)
      by x true e = h x e
      by x false e = itself x

  unless : (b : Bool) (x y : Pipe) → Onward x y → Onward x (cond b x y)
  unless true x y h = itself x
  unless false x y h = h

  take_on : (x : Pipe) → Onward x (taken x)
  take_on x = record { wire = refl; in_phase = refl; dropped = λ d. d; has_room = λ h single. one_more (h single) }
    where
      one_more : length x.got ≤ x.next + k → length x.got ≤ (x.next + 1) + k
      one_more l = omega (arith, l)

  drop_on : (x : Pipe) → Onward x (dropped_pipe x)
  drop_on x = record { wire = refl; in_phase = refl; dropped = λ d. refl; has_room = λ h. h }

  close_on : (x : Pipe) → Onward x (record x { is_closed = true })
  close_on x = record { wire = refl; in_phase = refl; dropped = λ d. d; has_room = λ h. h }

  answer_on : (j : ℕ) (rs : List Row) (x : Pipe) → Onward x (with_answer j rs x)
  answer_on j rs x =
      unless x.is_dropped x (record x { got = slice_set x.got j (Some rs) })
      (record { wire = refl; in_phase = refl; dropped = λ d. d; has_room = λ h single. subst (λ l. l ≤ x.next + k) (sym (length_set x.got j (Some rs))) (h single) })

  -- what leaves a multiplexer has no bound
  morsel_on : (rs : List Row) (x : Pipe) → shows (slice_get s x.wire.sender) ≡ true → Onward x (with_morsel rs x)
  morsel_on rs x many = unless x.is_dropped x _ (record { wire = refl; in_phase = refl; dropped = λ d. d; has_room = λ h single. absurd (let no : true ≡ false = sym many ∙ single in cc) })

  -- EACH STEP OF A PHASE, BUT ITS CLAIM'S PLACE
  drop_one : (b : Bool) (n : ℕ) (w : World) → GoOn w.pipes (drop_if b n w).pipes
  drop_one true n w = changed (λ p. nat_eq p.wire.receiver n && p.in_phase) dropped_pipe w.pipes (λ x e. drop_on x)
  drop_one false n w = same w.pipes w.pipes refl

  drops : (n : ℕ) (w : World) → GoOn w.pipes (drops_from w n).pipes
  drops zero w = same w.pipes w.pipes refl
  drops (suc n) w = composed w.pipes (drop_at w n).pipes (drops_from w (suc n)).pipes (drop_one (is_cut_off w n) n w) (drops n (drop_at w n))

  answer_pipes : (w : World) (q : Piece) (a : Answer) → GoOn w.pipes (answered w q a).pipes
  answer_pipes w q (good rs) = changed (λ p. nat_eq p.wire.sender q.node && counts_for_sender w p) (with_answer q.gives rs) w.pipes (λ x e. answer_on q.gives rs x)
  answer_pipes w q (partial n) = same w.pipes (answered w q (partial n)).pipes (of_partial (slice_get w.nodes q.node))
    where
      put : (o : Option Node) (progress : Progress) → (put_progress o q.node progress w).pipes ≡ w.pipes
      put None progress = refl
      put (Some node) progress = refl

      of_partial : (o : Option Node) → (with_partial q o w).pipes ≡ w.pipes
      of_partial None = refl
      of_partial (Some node) = put (slice_get w.nodes q.node) _
  answer_pipes w q (bad c) = same w.pipes w.pipes refl

  close_pipes : (w : World) (n : ℕ) → GoOn w.pipes (change_pipes (λ p. nat_eq p.wire.sender n && p.in_phase) (λ p. record p { is_closed = true }) w.pipes)
  close_pipes w n = changed (λ p. nat_eq p.wire.sender n && p.in_phase) (λ p. record p { is_closed = true }) w.pipes (λ x e. close_on x)

-- A PULL
pull_pipes : (w : World) (n i : ℕ) (node : Node) (p : Pipe) (m : List Row) → slice_get w.nodes n ≡ Some node → GoOn (shape_of w) (room w) w.pipes (after_pull w n i node p m).pipes
pull_pipes w n i node p m at =
    composed (shape_of w) (room w) w.pipes (change_pipes (is_input n i) taken w.pipes) (after_pull w n i node p m).pipes (changed (shape_of w) (room w) (is_input n i) taken w.pipes (λ x e. take_on (shape_of w) (room w) x)) (by (is_multiplexer node.node.kind) refl)
  where
    -- a pipe out of the node leaves a multiplexer, where the node is one
    many : is_multiplexer node.node.kind ≡ true → (x : Pipe) → is_open_port n x ≡ true → shows (slice_get (shape_of w) x.wire.sender) ≡ true
    many e x t =
        let from = same_number x.wire.sender n (both_true (nat_eq x.wire.sender n) _ t).0 in
        ap (λ j. shows (slice_get (shape_of w) j)) from ∙ sym (multiplexes_by w n) ∙ ap multiplexes at ∙ e

    by : (b : Bool) → is_multiplexer node.node.kind ≡ b → GoOn (shape_of w) (room w) (change_pipes (is_input n i) taken w.pipes) (cond b (change_pipes (is_open_port n) (with_morsel m) (change_pipes (is_input n i) taken w.pipes)) (change_pipes (is_input n i) taken w.pipes))
    by true e = changed (shape_of w) (room w) (is_open_port n) (with_morsel m) (change_pipes (is_input n i) taken w.pipes) (λ x t. morsel_on (shape_of w) (room w) m x (many e x t))
    by false e = same (shape_of w) (room w) (change_pipes (is_input n i) taken w.pipes) (change_pipes (is_input n i) taken w.pipes) refl

-- A CLAIM
less_than : (m n : ℕ) → nat_lt m n ≡ true → m < n
less_than m n e = grind (arith, nat_tests)

-- the place to spare
spared : (d b l : Bool) → d ≡ false → b ≡ true → (d || (not b || l)) ≡ true → l ≡ true
spared true b l x y e = absurd (let no : true ≡ false = x in cc)
spared false true l x y e = e
spared false false l x y e = absurd (let no : false ≡ true = y in cc)

with_one : (got next more k new_got new_next step : ℕ) → (got - next) + more < k → new_got ≡ got + 1 → new_next ≡ next + step → new_got ≤ new_next + k
with_one got next more k new_got new_next step l a b = omega (arith, l, a, b)

with_none : (got next k new_got new_next step : ℕ) → got ≤ next + k → new_got ≡ got + 0 → new_next ≡ next + step → new_got ≤ new_next + k
with_none got next k new_got new_next step l a b = omega (arith, l, a, b)

module _ (w : World) (n i : ℕ) (c : Claim) (places : AllByRecursion (λ p. IsTrue (has_place w p)) (live_outs w n)) where
  abbrev after : Pipe → Pipe
  after = change w n i c.takes_morsel c.drops_input

  place : (x : Pipe) → Contains w.pipes x → bounded_out w n x ≡ true → places_taken w x < room w
  place x there e =
      let out = both_true (nat_eq x.wire.sender n) (x.in_phase && (is_bounded w x && not x.is_dropped)) e in
      let on = both_true x.in_phase (is_bounded w x && not x.is_dropped) out.1 in
      let open_one = both_true (is_bounded w x) (not x.is_dropped) on.1 in
      let counts : counts_for_sender w x ≡ true = or_left x.in_phase _ on.0 in
      let among = contains_kept (λ (p : Pipe). nat_eq p.wire.sender n) x w.pipes there out.0 in
      let ordered = order_keeps (λ (p q : Pipe). nat_lt p.wire.port q.wire.port) x (kept (λ (p : Pipe). nat_eq p.wire.sender n) w.pipes) among in
      let live = contains_kept (counts_for_sender w) x (pipes_out w n) ordered counts in
      let has = each_of (λ p. IsTrue (has_place w p)) (live_outs w n) x places live in
      less_than (places_taken w x) (room w) (spared x.is_dropped (is_bounded w x) (nat_lt (places_taken w x) (room w)) (not_true x.is_dropped open_one.1) open_one.0 has)

  claim_on : (x : Pipe) → Contains w.pipes x → Onward (shape_of w) (room w) x (after x)
  claim_on x there =
      let is = change_is w n i c.takes_morsel c.drops_input x in
      record { wire = is.0.wire; in_phase = is.0.in_phase; dropped = λ e. stays e (after x).is_dropped refl; has_room = λ h single. by (h (ap (λ (u : Wire). shows (slice_get (shape_of w) u.sender)) (sym is.0.wire) ∙ single)) (bounded_out w n x) refl }
    where
      stays : x.is_dropped ≡ true → (b : Bool) → (after x).is_dropped ≡ b → b ≡ true
      stays e true q = refl
      stays e false q = let lost = (change_is w n i c.takes_morsel c.drops_input x).0.lost q in absurd (let no : true ≡ false = sym e ∙ lost in cc)

      by : length x.got ≤ x.next + room w → (b : Bool) → bounded_out w n x ≡ b → length (after x).got ≤ (after x).next + room w
      by l true e =
          let is = change_is w n i c.takes_morsel c.drops_input x in
          with_one (length x.got) x.next _ (room w) (length (after x).got) (after x).next _ (place x there e) (is.1 ∙ ap (λ b. length x.got + cond {A = ℕ} b 1 0) e) is.2
      by l false e =
          let is = change_is w n i c.takes_morsel c.drops_input x in
          with_none (length x.got) x.next (room w) (length (after x).got) (after x).next _ l (is.1 ∙ ap (λ b. length x.got + cond {A = ℕ} b 1 0) e) is.2

  claim_pipes : (worker : ℕ) (node : Node) → GoOn (shape_of w) (room w) w.pipes (before_drops w n i worker node c).pipes
  claim_pipes worker node = record { pipe = after; pipes = pipes_are w n i c.takes_morsel c.drops_input; like = claim_on }

-- EACH STEP OF A PHASE
pub step_pipes : (F : Functions) (w v : World) (r : Record) → within_phase r ≡ true → Steps F w r v → GoOn (shape_of w) (room w) w.pipes v.pipes
step_pipes F w v (opened phase) t s = absurd (let no : false ≡ true = t in cc)
step_pipes F w v (claimed n i number worker) t s =
    let start = before_drops w n i worker s.0 s.5.0 in
    subst (λ (x : World). GoOn (shape_of w) (room w) w.pipes x.pipes) (sym s.5.3)
    (composed (shape_of w) (room w) w.pipes start.pipes (after_claim w n i worker s.0 s.5.0).pipes (claim_pipes w n i s.5.0 s.4 worker s.0) (drops (shape_of w) (room w) (length start.nodes) start))
step_pipes F w v (handed_in n i number worker handed) t s = subst (λ (x : World). GoOn (shape_of w) (room w) w.pipes x.pipes) (sym s.7.3) (answer_pipes (shape_of w) (room w) w s.0 s.7.0)
step_pipes F w v (pulled n i number) t s = subst (λ (x : World). GoOn (shape_of w) (room w) w.pipes x.pipes) (sym s.4.8) (pull_pipes w n i s.0 s.4.0 s.4.1 s.1.0)
step_pipes F w v (closed n) t s = subst (λ (x : World). GoOn (shape_of w) (room w) w.pipes x.pipes) (sym s.4) (close_pipes (shape_of w) (room w) w n)
step_pipes F w v (ended phase) t s = absurd (let no : false ≡ true = t in cc)
