-- In every reached world each bounded pipe keeps within its room: a claim of its sender finds a place to spare, and no other step makes it longer.
use Rattle.std.proofs.Common.{◌≡◌, ℕ, zero, suc, ◌+◌, ◌-◌, ◌≤◌, ◌⊎◌, Bool, true, false, cond, List, [], ◌∷◌, length, Option, Some, None, refl, sym, ap, subst, ◌∙◌, inl, inr, arith}
use Rattle.std.specs.Prelude.{Contains, get_or, map, nat_eq, slice_get}
use Rattle.std.proofs.lemmas.List.Elements.{Contains-append_cases}
use Rattle.ps_frame.specs.Causes.{is_empty}
use Rattle.ps_frame.specs.Functions.{Functions}
use Rattle.ps_meaning.specs.Shape.{Shape}
use Rattle.ps_options.specs.declared.options.Options.{Options}
use Rattle.ps_ports.specs.Ports.{Sides}
use Rattle.ps_turns.specs.Progress.{Progress}
use Rattle.ps_turns.specs.Tasks.{Answer, Piece, bad, good, partial}
use Rattle.ps_world.specs.Answers.{answered, with_partial}
use Rattle.ps_world.specs.Claims.{before_drops}
use Rattle.ps_world.specs.Opening.{Reaches, fresh_pipe, opening, pipes_from, pipes_to}
use Rattle.ps_world.specs.Phases.{after_open, blockers_in, intensive_at}
use Rattle.ps_world.specs.Pipes.{drop_at, drop_if, drops_from, put_progress, with_progress}
use Rattle.ps_world.specs.Step.{Opens, Replays, Steps, breaks, settles}
use Rattle.ps_world.specs.Updates.{Updates, answer_at, no_update, one_fill, one_update, received, sent, updated, written}
use Rattle.ps_world.specs.World.{Node, Pipe, Record, World, claimed, closed, ended, handed_in, is_bounded, is_cut_off, multiplexes, opened, pulled, room, shape_of, wires_of}
use Rattle.ps_ports.specs.Phases.{is_in_phase}
use Rattle.world_facts.proofs.Follows.{multiplexes_by}
use Rattle.world_facts.proofs.Taken.{not_true}
use Rattle.world_laws.proofs.Agree.{from_map}
use Rattle.world_laws.proofs.InOrder.{contains_cases, none_in_nil}
use Rattle.world_laws.proofs.Shapes.{step_keeps}
use Rattle.world_bounds.proofs.Pipes.{GoOn, HasRoom, step_pipes}

-- WHAT STEPS LEAVE OF A WORLD BESIDE ITS NODES AND PIPES
put_options : (o : Option Node) (n : ℕ) (progress : Progress) (w : World) → (put_progress o n progress w).options ≡ w.options
put_options None n progress w = refl
put_options (Some node) n progress w = refl

updates_options : (F : Functions) (w s : World) → Updates F w s → s.options ≡ w.options
updates_options F w s no_update = refl
updates_options F w s (one_update n node progress t u) = updates_options F _ s u ∙ put_options (slice_get w.nodes n) n progress w
updates_options F w s (one_fill n node progress t u) = updates_options F _ s u ∙ put_options (slice_get w.nodes n) n progress w

open_options : (s : World) (phase : ℕ) → (after_open s phase).options ≡ s.options
open_options s phase = by (is_empty (blockers_in s)) refl
  where
    by : (b : Bool) → is_empty (blockers_in s) ≡ b → (after_open s phase).options ≡ s.options
    by true e = rw e refl
    by false e = rw e refl

opens_options : (F : Functions) (s v : World) (phase : ℕ) → Opens F s phase v → v.options ≡ s.options
opens_options F s v phase (settles rest e) = ap (λ (x : World). x.options) e ∙ open_options s phase
opens_options F s v phase (breaks n c f e) = ap (λ (x : World). x.options) e

drop_options : (b : Bool) (n : ℕ) (w : World) → (drop_if b n w).options ≡ w.options
drop_options true n w = refl
drop_options false n w = refl

drops_options : (n : ℕ) (w : World) → (drops_from w n).options ≡ w.options
drops_options zero w = refl
drops_options (suc n) w = drops_options n (drop_at w n) ∙ drop_options (is_cut_off w n) n w

partial_options : (q : Piece) (o : Option Node) (w : World) → (with_partial q o w).options ≡ w.options
partial_options q None w = refl
partial_options q (Some node) w = put_options (slice_get w.nodes q.node) q.node _ w

answer_options : (w : World) (q : Piece) (a : Answer) → (answered w q a).options ≡ w.options
answer_options w q (good rs) = refl
answer_options w q (partial n) = partial_options q (slice_get w.nodes q.node) w
answer_options w q (bad c) = refl

pub step_options : (F : Functions) (w v : World) (r : Record) → Steps F w r v → v.options ≡ w.options
step_options F w v (opened phase) s = opens_options F s.3.0 v phase s.3.2 ∙ updates_options F w s.3.0 s.3.1
step_options F w v (claimed n i number worker) s = let start = before_drops w n i worker s.0 s.5.0 in ap (λ (x : World). x.options) s.5.3 ∙ drops_options (length start.nodes) start
step_options F w v (handed_in n i number worker handed) s = ap (λ (x : World). x.options) s.7.3 ∙ answer_options w s.0 s.7.0
step_options F w v (pulled n i number) s = ap (λ (x : World). x.options) s.4.8
step_options F w v (closed n) s = ap (λ (x : World). x.options) s.4
step_options F w v (ended phase) s = ap (λ (x : World). x.options) s.4

-- OPENS AND ENDS
module _ (s : Shape) (k : ℕ) where
  abbrev EachHas : List Pipe → Type 0
  EachHas ps = (p : Pipe) → Contains ps p → HasRoom s k p

  mapped : (g : Pipe → Pipe) (ps : List Pipe) → ((x : Pipe) → HasRoom s k x → HasRoom s k (g x)) → EachHas ps → EachHas (map g ps)
  mapped g ps h all p c = let x = from_map g p ps c in subst (HasRoom s k) x.2 (h x.0 (all x.0 x.1))

  if_changed : (b : Bool) (x y : Pipe) → (HasRoom s k x → HasRoom s k y) → HasRoom s k x → HasRoom s k (cond b y x)
  if_changed true x y h r = h r
  if_changed false x y h r = r

  written_room : (n : ℕ) (a : Sides) (w : World) → EachHas w.pipes → EachHas (written n a w).pipes
  written_room n a w all =
      mapped (λ (p : Pipe). cond (nat_eq p.wire.sender n) (sent (get_or a.outputs p.wire.port p.wire.send_state) p) p) _
      (λ x h. if_changed (nat_eq x.wire.sender n) x (sent (get_or a.outputs x.wire.port x.wire.send_state) x) (λ r. r) h)
      (mapped (λ (p : Pipe). cond (nat_eq p.wire.receiver n) (received (get_or a.inputs p.wire.input p.wire.receive_state) p) p) w.pipes
      (λ x h. if_changed (nat_eq x.wire.receiver n) x (received (get_or a.inputs x.wire.input x.wire.receive_state) x) (λ r. r) h) all)

  put_room : (o : Option Node) (n : ℕ) (progress : Progress) (w : World) → EachHas w.pipes → EachHas (put_progress o n progress w).pipes
  put_room None n progress w all = all
  put_room (Some node) n progress w all = all

  updates_room : (F : Functions) (w v : World) → Updates F w v → EachHas w.pipes → EachHas v.pipes
  updates_room F w v no_update all = all
  updates_room F w v (one_update n node progress t u) all =
      updates_room F (updated w n node progress) v u (written_room n (answer_at w n node progress) (with_progress n progress w) (put_room (slice_get w.nodes n) n progress w all))
  updates_room F w v (one_fill n node progress t u) all = updates_room F (with_progress n progress w) v u (put_room (slice_get w.nodes n) n progress w all)

  open_room : (w : World) (phase : ℕ) → EachHas w.pipes → EachHas (after_open w phase).pipes
  open_room w phase all = by (is_empty (blockers_in w)) refl
    where
      by : (b : Bool) → is_empty (blockers_in w) ≡ b → EachHas (after_open w phase).pipes
      by true e = rw e all
      by false e = rw e (mapped (λ (p : Pipe). record p { in_phase = is_in_phase (length w.nodes) (intensive_at w) (wires_of w) p.wire }) w.pipes (λ x h. h) all)

  opens_room : (F : Functions) (w v : World) (phase : ℕ) → Opens F w phase v → EachHas w.pipes → EachHas v.pipes
  opens_room F w v phase (settles rest e) all = subst (λ (x : World). EachHas x.pipes) (sym e) (open_room w phase all)
  opens_room F w v phase (breaks n c f e) all = subst (λ (x : World). EachHas x.pipes) (sym e) all

  ended_room : (ps : List Pipe) → EachHas ps → EachHas (map (λ (p : Pipe). record p { in_phase = false; is_closed = false }) ps)
  ended_room ps all = mapped (λ (p : Pipe). record p { in_phase = false; is_closed = false }) ps (λ x h. h) all

  onward_room : (ps qs : List Pipe) → GoOn s k ps qs → EachHas ps → EachHas qs
  onward_room ps qs h all p c = let x = from_map h.pipe p ps (subst (λ xs. Contains xs p) h.pipes c) in subst (HasRoom s k) x.2 ((h.like x.0 x.1).has_room (all x.0 x.1))

-- EVERY REACHED WORLD
abbrev pub AllHaveRoom : World → Type 0
AllHaveRoom w = (p : Pipe) → Contains w.pipes p → HasRoom (shape_of w) (room w) p

same_room : (w v : World) → shape_of v ≡ shape_of w → v.options ≡ w.options → EachHas (shape_of w) (room w) v.pipes → AllHaveRoom v
same_room w v shape options all p c =
    subst (λ (s : Shape). HasRoom s (room v) p) (sym shape) (subst (λ (o : Options). HasRoom (shape_of w) (o.workers + 4) p) (sym options) (all p c))

step_room : (F : Functions) (w v : World) (r : Record) → Steps F w r v → AllHaveRoom w → EachHas (shape_of w) (room w) v.pipes
step_room F w v (opened phase) s all = opens_room (shape_of w) (room w) F s.3.0 v phase s.3.2 (updates_room (shape_of w) (room w) F w s.3.0 s.3.1 all)
step_room F w v (claimed n i number worker) s all = onward_room (shape_of w) (room w) w.pipes v.pipes (step_pipes F w v (claimed n i number worker) refl s) all
step_room F w v (handed_in n i number worker handed) s all = onward_room (shape_of w) (room w) w.pipes v.pipes (step_pipes F w v (handed_in n i number worker handed) refl s) all
step_room F w v (pulled n i number) s all = onward_room (shape_of w) (room w) w.pipes v.pipes (step_pipes F w v (pulled n i number) refl s) all
step_room F w v (closed n) s all = onward_room (shape_of w) (room w) w.pipes v.pipes (step_pipes F w v (closed n) refl s) all
step_room F w v (ended phase) s all = subst (λ (x : World). EachHas (shape_of w) (room w) x.pipes) (sym s.4) (ended_room (shape_of w) (room w) w.pipes all)

-- a fresh pipe has got nothing
room_to : (s : Shape) (k n i : ℕ) (qs : List (ℕ × ℕ)) → EachHas s k (pipes_to n i qs)
room_to s k n i [] p c = absurd (none_in_nil p c)
room_to s k n i (q ∷ qs) p c = by (contains_cases (fresh_pipe q.0 q.1 n i) p (pipes_to n (i + 1) qs) c) (room_to s k n (i + 1) qs p)
  where
    fresh : HasRoom s k (fresh_pipe q.0 q.1 n i)
    fresh single = omega arith

    by : (fresh_pipe q.0 q.1 n i ≡ p) ⊎ Contains (pipes_to n (i + 1) qs) p → (Contains (pipes_to n (i + 1) qs) p → HasRoom s k p) → HasRoom s k p
    by (inl e) rest = subst (HasRoom s k) e fresh
    by (inr later) rest = rest later

room_from : (s : Shape) (k : ℕ) (shape : Shape) (n : ℕ) → EachHas s k (pipes_from shape n)
room_from s k [] n p c = absurd (none_in_nil p c)
room_from s k (x ∷ xs) n p c = by (Contains-append_cases (pipes_to n 0 x.inputs) (pipes_from xs (n + 1)) p c) (room_from s k xs (n + 1) p)
  where
    by : Contains (pipes_to n 0 x.inputs) p ⊎ Contains (pipes_from xs (n + 1)) p → (Contains (pipes_from xs (n + 1)) p → HasRoom s k p) → HasRoom s k p
    by (inl here) rest = room_to s k n 0 x.inputs p here
    by (inr later) rest = rest later

replay_room : (F : Functions) (w v : World) (rs : List Record) → Replays F w rs v → AllHaveRoom w → AllHaveRoom v
replay_room F w v [] e all = subst AllHaveRoom (sym e) all
replay_room F w v (r ∷ rs) s all = replay_room F s.0 v rs s.2 (same_room w s.0 (step_keeps F w s.0 r s.1) (step_options F w s.0 r s.1) (step_room F w s.0 r s.1 all))

pub reached_room : (F : Functions) (shape : Shape) (o : Options) (w : World) → Reaches F shape o w → AllHaveRoom w
reached_room F shape o w r = replay_room F (opening shape o) w r.0 r.1 (room_from (shape_of (opening shape o)) (room (opening shape o)) shape 0)

within_room : (got next k : ℕ) → got ≤ next + k → got - next ≤ k
within_room got next k l = omega (arith, l)

pub room_of : (w : World) → AllHaveRoom w → (p : Pipe) → Contains w.pipes p → is_bounded w p ≡ true → length p.got - p.next ≤ room w
room_of w all p c bounded = within_room (length p.got) p.next (room w) (all p c (sym (multiplexes_by w p.wire.sender) ∙ not_true (multiplexes (slice_get w.nodes p.wire.sender)) bounded))
