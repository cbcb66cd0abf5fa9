-- A node that is spared stays so to the end of its phase: steps of a phase leave the wires and the marks of pipes, and what is dropped.
use Rattle.std.proofs.Common.{◌≡◌, ℕ, zero, suc, Bool, true, false, cond, List, [], ◌∷◌, length, Option, Some, None, refl, sym, ap, subst, ◌∙◌, map-id}
use Rattle.std.specs.Prelude.{Contains, map, nat_eq, not, slice_get, slice_set, ◌&&◌, ◌||◌}
use Rattle.std.specs.List.{list_all}
use Rattle.ps_frame.specs.Functions.{Functions}
use Rattle.ps_frame.specs.Tables.{Row}
use Rattle.ps_ports.specs.Ports.{is_done}
use Rattle.ps_ports.specs.Wires.{Wire}
use Rattle.ps_turns.specs.Claims.{Claim}
use Rattle.ps_turns.specs.Progress.{Progress, is_multiplexer}
use Rattle.ps_turns.specs.Tasks.{Answer, Piece, bad, good, partial}
use Rattle.ps_world.specs.Answers.{answered, with_partial}
use Rattle.ps_world.specs.Claims.{after_claim, before_drops}
use Rattle.ps_world.specs.Pipes.{change_pipes, drop_at, drop_if, drops_from, dropped_pipe, is_input, put_progress, taken, with_answer, with_morsel, with_place}
use Rattle.ps_world.specs.Promises.{IsSpared, StaysHalted, spared, within_phase}
use Rattle.ps_world.specs.Pulls.{after_pull, is_open_port}
use Rattle.ps_world.specs.Step.{Steps}
use Rattle.ps_world.specs.World.{Node, Pipe, Record, World, bounded_out, claimed, closed, counts_for_sender, ended, handed_in, is_cut_off, multiplexes, opened, pulled, shape_of}
use Rattle.world_facts.proofs.CutOff.{both_true}
use Rattle.world_facts.proofs.Follows.{multiplexes_by, shows}
use Rattle.world_facts.proofs.Halting.{halts}
use Rattle.world_laws.proofs.Agree.{from_map}
use Rattle.world_laws.proofs.InOrder.{contains_map}
use Rattle.world_laws.proofs.Shapes.{step_keeps}
use Rattle.world_claims.proofs.ReachedFacts.{known_step}
use Rattle.world_claims.proofs.Steps.{map_map}
use Rattle.world_claims.specs.Numbering.{Known}

record Like (x y : Pipe) : Type 0 where
  wire : y.wire ≡ x.wire
  in_phase : y.in_phase ≡ x.in_phase
  lost : y.is_dropped ≡ false → x.is_dropped ≡ false

record GoOn (ps qs : List Pipe) : Type 0 where
  pipe : Pipe → Pipe
  pipes : qs ≡ map pipe ps
  like : (x : Pipe) → Like x (pipe x)

itself : (x : Pipe) → Like x x
itself x = record { wire = refl; in_phase = refl; lost = λ d. d }

like_if : (b : Bool) (x y : Pipe) → Like x y → Like x (cond b y x)
like_if true x y h = h
like_if false x y h = itself x

unless : (b : Bool) (x y : Pipe) → Like x y → Like x (cond b x y)
unless true x y h = itself x
unless false x y h = h

same : (ps qs : List Pipe) → qs ≡ ps → GoOn ps qs
same ps qs e = record { pipe = λ p. p; pipes = e ∙ sym (map-id ps); like = itself }

changed : (t : Pipe → Bool) (f : Pipe → Pipe) (ps : List Pipe) → ((x : Pipe) → Like x (f x)) → GoOn ps (change_pipes t f ps)
changed t f ps h = record { pipe = λ p. cond (t p) (f p) p; pipes = refl; like = λ x. like_if (t x) x (f x) (h x) }

onward : (ps qs rs : List Pipe) → GoOn ps qs → GoOn qs rs → GoOn ps rs
onward ps qs rs a b =
    record {
      pipe = λ x. b.pipe (a.pipe x);
      pipes = b.pipes ∙ ap (map b.pipe) a.pipes ∙ map_map a.pipe b.pipe ps;
      like = λ x. record { wire = (b.like (a.pipe x)).wire ∙ (a.like x).wire; in_phase = (b.like (a.pipe x)).in_phase ∙ (a.like x).in_phase; lost = λ d. (a.like x).lost ((b.like (a.pipe x)).lost d) };
    }

if_on : (b : Bool) (ps qs : List Pipe) → GoOn ps qs → GoOn ps (cond b qs ps)
if_on true ps qs h = h
if_on false ps qs h = same ps ps refl

take_like : (x : Pipe) → Like x (taken x)
take_like x = record { wire = refl; in_phase = refl; lost = λ d. d }

place_like : (x : Pipe) → Like x (with_place x)
place_like x = record { wire = refl; in_phase = refl; lost = λ d. d }

drop_like : (x : Pipe) → Like x (dropped_pipe x)
drop_like x = record { wire = refl; in_phase = refl; lost = λ d. absurd (let no : true ≡ false = d in cc) }

answer_like : (k : ℕ) (rs : List Row) (x : Pipe) → Like x (with_answer k rs x)
answer_like k rs x = unless x.is_dropped x (record x { got = slice_set x.got k (Some rs) }) (record { wire = refl; in_phase = refl; lost = λ d. d })

morsel_like : (rs : List Row) (x : Pipe) → Like x (with_morsel rs x)
morsel_like rs x = unless x.is_dropped x _ (record { wire = refl; in_phase = refl; lost = λ d. d })

close_like : (x : Pipe) → Like x (record x { is_closed = true })
close_like x = record { wire = refl; in_phase = refl; lost = λ d. d }

-- EACH STEP OF A PHASE
drop_one : (b : Bool) (n : ℕ) (w : World) → GoOn w.pipes (drop_if b n w).pipes
drop_one true n w = changed (λ p. nat_eq p.wire.receiver n && p.in_phase) dropped_pipe w.pipes drop_like
drop_one false n w = same w.pipes w.pipes refl

drops : (n : ℕ) (w : World) → GoOn w.pipes (drops_from w n).pipes
drops zero w = same w.pipes w.pipes refl
drops (suc n) w = onward w.pipes (drop_at w n).pipes (drops_from w (suc n)).pipes (drop_one (is_cut_off w n) n w) (drops n (drop_at w n))

claim_pipes : (w : World) (n i worker : ℕ) (node : Node) (c : Claim) → GoOn w.pipes (before_drops w n i worker node c).pipes
claim_pipes w n i worker node c =
    let took = cond c.takes_morsel (change_pipes (is_input n i) taken w.pipes) w.pipes in
    let reserved = change_pipes (bounded_out w n) with_place took in
    onward w.pipes reserved (before_drops w n i worker node c).pipes
    (onward w.pipes took reserved (if_on c.takes_morsel w.pipes (change_pipes (is_input n i) taken w.pipes) (changed (is_input n i) taken w.pipes take_like)) (changed (bounded_out w n) with_place took place_like))
    (if_on c.drops_input reserved (change_pipes (is_input n i) dropped_pipe reserved) (changed (is_input n i) dropped_pipe reserved drop_like))

put_pipes : (o : Option Node) (n : ℕ) (progress : Progress) (w : World) → (put_progress o n progress w).pipes ≡ w.pipes
put_pipes None n progress w = refl
put_pipes (Some node) n progress w = refl

partial_pipes : (q : Piece) (o : Option Node) (w : World) → (with_partial q o w).pipes ≡ w.pipes
partial_pipes q None w = refl
partial_pipes q (Some node) w = put_pipes (slice_get w.nodes q.node) q.node _ w

answer_pipes : (w : World) (q : Piece) (a : Answer) → GoOn w.pipes (answered w q a).pipes
answer_pipes w q (good rs) = changed (λ p. nat_eq p.wire.sender q.node && counts_for_sender w p) (with_answer q.gives rs) w.pipes (answer_like q.gives rs)
answer_pipes w q (partial n) = same w.pipes (answered w q (partial n)).pipes (partial_pipes q (slice_get w.nodes q.node) w)
answer_pipes w q (bad c) = same w.pipes w.pipes refl

pull_pipes : (w : World) (n i : ℕ) (node : Node) (p : Pipe) (m : List Row) → GoOn w.pipes (after_pull w n i node p m).pipes
pull_pipes w n i node p m =
    let took = change_pipes (is_input n i) taken w.pipes in
    onward w.pipes took (after_pull w n i node p m).pipes (changed (is_input n i) taken w.pipes take_like)
    (if_on (is_multiplexer node.node.kind) took (change_pipes (is_open_port n) (with_morsel m) took) (changed (is_open_port n) (with_morsel m) took (morsel_like m)))

step_pipes : (F : Functions) (w v : World) (r : Record) → within_phase r ≡ true → Steps F w r v → GoOn w.pipes v.pipes
step_pipes F w v (opened phase) t s = absurd (let no : false ≡ true = t in cc)
step_pipes F w v (claimed n i number worker) t s =
    let start = before_drops w n i worker s.0 s.5.0 in
    subst (λ (x : World). GoOn w.pipes x.pipes) (sym s.5.3) (onward w.pipes start.pipes (after_claim w n i worker s.0 s.5.0).pipes (claim_pipes w n i worker s.0 s.5.0) (drops (length start.nodes) start))
step_pipes F w v (handed_in n i number worker handed) t s = subst (λ (x : World). GoOn w.pipes x.pipes) (sym s.7.3) (answer_pipes w s.0 s.7.0)
step_pipes F w v (pulled n i number) t s = subst (λ (x : World). GoOn w.pipes x.pipes) (sym s.4.8) (pull_pipes w n i s.0 s.4.0 s.4.1)
step_pipes F w v (closed n) t s =
    subst (λ (x : World). GoOn w.pipes x.pipes) (sym s.4) (changed (λ p. nat_eq p.wire.sender n && p.in_phase) (λ p. record p { is_closed = true }) w.pipes close_like)
step_pipes F w v (ended phase) t s = absurd (let no : false ≡ true = t in cc)

-- WHAT IS SPARED STAYS SO
module _ (w v : World) (h : GoOn w.pipes v.pipes) (shape : shape_of v ≡ shape_of w) where
  traced : (y : Pipe) → Contains v.pipes y → (x : Pipe) × Contains w.pipes x × (h.pipe x ≡ y)
  traced y c = from_map h.pipe y w.pipes (subst (λ ps. Contains ps y) h.pipes c)

  counts_same : (x : Pipe) → counts_for_sender v (h.pipe x) ≡ counts_for_sender w x
  counts_same x =
      let p = (h.like x).in_phase in
      let q = (h.like x).wire in
      let m = multiplexes_by v x.wire.sender ∙ ap (λ s. shows (slice_get s x.wire.sender)) shape ∙ sym (multiplexes_by w x.wire.sender) in
      (λ i. p i || (multiplexes (slice_get v.nodes (q i).sender) && not (is_done (q i).receive_state))) ∙ (λ i. x.in_phase || (m i && not (is_done x.wire.receive_state)))

  record From (y : Pipe) : Type 0 where
    old : Pipe
    there : Contains w.pipes old
    wire : y.wire ≡ old.wire
    in_phase : y.in_phase ≡ old.in_phase
    lost : y.is_dropped ≡ false → old.is_dropped ≡ false
    counts : counts_for_sender v y ≡ counts_for_sender w old

  from : (y : Pipe) → Contains v.pipes y → From y
  from y c =
      let t = traced y c in
      let l = h.like t.0 in
      subst From t.2 (record { old = t.0; there = t.1; wire = l.wire; in_phase = l.in_phase; lost = l.lost; counts = counts_same t.0 })

  stays : (n : ℕ) → IsSpared w n → IsSpared v n
  stays n (spared some there sender counts in_phase rest) =
      spared (h.pipe some) (subst (λ ps. Contains ps (h.pipe some)) (sym h.pipes) (contains_map h.pipe some w.pipes there)) (ap (λ (u : Wire). u.sender) (h.like some).wire ∙ sender) (counts_same some ∙ counts)
      (λ p c s live e. let x = from p c in x.in_phase ∙ in_phase x.old x.there (ap (λ (u : Wire). u.sender) (sym x.wire) ∙ s) (sym x.counts ∙ live) (x.lost e))
      (λ p c s live e. let x = from p c in subst (IsSpared v) (ap (λ (u : Wire). u.receiver) (sym x.wire)) (stays x.old.wire.receiver (rest x.old x.there (ap (λ (u : Wire). u.sender) (sym x.wire) ∙ s) (sym x.counts ∙ live) (x.lost e))))

pub stays_halted : (F : Functions) (w : World) → Known F w → StaysHalted F w
stays_halted F w k [] u v n input number worker all e is_spared s = halts F w k.facts n input number worker v is_spared (subst (λ x. Steps F x (claimed n input number worker) v) e s)
stays_halted F w k (r ∷ rs) u v n input number worker all e is_spared s =
    let parts = both_true (within_phase r) (list_all within_phase rs) all in
    stays_halted F e.0 (known_step F w e.0 r k e.1) rs u v n input number worker parts.1 e.2 (stays w e.0 (step_pipes F w e.0 r parts.0 e.1) (step_keeps F w e.0 r e.1) n is_spared) s
