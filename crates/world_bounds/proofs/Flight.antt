-- Morsels in bounded pipes and pieces out are at most pipes × (workers + 4). Where a pipe is idle for the phase, dropped or without a bound, its room is left for all pieces. Else each piece gives into a place of its own.
use Rattle.std.proofs.Common.{◌≡◌, ℕ, ◌+◌, ◌-◌, ◌≤◌, ◌⊎◌, Bool, true, false, cond, List, [], ◌∷◌, length, drop, Option, Some, is_some, refl, sym, ap, subst, ◌∙◌, inl, inr, arith, length-drop}
use Rattle.std.specs.Prelude.{Contains, nat_eq, not, option_map, slice_get, ◌&&◌, ◌||◌}
use Rattle.std.specs.List.{count_by}
use Rattle.std.proofs.lemmas.Bool.{or_left}
use Rattle.std.proofs.lemmas.Bool.Decides.{nat_tests}
use Rattle.std.proofs.lemmas.List.Sums.{count_by-le-length}
use Rattle.std.proofs.lemmas.Option.{slice_get-map}
use Rattle.ps_frame.specs.Functions.{Functions}
use Rattle.ps_frame.specs.Tables.{Row}
use Rattle.ps_meaning.specs.Shape.{PhysicalKind, in_memory_sink, multiplexer}
use Rattle.ps_meaning.specs.Sound.{HasReaders, readers_of}
use Rattle.ps_ports.specs.Ports.{is_ready}
use Rattle.ps_ports.specs.Wires.{Wire}
use Rattle.ps_turns.specs.Tasks.{Piece}
use Rattle.ps_world.specs.Facts.{Facts, is_filled_by, keeps_one}
use Rattle.ps_world.specs.Promises.{IsBounded}
use Rattle.ps_world.specs.World.{Node, Pipe, World, counts_for_sender, is_bounded, is_drained, room, shape_of, sum_waiting, waiting, wires_of}
use Rattle.world_facts.proofs.CutOff.{and_true, both_true, its_number, same_number}
use Rattle.world_facts.proofs.Wired.{count_ends}
use Rattle.world_laws.proofs.Agree.{from_map}
use Rattle.world_claims.specs.Numbering.{Known, only_takes}
use Rattle.world_flight.proofs.Few.{few_pieces, loads_fit}
use Rattle.world_flight.specs.Places.{gives_into}
use Rattle.world_bounds.proofs.Givers.{AllFitNodes, is_sink}
use Rattle.world_bounds.proofs.Rooms.{AllHaveRoom, room_of}
use Rattle.world_bounds.proofs.Sums.{all_charged, all_or_one, charged, one_idle, some_counted, total}

-- what waits is at most what was got from the next number on
waiting_fits : (p : Pipe) → waiting p ≤ length p.got - p.next
waiting_fits p =
    let most = count_by-le-length (λ (slot : Option (List Row)). is_some slot) (drop p.next p.got) in
    let long = length-drop p.next p.got in
    by p.is_dropped (count_by (λ (slot : Option (List Row)). is_some slot) (drop p.next p.got)) (omega (arith, most, long))
  where
    by : (b : Bool) (k : ℕ) → k ≤ length p.got - p.next → cond b 0 k ≤ length p.got - p.next
    by true k l = omega arith
    by false k l = l

is_zero : (n : ℕ) → nat_eq n 0 ≡ true → n ≡ 0
is_zero n e = grind (arith, nat_tests)

drained_waits : (p : Pipe) → is_drained p ≡ true → waiting p ≡ 0
drained_waits p e = by p.is_dropped refl
  where
    by : (b : Bool) → p.is_dropped ≡ b → waiting p ≡ 0
    by true d = ap (λ b. cond {A = ℕ} b 0 (count_by (λ (slot : Option (List Row)). is_some slot) (drop p.next p.got))) d
    by false d =
        let none = is_zero (length p.got - p.next) (sym (ap (λ b. b || nat_eq (length p.got - p.next) 0) d) ∙ e) in
        let fits = waiting_fits p in
        omega (arith, none, fits)

and_false : (a b : Bool) → (a && b) ≡ false → (a ≡ false) ⊎ (b ≡ false)
and_false false b e = inl refl
and_false true b e = inr e

-- all but a sink have a reader
some_reader : (kind : PhysicalKind) (k : ℕ) → is_sink kind ≡ false → HasReaders kind k → 1 ≤ k
some_reader multiplexer k s h = h
some_reader in_memory_sink k s h = absurd (let no : true ≡ false = s in cc)
some_reader kind k s h = omega (arith, h)

module _ (F : Functions) (w : World) (known : Known F w) (has_room : AllHaveRoom w) (fits : AllFitNodes w) where
  f : Facts F w
  f = known.facts

  abbrev load : Pipe → ℕ
  load p = cond (is_bounded w p) (waiting p) 0

  sum_is : (ps : List Pipe) → sum_waiting w ps ≡ total load ps
  sum_is [] = refl
  sum_is (p ∷ ps) = ap (λ k. load p + k) (sum_is ps)

  within : (p : Pipe) → Contains w.pipes p → load p ≤ room w
  within p c = by (is_bounded w p) refl
    where
      by : (b : Bool) → is_bounded w p ≡ b → cond b (waiting p) 0 ≤ room w
      by false e = omega arith
      by true e = let a = waiting_fits p in let b = room_of w has_room p c e in omega (arith, a, b)

  -- of the phase, with a bound and not dropped
  abbrev is_busy : Pipe → Bool
  is_busy p = is_bounded w p && (p.in_phase && not p.is_dropped)

  idle_holds_none : (p : Pipe) → Contains w.pipes p → is_busy p ≡ false → load p ≡ 0
  idle_holds_none p c e = by (is_bounded w p) refl
    where
      dropped : (b : Bool) → not b ≡ false → b ≡ true
      dropped true h = refl
      dropped false h = absurd (let no : true ≡ false = h in cc)

      lost : p.is_dropped ≡ true → waiting p ≡ 0
      lost d = drained_waits p (or_left p.is_dropped _ d)

      of : is_bounded w p ≡ true → (p.in_phase ≡ false) ⊎ (not p.is_dropped ≡ false) → waiting p ≡ 0
      of bounded (inl off) = drained_waits p ((f.pipes p c).drained off bounded)
      of bounded (inr d) = lost (dropped p.is_dropped d)

      by : (b : Bool) → is_bounded w p ≡ b → cond b (waiting p) 0 ≡ 0
      by false g = refl
      by true g = of g (and_false p.in_phase (not p.is_dropped) (sym (ap (λ b. b && (p.in_phase && not p.is_dropped)) g) ∙ e))

  some_idle : (p : Pipe) → Contains w.pipes p → is_busy p ≡ false → IsBounded w
  some_idle p c e =
      let sum = sum_is w.pipes in
      let rest = one_idle load (room w) w.pipes p within c (idle_holds_none p c e) in
      let few = few_pieces F w f in
      omega (arith, sum, rest, few)

  module _ (busy : (p : Pipe) → Contains w.pipes p → is_busy p ≡ true) where
    bounded : (p : Pipe) → Contains w.pipes p → is_bounded w p ≡ true
    bounded p c = (both_true (is_bounded w p) (p.in_phase && not p.is_dropped) (busy p c)).0

    on : (p : Pipe) → Contains w.pipes p → (p.in_phase ≡ true) × (not p.is_dropped ≡ true)
    on p c = both_true p.in_phase (not p.is_dropped) (both_true (is_bounded w p) (p.in_phase && not p.is_dropped) (busy p c)).1

    filled : (p : Pipe) → Contains w.pipes p → is_filled_by w p.wire.sender p
    filled p c = (c, refl, and_true (counts_for_sender w p) (not p.is_dropped) (or_left p.in_phase _ (on p c).0) (on p c).1)

    loaded : (p : Pipe) → Contains w.pipes p → load p + count_by (gives_into p.wire.sender) w.outs ≤ room w
    loaded p c =
        let load_is : load p ≡ waiting p = ap (λ b. cond {A = ℕ} b (waiting p) 0) (bounded p c) in
        let places = loads_fit F w p.wire.sender p f (filled p c) in
        let most = room_of w has_room p c (bounded p c) in
        omega (arith, load_is, places, most)

    -- the pipe out of a piece's node
    output : (n : ℕ) (node : Node) → slice_get w.nodes n ≡ Some node → is_sink node.node.kind ≡ false → (p : Pipe) × Contains w.pipes p × (p.wire.sender ≡ n)
    output n node at no_sink =
        let shown : slice_get (shape_of w) n ≡ Some node.node = slice_get-map (λ (x : Node). x.node) w.nodes n ∙ ap (option_map (λ (x : Node). x.node)) at in
        let some = some_reader node.node.kind (readers_of (shape_of w) n) no_sink (f.sound.1 n node.node shown).readers in
        let same : count_by (λ (q : Wire). nat_eq q.sender n) (wires_of w) ≡ readers_of (shape_of w) n = count_ends F w f (λ (i : ℕ × ℕ). nat_eq i.0 n) in
        let wire = some_counted (λ (q : Wire). nat_eq q.sender n) (wires_of w) (subst (λ k. 1 ≤ k) (sym same) some) in
        let pipe = from_map (λ (p : Pipe). p.wire) wire.0 w.pipes wire.1 in
        (pipe.0, pipe.1, ap (λ (u : Wire). u.sender) pipe.2 ∙ same_number wire.0.sender n wire.2)

    -- a piece that keeps its morsel is of a node that only takes, whose output is aside of the phase
    keeps_none : (q : Piece) (node : Node) (p : Pipe) → slice_get w.nodes q.node ≡ Some node → Contains w.pipes p → p.wire.sender ≡ q.node → (keeps_one q.task ≡ true → only_takes node.node.kind node.progress.stage ≡ true) → (b : Bool) → keeps_one q.task ≡ b → keeps_one q.task ≡ false
    keeps_none q node p at c from takes false e = e
    keeps_none q node p at c from takes true e =
        let hand = (f.pipes p c).at_hand (on p c).0 in
        let ready = (both_true (is_ready p.wire.send_state) (is_ready p.wire.receive_state) hand.0).0 in
        let not_ready = known.outs.takes p node c (ap (slice_get w.nodes) from ∙ at) hand.1 (takes e) in
        absurd (let no : true ≡ false = sym ready ∙ not_ready in cc)

    given : (q : Piece) → Contains w.outs q → (p : Pipe) × Contains w.pipes p × (gives_into p.wire.sender q ≡ true)
    given q c =
        let work = f.at_work q c in
        let fit = fits q work.0 c work.1 in
        let p = output q.node work.0 work.1 fit.0 in
        let gives = keeps_none q work.0 p.0 work.1 p.1 p.2 fit.1 (keeps_one q.task) refl in
        (p.0, p.1, and_true (nat_eq q.node p.0.wire.sender) (not (keeps_one q.task)) (its_number q.node p.0.wire.sender (sym p.2)) (ap not gives))

    all_busy : IsBounded w
    all_busy =
        let sum = sum_is w.pipes in
        let most = charged load (λ (p : Pipe). count_by (gives_into p.wire.sender) w.outs) (room w) w.pipes loaded in
        let pieces = all_charged (λ (p : Pipe). gives_into p.wire.sender) w.pipes w.outs given in
        omega (arith, sum, most, pieces)

  pub is_bounded_flight : IsBounded w
  is_bounded_flight = by (all_or_one is_busy w.pipes)
    where
      by : ((p : Pipe) → Contains w.pipes p → is_busy p ≡ true) ⊎ ((p : Pipe) × Contains w.pipes p × (is_busy p ≡ false)) → IsBounded w
      by (inl busy) = all_busy busy
      by (inr idle) = some_idle idle.0 idle.1 idle.2
