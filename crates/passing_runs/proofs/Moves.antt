-- Claims, hand-ins and pulls keep what a world keeps of a passing node.
use Rattle.std.proofs.Common.{◌≡◌, ◌≢◌, ℕ, suc, ◌+◌, ◌⊎◌, Bool, true, false, cond, List, [], ◌∷◌, ◌++◌, length, take, Option, Some, None, refl, sym, ap, subst, ◌∙◌, inl, inr, arith}
use Rattle.std.specs.Prelude.{Contains, map, nat_eq, not, option_map, slice_get, slice_set, ◌&&◌}
use Rattle.std.proofs.lemmas.Option.{slice_get-map, slice_get_within}
use Rattle.ps_frame.specs.Functions.{Functions}
use Rattle.ps_frame.specs.Tables.{Fields, Row, Table}
use Rattle.ps_meaning.specs.Shape.{PhysicalKind, PhysicalNode, filter_node, select_node, simple_projection, stream_map, streaming_slice, with_row_index}
use Rattle.ps_meaning.specs.Sound.{HasInputs, input_schemas}
use Rattle.ps_options.specs.declared.options.Options.{Options}
use Rattle.ps_ports.specs.Ports.{is_done}
use Rattle.ps_ports.specs.Wires.{Wire, wires_in}
use Rattle.ps_turns.specs.Claims.{Claim, Next, claim_by, passes}
use Rattle.ps_turns.specs.Heads.{Head}
use Rattle.ps_turns.specs.Progress.{Progress, is_multiplexer}
use Rattle.ps_turns.specs.Pulls.{pulls}
use Rattle.ps_turns.specs.Results.{IsResult, IsResultOf}
use Rattle.ps_turns.specs.Tasks.{Piece, Task, computes, gives_last, gives_part, good, hands_on, keeps, probes}
use Rattle.ps_world.specs.Answers.{answered}
use Rattle.ps_world.specs.Booking.{GivesAfter, GoesOn, HasBooked, IsPassing, PassesAfter, StandsAt}
use Rattle.ps_world.specs.Claims.{before_drops, claim_at, inputs_in_phase, next_morsel, piece_of}
use Rattle.ps_world.specs.Facts.{Facts, Joins, joins_of, keeps_one}
use Rattle.ps_world.specs.Pipes.{change_pipes, dropped_pipe, is_input, taken, with_answer, with_morsel, with_place}
use Rattle.ps_world.specs.Pulls.{after_pull, is_open_port}
use Rattle.ps_world.specs.World.{Node, Pipe, World, bounded_out, counts_for_sender, flat, has_next, heads_of, inputs_done, is_bounded, morsel_at, rows_in_order, schemas_for, shape_of, wires_of}
use Rattle.world_facts.proofs.CutOff.{and_true, both_true, same_number}
use Rattle.world_facts.proofs.Placing.{has_inputs, map_length}
use Rattle.world_facts.proofs.Slots.{set_here, set_other}
use Rattle.world_facts.proofs.Wired.{apart, input_place}
use Rattle.world_facts.proofs.Wiring.{wires_forward}
use Rattle.world_laws.proofs.InOrder.{contains_cases, contains_first, contains_later, contains_map}
use Rattle.world_laws.proofs.PassingPorts.{was_kept}
use Rattle.world_claims.proofs.Claiming.{change, change_is, pipes_are}
use Rattle.world_claims.proofs.Steps.{map_map}
use Rattle.world_claims.specs.Numbering.{Known, last_given, passes_numbers}
use Rattle.passing_laws.proofs.ClaimGives.{claim-gives}
use Rattle.passing_runs.proofs.Kept.{AllPassing, Passing, PieceStands, piece_on, quiet, taken_rows, through}
use Rattle.passing_runs.proofs.Slots.{Came, Fills, fills_more, fills_same, fills_set, passes_answer, passes_place, stands_on, taken_more, taken_same, taken_stands}

-- WHAT PASSING KINDS HAVE IN COMMON
record IsPassingKind (kind : PhysicalKind) : Type 0 where
  numbers : passes_numbers kind ≡ true
  pulls_none : pulls kind ≡ false
  last : (a : Progress) → last_given kind a ≡ 0
  inputs : (k : ℕ) → HasInputs kind k → k ≡ 1
  claims : (o : Options) (p : PhysicalNode) (ss : List Fields) (a : Progress) (hs : List Head) (ds : List Bool) (i : ℕ) (next : Next) (c : Claim) → claim_by o p ss kind a hs ds i next ≡ Some c → option_map (λ m. passes o p ss kind a m.0 m.1) next ≡ Some c
  gives : (o : Options) (p : PhysicalNode) (ss : List Fields) (a : Progress) (k : ℕ) (rs : List Row) → (passes o p ss kind a k rs).gives ≡ k
  keeps_none : (o : Options) (p : PhysicalNode) (ss : List Fields) (a : Progress) (k : ℕ) (rs : List Row) → keeps_one (passes o p ss kind a k rs).task ≡ false
  takes : (o : Options) (p : PhysicalNode) (ss : List Fields) (a : Progress) (k : ℕ) (rs : List Row) → (passes o p ss kind a k rs).takes_morsel ≡ true
  books : (o : Options) (p : PhysicalNode) (ss : List Fields) (a : Progress) (k : ℕ) (rs : List Row) (b : ℕ) → HasBooked kind a b → HasBooked kind (passes o p ss kind a k rs).progress (b + length rs)

is_passing : (kind : PhysicalKind) → IsPassing kind → IsPassingKind kind
is_passing (with_row_index name offset) h =
    record { numbers = refl; pulls_none = refl; last = λ a. refl; inputs = λ k e. e; claims = λ o p ss a hs ds i next c e. e; gives = λ o p ss a k rs. refl; keeps_none = λ o p ss a k rs. refl; takes = λ o p ss a k rs. refl; books = λ o p ss a k rs b e. ap (λ j. j + length rs) e }
is_passing (streaming_slice offset n) h =
    record { numbers = refl; pulls_none = refl; last = λ a. refl; inputs = λ k e. e; claims = λ o p ss a hs ds i next c e. e; gives = λ o p ss a k rs. refl; keeps_none = λ o p ss a k rs. refl; takes = λ o p ss a k rs. refl; books = λ o p ss a k rs b e. ap (λ j. j + length rs) e }
is_passing (filter_node x) h =
    record { numbers = refl; pulls_none = refl; last = λ a. refl; inputs = λ k e. e; claims = λ o p ss a hs ds i next c e. e; gives = λ o p ss a k rs. refl; keeps_none = λ o p ss a k rs. refl; takes = λ o p ss a k rs. refl; books = λ o p ss a k rs b e. tt }
is_passing (select_node es extends) h =
    record { numbers = refl; pulls_none = refl; last = λ a. refl; inputs = λ k e. e; claims = λ o p ss a hs ds i next c e. e; gives = λ o p ss a k rs. refl; keeps_none = λ o p ss a k rs. refl; takes = λ o p ss a k rs. refl; books = λ o p ss a k rs b e. tt }
is_passing (simple_projection ns) h =
    record { numbers = refl; pulls_none = refl; last = λ a. refl; inputs = λ k e. e; claims = λ o p ss a hs ds i next c e. e; gives = λ o p ss a k rs. refl; keeps_none = λ o p ss a k rs. refl; takes = λ o p ss a k rs. refl; books = λ o p ss a k rs b e. tt }
is_passing (stream_map step) h =
    record { numbers = refl; pulls_none = refl; last = λ a. refl; inputs = λ k e. e; claims = λ o p ss a hs ds i next c e. e; gives = λ o p ss a k rs. refl; keeps_none = λ o p ss a k rs. refl; takes = λ o p ss a k rs. refl; books = λ o p ss a k rs b e. tt }
is_passing kind h = absurd h

-- THE MORSEL OF A CLAIM
from_next : (f : ℕ × List Row → Claim) (next : Next) (c : Claim) → option_map f next ≡ Some c → (m : ℕ × List Row) × (next ≡ Some m) × (f m ≡ c)
from_next f None c e = absurd (let no : None ≡ Some c = e in cc)
from_next f (Some m) c e = (m, refl, let q : Some (f m) ≡ Some c = e in cc)

morsel_is : (o : Option (List Row)) (k : ℕ) (m : ℕ × List Row) → option_map {U = ℕ × List Row} (λ rs. (k, rs)) o ≡ Some m → (m.0 ≡ k) × (o ≡ Some m.1)
morsel_is None k m e = absurd (let no : None ≡ Some m = e in cc)
morsel_is (Some rs) k m e =
    let q : Some (k, rs) ≡ Some m = e in
    let is : (k, rs) ≡ m = cc in
    (ap (λ (x : ℕ × List Row). x.0) (sym is), ap (λ (x : ℕ × List Row). Some x.1) is)

next_from : (ps : List Pipe) (m : ℕ × List Row) → next_morsel ps ≡ Some m → (x : Pipe) × Contains ps x × (m.0 ≡ x.next) × (morsel_at x.next x.got ≡ Some m.1)
next_from [] m e = absurd (let no : None ≡ Some m = e in cc)
next_from (x ∷ ps) m e = by (has_next x) refl (next_from ps m)
  where
    at : (b : Bool) → has_next x ≡ b → cond b (option_map {U = ℕ × List Row} (λ rs. (x.next, rs)) (morsel_at x.next x.got)) (next_morsel ps) ≡ Some m
    at b h = sym (ap (λ b. cond b (option_map {U = ℕ × List Row} (λ rs. (x.next, rs)) (morsel_at x.next x.got)) (next_morsel ps)) h) ∙ e

    by : (b : Bool) → has_next x ≡ b → (next_morsel ps ≡ Some m → (y : Pipe) × Contains ps y × (m.0 ≡ y.next) × (morsel_at y.next y.got ≡ Some m.1)) → (y : Pipe) × Contains (x ∷ ps) y × (m.0 ≡ y.next) × (morsel_at y.next y.got ≡ Some m.1)
    by true h rest = let is = morsel_is (morsel_at x.next x.got) x.next m (at true h) in (x, contains_first x ps, is.0, is.1)
    by false h rest = let r = rest (at false h) in (r.0, contains_later x r.0 ps r.1, r.2, r.3)

slot_is : (o : Option (Option (List Row))) (rs : List Row) → flat o ≡ Some rs → o ≡ Some (Some rs)
slot_is None rs e = absurd (let no : None ≡ Some rs = e in cc)
slot_is (Some slot) rs e = ap (λ x. Some x) e

-- THE PIPES OF A CLAIM
taken_got : (t a : Bool) (x : Pipe) → (cond t (cond a (taken x) x) x).got ≡ x.got
taken_got true true x = refl
taken_got true false x = refl
taken_got false a x = refl

bounded_taken : (w : World) (n : ℕ) (t a : Bool) (x : Pipe) → bounded_out w n (cond t (cond a (taken x) x) x) ≡ bounded_out w n x
bounded_taken w n true true x = refl
bounded_taken w n true false x = refl
bounded_taken w n false a x = refl

placed_got : (b : Bool) (y : Pipe) → (cond b (with_place y) y).got ≡ cond b (y.got ++ None ∷ []) y.got
placed_got true y = refl
placed_got false y = refl

dropped_got : (d a : Bool) (z : Pipe) → (cond d (cond a (dropped_pipe z) z) z).got ≡ z.got
dropped_got true true z = refl
dropped_got true false z = refl
dropped_got false a z = refl

change_got : (w : World) (n i : ℕ) (t d : Bool) (x : Pipe) → (change w n i t d x).got ≡ cond (bounded_out w n x) (x.got ++ None ∷ []) x.got
change_got w n i t d x =
    let y = cond t (cond (is_input n i x) (taken x) x) x in
    let z = cond (bounded_out w n y) (with_place y) y in
    let got = taken_got t (is_input n i x) x in
    let out = bounded_taken w n t (is_input n i x) x in
    dropped_got d (is_input n i z) z ∙ placed_got (bounded_out w n y) y ∙ (λ j. cond (out j) (got j ++ None ∷ []) (got j))

place_fills : (b : Bool) (xs ys : List (Option (List Row))) → ys ≡ cond b (xs ++ None ∷ []) xs → Fills xs ys
place_fills true xs ys e = subst (Fills xs) (sym e) (fills_more xs (None ∷ []))
place_fills false xs ys e = subst (Fills xs) (sym e) (fills_same xs)

same_joins : (x y : Pipe) → y.wire ≡ x.wire → joins_of y ≡ joins_of x
same_joins x y e = ap (λ (u : Wire). let j : Joins = record { sender = u.sender; port = u.port; receiver = u.receiver; input = u.input } in j) e

not_out : (w : World) (m : ℕ) (x : Pipe) → x.wire.sender ≢ m → bounded_out w m x ≡ false
not_out w m x other = ap (λ b. b && (x.in_phase && (is_bounded w x && not x.is_dropped))) (apart x.wire.sender m other)

not_in : (m i : ℕ) (x : Pipe) → x.wire.receiver ≢ m → is_input m i x ≡ false
not_in m i x other = ap (λ b. b && nat_eq x.wire.input i) (apart x.wire.receiver m other)

none_of_two : (t b : Bool) → b ≡ false → cond {A = ℕ} (t && b) 1 0 ≡ 0
none_of_two true b e = ap (λ b. cond {A = ℕ} b 1 0) e
none_of_two false b e = refl

-- what was taken of a pipe that may have grown
taken_on : (F : Functions) (w : World) (f : Facts F w) (from new : Pipe) → Contains w.pipes from → Fills from.got new.got → new.next ≡ from.next → taken_rows new ≡ taken_rows from
taken_on F w f from new c fills next = ap (λ k. length (rows_in_order (take k new.got))) next ∙ ap length (taken_same from.got new.got from.next fills (f.pipes from c).came)

module _ (F : Functions) (n : ℕ) (p : PhysicalNode) (s : Fields) (passing : IsPassing p.kind) (law : GoesOn F p s) where
  kind : IsPassingKind p.kind
  kind = is_passing p.kind passing

  module _ (w : World) (known : Known F w) (shown : slice_get (shape_of w) n ≡ Some p) (all : AllPassing F n p s w) where
    f : Facts F w
    f = known.facts

    entry : (node : Node) → slice_get w.nodes n ≡ Some node → node.node ≡ p
    entry node at =
        let there : slice_get (shape_of w) n ≡ Some node.node = slice_get-map (λ (x : Node). x.node) w.nodes n ∙ ap (option_map (λ (x : Node). x.node)) at in
        let q : Some node.node ≡ Some p = sym there ∙ shown in
        cc

    earlier : (x : Pipe) → Contains w.pipes x → x.wire.receiver ≡ n → x.wire.sender ≢ n
    earlier x c r e = let before = wires_forward F w f x.wire (contains_map (λ (y : Pipe). y.wire) x w.pipes c) in absurd (omega (arith, before, r, e))

    -- its one input
    input_zero : (node : Node) → slice_get w.nodes n ≡ Some node → (x : Pipe) → Contains w.pipes x → x.wire.receiver ≡ n → x.wire.input ≡ 0
    input_zero node at x c r =
        let there = input_place F w f x.wire (contains_map (λ (y : Pipe). y.wire) x w.pipes c) in
        let here : slice_get (wires_in n (wires_of w)) x.wire.input ≡ Some x.wire = ap (λ k. slice_get (wires_in k (wires_of w)) x.wire.input) (sym r) ∙ there in
        let short = slice_get_within (wires_in n (wires_of w)) x.wire.input x.wire here in
        let long = map_length (λ (u : Wire). u.send_state) (wires_in n (wires_of w)) in
        let one = kind.inputs (length (wires_in n (wires_of w))) (subst (λ (k : ℕ). HasInputs p.kind k) long (subst (λ (q : PhysicalNode). HasInputs q.kind (length (map (λ (u : Wire). u.send_state) (wires_in n (wires_of w))))) (entry node at) (has_inputs F w f n node at))) in
        omega (arith, short, one)

    -- A CLAIM OF ANOTHER NODE
    pub other_claim : (m i worker : ℕ) (node : Node) (c : Claim) → m ≢ n → AllPassing F n p s (before_drops w m i worker node c)
    other_claim m i worker node c other =
        through F n p s w (before_drops w m i worker node c) (change w m i c.takes_morsel c.drops_input) (pipes_are w m i c.takes_morsel c.drops_input) (λ x. same_joins x (change w m i c.takes_morsel c.drops_input x) (change_is w m i c.takes_morsel c.drops_input x).0.wire)
        (λ new from to at cf rf ct st.
        let g = change w m i c.takes_morsel c.drops_input in
        let old : slice_get w.nodes n ≡ Some new = sym (set_other w.nodes m n (record node { progress = c.progress }) (λ e. other (sym e))) ∙ at in
        let fills = place_fills (bounded_out w m from) from.got (g from).got (change_got w m i c.takes_morsel c.drops_input from) in
        let none = none_of_two c.takes_morsel (is_input m i from) (not_in m i from (λ e. other (sym e ∙ rf))) in
        let moved = (change_is w m i c.takes_morsel c.drops_input from).2 in
        let next : (g from).next ≡ from.next = omega (arith, none, moved) in
        let got : (g to).got ≡ to.got = change_got w m i c.takes_morsel c.drops_input to ∙ ap (λ b. cond b (to.got ++ None ∷ []) to.got) (not_out w m to (λ e. other (sym e ∙ st))) in
        quiet F n p s w (before_drops w m i worker node c) new new from to (g from) (g to) refl fills (taken_on F w f from (g from) cf fills next) got (change_is w m i c.takes_morsel c.drops_input to).0.lost (λ q cq qn. outs q cq qn) (all new from to old cf rf ct st))
      where
        outs : (q : Piece) → Contains (piece_of m i worker c ∷ w.outs) q → q.node ≡ n → Contains w.outs q
        outs q cq qn = by (contains_cases (piece_of m i worker c) q w.outs cq)
          where
            by : (piece_of m i worker c ≡ q) ⊎ Contains w.outs q → Contains w.outs q
            by (inl e) = absurd (other (ap (λ (z : Piece). z.node) e ∙ qn))
            by (inr there) = there

    -- ITS OWN CLAIM
    module _ (reads : input_schemas (shape_of w) p ≡ s ∷ []) (i worker : ℕ) (node : Node) (at : slice_get w.nodes n ≡ Some node) (c : Claim) (is : claim_at w n i node ≡ Some c) where
      abbrev v : World
      v = before_drops w n i worker node c

      abbrev g : Pipe → Pipe
      g = change w n i c.takes_morsel c.drops_input

      same : node.node ≡ p
      same = entry node at

      abbrev next : Next
      next = next_morsel (inputs_in_phase w n i)

      -- what it claims
      record Claimed : Type 0 where
        morsel : ℕ × List Row
        there : next ≡ Some morsel
        claim : passes w.options p (s ∷ []) p.kind node.progress morsel.0 morsel.1 ≡ c

      claimed : Claimed
      claimed =
          let schemas : schemas_for w node ≡ s ∷ [] = ap (input_schemas (shape_of w)) same ∙ reads in
          let by_kind : claim_by w.options p (s ∷ []) p.kind node.progress (heads_of w n node) (inputs_done w n) i next ≡ Some c =
          (λ j. claim_by w.options (sym same j) (sym schemas j) (sym same j).kind node.progress (heads_of w n node) (inputs_done w n) i next) ∙ is in
          let m = from_next (λ m. passes w.options p (s ∷ []) p.kind node.progress m.0 m.1) next c (kind.claims w.options p (s ∷ []) node.progress (heads_of w n node) (inputs_done w n) i next c by_kind) in
          record { morsel = m.0; there = m.1; claim = m.2 }

      abbrev rows : List Row
      rows = claimed.morsel.1

      -- the morsel stands next in the node's input
      record Source (from : Pipe) : Type 0 where
        number : claimed.morsel.0 ≡ from.next
        slot : slice_get from.got from.next ≡ Some (Some rows)
        is_in : is_input n i from ≡ true

      source : (from : Pipe) → Contains w.pipes from → from.wire.receiver ≡ n → Source from
      source from cf rf =
          let x = next_from (inputs_in_phase w n i) claimed.morsel claimed.there in
          let k = was_kept (λ (y : Pipe). is_input n i y && y.in_phase) x.0 w.pipes x.1 in
          let a = both_true (is_input n i x.0) x.0.in_phase k.1 in
          let b = both_true (nat_eq x.0.wire.receiver n) (nat_eq x.0.wire.input i) a.0 in
          let r = same_number x.0.wire.receiver n b.0 in
          let it = f.one_input x.0 from k.0 cf (r ∙ sym rf) (input_zero node at x.0 k.0 r ∙ sym (input_zero node at from cf rf)) in
          subst Source it (record { number = x.2; slot = slot_is (slice_get x.0.got x.0.next) rows x.3; is_in = a.0 })

      gives : c.gives ≡ claimed.morsel.0
      gives = ap (λ (x : Claim). x.gives) (sym claimed.claim) ∙ kind.gives w.options p (s ∷ []) node.progress claimed.morsel.0 rows

      takes : c.takes_morsel ≡ true
      takes = ap (λ (x : Claim). x.takes_morsel) (sym claimed.claim) ∙ kind.takes w.options p (s ∷ []) node.progress claimed.morsel.0 rows

      module _ (from to : Pipe) (cf : Contains w.pipes from) (rf : from.wire.receiver ≡ n) (ct : Contains w.pipes to) (st : to.wire.sender ≡ n) where
        old : Passing F n p s w node from to
        old = all node from to at cf rf ct st

        came : Came from.got from.next
        came = (f.pipes from cf).came

        got : (g from).got ≡ from.got
        got = change_got w n i c.takes_morsel c.drops_input from ∙ ap (λ b. cond b (from.got ++ None ∷ []) from.got) (not_out w n from (earlier from cf rf))

        moved : (g from).next ≡ suc from.next
        moved =
            let one : cond {A = ℕ} (c.takes_morsel && is_input n i from) 1 0 ≡ 1 = ap (λ b. cond {A = ℕ} b 1 0) (and_true c.takes_morsel (is_input n i from) takes (source from cf rf).is_in) in
            let step = (change_is w n i c.takes_morsel c.drops_input from).2 in
            omega (arith, one, step)

        more : taken_rows (g from) ≡ taken_rows from + length rows
        more = (λ j. length (rows_in_order (take (moved j) (got j)))) ∙ taken_more from.got from.next rows came (source from cf rf).slot

        booked : HasBooked p.kind c.progress (taken_rows (g from))
        booked = subst (λ (x : Claim). HasBooked p.kind x.progress (taken_rows (g from))) claimed.claim (subst (λ k. HasBooked p.kind (passes w.options p (s ∷ []) p.kind node.progress claimed.morsel.0 rows).progress k) (sym more) (kind.books w.options p (s ∷ []) node.progress claimed.morsel.0 rows (taken_rows from) old.booked))

        answers : (g to).is_dropped ≡ false → PassesAfter (GivesAfter F p s) 0 (g from).got (g to).got
        answers d =
            let u = (change_is w n i c.takes_morsel c.drops_input to).0.lost d in
            subst (λ xs. PassesAfter (GivesAfter F p s) 0 xs (g to).got) (sym got) (by u (bounded_out w n to) (change_got w n i c.takes_morsel c.drops_input to))
          where
            by : to.is_dropped ≡ false → (b : Bool) → (g to).got ≡ cond b (to.got ++ None ∷ []) to.got → PassesAfter (GivesAfter F p s) 0 from.got (g to).got
            by u false e = subst (PassesAfter (GivesAfter F p s) 0 from.got) (sym e) (old.answers u)
            by u true e =
                let numbered = (known.numbers n node at).passed (ap (λ (q : PhysicalNode). passes_numbers q.kind) same ∙ kind.numbers) to from ct cf st u rf (input_zero node at from cf rf) in
                let none : last_given node.node.kind node.progress ≡ 0 = ap (λ (q : PhysicalNode). last_given q.kind node.progress) same ∙ kind.last node.progress in
                let long : length to.got ≡ from.next = omega (arith, numbered, none) in
                subst (PassesAfter (GivesAfter F p s) 0 from.got) (sym e) (passes_place (GivesAfter F p s) 0 from.got to.got rows (old.answers u) (ap (slice_get from.got) long ∙ (source from cf rf).slot))

        number : c.gives ≡ from.next
        number = gives ∙ (source from cf rf).number

        own : PieceStands p s n (g from) (piece_of n i worker c)
        own =
            record {
              options = w.options;
              input = i;
              worker = worker;
              front = rows_in_order (take from.next from.got);
              rows = rows;
              progress = node.progress;
              stands = subst (λ xs. StandsAt xs c.gives (rows_in_order (take from.next from.got)) rows) (sym got) (subst (λ k. StandsAt from.got k (rows_in_order (take from.next from.got)) rows) (sym number) (taken_stands from.got from.next rows came (source from cf rf).slot));
              booked = old.booked;
              claimed = ap (piece_of n i worker) (sym claimed.claim ∙ ap (λ k. passes w.options p (s ∷ []) p.kind node.progress k rows) (sym gives));
            }

        pieces : (q : Piece) → Contains (piece_of n i worker c ∷ w.outs) q → q.node ≡ n → PieceStands p s n (g from) q
        pieces q cq qn = by (contains_cases (piece_of n i worker c) q w.outs cq)
          where
            by : (piece_of n i worker c ≡ q) ⊎ Contains w.outs q → PieceStands p s n (g from) q
            by (inl e) = subst (PieceStands p s n (g from)) e own
            by (inr there) = piece_on p s n from (g from) q (subst (Fills from.got) (sym got) (fills_same from.got)) (old.pieces q there qn)

        after : Passing F n p s v (record node { progress = c.progress }) (g from) (g to)
        after = record { booked = booked; answers = answers; pieces = pieces }

      pub own_claim : AllPassing F n p s v
      own_claim =
          through F n p s w v g (pipes_are w n i c.takes_morsel c.drops_input) (λ x. same_joins x (g x) (change_is w n i c.takes_morsel c.drops_input x).0.wire)
          (λ new from to there cf rf ct st.
          let here = set_here w.nodes n node (record node { progress = c.progress }) at in
          let both : Some (record node { progress = c.progress }) ≡ Some new = sym here ∙ there in
          let it : record node { progress = c.progress } ≡ new = cc in
          subst (λ z. Passing F n p s v z (g from) (g to)) it (after from to cf rf ct st))

    -- A HAND-IN OF ROWS
    module _ (q : Piece) (cq : Contains w.outs q) (rs : List Row) (result : IsResult F q (good rs)) where
      abbrev hits : Pipe → Bool
      hits x = nat_eq x.wire.sender q.node && counts_for_sender w x

      abbrev put : Pipe → Pipe
      put x = cond (hits x) (with_answer q.gives rs x) x

      record Puts (b d : Bool) (x y : Pipe) : Type 0 where
        joins : joins_of y ≡ joins_of x
        next : y.next ≡ x.next
        dropped : y.is_dropped ≡ x.is_dropped
        got : y.got ≡ cond (b && not d) (slice_set x.got q.gives (Some rs)) x.got

      puts_by : (x : Pipe) (b d : Bool) → Puts b d x (cond b (cond d x (record x { got = slice_set x.got q.gives (Some rs) })) x)
      puts_by x true true = record { joins = refl; next = refl; dropped = refl; got = refl }
      puts_by x true false = record { joins = refl; next = refl; dropped = refl; got = refl }
      puts_by x false d = record { joins = refl; next = refl; dropped = refl; got = refl }

      puts : (x : Pipe) → Puts (hits x) x.is_dropped x (put x)
      puts x = puts_by x (hits x) x.is_dropped

      gives_rows : (task : Task) (i : ℕ) (ts : List Table) (tables : List (List Row)) → IsResultOf F task i ts tables (good rs) → keeps_one task ≡ false
      gives_rows hands_on i ts tables r = refl
      gives_rows (computes x) i ts tables r = refl
      gives_rows (keeps x) i ts tables r = absurd r
      gives_rows (gives_part x keys) i ts tables r = refl
      gives_rows (probes x j) i ts tables r = refl
      gives_rows (gives_last x j) i ts tables r = refl

      empty : (x : Pipe) → Contains w.pipes x → (hits x && not x.is_dropped) ≡ true → (q.node ≡ x.wire.sender) × (slice_get x.got q.gives ≡ Some None)
      empty x c e =
          let a = both_true (hits x) (not x.is_dropped) e in
          let b = both_true (nat_eq x.wire.sender q.node) (counts_for_sender w x) a.0 in
          let from = same_number x.wire.sender q.node b.0 in
          (sym from, (f.expected q cq).1 (gives_rows q.task q.input _ q.tables result) x (c, from, and_true (counts_for_sender w x) (not x.is_dropped) b.1 a.1))

      fills : (x : Pipe) → Contains w.pipes x → Fills x.got (put x).got
      fills x c = by (hits x && not x.is_dropped) refl
        where
          by : (b : Bool) → (hits x && not x.is_dropped) ≡ b → Fills x.got (put x).got
          by true e = subst (Fills x.got) (sym ((puts x).got ∙ ap (λ b. cond b (slice_set x.got q.gives (Some rs)) x.got) e)) (fills_set x.got q.gives rs (empty x c e).1)
          by false e = subst (Fills x.got) (sym ((puts x).got ∙ ap (λ b. cond b (slice_set x.got q.gives (Some rs)) x.got) e)) (fills_same x.got)

      left : (r : Piece) → Contains (answered w q (good rs)).outs r → Contains w.outs r
      left r c = (was_kept (λ (x : Piece). not (nat_eq x.worker q.worker)) r w.outs c).0

      pub hand_in : AllPassing F n p s (answered w q (good rs))
      hand_in =
          through F n p s w (answered w q (good rs)) put refl (λ x. (puts x).joins)
          (λ node from to at cf rf ct st.
          let old = all node from to at cf rf ct st in
          let taken = taken_on F w f from (put from) cf (fills from cf) (puts from).next in
          by node from to at cf ct st old taken (hits to && not to.is_dropped) refl)
        where
          by : (node : Node) (from to : Pipe) → slice_get w.nodes n ≡ Some node → Contains w.pipes from → Contains w.pipes to → to.wire.sender ≡ n → Passing F n p s w node from to → taken_rows (put from) ≡ taken_rows from → (b : Bool) → (hits to && not to.is_dropped) ≡ b
              → Passing F n p s (answered w q (good rs)) node (put from) (put to)
          by node from to at cf ct st old taken false e =
              quiet F n p s w (answered w q (good rs)) node node from to (put from) (put to) refl (fills from cf) taken ((puts to).got ∙ ap (λ b. cond b (slice_set to.got q.gives (Some rs)) to.got) e) (λ d. sym (puts to).dropped ∙ d) (λ r c rn. left r c) old
          by node from to at cf ct st old taken true e =
              let still = quiet F n p s w (answered w q (good rs)) node node from to (put from) to refl (fills from cf) taken refl (λ d. d) (λ r c rn. left r c) old in
              let there = empty to ct e in
              let stands = old.pieces q cq (there.0 ∙ st) in
              let gave = claim-gives F stands.options p s passing law stands.progress (length stands.front) stands.booked stands.input q.gives stands.rows rs (subst (λ z. IsResult F z (good rs)) stands.claimed result) in
              let start : 0 + length stands.front ≡ length stands.front = omega arith in
              record {
                booked = still.booked;
                answers = λ d. subst (PassesAfter (GivesAfter F p s) 0 (put from).got) (sym ((puts to).got ∙ ap (λ b. cond b (slice_set to.got q.gives (Some rs)) to.got) e))
                    (passes_answer (GivesAfter F p s) 0 (put from).got to.got q.gives stands.front stands.rows rs (still.answers (sym (puts to).dropped ∙ d)) (stands_on from.got (put from).got q.gives stands.front stands.rows (fills from cf) stands.stands) there.1 (subst (λ k. GivesAfter F p s k stands.rows rs) (sym start) gave));
                pieces = still.pieces;
              }

    -- A PULL OF ANOTHER NODE
    module _ (m i : ℕ) (node : Node) (x : Pipe) (rs : List Row) (at : slice_get w.nodes m ≡ Some node) (pulling : pulls node.node.kind ≡ true) where
      other : m ≢ n
      other e =
          let it = entry node (ap (slice_get w.nodes) (sym e) ∙ at) in
          let no : true ≡ false = sym pulling ∙ ap (λ (q : PhysicalNode). pulls q.kind) it ∙ kind.pulls_none in
          cc

      abbrev took : Pipe → Pipe
      took y = cond (is_input m i y) (taken y) y

      abbrev gets : Bool → Pipe → Pipe
      gets b y = cond b (cond (is_open_port m y) (with_morsel rs y) y) y

      record Gets (y z : Pipe) : Type 0 where
        joins : joins_of z ≡ joins_of y
        next : z.next ≡ y.next
        dropped : z.is_dropped ≡ y.is_dropped
        fills : Fills y.got z.got

      with_one : (y : Pipe) (d : Bool) → Gets y (cond d y (record y { got = y.got ++ Some rs ∷ [] }))
      with_one y true = record { joins = refl; next = refl; dropped = refl; fills = fills_same y.got }
      with_one y false = record { joins = refl; next = refl; dropped = refl; fills = fills_more y.got (Some rs ∷ []) }

      gets_by : (y : Pipe) (b c : Bool) → Gets y (cond b (cond c (with_morsel rs y) y) y)
      gets_by y true true = with_one y y.is_dropped
      gets_by y true false = record { joins = refl; next = refl; dropped = refl; fills = fills_same y.got }
      gets_by y false c = record { joins = refl; next = refl; dropped = refl; fills = fills_same y.got }

      record Took (a : Bool) (y z : Pipe) : Type 0 where
        joins : joins_of z ≡ joins_of y
        sender : z.wire.sender ≡ y.wire.sender
        got : z.got ≡ y.got
        dropped : z.is_dropped ≡ y.is_dropped
        next : a ≡ false → z.next ≡ y.next

      took_by : (y : Pipe) (a : Bool) → Took a y (cond a (taken y) y)
      took_by y true = record { joins = refl; sender = refl; got = refl; dropped = refl; next = λ e. absurd (let no : true ≡ false = e in cc) }
      took_by y false = record { joins = refl; sender = refl; got = refl; dropped = refl; next = λ e. refl }

      abbrev pull : Pipe → Pipe
      pull y = gets (is_multiplexer node.node.kind) (took y)

      pipes_by : (b : Bool) → cond b (change_pipes (is_open_port m) (with_morsel rs) (change_pipes (is_input m i) taken w.pipes)) (change_pipes (is_input m i) taken w.pipes) ≡ map (λ y. gets b (took y)) w.pipes
      pipes_by true = map_map took (λ y. cond (is_open_port m y) (with_morsel rs y) y) w.pipes
      pipes_by false = refl

      pub other_pull : AllPassing F n p s (after_pull w m i node x rs)
      other_pull =
          through F n p s w (after_pull w m i node x rs) pull (pipes_by (is_multiplexer node.node.kind)) (λ y. (gets_by (took y) (is_multiplexer node.node.kind) (is_open_port m (took y))).joins ∙ (took_by y (is_input m i y)).joins)
          (λ new from to there cf rf ct st.
          let b = is_multiplexer node.node.kind in
          let old : slice_get w.nodes n ≡ Some new = sym (set_other w.nodes m n _ (λ e. other (sym e))) ∙ there in
          let f1 = took_by from (is_input m i from) in
          let f2 = gets_by (took from) b (is_open_port m (took from)) in
          let fills : Fills from.got (pull from).got = subst (λ xs. Fills xs (pull from).got) f1.got f2.fills in
          let next : (pull from).next ≡ from.next = f2.next ∙ f1.next (not_in m i from (λ e. other (sym e ∙ rf))) in
          let t1 = took_by to (is_input m i to) in
          let t2 = gets_by (took to) b (is_open_port m (took to)) in
          let shut : is_open_port m (took to) ≡ false = ap (λ c. c && (not (is_done (took to).wire.receive_state) && not (took to).is_dropped)) (apart (took to).wire.sender m (λ e. other (sym e ∙ t1.sender ∙ st))) in
          let got : (pull to).got ≡ to.got = ap (λ c. (cond b (cond c (with_morsel rs (took to)) (took to)) (took to)).got) shut ∙ none_got b (took to) ∙ t1.got in
          quiet F n p s w (after_pull w m i node x rs) new new from to (pull from) (pull to) refl fills (taken_on F w f from (pull from) cf fills next) got (λ d. sym t1.dropped ∙ sym t2.dropped ∙ d) (λ q c qn. c) (all new from to old cf rf ct st))
        where
          none_got : (b : Bool) (y : Pipe) → (cond b (cond false (with_morsel rs y) y) y).got ≡ y.got
          none_got true y = refl
          none_got false y = refl
