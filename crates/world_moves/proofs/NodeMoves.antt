-- A node of an open phase that isn't closed may move, has a piece out, or waits for one input or one output, whatever its kind.
use Rattle.std.proofs.Common.{◌≡◌, ◌≢◌, ℕ, zero, suc, ◌<◌, ◌⊎◌, Bool, true, false, cond, List, [], ◌∷◌, length, Option, None, Some, refl, sym, ap, subst, ◌∙◌, inl, inr, arith}
use Rattle.std.specs.Prelude.{Contains, IsTrue, get_or, is_some, nat_eq, nat_lt, not, option_map, slice_get, ◌&&◌, ◌||◌}
use Rattle.std.specs.List.{AllByRecursion, filter as kept, list_all, list_any}
use Rattle.std.proofs.lemmas.Option.{get_or_from_slice_get, slice_get-map, slice_get_within}
use Rattle.ps_frame.specs.Causes.{is_empty}
use Rattle.ps_frame.specs.Functions.{Functions}
use Rattle.ps_frame.specs.Tables.{Row}
use Rattle.ps_meaning.specs.Shape.{zip_node}
use Rattle.ps_ports.specs.Ports.{is_done, is_ready}
use Rattle.ps_ports.specs.Wires.{Wire, wires_in}
use Rattle.ps_turns.specs.Claims.{Claim, claim_by}
use Rattle.ps_turns.specs.Heads.{Head, heads_by, is_ready_head, no_head, stored_inputs}
use Rattle.ps_turns.specs.Progress.{is_multiplexer}
use Rattle.ps_turns.specs.Pulls.{closed_unready, pulls, wants}
use Rattle.ps_turns.specs.Tasks.{Piece}
use Rattle.ps_world.specs.Claims.{after_claim, claim_at, inputs_in_phase, next_morsel}
use Rattle.ps_world.specs.Closing.{HasFinished, after_close, inputs_over}
use Rattle.ps_world.specs.Facts.{HasNoUse, is_over_slice}
use Rattle.ps_world.specs.Laws.{IsFull, IsOut, IsStarved, MayStep}
use Rattle.ps_world.specs.Pipes.{is_input}
use Rattle.ps_world.specs.Pulls.{after_pull, closed_inputs, wants_input}
use Rattle.ps_world.specs.Updates.{given_at}
use Rattle.ps_world.specs.World.{Node, Pipe, World, claimed, closed, counts_for_sender, has_next, has_place, heads_of, inputs_done, is_bounded, is_cut_off, is_over, live_outs, morsel_at, multiplexes, pipes_in, pipes_out, places_taken, pulled, room, running, schemas_for, waiting, wires_of}
use Rattle.world_claims.specs.Numbering.{Known, only_takes}
use Rattle.world_facts.proofs.CutOff.{and_true, both_true, cut_is, goes_live, its_number, same_number}
use Rattle.world_facts.proofs.HandedIn.{contains_of}
use Rattle.world_facts.proofs.Placing.{has_inputs, inputs_given, map_length}
use Rattle.world_facts.proofs.Slots.{some_at}
use Rattle.world_facts.proofs.Wired.{input_at, input_place}
use Rattle.world_laws.proofs.InOrder.{contains_cases, contains_first, contains_kept, contains_later, contains_map, list_all-in_order, list_all-kept, list_any-contains, none_in_nil}
use Rattle.world_laws.proofs.PassingPorts.{ordered, was_kept}
use Rattle.world_ends.proofs.Back.{heads_over, place, wires_into}
use Rattle.world_ends.proofs.Stored.{HasStores}
use Rattle.world_ends.proofs.Tests.{neither, not_false, not_true, ready_not_done}
use Rattle.world_moves.proofs.Takers.{InputsFit, is_zip}
use Rattle.world_moves.proofs.Takes.{next_none, next_some, no_more, some_morsel, takes, wants_plain, zip_kind}
use Rattle.world_moves.proofs.ZipMoves.{closed_ready, heads_long, zip_has_claim}

-- what a node may do
abbrev pub Moves : Functions → World → ℕ → Type 0
Moves F w n = MayStep F w ⊎ IsOut w ⊎ ((p : Pipe) × (p.wire.receiver ≡ n) × IsStarved w p) ⊎ ((p : Pipe) × (p.wire.sender ≡ n) × IsFull w p)

-- LISTS AND TESTS
each_true : {A : Type 0} (t : A → Bool) (xs : List A) → list_all t xs ≡ true → AllByRecursion (λ x. IsTrue (t x)) xs
each_true t [] e = tt
each_true t (x ∷ xs) e = let parts = both_true (t x) (list_all t xs) e in (parts.0, each_true t xs parts.1)

none_passes : {A : Type 0} (t : A → Bool) (xs : List A) → list_any t xs ≡ false → (x : A) → Contains xs x → t x ≡ false
none_passes t [] e x c = absurd (none_in_nil x c)
none_passes t (y ∷ ys) e x c = by (neither (t y) (list_any t ys) e) (contains_cases y x ys c) (λ f later. none_passes t ys f x later)
  where
    by : (t y ≡ false) × (list_any t ys ≡ false) → (y ≡ x) ⊎ Contains ys x → (list_any t ys ≡ false → Contains ys x → t x ≡ false) → t x ≡ false
    by f (inl same) rest = sym (ap t same) ∙ f.0
    by f (inr later) rest = rest f.1 later

some_fails : {A : Type 0} (t : A → Bool) (xs : List A) → list_all t xs ≡ false → (x : A) × Contains xs x × (t x ≡ false)
some_fails t [] e = absurd (let no : true ≡ false = e in cc)
some_fails {A = A} t (x ∷ xs) e = by (some_fails t xs) (t x) refl
  where
    by : (list_all t xs ≡ false → (y : A) × Contains xs y × (t y ≡ false)) → (b : Bool) → t x ≡ b → (y : A) × Contains (x ∷ xs) y × (t y ≡ false)
    by rest false q = (x, contains_first x xs, q)
    by rest true q = let r = rest (sym (ap (λ b. b && list_all t xs) q) ∙ e) in (r.0, contains_later x r.0 xs r.1, r.2)

second_false : (a b : Bool) → (a && b) ≡ false → a ≡ true → b ≡ false
second_false true b e h = e
second_false false b e h = absurd (let no : false ≡ true = h in cc)

or_first : (a b : Bool) → a ≡ true → (a || b) ≡ true
or_first true b e = refl
or_first false b e = absurd (let no : false ≡ true = e in cc)

or_second : (a b : Bool) → b ≡ true → (a || b) ≡ true
or_second true b e = refl
or_second false b e = e

implies : (a b : Bool) → (a ≡ true → b ≡ true) → (not a || b) ≡ true
implies true b h = h refl
implies false b h = refl

every : {A : Type 0} (t : A → Bool) (xs : List A) → ((x : A) → Contains xs x → t x ≡ true) → list_all t xs ≡ true
every t [] h = refl
every t (x ∷ xs) h = and_true (t x) (list_all t xs) (h x (contains_first x xs)) (every t xs (λ y c. h y (contains_later x y xs c)))

exists_if : (b : Bool) (x : Claim) → b ≡ true → (c : Claim) × (cond b (Some x) None ≡ Some c)
exists_if true x e = (x, refl)
exists_if false x e = absurd (let no : false ≡ true = e in cc)

module _ (F : Functions) (w : World) (known : Known F w) (fits : InputsFit w) (run : w.ending ≡ running) (n : ℕ) (node : Node) (at : slice_get w.nodes n ≡ Some node) (working : (w.is_open && (node.in_phase && not node.is_closed)) ≡ true) (none : w.outs ≡ []) where
  closes : HasFinished w n node → Moves F w n
  closes finished = inl (closed n, after_close w n node, (node, (at, working, run), ap (kept (λ (q : Piece). nat_eq q.node n)) none, finished, refl))

  module _ (whole : is_cut_off w n ≡ false) (places : list_all (has_place w) (live_outs w n) ≡ true) where
    claims : (i : ℕ) (c : Claim) → claim_at w n i node ≡ Some c → Moves F w n
    claims i c e =
        let some = w.options.some_workers in
        inl (claimed n i c.number 0, after_claim w n i 0 node c, (node, (at, working, run), (omega (arith, some), subst (λ ps. AllByRecursion (λ (p : Piece). p.worker ≢ 0) ps) (sym none) tt), whole, each_true (has_place w) (live_outs w n) places, (c, e, refl, refl)))

    -- the next morsel of a pipe of the phase
    module _ (p : Pipe) (c : Contains w.pipes p) (mine : p.wire.receiver ≡ n) (on : p.in_phase ≡ true) (has : has_next p ≡ true) where
      input : (is_input n p.wire.input p && p.in_phase) ≡ true
      input = and_true (nat_eq p.wire.receiver n && nat_eq p.wire.input p.wire.input) p.in_phase (and_true (nat_eq p.wire.receiver n) (nat_eq p.wire.input p.wire.input) (its_number p.wire.receiver n mine) (its_number p.wire.input p.wire.input refl)) on

      pull : pulls node.node.kind ≡ true → wants_input w n node p.wire.input ≡ true → Moves F w n
      pull does wanted =
          let m = some_morsel (morsel_at p.next p.got) (both_true (not p.is_dropped) (is_some (morsel_at p.next p.got)) has).1 in
          inl (pulled n p.wire.input p.next, after_pull w n p.wire.input node p m.0, (node, (at, working, run), does, whole, (p, m.0, c, input, has, m.1, refl, wanted, refl)))

      next : (m : ℕ × List Row) × (next_morsel (inputs_in_phase w n p.wire.input) ≡ Some m)
      next = next_some (inputs_in_phase w n p.wire.input) p (contains_kept (λ (x : Pipe). is_input n p.wire.input x && x.in_phase) p w.pipes c input) has

      there : slice_get w.nodes p.wire.receiver ≡ Some node
      there = ap (slice_get w.nodes) mine ∙ at

      within : p.wire.input < length (given_at w n).inputs
      within =
          let short = slice_get_within (wires_in p.wire.receiver (wires_of w)) p.wire.input p.wire (input_place F w known.facts p.wire (contains_map (λ (x : Pipe). x.wire) p w.pipes c)) in
          let long = map_length (λ (u : Wire). u.send_state) (wires_in n (wires_of w)) in
          let same = ap (λ m. length (wires_in m (wires_of w))) mine in
          omega (arith, short, long, same)

      take : pulls node.node.kind ≡ false → Moves F w n
      take no_pull =
          let t = takes w.options node.node (schemas_for w node) node.progress (heads_of w n node) (inputs_done w n) p.wire.input (length (given_at w n).inputs) next.0 node.node.kind (has_inputs F w known.facts n node at) within (fits.takes p node c there on) no_pull in
          claims p.wire.input t.0 (ap (λ m. claim_by w.options node.node (schemas_for w node) node.node.kind node.progress (heads_of w n node) (inputs_done w n) p.wire.input m) next.1 ∙ t.1)

    -- with no next morsel it claims of its own, or has finished
    without : ((p : Pipe) → Contains w.pipes p → p.wire.receiver ≡ n → p.in_phase ≡ true → has_next p ≡ false) → ((p : Pipe) → Contains w.pipes p → p.wire.receiver ≡ n → p.in_phase ≡ true → is_over p ≡ true) → Moves F w n
    without nothing over = by (claim_at w n 0 node) refl
      where
        no_next : (i : ℕ) → next_morsel (inputs_in_phase w n i) ≡ None
        no_next i =
            next_none (inputs_in_phase w n i) (λ p c.
            let k = was_kept (λ (x : Pipe). is_input n i x && x.in_phase) p w.pipes c in
            let parts = both_true (is_input n i p) p.in_phase k.1 in
            nothing p k.0 (same_number p.wire.receiver n (both_true (nat_eq p.wire.receiver n) (nat_eq p.wire.input i) parts.0).0) parts.1)

        later : (i : ℕ) → claim_at w n (suc i) node ≡ None
        later i = ap (λ m. claim_by w.options node.node (schemas_for w node) node.node.kind node.progress (heads_of w n node) (inputs_done w n) (suc i) m) (no_next (suc i)) ∙ no_more w.options node.node (schemas_for w node) node.progress (heads_of w n node) (inputs_done w n) i node.node.kind

        each : (e : claim_at w n 0 node ≡ None) (i : ℕ) → claim_at w n i node ≡ None
        each e zero = e
        each e (suc i) = later i

        all_over : inputs_over w n ≡ true
        all_over =
            list_all-in_order (λ (p q : Pipe). nat_lt p.wire.input q.wire.input) (λ (p : Pipe). not p.in_phase || is_over p) (kept (λ (p : Pipe). nat_eq p.wire.receiver n) w.pipes)
            ∙ list_all-kept (λ (p : Pipe). nat_eq p.wire.receiver n) (λ (p : Pipe). not p.in_phase || is_over p) w.pipes (λ p c e. implies p.in_phase (is_over p) (λ on. over p c (same_number p.wire.receiver n e) on))

        by : (o : Option Claim) → claim_at w n 0 node ≡ o → Moves F w n
        by None e = closes (inl (all_over, each e))
        by (Some c) e = claims 0 c e

    -- A ZIP
    -- a pipe stands at its input among those that come in
    pipe_at : (j : ℕ) → j < length (given_at w n).inputs → (z : Pipe) × Contains w.pipes z × (z.wire.receiver ≡ n) × (z.wire.input ≡ j) × (slice_get (pipes_in w n) j ≡ Some z)
    pipe_at j h =
        let long = map_length (λ (u : Wire). u.send_state) (wires_in n (wires_of w)) in
        let many = map_length (λ (x : Pipe). x.wire) (pipes_in w n) in
        let same = ap length (wires_into w n) in
        let z = place (pipes_in w n) j (omega (arith, h, long, many, same)) in
        let among = ordered (λ (p q : Pipe). nat_lt p.wire.input q.wire.input) z.0 (kept (λ (p : Pipe). nat_eq p.wire.receiver n) w.pipes) (contains_of (pipes_in w n) j z.0 z.1) in
        let k = was_kept (λ (p : Pipe). nat_eq p.wire.receiver n) z.0 w.pipes among in
        let wire : slice_get (wires_in n (wires_of w)) j ≡ Some z.0.wire = ap (λ ws. slice_get ws j) (sym (wires_into w n)) ∙ slice_get-map (λ (x : Pipe). x.wire) (pipes_in w n) j ∙ ap (option_map (λ (x : Pipe). x.wire)) z.1 in
        let u = input_at F w known.facts n j z.0.wire wire in
        (z.0, k.0, u.1, u.2, z.1)

    module _ (extend : Bool) (kind : node.node.kind ≡ zip_node extend) (long : length node.progress.stores ≡ length (given_at w n).inputs) (starved : (p : Pipe) → Contains w.pipes p → p.wire.receiver ≡ n → p.in_phase ≡ true → has_next p ≡ false → is_over p ≡ true)
        (refused : (p : Pipe) → Contains w.pipes p → p.wire.receiver ≡ n → p.in_phase ≡ true → has_next p ≡ true → wants_input w n node p.wire.input ≡ false) (p : Pipe) (c : Contains w.pipes p) (mine : p.wire.receiver ≡ n) (on : p.in_phase ≡ true) (has : has_next p ≡ true) where
      abbrev hs : List Head
      hs = heads_of w n node

      hs_are : hs ≡ heads_by extend node.progress.booked (stored_inputs (inputs_done w n) node.progress.stores)
      hs_are = heads_over w n node (zip_node extend) kind

      hs_long : length hs ≡ length (given_at w n).inputs
      hs_long = ap length hs_are ∙ heads_long extend node.progress.booked (inputs_done w n) node.progress.stores ∙ long

      -- what it doesn't want has a head that is ready, and so has each closed input
      refuses : (z : Pipe) → Contains w.pipes z → z.wire.receiver ≡ n → z.in_phase ≡ true → has_next z ≡ true → (not (is_ready_head extend (get_or hs z.wire.input no_head)) ≡ false) × (closed_unready extend hs (closed_inputs w n) ≡ false)
      refuses z cz m o h =
          let e = subst (λ kd. wants kd hs (closed_inputs w n) z.wire.input ≡ false) kind (refused z cz m o h) in
          neither (not (is_ready_head extend (get_or hs z.wire.input no_head))) (closed_unready extend hs (closed_inputs w n)) e

      ready_of : (b : Bool) → not b ≡ false → b ≡ true
      ready_of true e = refl
      ready_of false e = absurd (let no : true ≡ false = e in cc)

      ends : (is_ready p.wire.send_state ≡ true) × (is_ready p.wire.receive_state ≡ true)
      ends = both_true (is_ready p.wire.send_state) (is_ready p.wire.receive_state) ((known.facts.pipes p c).at_hand on).0

      -- no input of it is dropped: all that leaves it would be, or it would be blocked
      not_dropped : (z : Pipe) → Contains w.pipes z → z.wire.receiver ≡ n → z.is_dropped ≡ true → ⊥
      not_dropped z cz m gone = by ((known.facts.pipes z cz).why_dropped gone)
        where
          alone : multiplexes (slice_get w.nodes n) ≡ false
          alone = ap multiplexes at ∙ ap is_multiplexer kind

          out_dropped : (q : Pipe) → Contains w.pipes q → q.in_phase ≡ true → (q.is_dropped || is_done q.wire.receive_state) ≡ true → q.is_dropped ≡ true
          out_dropped q cq o e =
              let r = both_true (is_ready q.wire.send_state) (is_ready q.wire.receive_state) ((known.facts.pipes q cq).at_hand o).0 in
              of q.is_dropped e (ready_not_done q.wire.receive_state r.1)
            where
              of : (b : Bool) → (b || is_done q.wire.receive_state) ≡ true → is_done q.wire.receive_state ≡ false → b ≡ true
              of true x d = refl
              of false x d = absurd (let no : false ≡ true = sym d ∙ x in cc)

          counts_here : (q : Pipe) → q.wire.sender ≡ n → counts_for_sender w q ≡ true → q.in_phase ≡ true
          counts_here q s e = of q.in_phase (multiplexes (slice_get w.nodes q.wire.sender)) (ap (λ k. multiplexes (slice_get w.nodes k)) s ∙ alone) e
            where
              of : (a b : Bool) → b ≡ false → (a || (b && not (is_done q.wire.receive_state))) ≡ true → a ≡ true
              of true b f e = refl
              of false true f e = absurd (let no : true ≡ false = f in cc)
              of false false f e = absurd (let no : false ≡ true = e in cc)

          cut : (y : Pipe) → Contains w.pipes y → y.wire.sender ≡ n → y.in_phase ≡ true → ((q : Pipe) → Contains w.pipes q → q.wire.sender ≡ n → (q.is_dropped || is_done q.wire.receive_state) ≡ true) → is_cut_off w n ≡ true
          cut y cy sy oy each =
              cut_is w n
              ∙ and_true (list_any (goes_live w n) w.pipes) (list_all (λ q. not (goes_live w n q) || q.is_dropped) w.pipes)
              (list_any-contains (goes_live w n) y w.pipes cy (and_true (nat_eq y.wire.sender n) (counts_for_sender w y) (its_number y.wire.sender n sy) (or_first y.in_phase (multiplexes (slice_get w.nodes y.wire.sender) && not (is_done y.wire.receive_state)) oy)))
              (every (λ q. not (goes_live w n q) || q.is_dropped) w.pipes (λ q cq. implies (goes_live w n q) q.is_dropped (λ live.
              let parts = both_true (nat_eq q.wire.sender n) (counts_for_sender w q) live in
              let s = same_number q.wire.sender n parts.0 in
              out_dropped q cq (counts_here q s parts.1) (each q cq s))))

          by : HasNoUse w z.wire.receiver → ⊥
          by (inl (x, e, over)) =
              let is : node ≡ x = (let q : Some node ≡ Some x = sym at ∙ ap (slice_get w.nodes) (sym m) ∙ e in cc) in
              let no : false ≡ true = sym (ap (λ kd. is_over_slice kd node.progress.booked) kind) ∙ (λ i. is_over_slice (is i).node.kind (is i).progress.booked) ∙ over in cc
          by (inr (y, cy, sy, each)) = of y.in_phase refl
            where
              from_n : y.wire.sender ≡ n
              from_n = sy ∙ m

              there_y : slice_get w.nodes y.wire.sender ≡ Some node
              there_y = ap (slice_get w.nodes) from_n ∙ at

              of : (b : Bool) → y.in_phase ≡ b → ⊥
              of true o = let no : false ≡ true = sym whole ∙ cut y cy from_n o (λ q cq s. each q cq (s ∙ sym m)) in cc
              of false o =
                  let blocked = (known.outs.aside y cy o (node, there_y, working) (ap (λ k. multiplexes (slice_get w.nodes k)) from_n ∙ alone)).0 in
                  let not_ready = known.outs.gives y p node cy c there_y (both_true w.is_open (node.in_phase && not node.is_closed) working).0 (ap is_multiplexer kind) (ap (λ kd. only_takes kd node.progress.stage) kind) blocked (mine ∙ sym from_n) in
                  let no : false ≡ true = sym not_ready ∙ ((known.facts.pipes p c).at_hand on).0 in cc

      head_ready : (j : ℕ) → j < length hs → is_ready_head extend (get_or hs j no_head) ≡ true
      head_ready j h = of (pipe_at j (omega (arith, h, hs_long)))
        where
          of : (z : Pipe) × Contains w.pipes z × (z.wire.receiver ≡ n) × (z.wire.input ≡ j) × (slice_get (pipes_in w n) j ≡ Some z) → is_ready_head extend (get_or hs j no_head) ≡ true
          of (z, cz, m, i, there) = by (fits.zips p z node c cz (ap (slice_get w.nodes) mine ∙ at) (ap is_zip kind) on (m ∙ sym mine))
            where
              by_closed : (z.is_closed || is_done z.wire.send_state) ≡ true → is_ready_head extend (get_or hs j no_head) ≡ true
              by_closed e =
                  let here = get_or_from_slice_get (closed_inputs w n) j (z.is_closed || is_done z.wire.send_state) false (slice_get-map (λ (x : Pipe). x.is_closed || is_done x.wire.send_state) (pipes_in w n) j ∙ ap (option_map (λ (x : Pipe). x.is_closed || is_done x.wire.send_state)) there) in
                  closed_ready extend hs (closed_inputs w n) j (refuses p c mine on has).1 h (here ∙ e)

              by_over : z.in_phase ≡ true → is_over z ≡ true → is_ready_head extend (get_or hs j no_head) ≡ true
              by_over o over = of_dropped z.is_dropped refl
                where
                  of_dropped : (b : Bool) → z.is_dropped ≡ b → is_ready_head extend (get_or hs j no_head) ≡ true
                  of_dropped true d = absurd (not_dropped z cz m d)
                  of_dropped false d = by_closed (or_first z.is_closed (is_done z.wire.send_state) (both_true z.is_closed _ (sym (ap (λ b. b || (z.is_closed && nat_eq (waiting z) 0)) d) ∙ over)).0)

              by_phase : z.in_phase ≡ true → (b : Bool) → has_next z ≡ b → is_ready_head extend (get_or hs j no_head) ≡ true
              by_phase o true e = ap (λ k. is_ready_head extend (get_or hs k no_head)) (sym i) ∙ ready_of (is_ready_head extend (get_or hs z.wire.input no_head)) (refuses z cz m o e).0
              by_phase o false e = by_over o (starved z cz m o e)

              by : (z.in_phase ≡ true) ⊎ (is_done z.wire.send_state ≡ true) → is_ready_head extend (get_or hs j no_head) ≡ true
              by (inl o) = by_phase o (has_next z) refl
              by (inr d) = by_closed (or_second z.is_closed (is_done z.wire.send_state) d)

      zip_moves : Moves F w n
      zip_moves = claims 0 first_claim.0 (subst (λ kd. claim_by w.options node.node (schemas_for w node) kd node.progress hs (inputs_done w n) 0 (next_morsel (inputs_in_phase w n 0)) ≡ Some first_claim.0) (sym kind) first_claim.1)
        where
          h : p.wire.input < length (given_at w n).inputs
          h = within p c mine on has

          mine_at : slice_get (pipes_in w n) p.wire.input ≡ Some p
          mine_at = let z = pipe_at p.wire.input h in z.4 ∙ ap Some (known.facts.one_input z.0 p z.1 c (z.2 ∙ sym mine) z.3)

          open_input : get_or (inputs_done w n) p.wire.input false ≡ false
          open_input =
              get_or_from_slice_get (inputs_done w n) p.wire.input (is_done p.wire.send_state) false (slice_get-map (λ (x : Pipe). is_done x.wire.send_state) (pipes_in w n) p.wire.input ∙ ap (option_map (λ (x : Pipe). is_done x.wire.send_state)) mine_at)
              ∙ ready_not_done p.wire.send_state ends.0

          tests : (list_all (is_ready_head extend) hs && list_any (λ (x : Head). not (is_empty x.rest)) hs) ≡ true
          tests = zip_has_claim extend node.progress.booked (inputs_done w n) node.progress.stores hs hs_are p.wire.input (omega (arith, h, long)) open_input head_ready

          first_claim : (d : Claim) × (claim_by w.options node.node (schemas_for w node) (zip_node extend) node.progress hs (inputs_done w n) 0 (next_morsel (inputs_in_phase w n 0)) ≡ Some d)
          first_claim = exists_if (list_all (is_ready_head extend) hs && list_any (λ (x : Head). not (is_empty x.rest)) hs) _ tests

    module _ (stored : HasStores (length node.node.inputs) node.node.kind node.progress) where
      with_next : ((p : Pipe) → Contains w.pipes p → p.wire.receiver ≡ n → p.in_phase ≡ true → has_next p ≡ false → is_over p ≡ true) → (p : Pipe) → Contains w.pipes p → p.wire.receiver ≡ n → p.in_phase ≡ true → has_next p ≡ true → Moves F w n
      with_next starved p c mine on has = by_pulls (pulls node.node.kind) refl
        where
          by_wanting : (extend : Bool) → node.node.kind ≡ zip_node extend → pulls node.node.kind ≡ true → (b : Bool) → list_any (λ (q : Pipe). nat_eq q.wire.receiver n && (q.in_phase && (has_next q && wants_input w n node q.wire.input))) w.pipes ≡ b → Moves F w n
          by_wanting extend kind does true e =
              let q = some_at (λ (q : Pipe). nat_eq q.wire.receiver n && (q.in_phase && (has_next q && wants_input w n node q.wire.input))) w.pipes e in
              let a = both_true (nat_eq q.0.wire.receiver n) (q.0.in_phase && (has_next q.0 && wants_input w n node q.0.wire.input)) q.2 in
              let b = both_true q.0.in_phase (has_next q.0 && wants_input w n node q.0.wire.input) a.1 in
              let d = both_true (has_next q.0) (wants_input w n node q.0.wire.input) b.1 in
              pull q.0 q.1 (same_number q.0.wire.receiver n a.0) b.0 d.0 does d.1
          by_wanting extend kind does false e =
              zip_moves extend kind (subst (λ kd. HasStores (length (given_at w n).inputs) kd node.progress) kind (subst (λ k. HasStores k node.node.kind node.progress) (sym (inputs_given F w known.facts n node at)) stored)) starved
              (λ q cq m o h.
              let a = second_false (nat_eq q.wire.receiver n) (q.in_phase && (has_next q && wants_input w n node q.wire.input)) (none_passes (λ (q : Pipe). nat_eq q.wire.receiver n && (q.in_phase && (has_next q && wants_input w n node q.wire.input))) w.pipes e q cq) (its_number q.wire.receiver n m) in
              second_false (has_next q) (wants_input w n node q.wire.input) (second_false q.in_phase (has_next q && wants_input w n node q.wire.input) a o) h)
              p c mine on has

          by_zip : pulls node.node.kind ≡ true → (b : Bool) → is_zip node.node.kind ≡ b → Moves F w n
          by_zip does true k = let z = zip_kind node.node.kind k in by_wanting z.0 z.1 does (list_any (λ (q : Pipe). nat_eq q.wire.receiver n && (q.in_phase && (has_next q && wants_input w n node q.wire.input))) w.pipes) refl
          by_zip does false k = pull p c mine on has does (wants_plain node.node.kind (heads_of w n node) (closed_inputs w n) p.wire.input k ∙ does)

          by_pulls : (b : Bool) → pulls node.node.kind ≡ b → Moves F w n
          by_pulls true does = by_zip does (is_zip node.node.kind) refl
          by_pulls false no_pull = take p c mine on has no_pull

      over_of : (b : Bool) → not b ≡ false → b ≡ true
      over_of true e = refl
      over_of false e = absurd (let no : true ≡ false = e in cc)

      with_places : Moves F w n
      with_places = by_starving (list_any (λ (p : Pipe). nat_eq p.wire.receiver n && (p.in_phase && (not (has_next p) && not (is_over p)))) w.pipes) refl
        where
          by_having : ((p : Pipe) → Contains w.pipes p → p.wire.receiver ≡ n → p.in_phase ≡ true → has_next p ≡ false → is_over p ≡ true) → (b : Bool) → list_any (λ (p : Pipe). nat_eq p.wire.receiver n && (p.in_phase && has_next p)) w.pipes ≡ b → Moves F w n
          by_having starved true e =
              let q = some_at (λ (p : Pipe). nat_eq p.wire.receiver n && (p.in_phase && has_next p)) w.pipes e in
              let a = both_true (nat_eq q.0.wire.receiver n) (q.0.in_phase && has_next q.0) q.2 in
              let b = both_true q.0.in_phase (has_next q.0) a.1 in
              with_next starved q.0 q.1 (same_number q.0.wire.receiver n a.0) b.0 b.1
          by_having starved false e =
              without (λ p c m o. nothing p c m o) (λ p c m o. starved p c m o (nothing p c m o))
            where
              nothing : (p : Pipe) → Contains w.pipes p → p.wire.receiver ≡ n → p.in_phase ≡ true → has_next p ≡ false
              nothing p c m o = second_false p.in_phase (has_next p) (second_false (nat_eq p.wire.receiver n) (p.in_phase && has_next p) (none_passes (λ (p : Pipe). nat_eq p.wire.receiver n && (p.in_phase && has_next p)) w.pipes e p c) (its_number p.wire.receiver n m)) o

          by_starving : (b : Bool) → list_any (λ (p : Pipe). nat_eq p.wire.receiver n && (p.in_phase && (not (has_next p) && not (is_over p)))) w.pipes ≡ b → Moves F w n
          by_starving true e =
              let q = some_at (λ (p : Pipe). nat_eq p.wire.receiver n && (p.in_phase && (not (has_next p) && not (is_over p)))) w.pipes e in
              let a = both_true (nat_eq q.0.wire.receiver n) (q.0.in_phase && (not (has_next q.0) && not (is_over q.0))) q.2 in
              let b = both_true q.0.in_phase (not (has_next q.0) && not (is_over q.0)) a.1 in
              let d = both_true (not (has_next q.0)) (not (is_over q.0)) b.1 in
              inr (inr (inl (q.0, same_number q.0.wire.receiver n a.0, (q.1, b.0, not_true (has_next q.0) d.0, not_true (is_over q.0) d.1))))
          by_starving false e =
              by_having (λ p c m o h.
              let a = second_false (nat_eq p.wire.receiver n) (p.in_phase && (not (has_next p) && not (is_over p))) (none_passes (λ (p : Pipe). nat_eq p.wire.receiver n && (p.in_phase && (not (has_next p) && not (is_over p)))) w.pipes e p c) (its_number p.wire.receiver n m) in
              over_of (is_over p) (second_false (not (has_next p)) (not (is_over p)) (second_false p.in_phase (not (has_next p) && not (is_over p)) a o) (not_false (has_next p) h)))
              (list_any (λ (p : Pipe). nat_eq p.wire.receiver n && (p.in_phase && has_next p)) w.pipes) refl

  -- an output without a place is full
  full : (q : Pipe) → Contains (live_outs w n) q → has_place w q ≡ false → Moves F w n
  full q c e =
      let k = was_kept (counts_for_sender w) q (pipes_out w n) c in
      let s = was_kept (λ (p : Pipe). nat_eq p.wire.sender n) q w.pipes (ordered (λ (p r : Pipe). nat_lt p.wire.port r.wire.port) q (kept (λ (p : Pipe). nat_eq p.wire.sender n) w.pipes) k.0) in
      let parts = neither q.is_dropped (not (is_bounded w q) || nat_lt (places_taken w q) (room w)) e in
      let bound = (neither (not (is_bounded w q)) (nat_lt (places_taken w q) (room w)) parts.1).0 in
      inr (inr (inr (q, same_number q.wire.sender n s.1, (s.0, in_it q.in_phase (multiplexes (slice_get w.nodes q.wire.sender)) bound k.1, e))))
    where
      in_it : (a b : Bool) → not (not b) ≡ false → (a || (b && not (is_done q.wire.receive_state))) ≡ true → a ≡ true
      in_it true b f e = refl
      in_it false true f e = absurd (let no : true ≡ false = f in cc)
      in_it false false f e = absurd (let no : false ≡ true = e in cc)

  pub moves : HasStores (length node.node.inputs) node.node.kind node.progress → Moves F w n
  moves stored = by (is_cut_off w n) refl
    where
      by_places : is_cut_off w n ≡ false → (b : Bool) → list_all (has_place w) (live_outs w n) ≡ b → Moves F w n
      by_places whole true e = with_places whole e stored
      by_places whole false e = let q = some_fails (has_place w) (live_outs w n) e in full q.0 q.1 q.2

      by : (b : Bool) → is_cut_off w n ≡ b → Moves F w n
      by true cut = closes (inr cut)
      by false whole = by_places whole (list_all (has_place w) (live_outs w n)) refl
