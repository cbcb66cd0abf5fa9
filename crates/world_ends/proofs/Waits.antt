-- While a phase has something to do and nothing is claimed or pulled, one of its nodes can't close, so that the phase doesn't end.
use Rattle.std.proofs.Common.{◌≡◌, ◌≢◌, ℕ, zero, suc, ◌<◌, ◌-◌, ◌≤◌, ◌⊎◌, Bool, true, false, cond, List, [], ◌∷◌, length, Option, None, Some, refl, sym, ap, subst, ◌∙◌, inl, inr, arith}
use Rattle.std.specs.Prelude.{Contains, IsTrue, drop, get_or, is_some, map, nat_eq, nat_lt, not, slice_get, ◌&&◌, ◌||◌}
use Rattle.std.specs.List.{AllByRecursion, count_by, filter as kept, list_all}
use Rattle.std.proofs.lemmas.Bool.{cases_eq}
use Rattle.std.proofs.lemmas.Bool.Decides.{nat_tests}
use Rattle.std.proofs.lemmas.Option.{slice_get-get_or}
use Rattle.ps_frame.specs.Functions.{Functions}
use Rattle.ps_frame.specs.Tables.{Row}
use Rattle.ps_meaning.specs.Shape.{PhysicalNode}
use Rattle.ps_ports.specs.Ports.{is_done, is_ready}
use Rattle.ps_ports.specs.Wires.{given_to}
use Rattle.ps_turns.specs.Claims.{claim_by}
use Rattle.ps_turns.specs.Progress.{Progress}
use Rattle.ps_turns.specs.Tasks.{Piece}
use Rattle.ps_world.specs.Claims.{claim_at, inputs_in_phase, next_morsel}
use Rattle.ps_world.specs.Closing.{HasFinished, after_close}
use Rattle.ps_world.specs.Facts.{Facts, IsAwaited}
use Rattle.ps_world.specs.Step.{Steps}
use Rattle.ps_world.specs.Updates.{given_at}
use Rattle.ps_world.specs.World.{Node, Pipe, Record, World, claimed, closed, counts_for_sender, ended, handed_in, heads_of, inputs_done, is_cut_off, is_drained, is_over, multiplexes, opened, pipes_in, pulled, running, schemas_for, waiting, wires_of}
use Rattle.world_claims.proofs.Steps.{map_map}
use Rattle.world_facts.proofs.CutOff.{both_true, cut_all, cut_some, its_number}
use Rattle.world_facts.proofs.OpeningFacts.{count_first, counts_one}
use Rattle.world_facts.proofs.Slots.{all_at, set_other}
use Rattle.world_laws.proofs.Agree.{from_map}
use Rattle.world_laws.proofs.InOrder.{contains_kept, contains_map, list_all-in_order, none_in_nil}
use Rattle.world_measure.specs.Driving.{Idles, idle_here, idles_on}
use Rattle.world_measure.specs.Runs.{opens}
use Rattle.world_measure.specs.Turns.{takes}
use Rattle.world_ends.proofs.Back.{dones_are, heads_from, heads_over}
use Rattle.world_ends.proofs.Reasons.{ClaimsOwn}
use Rattle.world_ends.proofs.Tests.{neither, ready_not_done}

-- which inputs are done, and the heads of a zip that follow
abbrev pub dones : World → ℕ → List Bool
dones w n = map is_done (given_at w n).inputs

abbrev pub MayClaim : World → List Bool → PhysicalNode → Progress → Type 0
MayClaim w ds p a = ClaimsOwn w.options p p.kind a (heads_from ds p.kind a) ds

-- what a node of the phase has to do
pub data Busy (w : World) (n : ℕ) (node : Node) : Type 0 where
  may_claim : MayClaim w (dones w n) node.node node.progress → Busy w n node
  may_take : (x : Pipe) → Contains w.pipes x → x.wire.receiver ≡ n → x.in_phase ≡ true → is_drained x ≡ false → Busy w n node

-- a later world of the phase, in which nothing was taken and this node isn't closed
pub record Waits (w x : World) (n : ℕ) (node : Node) : Type 0 where
  pub at : slice_get x.nodes n ≡ Some node
  pub outs : x.outs ≡ []
  pub is_open : x.is_open ≡ true
  pub options : x.options ≡ w.options
  pub shut : Pipe → Bool
  pub pipes : x.pipes ≡ map (λ (p : Pipe). record p { is_closed = shut p }) w.pipes

-- LISTS
map_same : {A B : Type 0} (g h : A → B) (xs : List A) → ((x : A) → g x ≡ h x) → map g xs ≡ map h xs
map_same g h [] e = refl
map_same g h (x ∷ xs) e = let a = e x in let rest = map_same g h xs e in λ i. a i ∷ rest i

as_it_is : (ps : List Pipe) → ps ≡ map (λ (p : Pipe). record p { is_closed = p.is_closed }) ps
as_it_is [] = refl
as_it_is (p ∷ ps) = ap (λ qs. p ∷ qs) (as_it_is ps)

some_counts : {A : Type 0} (t : A → Bool) (xs : List A) (k : ℕ) (y : A) → slice_get xs k ≡ Some y → t y ≡ true → 1 ≤ count_by t (drop k xs)
some_counts t [] k y e h = absurd (let no : None ≡ Some y = e in cc)
some_counts t (x ∷ xs) zero y e h =
    let is : x ≡ y = (let q : Some x ≡ Some y = e in cc) in
    let first = count_first t x xs in
    let one = counts_one (t x) (ap t is ∙ h) in
    omega (arith, first, one)
some_counts t (x ∷ xs) (suc k) y e h = some_counts t xs k y e h

each_node : (P : Node → Type 0) (xs : List Node) (m : ℕ) (x : Node) → AllByRecursion P xs → slice_get xs m ≡ Some x → P x
each_node P [] m x all e = absurd (let no : None ≡ Some x = e in cc)
each_node P (y ∷ ys) zero x all e = let is : y ≡ x = (let q : Some y ≡ Some x = e in cc) in subst P is all.0
each_node P (y ∷ ys) (suc m) x all e = each_node P ys m x all.1 e

-- TESTS
second_of : (a b : Bool) → (a || b) ≡ true → a ≡ false → b ≡ true
second_of true b e h = absurd (let no : true ≡ false = h in cc)
second_of false b e h = e

is_left : (n m : ℕ) → nat_eq (n - m) 0 ≡ false → m < n
is_left n m e = grind (arith, nat_tests)

is_zero : (n : ℕ) → nat_eq n 0 ≡ true → n ≡ 0
is_zero n e = grind (arith, nat_tests)

-- what counts for its sender, and is done at its reader, stands in the phase
counts_in_phase : (a m d : Bool) → d ≡ true → (a || (m && not d)) ≡ true → a ≡ true
counts_in_phase true m d e h = refl
counts_in_phase false true true e h = absurd (let no : false ≡ true = h in cc)
counts_in_phase false true false e h = absurd (let no : false ≡ true = e in cc)
counts_in_phase false false d e h = absurd (let no : false ≡ true = h in cc)

module _ (F : Functions) (w : World) (f : Facts F w) (run : w.ending ≡ running) (none : w.outs ≡ []) (gone_done : (p : Pipe) → Contains w.pipes p → IsTrue p.is_dropped → IsTrue (is_done p.wire.receive_state)) (n : ℕ) (node : Node) (busy : Busy w n node) where
  module _ (x : World) (h : Waits w x n node) where
    abbrev beside : Pipe → Pipe
    beside p = record p { is_closed = h.shut p }

    came : (q : Pipe) → Contains x.pipes q → (p : Pipe) × Contains w.pipes p × (beside p ≡ q)
    came q c = from_map beside q w.pipes (subst (λ ps. Contains ps q) h.pipes c)

    same_wires : wires_of x ≡ wires_of w
    same_wires = ap (map (λ (p : Pipe). p.wire)) h.pipes ∙ map_map beside (λ (p : Pipe). p.wire) w.pipes

    -- no node is cut off
    not_cut : is_cut_off x n ≡ true → ⊥
    not_cut cut =
        let q = cut_some x n cut in
        let gone = cut_all x n cut q.0 q.1 q.2 q.3 in
        let p = came q.0 q.1 in
        let done = gone_done p.0 p.1 (ap (λ (y : Pipe). y.is_dropped) p.2 ∙ gone) in
        let on = counts_in_phase p.0.in_phase (multiplexes (slice_get x.nodes p.0.wire.sender)) (is_done p.0.wire.receive_state) done (ap (counts_for_sender x) p.2 ∙ q.3) in
        let ends = both_true (is_ready p.0.wire.send_state) (is_ready p.0.wire.receive_state) ((f.pipes p.0 p.1).at_hand on).0 in
        let no : false ≡ true = sym (ready_not_done p.0.wire.receive_state ends.1) ∙ done in cc

    -- it has a claim
    claims : MayClaim w (dones w n) node.node node.progress → claim_at x n 0 node ≡ None → ⊥
    claims own nothing =
        let next = next_morsel (inputs_in_phase x n 0) in
        let c = own (schemas_for x node) next in
        let ds : inputs_done x n ≡ dones w n = dones_are x n ∙ ap (λ ws. map is_done (given_to n ws).inputs) same_wires in
        let hs : heads_of x n node ≡ heads_from (dones w n) node.node.kind node.progress = heads_over x n node node.node.kind refl ∙ ap (λ xs. heads_from xs node.node.kind node.progress) ds in
        let options = h.options in
        let same : claim_at x n 0 node ≡ claim_by w.options node.node (schemas_for x node) node.node.kind node.progress (heads_from (dones w n) node.node.kind node.progress) (dones w n) 0 next =
        λ i. claim_by (options i) node.node (schemas_for x node) node.node.kind node.progress (hs i) (ds i) 0 next in
        let no : None ≡ Some c.0 = sym nothing ∙ same ∙ c.1 in cc

    -- an input holds what wasn't taken
    holds : (p : Pipe) → Contains w.pipes p → p.wire.receiver ≡ n → p.in_phase ≡ true → is_drained p ≡ false → list_all (λ (q : Pipe). not q.in_phase || is_over q) (pipes_in x n) ≡ true → ⊥
    holds p c at on full over = of_slot (slice_get p.got p.next) refl
      where
        parts : (p.is_dropped ≡ false) × (nat_eq (length p.got - p.next) 0 ≡ false)
        parts = neither p.is_dropped (nat_eq (length p.got - p.next) 0) full

        there : Contains x.pipes (beside p)
        there = subst (λ ps. Contains ps (beside p)) (sym h.pipes) (contains_map beside p w.pipes c)

        all : list_all (λ (q : Pipe). not q.in_phase || is_over q) (kept (λ (q : Pipe). nat_eq q.wire.receiver n) x.pipes) ≡ true
        all = sym (list_all-in_order (λ (p q : Pipe). nat_lt p.wire.input q.wire.input) (λ (q : Pipe). not q.in_phase || is_over q) (kept (λ (q : Pipe). nat_eq q.wire.receiver n) x.pipes)) ∙ over

        here : (not p.in_phase || is_over (beside p)) ≡ true
        here = all_at (λ (q : Pipe). not q.in_phase || is_over q) (kept (λ (q : Pipe). nat_eq q.wire.receiver n) x.pipes) (beside p) all (contains_kept (λ (q : Pipe). nat_eq q.wire.receiver n) (beside p) x.pipes there (its_number p.wire.receiver n at))

        none_waits : count_by (λ (slot : Option (List Row)). is_some slot) (drop p.next p.got) ≡ 0
        none_waits =
            let done = second_of (not p.in_phase) (is_over (beside p)) here (ap not on) in
            let empty = both_true (h.shut p) (nat_eq (waiting (beside p)) 0) (second_of p.is_dropped (h.shut p && nat_eq (waiting (beside p)) 0) done parts.0) in
            sym (ap (λ b. cond b 0 (count_by (λ (slot : Option (List Row)). is_some slot) (drop p.next p.got))) parts.0) ∙ is_zero (waiting (beside p)) empty.1

        of_slot : (o : Option (Option (List Row))) → slice_get p.got p.next ≡ o → ⊥
        of_slot None e = let some = slice_get-get_or p.got p.next None (is_left (length p.got) p.next parts.1) in let no : None ≡ Some (get_or p.got p.next None) = sym e ∙ some in cc
        of_slot (Some (Some rs)) e = let one = some_counts (λ (slot : Option (List Row)). is_some slot) p.got p.next (Some rs) e refl in let zeros = none_waits in absurd (omega arith)
        of_slot (Some None) e = by ((f.pipes p c).expected run p.next e)
          where
            by : IsTrue p.is_dropped ⊎ IsTrue p.in_phase × IsAwaited w p.wire.sender p.next → ⊥
            by (inl gone) = let no : false ≡ true = sym parts.0 ∙ gone in cc
            by (inr (ph, q)) = none_in_nil q.0 (subst (λ xs. Contains xs q.0) none q.1)

    unfinished : HasFinished x n node → ⊥
    unfinished (inr cut) = not_cut cut
    unfinished (inl (over, nothing)) = by busy
      where
        by : Busy w n node → ⊥
        by (may_claim own) = claims own (nothing 0)
        by (may_take p c at on full) = holds p c at on full over

    -- another node closes
    closed_pipe : (b : Bool) (p : Pipe) → cond b (record (beside p) { is_closed = true }) (beside p) ≡ record p { is_closed = cond b true (h.shut p) }
    closed_pipe true p = refl
    closed_pipe false p = refl

    other_closes : (m : ℕ) (y : Node) → n ≢ m → Waits w (after_close x m y) n node
    other_closes m y other =
        record {
          at = set_other x.nodes m n (record y { is_closed = true }) other ∙ h.at;
          outs = h.outs;
          is_open = h.is_open;
          options = h.options;
          shut = λ p. cond (nat_eq p.wire.sender m && p.in_phase) true (h.shut p);
          pipes =
              ap (map (λ (p : Pipe). cond (nat_eq p.wire.sender m && p.in_phase) (record p { is_closed = true }) p)) h.pipes
              ∙ map_map beside (λ (p : Pipe). cond (nat_eq p.wire.sender m && p.in_phase) (record p { is_closed = true }) p) w.pipes
              ∙ map_same (λ (p : Pipe). cond (nat_eq p.wire.sender m && p.in_phase) (record (beside p) { is_closed = true }) (beside p)) (λ (p : Pipe). record p { is_closed = cond (nat_eq p.wire.sender m && p.in_phase) true (h.shut p) }) w.pipes
              (λ p. closed_pipe (nat_eq p.wire.sender m && p.in_phase) p);
        }

    one_node : (y : Node) (m : ℕ) → m ≡ n → slice_get x.nodes m ≡ Some y → HasFinished x m y → ⊥
    one_node y m same at finished =
        let is : node ≡ y = (let q : Some node ≡ Some y = sym h.at ∙ ap (slice_get x.nodes) (sym same) ∙ at in cc) in
        unfinished (subst (λ z. HasFinished x n z) (sym is) (subst (λ k. HasFinished x k y) same finished))

    closes : (m : ℕ) (v : World) → Steps F x (closed m) v → Waits w v n node
    closes m v s = by (cases_eq m n)
      where
        by : (m ≡ n) ⊎ (m ≢ n) → Waits w v n node
        by (inl same) = absurd (one_node s.0 m same s.1.0 s.3)
        by (inr other) = subst (λ z. Waits w z n node) (sym s.4) (other_closes m s.0 (λ e. other (sym e)))

    pub stays_open : (on : node.in_phase ≡ true) → node.is_closed ≡ false → (phase : ℕ) (v : World) → Steps F x (ended phase) v → ⊥
    stays_open on left phase v s =
        let all_closed = each_node (λ (y : Node). IsTrue y.in_phase → IsTrue y.is_closed) x.nodes n node s.3 h.at in
        let no : false ≡ true = sym left ∙ all_closed on in cc

  module _ (at : slice_get w.nodes n ≡ Some node) (is_open : w.is_open ≡ true) (on : node.in_phase ≡ true) (left : node.is_closed ≡ false) where
    begins : Waits w w n node
    begins = record { at = at; outs = none; is_open = is_open; options = refl; shut = λ p. p.is_closed; pipes = as_it_is w.pipes }

    one_on : (y v : World) (r : Record) → Waits w y n node → opens r ≡ false → takes r ≡ false → Steps F y r v → Waits w v n node
    one_on y v (opened phase) h inside idle s = absurd (let no : true ≡ false = inside in cc)
    one_on y v (claimed m i number worker) h inside idle s = absurd (let no : true ≡ false = idle in cc)
    one_on y v (pulled m i number) h inside idle s = absurd (let no : true ≡ false = idle in cc)
    one_on y v (handed_in m i number worker handed) h inside idle s = absurd (none_in_nil s.0 (subst (λ (xs : List Piece). Contains xs s.0) h.outs s.1))
    one_on y v (closed m) h inside idle s = closes y h m v s
    one_on y v (ended phase) h inside idle s = absurd (stays_open y h on left phase v s)

    pub still : (x : World) → Idles F w x → Waits w x n node
    still x (idle_here v e) = subst (λ z. Waits w z n node) (sym e) begins
    still x (idles_on y v r before inside idle s) = one_on y v r (still y before) inside idle s
