-- A claim keeps the numbers and what outputs say, and fits what it names.
use Rattle.std.proofs.Common.{◌≡◌, ◌≢◌, ℕ, zero, suc, ◌<◌, ◌+◌, ◌⊎◌, Bool, true, false, cond, List, [], ◌∷◌, ◌++◌, length, Option, Some, None, refl, sym, ap, subst, ◌∙◌, inl, inr, arith}
use Rattle.std.specs.Prelude.{Contains, IsTrue, get_or, map, nat_eq, nat_lt, not, option_map, slice_get, slice_set, ◌&&◌}
use Rattle.std.specs.List.{filter as kept}
use Rattle.std.proofs.lemmas.Bool.{cases_eq}
use Rattle.std.proofs.lemmas.Bool.Decides.{nat_tests}
use Rattle.std.proofs.lemmas.Option.{get_or_from_slice_get, slice_get-get_or, slice_get-map, slice_get_within}
use Rattle.ps_frame.specs.Functions.{Functions}
use Rattle.ps_frame.specs.Sorting.{in_order, insert_in_order}
use Rattle.ps_frame.specs.Tables.{Row}
use Rattle.ps_meaning.specs.Shape.{PhysicalKind, equi_join, filter_node, ordered_union, select_node, simple_projection, stream_map, streaming_slice, with_row_index}
use Rattle.ps_meaning.specs.Sound.{HasInputs}
use Rattle.ps_meaning.specs.Steps.{JoinStep}
use Rattle.ps_ports.specs.Ports.{is_done, is_ready}
use Rattle.ps_ports.specs.Wires.{Wire, wires_in}
use Rattle.ps_ports.specs.declared.port_state.PortState.{PortState}
use Rattle.ps_ports.specs.declared.port_state.PortState.TheVariants as port
use Rattle.ps_turns.specs.Claims.{Claim, Next}
use Rattle.ps_turns.specs.Progress.{Progress}
use Rattle.ps_world.specs.Claims.{after_claim, before_drops, claim_at, inputs_in_phase, next_morsel}
use Rattle.ps_world.specs.Facts.{Facts, Joins, is_filled_by, is_over_slice, joins_of, keeps_one}
use Rattle.ps_world.specs.Fits.{FitsWhole}
use Rattle.ps_world.specs.Pipes.{change_pipes, dropped_pipe, is_input, taken, with_place}
use Rattle.ps_world.specs.Updates.{given_at}
use Rattle.ps_world.specs.World.{Node, Pipe, World, bounded_out, counts_for_sender, has_next, heads_of, inputs_done, is_bounded, morsel_at, multiplexes, pipes_in, schemas_for, wires_of}
use Rattle.world_facts.proofs.CutOff.{and_true, both_true}
use Rattle.world_facts.proofs.Placing.{has_inputs, inputs_given, map_length}
use Rattle.world_facts.proofs.Slots.{set_here, set_other}
use Rattle.world_facts.proofs.Wired.{input_at, input_place}
use Rattle.world_laws.proofs.Agree.{from_map}
use Rattle.world_laws.proofs.InOrder.{contains_first, contains_later, contains_map}
use Rattle.world_laws.proofs.PassingPorts.{same_number, was_kept}
use Rattle.world_claims.proofs.Beside.{set_from}
use Rattle.world_claims.proofs.Counting.{last_by, numbered_at, same_counts}
use Rattle.world_claims.proofs.Forms.{Form, KeepsTaken, as_it_was, claims_single, form, gives_last, gives_own, gives_union, keeps_slot, passes_on, stays_over, with_first}
use Rattle.world_claims.proofs.Outs.{Marks, outs_keep, same_marks}
use Rattle.world_claims.proofs.Steps.{drops_fit, drops_number, map_map}
use Rattle.world_claims.specs.Numbering.{IsNumbered, NumberedAt, OutsFit, counts_own, has_given_last, keeps_slots, last_given, only_takes, passes_numbers}

itself : (n m : ℕ) → n ≡ m → nat_eq n m ≡ true
itself n m e = grind (arith, nat_tests)

apart : (n m : ℕ) → n ≢ m → nat_eq n m ≡ false
apart n m e = grind (arith, nat_tests)

-- THE PIPES OF A CLAIM
module _ (w : World) (n i : ℕ) where
  abbrev take : Bool → Pipe → Pipe
  take t x = cond t (cond (is_input n i x) (taken x) x) x

  abbrev reserve : Bool → Pipe → Pipe
  reserve t x = cond (bounded_out w n (take t x)) (with_place (take t x)) (take t x)

  abbrev pub change : Bool → Bool → Pipe → Pipe
  change t d x = cond d (cond (is_input n i (reserve t x)) (dropped_pipe (reserve t x)) (reserve t x)) (reserve t x)

  abbrev pub pipes_by : Bool → Bool → List Pipe
  pipes_by t d =
      let taken_pipes = cond t (change_pipes (is_input n i) taken w.pipes) w.pipes in
      let reserved = change_pipes (bounded_out w n) with_place taken_pipes in
      cond d (change_pipes (is_input n i) dropped_pipe reserved) reserved

  pub pipes_are : (t d : Bool) → pipes_by t d ≡ map (change t d) w.pipes
  pipes_are true true = ap (map (λ y. cond (is_input n i y) (dropped_pipe y) y)) (map_map (take true) (λ y. cond (bounded_out w n y) (with_place y) y) w.pipes) ∙ map_map (reserve true) (λ y. cond (is_input n i y) (dropped_pipe y) y) w.pipes
  pipes_are true false = map_map (take true) (λ y. cond (bounded_out w n y) (with_place y) y) w.pipes
  pipes_are false true = map_map (reserve false) (λ y. cond (is_input n i y) (dropped_pipe y) y) w.pipes
  pipes_are false false = refl

  -- what a change leaves
  pub record Leaves (x y : Pipe) : Type 0 where
    pub wire : y.wire ≡ x.wire
    pub in_phase : y.in_phase ≡ x.in_phase
    pub lost : y.is_dropped ≡ false → x.is_dropped ≡ false

  if_taken : (b : Bool) (x : Pipe) → Leaves x (cond b (taken x) x) × (length (cond b (taken x) x).got ≡ length x.got) × (bounded_out w n (cond b (taken x) x) ≡ bounded_out w n x) × ((cond b (taken x) x).next ≡ x.next + cond b 1 0)
  if_taken true x = (record { wire = refl; in_phase = refl; lost = λ d. d }, refl, refl, refl)
  if_taken false x = (record { wire = refl; in_phase = refl; lost = λ d. d }, refl, refl, omega arith)

  take_is : (t : Bool) (x : Pipe) → Leaves x (take t x) × (length (take t x).got ≡ length x.got) × (bounded_out w n (take t x) ≡ bounded_out w n x) × ((take t x).next ≡ x.next + cond (t && is_input n i x) 1 0)
  take_is true x = if_taken (is_input n i x) x
  take_is false x = (record { wire = refl; in_phase = refl; lost = λ d. d }, refl, refl, omega arith)

  length_one : {A : Type 0} (xs : List A) (x : A) → length (xs ++ x ∷ []) ≡ length xs + 1
  length_one [] x = refl
  length_one (y ∷ ys) x = let h = length_one ys x in omega arith

  if_placed : (b : Bool) (x : Pipe) → Leaves x (cond b (with_place x) x) × (length (cond b (with_place x) x).got ≡ length x.got + cond b 1 0) × ((cond b (with_place x) x).next ≡ x.next)
  if_placed true x = (record { wire = refl; in_phase = refl; lost = λ d. d }, length_one x.got None, refl)
  if_placed false x = (record { wire = refl; in_phase = refl; lost = λ d. d }, omega arith, refl)

  if_dropped : (b : Bool) (x : Pipe) → Leaves x (cond b (dropped_pipe x) x) × (length (cond b (dropped_pipe x) x).got ≡ length x.got) × ((cond b (dropped_pipe x) x).next ≡ x.next)
  if_dropped true x = (record { wire = refl; in_phase = refl; lost = λ d. absurd (let no : true ≡ false = d in cc) }, refl, refl)
  if_dropped false x = (record { wire = refl; in_phase = refl; lost = λ d. d }, refl, refl)

  onward : (x y z : Pipe) → Leaves x y → Leaves y z → Leaves x z
  onward x y z a b = record { wire = b.wire ∙ a.wire; in_phase = b.in_phase ∙ a.in_phase; lost = λ d. a.lost (b.lost d) }

  reserve_is : (t : Bool) (x : Pipe) → Leaves x (reserve t x) × (length (reserve t x).got ≡ length x.got + cond (bounded_out w n x) 1 0) × ((reserve t x).next ≡ x.next + cond (t && is_input n i x) 1 0)
  reserve_is t x =
      let a = take_is t x in
      let b = if_placed (bounded_out w n (take t x)) (take t x) in
      let out = ap (λ b. cond {A = ℕ} b 1 0) a.2 in
      let long = b.1 in
      let short = a.1 in
      (onward x (take t x) (reserve t x) a.0 b.0, omega (arith, long, short, out), b.2 ∙ a.3)

  pub change_is : (t d : Bool) (x : Pipe) → Leaves x (change t d x) × (length (change t d x).got ≡ length x.got + cond (bounded_out w n x) 1 0) × ((change t d x).next ≡ x.next + cond (t && is_input n i x) 1 0)
  change_is t true x =
      let a = reserve_is t x in
      let b = if_dropped (is_input n i (reserve t x)) (reserve t x) in
      (onward x (reserve t x) (change t true x) a.0 b.0, b.1 ∙ a.1, b.2 ∙ a.2)
  change_is t false x = reserve_is t x

  not_out : (x : Pipe) → x.wire.sender ≢ n → bounded_out w n x ≡ false
  not_out x s = ap (λ b. b && (x.in_phase && (is_bounded w x && not x.is_dropped))) (apart x.wire.sender n s)

  not_in : (x : Pipe) → x.wire.receiver ≢ n → is_input n i x ≡ false
  not_in x r = ap (λ b. b && nat_eq x.wire.input i) (apart x.wire.receiver n r)

  other_input : (x : Pipe) → x.wire.input ≢ i → is_input n i x ≡ false
  other_input x r = by (nat_eq x.wire.receiver n)
    where
      none : nat_eq x.wire.input i ≡ false
      none = apart x.wire.input i r

      by : (b : Bool) → (b && nat_eq x.wire.input i) ≡ false
      by true = none
      by false = refl

  this_input : (x : Pipe) → x.wire.receiver ≡ n → x.wire.input ≡ i → is_input n i x ≡ true
  this_input x r k = and_true (nat_eq x.wire.receiver n) (nat_eq x.wire.input i) (itself x.wire.receiver n r) (itself x.wire.input i k)

-- SLOTS
slot_here : {A : Type 0} (xs : List (List A)) (i : ℕ) (x : A) → i < length xs → get_or (slice_set xs i (get_or xs i [] ++ x ∷ [])) i [] ≡ get_or xs i [] ++ x ∷ []
slot_here [] i x h = absurd (omega arith)
slot_here (y ∷ ys) zero x h = refl
slot_here (y ∷ ys) (suc i) x h = slot_here ys i x (omega arith)

slot_other : {A : Type 0} (xs : List (List A)) (i j : ℕ) (x : List A) → j ≢ i → get_or (slice_set xs i x) j [] ≡ get_or xs j []
slot_other [] i j x h = refl
slot_other (y ∷ ys) zero zero x h = absurd (h refl)
slot_other (y ∷ ys) zero (suc j) x h = refl
slot_other (y ∷ ys) (suc i) zero x h = refl
slot_other (y ∷ ys) (suc i) (suc j) x h = slot_other ys i j x (λ e. h (ap suc e))

slots_long : {A : Type 0} (xs : List (List A)) (i : ℕ) (x : List A) → length (slice_set xs i x) ≡ length xs
slots_long [] i x = refl
slots_long (y ∷ ys) zero x = refl
slots_long (y ∷ ys) (suc i) x = ap suc (slots_long ys i x)

one_more : {A : Type 0} (xs : List A) (x : A) → length (xs ++ x ∷ []) ≡ length xs + 1
one_more [] x = refl
one_more (y ∷ ys) x = let h = one_more ys x in omega arith

at_end : {A : Type 0} (xs : List A) (x : A) (k : ℕ) → k ≡ length xs → slice_get (xs ++ x ∷ []) k ≡ Some x
at_end [] x zero e = refl
at_end [] x (suc k) e = absurd (omega arith)
at_end (y ∷ ys) x zero e = absurd (omega arith)
at_end (y ∷ ys) x (suc k) e = at_end ys x k (omega arith)

past_end : {A : Type 0} (xs : List A) (k : ℕ) → k ≡ length xs → slice_get xs k ≡ None
past_end [] k e = refl
past_end (y ∷ ys) zero e = absurd (omega arith)
past_end (y ∷ ys) (suc k) e = past_end ys k (omega arith)

before_end : {A : Type 0} (xs : List A) (x y : A) (k : ℕ) → slice_get xs k ≡ Some y → slice_get (xs ++ x ∷ []) k ≡ Some y
before_end [] x y k e = absurd (let no : None ≡ Some y = e in cc)
before_end (z ∷ zs) x y zero e = e
before_end (z ∷ zs) x y (suc k) e = before_end zs x y k e

-- THE NEXT MORSEL
some_of : (o : Option (List Row)) (k : ℕ) (m : ℕ × List Row) → option_map {U = ℕ × List Row} (λ rs. (k, rs)) o ≡ Some m → m.0 ≡ k
some_of None k m e = absurd (let no : None ≡ Some m = e in cc)
some_of (Some rs) k m e = let q : Some (k, rs) ≡ Some m = e in let is : (k, rs) ≡ m = cc in ap (λ (x : ℕ × List Row). x.0) (sym is)

next_from : (ps : List Pipe) (m : ℕ × List Row) → next_morsel ps ≡ Some m → (p : Pipe) × Contains ps p × (has_next p ≡ true) × (m.0 ≡ p.next)
next_from [] m e = absurd (let no : None ≡ Some m = e in cc)
next_from (p ∷ ps) m e = by (has_next p) refl (next_from ps m)
  where
    by : (b : Bool) → has_next p ≡ b → (next_morsel ps ≡ Some m → (q : Pipe) × Contains ps q × (has_next q ≡ true) × (m.0 ≡ q.next)) → (q : Pipe) × Contains (p ∷ ps) q × (has_next q ≡ true) × (m.0 ≡ q.next)
    by true h rest = (p, contains_first p ps, h, some_of (morsel_at p.next p.got) p.next m (sym (ap (λ b. cond b (option_map {U = ℕ × List Row} (λ rs. (p.next, rs)) (morsel_at p.next p.got)) (next_morsel ps)) h) ∙ e))
    by false h rest = let r = rest (sym (ap (λ b. cond b (option_map {U = ℕ × List Row} (λ rs. (p.next, rs)) (morsel_at p.next p.got)) (next_morsel ps)) h) ∙ e) in (r.0, contains_later p r.0 ps r.1, r.2, r.3)

-- INPUTS THAT ARE DONE
map_insert : {A B : Type 0} (f : A → B) (less : B → B → Bool) (x : A) (ys : List A) → map f (insert_in_order (λ a b. less (f a) (f b)) x ys) ≡ insert_in_order less (f x) (map f ys)
map_insert f less x [] = refl
map_insert f less x (y ∷ ys) = by (less (f y) (f x)) refl (map_insert f less x ys)
  where
    by : (b : Bool) → less (f y) (f x) ≡ b → map f (insert_in_order (λ a b. less (f a) (f b)) x ys) ≡ insert_in_order less (f x) (map f ys) → map f (insert_in_order (λ a b. less (f a) (f b)) x (y ∷ ys)) ≡ insert_in_order less (f x) (map f (y ∷ ys))
    by true e rest = rw e (ap (λ zs. f y ∷ zs) rest)
    by false e rest = rw e refl

map_order : {A B : Type 0} (f : A → B) (less : B → B → Bool) (xs : List A) → map f (in_order (λ a b. less (f a) (f b)) xs) ≡ in_order less (map f xs)
map_order f less [] = refl
map_order f less (x ∷ xs) = map_insert f less x (in_order (λ a b. less (f a) (f b)) xs) ∙ ap (insert_in_order less (f x)) (map_order f less xs)

map_kept : {A B : Type 0} (f : A → B) (t : B → Bool) (xs : List A) → map f (kept (λ a. t (f a)) xs) ≡ kept t (map f xs)
map_kept f t [] = refl
map_kept f t (x ∷ xs) = by (t (f x)) refl (map_kept f t xs)
  where
    by : (b : Bool) → t (f x) ≡ b → map f (kept (λ a. t (f a)) xs) ≡ kept t (map f xs) → map f (kept (λ a. t (f a)) (x ∷ xs)) ≡ kept t (map f (x ∷ xs))
    by true e rest = rw e (ap (λ zs. f x ∷ zs) rest)
    by false e rest = rw e rest

pipes_in_wires : (w : World) (n : ℕ) → map (λ (p : Pipe). p.wire) (pipes_in w n) ≡ wires_in n (wires_of w)
pipes_in_wires w n =
    map_order (λ (p : Pipe). p.wire) (λ (p q : Wire). nat_lt p.input q.input) (kept (λ (p : Pipe). nat_eq p.wire.receiver n) w.pipes)
    ∙ ap (in_order (λ (p q : Wire). nat_lt p.input q.input)) (map_kept (λ (p : Pipe). p.wire) (λ (p : Wire). nat_eq p.receiver n) w.pipes)

done_at : (w : World) (n : ℕ) (q : Wire) → slice_get (wires_in n (wires_of w)) 0 ≡ Some q → get_or (inputs_done w n) 0 false ≡ true → is_done q.send_state ≡ true
done_at w n q at e =
    let same : inputs_done w n ≡ map (λ (p : Wire). is_done p.send_state) (wires_in n (wires_of w)) = sym (map_map (λ (p : Pipe). p.wire) (λ (p : Wire). is_done p.send_state) (pipes_in w n)) ∙ ap (map (λ (p : Wire). is_done p.send_state)) (pipes_in_wires w n) in
    let there : slice_get (inputs_done w n) 0 ≡ Some (is_done q.send_state) = ap (λ xs. slice_get xs 0) same ∙ slice_get-map (λ (p : Wire). is_done p.send_state) (wires_in n (wires_of w)) 0 ∙ ap (option_map (λ (p : Wire). is_done p.send_state)) at in
    sym (get_or_from_slice_get (inputs_done w n) 0 (is_done q.send_state) false there) ∙ e

not_ready : (a b : Bool) → (a && b) ≡ true → a ≡ true
not_ready true b e = refl
not_ready false b e = e

ready_not_done : (s : PortState) → is_ready s ≡ true → is_done s ≡ true → ⊥
ready_not_done port.Done e d = let no : false ≡ true = e in cc
ready_not_done port.Ready e d = let no : false ≡ true = d in cc
ready_not_done port.Blocked e d = let no : false ≡ true = e in cc

-- a passing node but a join has one input
one_input : (kind : PhysicalKind) (k i : ℕ) → passes_numbers kind ≡ true → keeps_slots kind 1 ≡ false → HasInputs kind k → i < k → i ≡ 0
one_input (equi_join j) k i p s h l = absurd (let no : true ≡ false = s in cc)
one_input (select_node es extends) k i p s h l = omega (arith, h, l)
one_input (with_row_index name offset) k i p s h l = omega (arith, h, l)
one_input (streaming_slice offset n) k i p s h l = omega (arith, h, l)
one_input (filter_node e) k i p s h l = omega (arith, h, l)
one_input (simple_projection names) k i p s h l = omega (arith, h, l)
one_input (stream_map step) k i p s h l = omega (arith, h, l)
one_input kind k i p s h l = absurd (let no : false ≡ true = p in cc)

-- A CLAIM OF A NODE AT WORK
module _ (F : Functions) (w : World) (f : Facts F w) (h : IsNumbered w) (fit : OutsFit w) (n i : ℕ) (node : Node) (at : slice_get w.nodes n ≡ Some node) (on : (w.is_open && (node.in_phase && not node.is_closed)) ≡ true) (c : Claim) (is : claim_at w n i node ≡ Some c) where
  abbrev next : Next
  next = next_morsel (inputs_in_phase w n i)

  abbrev d : Bool
  d = get_or (inputs_done w n) 0 false

  the_form : Form node.node.kind node.progress d i next c
  the_form = form w.options node.node (schemas_for w node) node.progress (heads_of w n node) (inputs_done w n) i next c node.node.kind is

  is_open : w.is_open ≡ true
  is_open = (both_true w.is_open (node.in_phase && not node.is_closed) on).0

  here : NumberedAt w n node
  here = h n node at

  alone : multiplexes (slice_get w.nodes n) ≡ false
  alone = ap multiplexes at ∙ claims_single the_form

  -- the pipe of a morsel that is there
  record Source (m : ℕ × List Row) : Type 0 where
    pipe : Pipe
    there : Contains w.pipes pipe
    receiver : pipe.wire.receiver ≡ n
    input : pipe.wire.input ≡ i
    in_phase : pipe.in_phase ≡ true
    has : has_next pipe ≡ true
    number : m.0 ≡ pipe.next

  source : (m : ℕ × List Row) → next ≡ Some m → Source m
  source m e =
      let r = next_from (inputs_in_phase w n i) m e in
      let k = was_kept (λ (p : Pipe). is_input n i p && p.in_phase) r.0 w.pipes r.1 in
      let a = both_true (is_input n i r.0) r.0.in_phase k.1 in
      let b = both_true (nat_eq r.0.wire.receiver n) (nat_eq r.0.wire.input i) a.0 in
      record { pipe = r.0; there = k.0; receiver = same_number r.0.wire.receiver n b.0; input = same_number r.0.wire.input i b.1; in_phase = a.1; has = r.2; number = r.3 }

  -- the input is one of the node's
  within : (q : Pipe) → Contains w.pipes q → q.wire.receiver ≡ n → q.wire.input < length (given_at w n).inputs
  within q cq r =
      let there = input_place F w f q.wire (contains_map (λ (p : Pipe). p.wire) q w.pipes cq) in
      let at_n : slice_get (wires_in n (wires_of w)) q.wire.input ≡ Some q.wire = ap (λ k. slice_get (wires_in k (wires_of w)) q.wire.input) (sym r) ∙ there in
      let short = slice_get_within (wires_in n (wires_of w)) q.wire.input q.wire at_n in
      let long = map_length (λ (p : Wire). p.send_state) (wires_in n (wires_of w)) in
      omega (arith, short, long)

  long_enough : (q : Pipe) → Contains w.pipes q → q.wire.receiver ≡ n → q.wire.input < length node.progress.taken
  long_enough q cq r = let a = within q cq r in let b = inputs_given F w f n node at in let e = here.inputs in omega (arith, a, b, e)

  same_pipe : (p q : Pipe) → Contains w.pipes p → Contains w.pipes q → p.wire.receiver ≡ n → q.wire.receiver ≡ n → p.wire.input ≡ q.wire.input → p ≡ q
  same_pipe p q cp cq r s e = f.one_input p q cp cq (r ∙ sym s) e

  -- what only takes has no output in the phase
  nothing_out : only_takes node.node.kind node.progress.stage ≡ true → (p : Pipe) → Contains w.pipes p → bounded_out w n p ≡ false
  nothing_out k p cp = by (bounded_out w n p) refl
    where
      by : (b : Bool) → bounded_out w n p ≡ b → b ≡ false
      by false e = refl
      by true e =
          let a = both_true (nat_eq p.wire.sender n) (p.in_phase && (is_bounded w p && not p.is_dropped)) e in
          let b = both_true p.in_phase (is_bounded w p && not p.is_dropped) a.1 in
          let hand = ((f.pipes p cp).at_hand b.0).0 in
          let ready = not_ready (is_ready p.wire.send_state) (is_ready p.wire.receive_state) hand in
          let not_it = fit.takes p node cp (ap (slice_get w.nodes) (same_number p.wire.sender n a.0) ∙ at) is_open k in
          absurd (let no : true ≡ false = sym ready ∙ not_it in cc)

  -- what gives has its output in the phase
  out_in : only_takes node.node.kind node.progress.stage ≡ false → (p : Pipe) → Contains w.pipes p → p.wire.sender ≡ n → p.is_dropped ≡ false → bounded_out w n p ≡ true
  out_in k p cp s u = by p.in_phase refl
    where
      at_p : slice_get w.nodes p.wire.sender ≡ Some node
      at_p = ap (slice_get w.nodes) s ∙ at

      bounded : is_bounded w p ≡ true
      bounded = ap not (ap (λ k. multiplexes (slice_get w.nodes k)) s ∙ alone)

      by : (b : Bool) → p.in_phase ≡ b → bounded_out w n p ≡ true
      by true e = and_true (nat_eq p.wire.sender n) (p.in_phase && (is_bounded w p && not p.is_dropped)) (itself p.wire.sender n s) (and_true p.in_phase (is_bounded w p && not p.is_dropped) e (and_true (is_bounded w p) (not p.is_dropped) bounded (ap not u)))
      by false e =
          let aside = fit.aside p cp e (node, at_p, on) (ap (λ k. multiplexes (slice_get w.nodes k)) s ∙ alone) in
          let q = aside.1 in
          let none = fit.gives p q.0 node cp q.1 at_p is_open (claims_single the_form) k aside.0 q.2 in
          absurd (let no : true ≡ false = sym q.3 ∙ none in cc)

  -- a join that gave its last piece has no morsel left
  none_given : (m : ℕ × List Row) → next ≡ Some m → i ≡ 0 → last_given node.node.kind node.progress ≡ 0
  none_given m e z = by (last_given node.node.kind node.progress) refl
    where
      s : Source m
      s = source m e

      by : (k : ℕ) → last_given node.node.kind node.progress ≡ k → k ≡ 0
      by zero q = refl
      by (suc k) q =
          let done = here.ended (λ none. let no : suc k ≡ 0 = sym q ∙ none in omega arith) s.pipe s.there s.receiver (s.input ∙ z) in
          let hand = ((f.pipes s.pipe s.there).at_hand s.in_phase).0 in
          absurd (ready_not_done s.pipe.wire.send_state (not_ready (is_ready s.pipe.wire.send_state) (is_ready s.pipe.wire.receive_state) hand) done)

  first_input : passes_numbers node.node.kind ≡ true → (m : ℕ × List Row) → next ≡ Some m → (i ≢ 0 → keeps_slots node.node.kind 1 ≡ false) → i ≡ 0
  first_input k m e few = by (cases_eq i 0)
    where
      s : Source m
      s = source m e

      by : (i ≡ 0) ⊎ (i ≢ 0) → i ≡ 0
      by (inl z) = z
      by (inr other) = one_input node.node.kind (length (given_at w n).inputs) i k (few other) (has_inputs F w f n node at) (subst (λ j. j < length (given_at w n).inputs) s.input (within s.pipe s.there s.receiver))

  keeps_not : {A : Type 0} → keeps_one c.task ≡ true → keeps_one c.task ≡ false → A
  keeps_not a b = absurd (let no : true ≡ false = sym a ∙ b in cc)

  stage_is : c.progress.stage ≡ node.progress.stage
  stage_is = by the_form
    where
      by : Form node.node.kind node.progress d i next c → c.progress.stage ≡ node.progress.stage
      by (gives_own k t g o s l m r v) = v
      by (gives_union k m e g o s l t r v) = v
      by (passes_on k t m e g o s x r y z v) = v
      by (keeps_slot t k z m e o y s x r) = ap (λ (a : Progress). a.stage) s
      by (gives_last j k u t y g o z s l m r v) = v

  -- THE NUMBERS AFTER IT
  module _ (worker : ℕ) where
    abbrev v : World
    v = before_drops w n i worker node c

    abbrev g : Pipe → Pipe
    g = change w n i c.takes_morsel c.drops_input

    abbrev new : Node
    new = record node { progress = c.progress }

    pipes : v.pipes ≡ map g w.pipes
    pipes = pipes_are w n i c.takes_morsel c.drops_input

    came : (y : Pipe) → Contains v.pipes y → (x : Pipe) × Contains w.pipes x × (g x ≡ y)
    came y cy = from_map g y w.pipes (subst (λ ps. Contains ps y) pipes cy)

    wire : (x : Pipe) → (g x).wire ≡ x.wire
    wire x = ((change_is w n i c.takes_morsel c.drops_input x).0).wire

    lost : (x : Pipe) → (g x).is_dropped ≡ false → x.is_dropped ≡ false
    lost x e = ((change_is w n i c.takes_morsel c.drops_input x).0).lost e

    grown : only_takes node.node.kind node.progress.stage ≡ false → (x : Pipe) → Contains w.pipes x → x.wire.sender ≡ n → x.is_dropped ≡ false → length (g x).got ≡ length x.got + 1
    grown k x cx s u = (change_is w n i c.takes_morsel c.drops_input x).1 ∙ ap (λ b. length x.got + cond {A = ℕ} b 1 0) (out_in k x cx s u)

    as_long : (x : Pipe) → bounded_out w n x ≡ false → length (g x).got ≡ length x.got
    as_long x e = let a = (change_is w n i c.takes_morsel c.drops_input x).1 in let b = ap (λ b. cond {A = ℕ} b 1 0) e in omega (arith, a, b)

    stays_next : (x : Pipe) → (c.takes_morsel && is_input n i x) ≡ false → (g x).next ≡ x.next
    stays_next x e = let a = (change_is w n i c.takes_morsel c.drops_input x).2 in let b = ap (λ b. cond {A = ℕ} b 1 0) e in omega (arith, a, b)

    next_taken : c.takes_morsel ≡ true → (x : Pipe) → x.wire.receiver ≡ n → x.wire.input ≡ i → (g x).next ≡ x.next + 1
    next_taken t x r k = (change_is w n i c.takes_morsel c.drops_input x).2 ∙ ap (λ b. x.next + cond {A = ℕ} b 1 0) (and_true c.takes_morsel (is_input n i x) t (this_input w n i x r k))

    none_taken : c.takes_morsel ≡ false → (x : Pipe) → (g x).next ≡ x.next
    none_taken t x = stays_next x (ap (λ b. b && is_input n i x) t)

    other_taken : (x : Pipe) → is_input n i x ≡ false → (g x).next ≡ x.next
    other_taken x e = stays_next x (by c.takes_morsel)
      where
        by : (b : Bool) → (b && is_input n i x) ≡ false
        by true = e
        by false = refl

    both_kinds : {A : Type 0} (kind : PhysicalKind) → counts_own kind ≡ true → passes_numbers kind ≡ true → A
    both_kinds (select_node es extends) a b = absurd (let no : false ≡ true = a in cc)
    both_kinds (with_row_index name offset) a b = absurd (let no : false ≡ true = a in cc)
    both_kinds (streaming_slice offset m) a b = absurd (let no : false ≡ true = a in cc)
    both_kinds (filter_node e) a b = absurd (let no : false ≡ true = a in cc)
    both_kinds (simple_projection names) a b = absurd (let no : false ≡ true = a in cc)
    both_kinds (stream_map step) a b = absurd (let no : false ≡ true = a in cc)
    both_kinds (equi_join j) a b = absurd (let no : false ≡ true = a in cc)
    both_kinds kind a b = absurd (let no : false ≡ true = b in cc)

    not_of : {A : Type 0} (t : PhysicalKind → Bool) (kind : PhysicalKind) → node.node.kind ≡ kind → t kind ≡ false → t node.node.kind ≡ true → A
    not_of t kind e none k = absurd (let bad : true ≡ false = sym k ∙ ap t e ∙ none in cc)

    union_gives : node.node.kind ≡ ordered_union → only_takes node.node.kind node.progress.stage ≡ false
    union_gives e = ap (λ k. only_takes k node.progress.stage) e

    own_after : counts_own node.node.kind ≡ true → (x : Pipe) → Contains w.pipes x → x.wire.sender ≡ n → x.is_dropped ≡ false → length (g x).got ≡ c.progress.sent
    own_after k x cx s u = by the_form
      where
        was : length x.got ≡ node.progress.sent
        was = here.own k x cx s u

        by : Form node.node.kind node.progress d i next c → length (g x).got ≡ c.progress.sent
        by (gives_own k2 t g2 o s2 l m r v2) = grown t x cx s u ∙ ap (λ j. j + 1) was ∙ sym s2
        by (gives_union k2 m e g2 o s2 l t r v2) = grown (union_gives k2) x cx s u ∙ ap (λ j. j + 1) was ∙ sym s2
        by (passes_on k2 t m e g2 o s2 l r y z v2) = both_kinds node.node.kind k k2
        by (keeps_slot t k2 z m e o y s2 l r) = as_long x (nothing_out t x cx) ∙ was ∙ ap (λ (a : Progress). a.sent) (sym s2)
        by (gives_last j k2 fr t y g2 o z s2 l m r v2) = not_of counts_own (equi_join j) k2 refl k

    passed_after : passes_numbers node.node.kind ≡ true → (x q : Pipe) → Contains w.pipes x → Contains w.pipes q → x.wire.sender ≡ n → x.is_dropped ≡ false → q.wire.receiver ≡ n → q.wire.input ≡ 0 → length (g x).got ≡ (g q).next + last_given node.node.kind c.progress
    passed_after k x q cx cq s u r z = by the_form
      where
        was : length x.got ≡ q.next + last_given node.node.kind node.progress
        was = here.passed k x q cx cq s u r z

        by : Form node.node.kind node.progress d i next c → length (g x).got ≡ (g q).next + last_given node.node.kind c.progress
        by (gives_own k2 t g2 o s2 l m dr v2) = both_kinds node.node.kind k2 k
        by (gives_union k2 m e g2 o s2 l t dr v2) = not_of passes_numbers ordered_union k2 refl k
        by (passes_on k2 t m e g2 o lg tk tm dr few v2) =
            let first = first_input k2 m e few in
            let a = grown t x cx s u in
            let b = next_taken tm q r (z ∙ sym first) in
            omega (arith, was, a, b, lg)
        by (keeps_slot t k2 not_first m e o y s2 tm dr) =
            let a = as_long x (nothing_out t x cx) in
            let other : 0 ≢ i = λ e2. let no : true ≡ false = sym k ∙ not_first (sym e2) in cc in
            let b = other_taken q (other_input w n i q (λ e2. other (sym z ∙ e2))) in
            let same = last_by node.node.kind c.progress node.progress (ap (λ (a : Progress). a.sent) s2) in
            omega (arith, was, a, b, same)
        by (gives_last j k2 fr t y g2 o zero_sent s2 l tm dr v2) =
            let a = grown t x cx s u in
            let b = none_taken tm q in
            let old : last_given node.node.kind node.progress ≡ node.progress.sent = ap (λ kd. last_given kd node.progress) k2 in
            let new_last : last_given node.node.kind c.progress ≡ c.progress.sent = ap (λ kd. last_given kd c.progress) k2 in
            omega (arith, was, a, b, old, new_last, s2)

    slots_after : (q : Pipe) → Contains w.pipes q → q.wire.receiver ≡ n → keeps_slots node.node.kind q.wire.input ≡ true → length (get_or c.progress.taken q.wire.input []) ≡ (g q).next
    slots_after q cq r k = by the_form
      where
        j : ℕ
        j = q.wire.input

        was : length (get_or node.progress.taken j []) ≡ q.next
        was = here.slots q cq r k

        enough : j < length node.progress.taken
        enough = long_enough q cq r

        same_taken : c.progress.taken ≡ node.progress.taken → length (get_or c.progress.taken j []) ≡ length (get_or node.progress.taken j [])
        same_taken l = ap (λ xs. length (get_or xs j [])) l

        -- one more slot of input i
        with_one : (slot : Option (List Row)) → c.progress.taken ≡ slice_set node.progress.taken i (get_or node.progress.taken i [] ++ slot ∷ []) → c.takes_morsel ≡ true → (j ≡ i) ⊎ (j ≢ i) → length (get_or c.progress.taken j []) ≡ (g q).next
        with_one slot l t (inl e) =
            let a = next_taken t q r e in
            let here_i : get_or (slice_set node.progress.taken i (get_or node.progress.taken i [] ++ slot ∷ [])) i [] ≡ get_or node.progress.taken i [] ++ slot ∷ [] = slot_here node.progress.taken i slot (subst (λ k. k < length node.progress.taken) e enough) in
            let long : length (get_or c.progress.taken j []) ≡ length (get_or node.progress.taken i []) + 1 = ap (λ xs. length (get_or xs j [])) l ∙ ap (λ k. length (get_or (slice_set node.progress.taken i (get_or node.progress.taken i [] ++ slot ∷ [])) k [])) e ∙ ap length here_i ∙ one_more (get_or node.progress.taken i []) slot in
            let old : length (get_or node.progress.taken i []) ≡ q.next = ap (λ k. length (get_or node.progress.taken k [])) (sym e) ∙ was in
            omega (arith, a, long, old)
        with_one slot l t (inr other) =
            let a = other_taken q (other_input w n i q other) in
            let long : length (get_or c.progress.taken j []) ≡ length (get_or node.progress.taken j []) = ap (λ xs. length (get_or xs j [])) l ∙ ap length (slot_other node.progress.taken i j (get_or node.progress.taken i [] ++ slot ∷ []) other) in
            omega (arith, a, long, was)

        of_kept : KeepsTaken node.node.kind node.progress c.progress → i ≡ 0 → c.takes_morsel ≡ true → length (get_or c.progress.taken j []) ≡ (g q).next
        of_kept (as_it_was none l) z t = same_taken l ∙ was ∙ sym (other_taken q (other_input w n i q (λ e. let no : true ≡ false = sym k ∙ ap (keeps_slots node.node.kind) (e ∙ z) ∙ none in cc)))
        of_kept (with_first rs l) z t = with_one (Some rs) (l ∙ ap (λ m. slice_set node.progress.taken m (get_or node.progress.taken m [] ++ Some rs ∷ [])) (sym z)) t (cases_eq j i)

        by : Form node.node.kind node.progress d i next c → length (get_or c.progress.taken j []) ≡ (g q).next
        by (gives_own k2 t g2 o s2 l tm dr v2) = same_taken l ∙ was ∙ sym (none_taken tm q)
        by (gives_union k2 m e g2 o s2 l t dr v2) = not_of (λ kd. keeps_slots kd j) ordered_union k2 refl k
        by (passes_on k2 t m e g2 o lg tk tm dr few v2) = of_kept tk (first_input k2 m e few) tm
        by (keeps_slot t k2 not_first m e o y s2 tm dr) = with_one None (ap (λ (a : Progress). a.taken) s2) tm (cases_eq j i)
        by (gives_last j2 k2 fr t y g2 o zero_sent s2 l tm dr v2) = same_taken l ∙ was ∙ sym (none_taken tm q)

    inputs_after : length c.progress.taken ≡ length node.node.inputs
    inputs_after = by the_form
      where
        of_kept : KeepsTaken node.node.kind node.progress c.progress → length c.progress.taken ≡ length node.progress.taken
        of_kept (as_it_was none l) = ap length l
        of_kept (with_first rs l) = ap length l ∙ slots_long node.progress.taken 0 (get_or node.progress.taken 0 [] ++ Some rs ∷ [])

        by : Form node.node.kind node.progress d i next c → length c.progress.taken ≡ length node.node.inputs
        by (gives_own k2 t g2 o s2 l tm dr v2) = ap length l ∙ here.inputs
        by (gives_union k2 m e g2 o s2 l t dr v2) = ap length l ∙ here.inputs
        by (passes_on k2 t m e g2 o lg tk tm dr few v2) = of_kept tk ∙ here.inputs
        by (keeps_slot t k2 not_first m e o y s2 tm dr) = ap (λ (a : Progress). length a.taken) s2 ∙ slots_long node.progress.taken i (get_or node.progress.taken i [] ++ None ∷ []) ∙ here.inputs
        by (gives_last j2 k2 fr t y g2 o zero_sent s2 l tm dr v2) = ap length l ∙ here.inputs

    own_last : (kind : PhysicalKind) (a : Progress) → counts_own kind ≡ true → last_given kind a ≡ 0
    own_last (equi_join j) a k = absurd (let no : false ≡ true = k in cc)
    own_last kind a k = refl

    ended_after : has_given_last node.node.kind c.progress → (q : Pipe) → Contains w.pipes q → q.wire.receiver ≡ n → q.wire.input ≡ 0 → is_done q.wire.send_state ≡ true
    ended_after e q cq r z = by the_form
      where
        still : last_given node.node.kind c.progress ≡ last_given node.node.kind node.progress → is_done q.wire.send_state ≡ true
        still s = here.ended (λ none. e (s ∙ none)) q cq r z

        by : Form node.node.kind node.progress d i next c → is_done q.wire.send_state ≡ true
        by (gives_own k2 t g2 o s2 l tm dr v2) = absurd (e (own_last node.node.kind c.progress k2))
        by (gives_union k2 m e2 g2 o s2 l t dr v2) = absurd (e (ap (λ kd. last_given kd c.progress) k2))
        by (passes_on k2 t m e2 g2 o lg tk tm dr few v2) = still lg
        by (keeps_slot t k2 not_first m e2 o y s2 tm dr) = still (last_by node.node.kind c.progress node.progress (ap (λ (a : Progress). a.sent) s2))
        by (gives_last j2 k2 fr t y g2 o zero_sent s2 l tm dr v2) =
            let there = input_place F w f q.wire (contains_map (λ (p : Pipe). p.wire) q w.pipes cq) in
            let at_zero : slice_get (wires_in n (wires_of w)) 0 ≡ Some q.wire = ap (λ k. slice_get (wires_in n (wires_of w)) k) (sym z) ∙ ap (λ k. slice_get (wires_in k (wires_of w)) q.wire.input) (sym r) ∙ there in
            done_at w n q.wire at_zero y

    numbered_here : NumberedAt v n new
    numbered_here =
        record {
          own = λ k p cp s u.
              let x = came p cp in
              sym (ap (λ (q : Pipe). length q.got) x.2) ∙ own_after k x.0 x.1 (sender x.0 p x.2 ∙ s) (lost x.0 (ap (λ (q : Pipe). q.is_dropped) x.2 ∙ u));
          passed = λ k p q cp cq s u r z.
              let x = came p cp in
              let y = came q cq in
              sym (ap (λ (t : Pipe). length t.got) x.2) ∙ passed_after k x.0 y.0 x.1 y.1 (sender x.0 p x.2 ∙ s) (lost x.0 (ap (λ (t : Pipe). t.is_dropped) x.2 ∙ u)) (receiver y.0 q y.2 ∙ r) (input y.0 q y.2 ∙ z) ∙ ap (λ (t : Pipe). t.next + last_given node.node.kind c.progress) y.2;
          slots = λ q cq r k.
              let y = came q cq in
              let same = input y.0 q y.2 in
              ap (λ j. length (get_or c.progress.taken j [])) (sym same) ∙ slots_after y.0 y.1 (receiver y.0 q y.2 ∙ r) (ap (keeps_slots node.node.kind) same ∙ k) ∙ ap (λ (t : Pipe). t.next) y.2;
          inputs = inputs_after;
          ended = λ e q cq r z.
              let y = came q cq in
              ap (λ (t : Pipe). is_done t.wire.send_state) (sym y.2) ∙ ap (λ (u : Wire). is_done u.send_state) (wire y.0) ∙ ended_after e y.0 y.1 (receiver y.0 q y.2 ∙ r) (input y.0 q y.2 ∙ z);
        }
      where
        sender : (x y : Pipe) → g x ≡ y → x.wire.sender ≡ y.wire.sender
        sender x y e = ap (λ (u : Wire). u.sender) (sym (wire x)) ∙ ap (λ (p : Pipe). p.wire.sender) e

        receiver : (x y : Pipe) → g x ≡ y → x.wire.receiver ≡ y.wire.receiver
        receiver x y e = ap (λ (u : Wire). u.receiver) (sym (wire x)) ∙ ap (λ (p : Pipe). p.wire.receiver) e

        input : (x y : Pipe) → g x ≡ y → x.wire.input ≡ y.wire.input
        input x y e = ap (λ (u : Wire). u.input) (sym (wire x)) ∙ ap (λ (p : Pipe). p.wire.input) e

    joins_same : (x : Pipe) → joins_of (g x) ≡ joins_of x
    joins_same x = ap (λ (u : Wire). let j : Joins = record { sender = u.sender; port = u.port; receiver = u.receiver; input = u.input } in j) (wire x)

    numbered_before : IsNumbered v
    numbered_before m y e = by (cases_eq m n)
      where
        by : (m ≡ n) ⊎ (m ≢ n) → NumberedAt v m y
        by (inl same) =
            let there : slice_get (slice_set w.nodes n new) m ≡ Some new = ap (slice_get (slice_set w.nodes n new)) same ∙ set_here w.nodes n node new at in
            let q : Some new ≡ Some y = sym there ∙ e in
            let it : new ≡ y = cc in
            subst (λ k. NumberedAt v k y) (sym same) (subst (NumberedAt v n) it numbered_here)
        by (inr other) =
            let old : slice_get w.nodes m ≡ Some y = sym (set_other w.nodes n m new other) ∙ e in
            numbered_at w v g pipes joins_same lost (λ x cx done. ap (λ (u : Wire). is_done u.send_state) (wire x) ∙ done) m y y (same_counts y)
            (λ p cp s k. as_long p (not_out w n i p (λ e2. other (sym s ∙ e2)))) (λ q cq r k. other_taken q (not_in w n i q (λ e2. other (sym r ∙ e2)))) (h m y old)

    pub claims_number : IsNumbered (after_claim w n i worker node c)
    claims_number = drops_number (length v.nodes) v numbered_before

    pub claims_fit : OutsFit (after_claim w n i worker node c)
    claims_fit =
        drops_fit (length v.nodes) v
        (outs_keep w v g pipes wire (λ x. ((change_is w n i c.takes_morsel c.drops_input x).0).in_phase) (λ e. e) (set_from Marks same_marks w.nodes n node new at (record { node = refl; stage = stage_is; at_work = λ e. e })) fit)

  -- WHAT IT FITS
  not_dropped : (b : Bool) → not b ≡ true → b ≡ false
  not_dropped true e = absurd (let no : false ≡ true = e in cc)
  not_dropped false e = refl

  -- a join's left input
  left_pipe : (j : JoinStep) → node.node.kind ≡ equi_join j → (q : Pipe) × Contains w.pipes q × (q.wire.receiver ≡ n) × (q.wire.input ≡ 0)
  left_pipe j k =
      let two : length (given_at w n).inputs ≡ 2 = subst (λ kd. HasInputs kd (length (given_at w n).inputs)) k (has_inputs F w f n node at) in
      let long = map_length (λ (p : Wire). p.send_state) (wires_in n (wires_of w)) in
      let blank : Wire = record { sender = 0; port = 0; receiver = 0; input = 0; send_state = port.Blocked; receive_state = port.Blocked } in
      let there = slice_get-get_or (wires_in n (wires_of w)) 0 blank (omega (arith, two, long)) in
      let u = input_at F w f n 0 (get_or (wires_in n (wires_of w)) 0 blank) there in
      let x = from_map (λ (p : Pipe). p.wire) (get_or (wires_in n (wires_of w)) 0 blank) w.pipes u.0 in
      (x.0, x.1, ap (λ (p : Wire). p.receiver) x.2 ∙ u.1, ap (λ (p : Wire). p.input) x.2 ∙ u.2)

  numbers_fit : keeps_one c.task ≡ false → (p : Pipe) → is_filled_by w n p → length p.got ≡ c.gives
  numbers_fit nk p (cp, s, e) = by the_form
    where
      u : p.is_dropped ≡ false
      u = not_dropped p.is_dropped (both_true (counts_for_sender w p) (not p.is_dropped) e).1

      by : Form node.node.kind node.progress d i next c → length p.got ≡ c.gives
      by (gives_own k t g2 o s2 l tm dr v2) = here.own k p cp s u ∙ sym g2
      by (gives_union k m e2 g2 o s2 l t dr v2) = here.own (ap counts_own k) p cp s u ∙ sym g2
      by (passes_on k t m e2 g2 o lg tk tm dr few v2) =
          let first = first_input k m e2 few in
          let q = source m e2 in
          let was = here.passed k p q.pipe cp q.there s u q.receiver (q.input ∙ first) in
          let none = none_given m e2 first in
          let number = q.number in
          omega (arith, was, none, number, g2)
      by (keeps_slot t k not_first m e2 o y s2 tm dr) = keeps_not y nk
      by (gives_last j k fr t y g2 o zero_sent s2 l tm dr v2) =
          let q = left_pipe j k in
          let was = here.passed (ap passes_numbers k) p q.0 cp q.1 s u q.2 q.3 in
          let slot : length (get_or node.progress.taken 0 []) ≡ q.0.next = ap (λ b. length (get_or node.progress.taken b [])) (sym q.3) ∙ here.slots q.0 q.1 q.2 (ap (λ b. keeps_slots node.node.kind b) q.3 ∙ ap (λ kd. keeps_slots kd 0) k ∙ fr) in
          let last : last_given node.node.kind node.progress ≡ node.progress.sent = ap (λ kd. last_given kd node.progress) k in
          omega (arith, was, slot, last, zero_sent, g2)

  slot_fits : keeps_one c.task ≡ true → slice_get (get_or c.progress.taken i []) c.number ≡ Some None
  slot_fits kp = by the_form
    where
      by : Form node.node.kind node.progress d i next c → slice_get (get_or c.progress.taken i []) c.number ≡ Some None
      by (gives_own k t g2 o s2 l tm dr v2) = keeps_not kp o
      by (gives_union k m e2 g2 o s2 l t dr v2) = keeps_not kp o
      by (passes_on k t m e2 g2 o lg tk tm dr few v2) = keeps_not kp o
      by (gives_last j k fr t y g2 o zero_sent s2 l tm dr v2) = keeps_not kp o
      by (keeps_slot t k not_first m e2 o y s2 tm dr) =
          let q = source m e2 in
          let long = here.slots q.pipe q.there q.receiver (ap (keeps_slots node.node.kind) q.input ∙ k) in
          let was : length (get_or node.progress.taken i []) ≡ q.pipe.next = ap (λ b. length (get_or node.progress.taken b [])) (sym q.input) ∙ long in
          let number = q.number in
          let enough : i < length node.progress.taken = subst (λ b. b < length node.progress.taken) q.input (long_enough q.pipe q.there q.receiver) in
          ap (λ (a : Progress). slice_get (get_or a.taken i []) c.number) s2 ∙ ap (λ xs. slice_get xs c.number) (slot_here node.progress.taken i None enough) ∙ at_end (get_or node.progress.taken i []) None c.number (omega (arith, o, number, was))

  new_slot_fits : keeps_one c.task ≡ true → slice_get (get_or node.progress.taken i []) c.number ≡ None
  new_slot_fits kp = by the_form
    where
      by : Form node.node.kind node.progress d i next c → slice_get (get_or node.progress.taken i []) c.number ≡ None
      by (gives_own k t g2 o s2 l tm dr v2) = keeps_not kp o
      by (gives_union k m e2 g2 o s2 l t dr v2) = keeps_not kp o
      by (passes_on k t m e2 g2 o lg tk tm dr few v2) = keeps_not kp o
      by (gives_last j k fr t y g2 o zero_sent s2 l tm dr v2) = keeps_not kp o
      by (keeps_slot t k not_first m e2 o y s2 tm dr) =
          let q = source m e2 in
          let long = here.slots q.pipe q.there q.receiver (ap (keeps_slots node.node.kind) q.input ∙ k) in
          let was : length (get_or node.progress.taken i []) ≡ q.pipe.next = ap (λ b. length (get_or node.progress.taken b [])) (sym q.input) ∙ long in
          let number = q.number in
          past_end (get_or node.progress.taken i []) c.number (omega (arith, o, number, was))

  slots_fit : (j k : ℕ) → slice_get (get_or node.progress.taken j []) k ≡ Some None → slice_get (get_or c.progress.taken j []) k ≡ Some None
  slots_fit j k e = by the_form
    where
      there : c.progress.taken ≡ node.progress.taken → slice_get (get_or c.progress.taken j []) k ≡ Some None
      there l = ap (λ xs. slice_get (get_or xs j []) k) l ∙ e

      at_more : (a : ℕ) (slot : Option (List Row)) → a < length node.progress.taken → c.progress.taken ≡ slice_set node.progress.taken a (get_or node.progress.taken a [] ++ slot ∷ []) → (j ≡ a) ⊎ (j ≢ a) → slice_get (get_or c.progress.taken j []) k ≡ Some None
      at_more a slot enough l (inl same) =
          ap (λ xs. slice_get (get_or xs j []) k) l ∙ ap (λ b. slice_get (get_or (slice_set node.progress.taken a (get_or node.progress.taken a [] ++ slot ∷ [])) b []) k) same ∙ ap (λ xs. slice_get xs k) (slot_here node.progress.taken a slot enough)
          ∙ before_end (get_or node.progress.taken a []) slot None k (ap (λ b. slice_get (get_or node.progress.taken b []) k) (sym same) ∙ e)
      at_more a slot enough l (inr other) = ap (λ xs. slice_get (get_or xs j []) k) l ∙ ap (λ xs. slice_get xs k) (slot_other node.progress.taken a j (get_or node.progress.taken a [] ++ slot ∷ []) other) ∙ e

      enough_of : (m : ℕ × List Row) → next ≡ Some m → i < length node.progress.taken
      enough_of m e2 = let q = source m e2 in subst (λ b. b < length node.progress.taken) q.input (long_enough q.pipe q.there q.receiver)

      of_kept : KeepsTaken node.node.kind node.progress c.progress → i ≡ 0 → i < length node.progress.taken → slice_get (get_or c.progress.taken j []) k ≡ Some None
      of_kept (as_it_was none l) z enough = there l
      of_kept (with_first rs l) z enough = at_more 0 (Some rs) (subst (λ b. b < length node.progress.taken) z enough) l (cases_eq j 0)

      by : Form node.node.kind node.progress d i next c → slice_get (get_or c.progress.taken j []) k ≡ Some None
      by (gives_own k2 t g2 o s2 l tm dr v2) = there l
      by (gives_union k2 m e2 g2 o s2 l t dr v2) = there l
      by (passes_on k2 t m e2 g2 o lg tk tm dr few v2) = of_kept tk (first_input k2 m e2 few) (enough_of m e2)
      by (gives_last j2 k2 fr t y g2 o zero_sent s2 l tm dr v2) = there l
      by (keeps_slot t k2 not_first m e2 o y s2 tm dr) = at_more i None (enough_of m e2) (ap (λ (a : Progress). a.taken) s2) (cases_eq j i)

  no_output_fits : keeps_one c.task ≡ true → (p : Pipe) → Contains w.pipes p → bounded_out w n p ≡ false
  no_output_fits kp p cp = by the_form
    where
      by : Form node.node.kind node.progress d i next c → bounded_out w n p ≡ false
      by (gives_own k t g2 o s2 l tm dr v2) = keeps_not kp o
      by (gives_union k m e2 g2 o s2 l t dr v2) = keeps_not kp o
      by (passes_on k t m e2 g2 o lg tk tm dr few v2) = keeps_not kp o
      by (gives_last j k fr t y g2 o zero_sent s2 l tm dr v2) = keeps_not kp o
      by (keeps_slot t k not_first m e2 o y s2 tm dr) = nothing_out t p cp

  takes_fit : c.takes_morsel ≡ true → (p : Pipe) × Contains w.pipes p × IsTrue (is_input n i p) × IsTrue p.in_phase × IsTrue (has_next p)
  takes_fit t = by the_form
    where
      of_source : (m : ℕ × List Row) → next ≡ Some m → (p : Pipe) × Contains w.pipes p × IsTrue (is_input n i p) × IsTrue p.in_phase × IsTrue (has_next p)
      of_source m e = let q = source m e in (q.pipe, q.there, this_input w n i q.pipe q.receiver q.input, q.in_phase, q.has)

      by : Form node.node.kind node.progress d i next c → (p : Pipe) × Contains w.pipes p × IsTrue (is_input n i p) × IsTrue p.in_phase × IsTrue (has_next p)
      by (gives_own k t2 g2 o s2 l tm dr v2) = absurd (let no : true ≡ false = sym t ∙ tm in cc)
      by (gives_union k m e2 g2 o s2 l t2 dr v2) = of_source m e2
      by (passes_on k t2 m e2 g2 o lg tk tm dr few v2) = of_source m e2
      by (keeps_slot t2 k not_first m e2 o y s2 tm dr) = of_source m e2
      by (gives_last j k fr t2 y g2 o zero_sent s2 l tm dr v2) = absurd (let no : true ≡ false = sym t ∙ tm in cc)

  drops_fit_here : c.drops_input ≡ true → is_over_slice node.node.kind c.progress.booked ≡ true
  drops_fit_here t = by the_form
    where
      by : Form node.node.kind node.progress d i next c → is_over_slice node.node.kind c.progress.booked ≡ true
      by (gives_own k t2 g2 o s2 l tm dr v2) = absurd (let no : true ≡ false = sym t ∙ dr in cc)
      by (gives_union k m e2 g2 o s2 l t2 dr v2) = absurd (let no : true ≡ false = sym t ∙ dr in cc)
      by (passes_on k t2 m e2 g2 o lg tk tm dr few v2) = dr t
      by (keeps_slot t2 k not_first m e2 o y s2 tm dr) = absurd (let no : true ≡ false = sym t ∙ dr in cc)
      by (gives_last j k fr t2 y g2 o zero_sent s2 l tm dr v2) = absurd (let no : true ≡ false = sym t ∙ dr in cc)

  pub fits_whole : FitsWhole w n i node c
  fits_whole =
      record {
        fits = record {
          single = alone;
          over = λ e. stays_over w.options node.node (schemas_for w node) node.progress (heads_of w n node) (inputs_done w n) i next c node.node.kind is e;
          numbered = numbers_fit;
          slot = slot_fits;
          new_slot = new_slot_fits;
          slots = slots_fit;
          no_output = no_output_fits;
        };
        takes = takes_fit;
        drops = drops_fit_here;
      }
