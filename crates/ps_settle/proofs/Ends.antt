-- The ends of wires: what an answer changes, what it leaves, and how a node's own ends stand afterwards.
use Rattle.std.proofs.Common.{◌≡◌, ◌≢◌, ℕ, zero, suc, Bool, true, false, cond, List, [], ◌∷◌, length, Some, None, get_or, refl, sym, ap, ◌∙◌, arith}
use Rattle.std.specs.Prelude.{Contains, map, nat_eq, nat_lt, slice_get}
use Rattle.std.specs.List.{filter as kept}
use Rattle.std.proofs.lemmas.Bool.Decides.{nat_tests}
use Rattle.std.proofs.lemmas.Option.{get_or_from_slice_get, slice_get_within}
use Rattle.ps_frame.specs.Sorting.{in_order}
use Rattle.ps_frame.specs.Zip.{below}
use Rattle.ps_ports.specs.declared.port_state.PortState.{PortState}
use Rattle.ps_ports.specs.Ports.{Sides, is_done, kept_done, kept_state, keeping_done}
use Rattle.ps_ports.specs.Wires.{IsWired, Wire, given_to, received, said_by, sent, wires_in, wires_out, written}
use Rattle.ps_settle.specs.Sweeps.{answered}
use Rattle.ps_settle.proofs.Members.{at_both, at_map, contains_at, from_kept, in_kept, in_order-from, in_order-has, in_order-map, item_at, kept-map, length_map, map_alike, map_at, map_twice, number_at, same_items}

pub same_number : (m n : ℕ) → m ≡ n → nat_eq m n ≡ true
same_number m n e = grind (arith, nat_tests)

pub other_number : (m n : ℕ) → m ≢ n → nat_eq m n ≡ false
other_number m n h = grind (arith, nat_tests)

pub is_number : (m n : ℕ) → nat_eq m n ≡ true → m ≡ n
is_number m n e = grind (arith, nat_tests)

-- which ports a wire joins
abbrev pub joins : Wire → ℕ × ℕ × ℕ × ℕ
joins p = (p.sender, p.port, p.receiver, p.input)

received-joins : (n : ℕ) (a : Sides) (q : Wire) → joins (received n a q) ≡ joins q
received-joins n a q = by (nat_eq q.receiver n)
  where
    by : (b : Bool) → joins (cond b (record q { receive_state = kept_state q.receive_state (get_or a.inputs q.input q.receive_state) }) q) ≡ joins q
    by true = refl
    by false = refl

sent-joins : (n : ℕ) (a : Sides) (q : Wire) → joins (sent n a q) ≡ joins q
sent-joins n a q = by (nat_eq q.sender n)
  where
    by : (b : Bool) → joins (cond b (record q { send_state = kept_state q.send_state (get_or a.outputs q.port q.send_state) }) q) ≡ joins q
    by true = refl
    by false = refl

pub answered-joins : (n : ℕ) (a : Sides) (p : Wire) → joins (answered n a p) ≡ joins p
answered-joins n a p = received-joins n a (sent n a p) ∙ sent-joins n a p

received-send : (n : ℕ) (a : Sides) (q : Wire) → (received n a q).send_state ≡ q.send_state
received-send n a q = by (nat_eq q.receiver n)
  where
    by : (b : Bool) → (cond b (record q { receive_state = kept_state q.receive_state (get_or a.inputs q.input q.receive_state) }) q).send_state ≡ q.send_state
    by true = refl
    by false = refl

pub answered-send : (n : ℕ) (a : Sides) (p : Wire) → p.sender ≡ n → (answered n a p).send_state ≡ kept_state p.send_state (get_or a.outputs p.port p.send_state)
answered-send n a p e = received-send n a (sent n a p) ∙ (let t : nat_eq p.sender n ≡ true = same_number p.sender n e in rw t refl)

pub answered-send_other : (n : ℕ) (a : Sides) (p : Wire) → p.sender ≢ n → (answered n a p).send_state ≡ p.send_state
answered-send_other n a p h = received-send n a (sent n a p) ∙ (let t : nat_eq p.sender n ≡ false = other_number p.sender n h in rw t refl)

received-sets : (n : ℕ) (a : Sides) (q : Wire) → q.receiver ≡ n → (received n a q).receive_state ≡ kept_state q.receive_state (get_or a.inputs q.input q.receive_state)
received-sets n a q e = let t : nat_eq q.receiver n ≡ true = same_number q.receiver n e in rw t refl

received-other : (n : ℕ) (a : Sides) (q : Wire) → q.receiver ≢ n → (received n a q).receive_state ≡ q.receive_state
received-other n a q h = let t : nat_eq q.receiver n ≡ false = other_number q.receiver n h in rw t refl

pub answered-receive : (n : ℕ) (a : Sides) (p : Wire) → p.receiver ≡ n → (answered n a p).receive_state ≡ kept_state p.receive_state (get_or a.inputs p.input p.receive_state)
answered-receive n a p e = by (nat_eq p.sender n)
  where
    by : (b : Bool) → (received n a (cond b (record p { send_state = kept_state p.send_state (get_or a.outputs p.port p.send_state) }) p)).receive_state ≡ kept_state p.receive_state (get_or a.inputs p.input p.receive_state)
    by true = received-sets n a (record p { send_state = kept_state p.send_state (get_or a.outputs p.port p.send_state) }) e
    by false = received-sets n a p e

pub answered-receive_other : (n : ℕ) (a : Sides) (p : Wire) → p.receiver ≢ n → (answered n a p).receive_state ≡ p.receive_state
answered-receive_other n a p h = by (nat_eq p.sender n)
  where
    by : (b : Bool) → (received n a (cond b (record p { send_state = kept_state p.send_state (get_or a.outputs p.port p.send_state) }) p)).receive_state ≡ p.receive_state
    by true = received-other n a (record p { send_state = kept_state p.send_state (get_or a.outputs p.port p.send_state) }) h
    by false = received-other n a p h

-- the wires into a node, and out of it
pub has_in : (n : ℕ) (ws : List Wire) (p : Wire) → Contains (wires_in n ws) p → Contains ws p × (p.receiver ≡ n)
has_in n ws p c =
    let d = from_kept (λ (q : Wire). nat_eq q.receiver n) p ws (in_order-from (λ (q r : Wire). nat_lt q.input r.input) p (kept (λ (q : Wire). nat_eq q.receiver n) ws) c) in
    (d.0, is_number p.receiver n d.1)

pub has_out : (n : ℕ) (ws : List Wire) (p : Wire) → Contains (wires_out n ws) p → Contains ws p × (p.sender ≡ n)
has_out n ws p c =
    let d = from_kept (λ (q : Wire). nat_eq q.sender n) p ws (in_order-from (λ (q r : Wire). nat_lt q.port r.port) p (kept (λ (q : Wire). nat_eq q.sender n) ws) c) in
    (d.0, is_number p.sender n d.1)

pub is_in : (n : ℕ) (ws : List Wire) (p : Wire) → Contains ws p → p.receiver ≡ n → Contains (wires_in n ws) p
is_in n ws p c e =
    in_order-has (λ (q r : Wire). nat_lt q.input r.input) p (kept (λ (q : Wire). nat_eq q.receiver n) ws) (in_kept (λ (q : Wire). nat_eq q.receiver n) p ws c (same_number p.receiver n e))

pub is_out : (n : ℕ) (ws : List Wire) (p : Wire) → Contains ws p → p.sender ≡ n → Contains (wires_out n ws) p
is_out n ws p c e =
    in_order-has (λ (q r : Wire). nat_lt q.port r.port) p (kept (λ (q : Wire). nat_eq q.sender n) ws) (in_kept (λ (q : Wire). nat_eq q.sender n) p ws c (same_number p.sender n e))

module _ (g : Wire → Wire) (keeps : (p : Wire) → joins (g p) ≡ joins p) where
  pub wires_in-map : (n : ℕ) (ws : List Wire) → wires_in n (map g ws) ≡ map g (wires_in n ws)
  wires_in-map n ws =
      ap (in_order (λ (p q : Wire). nat_lt p.input q.input)) (kept-map (λ (p : Wire). nat_eq p.receiver n) g ws)
      ∙ in_order-map (λ (p q : Wire). nat_lt p.input q.input) g (kept (λ (p : Wire). nat_eq (g p).receiver n) ws)
      ∙ (λ i. map g (in_order (λ (p q : Wire). nat_lt (keeps p i).3 (keeps q i).3) (kept (λ (p : Wire). nat_eq (keeps p i).2 n) ws)))

  pub wires_out-map : (n : ℕ) (ws : List Wire) → wires_out n (map g ws) ≡ map g (wires_out n ws)
  wires_out-map n ws =
      ap (in_order (λ (p q : Wire). nat_lt p.port q.port)) (kept-map (λ (p : Wire). nat_eq p.sender n) g ws)
      ∙ in_order-map (λ (p q : Wire). nat_lt p.port q.port) g (kept (λ (p : Wire). nat_eq (g p).sender n) ws)
      ∙ (λ i. map g (in_order (λ (p q : Wire). nat_lt (keeps p i).1 (keeps q i).1) (kept (λ (p : Wire). nat_eq (keeps p i).0 n) ws)))

  -- what is the same of each wire of a node before and after is the same of all
  pub alike_in : {X : Type 0} (f h : Wire → X) (n : ℕ) (ws : List Wire) → ((p : Wire) → Contains ws p → p.receiver ≡ n → h (g p) ≡ f p) → map h (wires_in n (map g ws)) ≡ map f (wires_in n ws)
  alike_in f h n ws same =
      ap (map h) (wires_in-map n ws) ∙ map_twice h g (wires_in n ws) ∙ map_alike (λ p. h (g p)) f (wires_in n ws) (λ p c. let d = has_in n ws p c in same p d.0 d.1)

  pub alike_out : {X : Type 0} (f h : Wire → X) (n : ℕ) (ws : List Wire) → ((p : Wire) → Contains ws p → p.sender ≡ n → h (g p) ≡ f p) → map h (wires_out n (map g ws)) ≡ map f (wires_out n ws)
  alike_out f h n ws same =
      ap (map h) (wires_out-map n ws) ∙ map_twice h g (wires_out n ws) ∙ map_alike (λ p. h (g p)) f (wires_out n ws) (λ p c. let d = has_out n ws p c in same p d.0 d.1)

pub kept-at : (olds news : List PortState) (i : ℕ) (o k : PortState) → slice_get olds i ≡ Some o → slice_get news i ≡ Some k → slice_get (kept_done olds news) i ≡ Some (kept_state o k)
kept-at [] news i o k eo ek = absurd (let no : None ≡ Some o = eo in cc)
kept-at (x ∷ xs) [] i o k eo ek = absurd (let no : None ≡ Some k = ek in cc)
kept-at (x ∷ xs) (y ∷ ys) zero o k eo ek = let p : x ≡ o = (let q : Some x ≡ Some o = eo in cc) in let r : y ≡ k = (let q : Some y ≡ Some k = ek in cc) in λ i. Some (kept_state (p i) (r i))
kept-at (x ∷ xs) (y ∷ ys) (suc i) o k eo ek = kept-at xs ys i o k eo ek

pub kept-length : (olds news : List PortState) → length olds ≡ length news → length (kept_done olds news) ≡ length olds
kept-length [] news e = refl
kept-length (x ∷ xs) [] e = absurd (omega (arith, e))
kept-length (x ∷ xs) (y ∷ ys) e = ap suc (kept-length xs ys (omega (arith, e)))

-- the states that an answer leaves at places that are numbered from 0 on
states_kept : (number : Wire → ℕ) (old : Wire → PortState) (new : Wire → PortState) (xs : List Wire) (news : List PortState)
    → ((p : Wire) → Contains xs p → new p ≡ kept_state (old p) (get_or news (number p) (old p))) → map number xs ≡ below (length xs) → length news ≡ length xs
    → map new xs ≡ kept_done (map old xs) news
states_kept number old new xs news writes numbered long =
    same_items (map new xs) (kept_done (map old xs) news) (length_map new xs ∙ sym (kept-length (map old xs) news (length_map old xs ∙ sym long) ∙ length_map old xs)) at
  where
    at : (i : ℕ) (x y : PortState) → slice_get (map new xs) i ≡ Some x → slice_get (kept_done (map old xs) news) i ≡ Some y → x ≡ y
    at i x y ex ey =
        let w = at_map new xs i x ex in
        let within = slice_get_within xs i w.0 w.1 in
        let k = item_at news i (omega (arith, long)) in
        let here : number w.0 ≡ i = number_at number xs i w.0 numbered w.1 in
        let read : get_or news (number w.0) (old w.0) ≡ k.0 = ap (λ j. get_or news j (old w.0)) here ∙ get_or_from_slice_get news i k.0 (old w.0) k.1 in
        let there : slice_get (kept_done (map old xs) news) i ≡ Some (kept_state (old w.0) k.0) = kept-at (map old xs) news i (old w.0) k.0 (map_at old xs i w.0 w.1) k.1 in
        sym w.2 ∙ writes w.0 (contains_at xs i w.0 w.1) ∙ ap (kept_state (old w.0)) read ∙ at_both (kept_done (map old xs) news) i (kept_state (old w.0) k.0) y there ey

module _ (nodes : ℕ) (ws : List Wire) (wired : IsWired nodes ws) (v : ℕ) (a : Sides) where
  not_sender : (p : Wire) → Contains ws p → p.receiver ≡ v → p.sender ≢ v
  not_sender p c e d = let f = (wired.forward p c).0 in absurd (omega (arith, f, e, d))

  not_receiver : (p : Wire) → Contains ws p → p.sender ≡ v → p.receiver ≢ v
  not_receiver p c e d = let f = (wired.forward p c).0 in absurd (omega (arith, f, e, d))

  -- an update leaves what its own node is given
  pub given_own : given_to v (written v a ws) ≡ given_to v ws
  given_own =
      let ins = alike_in (answered v a) (answered-joins v a) (λ (p : Wire). p.send_state) (λ (p : Wire). p.send_state) v ws (λ p c e. answered-send_other v a p (not_sender p c e)) in
      let outs = alike_out (answered v a) (answered-joins v a) (λ (p : Wire). p.receive_state) (λ (p : Wire). p.receive_state) v ws (λ p c e. answered-receive_other v a p (not_receiver p c e)) in
      λ i. record { inputs = ins i; outputs = outs i }

  -- and what the node says is its answer, but for what it said is done
  pub said_own : length a.inputs ≡ length (given_to v ws).inputs → length a.outputs ≡ length (given_to v ws).outputs → said_by v (written v a ws) ≡ keeping_done (said_by v ws) a
  said_own long_in long_out =
      let xs = wires_in v ws in
      let ys = wires_out v ws in
      let ins =
      ap (map (λ (p : Wire). p.receive_state)) (wires_in-map (answered v a) (answered-joins v a) v ws) ∙ map_twice (λ (p : Wire). p.receive_state) (answered v a) xs
      ∙ states_kept (λ p. p.input) (λ p. p.receive_state) (λ p. (answered v a p).receive_state) xs a.inputs (λ p c. answered-receive v a p (has_in v ws p c).1) (wired.inputs v) (long_in ∙ length_map (λ (p : Wire). p.send_state) xs) in
      let outs =
      ap (map (λ (p : Wire). p.send_state)) (wires_out-map (answered v a) (answered-joins v a) v ws) ∙ map_twice (λ (p : Wire). p.send_state) (answered v a) ys
      ∙ states_kept (λ p. p.port) (λ p. p.send_state) (λ p. (answered v a p).send_state) ys a.outputs (λ p c. answered-send v a p (has_out v ws p c).1) (wired.ports v) (long_out ∙ length_map (λ (p : Wire). p.receive_state) ys) in
      λ i. record { inputs = ins i; outputs = outs i }

-- what another node says stays
pub said_other : (ws : List Wire) (v j : ℕ) (a : Sides) → j ≢ v → said_by j (written v a ws) ≡ said_by j ws
said_other ws v j a h =
    let ins = alike_in (answered v a) (answered-joins v a) (λ (p : Wire). p.receive_state) (λ (p : Wire). p.receive_state) j ws (λ p c e. answered-receive_other v a p (λ d. h (sym e ∙ d))) in
    let outs = alike_out (answered v a) (answered-joins v a) (λ (p : Wire). p.send_state) (λ (p : Wire). p.send_state) j ws (λ p c e. answered-send_other v a p (λ d. h (sym e ∙ d))) in
    λ i. record { inputs = ins i; outputs = outs i }

-- what a node is given of its inputs stays where no sender's word to it changes; and of its outputs likewise
pub given_inputs_stay : (ws : List Wire) (v j : ℕ) (a : Sides) → ((p : Wire) → Contains ws p → p.receiver ≡ j → (answered v a p).send_state ≡ p.send_state)
    → (given_to j (written v a ws)).inputs ≡ (given_to j ws).inputs
given_inputs_stay ws v j a same = alike_in (answered v a) (answered-joins v a) (λ (p : Wire). p.send_state) (λ (p : Wire). p.send_state) j ws same

pub given_outputs_stay : (ws : List Wire) (v j : ℕ) (a : Sides) → ((p : Wire) → Contains ws p → p.sender ≡ j → (answered v a p).receive_state ≡ p.receive_state)
    → (given_to j (written v a ws)).outputs ≡ (given_to j ws).outputs
given_outputs_stay ws v j a same = alike_out (answered v a) (answered-joins v a) (λ (p : Wire). p.receive_state) (λ (p : Wire). p.receive_state) j ws same

pub done_outputs_stay : (ws : List Wire) (v j : ℕ) (a : Sides) → ((p : Wire) → Contains ws p → p.sender ≡ j → is_done (answered v a p).receive_state ≡ is_done p.receive_state)
    → map is_done (given_to j (written v a ws)).outputs ≡ map is_done (given_to j ws).outputs
done_outputs_stay ws v j a same =
    map_twice is_done (λ (p : Wire). p.receive_state) (wires_out j (written v a ws))
    ∙ alike_out (answered v a) (answered-joins v a) (λ (p : Wire). is_done p.receive_state) (λ (p : Wire). is_done p.receive_state) j ws same ∙ sym (map_twice is_done (λ (p : Wire). p.receive_state) (wires_out j ws))
