-- What holds while sweeps go over the nodes that are marked, up and down: who stands as an update left it, and what is still to change.
use Rattle.std.specs.Prelude.{◌≡◌, ◌≢◌, ℕ, ◌+◌, ◌*◌, ◌-◌, ◌<◌, ◌≤◌, ◌⊎◌, Bool, true, false, cond, List, [], ◌∷◌, map, Some, slice_get, length, Contains, IsTrue}
use Rattle.ps_ports.specs.declared.port_state.PortState.{PortState}
use Rattle.ps_ports.specs.Ports.{Sides, is_done, keeping_done}
use Rattle.ps_ports.specs.Wires.{Wire, given_to, received, said_by, sent}
use Rattle.ps_settle.specs.Standings.{Standing, Updates, updated}

-- one for an end that isn't done
abbrev pub undone : PortState → ℕ
undone s = cond (is_done s) 0 1

abbrev pub ends_left : List Wire → ℕ
ends_left [] = 0
ends_left (p ∷ ps) = undone p.send_state + undone p.receive_state + ends_left ps

-- a wire as a node's answer leaves it
abbrev pub answered : ℕ → Sides → Wire → Wire
answered n a p = received n a (sent n a p)

module _ {N : Type 0} (rank : N → ℕ) where
  abbrev pub stages_left : List N → ℕ
  stages_left [] = 0
  stages_left (n ∷ ns) = (2 - rank n) + stages_left ns

  -- how many ends may still become done, and stages change
  abbrev pub left : Standing N → ℕ
  left s = ends_left s.wires + stages_left s.nodes

module _ {N : Type 0} (rank : N → ℕ) (Update : N → Sides → N → Sides → Type 0) where
  -- the node stands as an update in its last stage left it, and is given the same now
  pub record WasLeft (s : Standing N) (n : ℕ) (b : N) : Type 0 where
    pub before : N
    pub answer : Sides
    pub update : Update before (given_to n s.wires) b answer
    pub same_stage : rank before ≡ rank b
    pub says : said_by n s.wires ≡ keeping_done (said_by n s.wires) answer

  -- the same, but its readers may be ready or blocked now where they weren't
  pub record SendsLeft (s : Standing N) (n : ℕ) (b : N) : Type 0 where
    pub before : N
    pub given : Sides
    pub answer : Sides
    pub update : Update before given b answer
    pub same_stage : rank before ≡ rank b
    pub says : said_by n s.wires ≡ keeping_done (said_by n s.wires) answer
    pub inputs : given.inputs ≡ (given_to n s.wires).inputs
    pub outputs : map is_done given.outputs ≡ map is_done (given_to n s.wires).outputs

  -- who isn't marked was left
  abbrev pub OthersLeft : (Marked : ℕ → Type 0) → Standing N → Type 0
  OthersLeft Marked s = (n : ℕ) (b : N) → slice_get s.nodes n ≡ Some b → ¬ Marked n → WasLeft s n b

  abbrev pub OthersSend : (Marked : ℕ → Type 0) → Standing N → Type 0
  OthersSend Marked s = (n : ℕ) (b : N) → slice_get s.nodes n ≡ Some b → ¬ Marked n → SendsLeft s n b

-- The readers to whom the node now says something else are marked, and no one else is.
pub record TellsReaders (v : ℕ) (answer : Sides) (ws : List Wire) (old new : ℕ → Bool) : Type 0 where
  pub kept : (n : ℕ) → IsTrue (old n) → IsTrue (new n)
  pub told : (p : Wire) → Contains ws p → p.sender ≡ v → ((answered v answer p).send_state ≡ p.send_state) ⊎ IsTrue (new p.receiver)
  pub only : (n : ℕ) → IsTrue (new n) → IsTrue (old n) ⊎ ((p : Wire) × Contains ws p × (p.sender ≡ v) × (p.receiver ≡ n) × ((answered v answer p).send_state ≢ p.send_state))

pub record TellsSenders (v : ℕ) (answer : Sides) (ws : List Wire) (old new : ℕ → Bool) : Type 0 where
  pub kept : (n : ℕ) → IsTrue (old n) → IsTrue (new n)
  pub told : (p : Wire) → Contains ws p → p.receiver ≡ v → ((answered v answer p).receive_state ≡ p.receive_state) ⊎ IsTrue (new p.sender)
  pub only : (n : ℕ) → IsTrue (new n) → IsTrue (old n) ⊎ ((p : Wire) × Contains ws p × (p.receiver ≡ v) × (p.sender ≡ n) × ((answered v answer p).receive_state ≢ p.receive_state))

-- v is taken off the marks
pub record TakesOff (v : ℕ) (old new : ℕ → Bool) : Type 0 where
  pub was : IsTrue (old v)
  pub gone : new v ≡ false
  pub others : (n : ℕ) → n ≢ v → new n ≡ old n

-- v is marked as well where the flag is set
pub record MarksIf (flag : Bool) (v : ℕ) (old new : ℕ → Bool) : Type 0 where
  pub kept : (n : ℕ) → IsTrue (old n) → IsTrue (new n)
  pub marked : flag ≡ true → IsTrue (new v)
  pub only : (n : ℕ) → IsTrue (new n) → IsTrue (old n) ⊎ ((n ≡ v) × (flag ≡ true))

abbrev pub nobody : ℕ → Type 0
nobody n = ⊥

-- marked in one of two
abbrev pub either : (here later : ℕ → Bool) → ℕ → Type 0
either here later n = IsTrue (here n) ⊎ IsTrue (later n)

module _ {N : Type 0} (rank : N → ℕ) (Update : N → Sides → N → Sides → Type 0) where
  -- The update of node v leads from s to t, and marks the readers and the senders to whom the node says something else; the flag tells whether its stage changed.
  pub record Turned (s t : Standing N) (v : ℕ) (readers readers' senders senders' : ℕ → Bool) (changed : Bool) : Type 0 where
    pub before : N
    pub after : N
    pub answer : Sides
    pub stood : slice_get s.nodes v ≡ Some before
    pub update : Update before (given_to v s.wires) after answer
    pub next : t ≡ updated v after answer s
    pub stays : changed ≡ false → rank before ≡ rank after
    pub changes : changed ≡ true → rank before ≢ rank after
    pub tells_readers : TellsReaders v answer s.wires readers readers'
    pub tells_senders : TellsSenders v answer s.wires senders senders'

  -- A sweep up from s has led to t by so many updates: marks that are left here come later on the way, others are for the next sweep.
  -- As long as no stage changed and no end became done, all that aren't marked here send as they were left.
  pub record SweptUp (s t : Standing N) (here later : ℕ → Bool) (ticks : ℕ) : Type 0 where
    pub reached : Updates rank Update s t
    pub others : OthersLeft rank Update (either here later) t
    pub less : left rank t ≤ left rank s
    pub calm : left rank t ≡ left rank s → OthersSend rank Update (λ n. IsTrue (here n)) t
    pub ahead : (n : ℕ) → IsTrue (here n) → (ticks ≤ n) × (n < length t.nodes)
    pub few : ticks ≤ length t.nodes
    pub inside : (n : ℕ) → IsTrue (later n) → n < length t.nodes
    pub as_many : (length t.nodes ≡ length s.nodes) × (length t.wires ≡ length s.wires)

  -- The same for a sweep down: where all sent as they were left when it began, as long as no stage changed and no end became done, they still do, and nothing is marked for later.
  pub record SweptDown (s t : Standing N) (here later : ℕ → Bool) (ticks : ℕ) : Type 0 where
    pub reached : Updates rank Update s t
    pub others : OthersLeft rank Update (either here later) t
    pub less : left rank t ≤ left rank s
    pub calm : left rank t ≡ left rank s → OthersSend rank Update nobody s → OthersSend rank Update nobody t × ((n : ℕ) → ¬ IsTrue (later n))
    pub ahead : (n : ℕ) → IsTrue (here n) → n + ticks < length t.nodes
    pub few : ticks ≤ length t.nodes
    pub inside : (n : ℕ) → IsTrue (later n) → n < length t.nodes
    pub as_many : (length t.nodes ≡ length s.nodes) × (length t.wires ≡ length s.wires)

  -- Sweeps up and down have led from s to t by so many updates; twice the nodes are the most that both cost, and each time that is for a change of a stage or an end that became done.
  pub record Swept (s t : Standing N) (here : ℕ → Bool) (ticks : ℕ) : Type 0 where
    pub reached : Updates rank Update s t
    pub others : OthersLeft rank Update (λ n. IsTrue (here n)) t
    pub inside : (n : ℕ) → IsTrue (here n) → n < length t.nodes
    pub as_many : (length t.nodes ≡ length s.nodes) × (length t.wires ≡ length s.wires)
    pub cost : ticks + 2 * length s.nodes * left rank t ≤ 2 * length s.nodes * (2 * length s.wires + 2 * length s.nodes)
