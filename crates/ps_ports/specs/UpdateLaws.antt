-- The laws of the updates of one node, whatever the node is: what a graph of such nodes needs to come to rest.
use Rattle.std.specs.Prelude.{◌≡◌, ℕ, ◌+◌, ◌*◌, ◌≤◌, ◌⊎◌, List, length, Some, slice_get, IsTrue}
use Rattle.ps_ports.specs.declared.port_state.PortState.{PortState}
use Rattle.ps_ports.specs.Ports.{Sides, is_done}

-- each port that is done in the first stays so in the second
abbrev pub StayDone : List PortState → List PortState → Type 0
StayDone olds news = (i : ℕ) (s : PortState) → slice_get olds i ≡ Some s → IsTrue (is_done s) → slice_get news i ≡ Some s

-- where neither is done, the two say the same
abbrev pub AgreeApartFromDone : List PortState → List PortState → Type 0
AgreeApartFromDone xs ys =
    (i : ℕ) (x y : PortState) → slice_get xs i ≡ Some x → slice_get ys i ≡ Some y → IsTrue (is_done x) ⊎ IsTrue (is_done y) ⊎ (x ≡ y)

-- these make no port done that the given ones don't have done
abbrev pub MakesNoneDone : Sides → Sides → Type 0
MakesNoneDone given a = StayDone a.inputs given.inputs × StayDone a.outputs given.outputs

-- N is what a node is seen as, rank the number of stages that it has behind it, and Update relates a node and what it is given to the node afterwards and its answer.
module _ {N : Type 0} (rank : N → ℕ) (Update : N → Sides → N → Sides → Type 0) where
  pub record KeepsUpdateLaws : Type 0 where
    pub lengths : (a b : N) (given answer : Sides) → Update a given b answer → (length answer.inputs ≡ length given.inputs) × (length answer.outputs ≡ length given.outputs)
    -- what is given as done is answered done
    pub done_stays : (a b : N) (given answer : Sides) → Update a given b answer → StayDone given.inputs answer.inputs × StayDone given.outputs answer.outputs
    pub two_stages : (a b : N) (given answer : Sides) → Update a given b answer → (rank a ≤ rank b) × (rank b ≤ 2)
    -- the port states, and whether the stage changes, are fixed by the node and what it is given
    pub one_answer : (a b c : N) (given answer other : Sides) → Update a given b answer → Update a given c other → (answer ≡ other) × (rank b ≡ rank c)
    -- apart from done, a send answer depends on what the inputs are given alone, in one stage
    pub sends_follow : (a b c : N) (given given' answer answer' : Sides) → given.inputs ≡ given'.inputs → Update a given b answer → Update a given' c answer' → rank b ≡ rank c
        → AgreeApartFromDone answer.outputs answer'.outputs
    -- after an update that makes no port done and changes no stage the node answers, and changes its stage, as it would have before, whatever it is given that keeps what is done
    pub quiet : (a b : N) (given answer : Sides) → Update a given b answer → rank a ≡ rank b → MakesNoneDone given answer
        → (given' answer' : Sides) (c : N) → StayDone answer.inputs given'.inputs → StayDone answer.outputs given'.outputs → Update b given' c answer'
        → (d : N) × Update a given' d answer' × (rank c ≡ rank d)

-- how many updates of single nodes lead to rest at most
abbrev pub update_limit : (nodes pipes : ℕ) → ℕ
update_limit n p = 2 * n * (2 * p + 2 * n + 2)
