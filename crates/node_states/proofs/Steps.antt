-- What walks along ports answer at those that are left.
use Rattle.std.proofs.Common.{◌≡◌, ℕ, zero, suc, ◌+◌, Bool, true, false, ◌&&◌, ◌||◌, cond, List, [], ◌∷◌, drop, get_or, length, ◌<◌, refl, sym, ap, ◌∙◌, add-one}
use Rattle.node_states.proofs.Walks.{from_place}
use Rattle.node_states.specs.Pipes.{is_empty_at}
use Rattle.ps_ports.specs.declared.port_state.PortState.{PortState}
use Rattle.ps_ports.specs.declared.port_state.PortState.TheVariants as port
use Rattle.ps_ports.specs.Ports.{is_done, kept_done, kept_state, repeated}
use Rattle.ps_turns.specs.Updates.{port_answers, undone_empty, union_inputs}

-- one state at each
abbrev pub set_rest : PortState → List PortState → List PortState
set_rest s ports = kept_done ports (repeated s ports)

-- a union's inputs, in front of the first that isn't done or behind it
abbrev pub pass_rest : (output : PortState) → (is_behind : Bool) → List PortState → List PortState
pass_rest output false inputs = kept_done inputs (union_inputs output inputs)
pass_rest output true inputs = kept_done inputs (repeated port.Blocked inputs)

-- a multiplexer's outputs
abbrev pub offer_rest : (input : PortState) → (empties : List Bool) → List PortState → List PortState
offer_rest input es outputs = kept_done outputs (port_answers input es outputs)

-- where nothing is said of the pipes that are left
all_said : (b : Bool) (os : List PortState) → true ≡ ((b || true) && undone_empty [] os)
all_said true [] = refl
all_said true (o ∷ os) = refl
all_said false [] = refl
all_said false (o ∷ os) = refl

undone_behind : (es : List Bool) (i : ℕ) (o : PortState) (os : List PortState) → undone_empty (drop i es) (o ∷ os) ≡ ((is_done o || is_empty_at es i) && undone_empty (drop (suc i) es) os)
undone_behind [] zero o os = all_said (is_done o) os
undone_behind [] (suc i) o os = all_said (is_done o) os
undone_behind (e ∷ es) zero o os = refl
undone_behind (e ∷ es) (suc i) o os = undone_behind es i o os

-- one output more is asked
pub undone_at : (es : List Bool) (i : ℕ) (o : PortState) (os : List PortState) → undone_empty (drop i es) (o ∷ os) ≡ ((is_done o || is_empty_at es i) && undone_empty (drop (i + 1) es) os)
undone_at es i o os = undone_behind es i o os ∙ ap (λ k. (is_done o || is_empty_at es i) && undone_empty (drop k es) os) (sym (add-one i))

-- an output that is done or drained leaves the answer to those that are left; another one settles it
pub undone_more : (es : List Bool) (os : List PortState) (i : ℕ) → i < length os → (is_done (get_or os i port.Blocked) || is_empty_at es i) ≡ true
    → undone_empty (drop (i + 1) es) (drop (i + 1) os) ≡ undone_empty (drop i es) (drop i os)
undone_more es os i lt drained =
    sym (undone_at es i (get_or os i port.Blocked) (drop (i + 1) os) ∙ ap (λ b. b && undone_empty (drop (i + 1) es) (drop (i + 1) os)) drained) ∙ ap (undone_empty (drop i es)) (sym (from_place os i port.Blocked lt))

pub undone_here : (es : List Bool) (os : List PortState) (i : ℕ) → i < length os → (is_done (get_or os i port.Blocked) || is_empty_at es i) ≡ false → undone_empty (drop i es) (drop i os) ≡ false
undone_here es os i lt waits =
    ap (undone_empty (drop i es)) (from_place os i port.Blocked lt) ∙ undone_at es i (get_or os i port.Blocked) (drop (i + 1) os) ∙ ap (λ b. b && undone_empty (drop (i + 1) es) (drop (i + 1) os)) waits

offer_behind : (input : PortState) (es : List Bool) (i : ℕ) (o : PortState) (os : List PortState)
    → offer_rest input (drop i es) (o ∷ os) ≡ kept_state o (cond (is_empty_at es i) input port.Ready) ∷ offer_rest input (drop (suc i) es) os
offer_behind input [] zero o os = refl
offer_behind input [] (suc i) o os = refl
offer_behind input (e ∷ es) zero o os = refl
offer_behind input (e ∷ es) (suc i) o os = offer_behind input es i o os

-- one output more is answered
pub offer_at : (input : PortState) (es : List Bool) (i : ℕ) (o : PortState) (os : List PortState)
    → offer_rest input (drop i es) (o ∷ os) ≡ kept_state o (cond (is_empty_at es i) input port.Ready) ∷ offer_rest input (drop (i + 1) es) os
offer_at input es i o os = offer_behind input es i o os ∙ ap (λ k. kept_state o (cond (is_empty_at es i) input port.Ready) ∷ offer_rest input (drop k es) os) (sym (add-one i))
