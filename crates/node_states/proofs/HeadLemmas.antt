-- What a zip's update reads of its heads tells what the definitions ask of them.
use Rattle.std.proofs.Common.{◌≡◌, ℕ, Bool, true, false, ◌&&◌, ◌||◌, ◌==◌, not, cond, Some, None, List, [], ◌∷◌, length, map, nat_eq, slice_get, refl, sym, ap, subst, ◌∙◌, eq-eqb, rules}
use Rattle.std.specs.List.{list_all, list_any, filter as kept}
use Rattle.node_states.specs.Heads.{all_broadcast, are_spent, disagree, head_state, is_over, open_lengths}
use Rattle.node_states.specs.Views.{NodeView, row_for}
use Rattle.node_states.specs.States.{IsZip}
use Rattle.node_states.specs.declared.heads.HeadState.{HeadState}
use Rattle.ps_frame.specs.Causes.{is_empty}
use Rattle.ps_frame.specs.Zip.{all_same}
use Rattle.ps_frame.specs.declared.value.DataFault.TheVariants as data_fault
use Rattle.ps_meaning.specs.Shape.{PhysicalNode}
use Rattle.ps_ports.specs.declared.port_state.PortState.TheVariants as port
use Rattle.ps_ports.specs.Ports.{Sides, all_done, first_port, is_blocked, is_done, repeated}
use Rattle.ps_turns.specs.Heads.{Head, head_lengths}
use Rattle.ps_turns.specs.Updates.{answer_by, shape_fault, zip_is_over}

empty_length : {A : Type 0} (xs : List A) → nat_eq (length xs) 0 ≡ is_empty xs
empty_length [] = refl
empty_length (x ∷ xs) = search rules

all_broadcast_seen : (hs : List Head) → all_broadcast (map head_state hs) ≡ list_all (λ (h : Head). h.broadcasts) hs
all_broadcast_seen [] = refl
all_broadcast_seen (h ∷ hs) = ap (λ b. h.broadcasts && b) (all_broadcast_seen hs)

are_spent_seen : (hs : List Head) → are_spent (map head_state hs) ≡ list_all (λ (h : Head). h.broadcasts || is_empty h.rest) hs
are_spent_seen [] = refl
are_spent_seen (h ∷ hs) =
    ap (λ a. (h.broadcasts || a) && are_spent (map head_state hs)) (empty_length h.rest) ∙ ap (λ b. (h.broadcasts || is_empty h.rest) && b) (are_spent_seen hs)

-- a head in front, by whether it broadcasts
head_in_front : (h : Head) (hs : List Head) (b : Bool) → open_lengths (map head_state hs) ≡ head_lengths false hs
    → map (λ (x : HeadState). x.rows) (cond (not b) (head_state h ∷ kept (λ (x : HeadState). not x.broadcasts) (map head_state hs)) (kept (λ (x : HeadState). not x.broadcasts) (map head_state hs)))
    ≡ map (λ (x : Head). length x.rest) (cond (not b && not (false && is_empty h.rest)) (h ∷ kept (λ (x : Head). not x.broadcasts && not (false && is_empty x.rest)) hs) (kept (λ (x : Head). not x.broadcasts && not (false && is_empty x.rest)) hs))
head_in_front h hs true rest = rest
head_in_front h hs false rest = ap (λ ls. length h.rest ∷ ls) rest

open_lengths_seen : (hs : List Head) → open_lengths (map head_state hs) ≡ head_lengths false hs
open_lengths_seen [] = refl
open_lengths_seen (h ∷ hs) = head_in_front h hs h.broadcasts (open_lengths_seen hs)

-- the lengths are k exactly where each head that doesn't broadcast has k rows
all_like : (k : ℕ) (hs : List HeadState) → list_all (λ m. m == k) (open_lengths hs) ≡ list_all (λ (h : HeadState). h.broadcasts || (h.rows == k)) hs
all_like k [] = refl
all_like k (h ∷ hs) = like h.broadcasts (all_like k hs)
  where
    like : (b : Bool) → list_all (λ m. m == k) (open_lengths hs) ≡ list_all (λ (x : HeadState). x.broadcasts || (x.rows == k)) hs
        → list_all (λ m. m == k) (map (λ (x : HeadState). x.rows) (cond (not b) (h ∷ kept (λ (x : HeadState). not x.broadcasts) hs) (kept (λ (x : HeadState). not x.broadcasts) hs)))
        ≡ ((b || (h.rows == k)) && list_all (λ (x : HeadState). x.broadcasts || (x.rows == k)) hs)
    like true rest = rest
    like false rest = ap (λ r. (h.rows == k) && r) rest

like_first : (k : ℕ) (ls : List ℕ) → slice_get ls 0 ≡ Some k → all_same ls ≡ list_all (λ m. m == k) ls
like_first k [] first = absurd (cc)
like_first k (l ∷ ls) first =
    let same : l ≡ k = cc in
    subst (λ m. list_all (λ x. x == l) ls ≡ ((l == m) && list_all (λ x. x == m) ls)) same (sym (ap (λ b. b && list_all (λ x. x == l) ls) (eq-eqb l l refl)))

none_alike : (ls : List ℕ) → slice_get ls 0 ≡ None → all_same ls ≡ true
none_alike [] none = refl
none_alike (l ∷ ls) none = absurd (cc)

-- the lengths agree where all are the first one, or there is none
pub agree_with : (k : ℕ) (hs : List HeadState) → slice_get (open_lengths hs) 0 ≡ Some k → all_same (open_lengths hs) ≡ list_all (λ (h : HeadState). h.broadcasts || (h.rows == k)) hs
agree_with k hs first = like_first k (open_lengths hs) first ∙ all_like k hs

pub agree_none : (hs : List HeadState) → slice_get (open_lengths hs) 0 ≡ None → all_same (open_lengths hs) ≡ true
agree_none hs none = none_alike (open_lengths hs) none

-- whether the zip is over, and whether its heads can't agree
over_seen : (given : Sides) (hs : List Head) → zip_is_over hs given ≡ is_over (map head_state hs) given
over_seen given hs =
    ap (λ s. is_done (first_port given.outputs) || (all_done given.inputs && (s && not (list_all (λ (h : Head). h.broadcasts) hs)))) (sym (are_spent_seen hs))
    ∙ ap (λ b. is_done (first_port given.outputs) || (all_done given.inputs && (are_spent (map head_state hs) && not b))) (sym (all_broadcast_seen hs))

pub zip_row : (given : Sides) (extend : Bool) (hs : List HeadState) (n : NodeView) → IsZip extend hs n
    → row_for given n
    ≡ cond (is_over hs given) (record { inputs = repeated port.Done given.inputs; outputs = port.Done ∷ [] })
    (cond (list_any is_blocked given.inputs) (record { inputs = repeated port.Blocked given.inputs; outputs = port.Blocked ∷ [] })
    (record { inputs = repeated (cond (is_blocked (first_port given.outputs)) port.Blocked port.Ready) given.inputs; outputs = port.Ready ∷ [] }))
zip_row given extend hs n h =
    let answers : Bool → Sides = λ over.
    cond over (record { inputs = repeated port.Done given.inputs; outputs = port.Done ∷ [] })
    (cond (list_any is_blocked given.inputs) (record { inputs = repeated port.Blocked given.inputs; outputs = port.Blocked ∷ [] })
    (record { inputs = repeated (cond (is_blocked (first_port given.outputs)) port.Blocked port.Ready) given.inputs; outputs = port.Ready ∷ [] })) in
    ap (λ k. answer_by n.options k n.progress n.heads n.empties given) h.kind ∙ ap answers (over_seen given n.heads ∙ ap (λ s. is_over s given) h.seen)

pub zip_fault : (given : Sides) (extend : Bool) (hs : List HeadState) (n : NodeView) (p : PhysicalNode) → IsZip extend hs n
    → shape_fault p n.kind n.heads given ≡ cond (not extend && disagree hs given) (Some (record { fault = data_fault.Shape; node = p.origin })) None
zip_fault given true hs n p h = ap (λ k. shape_fault p k n.heads given) h.kind
zip_fault given false hs n p h =
    ap (λ k. shape_fault p k n.heads given) h.kind
    ∙ ap (λ ls. cond (all_done given.inputs && (not (is_done (first_port given.outputs)) && not (all_same ls))) (Some (record { fault = data_fault.Shape; node = p.origin })) None)
    (sym (ap open_lengths (sym h.seen) ∙ open_lengths_seen n.heads))

-- the row by the first of the cases that holds
pub zip_over_row : (given : Sides) (extend : Bool) (hs : List HeadState) (n : NodeView) → IsZip extend hs n → is_over hs given ≡ true
    → row_for given n ≡ record { inputs = repeated port.Done given.inputs; outputs = port.Done ∷ [] }
zip_over_row given extend hs n h over = rw over at (zip_row given extend hs n h)

pub zip_blocked_row : (given : Sides) (extend : Bool) (hs : List HeadState) (n : NodeView) → IsZip extend hs n → is_over hs given ≡ false → list_any is_blocked given.inputs ≡ true
    → row_for given n ≡ record { inputs = repeated port.Blocked given.inputs; outputs = port.Blocked ∷ [] }
zip_blocked_row given extend hs n h over blocked = rw blocked at (rw over at (zip_row given extend hs n h))

pub zip_open_row : (given : Sides) (extend : Bool) (hs : List HeadState) (n : NodeView) → IsZip extend hs n → is_over hs given ≡ false → list_any is_blocked given.inputs ≡ false
    → row_for given n ≡ record { inputs = repeated (cond (is_blocked (first_port given.outputs)) port.Blocked port.Ready) given.inputs; outputs = port.Ready ∷ [] }
zip_open_row given extend hs n h over blocked = rw blocked at (rw over at (zip_row given extend hs n h))
