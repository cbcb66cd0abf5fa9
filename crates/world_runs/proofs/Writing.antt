-- How the worlds of a run are written out, and what its steps have in common.
use Rattle.std.proofs.Common.{◌≡◌, ℕ, zero, suc, ◌+◌, Bool, true, false, cond, List, [], ◌∷◌, Option, Some, None, refl, ap, subst, ◌∙◌, arith}
use Rattle.std.specs.Prelude.{get_or, nat_eq, not, option_map, slice_get, ◌&&◌, ⊤}
use Rattle.std.specs.List.{filter as kept, list_all}
use Rattle.ps_frame.specs.Functions.{Functions}
use Rattle.ps_frame.specs.Tables.{Fields, Row}
use Rattle.ps_meaning.specs.Shape.{PhysicalNode, Shape}
use Rattle.ps_ports.specs.declared.port_state.PortState.{PortState}
use Rattle.ps_turns.specs.Claims.{Claim}
use Rattle.ps_turns.specs.Progress.{Progress}
use Rattle.ps_turns.specs.Tasks.{Piece, Task, hands_on}
use Rattle.ps_world.specs.Claims.{inputs_in_phase, next_morsel}
use Rattle.ps_world.specs.Opening.{fresh_pipe, no_progress}
use Rattle.ps_world.specs.Pipes.{is_input}
use Rattle.ps_world.specs.Updates.{IsAtRest, IsSettled, TurnsAt, Updates, one_update, updated}
use Rattle.ps_world.specs.World.{Node, Pipe, World, has_next, morsel_at}
use Rattle.world_runs.specs.Nodes.{node_of, some_node, update}

abbrev pub at_place : Shape → ℕ → PhysicalNode
at_place shape n = get_or shape n some_node.node

abbrev pub pipe : (sender port receiver input : ℕ) → PortState → PortState → List (Option (List Row)) → (next : ℕ) → (in_phase is_closed : Bool) → Pipe
pipe s k r i send receive got next a c =
    record (fresh_pipe s k r i) { wire = record { sender = s; port = k; receiver = r; input = i; send_state = send; receive_state = receive }; got = got; next = next; in_phase = a; is_closed = c }

abbrev pub the : Shape → (n : ℕ) → Progress → (in_phase is_closed : Bool) → Node
the shape n progress a c = record { node = at_place shape n; progress = progress; in_phase = a; is_closed = c }

abbrev pub piece : (node input number worker gives : ℕ) → Task → List Fields → List (List Row) → Piece
piece n i k worker gives task ss ts = record { node = n; input = i; number = k; worker = worker; gives = gives; task = task; schemas = ss; tables = ts }

-- a claim that is there
abbrev pub get_claim : Option Claim → Claim
get_claim None = record { progress = no_progress 0; number = 0; gives = 0; task = hands_on; schemas = []; tables = []; takes_morsel = false; drops_input = false }
get_claim (Some c) = c

-- an update that keeps the node's progress, and one after which it has this
pub same : (F : Functions) {w v : World} (n : ℕ) → TurnsAt F w n (node_of w n) (node_of w n).progress → Updates F (update w n) v → Updates F w v
same F {w} n t u = one_update n (node_of w n) (node_of w n).progress t u

pub turned : (F : Functions) {w v : World} (n : ℕ) (progress : Progress) → TurnsAt F w n (node_of w n) progress → Updates F (updated w n (node_of w n) progress) v → Updates F w v
turned F {w} n progress t u = one_update n (node_of w n) progress t u

-- where a node closes, it has no claim left
pub both_none : (b : Bool) → cond {A = Option Claim} b None None ≡ None
both_none true = refl
both_none false = refl

neither : (a b h : Bool) → (a && b) ≡ true → not (a && (b && h)) ≡ true → h ≡ false
neither true true true t e = absurd (let no : false ≡ true = e in cc)
neither true true false t e = refl
neither true false h t e = absurd (let no : false ≡ true = t in cc)
neither false b h t e = absurd (let no : false ≡ true = t in cc)

first_of_three : (a b c : Bool) → ((a && b) && c) ≡ true → (a && c) ≡ true
first_of_three true true c e = e
first_of_three true false c e = absurd (let no : false ≡ true = e in cc)
first_of_three false b c e = absurd (let no : false ≡ true = e in cc)

both : (a b : Bool) → (a && b) ≡ true → (a ≡ true) × (b ≡ true)
both true b e = (refl, e)
both false b e = absurd (let no : false ≡ true = e in cc)

-- whichever input is asked, nothing waits for a node none of whose pipes in the phase has a next morsel
none_among : (n i : ℕ) (ps : List Pipe) → list_all (λ (p : Pipe). not (nat_eq p.wire.receiver n && (p.in_phase && has_next p))) ps ≡ true → next_morsel (kept (λ (p : Pipe). is_input n i p && p.in_phase) ps) ≡ None
none_among n i [] e = refl
none_among n i (p ∷ ps) e = by (is_input n i p && p.in_phase) refl (none_among n i ps parts.1)
  where
    parts : (not (nat_eq p.wire.receiver n && (p.in_phase && has_next p)) ≡ true) × (list_all (λ (p : Pipe). not (nat_eq p.wire.receiver n && (p.in_phase && has_next p))) ps ≡ true)
    parts = both (not (nat_eq p.wire.receiver n && (p.in_phase && has_next p))) (list_all (λ (p : Pipe). not (nat_eq p.wire.receiver n && (p.in_phase && has_next p))) ps) e

    by : (b : Bool) → (is_input n i p && p.in_phase) ≡ b → next_morsel (kept (λ (p : Pipe). is_input n i p && p.in_phase) ps) ≡ None → next_morsel (kept (λ (p : Pipe). is_input n i p && p.in_phase) (p ∷ ps)) ≡ None
    by false t rest = rw t rest
    by true t rest =
        let none = neither (nat_eq p.wire.receiver n) p.in_phase (has_next p) (first_of_three (nat_eq p.wire.receiver n) (nat_eq p.wire.input i) p.in_phase t) parts.0 in
        ap (λ b. next_morsel (cond b (p ∷ kept (λ (p : Pipe). is_input n i p && p.in_phase) ps) (kept (λ (p : Pipe). is_input n i p && p.in_phase) ps))) t
        ∙ ap (λ b. cond b (option_map {U = ℕ × List Row} (λ rs. (p.next, rs)) (morsel_at p.next p.got)) (next_morsel (kept (λ (p : Pipe). is_input n i p && p.in_phase) ps))) none ∙ rest

pub no_next : (w : World) (n i : ℕ) → list_all (λ (p : Pipe). not (nat_eq p.wire.receiver n && (p.in_phase && has_next p))) w.pipes ≡ true → next_morsel (inputs_in_phase w n i) ≡ None
no_next w n i e = none_among n i w.pipes e

-- each of these nodes, from a number on, is at rest
abbrev pub RestFrom : World → ℕ → List Node → Type 0
RestFrom w k [] = ⊤
RestFrom w k (x ∷ xs) = IsAtRest w k x × RestFrom w (k + 1) xs

rests : (w : World) (k : ℕ) (xs : List Node) → RestFrom w k xs → (n : ℕ) (node : Node) → slice_get xs n ≡ Some node → IsAtRest w (k + n) node
rests w k [] h n node e = absurd (let no : None ≡ Some node = e in cc)
rests w k (x ∷ xs) h zero node e = let q : Some x ≡ Some node = e in let is : x ≡ node = cc in let same : k ≡ k + 0 = omega arith in subst (λ m. IsAtRest w m node) same (subst (IsAtRest w k) is h.0)
rests w k (x ∷ xs) h (suc n) node e = let same : k + 1 + n ≡ k + suc n = omega arith in subst (λ m. IsAtRest w m node) same (rests w (k + 1) xs h.1 n node e)

pub settled_by : (w : World) → RestFrom w 0 w.nodes → IsSettled w
settled_by w h n node e = let same : 0 + n ≡ n = omega arith in subst (λ m. IsAtRest w m node) same (rests w 0 w.nodes h n node e)
