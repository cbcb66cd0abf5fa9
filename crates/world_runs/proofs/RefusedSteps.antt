-- Steps that are made and steps that are refused, over a scan before a sink.
use Rattle.std.proofs.Common.{◌≡◌, ◌<◌, ℕ, zero, suc, Bool, true, false, cond, [], ◌∷◌, length, Option, Some, None, refl, sym, ap, subst, ◌∙◌, inl, inr, arith}
use Rattle.std.specs.Prelude.{Contains, get_or, nat_eq}
use Rattle.ps_frame.specs.Functions.{Functions}
use Rattle.ps_ports.specs.declared.port_state.PortState.{PortState}
use Rattle.ps_ports.specs.declared.port_state.PortState.TheVariants as port
use Rattle.ps_turns.specs.Claims.{Claim}
use Rattle.ps_turns.specs.Results.{IsResult}
use Rattle.ps_turns.specs.Tasks.{Answer, Piece, bad, good, handed_of, hands_on, partial, rows}
use Rattle.ps_world.specs.Answers.{answered}
use Rattle.ps_world.specs.Claims.{after_claim, claim_at}
use Rattle.ps_world.specs.Closing.{HasFinished, after_close}
use Rattle.ps_world.specs.Opening.{fresh_pipe, no_progress, opening}
use Rattle.ps_world.specs.Updates.{IsSettled}
use Rattle.ps_world.specs.World.{Node, World, claimed, closed, handed_in}
use Rattle.world_runs.specs.Examples.{filter_shape, one_worker, row}
use Rattle.world_runs.specs.Nodes.{node_of}
use Rattle.world_runs.specs.Refused.{IsMade, IsRefused, first_piece, scan_world, scanning, waiting_morsels}

-- a claim that is there
abbrev get_claim : Option Claim → Claim
get_claim None = record { progress = no_progress 0; number = 0; gives = 0; task = hands_on; schemas = []; tables = []; takes_morsel = false; drops_input = false }
get_claim (Some c) = c

-- the claim of the scan that sent so many morsels
abbrev next_claim : World → Claim
next_claim w = get_claim (claim_at w 0 0 (node_of w 0))

abbrev claims : World → World
claims w = after_claim w 0 0 0 (node_of w 0) (next_claim w)

abbrev w4 : World
w4 = scan_world 4 (waiting_morsels 4) []

abbrev w1 : World
w1 = scan_world 1 (waiting_morsels 1) []

abbrev out : World
out = scan_world 1 (None ∷ []) (first_piece ∷ [])

pub fifth : (F : Functions) → IsMade F w4 (claimed 0 0 4 0)
fifth F = (claims w4, (node_of w4 0, (refl, refl, refl), (omega arith, tt), refl, (refl, tt), (next_claim w4, refl, refl, refl)))

pub sixth : (F : Functions) → IsRefused F (scan_world 5 (waiting_morsels 5) []) (claimed 0 0 5 0)
sixth F v s = absurd (let no : false ≡ true = s.4.0 in cc)

pub free : (F : Functions) → IsMade F w1 (claimed 0 0 1 0)
free F = (claims w1, (node_of w1 0, (refl, refl, refl), (omega arith, tt), refl, (refl, tt), (next_claim w1, refl, refl, refl)))

pub busy : (F : Functions) → IsRefused F out (claimed 0 0 1 0)
busy F v s = s.2.1.0 refl

pub absent : (F : Functions) → IsRefused F w1 (claimed 0 0 1 1)
absent F v s = absurd (let no : 1 < 1 = s.2.0 in omega arith)

same_claim : (a b : Claim) → Some a ≡ Some b → a ≡ b
same_claim a b e = cc

same_node : (a b : Node) → Some a ≡ Some b → a ≡ b
same_node a b e = cc

pub other_number : (F : Functions) → IsRefused F w1 (claimed 0 0 2 0)
other_number F v s =
    let node : scanning 1 ≡ s.0 = same_node (scanning 1) s.0 s.1.0 in
    let there : claim_at w1 0 0 (scanning 1) ≡ Some s.5.0 = ap (λ x. claim_at w1 0 0 x) node ∙ s.5.1 in
    let one : 1 ≡ s.5.0.number = ap (λ (c : Claim). c.number) (same_claim (next_claim w1) s.5.0 there) in
    let two : s.5.0.number ≡ 2 = s.5.2 in
    absurd (omega arith)

pub its_row : (F : Functions) → IsMade F out (handed_in 0 0 0 0 (rows 1))
its_row F = (answered out first_piece (good (row 1 ∷ [])), (first_piece, (0, omega arith, refl), refl, refl, refl, refl, refl, (good (row 1 ∷ []), refl, refl, refl)))

only_piece : (q : Piece) → Contains (first_piece ∷ []) q → first_piece ≡ q
only_piece q (zero, h, e) = e
only_piece q (suc k, h, e) = absurd (omega arith)

row_count : (F : Functions) (n : ℕ) (a : Answer) → IsResult F first_piece a → rows n ≡ handed_of a → n ≡ 1
row_count F n (good rs) r e =
    let is : (row 1 ∷ []) ∷ [] ≡ rs ∷ [] = r in
    let same : rs ≡ row 1 ∷ [] = cc in
    let long : length rs ≡ 1 = ap length same in
    let counted : rows n ≡ rows (length rs) = e in
    let number : n ≡ length rs = cc in
    number ∙ long
row_count F n (partial m) r e = absurd r
row_count F n (bad c) r e = absurd r

pub two_rows : (F : Functions) → IsRefused F out (handed_in 0 0 0 0 (rows 2))
two_rows F v s =
    let q = only_piece s.0 s.1 in
    let n = row_count F 2 s.7.0 (subst (λ p. IsResult F p s.7.0) (sym q) s.7.1) s.7.2 in
    absurd (let no : 2 ≡ 1 = n in omega arith)

pub other_worker : (F : Functions) → IsRefused F out (handed_in 0 0 0 1 (rows 1))
other_worker F v s =
    let q = only_piece s.0 s.1 in
    let is : 0 ≡ s.0.worker = ap (λ (p : Piece). p.worker) q in
    let one : s.0.worker ≡ 1 = s.5 in
    absurd (omega arith)

none_there : (q : Piece) → Contains [] q → ⊥
none_there q (k, h, e) = absurd (omega arith)

pub nothing_out : (F : Functions) → IsRefused F w1 (handed_in 0 0 0 0 (rows 1))
nothing_out F v s = none_there s.0 s.1

abbrev w7 : World
w7 = scan_world 7 (waiting_morsels 7) []

both_none : (b : Bool) → cond {A = Option Claim} b None None ≡ None
both_none true = refl
both_none false = refl

pub all_given : (F : Functions) → IsMade F w7 (closed 0)
all_given F = (after_close w7 0 (node_of w7 0), (node_of w7 0, (refl, refl, refl), refl, inl (refl, λ i. both_none (nat_eq i 0)), refl))

abbrev w6 : World
w6 = scan_world 6 (waiting_morsels 6) []

pub one_left : (F : Functions) → IsRefused F w6 (closed 0)
one_left F v s = by s.3
  where
    by : HasFinished w6 0 s.0 → ⊥
    by (inl done) =
        let node : scanning 6 ≡ s.0 = same_node (scanning 6) s.0 s.1.0 in
        let none : claim_at w6 0 0 (scanning 6) ≡ None = ap (λ x. claim_at w6 0 0 x) node ∙ done.1 0 in
        let no : Some (next_claim w6) ≡ None = none in cc
    by (inr cut) = let no : false ≡ true = cut in cc

pub one_out : (F : Functions) → IsRefused F (scan_world 7 (None ∷ waiting_morsels 6) (first_piece ∷ [])) (closed 0)
one_out F v s = let no : first_piece ∷ [] ≡ [] = s.2 in cc

-- what the source's end says before any update
said : World → PortState
said w = (get_or w.pipes 0 (fresh_pipe 0 0 0 0)).wire.send_state

pub unsettled : IsSettled (opening filter_shape one_worker) → ⊥
unfolding said
unsettled rest =
    let w = opening filter_shape one_worker in
    let states = (rest 0 (node_of (opening filter_shape one_worker) 0) refl).states in
    let no : port.Ready ≡ port.Blocked = ap said states in cc
