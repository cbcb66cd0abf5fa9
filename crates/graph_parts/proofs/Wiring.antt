-- The pipes of a shape with one node more, and how many there are.
use Rattle.std.proofs.Common.{◌≡◌, ℕ, zero, suc, ◌+◌, ◌≤◌, List, [], ◌∷◌, ◌++◌, Some, length, take, refl, ap, sym, ◌∙◌, arith, append_assoc, length-append}
use Rattle.std.specs.Prelude.{slice_get}
use Rattle.graph_parts.proofs.Lists.{append-nil}
use Rattle.graph_parts.specs.Wires.{origins_in, wires_from, wires_to}
use Rattle.ps_meaning.specs.Shape.{PhysicalNode, Shape}
use Rattle.ps_meaning.specs.Sound.{all_inputs}
use Rattle.ps_phys.specs.Walks.{Stream}

pub origins-more : (ps : Shape) (p : PhysicalNode) → origins_in (ps ++ p ∷ []) ≡ origins_in ps ++ origins_in (p ∷ [])
origins-more [] p = refl
origins-more (q ∷ ps) p = ap (λ ns. origins_in (q ∷ []) ++ ns) (origins-more ps p)

pub wires-more : (n : ℕ) (ps : Shape) (p : PhysicalNode) → wires_from n (ps ++ p ∷ []) ≡ wires_from n ps ++ wires_to (n + length ps) 0 p.inputs
wires-more n [] p =
    let same : n ≡ n + 0 = omega arith in
    append-nil (wires_to n 0 p.inputs) ∙ ap (λ m. wires_to m 0 p.inputs) same
wires-more n (q ∷ ps) p =
    let same : n + 1 + length ps ≡ n + suc (length ps) = omega arith in
    ap (λ ws. wires_to n 0 q.inputs ++ ws) (wires-more (n + 1) ps p ∙ ap (λ m. wires_from (n + 1) ps ++ wires_to m 0 p.inputs) same)
    ∙ sym (append_assoc (wires_to n 0 q.inputs) (wires_from (n + 1) ps) (wires_to (n + suc (length ps)) 0 p.inputs))

wires-to-count : (r i : ℕ) (is : List Stream) → length (wires_to r i is) ≡ length is
wires-to-count r i [] = refl
wires-to-count r i (s ∷ is) = ap suc (wires-to-count r (i + 1) is)

pub wires-count : (n : ℕ) (ps : Shape) → length (wires_from n ps) ≡ length (all_inputs ps)
wires-count n [] = refl
wires-count n (p ∷ ps) =
    let all = length-append (wires_to n 0 p.inputs) (wires_from (n + 1) ps) in
    let inputs = length-append p.inputs (all_inputs ps) in
    let here = wires-to-count n 0 p.inputs in
    let rest = wires-count (n + 1) ps in
    omega (arith, all, inputs, here, rest)

pub inputs-room : (ps : Shape) (k : ℕ) (q : PhysicalNode) → slice_get ps k ≡ Some q → length (all_inputs (take k ps)) + length q.inputs ≤ length (all_inputs ps)
inputs-room [] k q e = cc
inputs-room (p ∷ ps) zero q e =
    let is : p ≡ q = cc in
    let all = length-append p.inputs (all_inputs ps) in
    let same = ap (λ (x : PhysicalNode). length x.inputs) is in
    omega (arith, all, same)
inputs-room (p ∷ ps) (suc k) q e =
    let all = length-append p.inputs (all_inputs ps) in
    let front = length-append p.inputs (all_inputs (take k ps)) in
    let rest = inputs-room ps k q e in
    omega (arith, all, front, rest)
