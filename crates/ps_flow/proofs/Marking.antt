-- Marks that are changed one by one.
use Rattle.std.proofs.Common.{◌≡◌, ◌≢◌, ℕ, zero, suc, ◌+◌, ◌<◌, ◌≤◌, ◌⊎◌, inl, inr, Bool, true, false, List, [], ◌∷◌, ◌++◌, length, slice_index_or, ap, refl, sym, ◌∙◌, arith}
use Rattle.std.specs.Prelude.{◌||◌, get_or, map, slice_set, take}
use Rattle.ps_flow.specs.Marked.{closed_at, phase_marks, unmarked}
use Rattle.ps_flow.specs.declared.marks.Mark.{Mark}
use Rattle.ps_graph.proofs.Telling.{one_more-cases}
use Rattle.ps_graph.specs.Running.{node_numbers}
use Rattle.ps_graph.specs.declared.key.GraphNodeKey.{GraphNodeKey}
use Rattle.ps_ports.specs.Phases.{is_one_of}
use Rattle.ps_settle.proofs.Ends.{other_number, same_number}

pub close_set : (ms : List Mark) (n : ℕ) (m : Mark) → n < length ms → m ≡ slice_index_or ms n m → slice_set ms n (record m { is_closed = Bool.true }) ≡ closed_at n ms
close_set [] n m h e = absurd (omega (arith, h))
close_set (x ∷ xs) zero m h e = ap (λ (y : Mark). record y { is_closed = Bool.true } ∷ xs) e
close_set (x ∷ xs) (suc n) m h e = ap (λ l. x ∷ l) (close_set xs n m (omega (arith, h)) e)

pub close_past : (ms : List Mark) (n : ℕ) → length ms ≤ n → ms ≡ closed_at n ms
close_past [] n h = refl
close_past (x ∷ xs) zero h = absurd (omega (arith, h))
close_past (x ∷ xs) (suc n) h = ap (λ l. x ∷ l) (close_past xs n (omega (arith, h)))

-- so many have lost their marks
abbrev pub ended_to : ℕ → List Mark → List Mark
ended_to zero ms = ms
ended_to (suc n) [] = []
ended_to (suc n) (m ∷ ms) = unmarked ∷ ended_to n ms

pub end_more : (n : ℕ) (ms : List Mark) → n < length ms → slice_set (ended_to n ms) n unmarked ≡ ended_to (suc n) ms
end_more n [] h = absurd (omega (arith, h))
end_more zero (m ∷ ms) h = refl
end_more (suc n) (m ∷ ms) h = ap (λ l. unmarked ∷ l) (end_more n ms (omega (arith, h)))

pub end_all : (n : ℕ) (ms : List Mark) → length ms ≤ n → ended_to n ms ≡ map (λ (m : Mark). unmarked) ms
end_all zero [] h = refl
end_all zero (m ∷ ms) h = absurd (omega (arith, h))
end_all (suc n) [] h = refl
end_all (suc n) (m ∷ ms) h = ap (λ l. unmarked ∷ l) (end_all n ms (omega (arith, h)))

pub ended_long : (n : ℕ) (ms : List Mark) → length (ended_to n ms) ≡ length ms
ended_long zero ms = refl
ended_long (suc n) [] = refl
ended_long (suc n) (m ∷ ms) = ap suc (ended_long n ms)

-- OPENING
-- so many are out of the phase
abbrev pub out_to : ℕ → List Mark → List Mark
out_to zero ms = ms
out_to (suc n) [] = []
out_to (suc n) (m ∷ ms) = record m { in_phase = false } ∷ out_to n ms

pub out_more : (n : ℕ) (ms : List Mark) (m : Mark) → n < length ms → m ≡ slice_index_or (out_to n ms) n m → slice_set (out_to n ms) n (record m { in_phase = false }) ≡ out_to (suc n) ms
out_more n [] m h e = absurd (omega (arith, h))
out_more zero (x ∷ xs) m h e = ap (λ (y : Mark). record y { in_phase = false } ∷ xs) e
out_more (suc n) (x ∷ xs) m h e = ap (λ l. record x { in_phase = false } ∷ l) (out_more n xs m (omega (arith, h)) e)

pub out_all : (n k : ℕ) (ms : List Mark) → length ms ≤ n → out_to n ms ≡ phase_marks [] k ms
out_all zero k [] h = refl
out_all zero k (m ∷ ms) h = absurd (omega (arith, h))
out_all (suc n) k [] h = refl
out_all (suc n) k (m ∷ ms) h = ap (λ l. record m { in_phase = false } ∷ l) (out_all n (k + 1) ms (omega (arith, h)))

pub out_long : (n : ℕ) (ms : List Mark) → length (out_to n ms) ≡ length ms
out_long zero ms = refl
out_long (suc n) [] = refl
out_long (suc n) (m ∷ ms) = ap suc (out_long n ms)

pub marks_long : (ns : List ℕ) (b : ℕ) (ms : List Mark) → length (phase_marks ns b ms) ≡ length ms
marks_long ns b [] = refl
marks_long ns b (m ∷ ms) = ap suc (marks_long ns (b + 1) ms)

-- one number more is that of this node, or not
here_too : (ns : List ℕ) (j b : ℕ) → b ≡ j → is_one_of b (ns ++ j ∷ []) ≡ true
here_too ns j b e = one_more-cases b j ns ∙ ap (λ c. is_one_of b ns || c) (same_number b j e) ∙ or_true (is_one_of b ns)
  where
    or_true : (c : Bool) → (c || true) ≡ true
    or_true true = refl
    or_true false = refl

not_here : (ns : List ℕ) (j b : ℕ) → b ≢ j → is_one_of b (ns ++ j ∷ []) ≡ is_one_of b ns
not_here ns j b e = one_more-cases b j ns ∙ ap (λ c. is_one_of b ns || c) (other_number b j e) ∙ or_false (is_one_of b ns)
  where
    or_false : (c : Bool) → (c || false) ≡ c
    or_false true = refl
    or_false false = refl

-- one number more, of none of these nodes
pub marks_without : (ns : List ℕ) (j b : ℕ) (ms : List Mark) → (j < b) ⊎ (b + length ms ≤ j) → phase_marks ns b ms ≡ phase_marks (ns ++ j ∷ []) b ms
marks_without ns j b [] far = refl
marks_without ns j b (m ∷ ms) far =
    let other : b ≢ j = λ e. elim far [ inl lower ↦ absurd (omega (arith, lower, e)) | inr past ↦ absurd (omega (arith, past, e)) ] in
    let rest : (j < b + 1) ⊎ (b + 1 + length ms ≤ j) = elim far [ inl lower ↦ inl (omega (arith, lower)) | inr past ↦ inr (omega (arith, past)) ] in
    let head = not_here ns j b other in
    let tail = marks_without ns j (b + 1) ms rest in
    λ i. record m { in_phase = sym head i } ∷ tail i

pub put_mark : (ns : List ℕ) (b k : ℕ) (ms : List Mark) (x : Mark) → k < length ms → x ≡ slice_index_or (phase_marks ns b ms) k x → slice_set (phase_marks ns b ms) k (record x { in_phase = true }) ≡ phase_marks (ns ++ (b + k) ∷ []) b ms
put_mark ns b k [] x h e = absurd (omega (arith, h))
put_mark ns b zero (m ∷ ms) x h e =
    let here : is_one_of b (ns ++ (b + 0) ∷ []) ≡ true = here_too ns (b + 0) b (omega arith) in
    let tail = marks_without ns (b + 0) (b + 1) ms (inl (omega arith)) in
    ap (λ (y : Mark). record y { in_phase = true } ∷ phase_marks ns (b + 1) ms) e ∙ (λ i. record m { in_phase = sym here i } ∷ tail i)
put_mark ns b (suc k) (m ∷ ms) x h e =
    let head = not_here ns (b + suc k) b (λ q. omega (arith, q)) in
    let there : b + 1 + k ≡ b + suc k = omega arith in
    let tail = put_mark ns (b + 1) k ms x (omega (arith, h)) e ∙ ap (λ j. phase_marks (ns ++ j ∷ []) (b + 1) ms) there in
    λ i. record m { in_phase = sym head i } ∷ tail i

pub put_past : (ns : List ℕ) (k : ℕ) (ms : List Mark) → length ms ≤ k → phase_marks ns 0 ms ≡ phase_marks (ns ++ k ∷ []) 0 ms
put_past ns k ms h = marks_without ns k 0 ms (inr (omega (arith, h)))

-- the numbers of one key more, and of all
pub nodes-more : (keys : List GraphNodeKey) (i : ℕ) (d : GraphNodeKey) → i < length keys → node_numbers (take (i + 1) keys) ≡ node_numbers (take i keys) ++ (get_or keys i d).0 ∷ []
nodes-more [] i d h = absurd (omega (arith, h))
nodes-more (k ∷ ks) zero d h = refl
nodes-more (k ∷ ks) (suc i) d h =
    let e : suc i + 1 ≡ suc (i + 1) = omega arith in
    ap (λ n. node_numbers (take n (k ∷ ks))) e ∙ ap (λ l. k.0 ∷ l) (nodes-more ks i d (omega (arith, h)))

pub nodes_over : (keys : List GraphNodeKey) (i : ℕ) → length keys ≤ i → take i keys ≡ keys
nodes_over [] zero h = refl
nodes_over [] (suc i) h = refl
nodes_over (k ∷ ks) zero h = absurd (omega (arith, h))
nodes_over (k ∷ ks) (suc i) h = ap (λ l. k ∷ l) (nodes_over ks i (omega (arith, h)))
