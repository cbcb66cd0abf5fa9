-- A slice goes on skipping and taking over pieces.
use Rattle.std.proofs.Common.{◌≡◌, ℕ, zero, suc, ◌+◌, ◌-◌, ◌≤◌, List, [], ◌∷◌, ◌++◌, length, take, drop, refl, sym, ap, subst, ◌∙◌, inl, arith, length-append}
use Rattle.std.specs.Prelude.{◌||◌, Bool, true, false, cond, IsTrue, min, ◌^◌, nat_eq, nat_le}
use Rattle.ps_frame.specs.Causes.{Cause}
use Rattle.ps_frame.specs.Functions.{Functions}
use Rattle.ps_frame.specs.Tables.{Fields, Row, Table}
use Rattle.ps_meaning.specs.Cases.{cut_table, end_of}
use Rattle.ps_meaning.specs.Shape.{PhysicalCase, PhysicalKind, PhysicalNode, streaming_slice}
use Rattle.ps_world.specs.Booking.{CaseAfter, GoesOn, slice_after}
use Rattle.ps_world.specs.Passing.{in_front}
use Rattle.passing_laws.proofs.ExactPieces.{exact-on}
use Rattle.passing_laws.proofs.ZipPieces.{table_with}

none-taken : (m : ℕ) → take {A = Row} m [] ≡ []
none-taken zero = refl
none-taken (suc m) = refl

none-dropped : (d : ℕ) → drop {A = Row} d [] ≡ []
none-dropped zero = refl
none-dropped (suc d) = refl

none-between : (d m : ℕ) → drop {A = Row} d (take m []) ≡ []
none-between d m = ap (drop d) (none-taken m) ∙ none-dropped d

-- a window of a front and the rest
window-front : (d m : ℕ) (xs ys : List Row) → drop d (take m (xs ++ ys)) ≡ drop d (take m xs) ++ drop (d - length xs) (take (m - length xs) ys)
window-front d m [] ys =
    let e : d ≡ d - 0 = omega arith in
    let f : m ≡ m - 0 = omega arith in
    (λ i. drop (e i) (take (f i) ys)) ∙ ap (λ zs. zs ++ drop (d - 0) (take (m - 0) ys)) (sym (none-between d m))
window-front d zero (x ∷ xs) ys =
    let e : 0 ≡ 0 - suc (length xs) = omega arith in
    none-dropped d ∙ (λ i. sym (none-dropped d) i ++ sym (none-dropped (d - suc (length xs))) i) ∙ ap (λ k. drop d [] ++ drop (d - suc (length xs)) (take k ys)) e
window-front zero (suc m) (x ∷ xs) ys =
    let e : m - length xs ≡ suc m - suc (length xs) = omega arith in
    let f : 0 - length xs ≡ 0 - suc (length xs) = omega arith in
    ap (λ zs. x ∷ zs) (window-front zero m xs ys) ∙ (λ i. x ∷ take m xs ++ drop (f i) (take (e i) ys))
window-front (suc d) (suc m) (x ∷ xs) ys =
    let e : m - length xs ≡ suc m - suc (length xs) = omega arith in
    let f : d - length xs ≡ suc d - suc (length xs) = omega arith in
    window-front d m xs ys ∙ (λ i. drop d (take m xs) ++ drop (f i) (take (e i) ys))

less-left : (m k a : ℕ) → m - (k + a) ≡ (m - k) - a
less-left m k a = omega arith

reached : (m k a r n : ℕ) → n ≡ a + r → nat_le (m - (k + a)) r ≡ nat_le (m - k) n
reached m k a r n h = grind arith

-- what ends nothing
cond-none : (b : Bool) → cond {A = List Cause} b [] [] ≡ []
cond-none true = refl
cond-none false = refl

-- with any end m
module _ (s : Fields) (offset n m : ℕ) where
  abbrev after : ℕ → List Row → List Cause → Table
  after k rows causes = table_with s (drop (offset - k) (take (m - k) rows)) (cond (nat_eq n 0 || nat_le (m - k) (length rows)) [] causes)

  after-front : (k : ℕ) (a rows : List Row) (causes : List Cause) → in_front (drop (offset - k) (take (m - k) a)) (after (k + length a) rows causes) ≡ after k (a ++ rows) causes
  after-front k a rows causes =
      λ i. table_with s (all i) (cond (nat_eq n 0 || reached m k (length a) (length rows) (length (a ++ rows)) (length-append a rows) i) [] causes)
    where
      all : drop (offset - k) (take (m - k) a) ++ drop (offset - (k + length a)) (take (m - (k + length a)) rows) ≡ drop (offset - k) (take (m - k) (a ++ rows))
      all = (λ i. drop (offset - k) (take (m - k) a) ++ drop (less-left offset k (length a) i) (take (less-left m k (length a) i) rows)) ∙ sym (window-front (offset - k) (m - k) a rows)

past-end : (m k n : ℕ) → nat_le m k ≡ true → nat_le (m - k) n ≡ true
past-end m k n h = grind arith

none-ends : (b c d : Bool) (causes : List Cause) → IsTrue (b || c) → (c ≡ true → d ≡ true) → cond (b || d) [] causes ≡ []
none-ends true c d causes h f = refl
none-ends false c d causes h f = ap (λ x. cond x [] causes) (f h)

-- what is taken up to where the dropping ends is dropped
none-window : (d m : ℕ) (rows : List Row) → m ≤ d → drop d (take m rows) ≡ []
none-window d zero rows h = none-dropped d
none-window d (suc m) [] h = none-dropped d
none-window zero (suc m) (x ∷ rows) h = absurd (omega arith)
none-window (suc d) (suc m) (x ∷ rows) h = none-window d m rows (omega arith)

empty-window : (offset n k limit : ℕ) → (nat_eq n 0 || nat_le (min (offset + n) limit) k) ≡ true → (min (offset + n) limit - k ≤ offset - k)
empty-window offset n k limit h = grind arith

none-left : (offset n k limit : ℕ) (rows : List Row) → IsTrue (nat_eq n 0 || nat_le (min (offset + n) limit) k) → drop (offset - k) (take (min (offset + n) limit - k) rows) ≡ []
none-left offset n k limit rows h = none-window (offset - k) (min (offset + n) limit - k) rows (empty-window offset n k limit h)

slices : (F : Functions) (p : PhysicalNode) (s : Fields) (offset n : ℕ) → p.schema ≡ s → GoesOn F (record p { kind = streaming_slice offset n }) s
slices F p s offset n same =
    exact-on F (record p { kind = streaming_slice offset n }) s (λ k rows causes. slice_after offset n k (table_with s rows causes))
    (record {
      schema = λ k rows causes. sym same;
      none = λ k. (cond-none (nat_eq n 0 || nat_le (end_of offset n - k) 0), none-between (offset - k) (end_of offset n - k));
      front = λ k a rows causes w. after-front s offset n (end_of offset n) k a rows causes;
    })
    starts
    (record { into = λ k rows causes U c. c; back = λ k rows causes. refl })
    (λ k rows causes h. (none-ends (nat_eq n 0) (nat_le (end_of offset n) k) (nat_le (end_of offset n - k) (length rows)) causes h (λ q. past-end (end_of offset n) k (length rows) q), none-left offset n k (2 ^ 64 - 1) rows h))
  where
    from-start : (T : Table) → slice_after offset n 0 T ≡ cut_table offset n T
    from-start T =
        let e : offset - 0 ≡ offset = omega arith in
        let f : end_of offset n - 0 ≡ end_of offset n = (let g : (m : ℕ) → m - 0 ≡ m = λ m. omega arith in g (end_of offset n)) in
        λ i. table_with T.schema (drop (e i) (take (f i) T.rows)) (cond (nat_eq n 0 || nat_le (f i) (length T.rows)) [] T.broken)

    starts : (T U : Table) → T.schema ≡ s → CaseAfter F (record p { kind = streaming_slice offset n }) (streaming_slice offset n) 0 T U → PhysicalCase F (record p { kind = streaming_slice offset n }) (T ∷ []) U
    starts T U e c = (U, inl (c ∙ from-start T), refl)

pub slice-goes : (F : Functions) (p : PhysicalNode) (s : Fields) (offset n : ℕ) → p.kind ≡ streaming_slice offset n → p.schema ≡ s → GoesOn F p s
slice-goes F p s offset n is same = subst (λ (kd : PhysicalKind). GoesOn F (record p { kind = kd }) s) (sym is) (slices F p s offset n same)
