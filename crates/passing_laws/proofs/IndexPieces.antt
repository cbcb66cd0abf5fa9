-- A row index goes on counting over pieces.
use Rattle.std.proofs.Common.{◌≡◌, ℕ, zero, suc, ◌+◌, ◌-◌, ◌≤◌, List, [], ◌∷◌, ◌++◌, length, take, refl, sym, ap, subst, ◌∙◌, inl, arith, length-append}
use Rattle.std.specs.Prelude.{Bool, true, false, cond, Option, unwrap_or, nat_lt}
use Rattle.ps_frame.specs.Aggregates.{max_rows}
use Rattle.ps_frame.specs.Causes.{Cause}
use Rattle.ps_frame.specs.Functions.{Functions}
use Rattle.ps_frame.specs.Tables.{Fields, Row, Table}
use Rattle.ps_frame.specs.declared.value.DataFault.TheVariants as fault
use Rattle.ps_frame.specs.declared.value.DataType.TheVariants as kind
use Rattle.ps_frame.specs.declared.value.Value.TheVariants as val
use Rattle.ps_meaning.specs.Cases.{numbered, with_row_index as indexed}
use Rattle.ps_meaning.specs.Shape.{PhysicalCase, PhysicalKind, PhysicalNode, with_row_index}
use Rattle.ps_meaning.specs.Steps.{Name}
use Rattle.ps_world.specs.Booking.{CaseAfter, GoesOn}
use Rattle.ps_world.specs.Passing.{in_front}
use Rattle.passing_laws.proofs.ExactPieces.{exact-on, gives-it}
use Rattle.passing_laws.proofs.ZipPieces.{table_with}

numbered-append : (i : ℕ) (xs ys : List Row) → numbered i (xs ++ ys) ≡ numbered i xs ++ numbered (i + length xs) ys
numbered-append i [] ys = let e : i ≡ i + 0 = omega arith in ap (λ k. numbered k ys) e
numbered-append i (r ∷ xs) ys =
    let e : (i + 1) + length xs ≡ i + suc (length xs) = omega arith in
    ap (λ zs. (val.IdxSize i ∷ r) ∷ zs) (numbered-append (i + 1) xs ys ∙ ap (λ k. numbered (i + 1) xs ++ numbered k ys) e)

take-front : (m : ℕ) (xs ys : List Row) → length xs ≤ m → take m (xs ++ ys) ≡ xs ++ take (m - length xs) ys
take-front m [] ys h = let e : m ≡ m - 0 = omega arith in ap (λ k. take k ys) e
take-front zero (x ∷ xs) ys h = absurd (omega arith)
take-front (suc m) (x ∷ xs) ys h = ap (λ zs. x ∷ zs) (take-front m xs ys (omega arith)) ∙ (let e : m - length xs ≡ suc m - suc (length xs) = omega arith in ap (λ k. x ∷ xs ++ take k ys) e)

take-long : (m : ℕ) (xs : List Row) → length xs ≤ m → take m xs ≡ xs
take-long zero [] h = refl
take-long (suc m) [] h = refl
take-long zero (x ∷ xs) h = absurd (omega arith)
take-long (suc m) (x ∷ xs) h = ap (λ zs. x ∷ zs) (take-long m xs (omega arith))

not-less : (m n : ℕ) → nat_lt m n ≡ false → n ≤ m
not-less m n h = grind arith

less-same : (m d a r k : ℕ) → a ≤ m → d ≡ m - a → k ≡ a + r → nat_lt d r ≡ nat_lt m k
less-same m d a r k h e f = grind arith

-- a limit that isn't passed
not-passed : (b : Bool) (c : Cause) → cond b (c ∷ []) [] ≡ [] → b ≡ false
not-passed true c h = cc
not-passed false c h = refl

-- over any limit m and from any number i on
module _ (at : ℕ) (o : Fields) (m i : ℕ) where
  abbrev late : List Row → ℕ → List Cause
  late rows d = cond (nat_lt d (length rows)) (record { fault = fault.RowIndex; node = at } ∷ []) []

  counted-front : (d j : ℕ) (a rows : List Row) (causes : List Cause) → late a m ≡ [] → d ≡ m - length a → j ≡ i + length a
      → in_front (numbered i (take m a)) (table_with o (numbered j (take d rows)) (causes ++ late rows d)) ≡ table_with o (numbered i (take m (a ++ rows))) (causes ++ late (a ++ rows) m)
  counted-front d j a rows causes w e f = λ k. table_with o (all k) (causes ++ cond (few k) (record { fault = fault.RowIndex; node = at } ∷ []) [])
    where
      fits : length a ≤ m
      fits = not-less m (length a) (not-passed (nat_lt m (length a)) (record { fault = fault.RowIndex; node = at }) w)

      all : numbered i (take m a) ++ numbered j (take d rows) ≡ numbered i (take m (a ++ rows))
      all =
          (λ k. numbered i (take-long m a fits k) ++ numbered (f k) (take (e k) rows))
          ∙ sym (numbered-append i a (take (m - length a) rows))
          ∙ ap (numbered i) (sym (take-front m a rows fits))

      few : nat_lt d (length rows) ≡ nat_lt m (length (a ++ rows))
      few = less-same m d (length a) (length rows) (length (a ++ rows)) fits e (length-append a rows)

less-left : (m n k a : ℕ) → m - (n + (k + a)) ≡ (m - (n + k)) - a
less-left m n k a = omega arith

counts-on : (n k a : ℕ) → n + (k + a) ≡ (n + k) + a
counts-on n k a = omega arith

none-late : (m : ℕ) → nat_lt m 0 ≡ false
none-late m = grind arith

indexes : (F : Functions) (p : PhysicalNode) (s : Fields) (name : Name) (offset : Option ℕ) → (name, kind.IdxSize) ∷ s ≡ p.schema → GoesOn F (record p { kind = with_row_index name offset }) s
indexes F p s name offset same =
    exact-on F (record p { kind = with_row_index name offset }) s (λ k rows causes. indexed p.origin o (n + k) (table_with s rows causes))
    (record {
      schema = λ k rows causes. same;
      none = λ k. (ap (λ b. cond b (record { fault = fault.RowIndex; node = p.origin } ∷ []) []) (none-late (max_rows - (n + k))), ap (numbered (n + k)) (take-long (max_rows - (n + k)) [] (omega arith)));
      front = λ k a rows causes w. counted-front p.origin o (max_rows - (n + k)) (n + k) (max_rows - (n + (k + length a))) (n + (k + length a)) a rows causes w (less-left max_rows n k (length a)) (counts-on n k (length a));
    })
    starts
    (record {
      into = λ k rows causes U c. c.2 ∙ gives-it (indexed p.origin o (n + k) (table_with s rows causes)) c.0 c.1;
      back = λ k rows causes. (indexed p.origin o (n + k) (table_with s rows causes), inl refl, refl);
    })
    (λ k rows causes h. absurd h)
  where
    o : Fields
    o = (name, kind.IdxSize) ∷ s

    n : ℕ
    n = unwrap_or offset 0

    starts : (T U : Table) → T.schema ≡ s → CaseAfter F (record p { kind = with_row_index name offset }) (with_row_index name offset) 0 T U → PhysicalCase F (record p { kind = with_row_index name offset }) (T ∷ []) U
    starts T U e c =
        let q : n + 0 ≡ n = omega arith in
        let t : Fields = (name, kind.IdxSize) ∷ T.schema in
        let u : U ≡ indexed p.origin t n T = c.2 ∙ gives-it (indexed p.origin t (n + 0) T) c.0 c.1 ∙ ap (λ k. indexed p.origin t k T) q in
        (U, inl u, refl)

pub index-goes : (F : Functions) (p : PhysicalNode) (s : Fields) (name : Name) (offset : Option ℕ) → p.kind ≡ with_row_index name offset → (name, kind.IdxSize) ∷ s ≡ p.schema → GoesOn F p s
index-goes F p s name offset is same = subst (λ (kd : PhysicalKind). GoesOn F (record p { kind = kd }) s) (sym is) (indexes F p s name offset same)
