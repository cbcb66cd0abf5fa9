-- A step over a table within another gives a table within what the step gives over the other.
use Rattle.std.proofs.Common.{◌≡◌, ℕ, zero, suc, ◌+◌, ◌-◌, ◌^◌, ◌≤◌, ◌⊎◌, Bool, true, false, cond, List, [], ◌∷◌, ◌++◌, take, drop, length, ℤ, pos, negsuc, ◌≢◌, refl, sym, ap, subst, ◌∙◌, inl, inr, arith, append-nil, length-append}
use Rattle.std.specs.Prelude.{nat_eq, nat_le, ◌||◌, if◌then◌else◌}
use Rattle.std.proofs.lemmas.List.{take-append-le}
use Rattle.std.proofs.Math.Nat.{min-le_left}
use Rattle.ps_frame.proofs.Lists.{drop-take_sub}
use Rattle.std.proofs.Math.Dec.{eqb-suc-zero}
use Rattle.std.proofs.lemmas.Bool.{leb-true, le-leb}
use Rattle.ps_frame.specs.Causes.{Cause, is_empty}
use Rattle.ps_frame.specs.Functions.{Functions}
use Rattle.ps_frame.specs.Tables.{IsWhole, Table, no_rows}
use Rattle.ps_frame.specs.declared.value.Value.{Value}
use Rattle.ps_meaning.specs.Cases.{Case, cut_at, cut_from_end, cut_table, end_of, if_whole, rows_from_end, rows_table}
use Rattle.ps_meaning.proofs.SchemaLaw.{if_whole-schema}
use Rattle.ps_meaning.specs.Steps.{slice}
use Rattle.ps_meaning.specs.Within.{EndAlike, Within}

-- the first rows of a longer table, cut alike
abbrev More : List (List Value) → List (List Value) → Type 0
More xs ys = (rest : List (List Value)) × (xs ++ rest ≡ ys)

pub take_begins : (n : ℕ) (xs rest : List (List Value)) → More (take n xs) (take n (xs ++ rest))
take_begins zero xs rest = ([], refl)
take_begins (suc n) [] rest = (take (suc n) rest, refl)
take_begins (suc n) (x ∷ xs) rest = let m = take_begins n xs rest in (m.0, ap (λ ys. x ∷ ys) m.1)

drop_begins : (o : ℕ) (xs rest : List (List Value)) → More (drop o xs) (drop o (xs ++ rest))
drop_begins zero xs rest = (rest, refl)
drop_begins (suc o) [] rest = (drop (suc o) rest, refl)
drop_begins (suc o) (x ∷ xs) rest = drop_begins o xs rest

cut_begins : (o e : ℕ) (xs rest : List (List Value)) → More (drop o (take e xs)) (drop o (take e (xs ++ rest)))
cut_begins o e xs rest =
    let t = take_begins e xs rest in
    let d = drop_begins o (take e xs) t.0 in
    (d.0, d.1 ∙ ap (drop o) t.1)

-- whether a cut has all its rows
abbrev pub has_all : ℕ → ℕ → List (List Value) → Bool
has_all o n rows = nat_eq n 0 || nat_le (end_of o n) (length rows)

-- nothing stands between a place and an earlier one
drop_take_none : (o e : ℕ) (xs : List (List Value)) → e ≤ o → drop o (take e xs) ≡ []
drop_take_none o e xs h = let none : e - o ≡ 0 = omega arith in drop-take_sub o e xs ∙ ap (λ k. take k (drop o xs)) none

-- a cut that has all its rows has the same ones, and is whole, over a longer table
same_rows : (o e : ℕ) (xs rest : List (List Value)) → e ≤ length xs → drop o (take e xs) ≡ drop o (take e (xs ++ rest))
same_rows o e xs rest h = sym (ap (drop o) (take-append-le e xs rest h))

same_cut : (o n : ℕ) (xs rest : List (List Value)) → has_all o n xs ≡ true → (drop o (take (end_of o n) xs) ≡ drop o (take (end_of o n) (xs ++ rest))) × (has_all o n (xs ++ rest) ≡ true)
same_cut o zero xs rest h =
    let at_most = min-le_left (o + zero) (2 ^ 64 - 1) in
    let low : end_of o zero ≤ o = omega arith in
    (drop_take_none o (end_of o zero) xs low ∙ sym (drop_take_none o (end_of o zero) (xs ++ rest) low), refl)
same_cut o (suc n) xs rest h =
    let h' : nat_le (end_of o (suc n)) (length xs) ≡ true = ap (λ b. b || nat_le (end_of o (suc n)) (length xs)) (sym (eqb-suc-zero n)) ∙ h in
    let long : end_of o (suc n) ≤ length xs = leb-true (end_of o (suc n)) (length xs) h' in
    let longer : end_of o (suc n) ≤ length (xs ++ rest) = omega (arith, length-append xs rest) in
    (same_rows o (end_of o (suc n)) xs rest long, ap (λ b. b || nat_le (end_of o (suc n)) (length (xs ++ rest))) (eqb-suc-zero n) ∙ le-leb (end_of o (suc n)) (length (xs ++ rest)) longer)

pub cut_within : (o n : ℕ) (p l : Table) → Within p l → Within (cut_table o n p) (cut_table o n l)
cut_within o n p l w = record { same_schema = w.same_schema; part = by w.part (has_all o n p.rows) refl }
  where
    by : (p ≡ l) ⊎ (¬ IsWhole p) × ((rest : List (List Value)) × (p.rows ++ rest ≡ l.rows)) → (b : Bool) → has_all o n p.rows ≡ b
        → (cut_table o n p ≡ cut_table o n l) ⊎ (¬ IsWhole (cut_table o n p)) × ((rest : List (List Value)) × ((cut_table o n p).rows ++ rest ≡ (cut_table o n l).rows))
    by (inl e) b h = inl (ap (cut_table o n) e)
    by (inr (broken, (rest, e))) true h =
        let s = same_cut o n p.rows rest h in
        let rows : drop o (take (end_of o n) p.rows) ≡ drop o (take (end_of o n) l.rows) = s.0 ∙ ap (λ xs. drop o (take (end_of o n) xs)) e in
        let all : has_all o n l.rows ≡ true = ap (has_all o n) (sym e) ∙ s.1 in
        let left : cond {A = List Cause} (has_all o n p.rows) [] p.broken ≡ [] = ap (λ b. cond {A = List Cause} b [] p.broken) h in
        let right : cond {A = List Cause} (has_all o n l.rows) [] l.broken ≡ [] = ap (λ b. cond {A = List Cause} b [] l.broken) all in
        let both : cond {A = List Cause} (has_all o n p.rows) [] p.broken ≡ cond {A = List Cause} (has_all o n l.rows) [] l.broken = left ∙ sym right in
        inl (λ i. record { schema = w.same_schema i; rows = rows i; broken = both i })
    by (inr (broken, (rest, e))) false h =
        let m = cut_begins o (end_of o n) p.rows rest in
        let same : cond {A = List Cause} (has_all o n p.rows) [] p.broken ≡ p.broken = ap (λ b. cond {A = List Cause} b [] p.broken) h in
        inr ((λ is_whole. broken (sym same ∙ is_whole)), (m.0, m.1 ∙ ap (λ xs. drop o (take (end_of o n) xs)) e))

-- a table that isn't whole has no row that is known to stand so near the end
ended-within : (p : Table) (cs : List Cause) (l : Table) (rows : List (List Value)) → cs ≢ [] → p.schema ≡ l.schema → Within (if_whole p.schema cs (rows_table p.schema rows)) l
ended-within p [] l rows some e = absurd (some refl)
ended-within p (c ∷ cs) l rows some e = record { same_schema = e; part = inr (some, (l.rows, refl)) }

pub end_within : (back n : ℕ) (p l : Table) → Within p l → Within (cut_from_end back n p) (cut_from_end back n l)
end_within back n p l w = by (nat_eq n 0) w.part
  where
    given : Bool → Table → Table
    given b t = if b then no_rows t.schema [] else if_whole t.schema t.broken (rows_table t.schema (rows_from_end back n t.rows))

    given-schema : (t : Table) → (given false t).schema ≡ t.schema
    given-schema t = if_whole-schema t.schema t.broken _ refl

    by : (b : Bool) → (p ≡ l) ⊎ (¬ IsWhole p) × ((rest : List (List Value)) × (p.rows ++ rest ≡ l.rows)) → Within (given b p) (given b l)
    by b (inl e) = record { same_schema = ap (λ t. (given b t).schema) e; part = inl (ap (given b) e) }
    by true (inr q) = record { same_schema = w.same_schema; part = inl (ap (λ s. no_rows s []) w.same_schema) }
    by false (inr q) = ended-within p p.broken (given false l) (rows_from_end back n p.rows) q.0 (w.same_schema ∙ sym (given-schema l))

pub at_within : (offset : ℤ) (n : ℕ) (p l : Table) → Within p l → Within (cut_at offset n p) (cut_at offset n l)
at_within (pos offset) n p l w = cut_within offset n p l w
at_within (negsuc k) n p l w = end_within (k + 1) n p l w

-- the case of a slice
pub slice_within : (F : Functions) (at : ℕ) (offset : ℤ) (n : ℕ) (p l P : Table) → Within p l → Case F at (slice offset n) (p ∷ []) P → (L : Table) × Case F at (slice offset n) (l ∷ []) L × Within P L
slice_within F at offset n p l P w (U, inl e, q) =
    let L = cut_at offset n l in
    (L, (L, inl refl, refl), subst (λ t. Within t L) (sym (q ∙ e)) (at_within offset n p l w))
slice_within F at offset n p l P w (U, inr lost, q) = absurd (lost.2 refl)

-- tables that end alike
pub alike_within : (p l : Table) → EndAlike p l → Within p l
alike_within p l a = record { same_schema = a.same_schema; part = by p.broken refl l.broken refl }
  where
    apart : true ≡ false → ⊥
    apart e = cc

    some : {c : Cause} {cs : List Cause} → c ∷ cs ≡ [] → ⊥
    some e = cc

    by : (cs : List Cause) → p.broken ≡ cs → (ds : List Cause) → l.broken ≡ ds → (p ≡ l) ⊎ (¬ IsWhole p) × ((rest : List (List Value)) × (p.rows ++ rest ≡ l.rows))
    by [] e [] f = let both : p.broken ≡ l.broken = e ∙ sym f in inl (λ i. record { schema = a.same_schema i; rows = a.same_rows i; broken = both i })
    by [] e (d ∷ ds) f = absurd (apart (sym (ap is_empty e) ∙ a.both_whole ∙ ap is_empty f))
    by (c ∷ cs) e ds f = inr ((λ w. some (sym e ∙ w)), ([], append-nil p.rows ∙ a.same_rows))
