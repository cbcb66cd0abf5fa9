-- What is known of keys by the codes of rows, and how it grows.
use Rattle.std.proofs.Common.{◌≡◌, ℕ, zero, suc, ◌+◌, ◌-◌, ◌*◌, ◌/◌, ◌%◌, ◌<◌, List, [], ◌∷◌, ◌++◌, length, get_or, set, take, fold, refl, sym, ap, subst, ◌∙◌, inl, inr, arith}
use Rattle.std.proofs.Math.Nat.{mod-eq_of_lt, mul-add-mod_self_right, mul-div_cancel}
use Rattle.std.proofs.Math.Seq.{get_or-append_seam}
use Rattle.std.proofs.lemmas.Bool.{cases_eq}
use Rattle.std.proofs.lemmas.List.{get_or-map, get_or-set_other, get_or-set_same, get_or_append_left, length-map, length_push, take_more}
use Rattle.ps_frame.specs.Gathered.{ArePicked}
use Rattle.ps_frame.specs.Series.{Series}
use Rattle.ps_frame.specs.declared.value.Value.{Value}
use Rattle.ps_frame.specs.declared.value.Value.TheVariants as val
use Rattle.ps_keys.specs.Chains.{IsKeyOf, IsNumbered}
use Rattle.ps_keys.specs.Codes.{ArePickedColumns, Knows, code_at, with_digit}
use Rattle.ps_keys.specs.Hashes.{HaveRow, row_at}
use Rattle.ps_keys.specs.declared.known.KnownKeys.{KnownKeys}
use Rattle.ps_keys.specs.declared.known.PickedColumn.{PickedColumn}

-- a number has only one last digit, and one number before it
digits-same : (n a b c d : ℕ) → a < n → b < n → c * n + a ≡ d * n + b → (c ≡ d) × (a ≡ b)
digits-same n a b c d h k e =
    let low : a ≡ b = sym (mod-eq_of_lt h) ∙ sym (mul-add-mod_self_right c n a) ∙ ap (λ x. x % n) e ∙ mul-add-mod_self_right d n b ∙ mod-eq_of_lt k in
    let high : c * n ≡ d * n = omega (arith, low) in
    let some : zero < n = omega arith in
    (sym (mul-div_cancel c some) ∙ ap (λ x. x / n) high ∙ mul-div_cancel d some, low)

module _ (values : List Value) (places : List ℕ) (count : ℕ) (are : ArePicked values places count) (i : ℕ) (within : i < length values) where
  place_within : i < length places
  place_within = omega (arith, ap length are.are, length-map places (λ k. get_or are.others k val.Null))

  value-at : get_or values i val.Null ≡ get_or are.others (get_or places i 0) val.Null
  value-at = ap (λ xs. get_or xs i val.Null) are.are ∙ get_or-map (λ k. get_or are.others k val.Null) places i 0 val.Null place_within

  place_below : get_or places i 0 < count
  place_below = are.within i 0 place_within

rest_have : (c : Series) (cs : List Series) (i : ℕ) → HaveRow (c ∷ cs) i → HaveRow cs i
rest_have c cs i have k d within = have (suc k) d (omega arith)

-- rows of the same code have the same values
same-row : (ps : List PickedColumn) (cs : List Series) (c d i j : ℕ) → ArePickedColumns ps cs → HaveRow cs i → HaveRow cs j → fold (with_digit i) c ps ≡ fold (with_digit j) d ps → (c ≡ d) × (row_at cs i ≡ row_at cs j)
same-row [] [] c d i j are first second e = (e, refl)
same-row [] (t ∷ cs) c d i j are first second e = absurd are
same-row (p ∷ ps) [] c d i j are first second e = absurd are
same-row (p ∷ ps) (t ∷ cs) c d i j are first second e =
    let rest = same-row ps cs (with_digit i c p) (with_digit j d p) i j are.1 (rest_have t cs i first) (rest_have t cs j second) e in
    let here = first 0 t (omega arith) in
    let there = second 0 t (omega arith) in
    let digits = digits-same p.count (get_or p.places.now i 0) (get_or p.places.now j 0) c d (place_below t.values p.places.now p.count are.0 i here) (place_below t.values p.places.now p.count are.0 j there) rest.0 in
    let value : get_or t.values i val.Null ≡ get_or t.values j val.Null =
    value-at t.values p.places.now p.count are.0 i here ∙ ap (λ k. get_or are.0.others k val.Null) digits.1 ∙ sym (value-at t.values p.places.now p.count are.0 j there) in
    (digits.0, ap (λ v. v ∷ row_at cs i) value ∙ ap (λ r. get_or t.values j val.Null ∷ r) rest.1)

module _ (row : ℕ → List Value) (firsts more : List ℕ) (x n : ℕ) (is : IsNumbered row firsts more x n) where
  -- a row that is numbered has the key
  numbered-key : IsKeyOf row more x n
  numbered-key = elim is [
    | inl old ↦ subst (λ fs. IsKeyOf row fs x n) (sym old.1) old.0
    | inr new ↦ record {
      within = omega (arith, new.1, ap length new.2, length_push firsts x);
      same = ap row (ap (λ k. get_or more k 0) new.1 ∙ ap (λ fs. get_or fs (length firsts) 0) new.2 ∙ get_or-append_seam firsts x [] 0);
    }
  ]

  -- the others keep theirs
  key-kept : (i k : ℕ) → IsKeyOf row firsts i k → IsKeyOf row more i k
  key-kept i k key = elim is [
    | inl old ↦ subst (λ fs. IsKeyOf row fs i k) (sym old.1) key
    | inr new ↦ record {
      within = omega (arith, key.within, ap length new.2, length_push firsts x);
      same = ap row (ap (λ fs. get_or fs k 0) new.2 ∙ get_or_append_left firsts (x ∷ []) 0 k key.within) ∙ key.same;
    }
  ]

module _ (columns : List Series) (firsts more : List ℕ) (k : KnownKeys) (x n : ℕ) (known : Knows columns firsts k) (is : IsNumbered (row_at columns) firsts more x n) where
  -- and the key of that row may be noted
  pub knows-noted : (l : KnownKeys) → HaveRow columns x → code_at k.picks.items x < length k.keys.items → l.picks.items ≡ k.picks.items → l.keys.items ≡ set k.keys.items (code_at k.picks.items x) (n + 1) → Knows columns more l
  knows-noted l have within same noted =
      let ps = k.picks.items in
      let ks = k.keys.items in
      let slot = code_at ps x in
      let are = known.picks (omega arith) in
      record {
        picks = λ some. subst (λ qs. ArePickedColumns qs columns) (sym same) are;
        keys = λ i there some.
            let place : code_at l.picks.items i ≡ code_at ps i = ap (λ qs. code_at qs i) same in
            let read : get_or l.keys.items (code_at l.picks.items i) 0 ≡ get_or (set ks slot (n + 1)) (code_at ps i) 0 = ap (λ c. get_or l.keys.items c 0) place ∙ ap (λ zs. get_or zs (code_at ps i) 0) noted in
            elim (cases_eq (code_at ps i) slot) [
              | inl at ↦
                  let value : get_or l.keys.items (code_at l.picks.items i) 0 ≡ n + 1 = read ∙ ap (λ c. get_or (set ks slot (n + 1)) c 0) at ∙ get_or-set_same ks slot (n + 1) 0 within in
                  let key : n ≡ get_or l.keys.items (code_at l.picks.items i) 0 - 1 = omega (arith, value) in
                  let mine = numbered-key (row_at columns) firsts more x n is in
                  subst (IsKeyOf (row_at columns) more i) key (record { within = mine.within; same = mine.same ∙ (same-row ps columns 0 0 x i are have there (sym at)).1 })
              | inr apart ↦
                  let value : get_or l.keys.items (code_at l.picks.items i) 0 ≡ get_or ks (code_at ps i) 0 = read ∙ get_or-set_other ks slot (code_at ps i) (n + 1) 0 apart in
                  subst (λ v. IsKeyOf (row_at columns) more i (v - 1)) (sym value)
                  (key-kept (row_at columns) firsts more x n is i (get_or ks (code_at ps i) 0 - 1) (known.keys i there (omega (arith, value))))
            ];
      }

ArePickedColumns-push : (ps : List PickedColumn) (cs : List Series) (p : PickedColumn) (c : Series) → ArePickedColumns ps cs → ArePicked c.values p.places.now p.count → ArePickedColumns (ps ++ p ∷ []) (cs ++ c ∷ [])
ArePickedColumns-push [] [] p c are one = (one, tt)
ArePickedColumns-push [] (d ∷ cs) p c are one = absurd are
ArePickedColumns-push (q ∷ ps) [] p c are one = absurd are
ArePickedColumns-push (q ∷ ps) (d ∷ cs) p c are one = (are.0, ArePickedColumns-push ps cs p c are.1 one)

-- the places of one column more
pub picks-more : (ps qs : List PickedColumn) (cs : List Series) (k : ℕ) (p : PickedColumn) (c : Series) → k < length cs → c ≡ get_or cs k c → ArePickedColumns ps (take k cs) → ArePicked c.values p.places.now p.count → qs ≡ ps ++ p ∷ [] → ArePickedColumns qs (take (k + 1) cs)
picks-more ps qs cs k p c within at are one push =
    subst (λ rs. ArePickedColumns rs (take (k + 1) cs)) (sym push)
    (subst (ArePickedColumns (ps ++ p ∷ [])) (sym (take_more cs k c within ∙ ap (λ d. take k cs ++ d ∷ []) (sym at))) (ArePickedColumns-push ps (take k cs) p c are one))
