-- A zip that claims books at least one row of one of its inputs.
use Rattle.std.proofs.Common.{◌≡◌, ℕ, zero, suc, ◌<◌, ◌+◌, ◌-◌, ◌≤◌, ◌⊎◌, Bool, true, false, cond, List, [], ◌∷◌, length, refl, sym, ap, subst, ◌∙◌, inl, inr, arith}
use Rattle.std.specs.Prelude.{Contains, drop, map, nat_lt, not, ◌&&◌, ◌||◌}
use Rattle.std.specs.List.{AllByRecursion, filter as kept, list_all, list_any}
use Rattle.std.proofs.lemmas.Bool.Decides.{nat_tests}
use Rattle.std.proofs.Math.Nat.{le-min}
use Rattle.ps_frame.specs.Causes.{is_empty}
use Rattle.ps_frame.specs.Tables.{Row}
use Rattle.ps_turns.specs.Heads.{Head, Stored, common_length, head_lengths, head_of, heads_by, is_ready_head, is_single, least, stored_inputs, stored_rows}
use Rattle.world_facts.proofs.Slots.{all_at, some_at}
use Rattle.world_laws.proofs.Agree.{from_map}
use Rattle.world_laws.proofs.InOrder.{contains_cases, contains_first, contains_later, contains_map, none_in_nil}
use Rattle.world_measure.specs.Left.{rows_left}

-- COMMON LENGTHS
least_some : (ns : List ℕ) → AllByRecursion (λ n. 0 < n) ns → 0 < least ns
least_some [] all = omega arith
least_some (n ∷ []) all = all.0
least_some (n ∷ m ∷ ns) all = le-min all.0 (least_some (m ∷ ns) all.1)

has_rows : (rs : List Row) → is_empty rs ≡ false → 0 < length rs
has_rows [] e = absurd (let no : true ≡ false = e in cc)
has_rows (r ∷ rs) e = omega arith

-- a head that is ready and counts for the common length has a row
not_empty : (extend b e k d : Bool) → ((not e && k) || (extend && d)) ≡ true → (not b && not (extend && e)) ≡ true → e ≡ false
not_empty extend b false k d ready counts = refl
not_empty true true true k d ready counts = absurd (let no : false ≡ true = counts in cc)
not_empty true false true k d ready counts = absurd (let no : false ≡ true = counts in cc)
not_empty false b true k d ready counts = absurd (let no : false ≡ true = ready in cc)

lengths_some : (extend : Bool) (hs : List Head) → ((h : Head) → Contains hs h → is_ready_head extend h ≡ true) → AllByRecursion (λ n. 0 < n) (head_lengths extend hs)
lengths_some extend [] ready = tt
lengths_some extend (h ∷ hs) ready = by (not h.broadcasts && not (extend && is_empty h.rest)) refl (lengths_some extend hs (λ x c. ready x (contains_later h x hs c)))
  where
    by : (b : Bool) → (not h.broadcasts && not (extend && is_empty h.rest)) ≡ b → AllByRecursion (λ n. 0 < n) (head_lengths extend hs)
        → AllByRecursion (λ n. 0 < n) (map (λ (x : Head). length x.rest) (cond b (h ∷ kept (λ (x : Head). not x.broadcasts && not (extend && is_empty x.rest)) hs) (kept (λ (x : Head). not x.broadcasts && not (extend && is_empty x.rest)) hs)))
    by true e rest = (has_rows h.rest (not_empty extend h.broadcasts (is_empty h.rest) h.is_known h.input_done (ready h (contains_first h hs)) e), rest)
    by false e rest = rest

-- ROWS
abbrev sum_left : ℕ → List Stored → ℕ
sum_left k [] = 0
sum_left k (s ∷ ss) = (length s.rows - k) + sum_left k ss

as_stored : (k : ℕ) (ds : List Bool) (stores : List (List (List Row))) → rows_left k stores ≡ sum_left k (stored_inputs ds stores)
as_stored k ds [] = refl
as_stored k [] (ms ∷ rest) = ap (λ n. (length (stored_rows ms) - k) + n) (as_stored k [] rest)
as_stored k (d ∷ ds) (ms ∷ rest) = ap (λ n. (length (stored_rows ms) - k) + n) (as_stored k ds rest)

no_more : (k d : ℕ) (ss : List Stored) → sum_left (k + d) ss ≤ sum_left k ss
no_more k d [] = omega arith
no_more k d (s ∷ ss) = let rest = no_more k d ss in omega arith

fewer : (k d : ℕ) (ss : List Stored) (s : Stored) → 0 < d → Contains ss s → k < length s.rows → sum_left (k + d) ss < sum_left k ss
fewer k d [] s some c less = absurd (none_in_nil s c)
fewer k d (x ∷ ss) s some c less = by (λ later. fewer k d ss s some later less) (contains_cases x s ss c)
  where
    by : (Contains ss s → sum_left (k + d) ss < sum_left k ss) → (x ≡ s) ⊎ Contains ss s → sum_left (k + d) (x ∷ ss) < sum_left k (x ∷ ss)
    by rest (inl same) = let here : k < length x.rows = subst (λ (y : Stored). k < length y.rows) (sym same) less in let others = no_more k d ss in omega arith
    by rest (inr later) = let others = rest later in omega arith

behind : (k : ℕ) (rs : List Row) → is_empty (drop k rs) ≡ false → k < length rs
behind zero rs e = has_rows rs e
behind (suc k) [] e = absurd (let no : true ≡ false = e in cc)
behind (suc k) (r ∷ rs) e = let h = behind k rs e in omega arith

not_true : (b : Bool) → not b ≡ true → b ≡ false
not_true true e = absurd (let no : false ≡ true = e in cc)
not_true false e = refl

and_false : (a b : Bool) → b ≡ false → (a && b) ≡ false
and_false true b e = e
and_false false b e = refl

-- some store is not single
another : (t : Stored → Bool) (ss : List Stored) → list_all t ss ≡ false → (s : Stored) × Contains ss s × (t s ≡ false)
another t [] e = absurd (let no : true ≡ false = e in cc)
another t (s ∷ ss) e = by (another t ss) (t s) refl
  where
    by : (list_all t ss ≡ false → (x : Stored) × Contains ss x × (t x ≡ false)) → (b : Bool) → t s ≡ b → (x : Stored) × Contains (s ∷ ss) x × (t x ≡ false)
    by rest false q = (s, contains_first s ss, q)
    by rest true q = let r = rest (sym (ap (λ b. b && list_all t ss) q) ∙ e) in (r.0, contains_later s r.0 ss r.1, r.2)

-- a head that isn't broadcast, and has rows, has rows behind those that were booked
plain_rest : (extend spent : Bool) (k : ℕ) (s : Stored) → (is_single extend s && not spent) ≡ false → is_empty (head_of extend spent k s).rest ≡ false → k < length s.rows
plain_rest extend spent k s e some = behind k s.rows (sym (ap (λ b. is_empty (cond b s.rows (drop k s.rows))) e) ∙ some)

module _ (k : ℕ) (ss : List Stored) where
  -- some input has a row that isn't booked
  some_row : (extend all : Bool) → list_all (is_single extend) ss ≡ all → ((s : Stored) → Contains ss s → is_ready_head extend (head_of extend (all && nat_lt 0 k) k s) ≡ true)
      → (s : Stored) × Contains ss s × (is_empty (head_of extend (all && nat_lt 0 k) k s).rest ≡ false) → (s : Stored) × Contains ss s × (k < length s.rows)
  some_row true all a ready (s, c, some) = (s, c, plain_rest true (all && nat_lt 0 k) k s refl some)
  some_row false false a ready one =
      let other = another (is_single false) ss a in
      let s = other.0 in
      let plain : (is_single false s && true) ≡ false = ap (λ b. b && true) other.2 in
      (s, other.1, plain_rest false false k s plain (not_empty false (is_single false s && true) (is_empty (head_of false false k s).rest) (head_of false false k s).is_known s.is_over (ready s other.1) (ap (λ b. not b && true) plain)))
  some_row false true a ready (s, c, some) = by (nat_lt 0 k) refl
    where
      by : (b : Bool) → nat_lt 0 k ≡ b → (s : Stored) × Contains ss s × (k < length s.rows)
      by true e = (s, c, plain_rest false true k s (and_false (is_single false s) false refl) (sym (ap (λ b. is_empty (head_of false b k s).rest) e) ∙ some))
      by false e =
          let none : k ≡ 0 = grind (arith, nat_tests) in
          let whole : (b : Bool) → is_empty (cond b s.rows (drop 0 s.rows)) ≡ is_empty s.rows = λ b. elim b as (λ b. is_empty (cond b s.rows (drop 0 s.rows)) ≡ is_empty s.rows) [ true ↦ refl | false ↦ refl ] in
          let unspent : is_empty (head_of false false k s).rest ≡ false = sym (ap (λ b. is_empty (head_of false b k s).rest) e) ∙ some in
          let from_none : is_empty (cond (is_single false s && true) s.rows (drop 0 s.rows)) ≡ false = ap (λ n. is_empty (cond (is_single false s && true) s.rows (drop n s.rows))) (sym none) ∙ unspent in
          let rows = has_rows s.rows (sym (whole (is_single false s && true)) ∙ from_none) in
          (s, c, omega arith)

module _ (extend : Bool) (k : ℕ) (ds : List Bool) (stores : List (List (List Row))) where
  abbrev ss : List Stored
  ss = stored_inputs ds stores

  abbrev spent : Bool
  spent = list_all (is_single extend) ss && nat_lt 0 k

  pub zip_falls : (hs : List Head) → hs ≡ heads_by extend k ss → (list_all (is_ready_head extend) hs && list_any (λ (h : Head). not (is_empty h.rest)) hs) ≡ true → rows_left (k + common_length extend hs) stores < rows_left k stores
  zip_falls hs same tests =
      let parts = both (list_all (is_ready_head extend) hs) (list_any (λ (h : Head). not (is_empty h.rest)) hs) tests in
      let ready : (h : Head) → Contains hs h → is_ready_head extend h ≡ true = λ h c. all_at (is_ready_head extend) hs h parts.0 c in
      let some = some_at (λ (h : Head). not (is_empty h.rest)) hs parts.1 in
      let from = from_map (head_of extend spent k) some.0 ss (subst (λ xs. Contains xs some.0) same some.1) in
      let one = some_row k ss extend (list_all (is_single extend) ss) refl (λ s c. ready (head_of extend spent k s) (subst (λ xs. Contains xs (head_of extend spent k s)) (sym same) (contains_map (head_of extend spent k) s ss c)))
      (from.0, from.1, ap (λ (h : Head). is_empty h.rest) from.2 ∙ not_true (is_empty some.0.rest) some.2) in
      let step = least_some (head_lengths extend hs) (lengths_some extend hs ready) in
      let less = fewer k (common_length extend hs) ss one.0 step one.1 one.2 in
      let before = as_stored k ds stores in
      let after = as_stored (k + common_length extend hs) ds stores in
      omega arith
    where
      both : (a b : Bool) → (a && b) ≡ true → (a ≡ true) × (b ≡ true)
      both true b e = (refl, e)
      both false b e = absurd (let no : false ≡ true = e in cc)
