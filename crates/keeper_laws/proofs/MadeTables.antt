-- The table that a node makes of what it stored is one that it may give over all that came.
use Rattle.std.proofs.Common.{◌≡◌, ℕ, zero, suc, ◌+◌, ◌-◌, ◌≤◌, ◌⊎◌, Bool, true, false, List, [], ◌∷◌, length, drop, take, Option, Some, refl, sym, ap, subst, ◌∙◌, inl, inr, arith}
use Rattle.std.specs.Prelude.{get_or, nat_eq, if◌then◌else◌}
use Rattle.ps_frame.specs.Functions.{Functions}
use Rattle.ps_frame.specs.Tables.{Fields, IsWhole, Row, Table, no_rows}
use Rattle.ps_meaning.specs.Cases.{cut_at, cut_from_end, first_table, if_whole, rows_from_end, rows_table}
use Rattle.ps_meaning.specs.Shape.{PhysicalCase, PhysicalKind, PhysicalNode, below_zero, in_memory_join, in_memory_map, negative_slice}
use Rattle.ps_options.specs.declared.options.Options.{Options}
use Rattle.ps_turns.specs.Ends.{HoldsEnd, rows_at_end}
use Rattle.ps_turns.specs.Heads.{stored_rows}
use Rattle.ps_turns.specs.Progress.{Progress}
use Rattle.ps_turns.specs.Results.{IsMade}
use Rattle.ps_turns.specs.Tables.{whole_tables}
use Rattle.ps_turns.specs.Updates.{Makes, stored_tables}
use Rattle.world_facts.proofs.EndStores.{gives_case}
use Rattle.world_laws.proofs.PassingPorts.{same_number}
use Rattle.keeper_laws.proofs.Made.{IsMaker}

-- a whole table that the node may give over these rows
abbrev pub IsTable : Functions → PhysicalNode → List Fields → List (List Row) → List Row → Type 0
IsTable F p ss came rows = (T : Table) × PhysicalCase F p (whole_tables ss came) T × IsWhole T × (T.rows ≡ rows)

-- what came is stored, or its end is
pub record HoldsLast (back : ℕ) (ss : List Fields) (a : Progress) (came : List (List Row)) : Type 0 where
  pub first : List Row
  pub rest : List (List Row)
  pub is : came ≡ first ∷ rest
  pub schema : length ss ≡ 1
  pub some : 1 ≤ back
  pub holds : HoldsEnd back first a.booked (get_or a.stores 0 [])

abbrev pub HoldsInputs : PhysicalKind → List Fields → Progress → List (List Row) → Type 0
HoldsInputs (negative_slice back n) ss a came = HoldsLast back ss a came
HoldsInputs kind ss a came = stored_tables a ≡ came

-- THE END OF A TABLE
none_left : (k : ℕ) (xs : List Row) → drop k (take k xs) ≡ []
none_left zero xs = refl
none_left (suc k) [] = refl
none_left (suc k) (x ∷ xs) = none_left k xs

-- of no length, no row
no_length : (back n : ℕ) (rows : List Row) → n ≡ 0 → rows_from_end back n rows ≡ []
no_length back n rows e =
    let same : length rows + n - back ≡ length rows - back = omega (arith, e) in
    ap (λ k. drop (length rows - back) (take k rows)) same ∙ none_left (length rows - back) rows

abbrev pub IsEnd : ℕ → ℕ → List Row → Table → Type 0
IsEnd back n rows T = IsWhole T × (T.rows ≡ rows_from_end back n rows)

cut_end : (back n : ℕ) (s : Fields) (rows : List Row) → IsEnd back n rows (cut_from_end back n (rows_table s rows))
cut_end back n s rows = by (nat_eq n 0) refl
  where
    by : (b : Bool) → nat_eq n 0 ≡ b → IsEnd back n rows (if b then no_rows s [] else if_whole s [] (rows_table s (rows_from_end back n rows)))
    by true e = (refl, sym (no_length back n rows (same_number n 0 e)))
    by false e = (refl, refl)

pub at_end : (back n : ℕ) (s : Fields) (rows : List Row) → 1 ≤ back → IsEnd back n rows (cut_at (below_zero back) n (rows_table s rows))
at_end zero n s rows some = absurd (omega (arith, some))
at_end (suc k) n s rows some = let e : k + 1 ≡ suc k = omega arith in subst (λ j. IsEnd j n rows (cut_from_end (k + 1) n (rows_table s rows))) e (cut_end (k + 1) n s rows)

pub first_is : (ss : List Fields) (first : List Row) (rest : List (List Row)) → length ss ≡ 1 → (s : Fields) × (first_table (whole_tables ss (first ∷ rest)) ≡ rows_table s first)
first_is [] first rest e = absurd (omega (arith, e))
first_is (s ∷ ss) first rest e = (s, refl)

end_table : (F : Functions) (p : PhysicalNode) (ss : List Fields) (back n : ℕ) (a : Progress) (came : List (List Row)) → HoldsLast back ss a came → IsTable F (record p { kind = negative_slice back n }) ss came (rows_at_end back n a.booked (stored_rows (get_or a.stores 0 [])))
end_table F p ss back n a came h =
    let ts = whole_tables ss came in
    let s = first_is ss h.first h.rest h.schema in
    let is : first_table ts ≡ rows_table s.0 h.first = ap (λ rr. first_table (whole_tables ss rr)) h.is ∙ s.1 in
    let end = subst (λ t. IsEnd back n h.first (cut_at (below_zero back) n t)) (sym is) (at_end back n s.0 h.first h.some) in
    (cut_at (below_zero back) n (first_table ts), (cut_at (below_zero back) n (first_table ts), inl refl, refl), end.0, end.1 ∙ sym (gives_case back n h.first a.booked (get_or a.stores 0 []) h.holds))

-- WHAT IT MAKES
the_rows : (made : Option (List Row)) (rs rows : List Row) → made ≡ Some rs → made ≡ Some rows → rs ≡ rows
the_rows made rs rows a b = let q : Some rs ≡ Some rows = sym a ∙ b in cc

pub of_made : (F : Functions) (p : PhysicalNode) (ss : List Fields) (stored came : List (List Row)) (rs : List Row) → stored ≡ came → IsMade F p (whole_tables ss stored) rs → IsTable F p ss came rs
of_made F p ss stored came rs same (T, case, whole, rows, few) = (T, subst (λ rr. PhysicalCase F p (whole_tables ss rr) T) same case, whole, rows)

pub makes_one : (F : Functions) (o : Options) (p : PhysicalNode) (kind : PhysicalKind) (ss : List Fields) (a c : Progress) (came : List (List Row)) (rows : List Row) → IsMaker kind → HoldsInputs kind ss a came → Makes F o (record p { kind = kind }) kind ss a c → c.made ≡ Some rows
    → (a.made ≡ Some rows) ⊎ IsTable F (record p { kind = kind }) ss came rows
makes_one F o p (in_memory_map step) ss a c came rows maker h (inl (user, same)) e = inl (ap (λ (x : Progress). x.made) (sym same) ∙ e)
makes_one F o p (in_memory_map step) ss a c came rows maker h (inr (plain, rs, made, same)) e =
    inr (subst (IsTable F (record p { kind = in_memory_map step }) ss came) (the_rows c.made rs rows (ap (λ (x : Progress). x.made) same) e) (of_made F (record p { kind = in_memory_map step }) ss (stored_tables a) came rs h made))
makes_one F o p (in_memory_join j) ss a c came rows maker h (rs, made, same) e =
    inr (subst (IsTable F (record p { kind = in_memory_join j }) ss came) (the_rows c.made rs rows (ap (λ (x : Progress). x.made) same) e) (of_made F (record p { kind = in_memory_join j }) ss (stored_tables a) came rs h made))
makes_one F o p (negative_slice back n) ss a c came rows maker h same e =
    inr (subst (IsTable F (record p { kind = negative_slice back n }) ss came) (the_rows c.made (rows_at_end back n a.booked (stored_rows (get_or a.stores 0 []))) rows (ap (λ (x : Progress). x.made) same) e) (end_table F p ss back n a came h))
makes_one F o p kind ss a c came rows maker h m e = absurd (let no : false ≡ true = maker in cc)
