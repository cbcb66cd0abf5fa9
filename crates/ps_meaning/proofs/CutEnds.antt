-- What a slice leaves of the rows and the ends of its input.
use Rattle.std.proofs.Common.{◌≡◌, ℕ, zero, suc, ◌+◌, ◌-◌, ◌≤◌, Bool, true, false, cond, List, [], ◌∷◌, take, drop, length, ℤ, pos, negsuc, None, Some, refl, ap, ◌∙◌, arith, length-drop}
use Rattle.std.specs.Prelude.{nat_eq, if◌then◌else◌}
use Rattle.ps_frame.specs.Causes.{Cause, is_empty}
use Rattle.ps_frame.specs.Tables.{Table, no_rows}
use Rattle.ps_frame.specs.declared.value.Value.{Value}
use Rattle.ps_meaning.specs.Cases.{cut_at, cut_by, cut_from_end, cut_table, end_of, if_whole, rows_from_end, rows_table}
use Rattle.ps_meaning.specs.Steps.{Cut}
use Rattle.ps_meaning.specs.Within.{EndAlike}
use Rattle.ps_meaning.proofs.WithinLemmas.{has_all}

-- a slice has no more rows than its input
take_shorter : (e : ℕ) (xs : List (List Value)) → length (take e xs) ≤ length xs
take_shorter zero xs = omega arith
take_shorter (suc e) [] = omega arith
take_shorter (suc e) (x ∷ xs) = let more = take_shorter e xs in omega arith

cut_shorter : (o e : ℕ) (xs : List (List Value)) → length (drop o (take e xs)) ≤ length xs
cut_shorter o e xs =
    let t = take_shorter e xs in
    let d = length-drop o (take e xs) in
    omega arith

end_shorter : (back n : ℕ) (t : Table) (b : Bool) (broken : List Cause)
    → length (if b then no_rows t.schema [] else if_whole t.schema broken (rows_table t.schema (rows_from_end back n t.rows))).rows ≤ length t.rows
end_shorter back n t true broken = omega arith
end_shorter back n t false [] = cut_shorter (length t.rows - back) (length t.rows + n - back) t.rows
end_shorter back n t false (c ∷ cs) = omega arith

at_shorter : (offset : ℤ) (n : ℕ) (t : Table) → length (cut_at offset n t).rows ≤ length t.rows
at_shorter (pos offset) n t = cut_shorter offset (end_of offset n) t.rows
at_shorter (negsuc k) n t = end_shorter (k + 1) n t (nat_eq n 0) t.broken

pub by_shorter : (cut : Cut) (t : Table) → length (cut_by cut t).rows ≤ length t.rows
by_shorter None t = omega arith
by_shorter (Some s) t = at_shorter s.0 s.1 t

-- slices of tables that end alike end alike
kept-or-not : (b : Bool) (cs ds : List Cause) → is_empty cs ≡ is_empty ds → is_empty (cond {A = List Cause} b [] cs) ≡ is_empty (cond {A = List Cause} b [] ds)
kept-or-not true cs ds e = refl
kept-or-not false cs ds e = e

module _ (n : ℕ) (p l : Table) (a : EndAlike p l) where
  front_alike : (o : ℕ) → EndAlike (cut_table o n p) (cut_table o n l)
  front_alike o =
      record {
        same_schema = a.same_schema;
        same_rows = ap (λ rows. drop o (take (end_of o n) rows)) a.same_rows;
        both_whole = ap (λ rows. is_empty (cond {A = List Cause} (has_all o n rows) [] p.broken)) a.same_rows ∙ kept-or-not (has_all o n l.rows) p.broken l.broken a.both_whole;
      }

  whole_alike : (back : ℕ) (cs ds : List Cause) → is_empty cs ≡ is_empty ds
      → EndAlike (if_whole p.schema cs (rows_table p.schema (rows_from_end back n p.rows))) (if_whole l.schema ds (rows_table l.schema (rows_from_end back n l.rows)))
  whole_alike back [] [] e = record { same_schema = a.same_schema; same_rows = ap (rows_from_end back n) a.same_rows; both_whole = refl }
  whole_alike back [] (d ∷ ds) e = cc
  whole_alike back (c ∷ cs) [] e = cc
  whole_alike back (c ∷ cs) (d ∷ ds) e = record { same_schema = a.same_schema; same_rows = refl; both_whole = refl }

  end_alike : (back : ℕ) → EndAlike (cut_from_end back n p) (cut_from_end back n l)
  end_alike back = by (nat_eq n 0)
    where
      by : (b : Bool)
          → EndAlike (if b then no_rows p.schema [] else if_whole p.schema p.broken (rows_table p.schema (rows_from_end back n p.rows)))
          (if b then no_rows l.schema [] else if_whole l.schema l.broken (rows_table l.schema (rows_from_end back n l.rows)))
      by true = record { same_schema = a.same_schema; same_rows = refl; both_whole = refl }
      by false = whole_alike back p.broken l.broken a.both_whole

  pub at_alike : (offset : ℤ) → EndAlike (cut_at offset n p) (cut_at offset n l)
  at_alike (pos offset) = front_alike offset
  at_alike (negsuc k) = end_alike (k + 1)
