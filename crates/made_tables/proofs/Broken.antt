-- What breaks a table after its slice breaks it before.
use Rattle.std.proofs.Common.{ℕ, ◌+◌, Bool, true, false, List, [], ◌∷◌, ◌<◌, arith}
use Rattle.std.specs.Prelude.{Contains, ℤ, ◌||◌, if◌then◌else◌, length, nat_eq, nat_le, negsuc, pos, Some, None}
use Rattle.ps_frame.specs.Causes.{Cause}
use Rattle.ps_frame.specs.Tables.{Fields, Row, Table, no_rows}
use Rattle.ps_meaning.specs.Cases.{cut_at, cut_by, end_of, if_whole, rows_from_end, rows_table}
use Rattle.ps_meaning.specs.Steps.{Cut}

none_in : (c : Cause) → Contains [] c → ⊥
none_in c h = let none : h.0 < 0 = h.1 in omega arith

of_front : (b : Bool) (cs : List Cause) (c : Cause) → Contains (if b then [] else cs) c → Contains cs c
of_front true cs c h = absurd (none_in c h)
of_front false cs c h = h

of_end : (b : Bool) (s : Fields) (cs : List Cause) (rows : List Row) (c : Cause) → Contains (if b then no_rows s [] else if_whole s cs (rows_table s rows)).broken c → Contains cs c
of_end true s cs rows c h = absurd (none_in c h)
of_end false s [] rows c h = h
of_end false s (d ∷ ds) rows c h = h

of_cut_at : (z : ℤ) (n : ℕ) (U : Table) (c : Cause) → Contains (cut_at z n U).broken c → Contains U.broken c
of_cut_at (pos offset) n U c h = of_front (nat_eq n 0 || nat_le (end_of offset n) (length U.rows)) U.broken c h
of_cut_at (negsuc k) n U c h = of_end (nat_eq n 0) U.schema U.broken (rows_from_end (k + 1) n U.rows) c h

pub of_cut : (cut : Cut) (U : Table) (c : Cause) → Contains (cut_by cut U).broken c → Contains U.broken c
of_cut None U c h = h
of_cut (Some s) U c h = of_cut_at s.0 s.1 U c h
