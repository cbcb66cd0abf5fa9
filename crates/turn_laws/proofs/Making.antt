-- A table that a node makes of whole inputs is made, or a cause breaks it; and a group-by's keys split into lists.
use Rattle.std.proofs.Common.{◌≡◌, ℕ, zero, suc, ◌+◌, ◌-◌, ◌<◌, ◌≤◌, ◌⊎◌, Bool, true, false, List, [], ◌∷◌, ◌++◌, length, take, drop, Some, None, refl, sym, ap, subst, ◌∙◌, inl, inr, arith}
use Rattle.std.specs.Prelude.{Contains, IsPermutation, flat_map, nat_eq, pos, negsuc, replicate, ℤ, nat_le, ◌||◌, if◌then◌else◌}
use Rattle.std.proofs.lemmas.Bool.{cases_lt}
use Rattle.std.proofs.lemmas.List.{append-nil, length-replicate}
use Rattle.std.proofs.lemmas.List.Sorted.{IsPermutation-refl}
use Rattle.ps_frame.specs.Aggregates.{max_rows}
use Rattle.ps_frame.specs.Causes.{Cause}
use Rattle.ps_frame.specs.Functions.{Functions}
use Rattle.ps_frame.specs.Tables.{Fields, Row, Table, no_rows}
use Rattle.ps_meaning.specs.Cases.{Gives, cut_at, cut_by, end_of, if_whole, projected, rows_from_end, rows_table}
use Rattle.ps_meaning.specs.Distinct.{picked, places_in}
use Rattle.ps_meaning.specs.Orders.{IsOrder}
use Rattle.ps_meaning.specs.Schemas.{names_of}
use Rattle.ps_meaning.specs.Shape.{PhysicalBefore, PhysicalKind, PhysicalNode, as_step, cut_of, in_memory_join, in_memory_map, is_join, narrowed, negative_slice, tables_for}
use Rattle.ps_meaning.specs.Sound.{HasFitParameters, IsMapStep}
use Rattle.ps_meaning.specs.Steps.{Cut, Name, Step, distinct, group_by, select, sort, user}
use Rattle.ps_settle.proofs.Members.{contains_first, length_map}
use Rattle.ps_turns.specs.Keys.{IsSplit, distinct_keys}
use Rattle.ps_turns.specs.Progress.{makes_table}
use Rattle.ps_turns.specs.Results.{IsBrokenOver, IsMade, rows_fault}

-- EVERY STEP OF A MAP GIVES SOME TABLE
in_its_order : {X : Type 0} (m : Bool) (xs : List X) → IsOrder m xs xs
in_its_order true xs = refl
in_its_order false xs = IsPermutation-refl xs

module _ (F : Functions) where
  map_gives : (at : ℕ) (step : Step) (ts : List Table) → IsMapStep F step → (U : Table) × Gives F at step ts U
  map_gives at (user n) ts fit = (_, refl)
  map_gives at (select es) ts fit = (_, refl)
  map_gives at (sort o) ts fit = (_, refl)
  map_gives at (group_by o) ts fit = (_, (_, in_its_order o.maintain_order _, refl))
  map_gives at (distinct o) ts fit = (_, (_, in_its_order o.maintain_order _, refl))
  map_gives at step ts fit = absurd fit

  -- a kind that makes a table of whole inputs has one to give
  before : (p : PhysicalNode) (kind : PhysicalKind) (ts : List Table) → HasFitParameters F kind → makes_table kind ≡ true → (U : Table) × PhysicalBefore F p (as_step kind) (tables_for F kind ts) U
  before p (in_memory_map step) ts fit makes = let g = map_gives p.origin step ts fit in (g.0, inl g.1)
  before p (in_memory_join o) ts fit makes = (_, inl refl)
  before p (negative_slice back n) ts fit makes = (_, inl refl)
  before p kind ts fit makes = absurd (let no : false ≡ true = makes in cc)

-- A SLICE GIVES FEWER ROWS
fewer_taken : {A : Type 0} (n : ℕ) (xs : List A) → length (take n xs) ≤ length xs
fewer_taken zero xs = omega arith
fewer_taken (suc n) [] = omega arith
fewer_taken (suc n) (x ∷ xs) = let rest = fewer_taken n xs in omega arith

fewer_dropped : {A : Type 0} (n : ℕ) (xs : List A) → length (drop n xs) ≤ length xs
fewer_dropped zero xs = omega arith
fewer_dropped (suc n) [] = omega arith
fewer_dropped (suc n) (x ∷ xs) = let rest = fewer_dropped n xs in omega arith

fewer_cut : {A : Type 0} (m n : ℕ) (xs : List A) → length (drop m (take n xs)) ≤ length xs
fewer_cut m n xs = let a = fewer_dropped m (take n xs) in let b = fewer_taken n xs in omega arith

-- a cut of a whole table is whole, and has no more rows
pub record CutsWhole (U T : Table) : Type 0 where
  pub fewer : length T.rows ≤ length U.rows
  pub whole : U.broken ≡ [] → T.broken ≡ []

of_end : (b : Bool) (s : Fields) (cs : List Cause) (rows kept : List Row) → length kept ≤ length rows
    → CutsWhole (record { schema = s; rows = rows; broken = cs }) (if b then no_rows s [] else if_whole s cs (rows_table s kept))
of_end true s cs rows kept h = record { fewer = omega arith; whole = λ e. refl }
of_end false s [] rows kept h = record { fewer = h; whole = λ e. refl }
of_end false s (c ∷ cs) rows kept h = record { fewer = omega arith; whole = λ e. absurd (let no : c ∷ cs ≡ [] = e in cc) }

none_left : (b : Bool) (cs : List Cause) → cs ≡ [] → (if b then [] else cs) ≡ []
none_left true cs e = refl
none_left false cs e = e

of_cut_at : (z : ℤ) (n : ℕ) (U : Table) → CutsWhole U (cut_at z n U)
of_cut_at (pos offset) n U =
    record {
      fewer = fewer_cut offset (end_of offset n) U.rows;
      whole = none_left (nat_eq n 0 || nat_le (end_of offset n) (length U.rows)) U.broken;
    }
of_cut_at (negsuc k) n U = of_end (nat_eq n 0) U.schema U.broken U.rows (rows_from_end (k + 1) n U.rows) (fewer_cut (length U.rows - (k + 1)) (length U.rows + n - (k + 1)) U.rows)

of_cut : (c : Cut) (U : Table) → CutsWhole U (cut_by c U)
of_cut None U = record { fewer = omega arith; whole = λ e. e }
of_cut (Some s) U = of_cut_at s.0 s.1 U

of_join : (b : Bool) (ns : List Name) (s : Fields) (U T : Table) → CutsWhole U T → CutsWhole U (if b then projected ns s T else T)
of_join true ns s U T h = record { fewer = let long = length_map (picked (places_in ns T.schema)) T.rows in let few = h.fewer in omega (arith, long, few); whole = h.whole }
of_join false ns s U T h = h

above : (m a b : ℕ) → m < a → a ≤ b → m < b
above m a b h k = omega arith

-- A table of whole inputs is made, or a cause breaks it.
module _ (F : Functions) (p : PhysicalNode) (ts : List Table) (fit : HasFitParameters F p.kind) (makes : makes_table p.kind ≡ true) where
  source : (U : Table) × PhysicalBefore F p (as_step p.kind) (tables_for F p.kind ts) U
  source = before F p p.kind ts fit makes

  cuts : CutsWhole source.0 (narrowed F p (cut_by (cut_of F (as_step p.kind)) source.0))
  cuts = of_join (is_join F p.kind) (names_of p.schema) p.schema source.0 (cut_by (cut_of F (as_step p.kind)) source.0) (of_cut (cut_of F (as_step p.kind)) source.0)

  pub made_or_broken : ((rs : List Row) × IsMade F p ts rs) ⊎ ((c : Cause) × IsBrokenOver F p ts c)
  made_or_broken = by source.0.broken refl (cases_lt max_rows (length (narrowed F p (cut_by (cut_of F (as_step p.kind)) source.0)).rows))
    where
      by : (cs : List Cause) → source.0.broken ≡ cs → (max_rows < length (narrowed F p (cut_by (cut_of F (as_step p.kind)) source.0)).rows) ⊎ (length (narrowed F p (cut_by (cut_of F (as_step p.kind)) source.0)).rows ≤ max_rows)
          → ((rs : List Row) × IsMade F p ts rs) ⊎ ((c : Cause) × IsBrokenOver F p ts c)
      by (c ∷ cs) e h = inr (c, (source.0, source.1, inl (subst (λ xs. Contains xs c) (sym e) (contains_first c c cs refl))))
      by [] e (inl many) =
          inr (rows_fault p, (source.0, source.1, inr (above max_rows (length (narrowed F p (cut_by (cut_of F (as_step p.kind)) source.0)).rows) (length source.0.rows) many cuts.fewer, refl)))
      by [] e (inr few) =
          inl ((narrowed F p (cut_by (cut_of F (as_step p.kind)) source.0)).rows, (narrowed F p (cut_by (cut_of F (as_step p.kind)) source.0), (source.0, source.1, refl), cuts.whole e, refl, few))

-- KEYS IN LISTS
none_in_lists : (k : ℕ) → flat_map (λ (l : List Row). l) (replicate k []) ≡ []
none_in_lists zero = refl
none_in_lists (suc k) = none_in_lists k

-- all keys in the first list, and none in the others
pub split_keys : (p : PhysicalNode) (ts : List Table) (partitions : ℕ) → 1 ≤ partitions → (lists : List (List Row)) × IsSplit p ts partitions lists
split_keys p ts zero h = absurd (omega arith)
split_keys p ts (suc k) h =
    let keys = distinct_keys p ts in
    let none = none_in_lists k in
    let all : keys ≡ keys ++ flat_map (λ (l : List Row). l) (replicate k []) = sym (ap (λ xs. keys ++ xs) none ∙ append-nil keys) in
    (keys ∷ replicate k [], record { number = ap suc (length-replicate k []); each_once = subst (IsPermutation keys) all (IsPermutation-refl keys) })
