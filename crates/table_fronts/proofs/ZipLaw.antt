-- The first part of the law of zips.
use Rattle.std.proofs.Common.{◌≡◌, ℕ, zero, suc, ◌<◌, ◌≤◌, ◌+◌, ◌-◌, Bool, true, false, cond, List, [], ◌∷◌, ◌++◌, length, take, drop, min, refl, sym, ap, ◌∙◌, inl, inr, arith}
use Rattle.std.specs.Prelude.{get_or, nat_eq, not, ◌&&◌, ◌==◌, if◌then◌else◌}
use Rattle.std.proofs.lemmas.Bool.Decides.{nat_tests}
use Rattle.std.proofs.lemmas.List.{length-append, length-drop, length-take}
use Rattle.ps_frame.specs.Causes.{is_empty}
use Rattle.ps_frame.specs.Tables.{Row, Table}
use Rattle.ps_frame.specs.Zip.{Extent, broadcasts as spreads}
use Rattle.ps_world.specs.Laws.{sent_by}
use Rattle.ps_world.specs.World.{Pipe}
use Rattle.world_facts.proofs.CutOff.{both_true}
use Rattle.family_fronts.proofs.UnionLaw.{IsFront}
use Rattle.table_fronts.proofs.ZipRows.{Binds, MayPass, extent}
use Rattle.world_families.specs.Work.{IsComplete, rows_read}
use Rattle.world_families.specs.Zips.{ServesCut, broadcasts, rows_in_cut}

-- LISTS BY PLACE
get_past : {A : Type 0} (xs : List A) (i : ℕ) (d : A) → length xs ≤ i → get_or xs i d ≡ d
get_past [] i d h = refl
get_past (x ∷ xs) zero d h = absurd (omega arith)
get_past (x ∷ xs) (suc i) d h = get_past xs i d (omega arith)

get_front : {A : Type 0} (xs ys : List A) (i : ℕ) (d : A) → i < length xs → get_or (xs ++ ys) i d ≡ get_or xs i d
get_front [] ys i d h = absurd (omega arith)
get_front (x ∷ xs) ys zero d h = refl
get_front (x ∷ xs) ys (suc i) d h = get_front xs ys i d (omega arith)

get_take : {A : Type 0} (xs : List A) (n i : ℕ) (d : A) → i < n → get_or (take n xs) i d ≡ get_or xs i d
get_take xs zero i d h = absurd (omega arith)
get_take [] (suc n) i d h = refl
get_take (x ∷ xs) (suc n) zero d h = refl
get_take (x ∷ xs) (suc n) (suc i) d h = get_take xs n i d (omega arith)

get_drop : {A : Type 0} (xs : List A) (a i : ℕ) (d : A) → get_or (drop a xs) i d ≡ get_or xs (a + i) d
get_drop xs zero i d = let e : i ≡ 0 + i = omega arith in ap (λ k. get_or xs k d) e
get_drop [] (suc a) i d = refl
get_drop (x ∷ xs) (suc a) i d = get_drop xs a i d ∙ (let e : suc (a + i) ≡ suc a + i = omega arith in ap (λ k. get_or (x ∷ xs) k d) e)

if_same : (b : Bool) (k : ℕ) → (b ≡ true → k ≡ 0) → (if b then 0 else k) ≡ k
if_same true k h = sym (h refl)
if_same false k h = refl

-- WHAT BROADCASTS
pub equal_one : (n : ℕ) → n ≡ 1 → (n == 1) ≡ true
equal_one n e = grind arith

pub one_equal : (n : ℕ) → (n == 1) ≡ true → n ≡ 1
one_equal n e = grind arith

nat_one : (n : ℕ) → nat_eq n 1 ≡ true → n ≡ 1
nat_one n e = grind (arith, nat_tests)

pub not_true : (b : Bool) → not b ≡ true → b ≡ false
not_true true e = absurd (let never : false ≡ true = e in cc)
not_true false e = refl

-- an extent that broadcasts has one cell, where nothing is filled
pub record Spread (extend : Bool) (e : Extent) : Type 0 where
  pub plain : extend ≡ false
  pub whole : e.ended ≡ false
  pub one : e.len ≡ 1

pub spread_means : (extend : Bool) (e : Extent) → spreads extend e ≡ true → Spread extend e
spread_means extend e h =
    let a = both_true (not extend) (not e.ended && (e.len == 1)) h in
    let b = both_true (not e.ended) (e.len == 1) a.1 in
    record { plain = not_true extend a.0; whole = not_true e.ended b.0; one = one_equal e.len b.1 }

pub spread_is : (extend : Bool) (e : Extent) → Spread extend e → spreads extend e ≡ true
spread_is extend e s = λ i. not (s.plain i) && (not (s.whole i) && equal_one e.len s.one i)

-- an input that broadcasts is complete and had one row
pub record Single (extend : Bool) (q : Pipe) : Type 0 where
  pub plain : extend ≡ false
  pub complete : IsComplete q
  pub one : length (rows_read q) ≡ 1

pub single_means : (extend : Bool) (q : Pipe) → broadcasts extend q ≡ true → Single extend q
single_means extend q h =
    let a = both_true (not extend) ((sent_by q).is_complete && nat_eq (length (rows_read q)) 1) h in
    let b = both_true (sent_by q).is_complete (nat_eq (length (rows_read q)) 1) a.1 in
    record { plain = not_true extend a.0; complete = b.0; one = nat_one (length (rows_read q)) b.1 }

-- AN INPUT AND THE TABLE THAT IT TURNS OUT TO MEAN
pub record Meant (q : Pipe) (T : Table) : Type 0 where
  pub front : IsFront (rows_read q) T.rows
  pub all : IsComplete q → (rows_read q ≡ T.rows) × (T.broken ≡ [])

pub longer : (q : Pipe) (T : Table) → Meant q T → length (rows_read q) ≤ length T.rows
longer q T m = let e = ap length (m.front.1) in let l = length-append (rows_read q) m.front.0 in omega (arith, e, l)

front_row : (q : Pipe) (T : Table) (i : ℕ) → Meant q T → i < length (rows_read q) → get_or (rows_read q) i [] ≡ get_or T.rows i []
front_row q T i m h = sym (get_front (rows_read q) m.front.0 i [] h) ∙ ap (λ rs. get_or rs i []) m.front.1

module _ (extend : Bool) (a b : ℕ) (some : a < b) (q : Pipe) (T : Table) (m : Meant q T) (serves : ServesCut extend a b q) where
  abbrev pub R : List Row
  R = rows_read q

  abbrev pub C : List Row
  C = rows_in_cut extend a b q

  abbrev pub cut_extent : Extent
  cut_extent = record { ended = false; len = length (rows_in_cut extend a b q) }

  -- how many rows the cut has
  cut_is : broadcasts extend q ≡ false → C ≡ take (b - a) (drop a R)
  cut_is e = ap (λ t. cond t R (take (b - a) (drop a R))) e

  whole_cut : broadcasts extend q ≡ true → C ≡ R
  whole_cut e = ap (λ t. cond t R (take (b - a) (drop a R))) e

  part_long : broadcasts extend q ≡ false → length C ≡ min (b - a) (length R - a)
  part_long e = ap length (cut_is e) ∙ length-take (b - a) (drop a R) ∙ ap (min (b - a)) (length-drop a R)

  -- the row of the cut is that of the table
  pub same_row_at : (j : ℕ) → j < b - a → get_or C (if spreads extend (record { ended = false; len = length C }) then 0 else j) [] ≡ get_or T.rows (if spreads extend (extent T) then 0 else a + j) []
  same_row_at j less = by (broadcasts extend q) refl serves
    where
      broken_not : T.broken ≡ [] → not (is_empty T.broken) ≡ false
      broken_not e = ap (λ cs. not (is_empty cs)) e

      by : (t : Bool) → broadcasts extend q ≡ t → ServesCut extend a b q → get_or C (if spreads extend (record { ended = false; len = length C }) then 0 else j) [] ≡ get_or T.rows (if spreads extend (extent T) then 0 else a + j) []
      by true e s =
          let one = single_means extend q e in
          let w = m.all one.complete in
          let c_one : length C ≡ 1 = ap length (whole_cut e) ∙ one.one in
          let t_one : length T.rows ≡ 1 = ap length (sym w.0) ∙ one.one in
          let at_c = spread_is extend (record { ended = false; len = length C }) (record { plain = one.plain; whole = refl; one = c_one }) in
          let at_t = spread_is extend (extent T) (record { plain = one.plain; whole = broken_not w.1; one = t_one }) in
          ap (λ t. get_or C (if t then 0 else j) []) at_c ∙ ap (λ rs. get_or rs 0 []) (whole_cut e ∙ w.0) ∙ sym (ap (λ t. get_or T.rows (if t then 0 else a + j) []) at_t)
      by false e (inl lone) = absurd (let never : false ≡ true = sym e ∙ lone in cc)
      by false e (inr (inl full)) =
          let long = part_long e in
          let c_long : length C ≡ b - a = grind (arith, long, full, some) in
          let at_c = if_same (spreads extend (record { ended = false; len = length C })) j (λ h. let s = (spread_means extend (record { ended = false; len = length C }) h).one in omega (arith, s, c_long, less)) in
          let more = longer q T m in
          let at_t = if_same (spreads extend (extent T)) (a + j) (λ h. let s = (spread_means extend (extent T) h).one in omega (arith, s, more, full, less, some)) in
          ap (λ k. get_or C k []) at_c ∙ ap (λ rs. get_or rs j []) (cut_is e) ∙ get_take (drop a R) (b - a) j [] less ∙ get_drop R a j [] ∙ front_row q T (a + j) m (omega (arith, full, less)) ∙ sym (ap (λ k. get_or T.rows k []) at_t)
      by false e (inr (inr (filled, complete, short))) =
          let w = m.all complete in
          let long = part_long e in
          let none : length C ≡ 0 = grind (arith, long, short) in
          let t_short : length T.rows ≤ a = (let s = ap length w.0 in omega (arith, s, short)) in
          get_past C (if spreads extend (record { ended = false; len = length C }) then 0 else j) [] (omega (arith, none)) ∙ sym (get_past T.rows (if spreads extend (extent T) then 0 else a + j) [] (past (spreads extend (extent T)) refl t_short))
        where
          past : (t : Bool) → spreads extend (extent T) ≡ t → length T.rows ≤ a → length T.rows ≤ (if t then 0 else a + j)
          past true h s = absurd (let never : false ≡ true = sym (spread_means extend (extent T) h).plain ∙ filled in cc)
          past false h s = omega (arith, s)

  -- the cut has as many rows as it is long, or one that spreads
  pub cut_fills : Binds extend cut_extent → b - a ≤ length C
  cut_fills binds = by (broadcasts extend q) refl serves extend refl binds
    where
      by : (t : Bool) → broadcasts extend q ≡ t → ServesCut extend a b q → (x : Bool) → extend ≡ x → Binds x (record { ended = false; len = length C }) → b - a ≤ length C
      by t e s true x binds = absurd (let never : false ≡ true = binds in cc)
      by true e s false x binds =
          let one = single_means extend q e in
          let c_one : length C ≡ 1 = ap length (whole_cut e) ∙ one.one in
          absurd (let never : false ≡ true = sym binds ∙ spread_is false (record { ended = false; len = length C }) (record { plain = refl; whole = refl; one = c_one }) in cc)
      by false e (inl lone) false x binds = absurd (let never : false ≡ true = sym e ∙ lone in cc)
      by false e (inr (inl full)) false x binds = let long = part_long e in grind (arith, long, full, some)
      by false e (inr (inr (filled, complete, short))) false x binds = absurd (let never : false ≡ true = sym x ∙ filled in cc)

  pub cut_within : MayPass extend cut_extent → length C ≤ b - a
  cut_within may = by (broadcasts extend q) refl extend refl may
    where
      by : (t : Bool) → broadcasts extend q ≡ t → (x : Bool) → extend ≡ x → MayPass x (record { ended = false; len = length C }) → length C ≤ b - a
      by false e x y may = let long = part_long e in grind (arith, long)
      by true e true x may = absurd (let never : true ≡ false = sym x ∙ (single_means extend q e).plain in cc)
      by true e false x may =
          let one = single_means extend q e in
          let c_one : length C ≡ 1 = ap length (whole_cut e) ∙ one.one in
          absurd (let never : false ≡ true = sym may ∙ spread_is false (record { ended = false; len = length C }) (record { plain = refl; whole = refl; one = c_one }) in cc)

  -- an input that has all rows of the cut: so many stand in it
  pub cut_reached : b ≤ length R → (b - a ≤ length C) × (length C ≤ b - a)
  cut_reached full = by (broadcasts extend q) refl
    where
      by : (t : Bool) → broadcasts extend q ≡ t → (b - a ≤ length C) × (length C ≤ b - a)
      by true e =
          let one = (single_means extend q e).one in
          let c_one : length C ≡ 1 = ap length (whole_cut e) ∙ one in
          (omega (arith, c_one, one, full), omega (arith, c_one, some))
      by false e = let long = part_long e in (grind (arith, long, full, some), grind (arith, long))

  -- the table has the rows up to the cut's end, unless it spreads
  pub table_fills : Binds extend (extent T) → b ≤ length T.rows
  table_fills binds = by (broadcasts extend q) refl serves extend refl binds
    where
      ended_not : T.broken ≡ [] → not (is_empty T.broken) ≡ false
      ended_not e = ap (λ cs. not (is_empty cs)) e

      by : (t : Bool) → broadcasts extend q ≡ t → ServesCut extend a b q → (x : Bool) → extend ≡ x → Binds x (extent T) → b ≤ length T.rows
      by t e (inr (inl full)) x y binds = let more = longer q T m in omega (arith, more, full)
      by t e (inr (inr (filled, complete, short))) true y binds = absurd (let never : false ≡ true = sym (ended_not (m.all complete).1) ∙ binds in cc)
      by t e (inr (inr (filled, complete, short))) false y binds = absurd (let never : false ≡ true = sym y ∙ filled in cc)
      by t e (inl lone) true y binds = absurd (let never : true ≡ false = sym y ∙ (single_means extend q lone).plain in cc)
      by t e (inl lone) false y binds =
          let one = single_means extend q lone in
          let w = m.all one.complete in
          let t_one : length T.rows ≡ 1 = ap length (sym w.0) ∙ one.one in
          absurd (let never : false ≡ true = sym binds ∙ spread_is false (extent T) (record { plain = refl; whole = ended_not w.1; one = t_one }) in cc)
