-- Causes over a part of the rows are among those over all.
use Rattle.std.proofs.Common.{◌≡◌, ℕ, ◌⊎◌, List, [], ◌∷◌, ◌++◌, refl, sym, ap, subst, ◌∙◌, inl, inr}
use Rattle.std.specs.Prelude.{Bool, true, false, not, Contains, cond, filter, flat_map}
use Rattle.std.specs.List.{AllByRecursion}
use Rattle.ps_frame.specs.Causes.{Cause, Cell, Column, cell_causes, cell_values, faulty_or, is_empty}
use Rattle.ps_frame.specs.Eval.{cell_of_row, cellwise}
use Rattle.ps_frame.specs.Zip.{aligned, broadcasts, extent_of, extents, row_causes, unseen_causes, zip_length}
use Rattle.ps_frame.specs.declared.value.Value.{Value}
use Rattle.ps_rowwise.proofs.Standing.{Stands, lone_column, lone-is, spread-length}
use Rattle.passing_laws.proofs.Goers.{AllGo, Goer, all-stand, all_lone, cells_of, columns, combined, combined-goes, operands, same-lone}
use Rattle.world_laws.proofs.InOrder.{contains_cases, contains_first, contains_later, none_in_nil}

module _ {A : Type 0} where
  pub among-left : (xs ys : List A) (y : A) → Contains xs y → Contains (xs ++ ys) y
  among-left [] ys y c = absurd (none_in_nil y c)
  among-left (x ∷ xs) ys y c = by (among-left xs ys y) (contains_cases x y xs c)
    where
      by : (Contains xs y → Contains (xs ++ ys) y) → (x ≡ y) ⊎ Contains xs y → Contains (x ∷ (xs ++ ys)) y
      by rest (inl e) = subst (Contains (x ∷ (xs ++ ys))) e (contains_first x (xs ++ ys))
      by rest (inr later) = contains_later x y (xs ++ ys) (rest later)

  pub among-right : (xs ys : List A) (y : A) → Contains ys y → Contains (xs ++ ys) y
  among-right [] ys y c = c
  among-right (x ∷ xs) ys y c = contains_later x y (xs ++ ys) (among-right xs ys y c)

  pub among-either : (xs ys : List A) (y : A) → Contains (xs ++ ys) y → Contains xs y ⊎ Contains ys y
  among-either [] ys y c = inr c
  among-either (x ∷ xs) ys y c = by (among-either xs ys y) (contains_cases x y (xs ++ ys) c)
    where
      more : Contains xs y ⊎ Contains ys y → Contains (x ∷ xs) y ⊎ Contains ys y
      more (inl here) = inl (contains_later x y xs here)
      more (inr there) = inr there

      by : (Contains (xs ++ ys) y → Contains xs y ⊎ Contains ys y) → (x ≡ y) ⊎ Contains (xs ++ ys) y → Contains (x ∷ xs) y ⊎ Contains ys y
      by rest (inl e) = inl (subst (Contains (x ∷ xs)) e (contains_first x xs))
      by rest (inr later) = more (rest later)

-- what goes row by row shows what it loses: over any row its cell has these causes
pub record Shows (g : Goer) : Type 0 where
  pub lost_same : (causes : List Cause) → (g.over [] causes).lost ≡ (g.over [] []).lost
  pub lost_shows : (c : Cause) (r : List Value) → Contains (g.over [] []).lost c → Contains (cell_causes (g.cell r)) c

abbrev pub AllShow : List Goer → Type 0
AllShow gs = AllByRecursion Shows gs

-- a column without cells' causes adds nothing
skipped : (b : Bool) (c : Column) (rest : List Column) → flat_map cell_causes c.cells ≡ [] → flat_map (λ (c : Column). flat_map cell_causes c.cells) (cond b (c ∷ rest) rest) ≡ flat_map (λ (c : Column). flat_map cell_causes c.cells) rest
skipped true c rest h = ap (λ cs. cs ++ flat_map (λ (c : Column). flat_map cell_causes c.cells) rest) h
skipped false c rest h = refl

abbrev broadcasting : List Column → List Column
broadcasting cs = filter (λ c. broadcasts false (extent_of c)) cs

unseen-here : (b e f : Bool) (cell : List Value → Cell) (c d : Column) (cs ds : List Column) → Stands [] e b c cell → Stands [] f b d cell → unseen_causes false 0 cs ≡ unseen_causes false 0 ds → unseen_causes false 0 (c ∷ cs) ≡ unseen_causes false 0 (d ∷ ds)
unseen-here true e f cell c d cs ds s t h =
    ap (λ (x : Column). flat_map (λ (c : Column). flat_map cell_causes c.cells) (cond (broadcasts false (extent_of x)) (x ∷ broadcasting cs) (broadcasting cs))) s.0
    ∙ ap (λ xs. flat_map cell_causes (cell [] ∷ []) ++ xs) h
    ∙ ap (λ (x : Column). flat_map (λ (c : Column). flat_map cell_causes c.cells) (cond (broadcasts false (extent_of x)) (x ∷ broadcasting ds) (broadcasting ds))) (sym t.0)
unseen-here false e f cell c d cs ds s t h =
    skipped (broadcasts false (extent_of c)) c (broadcasting cs) (ap (flat_map cell_causes) s.0) ∙ h ∙ sym (skipped (broadcasts false (extent_of d)) d (broadcasting ds) (ap (flat_map cell_causes) t.0))

unseen-same : (causes : List Cause) (gs : List Goer) → AllGo gs → unseen_causes false 0 (columns [] causes gs) ≡ unseen_causes false 0 (columns [] [] gs)
unseen-same causes [] all = refl
unseen-same causes (g ∷ gs) all =
    unseen-here g.lone (not (is_empty causes)) false g.cell (g.over [] causes) (g.over [] []) (columns [] causes gs) (columns [] [] gs) (all.0.stands [] causes) (all.0.stands [] []) (unseen-same causes gs all.1)

lost-all : (causes : List Cause) (gs : List Goer) → AllShow gs → flat_map (λ (c : Column). c.lost) (columns [] causes gs) ≡ flat_map (λ (c : Column). c.lost) (columns [] [] gs)
lost-all causes [] all = refl
lost-all causes (g ∷ gs) all = λ i. all.0.lost_same causes i ++ lost-all causes gs all.1 i

-- the causes of a row's cells are those of each
shown-lost : (gs : List Goer) → AllShow gs → (c : Cause) (r : List Value) → Contains (flat_map (λ (c : Column). c.lost) (columns [] [] gs)) c → Contains (row_causes (cells_of gs r)) c
shown-lost [] all c r h = h
shown-lost (g ∷ gs) all c r h = by (shown-lost gs all.1 c r) (among-either (g.over [] []).lost (flat_map (λ (c : Column). c.lost) (columns [] [] gs)) c h)
  where
    by : (Contains (flat_map (λ (c : Column). c.lost) (columns [] [] gs)) c → Contains (row_causes (cells_of gs r)) c) → Contains (g.over [] []).lost c ⊎ Contains (flat_map (λ (c : Column). c.lost) (columns [] [] gs)) c → Contains (cell_causes (g.cell r) ++ row_causes (cells_of gs r)) c
    by rest (inl here) = among-left (cell_causes (g.cell r)) (row_causes (cells_of gs r)) c (all.0.lost_shows c r here)
    by rest (inr later) = among-right (cell_causes (g.cell r)) (row_causes (cells_of gs r)) c (rest later)

shown-cell : (b : Bool) (cell : List Value → Cell) (d : Column) (c : Cause) (r : List Value) → Stands [] false b d cell → Contains (flat_map cell_causes d.cells) c → Contains (cell_causes (cell r)) c
shown-cell true cell d c r s h = by (among-either (cell_causes (cell [])) [] c (subst (λ (x : Column). Contains (flat_map cell_causes x.cells) c) s.0 h))
  where
    by : Contains (cell_causes (cell [])) c ⊎ Contains [] c → Contains (cell_causes (cell r)) c
    by (inl here) = subst (λ x. Contains (cell_causes x) c) (sym (s.1 r)) here
    by (inr none) = absurd (none_in_nil c none)
shown-cell false cell d c r s h = absurd (none_in_nil c (subst (λ xs. Contains (flat_map cell_causes xs) c) s.0 h))

shown-unseen : (gs : List Goer) → AllGo gs → (c : Cause) (r : List Value) → Contains (unseen_causes false 0 (columns [] [] gs)) c → Contains (row_causes (cells_of gs r)) c
shown-unseen [] all c r h = h
shown-unseen (g ∷ gs) all c r h = by (shown-unseen gs all.1 c r) (broadcasts false (extent_of (g.over [] []))) h
  where
    sum : List Column → List Cause
    sum cs = flat_map (λ (c : Column). flat_map cell_causes c.cells) cs

    either : (Contains (sum (broadcasting (columns [] [] gs))) c → Contains (row_causes (cells_of gs r)) c) → Contains (flat_map cell_causes (g.over [] []).cells) c ⊎ Contains (sum (broadcasting (columns [] [] gs))) c → Contains (cell_causes (g.cell r) ++ row_causes (cells_of gs r)) c
    either rest (inl here) = among-left (cell_causes (g.cell r)) (row_causes (cells_of gs r)) c (shown-cell g.lone g.cell (g.over [] []) c r (all.0.stands [] []) here)
    either rest (inr later) = among-right (cell_causes (g.cell r)) (row_causes (cells_of gs r)) c (rest later)

    by : (Contains (sum (broadcasting (columns [] [] gs))) c → Contains (row_causes (cells_of gs r)) c) → (b : Bool) → Contains (sum (cond b (g.over [] [] ∷ broadcasting (columns [] [] gs)) (broadcasting (columns [] [] gs)))) c → Contains (cell_causes (g.cell r) ++ row_causes (cells_of gs r)) c
    by rest true k = either rest (among-either (flat_map cell_causes (g.over [] []).cells) (sum (broadcasting (columns [] [] gs))) c k)
    by rest false k = among-right (cell_causes (g.cell r)) (row_causes (cells_of gs r)) c (rest k)

module _ (node : ℕ) (gs : List Goer) (all : AllGo gs) (show : AllShow gs) (some : all_lone gs ≡ false) where
  none-long : (causes : List Cause) → zip_length false (extents (columns [] causes gs)) ≡ 0
  none-long causes = spread-length [] (not (is_empty causes)) (operands [] causes gs) (all-stand [] causes gs all) (same-lone [] causes gs ∙ some)

  -- what the zip loses over no rows: the same whatever ends them, and among the causes of any row
  pub zip-lost-same : (causes : List Cause) → (aligned false node (columns [] causes gs)).lost ≡ (aligned false node (columns [] [] gs)).lost
  zip-lost-same causes =
      (λ i. lost-all causes gs show i ++ unseen_causes false (none-long causes i) (columns [] causes gs))
      ∙ (λ i. flat_map (λ (c : Column). c.lost) (columns [] [] gs) ++ unseen-same causes gs all i)
      ∙ (λ i. flat_map (λ (c : Column). c.lost) (columns [] [] gs) ++ unseen_causes false (sym (none-long []) i) (columns [] [] gs))

  pub zip-lost-shows : (c : Cause) (r : List Value) → Contains (aligned false node (columns [] [] gs)).lost c → Contains (row_causes (cells_of gs r)) c
  zip-lost-shows c r h = by (among-either (flat_map (λ (c : Column). c.lost) (columns [] [] gs)) (unseen_causes false (zip_length false (extents (columns [] [] gs))) (columns [] [] gs)) c h)
    where
      by : Contains (flat_map (λ (c : Column). c.lost) (columns [] [] gs)) c ⊎ Contains (unseen_causes false (zip_length false (extents (columns [] [] gs))) (columns [] [] gs)) c → Contains (row_causes (cells_of gs r)) c
      by (inl here) = shown-lost gs show c r here
      by (inr there) = shown-unseen gs all c r (subst (λ n. Contains (unseen_causes false n (columns [] [] gs)) c) (none-long []) there)

faulty-keeps : (xs : List Cause) (d : Cell) (c : Cause) → Contains xs c → Contains (cell_causes (faulty_or xs d)) c
faulty-keeps [] d c h = absurd (none_in_nil c h)
faulty-keeps (x ∷ xs) d c h = h

pub combined-shows : (node : ℕ) (f : List Value → Cell) (gs : List Goer) → AllGo gs → AllShow gs → Shows (combined node f gs)
combined-shows node f gs all show = by (all_lone gs) refl
  where
    alone : all_lone gs ≡ true → (causes : List Cause) → cellwise node f (columns [] causes gs) ≡ lone_column (cell_of_row f (cells_of gs []))
    alone q causes = (lone-is [] (not (is_empty causes)) (all_lone gs) (cellwise node f (columns [] causes gs)) (λ r. cell_of_row f (cells_of gs r)) ((combined-goes node f gs all).stands [] causes) q).0

    by : (b : Bool) → all_lone gs ≡ b → Shows (combined node f gs)
    by true q =
        record {
          lost_same = λ causes. ap (λ (d : Column). d.lost) (alone q causes ∙ sym (alone q []));
          lost_shows = λ c r h. absurd (none_in_nil c (subst (λ (d : Column). Contains d.lost c) (alone q []) h));
        }
    by false q =
        record {
          lost_same = zip-lost-same node gs all show q;
          lost_shows = λ c r h. faulty-keeps (row_causes (cells_of gs r)) (f (cell_values (cells_of gs r))) c (zip-lost-shows node gs all show q c r h);
        }
