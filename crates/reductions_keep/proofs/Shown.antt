-- What an expression over the table of reductions shows: what broke the table, a cause of the cell of some row, or one of a part that reads no row.
use Rattle.std.proofs.Common.{◌≡◌, ◌⊎◌, inl, inr, ℕ, Bool, true, false, not, cond, List, [], ◌∷◌, ◌++◌, refl, sym, ap, subst, ◌∙◌}
use Rattle.std.specs.Prelude.{IsTrue, flat_map, map, ◌&&◌}
use Rattle.std.specs.List.{AllByRecursion}
use Rattle.ps_frame.specs.Causes.{Cause, Cell, Column, value, cell_causes, column_causes, is_empty}
use Rattle.ps_frame.specs.Eval.{at as item, cell_of_row, cellwise, eval}
use Rattle.ps_frame.specs.Free.{causes_if_free, free_causes, no_table}
use Rattle.ps_frame.specs.Operators.{binary_value, cast_cell, cast_value, choice_of, not_value}
use Rattle.ps_frame.specs.Tables.{Table, field_index, values_at_some}
use Rattle.ps_frame.specs.Trees.{Tree}
use Rattle.ps_frame.specs.Typing.{goes_by_cell, is_elementwise, is_independent, kind_over}
use Rattle.ps_frame.specs.Values.{is_null}
use Rattle.ps_frame.specs.Zip.{row_causes}
use Rattle.ps_frame.specs.declared.expr.FunctionExpr.{FunctionExpr}
use Rattle.ps_frame.specs.declared.expr.FunctionExpr.TheVariants as fun
use Rattle.ps_frame.specs.declared.value.Value.{Value}
use Rattle.ps_frame.specs.declared.value.Value.TheVariants as val
use Rattle.ps_meaning.specs.Steps.{Named}
use Rattle.ps_rowwise.specs.Rows.{HasKind}
use Rattle.ps_rowwise.proofs.ByRow.{binary-kinds, both, cast-kinds, cell_for, function-kinds, goes-by, operand, ternary-kinds}
use Rattle.ps_rowwise.proofs.Ignoring.{same-column}
use Rattle.ps_rowwise.proofs.RowLaws.{one-cell}
use Rattle.ps_rowwise.proofs.Standing.{Operand, Stands, agrees}
use Rattle.ps_shares.proofs.Causes.{All, Known, up_operator}
use Rattle.ps_shares.proofs.Ends.{has_first}
use Rattle.ps_shares.proofs.Members.{Has}
use Rattle.ps_bundles.proofs.ExprEnds.{from_each}
use Rattle.ps_bundles.proofs.Gathered.{all_map, has_last}
use Rattle.picked_zips.proofs.Members.{has_flat, of_flat, of_map}
use Rattle.plan_rules.specs.Reductions.{is_made_of_reductions}
use Rattle.reductions_keep.proofs.Inside.{function_shows, in_three, in_two, made_single, shows_free, three}
use Rattle.reductions_keep.proofs.Parts.{IsApart}
use Rattle.reductions_keep.proofs.Single.{faulty_shows, single_shows}

pub known_weaker : (Q R : Cause → Type 0) → ((c : Cause) → Q c → R c) → (x : Column) → Known Q x → Known R x
known_weaker Q R f x k = (all_map Q R f (flat_map cell_causes x.cells) k.0, all_map Q R f x.broken k.1, all_map Q R f x.lost k.2)

-- cells of values have no causes
pub values_clean : (Q : Cause → Type 0) (vs : List Value) → All Q (flat_map cell_causes (map value vs))
values_clean Q [] = tt
values_clean Q (v ∷ vs) = values_clean Q vs

-- what reads nothing and goes by cell is its own free part
all_free : (at : ℕ) (x : Tree) → is_elementwise x ≡ true → is_independent x ≡ true → (c : Cause) → Has (column_causes (eval at no_table x)) c → Has (free_causes at x) c
all_free at x cells free c h = by x (λ i. cells i && free i) h
  where
    into : (t : Tree) (below : List Cause) → (is_elementwise t && is_independent t) ≡ true → Has (column_causes (eval at no_table t)) c → Has (causes_if_free at t below) c
    into t below q h = subst (λ (b : Bool). Has (cond {A = List Cause} b (column_causes (eval at no_table t)) below) c) (sym q) h

    by : (x : Tree) → (is_elementwise x && is_independent x) ≡ true → Has (column_causes (eval at no_table x)) c → Has (free_causes at x) c
    by (Tree.column name) q h = cc
    by (Tree.literal l) q h = h
    by (Tree.binary o l r) q h = into (Tree.binary o l r) (free_causes at l ++ free_causes at r) q h
    by (Tree.cast k strict e) q h = into (Tree.cast k strict e) (free_causes at e) q h
    by (Tree.ternary p a b) q h = into (Tree.ternary p a b) (free_causes at p ++ (free_causes at a ++ free_causes at b)) q h
    by (Tree.function g e) q h = into (Tree.function g e) (free_causes at e) q h
    by (Tree.sort d n e) q h = cc
    by (Tree.sort_by d n e ks) q h = cc
    by (Tree.gather s e i) q h = cc
    by (Tree.filter e p) q h = cc
    by (Tree.aggregate a e) q h = cc
    by (Tree.slice e o l) q h = cc
    by Tree.len q h = cc
    by (Tree.left_out w) q h = cc
    by Tree.missing q h = cc

-- what reads nothing after reductions got columns had none
same_tree : (found : List Named) (e x : Tree) → IsApart found e x → is_independent x ≡ true → e ≡ x
same_tree found (Tree.aggregate a e) x (n, is, has) free = let w : true ≡ false = sym free ∙ ap is_independent is in cc
same_tree found Tree.len x (n, is, has) free = let w : true ≡ false = sym free ∙ ap is_independent is in cc
same_tree found (Tree.literal l) x is free = sym is
same_tree found (Tree.binary o l r) x (a, b, is, p, q) free =
    let m = both (is_independent a) (is_independent b) (sym (ap is_independent is) ∙ free) in
    let u = same_tree found l a p m.0 in
    let v = same_tree found r b q m.1 in
    (λ i. Tree.binary o (u i) (v i)) ∙ sym is
same_tree found (Tree.cast k strict e) x (a, is, p) free = ap (Tree.cast k strict) (same_tree found e a p (sym (ap is_independent is) ∙ free)) ∙ sym is
same_tree found (Tree.ternary t u v) x (a, b, c, is, p, q, r) free =
    let m = both (is_independent a) (is_independent b && is_independent c) (sym (ap is_independent is) ∙ free) in
    let n = both (is_independent b) (is_independent c) m.1 in
    let i1 = same_tree found t a p m.0 in
    let i2 = same_tree found u b q n.0 in
    let i3 = same_tree found v c r n.1 in
    (λ i. Tree.ternary (i1 i) (i2 i) (i3 i)) ∙ sym is
same_tree found (Tree.function g e) x (a, is, p) free = ap (Tree.function g) (same_tree found e a p (sym (ap is_independent is) ∙ free)) ∙ sym is
same_tree found (Tree.column name) x is free = absurd is
same_tree found (Tree.sort d n e) x is free = absurd is
same_tree found (Tree.sort_by d n e by) x is free = absurd is
same_tree found (Tree.gather s e i) x is free = absurd is
same_tree found (Tree.filter e by) x is free = absurd is
same_tree found (Tree.slice e o l) x is free = absurd is
same_tree found (Tree.left_out w) x is free = absurd is
same_tree found Tree.missing x is free = absurd is

-- a cell shows what its operands show
row_first : (f : List Value → Cell) (xs : List Cell) (x : Cell) (c : Cause) → Has xs x → Has (cell_causes x) c → Has (cell_causes (cell_of_row f xs)) c
row_first f xs x c h k = faulty_shows (row_causes xs) _ c (has_flat cell_causes xs x c h k)

module _ (at : ℕ) (P : Table) (found : List Named) where
  abbrev ended : Bool
  ended = not (is_empty P.broken)

  -- a cause of the table, of a free part, or of the cell of some row
  abbrev pub Shown : Tree → Tree → Cause → Type 0
  Shown e x c = Has P.broken c ⊎ (Has (free_causes at e) c ⊎ ((row : List Value) × Has P.rows row × Has (cell_causes (cell_for at P.schema x row)) c))

  abbrev pub ShowsAll : Tree → Tree → Type 0
  ShowsAll e x = Known (Shown e x) (eval at P x)

  -- what holds of an operand holds of the operator over it
  part_shown : (e x l a : Tree) → ((c : Cause) → Has (free_causes at l) c → Has (free_causes at e) c) → ((row : List Value) (c : Cause) → Has (cell_causes (cell_for at P.schema a row)) c → Has (cell_causes (cell_for at P.schema x row)) c)
      → ShowsAll l a → Known (Shown e x) (eval at P a)
  part_shown e x l a free cell k = known_weaker (Shown l a) (Shown e x) up (eval at P a) k
    where
      up : (c : Cause) → Shown l a c → Shown e x c
      up c (inl h) = inl h
      up c (inr (inl h)) = inr (inl (free c h))
      up c (inr (inr (row, there, h))) = inr (inr (row, there, cell row c h))

  -- what reads no row
  alone : (e x : Tree) → IsTrue (is_elementwise x) → HasKind P.schema x → e ≡ x → is_independent x ≡ true → ShowsAll e x
  alone e x cells kind same free =
      let k = one-cell at P x cells free kind in
      let own : (c : Cause) → Has (flat_map cell_causes (k.0 ∷ [])) c → Shown e x c =
      λ c h. inr (inl (subst (λ (t : Tree). Has (free_causes at t) c) (sym same) (all_free at x cells free c (subst (λ (y : Column). Has (column_causes y) c) (sym k.1 ∙ same-column at P no_table x free) (has_first (flat_map cell_causes (k.0 ∷ [])) [] c h))))) in
      subst (Known (Shown e x)) (sym k.1) (from_each (Shown e x) (flat_map cell_causes (k.0 ∷ [])) own, tt, tt)

  -- the cells of what reads rows
  by_rows : (e x : Tree) → IsTrue (is_elementwise x) → HasKind P.schema x → is_independent x ≡ false → All (Shown e x) (flat_map cell_causes (eval at P x).cells)
  by_rows e x cells kind reads =
      let g = cell_for at P.schema x in
      let st = subst (λ (b : Bool). Stands P.rows ended b (eval at P x) g) reads (goes-by at P.schema P.rows P.broken x cells kind) in
      subst (λ (cs : List Cell). All (Shown e x) (flat_map cell_causes cs)) (sym st.0)
      (from_each (Shown e x) (flat_map cell_causes (map g P.rows))
      (λ c h.
      let w = of_flat cell_causes (map g P.rows) c h in
      let r = of_map g P.rows w.0 w.1 in
      inr (inr (r.0, r.1, subst (λ (y : Cell). Has (cell_causes y) c) (sym r.2) w.2))))

  -- an operator over operands that show so
  over : (e x : Tree) (f : List Value → Cell) (os : List Operand) → IsTrue (is_elementwise x) → HasKind P.schema x → eval at P x ≡ cellwise at f (map (λ (o : Operand). o.column) os) → AllByRecursion (λ (o : Operand). Stands P.rows ended o.lone o.column o.cell) os
      → AllByRecursion (Known (Shown e x)) (map (λ (o : Operand). o.column) os) → (is_independent x ≡ true → e ≡ x) → ShowsAll e x
  over e x f os cells kind is stand all same = by (is_independent x) refl
    where
      by : (b : Bool) → is_independent x ≡ b → ShowsAll e x
      by true q = alone e x cells kind (same q) q
      by false q =
          let up = up_operator (Shown e x) at f (map (λ (o : Operand). o.column) os) all (agrees P.rows ended os stand) in
          (by_rows e x cells kind q, subst (λ (y : Column). All (Shown e x) y.broken) (sym is) up.0, subst (λ (y : Column). All (Shown e x) y.lost) (sym is) up.1)

  abbrev op : Tree → Operand
  op t = operand at P.schema P.rows P.broken t

  abbrev Goes : Tree → Type 0
  Goes x = Stands P.rows ended (is_independent x) (eval at P x) (cell_for at P.schema x)

  -- free parts of an operand are free parts of the whole
  free_up : (e : Tree) (below : List Cause) (c : Cause) → free_causes at e ≡ causes_if_free at e below → Has below c → (Has below c → Has (column_causes (eval at no_table e)) c) → Has (free_causes at e) c
  free_up e below c is h shows = by (is_elementwise e && is_independent e) refl
    where
      by : (b : Bool) → (is_elementwise e && is_independent e) ≡ b → Has (free_causes at e) c
      by true q = let m = both (is_elementwise e) (is_independent e) q in all_free at e m.0 m.1 c (shows h)
      by false q = subst (λ (cs : List Cause). Has cs c) (ap (λ (b : Bool). cond {A = List Cause} b (column_causes (eval at no_table e)) below) (sym q) ∙ sym is) h

  -- a function that goes by cell
  through : (g : FunctionExpr) (e a : Tree) → goes_by_cell g ≡ true → IsTrue (is_elementwise (Tree.function g a)) → HasKind P.schema (Tree.function g a) → Goes a → ((c : Cause) → Has (free_causes at e) c → Has (free_causes at (Tree.function g e)) c) → ShowsAll e a
      → (is_independent (Tree.function g a) ≡ true → Tree.function g e ≡ Tree.function g a) → ShowsAll (Tree.function g e) (Tree.function g a)
  through fun.Not e a h cells kind goes free k same =
      let f : List Value → Cell = λ row. value (not_value (item 0 row)) in
      over (Tree.function fun.Not e) (Tree.function fun.Not a) f (op a ∷ []) cells kind refl (goes, tt)
      (part_shown (Tree.function fun.Not e) (Tree.function fun.Not a) e a free (λ row c q. row_first f (cell_for at P.schema a row ∷ []) (cell_for at P.schema a row) c (inl refl) q) k, tt) same
  through fun.IsNull e a h cells kind goes free k same =
      let f : List Value → Cell = λ row. value (val.Boolean (is_null (item 0 row))) in
      over (Tree.function fun.IsNull e) (Tree.function fun.IsNull a) f (op a ∷ []) cells kind refl (goes, tt)
      (part_shown (Tree.function fun.IsNull e) (Tree.function fun.IsNull a) e a free (λ row c q. row_first f (cell_for at P.schema a row ∷ []) (cell_for at P.schema a row) c (inl refl) q) k, tt) same
  through fun.IsNotNull e a h cells kind goes free k same =
      let f : List Value → Cell = λ row. value (val.Boolean (not (is_null (item 0 row)))) in
      over (Tree.function fun.IsNotNull e) (Tree.function fun.IsNotNull a) f (op a ∷ []) cells kind refl (goes, tt)
      (part_shown (Tree.function fun.IsNotNull e) (Tree.function fun.IsNotNull a) e a free (λ row c q. row_first f (cell_for at P.schema a row ∷ []) (cell_for at P.schema a row) c (inl refl) q) k, tt) same
  through fun.Reverse e a h cells kind goes free k same = cc

  abbrev E : Tree → Column
  E t = eval at no_table t

  goes : (a : Tree) → IsTrue (is_elementwise a) → HasKind P.schema a → Goes a
  goes a cells kind = goes-by at P.schema P.rows P.broken a cells kind

  named : (e x : Tree) (n : List ℕ) → x ≡ Tree.column n → ShowsAll e x
  named e x n is = subst (ShowsAll e) (sym is) (values_clean (Shown e (Tree.column n)) (values_at_some (field_index n P.schema) P.rows), from_each (Shown e (Tree.column n)) P.broken (λ c h. inl h), tt)

  pub shows : (e x : Tree) → is_made_of_reductions e ≡ true → IsApart found e x → IsTrue (is_elementwise x) → HasKind P.schema x → ShowsAll e x
  shows (Tree.aggregate a e) x made (n, is, has) cells kind = named (Tree.aggregate a e) x n is
  shows Tree.len x made (n, is, has) cells kind = named Tree.len x n is
  shows (Tree.literal l) x made is cells kind = subst (ShowsAll (Tree.literal l)) (sym is) (tt, tt, tt)
  shows (Tree.binary o l r) x made (a, b, is, p, q) cells kind =
      let e = Tree.binary o l r in
      let y = Tree.binary o a b in
      let f : List Value → Cell = λ row. value (binary_value o (item 0 row) (item 1 row)) in
      let m = both (is_made_of_reductions l) (is_made_of_reductions r) made in
      let cells' : IsTrue (is_elementwise y) = sym (ap is_elementwise is) ∙ cells in
      let kind' : HasKind P.schema y = subst (HasKind P.schema) is kind in
      let i = both (is_elementwise a) (is_elementwise b) cells' in
      let k = binary-kinds o (kind_over P.schema a) (kind_over P.schema b) kind' in
      let up : (c : Cause) → Has (free_causes at l ++ free_causes at r) c → Has (free_causes at e) c =
      λ c h. free_up e (free_causes at l ++ free_causes at r) c refl h
      (λ h. single_shows at f (E l ∷ E r ∷ []) (made_single at no_table l m.0, (made_single at no_table r m.1, tt)) c
      (in_two at no_table column_causes (free_causes at l) (free_causes at r) c (E l) (E r) c (λ k. shows_free at no_table l m.0 c k) (λ k. shows_free at no_table r m.1 c k) h)) in
      let row_of : List Value → List Cell = λ row. cell_for at P.schema a row ∷ cell_for at P.schema b row ∷ [] in
      subst (ShowsAll e) (sym is)
      (over e y f (op a ∷ op b ∷ []) cells' kind' refl (goes a i.0 k.0, (goes b i.1 k.1, tt)) (
        part_shown e y l a (λ c h. up c (has_first (free_causes at l) (free_causes at r) c h)) (λ row c h. row_first f (row_of row) (cell_for at P.schema a row) c (inl refl) h) (shows l a m.0 p i.0 k.0),
        (part_shown e y r b (λ c h. up c (has_last (free_causes at l) (free_causes at r) c h)) (λ row c h. row_first f (row_of row) (cell_for at P.schema b row) c (inr (inl refl)) h) (shows r b m.1 q i.1 k.1), tt),
      )
      (same_tree found e y (a, b, refl, p, q)))
  shows (Tree.cast t strict e) x made (a, is, p) cells kind =
      let w = Tree.cast t strict e in
      let y = Tree.cast t strict a in
      let f : List Value → Cell = λ row. cast_cell at strict (cast_value t (item 0 row)) in
      let cells' : IsTrue (is_elementwise y) = sym (ap is_elementwise is) ∙ cells in
      let kind' : HasKind P.schema y = subst (HasKind P.schema) is kind in
      let k = cast-kinds t (kind_over P.schema a) kind' in
      let up : (c : Cause) → Has (free_causes at e) c → Has (free_causes at w) c =
      λ c h. free_up w (free_causes at e) c refl h (λ h. single_shows at f (E e ∷ []) (made_single at no_table e made, tt) c (has_first (column_causes (E e)) [] c (shows_free at no_table e made c h))) in
      subst (ShowsAll w) (sym is)
      (over w y f (op a ∷ []) cells' kind' refl (goes a cells' k, tt) (part_shown w y e a up (λ row c h. row_first f (cell_for at P.schema a row ∷ []) (cell_for at P.schema a row) c (inl refl) h) (shows e a made p cells' k), tt) (same_tree found w y (a, refl, p)))
  shows (Tree.ternary t u v) x made (a, b, d, is, p, q, r) cells kind =
      let e = Tree.ternary t u v in
      let y = Tree.ternary a b d in
      let f : List Value → Cell = λ row. value (choice_of (item 0 row) (item 1 row) (item 2 row)) in
      let m = three (is_made_of_reductions t) (is_made_of_reductions u) (is_made_of_reductions v) made in
      let cells' : IsTrue (is_elementwise y) = sym (ap is_elementwise is) ∙ cells in
      let kind' : HasKind P.schema y = subst (HasKind P.schema) is kind in
      let i = both (is_elementwise a) (is_elementwise b && is_elementwise d) cells' in
      let j = both (is_elementwise b) (is_elementwise d) i.1 in
      let k = ternary-kinds (kind_over P.schema a) (kind_over P.schema b) (kind_over P.schema d) kind' in
      let ft = free_causes at t in
      let fu = free_causes at u in
      let fv = free_causes at v in
      let up : (c : Cause) → Has (ft ++ (fu ++ fv)) c → Has (free_causes at e) c =
      λ c h. free_up e (ft ++ (fu ++ fv)) c refl h
      (λ h. single_shows at f (E t ∷ E u ∷ E v ∷ []) (made_single at no_table t m.0, (made_single at no_table u m.1, (made_single at no_table v m.2, tt))) c
      (in_three at no_table column_causes ft fu fv c (E t) (E u) (E v) c (λ k. shows_free at no_table t m.0 c k) (λ k. shows_free at no_table u m.1 c k) (λ k. shows_free at no_table v m.2 c k) h)) in
      let row_of : List Value → List Cell = λ row. cell_for at P.schema a row ∷ cell_for at P.schema b row ∷ cell_for at P.schema d row ∷ [] in
      subst (ShowsAll e) (sym is)
      (over e y f (op a ∷ op b ∷ op d ∷ []) cells' kind' refl (goes a i.0 k.0, (goes b j.0 k.1, (goes d j.1 k.2, tt))) (
        part_shown e y t a (λ c h. up c (has_first ft (fu ++ fv) c h)) (λ row c h. row_first f (row_of row) (cell_for at P.schema a row) c (inl refl) h) (shows t a m.0 p i.0 k.0),
        (
          part_shown e y u b (λ c h. up c (has_last ft (fu ++ fv) c (has_first fu fv c h))) (λ row c h. row_first f (row_of row) (cell_for at P.schema b row) c (inr (inl refl)) h) (shows u b m.1 q j.0 k.1),
          (part_shown e y v d (λ c h. up c (has_last ft (fu ++ fv) c (has_last fu fv c h))) (λ row c h. row_first f (row_of row) (cell_for at P.schema d row) c (inr (inr (inl refl))) h) (shows v d m.2 r j.1 k.2), tt),
        ),
      )
      (same_tree found e y (a, b, d, refl, p, q, r)))
  shows (Tree.function g e) x made (a, is, p) cells kind =
      let w = Tree.function g e in
      let y = Tree.function g a in
      let m = both (goes_by_cell g) (is_made_of_reductions e) made in
      let cells' : IsTrue (is_elementwise y) = sym (ap is_elementwise is) ∙ cells in
      let kind' : HasKind P.schema y = subst (HasKind P.schema) is kind in
      let i = both (goes_by_cell g) (is_elementwise a) cells' in
      let k = function-kinds g (kind_over P.schema a) kind' in
      let up : (c : Cause) → Has (free_causes at e) c → Has (free_causes at w) c =
      λ c h. free_up w (free_causes at e) c refl h (λ h. function_shows at no_table g m.0 (E e) (made_single at no_table e m.1) c (has_first (column_causes (E e)) [] c (shows_free at no_table e m.1 c h))) in
      subst (ShowsAll w) (sym is) (through g e a m.0 cells' kind' (goes a i.1 k) up (shows e a m.1 p i.1 k) (same_tree found w y (a, refl, p)))
  shows (Tree.column name) x made is cells kind = absurd is
  shows (Tree.sort d n e) x made is cells kind = absurd is
  shows (Tree.sort_by d n e by) x made is cells kind = absurd is
  shows (Tree.gather s e i) x made is cells kind = absurd is
  shows (Tree.filter e by) x made is cells kind = absurd is
  shows (Tree.slice e o l) x made is cells kind = absurd is
  shows (Tree.left_out w) x made is cells kind = absurd is
  shows Tree.missing x made is cells kind = absurd is
