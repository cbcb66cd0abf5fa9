-- What is made of whole columns is held of what the definition makes of them.
use Rattle.std.proofs.Common.{◌≡◌, ℕ, Bool, arith, inr, List, [], ◌∷◌, true, false, refl, subst, sym, ◌∙◌, ap, inl, append-nil}
use Rattle.std.specs.Prelude.{map, flat_map, Option, Some, None, Result, Ok, Err, ℤ, pos, negsuc, ◌+ℤ◌, ◌≤ℤ◌, nat_lt, get_or, length, if◌then◌else◌}
use Rattle.std.specs.List.{AllZip, list_any}
use Rattle.std.proofs.lemmas.Int.{ints}
use Rattle.ps_expr_eval.specs.Held.{IsOneOf, Keeps, Settles, cells_of, first_bad, first_fault, held_cell, held_values, or_else, values_of}
use Rattle.ps_expr_eval.specs.Wholes.{EndsOr, IsOfWhole, first_fault_of, values_in, picked_column, int_of, slice_of}
use Rattle.ps_expr_eval.specs.declared.computed.ComputedColumn.{ComputedColumn}
use Rattle.ps_expr_eval.specs.declared.computed.Values.{Values}
use Rattle.ps_expr_eval.proofs.Zips.{first-bad, head_fault, map-map, one_of-left, one_of-right, some-ended, values-held}
use Rattle.ps_frame.specs.Causes.{Cause, Column, cell_causes, cell_values, column_causes, has_cause, is_empty, value, whole_column, faulty}
use Rattle.ps_frame.specs.Eval.{from_whole, clipped, picked, picked_at, slice_column, slice_start, values_between, at}
use Rattle.ps_frame.specs.Evaluated.{IsFaultOf, Holds}
use Rattle.ps_frame.specs.declared.value.Cell.{Cell as Held}
use Rattle.ps_frame.specs.declared.value.Cell.TheVariants as held
use Rattle.ps_frame.specs.declared.value.DataFault.{DataFault}
use Rattle.ps_frame.specs.declared.value.DataFault.TheVariants as fault
use Rattle.ps_frame.specs.declared.value.Value.{Value}
use Rattle.ps_frame.specs.declared.value.Value.TheVariants as val

head-one : (xs : List Cause) → IsOneOf xs (head_fault xs)
head-one [] = refl
head-one (x ∷ xs) = inl refl

-- one of the causes of a column
causes-one : (p : ComputedColumn) (c : Column) → Keeps p c → IsOneOf (column_causes c) (first_fault p)
causes-one p c k = go p.fault k.ended
  where
    go : (o : Option DataFault) → IsOneOf c.broken o → IsOneOf (column_causes c) (or_else o (first_bad (cells_of p.cells)))
    go (Some f) m = one_of-right (flat_map cell_causes c.cells) c.broken f m
    go None e =
        let bad = ap first_bad k.cells ∙ first-bad c.cells in
        rw (e, bad, append-nil) (head-one (flat_map cell_causes c.cells))

-- one of the causes of columns, which there is where one of them has one
abbrev FoundIn : List Column → Option DataFault → Type 0
FoundIn cs None = list_any has_cause cs ≡ false
FoundIn cs (Some f) = (list_any has_cause cs ≡ true) × IsFaultOf (flat_map column_causes cs) f

found-in : (ps : List ComputedColumn) (cs : List Column) → AllZip Keeps ps cs → FoundIn cs (first_fault_of ps)
found-in [] [] k = refl
found-in [] (c ∷ cs) k = absurd k
found-in (p ∷ ps) [] k = absurd k
found-in (p ∷ ps) (c ∷ cs) k = go (first_fault p) (causes-one p c k.0) (first_fault_of ps) (found-in ps cs k.1)
  where
    more : (o : Option DataFault) → is_empty (column_causes c) ≡ true → FoundIn cs o → FoundIn (c ∷ cs) o
    more None e h = rw (e, h) refl
    more (Some f) e h = (rw (e, h.0) refl, one_of-right (column_causes c) (flat_map column_causes cs) f h.1)

    go : (o : Option DataFault) → IsOneOf (column_causes c) o → (rest : Option DataFault) → FoundIn cs rest → FoundIn (c ∷ cs) (or_else o rest)
    go None e rest h = more rest (ap is_empty e) h
    go (Some f) m rest h = (let n = sym (some-ended (column_causes c) (Some f) m) in rw n refl, one_of-left (column_causes c) (flat_map column_causes cs) f m)

values-of : (ps : List ComputedColumn) (cs : List Column) → AllZip Keeps ps cs → map values_in ps ≡ map (λ (c : Column). cell_values c.cells) cs
values-of [] [] k = refl
values-of [] (c ∷ cs) k = absurd k
values-of (p ∷ ps) [] k = absurd k
values-of (p ∷ ps) (c ∷ cs) k =
    let x = ap held_values k.0.cells ∙ values-held c.cells in
    let y = values-of ps cs k.1 in
    cc

-- what an operator gives of whole columns is held
pub whole-keeps : (f : List (List Value) → Column) (ps : List ComputedColumn) (q : ComputedColumn) → IsOfWhole f ps q → (cs : List Column) → AllZip Keeps ps cs → Keeps q (from_whole f cs)
whole-keeps f ps q is cs k = go (first_fault_of ps) (found-in ps cs k) is.holds
  where
    go : (o : Option DataFault) → FoundIn cs o → EndsOr o (f (map values_in ps)) q → Keeps q (from_whole f cs)
    go (Some x) found e = rw found.0 (record { cells = e.0; ended = rw e.1 found.1 })
    go None found kept =
        let same = values-of ps cs k in
        let there = subst (λ vs. Keeps q (f vs)) same kept in
        rw found (record { cells = there.cells; ended = there.ended })

-- the two ways to such a column
pub of-fault : (f : List (List Value) → Column) (ps : List ComputedColumn) (q : ComputedColumn) (x : DataFault) → first_fault_of ps ≡ Some x → cells_of q.cells ≡ [] → q.fault ≡ Some x → IsOfWhole f ps q
of-fault f ps q x e cells ended = record { holds = rw e (cells, ended) }

pub of-values : (f : List (List Value) → Column) (ps : List ComputedColumn) (q : ComputedColumn) → first_fault_of ps ≡ None → Keeps q (f (map values_in ps)) → IsOfWhole f ps q
of-values f ps q e kept = record { holds = rw e kept }

-- one operand
pub settled-ok : (f : List (List Value) → Column) (p q : ComputedColumn) (outcome : Result Values DataFault) (vs : Values) → Settles p outcome → outcome ≡ Ok vs → Keeps q (f (values_of vs ∷ [])) → IsOfWhole f (p ∷ []) q
settled-ok f p q outcome vs settles is kept =
    let s : Settles p (Ok vs) = subst (Settles p) is settles in
    of-values f (p ∷ []) q (rw s.0 refl) (subst (λ ws. Keeps q (f (ws ∷ []))) s.1 kept)

pub settled-err : (f : List (List Value) → Column) (p q : ComputedColumn) (outcome : Result Values DataFault) (x : DataFault) → Settles p outcome → outcome ≡ Err x → cells_of q.cells ≡ [] → q.fault ≡ Some x → IsOfWhole f (p ∷ []) q
settled-err f p q outcome x settles is cells ended =
    let s : Settles p (Err x) = subst (Settles p) is settles in
    of-fault f (p ∷ []) q x (rw s refl) cells ended

-- whole columns of values
pub whole-kept : (q : ComputedColumn) (vs : List Value) → cells_of q.cells ≡ map held.Val vs → q.fault ≡ None → Keeps q (whole_column vs)
whole-kept q vs cells fault = record { cells = cells ∙ sym (map-map held_cell value vs); ended = rw fault refl }

-- what a column settles as
pub first-ok : (p : ComputedColumn) (outcome : Result Values DataFault) (vs : Values) → Settles p outcome → outcome ≡ Ok vs → (first_fault p ≡ None) × (values_of vs ≡ values_in p)
first-ok p outcome vs settles is = let s : Settles p (Ok vs) = subst (Settles p) is settles in s

pub first-err : (p : ComputedColumn) (outcome : Result Values DataFault) (x : DataFault) → Settles p outcome → outcome ≡ Err x → first_fault p ≡ Some x
first-err p outcome x settles is = let s : Settles p (Err x) = subst (Settles p) is settles in s

-- two and three operands
pub fault-first : (f : List (List Value) → Column) (p : ComputedColumn) (ps : List ComputedColumn) (q : ComputedColumn) (x : DataFault) → first_fault p ≡ Some x → cells_of q.cells ≡ [] → q.fault ≡ Some x → IsOfWhole f (p ∷ ps) q
fault-first f p ps q x e cells ended = of-fault f (p ∷ ps) q x (rw e refl) cells ended

pub fault-second : (f : List (List Value) → Column) (p r : ComputedColumn) (ps : List ComputedColumn) (q : ComputedColumn) (x : DataFault) → first_fault p ≡ None → first_fault r ≡ Some x → cells_of q.cells ≡ [] → q.fault ≡ Some x → IsOfWhole f (p ∷ r ∷ ps) q
fault-second f p r ps q x e g cells ended = of-fault f (p ∷ r ∷ ps) q x (rw (e, g) refl) cells ended

pub fault-third : (f : List (List Value) → Column) (p r s : ComputedColumn) (ps : List ComputedColumn) (q : ComputedColumn) (x : DataFault) → first_fault p ≡ None → first_fault r ≡ None → first_fault s ≡ Some x → cells_of q.cells ≡ [] → q.fault ≡ Some x
    → IsOfWhole f (p ∷ r ∷ s ∷ ps) q
fault-third f p r s ps q x e g h cells ended = of-fault f (p ∷ r ∷ s ∷ ps) q x (rw (e, g, h) refl) cells ended

pub values-two : (f : List (List Value) → Column) (p r q : ComputedColumn) (us vs : List Value) → (first_fault p ≡ None) × (us ≡ values_in p) → (first_fault r ≡ None) × (vs ≡ values_in r) → Keeps q (f (us ∷ vs ∷ [])) → IsOfWhole f (p ∷ r ∷ []) q
values-two f p r q us vs e g kept =
    of-values f (p ∷ r ∷ []) q (let a = e.0 in let b = g.0 in rw (a, b) refl)
    (subst (λ ws. Keeps q (f (values_in p ∷ ws ∷ []))) g.1 (subst (λ ws. Keeps q (f (ws ∷ vs ∷ []))) e.1 kept))

pub values-three : (f : List (List Value) → Column) (p r s q : ComputedColumn) (us vs ws : List Value) → (first_fault p ≡ None) × (us ≡ values_in p) → (first_fault r ≡ None) × (vs ≡ values_in r) → (first_fault s ≡ None) × (ws ≡ values_in s)
    → Keeps q (f (us ∷ vs ∷ ws ∷ [])) → IsOfWhole f (p ∷ r ∷ s ∷ []) q
values-three f p r s q us vs ws e g h kept =
    of-values f (p ∷ r ∷ s ∷ []) q (let a = e.0 in let b = g.0 in let c = h.0 in rw (a, b, c) refl)
    (subst (λ xs. Keeps q (f (values_in p ∷ values_in r ∷ xs ∷ []))) h.1 (subst (λ xs. Keeps q (f (values_in p ∷ xs ∷ ws ∷ []))) g.1 (subst (λ xs. Keeps q (f (xs ∷ vs ∷ ws ∷ []))) e.1 kept)))

-- cells with one cause at most are what is held of them
holds-one : (x : Cause) (h : Held) → Holds h (faulty x []) → h ≡ held.Bad x.fault
holds-one x (held.Val v) e = absurd e
holds-one x (held.Bad f) (inl e) = ap held.Bad e
holds-one x (held.Bad f) (inr e) = absurd e

holds-value : (w : Value) (h : Held) → Holds h (value w) → h ≡ held.Val w
holds-value w (held.Val v) e = ap held.Val e
holds-value w (held.Bad f) e = absurd e

holds-at : (node : ℕ) (vs : List Value) (i : ℕ) (h : Held) → Holds h (picked_at node vs i) → h ≡ held_cell (picked_at node vs i)
holds-at node vs i h e = go (nat_lt i (length vs)) e
  where
    go : (b : Bool) → Holds h (if b then value (get_or vs i val.Null) else faulty (record { fault = fault.Gather; node = node }) []) → h ≡ held_cell (if b then value (get_or vs i val.Null) else faulty (record { fault = fault.Gather; node = node }) [])
    go true e = holds-value _ h e
    go false e = holds-one _ h e

holds-picked : (node : ℕ) (vs : List Value) (v : Value) (h : Held) → Holds h (picked node vs v) → h ≡ held_cell (picked node vs v)
holds-picked node vs (val.Int64 (pos i)) h e = holds-at node vs i h e
holds-picked node vs (val.Int64 (negsuc i)) h e = holds-one _ h e
holds-picked node vs (val.IdxSize i) h e = holds-at node vs i h e
holds-picked node vs val.Null h e = holds-value _ h e
holds-picked node vs (val.Boolean b) h e = holds-value _ h e
holds-picked node vs (val.String s) h e = holds-value _ h e

all-picked : (node : ℕ) (vs is : List Value) (hs : List Held) → AllZip Holds hs (map (picked node vs) is) → hs ≡ map held_cell (map (picked node vs) is)
all-picked node vs [] [] e = refl
all-picked node vs [] (h ∷ hs) e = absurd e
all-picked node vs (i ∷ is) [] e = absurd e
all-picked node vs (i ∷ is) (h ∷ hs) e = let x = holds-picked node vs i h e.0 in let y = all-picked node vs is hs e.1 in cc

pub picked-keeps : (q : ComputedColumn) (vs is : List Value) (hs : List Held) → cells_of q.cells ≡ hs → q.fault ≡ None → ((node : ℕ) → AllZip Holds hs (map (picked node vs) is)) → (node : ℕ) → Keeps q (picked_column node vs is)
picked-keeps q vs is hs cells fault all node = record { cells = cells ∙ all-picked node vs is hs (all node); ended = rw fault refl }

-- a slice
pub slice-keeps : (q : ComputedColumn) (vs ws : List Value) (o l : ℤ) (from to : ℕ) → pos 0 ≤ℤ l → cells_of q.cells ≡ map held.Val ws → q.fault ≡ None → ws ≡ values_between from to vs
    → from ≡ clipped (length vs) (slice_start (length vs) o) → to ≡ clipped (length vs) (slice_start (length vs) o +ℤ l) → (node : ℕ) → Keeps q (slice_column node vs (val.Int64 o) (val.Int64 l))
slice-keeps q vs ws o (pos l) from to h cells fault is a b node =
    whole-kept q (values_between (clipped (length vs) (slice_start (length vs) o)) (clipped (length vs) (slice_start (length vs) o +ℤ pos l)) vs)
    (cells ∙ ap (map held.Val) (is ∙ ap (λ n. values_between n to vs) a ∙ ap (λ n. values_between (clipped (length vs) (slice_start (length vs) o)) n vs) b)) fault
slice-keeps q vs ws o (negsuc l) from to h cells fault is a b node = absurd (omega (arith, ints))

-- a slice by the first values of two columns
slice-of : (node : ℕ) (vs : List Value) (a b : Value) → slice_of node vs (int_of a) (int_of b) ≡ slice_column node vs a b
slice-of node vs (val.Int64 o) (val.Int64 l) = refl
slice-of node vs (val.Int64 o) val.Null = refl
slice-of node vs (val.Int64 o) (val.Boolean b) = refl
slice-of node vs (val.Int64 o) (val.IdxSize n) = refl
slice-of node vs (val.Int64 o) (val.String s) = refl
slice-of node vs val.Null b = refl
slice-of node vs (val.Boolean x) b = refl
slice-of node vs (val.IdxSize n) b = refl
slice-of node vs (val.String s) b = refl

pub sliced : (q : ComputedColumn) (node : ℕ) (vs as' bs : List Value) (o l : Option ℤ) → o ≡ int_of (at 0 as') → l ≡ int_of (at 0 bs) → Keeps q (slice_of node vs o l) → Keeps q (slice_column node vs (at 0 as') (at 0 bs))
sliced q node vs as' bs o l e g kept =
    subst (Keeps q) (slice-of node vs (at 0 as') (at 0 bs)) (subst (λ x. Keeps q (slice_of node vs (int_of (at 0 as')) x)) g (subst (λ x. Keeps q (slice_of node vs x l)) e kept))
