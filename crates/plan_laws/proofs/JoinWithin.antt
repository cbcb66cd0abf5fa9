-- A join over parts of its sides is within the join over the sides.
use Rattle.std.proofs.Common.{◌≡◌, List, [], ◌∷◌, ◌++◌, length, refl, sym, ap, subst, ◌∙◌, inr}
use Rattle.std.proofs.lemmas.Grind.{flat_map-append}
use Rattle.std.proofs.lemmas.List.{append_assoc}
use Rattle.std.specs.Prelude.{Bool, true, false, not, ◌&&◌, flat_map, if◌then◌else◌}
use Rattle.ps_frame.specs.Causes.{Cause, is_empty}
use Rattle.ps_frame.specs.Tables.{Fields, Table}
use Rattle.ps_frame.specs.Zip.{Zipped}
use Rattle.ps_frame.specs.declared.value.Value.{Value}
use Rattle.ps_meaning.specs.Cases.{if_whole, joined_table, rows_table}
use Rattle.ps_meaning.specs.Joins.{Pair, fills_left, front_pairs, front_rows, goes_by_left, join_rows, joined_by, joined_row, last_pairs, pairs_in_place, rows_of_pairs}
use Rattle.ps_meaning.specs.Schemas.{left_output, names_of, right_output}
use Rattle.ps_meaning.specs.Distinct.{places_in}
use Rattle.ps_meaning.specs.Steps.{JoinStep}
use Rattle.ps_meaning.specs.Within.{Within}
use Rattle.ps_meaning.specs.declared.options.JoinType.{JoinType}
use Rattle.ps_meaning.specs.declared.options.JoinType.TheVariants as how
use Rattle.ps_meaning.proofs.Begins.{Begins, append-empty_left, append-empty_right, begins-map, begins-same}
use Rattle.ps_meaning.proofs.SchemaLaw.{joined-schema}
use Rattle.ps_meaning.proofs.StepWithin.{if_whole-within}
use Rattle.ps_meaning.proofs.Under.{Broken}

begins-flat : {A B : Type 0} (f : A → List B) (xs ys : List A) → Begins xs ys → Begins (flat_map f xs) (flat_map f ys)
begins-flat f xs ys (rest, e) = (flat_map f rest, sym (flat_map-append f xs rest) ∙ ap (flat_map f) e)

-- what the left rows give is the front of a join that goes by them
front-first : (nulls : Bool) (wl wr : _) (type : JoinType) (ls rs : List (List Value)) → goes_by_left type ≡ true → Begins (front_pairs nulls wl wr type ls rs) (joined_by nulls wl wr type ls rs)
front-first nulls wl wr how.Inner ls rs e = (last_pairs nulls wl wr how.Inner ls rs, refl)
front-first nulls wl wr how.Left ls rs e = (last_pairs nulls wl wr how.Left ls rs, refl)
front-first nulls wl wr how.Right ls rs e = (last_pairs nulls wl wr how.Right ls rs, refl)
front-first nulls wl wr how.Full ls rs e = (last_pairs nulls wl wr how.Full ls rs, refl)
front-first nulls wl wr how.Semi ls rs e = cc
front-first nulls wl wr how.Anti ls rs e = cc
front-first nulls wl wr how.Cross ls rs e = cc

-- an empty list is empty, and one that isn't is not
is-none : {A : Type 0} (xs : List A) → is_empty xs ≡ true → xs ≡ []
is-none [] e = refl
is-none (x ∷ xs) e = cc

some-not : {A : Type 0} (xs : List A) → (xs ≡ [] → ⊥) → is_empty xs ≡ false
some-not [] h = absurd (h refl)
some-not (x ∷ xs) h = refl

module _ (o : JoinStep) where
  rows-begin : (l r : Fields) (ps qs : List Pair) → Begins ps qs → Begins (rows_of_pairs o l r ps) (rows_of_pairs o l r qs)
  rows-begin l r ps qs b = begins-map (joined_row (places_in (names_of (left_output o l)) l) (places_in (names_of (right_output o r)) r)) ps qs b

  front-rows-begin : (l r : Fields) (ls ks rs : List (List Value)) → Begins ls ks → Begins (front_rows o l r ls rs) (front_rows o l r ks rs)
  front-rows-begin l r ls ks rs b =
      rows-begin l r _ _ (begins-flat (pairs_in_place o.args.join_nulls (length l) (length r) (fills_left o.args.how) rs) ls ks b)

  front-all : (l r : Fields) (ls rs : List (List Value)) → goes_by_left o.args.how ≡ true → Begins (front_rows o l r ls rs) (join_rows o l r ls rs)
  front-all l r ls rs e = rows-begin l r _ _ (front-first o.args.join_nulls (length l) (length r) o.args.how ls rs e)

  module _ (s q out : Fields) (lz rz : Zipped) where
    abbrev front : Table
    front = record { schema = out; rows = front_rows o s q lz.rows rz.rows; broken = lz.broken }

    abbrev otherwise : Table
    otherwise = if_whole out (lz.broken ++ rz.broken) (rows_table out (join_rows o s q lz.rows rz.rows))

    -- by what the tests say
    at-front : (g r l : Bool) → g ≡ true → r ≡ true → l ≡ false → (if g && (r && not l) then front else otherwise) ≡ front
    at-front true true false eg er el = refl
    at-front true true true eg er el = cc
    at-front true false l eg er el = cc
    at-front false r l eg er el = cc

    at-right : (g r l : Bool) → r ≡ false → (if g && (r && not l) then front else otherwise) ≡ otherwise
    at-right true false l e = refl
    at-right true true l e = cc
    at-right false r l e = refl

    at-other : (g r l : Bool) → g ≡ false → (if g && (r && not l) then front else otherwise) ≡ otherwise
    at-other false r l e = refl
    at-other true r l e = cc

    -- the rows that the left rows give begin the join
    begins-with-front : goes_by_left o.args.how ≡ true → is_empty rz.broken ≡ true → Begins (front_rows o s q lz.rows rz.rows) (joined_table o s q out lz rz).rows
    begins-with-front g r = by (is_empty lz.broken) refl
      where
        -- both are whole
        whole-rows : (ls rs : List Cause) → ls ≡ [] → rs ≡ [] → (if_whole out (ls ++ rs) (rows_table out (join_rows o s q lz.rows rz.rows))).rows ≡ join_rows o s q lz.rows rz.rows
        whole-rows [] [] e f = refl
        whole-rows [] (c ∷ cs) e f = cc
        whole-rows (c ∷ cs) rs e f = cc

        at-whole : (g r l : Bool) → l ≡ true → (if g && (r && not l) then front else otherwise) ≡ otherwise
        at-whole true true true e = refl
        at-whole true true false e = cc
        at-whole true false l e = refl
        at-whole false r l e = refl

        by : (b : Bool) → is_empty lz.broken ≡ b → Begins (front_rows o s q lz.rows rz.rows) (joined_table o s q out lz rz).rows
        by false e = subst (λ (T : Table). Begins (front_rows o s q lz.rows rz.rows) T.rows) (sym (at-front (goes_by_left o.args.how) (is_empty rz.broken) (is_empty lz.broken) g r e)) (begins-same (front_rows o s q lz.rows rz.rows))
        by true e =
            let rows = ap (λ (T : Table). T.rows) (at-whole (goes_by_left o.args.how) (is_empty rz.broken) (is_empty lz.broken) e) ∙ whole-rows lz.broken rz.broken (is-none lz.broken e) (is-none rz.broken r) in
            subst (Begins (front_rows o s q lz.rows rz.rows)) (sym rows) (front-all s q lz.rows rz.rows g)

  begins-then : {A : Type 0} (xs ys zs : List A) → Begins xs ys → Begins ys zs → Begins xs zs
  begins-then xs ys zs (a, e) (b, f) = (a ++ b, sym (append_assoc xs a b) ∙ ap (λ ws. ws ++ b) e ∙ f)

  module _ (s s' q q' out out' : Fields) (es : s ≡ s') (eq : q ≡ q') (eo : out ≡ out') (lz lz' rz rz' : Zipped) where
    schemas : (joined_table o s' q' out' lz' rz').schema ≡ out
    schemas = joined-schema o s' q' out' lz' rz' ∙ sym eo

    none : Broken (lz.broken ++ rz.broken) → Within (otherwise s q out lz rz) (joined_table o s' q' out' lz' rz')
    none b = if_whole-within out (lz.broken ++ rz.broken) (rows_table out (join_rows o s q lz.rows rz.rows)) (joined_table o s' q' out' lz' rz') b schemas

    pub right-broken : Broken rz.broken → Within (joined_table o s q out lz rz) (joined_table o s' q' out' lz' rz')
    right-broken b =
        subst (λ (T : Table). Within T (joined_table o s' q' out' lz' rz')) (sym (at-right s q out lz rz (goes_by_left o.args.how) (is_empty rz.broken) (is_empty lz.broken) (some-not rz.broken b)))
        (none (λ e. b (append-empty_right lz.broken rz.broken e)))

    pub left-broken : Broken lz.broken → Begins lz.rows lz'.rows → rz ≡ rz' → Within (joined_table o s q out lz rz) (joined_table o s' q' out' lz' rz')
    left-broken b more same = by (goes_by_left o.args.how) (is_empty rz.broken) refl refl
      where
        other : joined_table o s q out lz rz ≡ otherwise s q out lz rz → Within (joined_table o s q out lz rz) (joined_table o s' q' out' lz' rz')
        other e = subst (λ (T : Table). Within T (joined_table o s' q' out' lz' rz')) (sym e) (none (λ e. b (append-empty_left lz.broken rz.broken e)))

        fronts : goes_by_left o.args.how ≡ true → is_empty rz.broken ≡ true → Within (front s q out lz rz) (joined_table o s' q' out' lz' rz')
        fronts g r =
            let first : Begins (front_rows o s q lz.rows rz.rows) (front_rows o s' q' lz'.rows rz'.rows) =
            subst (λ (rows : List (List Value)). Begins (front_rows o s q lz.rows rz.rows) rows) (λ i. front_rows o (es i) (eq i) lz'.rows (same i).rows) (front-rows-begin s q lz.rows lz'.rows rz.rows more) in
            let all = begins-with-front s' q' out' lz' rz' g (ap (λ (z : Zipped). is_empty z.broken) (sym same) ∙ r) in
            record { same_schema = eo ∙ sym (joined-schema o s' q' out' lz' rz'); part = inr (b, begins-then _ _ _ first all) }

        by : (g r : Bool) → goes_by_left o.args.how ≡ g → is_empty rz.broken ≡ r → Within (joined_table o s q out lz rz) (joined_table o s' q' out' lz' rz')
        by false r eg er = other (at-other s q out lz rz (goes_by_left o.args.how) (is_empty rz.broken) (is_empty lz.broken) eg)
        by true false eg er = other (at-right s q out lz rz (goes_by_left o.args.how) (is_empty rz.broken) (is_empty lz.broken) er)
        by true true eg er =
            subst (λ (T : Table). Within T (joined_table o s' q' out' lz' rz')) (sym (at-front s q out lz rz (goes_by_left o.args.how) (is_empty rz.broken) (is_empty lz.broken) eg er (some-not lz.broken b))) (fronts eg er)
