-- Names and kinds of items: how often a name stands among them, and which kinds they have over schemas.
use Rattle.std.proofs.Common.{◌≡◌, ◌≢◌, ℕ, suc, ◌+◌, Bool, true, false, List, [], ◌∷◌, ◌++◌, length, Some, refl, sym, ap, ◌∙◌, arith, None}
use Rattle.std.specs.Prelude.{IsTrue, is_some, map, Option, ◌||◌}
use Rattle.std.specs.List.{AllByRecursion}
use Rattle.std.proofs.lemmas.List.{length-map}
use Rattle.std.specs.Cmp.Lexicographic.{bytes_decides}
use Rattle.std.specs.Str.{bytes_eq}
use Rattle.ps_frame.proofs.Lists.{and_both}
use Rattle.ps_frame.specs.Tables.{Fields, field_index, field_kind, no_rows, table_column, values_at_some}
use Rattle.ps_frame.specs.Trees.{Tree}
use Rattle.ps_frame.specs.Typing.{kind_over}
use Rattle.ps_frame.specs.Causes.{value}
use Rattle.ps_frame.specs.Parts.{reads_column}
use Rattle.ps_frame.specs.declared.value.DataType.{DataType}
use Rattle.ps_meaning.specs.Schemas.{both as both_of, expr_names, is_among, named_fields, names_of}
use Rattle.ps_meaning.specs.Sound.{have_all_kinds}
use Rattle.ps_meaning.specs.Steps.{Name, Named, exprs_of}
use Rattle.ps_rules.specs.Calls.{exprs_of_all}
use Rattle.ps_rules.specs.Lowered.{as_operand}
use Rattle.ps_rules.specs.Slots.{State, Stream, after_name, new_names, same_names, under}
use Rattle.ps_shares.proofs.FlatLength.{both_hold}
use Rattle.ps_shares.specs.Leaves.{IsSameIn}
use Rattle.ps_shares.proofs.Agreeing.{same_kind}
use Rattle.ps_shares.proofs.Projected.{kind_as, named_as, reads_all}
use Rattle.name_rules.proofs.Times.{times}

-- of items
pub times_items : (n : Name) (xs ys : List Named) → times n (expr_names (xs ++ ys)) ≡ times n (expr_names xs) + times n (expr_names ys)
times_items n [] ys = omega arith
times_items n (x ∷ xs) ys = let r = times_items n xs ys in omega arith

pub names_under : (ns : List Name) (es : List Tree) → length ns ≡ length es → expr_names (under ns es) ≡ ns
names_under [] es e = refl
names_under (n ∷ ns) [] e = absurd (omega arith)
names_under (n ∷ ns) (x ∷ es) e = ap (λ ms. n ∷ ms) (names_under ns es (omega arith))

pub some_under : (ns : List Name) (es : List Tree) → length ns ≡ length es → es ≢ [] → under ns es ≢ []
some_under ns [] l some e = some refl
some_under [] (x ∷ es) l some e = absurd (omega arith)
some_under (n ∷ ns) (x ∷ es) l some e = let w : (n, x) ∷ under ns es ≡ [] = e in cc

pub count_names : {A : Type 0} (xs : List A) (s : State) → length (new_names xs s) ≡ length xs
count_names [] s = refl
count_names (x ∷ xs) s = ap suc (count_names xs (after_name s))

-- kinds of a list
pub all_some : (g : Fields) (es : List Tree) → AllByRecursion (λ e. IsTrue (is_some (kind_over g e))) es → have_all_kinds g es ≡ true
all_some g [] h = refl
all_some g (e ∷ es) h = and_both (is_some (kind_over g e)) (have_all_kinds g es) h.0 (all_some g es h.1)

pub each_some : (g : Fields) (es : List Tree) → have_all_kinds g es ≡ true → AllByRecursion (λ e. IsTrue (is_some (kind_over g e))) es
each_some g [] h = tt
each_some g (e ∷ es) h = let b = both_hold (is_some (kind_over g e)) (have_all_kinds g es) h in (b.0, each_some g es b.1)

pub items_some : (g : Fields) (rs : List Named) → AllByRecursion (λ (m : Named). IsTrue (is_some (kind_over g m.1))) rs → have_all_kinds g (exprs_of rs) ≡ true
items_some g [] h = refl
items_some g (m ∷ rs) h = and_both (is_some (kind_over g m.1)) (have_all_kinds g (exprs_of rs)) h.0 (items_some g rs h.1)

-- expressions of the same kinds
pub kinds_same : (g h : Fields) (xs ys : List Tree) → map (kind_over g) xs ≡ map (kind_over h) ys → have_all_kinds h ys ≡ true → have_all_kinds g xs ≡ true
kinds_same g h [] ys e typed = refl
kinds_same g h (x ∷ xs) [] e typed = let w : kind_over g x ∷ map (kind_over g) xs ≡ [] = e in cc
kinds_same g h (x ∷ xs) (y ∷ ys) e typed =
    let w : kind_over g x ∷ map (kind_over g) xs ≡ kind_over h y ∷ map (kind_over h) ys = e in
    let p : kind_over g x ≡ kind_over h y = cc in
    let q : map (kind_over g) xs ≡ map (kind_over h) ys = cc in
    let b = both_hold (is_some (kind_over h y)) (have_all_kinds h ys) typed in
    and_both (is_some (kind_over g x)) (have_all_kinds g xs) (ap is_some p ∙ b.0) (kinds_same g h xs ys q b.1)

pub as_many : (g h : Fields) (xs ys : List Tree) → map (kind_over g) xs ≡ map (kind_over h) ys → length xs ≡ length ys
as_many g h xs ys e = sym (length-map xs (kind_over g)) ∙ ap length e ∙ length-map ys (kind_over h)

pub operands_listed : (at : ℕ) (input : Stream) (es : List Tree) → exprs_of_all (map (as_operand at input) es) ≡ es
operands_listed at input [] = refl
operands_listed at input (e ∷ es) = ap (λ es. e ∷ es) (operands_listed at input es)

-- kinds where the columns that are read are the same
pub kind_same : (g h : Fields) (e : Tree) → ((n : Name) → IsTrue (reads_column n e) → field_kind n g ≡ field_kind n h) → kind_over g e ≡ kind_over h e
kind_same g h e same = same_kind (no_rows g []) (no_rows h []) e (reads_all (IsSameIn (no_rows g []) (no_rows h [])) e (λ n read. record { column = column n; kind = same n read }))
  where
    none : (o : Option ℕ) → map value (values_at_some o []) ≡ []
    none None = refl
    none (Some i) = refl

    column : (n : Name) → table_column n (no_rows g []) ≡ table_column n (no_rows h [])
    column n =
        let p = none (field_index n g) in
        let q = none (field_index n h) in
        let cells = p ∙ sym q in
        λ i. record { cells = cells i; broken = []; lost = [] }

pub each_among : (ns ms : List Name) → AllByRecursion (λ n. is_among n ms ≡ true) ns → (m : Name) → is_among m ns ≡ true → is_among m ms ≡ true
each_among [] ms all m h = cc
each_among (n ∷ ns) ms all m h = by (bytes_eq m n) refl h (each_among ns ms all.1 m)
  where
    by : (b : Bool) → bytes_eq m n ≡ b → (b || is_among m ns) ≡ true → (is_among m ns ≡ true → is_among m ms ≡ true) → is_among m ms ≡ true
    by true q h rest = ap (λ k. is_among k ms) ((bytes_decides m n).0 q) ∙ all.0
    by false q h rest = rest h

-- columns that were found stand in the schema
pub found_among : (ns : List Name) (g fs : Fields) → named_fields ns g ≡ Some fs → AllByRecursion (λ n. is_among n (names_of g) ≡ true) ns
found_among [] g fs h = tt
found_among (n ∷ ns) g fs h = by (field_kind n g) (named_fields ns g) refl h (found_among ns g)
  where
    by : (o : Option DataType) (r : Option Fields) → field_kind n g ≡ o → both_of (λ (k : DataType) (gs : Fields). (n, k) ∷ gs) o r ≡ Some fs → ((gs : Fields) → r ≡ Some gs → AllByRecursion (λ n. is_among n (names_of g) ≡ true) ns)
        → (is_among n (names_of g) ≡ true) × AllByRecursion (λ n. is_among n (names_of g) ≡ true) ns
    by (Some k) (Some gs) q h rest = (named_as n g ∙ sym (kind_as n g) ∙ ap is_some q, rest gs refl)
    by (Some k) None q h rest = let w : None ≡ Some fs = h in cc
    by None r q h rest = let w : None ≡ Some fs = h in cc

pub same_is : (xs ys : List Name) → same_names xs ys ≡ true → xs ≡ ys
same_is [] [] h = refl
same_is [] (y ∷ ys) h = let w : false ≡ true = h in cc
same_is (x ∷ xs) [] h = let w : false ≡ true = h in cc
same_is (x ∷ xs) (y ∷ ys) h =
    let b = both_hold (bytes_eq x y) (same_names xs ys) h in
    let p = (bytes_decides x y).0 b.0 in
    let q = same_is xs ys b.1 in
    λ i. p i ∷ q i
