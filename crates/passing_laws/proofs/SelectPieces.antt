-- A select, and one that extends its input, go piece by piece.
use Rattle.std.proofs.Common.{◌≡◌, ℕ, List, [], ◌∷◌, refl, sym, ap, subst}
use Rattle.std.proofs.lemmas.List.{map-append}
use Rattle.std.specs.Prelude.{◌≢◌, ◌||◌, Bool, true, false, not, ◌&&◌, map, IsTrue, Some, unwrap_or}
use Rattle.std.specs.List.{list_any}
use Rattle.ps_frame.specs.Functions.{Functions}
use Rattle.ps_frame.specs.Tables.{Fields, Row}
use Rattle.ps_frame.specs.Trees.{Tree}
use Rattle.ps_frame.specs.Typing.{is_independent}
use Rattle.ps_frame.specs.Zip.{zipped}
use Rattle.ps_meaning.specs.Cases.{columns_at, hstack_places, keyed}
use Rattle.ps_meaning.specs.Distinct.{picked}
use Rattle.ps_meaning.specs.Schemas.{names_of, output_schema, schema_or_empty}
use Rattle.ps_meaning.specs.Shape.{PhysicalKind, PhysicalNode, select_node}
use Rattle.ps_meaning.specs.Sound.{AreElementwise, have_all_kinds}
use Rattle.ps_meaning.specs.Steps.{Named, exprs_of, hstack, select}
use Rattle.ps_world.specs.Passing.{GoesPiecewise}
use Rattle.passing_laws.proofs.Goers.{AllGo, all_lone}
use Rattle.passing_laws.proofs.Trees.{tree_goer, trees-go}
use Rattle.passing_laws.proofs.FilterPieces.{keyed-columns, keyed-go, keyed-some, keyed_goers, tree-columns}
use Rattle.passing_laws.proofs.ZipPieces.{GivesOf, GoesByPart, of-zip, table_with, zip-goes}
use Rattle.passing_laws.proofs.Zips.{zip_over}

-- one that reads the input isn't alone
pub reads-some : (node : ℕ) (s : Fields) (es : List Tree) → IsTrue (list_any (λ e. not (is_independent e)) es) → all_lone (map (tree_goer node s) es) ≡ false
reads-some node s [] h = cc
reads-some node s (e ∷ es) h = by (is_independent e) (reads-some node s es) h
  where
    by : (b : Bool) → (IsTrue (list_any (λ e. not (is_independent e)) es) → all_lone (map (tree_goer node s) es) ≡ false) → IsTrue (not b || list_any (λ e. not (is_independent e)) es) → (b && all_lone (map (tree_goer node s) es)) ≡ false
    by true rest h = rest h
    by false rest h = refl

all-parts : GoesByPart (λ rows. rows)
all-parts = record { none = refl; parts = λ xs ys. refl }

map-parts : (g : Row → Row) → GoesByPart (map g)
map-parts g = record { none = refl; parts = λ xs ys. map-append g xs ys }

selects : (F : Functions) (p : PhysicalNode) (s : Fields) (es : List Named) → output_schema F (select es) (s ∷ []) ≡ Some p.schema → AreElementwise (exprs_of es) → IsTrue (list_any (λ e. not (is_independent e)) (exprs_of es)) → IsTrue (have_all_kinds s (exprs_of es))
    → GoesPiecewise F (record p { kind = select_node es false }) s
selects F p s es same h reads k =
    zip-goes F (record p { kind = select_node es false }) s (map (tree_goer p.origin s) (exprs_of es)) all some (λ rows. rows) all-parts
    (of-zip F (record p { kind = select_node es false }) s (λ rows. rows) (zip_over p.origin (map (tree_goer p.origin s) (exprs_of es)) all some) (λ rows causes. zipped false p.origin (columns_at p.origin (exprs_of es) (table_with s rows causes)))
    (schema_or_empty F (select es) (s ∷ [])) (ap (λ o. unwrap_or o []) same)
    (λ rows causes. ap (zipped false p.origin) (tree-columns p.origin s (exprs_of es) rows causes))
    (λ rows causes U c. subst (GivesOf (schema_or_empty F (select es) (s ∷ [])) (λ rows. rows) (zipped false p.origin (columns_at p.origin (exprs_of es) (table_with s rows causes)))) (sym c.2) c.1)
    (λ rows causes U g. (U, g, refl)))
  where
    all : AllGo (map (tree_goer p.origin s) (exprs_of es))
    all = trees-go p.origin s (exprs_of es) h k

    some : all_lone (map (tree_goer p.origin s) (exprs_of es)) ≡ false
    some = reads-some p.origin s (exprs_of es) reads

pub select-goes : (F : Functions) (p : PhysicalNode) (s : Fields) (es : List Named) → p.kind ≡ select_node es false → output_schema F (select es) (s ∷ []) ≡ Some p.schema → AreElementwise (exprs_of es) → IsTrue (list_any (λ e. not (is_independent e)) (exprs_of es)) → IsTrue (have_all_kinds s (exprs_of es)) → GoesPiecewise F p s
select-goes F p s es is same h reads k = subst (λ (kd : PhysicalKind). GoesPiecewise F (record p { kind = kd }) s) (sym is) (selects F p s es same h reads k)

extends : (F : Functions) (p : PhysicalNode) (s : Fields) (es : List Named) → output_schema F (hstack es) (s ∷ []) ≡ Some p.schema → s ≢ [] → AreElementwise (exprs_of es) → IsTrue (have_all_kinds s (exprs_of es)) → GoesPiecewise F (record p { kind = select_node es true }) s
extends F p s es same n h k =
    zip-goes F (record p { kind = select_node es true }) s (keyed_goers p.origin s (exprs_of es)) all some f (map-parts (picked places))
    (of-zip F (record p { kind = select_node es true }) s f (zip_over p.origin (keyed_goers p.origin s (exprs_of es)) all some) (λ rows causes. keyed p.origin (exprs_of es) (table_with s rows causes)) o (ap (λ o. unwrap_or o []) same)
    (keyed-columns p.origin s (exprs_of es))
    (λ rows causes U c. subst (GivesOf o f (keyed p.origin (exprs_of es) (table_with s rows causes))) (sym c.2) c.1)
    (λ rows causes U g. (U, g, refl)))
  where
    o : Fields
    o = schema_or_empty F (hstack es) (s ∷ [])

    places : List ℕ
    places = hstack_places (names_of o) es s

    f : List Row → List Row
    f rows = map (picked places) rows

    all : AllGo (keyed_goers p.origin s (exprs_of es))
    all = keyed-go p.origin s (exprs_of es) (trees-go p.origin s (exprs_of es) h k)

    some : all_lone (keyed_goers p.origin s (exprs_of es)) ≡ false
    some = keyed-some p.origin s (exprs_of es) n

pub extend-goes : (F : Functions) (p : PhysicalNode) (s : Fields) (es : List Named) → p.kind ≡ select_node es true → output_schema F (hstack es) (s ∷ []) ≡ Some p.schema → s ≢ [] → AreElementwise (exprs_of es) → IsTrue (have_all_kinds s (exprs_of es)) → GoesPiecewise F p s
extend-goes F p s es is same n h k = subst (λ (kd : PhysicalKind). GoesPiecewise F (record p { kind = kd }) s) (sym is) (extends F p s es same n h k)
