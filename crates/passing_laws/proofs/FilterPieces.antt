-- A filter goes piece by piece.
use Rattle.std.proofs.Common.{◌≡◌, ℕ, List, [], ◌∷◌, ◌++◌, length, refl, sym, ap, subst, ◌∙◌, take}
use Rattle.std.proofs.lemmas.List.{map-append}
use Rattle.std.proofs.lemmas.List.Elements.{filter-append}
use Rattle.std.specs.Prelude.{◌≢◌, false, filter, get_or, map, IsTrue}
use Rattle.ps_frame.specs.Causes.{Cause, Column}
use Rattle.ps_frame.specs.Functions.{Functions}
use Rattle.ps_frame.specs.Tables.{Fields, Row, column_at}
use Rattle.ps_frame.specs.Trees.{Tree}
use Rattle.ps_frame.specs.Typing.{is_elementwise}
use Rattle.ps_frame.specs.Values.{is_true}
use Rattle.ps_frame.specs.Zip.{below, zipped}
use Rattle.ps_frame.specs.declared.value.Value.TheVariants as val
use Rattle.ps_meaning.specs.Cases.{columns_at, keyed, where_true}
use Rattle.ps_meaning.specs.Shape.{PhysicalKind, PhysicalNode, filter_node}
use Rattle.ps_rowwise.specs.Rows.{HasKind}
use Rattle.ps_world.specs.Passing.{GoesPiecewise}
use Rattle.passing_laws.proofs.Goers.{AllGo, Goer, all_lone, columns}
use Rattle.passing_laws.proofs.Trees.{column_goer, columns-go, tree-goes, tree_goer}
use Rattle.passing_laws.proofs.ZipPieces.{GivesOf, GoesByPart, of-zip, table_with, zip-goes}
use Rattle.passing_laws.proofs.Zips.{zip_over}

pub where-true-parts : (w : ℕ) → GoesByPart (where_true w)
where-true-parts w =
    record {
      none = refl;
      parts = λ xs ys. ap (map (take w)) (filter-append (λ row. is_true (get_or row w val.Null)) xs ys) ∙ map-append (take w) (filter (λ row. is_true (get_or row w val.Null)) xs) (filter (λ row. is_true (get_or row w val.Null)) ys);
    }

-- the columns of a table and of expressions beside them
abbrev pub keyed_goers : ℕ → Fields → List Tree → List Goer
keyed_goers node s es = map (column_goer s) (below (length s)) ++ map (tree_goer node s) es

pub tree-columns : (node : ℕ) (s : Fields) (es : List Tree) (rows : List Row) (causes : List Cause) → columns rows causes (map (tree_goer node s) es) ≡ columns_at node es (table_with s rows causes)
tree-columns node s [] rows causes = refl
tree-columns node s (e ∷ es) rows causes = λ i. tree_column ∷ tree-columns node s es rows causes i
  where
    tree_column : Column
    tree_column = (tree_goer node s e).over rows causes

pub all-columns : (node : ℕ) (s : Fields) (is : List ℕ) (es : List Tree) (rows : List Row) (causes : List Cause) → columns rows causes (map (column_goer s) is ++ map (tree_goer node s) es) ≡ map (λ i. column_at i (table_with s rows causes)) is ++ columns_at node es (table_with s rows causes)
all-columns node s [] es rows causes = tree-columns node s es rows causes
all-columns node s (k ∷ is) es rows causes = λ i. column_at k (table_with s rows causes) ∷ all-columns node s is es rows causes i

pub keyed-columns : (node : ℕ) (s : Fields) (es : List Tree) (rows : List Row) (causes : List Cause) → zipped false node (columns rows causes (keyed_goers node s es)) ≡ keyed node es (table_with s rows causes)
keyed-columns node s es rows causes = ap (zipped false node) (all-columns node s (below (length s)) es rows causes)

both-go : (gs hs : List Goer) → AllGo gs → AllGo hs → AllGo (gs ++ hs)
both-go [] hs a b = b
both-go (g ∷ gs) hs a b = (a.0, both-go gs hs a.1 b)

pub keyed-go : (node : ℕ) (s : Fields) (es : List Tree) → AllGo (map (tree_goer node s) es) → AllGo (keyed_goers node s es)
keyed-go node s es h = both-go (map (column_goer s) (below (length s))) (map (tree_goer node s) es) (columns-go s (below (length s))) h

-- a table with a column has one that isn't alone
pub keyed-some : (node : ℕ) (s : Fields) (es : List Tree) → s ≢ [] → all_lone (keyed_goers node s es) ≡ false
keyed-some node [] es h = absurd (h refl)
keyed-some node (f ∷ s) es h = by (below (length s)) (f ∷ s)
  where
    by : (is : List ℕ) (t : Fields) → all_lone (map (column_goer t) (is ++ length s ∷ []) ++ map (tree_goer node (f ∷ s)) es) ≡ false
    by [] t = refl
    by (i ∷ is) t = refl

filters : (F : Functions) (p : PhysicalNode) (s : Fields) (e : Tree) → p.schema ≡ s → s ≢ [] → IsTrue (is_elementwise e) → HasKind s e → GoesPiecewise F (record p { kind = filter_node e }) s
filters F p s e same n h k =
    zip-goes F (record p { kind = filter_node e }) s (keyed_goers p.origin s (e ∷ [])) all some (where_true (length s)) (where-true-parts (length s))
    (of-zip F (record p { kind = filter_node e }) s (where_true (length s)) (zip_over p.origin (keyed_goers p.origin s (e ∷ [])) all some) (λ rows causes. keyed p.origin (e ∷ []) (table_with s rows causes)) s (sym same)
    (keyed-columns p.origin s (e ∷ []))
    (λ rows causes U c. subst (GivesOf s (where_true (length s)) (keyed p.origin (e ∷ []) (table_with s rows causes))) (sym c.2) c.1)
    (λ rows causes U g. (U, g, refl)))
  where
    all : AllGo (keyed_goers p.origin s (e ∷ []))
    all = keyed-go p.origin s (e ∷ []) (tree-goes p.origin s e h k, tt)

    some : all_lone (keyed_goers p.origin s (e ∷ [])) ≡ false
    some = keyed-some p.origin s (e ∷ []) n

pub filter-goes : (F : Functions) (p : PhysicalNode) (s : Fields) (e : Tree) → p.kind ≡ filter_node e → p.schema ≡ s → s ≢ [] → IsTrue (is_elementwise e) → HasKind s e → GoesPiecewise F p s
filter-goes F p s e is same n h k = subst (λ (kd : PhysicalKind). GoesPiecewise F (record p { kind = kd }) s) (sym is) (filters F p s e same n h k)
