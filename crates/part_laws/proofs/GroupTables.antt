-- The rows of the parts are, list after list, a table that the group-by may give.
use Rattle.std.proofs.Common.{◌≡◌, ℕ, false, List, [], ◌∷◌, ◌++◌, refl, sym, ap, ◌∙◌, subst, inl, inr, append_assoc, append-nil, IsPermutation}
use Rattle.std.proofs.lemmas.List.{map-append}
use Rattle.std.proofs.lemmas.List.Sorted.{IsPermutation-append, IsPermutation-append_left, IsPermutation-refl, IsPermutation-trans}
use Rattle.std.specs.Prelude.{◌≢◌, flat_map, map, if◌then◌else◌, IsTrue, None, Some, unwrap_or}
use Rattle.std.specs.List.{AllByRecursion, AllZip}
use Rattle.ps_frame.specs.Causes.{Cause, is_empty}
use Rattle.ps_frame.specs.Functions.{Functions}
use Rattle.ps_frame.specs.Tables.{Fields, Row, Table}
use Rattle.ps_frame.specs.Zip.{Zipped}
use Rattle.ps_meaning.specs.Cases.{GivesBeforeCut, if_whole, keyed, rows_table, with_group_causes}
use Rattle.ps_meaning.specs.Groups.{Group, groups, groups_table, rows_before_faulty}
use Rattle.ps_meaning.specs.Schemas.{output_schema, schema_or_empty}
use Rattle.ps_meaning.specs.Shape.{PhysicalKind, PhysicalNode, group_by_node}
use Rattle.ps_meaning.specs.Sound.{AreElementwise, have_all_kinds}
use Rattle.ps_meaning.specs.Steps.{GroupStep, Named, exprs_of, group_by}
use Rattle.ps_turns.specs.Keys.{IsSplit}
use Rattle.passing_laws.proofs.ZipPieces.{table_with}
use Rattle.part_laws.specs.Lists.{BeginsWith, GivesList, end_to_end}
use Rattle.part_laws.proofs.Apart.{in_list}
use Rattle.part_laws.proofs.GroupParts.{list_groups, split-groups}
use Rattle.part_laws.proofs.KeyedRows.{AllClean, clean-keyed, keyed_over, part-keyed, part-whole, part_rows}

-- the rows of groups without causes, in front of others
abbrev pub AreSound : List Group → Type 0
AreSound gs = AllByRecursion (λ (g : Group). g.causes ≡ []) gs

abbrev pub group_cells : List Group → List Row
group_cells gs = map (λ (g : Group). g.cells) gs

abbrev pub group_causes : List Group → List Cause
group_causes gs = flat_map (λ (g : Group). g.causes) gs

pub sound-rows : (gs more : List Group) → AreSound gs → rows_before_faulty (gs ++ more) ≡ group_cells gs ++ rows_before_faulty more
sound-rows [] more h = refl
sound-rows (g ∷ gs) more h = ap (λ cs. if is_empty cs then g.cells ∷ rows_before_faulty (gs ++ more) else []) h.0 ∙ ap (λ rows. g.cells ∷ rows) (sound-rows gs more h.1)

pub sound-causes : (gs more : List Group) → AreSound gs → group_causes (gs ++ more) ≡ group_causes more
sound-causes [] more h = refl
sound-causes (g ∷ gs) more h = ap (λ cs. cs ++ group_causes (gs ++ more)) h.0 ∙ sound-causes gs more h.1

first-none : (xs ys : List Cause) → xs ++ ys ≡ [] → (xs ≡ []) × (ys ≡ [])
first-none [] ys e = (refl, e)
first-none (x ∷ xs) ys e = let w : x ∷ (xs ++ ys) ≡ [] = e in cc

pub none-faulty-groups : (gs : List Group) → group_causes gs ≡ [] → AreSound gs
none-faulty-groups [] e = tt
none-faulty-groups (g ∷ gs) e = let h = first-none g.causes (group_causes gs) e in (h.0, none-faulty-groups gs h.1)

both-sound : (gs hs : List Group) → AreSound gs → AreSound hs → AreSound (gs ++ hs)
both-sound [] hs a b = b
both-sound (g ∷ gs) hs a b = (a.0, both-sound gs hs a.1 b)

pub flat-joined : {A B : Type 0} (f : A → List B) (xs ys : List A) → flat_map f (xs ++ ys) ≡ flat_map f xs ++ flat_map f ys
flat-joined f [] ys = refl
flat-joined f (x ∷ xs) ys = ap (λ l. f x ++ l) (flat-joined f xs ys) ∙ sym (append_assoc (f x) (flat_map f xs) (flat_map f ys))

abbrev pub group_step : List Named → List Named → GroupStep
group_step keys aggregates = record { keys = keys; aggregates = aggregates; maintain_order = false; cut = None }

module _ (F : Functions) (p : PhysicalNode) (keys aggregates : List Named) (s : Fields) (some : s ≢ []) (h : AreElementwise (exprs_of keys)) (k : IsTrue (have_all_kinds s (exprs_of keys))) where
  abbrev pub group_node : PhysicalNode
  group_node = record p { kind = group_by_node keys aggregates }

  abbrev pub group_schema : Fields
  group_schema = schema_or_empty F (group_by (group_step keys aggregates)) (s ∷ [])

  abbrev pub beside : List Row → List Cause → Zipped
  beside rows causes = keyed_over p.origin s (exprs_of keys) some h k rows causes

  abbrev pub groups_over : List Row → List Group
  groups_over rows = groups p.origin (exprs_of aggregates) s rows

  -- what it gives for the groups in some order
  abbrev pub given_groups : List Cause → List Group → Table
  given_groups causes gs = if_whole group_schema (with_group_causes causes gs) (groups_table group_schema gs)

  module _ (rows : List Row) (whole : (beside rows []).broken ≡ []) where
    clean : AllClean p.origin s (exprs_of keys) some h k rows
    clean = clean-keyed p.origin s (exprs_of keys) some h k rows whole

    abbrev pub groups_of_list : List Row → List Group
    groups_of_list l = list_groups p.origin (exprs_of aggregates) s (beside rows []).rows l

    -- groups without causes, in some order, that are these rows
    record GivesGroups (all : List Group) (given : List Row) : Type 0 where
      pub order : List Group
      pub is : IsPermutation all order
      pub sound : AreSound order
      pub cells : given ≡ group_cells order

    of-list : (l rs : List Row) → GivesList F group_node (rows_table s rows ∷ []) l rs → GivesGroups (groups_of_list l) rs
    of-list l rs (T, (U, g, e), w, q, few) = by g
      where
        part : List Row
        part = part_rows p.origin s (exprs_of keys) some h k (in_list l) rows (clean-keyed p.origin s (exprs_of keys) some h k rows whole)

        same : T ≡ U
        same = e

        whole-part : U.broken ≡ []
        whole-part = ap (λ (t : Table). t.broken) (sym same) ∙ w

        by : GivesBeforeCut F p.origin (group_by (group_step keys aggregates)) (table_with s part [] ∷ []) U → GivesGroups (groups_of_list l) rs
        by (inl (gs, order, u)) =
            let z = part-whole p.origin s (exprs_of keys) some h k (in_list l) rows (clean-keyed p.origin s (exprs_of keys) some h k rows whole) in
            let is : U ≡ groups_table group_schema gs = u ∙ ap (λ cs. given_groups cs gs) z in
            let sound = none-faulty-groups gs (sym (ap (λ (t : Table). t.broken) is) ∙ whole-part) in
            record {
              order = gs;
              is = subst (λ rs. IsPermutation (groups_over rs) gs) (part-keyed p.origin s (exprs_of keys) some h k (in_list l) rows (clean-keyed p.origin s (exprs_of keys) some h k rows whole)) order;
              sound = sound;
              cells = sym q ∙ ap (λ (t : Table). t.rows) (same ∙ is) ∙ ap rows_before_faulty (sym (append-nil gs)) ∙ sound-rows gs [] sound ∙ append-nil (group_cells gs);
            }
        by (inr (V, v, lost, u)) = absurd (lost (ap (λ (t : Table). t.broken) (sym u) ∙ whole-part))

    of-lists : (given : List (List Row)) (rss : List (List Row)) → AllZip (GivesList F group_node (rows_table s rows ∷ [])) given rss → GivesGroups (flat_map groups_of_list given) (end_to_end rss)
    of-lists [] [] m = record { order = []; is = IsPermutation-refl []; sound = tt; cells = refl }
    of-lists [] (rs ∷ rss) m = absurd m
    of-lists (l ∷ given) [] m = absurd m
    of-lists (l ∷ given) (rs ∷ rss) m =
        let a = of-list l rs m.0 in
        let b = of-lists given rss m.1 in
        record {
          order = a.order ++ b.order;
          is = IsPermutation-append (groups_of_list l) a.order (flat_map groups_of_list given) b.order a.is b.is;
          sound = both-sound a.order b.order a.sound b.sound;
          cells = (λ i. a.cells i ++ b.cells i) ∙ sym (map-append (λ (g : Group). g.cells) a.order b.order);
        }

    parts-of : group_schema ≡ p.schema → (n : ℕ) (given left rss : List (List Row)) → IsSplit group_node (rows_table s rows ∷ []) n (given ++ left) → AllZip (GivesList F group_node (rows_table s rows ∷ [])) given rss → BeginsWith F group_node (rows_table s rows ∷ []) left (end_to_end rss)
    parts-of same n given left rss split m =
        let a = of-lists given rss m in
        let more = flat_map groups_of_list left in
        let all = groups_over (beside rows []).rows in
        let order : IsPermutation all (a.order ++ more) =
        IsPermutation-trans all (flat_map groups_of_list (given ++ left)) (a.order ++ more) (split-groups p.origin (exprs_of aggregates) s (beside rows []).rows (given ++ left) split.each_once)
        (subst (λ gs. IsPermutation gs (a.order ++ more)) (sym (flat-joined groups_of_list given left)) (IsPermutation-append_left more (flat_map groups_of_list given) a.order a.is)) in
        let T = given_groups (beside rows []).broken (a.order ++ more) in
        let is : T ≡ groups_table group_schema (a.order ++ more) = ap (λ cs. given_groups cs (a.order ++ more)) whole in
        record {
          table = T;
          case = (T, inl (a.order ++ more, order, refl), refl);
          schema = ap (λ (t : Table). t.schema) is ∙ same;
          rest = rows_before_faulty more;
          begins = ap (λ rs. rs ++ rows_before_faulty more) a.cells ∙ sym (sound-rows a.order more a.sound) ∙ ap (λ (t : Table). t.rows) (sym is);
          ends = λ none. (
            a.cells ∙ sym (append-nil (group_cells a.order)) ∙ ap (λ ls. group_cells a.order ++ rows_before_faulty (flat_map groups_of_list ls)) (sym none) ∙ sym (sound-rows a.order more a.sound) ∙ ap (λ (t : Table). t.rows) (sym is),
            ap (λ (t : Table). t.broken) is ∙ sound-causes a.order more a.sound ∙ ap (λ ls. group_causes (flat_map groups_of_list ls)) none,
          );
        }

pub parts-begin : (F : Functions) (p : PhysicalNode) (keys aggregates : List Named) (s : Fields) → p.kind ≡ group_by_node keys aggregates → output_schema F (group_by (group_step keys aggregates)) (s ∷ []) ≡ Some p.schema → s ≢ [] → AreElementwise (exprs_of keys) → IsTrue (have_all_kinds s (exprs_of keys))
    → (rows : List Row) → (keyed p.origin (exprs_of keys) (rows_table s rows)).broken ≡ [] → (n : ℕ) (given left rss : List (List Row)) → IsSplit p (rows_table s rows ∷ []) n (given ++ left) → AllZip (GivesList F p (rows_table s rows ∷ [])) given rss
    → BeginsWith F p (rows_table s rows ∷ []) left (end_to_end rss)
parts-begin F p keys aggregates s is same some h k rows whole n given left rss =
    subst (λ (kd : PhysicalKind). IsSplit (record p { kind = kd }) (rows_table s rows ∷ []) n (given ++ left) → AllZip (GivesList F (record p { kind = kd }) (rows_table s rows ∷ [])) given rss → BeginsWith F (record p { kind = kd }) (rows_table s rows ∷ []) left (end_to_end rss)) (sym is)
    (parts-of F p keys aggregates s some h k rows whole (ap (λ o. unwrap_or o []) same) n given left rss)
