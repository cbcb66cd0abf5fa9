-- The causes of zips: a piece has none but too many rows, and then an input has too many; an Open finds heads that can't agree only where the inputs can't.
use Rattle.std.proofs.Common.{◌≡◌, ℕ, suc, ◌+◌, ◌-◌, ◌<◌, ◌⊎◌, Bool, true, false, cond, List, [], ◌∷◌, drop, length, map, take, Some, refl, sym, ap, subst, ◌∙◌, inl, inr, arith}
use Rattle.std.specs.Prelude.{Contains, flat_map, if◌then◌else◌, slice_get, not, ◌&&◌, ◌||◌, ◌==◌}
use Rattle.std.specs.List.{AllByRecursion, AllZip, list_any}
use Rattle.std.proofs.lemmas.List.{length-drop, length-take}
use Rattle.ps_frame.specs.Aggregates.{max_rows}
use Rattle.ps_frame.specs.Causes.{Cause, column_causes, is_ended}
use Rattle.ps_frame.specs.Functions.{Functions}
use Rattle.ps_frame.specs.Tables.{Fields, Table}
use Rattle.ps_frame.specs.Zip.{Extent, breaks_shape, extents, zipped}
use Rattle.ps_meaning.specs.Cases.{all_columns, rows_table}
use Rattle.ps_meaning.specs.Shape.{PhysicalBefore, PhysicalNode, Shape, as_step, zip_node}
use Rattle.ps_meaning.specs.Sound.{IsSound, input_schemas}
use Rattle.ps_options.specs.declared.options.Options.{Options}
use Rattle.ps_turns.specs.Results.{IsResult, IsResultOf, rows_fault}
use Rattle.ps_turns.specs.Tables.{whole_tables}
use Rattle.ps_turns.specs.Tasks.{Piece, bad, computes}
use Rattle.ps_world.specs.Laws.{Extends, Faults, IsLargeWhatever, Overflows, sent_at, sent_to}
use Rattle.ps_world.specs.Opening.{Reaches}
use Rattle.ps_world.specs.World.{Node, Pipe, World, pipes_in, schemas_for, shape_of}
use Rattle.world_facts.proofs.HandedIn.{contains_of}
use Rattle.world_laws.proofs.Answered.{in_shape}
use Rattle.world_laws.proofs.InOrder.{contains_cases, none_in_nil}
use Rattle.family_pipes.proofs.Inputs.{enters, sent_to_is}
use Rattle.orderly_worlds.proofs.Orderly.{Orderly}
use Rattle.orderly_worlds.proofs.Reaching.{orderly_reached}
use Rattle.table_fronts.proofs.ZipJustified.{every, meant_there, piece_is, place_of, wide}
use Rattle.table_fronts.proofs.ZipLaw.{equal_one, longer, single_means}
use Rattle.table_fronts.proofs.ZipRows.{each_extent, extent, fits_shape, loses_none, none_ends, unbroken}
use Rattle.world_families.specs.Work.{Enters, IsComplete, Work, rows_read}
use Rattle.world_families.specs.Zips.{HoldsZip, ServesCut, broadcasts, rows_in_cut}
use Rattle.zip_laws.proofs.Results.{held, piece_work}

-- WHAT A ZIP GIVES OVER TABLES
before_rows : (F : Functions) (p : PhysicalNode) (extend : Bool) (ts : List Table) (U : Table) → PhysicalBefore F (record p { kind = zip_node extend }) (as_step (zip_node extend)) ts U → U.rows ≡ (zipped extend p.origin (all_columns ts)).rows
before_rows F p true ts U (inl g) = ap (λ (x : Table). x.rows) g
before_rows F p true ts U (inr (V, g, some, lost)) = absurd (some refl)
before_rows F p false ts U (inl g) = ap (λ (x : Table). x.rows) g
before_rows F p false ts U (inr (some, lost)) = absurd (some (loses_none false p.origin ts))

-- over whole tables whose lengths agree nothing breaks it
before_whole : (F : Functions) (p : PhysicalNode) (extend : Bool) (ts : List Table) (U : Table) → list_any is_ended (all_columns ts) ≡ false → breaks_shape extend (extents (all_columns ts)) ≡ false → PhysicalBefore F (record p { kind = zip_node extend }) (as_step (zip_node extend)) ts U → U.broken ≡ []
before_whole F p true ts U none fits (inl g) = ap (λ (x : Table). x.broken) g ∙ unbroken true p.origin ts (λ i. none i || fits i)
before_whole F p true ts U none fits (inr (V, g, some, lost)) = absurd (some refl)
before_whole F p false ts U none fits (inl g) = ap (λ (x : Table). x.broken) g ∙ ap (λ t. if t then flat_map column_causes (all_columns ts) else (zipped false p.origin (all_columns ts)).broken) none ∙ unbroken false p.origin ts (λ i. none i || fits i)
before_whole F p false ts U none fits (inr (some, lost)) = absurd (some (loses_none false p.origin ts))

-- THE TABLES OF A CUT
module _ (extend : Bool) (a b : ℕ) (some : a < b) where
  abbrev cut_tables : List Fields → List Pipe → List Table
  cut_tables ss qs = whole_tables ss (map (rows_in_cut extend a b) qs)

  cut_each : (P : Table → Type 0) (ss : List Fields) (qs : List Pipe) → ((i : ℕ) (q : Pipe) (s : Fields) → slice_get qs i ≡ Some q → P (rows_table s (rows_in_cut extend a b q))) → AllByRecursion P (cut_tables ss qs)
  cut_each P [] qs f = tt
  cut_each P (s ∷ ss) [] f = tt
  cut_each P (s ∷ ss) (q ∷ qs) f = (f 0 q s refl, cut_each P ss qs (λ i r u e. f (suc i) r u e))

  each_in : (P : Table → Type 0) (ts : List Table) → AllByRecursion P ts → (t : Table) → Contains ts t → P t
  each_in P [] h t c = absurd (none_in_nil t c)
  each_in P (u ∷ ts) h t c = by (contains_cases u t ts c) (λ later. each_in P ts h.1 t later)
    where
      by : (u ≡ t) ⊎ Contains ts t → (Contains ts t → P t) → P t
      by (inl is) rest = subst P is h.0
      by (inr later) rest = rest later

  cut_whole : (ss : List Fields) (qs : List Pipe) → list_any is_ended (all_columns (cut_tables ss qs)) ≡ false
  cut_whole ss qs = none_ends (cut_tables ss qs) (cut_each (λ (t : Table). t.broken ≡ []) ss qs (λ i q s e. refl))

  -- a cut without extension has as many rows of each input that isn't single
  cut_fits : (ss : List Fields) (qs : List Pipe) → ((i : ℕ) (q : Pipe) → slice_get qs i ≡ Some q → ServesCut extend a b q) → breaks_shape extend (extents (all_columns (cut_tables ss qs))) ≡ false
  cut_fits ss qs served = by extend refl
    where
      rows : (q : Pipe) → extend ≡ false → ServesCut extend a b q → not (length (rows_in_cut extend a b q) == 1) ≡ true → length (rows_in_cut extend a b q) ≡ b - a
      rows q plain serves open_cut = of (broadcasts extend q) refl serves
        where
          one : broadcasts extend q ≡ true → length (rows_in_cut extend a b q) ≡ 1
          one e = ap (λ z. length (cond z (rows_read q) (take (b - a) (drop a (rows_read q))))) e ∙ (single_means extend q e).one

          never : broadcasts extend q ≡ true → length (rows_in_cut extend a b q) ≡ b - a
          never e = absurd (let no : false ≡ true = sym (ap not (equal_one (length (rows_in_cut extend a b q)) (one e))) ∙ open_cut in cc)

          of : (z : Bool) → broadcasts extend q ≡ z → ServesCut extend a b q → length (rows_in_cut extend a b q) ≡ b - a
          of true e s = never e
          of false e (inl s) = never s
          of false e (inr (inl long)) =
              let t = length-take (b - a) (drop a (rows_read q)) in
              let d = length-drop a (rows_read q) in
              ap (λ z. length (cond z (rows_read q) (take (b - a) (drop a (rows_read q))))) e ∙ (omega (arith, t, d, long, some))
          of false e (inr (inr (filled, c, short))) = absurd (let no : true ≡ false = sym filled ∙ plain in cc)

      by : (x : Bool) → extend ≡ x → breaks_shape extend (extents (all_columns (cut_tables ss qs))) ≡ false
      by true e = ap (λ x. breaks_shape x (extents (all_columns (cut_tables ss qs)))) e
      by false e =
          fits_shape extend (b - a) (extents (all_columns (cut_tables ss qs)))
          (each_extent (λ (x : Extent). x.ended ≡ false) (cut_tables ss qs) (λ t c. each_in (λ t. (extent t).ended ≡ false) (cut_tables ss qs) (cut_each (λ t. (extent t).ended ≡ false) ss qs (λ i q u g. refl)) t c))
          (each_extent (λ (x : Extent). (not x.ended && not (x.len == 1)) ≡ true → x.len ≡ b - a) (cut_tables ss qs) (λ t c. each_in (λ t. (not (extent t).ended && not ((extent t).len == 1)) ≡ true → (extent t).len ≡ b - a) (cut_tables ss qs) (cut_each (λ t. (not (extent t).ended && not ((extent t).len == 1)) ≡ true → (extent t).len ≡ b - a) ss qs (λ i q u g h. rows q e (served i q g) h)) t c))

-- A HAND-IN
module _ (F : Functions) (shape : Shape) (o : Options) (w : World) (sound : IsSound F shape) (r : Reaches F shape o w) (n : ℕ) (node : Node) (extend : Bool) (there : slice_get w.nodes n ≡ Some node) (is : node.node.kind ≡ zip_node extend) where
  abbrev h : HoldsZip F w n node extend
  h = held F shape o w sound r n node extend there is

  orderly : Orderly F w
  orderly = orderly_reached F shape o w sound r

  shows : slice_get (shape_of w) n ≡ Some node.node
  shows = in_shape w n node there

  module _ (q : Piece) (cq : Contains w.outs q) (at : q.node ≡ n) (c : Cause) (result : IsResult F q (bad c)) where
    less : q.gives < node.progress.sent
    less = (piece_work F shape o w sound r n node extend there is q cq at).0

    abbrev a : ℕ
    a = h.before q.gives

    abbrev b : ℕ
    b = h.before (q.gives + 1)

    abbrev qs : List Pipe
    qs = pipes_in w n

    abbrev ss : List Fields
    ss = schemas_for w node

    abbrev Cs : List Table
    Cs = whole_tables ss (map (rows_in_cut extend a b) qs)

    some_rows : a < b
    some_rows = (h.cuts q.gives less).some_rows

    served : (i : ℕ) (x : Pipe) → slice_get qs i ≡ Some x → ServesCut extend a b x
    served i x e = (h.cuts q.gives less).served x (enters F w orderly.known.facts n i x e).0

    kind_is : record node.node { kind = zip_node extend } ≡ node.node
    kind_is = λ i. record node.node { kind = sym is i }

    made : IsResultOf F (computes (record node.node { kind = zip_node extend })) q.input Cs (map (rows_in_cut extend a b) qs) (bad c)
    made =
        subst (λ p. IsResultOf F (computes p) q.input Cs (map (rows_in_cut extend a b) qs) (bad c)) (sym kind_is)
        (subst (λ (x : Work). IsResultOf F x.task q.input (whole_tables x.schemas x.tables) x.tables (bad c)) (piece_work F shape o w sound r n node extend there is q cq at).1 result)

    -- only too many rows, and then an input has too many, whatever it turns out to mean
    many : max_rows < length made.0.rows → IsLargeWhatever F node.node (input_schemas (shape_of w) node.node) (sent_to (sent_at w) node.node)
    many over Ts e ext =
        let m = subst (λ ins. AllZip Extends ins Ts) (sent_to_is F w orderly.known.facts n node there shows) ext in
        let read = λ (x : Pipe) (i : Enters w n x) (done : IsComplete x). orderly.read x i.0 done in
        let top = place_of F w n node extend orderly.known there shows is h read Ts e m (h.cuts q.gives less).reached.0 (h.cuts q.gives less).reached.1 in
        let full = (h.cuts q.gives less).reached.2 in
        let all = every F w n node extend orderly.known there shows is h read Ts e m in
        let T = meant_there qs Ts top.0 (h.cuts q.gives less).reached.0 all top.1 in
        let rows = before_rows F node.node extend Cs made.0 made.1 ∙ piece_is extend a b some_rows ss qs Ts e all served (wide F w n node extend orderly.known there shows is h read Ts e m) top.0 (h.cuts q.gives less).reached.0 top.1 full node.node.origin in
        let count = ap length rows ∙ length-take (b - a) (drop a _) in
        let long = longer (h.cuts q.gives less).reached.0 T.0 T.2 in
        inr (inl (T.0, contains_of Ts top.0 T.0 T.1, omega (arith, over, count, long, full)))

    pub zip_names : Faults F node.node (input_schemas (shape_of w) node.node) (sent_to (sent_at w) node.node) c ⊎ Overflows F node.node (input_schemas (shape_of w) node.node) (sent_to (sent_at w) node.node) c
    zip_names = by made.2
      where
        whole : made.0.broken ≡ []
        whole = before_whole F node.node extend Cs made.0 (cut_whole extend a b some_rows ss qs) (cut_fits extend a b some_rows ss qs served) made.1

        by : Contains made.0.broken c ⊎ (max_rows < length made.0.rows) × (c ≡ rows_fault node.node) → Faults F node.node (input_schemas (shape_of w) node.node) (sent_to (sent_at w) node.node) c ⊎ Overflows F node.node (input_schemas (shape_of w) node.node) (sent_to (sent_at w) node.node) c
        by (inl among) = absurd (none_in_nil c (subst (λ cs. Contains cs c) whole among))
        by (inr (over, is_rows)) = inr (is_rows, many over)
