-- What a zip has sent is a front of the zip of its inputs.
use Rattle.std.proofs.Common.{◌≡◌, ◌≢◌, ℕ, zero, suc, ◌<◌, ◌≤◌, ◌+◌, ◌-◌, ◌⊎◌, Bool, true, false, List, [], ◌∷◌, ◌++◌, length, take, drop, Option, Some, None, refl, sym, ap, subst, ◌∙◌, inl, inr, add-one, add-zero, append_assoc, append-nil, arith}
use Rattle.std.specs.Prelude.{Contains, IsTrue, flat_map, get_or, map, nat_eq, nat_lt, not, option_map, slice_get, ◌&&◌, ◌||◌, ◌==◌, if◌then◌else◌, unwrap_or, ⊤}
use Rattle.std.specs.List.{AllByRecursion, AllZip, filter as kept, list_any}
use Rattle.std.proofs.Math.ListN.{drop_of_length-le}
use Rattle.std.proofs.lemmas.List.{length-map, take-append-drop}
use Rattle.std.proofs.lemmas.Option.{slice_get-map}
use Rattle.ps_frame.proofs.Gathers.{length-below}
use Rattle.ps_frame.proofs.Lists.{drop-drop}
use Rattle.ps_frame.specs.Causes.{column_causes, is_empty, is_ended}
use Rattle.ps_frame.specs.Functions.{Functions}
use Rattle.ps_frame.specs.Tables.{Fields, IsWhole, Row, Table}
use Rattle.ps_frame.specs.Zip.{Extent, below, breaks_shape, broadcasts as spreads, extents, zipped}
use Rattle.ps_frame.specs.declared.value.Value.TheVariants as val
use Rattle.ps_meaning.specs.Cases.{all_columns, out_schema, schemas_of, table_of, rows_table}
use Rattle.ps_meaning.specs.Schemas.{schema_or_empty}
use Rattle.ps_meaning.specs.Shape.{PhysicalCase, PhysicalKind, PhysicalNode, mild_zip, zip_node}
use Rattle.ps_meaning.specs.Sound.{HasSchema, input_schemas, schema_at}
use Rattle.ps_meaning.specs.Steps.{hconcat}
use Rattle.ps_turns.specs.Progress.{is_multiplexer}
use Rattle.ps_turns.specs.Tables.{whole_tables}
use Rattle.ps_turns.specs.Tasks.{computes}
use Rattle.ps_world.specs.Laws.{Extends, Justified, sent_at, sent_by, sent_to}
use Rattle.ps_world.specs.World.{Node, Pipe, World, pipes_in, rows_in_order, schemas_for, shape_of}
use Rattle.world_claims.specs.Numbering.{Known, counts_own}
use Rattle.world_facts.proofs.Halting.{order_keeps}
use Rattle.world_facts.proofs.HandedIn.{at_of, contains_of}
use Rattle.world_facts.proofs.Placing.{in_place}
use Rattle.world_facts.proofs.Wiring.{each_of}
use Rattle.world_laws.proofs.Answered.{in_shape}
use Rattle.world_laws.proofs.InOrder.{contains_first, contains_kept, contains_later, contains_map}
use Rattle.family_pipes.proofs.Complete.{filled, whole}
use Rattle.family_pipes.proofs.Inputs.{enters, input_of, inputs_long, none_past, past_none, sent_to_is}
use Rattle.world_families.proofs.Members.{nothing_is}
use Rattle.family_pipes.proofs.Sent.{each_port, is_sink, itself, node_of}
use Rattle.family_fronts.proofs.SourceLaw.{from_single}
use Rattle.family_fronts.proofs.UnionLaw.{Came, ReadOut, front_through, read_all, read_came, rows_front}
use Rattle.table_fronts.proofs.ZipLaw.{Meant, Spread, cut_fills, cut_reached, cut_within, longer, same_row_at, single_means, spread_is, table_fills}
use Rattle.table_fronts.proofs.ZipRows.{Binds, MayPass, at_least, at_most, each_extent, extent, fits_shape, height, loses_none, map_below, none_ends, rows_are, some_extent, unbroken, window, zip_row}
use Rattle.world_families.specs.Holds.{Holds, HoldsOfKind}
use Rattle.world_families.specs.Work.{Answers, Enters, IsComplete, Leaves, rows_read}
use Rattle.world_families.specs.Zips.{AllCut, HoldsZip, ServesCut, broadcasts, rows_in_cut}

-- INPUTS WITH THE TABLES THAT THEY MEAN
abbrev AllMeant : List Pipe → List Table → Type 0
AllMeant [] [] = ⊤
AllMeant [] (T ∷ Ts) = ⊥
AllMeant (q ∷ qs) [] = ⊥
AllMeant (q ∷ qs) (T ∷ Ts) = Meant q T × AllMeant qs Ts

meant : (q : Pipe) (T : Table) → Came q → ReadOut q → Extends (sent_by q) T → Meant q T
meant q T came out m =
    record {
      front = front_through (rows_read q) (rows_in_order q.got) T.rows (rows_front q.next q.got came) (m.rest, m.begins);
      all = λ c. let h = m.ends c in (ap rows_in_order (read_all q out c) ∙ h.0, h.1);
    }

all_meant : (qs : List Pipe) (Ts : List Table) → ((i : ℕ) (q : Pipe) → slice_get qs i ≡ Some q → Came q × ReadOut q) → AllZip Extends (map sent_by qs) Ts → AllMeant qs Ts
all_meant [] [] h m = tt
all_meant [] (T ∷ Ts) h m = absurd m
all_meant (q ∷ qs) [] h m = absurd m
all_meant (q ∷ qs) (T ∷ Ts) h m = let k = h 0 q refl in (meant q T k.0 k.1 m.0, all_meant qs Ts (λ i r e. h (suc i) r e) m.1)

pub meant_there : (qs : List Pipe) (Ts : List Table) (i : ℕ) (q : Pipe) → AllMeant qs Ts → slice_get qs i ≡ Some q → (T : Table) × (slice_get Ts i ≡ Some T) × Meant q T
meant_there [] Ts i q h e = absurd (nothing_is q e)
meant_there (x ∷ qs) [] i q h e = absurd h
meant_there (x ∷ qs) (T ∷ Ts) zero q h e = let two : Some x ≡ Some q = e in let same : x ≡ q = cc in (T, refl, subst (λ z. Meant z T) same h.0)
meant_there (x ∷ qs) (T ∷ Ts) (suc i) q h e = meant_there qs Ts i q h.1 e

pub each_meant : (P : Table → Type 0) (qs : List Pipe) (Ts : List Table) → AllMeant qs Ts → ((i : ℕ) (q : Pipe) (T : Table) → slice_get qs i ≡ Some q → Meant q T → P T) → AllByRecursion P Ts
each_meant P [] [] h f = tt
each_meant P [] (T ∷ Ts) h f = absurd h
each_meant P (q ∷ qs) [] h f = absurd h
each_meant P (q ∷ qs) (T ∷ Ts) h f = (f 0 q T refl h.0, each_meant P qs Ts h.1 (λ i r U e m. f (suc i) r U e m))

-- ONE CUT
module _ (extend : Bool) (a b : ℕ) (some : a < b) where
  abbrev cut_tables : List Fields → List Pipe → List Table
  cut_tables ss qs = whole_tables ss (map (rows_in_cut extend a b) qs)

  each_cut : (P : Table → Type 0) (ss : List Fields) (qs : List Pipe) → ((i : ℕ) (q : Pipe) (s : Fields) → slice_get qs i ≡ Some q → P (rows_table s (rows_in_cut extend a b q))) → AllByRecursion P (cut_tables ss qs)
  each_cut P [] qs f = tt
  each_cut P (s ∷ ss) [] f = tt
  each_cut P (s ∷ ss) (q ∷ qs) f = (f 0 q s refl, each_cut P ss qs (λ i r u e. f (suc i) r u e))

  cut_there : (ss : List Fields) (qs : List Pipe) (i : ℕ) (q : Pipe) (s : Fields) → slice_get qs i ≡ Some q → slice_get ss i ≡ Some s → Contains (cut_tables ss qs) (rows_table s (rows_in_cut extend a b q))
  cut_there [] qs i q s e g = absurd (nothing_is s g)
  cut_there (u ∷ ss) [] i q s e g = absurd (nothing_is q e)
  cut_there (u ∷ ss) (x ∷ qs) zero q s e g =
      let two : Some x ≡ Some q = e in
      let same : x ≡ q = cc in
      let both : Some u ≡ Some s = g in
      let like : u ≡ s = cc in
      subst (λ z. Contains (cut_tables (u ∷ ss) (x ∷ qs)) (rows_table s (rows_in_cut extend a b z))) same (subst (λ z. Contains (cut_tables (u ∷ ss) (x ∷ qs)) (rows_table z (rows_in_cut extend a b x))) like (contains_first (rows_table u (rows_in_cut extend a b x)) (cut_tables ss qs)))
  cut_there (u ∷ ss) (x ∷ qs) (suc i) q s e g = contains_later (rows_table u (rows_in_cut extend a b x)) (rows_table s (rows_in_cut extend a b q)) (cut_tables ss qs) (cut_there ss qs i q s e g)

  rows_match : (ss : List Fields) (qs : List Pipe) (Ts : List Table) → schemas_of Ts ≡ ss → AllMeant qs Ts → ((i : ℕ) (q : Pipe) → slice_get qs i ≡ Some q → ServesCut extend a b q) → (j : ℕ) → j < b - a → zip_row extend (cut_tables ss qs) j ≡ zip_row extend Ts (a + j)
  rows_match [] [] [] e m s j less = refl
  rows_match (u ∷ ss) [] [] e m s j less = absurd (let never : [] ≡ u ∷ ss = e in cc)
  rows_match ss [] (T ∷ Ts) e m s j less = absurd m
  rows_match ss (q ∷ qs) [] e m s j less = absurd m
  rows_match [] (q ∷ qs) (T ∷ Ts) e m s j less = absurd (let never : T.schema ∷ schemas_of Ts ≡ [] = e in cc)
  rows_match (u ∷ ss) (q ∷ qs) (T ∷ Ts) e m s j less =
      let both : T.schema ∷ schemas_of Ts ≡ u ∷ ss = e in
      let like : u ≡ T.schema = cc in
      let more : schemas_of Ts ≡ ss = cc in
      let r = same_row_at extend a b some q T m.0 (s 0 q refl) j less in
      let rest = rows_match ss qs Ts more m.1 (λ i x g. s (suc i) x g) j less in
      λ i. map (λ c. get_or (r i) c val.Null) (below (length (like i))) ++ rest i

  module _ (ss : List Fields) (qs : List Pipe) (Ts : List Table) (e : schemas_of Ts ≡ ss) (m : AllMeant qs Ts) (s : (i : ℕ) (q : Pipe) → slice_get qs i ≡ Some q → ServesCut extend a b q) (wide : (i : ℕ) (u : Fields) → slice_get ss i ≡ Some u → 0 < length u)
      (k : ℕ) (top : Pipe) (at : slice_get qs k ≡ Some top) (full : b ≤ length (rows_read top)) where
    abbrev top_table : (T : Table) × (slice_get Ts k ≡ Some T) × Meant top T
    top_table = meant_there qs Ts k top m at

    schema_there : slice_get ss k ≡ Some top_table.0.schema
    schema_there = ap (λ us. slice_get us k) (sym e) ∙ slice_get-map (λ (t : Table). t.schema) Ts k ∙ ap (option_map (λ (t : Table). t.schema)) top_table.1

    abbrev Cs : List Table
    Cs = cut_tables ss qs

    abbrev top_cut : Table
    top_cut = rows_table top_table.0.schema (rows_in_cut extend a b top)

    top_extent : Contains (extents (all_columns Cs)) (extent top_cut)
    top_extent = some_extent Cs top_cut (cut_there ss qs k top top_table.0.schema at schema_there) (wide k top_table.0.schema schema_there)

    reached : (b - a ≤ length (rows_in_cut extend a b top)) × (length (rows_in_cut extend a b top) ≤ b - a)
    reached = cut_reached extend a b some top top_table.0 top_table.2 (s k top at) full

    fills : (i : ℕ) (q : Pipe) (u : Fields) → slice_get qs i ≡ Some q → Binds extend (extent (rows_table u (rows_in_cut extend a b q))) → b - a ≤ length (rows_in_cut extend a b q)
    fills i q u g = let t = meant_there qs Ts i q m g in cut_fills extend a b some q t.0 t.2 (s i q g)

    within : (i : ℕ) (q : Pipe) (u : Fields) → slice_get qs i ≡ Some q → MayPass extend (extent (rows_table u (rows_in_cut extend a b q))) → length (rows_in_cut extend a b q) ≤ b - a
    within i q u g = let t = meant_there qs Ts i q m g in cut_within extend a b some q t.0 t.2 (s i q g)

    cut_height : height extend Cs ≡ b - a
    cut_height =
        let low = at_least extend (b - a) (extents (all_columns Cs)) (extent top_cut) (each_extent (λ x. Binds extend x → b - a ≤ x.len) Cs (λ t c. each_of (λ t. Binds extend (extent t) → b - a ≤ (extent t).len) Cs t (each_cut (λ t. Binds extend (extent t) → b - a ≤ (extent t).len) ss qs fills) c)) top_extent reached.0 in
        let high = at_most extend (b - a) (extents (all_columns Cs)) (extent top_cut) (each_extent (λ (x : Extent). x.ended ≡ false) Cs (λ t c. each_of (λ t. (extent t).ended ≡ false) Cs t (each_cut (λ t. (extent t).ended ≡ false) ss qs (λ i q u g. refl)) c))
        (each_extent (λ x. MayPass extend x → x.len ≤ b - a) Cs (λ t c. each_of (λ t. MayPass extend (extent t) → (extent t).len ≤ b - a) Cs t (each_cut (λ t. MayPass extend (extent t) → (extent t).len ≤ b - a) ss qs within) c)) top_extent reached.1 in
        omega (arith, low, high)

    all_high : b ≤ height extend Ts
    all_high =
        let there = contains_of Ts k top_table.0 top_table.1 in
        let more = longer top top_table.0 top_table.2 in
        at_least extend b (extents (all_columns Ts)) (extent top_table.0)
        (each_extent (λ x. Binds extend x → b ≤ x.len) Ts (λ t c. each_of (λ t. Binds extend (extent t) → b ≤ (extent t).len) Ts t (each_meant (λ t. Binds extend (extent t) → b ≤ (extent t).len) qs Ts m (λ i q T g h. table_fills extend a b some q T h (s i q g))) c))
        (some_extent Ts top_table.0 there (wide k top_table.0.schema schema_there)) (omega (arith, more, full))

    pub piece_is : (node : ℕ) → (zipped extend node (all_columns Cs)).rows ≡ take (b - a) (drop a (map (zip_row extend Ts) (below (height extend Ts))))
    piece_is node =
        rows_are extend node Cs ∙ ap (λ n. map (zip_row extend Cs) (below n)) cut_height ∙ map_below (zip_row extend Cs) (λ j. zip_row extend Ts (a + j)) (b - a) (rows_match ss qs Ts e m s)
        ∙ sym (window (zip_row extend Ts) a (b - a) (height extend Ts) (let high = all_high in omega (arith, high, some)))

-- CUT AFTER CUT
module _ (all : List Row) (before : ℕ → ℕ) where
  abbrev IsPiece : ℕ → List Row → Type 0
  IsPiece k rs = (before k ≤ before (suc k)) × (rs ≡ take (before (suc k) - before k) (drop (before k) all))

  next : (k : ℕ) → before k ≤ before (suc k) → take (before (suc k) - before k) (drop (before k) all) ++ drop (before (suc k)) all ≡ drop (before k) all
  next k h =
      let whole_step : before k + (before (suc k) - before k) ≡ before (suc k) = omega arith in
      ap (λ z. take (before (suc k) - before k) (drop (before k) all) ++ z) (ap (λ j. drop j all) (sym whole_step) ∙ sym (drop-drop (before (suc k) - before k) (before k) all)) ∙ take-append-drop (before (suc k) - before k) (drop (before k) all)

  abbrev Pieces : ℕ → List (Option (List Row)) → Type 0
  Pieces k slots = (j : ℕ) (rs : List Row) → slice_get slots j ≡ Some (Some rs) → IsPiece (k + j) rs

  later : (k : ℕ) (x : Option (List Row)) (slots : List (Option (List Row))) → Pieces k (x ∷ slots) → Pieces (suc k) slots
  later k x slots h j rs e = let same : k + suc j ≡ suc k + j = omega arith in subst (λ i. IsPiece i rs) same (h (suc j) rs e)

  here : (k : ℕ) (rs : List Row) (slots : List (Option (List Row))) → Pieces k (Some rs ∷ slots) → IsPiece k rs
  here k rs slots h = subst (λ i. IsPiece i rs) (add-zero k) (h 0 rs refl)

  pieces_front : (k : ℕ) (slots : List (Option (List Row))) → Pieces k slots → (rest : List Row) × (rows_in_order slots ++ rest ≡ drop (before k) all)
  pieces_front k [] h = (drop (before k) all, refl)
  pieces_front k (None ∷ slots) h = (drop (before k) all, refl)
  pieces_front k (Some rs ∷ slots) h =
      let r = pieces_front (suc k) slots (later k (Some rs) slots h) in
      let p = here k rs slots h in
      (r.0, append_assoc rs (rows_in_order slots) r.0 ∙ ap (λ z. rs ++ z) r.1 ∙ ap (λ z. z ++ drop (before (suc k)) all) p.1 ∙ next k p.0)

  pieces_all : (k : ℕ) (slots : List (Option (List Row))) → Pieces k slots → ((j : ℕ) → j < length slots → (rs : List Row) × (slice_get slots j ≡ Some (Some rs))) → rows_in_order slots ++ drop (before (k + length slots)) all ≡ drop (before k) all
  pieces_all k [] h f = ap (λ j. drop (before j) all) (add-zero k)
  pieces_all k (None ∷ slots) h f = absurd (let x = f 0 (omega arith) in let never : Some None ≡ Some (Some x.0) = x.1 in cc)
  pieces_all k (Some rs ∷ slots) h f =
      let r = pieces_all (suc k) slots (later k (Some rs) slots h) (λ j less. f (suc j) (omega arith)) in
      let p = here k rs slots h in
      let shift : k + length (Some rs ∷ slots) ≡ suc k + length slots = omega arith in
      ap (λ j. (rs ++ rows_in_order slots) ++ drop (before j) all) shift ∙ append_assoc rs (rows_in_order slots) (drop (before (suc k + length slots)) all) ∙ ap (λ z. rs ++ z) r
      ∙ ap (λ z. z ++ drop (before (suc k)) all) p.1 ∙ next k p.0

-- THE CASE OF A ZIP
zip_case_rows : (F : Functions) (p : PhysicalNode) (extend : Bool) (ts : List Table) (T : Table) → PhysicalCase F (record p { kind = zip_node extend }) ts T → T.rows ≡ (zipped extend p.origin (all_columns ts)).rows
zip_case_rows F p true ts T (U, inl g, is) = ap (λ (x : Table). x.rows) is ∙ ap (λ (x : Table). x.rows) g
zip_case_rows F p true ts T (U, inr (V, g, some, lost), is) = absurd (some refl)
zip_case_rows F p false ts T (U, inl g, is) = ap (λ (x : Table). x.rows) is ∙ ap (λ (x : Table). x.rows) g
zip_case_rows F p false ts T (U, inr (some, lost), is) = absurd (some (loses_none false p.origin ts))

module _ (F : Functions) (p : PhysicalNode) (Ts : List Table) where
  abbrev zip_table : Bool → Table
  zip_table true = table_of (out_schema F p.origin hconcat Ts) (λ rows. rows) (zipped true p.origin (all_columns Ts))
  zip_table false = table_of p.schema (λ rows. rows) (mild_zip p.origin (all_columns Ts))

  zip_rows_of : (extend : Bool) → (zip_table extend).rows ≡ map (zip_row extend Ts) (below (height extend Ts))
  zip_rows_of true = rows_are true p.origin Ts
  zip_rows_of false = rows_are false p.origin Ts

  zip_case : (extend : Bool) → PhysicalCase F (record p { kind = zip_node extend }) Ts (zip_table extend)
  zip_case true = (zip_table true, inl refl, refl)
  zip_case false = (zip_table false, inl refl, refl)

  zip_schema : (extend : Bool) (ss : List Fields) → schemas_of Ts ≡ ss → HasSchema F (zip_node extend) ss p.schema → (zip_table extend).schema ≡ p.schema
  zip_schema true ss e has = ap (schema_or_empty F hconcat) e ∙ ap (λ s. unwrap_or s []) has
  zip_schema false ss e has = refl

  zip_whole : (extend : Bool) → list_any is_ended (all_columns Ts) ≡ false → breaks_shape extend (extents (all_columns Ts)) ≡ false → IsWhole (zip_table extend)
  zip_whole true none fits = unbroken true p.origin Ts (λ i. none i || fits i)
  zip_whole false none fits = ap (λ t. if t then flat_map column_causes (all_columns Ts) else (zipped false p.origin (all_columns Ts)).broken) none ∙ unbroken false p.origin Ts (λ i. none i || fits i)

module _ (F : Functions) (w : World) (n : ℕ) (node : Node) (extend : Bool) (known : Known F w) (there : slice_get w.nodes n ≡ Some node) (shows : slice_get (shape_of w) n ≡ Some node.node) (is_one : node.node.kind ≡ zip_node extend) (h : HoldsZip F w n node extend)
    (read : (q : Pipe) → Enters w n q → IsComplete q → q.next ≡ length q.got) (Ts : List Table) (e : schemas_of Ts ≡ input_schemas (shape_of w) node.node) (m : AllZip Extends (map sent_by (pipes_in w n)) Ts) where
  abbrev qs : List Pipe
  qs = pipes_in w n

  abbrev ss : List Fields
  ss = input_schemas (shape_of w) node.node

  pub every : AllMeant qs Ts
  every = all_meant qs Ts (λ i q g. (read_came F w n known i q g, read q (enters F w known.facts n i q g).0)) m

  -- a place of a pipe that leads to the zip
  pub place_of : (q : Pipe) → Enters w n q → (k : ℕ) × (slice_get qs k ≡ Some q)
  place_of q c =
      at_of qs q (order_keeps (λ (a b : Pipe). nat_lt a.wire.input b.wire.input) q (kept (λ (p : Pipe). nat_eq p.wire.receiver n) w.pipes) (contains_kept (λ (p : Pipe). nat_eq p.wire.receiver n) q w.pipes c.0 (itself q.wire.receiver n c.1)))

  -- each input has a column
  pub wide : (i : ℕ) (u : Fields) → slice_get ss i ≡ Some u → 0 < length u
  wide i u g = by (slice_get qs i) refl
    where
      inputs : slice_get ss i ≡ option_map (λ (x : ℕ × ℕ). schema_at (slice_get (shape_of w) x.0)) (slice_get node.node.inputs i)
      inputs = slice_get-map (λ (x : ℕ × ℕ). schema_at (slice_get (shape_of w) x.0)) node.node.inputs i

      positive : (u : Fields) → u ≢ [] → 0 < length u
      positive [] some = absurd (some refl)
      positive (x ∷ xs) some = omega arith

      by : (o : Option Pipe) → slice_get qs i ≡ o → 0 < length u
      by None none =
          let long = inputs_long F w known.facts n node there in
          let past = past_none qs i none in
          let gone = none_past node.node.inputs i (omega (arith, long, past)) in
          absurd (nothing_is u (sym (inputs ∙ ap (option_map (λ (x : ℕ × ℕ). schema_at (slice_get (shape_of w) x.0))) gone) ∙ g))
      by (Some q) at =
          let c = enters F w known.facts n i q at in
          let source = sym (ap (slice_get node.node.inputs) c.1) ∙ input_of F w known.facts n node.node q shows c.0.0 c.0.1 in
          let sender = (in_place F w known.facts).sender q.wire (contains_map (λ (p : Pipe). p.wire) q w.pipes c.0.0) in
          let shown = in_shape w q.wire.sender sender.0 sender.1 in
          let schema : Some (schema_at (slice_get (shape_of w) q.wire.sender)) ≡ Some u = sym (inputs ∙ ap (option_map (λ (x : ℕ × ℕ). schema_at (slice_get (shape_of w) x.0))) source) ∙ g in
          let is : schema_at (slice_get (shape_of w) q.wire.sender) ≡ u = cc in
          let same : sender.0.node.schema ≡ u = sym (ap schema_at shown) ∙ is in
          positive u (λ none. (known.facts.sound.0 q.wire.sender sender.0.node shown).not_empty (same ∙ none))

  abbrev all : List Row
  all = map (zip_row extend Ts) (below (height extend Ts))

  -- what a cut's answer is
  served : (k : ℕ) → k < node.progress.sent → (i : ℕ) (q : Pipe) → slice_get qs i ≡ Some q → ServesCut extend (h.before k) (h.before (k + 1)) q
  served k less i q g = (h.cuts k less).served q (enters F w known.facts n i q g).0

  is_piece : (p : Pipe) → Leaves w n p → (k : ℕ) (rs : List Row) → slice_get p.got k ≡ Some (Some rs) → IsPiece all h.before k rs
  is_piece p l k rs g =
      let a = h.gives.answers p k rs l g in
      let less = a.1.0 in
      let cut = h.cuts k less in
      let made : Answers F (record { task = computes node.node; schemas = schemas_for w node; tables = map (rows_in_cut extend (h.before k) (h.before (k + 1))) qs }) rs = subst (λ x. Answers F x rs) a.1.1 a.2 in
      let case = subst (λ (kind : PhysicalKind). PhysicalCase F (record node.node { kind = kind }) (whole_tables ss (map (rows_in_cut extend (h.before k) (h.before (k + 1))) qs)) made.0) is_one made.1 in
      let top = place_of cut.reached.0 cut.reached.1 in
      let rows = piece_is extend (h.before k) (h.before (k + 1)) cut.some_rows ss qs Ts e every (served k less) wide top.0 cut.reached.0 top.1 cut.reached.2 node.node.origin in
      let is : rs ≡ take (h.before (k + 1) - h.before k) (drop (h.before k) all) = sym made.3 ∙ zip_case_rows F node.node extend (whole_tables ss (map (rows_in_cut extend (h.before k) (h.before (k + 1))) qs)) made.0 case ∙ rows in
      let step : k + 1 ≡ suc k = add-one k in
      subst (λ j. (h.before k ≤ h.before j) × (rs ≡ take (h.before j - h.before k) (drop (h.before k) all))) step (let less_rows = cut.some_rows in omega (arith, less_rows), is)

  pieces : (p : Pipe) → Leaves w n p → (j : ℕ) (rs : List Row) → slice_get p.got j ≡ Some (Some rs) → IsPiece all h.before (0 + j) rs
  pieces p l j rs g = let zero_first : j ≡ 0 + j = omega arith in subst (λ i. IsPiece all h.before i rs) zero_first (is_piece p l j rs g)

  from_first : drop (h.before 0) all ≡ all
  from_first = ap (λ k. drop k all) h.from_none

  -- WHERE ALL WAS GIVEN
  module _ (done : AllCut w n extend node.progress.booked) where
    last : (i : ℕ) (q : Pipe) (T : Table) → slice_get qs i ≡ Some q → Meant q T → (rows_read q ≡ T.rows) × (T.broken ≡ [])
    last i q T g k = k.all (done.complete q (enters F w known.facts n i q g).0)

    not_ended : (i : ℕ) (q : Pipe) (T : Table) → slice_get qs i ≡ Some q → Meant q T → (extent T).ended ≡ false
    not_ended i q T g k = ap (λ cs. not (is_empty cs)) (last i q T g k).1

    single_spreads : (i : ℕ) (q : Pipe) (T : Table) → slice_get qs i ≡ Some q → Meant q T → broadcasts extend q ≡ true → Spread extend (extent T)
    single_spreads i q T g k b =
        let s = single_means extend q b in
        record { plain = s.plain; whole = not_ended i q T g k; one = ap length (sym (last i q T g k).0) ∙ s.one }

    not_more : (i : ℕ) (q : Pipe) (T : Table) → slice_get qs i ≡ Some q → Meant q T → MayPass extend (extent T) → length T.rows ≤ node.progress.booked
    not_more i q T g k may = by extend refl (done.no_more q (enters F w known.facts n i q g).0) may
      where
        by : (x : Bool) → extend ≡ x → IsTrue (broadcasts extend q) ⊎ (length (rows_read q) ≤ node.progress.booked) → MayPass x (extent T) → length T.rows ≤ node.progress.booked
        by x y (inr few) may = let same = ap length (last i q T g k).0 in omega (arith, same, few)
        by true y (inl lone) may = absurd (let never : true ≡ false = sym y ∙ (single_means extend q lone).plain in cc)
        by false y (inl lone) may = absurd (let never : true ≡ false = sym (spread_is extend (extent T) (single_spreads i q T g k lone)) ∙ ap (λ b. spreads b (extent T)) y ∙ may in cc)

    low : height extend Ts ≤ node.progress.booked
    low =
        let top = place_of done.reached.0 done.reached.1 in
        let t = meant_there qs Ts top.0 done.reached.0 every top.1 in
        let schema : slice_get ss top.0 ≡ Some t.0.schema = ap (λ us. slice_get us top.0) (sym e) ∙ slice_get-map (λ (x : Table). x.schema) Ts top.0 ∙ ap (option_map (λ (x : Table). x.schema)) t.1 in
        let same = ap length (last top.0 done.reached.0 t.0 top.1 t.2).0 in
        let few = done.reached.2 in
        at_most extend node.progress.booked (extents (all_columns Ts)) (extent t.0)
        (each_extent (λ (x : Extent). x.ended ≡ false) Ts (λ u c. each_of (λ u. (extent u).ended ≡ false) Ts u (each_meant (λ u. (extent u).ended ≡ false) qs Ts every not_ended) c))
        (each_extent (λ x. MayPass extend x → x.len ≤ node.progress.booked) Ts (λ u c. each_of (λ u. MayPass extend (extent u) → (extent u).len ≤ node.progress.booked) Ts u (each_meant (λ u. MayPass extend (extent u) → (extent u).len ≤ node.progress.booked) qs Ts every not_more) c))
        (some_extent Ts t.0 (contains_of Ts top.0 t.0 t.1) (wide top.0 t.0.schema schema)) (omega (arith, same, few))

    -- an input that doesn't broadcast has all rows that are booked
    no_fewer : (i : ℕ) (q : Pipe) (T : Table) → slice_get qs i ≡ Some q → Meant q T → Binds extend (extent T) → node.progress.booked ≤ length T.rows
    no_fewer i q T g k binds = by node.progress.sent refl
      where
        by : (s : ℕ) → node.progress.sent ≡ s → node.progress.booked ≤ length T.rows
        by zero z = let none : node.progress.booked ≡ 0 = sym h.up_to_booked ∙ ap h.before z ∙ h.from_none in omega (arith, none)
        by (suc s) z =
            let less : s < node.progress.sent = omega (arith, z) in
            let cut = h.cuts s less in
            let all_rows = table_fills extend (h.before s) (h.before (s + 1)) cut.some_rows q T k (served s less i q g) binds in
            let end : h.before (s + 1) ≡ node.progress.booked = ap h.before (add-one s ∙ sym z) ∙ h.up_to_booked in
            omega (arith, all_rows, end)

    open_length : (i : ℕ) (q : Pipe) (T : Table) → slice_get qs i ≡ Some q → Meant q T → extend ≡ false → (not (extent T).ended && not ((extent T).len == 1)) ≡ true → (extent T).len ≡ node.progress.booked
    open_length i q T g k plain open_one =
        let more = no_fewer i q T g k (subst (λ x. Binds x (extent T)) (sym plain) spreads_not) in
        let less = not_more i q T g k (subst (λ x. MayPass x (extent T)) (sym plain) spreads_not) in
        omega (arith, more, less)
      where
        not_one : ((extent T).len == 1) ≡ false
        not_one = by ((extent T).len == 1) (both (not (extent T).ended) (not ((extent T).len == 1)) open_one)
          where
            both : (x y : Bool) → (x && y) ≡ true → y ≡ true
            both true y e = e
            both false y e = absurd (let never : false ≡ true = e in cc)

            by : (b : Bool) → not b ≡ true → b ≡ false
            by true e = absurd (let never : false ≡ true = e in cc)
            by false e = refl

        spreads_not : spreads false (extent T) ≡ false
        spreads_not = ap (λ b. not (extent T).ended && b) not_one ∙ by (not (extent T).ended)
          where
            by : (b : Bool) → (b && false) ≡ false
            by true = refl
            by false = refl

    fits : breaks_shape extend (extents (all_columns Ts)) ≡ false
    fits = by extend refl
      where
        by : (x : Bool) → extend ≡ x → breaks_shape x (extents (all_columns Ts)) ≡ false
        by true y = refl
        by false y =
            fits_shape false node.progress.booked (extents (all_columns Ts))
            (each_extent (λ (x : Extent). x.ended ≡ false) Ts (λ u c. each_of (λ u. (extent u).ended ≡ false) Ts u (each_meant (λ u. (extent u).ended ≡ false) qs Ts every not_ended) c))
            (each_extent (λ (x : Extent). (not x.ended && not (x.len == 1)) ≡ true → x.len ≡ node.progress.booked) Ts
            (λ u c. each_of (λ u. (not (extent u).ended && not ((extent u).len == 1)) ≡ true → (extent u).len ≡ node.progress.booked) Ts u
            (each_meant (λ u. (not (extent u).ended && not ((extent u).len == 1)) ≡ true → (extent u).len ≡ node.progress.booked) qs Ts every (λ i q T g k. open_length i q T g k y)) c))

    whole_table_is : IsWhole (zip_table F node.node Ts extend)
    whole_table_is = zip_whole F node.node Ts extend (none_ends Ts (each_meant (λ (T : Table). T.broken ≡ []) qs Ts every (λ i q T g k. (last i q T g k).1))) fits

    nothing_left : (s : ℕ) → s ≡ node.progress.sent → drop (h.before s) all ≡ []
    nothing_left s same =
        let booked : h.before s ≡ node.progress.booked = ap h.before same ∙ h.up_to_booked in
        let long : length all ≡ height extend Ts = length-map (below (height extend Ts)) (zip_row extend Ts) ∙ length-below (height extend Ts) in
        let few = low in
        drop_of_length-le all (omega (arith, booked, long, few))

  extends : (p : Pipe) → Leaves w n p → Extends (sent_by p) (zip_table F node.node Ts extend)
  extends p l =
      let f = pieces_front all h.before 0 p.got (pieces p l) in
      let rows = zip_rows_of F node.node Ts extend in
      record {
        rest = f.0;
        begins = f.1 ∙ from_first ∙ sym rows;
        ends = λ c.
            let done = h.gives.completes p l c in
            let places = filled F w p known l.0 (from_single w n node p there (ap is_multiplexer is_one) l.1) c in
            let long : length p.got ≡ node.progress.sent = (known.numbers n node there).own (ap counts_own is_one) p l.0 l.1 (whole p c).dropped in
            let zero_first : 0 + length p.got ≡ node.progress.sent = omega (arith, long) in
            (sym (append-nil (rows_in_order p.got)) ∙ ap (λ z. rows_in_order p.got ++ z) (sym (nothing_left done (0 + length p.got) zero_first)) ∙ pieces_all all h.before 0 p.got (pieces p l) places ∙ from_first ∙ sym rows, whole_table_is done);
      }

  pub zip_served : (T : Table) × (T.schema ≡ node.node.schema) × PhysicalCase F node.node Ts T × ((k : ℕ) → Extends (sent_at w n k) T)
  zip_served =
      let has = subst (λ k. HasSchema F k ss node.node.schema) is_one (known.facts.sound.0 n node.node shows).schema in
      let T = zip_table F node.node Ts extend in
      (T, zip_schema F node.node Ts extend ss e has, subst (λ (k : PhysicalKind). PhysicalCase F (record node.node { kind = k }) Ts T) (sym is_one) (zip_case F node.node Ts extend), each_port w n node T there (ap is_sink is_one) extends)

pub zips_justified : (F : Functions) (w : World) (n : ℕ) (p : PhysicalNode) (extend : Bool) → Known F w → slice_get (shape_of w) n ≡ Some p → p.kind ≡ zip_node extend → Holds F w n → Justified F p (input_schemas (shape_of w) p) (sent_to (sent_at w) p) (sent_at w n)
zips_justified F w n p extend known e is_one holds =
    let x = node_of w n p e in
    let shows : slice_get (shape_of w) n ≡ Some x.0.node = e ∙ ap Some (sym x.2) in
    let kind : x.0.node.kind ≡ zip_node extend = ap (λ (q : PhysicalNode). q.kind) x.2 ∙ is_one in
    let all = holds x.0 x.1 in
    let own = subst (HoldsOfKind F w n x.0) kind all.own in
    subst (λ q. Justified F q (input_schemas (shape_of w) q) (sent_to (sent_at w) q) (sent_at w n)) x.2
    (λ Ts same m. zip_served F w n x.0 extend known x.1 shows kind own all.pipes.read Ts same (subst (λ ins. AllZip Extends ins Ts) (sent_to_is F w known.facts n x.0 x.1 shows) m))
