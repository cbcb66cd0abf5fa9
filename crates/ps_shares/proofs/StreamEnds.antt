-- Expressions over the stream that is made of several are within what they are over the columns that all of these show.
use Rattle.std.proofs.Common.{◌≡◌, ◌≢◌, ◌⊎◌, inl, inr, ℕ, false, List, [], ◌∷◌, length, refl, sym, ap, subst, ◌∙◌}
use Rattle.std.specs.Prelude.{Contains, IsTrue, Some, flat_map, map, slice_get}
use Rattle.std.specs.List.{AllByRecursion}
use Rattle.std.proofs.lemmas.List.{append-nil}
use Rattle.ps_frame.specs.Causes.{Cause, Column}
use Rattle.ps_frame.specs.Functions.{Functions}
use Rattle.ps_frame.specs.Tables.{Fields, Table, column_at, columns_of, field_index, no_rows, values_at}
use Rattle.ps_frame.specs.Trees.{Tree}
use Rattle.ps_frame.specs.Typing.{is_elementwise}
use Rattle.ps_frame.specs.Zip.{below, zipped}
use Rattle.ps_meaning.specs.Cases.{all_columns, columns_at, table_of}
use Rattle.ps_meaning.specs.Shape.{IsPhysicalChoice, PhysicalNode, mild_zip, zip_node}
use Rattle.ps_rules.specs.Bundles.{one_stream}
use Rattle.ps_shares.specs.Ends.{StreamsKeep, fields_shown}
use Rattle.ps_shares.specs.Kept.{HasNoOther, IsZipWithin, all_causes}
use Rattle.ps_shares.specs.Leaves.{AtLeaves, Naming, eval_with}
use Rattle.ps_shares.specs.CallLaws.{AreRead}
use Rattle.ps_shares.specs.Shares.{IsShare, Share, Shows, columns_shown, tables_of}
use Rattle.ps_rules.specs.Slots.{State, Stream, schema_at}
use Rattle.ps_shares.proofs.Causes.{Known, all_append, up_all_lost}
use Rattle.ps_shares.proofs.ClearZips.{no_causes}
use Rattle.ps_shares.proofs.Ends.{last_there, shown_keep}
use Rattle.ps_shares.proofs.Members.{Has, from_has, to_has}
use Rattle.ps_shares.proofs.Shares.{nothing_shows}
use Rattle.ps_shares.proofs.ZipCauses.{zips_show_causes}
use Rattle.ps_shares.proofs.ZipShares.{zips_show}

each_cause : (Q : Cause → Type 0) (xs : List Cause) → ((c : Cause) → Has xs c → Q c) → AllByRecursion Q xs
each_cause Q [] f = tt
each_cause Q (x ∷ xs) f = (f x (inl refl), each_cause Q xs (λ c h. f c (inr h)))

one_cause : (Q : Cause → Type 0) (xs : List Cause) (c : Cause) → AllByRecursion Q xs → Has xs c → Q c
one_cause Q [] c all h = absurd h
one_cause Q (x ∷ xs) c all (inl e) = subst Q e all.0
one_cause Q (x ∷ xs) c all (inr h) = one_cause Q xs c all.1 h

module _ (F : Functions) (at : ℕ) (input : Stream) (s : State) (known : Naming) (es : List Tree) (tables : ℕ → Table) (all : AllByRecursion (λ e. IsTrue (is_elementwise e)) es) where
  abbrev shown : List Cause
  shown = all_causes (zipped false at (map (eval_with at known) es))

  abbrev Keeps : Table → Type 0
  Keeps T = IsZipWithin (zipped false at (columns_at at es T)) (zipped false at (map (eval_with at known) es))

  -- the columns of tables whose causes show
  table_known : (t : Table) → HasNoOther t.broken shown → (ns : List ℕ) → AllByRecursion (Known (Contains shown)) (map (λ j. column_at j t) ns)
  table_known t b [] = tt
  table_known t b (n ∷ ns) = (
    (subst (AllByRecursion (Contains shown)) (sym (no_causes (values_at n t.rows))) tt, each_cause (Contains shown) t.broken (λ c h. b c (from_has t.broken c h)), tt),
    table_known t b ns,
  )

  inputs_known : (hs : List Share) → AllByRecursion (λ (h : Share). HasNoOther h.from.broken shown) hs → AllByRecursion (Known (Contains shown)) (all_columns (tables_of hs))
  inputs_known [] b = tt
  inputs_known (h ∷ hs) b = all_append (Known (Contains shown)) (columns_of h.from) (all_columns (tables_of hs)) (table_known h.from b.0 (below (length h.from.schema))) (inputs_known hs b.1)

  module _ (hs : List Share) (shares : AllByRecursion IsShare hs) (broken : AllByRecursion (λ (h : Share). HasNoOther h.from.broken shown) hs) where
    abbrev inputs : List Column
    inputs = all_columns (tables_of hs)

    abbrev z : Table
    z = table_of (fields_shown hs) (λ rows. rows) (mild_zip at inputs)

    module _ (read : AreRead z (columns_shown hs) known es) where
      -- what is read goes by the schema alone
      read_in : (T : Table) → T.schema ≡ fields_shown hs → AreRead T (columns_shown hs) known es
      read_in T e =
          record {
            some = read.some;
            shown = subst (λ (s : Fields). AllByRecursion (AtLeaves (λ n. (j : ℕ) × (field_index n s ≡ Some j) × (slice_get (columns_shown hs) j ≡ Some (known n)))) es) (sym e) read.shown;
            all = read.all;
          }

      keeps : (T : Table) → T.schema ≡ fields_shown hs → Shows T (columns_shown hs) → HasNoOther T.broken shown → Keeps T
      keeps T e shows none = shown_keep at T (columns_shown hs) known es all shows (read_in T e) none

      lost_shows : HasNoOther (mild_zip at inputs).lost shown
      lost_shows c h =
          let k = up_all_lost (Contains shown) at inputs (inputs_known hs broken) in
          one_cause (Contains shown) (mild_zip at inputs).lost c k (to_has (mild_zip at inputs).lost c h)

      of_zip : (T : Table) (schema : Fields) → schema ≡ fields_shown hs → (T ≡ table_of schema (λ rows. rows) (mild_zip at inputs)) ⊎ ((mild_zip at inputs).lost ≢ []) × (T ≡ no_rows schema (mild_zip at inputs).lost) → Keeps T
      of_zip T schema e (inl is) =
          subst Keeps (sym is)
          (keeps (table_of schema (λ rows. rows) (mild_zip at inputs)) e (zips_show at schema hs shares) (zips_show_causes at (fields_shown hs) hs known es all shares read broken))
      of_zip T schema e (inr (some, is)) =
          subst Keeps (sym is) (keeps (no_rows schema (mild_zip at inputs).lost) e (nothing_shows (columns_shown hs) (no_rows schema (mild_zip at inputs).lost) refl some) lost_shows)

  by_streams : (ss : List Stream) (hs : List Share) (shares : AllByRecursion IsShare hs) → hs ≢ [] → tables_of hs ≡ map (λ (i : Stream). tables i.0) ss → flat_map (schema_at s.nodes) ss ≡ fields_shown hs
      → IsPhysicalChoice F (one_stream at input ss s).state.nodes tables → (broken : AllByRecursion (λ (h : Share). HasNoOther h.from.broken shown) hs)
      → AreRead (table_of (fields_shown hs) (λ rows. rows) (mild_zip at (all_columns (tables_of hs)))) (columns_shown hs) known es → Keeps (tables (one_stream at input ss s).stream.0)
  by_streams [] [] shares some from schemas choice broken read = absurd (some refl)
  by_streams [] (h ∷ hs) shares some from schemas choice broken read = let w : h.from ∷ tables_of hs ≡ [] = from in cc
  by_streams (t ∷ []) [] shares some from schemas choice broken read = absurd (some refl)
  by_streams (t ∷ []) (h ∷ []) shares some from schemas choice broken read =
      let w : h.from ∷ [] ≡ tables t.0 ∷ [] = from in
      let is : h.from ≡ tables t.0 = cc in
      subst Keeps is (keeps (h ∷ []) shares broken read h.from (sym (append-nil h.from.schema)) (subst (Shows h.from) (sym (append-nil h.columns)) shares.0.shows) broken.0)
  by_streams (t ∷ []) (h ∷ g ∷ hs) shares some from schemas choice broken read = let w : h.from ∷ g.from ∷ tables_of hs ≡ tables t.0 ∷ [] = from in cc
  by_streams (t ∷ u ∷ more) hs shares some from schemas choice broken read =
      let p : PhysicalNode = record { kind = zip_node false; schema = flat_map (schema_at s.nodes) (t ∷ u ∷ more); origin = at; inputs = t ∷ u ∷ more } in
      let own = choice (length s.nodes) p (last_there s.nodes p) in
      let T = tables (length s.nodes) in
      of_zip hs shares broken read T p.schema schemas
      (by own.0 own.1 own.2)
    where
      by : (U : Table)
          → (U ≡ table_of (flat_map (schema_at s.nodes) (t ∷ u ∷ more)) (λ rows. rows) (mild_zip at (all_columns (map (λ (i : Stream). tables i.0) (t ∷ u ∷ more)))))
          ⊎ ((mild_zip at (all_columns (map (λ (i : Stream). tables i.0) (t ∷ u ∷ more)))).lost ≢ []) × (U ≡ no_rows (flat_map (schema_at s.nodes) (t ∷ u ∷ more)) (mild_zip at (all_columns (map (λ (i : Stream). tables i.0) (t ∷ u ∷ more)))).lost)
          → tables (length s.nodes) ≡ U
          → (tables (length s.nodes) ≡ table_of (flat_map (schema_at s.nodes) (t ∷ u ∷ more)) (λ rows. rows) (mild_zip at (all_columns (tables_of hs))))
          ⊎ ((mild_zip at (all_columns (tables_of hs))).lost ≢ []) × (tables (length s.nodes) ≡ no_rows (flat_map (schema_at s.nodes) (t ∷ u ∷ more)) (mild_zip at (all_columns (tables_of hs))).lost)
      by U (inl is) e = inl (e ∙ is ∙ ap (λ ts. table_of (flat_map (schema_at s.nodes) (t ∷ u ∷ more)) (λ rows. rows) (mild_zip at (all_columns ts))) (sym from))
      by U (inr (some, is)) e = inr (
        subst (λ ts. (mild_zip at (all_columns ts)).lost ≢ []) (sym from) some,
        e ∙ is ∙ ap (λ ts. no_rows (flat_map (schema_at s.nodes) (t ∷ u ∷ more)) (mild_zip at (all_columns ts)).lost) (sym from),
      )

pub streams_keep : StreamsKeep
streams_keep F at input s ss hs known es tables all shares some from schemas choice read broken = by_streams F at input s known es tables all ss hs shares some from schemas choice broken read
