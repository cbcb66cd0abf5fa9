-- An update finds that the heads of a zip can't agree only where its inputs can't, whatever they turn out to mean.
use Rattle.std.proofs.Common.{◌≡◌, ◌≢◌, ℕ, ◌⊎◌, Bool, true, false, cond, List, [], ◌∷◌, ◌++◌, length, map, Some, None, refl, sym, ap, subst, ◌∙◌, inl, inr}
use Rattle.std.specs.Prelude.{Contains, IsTrue, flat_map, get_or, if◌then◌else◌, nat_eq, nat_lt, not, option_map, slice_get, ◌&&◌, ◌||◌, ◌==◌}
use Rattle.std.specs.List.{AllZip, filter as kept, list_any}
use Rattle.ps_frame.specs.Causes.{Cause, column_causes, is_empty, is_ended}
use Rattle.ps_frame.specs.declared.value.DataFault.TheVariants as data_fault
use Rattle.ps_frame.specs.Functions.{Functions}
use Rattle.ps_frame.specs.Tables.{Table}
use Rattle.ps_frame.specs.Zip.{Extent, aligned, all_same, breaks_shape, ended_lengths, ends_early, extents, is_faulty_row, lengths_where, open_lengths, outgrows, zip_causes, zipped}
use Rattle.ps_meaning.specs.Cases.{all_columns, schemas_of, table_of}
use Rattle.ps_meaning.specs.Shape.{PhysicalBefore, PhysicalKind, PhysicalNode, Shape, as_step, mild_zip, tables_for, zip_node}
use Rattle.ps_meaning.specs.Sound.{HasReaders, IsSound, input_schemas}
use Rattle.ps_options.specs.declared.options.Options.{Options}
use Rattle.ps_ports.specs.Ports.{Sides, all_done, first_port, is_done}
use Rattle.ps_turns.specs.Heads.{Head, head_lengths, heads_by, stored_inputs, stored_rows}
use Rattle.ps_turns.specs.Updates.{BreaksTable, heads_differ, shape_fault}
use Rattle.ps_turns.specs.Progress.{makes_table}
use Rattle.ps_world.specs.Opening.{Reaches}
use Rattle.ps_world.specs.Facts.{HasNoUse, is_over_slice}
use Rattle.ps_world.specs.Laws.{Extends, Faults, sent_at, sent_by, sent_to}
use Rattle.ps_world.specs.Phases.{after_fault}
use Rattle.ps_world.specs.Updates.{FaultFound, Updates, given_at}
use Rattle.ps_world.specs.World.{Node, Pipe, World, heads_of, inputs_done, pipes_in, running, schemas_for, shape_of}
use Rattle.world_ends.proofs.Back.{heads_over}
use Rattle.world_facts.proofs.CutOff.{both_true}
use Rattle.world_facts.proofs.HandedIn.{contains_of}
use Rattle.world_facts.proofs.Placing.{has_readers}
use Rattle.world_laws.proofs.Answered.{in_shape}
use Rattle.world_laws.proofs.InOrder.{contains_kept, contains_map, contains_later, contains_first}
use Rattle.world_laws.proofs.PassingPorts.{ordered, same_number, was_kept}
use Rattle.family_keeps.proofs.Done.{DoneFits}
use Rattle.family_pipes.proofs.Complete.{complete, whole}
use Rattle.family_pipes.proofs.Inputs.{enters, inputs_long, sent_to_is}
use Rattle.family_pipes.proofs.SourceSteps.{same_node}
use Rattle.orderly_worlds.proofs.Orderly.{Orderly, all_done_at}
use Rattle.orderly_worlds.proofs.PortPipes.{given_input, given_output}
use Rattle.table_fronts.proofs.ZipJustified.{each_meant, every, meant_there, place_of, wide}
use Rattle.table_fronts.proofs.ZipLaw.{one_equal}
use Rattle.table_fronts.proofs.ZipRows.{extent, none_ends, some_extent}
use Rattle.std.proofs.lemmas.Option.{slice_get-map}
use Rattle.zip_laws.proofs.Cuts.{KeepsZip, single_is}
use Rattle.zip_laws.proofs.Ends.{only_port}
use Rattle.zip_laws.proofs.Heads.{all_agree, heads, lost_agree, pair_same, stored_are, turned_over}
use Rattle.zip_laws.proofs.Steps.{StoresNone}
use Rattle.node_keeps.proofs.Law.{keeps_reached, updates_keep}
use Rattle.orderly_worlds.proofs.Reaching.{orderly_reached, updates_orderly}
use Rattle.zip_laws.proofs.ZipLaw.{as_held, fits_zip, zip_law}
use Rattle.world_families.proofs.Members.{nothing_is}
use Rattle.world_families.specs.Work.{AllComplete, Enters, IsComplete, Leaves, rows_read}
use Rattle.world_families.specs.Zips.{HoldsZip, broadcasts}

-- a length among those where a test holds
among : (t : Extent → Bool) (es : List Extent) (e : Extent) → Contains es e → t e ≡ true → Contains (lengths_where t es) e.len
among t es e c h = contains_map (λ (x : Extent). x.len) e (kept t es) (contains_kept t e es c h)

last_of : (xs ys : List Cause) (c : Cause) → Contains ys c → Contains (xs ++ ys) c
last_of [] ys c h = h
last_of (x ∷ xs) ys c h = contains_later x c (xs ++ ys) (last_of xs ys c h)

-- Tables whose open lengths differ break the zip by Shape.
breaks : (F : Functions) (p : PhysicalNode) (ts : List Table) → list_any is_ended (all_columns ts) ≡ false → breaks_shape false (extents (all_columns ts)) ≡ true
    → (U : Table) × PhysicalBefore F (record p { kind = zip_node false }) None ts U × Contains U.broken (record { fault = data_fault.Shape; node = p.origin })
breaks F p ts none differ = (table_of p.schema (λ rows. rows) (mild_zip p.origin (all_columns ts)), inl refl, subst (λ cs. Contains cs shape) (sym broken) (last_of (flat_map column_causes (all_columns ts)) (if breaks_shape false (extents (all_columns ts)) then shape ∷ [] else []) shape here))
  where
    shape : Cause
    shape = record { fault = data_fault.Shape; node = p.origin }

    early : (ends_early false (all_columns ts) || list_any is_faulty_row (aligned false p.origin (all_columns ts)).rows) ≡ true
    early = ap (λ b. b || list_any is_faulty_row (aligned false p.origin (all_columns ts)).rows) (λ i. none i || differ i)

    broken : (table_of p.schema (λ rows. rows) (mild_zip p.origin (all_columns ts))).broken ≡ zip_causes false p.origin (all_columns ts)
    broken = ap (λ t. if t then flat_map column_causes (all_columns ts) else (zipped false p.origin (all_columns ts)).broken) none ∙ ap (λ t. if t then zip_causes false p.origin (all_columns ts) else []) early

    here : Contains (if breaks_shape false (extents (all_columns ts)) then shape ∷ [] else []) shape
    here = subst (λ b. Contains (if b then shape ∷ [] else []) shape) (sym differ) (contains_first shape [])

module _ (F : Functions) (s : World) (n : ℕ) (node : Node) (o : Orderly F s) (there : slice_get s.nodes n ≡ Some node) (is_one : node.node.kind ≡ zip_node false) (fits : length node.progress.stores ≡ length node.node.inputs) (done : DoneFits s n) (k : KeepsZip F s n node false)
    (lost : (p : Pipe) → Leaves s n p → p.is_dropped ≡ true → (i : ℕ) → stored_rows (get_or node.progress.stores i []) ≡ []) (differ : heads_differ (heads_of s n node) (given_at s n) ≡ true) where
  h : HoldsZip F s n node false
  h = as_held F n false s node o.known there is_one lost k

  shows : slice_get (shape_of s) n ≡ Some node.node
  shows = in_shape s n node there

  parts : (all_done (given_at s n).inputs ≡ true) × (is_done (first_port (given_at s n).outputs) ≡ false) × (all_same (head_lengths false (heads_of s n node)) ≡ false)
  parts =
      let a = both_true (all_done (given_at s n).inputs) (not (is_done (first_port (given_at s n).outputs)) && not (all_same (head_lengths false (heads_of s n node)))) differ in
      let b = both_true (not (is_done (first_port (given_at s n).outputs))) (not (all_same (head_lengths false (heads_of s n node)))) a.1 in
      (a.0, turned_over (is_done (first_port (given_at s n).outputs)) b.0, turned_over (all_same (head_lengths false (heads_of s n node))) b.1)

  hs_are : heads_of s n node ≡ heads_by false node.progress.booked (stored_inputs (inputs_done s n) node.progress.stores)
  hs_are = heads_over s n node (zip_node false) is_one

  -- its output isn't dropped: else its heads are lost, and agree
  not_lost : (p : Pipe) → Leaves s n p → p.is_dropped ≡ true → ⊥
  not_lost p l gone =
      let agree = lost_agree node.progress.booked (inputs_done s n) node.progress.stores (lost p l gone) in
      let no : true ≡ false = sym agree ∙ ap (λ hs. all_same (head_lengths false hs)) (sym hs_are) ∙ parts.2 in
      cc

  one_reader : length (given_at s n).outputs ≡ 1
  one_reader = subst (λ kd. HasReaders kd (length (given_at s n).outputs)) is_one (has_readers F s o.known.facts n node there)

  unread : (p : Pipe) → Leaves s n p → is_done p.wire.receive_state ≡ false
  unread p l =
      let at = ap (λ j. slice_get (given_at s j).outputs p.wire.port) (sym l.1) ∙ given_output F s o.known.facts p l.0 in
      ap is_done (sym (only_port (given_at s n).outputs p.wire.port p.wire.receive_state one_reader at).0) ∙ parts.1

  used : HasNoUse s n → ⊥
  used (inl (z, at_z, over)) = let same = same_node s n z node at_z there in let no : false ≡ true = ap (λ kd. is_over_slice kd z.progress.booked) (sym (ap (λ (y : Node). y.node.kind) same ∙ is_one)) ∙ over in cc
  used (inr (z, cz, from, each)) = by z.is_dropped refl (each z cz from)
    where
      by : (b : Bool) → z.is_dropped ≡ b → (z.is_dropped || is_done z.wire.receive_state) ≡ true → ⊥
      by true gone e = not_lost z (cz, from) gone
      by false on e = let no : false ≡ true = sym (λ i. on i || unread z (cz, from) i) ∙ e in cc

  all_complete : AllComplete s n
  all_complete q e = by q.is_dropped q.is_unread refl refl
    where
      sent : is_done q.wire.send_state ≡ true
      sent = all_done_at (given_at s n).inputs q.wire.input q.wire.send_state parts.0 (ap (λ j. slice_get (given_at s j).inputs q.wire.input) (sym e.1) ∙ given_input F s o.known.facts q e.0)

      of : IsComplete q ⊎ HasNoUse s n → IsComplete q
      of (inl c) = c
      of (inr none) = absurd (used none)

      by : (a b : Bool) → q.is_dropped ≡ a → q.is_unread ≡ b → IsComplete q
      by true b gone u = absurd (used (subst (HasNoUse s) e.1 ((o.known.facts.pipes q e.0).why_dropped gone)))
      by false true gone u = of (done q e ((o.known.facts.pipes q e.0).unread_done u))
      by false false gone u = complete q (record { done = sent; dropped = gone; unread = u })

  abbrev qs : List Pipe
  qs = pipes_in s n

  entered : (q : Pipe) → Contains qs q → Enters s n q
  entered q d =
      let into = was_kept (λ (z : Pipe). nat_eq z.wire.receiver n) q s.pipes (ordered (λ (a b : Pipe). nat_lt a.wire.input b.wire.input) q (kept (λ (z : Pipe). nat_eq z.wire.receiver n) s.pipes) d) in
      (into.0, same_number q.wire.receiver n into.1)

  heads_full : heads_of s n node ≡ heads false node.progress.booked qs
  heads_full =
      hs_are ∙ ap (heads_by false node.progress.booked) (stored_are qs node.progress.stores (fits ∙ sym (inputs_long F s o.known.facts n node there)) (λ i q e. let z = enters F s o.known.facts n i q e in (by i q z.1 (k.stores q z.0), (whole q (all_complete q z.0)).done ∙ sym (all_complete q z.0))))
    where
      by : (i : ℕ) (q : Pipe) → q.wire.input ≡ i → (stored_rows (get_or node.progress.stores q.wire.input []) ≡ rows_read q) ⊎ (r : Pipe) × Leaves s n r × IsTrue r.is_dropped → stored_rows (get_or node.progress.stores i []) ≡ rows_read q
      by i q at_i (inl stored) = ap (λ j. stored_rows (get_or node.progress.stores j [])) (sym at_i) ∙ stored
      by i q at_i (inr (r, l, gone)) = absurd (not_lost r l gone)

  -- WHATEVER TABLES THE INPUTS TURN OUT TO MEAN
  module _ (Ts : List Table) (e : schemas_of Ts ≡ input_schemas (shape_of s) node.node) (m : AllZip Extends (map sent_by qs) Ts) where
    read : (q : Pipe) → Enters s n q → IsComplete q → q.next ≡ length q.got
    read q i c = o.read q i.0 c

    all_whole : list_any is_ended (all_columns Ts) ≡ false
    all_whole = none_ends Ts (each_meant (λ (t : Table). t.broken ≡ []) qs Ts (every F s n node false o.known there shows is_one h read Ts e m) (λ i q T at t. (t.all (all_complete q (enters F s o.known.facts n i q at).0)).1))

    -- the length of an input that doesn't broadcast is an open one
    open_length : (q : Pipe) → Contains qs q → broadcasts false q ≡ false → Contains (open_lengths (extents (all_columns Ts))) (length (rows_read q))
    open_length q cq off =
        let eq = entered q cq in
        let at = place_of F s n node false o.known there shows is_one h read Ts e m q eq in
        let t = meant_there qs Ts at.0 q (every F s n node false o.known there shows is_one h read Ts e m) at.1 in
        let all = t.2.all (all_complete q eq) in
        let schema = ap (λ us. slice_get us at.0) (sym e) ∙ slice_get-map (λ (u : Table). u.schema) Ts at.0 ∙ ap (option_map (λ (u : Table). u.schema)) t.1 in
        let some = some_extent Ts t.0 (contains_of Ts at.0 t.0 t.1) (wide F s n node false o.known there shows is_one h read Ts e m at.0 t.0.schema schema) in
        let len : (extent t.0).len ≡ length (rows_read q) = ap length (sym all.0) in
        let test : (not (extent t.0).ended && not ((extent t.0).len == 1)) ≡ true = (λ i. not (not (is_empty (all.1 i))) && not (not_one (length (rows_read q)) (not_single eq off) len (length t.0.rows) refl i)) in
        subst (λ l. Contains (open_lengths (extents (all_columns Ts))) l) len (among (λ (x : Extent). not x.ended && not (x.len == 1)) (extents (all_columns Ts)) (extent t.0) some test)
      where
        not_single : Enters s n q → broadcasts false q ≡ false → length (rows_read q) ≢ 1
        not_single eq off one = let no : true ≡ false = sym (single_is false q refl (all_complete q eq) one) ∙ off in cc

        not_one : (l : ℕ) → l ≢ 1 → {x : ℕ} → x ≡ l → (y : ℕ) → x ≡ y → (y == 1) ≡ false
        not_one l apart len y same = by (y == 1) refl
          where
            by : (b : Bool) → (y == 1) ≡ b → (y == 1) ≡ false
            by false e = e
            by true e = absurd (apart (sym len ∙ same ∙ one_equal y e))

    differs : breaks_shape false (extents (all_columns Ts)) ≡ true
    differs = by (all_same (open_lengths (extents (all_columns Ts)))) refl
      where
        by : (b : Bool) → all_same (open_lengths (extents (all_columns Ts))) ≡ b → breaks_shape false (extents (all_columns Ts)) ≡ true
        by false e = ap (λ b. not b || list_any (outgrows (open_lengths (extents (all_columns Ts)))) (ended_lengths (extents (all_columns Ts)))) e
        by true same =
            let agree = all_agree false node.progress.booked qs (λ p q cp cq fp fq. pair_same (open_lengths (extents (all_columns Ts))) (length (rows_read p)) (length (rows_read q)) same (open_length p cp fp) (open_length q cq fq)) in
            absurd (let no : true ≡ false = sym agree ∙ ap (λ hs. all_same (head_lengths false hs)) (sym heads_full) ∙ parts.2 in cc)

  pub shape_breaks : (c : Cause) → c ≡ record { fault = data_fault.Shape; node = node.node.origin } → Faults F node.node (input_schemas (shape_of s) node.node) (sent_to (sent_at s) node.node) c
  shape_breaks c is = (
    ap (λ (x : Cause). x.node) is,
    λ Ts e ext.
        let m = subst (λ ins. AllZip Extends ins Ts) (sent_to_is F s o.known.facts n node there shows) ext in
        let b = breaks F node.node Ts (all_whole Ts e m) (differs Ts e m) in
        (b.0, of_kind Ts b.0 b.1, subst (λ x. Contains b.0.broken x) (sym is) b.2),
  )
    where
      of_kind : (Ts : List Table) (U : Table) → PhysicalBefore F (record node.node { kind = zip_node false }) None Ts U → PhysicalBefore F node.node (as_step node.node.kind) (tables_for F node.node.kind Ts) U
      of_kind Ts U b = subst (λ (kd : PhysicalKind). PhysicalBefore F (record node.node { kind = kd }) (as_step kd) (tables_for F kd Ts) U) (sym is_one) b

-- OF AN UPDATE BETWEEN PHASES
-- the cause that the update of a zip finds
shape_means : (p : PhysicalNode) (kind : PhysicalKind) (extend : Bool) (hs : List Head) (given : Sides) (c : Cause) → kind ≡ zip_node extend → shape_fault p kind hs given ≡ Some c → (extend ≡ false) × (heads_differ hs given ≡ true) × (c ≡ record { fault = data_fault.Shape; node = p.origin })
shape_means p kind true hs given c is e = absurd (nothing_is c (ap (λ k. shape_fault p k hs given) (sym is) ∙ e))
shape_means p kind false hs given c is e = by (heads_differ hs given) refl (ap (λ k. shape_fault p k hs given) (sym is) ∙ e)
  where
    by : (b : Bool) → heads_differ hs given ≡ b → cond b (Some (record { fault = data_fault.Shape; node = p.origin })) None ≡ Some c → (false ≡ false) × (heads_differ hs given ≡ true) × (c ≡ record { fault = data_fault.Shape; node = p.origin })
    by true d q = (refl, d, let same : record { fault = data_fault.Shape; node = p.origin } ≡ c = cc in sym same)
    by false d q = absurd (nothing_is c q)

-- Where updates from a reached world lead to a fault of a zip, it breaks the zip, whatever its inputs turn out to mean: these are what they sent in the world of the fault.
pub opens_break : (F : Functions) (shape : Shape) (o : Options) (w s : World) (n : ℕ) (node : Node) (extend : Bool) (c : Cause) → IsSound F shape → Reaches F shape o w → w.is_open ≡ false → w.ending ≡ running → Updates F w s → slice_get s.nodes n ≡ Some node → node.node.kind ≡ zip_node extend → FaultFound F s n c
    → Faults F node.node (input_schemas (shape_of s) node.node) (sent_to (sent_at s) node.node) c
opens_break F shape o w s n node extend c sound r shut run u there is (found, at, why) = by extend is (of (subst (λ (z : Node). (shape_fault z.node z.node.kind (heads_of s n z) (given_at s n) ≡ Some c) ⊎ BreaksTable F s.options z.node (schemas_for s z) (given_at s n) z.progress c) (same_node s n found node at there) why))
  where
    makes_none : (kind : PhysicalKind) → kind ≡ zip_node extend → makes_table kind ≡ false
    makes_none kind e = ap makes_table e

    first : (a b : Bool) → (a && b) ≡ true → a ≡ true
    first true b e = refl
    first false b e = e

    of : (shape_fault node.node node.node.kind (heads_of s n node) (given_at s n) ≡ Some c) ⊎ BreaksTable F s.options node.node (schemas_for s node) (given_at s n) node.progress c → shape_fault node.node node.node.kind (heads_of s n node) (given_at s n) ≡ Some c
    of (inl e) = e
    of (inr (makes, broken)) = absurd (let no : true ≡ false = sym (first (makes_table node.node.kind) _ makes) ∙ makes_none node.node.kind is in cc)

    by : (extend : Bool) → node.node.kind ≡ zip_node extend → shape_fault node.node node.node.kind (heads_of s n node) (given_at s n) ≡ Some c → Faults F node.node (input_schemas (shape_of s) node.node) (sent_to (sent_at s) node.node) c
    by true is e = absurd (let m = shape_means node.node node.node.kind true (heads_of s n node) (given_at s n) c is e in let no : true ≡ false = m.0 in cc)
    by false is e =
        let m = shape_means node.node node.node.kind false (heads_of s n node) (given_at s n) c is e in
        let ow = orderly_reached F shape o w sound r in
        let os = updates_orderly F w s ow shut u in
        let before = keeps_reached F n (λ kind. kind ≡ zip_node false) (λ x z. KeepsZip F x n z false × StoresNone x n z) (zip_law F n false) shape o w sound r in
        let k = updates_keep F n (λ kind. kind ≡ zip_node false) (λ x z. KeepsZip F x n z false × StoresNone x n z) (zip_law F n false) w s ow shut run u before node there is in
        shape_breaks F s n node os there is (fits_zip (length node.node.inputs) node.node.kind false node is k.fits) k.done k.own.0 k.own.1 m.1 c m.2

-- The world that such an Open leads to has the same nodes and pipes.
pub opened_break : (F : Functions) (shape : Shape) (o : Options) (w s : World) (phase n : ℕ) (node : Node) (extend : Bool) (c : Cause) → IsSound F shape → Reaches F shape o w → w.is_open ≡ false → w.ending ≡ running → Updates F w s → slice_get s.nodes n ≡ Some node → node.node.kind ≡ zip_node extend → FaultFound F s n c
    → Faults F node.node (input_schemas (shape_of (after_fault s phase c)) node.node) (sent_to (sent_at (after_fault s phase c)) node.node) c
opened_break F shape o w s phase n node extend c sound r shut run u there is found = opens_break F shape o w s n node extend c sound r shut run u there is found
