-- Each update of a node goes on, with a fill before it where the node waits for its table, or finds a fault.
use Rattle.std.proofs.Common.{◌≡◌, ◌⊎◌, Bool, true, false, List, [], Option, Some, None, refl, ap, inl, inr}
use Rattle.std.specs.Prelude.{IsFalse, IsTrue, get_or, not, ◌&&◌, ◌||◌}
use Rattle.ps_frame.specs.Causes.{Cause}
use Rattle.ps_frame.specs.Functions.{Functions}
use Rattle.ps_frame.specs.Tables.{Row}
use Rattle.ps_meaning.specs.Shape.{PhysicalKind, group_by_node, in_memory_join, in_memory_map, negative_slice}
use Rattle.ps_meaning.specs.Sound.{HasFitParameters}
use Rattle.ps_options.specs.declared.options.Options.{Options}
use Rattle.ps_ports.specs.Ports.{Sides}
use Rattle.ps_turns.specs.Ends.{rows_at_end}
use Rattle.ps_turns.specs.Heads.{Head, stored_rows}
use Rattle.ps_turns.specs.Progress.{Progress, giving, is_giving, is_user_map, makes_table}
use Rattle.ps_turns.specs.Claims.{all_taken}
use Rattle.ps_turns.specs.Results.{IsBrokenOver, IsMade}
use Rattle.ps_turns.specs.Tables.{whole_tables}
use Rattle.ps_turns.specs.Updates.{BreaksTable, Makes, Turns, answer_of, is_waiting, shape_fault, stage_after, starts_giving, stored_tables}
use Rattle.turn_laws.specs.Updating.{FilledTo, FillsAndUpdates, FindsFault, HasPorts, SeenNode, heads_seen}
use Rattle.turn_laws.proofs.Making.{made_or_broken, split_keys}
use Rattle.turn_laws.proofs.Turned.{Waits, fills_stage, waits}

decided : (b : Bool) → (b ≡ true) ⊎ (b ≡ false)
decided true = inl refl
decided false = inr refl

-- a map of a handed-in function makes a table, and has it once it gives
waits_for_table : (kind : PhysicalKind) → is_user_map kind ≡ true → makes_table kind ≡ true
waits_for_table (in_memory_map step) e = refl
waits_for_table kind e = absurd (let no : false ≡ true = e in cc)

module _ (F : Functions) (o : Options) (a : SeenNode) (given : Sides) where
  -- what the node makes where it starts to give, or what breaks that
  abbrev Made : PhysicalKind → Progress → Type 0
  Made kind progress =
      ((c : Progress) × Makes F o a.node kind a.schemas progress c)
      ⊎ ((x : Cause) × IsTrue (makes_table kind && not (is_user_map kind)) × IsBrokenOver F a.node (whole_tables a.schemas (stored_tables progress)) x)

  user_makes : (kind : PhysicalKind) (progress : Progress) → is_user_map kind ≡ true → Makes F o a.node kind a.schemas progress progress
  user_makes (in_memory_map step) progress e = inl (e, refl)
  user_makes kind progress e = absurd (let no : false ≡ true = e in cc)

  module _ (fit : HasFitParameters F a.node.kind) where
    table : (progress : Progress) → makes_table a.node.kind ≡ true
        → ((rs : List Row) × IsMade F a.node (whole_tables a.schemas (stored_tables progress)) rs) ⊎ ((c : Cause) × IsBrokenOver F a.node (whole_tables a.schemas (stored_tables progress)) c)
    table progress makes = made_or_broken F a.node (whole_tables a.schemas (stored_tables progress)) fit makes

    makes : (progress : Progress) (kind : PhysicalKind) → a.node.kind ≡ kind → Made kind progress
    makes progress (in_memory_map step) is = by (decided (is_user_map (in_memory_map step)))
      where
        by : (is_user_map (in_memory_map step) ≡ true) ⊎ (is_user_map (in_memory_map step) ≡ false) → Made (in_memory_map step) progress
        by (inl e) = inl (progress, inl (e, refl))
        by (inr e) =
            elim (table progress (ap makes_table is)) [
              | inl (rs, m) ↦ inl (record progress { made = Some rs }, inr (ap not e, rs, m, refl))
              | inr (c, b) ↦ inr (c, ap not e, b)
            ]
    makes progress (in_memory_join j) is =
        elim (table progress (ap makes_table is)) [ inl (rs, m) ↦ inl (record progress { made = Some rs }, (rs, m, refl)) | inr (c, b) ↦ inr (c, refl, b) ]
    makes progress (group_by_node keys aggregates) is =
        let split = split_keys a.node (whole_tables a.schemas (all_taken progress)) o.partitions o.some_partitions in inl (record progress { lists = split.0 }, (split.0, split.1, refl))
    makes progress (negative_slice back n) is = inl (record progress { made = Some (rows_at_end back n progress.booked (stored_rows (get_or progress.stores 0 []))) }, refl)
    makes progress kind is = inl (progress, refl)

    -- a turn, or what breaks the table that it would make
    turns : (progress : Progress)
        → ((b : Progress) × Turns F o a.node a.schemas given progress b)
        ⊎ ((c : Cause) × IsTrue (starts_giving o a.node.kind progress given) × IsTrue (makes_table a.node.kind && not (is_user_map a.node.kind))
        × IsBrokenOver F a.node (whole_tables a.schemas (stored_tables progress)) c)
    turns progress = by (decided (starts_giving o a.node.kind progress given))
      where
        by : (starts_giving o a.node.kind progress given ≡ true) ⊎ (starts_giving o a.node.kind progress given ≡ false)
            → ((b : Progress) × Turns F o a.node a.schemas given progress b)
            ⊎ ((c : Cause) × IsTrue (starts_giving o a.node.kind progress given) × IsTrue (makes_table a.node.kind && not (is_user_map a.node.kind))
            × IsBrokenOver F a.node (whole_tables a.schemas (stored_tables progress)) c)
        by (inl e) = elim (makes progress a.node.kind refl) [ inl (c, m) ↦ inl (record c { stage = giving }, inr (e, c, m, refl)) | inr (x, t, b) ↦ inr (x, e, t, b) ]
        by (inr e) = inl (record progress { stage = stage_after o a.node.kind progress given }, inl (ap not e, refl))

    abbrev Goes : Type 0
    Goes = ((b : SeenNode) × (answer : Sides) × FillsAndUpdates F o a given b answer) ⊎ ((c : Cause) × FindsFault F o a given c)

    module _ (ports : HasPorts a given) (agrees : shape_fault a.node a.node.kind (heads_seen a given) given ≡ None) where
      -- what breaks the table of a node: one that waits for it, or one that starts to give
      breaks_waiting : (c : Cause) → IsTrue (is_waiting a.node.kind a.progress given) → IsBrokenOver F a.node (whole_tables a.schemas (stored_tables a.progress)) c → BreaksTable F o a.node a.schemas given a.progress c
      breaks_waiting c w b =
          let known : Waits a.node.kind a.progress given = waits a.node.kind a.progress given w in
          ((λ i. waits_for_table a.node.kind known.is_map i && (w i || (starts_giving o a.node.kind a.progress given && not (is_user_map a.node.kind)))), inl b)

      either : (m u s w : Bool) → (m && not u) ≡ true → s ≡ true → (m && (w || (s && not u))) ≡ true
      either true false true true e d = refl
      either true false true false e d = refl
      either true false false w e d = absurd (let no : false ≡ true = d in cc)
      either true true s w e d = absurd (let no : false ≡ true = e in cc)
      either false u s w e d = absurd (let no : false ≡ true = e in cc)

      goes_with : (filled : Progress) → FilledTo F o a given filled → (b : Progress) → Turns F o a.node a.schemas given filled b
          → shape_fault a.node a.node.kind (heads_seen (record a { progress = filled }) given) given ≡ None → Goes
      goes_with filled fills b t none =
          let seen : SeenNode = record a { progress = filled } in
          inl (
            record a { progress = b },
            answer_of o a.node b (heads_seen (record a { progress = filled }) given) a.empties given,
            record {
              filled = filled;
              fills = fills;
              update = record { ports = ports; agrees = none; turns = t; others = refl; answers = refl };
            },
          )

      unfilled : IsFalse (is_waiting a.node.kind a.progress given) → Goes
      unfilled w =
          elim (turns a.progress) [
            | inl (b, t) ↦ goes_with a.progress (inl (w, refl)) b t agrees
            | inr (c, s, m, b) ↦ inr (c, inr (either (makes_table a.node.kind) (is_user_map a.node.kind) (starts_giving o a.node.kind a.progress given) (is_waiting a.node.kind a.progress given) m s, inl b))
          ]

      -- a zip waits for nothing
      no_zip : (kind : PhysicalKind) (hs hs' : List Head) → is_user_map kind ≡ true → shape_fault a.node kind hs given ≡ None
      no_zip (in_memory_map step) hs hs' e = refl
      no_zip kind hs hs' e = absurd (let no : false ≡ true = e in cc)

      filled_turn : (w : IsTrue (is_waiting a.node.kind a.progress given)) (rs : List Row) → Turns F o a.node a.schemas given (record a.progress { made = Some rs }) (record a.progress { made = Some rs; stage = giving })
      filled_turn w rs =
          let known : Waits a.node.kind a.progress given = waits a.node.kind a.progress given w in
          let after = fills_stage o a.node.kind (record a.progress { made = Some rs }) given known.is_map known.takes refl known.ins known.out in
          inr ((λ i. not (is_giving (known.takes i)) && is_giving (after i)), record a.progress { made = Some rs }, user_makes a.node.kind (record a.progress { made = Some rs }) known.is_map, refl)

      waiting : IsTrue (is_waiting a.node.kind a.progress given) → Goes
      waiting w =
          let known : Waits a.node.kind a.progress given = waits a.node.kind a.progress given w in
          elim (table a.progress (waits_for_table a.node.kind known.is_map)) [
            | inl (rs, m) ↦
                goes_with (record a.progress { made = Some rs }) (inr (w, rs, m, refl)) (record a.progress { made = Some rs; stage = giving }) (filled_turn w rs)
                (no_zip a.node.kind (heads_seen (record a { progress = record a.progress { made = Some rs } }) given) (heads_seen a given) known.is_map)
            | inr (c, b) ↦ inr (c, inr (breaks_waiting c w b))
          ]

    pub goes_on : HasPorts a given → Goes
    goes_on ports = by (shape_fault a.node a.node.kind (heads_seen a given) given) refl
      where
        by : (f : Option Cause) → shape_fault a.node a.node.kind (heads_seen a given) given ≡ f → Goes
        by (Some c) e = inr (c, inl e)
        by None e = elim (decided (is_waiting a.node.kind a.progress given)) [ inl w ↦ waiting ports e w | inr w ↦ unfilled ports e w ]
