-- The first part of the law of maps, in-memory joins and negative slices.
use Rattle.std.proofs.Common.{◌≡◌, ℕ, List, [], ◌∷◌, ◌++◌, Option, Some, None, true, false, refl, sym, ap, subst, ◌∙◌, inl, inr, ◌⊎◌}
use Rattle.std.specs.Prelude.{IsTrue, map, slice_get}
use Rattle.std.specs.List.{AllZip}
use Rattle.ps_frame.specs.Functions.{Functions, IsLawful}
use Rattle.ps_frame.specs.Tables.{Row, Table}
use Rattle.ps_meaning.specs.Cases.{schemas_of}
use Rattle.ps_meaning.specs.Shape.{PhysicalCase, PhysicalKind, PhysicalNode, in_memory_join, in_memory_map, negative_slice}
use Rattle.ps_meaning.specs.Sound.{input_schemas}
use Rattle.ps_options.specs.declared.options.Options.{Options}
use Rattle.ps_turns.specs.Cuts.{is_exhausted}
use Rattle.ps_turns.specs.Progress.{Progress, is_multiplexer, makes_table}
use Rattle.ps_turns.specs.Tasks.{Piece}
use Rattle.ps_turns.specs.Updates.{exhausted_rows, has_given_all}
use Rattle.ps_world.specs.Laws.{Extends, Justified, sent_at, sent_by, sent_to}
use Rattle.ps_world.specs.World.{Node, Pipe, World, pipes_in, rows_in_order, schemas_for, shape_of}
use Rattle.world_claims.specs.Numbering.{Known, counts_own}
use Rattle.family_pipes.proofs.Inputs.{enters, sent_to_is}
use Rattle.table_fronts.proofs.MadeTables.{maker_gives, maker_schema}
use Rattle.world_families.proofs.Members.{nothing_is}
use Rattle.table_fronts.proofs.ReduceLaw.{all_whole}
use Rattle.family_pipes.proofs.Sent.{each_port, is_sink, node_of}
use Rattle.family_fronts.proofs.SourceLaw.{cuts_extend}
use Rattle.world_families.specs.Holds.{Holds, HoldsOfKind}
use Rattle.world_families.specs.Keepers.{HoldsMade}
use Rattle.world_families.specs.Sources.{HasGivenAll, KeepsNone, cut_work}
use Rattle.world_families.specs.Work.{Gives, IsComplete, Leaves, work_of}

-- what is so of these kinds
record Maker (kind : PhysicalKind) : Type 0 where
  own : counts_own kind ≡ true
  single : is_multiplexer kind ≡ false
  not_sink : is_sink kind ≡ false
  given : (o : Options) (a : Progress) → has_given_all o kind a ≡ exhausted_rows o a.sent a.made

maker : (kind : PhysicalKind) → IsTrue (makes_table kind) → Maker kind
maker (in_memory_map step) m = record { own = refl; single = refl; not_sink = refl; given = λ o a. refl }
maker (in_memory_join j) m = record { own = refl; single = refl; not_sink = refl; given = λ o a. refl }
maker (negative_slice back count) m = record { own = refl; single = refl; not_sink = refl; given = λ o a. refl }
maker kind m = absurd (let never : false ≡ true = m in cc)

made_of : (F : Functions) (w : World) (n : ℕ) (node : Node) (kind : PhysicalKind) → IsTrue (makes_table kind) → HoldsOfKind F w n node kind → HoldsMade F w n node
made_of F w n node (in_memory_map step) m h = h
made_of F w n node (in_memory_join j) m h = h
made_of F w n node (negative_slice back count) m h = h
made_of F w n node kind m h = absurd (let never : false ≡ true = m in cc)

module _ (F : Functions) (lawful : IsLawful F) (w : World) (n : ℕ) (node : Node) (known : Known F w) (there : slice_get w.nodes n ≡ Some node) (in_shape : slice_get (shape_of w) n ≡ Some node.node) (makes : IsTrue (makes_table node.node.kind)) (h : HoldsMade F w n node)
    (Ts : List Table) (e : schemas_of Ts ≡ input_schemas (shape_of w) node.node) (m : AllZip Extends (map sent_by (pipes_in w n)) Ts) where
  k : Maker node.node.kind
  k = maker node.node.kind makes

  schema_is : (T : Table) → PhysicalCase F node.node Ts T → T.schema ≡ node.node.schema
  schema_is T c = maker_schema F node.node Ts lawful node.node.kind (input_schemas (shape_of w) node.node) T makes e (known.facts.sound.0 n node.node in_shape).schema c

  abbrev Served : Type 0
  Served = (T : Table) × (T.schema ≡ node.node.schema) × PhysicalCase F node.node Ts T × ((j : ℕ) → Extends (sent_at w n j) T)

  -- without a table it gave nothing
  unmade : node.progress.made ≡ None → Served
  unmade none = (T.0, schema_is T.0 T.1, T.1, each_port w n node T.0 there k.not_sink each)
    where
      T : (T : Table) × PhysicalCase F node.node Ts T
      T = maker_gives F node.node Ts node.node.kind makes (known.facts.sound.0 n node.node in_shape).parameters

      no_rows : (p : Pipe) → Leaves w n p → rows_in_order p.got ≡ []
      no_rows p l = by p.got refl
        where
          by : (slots : List (Option (List Row))) → p.got ≡ slots → rows_in_order p.got ≡ []
          by [] q = ap rows_in_order q
          by (None ∷ slots) q = ap rows_in_order q
          by (Some rs ∷ slots) q = let a = h.gives.answers p 0 rs l (ap (λ xs. slice_get xs 0) q) in absurd (nothing_is a.1.0 (sym none ∙ a.1.1))

      never_complete : (p : Pipe) → Leaves w n p → IsComplete p → ⊥
      never_complete p l c = let never : false ≡ true = sym (ap (exhausted_rows w.options node.progress.sent) none) ∙ sym (k.given w.options node.progress) ∙ h.gives.completes p l c in cc

      each : (p : Pipe) → Leaves w n p → Extends (sent_by p) (maker_gives F node.node Ts node.node.kind makes (known.facts.sound.0 n node.node in_shape).parameters).0
      each p l =
          let T = maker_gives F node.node Ts node.node.kind makes (known.facts.sound.0 n node.node in_shape).parameters in
          record { rest = T.0.rows; begins = ap (λ rs. rs ++ T.0.rows) (no_rows p l); ends = λ c. absurd (never_complete p l c) }

  -- with one it gives its cuts
  with_table : (rows : List Row) → node.progress.made ≡ Some rows → Served
  with_table rows is =
      let all = h.made rows is in
      let T = all.1 in
      let same = all_whole (schemas_for w node) (pipes_in w n) Ts e (λ i q g. all.0 q (enters F w known.facts n i q g).0) m in
      let case = subst (λ ts. PhysicalCase F node.node ts T) (sym same) all.2 in
      (T, schema_is T case, case, each_port w n node T there k.not_sink (cuts_extend F w n node rows KeepsNone (HasGivenAll w node) known there k.own k.single gives ended T all.4 all.3))
    where
      one : (other : List Row) → node.progress.made ≡ Some other → other ≡ rows
      one other q = let two : Some other ≡ Some rows = sym q ∙ is in cc

      gives : Gives F w n (λ j x. x ≡ cut_work w.options node.node.schema rows j) KeepsNone (HasGivenAll w node)
      gives =
          record {
            answers = λ p j rs l g. let a = h.gives.answers p j rs l g in (a.0, a.1.2 ∙ ap (λ r. cut_work w.options node.node.schema r j) (one a.1.0 a.1.1), a.2);
            pieces = λ q c g. by q (h.gives.pieces q c g);
            completes = h.gives.completes;
          }
        where
          by : (q : Piece) → ((other : List Row) × (node.progress.made ≡ Some other) × (work_of q ≡ cut_work w.options node.node.schema other q.gives)) ⊎ KeepsNone q → (work_of q ≡ cut_work w.options node.node.schema rows q.gives) ⊎ KeepsNone q
          by q (inl a) = inl (a.2 ∙ ap (λ r. cut_work w.options node.node.schema r q.gives) (one a.0 a.1))
          by q (inr none) = inr none

      ended : HasGivenAll w node → IsTrue (is_exhausted w.options rows node.progress.sent)
      ended g = sym (ap (exhausted_rows w.options node.progress.sent) is) ∙ sym (k.given w.options node.progress) ∙ g

  pub made_served : Served
  made_served = by node.progress.made refl
    where
      by : (o : Option (List Row)) → node.progress.made ≡ o → Served
      by None q = unmade q
      by (Some rows) q = with_table rows q

pub made_justified : (F : Functions) (w : World) (n : ℕ) (p : PhysicalNode) → IsLawful F → Known F w → slice_get (shape_of w) n ≡ Some p → IsTrue (makes_table p.kind) → Holds F w n → Justified F p (input_schemas (shape_of w) p) (sent_to (sent_at w) p) (sent_at w n)
made_justified F w n p lawful known e makes holds =
    let x = node_of w n p e in
    let in_shape : slice_get (shape_of w) n ≡ Some x.0.node = e ∙ ap Some (sym x.2) in
    let mine : IsTrue (makes_table x.0.node.kind) = ap (λ (q : PhysicalNode). makes_table q.kind) x.2 ∙ makes in
    let own = made_of F w n x.0 x.0.node.kind mine (holds x.0 x.1).own in
    subst (λ q. Justified F q (input_schemas (shape_of w) q) (sent_to (sent_at w) q) (sent_at w n)) x.2
    (λ Ts same m. made_served F lawful w n x.0 known x.1 in_shape mine own Ts same (subst (λ ins. AllZip Extends ins Ts) (sent_to_is F w known.facts n x.0 x.1 in_shape) m))
