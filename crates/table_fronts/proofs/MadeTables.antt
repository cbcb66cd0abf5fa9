-- Tables of what makes a table of whole inputs: there is one over any, and each has the node's schema.
use Rattle.std.proofs.Common.{◌≡◌, Bool, true, false, List, [], refl, ap, ◌∙◌, inl}
use Rattle.std.specs.Prelude.{IsTrue, unwrap_or}
use Rattle.std.proofs.lemmas.List.Sorted.{IsPermutation-refl}
use Rattle.ps_frame.specs.Functions.{Functions, IsLawful}
use Rattle.ps_frame.specs.Tables.{Fields, Table}
use Rattle.ps_meaning.proofs.SchemaLaw.{before-schema, cut_by-schema}
use Rattle.ps_meaning.specs.Cases.{Gives, cut_by, first_table, keyed, schemas_of}
use Rattle.ps_meaning.specs.Distinct.{kept_rows, key_places}
use Rattle.ps_meaning.specs.Groups.{groups}
use Rattle.ps_meaning.specs.Orders.{IsOrder}
use Rattle.ps_meaning.specs.Schemas.{schema_or_empty}
use Rattle.ps_meaning.specs.Shape.{PhysicalCase, PhysicalKind, PhysicalNode, below_zero, in_memory_join, in_memory_map, negative_slice}
use Rattle.ps_meaning.specs.Sound.{HasFitParameters, HasSchema, IsMapStep}
use Rattle.ps_meaning.specs.Steps.{Step, distinct, exprs_of, group_by, select, slice, sort, step_cut, user}
use Rattle.ps_turns.specs.Progress.{makes_table}

own_order : {X : Type 0} (b : Bool) (xs : List X) → IsOrder b xs xs
own_order true xs = refl
own_order false xs = IsPermutation-refl xs

module _ (F : Functions) (p : PhysicalNode) (ts : List Table) where
  -- a step of a map has a table
  gives_some : (step : Step) → IsMapStep F step → (T : Table) × Gives F p.origin step ts T
  gives_some (user n) h = (_, refl)
  gives_some (select es) h = (_, refl)
  gives_some (sort o) h = (_, refl)
  gives_some (group_by o) h =
      let gs = groups p.origin (exprs_of o.aggregates) (first_table ts).schema (keyed p.origin (exprs_of o.keys) (first_table ts)).rows in
      (_, (gs, own_order o.maintain_order gs, refl))
  gives_some (distinct o) h =
      let rows = kept_rows o.keep (key_places o (first_table ts).schema) (first_table ts).rows in
      (_, (rows, own_order o.maintain_order rows, refl))
  gives_some step h = absurd h

  abbrev of_kind : PhysicalKind → PhysicalNode
  of_kind kind = record p { kind = kind }

  pub maker_gives : (kind : PhysicalKind) → IsTrue (makes_table kind) → HasFitParameters F kind → (T : Table) × PhysicalCase F (of_kind kind) ts T
  maker_gives (in_memory_map step) made fit = let T = gives_some step fit in (cut_by (step_cut step) T.0, (T.0, inl T.1, refl))
  maker_gives (in_memory_join j) made fit = (_, (_, inl refl, refl))
  maker_gives (negative_slice back count) made fit = (_, (_, inl refl, refl))
  maker_gives kind made fit = absurd (let never : false ≡ true = made in cc)

  pub maker_schema : (lawful : IsLawful F) (kind : PhysicalKind) (ss : List Fields) (T : Table) → IsTrue (makes_table kind) → schemas_of ts ≡ ss → HasSchema F kind ss p.schema → PhysicalCase F (of_kind kind) ts T → T.schema ≡ p.schema
  maker_schema lawful (in_memory_map step) ss T made e has (U, before, is) =
      ap (λ (x : Table). x.schema) is ∙ cut_by-schema (step_cut step) U ∙ before-schema F lawful p.origin step ts U before ∙ ap (schema_or_empty F step) e ∙ ap (λ s. unwrap_or s []) has
  maker_schema lawful (negative_slice back count) ss T made e has (U, before, is) =
      ap (λ (x : Table). x.schema) is ∙ before-schema F lawful p.origin (slice (below_zero back) count) ts U before ∙ ap (schema_or_empty F (slice (below_zero back) count)) e ∙ ap (λ s. unwrap_or s []) has
  maker_schema lawful (in_memory_join j) ss T made e has (U, before, is) = ap (λ (x : Table). x.schema) is
  maker_schema lawful kind ss T made e has c = absurd (let never : false ≡ true = made in cc)
