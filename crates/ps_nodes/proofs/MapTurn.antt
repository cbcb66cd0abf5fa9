-- A map that begins to give: it makes its table, unless that is filled in from outside.
use Rattle.std.proofs.Common.{◌≡◌, Bool, true, false, ◌&&◌, List, [], ◌∷◌, ◌++◌, Some, ap, ap₂, append-nil, append_assoc, inl, inr, not, refl, subst, sym, ◌∙◌}
use Rattle.bare_nodes.specs.Bare.{bare_node}
use Rattle.bare_nodes.specs.Uncalled.{no_functions}
use Rattle.ps_frame.specs.Tables.{Fields, Frame, Row, whole}
use Rattle.ps_frame.specs.declared.refusal.PolarsError.TheVariants as error
use Rattle.ps_meaning.specs.Cases.{rows_table}
use Rattle.ps_meaning.specs.Schemas.{output_schema}
use Rattle.ps_meaning.specs.Shape.{in_memory_map}
use Rattle.ps_meaning.specs.Steps.{Step, user}
use Rattle.ready_steps.specs.Ready.{IsReady}
use Rattle.plain_nodes.proofs.Turning.{begins, goes_on}
use Rattle.ps_nodes.specs.Fit.{CanMap}
use Rattle.ps_options.specs.declared.options.Options.{Options}
use Rattle.ps_owned_maps.specs.Owned.{is_function}
use Rattle.ps_ports.specs.Ports.{Sides}
use Rattle.ps_turns.specs.Progress.{Progress, Stage, is_giving, is_user_step}
use Rattle.ps_turns.specs.Results.{IsMade}
use Rattle.ps_turns.specs.Tables.{whole_tables}
use Rattle.ps_turns.specs.Updates.{Turns, stage_after, starts_giving, stored_tables}
use Rattle.ps_walks.specs.Fit.{IsFit}
use Rattle.turn_laws.proofs.Turned.{both}

pub same_function : (step : Step) → is_function step ≡ is_user_step step
same_function (user n) = refl
same_function step = refl

-- a store of one morsel has its rows
pub one_table : (f : Frame) → whole_tables (f.schema ∷ []) ((f.rows ++ []) ∷ []) ≡ whole f ∷ []
one_table f = ap (λ rs. rows_table f.schema rs ∷ []) (append-nil f.rows)

module _ (o : Options) (step : Step) (ss : List Fields) (given : Sides) (a : Progress) (s : Stage) (is : s ≡ stage_after o (in_memory_map step) a given) where
  abbrev comes : Bool
  comes = not (is_giving a.stage) && is_giving s

  pub map_goes_on : (comes && not (is_function step)) ≡ false → Turns no_functions o (bare_node (in_memory_map step) []) ss given a (record a { stage = s })
  map_goes_on e = by comes refl (is_function step) refl
    where
      by : (b : Bool) → comes ≡ b → (u : Bool) → is_function step ≡ u → Turns no_functions o (bare_node (in_memory_map step) []) ss given a (record a { stage = s })
      by false none u fn = goes_on no_functions o (bare_node (in_memory_map step) []) ss given a s is none
      by true starts true fn = begins no_functions o (bare_node (in_memory_map step) []) ss given a s is starts a (inl (sym (same_function step) ∙ fn, refl))
      by true starts false fn = absurd (let no : true ≡ false = sym (ap₂ (λ b u. b && not u) starts fn) ∙ e in cc)

  pub map_makes : (comes && not (is_function step)) ≡ true → (rs : List Row) → IsMade no_functions (bare_node (in_memory_map step) []) (whole_tables ss (stored_tables a)) rs
      → Turns no_functions o (bare_node (in_memory_map step) []) ss given a (record a { stage = s; made = Some rs })
  map_makes e rs made =
      let two = both comes (not (is_function step)) e in
      begins no_functions o (bare_node (in_memory_map step) []) ss given a s is two.0 (record a { made = Some rs }) (inr (ap not (sym (same_function step)) ∙ two.1, rs, made, refl))

  pub map_starts : (comes && not (is_function step)) ≡ true → (starts_giving o (in_memory_map step) a given && not (is_user_step step)) ≡ true
  map_starts e =
      ap (λ t. (not (is_giving a.stage) && is_giving t) && not (is_user_step step)) (sym is)
      ∙ ap (λ u. comes && not u) (sym (same_function step)) ∙ e

-- a step that is fit for a table is fit for every table of its schema
pub ready_over : (step : Step) (f g : Frame) (s : Fields) → f.schema ≡ g.schema → IsReady step (f ∷ []) s → IsReady step (g ∷ []) s
ready_over step f g s same r = (
  r.0,
  record {
    fit = subst (λ (x : Fields). IsFit r.0 step (x ∷ [])) same r.1.fit;
    schema = subst (λ (x : Fields). output_schema r.0 step (x ∷ []) ≡ Some s) same r.1.schema;
  },
)

pub can_map : (step : Step) (f g : Frame) → f.schema ≡ g.schema → is_function step ≡ false → CanMap step f.schema → (s : Fields) × IsReady step (g ∷ []) s
can_map step f g same alone (inl fn) = absurd (let no : true ≡ false = sym fn ∙ alone in cc)
can_map step f g same alone (inr (s, r)) = (s, ready_over step (record { schema = f.schema; rows = [] }) g s same r)

-- rows that were stored one behind the other
pub stored_behind : (xs ys : List Row) → ((xs ++ ys) ++ []) ∷ [] ≡ (xs ++ (ys ++ [])) ∷ []
stored_behind xs ys = ap (λ (rs : List Row). rs ∷ []) (append_assoc xs ys [])
