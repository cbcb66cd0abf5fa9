-- What a node may do with a next morsel, by its kind: it pulls it or claims it. Where it has none, all that it may claim is at its first input.
use Rattle.std.proofs.Common.{◌≡◌, ℕ, zero, suc, ◌<◌, Bool, true, false, cond, List, [], ◌∷◌, ◌⊎◌, Option, None, Some, refl, sym, ap, ◌∙◌, inl, inr, arith}
use Rattle.std.specs.Prelude.{Contains, get_or, is_some, nat_eq, not, option_map}
use Rattle.ps_frame.specs.Tables.{Fields, Row}
use Rattle.ps_meaning.specs.Shape.{PhysicalKind, PhysicalNode, equi_join, group_by_node, in_memory_join, in_memory_map, in_memory_sink, in_memory_source, independent_select, multiplexer, negative_slice, reduce, zip_node}
use Rattle.ps_meaning.specs.Sound.{HasInputs}
use Rattle.ps_meaning.specs.Steps.{JoinStep}
use Rattle.ps_options.specs.declared.options.Options.{Options}
use Rattle.ps_turns.specs.Claims.{Claim, claim_by, of_join, of_left, of_morsel, of_parts, of_reduce, passes, with_slot}
use Rattle.ps_turns.specs.Heads.{Head}
use Rattle.ps_turns.specs.Progress.{Progress, Stage, giving, is_taking, spent, taking}
use Rattle.ps_turns.specs.Pulls.{pulls, wants}
use Rattle.ps_turns.specs.Tasks.{keeps}
use Rattle.ps_world.specs.Claims.{next_morsel}
use Rattle.ps_world.specs.World.{Pipe, has_next, morsel_at}
use Rattle.world_facts.proofs.CutOff.{both_true}
use Rattle.world_facts.proofs.Wired.{apart}
use Rattle.world_laws.proofs.InOrder.{contains_cases, contains_first, contains_later, none_in_nil}
use Rattle.world_moves.proofs.Takers.{is_zip, takes_input}

-- NEXT MORSELS
first_some : (o : Option (List Row)) (k : ℕ) → is_some o ≡ true → (m : ℕ × List Row) × (option_map {U = ℕ × List Row} (λ rs. (k, rs)) o ≡ Some m)
first_some None k e = absurd (let no : false ≡ true = e in cc)
first_some (Some rs) k e = ((k, rs), refl)

pub some_morsel : (o : Option (List Row)) → is_some o ≡ true → (rs : List Row) × (o ≡ Some rs)
some_morsel None e = absurd (let no : false ≡ true = e in cc)
some_morsel (Some rs) e = (rs, refl)

pub next_some : (ps : List Pipe) (p : Pipe) → Contains ps p → has_next p ≡ true → (m : ℕ × List Row) × (next_morsel ps ≡ Some m)
next_some [] p c h = absurd (none_in_nil p c)
next_some (x ∷ xs) p c h = by (has_next x) refl (contains_cases x p xs c) (λ later. next_some xs p later h)
  where
    by : (b : Bool) → has_next x ≡ b → (x ≡ p) ⊎ Contains xs p → (Contains xs p → (m : ℕ × List Row) × (next_morsel xs ≡ Some m)) → (m : ℕ × List Row) × (next_morsel (x ∷ xs) ≡ Some m)
    by true e place rest =
        let f = first_some (morsel_at x.next x.got) x.next (both_true (not x.is_dropped) (is_some (morsel_at x.next x.got)) e).1 in
        (f.0, ap (λ b. cond b (option_map {U = ℕ × List Row} (λ rs. (x.next, rs)) (morsel_at x.next x.got)) (next_morsel xs)) e ∙ f.1)
    by false e (inl same) rest = absurd (let no : false ≡ true = sym e ∙ ap has_next same ∙ h in cc)
    by false e (inr later) rest = let f = rest later in (f.0, ap (λ b. cond b (option_map {U = ℕ × List Row} (λ rs. (x.next, rs)) (morsel_at x.next x.got)) (next_morsel xs)) e ∙ f.1)

pub next_none : (ps : List Pipe) → ((p : Pipe) → Contains ps p → has_next p ≡ false) → next_morsel ps ≡ None
next_none [] h = refl
next_none (x ∷ xs) h =
    ap (λ b. cond b (option_map {U = ℕ × List Row} (λ rs. (x.next, rs)) (morsel_at x.next x.got)) (next_morsel xs)) (h x (contains_first x xs)) ∙ next_none xs (λ p c. h p (contains_later x p xs c))

-- CLAIMS
first_only : (i : ℕ) (x : Option Claim) → cond (nat_eq (suc i) 0) x None ≡ None
first_only i x = ap (λ b. cond b x None) (apart (suc i) 0 (λ e. absurd (omega arith)))

no_row : (o : Options) (p : PhysicalNode) (ss : List Fields) (a : Progress) (i : ℕ) (st : Stage) → of_reduce o p ss st (suc i) a None ≡ None
no_row o p ss a i taking = refl
no_row o p ss a i giving = first_only i _
no_row o p ss a i spent = refl

no_part : (o : Options) (p : PhysicalNode) (ss : List Fields) (a : Progress) (i : ℕ) (st : Stage) → of_parts o p ss st (suc i) a None ≡ None
no_part o p ss a i taking = refl
no_part o p ss a i giving = first_only i _
no_part o p ss a i spent = refl

no_join : (o : Options) (p : PhysicalNode) (ss : List Fields) (a : Progress) (j : JoinStep) (d : Bool) (i : ℕ) (st : Stage) → of_join o p ss j st d (suc i) a None ≡ None
no_join o p ss a j d i taking = refl
no_join o p ss a j d i giving = refl
no_join o p ss a j d i spent = refl

module _ (o : Options) (p : PhysicalNode) (ss : List Fields) (a : Progress) (hs : List Head) (ds : List Bool) where
  pub no_more : (i : ℕ) (kind : PhysicalKind) → claim_by o p ss kind a hs ds (suc i) None ≡ None
  no_more i (in_memory_source t) = first_only i _
  no_more i (independent_select es) = first_only i _
  no_more i (in_memory_map step) = first_only i _
  no_more i (in_memory_join j) = first_only i _
  no_more i (negative_slice back n) = first_only i _
  no_more i (zip_node extend) = first_only i _
  no_more i (reduce es) = no_row o p ss a i a.stage
  no_more i (group_by_node keys aggregates) = no_part o p ss a i a.stage
  no_more i (equi_join j) = no_join o p ss a j _ i a.stage
  no_more i in_memory_sink = refl
  no_more i multiplexer = refl
  no_more i kind = refl

  -- a morsel that is kept
  abbrev kept_claim : ℕ → ℕ × List Row → Claim
  kept_claim i m = record (of_morsel o p ss (record a { taken = with_slot i a.taken }) (keeps p) m.0 m.1) { schemas = get_or ss i [] ∷ [] }

  row_taken : (i : ℕ) (m : ℕ × List Row) (st : Stage) → is_taking st ≡ true → (c : Claim) × (of_reduce o p ss st i a (Some m) ≡ Some c)
  row_taken i m taking e = (kept_claim i m, refl)
  row_taken i m giving e = absurd (let no : false ≡ true = e in cc)
  row_taken i m spent e = absurd (let no : false ≡ true = e in cc)

  part_taken : (i : ℕ) (m : ℕ × List Row) (st : Stage) → is_taking st ≡ true → (c : Claim) × (of_parts o p ss st i a (Some m) ≡ Some c)
  part_taken i m taking e = (kept_claim i m, refl)
  part_taken i m giving e = absurd (let no : false ≡ true = e in cc)
  part_taken i m spent e = absurd (let no : false ≡ true = e in cc)

  join_taken : (j : JoinStep) (d : Bool) (i : ℕ) (m : ℕ × List Row) (st : Stage) → takes_input (equi_join j) i st ≡ true → (c : Claim) × (of_join o p ss j st d i a (Some m) ≡ Some c)
  join_taken j d zero m giving e = (of_left o p ss j a m.0 m.1, refl)
  join_taken j d zero m taking e = absurd (let no : false ≡ true = e in cc)
  join_taken j d zero m spent e = absurd (let no : false ≡ true = e in cc)
  join_taken j d (suc i) m taking e = (kept_claim (suc i) m, refl)
  join_taken j d (suc i) m giving e = absurd (let no : false ≡ true = e in cc)
  join_taken j d (suc i) m spent e = absurd (let no : false ≡ true = e in cc)

  pub takes : (i k : ℕ) (m : ℕ × List Row) (kind : PhysicalKind) → HasInputs kind k → i < k → takes_input kind i a.stage ≡ true → pulls kind ≡ false → (c : Claim) × (claim_by o p ss kind a hs ds i (Some m) ≡ Some c)
  takes i k m (in_memory_source t) ins h t' e = absurd (omega (arith, ins, h))
  takes i k m (independent_select es) ins h t e = absurd (omega (arith, ins, h))
  takes i k m (in_memory_map step) ins h t e = absurd (let no : true ≡ false = e in cc)
  takes i k m (in_memory_join j) ins h t e = absurd (let no : true ≡ false = e in cc)
  takes i k m (negative_slice back n) ins h t e = absurd (let no : true ≡ false = e in cc)
  takes i k m (zip_node extend) ins h t e = absurd (let no : true ≡ false = e in cc)
  takes i k m in_memory_sink ins h t e = absurd (let no : true ≡ false = e in cc)
  takes i k m multiplexer ins h t e = absurd (let no : true ≡ false = e in cc)
  takes i k m (reduce es) ins h t e = row_taken i m a.stage t
  takes i k m (group_by_node keys aggregates) ins h t e = part_taken i m a.stage t
  takes i k m (equi_join j) ins h t e = join_taken j _ i m a.stage t
  takes i k m kind ins h t e = (passes o p ss kind a m.0 m.1, refl)

-- but for a zip, what pulls wants what it has
pub wants_plain : (kind : PhysicalKind) (hs : List Head) (cs : List Bool) (i : ℕ) → is_zip kind ≡ false → wants kind hs cs i ≡ pulls kind
wants_plain (zip_node extend) hs cs i e = absurd (let no : true ≡ false = e in cc)
wants_plain kind hs cs i e = refl

pub zip_kind : (kind : PhysicalKind) → is_zip kind ≡ true → (extend : Bool) × (kind ≡ zip_node extend)
zip_kind (zip_node extend) e = (extend, refl)
zip_kind kind e = absurd (let no : false ≡ true = e in cc)
