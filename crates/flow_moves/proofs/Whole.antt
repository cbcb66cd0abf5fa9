-- That a world has no move, from what was found of its nodes.
use Rattle.std.proofs.Common.{◌≡◌, ◌⊎◌, ℕ, ◌<◌, ◌≤◌, Bool, true, false, inl, inr, length, Option, None, Some, refl, sym, ◌∙◌, arith}
use Rattle.std.specs.Prelude.{IfNone, IfSome, IsTrue, is_some}
use Rattle.std.specs.List.{AllByRecursion}
use Rattle.std.proofs.lemmas.Bool.{cases_lt}
use Rattle.std.proofs.lemmas.Option.{slice_get_within}
use Rattle.flow_moves.proofs.Moves.{no_move}
use Rattle.flow_moves.specs.Moves.{HasNoMove}
use Rattle.ps_flow.specs.Standing.{EndsAs}
use Rattle.ps_frame.specs.Functions.{Functions}
use Rattle.ps_frame.specs.declared.refusal.PolarsError.{PolarsError}
use Rattle.ps_meaning.specs.Errors.{cause_error}
use Rattle.ps_world.specs.Step.{IsAtWork, Steps}
use Rattle.ps_world.specs.World.{Ending, Node, Record, World, claimed, closed, ended, faulty, finished, handed_in, opened, pulled, running}
use Rattle.world_records.specs.Shown.{IsEnabled, move_made}
use Rattle.world_records.specs.declared.records.Move.{Move}

module _ (F : Functions) (w : World) where
  -- there is no node behind the last one
  pub beyond : (n : ℕ) → length w.nodes ≤ n → HasNoMove F w n
  beyond n over = no_move F w n (λ i k worker v s. none s.0 s.1) (λ i k v s. none s.0 s.1) (λ v s. none s.0 s.1)
    where
      none : (x : Node) → IsAtWork w n x → ⊥
      none x at = let within = slice_get_within w.nodes n x at.0 in absurd (omega (arith, within, over))

  pub none_left : IsTrue w.is_open → (AllByRecursion (λ (x : Node). IsTrue x.in_phase → IsTrue x.is_closed) w.nodes → ⊥) → ((n : ℕ) → HasNoMove F w n) → (m : Move) → IsEnabled F w m → ⊥
  none_left open_phase some none m e = by e.0 e.1 e.2 e.3
    where
      by : (r : Record) (v : World) → move_made r ≡ Some m → Steps F w r v → ⊥
      by (opened k) v made s = absurd (let no_way : true ≡ false = sym open_phase ∙ s.0 in cc)
      by (claimed n i k worker) v made s = none n (claimed n i k worker) v s refl
      by (pulled n i k) v made s = none n (pulled n i k) v s refl
      by (closed n) v made s = none n (closed n) v s refl
      by (handed_in n i k worker a) v made s = absurd (let no_way : None ≡ Some m = made in cc)
      by (ended k) v made s = some s.3

  -- only a running world has a step
  pub runs_where : (m : Move) → IsEnabled F w m → w.ending ≡ running
  runs_where m e = by e.0 e.1 e.3
    where
      by : (r : Record) (v : World) → Steps F w r v → w.ending ≡ running
      by (opened k) v s = s.1
      by (claimed n i k worker) v s = s.1.2
      by (pulled n i k) v s = s.1.2
      by (closed n) v s = s.1.2
      by (handed_in n i k worker a) v s = s.6
      by (ended k) v s = s.1

pub not_both : (e : Ending) → e ≡ finished → e ≡ running → ⊥
not_both e is runs = absurd (let no_way : finished ≡ running = sym is ∙ runs in cc)

-- a world without a fault that isn't finished goes on
pub goes_on : (e : Ending) (f : Bool) (fault : Option PolarsError) → EndsAs e f fault → fault ≡ None → (e ≡ finished → ⊥) → e ≡ running
goes_on running f fault ends none other = refl
goes_on finished f fault ends none other = absurd (other refl)
goes_on (faulty c) f fault ends none other = absurd (let no_way : None ≡ Some (cause_error c) = sym none ∙ ends.1 in cc)

-- found for those from one place on, and for those before it
pub from_both : (F : Functions) (w : World) (start count : ℕ) → length w.nodes ≤ count
    → ((n : ℕ) → start ≤ n → n < count → HasNoMove F w n) → ((n : ℕ) → n < start → HasNoMove F w n) → (n : ℕ) → HasNoMove F w n
from_both F w start count all later before n = by (cases_lt n start)
  where
    by : (n < start) ⊎ (start ≤ n) → HasNoMove F w n
    by (inl h) = before n h
    by (inr h) = within (cases_lt n count)
      where
        within : (n < count) ⊎ (count ≤ n) → HasNoMove F w n
        within (inl k) = later n h k
        within (inr k) = beyond F w n (omega (arith, all, k))

pub some_fault : {A : Type 0} (o : Option A) → is_some o ≡ true → o ≡ None → ⊥
some_fault None e none = absurd (let no_way : false ≡ true = e in cc)
some_fault (Some x) e none = absurd (let no_way : Some x ≡ None = none in cc)

pub no_fault : {A : Type 0} (o : Option A) → is_some o ≡ false → o ≡ None
no_fault None e = refl
no_fault (Some x) e = absurd (let no_way : true ≡ false = e in cc)

-- what is said of an answer where there is one, or none
pub if_none : {A : Type 0} (R : Type 0) (o : Option A) → o ≡ None → IfSome o (λ x. R)
if_none R None e = tt
if_none R (Some x) e = absurd (let no_way : Some x ≡ None = e in cc)

pub some_on : {A : Type 0} {P Q : A → Type 0} (o : Option A) → ((x : A) → P x → Q x) → IfSome o P → IfSome o Q
some_on None f p = tt
some_on (Some x) f p = f x p

pub none_on : {A : Type 0} {P Q : Type 0} (o : Option A) → (P → Q) → IfNone o P → IfNone o Q
none_on None f p = f p
none_on (Some x) f p = tt
