-- Nodes that are added in several stages, and what they tell.
use Rattle.std.proofs.Common.{◌≡◌, ℕ, zero, suc, ◌<◌, ◌≤◌, ◌⊎◌, List, [], ◌∷◌, ◌++◌, length, refl, sym, ap, subst, ◌∙◌, inl, inr, arith, length-append}
use Rattle.std.proofs.lemmas.List.{append_assoc, append-nil}
use Rattle.std.specs.Prelude.{Contains}
use Rattle.std.specs.List.{AllByRecursion}
use Rattle.ps_frame.specs.Causes.{Cause}
use Rattle.ps_frame.specs.Functions.{Functions}
use Rattle.ps_frame.specs.Tables.{Table}
use Rattle.ps_meaning.specs.Cases.{IsCaseBrokenBy}
use Rattle.ps_meaning.specs.Meaning.{IsLargeCase}
use Rattle.ps_meaning.specs.Shape.{IsLargeAt, PhysicalMayGive, PhysicalNode, Shape}
use Rattle.ps_meaning.specs.Steps.{Step}
use Rattle.ps_meaning.proofs.Fits.{all-append}
use Rattle.ps_rules.specs.Slots.{Stream}
use Rattle.step_keeps.specs.Kept.{IsMadeFor, ShowsOnlyStep, SomeIsLarge}
use Rattle.step_keeps.proofs.Added.{given_earlier, large_earlier}
use native.Mathlib.Decide.{dec_le}
use mathlib.Core.Logic.{dite}

-- Nodes are only added: those of a call, which read each other or its inputs.
pub record Adds (at : ℕ) (before : Shape) (inputs : List Stream) (after : Shape) : Type 0 where
  pub more : Shape
  pub nodes : after ≡ before ++ more
  pub made : AllByRecursion (IsMadeFor at before inputs) more

-- a stream of one of the call's nodes, or of its inputs
abbrev pub IsFed : Shape → List Stream → Stream → Type 0
IsFed before inputs i = (length before ≤ i.0) ⊎ Contains inputs i

pub adds_none : (at : ℕ) (before : Shape) (inputs : List Stream) → Adds at before inputs before
adds_none at before inputs = record { more = []; nodes = sym (append-nil before); made = tt }

module _ (at : ℕ) (before mid : Shape) (inputs : List Stream) (first : Adds at before inputs mid) where
  longer : (n : ℕ) → length mid ≤ n → length before ≤ n
  longer n h = let l = ap length first.nodes ∙ length-append before first.more in omega arith

  pub fed_later : (others : List Stream) → ((i : Stream) → Contains others i → IsFed before inputs i) → (i : Stream) → IsFed mid others i → IsFed before inputs i
  fed_later others fed i (inl h) = inl (longer i.0 h)
  fed_later others fed i (inr h) = fed i h

  all_later : (others : List Stream) → ((i : Stream) → Contains others i → IsFed before inputs i) → (ps : Shape) → AllByRecursion (IsMadeFor at mid others) ps → AllByRecursion (IsMadeFor at before inputs) ps
  all_later others fed [] all = tt
  all_later others fed (p ∷ ps) all = (record { origin = all.0.origin; reads = λ i h. fed_later others fed i (all.0.reads i h) }, all_later others fed ps all.1)

  -- a call over streams of the first
  pub adds_then : (after : Shape) (others : List Stream) → ((i : Stream) → Contains others i → IsFed before inputs i) → Adds at mid others after → Adds at before inputs after
  adds_then after others fed second =
      record {
        more = first.more ++ second.more;
        nodes = second.nodes ∙ ap (λ (s : Shape). s ++ second.more) first.nodes ∙ append_assoc before first.more second.more;
        made = all-append (IsMadeFor at before inputs) first.more second.more first.made (all_later others fed second.more second.made);
      }

  -- one node over such streams
  pub adds_node : (p : PhysicalNode) → p.origin ≡ at → ((i : Stream) → Contains p.inputs i → IsFed before inputs i) → Adds at before inputs (mid ++ p ∷ [])
  adds_node p o fed = adds_then (mid ++ p ∷ []) p.inputs fed (record { more = p ∷ []; nodes = refl; made = (record { origin = o; reads = λ i h. inr h }, tt) })

-- the only one
pub one_fed : (before : Shape) (inputs : List Stream) (from : Stream) → IsFed before inputs from → (i : Stream) → Contains (from ∷ []) i → IsFed before inputs i
one_fed before inputs from fed i (zero, within, e) = subst (IsFed before inputs) e fed
one_fed before inputs from fed i (suc k, within, e) = absurd (omega arith)

-- each node from the first new one on shows causes of this kind alone, and is large only where something is
module _ (F : Functions) (tables : ℕ → Table) (Bad : Cause → Type 0) (Large : Type 0) where
  pub record Tells (before after : Shape) : Type 0 where
    pub causes : (n : ℕ) (U : Table) (c : Cause) → length before ≤ n → n < length after → PhysicalMayGive F after tables n U → Contains U.broken c → Bad c
    pub sizes : (n : ℕ) → length before ≤ n → n < length after → IsLargeAt F after tables n → Large

  pub tells_none : (a : Shape) → Tells a a
  tells_none a = record { causes = λ n U c low high may h. absurd (omega arith); sizes = λ n low high l. absurd (omega arith) }

  pub tells_then : (a b c more : Shape) → c ≡ b ++ more → Tells a b → Tells b c → Tells a c
  tells_then a b c more e first second =
      record {
        causes = λ n U x low high may h.
            dite (dec_le (suc n) (length b))
            (λ within. let inside : n < length b = omega arith in first.causes n U x low inside (given_earlier F b c more e tables n U inside may) h)
            (λ behind. second.causes n U x (omega arith) high may h);
        sizes = λ n low high l.
            dite (dec_le (suc n) (length b))
            (λ within. let inside : n < length b = omega arith in first.sizes n low inside (large_earlier F b c more e tables n inside l))
            (λ behind. second.sizes n (omega arith) high l);
      }

  pub tells_step : (at : ℕ) (step : Step) (ts : List Table) (before after : Shape) → ShowsOnlyStep F before after tables at step ts → ((c : Cause) → IsCaseBrokenBy F at step ts c → Bad c) → (IsLargeCase F at step ts ⊎ SomeIsLarge ts → Large) → Tells before after
  tells_step at step ts before after shows bad large = record { causes = λ n U c low high may h. bad c (shows.causes n U c low high may h); sizes = λ n low high l. large (shows.sizes n low high l) }
