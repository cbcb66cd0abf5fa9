-- Cells that are values alone.
use Rattle.std.proofs.Common.{◌≡◌, ℕ, zero, suc, List, [], ◌∷◌, ◌++◌, get_or, refl, sym, ◌∙◌, ap, append-nil}
use Rattle.std.specs.Prelude.{map, slice_get, None, Some}
use Rattle.std.proofs.lemmas.Option.{same_Some}
use Rattle.ps_expr_eval.specs.Held.{first_bad, held_values}
use Rattle.ps_frame.specs.declared.value.Cell.{Cell as Held}
use Rattle.ps_frame.specs.declared.value.Cell.TheVariants as held
use Rattle.ps_frame.specs.declared.value.DataFault.{DataFault}
use Rattle.ps_frame.specs.declared.value.Value.{Value}
use Rattle.ps_frame.specs.declared.value.Value.TheVariants as val

pub no_bad : (vs : List Value) → first_bad (map held.Val vs) ≡ None
no_bad [] = refl
no_bad (v ∷ vs) = no_bad vs

pub all_values : (vs : List Value) → held_values (map held.Val vs) ≡ vs
all_values [] = refl
all_values (v ∷ vs) = ap (λ ws. v ∷ ws) (all_values vs)

-- one more cell
pub held_values_push : (hs : List Held) (h : Held) → held_values (hs ++ h ∷ []) ≡ held_values hs ++ held_values (h ∷ [])
held_values_push [] h = refl
held_values_push (held.Val v ∷ hs) h = ap (λ vs. v ∷ vs) (held_values_push hs h)
held_values_push (held.Bad f ∷ hs) h = held_values_push hs h

pub skip-bad : (hs : List Held) (h : Held) (f : DataFault) (vs : List Value) → vs ≡ held_values hs → h ≡ held.Bad f → vs ≡ held_values (hs ++ h ∷ [])
skip-bad hs h f vs e is = e ∙ sym (append-nil (held_values hs)) ∙ sym (held_values_push hs h ∙ ap (λ x. held_values hs ++ held_values (x ∷ [])) is)

-- the cell at the place of a value
pub cell_of_value : (vs : List Value) (i : ℕ) (v : Value) → slice_get vs i ≡ Some v → get_or (map held.Val vs) i (held.Val val.Null) ≡ held.Val v
cell_of_value [] i v e = cc
cell_of_value (w ∷ vs) zero v e = ap held.Val (same_Some w v e)
cell_of_value (w ∷ vs) (suc i) v e = cell_of_value vs i v e
