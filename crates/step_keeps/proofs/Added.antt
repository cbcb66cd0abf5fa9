-- Nodes behind others leave the tables of those.
use Rattle.std.proofs.Common.{◌≡◌, ℕ, ◌<◌, ◌++◌, length, Some, sym, ap, ◌∙◌, inl, inr}
use Rattle.std.proofs.lemmas.Option.{slice_get_within}
use Rattle.std.specs.Prelude.{slice_get}
use Rattle.ps_frame.specs.Functions.{Functions}
use Rattle.ps_frame.specs.Tables.{Table}
use Rattle.ps_frame.proofs.Seams.{slice_get-before}
use Rattle.ps_meaning.specs.Shape.{IsLargeAt, IsPhysicalChoice, PhysicalMayGive, PhysicalNode, Shape}

module _ (F : Functions) (a b more : Shape) (is : b ≡ a ++ more) where
  pub stays : (n : ℕ) (p : PhysicalNode) → slice_get a n ≡ Some p → slice_get b n ≡ Some p
  stays n p e = ap (λ (s : Shape). slice_get s n) is ∙ slice_get-before a more n (slice_get_within a n p e) ∙ e

  pub stood : (n : ℕ) (p : PhysicalNode) → n < length a → slice_get b n ≡ Some p → slice_get a n ≡ Some p
  stood n p h e = sym (slice_get-before a more n h) ∙ sym (ap (λ (s : Shape). slice_get s n) is) ∙ e

  module _ (tables : ℕ → Table) where
    pub restricted : IsPhysicalChoice F b tables → IsPhysicalChoice F a tables
    restricted chosen n p e = chosen n p (stays n p e)

    pub given_earlier : (n : ℕ) (U : Table) → n < length a → PhysicalMayGive F b tables n U → PhysicalMayGive F a tables n U
    given_earlier n U h (inl e) = inl e
    given_earlier n U h (inr (p, there, g)) = inr (p, stood n p h there, g)

    pub large_earlier : (n : ℕ) → n < length a → IsLargeAt F b tables n → IsLargeAt F a tables n
    large_earlier n h (inl (U, m, large)) = inl (U, given_earlier n U h m, large)
    large_earlier n h (inr (p, there, l)) = inr (p, stood n p h there, l)
