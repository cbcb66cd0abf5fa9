-- Nodes mean what they meant before others came behind them.
use Rattle.std.proofs.Common.{◌≡◌, ℕ, zero, suc, ◌<◌, List, [], ◌∷◌, ◌++◌, length, sym, ap, subst, ◌∙◌, arith, length-append}
use Rattle.std.specs.Prelude.{Contains}
use Rattle.std.specs.List.{AllByRecursion}
use Rattle.ps_frame.specs.Functions.{Functions}
use Rattle.ps_frame.specs.Tables.{Table}
use Rattle.ps_meaning.specs.Shape.{Feeds, IsPhysicalChoice, PhysicalMeans, Shape, itself, through}
use Rattle.ps_meaning.specs.Sound.{IsSoundButForReaders}
use Rattle.ps_rules.specs.Slots.{Stream}
use Rattle.plan_calls.proofs.Further.{AreFit, further, sound_fit}
use Rattle.plan_calls.specs.Calls.{MeansAsBefore}
use Rattle.plan_keeps.proofs.Lists.{in_none}
use Rattle.step_keeps.proofs.Added.{given_earlier, large_earlier, restricted, stood}

each_of : {A : Type 0} (P : A → Type 0) (xs : List A) (x : A) → AllByRecursion P xs → Contains xs x → P x
each_of P [] x all h = absurd (in_none x h)
each_of P (y ∷ xs) x all (zero, within, e) = subst P e all.0
each_of P (y ∷ xs) x all (suc k, within, e) = each_of P xs x all.1 (k, omega arith, e)

module _ (F : Functions) (a b more : Shape) (is : b ≡ a ++ more) (sound : IsSoundButForReaders F b) where
  -- what feeds an old node is an old one
  fed_before : (k n : ℕ) → Feeds F b k n → n < length a → (k < length a) × Feeds F a k n
  fed_before k n itself low = (low, itself)
  fed_before k n (through {m = j} p port there reads feeds) low =
      let sooner : j < n = each_of (λ (i : Stream). i.0 < n) p.inputs (j, port) (sound n p there).earlier reads in
      let r = fed_before k j feeds (omega arith) in
      (r.0, through p port (stood F a b more is n p low there) reads r.1)

  pub means_as_before : (n : ℕ) → n < length a → MeansAsBefore F a b n
  means_as_before n low =
      record {
        tables = λ T. ((λ (tables, chosen, within, e). (tables, restricted F a b more is tables chosen, low, e)), λ (tables, chosen, within, e). on T tables chosen e);
        causes = λ c (tables, chosen, within, U, may, h). (tables, restricted F a b more is tables chosen, low, U, given_earlier F a b more is tables n U low may, h);
        sizes = λ (tables, chosen, k, within, feeds, large). let r = fed_before k n feeds low in (tables, restricted F a b more is tables chosen, k, r.0, r.1, large_earlier F a b more is tables k r.0 large);
      }
    where
      on : (T : Table) (tables : ℕ → Table) → IsPhysicalChoice F a tables → tables n ≡ T → PhysicalMeans F b n T
      on T tables chosen e =
          let r = further F more a tables (subst (AreFit F) is (sound_fit F b sound)) chosen in
          let long = ap length is ∙ length-append a more in
          (r.choice, subst (λ (x : Shape). IsPhysicalChoice F x r.choice) (sym is) r.chosen, omega arith, r.same n low ∙ e)
