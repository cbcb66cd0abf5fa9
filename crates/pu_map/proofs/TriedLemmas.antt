-- What was lent in one result, and the same in the two results of `set_apart`.
use Rattle.std.proofs.Common.{◌≡◌, ℕ, Option, Result, Ok, Err, IsOk, IfOk, IfErr, OnErr, refl}
use Rattle.std.specs.Prelude.{IsOkAnd}
use Rattle.std.specs.Borrow.{RattleType, MutBor, sem}
use seplogic.Ra.Ura.{Ura}
use base.Logic.{ent, id⊢}
use types.Logic.{Logic}
use Rattle.pu_base.specs.declared.error.PolarsUtilsError.TheVariants as refusal
use Rattle.pu_map.specs.declared.cache.Refusal.{Refusal}
use Rattle.pu_map.specs.declared.cache.Refusal.TheVariants.{OutOfMemory, Function}
use Rattle.pu_map.specs.Cache.{CacheState, set_apart}
use Rattle.pu_map.specs.CacheLends.{lends_got, lends_tried}

module _ {R E : Type 0} where
  pub apart-value : (P : R → Type 0) (r : Result R (Refusal E)) → IfOk r P → IfOk (set_apart r) (λ made. IfOk made P)
  apart-value P (Ok x) holds = holds
  apart-value P (Err (Function e)) holds = tt
  apart-value P (Err OutOfMemory) holds = tt

  pub apart-refused : (P : E → Type 0) (r : Result R (Refusal E)) → ((e : E) → r ≡ Err (Function e) → P e) → IfOk (set_apart r) (λ made. IfErr made P)
  apart-refused P (Ok x) says = tt
  apart-refused P (Err (Function e)) says = says e refl
  apart-refused P (Err OutOfMemory) says = tt

  pub apart-found : (r : Result R (Refusal E)) → IsOk r → IsOkAnd (set_apart r) (λ made. IsOk made)
  apart-found (Ok x) is = refl
  apart-found (Err e) is = absurd cc

  pub apart-memory : (r : Result R (Refusal E)) → OnErr (set_apart r) (set_apart r ≡ Err refusal.OutOfMemory)
  apart-memory (Ok x) = tt
  apart-memory (Err (Function e)) = tt
  apart-memory (Err OutOfMemory) = refl

module _ {M : Type 1} {𝓤 : Ura M} (𝓛 : Logic 𝓤) (K V : RattleType) (c : MutBor (CacheState K.Denot V.Denot)) (place : Option ℕ) (free : ℕ) (Made : K.Denot → V.Denot → Type 0) where
  pub apart-lends : {E : Type 0} (r : Result (MutBor V.Denot) (Refusal E)) → ent 𝓤 (sem 𝓛 (lends_got K V c place free Made r)) (sem 𝓛 (lends_tried K V c place free Made (set_apart r)))
  apart-lends (Ok x) = id⊢ 𝓤 _
  apart-lends (Err (Function e)) = id⊢ 𝓤 _
  apart-lends (Err OutOfMemory) = id⊢ 𝓤 _
