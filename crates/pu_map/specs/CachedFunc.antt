-- A function with a cache of its answers.
use Rattle.std.specs.Prelude.{◌≡◌, ℕ, Bool, true, IfSome}
use Rattle.std.specs.Fn.{Mut, AlwaysReturns}
use Rattle.pu_map.specs.Cache.{slot_at}
use Rattle.pu_map.specs.declared.cached_func.FastCachedFunc.{FastCachedFunc}

-- the answer depends on the argument alone, as far as the test and clones tell arguments apart
pub record DependsOnArgument {T R : Type 0} (same : T → T → Bool) (IsClone : T → T → Type 0) (answer : T → R) : Type 0 where
  pub equal : (x y : T) → same x y ≡ true → answer x ≡ answer y
  pub cloned : (x y : T) → IsClone x y → answer y ≡ answer x

-- the function answers this from now on, and so does the cache for each of its keys
pub record Computes {T R F : Type 0} (g : Mut F (T × Unit {0}) R) (answer : T → R) (c : FastCachedFunc T R F) : Type 0 where
  pub calls : AlwaysReturns g (λ x r. r ≡ answer x.0) c.func
  pub cached : (i : ℕ) → IfSome (slot_at c.cache.slots i) (λ s. s.value ≡ answer s.key)
