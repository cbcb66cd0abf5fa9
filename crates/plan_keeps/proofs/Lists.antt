-- What is in a list, and caches that are known.
use Rattle.std.proofs.Common.{◌≡◌, ◌≢◌, ℕ, zero, suc, ◌⊎◌, Bool, true, false, cond, List, [], ◌∷◌, Option, Some, None, refl, sym, ap, subst, ◌∙◌, inl, inr, arith}
use Rattle.std.specs.Prelude.{◌==◌, Contains, if◌then◌else◌}
use Rattle.std.proofs.lemmas.Option.{same_Some}
use Rattle.ps_plan.specs.Lowering.{Cached}
use Rattle.ps_meaning.proofs.Containing.{contains-first, contains-later}
use Rattle.ps_rules.specs.Slots.{Stream}
use Rattle.plan_rules.specs.Plans.{stream_of_cache}

pub in_none : {A : Type 0} (x : A) → Contains [] x → ⊥
in_none x (k, within, e) = absurd (omega arith)

pub in_cons : {A : Type 0} (x y : A) (xs : List A) → Contains (x ∷ xs) y → (x ≡ y) ⊎ Contains xs y
in_cons x y xs (zero, within, e) = inl e
in_cons x y xs (suc k, within, e) = inr (k, omega arith, e)

-- a cache of this id has a stream
pub record Known (k : ℕ) (cs : List Cached) : Type 0 where
  pub cache : Cached
  pub there : Contains cs cache
  pub id : cache.id ≡ k

pub known_in : (cs ds : List Cached) → ((c : Cached) → Contains cs c → Contains ds c) → (k : ℕ) → Known k cs → Known k ds
known_in cs ds more k h = record { cache = h.cache; there = more h.cache h.there; id = h.id }

same_number : (a b : ℕ) → (a == b) ≡ true → a ≡ b
same_number a b e = grind (arith)

itself : (a b : ℕ) → a ≡ b → (a == b) ≡ true
itself a b e = grind (arith)

-- the stream of an id is that of a cache of this id
pub stream_known : (id : ℕ) (cs : List Cached) (stream : Stream) → stream_of_cache id cs ≡ Some stream → (c : Cached) × Contains cs c × (c.id ≡ id) × ((c.from, 0) ≡ stream)
stream_known id [] stream e = cc
stream_known id (c ∷ cs) stream e = by (c.id == id) refl e (stream_known id cs stream)
  where
    by : (b : Bool) → (c.id == id) ≡ b → cond {A = Option Stream} b (Some (c.from, 0)) (stream_of_cache id cs) ≡ Some stream
        → (stream_of_cache id cs ≡ Some stream → (d : Cached) × Contains cs d × (d.id ≡ id) × ((d.from, 0) ≡ stream))
        → (d : Cached) × Contains (c ∷ cs) d × (d.id ≡ id) × ((d.from, 0) ≡ stream)
    by true q e more = (c, contains-first c cs, same_number c.id id q, same_Some (c.from, 0) stream e)
    by false q e more = let r = more e in (r.0, contains-later c r.0 cs r.1, r.2, r.3)

-- an id without a stream has no cache
pub not_known : (id : ℕ) (cs : List Cached) → stream_of_cache id cs ≡ None → (c : Cached) → Contains cs c → c.id ≡ id → ⊥
not_known id [] e c h is = in_none c h
not_known id (d ∷ cs) e c h is = by (d.id == id) refl e (in_cons d c cs h) (λ e h. not_known id cs e c h is)
  where
    by : (b : Bool) → (d.id == id) ≡ b → cond {A = Option Stream} b (Some (d.from, 0)) (stream_of_cache id cs) ≡ None → (d ≡ c) ⊎ Contains cs c → (stream_of_cache id cs ≡ None → Contains cs c → ⊥) → ⊥
    by true q e h more = cc
    by false q e (inl same) more = let one = itself d.id id (ap (λ (c : Cached). c.id) same ∙ is) in cc
    by false q e (inr h) more = more e h
