-- Streams of which each stands once.
use Rattle.std.proofs.Common.{◌≡◌, ℕ, zero, suc, ◌+◌, ◌<◌, Bool, true, false, cond, List, [], ◌∷◌, ◌++◌, refl, sym, ap, subst, ◌∙◌, arith, ◌≤◌, length, take, get_or, add-one, take_all}
use Rattle.std.specs.Prelude.{IsSome, is_some, None, Option, Some, ◌==◌, ◌&&◌, ◌||◌}
use Rattle.std.specs.BTreeMap.{BTreeMap, IsUnchanged, Updates, get, is_at}
use Rattle.std.specs.Map.{lookup}
use Rattle.std.specs.List.{list_any}
use Rattle.std.specs.Ordering.{nat_cmp}
use Rattle.std.proofs.lemmas.Bool.{eqb-true}
use Rattle.ps_phys.specs.Shown.{stream_of, streams_of}
use Rattle.ps_phys.specs.declared.phys.PhysStream.{PhysStream}
use Rattle.ps_rules.specs.Slots.{Stream, added, all_added, same_stream}
use Rattle.lowering_parts.specs.Places.{HavePlaces}

abbrev pub among : PhysStream → List PhysStream → Bool
among t ss = list_any (λ (s : PhysStream). same_stream (stream_of t) (stream_of s)) ss

-- one more stream, whose node has a place
pub more_places : (ss : List PhysStream) (s : PhysStream) (old new : BTreeMap ℕ ℕ) → HavePlaces ss old → ((q : ℕ) → IsSome (get nat_cmp old q) → IsSome (get nat_cmp new q))
    → IsSome (get nat_cmp new s.node.0) → HavePlaces (ss ++ s ∷ []) new
more_places [] s old new h keeps own = (own, tt)
more_places (x ∷ ss) s old new h keeps own = (keeps x.node.0 h.0, more_places ss s old new h.1 keeps own)

kept_some : (b : Bool) (v : ℕ) (old new : Option ℕ) → new ≡ cond b (Some v) old → IsSome old → IsSome new
kept_some true v old new e h = subst IsSome (sym e) refl
kept_some false v old new e h = subst IsSome (sym e) h

-- the node of one more stream gets a place, or has one
pub placed : (before list now : List PhysStream) (s : PhysStream) (old new places : BTreeMap ℕ ℕ) (k v : ℕ) → k ≡ s.node.0 → Updates nat_cmp old new k (Some v) → HavePlaces before old
    → list ≡ before → now ≡ list ++ s ∷ [] → places ≡ new → HavePlaces now places
placed before list now s old new places k v n u h e w p =
    let P : List PhysStream → Type 0 = λ ss. HavePlaces ss places in
    let Q : BTreeMap ℕ ℕ → Type 0 = λ m. HavePlaces (before ++ s ∷ []) m in
    let own : IsSome (get nat_cmp new s.node.0) = let R : ℕ → Type 0 = λ q. IsSome (get nat_cmp new q) in subst R n (subst IsSome (sym u.1) refl) in
    subst P (sym (w ∙ ap (λ ss. ss ++ s ∷ []) e)) (subst Q (sym p) (more_places before s old new h (λ q. kept_some (is_at (nat_cmp k) q) v (get nat_cmp old q) (get nat_cmp new q) (u.0 q)) own))

pub placed_already : (before list now : List PhysStream) (s : PhysStream) (old places : BTreeMap ℕ ℕ) (k : ℕ) → k ≡ s.node.0 → is_some (get nat_cmp old k) ≡ true → HavePlaces before old
    → list ≡ before → now ≡ list ++ s ∷ [] → places ≡ old → HavePlaces now places
placed_already before list now s old places k n there h e w p =
    let P : List PhysStream → Type 0 = λ ss. HavePlaces ss places in
    let Q : BTreeMap ℕ ℕ → Type 0 = λ m. HavePlaces (before ++ s ∷ []) m in
    let own : IsSome (get nat_cmp old s.node.0) = let R : ℕ → Type 0 = λ q. IsSome (get nat_cmp old q) in subst R n there in
    subst P (sym (w ∙ ap (λ ss. ss ++ s ∷ []) e)) (subst Q (sym p) (more_places before s old old h (λ q g. g) own))

-- where a place can't be added, each has what it had
pub places_stay : (before list : List PhysStream) (old new : BTreeMap ℕ ℕ) → HavePlaces before old → list ≡ before → IsUnchanged old new → HavePlaces list new
places_stay before list old new h e w =
    let P : List PhysStream → Type 0 = λ ss. HavePlaces ss new in
    subst P (sym e) (kept before h)
  where
    kept : (ss : List PhysStream) → HavePlaces ss old → HavePlaces ss new
    kept [] h = tt
    kept (s ∷ ss) h = (subst IsSome (ap (λ es. lookup (is_at (nat_cmp s.node.0)) es) (sym w)) h.0, kept ss h.1)

no_place : (o : Option ℕ) → o ≡ None → IsSome o → ⊥
no_place None e h = cc
no_place (Some k) e h = cc

-- a stream whose node has no place isn't among them
pub none_there : (t : PhysStream) (ss : List PhysStream) (places : BTreeMap ℕ ℕ) → HavePlaces ss places → get nat_cmp places t.node.0 ≡ None → among t ss ≡ false
none_there t [] places h e = refl
none_there t (s ∷ ss) places h e = by (t.node.0 == s.node.0) refl (none_there t ss places h.1 e)
  where
    by : (b : Bool) → (t.node.0 == s.node.0) ≡ b → among t ss ≡ false → among t (s ∷ ss) ≡ false
    by true q rest = let P : ℕ → Type 0 = λ n. IsSome (get nat_cmp places n) in absurd (no_place _ e (subst P (sym (eqb-true t.node.0 s.node.0 q)) h.0))
    by false q rest = ap (λ b. (b && (t.port == s.port)) || among t ss) q ∙ rest

pub among_streams : (t : PhysStream) (ss : List PhysStream) → among t ss ≡ list_any (same_stream (stream_of t)) (streams_of ss)
among_streams t [] = refl
among_streams t (s ∷ ss) = ap (λ b. same_stream (stream_of t) (stream_of s) || b) (among_streams t ss)

pub streams_last : (ss : List PhysStream) (t : PhysStream) → streams_of (ss ++ t ∷ []) ≡ streams_of ss ++ stream_of t ∷ []
streams_last [] t = refl
streams_last (s ∷ ss) t = ap (λ more. stream_of s ∷ more) (streams_last ss t)

-- a stream that is there is not added, and another one is
pub added_none : (t : PhysStream) (ss : List PhysStream) → true ≡ among t ss → streams_of ss ≡ added (stream_of t) (streams_of ss)
added_none t ss e = sym (ap (λ b. cond b (streams_of ss) (streams_of ss ++ stream_of t ∷ [])) (sym (among_streams t ss) ∙ sym e))

pub added_one : (t : PhysStream) (ss after : List PhysStream) → false ≡ among t ss → after ≡ ss ++ t ∷ [] → streams_of after ≡ added (stream_of t) (streams_of ss)
added_one t ss after e w = ap streams_of w ∙ streams_last ss t ∙ sym (ap (λ b. cond b (streams_of ss) (streams_of ss ++ stream_of t ∷ [])) (sym (among_streams t ss) ∙ sym e))

-- one more of a front is added
pub all_added_more : (ts : List PhysStream) (i : ℕ) (d : PhysStream) (ss : List Stream) → i < length ts → all_added (streams_of (take (i + 1) ts)) ss ≡ added (stream_of (get_or ts i d)) (all_added (streams_of (take i ts)) ss)
all_added_more ts i d ss lt = rw add-one (more ts i ss lt)
  where
    more : (ts : List PhysStream) (i : ℕ) (ss : List Stream) → i < length ts → all_added (streams_of (take (suc i) ts)) ss ≡ added (stream_of (get_or ts i d)) (all_added (streams_of (take i ts)) ss)
    more [] i ss lt = absurd (omega arith)
    more (x ∷ ts) zero ss lt = refl
    more (x ∷ ts) (suc i) ss lt = more ts i (added (stream_of x) ss) (omega arith)

pub added_next : (ts : List PhysStream) (i : ℕ) (d : PhysStream) (start now next : List Stream) → i < length ts → next ≡ added (stream_of (get_or ts i d)) now → now ≡ all_added (streams_of (take i ts)) start
    → next ≡ all_added (streams_of (take (i + 1) ts)) start
added_next ts i d start now next lt e h = e ∙ ap (added (stream_of (get_or ts i d))) h ∙ sym (all_added_more ts i d start lt)

pub added_end : (ts : List PhysStream) (i : ℕ) (start now : List Stream) → length ts ≤ i → now ≡ all_added (streams_of (take i ts)) start → now ≡ all_added (streams_of ts) start
added_end ts i start now le h = h ∙ ap (λ xs. all_added (streams_of xs) start) (take_all i ts le)
