-- Lemmas on the links of a table of keys.
use Rattle.std.proofs.Common.{◌≡◌, ◌⊎◌, ℕ, zero, suc, ◌+◌, ◌-◌, ◌<◌, ◌≤◌, List, [], ◌∷◌, ◌++◌, length, get_or, set, map, take, drop, slice_get, Option, Some, unwrap_or, refl, sym, ap, subst, ◌∙◌, inl, inr, arith, length-drop, length-append, ◌^◌}
use Rattle.std.proofs.lemmas.Bool.{cases_eq}
use Rattle.std.proofs.lemmas.Bool.Decides.{leb_tells}
use Rattle.std.proofs.lemmas.List.{map-set, length-map, get_or-map, map_push, length_push, take-append-le, drop-append-le, take_all}
use Rattle.std.proofs.lemmas.Option.{slice_get_within, slice_get-get_or}
use Rattle.std.proofs.Math.Seq.{map-set_same, drop-append_seam}
use Rattle.pu_map.specs.declared.key_table.Link.{Link}
use Rattle.pu_map.specs.Keys.{Key, IsAbsent, AreDistinct}
use Rattle.pu_map.specs.Chains.{IsLast, IsChained, bucket_of}
use Rattle.pu_map.specs.Links.{hashes, nexts, stored, key_of, keys_of, LieWithin, IsSound}
use Rattle.pu_map.proofs.ChainLemmas.{IsChained-attach, IsChained-append}

-- a key's hash is its link's
pub hash_of_key : (bytes : List ℕ) (links : List Link) (i hash : ℕ) (key : List ℕ) → slice_get (keys_of bytes links) i ≡ Some (hash, key) → get_or (hashes links) i 0 ≡ hash
hash_of_key bytes [] i hash key found = absurd (cc)
hash_of_key bytes (l ∷ links) zero hash key found = ap (λ (o : Option Key). (unwrap_or o (hash, key)).0) found
hash_of_key bytes (l ∷ links) (suc i) hash key found = hash_of_key bytes links i hash key found

-- the key at a place is its link's
pub key_at : (bytes : List ℕ) (links : List Link) (i : ℕ) (d : Link) → i < length links → slice_get (keys_of bytes links) i ≡ Some (key_of bytes (get_or links i d))
key_at bytes links i d within =
    slice_get-get_or (keys_of bytes links) i (key_of bytes d) (omega (arith, length-map links (key_of bytes)))
    ∙ ap Some (get_or-map (key_of bytes) links i d (key_of bytes d) within)

-- what a link stores, at its place
pub stored_at : (links : List Link) (i : ℕ) (d : Link) → i < length links → slice_get (map stored links) i ≡ Some (stored (get_or links i d))
stored_at links i d within =
    slice_get-get_or (map stored links) i (stored d) (omega (arith, length-map links stored))
    ∙ ap Some (get_or-map stored links i d (stored d) within)

-- what the links store determines their hashes
pub hashes-stored : (old new : List Link) → map stored new ≡ map stored old → hashes new ≡ hashes old
hashes-stored old new same = sym (map-map-hash new) ∙ ap (map (λ s. s.0)) same ∙ map-map-hash old
  where
    map-map-hash : (links : List Link) → map (λ s. s.0) (map stored links) ≡ hashes links
    map-map-hash [] = refl
    map-map-hash (l ∷ links) = ap (λ xs. l.hash ∷ xs) (map-map-hash links)

-- and their keys
pub keys_of-stored : (bytes : List ℕ) (old new : List Link) → map stored new ≡ map stored old → keys_of bytes new ≡ keys_of bytes old
keys_of-stored bytes old new same = sym (by_stored new) ∙ ap (map (λ s. (s.0, take s.2 (drop s.1 bytes)))) same ∙ by_stored old
  where
    by_stored : (links : List Link) → map (λ s. (s.0, take s.2 (drop s.1 bytes))) (map stored links) ≡ keys_of bytes links
    by_stored [] = refl
    by_stored (l ∷ links) = ap (λ xs. key_of bytes l ∷ xs) (by_stored links)

-- a link that is attached, where only its `next` is new
pub IsChained-set : (b : ℕ → ℕ) (heads : List ℕ) (links : List Link) (at bucket : ℕ) (l d : Link) → at < length links → bucket < length heads → l.hash ≡ (get_or links at d).hash → l.next ≡ get_or heads bucket 0 → bucket ≡ b (get_or links at d).hash → IsChained b heads (hashes links) (nexts links) at → IsChained b (set heads bucket (at + 1)) (hashes (set links at l)) (nexts (set links at l)) (at + 1)
IsChained-set b heads links at bucket l d within in_heads same_hash next here chained =
    let hash = get_or-map (λ k. k.hash) links at d 0 within in
    let attached = IsChained-attach b heads (hashes links) (nexts links) at bucket (omega (arith, length-map links (λ k. k.next))) in_heads (ap b hash ∙ sym here) chained in
    let hashes_stay : hashes (set links at l) ≡ hashes links = map-set_same (λ k. k.hash) links at l d same_hash in
    let nexts_change : nexts (set links at l) ≡ set (nexts links) at (get_or heads bucket 0) = map-set (λ k. k.next) links at l ∙ ap (λ n. set (nexts links) at n) next in
    subst (λ hs. IsChained b (set heads bucket (at + 1)) hs (nexts (set links at l)) (at + 1)) (sym hashes_stay)
    (subst (λ ns. IsChained b (set heads bucket (at + 1)) (hashes links) ns (at + 1)) (sym nexts_change) attached)

module _ (b : ℕ → ℕ) (bytes : List ℕ) (links : List Link) (hash : ℕ) (key : List ℕ) where
  -- a walk along a chain has come to `next`: what lies behind it isn't the key
  pub record IsOnChain (next : ℕ) : Type 0 where
    pub within : next ≤ length links
    pub points : 0 < next → b (get_or (hashes links) (next - 1) 0) ≡ b hash
    pub passed : (j : ℕ) → next ≤ j → slice_get (keys_of bytes links) j ≡ Some (hash, key) → ⊥

  pub IsOnChain-start : (next : ℕ) → IsLast b (hashes links) (b hash) next (length links) → IsOnChain next
  IsOnChain-start next last =
      record {
        within = last.within;
        points = last.points;
        passed = λ j from found.
            let inside = slice_get_within (keys_of bytes links) j _ found in
            last.none_between j from (omega (arith, length-map links (key_of bytes))) (ap b (hash_of_key bytes links j hash key found));
      }

  pub IsOnChain-next : (heads : List ℕ) (next after : ℕ) → IsChained b heads (hashes links) (nexts links) (length links) → 0 < next → after ≡ get_or (nexts links) (next - 1) 0 → (slice_get (keys_of bytes links) (next - 1) ≡ Some (hash, key) → ⊥) → IsOnChain next → IsOnChain after × (after < next)
  IsOnChain-next heads next after chained positive read differs on =
      let p = next - 1 in
      let last : IsLast b (hashes links) (b (get_or (hashes links) p 0)) after p =
      subst (λ place. IsLast b (hashes links) (b (get_or (hashes links) p 0)) place p) (sym read) (chained.nexts_are_last p (omega (arith, on.within))) in
      let here = on.points positive in (
        record {
          within = omega (arith, last.within, on.within);
          points = λ more. last.points more ∙ here;
          passed = λ j from found. elim (cases_eq j p) [
            | inl same ↦ differs (subst (λ k. slice_get (keys_of bytes links) k ≡ Some (hash, key)) same found)
            | inr other ↦ behind j from other found (below_or_not j p)
          ];
        },
        omega (arith, last.within),
      )
    where
      below_or_not : (j p : ℕ) → (j < p) ⊎ (p ≤ j)
      below_or_not j p = elim (leb_tells p j) [ inl x ↦ inr x.1 | inr x ↦ inl x.1 ]

      behind : (j : ℕ) → after ≤ j → (j ≡ next - 1 → ⊥) → slice_get (keys_of bytes links) j ≡ Some (hash, key) → (j < next - 1) ⊎ (next - 1 ≤ j) → ⊥
      behind j from other found (inl below) =
          let last = chained.nexts_are_last (next - 1) (omega (arith, on.within)) in
          last.none_between j (omega arith) below (ap b (hash_of_key bytes links j hash key found) ∙ sym (on.points positive))
      behind j from other found (inr above) = on.passed j (omega arith) found

-- what stands in a list stands there when more follows
pub slice_get-append : {X : Type 0} (xs ys : List X) (i : ℕ) (x : X) → slice_get xs i ≡ Some x → slice_get (xs ++ ys) i ≡ Some x
slice_get-append [] ys i x found = absurd cc
slice_get-append (y ∷ xs) ys zero x found = found
slice_get-append (y ∷ xs) ys (suc i) x found = slice_get-append xs ys i x found

-- where an element of a list and one more stands
pub slice_get_push : {X : Type 0} (xs : List X) (x : X) (i : ℕ) (y : X) → slice_get (xs ++ x ∷ []) i ≡ Some y → ((i < length xs) × (slice_get xs i ≡ Some y)) ⊎ ((i ≡ length xs) × (x ≡ y))
slice_get_push [] x zero y found = inr (refl, cc)
slice_get_push [] x (suc i) y found = absurd (cc)
slice_get_push (z ∷ xs) x zero y found = inl (omega arith, found)
slice_get_push (z ∷ xs) x (suc i) y found =
    elim (slice_get_push xs x i y found) [
      | inl old ↦ inl (omega (arith, old.0), old.1)
      | inr new ↦ inr (omega (arith, new.0), new.1)
    ]

-- a key that is absent may be put in
pub AreDistinct-push : (keys : List Key) (hash : ℕ) (bytes : List ℕ) → AreDistinct keys → IsAbsent keys hash bytes → AreDistinct (keys ++ (hash, bytes) ∷ [])
AreDistinct-push keys hash bytes distinct absent i j key first second =
    elim (slice_get_push keys (hash, bytes) i key first) [
      | inl one ↦ elim (slice_get_push keys (hash, bytes) j key second) [
        | inl two ↦ distinct i j key one.1 two.1
        | inr two ↦ absurd (absent i (one.1 ∙ ap Some (sym two.1)))
      ]
      | inr one ↦ elim (slice_get_push keys (hash, bytes) j key second) [
        | inl two ↦ absurd (absent j (two.1 ∙ ap Some (sym one.1)))
        | inr two ↦ one.0 ∙ sym two.0
      ]
    ]

-- bytes that come later change no key
key_of-append : (bytes more : List ℕ) (l : Link) → l.start + l.size ≤ length bytes → key_of (bytes ++ more) l ≡ key_of bytes l
key_of-append bytes more l within =
    let rest = drop-append-le l.start bytes more (omega arith) in
    let long = length-drop l.start bytes in
    ap (λ bs. (l.hash, bs)) (ap (take l.size) rest ∙ take-append-le l.size (drop l.start bytes) more (omega arith))

pub keys_of-append : (bytes more : List ℕ) (links : List Link) → LieWithin links bytes → keys_of (bytes ++ more) links ≡ keys_of bytes links
keys_of-append bytes more [] within = refl
keys_of-append bytes more (l ∷ links) within =
    let first = key_of-append bytes more l (within 0 (stored l) refl) in
    let rest = keys_of-append bytes more links (λ i s found. within (suc i) s found) in
    ap (λ k. k ∷ keys_of (bytes ++ more) links) first ∙ ap (λ ks. key_of bytes l ∷ ks) rest

-- the link of a key whose bytes stand last
key_of_last : (bytes key : List ℕ) (hash next : ℕ) → key_of (bytes ++ key) (record { hash = hash; start = length bytes; size = length key; next = next }) ≡ (hash, key)
key_of_last bytes key hash next = ap (λ bs. (hash, bs)) (ap (take (length key)) (drop-append_seam bytes key) ∙ take_all (length key) key (omega arith))

-- what is known once a key was pushed and its link attached
module _ (seed : ℕ) (heads : List ℕ) (links : List Link) (bytes : List ℕ) (hash : ℕ) (key : List ℕ) (sound : IsSound seed heads links bytes) where
  abbrev pub new_link : Link
  new_link = record { hash = hash; start = length bytes; size = length key; next = 0 }

  pub IsChained-pushed : IsChained (bucket_of seed (length heads)) heads (hashes (links ++ new_link ∷ [])) (nexts (links ++ new_link ∷ [])) (length links)
  IsChained-pushed =
      let b = bucket_of seed (length heads) in
      let more = IsChained-append b heads (hashes links) (nexts links) (hash ∷ []) (0 ∷ []) (length links)
      (omega (arith, length-map links (λ l. l.hash))) (omega (arith, length-map links (λ l. l.next))) sound.chained in
      let hs : hashes (links ++ new_link ∷ []) ≡ hashes links ++ hash ∷ [] = map_push (λ l. l.hash) links new_link in
      let ns : nexts (links ++ new_link ∷ []) ≡ nexts links ++ 0 ∷ [] = map_push (λ l. l.next) links new_link in
      subst (λ hs. IsChained b heads hs (nexts (links ++ new_link ∷ [])) (length links)) (sym hs)
      (subst (λ ns. IsChained b heads (hashes links ++ hash ∷ []) ns (length links)) (sym ns) more)

  pub keys_of-pushed : (after : List Link) → map stored after ≡ map stored (links ++ new_link ∷ []) → keys_of (bytes ++ key) after ≡ keys_of bytes links ++ (hash, key) ∷ []
  keys_of-pushed after same =
      keys_of-stored (bytes ++ key) (links ++ new_link ∷ []) after same
      ∙ map_push (key_of (bytes ++ key)) links new_link
      ∙ ap (λ ks. ks ++ key_of (bytes ++ key) new_link ∷ []) (keys_of-append bytes key links sound.within)
      ∙ ap (λ k. keys_of bytes links ++ k ∷ []) (key_of_last bytes key hash 0)

  pub IsSound-pushed : (after : List Link) (firsts : List ℕ) → map stored after ≡ map stored (links ++ new_link ∷ []) → length firsts ≡ length heads → IsChained (bucket_of seed (length heads)) firsts (hashes after) (nexts after) (length links + 1) → IsAbsent (keys_of bytes links) hash key → length links < length heads → length links < 2 ^ 32 - 1 → IsSound seed firsts after (bytes ++ key)
  IsSound-pushed after firsts same as_many chained absent loaded few =
      let long : length after ≡ length links + 1 = sym (length-map after stored) ∙ ap length same ∙ length-map (links ++ new_link ∷ []) stored ∙ length_push links new_link in
      let longer = length-append bytes key in
      record {
        chained = subst (λ n. IsChained (bucket_of seed n) firsts (hashes after) (nexts after) (length after)) (sym as_many)
            (subst (λ n. IsChained (bucket_of seed (length heads)) firsts (hashes after) (nexts after) n) (sym long) chained);
        loaded = omega arith;
        within = λ i s found.
            elim (slice_get_push (map stored links) (stored new_link) i s (ap (λ xs. slice_get xs i) (sym (same ∙ map_push stored links new_link)) ∙ found)) [
              | inl old ↦ omega (arith, sound.within i s old.1)
              | inr new ↦ omega (arith, ap (λ (t : ℕ × ℕ × ℕ). t.1) new.1, ap (λ (t : ℕ × ℕ × ℕ). t.2) new.1)
            ];
        distinct = subst AreDistinct (sym (keys_of-pushed after same)) (AreDistinct-push (keys_of bytes links) hash key sound.distinct absent);
        fits = omega arith;
      }

-- a slice that was lent whole
pub take-append_all : {X : Type 0} (n : ℕ) (xs ys : List X) → n ≡ length xs → take n (xs ++ ys) ≡ xs
take-append_all n xs ys long = take-append-le n xs ys (omega arith) ∙ take_all n xs (omega arith)

-- chained anew, under the same keys
pub IsSound-chained : (seed : ℕ) (heads firsts : List ℕ) (links after : List Link) (bytes : List ℕ) → IsSound seed heads links bytes → map stored after ≡ map stored links → IsChained (bucket_of seed (length firsts)) firsts (hashes after) (nexts after) (length after) → length links ≤ length firsts → IsSound seed firsts after bytes
IsSound-chained seed heads firsts links after bytes sound same chained loaded =
    let long : length after ≡ length links = sym (length-map after stored) ∙ ap length same ∙ length-map links stored in
    record {
      chained = chained;
      loaded = omega arith;
      within = λ i s found. sound.within i s (ap (λ xs. slice_get xs i) (sym same) ∙ found);
      distinct = subst AreDistinct (sym (keys_of-stored bytes links after same)) sound.distinct;
      fits = omega (arith, sound.fits);
    }

pub set_last : {X : Type 0} (xs : List X) (x y : X) → set (xs ++ x ∷ []) (length xs) y ≡ xs ++ y ∷ []
set_last [] x y = refl
set_last (z ∷ xs) x y = ap (λ ys. z ∷ ys) (set_last xs x y)

pub slice_get_last : {X : Type 0} (xs : List X) (x : X) → slice_get (xs ++ x ∷ []) (length xs) ≡ Some x
slice_get_last [] x = refl
slice_get_last (z ∷ xs) x = slice_get_last xs x
