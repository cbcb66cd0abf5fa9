-- How chains grow, and how they are walked.
use Rattle.std.proofs.Common.{◌≡◌, ◌≢◌, ℕ, zero, suc, ◌+◌, ◌-◌, ◌<◌, ◌≤◌, List, [], ◌∷◌, ◌++◌, length, get_or, set, replicate, map, refl, sym, ap, subst, ◌∙◌, inl, inr, arith}
use Rattle.std.proofs.Math.Seq.{get_or-append_seam}
use Rattle.std.proofs.lemmas.Bool.{cases_eq, cases_lt}
use Rattle.std.proofs.lemmas.List.{get_or-set_same, get_or-set_other, get_or_append_left, get_or-map, length-map, length-set, length_push, map_push}
use Rattle.pu_partition.specs.Partitions.{partition_of}
use Rattle.ps_frame.specs.declared.value.Value.{Value}
use Rattle.ps_keys.specs.declared.buckets.KeyBuckets.{KeyBuckets}
use Rattle.ps_keys.specs.Chains.{IsLast, IsChained, IsSound, buckets_of}
use Rattle.ps_keys.specs.Hashes.{row_hash}

get_or-replicate : (z n k : ℕ) → get_or (replicate n z) k z ≡ z
get_or-replicate z zero zero = refl
get_or-replicate z zero (suc k) = refl
get_or-replicate z (suc n) zero = refl
get_or-replicate z (suc n) (suc k) = get_or-replicate z n k

-- one key more, behind those that count
IsLast-append : (bs more : List ℕ) (b place bound : ℕ) → bound ≤ length bs → IsLast bs b place bound → IsLast (bs ++ more) b place bound
IsLast-append bs more b place bound short last =
    record {
      within = last.within;
      points = λ positive. get_or_append_left bs more 0 (place - 1) (omega (arith, last.within)) ∙ last.points positive;
      none_between = λ j from below e. last.none_between j from below (sym (get_or_append_left bs more 0 j (omega arith)) ∙ e);
    }

-- one key more, of another bucket
IsLast-later : (bs : List ℕ) (b c place : ℕ) → c ≢ b → IsLast bs b place (length bs) → IsLast (bs ++ c ∷ []) b place (length bs + 1)
IsLast-later bs b c place differs last =
    let kept = IsLast-append bs (c ∷ []) b place (length bs) (omega arith) last in
    record {
      within = omega (arith, last.within);
      points = kept.points;
      none_between = λ j from below. elim (cases_eq j (length bs)) [
        | inl same ↦ λ e. differs (sym (get_or-append_seam bs c [] 0) ∙ ap (λ k. get_or (bs ++ c ∷ []) k 0) (sym same) ∙ e)
        | inr other ↦ kept.none_between j from (omega arith)
      ];
    }

-- one key more, of this bucket
IsLast-here : (bs : List ℕ) (b : ℕ) → IsLast (bs ++ b ∷ []) b (length bs + 1) (length bs + 1)
IsLast-here bs b =
    let back : length bs + 1 - 1 ≡ length bs = omega arith in
    record {
      within = omega arith;
      points = λ _. ap (λ k. get_or (bs ++ b ∷ []) k 0) back ∙ get_or-append_seam bs b [] 0;
      none_between = λ j from below. absurd (omega arith);
    }

-- no key is chained yet
pub IsChained-start : (n : ℕ) → IsChained (replicate n 0) [] []
IsChained-start n =
    record {
      heads_are_last = λ b within. record {
        within = omega (arith, get_or-replicate 0 n b);
        points = λ positive. absurd (omega (arith, get_or-replicate 0 n b));
        none_between = λ j from below. absurd (omega arith);
      };
      nexts_are_last = λ k below. absurd (omega arith);
      linked = refl;
    }

-- a new key becomes the head of its bucket's chain
pub IsChained-push : (heads bs nexts : List ℕ) (b : ℕ) → b < length heads → IsChained heads bs nexts
    → IsChained (set heads b (length bs + 1)) (bs ++ b ∷ []) (nexts ++ get_or heads b 0 ∷ [])
IsChained-push heads bs nexts b in_heads chained =
    let h = get_or heads b 0 in
    let bs' = bs ++ b ∷ [] in
    let more = length_push bs b in
    record {
      heads_are_last = λ k within. subst (λ n. IsLast bs' k (get_or (set heads b (length bs + 1)) k 0) n) (sym more)
          (elim (cases_eq k b) [
            | inl same ↦
                let read : get_or (set heads b (length bs + 1)) k 0 ≡ length bs + 1 =
                ap (λ n. get_or (set heads b (length bs + 1)) n 0) same ∙ get_or-set_same heads b (length bs + 1) 0 in_heads in
                subst (λ place. IsLast bs' k place (length bs + 1)) (sym read)
                (subst (λ n. IsLast bs' n (length bs + 1) (length bs + 1)) (sym same) (IsLast-here bs b))
            | inr other ↦
                let read = get_or-set_other heads b k (length bs + 1) 0 other in
                let before = chained.heads_are_last k (omega (arith, length-set heads b (length bs + 1))) in
                subst (λ place. IsLast bs' k place (length bs + 1)) (sym read) (IsLast-later bs k b (get_or heads k 0) (λ e. other (sym e)) before)
          ]);
      nexts_are_last = λ k below. elim (cases_eq k (length bs)) [
        | inl same ↦
            let read : get_or (nexts ++ h ∷ []) (length bs) 0 ≡ h = ap (λ n. get_or (nexts ++ h ∷ []) n 0) (sym chained.linked) ∙ get_or-append_seam nexts h [] 0 in
            let at : IsLast bs' (get_or bs' (length bs) 0) (get_or (nexts ++ h ∷ []) (length bs) 0) (length bs) =
            subst (λ place. IsLast bs' (get_or bs' (length bs) 0) place (length bs)) (sym read)
            (subst (λ c. IsLast bs' c h (length bs)) (sym (get_or-append_seam bs b [] 0))
            (IsLast-append bs (b ∷ []) b h (length bs) (omega arith) (chained.heads_are_last b in_heads))) in
            subst (λ n. IsLast bs' (get_or bs' n 0) (get_or (nexts ++ h ∷ []) n 0) n) (sym same) at
        | inr other ↦
            let small : k < length bs = omega arith in
            let one = get_or_append_left bs (b ∷ []) 0 k small in
            let two = get_or_append_left nexts (h ∷ []) 0 k (omega (arith, chained.linked)) in
            subst (λ place. IsLast bs' (get_or bs' k 0) place k) (sym two)
            (subst (λ c. IsLast bs' c (get_or nexts k 0) k) (sym one)
            (IsLast-append bs (b ∷ []) (get_or bs k 0) (get_or nexts k 0) k (omega arith) (chained.nexts_are_last k small)))
      ];
      linked = length_push nexts h ∙ ap (λ n. n + 1) chained.linked ∙ sym more;
    }

-- a table's bucket of a hash
abbrev pub bucket_in : KeyBuckets → ℕ → ℕ
bucket_in t hash = partition_of hash (length t.heads.items)

module _ (row : ℕ → List Value) (t : KeyBuckets) (i hash : ℕ) where
  -- a walk along the chain of a row's bucket has come to this place: no key behind it is the row's
  pub record IsOnChain (place : ℕ) : Type 0 where
    pub within : place ≤ length t.firsts.items
    pub points : 0 < place → partition_of (get_or t.hashes.items (place - 1) 0) (length t.heads.items) ≡ bucket_in t hash
    pub passed : (k : ℕ) → place ≤ k → k < length t.firsts.items → row (get_or t.firsts.items k 0) ≢ row i

  -- what lies where no key of the bucket lies isn't the row's
  passed_by : IsSound row t → hash ≡ row_hash (row i) → (k : ℕ) → k < length t.firsts.items → get_or (buckets_of (length t.heads.items) t.hashes.items) k 0 ≢ bucket_in t hash → row (get_or t.firsts.items k 0) ≢ row i
  passed_by sound hashed k within differs same =
      let count = length t.heads.items in
      let long : length t.hashes.items ≡ length t.firsts.items = ap length sound.hashed ∙ length-map t.firsts.items (λ j. row_hash (row j)) in
      let hash_k : get_or t.hashes.items k 0 ≡ row_hash (row (get_or t.firsts.items k 0)) =
      ap (λ hs. get_or hs k 0) sound.hashed ∙ get_or-map (λ j. row_hash (row j)) t.firsts.items k 0 0 within in
      let bucket_k = get_or-map (λ h. partition_of h count) t.hashes.items k 0 0 (omega arith) in
      differs (bucket_k ∙ ap (λ h. partition_of h count) (hash_k ∙ ap row_hash same ∙ sym hashed))

  pub IsOnChain-start : IsSound row t → hash ≡ row_hash (row i) → bucket_in t hash < length t.heads.items → IsOnChain (get_or t.heads.items (bucket_in t hash) 0)
  IsOnChain-start sound hashed within =
      let count = length t.heads.items in
      let last = sound.chained.heads_are_last (bucket_in t hash) within in
      let long : length t.hashes.items ≡ length t.firsts.items = ap length sound.hashed ∙ length-map t.firsts.items (λ j. row_hash (row j)) in
      let wide = length-map t.hashes.items (λ h. partition_of h count) in
      record {
        within = omega (arith, last.within);
        points = λ positive. sym (get_or-map (λ h. partition_of h count) t.hashes.items (get_or t.heads.items (bucket_in t hash) 0 - 1) 0 0 (omega (arith, last.within))) ∙ last.points positive;
        passed = λ k from below. passed_by sound hashed k below (last.none_between k from (omega arith));
      }

  pub IsOnChain-next : (place : ℕ) → IsSound row t → hash ≡ row_hash (row i) → 0 < place → row (get_or t.firsts.items (place - 1) 0) ≢ row i → IsOnChain place
      → IsOnChain (get_or t.nexts.items (place - 1) 0) × (get_or t.nexts.items (place - 1) 0 < place)
  IsOnChain-next place sound hashed positive differs on =
      let count = length t.heads.items in
      let p = place - 1 in
      let next = get_or t.nexts.items p 0 in
      let long : length t.hashes.items ≡ length t.firsts.items = ap length sound.hashed ∙ length-map t.firsts.items (λ j. row_hash (row j)) in
      let wide = length-map t.hashes.items (λ h. partition_of h count) in
      let inside : p < length t.hashes.items = omega (arith, on.within) in
      let here : get_or (buckets_of count t.hashes.items) p 0 ≡ bucket_in t hash = get_or-map (λ h. partition_of h count) t.hashes.items p 0 0 inside ∙ on.points positive in
      let last : IsLast (buckets_of count t.hashes.items) (bucket_in t hash) next p =
      subst (λ b. IsLast (buckets_of count t.hashes.items) b next p) here (sound.chained.nexts_are_last p (omega arith)) in (
        record {
          within = omega (arith, last.within, on.within);
          points = λ more. sym (get_or-map (λ h. partition_of h count) t.hashes.items (next - 1) 0 0 (omega (arith, last.within))) ∙ last.points more;
          passed = λ k from below. elim (cases_eq k p) [
            | inl same ↦ subst (λ n. row (get_or t.firsts.items n 0) ≢ row i) (sym same) differs
            | inr other ↦ elim (cases_lt k p) [
              | inl before ↦ passed_by sound hashed k below (last.none_between k from before)
              | inr behind ↦ on.passed k (omega arith) below
            ]
          ];
        },
        omega (arith, last.within),
      )

-- each key has its link
pub nexts-long : (row : ℕ → List Value) (t : KeyBuckets) → IsSound row t → length t.nexts.items ≡ length t.firsts.items
nexts-long row t sound =
    sound.chained.linked ∙ length-map t.hashes.items (λ h. partition_of h (length t.heads.items)) ∙ ap length sound.hashed ∙ length-map t.firsts.items (λ j. row_hash (row j))

-- a table with one key more
pub sound-push : (row : ℕ → List Value) (t u : KeyBuckets) (i hash bucket : ℕ) → IsSound row t → bucket ≡ bucket_in t hash → bucket < length t.heads.items → hash ≡ row_hash (row i)
    → u.heads.items ≡ set t.heads.items bucket (length u.nexts.items) → u.hashes.items ≡ t.hashes.items ++ hash ∷ [] → u.nexts.items ≡ t.nexts.items ++ get_or t.heads.items bucket 0 ∷ []
    → u.firsts.items ≡ t.firsts.items ++ i ∷ [] → IsSound row u
sound-push row t u i hash bucket sound is within hashed heads hashes nexts firsts =
    let count = length t.heads.items in
    let bs = buckets_of count t.hashes.items in
    let pushed = IsChained-push t.heads.items bs t.nexts.items bucket within sound.chained in
    let longer = length_push t.nexts.items (get_or t.heads.items bucket 0) in
    let as_many : length u.nexts.items ≡ length bs + 1 = ap length nexts ∙ longer ∙ ap (λ n. n + 1) sound.chained.linked in
    let same_heads : u.heads.items ≡ set t.heads.items bucket (length bs + 1) = heads ∙ ap (set t.heads.items bucket) as_many in
    let same_count : length u.heads.items ≡ count = ap length heads ∙ length-set t.heads.items bucket (length u.nexts.items) in
    let same_buckets : buckets_of (length u.heads.items) u.hashes.items ≡ bs ++ bucket ∷ [] =
    ap (λ n. buckets_of n u.hashes.items) same_count ∙ ap (buckets_of count) hashes ∙ map_push (λ h. partition_of h count) t.hashes.items hash ∙ ap (λ b. bs ++ b ∷ []) (sym is) in
    record {
      chained = subst (λ hs. IsChained hs (buckets_of (length u.heads.items) u.hashes.items) u.nexts.items) (sym same_heads)
          (subst (λ b. IsChained (set t.heads.items bucket (length bs + 1)) b u.nexts.items) (sym same_buckets)
          (subst (λ ns. IsChained (set t.heads.items bucket (length bs + 1)) (bs ++ bucket ∷ []) ns) (sym nexts) pushed));
      hashed = hashes ∙ ap (λ hs. hs ++ hash ∷ []) sound.hashed ∙ ap (λ h. map (λ j. row_hash (row j)) t.firsts.items ++ h ∷ []) hashed
          ∙ sym (map_push (λ j. row_hash (row j)) t.firsts.items i) ∙ sym (ap (map (λ j. row_hash (row j))) firsts);
    }
