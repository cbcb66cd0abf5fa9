-- A ring is read, and made, by what each of its places holds.
use Rattle.std.proofs.Common.{◌≡◌, ℕ, ◌+◌, ◌-◌, ◌^◌, ◌<◌, ◌≤◌, ◌⊎◌, List, [], ◌∷◌, ◌++◌, map, length, take, drop, set, get_or, replicate, slice_get, Some, None, sym, ap, ◌∙◌, subst, inl, inr, arith, length-append, length-set}
use Rattle.std.proofs.lemmas.List.{length-replicate}
use Rattle.std.proofs.lemmas.Option.{slice_get_past}
use Rattle.pu_index.specs.Places.{Wraps, IsEmptyAt, IsFilledAt, somes, filled}
use Rattle.pu_index.specs.RingLaid.{ring_items, IsRing}
use Rattle.pu_index.specs.declared.ring.FixedRingBuffer.TheInside.{Inside}
use Rattle.pu_index.specs.declared.ring.places.Places.{Places}
use Rattle.pu_index.proofs.Places.{below_or_not, cut_front, slice_get-last, slice_get-push, slice_get-tail, Holds, Holds-from_laid, laid-from_Holds, Holds-written, Holds-empty, empty-from_Holds, run_holds, somes-filled}

module _ {X : Type 0} (r : Inside X) where
  abbrev DeedFits : Type 0
  DeedFits = (r.deed.base ≡ r.places.base) × (r.deed.count ≡ r.capacity) × (r.deed.alloc ≡ r.alloc)

  holds : IsRing r → Holds r.places.slots r.start r.capacity (slice_get (ring_items r))
  holds h = Holds-from_laid r.places.slots r.start r.capacity (ring_items r) h.places.0 h.start.0 h.laid

  relaid : (xs : List X) → DeedFits → (length r.places.slots ≡ r.capacity) × (r.capacity < 2 ^ 63) → (r.start ≤ r.capacity) × (0 < r.capacity → r.start < r.capacity) → r.len ≤ r.capacity → r.len ≡ length xs
      → Holds r.places.slots r.start r.capacity (slice_get xs) → IsRing r × (ring_items r ≡ xs)
  unfolding ring_items
  relaid xs deed places start within count h =
      let laid = laid-from_Holds r.places.slots r.start r.capacity xs places.0 start.0 start.1 (omega arith) h in
      let is : ring_items r ≡ xs = ap somes laid ∙ somes-filled xs r.capacity in
      (record { deed = deed; places = places; start = start; len = (within, count ∙ sym (ap length is)); laid = laid ∙ ap (λ l. filled l r.capacity) (sym is) }, is)

  -- a block of empty places is a ring without items
  pub made : DeedFits → r.places.slots ≡ replicate r.capacity None → r.capacity < 2 ^ 63 → r.start ≡ 0 → r.len ≡ 0 → IsRing r × (ring_items r ≡ [])
  made deed empty fits start none =
      relaid [] deed (ap length empty ∙ length-replicate r.capacity None, fits) (omega arith, λ some. omega arith) (omega arith) none
      (subst (λ cs. Holds cs r.start r.capacity (slice_get [])) (sym empty) (Holds-empty r.capacity r.start))

module _ {X : Type 0} (r : Inside X) (h : IsRing r) where
  -- and the other way round
  pub emptied : ring_items r ≡ [] → r.places.slots ≡ replicate r.capacity None
  emptied none = empty-from_Holds r.places.slots r.start r.capacity h.places.0 h.start.1 (subst (λ xs. Holds r.places.slots r.start r.capacity (slice_get xs)) none (holds r h))

  module _ (place : ℕ) (some : r.len < r.capacity) (at : Wraps r.start r.len r.capacity place) where
    -- past the last item is an empty place
    pub place_after : IsEmptyAt r.places.slots place
    place_after = let long = h.places.0 in let fp = at.0 in let count = h.len.1 in
        (omega arith, holds r h r.len place some at ∙ slice_get_past (ring_items r) r.len (omega arith))

    -- an item there is the last one
    pub put_last : (x : X) (new : Places X) → (new.base ≡ r.places.base) × (new.slots ≡ set r.places.slots place (Some x))
        → let s = record r { places = new; len = r.len + 1 } in IsRing s × (ring_items s ≡ ring_items r ++ x ∷ [])
    put_last x new put =
        let xs = ring_items r in let n = r.capacity in let count = h.len.1 in let long = h.places.0 in let sn = h.start.1 (omega arith) in let ys = xs ++ x ∷ [] in
        let laid = Holds-written r.places.slots r.start n (slice_get xs) (slice_get ys) r.len place (Some x) 0 r.start long sn some (inl (omega arith)) (holds r h) at (sn, inl (omega arith))
        (λ i j lt on below. let same : j ≡ i = elim on [ inl e ↦ omega arith | inr e ↦ omega arith ] in
        (λ e. slice_get-last xs x i (omega arith), λ ne. slice_get-push xs x i (λ e. ne (omega arith)) ∙ ap (slice_get xs) (sym same))) in
        relaid (record r { places = new; len = r.len + 1 }) ys (h.deed.0 ∙ sym put.0, h.deed.1, h.deed.2) (ap length put.1 ∙ length-set r.places.slots place (Some x) ∙ long, h.places.1) h.start (omega arith) (omega (arith, length-append xs (x ∷ [])))
        (subst (λ cs. Holds cs r.start n (slice_get ys)) (sym put.1) laid)

  module _ (some : 0 < r.len) where
    first : (x : X) × (xs : List X) × (ring_items r ≡ x ∷ xs)
    first = let count = h.len.1 in cut_front (ring_items r) (omega arith)

    starts : Wraps r.start 0 r.capacity r.start
    starts = let within = h.len.0 in (h.start.1 (omega arith), inl (omega arith))

    holds_first : get_or r.places.slots r.start None ≡ Some first.0
    holds_first = let within = h.len.0 in holds r h 0 r.start (omega arith) starts ∙ ap (λ l. slice_get l 0) first.2

    -- the first item lies at the start
    pub first_place : IsFilledAt r.places.slots r.start
    first_place = (first.0, holds_first)

    -- without it the next one is the first
    pub first_taken : (x : X) (new : Places X) (start : ℕ) → get_or r.places.slots r.start None ≡ Some x → (new.base ≡ r.places.base) × (new.slots ≡ set r.places.slots r.start None) → Wraps r.start 1 r.capacity start
        → let s = record r { places = new; start = start; len = r.len - 1 } in IsRing s × (ring_items r ≡ x ∷ ring_items s)
    first_taken x new start got took on =
        let xs = ring_items r in let ys = first.1 in let n = r.capacity in let within = h.len.0 in let count = h.len.1 in let long = h.places.0 in let sn = starts.0 in let e = first.2 in let more = ap length e in let below = on.0 in
        let laid = Holds-written r.places.slots r.start n (slice_get xs) (slice_get ys) 0 r.start None 1 start long sn (omega arith) (elim (below_or_not 1 n) [ inl f ↦ inl f | inr f ↦ inr (omega arith) ]) (holds r h) starts on
        (λ i j lt at under. (
          λ f. slice_get_past ys i (elim at [ inl k ↦ omega arith | inr k ↦ omega arith ]),
          λ ne. sym (ap (λ l. slice_get l j) e ∙ slice_get-tail first.0 ys i j (elim at [ inl k ↦ omega arith | inr k ↦ absurd (ne (omega arith)) ])),
        )) in
        let s = record r { places = new; start = start; len = r.len - 1 } in
        let ring = relaid s ys (h.deed.0 ∙ sym took.0, h.deed.1, h.deed.2) (ap length took.1 ∙ length-set r.places.slots r.start None ∙ long, h.places.1) (omega arith, λ _. below) (omega arith) (omega arith)
        (subst (λ cs. Holds cs start n (slice_get ys)) (sym took.1) laid) in
        let same : Some first.0 ≡ Some x = sym holds_first ∙ got in let is : first.0 ≡ x = cc in
        (ring.0, e ∙ (λ k. is k ∷ sym ring.1 k))

  -- m items from the k-th on lie in a row, from the place that is k on from the start
  pub row : (from m k : ℕ) → from + m ≤ r.capacity → k + m ≤ r.len → (from ≡ r.start + k) ⊎ (from + r.capacity ≡ r.start + k) → take m (drop from r.places.slots) ≡ map Some (take m (drop k (ring_items r)))
  row from m k within some at = let fits = h.len.0 in let count = h.len.1 in
      run_holds r.places.slots r.start r.capacity (ring_items r) from m k h.places.0 (holds r h) (omega arith) within (omega arith) at
