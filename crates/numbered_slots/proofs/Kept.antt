-- How slots lie after each change of them.
use Rattle.std.proofs.Common.{◌≡◌, ℕ, ◌+◌, ◌-◌, ◌^◌, ◌<◌, ◌≤◌, Bool, false, true, List, [], ◌∷◌, ◌++◌, length, map, set, slice_get, Option, Some, None, sym, ap, ◌∙◌, refl, subst, arith, append_assoc, length-append, length-set}
use Rattle.std.specs.Prelude.{IsTrue, not, ◌↔◌}
use Rattle.std.proofs.lemmas.Option.{slice_get_within}
use Rattle.numbered_slots.specs.Laid.{IsLaid, laid}
use Rattle.numbered_slots.specs.Numbered.{IsAwaited, Numbered, begins, there, with_item}
use Rattle.numbered_slots.proofs.SlotLists.{begins-place, past_ready, set-past_ready, there-filled, there-last, there-place, there_le}

module _ {T : Type 0} where
  -- something can be read exactly where the ring holds something
  pub ready_is : (room : ℕ) (ready : List T) (behind : List (Option T)) (b : Bool) → (IsTrue b ↔ (ready ≡ [])) → 0 < room → (length ready < room → begins behind ≡ false) → not b ≡ begins (laid ready behind)
  ready_is room [] behind true iff some settled = sym (settled some)
  ready_is room [] behind false iff some settled = let no : false ≡ true = iff.1 refl in absurd (cc)
  ready_is room (x ∷ ready) behind true iff some settled = let no : (x ∷ ready) ≡ [] = iff.0 refl in absurd (cc)
  ready_is room (x ∷ ready) behind false iff some settled = refl

  module _ (next waiting room : ℕ) (ready : List T) (behind : List (Option T)) where
    pub laid-behind : (more : List (Option T)) → laid ready (behind ++ more) ≡ laid ready behind ++ more
    laid-behind more = sym (append_assoc (map Some ready) behind more)

    -- one place more
    pub placed : IsLaid next waiting room ready behind → next + length (laid ready behind) + 1 < 2 ^ 64 → IsLaid next waiting room ready (behind ++ None ∷ [])
    placed h fits =
        let xs = laid ready behind in
        let is = laid-behind (None ∷ []) in
        record {
          some_room = h.some_room;
          settled = λ more. begins-place behind (h.settled more);
          counted = h.counted ∙ sym (there-place xs) ∙ ap there (sym is);
          numbered = let long : length (laid ready (behind ++ None ∷ [])) ≡ length xs + 1 = ap length is ∙ length-append xs (None ∷ []) in omega arith;
        }

    -- An awaited number stands behind what can be read; filled, there is one item more.
    module _ (h : IsLaid next waiting room ready behind) (number : ℕ) (awaited : (next ≤ number) × (slice_get (laid ready behind) (number - next) ≡ Some None)) where
      pub behind_ready : (length ready ≤ number - next) × (number - next - length ready < length behind)
      behind_ready = let p = past_ready ready behind (number - next) awaited.1 in (p.0, slice_get_within behind (number - next - length ready) None p.1)

      module _ (x : T) where
        pub filled : laid ready (set behind (number - next - length ready) (Some x)) ≡ set (laid ready behind) (number - next) (Some x)
        filled = set-past_ready ready behind (number - next) (Some x) behind_ready.0

        pub one_more : waiting + 1 ≡ there (set (laid ready behind) (number - next) (Some x))
        one_more = ap (λ n. n + 1) h.counted ∙ sym (there-filled (laid ready behind) (number - next) x awaited.1)

        pub as_long : length (set (laid ready behind) (number - next) (Some x)) ≡ length (laid ready behind)
        as_long = length-set (laid ready behind) (number - next) (Some x)

        pub counts_on : waiting + 1 < 2 ^ 64
        counts_on = let within = there_le (set (laid ready behind) (number - next) (Some x)) in let numbered = h.numbered in omega (arith, one_more, as_long)

  -- What stands in order is known, and the ring is settled.
  pub relaid : (next waiting room : ℕ) (ready : List T) (behind xs : List (Option T)) → 0 < room → (length ready < room → begins behind ≡ false) → laid ready behind ≡ xs → waiting ≡ there xs → next + length xs < 2 ^ 64 → IsLaid next waiting room ready behind
  relaid next waiting room ready behind xs some settled is counted numbered =
      record {
        some_room = some;
        settled = settled;
        counted = counted ∙ ap there (sym is);
        numbered = let long : length (laid ready behind) ≡ length xs = ap length is in omega arith;
      }

  abbrev numbered_by : ℕ → List (Option T) → Numbered T
  numbered_by n xs = record { next = n; slots = xs }

  pub awaited_in : (n : ℕ) (xs : List (Option T)) (number : ℕ) (s : Numbered T) → numbered_by n xs ≡ s → IsAwaited s number → (n ≤ number) × (slice_get xs (number - n) ≡ Some None)
  awaited_in n xs number s is h = subst (λ (v : Numbered T). IsAwaited v number) (sym is) h

  pub put_is : (n : ℕ) (xs ys : List (Option T)) (number : ℕ) (x : T) (s : Numbered T) → numbered_by n xs ≡ s → ys ≡ set xs (number - n) (Some x) → numbered_by n ys ≡ with_item number x s
  put_is n xs ys number x s is e = subst (λ (v : Numbered T). numbered_by n ys ≡ with_item number x v) is (ap (numbered_by n) e)

  pub waiting_le : (n w c : ℕ) (r : List T) (b : List (Option T)) → IsLaid n w c r b → w ≤ length (laid r b)
  waiting_le n w c r b h = let counted = h.counted in let within = there_le (laid r b) in omega arith

  -- nothing stands there
  pub cleared : (n c : ℕ) (r : List T) (b : List (Option T)) → 0 < c → n < 2 ^ 64 → r ≡ [] → b ≡ [] → IsLaid n 0 c r b
  cleared n c r b some fits no_ready none_behind =
      let is : laid r b ≡ [] = ap (λ l. laid l b) no_ready ∙ none_behind in
      relaid n 0 c r b [] some (λ more. ap begins none_behind) is refl (omega arith)

  -- after an item came, what can be read was moved into the ring
  module _ (n w c : ℕ) (r : List T) (b : List (Option T)) (h : IsLaid n w c r b) (x : T) (b1 : List (Option T)) (c' : ℕ) (r' : List T) (b' : List (Option T)) (same : laid r' b' ≡ laid r b1) (as_large : c' ≡ c) (settled : length r' < c' → begins b' ≡ false) where
    some' : 0 < c'
    some' = let some = h.some_room in omega arith

    module _ (number : ℕ) (awaited : (n ≤ number) × (slice_get (laid r b) (number - n) ≡ Some None)) (ready : ℕ) (counted : ready ≡ length r) (put : b1 ≡ set b (number - n - ready) (Some x)) where
      pub put-slots : laid r' b' ≡ set (laid r b) (number - n) (Some x)
      put-slots = same ∙ ap (laid r) put ∙ ap (λ k. laid r (set b (number - n - k) (Some x))) counted ∙ filled n w c r b h number awaited x

      pub put-laid : IsLaid n (w + 1) c' r' b'
      put-laid =
          let long = as_long n w c r b h number awaited x in
          let numbered = h.numbered in
          relaid n (w + 1) c' r' b' (set (laid r b) (number - n) (Some x)) some' settled put-slots (one_more n w c r b h number awaited x) (omega arith)

    pub push-laid : b1 ≡ b ++ Some x ∷ [] → n + length (laid r b) + 1 < 2 ^ 64 → IsLaid n (w + 1) c' r' b'
    push-laid pushed fits =
        let xs = laid r b ++ Some x ∷ [] in
        let is : laid r b1 ≡ xs = ap (laid r) pushed ∙ laid-behind n w c r b (Some x ∷ []) in
        let long : length xs ≡ length (laid r b) + 1 = length-append (laid r b) (Some x ∷ []) in
        let counted : w + 1 ≡ there xs = ap (λ k. k + 1) h.counted ∙ sym (there-last (laid r b) x) in
        relaid n (w + 1) c' r' b' xs some' settled (same ∙ is) counted (omega arith)
