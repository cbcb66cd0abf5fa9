-- How chains grow, and how they are walked.
use Rattle.std.proofs.Common.{◌≡◌, ◌≢◌, ℕ, zero, suc, ◌+◌, ◌-◌, ◌<◌, ◌≤◌, List, ◌++◌, length, get_or, set, replicate, refl, sym, ap, subst, ◌∙◌, inl, inr, arith}
use Rattle.std.proofs.lemmas.Bool.{cases_eq}
use Rattle.std.proofs.lemmas.List.{get_or-set_same, get_or-set_other, get_or_append_left, length-set}
use Rattle.pu_map.specs.Chains.{IsLast, IsChained}

pub get_or-replicate : (z n k : ℕ) → get_or (replicate n z) k z ≡ z
get_or-replicate z zero zero = refl
get_or-replicate z zero (suc k) = refl
get_or-replicate z (suc n) zero = refl
get_or-replicate z (suc n) (suc k) = get_or-replicate z n k

module _ (b : ℕ → ℕ) where
  -- one hash more, of another bucket
  IsLast-later : (hs : List ℕ) (bucket place i : ℕ) → IsLast b hs bucket place i → b (get_or hs i 0) ≢ bucket → IsLast b hs bucket place (i + 1)
  IsLast-later hs bucket place i last differs =
      record {
        within = omega (arith, last.within);
        points = last.points;
        none_between = λ j from below. elim (cases_eq j i) [
          | inl same ↦ λ e. differs (ap (λ k. b (get_or hs k 0)) (sym same) ∙ e)
          | inr other ↦ last.none_between j from (omega arith)
        ];
      }

  -- one hash more, of this bucket
  IsLast-here : (hs : List ℕ) (bucket i : ℕ) → b (get_or hs i 0) ≡ bucket → IsLast b hs bucket (i + 1) (i + 1)
  IsLast-here hs bucket i here =
      let back : i + 1 - 1 ≡ i = omega arith in
      record {
        within = omega arith;
        points = λ _. ap (λ k. b (get_or hs k 0)) back ∙ here;
        none_between = λ j from below. absurd (omega arith);
      }

  -- nothing is chained yet
  pub IsChained-start : (heads hs nexts : List ℕ) → ((k : ℕ) → get_or heads k 0 ≡ 0) → IsChained b heads hs nexts 0
  IsChained-start heads hs nexts empty =
      record {
        heads_are_last = λ bucket within. record {
          within = omega (arith, empty bucket);
          points = λ positive. absurd (omega (arith, empty bucket));
          none_between = λ j from below. absurd (omega arith);
        };
        nexts_are_last = λ i below. absurd (omega arith);
      }

  -- link i becomes the head of its bucket's chain
  pub IsChained-attach : (heads hs nexts : List ℕ) (i bucket : ℕ) → i < length nexts → bucket < length heads → b (get_or hs i 0) ≡ bucket → IsChained b heads hs nexts i → IsChained b (set heads bucket (i + 1)) hs (set nexts i (get_or heads bucket 0)) (i + 1)
  IsChained-attach heads hs nexts i bucket in_nexts in_heads here chained =
      record {
        heads_are_last = λ k within. elim (cases_eq k bucket) [
          | inl same ↦
              let read : get_or (set heads bucket (i + 1)) k 0 ≡ i + 1 =
              ap (λ n. get_or (set heads bucket (i + 1)) n 0) same ∙ get_or-set_same heads bucket (i + 1) 0 in_heads in
              subst (λ place. IsLast b hs k place (i + 1)) (sym read) (IsLast-here hs k i (here ∙ sym same))
          | inr other ↦
              let read = get_or-set_other heads bucket k (i + 1) 0 other in
              let before = chained.heads_are_last k (omega (arith, length-set heads bucket (i + 1))) in
              subst (λ place. IsLast b hs k place (i + 1)) (sym read) (IsLast-later hs k _ i before (λ e. other (sym e ∙ here)))
        ];
        nexts_are_last = λ k below. elim (cases_eq k i) [
          | inl same ↦
              let x = get_or heads bucket 0 in
              let read = get_or-set_same nexts i x 0 in_nexts in
              let at : IsLast b hs (b (get_or hs i 0)) (get_or (set nexts i x) i 0) i =
              subst (λ place. IsLast b hs (b (get_or hs i 0)) place i) (sym read)
              (subst (λ k. IsLast b hs k x i) (sym here) (chained.heads_are_last bucket in_heads)) in
              subst (λ n. IsLast b hs (b (get_or hs n 0)) (get_or (set nexts i x) n 0) n) (sym same) at
          | inr other ↦
              let read = get_or-set_other nexts i k (get_or heads bucket 0) 0 other in
              subst (λ place. IsLast b hs (b (get_or hs k 0)) place k) (sym read) (chained.nexts_are_last k (omega arith))
        ];
      }

  IsLast-append : (hs more : List ℕ) (bucket place bound : ℕ) → bound ≤ length hs → IsLast b hs bucket place bound → IsLast b (hs ++ more) bucket place bound
  IsLast-append hs more bucket place bound short last =
      record {
        within = last.within;
        points = λ positive. ap b (get_or_append_left hs more 0 (place - 1) (omega (arith, last.within))) ∙ last.points positive;
        none_between = λ j from below e. last.none_between j from below (ap b (sym (get_or_append_left hs more 0 j (omega arith))) ∙ e);
      }

  -- hashes that are put in later change no chain
  pub IsChained-append : (heads hs nexts more after : List ℕ) (bound : ℕ) → bound ≤ length hs → bound ≤ length nexts → IsChained b heads hs nexts bound → IsChained b heads (hs ++ more) (nexts ++ after) bound
  IsChained-append heads hs nexts more after bound short narrow chained =
      record {
        heads_are_last = λ bucket within. IsLast-append hs more bucket _ bound short (chained.heads_are_last bucket within);
        nexts_are_last = λ i below.
            let one = get_or_append_left hs more 0 i (omega arith) in
            let two = get_or_append_left nexts after 0 i (omega arith) in
            subst (λ place. IsLast b (hs ++ more) (b (get_or (hs ++ more) i 0)) place i) (sym two)
            (subst (λ h. IsLast b (hs ++ more) (b h) (get_or nexts i 0) i) (sym one)
            (IsLast-append hs more _ _ i (omega arith) (chained.nexts_are_last i below)));
      }
