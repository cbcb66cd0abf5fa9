-- A node is cut off where something that leaves it counts, and all of that is dropped.
use Rattle.std.proofs.Common.{◌≡◌, ℕ, Bool, true, false, refl, sym, ap, ◌∙◌, arith}
use Rattle.std.specs.Prelude.{Contains, ◌&&◌, ◌||◌, map, nat_eq, nat_lt, not}
use Rattle.std.specs.List.{filter as kept, list_all, list_any}
use Rattle.std.proofs.lemmas.Bool.Decides.{nat_tests}
use Rattle.ps_frame.specs.Causes.{is_empty}
use Rattle.ps_frame.specs.Sorting.{in_order}
use Rattle.ps_world.specs.World.{Pipe, World, counts_for_sender, is_cut_off, live_outs}
use Rattle.world_laws.proofs.InOrder.{list_all-in_order, list_any-in_order}
use Rattle.world_facts.proofs.Slots.{all_at, all_map, all_of_kept, all_same, is_some_kept, some_at, some_map, some_of_kept, some_same}

abbrev pub goes_live : World → ℕ → Pipe → Bool
goes_live w n p = nat_eq p.wire.sender n && counts_for_sender w p

pub same_number : (n m : ℕ) → nat_eq n m ≡ true → n ≡ m
same_number n m e = grind (arith, nat_tests)

pub its_number : (n m : ℕ) → n ≡ m → nat_eq n m ≡ true
its_number n m e = grind (arith, nat_tests)

pub both_true : (a b : Bool) → (a && b) ≡ true → (a ≡ true) × (b ≡ true)
both_true true b e = (refl, e)
both_true false b e = absurd (let no : false ≡ true = e in cc)

pub and_true : (a b : Bool) → a ≡ true → b ≡ true → (a && b) ≡ true
and_true true b e h = h
and_true false b e h = e

not_both : (a b d : Bool) → (not a || (not b || d)) ≡ (not (a && b) || d)
not_both true b d = refl
not_both false b d = refl

module _ (w : World) (n : ℕ) where
  less : Pipe → Pipe → Bool
  less p q = nat_lt p.wire.port q.wire.port

  mine : Pipe → Bool
  mine p = nat_eq p.wire.sender n

  has_live : not (is_empty (live_outs w n)) ≡ list_any (goes_live w n) w.pipes
  unfolding less mine
  has_live = is_some_kept (counts_for_sender w) (in_order less (kept mine w.pipes)) ∙ list_any-in_order less (counts_for_sender w) (kept mine w.pipes) ∙ some_of_kept mine (counts_for_sender w) w.pipes

  all_live : list_all (λ (p : Pipe). p.is_dropped) (live_outs w n) ≡ list_all (λ p. not (goes_live w n p) || p.is_dropped) w.pipes
  unfolding less mine
  all_live =
      all_of_kept (counts_for_sender w) (λ (p : Pipe). p.is_dropped) (in_order less (kept mine w.pipes))
      ∙ list_all-in_order less (λ p. not (counts_for_sender w p) || p.is_dropped) (kept mine w.pipes)
      ∙ all_of_kept mine (λ p. not (counts_for_sender w p) || p.is_dropped) w.pipes
      ∙ all_same (λ p. not (mine p) || (not (counts_for_sender w p) || p.is_dropped)) (λ p. not (goes_live w n p) || p.is_dropped) w.pipes (λ p c. not_both (mine p) (counts_for_sender w p) p.is_dropped)

  pub cut_is : is_cut_off w n ≡ (list_any (goes_live w n) w.pipes && list_all (λ p. not (goes_live w n p) || p.is_dropped) w.pipes)
  cut_is = λ i. has_live i && all_live i

  pub cut_all : is_cut_off w n ≡ true → (p : Pipe) → Contains w.pipes p → p.wire.sender ≡ n → counts_for_sender w p ≡ true → p.is_dropped ≡ true
  cut_all cut p c s counts =
      let all = both_true (list_any (goes_live w n) w.pipes) (list_all (λ x. not (goes_live w n x) || x.is_dropped) w.pipes) (sym cut_is ∙ cut) in
      let here = all_at (λ x. not (goes_live w n x) || x.is_dropped) w.pipes p all.1 c in
      let live : goes_live w n p ≡ true = and_true (nat_eq p.wire.sender n) (counts_for_sender w p) (its_number p.wire.sender n s) counts in
      sym (ap (λ b. not b || p.is_dropped) live) ∙ here

  pub cut_some : is_cut_off w n ≡ true → (p : Pipe) × Contains w.pipes p × (p.wire.sender ≡ n) × (counts_for_sender w p ≡ true)
  cut_some cut =
      let all = both_true (list_any (goes_live w n) w.pipes) (list_all (λ x. not (goes_live w n x) || x.is_dropped) w.pipes) (sym cut_is ∙ cut) in
      let there = some_at (goes_live w n) w.pipes all.0 in
      let parts = both_true (nat_eq there.0.wire.sender n) (counts_for_sender w there.0) there.2 in
      (there.0, there.1, same_number there.0.wire.sender n parts.0, parts.1)

-- a change of pipes that leaves what of the node's outgoing ones counts and is dropped
pub cut_off_same : (w v : World) (n : ℕ) (g : Pipe → Pipe) → v.pipes ≡ map g w.pipes
    → ((x : Pipe) → Contains w.pipes x → goes_live v n (g x) ≡ goes_live w n x) → ((x : Pipe) → Contains w.pipes x → goes_live w n x ≡ true → (g x).is_dropped ≡ x.is_dropped)
    → is_cut_off v n ≡ is_cut_off w n
cut_off_same w v n g pipes live dropped = cut_is v n ∙ (λ i. some i && all i) ∙ sym (cut_is w n)
  where
    some : list_any (goes_live v n) v.pipes ≡ list_any (goes_live w n) w.pipes
    some = ap (list_any (goes_live v n)) pipes ∙ some_map (goes_live v n) g w.pipes ∙ some_same (λ x. goes_live v n (g x)) (goes_live w n) w.pipes live

    of_dropped : (a b c : Bool) → (a ≡ true → b ≡ c) → (not a || b) ≡ (not a || c)
    of_dropped true b c h = h refl
    of_dropped false b c h = refl

    all : list_all (λ p. not (goes_live v n p) || p.is_dropped) v.pipes ≡ list_all (λ p. not (goes_live w n p) || p.is_dropped) w.pipes
    all =
        ap (list_all (λ p. not (goes_live v n p) || p.is_dropped)) pipes
        ∙ all_map (λ p. not (goes_live v n p) || p.is_dropped) g w.pipes
        ∙ all_same (λ x. not (goes_live v n (g x)) || (g x).is_dropped) (λ x. not (goes_live w n x) || x.is_dropped) w.pipes
        (λ x c. ap (λ b. not b || (g x).is_dropped) (live x c) ∙ of_dropped (goes_live w n x) (g x).is_dropped x.is_dropped (dropped x c))
