-- Pieces out are at most as many as the workers, and those that give into a pipe at most as many as its empty places.
use Rattle.std.proofs.Common.{◌≡◌, ℕ, zero, suc, ◌+◌, ◌<◌, ◌≤◌, Bool, true, false, cond, List, [], ◌∷◌, ◌-◌, length, get_or, take, drop, Option, Some, None, is_some, refl, sym, ap, subst, ◌∙◌, arith}
use Rattle.std.specs.Prelude.{Contains, count_by, nat_eq, not, slice_get}
use Rattle.std.proofs.lemmas.Bool.Decides.{nat_tests}
use Rattle.std.proofs.lemmas.List.{take_all}
use Rattle.std.proofs.lemmas.List.Sums.{count_by_more_no, count_by_more_yes}
use Rattle.std.proofs.lemmas.Option.{get_or_from_slice_get, slice_get_within}
use Rattle.ps_frame.specs.Functions.{Functions}
use Rattle.ps_frame.specs.Tables.{Row}
use Rattle.ps_turns.specs.Tasks.{Piece}
use Rattle.ps_world.specs.Facts.{Facts, is_filled_by, keeps_one}
use Rattle.ps_world.specs.World.{Pipe, World, waiting}
use Rattle.world_facts.proofs.ClaimedOnce.{count_cons}
use Rattle.world_facts.proofs.CutOff.{both_true}
use Rattle.world_flight.proofs.Pigeons.{all_free, count_all, free, pigeons}
use Rattle.world_flight.specs.Places.{empty_places, gives_into, is_empty_place}

has_at : {X : Type 0} (xs : List X) (j : ℕ) (y : X) → slice_get xs j ≡ Some y → Contains xs y
has_at [] j y e = absurd (let no : None ≡ Some y = e in cc)
has_at (x ∷ xs) zero y e = (0, omega arith, let q : Some x ≡ Some y = e in let is : x ≡ y = cc in is)
has_at (x ∷ xs) (suc j) y e = let rest = has_at xs j y e in (suc rest.0, omega arith, rest.2)

pub few_pieces : (F : Functions) (w : World) → Facts F w → length w.outs ≤ w.options.workers
few_pieces F w f =
    let few = pigeons (λ (q : Piece). true) (λ (q : Piece). q.worker) (λ k. true) w.outs (λ i j q r e g h k s. f.own_workers i j q r e g s) w.options.workers (λ j q e h. refl) (λ j q e h. f.workers q (has_at w.outs j q e)) in
    let all = count_all w.outs in
    let some = all_free w.options.workers in
    omega (arith, few, all, some)

-- the empty places of a list, place by place
free_places : (got : List (Option (List Row))) (m : ℕ) → m ≤ length got → free (λ k. is_empty_place (get_or got k (Some []))) m ≡ count_by is_empty_place (take m got)
free_places got zero l = refl
free_places got (suc m) l =
    let before = free_places got m (omega arith) in
    by before (is_empty_place (get_or got m (Some []))) refl
  where
    by : free (λ k. is_empty_place (get_or got k (Some []))) m ≡ count_by is_empty_place (take m got) → (b : Bool) → is_empty_place (get_or got m (Some [])) ≡ b → free (λ k. is_empty_place (get_or got k (Some []))) (suc m) ≡ count_by is_empty_place (take (suc m) got)
    by before true e =
        let more = count_by_more_yes is_empty_place got m (Some []) (omega arith) e in
        let same : m + 1 ≡ suc m = omega arith in
        ap (λ b. free (λ k. is_empty_place (get_or got k (Some []))) m + cond b 1 0) e ∙ ap (λ k. k + 1) before ∙ sym more ∙ ap (λ k. count_by is_empty_place (take k got)) same
    by before false e =
        let more = count_by_more_no is_empty_place got m (Some []) (omega arith) e in
        let same : m + 1 ≡ suc m = omega arith in
        let none : free (λ k. is_empty_place (get_or got k (Some []))) m + 0 ≡ free (λ k. is_empty_place (get_or got k (Some []))) m = omega arith in
        ap (λ b. free (λ k. is_empty_place (get_or got k (Some []))) m + cond b 1 0) e ∙ none ∙ before ∙ sym more ∙ ap (λ k. count_by is_empty_place (take k got)) same

not_kept : (b : Bool) → not b ≡ true → b ≡ false
not_kept false e = refl
not_kept true e = absurd (let no : false ≡ true = e in cc)

equal : (m n : ℕ) → nat_eq m n ≡ true → m ≡ n
equal m n e = grind (arith, nat_tests)

pub places_wait : (F : Functions) (w : World) (n : ℕ) (p : Pipe) → Facts F w → is_filled_by w n p → count_by (gives_into n) w.outs ≤ empty_places p
places_wait F w n p f fills =
    let few = pigeons (gives_into n) (λ (q : Piece). q.gives) (λ k. is_empty_place (get_or p.got k (Some []))) w.outs apart (length p.got) (λ j q e h. ap is_empty_place (get_or_from_slice_get p.got q.gives None (Some []) (waits j q e h))) (λ j q e h. slice_get_within p.got q.gives None (waits j q e h)) in
    let places = free_places p.got (length p.got) (omega arith) ∙ ap (count_by is_empty_place) (take_all (length p.got) p.got (omega arith)) in
    omega (arith, few, places)
  where
    its : (q : Piece) → gives_into n q ≡ true → (q.node ≡ n) × (keeps_one q.task ≡ false)
    its q h = let parts = both_true (nat_eq q.node n) (not (keeps_one q.task)) h in (equal q.node n parts.0, not_kept (keeps_one q.task) parts.1)

    waits : (j : ℕ) (q : Piece) → slice_get w.outs j ≡ Some q → gives_into n q ≡ true → slice_get p.got q.gives ≡ Some None
    waits j q e h = let is = its q h in (f.expected q (has_at w.outs j q e)).1 is.1 p (subst (λ m. is_filled_by w m p) (sym is.0) fills)

    apart : (i j : ℕ) (q r : Piece) → slice_get w.outs i ≡ Some q → slice_get w.outs j ≡ Some r → gives_into n q ≡ true → gives_into n r ≡ true → q.gives ≡ r.gives → i ≡ j
    apart i j q r e g h k s =
        let a = its q h in
        let b = its r k in
        f.own_workers i j q r e g (f.own_numbers q r p (has_at w.outs i q e) (has_at w.outs j r g) a.1 b.1 (a.0 ∙ sym b.0) s (subst (λ m. is_filled_by w m p) (sym a.0) fills))

-- what waits from a number on, and the empty places, where all before that number came
one_or_other : (slot : Option (List Row)) → cond {A = ℕ} (is_some slot) 1 0 + cond {A = ℕ} (is_empty_place slot) 1 0 ≡ 1
one_or_other None = refl
one_or_other (Some rs) = refl

every_place : (got : List (Option (List Row))) → count_by (λ (slot : Option (List Row)). is_some slot) got + count_by is_empty_place got ≡ length got
every_place [] = refl
every_place (x ∷ xs) =
    let rest = every_place xs in
    let a = count_cons (λ (slot : Option (List Row)). is_some slot) x xs in
    let b = count_cons is_empty_place x xs in
    let here = one_or_other x in
    omega (arith, rest, a, b, here)

from_next : (got : List (Option (List Row))) (next : ℕ) → ((k : ℕ) → k < next → (rs : List Row) × (slice_get got k ≡ Some (Some rs))) → count_by (λ (slot : Option (List Row)). is_some slot) (drop next got) + count_by is_empty_place got ≤ length got - next
from_next got zero came = let all = every_place got in omega (arith, all)
from_next [] (suc next) came = omega arith
from_next (x ∷ xs) (suc next) came =
    let rest = from_next xs next (λ k l. came (suc k) (omega (arith, l))) in
    let first = came 0 (omega arith) in
    let is : Some x ≡ Some (Some first.0) = first.1 in
    let filled : x ≡ Some first.0 = cc in
    let b = count_cons is_empty_place x xs in
    let none : cond {A = ℕ} (is_empty_place x) 1 0 ≡ 0 = ap (λ slot. cond {A = ℕ} (is_empty_place slot) 1 0) filled in
    let fewer : length xs - next ≡ suc (length xs) - suc next = omega arith in
    omega (arith, rest, b, none, fewer)

waiting_le : (p : Pipe) → waiting p ≤ count_by (λ (slot : Option (List Row)). is_some slot) (drop p.next p.got)
waiting_le p = by p.is_dropped (count_by (λ (slot : Option (List Row)). is_some slot) (drop p.next p.got))
  where
    by : (b : Bool) (k : ℕ) → cond b 0 k ≤ k
    by true k = omega arith
    by false k = omega arith

pub loads_fit : (F : Functions) (w : World) (n : ℕ) (p : Pipe) → Facts F w → is_filled_by w n p → waiting p + count_by (gives_into n) w.outs ≤ length p.got - p.next
loads_fit F w n p f fills =
    let few = places_wait F w n p f fills in
    let places = from_next p.got p.next (f.pipes p fills.0).came in
    let less = waiting_le p in
    omega (arith, few, places, less)
