-- Which claims a node that streams has, by whether its input has a next morsel.
use Rattle.std.proofs.Common.{◌≡◌, ℕ, zero, suc, ◌<◌, ◌≤◌, Bool, true, false, cond, List, [], ◌∷◌, drop, length, Option, Some, None, refl, sym, ap, ◌∙◌, arith}
use Rattle.std.specs.Prelude.{◌&&◌, ◌||◌, IsTrue, count_by, is_some, nat_eq, not}
use Rattle.std.specs.List.{filter as kept}
use Rattle.std.proofs.lemmas.List.Sums.{length-filter}
use Rattle.ps_flow.specs.Claiming.{streams}
use Rattle.ps_frame.specs.Tables.{Fields, Row}
use Rattle.ps_meaning.specs.Shape.{PhysicalKind, PhysicalNode, equi_join, filter_node, group_by_node, in_memory_join, in_memory_map, in_memory_sink, in_memory_source, independent_select, multiplexer, negative_slice, ordered_union, reduce, select_node, simple_projection, stream_map, streaming_slice, with_row_index, zip_node}
use Rattle.ps_meaning.specs.Sound.{HasInputs}
use Rattle.ps_options.specs.declared.options.Options.{Options}
use Rattle.ps_settle.proofs.Ends.{other_number}
use Rattle.ps_turns.specs.Claims.{Claim, claim_by}
use Rattle.ps_turns.specs.Heads.{Head}
use Rattle.ps_turns.specs.Progress.{Progress}
use Rattle.ps_turns.specs.Pulls.{pulls}
use Rattle.ps_world.specs.World.{Pipe, has_next, is_over, morsel_at, waiting}

module _ (o : Options) (p : PhysicalNode) (ss : List Fields) where
  -- what neither stores nor gives its own claims each morsel
  pub next_claims : (kind : PhysicalKind) → IsTrue (streams kind) → pulls kind ≡ false → (k : ℕ) → HasInputs kind k → 0 < k → (progress : Progress) (hs : List Head) (ds : List Bool) (i : ℕ) (m : ℕ × List Row) → (c : Claim) × (claim_by o p ss kind progress hs ds i (Some m) ≡ Some c)
  next_claims (in_memory_source t) s other k h some progress hs ds i m = absurd (omega (arith, h, some))
  next_claims (independent_select es) s other k h some progress hs ds i m = absurd (omega (arith, h, some))
  next_claims (select_node es extends) s other k h some progress hs ds i m = (_, refl)
  next_claims (with_row_index name offset) s other k h some progress hs ds i m = (_, refl)
  next_claims (streaming_slice offset l) s other k h some progress hs ds i m = (_, refl)
  next_claims (filter_node t) s other k h some progress hs ds i m = (_, refl)
  next_claims (simple_projection names) s other k h some progress hs ds i m = (_, refl)
  next_claims (stream_map step) s other k h some progress hs ds i m = (_, refl)
  next_claims ordered_union s other k h some progress hs ds i m = (_, refl)
  next_claims in_memory_sink s other k h some progress hs ds i m = absurd (let clash : true ≡ false = other in cc)
  next_claims (reduce es) s other k h some progress hs ds i m = absurd (let clash : false ≡ true = s in cc)
  next_claims (negative_slice back l) s other k h some progress hs ds i m = absurd (let clash : false ≡ true = s in cc)
  next_claims (in_memory_map step) s other k h some progress hs ds i m = absurd (let clash : false ≡ true = s in cc)
  next_claims (zip_node extend) s other k h some progress hs ds i m = absurd (let clash : false ≡ true = s in cc)
  next_claims multiplexer s other k h some progress hs ds i m = absurd (let clash : false ≡ true = s in cc)
  next_claims (group_by_node keys aggregates) s other k h some progress hs ds i m = absurd (let clash : false ≡ true = s in cc)
  next_claims (equi_join j) s other k h some progress hs ds i m = absurd (let clash : false ≡ true = s in cc)
  next_claims (in_memory_join j) s other k h some progress hs ds i m = absurd (let clash : false ≡ true = s in cc)

  -- of input 0, or of none
  first_only : (i : ℕ) (own : Option Claim) (c : Claim) → cond (nat_eq i 0) own None ≡ Some c → own ≡ Some c
  first_only i own c e = by (nat_eq i 0) e
    where
      by : (b : Bool) → cond b own None ≡ Some c → own ≡ Some c
      by true e = e
      by false e = absurd (let clash : None ≡ Some c = e in cc)

  -- without a morsel a node claims its own alone, whichever input is named
  pub own_claims : (kind : PhysicalKind) → IsTrue (streams kind) → (progress : Progress) (hs : List Head) (ds : List Bool) (i : ℕ) (c : Claim) → claim_by o p ss kind progress hs ds i None ≡ Some c → claim_by o p ss kind progress hs ds 0 None ≡ Some c
  own_claims (in_memory_source t) s progress hs ds i c e = first_only i _ c e
  own_claims (independent_select es) s progress hs ds i c e = first_only i _ c e
  own_claims (select_node es extends) s progress hs ds i c e = e
  own_claims (with_row_index name offset) s progress hs ds i c e = e
  own_claims (streaming_slice offset l) s progress hs ds i c e = e
  own_claims (filter_node t) s progress hs ds i c e = e
  own_claims (simple_projection names) s progress hs ds i c e = e
  own_claims (stream_map step) s progress hs ds i c e = e
  own_claims ordered_union s progress hs ds i c e = e
  own_claims in_memory_sink s progress hs ds i c e = e
  own_claims (reduce es) s progress hs ds i c e = absurd (let clash : false ≡ true = s in cc)
  own_claims (negative_slice back l) s progress hs ds i c e = absurd (let clash : false ≡ true = s in cc)
  own_claims (in_memory_map step) s progress hs ds i c e = absurd (let clash : false ≡ true = s in cc)
  own_claims (zip_node extend) s progress hs ds i c e = absurd (let clash : false ≡ true = s in cc)
  own_claims multiplexer s progress hs ds i c e = absurd (let clash : false ≡ true = s in cc)
  own_claims (group_by_node keys aggregates) s progress hs ds i c e = absurd (let clash : false ≡ true = s in cc)
  own_claims (equi_join j) s progress hs ds i c e = absurd (let clash : false ≡ true = s in cc)
  own_claims (in_memory_join j) s progress hs ds i c e = absurd (let clash : false ≡ true = s in cc)

-- a pipe with a next morsel isn't at its end
some_wait : (n : ℕ) (xs : List (Option (List Row))) → is_some (morsel_at n xs) ≡ true → 1 ≤ length (kept (λ (slot : Option (List Row)). is_some slot) (drop n xs))
some_wait n [] e = absurd (let clash : false ≡ true = e in cc)
some_wait zero (None ∷ xs) e = absurd (let clash : false ≡ true = e in cc)
some_wait zero (Some rs ∷ xs) e = omega arith
some_wait (suc n) (x ∷ xs) e = some_wait n xs e

pub still_waits : (p : Pipe) → has_next p ≡ true → is_over p ≡ false
still_waits p e = by p.is_dropped refl e
  where
    counted : 1 ≤ count_by (λ (slot : Option (List Row)). is_some slot) (drop p.next p.got) → (b : Bool) → (b && nat_eq (count_by (λ (slot : Option (List Row)). is_some slot) (drop p.next p.got)) 0) ≡ false
    counted some true = by_number (count_by (λ (slot : Option (List Row)). is_some slot) (drop p.next p.got)) some
      where
        by_number : (k : ℕ) → 1 ≤ k → nat_eq k 0 ≡ false
        by_number k h = other_number k 0 (λ is. absurd (omega (arith, h, is)))
    counted some false = refl

    by : (d : Bool) → p.is_dropped ≡ d → (not p.is_dropped && is_some (morsel_at p.next p.got)) ≡ true → (p.is_dropped || (p.is_closed && nat_eq (waiting p) 0)) ≡ false
    by true d e = absurd (let clash : false ≡ true = sym (ap (λ b. not b && is_some (morsel_at p.next p.got)) d) ∙ e in cc)
    by false d e =
        let there : is_some (morsel_at p.next p.got) ≡ true = sym (ap (λ b. not b && is_some (morsel_at p.next p.got)) d) ∙ e in
        let some = some_wait p.next p.got there in
        let many = length-filter (λ (slot : Option (List Row)). is_some slot) (drop p.next p.got) in
        ap (λ b. b || (p.is_closed && nat_eq (cond b 0 (count_by (λ (slot : Option (List Row)). is_some slot) (drop p.next p.got))) 0)) d ∙ counted (omega (arith, some, many)) p.is_closed
