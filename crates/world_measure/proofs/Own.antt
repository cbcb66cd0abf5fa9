-- A claim takes a morsel, or what its node may claim of its own gets less.
use Rattle.std.proofs.Common.{◌≡◌, ℕ, zero, suc, ◌<◌, ◌+◌, ◌-◌, ◌*◌, ◌/◌, ◌⊎◌, Bool, true, false, cond, List, [], length, Option, None, Some, refl, ap, subst, ◌∙◌, inl, inr, arith}
use Rattle.std.specs.Prelude.{get_or, nat_eq, nat_le, nat_lt, option_map, ◌&&◌}
use Rattle.std.proofs.lemmas.Bool.Decides.{nat_tests}
use Rattle.std.proofs.Math.Nat.{le-max_right, le-mul_of_pos_right}
use Rattle.ps_frame.specs.Tables.{Fields, Row}
use Rattle.ps_meaning.specs.Shape.{PhysicalKind, PhysicalNode, equi_join, filter_node, group_by_node, in_memory_join, in_memory_map, in_memory_sink, in_memory_source, independent_select, multiplexer, negative_slice, ordered_union, reduce, select_node, simple_projection, stream_map, streaming_slice, with_row_index, zip_node}
use Rattle.ps_meaning.specs.Steps.{JoinStep, Named}
use Rattle.ps_meaning.specs.Joins.{fills_right}
use Rattle.ps_options.specs.declared.options.Options.{Options}
use Rattle.ps_turns.specs.Claims.{Claim, Next, claim_by, of_join, of_kept, of_last, of_left, of_made, of_parts, of_reduce, of_source, owes_last, passes, with_kept}
use Rattle.ps_turns.specs.Cuts.{cuts_of, is_exhausted, morsel_size}
use Rattle.ps_turns.specs.Heads.{Head, heads_by, stored_inputs}
use Rattle.ps_turns.specs.Progress.{Progress, Stage, giving, spent, taking}
use Rattle.world_measure.proofs.ZipRows.{zip_falls}
use Rattle.world_measure.specs.Turns.{turns_of}
use Rattle.world_measure.specs.Left.{cuts_left, made_left, own_left}

pub data Does (kind : PhysicalKind) (a : Progress) (next : Next) (c : Claim) : Type 0 where
  takes : (m : ℕ × List Row) → next ≡ Some m → c.takes_morsel ≡ true → turns_of c.progress ≡ turns_of a → Does kind a next c
  gives : c.takes_morsel ≡ false → own_left kind c.progress < own_left kind a → turns_of c.progress ≡ turns_of a → Does kind a next c

-- TESTS
of_first : (b : Bool) (x : Option Claim) (c : Claim) → cond b x None ≡ Some c → x ≡ Some c
of_first true x c q = q
of_first false x c q = absurd (let no : None ≡ Some c = q in cc)

the_claim : (x c : Claim) → Some x ≡ Some c → x ≡ c
the_claim x c e = cc

unless : (b : Bool) (x c : Claim) → cond b None (Some x) ≡ Some c → (b ≡ false) × (x ≡ c)
unless true x c q = absurd (let no : None ≡ Some c = q in cc)
unless false x c q = (refl, the_claim x c q)

only_if : (b : Bool) (x c : Claim) → cond b (Some x) None ≡ Some c → (b ≡ true) × (x ≡ c)
only_if true x c q = (refl, the_claim x c q)
only_if false x c q = absurd (let no : None ≡ Some c = q in cc)

both : (a b : Bool) → (a && b) ≡ true → (a ≡ true) × (b ≡ true)
both true b e = (refl, e)
both false b e = absurd (let no : false ≡ true = e in cc)

not_both : (a b : Bool) → (a && b) ≡ false → (a ≡ false) ⊎ (b ≡ false)
not_both true b e = inr e
not_both false b e = inl refl

-- CUTS
fewer_cuts : (o : Options) (rs : List Row) (k : ℕ) → is_exhausted o rs k ≡ false → cuts_left rs (k + 1) < cuts_left rs k
fewer_cuts o rs k e = by (not_both (nat_lt 0 k) (nat_le (length rs) (k * morsel_size o (length rs))) e)
  where
    none_sent : (n : ℕ) → nat_lt 0 n ≡ false → n ≡ 0
    none_sent n h = grind (arith, nat_tests)

    rows_remain : (n m : ℕ) → nat_le n m ≡ false → m < n
    rows_remain n m h = grind (arith, nat_tests)

    by : (nat_lt 0 k ≡ false) ⊎ (nat_le (length rs) (k * morsel_size o (length rs)) ≡ false) → cuts_left rs (k + 1) < cuts_left rs k
    by (inl first) = let z = none_sent k first in omega arith
    by (inr more) =
        let remain = rows_remain (length rs) (k * morsel_size o (length rs)) more in
        let size = le-max_right ((length rs + (cuts_of o (length rs) - 1)) / cuts_of o (length rs)) 1 in
        let sent = le-mul_of_pos_right {m = morsel_size o (length rs)} k size in
        omega arith

one_less : (k : ℕ) → nat_eq k 0 ≡ true → 1 - (k + 1) < 1 - k
one_less k e = let z : k ≡ 0 = grind (arith, nat_tests) in omega arith

part_less : (k n : ℕ) → nat_lt k n ≡ true → n - (k + 1) < n - k
part_less k n e = let less : k < n = grind (arith, nat_tests) in omega arith

module _ (o : Options) (p : PhysicalNode) (ss : List Fields) (a : Progress) (ds : List Bool) (i : ℕ) (next : Next) (c : Claim) where
  of_cuts : (kind : PhysicalKind) (rs : List Row) → ((k : ℕ) → own_left kind (record a { sent = k }) ≡ cuts_left rs k) → of_source o p ss a rs ≡ Some c → Does kind a next c
  of_cuts kind rs left q =
      let r = unless (is_exhausted o rs a.sent) _ c q in
      let before = left a.sent in
      let after = left (a.sent + 1) in
      let less = fewer_cuts o rs a.sent r.0 in
      subst (λ x. Does kind a next x) r.1 (gives refl (omega arith) refl)

  made : (kind : PhysicalKind) → ((x : Progress) → own_left kind x ≡ made_left x.made x.sent) → (st : Stage) (mk : Option (List Row)) → a.made ≡ mk → of_made o p ss a st mk ≡ Some c → Does kind a next c
  made kind left giving (Some rs) e q = of_cuts kind rs (λ k. left (record a { sent = k }) ∙ ap (λ mk. made_left mk k) e) q
  made kind left giving None e q = absurd (let no : None ≡ Some c = q in cc)
  made kind left taking mk e q = absurd (let no : None ≡ Some c = q in cc)
  made kind left spent mk e q = absurd (let no : None ≡ Some c = q in cc)

  kept : (kind : PhysicalKind) → (n : Next) → next ≡ n → of_kept o p ss i a n ≡ Some c → Does kind a next c
  kept kind None e q = absurd (let no : None ≡ Some c = q in cc)
  kept kind (Some m) e q = subst (λ x. Does kind a next x) (the_claim _ c q) (takes m e refl refl)

  reduced : (es : List Named) (st : Stage) → of_reduce o p ss st i a next ≡ Some c → Does (reduce es) a next c
  reduced es taking q = kept (reduce es) next refl q
  reduced es giving q =
      let r = only_if (nat_eq a.sent 0) _ c (of_first (nat_eq i 0) _ c q) in
      subst (λ x. Does (reduce es) a next x) r.1 (gives refl (one_less a.sent r.0) refl)
  reduced es spent q = absurd (let no : None ≡ Some c = q in cc)

  parted : (keys aggregates : List Named) (st : Stage) → of_parts o p ss st i a next ≡ Some c → Does (group_by_node keys aggregates) a next c
  parted keys aggregates taking q = kept (group_by_node keys aggregates) next refl q
  parted keys aggregates giving q =
      let r = only_if (nat_lt a.sent (length a.lists)) _ c (of_first (nat_eq i 0) _ c q) in
      subst (λ x. Does (group_by_node keys aggregates) a next x) r.1 (gives refl (part_less a.sent (length a.lists) r.0) refl)
  parted keys aggregates spent q = absurd (let no : None ≡ Some c = q in cc)

  passed : (kind : PhysicalKind) → ((m : ℕ × List Row) → (passes o p ss kind a m.0 m.1).takes_morsel ≡ true) → ((m : ℕ × List Row) → turns_of (passes o p ss kind a m.0 m.1).progress ≡ turns_of a) → (n : Next) → next ≡ n → option_map (λ m. passes o p ss kind a m.0 m.1) n ≡ Some c → Does kind a next c
  passed kind t u None e q = absurd (let no : None ≡ Some c = q in cc)
  passed kind t u (Some m) e q = subst (λ x. Does kind a next x) (the_claim _ c q) (takes m e (t m) (u m))

-- a join that keeps its left morsels stays in its stage
left_turns : (j : JoinStep) (rs : List Row) (a : Progress) (b : Bool) → turns_of (cond b (record a { taken = with_kept 0 rs a.taken }) a) ≡ turns_of a
left_turns j rs a true = refl
left_turns j rs a false = refl

joined : (o : Options) (p : PhysicalNode) (ss : List Fields) (a : Progress) (d : Bool) (i : ℕ) (next : Next) (c : Claim) (j : JoinStep) (st : Stage) → of_join o p ss j st d i a next ≡ Some c → Does (equi_join j) a next c
joined o p ss a d zero next c j taking q = absurd (let no : None ≡ Some c = q in cc)
joined o p ss a d (suc i) next c j taking q = kept o p ss a [] (suc i) next c (equi_join j) next refl q
joined o p ss a d zero (Some m) c j giving q = subst (λ x. Does (equi_join j) a (Some m) x) (the_claim (of_left o p ss j a m.0 m.1) c q) (takes m refl refl (left_turns j m.1 a (fills_right j.args.how)))
joined o p ss a d zero None c j giving q =
    let r = only_if (d && owes_last j a) (of_last o p ss j a) c q in
    let owed = both d (fills_right j.args.how && nat_eq a.sent 0) r.0 in
    let first = both (fills_right j.args.how) (nat_eq a.sent 0) owed.1 in
    subst (λ x. Does (equi_join j) a None x) r.1 (gives refl (one_less a.sent first.1) refl)
joined o p ss a d (suc i) next c j giving q = absurd (let no : None ≡ Some c = q in cc)
joined o p ss a d i next c j spent q = absurd (let no : None ≡ Some c = q in cc)

module _ (o : Options) (p : PhysicalNode) (ss : List Fields) (a : Progress) (hs : List Head) (ds : List Bool) (i : ℕ) (next : Next) (c : Claim) where
  pub does : (kind : PhysicalKind) → ((extend : Bool) → kind ≡ zip_node extend → hs ≡ heads_by extend a.booked (stored_inputs ds a.stores)) → claim_by o p ss kind a hs ds i next ≡ Some c → Does kind a next c
  does (in_memory_source t) heads q = of_cuts o p ss a ds i next c (in_memory_source t) t.rows (λ k. refl) (of_first (nat_eq i 0) _ c q)
  does (independent_select es) heads q =
      let r = only_if (nat_eq a.sent 0) _ c (of_first (nat_eq i 0) _ c q) in
      subst (λ x. Does (independent_select es) a next x) r.1 (gives refl (one_less a.sent r.0) refl)
  does (in_memory_map step) heads q = made o p ss a ds i next c (in_memory_map step) (λ x. refl) a.stage a.made refl (of_first (nat_eq i 0) _ c q)
  does (in_memory_join j) heads q = made o p ss a ds i next c (in_memory_join j) (λ x. refl) a.stage a.made refl (of_first (nat_eq i 0) _ c q)
  does (negative_slice back n) heads q = made o p ss a ds i next c (negative_slice back n) (λ x. refl) a.stage a.made refl (of_first (nat_eq i 0) _ c q)
  does (zip_node extend) heads q =
      let r = only_if _ _ c (of_first (nat_eq i 0) _ c q) in
      subst (λ x. Does (zip_node extend) a next x) r.1 (gives refl (zip_falls extend a.booked ds a.stores hs (heads extend refl) r.0) refl)
  does (reduce es) heads q = reduced o p ss a ds i next c es a.stage q
  does (group_by_node keys aggregates) heads q = parted o p ss a ds i next c keys aggregates a.stage q
  does (equi_join j) heads q = joined o p ss a (get_or ds 0 false) i next c j a.stage q
  does in_memory_sink heads q = absurd (let no : None ≡ Some c = q in cc)
  does multiplexer heads q = absurd (let no : None ≡ Some c = q in cc)
  does ordered_union heads q = passed o p ss a ds i next c ordered_union (λ m. refl) (λ m. refl) next refl q
  does (select_node es extends) heads q = passed o p ss a ds i next c (select_node es extends) (λ m. refl) (λ m. refl) next refl q
  does (filter_node e) heads q = passed o p ss a ds i next c (filter_node e) (λ m. refl) (λ m. refl) next refl q
  does (simple_projection names) heads q = passed o p ss a ds i next c (simple_projection names) (λ m. refl) (λ m. refl) next refl q
  does (stream_map step) heads q = passed o p ss a ds i next c (stream_map step) (λ m. refl) (λ m. refl) next refl q
  does (with_row_index name offset) heads q = passed o p ss a ds i next c (with_row_index name offset) (λ m. refl) (λ m. refl) next refl q
  does (streaming_slice offset n) heads q = passed o p ss a ds i next c (streaming_slice offset n) (λ m. refl) (λ m. refl) next refl q
