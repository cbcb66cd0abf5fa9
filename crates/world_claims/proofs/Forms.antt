-- What a claim is, by kinds: rows of the node's own, a morsel that goes on, one that is kept, or what a join gives last.
use Rattle.std.proofs.Common.{◌≡◌, ◌≢◌, ℕ, zero, suc, ◌+◌, Bool, true, false, cond, List, [], ◌∷◌, length, Option, Some, None, refl, ap, subst, ◌∙◌, arith}
use Rattle.std.specs.Prelude.{IsFalse, IsTrue, get_or, nat_eq, nat_le, nat_lt, not, option_map, ◌&&◌, ◌||◌}
use Rattle.std.specs.List.{list_all, list_any}
use Rattle.std.proofs.lemmas.Bool.Decides.{nat_tests}
use Rattle.ps_frame.specs.Causes.{is_empty}
use Rattle.ps_frame.specs.Tables.{Fields, Row}
use Rattle.ps_meaning.specs.Joins.{fills_right}
use Rattle.ps_meaning.specs.Cases.{end_of}
use Rattle.ps_meaning.specs.Shape.{PhysicalKind, PhysicalNode, equi_join, filter_node, group_by_node, in_memory_join, in_memory_map, in_memory_sink, in_memory_source, independent_select, multiplexer, negative_slice, ordered_union, reduce, select_node, simple_projection, stream_map, streaming_slice, with_row_index, zip_node}
use Rattle.ps_meaning.specs.Steps.{JoinStep}
use Rattle.ps_options.specs.declared.options.Options.{Options}
use Rattle.ps_turns.specs.Claims.{Claim, Next, claim_by, of_join, of_kept, of_last, of_left, of_made, of_parts, of_reduce, owes_last, passes, with_kept, with_slot}
use Rattle.ps_turns.specs.Cuts.{is_exhausted}
use Rattle.ps_turns.specs.Heads.{Head}
use Rattle.ps_turns.specs.Progress.{Progress, Stage, giving, is_multiplexer, is_taking, spent, taking}
use Rattle.ps_world.specs.Facts.{is_over_slice, keeps_one}
use Rattle.world_claims.specs.Numbering.{counts_own, keeps_slots, last_given, only_takes, passes_numbers}

-- what a claim leaves of the slots
pub data KeepsTaken (kind : PhysicalKind) (a b : Progress) : Type 0 where
  as_it_was : IsFalse (keeps_slots kind 0) → b.taken ≡ a.taken → KeepsTaken kind a b
  with_first : (rs : List Row) → b.taken ≡ with_kept 0 rs a.taken → KeepsTaken kind a b

pub data Form (kind : PhysicalKind) (a : Progress) (d : Bool) (i : ℕ) (next : Next) (c : Claim) : Type 0 where
  gives_own : IsTrue (counts_own kind) → IsFalse (only_takes kind a.stage) → c.gives ≡ a.sent → IsFalse (keeps_one c.task) → c.progress.sent ≡ a.sent + 1 → c.progress.taken ≡ a.taken → c.takes_morsel ≡ false → c.drops_input ≡ false → c.progress.stage ≡ a.stage → Form kind a d i next c
  gives_union : kind ≡ ordered_union → (m : ℕ × List Row) → next ≡ Some m → c.gives ≡ a.sent → IsFalse (keeps_one c.task) → c.progress.sent ≡ a.sent + 1 → c.progress.taken ≡ a.taken → c.takes_morsel ≡ true → c.drops_input ≡ false → c.progress.stage ≡ a.stage → Form kind a d i next c
  passes_on : IsTrue (passes_numbers kind) → IsFalse (only_takes kind a.stage) → (m : ℕ × List Row) → next ≡ Some m → c.gives ≡ m.0 → IsFalse (keeps_one c.task) → last_given kind c.progress ≡ last_given kind a → KeepsTaken kind a c.progress → c.takes_morsel ≡ true
      → (IsTrue c.drops_input → IsTrue (is_over_slice kind c.progress.booked)) → (i ≢ 0 → IsFalse (keeps_slots kind 1)) → c.progress.stage ≡ a.stage → Form kind a d i next c
  keeps_slot : IsTrue (only_takes kind a.stage) → IsTrue (keeps_slots kind i) → (i ≡ 0 → IsFalse (passes_numbers kind)) → (m : ℕ × List Row) → next ≡ Some m → c.number ≡ m.0 → IsTrue (keeps_one c.task) → c.progress ≡ record a { taken = with_slot i a.taken } → c.takes_morsel ≡ true → c.drops_input ≡ false → Form kind a d i next c
  gives_last : (j : JoinStep) → kind ≡ equi_join j → IsTrue (fills_right j.args.how) → IsFalse (only_takes kind a.stage) → IsTrue d → c.gives ≡ length (get_or a.taken 0 []) → IsFalse (keeps_one c.task) → a.sent ≡ 0 → c.progress.sent ≡ a.sent + 1 → c.progress.taken ≡ a.taken → c.takes_morsel ≡ false → c.drops_input ≡ false → c.progress.stage ≡ a.stage → Form kind a d i next c

the_claim : (x c : Claim) → Some x ≡ Some c → x ≡ c
the_claim x c e = cc

-- from a test and a second one
by_first : (b e : Bool) (x c : Claim) → cond b (cond e None (Some x)) None ≡ Some c → x ≡ c
by_first true true x c q = absurd (let no : None ≡ Some c = q in cc)
by_first true false x c q = the_claim x c q
by_first false e x c q = absurd (let no : None ≡ Some c = q in cc)

by_second : (b e : Bool) (x c : Claim) → cond b (cond e (Some x) None) None ≡ Some c → x ≡ c
by_second true true x c q = the_claim x c q
by_second true false x c q = absurd (let no : None ≡ Some c = q in cc)
by_second false e x c q = absurd (let no : None ≡ Some c = q in cc)

no_claim : {A : Type 0} (b : Bool) (c : Claim) → cond {A = Option Claim} b None None ≡ Some c → A
no_claim true c q = absurd (let no : None ≡ Some c = q in cc)
no_claim false c q = absurd (let no : None ≡ Some c = q in cc)

from_next : (f : ℕ × List Row → Claim) (next : Next) (c : Claim) → option_map f next ≡ Some c → (m : ℕ × List Row) × (next ≡ Some m) × (f m ≡ c)
from_next f None c q = absurd (let no : None ≡ Some c = q in cc)
from_next f (Some m) c q = (m, refl, the_claim (f m) c q)

module _ (o : Options) (p : PhysicalNode) (ss : List Fields) (a : Progress) (hs : List Head) (ds : List Bool) (i : ℕ) (next : Next) (c : Claim) where
  abbrev d : Bool
  d = get_or ds 0 false

  own : (kind : PhysicalKind) → IsTrue (counts_own kind) → IsFalse (only_takes kind a.stage) → (x : Claim) → x ≡ c → x.gives ≡ a.sent → IsFalse (keeps_one x.task) → x.progress.sent ≡ a.sent + 1 → x.progress.taken ≡ a.taken → x.takes_morsel ≡ false → x.drops_input ≡ false → x.progress.stage ≡ a.stage → Form kind a d i next c
  own kind k t x e g n s l m r v = subst (λ y. Form kind a d i next y) e (gives_own k t g n s l m r v)

  kept : (kind : PhysicalKind) → IsTrue (only_takes kind a.stage) → IsTrue (keeps_slots kind i) → (i ≡ 0 → IsFalse (passes_numbers kind)) → of_kept o p ss i a next ≡ Some c → Form kind a d i next c
  kept kind t k z q =
      let r = from_next (λ m. record (Rattle.ps_turns.specs.Claims.of_morsel o p ss (record a { taken = with_slot i a.taken }) (Rattle.ps_turns.specs.Tasks.keeps p) m.0 m.1) { schemas = get_or ss i [] ∷ [] }) next c q in
      subst (λ y. Form kind a d i next y) r.2 (keeps_slot t k z r.0 r.1 refl refl refl refl refl)

  -- what made a table gives it
  made : (kind : PhysicalKind) → IsTrue (counts_own kind) → ((st : Stage) → a.stage ≡ st → is_taking st ≡ false → IsFalse (only_takes kind a.stage)) → (st : Stage) (mk : Option (List Row)) → a.stage ≡ st → cond (nat_eq i 0) (of_made o p ss a st mk) None ≡ Some c → Form kind a d i next c
  made kind k t giving (Some rs) e q = own kind k (t giving e refl) _ (by_first (nat_eq i 0) (is_exhausted o rs a.sent) _ c q) refl refl refl refl refl refl refl
  made kind k t giving None e q = no_claim (nat_eq i 0) c q
  made kind k t taking mk e q = no_claim (nat_eq i 0) c q
  made kind k t spent mk e q = no_claim (nat_eq i 0) c q

  reduced : (es : List Rattle.ps_meaning.specs.Steps.Named) (st : Stage) → a.stage ≡ st → of_reduce o p ss st i a next ≡ Some c → Form (reduce es) a d i next c
  reduced es taking e q = kept (reduce es) (ap is_taking e) refl (λ z. refl) q
  reduced es giving e q = own (reduce es) refl (ap is_taking e) _ (by_second (nat_eq i 0) (nat_eq a.sent 0) _ c q) refl refl refl refl refl refl refl
  reduced es spent e q = absurd (let no : None ≡ Some c = q in cc)

  parted : (keys aggregates : List Rattle.ps_meaning.specs.Steps.Named) (st : Stage) → a.stage ≡ st → of_parts o p ss st i a next ≡ Some c → Form (group_by_node keys aggregates) a d i next c
  parted keys aggregates taking e q = kept (group_by_node keys aggregates) (ap is_taking e) refl (λ z. refl) q
  parted keys aggregates giving e q = own (group_by_node keys aggregates) refl (ap is_taking e) _ (by_second (nat_eq i 0) (nat_lt a.sent (length a.lists)) _ c q) refl refl refl refl refl refl refl
  parted keys aggregates spent e q = absurd (let no : None ≡ Some c = q in cc)

-- a join takes its left morsels, and keeps them where right rows come last
left_taken : (j : JoinStep) (rs : List Row) (a : Progress) (b : Bool) → fills_right j.args.how ≡ b → KeepsTaken (equi_join j) a (cond b (record a { taken = with_kept 0 rs a.taken }) a)
left_taken j rs a true e = with_first rs refl
left_taken j rs a false e = as_it_was e refl

left_sent : (a b : Progress) (t : Bool) → a.sent ≡ b.sent → (cond t a b).sent ≡ b.sent
left_sent a b true e = e
left_sent a b false e = refl

left_stage : (a b : Progress) (t : Bool) → a.stage ≡ b.stage → (cond t a b).stage ≡ b.stage
left_stage a b true e = e
left_stage a b false e = refl

both_hold : (a b : Bool) → (a && b) ≡ true → (a ≡ true) × (b ≡ true)
both_hold true b e = (refl, e)
both_hold false b e = absurd (let no : false ≡ true = e in cc)

joined : (o : Options) (p : PhysicalNode) (ss : List Fields) (a : Progress) (ds : List Bool) (i : ℕ) (next : Next) (c : Claim) (j : JoinStep) (st : Stage) → a.stage ≡ st → of_join o p ss j st (get_or ds 0 false) i a next ≡ Some c → Form (equi_join j) a (get_or ds 0 false) i next c
joined o p ss a ds zero next c j taking e q = absurd (let no : None ≡ Some c = q in cc)
joined o p ss a ds (suc i) next c j taking e q = kept o p ss a [] ds (suc i) next c (equi_join j) (ap is_taking e) refl (λ z. absurd (let no : suc i ≡ 0 = z in omega arith)) q
joined o p ss a ds zero (Some m) c j giving e q =
    let same = the_claim (of_left o p ss j a m.0 m.1) c q in
    subst (λ y. Form (equi_join j) a (get_or ds 0 false) 0 (Some m) y) same
    (passes_on refl (ap is_taking e) m refl refl refl (left_sent (record a { taken = with_kept 0 m.1 a.taken }) a (fills_right j.args.how) refl) (left_taken j m.1 a (fills_right j.args.how) refl) refl (λ x. let no : false ≡ true = x in cc) (λ z. absurd (z refl)) (left_stage (record a { taken = with_kept 0 m.1 a.taken }) a (fills_right j.args.how) refl))
joined o p ss a ds zero None c j giving e q = by (get_or ds 0 false && owes_last j a) refl q
  where
    by : (b : Bool) → (get_or ds 0 false && owes_last j a) ≡ b → cond b (Some (of_last o p ss j a)) None ≡ Some c → Form (equi_join j) a (get_or ds 0 false) 0 None c
    by true h r =
        let parts = both_hold (get_or ds 0 false) (owes_last j a) h in
        let owed = both_hold (fills_right j.args.how) (nat_eq a.sent 0) parts.1 in
        let none_sent : a.sent ≡ 0 = let e : nat_eq a.sent 0 ≡ true = owed.1 in grind (arith, nat_tests) in
        subst (λ y. Form (equi_join j) a (get_or ds 0 false) 0 None y) (the_claim (of_last o p ss j a) c r) (gives_last j refl owed.0 (ap is_taking e) parts.0 refl refl none_sent refl refl refl refl refl)
    by false h r = absurd (let no : None ≡ Some c = r in cc)
joined o p ss a ds (suc i) next c j giving e q = absurd (let no : None ≡ Some c = q in cc)
joined o p ss a ds i next c j spent e q = absurd (let no : None ≡ Some c = q in cc)

module _ (o : Options) (p : PhysicalNode) (ss : List Fields) (a : Progress) (hs : List Head) (ds : List Bool) (i : ℕ) (next : Next) (c : Claim) where
  onward : (kind : PhysicalKind) → IsTrue (passes_numbers kind) → IsFalse (only_takes kind a.stage) → IsFalse (keeps_slots kind 0) → IsFalse (keeps_slots kind 1) → ((m : ℕ × List Row) → (passes o p ss kind a m.0 m.1).gives ≡ m.0)
      → ((m : ℕ × List Row) → IsFalse (keeps_one (passes o p ss kind a m.0 m.1).task)) → ((m : ℕ × List Row) → last_given kind (passes o p ss kind a m.0 m.1).progress ≡ last_given kind a) → ((m : ℕ × List Row) → (passes o p ss kind a m.0 m.1).progress.taken ≡ a.taken)
      → ((m : ℕ × List Row) → (passes o p ss kind a m.0 m.1).takes_morsel ≡ true) → ((m : ℕ × List Row) → IsTrue (passes o p ss kind a m.0 m.1).drops_input → IsTrue (is_over_slice kind (passes o p ss kind a m.0 m.1).progress.booked)) → ((m : ℕ × List Row) → (passes o p ss kind a m.0 m.1).progress.stage ≡ a.stage)
      → option_map (λ m. passes o p ss kind a m.0 m.1) next ≡ Some c → Form kind a (get_or ds 0 false) i next c
  onward kind k t z y g n l s m r v q =
      let x = from_next (λ m. passes o p ss kind a m.0 m.1) next c q in
      subst (λ b. Form kind a (get_or ds 0 false) i next b) x.2 (passes_on k t x.0 x.1 (g x.0) (n x.0) (l x.0) (as_it_was z (s x.0)) (m x.0) (r x.0) (λ h. y) (v x.0))

  pub form : (kind : PhysicalKind) → claim_by o p ss kind a hs ds i next ≡ Some c → Form kind a (get_or ds 0 false) i next c
  form (in_memory_source t) q = own o p ss a hs ds i next c (in_memory_source t) refl refl _ (by_first (nat_eq i 0) (is_exhausted o t.rows a.sent) _ c q) refl refl refl refl refl refl refl
  form (independent_select es) q = own o p ss a hs ds i next c (independent_select es) refl refl _ (by_second (nat_eq i 0) (nat_eq a.sent 0) _ c q) refl refl refl refl refl refl refl
  form (in_memory_map step) q = made o p ss a hs ds i next c (in_memory_map step) refl (λ st e t. ap is_taking e ∙ t) a.stage a.made refl q
  form (in_memory_join j) q = made o p ss a hs ds i next c (in_memory_join j) refl (λ st e t. ap is_taking e ∙ t) a.stage a.made refl q
  form (negative_slice back n) q = made o p ss a hs ds i next c (negative_slice back n) refl (λ st e t. ap is_taking e ∙ t) a.stage a.made refl q
  form (zip_node extend) q = own o p ss a hs ds i next c (zip_node extend) refl refl _ (by_second (nat_eq i 0) (list_all (Rattle.ps_turns.specs.Heads.is_ready_head extend) hs && list_any (λ (h : Head). not (is_empty h.rest)) hs) _ c q) refl refl refl refl refl refl refl
  form (reduce es) q = reduced o p ss a hs ds i next c es a.stage refl q
  form (group_by_node keys aggregates) q = parted o p ss a hs ds i next c keys aggregates a.stage refl q
  form (equi_join j) q = joined o p ss a ds i next c j a.stage refl q
  form in_memory_sink q = absurd (let no : None ≡ Some c = q in cc)
  form multiplexer q = absurd (let no : None ≡ Some c = q in cc)
  form ordered_union q =
      let x = from_next (λ m. passes o p ss ordered_union a m.0 m.1) next c q in
      subst (λ b. Form ordered_union a (get_or ds 0 false) i next b) x.2 (gives_union refl x.0 x.1 refl refl refl refl refl refl refl)
  form (select_node es extends) q = onward (select_node es extends) refl refl refl refl (λ m. refl) (λ m. refl) (λ m. refl) (λ m. refl) (λ m. refl) (λ m h. absurd (let no : false ≡ true = h in cc)) (λ m. refl) q
  form (with_row_index name offset) q = onward (with_row_index name offset) refl refl refl refl (λ m. refl) (λ m. refl) (λ m. refl) (λ m. refl) (λ m. refl) (λ m h. absurd (let no : false ≡ true = h in cc)) (λ m. refl) q
  form (streaming_slice offset n) q = onward (streaming_slice offset n) refl refl refl refl (λ m. refl) (λ m. refl) (λ m. refl) (λ m. refl) (λ m. refl) (λ m h. over (nat_eq n 0) (nat_le (end_of offset n) (a.booked + length m.1)) h) (λ m. refl) q
    where
      over : (b e : Bool) → e ≡ true → (b || e) ≡ true
      over true e h = refl
      over false e h = h
  form (filter_node e) q = onward (filter_node e) refl refl refl refl (λ m. refl) (λ m. refl) (λ m. refl) (λ m. refl) (λ m. refl) (λ m h. absurd (let no : false ≡ true = h in cc)) (λ m. refl) q
  form (simple_projection names) q = onward (simple_projection names) refl refl refl refl (λ m. refl) (λ m. refl) (λ m. refl) (λ m. refl) (λ m. refl) (λ m h. absurd (let no : false ≡ true = h in cc)) (λ m. refl) q
  form (stream_map step) q = onward (stream_map step) refl refl refl refl (λ m. refl) (λ m. refl) (λ m. refl) (λ m. refl) (λ m. refl) (λ m h. absurd (let no : false ≡ true = h in cc)) (λ m. refl) q

or_more : (b x y : Bool) → (x ≡ true → y ≡ true) → (b || x) ≡ true → (b || y) ≡ true
or_more true x y f h = refl
or_more false x y f h = f h

further : (k booked more : ℕ) → nat_le k booked ≡ true → nat_le k (booked + more) ≡ true
further k booked more e = grind (arith, nat_tests)

-- a slice that is over stays so by a claim
pub stays_over : (o : Options) (p : PhysicalNode) (ss : List Fields) (a : Progress) (hs : List Head) (ds : List Bool) (i : ℕ) (next : Next) (c : Claim) (kind : PhysicalKind) → claim_by o p ss kind a hs ds i next ≡ Some c → is_over_slice kind a.booked ≡ true
    → is_over_slice kind c.progress.booked ≡ true
stays_over o p ss a hs ds i next c (streaming_slice offset n) q h =
    let x = from_next (λ m. passes o p ss (streaming_slice offset n) a m.0 m.1) next c q in
    let more = or_more (nat_eq n 0) (nat_le (end_of offset n) a.booked) (nat_le (end_of offset n) (a.booked + length x.0.1)) (further (end_of offset n) a.booked (length x.0.1)) h in
    subst (λ (y : Claim). is_over_slice (streaming_slice offset n) y.progress.booked ≡ true) x.2 more
stays_over o p ss a hs ds i next c kind q h = absurd (let no : false ≡ true = h in cc)

-- no multiplexer claims
pub own_single : (kind : PhysicalKind) → counts_own kind ≡ true → is_multiplexer kind ≡ false
own_single multiplexer k = absurd (let no : false ≡ true = k in cc)
own_single kind k = refl

pub passing_single : (kind : PhysicalKind) → passes_numbers kind ≡ true → is_multiplexer kind ≡ false
passing_single multiplexer k = absurd (let no : false ≡ true = k in cc)
passing_single kind k = refl

pub slot_single : (kind : PhysicalKind) (i : ℕ) → keeps_slots kind i ≡ true → is_multiplexer kind ≡ false
slot_single multiplexer i k = absurd (let no : false ≡ true = k in cc)
slot_single kind i k = refl

pub claims_single : {kind : PhysicalKind} {a : Progress} {d : Bool} {i : ℕ} {next : Next} {c : Claim} → Form kind a d i next c → is_multiplexer kind ≡ false
claims_single {kind} (gives_own k t g n s l m r v) = own_single kind k
claims_single (gives_union k m e g n s l t r v) = ap is_multiplexer k
claims_single {kind} (passes_on k t m e g n l s x r y v) = passing_single kind k
claims_single {kind} (keeps_slot t k z m e n y s x r) = slot_single kind _ k
claims_single (gives_last j k f t y g n z s l m r v) = ap is_multiplexer k
