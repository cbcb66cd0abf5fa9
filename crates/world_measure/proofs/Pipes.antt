-- Changes of pipes: which of them leave no more to take.
use Rattle.std.proofs.Common.{◌≡◌, ℕ, ◌<◌, ◌+◌, ◌-◌, ◌≤◌, ◌⊎◌, Bool, true, false, cond, List, [], ◌∷◌, ◌++◌, length, Some, refl, sym, ap, subst, ◌∙◌, inl, inr, arith}
use Rattle.std.specs.Prelude.{Contains, map, nat_eq}
use Rattle.std.proofs.lemmas.Bool.Decides.{nat_tests}
use Rattle.std.proofs.lemmas.Option.{slice_get_within}
use Rattle.ps_frame.specs.Tables.{Row}
use Rattle.ps_ports.specs.Wires.{Wire}
use Rattle.ps_world.specs.Pipes.{change_pipes, dropped_pipe, is_input, taken, with_answer, with_morsel}
use Rattle.ps_world.specs.World.{Pipe, has_next}
use Rattle.world_facts.proofs.CutOff.{both_true}
use Rattle.world_facts.proofs.HandedIn.{length_set}
use Rattle.world_facts.proofs.Taken.{next_slot}
use Rattle.world_laws.proofs.InOrder.{contains_cases, contains_first, contains_later, none_in_nil}
use Rattle.world_measure.specs.Left.{untaken, untaken_by}

-- what one pipe adds
abbrev pub untaken_at : ℕ → Pipe → ℕ
untaken_at j p = cond (nat_eq p.wire.receiver j) (untaken p) 0

pub not_more : (j : ℕ) (g : Pipe → Pipe) (ps : List Pipe) → ((p : Pipe) → Contains ps p → untaken_at j (g p) ≤ untaken_at j p) → untaken_by j (map g ps) ≤ untaken_by j ps
not_more j g [] h = omega arith
not_more j g (p ∷ ps) h = let here = h p (contains_first p ps) in let rest = not_more j g ps (λ q c. h q (contains_later p q ps c)) in omega arith

pub fewer : (j : ℕ) (g : Pipe → Pipe) (ps : List Pipe) → ((p : Pipe) → Contains ps p → untaken_at j (g p) ≤ untaken_at j p) → (p : Pipe) → Contains ps p → untaken_at j (g p) < untaken_at j p → untaken_by j (map g ps) < untaken_by j ps
fewer j g [] h p c less = absurd (none_in_nil p c)
fewer j g (q ∷ ps) h p c less = by (fewer j g ps (λ x d. h x (contains_later q x ps d)) p) (contains_cases q p ps c)
  where
    by : (Contains ps p → untaken_at j (g p) < untaken_at j p → untaken_by j (map g ps) < untaken_by j ps) → (q ≡ p) ⊎ Contains ps p → untaken_by j (map g (q ∷ ps)) < untaken_by j (q ∷ ps)
    by rest (inl same) =
        let here : untaken_at j (g q) < untaken_at j q = subst (λ x. untaken_at j (g x) < untaken_at j x) (sym same) less in
        let others = not_more j g ps (λ x d. h x (contains_later q x ps d)) in
        omega arith
    by rest (inr later) = let here = h q (contains_first q ps) in let others = rest later less in omega arith

pub as_many : (j : ℕ) (g : Pipe → Pipe) (ps : List Pipe) → ((p : Pipe) → untaken_at j (g p) ≡ untaken_at j p) → untaken_by j (map g ps) ≡ untaken_by j ps
as_many j g [] h = refl
as_many j g (p ∷ ps) h = let here = h p in let rest = as_many j g ps h in λ i. here i + rest i

-- EACH CHANGE
in_parts : (r d : Bool) (n m : ℕ) → n ≤ m → cond r (cond d 0 n) 0 ≤ cond r (cond d 0 m) 0
in_parts true true n m h = omega arith
in_parts true false n m h = h
in_parts false d n m h = omega arith

none_left : (r d : Bool) (n : ℕ) → cond {A = ℕ} r 0 0 ≤ cond r (cond d 0 n) 0
none_left true d n = omega arith
none_left false d n = omega arith

taken_at : (j : ℕ) (p : Pipe) (b : Bool) → untaken_at j (cond b (taken p) p) ≤ untaken_at j p
taken_at j p true = in_parts (nat_eq p.wire.receiver j) p.is_dropped (length p.got - (p.next + 1)) (length p.got - p.next) (omega arith)
taken_at j p false = omega arith

dropped_at : (j : ℕ) (p : Pipe) (b : Bool) → untaken_at j (cond b (dropped_pipe p) p) ≤ untaken_at j p
dropped_at j p true = none_left (nat_eq p.wire.receiver j) p.is_dropped (length p.got - p.next)
dropped_at j p false = omega arith

-- a pipe of another reader
elsewhere_at : (j : ℕ) (g : Pipe → Pipe) (p : Pipe) → (g p).wire ≡ p.wire → nat_eq p.wire.receiver j ≡ false → untaken_at j (g p) ≤ untaken_at j p
elsewhere_at j g p same e =
    let none : untaken_at j (g p) ≡ 0 = ap (λ (u : Wire). cond (nat_eq u.receiver j) (untaken (g p)) 0) same ∙ ap (λ b. cond b (untaken (g p)) 0) e in
    omega arith

-- wires that lead onward
abbrev pub LeadOn : List Pipe → Type 0
LeadOn ps = (p : Pipe) → Contains ps p → p.wire.sender < p.wire.receiver

pub lead_on : (g : Pipe → Pipe) (ps : List Pipe) → ((p : Pipe) → (g p).wire ≡ p.wire) → LeadOn ps → LeadOn (map g ps)
lead_on g [] same h p c = absurd (none_in_nil p c)
lead_on g (q ∷ ps) same h p c = by (lead_on g ps same (λ x d. h x (contains_later q x ps d)) p) (contains_cases (g q) p (map g ps) c)
  where
    by : (Contains (map g ps) p → p.wire.sender < p.wire.receiver) → (g q ≡ p) ⊎ Contains (map g ps) p → p.wire.sender < p.wire.receiver
    by rest (inl e) = subst (λ (x : Pipe). x.wire.sender < x.wire.receiver) e (subst (λ (u : Wire). u.sender < u.receiver) (sym (same q)) (h q (contains_first q ps)))
    by rest (inr later) = rest later

pub changed_wire : (g : Pipe → Pipe) (p : Pipe) (b : Bool) → (g p).wire ≡ p.wire → (cond b (g p) p).wire ≡ p.wire
changed_wire g p true e = e
changed_wire g p false e = refl

pub take_leads : (n i : ℕ) (ps : List Pipe) → LeadOn ps → LeadOn (change_pipes (is_input n i) taken ps)
take_leads n i ps h = lead_on (λ p. cond (is_input n i p) (taken p) p) ps (λ p. changed_wire taken p (is_input n i p) refl) h

pub take_no_more : (n i : ℕ) (ps : List Pipe) (j : ℕ) → untaken_by j (change_pipes (is_input n i) taken ps) ≤ untaken_by j ps
take_no_more n i ps j = not_more j (λ p. cond (is_input n i p) (taken p) p) ps (λ p c. taken_at j p (is_input n i p))

pub drop_no_more : (t : Pipe → Bool) (ps : List Pipe) (j : ℕ) → untaken_by j (change_pipes t dropped_pipe ps) ≤ untaken_by j ps
drop_no_more t ps j = not_more j (λ p. cond (t p) (dropped_pipe p) p) ps (λ p c. dropped_at j p (t p))

-- what leaves node n adds nothing to what earlier nodes have to take, nor to what n has
pub sent_no_more : (n j : ℕ) (t : Pipe → Bool) (g : Pipe → Pipe) (ps : List Pipe) → j ≤ n → LeadOn ps → ((p : Pipe) → t p ≡ true → p.wire.sender ≡ n) → ((p : Pipe) → (g p).wire ≡ p.wire) → untaken_by j (change_pipes t g ps) ≤ untaken_by j ps
sent_no_more n j t g ps low leads from same = not_more j (λ p. cond (t p) (g p) p) ps (λ p c. one p c (t p) refl)
  where
    other : (a b : ℕ) → b < a → nat_eq a b ≡ false
    other a b h = grind (arith, nat_tests)

    one : (p : Pipe) → Contains ps p → (b : Bool) → t p ≡ b → untaken_at j (cond b (g p) p) ≤ untaken_at j p
    one p c true e = let onward = leads p c in let s = from p e in elsewhere_at j g p (same p) (other p.wire.receiver j (omega arith))
    one p c false e = omega arith

-- a next morsel that is taken
pub take_fewer : (n i : ℕ) (ps : List Pipe) (p : Pipe) → Contains ps p → is_input n i p ≡ true → has_next p ≡ true → untaken_by n (change_pipes (is_input n i) taken ps) < untaken_by n ps
take_fewer n i ps p c at next = fewer n (λ x. cond (is_input n i x) (taken x) x) ps (λ x d. taken_at n x (is_input n i x)) p c (subst (λ b. untaken_at n (cond b (taken p) p) < untaken_at n p) (sym at) less)
  where
    here : nat_eq p.wire.receiver n ≡ true
    here = (both_true (nat_eq p.wire.receiver n) (nat_eq p.wire.input i) at).0

    whole : (r d : Bool) (k : ℕ) → r ≡ true → d ≡ false → cond r (cond d 0 k) 0 ≡ k
    whole r d k e f = ap (λ b. cond b (cond d 0 k) 0) e ∙ ap (λ b. cond b 0 k) f

    less : untaken_at n (taken p) < untaken_at n p
    less =
        let slot = next_slot p next in
        let within = slice_get_within p.got p.next (Some slot.1.0) slot.1.1 in
        let before = whole (nat_eq p.wire.receiver n) p.is_dropped (length p.got - p.next) here slot.0 in
        let after = whole (nat_eq p.wire.receiver n) p.is_dropped (length p.got - (p.next + 1)) here slot.0 in
        omega arith

-- an answer comes into a place that is there
pub answer_as_many : (k : ℕ) (rs : List Row) (t : Pipe → Bool) (ps : List Pipe) (j : ℕ) → untaken_by j (change_pipes t (with_answer k rs) ps) ≡ untaken_by j ps
answer_as_many k rs t ps j = as_many j (λ p. cond (t p) (with_answer k rs p) p) ps (λ p. one p (t p) p.is_dropped)
  where
    one : (p : Pipe) (b d : Bool) → untaken_at j (cond b (cond d p (record p { got = Rattle.std.specs.Prelude.slice_set p.got k (Some rs) })) p) ≡ untaken_at j p
    one p true true = refl
    one p true false = ap (λ m. cond (nat_eq p.wire.receiver j) (cond p.is_dropped 0 (m - p.next)) 0) (length_set p.got k (Some rs))
    one p false d = refl

pub morsel_wire : (rs : List Row) (p : Pipe) → (with_morsel rs p).wire ≡ p.wire
morsel_wire rs p = by p.is_dropped
  where
    by : (d : Bool) → (cond d p (record p { got = p.got ++ Some rs ∷ [] })).wire ≡ p.wire
    by true = refl
    by false = refl
