-- A zip that wants no input, with one that has a next morsel, has a claim: its heads are ready, and one of them has a row.
use Rattle.std.proofs.Common.{◌≡◌, ℕ, zero, suc, ◌<◌, Bool, true, false, List, [], ◌∷◌, length, refl, ap, ◌∙◌, arith}
use Rattle.std.specs.Prelude.{get_or, map, nat_lt, not, ◌&&◌, ◌||◌}
use Rattle.std.specs.List.{list_all, list_any}
use Rattle.ps_frame.specs.Causes.{is_empty}
use Rattle.ps_frame.specs.Tables.{Row}
use Rattle.ps_turns.specs.Heads.{Head, head_of, heads_by, is_ready_head, is_single, no_head, stored_inputs}
use Rattle.ps_turns.specs.Pulls.{closed_unready}
use Rattle.world_facts.proofs.CutOff.{and_true}
use Rattle.world_facts.proofs.Placing.{map_length}
use Rattle.world_ends.proofs.Tests.{neither}

-- of closed inputs every head is ready
is_needed : (c r : Bool) → (c && not r) ≡ false → c ≡ true → r ≡ true
is_needed true true e h = refl
is_needed true false e h = absurd (let no : true ≡ false = e in cc)
is_needed false r e h = absurd (let no : false ≡ true = h in cc)

pub closed_ready : (extend : Bool) (hs : List Head) (cs : List Bool) (j : ℕ) → closed_unready extend hs cs ≡ false → j < length hs → get_or cs j false ≡ true → is_ready_head extend (get_or hs j no_head) ≡ true
closed_ready extend [] cs j e h c = absurd (omega arith)
closed_ready extend (x ∷ hs) [] j e h c = absurd (let no : false ≡ true = c in cc)
closed_ready extend (x ∷ hs) (b ∷ cs) zero e h c = is_needed b (is_ready_head extend x) (neither (b && not (is_ready_head extend x)) (closed_unready extend hs cs) e).0 c
closed_ready extend (x ∷ hs) (b ∷ cs) (suc j) e h c = closed_ready extend hs cs j (neither (b && not (is_ready_head extend x)) (closed_unready extend hs cs) e).1 (omega arith) c

every_at : (t : Head → Bool) (hs : List Head) → ((j : ℕ) → j < length hs → t (get_or hs j no_head) ≡ true) → list_all t hs ≡ true
every_at t [] h = refl
every_at t (x ∷ hs) h = and_true (t x) (list_all t hs) (h 0 (omega arith)) (every_at t hs (λ j g. h (suc j) (omega arith)))

or_left_true : (a b : Bool) → a ≡ true → (a || b) ≡ true
or_left_true true b e = refl
or_left_true false b e = absurd (let no : false ≡ true = e in cc)

or_right_true : (a b : Bool) → b ≡ true → (a || b) ≡ true
or_right_true true b e = refl
or_right_true false b e = e

some_at_place : (t : Head → Bool) (hs : List Head) (j : ℕ) → j < length hs → t (get_or hs j no_head) ≡ true → list_any t hs ≡ true
some_at_place t [] j h e = absurd (omega arith)
some_at_place t (x ∷ hs) zero h e = or_left_true (t x) (list_any t hs) e
some_at_place t (x ∷ hs) (suc j) h e = or_right_true (t x) (list_any t hs) (some_at_place t hs j (omega arith) e)

stored_long : (ds : List Bool) (stores : List (List (List Row))) → length (stored_inputs ds stores) ≡ length stores
stored_long ds [] = refl
stored_long [] (ms ∷ rest) = ap suc (stored_long [] rest)
stored_long (d ∷ ds) (ms ∷ rest) = ap suc (stored_long ds rest)

pub heads_long : (extend : Bool) (k : ℕ) (ds : List Bool) (stores : List (List (List Row))) → length (heads_by extend k (stored_inputs ds stores)) ≡ length stores
heads_long extend k ds stores = map_length (head_of extend (list_all (is_single extend) (stored_inputs ds stores) && nat_lt 0 k) k) (stored_inputs ds stores) ∙ stored_long ds stores

done_by : (extend spent : Bool) (k : ℕ) (ds : List Bool) (stores : List (List (List Row))) (j : ℕ) → j < length stores → (get_or (map (head_of extend spent k) (stored_inputs ds stores)) j no_head).input_done ≡ get_or ds j false
done_by extend spent k ds [] j h = absurd (omega arith)
done_by extend spent k [] (ms ∷ rest) zero h = refl
done_by extend spent k [] (ms ∷ rest) (suc j) h = done_by extend spent k [] rest j (omega arith)
done_by extend spent k (d ∷ ds) (ms ∷ rest) zero h = refl
done_by extend spent k (d ∷ ds) (ms ∷ rest) (suc j) h = done_by extend spent k ds rest j (omega arith)

-- a head of an input that isn't done is ready by its rows
by_rows : (e k extend d : Bool) → ((not e && k) || (extend && d)) ≡ true → d ≡ false → not e ≡ true
by_rows false k extend d e g = refl
by_rows true k true true e g = absurd (let no : true ≡ false = g in cc)
by_rows true k true false e g = absurd (let no : false ≡ true = e in cc)
by_rows true k false d e g = absurd (let no : false ≡ true = e in cc)

pub zip_has_claim : (extend : Bool) (k : ℕ) (ds : List Bool) (stores : List (List (List Row))) (hs : List Head) → hs ≡ heads_by extend k (stored_inputs ds stores) → (i : ℕ) → i < length stores → get_or ds i false ≡ false
    → ((j : ℕ) → j < length hs → is_ready_head extend (get_or hs j no_head) ≡ true) → (list_all (is_ready_head extend) hs && list_any (λ (h : Head). not (is_empty h.rest)) hs) ≡ true
zip_has_claim extend k ds stores hs same i h open_input ready =
    let long : length hs ≡ length stores = ap length same ∙ heads_long extend k ds stores in
    let done : (get_or hs i no_head).input_done ≡ false = ap (λ xs. (get_or xs i no_head).input_done) same ∙ done_by extend (list_all (is_single extend) (stored_inputs ds stores) && nat_lt 0 k) k ds stores i h ∙ open_input in
    let head = get_or hs i no_head in
    and_true (list_all (is_ready_head extend) hs) (list_any (λ (x : Head). not (is_empty x.rest)) hs) (every_at (is_ready_head extend) hs ready)
    (some_at_place (λ (x : Head). not (is_empty x.rest)) hs i (omega (arith, long, h)) (by_rows (is_empty head.rest) head.is_known extend head.input_done (ready i (omega (arith, long, h))) done))
