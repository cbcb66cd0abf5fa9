-- A zip whose inputs are all done, and which is neither over nor finds that its heads can't agree, has a claim.
use Rattle.std.proofs.Common.{◌≡◌, ℕ, suc, ◌<◌, ◌≤◌, ◌⊎◌, Bool, true, false, cond, List, [], ◌∷◌, length, None, Some, refl, sym, ap, subst, ◌∙◌, inl, inr, arith}
use Rattle.std.specs.Prelude.{Contains, drop, map, nat_eq, nat_lt, not, ◌&&◌, ◌||◌}
use Rattle.std.specs.List.{filter as kept, list_all, list_any}
use Rattle.std.proofs.lemmas.Bool.{or_right}
use Rattle.std.proofs.lemmas.Bool.Decides.{nat_tests}
use Rattle.ps_frame.specs.Causes.{Cause, is_empty}
use Rattle.ps_frame.specs.Tables.{Row}
use Rattle.ps_frame.specs.Zip.{all_same}
use Rattle.ps_meaning.specs.Shape.{PhysicalNode, zip_node}
use Rattle.ps_ports.specs.Ports.{Sides, all_done, first_port, is_done}
use Rattle.ps_ports.specs.declared.port_state.PortState.{PortState}
use Rattle.ps_turns.specs.Heads.{Head, Stored, head_lengths, head_of, heads_by, is_ready_head, is_single, stored_inputs, stored_rows}
use Rattle.ps_turns.specs.Updates.{shape_fault, zip_is_over}
use Rattle.world_facts.proofs.CutOff.{and_true, both_true}
use Rattle.world_facts.proofs.Slots.{all_at}
use Rattle.world_laws.proofs.Agree.{from_map}
use Rattle.world_ends.proofs.Tests.{neither, not_false}
use Rattle.world_laws.proofs.InOrder.{contains_cases, contains_first, contains_kept, contains_later, contains_map, list_any-contains, none_in_nil}

-- TESTS OF LISTS
every : {A : Type 0} (t : A → Bool) (xs : List A) → ((x : A) → Contains xs x → t x ≡ true) → list_all t xs ≡ true
every t [] h = refl
every t (x ∷ xs) h = and_true (t x) (list_all t xs) (h x (contains_first x xs)) (every t xs (λ y c. h y (contains_later x y xs c)))

-- some item doesn't pass
another : {A : Type 0} (t : A → Bool) (xs : List A) → list_all t xs ≡ false → (x : A) × Contains xs x × (t x ≡ false)
another t [] e = absurd (let no : true ≡ false = e in cc)
another {A = A} t (x ∷ xs) e = by (another t xs) (t x) refl
  where
    by : (list_all t xs ≡ false → (y : A) × Contains xs y × (t y ≡ false)) → (b : Bool) → t x ≡ b → (y : A) × Contains (x ∷ xs) y × (t y ≡ false)
    by rest false q = (x, contains_first x xs, q)
    by rest true q = let r = rest (sym (ap (λ b. b && list_all t xs) q) ∙ e) in (r.0, contains_later x r.0 xs r.1, r.2)

-- numbers that are all the same
same_number : (n m : ℕ) → nat_eq n m ≡ true → n ≡ m
same_number n m e = grind (arith, nat_tests)

as_first : (n m : ℕ) (ns : List ℕ) → all_same (n ∷ ns) ≡ true → Contains (n ∷ ns) m → m ≡ n
as_first n m ns same c = by (contains_cases n m ns c)
  where
    by : (n ≡ m) ⊎ Contains ns m → m ≡ n
    by (inl e) = sym e
    by (inr later) = same_number m n (all_at (λ k. nat_eq k n) ns m same later)

equal : (ns : List ℕ) (n m : ℕ) → all_same ns ≡ true → Contains ns n → Contains ns m → n ≡ m
equal [] n m same c d = absurd (none_in_nil n c)
equal (k ∷ ns) n m same c d = as_first k n ns same c ∙ sym (as_first k m ns same d)

some_rows : (rs : List Row) → is_empty rs ≡ false → 0 < length rs
some_rows [] e = absurd (let no : true ≡ false = e in cc)
some_rows (r ∷ rs) e = omega arith

not_empty : (rs : List Row) → 0 < length rs → is_empty rs ≡ false
not_empty [] h = absurd (omega arith)
not_empty (r ∷ rs) h = refl

one_row : (rs : List Row) → nat_eq (length rs) 1 ≡ true → is_empty rs ≡ false
one_row [] e = absurd (let no : false ≡ true = e in cc)
one_row (r ∷ rs) e = refl

-- STORED INPUTS
all_over : (ss : List PortState) (stores : List (List (List Row))) → all_done ss ≡ true → length stores ≡ length ss → (s : Stored) → Contains (stored_inputs (map is_done ss) stores) s → s.is_over ≡ true
all_over ss [] done long s c = absurd (none_in_nil s c)
all_over [] (ms ∷ rest) done long s c = absurd (let no : suc (length rest) ≡ 0 = long in omega arith)
all_over (x ∷ xs) (ms ∷ rest) done long s c =
    by (both_true (is_done x) (all_done xs) done) (λ d later. all_over xs rest d (let l : suc (length rest) ≡ suc (length xs) = long in omega arith) s later) (contains_cases (record { rows = stored_rows ms; is_over = is_done x }) s (stored_inputs (map is_done xs) rest) c)
  where
    by : (is_done x ≡ true) × (all_done xs ≡ true) → (all_done xs ≡ true → Contains (stored_inputs (map is_done xs) rest) s → s.is_over ≡ true)
        → (record { rows = stored_rows ms; is_over = is_done x } ≡ s) ⊎ Contains (stored_inputs (map is_done xs) rest) s → s.is_over ≡ true
    by d rest_of (inl e) = sym (ap (λ (y : Stored). y.is_over) e) ∙ d.0
    by d rest_of (inr later) = rest_of d.1 later

some_stored : (ds : List Bool) (stores : List (List (List Row))) → 1 ≤ length stores → (s : Stored) × Contains (stored_inputs ds stores) s
some_stored ds [] h = absurd (omega arith)
some_stored [] (ms ∷ rest) h = (record { rows = stored_rows ms; is_over = false }, contains_first (record { rows = stored_rows ms; is_over = false }) (stored_inputs [] rest))
some_stored (d ∷ ds) (ms ∷ rest) h = (record { rows = stored_rows ms; is_over = d }, contains_first (record { rows = stored_rows ms; is_over = d }) (stored_inputs ds rest))

-- HEADS OF INPUTS THAT ARE DONE
abbrev has_rows : Head → Bool
has_rows h = not (is_empty h.rest)

-- what broadcasts has its one row
broadcast_rows : (spent : Bool) (k : ℕ) (s : Stored) → (head_of false spent k s).broadcasts ≡ true → is_empty (head_of false spent k s).rest ≡ false
broadcast_rows spent k s b =
    let single = both_true (is_single false s) (not spent) b in
    let one = both_true s.is_over (nat_eq (length s.rows) 1) single.0 in
    ap (λ x. is_empty (cond x s.rows (drop k s.rows))) b ∙ one_row s.rows one.1

ready_by : (e o l : Bool) → e ≡ false → o ≡ true → ((not e && (o || l)) || false) ≡ true
ready_by false true l e o = refl
ready_by false false l e o = absurd (let no : false ≡ true = o in cc)
ready_by true o' l e o = absurd (let no : true ≡ false = e in cc)

-- it is known whether the head of an input that is done broadcasts
ready_plain : (spent : Bool) (k : ℕ) (s : Stored) → s.is_over ≡ true → is_empty (head_of false spent k s).rest ≡ false → is_ready_head false (head_of false spent k s) ≡ true
ready_plain spent k s over some = ready_by (is_empty (head_of false spent k s).rest) s.is_over (nat_lt 1 (length s.rows)) some over

ready_filling : (spent : Bool) (k : ℕ) (s : Stored) → s.is_over ≡ true → is_ready_head true (head_of true spent k s) ≡ true
ready_filling spent k s over = or_right (not (is_empty (drop k s.rows)) && true) s.is_over over

-- a zip that isn't over: not every head is broadcast or empty, or all are broadcast
not_over : (out done rest all : Bool) → (out || (done && (rest && not all))) ≡ false → done ≡ true → (rest ≡ false) ⊎ (all ≡ true)
not_over true done rest all e d = absurd (let no : true ≡ false = e in cc)
not_over false false rest all e d = absurd (let no : false ≡ true = d in cc)
not_over false true false all e d = inl refl
not_over false true true true e d = inr refl
not_over false true true false e d = absurd (let no : true ≡ false = e in cc)

agreed : (done out same : Bool) (c : Cause) → cond (done && (not out && not same)) (Some c) None ≡ None → done ≡ true → out ≡ false → same ≡ true
agreed true false true c e d o = refl
agreed true false false c e d o = absurd (let no : Some c ≡ None = e in cc)
agreed true true same c e d o = absurd (let no : true ≡ false = o in cc)
agreed false out same c e d o = absurd (let no : false ≡ true = d in cc)

module _ (given : Sides) (k : ℕ) (stores : List (List (List Row))) (done : all_done given.inputs ≡ true) (open_out : is_done (first_port given.outputs) ≡ false) (long : length stores ≡ length given.inputs) (some : 1 ≤ length given.inputs) where
  abbrev inputs : List Stored
  inputs = stored_inputs (map is_done given.inputs) stores

  abbrev Tests : Bool → List Head → Type 0
  Tests extend hs = (list_all (is_ready_head extend) hs && list_any has_rows hs) ≡ true

  one : (s : Stored) × Contains inputs s
  one = some_stored (map is_done given.inputs) stores (omega arith)

  over : (s : Stored) → Contains inputs s → s.is_over ≡ true
  over s c = all_over given.inputs stores done long s c

  -- heads, each of which comes from an input
  module _ (spent : Bool) where
    abbrev heads : Bool → List Head
    heads extend = map (head_of extend spent k) inputs

    from_input : (extend : Bool) (h : Head) → Contains (heads extend) h → (s : Stored) × Contains inputs s × (head_of extend spent k s ≡ h)
    from_input extend h c = from_map (head_of extend spent k) h inputs c

    -- with filling one head has rows, and each is ready
    filling : zip_is_over (heads true) given ≡ false → Tests true (heads true)
    filling open_zip =
        and_true (list_all (is_ready_head true) (heads true)) (list_any has_rows (heads true))
        (every (is_ready_head true) (heads true) (λ h c. let s = from_input true h c in subst (λ (x : Head). is_ready_head true x ≡ true) s.2 (ready_filling spent k s.0 (over s.0 s.1))))
        (by (not_over (is_done (first_port given.outputs)) (all_done given.inputs) (list_all (λ (h : Head). h.broadcasts || is_empty h.rest) (heads true)) (list_all (λ (h : Head). h.broadcasts) (heads true)) open_zip done))
      where
        by : (list_all (λ (h : Head). h.broadcasts || is_empty h.rest) (heads true) ≡ false) ⊎ (list_all (λ (h : Head). h.broadcasts) (heads true) ≡ true) → list_any has_rows (heads true) ≡ true
        by (inl not_all) =
            let h = another (λ (h : Head). h.broadcasts || is_empty h.rest) (heads true) not_all in
            list_any-contains has_rows h.0 (heads true) h.1 (not_false (is_empty h.0.rest) (neither h.0.broadcasts (is_empty h.0.rest) h.2).1)
        by (inr all) = absurd (let no : false ≡ true = all_at (λ (h : Head). h.broadcasts) (heads true) (head_of true spent k one.0) all (contains_map (head_of true spent k) one.0 inputs one.1) in cc)

    -- without it every head has rows
    each_has : all_same (head_lengths false (heads false)) ≡ true → (list_all (λ (h : Head). h.broadcasts || is_empty h.rest) (heads false) ≡ false) ⊎ (list_all (λ (h : Head). h.broadcasts) (heads false) ≡ true)
        → (s : Stored) → Contains inputs s → is_empty (head_of false spent k s).rest ≡ false
    each_has same (inr all) s c = broadcast_rows spent k s (all_at (λ (h : Head). h.broadcasts) (heads false) (head_of false spent k s) all (contains_map (head_of false spent k) s inputs c))
    each_has same (inl not_all) s c = by (head_of false spent k s).broadcasts refl
      where
        counted : (h : Head) → Contains (heads false) h → h.broadcasts ≡ false → Contains (head_lengths false (heads false)) (length h.rest)
        counted h there plain =
            contains_map (λ (x : Head). length x.rest) h (kept (λ (x : Head). not x.broadcasts && not (false && is_empty x.rest)) (heads false))
            (contains_kept (λ (x : Head). not x.broadcasts && not (false && is_empty x.rest)) h (heads false) there (and_true (not h.broadcasts) true (not_false h.broadcasts plain) refl))

        by : (b : Bool) → (head_of false spent k s).broadcasts ≡ b → is_empty (head_of false spent k s).rest ≡ false
        by true b = broadcast_rows spent k s b
        by false b =
            let h = another (λ (h : Head). h.broadcasts || is_empty h.rest) (heads false) not_all in
            let parts = neither h.0.broadcasts (is_empty h.0.rest) h.2 in
            let rows = some_rows h.0.rest parts.1 in
            let long_as = equal (head_lengths false (heads false)) (length (head_of false spent k s).rest) (length h.0.rest) same (counted (head_of false spent k s) (contains_map (head_of false spent k) s inputs c) b) (counted h.0 h.1 parts.0) in
            not_empty (head_of false spent k s).rest (subst (λ n. 0 < n) (sym long_as) rows)

    plain : all_same (head_lengths false (heads false)) ≡ true → zip_is_over (heads false) given ≡ false → Tests false (heads false)
    plain same open_zip =
        let each = each_has same (not_over (is_done (first_port given.outputs)) (all_done given.inputs) (list_all (λ (h : Head). h.broadcasts || is_empty h.rest) (heads false)) (list_all (λ (h : Head). h.broadcasts) (heads false)) open_zip done) in
        and_true (list_all (is_ready_head false) (heads false)) (list_any has_rows (heads false))
        (every (is_ready_head false) (heads false) (λ h c. let s = from_input false h c in subst (λ (x : Head). is_ready_head false x ≡ true) s.2 (ready_plain spent k s.0 (over s.0 s.1) (each s.0 s.1))))
        (list_any-contains has_rows (head_of false spent k one.0) (heads false) (contains_map (head_of false spent k) one.0 inputs one.1) (not_false (is_empty (head_of false spent k one.0).rest) (each one.0 one.1)))

  pub zip_tests : (p : PhysicalNode) (extend : Bool) (hs : List Head) → hs ≡ heads_by extend k inputs → shape_fault p (zip_node extend) hs given ≡ None → zip_is_over hs given ≡ false → (list_all (is_ready_head extend) hs && list_any (λ (h : Head). not (is_empty h.rest)) hs) ≡ true
  zip_tests p true hs e fault open_zip =
      subst (Tests true) (sym e) (filling (list_all (is_single true) inputs && nat_lt 0 k) (subst (λ xs. zip_is_over xs given ≡ false) e open_zip))
  zip_tests p false hs e fault open_zip =
      let at = subst (λ xs. shape_fault p (zip_node false) xs given ≡ None) e fault in
      let same = agreed (all_done given.inputs) (is_done (first_port given.outputs)) (all_same (head_lengths false (heads_by false k inputs))) _ at done open_out in
      subst (Tests false) (sym e) (plain (list_all (is_single false) inputs && nat_lt 0 k) same (subst (λ xs. zip_is_over xs given ≡ false) e open_zip))
