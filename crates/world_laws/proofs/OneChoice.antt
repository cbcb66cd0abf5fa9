-- From the first parts of all nodes: one choice serves all ports. The choice is made node by node, the earlier ones first.
use Rattle.std.proofs.Common.{◌≡◌, ◌≢◌, ℕ, zero, suc, ◌<◌, ◌≤◌, ◌⊎◌, true, false, cond, List, [], ◌∷◌, map, length, Some, refl, sym, ap, subst, ◌∙◌, inl, inr, arith, eqb}
use Rattle.std.specs.Prelude.{Contains, slice_get, nat_eq, get_or}
use Rattle.std.specs.List.{AllZip, AllByRecursion}
use Rattle.std.proofs.lemmas.Option.{slice_get-get_or, slice_get_within}
use Rattle.ps_frame.specs.Causes.{Cause}
use Rattle.ps_frame.specs.Functions.{Functions}
use Rattle.ps_frame.specs.Tables.{no_rows, Table}
use Rattle.ps_meaning.specs.Shape.{as_step, IsLargeByStep, IsPhysicalChoice, itself, multiplexer, PhysicalBefore, PhysicalBrokenBy, PhysicalCase, PhysicalIsLarge, PhysicalNode, Shape, tables_for, through}
use Rattle.ps_meaning.specs.Sound.{input_schemas, schema_at}
use Rattle.std.proofs.lemmas.Bool.Decides.{nat_tests}
use Rattle.std.proofs.lemmas.Bool.{cases_lt}
use Rattle.ps_world.specs.Laws.{Sent, Extends, sent_to, AllJustified, ServedByChoice, IsForward, BreaksWhatever, IsLargeWhatever}
use Rattle.world_laws.proofs.InOrder.{contains_cases, contains_first, contains_later, none_in_nil}
use Rattle.ps_frame.specs.Aggregates.{max_rows}

-- a number is itself, and none that differs
eqb_same : (n : ℕ) → eqb n n ≡ true
eqb_same n = grind (arith, nat_tests)

eqb_other : (n k : ℕ) → n ≢ k → eqb n k ≡ false
eqb_other n k h = grind (arith, nat_tests)

-- the choice with another table for node k
abbrev with_table : ℕ → Table → (ℕ → Table) → ℕ → Table
with_table k T c n = cond (nat_eq n k) T (c n)

some_node : PhysicalNode
some_node = record { kind = multiplexer; schema = []; origin = 0; inputs = [] }

node_at : (shape : Shape) (n : ℕ) → n < length shape → (p : PhysicalNode) × (slice_get shape n ≡ Some p)
node_at shape n h = (get_or shape n some_node, slice_get-get_or shape n some_node h)

with_table-other : (k : ℕ) (T : Table) (c : ℕ → Table) (n : ℕ) → n ≢ k → with_table k T c n ≡ c n
with_table-other k T c n h = ap (λ b. cond b T (c n)) (eqb_other n k h)

with_table-same : (k : ℕ) (T : Table) (c : ℕ → Table) → with_table k T c k ≡ T
with_table-same k T c = ap (λ b. cond b T (c k)) (eqb_same k)

module _ (F : Functions) (shape : Shape) (sent : ℕ → ℕ → Sent) where
  -- the choice's table fits node n
  record Fits (c : ℕ → Table) (n : ℕ) (p : PhysicalNode) : Type 0 where
    schema : (c n).schema ≡ p.schema
    case : PhysicalCase F p (map (λ (i : ℕ × ℕ). c i.0) p.inputs) (c n)
    serves : (port : ℕ) → Extends (sent n port) (c n)

  record Built (k : ℕ) : Type 0 where
    choice : ℕ → Table
    fits : (n : ℕ) (p : PhysicalNode) → n < k → slice_get shape n ≡ Some p → Fits choice n p

  module _ (k : ℕ) (c : ℕ → Table) (fits : (n : ℕ) (p : PhysicalNode) → n < k → slice_get shape n ≡ Some p → Fits c n p) (short : k < length shape) where
    extended : (is : List (ℕ × ℕ)) → AllByRecursion (λ (i : ℕ × ℕ). i.0 < k) is → AllZip Extends (map (λ (i : ℕ × ℕ). sent i.0 i.1) is) (map (λ (i : ℕ × ℕ). c i.0) is)
    extended [] h = tt
    extended (i ∷ is) h =
        let early : i.0 < k = h.0 in
        let q = node_at shape i.0 (omega arith) in
        ((fits i.0 q.0 early q.1).serves i.1, extended is h.1)

    same_schemas : (is : List (ℕ × ℕ)) → AllByRecursion (λ (i : ℕ × ℕ). i.0 < k) is → map (λ (t : Table). t.schema) (map (λ (i : ℕ × ℕ). c i.0) is) ≡ map (λ (i : ℕ × ℕ). schema_at (slice_get shape i.0)) is
    same_schemas [] h = refl
    same_schemas (i ∷ is) h =
        let early : i.0 < k = h.0 in
        let q = node_at shape i.0 (omega arith) in
        let here : (c i.0).schema ≡ schema_at (slice_get shape i.0) = (fits i.0 q.0 early q.1).schema ∙ sym (ap schema_at q.1) in
        let there = same_schemas is h.1 in
        cc

  -- another table for node k changes nothing at the inputs of earlier nodes
  same_inputs : (k : ℕ) (T : Table) (c : ℕ → Table) (is : List (ℕ × ℕ)) → AllByRecursion (λ (i : ℕ × ℕ). i.0 < k) is → map (λ (i : ℕ × ℕ). with_table k T c i.0) is ≡ map (λ (i : ℕ × ℕ). c i.0) is
  same_inputs k T c [] h = refl
  same_inputs k T c (i ∷ is) h =
      let early : i.0 < k = h.0 in
      let here = with_table-other k T c i.0 (omega arith) in
      let there = same_inputs k T c is h.1 in
      cc

  -- what fits node n fits still, where the table of a later node, or of n itself, is another
  kept_fits : (k : ℕ) (T : Table) (c : ℕ → Table) (n : ℕ) (p : PhysicalNode) → AllByRecursion (λ (i : ℕ × ℕ). i.0 < k) p.inputs → n < k → Fits c n p → Fits (with_table k T c) n p
  kept_fits k T c n p early h f =
      let other = with_table-other k T c n (omega arith) in
      let inputs = same_inputs k T c p.inputs early in
      record {
        schema = rw other f.schema;
        case = rw (other, inputs) f.case;
        serves = rw other f.serves;
      }

  new_fits : (k : ℕ) (T : Table) (c : ℕ → Table) (p : PhysicalNode) → AllByRecursion (λ (i : ℕ × ℕ). i.0 < k) p.inputs
      → T.schema ≡ p.schema → PhysicalCase F p (map (λ (i : ℕ × ℕ). c i.0) p.inputs) T → ((port : ℕ) → Extends (sent k port) T) → Fits (with_table k T c) k p
  new_fits k T c p early schema case serves =
      let same = with_table-same k T c in
      let inputs = same_inputs k T c p.inputs early in
      record {
        schema = rw same schema;
        case = rw (same, inputs) case;
        serves = rw same serves;
      }

  more_early : (n k : ℕ) → n ≤ k → (is : List (ℕ × ℕ)) → AllByRecursion (λ (i : ℕ × ℕ). i.0 < n) is → AllByRecursion (λ (i : ℕ × ℕ). i.0 < k) is
  more_early n k h [] e = tt
  more_early n k h (i ∷ is) e = let early : i.0 < n = e.0 in (omega arith, more_early n k h is e.1)

  module _ (forward : IsForward shape) (law : AllJustified F shape sent) where
    early_inputs : (n : ℕ) (p : PhysicalNode) → slice_get shape n ≡ Some p → AllByRecursion (λ (i : ℕ × ℕ). i.0 < n) p.inputs
    early_inputs n p e = forward n p e

    build : (k : ℕ) → k ≤ length shape → Built k
    build zero h = record { choice = λ n. no_rows [] []; fits = λ n p early e. absurd (omega arith) }
    build (suc k) h =
        let short : k < length shape = omega arith in
        let b = build k (omega arith) in
        let q = node_at shape k short in
        let early = early_inputs k q.0 q.1 in
        let t = law k q.0 q.1 (map (λ (i : ℕ × ℕ). b.choice i.0) q.0.inputs) (same_schemas k b.choice b.fits short q.0.inputs early) (extended k b.choice b.fits short q.0.inputs early) in
        record {
          choice = with_table k t.0 b.choice;
          fits = λ n p h' e. at_node k b q.0 q.1 t.0 early t.1 t.2 t.3 n p (omega arith) e (cases_lt n k);
        }
      where
        at_node : (k : ℕ) (b : Built k) (q : PhysicalNode) (is_q : slice_get shape k ≡ Some q) (T : Table) → AllByRecursion (λ (i : ℕ × ℕ). i.0 < k) q.inputs → T.schema ≡ q.schema
            → PhysicalCase F q (map (λ (i : ℕ × ℕ). b.choice i.0) q.inputs) T → ((port : ℕ) → Extends (sent k port) T)
            → (n : ℕ) (p : PhysicalNode) → n ≤ k → slice_get shape n ≡ Some p → (n < k) ⊎ (k ≤ n) → Fits (with_table k T b.choice) n p
        at_node k b q is_q T early schema case serves n p le e (inl lt) = kept_fits k T b.choice n p (more_early n k le p.inputs (early_inputs n p e)) lt (b.fits n p lt e)
        at_node k b q is_q T early schema case serves n p le e (inr ge) =
            let same : k ≡ n = omega arith in
            let at_k : slice_get shape k ≡ Some p = subst (λ m. slice_get shape m ≡ Some p) (sym same) e in
            let is_p : q ≡ p = cc in
            let f = new_fits k T b.choice q early schema case serves in
            subst (λ m. Fits (with_table k T b.choice) m p) same (subst (λ x. Fits (with_table k T b.choice) k x) is_p f)

    pub one_choice : ServedByChoice F shape sent
    one_choice =
        let b = build (length shape) (omega arith) in
        record {
          choice = b.choice;
          chosen = λ n p e. (b.fits n p (slice_get_within shape n p e) e).case;
          schemas = λ n p e. (b.fits n p (slice_get_within shape n p e) e).schema;
          serves = λ n p port e. (b.fits n p (slice_get_within shape n p e) e).serves port;
        }

    -- and a node that faults is broken by that cause in some meaning
    pub faulty_is_broken : (n : ℕ) (p : PhysicalNode) (c : Cause) → slice_get shape n ≡ Some p → BreaksWhatever F p (input_schemas shape p) (sent_to sent p) c → PhysicalBrokenBy F shape n c
    faulty_is_broken n p c e faults =
        let b = build (length shape) (omega arith) in
        let within = slice_get_within shape n p e in
        let early = early_inputs n p e in
        let fits : (m : ℕ) (q : PhysicalNode) → m < n → slice_get shape m ≡ Some q → Fits b.choice m q = λ m q h e'. b.fits m q (slice_get_within shape m q e') e' in
        let u = faults (map (λ (i : ℕ × ℕ). b.choice i.0) p.inputs) (same_schemas n b.choice fits within p.inputs early) (extended n b.choice fits within p.inputs early) in
        (b.choice, (λ m q e'. (b.fits m q (slice_get_within shape m q e') e').case), within, u.0, inr (p, e, u.1), u.2)

    -- and one that overflows is large, by its own table or by that of an input
    pub large_by : (n : ℕ) (p : PhysicalNode) → slice_get shape n ≡ Some p → IsLargeWhatever F p (input_schemas shape p) (sent_to sent p) → PhysicalIsLarge F shape n
    large_by n p e over =
        let b = build (length shape) (omega arith) in
        let within = slice_get_within shape n p e in
        let early = early_inputs n p e in
        let fits : (m : ℕ) (q : PhysicalNode) → m < n → slice_get shape m ≡ Some q → Fits b.choice m q = λ m q h e'. b.fits m q (slice_get_within shape m q e') e' in
        let chosen : IsPhysicalChoice F shape b.choice = λ m q e'. (b.fits m q (slice_get_within shape m q e') e').case in
        of_overflow n p e b.choice chosen within early (over (map (λ (i : ℕ × ℕ). b.choice i.0) p.inputs) (same_schemas n b.choice fits within p.inputs early) (extended n b.choice fits within p.inputs early))
      where
        of_input : (n : ℕ) (p : PhysicalNode) (e : slice_get shape n ≡ Some p) (choice : ℕ → Table) → IsPhysicalChoice F shape choice → n < length shape
            → (T : Table) (is : List (ℕ × ℕ)) → ((i : ℕ × ℕ) → Contains is i → Contains p.inputs i) → AllByRecursion (λ (i : ℕ × ℕ). i.0 < n) is → Contains (map (λ (i : ℕ × ℕ). choice i.0) is) T → max_rows < length T.rows → PhysicalIsLarge F shape n
        of_input n p e choice chosen within T [] sub early c big = absurd (none_in_nil T c)
        of_input n p e choice chosen within T (i ∷ is) sub early c big =
            by_case (λ later. of_input n p e choice chosen within T is (λ j cj. sub j (contains_later i j is cj)) early.1 later big) (contains_cases (choice i.0) T (map (λ (j : ℕ × ℕ). choice j.0) is) c)
          where
            by_case : (Contains (map (λ (j : ℕ × ℕ). choice j.0) is) T → PhysicalIsLarge F shape n) → (choice i.0 ≡ T) ⊎ Contains (map (λ (j : ℕ × ℕ). choice j.0) is) T → PhysicalIsLarge F shape n
            by_case rest (inr later) = rest later
            by_case rest (inl same) =
                let lower : i.0 < n = early.0 in
                (choice, chosen, i.0, omega arith, through p i.1 e (sub i (contains_first i is)) itself, inl (T, inl same, big))

        of_overflow : (n : ℕ) (p : PhysicalNode) (e : slice_get shape n ≡ Some p) (choice : ℕ → Table) → IsPhysicalChoice F shape choice → n < length shape → AllByRecursion (λ (i : ℕ × ℕ). i.0 < n) p.inputs
            → ((U : Table) × PhysicalBefore F p (as_step p.kind) (tables_for F p.kind (map (λ (i : ℕ × ℕ). choice i.0) p.inputs)) U × (max_rows < length U.rows)) ⊎ ((T : Table) × Contains (map (λ (i : ℕ × ℕ). choice i.0) p.inputs) T × (max_rows < length T.rows))
            ⊎ IsLargeByStep F p.origin (as_step p.kind) (tables_for F p.kind (map (λ (i : ℕ × ℕ). choice i.0) p.inputs)) → PhysicalIsLarge F shape n
        of_overflow n p e choice chosen within early (inl u) = (choice, chosen, n, within, itself, inl (u.0, inr (p, e, u.1), u.2))
        of_overflow n p e choice chosen within early (inr (inr l)) = (choice, chosen, n, within, itself, inr (p, e, l))
        of_overflow n p e choice chosen within early (inr (inl t)) = of_input n p e choice chosen within t.0 p.inputs (λ i c. c) early t.1 t.2
