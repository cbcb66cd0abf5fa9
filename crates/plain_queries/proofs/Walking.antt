-- Tables that are computed one after another, each after its inputs.
use Rattle.std.proofs.Common.{◌≡◌, ◌⊎◌, ◌↔◌, inl, inr, ℕ, zero, suc, ◌+◌, ◌<◌, ◌≤◌, ◌≢◌, List, [], ◌∷◌, length, get_or, set, slice_get, take, refl, sym, subst, ◌∙◌, ap, arith}
use Rattle.std.specs.Prelude.{Contains, IfSome, Option, Some, None, map, option_map, replicate, unwrap_or}
use Rattle.std.proofs.Math.ListN.{length-set}
use Rattle.std.proofs.Math.Seq.{take-length}
use Rattle.std.proofs.lemmas.List.{length-replicate}
use Rattle.std.proofs.lemmas.List.Elements.{Contains-append_cases}
use Rattle.std.proofs.lemmas.Option.{get_or_from_slice_get, slice_get-get_or, slice_get-map, slice_get_within}
use Rattle.pu_base.specs.declared.arena.Node.{Node}
use Rattle.ps_frame.specs.Functions.{Functions}
use Rattle.ps_frame.specs.Tables.{Frame, whole}
use Rattle.ps_frame.specs.Trees.{tree_at}
use Rattle.ps_frame.specs.declared.refusal.PolarsError.{PolarsError}
use Rattle.ps_frame.specs.declared.refusal.PolarsError.TheVariants as error
use Rattle.ps_frame.specs.declared.value.DataFault.{DataFault}
use Rattle.ps_meaning.specs.Errors.{fault_error}
use Rattle.ps_plan.specs.Graph.{Path, Reached, here, onward, inputs_at, named_by}
use Rattle.ps_meaning.specs.Meaning.{IsMeaning}
use Rattle.ps_plan.specs.PlanMeanings.{NodeMayFault}
use Rattle.ps_meaning.specs.Nodes.{GivesFrame, IsFaultAt, MayFault}
use Rattle.ps_plan.specs.Plans.{Plan, tree_of}
use Rattle.ps_plan.specs.Refusals.{IsValid}
use Rattle.ps_plan.specs.Entries.{entry_inputs, entry_step}
use Rattle.ps_plan.specs.declared.ir.IR.{IR}
use Rattle.ps_survey.proofs.Lists.{at-from, from-at, same-or-not, slice_get-set_other, slice_get-set_same}
use Rattle.valid_plans.specs.Surveys.{IsSurvey}
use Rattle.ps_walks.specs.Accepted.{schemas_at}
use Rattle.ps_walks.specs.Computed.{GivesAt, Tables, tables_of}
use Rattle.ps_walks.specs.Fit.{plan_schemas}
use Rattle.ps_walks.proofs.Walks.{faults-answer, tables-mean}
use Rattle.ps_survey.proofs.Visits.{take-push}
use Rattle.plain_queries.proofs.Wanting.{numbers}
use Rattle.plain_queries.specs.Held.{AreHeld, Held, IsHeld, table_in, tables_in}
use Rattle.ps_node_eval.specs.Nodes.{FitInputs, NodeFaults, NodeGives}
use Rattle.plain_queries.specs.Readers.{IsWantedUntil}

contains-first : {A : Type 0} (x : A) (xs : List A) → Contains (x ∷ xs) x
contains-first x xs = (0, omega arith, refl)

contains-later : {A : Type 0} (x y : A) (xs : List A) → Contains xs y → Contains (x ∷ xs) y
contains-later x y xs (k, h, e) = (suc k, omega arith, e)

-- one table where two numbers are the same, another where they aren't
abbrev pick : {m n : ℕ} → (m ≡ n) ⊎ (m ≢ n) → Frame → Frame → Frame
pick (inl e) f g = f
pick (inr d) f g = g

-- the tables, where that of one number is another
abbrev with_table : Tables → ℕ → Frame → Tables
with_table T n f m = pick (same-or-not m n) f (T m)

pick-same : {m n : ℕ} (c : (m ≡ n) ⊎ (m ≢ n)) (f g : Frame) → m ≡ n → pick c f g ≡ f
pick-same (inl e) f g s = refl
pick-same (inr d) f g s = absurd (d s)

pick-other : {m n : ℕ} (c : (m ≡ n) ⊎ (m ≢ n)) (f g : Frame) → m ≢ n → pick c f g ≡ g
pick-other (inl e) f g d = absurd (d e)
pick-other (inr d) f g e = refl

own-table : (T : Tables) (n : ℕ) (f : Frame) → with_table T n f n ≡ f
own-table T n f = pick-same (same-or-not n n) f (T n) refl

other-table : (T : Tables) (n : ℕ) (f : Frame) (m : ℕ) → m ≢ n → with_table T n f m ≡ T m
other-table T n f m d = pick-other (same-or-not m n) f (T m) d

-- the front of a list
get-front : (xs : List ℕ) (i k : ℕ) → k < i → slice_get (take i xs) k ≡ slice_get xs k
get-front [] zero k h = refl
get-front [] (suc i) k h = refl
get-front (x ∷ xs) zero k h = absurd (omega (arith, h))
get-front (x ∷ xs) (suc i) zero h = refl
get-front (x ∷ xs) (suc i) (suc k) h = get-front xs i k (omega (arith, h))

short-front : (xs : List ℕ) (i : ℕ) → length (take i xs) ≤ i
short-front [] zero = omega arith
short-front [] (suc i) = omega arith
short-front (x ∷ xs) zero = omega arith
short-front (x ∷ xs) (suc i) = let h = short-front xs i in omega (arith, h)

place-in-front : (xs : List ℕ) (i n : ℕ) → Contains (take i xs) n → (k : ℕ) × (k < i) × (slice_get xs k ≡ Some n)
place-in-front xs i n c =
    let found = at-from (take i xs) n c in
    let short = short-front xs i in
    let below : found.0 < i = (let h = found.1 in omega (arith, h, short)) in
    (found.0, below, sym (get-front xs i found.0 below) ∙ found.2)

in-longer : (xs : List ℕ) (j i n : ℕ) → j ≤ i → Contains (take j xs) n → Contains (take i xs) n
in-longer xs j i n le c =
    let found = place-in-front xs j n c in
    let below : found.0 < i = (let h = found.1 in omega (arith, h, le)) in
    from-at (take i xs) found.0 n (get-front xs i found.0 below ∙ found.2)

take-next : (xs : List ℕ) (i n m : ℕ) → slice_get xs i ≡ Some n → Contains (take (i + 1) xs) m → Contains (take i xs) m ⊎ (n ≡ m)
take-next xs i n m at c = elim (Contains-append_cases (take i xs) (n ∷ []) m (subst (λ ys. Contains ys m) (take-push xs i n at) c)) [ inl h ↦ inl h | inr h ↦ inr (only h) ]
  where
    only : Contains (n ∷ []) m → n ≡ m
    only (k, h, e) = let first : k ≡ 0 = omega (arith, h) in sym (ap (λ j. get_or (n ∷ []) j m) first) ∙ e

module _ (F : Functions) (plan : Plan) (order until : List ℕ) where
  -- The nodes of the order before i are computed, and the table of each is held while a node from i on reads it.
  pub record Walking (i : ℕ) (slots : Held) : Type 0 where
    pub tables : Tables
    pub size : length slots ≡ length plan.nodes
    pub gives : (m : ℕ) → Contains (take i order) m → GivesAt F plan tables m
    pub schemas : (m : ℕ) → Contains (take i order) m → (tables m).schema ≡ plan_schemas F plan m
    pub held : (m : ℕ) → Contains (take i order) m → i ≤ get_or until m 0 → slice_get slots m ≡ Some (Some (tables m))

  none-stands : (m : ℕ) → Contains [] m → ⊥
  none-stands m (k, h, e) = omega (arith, h)

  pub walking-first : (slots : Held) → slots ≡ replicate (length plan.nodes) None → Walking 0 slots
  walking-first slots empty =
      record {
        tables = λ m. record { schema = []; rows = [] };
        size = ap length empty ∙ length-replicate (length plan.nodes) None;
        gives = λ m c. absurd (none-stands m c);
        schemas = λ m c. absurd (none-stands m c);
        held = λ m c. absurd (none-stands m c);
      }

  -- the tables of nodes that are held
  module _ (slots : Held) (T : Tables) where
    one-held : (n : Node) → slice_get slots n.0 ≡ Some (Some (T n.0)) → table_in slots n ≡ T n.0
    one-held n e = ap (λ (o : Option (Option Frame)). unwrap_or (unwrap_or o None) (record { schema = []; rows = [] })) e

    all-held : (ns : List Node) → ((m : ℕ) → Contains (numbers ns) m → slice_get slots m ≡ Some (Some (T m))) → AreHeld slots ns
    all-held ns each k d h =
        let found = slice_get-map (λ (n : Node). n.0) ns k ∙ ap (option_map (λ (n : Node). n.0)) (slice_get-get_or ns k d h) in
        (T (get_or ns k d).0, each (get_or ns k d).0 (from-at (numbers ns) k (get_or ns k d).0 found))

    same-tables : (ns : List Node) → ((m : ℕ) → Contains (numbers ns) m → slice_get slots m ≡ Some (Some (T m))) → tables_in slots ns ≡ tables_of T ns
    same-tables [] each = refl
    same-tables (n ∷ ns) each =
        ap (λ f. f ∷ tables_in slots ns) (one-held n (each n.0 (contains-first n.0 (numbers ns)))) ∙ ap (λ fs. T n.0 ∷ fs) (same-tables ns (λ m c. each m (contains-later n.0 m (numbers ns) c)))

  same-schemas : (T : Tables) (ns : List Node) → ((m : ℕ) → Contains (numbers ns) m → (T m).schema ≡ plan_schemas F plan m) → map (λ (f : Frame). f.schema) (tables_of T ns) ≡ schemas_at (plan_schemas F plan) ns
  same-schemas T [] each = refl
  same-schemas T (n ∷ ns) each =
      ap (λ s. s ∷ map (λ (f : Frame). f.schema) (tables_of T ns)) (each n.0 (contains-first n.0 (numbers ns))) ∙ ap (λ ss. plan_schemas F plan n.0 ∷ ss) (same-schemas T ns (λ m c. each m (contains-later n.0 m (numbers ns) c)))

  -- the tables of nodes don't change where another node's does
  other-tables : (T : Tables) (n : ℕ) (f : Frame) (ns : List Node) → ((m : ℕ) → Contains (numbers ns) m → m ≢ n) → tables_of (with_table T n f) ns ≡ tables_of T ns
  other-tables T n f [] each = refl
  other-tables T n f (k ∷ ns) each = ap (λ t. t ∷ tables_of (with_table T n f) ns) (other-table T n f k.0 (each k.0 (contains-first k.0 (numbers ns)))) ∙ ap (λ ts. T k.0 ∷ ts) (other-tables T n f ns (λ m c. each m (contains-later k.0 m (numbers ns) c)))

  -- numbers that a list names stand before its places
  module _ (survey : IsSurvey plan order) (wanted : IsWantedUntil (inputs_at plan) order until) where
    pub place-within : (i n : ℕ) → slice_get order i ≡ Some n → n < length plan.nodes
    place-within i n at = (survey.in_range n (survey.reached n (from-at order i n at))).nodes n here

    lists : (m : ℕ) → Reached plan m ↔ Contains order m
    lists m = (survey.all m, survey.reached m)

    -- all that a computed node names is computed
    closed : (i n m : ℕ) → Contains (take i order) n → Contains (inputs_at plan n) m → Contains (take i order) m
    closed i n m stands c =
        let found = place-in-front order i n stands in
        let le : found.0 ≤ i = (let h = found.1 in omega (arith, h)) in
        in-longer order found.0 i m le (survey.inputs_first found.0 n m found.2 c)

    -- the node n at place i, with the entry e
    module _ (i : ℕ) (slots : Held) (n : ℕ) (e : IR) (at : slice_get order i ≡ Some n) (is : slice_get plan.nodes n ≡ Some e) (walking : Walking i slots) where
      pub node-reached : Reached plan n
      node-reached = survey.reached n (from-at order i n at)

      named : (m : ℕ) → Contains (numbers (entry_inputs e)) m → Contains (inputs_at plan n) m
      named m c = subst (λ (o : Option IR). Contains (named_by entry_inputs o) m) (sym is) c

      before : (m : ℕ) → Contains (numbers (entry_inputs e)) m → Contains (take i order) m
      before m c = survey.inputs_first i n m at (named m c)

      held-input : (m : ℕ) → Contains (numbers (entry_inputs e)) m → slice_get slots m ≡ Some (Some (walking.tables m))
      held-input m c = walking.held m (before m c) (wanted i n m at (named m c))

      pub node-held : AreHeld slots (entry_inputs e)
      node-held = all-held slots walking.tables (entry_inputs e) held-input

      given : tables_in slots (entry_inputs e) ≡ tables_of walking.tables (entry_inputs e)
      given = same-tables slots walking.tables (entry_inputs e) held-input

      pub node-fit : FitInputs F plan n (tables_in slots (entry_inputs e))
      node-fit = subst (λ (o : Option IR). IfSome o (λ x. map (λ (f : Frame). f.schema) (tables_in slots (entry_inputs e)) ≡ schemas_at (plan_schemas F plan) (entry_inputs x))) (sym is)
          (ap (map (λ (f : Frame). f.schema)) given ∙ same-schemas walking.tables (entry_inputs e) (λ m c. walking.schemas m (before m c)))

      -- the node isn't one of those that are computed
      new : (m : ℕ) → Contains (take i order) m → m ≢ n
      new m c same =
          let found = place-in-front order i m c in
          let other = survey.once found.0 i n found.1 (slice_get_within order i n at) in
          other (get_or_from_slice_get order found.0 m n found.2 ∙ same ∙ sym (get_or_from_slice_get order i n n at))

      -- a node whose inputs are computed gives its table, whatever the new node's is
      entry-gives : (T : Tables) (f : Frame) (m : ℕ) (o : Option IR) → ((k : ℕ) → Contains (named_by entry_inputs o) k → k ≢ n) → m ≢ n
          → IfSome o (λ x. GivesFrame F m (entry_step (tree_at plan.exprs) x) (tables_of T (entry_inputs x)) (T m)) → IfSome o (λ x. GivesFrame F m (entry_step (tree_at plan.exprs) x) (tables_of (with_table T n f) (entry_inputs x)) (with_table T n f m))
      entry-gives T f m None each d h = h
      entry-gives T f m (Some x) each d h =
          subst (λ fs. GivesFrame F m (entry_step (tree_at plan.exprs) x) fs (with_table T n f m)) (sym (other-tables T n f (entry_inputs x) each))
          (subst (λ g. GivesFrame F m (entry_step (tree_at plan.exprs) x) (tables_of T (entry_inputs x)) g) (sym (other-table T n f m d)) h)

      still-gives : (f : Frame) (m : ℕ) → Contains (take i order) m → GivesAt F plan (with_table walking.tables n f) m
      still-gives f m c = entry-gives walking.tables f m (slice_get plan.nodes m) (λ k named. new k (closed i m k c named)) (new m c) (walking.gives m c)

      own-gives : (f : Frame) → NodeGives F plan n (tables_in slots (entry_inputs e)) f → GivesAt F plan (with_table walking.tables n f) n
      own-gives f h = subst (λ (o : Option IR). IfSome o (λ x. GivesFrame F n (entry_step (tree_at plan.exprs) x) (tables_of (with_table walking.tables n f) (entry_inputs x)) (with_table walking.tables n f n))) (sym is)
          (subst (λ fs. GivesFrame F n (entry_step (tree_at plan.exprs) e) fs (with_table walking.tables n f n)) (given ∙ sym (other-tables walking.tables n f (entry_inputs e) (λ m c. new m (before m c))))
          (subst (λ g. GivesFrame F n (entry_step (tree_at plan.exprs) e) (tables_in slots (entry_inputs e)) g) (sym (own-table walking.tables n f))
          (subst (λ (o : Option IR). IfSome o (λ x. GivesFrame F n (entry_step (tree_at plan.exprs) x) (tables_in slots (entry_inputs e)) f)) is h)))

      -- the node is computed
      pub node-done : (f : Frame) (freed then : Held) → NodeGives F plan n (tables_in slots (entry_inputs e)) f → f.schema ≡ plan_schemas F plan n
          → length freed ≡ length slots → ((m : ℕ) → i < get_or until m 0 → slice_get freed m ≡ slice_get slots m) → then ≡ set freed n (Some f) → Walking (i + 1) then
      node-done f freed then gives typed same kept written =
          record {
            tables = with_table walking.tables n f;
            size = ap length written ∙ length-set freed n (Some f) ∙ same ∙ walking.size;
            gives = λ m c. gives-now m (take-next order i n m at c);
            schemas = λ m c. typed-now m (take-next order i n m at c);
            held = λ m c wanted-on. held-now m (take-next order i n m at c) wanted-on;
          }
        where
          within : n < length freed
          within = (let small = place-within i n at in let size = walking.size in omega (arith, small, size, same))

          gives-now : (m : ℕ) → Contains (take i order) m ⊎ (n ≡ m) → GivesAt F plan (with_table walking.tables n f) m
          gives-now m (inl c) = still-gives f m c
          gives-now m (inr s) = subst (λ k. GivesAt F plan (with_table walking.tables n f) k) s (own-gives f gives)

          typed-now : (m : ℕ) → Contains (take i order) m ⊎ (n ≡ m) → (with_table walking.tables n f m).schema ≡ plan_schemas F plan m
          typed-now m (inl c) = ap (λ (g : Frame). g.schema) (other-table walking.tables n f m (new m c)) ∙ walking.schemas m c
          typed-now m (inr s) = subst (λ k. (with_table walking.tables n f k).schema ≡ plan_schemas F plan k) s (ap (λ (g : Frame). g.schema) (own-table walking.tables n f) ∙ typed)

          held-now : (m : ℕ) → Contains (take i order) m ⊎ (n ≡ m) → i + 1 ≤ get_or until m 0 → slice_get then m ≡ Some (Some (with_table walking.tables n f m))
          held-now m (inl c) on =
              ap (λ (k : Held). slice_get k m) written ∙ slice_get-set_other freed n m (Some f) (new m c) ∙ kept m (omega (arith, on)) ∙ walking.held m c (omega (arith, on)) ∙ ap (λ g. Some (Some g)) (sym (other-table walking.tables n f m (new m c)))
          held-now m (inr s) on = subst (λ k. slice_get then k ≡ Some (Some (with_table walking.tables n f k))) s
              (ap (λ (k : Held). slice_get k n) written ∙ slice_get-set_same freed n (Some f) within ∙ ap (λ g. Some (Some g)) (sym (own-table walking.tables n f)))

      -- an error of the node is want of memory, or stands for a fault with which the plan may end
      module _ (valid : IsValid F plan) where
        below-gives : (k m : ℕ) → Contains (inputs_at plan n) k → Path (inputs_at plan) k m → GivesAt F plan walking.tables m
        below-gives k m c way = path-gives k m (survey.inputs_first i n k at c) way
          where
            path-gives : (k m : ℕ) → Contains (take i order) k → Path (inputs_at plan) k m → GivesAt F plan walking.tables m
            path-gives k _ c here = walking.gives k c
            path-gives k m c (onward named way) = path-gives _ m (closed i k _ c named) way

        pub node-fault : (x : PolarsError) → NodeFaults F plan n (tables_in slots (entry_inputs e)) x → (x ≡ error.OutOfMemory) ⊎ ((f : DataFault) × (x ≡ fault_error n f) × NodeMayFault F plan n f)
        node-fault x h = by (subst (λ fs. MayFault F n (entry_step (tree_at plan.exprs) e) fs x) given (subst (λ (o : Option IR). IfSome o (λ y. MayFault F n (entry_step (tree_at plan.exprs) y) (tables_in slots (entry_inputs e)) x)) is h))
          where
            by : MayFault F n (entry_step (tree_at plan.exprs) e) (tables_of walking.tables (entry_inputs e)) x → (x ≡ error.OutOfMemory) ⊎ ((f : DataFault) × (x ≡ fault_error n f) × NodeMayFault F plan n f)
            by (inl m) = inl m
            by (inr (f, s, h)) = inr (f, s, faults-answer F plan order walking.tables n f valid lists node-reached below-gives (subst (λ (o : Option IR). IfSome o (λ y. IsFaultAt F n (entry_step (tree_at plan.exprs) y) (tables_of walking.tables (entry_inputs y)) f)) (sym is) h))

    -- all nodes are computed
    module _ (slots : Held) (walking : Walking (length order) slots) (valid : IsValid F plan) (last : length order ≤ get_or until plan.root.0 0) where
      all-stand : (m : ℕ) → Reached plan m → Contains (take (length order) order) m
      all-stand m r = subst (λ ns. Contains ns m) (sym (take-length order)) (survey.all m r)

      pub root-held : IsHeld slots plan.root
      root-held = (walking.tables plan.root.0, walking.held plan.root.0 (all-stand plan.root.0 here) last)

      pub root-means : IsMeaning F (tree_of plan plan.root.0) (whole (table_in slots plan.root))
      root-means = subst (λ f. IsMeaning F (tree_of plan plan.root.0) (whole f)) (sym (one-held slots walking.tables plan.root (walking.held plan.root.0 (all-stand plan.root.0 here) last)))
          (tables-mean F plan order walking.tables plan.root.0 valid lists here (λ m way. walking.gives m (all-stand m way)))
