-- What the nodes of the shape mean that the root shows: what the nodes meant for which they stand.
use Rattle.std.proofs.Common.{◌≡◌, ◌≢◌, ◌⊎◌, inl, inr, ℕ, zero, suc, ◌-◌, ◌<◌, ◌≤◌, Bool, true, false, get_or, List, [], ◌∷◌, length, map, Option, Some, None, refl, sym, ap, subst, ◌∙◌, arith}
use Rattle.std.proofs.lemmas.Bool.{eqb-false, eqb-true, ne_eqb}
use Rattle.std.proofs.lemmas.List.{length-map}
use Rattle.std.proofs.lemmas.Option.{same_Some}
use Rattle.std.specs.Prelude.{Contains, if◌then◌else◌, slice_get, ◌==◌, ⊤}
use Rattle.ps_frame.specs.Causes.{Cause}
use Rattle.ps_frame.specs.Functions.{Functions}
use Rattle.ps_frame.specs.Tables.{Table}
use Rattle.ps_meaning.proofs.Containing.{contains-later}
use Rattle.ps_meaning.specs.Cases.{all_columns, cut_by, table_of}
use Rattle.ps_meaning.specs.Laws.{IsBuilt}
use Rattle.ps_meaning.specs.Shape.{Feeds, IsLargeAt, IsLargeByStep, IsPhysicalChoice, PhysicalBefore, PhysicalBrokenBy, PhysicalCase, PhysicalIsLarge, PhysicalKind, PhysicalMayGive, PhysicalNode, Shape, as_step, cut_of, equi_join, filter_node, group_by_node, in_memory_join, in_memory_map, in_memory_sink, in_memory_source, independent_select, input_tables, itself, mild_zip, multiplexer, narrowed, negative_slice, ordered_union, reduce, select_node, simple_projection, stream_map, streaming_slice, tables_for, through, with_row_index, zip_node}
use Rattle.ps_meaning.specs.Sound.{HasFitParameters, IsFunctionStep, IsMapStep, IsSoundButForReaders}
use Rattle.ps_meaning.specs.Steps.{Step, left_out}
use Rattle.ps_multiplexers.specs.Multiplexers.{multiplexer_of, with_multiplexers}
use Rattle.ps_phys.specs.Walks.{Stream, is_one_of, node_at, numbers_of, numbers_read, place_in, renumbered, renumbered_input}
use Rattle.ps_plan.specs.Lowering.{IsLoweringOf}
use Rattle.ps_plan.specs.PlanMeanings.{NodeBrokenBy, NodeIsLarge}
use Rattle.ps_plan.specs.Plans.{Plan}
use Rattle.plan_laws.proofs.ChoiceLaw.{some_case}
use Rattle.multiplexer_laws.specs.Kept.{StandsFor}
use Rattle.multiplexer_laws.specs.Shared.{ReadFirstPortsBefore, shared_shape}
use Rattle.multiplexer_laws.proofs.Leaving.{Reached, onward, start}
use Rattle.multiplexer_laws.proofs.Members.{Stands, either, front_or_more, stands_here, stands_more}
use Rattle.multiplexer_laws.proofs.Muxed.{IsMux, IsOriginal, ReadsBefore, base, base_low, base_reached, mux_reads, new_base, old_before, old_low, old_reached, several_low, to_base, view}
use Rattle.multiplexer_laws.proofs.Placed.{got_place}
use Rattle.multiplexer_laws.proofs.Shown.{Order, is_ordered, node_placed, node_there, order_closed, order_is, order_within, reads_at, root_at, shown_at, there_within}

-- streams and their numbers
number_of_stream : (is : List Stream) (s : Stream) → Contains is s → Stands s.0 (numbers_of is)
number_of_stream [] s (k, l, e) = absurd (omega (arith, l))
number_of_stream (i ∷ is) s (zero, l, e) = stands_here s.0 i.0 (numbers_of is) (ap (λ (t : Stream). t.0) e)
number_of_stream (i ∷ is) s (suc k, l, e) = stands_more s.0 i.0 (numbers_of is) (number_of_stream is s (k, omega (arith, l), e))

stream_of_number : (is : List Stream) (m : ℕ) → Stands m (numbers_of is) → (port : ℕ) × Contains is (m, port)
stream_of_number [] m h = cc
stream_of_number (i ∷ is) m h = by (front_or_more m i.0 (numbers_of is) h) (λ k. stream_of_number is m k)
  where
    by : (i.0 ≡ m) ⊎ Stands m (numbers_of is) → (Stands m (numbers_of is) → (port : ℕ) × Contains is (m, port)) → (port : ℕ) × Contains (i ∷ is) (m, port)
    by (inl e) rest = (i.1, (0, omega arith, λ j. (e j, i.1)))
    by (inr k) rest = let r = rest k in (r.0, contains-later i (m, r.0) is r.1)

place_of_stream : (order : List ℕ) (is : List Stream) (s : Stream) → Contains (map (renumbered_input order) is) s → (m : ℕ) × Stands m (numbers_of is) × (s.0 ≡ place_in order m)
place_of_stream order [] s (k, l, e) = absurd (omega (arith, l))
place_of_stream order (i ∷ is) s (zero, l, e) = (i.0, stands_here i.0 i.0 (numbers_of is) refl, ap (λ (t : Stream). t.0) (sym e))
place_of_stream order (i ∷ is) s (suc k, l, e) = let r = place_of_stream order is s (k, omega (arith, l), e) in (r.0, stands_more r.0 i.0 (numbers_of is) r.1, r.2)

abbrev IsBuiltOr : Option Step → Type 0
IsBuiltOr None = ⊤
IsBuiltOr (Some step) = IsBuilt step

module _ (F : Functions) where
  map_built : (step : Step) → IsMapStep F step → IsBuilt step
  map_built (left_out what) h = h
  map_built _ h = tt

  stream_built : (step : Step) → IsFunctionStep F step → IsBuilt step
  stream_built (left_out what) h = h
  stream_built _ h = tt

  kind_built : (k : PhysicalKind) → HasFitParameters F k → IsBuiltOr (as_step k)
  kind_built (in_memory_source t) h = tt
  kind_built (select_node es true) h = tt
  kind_built (select_node es false) h = tt
  kind_built (with_row_index name offset) h = tt
  kind_built (independent_select es) h = tt
  kind_built (reduce es) h = tt
  kind_built (streaming_slice offset n) h = tt
  kind_built (negative_slice back n) h = tt
  kind_built (filter_node e) h = tt
  kind_built (simple_projection ns) h = tt
  kind_built in_memory_sink h = tt
  kind_built (in_memory_map step) h = map_built step h
  kind_built (stream_map step) h = stream_built step h
  kind_built ordered_union h = tt
  kind_built (zip_node true) h = tt
  kind_built (zip_node false) h = tt
  kind_built multiplexer h = tt
  kind_built (group_by_node keys aggregates) h = tt
  kind_built (equi_join o) h = tt
  kind_built (in_memory_join o) h = tt

  some_before : (p : PhysicalNode) (o : Option Step) (ts : List Table) → IsBuiltOr o → (U : Table) × PhysicalBefore F p o ts U
  some_before p None ts h = (table_of p.schema (λ rows. rows) (mild_zip p.origin (all_columns ts)), inl refl)
  some_before p (Some step) ts h = let c = some_case F p.origin step ts h in (c.1.0, c.1.1)

  -- a node with fit parameters gives some table
  some_table : (p : PhysicalNode) (ts : List Table) → HasFitParameters F p.kind → (T : Table) × PhysicalCase F p ts T
  some_table p ts h = let b = some_before p (as_step p.kind) (tables_for F p.kind ts) (kind_built p.kind h) in (narrowed F p (cut_by (cut_of F (as_step p.kind)) b.0), (b.0, b.1, refl))

  -- nodes that are one but for what they read
  module _ (p q : PhysicalNode) (kind : p.kind ≡ q.kind) (schema : p.schema ≡ q.schema) (origin : p.origin ≡ q.origin) where
    over : ◌≡◌ {A = PhysicalNode} (record { kind = p.kind; schema = p.schema; origin = p.origin; inputs = q.inputs }) q
    over = λ i. record { kind = kind i; schema = schema i; origin = origin i; inputs = q.inputs }

    case_like : (ts : List Table) (T : Table) → PhysicalCase F p ts T → PhysicalCase F q ts T
    case_like ts T here = let P : PhysicalNode → Type 0 = λ x. PhysicalCase F x ts T in subst P over here

    before_like : (ts : List Table) (U : Table) → PhysicalBefore F p (as_step p.kind) (tables_for F p.kind ts) U → PhysicalBefore F q (as_step q.kind) (tables_for F q.kind ts) U
    before_like ts U here = let P : PhysicalNode → Type 0 = λ x. PhysicalBefore F x (as_step x.kind) (tables_for F x.kind ts) U in subst P over here

    large_like : (ts : List Table) → IsLargeByStep F p.origin (as_step p.kind) (tables_for F p.kind ts) → IsLargeByStep F q.origin (as_step q.kind) (tables_for F q.kind ts)
    large_like ts here = let P : PhysicalNode → Type 0 = λ x. IsLargeByStep F x.origin (as_step x.kind) (tables_for F x.kind ts) in subst P over here

  -- a multiplexer gives its input's table, and no other
  mux_before : (nodes : Shape) (order : List ℕ) (n : ℕ) (t U : Table) → PhysicalBefore F (renumbered order (multiplexer_of nodes n)) (as_step multiplexer) (tables_for F multiplexer (t ∷ [])) U → U ≡ t
  mux_before nodes order n t U (inl e) = e
  mux_before nodes order n t U (inr (V, gives, lost, at)) = absurd (lost refl)

  mux_only : (nodes : Shape) (order : List ℕ) (n : ℕ) (t T : Table) → PhysicalCase F (renumbered order (multiplexer_of nodes n)) (t ∷ []) T → T ≡ t
  mux_only nodes order n t T (U, b, is) = is ∙ mux_before nodes order n t U b

  mux_gives : (nodes : Shape) (order : List ℕ) (n : ℕ) (t : Table) → PhysicalCase F (renumbered order (multiplexer_of nodes n)) (t ∷ []) t
  mux_gives nodes order n t = (t, inl refl, refl)

  module _ (nodes : Shape) (root : ℕ) (low : root < length nodes) (reads : (n : ℕ) → ReadsBefore n (node_at nodes n)) (sound : IsSoundButForReaders F nodes) where
    abbrev after : Shape
    after = with_multiplexers root nodes

    abbrev news : ℕ → List ℕ
    news n = numbers_read after n

    abbrev olds : ℕ → List ℕ
    olds n = numbers_read nodes n

    abbrev order : List ℕ
    order = Order nodes root low reads

    abbrev shape : Shape
    shape = shared_shape nodes root

    abbrev stood : ℕ → ℕ
    stood n = base nodes root low reads n

    abbrev place : ℕ → ℕ
    place n = place_in order n

    abbrev placed : ℕ → PhysicalNode
    placed n = renumbered order (node_at after n)

    abbrev View : ℕ → Type 0
    View n = IsOriginal nodes root low reads n ⊎ IsMux nodes root low reads n

    see : (n : ℕ) → Stands n order → View n
    see n h = view nodes root low reads n (order_within nodes root low reads n h)

    at_shape : (n : ℕ) → Stands n order → slice_get shape (place n) ≡ Some (placed n)
    at_shape n h = node_placed nodes root low reads n h

    stood_ordered : (n : ℕ) → Stands n order → Stands (stood n) order
    stood_ordered n h = is_ordered nodes root low reads (stood n) (to_base nodes root low reads n (order_within nodes root low reads n h) (order_is nodes root low reads n h))

    stood_low : (n : ℕ) → Stands n order → stood n < length nodes
    stood_low n h = by (see n h)
      where
        by : View n → base nodes root low reads n < length nodes
        by (inl o) = let e = base_low nodes root low reads n o.within in let l = o.within in omega (arith, e, l)
        by (inr x) = several_low nodes root low reads (base nodes root low reads n) x.is_read

    -- what an old node reads is shown where it is
    old_ordered : (n m : ℕ) → n < length nodes → Stands n order → Stands m (olds n) → Stands m order
    old_ordered n m l h e =
        let P : ℕ → Type 0 = λ y. Reached olds root y in
        is_ordered nodes root low reads m (old_reached nodes root low reads m (onward (subst P (base_low nodes root low reads n l) (base_reached nodes root low reads n (order_is nodes root low reads n h))) e))

    map_numbers : (d : ℕ → Table) (is : List Stream) → map (λ (i : Stream). d i.0) is ≡ map d (numbers_of is)
    map_numbers d [] = refl
    map_numbers d (i ∷ is) = ap (λ ts. d i.0 ∷ ts) (map_numbers d is)

    map_alike : (d e : ℕ → Table) (ns : List ℕ) → ((m : ℕ) → Stands m ns → d m ≡ e m) → map d ns ≡ map e ns
    map_alike d e [] h = refl
    map_alike d e (n ∷ ns) h = λ i. h n (stands_here n n ns refl) i ∷ map_alike d e ns (λ m k. h m (stands_more m n ns k)) i

    -- from tables of the shape to tables of the nodes
    module _ (c : ℕ → Table) (chosen : IsPhysicalChoice F shape c) where
      mux_same : (n : ℕ) → Stands n order → IsMux nodes root low reads n → c (place n) ≡ c (place (stood n))
      mux_same n h x =
          mux_only nodes order (stood n) (c (place (stood n))) (c (place n)) (chosen (place n) (renumbered order (multiplexer_of nodes (stood n))) (at_shape n h ∙ ap (λ (p : PhysicalNode). Some (renumbered order p)) x.node))

      same_place : (n : ℕ) → Stands n order → c (place n) ≡ c (place (stood n))
      same_place n h = by (see n h)
        where
          by : View n → c (place_in (Order nodes root low reads) n) ≡ c (place_in (Order nodes root low reads) (base nodes root low reads n))
          by (inl o) = ap (λ m. c (place_in (Order nodes root low reads) m)) (sym (base_low nodes root low reads n o.within))
          by (inr x) = mux_same n h x

      shown_tables : (is : List Stream) → ((m : ℕ) → Stands m (numbers_of is) → Stands m order) → map (λ (i : Stream). c i.0) (map (renumbered_input order) is) ≡ map (λ m. c (place m)) (map stood (numbers_of is))
      shown_tables [] h = refl
      shown_tables (i ∷ is) h = λ j. same_place i.0 (h i.0 (stands_here i.0 i.0 (numbers_of is) refl)) j ∷ shown_tables is (λ m e. h m (stands_more m i.0 (numbers_of is) e)) j

      original_tables : (n : ℕ) → Stands n order → IsOriginal nodes root low reads n → input_tables F c (placed n) ≡ map (λ m. c (place m)) (olds n)
      original_tables n h o = shown_tables (node_at after n).inputs (λ m e. order_closed nodes root low reads n m h e) ∙ ap (λ ns. map (λ m. c (place m)) ns) o.bases

      -- tables of the nodes below a number: of a node that is shown that of its place, of another any one that it gives
      record Chosen (k : ℕ) : Type 0 where
        choice : ℕ → Table
        shown : (n : ℕ) → n < k → Stands n order → choice n ≡ c (place n)
        cases : (n : ℕ) → n < k → n < length nodes → PhysicalCase F (node_at nodes n) (input_tables F choice (node_at nodes n)) (choice n)

      module _ (k : ℕ) (g : Chosen k) (T : Table) (here : Stands k order → T ≡ c (place k)) (gives : PhysicalCase F (node_at nodes k) (input_tables F g.choice (node_at nodes k)) T) where
        further : ℕ → Table
        further n = if n == k then T else g.choice n

        at_other : (n : ℕ) → n ≢ k → further n ≡ g.choice n
        unfolding further
        at_other n other = ap (λ b. if b then T else g.choice n) (ne_eqb n k other)

        at_own : further k ≡ T
        unfolding further
        at_own = by (k == k) refl
          where
            by : (b : Bool) → k == k ≡ b → (if b then T else g.choice k) ≡ T
            by true e = refl
            by false e = absurd (eqb-false k k e refl)

        same_inputs : (n : ℕ) → n ≤ k → input_tables F further (node_at nodes n) ≡ input_tables F g.choice (node_at nodes n)
        same_inputs n l =
            map_numbers further (node_at nodes n).inputs
            ∙ map_alike further g.choice (olds n) (λ m h. at_other m (λ is. (let b = old_before nodes root low reads n m h in omega (arith, b, l, is))))
            ∙ sym (map_numbers g.choice (node_at nodes n).inputs)

        case_from : (n : ℕ) (V : Table) → n ≤ k → further n ≡ V → PhysicalCase F (node_at nodes n) (input_tables F g.choice (node_at nodes n)) V → PhysicalCase F (node_at nodes n) (input_tables F further (node_at nodes n)) (further n)
        case_from n V l e case =
            let P : List Table → Type 0 = λ ts. PhysicalCase F (node_at nodes n) ts (further n) in
            let Q : Table → Type 0 = λ U. PhysicalCase F (node_at nodes n) (input_tables F g.choice (node_at nodes n)) U in
            subst P (sym (same_inputs n l)) (subst Q (sym e) case)

        below : (n : ℕ) → n < suc k → n ≢ k → n < k
        below n l other = omega (arith, l, other)

        put : Chosen (suc k)
        put = record { choice = further; shown = λ n l h. shown_by n l h (n == k) refl; cases = λ n l m. cases_by n l m (n == k) refl }
          where
            shown_by : (n : ℕ) → n < suc k → Stands n order → (b : Bool) → n == k ≡ b → further n ≡ c (place n)
            shown_by n l h true e =
                let is : n ≡ k = eqb-true n k e in
                let P : ℕ → Type 0 = λ y. Stands y order in
                ap further is ∙ at_own ∙ here (subst P is h) ∙ ap (λ y. c (place y)) (sym is)
            shown_by n l h false e = let other = eqb-false n k e in at_other n other ∙ g.shown n (below n l other) h

            cases_by : (n : ℕ) → n < suc k → n < length nodes → (b : Bool) → n == k ≡ b → PhysicalCase F (node_at nodes n) (input_tables F further (node_at nodes n)) (further n)
            cases_by n l m true e =
                let is : n ≡ k = eqb-true n k e in
                let P : ℕ → Type 0 = λ y. PhysicalCase F (node_at nodes y) (input_tables F further (node_at nodes y)) (further y) in
                subst P (sym is) (case_from k T (omega arith) at_own gives)
            cases_by n l m false e = let other = eqb-false n k e in case_from n (g.choice n) (omega (arith, l)) (at_other n other) (g.cases n (below n l other) m)

      more : (k : ℕ) → k < length nodes → Chosen k → Chosen (suc k)
      more k l g = by (either (is_one_of k order))
        where
          q : PhysicalNode
          q = node_at nodes k

          shown_case : Stands k order → View k → PhysicalCase F (node_at nodes k) (input_tables F g.choice (node_at nodes k)) (c (place k))
          shown_case h (inl o) =
              let there = chosen (place k) (placed k) (at_shape k h) in
              let now = case_like (placed k) (node_at nodes k) o.kind o.schema o.origin (input_tables F c (placed k)) (c (place k)) there in
              let before : input_tables F g.choice (node_at nodes k) ≡ map (λ m. c (place m)) (olds k) =
              map_numbers g.choice (node_at nodes k).inputs ∙ map_alike g.choice (λ m. c (place m)) (olds k) (λ m e. g.shown m (old_before nodes root low reads k m e) (old_ordered k m l h e)) in
              let P : List Table → Type 0 = λ ts. PhysicalCase F (node_at nodes k) ts (c (place k)) in
              subst P (original_tables k h o ∙ sym before) now
          shown_case h (inr x) = let at = x.at in absurd (omega (arith, at, l))

          by : (is_one_of k order ≡ true) ⊎ (is_one_of k order ≡ false) → Chosen (suc k)
          by (inl h) = put k g (c (place k)) (λ e. refl) (shown_case h (see k h))
          by (inr f) =
              let s = some_table (node_at nodes k) (input_tables F g.choice (node_at nodes k)) (sound k (node_at nodes k) (node_there nodes k l)).parameters in
              put k g s.0 (λ h. (let never : true ≡ false = sym h ∙ f in cc)) s.1

      below_all : (k : ℕ) → k ≤ length nodes → Chosen k
      below_all zero l = record { choice = c; shown = λ n h e. absurd (omega (arith, h)); cases = λ n h e. absurd (omega (arith, h)) }
      below_all (suc k) l = more k (omega (arith, l)) (below_all k (omega (arith, l)))

      whole : Chosen (length nodes)
      whole = below_all (length nodes) (omega arith)

      carried : ℕ → Table
      carried n = whole.choice n

      carried_shown : (n : ℕ) → Stands n order → carried (stood n) ≡ c (place n)
      unfolding carried
      carried_shown n h = whole.shown (stood n) (stood_low n h) (stood_ordered n h) ∙ sym (same_place n h)

      carried_choice : IsPhysicalChoice F nodes carried
      unfolding carried
      carried_choice n p e =
          let l = there_within nodes n p e in
          let is : node_at nodes n ≡ p = same_Some (node_at nodes n) p (sym (node_there nodes n l) ∙ e) in
          let P : PhysicalNode → Type 0 = λ q. PhysicalCase F q (input_tables F whole.choice q) (whole.choice n) in
          subst P is (whole.cases n l l)

      -- tables of inputs
      carried_tables : (n : ℕ) → Stands n order → IsOriginal nodes root low reads n → input_tables F c (placed n) ≡ input_tables F carried (node_at nodes n)
      carried_tables n h o =
          original_tables n h o
          ∙ map_alike (λ m. c (place m)) carried (olds n) (λ m e. (let k = old_ordered n m o.within h e in sym (carried_shown m k) ∙ ap carried (base_low nodes root low reads m (old_low nodes root low reads n m e))))
          ∙ sym (map_numbers carried (node_at nodes n).inputs)

      -- what a node of the shape may give
      carried_gives : (n : ℕ) → Stands n order → (U : Table) → PhysicalMayGive F shape c (place n) U → PhysicalMayGive F nodes carried (stood n) U
      carried_gives n h U (inl e) = inl (carried_shown n h ∙ e)
      carried_gives n h U (inr (p, e, b)) =
          let is : p ≡ placed n = same_Some p (placed n) (sym e ∙ at_shape n h) in
          let P : PhysicalNode → Type 0 = λ q. PhysicalBefore F q (as_step q.kind) (tables_for F q.kind (input_tables F c q)) U in
          by (see n h) (subst P is b)
        where
          by : View n → PhysicalBefore F (placed n) (as_step (placed n).kind) (tables_for F (placed n).kind (input_tables F c (placed n))) U → PhysicalMayGive F nodes carried (stood n) U
          by (inl o) b =
              let q = node_at nodes n in
              let now = before_like (placed n) q o.kind o.schema o.origin (input_tables F c (placed n)) U b in
              let P : List Table → Type 0 = λ ts. PhysicalBefore F q (as_step q.kind) (tables_for F q.kind ts) U in
              let Q : ℕ → Type 0 = λ m. PhysicalMayGive F nodes carried m U in
              subst Q (sym (base_low nodes root low reads n o.within)) (inr (q, node_there nodes n o.within, subst P (carried_tables n h o) now))
          by (inr x) b =
              let P : PhysicalNode → Type 0 = λ p. PhysicalBefore F (renumbered order p) (as_step p.kind) (tables_for F p.kind (input_tables F c (renumbered order p))) U in
              inl (carried_shown n h ∙ same_place n h ∙ sym (mux_before nodes order (stood n) (c (place (stood n))) U (subst P x.node b)))

      carried_large : (n : ℕ) → Stands n order → IsLargeAt F shape c (place n) → IsLargeAt F nodes carried (stood n)
      carried_large n h (inl (U, gives, large)) = inl (U, carried_gives n h U gives, large)
      carried_large n h (inr (p, e, b)) =
          let is : p ≡ placed n = same_Some p (placed n) (sym e ∙ at_shape n h) in
          let P : PhysicalNode → Type 0 = λ q. IsLargeByStep F q.origin (as_step q.kind) (tables_for F q.kind (input_tables F c q)) in
          by (see n h) (subst P is b)
        where
          by : View n → IsLargeByStep F (placed n).origin (as_step (placed n).kind) (tables_for F (placed n).kind (input_tables F c (placed n))) → IsLargeAt F nodes carried (stood n)
          by (inl o) b =
              let q = node_at nodes n in
              let now = large_like (placed n) q o.kind o.schema o.origin (input_tables F c (placed n)) b in
              let P : List Table → Type 0 = λ ts. IsLargeByStep F q.origin (as_step q.kind) (tables_for F q.kind ts) in
              let Q : ℕ → Type 0 = λ m. IsLargeAt F nodes carried m in
              subst Q (sym (base_low nodes root low reads n o.within)) (inr (q, node_there nodes n o.within, subst P (carried_tables n h o) now))
          by (inr x) b = let P : PhysicalNode → Type 0 = λ p. IsLargeByStep F p.origin (as_step p.kind) (tables_for F p.kind (input_tables F c (renumbered order p))) in absurd (subst P x.node b)

    -- and from tables of the nodes to tables of the shape
    module _ (d : ℕ → Table) (chosen : IsPhysicalChoice F nodes d) where
      shown : ℕ → Table
      shown i = d (stood (get_or order i 0))

      shown_is : (n : ℕ) → Stands n order → shown (place n) ≡ d (stood n)
      unfolding shown
      shown_is n h = ap (λ m. d (stood m)) (got_place order n h)

      all_shown : (is : List Stream) → ((m : ℕ) → Stands m (numbers_of is) → Stands m order) → map (λ (i : Stream). shown i.0) (map (renumbered_input order) is) ≡ map d (map stood (numbers_of is))
      all_shown [] h = refl
      all_shown (i ∷ is) h = λ j. shown_is i.0 (h i.0 (stands_here i.0 i.0 (numbers_of is) refl)) j ∷ all_shown is (λ m e. h m (stands_more m i.0 (numbers_of is) e)) j

      shown_case : (n : ℕ) → Stands n order → PhysicalCase F (placed n) (input_tables F shown (placed n)) (shown (place n))
      shown_case n h = by (see n h)
        where
          tables_are : input_tables F shown (placed n) ≡ map d (map stood (news n))
          tables_are = all_shown (node_at after n).inputs (λ m e. order_closed nodes root low reads n m h e)

          by : View n → PhysicalCase F (placed n) (input_tables F shown (placed n)) (shown (place n))
          by (inl o) =
              let q = node_at nodes n in
              let there = chosen n q (node_there nodes n o.within) in
              let now = case_like q (placed n) (sym o.kind) (sym o.schema) (sym o.origin) (input_tables F d q) (d n) there in
              let is : input_tables F shown (placed n) ≡ input_tables F d q = tables_are ∙ ap (λ ns. map d ns) o.bases ∙ sym (map_numbers d q.inputs) in
              let P : List Table → Type 0 = λ ts. PhysicalCase F (placed n) ts (shown (place n)) in
              let Q : Table → Type 0 = λ T. PhysicalCase F (placed n) (input_tables F d q) T in
              subst P (sym is) (subst Q (sym (shown_is n h ∙ ap d (base_low nodes root low reads n o.within))) now)
          by (inr x) =
              let b = stood n in
              let t = d b in
              let is : input_tables F shown (placed n) ≡ t ∷ [] = tables_are ∙ ap (λ ns. map d (map stood ns)) (mux_reads nodes root low reads n x) ∙ ap (λ m. d m ∷ []) (base_low nodes root low reads b (several_low nodes root low reads b x.is_read)) in
              let P : List Table → Type 0 = λ ts. PhysicalCase F (placed n) ts (shown (place n)) in
              let Q : Table → Type 0 = λ T. PhysicalCase F (placed n) (t ∷ []) T in
              let R : PhysicalNode → Type 0 = λ p. PhysicalCase F (renumbered order p) (t ∷ []) t in
              subst P (sym is) (subst Q (sym (shown_is n h)) (subst R (sym x.node) (mux_gives nodes order b t)))

      shown_choice : IsPhysicalChoice F shape shown
      shown_choice i p e =
          let s = shown_at nodes root low reads i p e in
          let P : ℕ → Type 0 = λ j. PhysicalCase F p (input_tables F shown p) (shown j) in
          let Q : PhysicalNode → Type 0 = λ q. PhysicalCase F q (input_tables F shown q) (shown (place s.number)) in
          subst P (sym s.at) (subst Q (sym s.node) (shown_case s.number s.stands))

    -- the node for which the node at a place stands
    for_which : ℕ → ℕ
    for_which i = stood (get_or order i 0)

    for_place : (n : ℕ) → Stands n order → for_which (place n) ≡ stood n
    unfolding for_which
    for_place n h = ap stood (got_place order n h)

    only : (k m : ℕ) → (k ≡ m) ⊎ Stands m [] → k ≡ m
    only k m (inl is) = is
    only k m (inr w) = cc

    -- a node that reads another stands for one that reads the other's, or for the same
    read_too : (k n m : ℕ) → Stands n order → Stands m (news n) → Feeds F nodes k (stood m) → Feeds F nodes k (stood n)
    read_too k n m h e f = by (see n h)
      where
        by : View n → Feeds F nodes k (stood n)
        by (inl o) =
            let q = node_at nodes n in
            let r = stream_of_number q.inputs (stood m) (new_base nodes root low reads n m o e) in
            let P : ℕ → Type 0 = λ y. Feeds F nodes k y in
            subst P (sym (base_low nodes root low reads n o.within)) (through q r.0 (node_there nodes n o.within) r.1 f)
        by (inr x) =
            let b = stood n in
            let P : List ℕ → Type 0 = λ ns. Stands m ns in
            let Q : ℕ → Type 0 = λ y. Feeds F nodes k y in
            let is = only b m (front_or_more m b [] (subst P (mux_reads nodes root low reads n x) e)) in
            subst Q (ap stood (sym is) ∙ base_low nodes root low reads b (several_low nodes root low reads b x.is_read)) f

    feeds_next : (k i m port : ℕ) (p : PhysicalNode) → slice_get shape i ≡ Some p → Contains p.inputs (m, port) → Feeds F nodes k (for_which m) → Feeds F nodes k (for_which i)
    feeds_next k i m port p e c f =
        let s = shown_at nodes root low reads i p e in
        let n = s.number in
        let P : PhysicalNode → Type 0 = λ q. Contains q.inputs (m, port) in
        let r = place_of_stream order (node_at after n).inputs (m, port) (subst P s.node c) in
        let there = order_closed nodes root low reads n r.0 s.stands r.1 in
        let Q : ℕ → Type 0 = λ y. Feeds F nodes k y in
        let from : for_which m ≡ stood r.0 = ap for_which r.2 ∙ for_place r.0 there in
        let to : for_which i ≡ stood n = ap for_which s.at ∙ for_place n s.stands in
        subst Q (sym to) (read_too k n r.0 s.stands r.1 (subst Q from f))

    feeds_too : {k i : ℕ} → Feeds F shape k i → Feeds F nodes (for_which k) (for_which i)
    feeds_too itself = itself
    feeds_too {k} {i} (through {m = m} p port e c f) = feeds_next (for_which k) i m port p e c (feeds_too f)

    numbered : (i : ℕ) (p : PhysicalNode) → slice_get shape i ≡ Some p → (n : ℕ) × Stands n order × (i ≡ place n)
    numbered i p e = let s = shown_at nodes root low reads i p e in (s.number, s.stands, s.at)

    within_node : (i : ℕ) → i < length shape → (n : ℕ) × Stands n order × (i ≡ place n)
    within_node i h = numbered i (node_at shape i) (node_there shape i h)

    -- each node of the shape stands for the node of its base
    module _ (n : ℕ) (there : Stands n order) where
      node_is : (p : PhysicalNode) → slice_get shape (place n) ≡ Some p → (q : PhysicalNode) × (slice_get nodes (stood n) ≡ Some q) × (p.schema ≡ q.schema) × (p.origin ≡ q.origin)
      node_is p e = by (see n there)
        where
          is : p ≡ placed n
          is = same_Some p (placed n) (sym e ∙ at_shape n there)

          by : View n → (q : PhysicalNode) × (slice_get nodes (stood n) ≡ Some q) × (p.schema ≡ q.schema) × (p.origin ≡ q.origin)
          by (inl o) =
              let b = base_low nodes root low reads n o.within in (
                node_at nodes n,
                ap (λ m. slice_get nodes m) b ∙ node_there nodes n o.within,
                ap (λ (q : PhysicalNode). q.schema) is ∙ o.schema,
                ap (λ (q : PhysicalNode). q.origin) is ∙ o.origin,
              )
          by (inr x) = (
            node_at nodes (stood n),
            node_there nodes (stood n) (stood_low n there),
            ap (λ (q : PhysicalNode). q.schema) is ∙ ap (λ (q : PhysicalNode). q.schema) x.node,
            ap (λ (q : PhysicalNode). q.origin) is ∙ ap (λ (q : PhysicalNode). q.origin) x.node,
          )

      inside : place n < length shape
      inside = there_within shape (place n) (placed n) (at_shape n there)

      pub stands_for : StandsFor F nodes (stood n) shape (place n)
      stands_for =
          record {
            node = node_is;
            tables = λ T. (
              λ m. (carried m.0 m.1, carried_choice m.0 m.1, stood_low n there, carried_shown m.0 m.1 n there ∙ m.3),
              λ m. (shown m.0 m.1, shown_choice m.0 m.1, inside, shown_is m.0 m.1 n there ∙ m.3),
            );
            causes = λ c b. (carried b.0 b.1, carried_choice b.0 b.1, stood_low n there, b.3, carried_gives b.0 b.1 n there b.3 b.4, b.5);
            sizes = λ l. sizes l;
          }
        where
          sizes : PhysicalIsLarge F shape (place n) → PhysicalIsLarge F nodes (stood n)
          sizes (c, chosen, m, l, feeds, large) =
              let w = within_node m l in
              let P : ℕ → Type 0 = λ y. IsLargeAt F shape c y in
              let Q : ℕ → Type 0 = λ y. Feeds F nodes y (stood n) in
              let R : ℕ → Type 0 = λ y. Feeds F nodes (for_which m) y in
              let at : for_which m ≡ stood w.0 = ap for_which w.2 ∙ for_place w.0 w.1 in
              (carried c chosen, carried_choice c chosen, stood w.0, stood_low w.0 w.1, subst Q at (subst R (for_place n there) (feeds_too feeds)), carried_large c chosen w.0 w.1 (subst P w.2 large))

    pub each_stands : (i : ℕ) → i < length shape → (m : ℕ) × StandsFor F nodes m shape i
    each_stands i h =
        let w = within_node i h in
        let P : ℕ → Type 0 = λ j. StandsFor F nodes (stood w.0) shape j in
        (stood w.0, subst P (sym w.2) (stands_for w.0 w.1))

    root_ordered : Stands root order
    root_ordered = is_ordered nodes root low reads root start

    pub root_stands : StandsFor F nodes root shape (length shape - 1)
    root_stands =
        let P : ℕ → Type 0 = λ j. StandsFor F nodes root shape j in
        let Q : ℕ → Type 0 = λ m. StandsFor F nodes m shape (place root) in
        let long : length shape ≡ length order = length-map order (λ m. renumbered order (node_at after m)) in
        let at = root_at nodes root low reads in
        let last : place root ≡ length shape - 1 = omega (arith, long, at) in
        subst P last (subst Q (base_low nodes root low reads root low) (stands_for root root_ordered))

module _ (F : Functions) (nodes : Shape) (root : ℕ) (low : root < length nodes) (each : ReadFirstPortsBefore nodes) (sound : IsSoundButForReaders F nodes) where
  pub all_stand : (i : ℕ) → i < length (shared_shape nodes root) → (m : ℕ) × StandsFor F nodes m (shared_shape nodes root) i
  all_stand = each_stands F nodes root low (reads_at nodes each) sound

  pub the_root_stands : StandsFor F nodes root (shared_shape nodes root) (length (shared_shape nodes root) - 1)
  the_root_stands = root_stands F nodes root low (reads_at nodes each) sound

  -- a lowering stays one
  pub still_lowered : (plan : Plan) → IsLoweringOf F plan nodes root → IsLoweringOf F plan (shared_shape nodes root) (length (shared_shape nodes root) - 1)
  still_lowered plan l =
      record {
        tables = λ T m. l.tables T ((the_root_stands.tables T).0 m);
        causes = λ n p c e own b. causes n p c e own b (all_stand n (there_within (shared_shape nodes root) n p e));
        sizes = λ n p e large. sizes n p e large (all_stand n (there_within (shared_shape nodes root) n p e));
      }
    where
      causes : (n : ℕ) (p : PhysicalNode) (c : Cause) → slice_get (shared_shape nodes root) n ≡ Some p → c.node ≡ p.origin → PhysicalBrokenBy F (shared_shape nodes root) n c → (m : ℕ) × StandsFor F nodes m (shared_shape nodes root) n → NodeBrokenBy F plan p.origin c
      causes n p c e own b (m, s) =
          let q = s.node p e in
          let P : ℕ → Type 0 = λ k. NodeBrokenBy F plan k c in
          subst P (sym q.3) (l.causes m q.0 c q.1 (own ∙ q.3) (s.causes c b))

      sizes : (n : ℕ) (p : PhysicalNode) → slice_get (shared_shape nodes root) n ≡ Some p → PhysicalIsLarge F (shared_shape nodes root) n → (m : ℕ) × StandsFor F nodes m (shared_shape nodes root) n → NodeIsLarge F plan p.origin
      sizes n p e large (m, s) =
          let q = s.node p e in
          let P : ℕ → Type 0 = λ k. NodeIsLarge F plan k in
          subst P (sym q.3) (l.sizes m q.0 q.1 (s.sizes large))
