-- Where the nodes of a front have tables, so have those behind it, if the shape is sound.
use Rattle.std.proofs.Common.{◌≡◌, ◌⊎◌, ℕ, ◌-◌, ◌<◌, ◌≤◌, Bool, true, false, cond, List, [], ◌∷◌, ◌++◌, length, map, Option, Some, None, inl, inr, refl, sym, ap, subst, ◌∙◌, arith, length-append}
use Rattle.std.proofs.lemmas.Bool.{cases_lt}
use Rattle.std.proofs.lemmas.List.{append-nil, append_assoc}
use Rattle.std.proofs.lemmas.Option.{same_Some, slice_get_within}
use Rattle.std.specs.Prelude.{◌==◌, slice_get, ⊤}
use Rattle.std.specs.List.{AllByRecursion}
use Rattle.plan_laws.proofs.ChoiceLaw.{some_case}
use Rattle.ps_frame.proofs.Seams.{slice_get-behind}
use Rattle.ps_frame.specs.Functions.{Functions}
use Rattle.ps_frame.specs.Tables.{Table}
use Rattle.ps_meaning.specs.Cases.{all_columns, cut_by, table_of}
use Rattle.ps_meaning.specs.Laws.{IsBuilt}
use Rattle.ps_meaning.specs.Shape.{IsPhysicalChoice, PhysicalBefore, PhysicalCase, PhysicalKind, PhysicalNode, Shape, as_step, cut_of, in_memory_map, input_tables, mild_zip, narrowed, select_node, stream_map, tables_for, zip_node}
use Rattle.ps_meaning.specs.Sound.{EachNode, HasFitParameters, IsFunctionStep, IsMapStep, IsSoundButForReaders}
use Rattle.ps_meaning.specs.Steps.{Step, left_out}
use Rattle.ps_rules.specs.Slots.{Stream}
use Rattle.step_keeps.proofs.Added.{stays, stood}

abbrev IsBuiltOr : Option Step → Type 0
IsBuiltOr None = ⊤
IsBuiltOr (Some step) = IsBuilt step

module _ (F : Functions) where
  map_built : (step : Step) → IsMapStep F step → IsBuilt step
  map_built (left_out what) h = h
  map_built _ h = tt

  stream_built : (step : Step) → IsFunctionStep F step → IsBuilt step
  stream_built (left_out what) h = h
  stream_built _ h = tt

  kind_built : (k : PhysicalKind) → HasFitParameters F k → IsBuiltOr (as_step k)
  kind_built (in_memory_map step) h = map_built step h
  kind_built (stream_map step) h = stream_built step h
  kind_built (select_node es true) h = tt
  kind_built (select_node es false) h = tt
  kind_built (zip_node true) h = tt
  kind_built (zip_node false) h = tt
  kind_built _ h = tt

  some_before : (p : PhysicalNode) (o : Option Step) (ts : List Table) → IsBuiltOr o → (U : Table) × PhysicalBefore F p o ts U
  some_before p None ts h = (table_of p.schema (λ rows. rows) (mild_zip p.origin (all_columns ts)), inl refl)
  some_before p (Some step) ts h = let c = some_case F p.origin step ts h in (c.1.0, c.1.1)

  -- a node with fit parameters gives some table
  some_table : (p : PhysicalNode) (ts : List Table) → HasFitParameters F p.kind → (T : Table) × PhysicalCase F p ts T
  some_table p ts h = let b = some_before p (as_step p.kind) (tables_for F p.kind ts) (kind_built p.kind h) in (narrowed F p (cut_by (cut_of F (as_step p.kind)) b.0), (b.0, b.1, refl))

  -- each node reads earlier ones, and has fit parameters
  abbrev pub AreFit : Shape → Type 0
  AreFit shape = EachNode shape (λ n p. AllByRecursion (λ (i : Stream). i.0 < n) p.inputs × HasFitParameters F p.kind)

  pub sound_fit : (shape : Shape) → IsSoundButForReaders F shape → AreFit shape
  sound_fit shape sound n p there = let f = sound n p there in (f.earlier, f.parameters)

  same_inputs : (old new : ℕ → Table) (top : ℕ) → ((k : ℕ) → k < top → new k ≡ old k) → (is : List Stream) → AllByRecursion (λ (i : Stream). i.0 < top) is → map (λ (i : Stream). new i.0) is ≡ map (λ (i : Stream). old i.0) is
  same_inputs old new top same [] h = refl
  same_inputs old new top same (i ∷ is) h = λ j. same i.0 h.0 j ∷ same_inputs old new top same is h.1 j

  -- one node behind others
  at_end : (a : Shape) (p : PhysicalNode) → slice_get (a ++ p ∷ []) (length a) ≡ Some p
  at_end a p = let none : length a - length a ≡ 0 = omega arith in slice_get-behind a (p ∷ []) (length a) (omega arith) ∙ ap (slice_get (p ∷ [])) none

  last_is : (a : Shape) (p q : PhysicalNode) (n : ℕ) → length a ≤ n → slice_get (a ++ p ∷ []) n ≡ Some q → (n ≡ length a) × (p ≡ q)
  last_is a p q n high e =
      let within = slice_get_within (a ++ p ∷ []) n q e in
      let long = length-append a (p ∷ []) in
      let is : n ≡ length a = omega arith in
      (is, same_Some p q (sym (at_end a p) ∙ ap (slice_get (a ++ p ∷ [])) (sym is) ∙ e))

  module _ (a : Shape) (p : PhysicalNode) (tables : ℕ → Table) (T : Table) where
    abbrev with_last : ℕ → Table
    with_last n = cond {A = Table} (n == length a) T (tables n)

    last_table : with_last (length a) ≡ T
    last_table = let same : (length a == length a) ≡ true = grind (arith) in ap (λ (b : Bool). cond {A = Table} b T (tables (length a))) same

    front_table : (n : ℕ) → n < length a → with_last n ≡ tables n
    front_table n low = let other : (n == length a) ≡ false = grind (arith) in ap (λ (b : Bool). cond {A = Table} b T (tables n)) other

    still_case : (n : ℕ) (q : PhysicalNode) (U : Table) → n ≤ length a → AllByRecursion (λ (i : Stream). i.0 < n) q.inputs → with_last n ≡ U → PhysicalCase F q (input_tables F tables q) U → PhysicalCase F q (input_tables F with_last q) (with_last n)
    still_case n q U le early at here =
        let inputs = same_inputs tables with_last n (λ k lt. front_table k (omega arith)) q.inputs early in
        subst (λ (ts : List Table). PhysicalCase F q ts (with_last n)) (sym inputs) (subst (λ (V : Table). PhysicalCase F q (input_tables F tables q) V) (sym at) here)

    one_more : AreFit (a ++ p ∷ []) → PhysicalCase F p (input_tables F tables p) T → IsPhysicalChoice F a tables → IsPhysicalChoice F (a ++ p ∷ []) with_last
    one_more fit own chosen n q e = by (cases_lt n (length a))
      where
        by : (n < length a) ⊎ (length a ≤ n) → PhysicalCase F q (input_tables F with_last q) (with_last n)
        by (inl low) = still_case n q (tables n) (omega arith) (fit n q e).0 (front_table n low) (chosen n q (stood F a (a ++ p ∷ []) (p ∷ []) refl n q low e))
        by (inr high) =
            let l = last_is a p q n high e in
            subst (λ (x : PhysicalNode). PhysicalCase F x (input_tables F with_last x) (with_last n)) l.1 (still_case n p T (omega arith) (fit n p (e ∙ ap Some (sym l.1))).0 (ap with_last l.0 ∙ last_table) own)

  pub record IsFurther (a b : Shape) (tables : ℕ → Table) : Type 0 where
    pub choice : ℕ → Table
    pub chosen : IsPhysicalChoice F b choice
    pub same : (k : ℕ) → k < length a → choice k ≡ tables k

  front_further : (a b : Shape) (p : PhysicalNode) (tables : ℕ → Table) (T : Table) → IsFurther (a ++ p ∷ []) b (with_last a p tables T) → IsFurther a b tables
  front_further a b p tables T r = let long = length-append a (p ∷ []) in record { choice = r.choice; chosen = r.chosen; same = λ k low. r.same k (omega arith) ∙ front_table a p tables T k low }

  pub further : (more a : Shape) (tables : ℕ → Table) → AreFit (a ++ more) → IsPhysicalChoice F a tables → IsFurther a (a ++ more) tables
  further [] a tables fit chosen = record { choice = tables; chosen = subst (λ (x : Shape). IsPhysicalChoice F x tables) (sym (append-nil a)) chosen; same = λ k low. refl }
  further (p ∷ more) a tables fit chosen =
      let e = append_assoc a (p ∷ []) more in
      let fit_all = subst AreFit (sym e) fit in
      let fit_front : AreFit (a ++ p ∷ []) = λ n q there. fit_all n q (stays F (a ++ p ∷ []) ((a ++ p ∷ []) ++ more) more refl n q there) in
      let s = some_table p (input_tables F tables p) (fit_front (length a) p (at_end a p)).1 in
      let r = further more (a ++ p ∷ []) (with_last a p tables s.0) fit_all (one_more a p tables s.0 fit_front s.1 chosen) in
      subst (λ (x : Shape). IsFurther a x tables) e (front_further a ((a ++ p ∷ []) ++ more) p tables s.0 r)
