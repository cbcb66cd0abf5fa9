-- What a node answers hangs on its stage and on what it gave and booked; and apart from done, what it sends hangs on what its inputs are given alone.
use Rattle.std.proofs.Common.{◌≡◌, zero, suc, Bool, true, false, cond, List, [], ◌∷◌, Some, None, refl, ap, ◌∙◌, inl, inr}
use Rattle.std.specs.Prelude.{nat_eq, nat_lt, slice_get, ◌&&◌, ◌||◌}
use Rattle.std.specs.List.{list_any}
use Rattle.ps_meaning.specs.Joins.{fills_right}
use Rattle.ps_meaning.specs.Shape.{PhysicalKind, equi_join, filter_node, group_by_node, in_memory_join, in_memory_map, in_memory_sink, in_memory_source, independent_select, multiplexer, negative_slice, ordered_union, reduce, select_node, simple_projection, stream_map, streaming_slice, with_row_index, zip_node}
use Rattle.ps_meaning.specs.Steps.{JoinStep}
use Rattle.ps_options.specs.declared.options.Options.{Options}
use Rattle.ps_ports.specs.declared.port_state.PortState.{PortState}
use Rattle.ps_ports.specs.declared.port_state.PortState.TheVariants as port
use Rattle.ps_ports.specs.Ports.{Sides, all_blocked, all_done, first_port, is_blocked, is_done, repeated}
use Rattle.ps_ports.specs.UpdateLaws.{AgreeApartFromDone}
use Rattle.ps_turns.specs.Claims.{owes_last}
use Rattle.ps_turns.specs.Cuts.{is_exhausted}
use Rattle.ps_turns.specs.Heads.{Head}
use Rattle.ps_turns.specs.Progress.{Progress, Stage, giving, spent, taking}
use Rattle.ps_turns.specs.Updates.{answer_by, done_on_both, join_answer, keeper_answer, passing_answer, port_answers, slice_is_over, source_state, undone_empty, union_output, zip_answer, zip_is_over}
use Rattle.turn_laws.proofs.Kept.{AgreeAt, agree_done, done_agree, none_agree, one_agree, same_agree}

-- THE SAME ANSWER
joins_same : (j : JoinStep) (b c : Progress) (stage : Stage) (given : Sides) → b.sent ≡ c.sent → join_answer j b stage given ≡ join_answer j c stage given
joins_same j b c taking given e = refl
joins_same j b c giving given e =
    ap
    (λ n. cond (is_done (first_port given.inputs) && (fills_right j.args.how && nat_eq n 0)) (record { inputs = port.Done ∷ port.Done ∷ []; outputs = port.Ready ∷ [] })
    (record { inputs = first_port given.outputs ∷ port.Done ∷ []; outputs = first_port given.inputs ∷ [] }))
    e
joins_same j b c spent given e = refl

keeps_same : (b c : Progress) (given : Sides) → b.stage ≡ c.stage → keeper_answer b.stage given ≡ keeper_answer c.stage given
keeps_same b c given e = ap (λ s. keeper_answer s given) e

pub same_answer : (o : Options) (kind : PhysicalKind) (b c : Progress) (hs : List Head) (es : List Bool) (given : Sides) → b.stage ≡ c.stage → b.sent ≡ c.sent → b.booked ≡ c.booked
    → answer_by o kind b hs es given ≡ answer_by o kind c hs es given
same_answer o (in_memory_source t) b c hs es given stage sent booked =
    ap (λ n. let s : Sides = record { inputs = []; outputs = source_state (is_exhausted o t.rows n) (first_port given.outputs) ∷ [] } in s) sent
same_answer o (independent_select s) b c hs es given stage sent booked =
    ap (λ n. let s : Sides = record { inputs = []; outputs = source_state (nat_lt 0 n) (first_port given.outputs) ∷ [] } in s) sent
same_answer o (streaming_slice offset n) b c hs es given stage sent booked = ap (λ k. cond (slice_is_over offset n k) (done_on_both given) (passing_answer given)) booked
same_answer o in_memory_sink b c hs es given stage sent booked = refl
same_answer o ordered_union b c hs es given stage sent booked = refl
same_answer o (zip_node extend) b c hs es given stage sent booked = refl
same_answer o multiplexer b c hs es given stage sent booked = refl
same_answer o (equi_join j) b c hs es given stage sent booked = joins_same j b c b.stage given sent ∙ ap (λ s. join_answer j c s given) stage
same_answer o (in_memory_map step) b c hs es given stage sent booked = keeps_same b c given stage
same_answer o (in_memory_join j) b c hs es given stage sent booked = keeps_same b c given stage
same_answer o (negative_slice back n) b c hs es given stage sent booked = keeps_same b c given stage
same_answer o (reduce s) b c hs es given stage sent booked = keeps_same b c given stage
same_answer o (group_by_node keys aggregates) b c hs es given stage sent booked = keeps_same b c given stage
same_answer o (select_node s extends) b c hs es given stage sent booked = refl
same_answer o (with_row_index name offset) b c hs es given stage sent booked = refl
same_answer o (filter_node e) b c hs es given stage sent booked = refl
same_answer o (simple_projection names) b c hs es given stage sent booked = refl
same_answer o (stream_map step) b c hs es given stage sent booked = refl

-- WHAT IS SENT
-- a source is ready until it is done
sources : (x y : Bool) → AgreeAt (cond x port.Done port.Ready) (cond y port.Done port.Ready)
sources true y = inl refl
sources false true = inr (inl refl)
sources false false = inr (inr refl)

module _ (given given' : Sides) (same : given.inputs ≡ given'.inputs) where
  slices : (x y : Bool) → AgreeApartFromDone (cond {A = Sides} x (done_on_both given) (passing_answer given)).outputs (cond {A = Sides} y (done_on_both given') (passing_answer given')).outputs
  slices true y = done_agree given.outputs (cond {A = Sides} y (done_on_both given') (passing_answer given')).outputs
  slices false true = agree_done given.inputs given'.outputs
  slices false false = same_agree given.inputs given'.inputs same

  -- a zip says whether it is over, or else whether one of its inputs is blocked
  zips : (over over' blocked : Bool) (s s' : PortState)
      → AgreeApartFromDone
      (cond {A = Sides} over (record { inputs = repeated port.Done given.inputs; outputs = port.Done ∷ [] })
      (cond blocked (record { inputs = repeated port.Blocked given.inputs; outputs = port.Blocked ∷ [] }) (record { inputs = repeated s given.inputs; outputs = port.Ready ∷ [] }))).outputs
      (cond {A = Sides} over' (record { inputs = repeated port.Done given'.inputs; outputs = port.Done ∷ [] })
      (cond blocked (record { inputs = repeated port.Blocked given'.inputs; outputs = port.Blocked ∷ [] }) (record { inputs = repeated s' given'.inputs; outputs = port.Ready ∷ [] }))).outputs
  zips true true blocked s s' = one_agree port.Done port.Done (inl refl)
  zips true false true s s' = one_agree port.Done port.Blocked (inl refl)
  zips true false false s s' = one_agree port.Done port.Ready (inl refl)
  zips false true true s s' = one_agree port.Blocked port.Done (inr (inl refl))
  zips false true false s s' = one_agree port.Ready port.Done (inr (inl refl))
  zips false false true s s' = one_agree port.Blocked port.Blocked (inr (inr refl))
  zips false false false s s' = one_agree port.Ready port.Ready (inr (inr refl))

  zip_sends : (hs hs' : List Head) → AgreeApartFromDone (zip_answer hs given).outputs (zip_answer hs' given').outputs
  zip_sends hs hs' = by (list_any is_blocked given.inputs) (list_any is_blocked given'.inputs) (ap (list_any is_blocked) same)
    where
      by : (x y : Bool) → x ≡ y
          → AgreeApartFromDone
          (cond {A = Sides} (zip_is_over hs given) (record { inputs = repeated port.Done given.inputs; outputs = port.Done ∷ [] })
          (cond x (record { inputs = repeated port.Blocked given.inputs; outputs = port.Blocked ∷ [] })
          (record { inputs = repeated (cond (is_blocked (first_port given.outputs)) port.Blocked port.Ready) given.inputs; outputs = port.Ready ∷ [] }))).outputs
          (cond {A = Sides} (zip_is_over hs' given') (record { inputs = repeated port.Done given'.inputs; outputs = port.Done ∷ [] })
          (cond y (record { inputs = repeated port.Blocked given'.inputs; outputs = port.Blocked ∷ [] })
          (record { inputs = repeated (cond (is_blocked (first_port given'.outputs)) port.Blocked port.Ready) given'.inputs; outputs = port.Ready ∷ [] }))).outputs
      by true true e = zips (zip_is_over hs given) (zip_is_over hs' given') true (cond (is_blocked (first_port given.outputs)) port.Blocked port.Ready) (cond (is_blocked (first_port given'.outputs)) port.Blocked port.Ready)
      by false false e = zips (zip_is_over hs given) (zip_is_over hs' given') false (cond (is_blocked (first_port given.outputs)) port.Blocked port.Ready) (cond (is_blocked (first_port given'.outputs)) port.Blocked port.Ready)
      by true false e = absurd (let no : true ≡ false = e in cc)
      by false true e = absurd (let no : false ≡ true = e in cc)

  -- the ports of a multiplexer, each by whether its pipe is empty
  ports : (s : PortState) (es : List Bool) (os os' : List PortState) → AgreeApartFromDone (port_answers s es os) (port_answers s es os')
  ports s es [] os' i x y ex ey = absurd (let no : None ≡ Some x = ex in cc)
  ports s es (o ∷ os) [] i x y ex ey = absurd (let no : None ≡ Some y = ey in cc)
  ports s [] (o ∷ os) (o' ∷ os') zero x y ex ey = inr (inr (let p : Some s ≡ Some x = ex in let q : Some s ≡ Some y = ey in cc))
  ports s [] (o ∷ os) (o' ∷ os') (suc i) x y ex ey = ports s [] os os' i x y ex ey
  ports s (e ∷ es) (o ∷ os) (o' ∷ os') zero x y ex ey = inr (inr (let p : Some (cond e s port.Ready) ≡ Some x = ex in let q : Some (cond e s port.Ready) ≡ Some y = ey in cc))
  ports s (e ∷ es) (o ∷ os) (o' ∷ os') (suc i) x y ex ey = ports s es os os' i x y ex ey

  ports_follow : (s s' : PortState) (es : List Bool) → s ≡ s' → AgreeApartFromDone (port_answers s es given.outputs) (port_answers s' es given'.outputs)
  ports_follow s s' es e i x y ex ey = ports s es given.outputs given'.outputs i x y ex (ap (λ t. slice_get (port_answers t es given'.outputs) i) e ∙ ey)

  multiplexers : (x y : Bool) (es : List Bool) (ins ins' : List PortState) (t t' s s' : PortState) → s ≡ s'
      → AgreeApartFromDone
      (cond {A = Sides} x (record { inputs = ins; outputs = repeated port.Done given.outputs }) (record { inputs = t ∷ []; outputs = port_answers s es given.outputs })).outputs
      (cond {A = Sides} y (record { inputs = ins'; outputs = repeated port.Done given'.outputs }) (record { inputs = t' ∷ []; outputs = port_answers s' es given'.outputs })).outputs
  multiplexers true true es ins ins' t t' s s' e = done_agree given.outputs (repeated port.Done given'.outputs)
  multiplexers true false es ins ins' t t' s s' e = done_agree given.outputs (port_answers s' es given'.outputs)
  multiplexers false true es ins ins' t t' s s' e = agree_done (port_answers s es given.outputs) given'.outputs
  multiplexers false false es ins ins' t t' s s' e = ports_follow s s' es e

  -- a join that probes
  probes : (x y : Bool) → x ≡ y → (s s' t t' : PortState) → s ≡ s'
      → AgreeApartFromDone (cond {A = Sides} x (record { inputs = port.Done ∷ port.Done ∷ []; outputs = port.Ready ∷ [] }) (record { inputs = t ∷ port.Done ∷ []; outputs = s ∷ [] })).outputs
      (cond {A = Sides} y (record { inputs = port.Done ∷ port.Done ∷ []; outputs = port.Ready ∷ [] }) (record { inputs = t' ∷ port.Done ∷ []; outputs = s' ∷ [] })).outputs
  probes true true e s s' t t' d = one_agree port.Ready port.Ready (inr (inr refl))
  probes false false e s s' t t' d = one_agree s s' (inr (inr d))
  probes true false e s s' t t' d = absurd (let no : true ≡ false = e in cc)
  probes false true e s s' t t' d = absurd (let no : false ≡ true = e in cc)

  join_sends : (j : JoinStep) (b c : Progress) (stage : Stage) → b.sent ≡ c.sent → AgreeApartFromDone (join_answer j b stage given).outputs (join_answer j c stage given').outputs
  join_sends j b c taking e = one_agree port.Blocked port.Blocked (inr (inr refl))
  join_sends j b c giving e =
      probes (is_done (first_port given.inputs) && owes_last j b) (is_done (first_port given'.inputs) && owes_last j c) (λ i. is_done (first_port (same i)) && (fills_right j.args.how && nat_eq (e i) 0)) (first_port given.inputs) (first_port given'.inputs)
      (first_port given.outputs) (first_port given'.outputs) (ap first_port same)
  join_sends j b c spent e = one_agree port.Done port.Done (inl refl)

  keeper_sends : (stage : Stage) → AgreeApartFromDone (keeper_answer stage given).outputs (keeper_answer stage given').outputs
  keeper_sends taking = one_agree port.Blocked port.Blocked (inr (inr refl))
  keeper_sends giving = one_agree port.Ready port.Ready (inr (inr refl))
  keeper_sends spent = one_agree port.Done port.Done (inl refl)

  of_stage : (b c : Progress) → b.stage ≡ c.stage → AgreeApartFromDone (keeper_answer b.stage given).outputs (keeper_answer c.stage given').outputs
  of_stage b c e i x y ex ey = keeper_sends b.stage i x y ex (ap (λ s. slice_get (keeper_answer s given').outputs i) e ∙ ey)

  of_join : (j : JoinStep) (b c : Progress) → b.stage ≡ c.stage → b.sent ≡ c.sent → AgreeApartFromDone (join_answer j b b.stage given).outputs (join_answer j c c.stage given').outputs
  of_join j b c e sent i x y ex ey = join_sends j b c b.stage sent i x y ex (ap (λ s. slice_get (join_answer j c s given').outputs i) e ∙ ey)

  passing : AgreeApartFromDone given.inputs given'.inputs
  passing = same_agree given.inputs given'.inputs same

  -- where the inputs are given the same, in one stage
  pub same_sends : (o : Options) (kind : PhysicalKind) (b c : Progress) (hs hs' : List Head) (es : List Bool) → b.stage ≡ c.stage → b.sent ≡ c.sent
      → AgreeApartFromDone (answer_by o kind b hs es given).outputs (answer_by o kind c hs' es given').outputs
  same_sends o (in_memory_source t) b c hs hs' es stage sent =
      one_agree _ _ (sources (is_done (first_port given.outputs) || is_exhausted o t.rows b.sent) (is_done (first_port given'.outputs) || is_exhausted o t.rows c.sent))
  same_sends o (independent_select s) b c hs hs' es stage sent =
      one_agree _ _ (sources (is_done (first_port given.outputs) || nat_lt 0 b.sent) (is_done (first_port given'.outputs) || nat_lt 0 c.sent))
  same_sends o (streaming_slice offset n) b c hs hs' es stage sent = slices (slice_is_over offset n b.booked) (slice_is_over offset n c.booked)
  same_sends o in_memory_sink b c hs hs' es stage sent = none_agree []
  same_sends o ordered_union b c hs hs' es stage sent = one_agree (union_output given.inputs) (union_output given'.inputs) (inr (inr (ap union_output same)))
  same_sends o (zip_node extend) b c hs hs' es stage sent = zip_sends hs hs'
  same_sends o multiplexer b c hs hs' es stage sent =
      multiplexers (all_done given.outputs || (all_done given.inputs && undone_empty es given.outputs)) (all_done given'.outputs || (all_done given'.inputs && undone_empty es given'.outputs)) es (port.Done ∷ []) (port.Done ∷ [])
      (cond (all_blocked given.outputs) port.Blocked port.Ready) (cond (all_blocked given'.outputs) port.Blocked port.Ready) (first_port given.inputs) (first_port given'.inputs) (ap first_port same)
  same_sends o (equi_join j) b c hs hs' es stage sent = of_join j b c stage sent
  same_sends o (in_memory_map step) b c hs hs' es stage sent = of_stage b c stage
  same_sends o (in_memory_join j) b c hs hs' es stage sent = of_stage b c stage
  same_sends o (negative_slice back n) b c hs hs' es stage sent = of_stage b c stage
  same_sends o (reduce s) b c hs hs' es stage sent = of_stage b c stage
  same_sends o (group_by_node keys aggregates) b c hs hs' es stage sent = of_stage b c stage
  same_sends o (select_node s extends) b c hs hs' es stage sent = passing
  same_sends o (with_row_index name offset) b c hs hs' es stage sent = passing
  same_sends o (filter_node e) b c hs hs' es stage sent = passing
  same_sends o (simple_projection names) b c hs hs' es stage sent = passing
  same_sends o (stream_map step) b c hs hs' es stage sent = passing
