-- Why a node at rest is ready to an output whose reader is ready: it has a claim of its own, what waits for that output wasn't taken, or an input is ready on both ends.
use Rattle.std.proofs.Common.{◌≡◌, ℕ, zero, suc, ◌<◌, ◌≤◌, ◌⊎◌, Bool, true, false, cond, List, [], ◌∷◌, length, Option, None, Some, refl, sym, ap, ◌∙◌, inl, inr, arith}
use Rattle.std.specs.Prelude.{get_or, is_some, map, nat_eq, nat_le, nat_lt, not, ◌&&◌, ◌||◌}
use Rattle.std.specs.List.{list_all, list_any}
use Rattle.std.proofs.lemmas.Bool.Decides.{nat_tests}
use Rattle.ps_frame.specs.Causes.{is_empty}
use Rattle.ps_frame.specs.Tables.{Fields, Row}
use Rattle.ps_meaning.specs.Shape.{PhysicalKind, PhysicalNode, equi_join, filter_node, group_by_node, in_memory_join, in_memory_map, in_memory_sink, in_memory_source, independent_select, multiplexer, negative_slice, ordered_union, reduce, select_node, simple_projection, stream_map, streaming_slice, with_row_index, zip_node}
use Rattle.ps_meaning.specs.Sound.{HasInputs, HasReaders}
use Rattle.ps_meaning.specs.Steps.{JoinStep}
use Rattle.ps_options.specs.declared.options.Options.{Options}
use Rattle.ps_ports.specs.Ports.{Sides, all_blocked, all_done, first_port, is_blocked, is_done, is_ready, repeated}
use Rattle.ps_ports.specs.declared.port_state.PortState.{PortState}
use Rattle.ps_ports.specs.declared.port_state.PortState.TheVariants as port
use Rattle.ps_turns.specs.Claims.{Claim, Next, claim_by, of_join, of_left, of_made, of_parts, of_reduce, owes_last}
use Rattle.ps_turns.specs.Cuts.{is_exhausted}
use Rattle.ps_turns.specs.Heads.{Head, heads_by, is_ready_head, stored_inputs}
use Rattle.ps_turns.specs.Progress.{Progress, Stage, giving, is_giving, is_multiplexer, spent, taking}
use Rattle.ps_turns.specs.Updates.{answer_by, done_on_both, exhausted_rows, join_answer, keeper_answer, multiplexer_answer, next_stage, passing_answer, port_answers, shape_fault, slice_is_over, stage_after, undone_empty, union_inputs, union_output, zip_is_over}
use Rattle.world_ends.proofs.Stored.{HasMade, HasStores}
use Rattle.world_ends.proofs.Tests.{ready_not_blocked, ready_not_done}
use Rattle.world_ends.proofs.ZipClaims.{zip_tests}

-- whatever it has next, the node has a claim; dones says which inputs are done
abbrev pub ClaimsOwn : Options → PhysicalNode → PhysicalKind → Progress → List Head → (dones : List Bool) → Type 0
ClaimsOwn o p kind a hs ds = (ss : List Fields) (next : Next) → (c : Claim) × (claim_by o p ss kind a hs ds 0 next ≡ Some c)

-- a port is ready, whatever stands behind the last one
abbrev pub IsReadyAt : List PortState → ℕ → Type 0
IsReadyAt ss i = (d : PortState) → is_ready (get_or ss i d) ≡ true

-- an input that is ready as it is given and as it is answered
abbrev pub HasReadyInput : (given answer : Sides) → Type 0
HasReadyInput given answer = (i : ℕ) × (i < length given.inputs) × IsReadyAt given.inputs i × IsReadyAt answer.inputs i

-- CLAIMS
exists_unless : (b : Bool) (x : Claim) → b ≡ false → (c : Claim) × (cond b None (Some x) ≡ Some c)
exists_unless true x e = absurd (let no : true ≡ false = e in cc)
exists_unless false x e = (x, refl)

exists_if : (b : Bool) (x : Claim) → b ≡ true → (c : Claim) × (cond b (Some x) None ≡ Some c)
exists_if true x e = (x, refl)
exists_if false x e = absurd (let no : false ≡ true = e in cc)

made_claims : (o : Options) (p : PhysicalNode) (ss : List Fields) (a : Progress) (st : Stage) (rows : Option (List Row)) → st ≡ giving → is_some rows ≡ true → exhausted_rows o a.sent rows ≡ false → (c : Claim) × (of_made o p ss a st rows ≡ Some c)
made_claims o p ss a giving (Some rs) e s x = exists_unless (is_exhausted o rs a.sent) _ x
made_claims o p ss a giving None e s x = absurd (let no : false ≡ true = s in cc)
made_claims o p ss a taking rows e s x = absurd (let no : taking ≡ giving = e in cc)
made_claims o p ss a spent rows e s x = absurd (let no : spent ≡ giving = e in cc)

row_claims : (o : Options) (p : PhysicalNode) (ss : List Fields) (a : Progress) (st : Stage) (next : Next) → st ≡ giving → nat_eq a.sent 0 ≡ true → (c : Claim) × (of_reduce o p ss st 0 a next ≡ Some c)
row_claims o p ss a giving next e s = exists_if (nat_eq a.sent 0) _ s
row_claims o p ss a taking next e s = absurd (let no : taking ≡ giving = e in cc)
row_claims o p ss a spent next e s = absurd (let no : spent ≡ giving = e in cc)

part_claims : (o : Options) (p : PhysicalNode) (ss : List Fields) (a : Progress) (st : Stage) (next : Next) → st ≡ giving → nat_lt a.sent (length a.lists) ≡ true → (c : Claim) × (of_parts o p ss st 0 a next ≡ Some c)
part_claims o p ss a giving next e s = exists_if (nat_lt a.sent (length a.lists)) _ s
part_claims o p ss a taking next e s = absurd (let no : taking ≡ giving = e in cc)
part_claims o p ss a spent next e s = absurd (let no : spent ≡ giving = e in cc)

last_claims : (o : Options) (p : PhysicalNode) (ss : List Fields) (a : Progress) (j : JoinStep) (st : Stage) (d : Bool) (next : Next) → st ≡ giving → (d && owes_last j a) ≡ true → (c : Claim) × (of_join o p ss j st d 0 a next ≡ Some c)
last_claims o p ss a j giving d None e s = exists_if (d && owes_last j a) _ s
last_claims o p ss a j giving d (Some m) e s = (of_left o p ss j a m.0 m.1, refl)
last_claims o p ss a j taking d next e s = absurd (let no : taking ≡ giving = e in cc)
last_claims o p ss a j spent d next e s = absurd (let no : spent ≡ giving = e in cc)

none_sent : (n : ℕ) → nat_lt 0 n ≡ false → nat_eq n 0 ≡ true
none_sent n e = grind (arith, nat_tests)

some_part : (n m : ℕ) → nat_le n m ≡ false → nat_lt m n ≡ true
some_part n m e = grind (arith, nat_tests)

-- STATES
same_at : (ss : List PortState) (i : ℕ) (d e : PortState) → i < length ss → get_or ss i d ≡ get_or ss i e
same_at [] i d e h = absurd (omega arith)
same_at (s ∷ ss) zero d e h = refl
same_at (s ∷ ss) (suc i) d e h = same_at ss i d e (omega arith)

ready_at : (ss : List PortState) (i : ℕ) (d : PortState) → i < length ss → is_ready (get_or ss i d) ≡ true → IsReadyAt ss i
ready_at ss i d h r e = ap is_ready (same_at ss i e d h) ∙ r

pub repeated_at : (s : PortState) (ss : List PortState) (i : ℕ) → i < length ss → (d : PortState) → get_or (repeated s ss) i d ≡ s
repeated_at s [] i h d = absurd (omega arith)
repeated_at s (x ∷ ss) zero h d = refl
repeated_at s (x ∷ ss) (suc i) h d = repeated_at s ss i (omega arith) d

never_done : (ss : List PortState) (i : ℕ) (d : PortState) → i < length ss → is_ready (get_or (repeated port.Done ss) i d) ≡ true → ⊥
never_done ss i d h r = let no : false ≡ true = sym (ap is_ready (repeated_at port.Done ss i h d)) ∙ r in cc

at_first : (ss : List PortState) → is_ready (first_port ss) ≡ true → (d : PortState) → is_ready (get_or ss 0 d) ≡ true
at_first [] r d = absurd (let no : false ≡ true = r in cc)
at_first (s ∷ ss) r d = r

-- SOURCES, AND WHAT ACTS AS ONE
unexhausted : (x y : Bool) → is_ready (cond (x || y) port.Done port.Ready) ≡ true → y ≡ false
unexhausted true y e = absurd (let no : false ≡ true = e in cc)
unexhausted false true e = absurd (let no : false ≡ true = e in cc)
unexhausted false false e = refl

keeper_gives : (st : Stage) (given : Sides) (d : PortState) → is_ready (get_or (keeper_answer st given).outputs 0 d) ≡ true → st ≡ giving
keeper_gives taking given d e = absurd (let no : false ≡ true = e in cc)
keeper_gives giving given d e = refl
keeper_gives spent given d e = absurd (let no : false ≡ true = e in cc)

-- what stays in its stage of giving has something left to give
still_gives : (st : Stage) (d ins all : Bool) → st ≡ giving → next_stage st d ins all ≡ st → all ≡ false
still_gives giving false ins false e rest = refl
still_gives giving false ins true e rest = absurd (let no : spent ≡ giving = rest in cc)
still_gives giving true ins all e rest = absurd (let no : spent ≡ giving = rest in cc)
still_gives taking d ins all e rest = absurd (let no : taking ≡ giving = e in cc)
still_gives spent d ins all e rest = absurd (let no : spent ≡ giving = e in cc)

-- UNIONS, ZIPS AND JOINS
union_finds : (out : PortState) (ss : List PortState) → is_ready out ≡ true → is_ready (union_output ss) ≡ true → (i : ℕ) × (i < length ss) × IsReadyAt ss i × IsReadyAt (union_inputs out ss) i
union_finds out [] r e = absurd (let no : false ≡ true = e in cc)
union_finds out (port.Done ∷ ss) r e = let f = union_finds out ss r e in (suc f.0, let h = f.1 in omega arith, f.2, f.3)
union_finds out (port.Ready ∷ ss) r e = (0, omega arith, λ d. refl, λ d. r)
union_finds out (port.Blocked ∷ ss) r e = absurd (let no : false ≡ true = e in cc)

done_or_ready : (ss : List PortState) → list_any is_blocked ss ≡ false → (all_done ss ≡ true) ⊎ ((i : ℕ) × (i < length ss) × IsReadyAt ss i)
done_or_ready [] e = inl refl
done_or_ready (port.Blocked ∷ ss) e = absurd (let no : true ≡ false = e in cc)
done_or_ready (port.Ready ∷ ss) e = inr (0, omega arith, λ d. refl)
done_or_ready (port.Done ∷ ss) e = by (done_or_ready ss e)
  where
    by : (all_done ss ≡ true) ⊎ ((i : ℕ) × (i < length ss) × IsReadyAt ss i) → (all_done (port.Done ∷ ss) ≡ true) ⊎ ((i : ℕ) × (i < suc (length ss)) × IsReadyAt (port.Done ∷ ss) i)
    by (inl all) = inl all
    by (inr f) = inr (suc f.0, let h = f.1 in omega arith, f.2)

first_done : (ss : List PortState) → get_or (map is_done ss) 0 false ≡ is_done (first_port ss)
first_done [] = refl
first_done (s ∷ ss) = refl

abbrev zip_by : Sides → Bool → Bool → Sides
zip_by given a b =
    cond a (record { inputs = repeated port.Done given.inputs; outputs = port.Done ∷ [] })
    (cond b (record { inputs = repeated port.Blocked given.inputs; outputs = port.Blocked ∷ [] }) (record { inputs = repeated (cond (is_blocked (first_port given.outputs)) port.Blocked port.Ready) given.inputs; outputs = port.Ready ∷ [] }))

abbrev join_by : Sides → Bool → Sides
join_by given b = cond b (record { inputs = port.Done ∷ port.Done ∷ []; outputs = port.Ready ∷ [] }) (record { inputs = first_port given.outputs ∷ port.Done ∷ []; outputs = first_port given.inputs ∷ [] })

-- A NODE WITH ONE OUTPUT
module _ (o : Options) (p : PhysicalNode) (a : Progress) (hs : List Head) (es : List Bool) (given : Sides) (d : PortState) (reader : is_ready (first_port given.outputs) ≡ true) where
  abbrev ds : List Bool
  ds = map is_done given.inputs

  -- it has a claim, or an input that is ready on both ends
  abbrev Reason : PhysicalKind → Sides → Type 0
  Reason kind answer = ClaimsOwn o p kind a hs ds ⊎ HasReadyInput given answer

  passes : (kind : PhysicalKind) → length given.inputs ≡ 1 → is_ready (get_or given.inputs 0 d) ≡ true → Reason kind (passing_answer given)
  passes kind l e = inr (0, omega arith, ready_at given.inputs 0 d (omega arith) e, at_first given.outputs reader)

  sliced : (kind : PhysicalKind) (b : Bool) → length given.inputs ≡ 1 → length given.outputs ≡ 1 → is_ready (get_or (cond b (done_on_both given) (passing_answer given)).outputs 0 d) ≡ true → Reason kind (cond b (done_on_both given) (passing_answer given))
  sliced kind true l r e = absurd (never_done given.outputs 0 d (omega arith) e)
  sliced kind false l r e = passes kind l e

  made : (kind : PhysicalKind) → ((ss : List Fields) (next : Next) (c : Claim) → of_made o p ss a a.stage a.made ≡ Some c → claim_by o p ss kind a hs ds 0 next ≡ Some c) → a.stage ≡ giving → is_some a.made ≡ true → exhausted_rows o a.sent a.made ≡ false → ClaimsOwn o p kind a hs ds
  made kind at g m x ss next = let c = made_claims o p ss a a.stage a.made g m x in (c.0, at ss next c.0 c.1)

  joined : (j : JoinStep) (b : Bool) → (is_done (first_port given.inputs) && owes_last j a) ≡ b → a.stage ≡ giving → length given.inputs ≡ 2 → is_ready (get_or (join_by given b).outputs 0 d) ≡ true → Reason (equi_join j) (join_by given b)
  joined j true owes g l e = inl (λ ss next. last_claims o p ss a j a.stage (get_or ds 0 false) next g (ap (λ x. x && owes_last j a) (first_done given.inputs) ∙ owes))
  joined j false owes g l e = inr (0, omega arith, at_first given.inputs e, λ x. reader)

  join_stage : (j : JoinStep) (st : Stage) → a.stage ≡ st → length given.inputs ≡ 2 → is_ready (get_or (join_answer j a st given).outputs 0 d) ≡ true → Reason (equi_join j) (join_answer j a st given)
  join_stage j taking s l e = absurd (let no : false ≡ true = e in cc)
  join_stage j giving s l e = joined j (is_done (first_port given.inputs) && owes_last j a) refl s l e
  join_stage j spent s l e = absurd (let no : false ≡ true = e in cc)

  zipped : (extend : Bool) (b c : Bool) → zip_is_over hs given ≡ b → list_any is_blocked given.inputs ≡ c → hs ≡ heads_by extend a.booked (stored_inputs ds a.stores) → shape_fault p (zip_node extend) hs given ≡ None → length a.stores ≡ length given.inputs → 1 ≤ length given.inputs
      → is_ready (get_or (zip_by given b c).outputs 0 d) ≡ true → Reason (zip_node extend) (zip_by given b c)
  zipped extend true c over blocked heads fault long some e = absurd (let no : false ≡ true = e in cc)
  zipped extend false true over blocked heads fault long some e = absurd (let no : false ≡ true = e in cc)
  zipped extend false false over blocked heads fault long some e = by (done_or_ready given.inputs blocked)
    where
      answered : (i : ℕ) → i < length given.inputs → IsReadyAt (zip_by given false false).inputs i
      answered i h x = ap is_ready (repeated_at (cond (is_blocked (first_port given.outputs)) port.Blocked port.Ready) given.inputs i h x) ∙ ap (λ b. is_ready (cond b port.Blocked port.Ready)) (ready_not_blocked (first_port given.outputs) reader)

      by : (all_done given.inputs ≡ true) ⊎ ((i : ℕ) × (i < length given.inputs) × IsReadyAt given.inputs i) → Reason (zip_node extend) (zip_by given false false)
      by (inl done) =
          inl (λ ss next. exists_if (list_all (is_ready_head extend) hs && list_any (λ (h : Head). not (is_empty h.rest)) hs) _ (zip_tests given a.booked a.stores done (ready_not_done (first_port given.outputs) reader) long some p extend hs heads fault over))
      by (inr f) = inr (f.0, f.1, f.2, answered f.0 f.1)

  pub single_reason : (kind : PhysicalKind) → is_multiplexer kind ≡ false → HasInputs kind (length given.inputs) → HasReaders kind (length given.outputs) → stage_after o kind a given ≡ a.stage → HasMade kind a → HasStores (length given.inputs) kind a
      → ((extend : Bool) → kind ≡ zip_node extend → hs ≡ heads_by extend a.booked (stored_inputs ds a.stores)) → shape_fault p kind hs given ≡ None → is_ready (get_or (answer_by o kind a hs es given).outputs 0 d) ≡ true → Reason kind (answer_by o kind a hs es given)
  single_reason (in_memory_source t) m ins r rest has stores heads fault e =
      inl (λ ss next. exists_unless (is_exhausted o t.rows a.sent) _ (unexhausted (is_done (first_port given.outputs)) (is_exhausted o t.rows a.sent) e))
  single_reason (independent_select s) m ins r rest has stores heads fault e =
      inl (λ ss next. exists_if (nat_eq a.sent 0) _ (none_sent a.sent (unexhausted (is_done (first_port given.outputs)) (nat_lt 0 a.sent) e)))
  single_reason (in_memory_map step) m ins r rest has stores heads fault e =
      let g = keeper_gives a.stage given d e in
      inl (made (in_memory_map step) (λ ss next c q. q) g (has (ap is_giving g)) (still_gives a.stage _ _ (exhausted_rows o a.sent a.made) g rest))
  single_reason (in_memory_join j) m ins r rest has stores heads fault e =
      let g = keeper_gives a.stage given d e in
      inl (made (in_memory_join j) (λ ss next c q. q) g (has (ap is_giving g)) (still_gives a.stage _ _ (exhausted_rows o a.sent a.made) g rest))
  single_reason (negative_slice back n) m ins r rest has stores heads fault e =
      let g = keeper_gives a.stage given d e in
      inl (made (negative_slice back n) (λ ss next c q. q) g (has (ap is_giving g)) (still_gives a.stage _ _ (exhausted_rows o a.sent a.made) g rest))
  single_reason (reduce s) m ins r rest has stores heads fault e =
      let g = keeper_gives a.stage given d e in
      inl (λ ss next. row_claims o p ss a a.stage next g (none_sent a.sent (still_gives a.stage _ _ (nat_lt 0 a.sent) g rest)))
  single_reason (group_by_node keys aggregates) m ins r rest has stores heads fault e =
      let g = keeper_gives a.stage given d e in
      inl (λ ss next. part_claims o p ss a a.stage next g (some_part (length a.lists) a.sent (still_gives a.stage _ _ (nat_le (length a.lists) a.sent) g rest)))
  single_reason (equi_join j) m ins r rest has stores heads fault e = join_stage j a.stage refl ins e
  single_reason (zip_node extend) m ins r rest has stores heads fault e = zipped extend (zip_is_over hs given) (list_any is_blocked given.inputs) refl refl (heads extend refl) fault stores ins e
  single_reason ordered_union m ins r rest has stores heads fault e = inr (union_finds (first_port given.outputs) given.inputs reader e)
  single_reason (streaming_slice offset n) m ins r rest has stores heads fault e = sliced (streaming_slice offset n) (slice_is_over offset n a.booked) ins r e
  single_reason in_memory_sink m ins r rest has stores heads fault e = absurd (no_output given.outputs r reader)
    where
      no_output : (ss : List PortState) → length ss ≡ 0 → is_ready (first_port ss) ≡ true → ⊥
      no_output [] l x = let no : false ≡ true = x in cc
      no_output (s ∷ ss) l x = let no : suc (length ss) ≡ 0 = l in omega arith
  single_reason multiplexer m ins r rest has stores heads fault e = absurd (let no : true ≡ false = m in cc)
  single_reason (select_node s extends) m ins r rest has stores heads fault e = passes (select_node s extends) ins e
  single_reason (with_row_index name offset) m ins r rest has stores heads fault e = passes (with_row_index name offset) ins e
  single_reason (filter_node t) m ins r rest has stores heads fault e = passes (filter_node t) ins e
  single_reason (simple_projection names) m ins r rest has stores heads fault e = passes (simple_projection names) ins e
  single_reason (stream_map step) m ins r rest has stores heads fault e = passes (stream_map step) ins e

-- A MULTIPLEXER
port_at : (s : PortState) (es : List Bool) (os : List PortState) (k : ℕ) (d : PortState) → k < length os → get_or (port_answers s es os) k d ≡ cond (get_or es k true) s port.Ready
port_at s es [] k d h = absurd (omega arith)
port_at s [] (x ∷ os) zero d h = refl
port_at s [] (x ∷ os) (suc k) d h = port_at s [] os k d (omega arith)
port_at s (e ∷ es) (x ∷ os) zero d h = refl
port_at s (e ∷ es) (x ∷ os) (suc k) d h = port_at s es os k d (omega arith)

not_all_blocked : (os : List PortState) (k : ℕ) (d : PortState) → k < length os → is_ready (get_or os k d) ≡ true → all_blocked os ≡ false
not_all_blocked [] k d h e = absurd (omega arith)
not_all_blocked (s ∷ os) zero d h e = ap (λ b. b && all_blocked os) (ready_not_blocked s e)
not_all_blocked (s ∷ os) (suc k) d h e = second (is_blocked s) (all_blocked os) (not_all_blocked os k d (omega arith) e)
  where
    second : (x y : Bool) → y ≡ false → (x && y) ≡ false
    second true y q = q
    second false y q = refl

abbrev ports_by : List Bool → Sides → Bool → Sides
ports_by es given b =
    cond b (record { inputs = port.Done ∷ []; outputs = repeated port.Done given.outputs }) (record { inputs = cond (all_blocked given.outputs) port.Blocked port.Ready ∷ []; outputs = port_answers (first_port given.inputs) es given.outputs })

-- the port's rows wait, or the input is ready on both ends
pub multiplexer_reason : (es : List Bool) (given : Sides) (k : ℕ) (d : PortState) → length given.inputs ≡ 1 → k < length given.outputs → is_ready (get_or given.outputs k d) ≡ true → is_ready (get_or (multiplexer_answer es given).outputs k d) ≡ true
    → (get_or es k true ≡ false) ⊎ HasReadyInput given (multiplexer_answer es given)
multiplexer_reason es given k d l h reader e = by (all_done given.outputs || (all_done given.inputs && undone_empty es given.outputs)) e
  where
    of_port : (b : Bool) → get_or es k true ≡ b → is_ready (get_or (port_answers (first_port given.inputs) es given.outputs) k d) ≡ true → (get_or es k true ≡ false) ⊎ HasReadyInput given (ports_by es given false)
    of_port false q r = inl q
    of_port true q r =
        let first : is_ready (first_port given.inputs) ≡ true = sym (ap (λ b. is_ready (cond b (first_port given.inputs) port.Ready)) q) ∙ sym (ap is_ready (port_at (first_port given.inputs) es given.outputs k d h)) ∙ r in
        inr (0, omega arith, at_first given.inputs first, λ x. ap (λ b. is_ready (cond b port.Blocked port.Ready)) (not_all_blocked given.outputs k d h reader))

    by : (b : Bool) → is_ready (get_or (ports_by es given b).outputs k d) ≡ true → (get_or es k true ≡ false) ⊎ HasReadyInput given (ports_by es given b)
    by true r = absurd (never_done given.outputs k d h r)
    by false r = of_port (get_or es k true) refl r
