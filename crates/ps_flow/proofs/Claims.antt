-- What a claim in a world asks of its node, and what the pipe into the node holds for it.
use Rattle.std.proofs.Common.{◌≡◌, ℕ, zero, suc, Bool, true, false, cond, List, [], ◌∷◌, ◌++◌, Option, Some, None, refl, sym, ap, subst, ◌∙◌, arith}
use Rattle.std.specs.Prelude.{◌&&◌, ◌||◌, Contains, IsTrue, is_some, map, nat_eq, not, option_map, slice_get}
use Rattle.std.specs.List.{filter as kept}
use Rattle.ps_flow.proofs.Dropping.{kept_at, no_multiplexer, none_passes}
use Rattle.ps_flow.proofs.Senders.{input_is, receiver_is, schema_comes}
use Rattle.ps_flow.proofs.Stepping.{places_map}
use Rattle.ps_flow.specs.Claiming.{ClaimsOf, IsKeyOf, MayClaim, MayCome, next_of, placed, rows_in, rows_next, rows_of, streams}
use Rattle.ps_flow.specs.Handing.{HasOneOutput}
use Rattle.ps_flow.specs.Standing.{seen_as, setting_of}
use Rattle.ps_frame.specs.Functions.{Functions}
use Rattle.ps_frame.specs.Tables.{Fields, Frame, Row}
use Rattle.ps_graph.proofs.Places.{is_place}
use Rattle.ps_graph.specs.Shown.{places_from}
use Rattle.ps_graph.specs.declared.key.LogicalPipeKey.{LogicalPipeKey}
use Rattle.ps_meaning.specs.Shape.{PhysicalKind, PhysicalNode, equi_join, filter_node, group_by_node, in_memory_join, in_memory_map, in_memory_sink, in_memory_source, independent_select, multiplexer, negative_slice, ordered_union, reduce, select_node, simple_projection, stream_map, streaming_slice, with_row_index, zip_node}
use Rattle.ps_options.specs.declared.options.Options.{Options}
use Rattle.ps_pipes.specs.Shown.{next_table, table_of}
use Rattle.ps_ports.specs.Phases.{is_one_of}
use Rattle.ps_ports.specs.Wires.{Wire}
use Rattle.ps_settle.proofs.Ends.{same_number}
use Rattle.ps_settle.proofs.Members.{at_map, contains_at, contains_later, from_kept, map_at, place_of}
use Rattle.ps_turns.specs.Claims.{Claim, Next, claim_by, claim_of}
use Rattle.ps_turns.specs.Cuts.{is_exhausted}
use Rattle.ps_turns.specs.Heads.{Head}
use Rattle.ps_turns.specs.Progress.{Progress}
use Rattle.ps_world.specs.Claims.{inputs_in_phase, next_morsel}
use Rattle.ps_world.specs.Pipes.{is_input, with_place}
use Rattle.ps_world.specs.World.{Node, Pipe, World, bounded_out, has_next, heads_of, inputs_done, morsel_at, schemas_for, shape_of}
use Rattle.world_pipes.specs.Giving.{next_in_phase}
use Rattle.world_pipes.specs.Shown.{AreKeysOf, IsAt}

-- the pipe at the key of what passes a test
pub pipe_named : (test : Pipe → Bool) (key : LogicalPipeKey) (ps : List Pipe) → AreKeysOf test (key ∷ []) ps → (p : Pipe) × IsAt key ps p × (test p ≡ true)
pipe_named test key ps names =
    let found = is_place 0 test ps key.0 (ap (is_one_of key.0) (sym names) ∙ (λ i. same_number key.0 key.0 refl i || false)) in
    (found.1, subst (λ j. slice_get ps j ≡ Some found.1) (let is = found.4 in omega (arith, is)) found.2, found.3)

-- the key of an input is the same for all pipes that have these wires
pub key_alike : (n i : ℕ) (ps qs : List Pipe) → map (λ (p : Pipe). p.wire) qs ≡ map (λ (p : Pipe). p.wire) ps → (key : Option LogicalPipeKey) → IsKeyOf n i ps key → IsKeyOf n i qs key
key_alike n i ps qs same None none = λ q among.
    let k = place_of qs q among in
    let p = at_map (λ (p : Pipe). p.wire) ps k.0 q.wire (ap (λ l. slice_get l k.0) (sym same) ∙ map_at (λ (p : Pipe). p.wire) qs k.0 q k.1) in
    ap (λ (v : Wire). nat_eq v.receiver n && nat_eq v.input i) (sym p.2) ∙ none p.0 (contains_at ps k.0 p.0 p.1)
key_alike n i ps qs same (Some key) names =
    names ∙ places_map (λ (p : Pipe). p.wire) (λ (v : Wire). nat_eq v.receiver n && nat_eq v.input i) 0 ps ∙ ap (places_from 0 (λ (v : Wire). nat_eq v.receiver n && nat_eq v.input i)) (sym same)
    ∙ sym (places_map (λ (p : Pipe). p.wire) (λ (v : Wire). nat_eq v.receiver n && nat_eq v.input i) 0 qs)

kept_both : {A : Type 0} (t u : A → Bool) (xs : List A) → kept (λ x. t x && u x) xs ≡ kept u (kept t xs)
kept_both t u [] = refl
kept_both t u (x ∷ xs) = by (t x) refl (kept_both t u xs)
  where
    by : (b : Bool) → t x ≡ b → kept (λ y. t y && u y) xs ≡ kept u (kept t xs) → kept (λ y. t y && u y) (x ∷ xs) ≡ kept u (kept t (x ∷ xs))
    by true e rest = ap (λ b. cond (b && u x) (x ∷ kept (λ y. t y && u y) xs) (kept (λ y. t y && u y) xs)) e ∙ ap (λ l. cond (u x) (x ∷ l) l) rest ∙ sym (ap (λ b. kept u (cond b (x ∷ kept t xs) (kept t xs))) e)
    by false e rest = ap (λ b. cond (b && u x) (x ∷ kept (λ y. t y && u y) xs) (kept (λ y. t y && u y) xs)) e ∙ rest ∙ sym (ap (λ b. kept u (cond b (x ∷ kept t xs) (kept t xs))) e)

-- the next morsel of one pipe, if it is in the phase
one_next : (s : Fields) (p : Pipe) → next_morsel (cond p.in_phase (p ∷ []) []) ≡ next_of p.next (next_in_phase s p)
one_next s p = by_phase p.in_phase
  where
    by_slot : (d : Bool) (m : Option (List Row)) → cond (not d && is_some m) (option_map (λ rs. (p.next, rs)) m) None ≡ next_of p.next (cond d None (option_map (table_of s) m))
    by_slot true m = refl
    by_slot false None = refl
    by_slot false (Some rs) = refl

    by_phase : (b : Bool) → next_morsel (cond b (p ∷ []) []) ≡ next_of p.next (cond b (next_table s p) None)
    by_phase true = by_slot p.is_dropped (morsel_at p.next p.got)
    by_phase false = refl

-- how many rows come, told by the table or by its rows
rows_same : (number : ℕ) (morsel : Option Frame) → rows_of morsel ≡ rows_in (next_of number morsel)
rows_same number None = refl
rows_same number (Some t) = refl

-- a claim of a node that streams takes a morsel that is there
module _ (o : Options) (p : PhysicalNode) (ss : List Fields) where
  own : (a b : Bool) (d c : Claim) → cond a (cond b None (Some d)) None ≡ Some c → d.takes_morsel ≡ false → c.takes_morsel ≡ true → ⊥
  own true true d c e leaves takes = absurd (let clash : None ≡ Some c = e in cc)
  own true false d c e leaves takes = absurd (let same : d ≡ c = (let both : Some d ≡ Some c = e in cc) in let clash : false ≡ true = sym leaves ∙ ap (λ (z : Claim). z.takes_morsel) same ∙ takes in cc)
  own false b d c e leaves takes = absurd (let clash : None ≡ Some c = e in cc)

  first_own : (a b : Bool) (d c : Claim) → cond a (cond b (Some d) None) None ≡ Some c → d.takes_morsel ≡ false → c.takes_morsel ≡ true → ⊥
  first_own true true d c e leaves takes = absurd (let same : d ≡ c = (let both : Some d ≡ Some c = e in cc) in let clash : false ≡ true = sym leaves ∙ ap (λ (z : Claim). z.takes_morsel) same ∙ takes in cc)
  first_own true false d c e leaves takes = absurd (let clash : None ≡ Some c = e in cc)
  first_own false b d c e leaves takes = absurd (let clash : None ≡ Some c = e in cc)

  of_next : (f : ℕ × List Row → Claim) (next : Next) (c : Claim) → option_map f next ≡ Some c → (m : ℕ × List Row) × (next ≡ Some m)
  of_next f None c e = absurd (let clash : None ≡ Some c = e in cc)
  of_next f (Some m) c e = (m, refl)

  next_taken : (kind : PhysicalKind) → IsTrue (streams kind) → (progress : Progress) (hs : List Head) (ds : List Bool) (i : ℕ) (next : Next) (c : Claim) → claim_by o p ss kind progress hs ds i next ≡ Some c → c.takes_morsel ≡ true → (m : ℕ × List Row) × (next ≡ Some m)
  next_taken (in_memory_source t) s progress hs ds i next c e takes = absurd (own (nat_eq i 0) (is_exhausted o t.rows progress.sent) _ c e refl takes)
  next_taken (independent_select es) s progress hs ds i next c e takes = absurd (first_own (nat_eq i 0) (nat_eq progress.sent 0) _ c e refl takes)
  next_taken (select_node es extends) s progress hs ds i next c e takes = of_next _ next c e
  next_taken (with_row_index name offset) s progress hs ds i next c e takes = of_next _ next c e
  next_taken (streaming_slice offset k) s progress hs ds i next c e takes = of_next _ next c e
  next_taken (filter_node t) s progress hs ds i next c e takes = of_next _ next c e
  next_taken (simple_projection names) s progress hs ds i next c e takes = of_next _ next c e
  next_taken (stream_map step) s progress hs ds i next c e takes = of_next _ next c e
  next_taken ordered_union s progress hs ds i next c e takes = of_next _ next c e
  next_taken in_memory_sink s progress hs ds i next c e takes = absurd (let clash : None ≡ Some c = e in cc)
  next_taken (reduce es) s progress hs ds i next c e takes = absurd (let clash : false ≡ true = s in cc)
  next_taken (negative_slice back k) s progress hs ds i next c e takes = absurd (let clash : false ≡ true = s in cc)
  next_taken (in_memory_map step) s progress hs ds i next c e takes = absurd (let clash : false ≡ true = s in cc)
  next_taken (zip_node extend) s progress hs ds i next c e takes = absurd (let clash : false ≡ true = s in cc)
  next_taken multiplexer s progress hs ds i next c e takes = absurd (let clash : false ≡ true = s in cc)
  next_taken (group_by_node keys aggregates) s progress hs ds i next c e takes = absurd (let clash : false ≡ true = s in cc)
  next_taken (equi_join j) s progress hs ds i next c e takes = absurd (let clash : false ≡ true = s in cc)
  next_taken (in_memory_join j) s progress hs ds i next c e takes = absurd (let clash : false ≡ true = s in cc)

next_has : (ps : List Pipe) (m : ℕ × List Row) → next_morsel ps ≡ Some m → (q : Pipe) × Contains ps q × (has_next q ≡ true)
next_has [] m e = absurd (let clash : None ≡ Some m = e in cc)
next_has (p ∷ ps) m e = by (has_next p) refl e (next_has ps m)
  where
    by : (b : Bool) → has_next p ≡ b → cond b (option_map (λ rs. (p.next, rs)) (morsel_at p.next p.got)) (next_morsel ps) ≡ Some m → (next_morsel ps ≡ Some m → (q : Pipe) × Contains ps q × (has_next q ≡ true)) → (q : Pipe) × Contains (p ∷ ps) q × (has_next q ≡ true)
    by true t e rest = (p, contains_at (p ∷ ps) 0 p refl, t)
    by false t e rest = let r = rest e in (r.0, contains_later p r.0 ps r.1, r.2)

-- one place more changes nothing of what is there
there : (k : ℕ) (xs ys : List (Option (List Row))) → is_some (morsel_at k xs) ≡ true → is_some (morsel_at k (xs ++ ys)) ≡ true
there k [] ys e = absurd (let clash : false ≡ true = e in cc)
there zero (x ∷ xs) ys e = e
there (suc k) (x ∷ xs) ys e = there k xs ys e

still_next : (p : Pipe) → has_next p ≡ true → has_next (with_place p) ≡ true
still_next p e = by p.is_dropped e
  where
    by : (d : Bool) → (not d && is_some (morsel_at p.next p.got)) ≡ true → (not d && is_some (morsel_at p.next (p.got ++ None ∷ []))) ≡ true
    by true e = e
    by false e = there p.next p.got (None ∷ []) e

module _ (F : Functions) (w : World) (n i worker : ℕ) (x : Node) (c : Claim) (may : MayClaim F w n i worker x c) where
  pub one_output : (m : ℕ) → HasOneOutput m w.pipes
  one_output m = λ p q a b e f. may.facts.one_output p q a b (e ∙ sym f) (no_multiplexer w may.all_stream p.wire.sender)

  node_is : slice_get (shape_of w) n ≡ Some x.node
  node_is = map_at (λ (z : Node). z.node) w.nodes n x may.here

  -- the number and the table of the next morsel
  pub record Comes (number : ℕ) (morsel : Option Frame) : Type 0 where
    pub next : next_of number morsel ≡ next_morsel (inputs_in_phase w n i)
    pub comes : (es : List Bool) → MayCome (seen_as (shape_of w) x es) i morsel

  pub comes_none : IsKeyOf n i w.pipes None → (number : ℕ) → Comes number None
  comes_none none number = record { next = sym (ap next_morsel (none_passes (λ (p : Pipe). is_input n i p && p.in_phase) w.pipes (λ p among. ap (λ b. b && p.in_phase) (none p among)))); comes = λ es. tt }

  module _ (key : LogicalPipeKey) (names : AreKeysOf (is_input n i) (key ∷ []) w.pipes) (p : Pipe) (at : IsAt key w.pipes p) (passes : is_input n i p ≡ true) where
    abbrev sent : Fields
    sent = (setting_of (shape_of w) w.options).schema p.wire.sender

    come_by : (es : List Bool) (b d : Bool) (m : Option (List Row)) → MayCome (seen_as (shape_of w) x es) i (cond b (cond d None (option_map (table_of sent) m)) None)
    come_by es false d m = tt
    come_by es true true m = tt
    come_by es true false None = tt
    come_by es true false (Some rs) = schema_comes F w may.facts n i p (contains_at w.pipes key.0 p at) passes x.node node_is

    pub comes_by : Comes p.next (next_in_phase sent p)
    comes_by =
        record {
          next = sym (ap next_morsel (kept_both (is_input n i) (λ (q : Pipe). q.in_phase) w.pipes ∙ ap (kept (λ (q : Pipe). q.in_phase)) (kept_at (is_input n i) key.0 w.pipes p names at)) ∙ one_next sent p);
          comes = λ es. come_by es p.in_phase p.is_dropped (morsel_at p.next p.got);
        }

  pub any_comes : (key : Option LogicalPipeKey) → IsKeyOf n i w.pipes key → (number : ℕ) × (morsel : Option Frame) × Comes number morsel
  any_comes None none = (0, None, comes_none none 0)
  any_comes (Some key) names = let p = pipe_named (is_input n i) key w.pipes names in (p.0.next, next_in_phase ((setting_of (shape_of w) w.options).schema p.0.wire.sender) p.0, comes_by key names p.0 p.1 p.2)

  pub rows_come : (number : ℕ) (morsel : Option Frame) → Comes number morsel → rows_of morsel ≡ rows_next w n i
  rows_come number morsel cm = rows_same number morsel ∙ ap rows_in cm.next

  -- so the world's claim is the node's
  pub claims_of : (number : ℕ) (morsel : Option Frame) → Comes number morsel → (es : List Bool) → ClaimsOf F (shape_of w) n w.options (seen_as (shape_of w) x es) i number morsel c
  claims_of number morsel cm es =
      record {
        fit = may.facts.sound.0 n x.node node_is;
        schemas = refl;
        streaming = may.all_stream n x may.here;
        comes = cm.comes es;
        heads = heads_of w n x;
        dones = inputs_done w n;
        claims = ap (claim_of w.options x.node (schemas_for w x) x.progress (heads_of w n x) (inputs_done w n) i) cm.next ∙ may.claims;
      }

  -- what it takes is there
  ready : c.takes_morsel ≡ true → (p : Pipe) → Contains w.pipes p → is_input n i p ≡ true → has_next p ≡ true
  ready takes p among leads =
      let m = next_taken w.options x.node (schemas_for w x) x.node.kind (may.all_stream n x may.here) x.progress (heads_of w n x) (inputs_done w n) i (next_morsel (inputs_in_phase w n i)) c may.claims takes in
      let q = next_has (inputs_in_phase w n i) m.0 m.1 in
      let from = from_kept (λ (z : Pipe). is_input n i z && z.in_phase) q.0 w.pipes q.1 in
      let leads' : is_input n i q.0 ≡ true = first_true (is_input n i q.0) q.0.in_phase from.1 in
      let same : q.0 ≡ p =
      may.facts.one_input q.0 p from.0 among (receiver_is F w may.facts n i q.0 from.0 leads' ∙ sym (receiver_is F w may.facts n i p among leads)) (input_is F w may.facts n i q.0 from.0 leads' ∙ sym (input_is F w may.facts n i p among leads)) in
      sym (ap has_next same) ∙ q.2
    where
      first_true : (a b : Bool) → (a && b) ≡ true → a ≡ true
      first_true true b e = refl
      first_true false b e = e

  pub ready_placed : c.takes_morsel ≡ true → (p : Pipe) → Contains (placed w n).pipes p → is_input n i p ≡ true → has_next p ≡ true
  ready_placed takes p among leads =
      let k = place_of (placed w n).pipes p among in
      let z = at_map (λ (q : Pipe). cond (bounded_out w n q) (with_place q) q) w.pipes k.0 p k.1 in
      let from = contains_at w.pipes k.0 z.0 z.1 in
      subst (λ (q : Pipe). has_next q ≡ true) z.2 (by z.0 (bounded_out w n z.0) (ready takes z.0 from (sym (same z.0 (bounded_out w n z.0)) ∙ ap (is_input n i) z.2 ∙ leads)))
    where
      by : (q : Pipe) (b : Bool) → has_next q ≡ true → has_next (cond b (with_place q) q) ≡ true
      by q true e = still_next q e
      by q false e = e

      same : (q : Pipe) (b : Bool) → is_input n i (cond b (with_place q) q) ≡ is_input n i q
      same q true = refl
      same q false = refl
