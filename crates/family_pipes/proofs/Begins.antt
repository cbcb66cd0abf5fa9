-- The opening of a shape: pipes that got nothing, and nodes with nothing behind them.
use Rattle.std.proofs.Common.{◌≡◌, ℕ, zero, suc, ◌<◌, ◌+◌, ◌⊎◌, List, [], ◌∷◌, ◌++◌, length, take, Some, None, Bool, true, false, refl, sym, ap, subst, ◌∙◌, inl, inr, arith}
use Rattle.std.specs.Prelude.{Contains, IsFalse, IsTrue, get_or, map, nat_eq, nat_lt, replicate, slice_get}
use Rattle.std.specs.List.{filter as kept}
use Rattle.std.proofs.lemmas.List.Elements.{Contains-append_cases}
use Rattle.ps_frame.specs.Functions.{Functions}
use Rattle.ps_frame.specs.Tables.{Row}
use Rattle.ps_meaning.specs.Shape.{PhysicalKind, PhysicalNode, Shape, equi_join, filter_node, group_by_node, in_memory_join, in_memory_map, in_memory_sink, in_memory_source, independent_select, multiplexer, negative_slice, ordered_union, reduce, select_node, simple_projection, stream_map, streaming_slice, with_row_index, zip_node}
use Rattle.ps_meaning.specs.Steps.{JoinStep}
use Rattle.ps_options.specs.declared.options.Options.{Options}
use Rattle.ps_ports.specs.Ports.{is_done, is_ready}
use Rattle.ps_turns.specs.Ends.{HoldsEnd}
use Rattle.ps_turns.specs.Heads.{stored_rows}
use Rattle.ps_turns.specs.Tasks.{Piece}
use Rattle.ps_world.specs.Booking.{HasBooked, HoldsAfter}
use Rattle.ps_world.specs.Keeping.{IsFrontOf}
use Rattle.ps_world.specs.Laws.{sent_by}
use Rattle.ps_world.specs.Opening.{fresh_node, fresh_pipe, no_progress, opening, pipes_from, pipes_to}
use Rattle.ps_world.specs.World.{Node, Pipe, World, pipes_in, schemas_for}
use Rattle.world_laws.proofs.InOrder.{contains_cases, contains_first, contains_later, none_in_nil}
use Rattle.world_laws.proofs.PassingPorts.{ordered, was_kept}
use Rattle.world_families.proofs.Members.{nothing_is}
use Rattle.world_families.specs.Holds.{Holds, HoldsAt, HoldsOfKind}
use Rattle.world_families.specs.Joins.{HoldsJoin}
use Rattle.world_families.specs.Keepers.{HoldsGroups, HoldsMade, HoldsReduce, KeepsMorsels, Stores, StoresAll, TakesFirst, slots_at}
use Rattle.world_families.specs.Onward.{HoldsPassing, HoldsPorts}
use Rattle.world_families.specs.Unions.{HoldsUnion, morsels_read}
use Rattle.world_families.specs.Work.{Gives, IsComplete, PipesHold, Work, rows_read}
use Rattle.world_families.specs.Zips.{HoldsZip}

blank : {A : Type 0} (k i : ℕ) → get_or (replicate {A = List A} k []) i [] ≡ []
blank zero i = refl
blank (suc k) zero = refl
blank (suc k) (suc i) = blank k i

-- what holds of every fresh pipe holds of those of the opening
fresh_inputs : (P : Pipe → Type 0) → ((s j r i : ℕ) → P (fresh_pipe s j r i)) → (n i : ℕ) (qs : List (ℕ × ℕ)) (p : Pipe) → Contains (pipes_to n i qs) p → P p
fresh_inputs P h n i [] p c = absurd (none_in_nil p c)
fresh_inputs P h n i (q ∷ qs) p c = by (fresh_inputs P h n (i + 1) qs p) (contains_cases (fresh_pipe q.0 q.1 n i) p (pipes_to n (i + 1) qs) c)
  where
    by : (Contains (pipes_to n (i + 1) qs) p → P p) → (fresh_pipe q.0 q.1 n i ≡ p) ⊎ Contains (pipes_to n (i + 1) qs) p → P p
    by rest (inl e) = subst P e (h q.0 q.1 n i)
    by rest (inr d) = rest d

pub fresh_pipes : (P : Pipe → Type 0) → ((s j r i : ℕ) → P (fresh_pipe s j r i)) → (shape : Shape) (k : ℕ) (p : Pipe) → Contains (pipes_from shape k) p → P p
fresh_pipes P h [] k p c = absurd (none_in_nil p c)
fresh_pipes P h (x ∷ xs) k p c = by (fresh_pipes P h xs (k + 1) p) (Contains-append_cases (pipes_to k 0 x.inputs) (pipes_from xs (k + 1)) p c)
  where
    by : (Contains (pipes_from xs (k + 1)) p → P p) → Contains (pipes_to k 0 x.inputs) p ⊎ Contains (pipes_from xs (k + 1)) p → P p
    by rest (inl a) = fresh_inputs P h k 0 x.inputs p a
    by rest (inr b) = rest b

fresh_nodes : (shape : Shape) (n : ℕ) (node : Node) → slice_get (map fresh_node shape) n ≡ Some node → (x : PhysicalNode) × (fresh_node x ≡ node)
fresh_nodes [] n node e = absurd (nothing_is node e)
fresh_nodes (x ∷ xs) zero node e = (x, let q : Some (fresh_node x) ≡ Some node = e in cc)
fresh_nodes (x ∷ xs) (suc n) node e = fresh_nodes xs n node e

none_read : (qs : List Pipe) → ((q : Pipe) → Contains qs q → take q.next q.got ≡ []) → morsels_read qs ≡ []
none_read [] h = refl
none_read (q ∷ qs) h = ap (λ z. z ++ morsels_read qs) (h q (contains_first q qs)) ∙ none_read qs (λ r c. h r (contains_later q r qs c))

blank_booked : (kind : PhysicalKind) (k : ℕ) → HasBooked kind (no_progress k) 0
blank_booked (with_row_index name offset) k = refl
blank_booked (streaming_slice offset n) k = refl
blank_booked kind k = tt

blank_stores : (kind : PhysicalKind) (k s j r i : ℕ) → Stores kind (no_progress k) (fresh_pipe s j r i)
blank_stores (negative_slice back n) k s j r i =
    let P : List (List Row) → Type 0 = λ store. HoldsEnd back [] 0 store in
    subst P (sym (blank k i)) (record { gone = []; splits = refl; counted = refl; enough = inl refl; short = tt })
blank_stores kind k s j r i = ap stored_rows (blank k i)

module _ (F : Functions) (shape : Shape) (o : Options) (n : ℕ) where
  abbrev w : World
  w = opening shape o

  of_pipe : (P : Pipe → Type 0) → ((s j r i : ℕ) → P (fresh_pipe s j r i)) → (p : Pipe) → Contains w.pipes p → P p
  of_pipe P h p c = fresh_pipes P h shape 0 p c

  incomplete : (p : Pipe) → Contains w.pipes p → IsComplete p → ⊥
  incomplete p c = of_pipe (λ y. IsComplete y → ⊥) (λ s j r i h. let never : false ≡ true = h in cc) p c

  pipes_hold : PipesHold w n
  pipes_hold =
      record {
        done = λ q c d. absurd (of_pipe (λ (y : Pipe). IsTrue (is_done y.wire.receive_state) → ⊥) (λ s j r i h. let never : false ≡ true = h in cc) q c.0 d);
        read = λ q c d. absurd (incomplete q c.0 d);
        unread = λ p l d. absurd (of_pipe (λ (y : Pipe). IsTrue (is_done y.wire.receive_state) → ⊥) (λ s j r i h. let never : false ≡ true = h in cc) p l.0 d);
      }

  gives_none : (W : ℕ → Work → Type 0) (K : Piece → Type 0) (A : Type 0) → Gives F w n W K A
  gives_none W K A =
      record {
        answers = λ p k rs l e. absurd (of_pipe (λ (y : Pipe). slice_get y.got k ≡ Some (Some rs) → ⊥) (λ s j r i g. nothing_is (Some rs) g) p l.0 e);
        pieces = λ q c e. absurd (none_in_nil q c);
        completes = λ p l c. absurd (incomplete p l.0 c);
      }

  -- A NODE OF THE OPENING
  module _ (x : PhysicalNode) where
    takes_first : TakesFirst w n (fresh_node x)
    takes_first = record { takes = λ t p l. of_pipe (λ (y : Pipe). IsFalse y.is_dropped) (λ s j r i. refl) p l.0; took = λ t. absurd (let never : true ≡ false = t in cc) }

    stores : StoresAll w n (fresh_node x)
    stores q c = of_pipe (λ y. Stores x.kind (no_progress (length x.inputs)) y) (λ s j r i. blank_stores x.kind (length x.inputs) s j r i) q c.0

    none_taken : (i : ℕ) → slots_at (fresh_node x) i ≡ []
    none_taken i = blank (length x.inputs) i

    keeps_none : (i : ℕ) → KeepsMorsels F w n (fresh_node x) i
    keeps_none i =
        record {
          kept = λ q k rs c e g. absurd (nothing_is (Some rs) (sym (ap (λ xs. slice_get xs k) (none_taken i)) ∙ g));
          awaited = λ runs k g. absurd (nothing_is None (sym (ap (λ xs. slice_get xs k) (none_taken i)) ∙ g));
        }

    made : HoldsMade F w n (fresh_node x)
    made =
        record {
          turn = takes_first;
          stores = stores;
          made = λ rows e. absurd (nothing_is rows e);
          has_made = λ g. absurd (let never : false ≡ true = g in cc);
          gives = gives_none _ _ _;
        }

    reduces : HoldsReduce F w n (fresh_node x)
    reduces = record { turn = takes_first; keeps_morsels = keeps_none 0; has_all = λ g. absurd (let never : false ≡ true = g in cc); gives = gives_none _ _ _ }

    groups : HoldsGroups F w n (fresh_node x)
    groups = record { turn = takes_first; keeps_morsels = keeps_none 0; has_all = λ g. absurd (let never : false ≡ true = g in cc); gives = gives_none _ _ _ }

    joins : (j : JoinStep) → HoldsJoin F w n (fresh_node x) j
    joins j =
        record {
          turn = λ l r is.
              record {
                builds = λ t. (of_pipe (λ (y : Pipe). IsFalse (is_ready y.wire.receive_state)) (λ s k m i. refl) l is.left_enters.0.0, λ p c. of_pipe (λ (y : Pipe). IsFalse y.is_dropped) (λ s k m i. refl) p c.0);
                built = λ t. absurd (let never : true ≡ false = t in cc);
                ends = λ t. absurd (let never : false ≡ true = t in cc);
              };
          keeps_right = keeps_none 1;
          keeps_left = λ fills l c i. of_pipe (λ (y : Pipe). slots_at (fresh_node x) 0 ≡ take y.next y.got) (λ s k m j. none_taken 0) l c.0;
          has_right = λ g. absurd (let never : false ≡ true = g in cc);
          gives = gives_none _ _ _;
        }

    unions : HoldsUnion F w n (fresh_node x)
    unions =
        record {
          in_turn = λ q r a b h t. absurd (of_pipe (λ (y : Pipe). (0 < y.next) ⊎ IsTrue y.in_phase → ⊥) (λ s j m i. not_read) r b.0 t);
          counted = ap length (sym (none_read (pipes_in w n) nothing_read));
          gives = gives_none _ _ _;
        }
      where
        not_read : (0 < 0) ⊎ (false ≡ true) → ⊥
        not_read (inl h) = absurd (omega arith)
        not_read (inr h) = cc

        nothing_read : (q : Pipe) → Contains (pipes_in w n) q → take q.next q.got ≡ []
        nothing_read q c =
            let into = kept (λ (p : Pipe). nat_eq p.wire.receiver n) w.pipes in
            let there = was_kept (λ (p : Pipe). nat_eq p.wire.receiver n) q w.pipes (ordered (λ (a b : Pipe). nat_lt a.wire.input b.wire.input) q into c) in
            of_pipe (λ (y : Pipe). take y.next y.got ≡ []) (λ s j r i. refl) q there.0

    zips : (extend : Bool) → HoldsZip F w n (fresh_node x) extend
    zips extend =
        record {
          before = λ k. 0;
          from_none = refl;
          up_to_booked = refl;
          cuts = λ k h. absurd (let less : k < 0 = h in omega arith);
          gives = gives_none _ _ _;
          stores = λ q c. inl (of_pipe (λ (y : Pipe). stored_rows (get_or (no_progress (length x.inputs)).stores y.wire.input []) ≡ rows_read y) (λ s j r i. ap stored_rows (blank (length x.inputs) i)) q c.0);
          lets_go = λ p l gone. absurd (of_pipe (λ (y : Pipe). IsTrue y.is_dropped → ⊥) (λ s j r i h. let never : false ≡ true = h in cc) p l.0 gone);
          beside = λ u q c. absurd (let never : false ≡ true = u.2 in cc);
        }

    ports : HoldsPorts w n
    ports =
        record {
          fronts = λ p q l c.
              of_pipe (λ y. IsFrontOf (sent_by y) (sent_by q))
              (λ s j r i. of_pipe (λ z. IsFrontOf (sent_by (fresh_pipe s j r i)) (sent_by z)) (λ a b d e. record { rest = []; begins = refl; all = λ h. absurd (let never : false ≡ true = h in cc) }) q c.0) p l.0;
          open_ports = λ p q l c h. of_pipe (λ (y : Pipe). y.got ≡ take q.next q.got) (λ s j r i. of_pipe (λ (z : Pipe). [] ≡ take z.next z.got) (λ a b d e. refl) q c.0) p l.0;
        }

    passes : HoldsPassing F w n (fresh_node x)
    passes =
        record {
          answers = λ q p c l.
              of_pipe (λ y. HoldsAfter F x (get_or (schemas_for w (fresh_node x)) 0 []) y p)
              (λ s j r i. of_pipe (λ z. HoldsAfter F x (get_or (schemas_for w (fresh_node x)) 0 []) (fresh_pipe s j r i) z) (λ a b d e. record { answers = tt; completes = λ h. absurd (let never : false ≡ true = h in cc) }) p l.0) q c.0;
          booked = λ q c. of_pipe (λ (y : Pipe). HasBooked x.kind (no_progress (length x.inputs)) (length (rows_read y))) (λ s j r i. blank_booked x.kind (length x.inputs)) q c.0;
          pieces = λ q c e. absurd (none_in_nil q c);
        }

    of_kind : (kind : PhysicalKind) → HoldsOfKind F w n (fresh_node x) kind
    of_kind (in_memory_source t) = gives_none _ _ _
    of_kind (independent_select es) = gives_none _ _ _
    of_kind (in_memory_map step) = made
    of_kind (in_memory_join j) = made
    of_kind (negative_slice back count) = made
    of_kind in_memory_sink = stores
    of_kind (reduce es) = reduces
    of_kind (group_by_node keys aggregates) = groups
    of_kind (equi_join j) = joins j
    of_kind ordered_union = unions
    of_kind (zip_node extend) = zips extend
    of_kind multiplexer = ports
    of_kind (select_node es extends) = passes
    of_kind (with_row_index name offset) = passes
    of_kind (streaming_slice offset count) = passes
    of_kind (filter_node e) = passes
    of_kind (simple_projection names) = passes
    of_kind (stream_map step) = passes

  pub begins : Holds F w n
  begins node e = let x = fresh_nodes shape n node e in subst (HoldsAt F w n) x.1 (record { pipes = pipes_hold; own = of_kind x.0 x.0.kind })
