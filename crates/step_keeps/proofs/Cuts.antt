-- Slices, and those that a node applies last: a slice above it.
use Rattle.std.proofs.Common.{◌≡◌, ℕ, zero, suc, ◌+◌, ◌<◌, ◌⊎◌, Bool, true, false, cond, ℤ, pos, negsuc, List, [], ◌∷◌, length, Some, None, refl, sym, ap, subst, ◌∙◌, inl, inr, arith}
use Rattle.std.specs.Prelude.{Contains, nat_eq, if◌then◌else◌, ⊤}
use Rattle.ps_frame.specs.Aggregates.{max_rows}
use Rattle.ps_frame.specs.Causes.{Cause}
use Rattle.ps_frame.specs.Functions.{Functions}
use Rattle.ps_frame.specs.Tables.{Fields, Table, no_rows}
use Rattle.ps_frame.specs.declared.value.Value.{Value}
use Rattle.ps_meaning.specs.Cases.{Case, GivesBeforeCut, IsCaseBrokenBy, cut_at, cut_by, first_table, if_whole, rows_from_end, rows_table}
use Rattle.ps_meaning.specs.Meaning.{IsLargeCase, IsLargeStep}
use Rattle.ps_meaning.specs.Shape.{negative_slice, ordered_union, streaming_slice}
use Rattle.ps_meaning.specs.Steps.{Cut, Step, slice, step_cut, union}
use Rattle.ps_meaning.specs.Within.{EndAlike}
use Rattle.ps_meaning.proofs.CutEnds.{at_alike, by_shorter}
use Rattle.ps_meaning.proofs.WithinLemmas.{has_all}
use Rattle.ps_rules.specs.Slots.{State, Stream, insert_node, schema_at}
use Rattle.plan_rules.specs.Slices.{cut_stream, slice_stream}
use Rattle.step_keeps.specs.Kept.{IsKeptStep, KeepsStep, SomeIsLarge}
use Rattle.step_keeps.proofs.Composed.{Composes, KeepsOver, both_keep}
use Rattle.step_keeps.proofs.One.{last_there, made_here, plain_keeps, plain_means}
use Rattle.step_keeps.proofs.Steps.{broken_as, case_as, keeps_as, large_as}

-- a slice of nothing is one, wherever it begins
no_slice : (k : ℕ) (t : Table) → cut_at (pos 0) 0 t ≡ cut_at (negsuc k) 0 t
no_slice k t = refl

slice_as : (F : Functions) (at k : ℕ) (ts : List Table) (U : Table) → GivesBeforeCut F at (slice (pos 0) 0) ts U → GivesBeforeCut F at (slice (negsuc k) 0) ts U
slice_as F at k ts U (inl e) = inl (e ∙ no_slice k (first_table ts))
slice_as F at k ts U (inr (V, g, lost, e)) = absurd (lost refl)

-- what a slice gives
slice_is : (F : Functions) (at : ℕ) (offset : ℤ) (n : ℕ) (t P : Table) → GivesBeforeCut F at (slice offset n) (t ∷ []) P → P ≡ cut_at offset n t
slice_is F at offset n t P (inl e) = e
slice_is F at offset n t P (inr (V, g, lost, e)) = absurd (lost refl)

sliced : (F : Functions) (at : ℕ) (offset : ℤ) (n : ℕ) (t P : Table) → Case F at (slice offset n) (t ∷ []) P → P ≡ cut_at offset n t
sliced F at offset n t P (U, g, e) = e ∙ slice_is F at offset n t U g

-- no cause is one of none
pub no_cause : (c : Cause) → Contains [] c → ⊥
no_cause c (k, within, e) = absurd (omega arith)

unless_cause : (b : Bool) (cs : List Cause) (c : Cause) → Contains (cond {A = List Cause} b [] cs) c → Contains cs c
unless_cause true cs c h = absurd (no_cause c h)
unless_cause false cs c h = h

whole_cause : (s : Fields) (cs : List Cause) (rows : List (List Value)) (c : Cause) → Contains (if_whole s cs (rows_table s rows)).broken c → Contains cs c
whole_cause s [] rows c h = h
whole_cause s (d ∷ ds) rows c h = h

-- what breaks a slice breaks its input
pub cut_cause : (offset : ℤ) (n : ℕ) (t : Table) (c : Cause) → Contains (cut_at offset n t).broken c → Contains t.broken c
cut_cause (pos offset) n t c h = unless_cause (has_all offset n t.rows) t.broken c h
cut_cause (negsuc k) n t c h = by (nat_eq n 0) h
  where
    by : (b : Bool) → Contains (if b then no_rows t.schema [] else if_whole t.schema t.broken (rows_table t.schema (rows_from_end (k + 1) n t.rows))).broken c → Contains t.broken c
    by true h = absurd (no_cause c h)
    by false h = whole_cause t.schema t.broken (rows_from_end (k + 1) n t.rows) c h

module _ (F : Functions) (at : ℕ) (s : State) (i : Stream) where
  -- the node of a slice keeps it, whatever rows there are
  pub slice_over : (offset : ℤ) (n : ℕ) → let m = slice_stream at offset n i s in KeepsOver F at (slice offset n) s m.state i m.stream
  slice_over (pos offset) n =
      record {
        more = record { kind = streaming_slice offset n; schema = schema_at s.nodes i; origin = at; inputs = i ∷ [] } ∷ [];
        nodes = refl;
        made = made_here F at (slice (pos offset) n) (streaming_slice offset n) (schema_at s.nodes i) (i ∷ []) refl (λ ts. refl) s.nodes;
        there = last_there s.nodes (record { kind = streaming_slice offset n; schema = schema_at s.nodes i; origin = at; inputs = i ∷ [] });
        fed = inl (omega arith);
        meaning = plain_means F at (slice (pos offset) n) (streaming_slice offset n) (schema_at s.nodes i) (i ∷ []) refl (λ ts. refl) refl s.nodes;
      }
  slice_over (negsuc k) zero =
      record {
        more = record { kind = streaming_slice 0 0; schema = schema_at s.nodes i; origin = at; inputs = i ∷ [] } ∷ [];
        nodes = refl;
        made = made_here F at (slice (pos 0) 0) (streaming_slice 0 0) (schema_at s.nodes i) (i ∷ []) refl (λ ts. refl) s.nodes;
        there = last_there s.nodes (record { kind = streaming_slice 0 0; schema = schema_at s.nodes i; origin = at; inputs = i ∷ [] });
        fed = inl (omega arith);
        meaning = λ tables chosen.
            let ts = tables i.0 ∷ [] in
            let m = plain_means F at (slice (pos 0) 0) (streaming_slice 0 0) (schema_at s.nodes i) (i ∷ []) refl (λ ts. refl) refl s.nodes tables chosen in
            let fits = slice_as F at k in (
              record { table = (m.0.table.0, case_as F at (slice (pos 0) 0) (slice (negsuc k) 0) fits (λ ts l. l) refl ts m.0.table.0 m.0.table.1, m.0.table.2); causes = λ c h. broken_as F at (slice (pos 0) 0) (slice (negsuc k) 0) fits (λ ts l. l) refl ts c (m.0.causes c h) },
              record {
                causes = λ n U c low high may h. broken_as F at (slice (pos 0) 0) (slice (negsuc k) 0) fits (λ ts l. l) refl ts c (m.1.causes n U c low high may h);
                sizes = λ n low high l. large_as F at (slice (pos 0) 0) (slice (negsuc k) 0) fits (λ ts l. l) refl ts (m.1.sizes n low high l);
              },
            );
      }
  slice_over (negsuc k) (suc n) =
      record {
        more = record { kind = negative_slice (suc k) (suc n); schema = schema_at s.nodes i; origin = at; inputs = i ∷ [] } ∷ [];
        nodes = refl;
        made = made_here F at (slice (negsuc k) (suc n)) (negative_slice (suc k) (suc n)) (schema_at s.nodes i) (i ∷ []) refl (λ ts. refl) s.nodes;
        there = last_there s.nodes (record { kind = negative_slice (suc k) (suc n); schema = schema_at s.nodes i; origin = at; inputs = i ∷ [] });
        fed = inl (omega arith);
        meaning = plain_means F at (slice (negsuc k) (suc n)) (negative_slice (suc k) (suc n)) (schema_at s.nodes i) (i ∷ []) refl (λ ts. refl) refl s.nodes;
      }

  pub slices_keep : (schema : Fields) (offset : ℤ) (n : ℕ) → IsKeptStep F at (slice offset n) schema (i ∷ []) s
  slices_keep schema offset n = let k = slice_over offset n in record { more = k.more; nodes = k.nodes; made = k.made; there = k.there; fed = k.fed; meaning = λ tables chosen rows. k.meaning tables chosen }

-- a step without its slice, and the slice above
module _ (F : Functions) (at : ℕ) (step all : Step) (befores : (ts : List Table) (U : Table) → GivesBeforeCut F at step ts U → GivesBeforeCut F at all ts U) (larges : (ts : List Table) → IsLargeStep F at step ts → IsLargeStep F at all ts)
    (uncut : step_cut step ≡ None) where
  uncut_case : (ts : List Table) (L : Table) → Case F at step ts L → GivesBeforeCut F at all ts L
  uncut_case ts L (U, g, e) = befores ts L (subst (GivesBeforeCut F at step ts) (sym (e ∙ ap (λ c. cut_by c U) uncut)) g)

  all_causes : (ts : List Table) (c : Cause) → IsCaseBrokenBy F at step ts c → IsCaseBrokenBy F at all ts c
  all_causes ts c (U, inl k, h) = (U, inr (uncut_case ts U k), h)
  all_causes ts c (U, inr g, h) = (U, inr (befores ts U g), h)

  all_sizes : (ts : List Table) → IsLargeCase F at step ts ⊎ SomeIsLarge ts → IsLargeCase F at all ts ⊎ SomeIsLarge ts
  all_sizes ts (inl (inl l)) = inl (inl (larges ts l))
  all_sizes ts (inl (inr (U, g, l))) = inl (inr (U, befores ts U g, l))
  all_sizes ts (inr l) = inr l

  module _ (offset : ℤ) (n : ℕ) (cut : step_cut all ≡ Some (offset, n)) where
    cut_causes : (P : Table) (c : Cause) → IsCaseBrokenBy F at (slice offset n) (P ∷ []) c → Contains P.broken c
    cut_causes P c (U, inl k, h) = cut_cause offset n P c (subst (λ (T : Table). Contains T.broken c) (sliced F at offset n P U k) h)
    cut_causes P c (U, inr g, h) = cut_cause offset n P c (subst (λ (T : Table). Contains T.broken c) (slice_is F at offset n P U g) h)

    large_input : (P : Table) → IsLargeCase F at (slice offset n) (P ∷ []) ⊎ SomeIsLarge (P ∷ []) → max_rows < length P.rows
    large_input P (inl (inl l)) = absurd l
    large_input P (inl (inr (U, g, l))) =
        let shorter = by_shorter (Some (offset, n)) P in
        let e = ap (λ (T : Table). length T.rows) (slice_is F at offset n P U g) in
        omega arith
    large_input P (inr (inl l)) = l
    large_input P (inr (inr l)) = absurd l

    pub slice_composes : Composes F at step (slice offset n) all (λ ts. ⊤)
    slice_composes =
        record {
          table = λ ts fine P L M k a m.
              let K = cut_at offset n L in
              let g = uncut_case ts L k in
              (K, (L, g, ap (λ c. cut_by c L) (sym cut)), subst (λ (T : Table). EndAlike T K) (sym (sliced F at offset n P M m)) (at_alike n P L a offset));
          causes = λ ts fine c h. all_causes ts c h;
          later_causes = λ ts fine P L k a c h. inl (cut_causes P c h);
          sizes = λ ts fine l. all_sizes ts l;
          later_sizes = λ ts fine P L k a l.
              let large : max_rows < length L.rows = subst (λ (rows : List (List Value)). max_rows < length rows) a.same_rows (large_input P l) in
              inl (inr (L, uncut_case ts L k, large));
        }

  -- with the slice above, if there is one
  module _ (before mid : State) (inputs : List Stream) (from : Stream) (low : KeepsStep F at step before mid inputs from) where
    pub cut_keeps : (cut : Cut) → step_cut all ≡ cut → let m = cut_stream at cut from mid in KeepsStep F at all before m.state inputs m.stream
    cut_keeps None e = keeps_as F at step all befores larges (uncut ∙ sym e) before mid inputs from low
    cut_keeps (Some (offset, n)) e =
        let m = slice_stream at offset n from mid in
        both_keep F at step (slice offset n) all (λ ts. ⊤) (slice_composes offset n e) before mid m.state inputs from m.stream low (slice_over F at mid from offset n) (λ tables rows. tt)

-- a union, and its slice above it
pub unions_keep : (F : Functions) (at : ℕ) (schema : Fields) (s : State) (cut : Cut) (inputs : List Stream) → IsKeptStep F at (union cut) schema inputs s
unions_keep F at schema s cut inputs =
    let m = insert_node s (record { kind = ordered_union; schema = schema; origin = at; inputs = inputs }) in
    cut_keeps F at (union None) (union cut) (λ ts U g. g) (λ ts l. l) refl s m.state inputs m.stream (plain_keeps F at (union None) ordered_union schema inputs refl (λ ts. refl) refl s) cut refl
