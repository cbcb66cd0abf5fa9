-- Small shapes: which are sound, and what a sum beside a column means.
use Rattle.std.proofs.Common.{◌≡◌, ℕ, ℤ, pos, zero, suc, ◌<◌, ◌⊎◌, Bool, true, false, not, ◌&&◌, ◌||◌, List, [], ◌∷◌, ◌++◌, get_or, length, Some, None, refl, sym, ap, subst, ◌∙◌, inl, inr, arith}
use Rattle.std.specs.Int.{int_wrap}
use Rattle.std.specs.Prelude.{Any, codes, slice_index_or}
use Rattle.std.specs.Str.{bytes_eq}
use Rattle.ps_frame.specs.Functions.{Functions}
use Rattle.ps_frame.specs.Lawful.{FitsFrame}
use Rattle.ps_frame.specs.Tables.{Fields, Table, no_rows, whole}
use Rattle.ps_frame.specs.Trees.{Tree}
use Rattle.ps_frame.specs.declared.value.DataType.TheVariants as kind
use Rattle.ps_frame.specs.declared.value.Value.{Value}
use Rattle.ps_meaning.specs.Shape.{PhysicalCase, PhysicalMeans, PhysicalNode, Shape, equi_join, in_memory_sink, in_memory_source, input_tables, multiplexer, reduce, select_node, zip_node}
use Rattle.ps_meaning.specs.Sound.{BreaksNoRule, HasReadersOf, IsFitNode, IsSound, IsSoundButForReaders, readers_of_port}
use Rattle.ps_meaning.specs.Steps.{hconcat, join, memory_sink, scan, select, union}
use Rattle.ps_meaning.specs.Within.{Within}
use Rattle.plan_laws.proofs.SoundShapes.{each-node, keeps-rules, no-port, none-repeats, one-port, sink-rules, source-rules, two-ports}
use Rattle.plan_laws.proofs.UnbrokenPlan.{once}
use Rattle.plan_laws.specs.Examples.{a_column, ab, number, numbers, one, sum_table}
use Rattle.plan_laws.specs.Shapes.{backward_shape, first_of_two, forward_shape, join_shape, l_frame, l_with_a, one_two, physical, select_shape, sum_and_b, sum_of_a, sum_shape, t_schema, twice_shape}

-- each name that is read stands in the schema, whichever name it is
pub one-read : (a b : Bool) → (((a || false) || false) && not (a || (b || false))) ≡ true → ⊥
one-read true b h = cc
one-read false b h = cc

only-read : (a : Bool) → (((a || false) || false) && not (a || false)) ≡ true → ⊥
only-read true h = cc
only-read false h = cc

two-read : (a b t : Bool) → (((t || false) || ((b || false) || false)) && not (a || (b || (t || false)))) ≡ true → ⊥
two-read true true true h = cc
two-read true true false h = cc
two-read true false true h = cc
two-read true false false h = cc
two-read false true true h = cc
two-read false true false h = cc
two-read false false true h = cc
two-read false false false h = cc

sides-read : (l a : Bool) → ((((l || false) || false) && not (l || false)) || (((a || false) || false) && not (a || false))) ≡ true → ⊥
sides-read true true h = cc
sides-read true false h = cc
sides-read false true h = cc
sides-read false false h = cc

-- the values of the frames are of their kinds
ab-fits : FitsFrame ab
ab-fits = ((refl, (refl, tt)), ((refl, (refl, tt)), ((refl, (refl, tt)), tt)))

two-fit : FitsFrame one_two
two-fit = ((refl, tt), ((refl, tt), tt))

l-fits : FitsFrame l_frame
l-fits = ((refl, tt), ((refl, tt), tt))

-- one of three columns
abbrev all_three : Fields
all_three = ab.schema ++ t_schema

module _ (F : Functions) where
  reduce-rules : BreaksNoRule F (select sum_of_a) (ab.schema ∷ [])
  reduce-rules =
      keeps-rules F (select sum_of_a) (ab.schema ∷ [])
      (record { keys = λ h. h; key = λ h. h; validated = λ h. h; missing = λ n h. one-read (bytes_eq n (codes "a")) (bytes_eq n (codes "b")) h; repeated = λ n h. h; names = none-repeats (codes "t" ∷ []) refl; kinds = λ h. h; typed = λ h. cc; columns = λ e. cc; literal = λ h. h })

  zip-rules : BreaksNoRule F hconcat (ab.schema ∷ t_schema ∷ [])
  zip-rules =
      keeps-rules F hconcat (ab.schema ∷ t_schema ∷ [])
      (record { keys = λ h. h; key = λ h. h; validated = λ h. h; missing = λ n h. cc; repeated = λ n h. h; names = none-repeats (codes "a" ∷ codes "b" ∷ codes "t" ∷ []) refl; kinds = λ h. h; typed = λ h. cc; columns = λ e. cc; literal = λ h. h })

  select-rules : BreaksNoRule F (select sum_and_b) (all_three ∷ [])
  select-rules =
      keeps-rules F (select sum_and_b) (all_three ∷ [])
      (record { keys = λ h. h; key = λ h. h; validated = λ h. h; missing = λ n h. two-read (bytes_eq n (codes "a")) (bytes_eq n (codes "b")) (bytes_eq n (codes "t")) h; repeated = λ n h. h; names = none-repeats (codes "s" ∷ codes "b" ∷ []) refl; kinds = λ h. h; typed = λ h. cc; columns = λ e. cc; literal = λ h. h })

  sum-fit : IsSoundButForReaders F sum_shape
  sum-fit =
      each-node (IsFitNode F sum_shape) sum_shape (
        record { earlier = tt; inputs = refl; schema = refl; not_empty = λ e. cc; parameters = ab-fits; kinds = refl; rules = source-rules F ab refl (λ e. cc) },
        (
          record { earlier = (omega arith, tt); inputs = refl; schema = refl; not_empty = λ e. cc; parameters = tt; kinds = refl; rules = sink-rules F ab.schema refl (λ e. cc) },
          (
            record { earlier = (omega arith, tt); inputs = refl; schema = refl; not_empty = λ e. cc; parameters = (refl, tt); kinds = refl; rules = reduce-rules },
            (
              record { earlier = (omega arith, (omega arith, tt)); inputs = omega arith; schema = refl; not_empty = λ e. cc; parameters = tt; kinds = refl; rules = zip-rules },
              (
                record { earlier = (omega arith, tt); inputs = refl; schema = refl; not_empty = λ e. cc; parameters = (refl, refl); kinds = refl; rules = select-rules },
                (
                  record { earlier = (omega arith, tt); inputs = refl; schema = refl; not_empty = λ e. cc; parameters = tt; kinds = refl; rules = sink-rules F sum_table.schema refl (λ e. cc) },
                  tt,
                ),
              ),
            ),
          ),
        ),
      )

  pub sum-sound : IsSound F sum_shape
  sum-sound = (
    sum-fit,
    each-node (HasReadersOf sum_shape) sum_shape (
      record { readers = refl; one_reader = one-port (readers_of_port sum_shape 0) refl },
      (
        record { readers = omega arith; one_reader = two-ports (readers_of_port sum_shape 1) refl refl },
        (
          record { readers = refl; one_reader = one-port (readers_of_port sum_shape 2) refl },
          (
            record { readers = refl; one_reader = one-port (readers_of_port sum_shape 3) refl },
            (
              record { readers = refl; one_reader = one-port (readers_of_port sum_shape 4) refl },
              (
                record { readers = refl; one_reader = no-port (readers_of_port sum_shape 5) },
                tt,
              ),
            ),
          ),
        ),
      ),
    ),
  )

-- the tables of its nodes
abbrev sum_row : Table
sum_row = record { schema = t_schema; rows = (number 6 ∷ []) ∷ []; broken = [] }

abbrev beside : Table
beside = record { schema = all_three; rows = (number 1 ∷ number 4 ∷ number 6 ∷ []) ∷ (number 2 ∷ number 5 ∷ number 6 ∷ []) ∷ (number 3 ∷ number 6 ∷ number 6 ∷ []) ∷ []; broken = [] }

abbrev sum_tables : ℕ → Table
sum_tables n = get_or (whole ab ∷ whole ab ∷ sum_row ∷ beside ∷ sum_table ∷ sum_table ∷ []) n (no_rows [] [])

pub sum-means : (F : Functions) → PhysicalMeans F sum_shape 5 sum_table
unfolding int_wrap
sum-means F = (
  sum_tables,
  each-node (λ n p. PhysicalCase F p (input_tables F sum_tables p) (sum_tables n)) sum_shape
      ((whole ab, inl refl, refl), ((whole ab, inl refl, refl), ((sum_row, inl refl, refl), ((beside, inl refl, refl), ((sum_table, inl refl, refl), ((sum_table, inl refl, refl), tt)))))),
  omega arith,
  refl,
)

-- and no others: one table after the other
abbrev reducing : PhysicalNode
reducing = physical (reduce sum_of_a) t_schema 1 ((1, 1) ∷ [])

abbrev zipping : PhysicalNode
zipping = physical (zip_node false) all_three 1 ((1, 0) ∷ (2, 0) ∷ [])

abbrev selecting : PhysicalNode
selecting = physical (select_node sum_and_b false) sum_table.schema 1 ((3, 0) ∷ [])

module _ (F : Functions) where
  scan-only : (T : Table) → PhysicalCase F (physical (in_memory_source ab) ab.schema 0 []) [] T → T ≡ whole ab
  scan-only T k = k.2 ∙ once F 0 (scan ab None) [] (whole ab) k.0 (λ W g. g) (λ W g. refl) k.1

  hand-only : (s : Fields) (at : ℕ) (is : List (ℕ × ℕ)) (V T : Table) → PhysicalCase F (physical multiplexer s at is) (V ∷ []) T → T ≡ V
  hand-only s at is V T k = k.2 ∙ once F at memory_sink (V ∷ []) V k.0 (λ W g. g) (λ W g. refl) k.1

  sink-only : (s : Fields) (at : ℕ) (is : List (ℕ × ℕ)) (V T : Table) → PhysicalCase F (physical in_memory_sink s at is) (V ∷ []) T → T ≡ V
  sink-only s at is V T k = k.2 ∙ once F at memory_sink (V ∷ []) V k.0 (λ W g. g) (λ W g. refl) k.1

  reduce-only : (T : Table) → PhysicalCase F reducing (whole ab ∷ []) T → T ≡ sum_row
  unfolding int_wrap
  reduce-only T k = k.2 ∙ once F 1 (select sum_of_a) (whole ab ∷ []) sum_row k.0 (λ W g. g) (λ W g. refl) k.1

  zip-only : (T : Table) → PhysicalCase F zipping (whole ab ∷ sum_row ∷ []) T → T ≡ beside
  zip-only T (U, inl e, q) = q ∙ e
  zip-only T (U, inr lost, q) = absurd (lost.0 refl)

  select-only : (T : Table) → PhysicalCase F selecting (beside ∷ []) T → T ≡ sum_table
  select-only T k = k.2 ∙ once F 1 (select sum_and_b) (beside ∷ []) sum_table k.0 (λ W g. g) (λ W g. refl) k.1

  pub sum-only : (T : Table) → PhysicalMeans F sum_shape 5 T → T ≡ sum_table
  sum-only T (tables, chosen, within, e) =
      let source = scan-only (tables 0) (chosen 0 (physical (in_memory_source ab) ab.schema 0 []) refl) in
      let both = hand-only ab.schema 0 ((0, 0) ∷ []) (tables 0) (tables 1) (chosen 1 (physical multiplexer ab.schema 0 ((0, 0) ∷ [])) refl) ∙ source in
      let row = reduce-only (tables 2) (subst (λ (V : Table). PhysicalCase F reducing (V ∷ []) (tables 2)) both (chosen 2 reducing refl)) in
      let zipped =
      zip-only (tables 3)
      (subst (λ (V : Table). PhysicalCase F zipping (whole ab ∷ V ∷ []) (tables 3)) row (subst (λ (V : Table). PhysicalCase F zipping (V ∷ tables 2 ∷ []) (tables 3)) both (chosen 3 zipping refl))) in
      let selected = select-only (tables 4) (subst (λ (V : Table). PhysicalCase F selecting (V ∷ []) (tables 4)) zipped (chosen 4 selecting refl)) in
      let sunk = sink-only sum_table.schema 2 ((4, 0) ∷ []) (tables 4) (tables 5) (chosen 5 (physical in_memory_sink sum_table.schema 2 ((4, 0) ∷ [])) refl) in
      sym e ∙ sunk ∙ selected

  -- inputs of a union that are of one schema
  alike : (s : Fields) (k : ℕ) (t : Fields) → k < 2 → slice_index_or (s ∷ s ∷ []) k t ≡ t → t ≡ s
  alike s zero t h e = sym e
  alike s (suc zero) t h e = sym e
  alike s (suc (suc k)) t h e = absurd (omega arith)

  no-others : (s : Fields) → Any (λ t. t ≡ s → ⊥) (s ∷ s ∷ []) → ⊥
  no-others s (k, t, h, e, other) = other (alike s k t h e)

  union-rules : BreaksNoRule F (union None) (one_two.schema ∷ one_two.schema ∷ [])
  union-rules =
      keeps-rules F (union None) (one_two.schema ∷ one_two.schema ∷ [])
      (record { keys = λ h. h; key = λ h. h; validated = λ h. h; missing = λ n h. cc; repeated = λ n h. h; names = none-repeats (codes "a" ∷ []) refl; kinds = no-others one_two.schema; typed = λ h. cc; columns = λ e. cc; literal = λ h. h })

  pub twice-fit : (port : ℕ) → IsSoundButForReaders F (twice_shape port)
  twice-fit port =
      each-node (IsFitNode F (twice_shape port)) (twice_shape port) (
        record { earlier = tt; inputs = refl; schema = refl; not_empty = λ e. cc; parameters = two-fit; kinds = refl; rules = source-rules F one_two refl (λ e. cc) },
        (
          record { earlier = (omega arith, tt); inputs = refl; schema = refl; not_empty = λ e. cc; parameters = tt; kinds = refl; rules = sink-rules F one_two.schema refl (λ e. cc) },
          (
            record { earlier = (omega arith, (omega arith, tt)); inputs = omega arith; schema = refl; not_empty = λ e. cc; parameters = tt; kinds = refl; rules = union-rules },
            (
              record { earlier = (omega arith, tt); inputs = refl; schema = refl; not_empty = λ e. cc; parameters = tt; kinds = refl; rules = sink-rules F one_two.schema refl (λ e. cc) },
              tt,
            ),
          ),
        ),
      )

  pub twice-sound : IsSound F (twice_shape 1)
  twice-sound = (
    twice-fit 1,
    each-node (HasReadersOf (twice_shape 1)) (twice_shape 1) (
      record { readers = refl; one_reader = one-port (readers_of_port (twice_shape 1) 0) refl },
      (
        record { readers = omega arith; one_reader = two-ports (readers_of_port (twice_shape 1) 1) refl refl },
        (
          record { readers = refl; one_reader = one-port (readers_of_port (twice_shape 1) 2) refl },
          (
            record { readers = refl; one_reader = no-port (readers_of_port (twice_shape 1) 3) },
            tt,
          ),
        ),
      ),
    ),
  )

  pub twice-unsound : IsSound F (twice_shape 0) → ⊥
  twice-unsound sound =
      let some : 0 < 2 = omega arith in
      let two : ◌≡◌ {A = ℕ} 2 1 = (sound.1 1 (physical multiplexer one_two.schema 0 ((0, 0) ∷ [])) refl).one_reader 0 some in
      absurd (omega arith)

  select-one-rules : BreaksNoRule F (select ((codes "x", one) ∷ (codes "a", a_column) ∷ [])) (one_two.schema ∷ [])
  select-one-rules =
      keeps-rules F (select ((codes "x", one) ∷ (codes "a", a_column) ∷ [])) (one_two.schema ∷ [])
      (record { keys = λ h. h; key = λ h. h; validated = λ h. h; missing = λ n h. only-read (bytes_eq n (codes "a")) h; repeated = λ n h. h; names = none-repeats (codes "x" ∷ codes "a" ∷ []) refl; kinds = λ h. h; typed = λ h. cc; columns = λ e. cc; literal = λ h. h })

  abbrev beside_a : Shape
  beside_a = select_shape ((codes "a", a_column) ∷ []) one_two.schema

  pub select-sound : IsSound F beside_a
  select-sound = (
    each-node (IsFitNode F beside_a) beside_a (
      record { earlier = tt; inputs = refl; schema = refl; not_empty = λ e. cc; parameters = two-fit; kinds = refl; rules = source-rules F one_two refl (λ e. cc) },
      (
        record { earlier = (omega arith, tt); inputs = refl; schema = refl; not_empty = λ e. cc; parameters = (refl, refl); kinds = refl; rules = select-one-rules },
        (
          record { earlier = (omega arith, tt); inputs = refl; schema = refl; not_empty = λ e. cc; parameters = tt; kinds = refl; rules = sink-rules F ((codes "x", kind.Int64) ∷ one_two.schema) refl (λ e. cc) },
          tt,
        ),
      ),
    ),
    each-node (HasReadersOf beside_a) beside_a (
      record { readers = refl; one_reader = one-port (readers_of_port beside_a 0) refl },
      (
        record { readers = refl; one_reader = one-port (readers_of_port beside_a 1) refl },
        (
          record { readers = refl; one_reader = no-port (readers_of_port beside_a 2) },
          tt,
        ),
      ),
    ),
  )

  pub literals-unsound : IsSound F (select_shape [] []) → ⊥
  literals-unsound sound =
      let none : false ≡ true = (sound.0 1 (physical (select_node ((codes "x", one) ∷ []) false) ((codes "x", kind.Int64) ∷ []) 1 ((0, 0) ∷ [])) refl).parameters.1 in
      cc

  -- as many keys on each side, and some
  keys-fit : (◌≡◌ {A = ℕ} 1 1 → ⊥) ⊎ (Tree.column (codes "l") ∷ [] ≡ []) → ⊥
  keys-fit (inl h) = h refl
  keys-fit (inr e) = cc

  join-rules : BreaksNoRule F (join (l_with_a None)) (l_frame.schema ∷ one_two.schema ∷ [])
  join-rules =
      keeps-rules F (join (l_with_a None)) (l_frame.schema ∷ one_two.schema ∷ [])
      (record { keys = keys-fit; key = λ h. h; validated = λ h. h; missing = λ n h. sides-read (bytes_eq n (codes "l")) (bytes_eq n (codes "a")) h; repeated = λ n h. h; names = none-repeats (codes "l" ∷ []) refl; kinds = λ h. cc; typed = λ h. cc; columns = λ e. cc; literal = λ h. h })

  pub join-sound : IsSound F (join_shape None)
  join-sound = (
    each-node (IsFitNode F (join_shape None)) (join_shape None) (
      record { earlier = tt; inputs = refl; schema = refl; not_empty = λ e. cc; parameters = l-fits; kinds = refl; rules = source-rules F l_frame refl (λ e. cc) },
      (
        record { earlier = tt; inputs = refl; schema = refl; not_empty = λ e. cc; parameters = two-fit; kinds = refl; rules = source-rules F one_two refl (λ e. cc) },
        (
          record { earlier = (omega arith, (omega arith, tt)); inputs = refl; schema = (((0, omega arith, refl), tt), refl); not_empty = λ e. cc; parameters = (refl, refl, refl, refl); kinds = refl; rules = join-rules },
          (
            record { earlier = (omega arith, tt); inputs = refl; schema = refl; not_empty = λ e. cc; parameters = tt; kinds = refl; rules = sink-rules F l_frame.schema refl (λ e. cc) },
            tt,
          ),
        ),
      ),
    ),
    each-node (HasReadersOf (join_shape None)) (join_shape None) (
      record { readers = refl; one_reader = one-port (readers_of_port (join_shape None) 0) refl },
      (
        record { readers = refl; one_reader = one-port (readers_of_port (join_shape None) 1) refl },
        (
          record { readers = refl; one_reader = one-port (readers_of_port (join_shape None) 2) refl },
          (
            record { readers = refl; one_reader = no-port (readers_of_port (join_shape None) 3) },
            tt,
          ),
        ),
      ),
    ),
  )

  no-slice : (s : ℤ × ℕ) → Some s ≡ None → ⊥
  no-slice s e = cc

  pub sliced-unsound : IsSound F (join_shape (Some (pos 0, 1))) → ⊥
  sliced-unsound sound = no-slice (pos 0, 1) (sound.0 2 (physical (equi_join (l_with_a (Some (pos 0, 1)))) l_frame.schema 2 ((0, 0) ∷ (1, 0) ∷ [])) refl).parameters.3

  pub backward-sound : IsSound F backward_shape
  backward-sound = (
    each-node (IsFitNode F backward_shape) backward_shape (
      record { earlier = tt; inputs = refl; schema = refl; not_empty = λ e. cc; parameters = two-fit; kinds = refl; rules = source-rules F one_two refl (λ e. cc) },
      (
        record { earlier = (omega arith, tt); inputs = refl; schema = refl; not_empty = λ e. cc; parameters = tt; kinds = refl; rules = sink-rules F one_two.schema refl (λ e. cc) },
        tt,
      ),
    ),
    each-node (HasReadersOf backward_shape) backward_shape (
      record { readers = refl; one_reader = one-port (readers_of_port backward_shape 0) refl },
      (
        record { readers = refl; one_reader = no-port (readers_of_port backward_shape 1) },
        tt,
      ),
    ),
  )

  pub forward-unsound : IsSound F forward_shape → ⊥
  forward-unsound sound =
      let early : 1 < 0 = (sound.0 0 (physical in_memory_sink one_two.schema 1 ((1, 0) ∷ [])) refl).earlier.0 in
      absurd (omega arith)

-- a broken table and a whole one
pub broken-within : Within first_of_two (whole one_two)
broken-within = record { same_schema = refl; part = inr ((λ e. cc), (numbers (2 ∷ []), refl)) }

pub whole-not-within : Within (whole one_two) first_of_two → ⊥
whole-not-within w = by w.part
  where
    by : (whole one_two ≡ first_of_two) ⊎ ((whole one_two).broken ≡ [] → ⊥) × ((rest : List (List Value)) × ((whole one_two).rows ++ rest ≡ first_of_two.rows)) → ⊥
    by (inl e) = let few : ◌≡◌ {A = ℕ} 2 1 = ap (λ (t : Table). length t.rows) e in absurd (omega arith)
    by (inr q) = q.0 refl
