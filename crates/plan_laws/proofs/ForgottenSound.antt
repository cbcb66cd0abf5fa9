-- The shape of a gathered column beside a sum over no rows is sound.
use Rattle.std.proofs.Common.{◌≡◌, pos, Bool, true, false, not, ◌&&◌, ◌||◌, List, [], ◌∷◌, refl, arith}
use Rattle.std.specs.Prelude.{codes}
use Rattle.std.specs.Str.{bytes_eq}
use Rattle.ps_frame.specs.Functions.{Functions}
use Rattle.ps_frame.specs.Tables.{Fields}
use Rattle.ps_frame.specs.Trees.{Tree}
use Rattle.ps_meaning.specs.Sound.{BreaksNoRule, HasReadersOf, IsFitNode, IsSound, readers_of_port}
use Rattle.ps_meaning.specs.Steps.{Named, filter, hconcat, select, slice}
use Rattle.plan_laws.proofs.ShapeRows.{one-read}
use Rattle.plan_laws.proofs.SoundShapes.{each-node, keeps-rules, no-port, none-repeats, one-port, sink-rules, source-rules, two-ports}
use Rattle.plan_laws.specs.Examples.{a_column}
use Rattle.plan_laws.specs.Forgotten.{above_hundred, at_places, filtered, gathered_shape, ints, lossy_sum, places}

-- each name that is read stands in the schema
split-read : (a i : Bool) → (((a || false) || ((a || false) || false)) && not (a || (i || false))) ≡ true → ⊥
split-read true true h = cc
split-read true false h = cc
split-read false true h = cc
split-read false false h = cc

second-read : (v p : Bool) → (((p || false) || false) && not (v || (p || false))) ≡ true → ⊥
second-read true true h = cc
second-read true false h = cc
second-read false true h = cc
second-read false false h = cc

gather-read : (a i : Bool) → (((a || (i || false)) || false) && not (a || (i || false))) ≡ true → ⊥
gather-read true true h = cc
gather-read true false h = cc
gather-read false true h = cc
gather-read false false h = cc

swapped-read : (r g : Bool) → (((g || false) || ((r || false) || false)) && not (r || (g || false))) ≡ true → ⊥
swapped-read true true h = cc
swapped-read true false h = cc
swapped-read false true h = cc
swapped-read false false h = cc

abbrev r_and_g : Fields
r_and_g = ints (codes "r" ∷ codes "g" ∷ [])

abbrev f_and_m : Fields
f_and_m = ints (codes "f" ∷ codes "m" ∷ [])

module _ (F : Functions) where
  split-rules : BreaksNoRule F (select ((codes "v", a_column) ∷ (codes "p", above_hundred) ∷ [])) (places.schema ∷ [])
  split-rules =
      keeps-rules F (select ((codes "v", a_column) ∷ (codes "p", above_hundred) ∷ [])) (places.schema ∷ [])
      (record { keys = λ h. h; key = λ h. h; validated = λ h. h; missing = λ n h. split-read (bytes_eq n (codes "a")) (bytes_eq n (codes "i")) h; repeated = λ n h. h; names = none-repeats (codes "v" ∷ codes "p" ∷ []) refl; kinds = λ h. h; typed = λ h. cc; columns = λ e. cc; literal = λ h. h })

  filter-rules : BreaksNoRule F (filter (Tree.column (codes "p"))) (filtered ∷ [])
  filter-rules =
      keeps-rules F (filter (Tree.column (codes "p"))) (filtered ∷ [])
      (record { keys = λ h. h; key = λ h. h; validated = λ h. h; missing = λ n h. second-read (bytes_eq n (codes "v")) (bytes_eq n (codes "p")) h; repeated = λ n h. h; names = none-repeats (codes "v" ∷ codes "p" ∷ []) refl; kinds = λ h. cc; typed = λ h. cc; columns = λ e. cc; literal = λ h. h })

  sum-rules : BreaksNoRule F (select ((codes "r", lossy_sum (Tree.column (codes "v"))) ∷ [])) (filtered ∷ [])
  sum-rules =
      keeps-rules F (select ((codes "r", lossy_sum (Tree.column (codes "v"))) ∷ [])) (filtered ∷ [])
      (record { keys = λ h. h; key = λ h. h; validated = λ h. h; missing = λ n h. one-read (bytes_eq n (codes "v")) (bytes_eq n (codes "p")) h; repeated = λ n h. h; names = none-repeats (codes "r" ∷ []) refl; kinds = λ h. h; typed = λ h. cc; columns = λ e. cc; literal = λ h. h })

  gather-rules : BreaksNoRule F (select ((codes "g", at_places) ∷ [])) (places.schema ∷ [])
  gather-rules =
      keeps-rules F (select ((codes "g", at_places) ∷ [])) (places.schema ∷ [])
      (record { keys = λ h. h; key = λ h. h; validated = λ h. h; missing = λ n h. gather-read (bytes_eq n (codes "a")) (bytes_eq n (codes "i")) h; repeated = λ n h. h; names = none-repeats (codes "g" ∷ []) refl; kinds = λ h. h; typed = λ h. cc; columns = λ e. cc; literal = λ h. h })

  zip-rules : BreaksNoRule F hconcat (ints (codes "r" ∷ []) ∷ ints (codes "g" ∷ []) ∷ [])
  zip-rules =
      keeps-rules F hconcat (ints (codes "r" ∷ []) ∷ ints (codes "g" ∷ []) ∷ [])
      (record { keys = λ h. h; key = λ h. h; validated = λ h. h; missing = λ n h. cc; repeated = λ n h. h; names = none-repeats (codes "r" ∷ codes "g" ∷ []) refl; kinds = λ h. h; typed = λ h. cc; columns = λ e. cc; literal = λ h. h })

  abbrev swapped : List Named
  swapped = (codes "f", Tree.column (codes "g")) ∷ (codes "m", Tree.column (codes "r")) ∷ []

  swap-rules : BreaksNoRule F (select swapped) (r_and_g ∷ [])
  swap-rules =
      keeps-rules F (select swapped) (r_and_g ∷ [])
      (record { keys = λ h. h; key = λ h. h; validated = λ h. h; missing = λ n h. swapped-read (bytes_eq n (codes "r")) (bytes_eq n (codes "g")) h; repeated = λ n h. h; names = none-repeats (codes "f" ∷ codes "m" ∷ []) refl; kinds = λ h. h; typed = λ h. cc; columns = λ e. cc; literal = λ h. h })

  slice-rules : BreaksNoRule F (slice (pos 0) 1) (f_and_m ∷ [])
  slice-rules =
      keeps-rules F (slice (pos 0) 1) (f_and_m ∷ [])
      (record { keys = λ h. h; key = λ h. h; validated = λ h. h; missing = λ n h. cc; repeated = λ n h. h; names = none-repeats (codes "f" ∷ codes "m" ∷ []) refl; kinds = λ h. h; typed = λ h. cc; columns = λ e. cc; literal = λ h. h })

  pub gathered-sound : IsSound F gathered_shape
  gathered-sound = (
    each-node (IsFitNode F gathered_shape) gathered_shape (
      record { earlier = tt; inputs = refl; schema = refl; not_empty = λ e. cc; parameters = ((refl, (refl, tt)), ((refl, (refl, tt)), tt)); kinds = refl; rules = source-rules F places refl (λ e. cc) },
      (
        record { earlier = (omega arith, tt); inputs = refl; schema = refl; not_empty = λ e. cc; parameters = tt; kinds = refl; rules = sink-rules F places.schema refl (λ e. cc) },
        (
          record { earlier = (omega arith, tt); inputs = refl; schema = refl; not_empty = λ e. cc; parameters = (refl, refl); kinds = refl; rules = split-rules },
          (
            record { earlier = (omega arith, tt); inputs = refl; schema = refl; not_empty = λ e. cc; parameters = refl; kinds = refl; rules = filter-rules },
            (
              record { earlier = (omega arith, tt); inputs = refl; schema = refl; not_empty = λ e. cc; parameters = (refl, tt); kinds = refl; rules = sum-rules },
              (
                record { earlier = (omega arith, tt); inputs = refl; schema = refl; not_empty = λ e. cc; parameters = tt; kinds = refl; rules = gather-rules },
                (
                  record { earlier = (omega arith, (omega arith, tt)); inputs = omega arith; schema = refl; not_empty = λ e. cc; parameters = tt; kinds = refl; rules = zip-rules },
                  (
                    record { earlier = (omega arith, tt); inputs = refl; schema = refl; not_empty = λ e. cc; parameters = (refl, refl); kinds = refl; rules = swap-rules },
                    (
                      record { earlier = (omega arith, tt); inputs = refl; schema = refl; not_empty = λ e. cc; parameters = tt; kinds = refl; rules = slice-rules },
                      (
                        record { earlier = (omega arith, tt); inputs = refl; schema = refl; not_empty = λ e. cc; parameters = tt; kinds = refl; rules = sink-rules F f_and_m refl (λ e. cc) },
                        tt,
                      ),
                    ),
                  ),
                ),
              ),
            ),
          ),
        ),
      ),
    ),
    each-node (HasReadersOf gathered_shape) gathered_shape (
      record { readers = refl; one_reader = one-port (readers_of_port gathered_shape 0) refl },
      (
        record { readers = omega arith; one_reader = two-ports (readers_of_port gathered_shape 1) refl refl },
        (
          record { readers = refl; one_reader = one-port (readers_of_port gathered_shape 2) refl },
          (
            record { readers = refl; one_reader = one-port (readers_of_port gathered_shape 3) refl },
            (
              record { readers = refl; one_reader = one-port (readers_of_port gathered_shape 4) refl },
              (
                record { readers = refl; one_reader = one-port (readers_of_port gathered_shape 5) refl },
                (
                  record { readers = refl; one_reader = one-port (readers_of_port gathered_shape 6) refl },
                  (
                    record { readers = refl; one_reader = one-port (readers_of_port gathered_shape 7) refl },
                    (
                      record { readers = refl; one_reader = one-port (readers_of_port gathered_shape 8) refl },
                      (
                        record { readers = refl; one_reader = no-port (readers_of_port gathered_shape 9) },
                        tt,
                      ),
                    ),
                  ),
                ),
              ),
            ),
          ),
        ),
      ),
    ),
  )
