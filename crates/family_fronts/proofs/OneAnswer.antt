-- What gives one table under the number 0, and nothing else.
use Rattle.std.proofs.Common.{◌≡◌, ℕ, List, [], ◌∷◌, ◌++◌, Option, Some, None, refl, sym, ap, ◌∙◌, append-nil, arith}
use Rattle.std.specs.Prelude.{slice_get}
use Rattle.ps_frame.specs.Tables.{IsWhole, Row, Table}
use Rattle.ps_world.specs.Laws.{Extends, sent_by}
use Rattle.ps_world.specs.World.{Pipe, World, rows_in_order}
use Rattle.world_families.proofs.Members.{nothing_is, smaller}
use Rattle.world_families.specs.Work.{IsComplete, Leaves}

module _ (w : World) (n : ℕ) (C : Table → Type 0) (some : (T : Table) × C T) (only_first : (p : Pipe) (k : ℕ) (rs : List Row) → Leaves w n p → slice_get p.got k ≡ Some (Some rs) → k ≡ 0)
    (answered : (p : Pipe) (rs : List Row) → Leaves w n p → slice_get p.got 0 ≡ Some (Some rs) → (T : Table) × C T × IsWhole T × (T.rows ≡ rs))
    (started : (p : Pipe) → Leaves w n p → IsComplete p → (rs : List Row) × (slice_get p.got 0 ≡ Some (Some rs))) where
  no_more : (p : Pipe) (rs : List Row) (slots : List (Option (List Row))) → Leaves w n p → p.got ≡ Some rs ∷ slots → rows_in_order slots ≡ []
  no_more p rs [] l e = refl
  no_more p rs (None ∷ slots) l e = refl
  no_more p rs (Some b ∷ slots) l e = absurd (smaller 0 1 (omega arith) (sym (only_first p 1 b l (ap (λ xs. slice_get xs 1) e))))

  -- a table that the node may give and that this pipe extends to
  abbrev Served : Pipe → Type 0
  Served p = (T : Table) × C T × Extends (sent_by p) T

  unanswered : (p : Pipe) → rows_in_order p.got ≡ [] → (IsComplete p → ⊥) → Served p
  unanswered p none partial = (some.0, some.1, record { rest = some.0.rows; begins = ap (λ rs. rs ++ some.0.rows) none; ends = λ c. absurd (partial c) })

  pub each_served : (p : Pipe) → Leaves w n p → Served p
  each_served p l = by p.got refl
    where
      by : (slots : List (Option (List Row))) → p.got ≡ slots → Served p
      by [] e = unanswered p (ap rows_in_order e) (λ c. let s = started p l c in nothing_is (Some s.0) (sym (ap (λ xs. slice_get xs 0) e) ∙ s.1))
      by (None ∷ slots) e = unanswered p (ap rows_in_order e) (λ c. let s = started p l c in let never : Some None ≡ Some (Some s.0) = sym (ap (λ xs. slice_get xs 0) e) ∙ s.1 in cc)
      by (Some rs ∷ slots) e =
          let a = answered p rs l (ap (λ xs. slice_get xs 0) e) in
          let all : rows_in_order p.got ≡ a.0.rows = ap rows_in_order e ∙ ap (λ z. rs ++ z) (no_more p rs slots l e) ∙ append-nil rs ∙ sym a.3 in
          (a.0, a.1, record { rest = []; begins = append-nil (rows_in_order p.got) ∙ all; ends = λ c. (all, a.2) })
