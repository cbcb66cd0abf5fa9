-- What was kept in slots, and what was handed in for one list after the other.
use Rattle.std.proofs.Common.{◌≡◌, ℕ, suc, ◌<◌, List, [], ◌∷◌, ◌++◌, length, get_or, Option, Some, None, refl, sym, ap, subst, arith}
use Rattle.std.specs.Prelude.{IsTrue, slice_get}
use Rattle.std.specs.List.{AllByRecursion, AllZip}
use Rattle.ps_frame.specs.Functions.{Functions}
use Rattle.ps_frame.specs.Tables.{Fields, Row}
use Rattle.ps_meaning.specs.Cases.{keyed, rows_table}
use Rattle.ps_meaning.specs.Shape.{PhysicalKind, PhysicalNode, Shape, group_by_node}
use Rattle.ps_meaning.specs.Sound.{IsSound, input_schemas}
use Rattle.ps_meaning.specs.Steps.{Named, exprs_of}
use Rattle.ps_turns.specs.Claims.{taken_rows}
use Rattle.ps_turns.specs.Keys.{IsSplit}
use Rattle.ps_turns.specs.Results.{IsMade, IsPartial}
use Rattle.ps_world.specs.Laws.{Justified, Sent, sent_by}
use Rattle.ps_world.specs.Passing.{one_port}
use Rattle.ps_world.specs.World.{Pipe, rows_in_order}
use Rattle.part_laws.specs.Lists.{GivesList, end_to_end}
use Rattle.part_laws.proofs.GroupAnswers.{sound-partials-whole}
use Rattle.part_laws.proofs.GroupWhatever.{parts-justified}

-- the morsels that stand in slots
abbrev present : List (Option (List Row)) → List (List Row)
present [] = []
present (None ∷ slots) = present slots
present (Some rs ∷ slots) = rs ∷ present slots

present-rows : (slots : List (Option (List Row))) → end_to_end (present slots) ≡ taken_rows slots
present-rows [] = refl
present-rows (None ∷ slots) = present-rows slots
present-rows (Some rs ∷ slots) = ap (λ l. rs ++ l) (present-rows slots)

all-present : (P : List Row → Type 0) (slots : List (Option (List Row))) → ((k : ℕ) (rs : List Row) → slice_get slots k ≡ Some (Some rs) → P rs) → AllByRecursion P (present slots)
all-present P [] h = tt
all-present P (None ∷ slots) h = all-present P slots (λ k rs e. h (suc k) rs e)
all-present P (Some rs ∷ slots) h = (h 0 rs refl, all-present P slots (λ k rs e. h (suc k) rs e))

-- what was handed in for the first lists, one after the other
record Front (P : List Row → List Row → Type 0) (slots : List (Option (List Row))) (lists : List (List Row)) : Type 0 where
  pub given : List (List Row)
  pub left : List (List Row)
  pub rss : List (List Row)
  pub is : given ++ left ≡ lists
  pub gave : AllZip P given rss
  pub rows : rows_in_order slots ≡ end_to_end rss
  pub all : ((k : ℕ) → k < length lists → (rs : List Row) × (slice_get slots k ≡ Some (Some rs))) → left ≡ []

none-left : (slots : List (Option (List Row))) (lists : List (List Row)) → ((rs : List Row) → slice_get slots 0 ≡ Some (Some rs) → ⊥) → ((k : ℕ) → k < length lists → (rs : List Row) × (slice_get slots k ≡ Some (Some rs))) → lists ≡ []
none-left slots [] never f = refl
none-left slots (l ∷ lists) never f = let x = f 0 (omega arith) in absurd (never x.0 x.1)

front-of : (P : List Row → List Row → Type 0) (slots : List (Option (List Row))) (lists : List (List Row)) → ((k : ℕ) (rs : List Row) → slice_get slots k ≡ Some (Some rs) → (k < length lists) × P (get_or lists k []) rs) → Front P slots lists
front-of P [] lists h = record { given = []; left = lists; rss = []; is = refl; gave = tt; rows = refl; all = none-left [] lists (λ rs e. cc) }
front-of P (None ∷ slots) lists h = record { given = []; left = lists; rss = []; is = refl; gave = tt; rows = refl; all = none-left (None ∷ slots) lists (λ rs e. cc) }
front-of P (Some rs ∷ slots) [] h = let x = (h 0 rs refl).0 in absurd (omega arith)
front-of P (Some rs ∷ slots) (l ∷ lists) h =
    let r = front-of P slots lists (λ k x e. let y = h (suc k) x e in let lt = y.0 in (omega arith, y.1)) in
    record {
      given = l ∷ r.given;
      left = r.left;
      rss = rs ∷ r.rss;
      is = ap (λ ls. l ∷ ls) r.is;
      gave = ((h 0 rs refl).1, r.gave);
      rows = ap (λ l. rs ++ l) r.rows;
      all = λ f. r.all (λ k lt. f (suc k) (omega arith));
    }

module _ (F : Functions) (shape : Shape) (n : ℕ) (p : PhysicalNode) (s : Fields) (keys aggregates : List Named) (sound : IsSound F shape) (there : slice_get shape n ≡ Some p) (is : p.kind ≡ group_by_node keys aggregates) (reads : input_schemas shape p ≡ s ∷ []) where
  -- where of each morsel in a slot there is a partial, what was taken is whole beside its keys
  pub slots-whole : (i : ℕ) (slots : List (Option (List Row))) → ((k : ℕ) (rs : List Row) → slice_get slots k ≡ Some (Some rs) → (size : ℕ) × IsPartial F p p.kind i (rows_table s rs ∷ []) size) → (keyed p.origin (exprs_of keys) (rows_table s (taken_rows slots))).broken ≡ []
  slots-whole i slots h =
      subst (λ rows. (keyed p.origin (exprs_of keys) (rows_table s rows)).broken ≡ []) (present-rows slots)
      (sound-partials-whole F shape n p s keys aggregates sound there is reads (present slots) (all-present (λ a. (rs : List Row) × IsMade F p (rows_table s a ∷ []) rs) slots made))
    where
      made : (k : ℕ) (rs : List Row) → slice_get slots k ≡ Some (Some rs) → (out : List Row) × IsMade F p (rows_table s rs ∷ []) out
      made k rs e =
          let x = h k rs e in
          let y = subst (λ (kd : PhysicalKind). IsPartial F p kd i (rows_table s rs ∷ []) x.0) is x.1 in
          (y.0, y.1)

  -- the pipe has, under each number, what was handed in for the list of that number; and where it is complete, for all of them
  pub pipe-justified : (sent : Sent) → IsTrue sent.is_complete → (keyed p.origin (exprs_of keys) (rows_table s sent.rows)).broken ≡ [] → (partitions : ℕ) (lists : List (List Row)) → IsSplit p (rows_table s sent.rows ∷ []) partitions lists → (to : Pipe)
      → ((k : ℕ) (rs : List Row) → slice_get to.got k ≡ Some (Some rs) → (k < length lists) × GivesList F p (rows_table s sent.rows ∷ []) (get_or lists k []) rs)
      → (IsTrue (sent_by to).is_complete → (k : ℕ) → k < length lists → (rs : List Row) × (slice_get to.got k ≡ Some (Some rs)))
      → Justified F p (s ∷ []) (sent ∷ []) (one_port to)
  pipe-justified sent complete whole partitions lists split to gave all =
      let f = front-of (GivesList F p (rows_table s sent.rows ∷ [])) to.got lists gave in
      parts-justified F shape n p s keys aggregates sound there is reads sent complete whole partitions f.given f.left f.rss (subst (IsSplit p (rows_table s sent.rows ∷ []) partitions) (sym f.is) split) f.gave to f.rows (λ c. f.all (all c))
