-- A step that fixes its order gives over tables within others a table within the one that it gives over those.
use Rattle.std.proofs.Common.{◌≡◌, ℕ, ◌+◌, ◌-◌, ◌⊎◌, List, [], ◌∷◌, ◌++◌, take, refl, sym, ap, subst, ◌∙◌, inl, inr}
use Rattle.std.specs.Prelude.{Bool, true, false, map, if◌then◌else◌, Option, Some, None, ⊤}
use Rattle.ps_frame.specs.Aggregates.{max_rows}
use Rattle.ps_frame.specs.Causes.{Cause, Column, is_empty}
use Rattle.ps_frame.specs.Functions.{Functions}
use Rattle.ps_frame.specs.Tables.{Fields, Frame, Table, columns_of, no_rows}
use Rattle.ps_frame.specs.Zip.{Zipped, zipped}
use Rattle.ps_frame.specs.declared.value.Value.{Value}
use Rattle.ps_frame.specs.declared.value.Value.TheVariants as val
use Rattle.ps_meaning.specs.Cases.{all_columns, answer_or_fault, first_table, function_cause, if_whole, numbered, projected, schemas_of, second_table, stream_table, streamed, table_of, union_rows, user_table, with_row_index}
use Rattle.ps_meaning.specs.Distinct.{picked, places_in}
use Rattle.ps_meaning.specs.Steps.{Name}
use Rattle.ps_meaning.specs.Within.{Within}
use Rattle.ps_meaning.proofs.Begins.{Begins, append-empty_left, begins-append, begins-empty, begins-map}
use Rattle.ps_meaning.proofs.EvalUnder.{all-append, columns-under}
use Rattle.ps_meaning.proofs.SchemaLaw.{if_whole-schema}
use Rattle.ps_meaning.proofs.Under.{AllUnder, Broken}
use Rattle.ps_meaning.proofs.WithinLemmas.{take_begins}

pub within-same : (t : Table) → Within t t
within-same t = record { same_schema = refl; part = inl refl }

abbrev pub AllWithin : List Table → List Table → Type 0
AllWithin [] [] = ⊤
AllWithin (p ∷ ps) (l ∷ ls) = Within p l × AllWithin ps ls
AllWithin _ _ = ⊥

pub first-within : (ps ls : List Table) → AllWithin ps ls → Within (first_table ps) (first_table ls)
first-within [] [] w = within-same (no_rows [] [])
first-within [] (l ∷ ls) w = absurd w
first-within (p ∷ ps) [] w = absurd w
first-within (p ∷ ps) (l ∷ ls) w = w.0

pub second-within : (ps ls : List Table) → AllWithin ps ls → Within (second_table ps) (second_table ls)
second-within [] [] w = within-same (no_rows [] [])
second-within [] (l ∷ ls) w = absurd w
second-within (p ∷ ps) [] w = absurd w
second-within (p ∷ ps) (l ∷ ls) w = first-within ps ls w.1

pub schemas-same : (ps ls : List Table) → AllWithin ps ls → schemas_of ps ≡ schemas_of ls
schemas-same [] [] w = refl
schemas-same [] (l ∷ ls) w = absurd w
schemas-same (p ∷ ps) [] w = absurd w
schemas-same (p ∷ ps) (l ∷ ls) w = ap (λ s. s ∷ schemas_of ps) w.0.same_schema ∙ ap (λ ss. l.schema ∷ ss) (schemas-same ps ls w.1)

pub moved : {T K A B : Table} → T ≡ A → K ≡ B → Within A B → Within T K
moved {T} {K} {A} {B} t k w = subst (λ T. Within T K) (sym t) (subst (λ K. Within A K) (sym k) w)

-- the rows that a step makes of the rows of a zip
abbrev pub Keeps : (List (List Value) → List (List Value)) → Type 0
Keeps f = (xs ys : List (List Value)) → Begins xs ys → Begins (f xs) (f ys)

abbrev pub Zips : Bool → ℕ → List Column → List Column → Type 0
Zips extend node cs ds = (cs ≡ ds) ⊎ Broken (zipped extend node cs).broken × Begins (zipped extend node cs).rows (zipped extend node ds).rows

pub zip-within : (extend : Bool) (node : ℕ) (s s' : Fields) (f g : List (List Value) → List (List Value)) (cs ds : List Column) → s ≡ s' → f ≡ g → Keeps f → Zips extend node cs ds
    → Within (table_of s f (zipped extend node cs)) (table_of s' g (zipped extend node ds))
zip-within extend node s s' f g cs ds es ef keeps (inl e) = record { same_schema = es; part = inl (λ i. table_of (es i) (ef i) (zipped extend node (e i))) }
zip-within extend node s s' f g cs ds es ef keeps (inr (broken, b)) =
    record { same_schema = es; part = inr (broken, subst (λ g. Begins (f (zipped extend node cs).rows) (g (zipped extend node ds).rows)) ef (keeps (zipped extend node cs).rows (zipped extend node ds).rows b)) }

-- what needs its whole input has no rows over a part of it
pub if_whole-within : (s : Fields) (causes : List Cause) (t l : Table) → Broken causes → l.schema ≡ s → Within (if_whole s causes t) l
if_whole-within s [] t l broken e = absurd (broken refl)
if_whole-within s (c ∷ cs) t l broken e = record { same_schema = sym e; part = inr ((λ w. cc), begins-empty l.rows) }

pub needs-whole : (node : ℕ) (make : Fields → Fields → Zipped → Table) (s s' out out' : Fields) (cs ds : List Column) → ((z : Zipped) → (make s' out' z).schema ≡ out') → s ≡ s' → out ≡ out' → Zips false node cs ds
    → Within (if_whole out (zipped false node cs).broken (make s out (zipped false node cs))) (if_whole out' (zipped false node ds).broken (make s' out' (zipped false node ds)))
needs-whole node make s s' out out' cs ds schema es eo (inl e) =
    record {
      same_schema = ap (λ cs. (if_whole out (zipped false node cs).broken (make s out (zipped false node cs))).schema) e ∙ (λ i. (if_whole (eo i) (zipped false node ds).broken (make (es i) (eo i) (zipped false node ds))).schema);
      part = inl (λ i. if_whole (eo i) (zipped false node (e i)).broken (make (es i) (eo i) (zipped false node (e i))));
    }
needs-whole node make s s' out out' cs ds schema es eo (inr (broken, b)) = if_whole-within out (zipped false node cs).broken _ _ broken (if_whole-schema out' (zipped false node ds).broken _ (schema (zipped false node ds)) ∙ sym eo)

-- numbering
numbered-more : (i : ℕ) (xs rest : List (List Value)) → Begins (numbered i xs) (numbered i (xs ++ rest))
numbered-more i [] rest = begins-empty (numbered i rest)
numbered-more i (x ∷ xs) rest = let h = numbered-more (i + 1) xs rest in (h.0, ap (λ zs. (val.IdxSize i ∷ x) ∷ zs) h.1)

begins-numbered : (i : ℕ) (xs ys : List (List Value)) → Begins xs ys → Begins (numbered i xs) (numbered i ys)
begins-numbered i xs ys (rest, e) = let h = numbered-more i xs rest in (h.0, h.1 ∙ ap (numbered i) e)

begins-take : (n : ℕ) (xs ys : List (List Value)) → Begins xs ys → Begins (take n xs) (take n ys)
begins-take n xs ys (rest, e) = let h = take_begins n xs rest in (h.0, h.1 ∙ ap (take n) e)

pub index-within : (node : ℕ) (s s' : Fields) (offset : ℕ) (p l : Table) → s ≡ s' → Within p l → Within (with_row_index node s offset p) (with_row_index node s' offset l)
index-within node s s' offset p l es w = record { same_schema = es; part = by w.part }
  where
    by : (p ≡ l) ⊎ (p.broken ≡ [] → ⊥) × ((rest : List (List Value)) × (p.rows ++ rest ≡ l.rows))
        → (with_row_index node s offset p ≡ with_row_index node s' offset l) ⊎ ((with_row_index node s offset p).broken ≡ [] → ⊥) × ((rest : List (List Value)) × ((with_row_index node s offset p).rows ++ rest ≡ (with_row_index node s' offset l).rows))
    by (inl e) = inl (λ i. with_row_index node (es i) offset (e i))
    by (inr (broken, b)) = inr ((λ e. broken (append-empty_left p.broken _ e)), begins-numbered offset _ _ (begins-take (max_rows - offset) p.rows l.rows b))

-- the answers of a function to more rows
abbrev pub answered : ℕ → Option Frame → Zipped → Zipped
answered node o z =
    elim o [
      | None ↦ record { rows = []; broken = function_cause node; lost = [] }
      | Some a ↦ record { rows = a.rows ++ z.rows; broken = z.broken; lost = [] }
    ]

answered-more : (node : ℕ) (o : Option Frame) (z w : Zipped) → Begins z.rows w.rows → Begins (answered node o z).rows (answered node o w).rows
answered-more node None z w b = begins-empty []
answered-more node (Some a) z w b = begins-append a.rows z.rows w.rows b

streamed-more : (node : ℕ) (answer : List Value → Option Frame) (xs rest : List (List Value)) → Begins (streamed node answer xs).rows (streamed node answer (xs ++ rest)).rows
streamed-more node answer [] rest = begins-empty (streamed node answer rest).rows
streamed-more node answer (x ∷ xs) rest = answered-more node (answer x) (streamed node answer xs) (streamed node answer (xs ++ rest)) (streamed-more node answer xs rest)

stream-within : (F : Functions) (node n : ℕ) (s s' : Fields) (p l : Table) → s ≡ s' → Within p l → Within (stream_table F node n s p) (stream_table F node n s' l)
stream-within F node n s s' p l es w = record { same_schema = es; part = by w.part }
  where
    by : (p ≡ l) ⊎ (p.broken ≡ [] → ⊥) × ((rest : List (List Value)) × (p.rows ++ rest ≡ l.rows))
        → (stream_table F node n s p ≡ stream_table F node n s' l) ⊎ ((stream_table F node n s p).broken ≡ [] → ⊥) × ((rest : List (List Value)) × ((stream_table F node n s p).rows ++ rest ≡ (stream_table F node n s' l).rows))
    by (inl e) = inl (λ i. stream_table F node n (es i) (e i))
    by (inr (broken, (rest, e))) =
        let one : Fields → List Value → Option Frame = λ f r. F.answer n (record { schema = f; rows = r ∷ [] }) in
        let h = streamed-more node (one p.schema) p.rows rest in
        inr ((λ e. broken (append-empty_left p.broken _ e)), (h.0, h.1 ∙ (λ i. (streamed node (one (w.same_schema i)) (e i)).rows)))

pub user-within : (F : Functions) (node n : ℕ) (s s' : Fields) (p l : Table) → s ≡ s' → (user_table F node n s' l).schema ≡ s' → Within p l → Within (user_table F node n s p) (user_table F node n s' l)
user-within F node n s s' p l es schema w = by (F.streams n) schema
  where
    by : (b : Bool)
        → (if b then stream_table F node n s' l else if_whole s' l.broken (answer_or_fault node s' (F.answer n (record { schema = l.schema; rows = l.rows })))).schema ≡ s'
        → Within (if b then stream_table F node n s p else if_whole s p.broken (answer_or_fault node s (F.answer n (record { schema = p.schema; rows = p.rows }))))
        (if b then stream_table F node n s' l else if_whole s' l.broken (answer_or_fault node s' (F.answer n (record { schema = l.schema; rows = l.rows }))))
    by true schema = stream-within F node n s s' p l es w
    by false schema = whole_answer w.part
      where
        whole_answer : (p ≡ l) ⊎ (p.broken ≡ [] → ⊥) × ((rest : List (List Value)) × (p.rows ++ rest ≡ l.rows))
            → Within (if_whole s p.broken (answer_or_fault node s (F.answer n (record { schema = p.schema; rows = p.rows })))) (if_whole s' l.broken (answer_or_fault node s' (F.answer n (record { schema = l.schema; rows = l.rows }))))
        whole_answer (inl e) =
            let q : if_whole s p.broken (answer_or_fault node s (F.answer n (record { schema = p.schema; rows = p.rows }))) ≡ if_whole s' l.broken (answer_or_fault node s' (F.answer n (record { schema = l.schema; rows = l.rows }))) =
            λ i. if_whole (es i) (e i).broken (answer_or_fault node (es i) (F.answer n (record { schema = (e i).schema; rows = (e i).rows }))) in
            record { same_schema = ap (λ (t : Table). t.schema) q; part = inl q }
        whole_answer (inr (broken, b)) = if_whole-within s p.broken _ _ broken (schema ∙ sym es)

-- tables one after the other
abbrev pub united : Table → Zipped → Bool → Zipped
united t z b = if b then record { rows = t.rows ++ z.rows; broken = z.broken; lost = [] } else record { rows = t.rows; broken = t.broken; lost = [] }

abbrev pub Part : Zipped → Zipped → Type 0
Part z w = (z ≡ w) ⊎ Broken z.broken × Begins z.rows w.rows

united-same : (t : Table) (z w : Zipped) (b : Bool) → Part z w → Part (united t z b) (united t w b)
united-same t z w b (inl e) = inl (ap (λ z. united t z b) e)
united-same t z w true (inr (broken, h)) = inr (broken, begins-append t.rows z.rows w.rows h)
united-same t z w false (inr h) = inl refl

begins-front : (xs ys zs : List (List Value)) → Begins xs ys → Begins xs (ys ++ zs)
begins-front xs ys zs (rest, e) = (rest ++ zs, back xs rest ∙ ap (λ ws. ws ++ zs) e)
  where
    back : (as' bs : List (List Value)) → as' ++ (bs ++ zs) ≡ (as' ++ bs) ++ zs
    back [] bs = refl
    back (a ∷ as') bs = ap (λ ws. a ∷ ws) (back as' bs)

united-part : (p l : Table) (z w : Zipped) (b c : Bool) → is_empty p.broken ≡ b → Broken p.broken → Begins p.rows l.rows → Part (united p z b) (united l w c)
united-part p l z w true c e broken h = absurd (broken (by p.broken e))
  where
    by : (causes : List Cause) → is_empty causes ≡ true → causes ≡ []
    by [] e = refl
    by (x ∷ xs) e = cc
united-part p l z w false true e broken h = inr (broken, begins-front p.rows l.rows w.rows h)
united-part p l z w false false e broken h = inr (broken, h)

pub union-within : (ps ls : List Table) → AllWithin ps ls → Part (union_rows ps) (union_rows ls)
union-within [] [] w = inl refl
union-within [] (l ∷ ls) w = absurd w
union-within (p ∷ ps) [] w = absurd w
union-within (p ∷ ps) (l ∷ ls) w = by w.0.part (union-within ps ls w.1)
  where
    by : (p ≡ l) ⊎ (p.broken ≡ [] → ⊥) × ((rest : List (List Value)) × (p.rows ++ rest ≡ l.rows)) → Part (union_rows ps) (union_rows ls) → Part (union_rows (p ∷ ps)) (union_rows (l ∷ ls))
    by (inl e) h = subst (λ l. Part (union_rows (p ∷ ps)) (union_rows (l ∷ ls))) e (united-same p (union_rows ps) (union_rows ls) (is_empty p.broken) h)
    by (inr (broken, b)) h = united-part p l (union_rows ps) (union_rows ls) (is_empty p.broken) (is_empty l.broken) refl broken b

pub all-columns : (ps ls : List Table) → AllWithin ps ls → AllUnder (all_columns ps) (all_columns ls)
all-columns [] [] w = tt
all-columns [] (l ∷ ls) w = absurd w
all-columns (p ∷ ps) [] w = absurd w
all-columns (p ∷ ps) (l ∷ ls) w = all-append (columns_of p) (columns_of l) (all_columns ps) (all_columns ls) (columns-under p l w.0) (all-columns ps ls w.1)

-- named columns
pub projected-within : (ns : List Name) (s s' : Fields) (p l : Table) → s ≡ s' → Within p l → Within (projected ns s p) (projected ns s' l)
projected-within ns s s' p l es w = record { same_schema = es; part = by w.part }
  where
    by : (p ≡ l) ⊎ (p.broken ≡ [] → ⊥) × ((rest : List (List Value)) × (p.rows ++ rest ≡ l.rows))
        → (projected ns s p ≡ projected ns s' l) ⊎ ((projected ns s p).broken ≡ [] → ⊥) × ((rest : List (List Value)) × ((projected ns s p).rows ++ rest ≡ (projected ns s' l).rows))
    by (inl e) = inl (λ i. projected ns (es i) (e i))
    by (inr (broken, b)) =
        inr (broken, subst (λ (f : Fields). Begins (map (picked (places_in ns p.schema)) p.rows) (map (picked (places_in ns f)) l.rows)) w.same_schema (begins-map (picked (places_in ns p.schema)) p.rows l.rows b))
