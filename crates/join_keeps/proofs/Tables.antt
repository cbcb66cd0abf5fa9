-- What a join's table shows, by the causes of its sides.
use Rattle.std.proofs.Common.{◌≡◌, ◌≢◌, ◌⊎◌, inl, inr, Bool, true, false, not, cond, ◌&&◌, List, [], ◌∷◌, ◌++◌, refl, sym, ap, subst, ◌∙◌}
use Rattle.ps_frame.specs.Causes.{Cause, is_empty}
use Rattle.ps_frame.specs.Tables.{Fields, Table}
use Rattle.ps_frame.specs.Zip.{Zipped}
use Rattle.ps_frame.specs.declared.value.Value.{Value}
use Rattle.ps_meaning.specs.Cases.{if_whole, joined_table, rows_table}
use Rattle.ps_meaning.specs.Joins.{front_rows, goes_by_left, join_rows}
use Rattle.ps_meaning.specs.Steps.{JoinStep}
use Rattle.ps_shares.proofs.Ends.{has_either, has_first}
use Rattle.ps_shares.proofs.Members.{Has}
use Rattle.ps_bundles.proofs.Gathered.{has_last}
use Rattle.ps_bundles.proofs.ZipEnds.{some_is}

-- the rows that a join shows: none over a right side that breaks, and those of the left rows over a left one
abbrev pub shown_rows : (whole_left whole_right : Bool) → (all front : List (List Value)) → List (List Value)
shown_rows true true all front = all
shown_rows false true all front = front
shown_rows whole_left false all front = []

module _ (o : JoinStep) (by_left : goes_by_left o.args.how ≡ true) (l r s : Fields) where
  abbrev all : Zipped → Zipped → List (List Value)
  all a b = join_rows o l r a.rows b.rows

  abbrev front : Zipped → Zipped → List (List Value)
  front a b = front_rows o l r a.rows b.rows

  -- by the causes of both sides
  abbrev table_by : Bool → List Cause → List Cause → (all front : List (List Value)) → Table
  table_by g ca cb all front = cond {A = Table} (g && (is_empty cb && not (is_empty ca))) (record { schema = s; rows = front; broken = ca }) (if_whole s (ca ++ cb) (rows_table s all))

  rows_by : (ca cb : List Cause) (all front : List (List Value)) → (table_by true ca cb all front).rows ≡ shown_rows (is_empty ca) (is_empty cb) all front
  rows_by [] [] all front = refl
  rows_by [] (d ∷ ds) all front = refl
  rows_by (c ∷ cs) [] all front = refl
  rows_by (c ∷ cs) (d ∷ ds) all front = refl

  whole_by : (ca cb : List Cause) (all front : List (List Value)) → is_empty (table_by true ca cb all front).broken ≡ (is_empty ca && is_empty cb)
  whole_by [] [] all front = refl
  whole_by [] (d ∷ ds) all front = refl
  whole_by (c ∷ cs) [] all front = refl
  whole_by (c ∷ cs) (d ∷ ds) all front = refl

  shown_by : (ca cb : List Cause) (all front : List (List Value)) (c : Cause) → Has (table_by true ca cb all front).broken c → Has ca c ⊎ Has cb c
  shown_by [] [] all front c h = absurd h
  shown_by [] (d ∷ ds) all front c h = inr h
  shown_by (e ∷ es) [] all front c h = inl h
  shown_by (e ∷ es) (d ∷ ds) all front c h = has_either (e ∷ es) (d ∷ ds) c h

  left_by : (ca cb : List Cause) (all front : List (List Value)) (c : Cause) → Has ca c → Has (table_by true ca cb all front).broken c
  left_by [] cb all front c h = absurd h
  left_by (e ∷ es) [] all front c h = h
  left_by (e ∷ es) (d ∷ ds) all front c h = has_first (e ∷ es) (d ∷ ds) c h

  right_by : (ca cb : List Cause) (all front : List (List Value)) (c : Cause) → Has cb c → Has (table_by true ca cb all front).broken c
  right_by ca [] all front c h = absurd h
  right_by [] (d ∷ ds) all front c h = h
  right_by (e ∷ es) (d ∷ ds) all front c h = has_last (e ∷ es) (d ∷ ds) c h

  is_by : (a b : Zipped) → table_by true a.broken b.broken (all a b) (front a b) ≡ joined_table o l r s a b
  is_by a b = ap (λ (g : Bool). table_by g a.broken b.broken (all a b) (front a b)) (sym by_left)

  pub joined_rows : (a b : Zipped) → (joined_table o l r s a b).rows ≡ shown_rows (is_empty a.broken) (is_empty b.broken) (all a b) (front a b)
  joined_rows a b = ap (λ (T : Table). T.rows) (sym (is_by a b)) ∙ rows_by a.broken b.broken (all a b) (front a b)

  pub joined_whole : (a b : Zipped) → is_empty (joined_table o l r s a b).broken ≡ (is_empty a.broken && is_empty b.broken)
  joined_whole a b = ap (λ (T : Table). is_empty T.broken) (sym (is_by a b)) ∙ whole_by a.broken b.broken (all a b) (front a b)

  pub joined_shown : (a b : Zipped) (c : Cause) → Has (joined_table o l r s a b).broken c → Has a.broken c ⊎ Has b.broken c
  joined_shown a b c h = shown_by a.broken b.broken (all a b) (front a b) c (subst (λ (T : Table). Has T.broken c) (sym (is_by a b)) h)

  pub left_shown : (a b : Zipped) (c : Cause) → Has a.broken c → Has (joined_table o l r s a b).broken c
  left_shown a b c h = subst (λ (T : Table). Has T.broken c) (is_by a b) (left_by a.broken b.broken (all a b) (front a b) c h)

  pub right_shown : (a b : Zipped) (c : Cause) → Has b.broken c → Has (joined_table o l r s a b).broken c
  right_shown a b c h = subst (λ (T : Table). Has T.broken c) (is_by a b) (right_by a.broken b.broken (all a b) (front a b) c h)

  -- over a left side that breaks before its first row there is no row, and over a right side that breaks
  no_left : (y : Bool) (a b : Zipped) → a.rows ≡ [] → shown_rows false y (all a b) (front a b) ≡ []
  no_left true a b none = ap (λ (rows : List (List Value)). front_rows o l r rows b.rows) none
  no_left false a b none = refl

  no_right : (x : Bool) (all front : List (List Value)) → shown_rows x false all front ≡ []
  no_right true all front = refl
  no_right false all front = refl

  pub none_by_left : (a b : Zipped) → a.rows ≡ [] → a.broken ≢ [] → ((joined_table o l r s a b).rows ≡ []) × (is_empty (joined_table o l r s a b).broken ≡ false)
  none_by_left a b none broken =
      let e = some_is a.broken broken in (
        joined_rows a b ∙ ap (λ (x : Bool). shown_rows x (is_empty b.broken) (all a b) (front a b)) e ∙ no_left (is_empty b.broken) a b none,
        joined_whole a b ∙ ap (λ (x : Bool). x && is_empty b.broken) e,
      )

  pub none_by_right : (a b : Zipped) → b.broken ≢ [] → ((joined_table o l r s a b).rows ≡ []) × (is_empty (joined_table o l r s a b).broken ≡ false)
  none_by_right a b broken =
      let e = some_is b.broken broken in (
        joined_rows a b ∙ ap (λ (y : Bool). shown_rows (is_empty a.broken) y (all a b) (front a b)) e ∙ no_right (is_empty a.broken) (all a b) (front a b),
        joined_whole a b ∙ ap (λ (y : Bool). is_empty a.broken && y) e ∙ never (is_empty a.broken),
      )
    where
      never : (x : Bool) → (x && false) ≡ false
      never true = refl
      never false = refl
