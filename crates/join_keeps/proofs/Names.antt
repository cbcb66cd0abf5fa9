-- The names that a call for keys beside all columns shows.
use Rattle.std.proofs.Common.{◌≡◌, ◌≢◌, ◌⊎◌, inl, inr, ℕ, ◌≤◌, ◌^◌, true, List, [], ◌∷◌, ◌++◌, sym, ap, subst, ◌∙◌}
use Rattle.std.specs.Prelude.{is_some}
use Rattle.ps_frame.specs.Functions.{Functions}
use Rattle.ps_frame.specs.Tables.{Fields, Table, field_kind}
use Rattle.ps_frame.specs.Trees.{Tree}
use Rattle.ps_meaning.specs.Schemas.{bare_names, is_among, names_of}
use Rattle.ps_meaning.specs.Steps.{Name}
use Rattle.ps_rules.specs.Calls.{Answer}
use Rattle.ps_rules.specs.Lowered.{lower_exprs}
use Rattle.ps_rules.specs.Names.{IsKnown, Names}
use Rattle.ps_rules.specs.Slots.{State, Stream, schema_at, schema_or_none}
use Rattle.ps_shares.specs.Kept.{IsReady}
use Rattle.ps_shares.proofs.Adding.{calls_add}
use Rattle.ps_shares.proofs.Projected.{kind_as, named_as}
use Rattle.ps_shares.proofs.Stands.{among_known}
use Rattle.plan_rules.specs.Groups.{columns_over}
use Rattle.step_keeps.proofs.ByCell.{columns_read, some_later}
use Rattle.keyed_calls.specs.Keyed.{KeyedAlike}
use Rattle.keyed_calls.proofs.Alike.{of_named}
use Rattle.keyed_calls.proofs.Calls.{keys_before}
use Rattle.rule_parts.proofs.Sides.{Carries, carried_bare, carries_first}
use Rattle.answered_names.specs.Answers.{AreSameColumns}
use Rattle.answered_names.proofs.Columns.{columns_alone}
use Rattle.answered_names.proofs.Shown.{calls_shown}
use Rattle.join_keeps.proofs.Sides.{Shows}

forth : (names : Names) (es xs : List Tree) → AreSameColumns names es xs → Carries (IsKnown names) es xs
forth names [] [] h = tt
forth names [] (x ∷ xs) h = absurd h
forth names (e ∷ es) [] h = absurd h
forth names (e ∷ es) (x ∷ xs) h = ((λ n k q. (h.0 n k).0 q), forth names es xs h.1)

back : (names : Names) (es xs : List Tree) → AreSameColumns names es xs → Carries (IsKnown names) xs es
back names [] [] h = tt
back names [] (x ∷ xs) h = absurd h
back names (e ∷ es) [] h = absurd h
back names (e ∷ es) (x ∷ xs) h = ((λ n k q. (h.0 n k).1 q), back names es xs h.1)

module _ (F : Functions) (at : ℕ) (i : Stream) (s : State) (keys : List Tree) (some : schema_at s.nodes i ≢ []) (ready : IsReady s i (keys ++ columns_over i s)) (low : (lower_exprs at i (keys ++ columns_over i s) s).state.names.next ≤ 2 ^ 64) where
  abbrev es : List Tree
  es = keys ++ columns_over i s

  abbrev call : Answer
  call = lower_exprs at i es s

  abbrev f : Fields
  f = schema_at s.nodes i

  abbrev z : Fields
  z = schema_at call.state.nodes call.stream

  abbrev xs : List Tree
  xs = (keys_before F at i s keys some ready).0

  -- the input's names are known
  pub input_known : (n : Name) → is_among n (names_of f) ≡ true → IsKnown s.names n
  input_known n q =
      let e : f ≡ ready.node.schema = ap schema_or_none ready.there in
      among_known n (names_of ready.node.schema) s.names ready.known (ap (λ (g : Fields). is_among n (names_of g)) (sym e) ∙ q)

  -- and those of the stream are known then
  pub stream_known : (n : Name) → is_among n (names_of z) ≡ true → IsKnown call.state.names n
  stream_known n q =
      let known = (calls_add.exprs at i s es ready).known in
      elim (calls_shown F at i s es ready low n q) [ inl p ↦ known n (input_known n p) | inr p ↦ p.1 ]

  -- the others are new
  pub stream_cases : (n : Name) → is_among n (names_of z) ≡ true → (is_among n (names_of f) ≡ true) ⊎ (IsKnown s.names n → ⊥)
  stream_cases n q = elim (calls_shown F at i s es ready low n q) [ inl p ↦ inl p | inr p ↦ inr (λ k. p.0 k) ]

  same : AreSameColumns s.names es (xs ++ columns_over i s)
  same =
      subst (AreSameColumns s.names es) (keys_before F at i s keys some ready).1
      (columns_alone at i s es ready (some_later keys (columns_over i s) (columns_read f some)) low)

  pub carries_forth : Carries (IsKnown s.names) keys xs
  carries_forth = carries_first (IsKnown s.names) keys xs (columns_over i s) (columns_over i s) (sym (keys_before F at i s keys some ready).2) (forth s.names es (xs ++ columns_over i s) same)

  pub carries_back : Carries (IsKnown s.names) xs keys
  carries_back = carries_first (IsKnown s.names) xs keys (columns_over i s) (columns_over i s) (keys_before F at i s keys some ready).2 (back s.names es (xs ++ columns_over i s) same)

  -- what the stream's table shows, where so much was known before
  module _ (T Z : Table) (own : f ≡ T.schema) (is : Z.schema ≡ z) (alike : KeyedAlike at (names_of f) keys xs T Z) (Before : Name → Type 0) (still : (n : Name) → Before n → IsKnown s.names n) (known : (n : Name) → is_among n (names_of f) ≡ true → Before n) where
    new_there : (n : Name) → is_among n (names_of f) ≡ true → is_among n (names_of Z.schema) ≡ true
    new_there n q =
        let has : is_some (field_kind n f) ≡ true = kind_as n f ∙ sym (named_as n f) ∙ q in
        let kinds : field_kind n Z.schema ≡ field_kind n T.schema = of_named (λ n. field_kind n Z.schema ≡ field_kind n T.schema) f n has alike.same_kinds in
        named_as n Z.schema ∙ sym (kind_as n Z.schema) ∙ ap is_some (kinds ∙ ap (field_kind n) (sym own)) ∙ has

    in_stream : (n : Name) → is_among n (names_of Z.schema) ≡ true → is_among n (names_of z) ≡ true
    in_stream n q = ap (λ (g : Fields). is_among n (names_of g)) (sym is) ∙ q

    pub shows : Shows Before (bare_names keys) (bare_names xs) T.schema Z.schema
    shows =
        record {
          known = λ n q. known n (of_f n q);
          new = λ n q. new_there n (of_f n q);
          old = λ n q k. elim (stream_cases n (in_stream n q)) [ inl p ↦ to_f n p | inr never ↦ absurd (never (still n k)) ];
          kept = λ n k q. carried_bare (IsKnown s.names) keys xs n carries_forth (still n k) q;
          back = λ n k q. carried_bare (IsKnown s.names) xs keys n carries_back (still n k) q;
        }
      where
        of_f : (n : Name) → is_among n (names_of T.schema) ≡ true → is_among n (names_of f) ≡ true
        of_f n q = ap (λ (g : Fields). is_among n (names_of g)) own ∙ q

        to_f : (n : Name) → is_among n (names_of f) ≡ true → is_among n (names_of T.schema) ≡ true
        to_f n q = ap (λ (g : Fields). is_among n (names_of g)) (sym own) ∙ q

    pub shown_known : (n : Name) → is_among n (names_of Z.schema) ≡ true → IsKnown call.state.names n
    shown_known n q = stream_known n (in_stream n q)

    pub shown_cases : (n : Name) → is_among n (names_of Z.schema) ≡ true → (is_among n (names_of T.schema) ≡ true) ⊎ (IsKnown s.names n → ⊥)
    shown_cases n q = elim (stream_cases n (in_stream n q)) [ inl p ↦ inl (ap (λ (g : Fields). is_among n (names_of g)) (sym own) ∙ p) | inr never ↦ inr never ]
