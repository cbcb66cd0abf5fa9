-- A join's keys have the same kinds in pairs, and its columns are those of both sides.
use Rattle.std.proofs.Common.{◌≡◌, ◌≢◌, List, [], ◌∷◌, ◌++◌, length, Bool, true, false, refl, sym, subst, ◌∙◌, ap, inl, inr, arith}
use Rattle.std.specs.Prelude.{Contains, map, not, zip, ◌||◌, ◌⊎◌, IsTrue, Some, is_some}
use Rattle.std.specs.List.{list_any}
use Rattle.std.proofs.lemmas.Bool.{or_cases, or_left, or_right}
use Rattle.std.proofs.lemmas.List.Elements.{Contains-append_cases, Contains-append_left, Contains-append_right}
use Rattle.pu_base.specs.declared.arena.Node.{Node}
use Rattle.ps_frame.specs.Frames.{has_distinct_names}
use Rattle.ps_frame.specs.Functions.{Functions}
use Rattle.ps_frame.specs.Refusals.{is_accepted, refuses_pair}
use Rattle.ps_frame.specs.Tables.{Fields}
use Rattle.ps_frame.specs.Trees.{Tree}
use Rattle.ps_frame.specs.Typing.{kind_over}
use Rattle.ps_frame.specs.Values.{same_kind}
use Rattle.ps_frame.specs.declared.refusal.PolarsError.{PolarsError}
use Rattle.ps_frame.specs.declared.refusal.PolarsError.TheVariants as error
use Rattle.ps_frame.specs.declared.value.DataType.{DataType}
use Rattle.ps_frame.specs.declared.value.DataType.TheVariants as kind
use Rattle.ps_meaning.specs.StepRefusals.{break_rules, lacks_column, pairs_differ}
use Rattle.ps_meaning.specs.Schemas.{join_schema, left_output, names_of, right_output, suffix_of, suffixed}
use Rattle.ps_meaning.specs.Steps.{JoinStep, Name, join}
use Rattle.ps_typing.specs.Refused.{IsErrorAmong}
use Rattle.ps_validate.proofs.Grouping.{parts-append}
use Rattle.ps_validate.proofs.Keying.{among-error, keys-break, keys-hold, keys-lack}
use Rattle.ps_validate.proofs.Typed.{gives-by, repeat-error}
use Rattle.ps_validate.specs.Columns.{IsRepeatError}
use Rattle.valid_plans.specs.Fields.{all_parts}
use Rattle.ps_validate.specs.Nodes.{GivesSchema, IsNodeError}

same-self : (k : DataType) → same_kind k k ≡ true
same-self kind.Boolean = refl
same-self kind.Int64 = refl
same-self kind.IdxSize = refl
same-self kind.String = refl

same-is : (j k : DataType) → same_kind j k ≡ true → j ≡ k
same-is kind.Boolean kind.Boolean h = refl
same-is kind.Boolean kind.Int64 h = cc
same-is kind.Boolean kind.IdxSize h = cc
same-is kind.Boolean kind.String h = cc
same-is kind.Int64 kind.Boolean h = cc
same-is kind.Int64 kind.Int64 h = refl
same-is kind.Int64 kind.IdxSize h = cc
same-is kind.Int64 kind.String h = cc
same-is kind.IdxSize kind.Boolean h = cc
same-is kind.IdxSize kind.Int64 h = cc
same-is kind.IdxSize kind.IdxSize h = refl
same-is kind.IdxSize kind.String h = cc
same-is kind.String kind.Boolean h = cc
same-is kind.String kind.Int64 h = cc
same-is kind.String kind.IdxSize h = cc
same-is kind.String kind.String h = refl

-- keys of these kinds in pairs
module _ (l r : Fields) where
  abbrev pair_differs : Tree × Tree → Bool
  pair_differs p = refuses_pair same_kind (kind_over l p.0) (kind_over r p.1)

  pub pairs-same : (as' bs : List Tree) (js ks : List DataType) → map Some js ≡ map (kind_over l) as' → map Some ks ≡ map (kind_over r) bs → js ≡ ks → pairs_differ l r as' bs ≡ true → ⊥
  pairs-same [] bs js ks h g same d = cc
  pairs-same (a ∷ as') [] js ks h g same d = cc
  pairs-same (a ∷ as') (b ∷ bs) [] ks h g same d = cc
  pairs-same (a ∷ as') (b ∷ bs) (j ∷ js) [] h g same d = cc
  pairs-same (a ∷ as') (b ∷ bs) (j ∷ js) (k ∷ ks) h g same d =
      let left : kind_over l a ≡ Some j = cc in
      let right : kind_over r b ≡ Some k = cc in
      let more : map Some js ≡ map (kind_over l) as' = cc in
      let others : map Some ks ≡ map (kind_over r) bs = cc in
      let here : j ≡ k = cc in
      let later : js ≡ ks = cc in
      elim (or_cases (pair_differs (a, b)) (list_any pair_differs (zip as' bs)) d) [
        | inl x ↦ (let q : not (same_kind j k) ≡ true = sym (ap (λ o. refuses_pair same_kind o (kind_over r b)) left ∙ ap (λ o. refuses_pair same_kind (Some j) o) right) ∙ x in
            let y : not true ≡ true = ap not (sym (same-self k) ∙ ap (λ i. same_kind i k) (sym here)) ∙ q in cc)
        | inr x ↦ pairs-same as' bs js ks more others later x
      ]

  pub pairs-other : (as' bs : List Tree) (js ks : List DataType) → length as' ≡ length bs → map Some js ≡ map (kind_over l) as' → map Some ks ≡ map (kind_over r) bs → js ≢ ks → pairs_differ l r as' bs ≡ true
  pairs-other [] [] [] [] n h g ne = absurd (ne refl)
  pairs-other [] [] (j ∷ js) ks n h g ne = cc
  pairs-other [] [] [] (k ∷ ks) n h g ne = cc
  pairs-other [] (b ∷ bs) js ks n h g ne = absurd (omega arith)
  pairs-other (a ∷ as') [] js ks n h g ne = absurd (omega arith)
  pairs-other (a ∷ as') (b ∷ bs) [] ks n h g ne = cc
  pairs-other (a ∷ as') (b ∷ bs) (j ∷ js) [] n h g ne = cc
  pairs-other (a ∷ as') (b ∷ bs) (j ∷ js) (k ∷ ks) n h g ne =
      let left : kind_over l a ≡ Some j = cc in
      let right : kind_over r b ≡ Some k = cc in
      let more : map Some js ≡ map (kind_over l) as' = cc in
      let others : map Some ks ≡ map (kind_over r) bs = cc in
      let is : pair_differs (a, b) ≡ not (same_kind j k) = ap (λ o. refuses_pair same_kind o (kind_over r b)) left ∙ ap (λ o. refuses_pair same_kind (Some j) o) right in
      by (same_kind j k) refl is (λ d. pairs-other as' bs js ks (omega (arith, n)) more others d)
    where
      by : (c : Bool) → same_kind j k ≡ c → pair_differs (a, b) ≡ not (same_kind j k) → (js ≢ ks → list_any pair_differs (zip as' bs) ≡ true) → (pair_differs (a, b) || list_any pair_differs (zip as' bs)) ≡ true
      by true e is deeper = or_right (pair_differs (a, b)) (list_any pair_differs (zip as' bs)) (deeper (λ q. ne (ap (λ i. i ∷ js) (same-is j k e) ∙ ap (λ is. k ∷ is) q)))
      by false e is deeper = or_left (pair_differs (a, b)) (list_any pair_differs (zip as' bs)) (is ∙ ap not e)

one-of : (a b c : Bool) → (a ≡ true) ⊎ ((b ≡ true) ⊎ (c ≡ true)) → ((a || b) || c) ≡ true
one-of a b c (inl h) = or_left (a || b) c (or_left a b h)
one-of a b c (inr (inl h)) = or_left (a || b) c (or_right a b h)
one-of a b c (inr (inr h)) = or_right (a || b) c h

which-of : (a b c : Bool) → ((a || b) || c) ≡ true → (a ≡ true → ⊥) → (b ≡ true → ⊥) → (c ≡ true → ⊥) → ⊥
which-of a b c h p q r = elim (or_cases (a || b) c h) [ inl x ↦ elim (or_cases a b x) [ inl y ↦ p y | inr y ↦ q y ] | inr x ↦ r x ]

module _ (F : Functions) (at : Node) (l r : Fields) (o : JoinStep) where
  -- what the left keys are refused for, and what the right ones are
  pub left-error : (e : PolarsError) → IsErrorAmong at l (all_parts o.left_on) e → IsNodeError F at (join o) (l ∷ r ∷ []) e
  left-error e h =
      among-error F at (join o) (l ∷ r ∷ []) l o.left_on e h (λ n q. or_left (lacks_column n l o.left_on) (lacks_column n r o.right_on) q)
      (λ b. inl (one-of (break_rules l o.left_on) (break_rules r o.right_on) (pairs_differ l r o.left_on o.right_on) (inl b)))
      (λ w c. subst (λ ts. Contains ts (Tree.left_out w)) (sym (parts-append o.left_on o.right_on)) (Contains-append_left (all_parts o.left_on) (all_parts o.right_on) (Tree.left_out w) c))

  pub right-error : (e : PolarsError) → IsErrorAmong at r (all_parts o.right_on) e → IsNodeError F at (join o) (l ∷ r ∷ []) e
  right-error e h =
      among-error F at (join o) (l ∷ r ∷ []) r o.right_on e h (λ n q. or_right (lacks_column n l o.left_on) (lacks_column n r o.right_on) q)
      (λ b. inl (one-of (break_rules l o.left_on) (break_rules r o.right_on) (pairs_differ l r o.left_on o.right_on) (inr (inl b))))
      (λ w c. subst (λ ts. Contains ts (Tree.left_out w)) (sym (parts-append o.left_on o.right_on)) (Contains-append_right (all_parts o.left_on) (all_parts o.right_on) (Tree.left_out w) c))

  -- the kinds of paired keys differ
  pub pair-error : (js ks : List DataType) → length o.left_on ≡ length o.right_on → map Some js ≡ map (kind_over l) o.left_on → map Some ks ≡ map (kind_over r) o.right_on → js ≢ ks → IsNodeError F at (join o) (l ∷ r ∷ []) (error.SchemaMismatch at)
  pair-error js ks n h g ne = (refl, inl (one-of (break_rules l o.left_on) (break_rules r o.right_on) (pairs_differ l r o.left_on o.right_on) (inr (inr (pairs-other l r o.left_on o.right_on js ks n h g ne)))))

  -- the columns of both sides
  module _ (left added : Fields) (is_left : left ≡ left_output o l) (is_right : added ≡ right_output o r) (suffix : Name) (taken : Fields) (is_suffix : suffix ≡ suffix_of o) (is_taken : taken ≡ left) where
    pub both-columns : left ++ suffixed suffix (names_of taken) added ≡ join_schema o l r
    both-columns =
        ap (λ x. left ++ suffixed x (names_of taken) added) is_suffix ∙ ap (λ fs. left ++ suffixed (suffix_of o) (names_of fs) added) is_taken ∙ ap (λ fs. fs ++ suffixed (suffix_of o) (names_of fs) added) is_left
        ∙ ap (λ fs. left_output o l ++ suffixed (suffix_of o) (names_of (left_output o l)) fs) is_right

    pub column-error : (e : PolarsError) → IsRepeatError at (names_of (left ++ suffixed suffix (names_of taken) added)) e → IsNodeError F at (join o) (l ∷ r ∷ []) e
    column-error e h = repeat-error F (join o) (l ∷ r ∷ []) left at e (names_of (join_schema o l r)) refl (subst (λ fs. IsRepeatError at (names_of fs) e) both-columns h)

    pub join-gives : (then : Fields) (js ks : List DataType) → ((t : Tree) → is_some (kind_over l t) ≡ is_accepted l t) → ((t : Tree) → is_some (kind_over r t) ≡ is_accepted r t) → map Some js ≡ map (kind_over l) o.left_on → map Some ks ≡ map (kind_over r) o.right_on → js ≡ ks
        → then ≡ left ++ suffixed suffix (names_of taken) added → IsTrue (has_distinct_names then) → then ≢ [] → GivesSchema F (join o) (l ∷ r ∷ []) then
    join-gives then js ks exact_left exact_right h g same is d some =
        gives-by F (join o) (l ∷ r ∷ []) then (record { schema = ap Some (sym (is ∙ both-columns)); names = ap names_of (sym (is ∙ both-columns)); distinct = d; some = some })
        (λ n q. elim (or_cases (lacks_column n l o.left_on) (lacks_column n r o.right_on) q) [ inl x ↦ keys-lack l exact_left o.left_on js n h x | inr x ↦ keys-lack r exact_right o.right_on ks n g x ]) (λ n q. q)
        (λ q. which-of (break_rules l o.left_on) (break_rules r o.right_on) (pairs_differ l r o.left_on o.right_on) q (λ x. keys-break l exact_left o.left_on js h x) (λ x. keys-break r exact_right o.right_on ks g x) (λ x. pairs-same l r o.left_on o.right_on js ks h g same x))
        (λ q. let x : false ≡ true = q in cc) (λ q. q)
        (λ w c. elim (Contains-append_cases (all_parts o.left_on) (all_parts o.right_on) (Tree.left_out w) (subst (λ ts. Contains ts (Tree.left_out w)) (parts-append o.left_on o.right_on) c)) [ inl x ↦ keys-hold l exact_left o.left_on js h w x | inr x ↦ keys-hold r exact_right o.right_on ks g w x ])
