-- A group-by's keys and aggregates are typed one after the other.
use Rattle.std.proofs.Common.{◌≡◌, ◌≢◌, List, [], ◌∷◌, ◌++◌, Bool, true, false, refl, sym, subst, ◌∙◌, ap, inl, inr, append_assoc}
use Rattle.std.specs.Prelude.{Contains, ◌&&◌, ◌||◌, IsTrue, Option, Some, None, option_map, is_some}
use Rattle.std.specs.List.{list_any}
use Rattle.std.specs.Str.{bytes_eq}
use Rattle.std.proofs.lemmas.Bool.{and_from, and_parts, or_cases, or_left, or_right}
use Rattle.std.proofs.lemmas.List.Folds.{list_any-append}
use Rattle.pu_base.specs.declared.arena.Node.{Node}
use Rattle.ps_frame.specs.Frames.{has_distinct_names}
use Rattle.ps_frame.specs.Functions.{Functions}
use Rattle.ps_frame.specs.Parts.{is_literal_aggregate, some_part, tree_parts}
use Rattle.ps_frame.specs.Refusals.{is_accepted}
use Rattle.ps_frame.specs.Tables.{Fields}
use Rattle.ps_frame.specs.Trees.{Tree}
use Rattle.ps_frame.specs.Typing.{kind_over}
use Rattle.ps_frame.specs.declared.refusal.PolarsError.{PolarsError}
use Rattle.ps_frame.specs.declared.refusal.PolarsError.TheVariants as error
use Rattle.ps_frame.specs.declared.value.DataType.{DataType}
use Rattle.ps_meaning.specs.StepRefusals.{break_rules, lacks_column, repeats}
use Rattle.ps_meaning.specs.Schemas.{both as both_of, expr_names, fields_of, is_among, names_of}
use Rattle.ps_meaning.specs.Steps.{GroupStep, Name, Named, exprs_of, group_by}
use Rattle.ps_typing.proofs.Parts.{AreAmong, among-left, among-right, carried}
use Rattle.ps_validate.proofs.Selecting.{both-some, breaks-none, holds-none, lacks-none, names-same, select-error}
use Rattle.ps_validate.proofs.Typed.{gives-by}
use Rattle.valid_plans.specs.Fields.{IsFieldError, all_parts, not_scalar}
use Rattle.ps_validate.specs.Nodes.{GivesSchema, IsNodeError}

pub exprs-append : (ks as' : List Named) → exprs_of (ks ++ as') ≡ exprs_of ks ++ exprs_of as'
exprs-append [] as' = refl
exprs-append (k ∷ ks) as' = ap (λ es. k.1 ∷ es) (exprs-append ks as')

names-append : (ks as' : List Named) → expr_names (ks ++ as') ≡ expr_names ks ++ expr_names as'
names-append [] as' = refl
names-append (k ∷ ks) as' = ap (λ ns. k.0 ∷ ns) (names-append ks as')

pub parts-append : (xs ys : List Tree) → all_parts (xs ++ ys) ≡ all_parts xs ++ all_parts ys
parts-append [] ys = refl
parts-append (x ∷ xs) ys = ap (λ ps. tree_parts x ++ ps) (parts-append xs ys) ∙ sym (append_assoc (tree_parts x) (all_parts xs) (all_parts ys))

-- the fields of keys and then of aggregates
fields-append : (s : Fields) (ks as' : List Named) (p q : Fields) → fields_of ks s ≡ Some p → option_map (λ fs. p ++ fs) (fields_of as' s) ≡ Some q → fields_of (ks ++ as') s ≡ Some q
fields-append s [] as' p q h k =
    let is : p ≡ [] = cc in plain (fields_of as' s) q (ap (λ (r : Fields). option_map (λ fs. r ++ fs) (fields_of as' s)) (sym is) ∙ k)
  where
    plain : (o : Option Fields) (q : Fields) → option_map (λ fs. [] ++ fs) o ≡ Some q → o ≡ Some q
    plain None q h = cc
    plain (Some fs) q h = h
fields-append s (e ∷ ks) as' p q h k =
    let f = both-some e.0 (kind_over s e.1) (fields_of ks s) p h in
    let g = later (fields_of as' s) (e.0, f.0) f.1 q (ap (λ (r : Fields). option_map (λ fs. r ++ fs) (fields_of as' s)) (sym f.4) ∙ k) in
    ap (λ o. both_of (λ (j : DataType) (fs : Fields). (e.0, j) ∷ fs) o (fields_of (ks ++ as') s)) f.2 ∙ ap (λ o. both_of (λ (j : DataType) (fs : Fields). (e.0, j) ∷ fs) (Some f.0) o) (fields-append s ks as' f.1 g.0 f.3 g.1) ∙ ap Some (sym g.2)
  where
    later : (o : Option Fields) (x : Name × DataType) (rest q : Fields) → option_map (λ fs. (x ∷ rest) ++ fs) o ≡ Some q → (r : Fields) × (option_map (λ fs. rest ++ fs) o ≡ Some r) × (q ≡ x ∷ r)
    later None x rest q h = cc
    later (Some fs) x rest q h = (rest ++ fs, refl, cc)

pub repeats-left : (n : Name) (ns ms : List Name) → repeats n ns ≡ true → repeats n (ns ++ ms) ≡ true
repeats-left n [] ms h = cc
repeats-left n (x ∷ ns) ms h =
    wider (bytes_eq n x) (is_among n ns) (is_among n (ns ++ ms)) (repeats n ns) (repeats n (ns ++ ms)) h (λ p. list_any-append (bytes_eq n) ns ms ∙ or_left (is_among n ns) (is_among n ms) p) (λ p. repeats-left n ns ms p)
  where
    wider : (a b c d e : Bool) → ((a && b) || d) ≡ true → (b ≡ true → c ≡ true) → (d ≡ true → e ≡ true) → ((a && c) || e) ≡ true
    wider a b c d e h p q = elim (or_cases (a && b) d h) [ inl x ↦ (let y = and_parts a b x in or_left (a && c) e (and_from a c y.0 (p y.1))) | inr x ↦ or_right (a && c) e (q x) ]

-- an error of the keys, or of the aggregates, is one of both
module _ (at : Node) (s : Fields) (ks as' : List Named) where
  whole-parts : all_parts (exprs_of ks) ++ all_parts (exprs_of as') ≡ all_parts (exprs_of (ks ++ as'))
  whole-parts = sym (parts-append (exprs_of ks) (exprs_of as')) ∙ ap all_parts (sym (exprs-append ks as'))

  among-keys : AreAmong (all_parts (exprs_of ks)) (all_parts (exprs_of (ks ++ as')))
  among-keys = subst (λ ts. AreAmong (all_parts (exprs_of ks)) ts) whole-parts (among-left (all_parts (exprs_of ks)) (all_parts (exprs_of as')))

  among-aggregates : AreAmong (all_parts (exprs_of as')) (all_parts (exprs_of (ks ++ as')))
  among-aggregates = subst (λ ts. AreAmong (all_parts (exprs_of as')) ts) whole-parts (among-right (all_parts (exprs_of ks)) (all_parts (exprs_of as')))

  moved : (us : List Tree) (e : PolarsError) (names : List Name) (es : List Named) → us ≡ all_parts (exprs_of es) → AreAmong us (all_parts (exprs_of (ks ++ as'))) → ((n : Name) → repeats n (names ++ expr_names es) ≡ true → repeats n (expr_names (ks ++ as')) ≡ true) → IsFieldError at s names es e → IsFieldError at s [] (ks ++ as') e
  moved us (error.ColumnNotFound node name) names es same a r h = carried at s (all_parts (exprs_of es)) (all_parts (exprs_of (ks ++ as'))) (error.ColumnNotFound node name) (subst (λ us. AreAmong us (all_parts (exprs_of (ks ++ as')))) same a) h
  moved us (error.SchemaMismatch node) names es same a r h = carried at s (all_parts (exprs_of es)) (all_parts (exprs_of (ks ++ as'))) (error.SchemaMismatch node) (subst (λ us. AreAmong us (all_parts (exprs_of (ks ++ as')))) same a) h
  moved us (error.Unsupported node w) names es same a r h = carried at s (all_parts (exprs_of es)) (all_parts (exprs_of (ks ++ as'))) (error.Unsupported node w) (subst (λ us. AreAmong us (all_parts (exprs_of (ks ++ as')))) same a) h
  moved us (error.Duplicate node name) names es same a r h = (h.0, r name h.1)
  moved us error.OutOfMemory names es same a r h = h
  moved us (error.InvalidPlan node why) names es same a r h = h
  moved us (error.ComputeError node why) names es same a r h = h
  moved us (error.ShapeMismatch node) names es same a r h = h
  moved us (error.OutOfBounds node why) names es same a r h = h

  pub keys-error : (e : PolarsError) (names : List Name) → names ≡ [] → IsFieldError at s names ks e → IsFieldError at s [] (ks ++ as') e
  keys-error e names none h =
      moved (all_parts (exprs_of ks)) e [] ks refl among-keys (λ n p. ap (repeats n) (names-append ks as') ∙ repeats-left n (expr_names ks) (expr_names as') p) (subst (λ ns. IsFieldError at s ns ks e) none h)

  pub aggregates-error : (e : PolarsError) (names : List Name) → names ≡ expr_names ks → IsFieldError at s names as' e → IsFieldError at s [] (ks ++ as') e
  aggregates-error e names same h =
      moved (all_parts (exprs_of as')) e (expr_names ks) as' refl among-aggregates (λ n p. ap (repeats n) (names-append ks as') ∙ p) (subst (λ ns. IsFieldError at s ns as' e) same h)

-- what a select of both would be refused for, the group-by is
module _ (F : Functions) (at : Node) (s : Fields) (o : GroupStep) where
  pub group-error : (e : PolarsError) → IsFieldError at s [] (o.keys ++ o.aggregates) e → IsNodeError F at (group_by o) (s ∷ []) e
  group-error (error.ColumnNotFound node name) h =
      let p = select-error F at s (o.keys ++ o.aggregates) (error.ColumnNotFound node name) h in (p.0, subst (λ es. lacks_column name s es ≡ true) (exprs-append o.keys o.aggregates) p.1)
  group-error (error.Duplicate node name) h = (h.0, inr h.1)
  group-error (error.SchemaMismatch node) h =
      let p = select-error F at s (o.keys ++ o.aggregates) (error.SchemaMismatch node) h in
      elim p.1 [ inl x ↦ absurd x | inr x ↦ (p.0, inr (subst (λ es. break_rules s es ≡ true) (exprs-append o.keys o.aggregates) x)) ]
  group-error (error.Unsupported node w) h = (h.0, inr (subst (λ es. Contains (all_parts es) (Tree.left_out w)) (exprs-append o.keys o.aggregates) h.1))
  group-error error.OutOfMemory h = h
  group-error (error.InvalidPlan node why) h = h
  group-error (error.ComputeError node why) h = h
  group-error (error.ShapeMismatch node) h = h
  group-error (error.OutOfBounds node why) h = h

  -- typed keys and aggregates with names that differ, of which the aggregates are scalar and none is of a literal
  pub group-gives : (fs : Fields) → ((t : Tree) → is_some (kind_over s t) ≡ is_accepted s t) → fields_of (o.keys ++ o.aggregates) s ≡ Some fs → IsTrue (has_distinct_names fs) → fs ≢ [] → list_any not_scalar (exprs_of o.aggregates) ≡ false → list_any (some_part is_literal_aggregate) (exprs_of o.aggregates) ≡ false
      → GivesSchema F (group_by o) (s ∷ []) fs
  group-gives fs exact h d some scalar literal =
      let es : List Named = o.keys ++ o.aggregates in
      let split : exprs_of es ≡ exprs_of o.keys ++ exprs_of o.aggregates = exprs-append o.keys o.aggregates in
      gives-by F (group_by o) (s ∷ []) fs (record { schema = h; names = sym (names-same s es fs h); distinct = d; some = some })
      (λ n r. lacks-none s exact es fs n h (subst (λ ts. lacks_column n s ts ≡ true) (sym split) r)) (λ n r. r) (λ r. let q : false ≡ true = sym scalar ∙ r in cc)
      (λ r. breaks-none s exact es fs h (subst (λ ts. break_rules s ts ≡ true) (sym split) r)) (λ r. let q : false ≡ true = sym literal ∙ r in cc)
      (λ w c. holds-none s exact es fs h w (subst (λ ts. Contains (all_parts ts) (Tree.left_out w)) (sym split) c))

pub keys-fields : (z s p : Fields) (ks : List Named) → z ≡ [] → option_map (λ fs. z ++ fs) (fields_of ks s) ≡ Some p → fields_of ks s ≡ Some p
keys-fields z s p ks none h = plain (fields_of ks s) p (ap (λ (r : Fields). option_map (λ fs. r ++ fs) (fields_of ks s)) (sym none) ∙ h)
  where
    plain : (o : Option Fields) (q : Fields) → option_map (λ fs. [] ++ fs) o ≡ Some q → o ≡ Some q
    plain None q h = cc
    plain (Some fs) q h = h

-- the names of the keys' fields
pub keys-names : (z s p : Fields) (ks : List Named) → z ≡ [] → option_map (λ fs. z ++ fs) (fields_of ks s) ≡ Some p → names_of p ≡ expr_names ks
keys-names z s p ks none h = names-same s ks p (keys-fields z s p ks none h)

-- the fields of both
pub both-fields : (z s p q : Fields) (ks as' : List Named) → z ≡ [] → option_map (λ fs. z ++ fs) (fields_of ks s) ≡ Some p → option_map (λ fs. p ++ fs) (fields_of as' s) ≡ Some q → fields_of (ks ++ as') s ≡ Some q
both-fields z s p q ks as' none h k = fields-append s ks as' p q (keys-fields z s p ks none h) k
