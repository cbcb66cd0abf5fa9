-- What a good step tells of its schema, and the nodes that hand their input on.
use Rattle.std.proofs.Common.{◌≡◌, ◌≢◌, inl, inr, ℕ, zero, suc, ◌≤◌, ℤ, pos, negsuc, Bool, true, false, not, List, [], ◌∷◌, ◌++◌, length, Some, None, refl, sym, ap, ◌∙◌, arith}
use Rattle.std.specs.Prelude.{◌&&◌, Option, is_some, slice_get, unwrap_or, option_map}
use Rattle.std.specs.Cmp.Lexicographic.{bytes_decides}
use Rattle.std.specs.List.{AllByRecursion}
use Rattle.std.specs.Str.{bytes_eq}
use Rattle.std.proofs.lemmas.List.{map-append}
use Rattle.ps_frame.proofs.Lists.{and_both}
use Rattle.ps_frame.specs.Frames.{has_distinct_names, has_name}
use Rattle.ps_frame.specs.Functions.{Functions}
use Rattle.ps_frame.specs.Tables.{Fields, field_kind}
use Rattle.ps_frame.specs.declared.expr.What.TheVariants as what
use Rattle.ps_frame.specs.declared.value.DataType.{DataType}
use Rattle.ps_meaning.proofs.Begins.{or-left, or-right}
use Rattle.ps_meaning.specs.Schemas.{both as both_of, fields_of, first_schema, is_among, named_fields, names_of, output_schema, put_fields, schema_or_empty}
use Rattle.ps_meaning.specs.Shape.{negative_slice, streaming_slice}
use Rattle.ps_meaning.specs.Sound.{BreaksNoRule, IsSoundButForReaders, have_all_kinds}
use Rattle.ps_meaning.specs.StepRefusals.{Refusal, TypingRefused, column_not_found, duplicate, lacks_name, schema_mismatch, unsupported}
use Rattle.ps_meaning.specs.Steps.{Cut, Name, Named, Step, cache, distinct, exprs_of, filter, group_by, hconcat, hstack, join, left_out, project, row_index, scan, select, sink, slice, sort, union, user}
use Rattle.ps_rules.specs.Slots.{State, Stream}
use Rattle.ps_shares.proofs.Projected.{kind_as, named_as}
use Rattle.name_rules.proofs.Ruling.{typed_fields}
use Rattle.name_rules.proofs.Times.{distinct_once, once_never}
use Rattle.plan_rules.specs.Slices.{cut_stream, slice_stream}
use Rattle.rule_parts.specs.Good.{IsGoodStep, IsStream}
use Rattle.rule_parts.proofs.Standing.{Makes, makes_none, same_makes, sound_distinct, sound_some}

is_there : (o : Option Fields) → is_some o ≡ true → o ≡ Some (unwrap_or o [])
is_there None h = cc
is_there (Some f) h = refl

not_none : (o : Option Fields) → o ≢ None → o ≡ Some (unwrap_or o [])
not_none None h = absurd (h refl)
not_none (Some f) h = refl

of_some : (o : Option Fields) (g : Fields → Fields) (f : Fields) → o ≡ Some f → option_map g o ≡ Some (unwrap_or (option_map g o) [])
of_some None g f h = cc
of_some (Some x) g f h = refl

-- names that a schema has
pub stands : (n : Name) (s : Fields) (b : Bool) → b ≡ true → ((b && not (has_name n s)) ≡ true → ⊥) → is_among n (names_of s) ≡ true
stands n s b q h = named_as n s ∙ by (has_name n s) refl
  where
    by : (c : Bool) → has_name n s ≡ c → has_name n s ≡ true
    by true r = r
    by false r = absurd (h (and_both b (not (has_name n s)) q (ap not r)))

pub all_stand : (ns : List Name) (s : Fields) → ((n : Name) → lacks_name n s ns ≡ true → ⊥) → AllByRecursion (λ n. is_among n (names_of s) ≡ true) ns
all_stand ns s h = each ns (λ n k. k)
  where
    each : (ms : List Name) → ((n : Name) → is_among n ms ≡ true → is_among n ns ≡ true) → AllByRecursion (λ n. is_among n (names_of s) ≡ true) ms
    each [] inside = tt
    each (m ∷ ms) inside = (stands m s (is_among m ns) (inside m (or-left (bytes_eq m m) (is_among m ms) ((bytes_decides m m).1 refl))) (h m), each ms (λ n k. inside n (or-right (bytes_eq n m) (is_among n ms) k)))

-- so they are found
found_there : (ns : List Name) (s : Fields) → AllByRecursion (λ n. is_among n (names_of s) ≡ true) ns → is_some (named_fields ns s) ≡ true
found_there [] s all = refl
found_there (n ∷ ns) s all = by (field_kind n s) (named_fields ns s) (kind_as n s ∙ sym (named_as n s) ∙ all.0) (found_there ns s all.1)
  where
    by : (o : Option DataType) (r : Option Fields) → is_some o ≡ true → is_some r ≡ true → is_some (both_of (λ (k : DataType) (fs : Fields). (n, k) ∷ fs) o r) ≡ true
    by (Some k) (Some fs) p q = refl
    by (Some k) None p q = let no : false ≡ true = q in cc
    by None r p q = let no : false ≡ true = p in cc

named_there : (ns : List Name) (s : Fields) → ((n : Name) → lacks_name n s ns ≡ true → ⊥) → named_fields ns s ≡ Some (unwrap_or (named_fields ns s) [])
named_there ns s h = is_there (named_fields ns s) (found_there ns s (all_stand ns s h))

pub both_exprs : (xs ys : List Named) → exprs_of (xs ++ ys) ≡ exprs_of xs ++ exprs_of ys
both_exprs xs ys = map-append (λ (e : Named). e.1) xs ys

first_there : (ss : List Fields) → 1 ≤ length ss → slice_get ss 0 ≡ Some (unwrap_or (slice_get ss 0) [])
first_there [] h = absurd (omega arith)
first_there (s ∷ ss) h = refl

pub cut_names : (at : ℕ) (cut : Cut) (i : Stream) (s : State) → (cut_stream at cut i s).state.names ≡ s.names
cut_names at None i s = refl
cut_names at (Some cut) i s = refl

module _ (F : Functions) where
  pub good_rules : (step : Step) (ss : List Fields) → IsGoodStep F step ss → BreaksNoRule F step ss
  good_rules step ss h = (h.keys, h.key, h.unvalidated, h.typed.rules)

  -- a good step has a schema, which has a column
  pub good_there : (step : Step) (ss : List Fields) → IsGoodStep F step ss → output_schema F step ss ≡ Some (schema_or_empty F step ss)
  good_there (scan t None) ss h = refl
  good_there (scan t (Some ns)) ss h = named_there ns t.schema (λ n k. h.typed.rules (column_not_found n) k)
  good_there (project ns) ss h = named_there ns (first_schema ss) (λ n k. h.typed.rules (column_not_found n) k)
  good_there (select es) ss h = typed_fields (first_schema ss) es h.typed.kinds
  good_there (hstack es) ss h = of_some (fields_of es (first_schema ss)) (put_fields (first_schema ss)) (unwrap_or (fields_of es (first_schema ss)) []) (typed_fields (first_schema ss) es h.typed.kinds)
  good_there (filter e) ss h = refl
  good_there (slice offset n) ss h = refl
  good_there (sink payload) ss h = refl
  good_there (row_index name offset) ss h = refl
  good_there (user n) ss h = not_none (F.declared n (first_schema ss)) (λ q. h.typed.rules schema_mismatch (inl q))
  good_there (sort o) ss h = refl
  good_there (union cut) ss h = first_there ss h.inputs
  good_there hconcat ss h = refl
  good_there (cache id) ss h = refl
  good_there (group_by o) ss h = typed_fields (first_schema ss) (o.keys ++ o.aggregates) (ap (have_all_kinds (first_schema ss)) (both_exprs o.keys o.aggregates) ∙ h.typed.kinds)
  good_there (join o) ss h = refl
  good_there (distinct o) ss h = refl
  good_there (left_out what) ss h = absurd h.inputs

  pub good_some : (step : Step) (ss : List Fields) → IsGoodStep F step ss → schema_or_empty F step ss ≢ []
  good_some step ss h e = h.typed.rules (unsupported what.NoColumns) (good_there step ss h ∙ ap (λ s. Some s) e)

  -- a slice hands its input on, without rows
  passes : (offset : ℤ) (n : ℕ) (f : Fields) → f ≢ [] → has_distinct_names f ≡ true → BreaksNoRule F (slice offset n) (f ∷ [])
  passes offset n f some once = ((λ h. h), (λ h. h), (λ h. h), typing)
    where
      same : Some f ≡ Some [] → f ≡ []
      same e = cc

      typing : (R : Refusal) → TypingRefused F (slice offset n) (f ∷ []) R → ⊥
      typing (column_not_found m) h = cc
      typing (duplicate m) (inl h) = h
      typing (duplicate m) (inr h) = once_never m (names_of f) (distinct_once f once m) h
      typing schema_mismatch (inl h) = h
      typing schema_mismatch (inr h) = cc
      typing (unsupported what.NoColumns) h = some (same h)
      typing (unsupported what.LiteralAggregate) h = h
      typing (unsupported _) h = h
      typing _ h = h

  module _ (at : ℕ) (input : Stream) (s : State) (f : Fields) (sound : IsSoundButForReaders F s.nodes) (stream : IsStream s.nodes input f) where
    some : f ≢ []
    some = sound_some F s.nodes input f sound stream

    once : has_distinct_names f ≡ true
    once = sound_distinct F s.nodes input f sound stream

    pub slice_makes : (offset : ℤ) (n : ℕ) → Makes F s (slice_stream at offset n input s) f
    slice_makes (pos o) n = same_makes F at (streaming_slice o n) input s f sound stream refl tt (record { schema = refl; not_empty = some; kinds = refl; rules = passes (pos o) n f some once })
    slice_makes (negsuc k) zero = same_makes F at (streaming_slice 0 0) input s f sound stream refl tt (record { schema = refl; not_empty = some; kinds = refl; rules = passes (pos 0) 0 f some once })
    slice_makes (negsuc k) (suc n) =
        let le : 1 ≤ suc k = omega arith in
        same_makes F at (negative_slice (suc k) (suc n)) input s f sound stream refl le (record { schema = refl; not_empty = some; kinds = refl; rules = passes (negsuc k) (suc n) f some once })

    pub cut_makes : (cut : Cut) → Makes F s (cut_stream at cut input s) f
    cut_makes None = makes_none F s input f sound stream
    cut_makes (Some cut) = slice_makes cut.0 cut.1
