-- Written queries read as the queries.
use Rattle.std.proofs.Common.{◌≡◌, ℕ, ◌≤◌, ◌<◌, ◌^◌, Bool, true, false, List, [], ◌∷◌, ◌++◌, inl, inr, sym, refl, subst, append-nil, arith}
use Rattle.std.specs.Prelude.{◌≢◌, if◌then◌else◌, codes}
use Rattle.std.specs.Fmt.{decimal}
use Rattle.std.specs.List.{AllByRecursion}
use Rattle.ps_meaning.specs.declared.options.JoinType.{JoinType}
use Rattle.ps_meaning.specs.declared.options.JoinType.TheVariants as how
use Rattle.text_laws.specs.Widths.{ItemsFit, KeysFit, StageFits, QueryFits}
use Rattle.text_laws.proofs.ReadExpressions.{expr_reads}
use Rattle.text_laws.proofs.WrittenNumbers.{decimal_token, integer_reads, number-decimal}
use Rattle.text_laws.proofs.WrittenTokens.{name_reads, query_are}
use Rattle.text_queries.specs.Grammar.{IsWhole, Listed, IsItem, IsKey, IsColumn, IsOn, IsStage, AreStages, ReadsAs, number}
use Rattle.text_queries.specs.Printable.{HasNames, HasEntries, IsPrintable}
use Rattle.text_queries.specs.Queries.{Expr, Item, Key, Stage, Filter, Select, With, Group, Sort, Slice, Distinct, Join, Query, expr_depth, greatest, items_depth, stage_depth, depth}
use Rattle.text_queries.specs.Writing.{name_token, integer_tokens, expr_tokens, with_commas, item_tokens, key_tokens, on_tokens, stage_tokens, stages_tokens, query_tokens, printed}
use Rattle.text_tokens.specs.declared.token.Token.{Token}
use Rattle.text_tokens.specs.declared.token.Token.TheVariants as token
use Rattle.text_tokens.proofs.Written.{spaced_cut}

some_entry : {X : Type 0} (x : X) (xs : List X) → x ∷ xs ≢ []
some_entry x xs e = cc

listed : {X : Type 0} (P : List Token → X → Type 0) (f : X → List Token) → (xs : List X) → xs ≢ [] → AllByRecursion (λ x. P (f x) x) xs → Listed P (with_commas f xs) xs
listed P f [] some all = absurd (some refl)
listed P f (x ∷ []) some all = all.0
listed P f (x ∷ y ∷ xs) some all = (f x, with_commas f (y ∷ xs), refl, all.0, listed P f (y ∷ xs) (some_entry y xs) all.1)

each_item : (items : List Item) → items_depth items ≤ 100 → ItemsFit items → AllByRecursion (λ item. IsItem (item_tokens item) item) items
each_item [] deep fits = tt
each_item (item ∷ items) deep fits = (
  (name_token item.name, expr_tokens item.expr, refl, name_reads item.name, expr_reads item.expr fits.0 (omega (arith, deep))),
  each_item items (omega (arith, deep)) fits.1,
)

items_read : (items : List Item) → items ≢ [] → items_depth items ≤ 100 → ItemsFit items → Listed IsItem (with_commas item_tokens items) items
items_read items some deep fits = listed IsItem item_tokens items some (each_item items deep fits)

key_reads : (e : Expr) (desc : Bool) → IsWhole (expr_tokens e) e → IsKey (expr_tokens e ++ (if desc then token.Word (codes "desc") ∷ [] else [])) (record { expr = e; desc = desc })
key_reads e true whole = inr (refl, expr_tokens e, refl, whole)
key_reads e false whole = inl (refl, subst (λ ts. IsWhole ts e) (sym (append-nil (expr_tokens e))) whole)

each_key : (keys : List Key) → greatest (λ key. expr_depth key.expr) keys ≤ 100 → KeysFit keys → AllByRecursion (λ key. IsKey (key_tokens key) key) keys
each_key [] deep fits = tt
each_key (key ∷ keys) deep fits = (key_reads key.expr key.desc (expr_reads key.expr fits.0 (omega (arith, deep))), each_key keys (omega (arith, deep)) fits.1)

each_name : (names : List (List ℕ)) → AllByRecursion (λ name. IsColumn (name_token name ∷ []) name) names
each_name [] = tt
each_name (name ∷ names) = ((name_token name, refl, name_reads name), each_name names)

-- `on` and names
abbrev Named : List (List ℕ) → Type 0
Named on = (rest : List Token) × (token.Word (codes "on") ∷ with_commas (λ name. name_token name ∷ []) on ≡ token.Word (codes "on") ∷ rest) × Listed IsColumn rest on

named : (on : List (List ℕ)) → on ≢ [] → Named on
named on some = (with_commas (λ name. name_token name ∷ []) on, refl, listed IsColumn (λ name. name_token name ∷ []) on some (each_name on))

on_reads : (h : JoinType) (on : List (List ℕ)) → HasNames h on → IsOn h (on_tokens h on) on
on_reads how.Inner on some = named on some
on_reads how.Left on some = named on some
on_reads how.Right on some = named on some
on_reads how.Full on some = named on some
on_reads how.Semi on some = named on some
on_reads how.Anti on some = named on some
on_reads how.Cross on none = (refl, none)

stage_reads : (stage : Stage) → HasEntries stage → stage_depth stage ≤ 100 → StageFits stage → IsStage (stage_tokens stage) stage
stage_reads (Filter predicate) entries deep fits = (expr_tokens predicate, refl, expr_reads predicate fits deep)
stage_reads (Select items) some deep fits = (with_commas item_tokens items, refl, items_read items some deep fits)
stage_reads (With items) some deep fits = (with_commas item_tokens items, refl, items_read items some deep fits)
stage_reads (Group keys aggs) some deep fits = (
  with_commas item_tokens keys,
  with_commas item_tokens aggs,
  refl,
  items_read keys some.0 (omega (arith, deep)) fits.0,
  items_read aggs some.1 (omega (arith, deep)) fits.1,
)
stage_reads (Sort keys) some deep fits = (with_commas key_tokens keys, refl, listed IsKey key_tokens keys some (each_key keys deep fits))
stage_reads (Slice offset length) entries deep fits =
    let back : number (decimal length) ≡ length = number-decimal length fits.1 in
    (integer_tokens offset, decimal length, refl, integer_reads offset fits.0, decimal_token length fits.1, sym back, subst (λ n. n < 2 ^ 64) (sym back) fits.1)
stage_reads Distinct entries deep fits = refl
stage_reads (Join kept table on) names deep fits = (name_token table, on_tokens kept on, refl, name_reads table, on_reads kept on names)

stages_read : (stages : List Stage) → AllByRecursion HasEntries stages → greatest stage_depth stages ≤ 100 → AllByRecursion StageFits stages → AreStages (stages_tokens stages) stages
stages_read [] entries deep fits = refl
stages_read (stage ∷ stages) entries deep fits = (
  stage_tokens stage,
  stages_tokens stages,
  refl,
  stage_reads stage entries.0 (omega (arith, deep)) fits.0,
  stages_read stages entries.1 (omega (arith, deep)) fits.1,
)

pub printed_reads : (query : Query) → IsPrintable query → QueryFits query → ReadsAs (printed query) query
printed_reads query printable fits = record {
  tokens = query_tokens query;
  cut = spaced_cut (query_tokens query) (query_are query fits);
  is_query = (name_token query.source, stages_tokens query.stages, refl, name_reads query.source, stages_read query.stages printable.entries printable.shallow fits);
  not_deep = let shallow : depth query ≤ 100 = printable.shallow in omega (arith, shallow);
}
