-- What is the JSON of no expression, by its word.
use Rattle.std.proofs.Common.{◌≡◌, ◌≢◌, ◌∷◌, [], ℕ, ◌<◌, ◌^◌, ℤ, List, Bool, ap, sym, subst}
use Rattle.std.specs.Prelude.{IsTrue, FitsSigned, codes}
use Rattle.std.specs.Int.{w64}
use Rattle.serde_json.specs.Data.{Data}
use Rattle.pu_base.specs.declared.arena.Node.{Node}
use Rattle.ps_frame.specs.declared.expr.AExpr.{AExpr}
use Rattle.ps_frame.specs.declared.expr.AExpr.TheVariants as expr
use Rattle.ps_frame.specs.declared.expr.FunctionExpr.{FunctionExpr}
use Rattle.ps_frame.specs.declared.expr.IRAggExpr.{IRAggExpr}
use Rattle.ps_frame.specs.declared.expr.IRAggExpr.TheVariants as agg
use Rattle.ps_frame.specs.declared.expr.LiteralValue.TheVariants as lit
use Rattle.ps_frame.specs.declared.expr.Operator.{Operator}
use Rattle.ps_frame.specs.declared.expr.What.{What}
use Rattle.ps_frame.specs.declared.value.DataType.{DataType}
use Rattle.ps_document.proofs.Told.{entry_in, kind_in, list_in, number_in, part, text_in, truth_in, whole_number_in, word_at}
use Rattle.ps_document.proofs.ToldExpr.{expr-told, expr_in, what_in}
use Rattle.ps_document.specs.Expressions.{CanStand, IsExpr, aggregate_json, entry_number, expr_json}
use Rattle.ps_document.specs.Json.{list, text}
use Rattle.ps_document.specs.Words.{is_left_out_kind}

module _ (ds : List Data) where
  -- a word, and what follows it
  abbrev after : List ℕ → Data
  after w = list (text w ∷ ds)

  -- an expression of this JSON is the one that the JSON tells
  told : (w : List ℕ) (e : AExpr) → CanStand e → after w ≡ expr_json e → IsExpr (expr_in (after w)) (after w)
  told w e stands json =
      let is : IsExpr e (after w) = record { json = json; stands = stands } in
      subst (λ x. IsExpr x (after w)) (sym (expr-told e (after w) is)) is

  pub no_col : ((name : List ℕ) → after (codes "col") ≢ expr_json (expr.Column name)) → (e : AExpr) → CanStand e → after (codes "col") ≢ expr_json e
  no_col none e stands json = let t = told (codes "col") e stands json in none (text_in (part 0 ds)) t.json

  pub no_null : ((k : DataType) → after (codes "null") ≢ expr_json (expr.Literal (lit.Null k))) → (e : AExpr) → CanStand e → after (codes "null") ≢ expr_json e
  no_null none e stands json = let t = told (codes "null") e stands json in none (kind_in (part 0 ds)) t.json

  pub no_bool : ((b : Bool) → after (codes "bool") ≢ expr_json (expr.Literal (lit.Boolean b))) → (e : AExpr) → CanStand e → after (codes "bool") ≢ expr_json e
  no_bool none e stands json = let t = told (codes "bool") e stands json in none (truth_in (part 0 ds)) t.json

  pub no_int : ((z : ℤ) → FitsSigned w64 z → after (codes "int") ≢ expr_json (expr.Literal (lit.Int64 z))) → (e : AExpr) → CanStand e → after (codes "int") ≢ expr_json e
  no_int none e stands json = let t = told (codes "int") e stands json in none (whole_number_in (part 0 ds)) t.stands t.json

  pub no_idx : ((n : ℕ) → n < 2 ^ 32 → after (codes "idx") ≢ expr_json (expr.Literal (lit.IdxSize n))) → (e : AExpr) → CanStand e → after (codes "idx") ≢ expr_json e
  no_idx none e stands json = let t = told (codes "idx") e stands json in none (number_in (part 0 ds)) t.stands t.json

  pub no_str : ((s : List ℕ) → after (codes "str") ≢ expr_json (expr.Literal (lit.String s))) → (e : AExpr) → CanStand e → after (codes "str") ≢ expr_json e
  no_str none e stands json = let t = told (codes "str") e stands json in none (text_in (part 0 ds)) t.json

  pub no_cast : ((e : Node) (k : DataType) (strict : Bool) → after (codes "cast") ≢ expr_json (expr.Cast e k strict)) → (e : AExpr) → CanStand e → after (codes "cast") ≢ expr_json e
  no_cast none e stands json = let t = told (codes "cast") e stands json in none (entry_in (part 0 ds)) (kind_in (part 1 ds)) (truth_in (part 2 ds)) t.json

  pub no_sort : ((e : Node) (descending nulls_last : Bool) → after (codes "sort") ≢ expr_json (expr.Sort e descending nulls_last)) → (e : AExpr) → CanStand e → after (codes "sort") ≢ expr_json e
  no_sort none e stands json = let t = told (codes "sort") e stands json in none (entry_in (part 0 ds)) (truth_in (part 1 ds)) (truth_in (part 2 ds)) t.json

  pub no_sort_by : ((e : Node) (by : List Node) (descending nulls_last : List Bool) → after (codes "sort_by") ≢ expr_json (expr.SortBy e by descending nulls_last)) → (e : AExpr) → CanStand e → after (codes "sort_by") ≢ expr_json e
  no_sort_by none e stands json = let t = told (codes "sort_by") e stands json in none (entry_in (part 0 ds)) (list_in entry_in (part 1 ds)) (list_in truth_in (part 2 ds)) (list_in truth_in (part 3 ds)) t.json

  pub no_gather : ((e i : Node) (scalar : Bool) → after (codes "gather") ≢ expr_json (expr.Gather e i scalar)) → (e : AExpr) → CanStand e → after (codes "gather") ≢ expr_json e
  no_gather none e stands json = let t = told (codes "gather") e stands json in none (entry_in (part 0 ds)) (entry_in (part 1 ds)) (truth_in (part 2 ds)) t.json

  pub no_filter : ((e by : Node) → after (codes "filter") ≢ expr_json (expr.Filter e by)) → (e : AExpr) → CanStand e → after (codes "filter") ≢ expr_json e
  no_filter none e stands json = let t = told (codes "filter") e stands json in none (entry_in (part 0 ds)) (entry_in (part 1 ds)) t.json

  pub no_slice : ((e o l : Node) → after (codes "slice") ≢ expr_json (expr.Slice e o l)) → (e : AExpr) → CanStand e → after (codes "slice") ≢ expr_json e
  no_slice none e stands json = let t = told (codes "slice") e stands json in none (entry_in (part 0 ds)) (entry_in (part 1 ds)) (entry_in (part 2 ds)) t.json

  pub no_ternary : ((p a b : Node) → after (codes "ternary") ≢ expr_json (expr.Ternary p a b)) → (e : AExpr) → CanStand e → after (codes "ternary") ≢ expr_json e
  no_ternary none e stands json = let t = told (codes "ternary") e stands json in none (entry_in (part 0 ds)) (entry_in (part 1 ds)) (entry_in (part 2 ds)) t.json

  pub no_count : ((n : Node) (all : Bool) → after (codes "count") ≢ expr_json (expr.Agg (agg.Count n all))) → (e : AExpr) → CanStand e → after (codes "count") ≢ expr_json e
  no_count none e stands json = let t = told (codes "count") e stands json in none (entry_in (part 0 ds)) (truth_in (part 1 ds)) t.json

  pub no_len : (after (codes "len") ≢ expr_json (expr.Len)) → (e : AExpr) → CanStand e → after (codes "len") ≢ expr_json e
  no_len none e stands json = let t = told (codes "len") e stands json in none t.json

  pub no_left_out : ((w : What) → IsTrue (is_left_out_kind w) → after (codes "left_out") ≢ expr_json (expr.LeftOut w)) → (e : AExpr) → CanStand e → after (codes "left_out") ≢ expr_json e
  no_left_out none e stands json = let t = told (codes "left_out") e stands json in none (what_in (part 0 ds)) t.stands t.json

  -- no expression of another word
  pub no_other : (w : List ℕ) →
      w ≢ codes "col" →
      w ≢ codes "null" →
      w ≢ codes "bool" →
      w ≢ codes "int" →
      w ≢ codes "idx" →
      w ≢ codes "str" →
      w ≢ codes "cast" →
      w ≢ codes "sort" →
      w ≢ codes "sort_by" →
      w ≢ codes "gather" →
      w ≢ codes "filter" →
      w ≢ codes "slice" →
      w ≢ codes "ternary" →
      w ≢ codes "count" →
      w ≢ codes "len" →
      w ≢ codes "left_out" →
      ((l : Node) (o : Operator) (r : Node) → after w ≢ expr_json (expr.BinaryExpr l o r)) →
      ((n : Node) (g : FunctionExpr) → after w ≢ expr_json (expr.Function n g)) →
      ((n : Node) (a : IRAggExpr) → aggregate_json a ≡ list (text w ∷ entry_number n ∷ []) → after w ≢ aggregate_json a) →
      (e : AExpr) → CanStand e → after w ≢ expr_json e
  no_other w col null bool int idx str cast sort sort_by gather filter slice ternary count len left_out binary function aggregate (expr.Column name) stands json = col (word_at json)
  no_other w col null bool int idx str cast sort sort_by gather filter slice ternary count len left_out binary function aggregate (expr.Literal (lit.Null k)) stands json = null (word_at json)
  no_other w col null bool int idx str cast sort sort_by gather filter slice ternary count len left_out binary function aggregate (expr.Literal (lit.Boolean b)) stands json = bool (word_at json)
  no_other w col null bool int idx str cast sort sort_by gather filter slice ternary count len left_out binary function aggregate (expr.Literal (lit.Int64 z)) stands json = int (word_at json)
  no_other w col null bool int idx str cast sort sort_by gather filter slice ternary count len left_out binary function aggregate (expr.Literal (lit.IdxSize n)) stands json = idx (word_at json)
  no_other w col null bool int idx str cast sort sort_by gather filter slice ternary count len left_out binary function aggregate (expr.Literal (lit.String s)) stands json = str (word_at json)
  no_other w col null bool int idx str cast sort sort_by gather filter slice ternary count len left_out binary function aggregate (expr.Cast e k strict) stands json = cast (word_at json)
  no_other w col null bool int idx str cast sort sort_by gather filter slice ternary count len left_out binary function aggregate (expr.Sort e descending nulls_last) stands json = sort (word_at json)
  no_other w col null bool int idx str cast sort sort_by gather filter slice ternary count len left_out binary function aggregate (expr.SortBy e by descending nulls_last) stands json = sort_by (word_at json)
  no_other w col null bool int idx str cast sort sort_by gather filter slice ternary count len left_out binary function aggregate (expr.Gather e i scalar) stands json = gather (word_at json)
  no_other w col null bool int idx str cast sort sort_by gather filter slice ternary count len left_out binary function aggregate (expr.Filter e by) stands json = filter (word_at json)
  no_other w col null bool int idx str cast sort sort_by gather filter slice ternary count len left_out binary function aggregate (expr.Slice e o l) stands json = slice (word_at json)
  no_other w col null bool int idx str cast sort sort_by gather filter slice ternary count len left_out binary function aggregate (expr.Ternary p a b) stands json = ternary (word_at json)
  no_other w col null bool int idx str cast sort sort_by gather filter slice ternary count len left_out binary function aggregate (expr.Agg (agg.Count n all)) stands json = count (word_at json)
  no_other w col null bool int idx str cast sort sort_by gather filter slice ternary count len left_out binary function aggregate (expr.Len) stands json = len (word_at json)
  no_other w col null bool int idx str cast sort sort_by gather filter slice ternary count len left_out binary function aggregate (expr.LeftOut kind) stands json = left_out (word_at json)
  no_other w col null bool int idx str cast sort sort_by gather filter slice ternary count len left_out binary function aggregate (expr.BinaryExpr l o r) stands json = binary l o r json
  no_other w col null bool int idx str cast sort sort_by gather filter slice ternary count len left_out binary function aggregate (expr.Function n g) stands json = function n g json
  no_other w col null bool int idx str cast sort sort_by gather filter slice ternary count len left_out binary function aggregate (expr.Agg (agg.Min n)) stands json = aggregate n (agg.Min n) (ap (λ v. list (text v ∷ entry_number n ∷ [])) (sym (word_at json))) json
  no_other w col null bool int idx str cast sort sort_by gather filter slice ternary count len left_out binary function aggregate (expr.Agg (agg.Max n)) stands json = aggregate n (agg.Max n) (ap (λ v. list (text v ∷ entry_number n ∷ [])) (sym (word_at json))) json
  no_other w col null bool int idx str cast sort sort_by gather filter slice ternary count len left_out binary function aggregate (expr.Agg (agg.First n)) stands json = aggregate n (agg.First n) (ap (λ v. list (text v ∷ entry_number n ∷ [])) (sym (word_at json))) json
  no_other w col null bool int idx str cast sort sort_by gather filter slice ternary count len left_out binary function aggregate (expr.Agg (agg.Last n)) stands json = aggregate n (agg.Last n) (ap (λ v. list (text v ∷ entry_number n ∷ [])) (sym (word_at json))) json
  no_other w col null bool int idx str cast sort sort_by gather filter slice ternary count len left_out binary function aggregate (expr.Agg (agg.Sum n)) stands json = aggregate n (agg.Sum n) (ap (λ v. list (text v ∷ entry_number n ∷ [])) (sym (word_at json))) json
  no_other w col null bool int idx str cast sort sort_by gather filter slice ternary count len left_out binary function aggregate (expr.Agg (agg.NUnique n)) stands json = aggregate n (agg.NUnique n) (ap (λ v. list (text v ∷ entry_number n ∷ [])) (sym (word_at json))) json
