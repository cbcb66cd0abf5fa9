use Rattle.std.proofs.Common.{◌≡◌, ◌≢◌, ◌∙◌, ℕ, List, length, sym, ap, subst, rules, false}
use Rattle.std.specs.Prelude.{AllPairs}
use Rattle.std.proofs.lemmas.Bool.{false≢true}
use Rattle.serde_json.specs.View.{view}
use Rattle.query_document.proofs.NoQuery.{naming_of}
use Rattle.query_document.proofs.document.query_over.Goals as goal

pub returns-then-not-is_naming-clause-none : goal.returns-then-not-is_naming-clause-none
returns-then-not-is_naming-clause-none c = λ ts zip asked is.
    let told = rw c.in-Some.is at c.in_ok-names.ensures.some in
    let naming = naming_of (view c.args.names.now) (view c.args.query.now) c.in-Some.names c.args.tables.items ts told zip asked is in
    let tables : length c.args.tables.items ≡ c.len.result = search rules in
    let counted : length c.as_slice.result.now ≡ c.len.result = ap length c.as_slice.ensures ∙ naming.one_each ∙ tables in
    let differ : AllPairs (λ a b. a ≢ b) c.as_slice.result.now = subst (λ (names : List (List ℕ)). AllPairs (λ a b. a ≢ b) names) (sym c.as_slice.ensures) naming.differ in
    let yes = c.in_ok-is_naming.ensures.1 (counted, differ) in
    let no : c.in_ok-is_naming.is_naming ≡ false = search rules in
    absurd (false≢true (sym no ∙ yes))
