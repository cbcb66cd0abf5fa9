use Rattle.std.proofs.Common.{◌≡◌, ◌≢◌, ◌∙◌, ℕ, List, sym, ap, subst, take, true, false, cond, arith, rules}
use Rattle.std.specs.BTreeSet.{contains_text}
use Rattle.std.specs.List.{list_any}
use Rattle.std.specs.Prelude.{◌||◌, AllPairs, string_bytes}
use Rattle.std.specs.Str.{bytes_eq}
use Rattle.std.proofs.lemmas.Bool.{false≢true}
use Rattle.std.proofs.lemmas.List.{take_all}
use Rattle.std.proofs.lemmas.List.Folds.{list_any_more}
use Rattle.std.proofs.lemmas.Map.Text.{btree_set_updates_text}
use Rattle.query_document.proofs.Differing.{differ-more, or-cond, stands-twice}
use Rattle.query_document.proofs.distinct.are_distinct.Goals as goal

pub loop-name-init : goal.loop-name-init
loop-name-init c = record { differ = λ i j d below there. absurd (omega arith); seen = λ n. search rules }

pub returns-then-contains : goal.returns-then-contains
returns-then-contains c =
    let x = c.name-item.result in
    let i = c.loop-name.name-index in
    let found : list_any (λ m. bytes_eq m x) (take i c.args.names.now) ≡ true = sym (c.loop-name.invariant.seen x) ∙ ap (contains_text c.loop-name.seen) (sym c.as_str.ensures) ∙ sym c.contains.ensures ∙ c.if-contains.true in
    (λ e. absurd (false≢true e), λ differ. absurd (stands-twice c.args.names.now i x c.loop-name-test.true c.name-item.is found differ))

pub loop-name-preserved : goal.loop-name-preserved
loop-name-preserved c =
    let x = c.name-item.result in
    let i = c.loop-name.name-index in
    let new : list_any (λ m. bytes_eq m x) (take i c.args.names.now) ≡ false = sym (c.loop-name.invariant.seen x) ∙ ap (contains_text c.loop-name.seen) (sym c.as_str.ensures) ∙ sym c.contains.ensures ∙ c.if-contains.false in
    let name : string_bytes c.in_ok-from_str.field-0 ≡ x = c.in_ok-from_str.ensures.ok ∙ c.as_str-in-loop-name.ensures in
    record {
      differ = differ-more c.args.names.now i x c.loop-name-test.true c.name-item.is c.loop-name.invariant.differ new;
      seen = λ n.
          btree_set_updates_text (string_bytes c.in_ok-from_str.field-0) c.loop-name.seen c.insert.new.self true c.in_ok-insert.ensures.updates n
          ∙ ap (λ (m : List ℕ). cond (bytes_eq m n) true (contains_text c.loop-name.seen n)) name
          ∙ ap (cond (bytes_eq x n) true) (c.loop-name.invariant.seen n)
          ∙ or-cond (bytes_eq x n) (list_any (λ m. bytes_eq m n) (take i c.args.names.now))
          ∙ ap (λ (m : List ℕ). list_any (λ m. bytes_eq m n) (take i c.args.names.now) || bytes_eq m n) c.name-item.is
          ∙ sym (list_any_more (λ m. bytes_eq m n) c.args.names.now i x c.loop-name-test.true);
    }

pub returns : goal.returns
returns c =
    let all : take c.loop-name.name-index c.args.names.now ≡ c.args.names.now = take_all c.loop-name.name-index c.args.names.now (omega arith) in
    (λ e. subst (λ (names : List (List ℕ)). AllPairs (λ a b. a ≢ b) names) all c.loop-name.invariant.differ, λ differ. search rules)
