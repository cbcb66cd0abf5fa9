-- Whether a group-by streams, condition by condition.
use Rattle.std.proofs.Common.{◌≡◌, true, false, ◌++◌, sym, ap, ◌∙◌}
use Rattle.std.proofs.lemmas.List.Folds.{list_all-append}
use Rattle.std.specs.Prelude.{◌&&◌, Bool, List, None, not}
use Rattle.std.specs.List.{list_all}
use Rattle.pu_base.specs.declared.arena.Node.{Node}
use Rattle.ps_frame.specs.Trees.{Tree}
use Rattle.ps_frame.specs.Typing.{is_independent}
use Rattle.ps_meaning.specs.Steps.{exprs_of, key_trees, named_trees}
use Rattle.ps_meaning.specs.declared.options.ExprIR.{ExprIR}
use Rattle.ps_rules.specs.Calls.{all_independent}
use Rattle.plan_rules.specs.Groups.{can_stream}
use Rattle.plan_rules.specs.Reductions.{is_made_of_reductions}
use Rattle.group_lowering.specs.Groups.{group_of}
use Rattle.group_lowering.proofs.GroupLemmas.{keys_again}

module _ (f : Node → Tree) (keys aggs : List ExprIR) where
  abbrev pub all_made : Bool
  all_made = list_all is_made_of_reductions (key_trees f aggs)

  independents : all_independent (exprs_of (named_trees f keys) ++ exprs_of (named_trees f aggs)) ≡ (all_independent (key_trees f keys) && all_independent (key_trees f aggs))
  independents = (λ i. all_independent (keys_again f keys i ++ keys_again f aggs i)) ∙ list_all-append is_independent (key_trees f keys) (key_trees f aggs)

  -- where the order of the groups is free
  can_is : (maintain apart : Bool) → maintain ≡ false → apart ≡ (all_independent (key_trees f keys) && all_independent (key_trees f aggs)) → can_stream (group_of f keys aggs maintain None) ≡ (not apart && all_made)
  can_is maintain apart free is = λ i. not (free i) && not ((independents ∙ sym is) i) && list_all is_made_of_reductions (keys_again f aggs i)

  pub ordered : (maintain : Bool) → maintain ≡ true → false ≡ can_stream (group_of f keys aggs maintain None)
  ordered maintain h = sym (ap (λ m. can_stream (group_of f keys aggs m None)) h)

  pub apart_from : (maintain apart : Bool) → maintain ≡ false → apart ≡ (all_independent (key_trees f keys) && all_independent (key_trees f aggs)) → apart ≡ true → false ≡ can_stream (group_of f keys aggs maintain None)
  apart_from maintain apart free is h = sym (can_is maintain apart free is ∙ ap (λ b. not b && all_made) h)

  pub made_of : (maintain apart made : Bool) → maintain ≡ false → apart ≡ (all_independent (key_trees f keys) && all_independent (key_trees f aggs)) → apart ≡ false → made ≡ all_made → made ≡ can_stream (group_of f keys aggs maintain None)
  made_of maintain apart made free is h all = all ∙ sym (can_is maintain apart free is ∙ ap (λ b. not b && all_made) h)
