use Rattle.std.proofs.Common.{◌<◌, ◌≤◌, List, ℕ, length, subst, sym, ◌∙◌, arith}
use Rattle.std.specs.List.{All}
use Rattle.ps_frame.specs.Aggregates.{max_rows}
use Rattle.ps_frame.proofs.frame.DataFrame.gather.Goals as goal

pub short_places-requires : goal.short_places-requires
short_places-requires c = λ k d l. let within = c.requires.there k d l in let small = c.height-height.ensures.counted in let rows = c.height-height.ensures.rows in omega arith

pub pick-requires-clause-there : goal.pick-requires-clause-there
pick-requires-clause-there c = subst (λ (rows : List ℕ). All (λ i. i < length c.args.self.now.rows) rows) (sym (c.in_ok-rows.ensures.made ∙ c.in_ok-short_places.ensures.same)) c.requires.there

pub pick-requires-clause-few : goal.pick-requires-clause-few
pick-requires-clause-few c = subst (λ (rows : List ℕ). length rows ≤ max_rows) (sym (c.in_ok-rows.ensures.made ∙ c.in_ok-short_places.ensures.same)) c.requires.few
