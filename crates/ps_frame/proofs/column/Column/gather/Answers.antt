use Rattle.std.proofs.Common.{◌<◌, List, ℕ, length, subst, sym, ◌∙◌, arith}
use Rattle.std.specs.List.{All}
use Rattle.ps_frame.proofs.column.Column.gather.Goals as goal

pub short_places-requires : goal.short_places-requires
short_places-requires c = λ k d l. let within = c.requires k d l in omega arith

pub pick-requires : goal.pick-requires
pick-requires c = subst (λ (rows : List ℕ). All (λ i. i < length c.args.self.now.values) rows) (sym (c.in_ok-rows.ensures.made ∙ c.in_ok-short_places.ensures.same)) c.requires
