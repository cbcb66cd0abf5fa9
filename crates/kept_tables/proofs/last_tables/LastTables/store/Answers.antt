-- There is one table more.
use Rattle.std.proofs.Common.{◌+◌, ◌++◌, ◌∷◌, [], ap, sym, ◌∙◌}
use Rattle.kept_tables.proofs.LastTables.{counted_more, row_count}
use Rattle.kept_tables.specs.Kept.{tables_kept}
use Rattle.kept_tables.proofs.last_tables.LastTables.store.Goals as goal

pub let_go-rows-requires : goal.let_go-rows-requires
let_go-rows-requires c =
    record {
      counted =
          ap (λ n. n + c.height-height.result) c.self.invariant.0
          ∙ ap (λ n. row_count (tables_kept c.self.inside.tables) + n) c.height-height.ensures.rows
          ∙ sym (counted_more (tables_kept c.self.inside.tables) c.args.table)
          ∙ ap (λ k. row_count (tables_kept k ++ c.args.table ∷ [])) (sym c.take-kept.ensures.value)
          ∙ ap row_count (sym c.in-Ok.ensures.kept);
    }
