use Rattle.std.proofs.Common.{◌≡◌, ◌<◌, List, ℕ, length, arith, subst, sym, ap, ◌∙◌}
use Rattle.std.specs.List.{All, concat}
use Rattle.ps_frame.specs.Gathered.{rows_at}
use Rattle.ps_keys.specs.KeyRows.{places_of_each}
use Rattle.ps_groups.proofs.KeyTables.{all-places-below, all-places-count}
use Rattle.ps_groups.proofs.tables.table_by_group.Goals as goal

pub gathered-requires-clause-there : goal.gathered-requires-clause-there
gathered-requires-clause-there c =
    let n = c.args.numbering.now in
    let count = length n.firsts.items in
    subst (All (λ i. i < length c.args.df.now.rows)) (sym (c.all.ensures ∙ ap (λ (gs : List (List ℕ)). concat gs) c.requires.groups))
    (subst (λ m. All (λ i. i < m) (concat (places_of_each count n.keys.items))) c.requires.numbering.long (all-places-below count n.keys.items))

pub gathered-requires-clause-few : goal.gathered-requires-clause-few
gathered-requires-clause-few c =
    let n = c.args.numbering.now in
    let all : length c.all.result.now ≡ length c.args.df.now.rows =
    ap length (c.all.ensures ∙ ap (λ (gs : List (List ℕ)). concat gs) c.requires.groups) ∙ all-places-count (length n.firsts.items) n.keys.items c.requires.numbering.below ∙ c.requires.numbering.long in
    omega (arith, all, c.height-height.ensures.rows, c.height-height.ensures.counted)

pub returns : goal.returns
returns c =
    record {
      schema = c.in_ok-table.ensures.schema;
      rows = c.in_ok-table.ensures.rows ∙ ap (λ ps. rows_at ps c.args.df.now.rows) (c.all.ensures ∙ ap (λ (gs : List (List ℕ)). concat gs) c.requires.groups);
    }
