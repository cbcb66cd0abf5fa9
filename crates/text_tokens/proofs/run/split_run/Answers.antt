use Rattle.std.proofs.Common.{sym, ap, ◌∙◌, arith, length, take}
use Rattle.std.specs.List.{list_all}
use Rattle.text_tokens.specs.Runs.{is_in}
use Rattle.text_tokens.proofs.FrontRuns.{boundary_after}
use Rattle.text_tokens.proofs.run.split_run.Goals as goal

-- the bytes of the run are ASCII
pub split_at-requires : goal.split_at-requires
split_at-requires c =
    boundary_after c.args.class c.args.text.now c.run_len.result c.utf8.text
    (omega (arith, c.run_len.ensures.within, ap length c.as_bytes.ensures.value))
    (ap (λ bs. list_all (is_in c.args.class) (take c.run_len.result bs)) (sym c.as_bytes.ensures.value) ∙ c.run_len.ensures.run)
