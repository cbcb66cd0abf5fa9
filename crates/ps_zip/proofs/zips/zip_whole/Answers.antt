use Rattle.std.proofs.Common.{◌<◌, arith, inl, inr, refl, subst}
use Rattle.ps_frame.specs.Aggregates.{max_rows}
use Rattle.ps_frame.specs.declared.value.DataFault.TheVariants as fault
use Rattle.ps_zip.proofs.Standing.{all-stand}
use Rattle.ps_zip.proofs.zips.zip_whole.Goals as goal

pub returns-then-height-clause-error : goal.returns-then-height-clause-error
returns-then-height-clause-error c =
    let large : max_rows < c.args.height = (let h = c.if-height.true in omega arith) in
    inr (fault.Rows, c.fault_at.ensures, inr (inl (refl, subst (λ n. max_rows < n) c.requires.rows large)))

pub columns_in_rows-requires : goal.columns_in_rows-requires
columns_in_rows-requires c = all-stand c.args.inputs.items c.args.height c.requires.whole c.requires.rows c.requires.fit
