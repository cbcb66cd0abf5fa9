use Rattle.ps_frame.proofs.builder.ColumnBuilder.unpack.Goals as goal

pub invariant_of-self : goal.invariant_of-self
invariant_of-self c = rw (c.new.ensures, c.in_ok-rest.ensures.same, c.dtype.ensures) (c.self.invariant.0, c.values_fit.ensures)
