-- Functions of which there are none: no node has those that the caller handed in at hand.
use Rattle.std.specs.Prelude.{ℕ, false, None}
use Rattle.ps_frame.specs.Functions.{Functions}

-- so many functions, none of which answers anything
abbrev pub unanswered : ℕ → Functions
unanswered count = record { count = count; streams = λ n. false; answer = λ n f. None; declared = λ n s. None }

abbrev pub no_functions : Functions
no_functions = unanswered 0
