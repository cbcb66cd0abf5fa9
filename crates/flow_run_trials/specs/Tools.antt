-- The functions that the program hands in, as a contract sees them.
use Rattle.std.specs.Prelude.{◌==◌, Some}
use Rattle.ps_frame.specs.Functions.{Functions}
use Rattle.tool_ends.specs.ToolAnswers.{tool_answer}

abbrev pub tools : Functions
tools = record { count = 2; streams = λ n. n == 0; answer = λ n f. Some (tool_answer n f); declared = λ n s. Some s }
