-- How much there is to look at in an arena.
use Rattle.std.specs.Prelude.{ℕ, ◌+◌, suc, List, length, sum_by}
use Rattle.pu_base.specs.declared.arena.Node.{Node}
use Rattle.ps_frame.specs.declared.expr.AExpr.{AExpr}
use Rattle.ps_plan.specs.Graph.{operands}
use Rattle.ps_plan.specs.Entries.{entry_exprs, entry_inputs}
use Rattle.ps_plan.specs.declared.ir.IR.{IR}

-- how many numbers the entries name
abbrev pub names_in : {E : Type 0} → (E → List Node) → List E → ℕ
names_in f es = sum_by (λ e. length (f e)) es

-- how many numbers the entries of both arenas name
abbrev pub all_names : List IR → List AExpr → ℕ
all_names nodes exprs = names_in entry_inputs nodes + names_in entry_exprs nodes + names_in operands exprs

-- one look at each of these numbers and at each number that it names
abbrev pub looks_at : (ℕ → List ℕ) → List ℕ → ℕ
looks_at next ns = sum_by (λ n. suc (length (next n))) ns
