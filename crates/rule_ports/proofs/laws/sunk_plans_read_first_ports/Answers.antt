use Rattle.rule_ports.proofs.Plans.{sunk_reads, sunk_sink, sunk_there}
use Rattle.rule_ports.proofs.laws.sunk_plans_read_first_ports.Goals as goal

pub returns-clause-there : goal.returns-clause-there
returns-clause-there c = λ F names t fed sunk. sunk_there F names t fed sunk

pub returns-clause-reads : goal.returns-clause-reads
returns-clause-reads c = λ F names t fed sunk. sunk_reads F names t fed sunk

pub returns-clause-sink : goal.returns-clause-sink
returns-clause-sink c = λ F names t fed sunk. sunk_sink F names t fed sunk
