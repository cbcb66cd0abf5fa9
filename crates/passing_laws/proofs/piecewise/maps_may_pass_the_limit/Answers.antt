use Rattle.passing_laws.proofs.BookingCases.{both-none, second-alone}
use Rattle.passing_laws.proofs.piecewise.maps_may_pass_the_limit.Goals as goal

pub returns-clause-alone : goal.returns-clause-alone
returns-clause-alone c = λ F n s o at r big long. second-alone F n s o at r big long

pub returns-clause-behind : goal.returns-clause-behind
returns-clause-behind c = λ F n s o at q r faults. both-none F n s o at q r faults
