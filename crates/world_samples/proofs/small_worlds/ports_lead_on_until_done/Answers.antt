use Rattle.std.proofs.Common.{refl}
use Rattle.world_samples.proofs.Spared.{scan_spared, scan_wanted}
use Rattle.world_samples.proofs.small_worlds.ports_lead_on_until_done.Goals as goal

pub returns-clause-counts : goal.returns-clause-counts
returns-clause-counts c = (refl, refl)

pub returns-clause-wanted : goal.returns-clause-wanted
returns-clause-wanted c = ((λ h. scan_wanted 0 refl h), refl)

pub returns-clause-wanted_stays : goal.returns-clause-wanted_stays
returns-clause-wanted_stays c = refl

pub returns-clause-spared : goal.returns-clause-spared
returns-clause-spared c = (scan_spared, refl)

pub returns-clause-spared_drops : goal.returns-clause-spared_drops
returns-clause-spared_drops c = refl
