use Rattle.pu_map.proofs.LinkLemmas.{slice_get-append}
use Rattle.pu_map.proofs.bytes_idx_map.a_key_keeps_its_number.Goals as goal

pub returns : goal.returns
returns c = slice_get-append
