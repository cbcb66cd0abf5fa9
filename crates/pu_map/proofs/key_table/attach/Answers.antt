use Rattle.std.proofs.Common.{refl, length}
use Rattle.std.proofs.Math.Seq.{map-set_same}
use Rattle.pu_map.specs.Chains.{bucket_of}
use Rattle.pu_map.specs.Links.{stored}
use Rattle.pu_map.proofs.LinkLemmas.{IsChained-set}
use Rattle.pu_map.proofs.key_table.attach.Goals as goal

pub returns-clause-chained : goal.returns-clause-chained
returns-clause-chained c =
    let b = bucket_of c.args.seed (length c.args.heads.now) in
    IsChained-set b c.args.heads.now c.args.links.now c.args.at c.bucket_of-bucket.result _ (record { hash = 0; start = 0; size = 0; next = 0 })
    c.requires.within c.bucket_of-bucket.ensures.within refl refl c.bucket_of-bucket.ensures.value c.requires.chained

pub returns-clause-stored : goal.returns-clause-stored
returns-clause-stored c = map-set_same stored c.args.links.now c.args.at _ (record { hash = 0; start = 0; size = 0; next = 0 }) refl
