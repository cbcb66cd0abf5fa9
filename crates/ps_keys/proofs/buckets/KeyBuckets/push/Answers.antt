use Rattle.std.proofs.Common.{rules, ◌≡◌, [], ◌∷◌, ◌++◌, get_or, ap, ◌∙◌}
use Rattle.std.proofs.lemmas.Grind.{get_or_default_zero}
use Rattle.ps_keys.specs.Hashes.{row_at}
use Rattle.ps_keys.proofs.KeyChains.{sound-push}
use Rattle.ps_keys.proofs.buckets.KeyBuckets.push.Goals as goal

pub returns-clause-sound : goal.returns-clause-sound
returns-clause-sound c =
    let t = c.args.self.now in
    let nexts : c.push-3.new.self.items ≡ t.nexts.items ++ get_or t.heads.items c.hash_to_partition-bucket.result 0 ∷ [] =
    c.in_ok-push-3.ensures.items ∙ ap (λ h. t.nexts.items ++ h ∷ []) (c.index.ensures ∙ get_or_default_zero t.heads.items c.hash_to_partition-bucket.result c.index.result.now (search rules)) in
    sound-push (row_at c.args.columns.now) t _ c.args.row c.args.hash c.hash_to_partition-bucket.result c.requires.sound
    (search rules) (search rules) c.requires.hash (search rules) (search rules) nexts (search rules)
