use Rattle.std.proofs.Common.{◌≡◌, ◌++◌, length, take, drop, map, subst, ap, ◌∙◌, rules}
use Rattle.pu_map.specs.Chains.{IsChained, bucket_of}
use Rattle.pu_map.specs.Links.{hashes, nexts, stored}
use Rattle.pu_map.proofs.LinkLemmas.{IsSound-chained, keys_of-stored, take-append_all}
use Rattle.pu_map.proofs.key_table.KeyTable.reserve.Goals as goal

pub invariant_of-self-then-wanted-count : goal.invariant_of-self-then-wanted-count
invariant_of-self-then-wanted-count c =
    let links = c.self.inside.links.items in
    let after = c.chain_anew.new.links in
    let whole : c.as_mut_slice.result.now ≡ links = c.as_mut_slice.ensures.value ∙ c.reserve.ensures.items in
    let same : map stored after ≡ map stored links = c.chain_anew.ensures.stored ∙ ap (map stored) whole in
    let lent : take c.reserve.new.self.len (after ++ drop (length after) c.reserve.new.self.items) ≡ after = take-append_all _ _ _ (search rules) in
    let firsts = c.in_ok-self-inside.field-0.items in
    let many : c.max-more.result ≡ length firsts = search rules in
    let chained : IsChained (bucket_of c.self.inside.seed c.max-more.result) firsts (hashes after) (nexts after) (length after) = c.in_ok-self-inside.ensures.chained in
    rw lent
    (IsSound-chained c.self.inside.seed c.self.inside.heads.items firsts links after c.self.inside.bytes.items c.self.invariant same
    (subst (λ n. IsChained (bucket_of c.self.inside.seed n) firsts (hashes after) (nexts after) (length after)) many chained) (search rules))

pub returns-in_ok-self-inside-clause-keys : goal.returns-in_ok-self-inside-clause-keys
returns-in_ok-self-inside-clause-keys c =
    let links = c.self.inside.links.items in
    let after = c.chain_anew.new.links in
    let whole : c.as_mut_slice.result.now ≡ links = c.as_mut_slice.ensures.value ∙ c.reserve.ensures.items in
    let same : map stored after ≡ map stored links = c.chain_anew.ensures.stored ∙ ap (map stored) whole in
    let lent : take c.reserve.new.self.len (after ++ drop (length after) c.reserve.new.self.items) ≡ after = take-append_all _ _ _ (search rules) in
    rw (lent, ← c.self.view_is) (keys_of-stored c.self.inside.bytes.items links after same)
