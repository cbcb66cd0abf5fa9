use Rattle.std.proofs.Common.{◌≡◌, ℕ, ◌+◌, [], ◌∷◌, ◌++◌, length, take, drop, map, subst, sym, ap, ◌∙◌, rules}
use Rattle.pu_map.specs.declared.key_table.Link.{Link}
use Rattle.pu_map.specs.Chains.{bucket_of, IsChained}
use Rattle.pu_map.specs.Links.{hashes, nexts, stored}
use Rattle.pu_map.proofs.LinkLemmas.{IsChained-pushed, IsSound-pushed, keys_of-pushed, take-append_all}
use Rattle.pu_map.proofs.key_table.push_link.Goals as goal

pub attach-requires-clause-chained : goal.attach-requires-clause-chained
attach-requires-clause-chained c =
    let heads = c.args.heads.now in
    let links = c.args.links.now.items in
    let bytes = c.args.bytes.now.items in
    let made : ℕ → Link = λ s. record { hash = c.args.hash; start = s; size = length c.args.key.now; next = 0 } in
    let start : length bytes ≡ c.len-start.result = search rules in
    let at : length links ≡ c.len-at.result = search rules in
    let whole : links ++ made (length bytes) ∷ [] ≡ c.as_mut_slice.result.now =
    ap (λ s. links ++ made s ∷ []) start ∙ sym c.push_reserved.ensures.items ∙ sym c.as_mut_slice.ensures.value in
    let chained = IsChained-pushed c.args.seed heads links bytes c.args.hash c.args.key.now c.requires.sound in
    let b = bucket_of c.args.seed (length heads) in
    subst (λ n. IsChained b heads (hashes c.as_mut_slice.result.now) (nexts c.as_mut_slice.result.now) n) at
    (subst (λ ls. IsChained b heads (hashes ls) (nexts ls) (length links)) whole chained)

pub returns-clause-sound : goal.returns-clause-sound
returns-clause-sound c =
    let heads = c.args.heads.now in
    let links = c.args.links.now.items in
    let bytes = c.args.bytes.now.items in
    let made : ℕ → Link = λ s. record { hash = c.args.hash; start = s; size = length c.args.key.now; next = 0 } in
    let start : length bytes ≡ c.len-start.result = search rules in
    let at : c.len-at.result ≡ length links = search rules in
    let whole : c.as_mut_slice.result.now ≡ links ++ made (length bytes) ∷ [] =
    c.as_mut_slice.ensures.value ∙ c.push_reserved.ensures.items ∙ ap (λ s. links ++ made s ∷ []) (sym start) in
    let same : map stored c.attach.new.links ≡ map stored (links ++ made (length bytes) ∷ []) = c.attach.ensures.stored ∙ ap (map stored) whole in
    let b = bucket_of c.args.seed (length heads) in
    let chained = subst (λ n. IsChained b c.attach.new.heads (hashes c.attach.new.links) (nexts c.attach.new.links) (n + 1)) at c.attach.ensures.chained in
    let sound = IsSound-pushed c.args.seed heads links bytes c.args.hash c.args.key.now c.requires.sound c.attach.new.links c.attach.new.heads
    same (search rules) chained c.requires.absent (search rules) (search rules) in
    let lent : take c.push_reserved.new.self.len (c.attach.new.links ++ drop (length c.attach.new.links) c.push_reserved.new.self.items) ≡ c.attach.new.links =
    take-append_all _ _ _ (search rules) in
    rw (lent, c.in_ok-extend_from_slice.ensures.items) sound

pub returns-clause-pushed : goal.returns-clause-pushed
returns-clause-pushed c =
    let heads = c.args.heads.now in
    let links = c.args.links.now.items in
    let bytes = c.args.bytes.now.items in
    let made : ℕ → Link = λ s. record { hash = c.args.hash; start = s; size = length c.args.key.now; next = 0 } in
    let start : length bytes ≡ c.len-start.result = search rules in
    let whole : c.as_mut_slice.result.now ≡ links ++ made (length bytes) ∷ [] =
    c.as_mut_slice.ensures.value ∙ c.push_reserved.ensures.items ∙ ap (λ s. links ++ made s ∷ []) (sym start) in
    let same : map stored c.attach.new.links ≡ map stored (links ++ made (length bytes) ∷ []) = c.attach.ensures.stored ∙ ap (map stored) whole in
    let lent : take c.push_reserved.new.self.len (c.attach.new.links ++ drop (length c.attach.new.links) c.push_reserved.new.self.items) ≡ c.attach.new.links =
    take-append_all _ _ _ (search rules) in
    rw (lent, c.in_ok-extend_from_slice.ensures.items)
    (keys_of-pushed c.args.seed heads links bytes c.args.hash c.args.key.now c.requires.sound c.attach.new.links same)
