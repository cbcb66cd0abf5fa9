use Rattle.std.proofs.Common.{◌≡◌, ◌-◌, ◌<◌, Some, slice_get, length, get_or, subst, sym, ap, ◌∙◌, arith}
use Rattle.std.proofs.lemmas.List.{get_or-map}
use Rattle.pu_map.specs.declared.key_table.Link.{Link}
use Rattle.pu_map.specs.Chains.{bucket_of, IsLast}
use Rattle.pu_map.specs.Links.{hashes, key_of, keys_of}
use Rattle.pu_map.proofs.LinkLemmas.{key_at, stored_at, IsOnChain-start, IsOnChain-next}
use Rattle.pu_map.proofs.key_table.find_link.Goals as goal

unfoldable no_link : Link
no_link = record { hash = 0; start = 0; size = 0; next = 0 }

pub chain-init : goal.chain-init
chain-init c =
    let b = bucket_of c.args.seed (length c.args.heads.now) in
    let links = c.args.links.now in
    let place = get_or c.args.heads.now c.bucket_of.result 0 in
    let last = c.requires.chained.heads_are_last c.bucket_of.result c.bucket_of.ensures.within in
    IsOnChain-start b c.args.bytes.now links c.args.hash c.args.key.now place
    (subst (λ k. IsLast b (hashes links) k place (length links)) c.bucket_of.ensures.value last)

pub is_key-requires : goal.is_key-requires
unfolding no_link
is_key-requires c =
    c.requires.within (c.chain.next - 1) _ (stored_at c.args.links.now (c.chain.next - 1) no_link (omega (arith, c.chain.invariant.within)))

pub returns-then-is_key-clause-found : goal.returns-then-is_key-clause-found
unfolding no_link
returns-then-is_key-clause-found c =
    key_at c.args.bytes.now c.args.links.now (c.chain.next - 1) no_link (omega (arith, c.chain.invariant.within))
    ∙ ap Some (c.is_key.ensures.0 c.if-is_key.true)

pub chain-preserved : goal.chain-preserved
unfolding no_link
chain-preserved c =
    let b = bucket_of c.args.seed (length c.args.heads.now) in
    let links = c.args.links.now in
    let p = c.chain.next - 1 in
    let within : p < length links = omega (arith, c.chain.invariant.within) in
    let here = key_at c.args.bytes.now links p no_link within in
    let differs : slice_get (keys_of c.args.bytes.now links) p ≡ Some (c.args.hash, c.args.key.now) → ⊥ =
    λ found.
    let both = sym here ∙ found in
    let same : key_of c.args.bytes.now (get_or links p no_link) ≡ (c.args.hash, c.args.key.now) = cc in
    let yes = c.is_key.ensures.1 same in
    let no = c.if-is_key.false in
    cc in
    let next = IsOnChain-next b c.args.bytes.now links c.args.hash c.args.key.now c.args.heads.now c.chain.next _
    c.requires.chained (omega arith) (sym (get_or-map (λ l. l.next) links p no_link 0 within)) differs c.chain.invariant in
    next.0
