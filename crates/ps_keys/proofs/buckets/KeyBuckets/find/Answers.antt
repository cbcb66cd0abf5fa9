use Rattle.std.proofs.Common.{◌≡◌, ◌<◌, ◌-◌, length, get_or, subst, sym, ap, ◌∙◌, arith, rules}
use Rattle.std.proofs.lemmas.Grind.{get_or_default_zero}
use Rattle.ps_keys.specs.Hashes.{row_at}
use Rattle.ps_keys.proofs.KeyChains.{IsOnChain, IsOnChain-start, IsOnChain-next, bucket_in, nexts-long}
use Rattle.ps_keys.proofs.buckets.KeyBuckets.find.Goals as goal

pub loop-init : goal.loop-init
loop-init c =
    let row = row_at c.args.columns.now in
    let t = c.args.self.now in
    let is : c.hash_to_partition.result ≡ bucket_in t c.args.hash = search rules in
    let within = c.hash_to_partition.ensures.below (search rules) in
    let count : c.len.result ≡ length t.heads.items = search rules in
    let inside : c.hash_to_partition.result < length t.heads.items = subst (λ n. c.hash_to_partition.result < n) count within in
    let start = IsOnChain-start row t c.args.row c.args.hash c.requires.sound c.requires.hash (subst (λ b. b < length t.heads.items) is inside) in
    subst (IsOnChain row t c.args.row c.args.hash) (ap (λ b. get_or t.heads.items b 0) (sym is) ∙ sym (c.index-next.ensures ∙ get_or_default_zero t.heads.items c.hash_to_partition.result c.index-next.result.now inside)) start

pub loop-preserved : goal.loop-preserved
loop-preserved c =
    let step = IsOnChain-next (row_at c.args.columns.now) c.args.self.now c.args.row c.args.hash c.loop.next c.requires.sound c.requires.hash (omega arith)
    (λ same. let yes = c.is_key_of.ensures.1 same in let no = c.if-is_key_of.false in cc) c.loop.invariant in
    let short : c.loop.next - 1 < length c.args.self.now.nexts.items = omega (arith, nexts-long (row_at c.args.columns.now) c.args.self.now c.requires.sound, c.loop.invariant.within) in
    let read = c.index-next-in-loop.ensures ∙ get_or_default_zero c.args.self.now.nexts.items (c.loop.next - 1) c.index-next-in-loop.result.now short in
    subst (IsOnChain (row_at c.args.columns.now) c.args.self.now c.args.row c.args.hash) (sym read) step.0
