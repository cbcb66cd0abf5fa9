-- The heads that are made of counts are those of stores of so many rows.
use Rattle.std.proofs.Common.{◌≡◌, ◌++◌, ◌∙◌, arith, drop, length, map, refl, sym, take}
use Rattle.plain_nodes.proofs.Stores.{all_counted, whole_written}
use Rattle.plain_nodes.specs.Seen.{counted_store}
use Rattle.plain_nodes.proofs.zip.ZipNode.see_heads.Goals as goal

pub returns-clause-heads : goal.returns-clause-heads
returns-clause-heads c outputs =
    let zip = c.args.self.now in
    let long : length c.see.new.heads ≡ c.args.self.now.heads.len = omega arith in
    let whole : take c.args.self.now.heads.len (c.see.new.heads ++ drop (length c.see.new.heads) c.args.self.now.heads.items) ≡ c.see.new.heads = whole_written c.see.new.heads (drop (length c.see.new.heads) c.args.self.now.heads.items) c.args.self.now.heads.len long in
    let made = c.see.ensures (map counted_store zip.came.items) (all_counted zip.came.items ∙ sym c.as_slice.ensures.value) in
    record { kind = refl; seen = sym (whole ∙ made) }
