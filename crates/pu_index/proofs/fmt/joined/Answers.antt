use Rattle.std.proofs.Common.{rules, sym}
use Rattle.pu_index.proofs.Listings.{lead-more, listed-next}
use Rattle.pu_index.proofs.fmt.joined.Goals as goal

pub loop-item-preserved : goal.loop-item-preserved
loop-item-preserved g c =
    let i = c.loop-item.invariant in (
      search rules,
      search rules,
      search rules,
      sym (lead-more c.loop-item.yielded c.in-Some.item),
      λ show shows. listed-next show c.loop-item.yielded c.in-Some.item _ i.3 (i.4 show shows) c.in_ok-push_str.ensures.bytes (rw (shows c.in-Some.item) at c.in_ok-write.ensures.bytes),
    )
