use Rattle.std.proofs.Common.{◌≡◌, ◌++◌, ◌∷◌, [], ◌∙◌, sym, subst, reverse, append_assoc}
use Rattle.std.specs.Prelude.{map}
use Rattle.std.specs.List.{AllZip}
use Rattle.serde_json.specs.View.{view}
use Rattle.ps_document.proofs.Lists.{list_same, zip_at, zip_more}
use Rattle.ps_document.proofs.Taken.{taken_off}
use Rattle.ps_document.proofs.taking.take_items.Goals as goal

pub items-preserved-then-len-eq0 : goal.items-preserved-then-len-eq0
items-preserved-then-len-eq0 g c =
    let i = c.items.invariant in (
      i.0 ++ c.in-Some.item ∷ [],
      rw c.in_ok-push-in-Some-2.ensures.items (zip_more (g.T.TakeJson.is_json c.args.context.now) view c.items.parts.items i.0 c.in-Some-2.part c.in-Some.item i.1 (rw c.in-Some-2.is at c.in_ok-part.ensures.some)),
      rw c.shrink_to_fit.ensures.items (taken_off i.0 c.items.left.items c.pop.new.self.items c.args.items.items c.in-Some.item c.in-Some.ensures.items i.2),
    )

pub items-preserved : goal.items-preserved
items-preserved g c =
    let i = c.items.invariant in (
      i.0 ++ c.in-Some.item ∷ [],
      rw c.in_ok-push-in-Some-2.ensures.items (zip_more (g.T.TakeJson.is_json c.args.context.now) view c.items.parts.items i.0 c.in-Some-2.part c.in-Some.item i.1 (rw c.in-Some-2.is at c.in_ok-part.ensures.some)),
      taken_off i.0 c.items.left.items c.pop.new.self.items c.args.items.items c.in-Some.item c.in-Some.ensures.items i.2,
    )

pub returns-in-None-clause-none : goal.returns-in-None-clause-none
returns-in-None-clause-none g c = λ xs ds zip e.
    let i = c.items.invariant in
    let is_json = g.T.TakeJson.is_json c.args.context.now in
    let h = rw (← list_same (map view c.args.items.items) ds e) at zip in
    let all : i.0 ++ c.in-Some.item ∷ reverse c.pop.new.self.items ≡ c.args.items.items =
    sym (append_assoc i.0 (c.in-Some.item ∷ []) (reverse c.pop.new.self.items)) ∙ taken_off i.0 c.items.left.items c.pop.new.self.items c.args.items.items c.in-Some.item c.in-Some.ensures.items i.2 in
    let here = subst (λ ys. AllZip is_json xs (map view ys)) (sym all) h in
    let found = zip_at is_json view xs i.0 (reverse c.pop.new.self.items) c.in-Some.item here in
    (rw c.in-None.is at c.in_ok-part.ensures.none) found.0 found.1
