use Rattle.std.proofs.Common.{◌∙◌, sym}
use Rattle.std.specs.Prelude.{map}
use Rattle.std.proofs.lemmas.List.Elements.{All-push}
use Rattle.serde_json.specs.View.{view}
use Rattle.ps_document.proofs.Lists.{list_same, one_more, part_at}
use Rattle.ps_document.proofs.parts.list_from.Goals as goal

pub returns-in-None-clause-none : goal.returns-in-None-clause-none
returns-in-None-clause-none g c = λ xs e.
    let same = list_same (map view c.in-Some.items.now) (map g.T.FromJson.json xs) (sym c.in-Some.ensures.some ∙ e) in
    let found = part_at view g.T.FromJson.json c.in-Some.items.now xs c.loop-item.item-index c.item-item.result same c.loop-item-test.true c.item-item.is in
    (rw c.in-None.is at c.in_ok-part.ensures.none) found.0 found.1

pub loop-item-preserved : goal.loop-item-preserved
loop-item-preserved g c =
    let i = c.loop-item.invariant in
    record {
      json = rw c.in_ok-push-in-Some-2.ensures.items (one_more view g.T.FromJson.json c.in-Some.items.now c.loop-item.item-index c.item-item.result c.loop-item.parts.items c.in-Some-2.part c.loop-item-test.true c.item-item.is i.json (rw c.in-Some-2.is at c.in_ok-part.ensures.some));
      stand = rw c.in_ok-push-in-Some-2.ensures.items (All-push g.T.FromJson.stands c.loop-item.parts.items c.in-Some-2.part i.stand (rw c.in-Some-2.is at c.in_ok-part.ensures.stands));
    }
