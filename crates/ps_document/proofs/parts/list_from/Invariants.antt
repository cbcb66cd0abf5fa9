use Rattle.std.proofs.Common.{◌≡◌, take}
use Rattle.std.specs.Prelude.{All, map}
use Rattle.serde_json.specs.View.{view}
use Rattle.ps_document.proofs.parts.list_from.Given as goal

abbrev pub invariant-loop-item : goal.invariant-loop-item
invariant-loop-item g l = record {
  json : map view (take l.item-index l.items) ≡ map g.T.FromJson.json l.parts.items;
  stand : All g.T.FromJson.stands l.parts.items;
}
