use Rattle.std.proofs.Common.{◌≡◌, ◌++◌, List, length, reverse, map}
use Rattle.std.specs.List.{AllZip}
use Rattle.serde_json.specs.View.{view}
use Rattle.serde_json.specs.declared.value.Value.{Value}
use Rattle.ps_document.proofs.taking.take_items.Given as goal

abbrev pub invariant-items : goal.invariant-items
invariant-items g l = (taken : List Value) × AllZip (g.T.TakeJson.is_json l.context) l.parts.items (map view taken) × (taken ++ reverse l.left.items ≡ l.fn.items.items)

abbrev pub decreases-items : goal.decreases-items
decreases-items g l = length l.left.items
