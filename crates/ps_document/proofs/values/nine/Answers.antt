use Rattle.std.proofs.Common.{◌∷◌, [], ap}
use Rattle.std.specs.Prelude.{map}
use Rattle.serde_json.specs.View.{view}
use Rattle.ps_document.proofs.Lists.{parts_length}
use Rattle.ps_document.proofs.NineItems.{nine_items}
use Rattle.ps_document.specs.Json.{list}
use Rattle.ps_document.proofs.values.nine.Goals as goal

pub returns-else-parts-eq9-clause-none : goal.returns-else-parts-eq9-clause-none
returns-else-parts-eq9-clause-none c = λ first a b d f g h i j k e. c.if-parts-eq9.false (parts_length view first c.args.parts.now (a ∷ b ∷ d ∷ f ∷ g ∷ h ∷ i ∷ j ∷ k ∷ []) e)

pub returns-then-parts-eq9-clause-some : goal.returns-then-parts-eq9-clause-some
returns-then-parts-eq9-clause-some c =
    ap (λ xs. list (map view xs)) (nine_items c.args.parts.now c.index-parts-0.result c.index-parts-1.result c.index-parts-2.result c.index-parts-3.result c.index-parts-4.result c.index-parts-5.result c.index-parts-6.result c.index-parts-7.result c.index-parts-8.result c.if-parts-eq9.true c.index-parts-0.is c.index-parts-1.is c.index-parts-2.is c.index-parts-3.is c.index-parts-4.is c.index-parts-5.is c.index-parts-6.is c.index-parts-7.is c.index-parts-8.is)
