use Rattle.std.proofs.Common.{◌∷◌, [], ◌∙◌, ap, sym}
use Rattle.std.specs.Prelude.{map}
use Rattle.serde_json.specs.Data.{null}
use Rattle.serde_json.specs.View.{view}
use Rattle.ps_document.proofs.Lists.{list_same, where_nothing}
use Rattle.ps_document.specs.Json.{list}
use Rattle.ps_document.proofs.values.pair.Goals as goal

pub returns-clause-none : goal.returns-clause-none
returns-clause-none c =
    let items = c.in_ok-elements.field-0.now in
    where_nothing c.two.result (λ none a b e. none null a b (ap (λ ds. list (null ∷ ds)) (list_same (map view items) (a ∷ b ∷ []) (sym c.in_ok-elements.ensures.some ∙ e)))) c.two.ensures.none
