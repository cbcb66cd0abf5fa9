use Rattle.std.proofs.Common.{List, ℕ, cond, ap, ◌∙◌, arith}
use Rattle.std.specs.Prelude.{Some, position, take}
use Rattle.std.specs.Str.{bytes_eq}
use Rattle.std.specs.String.{string_bytes}
use Rattle.std.proofs.lemmas.Map.Text.{btree_map_updates_text}
use Rattle.text_plans.proofs.Places.{placed}
use Rattle.text_plans.proofs.tables.places_of.Goals as goal

pub loop-place-preserved : goal.loop-place-preserved
loop-place-preserved c = λ q.
    btree_map_updates_text (string_bytes c.in_ok-key.key) c.loop-place.places c.insert.new.self (Some c.loop-place.place) c.in_ok-insert.ensures.updates q
    ∙ (λ i. cond (bytes_eq (c.in_ok-key.ensures.ok i) q) (Some c.loop-place.place) (c.loop-place.invariant q i))
    ∙ ap (λ (name : List ℕ). cond (bytes_eq name q) (Some c.loop-place.place) (position (bytes_eq q) (take c.loop-place.place c.args.names.now))) c.as_str.ensures
    ∙ placed c.args.names.now c.loop-place.place c.index-names-place.result q c.requires (omega arith) c.index-names-place.is
