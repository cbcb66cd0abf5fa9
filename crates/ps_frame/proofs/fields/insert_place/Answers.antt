use Rattle.std.proofs.Common.{List, ℕ, Some, if◌then◌else◌, ap, ◌∙◌}
use Rattle.std.proofs.lemmas.Map.Text.{btree_map_updates_text}
use Rattle.std.specs.BTreeMap.{get_by_text}
use Rattle.std.specs.Str.{bytes_eq}
use Rattle.std.specs.String.{string_bytes}
use Rattle.ps_frame.proofs.fields.insert_place.Goals as goal

pub returns-clause-put : goal.returns-clause-put
returns-clause-put c = λ other.
    btree_map_updates_text (string_bytes c.in_ok-key.key) c.args.places.now c.insert.new.self (Some c.args.place) c.in_ok-insert.ensures.updates other
    ∙ ap (λ (name : List ℕ). if bytes_eq name other then Some c.args.place else get_by_text c.args.places.now other) c.in_ok-key.ensures.ok
