use Rattle.std.proofs.Common.{ap, cond, true, ◌∙◌}
use Rattle.std.proofs.lemmas.Map.Text.{btree_set_updates_text}
use Rattle.std.specs.BTreeSet.{contains_text}
use Rattle.std.specs.Prelude.{string_bytes}
use Rattle.std.specs.Str.{bytes_eq}
use Rattle.ps_meaning.specs.Steps.{Name}
use Rattle.group_lowering.proofs.DistinctLemmas.{set_next}
use Rattle.group_lowering.proofs.kept.set_of.Goals as goal

pub loop-name-preserved : goal.loop-name-preserved
loop-name-preserved c =
    set_next c.args.names.now c.loop-name.name-index c.name-item.result (contains_text c.loop-name.set) (contains_text c.insert.new.self) c.loop-name-test.true c.name-item.is c.loop-name.invariant
    (λ n. btree_set_updates_text (string_bytes c.in_ok-text.text) c.loop-name.set c.insert.new.self true c.in_ok-insert.ensures.updates n ∙ ap (λ (m : Name). cond (bytes_eq m n) true (contains_text c.loop-name.set n)) (c.in_ok-text.ensures.ok ∙ c.as_str.ensures))
