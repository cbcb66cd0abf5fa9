use Rattle.ps_frame.specs.Trees.{tree_at}
use Rattle.ps_meaning.specs.Schemas.{bare_names, is_among}
use Rattle.ps_meaning.specs.Steps.{Name, key_trees}
use Rattle.ps_validate.proofs.BareNames.{bare-next, bare-skip, later-complete}
use Rattle.ps_validate.proofs.keys.column_names.Goals as goal
use Rattle.ps_validate.proofs.keys.column_names.Goals.{in-Some+in_ok-name+in_ok-insert, in_default}
use Rattle.std.proofs.Common.{◌∙◌, ap, drop, true, cond}
use Rattle.std.proofs.lemmas.Map.Text.{btree_set_updates_text}
use Rattle.std.specs.BTreeSet.{contains_text}
use Rattle.std.specs.Prelude.{Bool, ◌||◌, string_bytes}
use Rattle.std.specs.Str.{bytes_eq}

pub loop-key-preserved : goal.loop-key-preserved
loop-key-preserved c =
    let whole : Name → Bool = λ n. is_among n (bare_names (key_trees (tree_at c.args.arena.now.items) c.args.keys.now)) in
    elim c.match-column_name.branch [
      | in-Some+in_ok-name+in_ok-insert w ↦ record {
        complete = later-complete (tree_at c.args.arena.now.items) c.args.keys.now c.loop-key.key-index c.key-item.result c.loop-key-test.true c.key-item.is c.loop-key.invariant.complete;
        names = bare-next (tree_at c.args.arena.now.items) c.args.keys.now c.loop-key.key-index c.key-item.result c.loop-key-test.true c.key-item.is w.in-Some.name.now (contains_text c.loop-key.names) (contains_text c.match-column_name.names) whole w.in-Some.ensures
            (λ n. ap (λ s. contains_text s n) w.names-is ∙ btree_set_updates_text (string_bytes w.in_ok-name.name) c.loop-key.names w.insert.new.self true w.in_ok-insert.ensures.updates n ∙ ap (λ (m : Name). cond (bytes_eq m n) true (contains_text c.loop-key.names n)) (w.in_ok-name.ensures.ok ∙ w.as_str.ensures)) c.loop-key.invariant.names;
      }
      | in_default w ↦ record {
        complete = later-complete (tree_at c.args.arena.now.items) c.args.keys.now c.loop-key.key-index c.key-item.result c.loop-key-test.true c.key-item.is c.loop-key.invariant.complete;
        names = bare-skip (tree_at c.args.arena.now.items) c.args.keys.now c.loop-key.key-index c.key-item.result c.loop-key-test.true c.key-item.is (contains_text c.match-column_name.names) whole w.in_default.ensures
            (λ n. ap (λ s. contains_text s n || is_among n (bare_names (key_trees (tree_at c.args.arena.now.items) (drop c.loop-key.key-index c.args.keys.now)))) w.names-is ∙ c.loop-key.invariant.names n);
      }
    ]
