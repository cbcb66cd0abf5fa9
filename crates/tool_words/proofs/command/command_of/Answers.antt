use Rattle.std.proofs.Common.{◌≡◌, ◌∷◌, codes, map, string_bytes, rules}
use Rattle.tool_words.proofs.OneCommand.{only_from, run_from, text_from}
use Rattle.tool_words.proofs.command.command_of.Goals as goal

pub returns-in_ok-options-in-run-clause-only : goal.returns-in_ok-options-in-run-clause-only
returns-in_ok-options-in-run-clause-only c = only_from c.args.words.now _ (c.in_ok-options-in-run.ensures.some (codes "run") c.args.words.now (search rules)) tt

pub returns-in_ok-options-in-run-clause-run : goal.returns-in_ok-options-in-run-clause-run
returns-in_ok-options-in-run-clause-run c = run_from c.args.words.now _ (c.in_ok-options-in-run.ensures.some (codes "run") c.args.words.now (search rules)) tt

pub returns-in_ok-options-in-text-clause-only : goal.returns-in_ok-options-in-text-clause-only
returns-in_ok-options-in-text-clause-only c = only_from c.args.words.now _ (c.in_ok-options-in-text.ensures.some (codes "text") c.args.words.now (search rules)) tt

pub returns-in_ok-options-in-text-clause-text : goal.returns-in_ok-options-in-text-clause-text
returns-in_ok-options-in-text-clause-text c = text_from c.args.words.now _ (c.in_ok-options-in-text.ensures.some (codes "text") c.args.words.now (search rules)) tt

pub returns-in_ok-_settings-in-explain-clause-some : goal.returns-in_ok-_settings-in-explain-clause-some
returns-in_ok-_settings-in-explain-clause-some c =
    let f = c.in_ok-_settings-in-explain.ensures.some (codes "explain") c.args.words.now (search rules) in
    (f.0, f.1)
