use Rattle.tool_words.proofs.Numerals.{too-large}
use Rattle.tool_words.proofs.settings.read_numeral.Goals as goal

pub returns-then-is_numeral-clause-none : goal.returns-then-is_numeral-clause-none
returns-then-is_numeral-clause-none c = rw c.ok.ensures.value (too-large c.args.word.now c.parse.result c.parse.ensures.value.0)
