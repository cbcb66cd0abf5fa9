use Rattle.text_queries.proofs.Examples as example
use Rattle.text_queries.proofs.laws.worked_examples.Goals as goal

pub returns-clause-longest_signs : goal.returns-clause-longest_signs
returns-clause-longest_signs c = example.longest_signs

pub returns-clause-doubled_quotes : goal.returns-clause-doubled_quotes
returns-clause-doubled_quotes c = example.doubled_quotes

pub returns-clause-products_first : goal.returns-clause-products_first
returns-clause-products_first c = example.products_first

pub returns-clause-from_the_left : goal.returns-clause-from_the_left
returns-clause-from_the_left c = example.from_the_left

pub returns-clause-a_query : goal.returns-clause-a_query
returns-clause-a_query c = example.a_query

pub returns-clause-print : goal.returns-clause-print
returns-clause-print c = example.print
