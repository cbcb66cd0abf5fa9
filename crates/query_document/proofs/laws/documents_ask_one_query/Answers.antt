use Rattle.query_document.proofs.OneQuery.{one_query}
use Rattle.query_document.proofs.laws.documents_ask_one_query.Goals as goal

pub returns : goal.returns
returns c = one_query
