-- Functions that answer nothing are lawful.
use Rattle.std.proofs.Common.{◌≡◌, ℕ, true, false}
use Rattle.ps_frame.specs.Functions.{IsLawful}
use Rattle.bare_nodes.specs.Uncalled.{unanswered}

pub none_lawful : (count : ℕ) → IsLawful (unanswered count)
none_lawful count =
    record {
      keeps_schema = λ n f g e. absurd (cc);
      keeps_rows = λ n f g fits e. absurd (cc);
      streams_empty = λ n s e. absurd (let no : false ≡ true = e in cc);
      streams_parts = λ n f g e. absurd (let no : false ≡ true = e in cc);
    }
