-- What stands behind the word of a temporary name.
use Rattle.std.proofs.Common.{◌≡◌, ◌≢◌, ℕ, ◌<◌, ◌^◌, List, ◌++◌, drop, sym, ap, ◌∙◌}
use Rattle.std.specs.Prelude.{None, Result, Some, decimal}
use Rattle.std.specs.Result.{result_ok}
use Rattle.std.specs.Str.Parse.{ParsesUnsigned}
use Rattle.std.specs.Str.Pattern.{FindsTextPrefix, StripsPrefix}
use Rattle.std.proofs.lemmas.Fmt.{parse-decimal}
use Rattle.std.proofs.lemmas.List.{append_cancel_left}

-- a text that begins with the word isn't one in which it wasn't found
pub found : (word s rest : List ℕ) → FindsTextPrefix word s None → s ≢ word ++ rest
found word s rest h e = h rest e

-- what is left is what stands behind it
pub left : (word s rest x : List ℕ) → StripsPrefix (FindsTextPrefix word) s x → s ≡ word ++ rest → x ≡ rest
left word s rest x h e = h.2 ∙ append_cancel_left word (drop h.0 s) rest (sym h.1.1 ∙ e)

-- and reads as the number that is written there
pub reads : {E : Type 0} (k : ℕ) (x : List ℕ) (r : Result ℕ E) → k < 2 ^ 64 → x ≡ decimal k → ParsesUnsigned 64 10 x r → result_ok r ≡ Some k
reads k x r lt e h = ap result_ok (parse-decimal 64 k x r lt lt e h)
