-- Runs of bytes of one class.
use Rattle.std.specs.Prelude.{ℕ, Bool, false, List, [], ◌∷◌, ◌==◌, ◌||◌}
use Rattle.std.specs.Char.{is_ascii_digit, is_ascii_lowercase}
use Rattle.text_tokens.specs.declared.run.Class.{Class}
use Rattle.text_tokens.specs.declared.run.Class.TheVariants.{Blank, Digit, Letter, Word}

-- spaces and newlines
abbrev pub is_blank : ℕ → Bool
is_blank b = (b == 32) || (b == 10)

-- letters a to z, and `_`
abbrev pub is_letter : ℕ → Bool
is_letter b = is_ascii_lowercase b || (b == 95)

-- what a word goes on with
abbrev pub is_word_byte : ℕ → Bool
is_word_byte b = is_letter b || is_ascii_digit b

-- the bytes of each class
abbrev pub is_in : Class → ℕ → Bool
is_in Blank = is_blank
is_in Digit = is_ascii_digit
is_in Letter = is_letter
is_in Word = is_word_byte

-- whether there is a first element, and it passes
abbrev pub begins : (ℕ → Bool) → List ℕ → Bool
begins p [] = false
begins p (b ∷ bs) = p b
