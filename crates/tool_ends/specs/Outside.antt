-- What is read from outside and written to it. Bytes are told or not: `None` is a source or a sink that tells nothing.
use Rattle.std.specs.Prelude.{◌≡◌, ℕ, ◌<◌, ◌-◌, ◌^◌, ◌⊎◌, List, [], ◌++◌, length, Option, Some, None, ⊤}

-- A count of faults rose in a call: it is greater afterwards, or stands at the greatest number of 64 bits.
abbrev pub Rose : ℕ → ℕ → Type 0
Rose before after = (before < after) ⊎ (after ≡ 2 ^ 64 - 1)

-- the piece was the front of what was left, and is gone from it
abbrev pub TakesFront : Option (List ℕ) → List ℕ → Option (List ℕ) → Type 0
TakesFront None piece after = ⊤
TakesFront (Some bytes) piece after = (rest : List ℕ) × (bytes ≡ piece ++ rest) × (after ≡ Some rest)

-- nothing is left
abbrev pub IsAtEnd : Option (List ℕ) → Type 0
IsAtEnd None = ⊤
IsAtEnd (Some bytes) = bytes ≡ []

-- the piece was appended to what was written
abbrev pub Appends : Option (List ℕ) → List ℕ → Option (List ℕ) → Type 0
Appends None piece after = ⊤
Appends (Some bytes) piece after = after ≡ Some (bytes ++ piece)

-- these bytes were all that was left, and nothing is left any more
abbrev pub TakesAll : Option (List ℕ) → List ℕ → Option (List ℕ) → Type 0
TakesAll None piece after = ⊤
TakesAll (Some bytes) piece after = (bytes ≡ piece) × (after ≡ Some [])

-- more bytes than this many were left
abbrev pub IsLonger : ℕ → Option (List ℕ) → Type 0
IsLonger limit None = ⊤
IsLonger limit (Some bytes) = limit < length bytes

-- a front of the piece was appended to what was written
abbrev pub AppendsFront : Option (List ℕ) → List ℕ → Option (List ℕ) → Type 0
AppendsFront None piece after = ⊤
AppendsFront (Some bytes) piece after = (front rest : List ℕ) × (piece ≡ front ++ rest) × (after ≡ Some (bytes ++ front))

-- a text of which this holds was appended to what was written, or a front of one
abbrev pub Writes : (List ℕ → Type 0) → Option (List ℕ) → Option (List ℕ) → Type 0
Writes P before after = (text : List ℕ) × P text × Appends before text after

abbrev pub WritesFront : (List ℕ → Type 0) → Option (List ℕ) → Option (List ℕ) → Type 0
WritesFront P before after = (text : List ℕ) × P text × AppendsFront before text after

-- the line was written, whole unless a write failed, and then a front of it
abbrev pub Tells : Option (List ℕ) → List ℕ → Option (List ℕ) → ℕ → ℕ → Type 0
Tells before line after faults faults_after = AppendsFront before line after × (¬ Rose faults faults_after → Appends before line after)
