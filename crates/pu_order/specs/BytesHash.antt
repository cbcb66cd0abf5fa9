-- What a text with its hash holds.
use Rattle.std.specs.Prelude.{ℕ, List, Option, option_copied}
use Rattle.pu_order.specs.declared.hashing.BytesHash.{BytesHash}

-- the bytes, or none
abbrev pub payload_of : BytesHash → Option (List ℕ)
payload_of b = option_copied b.payload

abbrev pub hash_of : BytesHash → ℕ
hash_of b = b.hash
