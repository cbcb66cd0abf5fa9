-- What is known of the readers of each node.
use Rattle.std.specs.Prelude.{◌≡◌, ℕ, ◌<◌, ◌≤◌, List, ◌++◌, length, Option, Some, None, IsSome, option_map}
use Rattle.keyed_slots.specs.Slots.{value_at}
use Rattle.ps_multiplexers.specs.Multiplexers.{multiplexer_number, times}
use Rattle.ps_multiplexers.specs.declared.readers.Readers.{Readers}
use Rattle.ps_multiplexers.specs.declared.readers.Readers.TheVariants.{One, Several}
use Rattle.ps_phys.specs.Shown.{stream_of}
use Rattle.ps_phys.specs.Walks.{Stream}
use Rattle.ps_phys.specs.declared.phys.PhysNode.{PhysNode}

-- one reader is noted
abbrev pub IsReadOnce : Option Readers → Type 0
IsReadOnce known = Some One ≡ known

-- what is noted of a node that was read so often, and has this multiplexer: its first port is the next one
abbrev pub IsNoted : (times : ℕ) → (number : Option ℕ) → Option Readers → Type 0
IsNoted k number None = (k ≡ 0) × (number ≡ None)
IsNoted k number (Some One) = (k ≡ 1) × (number ≡ None)
IsNoted k number (Some (Several s)) = (2 ≤ k) × (number ≡ Some s.node.0) × (s.port ≡ 0)

-- the readers of each node, after these nodes were read; those that were read again have multiplexers, numbered from the first one on
abbrev pub AreNoted : ℕ → (read several : List ℕ) → List (Option Readers) → Type 0
AreNoted first read several readers = (n : ℕ) → IsNoted (times n read) (multiplexer_number first several n) (value_at readers n)

-- the stream that the next reader takes, where there are several
abbrev pub next_stream : Option Readers → Option Stream
next_stream None = None
next_stream (Some One) = None
next_stream (Some (Several s)) = Some (stream_of s)

-- after these nodes were read, the next reader of a node that has a multiplexer takes the next port of it
abbrev pub HasPorts : (ℕ → Option ℕ) → List ℕ → List (Option Readers) → Type 0
HasPorts number before readers = (n : ℕ) → next_stream (value_at readers n) ≡ option_map (λ m. (m, times n before)) (number n)

-- from the first number on each slot has a node
abbrev pub IsFilledFrom : ℕ → List (Option PhysNode) → Type 0
IsFilledFrom first slots = (n : ℕ) → first ≤ n → n < length slots → IsSome (value_at slots n)

-- every slot is as before, and there may be more behind them
pub record Grows (old new : List (Option PhysNode)) : Type 0 where
  pub more : List (Option PhysNode)
  pub behind : new ≡ old ++ more
