-- How a source cuts its rows into morsels: into a multiple of the workers' number.
use Rattle.std.specs.Prelude.{ℕ, ◌+◌, ◌-◌, ◌*◌, ◌/◌, Bool, ◌&&◌, List, length, max, take, drop, nat_lt, nat_le}
use Rattle.ps_frame.specs.Tables.{Row}
use Rattle.ps_options.specs.declared.options.Options.{Options}

abbrev pub round_up : ℕ → ℕ → ℕ
round_up n k = (n + (k - 1)) / k * k

abbrev pub cuts_of : Options → ℕ → ℕ
cuts_of o n = round_up (max (n / o.morsel_rows) 1) o.workers

abbrev pub morsel_size : Options → ℕ → ℕ
morsel_size o n = max ((n + (cuts_of o n - 1)) / cuts_of o n) 1

-- a morsel is sent even of no rows
abbrev pub is_exhausted : Options → List Row → ℕ → Bool
is_exhausted o rs sent = nat_lt 0 sent && nat_le (length rs) (sent * morsel_size o (length rs))

abbrev pub cut_of_source : Options → List Row → ℕ → List Row
cut_of_source o rs k = take (morsel_size o (length rs)) (drop (k * morsel_size o (length rs)) rs)
