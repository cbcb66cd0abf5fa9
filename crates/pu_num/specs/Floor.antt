-- Division that rounds down.
use Rattle.std.specs.Prelude.{ℤ, pos, negsuc, suc, ◌/◌, neg_ℤ, ◌-ℤ◌, ◌*ℤ◌, ◌<ℤ◌, ◌≤ℤ◌}
use Rattle.std.specs.Int.{div_ceil}

-- the greatest whole number that is at most a / b
abbrev pub floor_div : ℤ → ℤ → ℤ
floor_div (pos a) (pos b) = pos (a / b)
floor_div (pos a) (negsuc b) = neg_ℤ (pos (div_ceil a (suc b)))
floor_div (negsuc a) (pos b) = neg_ℤ (pos (div_ceil (suc a) b))
floor_div (negsuc a) (negsuc b) = pos (suc a / suc b)

-- what that leaves of a
abbrev pub floor_mod : ℤ → ℤ → ℤ
floor_mod a b = a -ℤ (b *ℤ floor_div a b)

-- r lies from 0 up to b, or from b up to 0, without b itself
pub record IsFloorRemainder (r b : ℤ) : Type 0 where
  pub above : pos 0 <ℤ b → (pos 0 ≤ℤ r) × (r <ℤ b)
  pub below : b <ℤ pos 0 → (b <ℤ r) × (r ≤ℤ pos 0)
