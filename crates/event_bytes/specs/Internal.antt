-- What private functions ask. No public promise cites it.
use Rattle.std.specs.Prelude.{ℕ, ◌^◌, ◌≤◌, ◌<◌}

-- sizes of an event that are small enough to be added
pub record Small (p r c : ℕ) : Type 0 where
  pub preamble : p ≤ 136
  pub reactions : r < 2 ^ 32
  pub coefficients : c < 2 ^ 32
