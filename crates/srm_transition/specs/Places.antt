-- The places that pass a test.
use Rattle.std.specs.Prelude.{ℕ, ◌+◌, ◌-◌, Bool, List}
use Rattle.lists.specs.Written.{each}
use Rattle.lists.specs.Filter.{filter}

-- the places from `from` on, below `end`, that pass
unfoldable pub places_where : (ℕ → Bool) → ℕ → ℕ → List ℕ
places_where test from end = filter test (each (λ k. from + k) (end - from))
