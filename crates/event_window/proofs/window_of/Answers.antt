-- `event_window::window_of` meets its contract: each way out of the `&&` says which tests held on it.
use mathlib.Core.Path.{◌≡◌, refl, sym, ◌∙◌}
use lib.Ieee.{binary64, of_bits, round}
use lib.Ieee.{of_int}
use Rattle.event_window.specs.Window.{lowest}
use Rattle.float_bits.specs.Numbers.{largest_mass}
use Rattle.event_window.proofs.window_of.Goals as goal
use Rattle.event_window.proofs.window_of.Goals.{else-is_finite-via-then-is_finite+then-is_finite-2+then-low+then-low-high+else-high, else-is_finite-via-then-is_finite+then-is_finite-2+then-low+else-low-high, else-is_finite-via-then-is_finite+then-is_finite-2+else-low, else-is_finite-via-then-is_finite+else-is_finite-2, else-is_finite-via-else-is_finite}

-- 0.1 and 50,000 as the code has them, by their patterns
lowest_is : of_bits binary64 0x3fb9_9999_9999_999a ≡ lowest
unfolding of_bits round lowest
lowest_is = refl

highest_is : of_bits binary64 0x40e8_6a00_0000_0000 ≡ largest_mass
unfolding of_bits of_int largest_mass
highest_is = refl

pub returns-then-high : goal.returns-then-high
returns-then-high c =
    simp (← lowest_is, ← highest_is, sym c.is_finite.ensures ∙ c.if-is_finite.true, sym c.is_finite-then-is_finite.ensures ∙ c.if-is_finite-2.true, c.if-low.true, c.if-low-high.true, c.if-high.true)

-- the five ways to `else`, from the last test back to the first
pub returns-else-is_finite : goal.returns-else-is_finite
returns-else-is_finite c =
    let f = sym c.is_finite.ensures in
    elim c.else-is_finite.branch [
      | else-is_finite-via-then-is_finite+then-is_finite-2+then-low+then-low-high+else-high w ↦
          simp (← lowest_is, ← highest_is, f ∙ w.if-is_finite.true, sym w.is_finite-then-is_finite.ensures ∙ w.if-is_finite-2.true, w.if-low.true, w.if-low-high.true, w.if-high.false)
      | else-is_finite-via-then-is_finite+then-is_finite-2+then-low+else-low-high w ↦
          simp (← lowest_is, f ∙ w.if-is_finite.true, sym w.is_finite-then-is_finite.ensures ∙ w.if-is_finite-2.true, w.if-low.true, w.if-low-high.false)
      | else-is_finite-via-then-is_finite+then-is_finite-2+else-low w ↦
          simp (← lowest_is, f ∙ w.if-is_finite.true, sym w.is_finite-then-is_finite.ensures ∙ w.if-is_finite-2.true, w.if-low.false)
      | else-is_finite-via-then-is_finite+else-is_finite-2 w ↦ simp (f ∙ w.if-is_finite.true, sym w.is_finite-then-is_finite.ensures ∙ w.if-is_finite-2.false)
      | else-is_finite-via-else-is_finite w ↦ simp (f ∙ w.if-is_finite.false)
    ]
