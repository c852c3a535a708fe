-- `event_window::plausible_window` meets its contract.
use native.Mathlib.Omega.{arith}
use Rattle.event_window.proofs.Search.{stands, implausible}
use Rattle.event_window.proofs.plausible_window.Goals as goal

pub returns-in-Ends : goal.returns-in-Ends
returns-in-Ends c =
    stands _ _ (omega arith) c.u64_at-low.ensures c.u64_at-high.ensures (rw (← c.f64_of_bits.ensures, ← c.f64_of_bits-then-remaining-ge16.ensures) c.window_of-window.ensures) c.in-Ends.is

pub returns-in_default : goal.returns-in_default
returns-in_default c =
    implausible _ _ (omega arith) c.u64_at-low.ensures c.u64_at-high.ensures (rw (← c.f64_of_bits.ensures, ← c.f64_of_bits-then-remaining-ge16.ensures) c.window_of-window.ensures) c.in_default.is
