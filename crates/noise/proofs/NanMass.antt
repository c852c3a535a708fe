-- L2: an m/z that is NaN has no noise, and every other m/z gets what it got.
use Rattle.std.specs.Prelude.{None}
use mathlib.Core.Path.{◌≡◌}
use mathlib.Core.Bool.{true, false}
use mathlib.Core.List.{List}
use Prim.Native.Nat.{ℕ}
use lib.Ieee.{Float, binary64, is_nan, of_bits}
use Rattle.float_narrow.specs.Narrow.{narrow}
use Rattle.noise.specs.Nodes.{NodeBits}
use Rattle.noise.specs.Line.{noise_of, noise_at}
use Rattle.noise.specs.Labels.{label_of}

-- ---- the look-up. The right side is document 01's, which is the Rust's
pub number_as_before : (mz : Float) (nodes : List NodeBits) → is_nan mz ≡ false → noise_at mz nodes ≡ noise_of (narrow mz) nodes
number_as_before mz nodes h = rw h

pub nan_none : (mz : Float) (nodes : List NodeBits) → is_nan mz ≡ true → noise_at mz nodes ≡ None
nan_none mz nodes h = rw h

-- ---- a label, by the mass's bits
pub number_label : (m : ℕ) (nodes : List NodeBits) → is_nan (of_bits binary64 m) ≡ false → label_of (noise_at (of_bits binary64 m) nodes) ≡ label_of (noise_of (narrow (of_bits binary64 m)) nodes)
number_label m nodes h = rw h

pub nan_label : (m : ℕ) (nodes : List NodeBits) → is_nan (of_bits binary64 m) ≡ true → label_of (noise_at (of_bits binary64 m) nodes) ≡ record { flag = 0; noise = 0; baseline = 0 }
nan_label m nodes h = rw h
