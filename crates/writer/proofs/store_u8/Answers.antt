-- `writer::store_u8` meets its contract.
use mathlib.Core.Path.{◌≡◌, refl, ◌∙◌}
use Prim.Native.Nat.{◌%◌}
use native.Mathlib.Omega.{arith}
use Rattle.layout.specs.Layout.{le_bytes}
use Rattle.writer.proofs.store_u8.Goals as goal

pub returns : goal.returns
unfolding le_bytes
returns c = let a = c.args in let e : a.x % 256 ≡ a.x = omega arith in c.store_array.ensures ∙ rw e refl
