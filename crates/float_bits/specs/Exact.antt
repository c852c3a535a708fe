-- The exact value of a finite float without its sign, `num` / `den`: `fin s m e` is m * 2 ^ e, and `negsuc k` is -(k + 1). An infinity and NaN have 0 / 1.
use Rattle.std.specs.Prelude.{ℕ, suc, ◌*◌, ◌^◌, pos, negsuc, Float}
use Rattle.std.specs.Float.{nan, inf, fin}

abbrev pub num : Float → ℕ
num nan = 0
num (inf s) = 0
num (fin s m (pos k)) = m * 2 ^ k
num (fin s m (negsuc k)) = m

abbrev pub den : Float → ℕ
den nan = 1
den (inf s) = 1
den (fin s m (pos k)) = 1
den (fin s m (negsuc k)) = 2 ^ suc k
