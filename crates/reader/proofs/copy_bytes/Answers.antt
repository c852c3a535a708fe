-- The bytes that were found, if the slice holds them.
use mathlib.Core.Path.{refl}
use native.Mathlib.Omega.{arith}
use Rattle.lists.specs.Written.{over}
use Rattle.lists.proofs.Left.{list_no_room, list_written}
use Rattle.reader.proofs.copy_bytes.Goals as goal

pub returns-then-found-out : goal.returns-then-found-out
returns-then-found-out c = rw (← c.bytes-found.ensures) (list_no_room _ _ (omega arith))

pub returns : goal.returns
unfolding over
returns c = rw (← c.bytes-found.ensures) (list_written c.bytes-found.result.now c.args.out.now refl (omega arith) (rw (c.copy_from_slice.ensures.after) refl))
