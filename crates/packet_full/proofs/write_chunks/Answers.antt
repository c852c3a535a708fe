-- The invariant is `Writing`, and a turn writes one chunk.
use mathlib.Core.Path.{◌≡◌, refl}
use native.Mathlib.Omega.{arith}
use Rattle.packet_full.specs.Internal.{chunk_list}
use Rattle.packet_full.proofs.Writing.{writing_none, signals_size, written_all, head_there, values_there, fits, turn_by}
use Rattle.packet_full.proofs.write_chunks.Goals as goal

pub loop-i-init : goal.loop-i-init
unfolding chunk_list
loop-i-init c =
    let a = c.args in
    let p = c.requires in
    writing_none _ _ a.run.now _ _ _ _ _ _ p.parsing.end p.parsing.there p.in_bins p.in_counts p.in_fudges (omega (arith, p.in_signal, p.parsing.values, signals_size (chunk_list a.p a.run.now)))

pub overflow_add-at : goal.overflow_add-at
overflow_add-at c = omega (arith, head_there c.loop-i.invariant (omega (arith, c.loop-i-test.true)) _ refl, c.head_size-head.ensures)

pub overflow_add-at-in-loop-i : goal.overflow_add-at-in-loop-i
overflow_add-at-in-loop-i c = omega (arith, head_there c.loop-i.invariant (omega (arith, c.loop-i-test.true)) _ refl, c.head_size-head.ensures)

pub offset_bounds-signal-written : goal.offset_bounds-signal-written
offset_bounds-signal-written c =
    let w = c.loop-i.invariant in
    omega (arith, fits w (omega (arith, c.loop-i-test.true)) c.u32_at-n.result c.u32_at-n.ensures, w.same)

pub slice_bounds-copy-count : goal.slice_bounds-copy-count
slice_bounds-copy-count c =
    let w = c.loop-i.invariant in
    omega (arith, fits w (omega (arith, c.loop-i-test.true)) c.u32_at-n.result c.u32_at-n.ensures, w.same)

pub slice_bounds-copy-start : goal.slice_bounds-copy-start
slice_bounds-copy-start c =
    let w = c.loop-i.invariant in
    omega (arith, fits w (omega (arith, c.loop-i-test.true)) c.u32_at-n.result c.u32_at-n.ensures, w.same)

pub overflow_add-written : goal.overflow_add-written
overflow_add-written c =
    let w = c.loop-i.invariant in
    omega (arith, fits w (omega (arith, c.loop-i-test.true)) c.u32_at-n.result c.u32_at-n.ensures, w.same)

pub overflow_add-at-in-loop-i-2 : goal.overflow_add-at-in-loop-i-2
overflow_add-at-in-loop-i-2 c =
    let w = c.loop-i.invariant in
    omega (arith, head_there w (omega (arith, c.loop-i-test.true)) c.u32_at-n.result c.u32_at-n.ensures, c.head_size-head.ensures)

pub overflow_add-at-in-loop-i-3 : goal.overflow_add-at-in-loop-i-3
overflow_add-at-in-loop-i-3 c =
    let w = c.loop-i.invariant in
    omega (arith, head_there w (omega (arith, c.loop-i-test.true)) c.u32_at-n.result c.u32_at-n.ensures, values_there w (omega (arith, c.loop-i-test.true)) c.u32_at-n.result c.u32_at-n.ensures, c.head_size-head.ensures.value)

pub loop-i-preserved : goal.loop-i-preserved
loop-i-preserved c =
    turn_by c.loop-i.invariant (omega (arith, c.loop-i-test.true)) c.u32_at-n.result c.u32_at-n.ensures c.u32_at.ensures refl c.fudge_at.ensures c.head_size-head.ensures.value _ c.copy.ensures.stands refl

pub returns : goal.returns
unfolding chunk_list
returns c =
    let all : c.loop-i.i ≡ c.args.p.peak_count = omega arith in
    written_all c.loop-i.invariant all
