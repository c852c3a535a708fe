-- `pairs::write_pairs` meets its contract: a turn writes one chunk's pairs through the tails of both slices (`Writing`).
use mathlib.Core.Path.{refl, ap, sym, ◌∙◌}
use native.Mathlib.Omega.{arith}
use Rattle.refusal.specs.Number.{outcome_of}
use Rattle.packet_profile.proofs.Signals.{There, there, missing}
use Rattle.pairs.proofs.Writing.{writing_first, writing_more, writing_short, writing_all, mz_size, mz_within, intensity_within, with_chunk}
use Rattle.pairs.proofs.write_pairs.Goals as goal
use Rattle.pairs.proofs.write_pairs.Goals.{In-Ok}

pub loop-init : goal.loop-init
loop-init c =
    let a = c.args in
    writing_first a.profile a.coefficients.now a.run.now a.mz.now a.intensity.now

pub returns-in_default : goal.returns-in_default
returns-in_default c =
    let a = c.args in
    let l = c.loop in
    let all = writing_short _ _ _ _ _ c.requires.run_in_bounds c.requires.run_in_bounds_2 l.invariant (missing a.profile.fudged a.run.now l.at (sym (ap outcome_of c.in_default.is) ∙ c.signal_at.ensures)) in
    record { mz_after = all.0; intensity_after = all.1 }

-- the chunk of this turn is there
chunk_there : (c : In-Ok) → There c.args.profile.fudged c.args.run.now c.loop.at c.in-Ok.signal
chunk_there c = there _ _ _ c.in-Ok.ensures

pub offset_bounds-mz-n : goal.offset_bounds-mz-n
offset_bounds-mz-n c = omega (arith, mz_within _ _ _ _ _ c.requires.run_in_bounds c.requires.run_in_bounds_2 c.loop.invariant, mz_size _ _ _ _ _ c.requires.run_in_bounds c.requires.run_in_bounds_2 c.loop.invariant)

pub slice_bounds-write_chunk-count : goal.slice_bounds-write_chunk-count
slice_bounds-write_chunk-count c = omega (arith, mz_within _ _ _ _ _ c.requires.run_in_bounds c.requires.run_in_bounds_2 c.loop.invariant)

pub slice_bounds-write_chunk-start : goal.slice_bounds-write_chunk-start
slice_bounds-write_chunk-start c = omega (arith, mz_within _ _ _ _ _ c.requires.run_in_bounds c.requires.run_in_bounds_2 c.loop.invariant)

pub offset_bounds-intensity-n : goal.offset_bounds-intensity-n
offset_bounds-intensity-n c = omega (arith, mz_within _ _ _ _ _ c.requires.run_in_bounds c.requires.run_in_bounds_2 c.loop.invariant, mz_size _ _ _ _ _ c.requires.run_in_bounds c.requires.run_in_bounds_2 c.loop.invariant)

pub slice_bounds-write_chunk-count-in-loop : goal.slice_bounds-write_chunk-count-in-loop
slice_bounds-write_chunk-count-in-loop c = omega (arith, intensity_within _ _ _ _ _ c.requires.run_in_bounds c.requires.run_in_bounds_2 c.loop.invariant)

pub slice_bounds-write_chunk-start-in-loop : goal.slice_bounds-write_chunk-start-in-loop
slice_bounds-write_chunk-start-in-loop c = omega (arith, intensity_within _ _ _ _ _ c.requires.run_in_bounds c.requires.run_in_bounds_2 c.loop.invariant)

pub overflow_add-n : goal.overflow_add-n
overflow_add-n c = omega (arith, with_chunk _ _ _ _ _ c.requires.run_in_bounds c.requires.run_in_bounds_2 c.loop.invariant (omega (arith, c.loop-test.true)) (chunk_there (goal.at.overflow_add-n c).In-Ok), c.requires.run_in_bounds)

pub loop-preserved : goal.loop-preserved
loop-preserved c =
    writing_more _ _ _ _ _ c.requires.run_in_bounds c.requires.run_in_bounds_2 c.loop.invariant (omega (arith, c.loop-test.true)) (chunk_there (goal.at.loop-preserved c).In-Ok) _ _
    c.u32_at.ensures c.fudge_at.ensures c.write_chunk.result _ _ _ _ refl refl c.write_chunk.ensures

pub returns : goal.returns
returns c =
    let all = writing_all _ _ _ _ _ c.requires.run_in_bounds c.requires.run_in_bounds_2 c.loop.invariant (omega (arith, c.loop.invariant.passed)) in
    record { mz_after = all.0; intensity_after = all.1 }
