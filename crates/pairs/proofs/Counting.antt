-- A loop that counts the values of a profile's chunks.
use mathlib.Core.Path.{◌≡◌, ap, sym, ◌∙◌}
use Prim.Native.Nat.{ℕ, ◌+◌, ◌*◌, ◌-◌, ◌≤◌, ◌<◌}
use native.Mathlib.Nat.{add-zero, add_assoc}
use native.Mathlib.Omega.{arith}
use mathlib.Core.List.{List}
use Rattle.parser.specs.Parser.{short, parse}
use Rattle.parser.specs.Walk.{sum}
use Rattle.packet_profile.specs.Profile.{points, chunk}
use Rattle.packet_profile.specs.declared.Profile.{Profile}
use Rattle.pairs.specs.Pairs.{chunks_from, chunks_of}
use Rattle.packet_profile.specs.declared.Signal.{Signal}
use Rattle.packet_profile.proofs.Signals.{There, points_at}
use Rattle.pairs.proofs.Chunks.{chunks_none, chunks_more, chunks_done}

module _ (p : Profile) (s : List ℕ) where
  -- i chunks are passed, and the loop stands at `at`. Four times the values are at most that place, so their number fits
  pub record Counting (i at w : ℕ) : Type 0 where
    pub passed : i ≤ p.peak_count
    pub fits : w * 4 ≤ at
    pub total : sum points (chunks_of p s) ≡ w + sum points (chunks_from p.fudged s (p.peak_count - i) at)

  module _ {i at w : ℕ} (c : Counting i at w) where
    pub counting_more : i < p.peak_count → {v : Signal} → There p.fudged s at v → Counting (i + 1) v.next (w + v.points)
    counting_more l {v} t =
        let e = ap (sum points) (chunks_more p.fudged s p.peak_count i at l t.here) in
        record {
          passed = omega arith;
          fits = omega (arith, c.fits, t.starts, t.ends);
          total = c.total ∙ rw (e, points_at p.fudged s at v.points) (sym (add_assoc w v.points _));
        }

    pub counting_short : parse (chunk p.fudged) s at ≡ short → w ≡ sum points (chunks_of p s)
    counting_short h = sym (c.total ∙ rw (chunks_none p.fudged s (p.peak_count - i) at h, add-zero))

    pub counting_all : i ≡ p.peak_count → w ≡ sum points (chunks_of p s)
    counting_all e = let none = chunks_done p.fudged s p.peak_count at in sym (c.total ∙ rw (e, none, add-zero))
