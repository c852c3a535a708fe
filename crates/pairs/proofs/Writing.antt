-- A loop that writes the pairs of a profile's chunks, each chunk's through the tails after those of the chunk before.
use Rattle.std.specs.Prelude.{Result}
use mathlib.Core.Path.{◌≡◌, refl, ap, sym, ◌∙◌}
use Prim.Native.Nat.{ℕ, zero, suc, ◌+◌, ◌*◌, ◌-◌, ◌≤◌, ◌<◌}
use native.Mathlib.Nat.{sub-zero}
use native.Mathlib.Omega.{arith}
use mathlib.Core.Bool.{Bool}
use mathlib.Core.List.{List, [], ◌∷◌, ◌++◌, append-nil, append_assoc, map-append}
use lib.Ieee.{Float, binary32, of_bits}
use lib.ListN.{length, take, drop, length-append, length-map, length-take, length-drop}
use Rattle.refusal.specs.declared.Refusal.{Refusal}
use Rattle.lists.specs.Written.{each, over}
use Rattle.lists.specs.Left.{firsts, seconds, pairs_if_fit, LeftPairs}
use Rattle.lists.proofs.Laws.{length-each, get_or-each, over_none, over_tail, length_over}
use Rattle.parser.specs.Parser.{short, bytes, little_endian, parse}
use Rattle.parser.specs.Walk.{sum}
use Rattle.packet_profile.specs.Profile.{head_size, Chunk, points, chunk, fudge_at}
use Rattle.packet_profile.specs.declared.Profile.{Profile}
use Rattle.packet_profile.proofs.Chunks.{chunk_at}
use Rattle.calibration.specs.Convert.{mz_of, chunk_pairs}
use Rattle.calibration.specs.declared.Bins.{Bins}
use Rattle.calibration.proofs.Columns.{pairs_room}
use Rattle.pairs.specs.Pairs.{Pair, chunks_from, chunks_of, bins_of, pair_at, pairs_of, profile_pairs}
use Rattle.packet_profile.specs.declared.Signal.{Signal}
use Rattle.packet_profile.proofs.Signals.{There, points_at}
use Rattle.pairs.proofs.Chunks.{chunks_none, chunks_more, chunks_done}

each_below : {A : Type 0} (f g : ℕ → A) (n : ℕ) → ((i : ℕ) → i < n → f i ≡ g i) → each f n ≡ each g n
unfolding each
each_below f g zero h = refl
each_below f g (suc n) h = rw (each_below f g n (λ i l. h i (omega arith)), h n (omega arith))

-- ---- the pairs of one chunk, and of all
module _ (bins : Bins) (coefficients : List ℕ) where
  abbrev pairs_in : Chunk → List Pair
  pairs_in c = each (pair_at bins coefficients c) (points c)

  pub length_pairs : (cs : List Chunk) → length (pairs_of bins coefficients cs) ≡ sum points cs
  unfolding pairs_of
  length_pairs [] = refl
  length_pairs (c ∷ others) = length-append (pairs_in c) (pairs_of bins coefficients others) ∙ rw (length-each, length_pairs others)

  written_pairs : (fudged : Bool) (s : List ℕ) (at n : ℕ)
      → chunk_pairs bins (little_endian (bytes s at 4)) (fudge_at fudged s at) coefficients s (at + head_size fudged) n ≡ pairs_in (chunk_at fudged s at n)
  unfolding chunk_pairs pair_at
  written_pairs fudged s at n =
      rw (points_at fudged s at n)
      (each_below _ _ n
      (λ i l.
      ap (λ (b : ℕ). (mz_of bins (little_endian (bytes s at 4)) (fudge_at fudged s at) coefficients i, of_bits binary32 b))
      (sym (get_or-each (λ k. little_endian (bytes s (at + head_size fudged + k * 4) 4)) n i 0 l))))

-- there is a pair for each value of the chunks
pub counted : (p : Profile) (coefficients s : List ℕ) → length (profile_pairs p coefficients s) ≡ sum points (chunks_of p s)
unfolding profile_pairs
counted p coefficients s = length_pairs (bins_of p) coefficients (chunks_of p s)

-- ---- the loop
module _ (p : Profile) (coefficients s : List ℕ) (mz₀ intensity₀ : List Float) where
  -- i chunks are passed: their pairs are in `pairs`, n of them, and the loop stands at `at`
  pub record Writing (mz intensity : List Float) (n i at : ℕ) : Type 0 where
    pub passed : i ≤ p.peak_count
    pub pairs : List Pair
    pub total : profile_pairs p coefficients s ≡ pairs ++ pairs_of (bins_of p) coefficients (chunks_from p.fudged s (p.peak_count - i) at)
    pub count : length pairs ≡ n
    pub in_mz : mz ≡ over (firsts pairs) mz₀
    pub in_intensity : intensity ≡ over (seconds pairs) intensity₀

  pub writing_first : Writing mz₀ intensity₀ 0 0 p.chunks_at
  unfolding profile_pairs
  writing_first =
      record { passed = omega arith; pairs = []; total = rw sub-zero; count = refl; in_mz = sym (over_none mz₀); in_intensity = sym (over_none intensity₀) }

  module _ (room-mz : sum points (chunks_of p s) ≤ length mz₀) (room-intensity : sum points (chunks_of p s) ≤ length intensity₀)
      {mz intensity : List Float} {n i at : ℕ} (w : Writing mz intensity n i at) where
    -- what is written is part of the whole
    so_far : n ≤ sum points (chunks_of p s)
    so_far =
        let e : sum points (chunks_of p s) ≡ length w.pairs + length (pairs_of (bins_of p) coefficients (chunks_from p.fudged s (p.peak_count - i) at)) =
        sym (counted p coefficients s) ∙ ap length w.total ∙ length-append w.pairs _ in
        omega (arith, w.count)

    pub mz_size : length mz ≡ length mz₀
    mz_size = rw w.in_mz (length_over (firsts w.pairs) mz₀ (rw (length-map w.pairs (λ (q : Pair). q.0)) (omega (arith, w.count, so_far))))

    pub intensity_size : length intensity ≡ length intensity₀
    intensity_size = rw w.in_intensity (length_over (seconds w.pairs) intensity₀ (rw (length-map w.pairs (λ (q : Pair). q.1)) (omega (arith, w.count, so_far))))

    pub mz_within : n ≤ length mz
    mz_within = omega (arith, mz_size, so_far)

    pub intensity_within : n ≤ length intensity
    intensity_within = omega (arith, intensity_size, so_far)

    no_more : chunks_from p.fudged s (p.peak_count - i) at ≡ [] → w.pairs ≡ profile_pairs p coefficients s
    unfolding pairs_of
    no_more h = sym (w.total ∙ rw (h, append-nil))

    all_written : w.pairs ≡ profile_pairs p coefficients s
        → (mz ≡ over (firsts (profile_pairs p coefficients s)) mz₀) × (intensity ≡ over (seconds (profile_pairs p coefficients s)) intensity₀)
    all_written e = (rw (← e) w.in_mz, rw (← e) w.in_intensity)

    pub writing_short : parse (chunk p.fudged) s at ≡ short
        → (mz ≡ over (firsts (profile_pairs p coefficients s)) mz₀) × (intensity ≡ over (seconds (profile_pairs p coefficients s)) intensity₀)
    writing_short h = all_written (no_more (chunks_none p.fudged s (p.peak_count - i) at h))

    pub writing_all : i ≡ p.peak_count
        → (mz ≡ over (firsts (profile_pairs p coefficients s)) mz₀) × (intensity ≡ over (seconds (profile_pairs p coefficients s)) intensity₀)
    writing_all e = all_written (no_more (let none = chunks_done p.fudged s p.peak_count at in rw e none))

    -- one chunk more
    module _ (less : i < p.peak_count) {v : Signal} (t : There p.fudged s at v) where
      new : List Pair
      new = pairs_in (bins_of p) coefficients (chunk_at p.fudged s at v.points)

      more : profile_pairs p coefficients s ≡ (w.pairs ++ new) ++ pairs_of (bins_of p) coefficients (chunks_from p.fudged s (p.peak_count - (i + 1)) v.next)
      unfolding pairs_of new
      more =
          let e = ap (pairs_of (bins_of p) coefficients) (chunks_more p.fudged s p.peak_count i at less t.here) in
          w.total ∙ rw e (sym (append_assoc w.pairs new _))

      size_new : length new ≡ v.points
      unfolding new
      size_new = length-each _ _ ∙ points_at p.fudged s at v.points

      pub with_chunk : n + v.points ≤ sum points (chunks_of p s)
      with_chunk =
          let e : sum points (chunks_of p s) ≡ length (w.pairs ++ new) + length (pairs_of (bins_of p) coefficients (chunks_from p.fudged s (p.peak_count - (i + 1)) v.next)) =
          sym (counted p coefficients s) ∙ ap length more ∙ length-append (w.pairs ++ new) _ in
          omega (arith, w.count, length-append w.pairs new, size_new)

      pub writing_more : (first_bin fudge : ℕ) → first_bin ≡ little_endian (bytes s at 4) → fudge ≡ fudge_at p.fudged s at → (r : Result ℕ Refusal) (ys zs : List Float) (k l : ℕ)
          → k ≡ length mz - n → l ≡ length intensity - n
          → LeftPairs (λ a b. pairs_if_fit a b (chunk_pairs (bins_of p) first_bin fudge coefficients s v.at v.points)) (take k (drop n mz)) (take l (drop n intensity)) r ys zs
          → Writing (take n mz ++ (ys ++ drop k (drop n mz))) (take n intensity ++ (zs ++ drop l (drop n intensity))) (n + v.points) (i + 1) v.next
      unfolding new
      writing_more first_bin fudge hb hf r ys zs k l hk hl left =
          let same : chunk_pairs (bins_of p) first_bin fudge coefficients s v.at v.points ≡ new = rw (hb, hf, t.starts) (written_pairs (bins_of p) coefficients p.fudged s at v.points) in
          let fit-mz : length new ≤ length (take k (drop n mz)) = simp (length-take, length-drop) (omega (arith, size_new, with_chunk, mz_size)) in
          let fit-intensity : length new ≤ length (take l (drop n intensity)) = simp (length-take, length-drop) (omega (arith, size_new, with_chunk, intensity_size)) in
          let both = pairs_room new (take k (drop n mz)) (take l (drop n intensity)) r fit-mz fit-intensity (rw same at left) in
          record {
            passed = omega arith;
            pairs = w.pairs ++ new;
            total = more;
            count = length-append w.pairs new ∙ omega (arith, w.count, size_new);
            in_mz = rw (map-append (λ (q : Pair). q.0) w.pairs new)
                (over_tail (firsts w.pairs) (firsts new) mz₀ mz ys n k (length-map w.pairs (λ (q : Pair). q.0) ∙ w.count) (omega (arith, so_far)) w.in_mz hk both.0);
            in_intensity = rw (map-append (λ (q : Pair). q.1) w.pairs new)
                (over_tail (seconds w.pairs) (seconds new) intensity₀ intensity zs n l (length-map w.pairs (λ (q : Pair). q.1) ∙ w.count) (omega (arith, so_far)) w.in_intensity hl both.1);
          }
