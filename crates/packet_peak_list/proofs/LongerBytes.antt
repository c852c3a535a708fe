-- Demand 3 for the peaks of a packet.
use mathlib.Core.Path.{◌≡◌}
use Prim.Native.Nat.{ℕ, ◌+◌, ◌*◌, ◌^◌, ◌≤◌, ◌<◌}
use native.Mathlib.Nat.{mul-le-mul_left}
use native.Mathlib.Omega.{arith}
use mathlib.Core.Bool.{Bool, true, false}
use mathlib.Core.List.{List, []}
use lib.Dec.{eqb, lit≤}
use lib.ListN.{length}
use Rattle.refusal.specs.Outcome.{ok}
use Rattle.parser.specs.Parser.{done, word, skip, ◌>>=◌}
use Rattle.parser.specs.Call.{single}
use Rattle.parser.specs.LongerBytes.{OnLongerBytes, PrefixProperty, Names, Completes}
use Rattle.parser.proofs.Fixed.{sized_raw}
use Rattle.parser.proofs.Completion.{Bounded, bounded_more}
use Rattle.parser.proofs.DemandBound.{DemandBound, Any, demand_sized, demand_more, demand_cond, demand_done, demand_word, demand_bind}
use Rattle.parser.proofs.Calls.{not_truncated_pairs, prefix_property, only_part, single_completes}
use Rattle.parser.proofs.OnLongerBytes.{one_part, left_longer, plain_longer}
use Rattle.packet_header.specs.Header.{header}
use Rattle.packet_header.specs.declared.PacketHeader.{PacketHeader}
use Rattle.packet_header.proofs.LongerBytes.{Sizable, header_demand}
use Rattle.refusal.specs.Number.{outcome_of}
use Rattle.refusal.proofs.OneAnswer.{answer_one}
use Rattle.lists.specs.Left.{columns, pairs_if_fit, LeftPairs}
use Rattle.peaks.specs.Peaks.{Peak}
use Rattle.packet_peak_list.specs.PeakList.{is_wide, item_size, peak_list, list_place, read_peaks, skipping, skip_to_peaks, read_peaks_only}
use Rattle.packet_peak_list.proofs.Lists.{peaks, peaks_sized}
use Rattle.packet_peak_list.proofs.Skipping.{answered, paired, rest}

item_most : (wide : Bool) → item_size wide ≤ 12
item_most true = lit≤ tt
item_most false = lit≤ tt

-- a list of peaks asks for at most 4 + 2^36 bytes, and one of size 0 for none
module _ (far : ℕ) where
  peaks_demand : (wide : Bool) (n : ℕ) → n < 256 ^ 4 → DemandBound far (2 ^ 36) Any (peaks wide n)
  peaks_demand wide n h =
      demand_more far (n * item_size wide) (2 ^ 36) (peaks wide n) Any (omega (arith, mul-le-mul_left n (item_most wide))) (demand_sized far (n * item_size wide) (peaks wide n) (peaks_sized wide n))

  pub peak_list_demand : (h : PacketHeader) → DemandBound far (4 + 2 ^ 36) Any (peak_list h)
  unfolding peak_list
  peak_list_demand h =
      demand_cond far (4 + 2 ^ 36) (eqb h.peak_list_size 0) Any (done []) (word 4 >>= peaks (is_wide h.layout)) (demand_done far (4 + 2 ^ 36) Any [] tt)
      (demand_bind far 4 (2 ^ 36) (λ (n : ℕ). n < 256 ^ 4) Any (peaks (is_wide h.layout)) (peaks_demand (is_wide h.layout)) (word 4) (demand_word far 4))

  -- the profile is passed over by at most 2^34 bytes
  rest_demand : (h : PacketHeader) → Sizable h → DemandBound far (2 ^ 34 + (4 + 2 ^ 36)) (λ (p : PacketHeader × List Peak). Sizable p.0) (rest h)
  unfolding rest
  rest_demand h size =
      demand_bind far (2 ^ 34) (4 + 2 ^ 36) Any (λ (p : PacketHeader × List Peak). Sizable p.0) (λ _. peak_list h >>= paired h)
      (λ _ _. demand_bind far (4 + 2 ^ 36) 0 Any (λ (p : PacketHeader × List Peak). Sizable p.0) (paired h) (λ peaks _. demand_done far 0 (λ (p : PacketHeader × List Peak). Sizable p.0) (h, peaks) size) (peak_list h) (peak_list_demand h))
      (skip (h.profile_size * 4))
      (demand_more far (h.profile_size * 4) (2 ^ 34) (skip (h.profile_size * 4)) Any (omega (arith, size.profile)) (demand_sized far (h.profile_size * 4) (skip (h.profile_size * 4)) (sized_raw (h.profile_size * 4))))

  pub skipping_demand : DemandBound far (40 + (2 ^ 34 + (4 + 2 ^ 36))) (λ (p : PacketHeader × List Peak). Sizable p.0) skipping
  unfolding skipping rest
  skipping_demand = demand_bind far 40 (2 ^ 34 + (4 + 2 ^ 36)) Sizable (λ (p : PacketHeader × List Peak). Sizable p.0) rest rest_demand header (header_demand far)

skipping_bounded : Bounded (2 ^ 62) (2 ^ 61) skipping
skipping_bounded = bounded_more (2 ^ 62) (40 + (2 ^ 34 + (4 + 2 ^ 36))) (2 ^ 61) skipping (lit≤ tt) (skipping_demand (2 ^ 62)).bounded

module _ (at : ℕ) where
  -- the peaks alone
  module _ (m a : ℕ) where
    pub peaks_only_prefix : PrefixProperty (read_peaks_only m a at)
    unfolding read_peaks_only
    peaks_only_prefix = prefix_property (single 4 at skipping (λ (p : PacketHeader × List Peak) _. pairs_if_fit m a p.1))

    pub peaks_only_names : Names (λ q. q ≡ 4) (read_peaks_only m a at)
    unfolding read_peaks_only
    peaks_only_names = only_part 4 at skipping (λ (p : PacketHeader × List Peak) _. pairs_if_fit m a p.1) (λ p _. not_truncated_pairs m a p.1)

    pub peaks_only_completes : Completes 4 at (read_peaks_only m a at)
    unfolding read_peaks_only
    peaks_only_completes =
        single_completes 4 at skipping (λ (p : PacketHeader × List Peak) _. pairs_if_fit m a p.1) skipping_bounded (λ p _. not_truncated_pairs m a p.1)

  pub peaks_only_longer : (mz abundance : List ℕ)
      → OnLongerBytes outcome_of (λ s r (ys : List ℕ × List ℕ). LeftPairs (λ m a. read_peaks_only m a at s) mz abundance r ys.0 ys.1) (λ q. q ≡ 4) (λ _ _. at < 2 ^ 62)
  peaks_only_longer mz abundance =
      let m = length mz in
      let a = length abundance in
      left_longer outcome_of answer_one (read_peaks_only m a at) (peaks_only_prefix m a) (λ q. q ≡ 4) (λ _ _. at < 2 ^ 62) (peaks_only_names m a)
      (one_part 4 at (read_peaks_only m a at) (peaks_only_names m a) (peaks_only_completes m a)) length columns (mz, abundance)

  -- the calls that find
  pub skip_to_peaks_prefix : PrefixProperty (skip_to_peaks at)
  unfolding skip_to_peaks
  skip_to_peaks_prefix = prefix_property (single 4 at skipping (λ p next. ok (answered at p next)))

  pub skip_to_peaks_names : Names (λ q. q ≡ 4) (skip_to_peaks at)
  unfolding skip_to_peaks
  skip_to_peaks_names = only_part 4 at skipping (λ p next. ok (answered at p next)) (λ _ _. tt)

  pub skip_to_peaks_completes : Completes 4 at (skip_to_peaks at)
  unfolding skip_to_peaks
  skip_to_peaks_completes = single_completes 4 at skipping (λ p next. ok (answered at p next)) skipping_bounded (λ _ _. tt)

  pub skip_to_peaks_longer : OnLongerBytes outcome_of (λ s r (_ : Unit {0}). outcome_of r ≡ skip_to_peaks at s) (λ q. q ≡ 4) (λ _ _. at < 2 ^ 62)
  skip_to_peaks_longer =
      plain_longer outcome_of answer_one (skip_to_peaks at) skip_to_peaks_prefix (λ q. q ≡ 4) (λ _ _. at < 2 ^ 62) skip_to_peaks_names
      (one_part 4 at (skip_to_peaks at) skip_to_peaks_names skip_to_peaks_completes)

  module _ (h : PacketHeader) where
    pub peak_list_prefix : PrefixProperty (read_peaks h at)
    unfolding read_peaks
    peak_list_prefix = prefix_property (single 4 at (peak_list h) (λ peaks _. ok (list_place h at peaks)))

    pub peak_list_names : Names (λ q. q ≡ 4) (read_peaks h at)
    unfolding read_peaks
    peak_list_names = only_part 4 at (peak_list h) (λ peaks _. ok (list_place h at peaks)) (λ _ _. tt)

    pub peak_list_completes : Completes 4 at (read_peaks h at)
    unfolding read_peaks
    peak_list_completes =
        single_completes 4 at (peak_list h) (λ peaks _. ok (list_place h at peaks))
        (bounded_more (2 ^ 62) (4 + 2 ^ 36) (2 ^ 61) (peak_list h) (lit≤ tt) (peak_list_demand (2 ^ 62) h).bounded) (λ _ _. tt)

    pub peak_list_longer : OnLongerBytes outcome_of (λ s r (_ : Unit {0}). outcome_of r ≡ read_peaks h at s) (λ q. q ≡ 4) (λ _ _. at < 2 ^ 62)
    peak_list_longer =
        plain_longer outcome_of answer_one (read_peaks h at) peak_list_prefix (λ q. q ≡ 4) (λ _ _. at < 2 ^ 62) peak_list_names
        (one_part 4 at (read_peaks h at) peak_list_names peak_list_completes)
