-- What reading a packet without its profile answers, by the stages that decide it.
use Rattle.std.specs.Prelude.{None}
use mathlib.Core.Path.{◌≡◌, refl, ap, ◌∙◌}
use Prim.Native.Nat.{ℕ}
use mathlib.Core.List.{List, []}
use Rattle.refusal.specs.Outcome.{ok, refused}
use Rattle.parser.specs.Parser.{Parser, parse}
use Rattle.parser.specs.Call.{outcome}
use Rattle.parser.proofs.Prefix.{parse_bind}
use Rattle.parser.proofs.Answered.{ran_out_lem}
use Rattle.packet_header.specs.declared.PacketHeader.{PacketHeader}
use Rattle.peaks.specs.Peaks.{Peak}
use Rattle.packet_peak_list.specs.PeakList.{skipping, after_skipped, skip_to_peaks}
use Rattle.packet_peak_list.specs.declared.HeaderAndPeaks.{HeaderAndPeaks}
use Rattle.packet_peak_list.proofs.Skipping.{answered, Skipped, skipped_of}
use Rattle.packet_labels.specs.Labels.{Streams}
use Rattle.packet_record.specs.Packet.{absent, Packet, after_peaks, places_from, contents_at, with_labels, packet_if_fits}
use Rattle.packet_record.specs.declared.PacketPlaces.{PacketPlaces}
use Rattle.packet_record.proofs.Found.{ran_out_after, found_after}
use Rattle.packet_skipping.specs.Skipping.{packet_skipping, read_skip_profile}

-- what follows the peaks
unfoldable pub beyond : PacketHeader × List Peak → Parser Packet
beyond p = after_peaks p.0 absent p.1

module _ (capacities s : List ℕ) (at : ℕ) where
  pub no_peaks : {n : ℕ} {carries : List ℕ} → refused n carries ≡ skip_to_peaks at s → refused n carries ≡ read_skip_profile capacities at s
  unfolding read_skip_profile outcome packet_skipping beyond skip_to_peaks
  no_peaks e =
      let r = ran_out_lem 4 at skipping (answered at) s e in
      rw (r.one, r.part, parse_bind skipping beyond s at, r.there)

  module _ (p : HeaderAndPeaks) (e : ok p ≡ skip_to_peaks at s) where
    k : Skipped s at p
    k = skipped_of s at e

    to_after : parse packet_skipping s at ≡ parse (after_peaks p.header absent k.peaks) s p.list.next
    unfolding packet_skipping beyond
    to_after = parse_bind skipping beyond s at ∙ rw k.there

    pub no_labels : {n : ℕ} {carries : List ℕ} → refused n carries ≡ with_labels p.header None p.list s → refused n carries ≡ read_skip_profile capacities at s
    unfolding read_skip_profile outcome
    no_labels f =
        let r = ran_out_after packet_skipping s at (after_skipped p.header at) p.header absent k.peaks p.list None to_after k.is f in
        rw (r.one, r.part, r.there)

    pub whole_packet : {v : PacketPlaces} {l : Streams} → ok (v, l) ≡ with_labels p.header None p.list s
        → packet_if_fits capacities v (contents_at s v) [] ≡ read_skip_profile capacities at s
    unfolding read_skip_profile outcome
    whole_packet {v} f =
        let places : Packet → PacketPlaces = λ q. places_from None (after_skipped q.header at) q in
        let w = found_after packet_skipping s at (after_skipped p.header at) p.header absent k.peaks p.list None to_after k.is places (λ _. refl) k.stand f in
        ap (λ c. packet_if_fits capacities v c []) w.contents ∙ ap (λ (q : PacketPlaces). packet_if_fits capacities q w.packet.contents []) w.placed ∙ rw w.there
