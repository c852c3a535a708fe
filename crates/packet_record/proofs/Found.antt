-- A packet whose labels were found after its peak list, by the places that were answered.
use Rattle.std.specs.Prelude.{Option}
use mathlib.Core.Path.{◌≡◌, refl, ap, sym, subst, ◌∙◌}
use Prim.Native.Nat.{ℕ}
use mathlib.Core.List.{List}
use lib.ListN.{length}
use Rattle.refusal.specs.Outcome.{ok, refused}
use Rattle.refusal.proofs.Outcomes.{made_of, refused_of}
use Rattle.parser.specs.Parser.{Parser, done, parsed, parse, ◌>>=◌}
use Rattle.parser.proofs.Prefix.{parse_bind}
use Rattle.parser.proofs.Answered.{RanOut}
use Rattle.packet_header.specs.declared.PacketHeader.{PacketHeader}
use Rattle.peaks.specs.Peaks.{Peak, peaks_at}
use Rattle.packet_peak_list.specs.PeakList.{item_size, list_place}
use Rattle.packet_peak_list.specs.declared.PeakList.{PeakList}
use Rattle.packet_labels.specs.Labels.{Streams, labels, label_places, streams_at, read_labels}
use Rattle.packet_labels.specs.declared.Labels.{Labels}
use Rattle.packet_labels.proofs.Answers.{labelled, unlabelled}
use Rattle.packet_profile.specs.declared.Profile.{Profile}
use Rattle.packet_record.specs.Packet.{OptionalProfile, Packet, after_peaks, places_from, contents_at, with_labels}
use Rattle.packet_record.specs.declared.PacketPlaces.{PacketPlaces}

-- the packet that stands at these places, which a reader gives it, and has this profile
pub record Stands (p : Parser Packet) (places : Packet → PacketPlaces) (s : List ℕ) (at : ℕ) (profile : OptionalProfile) (v : PacketPlaces) : Type 0 where
  pub packet : Packet
  pub there : parse p s at ≡ parsed packet v.labels.next
  pub profile_is : packet.profile ≡ profile
  pub placed : v ≡ places packet
  pub contents : contents_at s v ≡ packet.contents

-- what is made of the labels
unfoldable pub whole : PacketHeader → OptionalProfile → List Peak → Streams → Parser Packet
whole h profile peaks l = done (record { header = h; profile = profile; contents = record { peaks = peaks; labels = l } })

module _ (p : Parser Packet) (s : List ℕ) (at start : ℕ) (h : PacketHeader) (profile : OptionalProfile) (peaks : List Peak) (list : PeakList) (v : Option Profile)
    (list_end : parse p s at ≡ parse (after_peaks h profile peaks) s list.next) (is : list ≡ list_place h start peaks) where
  to_labels : parse p s at ≡ parse (labels h list.count >>= whole h profile peaks) s list.next
  unfolding after_peaks whole
  to_labels = let count : list.count ≡ length peaks = ap (λ (l : PeakList). l.count) is in list_end ∙ rw count

  abbrev with : Labels × Streams → PacketPlaces × Streams
  with l = (record { header = h; profile = v; list = list; labels = l.0 }, l.1)

  pub ran_out_after : {n : ℕ} {carries : List ℕ} → refused n carries ≡ with_labels h v list s → RanOut 4 p s at n carries
  unfolding with_labels
  ran_out_after e =
      let r = unlabelled h list.count s list.next (refused_of with (read_labels h list.count list.next s) e) in
      record { there = to_labels ∙ rw (parse_bind (labels h list.count) (whole h profile peaks) s list.next, r.there); one = r.one; part = r.part }

  same_places : (l : Labels) (k : Streams) → l ≡ label_places h list.next k
      → (with (l, k)).0 ≡ places_from v start (record { header = h; profile = profile; contents = record { peaks = peaks; labels = k } })
  unfolding places_from
  same_places l k m =
      ap (λ (x : Labels). (with (x, k)).0) m
      ∙ ap (λ (x : PeakList). record { header = h; profile = v; list = x; labels = label_places h x.next k }) is

  module _ (places : Packet → PacketPlaces)
      (given : (k : Streams) → let q : Packet = record { header = h; profile = profile; contents = record { peaks = peaks; labels = k } } in places_from v start q ≡ places q)
      (stand : peaks ≡ peaks_at list.wide (item_size list.wide) s list.at list.count) where
    stands_at : (l : Labels) (k : Streams) → (parse (labels h list.count) s list.next ≡ parsed k l.next) × (l ≡ label_places h list.next k) × (streams_at s l ≡ k)
        → Stands p places s at profile (with (l, k)).0
    unfolding whole parse
    stands_at l k r =
        record {
          packet = record { header = h; profile = profile; contents = record { peaks = peaks; labels = k } };
          there = to_labels ∙ rw (parse_bind (labels h list.count) (whole h profile peaks) s list.next, r.0);
          profile_is = refl;
          placed = same_places l k r.1 ∙ given k;
          contents = ap (λ (ps : List Peak). record { peaks = ps; labels = streams_at s l }) (sym stand) ∙ ap (λ (x : Streams). record { peaks = peaks; labels = x }) r.2;
        }

    pub found_after : {w : PacketPlaces} {k : Streams} → ok (w, k) ≡ with_labels h v list s → Stands p places s at profile w
    unfolding with_labels
    found_after {w} e =
        let m = made_of with (read_labels h list.count list.next s) e in
        subst (Stands p places s at profile) (sym (ap (λ (x : PacketPlaces × Streams). x.0) m.made)) (stands_at m.value.0 m.value.1 (labelled h list.count s list.next m.is))
