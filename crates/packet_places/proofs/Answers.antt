-- What finding a packet's places answers, by what `packet` finds.
use Rattle.std.specs.Prelude.{Option}
use mathlib.Core.Path.{◌≡◌, refl, ap, sym, subst, ◌∙◌}
use mathlib.Core.Logic.{⊎_elim}
use Prim.Native.Nat.{ℕ, ◌+◌}
use mathlib.Core.List.{List}
use Rattle.refusal.specs.Outcome.{Outcome, ok, refused, on_ok, and_then}
use Rattle.refusal.proofs.Outcomes.{made_of, Both, both_ok, one_refused}
use Rattle.packet_labels.specs.Labels.{Streams, streams_at, read_labels}
use Rattle.packet_labels.specs.declared.Labels.{Labels}
use Rattle.parser.specs.Parser.{parsed, parse}
use Rattle.parser.specs.Call.{outcome}
use Rattle.parser.proofs.Answered.{RanOut, ran_out_lem}
use Rattle.packet_header.specs.Header.{read_packet_header}
use Rattle.packet_header.specs.declared.PacketHeader.{PacketHeader}
use Rattle.packet_peak_list.specs.PeakList.{read_peaks}
use Rattle.packet_peak_list.specs.declared.PeakList.{PeakList}
use Rattle.packet_profile.specs.declared.Profile.{Profile}
use Rattle.packet_record.specs.Packet.{OptionalProfile, Contents, contents_at, profile_place, with_labels}
use Rattle.packet_record.specs.declared.PacketPlaces.{PacketPlaces}
use Rattle.packet_record.proofs.Found.{Stands}
use Rattle.packet_places.specs.Packet.{optional_profile, packet}
use Rattle.packet_places.specs.Places.{packet_places, find_places}
use Rattle.packet_places.specs.Internal.{find_profile, after_header, in_turn}
use Rattle.packet_places.proofs.Stages.{header_short, k, profile_ran_out, peaks_short, labels_short, whole}

-- the labels leave the profile as it was found
with_profile : (s : List ℕ) (h : PacketHeader) (p : Option Profile) (list : PeakList) {v : PacketPlaces} {l : Streams} → ok (v, l) ≡ with_labels h p list s → v.profile ≡ p
unfolding with_labels
with_profile s h p list e =
    ap (λ (q : PacketPlaces × Streams). q.0.profile)
    (made_of (λ (l : Labels × Streams). (record { header = h; profile = p; list = list; labels = l.0 }, l.1)) (read_labels h list.count list.next s) e).made

module _ (s : List ℕ) (at : ℕ) where
  -- a refusal of any stage
  stage_short : {n : ℕ} {carries : List ℕ} → refused n carries ≡ in_turn at s → RanOut 4 packet s at n carries
  unfolding in_turn after_header
  stage_short {n} {carries} i =
      ⊎_elim
      (λ (e : refused n carries ≡ read_packet_header at s). header_short s at e)
      (λ (b : Both (read_packet_header at s) (λ h. after_header h at s) (refused n carries)). beyond b.value b.first b.second)
      (one_refused (λ h. after_header h at s) (read_packet_header at s) i)
    where
      last : (h : PacketHeader) → ok h ≡ read_packet_header at s → (p : Option Profile × ℕ) → ok p ≡ find_profile h at s
          → refused n carries ≡ and_then (read_peaks h p.1 s) (λ list. with_labels h p.0 list s) → RanOut 4 packet s at n carries
      last h e p f j =
          ⊎_elim
          (λ (g : refused n carries ≡ read_peaks h p.1 s). peaks_short s at h e p.0 p.1 f g)
          (λ (b : Both (read_peaks h p.1 s) (λ list. with_labels h p.0 list s) (refused n carries)). labels_short s at h e p.0 p.1 f b.value b.first b.second)
          (one_refused (λ list. with_labels h p.0 list s) (read_peaks h p.1 s) j)

      beyond : (h : PacketHeader) → ok h ≡ read_packet_header at s
          → refused n carries ≡ and_then (find_profile h at s) (λ p. and_then (read_peaks h p.1 s) (λ list. with_labels h p.0 list s)) → RanOut 4 packet s at n carries
      beyond h e j =
          ⊎_elim
          (λ (g : refused n carries ≡ find_profile h at s). profile_ran_out s at h e g)
          (λ (b : Both (find_profile h at s) (λ p. and_then (read_peaks h p.1 s) (λ list. with_labels h p.0 list s)) (refused n carries)). last h e b.value b.first b.second)
          (one_refused (λ p. and_then (read_peaks h p.1 s) (λ list. with_labels h p.0 list s)) (find_profile h at s) j)

  -- the packet that stands at the places that were found, and its profile
  pub record Standing (v : PacketPlaces) : Type 0 where
    pub header : PacketHeader
    pub profile : OptionalProfile
    pub next : ℕ
    pub profile_there : parse (optional_profile header) s (at + 40) ≡ parsed profile next
    pub is : v.profile ≡ profile_place header.layout at profile
    pub stands : Stands packet (packet_places at) s at profile v

  stages_stand : {v : PacketPlaces} {l : Streams} → ok (v, l) ≡ in_turn at s → Standing v
  unfolding in_turn after_header
  stages_stand {v} i =
      let a = both_ok (λ h. after_header h at s) (read_packet_header at s) i in
      let b = both_ok (λ p. and_then (read_peaks a.value p.1 s) (λ list. with_labels a.value p.0 list s)) (find_profile a.value at s) a.second in
      let p = b.value in
      let c = both_ok (λ list. with_labels a.value p.0 list s) (read_peaks a.value p.1 s) b.second in
      let t = k s at a.value a.first p.0 p.1 b.first in
      record {
        header = a.value;
        profile = t.profile;
        next = p.1;
        profile_there = t.there;
        is = with_profile s a.value p.0 c.value c.second ∙ t.is;
        stands = whole s at a.value a.first p.0 p.1 b.first c.value c.first c.second;
      }

  -- so what is found in turn is what `packet` finds
  abbrev standing_there : PacketPlaces → PacketPlaces × Contents
  standing_there v = (v, contents_at s v)

  whole_packet : {v : PacketPlaces} → Standing v → ok (standing_there v) ≡ find_places at s
  unfolding find_places outcome
  whole_packet {v} t =
      let w = t.stands in
      rw w.there (ap ok (ap (λ (c : Contents). (v, c)) w.contents ∙ ap (λ (q : PacketPlaces). (q, w.packet.contents)) w.placed))

  pub no_packet : {n : ℕ} {carries : List ℕ} → refused n carries ≡ in_turn at s → refused n carries ≡ find_places at s
  unfolding find_places outcome
  no_packet e = let r = stage_short e in rw (r.there, r.one, r.part)

  pub by_stages : (o : Outcome PacketPlaces) → on_ok (λ v. (v, streams_at s v.labels)) o ≡ in_turn at s → on_ok standing_there o ≡ find_places at s
  by_stages (ok v) e = whole_packet (stages_stand e)
  by_stages (refused n carries) e = no_packet e

  same : (o : Outcome (PacketPlaces × Streams)) → o ≡ in_turn at s → on_ok (λ x. standing_there x.0) o ≡ find_places at s
  same (ok x) e = whole_packet (stages_stand e)
  same (refused n carries) e = no_packet e

  pub packet_short : {n : ℕ} {carries : List ℕ} → refused n carries ≡ find_places at s → RanOut 4 packet s at n carries
  unfolding find_places
  packet_short e = ran_out_lem 4 at packet (λ p _. (packet_places at p, p.contents)) s e

  pub standing : {v : PacketPlaces} {c : Contents} → ok (v, c) ≡ find_places at s → Standing v
  standing {v} e =
      let m = made_of (λ (x : PacketPlaces × Streams). standing_there x.0) (in_turn at s) (e ∙ sym (same (in_turn at s) refl)) in
      subst Standing (sym (ap (λ (x : PacketPlaces × Contents). x.0) m.made)) (stages_stand m.is)
