-- The stages of a whole packet: what was found stage by stage is what `packet` finds.
use Rattle.std.specs.Prelude.{Some, None, Option}
use mathlib.Core.Path.{◌≡◌, refl, ap, sym, subst, ◌∙◌}
use Prim.Native.Nat.{ℕ, ◌+◌}
use native.Mathlib.Nat.{add-zero}
use native.Mathlib.Omega.{arith}
use mathlib.Core.Bool.{Bool, true, false, cond}
use mathlib.Core.List.{List}
use lib.Dec.{eqb}
use borrow.Author.Tests.{eq-eqb, ne_eqb}
use Rattle.refusal.specs.Outcome.{Outcome, ok, refused}
use Rattle.parser.specs.Parser.{Parser, done, parsed, parse, ◌>>=◌}
use Rattle.parser.specs.Call.{outcome}
use Rattle.parser.proofs.Prefix.{parse_bind, bind_parsed}
use Rattle.parser.proofs.Answered.{found, RanOut, ran_out_lem}
use Rattle.packet_header.specs.Header.{header, read_packet_header}
use Rattle.packet_header.specs.declared.PacketHeader.{PacketHeader}
use Rattle.packet_header.proofs.Size.{header_read, header_ran_out}
use Rattle.peaks.specs.Peaks.{Peak, peaks_at}
use Rattle.packet_peak_list.specs.PeakList.{item_size, peak_list, list_place, read_peaks}
use Rattle.packet_peak_list.specs.declared.PeakList.{PeakList}
use Rattle.packet_peak_list.proofs.Lists.{listed}
use Rattle.packet_profile.specs.Profile.{Axis, Chunk, profile, read_profile}
use Rattle.packet_profile.specs.declared.Profile.{Profile}
use Rattle.packet_profile.proofs.Answers.{profiled, unprofiled}
use Rattle.packet_profile.proofs.Size.{profile_end}
use Rattle.packet_labels.specs.Labels.{Streams}
use Rattle.packet_record.specs.Packet.{OptionalProfile, absent, present, Packet, after_peaks, profile_place, places_from, with_labels}
use Rattle.packet_record.specs.declared.PacketPlaces.{PacketPlaces}
use Rattle.packet_record.proofs.Found.{Stands, ran_out_after, found_after}
use Rattle.packet_places.specs.Packet.{optional_profile, optional_size, packet}
use Rattle.packet_places.specs.Places.{packet_places}
use Rattle.packet_places.specs.Internal.{find_profile, after_header}

-- what is made of a profile, and what follows it and the header
unfoldable pub keep : Axis × List Chunk → Parser OptionalProfile
keep p = done (present p)

unfoldable pub after_profile : PacketHeader → OptionalProfile → Parser Packet
after_profile h p = peak_list h >>= after_peaks h p

unfoldable pub rest : PacketHeader → Parser Packet
rest h = optional_profile h >>= after_profile h

-- the profile
module _ (h : PacketHeader) (at : ℕ) (s : List ℕ) where
  pub no_profile : h.profile_size ≡ 0 → ok (None, at + 40) ≡ find_profile h at s
  unfolding find_profile outcome optional_profile parse
  no_profile e = rw (eq-eqb h.profile_size 0 e)

  module _ (some : h.profile_size ≡ 0 → ⊥) where
    to_profile : parse (optional_profile h) s (at + 40) ≡ parse (profile h.layout >>= keep) s (at + 40)
    unfolding optional_profile keep
    to_profile = rw (ne_eqb h.profile_size 0 some)

    pub profile_short : {n : ℕ} {carries : List ℕ} → refused n carries ≡ read_profile h.layout (at + 40) s → refused n carries ≡ find_profile h at s
    unfolding find_profile outcome
    profile_short e =
        let r = unprofiled h.layout s (at + 40) e in
        rw (r.one, r.part, to_profile, parse_bind (profile h.layout) keep s (at + 40), r.there)

    pub profile_found : {p : Profile} {next : ℕ} → ok (p, next) ≡ read_profile h.layout (at + 40) s → ok (Some p, next) ≡ find_profile h at s
    unfolding find_profile outcome keep parse
    profile_found {p} {next} e =
        let r = profiled h.layout s (at + 40) e in
        rw (to_profile, parse_bind (profile h.layout) keep s (at + 40), r.there) (ap (λ (v : Profile). ok (Some v, next)) r.made)

-- a profile that was kept was parsed, and ends by its size
by_test : (h : PacketHeader) (s : List ℕ) (place : ℕ) (p : Axis × List Chunk) (next : ℕ) (b : Bool)
    → parse (cond b (done absent) (profile h.layout >>= keep)) s place ≡ parsed (present p) next → parse (profile h.layout) s place ≡ parsed p next
unfolding keep parse
by_test h s place p next true e = let c : ◌≡◌ {A = ℕ} 0 1 = cc in absurd (omega arith)
by_test h s place p next false e =
    let w = bind_parsed (profile h.layout) keep s place e in
    let a : w.first ≡ p = cc w.there in
    let n : w.middle ≡ next = cc w.there in
    w.here ∙ rw (a, n)

pub present_parsed : (h : PacketHeader) (s : List ℕ) (place : ℕ) (p : Axis × List Chunk) (next : ℕ)
    → parse (optional_profile h) s place ≡ parsed (present p) next → parse (profile h.layout) s place ≡ parsed p next
unfolding optional_profile keep
present_parsed h s place p next = by_test h s place p next (eqb h.profile_size 0)

absent_end : (h : PacketHeader) (s : List ℕ) (place next : ℕ) (b : Bool)
    → parse (cond b (done absent) (profile h.layout >>= keep)) s place ≡ parsed absent next → next ≡ place
unfolding keep parse
absent_end h s place next true e = cc
absent_end h s place next false e =
    let w = bind_parsed (profile h.layout) keep s place e in
    let c : present w.first ≡ absent = cc w.there in
    let z : ◌≡◌ {A = ℕ} 0 1 = cc in
    absurd (omega arith)

optional_end : (h : PacketHeader) (s : List ℕ) (place : ℕ) (p : OptionalProfile) (next : ℕ) → parse (optional_profile h) s place ≡ parsed p next → next ≡ place + optional_size h p
unfolding optional_profile keep
optional_end h s place absent next e = absent_end h s place next (eqb h.profile_size 0) e ∙ rw add-zero
optional_end h s place (present p) next e = profile_end h.layout s place (present_parsed h s place p next e)

-- from the stages to the whole
module _ (s : List ℕ) (at : ℕ) where
  to_rest : {h : PacketHeader} → ok h ≡ read_packet_header at s → parse packet s at ≡ parse (rest h) s (at + 40)
  unfolding packet rest after_profile
  to_rest e = parse_bind header rest s at ∙ rw (header_read s at e).1

  pub header_short : {n : ℕ} {carries : List ℕ} → refused n carries ≡ read_packet_header at s → RanOut 4 packet s at n carries
  unfolding packet rest after_profile
  header_short e =
      let r = header_ran_out s at e in
      record { there = parse_bind header rest s at ∙ rw r.there; one = r.one; part = r.part }

  module _ (h : PacketHeader) (e : ok h ≡ read_packet_header at s) where
    -- the profile that was found
    pub record ProfileFound (p : Option Profile) (next : ℕ) : Type 0 where
      pub profile : OptionalProfile
      pub there : parse (optional_profile h) s (at + 40) ≡ parsed profile next
      pub is : p ≡ profile_place h.layout at profile
      pub end : next ≡ at + 40 + optional_size h profile

    profile_at : (p : Option Profile) (next : ℕ) → ok (p, next) ≡ find_profile h at s → ProfileFound p next
    unfolding find_profile
    profile_at p next f =
        let w = found 4 (at + 40) (optional_profile h) (λ (q : OptionalProfile) (end : ℕ). (profile_place h.layout at q, end)) s f in
        let there = w.there ∙ ap (parsed w.value) (sym (ap (λ (v : Option Profile × ℕ). v.1) w.made)) in
        record { profile = w.value; there = there; is = ap (λ (v : Option Profile × ℕ). v.0) w.made; end = optional_end h s (at + 40) w.value next there }

    pub profile_ran_out : {n : ℕ} {carries : List ℕ} → refused n carries ≡ find_profile h at s → RanOut 4 packet s at n carries
    unfolding find_profile rest
    profile_ran_out f =
        let r = ran_out_lem 4 (at + 40) (optional_profile h) (λ (q : OptionalProfile) (end : ℕ). (profile_place h.layout at q, end)) s f in
        record { there = to_rest e ∙ parse_bind (optional_profile h) (after_profile h) s (at + 40) ∙ rw r.there; one = r.one; part = r.part }

    module _ (p : Option Profile) (next : ℕ) (f : ok (p, next) ≡ find_profile h at s) where
      pub k : ProfileFound p next
      k = profile_at p next f

      to_peaks : parse packet s at ≡ parse (peak_list h >>= after_peaks h k.profile) s next
      unfolding rest after_profile
      to_peaks = to_rest e ∙ parse_bind (optional_profile h) (after_profile h) s (at + 40) ∙ rw k.there

      pub peaks_short : {n : ℕ} {carries : List ℕ} → refused n carries ≡ read_peaks h next s → RanOut 4 packet s at n carries
      unfolding read_peaks
      peaks_short g =
          let r = ran_out_lem 4 next (peak_list h) (λ ps _. list_place h next ps) s g in
          record { there = to_peaks ∙ parse_bind (peak_list h) (after_peaks h k.profile) s next ∙ rw r.there; one = r.one; part = r.part }

      -- the list that was found
      record ListFound (list : PeakList) : Type 0 where
        peaks : List Peak
        beyond : parse packet s at ≡ parse (after_peaks h k.profile peaks) s list.next
        is : list ≡ list_place h next peaks
        stand : peaks ≡ peaks_at list.wide (item_size list.wide) s list.at list.count

      list_found : (list : PeakList) → ok list ≡ read_peaks h next s → ListFound list
      unfolding read_peaks
      list_found list g =
          let w = found 4 next (peak_list h) (λ ps _. list_place h next ps) s g in
          let l = listed h s next w.there in
          subst ListFound (sym w.made)
          (record {
            peaks = w.value;
            beyond = to_peaks ∙ parse_bind (peak_list h) (after_peaks h k.profile) s next ∙ rw (w.there, l.end);
            is = refl;
            stand = l.stand;
          })

      pub labels_short : (list : PeakList) → ok list ≡ read_peaks h next s → {n : ℕ} {carries : List ℕ} → refused n carries ≡ with_labels h p list s → RanOut 4 packet s at n carries
      labels_short list g i = let l = list_found list g in ran_out_after packet s at next h k.profile l.peaks list p l.beyond l.is i

      pub whole : (list : PeakList) → ok list ≡ read_peaks h next s → {v : PacketPlaces} {ls : Streams} → ok (v, ls) ≡ with_labels h p list s → Stands packet (packet_places at) s at k.profile v
      whole list g i =
          let l = list_found list g in
          let packet_of : Streams → Packet = λ ls. record { header = h; profile = k.profile; contents = record { peaks = l.peaks; labels = ls } } in
          found_after packet s at next h k.profile l.peaks list p l.beyond l.is (packet_places at)
          (λ ls. ap (λ q. places_from q next (packet_of ls)) k.is ∙ ap (λ (n : ℕ). places_from (profile_place h.layout at k.profile) n (packet_of ls)) k.end) l.stand i

-- the stages after a header in turn
module _ (h : PacketHeader) (at : ℕ) (s : List ℕ) {p : Option Profile} {next : ℕ} (f : ok (p, next) ≡ find_profile h at s) where
  pub then_no_peaks : {n : ℕ} {carries : List ℕ} → refused n carries ≡ read_peaks h next s → refused n carries ≡ after_header h at s
  unfolding after_header
  then_no_peaks g = rw (← f, ← g)

  pub then_labels : {list : PeakList} → ok list ≡ read_peaks h next s → {o : Outcome (PacketPlaces × Streams)} → o ≡ with_labels h p list s → o ≡ after_header h at s
  unfolding after_header
  then_labels g i = rw (← f, ← g) i
