-- The header, the profile that is passed over, and the list: what was found stage by stage is what `skipping` finds.
use mathlib.Core.Path.{◌≡◌, refl, ap, sym, subst, ◌∙◌}
use Prim.Native.Nat.{ℕ, ◌+◌, ◌*◌, ◌≤◌, ◌<◌}
use mathlib.Core.List.{List}
use lib.Dec.{leb}
use borrow.Author.Tests.{le-leb, lt-leb}
use Rattle.refusal.specs.Outcome.{ok, refused, ran_out}
use Rattle.parser.specs.Parser.{Parser, parsed, done, remaining, parse, skip, ◌>>=◌, ◌>>◌}
use Rattle.parser.specs.Call.{outcome}
use Rattle.parser.proofs.Fixed.{parse_sized}
use Rattle.parser.proofs.Prefix.{within_parsed, parse_bind, bind_parsed}
use Rattle.parser.proofs.Answered.{found, ran_out_lem}
use Rattle.packet_header.specs.Header.{header, read_packet_header}
use Rattle.packet_header.specs.declared.PacketHeader.{PacketHeader}
use Rattle.packet_header.proofs.Size.{header_sized, header_read, header_ran_out}
use Rattle.lists.specs.Left.{pairs_if_fit}
use Rattle.peaks.specs.Peaks.{Peak, peaks_at, row_peaks}
use Rattle.packet_peak_list.specs.PeakList.{item_size, row, peak_list, list_place, read_peaks, skipping, after_skipped, skip_to_peaks, read_peaks_only}
use Rattle.packet_peak_list.specs.declared.PeakList.{PeakList}
use Rattle.packet_peak_list.specs.declared.HeaderAndPeaks.{HeaderAndPeaks}
use Rattle.packet_peak_list.proofs.Lists.{listed}

-- what is answered of a packet that was found
abbrev pub answered : ℕ → PacketHeader × List Peak → ℕ → HeaderAndPeaks
answered at p _ = record { header = p.0; list = list_place p.0 (after_skipped p.0 at) p.1 }

-- what follows the list, and what follows the header
abbrev pub paired : PacketHeader → List Peak → Parser (PacketHeader × List Peak)
paired h peaks = done (h, peaks)

unfoldable pub rest : PacketHeader → Parser (PacketHeader × List Peak)
rest h = skip (h.profile_size * 4) >> (peak_list h >>= paired h)

module _ (s : List ℕ) (at : ℕ) where
  pub skip_header_short : {n : ℕ} {carries : List ℕ} → refused n carries ≡ read_packet_header at s → refused n carries ≡ skip_to_peaks at s
  unfolding skip_to_peaks outcome skipping rest
  skip_header_short e = let w = header_ran_out s at e in rw (w.one, w.part, parse_bind header rest s at, w.there)

  module _ {h : PacketHeader} (e : ok h ≡ read_packet_header at s) where
    to_rest : parse skipping s at ≡ parse (rest h) s (at + 40)
    unfolding skipping rest
    to_rest = parse_bind header rest s at ∙ rw (header_read s at e).1

    pub skip_profile_short : remaining s (at + 40) < h.profile_size * 4 → ran_out 4 ≡ skip_to_peaks at s
    unfolding skip_to_peaks outcome rest parse
    skip_profile_short t = rw (to_rest, lt-leb _ _ t)

    module _ (t : h.profile_size * 4 ≤ remaining s (at + 40)) where
      to_list : parse skipping s at ≡ parse (peak_list h >>= paired h) s (at + 40 + h.profile_size * 4)
      unfolding rest parse
      to_list = to_rest ∙ rw (le-leb _ _ t)

      pub skip_list_short : {n : ℕ} {carries : List ℕ} → refused n carries ≡ read_peaks h (at + 40 + h.profile_size * 4) s → refused n carries ≡ skip_to_peaks at s
      unfolding skip_to_peaks outcome read_peaks
      skip_list_short f =
          let w = ran_out_lem 4 (at + 40 + h.profile_size * 4) (peak_list h) (λ ps _. list_place h (after_skipped h at) ps) s f in
          rw (w.one, w.part, to_list, parse_bind (peak_list h) (paired h) s (at + 40 + h.profile_size * 4), w.there)

      pub skip_found : {l : PeakList} → ok l ≡ read_peaks h (at + 40 + h.profile_size * 4) s → ok (record { header = h; list = l }) ≡ skip_to_peaks at s
      unfolding skip_to_peaks outcome read_peaks parse
      skip_found {l} f =
          let w = found 4 (at + 40 + h.profile_size * 4) (peak_list h) (λ ps _. list_place h (after_skipped h at) ps) s f in
          ap (λ (m : PeakList). ok (record { header = h; list = m })) w.made
          ∙ rw (to_list, parse_bind (peak_list h) (paired h) s (at + 40 + h.profile_size * 4), w.there)

-- the peaks of a list that was found
pub record Skipped (s : List ℕ) (at : ℕ) (p : HeaderAndPeaks) : Type 0 where
  pub peaks : List Peak
  pub there : parse skipping s at ≡ parsed (p.header, peaks) p.list.next
  pub is : p.list ≡ list_place p.header (after_skipped p.header at) peaks
  pub stand : peaks ≡ peaks_at p.list.wide (item_size p.list.wide) s p.list.at p.list.count

pub skipped_of : (s : List ℕ) (at : ℕ) {p : HeaderAndPeaks} → ok p ≡ skip_to_peaks at s → Skipped s at p
unfolding skip_to_peaks skipping rest parse
skipped_of s at {p} e =
    let f = found 4 at skipping (answered at) s e in
    let h = bind_parsed header rest s at f.there in
    let head = within_parsed (leb 40 (remaining s at)) _ (sym (parse_sized 40 header header_sized s at) ∙ h.here) in
    let size = h.first.profile_size * 4 in
    let r = bind_parsed (skip size) (λ _. peak_list h.first >>= paired h.first) s h.middle h.there in
    let passed = within_parsed (leb size (remaining s h.middle)) _ r.here in
    let l = bind_parsed (peak_list h.first) (paired h.first) s r.middle r.there in
    let v : f.value ≡ (h.first, l.first) = cc l.there in
    let n : f.next ≡ l.middle = cc l.there in
    let m : h.middle ≡ at + 40 = cc head.1 in
    let start : r.middle ≡ after_skipped h.first at = cc passed.1 ∙ ap (λ (k : ℕ). k + size) m in
    let here = subst (λ (k : ℕ). parse (peak_list h.first) s k ≡ parsed l.first l.middle) start l.here in
    let w = listed h.first s (after_skipped h.first at) here in
    subst (Skipped s at) (sym (f.made ∙ ap (λ (w : PacketHeader × List Peak). answered at w f.next) v))
    (record {
      peaks = l.first;
      there = f.there ∙ ap (λ (w : PacketHeader × List Peak). parsed w f.next) v ∙ ap (parsed (h.first, l.first)) (n ∙ w.end);
      is = refl;
      stand = w.stand;
    })

-- so its peaks are those that are handed out
pub peaks_only : (s : List ℕ) (at m a : ℕ) {p : HeaderAndPeaks} → ok p ≡ skip_to_peaks at s → pairs_if_fit m a (row_peaks (row p.list) s) ≡ read_peaks_only m a at s
unfolding read_peaks_only outcome
peaks_only s at m a e = let k = skipped_of s at e in rw k.there (sym (ap (pairs_if_fit m a) k.stand))

pub peaks_only_short : (s : List ℕ) (at m a : ℕ) {n : ℕ} {carries : List ℕ} → refused n carries ≡ skip_to_peaks at s → refused n carries ≡ read_peaks_only m a at s
unfolding read_peaks_only skip_to_peaks outcome
peaks_only_short s at m a e = let w = ran_out_lem 4 at skipping (answered at) s e in rw (w.one, w.part, w.there)
