-- Going on from the event before gives the same answers: `event_of` says where event k stands, `next_event` leads from one to
-- the next, and a scan read from there is the scan. Where event k has no place, any place after the end serves.
use mathlib.Core.Path.{◌≡◌, refl, ap, sym, ◌∙◌}
use Prim.Native.Nat.{ℕ, suc, ◌-◌, ◌^◌, ◌≤◌, ◌<◌}
use native.Mathlib.Omega.{arith}
use mathlib.Core.List.{List}
use lib.ListN.{length, drop, length-drop}
use Rattle.refusal.specs.Outcome.{Outcome, ok, refused, and_then}
use Rattle.parser.specs.Parser.{Parser, ◌>>◌, parse, repeat}
use Rattle.parser.specs.Call.{onward, outcome, part_at}
use Rattle.parser.proofs.Prefix.{parse_bind}
use Rattle.parser.proofs.Answered.{found, ran_out_lem}
use Rattle.event_record.specs.Event.{Event}
use Rattle.events.specs.Event.{event_end, event_place}
use Rattle.events.proofs.Steps.{place_none, place_more, none_after}
use Rattle.tray_header.specs.Header.{read_header}
use Rattle.tray_header.specs.declared.TrayHeader.{TrayHeader}
use Rattle.tray_scan.specs.Scan.{tray_event, scan_parts, scan_if_fits, scan_at, place_or_end}
use Rattle.tray_scan.proofs.Parts.{same_event}
use Rattle.tray.specs.Scan.{over_run, header_with, read_scan, read_scan_from, event_of, next_event}
use Rattle.tray.proofs.Headers.{has_scan}

-- ---- in a run
module _ (h : TrayHeader) (k : ℕ) (s : List ℕ) where
  -- event k, which those before it precede
  abbrev kth : Parser Event
  kth = repeat k (tray_event h) >> tray_event h

  abbrev pub place_in : Outcome ℕ
  place_in = event_place h.version h.primary h.dependent h.events k s

  at_place : {at : ℕ} → ok at ≡ place_in → part_at 3 at (tray_event h) s ≡ part_at 3 h.events kth s
  unfolding event_place part_at
  at_place i =
      let f = found 3 h.events (repeat k (tray_event h)) (λ (_ : List Event) (n : ℕ). n) s i in
      rw (parse_bind (repeat k (tray_event h)) (λ _. tray_event h) s h.events, f.there)
      (ap (λ n. onward {A = Event × ℕ} 3 (parse (tray_event h) s n) (λ e next. ok (e, next))) f.made)

  no_place : {n : ℕ} {carries : List ℕ} → refused n carries ≡ place_in → (at : ℕ) → length s ≤ at → part_at 3 at (tray_event h) s ≡ part_at 3 h.events kth s
  unfolding event_place event_end part_at
  no_place i at far =
      let r = ran_out_lem 3 h.events (repeat k (tray_event h)) (λ (_ : List Event) (n : ℕ). n) s i in
      let none = ran_out_lem 3 at (tray_event h) (λ (_ : Event) (n : ℕ). n) s (sym (none_after h.version h.primary h.dependent s at far)) in
      rw (parse_bind (repeat k (tray_event h)) (λ _. tray_event h) s h.events, r.there, none.there)

  pub from_place : {at : ℕ} → ok at ≡ place_in → outcome (scan_parts h k at (tray_event h)) s ≡ outcome (scan_parts h k h.events kth) s
  from_place {at} i = same_event h k s at h.events (tray_event h) kth (at_place i)

  pub from_end : {n : ℕ} {carries : List ℕ} → refused n carries ≡ place_in → (at : ℕ) → length s ≤ at → outcome (scan_parts h k at (tray_event h)) s ≡ outcome (scan_parts h k h.events kth) s
  from_end i at far = same_event h k s at h.events (tray_event h) kth (no_place i at far)

-- ---- in a tray, whatever its limit of scans is
module _ (limit number : ℕ) (s : List ℕ) where
  module _ {h : TrayHeader} (e : ok h ≡ read_header limit number s) where
    pub place_first : 0 < h.scans → event_of limit number 0 s ≡ ok h.events
    unfolding event_of
    place_first l = rw (← has_scan limit number s 0 e l) (place_none h.version h.primary h.dependent (drop 32 s) h.events)

    pub place_next : (k : ℕ) → suc k < h.scans → event_of limit number (suc k) s ≡ and_then (event_of limit number k s) (λ at. next_event limit number at s)
    unfolding event_of next_event
    place_next k l =
        rw (← has_scan limit number s (suc k) e l, ← has_scan limit number s k e (omega arith), ← e)
        (place_more h.version h.primary h.dependent (drop 32 s) h.events k)

  module _ (capacities : List ℕ) (k at : ℕ) where
    -- they agree in a tray if they do in its run
    in_tray : (o : Outcome ℕ) → ((h : TrayHeader) → o ≡ place_in h k (drop 32 s) → outcome (scan_parts h k at (tray_event h)) (drop 32 s) ≡ outcome (scan_parts h k h.events (kth h k (drop 32 s))) (drop 32 s))
        → o ≡ event_of limit number k s → read_scan_from limit number capacities k at s ≡ read_scan limit number capacities k s
    unfolding event_of read_scan_from read_scan
    in_tray o same i = go (header_with limit number k s) i
      where
        go : (t : Outcome TrayHeader) → o ≡ over_run t (λ h. event_place h.version h.primary h.dependent h.events k) s
            → and_then (over_run t (λ h. outcome (scan_parts h k at (tray_event h))) s) (scan_if_fits capacities)
            ≡ and_then (over_run t (λ h. outcome (scan_parts h k h.events (repeat k (tray_event h) >> tray_event h))) s) (scan_if_fits capacities)
        go (ok h) j = ap (λ o. and_then o (scan_if_fits capacities)) (same h j)
        go (refused n carries) j = refl

    -- from the place of event k
    pub from_event : ok at ≡ event_of limit number k s → read_scan_from limit number capacities k at s ≡ read_scan limit number capacities k s
    from_event = in_tray (ok at) (λ h. from_place h k (drop 32 s))

    -- event k has no place
    pub no_event : {n : ℕ} {carries : List ℕ} → refused n carries ≡ event_of limit number k s → length s ≤ at → read_scan_from limit number capacities k at s ≡ read_scan limit number capacities k s
    no_event {n} {carries} i far =
        let beyond : length (drop 32 s) ≤ at = simp length-drop (omega arith) in
        in_tray (refused n carries) (λ h j. from_end h k (drop 32 s) j at beyond) i

  -- read at the place of event k, or where it has none at the largest place, which is after the end
  pub from_either : (capacities : List ℕ) (k : ℕ) → length s < 2 ^ 63 → {at : ℕ} → at ≡ place_or_end (event_of limit number k s) → read_scan_from limit number capacities k at s ≡ read_scan limit number capacities k s
  from_either capacities k few {at} e = go (event_of limit number k s) refl e
    where
      go : (o : Outcome ℕ) → o ≡ event_of limit number k s → at ≡ place_or_end o → read_scan_from limit number capacities k at s ≡ read_scan limit number capacities k s
      go (ok place) i e = rw e (from_event capacities k place i)
      go (refused n carries) i e = no_event capacities k at i (omega arith)

  -- so in the run of a tray whose header was read
  pub scan_in : (capacities : List ℕ) (k : ℕ) {h : TrayHeader} → ok h ≡ header_with limit number k s → length s < 2 ^ 63 → {at : ℕ} → at ≡ place_or_end (place_in h k (drop 32 s))
      → scan_at capacities h k at (drop 32 s) ≡ read_scan limit number capacities k s
  unfolding event_of read_scan_from scan_at
  scan_in capacities k i few {at} e = rw (← i) at (from_either capacities k few {at = at} (e ∙ sym (rw (← i))))
