-- Demand 3 for the calls over a tray, part by part, whatever its limit of scans is, below 2^16, and its refusal's number, which
-- is not 1. Where the header's words keep a part's start below 2^62, nothing is asked of it.
use mathlib.Core.Path.{◌≡◌, refl, subst, sym, ◌∙◌}
use mathlib.Core.Logic.{◌⊎◌, inl, inr}
use Prim.Native.Nat.{ℕ, ◌^◌, ◌≤◌, ◌<◌}
use native.Mathlib.Omega.{arith}
use mathlib.Core.Bool.{cond}
use mathlib.Core.List.{List, [], ◌∷◌, ◌++◌}
use lib.Dec.{ltb, lit<}
use lib.Ieee.{Float}
use lib.ListN.{length, drop}
use Rattle.refusal.specs.Outcome.{Outcome, ok, refused, ran_out, and_then}
use Rattle.refusal.specs.Number.{outcome_of}
use Rattle.refusal.proofs.OneAnswer.{answer_one}
use Rattle.lists.specs.Left.{lengths, LeftListsAndPairs}
use Rattle.parser.specs.Parser.{Parser, ◌>>◌, repeat}
use Rattle.parser.specs.Call.{Call, outcome, single}
use Rattle.parser.specs.LongerBytes.{Bytes, OnLongerBytes, PrefixProperty, Names, CompletesOn, Completes}
use Rattle.parser.proofs.Completion.{Bounded, drop-bytes}
use Rattle.parser.proofs.Calls.{NotTruncated, not_truncated_cond, Avoids, Covers}
use Rattle.parser.proofs.PrefixedBy.{then_prefix, then_names, then_completes_on, after_prefix, head_completes, after_completes}
use Rattle.parser.proofs.OnLongerBytes.{plain_longer}
use Rattle.event_record.specs.Event.{Event}
use Rattle.events.specs.Event.{event_end, event_place}
use Rattle.tray_header.specs.Header.{read_header}
use Rattle.tray_header.specs.declared.TrayHeader.{TrayHeader}
use Rattle.tray_header.proofs.Found.{Words, whole, words}
use Rattle.tray_header.proofs.LongerBytes.{header_prefix, header_names, header_completes}
use Rattle.tray_scan.specs.Scan.{tray_event, ScanParts, scan_parts, WrittenScan, scan_if_fits}
use Rattle.tray_scan.proofs.LongerBytes.{OutputSlices, written_longer, PartsIn, parts_names, RunPart, DataNear, event_bounded, events_bounded, kth_bounded, scan_parts_in, scan_avoids, scan_covers, scan_not_truncated}
use Rattle.tray.specs.Scan.{over_run, header_with, read_scan, read_scan_from, event_of, next_event}
use Rattle.tray.proofs.Headers.{numbered, with_size, with_few}

-- the parts of a scan, and those of an event's place
abbrev pub ScanPart : ℕ → Type 0
ScanPart q = (q ≡ 1) ⊎ RunPart q

abbrev pub PlacePart : ℕ → Type 0
PlacePart q = (q ≡ 1) ⊎ (q ≡ 3)

abbrev pub EndNear : ℕ → ℕ → List ℕ → Type 0
EndNear at q _ = q ≡ 3 → at < 2 ^ 62

-- ---- any call over the run, after a call that answers the header
record HeaderCall (header : List ℕ → Outcome TrayHeader) : Type 0 where
  prefix : PrefixProperty header
  names : Names (λ q. q ≡ 1) header
  completes : Completes 1 0 header
  size : (s : List ℕ) (h : TrayHeader) → header s ≡ ok h → 32 ≤ length s

module _ {A : Type 0} (header : List ℕ → Outcome TrayHeader) (H : HeaderCall header) (call : TrayHeader → Call A) where
  abbrev over_call : List ℕ → Outcome A
  over_call s = over_run (header s) (λ h. outcome (call h)) s

  over_prefix : PrefixProperty over_call
  over_prefix = after_prefix header H.prefix 32 H.size call

  over_names : (P : ℕ → Type 0) → P 1 → ((h : TrayHeader) → PartsIn P (call h)) → Names P over_call
  over_names P one parts s q i = go (header s) refl i
    where
      go : (o : Outcome TrayHeader) → header s ≡ o → over_run o (λ h. outcome (call h)) s ≡ ran_out q → P q
      go (ok h) e j = parts_names P (call h) (parts h) (drop 32 s) q j
      go (refused m carries) e j =
          let a : m ≡ 1 = cc in
          let b : carries ≡ q ∷ [] = cc in
          subst P (sym (H.names s q (e ∙ rw (a, b)))) one

  over_header : ((h : TrayHeader) → Avoids 1 (call h)) → Completes 1 0 over_call
  over_header avoids = head_completes header H.prefix 32 H.size call 1 avoids 0 H.completes

  over_part : (q : ℕ) → 1 < q → (s : List ℕ) → Bytes s → length s < 2 ^ 62 → ((h : TrayHeader) → header s ≡ ok h → Covers (2 ^ 61) q (call h) (drop 32 s)) → CompletesOn q over_call s
  over_part q beyond s is_bytes few covers =
      after_completes header H.prefix 32 H.size call (2 ^ 61) (lit< tt) q (λ s e. let one = H.names s q e in omega arith) s is_bytes few covers

module _ (limit number : ℕ) where
  -- the data of scan k start below 2^62, if the header and the entry say where; and a place that the caller gives does
  abbrev pub ScanNear : ℕ → ℕ → List ℕ → Type 0
  ScanNear k q s = q ≡ 4 → (h : TrayHeader) → ok h ≡ read_header limit number s → DataNear h k (drop 32 s)

  abbrev pub FromNear : ℕ → ℕ → ℕ → List ℕ → Type 0
  FromNear k at q s = (q ≡ 3 → at < 2 ^ 62) × ScanNear k q s

  module _ (other : number ≡ 1 → ⊥) where
    plain : HeaderCall (read_header limit number)
    plain = record { prefix = header_prefix limit number; names = header_names limit number other; completes = header_completes limit number other; size = λ s h e. (whole limit number s (sym e)).size }

    -- refusal 7 is no refusal 1
    with_scan : (k : ℕ) → HeaderCall (header_with limit number k)
    unfolding header_with
    with_scan k =
        let f = read_header limit number in
        let g : TrayHeader → Outcome TrayHeader = λ h. cond (ltb k h.scans) (ok h) (refused 7 []) in
        let settled : (h : TrayHeader) → NotTruncated (g h) = λ h. not_truncated_cond (ltb k h.scans) (ok h) (refused 7 []) tt tt in
        record {
          prefix = then_prefix f (header_prefix limit number) (λ h _. g h) (λ _ _ _ _. refl);
          names = then_names f g settled (λ q. q ≡ 1) (header_names limit number other);
          completes = λ s is_bytes few low. then_completes_on f g settled 1 s (header_completes limit number other s is_bytes few low);
          size = λ s h e. with_size limit number s k (sym e);
        }

    module _ (small : limit < 2 ^ 16) where
      words_of : (s : List ℕ) (k : ℕ) (h : TrayHeader) → header_with limit number k s ≡ ok h → Bytes s → Words h
      words_of s k h e is_bytes = words limit s (whole limit number s (numbered limit number s k (sym e)).header) is_bytes

      -- ---- both calls of a scan: event k is parsed by `events` at `place`
      module _ (capacities : List ℕ) (k : ℕ) (place : TrayHeader → ℕ) (events : TrayHeader → Parser Event) where
        scan : TrayHeader → Call ScanParts
        scan h = scan_parts h k (place h) (events h)

        abbrev parts : List ℕ → Outcome ScanParts
        parts s = over_run (header_with limit number k s) (λ h. outcome (scan h)) s

        abbrev by : List ℕ → Outcome WrittenScan
        by s = and_then (parts s) (scan_if_fits capacities)

        by_prefix : PrefixProperty by
        by_prefix = then_prefix parts (over_prefix _ (with_scan k) scan) (λ p _. scan_if_fits capacities p) (λ _ _ _ _. refl)

        by_names : Names ScanPart by
        unfolding scan
        by_names =
            then_names parts (scan_if_fits capacities) (scan_not_truncated capacities) ScanPart
            (over_names _ (with_scan k) scan ScanPart (inl refl) (λ h. scan_parts_in h k (place h) (events h) ScanPart (inr (inl refl)) (inr (inr (inl refl))) (inr (inr (inr refl)))))

        module _ (s : List ℕ) (is_bytes : Bytes s) (few : length s < 2 ^ 62) (q : ℕ)
            (near : q ≡ 3 → (h : TrayHeader) → Words h → k < 2 ^ 16 → (place h < 2 ^ 62) × Bounded (2 ^ 62) (2 ^ 61) (events h)) (low : ScanNear k q s) where
          in_run : RunPart q → CompletesOn q parts s
          unfolding scan
          in_run p =
              over_part _ (with_scan k) scan q (after p) s is_bytes few
              (λ h e.
              let n = numbered limit number s k (sym e) in
              let l = with_few limit number s k (sym e) in
              let w = words_of s k h e is_bytes in
              scan_covers h k (place h) (events h) w (omega arith) (drop 32 s) (drop-bytes 32 s is_bytes) q p (λ i. near i h w (omega arith)) (λ i. low i h n.header))
            where
              after : RunPart q → 1 < q
              after (inl i) = omega arith
              after (inr (inl i)) = omega arith
              after (inr (inr i)) = omega arith

          by_part : ScanPart q → CompletesOn q by s
          unfolding scan
          by_part (inl i) =
              then_completes_on parts (scan_if_fits capacities) (scan_not_truncated capacities) q s
              (rw i (over_header _ (with_scan k) scan (λ h. scan_avoids h k (place h) (events h) 1 (lit< tt)) s is_bytes few (lit< tt)))
          by_part (inr p) = then_completes_on parts (scan_if_fits capacities) (scan_not_truncated capacities) q s (in_run p)

      -- ---- scan k
      module _ (k : ℕ) where
        abbrev kth : TrayHeader → Parser Event
        kth h = repeat k (tray_event h) >> tray_event h

        module _ (capacities : List ℕ) where
          pub scan_of_prefix : PrefixProperty (read_scan limit number capacities k)
          unfolding read_scan scan
          scan_of_prefix = by_prefix capacities k (λ h. h.events) kth

          pub scan_of_names : Names ScanPart (read_scan limit number capacities k)
          unfolding read_scan scan
          scan_of_names = by_names capacities k (λ h. h.events) kth

          -- by the part that ran out
          pub scan_of_completes : (q : ℕ) → ScanPart q → (s : List ℕ) → Bytes s → length s < 2 ^ 62 → ScanNear k q s → CompletesOn q (read_scan limit number capacities k) s
          unfolding read_scan scan
          scan_of_completes q p s is_bytes few low = by_part capacities k (λ h. h.events) kth s is_bytes few q (λ _ h w l. (omega (arith, w.events), kth_bounded h k w l)) low p

        -- ---- the same, where event k is read at a place that the caller gives
        module _ (at : ℕ) (capacities : List ℕ) where
          pub scan_from_of_prefix : PrefixProperty (read_scan_from limit number capacities k at)
          unfolding read_scan_from scan
          scan_from_of_prefix = by_prefix capacities k (λ _. at) tray_event

          pub scan_from_of_names : Names ScanPart (read_scan_from limit number capacities k at)
          unfolding read_scan_from scan
          scan_from_of_names = by_names capacities k (λ _. at) tray_event

          pub scan_from_of_completes : (q : ℕ) → ScanPart q → (s : List ℕ) → Bytes s → length s < 2 ^ 62 → FromNear k at q s → CompletesOn q (read_scan_from limit number capacities k at) s
          unfolding read_scan_from scan
          scan_from_of_completes q p s is_bytes few near = by_part capacities k (λ _. at) tray_event s is_bytes few q (λ e h w _. (near.0 e, event_bounded h k w)) near.1 p

        -- the sentences, on the answer and all six slices
        module _ (xs : List (List ℕ)) (m i : List Float) where
          abbrev capacities : List ℕ
          capacities = lengths xs ++ length m ∷ length i ∷ []

          pub scan_of_longer : OnLongerBytes outcome_of (λ s r (ys : OutputSlices). LeftListsAndPairs (λ c. read_scan limit number c k s) xs m i (outcome_of r) ys.0 ys.1 ys.2) ScanPart (ScanNear k)
          scan_of_longer = written_longer xs m i ScanPart (ScanNear k) (read_scan limit number capacities k) (scan_of_prefix capacities) (scan_of_names capacities) (scan_of_completes capacities)

          pub scan_from_of_longer : (at : ℕ)
              → OnLongerBytes outcome_of (λ s r (ys : OutputSlices). LeftListsAndPairs (λ c. read_scan_from limit number c k at s) xs m i (outcome_of r) ys.0 ys.1 ys.2) ScanPart (FromNear k at)
          scan_from_of_longer at =
              written_longer xs m i ScanPart (FromNear k at) (read_scan_from limit number capacities k at) (scan_from_of_prefix at capacities) (scan_from_of_names at capacities) (scan_from_of_completes at capacities)

      -- ---- where event k stands
      module _ (k : ℕ) where
        place : TrayHeader → Call ℕ
        place h = single 3 h.events (repeat k (tray_event h)) (λ _ next. ok next)

        pub place_of_prefix : PrefixProperty (event_of limit number k)
        unfolding event_of event_place place
        place_of_prefix = over_prefix _ (with_scan k) place

        pub place_of_names : Names PlacePart (event_of limit number k)
        unfolding event_of event_place place
        place_of_names = over_names _ (with_scan k) place PlacePart (inl refl) (λ h. (inr refl, λ _ _. tt))

        pub place_of_completes : (q : ℕ) → PlacePart q → (s : List ℕ) → Bytes s → length s < 2 ^ 62 → CompletesOn q (event_of limit number k) s
        unfolding event_of event_place place
        place_of_completes q (inl e) s is_bytes few = rw e (over_header _ (with_scan k) place (λ h. ((λ e. omega (arith, e)), λ _ _. tt)) s is_bytes few (lit< tt))
        place_of_completes q (inr e) s is_bytes few =
            rw e
            (over_part _ (with_scan k) place 3 (lit< tt) s is_bytes few
            (λ h i.
            let w = words_of s k h i is_bytes in
            let l = with_few limit number s k (sym i) in
            inl (refl, omega (arith, w.events), events_bounded h k w (omega arith), λ _ _. tt)))

        pub place_of_longer : OnLongerBytes outcome_of (λ s r (_ : Unit {0}). outcome_of r ≡ event_of limit number k s) PlacePart (λ _ _. Unit {0})
        place_of_longer =
            plain_longer outcome_of answer_one (event_of limit number k) place_of_prefix PlacePart (λ _ _. Unit {0}) place_of_names
            (λ q s is_bytes few _ i. place_of_completes q (place_of_names s q i) s is_bytes few i)

      -- ---- where the event at a place ends
      module _ (at : ℕ) where
        end : TrayHeader → Call ℕ
        end h = single 3 at (tray_event h) (λ _ next. ok next)

        pub end_of_prefix : PrefixProperty (next_event limit number at)
        unfolding next_event event_end end
        end_of_prefix = over_prefix _ plain end

        pub end_of_names : Names PlacePart (next_event limit number at)
        unfolding next_event event_end end
        end_of_names = over_names _ plain end PlacePart (inl refl) (λ h. (inr refl, λ _ _. tt))

        pub end_of_completes : (q : ℕ) → PlacePart q → (s : List ℕ) → Bytes s → length s < 2 ^ 62 → EndNear at q s → CompletesOn q (next_event limit number at) s
        unfolding next_event event_end end
        end_of_completes q (inl e) s is_bytes few near = rw e (over_header _ plain end (λ h. ((λ e. omega (arith, e)), λ _ _. tt)) s is_bytes few (lit< tt))
        end_of_completes q (inr e) s is_bytes few near =
            rw e
            (over_part _ plain end 3 (lit< tt) s is_bytes few
            (λ h i. inl (refl, near e, event_bounded h 0 (words limit s (whole limit number s (sym i)) is_bytes), λ _ _. tt)))

        pub end_of_longer : OnLongerBytes outcome_of (λ s r (_ : Unit {0}). outcome_of r ≡ next_event limit number at s) PlacePart (EndNear at)
        end_of_longer =
            plain_longer outcome_of answer_one (next_event limit number at) end_of_prefix PlacePart (EndNear at) end_of_names
            (λ q s is_bytes few near i. end_of_completes q (end_of_names s q i) s is_bytes few near i)
