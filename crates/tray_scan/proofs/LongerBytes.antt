-- Demand 3 for scan k of a run, by its tray's header, whose words have 32 bits.
use Rattle.std.specs.Prelude.{Result}
use mathlib.Core.Path.{◌≡◌, refl, subst, sym, ap, ◌∙◌}
use mathlib.Core.Logic.{◌⊎◌, inl, inr}
use Prim.Native.Nat.{ℕ, ◌+◌, ◌*◌, ◌^◌, ◌<◌}
use native.Mathlib.Nat.{mul-le-mul_left}
use native.Mathlib.Omega.{arith}
use mathlib.Core.List.{List, [], ◌∷◌, ◌++◌}
use lib.Dec.{lit≤, lit<}
use lib.Ieee.{Float}
use lib.ListN.{length}
use Rattle.refusal.specs.Outcome.{Outcome, ok, ran_out, and_then}
use Rattle.refusal.proofs.Outcomes.{ok_not_refused}
use Rattle.refusal.specs.Number.{outcome_of}
use Rattle.refusal.proofs.OneAnswer.{answer_one}
use Rattle.refusal.specs.declared.Refusal.{Refusal}
use Rattle.lists.specs.Written.{over}
use Rattle.lists.specs.Left.{firsts, seconds, fits, lengths, over_all, lists_and_pairs_if_fit, LeftListsAndPairs}
use Rattle.parser.specs.Parser.{Parser, Parsed, short, parsed, parse, ◌>>◌, skip, repeat}
use Rattle.parser.specs.Call.{Call, answer, part, onward, outcome}
use Rattle.parser.specs.LongerBytes.{Bytes, OnLongerBytes, PrefixProperty, Names, CompletesOn}
use Rattle.parser.proofs.Fixed.{sized_raw}
use Rattle.parser.proofs.Completion.{Bounded, bounded_more, invariant_parsed}
use Rattle.parser.proofs.DemandBound.{DemandBound, Any, demand_sized, demand_bind, demand_repeat}
use Rattle.parser.proofs.Calls.{NotTruncated, Avoids, Covers, not_truncated_room, not_ran_out, prefix_property, completion}
use Rattle.parser.proofs.PrefixedBy.{then_prefix, then_names, then_completes_on}
use Rattle.parser.proofs.OnLongerBytes.{left_longer}
use Rattle.scan_index.specs.Entry.{entry as an_entry, entry_size, read_entry}
use Rattle.scan_index.specs.declared.ScanIndexEntry.{ScanIndexEntry}
use Rattle.scan_index.proofs.Size.{entry_most, entry_sized}
use Rattle.scan_index.proofs.LongerBytes.{entry_sizable}
use Rattle.event_record.specs.Event.{Event, event_lists}
use Rattle.events.specs.Event.{event_end}
use Rattle.events.proofs.LongerBytes.{event_demand, event_end_prefix}
use Rattle.tray_header.specs.declared.TrayHeader.{TrayHeader}
use Rattle.tray_header.proofs.Found.{Words}
use Rattle.tray_data.specs.Data.{Finding, of_finding, data_start, pairs}
use Rattle.tray_data.proofs.LongerBytes.{data_bounded, finding_not_truncated}
use Rattle.tray_scan.specs.Scan.{format_in, entry_in, tray_event, ScanParts, scan_parts, WrittenScan, scan_if_fits, scan_at, end_in, place_or_end}
use Rattle.tray_scan.specs.Internal.{entry_of, with_data}
use Rattle.tray_scan.specs.declared.Scan.{Scan}
use Rattle.tray_scan.specs.declared.ScanAndNext.{ScanAndNext}
use Rattle.tray_scan.proofs.Parts.{entry_alone}

-- ---- every part that a call can run out in
abbrev pub PartsIn : {A : Type 0} → (ℕ → Type 0) → Call A → Type 0
PartsIn P (answer o) = NotTruncated o
PartsIn P (part {B} q at p k) = P q × ((b : B) (next : ℕ) → PartsIn P (k b next))

pub parts_names : {A : Type 0} (P : ℕ → Type 0) (c : Call A) → PartsIn P c → Names P (outcome c)
unfolding outcome
parts_names P (answer o) z s q h = absurd (not_ran_out o q z h)
parts_names {A} P (part {B} n at p k) z s q h = go (λ b next. parts_names P (k b next) (z.1 b next) s q) (parse p s at) h
  where
    go : ((b : B) (next : ℕ) → outcome (k b next) s ≡ ran_out q → P q) → (o : Parsed B) → onward n o (λ b next. outcome (k b next) s) ≡ ran_out q → P q
    go ih short i = let e : n ≡ q = cc in subst P e z.0
    go ih (parsed b next) i = ih b next i

-- ---- the parts of a scan in a run, and what they ask for
abbrev pub RunPart : ℕ → Type 0
RunPart q = (q ≡ 2) ⊎ (q ≡ 3) ⊎ (q ≡ 4)

-- the data of entry k start below 2^62
abbrev pub DataNear : TrayHeader → ℕ → List ℕ → Type 0
DataNear h k s = (entry : ScanIndexEntry) → ok entry ≡ entry_of h k s → data_start h.«data» entry.offset < 2 ^ 62

module _ (h : TrayHeader) (k : ℕ) where
  entry_bounded : k < 2 ^ 32 → Bounded (2 ^ 62) (2 ^ 61) (entry_in h k)
  unfolding entry_in
  entry_bounded small =
      let size = entry_size h.version in
      let n = k * size in
      bounded_more (2 ^ 62) (n + size) (2 ^ 61) (skip n >> an_entry h.version) (omega (arith, mul-le-mul_left k (entry_most h.version), entry_most h.version))
      (demand_bind (2 ^ 62) n size Any Any (λ _. an_entry h.version) (λ _ _. demand_sized (2 ^ 62) size (an_entry h.version) (entry_sized h.version))
      (skip n) (demand_sized (2 ^ 62) n (skip n) (sized_raw n))).bounded

  module _ (w : Words h) where
    one : DemandBound (2 ^ 62) (2 ^ 39) Any (tray_event h)
    one = event_demand h.version h.primary h.dependent w.primary w.dependent

    many : DemandBound (2 ^ 62) (2 ^ 39 + k * 2 ^ 39) Any (repeat k (tray_event h))
    many = demand_repeat (2 ^ 62) (2 ^ 39) (2 ^ 39) k (tray_event h) Any one one.zeros

    pub event_bounded : Bounded (2 ^ 62) (2 ^ 61) (tray_event h)
    event_bounded = bounded_more (2 ^ 62) (2 ^ 39) (2 ^ 61) (tray_event h) (lit≤ tt) one.bounded

    pub events_bounded : k < 2 ^ 16 → Bounded (2 ^ 62) (2 ^ 61) (repeat k (tray_event h))
    events_bounded few = bounded_more (2 ^ 62) (2 ^ 39 + k * 2 ^ 39) (2 ^ 61) (repeat k (tray_event h)) (omega arith) many.bounded

    pub kth_bounded : k < 2 ^ 16 → Bounded (2 ^ 62) (2 ^ 61) (repeat k (tray_event h) >> tray_event h)
    kth_bounded few =
        bounded_more (2 ^ 62) (2 ^ 39 + k * 2 ^ 39 + 2 ^ 39) (2 ^ 61) (repeat k (tray_event h) >> tray_event h) (omega arith)
        (demand_bind (2 ^ 62) (2 ^ 39 + k * 2 ^ 39) (2 ^ 39) Any Any (λ _. tray_event h) (λ _ _. one) (repeat k (tray_event h)) many).bounded

  -- the events are read by a parser at a place
  module _ (place : ℕ) (events : Parser Event) where
    found : (entry : ScanIndexEntry) (e : Event) (next : ℕ) (f : Finding) → NotTruncated (of_finding {A = ScanParts} (λ content. ok (record { entry = entry; event = e; next = next; content = content })) f)
    found entry e next = finding_not_truncated _ (λ _. tt)

    pub scan_parts_in : (P : ℕ → Type 0) → P 2 → P 3 → P 4 → PartsIn P (scan_parts h k place events)
    unfolding scan_parts
    scan_parts_in P index event given = (index, λ entry _. (event, λ e next. (given, λ f _. found entry e next f)))

    pub scan_avoids : (p : ℕ) → p < 2 → Avoids p (scan_parts h k place events)
    unfolding scan_parts
    scan_avoids p low = ((λ e. omega (arith, e)), λ entry _. ((λ e. omega (arith, e)), λ e next. ((λ e. omega (arith, e)), λ f _. found entry e next f)))

    module _ (w : Words h) (small : k < 2 ^ 32) (s : List ℕ) (is_bytes : Bytes s) where
      pub scan_covers : (q : ℕ) → RunPart q → (q ≡ 3 → (place < 2 ^ 62) × Bounded (2 ^ 62) (2 ^ 61) events) → (q ≡ 4 → DataNear h k s) → Covers (2 ^ 61) q (scan_parts h k place events) s
      unfolding scan_parts read_entry outcome
      scan_covers q (inl i) near low =
          rw i
          (inl (refl, omega (arith, w.index), entry_bounded small, λ entry _. ((λ e. omega (arith, e)), λ e next. ((λ e. omega (arith, e)), λ f _. found entry e next f))))
      scan_covers q (inr (inl i)) near low =
          rw i
          (inr ((λ e. omega (arith, e)), λ entry _ _. inl (refl, (near i).0, (near i).1, λ e next. ((λ e. omega (arith, e)), λ f _. found entry e next f))))
      scan_covers q (inr (inr i)) near low =
          rw i
          (inr (
            (λ e. omega (arith, e)),
            λ entry next there.
                let here : parse (an_entry h.version) s (h.index + k * entry_size h.version) ≡ parsed entry next = sym (entry_alone h k s) ∙ there in
                let start = low i entry (rw here) in
                let size = invariant_parsed _ (an_entry h.version) (entry_sizable h.version) s is_bytes _ here in
                inr (
                  (λ e. omega (arith, e)),
                  λ e end _.
                      inl (refl, start, data_bounded (data_start h.«data» entry.offset) entry.offset entry.data_size start size (format_in h), λ f _. found entry e end f),
                ),
          ))

-- the room that is left gives no refusal 1
pub scan_not_truncated : (capacities : List ℕ) (p : ScanParts) → NotTruncated (scan_if_fits capacities p)
unfolding scan_if_fits lists_and_pairs_if_fit
scan_not_truncated capacities p =
    let ps = pairs p.event.coefficients p.content in
    not_truncated_room {A = WrittenScan} (fits (lengths (event_lists p.event) ++ length ps ∷ length ps ∷ []) capacities) _

-- what is lent, and the sentences on a call that writes a scan
abbrev pub OutputSlices : Type 0
OutputSlices = List (List ℕ) × List Float × List Float

pub written_longer : (xs : List (List ℕ)) (m i : List Float) (parts : ℕ → Type 0) (near : ℕ → List ℕ → Type 0) (f : List ℕ → Outcome WrittenScan) → PrefixProperty f → Names parts f
    → ((q : ℕ) → parts q → (s : List ℕ) → Bytes s → length s < 2 ^ 62 → near q s → CompletesOn q f s)
    → OnLongerBytes outcome_of (λ s r (ys : OutputSlices). LeftListsAndPairs (λ _. f s) xs m i (outcome_of r) ys.0 ys.1 ys.2) parts near
written_longer xs m i parts near f prefix names completes =
    left_longer outcome_of answer_one f prefix parts near names (λ q s is_bytes few low o. completes q (names s q o) s is_bytes few low o) (λ (v : WrittenScan). v.0)
    (λ (v : WrittenScan) (l : OutputSlices). (over_all v.1 l.0, over (firsts v.2) l.1, over (seconds v.2) l.2)) (xs, m, i)

abbrev and_next : Result Scan Refusal → ℕ → ScanAndNext
and_next scan next = record { scan = scan; next = next }

-- ---- a scan whose event stands at a place of the caller's
module _ (h : TrayHeader) (k at : ℕ) where
  -- only the caller's place and the data's can be 2^62 or more
  abbrev pub AtNear : ℕ → List ℕ → Type 0
  AtNear q s = (q ≡ 3 → at < 2 ^ 62) × (q ≡ 4 → DataNear h k s)

  module _ (capacities : List ℕ) where
    pub scan_at_prefix : PrefixProperty (scan_at capacities h k at)
    unfolding scan_at
    scan_at_prefix = then_prefix (outcome (scan_parts h k at (tray_event h))) (prefix_property (scan_parts h k at (tray_event h))) (λ p _. scan_if_fits capacities p) (λ _ _ _ _. refl)

    pub scan_at_names : Names RunPart (scan_at capacities h k at)
    unfolding scan_at
    scan_at_names =
        let c = scan_parts h k at (tray_event h) in
        then_names (outcome c) (scan_if_fits capacities) (scan_not_truncated capacities) RunPart
        (parts_names RunPart c (scan_parts_in h k at (tray_event h) RunPart (inl refl) (inr (inl refl)) (inr (inr refl))))

    pub scan_at_completes : Words h → k < 2 ^ 32 → (q : ℕ) → RunPart q → (s : List ℕ) → Bytes s → length s < 2 ^ 62 → AtNear q s → CompletesOn q (scan_at capacities h k at) s
    unfolding scan_at
    scan_at_completes w small q p s is_bytes few near =
        let c = scan_parts h k at (tray_event h) in
        then_completes_on (outcome c) (scan_if_fits capacities) (scan_not_truncated capacities) q s
        (completion (2 ^ 61) (lit< tt) q c s (scan_covers h k at (tray_event h) w small s is_bytes q p (λ e. (near.0 e, event_bounded h k w)) near.1) is_bytes few)

    -- without its event there is no scan
    no_scan : (s : List ℕ) (p : ℕ) → end_in h at s ≡ ran_out p → (q : ℕ) × (scan_at capacities h k at s ≡ ran_out q)
    unfolding scan_at scan_parts with_data event_end outcome
    no_scan s p i = go (parse (entry_in h k) s h.index) (parse (tray_event h) s at) i
      where
        go : (o : Parsed ScanIndexEntry) (v : Parsed Event) → onward 3 v (λ _ next. ok next) ≡ ran_out p
            → (q : ℕ) × (and_then (onward 2 o (λ entry _. onward 3 v (λ e next. outcome (with_data h entry e next) s))) (scan_if_fits capacities) ≡ ran_out q)
        go short v e = (2, refl)
        go (parsed entry _) short e = (3, refl)
        go (parsed entry _) (parsed e next) j = ok_not_refused j

    pub next_stays : (s t : List ℕ) → ((q : ℕ) → scan_at capacities h k at s ≡ ran_out q → ⊥) → end_in h at (s ++ t) ≡ end_in h at s
    next_stays s t never = event_end_prefix h.version h.primary h.dependent at s t (λ p i. let n = no_scan s p i in never n.0 n.1)

  -- the sentences, on the answer, the next place and all six slices
  module _ (xs : List (List ℕ)) (m i : List Float) where
    abbrev pub Meets : List ℕ → ScanAndNext → OutputSlices → Type 0
    Meets s r ys = LeftListsAndPairs (λ c. scan_at c h k at s) xs m i (outcome_of r.scan) ys.0 ys.1 ys.2 × (r.next ≡ place_or_end (end_in h at s))

    pub scan_at_longer : Words h → k < 2 ^ 32 → OnLongerBytes (λ r. outcome_of r.scan) Meets RunPart AtNear
    scan_at_longer w small =
        let capacities = lengths xs ++ length m ∷ length i ∷ [] in
        let scan = written_longer xs m i RunPart AtNear (scan_at capacities h k at) (scan_at_prefix capacities) (scan_at_names capacities) (scan_at_completes capacities w small) in
        record {
          stays = λ s t r q ys zs a b never.
              let both = scan.stays s t r.scan q.scan ys zs a.0 b.0 never in
              let same : end_in h at (s ++ t) ≡ end_in h at s = next_stays capacities s t (λ p e. never p (a.0.answered ∙ rw e)) in
              let next : q.next ≡ r.next = b.1 ∙ ap place_or_end same ∙ sym a.1 in
              (ap (λ x. and_next x q.next) both.0 ∙ ap (and_next r.scan) next, both.1);
          named = λ s r ys p a. scan.named s r.scan ys p a.0;
          completes = λ s r ys p is_bytes few near a e.
              let c = scan.completes s r.scan ys p is_bytes few near a.0 e in
              (c.0, c.1, λ q zs b. c.2 q.scan zs b.0);
        }
