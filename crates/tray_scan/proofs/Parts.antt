-- A scan is its entry, its event and its data in turn.
use Rattle.std.specs.Prelude.{Ok, Err, Result}
use mathlib.Core.Path.{◌≡◌, refl, ap, sym, ◌∙◌}
use mathlib.Core.Logic.{⊎_elim}
use Prim.Native.Nat.{ℕ, ◌+◌, ◌*◌, ◌-◌}
use native.Mathlib.Omega.{arith}
use mathlib.Core.Bool.{true, false}
use mathlib.Core.List.{List}
use lib.Dec.{leb}
use borrow.Author.Tests.{leb-false, lt-leb}
use Rattle.refusal.specs.Outcome.{Outcome, ok, refused, on_ok, and_then}
use Rattle.refusal.specs.Number.{outcome_of}
use Rattle.refusal.specs.declared.Refusal.{Refusal}
use Rattle.lists.proofs.Cases.{leb_cases}
use Rattle.parser.specs.Parser.{Parser, Parsed, short, parsed, parse, remaining}
use Rattle.parser.specs.Call.{onward, outcome, part_at}
use Rattle.parser.proofs.Fixed.{parse_sized}
use Rattle.scan_index.specs.Entry.{entry, entry_size, read_entry}
use Rattle.scan_index.specs.declared.ScanIndexEntry.{ScanIndexEntry}
use Rattle.scan_index.proofs.Size.{entry_least, entry_sized}
use Rattle.event_record.specs.Event.{Event}
use Rattle.event_record.specs.Places.{find_by}
use Rattle.event_record.specs.declared.Places.{Places}
use Rattle.events.specs.Event.{layout, event_end}
use Rattle.events.proofs.Ends.{found_event}
use Rattle.tray_header.specs.declared.TrayHeader.{TrayHeader}
use Rattle.tray_data.specs.Data.{find_data, content_at}
use Rattle.tray_data.specs.declared.ScanData.{ScanData}
use Rattle.tray_data.proofs.Answers.{data_found, data_refused}
use Rattle.tray_scan.specs.Scan.{format_in, entry_in, tray_event, ScanParts, scan_parts, scan_if_fits, scan_at, end_in, place_or_end}
use Rattle.tray_scan.specs.Internal.{entry_of, with_data, in_turn, event_found, next_place}

module _ (h : TrayHeader) (k : ℕ) (s : List ℕ) where
  -- an entry that is there has those before it in front of it
  pub entry_alone : parse (entry_in h k) s h.index ≡ parse (entry h.version) s (h.index + k * entry_size h.version)
  unfolding entry_in parse
  entry_alone =
      let n = k * entry_size h.version in
      ⊎_elim
      (λ (e : leb n (remaining s h.index) ≡ true). rw e)
      (λ (e : leb n (remaining s h.index) ≡ false).
      let few = leb-false n (remaining s h.index) e in
      let none = lt-leb (entry_size h.version) (remaining s (h.index + n)) (omega (arith, entry_least h.version)) in
      rw (e, parse_sized (entry_size h.version) (entry h.version) (entry_sized h.version) s (h.index + n), none))
      (leb_cases n (remaining s h.index))

  pub in_turn-part_at : (place : ℕ) (events : Parser Event) → in_turn h k (part_at 3 place events s) s ≡ outcome (scan_parts h k place events) s
  unfolding in_turn read_entry scan_parts with_data outcome part_at
  in_turn-part_at place events = rw entry_alone (go (parse (entry h.version) s (h.index + k * entry_size h.version)))
    where
      of_event : (entry : ScanIndexEntry) (o : Parsed Event)
          → and_then {A = Event × ℕ} (onward 3 o (λ e next. ok (e, next))) (λ v. outcome (with_data h entry v.0 v.1) s) ≡ onward 3 o (λ e next. outcome (with_data h entry e next) s)
      of_event entry short = refl
      of_event entry (parsed e next) = refl

      go : (o : Parsed ScanIndexEntry)
          → and_then (onward 2 o (λ e _. ok e)) (λ entry. and_then {A = Event × ℕ} (onward 3 (parse events s place) (λ e next. ok (e, next))) (λ v. outcome (with_data h entry v.0 v.1) s))
          ≡ onward 2 o (λ entry _. onward 3 (parse events s place) (λ e next. outcome (with_data h entry e next) s))
      go short = refl
      go (parsed entry next) = of_event entry (parse events s place)

  -- the events count by what stands there alone
  pub same_event : (place place' : ℕ) (events events' : Parser Event) → part_at 3 place events s ≡ part_at 3 place' events' s
      → outcome (scan_parts h k place events) s ≡ outcome (scan_parts h k place' events') s
  same_event place place' events events' e = sym (in_turn-part_at place events) ∙ ap (λ o. in_turn h k o s) e ∙ in_turn-part_at place' events'

  -- ---- by what was found
  module _ (o : Outcome (Event × ℕ)) where
    pub no_entry : {n : ℕ} {carries : List ℕ} → refused n carries ≡ entry_of h k s → refused n carries ≡ in_turn h k o s
    unfolding in_turn
    no_entry i = rw (← i)

    module _ {entry : ScanIndexEntry} (i : ok entry ≡ entry_of h k s) where
      pub no_event : {n : ℕ} {carries : List ℕ} → refused n carries ≡ o → refused n carries ≡ in_turn h k o s
      unfolding in_turn
      no_event j = rw (← i, ← j)

      module _ {e : Event} {next : ℕ} (j : ok (e, next) ≡ o) where
        pub no_data : {n : ℕ} {carries : List ℕ} → refused n carries ≡ find_data (format_in h) h.«data» entry.offset entry.data_size s → refused n carries ≡ in_turn h k o s
        unfolding in_turn with_data
        no_data f =
            rw (← i, ← j)
            (data_refused (λ content. ok (record { entry = entry; event = e; next = next; content = content })) h.«data» entry.offset entry.data_size s (format_in h) f)

        pub all_there : {d : ScanData} → ok d ≡ find_data (format_in h) h.«data» entry.offset entry.data_size s
            → ok (record { entry = entry; event = e; next = next; content = content_at d s }) ≡ in_turn h k o s
        unfolding in_turn with_data
        all_there f =
            rw (← i, ← j)
            (data_found (λ content. ok (record { entry = entry; event = e; next = next; content = content })) h.«data» entry.offset entry.data_size s (format_in h) f)

-- ---- an event that `find_event` answered
module _ (h : TrayHeader) (at : ℕ) (s : List ℕ) where
  abbrev pub Finds : Result Places Refusal → Type 0
  Finds x = outcome_of x ≡ find_by (layout h.version h.primary h.dependent) at s

  is_event : (x : Result Places Refusal) → Finds x → event_found s x ≡ part_at 3 at (tray_event h) s
  is_event x e = ap (on_ok _) e ∙ found_event h.version h.primary h.dependent at s

  pub end_is : end_in h at s ≡ and_then (part_at 3 at (tray_event h) s) (λ v. ok v.1)
  unfolding event_end outcome part_at
  end_is = go (parse (tray_event h) s at)
    where
      go : (o : Parsed Event) → onward 3 o (λ _ next. ok next) ≡ and_then {A = Event × ℕ} (onward 3 o (λ e next. ok (e, next))) (λ v. ok v.1)
      go short = refl
      go (parsed e next) = refl

  pub next_is : (x : Result Places Refusal) → Finds x → next_place x ≡ place_or_end (end_in h at s)
  next_is x e = go x (sym (end_is ∙ ap (λ o. and_then o (λ v. ok v.1)) (sym (is_event x e))))
    where
      go : (x : Result Places Refusal) → and_then (event_found s x) (λ v. ok v.1) ≡ end_in h at s → next_place x ≡ place_or_end (end_in h at s)
      go (Ok p) i = ap place_or_end i
      go (Err r) i = ap place_or_end i

-- ---- the scan, where the event was sought first
module _ (h : TrayHeader) (k at : ℕ) (s : List ℕ) (x : Result Places Refusal) (e : Finds h at s x) where
  whole : in_turn h k (event_found s x) s ≡ outcome (scan_parts h k at (tray_event h)) s
  whole = ap (λ o. in_turn h k o s) (is_event h at s x e) ∙ in_turn-part_at h k s at (tray_event h)

  pub not_found : {n : ℕ} {carries : List ℕ} → refused n carries ≡ in_turn h k (event_found s x) s → (capacities : List ℕ) → refused n carries ≡ scan_at capacities h k at s
  unfolding scan_at
  not_found i capacities = rw (← (i ∙ whole))

  pub was_found : {p : ScanParts} → ok p ≡ in_turn h k (event_found s x) s → (capacities : List ℕ) → scan_if_fits capacities p ≡ scan_at capacities h k at s
  unfolding scan_at
  was_found i capacities = rw (← (i ∙ whole))
