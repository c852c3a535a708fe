-- Demand 3 for `read_scan`, `read_scan_from`, `event_of` and `next_event`: a tray of at most 4,096 scans, or refusal 6.
use mathlib.Core.Path.{◌≡◌}
use Prim.Native.Nat.{ℕ, ◌^◌, ◌<◌}
use mathlib.Core.List.{List}
use lib.Dec.{lit<}
use lib.Ieee.{Float}
use lib.ListN.{length}
use Rattle.refusal.specs.Number.{outcome_of}
use Rattle.lists.specs.Left.{LeftListsAndPairs}
use Rattle.parser.specs.LongerBytes.{Bytes, OnLongerBytes, PrefixProperty, Names, CompletesOn}
use Rattle.tray_header.proofs.LongerBytes.{six}
use Rattle.tray_scan.proofs.LongerBytes.{OutputSlices}
use Rattle.tray.specs.Scan.{read_scan, read_scan_from, event_of, next_event}
use Rattle.tray.proofs.AnyLimit.{ScanPart, PlacePart, ScanNear, FromNear, EndNear}
use Rattle.tray.proofs.AnyLimit as any

-- ---- scan k, on the answer and all six slices
pub scan_prefix : (capacities : List ℕ) (k : ℕ) → PrefixProperty (read_scan 4096 6 capacities k)
scan_prefix capacities k = any.scan_of_prefix 4096 6 six (lit< tt) k capacities

pub scan_names : (capacities : List ℕ) (k : ℕ) → Names ScanPart (read_scan 4096 6 capacities k)
scan_names capacities k = any.scan_of_names 4096 6 six (lit< tt) k capacities

pub scan_completes : (capacities : List ℕ) (k q : ℕ) → ScanPart q → (s : List ℕ) → Bytes s → length s < 2 ^ 62 → ScanNear 4096 6 k q s → CompletesOn q (read_scan 4096 6 capacities k) s
scan_completes capacities k = any.scan_of_completes 4096 6 six (lit< tt) k capacities

pub scan_longer : (k : ℕ) (xs : List (List ℕ)) (m i : List Float)
    → OnLongerBytes outcome_of (λ s r (ys : OutputSlices). LeftListsAndPairs (λ c. read_scan 4096 6 c k s) xs m i (outcome_of r) ys.0 ys.1 ys.2) ScanPart (ScanNear 4096 6 k)
scan_longer k = any.scan_of_longer 4096 6 six (lit< tt) k

pub from_longer : (k at : ℕ) (xs : List (List ℕ)) (m i : List Float)
    → OnLongerBytes outcome_of (λ s r (ys : OutputSlices). LeftListsAndPairs (λ c. read_scan_from 4096 6 c k at s) xs m i (outcome_of r) ys.0 ys.1 ys.2) ScanPart (FromNear 4096 6 k at)
from_longer k at xs m i = any.scan_from_of_longer 4096 6 six (lit< tt) k xs m i at

-- ---- places of events
pub event_of_prefix : (k : ℕ) → PrefixProperty (event_of 4096 6 k)
event_of_prefix k = any.place_of_prefix 4096 6 six (lit< tt) k

pub event_of_completes : (k q : ℕ) → PlacePart q → (s : List ℕ) → Bytes s → length s < 2 ^ 62 → CompletesOn q (event_of 4096 6 k) s
event_of_completes k = any.place_of_completes 4096 6 six (lit< tt) k

pub event_of_longer : (k : ℕ) → OnLongerBytes outcome_of (λ s r (_ : Unit {0}). outcome_of r ≡ event_of 4096 6 k s) PlacePart (λ _ _. Unit {0})
event_of_longer k = any.place_of_longer 4096 6 six (lit< tt) k

pub next_event_prefix : (at : ℕ) → PrefixProperty (next_event 4096 6 at)
next_event_prefix at = any.end_of_prefix 4096 6 six (lit< tt) at

pub next_event_completes : (at q : ℕ) → PlacePart q → (s : List ℕ) → Bytes s → length s < 2 ^ 62 → EndNear at q s → CompletesOn q (next_event 4096 6 at) s
next_event_completes at = any.end_of_completes 4096 6 six (lit< tt) at

pub next_event_longer : (at : ℕ) → OnLongerBytes outcome_of (λ s r (_ : Unit {0}). outcome_of r ≡ next_event 4096 6 at s) PlacePart (EndNear at)
next_event_longer at = any.end_of_longer 4096 6 six (lit< tt) at
