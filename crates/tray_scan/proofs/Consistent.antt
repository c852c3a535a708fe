-- A scan that was read holds together: its counts are those of its lists, and the lent slices hold them.
use mathlib.Core.Path.{◌≡◌, refl}
use Prim.Native.Nat.{ℕ, ◌≤◌}
use mathlib.Core.List.{List, [], ◌∷◌, ◌++◌}
use lib.ListN.{length}
use Rattle.refusal.specs.Outcome.{ok}
use Rattle.refusal.proofs.Outcomes.{both_ok}
use Rattle.lists.specs.Left.{fits, lengths, lists_and_pairs_if_fit}
use Rattle.lists.proofs.Left.{fits_true, room_true}
use Rattle.parser.specs.Call.{outcome}
use Rattle.event_record.specs.Event.{describe, event_lists}
use Rattle.tray_header.specs.declared.TrayHeader.{TrayHeader}
use Rattle.tray_data.specs.Data.{pairs}
use Rattle.tray_scan.specs.Scan.{tray_event, ScanParts, scan_parts, WrittenScan, scan_if_fits, scan_at}

pub record Consistent (coefficients mz intensity : ℕ) (v : WrittenScan) : Type 0 where
  pub count : v.0.pairs ≡ length v.2
  pub in_coefficients : v.0.event.coefficients ≤ coefficients
  pub in_mz : length v.2 ≤ mz
  pub in_intensity : length v.2 ≤ intensity

module _ (a b c d m i : ℕ) where
  abbrev capacities : List ℕ
  capacities = a ∷ b ∷ c ∷ d ∷ m ∷ i ∷ []

  of_parts : (p : ScanParts) {v : WrittenScan} → ok v ≡ scan_if_fits capacities p → Consistent d m i v
  unfolding scan_if_fits lists_and_pairs_if_fit describe
  of_parts p h =
      let ps = pairs p.event.coefficients p.content in
      let counts = lengths (event_lists p.event) ++ length ps ∷ length ps ∷ [] in
      let w = room_true {A = WrittenScan} (fits counts capacities) _ h in
      let all = fits_true counts capacities w.0 in
      rw w.1 (record { count = refl; in_coefficients = all.1.1.1.0; in_mz = all.1.1.1.1.0; in_intensity = all.1.1.1.1.1.0 })

  pub consistent : (h : TrayHeader) (k at : ℕ) (s : List ℕ) {v : WrittenScan} → ok v ≡ scan_at capacities h k at s → Consistent d m i v
  unfolding scan_at
  consistent h k at s e = let w = both_ok (scan_if_fits capacities) (outcome (scan_parts h k at (tray_event h)) s) e in of_parts w.value w.second
