-- From a tray's header to its run.
use mathlib.Core.Path.{◌≡◌, refl}
use Prim.Native.Nat.{ℕ, ◌-◌, ◌≤◌, ◌<◌}
use native.Mathlib.Nat.{le_refl}
use native.Mathlib.Omega.{arith}
use mathlib.Core.Bool.{Bool, true, false, cond}
use mathlib.Core.List.{List, []}
use lib.Dec.{ltb}
use lib.ListN.{length, take, drop, length-drop}
use lib.Seq.{take_all}
use borrow.Author.Tests.{lt-ltb, le-ltb, ltb-true}
use Rattle.refusal.specs.Outcome.{ok, refused}
use Rattle.refusal.proofs.Outcomes.{both_ok, ok_not_refused}
use Rattle.tray_header.specs.Header.{read_header}
use Rattle.tray_header.specs.declared.TrayHeader.{TrayHeader}
use Rattle.tray_header.proofs.Found.{whole}
use Rattle.tray_scan.specs.Scan.{scan_at}
use Rattle.tray.specs.Scan.{header_with, read_scan_from}

module _ (limit number : ℕ) (s : List ℕ) where
  module _ (k : ℕ) where
    pub no_header : {n : ℕ} {carries : List ℕ} → refused n carries ≡ read_header limit number s → refused n carries ≡ header_with limit number k s
    unfolding header_with
    no_header e = rw (← e)

    module _ {h : TrayHeader} (e : ok h ≡ read_header limit number s) where
      pub no_scan : h.scans ≤ k → refused 7 [] ≡ header_with limit number k s
      unfolding header_with
      no_scan l = rw (← e, le-ltb k h.scans l)

      pub has_scan : k < h.scans → ok h ≡ header_with limit number k s
      unfolding header_with
      has_scan l = rw (← e, lt-ltb k h.scans l)

    -- and back
    pub record Numbered (h : TrayHeader) : Type 0 where
      pub header : ok h ≡ read_header limit number s
      pub below : k < h.scans

    pub numbered : {h : TrayHeader} → ok h ≡ header_with limit number k s → Numbered h
    unfolding header_with
    numbered {h} i =
        let b = both_ok (λ (h : TrayHeader). cond (ltb k h.scans) (ok h) (refused 7 [])) (read_header limit number s) i in
        go b.value b.first (ltb k b.value.scans) refl b.second
      where
        go : (v : TrayHeader) → ok v ≡ read_header limit number s → (t : Bool) → ltb k v.scans ≡ t → ok h ≡ cond t (ok v) (refused 7 []) → Numbered h
        go v f true t j = let same : h ≡ v = cc in record { header = rw same f; below = rw same (ltb-true k v.scans t) }
        go v f false t j = ok_not_refused j

    pub with_size : {h : TrayHeader} → ok h ≡ header_with limit number k s → 32 ≤ length s
    with_size i = (whole limit number s (numbered i).header).size

    pub with_few : {h : TrayHeader} → ok h ≡ header_with limit number k s → k < limit
    with_few i = let n = numbered i in omega (arith, n.below, (whole limit number s n.header).few)

  -- scan k from a place
  module _ (k at : ℕ) (capacities : List ℕ) where
    pub no_run : {n : ℕ} {carries : List ℕ} → refused n carries ≡ header_with limit number k s → refused n carries ≡ read_scan_from limit number capacities k at s
    unfolding read_scan_from
    no_run i = rw (← i)

    pub in_run : {h : TrayHeader} → ok h ≡ header_with limit number k s → scan_at capacities h k at (drop 32 s) ≡ read_scan_from limit number capacities k at s
    unfolding read_scan_from scan_at
    in_run i = rw (← i)

-- the run, as a part of the tray
pub run_is : (s : List ℕ) → take (length s - 32) (drop 32 s) ≡ drop 32 s
run_is s = take_all (length s - 32) (drop 32 s) (simp length-drop (le_refl _))
