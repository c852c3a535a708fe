-- Demand 3 for a tray's header, whatever the limit of scans is and the refusal's number, which is not 1.
use mathlib.Core.Path.{◌≡◌}
use Prim.Native.Nat.{ℕ, ◌^◌, ◌<◌}
use mathlib.Core.Bool.{not}
use mathlib.Core.List.{[]}
use native.Mathlib.Omega.{arith}
use lib.Dec.{T, leb, eqb, lit≤}
use borrow.Author.Tests.{ne_eqb}
use Rattle.refusal.specs.Outcome.{ok, refused}
use Rattle.refusal.specs.Number.{outcome_of}
use Rattle.refusal.proofs.OneAnswer.{answer_one}
use Rattle.parser.specs.Call.{single}
use Rattle.parser.specs.LongerBytes.{OnLongerBytes, PrefixProperty, Names, Completes}
use Rattle.parser.proofs.Calls.{NotTruncated, not_truncated_cond, prefix_property}
use Rattle.parser.proofs.Records.{OnePart, record_part}
use Rattle.tray_header.specs.Header.{header, judged, read_header, read_tray_header}
use Rattle.tray_header.specs.declared.TrayHeader.{TrayHeader}
use Rattle.tray_header.proofs.Answers.{header_sized}

module _ (limit number : ℕ) where
  pub header_prefix : PrefixProperty (read_header limit number)
  unfolding read_header
  header_prefix = prefix_property (single 1 0 header (λ h _. judged limit number h))

  module _ (other : number ≡ 1 → ⊥) where
    judged_not_truncated : (h : TrayHeader) → NotTruncated (judged limit number h)
    unfolding judged
    judged_not_truncated h =
        let one : T (not (eqb number 1)) = rw (ne_eqb number 1 other) tt in
        not_truncated_cond (leb h.flat 1) _ (refused 5 []) (not_truncated_cond (leb h.scans limit) (ok h) (refused number []) tt one) tt

    pub header_part : OnePart outcome_of 1 0 (read_header limit number)
    unfolding read_header
    header_part = record_part 1 0 header (λ h _. judged limit number h) 32 header_sized outcome_of answer_one (lit≤ tt) (λ h _. judged_not_truncated h)

    pub header_names : Names (λ q. q ≡ 1) (read_header limit number)
    header_names = header_part.names

    pub header_completes : Completes 1 0 (read_header limit number)
    header_completes = header_part.completes

-- ---- at most 4,096 scans, or refusal 6
pub six : ◌≡◌ {A = ℕ} 6 1 → ⊥
six e = omega (arith, e)

pub tray_header_prefix : PrefixProperty read_tray_header
tray_header_prefix = header_prefix 4096 6

pub tray_header_completes : Completes 1 0 read_tray_header
tray_header_completes = header_completes 4096 6 six

-- the terms' sentences, on what `read_tray_header` answers; the header starts at 0
pub tray_header_longer : OnLongerBytes outcome_of (λ s r (_ : Unit {0}). outcome_of r ≡ read_tray_header s) (λ q. q ≡ 1) (λ _ _. 0 < 2 ^ 62)
tray_header_longer = (header_part 4096 6 six).longer
