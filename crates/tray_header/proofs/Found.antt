-- What is known of a header that was read, whatever the limit of scans is.
use mathlib.Core.Path.{◌≡◌, refl, ◌∙◌}
use Prim.Native.Nat.{ℕ, ◌^◌, ◌≤◌, ◌<◌}
use native.Mathlib.Omega.{arith}
use mathlib.Core.Bool.{Bool, true, false, cond}
use mathlib.Core.List.{List, []}
use lib.Dec.{leb}
use lib.ListN.{length}
use borrow.Author.Tests.{leb-true}
use Rattle.refusal.specs.Outcome.{ok, refused}
use Rattle.refusal.proofs.Outcomes.{ok_not_refused}
use Rattle.parser.specs.Parser.{parsed, parse}
use Rattle.parser.specs.LongerBytes.{Bytes}
use Rattle.parser.proofs.Answered.{part_ok}
use Rattle.parser.proofs.Records.{sized_read}
use Rattle.parser.proofs.Completion.{ValueInvariant, invariant_word, invariant_parsed}
use Rattle.tray_header.specs.Header.{header, judged, read_header}
use Rattle.tray_header.specs.declared.TrayHeader.{TrayHeader}
use Rattle.tray_header.proofs.Answers.{header_sized}

pub record Whole (limit : ℕ) (s : List ℕ) (h : TrayHeader) : Type 0 where
  pub next : ℕ
  pub there : parse header s 0 ≡ parsed h next
  pub few : h.scans ≤ limit
  pub size : 32 ≤ length s

module _ (limit number : ℕ) (s : List ℕ) {h : TrayHeader} where
  taken : (v : TrayHeader) (a b : Bool) → leb v.scans limit ≡ b → ok h ≡ cond a (cond b (ok v) (refused number [])) (refused 5 []) → (v ≡ h) × (v.scans ≤ limit)
  taken v true true f i = (cc, leb-true v.scans limit f)
  taken v true false f i = ok_not_refused i
  taken v false b f i = ok_not_refused i

  pub whole : ok h ≡ read_header limit number s → Whole limit s h
  unfolding read_header judged
  whole i =
      let f = part_ok 1 0 header (λ v _. judged limit number v) s i in
      let v = f.value in
      let w = taken v (leb v.flat 1) (leb v.scans limit) refl f.made in
      let there : parse header s 0 ≡ parsed h f.next = f.there ∙ rw w.0 in
      record { next = f.next; there = there; few = rw (← w.0) w.1; size = omega (arith, (sized_read 32 header header_sized s 0 there).0) }

-- its numbers have 32 bits
pub record Words (h : TrayHeader) : Type 0 where
  pub primary : h.primary < 2 ^ 32
  pub dependent : h.dependent < 2 ^ 32
  pub index : h.index < 2 ^ 32
  pub events : h.events < 2 ^ 32

header_words : ValueInvariant Words header
unfolding header
header_words =
    λ _ _ _ _ _ _ a la pa b lb pb _ _ _ c lc pc d ld pd _ _ _.
    record { primary = invariant_word 4 a la pa; dependent = invariant_word 4 b lb pb; index = invariant_word 4 c lc pc; events = invariant_word 4 d ld pd }

pub words : (limit : ℕ) (s : List ℕ) {h : TrayHeader} → Whole limit s h → Bytes s → Words h
words limit s w is_bytes = invariant_parsed Words header header_words s is_bytes 0 w.there
