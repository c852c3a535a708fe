-- The bytes of an event, part by part, and what storing the parts leaves.
use mathlib.Core.Path.{◌≡◌, refl, sym, ◌∙◌}
use Prim.Native.Nat.{ℕ, ◌+◌, ◌*◌, ◌-◌, ◌^◌, ◌<◌, min}
use native.Mathlib.Nat.{zero-add}
use native.Mathlib.Omega.{arith}
use mathlib.Core.List.{List, [], ◌∷◌, ◌++◌, append-nil}
use lib.ListN.{length, length-append}
use lib.Seq.{sets, length-sets}
use Rattle.layout.specs.Layout.{le_bytes, concat, word, written}
use Rattle.layout.proofs.Numbers.{length-le_bytes, length-concat}
use Rattle.writer.proofs.Stores.{sets_append, sets_word, sets_saturated}
use Rattle.event_window.specs.declared.FoundWindow.{FoundWindow}
use Rattle.event_reactions.specs.Reactions.{Reaction}
use Rattle.event_before_66.specs.Layout.{reaction, layout_before_66}
use Rattle.std.specs.List.{zip}
use Rattle.std.proofs.lemmas.Slice.Zip.{length-zip}
use Rattle.event_bytes.specs.Write.{event_from}

pub reaction_size : (r : Reaction) → length (written reaction r) ≡ 32
unfolding reaction
reaction_size r = simp (length-append, length-le_bytes)

-- the four words of a reaction, whose places were found by `saturating_add`
pub stored_reaction : (l : List ℕ) (at x y : ℕ) {l₁ l₂ l₃ l₄ : List ℕ} {p q r : ℕ} → length l < 2 ^ 64
    → l₁ ≡ sets l at (le_bytes 8 x) → p ≡ min (at + 8) (2 ^ 64 - 1) → l₂ ≡ sets l₁ p (le_bytes 8 0)
    → q ≡ min (at + 16) (2 ^ 64 - 1) → l₃ ≡ sets l₂ q (le_bytes 8 y) → r ≡ min (at + 24) (2 ^ 64 - 1) → l₄ ≡ sets l₃ r (le_bytes 8 0)
    → l₄ ≡ sets l at (written reaction (x, y))
unfolding reaction
stored_reaction l at x y {l₁} {l₂} {l₃} {l₄} {p} {q} {r} few a hp b hq c hr d =
    let s₁ : length l₁ < 2 ^ 64 = rw (a, length-sets l at (le_bytes 8 x)) few in
    let b' : l₂ ≡ sets l₁ (at + 8) (le_bytes 8 0) = b ∙ rw hp (sets_saturated l₁ (at + 8) (le_bytes 8 0) s₁) in
    let s₂ : length l₂ < 2 ^ 64 = rw (b', length-sets l₁ (at + 8) (le_bytes 8 0)) s₁ in
    let c' : l₃ ≡ sets l₂ (at + 16) (le_bytes 8 y) = c ∙ rw hq (sets_saturated l₂ (at + 16) (le_bytes 8 y) s₂) in
    let s₃ : length l₃ < 2 ^ 64 = rw (c', length-sets l₂ (at + 16) (le_bytes 8 y)) s₂ in
    let d' : l₄ ≡ sets l₃ (at + 24) (le_bytes 8 0) = d ∙ rw hr (sets_saturated l₃ (at + 24) (le_bytes 8 0) s₃) in
    let e : at + 8 + 8 ≡ at + 16 = omega arith in
    let f : at + 16 + 8 ≡ at + 24 = omega arith in
    simp (append-nil, sets_word, e, f) (cc)

-- the coefficients
pub words : (cs : List ℕ) → concat (λ c. written (word 8 (λ (c : ℕ). c)) c) cs ≡ concat (le_bytes 8) cs
words [] = refl
words (c ∷ cs) = rw (append-nil (le_bytes 8 c), words cs)

-- the bytes of an event, with its parts named
module _ (version : ℕ) (w : FoundWindow) (preamble ps es cs : List ℕ) where
  event_bytes : written (layout_before_66 version) (event_from w preamble ps es cs)
      ≡ preamble ++ (le_bytes 4 (length (zip ps es)) ++ (concat (written reaction) (zip ps es) ++ (le_bytes 4 0 ++ (le_bytes 8 w.low ++ (le_bytes 8 w.high
      ++ (le_bytes 4 (length cs) ++ (concat (le_bytes 8) cs ++ le_bytes 8 0)))))))
  unfolding layout_before_66
  event_bytes = rw (words cs) (simp (append-nil))

  pub event_size : length (written (layout_before_66 version) (event_from w preamble ps es cs)) ≡ length preamble + length (zip ps es) * 32 + length cs * 8 + 36
  event_size =
      rw event_bytes
      (simp (length-append, length-le_bytes, length-concat 32 (written reaction) reaction_size, length-concat 8 (le_bytes 8) (length-le_bytes 8)) (omega arith))

  -- the nine parts of an event, of which n reactions stand before the window
  pub stored_event : (l : List ℕ) {n : ℕ} → n ≡ min (length ps) (length es)
      → {l₁ l₂ l₃ l₄ l₅ l₆ l₇ l₈ l₉ : List ℕ} → let e = length preamble + 4 + n * 32 in
      l₁ ≡ sets l 0 preamble → l₂ ≡ sets l₁ (length preamble) (le_bytes 4 n) → l₃ ≡ sets l₂ (length preamble + 4) (concat (written reaction) (zip ps es))
      → l₄ ≡ sets l₃ e (le_bytes 4 0) → l₅ ≡ sets l₄ (e + 4) (le_bytes 8 w.low) → l₆ ≡ sets l₅ (e + 12) (le_bytes 8 w.high)
      → l₇ ≡ sets l₆ (e + 20) (le_bytes 4 (length cs)) → l₈ ≡ sets l₇ (e + 24) (concat (le_bytes 8) cs) → l₉ ≡ sets l₈ (e + 24 + length cs * 8) (le_bytes 8 0)
      → l₉ ≡ sets l 0 (written (layout_before_66 version) (event_from w preamble ps es cs))
  stored_event l {n} count {l₁} {l₂} {l₃} {l₄} {l₅} {l₆} {l₇} {l₈} a b c d e f g h i =
      let v = length preamble + 4 + n * 32 in
      let m : length (zip ps es) ≡ n = length-zip ps es ∙ sym count in
      let many : length (concat (written reaction) (zip ps es)) ≡ n * 32 = length-concat 32 (written reaction) reaction_size (zip ps es) ∙ rw m in
      let x : v + 4 + 8 ≡ v + 12 = omega arith in
      let y : v + 12 + 8 ≡ v + 20 = omega arith in
      let z : v + 20 + 4 ≡ v + 24 = omega arith in
      rw (
        event_bytes,
        m,
        sets_append l 0 preamble _,
        ← a,
        zero-add (length preamble),
        sets_word l₁ (length preamble) 4 n _,
        ← b,
        sets_append l₂ (length preamble + 4) (concat (written reaction) (zip ps es)) _,
        ← c,
        many,
        sets_word l₃ v 4 0 _,
        ← d,
        sets_word l₄ (v + 4) 8 w.low _,
        ← e,
        x,
        sets_word l₅ (v + 12) 8 w.high _,
        ← f,
        y,
        sets_word l₆ (v + 20) 4 (length cs) _,
        ← g,
        z,
        sets_append l₇ (v + 24) (concat (le_bytes 8) cs) _,
        ← h,
        length-concat 8 (le_bytes 8) (length-le_bytes 8) cs,
      ) i
