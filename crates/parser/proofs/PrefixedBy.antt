-- Two calls in turn, and a call whose second part goes on over the bytes after a head of n bytes.
use mathlib.Core.Path.{◌≡◌, refl, ap, sym, ◌∙◌}
use Prim.Native.Nat.{ℕ, ◌+◌, ◌-◌, ◌^◌, ◌≤◌, ◌<◌}
use native.Mathlib.Omega.{arith}
use mathlib.Core.List.{List, [], ◌∷◌, ◌++◌}
use lib.ListN.{length, drop, length-append, length-replicate, length-drop}
use lib.Seq.{drop-append-le}
use Rattle.refusal.specs.Outcome.{Outcome, ok, refused, ran_out, on_ok, and_then}
use Rattle.refusal.proofs.Outcomes.{ok_not_refused}
use Rattle.parser.specs.Call.{Call, outcome}
use Rattle.parser.specs.LongerBytes.{Bytes, Held, PrefixProperty, Names, CompletesOn, Completes}
use Rattle.parser.proofs.Completion.{zeros, append_bytes, zeros_bytes, drop-bytes}
use Rattle.parser.proofs.Calls.{NotTruncated, not_ran_out, Avoids, Covers, avoids_out, prefix_property, completes_by_zeros}

-- a refusal of one call is that of another
same_refusal : {A B : Type 0} (m p : ℕ) (carries : List ℕ) → ◌≡◌ {A = Outcome B} (refused m carries) (ran_out p) → ◌≡◌ {A = Outcome A} (refused m carries) (ran_out p)
same_refusal m p carries h =
    let a : m ≡ 1 = cc in
    let b : carries ≡ p ∷ [] = cc in
    rw (a, b)

pub on_ok_prefix : {A B : Type 0} (g : A → B) (f : List ℕ → Outcome A) → PrefixProperty f → PrefixProperty (λ s. on_ok g (f s))
on_ok_prefix g f p s t h = ap (on_ok g) (p s t (λ r z. h r (ap (on_ok g) z)))

pub on_ok_out : {A B : Type 0} (g : A → B) (o : Outcome A) {part : ℕ} → on_ok g o ≡ ran_out part → o ≡ ran_out part
on_ok_out g (ok a) z = ok_not_refused z
on_ok_out g (refused m carries) {part} z = same_refusal m part carries z

pub on_ok_completes : {A B : Type 0} (g : A → B) (f : List ℕ → Outcome A) (part start : ℕ) → Completes part start f → Completes part start (λ s. on_ok g (f s))
on_ok_completes g f part start c s is_bytes few low h =
    let w = c s is_bytes few low (on_ok_out g (f s) h) in
    (w.0, w.1, λ z. w.2 (on_ok_out g (f (s ++ w.0)) z))

-- what follows a call and gives no refusal 1 of its own keeps its parts, and completes where it does
module _ {A B : Type 0} (f : List ℕ → Outcome A) (g : A → Outcome B) (not_truncated : (a : A) → NotTruncated (g a)) where
  then_out : (o : Outcome A) {part : ℕ} → and_then o g ≡ ran_out part → o ≡ ran_out part
  then_out (ok a) {part} z = absurd (not_ran_out (g a) part (not_truncated a) z)
  then_out (refused m carries) {part} z = same_refusal m part carries z

  pub then_names : (parts : ℕ → Type 0) → Names parts f → Names parts (λ s. and_then (f s) g)
  then_names parts only s part h = only s part (then_out (f s) h)

  pub then_completes_on : (part : ℕ) (s : List ℕ) → CompletesOn part f s → CompletesOn part (λ s. and_then (f s) g) s
  then_completes_on part s c h =
      let w = c (then_out (f s) h) in
      (w.0, w.1, λ z. w.2 (then_out (f (s ++ w.0)) z))

module _ {A B : Type 0} (f : List ℕ → Outcome A) (whole : PrefixProperty f) where
  -- the second call is the same on longer bytes, if it is where the first has answered
  in_turn_prefix : (g : A → List ℕ → Outcome B) (s t : List ℕ)
      → ((a : A) → f s ≡ ok a → ((part : ℕ) → g a s ≡ ran_out part → ⊥) → g a (s ++ t) ≡ g a s)
      → ((part : ℕ) → and_then (f s) (λ a. g a s) ≡ ran_out part → ⊥) → and_then (f (s ++ t)) (λ a. g a (s ++ t)) ≡ and_then (f s) (λ a. g a s)
  in_turn_prefix g s t q h = go (f s) refl
    where
      same : f (s ++ t) ≡ f s
      same = whole s t (λ r z. h r (ap (λ o. and_then o (λ a. g a s)) z))

      go : (o : Outcome A) → f s ≡ o → and_then (f (s ++ t)) (λ a. g a (s ++ t)) ≡ and_then (f s) (λ a. g a s)
      go (ok a) e = rw (same, e) (q a e (λ r z. h r (rw e z)))
      go (refused n carries) e = rw (same, e)

  -- both on the same bytes
  pub then_prefix : (g : A → List ℕ → Outcome B) → ((a : A) → PrefixProperty (g a)) → PrefixProperty (λ s. and_then (f s) (λ a. g a s))
  then_prefix g q s t = in_turn_prefix g s t (λ a _. q a s t)

  module _ (n : ℕ) (there : (s : List ℕ) (a : A) → f s ≡ ok a → n ≤ length s) (next : A → Call B) where
    pub after_prefix : PrefixProperty (λ s. and_then (f s) (λ a. outcome (next a) (drop n s)))
    after_prefix s t =
        in_turn_prefix (λ a bytes. outcome (next a) (drop n bytes)) s t
        (λ a e h. rw (drop-append-le n s t (there s a e)) (prefix_property (next a) (drop n s) t h))

    -- the head ran out
    module _ (p : ℕ) (avoids : (a : A) → Avoids p (next a)) where
      head_out : (s : List ℕ) → and_then (f s) (λ a. outcome (next a) (drop n s)) ≡ ran_out p → f s ≡ ran_out p
      head_out s h = go (f s) refl h
        where
          go : (o : Outcome A) → f s ≡ o → and_then o (λ a. outcome (next a) (drop n s)) ≡ ran_out p → f s ≡ ran_out p
          go (ok a) e h' = absurd (avoids_out p (next a) (drop n s) (avoids a) h')
          go (refused m carries) e h' = e ∙ same_refusal m p carries h'

      pub head_completes : (start : ℕ) → Completes p start f → Completes p start (λ s. and_then (f s) (λ a. outcome (next a) (drop n s)))
      head_completes start c s is_bytes few low h =
          let w = c s is_bytes few low (head_out s h) in
          (w.0, w.1, λ z. w.2 (head_out (s ++ w.0) z))

    -- a part after it ran out
    module _ (more : ℕ) (small : n + more < 2 ^ 62) (p : ℕ) (never : (s : List ℕ) → f s ≡ ran_out p → ⊥) (s : List ℕ) (is_bytes : Bytes s) (few : length s < 2 ^ 62)
        (covers : (a : A) → f s ≡ ok a → Covers more p (next a) (drop n s)) where
      pub after_completes : CompletesOn p (λ s. and_then (f s) (λ a. outcome (next a) (drop n s))) s
      after_completes h = go (f s) refl h
        where
          go : (o : Outcome A) → f s ≡ o → and_then o (λ a. outcome (next a) (drop n s)) ≡ ran_out p
              → (t : List ℕ) × Held (s ++ t) × (and_then (f (s ++ t)) (λ a. outcome (next a) (drop n (s ++ t))) ≡ ran_out p → ⊥)
          go (refused m carries) e h' = absurd (never s (e ∙ same_refusal m p carries h'))
          go (ok a) e h' =
              let size : length (drop n s) ≡ length s - n = length-drop n s in
              let enough = 2 ^ 62 + more - length (drop n s) in
              let t : List ℕ = zeros enough in
              let held : length (s ++ t) < 2 ^ 63 = simp (length-append, length-replicate) (omega (arith, there s a e, size)) in
              let same : f (s ++ t) ≡ ok a = whole s t (λ r z. ok_not_refused (sym e ∙ z)) ∙ e in
              let not = completes_by_zeros more p (next a) (drop n s) (covers a e) (drop-bytes n s is_bytes) (omega (arith, size)) h' in (
                t,
                (append_bytes s t is_bytes (zeros_bytes enough), held),
                λ z. not (sym (ap (outcome (next a)) (drop-append-le n s t (there s a e))) ∙ (rw same at z)),
              )
