-- The window at one offset, and the search, candidate by candidate.
use mathlib.Core.Path.{◌≡◌, sym, ap, ◌∙◌}
use mathlib.Core.Logic.{⊎_elim}
use mathlib.Core.Bool.{true, false}
use Prim.Native.Nat.{ℕ, ◌+◌, ◌≤◌, ◌<◌}
use mathlib.Core.List.{List, [], ◌∷◌}
use lib.Ieee.{Float, binary64, of_bits}
use borrow.Author.Tests.{le-leb, lt-leb}
use Rattle.lists.proofs.Cases.{bool_cases}
use Rattle.parser.specs.Parser.{remaining, f64_at, word_at}
use Rattle.event_window.specs.Window.{plausible_ends, window_of, has_window, no_window, first_window}
use Rattle.event_window.specs.declared.Window.{Window}
use Rattle.event_window.specs.declared.FoundWindow.{FoundWindow}
use Rattle.event_window.specs.declared.Window.TheVariants.{Absent, Ends}

never : {low high : Float} → Absent ≡ Ends low high → ⊥
never e = cc

module _ (body : List ℕ) (off : ℕ) where
  pub too_few : remaining body off < 16 → no_window ≡ first_window body (off ∷ [])
  unfolding first_window
  too_few t = rw (lt-leb _ _ t)

  -- 16 bytes stand there: w is the window that their ends make
  module _ (t : 16 ≤ remaining body off) {lo hi : ℕ} (el : lo ≡ word_at body off 8) (eh : hi ≡ word_at body (off + 8) 8) {w : Window} (ew : w ≡ window_of (of_bits binary64 lo) (of_bits binary64 hi)) where
    same : w ≡ window_of (f64_at body off) (f64_at body (off + 8))
    same = rw (← el, ← eh) ew

    pub stands : {low high : Float} → w ≡ Ends low high → record { window = w; low = lo; high = hi; offset = off } ≡ first_window body (off ∷ [])
    unfolding first_window
    stands h =
        ⊎_elim
        (λ (p : plausible_ends (f64_at body off) (f64_at body (off + 8)) ≡ true). let e : w ≡ Ends (f64_at body off) (f64_at body (off + 8)) = same ∙ rw p in rw (e, le-leb _ _ t, p, el, eh))
        (λ (p : plausible_ends (f64_at body off) (f64_at body (off + 8)) ≡ false). absurd (never (sym (same ∙ rw p) ∙ h)))
        (bool_cases (plausible_ends (f64_at body off) (f64_at body (off + 8))))

    pub implausible : w ≡ Absent → no_window ≡ first_window body (off ∷ [])
    unfolding first_window
    implausible h =
        ⊎_elim
        (λ (p : plausible_ends (f64_at body off) (f64_at body (off + 8)) ≡ true). absurd (never {low = f64_at body off} {high = f64_at body (off + 8)} (sym h ∙ same ∙ rw p)))
        (λ (p : plausible_ends (f64_at body off) (f64_at body (off + 8)) ≡ false). rw (le-leb _ _ t, p))
        (bool_cases (plausible_ends (f64_at body off) (f64_at body (off + 8))))

  -- of offsets, by the window at the first of them
  module _ (offs : List ℕ) {found : FoundWindow} (is : found ≡ first_window body (off ∷ [])) where
    pub first_there : {low high : Float} → found.window ≡ Ends low high → found ≡ first_window body (off ∷ offs)
    unfolding first_window
    first_there h =
        ⊎_elim
        (λ (t : has_window body off ≡ true). is ∙ rw t)
        (λ (t : has_window body off ≡ false). absurd (never (sym (ap (λ (w : FoundWindow). w.window) (rw t at is)) ∙ h)))
        (bool_cases (has_window body off))

    pub first_later : found.window ≡ Absent → first_window body (off ∷ offs) ≡ first_window body offs
    unfolding first_window
    first_later h =
        ⊎_elim
        (λ (t : has_window body off ≡ true). absurd (never (sym h ∙ ap (λ (w : FoundWindow). w.window) (rw t at is))))
        (λ (t : has_window body off ≡ false). rw t)
        (bool_cases (has_window body off))
