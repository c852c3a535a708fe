-- A preamble of 136 bytes and a body, by the tests that decide whether they are there.
use mathlib.Core.Path.{◌≡◌}
use Prim.Native.Nat.{ℕ, ◌+◌, ◌-◌, ◌^◌, ◌≤◌, ◌<◌}
use native.Mathlib.Omega.{arith}
use mathlib.Core.List.{List}
use lib.Dec.{leb}
use borrow.Author.Tests.{leb-true, le-leb, lt-leb}
use Rattle.refusal.specs.Outcome.{Outcome, ran_out}
use Rattle.parser.specs.Parser.{done, parse, bytes, remaining, ◌>>=◌}
use Rattle.parser.specs.Call.{outcome, single}
use Rattle.parser.proofs.Prefix.{within_parsed}
use Rattle.parser.proofs.Completion.{zeros, invariant_any}
use Rattle.parser.proofs.DemandBound.{DemandBound, Any}
use Rattle.event_record.specs.Places.{event_in, event_at, with_lists, places_of, preamble_and_body}
use Rattle.event_record.specs.declared.Lists.{Lists}
use Rattle.event_record.proofs.Holding.{Holds, there}

module _ {A : Type 0} (size : List ℕ → ℕ) (f : List ℕ × List ℕ → ℕ → Outcome A) (s : List ℕ) (at : ℕ) where
  pub no_preamble : remaining s at < 136 → ran_out 3 ≡ outcome (single 3 at (preamble_and_body size) f) s
  unfolding outcome preamble_and_body parse
  no_preamble t = rw (lt-leb _ _ t)

  module _ (t : 136 ≤ remaining s at) {preamble : List ℕ} {n : ℕ} (hp : preamble ≡ bytes s at 136) (hn : n ≡ size preamble) where
    size_is : n ≡ size (bytes s at 136)
    size_is = rw (← hp) hn

    pub no_body : remaining s (at + 136) < n → ran_out 3 ≡ outcome (single 3 at (preamble_and_body size) f) s
    unfolding outcome preamble_and_body parse
    no_body u = rw (le-leb _ _ t, ← size_is, lt-leb _ _ u)

    pub both_there : n ≤ remaining s (at + 136) → {body : List ℕ} → body ≡ bytes s (at + 136) n → f (preamble, body) (at + 136 + n) ≡ outcome (single 3 at (preamble_and_body size) f) s
    unfolding outcome preamble_and_body parse
    both_there u hb = rw (le-leb _ _ t, ← size_is, le-leb _ _ u, hp, hb)

-- their places give the event back
pub again : (s : List ℕ) (at n : ℕ) (lists : Lists) → 136 ≤ remaining s at
    → let v = with_lists (bytes s at 136) (bytes s (at + 136) n) lists in event_at s (places_of at v (at + 136 + n)) ≡ v.0
unfolding event_in
again s at n lists t = let e : at + 136 + n - (at + 136) ≡ n = omega arith in rw (there s at 136 t, e)

-- a layout of both, whose lists are found in the body
module _ (size : List ℕ → ℕ) (lists : List ℕ → List ℕ → Lists) where
  pub body_holds : Holds (preamble_and_body size >>= λ v. done (with_lists v.0 v.1 (lists v.0 v.1)))
  unfolding preamble_and_body parse
  body_holds s at v next h =
      let w = within_parsed (leb 136 (remaining s at)) _ h in
      let preamble = bytes s at 136 in
      let x = within_parsed (leb (size preamble) (remaining s (at + 136))) _ w.1 in
      let body = bytes s (at + 136) (size preamble) in
      let is : with_lists preamble body (lists preamble body) ≡ v = cc x.1 in
      let ends : at + 136 + size preamble ≡ next = cc x.1 in
      rw (← is, ← ends) (again s at (size preamble) (lists preamble body) (leb-true _ _ w.0))

pub body_demand : (size : List ℕ → ℕ) → ((preamble : List ℕ) → size preamble < 2 ^ 33) → DemandBound (2 ^ 62) (2 ^ 39) Any (preamble_and_body size)
unfolding preamble_and_body
body_demand size small =
    record {
      bounded = λ preamble _ _. (omega (arith, small preamble), λ body _ _. (omega (arith, small preamble), tt));
      zeros = omega (arith, small (zeros 136));
      value_invariant = invariant_any (preamble_and_body size);
    }
