-- What the two round trips ask of a layout, of a record and of bytes. At a layout that is written out each computes to plain facts.
use mathlib.Core.Path.{◌≡◌}
use Prim.Native.Nat.{ℕ, zero, suc, ◌+◌, ◌^◌, ◌≤◌, ◌<◌}
use mathlib.Core.List.{List, [], ◌∷◌}
use lib.ListN.{length}
use Rattle.parser.specs.Parser.{Parser, parsed, parse, bytes, word_at}
use Rattle.parser.specs.Parser as parser
use Rattle.layout.specs.Layout.{Layout, done, number, string, skipped, ahead, list, reads, written}

-- P holds of each element
abbrev pub Every : {S : Type 0} → (S → Type 0) → List S → Type 0
Every P [] = Unit {0}
Every P (x ∷ xs) = P x × Every P xs

-- the layout has room for r: each number fits its bytes, and each string and each list is as long as the layout says
abbrev pub Holds : {R A : Type 0} → Layout R A → R → Type 0
Holds (done a) r = Unit {0}
Holds (number n get k) r = (get r < 256 ^ n) × Holds (k (get r)) r
Holds (string n get k) r = (length (get r) ≡ n) × Holds (k (get r)) r
Holds (skipped n l) r = Holds l r
Holds (ahead n l) r = (n ≤ length (written l r)) × Holds l r
Holds (list n l get k) r = (length (get r) ≡ n) × Every (λ x. Holds l x) (get r) × Holds (k (get r)) r

-- what is read of r's bytes is a
abbrev pub Returns : {R A : Type 0} → Layout R A → R → A → Type 0
Returns (done b) r a = b ≡ a
Returns (number n get k) r a = Returns (k (get r)) r a
Returns (string n get k) r a = Returns (k (get r)) r a
Returns (skipped n l) r a = Returns l r a
Returns (ahead n l) r a = Returns l r a
Returns (list {S = S} n l get k) r a = ((x : S) → Returns l x x) × Returns (k (get r)) r a

-- each number, string and list that is read is the one that the record of the value has there; and P holds of the value
abbrev pub Keeps : {R A : Type 0} → (A → R) → Layout R A → (A → Type 0) → Type 0
Keeps of (done a) P = P a
Keeps of (number n get k) P = (v : ℕ) → Keeps of (k v) (λ a. P a × (get (of a) ≡ v))
Keeps of (string n get k) P = (bs : List ℕ) → length bs ≡ n → Keeps of (k bs) (λ a. P a × (get (of a) ≡ bs))
Keeps of (skipped n l) P = Keeps of l P
Keeps of (ahead n l) P = Keeps of l (λ a. P a × (n ≤ length (written l (of a))))
Keeps of (list {S = S} n l get k) P = Keeps (λ x. x) l (λ _. Unit {0}) × ((xs : List S) → length xs ≡ n → Keeps of (k xs) (λ a. P a × (get (of a) ≡ xs)))

-- P holds at the place of each of n records
abbrev pub AtEach : {A : Type 0} → ℕ → (ℕ → Type 0) → Parser A → List ℕ → ℕ → Type 0
AtEach zero P p s at = Unit {0}
AtEach {A} (suc n) P p s at = P at × ((a : A) (next : ℕ) → parse p s at ≡ parsed a next → AtEach n P p s next)

-- the skipped bytes of the record at a place are zeros
abbrev pub SkippedZero : {R A : Type 0} → Layout R A → List ℕ → ℕ → Type 0
SkippedZero (done a) s at = Unit {0}
SkippedZero (number n get k) s at = SkippedZero (k (word_at s at n)) s (at + n)
SkippedZero (string n get k) s at = SkippedZero (k (bytes s at n)) s (at + n)
SkippedZero (skipped n l) s at = (word_at s at n ≡ 0) × SkippedZero l s (at + n)
SkippedZero (ahead n l) s at = SkippedZero l s at
SkippedZero (list {S = S} n l get k) s at =
    AtEach n (λ place. SkippedZero l s place) (reads l) s at
    × ((xs : List S) (next : ℕ) → parse (parser.repeat n (reads l)) s at ≡ parsed xs next → SkippedZero (k xs) s next)
