-- What was read is held, and writes back to its own bytes if the skipped ones are zeros: one law for every layout.
use mathlib.Core.Path.{◌≡◌, subst}
use Prim.Native.Nat.{ℕ, zero, suc, ◌+◌, ◌-◌, ◌^◌, ◌≤◌, ◌<◌}
use native.Mathlib.Omega.{arith}
use mathlib.Core.List.{List, [], ◌++◌}
use lib.Dec.{leb}
use lib.ListN.{length, drop}
use lib.Seq.{take-add, drop-drop}
use borrow.Author.Tests.{leb-true}
use Rattle.parser.specs.Parser.{parsed, parse, bytes, remaining, word_at}
use Rattle.parser.specs.Parser as parser
use Rattle.parser.specs.LongerBytes.{Bytes}
use Rattle.parser.proofs.Prefix.{within_parsed, bind_parsed}
use Rattle.parser.proofs.Walk.{first_of, length-parsed}
use Rattle.parser.proofs.Completion.{take-bytes, drop-bytes, length-left, invariant_word}
use Rattle.layout.specs.Layout.{Layout, done, number, string, skipped, ahead, list, reads, le_bytes, concat, written}
use Rattle.layout.proofs.Numbers.{le_bytes-le}
use Rattle.layout.proofs.Conditions.{Every, Holds, Keeps, AtEach, SkippedZero}

-- the layout holds the record r, and its bytes stand from `at` to `next` if the skipped ones there are zeros
pub record Stands {R A : Type 0} (l : Layout R A) (r : R) (s : List ℕ) (at next : ℕ) : Type 0 where
  pub forward : at ≤ next
  pub held : Holds l r
  pub same : SkippedZero l s at → written l r ≡ bytes s at (next - at)

-- two strings that follow one another
joined : (s : List ℕ) (at middle next : ℕ) → at ≤ middle → middle ≤ next → bytes s at (middle - at) ++ bytes s middle (next - middle) ≡ bytes s at (next - at)
joined s at middle next h l =
    let m : at + (middle - at) ≡ middle = omega arith in
    let n : middle - at + (next - middle) ≡ next - at = omega arith in
    rw (← n, take-add (middle - at) (next - middle) (drop at s), drop-drop (middle - at) at s, m)

joined_by : (s : List ℕ) (at n next : ℕ) → at + n ≤ next → bytes s at n ++ bytes s (at + n) (next - (at + n)) ≡ bytes s at (next - at)
joined_by s at n next h =
    let e : at + n - at ≡ n = omega arith in
    rw e at (joined s at (at + n) next (omega arith) h)

-- the number in n bytes that are there fits them, and they are its own
own : (s : List ℕ) (at n : ℕ) → Bytes s → n ≤ remaining s at → (word_at s at n < 256 ^ n) × (le_bytes n (word_at s at n) ≡ bytes s at n)
own s at n is_bytes h =
    let bs = bytes s at n in
    let size : length bs ≡ n = length-left s at n h in
    let small : Bytes bs = take-bytes n (drop at s) (drop-bytes at s is_bytes) in
    (invariant_word n bs size small, rw size at (le_bytes-le bs small))

-- the records of a list
module _ {S : Type 0} (l : Layout S S) (s : List ℕ) (one : (x : S) (at next : ℕ) → parse (reads l) s at ≡ parsed x next → Stands l x s at next) where
  record All (n : ℕ) (xs : List S) (at next : ℕ) : Type 0 where
    forward : at ≤ next
    held : Every (λ x. Holds l x) xs
    same : AtEach n (λ place. SkippedZero l s place) (reads l) s at → concat (λ x. written l x) xs ≡ bytes s at (next - at)

  all_stand : (n : ℕ) (xs : List S) (at next : ℕ) → parse (parser.repeat n (reads l)) s at ≡ parsed xs next → All n xs at next
  unfolding parse parser.repeat
  all_stand zero xs at next h =
      let none : xs ≡ [] = cc in
      let e : at ≡ next = cc in
      let z : next - at ≡ 0 = omega arith in
      record { forward = omega arith; held = rw none tt; same = λ _. rw (none, z) }
  all_stand (suc n) xs at next h =
      let q = first_of (reads l) n s at h in
      let o = one q.first at q.next q.here in
      let others = all_stand n q.others q.next next q.there in
      record {
        forward = omega (arith, o.forward, others.forward);
        held = rw q.both (o.held, others.held);
        same = λ b. rw (q.both, o.same b.0, others.same (b.1 q.first q.next q.here)) (joined s at q.next next o.forward others.forward);
      }

-- the record of a value that was read at any place of any run
pub writes_back : {R A : Type 0} (of : A → R) (l : Layout R A) (P : A → Type 0) (s : List ℕ) (at next : ℕ) (a : A) → Keeps of l P → Bytes s
    → parse (reads l) s at ≡ parsed a next → P a × Stands l (of a) s at next
unfolding parse
writes_back of (done b) P s at next a keeps is_bytes h =
    let x : b ≡ a = cc in
    let e : at ≡ next = cc in
    let z : next - at ≡ 0 = omega arith in
    (subst P x keeps, record { forward = omega arith; held = tt; same = λ _. rw z })
writes_back of (number n get k) P s at next a keeps is_bytes h =
    let v = word_at s at n in
    let test = within_parsed (leb n (remaining s at)) (parse (reads (k v)) s (at + n)) h in
    let rest = writes_back of (k v) (λ b. P b × (get (of b) ≡ v)) s (at + n) next a (keeps v) is_bytes test.1 in
    let word = own s at n is_bytes (leb-true _ _ test.0) in (
      rest.0.0,
      record {
        forward = omega (arith, rest.1.forward);
        held = rw rest.0.1 (word.0, rest.1.held);
        same = λ skips. rw (rest.0.1, word.1, rest.1.same skips) (joined_by s at n next rest.1.forward);
      },
    )
writes_back of (string n get k) P s at next a keeps is_bytes h =
    let test = within_parsed (leb n (remaining s at)) (parse (reads (k (bytes s at n))) s (at + n)) h in
    let bs = bytes s at n in
    let size : length bs ≡ n = length-left s at n (leb-true _ _ test.0) in
    let rest = writes_back of (k bs) (λ b. P b × (get (of b) ≡ bs)) s (at + n) next a (keeps bs size) is_bytes test.1 in (
      rest.0.0,
      record {
        forward = omega (arith, rest.1.forward);
        held = rw rest.0.1 (size, rest.1.held);
        same = λ skips. rw (rest.0.1, rest.1.same skips) (joined_by s at n next rest.1.forward);
      },
    )
writes_back of (skipped n l) P s at next a keeps is_bytes h =
    let test = within_parsed (leb n (remaining s at)) (parse (reads l) s (at + n)) h in
    let rest = writes_back of l P s (at + n) next a keeps is_bytes test.1 in
    let word = own s at n is_bytes (leb-true _ _ test.0) in (
      rest.0,
      record {
        forward = omega (arith, rest.1.forward);
        held = rest.1.held;
        same = λ skips. let back : le_bytes n 0 ≡ bytes s at n = rw skips.0 at word.1 in rw (back, rest.1.same skips.1) (joined_by s at n next rest.1.forward);
      },
    )
writes_back of (ahead n l) P s at next a keeps is_bytes h =
    let test = within_parsed (leb n (remaining s at)) (parse (reads l) s at) h in
    let rest = writes_back of l (λ b. P b × (n ≤ length (written l (of b)))) s at next a keeps is_bytes test.1 in
    (rest.0.0, record { forward = rest.1.forward; held = (rest.0.1, rest.1.held); same = rest.1.same })
writes_back of (list n l get k) P s at next a keeps is_bytes h =
    let both = bind_parsed (parser.repeat n (reads l)) (λ xs. reads (k xs)) s at h in
    let xs = both.first in
    let count : length xs ≡ n = length-parsed (reads l) n s at both.here in
    let all = all_stand l s (λ x place end p. (writes_back (λ y. y) l (λ _. Unit {0}) s place end x keeps.0 is_bytes p).1) n xs at both.middle both.here in
    let rest = writes_back of (k xs) (λ b. P b × (get (of b) ≡ xs)) s both.middle next a (keeps.1 xs count) is_bytes both.there in (
      rest.0.0,
      record {
        forward = omega (arith, all.forward, rest.1.forward);
        held = rw rest.0.1 (count, all.held, rest.1.held);
        same = λ skips. rw (rest.0.1, all.same skips.0, rest.1.same (skips.1 xs both.middle both.here)) (joined s at both.middle next all.forward rest.1.forward);
      },
    )
