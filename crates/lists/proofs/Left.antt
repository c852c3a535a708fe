-- What a call leaves, by its outcome, and the room test.
use Rattle.std.specs.Prelude.{Ok, Err, Result}
use mathlib.Core.Path.{◌≡◌, refl, sym, ap, ◌∙◌}
use Prim.Native.Nat.{ℕ, ◌+◌, ◌≤◌, ◌<◌}
use native.Mathlib.Omega.{arith}
use mathlib.Core.Bool.{Bool, true, false, ◌&&◌}
use mathlib.Core.List.{List, [], ◌∷◌, ◌++◌, map}
use lib.Dec.{leb}
use lib.ListN.{length, get_or, drop, length-map}
use borrow.Author.Tests.{leb-true, le-leb, lt-leb}
use Rattle.std.proofs.lemmas.List.{drop_more}
use Rattle.refusal.specs.Outcome.{Outcome, ok, refused}
use Rattle.refusal.proofs.Outcomes.{refused_of, ok_not_refused, refused_not_ok}
use Rattle.refusal.proofs.OneAnswer.{answer_one}
use Rattle.refusal.specs.declared.Refusal.TheVariants.{NoRoom}
use Rattle.refusal.specs.Number.{outcome_of}
use Rattle.refusal.specs.declared.Refusal.{Refusal}
use Rattle.lists.specs.Written.{over, fitting}
use Rattle.lists.specs.Left.{after, Left, fits, LeftList, over_all, lengths, lists_if_fit, LeftLists, firsts, seconds, columns, pairs_if_fit, LeftPairs, if_fits, lists_and_pairs_if_fit, LeftListsAndPairs}
use Rattle.lists.proofs.Cases.{false_not_true, and_true, and_false}
use Rattle.lists.proofs.Laws.{fitting_all}

-- what a call wrote whose answer is known
pub record Wrote {A B L : Type 0} (answer : A → B) (write : A → L → L) (o : Outcome A) (b : B) (xs ys : L) : Type 0 where
  pub value : A
  pub is : ok value ≡ o
  pub answered : b ≡ answer value
  pub written : ys ≡ write value xs

wrote_by : {A B L : Type 0} (answer : A → B) (write : A → L → L) (o : Outcome A) {b : B} {xs ys : L} → Left answer write o xs (ok b) ys → Wrote answer write o b xs ys
unfolding after
wrote_by answer write (ok a) l = let e = l.answered in record { value = a; is = refl; answered = cc; written = l.stands }
wrote_by answer write (refused n carries) l = ok_not_refused l.answered

-- ---- the ways out of a call
module _ {A B L : Type 0} {answer : A → B} {write : A → L → L} {o : Outcome A} {xs : L} where
  -- it was refused
  pub left_refused : {n : ℕ} {carries : List ℕ} → refused n carries ≡ o → Left answer write o xs (refused n carries) xs
  unfolding after
  left_refused h = record { answered = rw (← h); stands = rw (← h) }

  -- its value was written
  pub left_written : {a : A} {b : B} {ys : L} → ok a ≡ o → b ≡ answer a → ys ≡ write a xs → Left answer write o xs (ok b) ys
  unfolding after
  left_written h p q = record { answered = rw (← h, p); stands = rw (← h, q) }

  -- it hands another's answer on
  pub left_same : {o' : Outcome A} {r : Outcome B} {ys : L} → o ≡ o' → Left answer write o xs r ys → Left answer write o' xs r ys
  left_same h l = rw (← h) l

  -- and back
  pub wrote : {b : B} {ys : L} → Left answer write o xs (ok b) ys → Wrote answer write o b xs ys
  wrote l = wrote_by answer write o l

  pub stayed : {n : ℕ} {carries : List ℕ} {ys : L} → Left answer write o xs (refused n carries) ys → (refused n carries ≡ o) × (ys ≡ xs)
  unfolding after
  stayed {n} {carries} l = let e = refused_of answer o l.answered in (e, l.stands ∙ rw (← e))

-- ---- a contract leaves one answer and one content of the slices, if the answer is known by what it tells
pub left_one : {R A B L : Type 0} (outcome_of : R → Outcome B) → ((r q : R) → outcome_of r ≡ outcome_of q → r ≡ q) → (answer : A → B) (write : A → L → L) (o : Outcome A) (xs : L)
    → {r q : R} {ys zs : L} → Left answer write o xs (outcome_of r) ys → Left answer write o xs (outcome_of q) zs → (r ≡ q) × (ys ≡ zs)
left_one outcome_of one answer write o xs {r} {q} l m = (one r q (l.answered ∙ sym m.answered), l.stands ∙ sym m.stands)

pub list_one : {A : Type 0} {vs xs : List A} {r q : Result ℕ Refusal} {ys zs : List A} → LeftList vs xs r ys → LeftList vs xs q zs → (r ≡ q) × (ys ≡ zs)
list_one {A} {vs} {xs} {r} {q} l m = (answer_one r q (l.answered ∙ sym m.answered), l.stands ∙ sym m.stands)

-- ---- the room test: each count is within its slice
abbrev pub Within : List ℕ → List ℕ → Type 0
Within [] capacities = Unit {0}
Within (n ∷ ns) [] = ⊥
Within (n ∷ ns) (c ∷ cs) = (n ≤ c) × Within ns cs

pub fits_true : (ns cs : List ℕ) → fits ns cs ≡ true → Within ns cs
fits_true [] cs h = tt
fits_true (n ∷ ns) [] h = false_not_true h
fits_true (n ∷ ns) (c ∷ cs) h =
    let both = and_true (leb n c) (fits ns cs) h in
    (leb-true _ _ both.0, fits_true ns cs both.1)

-- one count after the other
module _ (ns cs : List ℕ) (i : ℕ) (m : i < length ns) (n : i < length cs) where
  first : fits (drop i ns) (drop i cs) ≡ (leb (get_or ns i 0) (get_or cs i 0) && fits (drop (i + 1) ns) (drop (i + 1) cs))
  first = rw (drop_more ns i 0 m, drop_more cs i 0 n) refl

  pub fits_next : get_or ns i 0 ≤ get_or cs i 0 → fits (drop i ns) (drop i cs) ≡ fits (drop (i + 1) ns) (drop (i + 1) cs)
  fits_next h = first ∙ rw (le-leb _ _ h) refl

  pub fits_not : get_or cs i 0 < get_or ns i 0 → fits (drop i ns) (drop i cs) ≡ false
  fits_not h = first ∙ rw (lt-leb _ _ h) refl

-- ---- a list in one slice
module _ {A : Type 0} (vs xs : List A) where
  pub list_no_room : length xs < length vs → LeftList vs xs (Err NoRoom) xs
  unfolding fitting
  list_no_room h = let e = lt-leb (length vs) (length xs) h in record { answered = rw e; stands = rw e }

  pub list_written : {n : ℕ} {ys : List A} → length vs ≡ n → length vs ≤ length xs → ys ≡ over vs xs → LeftList vs xs (Ok n) ys
  list_written e h w = record { answered = rw (le-leb (length vs) (length xs) h, e); stands = w ∙ sym (fitting_all vs xs h) }

-- ---- several lists, each in a slice of its own
module _ {E A : Type 0} (a : A) (vs xs : List (List E)) where
  pub lists_no_room : fits (lengths vs) (lengths xs) ≡ false → LeftLists (λ c. lists_if_fit c a vs) xs (refused 8 []) xs
  unfolding lists_if_fit
  lists_no_room h = left_refused (rw h)

  pub lists_written : {b : A} {ys : List (List E)} → fits (lengths vs) (lengths xs) ≡ true → b ≡ a → ys ≡ over_all vs xs → LeftLists (λ c. lists_if_fit c a vs) xs (ok b) ys
  unfolding lists_if_fit
  lists_written h p q = left_written {a = (a, vs)} (rw h) p q

-- ---- pairs in two slices
module _ {A B : Type 0} where
  -- a column that a writer left which tests its slice's end itself
  column : {E : Type 0} (f : A × B → E) (ps : List (A × B)) (xs : List E) → length ps ≤ length xs → fitting (map f ps) xs ≡ over (map f ps) xs
  column f ps xs h = fitting_all (map f ps) xs (rw (length-map ps f) h)

  module _ (ps : List (A × B)) {n : ℕ} (count : length ps ≡ n) (xs : List A) (ys : List B) where
    abbrev room_for : Bool
    room_for = fits (n ∷ n ∷ []) (length xs ∷ length ys ∷ [])

    pub pairs_no_room : room_for ≡ false → LeftPairs (λ a b. pairs_if_fit a b ps) xs ys (Err NoRoom) xs ys
    unfolding pairs_if_fit
    pairs_no_room h = left_refused (rw (count, h))

    pub pairs_written : room_for ≡ true → {xs' : List A} {ys' : List B} → xs' ≡ fitting (firsts ps) xs → ys' ≡ fitting (seconds ps) ys
        → LeftPairs (λ a b. pairs_if_fit a b ps) xs ys (Ok n) xs' ys'
    unfolding pairs_if_fit
    pairs_written h e f =
        let w = fits_true (n ∷ n ∷ []) (length xs ∷ length ys ∷ []) h in
        left_written {a = ps} (rw (count, h)) (sym count)
        (rw (e ∙ column (λ p. p.0) ps xs (omega arith), f ∙ column (λ p. p.1) ps ys (omega arith)))

-- ---- back from the room test
pub room_true : {A : Type 0} (room : Bool) (v : A) {a : A} → ok a ≡ if_fits room v → (room ≡ true) × (a ≡ v)
room_true true v h = (refl, cc)
room_true false v h = ok_not_refused h

pub room_false : {A : Type 0} (room : Bool) (v : A) {n : ℕ} {carries : List ℕ} → refused n carries ≡ if_fits room v → (room ≡ false) × (n ≡ 8) × (carries ≡ [])
room_false true v h = refused_not_ok h
room_false false v h = (refl, cc, cc)

pub fits_append : (ns ms cs ds : List ℕ) → length ns ≡ length cs → fits (ns ++ ms) (cs ++ ds) ≡ (fits ns cs && fits ms ds)
fits_append [] ms [] ds h = refl
fits_append [] ms (c ∷ cs) ds h = absurd (omega arith)
fits_append (n ∷ ns) ms [] ds h = absurd (omega arith)
fits_append (n ∷ ns) ms (c ∷ cs) ds h = go (leb n c) (fits_append ns ms cs ds (omega arith))
  where
    go : (b : Bool) → fits (ns ++ ms) (cs ++ ds) ≡ (fits ns cs && fits ms ds) → (b && fits (ns ++ ms) (cs ++ ds)) ≡ ((b && fits ns cs) && fits ms ds)
    go true e = e
    go false e = refl

-- ---- lists and pairs: the pairs' room is tested, the lists are written by a call of their own, and then the pairs
module _ {E A B R S : Type 0} (r : R) (a : S) (vs xs : List (List E)) (even : length (lengths vs) ≡ length (lengths xs)) (ps : List (A × B)) (ys : List A) (zs : List B) where
  abbrev pub PairsRoom : Bool → Type 0
  PairsRoom b = fits (length ps ∷ length ps ∷ []) (length ys ∷ length zs ∷ []) ≡ b

  room_is : {b : Bool} → PairsRoom b → fits (lengths vs ++ length ps ∷ length ps ∷ []) (lengths xs ++ length ys ∷ length zs ∷ []) ≡ (fits (lengths vs) (lengths xs) && b)
  room_is h = fits_append (lengths vs) _ (lengths xs) _ even ∙ rw h

  pub no_pairs_room : PairsRoom false → LeftListsAndPairs (λ c. lists_and_pairs_if_fit c r vs ps) xs ys zs (refused 8 []) xs ys zs
  unfolding lists_and_pairs_if_fit
  no_pairs_room h = left_refused (rw (room_is h, and_false (fits (lengths vs) (lengths xs))))

  module _ (h : PairsRoom true) {xs' : List (List E)} where
    pub no_lists_room : {n : ℕ} {carries : List ℕ} → LeftLists (λ c. lists_if_fit c a vs) xs (refused n carries) xs'
        → LeftListsAndPairs (λ c. lists_and_pairs_if_fit c r vs ps) xs ys zs (refused n carries) xs' ys zs
    unfolding lists_if_fit lists_and_pairs_if_fit
    no_lists_room l =
        let s = stayed l in
        let f = room_false (fits (lengths vs) (lengths xs)) (a, vs) s.0 in
        rw s.1 (left_refused (rw (f.1, f.2, room_is h, f.0)))

    pub lists_wrote : {b : S} → LeftLists (λ c. lists_if_fit c a vs) xs (ok b) xs' → (fits (lengths vs) (lengths xs) ≡ true) × (b ≡ a) × (xs' ≡ over_all vs xs)
    unfolding lists_if_fit
    lists_wrote l =
        let w = wrote l in
        let f = room_true (fits (lengths vs) (lengths xs)) (a, vs) w.is in
        (f.0, w.answered ∙ ap (λ v. v.0) f.1, w.written ∙ ap (λ v. over_all v.1 xs) f.1)

    pub lists_and_pairs_written : {b : S} {q : R} → LeftLists (λ c. lists_if_fit c a vs) xs (ok b) xs' → q ≡ r
        → {t : Outcome ℕ} {ys' : List A} {zs' : List B} → Left length columns (pairs_if_fit (length ys) (length zs) ps) (ys, zs) t (ys', zs')
        → LeftListsAndPairs (λ c. lists_and_pairs_if_fit c r vs ps) xs ys zs (ok q) xs' ys' zs'
    unfolding lists_and_pairs_if_fit pairs_if_fit after
    lists_and_pairs_written l e p =
        let w = lists_wrote l in
        let both = (rw h at p).stands in
        left_written {a = (r, vs, ps)} (rw (room_is h, w.0)) e (rw (w.2, ap (λ (z : List A × List B). z.0) both, ap (λ (z : List A × List B). z.1) both))
