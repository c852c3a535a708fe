-- The channel list of longer bytes; and the fewest bytes that can hold a channel.
use Rattle.std.specs.Prelude.{Ok, Err, Result}
use mathlib.Core.Path.{◌≡◌, sym, ◌∙◌}
use mathlib.Core.Logic.{◌⊎◌, inl, inr, ⊎_elim}
use mathlib.Core.Bool.{Bool, true, false}
use mathlib.Core.List.{List, [], ◌∷◌, ◌++◌}
use Prim.Native.Nat.{ℕ, ◌+◌, ◌-◌, ◌≤◌, ◌<◌}
use native.Mathlib.Omega.{arith}
use lib.ListN.{length, length-append, length-map}
use borrow.Author.Tests.{le-leb}
use Rattle.refusal.specs.Number.{outcome_of}
use Rattle.refusal.specs.declared.Refusal.TheVariants.{NoRoom}
use Rattle.refusal.proofs.OneAnswer.{answer_one}
use Rattle.refusal.specs.declared.Refusal.{Refusal}
use Rattle.lists.specs.Left.{after, fits, lengths, lists_if_fit, LeftLists}
use Rattle.lists.proofs.Left.{fits_true}
use Rattle.lists.proofs.Cases.{bool_cases, false_not_true}
use Rattle.srm_transition.proofs.Local.{Local, le_there}
use Rattle.srm_transition.proofs.Places.{places_none, values_longer}
use Rattle.srm_channels.specs.Channels.{channel_test, channel_at, channels_in, channel_lists, channel_list}
use Rattle.srm_channels.specs.LongerBytes.{ListAnswered, ListRefused, ListOnLongerBytes}
use Rattle.srm_channels.specs.declared.Channel.{Channel}

test_by : (events : List ℕ) → Local 24 48 (channel_test events)
unfolding channel_test
test_by events s t i h k =
    rw (le_there s t i 8 (omega arith), le_there s t (i - 8) 8 (omega arith), le_there s t (i - 24) 4 (omega arith), le_there s t (i - 16) 8 (omega arith), le_there s t (i + 8) 8 (omega arith))

channel_by : Local 24 48 channel_at
channel_by s t i h k = rw (le_there s t (i - 24) 4 (omega arith), le_there s t (i - 16) 8 (omega arith), le_there s t (i + 8) 8 (omega arith))

-- the list of longer bytes is this list with none or more channels at its end
pub channels_longer : (events s t : List ℕ) → (more : List Channel) × (channels_in events (s ++ t) ≡ channels_in events s ++ more)
unfolding channels_in
channels_longer events s t = values_longer 24 48 (channel_test events) channel_at (test_by events) channel_by s t

-- fewer fit where more do
fewer_fit : (m n : ℕ) → m ≤ n → (cs : List ℕ) → fits (n ∷ n ∷ n ∷ []) cs ≡ true → fits (m ∷ m ∷ m ∷ []) cs ≡ true
fewer_fit m n l (a ∷ b ∷ c ∷ cs) h =
    let w = fits_true (n ∷ n ∷ n ∷ []) (a ∷ b ∷ c ∷ cs) h in
    rw (le-leb m a (omega arith), le-leb m b (omega arith), le-leb m c (omega arith))
fewer_fit m n l [] h = h
fewer_fit m n l (a ∷ []) h = absurd (fits_true (n ∷ n ∷ n ∷ []) (a ∷ []) h).1
fewer_fit m n l (a ∷ b ∷ []) h = absurd (fits_true (n ∷ n ∷ n ∷ []) (a ∷ b ∷ []) h).1.1

module _ (events : List ℕ) (xs : List (List ℕ)) where
  -- whether the list of the bytes s fits
  abbrev Fits : List ℕ → Bool
  Fits s = fits (lengths (channel_lists (channels_in events s))) (lengths xs)

  -- an answer, by what fits
  answers : (s : List ℕ) (r : Result ℕ Refusal) (ys : List (List ℕ)) → LeftLists (channel_list events s) xs (outcome_of r) ys
      → ListAnswered xs (channels_in events s) r ys ⊎ ListRefused xs (channels_in events s) r ys
  unfolding after channel_list lists_if_fit
  answers s r ys m =
      ⊎_elim
      (λ (f : Fits s ≡ true). let o = rw f at m in inl (f, answer_one r (Ok (length (channels_in events s))) o.answered, o.stands))
      (λ (f : Fits s ≡ false). let o = rw f at m in inr (f, answer_one r (Err NoRoom) o.answered, o.stands))
      (bool_cases (Fits s))

  fits_before : (s t : List ℕ) → Fits (s ++ t) ≡ true → Fits s ≡ true
  fits_before s t h =
      let l = channels_longer events s t in
      let few : length (channels_in events s) ≤ length (channels_in events (s ++ t)) = rw (l.1, length-append) (omega arith) in
      simp length-map (fewer_fit (length (channels_in events s)) (length (channels_in events (s ++ t))) few (lengths xs) (simp length-map at h))

  stays_refused : (s t : List ℕ) (q : Result ℕ Refusal) (ys zs : List (List ℕ)) → LeftLists (channel_list events s) xs (outcome_of (Err NoRoom)) ys
      → LeftLists (channel_list events (s ++ t)) xs (outcome_of q) zs → ListRefused xs (channels_in events (s ++ t)) q zs
  stays_refused s t q ys zs m l =
      ⊎_elim
      (λ b.
      ⊎_elim
      (λ a. let e : Err NoRoom ≡ Ok (length (channels_in events s)) = a.1 in let z : ◌≡◌ {A = ℕ} 0 1 = cc in absurd (omega arith))
      (λ a. false_not_true (sym a.0 ∙ fits_before s t b.0))
      (answers s (Err NoRoom) ys m))
      (λ b. b)
      (answers (s ++ t) q zs l)

  pub channels_on_longer_bytes : ListOnLongerBytes xs (channels_in events) (λ s r ys. LeftLists (channel_list events s) xs (outcome_of r) ys)
  channels_on_longer_bytes = record { extends = channels_longer events; answers = answers; refused = stays_refused }

pub channels_fewest : (events s : List ℕ) → length s < 73 → channels_in events s ≡ []
unfolding channels_in
channels_fewest events s h = rw (places_none (channel_test events s) 24 (length s - 48) (omega arith))
