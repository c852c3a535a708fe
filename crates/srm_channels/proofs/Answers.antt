-- What each way out of `flatv66_event_channels` answers, and how many bits a channel's event number has.
use mathlib.Core.Path.{◌≡◌, refl}
use mathlib.Core.Bool.{Bool, true, false, ◌&&◌}
use mathlib.Core.List.{List, [], ◌∷◌, map}
use Prim.Native.Nat.{ℕ, ◌+◌, ◌-◌, ◌≤◌, ◌<◌}
use lib.ListN.{length, length-map, get_or}
use Rattle.refusal.specs.Outcome.{ok, refused}
use Rattle.lists.specs.Written.{over}
use Rattle.lists.specs.Left.{fits, LeftLists}
use Rattle.lists.proofs.Left.{fits_true, lists_no_room, lists_written}
use Rattle.float_bits.specs.Numbers.{whole}
use Rattle.parser.specs.Parser.{word_at, f64_at}
use Rattle.srm_transition.specs.Transition.{narrow_window}
use Rattle.srm_channels.specs.Channels.{is_event, from_up_to, channel_test, channels_in, channel_list}
use Rattle.srm_channels.proofs.IsEvent.{event_bound}

third : (a b c d e : Bool) → a && b && c && d && e ≡ true → c ≡ true
third a b true d e h = refl
third true true false d e h = h
third true false false d e h = h
third false b false d e h = h

-- a channel's event number is one of the events, so it has as many bits as they have
pub channel_event : (bound : ℕ) (events s : List ℕ) (i : ℕ) → ((k : ℕ) → get_or events k 0 < bound) → channel_test events s i ≡ true
    → word_at s (i - 24) 4 < bound
unfolding channel_test
channel_event bound events s i below h =
    let window = narrow_window (f64_at s (i - 8)) (f64_at s i) in
    let upper = from_up_to (whole 5) (whole 2000) (f64_at s i) in
    let known = is_event (word_at s (i - 24) 4) events in
    let first = from_up_to (whole 10) (whole 3000) (f64_at s (i - 16)) in
    let energy = from_up_to (whole 0) (whole 500) (f64_at s (i + 8)) in
    event_bound bound (word_at s (i - 24) 4) events below (third window upper known first energy h)

module _ (events s xs ys zs : List ℕ) where
  abbrev pub room_for : Bool
  room_for =
      let n = length (channels_in events s) in
      fits (n ∷ n ∷ n ∷ []) (length xs ∷ length ys ∷ length zs ∷ [])

  pub channels_room : room_for ≡ true
      → let n = length (channels_in events s) in (n ≤ length xs) × (n ≤ length ys) × (n ≤ length zs)
  channels_room h =
      let n = length (channels_in events s) in
      let w = fits_true (n ∷ n ∷ n ∷ []) (length xs ∷ length ys ∷ length zs ∷ []) h in
      (w.0, w.1.0, w.1.1.0)

  pub channels_refused : room_for ≡ false → LeftLists (channel_list events s) (xs ∷ ys ∷ zs ∷ []) (refused 8 []) (xs ∷ ys ∷ zs ∷ [])
  unfolding channel_list
  channels_refused h = lists_no_room _ _ _ (simp (length-map, h))

  pub channels_written : room_for ≡ true → (E Q C : List ℕ)
      → E ≡ over (map (λ c. c.event) (channels_in events s)) xs
      → Q ≡ over (map (λ c. c.q1) (channels_in events s)) ys
      → C ≡ over (map (λ c. c.collision_energy) (channels_in events s)) zs
      → LeftLists (channel_list events s) (xs ∷ ys ∷ zs ∷ []) (ok (length (channels_in events s))) (E ∷ Q ∷ C ∷ [])
  unfolding channel_list
  channels_written h E Q C e q c = lists_written _ _ _ (simp (length-map, h)) refl (simp (e, q, c))
