-- By computation: 41 and 33 bytes can hold a find; the v63 search takes a distance of 0.002, a centre that is a NaN, and any
-- centre where the target is one; the event search takes neither.
use Rattle.std.specs.Prelude.{Some}
use mathlib.Core.Path.{◌≡◌, refl}
use mathlib.Core.Bool.{true, false}
use mathlib.Core.List.{List, [], ◌∷◌, ◌++◌}
use Prim.Native.Nat.{ℕ}
use lib.Ieee.{Float, nan, inf, fin, of_bits, of_int, round, sub, lt, le}
use lib.ListN.{length}
use Rattle.lists.specs.Written.{each}
use Rattle.srm_transition.specs.Places.{places_where}
use Rattle.srm_transition.specs.Transition.{not_far, is_near, v63_test, search_v63_transition, event_test, flatv66_event_transition}
use Rattle.float_bits.specs.Numbers.{whole, ratio}

-- Q1 50, centre 100, width 0.01, 8 bytes, energy 300, and one byte more
abbrev method : List ℕ
method =
    (0x00 ∷ 0x00 ∷ 0x00 ∷ 0x00 ∷ 0x00 ∷ 0x00 ∷ 0x49 ∷ 0x40 ∷ [])
    ++ (0x00 ∷ 0x00 ∷ 0x00 ∷ 0x00 ∷ 0x00 ∷ 0x00 ∷ 0x59 ∷ 0x40 ∷ [])
    ++ (0x7b ∷ 0x14 ∷ 0xae ∷ 0x47 ∷ 0xe1 ∷ 0x7a ∷ 0x84 ∷ 0x3f ∷ [])
    ++ (0x00 ∷ 0x00 ∷ 0x00 ∷ 0x00 ∷ 0x00 ∷ 0x00 ∷ 0x00 ∷ 0x00 ∷ [])
    ++ (0x00 ∷ 0x00 ∷ 0x00 ∷ 0x00 ∷ 0x00 ∷ 0xc0 ∷ 0x72 ∷ 0x40 ∷ [])
    ++ (0x00 ∷ [])

fewest_41 : length method ≡ 41
fewest_41 = refl

pub found_in_41 : search_v63_transition (whole 100) method ≡ Some (record { place = 8; q1 = 0x4049_0000_0000_0000; q3_width = 0x3f84_7ae1_47ae_147b; collision_energy = 0x4072_c000_0000_0000 })
unfolding search_v63_transition places_where each v63_test of_bits of_int round sub lt le
found_in_41 = refl

-- event 7, 4 bytes, Q1 500, the window 99.9375 to 100, and one byte more
abbrev stream : List ℕ
stream =
    (0x07 ∷ 0x00 ∷ 0x00 ∷ 0x00 ∷ 0x00 ∷ 0x00 ∷ 0x00 ∷ 0x00 ∷ [])
    ++ (0x00 ∷ 0x00 ∷ 0x00 ∷ 0x00 ∷ 0x00 ∷ 0x40 ∷ 0x7f ∷ 0x40 ∷ [])
    ++ (0x00 ∷ 0x00 ∷ 0x00 ∷ 0x00 ∷ 0x00 ∷ 0xfc ∷ 0x58 ∷ 0x40 ∷ [])
    ++ (0x00 ∷ 0x00 ∷ 0x00 ∷ 0x00 ∷ 0x00 ∷ 0x00 ∷ 0x59 ∷ 0x40 ∷ [])
    ++ (0x00 ∷ [])

fewest_33 : length stream ≡ 33
fewest_33 = refl

pub found_in_33 : flatv66_event_transition 7 (whole 100) stream ≡ Some (record { place = 24; q1 = 0x407f_4000_0000_0000 })
unfolding flatv66_event_transition places_where each event_test of_bits of_int round sub lt le
found_in_33 = refl

-- ---- the edge, and NaNs
pub edge_taken : not_far (ratio 2 1000) (whole 0) ≡ true
unfolding of_int round sub lt
edge_taken = refl

pub edge_left : is_near (ratio 2 1000) (whole 0) ≡ false
unfolding of_int round sub lt
edge_left = refl

pub nan_taken : (target : Float) → not_far nan target ≡ true
unfolding sub lt
nan_taken target = refl

pub nan_takes : (x : Float) → not_far x nan ≡ true
unfolding sub lt
nan_takes nan = refl
nan_takes (inf s) = refl
nan_takes (fin s m e) = refl

pub nan_left : (target : Float) → is_near nan target ≡ false
unfolding sub lt
nan_left target = refl
