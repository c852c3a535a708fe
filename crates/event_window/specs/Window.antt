-- The acquisition window in a body of version 66: which two numbers make one, and where it is looked for.
use Rattle.std.specs.Prelude.{ℕ, ◌+◌, ◌-◌, Bool, true, false, ◌&&◌, cond, List, [], ◌∷◌, map, Float, leb}
use Rattle.std.specs.Float.Ieee.{le}
use Rattle.std.specs.Float.Ieee.Scale.{finite}
use Rattle.float_bits.specs.Numbers.{ratio, largest_mass}
use Rattle.lists.specs.Filter.{filter, first_or}
use Rattle.parser.specs.Parser.{remaining, f64_at, word_at}
use Rattle.event_window.specs.declared.Window.{Window}
use Rattle.event_window.specs.declared.Window.TheVariants.{Absent, Ends}
use Rattle.event_window.specs.declared.FoundWindow.{FoundWindow}

-- the f64 nearest to 1 / 10
unfoldable pub lowest : Float
lowest = ratio 1 10

abbrev pub plausible_ends : Float → Float → Bool
plausible_ends low high = finite low && finite high && le lowest low && le low high && le high largest_mass

abbrev pub window_of : Float → Float → Window
window_of low high = cond (plausible_ends low high) (Ends low high) Absent

-- whether a window stands at an offset: 16 bytes, and their ends are plausible
abbrev pub has_window : List ℕ → ℕ → Bool
has_window body off = leb 16 (remaining body off) && plausible_ends (f64_at body off) (f64_at body (off + 8))

-- the window there, its ends as floats and as bits
abbrev pub window_at : List ℕ → ℕ → FoundWindow
window_at body off = record { window = Ends (f64_at body off) (f64_at body (off + 8)); low = word_at body off 8; high = word_at body (off + 8) 8; offset = off }

abbrev pub no_window : FoundWindow
no_window = record { window = Absent; low = 0; high = 0; offset = 0 }

-- the window at the first of these offsets that has one
unfoldable pub first_window : List ℕ → List ℕ → FoundWindow
first_window body offsets = first_or no_window (map (window_at body) (filter (has_window body) offsets))

-- the candidates in a body of this size; differences stop at 0
abbrev pub candidates : Bool → ℕ → List ℕ
candidates true size = (size - 88) ∷ 8 ∷ 64 ∷ 128 ∷ []
candidates false size = 64 ∷ 8 ∷ 128 ∷ (size - 80) ∷ []
