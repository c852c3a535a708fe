-- The profile of a packet (`Profile::read` of scan_data.rs).
use Rattle.std.specs.Prelude.{ℕ, ◌+◌, ◌*◌, ◌%◌, Bool, true, false, not, List, eqb, length}
use Rattle.refusal.specs.Outcome.{Outcome, ok}
use Rattle.parser.specs.Parser.{Parser, done, ◌>>=◌, word, counted, word_at}
use Rattle.parser.specs.Walk.{sum}
use Rattle.parser.specs.Call.{outcome, single}
use Rattle.packet_profile.specs.declared.Profile.{Profile}
use Rattle.packet_profile.specs.declared.Signal.{Signal}

-- a layout whose low byte is not 0 gives each chunk a fudge
abbrev pub is_fudged : ℕ → Bool
is_fudged layout = not (eqb (layout % 256) 0)

-- a chunk: its signal are the bits of f32, and its fudge too: 0, which are those of 0.0, where there is none
pub record Chunk : Type 0 where
  pub first_bin : ℕ
  pub fudge : ℕ
  pub signal : List ℕ

abbrev pub points : Chunk → ℕ
points c = length c.signal

abbrev pub fudge : Bool → Parser ℕ
fudge true = word 4
fudge false = done 0

unfoldable pub chunk : Bool → Parser Chunk
chunk fudged = do
  first_bin ← word 4
  count ← word 4
  value ← fudge fudged
  signal ← counted count 4 (word 4)
  done (record { first_bin = first_bin; fudge = value; signal = signal })

-- how many bytes of a chunk stand before its signal
abbrev pub head_size : Bool → ℕ
head_size true = 12
head_size false = 8

-- the fudge of the chunk at a place
abbrev pub fudge_at : Bool → List ℕ → ℕ → ℕ
fudge_at true s at = word_at s (at + 8) 4
fudge_at false s at = 0

-- what `signal_at` answers of the chunk at `at`: where its signal stands, how many values it has, and the place after it
unfoldable pub find_signal : Bool → ℕ → List ℕ → Outcome Signal
find_signal fudged at run = outcome (single 4 at (chunk fudged) (λ c next. ok (record { at = at + head_size fudged; points = points c; next = next }))) run

-- what stands before the chunks: the bits of two f64, and two counts
pub record Axis : Type 0 where
  pub first_value : ℕ
  pub step : ℕ
  pub peak_count : ℕ
  pub nbins : ℕ

unfoldable pub axis : Parser Axis
axis = do
  first_value ← word 8
  step ← word 8
  peak_count ← word 4
  nbins ← word 4
  done (record { first_value = first_value; step = step; peak_count = peak_count; nbins = nbins })

unfoldable pub profile : ℕ → Parser (Axis × List Chunk)
profile layout = do
  a ← axis
  cs ← counted a.peak_count 8 (chunk (is_fudged layout))
  done (a, cs)

-- how many bytes it takes
abbrev pub size_of_profile : ℕ → Axis × List Chunk → ℕ
size_of_profile layout p = 24 + sum (λ c. head_size (is_fudged layout) + points c * 4) p.1

-- the record of a profile that stands at `at`
unfoldable pub profile_record : ℕ → ℕ → Axis × List Chunk → Profile
profile_record layout at p =
    record {
      first_value = p.0.first_value;
      step = p.0.step;
      peak_count = p.0.peak_count;
      nbins = p.0.nbins;
      fudged = is_fudged layout;
      chunks_at = at + 24;
      points = sum points p.1;
    }

-- what `Profile::read` answers: the profile, and the place after it
unfoldable pub read_profile : ℕ → ℕ → List ℕ → Outcome (Profile × ℕ)
read_profile layout at run = outcome (single 4 at (profile layout) (λ p next. ok (profile_record layout at p, next))) run
