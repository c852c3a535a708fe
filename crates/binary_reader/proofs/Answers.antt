-- Each answer is known by what it tells.
use mathlib.Core.Path.{◌≡◌, refl, sym, ◌∙◌}
use Rattle.parser.specs.Parser.{Parser}
use Rattle.binary_reader.specs.Read.{outcome_of, Moves}
use Rattle.refusal.specs.Outcome.{Outcome}
use Rattle.binary_reader.specs.declared.BinaryReader.{BinaryReader}
use Rattle.std.specs.Prelude.{Result, Ok, Err}
use Rattle.binary_reader.specs.declared.RanOut.{RanOut}

pub answer_one : {A : Type 0} (a b : Result A RanOut) → outcome_of a ≡ outcome_of b → a ≡ b
answer_one (Ok x) (Ok y) h = cc
answer_one (Ok x) (Err q) h = cc
answer_one (Err r) (Ok y) h = cc
answer_one (Err r) (Err q) h = refl

-- a reader that was lent: one place over the same bytes. With the answer's own law above, one answer too
pub moves_one : {A : Type 0} {p : Parser A} {r x y : BinaryReader} {a b : Outcome A} → Moves p r a x → Moves p r b y → (a ≡ b) × (x.bytes ≡ y.bytes) × (x.place ≡ y.place)
moves_one m n = (m.answered ∙ sym n.answered, m.bytes ∙ sym n.bytes, m.place ∙ sym n.place)
