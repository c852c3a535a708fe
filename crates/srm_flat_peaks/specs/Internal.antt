-- An attempt's place and count, for the private functions. No public promise cites it.
use Rattle.std.specs.Prelude.{ℕ, length, Option, Some, None, Result, Ok, Err}
use Rattle.refusal.specs.declared.Part.TheVariants.{Data}
use Rattle.refusal.specs.declared.Refusal.{Refusal}
use Rattle.refusal.specs.declared.Refusal.TheVariants.{Short}
use Rattle.parser.specs.Parser.{Parsed, short, parsed}
use Rattle.srm_flat_peaks.specs.Flat.{Attempt, accepted, passed_over}

abbrev pub attempt_answer : Parsed Attempt → Result (Option (ℕ × ℕ)) Refusal
attempt_answer short = Err (Short Data)
attempt_answer (parsed (accepted place peaks) next) = Ok (Some (place, length peaks))
attempt_answer (parsed passed_over next) = Ok None
