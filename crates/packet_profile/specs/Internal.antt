-- What is known of a list of chunks by their places. No public promise cites it.
use Rattle.std.specs.Prelude.{List, Ok, Err, Result}
use Rattle.refusal.specs.declared.Part.TheVariants.{Data}
use Rattle.refusal.specs.declared.Refusal.{Refusal}
use Rattle.refusal.specs.declared.Refusal.TheVariants.{Short}
use Rattle.parser.specs.Parser.{Parsed, short, parsed}
use Rattle.parser.specs.Walk.{sum}
use Rattle.packet_profile.specs.Profile.{Chunk, points}
use Rattle.packet_profile.specs.declared.ChunkList.{ChunkList}

abbrev pub chunks_answer : Parsed (List Chunk) → Result ChunkList Refusal
chunks_answer short = Err (Short Data)
chunks_answer (parsed cs next) = Ok (record { points = sum points cs; next = next })
