-- The label streams after a packet's peak list (`read_labels` of scan_data.rs). Sizes count words of four bytes.
use Rattle.std.specs.Prelude.{ℕ, ◌+◌, ◌*◌, ◌-◌, ◌/◌, ◌&&◌, cond, List, [], leb, eqb, length}
use Rattle.refusal.specs.Outcome.{Outcome, ok}
use Rattle.lists.specs.Written.{each}
use Rattle.parser.specs.Parser.{Parser, done, ◌>>◌, bytes, raw, word, skip, check_count, counted, word_at, ◌>>=◌}
use Rattle.parser.specs.Call.{outcome, single}
use Rattle.packet_header.specs.declared.PacketHeader.{PacketHeader}
use Rattle.packet_labels.specs.declared.Labels.{Labels}

-- a stream of so many words: one for each of n peaks, if n is above 0, after `before` words that are passed over. A stream of another size is skipped
unfoldable pub words_each : ℕ → ℕ → ℕ → Parser (List ℕ)
words_each n before size = cond (leb 1 n && eqb size (before + n)) (skip (before * 4) >> counted n 4 (word 4)) (skip (size * 4) >> done [])

-- the bytes of as many noise nodes as the stream has triples of words, and the words that are left over
unfoldable pub triplets : ℕ → Parser (List ℕ)
triplets size = do
  check_count (size / 3) 12
  nodes ← raw (size / 3 * 12)
  skip ((size - size / 3 * 3) * 4)
  done nodes

-- the words of two streams, and the bytes of the nodes
pub record Streams : Type 0 where
  pub descriptors : List ℕ
  pub resolutions : List ℕ
  pub nodes : List ℕ

unfoldable pub labels : PacketHeader → ℕ → Parser Streams
labels h n = do
  ds ← words_each n 0 h.descriptor_list_size
  rs ← words_each n 1 h.unknown_stream_size
  nodes ← triplets h.triplet_stream_size
  done (record { descriptors = ds; resolutions = rs; nodes = nodes })

-- where they stand, one after the other, from `at` on
unfoldable pub label_places : PacketHeader → ℕ → Streams → Labels
label_places h at l =
    record {
      descriptors = length l.descriptors;
      descriptors_at = at;
      resolutions = length l.resolutions;
      unknown_at = at + h.descriptor_list_size * 4;
      noise_nodes = h.triplet_stream_size / 3;
      nodes_at = at + h.descriptor_list_size * 4 + h.unknown_stream_size * 4;
      next = at + (h.descriptor_list_size + h.unknown_stream_size + h.triplet_stream_size) * 4;
    }

-- what stands at such places
abbrev pub streams_at : List ℕ → Labels → Streams
streams_at s l =
    record {
      descriptors = each (λ i. word_at s (l.descriptors_at + i * 4) 4) l.descriptors;
      resolutions = each (λ i. word_at s (l.unknown_at + 4 + i * 4) 4) l.resolutions;
      nodes = bytes s l.nodes_at (l.noise_nodes * 12);
    }

-- what `read_labels` answers, with what stands there
unfoldable pub read_labels : PacketHeader → ℕ → ℕ → List ℕ → Outcome (Labels × Streams)
read_labels h n at run = outcome (single 4 at (labels h n) (λ l _. ok (label_places h at l, l))) run
