-- What reading the label streams answers: one test judges them all.
use mathlib.Core.Path.{◌≡◌, ap, sym, subst, ◌∙◌}
use Prim.Native.Nat.{ℕ, ◌+◌, ◌*◌, ◌/◌, ◌≤◌, ◌<◌}
use native.Mathlib.Omega.{arith}
use mathlib.Core.List.{List}
use lib.Dec.{leb}
use lib.ListN.{length}
use borrow.Author.Tests.{le-leb, lt-leb}
use Rattle.refusal.specs.Outcome.{ok, refused, ran_out}
use Rattle.lists.specs.Written.{each}
use Rattle.lists.proofs.Laws.{length-each}
use Rattle.parser.specs.Parser.{Parser, done, parsed, within, parse, bytes, word_at, remaining, ◌>>=◌}
use Rattle.parser.specs.Call.{outcome}
use Rattle.parser.specs.Internal.{Sized, value}
use Rattle.parser.proofs.Prefix.{within_parsed}
use Rattle.parser.proofs.Fixed.{parse_sized, sized_bind, value_bind}
use Rattle.parser.proofs.Answered.{found, RanOut, ran_out_lem}
use Rattle.packet_header.specs.declared.PacketHeader.{PacketHeader}
use Rattle.packet_labels.specs.Labels.{words_each, triplets, Streams, labels, label_places, streams_at, read_labels}
use Rattle.packet_labels.specs.Internal.{word_count}
use Rattle.packet_labels.specs.declared.Labels.{Labels}
use Rattle.packet_labels.proofs.Streams.{words_sized, triplets_sized, words_value, triplets_value}

-- the three streams as one
abbrev pub total : PacketHeader → ℕ
total h = (h.descriptor_list_size + h.unknown_stream_size + h.triplet_stream_size) * 4

-- what follows the resolutions, and what follows the descriptors
last : PacketHeader → List ℕ → List ℕ → Parser Streams
last h ds rs = triplets h.triplet_stream_size >>= λ nodes. done (record { descriptors = ds; resolutions = rs; nodes = nodes })

more : PacketHeader → ℕ → List ℕ → Parser Streams
more h n ds = words_each n 1 h.unknown_stream_size >>= last h ds

module _ (h : PacketHeader) (n : ℕ) where
  last_sized : (ds rs : List ℕ) → Sized (h.triplet_stream_size * 4 + 0) (last h ds rs)
  unfolding last
  last_sized ds rs = sized_bind (h.triplet_stream_size * 4) 0 (triplets h.triplet_stream_size) _ (triplets_sized h.triplet_stream_size) (λ _. tt)

  more_sized : (ds : List ℕ) → Sized (h.unknown_stream_size * 4 + (h.triplet_stream_size * 4 + 0)) (more h n ds)
  unfolding more
  more_sized ds =
      sized_bind (h.unknown_stream_size * 4) (h.triplet_stream_size * 4 + 0) (words_each n 1 h.unknown_stream_size) (last h ds) (words_sized n 1 h.unknown_stream_size) (last_sized ds)

  pub labels_sized : Sized (total h) (labels h n)
  unfolding labels more last
  labels_sized =
      let d = h.descriptor_list_size * 4 in
      let rest = h.unknown_stream_size * 4 + (h.triplet_stream_size * 4 + 0) in
      let e : d + rest ≡ total h = omega arith in
      subst (λ (k : ℕ). Sized k (labels h n)) e (sized_bind d rest (words_each n 0 h.descriptor_list_size) (more h n) (words_sized n 0 h.descriptor_list_size) more_sized)

  module _ (s : List ℕ) (at : ℕ) where
    -- the words for peaks, by their places
    abbrev descriptors_there : List ℕ
    descriptors_there = each (λ i. word_at s (at + i * 4) 4) (word_count n 0 h.descriptor_list_size)

    abbrev resolutions_at : List ℕ
    resolutions_at = each (λ i. word_at s (at + h.descriptor_list_size * 4 + 4 + i * 4) 4) (word_count n 1 h.unknown_stream_size)

    abbrev node_bytes : List ℕ
    node_bytes = bytes s (at + h.descriptor_list_size * 4 + h.unknown_stream_size * 4) (h.triplet_stream_size / 3 * 12)

    abbrev streams : Streams
    streams = record { descriptors = descriptors_there; resolutions = resolutions_at; nodes = node_bytes }

    labels_value : value (labels h n) s at 0 ≡ streams
    unfolding labels more last
    labels_value =
        let d = h.descriptor_list_size * 4 in
        let u = h.unknown_stream_size * 4 in
        let ds = value (words_each n 0 h.descriptor_list_size) s at 0 in
        let first : at + (0 + 0 * 4) ≡ at = omega arith in
        let second : at + (0 + d + 1 * 4) ≡ at + d + 4 = omega arith in
        let third : at + (0 + d + u) ≡ at + d + u = omega arith in
        value_bind d (words_each n 0 h.descriptor_list_size) (more h n) (words_sized n 0 h.descriptor_list_size) s at 0
        ∙ value_bind u (words_each n 1 h.unknown_stream_size) (last h ds) (words_sized n 1 h.unknown_stream_size) s at (0 + d)
        ∙ value_bind (h.triplet_stream_size * 4) (triplets h.triplet_stream_size) _ (triplets_sized h.triplet_stream_size) s at (0 + d + u)
        ∙ rw (
          words_value n 0 h.descriptor_list_size s at 0 first,
          words_value n 1 h.unknown_stream_size s at (0 + d) second,
          triplets_value h.triplet_stream_size s at (0 + d + u),
          third,
        )

    parse_labels : parse (labels h n) s at ≡ within (leb (total h) (remaining s at)) (parsed streams (at + total h))
    parse_labels = parse_sized (total h) (labels h n) labels_sized s at ∙ rw labels_value

    pub labels_short : remaining s at < total h → ran_out 4 ≡ read_labels h n at s
    unfolding read_labels outcome
    labels_short t = rw (parse_labels, lt-leb _ _ t)

    abbrev labels_at : Labels
    labels_at =
        record {
          descriptors = word_count n 0 h.descriptor_list_size;
          descriptors_at = at;
          resolutions = word_count n 1 h.unknown_stream_size;
          unknown_at = at + h.descriptor_list_size * 4;
          noise_nodes = h.triplet_stream_size / 3;
          nodes_at = at + h.descriptor_list_size * 4 + h.unknown_stream_size * 4;
          next = at + total h;
        }

    labels_are : label_places h at streams ≡ labels_at
    unfolding label_places
    labels_are =
        let ds : length descriptors_there ≡ word_count n 0 h.descriptor_list_size = length-each _ (word_count n 0 h.descriptor_list_size) in
        let rs : length resolutions_at ≡ word_count n 1 h.unknown_stream_size = length-each _ (word_count n 1 h.unknown_stream_size) in
        rw (ds, rs)

    pub labels_whole : total h ≤ remaining s at → ok (labels_at, streams_at s labels_at) ≡ read_labels h n at s
    unfolding read_labels outcome
    labels_whole t = rw (parse_labels, le-leb _ _ t, labels_are)

    -- streams that were read, by the places that were answered
    pub labelled : {l : Labels} {k : Streams} → ok (l, k) ≡ read_labels h n at s
        → (parse (labels h n) s at ≡ parsed k l.next) × (l ≡ label_places h at k) × (streams_at s l ≡ k)
    unfolding read_labels
    labelled {l} {k} e =
        let f = found 4 at (labels h n) (λ k _. (label_places h at k, k)) s e in
        let w = within_parsed (leb (total h) (remaining s at)) _ (sym parse_labels ∙ f.there) in
        let v : f.value ≡ streams = cc w.1 in
        let m : f.next ≡ at + total h = cc w.1 in
        let made : l ≡ label_places h at f.value = ap (λ (p : Labels × Streams). p.0) f.made in
        let same : f.value ≡ k = sym (ap (λ (p : Labels × Streams). p.1) f.made) in
        let is : l ≡ labels_at = made ∙ ap (label_places h at) v ∙ labels_are in
        let next : l.next ≡ at + total h = ap (λ (x : Labels). x.next) is in
        (f.there ∙ ap (λ x. parsed x f.next) same ∙ ap (parsed k) (m ∙ sym next), made ∙ ap (label_places h at) same, ap (streams_at s) is ∙ sym v ∙ same)

    pub unlabelled : {number : ℕ} {carries : List ℕ} → refused number carries ≡ read_labels h n at s → RanOut 4 (labels h n) s at number carries
    unfolding read_labels
    unlabelled e = ran_out_lem 4 at (labels h n) (λ k _. (label_places h at k, k)) s e
