-- A chunk is two tests and its values, by their places; the place after a list of chunks is found chunk by chunk.
use Rattle.std.specs.Prelude.{Ok, Err}
use Rattle.refusal.specs.declared.Part.TheVariants.{Data}
use Rattle.refusal.specs.declared.Refusal.TheVariants.{Short}
use mathlib.Core.Path.{◌≡◌, refl, ap, sym, ◌∙◌}
use Prim.Native.Nat.{ℕ, ◌+◌, ◌*◌, ◌≤◌, ◌<◌}
use native.Mathlib.Nat.{add-zero, zero-add}
use mathlib.Core.Bool.{Bool, true, false}
use mathlib.Core.List.{List}
use lib.Dec.{leb}
use borrow.Author.Tests.{le-leb, lt-leb, leb-true}
use Rattle.lists.specs.Written.{each}
use Rattle.lists.proofs.Laws.{each_same}
use Rattle.parser.specs.Parser.{Parser, Parsed, short, parsed, done, bytes, little_endian, remaining, within, parse, word, repeat, counted, ◌>>=◌}
use Rattle.parser.specs.Internal.{Sized, value}
use Rattle.parser.proofs.Prefix.{within_parsed, parsed_not_short, short_not_parsed}
use Rattle.parser.proofs.Fixed.{parse_stage, sized_word, sized_counted, value_each}
use Rattle.parser.specs.Walk.{sum}
use Rattle.parser.proofs.Walk.{total, WalkInvariant, walk_short, walk_all}
use Rattle.packet_profile.specs.Profile.{head_size, Chunk, points, fudge, chunk, fudge_at}
use Rattle.packet_profile.specs.Internal.{chunks_answer}

-- a chunk in two stages: what has one size, and its values
pub record Head : Type 0 where
  pub first_bin : ℕ
  pub count : ℕ
  pub value : ℕ

unfoldable pub head : Bool → Parser Head
head fudged = do
  first_bin ← word 4
  count ← word 4
  value ← fudge fudged
  done (record { first_bin = first_bin; count = count; value = value })

abbrev pub values : ℕ → Parser (List ℕ)
values n = counted n 4 (word 4)

abbrev pub chunks : Bool → ℕ → Parser (List Chunk)
chunks fudged n = counted n 8 (chunk fudged)

pub head_sized : (fudged : Bool) → Sized (head_size fudged) (head fudged)
unfolding head
head_sized true = λ _ _ _. tt
head_sized false = λ _ _. tt

pub values_sized : (n : ℕ) → Sized (n * 4) (values n)
unfolding counted
values_sized n = sized_counted 4 (word 4) (sized_word 4) n

-- the chunk at a place, which has n values
abbrev pub chunk_at : Bool → List ℕ → ℕ → ℕ → Chunk
chunk_at fudged s at n =
    record { first_bin = little_endian (bytes s at 4); fudge = fudge_at fudged s at; signal = each (λ i. little_endian (bytes s (at + head_size fudged + i * 4) 4)) n }

-- what is made of a head, and of its values
unfoldable pub whole : Head → List ℕ → Parser Chunk
whole h signal = done (record { first_bin = h.first_bin; fudge = h.value; signal = signal })

unfoldable pub rest : Head → Parser Chunk
rest h = values h.count >>= whole h

pub staged : (fudged : Bool) → chunk fudged ≡ (head fudged >>= rest)
unfolding chunk head rest whole
staged true = refl
staged false = refl

head_value : (fudged : Bool) (s : List ℕ) (at : ℕ)
    → value (head fudged) s at 0 ≡ record { first_bin = little_endian (bytes s at 4); count = little_endian (bytes s (at + 4) 4); value = fudge_at fudged s at }
unfolding head
head_value true s at = rw (add-zero at)
head_value false s at = rw (add-zero at)

values_value : (n : ℕ) (s : List ℕ) (at : ℕ) → value (values n) s at 0 ≡ each (λ i. little_endian (bytes s (at + i * 4) 4)) n
unfolding counted
values_value n s at =
    value_each 4 (word 4) (sized_word 4) n s at 0
    ∙ each_same _ _ n (λ i. ap (λ (k : ℕ). little_endian (bytes s (at + k) 4)) (zero-add (i * 4)))

module _ (fudged : Bool) (s : List ℕ) (at : ℕ) where
  parse_chunk : (n : ℕ) → n ≡ little_endian (bytes s (at + 4) 4) → parse (chunk fudged) s at
      ≡ within (leb (head_size fudged) (remaining s at)) (within (leb (n * 4) (remaining s (at + head_size fudged))) (parsed (chunk_at fudged s at n) (at + head_size fudged + n * 4)))
  unfolding rest whole parse
  parse_chunk n e =
      let h : Head = record { first_bin = little_endian (bytes s at 4); count = n; value = fudge_at fudged s at } in
      ap (λ (q : Parser Chunk). parse q s at) (staged fudged) ∙ parse_stage (head_size fudged) (head fudged) rest (head_sized fudged) s at
      ∙ rw (head_value fudged s at, ← e, parse_stage (n * 4) (values n) (whole h) (values_sized n) s (at + head_size fudged), values_value n s (at + head_size fudged))

  pub chunk_short_head : remaining s at < head_size fudged → parse (chunk fudged) s at ≡ short
  chunk_short_head t = rw (parse_chunk (little_endian (bytes s (at + 4) 4)) refl, lt-leb _ _ t)

  module _ (n : ℕ) (e : n ≡ little_endian (bytes s (at + 4) 4)) where
    module _ (t : head_size fudged ≤ remaining s at) where
      pub chunk_short : remaining s (at + head_size fudged) < n * 4 → parse (chunk fudged) s at ≡ short
      chunk_short u = rw (parse_chunk n e, le-leb _ _ t, lt-leb _ _ u)

      pub chunk_parsed : n * 4 ≤ remaining s (at + head_size fudged) → parse (chunk fudged) s at ≡ parsed (chunk_at fudged s at n) (at + head_size fudged + n * 4)
      chunk_parsed u = rw (parse_chunk n e, le-leb _ _ t, le-leb _ _ u)

    -- a chunk that was parsed is there
    pub record Whole (c : Chunk) (next : ℕ) : Type 0 where
      pub head_there : head_size fudged ≤ remaining s at
      pub values_there : n * 4 ≤ remaining s (at + head_size fudged)
      pub is : c ≡ chunk_at fudged s at n
      pub end : next ≡ at + head_size fudged + n * 4

    pub whole_chunk : {c : Chunk} {next : ℕ} → parse (chunk fudged) s at ≡ parsed c next → Whole c next
    whole_chunk {c} {next} h =
        let outer = within_parsed (leb (head_size fudged) (remaining s at)) _ (sym (parse_chunk n e) ∙ h) in
        let inner = within_parsed (leb (n * 4) (remaining s (at + head_size fudged))) _ outer.1 in
        record { head_there = leb-true _ _ outer.0; values_there = leb-true _ _ inner.0; is = cc inner.1; end = cc inner.1 }

-- turns of the loop over a list of chunks
pub list_short : (fudged : Bool) (count : ℕ) (s : List ℕ) (start i at w : ℕ) → i < count → WalkInvariant points (chunk fudged) s start count i at w → parse (chunk fudged) s at ≡ short
    → Err (Short Data) ≡ chunks_answer (parse (repeat count (chunk fudged)) s start)
list_short fudged count s start i at w more before h = go (parse (repeat count (chunk fudged)) s start) (walk_short points (chunk fudged) s start count i at w more before h)
  where
    go : (o : Parsed (List Chunk)) → total points o ≡ short → Err (Short Data) ≡ chunks_answer o
    go short e = refl
    go (parsed cs next) e = parsed_not_short e

pub list_all : (fudged : Bool) (count : ℕ) (s : List ℕ) (start : ℕ) {at w : ℕ} → WalkInvariant points (chunk fudged) s start count count at w
    → Ok (record { points = w; next = at }) ≡ chunks_answer (parse (repeat count (chunk fudged)) s start)
list_all fudged count s start {at} {w} before = go (parse (repeat count (chunk fudged)) s start) (walk_all points (chunk fudged) s start count before)
  where
    go : (o : Parsed (List Chunk)) → total points o ≡ parsed w at → Ok (record { points = w; next = at }) ≡ chunks_answer o
    go short e = short_not_parsed e
    go (parsed cs next) e =
        let p : sum points cs ≡ w = cc in
        let n : next ≡ at = cc in
        rw (p, n)
