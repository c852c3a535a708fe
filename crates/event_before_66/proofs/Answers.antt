-- What finding an event below version 66 answers, by the tests that decide it, and that it is the event which is read.
use Rattle.std.specs.Prelude.{Ok}
use mathlib.Core.Path.{◌≡◌, refl, sym, ap, ◌∙◌}
use Prim.Native.Nat.{ℕ, ◌+◌, ◌*◌, ◌-◌, ◌≤◌, ◌<◌}
use mathlib.Core.List.{List}
use native.Mathlib.Omega.{arith}
use lib.Dec.{leb}
use lib.ListN.{length}
use borrow.Author.Tests.{leb-true, le-leb, lt-leb}
use Rattle.refusal.specs.Outcome.{ran_out}
use Rattle.refusal.specs.Number.{outcome_of}
use Rattle.lists.specs.Written.{each}
use Rattle.lists.proofs.Laws.{each_below}
use Rattle.parser.specs.Parser.{done, short, parsed, within, parse, bytes, little_endian, word_at, remaining, word, repeat, counted, ◌>>=◌}
use Rattle.parser.specs.Call.{outcome}
use Rattle.parser.proofs.Prefix.{within_parsed, parse_assoc, bytes_in}
use Rattle.parser.proofs.Fixed.{parse_stage}
use Rattle.layout.specs.Layout.{reads}
use Rattle.event_preamble.specs.Size.{size_for_version}
use Rattle.event_reactions.specs.Reactions.{in_source}
use Rattle.event_record.specs.Event.{Event}
use Rattle.event_record.specs.Places.{event_in, event_at, places_of, find_by}
use Rattle.event_record.specs.declared.Lists.{Lists}
use Rattle.event_record.proofs.Holding.{Holds, there}
use Rattle.event_before_66.specs.Layout.{reaction, lists_before_66, layout_before_66, before_66}
use Rattle.event_before_66.proofs.Stages.{head, Middle, beyond, middle, last, tail, described, more, rest, head_sized, middle_sized, tail_sized, middle_at, head_value, middle_value, tail_value}

pair : {A B : Type 0} {a c : A} {b d : B} → a ≡ c → b ≡ d → ◌≡◌ {A = A × B} (a, b) (c, d)
pair p q = rw (p, q)

module _ (s : List ℕ) where
  staged : (version at : ℕ) → parse (before_66 version) s at ≡ parse (head version >>= rest) s at
  unfolding layout_before_66 head rest more beyond last counted
  staged version at = refl

  parse_head : (version at : ℕ) → let size = size_for_version version in
      parse (before_66 version) s at ≡ within (leb (size + 4) (remaining s at)) (parse (rest (bytes s at size, word_at s (at + size) 4)) s (at + (size + 4)))
  parse_head version at = staged version at ∙ parse_stage (size_for_version version + 4) (head version) rest (head_sized version) s at ∙ rw (head_value s version at)

  parse_middle : (preamble : List ℕ) (n body : ℕ)
      → parse (rest (preamble, n)) s (body + 4) ≡ within (leb (n * 32 + 24) (remaining s (body + 4))) (parse (more preamble n (middle_at s n body)) s (body + 4 + (n * 32 + 24)))
  unfolding rest middle
  parse_middle preamble n body =
      parse_assoc (repeat n (reads reaction)) beyond (more preamble n) s (body + 4)
      ∙ parse_stage (n * 32 + 24) (middle n) (more preamble n) (middle_sized n) s (body + 4)
      ∙ rw (middle_value s n body)

  parse_tail : (preamble : List ℕ) (n body at : ℕ) → let m = middle_at s n body in
      parse (more preamble n m) s at
      ≡ within (leb (m.count * 8 + 8) (remaining s at)) (parsed (described preamble n m (each (λ i. word_at s (at + i * 8) 8) m.count)) (at + (m.count * 8 + 8)))
  unfolding more tail parse
  parse_tail preamble n body at =
      let m = middle_at s n body in
      parse_assoc (counted m.count 8 (word 8)) last (λ cs. done (described preamble n m cs)) s at
      ∙ parse_stage (m.count * 8 + 8) (tail m.count) (λ cs. done (described preamble n m cs)) (tail_sized m.count) s at
      ∙ rw (tail_value s m.count at)

-- what is parsed, by how far the bytes reach
module _ (version : ℕ) (s : List ℕ) (at : ℕ) where
  pub parse_short_head : remaining s at < size_for_version version + 4 → parse (before_66 version) s at ≡ short
  parse_short_head t = rw (parse_head s version at, lt-leb _ _ t)

  module _ {len n : ℕ} (hl : len ≡ size_for_version version) (t : len + 4 ≤ remaining s at) (hn : n ≡ word_at s (at + len) 4) where
    to_middle : parse (before_66 version) s at ≡ parse (rest (bytes s at len, n)) s (at + len + 4)
    to_middle = let e : at + (len + 4) ≡ at + len + 4 = omega arith in parse_head s version at ∙ rw (← hl, le-leb _ _ t, ← hn, e)

    parse_short_middle : remaining s (at + len + 4) < n * 32 + 24 → parse (before_66 version) s at ≡ short
    parse_short_middle u = rw (to_middle, parse_middle s (bytes s at len) n (at + len), lt-leb _ _ u)

    module _ (u : n * 32 + 24 ≤ remaining s (at + len + 4)) {m : ℕ} (hm : m ≡ word_at s (at + len + (n * 32 + 24)) 4) where
      to_tail : parse (before_66 version) s at ≡ parse (more (bytes s at len) n (middle_at s n (at + len))) s (at + len + (n * 32 + 28))
      to_tail =
          let e : at + len + 4 + (n * 32 + 24) ≡ at + len + (n * 32 + 28) = omega arith in
          rw (to_middle, parse_middle s (bytes s at len) n (at + len), le-leb _ _ u, e)

      parse_short_tail : remaining s (at + len + (n * 32 + 28)) < m * 8 + 8 → parse (before_66 version) s at ≡ short
      parse_short_tail v = rw (to_tail, parse_tail s (bytes s at len) n (at + len) (at + len + (n * 32 + 28)), ← hm, lt-leb _ _ v)

      -- so what is found
      pub short_tail : remaining s (at + len + (n * 32 + 28)) < m * 8 + 8 → ran_out 3 ≡ find_by (before_66 version) at s
      unfolding find_by outcome
      short_tail v = rw (parse_short_tail v)

      pub whole : m * 8 + 8 ≤ remaining s (at + len + (n * 32 + 28)) → {lists : Lists}
          → lists ≡ lists_before_66 n (word_at s (at + len + (n * 32 + 8)) 8) (word_at s (at + len + (n * 32 + 16)) 8) m
          → let next = at + len + (n * 32 + 28) + (m * 8 + 8) in
          outcome_of (Ok (record { preamble = at; preamble_len = len; lists = lists; next = next })) ≡ find_by (before_66 version) at s
      unfolding find_by outcome
      whole v e = rw (to_tail, parse_tail s (bytes s at len) n (at + len) (at + len + (n * 32 + 28)), ← hm, le-leb _ _ v, there s at len (omega arith), e)

    pub short_middle : remaining s (at + len + 4) < n * 32 + 24 → ran_out 3 ≡ find_by (before_66 version) at s
    unfolding find_by outcome
    short_middle u = rw (parse_short_middle u)

  pub short_head : remaining s at < size_for_version version + 4 → ran_out 3 ≡ find_by (before_66 version) at s
  unfolding find_by outcome
  short_head t = rw (parse_short_head t)

-- the places of an event give it back
module _ (s : List ℕ) (at len n : ℕ) where
  abbrev mid : Middle
  mid = middle_at s n (at + len)

  abbrev from : ℕ
  from = at + len + (n * 32 + 28)

  abbrev end : ℕ
  end = from + (mid.count * 8 + 8)

  abbrev value : Event × Lists
  value = described (bytes s at len) n mid (each (λ i. word_at s (from + i * 8) 8) mid.count)

  module _ (t : end ≤ length s) where
    size_is : length (bytes s (at + len) (end - (at + len))) ≡ end - (at + len)
    size_is = there s (at + len) (end - (at + len)) (omega arith)

    word_in : (off : ℕ) → off + 8 ≤ end - (at + len) → word_at (bytes s (at + len) (end - (at + len))) off 8 ≡ word_at s (at + len + off) 8
    word_in off h = ap little_endian (bytes_in s (at + len) (end - (at + len)) off 8 (rw size_is h))

    again : event_at s (places_of at value end) ≡ value.0
    unfolding event_in in_source
    again =
        let reactions = each_below _ _ n (λ i h.
        let p : at + len + (4 + i * 32) ≡ at + len + 4 + i * 32 = omega arith in
        let q : at + len + (4 + i * 32 + 16) ≡ at + len + 4 + i * 32 + 16 = omega arith in
        pair (word_in (4 + i * 32) (omega arith) ∙ ap (λ (k : ℕ). word_at s k 8) p) (word_in (4 + i * 32 + 16) (omega arith) ∙ ap (λ (k : ℕ). word_at s k 8) q)) in
        let coefficients = each_below _ _ mid.count (λ i h.
        let p : at + len + (n * 32 + 28 + i * 8) ≡ from + i * 8 = omega arith in
        word_in (n * 32 + 28 + i * 8) (omega arith) ∙ ap (λ (k : ℕ). word_at s k 8) p) in
        rw (there s at len (omega arith), reactions, coefficients)

pub before_66_holds : (version : ℕ) → Holds (before_66 version)
before_66_holds version s at v next h =
    let len = size_for_version version in
    let n = word_at s (at + len) 4 in
    let a = within_parsed (leb (len + 4) (remaining s at)) _ (sym (parse_head s version at) ∙ h) in
    let e : at + (len + 4) ≡ at + len + 4 = omega arith in
    let b = within_parsed (leb (n * 32 + 24) (remaining s (at + len + 4))) _ (sym (parse_middle s (bytes s at len) n (at + len)) ∙ (rw e at a.1)) in
    let f : at + len + 4 + (n * 32 + 24) ≡ at + len + (n * 32 + 28) = omega arith in
    let m = (middle_at s n (at + len)).count in
    let c = within_parsed (leb (m * 8 + 8) (remaining s (at + len + (n * 32 + 28)))) _ (sym (parse_tail s (bytes s at len) n (at + len) (at + len + (n * 32 + 28))) ∙ (rw f at b.1)) in
    let is : value s at len n ≡ v = cc c.1 in
    let ends : end s at len n ≡ next = cc c.1 in
    rw (← is, ← ends) (again s at len n (omega (arith, leb-true (m * 8 + 8) (remaining s (at + len + (n * 32 + 28))) c.0)))
