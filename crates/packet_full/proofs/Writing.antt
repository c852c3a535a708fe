-- The loop over chunks: what is written so far, and the turn that writes one chunk more.
use mathlib.Core.Path.{◌≡◌, refl, ap, sym, subst, ◌∙◌}
use Prim.Native.Nat.{ℕ, suc, ◌+◌, ◌*◌, ◌-◌, ◌≤◌, ◌<◌}
use native.Mathlib.Nat.{sub-zero}
use native.Mathlib.Omega.{arith}
use mathlib.Core.Bool.{Bool}
use mathlib.Core.List.{List, [], ◌∷◌, ◌++◌, append_assoc, append-nil, map, map-append}
use lib.ListN.{length, take, drop, set, length-append, length-set, length-map, length-take, length-drop}
use Rattle.lists.specs.Written.{each, over, fitting}
use Rattle.lists.specs.Left.{over_all}
use Rattle.lists.proofs.Laws.{length-each, length_over, over_none, over_tail, store_at, fitting_all}
use Rattle.parser.specs.Parser.{parsed, bytes, little_endian, remaining, parse, repeat}
use Rattle.parser.specs.Walk.{sum}
use Rattle.parser.proofs.Walk.{FirstOf, first_of}
use Rattle.packet_profile.specs.Profile.{head_size, Chunk, points, chunk, fudge_at}
use Rattle.packet_profile.proofs.Chunks.{Whole, whole_chunk}
use Rattle.packet_full.specs.Full.{signals, chunk_lists}

-- a column of the chunks that are done, over the front of its slice
pub record Column (f : Chunk → ℕ) (done : List Chunk) (xs X : List ℕ) : Type 0 where
  pub is : X ≡ over (map f done) xs
  pub same : length X ≡ length xs

column_none : (f : Chunk → ℕ) (xs : List ℕ) → Column f [] xs xs
column_none f xs = record { is = sym (over_none xs); same = refl }

column_more : (f : Chunk → ℕ) (done : List Chunk) (xs X : List ℕ) (i v : ℕ) (c : Chunk) → Column f done xs X → length done ≡ i → v ≡ f c → i < length xs
    → Column f (done ++ (c ∷ [])) xs (set X i v)
column_more f done xs X i v c k n e h =
    record {
      is = store_at (map f done) xs X i v (f c) k.is (length-map done f ∙ n) e h ∙ ap (λ l. over l xs) (sym (map-append f done (c ∷ [])));
      same = simp length-set k.same;
    }

signals_append : (a b : List Chunk) → signals (a ++ b) ≡ signals a ++ signals b
signals_append [] b = refl
signals_append (c ∷ a) b = rw (signals_append a b) (sym (append_assoc c.signal (signals a) (signals b)))

signals_one : (done : List Chunk) (c : Chunk) → signals (done ++ (c ∷ [])) ≡ signals done ++ c.signal
signals_one done c = signals_append done (c ∷ []) ∙ rw append-nil

-- what holds after i chunks: their columns are in place, and the others are there
pub record Writing (count : ℕ) (fudged : Bool) (s : List ℕ) (all : List Chunk) (b c f v B C F W : List ℕ) (at written i : ℕ) : Type 0 where
  pub done : List Chunk
  pub rest : List Chunk
  pub end : ℕ
  pub split : all ≡ done ++ rest
  pub passed : length done ≡ i
  pub within : i ≤ count
  pub there : parse (repeat (count - i) (chunk fudged)) s at ≡ parsed rest end
  pub written_is : written ≡ length (signals done)
  pub bins : Column (λ k. k.first_bin) done b B
  pub counts : Column points done c C
  pub fudges : Column (λ k. k.fudge) done f F
  pub signal : W ≡ over (signals done) v
  pub same : length W ≡ length v
  pub in_bins : count ≤ length b
  pub in_counts : count ≤ length c
  pub in_fudges : count ≤ length f
  pub in_signal : length (signals all) ≤ length v

pub writing_none : (count : ℕ) (fudged : Bool) (s : List ℕ) (all : List Chunk) (b c f v : List ℕ) (at end : ℕ) → parse (repeat count (chunk fudged)) s at ≡ parsed all end
    → count ≤ length b → count ≤ length c → count ≤ length f → length (signals all) ≤ length v → Writing count fudged s all b c f v b c f v at 0 0
writing_none count fudged s all b c f v at end h hb hc hf hv =
    record {
      done = [];
      rest = all;
      end = end;
      split = refl;
      passed = refl;
      within = omega arith;
      there = rw sub-zero h;
      written_is = refl;
      bins = column_none (λ k. k.first_bin) b;
      counts = column_none points c;
      fudges = column_none (λ k. k.fudge) f;
      signal = sym (over_none v);
      same = refl;
      in_bins = hb;
      in_counts = hc;
      in_fudges = hf;
      in_signal = hv;
    }

module _ {count : ℕ} {fudged : Bool} {s : List ℕ} {all : List Chunk} {b c f v B C F W : List ℕ} {at written i : ℕ} (w : Writing count fudged s all b c f v B C F W at written i) where
  -- at the end all are done
  pub all_done : i ≡ count → all ≡ w.done
  unfolding parse repeat
  all_done e =
      let z : count - i ≡ 0 = omega arith in
      let ended : parse (repeat 0 (chunk fudged)) s at ≡ parsed w.rest w.end = rw z at w.there in
      let none : w.rest ≡ [] = cc ended in
      w.split ∙ rw (none, append-nil)

  module _ (more : i < count) where
    first : FirstOf (chunk fudged) (count - (i + 1)) s at w.rest w.end
    first = let e : count - i ≡ suc (count - (i + 1)) = omega arith in first_of (chunk fudged) (count - (i + 1)) s at (rw e at w.there)

    module _ (n : ℕ) (e : n ≡ little_endian (bytes s (at + 4) 4)) where
      this : Whole fudged s at n e first.first first.next
      this = whole_chunk fudged s at n e first.here

      pub head_there : head_size fudged ≤ remaining s at
      head_there = this.head_there

      pub values_there : n * 4 ≤ remaining s (at + head_size fudged)
      values_there = this.values_there

      long : points first.first ≡ n
      long = ap points this.is ∙ length-each _ n

      sizes : length (signals all) ≡ written + (n + length (signals first.others))
      sizes =
          let a : all ≡ w.done ++ (first.first ∷ first.others) = w.split ∙ ap (λ l. w.done ++ l) first.both in
          omega (arith, ap length (ap signals a ∙ signals_append w.done (first.first ∷ first.others)), length-append (signals w.done) (signals (first.first ∷ first.others)), length-append first.first.signal (signals first.others), long, w.written_is)

      pub fits : written + n ≤ length v
      fits = omega (arith, sizes, w.in_signal)

      -- one chunk more: each column by a store, and the signal through the tail of its slice
      turn : {x y z : ℕ} {W' : List ℕ} → x ≡ little_endian (bytes s at 4) → y ≡ n → z ≡ fudge_at fudged s at
          → (ys : List ℕ) → ys ≡ fitting (each (λ k. little_endian (bytes s (at + head_size fudged + k * 4) 4)) n) (take (length W - written) (drop written W))
          → W' ≡ take written W ++ (ys ++ drop (length W - written) (drop written W))
          → Writing count fudged s all b c f v (set B i x) (set C i y) (set F i z) W' (at + head_size fudged + n * 4) (written + n) (i + 1)
      turn {x} {y} {z} {W'} hx hy hz ys hs hw =
          let k = first.first in
          let values = each (λ j. little_endian (bytes s (at + head_size fudged + j * 4) 4)) n in
          let bin : x ≡ k.first_bin = hx ∙ sym (ap (λ (q : Chunk). q.first_bin) this.is) in
          let count_of : y ≡ points k = hy ∙ sym long in
          let fudge : z ≡ k.fudge = hz ∙ sym (ap (λ (q : Chunk). q.fudge) this.is) in
          let same-values : k.signal ≡ values = ap (λ (q : Chunk). q.signal) this.is in
          let tail : length values ≤ length (take (length W - written) (drop written W)) = simp (length-take, length-drop, length-each) (omega (arith, fits, w.same)) in
          let stored : W' ≡ over (signals (w.done ++ (k ∷ []))) v =
          hw
          ∙ over_tail (signals w.done) values v W ys written (length W - written) (sym w.written_is) (omega (arith, fits)) w.signal refl (hs ∙ fitting_all values _ tail)
          ∙ ap (λ l. over l v) (ap (λ l. signals w.done ++ l) (sym same-values) ∙ sym (signals_one w.done k)) in
          let size : length (signals (w.done ++ (k ∷ []))) ≡ written + n =
          omega (arith, ap length (signals_one w.done k), length-append (signals w.done) k.signal, w.written_is, long) in
          let next : first.next ≡ at + head_size fudged + n * 4 = this.end in
          record {
            done = w.done ++ (k ∷ []);
            rest = first.others;
            end = w.end;
            split = w.split ∙ ap (λ l. w.done ++ l) first.both ∙ sym (append_assoc w.done (k ∷ []) first.others);
            passed = omega (arith, length-append w.done (k ∷ []), w.passed);
            within = omega arith;
            there = rw next at first.there;
            written_is = sym size;
            bins = column_more (λ q. q.first_bin) w.done b B i x k w.bins w.passed bin (omega (arith, w.in_bins));
            counts = column_more points w.done c C i y k w.counts w.passed count_of (omega (arith, w.in_counts));
            fudges = column_more (λ q. q.fudge) w.done f F i z k w.fudges w.passed fudge (omega (arith, w.in_fudges));
            signal = stored;
            same = ap length stored ∙ length_over (signals (w.done ++ (k ∷ []))) v (omega (arith, size, fits));
            in_bins = w.in_bins;
            in_counts = w.in_counts;
            in_fudges = w.in_fudges;
            in_signal = w.in_signal;
          }

      -- the same, where the head's size was found
      pub turn_by : {x y z head : ℕ} {W' : List ℕ} → x ≡ little_endian (bytes s at 4) → y ≡ n → z ≡ fudge_at fudged s at → head ≡ head_size fudged
          → (ys : List ℕ) → ys ≡ fitting (each (λ k. little_endian (bytes s (at + head + k * 4) 4)) n) (take (length W - written) (drop written W))
          → W' ≡ take written W ++ (ys ++ drop (length W - written) (drop written W))
          → Writing count fudged s all b c f v (set B i x) (set C i y) (set F i z) W' (at + head + n * 4) (written + n) (i + 1)
      turn_by {x} {y} {z} {head} {W'} hx hy hz hh =
          subst
          (λ (k : ℕ).
          (ys : List ℕ) → ys ≡ fitting (each (λ j. little_endian (bytes s (at + k + j * 4) 4)) n) (take (length W - written) (drop written W))
          → W' ≡ take written W ++ (ys ++ drop (length W - written) (drop written W))
          → Writing count fudged s all b c f v (set B i x) (set C i y) (set F i z) W' (at + k + n * 4) (written + n) (i + 1))
          (sym hh)
          (turn hx hy hz)

-- the values of all chunks, counted chunk by chunk
pub signals_size : (cs : List Chunk) → length (signals cs) ≡ sum points cs
signals_size [] = refl
signals_size (k ∷ cs) = omega (arith, length-append k.signal (signals cs), signals_size cs)

pub written_all : {count : ℕ} {fudged : Bool} {s : List ℕ} {all : List Chunk} {b c f v B C F W : List ℕ} {at written i : ℕ}
    → Writing count fudged s all b c f v B C F W at written i → i ≡ count → (B ∷ C ∷ F ∷ W ∷ []) ≡ over_all (chunk_lists all) (b ∷ c ∷ f ∷ v ∷ [])
written_all w e = rw (all_done w e, ← w.bins.is, ← w.counts.is, ← w.fudges.is, ← w.signal)
