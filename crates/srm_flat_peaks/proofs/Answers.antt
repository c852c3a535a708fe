-- What a flat record answers, by what its attempts come to.
use mathlib.Core.Path.{◌≡◌, refl, ap, sym}
use Prim.Native.Nat.{ℕ, ◌*◌, ◌-◌, ◌≤◌, ◌<◌}
use mathlib.Core.Bool.{Bool, true, false, cond, ◌||◌}
use mathlib.Core.List.{List, [], ◌∷◌}
use lib.Dec.{leb, ltb}
use lib.ListN.{length}
use borrow.Author.Tests.{le-leb, lt-leb}
use Rattle.std.specs.Prelude.{Option, Some, None, Result, Ok, Err}
use Rattle.std.specs.Option.{ok_or}
use Rattle.refusal.specs.declared.Refusal.{Refusal}
use Rattle.refusal.specs.declared.Refusal.TheVariants.{UnrecognizedScanRecord}
use Rattle.refusal.specs.Number.{outcome_of_refusal, outcome_of}
use Rattle.refusal.specs.Outcome.{Outcome, ok, refused}
use Rattle.refusal.proofs.Outcomes.{ok_not_refused, refused_not_ok}
use Rattle.lists.specs.Left.{pairs_if_fit}
use Rattle.lists.proofs.Laws.{each_none}
use Rattle.parser.specs.Parser.{done, seek, Parsed, short, parsed, remaining, within, parse, saturating_add}
use Rattle.parser.specs.Call.{onward, outcome, single}
use Rattle.parser.proofs.Prefix.{after, parse_bind}
use Rattle.peaks.specs.Peaks.{Peak, peaks_at}
use Rattle.peaks.proofs.Columns.{length-peaks}
use Rattle.srm_flat_peaks.specs.Flat.{looks_valid, Attempt, accepted, passed_over, peaks_from, attempt, or_else, attempts, flat_peaks, of_accepted, read_flat_peaks, find_flat_peaks}
use Rattle.srm_flat_peaks.specs.Internal.{attempt_answer}
use Rattle.srm_flat_peaks.proofs.Attempts.{parse_from}

-- what an attempt comes to: peaks at a place, none, or the refusal of a short run
abbrev Attempted : Type 0
Attempted = Result (Option (ℕ × ℕ)) Refusal

-- ---- the two attempts
module _ (end cum_end data_size : ℕ) (s : List ℕ) where
  -- an attempt goes to its own place
  anywhere : (subtract p q : ℕ) → attempt_answer (parse (attempt end cum_end data_size subtract) s p) ≡ attempt_answer (parse (attempt end cum_end data_size subtract) s q)
  unfolding attempt parse
  anywhere subtract p q = go (leb data_size subtract || ltb cum_end ((data_size - subtract) * 9)) (end - (data_size - subtract) * 9) (data_size - subtract)
    where
      go : (b : Bool) (start n : ℕ)
          → attempt_answer (parse (cond b (done passed_over) (seek start (peaks_from start n))) s p)
          ≡ attempt_answer (parse (cond b (done passed_over) (seek start (peaks_from start n))) s q)
      go true start n = refl
      go false start n = refl

  -- the second, where the first was passed over
  abbrev or_next : Attempted → Attempted → Attempted
  or_next (Ok None) j = j
  or_next (Ok (Some found)) j = Ok (Some found)
  or_next (Err r) j = Err r

  both : (at : ℕ) → or_next (attempt_answer (parse (attempt end cum_end data_size 1) s at)) (attempt_answer (parse (attempt end cum_end data_size 2) s at))
      ≡ attempt_answer (parse (attempts end cum_end data_size) s at)
  unfolding attempts parse
  both at = rw parse_bind (go (parse (attempt end cum_end data_size 1) s at))
    where
      go : (o : Parsed Attempt) → or_next (attempt_answer o) (attempt_answer (parse (attempt end cum_end data_size 2) s at))
          ≡ attempt_answer (after o (λ a next. parse (or_else (attempt end cum_end data_size 2) a) s next))
      go short = refl
      go (parsed (accepted place peaks) next) = refl
      go (parsed passed_over next) = anywhere 2 at next

  -- of an attempt that decides, and of one that is passed over
  pub by_both : (at : ℕ) (i j : Attempted) → i ≡ attempt_answer (parse (attempt end cum_end data_size 1) s at) → j ≡ attempt_answer (parse (attempt end cum_end data_size 2) s at)
      → or_next i j ≡ attempt_answer (parse (attempts end cum_end data_size) s at)
  by_both at i j e f = rw (e, f) (both at)

-- ---- what is found
abbrev found_at : ℕ → List Peak → Outcome (ℕ × ℕ)
found_at place peaks = ok (place, length peaks)

-- what a call answers of an attempt
abbrev pub outcome_of_attempt : Attempted → Outcome (ℕ × ℕ)
outcome_of_attempt (Ok (Some found)) = ok found
outcome_of_attempt (Ok None) = refused 2 []
outcome_of_attempt (Err r) = outcome_of_refusal r

-- no peaks that were accepted are refusal 2
pub or_no_peaks : (o : Option (ℕ × ℕ)) → outcome_of (ok_or o UnrecognizedScanRecord) ≡ outcome_of_attempt (Ok o)
or_no_peaks None = refl
or_no_peaks (Some found) = refl

outcome_by : (o : Parsed Attempt) → outcome_of_attempt (attempt_answer o) ≡ onward 4 o (λ a _. of_accepted found_at a)
outcome_by short = refl
outcome_by (parsed (accepted place peaks) next) = refl
outcome_by (parsed passed_over next) = refl

module _ (place cum_end data_size : ℕ) (s : List ℕ) (end : ℕ) (is : end ≡ saturating_add place cum_end) where
  found_by : find_flat_peaks place cum_end data_size s ≡ outcome_of_attempt (attempt_answer (parse (flat_peaks end cum_end data_size) s end))
  unfolding find_flat_peaks outcome
  found_by = rw (← is) (sym (outcome_by (parse (flat_peaks end cum_end data_size) s end)))

  pub no_peaks : data_size ≤ 1 → ok (end, 0) ≡ find_flat_peaks place cum_end data_size s
  unfolding flat_peaks parse
  no_peaks t = rw (found_by, le-leb _ _ t)

  pub by_attempts : 1 < data_size → (j : Attempted) → j ≡ attempt_answer (parse (attempts end cum_end data_size) s end) → outcome_of_attempt j ≡ find_flat_peaks place cum_end data_size s
  unfolding flat_peaks
  by_attempts t j e = rw (found_by, lt-leb _ _ t, e)

-- ---- the peaks that are found are handed out
-- accepted peaks stand where it says
abbrev Stands : List ℕ → Parsed Attempt → Type 0
Stands s short = Unit {0}
Stands s (parsed (accepted place peaks) next) = peaks ≡ peaks_at false 8 s place (length peaks)
Stands s (parsed passed_over next) = Unit {0}

module _ (s : List ℕ) where
  from_stands : (place n : ℕ) → Stands s (parse (peaks_from place n) s place)
  from_stands place n =
      rw (parse_from s place n place)
      (go (leb (n * 8) (remaining s place)) (looks_valid (peaks_at false 8 s place n)) _)
    where
      go : (a b : Bool) (next : ℕ) → Stands s (within a (parsed (cond b (accepted place (peaks_at false 8 s place n)) passed_over) next))
      go false b next = tt
      go true false next = tt
      go true true next = rw (length-peaks false 8 s place n)

  attempt_stands : (end cum_end data_size subtract at : ℕ) → Stands s (parse (attempt end cum_end data_size subtract) s at)
  unfolding attempt parse
  attempt_stands end cum_end data_size subtract at = go (leb data_size subtract || ltb cum_end ((data_size - subtract) * 9)) (end - (data_size - subtract) * 9) (data_size - subtract)
    where
      go : (b : Bool) (start n : ℕ) → Stands s (parse (cond b (done passed_over) (seek start (peaks_from start n))) s at)
      go true start n = tt
      go false start n = from_stands start n

  attempts_stand : (end cum_end data_size at : ℕ) → Stands s (parse (attempts end cum_end data_size) s at)
  unfolding attempts parse
  attempts_stand end cum_end data_size at = rw parse_bind (go (parse (attempt end cum_end data_size 1) s at) (attempt_stands end cum_end data_size 1 at))
    where
      go : (o : Parsed Attempt) → Stands s o → Stands s (after o (λ a next. parse (or_else (attempt end cum_end data_size 2) a) s next))
      go short h = tt
      go (parsed (accepted place peaks) next) h = h
      go (parsed passed_over next) h = attempt_stands end cum_end data_size 2 next

  flat_stands : (end cum_end data_size : ℕ) → Stands s (parse (flat_peaks end cum_end data_size) s end)
  unfolding flat_peaks parse peaks_at
  flat_stands end cum_end data_size = go (leb data_size 1)
    where
      go : (b : Bool) → Stands s (parse (cond b (done (accepted end [])) (attempts end cum_end data_size)) s end)
      go true = each_none _
      go false = attempts_stand end cum_end data_size end

-- whatever follows of peaks that were found, or of a refusal
module _ {A : Type 0} (follow : List Peak → Outcome A) (place cum_end data_size : ℕ) (s : List ℕ) where
  pub then_found : (p n : ℕ) → ok (p, n) ≡ find_flat_peaks place cum_end data_size s
      → follow (peaks_at false 8 s p n) ≡ outcome (single 4 (saturating_add place cum_end) (flat_peaks (saturating_add place cum_end) cum_end data_size) (λ v _. of_accepted (λ _ peaks. follow peaks) v)) s
  unfolding find_flat_peaks outcome
  then_found p n =
      let end = saturating_add place cum_end in
      go (parse (flat_peaks end cum_end data_size) s end) (flat_stands s end cum_end data_size)
    where
      go : (o : Parsed Attempt) → Stands s o → ok (p, n) ≡ onward 4 o (λ v _. of_accepted found_at v)
          → follow (peaks_at false 8 s p n) ≡ onward 4 o (λ v _. of_accepted (λ _ peaks. follow peaks) v)
      go short h e = ok_not_refused e
      go (parsed (accepted q peaks) next) h e =
          let pair : ◌≡◌ {A = ℕ × ℕ} (p, n) (q, length peaks) = cc in
          let here : p ≡ q = ap (λ (z : ℕ × ℕ). z.0) pair in
          let count : n ≡ length peaks = ap (λ (z : ℕ × ℕ). z.1) pair in
          rw (here, count) (ap follow (sym h))
      go (parsed passed_over next) h e = ok_not_refused e

  pub then_refused : {number : ℕ} {carries : List ℕ} → refused number carries ≡ find_flat_peaks place cum_end data_size s
      → refused number carries ≡ outcome (single 4 (saturating_add place cum_end) (flat_peaks (saturating_add place cum_end) cum_end data_size) (λ v _. of_accepted (λ _ peaks. follow peaks) v)) s
  unfolding find_flat_peaks outcome
  then_refused {number} {carries} =
      let end = saturating_add place cum_end in
      go (parse (flat_peaks end cum_end data_size) s end)
    where
      go : (o : Parsed Attempt) → refused number carries ≡ onward 4 o (λ v _. of_accepted found_at v)
          → refused number carries ≡ onward 4 o (λ v _. of_accepted (λ _ peaks. follow peaks) v)
      go short e = let q : number ≡ 1 = cc in let r : carries ≡ 4 ∷ [] = cc in rw (q, r)
      go (parsed (accepted q peaks) next) e = refused_not_ok e
      go (parsed passed_over next) e = let q : number ≡ 2 = cc in let r : carries ≡ [] = cc in rw (q, r)

module _ (place cum_end data_size : ℕ) (s : List ℕ) (m a : ℕ) where
  pub read_found : (p n : ℕ) → ok (p, n) ≡ find_flat_peaks place cum_end data_size s → pairs_if_fit m a (peaks_at false 8 s p n) ≡ read_flat_peaks m a place cum_end data_size s
  unfolding read_flat_peaks
  read_found = then_found (pairs_if_fit m a) place cum_end data_size s

  pub read_refused : {number : ℕ} {carries : List ℕ} → refused number carries ≡ find_flat_peaks place cum_end data_size s → refused number carries ≡ read_flat_peaks m a place cum_end data_size s
  unfolding read_flat_peaks
  read_refused = then_refused (pairs_if_fit m a) place cum_end data_size s
