-- A refusal is known by its number and what it carries: a promise that is stated through `outcome_of_refusal` leaves one refusal.
use Rattle.std.specs.Prelude.{Ok, Err, Result}
use mathlib.Core.Path.{◌≡◌, refl, sym, ◌∙◌, ap}
use Prim.Native.Nat.{ℕ}
use mathlib.Core.Bool.{cond}
use mathlib.Core.List.{List}
use lib.ListN.{get_or}
use lib.Dec.{eqb}
use Rattle.refusal.specs.declared.Part.{Part}
use Rattle.refusal.specs.declared.Part.TheVariants.{Header, Index, Event, Data}
use Rattle.refusal.specs.declared.Refusal.{Refusal}
use Rattle.refusal.specs.declared.Refusal.TheVariants.{Short, UnrecognizedScanRecord, InvalidPrecursorMz, BodyTooShort, FlatWord, TooManyScans, NoSuchScan, NoRoom, MassOutOfRange, NotHeld}
use Rattle.refusal.specs.Number.{part_number, number, carried, outcome_of_refusal, outcome_of}

-- the refusal of a number and what it carries
part_back : ℕ → Part
part_back p = cond (eqb p 1) Header (cond (eqb p 2) Index (cond (eqb p 3) Event Data))

back : ℕ → List ℕ → Refusal
back n carries =
    cond (eqb n 1) (Short (part_back (get_or carries 0 0)))
    (cond (eqb n 2) UnrecognizedScanRecord
    (cond (eqb n 3) (InvalidPrecursorMz (get_or carries 0 0) (get_or carries 1 0))
    (cond (eqb n 4) BodyTooShort
    (cond (eqb n 5) FlatWord
    (cond (eqb n 6) TooManyScans
    (cond (eqb n 7) NoSuchScan
    (cond (eqb n 8) NoRoom
    (cond (eqb n 9) MassOutOfRange
    NotHeld))))))))

part_back-part_number : (p : Part) → part_back (part_number p) ≡ p
unfolding part_back
part_back-part_number Header = refl
part_back-part_number Index = refl
part_back-part_number Event = refl
part_back-part_number Data = refl

number_back : (r : Refusal) → back (number r) (carried r) ≡ r
unfolding back
number_back (Short part) = ap Short (part_back-part_number part)
number_back UnrecognizedScanRecord = refl
number_back (InvalidPrecursorMz place bits) = refl
number_back BodyTooShort = refl
number_back FlatWord = refl
number_back TooManyScans = refl
number_back NoSuchScan = refl
number_back NoRoom = refl
number_back MassOutOfRange = refl
number_back NotHeld = refl

number_one : (a b : Refusal) → number a ≡ number b → carried a ≡ carried b → a ≡ b
number_one a b p q =
    let same : back (number a) (carried a) ≡ back (number b) (carried b) = rw (p, q) in
    sym (number_back a) ∙ same ∙ number_back b

-- the same of an outcome, which each answer's own law cites
pub refusal_one : {A : Type 0} (a b : Refusal) → outcome_of_refusal {A = A} a ≡ outcome_of_refusal b → a ≡ b
refusal_one a b h =
    let n : number a ≡ number b = cc in
    let c : carried a ≡ carried b = cc in
    number_one a b n c

-- and of an answer
pub answer_one : {A : Type 0} (a b : Result A Refusal) → outcome_of a ≡ outcome_of b → a ≡ b
answer_one (Ok x) (Ok y) h = cc
answer_one (Ok x) (Err q) h = cc
answer_one (Err r) (Ok y) h = cc
answer_one {A} (Err r) (Err q) h = ap Err (refusal_one {A = A} r q h)
