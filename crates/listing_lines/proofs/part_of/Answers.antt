-- `listing_lines::part_of` meets its contract.
use Rattle.std.proofs.Common.{◌≡◌, refl}
use Rattle.refusal.specs.Number.{number, carried}
use Rattle.refusal.specs.declared.Part.{Part}
use Rattle.refusal.specs.declared.Refusal.{Refusal}
use Rattle.refusal.specs.declared.Refusal.TheVariants.{Short, UnrecognizedScanRecord, InvalidPrecursorMz, BodyTooShort, FlatWord, TooManyScans, NoSuchScan, NoRoom, MassOutOfRange, NotHeld}
use Rattle.listing_lines.specs.Lines.{part_in}
use Rattle.listing_lines.proofs.part_of.Goals as goal

-- a refusal that is not the first of them
other : (r : Refusal) → ((part : Part) → r ≡ Short part → ⊥) → 0 ≡ part_in (number r) (carried r)
other (Short part) h = absurd (h part refl)
other UnrecognizedScanRecord h = refl
other (InvalidPrecursorMz place bits) h = refl
other BodyTooShort h = refl
other FlatWord h = refl
other TooManyScans h = refl
other NoSuchScan h = refl
other NoRoom h = refl
other MassOutOfRange h = refl
other NotHeld h = refl

pub returns-in_default : goal.returns-in_default
returns-in_default c = other c.args.refusal c.in_default.not-Short

pub returns : goal.returns
returns c = rw c.in-Short.is c.number.ensures
