-- The enumerators of types.rs and their numbers, family by family.
use Rattle.std.specs.Prelude.{ℕ}
use Rattle.codes.specs.declared.analyzer.Analyzer.{Analyzer}
use Rattle.codes.specs.declared.analyzer.Analyzer.TheVariants.{ITMS, TQMS, SQMS, TOFMS, FTMS, Sector}
use Rattle.codes.specs.declared.polarity.Polarity.{Polarity}
use Rattle.codes.specs.declared.polarity.Polarity.TheVariants.{Negative, Positive}
use Rattle.codes.specs.declared.scan_mode.ScanMode.{ScanMode}
use Rattle.codes.specs.declared.scan_mode.ScanMode.TheVariants.{Centroid, Profile}
use Rattle.codes.specs.declared.ms_power.MsPower.{MsPower}
use Rattle.codes.specs.declared.ms_power.MsPower.TheVariants.{Undefined, Ms1, Ms2, Ms3, Ms4, Ms5, Ms6, Ms7, Ms8}
use Rattle.codes.specs.declared.scan_type.ScanType.{ScanType}
use Rattle.codes.specs.declared.scan_type.ScanType.TheVariants as scan_type
use Rattle.codes.specs.declared.ionization.Ionization.{Ionization}
use Rattle.codes.specs.declared.ionization.Ionization.TheVariants.{EI, CI, FABI, ESI, APCI, NSI, TSI, FDI, MALDI, GDI}
use Rattle.codes.specs.declared.generic_type.GenericType.{GenericType}
use Rattle.codes.specs.declared.generic_type.GenericType.TheVariants.{Gap, Int8, Bool, BoolYesNo, BoolOnOff, UInt8, Int16, UInt16, Int32, UInt32, Float32, Float64, AsciiString, WideString}

abbrev pub analyzer_code : Analyzer → ℕ
analyzer_code = elim [ ITMS ↦ 0 | TQMS ↦ 1 | SQMS ↦ 2 | TOFMS ↦ 3 | FTMS ↦ 4 | Sector ↦ 5 ]

abbrev pub polarity_code : Polarity → ℕ
polarity_code = elim [ Negative ↦ 0 | Positive ↦ 1 ]

abbrev pub scan_mode_code : ScanMode → ℕ
scan_mode_code = elim [ Centroid ↦ 0 | Profile ↦ 1 ]

abbrev pub ms_power_code : MsPower → ℕ
ms_power_code = elim [ Undefined ↦ 0 | Ms1 ↦ 1 | Ms2 ↦ 2 | Ms3 ↦ 3 | Ms4 ↦ 4 | Ms5 ↦ 5 | Ms6 ↦ 6 | Ms7 ↦ 7 | Ms8 ↦ 8 ]

abbrev pub scan_type_code : ScanType → ℕ
scan_type_code = elim [ scan_type.Full ↦ 0 | scan_type.Zoom ↦ 1 | scan_type.Sim ↦ 2 | scan_type.Srm ↦ 3 | scan_type.Crm ↦ 4 | scan_type.Undefined ↦ 5 | scan_type.Q1 ↦ 6 | scan_type.Q3 ↦ 7 ]

abbrev pub ionization_code : Ionization → ℕ
ionization_code = elim [ EI ↦ 0 | CI ↦ 1 | FABI ↦ 2 | ESI ↦ 3 | APCI ↦ 4 | NSI ↦ 5 | TSI ↦ 6 | FDI ↦ 7 | MALDI ↦ 8 | GDI ↦ 9 ]

abbrev pub generic_type_code : GenericType → ℕ
generic_type_code = elim [ Gap ↦ 0 | Int8 ↦ 1 | Bool ↦ 2 | BoolYesNo ↦ 3 | BoolOnOff ↦ 4 | UInt8 ↦ 5 | Int16 ↦ 6 | UInt16 ↦ 7 | Int32 ↦ 8 | UInt32 ↦ 9 | Float32 ↦ 10 | Float64 ↦ 11 | AsciiString ↦ 12 | WideString ↦ 13 ]
