-- Which error of the hex text is which here.
use Rattle.hex.specs.declared.error.FromHexError.{FromHexError}
use Rattle.hex.specs.declared.error.FromHexError.TheVariants as hex
use Rattle.probe_text.specs.declared.error.ProbeError.{ProbeError}
use Rattle.probe_text.specs.declared.error.ProbeError.TheVariants.{Malformed, OutOfMemory}

abbrev pub of_hex : FromHexError → ProbeError
of_hex hex.OutOfMemory = OutOfMemory
of_hex _ = Malformed
