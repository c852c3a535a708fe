-- `tray_header::fields` meets its contract: each field is the number at its place.
use Rattle.tray_header.specs.Header.{header}
use Rattle.tray_header.proofs.fields.Goals as goal

pub returns : goal.returns
unfolding header
returns c = cc
