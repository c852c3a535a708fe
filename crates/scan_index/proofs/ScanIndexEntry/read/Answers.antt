-- `ScanIndexEntry::read` meets its contract: an entry is one test, against the bytes left, and a value, which `fields` returns.
use mathlib.Core.Path.{ap}
use native.Mathlib.Omega.{arith}
use Rattle.refusal.specs.Outcome.{ok}
use Rattle.parser.proofs.Records.{record_short, record_whole}
use Rattle.scan_index.specs.Entry.{entry, entry_size, read_entry}
use Rattle.scan_index.proofs.Size.{entry_least, entry_sized}
use Rattle.scan_index.proofs.ScanIndexEntry.read.Goals as goal

pub fields-requires : goal.fields-requires
fields-requires c = omega (arith, entry_least c.args.version)

pub returns : goal.returns
unfolding read_entry
returns c =
    let v = c.args.version in
    record_whole 2 _ (entry v) (λ e _. ok e) (entry_size v) (entry_sized v) _ (omega arith) (ap ok c.fields.ensures)

pub returns-then-remaining-min_size_for_version : goal.returns-then-remaining-min_size_for_version
unfolding read_entry
returns-then-remaining-min_size_for_version c =
    let v = c.args.version in
    record_short 2 _ (entry v) (λ e _. ok e) (entry_size v) (entry_sized v) _ (omega arith)
