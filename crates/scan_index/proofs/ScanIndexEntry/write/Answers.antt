-- `ScanIndexEntry::write` meets its contract: the two tests decide what is answered and written.
use mathlib.Core.Path.{sym, ◌∙◌}
use lib.Dec.{leb}
use borrow.Author.Tests.{le-leb, lt-leb}
use Rattle.layout.specs.Layout.{written}
use Rattle.writer.proofs.Writing.{not_held, no_room, all_written}
use Rattle.scan_index.specs.Entry.{entry_layout, entry_size, write_entry}
use Rattle.scan_index.proofs.Stored.{entry_bytes}
use Rattle.scan_index.proofs.ScanIndexEntry.write.Goals as goal

pub returns : goal.returns
unfolding write_entry
returns c =
    let a = c.args in
    all_written _ (leb (entry_size a.version)) (written (entry_layout a.version) a.self) a.out.now (sym c.offset_fits.ensures ∙ c.if-not-offset_fits.false)
    (rw (← c.min_size_for_version-size.ensures) (le-leb _ _ c.if-size-out.false))
    (entry_bytes a.version a.self ∙ sym c.min_size_for_version-size.ensures) c.if-size-out.false c.store_fields.ensures

pub returns-then-size-out : goal.returns-then-size-out
unfolding write_entry
returns-then-size-out c =
    let a = c.args in
    no_room _ (leb (entry_size a.version)) (written (entry_layout a.version) a.self) a.out.now (sym c.offset_fits.ensures ∙ c.if-not-offset_fits.false)
    (rw (← c.min_size_for_version-size.ensures) (lt-leb _ _ c.if-size-out.true))

pub returns-then-not-offset_fits : goal.returns-then-not-offset_fits
unfolding write_entry
returns-then-not-offset_fits c =
    let a = c.args in
    not_held _ (leb (entry_size a.version)) (written (entry_layout a.version) a.self) a.out.now (sym c.offset_fits.ensures ∙ c.if-not-offset_fits.true)
