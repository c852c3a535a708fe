-- `tray_data::find_data` meets its contract: the format decides.
use mathlib.Core.Path.{sym, ap, ◌∙◌}
use Rattle.refusal.specs.Outcome.{on_ok}
use Rattle.packet_record.specs.Packet.{Contents}
use Rattle.packet_record.specs.declared.PacketPlaces.{PacketPlaces}
use Rattle.packet_places.specs.Places.{find_places}
use Rattle.tray_data.specs.Data.{packet_data, narrow_peaks, find_data}
use Rattle.tray_data.proofs.find_data.Goals as goal

pub returns-in-PacketHeader : goal.returns-in-PacketHeader
unfolding find_data
returns-in-PacketHeader c =
    let a = c.args in
    c.find_packet.ensures
    ∙ ap (λ at. on_ok (λ (v : PacketPlaces × Contents). packet_data v.0.profile v.0) (find_places at a.run.now)) c.saturating_add.ensures
    ∙ ap (λ f. find_data f a.«data» a.offset a.size a.run.now) (sym c.in-PacketHeader.is)

pub returns-in-FlatV63 : goal.returns-in-FlatV63
unfolding find_data
returns-in-FlatV63 c =
    let a = c.args in
    c.narrow_peaks.ensures ∙ ap (on_ok (narrow_peaks 8)) c.find_flat_peaks.ensures ∙ ap (λ f. find_data f a.«data» a.offset a.size a.run.now) (sym c.in-FlatV63.is)

pub returns-in-FlatV66 : goal.returns-in-FlatV66
unfolding find_data
returns-in-FlatV66 c =
    let a = c.args in
    c.narrow_peaks-in-FlatV66.ensures ∙ ap (on_ok (narrow_peaks 12)) c.find_srm_peaks.ensures ∙ ap (λ f. find_data f a.«data» a.offset a.size a.run.now) (sym c.in-FlatV66.is)
