-- `tray_data::data_pairs` meets its contract: a profile's pairs or those of peaks.
use Rattle.pairs.specs.Pairs.{profile_pairs}
use Rattle.tray_data.specs.Data.{pairs}
use Rattle.tray_data.proofs.data_pairs.Goals as goal

pub returns-in-Profile : goal.returns-in-Profile
unfolding pairs profile_pairs
returns-in-Profile c = rw c.in-Profile.is c.to_mz_intensity.ensures

pub returns-in-Peaks : goal.returns-in-Peaks
unfolding pairs
returns-in-Peaks c = rw c.in-Peaks.is c.peak_pairs.ensures
