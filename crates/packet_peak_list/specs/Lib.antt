pub mod PeakList
