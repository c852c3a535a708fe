-- A loop that moves the listed ones among the first i pairs to the front of both slices, one turn after the other.
use mathlib.Core.Path.{◌≡◌, refl, sym, ap, ◌∙◌}
use mathlib.Core.Bool.{true, false}
use mathlib.Core.List.{List, zip, map-append}
use Prim.Native.Nat.{ℕ, ◌+◌, ◌≤◌, ◌<◌, min}
use native.Mathlib.Omega.{arith}
use lib.Ieee.{Float}
use lib.ListN.{length, get_or, set, take, length-append, length-map, length-set}
use Rattle.lists.specs.Written.{each, over}
use Rattle.lists.specs.Left.{firsts, seconds, columns}
use Rattle.lists.proofs.Filter.{filter-in, filter-out}
use Rattle.lists.proofs.Laws.{over_none, store_at}
use Rattle.scan_format.specs.declared.ScanDataFormat.{ScanDataFormat}
use Rattle.pairs.specs.Pairs.{Pair}
use Rattle.listing_pairs.specs.Listed.{is_listed, listed_pairs}
use Rattle.listing_pairs.proofs.Laws.{beyond, front, filter-length, zip_length, zip-each}

module _ (format : ScanDataFormat) (mz intensity : List Float) (d : Float) where
  abbrev pair_at : ℕ → Pair
  pair_at i = (get_or mz i d, get_or intensity i d)

  -- those listed among the first i
  abbrev listed_to : ℕ → List Pair
  listed_to i = listed_pairs format (each pair_at i)

  pub record Keeping (X Y : List Float) (kept i : ℕ) : Type 0 where
    pub count : kept ≡ length (listed_to i)
    pub masses : X ≡ over (firsts (listed_to i)) mz
    pub intensities : Y ≡ over (seconds (listed_to i)) intensity
    pub same_masses : length X ≡ length mz
    pub same_intensities : length Y ≡ length intensity
    pub within : kept ≤ i

  pub keep_none : Keeping mz intensity 0 0
  unfolding each
  keep_none = record { count = refl; masses = rw over_none; intensities = rw over_none; same_masses = refl; same_intensities = refl; within = omega arith }

  module _ {X Y : List Float} {kept i : ℕ} (inv : Keeping X Y kept i) where
    -- the next pair stands where it stood
    pub next_mass : get_or X i d ≡ get_or mz i d
    next_mass = beyond (firsts (listed_to i)) mz X i d inv.masses (rw length-map (omega (arith, inv.count, inv.within)))

    pub next_intensity : get_or Y i d ≡ get_or intensity i d
    next_intensity = beyond (seconds (listed_to i)) intensity Y i d inv.intensities (rw length-map (omega (arith, inv.count, inv.within)))

    pub keep_in : is_listed format (get_or mz i d) ≡ true → i < length mz → i < length intensity
        → Keeping (set X kept (get_or X i d)) (set Y kept (get_or Y i d)) (kept + 1) (i + 1)
    keep_in h m n =
        let one = filter-in (λ (p : Pair). is_listed format p.0) pair_at i h in
        record {
          count = rw (one, length-append) (ap (λ (k : ℕ). k + 1) inv.count);
          masses = rw (one, map-append) (store_at (firsts (listed_to i)) mz X kept _ _ inv.masses (length-map (listed_to i) _ ∙ sym inv.count) next_mass (omega (arith, inv.within)));
          intensities = rw (one, map-append) (store_at (seconds (listed_to i)) intensity Y kept _ _ inv.intensities (length-map (listed_to i) _ ∙ sym inv.count) next_intensity (omega (arith, inv.within)));
          same_masses = simp length-set inv.same_masses;
          same_intensities = simp length-set inv.same_intensities;
          within = omega (arith, inv.within);
        }

    pub keep_out : is_listed format (get_or mz i d) ≡ false → Keeping X Y kept (i + 1)
    keep_out h =
        let none = filter-out (λ (p : Pair). is_listed format p.0) pair_at i h in
        record {
          count = rw none inv.count;
          masses = rw none inv.masses;
          intensities = rw none inv.intensities;
          same_masses = inv.same_masses;
          same_intensities = inv.same_intensities;
          within = omega (arith, inv.within);
        }

    -- all pairs were looked at
    pub keep_all : i ≡ min (length mz) (length intensity)
        → (kept ≡ length (listed_pairs format (zip mz intensity))) × ((X, Y) ≡ columns (listed_pairs format (zip mz intensity)) (mz, intensity))
    keep_all e =
        let all : listed_to i ≡ listed_pairs format (zip mz intensity) = ap (listed_pairs format) (zip-each mz intensity i d d e) in
        (inv.count ∙ ap length all, rw (inv.masses, inv.intensities, all))

-- ---- what `keep_listed` leaves at the fronts
pub listed_length : (format : ScanDataFormat) (ps : List Pair) → length (listed_pairs format ps) ≤ length ps
listed_length format ps = filter-length (λ (p : Pair). is_listed format p.0) ps

pub record Kept (ps : List Pair) (X Y : List Float) (n : ℕ) : Type 0 where
  pub in_masses : n ≤ length X
  pub in_intensities : n ≤ length Y
  pub masses : take n X ≡ firsts ps
  pub intensities : take n Y ≡ seconds ps

pub fronts : (format : ScanDataFormat) (mz intensity : List Float) {n : ℕ} {X Y : List Float} → n ≡ length (listed_pairs format (zip mz intensity))
    → (X, Y) ≡ columns (listed_pairs format (zip mz intensity)) (mz, intensity) → Kept (listed_pairs format (zip mz intensity)) X Y n
fronts format mz intensity count left =
    let ps = listed_pairs format (zip mz intensity) in
    let most = listed_length format (zip mz intensity) in
    let both = zip_length mz intensity in
    let m = length-map ps (λ (p : Pair). p.0) in
    let i = length-map ps (λ (p : Pair). p.1) in
    let fm = front (firsts ps) mz (count ∙ sym m) (omega (arith, m, most, both.0)) (ap (λ (z : List Float × List Float). z.0) left) in
    let fi = front (seconds ps) intensity (count ∙ sym i) (omega (arith, i, most, both.1)) (ap (λ (z : List Float × List Float). z.1) left) in
    record { in_masses = fm.0; in_intensities = fi.0; masses = fm.1; intensities = fi.1 }
