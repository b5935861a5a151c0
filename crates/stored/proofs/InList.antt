-- What of a list that fits stands in the file, and how large its figures are.
use Rattle.std.proofs.Common.{◌≡◌, List, ℕ, ◌≤◌, ◌<◌, length, arith}
use Rattle.forest.specs.LabelFile.{count_at, time_at, energy_at, list_end, count_end, time_end, energy_end}
use Rattle.stored.specs.ListForm.{most_count, most_figure}
use Rattle.stored.specs.working.Formed.{ListFits}

-- the count does
pub count_inside : {labels : List ℕ} {at : ℕ} → ListFits labels at → count_end at ≤ length labels
unfolding list_end
count_inside fits = omega (arith, fits.inside)

-- so does every entry's time
pub time_inside : {labels : List ℕ} {at j : ℕ} → ListFits labels at → j < count_at labels at → time_end labels at j ≤ length labels
unfolding list_end
time_inside fits h = omega (arith, fits.inside)

-- and its energy
pub energy_inside : {labels : List ℕ} {at j : ℕ} → ListFits labels at → j < count_at labels at → energy_end labels at j ≤ length labels
unfolding list_end
energy_inside fits h = omega (arith, fits.inside)

-- it is small
pub count_small : {labels : List ℕ} {at count : ℕ} → ListFits labels at → count ≡ count_at labels at → count ≤ most_count
count_small fits is = omega (arith, fits.short)

-- and so are its figures
pub time_small : {labels : List ℕ} {at j time : ℕ} → ListFits labels at → j < count_at labels at → time ≡ time_at labels at j → time ≤ most_figure
time_small {j = j} fits h is = omega (arith, (fits.fitting_time j h).1)

pub energy_small : {labels : List ℕ} {at j energy : ℕ} → ListFits labels at → j < count_at labels at → energy ≡ energy_at labels at j → energy ≤ most_figure
energy_small {j = j} fits h is = omega (arith, (fits.fitting_energy j h).1)
