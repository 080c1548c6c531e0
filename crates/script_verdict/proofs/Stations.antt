-- The station that a row says is determined, and so is why it says none.
use Rattle.std.proofs.Common.{◌≡◌, ℕ, List, [], ◌∷◌, ℤ, sym, refl, ap, ◌∙◌}
use Rattle.table.specs.Cells.{Cell}
use Rattle.table.specs.Numbers.{Writes}
use Rattle.table.specs.declared.fault.TextFault.{TextFault}
use Rattle.records.proofs.Progress.{written_length}
use Rattle.edge.specs.declared.station.Station.{Station}
use Rattle.script.specs.Stations.{StationSaid, StationUnsaid}
use Rattle.script.specs.Stations as stations
use Rattle.records.proofs.Unique.{whole_one, written_unique}
use Rattle.script_verdict.proofs.Entries.{SaysOne}
use Rattle.script_verdict.proofs.Numbers.{missed_unique, missed_not}

abbrev station_of : ℤ → ℤ → Station
station_of p o = record { place = p; ordinate = o }

station_unique : (cs : List Cell) (d e : Station) → StationSaid cs d → StationSaid cs e → d ≡ e
station_unique cs d e a b =
    let same = written_unique Writes whole_one cs (d.place ∷ d.ordinate ∷ []) (e.place ∷ e.ordinate ∷ []) a b in
    let place : d.place ≡ e.place = cc in
    let ordinate : d.ordinate ≡ e.ordinate = cc in
    ap (λ (p : ℤ). station_of p d.ordinate) place ∙ ap (station_of e.place) ordinate

fault_unique : {rec : ℕ} {cs : List Cell} {s t : TextFault} → StationUnsaid rec cs s → StationUnsaid rec cs t → s ≡ t
fault_unique (stations.count h) (stations.count k) = refl
fault_unique (stations.count h) (stations.number t k m) = absurd (h k)
fault_unique (stations.number s h m) (stations.count k) = absurd (k h)
fault_unique {rec} {cs} (stations.number s h m) (stations.number t k n) = missed_unique Writes cs rec 1 s t m n

station_not : {rec : ℕ} {cs : List Cell} {t : TextFault} (e : Station) → StationSaid cs e → StationUnsaid rec cs t → ⊥
station_not {cs = cs} e a (stations.count h) = h (sym (written_length Writes cs (e.place ∷ e.ordinate ∷ []) a))
station_not {rec} {cs} e a (stations.number t h m) = missed_not Writes cs rec 1 (e.place ∷ e.ordinate ∷ []) t a m

pub station_one : SaysOne StationSaid StationUnsaid
station_one = record { entry = station_unique; fault = λ rec cs s t a b. fault_unique a b; never = λ rec cs e t a b. station_not e a b }
