-- The loads of each owner and their factors, in the fine unit: one forty-millionth of a kN times an ordinate unit.
use Rattle.std.specs.Prelude.{ℕ, ◌*◌, ◌/◌, List, codes}
use Rattle.model.specs.declared.owners.Owner.{Owner}
use Rattle.model.specs.declared.owners.Owner.TheVariants.{Remaining, Lane1, Lane2, Lane3, Other}
use Rattle.model.specs.declared.weights.LoadKind.{LoadKind}
use Rattle.model.specs.declared.weights.LoadKind.TheVariants.{Characteristic, Frequent}
use Rattle.model.specs.declared.weights.Factors.{Factors}

-- the word of a kind of load
abbrev pub kind_word : LoadKind → List ℕ
kind_word Characteristic = codes "characteristic"
kind_word Frequent = codes "frequent"

-- the load of an axle, in kN
abbrev pub axle_load : Owner → ℕ
axle_load Remaining = 0
axle_load Lane1 = 300
axle_load Lane2 = 200
axle_load Lane3 = 100
axle_load Other = 0

-- the uniform load, in tenths of a kN to the square metre
abbrev pub uniform_tenths : Owner → ℕ
uniform_tenths Remaining = 25
uniform_tenths Lane1 = 90
uniform_tenths Lane2 = 25
uniform_tenths Lane3 = 25
uniform_tenths Other = 25

-- the part of a tandem that is frequent, in hundredths
abbrev pub tandem_part : LoadKind → ℕ
tandem_part Characteristic = 100
tandem_part Frequent = 75

-- the part of a uniform load that is frequent, in hundredths
abbrev pub uniform_part : LoadKind → ℕ
uniform_part Characteristic = 100
uniform_part Frequent = 40

-- Four wheels bear an axle, a factor is in hundredths and T counts 10,000 for one: 40,000,000 / (4 · 100 · 10,000) = 10 to a kN.
abbrev pub tandem_load : LoadKind → Owner → ℕ
tandem_load kind o = 10 * axle_load o * tandem_part kind / 100

-- A slice is 50 mm wide, A is twice the area along it in mm, and a factor is in hundredths: 40,000,000 · 0.05 / (2 · 1,000 · 100) = 10 to a kN/m².
abbrev pub uniform_load : LoadKind → Owner → ℕ
uniform_load kind o = uniform_tenths o * uniform_part kind / 100

abbrev pub tandem_factor : Factors → Owner → ℕ
tandem_factor f Remaining = 0
tandem_factor f Lane1 = f.tandem1
tandem_factor f Lane2 = f.tandem2
tandem_factor f Lane3 = f.tandem3
tandem_factor f Other = 0

abbrev pub uniform_factor : Factors → Owner → ℕ
uniform_factor f Remaining = f.remaining
uniform_factor f Lane1 = f.uniform1
uniform_factor f Lane2 = f.uniform2
uniform_factor f Lane3 = f.uniform3
uniform_factor f Other = f.others

-- what 10,000 times the ordinates under both axles counts for
abbrev pub tandem_weight : LoadKind → Factors → Owner → ℕ
tandem_weight kind f o = tandem_load kind o * tandem_factor f o

-- what twice the loaded area counts for
abbrev pub uniform_weight : LoadKind → Factors → Owner → ℕ
uniform_weight kind f o = uniform_load kind o * uniform_factor f o
