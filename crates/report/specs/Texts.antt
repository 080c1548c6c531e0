-- The words and cells that the lines are made of.
use Rattle.std.specs.Prelude.{ℕ, Bool, true, false, List, [], ◌∷◌, ◌++◌, Some, None, codes, decimal, Option}
use Rattle.std.specs.List.{flat_map}

-- the line of a job that was opened
abbrev pub opened_text : List ℕ
opened_text = codes "opened\n"

-- the calls that rate
abbrev pub figure_word : List ℕ
figure_word = codes "figure"

abbrev pub drawing_word : List ℕ
drawing_word = codes "drawing"

-- whether a duty is open
abbrev pub duty_word : Bool → List ℕ
duty_word true = codes "open"
duty_word false = codes "none"

-- a number, or nothing where it is absent
abbrev pub cell_text : Option ℕ → List ℕ
cell_text None = []
cell_text (Some n) = decimal n

-- three cells, with commas between them
abbrev pub cells_text : List ℕ → List ℕ → List ℕ → List ℕ
cells_text a b c = a ++ (codes "," ++ (b ++ (codes "," ++ c)))

-- a blank and a number
abbrev pub after_blank : ℕ → List ℕ
after_blank n = codes " " ++ decimal n

-- any number of numbers, with a blank between each two
abbrev pub spaced : List ℕ → List ℕ
spaced [] = []
spaced (n ∷ ns) = decimal n ++ flat_map after_blank ns
