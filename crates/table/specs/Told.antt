-- What a fault tells its reader: number, layer, record and field, by one definition, and the line that tells them.
use Rattle.std.specs.Prelude.{ℕ, List, ◌++◌, codes, decimal}
use Rattle.table.specs.declared.fault.Layer.{Layer}
use Rattle.table.specs.declared.fault.Layer.TheVariants.{Text, Surface, Job}
use Rattle.table.specs.declared.fault.Report.{Report}
use Rattle.table.specs.declared.fault.TextFault.{TextFault}
use Rattle.table.specs.declared.fault.TextFault.TheVariants.{Malformed, TooLong}

abbrev pub telling : ℕ → Layer → ℕ → ℕ → Report
telling n l r f = record { number = n; layer = l; «record» = r; field = f }

-- refusal 1, of the text layer: at the record and field of what is malformed; over-long input has no place
abbrev pub text_told : TextFault → Report
text_told (Malformed r f) = telling 1 Text r f
text_told TooLong = telling 1 Text 0 0

abbrev pub layer_word : Layer → List ℕ
layer_word Text = codes "text"
layer_word Surface = codes "surface"
layer_word Job = codes "job"

-- refused,number,layer,record,field
abbrev pub told_text : Report → List ℕ
told_text r = codes "refused," ++ (decimal r.number ++ (codes "," ++ (layer_word r.layer ++ (codes "," ++ (decimal r.«record» ++ (codes "," ++ decimal r.field))))))

-- the line of a refusal
abbrev pub refusal_text : Report → List ℕ
refusal_text r = told_text r ++ codes "\n"
