-- What a run leaves: the text that is to be printed, if there was memory for it, and the duty that is still open.
use Rattle.std.specs.Prelude.{ℕ, List, Option, string_bytes}
use Rattle.statement.specs.Runs.{Duty, duty_told}
use Rattle.scripted.specs.Runs.{bytes_in}
use Rattle.scripted.specs.declared.ran.Ran.{Ran}

abbrev pub text_left : Ran → Option (List ℕ)
text_left r = bytes_in string_bytes r.text

abbrev pub duty_left_by : Ran → Option Duty
duty_left_by r = duty_told (λ d. d.number) (λ d. d.serial) r.duty
