use Rattle.scripted.specs.Runs as runs
use Rattle.scripted.proofs.answers.make_calls.Goals as goal

pub returns-in-Err : goal.returns-in-Err
returns-in-Err g c = runs.no_room
