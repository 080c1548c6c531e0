-- What is asked for leaves no choice of figure, owners or tandems: two programs that keep the promise report the same.
use Rattle.std.specs.Prelude.{◌≡◌, ℕ, ◌+◌, ◌≤◌, List, length}
use Rattle.surface.specs.Shape.{Shape}
use Rattle.card.specs.declared.answers.Answer.{Answer}
use Rattle.card.specs.declared.calls.Call.{Call}
use Rattle.model.specs.Lanes.{breadth}
use Rattle.model.specs.declared.lanes.Carriageway.{Carriageway}
use Rattle.model.specs.declared.tandems.Tandem.{Tandem}
use Rattle.placing.specs.Kind.{Kind}
use Rattle.statement.specs.Effects.{Setting, lane_width, Tandems}
use Rattle.statement.specs.Figures.{Figured}
use Rattle.statement.specs.Runs.{Met, AllAlike}

-- two figures in one setting are the same, also where two kinds of worth found their winners, as figure's and drawing's do
abbrev pub OneFigure : {W V : Type 0} → Kind W → (ℕ → ℕ → W) → Kind V → (ℕ → ℕ → V) → Type 0
OneFigure K made L formed = (g : Setting) (figure other : ℕ) (tandems others : ℕ → Tandem) (owners shown : List ℕ) → Figured K made g figure tandems owners → Figured L formed g other others shown → figure ≡ other

-- two winners by the same kind of worth have the same owners
abbrev pub OneWinner : {W : Type 0} → Kind W → (ℕ → ℕ → W) → Type 0
OneWinner K made = (g : Setting) (figure other : ℕ) (tandems others : ℕ → Tandem) (owners shown : List ℕ) → Figured K made g figure tandems owners → Figured K made g other others shown → owners ≡ shown

-- every slice at which a lane may begin has one T and one place
abbrev pub OneTandem : Type 0
OneTandem = (g : Setting) (tandems others : ℕ → Tandem) → Tandems g tandems → Tandems g others → (x : ℕ) → x + lane_width g ≤ breadth g.kerbs → tandems x ≡ others x

-- and two runs of the same calls refuse alike and report the same figures
abbrev pub OneRun : Type 0
OneRun = (s : Shape) (number : ℕ) (kerbs : Carriageway) (calls : List Call) (answers others : List Answer) → Met s number kerbs calls answers → Met s number kerbs calls others → AllAlike (length calls) answers others
