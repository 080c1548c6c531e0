use Rattle.std.proofs.Common.{◌≡◌, ℕ, List, true, is_ok, sym, ap, ◌∙◌, subst}
use Rattle.measured.specs.Rows.{rows_shape}
use Rattle.measured.specs.declared.layout.Layout.{Layout}
use Rattle.measured.specs.declared.row.Row.{Row}
use Rattle.survey.specs.Extents.{Extends}
use Rattle.survey.proofs.Sealing.{settled}
use Rattle.survey.proofs.survey.sealed_extent.Goals as goal

pub returns : goal.returns
returns c =
    let into = c.seal.new.into in
    let d = c.args.draft in
    let r = c.extent_of.result in
    let ok : is_ok c.seal.result ≡ true = sym c.map_err.ensures.variant ∙ ap is_ok c.in_ok-map_err.was in
    let s = settled _ _ c.seal.result _ _ ok c.seal.ensures in
    let a = subst (λ (l : Layout). Extends (rows_shape l.slices l.count l.paths into.stations into.rows.now) r) s.1.0 c.extent_of.ensures in
    let b = subst (λ (t : ℕ). Extends (rows_shape d.layout.slices d.layout.count d.layout.paths t into.rows.now) r) s.1.1 a in
    (s.0, subst (λ (rs : List Row). Extends (rows_shape d.layout.slices d.layout.count d.layout.paths d.filled rs) r) s.1.2 b)
