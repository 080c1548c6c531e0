use Rattle.std.proofs.Common.{◌≡◌, ℕ, zero, suc, ◌++◌, ◌∷◌, ◌-◌, ◌<◌, ℤ, map, length, get_or, replicate, pos, nat_abs, refl, sym, ap, ◌∙◌, arith, rules, w32, to_z, of_z}
use Rattle.std.proofs.lemmas.List.{same_lists, length-map, get_or-map, length-append, length-replicate, map-append}
use Rattle.measured.specs.Judged.{laid_paths}
use Rattle.measured.proofs.Sound.{header_sound, paths_counted}
use Rattle.measured.proofs.layout.Layout.new.Goals as goal

none : (n : ℕ) → map nat_abs (replicate n (pos 0)) ≡ replicate n 0
none zero = refl
none (suc n) = ap (λ zs. 0 ∷ zs) (none n)

-- the places of the map, each with the size of the padded list's element
laid : (c : goal.After-map) → c.map.result ≡ laid_paths c.args.paths.now
laid c =
    let ps = c.args.paths.now in
    let zeros = replicate (8 - length ps) (pos 0) in
    let few = paths_counted (to_z w32 (of_z w32 c.args.slices)) ps _ c.in_ok-check_header.ensures in
    let long : length (ps ++ zeros) ≡ 8 = simp (length-append, length-replicate) (omega arith) in
    let each : (k d : ℕ) → k < length c.map.result → get_or c.map.result k d ≡ get_or (map nat_abs (ps ++ zeros)) k d = λ k d h.
    let a = (c.map.ensures.items.at k (pos 0) d (omega (arith, c.map.ensures.items.long))).2 in
    let b : get_or c.map.result k d ≡ nat_abs (get_or c.padded.result k (pos 0)) = search rules in
    b ∙ ap (λ xs. nat_abs (get_or xs k (pos 0))) c.padded.ensures ∙ sym (get_or-map nat_abs (ps ++ zeros) k (pos 0) d (omega (arith, c.map.ensures.items.long))) in
    same_lists _ _ (c.map.ensures.items.long ∙ sym (length-map (ps ++ zeros) nat_abs ∙ long)) each ∙ map-append nat_abs ps zeros ∙ ap (λ zs. map nat_abs ps ++ zs) (none (8 - length ps))

pub invariant_of-result : goal.invariant_of-result
invariant_of-result c =
    let n : ℤ = to_z w32 (of_z w32 c.args.slices) in
    record { ok = simp (laid c) (header_sound n c.args.paths.now _ c.in_ok-check_header.ensures) }

pub returns : goal.returns
returns c = let e = laid c.before in search rules
