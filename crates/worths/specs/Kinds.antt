-- The two kinds of worth: an effect alone, and an effect and then a kerb count.
use Rattle.std.specs.Prelude.{◌||◌, ◌&&◌, ℕ, ◌+◌, eqb, ltb}
use Rattle.placing.specs.Kind.{Kind}
use Rattle.worths.specs.declared.kerbed.Kerbed.{Kerbed}

abbrev pub effect_kind : Kind ℕ
effect_kind = record { zero = 0; sum = ◌+◌; below = ltb; weight = λ x. x }

abbrev pub kerbed : ℕ → ℕ → Kerbed
kerbed e k = record { effect = e; kerb = k }

abbrev pub kerbed_kind : Kind Kerbed
kerbed_kind = record {
  zero = kerbed 0 0;
  sum = λ x y. kerbed (x.effect + y.effect) (x.kerb + y.kerb);
  below = λ x y. ltb x.effect y.effect || (eqb x.effect y.effect && ltb x.kerb y.kerb);
  weight = λ x. x.effect + x.kerb;
}
