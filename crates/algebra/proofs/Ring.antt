-- Polynomials over ℤ by reflection: two expressions with one normal form have one value.
use Rattle.std.proofs.Common.{◌≡◌, ℕ, zero, suc, ◌+◌, ◌*◌, Bool, true, false, T, eqb, ltb, List, [], ◌∷◌, get_or, ℤ, pos, negsuc, ◌+ℤ◌, ◌-ℤ◌, ◌*ℤ◌, neg_ℤ, ◌≤ℤ◌, sym, refl, ap, ◌∙◌, ap₂, arith, eqb→eq}
use Rattle.std.proofs.lemmas.Int.{ints}
use lib.IntN.{+ℤ_assoc, +ℤ_idl, +ℤ_idr, *ℤ_comm, zero-*ℤ, *ℤ-zero}
use borrow.Author.Differences.{up, down, same_in, sum_is_lem, neg_is, product_is}
use Rattle.algebra.proofs.IntLaws.{*ℤ-assoc, *ℤ-left, *ℤ-add, *ℤ-add', one-*ℤ, up_product, down_product}

infixl 6 ◌:+◌ ◌:-◌
infixl 7 ◌:*◌
pub data Exp : Type 0 where
  num : ℤ → Exp
  var : ℕ → Exp
  ◌:+◌ : Exp → Exp → Exp
  ◌:-◌ : Exp → Exp → Exp
  ◌:*◌ : Exp → Exp → Exp

abbrev pub eval : List ℤ → Exp → ℤ
eval ρ (num z) = z
eval ρ (var i) = get_or ρ i (pos 0)
eval ρ (a :+ b) = eval ρ a +ℤ eval ρ b
eval ρ (a :- b) = eval ρ a -ℤ eval ρ b
eval ρ (a :* b) = eval ρ a *ℤ eval ρ b

-- a monomial is the sorted list of its variables; a polynomial a sorted list of terms
pub record Term : Type 0 where
  pub coef : ℤ
  pub mono : List ℕ

abbrev ins : ℕ → List ℕ → List ℕ
ins i [] = i ∷ []
ins i (j ∷ k) = elim (ltb j i) [ true ↦ j ∷ ins i k | false ↦ i ∷ (j ∷ k) ]

abbrev join : List ℕ → List ℕ → List ℕ
join [] k = k
join (i ∷ m) k = ins i (join m k)

pub data Cmp : Type 0 where
  lt eq gt : Cmp

abbrev cmp : List ℕ → List ℕ → Cmp
cmp [] [] = eq
cmp [] (j ∷ k) = lt
cmp (i ∷ m) [] = gt
cmp (i ∷ m) (j ∷ k) = elim (eqb i j) [ true ↦ cmp m k | false ↦ elim (ltb i j) [ true ↦ lt | false ↦ gt ] ]

abbrev cons : ℤ → List ℕ → List Term → List Term
cons (pos zero) m q = q
cons (pos (suc n)) m q = record { coef = pos (suc n); mono = m } ∷ q
cons (negsuc n) m q = record { coef = negsuc n; mono = m } ∷ q

abbrev put : ℤ → List ℕ → List Term → List Term
put c m [] = cons c m []
put c m (t ∷ q) = elim (cmp m t.mono) [ lt ↦ cons c m (t ∷ q) | eq ↦ cons (c +ℤ t.coef) m q | gt ↦ t ∷ put c m q ]

abbrev add : List Term → List Term → List Term
add [] q = q
add (t ∷ p) q = put t.coef t.mono (add p q)

abbrev scale : ℤ → List ℕ → List Term → List Term → List Term
scale c m [] r = r
scale c m (t ∷ q) r = put (c *ℤ t.coef) (join m t.mono) (scale c m q r)

abbrev mul : List Term → List Term → List Term
mul [] q = []
mul (t ∷ p) q = scale t.coef t.mono q (mul p q)

abbrev pub norm : Exp → List Term
norm (num z) = cons z [] []
norm (var i) = cons (pos 1) (i ∷ []) []
norm (a :+ b) = add (norm a) (norm b)
norm (a :- b) = scale (negsuc 0) [] (norm b) (norm a)
norm (a :* b) = mul (norm a) (norm b)

-- ---- soundness
abbrev valM : List ℤ → List ℕ → ℤ
valM ρ [] = pos 1
valM ρ (i ∷ m) = get_or ρ i (pos 0) *ℤ valM ρ m

abbrev val_p : List ℤ → List Term → ℤ
val_p ρ [] = pos 0
val_p ρ (t ∷ p) = t.coef *ℤ valM ρ t.mono +ℤ val_p ρ p

ins_is : (ρ : List ℤ) (i : ℕ) (k : List ℕ) → valM ρ (ins i k) ≡ get_or ρ i (pos 0) *ℤ valM ρ k
ins_is ρ i [] = refl
ins_is ρ i (j ∷ k) =
    let ih = ins_is ρ i k in
    let x = get_or ρ i (pos 0) in
    let y = get_or ρ j (pos 0) in
    elim (ltb j i) as (λ b. valM ρ (elim b [ true ↦ j ∷ ins i k | false ↦ i ∷ (j ∷ k) ]) ≡ x *ℤ (y *ℤ valM ρ k))
    [ true ↦ ap (λ z. y *ℤ z) ih ∙ *ℤ-left y x (valM ρ k) | false ↦ refl ]

join_is : (ρ : List ℤ) (m k : List ℕ) → valM ρ (join m k) ≡ valM ρ m *ℤ valM ρ k
join_is ρ [] k = sym (one-*ℤ (valM ρ k))
join_is ρ (i ∷ m) k = ins_is ρ i (join m k) ∙ ap (λ z. get_or ρ i (pos 0) *ℤ z) (join_is ρ m k) ∙ sym (*ℤ-assoc (get_or ρ i (pos 0)) (valM ρ m) (valM ρ k))

cmp_ind : (m k : List ℕ) (P : Cmp → Type 0) → P lt → P gt → (m ≡ k → P eq) → P (cmp m k)
cmp_ind [] [] P l g e = e refl
cmp_ind [] (j ∷ k) P l g e = l
cmp_ind (i ∷ m) [] P l g e = g
cmp_ind (i ∷ m) (j ∷ k) P l g e = by (eqb i j) (eqb→eq i j) (cmp_ind m k P l g)
  where
    by : (b : Bool) → (T b → i ≡ j) → ((m ≡ k → P eq) → P (cmp m k)) → P (elim b [ true ↦ cmp m k | false ↦ elim (ltb i j) [ true ↦ lt | false ↦ gt ] ])
    by true h r = r (λ s. e (ap₂ (λ (x : ℕ) (y : List ℕ). x ∷ y) (h tt) s))
    by false h r = elim (ltb i j) as (λ b. P (elim b [ true ↦ lt | false ↦ gt ])) [ true ↦ l | false ↦ g ]

cons_is : (ρ : List ℤ) (c : ℤ) (m : List ℕ) (q : List Term) → val_p ρ (cons c m q) ≡ c *ℤ valM ρ m +ℤ val_p ρ q
cons_is ρ (pos zero) m q = sym (ap (λ z. z +ℤ val_p ρ q) (zero-*ℤ (valM ρ m)) ∙ +ℤ_idl (val_p ρ q))
cons_is ρ (pos (suc n)) m q = refl
cons_is ρ (negsuc n) m q = refl

shuffle : (a b c : ℤ) → a +ℤ (b +ℤ c) ≡ b +ℤ (a +ℤ c)
shuffle a b c = omega (arith, same_in, sum_is_lem)

put_is : (ρ : List ℤ) (c : ℤ) (m : List ℕ) (q : List Term) → val_p ρ (put c m q) ≡ c *ℤ valM ρ m +ℤ val_p ρ q
put_is ρ c m [] = cons_is ρ c m []
put_is ρ c m (t ∷ q) =
    let M = valM ρ m in
    let K = valM ρ t.mono in
    let Q = val_p ρ q in
    let ih = put_is ρ c m q in
    cmp_ind m t.mono (λ o. val_p ρ (elim o [ lt ↦ cons c m (t ∷ q) | eq ↦ cons (c +ℤ t.coef) m q | gt ↦ t ∷ put c m q ]) ≡ c *ℤ M +ℤ (t.coef *ℤ K +ℤ Q))
    (cons_is ρ c m (t ∷ q))
    (ap (λ z. t.coef *ℤ K +ℤ z) ih ∙ shuffle (t.coef *ℤ K) (c *ℤ M) Q)
    (λ e. cons_is ρ (c +ℤ t.coef) m q ∙ ap (λ z. z +ℤ Q) (*ℤ-add c t.coef M) ∙ +ℤ_assoc (c *ℤ M) (t.coef *ℤ M) Q
    ∙ ap (λ (z : List ℕ). c *ℤ M +ℤ (t.coef *ℤ valM ρ z +ℤ Q)) e)

add_is : (ρ : List ℤ) (p q : List Term) → val_p ρ (add p q) ≡ val_p ρ p +ℤ val_p ρ q
add_is ρ [] q = sym (+ℤ_idl (val_p ρ q))
add_is ρ (t ∷ p) q =
    put_is ρ t.coef t.mono (add p q) ∙ ap (λ z. t.coef *ℤ valM ρ t.mono +ℤ z) (add_is ρ p q)
    ∙ sym (+ℤ_assoc (t.coef *ℤ valM ρ t.mono) (val_p ρ p) (val_p ρ q))

four : (a b c d : ℤ) → (a *ℤ b) *ℤ (c *ℤ d) ≡ (a *ℤ c) *ℤ (b *ℤ d)
four a b c d = same_in _ _ (simp (up_product, down_product) (omega arith))

scale_is : (ρ : List ℤ) (c : ℤ) (m : List ℕ) (q r : List Term) → val_p ρ (scale c m q r) ≡ c *ℤ valM ρ m *ℤ val_p ρ q +ℤ val_p ρ r
scale_is ρ c m [] r = sym (ap (λ z. z +ℤ val_p ρ r) (*ℤ-zero (c *ℤ valM ρ m)) ∙ +ℤ_idl (val_p ρ r))
scale_is ρ c m (t ∷ q) r =
    let M = valM ρ m in
    let K = valM ρ t.mono in
    let Q = val_p ρ q in
    put_is ρ (c *ℤ t.coef) (join m t.mono) (scale c m q r)
    ∙ ap₂ (λ (x y : ℤ). x +ℤ y) (ap (λ z. c *ℤ t.coef *ℤ z) (join_is ρ m t.mono) ∙ four c t.coef M K) (scale_is ρ c m q r)
    ∙ sym (+ℤ_assoc ((c *ℤ M) *ℤ (t.coef *ℤ K)) (c *ℤ M *ℤ Q) (val_p ρ r))
    ∙ ap (λ z. z +ℤ val_p ρ r) (sym (*ℤ-add' (c *ℤ M) (t.coef *ℤ K) Q))

mul_is : (ρ : List ℤ) (p q : List Term) → val_p ρ (mul p q) ≡ val_p ρ p *ℤ val_p ρ q
mul_is ρ [] q = sym (zero-*ℤ (val_p ρ q))
mul_is ρ (t ∷ p) q =
    scale_is ρ t.coef t.mono q (mul p q) ∙ ap (λ z. t.coef *ℤ valM ρ t.mono *ℤ val_p ρ q +ℤ z) (mul_is ρ p q)
    ∙ sym (*ℤ-add (t.coef *ℤ valM ρ t.mono) (val_p ρ p) (val_p ρ q))

norm_is : (ρ : List ℤ) (e : Exp) → val_p ρ (norm e) ≡ eval ρ e
norm_is ρ (num z) = cons_is ρ z [] [] ∙ +ℤ_idr (z *ℤ pos 1) ∙ *ℤ_comm z (pos 1) ∙ one-*ℤ z
norm_is ρ (var i) = cons_is ρ (pos 1) (i ∷ []) [] ∙ +ℤ_idr _ ∙ one-*ℤ _ ∙ *ℤ_comm (get_or ρ i (pos 0)) (pos 1) ∙ one-*ℤ _
norm_is ρ (a :+ b) = add_is ρ (norm a) (norm b) ∙ ap₂ (λ (x y : ℤ). x +ℤ y) (norm_is ρ a) (norm_is ρ b)
norm_is ρ (a :- b) =
    scale_is ρ (negsuc 0) [] (norm b) (norm a) ∙ ap₂ (λ (x y : ℤ). negsuc 0 *ℤ pos 1 *ℤ x +ℤ y) (norm_is ρ b) (norm_is ρ a)
    ∙ less (eval ρ a) (eval ρ b)
  where
    less : (x y : ℤ) → negsuc 0 *ℤ pos 1 *ℤ y +ℤ x ≡ x -ℤ y
    less x y = omega (arith, same_in, sum_is_lem, neg_is, product_is)
norm_is ρ (a :* b) = mul_is ρ (norm a) (norm b) ∙ ap₂ (λ (x y : ℤ). x *ℤ y) (norm_is ρ a) (norm_is ρ b)

-- two expressions whose difference has the empty normal form have one value; `refl` proves the premise.
-- (Against `[]` antt only computes. A premise `norm a ≡ norm b` is compared step by step, and is some ten times dearer.)
pub ring : (ρ : List ℤ) (a b : Exp) → norm (a :- b) ≡ [] → eval ρ a ≡ eval ρ b
ring ρ a b e = go (eval ρ a) (eval ρ b) (sym (norm_is ρ (a :- b)) ∙ ap (val_p ρ) e)
  where
    go : (x y : ℤ) → x -ℤ y ≡ pos 0 → x ≡ y
    go x y e = omega (arith, ints)

-- an order, from one whose two sides differ by the same polynomial
pub moved : (ρ : List ℤ) (a b c d : Exp) → norm (b :- a :- (d :- c)) ≡ [] → eval ρ a ≤ℤ eval ρ b → eval ρ c ≤ℤ eval ρ d
moved ρ a b c d e h = go (eval ρ a) (eval ρ b) (eval ρ c) (eval ρ d) (ring ρ (b :- a) (d :- c) e) h
  where
    go : (x y z w : ℤ) → y -ℤ x ≡ w -ℤ z → x ≤ℤ y → z ≤ℤ w
    go x y z w e h = omega (arith, ints)

-- ---- an integer expression as a difference of two naturals, for `omega`
abbrev mutual
  pub U : List ℤ → Exp → ℕ
  U ρ (num z) = up z
  U ρ (var i) = up (get_or ρ i (pos 0))
  U ρ (a :+ b) = U ρ a + U ρ b
  U ρ (a :- b) = U ρ a + D ρ b
  U ρ (a :* b) = U ρ a * U ρ b + D ρ a * D ρ b

  pub D : List ℤ → Exp → ℕ
  D ρ (num z) = down z
  D ρ (var i) = down (get_or ρ i (pos 0))
  D ρ (a :+ b) = D ρ a + D ρ b
  D ρ (a :- b) = D ρ a + U ρ b
  D ρ (a :* b) = U ρ a * D ρ b + D ρ a * U ρ b

times : (x y : ℤ) (a b c d : ℕ) → up x + b ≡ down x + a → up y + d ≡ down y + c → up (x *ℤ y) + (a * d + b * c) ≡ down (x *ℤ y) + (a * c + b * d)
times x y a b c d h k =
    omega (arith, product_is x y, ap (λ z. z * up y) h, ap (λ z. z * down y) h, ap (λ z. z * a) k, ap (λ z. z * b) k)

pub differs : (ρ : List ℤ) (e : Exp) → up (eval ρ e) + D ρ e ≡ down (eval ρ e) + U ρ e
differs ρ (num z) = omega arith
differs ρ (var i) = omega arith
differs ρ (a :+ b) = omega (arith, differs ρ a, differs ρ b, sum_is_lem (eval ρ a) (eval ρ b))
differs ρ (a :- b) = omega (arith, differs ρ a, differs ρ b, sum_is_lem (eval ρ a) (neg_ℤ (eval ρ b)), neg_is (eval ρ b))
differs ρ (a :* b) = times (eval ρ a) (eval ρ b) (U ρ a) (D ρ a) (U ρ b) (D ρ b) (differs ρ a) (differs ρ b)
