-- The numbers of a record's fields, one field at a time, of a kind V where `W bs v` says that the bytes bs write v.
use Rattle.std.proofs.Common.{◌≡◌, ℕ, ◌+◌, ◌<◌, ◌≤◌, List, [], ◌∷◌, ◌++◌, length, get_or, take, drop, set, sym, refl, ap, ◌∙◌, subst, ⊎_elim, arith}
use Rattle.std.proofs.lemmas.List.{append_assoc, take-append-le, take_more, drop_more, take_all, drop_all, set_at, set_past, get_or_append_left, get_or-take, length-append, length-take, length-take-le, length_push, length-drop}
use Rattle.std.proofs.lemmas.Bool.{cases_lt}
use Rattle.table.specs.Cells.{Cell, plain, cell_of, content, MalformedAt}
use Rattle.table.specs.Lines.{Line, FieldRead}
use Rattle.table.specs.declared.field.FieldEnd.{FieldEnd}
use Rattle.table.proofs.Chains.{line_stands}
use Rattle.table.proofs.SecondPass.{pass_same, pass_more}
use Rattle.records.specs.Numbers.{Written, Unwritten, Taken, FilledBy}

-- i fields are read, the first of their numbers are held, and the record of those that are left begins at byte p
pub record Progress {V : Type 0} (W : List ℕ → V → Type 0) (room : ℕ) (cs : List Cell) (ys : List ℕ) (input : List ℕ) (i p : ℕ) (into : List V) : Type 0 where
  pub numbers : List V
  pub written : Written W (take i cs) numbers
  pub held : into ≡ take room numbers
  pub line : i < length cs → Line (drop i cs) (drop p input) ys

-- the same, where the numbers that are held stand in the first places of a list that was `old`, and what stood past them stays
pub record Filling {V : Type 0} (W : List ℕ → V → Type 0) (cs : List Cell) (ys : List ℕ) (input : List ℕ) (i p : ℕ) (old into : List V) : Type 0 where
  pub held : List V
  pub progress : Progress W (length old) cs ys input i p held
  pub filled : into ≡ held ++ drop (length held) old

-- a field that is read where a record begins is its first, and the others follow it
pub first_read : (t : Cell) (us : List Cell) {xs ys : List ℕ} {at rec fld : ℕ} {e : FieldEnd} → Line (t ∷ us) (drop at xs) ys → FieldRead xs at rec fld e
    → (cell_of e.field.text ≡ t) × (0 < length us → (e.next < length xs) × Line us (drop (e.next + 1) xs) ys)
first_read t [] l k = (pass_same t [] l k, λ h. absurd (omega arith))
first_read t (u ∷ us) l k = let p = pass_more t u us l k in (pass_same t (u ∷ us) l k, λ h. (p.inside, p.others))

module _ {V : Type 0} (W : List ℕ → V → Type 0) where
  pub written_length : (cs : List Cell) (vs : List V) → Written W cs vs → length vs ≡ length cs
  written_length [] [] w = refl
  written_length [] (v ∷ vs) w = absurd w
  written_length (c ∷ cs) [] w = absurd w
  written_length (c ∷ cs) (v ∷ vs) w = let h = written_length cs vs w.1 in omega arith

  written_push : (cs : List Cell) (vs : List V) (c : Cell) (v : V) → Written W cs vs → W (content c) v → Written W (cs ++ (c ∷ [])) (vs ++ (v ∷ []))
  written_push [] [] c v w h = (h, tt)
  written_push [] (u ∷ us) c v w h = absurd w
  written_push (d ∷ ds) [] c v w h = absurd w
  written_push (d ∷ ds) (u ∷ us) c v w h = (w.0, written_push ds us c v w.1 h)

  pub progress_none : (room : ℕ) (cs : List Cell) (ys input : List ℕ) (p : ℕ) → Line cs (drop p input) ys → Progress W room cs ys input 0 p []
  progress_none room cs ys input p l = record { numbers = []; written = tt; held = sym (take_all room [] (omega arith)); line = λ h. l }

  pub progress_all : (room : ℕ) (cs : List Cell) (ys input : List ℕ) (i p : ℕ) (into : List V) → length cs ≤ i → Progress W room cs ys input i p into → Taken W room cs into
  progress_all room cs ys input i p into h g = record { numbers = g.numbers; written = subst (λ (l : List Cell). Written W l g.numbers) (take_all i cs h) g.written; held = g.held }

  module _ (room : ℕ) (cs : List Cell) (ys input : List ℕ) (i p : ℕ) (into : List V) (g : Progress W room cs ys input i p into) (h : i < length cs) where
    here : Line (get_or cs i (plain []) ∷ drop (i + 1) cs) (drop p input) ys
    here = subst (λ (l : List Cell). Line l (drop p input) ys) (drop_more cs i (plain []) h) (g.line h)

    pub progress_stands : MalformedAt (drop p input) → ⊥
    progress_stands m = line_stands (drop i cs) (g.line h) m

    -- the field that is read next is field i
    pub progress_field : {r f : ℕ} {e : FieldEnd} → FieldRead input p r f e → cell_of e.field.text ≡ get_or cs i (plain [])
    progress_field k = (first_read (get_or cs i (plain [])) (drop (i + 1) cs) here k).0

    -- it writes no number
    pub progress_missed : {r f : ℕ} {e : FieldEnd} → FieldRead input p r f e → ((v : V) → W (content (cell_of e.field.text)) v → ⊥) → Unwritten W cs i
    progress_missed k none = record {
      before = g.numbers;
      numbers = g.written;
      within = h;
      none = subst (λ (c : Cell). (v : V) → W (content c) v → ⊥) (progress_field k) none;
    }

    -- it writes a number, which is held if there is room
    pub progress_more : {r f : ℕ} {e : FieldEnd} (v : V) (next : ℕ) (held : List V) → FieldRead input p r f e → W (content (cell_of e.field.text)) v
        → (e.next < length input → next ≡ e.next + 1) → held ≡ take room (g.numbers ++ (v ∷ [])) → Progress W room cs ys input (i + 1) next held
    progress_more {e = e} v next held k w step kept = record {
      numbers = g.numbers ++ (v ∷ []);
      written = subst (λ (l : List Cell). Written W l (g.numbers ++ (v ∷ []))) (sym (take_more cs i (plain []) h)) (written_push (take i cs) g.numbers (get_or cs i (plain [])) v g.written (subst (λ (c : Cell). W (content c) v) (progress_field k) w));
      held = kept;
      line = λ more.
          let rest = (first_read (get_or cs i (plain [])) (drop (i + 1) cs) here k).1 (simp length-drop (omega arith)) in
          subst (λ (n : ℕ). Line (drop (i + 1) cs) (drop n input) ys) (sym (step rest.0)) rest.1;
    }

    count : length g.numbers ≡ i
    count = written_length (take i cs) g.numbers g.written ∙ length-take-le i cs (omega arith)

    -- the number is the next that is held
    pub held_more : (v : V) → length into < room → into ++ (v ∷ []) ≡ take room (g.numbers ++ (v ∷ []))
    held_more v free =
        let short = length-take room g.numbers in
        let size = ap length g.held in
        let long = length_push g.numbers v in
        ap (λ (l : List V). l ++ (v ∷ [])) (g.held ∙ take_all room g.numbers (omega arith)) ∙ sym (take_all room (g.numbers ++ (v ∷ [])) (omega arith))

    -- there is no room for the number
    pub held_past : (v : V) → length into ≡ room → into ≡ take room (g.numbers ++ (v ∷ []))
    held_past v full =
        let short = length-take room g.numbers in
        let size = ap length g.held in
        g.held ∙ sym (take-append-le room g.numbers (v ∷ []) (omega arith))

    -- the number is the next that is held, if there is room for it
    pub held_next : (v : V) → take room (into ++ (v ∷ [])) ≡ take room (g.numbers ++ (v ∷ []))
    held_next v =
        let short = length-take room g.numbers in
        let size = ap length g.held in
        let long = length_push into v in
        ⊎_elim
        (λ free. take_all room (into ++ (v ∷ [])) (omega arith) ∙ held_more v free)
        (λ full. take-append-le room into (v ∷ []) full ∙ take_all room into (omega arith) ∙ held_past v (omega arith))
        (cases_lt (length into) room)

  pub filling_none : (cs : List Cell) (ys input : List ℕ) (p : ℕ) (old : List V) → Line cs (drop p input) ys → Filling W cs ys input 0 p old old
  filling_none cs ys input p old l = record { held = []; progress = progress_none (length old) cs ys input p l; filled = refl }

  past_held : (old vs : List V) → drop (length (take (length old) vs)) old ≡ drop (length vs) old
  past_held old vs = ⊎_elim
      (λ less. ap (λ (l : List V). drop (length l) old) (take_all (length old) vs (omega arith)))
      (λ ge. let e = length-take-le (length old) vs ge in drop_all _ old (omega arith) ∙ sym (drop_all _ old ge))
      (cases_lt (length vs) (length old))

  pub filling_all : (cs : List Cell) (ys input : List ℕ) (i p : ℕ) (old into : List V) → length cs ≤ i → Filling W cs ys input i p old into → FilledBy W cs old into
  filling_all cs ys input i p old into h g =
      let t = progress_all (length old) cs ys input i p g.held h g.progress in
      record {
        numbers = t.numbers;
        written = t.written;
        filled = g.filled ∙ ap (λ (l : List V). l ++ drop (length l) old) t.held ∙ ap (λ (l : List V). take (length old) t.numbers ++ l) (past_held old t.numbers);
      }

  module _ (cs : List Cell) (ys input : List ℕ) (i p : ℕ) (old into : List V) (g : Filling W cs ys input i p old into) (h : i < length cs) where
    size : (length g.progress.numbers ≡ i) × (length g.held ≡ length (take (length old) g.progress.numbers))
    size = (count (length old) cs ys input i p g.held g.progress h, ap length g.progress.held)

    -- the number is put in its place, if there is one
    pub filling_more : {r f : ℕ} {e : FieldEnd} (v : V) (next : ℕ) → FieldRead input p r f e → W (content (cell_of e.field.text)) v
        → (e.next < length input → next ≡ e.next + 1) → Filling W cs ys input (i + 1) next old (set into i v)
    filling_more v next k w step = ⊎_elim free full (cases_lt i (length old))
      where
        free : i < length old → Filling W cs ys input (i + 1) next old (set into i v)
        free lt =
            let short = length-take (length old) g.progress.numbers in
            let n : length g.held ≡ i = omega (arith, size.0, size.1) in
            let d = get_or old i v in
            let rest = drop (i + 1) old in
            let here : into ≡ g.held ++ (d ∷ rest) = g.filled ∙ ap (λ (l : List V). g.held ++ l) (ap (λ (m : ℕ). drop m old) n ∙ drop_more old i v lt) in
            let long = length_push g.held v in
            let more : length (g.held ++ (v ∷ [])) ≡ i + 1 = omega arith in
            record {
              held = g.held ++ (v ∷ []);
              progress = progress_more (length old) cs ys input i p g.held g.progress h v next (g.held ++ (v ∷ [])) k w step (held_more (length old) cs ys input i p g.held g.progress h v (omega arith));
              filled = ap (λ (l : List V). set l i v) here ∙ set_at g.held d rest v i n ∙ sym (append_assoc g.held (v ∷ []) rest) ∙ sym (ap (λ (m : ℕ). (g.held ++ (v ∷ [])) ++ drop m old) more);
            }

        full : length old ≤ i → Filling W cs ys input (i + 1) next old (set into i v)
        full ge =
            let short = length-take (length old) g.progress.numbers in
            let n : length g.held ≡ length old = omega (arith, size.0, size.1) in
            let whole = ap length g.filled ∙ length-append g.held (drop (length g.held) old) in
            let none = length-drop (length g.held) old in
            record {
              held = g.held;
              progress = progress_more (length old) cs ys input i p g.held g.progress h v next g.held k w step (held_past (length old) cs ys input i p g.held g.progress h v n);
              filled = set_past into i v (omega arith) ∙ g.filled;
            }

module _ {V : Type 0} {W : List ℕ → V → Type 0} {cs : List Cell} {old into : List V} where
  -- each number that has a place stands in it
  pub filled_at : (f : FilledBy W cs old into) (d : V) (k : ℕ) → k < length f.numbers → k < length old → get_or into k d ≡ get_or f.numbers k d
  filled_at f d k low few =
      let short = length-take (length old) f.numbers in
      ap (λ (l : List V). get_or l k d) f.filled ∙ get_or_append_left (take (length old) f.numbers) (drop (length f.numbers) old) d k (omega arith) ∙ get_or-take (length old) f.numbers k d few

module _ {V : Type 0} {W : List ℕ → V → Type 0} {room : ℕ} {cs : List Cell} {into : List V} where
  -- all numbers are held, if there is room for them
  pub taken_whole : Taken W room cs into → length cs ≤ room → Written W cs into
  taken_whole t few =
      let long = written_length W cs t.numbers t.written in
      subst (Written W cs) (sym (t.held ∙ take_all room t.numbers (omega arith))) t.written
