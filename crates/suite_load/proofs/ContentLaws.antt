-- Reading a text unit by unit gives what the text stands for.
use Rattle.std.proofs.Common.{◌≡◌, ℕ, Bool, true, false, cond, eqb, List, [], ◌∷◌, ◌++◌, length, Option, Some, None, refl, sym, ap, arith, append_assoc, append-nil}
use Rattle.std.specs.Option.{option_map}
use Rattle.std.proofs.lemmas.Bool.{eqb-true}
use Rattle.suite_load.specs.ContentForm.{content_of, unit_at, onto}

-- the units of the rest after one unit
abbrev pub units_after : Option (ℕ × List ℕ) → Option (List ℕ)
units_after None = None
units_after (Some x) = onto x.0 (content_of x.1)

by_byte : (b c : ℕ) (cs : List ℕ) (escape : Bool) → eqb b 92 ≡ escape → content_of (b ∷ c ∷ cs) ≡ units_after (unit_at (b ∷ c ∷ cs))
unfolding content_of unit_at
by_byte b c cs false e = rw e refl
by_byte b c cs true e = rw e (by_next c cs (eqb c 110) (eqb c 92) refl refl)
  where
    by_next : (c : ℕ) (cs : List ℕ) (feed slash : Bool) → eqb c 110 ≡ feed → eqb c 92 ≡ slash
        → cond (eqb c 110) (onto 10 (content_of cs)) (cond (eqb c 92) (onto 92 (content_of cs)) None) ≡ units_after (cond (eqb c 110) (Some (10, cs)) (cond (eqb c 92) (Some (92, cs)) None))
    by_next c cs true slash f s = rw f refl
    by_next c cs false true f s = rw (f, s) refl
    by_next c cs false false f s = rw (f, s) refl

one_byte : (b : ℕ) (escape : Bool) → eqb b 92 ≡ escape → content_of (b ∷ []) ≡ units_after (unit_at (b ∷ []))
unfolding content_of unit_at
one_byte b true e = rw e refl
one_byte b false e = rw e refl

pub content_by_units : (rest : List ℕ) → eqb (length rest) 0 ≡ false → content_of rest ≡ units_after (unit_at rest)
content_by_units [] h = absurd cc
content_by_units (b ∷ []) h = one_byte b (eqb b 92) refl
content_by_units (b ∷ c ∷ cs) h = by_byte b c cs (eqb b 92) refl

-- what stands before the units of the rest
pub with_front : List ℕ → Option (List ℕ) → Option (List ℕ)
with_front front units = option_map (λ us. front ++ us) units

pub front_grows : (front : List ℕ) (rest : List ℕ) (unit : ℕ) (more : List ℕ) → eqb (length rest) 0 ≡ false → unit_at rest ≡ Some (unit, more) → with_front front (content_of rest) ≡ with_front (front ++ unit ∷ []) (content_of more)
unfolding with_front
front_grows front rest unit more h u = rw (content_by_units rest h, u) (by (content_of more))
  where
    by : (units : Option (List ℕ)) → option_map (λ us. front ++ us) (onto unit units) ≡ option_map (λ us. (front ++ unit ∷ []) ++ us) units
    by None = refl
    by (Some us) = ap Some (sym (append_assoc front (unit ∷ []) us))

pub front_fails : (front : List ℕ) (rest : List ℕ) → eqb (length rest) 0 ≡ false → unit_at rest ≡ None → with_front front (content_of rest) ≡ None
unfolding with_front
front_fails front rest h u = rw (content_by_units rest h, u) refl

pub front_ends : (front : List ℕ) (rest : List ℕ) → eqb (length rest) 0 ≡ true → with_front front (content_of rest) ≡ Some front
unfolding with_front content_of
front_ends front [] h = ap Some (append-nil front)
front_ends front (b ∷ bs) h = absurd (omega (arith, eqb-true (length (b ∷ bs)) 0 h))

pub front_starts : (text : List ℕ) → with_front [] (content_of text) ≡ content_of text
unfolding with_front
front_starts text = by (content_of text)
  where
    by : (units : Option (List ℕ)) → option_map (λ us. [] ++ us) units ≡ units
    by None = refl
    by (Some us) = refl
